-- What is put into a lent buffer part by part is put there as a whole, and has room there part by part.
-- Assumes nothing.
use mathlib.Core.Path.{◌≡◌, refl, ap, ◌∙◌}
use mathlib.Core.List.{List, [], ◌∷◌, ◌++◌}
use Prim.Native.Nat.{ℕ, ◌≤◌}
use native.Mathlib.Omega.{arith}
use lib.ListN.{length, length-append}
use lib.Seq.{sets}
use Rattle.io.specs.Counts.{IsPrefixLen}
use Rattle.io.proofs.Counting.{prefix_len_of_le}
use Rattle.lines.specs.declared.Writer.{Writer}
use Rattle.lines.specs.Lines.{word, others, line}
use Rattle.lines.specs.Puts.{Puts}
use Rattle.lines.specs.Writers.{HasRoom, Writes}
use Rattle.lines.proofs.Stores as S

-- Nothing is put.
pub nothing : {out : Writer} → Writes out [] out
nothing {out} = record { same = refl; puts = S.none }

-- More bytes behind those that were put.
pub behind : {s t u : Writer} {v w : List ℕ} → Writes s v t → Writes t w u → Writes s (v ++ w) u
behind P Q = record { same = Q.same ∙ P.same; puts = S.behind P.puts Q.puts }

-- Where there is room for bytes and more, there is room for those bytes, and then for the others behind them.
pub first-room : {s : Writer} (v w : List ℕ) → HasRoom s (v ++ w) → HasRoom s v
first-room v w f = record { room = omega (arith, f.room, length-append v w) }

pub rest-room : {s t : Writer} {v : List ℕ} (w : List ℕ) → Writes s v t → HasRoom s (v ++ w) → HasRoom t w
rest-room {s} {t} {v} w P f = record { room = omega (arith, f.room, length-append v w, P.puts.ends, S.keeps P.puts) }

-- A line begins with its first word.
module _ (w : List ℕ) (ws : List (List ℕ)) {s : Writer} where
  pub line-first : HasRoom s (line (w ∷ ws)) → HasRoom s w
  unfolding line
  line-first f = first-room w (others ws) f

  pub word-first : HasRoom s (others (w ∷ ws)) → HasRoom s (word w)
  unfolding others
  word-first f = first-room (word w) (others ws) f

  module _ {t : Writer} where
    pub line-rest : Writes s w t → HasRoom s (line (w ∷ ws)) → HasRoom t (others ws)
    unfolding line
    line-rest P f = rest-room (others ws) P f

    pub word-rest : Writes s (word w) t → HasRoom s (others (w ∷ ws)) → HasRoom t (others ws)
    unfolding others
    word-rest P f = rest-room (others ws) P f

    module _ {u : Writer} where
      pub line-put : Writes s w t → Writes t (others ws) u → Writes s (line (w ∷ ws)) u
      unfolding line
      line-put P Q = behind P Q

      pub word-put : Writes s (word w) t → Writes t (others ws) u → Writes s (others (w ∷ ws)) u
      unfolding others
      word-put P Q = behind P Q

-- The newline.
pub end-put : {s t : Writer} → Writes s (10 ∷ []) t → Writes s (others []) t
unfolding others
end-put P = P

pub end-room : {s : Writer} → HasRoom s (others []) → HasRoom s (10 ∷ [])
unfolding others
end-room f = f

-- A writer that nothing was put by, over a buffer with room for bytes: it has room for them, and once they are put they stand at the front and are counted there.
module _ (v : List ℕ) {room : List ℕ} {s : Writer} (same : s.room.now ≡ room) (none : s.len ≡ 0) (short : length v ≤ length room) where
  pub front-room : HasRoom s v
  front-room = record { room = omega (arith, ap length same) }

  pub front-put : {t : Writer} {r : ℕ} → Writes s v t → r ≡ t.len → Puts room 0 v t.room.now r × IsPrefixLen r t.room.now
  front-put {t} {r} P e =
      let stored : t.room.now ≡ sets room 0 v = P.puts.stored ∙ ap (λ l. sets l s.len v) same ∙ ap (λ k. sets room k v) none in
      (record { stored = stored; ends = omega (arith, P.puts.ends) }, prefix_len_of_le r t.room.now (omega (arith, ap length same, P.puts.ends, S.keeps P.puts)))
