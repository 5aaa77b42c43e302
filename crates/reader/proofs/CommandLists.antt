-- Commands one after the other: what the loop that reads them has still to do gives what all of it gave where it began.
-- Assumes nothing.
use Rattle.std.specs.Prelude.{Ok, Err}
use mathlib.Core.Path.{◌≡◌, refl, sym, ap, ◌∙◌, subst}
use mathlib.Core.List.{List, [], ◌∷◌, ◌++◌, append_assoc, append-nil, map, map-append}
use Prim.Native.Nat.{ℕ, suc, ◌+◌, ◌≤◌, ◌<◌}
use native.Mathlib.Omega.{arith}
use lib.ListN.{length, length-append, length-map}
use lib.Seq.{sets}
use borrow.Author.Tests.{ne_eqb}
use Rattle.notation.specs.Tokens.{Word, Name, Lexeme}
use Rattle.notation.specs.Notation.{Command}
use Rattle.notation.specs.Texts.{title_of}
use Rattle.notation.specs.Layout.{ends_from, joined}
use Rattle.notation.specs.working.Ledger.{Book}
use Rattle.notation.specs.working.Table as T
use Rattle.notation.specs.working.Table.{find, lines, skips}
use Rattle.notation.specs.working.Descent.{Got, got, stop, then_reads, reader, sequence}
use Rattle.notation.proofs.Readers.{reader_token, then_then, then_ruling}
use Rattle.statements.specs.declared.cursor.Cursor.{Cursor}
use Rattle.statements.specs.declared.cursor.Ledger.{Ledger}
use Rattle.refusals.specs.declared.Refusal.{Refusal}
use Rattle.lexer.specs.working.Kinds.{kind_number}
use Rattle.lexer.specs.working.Pieces.{listed}
use Rattle.statements.specs.working.Names.{shared_words, row_words}
use Rattle.statements.specs.working.Cursors.{book_of}
use Rattle.reader.specs.Read.{placed}
use Rattle.reader.specs.working.Commands.{with_commands, Naming, title_at, command_words, stars_in, commands_at, one_at, Arrays, WroteArrays, WroteCommands, stored_in, Commanded, CommandsSay}
use Rattle.statements.proofs.StoredCode.{sets-append, wrote_none, wrote_behind}
use Rattle.statements.proofs.Symbols.{listed-sign, passed}
use Rattle.reader.proofs.NameLists.{placed-append, named-same, named_behind}
use Rattle.reader.proofs.OneCommand.{kept-shared, kept_row}

-- ---- what is stored of two lists

pub joined-append : (ss ts : List (List ℕ)) → joined (ss ++ ts) ≡ joined ss ++ joined ts
unfolding joined
joined-append [] ts = refl
joined-append (s ∷ ss) ts = ap (λ (z : List ℕ). s ++ z) (joined-append ss ts) ∙ sym (append_assoc s (joined ss) (joined ts))

pub ends-append : (i : ℕ) (ss ts : List (List ℕ)) → ends_from i (ss ++ ts) ≡ ends_from i ss ++ ends_from (i + length (joined ss)) ts
unfolding joined ends_from
ends-append i [] ts = let z : i ≡ i + 0 = omega arith in ap (λ (k : ℕ). ends_from k ts) z
ends-append i (s ∷ ss) ts =
    let z : i + length s + length (joined ss) ≡ i + length (s ++ joined ss) = omega (arith, length-append s (joined ss)) in
    ap (λ (v : List ℕ). (i + length s) ∷ v) (ends-append (i + length s) ss ts ∙ ap (λ (k : ℕ). ends_from (i + length s) ss ++ ends_from k ts) z)

pub ends-length : (i : ℕ) (ss : List (List ℕ)) → length (ends_from i ss) ≡ length ss
unfolding ends_from
ends-length i [] = refl
ends-length i (s ∷ ss) = ap suc (ends-length (i + length s) ss)

module _ (ws vs : List Word) (l : Ledger) (i : ℕ) (xs ys : List Command) (s : Arrays) where
  abbrev codes : List Command → List (List ℕ)
  codes zs = map (command_words ws vs l.shared) zs

  pub stored-append : stored_in ws vs (with_commands (length xs) l) (i + length (joined (codes xs))) ys (stored_in ws vs l i xs s) ≡ stored_in ws vs l i (xs ++ ys) s
  stored-append = λ t. record { names = names t; ops = ops t; ends = ends t; stars = stars t }
    where
      names : placed (placed s.names (l.shared + l.row + l.commands) (map title_of xs)) (l.shared + l.row + (l.commands + length xs)) (map title_of ys)
          ≡ placed s.names (l.shared + l.row + l.commands) (map title_of (xs ++ ys))
      names =
          let z : l.shared + l.row + (l.commands + length xs) ≡ l.shared + l.row + l.commands + length (map title_of xs) = omega (arith, length-map xs title_of) in
          ap (λ (k : ℕ). placed (placed s.names (l.shared + l.row + l.commands) (map title_of xs)) k (map title_of ys)) z
          ∙ sym (placed-append (map title_of xs) (map title_of ys) s.names (l.shared + l.row + l.commands))
          ∙ ap (λ (ns : List Name). placed s.names (l.shared + l.row + l.commands) ns) (sym (map-append (title_of) xs ys))

      ops : sets (sets s.ops i (joined (codes xs))) (i + length (joined (codes xs))) (joined (codes ys)) ≡ sets s.ops i (joined (codes (xs ++ ys)))
      ops = sym (sets-append (joined (codes xs)) (joined (codes ys)) s.ops i)
          ∙ ap (λ (z : List ℕ). sets s.ops i z)
          (sym (joined-append (codes xs) (codes ys)) ∙ ap joined (sym (map-append (command_words ws vs l.shared) xs ys)))

      ends : sets (sets s.ends (4 + l.commands) (ends_from i (codes xs))) (4 + (l.commands + length xs))
          (ends_from (i + length (joined (codes xs))) (codes ys)) ≡ sets s.ends (4 + l.commands) (ends_from i (codes (xs ++ ys)))
      ends =
          let z : 4 + (l.commands + length xs) ≡ 4 + l.commands + length (ends_from i (codes xs)) = omega (arith, ends-length i (codes xs), length-map xs (command_words ws vs l.shared)) in
          ap (λ (k : ℕ). sets (sets s.ends (4 + l.commands) (ends_from i (codes xs))) k (ends_from (i + length (joined (codes xs))) (codes ys))) z
          ∙ sym (sets-append (ends_from i (codes xs)) (ends_from (i + length (joined (codes xs))) (codes ys)) s.ends (4 + l.commands))
          ∙ ap (λ (v : List ℕ). sets s.ends (4 + l.commands) v) (sym (ends-append i (codes xs) (codes ys)) ∙ ap (ends_from i) (sym (map-append (command_words ws vs l.shared) xs ys)))

      stars : sets (sets s.stars l.commands (map (stars_in ws vs) xs)) (l.commands + length xs) (map (stars_in ws vs) ys) ≡ sets s.stars l.commands (map (stars_in ws vs) (xs ++ ys))
      stars =
          let z : l.commands + length xs ≡ l.commands + length (map (stars_in ws vs) xs) = omega (arith, length-map xs (stars_in ws vs)) in
          ap (λ (k : ℕ). sets (sets s.stars l.commands (map (stars_in ws vs) xs)) k (map (stars_in ws vs) ys)) z
          ∙ sym (sets-append (map (stars_in ws vs) xs) (map (stars_in ws vs) ys) s.stars l.commands) ∙ ap (λ (v : List ℕ). sets s.stars l.commands v) (sym (map-append (stars_in ws vs) xs ys))

-- What a refusal leaves of the arrays: nothing more than before, or something behind commands that were stored.
pub arrays-same : {n i e k : ℕ} {s : Arrays} → WroteArrays n i e k s s
arrays-same = record { names = named-same refl; ops = wrote_none; ends = wrote_none; stars = wrote_none }

module _ (ws vs : List Word) (l l' : Ledger) (i j : ℕ) (xs : List Command) (s s' t : Arrays) where
  abbrev parts : List (List ℕ)
  parts = map (command_words ws vs l.shared) xs

  pub wrote_commands : s' ≡ stored_in ws vs l i xs s → l' ≡ with_commands (length xs) l → j ≡ i + length (joined parts) → WroteCommands l' j s' t → WroteCommands l i s t
  wrote_commands h e k w =
      let many : l'.commands ≡ l.commands + length xs = ap (λ (z : Ledger). z.commands) e in
      let shared : l'.shared ≡ l.shared = ap (λ (z : Ledger). z.shared) e in
      let row : l'.row ≡ l.row = ap (λ (z : Ledger). z.row) e in
      record {
        names = named_behind s.names s'.names t.names (l.shared + l.row + l.commands) (l'.shared + l'.row + l'.commands) (map title_of xs) (ap (λ (z : Arrays). z.names) h)
            (omega (arith, length-map xs title_of)) w.names;
        ops = wrote_behind s.ops s'.ops t.ops i j (joined parts) (ap (λ (z : Arrays). z.ops) h) k w.ops;
        ends = wrote_behind s.ends s'.ends t.ends (4 + l.commands) (4 + l'.commands) (ends_from i parts) (ap (λ (z : Arrays). z.ends) h)
            (omega (arith, ends-length i parts, length-map xs (command_words ws vs l.shared))) w.ends;
        stars = wrote_behind s.stars s'.stars t.stars l.commands l'.commands (map (stars_in ws vs) xs) (ap (λ (z : Arrays). z.stars) h)
            (omega (arith, length-map xs (stars_in ws vs))) w.stars;
      }

-- ---- the descent

module _ (text names : List ℕ) (l : Ledger) (c : Cursor) where
  -- the rest of the commands, after some
  abbrev more : List Command → List Lexeme → Book → Got (List Command)
  more xs ts b = then_reads (reader (length text) T.commands ts b) (λ ys ts b. got (xs ++ ys) ts b)

  pub commands-is : kind_number c.next.kind ≡ 5 → commands_at text names l c ≡ then_reads (one_at text names l c) more
  unfolding title_at sequence find lines skips
  commands-is u = rw (listed-sign text c.next 5 u (omega arith), reader_token (length text) T.commands) (simp (then_ruling, then_then))

  pub commands-end : (kind_number c.next.kind ≡ 5 → ⊥) → commands_at text names l c ≡ got [] (listed text c.next) (book_of text names l c)
  unfolding skips find lines
  commands-end u = passed text c.next T.commands (length text) (book_of text names l c) refl (rw (ne_eqb 5 (kind_number c.next.kind) (λ z. u (sym z))) refl) refl

-- ---- the loop

-- Some commands are read since the loop began, at l, c and s, and what is left to read gives what all of it gave.
pub record Going (text : List ℕ) (l : Ledger) (c : Cursor) (s : Arrays) (l' : Ledger) (c' : Cursor) (s' : Arrays) : Type 0 where
  pub tree : List Command
  pub says : commands_at text s.names l c ≡ more text s.names l c tree (listed text c'.next) (book_of text s'.names l' c')
  pub stored : s' ≡ stored_in (shared_words text s.names l) (row_words text s.names l) l c.emitted tree s
  pub place : c'.emitted ≡ c.emitted + length (joined (map (command_words (shared_words text s.names l) (row_words text s.names l) l.shared) tree))
  pub ledger : l' ≡ with_commands (length tree) l
  pub shared : shared_words text s'.names l' ≡ shared_words text s.names l
  pub row : row_words text s'.names l' ≡ row_words text s.names l
  pub naming : Naming text s'.names l' c'
  pub kind : kind_number c'.next.kind ≡ 5

-- Names stored further on leave the shared and the row words as they were.
module _ (text : List ℕ) (l : Ledger) where
  keep-shared : (ns : List Name) (names : List ℕ) (j : ℕ) → j + length ns ≤ 28 → l.shared ≤ j → shared_words text (placed names j ns) l ≡ shared_words text names l
  unfolding placed
  keep-shared [] names j h k = refl
  keep-shared (n ∷ ns) names j h k = keep-shared ns (placed names j (n ∷ [])) (suc j) (omega arith) (omega arith) ∙ kept-shared text names j n (omega arith) l k

  keep_row : (ns : List Name) (names : List ℕ) (j : ℕ) → j + length ns ≤ 28 → l.shared + l.row ≤ j → row_words text (placed names j ns) l ≡ row_words text names l
  unfolding placed
  keep_row [] names j h k = refl
  keep_row (n ∷ ns) names j h k = keep_row ns (placed names j (n ∷ [])) (suc j) (omega arith) (omega arith) ∙ kept_row text names j n (omega arith) l k

module _ (text : List ℕ) where
  pub going_none : (l : Ledger) (c : Cursor) (s : Arrays) → Naming text s.names l c → kind_number c.next.kind ≡ 5 → Going text l c s l c s
  unfolding placed joined ends_from
  going_none l c s g u = record {
    tree = [];
    says = go (commands_at text s.names l c);
    stored = refl;
    place = omega arith;
    ledger = let z : l.commands ≡ l.commands + 0 = omega arith in ap (λ (k : ℕ). record { shared = l.shared; row = l.row; commands = k }) z;
    shared = refl;
    row = refl;
    naming = g;
    kind = u;
  }
    where
      go : (o : Got (List Command)) → o ≡ then_reads o (λ ys ts b. got ys ts b)
      go (got xs ts b) = refl
      go (stop n i) = refl

  module _ (l : Ledger) (c : Cursor) (s : Arrays) (l' : Ledger) (c' : Cursor) (s' : Arrays) (h : Going text l c s l' c' s') where
    abbrev rest : Got (List Command) → Got (List Command)
    rest o = then_reads (then_reads o (more text s'.names l' c')) (λ ys ts b. got (h.tree ++ ys) ts b)

    goes : commands_at text s.names l c ≡ rest (one_at text s'.names l' c')
    goes = h.says ∙ ap (λ (o : Got (List Command)). then_reads o (λ ys ts b. got (h.tree ++ ys) ts b)) (commands-is text s'.names l' c' h.kind)

    pub going_bad : (q : Refusal) (t : Arrays) → CommandsSay text l' c' s' (one_at text s'.names l' c') t (Err q) → CommandsSay text l c s (commands_at text s.names l c) t (Err q)
    unfolding CommandsSay
    going_bad q t k = (
      goes ∙ ap rest k.0,
      wrote_commands (shared_words text s.names l) (row_words text s.names l) l l' c.emitted c'.emitted h.tree s s' t h.stored h.ledger h.place k.1,
    )

    module _ (t : Arrays) (d : Cursor) (k : Ledger) (x : CommandsSay text l' c' s' (one_at text s'.names l' c') t (Ok (d, k))) where
      one : Commanded text l' c' s' (one_at text s'.names l' c') t d k
      unfolding CommandsSay
      one = x

      abbrev ws : List Word
      ws = shared_words text s.names l

      abbrev vs : List Word
      vs = row_words text s.names l

      abbrev xs : List Command
      xs = h.tree ++ one.tree

      says_is : commands_at text s.names l c ≡ more text s.names l c xs (listed text d.next) (book_of text t.names k d)
      says_is = goes ∙ ap rest one.says ∙ go (reader (length text) T.commands (listed text d.next) (book_of text t.names k d))
        where
          go : (o : Got (List Command)) → then_reads (then_reads o (λ ys ts b. got (one.tree ++ ys) ts b)) (λ ys ts b. got (h.tree ++ ys) ts b) ≡ then_reads o (λ ys ts b. got (xs ++ ys) ts b)
          go (got ys ts b) = ap (λ (z : List Command). got z ts b) (sym (append_assoc h.tree one.tree ys))
          go (stop n i) = refl

      ledger-is : k ≡ with_commands (length xs) l
      ledger-is =
          let z : l.commands + length h.tree + length one.tree ≡ l.commands + length xs = omega (arith, length-append h.tree one.tree) in
          one.ledger ∙ ap (with_commands (length one.tree)) h.ledger ∙ ap (λ (m : ℕ). record { shared = l.shared; row = l.row; commands = m }) z

      -- the second list is stored where the first ends
      placed-is : t ≡ stored_in ws vs l' c'.emitted one.tree s'
      placed-is = one.stored ∙ ap (λ (z : List Word). stored_in z (row_words text s'.names l') l' c'.emitted one.tree s') h.shared
          ∙ ap (λ (z : List Word). stored_in ws z l' c'.emitted one.tree s') h.row

      stored_is : t ≡ stored_in ws vs l c.emitted xs s
      stored_is =
          placed-is ∙ ap (λ (z : Ledger). stored_in ws vs z c'.emitted one.tree s') h.ledger
          ∙ ap (λ (i : ℕ). stored_in ws vs (with_commands (length h.tree) l) i one.tree s') h.place
          ∙ ap (λ (z : Arrays). stored_in ws vs (with_commands (length h.tree) l) (c.emitted + length (joined (map (command_words ws vs l.shared) h.tree))) one.tree z) h.stored
          ∙ stored-append ws vs l c.emitted h.tree one.tree s

      abbrev codes' : List Command → List ℕ
      codes' zs = joined (map (command_words ws vs l.shared) zs)

      place_is : d.emitted ≡ c.emitted + length (codes' xs)
      place_is =
          let a : d.emitted ≡ c'.emitted + length (codes' one.tree) =
          one.place ∙ ap (λ (z : List Word). c'.emitted + length (joined (map (command_words z (row_words text s'.names l') l'.shared) one.tree))) h.shared
          ∙ ap (λ (z : List Word). c'.emitted + length (joined (map (command_words ws z l'.shared) one.tree))) h.row
          ∙ ap (λ (z : Ledger). c'.emitted + length (joined (map (command_words ws vs z.shared) one.tree))) h.ledger in
          let b : length (codes' xs) ≡ length (codes' h.tree) + length (codes' one.tree) =
          ap (λ (z : List (List ℕ)). length (joined z)) (map-append (command_words ws vs l.shared) h.tree one.tree)
          ∙ ap length (joined-append (map (command_words ws vs l.shared) h.tree) (map (command_words ws vs l.shared) one.tree))
          ∙ length-append (codes' h.tree) (codes' one.tree) in
          omega (arith, a, b, h.place)

      few : l'.shared + l'.row + l'.commands + length (map title_of one.tree) ≤ 28
      few =
          let a : l'.commands + length one.tree ≤ 16 = subst (λ (z : Ledger). z.commands ≤ 16) one.ledger one.naming.ready.commands in
          omega (arith, a, h.naming.ready.names, length-map one.tree title_of)

      shared-is : shared_words text t.names k ≡ ws
      shared-is =
          ap (λ (z : Ledger). shared_words text t.names z) one.ledger ∙ ap (λ (z : Arrays). shared_words text z.names (with_commands (length one.tree) l')) one.stored
          ∙ keep-shared text (with_commands (length one.tree) l') (map title_of one.tree) s'.names (l'.shared + l'.row + l'.commands) few (omega arith) ∙ h.shared

      row_is : row_words text t.names k ≡ vs
      row_is =
          ap (λ (z : Ledger). row_words text t.names z) one.ledger ∙ ap (λ (z : Arrays). row_words text z.names (with_commands (length one.tree) l')) one.stored
          ∙ keep_row text (with_commands (length one.tree) l') (map title_of one.tree) s'.names (l'.shared + l'.row + l'.commands) few (omega arith) ∙ h.row

      pub going_more : kind_number d.next.kind ≡ 5 → Going text l c s k d t
      going_more u = record { tree = xs; says = says_is; stored = stored_is; place = place_is; ledger = ledger-is; shared = shared-is; row = row_is; naming = one.naming; kind = u }

      -- one command more, and not too many
      pub going_less : (l'.commands < k.commands) × (k.commands ≤ 16)
      going_less = (subst (λ (z : Ledger). l'.commands < z.commands) (sym one.ledger) (omega (arith, one.some)), one.naming.ready.commands)

      pub going-stop : (kind_number d.next.kind ≡ 5 → ⊥) → CommandsSay text l c s (commands_at text s.names l c) t (Ok (d, k))
      unfolding CommandsSay
      going-stop u = record {
        tree = xs;
        some = omega (arith, one.some, length-append h.tree one.tree);
        says = says_is ∙ ap (λ (o : Got (List Command)). then_reads o (λ ys ts b. got (xs ++ ys) ts b)) (commands-end text t.names k d u)
            ∙ ap (λ (z : List Command). got z (listed text d.next) (book_of text t.names k d)) (append-nil xs);
        stored = stored_is;
        place = place_is;
        ledger = ledger-is;
        naming = one.naming;
      }

-- What was stored of commands that were read is what was written.
pub commanded_wrote : (text : List ℕ) (l : Ledger) (c : Cursor) (s : Arrays) (g : Got (List Command)) (t : Arrays) (d : Cursor) (k : Ledger) →
    Commanded text l c s g t d k → WroteCommands l c.emitted s t
commanded_wrote text l c s g t d k h =
    wrote_commands (shared_words text s.names l) (row_words text s.names l) l k c.emitted d.emitted h.tree s t t h.stored h.ledger h.place arrays-same
