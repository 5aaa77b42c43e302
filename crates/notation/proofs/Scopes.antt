-- The names that a text uses are among those that it declares, so those of its model are in range.
-- Assumes nothing.
use mathlib.Core.Path.{◌≡◌, refl, sym, ◌∙◌}
use mathlib.Core.Bool.{Bool, true, false, cond, false≢true, ◌&&◌, ◌||◌, or-false, or_assoc, and-false, and-or_distrib_left}
use mathlib.Core.List.{List, [], ◌∷◌, ◌++◌, map}
use mathlib.Core.Option.{Option, none, some}
use Prim.Native.Nat.{ℕ, suc, ◌<◌}
use native.Mathlib.Omega.{arith}
use lib.ListN.{length}
use borrow.Author.Tests.{not-false}
use Rattle.notation.specs.Bytes.{same_word}
use Rattle.notation.specs.Tokens.{Word, Name, SHARED, ROW, DOT}
use Rattle.notation.specs.Notation as T
use Rattle.notation.specs.Notation.{Kind, shared_name, row_name, command_name, Part, part, plain, Tree, TextIs, is_text, Mode, Level, ExpressionIs, is_zero, is_one, is_star, is_name, is_not, is_parens, is_factor, is_and, is_term, is_or, Joined, last, followed, RowItemIs, ItemIs, is_skip, is_set, is_for, CommandIs, is_command, ClauseIs, is_clause, Several, final, and_then, declared}
use Rattle.notation.specs.Rules.{view, word_of, named, names, has, same_kind, allowed, unknown, Kept}
use Rattle.notation.specs.Model as M
use Rattle.notation.specs.Model.{Model}
use Rattle.notation.specs.Texts.{Numbered, place_of, among, name_of, expr_of, row_item_of, row_items_of, item_of, items_of, command_of, clause_of, words_of, model_of}
use Rattle.notation.specs.Regular.{Every, Scoped, ScopedRow, ScopedItem, ScopedCommand, ScopedClause}
use Rattle.notation.proofs.Parts.{obeys, from_splits, parted, text-parts}

-- ---- the names that parts declare

names_both : (ps qs : List Part) → names (ps ++ qs) ≡ names ps ++ names qs
unfolding names
names_both [] qs = refl
names_both (part r t ∷ ps) qs = rw (names_both ps qs) (go (view r).declared)
  where
    go : (o : Option Kind) → named o (word_of t) (names ps ++ names qs) ≡ named o (word_of t) (names ps) ++ names qs
    go none = refl
    go (some s) = refl

pub has_both : (f : Kind → Bool) (w : Word) (ns ms : List (Word × Kind)) → has (ns ++ ms) f w ≡ has ns f w || has ms f w
unfolding has
has_both f w [] ms = refl
has_both f w (n ∷ ns) ms = rw (has_both f w ns ms) (sym (or_assoc (f n.1 && same_word w n.0) (has ns f w) (has ms f w)))

parts_have : (f : Kind → Bool) (w : Word) (ps qs : List Part) → has (names (ps ++ qs)) f w ≡ has (names ps) f w || has (names qs) f w
parts_have f w ps qs = rw (names_both ps qs) (has_both f w (names ps) (names qs))

declared_have : (f : Kind → Bool) (w : Word) (s : Kind) (ns : List Name) → has (names (declared s ns)) f w ≡ f s && among w (words_of ns)
unfolding names has view among
declared_have f w s [] = sym (and-false (f s))
declared_have f w s (n ∷ ns) = rw (declared_have f w s ns) (sym (and-or_distrib_left (f s) (same_word w n.word) (among w (words_of ns))))

-- The parts declare no shared name and no row name.
abbrev Silent : List Part → Type 0
Silent ps = (f : Kind → Bool) (w : Word) → f command_name ≡ false → has (names ps) f w ≡ false

silent_both : (ps qs : List Part) → Silent ps → Silent qs → Silent (ps ++ qs)
silent_both ps qs a b f w z = rw (parts_have f w ps qs, a f w z) (b f w z)

expr_silent : {m : Mode} {l : Level} {d : ℕ} {ps : List Part} {e : T.Expr} → ExpressionIs m l d ps e → Silent ps
unfolding names has view
expr_silent is_zero = λ f w z. refl
expr_silent is_one = λ f w z. refl
expr_silent is_star = λ f w z. refl
expr_silent (is_name n) = λ f w z. refl
expr_silent (is_not x) = expr_silent x
expr_silent (is_parens {ps = ps} x) = silent_both ps _ (expr_silent x) (λ f w z. refl)
expr_silent (is_factor x) = expr_silent x
expr_silent (is_and {ps = ps} x y) = silent_both ps _ (expr_silent x) (expr_silent y)
expr_silent (is_term x) = expr_silent x
expr_silent (is_or {ps = ps} x y) = silent_both ps _ (expr_silent x) (expr_silent y)

joined_silent : {A : Type 0} {One : List Part → A → Type 0} → ((ps : List Part) (x : A) → One ps x → Silent ps) → {ps : List Part} {xs : List A} → Joined One ps xs → Silent ps
unfolding names view
joined_silent s (last x) = s _ _ x
joined_silent s (followed {ps = ps} x y) = silent_both ps _ (s _ _ x) (joined_silent s y)

row_silent : {ps : List Part} {x : T.RowItem} → RowItemIs ps x → Silent ps
unfolding names has view
row_silent is_skip = λ f w z. refl
row_silent (is_set n x) = expr_silent x

item_silent : {ps : List Part} {x : T.Item} → ItemIs ps x → Silent ps
unfolding names has view
item_silent is_skip = λ f w z. refl
item_silent (is_set n x) = expr_silent x
item_silent (is_for {cs = cs} {ps = ps} {qs = qs} x y z) =
    silent_both cs _ (expr_silent x) (silent_both ps _ (joined_silent (λ ps x. row_silent) y) (silent_both qs _ (joined_silent (λ ps x. row_silent) z) (λ f w z. refl)))

clause_silent : {k : ℕ} {ps : List Part} {x : T.Clause} → ClauseIs k ps x → Silent ps
unfolding names has view
clause_silent (is_clause {ps = ps} {qs = qs} x y) = silent_both ps _ (expr_silent x) (silent_both qs _ (expr_silent y) (λ f w z. refl))

command_silent : {ps : List Part} {x : T.Command} → CommandIs ps x → Silent ps
unfolding names has view
command_silent (is_command {cs = cs} {ps = ps} {qs = qs} n x y z) f w e =
    rw e (silent_both cs _ (expr_silent x) (silent_both ps _ (joined_silent (λ ps x. item_silent) y) (silent_both qs _ (joined_silent (λ ps x. item_silent) z) (λ f w z. refl))) f w e)

several_silent : {ps : List Part} {xs : List T.Command} → Several CommandIs ps xs → Silent ps
several_silent (final x) = command_silent x
several_silent (and_then {ps = ps} x y) = silent_both ps _ (command_silent x) (several_silent y)

-- ---- the names that parts use

-- The word is among the shared names ws, if f holds of those, or among the row names vs, if f holds of those.
abbrev found : List Name → List Name → (Kind → Bool) → Word → Bool
found ws vs f w = (f shared_name && among w (words_of ws)) || (f row_name && among w (words_of vs))

-- The parts declare the shared names ws and the row names vs.
abbrev Declares : List Name → List Name → List Part → Type 0
Declares ws vs ps = (f : Kind → Bool) (w : Word) → f command_name ≡ false → has (names ps) f w ≡ found ws vs f w

text-declares : (ws vs : List Name) (ps : List Part) → Silent ps → Declares ws vs (plain SHARED ∷ declared shared_name ws ++ (plain DOT ∷ plain ROW ∷ declared row_name vs ++ (plain DOT ∷ ps)))
unfolding names view
text-declares ws vs ps s f w z = simp (parts_have, declared_have, s f w z, or-false)

-- A word of which some kinds are asked for is found.
abbrev Known : List Name → List Name → Option (Kind → Bool) → Word → Type 0
Known ws vs none w = Unit {0}
Known ws vs (some f) w = f command_name ≡ false → found ws vs f w ≡ true

abbrev KnownPart : List Name → List Name → Part → Type 0
KnownPart ws vs (part r t) = Known ws vs (view r).kinds (word_of t)

abbrev AllKnown : List Name → List Name → List Part → Type 0
AllKnown ws vs = Every (KnownPart ws vs)

module _ (ws vs : List Name) where
  known : (us ps : List Part) → Declares ws vs (us ++ ps) → (o : Option (Kind → Bool)) (w : Word) → unknown us o w ≡ false → Known ws vs o w
  known us ps d none w h = tt
  known us ps d (some f) w h = λ z. sym (d f w z) ∙ rw (parts_have f w us ps, not-false (has (names us) f w) h)

  kept_known : {ps : List Part} → Declares ws vs ps → Kept ps → AllKnown ws vs ps
  kept_known {ps} d h = from_splits (KnownPart ws vs) ps go
    where
      go : (us : List Part) (p : Part) (rs : List Part) → ps ≡ us ++ p ∷ rs → KnownPart ws vs p
      go us (part r t) rs e = known us (part r t ∷ rs) (rw e at d) (view r).kinds (word_of t) (obeys us r t (h us (part r t) rs e)).known

-- A word that is among names has its place there.
place_lt : (w : Word) (ns : List Name) → among w (words_of ns) ≡ true → place_of w (words_of ns) < length ns
unfolding among place_of
place_lt w [] h = absurd (false≢true h)
place_lt w (n ∷ ns) h = go (same_word w n.word) h (place_lt w ns)
  where
    go : (x : Bool) → x || among w (words_of ns) ≡ true → (among w (words_of ns) ≡ true → place_of w (words_of ns) < length ns) → cond x 0 (suc (place_of w (words_of ns))) < suc (length ns)
    go true h rec = omega arith
    go false h rec = let e = rec h in omega arith

-- ---- what is said is in range

module _ (ws vs : List Name) where
  name-scoped : (b : Bool) (w : Word) → among w (words_of ws) || (b && among w (words_of vs)) ≡ true → Scoped (length ws) (cond b (length vs) 0) (name_of (words_of ws) (words_of vs) w)
  unfolding name_of
  name-scoped b w h = go (among w (words_of ws)) refl b h
    where
      go : (x : Bool) → among w (words_of ws) ≡ x → (b : Bool) → x || (b && among w (words_of vs)) ≡ true →
          Scoped (length ws) (cond b (length vs) 0) (cond x (M.shared (place_of w (words_of ws))) (M.row (place_of w (words_of vs))))
      go true e b h = place_lt w ws e
      go false e true h = place_lt w vs h
      go false e false h = absurd (false≢true h)

  split : (ps qs : List Part) → AllKnown ws vs (ps ++ qs) → AllKnown ws vs ps × AllKnown ws vs qs
  split = parted (KnownPart ws vs)

  expr_scoped : {m : Mode} {l : Level} {d : ℕ} {ps : List Part} {e : T.Expr} → ExpressionIs m l d ps e → AllKnown ws vs ps → (k : ℕ) →
      Scoped (length ws) (cond m.rows (length vs) 0) (expr_of (words_of ws) (words_of vs) e k).is
  unfolding expr_of view allowed
  expr_scoped is_zero h k = tt
  expr_scoped is_one h k = tt
  expr_scoped is_star h k = tt
  expr_scoped {m} (is_name w) h k = name-scoped m.rows w.word (h.0 refl)
  expr_scoped (is_not x) h k = expr_scoped x h.1 k
  expr_scoped (is_parens {ps = ps} x) h k = expr_scoped x (split ps _ h.1).0 k
  expr_scoped (is_factor x) h k = expr_scoped x h k
  expr_scoped (is_and {ps = ps} x y) h k = let g = split ps _ h in (expr_scoped x g.0 k, expr_scoped y g.1.1 _)
  expr_scoped (is_term x) h k = expr_scoped x h k
  expr_scoped (is_or {ps = ps} x y) h k = let g = split ps _ h in (expr_scoped x g.0 k, expr_scoped y g.1.1 _)

  row-scoped : {ps : List Part} {x : T.RowItem} → RowItemIs ps x → AllKnown ws vs ps → (k : ℕ) → ScopedRow (length ws) (length vs) (row_item_of (words_of ws) (words_of vs) x k).is
  unfolding row_item_of view same_kind
  row-scoped is_skip h k = tt
  row-scoped (is_set w x) h k = (place_lt w.word vs (h.0 refl), expr_scoped x h.1.1 k)

  -- Items that `many` numbers as `one` numbers each: row items and items.
  joined-scoped : {A B : Type 0} {One : List Part → A → Type 0} (Q : B → Type 0) (one : A → ℕ → Numbered B) (many : List A → ℕ → Numbered (List B)) → ((k : ℕ) → (many [] k).is ≡ []) →
      ((x : A) (xs : List A) (k : ℕ) → (many (x ∷ xs) k).is ≡ (one x k).is ∷ (many xs (one x k).next).is) → ((ps : List Part) (x : A) → One ps x → AllKnown ws vs ps → (k : ℕ) → Q (one x k).is) →
      {ps : List Part} {xs : List A} → Joined One ps xs → AllKnown ws vs ps → (k : ℕ) → Every Q (many xs k).is
  joined-scoped Q one many n c s (last x) h k = rw (c, n) (s _ _ x h k, tt)
  joined-scoped Q one many n c s (followed {ps = ps} x y) h k = let g = split ps _ h in rw c (s _ _ x g.0 k, joined-scoped Q one many n c s y g.1.1 _)

  rows_scoped : {ps : List Part} {xs : List T.RowItem} → Joined RowItemIs ps xs → AllKnown ws vs ps → (k : ℕ)
      → Every (ScopedRow (length ws) (length vs)) (row_items_of (words_of ws) (words_of vs) xs k).is
  unfolding row_items_of
  rows_scoped = joined-scoped _ (row_item_of (words_of ws) (words_of vs)) (row_items_of (words_of ws) (words_of vs)) (λ k. refl) (λ x xs k. refl) (λ ps x. row-scoped)

  item-scoped : {ps : List Part} {x : T.Item} → ItemIs ps x → AllKnown ws vs ps → (k : ℕ) → ScopedItem (length ws) (length vs) (item_of (words_of ws) (words_of vs) x k).is
  unfolding item_of view same_kind
  item-scoped is_skip h k = tt
  item-scoped (is_set w x) h k = (place_lt w.word ws (sym (or-false _) ∙ h.0 refl), expr_scoped x h.1.1 k)
  item-scoped (is_for {cs = cs} {ps = ps} {qs = qs} x y z) h k =
      let a = split cs _ h.1 in
      let b = split ps _ a.1.1 in
      let c = split qs _ b.1.1 in
      (expr_scoped x a.0 k, rows_scoped y b.0 _, rows_scoped z c.0 _)

  items-scoped : {ps : List Part} {xs : List T.Item} → Joined ItemIs ps xs → AllKnown ws vs ps → (k : ℕ) → Every (ScopedItem (length ws) (length vs)) (items_of (words_of ws) (words_of vs) xs k).is
  unfolding items_of
  items-scoped = joined-scoped _ (item_of (words_of ws) (words_of vs)) (items_of (words_of ws) (words_of vs)) (λ k. refl) (λ x xs k. refl) (λ ps x. item-scoped)

  command-scoped : {ps : List Part} {x : T.Command} → CommandIs ps x → AllKnown ws vs ps → ScopedCommand (length ws) (length vs) (command_of (words_of ws) (words_of vs) x)
  unfolding command_of
  command-scoped (is_command {cs = cs} {ps = ps} {qs = qs} n x y z) h =
      let a = split cs _ h.1.1.1 in
      let b = split ps _ a.1.1 in
      let c = split qs _ b.1.1 in
      record { test = expr_scoped x a.0 0; do_items = items-scoped y b.0 _; else_items = items-scoped z c.0 _ }

  several_scoped : {ps : List Part} {xs : List T.Command} → Several CommandIs ps xs → AllKnown ws vs ps → Every (ScopedCommand (length ws) (length vs)) (map (command_of (words_of ws) (words_of vs)) xs)
  several_scoped (final x) h = (command-scoped x h, tt)
  several_scoped (and_then {ps = ps} x y) h = let g = split ps _ h in (command-scoped x g.0, several_scoped y g.1)

  clause-scoped : {n : ℕ} {ps : List Part} {x : T.Clause} → ClauseIs n ps x → AllKnown ws vs ps → ScopedClause (length ws) (length vs) (clause_of (words_of ws) (words_of vs) x)
  unfolding clause_of
  clause-scoped (is_clause {ps = ps} {qs = qs} x y) h =
      let a = split ps _ h.1 in
      let b = split qs _ a.1.1 in
      record { whole = expr_scoped x a.0 0; each = expr_scoped y b.0 0 }

-- The names of a model's clauses and commands are in range.
record ScopedModel (m : Model) : Type 0 where
  start : ScopedClause m.shared_names m.row_names m.start
  keep : ScopedClause m.shared_names m.row_names m.keep
  commands : Every (ScopedCommand m.shared_names m.row_names) m.commands

text-scoped : {ps : List Part} {x : Tree} → TextIs ps x → Kept ps → ScopedModel (model_of x)
unfolding model_of
text-scoped (is_text {ss = ss} {ks = ks} {cs = cs} ws vs s k xs) h =
    let d = text-declares ws vs (ss ++ (ks ++ cs)) (silent_both ss _ (clause_silent s) (silent_both ks _ (clause_silent k) (several_silent xs))) in
    let g = text-parts (KnownPart ws vs) ws vs ss ks cs (kept_known ws vs d h) in
    record { start = clause-scoped ws vs s g.0; keep = clause-scoped ws vs k g.1; commands = several_scoped ws vs xs g.2 }

pub start-scoped : {ps : List Part} {x : Tree} → TextIs ps x → Kept ps → ScopedClause (model_of x).shared_names (model_of x).row_names (model_of x).start
start-scoped t h = (text-scoped t h).start

pub keep-scoped : {ps : List Part} {x : Tree} → TextIs ps x → Kept ps → ScopedClause (model_of x).shared_names (model_of x).row_names (model_of x).keep
keep-scoped t h = (text-scoped t h).keep

pub commands-scoped : {ps : List Part} {x : Tree} → TextIs ps x → Kept ps → Every (ScopedCommand (model_of x).shared_names (model_of x).row_names) (model_of x).commands
commands-scoped t h = (text-scoped t h).commands
