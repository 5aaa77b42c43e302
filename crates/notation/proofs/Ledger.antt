-- The rules against the parts before a token are the rules against the book kept of them.
-- Assumes nothing.
use mathlib.Core.Path.{◌≡◌, refl, sym, ◌∙◌, ap, subst}
use mathlib.Core.Bool.{Bool, true, false, cond, ◌||◌}
use mathlib.Core.List.{List, [], ◌∷◌, ◌++◌, append_assoc, append-nil}
use mathlib.Core.Option.{Option, none, some}
use Prim.Native.Nat.{ℕ, suc, ◌+◌}
use native.Mathlib.Omega.{arith}
use lib.Dec.{ltb}
use lib.ListN.{set}
use mathlib.Core.Logic.{◌↔◌}
use Rattle.notation.specs.Tokens.{Token, Word}
use Rattle.notation.specs.Notation.{Kind, Role, Part, part, declares, uses, chance, negates, opens, target, quiet, constant, joins, begins_item, begins_command, shared_name, row_name, command_name}
use Rattle.notation.specs.Rules.{elem, view, word_of, depth_limit, SHARED-NAMES, ROW-NAMES, NAMES, COMMANDS, ITEMS, NODES, STARS, named, names, count, this_command, again, unknown, over, breach, Kept, total, name_counts}
use Rattle.notation.specs.working.Ledger.{Book, blank_book, note, notes, named_on, counted_on, tally, fault, Clean, exceeds}
use Rattle.notation.specs.working.Ledger as L
use Rattle.notation.proofs.Counts.{count-append, this_append}

-- ---- the names

named-is : (o : Option Kind) (w : Word) (ns ms : List (Word × Kind)) → named_on o w ns ++ ms ≡ ns ++ named o w ms
named-is none w ns ms = refl
named-is (some s) w ns ms = append_assoc ns ((w, s) ∷ []) ms

names-kept : (b : Book) (ps : List Part) → (notes b ps).names ≡ b.names ++ names ps
unfolding names note
names-kept b [] = sym (append-nil b.names)
names-kept b (part r t ∷ ps) = names-kept (note b (part r t)) ps ∙ named-is (view r).declared (word_of t) b.names (names ps)

-- ---- the counts

count-one : (k : ℕ) (ps : List Part) (r : Role) (t : Token) → count k (ps ++ part r t ∷ []) ≡ cond (elem k (view r).adds) (suc (count k ps)) (count k ps)
unfolding count
count-one k ps r t = count-append k ps (part r t ∷ []) ∙ go (elem k (view r).adds)
  where
    go : (x : Bool) → count k ps + (cond x 1 0 + 0) ≡ cond x (suc (count k ps)) (count k ps)
    go true = omega arith
    go false = omega arith

this_one : (ps : List Part) (r : Role) (t : Token) → this_command [] (ps ++ part r t ∷ []) ≡ cond (view r).anew [] (this_command [] ps) ++ part r t ∷ []
unfolding this_command
this_one ps r t = this_append [] ps (part r t ∷ [])

abbrev tallied : List Part → List ℕ
tallied ps =
    count SHARED-NAMES ps ∷ count ROW-NAMES ps ∷ count NAMES ps ∷ count COMMANDS ps ∷ count ITEMS ps ∷ count NODES ps ∷ count STARS (this_command [] ps) ∷ []

tallied_one : (ps : List Part) (r : Role) (t : Token) → tallied (ps ++ part r t ∷ []) ≡ counted_on (view r) (tallied ps)
unfolding tally count
tallied_one ps r t =
    rw (
      count-one 0 ps r t,
      count-one 1 ps r t,
      count-one 2 ps r t,
      count-one 3 ps r t,
      count-one 4 ps r t,
      count-one 5 ps r t,
      this_one ps r t,
      count-one 6
          (cond (view r).anew [] (this_command [] ps)) r t,
    )
    (go (view r).anew)
  where
    go : (x : Bool) → cond (elem 0 (view r).adds) (suc (count 0 ps)) (count 0 ps) ∷ cond (elem 1 (view r).adds) (suc (count 1 ps)) (count 1 ps)
        ∷ cond (elem 2 (view r).adds) (suc (count 2 ps)) (count 2 ps) ∷ cond (elem 3 (view r).adds) (suc (count 3 ps)) (count 3 ps)
        ∷ cond (elem 4 (view r).adds) (suc (count 4 ps)) (count 4 ps) ∷ cond (elem 5 (view r).adds) (suc (count 5 ps)) (count 5 ps)
        ∷ cond (elem 6 (view r).adds) (suc (count 6 (cond x [] (this_command [] ps)))) (count 6 (cond x [] (this_command [] ps))) ∷ []
        ≡ tally 0 (view r).adds (cond x (set (tallied ps) STARS 0) (tallied ps))
    go true = refl
    go false = refl

counts-kept : (us ps : List Part) (b : Book) → b.counts ≡ tallied us → (notes b ps).counts ≡ tallied (us ++ ps)
unfolding note
counts-kept us [] b e = rw (append-nil us) e
counts-kept us (part r t ∷ ps) b e =
    counts-kept (us ++ part r t ∷ []) ps (note b (part r t)) (ap (counted_on (view r)) e ∙ sym (tallied_one us r t)) ∙ ap tallied (append_assoc us (part r t ∷ []) ps)

blank-counts : blank_book.counts ≡ tallied []
unfolding count this_command
blank-counts = refl

book_is : (us : List Part) → notes blank_book us ≡ record { names = names us; counts = tallied us }
book_is us = λ i. record { names = names-kept blank_book us i; counts = counts-kept [] us blank_book blank-counts i }

abbrev judged : Bool → Bool → Bool → Bool → Option ℕ
judged a u s m = cond a (some 4) (cond u (some 5) (cond s (some 6) (cond m (some 7) none)))

again-is : (us : List Part) (o : Option Kind) (w : Word) → L.again (record { names = names us; counts = tallied us }) o w ≡ again us o w
again-is us none w = refl
again-is us (some s) w = refl

unknown-is : (us : List Part) (o : Option (Kind → Bool)) (w : Word) → L.unknown (record { names = names us; counts = tallied us }) o w ≡ unknown us o w
unknown-is us none w = refl
unknown-is us (some s) w = refl

over_are : (r : Role) (ps : List Part) → exceeds (view r).adds (tallied ps) ≡ over (view r).adds ps
unfolding exceeds over total view name_counts
over_are quiet ps = refl
over_are (declares shared_name) ps = refl
over_are (declares row_name) ps = refl
over_are (declares command_name) ps = refl
over_are (uses m) ps = refl
over_are constant ps = refl
over_are (chance m) ps = refl
over_are joins ps = refl
over_are (negates d) ps = refl
over_are (opens d) ps = refl
over_are (target k) ps = refl
over_are begins_item ps = refl
over_are begins_command ps = refl

over-is : (us : List Part) (r : Role) (t : Token) → exceeds (view r).adds (counted_on (view r) (tallied us)) ≡ over (view r).adds (us ++ part r t ∷ [])
over-is us r t = ap (λ (cs : List ℕ). exceeds (view r).adds cs) (sym (tallied_one us r t)) ∙ over_are r (us ++ part r t ∷ [])

pub breach-is : (us : List Part) (p : Part) → fault (notes blank_book us) p ≡ breach us p
unfolding fault breach
breach-is us (part r t) =
    ap (λ (b : Book). fault b (part r t)) (book_is us)
    ∙ ap (λ (x : Bool). judged x (L.unknown (record { names = names us; counts = tallied us }) (view r).kinds (word_of t)) (view r).barred
    (ltb depth_limit (view r).depth || exceeds (view r).adds (counted_on (view r) (tallied us)))) (again-is us (view r).declared (word_of t))
    ∙ ap (λ (x : Bool). judged (again us (view r).declared (word_of t)) x (view r).barred
    (ltb depth_limit (view r).depth || exceeds (view r).adds (counted_on (view r) (tallied us)))) (unknown-is us (view r).kinds (word_of t))
    ∙ ap (λ (x : Bool). judged (again us (view r).declared (word_of t)) (unknown us (view r).kinds (word_of t)) (view r).barred (ltb depth_limit (view r).depth || x)) (over-is us r t)

pub notes-one : (b : Book) (us : List Part) (p : Part) → notes b (us ++ p ∷ []) ≡ note (notes b us) p
notes-one b [] p = refl
notes-one b (u ∷ us) p = notes-one (note b u) us p

clean_from : (us ps : List Part) → Clean (notes blank_book us) ps → (ws : List Part) (p : Part) (vs : List Part) → ps ≡ ws ++ p ∷ vs → breach (us ++ ws) p ≡ none
clean_from us [] c [] p vs e = cc
clean_from us [] c (w ∷ ws) p vs e = cc
clean_from us (plain ∷ ps) c [] p vs e = let f : plain ≡ p = cc in rw (append-nil us) (sym (breach-is us p) ∙ ap (fault (notes blank_book us)) (sym f) ∙ c.0)
clean_from us (plain ∷ ps) c (w ∷ ws) p vs e =
    let f : plain ≡ w = cc in
    let g : ps ≡ ws ++ p ∷ vs = cc in
    let h = clean_from (us ++ w ∷ []) ps (subst (λ (x : Part). Clean (notes blank_book (us ++ x ∷ [])) ps) f (subst (λ (b : Book). Clean b ps) (sym (notes-one blank_book us plain)) c.1)) ws p vs g in
    subst (λ (x : List Part). breach x p ≡ none) (append_assoc us (w ∷ []) ws) h

clean_to : (us ps : List Part) → ((ws : List Part) (p : Part) (vs : List Part) → ps ≡ ws ++ p ∷ vs → breach (us ++ ws) p ≡ none) → Clean (notes blank_book us) ps
clean_to us [] h = tt
clean_to us (plain ∷ ps) h = (
  breach-is us plain ∙ subst (λ (x : List Part). breach x plain ≡ none) (append-nil us) (h [] plain ps refl),
  subst (λ (b : Book). Clean b ps) (notes-one blank_book us plain)
      (clean_to (us ++ plain ∷ []) ps (λ ws p vs e. subst (λ (x : List Part). breach x p ≡ none) (sym (append_assoc us (plain ∷ []) ws)) (h (plain ∷ ws) p vs (ap (λ (x : List Part). plain ∷ x) e)))),
)

-- No rule is broken, by the book and by the parts.
pub clean_kept : (ps : List Part) → Clean blank_book ps ↔ Kept ps
clean_kept ps = (λ c us p vs e. clean_from [] ps c us p vs e, λ h. clean_to [] ps h)
