-- A text that breaks no rule says a model within the limits: what it counts pays for names, commands, stars and code.
-- Assumes nothing.
use mathlib.Core.Path.{◌≡◌, refl}
use mathlib.Core.Bool.{true}
use mathlib.Core.List.{List, [], ◌∷◌, ◌++◌, append_assoc}
use Prim.Native.Nat.{ℕ, ◌+◌, ◌≤◌}
use native.Mathlib.Omega.{arith}
use lib.ListN.{length, length-append, length-map}
use Rattle.notation.specs.Tokens.{Name, SHARED, ROW, DOT}
use Rattle.notation.specs.Notation.{Kind, shared_name, row_name, Part, plain, declared, Tree, TextIs, is_text, final, and_then}
use Rattle.notation.specs.Rules.{view, name_counts, elem, count, total, Kept, SHARED-NAMES, ROW-NAMES, NAMES, COMMANDS, ITEMS, NODES}
use Rattle.notation.specs.Model.{stars}
use Rattle.notation.specs.Texts.{words_of, model_of}
use Rattle.notation.specs.Layout.{segments, joined, layout_of, longest_code}
use Rattle.notation.specs.Regular.{Every}
use Rattle.notation.proofs.Counts.{count-append, total-few, clause-sized, commands-sized}

names-counted : (k : ℕ) (s : Kind) (ws : List Name) → elem k (name_counts s) ≡ true → count k (declared s ws) ≡ length ws
unfolding view count
names-counted k s [] e = refl
names-counted k s (w ∷ ws) e = rw (e, names-counted k s ws e) (omega arith)

pub shared-few : {ps : List Part} {x : Tree} → TextIs ps x → Kept ps → (model_of x).shared_names ≤ 8
unfolding model_of view name_counts elem count total
shared-few (is_text ws vs i j is) h = omega (arith, simp count-append at (total-few SHARED-NAMES h), names-counted SHARED-NAMES shared_name ws refl)

pub row-few : {ps : List Part} {x : Tree} → TextIs ps x → Kept ps → (model_of x).row_names ≤ 10
unfolding model_of view name_counts elem count total
row-few (is_text ws vs i j is) h = omega (arith, simp count-append at (total-few ROW-NAMES h), names-counted ROW-NAMES row_name vs refl)

pub names-few : {ps : List Part} {x : Tree} → TextIs ps x → Kept ps → (model_of x).shared_names + (model_of x).row_names ≤ 12
unfolding model_of view name_counts elem count total
names-few (is_text ws vs i j is) h = omega (arith, simp count-append at (total-few NAMES h), names-counted NAMES shared_name ws refl, names-counted NAMES row_name vs refl)

pub some-command : {ps : List Part} {x : Tree} → TextIs ps x → 1 ≤ length (model_of x).commands
unfolding model_of
some-command (is_text ws vs i j (final c)) = omega arith
some-command (is_text ws vs i j (and_then c is)) = omega arith

pub commands-few : {ps : List Part} {x : Tree} → TextIs ps x → Kept ps → length (model_of x).commands ≤ 16
unfolding model_of view elem count total
commands-few (is_text ws vs i j is) h = simp length-map (omega (arith, simp count-append at (total-few COMMANDS h), (commands-sized 0 [] [] is).many))

pub stars-few : {ps : List Part} {x : Tree} → TextIs ps x → Kept ps → Every (λ k. length (stars k) ≤ 8) (model_of x).commands
unfolding model_of
stars-few (is_text {ss = ss} {ks = ks} ws vs i j is) h =
    (commands-sized 0 (words_of ws) (words_of vs) is).few
    (plain SHARED ∷ declared shared_name ws ++ (plain DOT ∷ plain ROW ∷ declared row_name vs ++ (plain DOT ∷ ss ++ ks)))
    (simp append_assoc h)

pub code-short : {ps : List Part} {x : Tree} → TextIs ps x → Kept ps → length (layout_of (model_of x)).code ≤ longest_code
unfolding model_of layout_of segments joined view elem count total
code-short (is_text ws vs i j is) h =
    simp length-append (omega (
      arith,
      simp count-append at (total-few NODES h),
      simp count-append at (total-few ITEMS h),
      simp count-append at (total-few COMMANDS h),
      clause-sized (length ws) (words_of ws) (words_of vs) i,
      clause-sized (length ws) (words_of ws) (words_of vs) j,
      (commands-sized (length ws) (words_of ws) (words_of vs) is).short,
    ))
