-- The reader's array of names tells the word of each command's name.
-- Assumes nothing.
use mathlib.Core.Path.{◌≡◌, refl, sym, ap, ◌∙◌, subst}
use mathlib.Core.List.{List, [], ◌∷◌, ◌++◌, map}
use Prim.Native.Nat.{ℕ, zero, suc, ◌+◌, ◌≤◌, ◌<◌}
use native.Mathlib.Omega.{arith}
use lib.ListN.{length, get_or, set, take, drop, replicate, length-set, length-map, length-append, get_or-map}
use lib.Seq.{get_or-set_same, get_or-set_other, get_or-append-add}
use Rattle.notation.specs.Tokens.{Name}
use Rattle.notation.specs.Notation.{Tree, tree'}
use Rattle.notation.specs.Regular.{Regular}
use Rattle.notation.specs.Texts.{TextSaysTree, model_of, names_of, title_of}
use Rattle.notation.specs.Case.{spelling}
use Rattle.meaning.proofs.Lists.{every-at}
use Rattle.notation.proofs.Case.{lower-length}
use Rattle.notation.proofs.NamesStand.{Stands, names_stand}
use Rattle.reader.specs.Read.{placed, name_array}
use Rattle.names.specs.Names.{command_name}
use Rattle.names.specs.working.Arrays.{name_in, Named}

-- The name n stored at number i.
abbrev with : List ℕ → ℕ → Name → List ℕ
with names i n = set (set names i n.place) (28 + i) (length n.word)

-- Place and length of name j stay where names from number i on are stored behind it.
placed-before : (ns : List Name) (names : List ℕ) (i j : ℕ) → j < i → i + length ns ≤ 28
    → (get_or (placed names i ns) j 0 ≡ get_or names j 0) × (get_or (placed names i ns) (28 + j) 0 ≡ get_or names (28 + j) 0)
unfolding placed
placed-before [] names i j h k = (refl, refl)
placed-before (n ∷ ns) names i j h k =
    let r = placed-before ns (with names i n) (suc i) j (omega arith) (omega arith) in
    let s = set names i n.place in (
      r.0 ∙ get_or-set_other s (28 + i) j (length n.word) 0 (λ e. omega arith) ∙ get_or-set_other names i j n.place 0 (λ e. omega arith),
      r.1 ∙ get_or-set_other s (28 + i) (28 + j) (length n.word) 0 (λ e. omega arith) ∙ get_or-set_other names i (28 + j) n.place 0 (λ e. omega arith),
    )

-- Place and length of the k-th of the names that are stored from number i on.
placed_at : (ns : List Name) (names : List ℕ) (i k : ℕ) (d : Name) → k < length ns → i + length ns ≤ 28 → length names ≡ 56
    → (get_or (placed names i ns) (i + k) 0 ≡ (get_or ns k d).place) × (get_or (placed names i ns) (28 + (i + k)) 0 ≡ length (get_or ns k d).word)
unfolding placed
placed_at [] names i k d h f l = absurd (omega arith)
placed_at (n ∷ ns) names i zero d h f l =
    let r = placed-before ns (with names i n) (suc i) i (omega arith) (omega arith) in
    let s = set names i n.place in
    let z : i + 0 ≡ i = omega arith in
    let u : length s ≡ 56 = length-set names i n.place ∙ l in (
      ap (λ q. get_or (placed (with names i n) (suc i) ns) q 0) z ∙ r.0 ∙ get_or-set_other s (28 + i) i (length n.word) 0 (λ e. omega arith)
          ∙ get_or-set_same names i n.place 0 (omega arith),
      ap (λ q. get_or (placed (with names i n) (suc i) ns) (28 + q) 0) z ∙ r.1 ∙ get_or-set_same s (28 + i) (length n.word) 0 (omega arith),
    )
placed_at (n ∷ ns) names i (suc k) d h f l =
    let u : length (with names i n) ≡ 56 = length-set (set names i n.place) (28 + i) (length n.word) ∙ length-set names i n.place ∙ l in
    let r = placed_at ns (with names i n) (suc i) k d (omega arith) (omega arith) u in
    let z : i + suc k ≡ suc i + k = omega arith in
    (ap (λ q. get_or (placed (with names i n) (suc i) ns) q 0) z ∙ r.0, ap (λ q. get_or (placed (with names i n) (suc i) ns) (28 + q) 0) z ∙ r.1)

abbrev no_name : Name
no_name = record { place = 0; word = [] }

-- What the array says of the name of command k, in a text that says the tree.
pub record Told (text : List ℕ) (x : Tree) (k : ℕ) : Type 0 where
  pub named : Named text (name_array (names_of x)) ((model_of x).shared_names + (model_of x).row_names + k)
  pub word : name_in text (name_array (names_of x)) ((model_of x).shared_names + (model_of x).row_names + k) ≡ command_name text x k
  pub short : length (command_name text x k) ≤ 16

pub told : (text : List ℕ) (x : Tree) → TextSaysTree text x → Regular (model_of x) → (k : ℕ) → k < length (model_of x).commands → Told text x k
unfolding model_of names_of command_name spelling
told text (tree' ws vs s c cs) says g k h =
    let ts : List Name = map title_of cs in
    let ns : List Name = ws ++ (vs ++ ts) in
    let lt : length ts ≡ length cs = length-map cs title_of in
    let lm : length (model_of (tree' ws vs s c cs)).commands ≡ length cs = length-map cs _ in
    let ln : length ns ≡ length ws + (length vs + length ts) = length-append ws (vs ++ ts) ∙ ap (λ q. length ws + q) (length-append vs ts) in
    let i : ℕ = length ws + length vs + k in
    let e : get_or ns i no_name ≡ get_or ts k no_name =
    (let z : i ≡ length ws + (length vs + k) = omega arith in
    ap (λ q. get_or ns q no_name) z ∙ get_or-append-add ws (vs ++ ts) (length vs + k) no_name ∙ get_or-append-add vs ts k no_name) in
    let S : Stands text (get_or ts k no_name) =
    subst (Stands text) e (every-at (Stands text) ns no_name i (names_stand text (tree' ws vs s c cs) says) (omega (arith, lt, lm, ln))) in
    let p = placed_at ns (replicate 56 0) 0 i no_name (omega (arith, lt, lm, ln)) (omega (arith, lt, lm, ln, g.few_names, g.few_commands)) refl in
    let z : 0 + i ≡ i = omega arith in
    let a : get_or (name_array ns) i 0 ≡ (get_or ts k no_name).place = ap (λ q. get_or (name_array ns) q 0) (sym z) ∙ p.0 ∙ ap (λ (n : Name). n.place) e in
    let b : get_or (name_array ns) (28 + i) 0 ≡ length (get_or ts k no_name).word =
    ap (λ q. get_or (name_array ns) (28 + q) 0) (sym z) ∙ p.1 ∙ ap (λ (n : Name). length n.word) e in
    let w : get_or (map (spelling text) ts) k [] ≡ spelling text (get_or ts k no_name) = get_or-map (spelling text) ts k no_name in
    record {
      named = record { index = omega (arith, lm, g.few_names, g.few_commands); inside = omega (arith, a, b, S.inside) };
      word = ap (λ q. take q (drop (get_or (name_array ns) i 0) text)) b ∙ ap (λ q. take (length (get_or ts k no_name).word) (drop q text)) a ∙ sym w;
      short = omega (arith, ap length w, ap length S.spelt, lower-length (spelling text (get_or ts k no_name)), S.short);
    }
