-- The table's run over the tokens, and what a list of symbols stands for, are the same.
-- Assumes nothing.
use mathlib.Core.Path.{◌≡◌, refl, sym, ◌∙◌, subst}
use mathlib.Core.Bool.{Bool, true, false, cond, not, ◌&&◌, ◌||◌, false≢true, not-eq-not, and-eq-true_iff, or-true}
use mathlib.Core.List.{List, [], ◌∷◌, ◌++◌}
use mathlib.Core.Logic.{◌⊎◌, inl, inr, ⊎_elim}
use mathlib.Core.Option.{Option, none, some, none-ne-some, some-injective}
use Prim.Native.Nat.{ℕ, suc}
use lib.Dec.{eqb, eqb-suc-suc}
use borrow.Author.Tests.{eqb-true, not-true}
use Rattle.notation.specs.Tokens.{Token, sign, name}
use Rattle.notation.specs.Notation.{Role, Part, part, Tree}
use Rattle.notation.specs.Rules.{elem}
use Rattle.notation.specs.working.Table.{Sym, Val, Cont, feed, Line, on, named, lines, skips, more, Found, find, kind, Reads, done, over, takes, State, pick, past, step, ending, is_some, optional, ends, apart, within, kinds, firsts, closed, closed_lines, ll1}

-- What a step takes, the symbols stand for.
pub step-reads : (σ : List Sym) (k : Cont σ Tree) {t : Token} {r : Role} {s : State} {ps : List Part} {x : Tree} → step σ k t ≡ some (r, s)
    → Reads s.want s.cont ps x → Reads σ k (part r t ∷ ps) x
unfolding step
step-reads [] k e D = absurd (none-ne-some _ e)
step-reads (n ∷ σ) k {t} {r} {s} {ps} {x} e D = go (find (lines n) t) refl (skips n) refl (λ v e. step-reads σ (k v) e D) e
  where
    go : (o : Option (Found n)) → find (lines n) t ≡ o → (b : Option (Val n)) → skips n ≡ b →
        ((v : Val n) → step σ (k v) t ≡ some (r, s) → Reads σ (k v) (part r t ∷ ps) x) → pick n σ k o (past b (λ v. step σ (k v) t)) ≡ some (r, s) → Reads (n ∷ σ) k (part r t ∷ ps) x
    go (some f) h b o rec e =
        subst (λ (y : Role × State). Reads y.1.want y.1.cont ps x → Reads (n ∷ σ) k (part y.0 t ∷ ps) x) (some-injective _ _ e) (λ D. takes f h D) D
    go none h (some v) o rec e = over o (rec v e)
    go none h none o rec e = absurd (none-ne-some _ e)

-- Tests taken apart.
implied : (a b : Bool) → not a || b ≡ true → a ≡ true → b ≡ true
implied true b e h = e
implied false b e h = absurd (false≢true h)

or_cases : (a b : Bool) → a || b ≡ true → (a ≡ true) ⊎ (b ≡ true)
or_cases true b e = inl refl
or_cases false b e = inr e

-- Lists of kinds.
module _ (k x : ℕ) (xs : List ℕ) where
  elem-here : eqb x k ≡ true → elem k (x ∷ xs) ≡ true
  unfolding elem
  elem-here e = rw e

  elem-there : elem k xs ≡ true → elem k (x ∷ xs) ≡ true
  unfolding elem
  elem-there e = rw e (or-true (eqb x k))

elem_left : (k : ℕ) (xs ys : List ℕ) → elem k xs ≡ true → elem k (xs ++ ys) ≡ true
unfolding elem
elem_left k [] ys e = absurd (false≢true e)
elem_left k (x ∷ xs) ys e = ⊎_elim (elem-here k x (xs ++ ys)) (λ f. elem-there k x (xs ++ ys) (elem_left k xs ys f)) (or_cases (eqb x k) _ e)

elem-right : (k : ℕ) (xs ys : List ℕ) → elem k ys ≡ true → elem k (xs ++ ys) ≡ true
unfolding elem
elem-right k [] ys e = e
elem-right k (x ∷ xs) ys e = elem-there k x (xs ++ ys) (elem-right k xs ys e)

elem-cases : (k : ℕ) (xs ys : List ℕ) → elem k (xs ++ ys) ≡ true → (elem k xs ≡ true) ⊎ (elem k ys ≡ true)
unfolding elem
elem-cases k [] ys e = inr e
elem-cases k (x ∷ xs) ys e = ⊎_elim (λ f. inl (elem-here k x xs f)) (λ f. ⊎_elim (λ g. inl (elem-there k x xs g)) inr (elem-cases k xs ys f)) (or_cases (eqb x k) _ e)

apart-elem : (k : ℕ) (xs ys : List ℕ) → apart xs ys ≡ true → elem k xs ≡ true → elem k ys ≡ false
unfolding elem
apart-elem k [] ys a e = absurd (false≢true e)
apart-elem k (x ∷ xs) ys a e =
    let h = (and-eq-true_iff _ _).0 a in
    ⊎_elim (λ f. rw (← (eqb-true x k f)) (not-true _ h.0)) (apart-elem k xs ys h.1) (or_cases (eqb x k) _ e)

within-elem : (k : ℕ) (xs ys : List ℕ) → within xs ys ≡ true → elem k xs ≡ true → elem k ys ≡ true
unfolding elem
within-elem k [] ys a e = absurd (false≢true e)
within-elem k (x ∷ xs) ys a e =
    let h = (and-eq-true_iff _ _).0 a in
    ⊎_elim (λ f. rw (← (eqb-true x k f)) h.0) (within-elem k xs ys h.1) (or_cases (eqb x k) _ e)

-- Where the text may end, nothing stands for the symbols; and only there.
pub ending-reads : (σ : List Sym) (k : Cont σ Tree) {x : Tree} → ending σ k ≡ some x → Reads σ k [] x
unfolding ending
ending-reads [] k e = rw (← (some-injective _ _ e)) done
ending-reads (n ∷ σ) k {x} e = go (skips n) refl (λ v e. ending-reads σ (k v) e) e
  where
    go : (b : Option (Val n)) → skips n ≡ b → ((v : Val n) → ending σ (k v) ≡ some x → Reads σ (k v) [] x) → past b (λ v. ending σ (k v)) ≡ some x → Reads (n ∷ σ) k [] x
    go (some v) o rec e = over o (rec v e)
    go none o rec e = absurd (none-ne-some _ e)

pub reads-ending : {σ : List Sym} {k : Cont σ Tree} {x : Tree} → Reads σ k [] x → ending σ k ≡ some x
unfolding ending
reads-ending done = refl
reads-ending (over {n = n} s D) = rw s (reads-ending D)

some_is : {A : Type 0} (o : Option A) {a : A} → o ≡ some a → is_some o ≡ true
some_is o e = rw e

-- A token that has a line is of one of the line's kinds.
found-kind : {n : Sym} (ls : List (Line n)) (t : Token) {x : Found n} → find ls t ≡ some x → elem (kind t) (kinds ls) ≡ true
unfolding find kinds elem
found-kind [] t e = absurd (none-ne-some _ e)
found-kind {n} (on k r α f ∷ ls) (sign j) {x} e = go (eqb k j) refl e (λ e. found-kind ls (sign j) e)
  where
    go : (b : Bool) → eqb k j ≡ b → cond b (some (record { role = r; next = α; act = f })) (find ls (sign j)) ≡ some x
        → (find ls (sign j) ≡ some x → elem (suc j) (kinds ls) ≡ true) → elem (suc j) (suc k ∷ kinds ls) ≡ true
    go true h e rec = elem-here (suc j) (suc k) (kinds ls) (eqb-suc-suc k j ∙ h)
    go false h e rec = elem-there (suc j) (suc k) (kinds ls) (rec e)
found-kind (on k r α f ∷ ls) (name w) e = elem-there 0 (suc k) (kinds ls) (found-kind ls (name w) e)
found-kind (named r α f ∷ ls) (sign j) e = elem-there (suc j) 0 (kinds ls) (found-kind ls (sign j) e)
found-kind (named r α f ∷ ls) (name w) e = refl

-- What a list of symbols stands for begins with one of its first kinds.
reads_first : {σ : List Sym} {k : Cont σ Tree} {r : Role} {t : Token} {ps : List Part} {x : Tree} → Reads σ k (part r t ∷ ps) x → elem (kind t) (firsts σ) ≡ true
unfolding firsts
reads_first {t} (over {n = n} {σ = σ} s D) = elem-right _ (kinds (lines n)) _ (rw (some_is (skips n) s) (reads_first D))
reads_first {t} (takes {n = n} f e D) = elem_left _ (kinds (lines n)) _ (found-kind (lines n) t e)

-- Symbols none of which can go on with what the rest of them begins with.
abbrev pub Good : List Sym → Type 0
Good [] = Unit {0}
Good (n ∷ σ) = ((k : ℕ) → elem k (firsts σ) ≡ true → elem k (more n) ≡ false) × Good σ

firsts-append : (k : ℕ) (β σ : List Sym) → elem k (firsts (β ++ σ)) ≡ true → (elem k (firsts β) ≡ true) ⊎ ((ends β ≡ true) × (elem k (firsts σ) ≡ true))
unfolding firsts ends elem
firsts-append k [] σ e = inr (refl, e)
firsts-append k (n ∷ β) σ e = ⊎_elim (λ f. inl (elem_left k (kinds (lines n)) _ f)) (go (optional n) refl (firsts-append k β σ)) (elem-cases k (kinds (lines n)) _ e)
  where
    go : (b : Bool) → optional n ≡ b → (elem k (firsts (β ++ σ)) ≡ true → (elem k (firsts β) ≡ true) ⊎ ((ends β ≡ true) × (elem k (firsts σ) ≡ true)))
        → elem k (cond b (firsts (β ++ σ)) []) ≡ true → (elem k (kinds (lines n) ++ cond b (firsts β) []) ≡ true)
        ⊎ ((b && ends β ≡ true) × (elem k (firsts σ) ≡ true))
    go true s rec f = ⊎_elim (λ g. inl (elem-right k (kinds (lines n)) _ g)) inr (rec f)
    go false s rec f = absurd (false≢true f)

good_append : (n : Sym) (α σ : List Sym) → closed n α ≡ true → Good (n ∷ σ) → Good (α ++ σ)
unfolding closed
good_append n [] σ c g = g.1
good_append n (m ∷ β) σ c g =
    let a = (and-eq-true_iff _ _).0 c in
    let b = (and-eq-true_iff _ _).0 a.1 in
    (fits a.0 b.0, good_append n β σ b.1 g)
  where
    fits : apart (firsts β) (more m) ≡ true → not (ends β) || within (more m) (more n) ≡ true → (k : ℕ) → elem k (firsts (β ++ σ)) ≡ true → elem k (more m) ≡ false
    fits a b k e = ⊎_elim (apart-elem k (firsts β) (more m) a)
        (λ h. not-eq-not.0 (λ i. false≢true (sym (g.0 k h.1) ∙ within-elem k (more m) (more n) (implied (ends β) _ b h.0) i))) (firsts-append k β σ e)

-- Each line of an LL(1) symbol is closed.
line-closed : (n : Sym) (ls : List (Line n)) (t : Token) {x : Found n} → closed_lines n ls ≡ true → find ls t ≡ some x → closed n x.next ≡ true
unfolding find closed_lines
line-closed n [] t c e = absurd (none-ne-some _ e)
line-closed n (on k r α f ∷ ls) (sign j) {x} c e = go (eqb k j) e (λ e. line-closed n ls (sign j) ((and-eq-true_iff (closed n α) _).0 c).1 e)
  where
    go : (b : Bool) → cond b (some (record { role = r; next = α; act = f })) (find ls (sign j)) ≡ some x → (find ls (sign j) ≡ some x → closed n x.next ≡ true) → closed n x.next ≡ true
    go true e rec = subst (λ (x : Found n). closed n x.next ≡ true) (some-injective _ _ e) ((and-eq-true_iff (closed n α) _).0 c).0
    go false e rec = rec e
line-closed n (on k r α f ∷ ls) (name w) c e = line-closed n ls (name w) ((and-eq-true_iff (closed n α) _).0 c).1 e
line-closed n (named r α f ∷ ls) (sign j) c e = line-closed n ls (sign j) ((and-eq-true_iff (closed n α) _).0 c).1 e
line-closed n (named r α f ∷ ls) (name w) c e = subst (λ (x : Found n). closed n x.next ≡ true) (some-injective _ _ e) ((and-eq-true_iff (closed n α) _).0 c).0

module _ (table : (n : Sym) → ll1 n ≡ true) where
  table-parts : (n : Sym) → (not (optional n) || within (kinds (lines n)) (more n) ≡ true) × (closed_lines n (lines n) ≡ true)
  unfolding ll1
  table-parts n = (and-eq-true_iff _ _).0 (table n)

  -- A symbol that is passed over has no line for the token at hand.
  no_line : (n : Sym) (σ : List Sym) (t : Token) → optional n ≡ true → Good (n ∷ σ) → elem (kind t) (firsts σ) ≡ true → find (lines n) t ≡ none
  no_line n σ t s g e = go (find (lines n) t) refl
    where
      go : (o : Option (Found n)) → find (lines n) t ≡ o → o ≡ none
      go none f = refl
      go (some x) f = absurd (false≢true (sym (g.0 _ e) ∙ within-elem (kind t) (kinds (lines n)) (more n) (implied (optional n) _ (table-parts n).0 s) (found-kind (lines n) t f)))

  -- What good symbols stand for, the steps take, and what is left is good.
  pub reads-step : {σ : List Sym} {k : Cont σ Tree} {r : Role} {t : Token} {ps : List Part} {x : Tree} → Good σ → Reads σ k (part r t ∷ ps) x →
      (s : State) × (step σ k t ≡ some (r, s)) × Reads s.want s.cont ps x × Good s.want
  unfolding step
  reads-step {t} g (over {n = n} {σ = σ} s D) =
      let h = reads-step g.1 D in
      (h.0, rw (no_line n σ t (some_is (skips n) s) g (reads_first D), s) h.1, h.2, h.3)
  reads-step {t} g (takes {n = n} {σ = σ} {k = k} f e D) = (
    record { want = f.next ++ σ; cont = feed (Val n) σ f.next f.act k },
    rw e,
    D,
    good_append n f.next σ
        (line-closed n (lines n) t (table-parts n).1 e) g,
  )
