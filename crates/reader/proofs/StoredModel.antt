-- What is stored of a whole text is the flat form of its model, and its names.
-- Assumes nothing.
use mathlib.Core.Path.{◌≡◌, refl, sym, ap, ◌∙◌}
use mathlib.Core.List.{List, [], ◌∷◌, ◌++◌, append_assoc, map, append-nil}
use Prim.Native.Nat.{ℕ, ◌+◌}
use lib.ListN.{length}
use Rattle.notation.specs.Tokens.{Name, Word}
use Rattle.notation.specs.Notation.{Expr, Clause, clause', Command, command', tree'}
use Rattle.notation.specs.Model as M
use Rattle.notation.specs.Regular.{Starless, Regular}
use Rattle.notation.specs.Texts.{words_of, expr_of, command_of, clause_of, model_of, title_of, names_of}
use Rattle.notation.specs.Layout.{expr_code, command_code, segments, joined, ends_from, layout_of}
use Rattle.notation.proofs.Stars.{starless_next, command-next}
use Rattle.statements.specs.declared.cursor.Ledger.{Ledger}
use Rattle.statements.specs.working.Names.{shared_words, row_words}
use Rattle.statements.specs.working.Expressions.{expr_words}
use Rattle.reader.specs.working.Clauses.{clause_words, clause_ends}
use Rattle.statements.specs.working.Sequences.{pair_of, paired}
use Rattle.reader.specs.working.Commands.{command_words, stars_in}
use Rattle.reader.proofs.CommandLists.{joined-append, ends-append}

map-map : {A B C : Type 0} (f : B → C) (g : A → B) (xs : List A) → map f (map g xs) ≡ map (λ x. f (g x)) xs
map-map f g [] = refl
map-map f g (x ∷ xs) = ap (λ (ys : List _). f (g x) ∷ ys) (map-map f g xs)

map_same : {A B : Type 0} (f g : A → B) → ((x : A) → f x ≡ g x) → (xs : List A) → map f xs ≡ map g xs
map_same f g h [] = refl
map_same f g h (x ∷ xs) = ap (λ (y : _). y ∷ map f xs) (h x) ∙ ap (λ (ys : List _). g x ∷ ys) (map_same f g h xs)

-- ---- the clauses

module _ (text names : List ℕ) (l : Ledger) (ws vs : List Word) (es : shared_words text names l ≡ ws) (ev : row_words text names l ≡ vs) where
  -- the code of an expression without stars, from 0 on
  abbrev code : Expr → List ℕ
  code e = expr_code l.shared (expr_of ws vs e 0).is

  words-is : (e : Expr) → (expr_words text names l 0 e).is ≡ code e
  unfolding expr_words
  words-is e = ap (λ (z : List Word). expr_code l.shared (expr_of z (row_words text names l) e 0).is) es ∙ ap (λ (z : List Word). expr_code l.shared (expr_of ws z e 0).is) ev

  next-is : (e : Expr) → Starless (expr_of ws vs e 0).is → (expr_words text names l 0 e).next ≡ 0
  unfolding expr_words
  next-is e h = ap (λ (z : List Word). (expr_of z (row_words text names l) e 0).next) es ∙ ap (λ (z : List Word). (expr_of ws z e 0).next) ev ∙ starless_next ws vs e 0 h

  module _ (a b : Expr) (ha : Starless (expr_of ws vs a 0).is) (hb : Starless (expr_of ws vs b 0).is) where
    second_is : (expr_words text names l (expr_words text names l 0 a).next b).is ≡ code b
    second_is = ap (λ (k : ℕ). (expr_words text names l k b).is) (next-is a ha) ∙ words-is b

    clause-code : (clause_words text names l 0 (clause' a b)).is ≡ code a ++ code b
    clause-code = ap (λ (z : List ℕ). z ++ (expr_words text names l (expr_words text names l 0 a).next b).is) (words-is a) ∙ ap (λ (z : List ℕ). code a ++ z) second_is

    clause-next : (clause_words text names l 0 (clause' a b)).next ≡ 0
    clause-next = ap (λ (k : ℕ). (expr_words text names l k b).next) (next-is a ha) ∙ next-is b hb

    clause-ends : (i : ℕ) → clause_ends text names l 0 i (clause' a b) ≡ ends_from i (code a ∷ code b ∷ [])
    unfolding ends_from
    clause-ends i = ap (λ (z : List ℕ). (i + length z) ∷ (i + length z + length (expr_words text names l (expr_words text names l 0 a).next b).is) ∷ [])
        (words-is a) ∙ ap (λ (z : List ℕ). (i + length (code a)) ∷ (i + length (code a) + length z) ∷ []) second_is

  both_joined : (a b : Expr) → code a ++ code b ≡ joined (code a ∷ code b ∷ [])
  unfolding joined
  both_joined a b = simp append-nil

  -- both clauses: their code and their ends
  module _ (a b c d : Expr) (ha : Starless (expr_of ws vs a 0).is) (hb : Starless (expr_of ws vs b 0).is) (hc : Starless (expr_of ws vs c 0).is) (hd : Starless (expr_of ws vs d 0).is) where
    abbrev four : List (List ℕ)
    four = code a ∷ code b ∷ code c ∷ code d ∷ []

    pub clauses-code : (paired (clause_words text names l) (clause_words text names l) 0 (pair_of (clause' a b) (clause' c d))).is ≡ joined four
    unfolding joined
    clauses-code =
        ap (λ (z : List ℕ). z ++ (clause_words text names l (clause_words text names l 0 (clause' a b)).next (clause' c d)).is) (clause-code a b ha hb)
        ∙ ap (λ (k : ℕ). (code a ++ code b) ++ (clause_words text names l k (clause' c d)).is) (clause-next a b ha hb)
        ∙ ap (λ (z : List ℕ). (code a ++ code b) ++ z) (clause-code c d hc hd) ∙ simp (append_assoc, append-nil)

    pub clauses-ends : clause_ends text names l 0 0 (clause' a b) ++ clause_ends text names l (clause_words text names l 0 (clause' a b)).next
        (0 + length (clause_words text names l 0 (clause' a b)).is) (clause' c d) ≡ ends_from 0 four
    clauses-ends =
        let e : 0 + length (clause_words text names l 0 (clause' a b)).is ≡ 0 + length (joined (code a ∷ code b ∷ [])) = ap (λ (z : List ℕ). 0 + length z) (clause-code a b ha hb ∙ both_joined a b) in
        ap (λ (z : List ℕ). z ++ clause_ends text names l (clause_words text names l 0 (clause' a b)).next
        (0 + length (clause_words text names l 0 (clause' a b)).is) (clause' c d)) (clause-ends a b ha hb 0)
        ∙ ap (λ (k : ℕ). ends_from 0 (code a ∷ code b ∷ []) ++ clause_ends text names l k (0 + length (clause_words text names l 0 (clause' a b)).is) (clause' c d)) (clause-next a b ha hb)
        ∙ ap (λ (i : ℕ). ends_from 0 (code a ∷ code b ∷ []) ++ clause_ends text names l 0 i (clause' c d)) e
        ∙ ap (λ (z : List ℕ). ends_from 0 (code a ∷ code b ∷ []) ++ z) (clause-ends c d hc hd (0 + length (joined (code a ∷ code b ∷ []))))
        ∙ sym (ends-append 0 (code a ∷ code b ∷ []) (code c ∷ code d ∷ []))

-- ---- the whole model

module _ (text names : List ℕ) (l : Ledger) (ws vs : List Name) (es : shared_words text names l ≡ words_of ws) (ev : row_words text names l ≡ words_of vs)
    (el : l.shared ≡ length ws) (xs : List Command) where
  abbrev shareds : List Word
  shareds = words_of ws

  abbrev rows : List Word
  rows = words_of vs

  abbrev parts : ℕ → List (List ℕ)
  parts a = map (command_words shareds rows a) xs

  commands_are : (a : ℕ) → parts a ≡ map (command_code a) (map (command_of shareds rows) xs)
  commands_are a = sym (map-map (command_code a) (command_of shareds rows) xs)

  stars_are_lem : map (stars_in shareds rows) xs ≡ map (λ k. length (M.stars k)) (map (command_of shareds rows) xs)
  stars_are_lem = map_same (stars_in shareds rows) (λ x. length (M.stars (command_of shareds rows x))) go xs ∙ sym (map-map (λ k. length (M.stars k)) (command_of shareds rows) xs)
    where
      go : (x : Command) → stars_in shareds rows x ≡ length (M.stars (command_of shareds rows x))
      go (command' n e ys zs) = command-next shareds rows n e ys zs

  pub stars_layout : (p q : Clause) → map (stars_in shareds rows) xs ≡ (layout_of (model_of (tree' ws vs p q xs))).stars
  unfolding layout_of model_of
  stars_layout p q = stars_are_lem

  -- the segments: those of the clauses, and then the commands
  four_of : (a b c d : Expr) → (Expr → List ℕ) → List (List ℕ)
  four_of a b c d f = f a ∷ f b ∷ f c ∷ f d ∷ []

  segments_are : (a b c d : Expr) → four_of a b c d (λ e. expr_code l.shared (expr_of shareds rows e 0).is) ++ parts l.shared ≡ segments (model_of (tree' ws vs (clause' a b) (clause' c d) xs))
  unfolding segments model_of clause_of four_of
  segments_are a b c d =
      ap (λ (k : ℕ). four_of a b c d (λ e. expr_code k (expr_of shareds rows e 0).is) ++ parts k) el
      ∙ ap (λ (z : List (List ℕ)). four_of a b c d (λ e. expr_code (length ws) (expr_of shareds rows e 0).is) ++ z) (commands_are (length ws))

  pub code_layout : (p q : Clause) → Regular (model_of (tree' ws vs p q xs)) →
      (paired (clause_words text names l) (clause_words text names l) 0 (pair_of p q)).is ++ joined (parts l.shared) ≡ (layout_of (model_of (tree' ws vs p q xs))).code
  unfolding layout_of model_of clause_of four_of
  code_layout (clause' a b) (clause' c d) r =
      ap (λ (z : List ℕ). z ++ joined (parts l.shared)) (clauses-code text names l shareds rows es ev a b c d r.start_whole r.start_each r.keep_whole r.keep_each)
      ∙ sym (joined-append (four_of a b c d (λ e. expr_code l.shared (expr_of shareds rows e 0).is)) (parts l.shared)) ∙ ap joined (segments_are a b c d)

  pub ends_layout : (p q : Clause) → Regular (model_of (tree' ws vs p q xs)) →
      (clause_ends text names l 0 0 p ++ clause_ends text names l (clause_words text names l 0 p).next (0 + length (clause_words text names l 0 p).is) q)
      ++ ends_from (0 + length (paired (clause_words text names l) (clause_words text names l) 0 (pair_of p q)).is) (parts l.shared) ≡ (layout_of (model_of (tree' ws vs p q xs))).ends
  unfolding layout_of model_of clause_of four_of
  ends_layout (clause' a b) (clause' c d) r =
      let f = four_of a b c d (λ e. expr_code l.shared (expr_of shareds rows e 0).is) in
      ap (λ (z : List ℕ). z ++ ends_from (0 + length (paired (clause_words text names l) (clause_words text names l) 0 (pair_of (clause' a b) (clause' c d))).is)
      (parts l.shared)) (clauses-ends text names l shareds rows es ev a b c d r.start_whole r.start_each r.keep_whole r.keep_each)
      ∙ ap (λ (z : List ℕ). ends_from 0 f ++ ends_from (0 + length z) (parts l.shared))
      (clauses-code text names l shareds rows es ev a b c d r.start_whole r.start_each r.keep_whole r.keep_each)
      ∙ sym (ends-append 0 f (parts l.shared)) ∙ ap (ends_from 0) (segments_are a b c d)

  pub names_are : (p q : Clause) → (ws ++ vs) ++ map title_of xs ≡ names_of (tree' ws vs p q xs)
  unfolding names_of
  names_are p q = append_assoc ws vs (map title_of xs)
