-- A text says at most one model, and the answer is the definitions' on every text.
-- Assumes nothing.
use mathlib.Core.Path.{◌≡◌, refl, sym, ◌∙◌, ap, subst}
use mathlib.Core.Bool.{Bool, true, false}
use mathlib.Core.List.{List}
use mathlib.Core.Logic.{◌↔◌, ◌⊎◌, inl, inr}
use Prim.Native.Nat.{ℕ, ◌≤◌}
use native.Mathlib.Omega.{arith}
use lib.Dec.{leb}
use lib.ListN.{length}
use borrow.Author.Tests.{leb-true, leb-false, le-leb, lt-leb}
use Rattle.notation.specs.Tokens.{Lexeme, Cut}
use Rattle.notation.specs.Case.{Recased}
use Rattle.notation.specs.Notation.{Tree}
use Rattle.notation.specs.Model.{Model}
use Rattle.notation.specs.Texts.{longest_text, model_of, TextSaysTree, TextSays, TextRefused, too_long, inside}
use Rattle.notation.specs.Promises.{OneTree, OneModel, OneAnswer, SaysIffAnswer, RefusedIffAnswer, CaseSaysNothing}
use Rattle.notation.specs.working.Lexing.{choose, tokens}
use Rattle.notation.specs.working.Machine.{Outcome, read, refused, reading}
use Rattle.notation.specs.working.Answer.{answer}
use Rattle.notation.proofs.Cuts.{cut-tokens}
use Rattle.notation.proofs.Case.{recased-length, tokens-recased}
use Rattle.notation.proofs.Outcomes.{says-read, refused-reading, reading-right, Rightly}

-- What the text is cut into is what the computation cuts it into.
cut-says : {text : List ℕ} {us : List Lexeme} → Cut 0 text us → tokens text ≡ us
cut-says {text} {us} c = (cut-tokens text us).0 c

pub says-answer : {text : List ℕ} {x : Tree} → TextSaysTree text x → answer text ≡ read x
unfolding answer
says-answer {text} s = rw (le-leb (length text) longest_text s.fits, cut-says s.cut) (says-read (length text) s.says)

pub refused-answer : {text : List ℕ} {n i : ℕ} → TextRefused text n i → answer text ≡ refused n i
unfolding answer
refused-answer {text} (too_long h) = rw (lt-leb (length text) longest_text h)
refused-answer {text} (inside us h c r) = rw (le-leb (length text) longest_text h, cut-says c) (refused-reading r)

-- Each text says a tree or has a first refusal, and the answer is which.
abbrev Right : List ℕ → Outcome → Type 0
Right text (read x) = TextSaysTree text x
Right text (refused n i) = TextRefused text n i

pub answer-right : (text : List ℕ) → Right text (answer text)
unfolding answer
answer-right text = go (leb (length text) longest_text) refl
  where
    cut : Cut 0 text (tokens text)
    cut = (cut-tokens text (tokens text)).1 refl

    inner : (o : Outcome) → length text ≤ longest_text → Rightly (length text) (tokens text) o → Right text o
    inner (read x) h s = record { fits = h; lexemes = tokens text; cut = cut; says = s }
    inner (refused n i) h r = inside (tokens text) h cut r

    go : (b : Bool) → leb (length text) longest_text ≡ b → Right text (choose b (λ u. reading (length text) (tokens text)) (λ u. refused 1 longest_text))
    go true e = inner (reading (length text) (tokens text)) (leb-true _ _ e) (reading-right (length text) (tokens text))
    go false e = too_long (leb-false _ _ e)

-- No text says two trees, and none says two models.
pub one-tree : OneTree
one-tree text x y s t = let e = says-answer s in let f = says-answer t in cc

pub one-model : OneModel
one-model text m n s t = sym s.meant ∙ ap model_of (one-tree text _ _ s.says t.says) ∙ t.meant

pub says_iff_answer : SaysIffAnswer
says_iff_answer text x = (says-answer, λ e. subst (Right text) e (answer-right text))

pub refused_iff_answer : RefusedIffAnswer
refused_iff_answer text n i = (refused-answer, λ e. subst (Right text) e (answer-right text))

pub one_answer : OneAnswer
one_answer text = record {
  some = go (answer text) (answer-right text);
  apart = λ m n i s r. let e = says-answer s.says in let f = refused-answer r in let z : ◌≡◌ {A = ℕ} 0 1 = cc in omega arith;
  once = λ n i m j r q. let e = refused-answer r in let f = refused-answer q in ((cc), (cc));
}
  where
    go : (o : Outcome) → Right text o → ((m : Model) × TextSays text m) ⊎ ((n i : ℕ) × TextRefused text n i)
    go (read x) s = inl (model_of x, record { tree = x; says = s; meant = refl })
    go (refused n i) r = inr (n, i, r)

-- Texts that differ only in the case of letters inside names have the same answer.
pub answers_recased : {a b : List ℕ} → Recased a b → answer a ≡ answer b
unfolding answer
answers_recased r = rw (recased-length r, tokens-recased r)

pub case_says_nothing : CaseSaysNothing
case_says_nothing a b r = record {
  trees = trees;
  models = λ m. (
    λ t. record { tree = t.tree; says = (trees t.tree).0 t.says; meant = t.meant },
    λ t. record { tree = t.tree; says = (trees t.tree).1 t.says; meant = t.meant },
  );
  refusals = λ n i. (
    λ t. (refused_iff_answer b n i).1 (sym (answers_recased r) ∙ refused-answer t),
    λ t. (refused_iff_answer a n i).1 (answers_recased r ∙ refused-answer t),
  );
}
  where
    trees : (x : Tree) → TextSaysTree a x ↔ TextSaysTree b x
    trees x = (λ s. (says_iff_answer b x).1 (sym (answers_recased r) ∙ says-answer s), λ s. (says_iff_answer a x).1 (answers_recased r ∙ says-answer s))
