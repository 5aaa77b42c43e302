-- The answer to a text is a model or a refusal exactly as the definitions of texts say.
-- Assumes nothing.
use Rattle.std.specs.Prelude.{Ok, Err}
use mathlib.Core.Path.{◌≡◌, refl, sym, ap, ◌∙◌}
use mathlib.Core.List.{List}
use Prim.Native.Nat.{ℕ}
use native.Mathlib.Omega.{arith}
use lib.ListN.{length}
use Rattle.notation.specs.Notation.{Tree}
use Rattle.notation.specs.Model.{Model}
use Rattle.notation.specs.Texts.{TextSaysTree, TextSays, TextRefused, model_of, names_of}
use Rattle.notation.specs.Layout.{layout_of}
use Rattle.notation.specs.working.Machine.{Outcome, read, refused}
use Rattle.notation.specs.working.Answer.{answer}
use Rattle.notation.proofs.Texts.{says-answer, refused-answer, says_iff_answer, refused_iff_answer, answers_recased}
use Rattle.refusals.specs.Reasons.{number_of, reason_of, refusal_of}
use Rattle.refusals.proofs.Texts.{text_reason}
use Rattle.reader.specs.Read.{code_of, reading_in, reading_of, code_in}
use Rattle.reader.specs.Answers.{model, returned, wording_of}
use Rattle.reader.specs.Promises.{Counted, Answers, ReadAnswers, ReadWithoutCase}

-- The reading of a text that says a tree, and of one that is refused.
pub reading-read : {text : List ℕ} {x : Tree} → TextSaysTree text x → reading_of text ≡ Ok (code_of (layout_of (model_of x)) (names_of x))
unfolding reading_in
reading-read s = ap reading_in (says-answer s)

pub reading-refused : {text : List ℕ} {n i : ℕ} → TextRefused text n i → reading_of text ≡ Err (refusal_of n i)
unfolding reading_in
reading-refused r = ap reading_in (refused-answer r)

-- What the answer is called where a tree was read.
called : (x : Tree) → wording_of (reading_in (read x)) ≡ model (model_of x).shared_names (model_of x).row_names (length (model_of x).commands)
unfolding reading_in wording_of code_of layout_of
called x = refl

module _ (text : List ℕ) where
  was_read_lem : (o : Outcome) → answer text ≡ o → (a b k : ℕ) → wording_of (reading_in o) ≡ model a b k → (m : Model) × TextSays text m × Counted m a b k
  unfolding reading_in wording_of
  was_read_lem (read x) e a b k h =
      let g = sym (called x) ∙ h in
      (model_of x, record { tree = x; says = (says_iff_answer text x).1 e; meant = refl }, ((cc), (cc), (cc)))
  was_read_lem (refused n i) e a b k h = let z : ◌≡◌ {A = ℕ} 0 1 = cc in absurd (omega arith)

  was_refused_lem : (o : Outcome) (n i : ℕ) → answer text ≡ o → wording_of (reading_in o) ≡ returned n i → TextRefused text n i
  unfolding reading_in wording_of
  was_refused_lem (read x) n i e h = let z : ◌≡◌ {A = ℕ} 0 1 = cc in absurd (omega arith)
  was_refused_lem (refused m j) n i e h =
      let k : number_of (reason_of m) ≡ m = text_reason text m j e in
      let f : refused m j ≡ refused n i = cc in
      (refused_iff_answer text n i).1 (e ∙ f)

  pub model_called : (m : Model) → TextSays text m → wording_of (reading_of text) ≡ model m.shared_names m.row_names (length m.commands)
  model_called m s =
      ap (λ (o : Outcome). wording_of (reading_in o)) (says-answer s.says)
      ∙ called s.tree
      ∙ ap (λ (n : Model). model n.shared_names n.row_names (length n.commands)) s.meant

  pub refusal_called : (n i : ℕ) → TextRefused text n i → wording_of (reading_of text) ≡ returned n i
  unfolding wording_of
  refusal_called n i r =
      ap wording_of (reading-refused r) ∙ ap (λ (k : ℕ). returned k i) (text_reason text n i (refused-answer r))

  pub answers : Answers text
  answers = record {
    reads = λ a b k. (λ h. was_read_lem (answer text) refl a b k h, λ (m, s, (p, q, r)). model_called m s ∙ rw (p, q, r));
    code = λ x s. reading-read s;
    refuses = λ n i. (λ h. was_refused_lem (answer text) n i refl h, refusal_called n i);
    empty = λ n i r. ap code_in (reading-refused r);
  }

pub read_answers : ReadAnswers
read_answers text = answers text

pub read_without_case : ReadWithoutCase
read_without_case text other r = ap reading_in (answers_recased r)
