-- The lines that are written, and how long they are.
-- Assumes nothing.
use mathlib.Core.Bool.{Bool, true, false, cond}
use mathlib.Core.Logic.{◌⊎◌, inl, inr}
use mathlib.Core.Path.{◌≡◌, refl, sym, ap, ◌∙◌}
use mathlib.Core.List.{List}
use Prim.Native.Nat.{ℕ, ◌+◌, ◌<◌, ◌≤◌}
use native.Mathlib.Omega.{arith}
use lib.Dec.{eqb, ltb}
use lib.ListN.{length, get_or, take, drop}
use lib.Seq.{sets, sets-eq, take-append_seam}
use borrow.Author.Tests.{eq-eqb, ne_eqb, lt-ltb, le-ltb}
use Rattle.notation.specs.Tokens.{Word}
use Rattle.notation.specs.working.Answer.{answer}
use Rattle.refusals.specs.declared.Reason.{Reason}
use Rattle.refusals.specs.declared.Reason.TheVariants.{BadWidth}
use Rattle.refusals.specs.declared.Refusal.{Refusal}
use Rattle.refusals.specs.Reasons.{number_of}
use Rattle.conditions.specs.declared.outcome.Declined.{Declined}
use Rattle.std.specs.Prelude.{Result, Ok, Err}
use Rattle.windows.specs.Questions.{Wording, steps, burst, refused, told, wording_of}
use Rattle.windows.specs.Promises.{answer_of, counts_after}
use Rattle.windows.specs.declared.record.Answer.{Answer}
use Rattle.windows.specs.declared.record.Answer.TheVariants as A
use Rattle.windows.specs.declared.record.Unanswered.{Unanswered}
use Rattle.windows.specs.declared.record.Unanswered.TheVariants as U
use Rattle.windows.specs.declared.record.Question.TheVariants.{Steps, Burst}
use Rattle.windows.specs.declared.record.Reply.{Reply}
use Rattle.windows.specs.working.Surveying.{blanks, survey_of}
use Rattle.lines.specs.Lines.{decimal_of, refusal_line}
use Rattle.lines.proofs.Digits.{digits-within}
use Rattle.lines.proofs.LineLengths.{four_words}
use Rattle.lines.proofs.Parts.{refusal-short}
use Rattle.wording.specs.Lines.{line_of_declined}
use Rattle.wording.proofs.Spelling.{declined-short}
use Rattle.bursts.specs.working.Writing.{line_for, answer_line, called_in, commands_in, table_of, with_width, after_test, bursts_of}
use Rattle.bursts.proofs.LinesLeft.{lines-short}
use Rattle.bursts.proofs.NamesListed.{called-short, few-commands}

-- A name of at most 16 bytes and three numbers of at most 20 digits.
line-short : (called : Word) (count : ℕ) (w : Wording) → length called ≤ 16 → length (line_for called count w) ≤ 80
unfolding line_for
line-short called count (steps n) h = omega arith
line-short called count (burst most place) h =
    omega (arith, four_words called (decimal_of count) (decimal_of most) (decimal_of place), digits-within 19 count, digits-within 19 most, digits-within 19 place)
line-short called count (refused n) h = omega arith
line-short called count (told tested) h = omega arith

table-short : (text b : List ℕ) (w : ℕ) → length (table_of text b w) ≤ 1280
table-short text b w =
    let counts = counts_after Steps text b blanks in
    let n = commands_in (answer text) in
    omega (
      arith,
      few-commands text,
      lines-short (answer_line (called_in text (answer text)) counts text b w) n
          (λ k h. line-short (called_in text (answer text) k) (get_or counts k 0) (answer_of (Burst k w) text b blanks) (called-short text k h)) 0 n (omega arith),
    )

refused-short : (b : Bool) (lines : List ℕ) → length lines ≤ 1280 → length (cond b (refusal_line 16 0) lines) ≤ 1280
refused-short true lines h = omega (arith, refusal-short 16 0)
refused-short false lines h = h

width-short : (w : ℕ) (lines : List ℕ) → length lines ≤ 1280 → length (with_width w lines) ≤ 1280
unfolding with_width
width-short w lines h = refused-short (eqb w 0) (cond (ltb 4095 w) (refusal_line 16 0) lines) (refused-short (ltb 4095 w) lines h)

all-short : (known : Result Answer Unanswered) (lines : List ℕ) → length lines ≤ 1280 → length (after_test (wording_of known) lines) ≤ 1280
unfolding after_test wording_of
all-short (Ok (A.Steps n)) lines h = h
all-short (Ok (A.Burst most place)) lines h = h
all-short (Err (U.Refused r)) lines h = omega (arith, refusal-short (number_of r) 0)
all-short (Err (U.Declined d)) lines h = omega (arith, declined-short d)

-- There is room for all that is written.
pub bursts_short : (text b : List ℕ) (w : ℕ) → length (bursts_of text b w) ≤ 1280
unfolding bursts_of
bursts_short text b w = all-short (survey_of Steps text b blanks).reply.answer (with_width w (table_of text b w)) (width-short w (table_of text b w) (table-short text b w))

-- The line of the answer that the code has.
pub line_as : (called : ℕ → Word) (counts text b : List ℕ) (w k occurs : ℕ) (reply : Reply) → occurs ≡ get_or counts k 0 → reply ≡ (survey_of (Burst k w) text b blanks).reply
    → line_for (called k) occurs (wording_of reply.answer) ≡ answer_line called counts text b w k
line_as called counts text b w k occurs reply e f =
    ap (λ n. line_for (called k) n (wording_of reply.answer)) e ∙ ap (λ (r : Reply). line_for (called k) (get_or counts k 0) (wording_of r.answer)) f

-- A width out of range, and one in range.
module _ (w : ℕ) (lines : List ℕ) where
  pub no_width : w ≡ 0 → refusal_line 16 0 ≡ with_width w lines
  unfolding with_width
  no_width e = rw (eq-eqb w 0 e) refl

  module _ (some : w ≡ 0 → ⊥) where
    pub too_wide : 4095 < w → refusal_line 16 0 ≡ with_width w lines
    unfolding with_width
    too_wide h = rw (ne_eqb w 0 some, lt-ltb 4095 w h) refl

    pub in_range_lem : w ≤ 4095 → lines ≡ with_width w lines
    unfolding with_width
    in_range_lem h = rw (ne_eqb w 0 some, le-ltb 4095 w h) refl

-- What the code refuses.
pub width-refused : (w : ℕ) (lines : List ℕ) → (w ≡ 0) ⊎ ((w ≡ 0 → ⊥) × (4095 < w)) → (r : Refusal) → r ≡ record { reason = BadWidth; place = 0 }
    → refusal_line (number_of r.reason) r.place ≡ with_width w lines
unfolding number_of
width-refused w lines (inl e) r q = ap (λ (x : Refusal). refusal_line (number_of x.reason) x.place) q ∙ no_width w lines e
width-refused w lines (inr h) r q = ap (λ (x : Refusal). refusal_line (number_of x.reason) x.place) q ∙ too_wide w lines h.0 h.1

-- All that is written, by what is answered to the question for the steps.
module _ (text b : List ℕ) (w : ℕ) (reply : Reply) (same : reply ≡ (survey_of Steps text b blanks).reply) where
  abbrev lines : List ℕ
  lines = with_width w (table_of text b w)

  by_answer : (known : Result Answer Unanswered) → reply.answer ≡ known → after_test (wording_of known) lines ≡ bursts_of text b w
  unfolding bursts_of
  by_answer known e = ap (λ (x : Result Answer Unanswered). after_test (wording_of x) lines) (sym e) ∙ ap (λ (x : Reply). after_test (wording_of x.answer) lines) same

  by_kind : (a : Answer) → after_test (wording_of (Ok a)) lines ≡ lines
  unfolding after_test wording_of
  by_kind (A.Steps n) = refl
  by_kind (A.Burst most place) = refl

  pub by_lines : (a : Answer) → reply.answer ≡ Ok a → lines ≡ bursts_of text b w
  by_lines a e = sym (by_kind a) ∙ by_answer (Ok a) e

  pub by_refusal : (n : Reason) → reply.answer ≡ Err (U.Refused n) → (r : Refusal) → r ≡ record { reason = n; place = 0 } → refusal_line (number_of r.reason) r.place ≡ bursts_of text b w
  unfolding after_test wording_of
  by_refusal n e r q = ap (λ (x : Refusal). refusal_line (number_of x.reason) x.place) q ∙ by_answer (Err (U.Refused n)) e

  pub by_declined : (d : Declined) → reply.answer ≡ Err (U.Declined d) → line_of_declined d ≡ bursts_of text b w
  unfolding after_test wording_of
  by_declined d e = by_answer (Err (U.Declined d)) e

-- What was put at a buffer's front, taken from it.
pub front : (l v : List ℕ) → length v ≤ length l → take (length v) (sets l 0 v) ≡ v
front l v h =
    let k : 0 + length v ≤ length l = omega arith in
    ap (take (length v)) (sets-eq v l 0 k) ∙ take-append_seam v (drop (0 + length v) l)
