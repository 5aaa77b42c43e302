-- What is written of every text, all bytes and every width.
-- Assumes nothing.
use mathlib.Core.Bool.{Bool, true, false}
use mathlib.Core.Logic.{◌⊎◌, inl, inr}
use mathlib.Core.Path.{◌≡◌, refl, sym, ap, ◌∙◌, subst}
use mathlib.Core.List.{List, []}
use Prim.Native.Nat.{ℕ, ◌<◌, ◌≤◌}
use native.Mathlib.Omega.{arith}
use lib.Dec.{leb}
use lib.ListN.{length, get_or, replicate, length-map, length-replicate}
use borrow.Author.Tests.{ne_eqb, lt-leb, le-ltb, leb-true, leb-false}
use Rattle.notation.specs.Notation.{Tree}
use Rattle.notation.specs.Model.{Model}
use Rattle.notation.specs.Regular.{Regular}
use Rattle.notation.specs.Texts.{TextSays, TextSaysTree, model_of}
use Rattle.notation.specs.working.Machine as N
use Rattle.notation.proofs.Texts.{says-answer}
use Rattle.notation.proofs.Regular.{all_regular}
use Rattle.meaning.proofs.Number.{first-at}
use Rattle.meaning.specs.OneRow.{TraceStep}
use Rattle.meaning.specs.Evidence.{Sheet, safe, trace}
use Rattle.sheets.specs.Sheets.{system_of}
use Rattle.sheets.specs.SheetTexts.{AreBytes, SheetSays}
use Rattle.sheets.proofs.SheetAnswers.{one_answer}
use Rattle.conditions.specs.Outcomes as O
use Rattle.acceptance.specs.Promises.{answer_to}
use Rattle.acceptance.proofs.TestMeans.{numbers_fit}
use Rattle.traces.specs.Passed.{TracePassed}
use Rattle.traces.proofs.PassedTold.{the_trace_lem}
use Rattle.windows.specs.Bursts.{commands_of, occurs, counts_of}
use Rattle.windows.specs.Questions.{fault_of, refusal_of, Wording, steps, told, answer_for}
use Rattle.windows.specs.Promises.{answer_of, counts_after, list_after, OnTrace, Bounded}
use Rattle.windows.specs.declared.record.Step.{Step}
use Rattle.windows.specs.declared.record.Question.{Question}
use Rattle.windows.specs.declared.record.Question.TheVariants.{Steps, Burst}
use Rattle.windows.specs.working.Surveying.{blank, blanks}
use Rattle.windows.proofs.SurveyNumbers.{surveys_bounded}
use Rattle.windows.proofs.SurveysTold as S
use Rattle.lines.specs.Lines.{refusal_line}
use Rattle.wording.specs.Lines.{spelt}
use Rattle.names.specs.Names.{command_name}
use Rattle.bursts.specs.Lines.{command_line, lines_from}
use Rattle.bursts.specs.Widths.{capped}
use Rattle.bursts.specs.working.Writing.{line_for, answer_line, called_in, commands_in, table_of, with_width, after_test, bursts_of}
use Rattle.bursts.specs.Promises.{BurstsTell, RefusalTells, CappedAlike}
use Rattle.bursts.proofs.LinesLeft.{same_lines}
use Rattle.bursts.proofs.LinesPut.{no_width, too_wide, in_range_lem}

blanks-length : length blanks ≡ 6551
unfolding blanks
blanks-length = length-replicate 6551 blank

-- The steps of a sheet's contents.
abbrev steps_of : Sheet → List TraceStep
steps_of (safe map) = []
steps_of (trace s xs) = xs

-- By what is answered to the question for the steps.
by_answer : (text b : List ℕ) (w : ℕ) (known : Wording) → answer_of Steps text b blanks ≡ known → bursts_of text b w ≡ after_test known (with_width w (table_of text b w))
unfolding bursts_of
by_answer text b w known e = ap (λ (x : Wording). after_test x (with_width w (table_of text b w))) e

by_steps : (text b : List ℕ) (w n : ℕ) → answer_of Steps text b blanks ≡ steps n → bursts_of text b w ≡ with_width w (table_of text b w)
unfolding after_test
by_steps text b w n e = by_answer text b w (steps n) e

by_outcome : (text b : List ℕ) (w : ℕ) (tested : O.Wording) → answer_of Steps text b blanks ≡ told tested → bursts_of text b w ≡ spelt tested
unfolding after_test
by_outcome text b w tested e = by_answer text b w (told tested) e

module _ (text : List ℕ) (x : Tree) (says : TextSaysTree text x) (b : List ℕ) (hb : AreBytes b) where
  abbrev m : Model
  m = model_of x

  said : TextSays text m
  said = record { tree = x; says = says; meant = refl }

  regular : Regular m
  regular = all_regular text m said

  -- A trace that passes: whatever is asked is answered about its steps.
  module _ (holds : TracePassed (answer_to text b)) (s : ℕ) (xs : List TraceStep) (sheet : SheetSays (system_of m) b (trace s xs)) where
    abbrev On : Question → List Step → List TraceStep → Type 0
    On q list ys = OnTrace m ys q list (answer_of q text b list) (counts_after q text b list) (list_after q text b list)

    on : (q : Question) (list : List Step) → On q list xs
    on q list =
        let (t, ys, v, o) = (S.surveys_tell text m said b hb q list).on_trace holds in
        let same : trace t ys ≡ trace s xs = (one_answer (system_of m) (numbers_fit m regular) b hb).one_contents (trace t ys) (trace s xs) v sheet in
        subst (On q list) (ap steps_of same) o

    -- There are no more steps than the list has places.
    abbrev commands : ℕ
    commands = length m.commands

    enough : (list : List Step) → length xs ≤ length list → refusal_of Steps commands (length list) (length xs) ≡ 0
    unfolding refusal_of fault_of
    enough list h = rw (le-ltb (length list) (length xs) h) refl

    few : length xs ≤ 6551
    unfolding answer_for
    few =
        let list = replicate (length xs) blank in
        let h : length xs ≤ length list = omega (arith, length-replicate (length xs) blank) in
        let k = subst Bounded ((on Steps list).answered (enough list h)).0 (surveys_bounded text b Steps list) in
        omega (arith, k, length-map xs (λ (y : TraceStep). y.command))

    counted : (answer_of Steps text b blanks ≡ steps (length (commands_of xs))) × (counts_after Steps text b blanks ≡ counts_of (commands_of xs))
    unfolding answer_for
    counted =
        let a = (on Steps blanks).answered (enough blanks (omega (arith, few, blanks-length))) in
        (a.0, a.1)

    module _ (w : ℕ) (low : 1 ≤ w) (high : w ≤ 4095) where
      not-refused : (k : ℕ) → k < commands → refusal_of (Burst k w) commands (length blanks) (length xs) ≡ 0
      unfolding refusal_of fault_of
      not-refused k h =
          rw (le-ltb (length blanks) (length xs) (omega (arith, few, blanks-length)), lt-leb commands k h, ne_eqb w 0 (λ e. omega (arith, e, low)), le-ltb 4095 w high) refl

      -- The line of command k.
      line-told : (k : ℕ) → k < commands → answer_line (command_name text x) (counts_after Steps text b blanks) text b w k ≡ command_line text x w (commands_of xs) k
      unfolding line_for answer_for counts_of
      line-told k h =
          let c : get_or (counts_after Steps text b blanks) k 0 ≡ occurs k (commands_of xs) =
          ap (λ (l : List ℕ). get_or l k 0) counted.1 ∙ first-at 16 (λ i. occurs i (commands_of xs)) 0 k (omega (arith, h, regular.few_commands)) in
          ap (λ n. line_for (command_name text x k) n (answer_of (Burst k w) text b blanks)) c
          ∙ ap (line_for (command_name text x k) (occurs k (commands_of xs))) ((on (Burst k w) blanks).answered (not-refused k h)).0

      table-told : table_of text b w ≡ lines_from (command_line text x w (commands_of xs)) 0 commands
      unfolding called_in commands_in
      table-told =
          ap (λ (o : N.Outcome). lines_from (answer_line (called_in text o) (counts_after Steps text b blanks) text b w) 0 (commands_in o)) (says-answer says)
          ∙ same_lines (answer_line (command_name text x) (counts_after Steps text b blanks) text b w) (command_line text x w (commands_of xs)) 0 commands (λ k h. line-told k (omega (arith, h)))

      lines-told : bursts_of text b w ≡ lines_from (command_line text x w (commands_of xs)) 0 commands
      lines-told = by_steps text b w _ counted.0 ∙ sym (in_range_lem w (table_of text b w) (λ e. omega (arith, e, low)) high) ∙ table-told

    refusal-told : (w : ℕ) → (w ≡ 0) ⊎ (4095 < w) → bursts_of text b w ≡ refusal_line 16 0
    refusal-told w (inl e) = by_steps text b w _ counted.0 ∙ sym (no_width w (table_of text b w) e)
    refusal-told w (inr h) = by_steps text b w _ counted.0 ∙ sym (too_wide w (table_of text b w) (λ e. omega (arith, e, h)) h)

pub bursts_tell : BurstsTell
bursts_tell text x says b hb w =
    record {
      in_range = λ holds low high.
          let (s, xs, v, t) = the_trace_lem text (model_of x) (said text x says b hb) b hb holds in
          (s, xs, v, lines-told text x says b hb holds s xs v w low high);
      out_of_range = λ holds h.
          let (s, xs, v, t) = the_trace_lem text (model_of x) (said text x says b hb) b hb holds in
          refusal-told text x says b hb holds s xs v w h;
      no_trace = λ h. by_outcome text b w (answer_to text b) ((S.surveys_tell text (model_of x) (said text x says b hb) b hb Steps blanks).no_trace h).0;
    }

pub refusal-tells : RefusalTells
unfolding spelt
refusal-tells text n i r b w = by_outcome text b w (O.returned n i) (S.refusal-tells text n i r b Steps blanks).0

-- Two widths out of range are refused alike.
pub capped-alike : CappedAlike
unfolding bursts_of
capped-alike text b n = by_test (leb n 4096) refl
  where
    by_test : (t : Bool) → leb n 4096 ≡ t → bursts_of text b (capped n) ≡ bursts_of text b n
    by_test true e = let h : capped n ≡ n = omega (arith, leb-true n 4096 e) in ap (bursts_of text b) h
    by_test false e =
        let h : 4096 < n = leb-false n 4096 e in
        let f : capped n ≡ 4096 = omega (arith, h) in
        ap (λ k. after_test (answer_of Steps text b blanks) k)
        (ap (λ k. with_width k (table_of text b k)) f
        ∙ sym (too_wide 4096 (table_of text b 4096) (λ z. omega (arith, z)) (omega arith))
        ∙ too_wide n (table_of text b n) (λ z. omega (arith, z, h)) (omega (arith, h)))
