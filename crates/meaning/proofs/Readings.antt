-- The examples that tell the meaning from its misreadings come out as they are said to.
-- Assumes nothing.
use mathlib.Core.Path.{◌≡◌, refl, sym, ap, ◌∙◌}
use mathlib.Core.Logic.{inl, inr}
use mathlib.Core.Bool.{Bool, true, false, true≢false}
use mathlib.Core.List.{List, [], ◌∷◌}
use Prim.Native.Nat.{ℕ, zero, suc, ◌<◌, zero-le, suc-le-suc}
use native.Mathlib.Nat.{not-suc-le-zero}
use native.Mathlib.Omega.{arith}
use lib.Dec.{lit<}
use lib.ListN.{length, get_or, set}
use Rattle.notation.specs.Bytes.{bytes, in_lower_case, same_word}
use Rattle.notation.specs.Tokens.{reserved, word_in, word_token}
use Rattle.notation.specs.Rules.{same_kind, allowed, name_counts, has, elem}
use Rattle.notation.specs.Rules as R
use Rattle.notation.specs.Model.{stars_expr, stars_items, stars}
use Rattle.notation.specs.Texts.{TextSays, expr_of, row_item_of, row_items_of, item_of, items_of, command_of, clause_of, model_of, place_of, among, name_of}
use Rattle.meaning.specs.Bits.{bit, number}
use Rattle.meaning.specs.Meaning.{Row, State, Move, eval, run_row, run_item, run_items, step, command_at, each_of, IsStart, Breaks, AreSteps, last, Choice}
use Rattle.meaning.specs.OneRow.{One, the_row, state_number, spread, spread_word, starts, breaks, next, last_of}
use Rattle.meaning.specs.Evidence.{in_map, void_by, NotFromZero}
use Rattle.meaning.specs.Readings.{StarByRow, ConditionByRow, ItemsInOrder, RowsByThemselves, parting, unlike, parts, upper, BreakAtStart, cured, UnreachedMember, still, ZeroRows, barred, barred_text}
use Rattle.meaning.specs.working.Conditions.{every, implies, test_a, test_b, words_stay, closed_at, test_c}
use Rattle.meaning.proofs.Accept.{all-tests_tell}
use Rattle.meaning.proofs.Number.{spread-state_number}
use Rattle.meaning.proofs.OneRow.{starts_tell}
use Rattle.notation.proofs.Texts.{says_iff_answer}
use Rattle.notation.specs.working.Lexing.{span, mark, front, lexemes, tokens_from}
use Rattle.notation.specs.working.Ledger.{tally, note, exceeds, fault}
use Rattle.notation.specs.working.Table as L
use Rattle.notation.specs.working.Table.{lines, skips, find, ending}
use Rattle.notation.specs.working.Machine.{reads}
use Rattle.notation.specs.working.Answer.{answer}

pub star_by_row : StarByRow
unfolding step run_items run_item run_row eval
star_by_row = (refl, refl)

pub condition_by_row : ConditionByRow
unfolding step run_items run_item run_row eval
condition_by_row = (refl, refl)

pub items_in_order : ItemsInOrder
unfolding step run_items run_item run_row eval
items_in_order = (refl, refl, refl)

unlike-fits : (i : Row 2) → length (unlike.rows i) ≡ 2
unlike-fits (zero, h) = refl
unlike-fits (suc n, h) = refl

unlike-starts : (i : Row 2) → each_of parting.start unlike i ≡ true
unfolding eval
unlike-starts (zero, h) = refl
unlike-starts (suc n, h) = refl

parts-rows : (i : Row 2) → parts.after.rows i ≡ (step (command_at parting 0) parts.choice unlike).rows i
unfolding step run_items run_item run_row eval
parts-rows (zero, h) = refl
parts-rows (suc n, h) = refl

pub rows_by_themselves : RowsByThemselves
unfolding step run_items run_item run_row eval
rows_by_themselves =
    record {
      run = record {
        start = record { fits = record { shared_bits = refl; row_bits = unlike-fits }; whole = refl; each = unlike-starts };
        steps = (suc-le-suc zero-le, (λ t. record { shared = []; rows = λ i. parts-rows i t }), tt);
      };
      breaks = inr (upper, refl);
      lower_keeps = refl;
    }

-- Whatever it was, bit 0 is false once it was set to false.
cleared : (g : List Bool) → get_or (set g 0 false) 0 false ≡ false
cleared [] = refl
cleared (b ∷ bs) = refl

cured-after : {I : Type 0} (k : ℕ) → k < 1 → (c : Choice I) (s : State I) → get_or (step (command_at cured k) c s).shared 0 false ≡ false
unfolding step run_items run_item eval
cured-after zero h c s = cleared s.shared
cured-after (suc k) h c s = absurd (omega arith)

cured-for_good : {I : Type 0} (s : State I) (x : Move I) (xs : List (Move I)) → AreSteps cured s (x ∷ xs) → ¬ (Breaks cured (last s (x ∷ xs)))
unfolding eval
cured-for_good s x (y ∷ ys) h b = cured-for_good x.after y ys h.2 b
cured-for_good s x [] h (inr b) = true≢false b.1
cured-for_good s x [] h (inl b) =
    let e : get_or x.after.shared 0 false ≡ false = rw h.1 (cured-after x.command h.0 x.choice s) in
    true≢false (rw e at b)

pub break_at-start : BreakAtStart
unfolding last_of starts breaks bit spread eval
break_at-start = (
  record {
    start_fits = lit< tt;
    steps_fit = tt;
    starts = ((all-tests_tell cured).tells_d 1).0 refl;
    steps = tt;
    breaks = ((all-tests_tell cured).tells_f 1 []).0 refl;
  },
  λ n s x xs r. cured-for_good s x xs r.steps,
)

-- Nothing ever changes in `still`.
still_after : (k : ℕ) → k < 1 → (c : Choice One) (s : State One) → step (command_at still k) c s ≡ s
unfolding step run_items run_item eval
still_after zero h c s = refl
still_after (suc k) h c s = absurd (omega arith)

still-last : (s : State One) (xs : List (Move One)) → AreSteps still s xs → last s xs ≡ s
still-last s [] h = refl
still-last s (x ∷ xs) h = still-last x.after xs h.2 ∙ h.1 ∙ still_after x.command h.0 x.choice s

still-start : starts still 1 ≡ false
unfolding starts bit spread eval
still-start = refl

pub unreached_member : UnreachedMember
unfolding test_a test_b test_c closed_at words_stay every implies starts breaks next in_map bit number spread spread_word state_number step run_items run_item eval stars stars_items stars_expr
unreached_member = (
  λ s xs r e.
      let f = r.start in
      let n : state_number s ≡ 1 = sym (ap state_number (still-last s xs r.steps)) ∙ e in
      let q : spread still One 1 ≡ s = sym (ap (spread still One) n) ∙ spread-state_number still s f.fits in
      true≢false (sym ((starts_tell still 1).1 (rw q f)) ∙ still-start),
  ((all-tests_tell still).tells_a (3 ∷ [])).0 refl,
  ((all-tests_tell still).tells_c (3 ∷ [])).0 refl,
  λ p. true≢false (sym (((all-tests_tell still).tells_b (3 ∷ [])).1 p)),
)

barred-says : TextSays barred_text barred
unfolding bytes in_lower_case same_word reserved word_in word_token same_kind allowed name_counts R.view has elem place_of among name_of expr_of row_item_of row_items_of item_of items_of
    command_of clause_of model_of span mark front lexemes tokens_from tally note exceeds fault lines skips find L.step ending reads answer
barred-says = record { tree = _; says = (says_iff_answer barred_text _).1 refl; meant = refl }

-- Without rows nothing has to hold in each of them.
rowless : State (Row 0)
rowless = record { shared = []; rows = λ i. [] }

rowless_starts : IsStart barred rowless
unfolding eval rowless
rowless_starts =
    record { fits = record { shared_bits = refl; row_bits = λ i. refl }; whole = refl; each = λ i. absurd (not-suc-le-zero i.1) }

pub zero_rows : ZeroRows
unfolding test_a test_b test_c closed_at words_stay every implies starts breaks next in_map bit number spread spread_word state_number step run_items run_item eval stars stars_items stars_expr
zero_rows = record {
  says = barred-says;
  passes = (
    record {
      starts = ((all-tests_tell barred).tells_a (0 ∷ [])).0 refl;
      keeps = ((all-tests_tell barred).tells_b (0 ∷ [])).0 refl;
      closed = ((all-tests_tell barred).tells_c (0 ∷ [])).0 refl;
    },
    λ q. true≢false (sym (q.1.each the_row)),
  );
  starts = (rowless, rowless_starts);
  wrong = (rowless, [], record { start = rowless_starts; steps = tt }, inl refl);
}

-- Void is said of a table without rows that can start.
pub not-from_zero : NotFromZero
not-from_zero c =
    let z = zero_rows in
    (c barred_text barred z.says (void_by (0 ∷ [])) z.passes 0 0 zero-le zero-le).here.0 z.starts
