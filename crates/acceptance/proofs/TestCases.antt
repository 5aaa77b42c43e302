-- The table of cases holds: the definitions compute every row of it, from the bytes of the text and of the sheet.
-- Assumes nothing.
use mathlib.Core.Path.{◌≡◌, refl}
use mathlib.Core.List.{List, [], ◌∷◌, map}
use Rattle.notation.specs.Bytes.{bytes, in_lower_case, same_word}
use Rattle.notation.specs.Tokens.{reserved, word_in, word_token}
use Rattle.notation.specs.Rules.{same_kind, allowed, name_counts, view, has, elem}
use Rattle.notation.specs.Model.{stars_expr, stars_row, stars_items, stars}
use Rattle.notation.specs.Regular.{Every}
use Rattle.notation.specs.Texts.{place_of, among, name_of, expr_of, row_item_of, row_items_of, item_of, items_of, command_of, clause_of, model_of}
use Rattle.notation.specs.working.Lexing.{span, mark, front, lexemes, tokens_from}
use Rattle.notation.specs.working.Ledger.{tally, note, exceeds, fault}
use Rattle.notation.specs.working.Table as T
use Rattle.notation.specs.working.Table.{lines, skips, find, ending}
use Rattle.notation.specs.working.Machine.{reads}
use Rattle.notation.specs.working.Answer.{answer}
use Rattle.meaning.specs.Bits.{bit, number}
use Rattle.meaning.specs.Meaning.{eval, run_row, run_item, run_items, step}
use Rattle.meaning.specs.OneRow.{state_number, spread, spread_word, starts, breaks, next, last_of}
use Rattle.meaning.specs.Evidence.{in_map}
use Rattle.meaning.specs.working.Conditions.{every, implies, test_void, test_a, test_b, words_stay, closed_at, test_c, test_e}
use Rattle.sheets.specs.Sheets.{map_length}
use Rattle.sheets.specs.SheetTexts.{two_at, four_at, is_record, same_counts, unused_clear, step_in, step_fits}
use Rattle.refusals.specs.Reasons.{number_of, reason_of}
use Rattle.conditions.specs.Outcomes.{wording_of}
use Rattle.sheets.specs.working.SheetReading.{demand, either, map_in, map_at, steps_in, steps_at, step_count, trace_at, body_at, sheet_in}
use Rattle.conditions.specs.working.Judging.{passed_answer, map_answer, walk, trace_answer, answer_in, judge, outcome_of}
use Rattle.acceptance.specs.working.Test.{test_in, test_of}
use Rattle.acceptance.specs.Cases.{Case, cases, AllCases}

-- To unfold this is to unfold all that computes the answer to a text and a sheet.
unfoldable pub answering : Unit {0}
unfolding bytes in_lower_case same_word reserved word_in word_token same_kind allowed name_counts view has elem stars_expr stars_row stars_items stars
    place_of among name_of expr_of row_item_of row_items_of item_of items_of command_of clause_of model_of
    span mark front lexemes tokens_from tally note exceeds fault lines skips find T.step ending reads answer
    bit number eval run_row run_item run_items step state_number spread spread_word starts breaks next last_of
    in_map every implies test_void test_a test_b words_stay closed_at test_c test_e
    map_length two_at four_at is_record same_counts unused_clear step_in step_fits
    demand either map_in map_at steps_in steps_at step_count trace_at body_at sheet_in
    passed_answer map_answer walk trace_answer answer_in judge outcome_of test_in test_of wording_of number_of reason_of
answering = tt

-- The answers to all rows, and what is expected in all rows.
computed : map (λ (c : Case). wording_of (test_of c.text c.sheet)) cases ≡ map (λ (c : Case). c.expected) cases
unfolding answering cases
computed = refl

-- What is computed of a whole table holds of each of its rows.
each_row : (cs : List Case) → map (λ (c : Case). wording_of (test_of c.text c.sheet)) cs ≡ map (λ (c : Case). c.expected) cs
    → Every (λ (c : Case). wording_of (test_of c.text c.sheet) ≡ c.expected) cs
each_row [] e = tt
each_row (c ∷ cs) e = (cc, each_row cs cc)

pub all-cases : AllCases
all-cases = each_row cases computed
