-- The table of cases holds: the definitions compute every row of it, from the bytes of the text and of the sheet.
-- Assumes nothing.
use mathlib.Core.Path.{◌≡◌, refl}
use mathlib.Core.List.{List, [], ◌∷◌, map}
use Rattle.notation.specs.Regular.{Every}
use Rattle.acceptance.proofs.TestCases.{answering}
use Rattle.conditions.specs.Outcomes.{wording_of_declined}
use Rattle.questions.specs.Answers.{wording_of}
use Rattle.questions.specs.Cases.{Case, cases, AllCases}
use Rattle.questions.specs.Promises.{reply_to}
use Rattle.questions.specs.working.Asking.{member_reply, asked_of, reached_in, reached_of}

-- The replies to all rows, and what is expected in all rows.
computed : map (λ (c : Case). reply_to c.text c.sheet c.state) cases ≡ map (λ (c : Case). c.expected) cases
unfolding answering wording_of_declined wording_of cases member_reply asked_of reached_in reached_of
computed = refl

-- What is computed of a whole table holds of each of its rows.
each_row : (cs : List Case) → map (λ (c : Case). reply_to c.text c.sheet c.state) cs ≡ map (λ (c : Case). c.expected) cs
    → Every (λ (c : Case). reply_to c.text c.sheet c.state ≡ c.expected) cs
each_row [] e = tt
each_row (c ∷ cs) e = (cc, each_row cs cc)

pub all-cases : AllCases
all-cases = each_row cases computed
