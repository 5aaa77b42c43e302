-- What a call of the search leaves, as a computation.
-- Assumes nothing.
use Rattle.std.specs.Prelude.{Bool, cond, ◌&&◌, List, ℕ, leb, length, Ok, Err}
use Rattle.std.proofs.lemmas.List.Edits.{sets}
use Rattle.refusals.specs.Reasons.{refusal_of}
use Rattle.notation.specs.Texts.{model_of}
use Rattle.notation.specs.working.Machine as N
use Rattle.notation.specs.working.Answer.{answer}
use Rattle.sheets.specs.Sheets.{System, size, sheet_room, system_of, sheet_bytes}
use Rattle.meaning.specs.Evidence.{Verdict, safe_by, void_by, unsafe_by, evidence_of}
use Rattle.exploration.specs.working.Trials.{trial_count}
use Rattle.exploration.specs.working.Exploring.{Progress}
use Rattle.exploration.specs.working.Results.{result_of}
use Rattle.exploration.specs.working.Found.{found_in, verdict_for, transitions_of}
use Rattle.verdicts.specs.declared.finding.Finding.{Finding}
use Rattle.verdicts.specs.declared.finding.Finding.TheVariants.{Safe, Void, Unsafe}
use Rattle.verdicts.specs.Left.{Left, zeroed}

-- Whether the lent tables have an entry for each state, and the lent buffer has room for every sheet.
unfoldable pub roomy : System → List ℕ → List ℕ → List ℕ → Bool
roomy M first second sheet = leb (size M) (length first) && (leb (size M) (length second) && leb (sheet_room M) (length sheet))

-- The finding that gives a verdict, whose sheet has so many bytes, after so many trials.
unfoldable pub verdict_of : Verdict → ℕ → ℕ → Finding
verdict_of (safe_by map) n t = Safe n t
verdict_of (void_by map) n t = Void n
verdict_of (unsafe_by s xs) n t = Unsafe n

-- Where a verdict was found after so many trials: the bytes of its sheet at the buffer's front, and both tables cleared.
abbrev pub left_with : System → Verdict → ℕ → List ℕ → List ℕ → List ℕ → Left
left_with M x t first second sheet =
    record {
      answer = Ok (verdict_of x (length (sheet_bytes M (evidence_of x))) t);
      first = zeroed (size M) first;
      second = zeroed (size M) second;
      sheet = sets sheet 0 (sheet_bytes M (evidence_of x));
    }

-- After a refusal every buffer is as it was.
abbrev pub left_alone : ℕ → ℕ → List ℕ → List ℕ → List ℕ → Left
left_alone n p first second sheet = record { answer = Err (refusal_of n p); first = first; second = second; sheet = sheet }

-- Where a search went so, after so many trials.
abbrev pub left_by : System → Progress → ℕ → List ℕ → List ℕ → List ℕ → Left
left_by M o t first second sheet = left_with M (verdict_for (transitions_of M) (result_of (transitions_of M) o)) t first second sheet

-- For a system, where there is room: what the search finds, with the trials that it makes.
abbrev pub found_by : System → List ℕ → List ℕ → List ℕ → Left
found_by M first second sheet = left_with M (found_in (transitions_of M)) (trial_count (transitions_of M)) first second sheet

-- For a system.
unfoldable pub search_for : System → List ℕ → List ℕ → List ℕ → Left
search_for M first second sheet = cond (roomy M first second sheet) (found_by M first second sheet) (left_alone 8 0 first second sheet)

-- For a text that was read or refused.
unfoldable pub search_in : N.Outcome → List ℕ → List ℕ → List ℕ → Left
search_in (N.read x) first second sheet = search_for (system_of (model_of x)) first second sheet
search_in (N.refused n p) first second sheet = left_alone n p first second sheet

-- For a text. What it is on every input is said by `SearchTells` and `TextRefusedFirst`, which are proved of it.
unfoldable pub search_of : List ℕ → List ℕ → List ℕ → List ℕ → Left
search_of text first second sheet = search_in (answer text) first second sheet
