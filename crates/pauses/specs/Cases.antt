-- Worked cases of searches in portions: a table of texts and portions with what is left, and of questions, and the statement that all its rows are so.
-- Assumes nothing.
use Rattle.std.specs.Prelude.{◌≡◌, Bool, true, false, List, [], ◌∷◌, ℕ, replicate}
use Rattle.notation.specs.Bytes.{bytes}
use Rattle.notation.specs.Regular.{Every}
use Rattle.acceptance.specs.Cases.{g, h, g_keeps_nowhere, g_starts_nowhere}
use Rattle.conditions.specs.Outcomes as O
use Rattle.exploration.specs.Pause.{Pause}
use Rattle.questions.specs.Answers as Q
use Rattle.pauses.specs.Answers.{paused, returned}
use Rattle.pauses.specs.Held.{Held}
use Rattle.pauses.specs.Promises.{portions_from, met_reply}
use Rattle.pauses.specs.working.Pausing.{open_of}

-- What is left after portions of these numbers of states, over tables of eight entries that hold something else before.
abbrev pub after : List ℕ → List ℕ → Held
after text ks = portions_from text ks (open_of text (replicate 8 9) (replicate 8 9))

-- A row: a text and portions, with the position and what both tables hold; a text with its refusal; a text, portions and a state, with the reply to whether it is met.
pub data Case : Type 0 where
  stands : List ℕ → List ℕ → Pause → List ℕ → List ℕ → Case
  refuses : List ℕ → ℕ → ℕ → Case
  asks : List ℕ → List ℕ → ℕ → Q.Wording → Case

abbrev pub at : ℕ → ℕ → Bool → ℕ → Pause
at expanded met broke trials = record { expanded = expanded; met = met; broke = broke; trials = trials }

-- The row is so.
abbrev pub Holds : Case → Type 0
Holds (stands text ks p first second) = after text ks ≡ record { answer = paused p; first = first; second = second }
Holds (refuses text n i) = (after text []).answer ≡ returned n i
Holds (asks text ks t w) = met_reply text t (after text ks).first (after text ks).second ≡ w

unfoldable pub cases : List Case
cases =
    -- H starts at 1 and 3; of the four words of its command at 1, one leads to 5, which is new; nothing more is met
    stands h [] (at 0 2 false 0) (1 ∷ 3 ∷ 9 ∷ 9 ∷ 9 ∷ 9 ∷ 9 ∷ 9 ∷ []) (0 ∷ 2 ∷ 0 ∷ 4 ∷ 0 ∷ 0 ∷ 0 ∷ 0 ∷ []) ∷
    stands h (0 ∷ []) (at 0 2 false 0) (1 ∷ 3 ∷ 9 ∷ 9 ∷ 9 ∷ 9 ∷ 9 ∷ 9 ∷ []) (0 ∷ 2 ∷ 0 ∷ 4 ∷ 0 ∷ 0 ∷ 0 ∷ 0 ∷ []) ∷
    stands h (1 ∷ []) (at 1 3 false 4) (1 ∷ 3 ∷ 5 ∷ 9 ∷ 9 ∷ 9 ∷ 9 ∷ 9 ∷ []) (0 ∷ 2 ∷ 0 ∷ 4 ∷ 0 ∷ 2 ∷ 0 ∷ 0 ∷ []) ∷
    stands h (1 ∷ 9 ∷ []) (at 3 3 false 12) (1 ∷ 3 ∷ 5 ∷ 9 ∷ 9 ∷ 9 ∷ 9 ∷ 9 ∷ []) (0 ∷ 2 ∷ 0 ∷ 4 ∷ 0 ∷ 2 ∷ 0 ∷ 0 ∷ []) ∷
    asks h [] 5 Q.no ∷
    asks h (1 ∷ []) 5 Q.yes ∷
    asks h (1 ∷ []) 8 (Q.told (O.returned 10 0)) ∷
    -- G breaks at 7, by the last of the four words at its first state, which is then not expanded
    stands g (1 ∷ []) (at 0 4 true 4) (1 ∷ 3 ∷ 5 ∷ 7 ∷ 9 ∷ 9 ∷ 9 ∷ 9 ∷ []) (0 ∷ 2 ∷ 0 ∷ 4 ∷ 0 ∷ 2 ∷ 0 ∷ 2 ∷ []) ∷
    asks g (1 ∷ 5 ∷ []) 7 Q.yes ∷
    -- a break at the first start state: the other one is not met
    stands g_keeps_nowhere (3 ∷ []) (at 0 1 true 0) (1 ∷ 9 ∷ 9 ∷ 9 ∷ 9 ∷ 9 ∷ 9 ∷ 9 ∷ []) (0 ∷ 2 ∷ 0 ∷ 0 ∷ 0 ∷ 0 ∷ 0 ∷ 0 ∷ []) ∷
    asks g_keeps_nowhere [] 3 Q.no ∷
    -- nothing starts, and the empty text
    stands g_starts_nowhere [] (at 0 0 false 0) (9 ∷ 9 ∷ 9 ∷ 9 ∷ 9 ∷ 9 ∷ 9 ∷ 9 ∷ []) (0 ∷ 0 ∷ 0 ∷ 0 ∷ 0 ∷ 0 ∷ 0 ∷ 0 ∷ []) ∷
    refuses (bytes "") 3 0 ∷
    asks (bytes "") [] 1 (Q.told (O.returned 3 0)) ∷
    []

-- All rows are so.
abbrev pub AllCases : Type 0
AllCases = Every Holds cases
