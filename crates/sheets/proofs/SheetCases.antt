-- Worked cases of sheets' bytes, and refusals with their places, for models that differ from each other only in their counts.
-- Assumes nothing.
use mathlib.Core.Path.{◌≡◌, refl}
use mathlib.Core.Bool.{true}
use mathlib.Core.List.{List, [], ◌∷◌, ◌++◌}
use Prim.Native.Nat.{ℕ}
use Rattle.meaning.specs.Evidence.{Sheet, safe, trace}
use Rattle.sheets.specs.SheetTexts.{two_at, four_at, is_record, same_counts, unused_clear, step_in, step_fits}
use Rattle.sheets.specs.Sheets.{System, little, record_bytes, header_bytes, step_bytes, steps_bytes, sheet_bytes, start_bytes, map_length}
use Rattle.sheets.specs.working.SheetReading.{refused, holds, demand, either, map_in, map_at, steps_in, steps_at, step_count, trace_at, body_at, sheet_of, sheet_in}

-- One shared name, two row names, one command with two stars.
abbrev g : System
g = record { bits = 3; kind = 1; counts = 1 ∷ 2 ∷ 1 ∷ []; commands = 1; stars = λ c. 2; starts = λ s. true; breaks = λ s. true; step = λ s c w. 0 }

-- One row name less: four states, so that four bits of a map are unused.
abbrev small : System
small = record { bits = 2; kind = 1; counts = 1 ∷ 1 ∷ 1 ∷ []; commands = 1; stars = λ c. 2; starts = λ s. true; breaks = λ s. true; step = λ s c w. 0 }

-- Records by their bytes.
abbrev head : List ℕ
head = 3 ∷ 0 ∷ 0 ∷ 0 ∷ 1 ∷ 0 ∷ 1 ∷ 2 ∷ 1 ∷ []

abbrev small_head : List ℕ
small_head = 3 ∷ 0 ∷ 0 ∷ 0 ∷ 1 ∷ 0 ∷ 1 ∷ 1 ∷ 1 ∷ []

abbrev start : ℕ → List ℕ
start s = 2 ∷ 0 ∷ 0 ∷ 0 ∷ 3 ∷ 0 ∷ s ∷ 0 ∷ []

abbrev step : ℕ → ℕ → ℕ → List ℕ
step c w t = 4 ∷ 0 ∷ 0 ∷ 0 ∷ 4 ∷ 0 ∷ c ∷ w ∷ t ∷ 0 ∷ []

abbrev g_trace : Sheet
g_trace = trace 1 (record { command = 0; word = 3; after = 7 } ∷ [])

pub written : sheet_bytes g g_trace ≡ head ++ start 1 ++ step 0 3 7
unfolding sheet_bytes start_bytes header_bytes record_bytes steps_bytes step_bytes little
written = refl

pub record Cases : Type 0 where
  pub whole : sheet_of g (head ++ start 1 ++ step 0 3 7) ≡ holds g_trace
  pub map : sheet_of g (head ++ (1 ∷ 0 ∷ 0 ∷ 0 ∷ 2 ∷ 0 ∷ 42 ∷ [])) ≡ holds (safe (42 ∷ []))
  pub empty : sheet_of g [] ≡ refused 9 0
  pub cut-head : sheet_of g (3 ∷ 0 ∷ []) ≡ refused 9 0
  pub counts : sheet_of g small_head ≡ refused 10 0
  pub missing : sheet_of g head ≡ refused 9 9
  pub order : sheet_of g (head ++ step 0 3 7) ≡ refused 9 9
  pub state : sheet_of g (head ++ start 8) ≡ refused 10 9
  pub cut_step : sheet_of g (head ++ start 1 ++ (4 ∷ [])) ≡ refused 9 17
  pub twice : sheet_of g (head ++ start 1 ++ start 1) ≡ refused 9 17
  pub command : sheet_of g (head ++ start 1 ++ step 1 0 0) ≡ refused 10 17
  pub word : sheet_of g (head ++ start 1 ++ step 0 3 7 ++ step 0 4 7) ≡ refused 10 27
  pub earliest : sheet_of g (head ++ start 1 ++ step 0 4 7 ++ (4 ∷ [])) ≡ refused 10 17
  pub after_map : sheet_of g (head ++ (1 ∷ 0 ∷ 0 ∷ 0 ∷ 2 ∷ 0 ∷ 42 ∷ 0 ∷ [])) ≡ refused 9 16
  pub long-map : sheet_of g (head ++ (2 ∷ 0 ∷ 0 ∷ 0 ∷ 2 ∷ 0 ∷ 42 ∷ 0 ∷ [])) ≡ refused 9 9
  pub unused : sheet_of small (small_head ++ (1 ∷ 0 ∷ 0 ∷ 0 ∷ 2 ∷ 0 ∷ 16 ∷ [])) ≡ refused 9 9
  pub used : sheet_of small (small_head ++ (1 ∷ 0 ∷ 0 ∷ 0 ∷ 2 ∷ 0 ∷ 15 ∷ [])) ≡ holds (safe (15 ∷ []))

pub cases : Cases
unfolding two_at four_at is_record demand either same_counts unused_clear map_in map_at step_in step_fits steps_in steps_at step_count trace_at body_at sheet_in map_length
cases =
    record {
      whole = refl;
      map = refl;
      empty = refl;
      cut-head = refl;
      counts = refl;
      missing = refl;
      order = refl;
      state = refl;
      cut_step = refl;
      twice = refl;
      command = refl;
      word = refl;
      earliest = refl;
      after_map = refl;
      long-map = refl;
      unused = refl;
      used = refl;
    }
