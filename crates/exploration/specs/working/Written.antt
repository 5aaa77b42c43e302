-- The bytes of a run and of a map, and the run that a table of parents records.
-- Assumes nothing.
use Rattle.std.specs.Prelude.{ℕ, suc, zero, ◌+◌, ◌-◌, ◌*◌, ◌<◌, ◌≤◌, ◌≡◌, Bool, true, false, cond, List, [], ◌∷◌, ◌++◌, get_or, take}
use Rattle.std.proofs.lemmas.List.Edits.{sets}
use Rattle.sheets.specs.Sheets.{little, start_bytes, steps_bytes}
use Rattle.exploration.specs.working.Transitions.{Transitions}
use Rattle.exploration.specs.working.Runs.{Run, final, Valid, steps, Traced, run_to, start_of, steps_of}
use Rattle.exploration.specs.working.Tables.{Ready}

-- A record's first six bytes: how long its payload is, and its kind.
abbrev pub head_bytes : ℕ → ℕ → List ℕ
head_bytes n kind = little 4 n ++ little 2 kind

-- The records of a run.
unfoldable pub run_bytes : Transitions → Run → List ℕ
run_bytes M r = start_bytes (start_of r) ++ steps_bytes (steps_of M r)

-- The bits of a map, eight to a byte.
unfoldable pub bit_at : List Bool → ℕ → ℕ
bit_at b s = cond (get_or b s false) 1 0

abbrev pub map_byte : List Bool → ℕ → ℕ
map_byte b i =
    bit_at b (8 * i) + 2 * bit_at b (8 * i + 1) + 4 * bit_at b (8 * i + 2) + 8 * bit_at b (8 * i + 3) + 16 * bit_at b (8 * i + 4) + 32 * bit_at b
    (8 * i + 5) + 64 * bit_at b (8 * i + 6) + 128 * bit_at b (8 * i + 7)

-- So many bytes of a map, from byte i on.
unfoldable pub map_from : List Bool → ℕ → ℕ → List ℕ
map_from b i zero = []
map_from b i (suc n) = map_byte b i ∷ map_from b (i + 1) n

-- The table of parents p records a run to t.
pub record RecordedTo (M : Transitions) (p : List ℕ) (t : ℕ) : Type 0 where
  pub run : Run
  pub valid : Valid M run
  pub traced : Traced M p run
  pub ends : final M run ≡ t
  pub short : steps run < M.size

-- The front of the table p does, as far as there are states.
abbrev pub RecordedIn : Transitions → List ℕ → ℕ → Type 0
RecordedIn M p t = RecordedTo M (take M.size p) t

-- Tables from which a sheet can be written: where the last state met breaks, a run to it is recorded.
pub record Closing (M : Transitions) (q : List ℕ) (n : ℕ) (p : List ℕ) (found : Bool) : Type 0 where
  pub ready : Ready M q n p
  pub some : found ≡ true → 1 ≤ n
  pub recorded : found ≡ true → RecordedIn M p (get_or q (n - 1) 0)

-- The trace of the run that the table of parents p records to t stands from `at` on, up to `end`; all else is as it was.
pub record TraceStored (M : Transitions) (p : List ℕ) (t at : ℕ) (before after : List ℕ) (end : ℕ) : Type 0 where
  pub bytes : after ≡ sets before at (run_bytes M (run_to M (take M.size p) M.size t))
  pub ends : end ≡ at + 8 + 10 * steps (run_to M (take M.size p) M.size t)
