-- Which bytes say which contents of a sheet, and which first refusal they have if they say none.
-- Assumes nothing.
use Rattle.std.specs.Prelude.{◌≡◌, Bool, true, false, ◌&&◌, ◌||◌, List, [], ◌∷◌, ℕ, ◌+◌, ◌*◌, ◌^◌, ◌<◌, ◌≤◌, eqb, leb, ltb, length, get_or}
use Rattle.notation.specs.Regular.{Every}
use Rattle.meaning.specs.OneRow.{TraceStep}
use Rattle.meaning.specs.Evidence.{Sheet, safe, trace, InRange}
use Rattle.sheets.specs.Sheets.{System, size, map_length, sheet_bytes}

-- The most bytes that a sheet may have.
abbrev pub longest : ℕ
longest = 65536

-- The number that two bytes from p on give, and the number that four give, both little-endian.
unfoldable pub two_at : List ℕ → ℕ → ℕ
two_at b p = get_or b p 0 + 256 * get_or b (p + 1) 0

unfoldable pub four_at : List ℕ → ℕ → ℕ
four_at b p = two_at b p + 65536 * two_at b (p + 2)

-- Whether a record of this kind, with n bytes of payload, stands whole at p.
unfoldable pub is_record : List ℕ → ℕ → ℕ → ℕ → Bool
is_record b p kind n = leb (p + 6 + n) (length b) && (eqb (four_at b p) n && eqb (two_at b (p + 4)) kind)

-- Whether the bytes from p on begin with these counts.
unfoldable pub same_counts : List ℕ → List ℕ → ℕ → Bool
same_counts [] b p = true
same_counts (n ∷ ns) b p = eqb (get_or b p 0) n && same_counts ns b (p + 1)

-- Whether the bits that no state uses are 0. Only a map of fewer than eight states has such bits, in its one byte.
unfoldable pub unused_clear : ℕ → ℕ → Bool
unused_clear states byte = leb 8 states || ltb byte (2 ^ states)

-- The step that a payload at p gives.
unfoldable pub step_in : List ℕ → ℕ → TraceStep
step_in b p = record { command = get_or b p 0; word = get_or b (p + 1) 0; after = two_at b (p + 2) }

-- Whether a step's numbers are in range: a known command, a word without bits beyond the command's stars, a state.
unfoldable pub step_fits : ℕ → ℕ → (ℕ → ℕ) → TraceStep → Bool
step_fits states commands stars x = ltb x.command commands && (ltb x.word (2 ^ stars x.command) && ltb x.after states)

-- The same as a statement.
abbrev pub InSystem : System → TraceStep → Type 0
InSystem M x = InRange (size M) M.commands (λ k. 2 ^ M.stars k) x

-- The bytes can be a map of so many states: they have its length, and bits that no state uses are 0.
pub record IsMap (states : ℕ) (map : List ℕ) : Type 0 where
  pub long : length map ≡ map_length states
  pub clear : unused_clear states (get_or map 0 0) ≡ true

-- The contents can stand in a sheet for the model: a map is one of its states, a trace has its numbers in range.
abbrev pub SheetFits : System → Sheet → Type 0
SheetFits M (safe map) = IsMap (size M) map
SheetFits M (trace s xs) = (s < size M) × Every (InSystem M) xs

-- The bytes say these contents: they are the contents' bytes, not too many, and the contents fit the model.
pub record SheetSays (M : System) (b : List ℕ) (x : Sheet) : Type 0 where
  pub bytes : b ≡ sheet_bytes M x
  pub short : length b ≤ longest
  pub fits : SheetFits M x

-- The numbers of a system fit the fields that a sheet has for them.
pub record NumbersFit (M : System) : Type 0 where
  pub states : size M ≤ 65536
  pub kind : M.kind < 65536
  pub counts : length M.counts < 65536

-- All the numbers of the list are bytes.
abbrev pub AreBytes : List ℕ → Type 0
AreBytes b = (i : ℕ) → get_or b i 0 < 256

-- What may come next in a sheet: the header; a map or a start state; nothing, after a map; a step or nothing, after a start state.
pub data Stage : Type 0 where
  at_header at_body at_end at_step : Stage

-- The record at p may stand there at this stage: its kind, its length and its unused bits are as they must be.
-- It tells whether its numbers are in range, where the next record stands, and the stage there.
pub data Allowed (M : System) (b : List ℕ) (p : ℕ) : Stage → Bool → ℕ → Stage → Type 0 where
  header : is_record b p M.kind (length M.counts) ≡ true → Allowed M b p at_header (same_counts M.counts b (p + 6)) (p + 6 + length M.counts) at_body
  map : is_record b p 2 (map_length (size M)) ≡ true → unused_clear (size M) (get_or b (p + 6) 0) ≡ true → Allowed M b p at_body true (p + 6 + map_length (size M)) at_end
  start : is_record b p 3 2 ≡ true → Allowed M b p at_body (ltb (two_at b (p + 6)) (size M)) (p + 8) at_step
  step : is_record b p 4 4 ≡ true → Allowed M b p at_step (step_fits (size M) M.commands M.stars (step_in b (p + 6))) (p + 10) at_step

-- A sheet may end after a map, after a start state and after a step.
abbrev pub MayEnd : Stage → Type 0
MayEnd at_header = ⊥
MayEnd at_body = ⊥
MayEnd at_end = Unit {0}
MayEnd at_step = Unit {0}

-- All records before p are without fault, and p is at this stage.
pub data Clean (M : System) (b : List ℕ) : ℕ → Stage → Type 0 where
  begin : length b ≤ longest → Clean M b 0 at_header
  next : {p q : ℕ} {s t : Stage} {r : Bool} → Clean M b p s → Allowed M b p s r q t → r ≡ true → Clean M b q t

-- The first refusal, its number and its place: the sheet is too long; or what stands at p, or is missing there, may not; or its numbers are out of range.
pub data SheetRefused (M : System) (b : List ℕ) : ℕ → ℕ → Type 0 where
  too_long : longest < length b → SheetRefused M b 9 longest
  misplaced : {p : ℕ} {s : Stage} → Clean M b p s → ((r : Bool) (q : ℕ) (t : Stage) → Allowed M b p s r q t → ⊥) → (MayEnd s → length b ≡ p → ⊥) → SheetRefused M b 9 p
  out_of_range : {p q : ℕ} {s t : Stage} {r : Bool} → Clean M b p s → Allowed M b p s r q t → r ≡ false → SheetRefused M b 10 p
