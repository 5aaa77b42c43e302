-- What is promised of all that is written, each promise a type that a theorem of proofs/ inhabits.
-- Assumes nothing.
use Rattle.std.specs.Prelude.{◌≡◌, ◌⊎◌, List, ℕ, ◌<◌, ◌≤◌, length}
use Rattle.notation.specs.Notation.{Tree}
use Rattle.notation.specs.Texts.{TextSaysTree, TextRefused, model_of}
use Rattle.sheets.specs.SheetTexts.{AreBytes}
use Rattle.acceptance.specs.Promises.{answer_to, TraceThat}
use Rattle.traces.specs.Passed.{TracePassed}
use Rattle.windows.specs.Bursts.{commands_of}
use Rattle.lines.specs.Lines.{refusal_line}
use Rattle.wording.specs.Lines.{spelt}
use Rattle.bursts.specs.Lines.{command_line, lines_from}
use Rattle.bursts.specs.Widths.{capped}
use Rattle.bursts.specs.working.Writing.{bursts_of}

-- Of a trace that passes the lines of all commands, or the refusal of a width out of range; and else what the test says.
pub record Writes (text : List ℕ) (x : Tree) (b : List ℕ) (w : ℕ) : Type 0 where
  pub in_range : TracePassed (answer_to text b) → 1 ≤ w → w ≤ 4095
      → TraceThat (model_of x) b λ s xs. bursts_of text b w ≡ lines_from (command_line text x w (commands_of xs)) 0 (length (model_of x).commands)
  pub out_of_range : TracePassed (answer_to text b) → (w ≡ 0) ⊎ (4095 < w) → bursts_of text b w ≡ refusal_line 16 0
  pub no_trace : ¬ (TracePassed (answer_to text b)) → bursts_of text b w ≡ spelt (answer_to text b)

-- For every text that says a tree, all bytes and every width.
abbrev pub BurstsTell : Type 0
BurstsTell = (text : List ℕ) (x : Tree) → TextSaysTree text x → (b : List ℕ) → AreBytes b → (w : ℕ) → Writes text x b w

-- A text that says no model: its own first refusal, whatever the bytes and the width are.
abbrev pub RefusalTells : Type 0
RefusalTells = (text : List ℕ) (n i : ℕ) → TextRefused text n i → (b : List ℕ) (w : ℕ) → bursts_of text b w ≡ refusal_line n i

-- A number too large to be told apart is written about as what stands for it.
abbrev pub CappedAlike : Type 0
CappedAlike = (text b : List ℕ) (n : ℕ) → bursts_of text b (capped n) ≡ bursts_of text b n
