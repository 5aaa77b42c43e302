-- A search that is not finished, over tables with room for every search.
-- Assumes nothing.
use Rattle.std.specs.Prelude.{List, ℕ, ◌≤◌, length}
use Rattle.notation.specs.Model.{Model}
use Rattle.notation.specs.Texts.{TextSays}
use Rattle.exploration.specs.Pause.{Pause}
use Rattle.pauses.specs.Promises.{Unaltered}

-- Position and tables are as calls for the text left them.
pub record Underway (text : List ℕ) (p : Pause) (first second : List ℕ) : Type 0 where
  pub model : Model
  pub says : TextSays text model
  pub unaltered : Unaltered text model (record { position = p; first = first; second = second })
  pub first_long : 4096 ≤ length first
  pub second_long : 4096 ≤ length second
