-- What finishing leaves, test by test.
-- Assumes nothing.
use mathlib.Core.Path.{◌≡◌, ap, ◌∙◌}
use mathlib.Core.Bool.{Bool, true, false, cond}
use mathlib.Core.List.{List}
use Prim.Native.Nat.{ℕ}
use Rattle.sheets.specs.Sheets.{System, size}
use Rattle.exploration.specs.Pause.{Pause}
use Rattle.exploration.specs.working.Pauses.{intact}
use Rattle.exploration.specs.working.Found.{transitions_of}
use Rattle.verdicts.specs.Left.{Left}
use Rattle.verdicts.specs.working.Searching.{left_by, found_by}
use Rattle.pauses.specs.working.Pausing.{can_close, closed_by, all_from, finish_in}

module _ (M : System) (p : Pause) (first second sheet : List ℕ) where
  abbrev Closed : Left
  Closed = closed_by M (all_from M p first second).went (all_from M p first second).trials first second sheet

  pub finish-no : intact (size M) p first second ≡ false → finish_in M p first second sheet ≡ found_by M first second sheet
  unfolding finish_in
  finish-no e = ap (λ (b : Bool). cond b Closed (found_by M first second sheet)) e

  module _ (e : intact (size M) p first second ≡ true) where
    judged : finish_in M p first second sheet ≡ Closed
    unfolding finish_in
    judged = ap (λ (b : Bool). cond b Closed (found_by M first second sheet)) e

    abbrev Told : Left
    Told = left_by M (all_from M p first second).went (all_from M p first second).trials first second sheet

    pub finish-yes : can_close (transitions_of M) (all_from M p first second).went ≡ true → finish_in M p first second sheet ≡ Told
    unfolding closed_by
    finish-yes c = judged ∙ ap (λ (b : Bool). cond b Told (found_by M first second sheet)) c

    pub finish-other : can_close (transitions_of M) (all_from M p first second).went ≡ false → finish_in M p first second sheet ≡ found_by M first second sheet
    unfolding closed_by
    finish-other c = judged ∙ ap (λ (b : Bool). cond b Told (found_by M first second sheet)) c
