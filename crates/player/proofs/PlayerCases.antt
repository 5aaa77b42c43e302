-- The table of cases holds: the definitions compute every row of it, from the bytes of the text and of the sheet.
-- Assumes nothing.
use mathlib.Core.Path.{refl}
use Rattle.acceptance.proofs.TestCases.{answering}
use Rattle.conditions.specs.Outcomes.{wording_of_declined}
use Rattle.player.specs.Places.{leads}
use Rattle.player.specs.Answers.{wording_of, opening_for}
use Rattle.player.specs.Cases.{cases, AllCases}
use Rattle.player.specs.working.Playing.{led_to, move_in, move_after, move_for, move_of, open_after, open_for, open_of}

pub all-cases : AllCases
unfolding answering wording_of_declined leads wording_of opening_for cases led_to move_in move_after move_for move_of open_after open_for open_of
all-cases =
    (refl, ((refl, refl), ((refl, refl), ((refl, refl), ((refl, refl), ((refl, refl), ((refl, refl), ((refl, refl), ((refl, refl), ((refl, refl), ((refl, refl), ((refl, refl), ((refl, refl), ((refl, refl), ((refl, refl), ((refl, refl), ((refl, refl), (refl, ((refl, refl), ((refl, refl), ((refl, refl), (refl, (refl, (refl, ((refl, refl), ((refl, refl), ((refl, refl), (refl, ((refl, refl), (refl, ((refl, refl), tt)))))))))))))))))))))))))))))))
