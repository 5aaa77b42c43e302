-- `read_table` meets its contract: what was read is sound.
use Rattle.acceptance.proofs.TestTexts.{read_sound}
use Rattle.acceptance.proofs.plans.read_table.Goals as goal

pub invariant_of-result : goal.invariant_of-result
invariant_of-result c = record { sound = read_sound _ c.read_plan.ensures _ c.in_ok-plan.was }
