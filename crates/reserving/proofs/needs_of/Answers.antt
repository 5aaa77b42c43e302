-- `needs_of` meets its contract: no model has more than 4096 states.
use Rattle.evaluation.proofs.Powers.{pow_small}
use Rattle.reserving.proofs.needs_of.Goals as goal

pub sheet_room-requires : goal.sheet_room-requires
sheet_room-requires c =
    pow_small _ _ c.args.table.now.sound.few_bits c.power-states.ensures
