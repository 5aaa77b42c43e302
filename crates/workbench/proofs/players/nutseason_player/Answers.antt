-- `nutseason_player` asks for a number of bounded answers, as every opening is.
use Rattle.workbench.proofs.PlayersTold.{opened_bounded}
use Rattle.workbench.proofs.players.nutseason_player.Goals as goal

pub opened_number-requires : goal.opened_number-requires
opened_number-requires c = opened_bounded _ _ _ c.open_player.ensures.0
