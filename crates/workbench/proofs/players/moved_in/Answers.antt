-- `moved_in` asks for numbers of bounded answers, as every opening and every move is.
use Rattle.workbench.proofs.PlayersTold.{opened_bounded, moved_bounded}
use Rattle.workbench.proofs.players.moved_in.Goals as goal

pub opened_number-requires : goal.opened_number-requires
opened_number-requires c = opened_bounded _ _ _ c.open_player.ensures.0

pub moved_number-requires : goal.moved_number-requires
moved_number-requires c = (c.if-entries-lt2.false, moved_bounded _ _ _ _ _ c.move_of.ensures.0)
