use Rattle.ticks.proofs.blocks.BlockMove.ask.Goals as goal

pub returns : goal.returns
returns c g = rw (c.wish.ensures g) at c.ask_move.ensures
