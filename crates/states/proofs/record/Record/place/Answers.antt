use Rattle.std.proofs.Common.{rules}
use Rattle.states.specs.Moves.{placed_in}
use Rattle.states.proofs.record.Record.place.Goals as goal

pub returns : goal.returns
unfolding placed_in
returns c = search rules
