use Rattle.std.proofs.Common.{rules}
use Rattle.states.proofs.asking.AxisView.ask_move.Goals as goal

pub returns : goal.returns
returns c = search rules
