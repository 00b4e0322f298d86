use Rattle.std.proofs.Common.{arith}
use Rattle.std.proofs.lemmas.Int.{ints}
use Rattle.std.proofs.Math.Facts.{to_z-of_z}
use Rattle.states.proofs.asking.AxisView.count_at.Goals as goal

pub returns : goal.returns
returns c = grind (arith, ints, to_z-of_z)
