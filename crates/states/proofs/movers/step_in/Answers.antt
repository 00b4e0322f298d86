use Rattle.std.proofs.Common.{refl}
use Rattle.states.proofs.movers.step_in.Goals as goal

pub returns-in-Some : goal.returns-in-Some
returns-in-Some g c = rw c.in-Some.is (record { shown = _; shows = refl; left = _; met = c.step.ensures; leaves = refl })
