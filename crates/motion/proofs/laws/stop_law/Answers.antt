use Rattle.motion.proofs.Runs.{stops}
use Rattle.motion.proofs.laws.stop_law.Goals as goal

pub returns : goal.returns
returns c = stops
