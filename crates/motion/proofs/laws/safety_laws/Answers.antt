use Rattle.motion.proofs.Runs.{stays-safe, movers}
use Rattle.motion.proofs.laws.safety_laws.Goals as goal

pub returns : goal.returns
returns c = record { stays = stays-safe; movers = movers }
