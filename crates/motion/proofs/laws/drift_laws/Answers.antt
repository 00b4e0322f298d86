use Rattle.motion.proofs.Drift.{drift, arrives, held-between}
use Rattle.motion.proofs.laws.drift_laws.Goals as goal

pub returns : goal.returns
returns c = record { drift = drift; arrives = arrives; held = held-between }
