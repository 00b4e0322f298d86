use Rattle.motion.proofs.Rising.{ramp_rises, ramp_ends, last_step}
use Rattle.motion.proofs.laws.ramp_laws.Goals as goal

pub returns : goal.returns
returns c = record { rises = ramp_rises; ends = ramp_ends; last = last_step }
