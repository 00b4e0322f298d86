use Rattle.motion.proofs.Runs.{whole_move, never_past, first-tick}
use Rattle.motion.proofs.Speed.{speed-held}
use Rattle.motion.proofs.laws.whole_move_laws.Goals as goal

pub returns : goal.returns
returns c = record { whole = whole_move; past = never_past; first = first-tick; speed = speed-held }
