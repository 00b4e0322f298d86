use Rattle.std.proofs.Common.{arith}
use Rattle.motion.specs.View.{mover_ramp, going_of}
use Rattle.motion.proofs.Landing.{lands}
use Rattle.motion.proofs.mover.Mover.run.Goals as goal

pub invariant_of-self : goal.invariant_of-self
invariant_of-self c =
    let m = c.args.self.now in
    let l = lands (mover_ramp m) (going_of m) c.args.place c.unwrap_or-self.result c.requires c.unwrap_or-self.ensures in
    record {
      valid = m.valid;
      slowest = m.slowest;
      fastest = m.fastest;
      steps = l.0;
      longest = m.longest;
      within = omega (arith, l.3, m.within, c.left_after-self.ensures);
      part = rw c.left_after-self.ensures c.sent-pulses.ensures.begun;
      summed = l.1;
      safe = omega (arith, l.2, c.left_after-self.ensures);
    }
