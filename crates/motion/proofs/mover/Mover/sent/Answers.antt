use Rattle.std.proofs.Common.{arith}
use Rattle.motion.specs.RampPlace.{Runs}
use Rattle.motion.specs.View.{mover_ramp, going_of}
use Rattle.motion.proofs.Way.{way_last}
use Rattle.motion.proofs.mover.Mover.sent.Goals as goal

pub returns-in-Some-clause-pulses : goal.returns-in-Some-clause-pulses
returns-in-Some-clause-pulses c =
    let m = c.args.self.now in
    let p = c.in-Some.place in
    let r : Runs (mover_ramp m) (going_of m) p = rw c.in-Some.is at c.requires in
    rw c.in-Some.is (omega (arith, c.from.ensures, c.gain.ensures, m.part, m.within, r.1, r.2, way_last (mover_ramp m) m.rate p.step))

pub returns-in-Some-clause-begun : goal.returns-in-Some-clause-begun
returns-in-Some-clause-begun c =
    let m = c.args.self.now in
    let p = c.in-Some.place in
    let r : Runs (mover_ramp m) (going_of m) p = rw c.in-Some.is at c.requires in
    rw c.in-Some.is (omega (arith, c.gain.ensures, m.part, m.within, r.1, r.2, way_last (mover_ramp m) m.rate p.step))
