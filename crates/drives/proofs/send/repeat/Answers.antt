use Rattle.std.proofs.Common.{sym, arith}
use Rattle.std.proofs.lemmas.Result.{err_from_is_err_and}
use Rattle.drives.proofs.Sends.{sent-more, told_more, refused-at, reach}
use Rattle.drives.proofs.send.repeat.Goals as goal

pub returns-in_err-pulse : goal.returns-in_err-pulse
returns-in_err-pulse g c =
    let p = err_from_is_err_and c.from_residual.result c.from_residual.ensures.1 in
    let o = refused-at _ _ _ _ _ _ _ c.loop-i.invariant.0 c.pulse.ensures.value c.in_err-pulse.was c.loop-i-test.true in
    let r = reach c.args.direction c.args.pulses _ (g.met.D.Drive.sound c.args.drive.now) in
    record { value = rw (p.1, p.2) (sym o.0); after = grind arith; reach = grind arith }

pub loop-i-preserved : goal.loop-i-preserved
loop-i-preserved g c = grind (arith, sent-more, told_more)

pub returns-clause-reach : goal.returns-clause-reach
returns-clause-reach g c =
    let r = reach c.args.direction c.args.pulses _ (g.met.D.Drive.sound c.args.drive.now) in
    grind arith
