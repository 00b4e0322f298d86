use Rattle.std.proofs.Common.{arith, map, vec_items}
use Rattle.std.proofs.lemmas.Grind.{common_steps}
use Rattle.std.proofs.lemmas.List.{map-append}
use Rattle.module.specs.Replies.{reply_by}
use Rattle.module.proofs.Longer.{after-more, replies-more}
use Rattle.module.proofs.Promised.{promised}
use Rattle.module.proofs.Worked.{worked}
use Rattle.module.proofs.runs.run.Goals as goal

pub loop-call-preserved : goal.loop-call-preserved
loop-call-preserved g c = grind (arith, common_steps, map-append, after-more, replies-more)

-- the run is exact, so by the soundness of the drives it keeps the promise
pub returns-clause-promise : goal.returns-clause-promise
returns-clause-promise g c =
    let old = c.args.drives in
    let new = c.into_drives.result in
    let x = g.X.Drive.meaning in
    let y = g.Y.Drive.meaning in
    let z = g.Z.Drive.meaning in
    promised (x old.first) (y old.second) (z old.third) (g.met.X.Drive.sound old.first) (g.met.Y.Drive.sound old.second)
    (g.met.Z.Drive.sound old.third) c.args.calls.now (map reply_by (vec_items c.loop-call.replies)) (x new.first) (y new.second)
    (z new.third) (grind (arith, common_steps))

pub returns-in-Err-clause-examples : goal.returns-in-Err-clause-examples
returns-in-Err-clause-examples g c = worked

pub returns-in_err-module-clause-examples : goal.returns-in_err-module-clause-examples
returns-in_err-module-clause-examples g c = worked

pub returns-clause-examples : goal.returns-clause-examples
returns-clause-examples g c = worked
