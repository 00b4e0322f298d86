use Rattle.std.proofs.Common.{◌<◌, ◌≢◌, length, arith, rules, get_or-set_other, get_or-set_same, below_more}
use Rattle.motion.proofs.Curve.{first_more}
use Rattle.motion.proofs.ramp.first_steps.Goals as goal

pub loop-step-preserved : goal.loop-step-preserved
loop-step-preserved c = (
  grind (arith, first_more),
  search rules,
  below_more _ _
      (λ k h. let ne : k ≢ c.loop-step.step-index = omega arith in rw get_or-set_other (c.loop-step.invariant.2 k h))
      (let lt : c.loop-step.step-index < length c.loop-step.step-items = omega arith in rw get_or-set_same c.loop-step.invariant.0),
)
