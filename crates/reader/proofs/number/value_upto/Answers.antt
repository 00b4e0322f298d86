use Rattle.std.proofs.Common.{◌∙◌}
use Rattle.reader.proofs.Numbers.{past_most}
use Rattle.reader.proofs.number.value_upto.Goals as goal

pub returns-then-n-most : goal.returns-then-n-most
returns-then-n-most c = record { value = past_most _ _ _ _ _ _ c.loop-b-test.true c.loop-b.invariant.1 (c.from.ensures ∙ c.saturating_sub.ensures) c.if-n-most.true; bound = tt }
