use Rattle.module.proofs.OneMore.{goes_on}
use Rattle.module.proofs.Refused.{refusals}
use Rattle.module.proofs.three.Module.call.Goals as goal

-- the promise of the calls before it goes on
pub returns-clause-promise : goal.returns-clause-promise
returns-clause-promise g c = goes_on _ _ _ _ c.make.ensures.value c.make.ensures.after

pub returns-clause-refusals : goal.returns-clause-refusals
returns-clause-refusals g c = refusals
