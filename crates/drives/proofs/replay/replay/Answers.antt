use Rattle.std.proofs.Common.{arith}
use Rattle.std.proofs.lemmas.Grind.{common_steps}
use Rattle.drives.proofs.Acts.{replayed-more, ends_stay}
use Rattle.drives.proofs.replay.replay.Goals as goal

pub loop-act-preserved : goal.loop-act-preserved
loop-act-preserved g c = grind (arith, common_steps, replayed-more)

pub returns-clause-ends : goal.returns-clause-ends
returns-clause-ends g c = ends_stay
