use Rattle.std.proofs.Common.{rules}
use Rattle.std.proofs.lemmas.Bool.Decides.{Decides-at}
use Rattle.motion.proofs.Questions.{limits_decides}
use Rattle.motion.proofs.raw.RawData.limits_fit.Goals as goal

pub returns-then-is_reachable-2-clause-means : goal.returns-then-is_reachable-2-clause-means
returns-then-is_reachable-2-clause-means c = Decides-at _ _ (search rules) (limits_decides c.args.self.now)
