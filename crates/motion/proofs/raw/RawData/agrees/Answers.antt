use Rattle.std.proofs.Common.{rules}
use Rattle.std.proofs.lemmas.Bool.Decides.{Decides-at}
use Rattle.motion.proofs.Questions.{agrees_decides}
use Rattle.motion.proofs.raw.RawData.agrees.Goals as goal

pub returns-then-self-2-clause-means : goal.returns-then-self-2-clause-means
returns-then-self-2-clause-means c = Decides-at _ _ (search rules) (agrees_decides c.args.self.now)
