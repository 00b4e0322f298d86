use Rattle.std.proofs.Common.{rules}
use Rattle.reader.proofs.Summaries.{more_default}
use Rattle.reader.proofs.summary.Summary.add.Goals as goal

pub returns-in-Some : goal.returns-in-Some
returns-in-Some c = let e = more_default c.in-Some.value _ _ c.unwrap_or_default.ensures in search rules
