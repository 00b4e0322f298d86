use Rattle.reader.proofs.Verdicts.{one_answer}
use Rattle.reader.proofs.Sayings.{values_said}
use Rattle.reader.proofs.read_line.Goals as goal

pub returns-clause-answer : goal.returns-clause-answer
returns-clause-answer c = one_answer c.args.measure c.args.blocks c.args.line.now _ c.judge.ensures

pub returns-clause-said : goal.returns-clause-said
returns-clause-said c = values_said c.args.measure
