use Rattle.std.proofs.Common.{◌≡◌, length}
use Rattle.reader.specs.Lines.{left}
use Rattle.reader.specs.Summaries.{start, answered_with}
use Rattle.reader.proofs.read_words.Given as goal

abbrev pub invariant-loop-begun : goal.invariant-loop-begun
invariant-loop-begun l = answered_with l.line.measure l.words (left l.rest) ≡ answered_with l.line.measure start (left l.line)

abbrev pub decreases-loop-begun : goal.decreases-loop-begun
decreases-loop-begun l = length l.rest.bytes.now
