use Rattle.std.proofs.Common.{◌≡◌, ◌+◌, ◌≤◌, length}
use Rattle.reader.specs.Lines.{left}
use Rattle.reader.proofs.rest.Rest.next_part.Given as goal

abbrev pub invariant-loop-first : goal.invariant-loop-first
invariant-loop-first l =
    (left l.self ≡ left l.start) × (l.start.at + length l.start.bytes.now ≡ l.self.at + length l.self.bytes.now) × (length l.start.bytes.now ≤ length l.self.bytes.now)

abbrev pub decreases-loop-first : goal.decreases-loop-first
decreases-loop-first l = length l.start.bytes.now
