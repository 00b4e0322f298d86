use Rattle.std.proofs.Common.{◌≡◌, ◌≤◌, drop}
use Rattle.reader.specs.Words.{onto}
use Rattle.reader.proofs.number.value_upto.Given as goal

abbrev pub invariant-loop-b : goal.invariant-loop-b
invariant-loop-b l = (l.n ≤ l.most) × (onto l.n (drop l.b-index l.digits) ≡ onto l.start l.digits)
