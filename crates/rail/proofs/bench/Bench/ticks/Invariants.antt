use Rattle.std.proofs.Common.{◌≡◌, ◌-◌}
use Rattle.rail.specs.Ticks.{counted}
use Rattle.rail.proofs.bench.Bench.ticks.Given as goal

-- what is left to count from here is the whole count
abbrev pub invariant-loop-before : goal.invariant-loop-before
invariant-loop-before l = counted (l.count - l.before) l.before l.axis l.self.module ≡ counted l.count 0 l.axis l.initial.self.module
