use Rattle.std.proofs.Common.{◌≡◌, ℕ, ◌<◌, length, get_or}
use Rattle.motion.specs.Ramp.{after_first}
use Rattle.motion.proofs.ramp.first_steps.Given as goal

abbrev pub invariant-loop-step : goal.invariant-loop-step
invariant-loop-step l =
    (l.f ≡ after_first l.raw.fs l.raw.fm l.raw.increase l.step-index)
    × (length l.step-items ≡ 4096)
    × ((k : ℕ) → k < l.step-index → get_or l.step-items k 0 ≡ after_first l.raw.fs l.raw.fm l.raw.increase k)
