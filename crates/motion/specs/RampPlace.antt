-- A place on the ramp: a step, with the sum over the steps up to it.
use Rattle.std.specs.Prelude.{◌≡◌, ℕ, ◌-◌, ◌≤◌, Option, Some, None, ⊤}
use Rattle.motion.specs.declared.mover.Place.{Place}
use Rattle.motion.specs.Ramp.{Ramp}
use Rattle.motion.specs.Travel.{Going, gain, way}

-- the sum is that of the steps up to the place
abbrev pub Summed : Ramp → ℕ → Place → Type 0
Summed f v p = p.sum ≡ way f v p.step

-- a move can run at a place: it is within 4,096 steps, and the sum up to it is left
abbrev pub Runs : Ramp → Going → Place → Type 0
Runs f g p = (p.step ≤ 4096) × Summed f g.rate p × (p.sum ≤ g.left)

-- a move can run at the place, if there is one
abbrev pub PlaceRuns : Ramp → Going → Option Place → Type 0
PlaceRuns f g None = ⊤
PlaceRuns f g (Some p) = Runs f g p

-- the step of a place, 0 with none
abbrev pub step_of : Option Place → ℕ
step_of None = 0
step_of (Some p) = p.step

-- what is left after a tick at a place: with none the move is complete, and nothing is left
abbrev pub left_after : Ramp → Going → Option Place → ℕ
left_after f g None = 0
left_after f g (Some p) = g.left - gain f g.rate p.step

-- a move after a tick at a place
abbrev pub run_at : Ramp → Going → Option Place → Going
run_at f g p = record g { left = left_after f g p; step = step_of p }
