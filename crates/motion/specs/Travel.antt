-- A move in progress over any ramp: its ticks, its braking ticks, and the pulses that they send.
use Rattle.std.specs.Prelude.{ℕ, zero, suc, ◌+◌, ◌-◌, ◌*◌, ◌/◌, min, max, Bool, true, cond, ◌&&◌, ℤ, ◌==◌, nat_le, nat_lt, unsigned_abs}
use Rattle.motion.specs.Ramp.{Ramp}
use Rattle.motion.specs.declared.passed.Passed.{Passed}

-- rate v in mHz; total and left in millionths of a pulse; the ramp step r of the last tick, 0 before the first
pub record Going : Type 0 where
  pub rate : ℕ
  pub total : ℕ
  pub left : ℕ
  pub step : ℕ

-- g(i), the smaller of f(i) and v: what a tick at step i runs; nothing at step 0
abbrev pub gain : Ramp → ℕ → ℕ → ℕ
gain f v i = cond (i == 0) 0 (min (f i) v)

-- S(i) = g(1) + … + g(i)
unfoldable pub way : Ramp → ℕ → ℕ → ℕ
way f v zero = 0
way f v (suc i) = way f v i + gain f v (suc i)

-- step k is not past the last step, the first with f(i) ≥ v: it is the first, or the one before is below v
abbrev pub in_ramp : Ramp → ℕ → ℕ → Bool
in_ramp f v k = cond (nat_le k 1) true (nat_lt (f (k - 1)) v)

-- step k can be run: it is at least 1, not past the last step, and S(k) is left
abbrev pub fits : Ramp → Going → ℕ → Bool
fits f g k = nat_le 1 k && (in_ramp f g.rate k && nat_le (way f g.rate k) g.left)

-- a tick's new step: the greatest of r + 1, r and r − 1 that can be run, 0 where none can
abbrev pub chosen : Ramp → Going → ℕ
chosen f g = cond (fits f g (g.step + 1)) (g.step + 1) (cond (fits f g g.step) g.step (cond (fits f g (g.step - 1)) (g.step - 1) 0))

-- what is left after a tick at step k: with no step the move is complete, and nothing is left
abbrev pub left_at : Ramp → Going → ℕ → ℕ
left_at f g k = cond (k == 0) 0 (g.left - gain f g.rate k)

-- a move after a tick
abbrev pub ticked : Ramp → Going → Going
ticked f g = record g { left = left_at f g (chosen f g); step = chosen f g }

-- a move after a braking tick: one step lower, at step 0 it stands and runs no more
abbrev pub braked : Ramp → Going → Going
braked f g = record g { left = g.left - gain f g.rate (g.step - 1); step = g.step - 1 }

-- a new move by D pulses, its rate held to 1 to fm
abbrev pub begun : ℕ → ℕ → ℤ → Going
begun fm v D = record { rate = max 1 (min v fm); total = 1000000 * unsigned_abs D; left = 1000000 * unsigned_abs D; step = 0 }

-- no move yet
abbrev pub idle : Going
idle = record { rate = 1; total = 0; left = 0; step = 0 }

-- the whole millions passed since the move began
abbrev pub passed_in : Going → ℕ
passed_in g = (g.total - g.left) / 1000000

-- what a tick from the first to the second answers: one pulse for each whole million that it passed, and whether the axis now stands
abbrev pub passing : Going → Going → Passed
passing before after = record { pulses = passed_in after - passed_in before; ended = (after.step == 0) }
