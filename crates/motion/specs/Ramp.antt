-- The ramp: how the frequency rises from the start frequency to the maximum, step by step.
use Rattle.std.specs.Prelude.{ℕ, zero, suc, ◌+◌, ◌-◌, ◌*◌, ◌/◌, min}
use Rattle.motion.specs.declared.raw.RawData.{RawData}

-- the frequency of each step, from step 1 on
abbrev pub Ramp : Type 0
Ramp = ℕ → ℕ

-- the step after one of frequency f: the smaller of fm and f + ⌊a(h − 19(f − fs)) ÷ h⌋, with h = 20(fm − fs)
abbrev pub next_of : ℕ → ℕ → ℕ → ℕ → ℕ
next_of fs fm a f = min fm (f + a * (20 * (fm - fs) - 19 * (f - fs)) / (20 * (fm - fs)))

-- the frequency some steps after the first, which is fs
unfoldable pub after_first : ℕ → ℕ → ℕ → ℕ → ℕ
after_first fs fm a zero = fs
after_first fs fm a (suc i) = next_of fs fm a (after_first fs fm a i)

-- the ramp of machine data: f(1) = fs
abbrev pub ramp_of : RawData → Ramp
ramp_of d i = after_first d.fs d.fm d.increase (i - 1)
