-- Coordinates in units and pulses from zero: the one nearest to the other.
use Rattle.std.specs.Prelude.{ℕ, ◌*◌, ◌/◌, ℤ, pos, ◌+ℤ◌, ◌*ℤ◌}
use Rattle.std.specs.Int.{int_min, int_max, int_div_euclid}
use Rattle.motion.specs.declared.raw.RawData.{RawData}
use Rattle.units.specs.Measures.{units_in}
use Rattle.units.specs.declared.Measure.{Measure}

-- z × k ÷ j to the nearest whole number: ⌊(2zk + j) ÷ 2j⌋, as the quotient with no negative remainder
abbrev pub rounded_of : ℤ → ℕ → ℕ → ℤ
rounded_of z k j = int_div_euclid (z *ℤ pos (2 * k) +ℤ pos j) (pos (2 * j))

-- with W units and P pulses per turn: the pulses of a coordinate, and the unit nearest to n pulses
abbrev pub pulses_of : ℕ → ℕ → ℤ → ℤ
pulses_of W P c = rounded_of c P W

abbrev pub nearest_of : ℕ → ℕ → ℤ → ℤ
nearest_of W P n = rounded_of n W P

-- q, held between s and t
abbrev pub held : ℤ → ℤ → ℤ → ℤ
held s t q = int_max (int_min s t) (int_min q (int_max s t))

-- the rate, in mHz, of a speed per minute: ⌊speed × U × 1,000 × P ÷ 60W⌋
abbrev pub rate_of : Measure → ℕ → ℕ → ℕ → ℕ
rate_of m W P speed = speed * units_in m * 1000 * P / (60 * W)

-- the three by machine data
abbrev pub pulses_by : RawData → ℤ → ℤ
pulses_by d c = pulses_of d.units d.pulses c

abbrev pub nearest_by : RawData → ℤ → ℤ
nearest_by d n = nearest_of d.units d.pulses n

abbrev pub rate_by : RawData → ℕ → ℕ
rate_by d speed = rate_of d.measure d.units d.pulses speed
