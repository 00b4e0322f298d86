-- What a unit of each measure is: 0.001 mm, 0.0001 inch, 0.001 degree.
use Rattle.std.specs.Prelude.{ℕ, ◌^◌, ◌≡◌}
use Rattle.units.specs.declared.Measure.{Measure}
use Rattle.units.specs.declared.Measure.TheVariants.{Millimetre, Inch, Degree}

-- the decimals of a unit
abbrev pub places : Measure → ℕ
places Millimetre = 3
places Inch = 4
places Degree = 3

-- the units in one mm, inch or degree
abbrev pub units_in : Measure → ℕ
units_in Millimetre = 1000
units_in Inch = 10000
units_in Degree = 1000

-- one mm, inch or degree has as many units as the decimals of a unit give
abbrev pub UnitsByPlaces : Type 0
UnitsByPlaces = (m : Measure) → units_in m ≡ 10 ^ places m
