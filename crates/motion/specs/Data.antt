-- Machine data: the range of each datum, and how the data have to agree.
use Rattle.std.specs.Prelude.{◌≡◌, ℕ, ◌-◌, ◌≤◌, List, ℤ, pos, negsuc, ◌≤ℤ◌, ◌<ℤ◌, slice_index, slice_index_or}
use Rattle.motion.specs.declared.raw.RawData.{RawData}
use Rattle.motion.specs.Ramp.{ramp_of}

-- x is within least and greatest, both included
abbrev pub Within : ℕ → ℕ → ℕ → Type 0
Within least greatest x = (least ≤ x) × (x ≤ greatest)

-- a coordinate is within ±40,000,000 units
abbrev pub Reachable : ℤ → Type 0
Reachable c = (negsuc 39999999 ≤ℤ c) × (c ≤ℤ pos 40000000)

-- the ranges, one group a kind
abbrev pub Frequencies : RawData → Type 0
Frequencies d = Within 40000 100000000 d.fm × Within 1000 10000000 d.fs × Within 20 2599999 d.increase

abbrev pub Signal : RawData → Type 0
Signal d = Within 1 31 d.duration × Within 4 40 d.patterns

abbrev pub Gear : RawData → Type 0
Gear d = Within 1 1000000 d.units × Within 1 10000 d.pulses

abbrev pub Limits : RawData → Type 0
Limits d = (Reachable d.low × Reachable d.high) × Reachable d.reference

abbrev pub Offsets : RawData → Type 0
Offsets d = (Reachable (slice_index_or d.offsets 0 (pos 0)) × Reachable (slice_index_or d.offsets 1 (pos 0)))
    × (Reachable (slice_index_or d.offsets 2 (pos 0)) × Reachable (slice_index_or d.offsets 3 (pos 0)))

-- the agreements
abbrev pub Ordered : RawData → Type 0
Ordered d = d.fs ≤ d.fm

abbrev pub Spread : RawData → Type 0
Spread d = d.low <ℤ d.high

abbrev pub Referenced : RawData → Type 0
Referenced d = (d.low ≤ℤ d.reference) × (d.reference ≤ℤ d.high)

-- the ramp has at most 4,096 steps
abbrev pub Short : RawData → Type 0
Short d = ramp_of d 4096 ≡ d.fm

-- each datum is in its range
abbrev pub InRange : RawData → Type 0
InRange d = Frequencies d × Signal d × Gear d × Limits d × Offsets d

-- the data agree
abbrev pub Agree : RawData → Type 0
Agree d = Ordered d × Spread d × Referenced d × Short d

-- data that pass the check
pub record Valid (d : RawData) : Type 0 where
  pub in_range : InRange d
  pub agree : Agree d

-- a table of the ramp of data: step i, up to the 4,096th, stands at place i - 1
abbrev pub Tabled : RawData → List ℕ → Type 0
Tabled d table = (i : ℕ) → 1 ≤ i → i ≤ 4096 → slice_index table (i - 1) ≡ ramp_of d i
