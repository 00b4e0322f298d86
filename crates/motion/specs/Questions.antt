-- The questions asked of machine data, as tests that compute, and the fault that the first failed one gives.
use Rattle.std.specs.Prelude.{ℕ, Bool, cond, ◌&&◌, ℤ, pos, negsuc, Some, None, Option, ◌==◌, int_le, int_lt, nat_le, slice_index_or}
use Rattle.motion.specs.declared.raw.RawData.{RawData}
use Rattle.motion.specs.declared.fault.DataFault.{DataFault}
use Rattle.motion.specs.declared.fault.DataFault.TheVariants.{OutOfRange, Disagree}
use Rattle.motion.specs.Ramp.{ramp_of}

abbrev pub within : ℕ → ℕ → ℕ → Bool
within least greatest x = nat_le least x && nat_le x greatest

abbrev pub reachable : ℤ → Bool
reachable c = int_le (negsuc 39999999) c && int_le c (pos 40000000)

abbrev pub frequencies : RawData → Bool
frequencies d = within 40000 100000000 d.fm && within 1000 10000000 d.fs && within 20 2599999 d.increase

abbrev pub signal : RawData → Bool
signal d = within 1 31 d.duration && within 4 40 d.patterns

abbrev pub gear : RawData → Bool
gear d = within 1 1000000 d.units && within 1 10000 d.pulses

abbrev pub limits : RawData → Bool
limits d = (reachable d.low && reachable d.high) && reachable d.reference

abbrev pub offsets : RawData → Bool
offsets d = (reachable (slice_index_or d.offsets 0 (pos 0)) && reachable (slice_index_or d.offsets 1 (pos 0)))
    && (reachable (slice_index_or d.offsets 2 (pos 0)) && reachable (slice_index_or d.offsets 3 (pos 0)))

abbrev pub in_range : RawData → Bool
in_range d = frequencies d && signal d && gear d && limits d && offsets d

-- fs ≤ fm, low < high, low ≤ reference ≤ high
abbrev pub ordered : RawData → Bool
ordered d = nat_le d.fs d.fm

abbrev pub placed : RawData → Bool
placed d = int_lt d.low d.high && int_le d.low d.reference && int_le d.reference d.high

-- the ramp has at most 4,096 steps
abbrev pub short : RawData → Bool
short d = ramp_of d 4096 == d.fm

abbrev pub agree : RawData → Bool
agree d = ordered d && placed d && short d

-- the first question with the answer no: all ranges come before any agreement
abbrev pub refusal : RawData → Option DataFault
refusal d = cond (in_range d) (cond (agree d) None (Some Disagree)) (Some OutOfRange)
