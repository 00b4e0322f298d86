-- What every state that an axis can reach keeps.
use Rattle.std.specs.Prelude.{◌≡◌, ℕ, ◌*◌, Bool, true, false, ℤ, pos, negsuc, ◌+ℤ◌, ◌-ℤ◌, neg_ℤ, ◌≤ℤ◌, is_some, Some, None, Option, unsigned_abs}
use Rattle.drives.specs.Meaning.{Meaning, Sound}
use Rattle.motion.specs.declared.raw.RawData.{RawData}
use Rattle.motion.specs.Data.{InRange, Agree}
use Rattle.motion.specs.Ramp.{ramp_of}
use Rattle.motion.specs.Places.{pulses_by}
use Rattle.motion.specs.Travel.{passed_in}
use Rattle.motion.specs.Laws.{Near, Safe}
use Rattle.states.specs.State.{Travel, Phase, standing, moving, braking, held, between, Work, AxisState, course_of}
use Rattle.orders.specs.Modes.{runs_programs}

-- a coordinate is within the limits
abbrev pub InLimits : RawData → ℤ → Type 0
InLimits d c = (d.low ≤ℤ c) × (c ≤ℤ d.high)

-- the count of a coordinate, by the count at zero, lies within the drive's ends
abbrev pub InEnds : RawData → Meaning → ℤ → ℤ → Type 0
InEnds d m zero c = (m.least ≤ℤ (zero +ℤ pulses_by d c)) × ((zero +ℤ pulses_by d c) ≤ℤ m.greatest)

-- a target that the axis may move to: its count is within the ends, and with a reference it is within the limits
pub record Attainable (d : RawData) (m : Meaning) (zero : ℤ) (referenced : Bool) (target : ℤ) : Type 0 where
  pub ends : InEnds d m zero target
  pub limits : referenced ≡ true → InLimits d target

-- so many pulses along a distance
abbrev pub along : ℤ → ℕ → ℤ
along (pos n) k = pos k
along (negsuc n) k = neg_ℤ (pos k)

-- n when the move began
abbrev pub began_at : RawData → Travel → ℤ
began_at d t = pulses_by d t.target -ℤ t.distance

-- a move under way: it began near its start; n has gone on from there by the whole millions passed; what is left matches the
-- pulses that remain, and suffices to brake; its target can be reached
pub record OnWay (d : RawData) (m : Meaning) (zero : ℤ) (referenced : Bool) (t : Travel) : Type 0 where
  pub began : Near d.units d.pulses (began_at d t) t.start
  pub gone : m.count -ℤ zero ≡ began_at d t +ℤ along t.distance (passed_in t.going)
  pub whole : t.going.total ≡ 1000000 * unsigned_abs t.distance
  pub safe : Safe (ramp_of d) t.going
  pub target : Attainable d m zero referenced t.target
  pub start : referenced ≡ true → InLimits d t.start

abbrev pub Unfinished : Option ℤ → RawData → Meaning → ℤ → Bool → Type 0
Unfinished None d m zero referenced = Unit {0}
Unfinished (Some target) d m zero referenced = Attainable d m zero referenced target

abbrev pub KeptIn : Phase → RawData → Meaning → ℤ → Bool → Type 0
KeptIn standing d m zero referenced = Unit {0}
KeptIn (moving t) d m zero referenced = OnWay d m zero referenced t
KeptIn (braking t) d m zero referenced = OnWay d m zero referenced t
KeptIn (held c u) d m zero referenced = Unfinished u d m zero referenced
KeptIn (between c) d m zero referenced = Unit {0}

-- with machine data: they are in range and agree; coordinate and pulses lie within half a unit or half a pulse of each
-- other; with a reference the coordinate is within the limits; and what is being done can be done
pub record KeptWith (d : RawData) (m : Meaning) (w : Work) : Type 0 where
  pub range : InRange d
  pub agree : Agree d
  pub drift : Near d.units d.pulses (m.count -ℤ w.zero) w.coordinate
  pub limits : w.referenced ≡ true → InLimits d w.coordinate
  pub doing : KeptIn w.phase d m w.zero w.referenced

-- without machine data the axis stands without a program and without a reference
abbrev pub KeptBy : Option RawData → Meaning → Work → Type 0
KeptBy None m w = (w.phase ≡ standing) × (w.referenced ≡ false)
KeptBy (Some d) m w = KeptWith d m w

-- outside modes 8 and 9 the M number is 2, and no program runs or is held
abbrev pub Quiet : Work → Type 0
Quiet w = runs_programs w.mode ≡ false → (w.auxiliary ≡ 2) × (course_of w.phase ≡ None)

-- a program that runs or is held has a reference, so that 19 asked of a block always goes by the limits of the machine data
abbrev pub Referenced : Work → Type 0
Referenced w = is_some (course_of w.phase) ≡ true → w.referenced ≡ true

pub record Kept (a : AxisState) : Type 0 where
  pub drive : Sound a.drive
  pub holds : KeptBy a.status.machine a.drive a.status.work
  pub shown : Quiet a.status.work
  pub program : Referenced a.status.work
