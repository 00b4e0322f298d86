-- What is asked of a move before it begins.
use Rattle.std.specs.Prelude.{ℕ, Bool, cond, ◌&&◌, List, [], ◌∷◌, ℤ, pos, negsuc, ◌+ℤ◌, ◌-ℤ◌, Ok, Err, Result, int_le, nat_le}
use Rattle.drives.specs.declared.fault.DriveFault.{DriveFault}
use Rattle.drives.specs.declared.fault.DriveFault.TheVariants.{NotReadyToMove}
use Rattle.drives.specs.Meaning.{Meaning}
use Rattle.motion.specs.declared.raw.RawData.{RawData}
use Rattle.motion.specs.Places.{pulses_by}
use Rattle.states.specs.declared.aim.Aim.{Aim}
use Rattle.states.specs.declared.fault.Cause.{Cause}
use Rattle.states.specs.declared.fault.Cause.TheVariants.{RateOutside, TargetOutside, CountOutside, OfDrive}

-- questions, each with the fault that a no gives; the first no answers
abbrev pub Questions : Type 0
Questions = List (Bool × Cause)

infixr 20 ◌asks◌
abbrev pub ◌asks◌ : {A : Type 0} → Questions → Result A Cause → Result A Cause
[] asks r = r
(q ∷ qs) asks r = cond q.0 (qs asks r) (Err q.1)

-- the limits count with a reference; without one a jog may go to ±40,000,000
abbrev pub lowest_of : RawData → Bool → ℤ
lowest_of d referenced = cond referenced d.low (negsuc 39999999)

abbrev pub highest_of : RawData → Bool → ℤ
highest_of d referenced = cond referenced d.high (pos 40000000)

-- D: the pulses of the target less those from zero
abbrev pub distance_to : RawData → ℤ → Meaning → ℤ → ℤ
distance_to d target m zero = pulses_by d target -ℤ (m.count -ℤ zero)

abbrev pub aim_for : RawData → ℕ → ℤ → Meaning → ℤ → Aim
aim_for d rate target m zero = record { target = target; rate = rate; distance = distance_to d target m zero }

-- is the drive ready? 21
abbrev pub ready_verdict : Meaning → Result (Unit {0}) DriveFault
ready_verdict m = cond m.ready (Ok tt) (Err NotReadyToMove)

-- of the way to a target, with the count at zero: 20, 21
abbrev pub way_questions : RawData → ℤ → Meaning → ℤ → Questions
way_questions d target m zero =
    (int_le m.least (zero +ℤ pulses_by d target) && int_le (zero +ℤ pulses_by d target) m.greatest, CountOutside)
    ∷ (m.ready, OfDrive NotReadyToMove)
    ∷ []

-- of a move at a rate to a target: 18, 19, 20, 21
abbrev pub move_questions : RawData → ℕ → ℤ → Meaning → ℤ → Bool → Questions
move_questions d rate target m zero referenced =
    (nat_le 1 rate && nat_le rate d.fm, RateOutside)
    ∷ (int_le (lowest_of d referenced) target && int_le target (highest_of d referenced), TargetOutside)
    ∷ way_questions d target m zero

abbrev pub way_verdict : RawData → ℕ → ℤ → Meaning → ℤ → Result Aim Cause
way_verdict d rate target m zero = way_questions d target m zero asks Ok (aim_for d rate target m zero)

abbrev pub move_verdict : RawData → ℕ → ℤ → Meaning → ℤ → Bool → Result Aim Cause
move_verdict d rate target m zero referenced = move_questions d rate target m zero referenced asks Ok (aim_for d rate target m zero)
