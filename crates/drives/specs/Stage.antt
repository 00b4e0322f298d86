-- The clock stage.
use Rattle.std.specs.Prelude.{◌≡◌, Bool, true, false, ◌||◌, ℤ, Ok, Err, Result, int_lt}
use Rattle.drives.specs.declared.direction.Direction.TheVariants.{Forward}
use Rattle.drives.specs.declared.clock_stage.ClockStage.{ClockStage}
use Rattle.drives.specs.declared.fault.DriveFault.{DriveFault}
use Rattle.drives.specs.declared.fault.DriveFault.TheVariants.{NotMade}
use Rattle.drives.specs.Meaning.{Meaning, lowest, highest}

-- a stage at a count, ready or not: its ends are the widest
abbrev pub stage_at : ℤ → Bool → Meaning
stage_at n b = record { count = n; least = lowest; greatest = highest; ready = b }

-- what a stage means
abbrev pub stage_of : ClockStage → Meaning
stage_of s = stage_at s.count s.ready

-- a stage can be made at no other count than one within the widest ends
abbrev pub outside : ℤ → Bool
outside n = int_lt n lowest || int_lt highest n

-- what making a stage gives
abbrev pub Made : ℤ → Result ClockStage DriveFault → Type 0
Made n (Ok s) = (outside n ≡ false) × (stage_of s ≡ stage_at n false) × (s.direction ≡ Forward)
Made n (Err e) = (outside n ≡ true) × (e ≡ NotMade)
