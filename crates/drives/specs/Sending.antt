-- Several pulses in one direction.
use Rattle.std.specs.Prelude.{ℕ, zero, suc, cond, ℤ, pos, ◌+ℤ◌, neg_ℤ, Ok, Result}
use Rattle.std.specs.Int.{int_min, int_max}
use Rattle.drives.specs.declared.direction.Direction.{Direction}
use Rattle.drives.specs.declared.direction.Direction.TheVariants.{Forward, Backward}
use Rattle.drives.specs.declared.fault.Refusal.{Refusal}
use Rattle.drives.specs.Meaning.{Meaning, answered, pulsed}

-- what k pulses leave, the refused ones among them
abbrev pub sent : Direction → ℕ → Meaning → Meaning
sent d zero m = m
sent d (suc k) m = pulsed d (sent d k m)

-- what k pulses are answered: what the last of them is. A refused pulse leaves the drive
-- as it is, so that every pulse after it is refused alike.
abbrev pub told : Direction → ℕ → Meaning → Result (Unit {0}) Refusal
told d zero m = Ok tt
told d (suc k) m = answered d (sent d k m)

-- the count after k pulses: k on, or at the end if that is nearer; a drive not ready stays
abbrev pub reached : Direction → ℕ → Meaning → ℤ
reached Forward k m = cond m.ready (int_min (m.count +ℤ pos k) m.greatest) m.count
reached Backward k m = cond m.ready (int_max (m.count +ℤ neg_ℤ (pos k)) m.least) m.count
