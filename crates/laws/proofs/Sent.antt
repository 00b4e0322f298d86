-- Pulses of a move that all have room: each is accepted.
use Rattle.std.proofs.Common.{◌≡◌, ℕ, zero, suc, true, pos, negsuc, ℤ, ◌+ℤ◌, ◌≤ℤ◌, Ok, refl, arith}
use Rattle.std.proofs.lemmas.Int.{ints}
use Rattle.drives.specs.Meaning.{Meaning, Sound, at}
use Rattle.drives.specs.Sending.{sent, told}
use Rattle.drives.proofs.Sends.{reach}
use Rattle.states.specs.Moves.{direction_of}
use Rattle.laws.specs.Kept.{along}

-- k pulses along a distance D have room
abbrev pub Within : ℤ → ℕ → Meaning → Type 0
Within D k m = (m.least ≤ℤ (m.count +ℤ along D k)) × ((m.count +ℤ along D k) ≤ℤ m.greatest)

pub all-sent : (D : ℤ) (k : ℕ) (m : Meaning) → Sound m → m.ready ≡ true → Within D k m
    → sent (direction_of D) k m ≡ at (m.count +ℤ along D k) m
all-sent (pos n) k m s h w = rw (reach (direction_of (pos n)) k m s) (grind (arith, ints))
all-sent (negsuc n) k m s h w = rw (reach (direction_of (negsuc n)) k m s) (grind (arith, ints))

pub all_told : (D : ℤ) (k : ℕ) (m : Meaning) → Sound m → m.ready ≡ true → Within D k m
    → told (direction_of D) k m ≡ Ok tt
all_told D zero m s h w = refl
all_told (pos n) (suc k) m s h w = rw (reach (direction_of (pos n)) k m s) (grind (arith, ints))
all_told (negsuc n) (suc k) m s h w = rw (reach (direction_of (negsuc n)) k m s) (grind (arith, ints))
