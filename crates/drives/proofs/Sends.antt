-- Several pulses: a refused one stops all that follow, and where the count comes to.
use Rattle.std.proofs.Common.{◌≡◌, ℕ, zero, suc, ◌+◌, ◌-◌, ◌<◌, true, ℤ, pos, ◌+ℤ◌, ◌≤ℤ◌, neg_ℤ, Ok, Err, Result, suc-add, add-one, refl, arith}
use Rattle.std.proofs.lemmas.Int.{ints}
use Rattle.drives.specs.declared.direction.Direction.{Direction}
use Rattle.drives.specs.declared.direction.Direction.TheVariants.{Forward, Backward}
use Rattle.drives.specs.declared.fault.Refusal.{Refusal}
use Rattle.drives.specs.Meaning.{Meaning, Sound, at, answered, pulsed}
use Rattle.drives.specs.Sending.{sent, told, reached}

-- a refused pulse leaves the drive as it is
still : (d : Direction) (m : Meaning) (e : Refusal) → answered d m ≡ Err e → pulsed d m ≡ m
still d m e p = grind arith

-- and so does every one after it
stays : (d : Direction) (j i : ℕ) (m : Meaning) (e : Refusal) → answered d (sent d i m) ≡ Err e → sent d (j + i) m ≡ sent d i m
stays d zero i m e p = grind arith
stays d (suc j) i m e p = grind (arith, suc-add j i, stays d j i m e p, still d (sent d i m) e p)

-- the drive x that i pulses led to refuses the next of k pulses
pub refused-at : (d : Direction) (i k : ℕ) (m x : Meaning) (r : Result (Unit {0}) Refusal) (e : Refusal) → x ≡ sent d i m → r ≡ answered d x → r ≡ Err e → i < k → (told d k m ≡ Err e) × (sent d k m ≡ x)
refused-at d i k m x r e q a p h =
    let j = k - suc i in
    let is : k ≡ suc (j + i) = omega arith in
    let rest = stays d j i m e cc in
    (rw is (cc), rw is (grind (arith, still d x e)))

-- where k pulses come to
pub reach : (d : Direction) (k : ℕ) (m : Meaning) → Sound m → sent d k m ≡ at (reached d k m) m
reach d zero m s = grind (arith, ints)
reach d (suc k) m s = rw (reach d k m s) (grind (arith, ints))

-- the count after k pulses that all have room
abbrev pub gone : Direction → ℕ → Meaning → ℤ
gone Forward k m = m.count +ℤ pos k
gone Backward k m = m.count +ℤ neg_ℤ (pos k)

abbrev pub Within : Direction → ℕ → Meaning → Type 0
Within Forward k m = (m.count +ℤ pos k) ≤ℤ m.greatest
Within Backward k m = m.least ≤ℤ (m.count +ℤ neg_ℤ (pos k))

pub all-sent : (d : Direction) (k : ℕ) (m : Meaning) → Sound m → m.ready ≡ true → Within d k m → sent d k m ≡ at (gone d k m) m
all-sent d k m s h w = rw (reach d k m s) (grind (arith, ints))

pub all_told : (d : Direction) (k : ℕ) (m : Meaning) → Sound m → m.ready ≡ true → Within d k m → told d k m ≡ Ok tt
all_told d zero m s h w = refl
all_told d (suc k) m s h w = rw (reach d k m s) (grind (arith, ints))

-- one pulse more
pub sent-more : (d : Direction) (i : ℕ) (m : Meaning) → sent d (i + 1) m ≡ pulsed d (sent d i m)
sent-more d i m = rw add-one

pub told_more : (d : Direction) (i : ℕ) (m : Meaning) → told d (i + 1) m ≡ answered d (sent d i m)
told_more d i m = rw add-one
