-- A move does not drift.
use Rattle.std.proofs.Common.{◌≡◌, ℕ, suc, ◌*◌, ◌≤◌, max, ℤ, pos, negsuc, ◌+ℤ◌, ◌-ℤ◌, ◌*ℤ◌, nat_abs, ◌≤ℤ◌, ◌<ℤ◌, sym, refl, subst, mul-le-mul_right, arith}
use Rattle.std.specs.Int.{int_min, int_max, int_div_euclid}
use Rattle.std.proofs.lemmas.Int.{ints, clamps, by_lt_z}
use Rattle.motion.specs.Places.{rounded_of, pulses_of, nearest_of, held}
use Rattle.motion.specs.Laws.{Near, Between, Drift, Arrives, Held}

mono : (a b : ℤ) (k : ℕ) → a ≤ℤ b → (a *ℤ pos k) ≤ℤ (b *ℤ pos k)
mono (pos a) (pos b) k h = let j : a ≤ b = omega (arith, ints) in omega (arith, ints, mul-le-mul_right k j)
mono (pos a) (negsuc b) k h = absurd (omega (arith, ints))
mono (negsuc a) (pos b) k h = omega (arith, ints)
mono (negsuc a) (negsuc b) k h = let j : suc b ≤ suc a = omega (arith, ints) in omega (arith, ints, mul-le-mul_right k j)

step : (a b : ℤ) (k : ℕ) → a <ℤ b → (a *ℤ pos k +ℤ pos k) ≤ℤ (b *ℤ pos k)
step (pos a) (pos b) k h = let j : suc a ≤ b = omega (arith, ints) in omega (arith, ints, mul-le-mul_right k j)
step (pos a) (negsuc b) k h = absurd (omega (arith, ints))
step (negsuc a) (pos b) k h = omega (arith, ints)
step (negsuc a) (negsuc b) k h = let j : suc (suc b) ≤ suc a = omega (arith, ints) in omega (arith, ints, mul-le-mul_right k j)

floor-low : (z : ℤ) (d : ℕ) → 1 ≤ d → (int_div_euclid z (pos d) *ℤ pos d) ≤ℤ z
floor-low (pos a) d h = omega (arith, ints)
floor-low (negsuc a) d h = omega (arith, ints)

floor-high : (z : ℤ) (d : ℕ) → 1 ≤ d → z <ℤ (int_div_euclid z (pos d) *ℤ pos d +ℤ pos d)
floor-high (pos a) d h = omega (arith, ints)
floor-high (negsuc a) d h = omega (arith, ints)

rounded_low : (z : ℤ) (k j : ℕ) → 1 ≤ j → (rounded_of z k j *ℤ pos (2 * j)) ≤ℤ (z *ℤ pos (2 * k) +ℤ pos j)
rounded_low z k j h = floor-low (z *ℤ pos (2 * k) +ℤ pos j) (2 * j) (omega arith)

rounded_high : (z : ℤ) (k j : ℕ) → 1 ≤ j → (z *ℤ pos (2 * k) +ℤ pos j) <ℤ (rounded_of z k j *ℤ pos (2 * j) +ℤ pos (2 * j))
rounded_high z k j h = floor-high (z *ℤ pos (2 * k) +ℤ pos j) (2 * j) (omega arith)

pub arrives : Arrives
arrives W P hW hP t = omega (arith, ints, rounded_low t P W hW, rounded_high t P W hW)

twice : (z : ℤ) (k : ℕ) → z *ℤ pos (2 * k) ≡ z *ℤ pos k +ℤ z *ℤ pos k
twice (pos a) k = omega (arith, ints)
twice (negsuc a) k = omega (arith, ints)

-- the rounding of n, with its products as they stand elsewhere
unit_low : (z : ℤ) (k j : ℕ) → 1 ≤ j → (rounded_of z k j *ℤ pos j +ℤ rounded_of z k j *ℤ pos j) ≤ℤ (z *ℤ pos k +ℤ z *ℤ pos k +ℤ pos j)
unit_low z k j h = omega (arith, ints, rounded_low z k j h, twice z k, twice (rounded_of z k j) j)

unit_high : (z : ℤ) (k j : ℕ) → 1 ≤ j → (z *ℤ pos k +ℤ z *ℤ pos k) <ℤ (rounded_of z k j *ℤ pos j +ℤ rounded_of z k j *ℤ pos j +ℤ pos j)
unit_high z k j h = omega (arith, ints, rounded_high z k j h, twice z k, twice (rounded_of z k j) j)

-- the linear part of what follows: n, b, x, y and q stand for their products
above : (n b x y q : ℤ) (p m : ℕ) → (b +ℤ pos p) ≤ℤ q → (q +ℤ q) ≤ℤ (n +ℤ n +ℤ pos p) → n ≤ℤ x → y ≤ℤ b → 2 * nat_abs (x -ℤ y) ≤ m → 2 * nat_abs (n -ℤ b) ≤ m
above n b x y q p m h1 h2 h3 h4 h5 = omega (arith, ints)

below : (n a x y q : ℤ) (p m : ℕ) → (q +ℤ pos p) ≤ℤ a → (n +ℤ n) <ℤ (q +ℤ q +ℤ pos p) → x ≤ℤ n → a ≤ℤ y → 2 * nat_abs (x -ℤ y) ≤ m → 2 * nat_abs (n -ℤ a) ≤ m
below n a x y q p m h1 h2 h3 h4 h5 = omega (arith, ints)

module _ (W P : ℕ) (hW : 1 ≤ W) (hP : 1 ≤ P) where
  near_unit : (n : ℤ) → Near W P n (nearest_of W P n)
  near_unit n = omega (arith, ints, rounded_low n W P hP, rounded_high n W P hP)

  -- the nearest unit is above b, and n is no higher than a place x that is near to y, itself no higher than b
  from_above : (n b x y : ℤ) → b <ℤ nearest_of W P n → Near W P x y → n ≤ℤ x → y ≤ℤ b → Near W P n b
  from_above n b x y l near hn hb =
      above (n *ℤ pos W) (b *ℤ pos P) (x *ℤ pos W) (y *ℤ pos P) (nearest_of W P n *ℤ pos P) P (max W P)
      (step b (nearest_of W P n) P l) (unit_low n W P hP) (mono n x W hn) (mono y b P hb) near

  from_below : (n a x y : ℤ) → nearest_of W P n <ℤ a → Near W P x y → x ≤ℤ n → a ≤ℤ y → Near W P n a
  from_below n a x y l near hn ha =
      below (n *ℤ pos W) (a *ℤ pos P) (x *ℤ pos W) (y *ℤ pos P) (nearest_of W P n *ℤ pos P) P (max W P)
      (step (nearest_of W P n) a P l) (unit_high n W P hP) (mono x n W hn) (mono a y P ha) near

  put : (n s t q x : ℤ) → held s t q ≡ x → Near W P n x → Near W P n (held s t q)
  put n s t q x e h = subst (Near W P n) (sym e) h

  over : (s t a n q : ℤ) → q ≡ nearest_of W P n → Near W P a s → Between a (pulses_of W P t) n → int_max s t <ℤ q → Near W P n (int_max s t)
  over s t a n q e near b l =
      by_lt_z a (pulses_of W P t)
      (λ h. from_above n (int_max s t) (pulses_of W P t) t (subst (λ (u : ℤ). int_max s t <ℤ u) e l) (arrives W P hW hP t) (omega (arith, ints, clamps)) (omega (arith, ints, clamps)))
      (λ h. from_above n (int_max s t) a s (subst (λ (u : ℤ). int_max s t <ℤ u) e l) near (omega (arith, ints, clamps)) (omega (arith, ints, clamps)))

  under : (s t a n q : ℤ) → q ≡ nearest_of W P n → Near W P a s → Between a (pulses_of W P t) n → q <ℤ int_min s t → Near W P n (int_min s t)
  under s t a n q e near b l =
      by_lt_z a (pulses_of W P t)
      (λ h. from_below n (int_min s t) a s (subst (λ (u : ℤ). u <ℤ int_min s t) e l) near (omega (arith, ints, clamps)) (omega (arith, ints, clamps)))
      (λ h. from_below n (int_min s t) (pulses_of W P t) t (subst (λ (u : ℤ). u <ℤ int_min s t) e l) (arrives W P hW hP t) (omega (arith, ints, clamps)) (omega (arith, ints, clamps)))

held_high : (s t q : ℤ) → int_max s t <ℤ q → held s t q ≡ int_max s t
held_high s t q h = omega (arith, ints, clamps)

held_low : (s t q : ℤ) → q <ℤ int_min s t → held s t q ≡ int_min s t
held_low s t q h = omega (arith, ints, clamps)

held_in : (s t q : ℤ) → int_min s t ≤ℤ q → q ≤ℤ int_max s t → held s t q ≡ q
held_in s t q h k = omega (arith, ints, clamps)

pub drift : Drift
drift W P hW hP s t a n near b =
    let q = nearest_of W P n in
    by_lt_z (int_max s t) q
    (λ h. put W P hW hP n s t q (int_max s t) (held_high s t q h) (over W P hW hP s t a n q refl near b h))
    (λ h. by_lt_z q (int_min s t)
    (λ k. put W P hW hP n s t q (int_min s t) (held_low s t q k) (under W P hW hP s t a n q refl near b k))
    (λ k. put W P hW hP n s t q q (held_in s t q k h) (near_unit W P hW hP n)))

pub held-between : Held
held-between s t q = (omega (arith, ints, clamps), omega (arith, ints, clamps))
