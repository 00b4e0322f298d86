-- Rounded quotients of signed products, and their bounds.
use Rattle.std.proofs.Common.{◌≡◌, ℕ, ◌+◌, ◌*◌, ◌^◌, ◌<◌, ◌≤◌, ℤ, pos, negsuc, ◌+ℤ◌, ◌*ℤ◌, nat_abs, div-le_self, arith, w32, w64, SFits}
use Rattle.std.specs.Int.{int_div_euclid}
use Rattle.motion.specs.Places.{rounded_of}
use Rattle.std.proofs.lemmas.Int.{ints, unsigned_abs-mul}
use Rattle.std.proofs.lemmas.Nat.{mul-le}

-- the code's quotient
pub quotient : (z : ℤ) (k j : ℕ) → int_div_euclid (z *ℤ (pos 2 *ℤ pos k) +ℤ pos j) (pos 2 *ℤ pos j) ≡ rounded_of z k j
quotient z k j =
    let d : pos 2 *ℤ pos k ≡ pos (2 * k) = omega (arith, ints) in
    let e : pos 2 *ℤ pos j ≡ pos (2 * j) = omega (arith, ints) in
    rw (d, e)

quotient_bound : (z : ℤ) (d : ℕ) → nat_abs (int_div_euclid z (pos d)) ≤ nat_abs z
quotient_bound (pos a) d = div-le_self a d
quotient_bound (negsuc a) d = omega (arith, ints, div-le_self a d)

sum_bound : (z : ℤ) (j : ℕ) → nat_abs (z +ℤ pos j) ≤ nat_abs z + j
sum_bound z j = omega (arith, ints)

-- the pulses of a 32-bit coordinate are far inside 64 bits
pub pulses_small : (c : ℤ) (k j : ℕ) → SFits w32 c → k ≤ 10000 → j ≤ 1000000 → nat_abs (rounded_of c k j) ≤ 50000000000000
pulses_small c k j f h i =
    omega (
      arith,
      ints,
      quotient_bound (c *ℤ pos (2 * k) +ℤ pos j) (2 * j),
      sum_bound (c *ℤ pos (2 * k)) j,
      unsigned_abs-mul c (pos (2 * k)),
      mul-le (nat_abs c) (2 * k) (2 ^ 31) 20000 (omega (arith, ints)) (omega arith),
    )

-- the product of a 64-bit number and a doubled 32-bit one is far inside 128 bits
pub product_bound : (z : ℤ) (k : ℕ) → SFits w64 z → k < 2 ^ 32 → nat_abs (z *ℤ (pos 2 *ℤ pos k)) ≤ 2 ^ 96
product_bound z k f h =
    let d : pos 2 *ℤ pos k ≡ pos (2 * k) = omega (arith, ints) in
    rw d (omega (arith, ints, unsigned_abs-mul z (pos (2 * k)), mul-le (nat_abs z) (2 * k) (2 ^ 63) (2 ^ 33) (omega (arith, ints)) (omega arith)))
