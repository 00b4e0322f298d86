-- The sum over the steps of a ramp: the only places that open its recursion.
use Rattle.std.proofs.Common.{◌≡◌, ℕ, zero, suc, ◌+◌, ◌-◌, ◌*◌, ◌^◌, ◌<◌, ◌≤◌, min, eqb, refl, add-mul, add-one, arith}
use Rattle.std.proofs.lemmas.Bool.{cond_both}
use Rattle.std.proofs.lemmas.Nat.{mul-le}
use Rattle.motion.specs.Ramp.{Ramp}
use Rattle.motion.specs.Travel.{gain, way}

pub way-none : (f : Ramp) (v : ℕ) → way f v 0 ≡ 0
unfolding way
way-none f v = refl

pub way-more : (f : Ramp) (v i : ℕ) → way f v (i + 1) ≡ way f v i + gain f v (i + 1)
unfolding way
way-more f v i = rw add-one

pub way-suc : (f : Ramp) (v i : ℕ) → way f v (suc i) ≡ way f v i + gain f v (suc i)
unfolding way
way-suc f v i = refl

pub way_last : (f : Ramp) (v k : ℕ) → way f v k ≡ way f v (k - 1) + gain f v k
unfolding way
way_last f v zero = refl
way_last f v (suc k) = let e : suc k - 1 ≡ k = omega arith in rw e

pub gain_bound : (f : Ramp) (v k : ℕ) → gain f v k ≤ v
gain_bound f v k = cond_both (eqb k 0) 0 (min (f k) v) (λ (x : ℕ). x ≤ v) (λ e. omega arith) (λ e. omega arith)

pub way_bound : (f : Ramp) (v k : ℕ) → way f v k ≤ k * v
way_bound f v zero = omega (arith, way-none f v)
way_bound f v (suc k) = omega (arith, way-suc f v k, way_bound f v k, gain_bound f v (suc k), add-mul k 1 v)

-- within 4,096 steps and at a 32-bit rate
pub way_small : (f : Ramp) (v k : ℕ) → k ≤ 4096 → v < 2 ^ 32 → way f v k ≤ 4096 * 2 ^ 32
way_small f v k h l = omega (arith, way_bound f v k, mul-le k v 4096 (2 ^ 32) h (omega arith))

-- how the sum goes from step to step, and its bound
pub ruleset ways = (way-none, way-more, way_last, way_small)
