-- The ramp's steps: the only places that open its recursion.
use Rattle.std.proofs.Common.{◌≡◌, ℕ, zero, suc, ◌+◌, ◌-◌, ◌*◌, ◌/◌, ◌≤◌, min, refl, ap, ◌∙◌, add-zero, add-one, arith}
use Rattle.motion.specs.Ramp.{next_of, after_first}

pub first-none : (fs fm a : ℕ) → after_first fs fm a 0 ≡ fs
unfolding after_first
first-none fs fm a = refl

pub first_more : (fs fm a i : ℕ) → after_first fs fm a (i + 1) ≡ next_of fs fm a (after_first fs fm a i)
unfolding after_first
first_more fs fm a i = rw add-one

pub next_within : (fs fm a f : ℕ) → fs ≤ f → f ≤ fm → (fs ≤ next_of fs fm a f) × (next_of fs fm a f ≤ fm)
next_within fs fm a f h k = (omega arith, omega arith)

min_add : (m q : ℕ) → min m (m + q) ≡ m
min_add m q = omega arith

pub stays : (fs fm a i : ℕ) → after_first fs fm a i ≡ fm → after_first fs fm a (i + 1) ≡ fm
stays fs fm a i h = first_more fs fm a i ∙ ap (next_of fs fm a) h ∙ min_add fm (a * (20 * (fm - fs) - 19 * (fm - fs)) / (20 * (fm - fs)))

-- once at its maximum the ramp stays there
pub ended : (fs fm a i j : ℕ) → after_first fs fm a i ≡ fm → after_first fs fm a (i + j) ≡ fm
ended fs fm a i zero h = rw add-zero h
ended fs fm a i (suc j) h = let e : i + suc j ≡ (i + j) + 1 = omega arith in rw e (stays fs fm a (i + j) (ended fs fm a i j h))

pub past : (fs fm a i k : ℕ) → after_first fs fm a i ≡ fm → i ≤ k → after_first fs fm a k ≡ fm
past fs fm a i k h l = let e : i + (k - i) ≡ k = omega arith in rw e at (ended fs fm a i (k - i) h)
