-- The step that a tick chooses.
use Rattle.std.proofs.Common.{◌≡◌, ℕ, ◌+◌, ◌-◌, ◌≤◌, true, eqb, ap, arith}
use Rattle.std.proofs.lemmas.Bool.{cond_both, and_parts, leb-true, eqb-true}
use Rattle.motion.specs.Ramp.{Ramp}
use Rattle.motion.specs.Travel.{Going, gain, fits, chosen, in_ramp, left_at, way}
use Rattle.motion.proofs.Way.{way-none, way_last}

module _ (f : Ramp) (g : Going) where
  pub fits_parts : (k : ℕ) → fits f g k ≡ true → (1 ≤ k) × (in_ramp f g.rate k ≡ true) × (way f g.rate k ≤ g.left)
  fits_parts k e =
      let p = and_parts _ _ e in
      let q = and_parts _ _ p.1 in
      (leb-true _ _ p.0, q.0, leb-true _ _ q.1)

  -- what holds of every step that can be run, and of 0, holds of the chosen one
  pub chosen_has : (P : ℕ → Type 0) → ((k : ℕ) → fits f g k ≡ true → P k) → P 0 → P (chosen f g)
  chosen_has P some none =
      cond_both (fits f g (g.step + 1)) (g.step + 1) _ P (some (g.step + 1))
      (λ _. cond_both (fits f g g.step) g.step _ P (some g.step)
      (λ _. cond_both (fits f g (g.step - 1)) (g.step - 1) 0 P (some (g.step - 1)) (λ _. none)))

-- what is left after a tick at step k
pub left_keeps : (f : Ramp) (g : Going) (k : ℕ) → way f g.rate k ≤ g.left → (left_at f g k ≤ g.left) × (way f g.rate (k - 1) ≤ left_at f g k)
left_keeps f g k h =
    cond_both (eqb k 0) 0 (g.left - gain f g.rate k) (λ (x : ℕ). (x ≤ g.left) × (way f g.rate (k - 1) ≤ x))
    (λ e. let z : k - 1 ≡ 0 = omega (arith, eqb-true k 0 e) in (omega arith, omega (arith, ap (way f g.rate) z, way-none f g.rate)))
    (λ e. (omega arith, omega (arith, way_last f g.rate k)))
