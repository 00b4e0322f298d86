-- No tick runs more than the rate.
use Rattle.std.proofs.Common.{◌≡◌, ℕ, zero, suc, ◌+◌, ◌-◌, ◌<◌, ◌≤◌, true, ltb, leb, sym, ap, ◌∙◌, subst, ⊎_elim, arith}
use Rattle.std.proofs.lemmas.Bool.{cases_lt, cases_eq, cond-true, cond-false, cond_both, le-leb, lt-leb, lt-ltb, ltb-true, and_from}
use Rattle.motion.specs.Ramp.{Ramp}
use Rattle.motion.specs.Travel.{Going, gain, way, fits, in_ramp, chosen, ticked, begun}
use Rattle.motion.specs.Laws.{Rises, Safe, runs, SpeedHeld}
use Rattle.motion.proofs.Way.{way-none, way-suc, gain_bound}
use Rattle.motion.proofs.Choice.{fits_parts, chosen_has}
use Rattle.motion.proofs.Rising.{rising}
use Rattle.motion.proofs.Runs.{begun-safe, ticked-safe, tick_goes}

in_first : (f : Ramp) (v k : ℕ) → k ≤ 1 → in_ramp f v k ≡ true
in_first f v k h = cond-true (leb k 1) true (ltb (f (k - 1)) v) (le-leb k 1 h)

module _ (f : Ramp) (g : Going) where
  fits_from : (k : ℕ) → 1 ≤ k → in_ramp f g.rate k ≡ true → way f g.rate k ≤ g.left → fits f g k ≡ true
  fits_from k h i w = and_from _ _ (le-leb 1 k h) (and_from _ _ i (le-leb _ _ w))

  some_up : fits f g (g.step + 1) ≡ true → 1 ≤ chosen f g
  some_up e = subst (λ (k : ℕ). 1 ≤ k) (sym (cond-true (fits f g (g.step + 1)) (g.step + 1) _ e)) (omega arith)

  some_same : fits f g g.step ≡ true → 1 ≤ chosen f g
  some_same e =
      cond_both (fits f g (g.step + 1)) (g.step + 1) _ (λ (k : ℕ). 1 ≤ k) (λ _. omega arith)
      (λ _. subst (λ (k : ℕ). 1 ≤ k) (sym (cond-true (fits f g g.step) g.step _ e)) (fits_parts f g g.step e).0)

  some_down : fits f g (g.step - 1) ≡ true → 1 ≤ chosen f g
  some_down e =
      cond_both (fits f g (g.step + 1)) (g.step + 1) _ (λ (k : ℕ). 1 ≤ k) (λ _. omega arith)
      (λ _. cond_both (fits f g g.step) g.step _ (λ (k : ℕ). 1 ≤ k) (λ d. (fits_parts f g g.step d).0)
      (λ _. subst (λ (k : ℕ). 1 ≤ k) (sym (cond-true (fits f g (g.step - 1)) (g.step - 1) 0 e)) (fits_parts f g (g.step - 1) e).0))

  -- the chosen step is in the ramp
  chosen_in : in_ramp f g.rate (chosen f g) ≡ true
  chosen_in = chosen_has f g (λ (k : ℕ). in_ramp f g.rate k ≡ true) (λ k e. (fits_parts f g k e).1) (in_first f g.rate 0 (omega arith))

module _ (fm : ℕ) (f : Ramp) (r : Rises fm f) where
  -- the step below one in the ramp is in it too
  in_below : (v k : ℕ) → 2 ≤ k → in_ramp f v k ≡ true → in_ramp f v (k - 1) ≡ true
  in_below v k h e =
      ⊎_elim (λ (l : k - 1 < 2). in_first f v (k - 1) (omega arith))
      (λ (l : 2 ≤ k - 1).
      let u : f (k - 1) < v = ltb-true _ _ (sym (cond-false (leb k 1) true (ltb (f (k - 1)) v) (lt-leb k 1 (omega arith))) ∙ e) in
      cond-false (leb (k - 1) 1) true (ltb (f (k - 1 - 1)) v) (lt-leb (k - 1) 1 (omega arith))
      ∙ lt-ltb _ _ (omega (arith, u, rising fm f r (k - 1 - 1) (k - 1) (omega arith) (omega arith))))
      (cases_lt (k - 1) 2)

  -- while g(1) is left, some step can be run
  some_step : (g : Going) → Safe f g → in_ramp f g.rate g.step ≡ true → way f g.rate 1 ≤ g.left → 1 ≤ chosen f g
  some_step g s i h =
      ⊎_elim
      (λ (l : g.step < 2). ⊎_elim
      (λ (z : g.step ≡ 0).
      let e : g.step + 1 ≡ 1 = omega arith in
      some_up f g (fits_from f g (g.step + 1) (omega arith) (in_first f g.rate (g.step + 1) (omega arith)) (omega (arith, ap (way f g.rate) e))))
      (λ (z : g.step ≡ 0 → ⊥).
      let e : g.step ≡ 1 = omega arith in
      some_same f g (fits_from f g g.step (omega arith) i (omega (arith, ap (way f g.rate) e))))
      (cases_eq g.step 0))
      (λ (l : 2 ≤ g.step). some_down f g (fits_from f g (g.step - 1) (omega arith) (in_below g.rate g.step l i) s.brakes))
      (cases_lt g.step 2)

  held_of : (g : Going) → Safe f g → in_ramp f g.rate g.step ≡ true
      → (g.left ≤ (ticked f g).left + g.rate) × ((ticked f g).step ≡ 0 → g.left < gain f g.rate 1)
  held_of g s i =
      let one : way f g.rate 1 ≡ gain f g.rate 1 = omega (arith, way-suc f g.rate 0, way-none f g.rate) in
      let last : chosen f g ≡ 0 → g.left < gain f g.rate 1 =
      λ e. ⊎_elim (λ (l : g.left < gain f g.rate 1). l)
      (λ (l : gain f g.rate 1 ≤ g.left). absurd (omega (arith, some_step g s i (omega (arith, one)), e)))
      (cases_lt g.left (gain f g.rate 1)) in (
        ⊎_elim (λ (e : chosen f g ≡ 0). omega (arith, last e, gain_bound f g.rate 1))
            (λ (e : chosen f g ≡ 0 → ⊥). omega (arith, tick_goes f g e, gain_bound f g.rate (chosen f g)))
            (cases_eq (chosen f g) 0),
        last,
      )

  sound_run : (b : Going) → Safe f b → in_ramp f b.rate b.step ≡ true → (n : ℕ)
      → Safe f (runs (ticked f) b n) × (in_ramp f (runs (ticked f) b n).rate (runs (ticked f) b n).step ≡ true)
  sound_run b s i zero = (s, i)
  sound_run b s i (suc n) =
      let h = sound_run b s i n in
      (ticked-safe f (runs (ticked f) b n) h.0, chosen_in f (runs (ticked f) b n))

pub speed-held : SpeedHeld
speed-held fm f r v D n g e =
    let h = sound_run fm f r (begun fm v D) (begun-safe f fm v D) (in_first f (begun fm v D).rate 0 (omega arith)) n in
    subst (λ (x : Going). (x.left ≤ (ticked f x).left + x.rate) × ((ticked f x).step ≡ 0 → x.left < gain f x.rate 1)) (sym e)
    (held_of fm f r (runs (ticked f) (begun fm v D) n) h.0 h.1)
