-- Runs of ticks: what they keep, what they send, and that they end.
use Rattle.std.proofs.Common.{◌≡◌, ℕ, zero, suc, ◌+◌, ◌-◌, ◌*◌, ◌/◌, ◌<◌, ◌≤◌, min, eqb, ℤ, nat_abs, sym, refl, ap, ◌∙◌, subst, ⊎_elim, arith}
use Rattle.std.proofs.lemmas.Bool.{cases_eq, cond-true, cond-false, ne_eqb, le-leb, lt-leb}
use Rattle.motion.specs.Ramp.{Ramp}
use Rattle.motion.specs.Travel.{Going, gain, way, fits, chosen, left_at, ticked, braked, begun, passed_in}
use Rattle.motion.specs.Laws.{Rises, Safe, runs, sends, StaysSafe, Movers, CompleteIn, WholeMove, NeverPast, FirstTick, Stops}
use Rattle.motion.proofs.Way.{way-none, way-suc, way_last}
use Rattle.motion.proofs.Choice.{fits_parts, chosen_has, left_keeps}
use Rattle.motion.specs.View.{mover_data}
use Rattle.motion.proofs.Rising.{at_least_one, ramp_rises}

module _ (f : Ramp) where
  -- what is left suffices for the chosen step
  pub chosen-way : (g : Going) → way f g.rate (chosen f g) ≤ g.left
  chosen-way g = chosen_has f g (λ (k : ℕ). way f g.rate k ≤ g.left) (λ k e. (fits_parts f g k e).2) (omega (arith, way-none f g.rate))

  pub begun-safe : (fm v : ℕ) (D : ℤ) → Safe f (begun fm v D)
  begun-safe fm v D = record { within = omega arith; brakes = omega (arith, way-none f (begun fm v D).rate) }

  pub ticked-safe : (g : Going) → Safe f g → Safe f (ticked f g)
  ticked-safe g s =
      let p = left_keeps f g (chosen f g) (chosen-way g) in
      record { within = omega (arith, p.0, s.within); brakes = p.1 }

  pub braked-safe : (g : Going) → Safe f g → Safe f (braked f g)
  braked-safe g s =
      record { within = omega (arith, s.within); brakes = omega (arith, s.brakes, way_last f g.rate (g.step - 1)) }

pub stays-safe : StaysSafe
stays-safe f = (begun-safe f, ticked-safe f, braked-safe f)

-- whole millions, as less is left
passed_grows : (total a b : ℕ) → b ≤ a → (total - a) / 1000000 ≤ (total - b) / 1000000
passed_grows total a b h = omega arith

module _ (tick : Going → Going) (falls : (g : Going) → ((tick g).total ≡ g.total) × ((tick g).left ≤ g.left)) where
  pub runs-total : (g : Going) (n : ℕ) → (runs tick g n).total ≡ g.total
  runs-total g zero = refl
  runs-total g (suc n) = (falls (runs tick g n)).0 ∙ runs-total g n

  -- the pulses sent are the whole millions passed
  pub sends_is : (g : Going) (n : ℕ) → passed_in g + sends tick g n ≡ passed_in (runs tick g n)
  sends_is g zero = omega arith
  sends_is g (suc n) =
      let h = runs tick g n in
      let e : passed_in h ≤ passed_in (tick h) =
      omega (arith, passed_grows h.total h.left (tick h).left (falls h).1, ap (λ (t : ℕ). (t - (tick h).left) / 1000000) (falls h).0) in
      omega (arith, e, sends_is g n)

ticked_falls : (f : Ramp) (g : Going) → ((ticked f g).total ≡ g.total) × ((ticked f g).left ≤ g.left)
ticked_falls f g = (refl, (left_keeps f g (chosen f g) (chosen-way f g)).0)

braked_falls : (f : Ramp) (g : Going) → ((braked f g).total ≡ g.total) × ((braked f g).left ≤ g.left)
braked_falls f g = (refl, omega arith)

-- no more whole millions are passed than the whole has
passed_few : (t l d : ℕ) → t ≡ 1000000 * d → (t - l) / 1000000 ≤ d
passed_few t l d e = omega arith

pub never_past : NeverPast
never_past f fm v D n m =
    let b = begun fm v D in
    let g = runs (ticked f) b n in
    let h = runs (braked f) g m in
    let t : h.total ≡ 1000000 * nat_abs D =
    runs-total (braked f) (braked_falls f) g m ∙ runs-total (ticked f) (ticked_falls f) b n in
    omega (
      arith,
      sends_is (ticked f) (ticked_falls f) b n,
      sends_is (braked f) (braked_falls f) g m,
      passed_few h.total h.left (nat_abs D) t,
    )

module _ (f : Ramp) (g : Going) where
  -- where no step is chosen, nothing is left; else the tick runs at least 1
  pub tick-ends : chosen f g ≡ 0 → (ticked f g).left ≡ 0
  tick-ends e = ap (left_at f g) e

  pub tick_goes : (chosen f g ≡ 0 → ⊥) → (ticked f g).left ≡ g.left - gain f g.rate (chosen f g)
  tick_goes e = cond-false (eqb (chosen f g) 0) 0 (g.left - gain f g.rate (chosen f g)) (ne_eqb (chosen f g) 0 e)

gain_some : (fm : ℕ) (f : Ramp) → Rises fm f → (v k : ℕ) → 1 ≤ v → 1 ≤ k → 1 ≤ gain f v k
gain_some fm f r v k h l =
    let e : gain f v k ≡ min (f k) v = cond-false (eqb k 0) 0 (min (f k) v) (ne_eqb k 0 (λ z. omega arith)) in
    omega (arith, e, at_least_one fm f r k l)

-- the first tick, then the others
runs-suc : (tick : Going → Going) (g : Going) (n : ℕ) → runs tick (tick g) n ≡ runs tick g (suc n)
runs-suc tick g zero = refl
runs-suc tick g (suc n) = ap tick (runs-suc tick g n)

module _ (fm : ℕ) (f : Ramp) (r : Rises fm f) where
  -- a tick that goes on leaves less
  less_left : (g : Going) → 1 ≤ g.rate → (chosen f g ≡ 0 → ⊥) → (ticked f g).left < g.left
  less_left g h e =
      let k : 1 ≤ chosen f g = omega arith in
      omega (arith, tick_goes f g e, gain_some fm f r g.rate (chosen f g) h k, chosen-way f g, way_last f g.rate (chosen f g))

  on_suc : (g : Going) (n : ℕ) → 1 ≤ (ticked f g).step → CompleteIn f (ticked f g) n → CompleteIn f g (suc n)
  on_suc g n s c =
      let e = runs-suc (ticked f) g in (
        omega arith,
        sym (ap (λ (x : Going). x.step) (e n)) ∙ c.1,
        sym (ap (λ (x : Going). x.left) (e n)) ∙ c.2,
        λ k. early k,
      )
    where
      early : (k : ℕ) → 1 ≤ k → k < suc n → 1 ≤ (runs (ticked f) g k).step
      early zero h l = absurd (omega arith)
      early (suc zero) h l = s
      early (suc (suc k)) h l = subst (λ (x : Going). 1 ≤ x.step) (runs-suc (ticked f) g (suc k)) (c.3 (suc k) (omega arith) (omega arith))

  ends : (m : ℕ) (g : Going) → 1 ≤ g.rate → g.left < m → (n : ℕ) × CompleteIn f g n
  ends zero g h l = absurd (omega arith)
  ends (suc m) g h l =
      ⊎_elim (λ (e : chosen f g ≡ 0). (1, (omega arith, e, tick-ends f g e, λ k a b. absurd (omega arith))))
      (λ (e : chosen f g ≡ 0 → ⊥).
      let t = ends m (ticked f g) h (omega (arith, less_left g h e)) in
      (suc t.0, on_suc g t.0 (omega arith) t.1))
      (cases_eq (chosen f g) 0)

pub whole_move : WholeMove
whole_move fm f r v D =
    let b = begun fm v D in
    let t = ends fm f r (suc b.left) b (omega arith) (omega arith) in
    let h = runs (ticked f) b t.0 in
    let w : h.total ≡ 1000000 * nat_abs D = runs-total (ticked f) (ticked_falls f) b t.0 in
    let z : h.left ≡ 0 = t.1.2 in
    (t.0, t.1, omega (arith, sends_is (ticked f) (ticked_falls f) b t.0, w, z))

module _ (f : Ramp) (g : Going) where
  brake_step : (n : ℕ) → (runs (braked f) g n).step ≡ g.step - n
  brake_step zero = omega arith
  brake_step (suc n) = omega (arith, brake_step n)

  brake_rate : (n : ℕ) → (runs (braked f) g n).rate ≡ g.rate
  brake_rate zero = refl
  brake_rate (suc n) = brake_rate n

  -- after n braking ticks the steps r − 1 down to r − n have been run
  brake_left : Safe f g → (n : ℕ) → (runs (braked f) g n).left + way f g.rate (g.step - 1) ≡ g.left + way f g.rate (g.step - 1 - n)
  brake_left s zero = let e : g.step - 1 - zero ≡ g.step - 1 = omega arith in omega (arith, ap (way f g.rate) e)
  brake_left s (suc n) =
      let h = runs (braked f) g n in
      let e : h.step - 1 ≡ g.step - 1 - n = omega (arith, brake_step n) in
      let d : g.step - 1 - n - 1 ≡ g.step - 1 - suc n = omega arith in
      let k : gain f h.rate (h.step - 1) ≡ gain f g.rate (g.step - 1 - n) =
      ap (λ (v : ℕ). gain f v (h.step - 1)) (brake_rate n) ∙ ap (gain f g.rate) e in
      let p : (braked f h).left ≡ h.left - gain f g.rate (g.step - 1 - n) = ap (λ (x : ℕ). h.left - x) k in
      omega (arith, p, brake_left s n, s.brakes, way_last f g.rate (g.step - 1 - n), ap (way f g.rate) d)

pub stops : Stops
stops f g s = (
  λ n h. (
    omega (arith, brake_step f g n),
    let e : g.step - 1 - n ≡ 0 = omega arith in
        omega (arith, brake_left f g s n, ap (way f g.rate) e, way-none f g.rate),
  ),
  λ n h. omega (arith, brake_step f g n),
)

-- the first tick of a new move
module _ (f : Ramp) (fm v : ℕ) (D : ℤ) where
  first_way : way f (begun fm v D).rate 1 ≡ gain f (begun fm v D).rate 1
  first_way = omega (arith, way-suc f (begun fm v D).rate 0, way-none f (begun fm v D).rate)

  first-left : (k : ℕ) → chosen f (begun fm v D) ≡ k
      → sends (ticked f) (begun fm v D) 1 ≡ (1000000 * nat_abs D - left_at f (begun fm v D) k) / 1000000
  first-left k c = omega (arith, ap (left_at f (begun fm v D)) c)

  first_runs : gain f (begun fm v D).rate 1 ≤ 1000000 * nat_abs D → chosen f (begun fm v D) ≡ 1
  first_runs h = cond-true (fits f (begun fm v D) 1) 1 _ (le-leb _ _ (omega (arith, first_way)))

  first-none : 1000000 * nat_abs D < gain f (begun fm v D).rate 1 → chosen f (begun fm v D) ≡ 0
  first-none h = cond-false (fits f (begun fm v D) 1) 1 _ (lt-leb _ _ (omega (arith, first_way)))

pub first-tick : FirstTick
first-tick f fm v D one e = (
  λ h. omega (arith, first-left f fm v D 1 (first_runs f fm v D (omega arith))),
  λ h. omega (arith, first-left f fm v D 0 (first-none f fm v D (omega arith))),
  λ h. omega (arith, first-left f fm v D 1 (first_runs f fm v D (omega arith))),
)

pub movers : Movers
movers m = (ramp_rises (mover_data m) m.valid.in_range.0 m.valid.agree.0, record { within = m.within; brakes = m.safe })
