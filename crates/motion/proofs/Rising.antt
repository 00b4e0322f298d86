-- Ramps that rise, and that the ramp of machine data is one.
use Rattle.std.proofs.Common.{◌≡◌, ℕ, zero, suc, ◌+◌, ◌-◌, ◌*◌, ◌<◌, ◌≤◌, true, false, ltb, leb, sym, ap, ◌∙◌, subst, ⊎_elim, add-one, arith}
use Rattle.std.proofs.lemmas.Nat.{mul-le, le-div}
use Rattle.std.proofs.lemmas.Bool.{cases_lt, cases_eq, ltb-true, lt-ltb, le-leb, lt-leb, cond-true, cond-false}
use Rattle.motion.specs.Ramp.{Ramp, ramp_of, after_first, next_of}
use Rattle.motion.specs.Laws.{Rises, EndsAt, RampRises, RampEnds, LastStep}
use Rattle.motion.proofs.Curve.{first-none, first_more, next_within, stays}

-- one step of the curve is a rise
pub next_climbs : (fs fm a f : ℕ) → 20 ≤ a → fs ≤ f → f < fm → f < next_of fs fm a f
next_climbs fs fm a f ha h k =
    let p = mul-le 20 (fm - fs) a (20 * (fm - fs) - 19 * (f - fs)) ha (omega arith) in
    let q = le-div 1 (a * (20 * (fm - fs) - 19 * (f - fs))) (20 * (fm - fs)) (omega arith) (omega arith) in
    omega arith

pub curve_within : (fs fm a i : ℕ) → fs ≤ fm → (fs ≤ after_first fs fm a i) × (after_first fs fm a i ≤ fm)
curve_within fs fm a zero h = let e = first-none fs fm a in (omega arith, omega arith)
curve_within fs fm a (suc i) h =
    let w = curve_within fs fm a i h in
    let e : after_first fs fm a (suc i) ≡ next_of fs fm a (after_first fs fm a i) = rw add-one at (first_more fs fm a i) in
    let n = next_within fs fm a (after_first fs fm a i) w.0 w.1 in
    (omega (arith, e), omega (arith, e))

-- suc i - 1, one after i - 1
up_one : (fs fm a i : ℕ) → 1 ≤ i → after_first fs fm a (suc i - 1) ≡ next_of fs fm a (after_first fs fm a (i - 1))
up_one fs fm a i h = let e : suc i - 1 ≡ (i - 1) + 1 = omega arith in ap (after_first fs fm a) e ∙ first_more fs fm a (i - 1)

pub ramp_rises : RampRises
ramp_rises d h o =
    let fs = d.fs in
    let fm = d.fm in
    let a = d.increase in
    record {
      starts = omega (arith, first-none fs fm a);
      below = λ i _. (curve_within fs fm a (i - 1) o).1;
      climbs = λ i l k. subst (λ (x : ℕ). after_first fs fm a (i - 1) < x) (sym (up_one fs fm a i l))
          (next_climbs fs fm a (after_first fs fm a (i - 1)) (omega arith) (curve_within fs fm a (i - 1) o).0 k);
      stays = λ i l e. let s : suc i - 1 ≡ (i - 1) + 1 = omega arith in ap (after_first fs fm a) s ∙ stays fs fm a (i - 1) e;
    }

module _ (fm : ℕ) (f : Ramp) (r : Rises fm f) where
  one_up : (i : ℕ) → 1 ≤ i → f i ≤ f (suc i)
  one_up i h =
      ⊎_elim (λ (l : f i < fm). omega (arith, r.climbs i h l))
      (λ (l : fm ≤ f i). let e : f i ≡ fm = omega (arith, r.below i h) in omega (arith, r.stays i h e))
      (cases_lt (f i) fm)

  by_steps : (i j : ℕ) → 1 ≤ i → f i ≤ f (i + j)
  by_steps i zero h = let e : i + zero ≡ i = omega arith in rw e (omega arith)
  by_steps i (suc j) h =
      let e : i + suc j ≡ suc (i + j) = omega arith in
      rw e (omega (arith, by_steps i j h, one_up (i + j) (omega arith)))

  -- a later step is no slower
  pub rising : (i k : ℕ) → 1 ≤ i → i ≤ k → f i ≤ f k
  rising i k h l = let e : i + (k - i) ≡ k = omega arith in rw e at (by_steps i (k - i) h)

  pub at_least_one : (i : ℕ) → 1 ≤ i → 1 ≤ f i
  at_least_one i h = omega (arith, r.starts, rising 1 i (omega arith) h)

  -- the first step equal to fm, among the first ones
  first_of : (m : ℕ) → ((i : ℕ) → 1 ≤ i → i ≤ m → f i ≡ fm → ⊥) → (k : ℕ) → f (suc (m + k)) ≡ fm
      → (n : ℕ) × (n ≤ suc (m + k)) × EndsAt fm f n
  first_of m none zero e =
      let s : suc (m + zero) ≡ suc m = omega arith in
      (suc (m + zero), omega arith, (omega arith, e, λ i h l. none i h (omega arith)))
  first_of m none (suc k) e =
      ⊎_elim (λ (y : f (suc m) ≡ fm). (suc m, omega arith, (omega arith, y, λ i h l. none i h (omega arith))))
      (λ (y : f (suc m) ≡ fm → ⊥).
      let s : suc (m + suc k) ≡ suc (suc m + k) = omega arith in
      let more : (i : ℕ) → 1 ≤ i → i ≤ suc m → f i ≡ fm → ⊥ =
      λ i h l. ⊎_elim (λ (q : i < suc m). none i h (omega arith)) (λ (q : suc m ≤ i). let z : i ≡ suc m = omega arith in λ w. y (sym (ap f z) ∙ w)) (cases_lt i (suc m)) in
      let t = first_of (suc m) more k (rw s at e) in
      (t.0, omega (arith, t.1), t.2))
      (cases_eq (f (suc m)) fm)

  pub ends_within : (k : ℕ) → f (suc k) ≡ fm → (n : ℕ) × (n ≤ suc k) × EndsAt fm f n
  ends_within k e =
      let t = first_of 0 (λ i h l. absurd (omega arith)) k (let s : 0 + k ≡ k = omega arith in rw s e) in
      (t.0, omega (arith, t.1), t.2)

  pub stays_by : (n k : ℕ) → 1 ≤ n → n ≤ k → f n ≡ fm → f k ≡ fm
  stays_by n k h l e = omega (arith, rising n k h l, r.below k (omega arith))

pub ramp_ends : RampEnds
ramp_ends d h o =
    let r = ramp_rises d h o in
    (λ s. ends_within d.fm (ramp_of d) r 4095 s, λ n l e. stays_by d.fm (ramp_of d) r n 4096 e.0 l e.1)

pub last_step : LastStep
last_step fm f r v n e k h = (
  λ t. ⊎_elim (λ (l : k < suc n). omega arith)
      (λ (l : suc n ≤ k).
      let b : leb k 1 ≡ false = lt-leb k 1 (omega (arith, e.0)) in
      let u : f (k - 1) < v = ltb-true _ _ (sym (cond-false (leb k 1) true (ltb (f (k - 1)) v) b) ∙ t) in
      absurd (omega (arith, e.1, rising fm f r n (k - 1) e.0 (omega arith))))
      (cases_lt k (suc n)),
  λ l. ⊎_elim (λ (q : k < 2). cond-true (leb k 1) true (ltb (f (k - 1)) v) (le-leb k 1 (omega arith)))
      (λ (q : 2 ≤ k). cond-false (leb k 1) true (ltb (f (k - 1)) v) (lt-leb k 1 (omega arith)) ∙ lt-ltb _ _ (e.2 (k - 1) (omega arith) (omega arith)))
      (cases_lt k 2),
)

-- the steps of the curve in turn
pub ruleset steps = (first-none, first_more, curve_within)
