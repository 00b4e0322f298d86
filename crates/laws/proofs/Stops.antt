-- A braking axis comes to stand, and so does an axis after an accepted stop.
use Rattle.std.proofs.Common.{◌≡◌, ℕ, ◌+◌, ◌-◌, ◌≤◌, max, Bool, true, false, eqb, List, [], ◌∷◌, Some, None, Option, sym, refl, ap, ◌∙◌, subst, inl, inr, arith}
use Rattle.std.proofs.lemmas.Bool.{eqb-false, false≢true}
use Rattle.drives.specs.Meaning.{Meaning}
use Rattle.motion.specs.Travel.{Going}
use Rattle.store.specs.Programs.{Programs}
use Rattle.states.specs.declared.fault.Cause.{Cause}
use Rattle.states.specs.State.{Travel, Phase, standing, moving, braking, held, between, AxisState, with_work, stands, stopped}
use Rattle.states.specs.Moves.{braked_in}
use Rattle.orders.specs.Questions.{verdict}
use Rattle.ticks.specs.Moving.{with_going, slowed, sent_on}
use Rattle.ticks.specs.Ticks.{trouble_of, unless_trouble, slow_step, tick_at, tick_step}
use Rattle.laws.specs.Acts.{Act, entering, deleting, ordering, levelling, ticking, Event, act_step, order_axis, is_tick, step, after, ticks}
use Rattle.laws.specs.Kept.{Kept}
use Rattle.laws.specs.Laws.{ramp_step, stands_in, rest_of, RestsIn, EndsInTick, StandsWithin, Stop, Braking}
use Rattle.laws.proofs.Invariant.{act_keeps, invariant}
use Rattle.laws.proofs.Brakes.{stop_phase, act_brakes, step_down, short_stands}

-- an axis that stands already
stands_now : (n : ℕ) (p : Phase) (a : AxisState) (es : List Event) → stands_in a ≡ true → RestsIn p a → StandsWithin n p a es
stands_now n p a es h r = ([], es, refl, omega arith, h, r, inl refl)

-- a tick before a run that is empty or ends in a tick
tick_before : (p : Programs) (es : List Event) → EndsInTick es → EndsInTick (record { act = ticking; programs = p } ∷ es)
tick_before p es (inl z) = inr ([], p, ap (λ (l : List Event). record { act = ticking; programs = p } ∷ l) z)
tick_before p es (inr t) = inr (
  record { act = ticking; programs = p } ∷ t.0,
  t.1,
  ap (λ (l : List Event). record { act = ticking; programs = p } ∷ l) t.2,
)

-- any act before a run that makes an axis stand which did not: that run is not empty
act_before : (e : Event) (a : AxisState) (es : List Event) → stands_in a ≡ false → stands_in (after a es) ≡ true → EndsInTick es
    → EndsInTick (e ∷ es)
act_before e a es f h (inl z) = absurd (false≢true (sym f ∙ ap (λ (l : List Event). stands_in (after a l)) (sym z) ∙ h))
act_before e a es f h (inr t) = inr (e ∷ t.0, t.1, ap (λ (l : List Event). e ∷ l) t.2)

-- one act more
stands_after : (n k : ℕ) (p : Phase) (e : Event) (a : AxisState) (es : List Event) (s : StandsWithin k p (step e a) es)
    → is_tick e.act + k ≤ n → EndsInTick (e ∷ s.0) → StandsWithin n p a (e ∷ es)
stands_after n k p e a es s h t = (e ∷ s.0, s.1, ap (λ (l : List Event). e ∷ l) s.2, omega arith, s.4, s.5, t)

-- more ticks
stands_later : (n k : ℕ) (p : Phase) (a : AxisState) (es : List Event) → StandsWithin k p a es → k ≤ n → StandsWithin n p a es
stands_later n k p a es s h = (s.0, s.1, s.2, omega arith, s.4, s.5, s.6)

-- the run that follows stands in time, from any braking axis
abbrev Comes : List Event → Type 0
Comes es = (a : AxisState) (t : Travel) → Kept a → a.status.work.phase ≡ braking t → max t.going.step 1 ≤ ticks es
    → StandsWithin (max t.going.step 1) (rest_of (braking t)) a es

module _ (es : List Event) (ih : Comes es) (p : Programs) (a : AxisState) (t : Travel) (k : Kept a)
    (e : a.status.work.phase ≡ braking t) (h : max t.going.step 1 ≤ 1 + ticks es) where
  -- the ticks that are left after this one
  abbrev n : ℕ
  n = max t.going.step 1 - 1

  -- where braking leads
  abbrev rest : Phase
  rest = rest_of (braking t)

  -- after a tick of braking
  slow_by : (b : Bool) (g : Going) (m : Meaning) (s : AxisState) → g.step ≡ t.going.step - 1 → eqb g.step 0 ≡ b
      → s ≡ record { drive = m; status = with_work (slowed b g t m.count a.status.machine a.status.work) a.status } → Kept s
      → StandsWithin n rest s es
  slow_by true g m s d z q j = stands_now n rest s es (ap stands_in q ∙ short_stands t.target t.course)
      (inl (ap (λ (x : AxisState). x.status.work.phase) q))
  slow_by false g m s d z q j =
      let f = eqb-false g.step 0 z in
      let i : max g.step 1 ≤ ticks es = omega arith in
      let l : max g.step 1 ≤ n = omega arith in
      stands_later n (max g.step 1) rest s es (ih s (with_going g t) j (ap (λ (x : AxisState). x.status.work.phase) q) i) l

  -- with trouble it stands at once
  unless_by : (o : Option Cause) → Kept (unless_trouble o t a (slow_step (braked_in a.status.machine t.going) t a))
      → StandsWithin n rest (unless_trouble o t a (slow_step (braked_in a.status.machine t.going) t a)) es
  unless_by None j =
      let g = braked_in a.status.machine t.going in
      slow_by (eqb g.step 0) g (sent_on t g a.drive) (slow_step g t a)
      (step_down a.status.machine a.drive a.status.work t e k.holds) refl refl j
  unless_by (Some c) j =
      stands_now n rest (unless_trouble (Some c) t a (slow_step (braked_in a.status.machine t.going) t a)) es refl (inr refl)

  -- whatever the axis was doing was braking
  ticked_by : (ph : Phase) → ph ≡ braking t → Kept (tick_at ph p a) → StandsWithin n rest (tick_at ph p a) es
  ticked_by ph f j =
      subst (λ (x : Phase). Kept (tick_at x p a) → StandsWithin n rest (tick_at x p a) es) (sym f)
      (unless_by (trouble_of t a)) j

  -- a tick
  tick_comes : StandsWithin n rest (tick_step p a) es
  tick_comes = ticked_by a.status.work.phase e (act_keeps ticking p a k)

-- an act that is no tick, then the rest of the run
other_comes : (act : Act) (p : Programs) (es : List Event) → is_tick act ≡ 0 → Comes es
    → Comes (record { act = act; programs = p } ∷ es)
other_comes act p es z ih a t k e h =
    let n = max t.going.step 1 in
    let b = act_step act p a in
    let i = act_brakes act p a t e z in
    let s = ih b t (act_keeps act p a k) i (omega arith) in
    stands_after n n (rest_of (braking t)) record { act = act; programs = p } a es s (omega arith)
    (act_before record { act = act; programs = p } b s.0 (ap stands i) s.4 s.6)

-- any act
act_comes : (act : Act) (p : Programs) (es : List Event) → Comes es
    → Comes (record { act = act; programs = p } ∷ es)
act_comes (entering d) p es ih a t k e h = other_comes (entering d) p es refl ih a t k e h
act_comes deleting p es ih a t k e h = other_comes deleting p es refl ih a t k e h
act_comes (ordering o) p es ih a t k e h = other_comes (ordering o) p es refl ih a t k e h
act_comes (levelling begin end ready) p es ih a t k e h =
    other_comes (levelling begin end ready) p es refl ih a t k e h
act_comes ticking p es ih a t k e h =
    let n = max t.going.step 1 in
    let s = tick_comes es ih p a t k e h in
    stands_after n (n - 1) (rest_of (braking t)) record { act = ticking; programs = p } a es s (omega arith) (tick_before p s.0 s.6)

-- every run
comes : (es : List Event) → Comes es
comes [] a t k e h = absurd (omega arith)
comes (x ∷ es) a t k e h = act_comes x.act x.programs es (comes es) a t k e h

-- the law of a braking axis
pub braking_stands : Braking
braking_stands m s before later a t q e h =
    comes later a t (subst Kept (sym q) (invariant m s before)) e h

-- after a stop the axis stands, or brakes
stop_by : (ph : Phase) (a : AxisState) (es : List Event) → Kept a → a.status.work.phase ≡ stopped ph
    → max (ramp_step ph) 1 ≤ ticks es → StandsWithin (max (ramp_step ph) 1) (rest_of ph) a es
stop_by standing a es k e h = stands_now 1 standing a es (ap stands e) (inl e)
stop_by (moving t) a es k e h = comes es a t k e h
stop_by (braking t) a es k e h = comes es a t k e h
stop_by (held c u) a es k e h = stands_now 1 (held c u) a es (ap stands e) (inl e)
stop_by (between c) a es k e h = stands_now 1 (held c None) a es (ap stands e) (inl e)

-- the law of a stop
pub stop : Stop
stop m s before later o p a q c e h =
    let k = subst Kept (sym q) (invariant m s before) in
    stop_by a.status.work.phase (order_axis o p a) later (act_keeps (ordering o) p a k)
    (stop_phase (verdict o p a.drive a.status) o p a refl c e) h
