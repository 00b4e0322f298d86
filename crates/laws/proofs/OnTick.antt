-- A tick keeps what an axis keeps, and the drive takes every pulse of it.
use Rattle.std.proofs.Common.{◌≡◌, true, Some, None, Option, refl, ◌⊎◌, inl, inr, arith}
use Rattle.store.specs.Programs.{Programs}
use Rattle.states.specs.declared.fault.Cause.{Cause}
use Rattle.states.specs.State.{Travel, Phase, standing, moving, braking, held, between, AxisState}
use Rattle.states.specs.Moves.{ticked_in, braked_in}
use Rattle.states.specs.Effects.{fault_in}
use Rattle.ticks.specs.Blocks.{next_block}
use Rattle.ticks.specs.Moving.{fail_step}
use Rattle.ticks.specs.Ticks.{with_status, trouble_of, unless_trouble, run_step, slow_step, tick_at, tick_step}
use Rattle.laws.specs.Kept.{Kept}
use Rattle.laws.specs.Laws.{Taken, TakenIn}
use Rattle.laws.proofs.Refusing.{Holding}
use Rattle.laws.proofs.Taking.{take_keeps}
use Rattle.laws.proofs.Moved.{run_on, slow_on, fail_on}

-- the tick by what the axis is doing, trouble first
unless_keeps : (o : Option Cause) (t : Travel) (a next : AxisState) → trouble_of t a ≡ o
    → ((c : Cause) → Holding (with_status (fail_step c t a.drive.count a.status) a)) → (trouble_of t a ≡ None → Holding next)
    → Holding (unless_trouble o t a next)
unless_keeps None t a next e f h = h e
unless_keeps (Some c) t a next e f h = f c

-- a move without trouble has a drive that is ready
ready_in : (t : Travel) (a : AxisState) → trouble_of t a ≡ None → a.drive.ready ≡ true
ready_in t a e = grind arith

module _ (a : AxisState) (k : Kept a) (t : Travel) where
  moving-ran : a.status.work.phase ≡ moving t → trouble_of t a ≡ None
      → Holding (run_step (ticked_in a.status.machine t.going) t a) × Taken a t (ticked_in a.status.machine t.going)
  moving-ran e n =
      let g = ticked_in a.status.machine t.going in
      let h = run_on a.status.machine a.drive a.status.work t g refl e k.holds k.drive (ready_in t a n) in
      ((h.0, h.1, grind (arith, e, k.shown)), h.2)

  braking-ran : a.status.work.phase ≡ braking t → trouble_of t a ≡ None
      → Holding (slow_step (braked_in a.status.machine t.going) t a) × Taken a t (braked_in a.status.machine t.going)
  braking-ran e n =
      let g = braked_in a.status.machine t.going in
      let h = slow_on a.status.machine a.drive a.status.work t g refl e k.holds k.drive (ready_in t a n) in
      ((h.0, h.1, grind (arith, e, k.shown)), h.2)

  move_failed : (a.status.work.phase ≡ moving t) ⊎ (a.status.work.phase ≡ braking t) → (c : Cause)
      → Holding (with_status (fail_step c t a.drive.count a.status) a)
  move_failed e c =
      (k.drive, fail_on a.status.machine a.drive a.status.work t (fault_in t.course c) e k.holds, λ n. ((k.shown n).0, refl))

tick_by : (ph : Phase) (p : Programs) (a : AxisState) → a.status.work.phase ≡ ph → Kept a → Holding (tick_at ph p a)
tick_by standing p a e k = (k.drive, k.holds, k.shown)
tick_by (moving t) p a e k =
    unless_keeps (trouble_of t a) t a (run_step (ticked_in a.status.machine t.going) t a) refl
    (move_failed a k t (inl e)) (λ n. (moving-ran a k t e n).0)
tick_by (braking t) p a e k =
    unless_keeps (trouble_of t a) t a (slow_step (braked_in a.status.machine t.going) t a) refl
    (move_failed a k t (inr e)) (λ n. (braking-ran a k t e n).0)
tick_by (held c u) p a e k = (k.drive, k.holds, k.shown)
tick_by (between c) p a e k =
    (k.drive, take_keeps a.status.machine (next_block p c) c a.drive a.status.work e k.holds, grind (arith, e, k.shown))

pub tick_keeps : (p : Programs) (a : AxisState) → Kept a → Holding (tick_step p a)
tick_keeps p a k = tick_by a.status.work.phase p a refl k

taken_by : (ph : Phase) (a : AxisState) → a.status.work.phase ≡ ph → Kept a → TakenIn ph a
taken_by standing a e k = tt
taken_by (moving t) a e k = λ n. (moving-ran a k t e n).1
taken_by (braking t) a e k = λ n. (braking-ran a k t e n).1
taken_by (held c u) a e k = tt
taken_by (between c) a e k = tt

pub taken_in : (a : AxisState) → Kept a → TakenIn a.status.work.phase a
taken_in a k = taken_by a.status.work.phase a refl k
