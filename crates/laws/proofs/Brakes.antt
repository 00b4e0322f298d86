-- What an accepted stop does, what leaves a braking axis braking, and what a braking tick does to it.
use Rattle.std.proofs.Common.{◌≡◌, ◌-◌, ℤ, Bool, true, false, cond, not, eqb, Some, None, Ok, Err, Option, Result, sym, refl, ap, ◌∙◌, arith}
use Rattle.std.proofs.lemmas.Bool.{false≢true}
use Rattle.drives.specs.Meaning.{Meaning}
use Rattle.motion.specs.declared.raw.RawData.{RawData}
use Rattle.store.specs.Programs.{Programs}
use Rattle.states.specs.declared.order.Order.{Order}
use Rattle.states.specs.declared.fault.Cause.{Cause}
use Rattle.states.specs.Faults.{cause_number}
use Rattle.states.specs.declared.fault.Cause.TheVariants.{DataWhileBusy}
use Rattle.states.specs.declared.mode.Mode.{Mode}
use Rattle.states.specs.Mode.{mode_of}
use Rattle.states.specs.State.{Course, Travel, Phase, braking, Work, Status, AxisState, stands, brakes, stopped}
use Rattle.states.specs.Moves.{braked_in}
use Rattle.states.specs.Entry.{cleared, with_data, data_refusal, some_data, unless}
use Rattle.laws.proofs.Asked.{Yes, accepted}
use Rattle.orders.specs.declared.plan.Plan.{Plan}
use Rattle.orders.specs.declared.plan.Plan.TheVariants.{Halt}
use Rattle.orders.specs.Modes.{stops}
use Rattle.orders.specs.Effects.{carried_out}
use Rattle.orders.specs.Questions.{order_questions, standing_plan, plan_for, verdict}
use Rattle.orders.specs.Orders.{order_fault, answered, left}
use Rattle.ticks.specs.Moving.{stopped_short}
use Rattle.laws.specs.Acts.{Act, entering, deleting, ordering, levelling, ticking, act_step, is_tick}
use Rattle.laws.specs.Kept.{KeptBy}

-- the plan of a stop
halts : (b : Bool) (x : Plan) → b ≡ true → cond b Halt x ≡ Halt
halts true x e = refl
halts false x e = absurd (false≢true e)

-- an accepted stop does nothing else
plan_halts : (mode : Option Mode) (o : Order) (p : Programs) (m : Meaning) (s : Status) → stops o.command ≡ true
    → Yes (order_questions mode o p m s) → plan_for mode o m s ≡ Halt
plan_halts None o p m s e y = absurd (false≢true y.0)
plan_halts (Some mode) o p m s e y = halts (stops o.command) (standing_plan mode o m s.machine s.work) e

-- an accepted stop brakes a move, and holds a program without one
pub stop_phase : (v : Result Plan Cause) (o : Order) (p : Programs) (a : AxisState) → verdict o p a.drive a.status ≡ v
    → stops o.command ≡ true → answered o a.status.work.phase v ≡ Ok tt
    → (left o a.drive a.status v).work.phase ≡ stopped a.status.work.phase
stop_phase (Ok plan) o p a q c e =
    let m = a.drive in
    let s = a.status in
    let y = accepted (order_questions (mode_of o.mode) o p m s) (plan_for (mode_of o.mode) o m s) plan q in
    let i : plan ≡ Halt = sym y.1 ∙ plan_halts (mode_of o.mode) o p m s c y.0 in
    ap (λ (x : Plan). (carried_out o.mode x m s.machine s.work).phase) i
stop_phase (Err cause) o p a q c e = cc

-- while it brakes, entry and deletion are refused
busy : (b : Bool) (o : Option Cause) (s next : Status) → b ≡ false → unless (cond b o (Some DataWhileBusy)) s next ≡ s
busy true o s next e = absurd (false≢true (sym e))
busy false o s next e = refl

-- and orders: the first questions say no
not_asked : {A : Type 0} (mode : Option Mode) (o : Order) (p : Programs) (m : Meaning) (s : Status) (t : Travel)
    → s.work.phase ≡ braking t → Yes (order_questions mode o p m s) → A
not_asked None o p m s t e y = absurd (false≢true y.0)
not_asked (Some mode) o p m s t e y = absurd (false≢true (sym (ap (λ (x : Phase). not (brakes x)) e) ∙ y.1.0))

-- a refused order leaves it braking
stays_by : (b : Bool) (ph : Phase) (t : Travel) → ph ≡ braking t → cond b (stopped ph) ph ≡ braking t
stays_by true ph t e = ap stopped e
stays_by false ph t e = e

-- an order to a braking axis
order_brakes : (v : Result Plan Cause) (o : Order) (p : Programs) (a : AxisState) (t : Travel)
    → verdict o p a.drive a.status ≡ v → a.status.work.phase ≡ braking t → (left o a.drive a.status v).work.phase ≡ braking t
order_brakes (Ok plan) o p a t q e =
    let m = a.drive in
    let s = a.status in
    let y = accepted (order_questions (mode_of o.mode) o p m s) (plan_for (mode_of o.mode) o m s) plan q in
    not_asked (mode_of o.mode) o p m s t e y.0
order_brakes (Err cause) o p a t q e =
    stays_by (eqb (cause_number (order_fault o a.status.work.phase cause).cause) 11) a.status.work.phase t e

-- all acts but a tick leave it braking
pub act_brakes : (act : Act) (p : Programs) (a : AxisState) (t : Travel) → a.status.work.phase ≡ braking t → is_tick act ≡ 0
    → (act_step act p a).status.work.phase ≡ braking t
act_brakes (entering d) p a t e z =
    let s = a.status in
    let next = with_data (Some d) (cleared a.drive.count s.work) s in
    ap (λ (x : Status). x.work.phase) (busy (stands s.work.phase) (data_refusal d) s next (ap stands e)) ∙ e
act_brakes deleting p a t e z =
    let s = a.status in
    let next = with_data None (cleared s.work.zero s.work) s in
    ap (λ (x : Status). x.work.phase) (busy (stands s.work.phase) (some_data s.machine) s next (ap stands e)) ∙ e
act_brakes (ordering o) p a t e z = order_brakes (verdict o p a.drive a.status) o p a t refl e
act_brakes (levelling begin end ready) p a t e z = e
act_brakes ticking p a t e z = absurd (omega arith)

-- a braking tick goes one step down
pub step_down : (o : Option RawData) (m : Meaning) (w : Work) (t : Travel) → w.phase ≡ braking t → KeptBy o m w
    → (braked_in o t.going).step ≡ t.going.step - 1
unfolding braked_in
step_down None m w t e k = let f = k.0 in cc
step_down (Some d) m w t e k = refl

-- a move that has stopped short stands
pub short_stands : (target : ℤ) (c : Option Course) → stands (stopped_short target c) ≡ true
short_stands target None = refl
short_stands target (Some c) = refl
