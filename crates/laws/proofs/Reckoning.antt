-- The machine data, the count at zero and the reference of an axis are what its acts say, and so are the laws of the coordinate.
use Rattle.std.proofs.Common.{◌≡◌, Bool, cond, ℤ, ◌-ℤ◌, List, [], ◌∷◌, Some, None, Ok, Err, Option, Result, refl, ap, ◌∙◌, sym, subst, is_ok}
use Rattle.motion.specs.declared.raw.RawData.{RawData}
use Rattle.motion.specs.Laws.{Near}
use Rattle.store.specs.Programs.{Programs}
use Rattle.states.specs.declared.order.Order.{Order}
use Rattle.states.specs.declared.fault.Cause.{Cause}
use Rattle.states.specs.declared.fault.AxisFault.{AxisFault}
use Rattle.states.specs.Mode.{mode_of}
use Rattle.states.specs.State.{Status, AxisState}
use Rattle.states.specs.Entry.{cleared, with_data, enter_no, delete_no, unless, call_reply}
use Rattle.orders.specs.declared.plan.Plan.{Plan}
use Rattle.orders.specs.Questions.{order_questions, plan_for, verdict}
use Rattle.orders.specs.Effects.{carried_out}
use Rattle.orders.specs.Orders.{answered, left}
use Rattle.ticks.specs.Ticks.{tick_at, tick_reply}
use Rattle.laws.specs.Acts.{Act, entering, deleting, ordering, levelling, ticking, Event, act_step, act_reply, step, new_axis, after}
use Rattle.laws.specs.Kept.{KeptBy}
use Rattle.laws.specs.Reckoned.{data_after, data_next, data_given, zero_after, zero_given, reference_after, reference_given, Data, Zero, Reference, DriftBound, Limits}
use Rattle.laws.proofs.Asked.{accepted}
use Rattle.laws.proofs.Invariant.{invariant}
use Rattle.laws.proofs.OrderValues.{accepted_sets}
use Rattle.laws.proofs.TickValues.{Leaves, tick_leaves, tick_data}

-- an axis has these machine data, this count at zero and this reference
abbrev Is : Option RawData → ℤ → Bool → Status → Type 0
Is o z r s = (s.machine ≡ o) × (s.work.zero ≡ z) × (s.work.referenced ≡ r)

-- after an act on an axis, by its reply
abbrev IsAfter : Act → Result (Unit {0}) AxisFault → AxisState → Status → Type 0
IsAfter act reply a s =
    let o = a.status.machine in
    let w = a.status.work in
    Is (cond (is_ok reply) (data_after act o) o) (cond (is_ok reply) (zero_after act o a.drive.count w.zero) w.zero)
    (reference_after act reply w.referenced) s

-- an entry, accepted or refused
enter_is : (o : Option Cause) (d : RawData) (a : AxisState)
    → IsAfter (entering d) (call_reply o) a
    (unless o a.status (with_data (Some d) (cleared a.drive.count a.status.work) a.status))
enter_is None d a = (refl, refl, refl)
enter_is (Some c) d a = (refl, refl, refl)

-- a deletion
delete_is : (o : Option Cause) (a : AxisState)
    → IsAfter deleting (call_reply o) a
    (unless o a.status (with_data None (cleared a.status.work.zero a.status.work) a.status))
delete_is None a = (refl, refl, refl)
delete_is (Some c) a = (refl, refl, refl)

-- an order
order_is : (v : Result Plan Cause) (x : Order) (p : Programs) (a : AxisState) → verdict x p a.drive a.status ≡ v
    → IsAfter (ordering x) (answered x a.status.work.phase v) a (left x a.drive a.status v)
order_is (Ok plan) x p a e =
    let m = a.drive in
    let s = a.status in
    let y = accepted (order_questions (mode_of x.mode) x p m s) (plan_for (mode_of x.mode) x m s) plan e in
    let h = accepted_sets (mode_of x.mode) x p m s refl y.0 in
    let at = λ (q : Plan). carried_out x.mode q m s.machine s.work in
    (refl, sym (ap (λ (q : Plan). (at q).zero) y.1) ∙ h.2, sym (ap (λ (q : Plan). (at q).referenced) y.1) ∙ h.3)
order_is (Err c) x p a e = (refl, refl, refl)

-- a tick
tick_is : (reply : Result (Unit {0}) AxisFault) (a : AxisState) (s : Status) → s.machine ≡ a.status.machine
    → Leaves reply a.status.work s.work → IsAfter ticking reply a s
tick_is (Ok x) a s e l = (e, l.2, l.3)
tick_is (Err f) a s e l = (e, l.2, l.3)

-- every act
act_is : (act : Act) (p : Programs) (a : AxisState) → IsAfter act (act_reply act p a) a (act_step act p a).status
act_is (entering d) p a = enter_is (enter_no d a.status) d a
act_is deleting p a = delete_is (delete_no a.status) a
act_is (ordering x) p a = order_is (verdict x p a.drive a.status) x p a refl
act_is (levelling begin end ready) p a = (refl, refl, refl)
act_is ticking p a =
    let ph = a.status.work.phase in
    tick_is (tick_reply p a) a (tick_at ph p a).status (tick_data ph p a) (tick_leaves ph p a)

-- after a run
run_is : (es : List Event) (a : AxisState)
    → Is (data_given a es a.status.machine) (zero_given a es a.status.machine a.status.work.zero)
    (reference_given a es a.status.work.referenced) (after a es).status
run_is [] a = (refl, refl, refl)
run_is (x ∷ es) a =
    let g = act_is x.act x.programs a in
    let ih = run_is es (step x a) in
    let s = (step x a).status in (
      ih.0 ∙ ap (λ (o : Option RawData). data_given (step x a) es o) g.0,
      ih.1
          ∙ ap (λ (o : Option RawData). zero_given (step x a) es o s.work.zero) g.0
          ∙ ap (λ (z : ℤ). zero_given (step x a) es (data_next x a a.status.machine) z) g.1,
      ih.2 ∙ ap (λ (r : Bool). reference_given (step x a) es r) g.2,
    )

-- the laws of the machine data, the count at zero and the reference
pub data_law : Data
data_law m es = (run_is es (new_axis m)).0

pub zero_law : Zero
zero_law m es = (run_is es (new_axis m)).1

pub reference_law : Reference
reference_law m es = (run_is es (new_axis m)).2

-- the laws of the coordinate
pub drift_bound : DriftBound
drift_bound m s es d e =
    let a = after (new_axis m) es in
    let k = subst (λ (o : Option RawData). KeptBy o a.drive a.status.work) (data_law m es ∙ e) (invariant m s es).holds in
    subst (λ (z : ℤ). Near d.units d.pulses (a.drive.count -ℤ z) a.status.work.coordinate) (zero_law m es) k.drift

pub limits : Limits
limits m s es d e r =
    let a = after (new_axis m) es in
    let k = subst (λ (o : Option RawData). KeptBy o a.drive a.status.work) (data_law m es ∙ e) (invariant m s es).holds in
    k.limits (reference_law m es ∙ r)
