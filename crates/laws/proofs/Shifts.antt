-- Outside a program the shift of an axis is what its accepted orders gave.
use Rattle.std.proofs.Common.{◌≡◌, Bool, true, false, cond, ℤ, pos, ◌+ℤ◌, List, [], ◌∷◌, Some, None, Ok, Err, Option, Result, refl, ap, ◌∙◌, subst, is_ok, arith}
use Rattle.std.proofs.lemmas.Int.{ints}
use Rattle.motion.specs.declared.raw.RawData.{RawData}
use Rattle.store.specs.Programs.{Programs}
use Rattle.states.specs.declared.order.Order.{Order}
use Rattle.states.specs.declared.fault.Cause.{Cause}
use Rattle.states.specs.State.{Course, Work, AxisState, course_of}
use Rattle.states.specs.Shift.{program_offset}
use Rattle.states.specs.Entry.{cleared, with_data, enter_no, delete_no, unless, call_reply}
use Rattle.laws.proofs.Asked.{accepted}
use Rattle.orders.specs.declared.plan.Plan.{Plan}
use Rattle.orders.specs.Questions.{order_questions, plan_for, verdict}
use Rattle.orders.specs.Effects.{carried_out}
use Rattle.orders.specs.Orders.{answered, left}
use Rattle.states.specs.Mode.{mode_of}
use Rattle.ticks.specs.Ticks.{tick_step, tick_reply}
use Rattle.laws.specs.Acts.{Act, entering, deleting, ordering, levelling, ticking, Event, act_step, act_reply, step, new_axis, after}
use Rattle.laws.specs.Laws.{offset_at, tool_at, offset_after, tool_after, offset_given, tool_given, is_accepted, Shift}
use Rattle.laws.proofs.OrderValues.{accepted_sets}
use Rattle.laws.proofs.TickValues.{tick_leaves}

-- Z and T after an act, by whether it was accepted
abbrev Given : Bool → ℤ → ℤ → Work → Work → Type 0
Given b z t w v = (v.offset ≡ cond b z w.offset) × (v.tool ≡ cond b t w.tool)

-- what leaves Z and T, accepted or not
same_given : (b : Bool) (w v : Work) → v.offset ≡ w.offset → v.tool ≡ w.tool → Given b w.offset w.tool w v
same_given true w v e f = (e, f)
same_given false w v e f = (e, f)

-- an entry
enter_given : (o : Option Cause) (d : RawData) (a : AxisState)
    → Given (is_ok (call_reply o)) (pos 0) (pos 0) a.status.work
    (unless o a.status (with_data (Some d) (cleared a.drive.count a.status.work) a.status)).work
enter_given None d a = (refl, refl)
enter_given (Some c) d a = (refl, refl)

-- a deletion
delete_given : (o : Option Cause) (a : AxisState)
    → Given (is_ok (call_reply o)) (pos 0) (pos 0) a.status.work
    (unless o a.status (with_data None (cleared a.status.work.zero a.status.work) a.status)).work
delete_given None a = (refl, refl)
delete_given (Some c) a = (refl, refl)

-- an order
order_given : (v : Result Plan Cause) (o : Order) (p : Programs) (a : AxisState) → verdict o p a.drive a.status ≡ v
    → Given (is_ok (answered o a.status.work.phase v)) (offset_at o.mode o.double a.status.work.offset) (tool_at o.mode o.double a.status.work.tool)
    a.status.work (left o a.drive a.status v).work
order_given (Ok plan) o p a e =
    let m = a.drive in
    let s = a.status in
    let y = accepted (order_questions (mode_of o.mode) o p m s) (plan_for (mode_of o.mode) o m s) plan e in
    let h = accepted_sets (mode_of o.mode) o p m s refl y.0 in
    let z = offset_at o.mode o.double s.work.offset in
    let t = tool_at o.mode o.double s.work.tool in
    subst (λ (x : Plan). Given true z t s.work (carried_out o.mode x m s.machine s.work)) y.1 (h.0, h.1)
order_given (Err cause) o p a e = (refl, refl)

-- every act
act_given : (act : Act) (p : Programs) (a : AxisState)
    → Given (is_ok (act_reply act p a)) (offset_after act a.status.work.offset) (tool_after act a.status.work.tool)
    a.status.work (act_step act p a).status.work
act_given (entering d) p a = enter_given (enter_no d a.status) d a
act_given deleting p a = delete_given (delete_no a.status) a
act_given (ordering o) p a = order_given (verdict o p a.drive a.status) o p a refl
act_given (levelling begin end ready) p a = (refl, refl)
act_given ticking p a =
    let l = tick_leaves a.status.work.phase p a in
    same_given (is_ok (tick_reply p a)) a.status.work (tick_step p a).status.work l.0 l.1

-- Z and T after a run
run_given : (es : List Event) (a : AxisState) (z t : ℤ) → a.status.work.offset ≡ z → a.status.work.tool ≡ t
    → ((after a es).status.work.offset ≡ offset_given a es z) × ((after a es).status.work.tool ≡ tool_given a es t)
run_given [] a z t e f = (e, f)
run_given (x ∷ es) a z t e f =
    let b = is_accepted x a in
    let g = act_given x.act x.programs a in
    run_given es (step x a) (cond b (offset_after x.act z) z) (cond b (tool_after x.act t) t)
    (g.0 ∙ ap (λ (u : ℤ). cond b (offset_after x.act u) u) e)
    (g.1 ∙ ap (λ (u : ℤ). cond b (tool_after x.act u) u) f)

-- outside a program no offset of a program is added
none_chosen : (o : Option RawData) (c : Option Course) → c ≡ None → program_offset o c ≡ pos 0
none_chosen None c e = refl
none_chosen (Some d) None e = refl
none_chosen (Some d) (Some c) e = cc

-- equal parts have equal sums
sum_of : (z t x u v : ℤ) → z ≡ u → t ≡ v → x ≡ pos 0 → (z +ℤ t) +ℤ x ≡ u +ℤ v
sum_of z t x u v e f g = omega (arith, ints)

-- the law of the shift
pub shift : Shift
shift m es h =
    let a = after (new_axis m) es in
    let w = a.status.work in
    let c = course_of w.phase in
    let r = run_given es (new_axis m) (pos 0) (pos 0) refl refl in
    sum_of w.offset w.tool (program_offset a.status.machine c) (offset_given (new_axis m) es (pos 0))
    (tool_given (new_axis m) es (pos 0)) r.0 r.1 (none_chosen a.status.machine c h)
