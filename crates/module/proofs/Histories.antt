-- What an axis was asked in a run and answered gives what the laws of one axis reckon from its events.
use Rattle.std.proofs.Common.{◌≡◌, ℕ, Bool, cond, List, [], ◌∷◌, ℤ, Some, None, Ok, Err, Option, Result, refl, ap, ◌∙◌, is_ok}
use Rattle.motion.specs.declared.raw.RawData.{RawData}
use Rattle.store.specs.Programs.{Programs}
use Rattle.states.specs.declared.fault.AxisFault.{AxisFault}
use Rattle.states.specs.State.{AxisState}
use Rattle.laws.specs.Acts as one
use Rattle.laws.specs.Laws.{offset_after, tool_after, offset_given, tool_given}
use Rattle.laws.specs.Reckoned as reckoned
use Rattle.laws.specs.Started.{program_after, program_given}
use Rattle.laws.specs.Stopped as stops
use Rattle.laws.specs.Stopped.{stop_after, stop_given}
use Rattle.module.specs.declared.call.Call.{Call}
use Rattle.module.specs.State.{Machine}
use Rattle.module.specs.Machine.{Reply, done_or, at_axis, step, reply, replies}
use Rattle.module.specs.History.{Which, number, axis_at, act_on, PastAct, with_act, history, is_done, data_next, data_in, program_in, zero_next, zero_in, offset_in, tool_in, reference_next, reference_in, is_eleven, stop_in}
use Rattle.module.proofs.Axes.{left_by, step_at, reply_to, IsReply, reply_at, one_more, events}

-- what an axis with this number is asked by an event, and answers
abbrev pub past_act : ℕ → one.Event → AxisState → PastAct
past_act n e a = record { act = e.act; count = a.drive.count; reply = reply_to n e.act e.programs a }

-- and of all of them
abbrev pub history_of : ℕ → AxisState → List one.Event → List PastAct
history_of n a [] = []
history_of n a (e ∷ es) = past_act n e a ∷ history_of n (one.step e a) es

-- the history of one call is that of its event, if it has one
history_one : (o : Option one.Act) (n : ℕ) (p : Programs) (a : AxisState) (t : Reply) (es : List one.Event) → IsReply n o t p a
    → with_act o a.drive.count t (history_of n (left_by o p a) es) ≡ history_of n a (one_more o p es)
history_one None n p a t es h = refl
history_one (Some act) n p a t es h =
    ap (λ (x : Reply). record { act = act; count = a.drive.count; reply = x } ∷ history_of n (one.act_step act p a) es) h

-- the history of a run of calls is that of the events of the axis
pub history_same : (w : Which) (cs : List Call) (s : Machine)
    → history w s cs (replies s cs) ≡ history_of (number w) (axis_at w s) (events w s cs)
history_same w [] s = refl
history_same w (c ∷ cs) s =
    let n = number w in
    let o = act_on w c in
    let a = axis_at w s in
    let es = events w (step c s) cs in
    ap (λ (hs : List PastAct). with_act o a.drive.count (reply c s) hs)
    (history_same w cs (step c s) ∙ ap (λ (b : AxisState). history_of n b es) (step_at w c s))
    ∙ history_one o n s.programs a (reply c s) es (reply_at w c s)

-- done is accepted
done_same : (n : ℕ) (r : Result (Unit {0}) AxisFault) → is_done (at_axis n (done_or r)) ≡ is_ok r
done_same n (Ok u) = refl
done_same n (Err f) = refl

-- the machine data
pub data_same : (n : ℕ) (es : List one.Event) (a : AxisState) (o : Option RawData)
    → data_in (history_of n a es) o ≡ reckoned.data_given a es o
data_same n [] a o = refl
data_same n (e ∷ es) a o =
    let b = one.step e a in
    data_same n es b (data_next (past_act n e a) o)
    ∙ ap (λ (k : Bool). reckoned.data_given b es (cond k (reckoned.data_after e.act o) o))
    (done_same n (one.act_reply e.act e.programs a))

-- the program of the last accepted start
pub program_same : (n : ℕ) (es : List one.Event) (a : AxisState) (x : Option ℕ)
    → program_in (history_of n a es) x ≡ program_given a es x
program_same n [] a x = refl
program_same n (e ∷ es) a x =
    let b = one.step e a in
    program_same n es b (program_after e.act (is_done (reply_to n e.act e.programs a)) x)
    ∙ ap (λ (k : Bool). program_given b es (program_after e.act k x)) (done_same n (one.act_reply e.act e.programs a))

-- the count at zero
pub zero_same : (n : ℕ) (es : List one.Event) (a : AxisState) (o : Option RawData) (z : ℤ)
    → zero_in (history_of n a es) o z ≡ reckoned.zero_given a es o z
zero_same n [] a o z = refl
zero_same n (e ∷ es) a o z =
    let b = one.step e a in
    let next = reckoned.zero_after e.act o a.drive.count z in
    zero_same n es b (data_next (past_act n e a) o) (zero_next (past_act n e a) o z)
    ∙ ap (λ (k : Bool). reckoned.zero_given b es (cond k (reckoned.data_after e.act o) o) (cond k next z))
    (done_same n (one.act_reply e.act e.programs a))

-- Z
pub offset_same : (n : ℕ) (es : List one.Event) (a : AxisState) (z : ℤ)
    → offset_in (history_of n a es) z ≡ offset_given a es z
offset_same n [] a z = refl
offset_same n (e ∷ es) a z =
    let b = one.step e a in
    let next = λ (k : Bool). cond k (offset_after e.act z) z in
    offset_same n es b (next (is_done (reply_to n e.act e.programs a)))
    ∙ ap (λ (k : Bool). offset_given b es (next k)) (done_same n (one.act_reply e.act e.programs a))

-- T
pub tool_same : (n : ℕ) (es : List one.Event) (a : AxisState) (t : ℤ) → tool_in (history_of n a es) t ≡ tool_given a es t
tool_same n [] a t = refl
tool_same n (e ∷ es) a t =
    let b = one.step e a in
    let next = λ (k : Bool). cond k (tool_after e.act t) t in
    tool_same n es b (next (is_done (reply_to n e.act e.programs a)))
    ∙ ap (λ (k : Bool). tool_given b es (next k)) (done_same n (one.act_reply e.act e.programs a))

-- the reference after an act, by what it is answered
reference_one : (n : ℕ) (act : one.Act) (reply : Result (Unit {0}) AxisFault) (r : Bool)
    → reference_next act (at_axis n (done_or reply)) r ≡ reckoned.reference_after act reply r
reference_one n (one.entering d) (Ok u) r = refl
reference_one n (one.entering d) (Err f) r = refl
reference_one n one.deleting (Ok u) r = refl
reference_one n one.deleting (Err f) r = refl
reference_one n (one.ordering o) (Ok u) r = refl
reference_one n (one.ordering o) (Err f) r = refl
reference_one n (one.levelling begin end ready) reply r = refl
reference_one n one.ticking (Ok u) r = refl
reference_one n one.ticking (Err f) r = refl

-- the reference
pub reference_same : (n : ℕ) (es : List one.Event) (a : AxisState) (r : Bool)
    → reference_in (history_of n a es) r ≡ reckoned.reference_given a es r
reference_same n [] a r = refl
reference_same n (e ∷ es) a r =
    let b = one.step e a in
    let next = reference_one n e.act (one.act_reply e.act e.programs a) r in
    reference_same n es b (reference_next e.act (reply_to n e.act e.programs a) r)
    ∙ ap (λ (k : Bool). reckoned.reference_given b es k) next

-- a stop, by what an act is answered
stop_one : (n : ℕ) (act : one.Act) (reply : Result (Unit {0}) AxisFault) (b : Bool)
    → stop_after act (is_done (at_axis n (done_or reply))) (is_eleven (at_axis n (done_or reply))) b
    ≡ stop_after act (is_ok reply) (stops.is_eleven reply) b
stop_one n act (Ok u) b = refl
stop_one n act (Err f) b = refl

pub stop_same : (n : ℕ) (es : List one.Event) (a : AxisState) (b : Bool) → stop_in (history_of n a es) b ≡ stop_given a es b
stop_same n [] a b = refl
stop_same n (e ∷ es) a b =
    let c = one.step e a in
    let r = reply_to n e.act e.programs a in
    stop_same n es c (stop_after e.act (is_done r) (is_eleven r) b)
    ∙ ap (λ (k : Bool). stop_given c es k) (stop_one n e.act (one.act_reply e.act e.programs a) b)
