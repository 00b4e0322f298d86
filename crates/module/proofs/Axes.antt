-- What a call makes of one axis of the machine, and what it is answered: the act of that axis, if it is one.
use Rattle.std.proofs.Common.{◌≡◌, ℕ, Bool, true, false, cond, eqb, List, [], ◌∷◌, Some, None, Option, refl, sym, ap, ◌∙◌, subst, is_some}
use Rattle.std.proofs.lemmas.Bool.{eqb-true}
use Rattle.store.specs.Programs.{Programs, found}
use Rattle.store.specs.Entry.{deleted}
use Rattle.states.specs.State.{AxisState}
use Rattle.laws.specs.Acts as one
use Rattle.module.specs.declared.call.Act.{Act}
use Rattle.module.specs.declared.call.Act.TheVariants.{Enter, Delete, Order, Level, Tick, Observe}
use Rattle.module.specs.declared.call.Call.{Call}
use Rattle.module.specs.declared.call.Call.TheVariants.{OnAxis, Open, Add, Close, Abandon, DeleteProgram}
use Rattle.module.specs.State.{Machine}
use Rattle.module.specs.Machine.{Reply, answered, done_or, at_axis, reply, if_named, with_programs, in_use, step, after}
use Rattle.module.specs.History.{Which, first, second, third, number, axis_at, act_of, act_on}

-- THE STEP

-- what an act leaves, if there is one
abbrev pub left_by : Option one.Act → Programs → AxisState → AxisState
left_by None p a = a
left_by (Some act) p a = one.act_step act p a

-- the axis that is named does the act, the others nothing
named_acts : (b : Bool) (act : Act) (p : Programs) (a : AxisState)
    → if_named b act p a ≡ left_by (cond b (act_of act) None) p a
named_acts true (Enter d) p a = refl
named_acts true Delete p a = refl
named_acts true (Order o) p a = refl
named_acts true (Level l) p a = refl
named_acts true Tick p a = refl
named_acts true Observe p a = refl
named_acts false act p a = refl

-- other programs change no axis
pub store_alone : (w : Which) (p : Programs) (s : Machine) → axis_at w (with_programs p s) ≡ axis_at w s
store_alone first p s = refl
store_alone second p s = refl
store_alone third p s = refl

-- nor does a deletion, refused or not
deletion_alone : (b c : Bool) (w : Which) (p : Programs) (s : Machine)
    → axis_at w (cond b (cond c s (with_programs p s)) s) ≡ axis_at w s
deletion_alone true true w p s = refl
deletion_alone true false w p s = store_alone w p s
deletion_alone false c w p s = refl

-- a call leaves what its act on the axis leaves
pub step_at : (w : Which) (c : Call) (s : Machine) → axis_at w (step c s) ≡ left_by (act_on w c) s.programs (axis_at w s)
step_at first (OnAxis axis act) s = named_acts (eqb axis 1) act s.programs s.first
step_at second (OnAxis axis act) s = named_acts (eqb axis 2) act s.programs s.second
step_at third (OnAxis axis act) s = named_acts (eqb axis 3) act s.programs s.third
step_at w (Open n m) s = store_alone w _ s
step_at w (Add n line) s = store_alone w _ s
step_at w (Close n) s = store_alone w _ s
step_at w (Abandon n) s = store_alone w _ s
step_at w (DeleteProgram n) s =
    deletion_alone (is_some (found n s.programs.stored)) (in_use n s) w (deleted n s.programs) s

-- THE REPLY

-- an act is answered what the axis answers
abbrev pub reply_to : ℕ → one.Act → Programs → AxisState → Reply
reply_to n act p a = at_axis n (done_or (one.act_reply act p a))

-- t is what that act is answered, if there is one
abbrev pub IsReply : ℕ → Option one.Act → Reply → Programs → AxisState → Type 0
IsReply n None t p a = Unit {0}
IsReply n (Some act) t p a = t ≡ reply_to n act p a

-- the act that is asked
asked_reply : (act : Act) (n : ℕ) (p : Programs) (a : AxisState) → IsReply n (act_of act) (at_axis n (answered act p a)) p a
asked_reply (Enter d) n p a = refl
asked_reply Delete n p a = refl
asked_reply (Order o) n p a = refl
asked_reply (Level l) n p a = refl
asked_reply Tick n p a = refl
asked_reply Observe n p a = tt

-- the axis that is named replies
pub reply_of : (w : Which) (axis : ℕ) (act : Act) (s : Machine) → axis ≡ number w
    → reply (OnAxis axis act) s ≡ at_axis (number w) (answered act s.programs (axis_at w s))
reply_of first axis act s e = ap (λ (n : ℕ). reply (OnAxis n act) s) e
reply_of second axis act s e = ap (λ (n : ℕ). reply (OnAxis n act) s) e
reply_of third axis act s e = ap (λ (n : ℕ). reply (OnAxis n act) s) e

-- whether it is named or not
named_reply : (b : Bool) (w : Which) (axis : ℕ) (act : Act) (s : Machine) → eqb axis (number w) ≡ b
    → IsReply (number w) (cond b (act_of act) None) (reply (OnAxis axis act) s) s.programs (axis_at w s)
named_reply true w axis act s e =
    subst (λ (t : Reply). IsReply (number w) (act_of act) t s.programs (axis_at w s))
    (sym (reply_of w axis act s (eqb-true axis (number w) e))) (asked_reply act (number w) s.programs (axis_at w s))
named_reply false w axis act s e = tt

-- a call is answered what its act on the axis answers
pub reply_at : (w : Which) (c : Call) (s : Machine) → IsReply (number w) (act_on w c) (reply c s) s.programs (axis_at w s)
reply_at w (OnAxis axis act) s = named_reply (eqb axis (number w)) w axis act s refl
reply_at w (Open n m) s = tt
reply_at w (Add n line) s = tt
reply_at w (Close n) s = tt
reply_at w (Abandon n) s = tt
reply_at w (DeleteProgram n) s = tt

-- THE EVENTS OF AN AXIS

-- an act with the programs that are in store when it comes
abbrev pub event : one.Act → Programs → one.Event
event act p = record { act = act; programs = p }

-- with the events that follow it
abbrev pub one_more : Option one.Act → Programs → List one.Event → List one.Event
one_more None p es = es
one_more (Some act) p es = event act p ∷ es

-- the events of an axis in a run of calls
abbrev pub events : Which → Machine → List Call → List one.Event
events w s [] = []
events w s (c ∷ cs) = one_more (act_on w c) s.programs (events w (step c s) cs)

-- one call leaves the axis as its event does, if it has one
after_one : (o : Option one.Act) (p : Programs) (a : AxisState) (es : List one.Event)
    → one.after a (one_more o p es) ≡ one.after (left_by o p a) es
after_one None p a es = refl
after_one (Some act) p a es = refl

-- a run leaves the axis as its own events do
pub after_at : (w : Which) (cs : List Call) (s : Machine) → axis_at w (after s cs) ≡ one.after (axis_at w s) (events w s cs)
after_at w [] s = refl
after_at w (c ∷ cs) s =
    let es = events w (step c s) cs in
    after_at w cs (step c s) ∙ ap (λ (a : AxisState). one.after a es) (step_at w c s)
    ∙ sym (after_one (act_on w c) s.programs (axis_at w s) es)
