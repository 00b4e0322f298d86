-- A program that runs or is held stays stored, and then no act is answered that the held program is not stored.
use Rattle.std.proofs.Common.{◌≡◌, ◌≢◌, ℕ, Bool, true, false, cond, [], ◌∷◌, is_some, Some, None, Ok, Err, Option, Result, ℤ, refl, sym, ap, ◌∙◌, arith}
use Rattle.std.proofs.lemmas.Bool.{false≢true}
use Rattle.drives.specs.Meaning.{Meaning}
use Rattle.reader.specs.declared.block.Block.{Block}
use Rattle.motion.specs.declared.raw.RawData.{RawData}
use Rattle.motion.specs.declared.fault.DataFault.{DataFault}
use Rattle.motion.specs.Questions.{refusal}
use Rattle.store.specs.Programs.{Program, Programs, found, measure_in}
use Rattle.states.specs.declared.aim.Aim.{Aim}
use Rattle.states.specs.declared.order.Order.{Order}
use Rattle.states.specs.declared.fault.Cause.{Cause}
use Rattle.states.specs.declared.fault.Cause.TheVariants.{DataWhileBusy, NotStanding, HeldNotStored}
use Rattle.states.specs.declared.fault.AxisFault.{AxisFault}
use Rattle.states.specs.declared.mode.Mode.{Mode}
use Rattle.states.specs.declared.mode.Mode.TheVariants.{Jog, AxisOff, Reference, Position, Relative, Program as Running, OffsetTo, OffsetBy, ClearOffset, ToolTo, ClearTool, ClearFault}
use Rattle.states.specs.Mode.{mode_of}
use Rattle.states.specs.Asking.{Questions, ◌asks◌, move_questions}
use Rattle.states.specs.Entry.{data_cause, data_refusal, some_data, enter_no, delete_no, call_reply}
use Rattle.states.specs.State.{Course, Travel, Phase, standing, moving, braking, held, between, Work, Status, AxisState, stands, course_of}
use Rattle.orders.specs.declared.plan.Plan.{Plan}
use Rattle.orders.specs.Modes.{stops, takes_over}
use Rattle.orders.specs.Questions.{start_questions, resume_questions, mode_questions, standing_questions, order_questions, plan_for, verdict}
use Rattle.orders.specs.Orders.{answered}
use Rattle.ticks.specs.Blocks.{with_words, block_verdict, begun_reply, block_reply, next_reply, next_block}
use Rattle.ticks.specs.Ticks.{trouble_of, trouble_reply, reply_at}
use Rattle.laws.specs.Acts.{Act, entering, deleting, ordering, levelling, ticking, act_step, act_reply}
use Rattle.laws.proofs.Asked.{Yes}
use Rattle.laws.proofs.InUse.{Such, act_such}

-- a program is stored
abbrev pub InStore : Programs → Course → Type 0
InStore p c = is_some (found c.program p.stored) ≡ true

-- a stored program has a measure, and what has one is stored
pub has_one : (o : Option Program) → is_some (measure_in o) ≡ is_some o
has_one None = refl
has_one (Some p) = refl

-- a program that begins is stored
pub begins_stored : (o : Order) (p : Programs) (d : RawData) → Yes (start_questions d o p) → is_some (found o.byte p.stored) ≡ true
begins_stored o p d y = sym (has_one (found o.byte p.stored)) ∙ y.0

-- with or without a reference
abbrev AnyStored : Programs → Bool → Course → Type 0
AnyStored p r c = InStore p c

-- an act keeps the program that is in use stored
pub act_stored : (act : Act) (p : Programs) (a : AxisState) → Such (InStore p) (course_of a.status.work.phase)
    → Such (InStore p) (course_of (act_step act p a).status.work.phase)
act_stored act p a u = act_such (AnyStored p) act p a (λ o d r y. begins_stored o p d y) (λ c b e i. i) u

-- THE REPLY

-- no question with this fault is answered no
abbrev Never : Cause → Questions → Type 0
Never c [] = Unit {0}
Never c (q ∷ qs) = (q.1 ≡ c → q.0 ≡ true) × Never c qs

never_by : {A : Type 0} (b : Bool) (k c : Cause) (rest : Result A Cause) → (k ≡ c → b ≡ true) → rest ≢ Err c
    → cond b rest (Err k) ≢ Err c
never_by true k c rest h n e = n e
never_by false k c rest h n e = absurd (false≢true (h (cc)))

never : {A : Type 0} (qs : Questions) (c : Cause) (a : A) → Never c qs → qs asks Ok a ≢ Err c
never [] c a h e = cc
never (q ∷ qs) c a h e = never_by q.0 q.1 c (qs asks Ok a) h.0 (never qs c a h.1) e

-- the questions of an order
module _ (o : Order) (p : Programs) (m : Meaning) (w : Work) (u : Such (InStore p) (course_of w.phase)) where
  resume_never : (ph : Phase) → Such (InStore p) (course_of ph) → Never HeldNotStored (resume_questions p m ph)
  resume_never standing v = (λ e. cc, tt)
  resume_never (moving t) v = (λ e. cc, tt)
  resume_never (braking t) v = (λ e. cc, tt)
  resume_never (held c None) v = (λ e. has_one (found c.program p.stored) ∙ v, tt)
  resume_never (held c (Some x)) v = (λ e. has_one (found c.program p.stored) ∙ v, (λ e. cc, tt))
  resume_never (between c) v = (λ e. cc, tt)

  program_never : (b : Bool) (d : RawData) → Never HeldNotStored (cond b (resume_questions p m w.phase) (start_questions d o p))
  program_never true d = resume_never w.phase u
  program_never false d = (λ e. cc, (λ e. cc, tt))

  move_never : (d : RawData) (rate : ℕ) (target : ℤ) → Never HeldNotStored (move_questions d rate target m w.zero w.referenced)
  move_never d rate target = (λ e. cc, (λ e. cc, (λ e. cc, (λ e. cc, tt))))

  mode_never : (d : RawData) (mode : Mode) → Never HeldNotStored (mode_questions mode o p m d w)
  mode_never d (Jog j) = move_never d _ _
  mode_never d AxisOff = tt
  mode_never d Reference = tt
  mode_never d Position = move_never d _ _
  mode_never d Relative = move_never d _ _
  mode_never d (Running k) = program_never (takes_over o.command) d
  mode_never d OffsetTo = (λ e. cc, tt)
  mode_never d OffsetBy = (λ e. cc, tt)
  mode_never d ClearOffset = (λ e. cc, tt)
  mode_never d ToolTo = (λ e. cc, tt)
  mode_never d ClearTool = tt
  mode_never d ClearFault = tt

  standing_never : (s : Option RawData) (mode : Mode) → Never HeldNotStored (standing_questions mode o p m s w)
  standing_never None mode = (λ e. cc, tt)
  standing_never (Some d) mode = (λ e. cc, (λ e. cc, mode_never d mode))

  command_never : (b : Bool) (s : Option RawData) (mode : Mode)
      → Never HeldNotStored (cond b [] ((stands w.phase, NotStanding) ∷ standing_questions mode o p m s w))
  command_never true s mode = tt
  command_never false s mode = (λ e. cc, standing_never s mode)

order_never : (mode : Option Mode) (o : Order) (p : Programs) (m : Meaning) (s : Status)
    → Such (InStore p) (course_of s.work.phase) → Never HeldNotStored (order_questions mode o p m s)
order_never None o p m s u = (λ e. cc, tt)
order_never (Some mode) o p m s u = (λ e. cc, (λ e. cc, command_never o p m s.work u (stops o.command) s.machine mode))

-- a reply that is not that the held program is not stored
abbrev pub Other : Result (Unit {0}) AxisFault → Type 0
Other (Ok u) = Unit {0}
Other (Err f) = f.cause ≢ HeldNotStored

ordered_other : (v : Result Plan Cause) (o : Order) (ph : Phase) → v ≢ Err HeldNotStored → Other (answered o ph v)
ordered_other (Ok plan) o ph h = tt
ordered_other (Err cause) o ph h = λ e. h (grind arith)

-- entering and deleting machine data
call_other : (o : Option Cause) → o ≢ Some HeldNotStored → Other (call_reply o)
call_other None h = tt
call_other (Some cause) h = λ e. h (ap Some e)

data_other : (o : Option DataFault) → data_cause o ≢ Some HeldNotStored
data_other None e = cc
data_other (Some f) e = cc

-- a block
begun_other : (v : Result Aim Cause) (c : Course) → v ≢ Err HeldNotStored → Other (begun_reply v c)
begun_other (Ok aim) c h = tt
begun_other (Err cause) c h = λ e. h (ap Err e)

block_never : (o : Option RawData) (c : Course) (x : ℤ) (m : Meaning) (w : Work) → block_verdict o c x m w ≢ Err HeldNotStored
block_never None c x m w e = cc
block_never (Some d) c x m w e = never (move_questions d _ _ m w.zero w.referenced) HeldNotStored _ (λ e. cc, (λ e. cc, (λ e. cc, (λ e. cc, tt)))) e

block_other : (x : Option ℤ) (c : Course) (m : Meaning) (o : Option RawData) (w : Work) → Other (block_reply x c m o w)
block_other None c m o w = tt
block_other (Some x) c m o w = begun_other (block_verdict o c x m w) c (block_never o c x m w)

next_other : (b : Option Block) (c : Course) (m : Meaning) (o : Option RawData) (w : Work) → Other (next_reply b c m o w)
next_other None c m o w = tt
next_other (Some b) c m o w = block_other b.target (with_words b c) m o w

-- a move that is stopped at once
trouble_other : (o : Option Cause) (t : Travel) → o ≢ Some HeldNotStored → Other (trouble_reply o t)
trouble_other None t h = tt
trouble_other (Some cause) t h = λ e. h (grind arith)

trouble_never : (t : Travel) (a : AxisState) → trouble_of t a ≢ Some HeldNotStored
trouble_never t a e = grind arith

-- a tick
tick_other : (ph : Phase) (p : Programs) (a : AxisState) → Other (reply_at ph p a)
tick_other standing p a = tt
tick_other (moving t) p a = trouble_other (trouble_of t a) t (trouble_never t a)
tick_other (braking t) p a = trouble_other (trouble_of t a) t (trouble_never t a)
tick_other (held c u) p a = tt
tick_other (between c) p a = next_other (next_block p c) c a.drive a.status.machine a.status.work

data_never : (d : RawData) → data_refusal d ≢ Some HeldNotStored
unfolding data_refusal
data_never d e = data_other (refusal d) e

enter_never : (b : Bool) (d : RawData) → cond b (data_refusal d) (Some DataWhileBusy) ≢ Some HeldNotStored
enter_never true d e = data_never d e
enter_never false d e = cc

delete_never : (b : Bool) (o : Option RawData) → cond b (some_data o) (Some DataWhileBusy) ≢ Some HeldNotStored
delete_never true None e = cc
delete_never true (Some d) e = cc
delete_never false o e = cc

pub act_other : (act : Act) (p : Programs) (a : AxisState) → Such (InStore p) (course_of a.status.work.phase)
    → Other (act_reply act p a)
act_other (entering d) p a u = call_other (enter_no d a.status) (enter_never (stands a.status.work.phase) d)
act_other deleting p a u = call_other (delete_no a.status) (delete_never (stands a.status.work.phase) a.status.machine)
act_other (ordering o) p a u =
    let s = a.status in
    let mode = mode_of o.mode in
    let qs = order_questions mode o p a.drive s in
    ordered_other (verdict o p a.drive s) o s.work.phase
    (never qs HeldNotStored (plan_for mode o a.drive s) (order_never mode o p a.drive s u))
act_other (levelling begin end ready) p a u = tt
act_other ticking p a u = tick_other a.status.work.phase p a
