-- A program that runs or is held is the one of the last accepted start.
use Rattle.std.proofs.Common.{◌≡◌, ℕ, Bool, true, false, cond, ◌||◌, eqb, ℤ, List, [], ◌∷◌, Some, None, Ok, Err, Option, Result, refl, sym, ap, ◌∙◌, subst, is_ok}
use Rattle.std.proofs.lemmas.Bool.{false≢true}
use Rattle.drives.specs.Meaning.{Meaning}
use Rattle.reader.specs.declared.block.Block.{Block}
use Rattle.motion.specs.declared.raw.RawData.{RawData}
use Rattle.store.specs.Programs.{Programs}
use Rattle.states.specs.declared.aim.Aim.{Aim}
use Rattle.states.specs.declared.order.Order.{Order}
use Rattle.states.specs.declared.fault.Cause.{Cause}
use Rattle.states.specs.declared.fault.AxisFault.{AxisFault}
use Rattle.states.specs.Faults.{cause_number}
use Rattle.states.specs.Entry.{cleared, with_data, enter_no, delete_no, unless, call_reply}
use Rattle.states.specs.State.{Course, Travel, Phase, standing, moving, braking, held, between, Work, Status, AxisState, course_of, stopped}
use Rattle.orders.specs.declared.plan.Plan.{Plan}
use Rattle.orders.specs.Modes.{stops, takes_over}
use Rattle.orders.specs.Questions.{verdict}
use Rattle.orders.specs.Orders.{names_program, order_fault, answered, left}
use Rattle.ticks.specs.Blocks.{with_words, block_verdict, begun_with, begun_reply, block_run, block_reply, next_run, next_reply, next_block}
use Rattle.ticks.specs.Ticks.{trouble_of, unless_trouble, trouble_reply, run_step, slow_step, tick_at, reply_at}
use Rattle.states.specs.Moves.{ticked_in, braked_in}
use Rattle.laws.specs.Acts.{Act, entering, deleting, ordering, levelling, ticking, Event, act_step, act_reply, step, new_axis, after}
use Rattle.laws.specs.Laws.{is_accepted}
use Rattle.laws.specs.Started.{program_ordered, program_after, program_given, Started}
use Rattle.laws.proofs.Accepting.{accepted_by}
use Rattle.laws.proofs.InUse.{Such, tick_using, in_phase, in_course}
use Rattle.laws.proofs.Refusing.{stopped_course}

-- a program that runs or is held is n
abbrev Is : Option ℕ → Course → Type 0
Is n c = n ≡ Some c.program

abbrev Runs : Option ℕ → Phase → Type 0
Runs n ph = Such (Is n) (course_of ph)

-- a phase with the same program
same_runs : (n : Option ℕ) (p q : Phase) → course_of q ≡ course_of p → Runs n p → Runs n q
same_runs n p q e u = subst (λ (o : Option Course). Such (Is n) o) (sym e) u

-- none at all
none_runs : (n : Option ℕ) (o : Option Course) → o ≡ None → Such (Is n) o
none_runs n o e = subst (λ (x : Option Course). Such (Is n) x) (sym e) tt

-- AN ORDER

-- that names no program leaves the one that there is if it is a stop, a take-over or 17
left_by : (o : Order) (n : Option ℕ) → names_program o ≡ false → (stops o.command || takes_over o.command || eqb o.mode 17) ≡ true
    → program_ordered o n ≡ n
left_by o n i j = ap (λ (b : Bool). cond b (Some o.byte) (cond (stops o.command || takes_over o.command || eqb o.mode 17) n None)) i
    ∙ ap (λ (b : Bool). cond b n None) j

-- of three tests one is true
first_true : (a b c : Bool) → a ≡ true → (a || b || c) ≡ true
first_true true b c e = refl
first_true false b c e = absurd (false≢true e)

second_true : (a b c : Bool) → b ≡ true → (a || b || c) ≡ true
second_true true b c e = refl
second_true false true c e = refl
second_true false false c e = absurd (false≢true e)

third_true : (a b c : Bool) → c ≡ true → (a || b || c) ≡ true
third_true true b c e = refl
third_true false true c e = refl
third_true false false c e = e

-- a refused order stops or not
refused_runs : (b : Bool) (n : Option ℕ) (p : Phase) → Runs n p → Runs n (cond b (stopped p) p)
refused_runs true n p u = same_runs n p (stopped p) (stopped_course p) u
refused_runs false n p u = u

-- an order
order_runs : (v : Result Plan Cause) (o : Order) (p : Programs) (m : Meaning) (s : Status) (n : Option ℕ) → verdict o p m s ≡ v
    → Runs n s.work.phase → Runs (program_after (ordering o) (is_ok (answered o s.work.phase v)) n) (left o m s v).work.phase
order_runs (Ok plan) o p m s n e u =
    let ph = s.work.phase in
    let x = stops o.command in
    let y = takes_over o.command in
    let z = eqb o.mode 17 in
    let stays : names_program o ≡ false → (x || y || z) ≡ true → (q : Phase) → course_of q ≡ course_of ph → Runs (program_ordered o n) q =
    λ i j q k. subst (λ (l : Option ℕ). Runs l q) (sym (left_by o n i j)) (same_runs n ph q k u) in
    accepted_by o p m s (λ v. Runs (program_ordered o n) v.phase)
    (λ i f. stays i (first_true x y z f) (stopped ph) (stopped_course ph))
    (λ i f. stays i (third_true x y z (ap (λ (l : ℕ). eqb l 17) f)) ph refl)
    (λ v i j k. none_runs (program_ordered o n) (course_of v.phase) (ap course_of k))
    (λ a i. tt)
    (λ i d r q. ap (λ (b : Bool). cond b (Some o.byte) (cond (x || y || z) n None)) i)
    (λ i t c k. stays i (second_true x y z t) (between c) (sym (ap course_of k)))
    (λ i t d j c target k. stays i (second_true x y z t) (held c (Some target)) (sym (ap course_of k)))
    plan e
order_runs (Err cause) o p m s n e u =
    refused_runs (eqb (cause_number (order_fault o s.work.phase cause).cause) 11) n s.work.phase u

-- A TICK

-- one that is answered by a fault leaves no program
abbrev Over : Result (Unit {0}) AxisFault → Phase → Type 0
Over r ph = is_ok r ≡ false → course_of ph ≡ None

trouble_over : (o : Option Cause) (t : Travel) (a next : AxisState)
    → Over (trouble_reply o t) (unless_trouble o t a next).status.work.phase
trouble_over None t a next e = absurd (false≢true (sym e))
trouble_over (Some cause) t a next e = refl

begun_over : (v : Result Aim Cause) (o : Option RawData) (c : Course) (w : Work) → Over (begun_reply v c) (begun_with v o c w).phase
begun_over (Ok aim) o c w e = absurd (false≢true (sym e))
begun_over (Err cause) o c w e = refl

block_over : (x : Option ℤ) (c : Course) (m : Meaning) (o : Option RawData) (w : Work)
    → Over (block_reply x c m o w) (block_run x c m o w).phase
block_over None c m o w e = absurd (false≢true (sym e))
block_over (Some x) c m o w e = begun_over (block_verdict o c x m w) o c w e

next_over : (b : Option Block) (c : Course) (m : Meaning) (o : Option RawData) (w : Work)
    → Over (next_reply b c m o w) (next_run b c m o w).phase
next_over None c m o w e = absurd (false≢true (sym e))
next_over (Some b) c m o w e = block_over b.target (with_words b c) m o w e

tick_over : (ph : Phase) (p : Programs) (a : AxisState) → Over (reply_at ph p a) (tick_at ph p a).status.work.phase
tick_over standing p a e = absurd (false≢true (sym e))
tick_over (moving t) p a e = trouble_over (trouble_of t a) t a (run_step (ticked_in a.status.machine t.going) t a) e
tick_over (braking t) p a e = trouble_over (trouble_of t a) t a (slow_step (braked_in a.status.machine t.going) t a) e
tick_over (held c u) p a e = absurd (false≢true (sym e))
tick_over (between c) p a e = next_over (next_block p c) c a.drive a.status.machine a.status.work e

-- with a fault or without
ticked_runs : (b : Bool) (n : Option ℕ) (ph : Phase) → (b ≡ false → course_of ph ≡ None) → Runs n ph → Runs (cond b n None) ph
ticked_runs true n ph e u = u
ticked_runs false n ph e u = none_runs None (course_of ph) (e refl)

tick_runs : (p : Programs) (a : AxisState) (n : Option ℕ) → Runs n a.status.work.phase
    → Runs (program_after ticking (is_ok (act_reply ticking p a)) n) (act_step ticking p a).status.work.phase
tick_runs p a n u =
    let ph = a.status.work.phase in
    let next = (tick_at ph p a).status.work.phase in
    let v = in_phase (Is n) ph u in
    ticked_runs (is_ok (reply_at ph p a)) n next (tick_over ph p a)
    (in_course (Is n) next (tick_using (λ r c. Is n c) (λ r c. Is n c) (λ r c i. i) (λ r c i e. i) ph p a (λ c b e i. i) v v))

-- AN ACT

-- machine data entered or deleted
unless_runs : (o : Option Cause) (s : Option RawData) (zero : ℤ) (t : Status) (n : Option ℕ) → Runs n t.work.phase
    → Runs (cond (is_ok (call_reply o)) None n) (unless o t (with_data s (cleared zero t.work) t)).work.phase
unless_runs None s zero t n u = tt
unless_runs (Some cause) s zero t n u = u

act_runs : (act : Act) (p : Programs) (a : AxisState) (n : Option ℕ) → Runs n a.status.work.phase
    → Runs (program_after act (is_ok (act_reply act p a)) n) (act_step act p a).status.work.phase
act_runs (entering d) p a n u = unless_runs (enter_no d a.status) (Some d) a.drive.count a.status n u
act_runs deleting p a n u = unless_runs (delete_no a.status) None a.status.work.zero a.status n u
act_runs (ordering o) p a n u = order_runs (verdict o p a.drive a.status) o p a.drive a.status n refl u
act_runs (levelling begin end ready) p a n u = u
act_runs ticking p a n u = tick_runs p a n u

-- a run
run_runs : (es : List Event) (a : AxisState) (n : Option ℕ) → Runs n a.status.work.phase
    → Runs (program_given a es n) (after a es).status.work.phase
run_runs [] a n u = u
run_runs (e ∷ es) a n u = run_runs es (step e a) (program_after e.act (is_accepted e a) n) (act_runs e.act e.programs a n u)

-- the law
its_number : (n : Option ℕ) (o : Option Course) (c : Course) → Such (Is n) o → o ≡ Some c → n ≡ Some c.program
its_number n o c u e = subst (λ (x : Option Course). Such (Is n) x) e u

pub started : Started
started m es c e =
    let a = after (new_axis m) es in
    its_number (program_given (new_axis m) es None) (course_of a.status.work.phase) c (run_runs es (new_axis m) None tt) e
