-- A refused call does what its number says, and nothing else.
use Rattle.std.proofs.Common.{◌≡◌, ℕ, ℤ, Bool, true, false, cond, eqb, List, [], ◌∷◌, ◌++◌, is_some, Some, None, Ok, Err, Option, Result, refl, sym, ap, ◌∙◌, subst, arith}
use Rattle.std.proofs.lemmas.Bool.{eqb-true, false≢true}
use Rattle.units.specs.declared.Measure.{Measure}
use Rattle.drives.specs.Meaning.{Meaning}
use Rattle.motion.specs.declared.raw.RawData.{RawData}
use Rattle.reader.specs.declared.block.Block.{Block}
use Rattle.reader.specs.declared.fault.LineFault.{LineFault}
use Rattle.store.specs.Programs.{Program, Programs, found, read, joined_to, line_reply}
use Rattle.store.specs.declared.fault.StoreFault.{StoreFault}
use Rattle.store.specs.declared.fault.StoreFault.TheVariants.{NotStored, NotOpen, NotClosable}
use Rattle.store.specs.Entry as entry
use Rattle.store.specs.Closing.{closable}
use Rattle.states.specs.declared.aim.Aim.{Aim}
use Rattle.states.specs.declared.fault.Cause.{Cause}
use Rattle.states.specs.declared.fault.AxisFault.{AxisFault}
use Rattle.states.specs.Faults.{cause_number}
use Rattle.states.specs.declared.order.Order.{Order as OrderGiven}
use Rattle.states.specs.Entry.{enter_no, delete_no, call_reply, unless}
use Rattle.states.specs.Asking.{Questions, ◌asks◌, move_questions}
use Rattle.states.specs.Courses.{course_rate}
use Rattle.states.specs.Effects.{fault_at, fault_in}
use Rattle.states.specs.State.{Course, Travel, Phase, standing, moving, braking, held, between, Work, Status, AxisState}
use Rattle.orders.specs.declared.plan.Plan.{Plan}
use Rattle.orders.specs.Questions.{verdict}
use Rattle.orders.specs.Orders.{order_fault, answered as order_answered, left}
use Rattle.ticks.specs.Blocks.{with_words, block_target, block_verdict, begun_with, begun_reply, block_run, block_reply, next_run, next_reply, next_block}
use Rattle.ticks.specs.Ticks.{with_status, trouble_of, trouble_reply, unless_trouble, tick_at, reply_at as tick_reply_at}
use Rattle.module.specs.declared.call.Act.{Act}
use Rattle.module.specs.declared.call.Act.TheVariants.{Enter, Delete, Order, Level, Tick, Observe}
use Rattle.module.specs.declared.call.Call.TheVariants.{OnAxis, Open, Add, Close, Abandon, DeleteProgram}
use Rattle.module.specs.declared.fault.Fault.{Fault}
use Rattle.module.specs.declared.fault.Fault.TheVariants.{OfAxis, OfStore, InUse}
use Rattle.module.specs.Faults.{number_of}
use Rattle.module.specs.State.{Machine}
use Rattle.module.specs.History.{Which, first, second, third, number, axis_at}
use Rattle.module.specs.Machine.{done, refused, acted, answered, done_or, at_axis, at_store, in_use, if_named, with_programs, reply, step}
use Rattle.laws.specs.Blocks.{move_of}
use Rattle.module.specs.Refusals.{with_values, OrderRefused, stops_at_once, of_tick, TickRefused, RefusedAt, without_entry, Refusals}
use Rattle.module.proofs.Axes.{reply_of}

-- refusals are the same fault
same_fault : (f g : Fault) → refused f ≡ refused g → f ≡ g
same_fault f g e = cc

-- what holds of the fault of a refusal holds of that fault
of_refusal : (P : Fault → Type 0) (f g : Fault) → refused f ≡ refused g → P f → P g
of_refusal P f g e h = subst P (same_fault f g e) h

-- the refusal is the fault of the axis that is named
told : (n : ℕ) (g : AxisFault) (f : Fault) → refused (OfAxis n g) ≡ refused f → f ≡ OfAxis n g
told n g f e = sym (same_fault (OfAxis n g) f e)

-- MACHINE DATA
unless_refused : (o : Option Cause) (n : ℕ) (f : Fault) (a : AxisState) (next : Status)
    → at_axis n (done_or (call_reply o)) ≡ refused f
    → (g : AxisFault) × (f ≡ OfAxis n g) × (with_status (unless o a.status next) a ≡ a)
unless_refused None n f a next e = absurd (cc)
unless_refused (Some cause) n f a next e = (fault_at 0 0 cause, told n (fault_at 0 0 cause) f e, refl)

-- AN ORDER
order_refused : (v : Result Plan Cause) (o : OrderGiven) (n : ℕ) (f : Fault) (a : AxisState)
    → at_axis n (done_or (order_answered o a.status.work.phase v)) ≡ refused f
    → (g : AxisFault) × (f ≡ OfAxis n g) × OrderRefused g a (with_status (left o a.drive a.status v) a)
order_refused (Ok plan) o n f a e = absurd (cc)
order_refused (Err cause) o n f a e =
    let g = order_fault o a.status.work.phase cause in
    (g, told n g f e, refl)

-- A TICK

-- what a refused tick of an axis is told and leaves
abbrev RefusedTick : ℕ → Fault → AxisState → AxisState → Type 0
RefusedTick n f a b = (g : AxisFault) × (f ≡ OfAxis n g) × TickRefused g a b

-- a fault has the number of its cause
its_number : (o : Option Course) (cause : Cause) → cause_number (fault_in o cause).cause ≡ cause_number cause
its_number None cause = refl
its_number (Some c) cause = refl

-- trouble has the number 24 or 23
trouble_number : (t : Travel) (a : AxisState) (cause : Cause) → trouble_of t a ≡ Some cause
    → (of_tick (cause_number cause) ≡ true) × (stops_at_once (cause_number (fault_in t.course cause).cause) ≡ true)
trouble_number t a cause e = (grind arith, grind arith)

-- a move that is stopped at once
stopped_refused : (o : Option Cause) (t : Travel) (n : ℕ) (f : Fault) (a next : AxisState) → move_of a.status.work.phase ≡ Some t
    → ((cause : Cause) → o ≡ Some cause
    → (of_tick (cause_number cause) ≡ true) × (stops_at_once (cause_number (fault_in t.course cause).cause) ≡ true))
    → at_axis n (done_or (trouble_reply o t)) ≡ refused f → RefusedTick n f a (unless_trouble o t a next)
stopped_refused None t n f a next m h e = absurd (cc)
stopped_refused (Some cause) t n f a next m h e =
    let g = fault_in t.course cause in
    let k = h cause refl in (
      g,
      told n g f e,
      record {
        number = λ z. ap of_tick (its_number t.course cause) ∙ k.0;
        at_once = λ z. (t, m, refl);
        not_taken = λ z. absurd (false≢true (sym z ∙ k.1));
      },
    )

-- what holds of every cause in a list of questions holds of the one that answers
abbrev EachCause : (Cause → Type 0) → Questions → Type 0
EachCause P [] = Unit {0}
EachCause P (q ∷ qs) = P q.1 × EachCause P qs

by_one : (P : Cause → Type 0) (b : Bool) (c d : Cause) (r : Result Aim Cause) → cond b r (Err c) ≡ Err d → P c
    → (r ≡ Err d → P d) → P d
by_one P true c d r e h k = k e
by_one P false c d r e h k = let i : c ≡ d = cc in subst P i h

answered_by : (P : Cause → Type 0) (qs : Questions) (a : Aim) (d : Cause) → qs asks Ok a ≡ Err d → EachCause P qs → P d
answered_by P [] a d e h = absurd (cc)
answered_by P (q ∷ qs) a d e h = by_one P q.0 q.1 d (qs asks Ok a) e h.0 (λ i. answered_by P qs a d i h.1)

-- a block is refused by 18 to 21
abbrev OfBlock : Course → Cause → Type 0
OfBlock c cause = (of_tick (cause_number cause) ≡ true) × (stops_at_once (cause_number (fault_in (Some c) cause).cause) ≡ false)

verdict_number : (o : Option RawData) (c : Course) (x : ℤ) (m : Meaning) (w : Work) (cause : Cause)
    → block_verdict o c x m w ≡ Err cause
    → (is_some o ≡ true → of_tick (cause_number cause) ≡ true) × (stops_at_once (cause_number (fault_in (Some c) cause).cause) ≡ false)
verdict_number None c x m w cause e = (λ z. cc, grind arith)
verdict_number (Some d) c x m w cause e =
    let qs = move_questions d (course_rate d c) (block_target d c x w) m w.zero w.referenced in
    let k = answered_by (OfBlock c) qs _ cause e ((refl, refl), ((refl, refl), ((refl, refl), ((refl, refl), tt)))) in
    (λ z. k.0, k.1)

begun_refused : (v : Result Aim Cause) (c d : Course) (n : ℕ) (f : Fault) (a : AxisState) → a.status.work.phase ≡ between d
    → ((cause : Cause) → v ≡ Err cause
    → (is_some a.status.machine ≡ true → of_tick (cause_number cause) ≡ true) × (stops_at_once (cause_number (fault_in (Some c) cause).cause) ≡ false))
    → at_axis n (done_or (begun_reply v c)) ≡ refused f
    → RefusedTick n f a (with_values (begun_with v a.status.machine c a.status.work) a)
begun_refused (Ok aim) c d n f a q h e = absurd (cc)
begun_refused (Err cause) c d n f a q h e =
    let g = fault_in (Some c) cause in
    let k = h cause refl in (
      g,
      told n g f e,
      record {
        number = k.0;
        at_once = λ z. absurd (false≢true (sym k.1 ∙ z));
        not_taken = λ z. (d, q, refl);
      },
    )

block_refused : (x : Option ℤ) (c d : Course) (n : ℕ) (f : Fault) (a : AxisState) → a.status.work.phase ≡ between d
    → at_axis n (done_or (block_reply x c a.drive a.status.machine a.status.work)) ≡ refused f
    → RefusedTick n f a (with_values (block_run x c a.drive a.status.machine a.status.work) a)
block_refused None c d n f a q e = absurd (cc)
block_refused (Some x) c d n f a q e =
    let v = block_verdict a.status.machine c x a.drive a.status.work in
    begun_refused v c d n f a q (verdict_number a.status.machine c x a.drive a.status.work) e

next_refused : (b : Option Block) (c : Course) (n : ℕ) (f : Fault) (a : AxisState) → a.status.work.phase ≡ between c
    → at_axis n (done_or (next_reply b c a.drive a.status.machine a.status.work)) ≡ refused f
    → RefusedTick n f a (with_values (next_run b c a.drive a.status.machine a.status.work) a)
next_refused None c n f a q e = absurd (cc)
next_refused (Some b) c n f a q e = block_refused b.target (with_words b c) c n f a q e

-- by what the axis is doing
tick_refused : (ph : Phase) (p : Programs) (n : ℕ) (f : Fault) (a : AxisState) → a.status.work.phase ≡ ph
    → at_axis n (done_or (tick_reply_at ph p a)) ≡ refused f → RefusedTick n f a (tick_at ph p a)
tick_refused standing p n f a q e = absurd (cc)
tick_refused (moving t) p n f a q e = stopped_refused (trouble_of t a) t n f a _ (ap move_of q) (trouble_number t a) e
tick_refused (braking t) p n f a q e = stopped_refused (trouble_of t a) t n f a _ (ap move_of q) (trouble_number t a) e
tick_refused (held c u) p n f a q e = absurd (cc)
tick_refused (between c) p n f a q e = next_refused (next_block p c) c n f a q e

-- AN ACT
act_refused : (act : Act) (p : Programs) (n : ℕ) (f : Fault) (a : AxisState) → at_axis n (answered act p a) ≡ refused f
    → RefusedAt true n act f a (acted act p a)
act_refused (Enter raw) p n f a e = unless_refused (enter_no raw a.status) n f a _ e
act_refused Delete p n f a e = unless_refused (delete_no a.status) n f a _ e
act_refused (Order o) p n f a e = order_refused (verdict o p a.drive a.status) o n f a e
act_refused (Level l) p n f a e = absurd (cc)
act_refused Tick p n f a e = tick_refused a.status.work.phase p n f a refl e
act_refused Observe p n f a e = absurd (cc)

-- an axis that is named or not
named_refused : (b : Bool) (w : Which) (axis : ℕ) (act : Act) (s : Machine) (f : Fault) → eqb axis (number w) ≡ b
    → reply (OnAxis axis act) s ≡ refused f
    → RefusedAt b axis act f (axis_at w s) (if_named b act s.programs (axis_at w s))
named_refused true w axis act s f q e =
    let i = eqb-true axis (number w) q in
    let r = ap (λ (k : ℕ). at_axis k (answered act s.programs (axis_at w s))) i ∙ sym (reply_of w axis act s i) ∙ e in
    act_refused act s.programs axis f (axis_at w s) r
named_refused false w axis act s f q e = refl

-- each of the three
each_refused : (w : Which) (axis : ℕ) (act : Act) (s : Machine) (f : Fault) → reply (OnAxis axis act) s ≡ refused f
    → RefusedAt (eqb axis (number w)) axis act f (axis_at w s) (axis_at w (step (OnAxis axis act) s))
each_refused first axis act s f e = named_refused (eqb axis 1) first axis act s f refl e
each_refused second axis act s f e = named_refused (eqb axis 2) second axis act s f refl e
each_refused third axis act s f e = named_refused (eqb axis 3) third axis act s f refl e

-- THE STORE

-- opening
open_refused : (o : Option StoreFault) (n : ℕ) (m : Measure) (f : Fault) (s : Machine) → at_store (entry.asked o) ≡ refused f
    → with_programs (entry.opened_unless o n m s.programs) s ≡ s
open_refused None n m f s e = absurd (cc)
open_refused (Some x) n m f s e = refl

-- adding a line: one that is refused adds no block
line_refused : (r : Result (Option Block) LineFault) (p : Program) (f : Fault) (s : Machine) → s.programs.entry ≡ Some p
    → at_store (line_reply r) ≡ refused f → with_programs (entry.entered (joined_to r p) s.programs) s ≡ s
line_refused (Ok b) p f s h e = absurd (cc)
line_refused (Err x) p f s h e = ap (λ (o : Option Program). with_programs (record s.programs { entry = o }) s) (sym h)

add_by : (b : Bool) (p : Program) (n : ℕ) (line : List ℕ) (f : Fault) (s : Machine) → s.programs.entry ≡ Some p
    → at_store (cond b (line_reply (read p line)) (Err (NotOpen n))) ≡ refused f
    → with_programs (cond b (entry.entered (joined_to (read p line) p) s.programs) s.programs) s ≡ s
add_by true p n line f s h e = line_refused (read p line) p f s h e
add_by false p n line f s h e = refl

add_refused : (o : Option Program) (n : ℕ) (line : List ℕ) (f : Fault) (s : Machine) → s.programs.entry ≡ o
    → at_store (entry.add_reply_to o n line) ≡ refused f → with_programs (entry.added_to o n line s.programs) s ≡ s
add_refused None n line f s h e = refl
add_refused (Some p) n line f s h e = add_by (eqb p.number n) p n line f s h e

-- closing: 35 ends the entry, 30 does not
abbrev Closed : Fault → Machine → Programs → Type 0
Closed f s p = with_programs p s ≡ cond (eqb (number_of f) 35) (without_entry s) s

end_refused : (c : Bool) (p : Program) (n : ℕ) (f : Fault) (s : Machine) → at_store (cond c (Ok tt) (Err (NotClosable n))) ≡ refused f
    → Closed f s (record { stored = cond c (s.programs.stored ++ p ∷ []) s.programs.stored; entry = None })
end_refused true p n f s e = absurd (cc)
end_refused false p n f s e =
    of_refusal (λ (g : Fault). Closed g s (record { stored = s.programs.stored; entry = None })) _ f e refl

not_open : (n : ℕ) (f : Fault) (s : Machine) → refused (OfStore (NotOpen n)) ≡ refused f → Closed f s s.programs
not_open n f s e = of_refusal (λ (g : Fault). Closed g s s.programs) _ f e refl

close_by : (b : Bool) (p : Program) (n : ℕ) (f : Fault) (s : Machine)
    → at_store (cond b (entry.end_reply p n) (Err (NotOpen n))) ≡ refused f
    → Closed f s (cond b (entry.ended_with p s.programs) s.programs)
close_by true p n f s e = end_refused (closable p.blocks) p n f s e
close_by false p n f s e = not_open n f s e

close_refused : (o : Option Program) (n : ℕ) (f : Fault) (s : Machine) → at_store (entry.close_reply_of o n) ≡ refused f
    → Closed f s (entry.closed_from o n s.programs)
close_refused None n f s e = not_open n f s e
close_refused (Some p) n f s e = close_by (eqb p.number n) p n f s e

-- abandoning
abandon_refused : (b : Bool) (n : ℕ) (f : Fault) (s : Machine) → at_store (cond b (Ok tt) (Err (NotOpen n))) ≡ refused f
    → with_programs (cond b (record { stored = s.programs.stored; entry = None }) s.programs) s ≡ s
abandon_refused true n f s e = absurd (cc)
abandon_refused false n f s e = refl

-- deleting a program
deletion_refused : (b c : Bool) (n : ℕ) (p : Programs) (f : Fault) (s : Machine)
    → cond b (cond c (refused (InUse n)) done) (refused (OfStore (NotStored n))) ≡ refused f
    → cond b (cond c s (with_programs p s)) s ≡ s
deletion_refused true true n p f s e = refl
deletion_refused true false n p f s e = absurd (cc)
deletion_refused false c n p f s e = refl

-- THE LAW
pub refusals : Refusals
refusals (OnAxis axis act) s f e = record { axes = λ w. each_refused w axis act s f e; programs = refl }
refusals (Open n m) s f e = open_refused (entry.first_no (entry.open_questions n s.programs)) n m f s e
refusals (Add n line) s f e = add_refused s.programs.entry n line.now f s refl e
refusals (Close n) s f e = close_refused s.programs.entry n f s e
refusals (Abandon n) s f e = abandon_refused (entry.open_one n s.programs.entry) n f s e
refusals (DeleteProgram n) s f e =
    deletion_refused (is_some (found n s.programs.stored)) (in_use n s) n (entry.deleted n s.programs) f s e
