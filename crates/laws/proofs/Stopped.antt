-- A move is braked, and a program held before its target, only after a stop.
use Rattle.std.proofs.Common.{◌≡◌, ℕ, Bool, true, false, cond, eqb, ℤ, List, [], ◌∷◌, Some, None, Ok, Err, Option, Result, refl, sym, ap, ◌∙◌, subst, is_ok}
use Rattle.std.proofs.lemmas.Bool.{false≢true}
use Rattle.drives.specs.Meaning.{Meaning}
use Rattle.reader.specs.declared.block.Block.{Block}
use Rattle.motion.specs.declared.raw.RawData.{RawData}
use Rattle.motion.specs.Travel.{Going}
use Rattle.store.specs.Programs.{Programs}
use Rattle.states.specs.declared.aim.Aim.{Aim}
use Rattle.states.specs.declared.order.Order.{Order}
use Rattle.states.specs.declared.fault.Cause.{Cause}
use Rattle.states.specs.Faults.{cause_number}
use Rattle.states.specs.Entry.{cleared, with_data, enter_no, delete_no, unless, call_reply}
use Rattle.states.specs.Moves.{ticked_in}
use Rattle.states.specs.State.{Course, Travel, Phase, standing, moving, braking, held, between, Work, Status, AxisState, stopped}
use Rattle.orders.specs.declared.plan.Plan.{Plan}
use Rattle.orders.specs.Modes.{stops}
use Rattle.orders.specs.Questions.{verdict}
use Rattle.orders.specs.Orders.{order_fault, answered, left}
use Rattle.ticks.specs.Blocks.{with_words, block_verdict, begun_with, block_run, next_run, next_block}
use Rattle.ticks.specs.Moving.{after_move, ran, sent_on}
use Rattle.ticks.specs.Ticks.{trouble_of, unless_trouble, run_step, tick_at}
use Rattle.laws.specs.Acts.{Act, entering, deleting, ordering, levelling, ticking, Event, act_step, act_reply, step, new_axis, after}
use Rattle.laws.specs.Stopped.{stop_after, is_eleven, stop_next, stop_given, brakes_or_unfinished, Stopped}
use Rattle.laws.proofs.Accepting.{accepted_by}

-- a phase that a stop has cut, if there was one
abbrev Cut : Bool → Phase → Type 0
Cut b ph = brakes_or_unfinished ph ≡ true → b ≡ true

-- one that is not cut
uncut : (b : Bool) (ph : Phase) → brakes_or_unfinished ph ≡ false → Cut b ph
uncut b ph f e = absurd (false≢true (sym f ∙ e))

-- AN ORDER

-- after an accepted order
abbrev next : Order → Bool → Bool
next o b = cond (stops o.command) true (cond (eqb o.mode 17) b false)

-- a stop
halted_cut : (o : Order) (b : Bool) (ph : Phase) → stops o.command ≡ true → Cut (next o b) ph
halted_cut o b ph f e = ap (λ (k : Bool). cond k true (cond (eqb o.mode 17) b false)) f

-- 17 leaves what the axis is doing
cleared_cut : (k b : Bool) (n : ℕ) (ph : Phase) → n ≡ 17 → Cut b ph → Cut (cond k true (cond (eqb n 17) b false)) ph
cleared_cut true b n ph i u = λ e. refl
cleared_cut false b n ph i u = subst (λ (x : ℕ). Cut (cond (eqb x 17) b false) ph) (sym i) u

-- an order that is refused by 11 stops
refused_cut : (eleven b : Bool) (p : Phase) → Cut b p → Cut (cond eleven true b) (cond eleven (stopped p) p)
refused_cut true b p u = λ i. refl
refused_cut false b p u = u

-- an order
order_cut : (v : Result Plan Cause) (o : Order) (p : Programs) (m : Meaning) (s : Status) (b : Bool) → verdict o p m s ≡ v
    → Cut b s.work.phase
    → Cut (stop_after (ordering o) (is_ok (answered o s.work.phase v)) (is_eleven (answered o s.work.phase v)) b) (left o m s v).work.phase
order_cut (Ok plan) o p m s b e u =
    let c = next o b in
    accepted_by o p m s (λ v. Cut c v.phase) (λ n f. halted_cut o b (stopped s.work.phase) f)
    (λ n i. cleared_cut (stops o.command) b o.mode s.work.phase i u) (λ v i j z. uncut c v.phase (ap brakes_or_unfinished z))
    (λ a i f. absurd (false≢true f)) (λ n d r y f. absurd (false≢true f)) (λ n t k i f. absurd (false≢true f))
    (λ n t d i k target j f. absurd (false≢true f))
    plan e
order_cut (Err cause) o p m s b e u =
    refused_cut (eqb (cause_number (order_fault o s.work.phase cause).cause) 11) b s.work.phase u

-- A TICK

-- a block that is done
done_uncut : (ends holds : Bool) (c : Course) → brakes_or_unfinished (cond ends standing (cond holds (held c None) (between c))) ≡ false
done_uncut true holds c = refl
done_uncut false true c = refl
done_uncut false false c = refl

its_uncut : (o : Option Course) (mode : ℕ) → brakes_or_unfinished (after_move mode o) ≡ false
its_uncut None mode = refl
its_uncut (Some c) mode = done_uncut _ _ c

ran_uncut : (k : Bool) (g : Going) (t : Travel) (n : ℤ) (o : Option RawData) (w : Work) → brakes_or_unfinished (ran k g t n o w).phase ≡ false
ran_uncut true g t n o w = its_uncut t.course w.mode
ran_uncut false g t n o w = refl

begun_uncut : (v : Result Aim Cause) (o : Option RawData) (c : Course) (w : Work) → brakes_or_unfinished (begun_with v o c w).phase ≡ false
begun_uncut (Ok aim) o c w = refl
begun_uncut (Err cause) o c w = refl

block_uncut : (x : Option ℤ) (c : Course) (m : Meaning) (o : Option RawData) (w : Work) → brakes_or_unfinished (block_run x c m o w).phase ≡ false
block_uncut None c m o w = done_uncut _ _ c
block_uncut (Some x) c m o w = begun_uncut (block_verdict o c x m w) o c w

next_uncut : (b : Option Block) (c : Course) (m : Meaning) (o : Option RawData) (w : Work) → brakes_or_unfinished (next_run b c m o w).phase ≡ false
next_uncut None c m o w = refl
next_uncut (Some b) c m o w = block_uncut b.target (with_words b c) m o w

-- trouble ends a move
trouble_uncut : (o : Option Cause) (t : Travel) (a b : AxisState) → brakes_or_unfinished b.status.work.phase ≡ false
    → brakes_or_unfinished (unless_trouble o t a b).status.work.phase ≡ false
trouble_uncut None t a b f = f
trouble_uncut (Some cause) t a b f = refl

-- a braked move has been stopped
tick_cut : (ph : Phase) (p : Programs) (a : AxisState) (b : Bool) → Cut b a.status.work.phase → Cut b ph
    → Cut b (tick_at ph p a).status.work.phase
tick_cut standing p a b v u = v
tick_cut (moving t) p a b v u =
    let g = ticked_in a.status.machine t.going in
    let next = run_step g t a in
    uncut b (unless_trouble (trouble_of t a) t a next).status.work.phase
    (trouble_uncut (trouble_of t a) t a next
    (ran_uncut (eqb g.step 0) g t (sent_on t g a.drive).count a.status.machine a.status.work))
tick_cut (braking t) p a b v u = λ e. u refl
tick_cut (held c o) p a b v u = v
tick_cut (between c) p a b v u =
    uncut b (tick_at (between c) p a).status.work.phase
    (next_uncut (next_block p c) c a.drive a.status.machine a.status.work)

-- AN ACT

-- machine data entered or deleted
unless_cut : (o : Option Cause) (s : Option RawData) (zero : ℤ) (t : Status) (b : Bool) → Cut b t.work.phase
    → Cut (cond (is_ok (call_reply o)) false b) (unless o t (with_data s (cleared zero t.work) t)).work.phase
unless_cut None s zero t b u = λ e. absurd (false≢true e)
unless_cut (Some cause) s zero t b u = u

act_cut : (act : Act) (p : Programs) (a : AxisState) (b : Bool) → Cut b a.status.work.phase
    → Cut (stop_after act (is_ok (act_reply act p a)) (is_eleven (act_reply act p a)) b) (act_step act p a).status.work.phase
act_cut (entering d) p a b u = unless_cut (enter_no d a.status) (Some d) a.drive.count a.status b u
act_cut deleting p a b u = unless_cut (delete_no a.status) None a.status.work.zero a.status b u
act_cut (ordering o) p a b u = order_cut (verdict o p a.drive a.status) o p a.drive a.status b refl u
act_cut (levelling begin end ready) p a b u = u
act_cut ticking p a b u = tick_cut a.status.work.phase p a b u u

-- a run
run_cut : (es : List Event) (a : AxisState) (b : Bool) → Cut b a.status.work.phase
    → Cut (stop_given a es b) (after a es).status.work.phase
run_cut [] a b u = u
run_cut (e ∷ es) a b u = run_cut es (step e a) (stop_next e a b) (act_cut e.act e.programs a b u)

-- the law
pub stopped_alone : Stopped
stopped_alone m es = run_cut es (new_axis m) false (λ e. absurd (false≢true e))
