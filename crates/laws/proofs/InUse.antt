-- What holds of the program that an axis runs or holds stays so through every act.
use Rattle.std.proofs.Common.{◌≡◌, ℕ, Bool, true, false, cond, eqb, ℤ, Some, None, Ok, Err, Option, Result, refl, sym, ap, subst}
use Rattle.drives.specs.Meaning.{Meaning}
use Rattle.reader.specs.declared.block.Block.{Block}
use Rattle.reader.specs.Words.{ends_by}
use Rattle.motion.specs.declared.raw.RawData.{RawData}
use Rattle.motion.specs.Travel.{Going}
use Rattle.store.specs.Programs.{Programs}
use Rattle.states.specs.declared.aim.Aim.{Aim}
use Rattle.states.specs.declared.order.Order.{Order}
use Rattle.states.specs.declared.fault.Cause.{Cause}
use Rattle.states.specs.Faults.{cause_number}
use Rattle.states.specs.Moves.{ticked_in, braked_in}
use Rattle.states.specs.Entry.{cleared, with_data, enter_no, delete_no, unless}
use Rattle.states.specs.State.{Course, Travel, Phase, standing, moving, braking, held, between, Work, Status, AxisState, with_phase, course_of, stopped}
use Rattle.states.specs.Courses.{opening}
use Rattle.orders.specs.declared.plan.Plan.{Plan}
use Rattle.orders.specs.Questions.{start_questions, verdict}
use Rattle.orders.specs.Orders.{order_fault, left}
use Rattle.ticks.specs.Blocks.{with_words, block_verdict, begun_with, block_run, next_run, next_block}
use Rattle.ticks.specs.Moving.{after_move, stopped_short, ran, slowed, sent_on}
use Rattle.ticks.specs.Ticks.{trouble_of, unless_trouble, run_step, slow_step, tick_at}
use Rattle.laws.specs.Acts.{Act, entering, deleting, ordering, levelling, ticking, act_step}
use Rattle.laws.proofs.Asked.{Yes}
use Rattle.laws.proofs.Accepting.{accepted_by}

-- a program, if there is one, is such
abbrev pub Such : (Course → Type 0) → Option Course → Type 0
Such P None = Unit {0}
Such P (Some c) = P c

-- a program is such in the middle of a block: P, and between its blocks: Q
abbrev pub InPhase : (Course → Type 0) → (Course → Type 0) → Phase → Type 0
InPhase P Q standing = Unit {0}
InPhase P Q (moving t) = Such P t.course
InPhase P Q (braking t) = Such P t.course
InPhase P Q (held c (Some target)) = P c
InPhase P Q (held c None) = Q c
InPhase P Q (between c) = Q c

-- by whether there is a reference; a block that is done and does not end the program leaves it between its blocks
module _ (P Q : Bool → Course → Type 0) (amid : (r : Bool) (c : Course) → Q r c → P r c)
    (done : (r : Bool) (c : Course) → P r c → ends_by c.auxiliary ≡ false → Q r c) where
  abbrev pub Using : Work → Type 0
  Using w = InPhase (P w.referenced) (Q w.referenced) w.phase

  such_in : (ph : Phase) (r : Bool) → InPhase (P r) (Q r) ph → Such (P r) (course_of ph)
  such_in standing r u = tt
  such_in (moving t) r u = u
  such_in (braking t) r u = u
  such_in (held c None) r u = amid r c u
  such_in (held c (Some target)) r u = u
  such_in (between c) r u = amid r c u

  -- AN ORDER

  stopped_using : (ph : Phase) (r : Bool) → InPhase (P r) (Q r) ph → InPhase (P r) (Q r) (stopped ph)
  stopped_using standing r u = tt
  stopped_using (moving t) r u = u
  stopped_using (braking t) r u = u
  stopped_using (held c o) r u = u
  stopped_using (between c) r u = u

  -- a refused order stops or not
  refused_using : (b : Bool) (w : Work) → Using w → Using (with_phase (cond b (stopped w.phase) w.phase) w)
  refused_using true w u = stopped_using w.phase w.referenced u
  refused_using false w u = u

  -- accepted or refused
  order_using : (v : Result Plan Cause) (o : Order) (p : Programs) (m : Meaning) (s : Status) → verdict o p m s ≡ v
      → ((d : RawData) → s.work.referenced ≡ true → Yes (start_questions d o p) → Q s.work.referenced (opening o.byte))
      → Using s.work → Using (left o m s v).work
  order_using (Ok plan) o p m s e b u =
      let r = s.work.referenced in
      accepted_by o p m s Using (λ n i. stopped_using s.work.phase r u) (λ n i. u)
      (λ v i j z. subst (InPhase (P v.referenced) (Q v.referenced)) (sym z) tt) (λ a i. tt) (λ n d i y. b d i y)
      (λ n t c i. subst (InPhase (P r) (Q r)) i u)
      (λ n t d i c target j. subst (Such (P r)) (ap course_of j) (such_in s.work.phase r u))
      plan e
  order_using (Err cause) o p m s e b u =
      refused_using (eqb (cause_number (order_fault o s.work.phase cause).cause) 11) s.work u

  -- A TICK

  -- a block is done
  done_using : (ends holds r : Bool) (c : Course) → ends_by c.auxiliary ≡ ends → P r c
      → InPhase (P r) (Q r) (cond ends standing (cond holds (held c None) (between c)))
  done_using true holds r c e u = tt
  done_using false true r c e u = done r c u e
  done_using false false r c e u = done r c u e

  -- after a move, complete or stopped short, there is only the program that was its own
  its_using : (o : Option Course) (mode : ℕ) (r : Bool) → Such (P r) o → InPhase (P r) (Q r) (after_move mode o)
  its_using None mode r u = tt
  its_using (Some c) mode r u = done_using _ _ r c refl u

  short_using : (o : Option Course) (target : ℤ) (r : Bool) → Such (P r) o → InPhase (P r) (Q r) (stopped_short target o)
  short_using None target r u = tt
  short_using (Some c) target r u = u

  -- a tick of a move
  module _ (g : Going) (t : Travel) (count : ℤ) (o : Option RawData) (w : Work) (u : Such (P w.referenced) t.course) where
    ran_using : (b : Bool) → Using (ran b g t count o w)
    ran_using true = its_using t.course w.mode w.referenced u
    ran_using false = u

    slowed_using : (b : Bool) → Using (slowed b g t count o w)
    slowed_using true = short_using t.course t.target w.referenced u
    slowed_using false = u

  -- a tick that takes a block
  module _ (m : Meaning) (o : Option RawData) (w : Work) (c : Course) (u : P w.referenced c) where
    begun_using : (v : Result Aim Cause) → Using (begun_with v o c w)
    begun_using (Ok aim) = u
    begun_using (Err cause) = tt

    block_using : (x : Option ℤ) → Using (block_run x c m o w)
    block_using None = done_using _ _ w.referenced c refl u
    block_using (Some x) = begun_using (block_verdict o c x m w)

  next_using : (b : Option Block) (c : Course) (m : Meaning) (o : Option RawData) (w : Work)
      → ((k : Block) → b ≡ Some k → P w.referenced (with_words k c)) → Using (next_run b c m o w)
  next_using None c m o w h = tt
  next_using (Some b) c m o w h = block_using m o w (with_words b c) (h b refl) b.target

  -- trouble ends a program
  trouble_using : (o : Option Cause) (t : Travel) (a next : AxisState) → Using next.status.work
      → Using (unless_trouble o t a next).status.work
  trouble_using None t a next u = u
  trouble_using (Some cause) t a next u = tt

  -- by what the axis is doing
  pub tick_using : (ph : Phase) (p : Programs) (a : AxisState)
      → ((c : Course) (b : Block) → next_block p c ≡ Some b → Q a.status.work.referenced c
      → P a.status.work.referenced (with_words b c))
      → InPhase (P a.status.work.referenced) (Q a.status.work.referenced) ph → Using a.status.work
      → Using (tick_at ph p a).status.work
  tick_using standing p a h v u = u
  tick_using (moving t) p a h v u =
      let g = ticked_in a.status.machine t.going in
      trouble_using (trouble_of t a) t a (run_step g t a)
      (ran_using g t (sent_on t g a.drive).count a.status.machine a.status.work v (eqb g.step 0))
  tick_using (braking t) p a h v u =
      let g = braked_in a.status.machine t.going in
      trouble_using (trouble_of t a) t a (slow_step g t a)
      (slowed_using g t (sent_on t g a.drive).count a.status.machine a.status.work v (eqb g.step 0))
  tick_using (held c o) p a h v u = u
  tick_using (between c) p a h v u =
      next_using (next_block p c) c a.drive a.status.machine a.status.work (λ b e. h c b e v)

  -- AN ACT

  -- machine data, entered and deleted: a cleared axis stands
  unless_using : (o : Option Cause) (s : Option RawData) (zero : ℤ) (t : Status) → Using t.work
      → Using (unless o t (with_data s (cleared zero t.work) t)).work
  unless_using None s zero t u = tt
  unless_using (Some cause) s zero t u = u

  pub act_using : (act : Act) (p : Programs) (a : AxisState)
      → ((o : Order) (d : RawData) → a.status.work.referenced ≡ true → Yes (start_questions d o p)
      → Q a.status.work.referenced (opening o.byte))
      → ((c : Course) (b : Block) → next_block p c ≡ Some b → Q a.status.work.referenced c
      → P a.status.work.referenced (with_words b c))
      → Using a.status.work → Using (act_step act p a).status.work
  act_using (entering d) p a b h u = unless_using (enter_no d a.status) (Some d) a.drive.count a.status u
  act_using deleting p a b h u = unless_using (delete_no a.status) None a.status.work.zero a.status u
  act_using (ordering o) p a b h u = order_using (verdict o p a.drive a.status) o p a.drive a.status refl (b o) u
  act_using (levelling begin end ready) p a b h u = u
  act_using ticking p a b h u = tick_using a.status.work.phase p a h u u

-- THE SAME of a program amid a block and between its blocks

pub in_phase : (P : Course → Type 0) (ph : Phase) → Such P (course_of ph) → InPhase P P ph
in_phase P standing u = tt
in_phase P (moving t) u = u
in_phase P (braking t) u = u
in_phase P (held c None) u = u
in_phase P (held c (Some target)) u = u
in_phase P (between c) u = u

pub in_course : (P : Course → Type 0) (ph : Phase) → InPhase P P ph → Such P (course_of ph)
in_course P standing u = tt
in_course P (moving t) u = u
in_course P (braking t) u = u
in_course P (held c None) u = u
in_course P (held c (Some target)) u = u
in_course P (between c) u = u

abbrev pub SuchIn : (Bool → Course → Type 0) → Work → Type 0
SuchIn P w = Such (P w.referenced) (course_of w.phase)

pub act_such : (P : Bool → Course → Type 0) (act : Act) (p : Programs) (a : AxisState)
    → ((o : Order) (d : RawData) → a.status.work.referenced ≡ true → Yes (start_questions d o p)
    → P a.status.work.referenced (opening o.byte))
    → ((c : Course) (b : Block) → next_block p c ≡ Some b → P a.status.work.referenced c
    → P a.status.work.referenced (with_words b c))
    → SuchIn P a.status.work → SuchIn P (act_step act p a).status.work
act_such P act p a b h u =
    let w = a.status.work in
    let v = (act_step act p a).status.work in
    in_course (P v.referenced) v.phase
    (act_using P P (λ r c i. i) (λ r c i e. i) act p a b h (in_phase (P w.referenced) w.phase u))
