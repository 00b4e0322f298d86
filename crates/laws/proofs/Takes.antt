-- What an act makes of the blocks taken, of the M number and of the program in use: an accepted start begins anew, a tick takes a
-- block, and all else leaves them.
use Rattle.std.proofs.Common.{◌≡◌, ℕ, Bool, true, false, cond, List, [], ◌∷◌, ◌++◌, ℤ, Some, None, Ok, Err, Option, Result, refl, sym, ap, ◌∙◌, subst, is_ok, is_some}
use Rattle.std.proofs.lemmas.Bool.{false≢true}
use Rattle.std.specs.Option.{unwrap_or}
use Rattle.reader.specs.declared.block.Block.{Block}
use Rattle.motion.specs.declared.raw.RawData.{RawData}
use Rattle.motion.specs.Travel.{Going}
use Rattle.store.specs.Programs.{Programs, found}
use Rattle.states.specs.declared.aim.Aim.{Aim}
use Rattle.states.specs.declared.order.Order.{Order}
use Rattle.states.specs.declared.fault.Cause.{Cause}
use Rattle.states.specs.Moves.{ticked_in, braked_in}
use Rattle.states.specs.Entry.{cleared, with_data, enter_no, delete_no, unless, call_reply}
use Rattle.states.specs.State.{Course, Travel, Phase, standing, moving, braking, held, between, Work, AxisState, with_fault, with_phase, course_of, stopped}
use Rattle.states.specs.Courses.{opening}
use Rattle.states.specs.Effects.{set_off}
use Rattle.orders.specs.declared.plan.Plan.{Plan}
use Rattle.orders.specs.Questions.{verdict}
use Rattle.orders.specs.Effects.{taken, halted, refused_by}
use Rattle.orders.specs.Orders.{names_program, order_fault, answered, left}
use Rattle.ticks.specs.Blocks.{with_words, block_verdict, begun_with, begun_reply, block_run, block_reply, next_run, next_reply, next_block}
use Rattle.ticks.specs.Moving.{after_move, stopped_short, ran, slowed, sent_on}
use Rattle.ticks.specs.Ticks.{trouble_of, unless_trouble, trouble_reply, run_step, slow_step, tick_at, reply_at}
use Rattle.laws.specs.Acts.{Act, entering, deleting, ordering, levelling, ticking, act_step, act_reply}
use Rattle.laws.specs.Kept.{Quiet}
use Rattle.orders.specs.Modes.{runs_programs}
use Rattle.laws.specs.Blocks.{block_to_come, with_block, taken_after}
use Rattle.laws.proofs.InUse.{Such}
use Rattle.laws.proofs.Held.{begins_stored}
use Rattle.laws.proofs.Accepting.{other_mode, accepted_by}

-- in modes 8 and 9: so it was, and with this M number, if no program is held in another mode
abbrev pub SameM : Work → Work → Type 0
SameM w v = Quiet w → runs_programs v.mode ≡ true → (runs_programs w.mode ≡ true) × (v.auxiliary ≡ w.auxiliary)

-- a program in use is the one of before
abbrev pub SameIn : Option Course → Option Course → Type 0
SameIn c o = Such (λ d. c ≡ Some d) o

same_in : (o : Option Course) → SameIn o o
same_in None = tt
same_in (Some c) = refl

-- a stop keeps it
stopped_in : (ph : Phase) → SameIn (course_of ph) (course_of (stopped ph))
stopped_in standing = tt
stopped_in (moving t) = same_in t.course
stopped_in (braking t) = same_in t.course
stopped_in (held c u) = refl
stopped_in (between c) = refl

refused_in : (b : Bool) (ph : Phase) → SameIn (course_of ph) (course_of (cond b (stopped ph) ph))
refused_in true ph = stopped_in ph
refused_in false ph = same_in (course_of ph)

-- a block that is done ends the program or leaves it
done_in : (P : Course → Type 0) (ends holds : Bool) (c : Course) → P c
    → Such P (course_of (cond ends standing (cond holds (held c None) (between c))))
done_in P true holds c u = tt
done_in P false true c u = u
done_in P false false c u = u

-- so does the end of its move
move_in : (o : Option Course) (mode : ℕ) → SameIn o (course_of (after_move mode o))
move_in None mode = tt
move_in (Some c) mode = done_in (λ d. Some c ≡ Some d) _ _ c refl

short_in : (o : Option Course) (target : ℤ) → SameIn o (course_of (stopped_short target o))
short_in None target = tt
short_in (Some c) target = refl

ran_in : (b : Bool) (g : Going) (t : Travel) (count : ℤ) (x : Option RawData) (w : Work)
    → SameIn t.course (course_of (ran b g t count x w).phase)
ran_in true g t count x w = move_in t.course w.mode
ran_in false g t count x w = same_in t.course

slowed_in : (b : Bool) (g : Going) (t : Travel) (count : ℤ) (x : Option RawData) (w : Work)
    → SameIn t.course (course_of (slowed b g t count x w).phase)
slowed_in true g t count x w = short_in t.course t.target
slowed_in false g t count x w = same_in t.course

-- mode and M number of a move stay
ran_m : (b : Bool) (g : Going) (t : Travel) (count : ℤ) (x : Option RawData) (w : Work) → SameM w (ran b g t count x w)
ran_m true g t count x w = λ q f. (f, refl)
ran_m false g t count x w = λ q f. (f, refl)

slowed_m : (b : Bool) (g : Going) (t : Travel) (count : ℤ) (x : Option RawData) (w : Work) → SameM w (slowed b g t count x w)
slowed_m true g t count x w = λ q f. (f, refl)
slowed_m false g t count x w = λ q f. (f, refl)

-- a program is held in modes 8 and 9 alone
used_mode : (b : Bool) (n : ℕ) (o : Option Course) (c : Course) → (b ≡ false → (n ≡ 2) × (o ≡ None)) → o ≡ Some c → b ≡ true
used_mode true n o c q e = refl
used_mode false n o c q e = let none = (q refl).1 in cc

-- what holds of each of these holds of an axis after an act, and of the blocks then taken
module _ (p : Programs) (a : AxisState) (bs : List Block) (G : List Block → Work → Type 0)
    (begins : (n : ℕ) (v : Work) → is_some (found n p.stored) ≡ true → v.auxiliary ≡ 2 → v.phase ≡ between (opening n) → G [] v)
    (takes : (c : Course) (b : Block) (v : Work) → a.status.work.phase ≡ between c → next_block p c ≡ Some b
    → v.mode ≡ a.status.work.mode → v.auxiliary ≡ unwrap_or b.auxiliary a.status.work.auxiliary
    → Such (λ d. d ≡ with_words b c) (course_of v.phase) → G (bs ++ b ∷ []) v)
    (stays : (v : Work) → SameM a.status.work v → SameIn (course_of a.status.work.phase) (course_of v.phase) → G bs v) where
  -- nothing is done
  same : G bs a.status.work
  same = stays a.status.work (λ q f. (f, refl)) (same_in (course_of a.status.work.phase))

  -- machine data, entered or deleted: mode 4
  data_takes : (o : Option Cause) (x : Option RawData) (zero : ℤ)
      → G (cond (is_ok (call_reply o)) bs bs) (unless o a.status (with_data x (cleared zero a.status.work) a.status)).work
  data_takes None x zero = stays (cleared zero a.status.work) (λ q f. absurd (false≢true f)) tt
  data_takes (Some c) x zero = same

  -- AN ORDER

  -- one that starts no program
  unnamed : (o : Order) (v : Work) → names_program o ≡ false → SameM a.status.work v
      → SameIn (course_of a.status.work.phase) (course_of v.phase) → G (cond (names_program o) [] bs) v
  unnamed o v n s c = subst (λ (b : Bool). G (cond b [] bs) v) (sym n) (stays v s c)

  -- a mode other than 8 and 9
  apart : (o : Order) (v : Work) → v.mode ≡ o.mode → runs_programs o.mode ≡ false → SameM a.status.work v
  apart o v e i = λ q f. absurd (false≢true (sym i ∙ ap runs_programs (sym e) ∙ f))

  -- a take-over
  goes_on : (c : Course) → course_of a.status.work.phase ≡ Some c → Quiet a.status.work → runs_programs a.status.work.mode ≡ true
  goes_on c e q =
      used_mode (runs_programs a.status.work.mode) a.status.work.auxiliary (course_of a.status.work.phase) c q e

  order_takes : (r : Result Plan Cause) (o : Order) → verdict o p a.drive a.status ≡ r
      → G (cond (is_ok (answered o a.status.work.phase r)) (cond (names_program o) [] bs) bs) (left o a.drive a.status r).work
  order_takes (Ok plan) o e =
      let moved = λ (x : Aim). set_off a.status.machine x None (taken o.mode a.status.work) in
      let begun = with_phase (between (opening o.byte)) (taken o.mode a.status.work) in
      accepted_by o p a.drive a.status (λ v. G (cond (names_program o) [] bs) v)
      (λ n i. unnamed o (halted a.status.work) n (λ q f. (f, refl)) (stopped_in a.status.work.phase))
      (λ n i. unnamed o (with_fault None a.status.work) n (λ q f. (f, refl)) (same_in (course_of a.status.work.phase)))
      (λ v i j s. unnamed o v (other_mode o j) (apart o v i j) (subst (λ (ph : Phase). SameIn (course_of a.status.work.phase) (course_of ph)) (sym s) tt))
      (λ x j. unnamed o (moved x) (other_mode o j) (apart o (moved x) refl j) tt)
      (λ n d r y. subst (λ (b : Bool). G (cond b [] bs) begun) (sym n) (begins o.byte begun (begins_stored o p d y) refl refl))
      (λ n t c i. unnamed o _ n (λ q f. (goes_on c (ap course_of i) q, refl)) (ap course_of i))
      (λ n t d i c target j. unnamed o _ n (λ q f. (goes_on c (ap course_of j) q, refl)) (ap course_of j))
      plan e
  order_takes (Err cause) o e =
      let f = order_fault o a.status.work.phase cause in
      stays (refused_by f a.status.work) (λ q g. (g, refl)) (refused_in _ a.status.work.phase)

  -- A TICK

  -- of a move, with trouble or without
  move_takes : (o : Option Cause) (t : Travel) (next : AxisState) → course_of a.status.work.phase ≡ t.course
      → SameM a.status.work next.status.work → SameIn t.course (course_of next.status.work.phase)
      → G (cond (is_ok (trouble_reply o t)) bs bs) (unless_trouble o t a next).status.work
  move_takes None t next e s c =
      stays next.status.work s (subst (λ (o : Option Course). SameIn o (course_of next.status.work.phase)) (sym e) c)
  move_takes (Some cause) t next e s c = stays _ (λ q f. (f, refl)) tt

  -- of a block
  module _ (c : Course) (b : Block) (e : a.status.work.phase ≡ between c) (i : next_block p c ≡ Some b) where
    begun_takes : (v : Result Aim Cause)
        → G (cond (is_ok (begun_reply v (with_words b c))) (bs ++ b ∷ []) bs)
        (begun_with v a.status.machine (with_words b c) a.status.work)
    begun_takes (Ok aim) = takes c b _ e i refl refl refl
    begun_takes (Err cause) = stays _ (λ q f. (f, refl)) tt

    block_takes : (x : Option ℤ)
        → G (cond (is_ok (block_reply x (with_words b c) a.drive a.status.machine a.status.work)) (bs ++ b ∷ []) bs)
        (block_run x (with_words b c) a.drive a.status.machine a.status.work)
    block_takes None = takes c b _ e i refl refl (done_in (λ d. d ≡ with_words b c) _ _ (with_words b c) refl)
    block_takes (Some x) = begun_takes (block_verdict a.status.machine (with_words b c) x a.drive a.status.work)

  next_takes : (o : Option Block) (c : Course) → a.status.work.phase ≡ between c → next_block p c ≡ o
      → G (cond (is_ok (next_reply o c a.drive a.status.machine a.status.work)) (with_block o bs) bs)
      (next_run o c a.drive a.status.machine a.status.work)
  next_takes None c e i = stays _ (λ q f. (f, refl)) tt
  next_takes (Some b) c e i = block_takes c b e i b.target

  tick_takes : (ph : Phase) → a.status.work.phase ≡ ph
      → G (cond (is_ok (reply_at ph p a)) (with_block (block_to_come ph p) bs) bs) (tick_at ph p a).status.work
  tick_takes standing e = same
  tick_takes (moving t) e =
      let g = ticked_in a.status.machine t.going in
      let count = (sent_on t g a.drive).count in
      move_takes (trouble_of t a) t (run_step g t a) (ap course_of e)
      (ran_m _ g t count a.status.machine a.status.work) (ran_in _ g t count a.status.machine a.status.work)
  tick_takes (braking t) e =
      let g = braked_in a.status.machine t.going in
      let count = (sent_on t g a.drive).count in
      move_takes (trouble_of t a) t (slow_step g t a) (ap course_of e)
      (slowed_m _ g t count a.status.machine a.status.work) (slowed_in _ g t count a.status.machine a.status.work)
  tick_takes (held c u) e = same
  tick_takes (between c) e = next_takes (next_block p c) c e refl

  pub act_takes : (act : Act) → G (cond (is_ok (act_reply act p a)) (taken_after act p a.status.work.phase bs) bs) (act_step act p a).status.work
  act_takes (entering d) = data_takes (enter_no d a.status) (Some d) a.drive.count
  act_takes deleting = data_takes (delete_no a.status) None a.status.work.zero
  act_takes (ordering o) = order_takes (verdict o p a.drive a.status) o refl
  act_takes (levelling begin end ready) = same
  act_takes ticking = tick_takes a.status.work.phase refl
