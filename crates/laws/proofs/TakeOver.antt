-- The move of a block, however often it is stopped and taken over, goes to the target, at the rate, with which the block set off.
use Rattle.std.proofs.Common.{◌≡◌, ℕ, min, max, Bool, true, false, cond, List, [], ◌∷◌, ◌++◌, ℤ, Some, None, Ok, Err, Option, Result, refl, sym, ap, ◌∙◌, subst, is_ok}
use Rattle.reader.specs.declared.block.Block.{Block}
use Rattle.drives.specs.Meaning.{Meaning}
use Rattle.motion.specs.declared.raw.RawData.{RawData}
use Rattle.motion.specs.Travel.{Going}
use Rattle.store.specs.Programs.{Programs}
use Rattle.states.specs.declared.aim.Aim.{Aim}
use Rattle.states.specs.declared.order.Order.{Order}
use Rattle.states.specs.declared.fault.Cause.{Cause}
use Rattle.states.specs.Asking.{aim_for, move_questions}
use Rattle.states.specs.Moves.{ticked_in, braked_in, begun_in}
use Rattle.states.specs.Courses.{course_rate}
use Rattle.states.specs.Entry.{cleared, with_data, enter_no, delete_no, unless}
use Rattle.states.specs.State.{Course, Travel, Phase, standing, moving, braking, held, between, Work, Status, AxisState, stopped}
use Rattle.orders.specs.declared.plan.Plan.{Plan}
use Rattle.orders.specs.Questions.{verdict}
use Rattle.orders.specs.Orders.{names_program, answered, left}
use Rattle.ticks.specs.Blocks.{with_words, block_target, block_verdict, begun_with, begun_reply, block_run, block_reply, next_run, next_reply, next_block}
use Rattle.ticks.specs.Moving.{after_move, stopped_short, ran, slowed, sent_on}
use Rattle.ticks.specs.Ticks.{trouble_of, unless_trouble, run_step, slow_step, tick_at, reply_at, tick_step}
use Rattle.laws.specs.Acts.{Act, entering, deleting, ordering, levelling, ticking, Event, act_step, act_reply, step, after}
use Rattle.laws.specs.Blocks.{block_to_come, with_block, taken_after, taken_next, blocks_taken, move_of, TakeOver}
use Rattle.laws.proofs.Asked.{accepted}
use Rattle.laws.proofs.Accepting.{accepted_by}
use Rattle.laws.proofs.InUse.{Such}
use Rattle.laws.proofs.TickValues.{tick_data}

-- THE RATE of a program's block, held to 1 to fm
abbrev rate_of : Option RawData → Course → ℕ
rate_of None c = 1
rate_of (Some d) c = max 1 (min (course_rate d c) d.fm)

-- a move to that rate has it
begun_rate : (s : Option RawData) (d : RawData) (c : Course) (target : ℤ) (m : Meaning) (zero : ℤ) → s ≡ Some d
    → (begun_in s (aim_for d (course_rate d c) target m zero)).rate ≡ rate_of s c
unfolding begun_in
begun_rate None d c target m zero e = cc
begun_rate (Some x) d c target m zero e =
    let same : x ≡ d = cc in
    ap (λ (y : RawData). max 1 (min (course_rate y c) x.fm)) (sym same)

-- and keeps it
ticked_rate : (s : Option RawData) (g : Going) → (ticked_in s g).rate ≡ g.rate
unfolding ticked_in
ticked_rate None g = refl
ticked_rate (Some d) g = refl

braked_rate : (s : Option RawData) (g : Going) → (braked_in s g).rate ≡ g.rate
unfolding braked_in
braked_rate None g = refl
braked_rate (Some d) g = refl

-- no block more
one_more : {A : Type 0} (bs : List Block) (b : Block) → bs ++ b ∷ [] ≡ [] → A
one_more [] b e = cc
one_more (x ∷ bs) b e = cc

either_none : (b : Bool) (bs : List Block) → cond b bs bs ≡ [] → bs ≡ []
either_none true bs e = e
either_none false bs e = e

-- THE AIM of a block: the target and the rate of its move, the latter that of its program, and those of a held program whose
-- target is unreached
module _ (target : ℤ) (rate : ℕ) where
  abbrev Has : Option RawData → ℤ → ℕ → Course → Type 0
  Has s x v c = (x ≡ target) × (v ≡ rate) × (v ≡ rate_of s c)

  abbrev Aimed : Option RawData → Phase → Type 0
  Aimed s standing = Unit {0}
  Aimed s (moving t) = Such (Has s t.target t.going.rate) t.course
  Aimed s (braking t) = Such (Has s t.target t.going.rate) t.course
  Aimed s (held c None) = Unit {0}
  Aimed s (held c (Some x)) = Has s x (rate_of s c) c
  Aimed s (between c) = Unit {0}

  -- a stop keeps it
  stopped_aimed : (s : Option RawData) (ph : Phase) → Aimed s ph → Aimed s (stopped ph)
  stopped_aimed s standing h = tt
  stopped_aimed s (moving t) h = h
  stopped_aimed s (braking t) h = h
  stopped_aimed s (held c u) h = h
  stopped_aimed s (between c) h = tt

  refused_aimed : (b : Bool) (s : Option RawData) (ph : Phase) → Aimed s ph → Aimed s (cond b (stopped ph) ph)
  refused_aimed true s ph h = stopped_aimed s ph h
  refused_aimed false s ph h = h

  -- a rate that is the same
  same_rate : (s : Option RawData) (x : ℤ) (v next : ℕ) (k : Option Course) → next ≡ v → Such (Has s x v) k → Such (Has s x next) k
  same_rate s x v next k e h = subst (λ (n : ℕ). Such (Has s x n) k) (sym e) h

  -- AN ORDER, which takes no block
  order_aimed : (r : Result Plan Cause) (o : Order) (p : Programs) (m : Meaning) (t : Status) (bs : List Block)
      → verdict o p m t ≡ r → (bs ≡ [] → Aimed t.machine t.work.phase)
      → cond (is_ok (answered o t.work.phase r)) (cond (names_program o) [] bs) bs ≡ []
      → Aimed (left o m t r).machine (left o m t r).work.phase
  order_aimed (Ok plan) o p m t bs e h =
      let none : names_program o ≡ false → cond (names_program o) [] bs ≡ [] → bs ≡ [] =
      λ n i. ap (λ (b : Bool). cond b [] bs) (sym n) ∙ i in
      accepted_by o p m t (λ v. cond (names_program o) [] bs ≡ [] → Aimed t.machine v.phase)
      (λ n f i. stopped_aimed t.machine t.work.phase (h (none n i))) (λ n f i. h (none n i))
      (λ v j k s i. subst (Aimed t.machine) (sym s) tt) (λ a j i. tt) (λ n d j y i. tt) (λ n f c j i. tt)
      (λ n f d j c x k i.
      same_rate t.machine x (rate_of t.machine c) _ (Some c) (begun_rate t.machine d c x m t.work.zero j)
      (subst (Aimed t.machine) k (h (none n i))))
      plan e
  order_aimed (Err cause) o p m t bs e h = λ i. refused_aimed _ t.machine t.work.phase (h i)

  -- A TICK

  -- a move that is complete leaves its program without one
  done_aimed : (s : Option RawData) (ends holds : Bool) (c : Course)
      → Aimed s (cond ends standing (cond holds (held c None) (between c)))
  done_aimed s true holds c = tt
  done_aimed s false true c = tt
  done_aimed s false false c = tt

  arrived_aimed : (s : Option RawData) (mode : ℕ) (k : Option Course) → Aimed s (after_move mode k)
  arrived_aimed s mode None = tt
  arrived_aimed s mode (Some c) = done_aimed s _ _ c

  -- one that has stopped short is held
  short_aimed : (s : Option RawData) (x : ℤ) (v : ℕ) (k : Option Course) → Such (Has s x v) k → Aimed s (stopped_short x k)
  short_aimed s x v None h = tt
  short_aimed s x v (Some c) h = (h.0, sym h.2 ∙ h.1, refl)

  -- a move under way or braked
  ran_aimed : (b : Bool) (s : Option RawData) (g : Going) (t : Travel) (count : ℤ) (w : Work) → g.rate ≡ t.going.rate
      → Such (Has s t.target t.going.rate) t.course → Aimed s (ran b g t count s w).phase
  ran_aimed true s g t count w e h = arrived_aimed s w.mode t.course
  ran_aimed false s g t count w e h = same_rate s t.target t.going.rate g.rate t.course e h

  slowed_aimed : (b : Bool) (s : Option RawData) (g : Going) (t : Travel) (count : ℤ) (w : Work) → g.rate ≡ t.going.rate
      → Such (Has s t.target t.going.rate) t.course → Aimed s (slowed b g t count s w).phase
  slowed_aimed true s g t count w e h = short_aimed s t.target t.going.rate t.course h
  slowed_aimed false s g t count w e h = same_rate s t.target t.going.rate g.rate t.course e h

  -- trouble ends it
  move_aimed : (x : Option Cause) (s : Option RawData) (t : Travel) (a next : AxisState) → Aimed s next.status.work.phase
      → Aimed s (unless_trouble x t a next).status.work.phase
  move_aimed None s t a next h = h
  move_aimed (Some cause) s t a next h = tt

  -- a block that is refused begins no move, and no other is left
  begun_aimed : (v : Result Aim Cause) (s : Option RawData) (c : Course) (b : Block) (w : Work) (bs : List Block)
      → cond (is_ok (begun_reply v c)) (bs ++ b ∷ []) bs ≡ [] → Aimed s (begun_with v s c w).phase
  begun_aimed (Ok aim) s c b w bs i = one_more bs b i
  begun_aimed (Err cause) s c b w bs i = tt

  block_aimed : (x : Option ℤ) (s : Option RawData) (c : Course) (b : Block) (m : Meaning) (w : Work) (bs : List Block)
      → cond (is_ok (block_reply x c m s w)) (bs ++ b ∷ []) bs ≡ [] → Aimed s (block_run x c m s w).phase
  block_aimed None s c b m w bs i = one_more bs b i
  block_aimed (Some x) s c b m w bs i = begun_aimed (block_verdict s c x m w) s c b w bs i

  next_aimed : (o : Option Block) (s : Option RawData) (c : Course) (m : Meaning) (w : Work) (bs : List Block)
      → cond (is_ok (next_reply o c m s w)) (with_block o bs) bs ≡ [] → Aimed s (next_run o c m s w).phase
  next_aimed None s c m w bs i = tt
  next_aimed (Some b) s c m w bs i = block_aimed b.target s (with_words b c) b m w bs i

  tick_aimed : (ph : Phase) (p : Programs) (a : AxisState) (bs : List Block) → a.status.work.phase ≡ ph
      → (bs ≡ [] → Aimed a.status.machine ph)
      → cond (is_ok (reply_at ph p a)) (with_block (block_to_come ph p) bs) bs ≡ []
      → Aimed a.status.machine (tick_at ph p a).status.work.phase
  tick_aimed standing p a bs e h i = subst (Aimed a.status.machine) (sym e) tt
  tick_aimed (moving t) p a bs e h i =
      let s = a.status.machine in
      let g = ticked_in s t.going in
      move_aimed (trouble_of t a) s t a (run_step g t a)
      (ran_aimed _ s g t (sent_on t g a.drive).count a.status.work (ticked_rate s t.going) (h (either_none _ bs i)))
  tick_aimed (braking t) p a bs e h i =
      let s = a.status.machine in
      let g = braked_in s t.going in
      move_aimed (trouble_of t a) s t a (slow_step g t a)
      (slowed_aimed _ s g t (sent_on t g a.drive).count a.status.work (braked_rate s t.going) (h (either_none _ bs i)))
  tick_aimed (held c u) p a bs e h i = subst (Aimed a.status.machine) (sym e) (h i)
  tick_aimed (between c) p a bs e h i = next_aimed (next_block p c) a.status.machine c a.drive a.status.work bs i

  -- AN ACT

  -- machine data that are entered or deleted end a program, those that are refused stay
  data_aimed : (x : Option Cause) (s : Option RawData) (zero : ℤ) (t : Status) → Aimed t.machine t.work.phase
      → Aimed (unless x t (with_data s (cleared zero t.work) t)).machine (unless x t (with_data s (cleared zero t.work) t)).work.phase
  data_aimed None s zero t h = tt
  data_aimed (Some c) s zero t h = h

  act_aimed : (act : Act) (p : Programs) (a : AxisState) (bs : List Block) → (bs ≡ [] → Aimed a.status.machine a.status.work.phase)
      → cond (is_ok (act_reply act p a)) (taken_after act p a.status.work.phase bs) bs ≡ []
      → Aimed (act_step act p a).status.machine (act_step act p a).status.work.phase
  act_aimed (entering d) p a bs h i = data_aimed (enter_no d a.status) (Some d) a.drive.count a.status (h (either_none _ bs i))
  act_aimed deleting p a bs h i = data_aimed (delete_no a.status) None a.status.work.zero a.status (h (either_none _ bs i))
  act_aimed (ordering o) p a bs h i = order_aimed (verdict o p a.drive a.status) o p a.drive a.status bs refl h i
  act_aimed (levelling begin end ready) p a bs h i = h i
  act_aimed ticking p a bs h i =
      let ph = a.status.work.phase in
      subst (λ (s : Option RawData). Aimed s (tick_at ph p a).status.work.phase) (sym (tick_data ph p a))
      (tick_aimed ph p a bs refl h i)

  run_aimed : (es : List Event) (a : AxisState) (bs : List Block) → (bs ≡ [] → Aimed a.status.machine a.status.work.phase)
      → blocks_taken a es bs ≡ [] → Aimed (after a es).status.machine (after a es).status.work.phase
  run_aimed [] a bs h i = h i
  run_aimed (e ∷ es) a bs h i = run_aimed es (step e a) (taken_next e a bs) (act_aimed e.act e.programs a bs h) i

  -- a move of a program has that aim
  has_aim : (s : Option RawData) (u : Travel) (k : Option Course) (d : Course) → k ≡ Some d → Such (Has s u.target u.going.rate) k
      → (u.target ≡ target) × (u.going.rate ≡ rate)
  has_aim s u None d e h = cc
  has_aim s u (Some c) d e h = (h.0, h.1)

  moves_to : (s : Option RawData) (ph : Phase) (u : Travel) (d : Course) → move_of ph ≡ Some u → u.course ≡ Some d → Aimed s ph
      → (u.target ≡ target) × (u.going.rate ≡ rate)
  moves_to s standing u d e i h = cc
  moves_to s (moving t) u d e i h =
      let same : t ≡ u = cc in
      has_aim s u u.course d i (subst (λ (x : Travel). Such (Has s x.target x.going.rate) x.course) same h)
  moves_to s (braking t) u d e i h =
      let same : t ≡ u = cc in
      has_aim s u u.course d i (subst (λ (x : Travel). Such (Has s x.target x.going.rate) x.course) same h)
  moves_to s (held c o) u d e i h = cc
  moves_to s (between c) u d e i h = cc

-- THE BLOCK that begins the move

-- gives it the rate of its program
block_rate : (s : Option RawData) (c : Course) (x : ℤ) (m : Meaning) (w : Work) (aim : Aim) → block_verdict s c x m w ≡ Ok aim
    → (begun_in s aim).rate ≡ rate_of s c
block_rate None c x m w aim e = cc
block_rate (Some d) c x m w aim e =
    let rate = course_rate d c in
    let target = block_target d c x w in
    let y = accepted (move_questions d rate target m w.zero w.referenced) (aim_for d rate target m w.zero) aim e in
    ap (λ (a : Aim). (begun_in (Some d) a).rate) (sym y.1) ∙ begun_rate (Some d) d c target m w.zero refl

-- of a phase that a tick between two blocks leaves: its move, if there is one, is of a program, at its rate
abbrev Begun : Option RawData → Phase → Type 0
Begun s standing = Unit {0}
Begun s (moving t) = Such (λ c. t.going.rate ≡ rate_of s c) t.course
Begun s (braking t) = Unit {0}
Begun s (held c u) = Unit {0}
Begun s (between c) = Unit {0}

begins_by : (v : Result Aim Cause) (s : Option RawData) (c : Course) (x : ℤ) (m : Meaning) (w : Work) → block_verdict s c x m w ≡ v
    → Begun s (begun_with v s c w).phase
begins_by (Ok aim) s c x m w e = block_rate s c x m w aim e
begins_by (Err cause) s c x m w e = tt

waits : (s : Option RawData) (ends holds : Bool) (c : Course) → Begun s (cond ends standing (cond holds (held c None) (between c)))
waits s true holds c = tt
waits s false true c = tt
waits s false false c = tt

block_begins : (x : Option ℤ) (s : Option RawData) (c : Course) (m : Meaning) (w : Work) → Begun s (block_run x c m s w).phase
block_begins None s c m w = waits s _ _ c
block_begins (Some x) s c m w = begins_by (block_verdict s c x m w) s c x m w refl

next_begins : (o : Option Block) (s : Option RawData) (c : Course) (m : Meaning) (w : Work) → Begun s (next_run o c m s w).phase
next_begins None s c m w = tt
next_begins (Some b) s c m w = block_begins b.target s (with_words b c) m w

begun_aim : (s : Option RawData) (t : Travel) (k : Option Course) → Such (λ c. t.going.rate ≡ rate_of s c) k
    → Such (Has t.target t.going.rate s t.target t.going.rate) k
begun_aim s t None h = tt
begun_aim s t (Some c) h = (refl, refl, h)

-- THE LAW
pub take_over : TakeOver
take_over a p c d t u later e f n g i =
    let b = tick_step p a in
    let s = a.status.machine in
    let h : Begun s (tick_at a.status.work.phase p a).status.work.phase =
    subst (λ (ph : Phase). Begun s (tick_at ph p a).status.work.phase) (sym e) (next_begins (next_block p c) s c a.drive a.status.work) in
    let now : Aimed t.target t.going.rate s b.status.work.phase =
    subst (Aimed t.target t.going.rate s) (sym f) (begun_aim s t t.course (subst (Begun s) f h)) in
    let same = tick_data a.status.work.phase p a in
    moves_to t.target t.going.rate (after b later).status.machine (after b later).status.work.phase u d g i
    (run_aimed t.target t.going.rate later b []
    (λ r. subst (λ (x : Option RawData). Aimed t.target t.going.rate x b.status.work.phase) (sym same) now) n)
