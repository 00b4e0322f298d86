-- A tick leaves the machine data, Z, T and the count at zero, and the reference unless it is answered 23 or 24.
use Rattle.std.proofs.Common.{◌≡◌, Bool, true, false, cond, ◌||◌, eqb, ℤ, [], ◌∷◌, Some, None, Ok, Err, Option, Result, refl, ap, ◌∙◌, sym}
use Rattle.drives.specs.Meaning.{Meaning}
use Rattle.drives.specs.declared.fault.DriveFault.TheVariants.{NotReadyInMotion}
use Rattle.reader.specs.declared.block.Block.{Block}
use Rattle.motion.specs.declared.raw.RawData.{RawData}
use Rattle.motion.specs.Travel.{Going}
use Rattle.store.specs.Programs.{Programs}
use Rattle.states.specs.declared.aim.Aim.{Aim}
use Rattle.states.specs.declared.fault.Cause.{Cause}
use Rattle.states.specs.declared.fault.Cause.TheVariants.{NoMachineData, SwitchAhead, OfDrive}
use Rattle.states.specs.declared.fault.AxisFault.{AxisFault}
use Rattle.states.specs.Faults.{cause_number}
use Rattle.states.specs.State.{Course, Travel, Phase, standing, moving, braking, held, between, Work, AxisState}
use Rattle.states.specs.Asking.{Questions, ◌asks◌, aim_for, move_questions}
use Rattle.states.specs.Moves.{ticked_in, braked_in}
use Rattle.states.specs.Courses.{course_rate}
use Rattle.states.specs.Effects.{fault_in}
use Rattle.ticks.specs.Blocks.{with_words, block_target, block_verdict, begun_with, begun_reply, block_run, block_reply, next_run, next_reply, next_block}
use Rattle.ticks.specs.Moving.{ran, slowed, sent_on, is_ahead}
use Rattle.ticks.specs.Ticks.{trouble_of, unless_trouble, trouble_reply, run_step, slow_step, tick_at, reply_at}
use Rattle.laws.specs.Reckoned.{loses}
use Rattle.laws.proofs.OrderValues.{Same}

-- a cause that loses the reference
abbrev loss : Cause → Bool
loss c = eqb (cause_number c) 23 || eqb (cause_number c) 24

-- a fault has its cause wherever it is
place_loses : (c : Option Course) (cause : Cause) → loses (Err (fault_in c cause)) ≡ loss cause
place_loses None cause = refl
place_loses (Some c) cause = refl

-- Z, T and the count at zero stay, and the reference unless it is lost
abbrev pub Leaves : Result (Unit {0}) AxisFault → Work → Work → Type 0
Leaves r w v =
    (v.offset ≡ w.offset)
    × (v.tool ≡ w.tool)
    × (v.zero ≡ w.zero)
    × (v.referenced ≡ cond (loses r) false w.referenced)

-- a tick of a move
ran_same : (b : Bool) (g : Going) (t : Travel) (c : ℤ) (o : Option RawData) (w : Work) → Same w (ran b g t c o w)
ran_same true g t c o w = (refl, refl, refl, refl)
ran_same false g t c o w = (refl, refl, refl, refl)

-- one of a braked move
slowed_same : (b : Bool) (g : Going) (t : Travel) (c : ℤ) (o : Option RawData) (w : Work) → Same w (slowed b g t c o w)
slowed_same true g t c o w = (refl, refl, refl, refl)
slowed_same false g t c o w = (refl, refl, refl, refl)

-- the trouble of a move is 24 or 23
trouble_lost : (ready ahead : Bool) (c : Cause)
    → cond ready (cond ahead (Some SwitchAhead) None) (Some (OfDrive NotReadyInMotion)) ≡ Some c → loss c ≡ true
trouble_lost true true c e = let i : SwitchAhead ≡ c = cc in ap loss (sym i)
trouble_lost true false c e = cc
trouble_lost false ahead c e = let i : OfDrive NotReadyInMotion ≡ c = cc in ap loss (sym i)

-- a tick of either kind, with trouble or without
unless_leaves : (o : Option Cause) (t : Travel) (a next : AxisState) → trouble_of t a ≡ o → Same a.status.work next.status.work
    → Leaves (trouble_reply o t) a.status.work (unless_trouble o t a next).status.work
unless_leaves None t a next e s = s
unless_leaves (Some c) t a next e s =
    let l = place_loses t.course c ∙ trouble_lost a.drive.ready (is_ahead t.distance a.status.begin a.status.end) c e in
    (refl, refl, refl, ap (λ (b : Bool). cond b false a.status.work.referenced) (sym l))

-- questions of which no answer loses the reference
abbrev Harmless : Questions → Type 0
Harmless [] = Unit {0}
Harmless (q ∷ qs) = (loss q.1 ≡ false) × Harmless qs

-- their first no does not
asked_on : (b : Bool) (q : Cause) (qs : Questions) (aim : Aim) (c : Cause) → loss q ≡ false
    → (qs asks Ok aim ≡ Err c → loss c ≡ false) → cond b (qs asks Ok aim) (Err q) ≡ Err c → loss c ≡ false
asked_on true q qs aim c l f e = f e
asked_on false q qs aim c l f e = let i : q ≡ c = cc in ap loss (sym i) ∙ l

asked_harmless : (qs : Questions) (aim : Aim) (c : Cause) → Harmless qs → qs asks Ok aim ≡ Err c → loss c ≡ false
asked_harmless [] aim c h e = cc
asked_harmless (q ∷ qs) aim c h e = asked_on q.0 q.1 qs aim c h.0 (asked_harmless qs aim c h.1) e

-- those of a block, with machine data and without
block_harmless : (o : Option RawData) (c : Course) (x : ℤ) (m : Meaning) (w : Work) (cause : Cause)
    → block_verdict o c x m w ≡ Err cause → loss cause ≡ false
block_harmless None c x m w cause e = let i : NoMachineData ≡ cause = cc in ap loss (sym i)
block_harmless (Some d) c x m w cause e =
    let rate = course_rate d c in
    let target = block_target d c x w in
    asked_harmless (move_questions d rate target m w.zero w.referenced) (aim_for d rate target m w.zero) cause
    (refl, (refl, (refl, (refl, tt)))) e

-- a tick that takes a block
begun_leaves : (v : Result Aim Cause) (o : Option RawData) (c : Course) (x : ℤ) (m : Meaning) (w : Work)
    → block_verdict o c x m w ≡ v → Leaves (begun_reply v c) w (begun_with v o c w)
begun_leaves (Ok aim) o c x m w e = (refl, refl, refl, refl)
begun_leaves (Err cause) o c x m w e =
    (refl, refl, refl, ap (λ (b : Bool). cond b false w.referenced) (sym (block_harmless o c x m w cause e)))

-- with X or without
block_leaves : (x : Option ℤ) (c : Course) (m : Meaning) (o : Option RawData) (w : Work)
    → Leaves (block_reply x c m o w) w (block_run x c m o w)
block_leaves None c m o w = (refl, refl, refl, refl)
block_leaves (Some x) c m o w = begun_leaves (block_verdict o c x m w) o c x m w refl

-- with a block left or without
next_leaves : (b : Option Block) (c : Course) (m : Meaning) (o : Option RawData) (w : Work)
    → Leaves (next_reply b c m o w) w (next_run b c m o w)
next_leaves None c m o w = (refl, refl, refl, refl)
next_leaves (Some b) c m o w = block_leaves b.target (with_words b c) m o w

-- every tick
pub tick_leaves : (ph : Phase) (p : Programs) (a : AxisState)
    → Leaves (reply_at ph p a) a.status.work (tick_at ph p a).status.work
tick_leaves standing p a = (refl, refl, refl, refl)
tick_leaves (moving t) p a =
    let g = ticked_in a.status.machine t.going in
    unless_leaves (trouble_of t a) t a (run_step g t a) refl
    (ran_same (eqb g.step 0) g t (sent_on t g a.drive).count a.status.machine a.status.work)
tick_leaves (braking t) p a =
    let g = braked_in a.status.machine t.going in
    unless_leaves (trouble_of t a) t a (slow_step g t a) refl
    (slowed_same (eqb g.step 0) g t (sent_on t g a.drive).count a.status.machine a.status.work)
tick_leaves (held c u) p a = (refl, refl, refl, refl)
tick_leaves (between c) p a = next_leaves (next_block p c) c a.drive a.status.machine a.status.work

-- machine data: trouble or not
unless_data : (o : Option Cause) (t : Travel) (a next : AxisState) → next.status.machine ≡ a.status.machine
    → (unless_trouble o t a next).status.machine ≡ a.status.machine
unless_data None t a next e = e
unless_data (Some c) t a next e = refl

-- every tick leaves them
pub tick_data : (ph : Phase) (p : Programs) (a : AxisState) → (tick_at ph p a).status.machine ≡ a.status.machine
tick_data standing p a = refl
tick_data (moving t) p a = unless_data (trouble_of t a) t a (run_step (ticked_in a.status.machine t.going) t a) refl
tick_data (braking t) p a = unless_data (trouble_of t a) t a (slow_step (braked_in a.status.machine t.going) t a) refl
tick_data (held c u) p a = refl
tick_data (between c) p a = refl
