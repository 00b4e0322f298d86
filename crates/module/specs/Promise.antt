-- What a run of calls on a new module promises.
use Rattle.std.specs.Prelude.{◌≡◌, ◌⊎◌, ℕ, ◌≤◌, max, true, false, List, [], ◌∷◌, ◌++◌, ℤ, pos, ◌+ℤ◌, ◌-ℤ◌, map, vec_items, is_some, Some, None, Ok, Err, Option, Result}
use Rattle.drives.specs.Meaning.{Meaning, Sound}
use Rattle.motion.specs.declared.raw.RawData.{RawData}
use Rattle.motion.specs.Laws.{Near}
use Rattle.states.specs.declared.order.Order.{Order}
use Rattle.states.specs.declared.fault.AxisFault.{AxisFault}
use Rattle.states.specs.State.{Course, Phase, course_of}
use Rattle.states.specs.Observation.{Shown, observed}
use Rattle.orders.specs.Modes.{stops, runs_programs}
use Rattle.laws.specs.Kept.{InLimits}
use Rattle.laws.specs.Laws.{TakenIn, step_of, stands_in, rest_of, RestsIn}
use Rattle.laws.specs.Stopped.{brakes_or_unfinished}
use Rattle.module.specs.declared.call.Act.TheVariants as act
use Rattle.module.specs.declared.call.Call.{Call}
use Rattle.module.specs.declared.call.Call.TheVariants.{OnAxis}
use Rattle.module.specs.declared.three.Drives.{Drives}
use Rattle.module.specs.declared.three.NotMade.{NotMade}
use Rattle.module.specs.declared.runs.Ran.{Ran}
use Rattle.module.specs.Machine.{Reply, done, new_machine, step, reply, after, replies}
use Rattle.module.specs.Replies.{reply_by}
use Rattle.module.specs.History.{Which, number, axis_at, PastAct, history, data_in, program_in, zero_in, offset_in, tool_in, reference_in, stop_in, ticks_of}
use Rattle.module.specs.Given.{accepted, sets_offset, adds_offset, sets_tool, adds_tool, LastAndAfter}
use Rattle.module.specs.InUse.{ProgramsInUse}
use Rattle.module.specs.Blocks.{blocks_in, ProgramBlocks}
use Rattle.module.specs.State.{Machine}

-- EXACT: the replies, and the drives after the calls, are the machine's
pub record Exact (x y z : Meaning) (calls : List Call) (answers : List Reply) (x′ y′ z′ : Meaning) : Type 0 where
  pub replies : answers ≡ replies (new_machine x y z) calls
  pub first : x′ ≡ (after (new_machine x y z) calls).first.drive
  pub second : y′ ≡ (after (new_machine x y z) calls).second.drive
  pub third : z′ ≡ (after (new_machine x y z) calls).third.drive

-- NO DRIFT: of one axis, from a machine s

-- what observing the axis answers after the calls
abbrev pub shows : Which → Machine → List Call → Shown AxisFault
shows w s calls = observed (axis_at w (after s calls)).status

abbrev pub count : Which → Machine → List Call → ℤ
count w s calls = (axis_at w (after s calls)).drive.count

-- with machine data, the pulses from the zero that the last zeroing set and the coordinate lie within half a unit or half a
-- pulse of each other, whichever is more
abbrev pub DriftBound : Which → Machine → List Call → List PastAct → Type 0
DriftBound w s calls hs = (d : RawData) → data_in hs None ≡ Some d
    → Near d.units d.pulses (count w s calls -ℤ zero_in hs None (pos 0)) (shows w s calls).coordinate

-- with no program running or held, the shift is what the accepted orders gave: Z and T, each the last value that an accepted
-- act set and what was added to it after that
abbrev pub ShiftLaw : Which → Machine → List Call → List PastAct → Type 0
ShiftLaw w s calls hs = course_of (axis_at w (after s calls)).status.work.phase ≡ None
    → (shows w s calls).shift ≡ offset_in hs (pos 0) +ℤ tool_in hs (pos 0)

-- and so it is where by the calls no program runs or is held
abbrev pub ShiftByCalls : Which → Machine → List Call → List PastAct → Type 0
ShiftByCalls w s calls hs = program_in hs None ≡ None → (shows w s calls).shift ≡ offset_in hs (pos 0) +ℤ tool_in hs (pos 0)

-- with a reference, the coordinate is within the limits
abbrev pub LimitsLaw : Which → Machine → List Call → List PastAct → Type 0
LimitsLaw w s calls hs = (d : RawData) → data_in hs None ≡ Some d → reference_in hs false ≡ true → InLimits d (shows w s calls).coordinate

-- there are no calls, or the last of them is a tick of the axis
abbrev pub EndsInTick : Which → List Call → Type 0
EndsInTick w calls = (calls ≡ []) ⊎ ((front : List Call) × (calls ≡ front ++ OnAxis (number w) act.Tick ∷ []))

-- once the calls that follow have n ticks of the axis, some front of them with at most n, that is empty or ends in such a
-- tick, leaves it standing, at rest in p
abbrev pub StandsWithin : Which → ℕ → Phase → Machine → List Call → Type 0
StandsWithin w n p s later = n ≤ ticks_of w later
    → (soon : List Call) × (rest : List Call) × (later ≡ soon ++ rest) × (ticks_of w soon ≤ n)
    × (stands_in (axis_at w (after s soon)) ≡ true) × RestsIn p (axis_at w (after s soon)) × EndsInTick w soon

-- wherever the calls are split at an accepted stop of the axis, with r the ramp step of its move before it, it stands within
-- max(r, 1) ticks, whatever calls come between, and holds the program that ran, unless 23 or 24 has taken the reference
abbrev pub StopLaw : Which → Machine → List Call → Type 0
StopLaw w s calls = (before later : List Call) (o : Order)
    → calls ≡ before ++ (OnAxis (number w) (act.Order o) ∷ later) → stops o.command ≡ true
    → reply (OnAxis (number w) (act.Order o)) (after s before) ≡ done
    → StandsWithin w (max (step_of (axis_at w (after s before))) 1) (rest_of (axis_at w (after s before)).status.work.phase)
    (step (OnAxis (number w) (act.Order o)) (after s before)) later

-- the drive takes every pulse that a next tick asks of it
abbrev pub PulsesTaken : Which → Machine → List Call → Type 0
PulsesTaken w s calls = TakenIn (axis_at w (after s calls)).status.work.phase (axis_at w (after s calls))

pub record NoDrift (w : Which) (s : Machine) (calls : List Call) (hs : List PastAct) : Type 0 where
  pub drift : DriftBound w s calls hs
  pub shift : ShiftLaw w s calls hs
  pub shift_by_calls : ShiftByCalls w s calls hs
  pub offset : LastAndAfter sets_offset adds_offset (accepted hs) (offset_in hs (pos 0))
  pub tool : LastAndAfter sets_tool adds_tool (accepted hs) (tool_in hs (pos 0))
  pub limits : LimitsLaw w s calls hs
  pub stop : StopLaw w s calls
  pub taken : PulsesTaken w s calls

-- THE PROGRAM of one axis

abbrev pub course : Which → Machine → List Call → Option Course
course w s calls = course_of (axis_at w (after s calls)).status.work.phase

-- a program runs or is held only after an accepted start that named it, with nothing since that ends it
abbrev pub StartedLaw : Which → Machine → List Call → List PastAct → Type 0
StartedLaw w s calls hs = (c : Course) → course w s calls ≡ Some c → program_in hs None ≡ Some c.program

-- outside modes 8 and 9 the M number is 2, and no program runs or is held
abbrev pub QuietLaw : Which → Machine → List Call → Type 0
QuietLaw w s calls = runs_programs (shows w s calls).mode ≡ false
    → ((shows w s calls).auxiliary ≡ 2) × (course w s calls ≡ None)

-- a program that runs or is held has a reference
abbrev pub ReferencedLaw : Which → Machine → List Call → List PastAct → Type 0
ReferencedLaw w s calls hs = is_some (course w s calls) ≡ true → reference_in hs false ≡ true

-- a move is braked, and a program held before the target of its block, only after a stop
abbrev pub StoppedLaw : Which → Machine → List Call → List PastAct → Type 0
StoppedLaw w s calls hs = brakes_or_unfinished (axis_at w (after s calls)).status.work.phase ≡ true → stop_in hs false ≡ true

pub record ProgramLaw (w : Which) (s : Machine) (calls : List Call) (hs : List PastAct) : Type 0 where
  pub started : StartedLaw w s calls hs
  pub quiet : QuietLaw w s calls
  pub referenced : ReferencedLaw w s calls hs
  pub stopped : StoppedLaw w s calls hs

-- THE PROMISE
pub record Promise (x y z : Meaning) (calls : List Call) (answers : List Reply) (x′ y′ z′ : Meaning) : Type 0 where
  pub exact : Exact x y z calls answers x′ y′ z′
  pub no_drift : (w : Which) → NoDrift w (new_machine x y z) calls (history w (new_machine x y z) calls answers)
  pub in_use : ProgramsInUse x y z calls
  pub program : (w : Which) → ProgramLaw w (new_machine x y z) calls (history w (new_machine x y z) calls answers)
  pub blocks : (w : Which) → ProgramBlocks w (after (new_machine x y z) calls) (blocks_in w (new_machine x y z) calls [])

-- from any module that calls have reached: a call, with what it is answered and what it leaves, keeps the promise of the calls
-- before it
abbrev pub GoesOn : Call → Reply → Machine → Machine → Type 0
GoesOn c answer s t = (x y z : Meaning) → Sound x → Sound y → Sound z → (before : List Call)
    → s ≡ after (new_machine x y z) before
    → Promise x y z (before ++ (c ∷ [])) (replies (new_machine x y z) before ++ (answer ∷ []))
    t.first.drive t.second.drive t.third.drive

-- a run keeps the promise; without memory the drives come back as they were
abbrev pub Answered : {X Y Z : Type 0} → (X → Meaning) → (Y → Meaning) → (Z → Meaning) → Drives X Y Z → List Call → Result (Ran X Y Z) (NotMade X Y Z) → Type 0
Answered mx my mz drives calls (Ok ran) =
    Promise (mx drives.first) (my drives.second) (mz drives.third) calls (map reply_by (vec_items ran.replies))
    (mx ran.drives.first) (my ran.drives.second) (mz ran.drives.third)
Answered mx my mz drives calls (Err n) = n.drives ≡ drives
