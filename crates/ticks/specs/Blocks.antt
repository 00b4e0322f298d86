-- Taking the next block of a program, and what follows when it is done.
use Rattle.std.specs.Prelude.{◌≡◌, ℕ, ◌+◌, Bool, false, cond, ◌&&◌, ◌||◌, ℤ, ◌+ℤ◌, Some, None, Ok, Err, Option, Result, ◌==◌}
use Rattle.std.specs.Option.{unwrap_or, option_or}
use Rattle.reader.specs.declared.block.Block.{Block}
use Rattle.reader.specs.declared.block.Way.{Way}
use Rattle.reader.specs.declared.block.Way.TheVariants.{Absolute, Relative}
use Rattle.drives.specs.Meaning.{Meaning}
use Rattle.motion.specs.declared.raw.RawData.{RawData}
use Rattle.store.specs.Programs.{Programs, found, block_in}
use Rattle.reader.specs.Words.{ends_by}
use Rattle.states.specs.declared.aim.Aim.{Aim}
use Rattle.states.specs.declared.fault.Cause.{Cause}
use Rattle.states.specs.declared.fault.Cause.TheVariants.{NoMachineData}
use Rattle.states.specs.declared.fault.AxisFault.{AxisFault}
use Rattle.states.specs.State.{Course, Phase, standing, held, between, Work, Status, with_work, with_fault, with_phase}
use Rattle.states.specs.Asking.{move_verdict}
use Rattle.states.specs.Courses.{course_rate}
use Rattle.states.specs.Shift.{own_shift, offset_by}
use Rattle.states.specs.Effects.{set_off, fault_in}

-- the block's words take effect; what it does not say stays, but for its M
abbrev pub with_words : Block → Course → Course
with_words b c = record {
  program = c.program;
  taken = c.taken + 1;
  motion = unwrap_or b.motion c.motion;
  offset = unwrap_or b.offset c.offset;
  way = unwrap_or b.way c.way;
  feed = option_or b.feed c.feed;
  auxiliary = b.auxiliary;
}

-- M00 holds
abbrev pub holds_by : Option ℕ → Bool
holds_by None = false
holds_by (Some m) = m == 0

-- a block is done: M02 and M30 end the program, M00 holds it, and so does a move in mode 9; else the next tick takes a block
abbrev pub done_with : ℕ → Bool → Course → Phase
done_with mode moved c =
    cond (ends_by c.auxiliary) standing (cond (holds_by c.auxiliary || (moved && mode == 9)) (held c None) (between c))

-- under G90 X + shift, under G91 a distance from the coordinate
abbrev pub target_under : Way → RawData → Course → ℤ → ℤ → ℤ → ℤ
target_under Absolute d c x shift coordinate = x +ℤ (shift +ℤ offset_by d c.offset)
target_under Relative d c x shift coordinate = coordinate +ℤ x

abbrev pub block_target : RawData → Course → ℤ → Work → ℤ
block_target d c x w = target_under c.way d c x (own_shift w) w.coordinate

-- 18 to 21 of a block with X
abbrev pub target_verdict : RawData → Course → ℤ → Meaning → Work → Result Aim Cause
target_verdict d c x m w = move_verdict d (course_rate d c) (block_target d c x w) m w.zero w.referenced

-- a program runs with machine data only
abbrev pub block_verdict : Option RawData → Course → ℤ → Meaning → Work → Result Aim Cause
block_verdict None c x m w = Err NoMachineData
block_verdict (Some d) c x m w = target_verdict d c x m w

-- the M of a block shows from the tick that takes it
abbrev pub showing : Course → Work → Work
showing c w = record { mode = w.mode; auxiliary = unwrap_or c.auxiliary w.auxiliary; fault = w.fault; offset = w.offset; tool = w.tool; coordinate = w.coordinate; zero = w.zero; referenced = w.referenced; in_position = w.in_position; phase = w.phase }

-- a block that is refused ends the program, at its own place
abbrev pub block_refused : AxisFault → Work → Work
block_refused f w = with_fault (Some f) (with_phase standing w)

abbrev pub begun_with : Result Aim Cause → Option RawData → Course → Work → Work
begun_with (Ok aim) machine c w = set_off machine aim (Some c) (showing c w)
begun_with (Err cause) machine c w = block_refused (fault_in (Some c) cause) w

abbrev pub begun_reply : Result Aim Cause → Course → Result (Unit {0}) AxisFault
begun_reply (Ok aim) c = Ok tt
begun_reply (Err cause) c = Err (fault_in (Some c) cause)

-- a block with its words, with or without X
abbrev pub block_run : Option ℤ → Course → Meaning → Option RawData → Work → Work
block_run None c m machine w = with_phase (done_with w.mode false c) (showing c w)
block_run (Some x) c m machine w = begun_with (block_verdict machine c x m w) machine c w

abbrev pub block_reply : Option ℤ → Course → Meaning → Option RawData → Work → Result (Unit {0}) AxisFault
block_reply None c m machine w = Ok tt
block_reply (Some x) c m machine w = begun_reply (block_verdict machine c x m w) c

-- a block begins: whatever the axis was doing, it then does what the block says
abbrev pub Begins : Option ℤ → Course → Meaning → Status → Status → Type 0
Begins x c m s t = (p : Phase) → t ≡ with_work (block_run x c m s.machine (with_phase p s.work)) s

abbrev pub begin_reply : Option ℤ → Course → Meaning → Status → Result (Unit {0}) AxisFault
begin_reply x c m s = block_reply x c m s.machine s.work

-- the next block of a program; a program that has none left is over
abbrev pub next_run : Option Block → Course → Meaning → Option RawData → Work → Work
next_run None c m machine w = with_phase standing w
next_run (Some b) c m machine w = block_run b.target (with_words b c) m machine w

abbrev pub next_reply : Option Block → Course → Meaning → Option RawData → Work → Result (Unit {0}) AxisFault
next_reply None c m machine w = Ok tt
next_reply (Some b) c m machine w = block_reply b.target (with_words b c) m machine w

abbrev pub next_block : Programs → Course → Option Block
next_block p c = block_in (found c.program p.stored) c.taken

-- a program that takes its next block, if one is left
abbrev pub with_next : Option Block → Course → Course
with_next None c = c
with_next (Some b) c = with_words b c

abbrev pub next_course : Programs → Course → Course
next_course p c = with_next (next_block p c) c

abbrev pub take_step : Programs → Course → Meaning → Status → Status
take_step p c m s = with_work (next_run (next_block p c) c m s.machine s.work) s

abbrev pub take_reply : Programs → Course → Meaning → Status → Result (Unit {0}) AxisFault
take_reply p c m s = next_reply (next_block p c) c m s.machine s.work
