-- The state of one axis, as the rules speak of it.
use Rattle.std.specs.Prelude.{ℕ, Bool, true, false, ℤ, Some, None, Option, ◌==◌}
use Rattle.reader.specs.declared.block.Motion.{Motion}
use Rattle.reader.specs.declared.block.OffsetChoice.{OffsetChoice}
use Rattle.reader.specs.declared.block.Way.{Way}
use Rattle.drives.specs.Meaning.{Meaning}
use Rattle.motion.specs.declared.raw.RawData.{RawData}
use Rattle.motion.specs.Travel.{Going}
use Rattle.states.specs.declared.fault.AxisFault.{AxisFault}

-- a program that runs or is held: how many of its blocks are taken, the G groups and the feed that hold, the M of the last block taken
pub record Course : Type 0 where
  pub program : ℕ
  pub taken : ℕ
  pub motion : Motion
  pub offset : OffsetChoice
  pub way : Way
  pub feed : Option ℕ
  pub auxiliary : Option ℕ

-- a move: its start and target, its distance D in pulses, its ramp step and what is left, and the program whose block it is
pub record Travel : Type 0 where
  pub start : ℤ
  pub target : ℤ
  pub distance : ℤ
  pub going : Going
  pub course : Option Course

-- what the axis is doing; a held program may have a target that its block did not reach
pub data Phase : Type 0 where
  standing : Phase
  moving : Travel → Phase
  braking : Travel → Phase
  held : Course → Option ℤ → Phase
  between : Course → Phase

-- the working values: mode, M number shown, fault, the zero offset Z and the tool value T, coordinate, count at zero
pub record Work : Type 0 where
  pub mode : ℕ
  pub auxiliary : ℕ
  pub fault : Option AxisFault
  pub offset : ℤ
  pub tool : ℤ
  pub coordinate : ℤ
  pub zero : ℤ
  pub referenced : Bool
  pub in_position : Bool
  pub phase : Phase

-- all but the drive: the limit switches, the machine data, the working values
pub record Status : Type 0 where
  pub begin : Bool
  pub end : Bool
  pub machine : Option RawData
  pub work : Work

pub record AxisState : Type 0 where
  pub drive : Meaning
  pub status : Status

abbrev pub with_work : Work → Status → Status
with_work w s = record s { work = w }

abbrev pub with_fault : Option AxisFault → Work → Work
with_fault f w = record w { fault = f }

abbrev pub with_phase : Phase → Work → Work
with_phase p w = record w { phase = p }

-- an axis stands when it has neither a move nor a running program that is not held
abbrev pub stands : Phase → Bool
stands standing = true
stands (moving t) = false
stands (braking t) = false
stands (held c u) = true
stands (between c) = false

abbrev pub brakes : Phase → Bool
brakes standing = false
brakes (moving t) = false
brakes (braking t) = true
brakes (held c u) = false
brakes (between c) = false

-- the program that runs or is held
abbrev pub course_of : Phase → Option Course
course_of standing = None
course_of (moving t) = t.course
course_of (braking t) = t.course
course_of (held c u) = Some c
course_of (between c) = Some c

-- whether a program is the one that runs or is held
abbrev pub is_of : ℕ → Option Course → Bool
is_of n None = false
is_of n (Some c) = c.program == n

abbrev pub uses : ℕ → Phase → Bool
uses n p = is_of n (course_of p)

-- a stop: a move is braked, then its program held; with no move the program is held at once
abbrev pub stopped : Phase → Phase
stopped standing = standing
stopped (moving t) = braking t
stopped (braking t) = braking t
stopped (held c u) = held c u
stopped (between c) = held c None
