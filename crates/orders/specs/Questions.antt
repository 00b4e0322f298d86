-- The questions to an order, in their order, each with its fault; and what an accepted order does.
use Rattle.std.specs.Prelude.{ℕ, Bool, true, false, cond, not, ◌||◌, [], ◌∷◌, ℤ, pos, ◌+ℤ◌, ◌-ℤ◌, is_some, Some, None, Ok, Option, Result}
use Rattle.units.specs.declared.Measure.{Measure}
use Rattle.units.specs.declared.Measure.TheVariants.{Millimetre, Inch, Degree}
use Rattle.drives.specs.Meaning.{Meaning}
use Rattle.drives.specs.declared.fault.DriveFault.TheVariants.{NotReadyToMove}
use Rattle.motion.specs.declared.raw.RawData.{RawData}
use Rattle.motion.specs.Places.{rate_by}
use Rattle.store.specs.Programs.{Programs, found, measure_in}
use Rattle.states.specs.declared.order.Order.{Order}
use Rattle.states.specs.declared.fault.Cause.{Cause}
use Rattle.states.specs.declared.fault.Cause.TheVariants.{NoMachineData, UnknownMode, NotAdmitted, StillBraking, NotStanding, NotReferenced, ValueOutside, NotStored, OtherMeasure, NothingHeld, HeldNotStored, ShiftOutside, OfDrive}
use Rattle.states.specs.State.{Course, Phase, standing, moving, braking, held, between, Work, Status, stands, brakes}
use Rattle.states.specs.Asking.{Questions, ◌asks◌, lowest_of, highest_of, move_questions, aim_for}
use Rattle.states.specs.Courses.{course_rate}
use Rattle.states.specs.Shift.{own_shift}
use Rattle.orders.specs.declared.plan.Plan.{Plan}
use Rattle.orders.specs.declared.plan.Plan.TheVariants.{Halt, OnlyMode, OnlyClear, Zero, Go, Begin, Resume, Continue, NewOffset, NewTool}
use Rattle.states.specs.Mode.{mode_of}
use Rattle.states.specs.declared.mode.Mode.{Mode}
use Rattle.states.specs.declared.mode.Mode.TheVariants.{Jog, AxisOff, Reference, Position, Relative, Program, OffsetTo, OffsetBy, ClearOffset, ToolTo, ClearTool, ClearFault}
use Rattle.orders.specs.Modes.{admits, bare, needs_reference, values_fit, in_reach, stops, takes_over, goes_forward}

-- where a jog goes: as far as it may
abbrev pub jog_target : RawData → Order → Work → ℤ
jog_target d o w = cond (goes_forward o.command) (highest_of d w.referenced) (lowest_of d w.referenced)

-- to double word + shift; a held program is over by then, so that its offset does not count
abbrev pub position_target : Order → Work → ℤ
position_target o w = o.double +ℤ own_shift w

-- by the double word from the coordinate
abbrev pub relative_target : Order → Work → ℤ
relative_target o w = cond (goes_forward o.command) (w.coordinate +ℤ o.double) (w.coordinate -ℤ o.double)

abbrev pub same_measure : Measure → Measure → Bool
same_measure Millimetre Millimetre = true
same_measure Millimetre Inch = false
same_measure Millimetre Degree = false
same_measure Inch Millimetre = false
same_measure Inch Inch = true
same_measure Inch Degree = false
same_measure Degree Millimetre = false
same_measure Degree Inch = false
same_measure Degree Degree = true

abbrev pub has_measure : Measure → Option Measure → Bool
has_measure m None = false
has_measure m (Some k) = same_measure m k

abbrev pub measure_of : ℕ → Programs → Option Measure
measure_of n p = measure_in (found n p.stored)

-- 18 to 21 of an order's move at its speed
abbrev pub go_questions : RawData → Order → ℤ → Meaning → Work → Questions
go_questions d o target m w = move_questions d (rate_by d o.word) target m w.zero w.referenced

-- 14, 15
abbrev pub start_questions : RawData → Order → Programs → Questions
start_questions d o p =
    (is_some (measure_of o.byte p), NotStored)
    ∷ (has_measure d.measure (measure_of o.byte p), OtherMeasure)
    ∷ []

-- 21, only where a target is unfinished
abbrev pub unfinished_questions : Option ℤ → Meaning → Questions
unfinished_questions None m = []
unfinished_questions (Some target) m = (m.ready, OfDrive NotReadyToMove) ∷ []

-- 16, 17, 21
abbrev pub resume_questions : Programs → Meaning → Phase → Questions
resume_questions p m standing = (false, NothingHeld) ∷ []
resume_questions p m (moving t) = (false, NothingHeld) ∷ []
resume_questions p m (braking t) = (false, NothingHeld) ∷ []
resume_questions p m (held c u) = (is_some (measure_of c.program p), HeldNotStored) ∷ unfinished_questions u m
resume_questions p m (between c) = (false, NothingHeld) ∷ []

-- 22
abbrev pub shift_questions : ℤ → Questions
shift_questions z = (in_reach z, ShiftOutside) ∷ []

-- what a mode asks beyond what all do
abbrev pub mode_questions : Mode → Order → Programs → Meaning → RawData → Work → Questions
mode_questions (Jog j) o p m d w = go_questions d o (jog_target d o w) m w
mode_questions AxisOff o p m d w = []
mode_questions Reference o p m d w = []
mode_questions Position o p m d w = go_questions d o (position_target o w) m w
mode_questions Relative o p m d w = go_questions d o (relative_target o w) m w
mode_questions (Program k) o p m d w = cond (takes_over o.command) (resume_questions p m w.phase) (start_questions d o p)
mode_questions OffsetTo o p m d w = shift_questions o.double
mode_questions OffsetBy o p m d w = shift_questions (w.offset +ℤ o.double)
mode_questions ClearOffset o p m d w = shift_questions (pos 0)
mode_questions ToolTo o p m d w = shift_questions o.double
mode_questions ClearTool o p m d w = []
mode_questions ClearFault o p m d w = []

-- of a standing axis: 7, 12, 13 and the mode's own
abbrev pub standing_questions : Mode → Order → Programs → Meaning → Option RawData → Work → Questions
standing_questions mode o p m None w = (bare mode, NoMachineData) ∷ []
standing_questions mode o p m (Some d) w =
    (not (needs_reference mode) || w.referenced, NotReferenced)
    ∷ (values_fit mode o, ValueOutside)
    ∷ mode_questions mode o p m d w

-- of every order: 8, 9, 10; a stop is asked no more; 11
abbrev pub order_questions : Option Mode → Order → Programs → Meaning → Status → Questions
order_questions None o p m s = (false, UnknownMode) ∷ []
order_questions (Some mode) o p m s =
    (admits mode o.command, NotAdmitted)
    ∷ (not (brakes s.work.phase), StillBraking)
    ∷ cond (stops o.command) []
    ((stands s.work.phase, NotStanding) ∷ standing_questions mode o p m s.machine s.work)

abbrev pub go_plan : RawData → Order → ℤ → Meaning → Work → Plan
go_plan d o target m w = Go (aim_for d (rate_by d o.word) target m w.zero)

-- a held program goes on: to its unfinished target at the rate of its block, or to its next block
abbrev pub unfinished_plan : RawData → Course → Option ℤ → Meaning → ℤ → Plan
unfinished_plan d c None m zero = Continue
unfinished_plan d c (Some target) m zero = Resume (aim_for d (course_rate d c) target m zero)

abbrev pub resume_plan : RawData → Meaning → Phase → ℤ → Plan
resume_plan d m standing zero = Continue
resume_plan d m (moving t) zero = Continue
resume_plan d m (braking t) zero = Continue
resume_plan d m (held c u) zero = unfinished_plan d c u m zero
resume_plan d m (between c) zero = Continue

abbrev pub mode_plan : Mode → Order → Meaning → RawData → Work → Plan
mode_plan (Jog j) o m d w = go_plan d o (jog_target d o w) m w
mode_plan AxisOff o m d w = OnlyMode
mode_plan Reference o m d w = Zero
mode_plan Position o m d w = go_plan d o (position_target o w) m w
mode_plan Relative o m d w = go_plan d o (relative_target o w) m w
mode_plan (Program k) o m d w = cond (takes_over o.command) (resume_plan d m w.phase w.zero) (Begin o.byte)
mode_plan OffsetTo o m d w = NewOffset o.double
mode_plan OffsetBy o m d w = NewOffset (w.offset +ℤ o.double)
mode_plan ClearOffset o m d w = NewOffset (pos 0)
mode_plan ToolTo o m d w = NewTool o.double
mode_plan ClearTool o m d w = NewTool (pos 0)
mode_plan ClearFault o m d w = OnlyClear

-- without machine data only two modes do anything
abbrev pub bare_plan : Mode → Plan
bare_plan AxisOff = OnlyMode
bare_plan (Jog j) = OnlyClear
bare_plan Reference = OnlyClear
bare_plan Position = OnlyClear
bare_plan Relative = OnlyClear
bare_plan (Program k) = OnlyClear
bare_plan OffsetTo = OnlyClear
bare_plan OffsetBy = OnlyClear
bare_plan ClearOffset = OnlyClear
bare_plan ToolTo = OnlyClear
bare_plan ClearTool = OnlyClear
bare_plan ClearFault = OnlyClear

abbrev pub standing_plan : Mode → Order → Meaning → Option RawData → Work → Plan
standing_plan mode o m None w = bare_plan mode
standing_plan mode o m (Some d) w = mode_plan mode o m d w

abbrev pub plan_for : Option Mode → Order → Meaning → Status → Plan
plan_for None o m s = OnlyClear
plan_for (Some mode) o m s = cond (stops o.command) Halt (standing_plan mode o m s.machine s.work)

-- what an order is answered in a mode, if its number has one: the first no, else its plan
abbrev pub verdict_in : Option Mode → Order → Programs → Meaning → Status → Result Plan Cause
verdict_in mode o p m s = order_questions mode o p m s asks Ok (plan_for mode o m s)

abbrev pub verdict : Order → Programs → Meaning → Status → Result Plan Cause
verdict o p m s = verdict_in (mode_of o.mode) o p m s
