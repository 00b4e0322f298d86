-- What an accepted order makes of an axis, and what a refused one does.
use Rattle.std.specs.Prelude.{ℕ, true, cond, ℤ, ◌-ℤ◌, Some, None, Option, ◌==◌}
use Rattle.drives.specs.Meaning.{Meaning}
use Rattle.motion.specs.declared.raw.RawData.{RawData}
use Rattle.motion.specs.Places.{pulses_by}
use Rattle.states.specs.declared.fault.AxisFault.{AxisFault}
use Rattle.states.specs.Faults.{cause_number}
use Rattle.states.specs.State.{Phase, standing, moving, braking, held, between, Work, Status, with_work, with_fault, with_phase, course_of, stopped}
use Rattle.states.specs.Courses.{opening}
use Rattle.states.specs.Effects.{set_off}
use Rattle.orders.specs.declared.plan.Plan.{Plan}
use Rattle.orders.specs.declared.plan.Plan.TheVariants.{Halt, OnlyMode, OnlyClear, Zero, Go, Begin, Resume, Continue, NewOffset, NewTool}

-- an accepted order other than stop, take-over and 17: a held program is over, the mode is the order's, M is 2, no fault
abbrev pub taken : ℕ → Work → Work
taken mode w = record { mode = mode; auxiliary = 2; fault = None; offset = w.offset; tool = w.tool; coordinate = w.coordinate; zero = w.zero; referenced = w.referenced; in_position = w.in_position; phase = standing }

-- an accepted take-over keeps the program and its M
abbrev pub taken_over : ℕ → Work → Work
taken_over mode w = record { mode = mode; auxiliary = w.auxiliary; fault = None; offset = w.offset; tool = w.tool; coordinate = w.coordinate; zero = w.zero; referenced = w.referenced; in_position = w.in_position; phase = w.phase }

-- referencing, a zeroing: the coordinate becomes the reference coordinate, and n its pulses
abbrev pub zeroed : Option RawData → Meaning → Work → Work
zeroed None m w = w
zeroed (Some d) m w = record { mode = w.mode; auxiliary = w.auxiliary; fault = w.fault; offset = w.offset; tool = w.tool; coordinate = d.reference; zero = m.count -ℤ pulses_by d d.reference; referenced = true; in_position = true; phase = w.phase }

abbrev pub with_offset : ℤ → Work → Work
with_offset z w = record { mode = w.mode; auxiliary = w.auxiliary; fault = w.fault; offset = z; tool = w.tool; coordinate = w.coordinate; zero = w.zero; referenced = w.referenced; in_position = w.in_position; phase = w.phase }

abbrev pub with_tool : ℤ → Work → Work
with_tool t w = record { mode = w.mode; auxiliary = w.auxiliary; fault = w.fault; offset = w.offset; tool = t; coordinate = w.coordinate; zero = w.zero; referenced = w.referenced; in_position = w.in_position; phase = w.phase }

-- the next tick takes a block of the program that was held
abbrev pub gone_on : Phase → Phase
gone_on standing = standing
gone_on (moving t) = moving t
gone_on (braking t) = braking t
gone_on (held c u) = between c
gone_on (between c) = between c

-- a stop: braking or the hold, and no fault
abbrev pub halted : Work → Work
halted w = with_fault None (with_phase (stopped w.phase) w)

abbrev pub carried_out : ℕ → Plan → Meaning → Option RawData → Work → Work
carried_out mode Halt m machine w = halted w
carried_out mode OnlyMode m machine w = taken mode w
carried_out mode OnlyClear m machine w = with_fault None w
carried_out mode Zero m machine w = zeroed machine m (taken mode w)
carried_out mode (Go a) m machine w = set_off machine a None (taken mode w)
carried_out mode (Begin n) m machine w = with_phase (between (opening n)) (taken mode w)
carried_out mode (Resume a) m machine w = set_off machine a (course_of w.phase) (taken_over mode w)
carried_out mode Continue m machine w = with_phase (gone_on w.phase) (taken_over mode w)
carried_out mode (NewOffset z) m machine w = with_offset z (taken mode w)
carried_out mode (NewTool t) m machine w = with_tool t (taken mode w)

abbrev pub carried : ℕ → Plan → Meaning → Status → Status
carried mode plan m s = with_work (carried_out mode plan m s.machine s.work) s

-- a refused order becomes the fault; 11 also acts as a stop
abbrev pub stopped_by : AxisFault → Phase → Phase
stopped_by f p = cond (cause_number f.cause == 11) (stopped p) p

abbrev pub refused_by : AxisFault → Work → Work
refused_by f w = with_fault (Some f) (with_phase (stopped_by f w.phase) w)

abbrev pub refused : AxisFault → Status → Status
refused f s = with_work (refused_by f s.work) s
