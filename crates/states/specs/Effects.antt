-- What orders and ticks share: how a move begins, and a fault with its program and block.
use Rattle.std.specs.Prelude.{ℕ, false, Some, None, Option}
use Rattle.motion.specs.declared.raw.RawData.{RawData}
use Rattle.states.specs.declared.aim.Aim.{Aim}
use Rattle.states.specs.declared.fault.Cause.{Cause}
use Rattle.states.specs.declared.fault.AxisFault.{AxisFault}
use Rattle.states.specs.State.{Course, Travel, moving, Work}
use Rattle.states.specs.Moves.{begun_in}

-- a move from where the axis is
abbrev pub travel_to : Option RawData → Aim → Option Course → Work → Travel
travel_to machine a c w = record { start = w.coordinate; target = a.target; distance = a.distance; going = begun_in machine a; course = c }

-- a new move clears in position
abbrev pub set_off : Option RawData → Aim → Option Course → Work → Work
set_off machine a c w = record w { in_position = false; phase = moving (travel_to machine a c w) }

-- a fault at a place: program and block
abbrev pub fault_at : ℕ → ℕ → Cause → AxisFault
fault_at program block cause = record { cause = cause; program = program; block = block }

-- a fault in a program that runs or is held, at the last block taken; without a program at none
abbrev pub fault_in : Option Course → Cause → AxisFault
fault_in None cause = fault_at 0 0 cause
fault_in (Some c) cause = fault_at c.program c.taken cause
