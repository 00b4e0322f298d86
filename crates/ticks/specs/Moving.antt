-- What a tick makes of a move: where the axis is, whether it arrives, and what stops it at once.
use Rattle.std.specs.Prelude.{ℕ, zero, suc, Bool, true, false, cond, ℤ, pos, negsuc, ◌-ℤ◌, Some, None, Option}
use Rattle.drives.specs.declared.fault.DriveFault.TheVariants.{NotReadyInMotion}
use Rattle.drives.specs.Meaning.{Meaning}
use Rattle.drives.specs.Sending.{sent}
use Rattle.motion.specs.declared.raw.RawData.{RawData}
use Rattle.motion.specs.Travel.{Going, passing}
use Rattle.states.specs.declared.fault.Cause.{Cause}
use Rattle.states.specs.declared.fault.Cause.TheVariants.{SwitchAhead, OfDrive}
use Rattle.states.specs.declared.fault.AxisFault.{AxisFault}
use Rattle.states.specs.State.{Course, Travel, Phase, standing, moving, braking, held, Work, Status, with_work}
use Rattle.states.specs.Moves.{placed_in, direction_of}
use Rattle.states.specs.Effects.{fault_in}
use Rattle.ticks.specs.Blocks.{done_with}

-- the switch ahead: the end switch of a move forward, the begin switch of one backward, none without pulses
abbrev pub is_ahead : ℤ → Bool → Bool → Bool
is_ahead (pos zero) begin end = false
is_ahead (pos (suc n)) begin end = end
is_ahead (negsuc n) begin end = begin

-- 24, then 23
abbrev pub trouble : ℤ → Bool → Bool → Bool → Option Cause
trouble distance ready begin end = cond ready (cond (is_ahead distance begin end) (Some SwitchAhead) None) (Some (OfDrive NotReadyInMotion))

-- where the axis is on its move, at a count of the drive
abbrev pub placed : Option RawData → Travel → ℤ → Work → ℤ
placed machine t count w = placed_in machine t.start t.target (count -ℤ w.zero)

abbrev pub with_going : Going → Travel → Travel
with_going g t = record { start = t.start; target = t.target; distance = t.distance; going = g; course = t.course }

-- at a coordinate, doing something
abbrev pub at : ℤ → Phase → Work → Work
at c p w = record { mode = w.mode; auxiliary = w.auxiliary; fault = w.fault; offset = w.offset; tool = w.tool; coordinate = c; zero = w.zero; referenced = w.referenced; in_position = w.in_position; phase = p }

-- a move is complete, and with it its block
abbrev pub after_move : ℕ → Option Course → Phase
after_move mode None = standing
after_move mode (Some c) = done_with mode true c

abbrev pub arrived : Travel → Work → Work
arrived t w = record { mode = w.mode; auxiliary = w.auxiliary; fault = w.fault; offset = w.offset; tool = w.tool; coordinate = t.target; zero = w.zero; referenced = w.referenced; in_position = true; phase = after_move w.mode t.course }

-- a move has stopped short: its program is held with the target unfinished
abbrev pub stopped_short : ℤ → Option Course → Phase
stopped_short target None = standing
stopped_short target (Some c) = held c (Some target)

-- after a tick of motion, and after a braking tick, that end the move or not
abbrev pub ran : Bool → Going → Travel → ℤ → Option RawData → Work → Work
ran true g t count machine w = arrived t w
ran false g t count machine w = at (placed machine t count w) (moving (with_going g t)) w

abbrev pub slowed : Bool → Going → Travel → ℤ → Option RawData → Work → Work
slowed true g t count machine w = at (placed machine t count w) (stopped_short t.target t.course) w
slowed false g t count machine w = at (placed machine t count w) (braking (with_going g t)) w

-- 23 and 24 stop the axis at once: it has stopped short, the reference is lost and the program is over
abbrev pub failed : AxisFault → ℤ → Work → Work
failed f c w = record { mode = w.mode; auxiliary = w.auxiliary; fault = Some f; offset = w.offset; tool = w.tool; coordinate = c; zero = w.zero; referenced = false; in_position = w.in_position; phase = standing }

abbrev pub fail_step : Cause → Travel → ℤ → Status → Status
fail_step cause t count s = with_work (failed (fault_in t.course cause) (placed s.machine t count s.work) s.work) s

-- a tick of a move sends one pulse for each whole million passed
abbrev pub sent_on : Travel → Going → Meaning → Meaning
sent_on t g m = sent (direction_of t.distance) (passing t.going g).pulses m
