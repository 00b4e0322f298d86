-- A tick of one axis.
use Rattle.std.specs.Prelude.{Some, None, Ok, Err, Option, Result, ◌==◌}
use Rattle.drives.specs.Meaning.{Meaning}
use Rattle.motion.specs.Travel.{Going}
use Rattle.store.specs.Programs.{Programs}
use Rattle.states.specs.declared.fault.Cause.{Cause}
use Rattle.states.specs.declared.fault.AxisFault.{AxisFault}
use Rattle.states.specs.State.{Travel, Phase, standing, moving, braking, held, between, Status, AxisState, with_work}
use Rattle.states.specs.Moves.{ticked_in, braked_in}
use Rattle.states.specs.Effects.{fault_in}
use Rattle.ticks.specs.Blocks.{take_step, take_reply}
use Rattle.ticks.specs.Moving.{trouble, fail_step, ran, slowed, sent_on}

abbrev pub with_status : Status → AxisState → AxisState
with_status s a = record { drive = a.drive; status = s }

-- the trouble of a move, by the drive's readiness and the switches
abbrev pub trouble_of : Travel → AxisState → Option Cause
trouble_of t a = trouble t.distance a.drive.ready a.status.begin a.status.end

-- a tick of motion and a braking tick, with the drive after its pulses
abbrev pub ran_with : Meaning → Going → Travel → AxisState → AxisState
ran_with m g t a = record { drive = m; status = with_work (ran (g.step == 0) g t m.count a.status.machine a.status.work) a.status }

abbrev pub slowed_with : Meaning → Going → Travel → AxisState → AxisState
slowed_with m g t a = record { drive = m; status = with_work (slowed (g.step == 0) g t m.count a.status.machine a.status.work) a.status }

abbrev pub run_step : Going → Travel → AxisState → AxisState
run_step g t a = ran_with (sent_on t g a.drive) g t a

abbrev pub slow_step : Going → Travel → AxisState → AxisState
slow_step g t a = slowed_with (sent_on t g a.drive) g t a

-- trouble comes first
abbrev pub unless_trouble : Option Cause → Travel → AxisState → AxisState → AxisState
unless_trouble None t a next = next
unless_trouble (Some cause) t a next = with_status (fail_step cause t a.drive.count a.status) a

abbrev pub trouble_reply : Option Cause → Travel → Result (Unit {0}) AxisFault
trouble_reply None t = Ok tt
trouble_reply (Some cause) t = Err (fault_in t.course cause)

-- what a tick does depends on what the axis is doing
abbrev pub tick_at : Phase → Programs → AxisState → AxisState
tick_at standing p a = a
tick_at (moving t) p a = unless_trouble (trouble_of t a) t a (run_step (ticked_in a.status.machine t.going) t a)
tick_at (braking t) p a = unless_trouble (trouble_of t a) t a (slow_step (braked_in a.status.machine t.going) t a)
tick_at (held c u) p a = a
tick_at (between c) p a = with_status (take_step p c a.drive a.status) a

abbrev pub reply_at : Phase → Programs → AxisState → Result (Unit {0}) AxisFault
reply_at standing p a = Ok tt
reply_at (moving t) p a = trouble_reply (trouble_of t a) t
reply_at (braking t) p a = trouble_reply (trouble_of t a) t
reply_at (held c u) p a = Ok tt
reply_at (between c) p a = take_reply p c a.drive a.status

abbrev pub tick_step : Programs → AxisState → AxisState
tick_step p a = tick_at a.status.work.phase p a

abbrev pub tick_reply : Programs → AxisState → Result (Unit {0}) AxisFault
tick_reply p a = reply_at a.status.work.phase p a
