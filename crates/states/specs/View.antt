-- What the code's records say.
use Rattle.std.specs.Prelude.{Some, None, Option}
use Rattle.motion.specs.declared.raw.RawData.{RawData}
use Rattle.motion.specs.declared.mover.Mover.{Mover}
use Rattle.motion.specs.Travel.{Going, idle}
use Rattle.motion.specs.View.{mover_data, going_of}
use Rattle.states.specs.declared.state.Run.{Run}
use Rattle.states.specs.declared.state.Journey.{Journey}
use Rattle.states.specs.declared.state.State.{State}
use Rattle.states.specs.declared.state.State.TheVariants.{Standing, Moving, Braking, Held, BetweenBlocks}
use Rattle.states.specs.declared.working.Working.{Working}
use Rattle.states.specs.declared.record.Record.{Record}
use Rattle.states.specs.Mode.{mode_number}
use Rattle.states.specs.State.{Course, Travel, Phase, standing, moving, braking, held, between, Work, Status}

-- machine data, and the move in progress beside them
abbrev pub raw_in : Option Mover → Option RawData
raw_in None = None
raw_in (Some m) = Some (mover_data m)

abbrev pub going_in : Option Mover → Going
going_in None = idle
going_in (Some m) = going_of m

abbrev pub course_in : Run → Course
course_in r = record { program = r.program; taken = r.taken; motion = r.motion; offset = r.offset; way = r.way; feed = r.feed; auxiliary = r.auxiliary }

abbrev pub course_if : Option Run → Option Course
course_if None = None
course_if (Some r) = Some (course_in r)

abbrev pub travel_of : Going → Journey → Travel
travel_of g j = record { start = j.start; target = j.target; distance = j.distance; going = g; course = course_if j.run }

abbrev pub phase_of : Going → State → Phase
phase_of g Standing = standing
phase_of g (Moving j) = moving (travel_of g j)
phase_of g (Braking j) = braking (travel_of g j)
phase_of g (Held h) = held (course_in h.run) h.unfinished
phase_of g (BetweenBlocks r) = between (course_in r)

abbrev pub work_of : Going → Working → Work
work_of g w = record { mode = mode_number w.mode; auxiliary = w.auxiliary; fault = w.fault; offset = w.offset; tool = w.tool; coordinate = w.coordinate; zero = w.zero; referenced = w.referenced; in_position = w.in_position; phase = phase_of g w.state }

abbrev pub status_of : Record → Status
status_of r = record { begin = r.switches.begin; end = r.switches.end; machine = raw_in r.machine; work = work_of (going_in r.machine) r.work }
