-- What an accepted order can make of an axis: a stop, clearing the fault, the start of a program, its take-over, or what ends a
-- held program, with a move or without.
use Rattle.std.proofs.Common.{◌≡◌, ℕ, Bool, true, false, cond, ◌&&◌, ◌||◌, ℤ, [], ◌∷◌, Some, None, Ok, Option, refl, sym, ap, subst}
use Rattle.std.proofs.lemmas.Bool.{false≢true}
use Rattle.drives.specs.Meaning.{Meaning}
use Rattle.motion.specs.declared.raw.RawData.{RawData}
use Rattle.store.specs.Programs.{Programs}
use Rattle.states.specs.declared.aim.Aim.{Aim}
use Rattle.states.specs.declared.order.Order.{Order}
use Rattle.states.specs.declared.order.Command.{Command}
use Rattle.states.specs.declared.order.Command.TheVariants.{Start, Stop, Forward, Backward, TakeOver}
use Rattle.states.specs.declared.fault.Cause.TheVariants.{NotStanding}
use Rattle.states.specs.declared.mode.Mode.{Mode}
use Rattle.states.specs.declared.mode.Mode.TheVariants.{Jog, AxisOff, Reference, Position, Relative, Program, OffsetTo, OffsetBy, ClearOffset, ToolTo, ClearTool, ClearFault}
use Rattle.states.specs.declared.mode.Jog.{Jog as Which}
use Rattle.states.specs.declared.mode.Jog.TheVariants.{First, Second}
use Rattle.states.specs.declared.mode.Pace.{Pace}
use Rattle.states.specs.Mode.{mode_number, mode_of}
use Rattle.states.specs.Asking.{aim_for}
use Rattle.states.specs.State.{Course, Phase, standing, moving, braking, held, between, Work, Status, with_fault, with_phase, course_of, stands}
use Rattle.states.specs.Courses.{opening, course_rate}
use Rattle.states.specs.Effects.{set_off}
use Rattle.orders.specs.declared.plan.Plan.{Plan}
use Rattle.orders.specs.declared.plan.Plan.TheVariants.{Halt, Begin}
use Rattle.orders.specs.Modes.{starts, stops, takes_over, admits}
use Rattle.orders.specs.Questions.{start_questions, resume_questions, resume_plan, mode_plan, bare_plan, standing_plan, standing_questions, order_questions, plan_for, verdict}
use Rattle.orders.specs.Effects.{taken, taken_over, zeroed, gone_on, halted, carried_out}
use Rattle.orders.specs.Orders.{names_program}
use Rattle.orders.specs.Modes.{runs_programs}
use Rattle.laws.proofs.Asked.{Yes, accepted}
use Rattle.laws.proofs.Numbers.{number_of, program_mode}

-- THE COMMAND of an order that does not start

stop_starts_not : (c : Command) → stops c ≡ true → starts c ≡ false
stop_starts_not Start e = sym e
stop_starts_not Stop e = refl
stop_starts_not Forward e = refl
stop_starts_not Backward e = refl
stop_starts_not TakeOver e = refl

take_over_starts_not : (c : Command) → takes_over c ≡ true → starts c ≡ false
take_over_starts_not Start e = sym e
take_over_starts_not Stop e = refl
take_over_starts_not Forward e = refl
take_over_starts_not Backward e = refl
take_over_starts_not TakeOver e = refl

-- what a mode of a program admits besides a stop and a take-over is a start
else_starts : (c : Command) → (starts c || stops c || takes_over c) ≡ true → stops c ≡ false → takes_over c ≡ false
    → starts c ≡ true
else_starts Start a s t = refl
else_starts Stop a s t = sym s
else_starts Forward a s t = a
else_starts Backward a s t = a
else_starts TakeOver a s t = sym t

off_if : (b c : Bool) → c ≡ false → (b && c) ≡ false
off_if true c e = e
off_if false c e = refl

on_if : (b c : Bool) → b ≡ true → c ≡ true → (b && c) ≡ true
on_if true c i e = e
on_if false c i e = i

-- an order without a start names no program, nor does one in another mode
names_not : (o : Order) → starts o.command ≡ false → names_program o ≡ false
names_not o e = off_if (runs_programs o.mode) (starts o.command) e

pub other_mode : (o : Order) → runs_programs o.mode ≡ false → names_program o ≡ false
other_mode o i = ap (λ (b : Bool). b && starts o.command) i

-- the number of a jog
jog_number : (j : Which) → runs_programs (mode_number (Jog j)) ≡ false
jog_number First = refl
jog_number Second = refl

-- referencing leaves the mode and what the axis does
zeroed_keeps : (x : Option RawData) (m : Meaning) (w : Work) → ((zeroed x m w).mode ≡ w.mode) × ((zeroed x m w).phase ≡ w.phase)
zeroed_keeps None m w = (refl, refl)
zeroed_keeps (Some d) m w = (refl, refl)

-- THE EFFECT: what holds of each of these holds of what an accepted order leaves
module _ (o : Order) (p : Programs) (m : Meaning) (s : Status) (G : Work → Type 0)
    (halts : names_program o ≡ false → stops o.command ≡ true → G (halted s.work))
    (clears : names_program o ≡ false → o.mode ≡ 17 → G (with_fault None s.work))
    (rests : (v : Work) → v.mode ≡ o.mode → runs_programs o.mode ≡ false → v.phase ≡ standing → G v)
    (moves : (a : Aim) → runs_programs o.mode ≡ false → G (set_off s.machine a None (taken o.mode s.work)))
    (begins : names_program o ≡ true → (d : RawData) → s.work.referenced ≡ true → Yes (start_questions d o p)
    → G (with_phase (between (opening o.byte)) (taken o.mode s.work)))
    (goes_on : names_program o ≡ false → takes_over o.command ≡ true → (c : Course) → s.work.phase ≡ held c None
    → G (with_phase (between c) (taken_over o.mode s.work)))
    (resumes : names_program o ≡ false → takes_over o.command ≡ true → (d : RawData) → s.machine ≡ Some d → (c : Course) (target : ℤ)
    → s.work.phase ≡ held c (Some target)
    → G (set_off s.machine (aim_for d (course_rate d c) target m s.work.zero) (Some c) (taken_over o.mode s.work))) where
  -- an order of another mode than 8 and 9
  apart : (mode : Mode) → mode_of o.mode ≡ Some mode → runs_programs (mode_number mode) ≡ false → runs_programs o.mode ≡ false
  apart mode e i = subst (λ (n : ℕ). runs_programs n ≡ false) (number_of o.mode mode e) i

  -- a take-over, by what the axis is doing
  resume_by : names_program o ≡ false → takes_over o.command ≡ true → (d : RawData) → s.machine ≡ Some d → (ph : Phase) → s.work.phase ≡ ph
      → Yes (resume_questions p m ph)
      → G (carried_out o.mode (resume_plan d m ph s.work.zero) m s.machine s.work)
  resume_by n t d i standing e y = absurd (false≢true y.0)
  resume_by n k d i (moving t) e y = absurd (false≢true y.0)
  resume_by n k d i (braking t) e y = absurd (false≢true y.0)
  resume_by n t d i (held c None) e y =
      subst (λ (ph : Phase). G (with_phase (gone_on ph) (taken_over o.mode s.work))) (sym e) (goes_on n t c e)
  resume_by n t d i (held c (Some target)) e y =
      subst
      (λ (ph : Phase). G (set_off s.machine (aim_for d (course_rate d c) target m s.work.zero) (course_of ph) (taken_over o.mode s.work)))
      (sym e) (resumes n t d i c target e)
  resume_by n t d i (between c) e y = absurd (false≢true y.0)

  -- a mode of a program, by whether it is a take-over
  program_by : (b : Bool) (k : Pace) (d : RawData) → takes_over o.command ≡ b → mode_of o.mode ≡ Some (Program k)
      → admits (Program k) o.command ≡ true → stops o.command ≡ false → s.machine ≡ Some d → s.work.referenced ≡ true
      → Yes (cond b (resume_questions p m s.work.phase) (start_questions d o p))
      → G (carried_out o.mode (cond b (resume_plan d m s.work.phase s.work.zero) (Begin o.byte)) m s.machine s.work)
  program_by true k d t e a f i r y =
      resume_by (names_not o (take_over_starts_not o.command t)) t d i s.work.phase refl y
  program_by false k d t e a f i r y =
      begins (on_if (runs_programs o.mode) (starts o.command) (program_mode o.mode k e) (else_starts o.command a f t)) d r y

  -- an order that is no stop, with machine data
  mode_by : (mode : Mode) (d : RawData) → mode_of o.mode ≡ Some mode → admits mode o.command ≡ true → stops o.command ≡ false
      → s.machine ≡ Some d → Yes (standing_questions mode o p m (Some d) s.work)
      → G (carried_out o.mode (mode_plan mode o m d s.work) m s.machine s.work)
  mode_by (Jog j) d e a f i y = moves _ (apart (Jog j) e (jog_number j))
  mode_by AxisOff d e a f i y = rests _ refl (apart AxisOff e refl) refl
  mode_by Reference d e a f i y =
      let z = zeroed_keeps s.machine m (taken o.mode s.work) in rests _ z.0 (apart Reference e refl) z.1
  mode_by Position d e a f i y = moves _ (apart Position e refl)
  mode_by Relative d e a f i y = moves _ (apart Relative e refl)
  mode_by (Program k) d e a f i y = program_by (takes_over o.command) k d refl e a f i y.0 y.1.1
  mode_by OffsetTo d e a f i y = rests _ refl (apart OffsetTo e refl) refl
  mode_by OffsetBy d e a f i y = rests _ refl (apart OffsetBy e refl) refl
  mode_by ClearOffset d e a f i y = rests _ refl (apart ClearOffset e refl) refl
  mode_by ToolTo d e a f i y = rests _ refl (apart ToolTo e refl) refl
  mode_by ClearTool d e a f i y = rests _ refl (apart ClearTool e refl) refl
  mode_by ClearFault d e a f i y = clears (other_mode o (apart ClearFault e refl)) (sym (number_of o.mode ClearFault e))

  -- without machine data only modes 4 and 17 are accepted
  bare_by : (mode : Mode) → mode_of o.mode ≡ Some mode → Yes (standing_questions mode o p m None s.work)
      → G (carried_out o.mode (bare_plan mode) m s.machine s.work)
  bare_by (Jog j) e y = absurd (false≢true y.0)
  bare_by AxisOff e y = rests _ refl (apart AxisOff e refl) refl
  bare_by Reference e y = absurd (false≢true y.0)
  bare_by Position e y = absurd (false≢true y.0)
  bare_by Relative e y = absurd (false≢true y.0)
  bare_by (Program k) e y = absurd (false≢true y.0)
  bare_by OffsetTo e y = absurd (false≢true y.0)
  bare_by OffsetBy e y = absurd (false≢true y.0)
  bare_by ClearOffset e y = absurd (false≢true y.0)
  bare_by ToolTo e y = absurd (false≢true y.0)
  bare_by ClearTool e y = absurd (false≢true y.0)
  bare_by ClearFault e y = clears (other_mode o (apart ClearFault e refl)) (sym (number_of o.mode ClearFault e))

  standing_by : (x : Option RawData) (mode : Mode) → s.machine ≡ x → mode_of o.mode ≡ Some mode → admits mode o.command ≡ true
      → stops o.command ≡ false → Yes (standing_questions mode o p m x s.work)
      → G (carried_out o.mode (standing_plan mode o m x s.work) m s.machine s.work)
  standing_by None mode i e a f y = bare_by mode e y
  standing_by (Some d) mode i e a f y = mode_by mode d e a f i y

  -- a stop or not
  command_by : (b : Bool) (mode : Mode) → stops o.command ≡ b → mode_of o.mode ≡ Some mode → admits mode o.command ≡ true
      → Yes (cond b [] ((stands s.work.phase, NotStanding) ∷ standing_questions mode o p m s.machine s.work))
      → G (carried_out o.mode (cond b Halt (standing_plan mode o m s.machine s.work)) m s.machine s.work)
  command_by true mode f e a y = halts (names_not o (stop_starts_not o.command f)) f
  command_by false mode f e a y = standing_by s.machine mode refl e a f y.1

  asked_by : (mode : Option Mode) → mode_of o.mode ≡ mode → Yes (order_questions mode o p m s)
      → G (carried_out o.mode (plan_for mode o m s) m s.machine s.work)
  asked_by None e y = absurd (false≢true y.0)
  asked_by (Some mode) e y = command_by (stops o.command) mode refl e y.0 y.1.1

  pub accepted_by : (plan : Plan) → verdict o p m s ≡ Ok plan → G (carried_out o.mode plan m s.machine s.work)
  accepted_by plan e =
      let y = accepted (order_questions (mode_of o.mode) o p m s) (plan_for (mode_of o.mode) o m s) plan e in
      subst (λ (x : Plan). G (carried_out o.mode x m s.machine s.work)) y.1 (asked_by (mode_of o.mode) refl y.0)
