-- What an accepted order does to Z, T, the count at zero and the reference: its mode alone sets them.
use Rattle.std.proofs.Common.{◌≡◌, ℕ, Bool, true, false, cond, eqb, ℤ, [], ◌∷◌, Some, None, Option, refl, subst}
use Rattle.std.proofs.lemmas.Bool.{false≢true}
use Rattle.drives.specs.Meaning.{Meaning}
use Rattle.motion.specs.declared.raw.RawData.{RawData}
use Rattle.store.specs.Programs.{Programs}
use Rattle.states.specs.declared.order.Order.{Order}
use Rattle.states.specs.declared.order.Command.{Command}
use Rattle.states.specs.declared.order.Command.TheVariants.{Start, Stop, Forward, Backward, TakeOver}
use Rattle.states.specs.declared.fault.Cause.TheVariants.{NotStanding}
use Rattle.states.specs.declared.mode.Mode.{Mode}
use Rattle.states.specs.declared.mode.Mode.TheVariants.{Jog, AxisOff, Reference, Position, Relative, Program, OffsetTo, OffsetBy, ClearOffset, ToolTo, ClearTool, ClearFault}
use Rattle.states.specs.declared.mode.Jog.TheVariants.{First, Second}
use Rattle.states.specs.declared.mode.Pace.TheVariants.{Continuous, SingleBlock}
use Rattle.states.specs.Mode.{mode_number, mode_of}
use Rattle.states.specs.State.{Phase, standing, moving, braking, held, between, Work, Status, stands}
use Rattle.laws.proofs.Asked.{Yes}
use Rattle.orders.specs.declared.plan.Plan.TheVariants.{Halt, Begin}
use Rattle.orders.specs.Modes.{starts, stops, takes_over, admits, bare}
use Rattle.orders.specs.Questions.{resume_plan, mode_plan, bare_plan, standing_plan, standing_questions, order_questions, plan_for}
use Rattle.orders.specs.Effects.{halted, carried_out}
use Rattle.laws.specs.Laws.{offset_at, tool_at}
use Rattle.laws.specs.Reckoned.{reference_zero}
use Rattle.laws.proofs.Numbers.{number_of}

-- after an order of a mode's number with the double word x: Z, T, the count at zero and the reference
abbrev pub Sets : ℕ → ℤ → Meaning → Option RawData → Work → Work → Type 0
Sets n x m s w v =
    (v.offset ≡ offset_at n x w.offset)
    × (v.tool ≡ tool_at n x w.tool)
    × (v.zero ≡ cond (eqb n 5) (reference_zero s m.count w.zero) w.zero)
    × (v.referenced ≡ cond (eqb n 5) true w.referenced)

-- all four stay
abbrev pub Same : Work → Work → Type 0
Same w v = (v.offset ≡ w.offset) × (v.tool ≡ w.tool) × (v.zero ≡ w.zero) × (v.referenced ≡ w.referenced)

-- a mode that only starts is not stopped
not_both : {A : Type 0} (c : Command) → starts c ≡ true → stops c ≡ true → A
not_both Start a b = absurd (false≢true b)
not_both Stop a b = absurd (false≢true a)
not_both Forward a b = absurd (false≢true a)
not_both Backward a b = absurd (false≢true a)
not_both TakeOver a b = absurd (false≢true a)

-- a stop, which a mode that sets one of them does not admit
halt_sets : (mode : Mode) (c : Command) (x : ℤ) (m : Meaning) (s : Option RawData) (w : Work) → admits mode c ≡ true
    → stops c ≡ true → Sets (mode_number mode) x m s w (halted w)
halt_sets (Jog First) c x m s w a e = (refl, refl, refl, refl)
halt_sets (Jog Second) c x m s w a e = (refl, refl, refl, refl)
halt_sets AxisOff c x m s w a e = (refl, refl, refl, refl)
halt_sets Reference c x m s w a e = not_both c a e
halt_sets Position c x m s w a e = (refl, refl, refl, refl)
halt_sets Relative c x m s w a e = (refl, refl, refl, refl)
halt_sets (Program Continuous) c x m s w a e = (refl, refl, refl, refl)
halt_sets (Program SingleBlock) c x m s w a e = (refl, refl, refl, refl)
halt_sets OffsetTo c x m s w a e = not_both c a e
halt_sets OffsetBy c x m s w a e = not_both c a e
halt_sets ClearOffset c x m s w a e = not_both c a e
halt_sets ToolTo c x m s w a e = not_both c a e
halt_sets ClearTool c x m s w a e = not_both c a e
halt_sets ClearFault c x m s w a e = (refl, refl, refl, refl)

-- without machine data
bare_sets : (mode : Mode) (n : ℕ) (x : ℤ) (m : Meaning) (w : Work) → bare mode ≡ true
    → Sets (mode_number mode) x m None w (carried_out n (bare_plan mode) m None w)
bare_sets (Jog j) n x m w b = absurd (false≢true b)
bare_sets AxisOff n x m w b = (refl, refl, refl, refl)
bare_sets Reference n x m w b = absurd (false≢true b)
bare_sets Position n x m w b = absurd (false≢true b)
bare_sets Relative n x m w b = absurd (false≢true b)
bare_sets (Program k) n x m w b = absurd (false≢true b)
bare_sets OffsetTo n x m w b = absurd (false≢true b)
bare_sets OffsetBy n x m w b = absurd (false≢true b)
bare_sets ClearOffset n x m w b = absurd (false≢true b)
bare_sets ToolTo n x m w b = absurd (false≢true b)
bare_sets ClearTool n x m w b = absurd (false≢true b)
bare_sets ClearFault n x m w b = (refl, refl, refl, refl)

module _ (o : Order) (m : Meaning) (d : RawData) (w : Work) where
  -- a program that goes on
  resume_same : (ph : Phase) → Same w (carried_out o.mode (resume_plan d m ph w.zero) m (Some d) w)
  resume_same standing = (refl, refl, refl, refl)
  resume_same (moving t) = (refl, refl, refl, refl)
  resume_same (braking t) = (refl, refl, refl, refl)
  resume_same (held c None) = (refl, refl, refl, refl)
  resume_same (held c (Some x)) = (refl, refl, refl, refl)
  resume_same (between c) = (refl, refl, refl, refl)

  -- one that goes on or begins
  pub program_same : (b : Bool)
      → Same w (carried_out o.mode (cond b (resume_plan d m w.phase w.zero) (Begin o.byte)) m (Some d) w)
  program_same true = resume_same w.phase
  program_same false = (refl, refl, refl, refl)

  -- an order that is no stop, in its mode
  mode_sets : (mode : Mode)
      → Sets (mode_number mode) o.double m (Some d) w (carried_out o.mode (mode_plan mode o m d w) m (Some d) w)
  mode_sets (Jog First) = (refl, refl, refl, refl)
  mode_sets (Jog Second) = (refl, refl, refl, refl)
  mode_sets AxisOff = (refl, refl, refl, refl)
  mode_sets Reference = (refl, refl, refl, refl)
  mode_sets Position = (refl, refl, refl, refl)
  mode_sets Relative = (refl, refl, refl, refl)
  mode_sets (Program Continuous) = program_same (takes_over o.command)
  mode_sets (Program SingleBlock) = program_same (takes_over o.command)
  mode_sets OffsetTo = (refl, refl, refl, refl)
  mode_sets OffsetBy = (refl, refl, refl, refl)
  mode_sets ClearOffset = (refl, refl, refl, refl)
  mode_sets ToolTo = (refl, refl, refl, refl)
  mode_sets ClearTool = (refl, refl, refl, refl)
  mode_sets ClearFault = (refl, refl, refl, refl)

module _ (o : Order) (p : Programs) (m : Meaning) (w : Work) where
  -- with or without machine data
  standing_sets : (s : Option RawData) (mode : Mode) → Yes (standing_questions mode o p m s w)
      → Sets (mode_number mode) o.double m s w (carried_out o.mode (standing_plan mode o m s w) m s w)
  standing_sets None mode y = bare_sets mode o.mode o.double m w y.0
  standing_sets (Some d) mode y = mode_sets o m d w mode

  -- a stop or not
  command_sets : (b : Bool) (s : Option RawData) (mode : Mode) → stops o.command ≡ b → admits mode o.command ≡ true
      → Yes (cond b [] ((stands w.phase, NotStanding) ∷ standing_questions mode o p m s w))
      → Sets (mode_number mode) o.double m s w (carried_out o.mode (cond b Halt (standing_plan mode o m s w)) m s w)
  command_sets true s mode e a y = halt_sets mode o.command o.double m s w a e
  command_sets false s mode e a y = standing_sets s mode y.1

-- an order of which all is answered yes
pub accepted_sets : (mode : Option Mode) (o : Order) (p : Programs) (m : Meaning) (s : Status) → mode_of o.mode ≡ mode
    → Yes (order_questions mode o p m s)
    → Sets o.mode o.double m s.machine s.work (carried_out o.mode (plan_for mode o m s) m s.machine s.work)
accepted_sets None o p m s e y = absurd (false≢true y.0)
accepted_sets (Some mode) o p m s e y =
    subst (λ (n : ℕ). Sets n o.double m s.machine s.work (carried_out o.mode (plan_for (Some mode) o m s) m s.machine s.work))
    (number_of o.mode mode e)
    (command_sets o p m s.work (stops o.command) s.machine mode refl y.0 y.1.1)
