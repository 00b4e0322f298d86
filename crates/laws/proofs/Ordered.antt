-- An order keeps what an axis keeps.
use Rattle.std.proofs.Common.{◌≡◌, ℕ, Bool, true, false, cond, ◌||◌, eqb, ℤ, pos, ◌+ℤ◌, [], ◌∷◌, Some, None, Ok, Err, Option, Result, refl, subst}
use Rattle.drives.specs.Meaning.{Meaning}
use Rattle.motion.specs.declared.raw.RawData.{RawData}
use Rattle.motion.specs.Places.{rate_by}
use Rattle.store.specs.Programs.{Programs}
use Rattle.states.specs.declared.order.Order.{Order}
use Rattle.states.specs.declared.fault.Cause.{Cause}
use Rattle.states.specs.declared.fault.Cause.TheVariants.{NotStanding}
use Rattle.states.specs.declared.mode.Mode.{Mode}
use Rattle.states.specs.declared.mode.Mode.TheVariants.{Jog, AxisOff, Reference, Position, Relative, Program, OffsetTo, OffsetBy, ClearOffset, ToolTo, ClearTool, ClearFault}
use Rattle.states.specs.Mode.{mode_of}
use Rattle.states.specs.State.{Phase, standing, moving, braking, held, between, Work, Status, AxisState, stands}
use Rattle.states.specs.Courses.{course_rate}
use Rattle.laws.proofs.Asked.{Yes, accepted}
use Rattle.orders.specs.declared.plan.Plan.{Plan}
use Rattle.orders.specs.declared.plan.Plan.TheVariants.{Halt, Begin}
use Rattle.orders.specs.Modes.{stops, takes_over}
use Rattle.orders.specs.Questions.{go_questions, go_plan, jog_target, position_target, relative_target, resume_plan, mode_questions, standing_questions, order_questions, mode_plan, bare_plan, standing_plan, plan_for, verdict}
use Rattle.orders.specs.Effects.{carried_out}
use Rattle.orders.specs.Orders.{order_fault, left}
use Rattle.ticks.specs.Ticks.{with_status}
use Rattle.laws.specs.Acts.{order_axis}
use Rattle.laws.specs.Kept.{KeptIn, KeptWith, Quiet, Kept}
use Rattle.laws.proofs.NewMove.{attained}
use Rattle.laws.proofs.Numbers.{program_mode}
use Rattle.laws.proofs.Refusing.{Holds, Holding, refused_holds, halt_holds, clear_holds, mode_holds}
use Rattle.laws.proofs.Plans.{zero_holds, offset_holds, tool_holds, go_holds, begin_holds, resume_holds, continue_holds}

module _ (o : Order) (p : Programs) (m : Meaning) (d : RawData) (w : Work) (q : Quiet w) (k : KeptWith d m w) where
  -- a move of a mode, of which all is answered yes
  moves : (target : ℤ) → Yes (go_questions d o target m w)
      → Holds (Some d) m (carried_out o.mode (go_plan d o target m w) m (Some d) w)
  moves target y =
      go_holds o.mode d m w k (rate_by d o.word) target (attained d (rate_by d o.word) target m w.zero w.referenced y)

  -- a held program that goes on
  resumes : (ph : Phase) → w.phase ≡ ph → (eqb o.mode 8 || eqb o.mode 9) ≡ true
      → Holds (Some d) m (carried_out o.mode (resume_plan d m ph w.zero) m (Some d) w)
  resumes standing e h = continue_holds o.mode d m w k h
  resumes (moving t) e h = continue_holds o.mode d m w k h
  resumes (braking t) e h = continue_holds o.mode d m w k h
  resumes (held c None) e h = continue_holds o.mode d m w k h
  resumes (held c (Some target)) e h =
      resume_holds o.mode d m w k h (course_rate d c) target
      (subst (λ (x : Phase). KeptIn x d m w.zero w.referenced) e k.doing)
  resumes (between c) e h = continue_holds o.mode d m w k h

  -- a mode of a program: by the command it goes on or begins
  program_holds : (b : Bool) → (eqb o.mode 8 || eqb o.mode 9) ≡ true
      → Holds (Some d) m (carried_out o.mode (cond b (resume_plan d m w.phase w.zero) (Begin o.byte)) m (Some d) w)
  program_holds true h = resumes w.phase refl h
  program_holds false h = begin_holds o.mode d m w k h o.byte

  -- an order that is no stop, in its mode
  in_mode : (mode : Mode) → mode_of o.mode ≡ Some mode → Yes (mode_questions mode o p m d w)
      → Holds (Some d) m (carried_out o.mode (mode_plan mode o m d w) m (Some d) w)
  in_mode (Jog j) e y = moves (jog_target d o w) y
  in_mode AxisOff e y = mode_holds o.mode (Some d) m w (k, q)
  in_mode Reference e y = zero_holds o.mode d m w k
  in_mode Position e y = moves (position_target o w) y
  in_mode Relative e y = moves (relative_target o w) y
  in_mode (Program pace) e y = program_holds (takes_over o.command) (program_mode o.mode pace e)
  in_mode OffsetTo e y = offset_holds o.mode d m w k o.double
  in_mode OffsetBy e y = offset_holds o.mode d m w k (w.offset +ℤ o.double)
  in_mode ClearOffset e y = offset_holds o.mode d m w k (pos 0)
  in_mode ToolTo e y = tool_holds o.mode d m w k o.double
  in_mode ClearTool e y = tool_holds o.mode d m w k (pos 0)
  in_mode ClearFault e y = clear_holds (Some d) m w (k, q)

-- without machine data an order sets the mode or clears the fault
bare_holds : (mode : Mode) (n : ℕ) (m : Meaning) (w : Work) → Holds None m w
    → Holds None m (carried_out n (bare_plan mode) m None w)
bare_holds (Jog j) n m w h = clear_holds None m w h
bare_holds AxisOff n m w h = mode_holds n None m w h
bare_holds Reference n m w h = clear_holds None m w h
bare_holds Position n m w h = clear_holds None m w h
bare_holds Relative n m w h = clear_holds None m w h
bare_holds (Program k) n m w h = clear_holds None m w h
bare_holds OffsetTo n m w h = clear_holds None m w h
bare_holds OffsetBy n m w h = clear_holds None m w h
bare_holds ClearOffset n m w h = clear_holds None m w h
bare_holds ToolTo n m w h = clear_holds None m w h
bare_holds ClearTool n m w h = clear_holds None m w h
bare_holds ClearFault n m w h = clear_holds None m w h

module _ (o : Order) (p : Programs) (m : Meaning) (w : Work) where
  -- an order that is no stop, with or without machine data
  standing_holds : (s : Option RawData) (mode : Mode) → mode_of o.mode ≡ Some mode → Yes (standing_questions mode o p m s w)
      → Holds s m w → Holds s m (carried_out o.mode (standing_plan mode o m s w) m s w)
  standing_holds None mode e y h = bare_holds mode o.mode m w h
  standing_holds (Some d) mode e y h = in_mode o p m d w h.1 h.0 mode e y.1.1

  -- a stop or not
  command_holds : (b : Bool) (s : Option RawData) (mode : Mode) → mode_of o.mode ≡ Some mode
      → Yes (cond b [] ((stands w.phase, NotStanding) ∷ standing_questions mode o p m s w)) → Holds s m w
      → Holds s m (carried_out o.mode (cond b Halt (standing_plan mode o m s w)) m s w)
  command_holds true s mode e y h = halt_holds s m w h
  command_holds false s mode e y h = standing_holds s mode e y.1 h

-- an order of which all is answered yes
accepted_holds : (mode : Option Mode) (o : Order) (p : Programs) (m : Meaning) (s : Status) → mode_of o.mode ≡ mode
    → Yes (order_questions mode o p m s) → Holds s.machine m s.work
    → Holds s.machine m (carried_out o.mode (plan_for mode o m s) m s.machine s.work)
accepted_holds None o p m s e y h = clear_holds s.machine m s.work h
accepted_holds (Some mode) o p m s e y h = command_holds o p m s.work (stops o.command) s.machine mode e y.1.1 h

-- an order, accepted or refused
order_by : (v : Result Plan Cause) (o : Order) (p : Programs) (a : AxisState) → verdict o p a.drive a.status ≡ v → Kept a
    → Holding (with_status (left o a.drive a.status v) a)
order_by (Ok plan) o p a e k =
    let m = a.drive in
    let s = a.status in
    let y = accepted (order_questions (mode_of o.mode) o p m s) (plan_for (mode_of o.mode) o m s) plan e in
    let h = accepted_holds (mode_of o.mode) o p m s refl y.0 (k.holds, k.shown) in
    let l = subst (λ (x : Plan). Holds s.machine m (carried_out o.mode x m s.machine s.work)) y.1 h in
    (k.drive, l.0, l.1)
order_by (Err cause) o p a e k =
    let f = order_fault o a.status.work.phase cause in
    let l = refused_holds f a.status.machine a.drive a.status.work (k.holds, k.shown) in
    (k.drive, l.0, l.1)

-- every order
pub order_keeps : (o : Order) (p : Programs) (a : AxisState) → Kept a → Holding (order_axis o p a)
order_keeps o p a k = order_by (verdict o p a.drive a.status) o p a refl k
