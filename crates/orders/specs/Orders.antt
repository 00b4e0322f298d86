-- An order: what it is answered, and what it leaves.
use Rattle.std.specs.Prelude.{◌≡◌, Bool, cond, ◌&&◌, ◌||◌, Ok, Err, Result, ◌==◌}
use Rattle.drives.specs.Meaning.{Meaning}
use Rattle.store.specs.Programs.{Programs}
use Rattle.states.specs.declared.order.Order.{Order}
use Rattle.states.specs.declared.fault.Cause.{Cause}
use Rattle.states.specs.declared.fault.AxisFault.{AxisFault}
use Rattle.states.specs.Faults.{cause_number}
use Rattle.states.specs.State.{Phase, Status, course_of}
use Rattle.states.specs.Effects.{fault_at, fault_in}
use Rattle.states.specs.Mode.{mode_number}
use Rattle.orders.specs.declared.plan.Plan.{Plan}
use Rattle.orders.specs.declared.plan.Accepted.{Accepted}
use Rattle.orders.specs.Modes.{starts, takes_over, runs_programs}
use Rattle.orders.specs.Questions.{verdict}
use Rattle.orders.specs.Effects.{carried, refused}

-- a start of mode 8 or 9 names a program by its byte
abbrev pub names_program : Order → Bool
names_program o = runs_programs o.mode && starts o.command

-- 17 and 21 at take-over are at the held program and its block
abbrev pub at_hold : Order → Cause → Bool
at_hold o cause = takes_over o.command && (cause_number cause == 17 || cause_number cause == 21)

-- the fault of a refused order, with its place
abbrev pub order_fault : Order → Phase → Cause → AxisFault
order_fault o phase cause =
    cond (names_program o) (fault_at o.byte 0 cause) (cond (at_hold o cause) (fault_in (course_of phase) cause) (fault_at 0 0 cause))

-- what the code answers to the questions: the plan, with the mode that the order names
abbrev pub Answers : Order → Result Plan Cause → Result Accepted Cause → Type 0
Answers o v (Ok a) = (v ≡ Ok a.plan) × (mode_number a.mode ≡ o.mode)
Answers o v (Err cause) = v ≡ Err cause

abbrev pub answered : Order → Phase → Result Plan Cause → Result (Unit {0}) AxisFault
answered o phase (Ok plan) = Ok tt
answered o phase (Err cause) = Err (order_fault o phase cause)

abbrev pub left : Order → Meaning → Status → Result Plan Cause → Status
left o m s (Ok plan) = carried o.mode plan m s
left o m s (Err cause) = refused (order_fault o s.work.phase cause) s

abbrev pub order_reply : Order → Programs → Meaning → Status → Result (Unit {0}) AxisFault
order_reply o p m s = answered o s.work.phase (verdict o p m s)

abbrev pub order_step : Order → Programs → Meaning → Status → Status
order_step o p m s = left o m s (verdict o p m s)
