-- The coordinate machine: what each call makes of three axes and the programs, and what it is answered.
use Rattle.std.specs.Prelude.{ℕ, Bool, cond, ◌||◌, List, [], ◌∷◌, is_some, Some, None, Ok, Err, Option, Result, ◌==◌}
use Rattle.std.specs.Option.{option_map}
use Rattle.drives.specs.Meaning.{Meaning}
use Rattle.store.specs.declared.fault.StoreFault.{StoreFault}
use Rattle.store.specs.declared.fault.StoreFault.TheVariants.{NotStored}
use Rattle.store.specs.Programs.{Programs, empty, found}
use Rattle.store.specs.Entry.{open_done, opened, add_reply, added, close_reply, closed, abandon_reply, abandoned, deleted}
use Rattle.states.specs.declared.fault.AxisFault.{AxisFault}
use Rattle.states.specs.State.{AxisState, uses}
use Rattle.states.specs.Entry.{enter_reply, delete_reply}
use Rattle.states.specs.Observation.{Shown, shown_with, observed}
use Rattle.orders.specs.Orders.{names_program, order_reply}
use Rattle.ticks.specs.Ticks.{tick_step, tick_reply}
use Rattle.laws.specs.Acts.{enter_axis, delete_axis, order_axis, levels_step, new_axis}
use Rattle.module.specs.declared.call.Act.{Act}
use Rattle.module.specs.declared.call.Act.TheVariants.{Enter, Delete, Order, Level, Tick, Observe}
use Rattle.module.specs.declared.call.Call.{Call}
use Rattle.module.specs.declared.call.Call.TheVariants.{OnAxis, Open, Add, Close, Abandon, DeleteProgram}
use Rattle.module.specs.declared.fault.Fault.{Fault}
use Rattle.module.specs.declared.fault.Fault.TheVariants.{NoSuchAxis, OfAxis, OfStore, InUse}
use Rattle.module.specs.State.{Machine}

-- what a call is answered: that it is done, what an axis shows, or why it is refused
pub data Reply : Type 0 where
  done : Reply
  shown : Shown Fault → Reply
  refused : Fault → Reply

-- ONE AXIS

-- an act of an axis, with the programs in store: what it leaves
abbrev pub acted : Act → Programs → AxisState → AxisState
acted (Enter raw) p a = enter_axis raw a
acted Delete p a = delete_axis a
acted (Order o) p a = order_axis o p a
acted (Level l) p a = levels_step l.switches.begin l.switches.end l.ready a
acted Tick p a = tick_step p a
acted Observe p a = a

-- and what it is answered
abbrev pub done_or : Result (Unit {0}) AxisFault → Result (Option (Shown AxisFault)) AxisFault
done_or (Ok u) = Ok None
done_or (Err f) = Err f

abbrev pub answered : Act → Programs → AxisState → Result (Option (Shown AxisFault)) AxisFault
answered (Enter raw) p a = done_or (enter_reply raw a.status)
answered Delete p a = done_or (delete_reply a.status)
answered (Order o) p a = done_or (order_reply o p a.drive a.status)
answered (Level l) p a = Ok None
answered Tick p a = done_or (tick_reply p a)
answered Observe p a = Ok (Some (observed a.status))

-- the program that an act names, 0 for none
abbrev pub named : Act → ℕ
named (Enter raw) = 0
named Delete = 0
named (Order o) = cond (names_program o) o.byte 0
named (Level l) = 0
named Tick = 0
named Observe = 0

-- THREE AXES AND THE STORE

-- what an axis shows, with its number in the fault
abbrev pub shown_on : ℕ → Shown AxisFault → Shown Fault
shown_on axis o = shown_with (option_map (OfAxis axis) o.fault) o

abbrev pub at_axis : ℕ → Result (Option (Shown AxisFault)) AxisFault → Reply
at_axis axis (Ok None) = done
at_axis axis (Ok (Some o)) = shown (shown_on axis o)
at_axis axis (Err f) = refused (OfAxis axis f)

abbrev pub at_store : Result (Unit {0}) StoreFault → Reply
at_store (Ok u) = done
at_store (Err e) = refused (OfStore e)

-- a program is in use while an axis runs or holds it
abbrev pub uses_in : ℕ → AxisState → Bool
uses_in n a = uses n a.status.work.phase

abbrev pub in_use : ℕ → Machine → Bool
in_use n s = uses_in n s.first || (uses_in n s.second || uses_in n s.third)

-- 14, then 36
abbrev pub deletion_reply : ℕ → Machine → Reply
deletion_reply n s = cond (is_some (found n s.programs.stored)) (cond (in_use n s) (refused (InUse n)) done) (refused (OfStore (NotStored n)))

abbrev pub adding_reply : ℕ → List ℕ → Machine → Reply
adding_reply n line s = at_store (add_reply n line s.programs)

abbrev pub reply : Call → Machine → Reply
reply (OnAxis axis act) s =
    cond (axis == 1) (at_axis 1 (answered act s.programs s.first))
    (cond (axis == 2) (at_axis 2 (answered act s.programs s.second))
    (cond (axis == 3) (at_axis 3 (answered act s.programs s.third))
    (refused (NoSuchAxis axis (named act)))))
reply (Open n m) s = at_store (open_done n s.programs)
reply (Add n line) s = adding_reply n line.now s
reply (Close n) s = at_store (close_reply n s.programs)
reply (Abandon n) s = at_store (abandon_reply n s.programs)
reply (DeleteProgram n) s = deletion_reply n s

abbrev pub with_programs : Programs → Machine → Machine
with_programs p s = record { first = s.first; second = s.second; third = s.third; programs = p }

abbrev pub adding : ℕ → List ℕ → Machine → Machine
adding n line s = with_programs (added n line s.programs) s

abbrev pub deletion : ℕ → Machine → Machine
deletion n s = cond (is_some (found n s.programs.stored)) (cond (in_use n s) s (with_programs (deleted n s.programs) s)) s

abbrev pub if_named : Bool → Act → Programs → AxisState → AxisState
if_named b act p a = cond b (acted act p a) a

-- a call acts on the axis that it names alone, or on the store alone
abbrev pub step : Call → Machine → Machine
step (OnAxis axis act) s = record {
  first = if_named (axis == 1) act s.programs s.first;
  second = if_named (axis == 2) act s.programs s.second;
  third = if_named (axis == 3) act s.programs s.third;
  programs = s.programs;
}
step (Open n m) s = with_programs (opened n m s.programs) s
step (Add n line) s = adding n line.now s
step (Close n) s = with_programs (closed n s.programs) s
step (Abandon n) s = with_programs (abandoned n s.programs) s
step (DeleteProgram n) s = deletion n s

-- A RUN

-- a new module on drives that mean this: all levels off, no programs
abbrev pub new_machine : Meaning → Meaning → Meaning → Machine
new_machine x y z = record { first = new_axis x; second = new_axis y; third = new_axis z; programs = empty }

abbrev pub after : Machine → List Call → Machine
after s [] = s
after s (c ∷ cs) = after (step c s) cs

abbrev pub replies : Machine → List Call → List Reply
replies s [] = []
replies s (c ∷ cs) = reply c s ∷ replies (step c s) cs
