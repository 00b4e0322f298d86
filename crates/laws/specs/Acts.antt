-- The coordinate machine of one axis: what each act answers and leaves, and whole runs of acts.
use Rattle.std.specs.Prelude.{ℕ, ◌+◌, Bool, false, List, [], ◌∷◌, Ok, Result}
use Rattle.drives.specs.Meaning.{Meaning, levelled}
use Rattle.motion.specs.declared.raw.RawData.{RawData}
use Rattle.store.specs.Programs.{Programs}
use Rattle.states.specs.declared.order.Order.{Order}
use Rattle.states.specs.declared.fault.AxisFault.{AxisFault}
use Rattle.states.specs.State.{Status, AxisState}
use Rattle.states.specs.Entry.{new_status, enter_step, enter_reply, delete_step, delete_reply}
use Rattle.orders.specs.Orders.{order_step, order_reply}
use Rattle.ticks.specs.Ticks.{with_status, tick_step, tick_reply}

-- what a host asks of an axis; observing changes nothing and is no act
pub data Act : Type 0 where
  entering : RawData → Act
  deleting : Act
  ordering : Order → Act
  levelling : Bool → Bool → Bool → Act
  ticking : Act

abbrev pub with_switches : Bool → Bool → Status → Status
with_switches begin end s = record { begin = begin; end = end; machine = s.machine; work = s.work }

-- the levels: the two switches, and whether the drive is ready
abbrev pub levels_step : Bool → Bool → Bool → AxisState → AxisState
levels_step begin end ready a = record { drive = levelled ready a.drive; status = with_switches begin end a.status }

abbrev pub enter_axis : RawData → AxisState → AxisState
enter_axis d a = with_status (enter_step d a.drive a.status) a

abbrev pub delete_axis : AxisState → AxisState
delete_axis a = with_status (delete_step a.status) a

abbrev pub order_axis : Order → Programs → AxisState → AxisState
order_axis o p a = with_status (order_step o p a.drive a.status) a

-- with the programs that are in store
abbrev pub act_step : Act → Programs → AxisState → AxisState
act_step (entering d) p a = enter_axis d a
act_step deleting p a = delete_axis a
act_step (ordering o) p a = order_axis o p a
act_step (levelling begin end ready) p a = levels_step begin end ready a
act_step ticking p a = tick_step p a

abbrev pub act_reply : Act → Programs → AxisState → Result (Unit {0}) AxisFault
act_reply (entering d) p a = enter_reply d a.status
act_reply deleting p a = delete_reply a.status
act_reply (ordering o) p a = order_reply o p a.drive a.status
act_reply (levelling begin end ready) p a = Ok tt
act_reply ticking p a = tick_reply p a

-- a new axis on a drive: all levels off, mode 4, the rest empty or 0
abbrev pub new_axis : Meaning → AxisState
new_axis m = record { drive = levelled false m; status = new_status }

-- an act, with the programs that are in store when it comes
pub record Event : Type 0 where
  pub act : Act
  pub programs : Programs

abbrev pub step : Event → AxisState → AxisState
step e a = act_step e.act e.programs a

abbrev pub after : AxisState → List Event → AxisState
after a [] = a
after a (e ∷ es) = after (step e a) es

-- how many ticks a run has
abbrev pub is_tick : Act → ℕ
is_tick (entering d) = 0
is_tick deleting = 0
is_tick (ordering o) = 0
is_tick (levelling begin end ready) = 0
is_tick ticking = 1

abbrev pub ticks : List Event → ℕ
ticks [] = 0
ticks (e ∷ es) = is_tick e.act + ticks es
