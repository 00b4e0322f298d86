-- What a refusal does: what its number says, and nothing else.
use Rattle.std.specs.Prelude.{◌≡◌, ℕ, Bool, true, false, cond, ◌&&◌, ◌||◌, is_some, Some, None, ◌==◌, nat_le}
use Rattle.states.specs.declared.fault.AxisFault.{AxisFault}
use Rattle.states.specs.Faults.{cause_number}
use Rattle.states.specs.State.{Course, Travel, standing, between, Work, AxisState, with_work}
use Rattle.orders.specs.Effects.{stopped_by}
use Rattle.ticks.specs.Moving.{placed}
use Rattle.ticks.specs.Ticks.{with_status}
use Rattle.laws.specs.Blocks.{move_of}
use Rattle.module.specs.declared.call.Act.{Act}
use Rattle.module.specs.declared.call.Act.TheVariants.{Enter, Delete, Order, Level, Tick, Observe}
use Rattle.module.specs.declared.call.Call.{Call}
use Rattle.module.specs.declared.call.Call.TheVariants.{OnAxis, Open, Add, Close, Abandon, DeleteProgram}
use Rattle.module.specs.declared.fault.Fault.{Fault}
use Rattle.module.specs.declared.fault.Fault.TheVariants.{OfAxis}
use Rattle.module.specs.Faults.{number_of}
use Rattle.module.specs.State.{Machine}
use Rattle.module.specs.History.{Which, number, axis_at}
use Rattle.module.specs.Machine.{refused, reply, with_programs, step}

-- an axis with other working values
abbrev pub with_values : Work → AxisState → AxisState
with_values w a = with_status (with_work w a.status) a

-- AN ORDER: the refusal is its axis's fault, and 11 also acts as a stop
abbrev pub OrderRefused : AxisFault → AxisState → AxisState → Type 0
OrderRefused f a b = b ≡ with_values (record a.status.work { fault = Some f; phase = stopped_by f a.status.work.phase }) a

-- A TICK: the refusal is its axis's fault, and the program is over

-- 23 and 24 stop a move where it is, and the reference is lost
abbrev pub StoppedAtOnce : AxisFault → AxisState → AxisState → Type 0
StoppedAtOnce f a b = (t : Travel) × (move_of a.status.work.phase ≡ Some t) × (b ≡ with_values (record a.status.work {
  fault = Some f;
  coordinate = placed a.status.machine t a.drive.count a.status.work;
  referenced = false;
  phase = standing;
}) a)

-- the others are of the block that comes between two blocks; it is not taken
abbrev pub BlockRefused : AxisFault → AxisState → AxisState → Type 0
BlockRefused f a b = (c : Course) × (a.status.work.phase ≡ between c)
    × (b ≡ with_values (record a.status.work { fault = Some f; phase = standing }) a)

-- 23 and 24
abbrev pub stops_at_once : ℕ → Bool
stops_at_once n = n == 23 || n == 24

-- these, and 18 to 21
abbrev pub of_tick : ℕ → Bool
of_tick n = (nat_le 18 n && nat_le n 21) || stops_at_once n

-- an axis runs a program, and moves, with machine data alone
pub record TickRefused (f : AxisFault) (a b : AxisState) : Type 0 where
  pub number : is_some a.status.machine ≡ true → of_tick (cause_number f.cause) ≡ true
  pub at_once : stops_at_once (cause_number f.cause) ≡ true → StoppedAtOnce f a b
  pub not_taken : stops_at_once (cause_number f.cause) ≡ false → BlockRefused f a b

-- AN ACT of an axis: levels and observing are never refused, and other refusals change nothing
abbrev pub ActRefused : Act → AxisFault → AxisState → AxisState → Type 0
ActRefused (Enter raw) f a b = b ≡ a
ActRefused Delete f a b = b ≡ a
ActRefused (Order o) f a b = OrderRefused f a b
ActRefused (Level l) f a b = ⊥
ActRefused Tick f a b = TickRefused f a b
ActRefused Observe f a b = ⊥

-- of the three axes the one that the call names alone, and the refusal is its fault
abbrev pub RefusedAt : Bool → ℕ → Act → Fault → AxisState → AxisState → Type 0
RefusedAt true axis act f a b = (g : AxisFault) × (f ≡ OfAxis axis g) × ActRefused act g a b
RefusedAt false axis act f a b = b ≡ a

pub record OnAxisRefused (axis : ℕ) (act : Act) (f : Fault) (s t : Machine) : Type 0 where
  pub axes : (w : Which) → RefusedAt (axis == number w) axis act f (axis_at w s) (axis_at w t)
  pub programs : t.programs ≡ s.programs

-- A CALL: 35 ends the entry too

abbrev pub without_entry : Machine → Machine
without_entry s = with_programs (record s.programs { entry = None }) s

-- what a refused call makes of a machine s
abbrev pub RefusedBy : Call → Fault → Machine → Machine → Type 0
RefusedBy (OnAxis axis act) f s t = OnAxisRefused axis act f s t
RefusedBy (Open n m) f s t = t ≡ s
RefusedBy (Add n line) f s t = t ≡ s
RefusedBy (Close n) f s t = t ≡ cond (number_of f == 35) (without_entry s) s
RefusedBy (Abandon n) f s t = t ≡ s
RefusedBy (DeleteProgram n) f s t = t ≡ s

abbrev pub Refusals : Type 0
Refusals = (c : Call) (s : Machine) (f : Fault) → reply c s ≡ refused f → RefusedBy c f s (step c s)
