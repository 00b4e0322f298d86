-- Entering and deleting machine data.
use Rattle.std.specs.Prelude.{◌≡◌, false, cond, ℤ, pos, Some, None, Ok, Err, Option, Result}
use Rattle.drives.specs.Meaning.{Meaning}
use Rattle.motion.specs.declared.raw.RawData.{RawData}
use Rattle.motion.specs.declared.fault.DataFault.{DataFault}
use Rattle.motion.specs.declared.machine.MachineData.{MachineData}
use Rattle.motion.specs.Questions.{refusal}
use Rattle.states.specs.declared.fault.Cause.{Cause}
use Rattle.states.specs.declared.fault.Cause.TheVariants.{DataWhileBusy, OfData, NoMachineData}
use Rattle.states.specs.declared.fault.AxisFault.{AxisFault}
use Rattle.states.specs.State.{standing, Work, Status, stands}
use Rattle.states.specs.Effects.{fault_at}

-- a new axis: Z, T, coordinate and the count at zero 0, mode 4, no program, no fault, no reference, not in position
abbrev pub new_work : Work
new_work = record { mode = 4; auxiliary = 2; fault = None; offset = pos 0; tool = pos 0; coordinate = pos 0; zero = pos 0; referenced = false; in_position = false; phase = standing }

-- as a new axis, but for the count at zero, which is given, and the fault, which stays
abbrev pub cleared : ℤ → Work → Work
cleared zero w = record new_work { fault = w.fault; zero = zero }

abbrev pub new_status : Status
new_status = record { begin = false; end = false; machine = None; work = new_work }

abbrev pub with_data : Option RawData → Work → Status → Status
with_data machine w s = record s { machine = machine; work = w }

abbrev pub data_cause : Option DataFault → Option Cause
data_cause None = None
data_cause (Some e) = Some (OfData e)

-- 4 and 5; making the ramp answers the last of them
unfoldable pub data_refusal : RawData → Option Cause
data_refusal d = data_cause (refusal d)

-- 3
abbrev pub standing_reply : Status → Result (Unit {0}) Cause
standing_reply s = cond (stands s.work.phase) (Ok tt) (Err DataWhileBusy)

-- 3, 4, 5
abbrev pub enter_no : RawData → Status → Option Cause
enter_no d s = cond (stands s.work.phase) (data_refusal d) (Some DataWhileBusy)

abbrev pub some_data : Option RawData → Option Cause
some_data None = Some NoMachineData
some_data (Some d) = None

-- 3, 7
abbrev pub delete_no : Status → Option Cause
delete_no s = cond (stands s.work.phase) (some_data s.machine) (Some DataWhileBusy)

abbrev pub call_reply : Option Cause → Result (Unit {0}) AxisFault
call_reply None = Ok tt
call_reply (Some cause) = Err (fault_at 0 0 cause)

-- a refusal changes nothing
abbrev pub unless : Option Cause → Status → Status → Status
unless None s next = next
unless (Some cause) s next = s

-- entering is a zeroing: n becomes 0
abbrev pub enter_step : RawData → Meaning → Status → Status
enter_step d m s = unless (enter_no d s) s (with_data (Some d) (cleared m.count s.work) s)

abbrev pub enter_reply : RawData → Status → Result (Unit {0}) AxisFault
enter_reply d s = call_reply (enter_no d s)

abbrev pub delete_step : Status → Status
delete_step s = unless (delete_no s) s (with_data None (cleared s.work.zero s.work) s)

abbrev pub delete_reply : Status → Result (Unit {0}) AxisFault
delete_reply s = call_reply (delete_no s)

-- what making machine data of what was sent gives
abbrev pub Checked : RawData → Result MachineData Cause → Type 0
Checked d (Ok m) = (data_refusal d ≡ None) × (m ≡ d)
Checked d (Err cause) = data_refusal d ≡ Some cause
