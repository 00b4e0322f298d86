-- What entering machine data answers.
use Rattle.std.specs.Prelude.{◌≡◌, Ok, Err, Result}
use Rattle.std.specs.Result.{result_err}
use Rattle.motion.specs.declared.raw.RawData.{RawData}
use Rattle.motion.specs.declared.machine.MachineData.{MachineData}
use Rattle.motion.specs.declared.fault.DataFault.{DataFault}
use Rattle.motion.specs.declared.fault.DataFault.TheVariants.{OutOfRange, Disagree}
use Rattle.motion.specs.Data.{InRange, Agree}
use Rattle.motion.specs.Questions.{refusal}

-- when each fault is due
abbrev pub Refused : RawData → DataFault → Type 0
Refused d OutOfRange = InRange d → ⊥
Refused d Disagree = InRange d × (Agree d → ⊥)

-- what is made holds exactly what was sent, in range and agreeing; a fault comes exactly when it is due
abbrev pub Checked : RawData → Result MachineData DataFault → Type 0
Checked d (Ok m) = InRange d × Agree d × (m ≡ d)
Checked d (Err e) = Refused d e

-- the answer to data: the fault of the first question that fails, and what each answer says
abbrev pub Entered : RawData → Result MachineData DataFault → Type 0
Entered d r = (result_err r ≡ refusal d) × Checked d r
