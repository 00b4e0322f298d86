-- Which number and which layer each fault of an axis has.
use Rattle.std.specs.Prelude.{ℕ}
use Rattle.motion.specs.Faults as of_data
use Rattle.drives.specs.Faults.{drive_number}
use Rattle.states.specs.declared.fault.Cause.{Cause}
use Rattle.states.specs.declared.fault.Cause.TheVariants.{DataWhileBusy, OfData, NoMachineData, UnknownMode, NotAdmitted, StillBraking, NotStanding, NotReferenced, ValueOutside, NotStored, OtherMeasure, NothingHeld, HeldNotStored, RateOutside, TargetOutside, CountOutside, ShiftOutside, SwitchAhead, OfDrive}
use Rattle.states.specs.declared.fault.Layer.{Layer}
use Rattle.states.specs.declared.fault.Layer.TheVariants as layer

abbrev pub cause_number : Cause → ℕ
cause_number DataWhileBusy = 3
cause_number (OfData e) = of_data.number_of e
cause_number NoMachineData = 7
cause_number UnknownMode = 8
cause_number NotAdmitted = 9
cause_number StillBraking = 10
cause_number NotStanding = 11
cause_number NotReferenced = 12
cause_number ValueOutside = 13
cause_number NotStored = 14
cause_number OtherMeasure = 15
cause_number NothingHeld = 16
cause_number HeldNotStored = 17
cause_number RateOutside = 18
cause_number TargetOutside = 19
cause_number CountOutside = 20
cause_number ShiftOutside = 22
cause_number SwitchAhead = 23
cause_number (OfDrive e) = drive_number e

abbrev pub cause_layer : Cause → Layer
cause_layer DataWhileBusy = layer.Axis
cause_layer (OfData e) = layer.Axis
cause_layer NoMachineData = layer.Axis
cause_layer UnknownMode = layer.Axis
cause_layer NotAdmitted = layer.Axis
cause_layer StillBraking = layer.Axis
cause_layer NotStanding = layer.Axis
cause_layer NotReferenced = layer.Axis
cause_layer ValueOutside = layer.Axis
cause_layer NotStored = layer.Store
cause_layer OtherMeasure = layer.Axis
cause_layer NothingHeld = layer.Axis
cause_layer HeldNotStored = layer.Store
cause_layer RateOutside = layer.Axis
cause_layer TargetOutside = layer.Axis
cause_layer CountOutside = layer.Axis
cause_layer ShiftOutside = layer.Axis
cause_layer SwitchAhead = layer.Axis
cause_layer (OfDrive e) = layer.Drive
