-- The numbers of the drive layer's faults.
use Rattle.std.specs.Prelude.{ℕ}
use Rattle.drives.specs.declared.fault.DriveFault.{DriveFault}
use Rattle.drives.specs.declared.fault.DriveFault.TheVariants.{NotMade, NotReadyToMove, NotReadyInMotion}

abbrev pub drive_number : DriveFault → ℕ
drive_number NotMade = 2
drive_number NotReadyToMove = 21
drive_number NotReadyInMotion = 24
