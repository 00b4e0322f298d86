-- The numbers of the faults of machine data.
use Rattle.std.specs.Prelude.{ℕ}
use Rattle.motion.specs.declared.fault.DataFault.{DataFault}
use Rattle.motion.specs.declared.fault.DataFault.TheVariants.{OutOfRange, Disagree}

abbrev pub number_of : DataFault → ℕ
number_of OutOfRange = 4
number_of Disagree = 5
