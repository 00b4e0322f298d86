-- The state of the coordinate machine: three axes and the programs.
use Rattle.store.specs.Programs.{Programs}
use Rattle.states.specs.State.{AxisState}

pub record Machine : Type 0 where
  pub first : AxisState
  pub second : AxisState
  pub third : AxisState
  pub programs : Programs
