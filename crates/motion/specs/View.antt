-- The numbers of a mover: its machine data, and its move in progress.
use Rattle.motion.specs.declared.raw.RawData.{RawData}
use Rattle.motion.specs.declared.mover.Mover.{Mover}
use Rattle.motion.specs.Ramp.{Ramp, ramp_of}
use Rattle.motion.specs.Travel.{Going}

abbrev pub mover_data : Mover → RawData
mover_data m = m.machine

abbrev pub going_of : Mover → Going
going_of m = record { rate = m.rate; total = m.total; left = m.left; step = m.place.step }

abbrev pub mover_ramp : Mover → Ramp
mover_ramp m = ramp_of (mover_data m)
