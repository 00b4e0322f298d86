-- With the axis where it is, only what it does is to be shown.
use Rattle.std.proofs.Common.{ℕ, Bool, ℤ, Option}
use Rattle.drives.specs.Meaning.{Meaning}
use Rattle.motion.specs.declared.raw.RawData.{RawData}
use Rattle.states.specs.declared.fault.AxisFault.{AxisFault}
use Rattle.states.specs.State.{Phase, Work}
use Rattle.laws.specs.Kept.{KeptIn, KeptWith}

pub doing_keeps : (d : RawData) (m : Meaning) (w : Work) → KeptWith d m w
    → {mode auxiliary : ℕ} {fault : Option AxisFault} {offset tool : ℤ} {in_position : Bool} {p : Phase}
    → KeptIn p d m w.zero w.referenced
    → KeptWith d m (record {
      mode = mode;
      auxiliary = auxiliary;
      fault = fault;
      offset = offset;
      tool = tool;
      coordinate = w.coordinate;
      zero = w.zero;
      referenced = w.referenced;
      in_position = in_position;
      phase = p;
    })
doing_keeps d m w k h = record { range = k.range; agree = k.agree; drift = k.drift; limits = k.limits; doing = h }
