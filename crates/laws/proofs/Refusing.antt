-- What every axis keeps through a stop, a refused order, an order that clears the fault and one that sets the mode.
use Rattle.std.proofs.Common.{◌≡◌, ℕ, Bool, true, false, cond, eqb, ℤ, Some, None, Option, refl, ap, ◌∙◌}
use Rattle.drives.specs.Meaning.{Meaning, Sound}
use Rattle.motion.specs.declared.raw.RawData.{RawData}
use Rattle.states.specs.declared.fault.AxisFault.{AxisFault}
use Rattle.states.specs.Faults.{cause_number}
use Rattle.states.specs.State.{Phase, standing, moving, braking, held, between, Work, AxisState, with_fault, with_phase, course_of, stopped}
use Rattle.orders.specs.Effects.{taken, halted, refused_by}
use Rattle.laws.specs.Kept.{KeptIn, KeptBy, Quiet}
use Rattle.laws.proofs.Doing.{doing_keeps}

-- what an axis keeps in its working values
abbrev pub Holds : Option RawData → Meaning → Work → Type 0
Holds o m w = KeptBy o m w × Quiet w

-- all that an axis keeps but for its program
abbrev pub Holding : AxisState → Type 0
Holding a = Sound a.drive × KeptBy a.status.machine a.drive a.status.work × Quiet a.status.work

-- a stop asks no more of what is being done
stopped_keeps : (p : Phase) (d : RawData) (m : Meaning) (zero : ℤ) (r : Bool) → KeptIn p d m zero r
    → KeptIn (stopped p) d m zero r
stopped_keeps standing d m zero r k = tt
stopped_keeps (moving t) d m zero r k = k
stopped_keeps (braking t) d m zero r k = k
stopped_keeps (held c u) d m zero r k = k
stopped_keeps (between c) d m zero r k = tt

-- a stop keeps the program
pub stopped_course : (p : Phase) → course_of (stopped p) ≡ course_of p
stopped_course standing = refl
stopped_course (moving t) = refl
stopped_course (braking t) = refl
stopped_course (held c u) = refl
stopped_course (between c) = refl

-- with another fault all is kept
fault_holds : (f : Option AxisFault) (o : Option RawData) (m : Meaning) (w : Work) → Holds o m w → Holds o m (with_fault f w)
fault_holds f None m w h = (h.0, h.1)
fault_holds f (Some d) m w h = (doing_keeps d m w h.0 h.0.doing, h.1)

-- a stop
stop_holds : (o : Option RawData) (m : Meaning) (w : Work) → Holds o m w → Holds o m (with_phase (stopped w.phase) w)
stop_holds None m w h = ((ap stopped h.0.0, h.0.1), λ n. let q = h.1 n in (q.0, stopped_course w.phase ∙ q.1))
stop_holds (Some d) m w h = (
  doing_keeps d m w h.0 (stopped_keeps w.phase d m w.zero w.referenced h.0.doing),
  λ n. let q = h.1 n in (q.0, stopped_course w.phase ∙ q.1),
)

-- what is being done stays
same_phase : (o : Option RawData) (m : Meaning) (w : Work) → Holds o m w → Holds o m (with_phase w.phase w)
same_phase None m w h = h
same_phase (Some d) m w h = (doing_keeps d m w h.0 h.0.doing, h.1)

-- by its number a fault stops the axis or not
refused_by_number : (b : Bool) (o : Option RawData) (m : Meaning) (w : Work) → Holds o m w
    → Holds o m (with_phase (cond b (stopped w.phase) w.phase) w)
refused_by_number true o m w h = stop_holds o m w h
refused_by_number false o m w h = same_phase o m w h

-- a refused order
pub refused_holds : (f : AxisFault) (o : Option RawData) (m : Meaning) (w : Work) → Holds o m w → Holds o m (refused_by f w)
refused_holds f o m w h =
    let b = eqb (cause_number f.cause) 11 in
    fault_holds (Some f) o m (with_phase (cond b (stopped w.phase) w.phase) w) (refused_by_number b o m w h)

-- an accepted stop
pub halt_holds : (o : Option RawData) (m : Meaning) (w : Work) → Holds o m w → Holds o m (halted w)
halt_holds o m w h = fault_holds None o m (with_phase (stopped w.phase) w) (stop_holds o m w h)

-- an order that only clears the fault
pub clear_holds : (o : Option RawData) (m : Meaning) (w : Work) → Holds o m w → Holds o m (with_fault None w)
clear_holds o m w h = fault_holds None o m w h

-- an order that sets the mode
pub mode_holds : (mode : ℕ) (o : Option RawData) (m : Meaning) (w : Work) → Holds o m w → Holds o m (taken mode w)
mode_holds mode None m w h = ((refl, h.0.1), λ n. (refl, refl))
mode_holds mode (Some d) m w h = (doing_keeps d m w h.0 tt, λ n. (refl, refl))
