-- What observing answers.
use Rattle.std.specs.Prelude.{ℕ, ◌+◌, Bool, true, false, cond, not, ℤ, pos, ◌-ℤ◌, is_some, Some, None, Option}
use Rattle.units.specs.declared.Measure.{Measure}
use Rattle.units.specs.declared.Measure.TheVariants.{Millimetre, Inch, Degree}
use Rattle.motion.specs.declared.raw.RawData.{RawData}
use Rattle.states.specs.declared.fault.AxisFault.{AxisFault}
use Rattle.states.specs.declared.observation.Observation.{Observation}
use Rattle.states.specs.Mode.{mode_number}
use Rattle.states.specs.State.{Phase, standing, moving, braking, held, between, Work, Status, stands}
use Rattle.states.specs.Shift.{shift_of}

-- with a move: target less coordinate; else 0
abbrev pub rest_in : Phase → ℤ → ℤ
rest_in standing coordinate = pos 0
rest_in (moving t) coordinate = t.target -ℤ coordinate
rest_in (braking t) coordinate = t.target -ℤ coordinate
rest_in (held c u) coordinate = pos 0
rest_in (between c) coordinate = pos 0

abbrev pub in_degrees : Measure → Bool
in_degrees Millimetre = false
in_degrees Inch = false
in_degrees Degree = true

abbrev pub in_millimetres : Measure → Bool
in_millimetres Millimetre = true
in_millimetres Inch = false
in_millimetres Degree = false

-- bits 0 and 1: degrees and metric; without machine data neither
abbrev pub measured : (Measure → Bool) → Option RawData → Bool
measured is None = false
measured is (Some d) = is d.measure

abbrev pub bit : Bool → ℕ → ℕ
bit b value = cond b value 0

-- bit 2 in position, 3 referenced, 5 reference missing, 6 machine data missing, 7 standing
abbrev pub feedback_of : Option RawData → Work → ℕ
feedback_of machine w =
    bit (measured in_degrees machine) 1
    + bit (measured in_millimetres machine) 2
    + bit w.in_position 4
    + bit w.referenced 8
    + bit (not w.referenced) 32
    + bit (not (is_some machine)) 64
    + bit (stands w.phase) 128

-- what observing shows, all of it in numbers; its fault is of the kind F of whoever shows it
pub record Shown (F : Type 0) : Type 0 where
  pub mode : ℕ
  pub auxiliary : ℕ
  pub coordinate : ℤ
  pub shift : ℤ
  pub actual : ℤ
  pub rest : ℤ
  pub fault : Option F
  pub feedback : ℕ

abbrev pub shown_by : {F : Type 0} → Observation F → Shown F
shown_by o = record { mode = mode_number o.mode; auxiliary = o.auxiliary; coordinate = o.coordinate; shift = o.shift; actual = o.actual; rest = o.rest; fault = o.fault; feedback = o.feedback }

-- the same with a fault of another kind
abbrev pub shown_with : {F G : Type 0} → Option G → Shown F → Shown G
shown_with f o = record { mode = o.mode; auxiliary = o.auxiliary; coordinate = o.coordinate; shift = o.shift; actual = o.actual; rest = o.rest; fault = f; feedback = o.feedback }

abbrev pub observed : Status → Shown AxisFault
observed s = record {
  mode = s.work.mode;
  auxiliary = s.work.auxiliary;
  coordinate = s.work.coordinate;
  shift = shift_of s.machine s.work;
  actual = s.work.coordinate -ℤ shift_of s.machine s.work;
  rest = rest_in s.work.phase s.work.coordinate;
  fault = s.work.fault;
  feedback = feedback_of s.machine s.work;
}
