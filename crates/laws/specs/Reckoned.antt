-- What is reckoned from the acts of a run alone, from whether each was accepted, and from the drive's count when it came:
-- the machine data, the count at zero and the reference; and the laws of the coordinate in these words.
use Rattle.std.specs.Prelude.{◌≡◌, Bool, true, false, cond, ◌&&◌, ◌||◌, List, [], ◌∷◌, ℤ, pos, ◌-ℤ◌, is_ok, Some, None, Ok, Err, Option, Result, ◌==◌}
use Rattle.drives.specs.Meaning.{Meaning, Sound}
use Rattle.motion.specs.declared.raw.RawData.{RawData}
use Rattle.motion.specs.Places.{pulses_by}
use Rattle.motion.specs.Laws.{Near}
use Rattle.states.specs.declared.fault.AxisFault.{AxisFault}
use Rattle.states.specs.Faults.{cause_number}
use Rattle.states.specs.State.{AxisState}
use Rattle.laws.specs.Acts.{Act, entering, deleting, ordering, levelling, ticking, Event, act_reply, step, new_axis, after}
use Rattle.laws.specs.Kept.{InLimits}
use Rattle.laws.specs.Laws.{is_accepted}

-- THE MACHINE DATA

-- after an accepted act: those of the last entry, none after a deletion
abbrev pub data_after : Act → Option RawData → Option RawData
data_after (entering d) o = Some d
data_after deleting o = None
data_after (ordering x) o = o
data_after (levelling begin end ready) o = o
data_after ticking o = o

-- a refused act changes nothing
abbrev pub data_next : Event → AxisState → Option RawData → Option RawData
data_next e a o = cond (is_accepted e a) (data_after e.act o) o

abbrev pub data_given : AxisState → List Event → Option RawData → Option RawData
data_given a [] o = o
data_given a (e ∷ es) o = data_given (step e a) es (data_next e a o)

abbrev pub Data : Type 0
Data = (m : Meaning) (es : List Event) → (after (new_axis m) es).status.machine ≡ data_given (new_axis m) es None

-- THE COUNT AT ZERO

-- mode 5: the count less the pulses of the reference coordinate
abbrev pub reference_zero : Option RawData → ℤ → ℤ → ℤ
reference_zero None count z = z
reference_zero (Some d) count z = count -ℤ pulses_by d d.reference

-- after an accepted act, by the machine data and the drive's count before it: an entry sets it to the count, an order of
-- mode 5 by the reference coordinate, and nothing else sets it
abbrev pub zero_after : Act → Option RawData → ℤ → ℤ → ℤ
zero_after (entering d) o count z = count
zero_after deleting o count z = z
zero_after (ordering x) o count z = cond (x.mode == 5) (reference_zero o count z) z
zero_after (levelling begin end ready) o count z = z
zero_after ticking o count z = z

abbrev pub zero_next : Event → AxisState → Option RawData → ℤ → ℤ
zero_next e a o z = cond (is_accepted e a) (zero_after e.act o a.drive.count z) z

-- with the machine data as they are reckoned
abbrev pub zero_given : AxisState → List Event → Option RawData → ℤ → ℤ
zero_given a [] o z = z
zero_given a (e ∷ es) o z = zero_given (step e a) es (data_next e a o) (zero_next e a o z)

-- with machine data or without
abbrev pub Zero : Type 0
Zero = (m : Meaning) (es : List Event) → (after (new_axis m) es).status.work.zero ≡ zero_given (new_axis m) es None (pos 0)

-- THE REFERENCE

-- the faults that lose it: 23 and 24
abbrev pub loses : Result (Unit {0}) AxisFault → Bool
loses (Ok x) = false
loses (Err f) = cause_number f.cause == 23 || cause_number f.cause == 24

-- by what an act is answered: an accepted order of mode 5 gives it; an accepted entry or deletion of machine data loses it,
-- and so does a tick that is answered 23 or 24
abbrev pub reference_after : Act → Result (Unit {0}) AxisFault → Bool → Bool
reference_after (entering d) reply r = cond (is_ok reply) false r
reference_after deleting reply r = cond (is_ok reply) false r
reference_after (ordering x) reply r = cond (is_ok reply && x.mode == 5) true r
reference_after (levelling begin end ready) reply r = r
reference_after ticking reply r = cond (loses reply) false r

abbrev pub reference_next : Event → AxisState → Bool → Bool
reference_next e a r = reference_after e.act (act_reply e.act e.programs a) r

abbrev pub reference_given : AxisState → List Event → Bool → Bool
reference_given a [] r = r
reference_given a (e ∷ es) r = reference_given (step e a) es (reference_next e a r)

abbrev pub Reference : Type 0
Reference = (m : Meaning) (es : List Event) → (after (new_axis m) es).status.work.referenced ≡ reference_given (new_axis m) es false

-- THE COORDINATE

-- with machine data, the pulses from zero and the coordinate lie within half a unit or half a pulse of each other
abbrev pub DriftBound : Type 0
DriftBound = (m : Meaning) → Sound m → (es : List Event) (d : RawData) → data_given (new_axis m) es None ≡ Some d
    → Near d.units d.pulses ((after (new_axis m) es).drive.count -ℤ zero_given (new_axis m) es None (pos 0))
    (after (new_axis m) es).status.work.coordinate

-- with machine data and a reference, the coordinate is within the limits
abbrev pub Limits : Type 0
Limits = (m : Meaning) → Sound m → (es : List Event) (d : RawData) → data_given (new_axis m) es None ≡ Some d
    → reference_given (new_axis m) es false ≡ true → InLimits d (after (new_axis m) es).status.work.coordinate
