-- Laws of the coordinate machine over every run of acts on a new axis.
use Rattle.std.specs.Prelude.{◌≡◌, ◌⊎◌, ℕ, ◌≤◌, max, Bool, true, false, cond, List, [], ◌∷◌, ◌++◌, ℤ, pos, ◌+ℤ◌, is_ok, None, Ok, ◌==◌}
use Rattle.drives.specs.Meaning.{Meaning, Sound}
use Rattle.drives.specs.Sending.{told}
use Rattle.motion.specs.Travel.{Going, passing}
use Rattle.store.specs.Programs.{Programs}
use Rattle.states.specs.declared.order.Order.{Order}
use Rattle.states.specs.State.{Travel, Phase, standing, moving, braking, held, between, AxisState, stands, course_of}
use Rattle.states.specs.Moves.{direction_of, ticked_in, braked_in}
use Rattle.states.specs.Shift.{shift_of}
use Rattle.orders.specs.Modes.{stops}
use Rattle.ticks.specs.Moving.{stopped_short}
use Rattle.ticks.specs.Ticks.{trouble_of}
use Rattle.laws.specs.Acts.{Act, entering, deleting, ordering, levelling, ticking, Event, act_reply, step, new_axis, after, ticks}
use Rattle.laws.specs.Kept.{Kept}

-- THE INVARIANT: whatever is asked of a new axis on a drive, and whatever is in store
abbrev pub Invariant : Type 0
Invariant = (m : Meaning) → Sound m → (es : List Event) → Kept (after (new_axis m) es)

-- NO PULSE IS REFUSED: the drive takes every pulse that a tick asks of it

-- the pulses of the tick of a move from what is under way to g
abbrev pub Taken : AxisState → Travel → Going → Type 0
Taken a t g = told (direction_of t.distance) (passing t.going g).pulses a.drive ≡ Ok tt

abbrev pub TakenIn : Phase → AxisState → Type 0
TakenIn standing a = Unit {0}
TakenIn (moving t) a = trouble_of t a ≡ None → Taken a t (ticked_in a.status.machine t.going)
TakenIn (braking t) a = trouble_of t a ≡ None → Taken a t (braked_in a.status.machine t.going)
TakenIn (held c u) a = Unit {0}
TakenIn (between c) a = Unit {0}

abbrev pub NoPulseRefused : Type 0
NoPulseRefused = (m : Meaning) → Sound m → (es : List Event) → TakenIn (after (new_axis m) es).status.work.phase (after (new_axis m) es)

-- THE STOP

-- the ramp step of the axis's move, 0 without one
abbrev pub ramp_step : Phase → ℕ
ramp_step standing = 0
ramp_step (moving t) = t.going.step
ramp_step (braking t) = t.going.step
ramp_step (held c u) = 0
ramp_step (between c) = 0

abbrev pub step_of : AxisState → ℕ
step_of a = ramp_step a.status.work.phase

abbrev pub stands_in : AxisState → Bool
stands_in a = stands a.status.work.phase

-- what a stop leads to: a move stops short, and its program is held with the target unfinished; between blocks it is held
abbrev pub rest_of : Phase → Phase
rest_of standing = standing
rest_of (moving t) = stopped_short t.target t.course
rest_of (braking t) = stopped_short t.target t.course
rest_of (held c u) = held c u
rest_of (between c) = held c None

-- the axis has come to that, or a stop at once has taken its reference
abbrev pub RestsIn : Phase → AxisState → Type 0
RestsIn p a = (a.status.work.phase ≡ p) ⊎ (a.status.work.referenced ≡ false)

-- a run is empty, or its last act is a tick
abbrev pub EndsInTick : List Event → Type 0
EndsInTick es =
    (es ≡ []) ⊎ ((front : List Event) × (p : Programs) × (es ≡ front ++ record { act = ticking; programs = p } ∷ []))

-- some front of a run with at most n ticks, that is empty or ends in a tick, leaves the axis standing, at rest in p
abbrev pub StandsWithin : ℕ → Phase → AxisState → List Event → Type 0
StandsWithin n p a later =
    (soon : List Event) × (rest : List Event) × (later ≡ soon ++ rest) × (ticks soon ≤ n)
    × (stands_in (after a soon) ≡ true) × RestsIn p (after a soon) × EndsInTick soon

-- wherever a run is split at an accepted stop: once what follows has max(r, 1) ticks, r the ramp step before the stop, the
-- axis has come to stand within them, whatever comes between, and holds the program that ran
abbrev pub Stop : Type 0
Stop = (m : Meaning) → Sound m → (before later : List Event) (o : Order) (p : Programs) (a : AxisState)
    → a ≡ after (new_axis m) before → stops o.command ≡ true → act_reply (ordering o) p a ≡ Ok tt
    → max (step_of a) 1 ≤ ticks later
    → StandsWithin (max (step_of a) 1) (rest_of a.status.work.phase) (step record { act = ordering o; programs = p } a) later

-- a braking axis has a ramp step r and stands by the r-th tick, whatever comes between
abbrev pub Braking : Type 0
Braking = (m : Meaning) → Sound m → (before later : List Event) (a : AxisState) (t : Travel)
    → a ≡ after (new_axis m) before → a.status.work.phase ≡ braking t
    → max t.going.step 1 ≤ ticks later → StandsWithin (max t.going.step 1) (rest_of (braking t)) a later

-- THE SHIFT

-- what an accepted order of mode n with the double word x does to Z and to T: 12 gives an absolute value, 13 a relative one,
-- 14 zero; 15 a tool value, 16 zero
abbrev pub offset_at : ℕ → ℤ → ℤ → ℤ
offset_at n x z = cond (n == 12) x (cond (n == 13) (z +ℤ x) (cond (n == 14) (pos 0) z))

abbrev pub tool_at : ℕ → ℤ → ℤ → ℤ
tool_at n x t = cond (n == 15) x (cond (n == 16) (pos 0) t)

-- the values that a run has given, from the acts and whether each was accepted; entering and deleting machine data give zeros
abbrev pub offset_after : Act → ℤ → ℤ
offset_after (entering d) z = pos 0
offset_after deleting z = pos 0
offset_after (ordering o) z = offset_at o.mode o.double z
offset_after (levelling begin end ready) z = z
offset_after ticking z = z

abbrev pub tool_after : Act → ℤ → ℤ
tool_after (entering d) t = pos 0
tool_after deleting t = pos 0
tool_after (ordering o) t = tool_at o.mode o.double t
tool_after (levelling begin end ready) t = t
tool_after ticking t = t

-- whether an act is accepted
abbrev pub is_accepted : Event → AxisState → Bool
is_accepted e a = is_ok (act_reply e.act e.programs a)

abbrev pub offset_given : AxisState → List Event → ℤ → ℤ
offset_given a [] z = z
offset_given a (e ∷ es) z = offset_given (step e a) es (cond (is_accepted e a) (offset_after e.act z) z)

abbrev pub tool_given : AxisState → List Event → ℤ → ℤ
tool_given a [] t = t
tool_given a (e ∷ es) t = tool_given (step e a) es (cond (is_accepted e a) (tool_after e.act t) t)

-- outside a program the shift is what the accepted orders gave since the machine data came: nothing that a program did stays in it
abbrev pub ShiftIs : AxisState → ℤ → Type 0
ShiftIs a z = course_of a.status.work.phase ≡ None → shift_of a.status.machine a.status.work ≡ z

abbrev pub Shift : Type 0
Shift = (m : Meaning) (es : List Event)
    → ShiftIs (after (new_axis m) es) (offset_given (new_axis m) es (pos 0) +ℤ tool_given (new_axis m) es (pos 0))
