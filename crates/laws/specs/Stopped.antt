-- Whether an axis has been stopped since it was last set off, by what it was asked and what that was answered.
use Rattle.std.specs.Prelude.{◌≡◌, Bool, true, false, cond, List, [], ◌∷◌, is_some, Ok, Err, Result, ◌==◌}
use Rattle.drives.specs.Meaning.{Meaning}
use Rattle.states.specs.declared.fault.AxisFault.{AxisFault}
use Rattle.states.specs.Faults.{cause_number}
use Rattle.states.specs.State.{Phase, standing, moving, braking, held, between, AxisState}
use Rattle.orders.specs.Modes.{stops}
use Rattle.laws.specs.Acts.{Act, entering, deleting, ordering, levelling, ticking, Event, act_reply, step, new_axis, after}
use Rattle.laws.specs.Laws.{is_accepted}

-- by whether an act was accepted, and whether it was answered 11: an accepted stop stops the axis, and so does an order that is
-- answered 11; after any other accepted order but 17, and after machine data are entered or deleted, it is not stopped
abbrev pub stop_after : Act → Bool → Bool → Bool → Bool
stop_after (entering d) accepted eleven stopped = cond accepted false stopped
stop_after deleting accepted eleven stopped = cond accepted false stopped
stop_after (ordering o) accepted eleven stopped =
    cond accepted (cond (stops o.command) true (cond (o.mode == 17) stopped false)) (cond eleven true stopped)
stop_after (levelling begin end ready) accepted eleven stopped = stopped
stop_after ticking accepted eleven stopped = stopped

abbrev pub is_eleven : Result (Unit {0}) AxisFault → Bool
is_eleven (Ok x) = false
is_eleven (Err f) = cause_number f.cause == 11

abbrev pub stop_next : Event → AxisState → Bool → Bool
stop_next e a stopped =
    stop_after e.act (is_accepted e a) (is_eleven (act_reply e.act e.programs a)) stopped

abbrev pub stop_given : AxisState → List Event → Bool → Bool
stop_given a [] stopped = stopped
stop_given a (e ∷ es) stopped = stop_given (step e a) es (stop_next e a stopped)

-- a move is braked, or was stopped before its target
abbrev pub brakes_or_unfinished : Phase → Bool
brakes_or_unfinished standing = false
brakes_or_unfinished (moving t) = false
brakes_or_unfinished (braking t) = true
brakes_or_unfinished (held c u) = is_some u
brakes_or_unfinished (between c) = false

-- that comes of a stop alone
abbrev pub Stopped : Type 0
Stopped = (m : Meaning) (es : List Event) → brakes_or_unfinished (after (new_axis m) es).status.work.phase ≡ true
    → stop_given (new_axis m) es false ≡ true
