-- The program that an axis may run or hold, by what it was asked and whether that was accepted.
use Rattle.std.specs.Prelude.{◌≡◌, ℕ, Bool, cond, ◌||◌, List, [], ◌∷◌, Some, None, Option, ◌==◌}
use Rattle.drives.specs.Meaning.{Meaning}
use Rattle.states.specs.declared.order.Order.{Order}
use Rattle.states.specs.State.{Course, AxisState, course_of}
use Rattle.orders.specs.Modes.{stops, takes_over}
use Rattle.orders.specs.Orders.{names_program}
use Rattle.laws.specs.Acts.{Act, entering, deleting, ordering, levelling, ticking, Event, step, new_axis, after}
use Rattle.laws.specs.Laws.{is_accepted}

-- after an accepted order: a start of mode 8 or 9 starts the program that it names, a stop, a take-over and 17 leave the one
-- that there is, and any other order ends it
abbrev pub program_ordered : Order → Option ℕ → Option ℕ
program_ordered o n =
    cond (names_program o) (Some o.byte) (cond (stops o.command || takes_over o.command || o.mode == 17) n None)

-- the program of the last accepted start, until an order ends it, machine data are entered or deleted, or a tick is answered
-- by a fault
abbrev pub program_after : Act → Bool → Option ℕ → Option ℕ
program_after (entering d) accepted n = cond accepted None n
program_after deleting accepted n = cond accepted None n
program_after (ordering o) accepted n = cond accepted (program_ordered o n) n
program_after (levelling begin end ready) accepted n = n
program_after ticking accepted n = cond accepted n None

abbrev pub program_given : AxisState → List Event → Option ℕ → Option ℕ
program_given a [] n = n
program_given a (e ∷ es) n = program_given (step e a) es (program_after e.act (is_accepted e a) n)

-- a program that runs or is held is that one
abbrev pub Started : Type 0
Started = (m : Meaning) (es : List Event) (c : Course) → course_of (after (new_axis m) es).status.work.phase ≡ Some c
    → program_given (new_axis m) es None ≡ Some c.program
