-- No run of calls on a new module drifts.
use Rattle.std.proofs.Common.{◌≡◌, ℕ, ◌-ℤ◌, false, List, pos, Some, None, Option, refl, sym, ap, ◌∙◌, subst}
use Rattle.drives.specs.Meaning.{Meaning, Sound}
use Rattle.motion.specs.Laws.{Near}
use Rattle.states.specs.State.{Course, AxisState, course_of}
use Rattle.laws.specs.Acts as one
use Rattle.laws.specs.Kept.{Kept}
use Rattle.laws.specs.Laws as laws
use Rattle.laws.specs.Reckoned as reckoned
use Rattle.laws.specs.Started.{program_given}
use Rattle.laws.specs.Stopped.{stop_given, brakes_or_unfinished}
use Rattle.laws.proofs.Invariant.{invariant, no_pulse_refused}
use Rattle.laws.proofs.Reckoning.{reference_law, drift_bound, limits}
use Rattle.laws.proofs.Shifts.{shift}
use Rattle.laws.proofs.Started.{started}
use Rattle.laws.proofs.Stopped.{stopped_alone}
use Rattle.module.specs.declared.call.Call.{Call}
use Rattle.module.specs.State.{Machine}
use Rattle.module.specs.Machine.{Reply, new_machine, after, replies}
use Rattle.module.specs.History.{Which, first, second, third, number, axis_at, PastAct, history, data_in, program_in, zero_in, offset_in, tool_in, reference_in, stop_in}
use Rattle.module.specs.Promise.{DriftBound, ShiftLaw, ShiftByCalls, LimitsLaw, PulsesTaken, NoDrift, course, StartedLaw, StoppedLaw, ProgramLaw, Exact, Promise}
use Rattle.module.proofs.Giving.{offset_given, tool_given}
use Rattle.module.proofs.Axes.{events, after_at}
use Rattle.module.proofs.Histories.{history_of, history_same, data_same, program_same, zero_same, offset_same, tool_same, reference_same, stop_same}
use Rattle.module.proofs.Standing.{stop_law}
use Rattle.module.proofs.InUse.{programs_in_use}
use Rattle.module.proofs.Blocks.{program_blocks}

-- a program that was not started does not run
none_started : (o : Option Course) (n : Option ℕ) → ((c : Course) → o ≡ Some c → n ≡ Some c.program) → n ≡ None → o ≡ None
none_started None n h e = refl
none_started (Some c) n h e = let i = h c refl in cc

-- an axis that is new in s, and what it was asked and answered in the calls
module _ (w : Which) (m : Meaning) (sound : Sound m) (s : Machine) (q : axis_at w s ≡ one.new_axis m) (calls : List Call)
    (hs : List PastAct) (k : hs ≡ history_of (number w) (one.new_axis m) (events w s calls)) where
  -- the axis is one after its events
  end : axis_at w (after s calls) ≡ one.after (one.new_axis m) (events w s calls)
  end = after_at w calls s ∙ ap (λ (a : AxisState). one.after a (events w s calls)) q

  -- the machine data, as the events give them
  data_is : data_in hs None ≡ reckoned.data_given (one.new_axis m) (events w s calls) None
  data_is = rw k (data_same (number w) (events w s calls) (one.new_axis m) None)

  -- the count at zero
  zero_is : zero_in hs None (pos 0) ≡ reckoned.zero_given (one.new_axis m) (events w s calls) None (pos 0)
  zero_is = rw k (zero_same (number w) (events w s calls) (one.new_axis m) None (pos 0))

  -- Z
  offset_is : offset_in hs (pos 0) ≡ laws.offset_given (one.new_axis m) (events w s calls) (pos 0)
  offset_is = rw k (offset_same (number w) (events w s calls) (one.new_axis m) (pos 0))

  -- T
  tool_is : tool_in hs (pos 0) ≡ laws.tool_given (one.new_axis m) (events w s calls) (pos 0)
  tool_is = rw k (tool_same (number w) (events w s calls) (one.new_axis m) (pos 0))

  -- the reference
  reference_is : reference_in hs false ≡ reckoned.reference_given (one.new_axis m) (events w s calls) false
  reference_is = rw k (reference_same (number w) (events w s calls) (one.new_axis m) false)

  -- the coordinate is near the pulses from that zero
  drift_holds : DriftBound w s calls hs
  drift_holds d e =
      let n = zero_in hs None (pos 0) in
      subst (λ (a : AxisState). Near d.units d.pulses (a.drive.count -ℤ n) a.status.work.coordinate) (sym end)
      (rw zero_is (drift_bound m sound (events w s calls) d (sym data_is ∙ e)))

  -- outside a program the shift is Z + T
  shift_holds : ShiftLaw w s calls hs
  shift_holds = rw (end, offset_is, tool_is) (shift m (events w s calls))

  -- a program that runs or is held is the one that was started
  program_is : program_in hs None ≡ program_given (one.new_axis m) (events w s calls) None
  program_is = rw k (program_same (number w) (events w s calls) (one.new_axis m) None)

  start_holds : StartedLaw w s calls hs
  start_holds c e =
      let i = ap (λ (a : AxisState). course_of a.status.work.phase) end in
      program_is ∙ started m (events w s calls) c (sym i ∙ e)

  -- what is cut short was stopped
  stop_is : stop_in hs false ≡ stop_given (one.new_axis m) (events w s calls) false
  stop_is = rw k (stop_same (number w) (events w s calls) (one.new_axis m) false)

  stop_holds : StoppedLaw w s calls hs
  stop_holds e =
      let i = ap (λ (a : AxisState). brakes_or_unfinished a.status.work.phase) end in
      stop_is ∙ stopped_alone m (events w s calls) (sym i ∙ e)

  -- so without a start there is no program
  shift_by_calls : ShiftByCalls w s calls hs
  shift_by_calls e = shift_holds (none_started (course w s calls) (program_in hs None) start_holds e)

  -- with a reference the coordinate is within the limits
  limits_hold : LimitsLaw w s calls hs
  limits_hold d e r = rw end (limits m sound (events w s calls) d (sym data_is ∙ e) (sym reference_is ∙ r))

  -- the drive takes the pulses of a next tick
  pulses_taken : PulsesTaken w s calls
  pulses_taken = rw end (no_pulse_refused m sound (events w s calls))

  -- what an axis keeps of its program
  kept : Kept (axis_at w (after s calls))
  kept = subst Kept (sym end) (invariant m sound (events w s calls))

  referenced_is : (axis_at w (after s calls)).status.work.referenced ≡ reference_in hs false
  referenced_is =
      ap (λ (a : AxisState). a.status.work.referenced) end ∙ reference_law m (events w s calls) ∙ sym reference_is

  pub new_program : ProgramLaw w s calls hs
  new_program = record {
    started = start_holds;
    quiet = λ n. kept.shown n;
    referenced = λ e. sym referenced_is ∙ kept.program e;
    stopped = stop_holds;
  }

  -- the axis does not drift
  pub new_no_drift : NoDrift w s calls hs
  new_no_drift = record {
    drift = drift_holds;
    shift = shift_holds;
    shift_by_calls = shift_by_calls;
    offset = offset_given hs;
    tool = tool_given hs;
    limits = limits_hold;
    stop = stop_law w m sound s q calls;
    taken = pulses_taken;
  }

-- the same by the replies that the calls were given
abbrev OfAxis : Which → Machine → List Call → List PastAct → Type 0
OfAxis w s calls hs = NoDrift w s calls hs × ProgramLaw w s calls hs

axis_by : (w : Which) (m : Meaning) → Sound m → (s : Machine) → axis_at w s ≡ one.new_axis m → (calls : List Call)
    (answers : List Reply) → answers ≡ replies s calls → OfAxis w s calls (history w s calls answers)
axis_by w m sound s q calls answers e =
    let es = events w s calls in
    let h = history_same w calls s ∙ ap (λ (a : AxisState). history_of (number w) a es) q in
    let hs = history w s calls answers in
    let i = ap (λ (ts : List Reply). history w s calls ts) e ∙ h in
    (new_no_drift w m sound s q calls hs i, new_program w m sound s q calls hs i)

-- a new module on drives that are sound
module _ (x y z : Meaning) (sx : Sound x) (sy : Sound y) (sz : Sound z) (calls : List Call) (answers : List Reply) where
  -- no axis of it drifts, and each keeps the laws of its program
  pub each_axis : answers ≡ replies (new_machine x y z) calls → (w : Which)
      → OfAxis w (new_machine x y z) calls (history w (new_machine x y z) calls answers)
  each_axis e first = axis_by first x sx (new_machine x y z) refl calls answers e
  each_axis e second = axis_by second y sy (new_machine x y z) refl calls answers e
  each_axis e third = axis_by third z sz (new_machine x y z) refl calls answers e

  -- a run that is exact keeps the promise
  pub promised : (x′ y′ z′ : Meaning) → Exact x y z calls answers x′ y′ z′ → Promise x y z calls answers x′ y′ z′
  promised x′ y′ z′ e = record {
    exact = e;
    no_drift = λ w. (each_axis e.replies w).0;
    in_use = programs_in_use x y z calls;
    program = λ w. (each_axis e.replies w).1;
    blocks = program_blocks x y z sx sy sz calls;
  }
