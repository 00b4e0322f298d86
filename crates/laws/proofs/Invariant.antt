-- Whatever is asked of a new axis, it keeps what an axis keeps, and its drive takes every pulse.
use Rattle.std.proofs.Common.{◌≡◌, Bool, true, false, List, [], ◌∷◌, is_some, Some, None, Option, refl}
use Rattle.std.proofs.lemmas.Bool.{false≢true}
use Rattle.drives.specs.Meaning.{Meaning, Sound}
use Rattle.store.specs.Programs.{Programs}
use Rattle.states.specs.State.{Course, AxisState, course_of}
use Rattle.laws.specs.Acts.{Act, entering, deleting, ordering, levelling, ticking, Event, act_step, step, new_axis, after}
use Rattle.laws.specs.Kept.{Referenced, Kept}
use Rattle.laws.specs.Laws.{Invariant, NoPulseRefused}
use Rattle.laws.proofs.Data.{enter_keeps, delete_keeps, levels_keeps}
use Rattle.laws.proofs.Ordered.{order_keeps}
use Rattle.laws.proofs.InUse.{Such, act_such}
use Rattle.laws.proofs.Refusing.{Holding}
use Rattle.laws.proofs.OnTick.{tick_keeps, taken_in}

-- each act keeps all but the program's reference
act_holds : (act : Act) (p : Programs) (a : AxisState) → Kept a → Holding (act_step act p a)
act_holds (entering d) p a k = enter_keeps d a k
act_holds deleting p a k = delete_keeps a k
act_holds (ordering o) p a k = order_keeps o p a k
act_holds (levelling begin end ready) p a k = levels_keeps begin end ready a k
act_holds ticking p a k = tick_keeps p a k

-- such is every program where there is a reference
abbrev HasReference : Bool → Course → Type 0
HasReference r c = r ≡ true

-- without a program nothing is asked
no_program : {A : Type 0} → false ≡ true → A
no_program e = absurd (false≢true e)

such_by_reference : (o : Option Course) (r : Bool) → (is_some o ≡ true → r ≡ true) → Such (HasReference r) o
such_by_reference None r h = tt
such_by_reference (Some c) r h = h refl

reference_by_such : (o : Option Course) (r : Bool) → Such (HasReference r) o → is_some o ≡ true → r ≡ true
reference_by_such None r u h = no_program h
reference_by_such (Some c) r u h = u

-- and that
act_referenced : (act : Act) (p : Programs) (a : AxisState) → Kept a → Referenced (act_step act p a).status.work
act_referenced act p a k =
    let w = a.status.work in
    let v = (act_step act p a).status.work in
    reference_by_such (course_of v.phase) v.referenced
    (act_such HasReference act p a (λ o d r y. r) (λ c b e r. r) (such_by_reference (course_of w.phase) w.referenced k.program))

pub act_keeps : (act : Act) (p : Programs) (a : AxisState) → Kept a → Kept (act_step act p a)
act_keeps act p a k =
    let h = act_holds act p a k in
    record { drive = h.0; holds = h.1; shown = h.2; program = act_referenced act p a k }

-- and so does a run
pub run_keeps : (es : List Event) (a : AxisState) → Kept a → Kept (after a es)
run_keeps [] a k = k
run_keeps (e ∷ es) a k = run_keeps es (step e a) (act_keeps e.act e.programs a k)

-- a new axis stands without machine data, program or reference
pub new_keeps : (m : Meaning) → Sound m → Kept (new_axis m)
new_keeps m s = record {
  drive = record { floor = s.floor; low = s.low; high = s.high; ceiling = s.ceiling };
  holds = (refl, refl);
  shown = λ n. (refl, refl);
  program = λ h. no_program h;
}

-- the invariant
pub invariant : Invariant
invariant m s es = run_keeps es (new_axis m) (new_keeps m s)

-- no pulse is refused
pub no_pulse_refused : NoPulseRefused
no_pulse_refused m s es = taken_in (after (new_axis m) es) (invariant m s es)
