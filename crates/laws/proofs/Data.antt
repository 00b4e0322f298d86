-- Entering machine data, deleting them, and levels keep what an axis keeps.
use Rattle.std.proofs.Common.{◌≡◌, Bool, true, false, cond, ℤ, pos, ◌-ℤ◌, Some, None, Option, ℕ, refl, arith}
use Rattle.std.proofs.lemmas.Int.{ints}
use Rattle.std.proofs.lemmas.Bool.{false≢true}
use Rattle.drives.specs.Meaning.{Meaning, levelled}
use Rattle.motion.specs.declared.raw.RawData.{RawData}
use Rattle.motion.specs.Data.{InRange, Agree}
use Rattle.motion.specs.Laws.{Near}
use Rattle.states.specs.declared.fault.Cause.{Cause}
use Rattle.states.specs.declared.fault.Cause.TheVariants.{DataWhileBusy}
use Rattle.states.specs.State.{Travel, Phase, standing, moving, braking, held, between, Work, AxisState, stands}
use Rattle.states.specs.Entry.{cleared, with_data, data_refusal, enter_no, delete_no, unless}
use Rattle.ticks.specs.Ticks.{with_status}
use Rattle.laws.specs.Acts.{levels_step, enter_axis, delete_axis}
use Rattle.laws.specs.Kept.{KeptIn, OnWay, KeptWith, KeptBy, Kept}
use Rattle.laws.proofs.Ranges.{unrefused}
use Rattle.laws.proofs.Refusing.{Holding}

-- an entry that is not refused has data that are not
entry_yes : (b : Bool) (o : Option Cause) → cond b o (Some DataWhileBusy) ≡ None → o ≡ None
entry_yes true o e = e
entry_yes false o e = cc

-- n is 0, and so is the coordinate
starts_near : (W P : ℕ) (n : ℤ) → Near W P (n -ℤ n) (pos 0)
starts_near W P n =
    let e : n -ℤ n ≡ pos 0 = omega (arith, ints) in
    rw e (omega (arith, ints))

-- with data in range that agree, a cleared axis keeps what it has to
entered_keeps : (d : RawData) (m : Meaning) (w : Work) → InRange d × Agree d → KeptWith d m (cleared m.count w)
entered_keeps d m w f = record {
  range = f.0;
  agree = f.1;
  drift = starts_near d.units d.pulses m.count;
  limits = λ e. absurd (false≢true e);
  doing = tt;
}

-- an entry, accepted or refused
enter_by : (o : Option Cause) (d : RawData) (a : AxisState) → enter_no d a.status ≡ o → Kept a
    → Holding (with_status (unless o a.status (with_data (Some d) (cleared a.drive.count a.status.work) a.status)) a)
enter_by None d a e k = (
  k.drive,
  entered_keeps d a.drive a.status.work (unrefused d (entry_yes (stands a.status.work.phase) (data_refusal d) e)),
  λ n. (refl, refl),
)
enter_by (Some c) d a e k = (k.drive, k.holds, k.shown)

-- entering machine data
pub enter_keeps : (d : RawData) (a : AxisState) → Kept a → Holding (enter_axis d a)
enter_keeps d a k = enter_by (enter_no d a.status) d a refl k

-- a deletion, accepted or refused
delete_by : (o : Option Cause) (a : AxisState) → Kept a
    → Holding (with_status (unless o a.status (with_data None (cleared a.status.work.zero a.status.work) a.status)) a)
delete_by None a k = (k.drive, (refl, refl), λ n. (refl, refl))
delete_by (Some c) a k = (k.drive, k.holds, k.shown)

-- deleting them
pub delete_keeps : (a : AxisState) → Kept a → Holding (delete_axis a)
delete_keeps a k = delete_by (delete_no a.status) a k

-- levels change nothing but the switches and the drive's readiness
level_on : (d : RawData) (m : Meaning) (zero : ℤ) (r ready : Bool) (t : Travel) → OnWay d m zero r t
    → OnWay d (levelled ready m) zero r t
level_on d m zero r ready t o = record {
  began = o.began;
  gone = o.gone;
  whole = o.whole;
  safe = o.safe;
  target = record { ends = o.target.ends; limits = o.target.limits };
  start = o.start;
}

-- whatever the axis is doing
level_in : (p : Phase) (d : RawData) (m : Meaning) (zero : ℤ) (r ready : Bool) → KeptIn p d m zero r
    → KeptIn p d (levelled ready m) zero r
level_in standing d m zero r ready k = tt
level_in (moving t) d m zero r ready k = level_on d m zero r ready t k
level_in (braking t) d m zero r ready k = level_on d m zero r ready t k
level_in (held c None) d m zero r ready k = tt
level_in (held c (Some x)) d m zero r ready k = record { ends = k.ends; limits = k.limits }
level_in (between c) d m zero r ready k = tt

-- with machine data or without
level_by : (o : Option RawData) (m : Meaning) (w : Work) (ready : Bool) → KeptBy o m w → KeptBy o (levelled ready m) w
level_by None m w ready k = k
level_by (Some d) m w ready k = record {
  range = k.range;
  agree = k.agree;
  drift = k.drift;
  limits = k.limits;
  doing = level_in w.phase d m w.zero w.referenced ready k.doing;
}

-- levels
pub levels_keeps : (begin end ready : Bool) (a : AxisState) → Kept a → Holding (levels_step begin end ready a)
levels_keeps begin end ready a k = (
  record { floor = k.drive.floor; low = k.drive.low; high = k.drive.high; ceiling = k.drive.ceiling },
  level_by a.status.machine a.drive a.status.work ready k.holds,
  k.shown,
)
