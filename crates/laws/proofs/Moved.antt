-- What a tick of a move leaves: it keeps what an axis keeps, and the drive takes every pulse of it.
use Rattle.std.proofs.Common.{◌≡◌, ℕ, Bool, true, false, eqb, ℤ, Some, None, Ok, Option, refl, arith, ◌⊎◌, inl, inr}
use Rattle.std.proofs.lemmas.Bool.{eqb-true}
use Rattle.drives.specs.Meaning.{Meaning, Sound}
use Rattle.drives.specs.Sending.{told}
use Rattle.motion.specs.declared.raw.RawData.{RawData}
use Rattle.motion.specs.Ramp.{ramp_of}
use Rattle.motion.specs.Travel.{Going, passing}
use Rattle.motion.proofs.Runs.{tick-ends}
use Rattle.states.specs.declared.fault.AxisFault.{AxisFault}
use Rattle.states.specs.State.{Course, Travel, Phase, moving, braking, Work}
use Rattle.states.specs.Moves.{direction_of, ticked_in, braked_in}
use Rattle.ticks.specs.Moving.{placed, at, with_going, after_move, stopped_short, ran, slowed, failed, sent_on}
use Rattle.laws.specs.Kept.{KeptIn, OnWay, KeptWith, KeptBy}
use Rattle.laws.proofs.Passing.{Follows, ticked_follows, braked_follows, taken, sound_on, way_on, on_drift, on_limits, end-drift}

-- what is left of a program after a move asks nothing
after_keeps : (o : Option Course) (mode : ℕ) (d : RawData) (m : Meaning) (zero : ℤ) (r : Bool) → KeptIn (after_move mode o) d m zero r
after_keeps o mode d m zero r = grind arith

-- where a move is, with the drive m: after a tick of motion, a braking tick, and trouble
module _ (d : RawData) (m n : Meaning) (w : Work) (t : Travel) (k : KeptWith d n w) (o : OnWay d m w.zero w.referenced t) where
  placed_keeps : (p : Phase) → KeptIn p d m w.zero w.referenced → KeptWith d m (at (placed (Some d) t m.count w) p w)
  placed_keeps p h = record {
    range = k.range;
    agree = k.agree;
    drift = on_drift d m w.zero w.referenced t o k.range;
    limits = on_limits d m w.zero w.referenced t o;
    doing = h;
  }

  failed_keeps : (f : AxisFault) → KeptWith d m (failed f (placed (Some d) t m.count w) w)
  failed_keeps f = record {
    range = k.range;
    agree = k.agree;
    drift = on_drift d m w.zero w.referenced t o k.range;
    limits = λ e. cc;
    doing = tt;
  }

module _ (d : RawData) (m n : Meaning) (w : Work) (t : Travel) (g : Going) (k : KeptWith d n w)
    (o : OnWay d m w.zero w.referenced (with_going g t)) where
  ran_keeps : (b : Bool) → (b ≡ true → g.left ≡ 0) → KeptWith d m (ran b g t m.count (Some d) w)
  ran_keeps true h = record {
    range = k.range;
    agree = k.agree;
    drift = end-drift d m w.zero w.referenced (with_going g t) o k.range (h refl);
    limits = o.target.limits;
    doing = after_keeps t.course w.mode d m w.zero w.referenced;
  }
  ran_keeps false h = placed_keeps d m n w (with_going g t) k o (moving (with_going g t)) o

  slowed_keeps : (b : Bool) → KeptWith d m (slowed b g t m.count (Some d) w)
  slowed_keeps true =
      placed_keeps d m n w (with_going g t) k o (stopped_short t.target t.course) (grind arith)
  slowed_keeps false = placed_keeps d m n w (with_going g t) k o (braking (with_going g t)) o

-- every pulse is taken
abbrev pub Took : Travel → Going → Meaning → Type 0
Took t g m = told (direction_of t.distance) (passing t.going g).pulses m ≡ Ok tt

-- a tick of motion and a braking tick by a drive that is ready; without machine data there is no move
pub run_on : (o : Option RawData) (m : Meaning) (w : Work) (t : Travel) (g : Going) → g ≡ ticked_in o t.going
    → w.phase ≡ moving t → KeptBy o m w → Sound m → m.ready ≡ true
    → Sound (sent_on t g m) × KeptBy o (sent_on t g m) (ran (eqb g.step 0) g t (sent_on t g m).count o w) × Took t g m
unfolding ticked_in
run_on None m w t g i e k s r = cc
run_on (Some d) m w t g i e k s r =
    let y = rw e at k.doing in
    let f : Follows (ramp_of d) t.going g = rw i (ticked_follows (ramp_of d) t.going y.safe) in
    let x = way_on d m w.zero w.referenced t g s r y f in
    let l : eqb g.step 0 ≡ true → g.left ≡ 0 = rw i (λ h. tick-ends (ramp_of d) t.going (eqb-true _ 0 h)) in (
      sound_on d m w.zero w.referenced t g s r y f,
      ran_keeps d (sent_on t g m) m w t g k x (eqb g.step 0) l,
      taken d m w.zero w.referenced t g s r y f,
    )

pub slow_on : (o : Option RawData) (m : Meaning) (w : Work) (t : Travel) (g : Going) → g ≡ braked_in o t.going
    → w.phase ≡ braking t → KeptBy o m w → Sound m → m.ready ≡ true
    → Sound (sent_on t g m) × KeptBy o (sent_on t g m) (slowed (eqb g.step 0) g t (sent_on t g m).count o w) × Took t g m
unfolding braked_in
slow_on None m w t g i e k s r = cc
slow_on (Some d) m w t g i e k s r =
    let y = rw e at k.doing in
    let f : Follows (ramp_of d) t.going g = rw i (braked_follows (ramp_of d) t.going y.safe) in
    let x = way_on d m w.zero w.referenced t g s r y f in (
      sound_on d m w.zero w.referenced t g s r y f,
      slowed_keeps d (sent_on t g m) m w t g k x (eqb g.step 0),
      taken d m w.zero w.referenced t g s r y f,
    )

-- trouble stops a move and a move that is braked alike
pub fail_on : (o : Option RawData) (m : Meaning) (w : Work) (t : Travel) (f : AxisFault)
    → (w.phase ≡ moving t) ⊎ (w.phase ≡ braking t) → KeptBy o m w → KeptBy o m (failed f (placed o t m.count w) w)
fail_on None m w t f e k = (refl, refl)
fail_on (Some d) m w t f (inl e) k = failed_keeps d m m w t k (rw e at k.doing) f
fail_on (Some d) m w t f (inr e) k = failed_keeps d m m w t k (rw e at k.doing) f
