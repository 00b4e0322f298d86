-- One tick of a move: its pulses are taken, the move stays on its way, and the coordinate stays near and within the limits.
use Rattle.std.proofs.Common.{◌≡◌, ℕ, ◌-◌, ◌≤◌, Bool, true, ℤ, pos, negsuc, ◌+ℤ◌, ◌-ℤ◌, nat_abs, ◌≤ℤ◌, Some, Ok, refl, ◌∙◌, arith}
use Rattle.std.proofs.lemmas.Int.{ints, clamps}
use Rattle.drives.specs.Meaning.{Meaning, Sound, at}
use Rattle.drives.specs.Sending.{told}
use Rattle.motion.specs.declared.raw.RawData.{RawData}
use Rattle.motion.specs.Data.{InRange}
use Rattle.motion.specs.Ramp.{Ramp, ramp_of}
use Rattle.motion.specs.Places.{pulses_by}
use Rattle.motion.specs.Travel.{Going, ticked, braked, passed_in, passing}
use Rattle.motion.specs.Laws.{Near, Between, Safe}
use Rattle.motion.proofs.Drift.{drift, arrives}
use Rattle.motion.proofs.Runs.{stays-safe}
use Rattle.states.specs.State.{Travel}
use Rattle.states.specs.Moves.{placed_in, direction_of}
use Rattle.ticks.specs.Moving.{with_going, sent_on}
use Rattle.laws.specs.Kept.{InLimits, along, began_at, OnWay}
use Rattle.laws.proofs.Sent.{Within, all-sent, all_told}

-- what a tick may make of a move in progress: the whole stays, no more is left than before, and it can still be braked
pub record Follows (f : Ramp) (g h : Going) : Type 0 where
  pub total : h.total ≡ g.total
  pub less : h.left ≤ g.left
  pub safe : Safe f h

pub ticked_follows : (f : Ramp) (g : Going) → Safe f g → Follows f g (ticked f g)
ticked_follows f g s = record { total = refl; less = grind arith; safe = (stays-safe f).1 g s }

pub braked_follows : (f : Ramp) (g : Going) → Safe f g → Follows f g (braked f g)
braked_follows f g s = record { total = refl; less = omega arith; safe = (stays-safe f).2 g s }

-- by the distance D to T: the count after the pulses from a to b of the way
on_by : (D : ℤ) (m : Meaning) (zero T : ℤ) (a b : ℕ) → m.count -ℤ zero ≡ (T -ℤ D) +ℤ along D a → a ≤ b
    → (m.count +ℤ along D (b - a)) -ℤ zero ≡ (T -ℤ D) +ℤ along D b
on_by (pos n) m zero T a b e h = omega (arith, ints)
on_by (negsuc n) m zero T a b e h = omega (arith, ints)

-- they have room, as T is within the ends
has_room : (D : ℤ) (m : Meaning) (zero T : ℤ) (a b : ℕ) → Sound m → m.count -ℤ zero ≡ (T -ℤ D) +ℤ along D a → a ≤ b
    → b ≤ nat_abs D → m.least ≤ℤ (zero +ℤ T) → (zero +ℤ T) ≤ℤ m.greatest → Within D (b - a) m
has_room (pos n) m zero T a b s e h k l u = (omega (arith, ints, s.low), omega (arith, ints))
has_room (negsuc n) m zero T a b s e h k l u = (omega (arith, ints), omega (arith, ints, s.high))

-- a tick from t to g of a move on its way, by a drive that is ready
module _ (d : RawData) (m : Meaning) (zero : ℤ) (r : Bool) (t : Travel) (g : Going) (s : Sound m) (ready : m.ready ≡ true)
    (o : OnWay d m zero r t) (f : Follows (ramp_of d) t.going g) where
  grows : passed_in t.going ≤ passed_in g
  grows = omega (arith, f.total, f.less)

  roomy : Within t.distance (passing t.going g).pulses m
  roomy =
      has_room t.distance m zero (pulses_by d t.target) (passed_in t.going) (passed_in g) s o.gone grows
      (omega (arith, f.total, o.whole)) o.target.ends.0 o.target.ends.1

  -- every pulse is taken
  pub taken : told (direction_of t.distance) (passing t.going g).pulses m ≡ Ok tt
  taken = all_told t.distance (passing t.going g).pulses m s ready roomy

  -- the drive is as it was, but for its count
  pub sent-at : sent_on t g m ≡ at (m.count +ℤ along t.distance (passing t.going g).pulses) m
  sent-at = all-sent t.distance (passing t.going g).pulses m s ready roomy

  pub sound_on : Sound (sent_on t g m)
  sound_on = rw sent-at (record { floor = s.floor; low = roomy.0; high = roomy.1; ceiling = s.ceiling })

  -- the move stays on its way
  pub way_on : OnWay d (sent_on t g m) zero r (with_going g t)
  way_on = rw sent-at (record {
    began = o.began;
    gone = on_by t.distance m zero (pulses_by d t.target) (passed_in t.going) (passed_in g) o.gone grows;
    whole = f.total ∙ o.whole;
    safe = f.safe;
    target = record { ends = o.target.ends; limits = o.target.limits };
    start = o.start;
  })

-- n lies between where the move began and its end
on_between : (D T n : ℤ) (p : ℕ) → n ≡ (T -ℤ D) +ℤ along D p → p ≤ nat_abs D → Between (T -ℤ D) T n
on_between D T n p e h = grind (arith, ints, clamps)

at-end : (D T n : ℤ) (p : ℕ) → n ≡ (T -ℤ D) +ℤ along D p → p ≡ nat_abs D → n ≡ T
at-end D T n p e h = grind (arith, ints)

-- the coordinate of a move on its way
module _ (d : RawData) (m : Meaning) (zero : ℤ) (r : Bool) (t : Travel) (o : OnWay d m zero r t) where
  pub on_drift : InRange d
      → Near d.units d.pulses (m.count -ℤ zero) (placed_in (Some d) t.start t.target (m.count -ℤ zero))
  unfolding placed_in
  on_drift i =
      drift d.units d.pulses i.2.0.0 i.2.1.0 t.start t.target (began_at d t) (m.count -ℤ zero) o.began
      (on_between t.distance (pulses_by d t.target) (m.count -ℤ zero) (passed_in t.going) o.gone (omega (arith, o.whole)))

  pub on_limits : r ≡ true → InLimits d (placed_in (Some d) t.start t.target (m.count -ℤ zero))
  unfolding placed_in
  on_limits e = omega (arith, ints, clamps, o.start e, o.target.limits e)

  -- with nothing left n is that of the target, and the target is near
  pub end-drift : InRange d → t.going.left ≡ 0 → Near d.units d.pulses (m.count -ℤ zero) t.target
  end-drift i z =
      rw (at-end t.distance (pulses_by d t.target) (m.count -ℤ zero) (passed_in t.going) o.gone (omega (arith, o.whole, z)))
      (arrives d.units d.pulses i.2.0.0 i.2.1.0 t.target)
