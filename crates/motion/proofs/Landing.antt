-- The place that a tick takes.
use Rattle.std.proofs.Common.{◌≡◌, ◌-◌, ◌≤◌, Option, Some, None, unwrap_or, sym, subst, arith}
use Rattle.motion.specs.Ramp.{Ramp}
use Rattle.motion.specs.Travel.{Going, way}
use Rattle.motion.specs.RampPlace.{Summed, PlaceRuns, left_after}
use Rattle.motion.specs.declared.mover.Place.{Place}
use Rattle.motion.proofs.Way.{way-none, way_last}

module _ (f : Ramp) (g : Going) where
  -- after a tick at a place that can be run, what is left suffices to brake
  abbrev Lands : Option Place → Place → Type 0
  Lands p q = (q.step ≤ 4096) × Summed f g.rate q × (way f g.rate (q.step - 1) ≤ left_after f g p) × (left_after f g p ≤ g.left)

  lands_on : (p : Option Place) → PlaceRuns f g p → Lands p (unwrap_or p (record { step = 0; sum = 0 }))
  lands_on None r = (omega arith, sym (way-none f g.rate), omega (arith, way-none f g.rate), omega arith)
  lands_on (Some p) r = (r.0, r.1, omega (arith, r.1, r.2, way_last f g.rate p.step), omega arith)

  pub lands : (p : Option Place) (q : Place) → PlaceRuns f g p → q ≡ unwrap_or p (record { step = 0; sum = 0 }) → Lands p q
  lands p q r e = subst (Lands p) (sym e) (lands_on p r)
