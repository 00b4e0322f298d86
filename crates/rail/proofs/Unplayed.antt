-- A layer of no play over a stage means what the stage means.
use Rattle.std.proofs.Common.{◌≡◌, Bool, true, false, ℤ, refl, arith}
use Rattle.std.proofs.lemmas.Int.{ints}
use Rattle.drives.specs.Stage.{outside}
use Rattle.rail.specs.Drives.{stage, over}

unplayed_by : (b : Bool) (n : ℤ) → outside n ≡ b → over 0 (stage n) ≡ stage n
unplayed_by true n h = grind (arith, ints, h)
unplayed_by false n h = grind (arith, ints, h)

pub unplayed : (n : ℤ) → over 0 (stage n) ≡ stage n
unplayed n = unplayed_by (outside n) n refl
