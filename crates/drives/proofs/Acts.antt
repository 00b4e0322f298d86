-- Lists of acts.
use Rattle.std.proofs.Common.{◌≡◌, List, [], ◌∷◌, ◌++◌, refl, arith}
use Rattle.drives.specs.declared.replay.Act.{Act}
use Rattle.drives.specs.Meaning.{Meaning}
use Rattle.drives.specs.Laws.{acted, replayed, EndsStay}

pub ends_stay : EndsStay
ends_stay [] m = (refl, refl)
ends_stay (a ∷ acts) m = let rest = ends_stay acts (acted a m) in (grind (arith, rest), grind (arith, rest))

-- a list with one act more at its end
pub replayed-more : (acts : List Act) (a : Act) (m : Meaning) → replayed (acts ++ (a ∷ [])) m ≡ acted a (replayed acts m)
replayed-more [] a m = refl
replayed-more (b ∷ acts) a m = replayed-more acts a (acted b m)
