-- Runs with one call more at their end.
use Rattle.std.proofs.Common.{◌≡◌, List, [], ◌∷◌, ◌++◌, refl, ap}
use Rattle.module.specs.declared.call.Call.{Call}
use Rattle.module.specs.State.{Machine}
use Rattle.module.specs.Machine.{step, reply, after, replies}

pub after-more : (s : Machine) (cs : List Call) (c : Call) → after s (cs ++ (c ∷ [])) ≡ step c (after s cs)
after-more s [] c = refl
after-more s (d ∷ cs) c = after-more (step d s) cs c

pub replies-more : (s : Machine) (cs : List Call) (c : Call) → replies s (cs ++ (c ∷ [])) ≡ replies s cs ++ (reply c (after s cs) ∷ [])
replies-more s [] c = refl
replies-more s (d ∷ cs) c = ap (λ rs. reply d s ∷ rs) (replies-more (step d s) cs c)
