-- Lists of questions: what an accepted list says.
use Rattle.std.proofs.Common.{◌≡◌, true, [], ◌∷◌, Ok, arith}
use Rattle.states.specs.Asking.{Questions, ◌asks◌}

-- every question is answered yes
abbrev pub Yes : Questions → Type 0
Yes [] = Unit {0}
Yes (q ∷ qs) = (q.0 ≡ true) × Yes qs

pub accepted : {A : Type 0} (qs : Questions) (a x : A) → qs asks Ok a ≡ Ok x → Yes qs × (a ≡ x)
accepted [] a x p = (tt, cc)
accepted (q ∷ qs) a x p =
    let more : qs asks Ok a ≡ Ok x → Yes qs × (a ≡ x) = accepted qs a x in
    grind arith
