-- The place of a program in a list.
use Rattle.std.proofs.Common.{ℕ, ◌<◌, ◌≤◌, Bool, eqb, List, [], ◌∷◌, length, Some, None, refl, arith}
use Rattle.std.specs.List.{position, position_or_len}
use Rattle.std.proofs.Math.Numerals.{one-add}
use Rattle.std.proofs.lemmas.Bool.Decides.{nat_tests}
use Rattle.store.specs.Programs.{Program, Placed}

abbrev pub named : ℕ → Program → Bool
named n p = eqb p.number n

absent : (n : ℕ) (ps : List Program) → length ps ≤ position_or_len (named n) ps → Placed n ps None
absent n [] h = (refl, refl)
absent n (p ∷ ps) h = let more : length ps ≤ position_or_len (named n) ps → Placed n ps None = absent n ps in grind arith

there : (n : ℕ) (ps : List Program) → position_or_len (named n) ps < length ps → Placed n ps (Some (position_or_len (named n) ps))
there n [] h = absurd (omega arith)
there n (p ∷ ps) h =
    let k : ℕ = position_or_len (named n) ps in
    let more : k < length ps → Placed n ps (Some k) = there n ps in
    grind (arith, one-add k)

pub placed : (n : ℕ) (ps : List Program) → Placed n ps (position (named n) ps)
placed n ps = grind (arith, nat_tests, absent, there)
