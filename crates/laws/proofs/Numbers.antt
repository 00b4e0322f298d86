-- The numbers of the modes.
use Rattle.std.proofs.Common.{◌≡◌, ℕ, Bool, true, false, cond, ◌||◌, eqb, List, [], ◌∷◌, Some, Option, sym, refl, ap, ◌∙◌, subst, rules}
use Rattle.std.proofs.lemmas.Bool.{eqb-true}
use Rattle.states.specs.declared.mode.Mode.{Mode}
use Rattle.states.specs.declared.mode.Mode.TheVariants.{Program}
use Rattle.states.specs.declared.mode.Pace.{Pace}
use Rattle.states.specs.declared.mode.Pace.TheVariants.{Continuous, SingleBlock}
use Rattle.states.specs.Mode.{mode_number, modes, find_mode, mode_of}

-- each row of a table has the number of its mode
abbrev Numbered : List (ℕ × Mode) → Type 0
Numbered [] = Unit {0}
Numbered (row ∷ rows) = (mode_number row.1 ≡ row.0) × Numbered rows

-- what a row answers, or those after it
at_row : (b : Bool) (n x : ℕ) (r mode : Mode) (rest : Option Mode) → eqb n x ≡ b → mode_number r ≡ x
    → (rest ≡ Some mode → mode_number mode ≡ n) → cond b (Some r) rest ≡ Some mode → mode_number mode ≡ n
at_row true n x r mode rest e h t f = let i : r ≡ mode = cc in let j = eqb-true n x e in sym (ap mode_number i) ∙ h ∙ sym j
at_row false n x r mode rest e h t f = t f

-- what a table answers
found_number : (n : ℕ) (rows : List (ℕ × Mode)) (mode : Mode) → Numbered rows → find_mode n rows ≡ Some mode → mode_number mode ≡ n
found_number n [] mode t e = cc
found_number n (row ∷ rows) mode t e =
    at_row (eqb n row.0) n row.0 row.1 mode (find_mode n rows) refl t.0 (found_number n rows mode t.1) e

-- the mode that a number names has that number
pub number_of : (n : ℕ) (mode : Mode) → mode_of n ≡ Some mode → mode_number mode ≡ n
number_of n mode e = found_number n modes mode (search rules) e

-- modes 8 and 9 are those of a program
program_number : (k : Pace) → (eqb (mode_number (Program k)) 8 || eqb (mode_number (Program k)) 9) ≡ true
program_number Continuous = refl
program_number SingleBlock = refl

-- a number of such a mode
pub program_mode : (n : ℕ) (k : Pace) → mode_of n ≡ Some (Program k) → (eqb n 8 || eqb n 9) ≡ true
program_mode n k e = subst (λ (x : ℕ). (eqb x 8 || eqb x 9) ≡ true) (number_of n (Program k) e) (program_number k)
