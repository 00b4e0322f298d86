-- The drives that a script asks for, and a new module on them.
use Rattle.std.specs.Prelude.{◌≡◌, ℕ, false, cond, List, [], ◌∷◌, ℤ, map, Some, None, Ok, Err, Option, Result}
use Rattle.drives.specs.declared.direction.Direction.TheVariants.{Forward}
use Rattle.drives.specs.declared.fault.DriveFault.{DriveFault}
use Rattle.drives.specs.declared.fault.DriveFault.TheVariants.{NotMade}
use Rattle.drives.specs.Meaning.{Meaning}
use Rattle.drives.specs.Stage.{outside, stage_at}
use Rattle.drives.specs.Play.{fits, above}
use Rattle.module.specs.declared.three.Drives.{Drives}
use Rattle.module.specs.State.{Machine}
use Rattle.module.specs.Machine.{new_machine}
use Rattle.script.specs.declared.build.Build.{Build}
use Rattle.script.specs.declared.build.Build.TheVariants.{Clock, TakeUp, TakeUpTwice}

-- a clock stage at a count
abbrev pub stage : ℤ → Result Meaning DriveFault
stage n = cond (outside n) (Err NotMade) (Ok (stage_at n false))

-- a layer of a play over a drive
abbrev pub over : ℕ → Result Meaning DriveFault → Result Meaning DriveFault
over b (Ok m) = cond (fits b Forward m) (Ok (above b Forward m)) (Err NotMade)
over b (Err e) = Err e

-- what the drive of a build means, or the fault that it cannot be made
abbrev pub asked : Build → Result Meaning DriveFault
asked (Clock n) = stage n
asked (TakeUp b n) = over b (stage n)
asked (TakeUpTwice outer inner n) = over outer (over inner (stage n))

-- what a drive means that is made
abbrev pub made : {D : Type 0} → (D → Meaning) → Result D DriveFault → Result Meaning DriveFault
made meaning (Ok d) = Ok (meaning d)
made meaning (Err e) = Err e

-- the fault of the first that cannot be made
abbrev pub first_fault : List (Result Meaning DriveFault) → Option DriveFault
first_fault [] = None
first_fault (Ok m ∷ rs) = first_fault rs
first_fault (Err e ∷ rs) = Some e

-- three drives are those of the builds
abbrev pub AsAsked : List Build → Meaning → Meaning → Meaning → Type 0
AsAsked builds x y z = map asked builds ≡ Ok x ∷ Ok y ∷ Ok z ∷ []

-- the drives of the builds are made, or one of them cannot be
abbrev pub AllMade : {D : Type 0} → (D → Meaning) → List Build → Result (Drives D D D) DriveFault → Type 0
AllMade meaning builds (Ok d) = AsAsked builds (meaning d.first) (meaning d.second) (meaning d.third)
AllMade meaning builds (Err e) = first_fault (map asked builds) ≡ Some e

-- a new module on the drives of the builds
abbrev pub NewOn : List Build → Machine → Type 0
NewOn builds m =
    (x : Meaning) × (y : Meaning) × (z : Meaning) × AsAsked builds x y z × (m ≡ new_machine x y z)
