-- Making a module.
use Rattle.std.specs.Prelude.{◌≡◌, Ok, Err, Result}
use Rattle.drives.specs.Meaning.{Meaning}
use Rattle.module.specs.declared.three.Drives.{Drives}
use Rattle.module.specs.declared.three.NotMade.{NotMade}
use Rattle.module.specs.State.{Machine}
use Rattle.module.specs.Machine.{new_machine}

-- a new module on these drives; without memory for the store the drives come back
abbrev pub MadeOf : {X Y Z : Type 0} → Meaning → Meaning → Meaning → Drives X Y Z → Result Machine (NotMade X Y Z) → Type 0
MadeOf x y z drives (Ok m) = m ≡ new_machine x y z
MadeOf x y z drives (Err n) = n.drives ≡ drives
