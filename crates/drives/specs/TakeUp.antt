-- The take-up layer: it takes up a play of b pulses over any drive.
use Rattle.std.specs.Prelude.{◌≡◌, ℕ, true, false, Ok, Err, Result}
use Rattle.drives.specs.declared.direction.Direction.TheVariants.{Forward}
use Rattle.drives.specs.declared.fault.DriveFault.TheVariants.{NotMade}
use Rattle.drives.specs.declared.drive.Drive.{Ghosts}
use Rattle.drives.specs.declared.take_up.TakeUp.{TakeUp}
use Rattle.drives.specs.declared.take_up.LayerRefused.{LayerRefused}
use Rattle.drives.specs.Meaning.{Meaning}
use Rattle.drives.specs.Play.{above, fits, layer}

-- what a layer means, by what the drives of its kind below mean
abbrev pub layered : {D : Type 0} {g : Ghosts D} → (D → Meaning) → TakeUp D g → Meaning
layered meaning t = layer t.play t.flank (meaning t.below)

-- what making a layer of the play b over d gives; a refusal hands the drive back
abbrev pub Laid : {D : Type 0} {g : Ghosts D} → (D → Meaning) → D → ℕ → Result (TakeUp D g) (LayerRefused D) → Type 0
Laid meaning d b (Ok t) =
    (fits b Forward (meaning d) ≡ true) × (t.below ≡ d) × (t.play ≡ b) × (t.flank ≡ Forward) × (layered meaning t ≡ above b Forward (meaning d))
Laid meaning d b (Err back) = (fits b Forward (meaning d) ≡ false) × (back.below ≡ d) × (back.fault ≡ NotMade)
