-- Laws over whole runs of acts on a drive; pulses of a layer, one by one.
use Rattle.std.specs.Prelude.{◌≡◌, ℕ, List, [], ◌∷◌}
use Rattle.drives.specs.declared.direction.Direction.{Direction}
use Rattle.drives.specs.declared.drive.Drive.{Ghosts}
use Rattle.drives.specs.declared.take_up.Counts.{Counts}
use Rattle.drives.specs.declared.take_up.TakeUp.{TakeUp}
use Rattle.drives.specs.declared.replay.Act.{Act}
use Rattle.drives.specs.declared.replay.Act.TheVariants.{Pulse, Level}
use Rattle.drives.specs.Meaning.{Meaning, Sound, answered, pulsed, levelled, turned}
use Rattle.drives.specs.Play.{layer, beneath}

-- what one act, and a list of acts, makes of a drive
abbrev pub acted : Act → Meaning → Meaning
acted (Pulse d) m = pulsed d m
acted (Level b) m = levelled b m

abbrev pub replayed : List Act → Meaning → Meaning
replayed [] m = m
replayed (a ∷ acts) m = replayed acts (acted a m)

-- whatever is asked of a drive, its ends never change
abbrev pub EndsStay : Type 0
EndsStay = (acts : List Act) (m : Meaning) → ((replayed acts m).least ≡ m.least) × ((replayed acts m).greatest ≡ m.greatest)

-- a layer of no play means what the drive below means
abbrev pub NoPlay : Type 0
NoPlay = (f : Direction) (m : Meaning) → Sound m → layer 0 f m ≡ m

-- a layer as numbers: its play, its flank, the drive below
pub record Layer : Type 0 where
  pub play : ℕ
  pub flank : Direction
  pub below : Meaning

abbrev pub layer_of : {D : Type 0} {g : Ghosts D} → (D → Meaning) → TakeUp D g → Layer
layer_of meaning t = record { play = t.play; flank = t.flank; below = meaning t.below }

abbrev pub layer_means : Layer → Meaning
layer_means l = layer l.play l.flank l.below

-- the layer after a pulse d
abbrev pub after : Direction → Layer → Layer
after d l = record { play = l.play; flank = turned (answered d (layer_means l)) d l.flank; below = beneath l.play d l.flank l.below }

-- the counts of the layer and of the drive below
abbrev pub both : Layer → Counts
both l = record { layer = (layer_means l).count; below = l.below.count }

-- the same after each of some pulses
abbrev pub trail : List Direction → Layer → List Counts
trail [] l = []
trail (d ∷ ds) l = both (after d l) ∷ trail ds (after d l)
