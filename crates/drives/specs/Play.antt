-- A play of b pulses over any drive, as numbers: what a layer means, and what it sends below.
use Rattle.std.specs.Prelude.{ℕ, ◌+◌, Bool, cond, pos, ◌+ℤ◌, is_ok, int_le}
use Rattle.drives.specs.declared.direction.Direction.{Direction}
use Rattle.drives.specs.declared.direction.Direction.TheVariants.{Forward, Backward}
use Rattle.drives.specs.Meaning.{Meaning, answered}
use Rattle.drives.specs.Sending.{sent}

-- how far the layer's count is above the count below
abbrev pub lead : ℕ → Direction → ℕ
lead b Forward = 0
lead b Backward = b

-- the layer over a drive that leaves room for the play: the ends are those below, the least plus the play
abbrev pub above : ℕ → Direction → Meaning → Meaning
above b f m = record { count = m.count +ℤ pos (lead b f); least = m.least +ℤ pos b; greatest = m.greatest; ready = m.ready }

-- can the drive below go the whole play against the flank?
abbrev pub fits : ℕ → Direction → Meaning → Bool
fits b Forward m = int_le (m.least +ℤ pos b) m.count
fits b Backward m = int_le (m.count +ℤ pos b) m.greatest

-- a drive that can go nowhere: its ends are its count
abbrev pub closed : Meaning → Meaning
closed m = record { count = m.count; least = m.count; greatest = m.count; ready = m.ready }

-- what a layer means. Every value of the type `TakeUp` leaves room for its play, so that its
-- meaning is `above`; `closed` stands for numbers that no layer has.
abbrev pub layer : ℕ → Direction → Meaning → Meaning
layer b f m = cond (fits b f m) (above b f m) (closed m)

-- the pulses that go below for one accepted pulse: the play first where it turns the flank
abbrev pub passed : ℕ → Direction → Direction → ℕ
passed b Forward Forward = 1
passed b Backward Backward = 1
passed b Forward Backward = b + 1
passed b Backward Forward = b + 1

-- what a pulse d leaves of the drive below
abbrev pub beneath : ℕ → Direction → Direction → Meaning → Meaning
beneath b d f m = cond (is_ok (answered d (layer b f m))) (sent d (passed b d f) m) m
