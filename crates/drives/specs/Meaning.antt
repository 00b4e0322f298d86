-- What a drive means, and what a pulse and a level make of it.
use Rattle.std.specs.Prelude.{Bool, cond, ℤ, pos, negsuc, ◌+ℤ◌, ◌≤ℤ◌, Ok, Err, Result, int_le}
use Rattle.drives.specs.declared.direction.Direction.{Direction}
use Rattle.drives.specs.declared.direction.Direction.TheVariants.{Forward, Backward}
use Rattle.drives.specs.declared.fault.Refusal.{Refusal}
use Rattle.drives.specs.declared.fault.Refusal.TheVariants.{NotReady, Ended}

pub record Meaning : Type 0 where
  pub count : ℤ
  pub least : ℤ
  pub greatest : ℤ
  pub ready : Bool

-- the widest ends that a drive may have: 1,000,000,000,000 either way
abbrev pub lowest : ℤ
lowest = negsuc 999999999999

abbrev pub highest : ℤ
highest = pos 1000000000000

-- the ends lie within the widest and hold the count
pub record Sound (m : Meaning) : Type 0 where
  pub floor : lowest ≤ℤ m.least
  pub low : m.least ≤ℤ m.count
  pub high : m.count ≤ℤ m.greatest
  pub ceiling : m.greatest ≤ℤ highest

-- one pulse either way
abbrev pub one : Direction → ℤ
one Forward = pos 1
one Backward = negsuc 0

-- does the count after one more pulse stay within the ends?
abbrev pub room : Direction → Meaning → Bool
room Forward m = int_le (m.count +ℤ pos 1) m.greatest
room Backward m = int_le m.least (m.count +ℤ negsuc 0)

-- the same drive at the count n
abbrev pub at : ℤ → Meaning → Meaning
at n m = record { count = n; least = m.least; greatest = m.greatest; ready = m.ready }

-- what a pulse is answered
abbrev pub answered : Direction → Meaning → Result (Unit {0}) Refusal
answered d m = cond m.ready (cond (room d m) (Ok tt) (Err Ended)) (Err NotReady)

-- what a pulse leaves: a refused one leaves all as it is
abbrev pub pulsed : Direction → Meaning → Meaning
pulsed d m = cond m.ready (cond (room d m) (at (m.count +ℤ one d) m) m) m

-- what a level leaves
abbrev pub levelled : Bool → Meaning → Meaning
levelled b m = record { count = m.count; least = m.least; greatest = m.greatest; ready = b }

-- a direction that is kept, after a pulse: an accepted pulse turns it
abbrev pub turned : Result (Unit {0}) Refusal → Direction → Direction → Direction
turned (Ok _) d f = d
turned (Err _) d f = f
