-- A move, its ticks and its places, by machine data that may be missing.
use Rattle.std.specs.Prelude.{ℤ, pos, negsuc, Some, None, Option}
use Rattle.drives.specs.declared.direction.Direction.{Direction}
use Rattle.drives.specs.declared.direction.Direction.TheVariants.{Forward, Backward}
use Rattle.motion.specs.declared.raw.RawData.{RawData}
use Rattle.motion.specs.Ramp.{ramp_of}
use Rattle.motion.specs.Places.{nearest_by, held}
use Rattle.motion.specs.Travel.{Going, ticked, braked, begun, idle}
use Rattle.states.specs.declared.aim.Aim.{Aim}

-- the move in progress after a tick, after a braking tick, and a new one
unfoldable pub ticked_in : Option RawData → Going → Going
ticked_in None g = g
ticked_in (Some d) g = ticked (ramp_of d) g

unfoldable pub braked_in : Option RawData → Going → Going
braked_in None g = g
braked_in (Some d) g = braked (ramp_of d) g

unfoldable pub begun_in : Option RawData → Aim → Going
begun_in None a = idle
begun_in (Some d) a = begun d.fm a.rate a.distance

-- the coordinate of a move under way: the unit nearest to n, held between start and target
unfoldable pub placed_in : Option RawData → ℤ → ℤ → ℤ → ℤ
placed_in None start target n = start
placed_in (Some d) start target n = held start target (nearest_by d n)

-- the way the pulses of a move go
abbrev pub direction_of : ℤ → Direction
direction_of (pos n) = Forward
direction_of (negsuc n) = Backward
