-- A program under way: how it opens, and the rate of its block.
use Rattle.std.specs.Prelude.{ℕ, None}
use Rattle.std.specs.Option.{unwrap_or}
use Rattle.reader.specs.declared.block.Motion.{Motion}
use Rattle.reader.specs.declared.block.Motion.TheVariants.{Rapid, Feed}
use Rattle.reader.specs.declared.block.OffsetChoice.TheVariants.{Without}
use Rattle.reader.specs.declared.block.Way.TheVariants.{Absolute}
use Rattle.motion.specs.declared.raw.RawData.{RawData}
use Rattle.motion.specs.Places.{rate_by}
use Rattle.states.specs.State.{Course}

-- a program opens with G00, G53, G90 and without a feed
abbrev pub opening : ℕ → Course
opening n = record { program = n; taken = 0; motion = Rapid; offset = Without; way = Absolute; feed = None; auxiliary = None }

-- G00 runs at fm, G01 at the feed
abbrev pub rate_under : Motion → RawData → ℕ → ℕ
rate_under Rapid d feed = d.fm
rate_under Feed d feed = rate_by d feed

abbrev pub course_rate : RawData → Course → ℕ
course_rate d c = rate_under c.motion d (unwrap_or c.feed 0)
