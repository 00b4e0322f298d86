-- What the questions asked of machine data tell.
use Rattle.std.proofs.Common.{◌&&◌, Decides, rules}
use Rattle.motion.specs.declared.raw.RawData.{RawData}
use Rattle.motion.specs.Data.{Limits, Offsets, Ordered, Spread, Referenced}
use Rattle.motion.specs.Questions.{limits, offsets, ordered, placed}

pub limits_decides : (d : RawData) → Decides (limits d) (Limits d)
limits_decides d = search rules

pub offsets_decides : (d : RawData) → Decides (offsets d) (Offsets d)
offsets_decides d = search rules

pub agrees_decides : (d : RawData) → Decides (ordered d && placed d) (Ordered d × Spread d × Referenced d)
agrees_decides d = search rules
