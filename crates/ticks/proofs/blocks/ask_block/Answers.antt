use Rattle.std.proofs.Common.{w32}
use Rattle.std.proofs.Math.Facts.{to_z-of_z}
use Rattle.states.specs.View.{going_in}
use Rattle.ticks.proofs.blocks.ask_block.Goals as goal

-- what is asked of the view is asked of the axis and the reading that it shows
pub returns : goal.returns
returns c =
    let e = c.in-Some.ensures in
    rw (← e.machine, ← e.work, ← e.reading) (rw (to_z-of_z {w = w32} c.ranges.x) at c.ask.ensures (going_in c.args.axis.now.machine))
