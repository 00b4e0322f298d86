use Rattle.std.proofs.Common.{◌≡◌, drop, None}
use Rattle.reader.specs.declared.block.Motion.TheVariants.{Rapid}
use Rattle.store.specs.Closing.{each_fits}
use Rattle.store.proofs.record.closing.may_close.Given as goal

abbrev pub invariant-loop-index : goal.invariant-loop-index
invariant-loop-index l = each_fits l.holding.motion l.holding.feed (drop l.index l.blocks) ≡ each_fits Rapid None l.blocks
