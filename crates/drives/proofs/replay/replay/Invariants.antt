use Rattle.std.proofs.Common.{◌≡◌, take}
use Rattle.drives.specs.Laws.{replayed}
use Rattle.drives.proofs.replay.replay.Given as goal

abbrev pub invariant-loop-act : goal.invariant-loop-act
invariant-loop-act g l =
    g.D.Drive.meaning l.drive ≡ replayed (take l.act-index l.acts) (g.D.Drive.meaning l.initial.drive)
