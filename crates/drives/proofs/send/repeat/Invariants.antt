use Rattle.std.proofs.Common.{◌≡◌, Ok}
use Rattle.drives.specs.Sending.{sent, told}
use Rattle.drives.proofs.send.repeat.Given as goal

-- so far no pulse was refused
abbrev pub invariant-loop-i : goal.invariant-loop-i
invariant-loop-i g l =
    let m = g.D.Drive.meaning in
    (m l.drive ≡ sent l.direction l._i (m l.initial.drive)) × (told l.direction l._i (m l.initial.drive) ≡ Ok tt)
