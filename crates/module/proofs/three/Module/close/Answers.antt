use Rattle.std.proofs.Common.{◌≡◌, ap}
use Rattle.module.specs.State.{Machine}
use Rattle.module.proofs.Tokens.{closing_same}
use Rattle.module.proofs.three.Module.close.Goals as goal

pub returns-clause-reply : goal.returns-clause-reply
returns-clause-reply g c =
    let e : c.self.inside.store ≡ c.args.self.now.programs = ap (λ (m : Machine). m.programs) c.self.view_is in
    rw (c.close.ensures.value, ← e) (closing_same c.args.entry c.self.inside.store)
