use Rattle.std.proofs.Common.{◌≡◌, true, false, rules}
use Rattle.states.specs.View.{phase_of, going_in}
use Rattle.states.specs.State.{brakes, stands}
use Rattle.orders.specs.Modes.{admits, stops}
use Rattle.orders.proofs.asking.Request.ask.Goals as goal

pub returns : goal.returns
returns c =
    let o = c.args.self.now.order in
    let p = phase_of (going_in c.args.self.now.axis.now.machine) c.args.self.now.axis.now.work.state in
    let a : admits c.args.mode o.command ≡ true = search rules in
    let b : brakes p ≡ false = search rules in
    let h : stops o.command ≡ false = search rules in
    let t : stands p ≡ true = search rules in
    rw (a, b, h, t) c.ask_standing.ensures
