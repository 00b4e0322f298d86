use Rattle.std.proofs.Common.{◌≡◌, sym, subst, rules}
use Rattle.std.specs.List.{position}
use Rattle.std.proofs.lemmas.Iterator.{YieldsList-from_slice}
use Rattle.std.proofs.lemmas.Iterator.Search.{position_from_yields_List}
use borrow.Author.Tests.{tests}
use Rattle.store.specs.Programs.{Placed}
use Rattle.store.proofs.Tables.{named, placed}
use Rattle.store.proofs.table.Store.position.Goals as goal

pub returns : goal.returns
returns c =
    let e : c.position.result ≡ position (named c.args.number) c.self.inside.stored.items = position_from_yields_List (named c.args.number) _ _ c.position.result c.position.ensures.ran (YieldsList-from_slice c.self.inside.stored.items cc) (λ x b q k. search (rules, tests)) in
    rw (← c.self.view_is) (subst (Placed c.args.number c.self.inside.stored.items) (sym e) (placed c.args.number c.self.inside.stored.items))
