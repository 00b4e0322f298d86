use Rattle.std.proofs.Common.{◌≡◌, [], ◌∷◌, Ok, Err, sym, ◌∙◌, arith, rules}
use Rattle.states.specs.declared.fault.Cause.{Cause}
use Rattle.states.specs.Asking.{Questions, ◌asks◌, move_questions}
use Rattle.orders.proofs.asking.StandingRequest.go.Goals as goal

-- a refused list of questions is refused whatever is answered at its end
refused : {A B : Type 0} (qs : Questions) (a : A) (b : B) (e : Cause) → qs asks Ok a ≡ Err e → qs asks Ok b ≡ Err e
refused [] a b e p = cc
refused (q ∷ qs) a b e p = grind (arith, refused qs a b e)

pub returns-in_err-ask_move : goal.returns-in_err-ask_move
returns-in_err-ask_move c =
    let v = c.args.self.now.view in
    let w = c.args.wish in
    let qs = move_questions v.machine.now w.rate w.target v.reading v.work.now.zero v.work.now.referenced in
    let e : c.from_residual.result ≡ Err c.in_err-ask_move.field-0.0 = search rules in
    e ∙ sym (refused qs _ _ _ (sym c.ask_move.ensures ∙ c.in_err-ask_move.was))

pub returns : goal.returns
returns c = grind arith
