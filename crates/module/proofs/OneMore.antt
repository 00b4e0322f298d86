-- One call more keeps the promise of the calls before it.
use Rattle.std.proofs.Common.{◌≡◌, [], ◌∷◌, ◌++◌, sym, ap, ◌∙◌}
use Rattle.module.specs.declared.call.Call.{Call}
use Rattle.module.specs.State.{Machine}
use Rattle.module.specs.Machine.{Reply, new_machine, step, reply, replies}
use Rattle.module.specs.Promise.{GoesOn}
use Rattle.module.proofs.Longer.{after-more, replies-more}
use Rattle.module.proofs.Promised.{promised}

pub goes_on : (c : Call) (answer : Reply) (s t : Machine) → answer ≡ reply c s → t ≡ step c s → GoesOn c answer s t
goes_on c answer s t e f x y z sx sy sz before h =
    let new = new_machine x y z in
    let answers = replies new before ++ (answer ∷ []) in
    let left = f ∙ ap (step c) h ∙ sym (after-more new before c) in
    let answered = ap (λ (r : Reply). replies new before ++ (r ∷ [])) (e ∙ ap (reply c) h) ∙ sym (replies-more new before c) in
    promised x y z sx sy sz (before ++ (c ∷ [])) answers t.first.drive t.second.drive t.third.drive
    record {
      replies = answered;
      first = ap (λ (m : Machine). m.first.drive) left;
      second = ap (λ (m : Machine). m.second.drive) left;
      third = ap (λ (m : Machine). m.third.drive) left;
    }
