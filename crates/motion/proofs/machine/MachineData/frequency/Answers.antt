use Rattle.std.proofs.Common.{◌≡◌, ℕ, suc, ◌-◌, ◌<◌, ◌≤◌, List, get_or, length, Option, unwrap_or, sym, ap, ◌∙◌, ⊎_elim, rules, arith}
use Rattle.std.proofs.lemmas.Bool.{cases_lt}
use Rattle.std.proofs.lemmas.List.{get_or_default, get_or_past}
use Rattle.motion.specs.Data.{Short, Tabled}
use Rattle.motion.specs.Ramp.{after_first}
use Rattle.motion.specs.declared.raw.RawData.{RawData}
use Rattle.motion.proofs.Curve.{past}
use Rattle.motion.proofs.machine.MachineData.frequency.Goals as goal

-- the table at a place, and the maximum past its end
reads : (d : RawData) (table : List ℕ) → Short d → Tabled d table → (place : ℕ) → length table ≡ 4096
    → get_or table place d.fm ≡ after_first d.fs d.fm d.increase place
reads d table short ramp place n =
    ⊎_elim
    (λ (h : place < 4096).
    let l : place < length table = omega arith in
    let e : suc place - 1 ≡ place = omega arith in
    get_or_default table place d.fm 0 l ∙ (rw e at (ramp (suc place) (omega arith) (omega arith))))
    (λ (h : 4096 ≤ place).
    let l : length table ≤ place = omega arith in
    get_or_past table place d.fm l ∙ sym (past d.fs d.fm d.increase 4095 place short (omega arith)))
    (cases_lt place 4096)

pub returns : goal.returns
returns c =
    let m = c.self.inside in
    let v = c.self.invariant in
    let p = c.saturating_sub-index.result in
    rw (← c.self.view_is)
    (c.unwrap_or.ensures ∙ ap (λ (o : Option ℕ). unwrap_or o m.values.fm) c.copied.ensures
    ∙ c.get.ensures.lookup.4 (omega arith) m.values.fm ∙ reads m.values m.table v.0.agree.3 v.1 p (search rules)
    ∙ ap (after_first m.values.fs m.values.fm m.values.increase) c.saturating_sub-index.ensures)
