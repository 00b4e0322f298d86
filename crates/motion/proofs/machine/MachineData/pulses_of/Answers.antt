use Rattle.std.proofs.Common.{◌≡◌, ◌≤◌, ℤ, nat_abs, sym, ap, ◌∙◌, subst, arith, w64, to_z, of_z}
use mir.Syntax.{w128}
use Rattle.std.proofs.lemmas.Int.{ints}
use Rattle.motion.specs.Places.{rounded_of}
use Rattle.motion.proofs.Ints.{pulses_small}
use Rattle.motion.proofs.machine.MachineData.pulses_of.Goals as goal

-- what the call answers
is : (c : goal.After-rounded) → c.rounded.result ≡ rounded_of c.args.coordinate c.self.inside.values.pulses c.self.inside.values.units
is c =
    let e : to_z w64 (of_z w64 c.from.result) ≡ c.args.coordinate = omega (arith, ints) in
    c.rounded.ensures ∙ ap (λ (z : ℤ). rounded_of z c.self.inside.values.pulses c.self.inside.values.units) e

few : (c : goal.After-rounded) → nat_abs c.rounded.result ≤ 50000000000000
few c =
    let d = c.self.inside.values in
    let gear = c.self.invariant.0.in_range.2 in
    let P : ℤ → Type 0 = λ z. nat_abs z ≤ 50000000000000 in
    subst P (sym (is c)) (pulses_small c.args.coordinate d.pulses d.units c.ranges.coordinate gear.1.1 gear.0.1)

pub overflow_cast-result : goal.overflow_cast-result
overflow_cast-result c = let f = few c in omega (arith, ints)

pub returns-clause-value : goal.returns-clause-value
returns-clause-value c =
    let f = few c in
    let e : to_z w64 (of_z w64 (to_z w128 (of_z w128 c.rounded.result))) ≡ c.rounded.result = omega (arith, ints) in
    rw (← c.self.view_is) (e ∙ is c)

pub returns-clause-small : goal.returns-clause-small
returns-clause-small c = let f = few c in omega (arith, ints)
