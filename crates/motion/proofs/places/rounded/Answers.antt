use Rattle.std.proofs.Common.{◌≡◌, ◌^◌, ◌≤◌, ◌*ℤ◌, ◌+ℤ◌, pos, nat_abs, ◌∙◌, rules, arith, SFits, to_z, of_z}
use mir.Syntax.{w128, w64}
use Rattle.std.proofs.lemmas.Int.{ints, to_z-of_z}
use Rattle.motion.proofs.Ints.{quotient, product_bound}
use Rattle.motion.proofs.places.rounded.Goals as goal

pub returns : goal.returns
returns c =
    let z = c.args.z in
    let k = c.args.k in
    let j = c.args.j in
    let a : to_z w128 (of_z w128 c.from.result) ≡ z = omega (arith, ints) in
    let b : to_z w128 (of_z w128 c.from-2.result) ≡ pos k = omega (arith, ints) in
    let e : to_z w128 (of_z w128 c.from-3.result) ≡ pos j = omega (arith, ints) in
    let l : nat_abs (z *ℤ (pos 2 *ℤ pos k)) ≤ 2 ^ 96 = product_bound z k c.ranges.z (omega arith) in
    let p : SFits w128 (pos 2 *ℤ pos k) = omega (arith, ints) in
    let q : SFits w128 (z *ℤ (pos 2 *ℤ pos k)) = omega (arith, ints) in
    let r : SFits w128 (z *ℤ (pos 2 *ℤ pos k) +ℤ pos j) = omega (arith, ints) in
    let i : to_z w64 (of_z w64 c.from-4.result) ≡ pos j = omega (arith, ints) in
    let s : SFits w64 (pos 2 *ℤ pos j) = omega (arith, ints) in
    to_z-of_z w128 c.floored.result (search rules) ∙ (simp (a, b, e, i, to_z-of_z) at c.floored.ensures) ∙ quotient z k j
