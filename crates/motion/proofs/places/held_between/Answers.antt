use Rattle.std.proofs.Common.{◌≡◌, ◌∙◌, arith, w32, to_z, of_z}
use mir.Syntax.{w128}
use Rattle.std.proofs.lemmas.Int.{ints, to_z-of_z}
use Rattle.motion.proofs.places.held_between.Goals as goal

pub returns : goal.returns
returns c =
    let s = to_z-of_z w32 c.args.start c.ranges.start in
    let t = to_z-of_z w32 c.args.target c.ranges.target in
    let q = to_z-of_z w128 c.args.q c.ranges.q in
    let low : to_z w128 (of_z w128 c.from-low.result) ≡ c.min.result = omega (arith, ints) in
    let high : to_z w128 (of_z w128 c.from-high.result) ≡ c.max.result = omega (arith, ints) in
    let least = simp (s, t) at c.min.ensures.value in
    let greatest = simp (s, t) at c.max.ensures.value in
    let e : to_z w32 (of_z w32 (to_z w128 (of_z w128 c.clamp.result))) ≡ c.clamp.result = omega (arith, ints) in
    e ∙ (simp (low, high, q, least, greatest) at c.clamp.ensures.value)
