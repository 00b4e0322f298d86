-- The first of the ticks that are left to count.
use Rattle.std.proofs.Common.{◌≡◌, ℕ, suc, ◌+◌, ◌-◌, ◌<◌, ap, arith}
use Rattle.module.specs.declared.call.Act.TheVariants.{Tick}
use Rattle.module.specs.declared.call.Call.TheVariants.{OnAxis}
use Rattle.module.specs.State.{Machine}
use Rattle.module.specs.Machine.{reply, step}
use Rattle.module.specs.Replies.{refusal_in}
use Rattle.rail.specs.Ticks.{go_on, counted}

-- with i of m made, the next one is refused, or those after it are counted
pub next_tick : (m i n : ℕ) (s : Machine) → i < m
    → counted (m - i) i n s ≡ go_on (refusal_in (reply (OnAxis n Tick) s)) (i + 1) (step (OnAxis n Tick) s) (counted (m - (i + 1)) (i + 1) n (step (OnAxis n Tick) s))
next_tick m i n s h =
    let more : m - i ≡ suc (m - (i + 1)) = omega (arith, h) in
    ap (λ k. counted k i n s) more
