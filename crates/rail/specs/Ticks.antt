-- Up to so many ticks of one axis.
use Rattle.std.specs.Prelude.{ℕ, zero, suc, ◌+◌, Some, None, Ok, Err, Option, Result}
use Rattle.module.specs.declared.call.Act.TheVariants.{Tick}
use Rattle.module.specs.declared.call.Call.TheVariants.{OnAxis}
use Rattle.module.specs.declared.fault.Fault.{Fault}
use Rattle.module.specs.State.{Machine}
use Rattle.module.specs.Machine.{reply, step}
use Rattle.module.specs.Replies.{refusal_in}

-- how many ticks were made, the fault of the last one, and what they leave
pub record Counted : Type 0 where
  pub made : ℕ
  pub fault : Option Fault
  pub left : Machine

-- after a tick that is not refused more may follow
abbrev pub go_on : Result (Unit {0}) Fault → ℕ → Machine → Counted → Counted
go_on (Ok u) made s more = more
go_on (Err f) made s more = record { made = made; fault = Some f; left = s }

-- up to k ticks more, after so many made; the last one made is the first that answers a fault
abbrev pub counted : ℕ → ℕ → ℕ → Machine → Counted
counted zero made n s = record { made = made; fault = None; left = s }
counted (suc k) made n s = go_on (refusal_in (reply (OnAxis n Tick) s)) (made + 1) (step (OnAxis n Tick) s) (counted k (made + 1) n (step (OnAxis n Tick) s))
