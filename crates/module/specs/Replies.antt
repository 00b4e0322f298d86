-- What the code's answers say, as replies of the coordinate machine.
use Rattle.std.specs.Prelude.{ℕ, Some, None, Ok, Err, Option, Result}
use Rattle.store.specs.declared.entry.Entry.{Entry}
use Rattle.store.specs.declared.entry.HandedBack.{HandedBack}
use Rattle.store.specs.declared.entry.CloseRefusal.{CloseRefusal}
use Rattle.store.specs.declared.fault.StoreFault.{StoreFault}
use Rattle.store.specs.Entry.{open_reply}
use Rattle.states.specs.declared.fault.AxisFault.{AxisFault}
use Rattle.states.specs.declared.observation.Observation.{Observation}
use Rattle.states.specs.Observation.{Shown, shown_by}
use Rattle.module.specs.declared.call.Answer.{Answer}
use Rattle.module.specs.declared.call.Answer.TheVariants as answer
use Rattle.module.specs.declared.fault.Fault.{Fault}
use Rattle.module.specs.declared.fault.Fault.TheVariants.{OfStore}
use Rattle.module.specs.Faults.{close_fault, abandon_fault}
use Rattle.module.specs.State.{Machine}
use Rattle.module.specs.Machine.{Reply, done, shown, refused}

-- of one axis: nothing where an act is done, and what it shows
abbrev pub answer_by : Result (Option (Observation AxisFault)) AxisFault → Result (Option (Shown AxisFault)) AxisFault
answer_by (Ok None) = Ok None
answer_by (Ok (Some o)) = Ok (Some (shown_by o))
answer_by (Err f) = Err f

abbrev pub reply_by : Result Answer Fault → Reply
reply_by (Ok answer.Done) = done
reply_by (Ok (answer.Shown o)) = shown (shown_by o)
reply_by (Err f) = refused f

abbrev pub shown_in : Result (Observation Fault) Fault → Reply
shown_in (Ok o) = shown (shown_by o)
shown_in (Err f) = refused f

abbrev pub refusal_in : Reply → Result (Unit {0}) Fault
refusal_in done = Ok tt
refusal_in (shown o) = Ok tt
refusal_in (refused f) = Err f

-- opening by token
abbrev pub token_or : Result Entry StoreFault → Result Entry Fault
token_or (Ok e) = Ok e
token_or (Err f) = Err (OfStore f)

abbrev pub opened_reply : ℕ → Machine → Result Entry Fault
opened_reply n s = token_or (open_reply n s.programs)

-- what the calls by token are answered, apart from the token that is given or handed back
abbrev pub reply_of_open : Result Entry Fault → Reply
reply_of_open (Ok e) = done
reply_of_open (Err f) = refused f

abbrev pub reply_of_close : Result (Unit {0}) CloseRefusal → Reply
reply_of_close (Ok u) = done
reply_of_close (Err r) = refused (close_fault r)

abbrev pub reply_of_abandon : Result (Unit {0}) HandedBack → Reply
reply_of_abandon (Ok u) = done
reply_of_abandon (Err back) = refused (abandon_fault back)
