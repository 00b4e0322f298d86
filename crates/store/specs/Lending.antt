-- What the store is once the record of its open entry is no longer lent.
use Rattle.std.specs.Prelude.{Ok, Err, Result}
use Rattle.std.specs.Borrow.{Lends, LendsIfOk, MutBor, Fml}
use Rattle.store.specs.declared.fault.StoreFault.{StoreFault}
use Rattle.store.specs.contracts.record.Record as lent
use Rattle.store.specs.contracts.table.Store as lender
use Rattle.store.specs.Programs.{Program, Programs}
use Rattle.store.specs.Entry.{entered}

-- the record that is lent, as it stands, or the fault
abbrev pub lent_now : Result (MutBor Program) StoreFault → Result Program StoreFault
lent_now (Ok r) = Ok r.now
lent_now (Err f) = Err f

-- the store with what the record was changed to as its open entry
abbrev pub LendsRecord : MutBor Programs → MutBor Program → Fml
LendsRecord s r = Lends lender.the_row lent.the_row s r (λ p. entered p s.now)

-- the same, and at a fault the store as it was
abbrev pub LendsEntry : MutBor Programs → Result (MutBor Program) StoreFault → Fml
LendsEntry s r = LendsIfOk lender.the_row lent.the_row s r (λ p. entered p s.now) s.now
