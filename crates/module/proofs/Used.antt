-- Every fault has a number that the rules use.
use Rattle.std.proofs.Common.{◌≡◌, true, refl}
use Rattle.states.specs.declared.fault.Cause.{Cause}
use Rattle.states.specs.Faults.{cause_number}
use Rattle.store.specs.declared.fault.StoreFault.{StoreFault}
use Rattle.store.specs.Faults as store
use Rattle.module.specs.declared.fault.Fault.TheVariants.{NoSuchAxis, OfAxis, OfStore, InUse}
use Rattle.module.specs.Faults.{is_used, UsedNumbers}
use Rattle.std.proofs.Common.{arith}

of_axis : (c : Cause) → is_used (cause_number c) ≡ true
of_axis c = grind arith

of_store : (e : StoreFault) → is_used (store.number_of e) ≡ true
of_store e = grind arith

pub used : UsedNumbers
used (NoSuchAxis axis program) = refl
used (OfAxis axis fault) = of_axis fault.cause
used (OfStore fault) = of_store fault
used (InUse program) = refl
