-- Which number and which place each fault of the store has, and why a closing is refused.
use Rattle.std.specs.Prelude.{ℕ}
use Rattle.reader.specs.Faults as line
use Rattle.store.specs.declared.fault.StoreFault.{StoreFault}
use Rattle.store.specs.declared.fault.StoreFault.TheVariants.{NotStored, OutOfRange, AlreadyStored, StoreFull, EntryOpen, NotOpen, Line, NotClosable}
use Rattle.store.specs.declared.entry.CloseRefusal.{CloseRefusal}
use Rattle.store.specs.declared.entry.CloseRefusal.TheVariants.{NotThisOne, Ended}
use Rattle.store.specs.declared.fault.Place.{Place}
use Rattle.store.specs.declared.fault.Place.TheVariants as place

abbrev pub number_of : StoreFault → ℕ
number_of (NotStored n) = 14
number_of (OutOfRange n) = 26
number_of (AlreadyStored n) = 27
number_of (StoreFull n) = 28
number_of (EntryOpen n) = 29
number_of (NotOpen n) = 30
number_of (Line e) = line.number_of e
number_of (NotClosable n) = 35

abbrev pub place_of : StoreFault → Place
place_of (NotStored n) = place.Program n
place_of (OutOfRange n) = place.Program n
place_of (AlreadyStored n) = place.Program n
place_of (StoreFull n) = place.Program n
place_of (EntryOpen n) = place.Program n
place_of (NotOpen n) = place.Program n
place_of (Line e) = place.Byte (line.place_of e)
place_of (NotClosable n) = place.Program n

-- the fault of a closing by token that is refused
abbrev pub refusal_fault : CloseRefusal → StoreFault
refusal_fault (NotThisOne back) = back.fault
refusal_fault (Ended f) = f
