-- Which number, layer and place each fault has, and the fault of a call by token that is refused.
use Rattle.std.specs.Prelude.{◌≡◌, ℕ, Bool, true, not, ◌&&◌, ◌==◌, nat_le}
use Rattle.states.specs.declared.fault.Layer.{Layer}
use Rattle.states.specs.declared.fault.Layer.TheVariants as layer
use Rattle.states.specs.Faults.{cause_number, cause_layer}
use Rattle.store.specs.declared.fault.StoreFault.{StoreFault}
use Rattle.store.specs.declared.fault.StoreFault.TheVariants.{NotStored, OutOfRange, AlreadyStored, StoreFull, EntryOpen, NotOpen, Line, NotClosable}
use Rattle.store.specs.declared.fault.Place.{Place as StorePlace}
use Rattle.store.specs.declared.fault.Place.TheVariants as of_store
use Rattle.store.specs.declared.entry.HandedBack.{HandedBack}
use Rattle.store.specs.declared.entry.CloseRefusal.{CloseRefusal}
use Rattle.store.specs.Faults as store
use Rattle.store.specs.Faults.{refusal_fault}
use Rattle.module.specs.declared.fault.Fault.{Fault}
use Rattle.module.specs.declared.fault.Fault.TheVariants.{NoSuchAxis, OfAxis, OfStore, InUse}
use Rattle.module.specs.declared.fault.Place.{Place}
use Rattle.module.specs.declared.fault.Place.TheVariants.{Byte, At}

abbrev pub number_of : Fault → ℕ
number_of (NoSuchAxis axis program) = 1
number_of (OfAxis axis fault) = cause_number fault.cause
number_of (OfStore fault) = store.number_of fault
number_of (InUse program) = 36

-- the numbers that the rules use: 1 to 36 without 6 and 25
abbrev pub is_used : ℕ → Bool
is_used n = nat_le 1 n && nat_le n 36 && not (n == 6) && not (n == 25)

abbrev pub UsedNumbers : Type 0
UsedNumbers = (f : Fault) → is_used (number_of f) ≡ true

abbrev pub store_layer : StoreFault → Layer
store_layer (NotStored n) = layer.Store
store_layer (OutOfRange n) = layer.Store
store_layer (AlreadyStored n) = layer.Store
store_layer (StoreFull n) = layer.Store
store_layer (EntryOpen n) = layer.Store
store_layer (NotOpen n) = layer.Store
store_layer (Line e) = layer.Line
store_layer (NotClosable n) = layer.Store

abbrev pub layer_of : Fault → Layer
layer_of (NoSuchAxis axis program) = layer.Axis
layer_of (OfAxis axis fault) = cause_layer fault.cause
layer_of (OfStore fault) = store_layer fault
layer_of (InUse program) = layer.Store

abbrev pub store_place : StorePlace → Place
store_place (of_store.Byte b) = Byte b
store_place (of_store.Program n) = At 0 n 0

-- a byte of the line; else axis, program and block, 0 for none
abbrev pub place_of : Fault → Place
place_of (NoSuchAxis axis program) = At axis program 0
place_of (OfAxis axis fault) = At axis fault.program fault.block
place_of (OfStore fault) = store_place (store.place_of fault)
place_of (InUse program) = At 0 program 0

-- of a closing by token: 30 or 35
abbrev pub close_fault : CloseRefusal → Fault
close_fault r = OfStore (refusal_fault r)

-- of an abandoning by token: 30
abbrev pub abandon_fault : HandedBack → Fault
abandon_fault back = OfStore back.fault
