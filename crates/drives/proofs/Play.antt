-- An accepted pulse of a take-up layer.
use Rattle.std.proofs.Common.{◌≡◌, ℕ, true, pos, ◌+ℤ◌, Ok, Result, arith}
use Rattle.std.proofs.lemmas.Int.{ints}
use Rattle.drives.specs.declared.direction.Direction.{Direction}
use Rattle.drives.specs.declared.fault.Refusal.{Refusal}
use Rattle.drives.specs.Meaning.{Meaning, Sound, at, one, answered, pulsed, turned}
use Rattle.drives.specs.Sending.{sent, told}
use Rattle.drives.specs.Play.{lead, fits, layer, passed, beneath}
use Rattle.drives.proofs.Sends.{gone, Within, all-sent, all_told}

-- where the layer accepts a pulse, the drive below has room for all that it is sent
room_below : (b : ℕ) (d f : Direction) (m : Meaning) → Sound m → fits b f m ≡ true → answered d (layer b f m) ≡ Ok tt → (m.ready ≡ true) × Within d (passed b d f) m
room_below b d f m s h ok = grind (arith, ints)

-- and again it can go the whole play against the flank
room_again : (b : ℕ) (d f : Direction) (m : Meaning) → Sound m → fits b f m ≡ true → answered d (layer b f m) ≡ Ok tt → fits b d (at (gone d (passed b d f) m) m) ≡ true
room_again b d f m s h ok = grind (arith, ints)

-- the layer goes on by one
gone_by_one : (b : ℕ) (d f : Direction) (m : Meaning) → gone d (passed b d f) m +ℤ pos (lead b d) ≡ (m.count +ℤ pos (lead b f)) +ℤ one d
gone_by_one b d f m = grind (arith, ints)

layer_goes : (b : ℕ) (d f : Direction) (m : Meaning) → Sound m → fits b f m ≡ true → answered d (layer b f m) ≡ Ok tt → layer b d (at (gone d (passed b d f) m) m) ≡ pulsed d (layer b f m)
layer_goes b d f m s h ok = grind (arith, room_again b d f m s h ok, gone_by_one b d f m)

-- what is to be shown of the layer and the drive below, with x the drive below after the pulses that were passed on
pub record Owed (b : ℕ) (d f : Direction) (m : Meaning) (r : Result (Unit {0}) Refusal) (x : Meaning) : Type 0 where
  pub room_for_play : fits b d x ≡ true
  pub value : r ≡ answered d (layer b f m)
  pub after : layer b d x ≡ pulsed d (layer b f m)
  pub below : x ≡ beneath b d f m
  pub flank : d ≡ turned r d f

pub owed : (b k : ℕ) (d f : Direction) (m x : Meaning) (r : Result (Unit {0}) Refusal) → Sound m → fits b f m ≡ true → answered d (layer b f m) ≡ Ok tt → k ≡ passed b d f → r ≡ told d k m → x ≡ sent d k m → Owed b d f m r x
owed b k d f m x r s h ok e value after =
    let room = room_below b d f m s h ok in
    let all_ok : r ≡ Ok tt = cc (all_told d (passed b d f) m s room.0 room.1) in
    let to : x ≡ at (gone d (passed b d f) m) m = cc (all-sent d (passed b d f) m s room.0 room.1) in
    record { room_for_play = rw to (room_again b d f m s h ok); value = cc; after = rw to (layer_goes b d f m s h ok); below = cc; flank = cc }
