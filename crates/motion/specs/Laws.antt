-- The laws of ramps, moves and places, in the words of the subject.
use Rattle.std.specs.Prelude.{◌≡◌, ℕ, zero, suc, ◌+◌, ◌-◌, ◌*◌, ◌/◌, ◌<◌, ◌≤◌, max, true, ℤ, pos, ◌-ℤ◌, ◌*ℤ◌, ◌≤ℤ◌, ◌≢◌, unsigned_abs}
use Rattle.std.specs.Int.{int_min, int_max}
use Rattle.motion.specs.declared.raw.RawData.{RawData}
use Rattle.motion.specs.declared.mover.Mover.{Mover}
use Rattle.motion.specs.Data.{Frequencies, Ordered, Short}
use Rattle.motion.specs.Ramp.{Ramp, ramp_of}
use Rattle.motion.specs.Places.{pulses_of, nearest_of, held}
use Rattle.motion.specs.Travel.{Going, gain, way, in_ramp, ticked, braked, begun, passing}
use Rattle.motion.specs.View.{mover_data, mover_ramp, going_of}

-- THE RAMP

-- a ramp rises to fm by at least 1 a step, and then stays
pub record Rises (fm : ℕ) (f : Ramp) : Type 0 where
  pub starts : 1 ≤ f 1
  pub below : (i : ℕ) → 1 ≤ i → f i ≤ fm
  pub climbs : (i : ℕ) → 1 ≤ i → f i < fm → f i < f (suc i)
  pub stays : (i : ℕ) → 1 ≤ i → f i ≡ fm → f (suc i) ≡ fm

-- a ramp ends at step n, the first step equal to fm
abbrev pub EndsAt : ℕ → Ramp → ℕ → Type 0
EndsAt fm f n = (1 ≤ n) × (f n ≡ fm) × ((i : ℕ) → 1 ≤ i → i < n → f i ≢ fm)

-- n is the last step of a rate v, the first step with f(i) ≥ v
abbrev pub LastAt : Ramp → ℕ → ℕ → Type 0
LastAt f v n = (1 ≤ n) × (v ≤ f n) × ((i : ℕ) → 1 ≤ i → i < n → f i < v)

-- the ramp of machine data is such a ramp
abbrev pub RampRises : Type 0
RampRises = (d : RawData) → Frequencies d → Ordered d → Rises d.fm (ramp_of d)

-- data have a ramp of at most 4,096 steps exactly when it ends at one of the first 4,096 steps
abbrev pub RampEnds : Type 0
RampEnds = (d : RawData) → Frequencies d → Ordered d
    → (Short d → (n : ℕ) × (n ≤ 4096) × EndsAt d.fm (ramp_of d) n) × ((n : ℕ) → n ≤ 4096 → EndsAt d.fm (ramp_of d) n → Short d)

-- over any such ramp: a step is not past the last step of a rate exactly when the step before it is below the rate
abbrev pub LastStep : Type 0
LastStep = (fm : ℕ) (f : Ramp) → Rises fm f → (v n : ℕ) → LastAt f v n
    → (k : ℕ) → 1 ≤ k → (in_ramp f v k ≡ true → k ≤ n) × (k ≤ n → in_ramp f v k ≡ true)

-- PLACES

-- n pulses and the coordinate c lie within half a unit or half a pulse of each other, whichever is more
abbrev pub Near : ℕ → ℕ → ℤ → ℤ → Type 0
Near W P n c = 2 * unsigned_abs (n *ℤ pos W -ℤ c *ℤ pos P) ≤ max W P

-- n lies between a and b, whichever is the lesser
abbrev pub Between : ℤ → ℤ → ℤ → Type 0
Between a b n = (int_min a b ≤ℤ n) × (n ≤ℤ int_max a b)

-- a move that starts near stays near at every point of its way, with the nearest unit held between start and target
abbrev pub Drift : Type 0
Drift = (W P : ℕ) → 1 ≤ W → 1 ≤ P → (start target from n : ℤ) → Near W P from start
    → Between from (pulses_of W P target) n → Near W P n (held start target (nearest_of W P n))

-- at its end the target is near
abbrev pub Arrives : Type 0
Arrives = (W P : ℕ) → 1 ≤ W → 1 ≤ P → (target : ℤ) → Near W P (pulses_of W P target) target

-- what is held between start and target lies between them
abbrev pub Held : Type 0
Held = (start target q : ℤ) → Between start target (held start target q)

-- MOVES

-- a move after n ticks of a kind
abbrev pub runs : (Going → Going) → Going → ℕ → Going
runs tick g zero = g
runs tick g (suc n) = tick (runs tick g n)

-- the pulses that these n ticks send
abbrev pub sends : (Going → Going) → Going → ℕ → ℕ
sends tick g zero = 0
sends tick g (suc n) = sends tick g n + (passing (runs tick g n) (tick (runs tick g n))).pulses

-- what is left is no more than the whole, and suffices to brake: S(r − 1) ≤ left
pub record Safe (f : Ramp) (g : Going) : Type 0 where
  pub within : g.left ≤ g.total
  pub brakes : way f g.rate (g.step - 1) ≤ g.left

-- a new move is safe, and each tick and each braking tick keep it so
abbrev pub StaysSafe : Type 0
StaysSafe = (f : Ramp) → ((fm v : ℕ) (D : ℤ) → Safe f (begun fm v D))
    × ((g : Going) → Safe f g → Safe f (ticked f g)) × ((g : Going) → Safe f g → Safe f (braked f g))

-- every mover's ramp rises to its maximum, and its move can always be braked
abbrev pub Movers : Type 0
Movers = (m : Mover) → Rises (mover_data m).fm (mover_ramp m) × Safe (mover_ramp m) (going_of m)

-- a move is complete in its n-th tick, and not before
abbrev pub CompleteIn : Ramp → Going → ℕ → Type 0
CompleteIn f g n = (1 ≤ n) × ((runs (ticked f) g n).step ≡ 0) × ((runs (ticked f) g n).left ≡ 0)
    × ((k : ℕ) → 1 ≤ k → k < n → 1 ≤ (runs (ticked f) g k).step)

-- over any such ramp: an undisturbed move by D pulses is complete some time, and till then has sent |D| pulses
abbrev pub WholeMove : Type 0
WholeMove = (fm : ℕ) (f : Ramp) → Rises fm f → (v : ℕ) (D : ℤ)
    → (n : ℕ) × CompleteIn f (begun fm v D) n × (sends (ticked f) (begun fm v D) n ≡ unsigned_abs D)

-- at no time have more than |D| pulses been sent
abbrev pub NeverPast : Type 0
NeverPast = (f : Ramp) (fm v : ℕ) (D : ℤ) (n m : ℕ)
    → sends (ticked f) (begun fm v D) n + sends (braked f) (runs (ticked f) (begun fm v D) n) m ≤ unsigned_abs D

-- the first tick sends the whole millions of g(1), and all of the move only where that is at least the whole of it
abbrev pub FirstTick : Type 0
FirstTick = (f : Ramp) (fm v : ℕ) (D : ℤ) → (one : ℕ) → one ≡ gain f (begun fm v D).rate 1
    → (one ≤ 1000000 * unsigned_abs D → sends (ticked f) (begun fm v D) 1 ≡ one / 1000000)
    × (1000000 * unsigned_abs D < one → sends (ticked f) (begun fm v D) 1 ≡ unsigned_abs D)
    × (one < 1000000 * unsigned_abs D → sends (ticked f) (begun fm v D) 1 < unsigned_abs D)

-- a stop at step r of a safe move stands by the r-th braking tick, the first if r is 0, and not before; till then it has run S(r − 1)
abbrev pub Stops : Type 0
Stops = (f : Ramp) (g : Going) → Safe f g
    → ((n : ℕ) → max g.step 1 ≤ n → ((runs (braked f) g n).step ≡ 0) × ((runs (braked f) g n).left + way f g.rate (g.step - 1) ≡ g.left))
    × ((n : ℕ) → n < g.step → 1 ≤ (runs (braked f) g n).step)

-- over any such ramp: no tick of an undisturbed move runs more than its rate, and one that completes it runs less than g(1)
abbrev pub SpeedHeld : Type 0
SpeedHeld = (fm : ℕ) (f : Ramp) → Rises fm f → (v : ℕ) (D : ℤ) (n : ℕ) (g : Going) → g ≡ runs (ticked f) (begun fm v D) n
    → (g.left ≤ (ticked f g).left + g.rate) × ((ticked f g).step ≡ 0 → g.left < gain f g.rate 1)
