-- A new move: where its target can be attained, the move is on its way.
use Rattle.std.proofs.Common.{◌≡◌, ℕ, ◌-◌, ◌*◌, ◌/◌, Bool, ℤ, ◌+ℤ◌, ◌-ℤ◌, nat_abs, Some, Ok, Option, refl, arith}
use Rattle.std.proofs.lemmas.Int.{ints}
use Rattle.drives.specs.Meaning.{Meaning}
use Rattle.motion.specs.declared.raw.RawData.{RawData}
use Rattle.motion.specs.Ramp.{ramp_of}
use Rattle.motion.specs.Places.{pulses_by}
use Rattle.motion.proofs.Runs.{stays-safe}
use Rattle.states.specs.declared.aim.Aim.{Aim}
use Rattle.states.specs.State.{Course, Work}
use Rattle.states.specs.Asking.{aim_for, move_verdict, move_questions}
use Rattle.states.specs.Moves.{begun_in}
use Rattle.states.specs.Effects.{travel_to}
use Rattle.laws.proofs.Asked.{Yes, accepted}
use Rattle.laws.specs.Kept.{Attainable, along, OnWay, KeptWith}

-- nothing is passed yet, and a place less the way to it is where the way began
at-start : (D n p : ℤ) (t : ℕ) → D ≡ p -ℤ n → n ≡ (p -ℤ D) +ℤ along D ((t - t) / 1000000)
at-start D n p t e = grind (arith, ints)

-- a move to a target that can be attained is on its way
pub new_move : (d : RawData) (m : Meaning) (w : Work) (rate : ℕ) (target : ℤ) (c : Option Course) → KeptWith d m w
    → Attainable d m w.zero w.referenced target
    → OnWay d m w.zero w.referenced (travel_to (Some d) (aim_for d rate target m w.zero) c w)
unfolding begun_in
new_move d m w rate target c k a =
    let n = m.count -ℤ w.zero in
    let p = pulses_by d target in
    let b : n ≡ p -ℤ (p -ℤ n) = omega (arith, ints) in
    record {
      began = rw (← b) k.drift;
      gone = at-start (p -ℤ n) n p (1000000 * nat_abs (p -ℤ n)) refl;
      whole = refl;
      safe = (stays-safe (ramp_of d)).0 d.fm rate (p -ℤ n);
      target = a;
      start = k.limits;
    }

-- a target of which all is answered yes can be attained
pub attained : (d : RawData) (rate : ℕ) (target : ℤ) (m : Meaning) (zero : ℤ) (referenced : Bool)
    → Yes (move_questions d rate target m zero referenced) → Attainable d m zero referenced target
attained d rate target m zero referenced y = record {
  ends = grind (arith, ints, y);
  limits = λ e. grind (arith, ints, y);
}

-- and so can one for which a move is granted
pub attains : (d : RawData) (rate : ℕ) (target : ℤ) (m : Meaning) (zero : ℤ) (referenced : Bool) (aim : Aim)
    → move_verdict d rate target m zero referenced ≡ Ok aim → Attainable d m zero referenced target × (aim_for d rate target m zero ≡ aim)
attains d rate target m zero referenced aim y =
    let q = accepted (move_questions d rate target m zero referenced) (aim_for d rate target m zero) aim y in
    (attained d rate target m zero referenced q.0, q.1)
