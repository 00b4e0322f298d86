-- What an accepted order does to an axis with machine data, plan by plan: each keeps what an axis keeps.
use Rattle.std.proofs.Common.{◌≡◌, ℕ, Bool, true, false, ◌||◌, eqb, ℤ, ◌-ℤ◌, Some, None, sym, refl, ◌∙◌, subst, arith}
use Rattle.std.proofs.lemmas.Int.{ints}
use Rattle.std.proofs.lemmas.Bool.{false≢true}
use Rattle.drives.specs.Meaning.{Meaning}
use Rattle.motion.specs.declared.raw.RawData.{RawData}
use Rattle.motion.specs.Data.{InRange}
use Rattle.motion.specs.Places.{pulses_by}
use Rattle.motion.specs.Laws.{Near}
use Rattle.motion.proofs.Drift.{arrives}
use Rattle.states.specs.State.{Phase, standing, moving, braking, held, between, Work, with_phase, course_of}
use Rattle.states.specs.Asking.{aim_for}
use Rattle.states.specs.Courses.{opening}
use Rattle.states.specs.Effects.{set_off}
use Rattle.orders.specs.Effects.{taken, taken_over, zeroed, with_offset, with_tool, gone_on}
use Rattle.laws.specs.Kept.{Attainable, KeptIn, KeptWith}
use Rattle.laws.proofs.Doing.{doing_keeps}
use Rattle.laws.proofs.NewMove.{new_move}
use Rattle.laws.proofs.Refusing.{Holds}

-- a held program that goes on is between two of its blocks
gone_keeps : (p : Phase) (d : RawData) (m : Meaning) (zero : ℤ) (r : Bool) → KeptIn p d m zero r
    → KeptIn (gone_on p) d m zero r
gone_keeps standing d m zero r k = tt
gone_keeps (moving t) d m zero r k = k
gone_keeps (braking t) d m zero r k = k
gone_keeps (held c u) d m zero r k = tt
gone_keeps (between c) d m zero r k = tt

-- n is then what it was taken to be
taken-back : (c p : ℤ) → p ≡ c -ℤ (c -ℤ p)
taken-back c p = omega (arith, ints)

-- after referencing, count and reference coordinate are near
zero_near : (d : RawData) (m : Meaning) → InRange d
    → Near d.units d.pulses (m.count -ℤ (m.count -ℤ pulses_by d d.reference)) d.reference
zero_near d m i =
    subst (λ (n : ℤ). Near d.units d.pulses n d.reference) (taken-back m.count (pulses_by d d.reference))
    (arrives d.units d.pulses i.2.0.0 i.2.1.0 d.reference)

-- the orders of an axis with machine data
module _ (mode : ℕ) (d : RawData) (m : Meaning) (w : Work) (k : KeptWith d m w) where
  -- referencing: the reference coordinate lies within the limits
  pub zero_holds : Holds (Some d) m (zeroed (Some d) m (taken mode w))
  zero_holds = (
    record { range = k.range; agree = k.agree; drift = zero_near d m k.range; limits = λ e. k.agree.2; doing = tt },
    λ n. (refl, refl),
  )

  -- another Z
  pub offset_holds : (z : ℤ) → Holds (Some d) m (with_offset z (taken mode w))
  offset_holds z = (doing_keeps d m w k tt, λ n. (refl, refl))

  -- another T
  pub tool_holds : (t : ℤ) → Holds (Some d) m (with_tool t (taken mode w))
  tool_holds t = (doing_keeps d m w k tt, λ n. (refl, refl))

  -- the axis without its program
  taken_with : KeptWith d m (taken mode w)
  taken_with = doing_keeps d m w k tt

  -- with it
  over_with : KeptWith d m (taken_over mode w)
  over_with = doing_keeps d m w k k.doing

  -- a move to a target that can be attained
  pub go_holds : (rate : ℕ) (target : ℤ) → Attainable d m w.zero w.referenced target
      → Holds (Some d) m (set_off (Some d) (aim_for d rate target m w.zero) None (taken mode w))
  go_holds rate target a =
      (doing_keeps d m w k (new_move d m (taken mode w) rate target None taken_with a), λ n. (refl, refl))

  -- a program, in mode 8 or 9 alone
  module _ (p : (eqb mode 8 || eqb mode 9) ≡ true) where
    -- nothing is asked of what shows
    shown_there : {A : Type 0} → (eqb mode 8 || eqb mode 9) ≡ false → A
    shown_there n = absurd (false≢true (sym n ∙ p))

    -- it begins
    pub begin_holds : (n : ℕ) → Holds (Some d) m (with_phase (between (opening n)) (taken mode w))
    begin_holds n = (doing_keeps d m w k tt, λ n. shown_there n)

    -- it goes on to its unfinished target
    pub resume_holds : (rate : ℕ) (target : ℤ) → Attainable d m w.zero w.referenced target
        → Holds (Some d) m (set_off (Some d) (aim_for d rate target m w.zero) (course_of w.phase) (taken_over mode w))
    resume_holds rate target a = (
      doing_keeps d m w k (new_move d m (taken_over mode w) rate target (course_of w.phase) over_with a),
      λ n. shown_there n,
    )

    -- it goes on to its next block
    pub continue_holds : Holds (Some d) m (with_phase (gone_on w.phase) (taken_over mode w))
    continue_holds = (doing_keeps d m w k (gone_keeps w.phase d m w.zero w.referenced k.doing), λ n. shown_there n)
