-- The shift as the accepted acts of an axis give it: by the last that sets a value, and those that add to it after that.
use Rattle.std.specs.Prelude.{◌≡◌, cond, List, [], ◌∷◌, ◌++◌, ℤ, pos, ◌+ℤ◌, Some, None, Option, ◌==◌}
use Rattle.laws.specs.Acts.{Act, entering, deleting, ordering, levelling, ticking}
use Rattle.module.specs.History.{PastAct, is_done}

-- the acts that were accepted
abbrev pub accepted : List PastAct → List Act
accepted [] = []
accepted (h ∷ hs) = cond (is_done h.reply) (h.act ∷ accepted hs) (accepted hs)

-- the value that an act sets Z to: mode 12 its double word; mode 14, and machine data entered or deleted, zero
abbrev pub sets_offset : Act → Option ℤ
sets_offset (entering d) = Some (pos 0)
sets_offset deleting = Some (pos 0)
sets_offset (ordering o) = cond (o.mode == 12) (Some o.double) (cond (o.mode == 14) (Some (pos 0)) None)
sets_offset (levelling begin end ready) = None
sets_offset ticking = None

-- and what it adds to Z: mode 13 its double word
abbrev pub adds_offset : Act → ℤ
adds_offset (entering d) = pos 0
adds_offset deleting = pos 0
adds_offset (ordering o) = cond (o.mode == 13) o.double (pos 0)
adds_offset (levelling begin end ready) = pos 0
adds_offset ticking = pos 0

-- the value that an act sets T to: mode 15 its double word; mode 16, and machine data entered or deleted, zero
abbrev pub sets_tool : Act → Option ℤ
sets_tool (entering d) = Some (pos 0)
sets_tool deleting = Some (pos 0)
sets_tool (ordering o) = cond (o.mode == 15) (Some o.double) (cond (o.mode == 16) (Some (pos 0)) None)
sets_tool (levelling begin end ready) = None
sets_tool ticking = None

-- nothing adds to T
abbrev pub adds_tool : Act → ℤ
adds_tool a = pos 0

abbrev pub NoneSets : (Act → Option ℤ) → List Act → Type 0
NoneSets sets [] = Unit {0}
NoneSets sets (a ∷ acts) = (sets a ≡ None) × NoneSets sets acts

abbrev pub sum : (Act → ℤ) → List Act → ℤ
sum adds [] = pos 0
sum adds (a ∷ acts) = adds a +ℤ sum adds acts

-- v is the last value that is set and all that is added after it; where none is set, all that is added
pub record LastAndAfter (sets : Act → Option ℤ) (adds : Act → ℤ) (acts : List Act) (v : ℤ) : Type 0 where
  pub unset : NoneSets sets acts → v ≡ sum adds acts
  pub last : (before later : List Act) (a : Act) (n : ℤ) → acts ≡ before ++ (a ∷ later) → sets a ≡ Some n → NoneSets sets later → v ≡ n +ℤ sum adds later
