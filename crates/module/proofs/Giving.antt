-- The values that a run gives Z and T, by the last that sets one and those that add after it.
use Rattle.std.proofs.Common.{◌≡◌, List, [], ◌∷◌, ◌++◌, ℤ, pos, ◌+ℤ◌, Some, None, Option, refl, ◌∙◌, ap, arith}
use Rattle.std.proofs.lemmas.Int.{ints}
use Rattle.laws.specs.Acts.{Act, entering, deleting, ordering, levelling, ticking}
use Rattle.laws.specs.Laws.{offset_after, tool_after}
use Rattle.module.specs.History.{PastAct, offset_in, tool_in}
use Rattle.module.specs.Given.{accepted, sets_offset, adds_offset, sets_tool, adds_tool, NoneSets, sum, LastAndAfter}

-- acts one after another
abbrev fold : (Act → ℤ → ℤ) → List Act → ℤ → ℤ
fold next [] z = z
fold next (a ∷ acts) z = fold next acts (next a z)

module _ (next : Act → ℤ → ℤ) (sets : Act → Option ℤ) (adds : Act → ℤ)
    (set : (a : Act) (n z : ℤ) → sets a ≡ Some n → next a z ≡ n) (add : (a : Act) (z : ℤ) → sets a ≡ None → next a z ≡ z +ℤ adds a) where
  -- where none sets, all is added
  added : (acts : List Act) (z : ℤ) → NoneSets sets acts → fold next acts z ≡ z +ℤ sum adds acts
  added [] z h = omega (arith, ints)
  added (a ∷ acts) z h =
      let more : fold next acts (next a z) ≡ next a z +ℤ sum adds acts = added acts (next a z) h.1 in
      let here : next a z ≡ z +ℤ adds a = add a z h.0 in
      omega (arith, ints, more, here)

  -- what comes before one that sets is gone
  from_last : (before later : List Act) (a : Act) (n z : ℤ) → sets a ≡ Some n → NoneSets sets later
      → fold next (before ++ (a ∷ later)) z ≡ n +ℤ sum adds later
  from_last [] later a n z e h = ap (fold next later) (set a n z e) ∙ added later n h
  from_last (b ∷ before) later a n z e h = from_last before later a n (next b z) e h

  pub last_and_after : (acts : List Act) (v : ℤ) → v ≡ fold next acts (pos 0) → LastAndAfter sets adds acts v
  last_and_after acts v e = record {
    unset = λ h. let z = added acts (pos 0) h in omega (arith, ints, z, e);
    last = λ before later a n q s h. e ∙ rw q (from_last before later a n (pos 0) s h);
  }

offset_set : (a : Act) (n z : ℤ) → sets_offset a ≡ Some n → offset_after a z ≡ n
offset_set (entering d) n z e = grind arith
offset_set deleting n z e = grind arith
offset_set (ordering o) n z e = grind arith
offset_set (levelling begin end ready) n z e = cc
offset_set ticking n z e = cc

offset_add : (a : Act) (z : ℤ) → sets_offset a ≡ None → offset_after a z ≡ z +ℤ adds_offset a
offset_add (entering d) z e = cc
offset_add deleting z e = cc
offset_add (ordering o) z e = grind (arith, ints)
offset_add (levelling begin end ready) z e = omega (arith, ints)
offset_add ticking z e = omega (arith, ints)

tool_set : (a : Act) (n z : ℤ) → sets_tool a ≡ Some n → tool_after a z ≡ n
tool_set (entering d) n z e = grind arith
tool_set deleting n z e = grind arith
tool_set (ordering o) n z e = grind arith
tool_set (levelling begin end ready) n z e = cc
tool_set ticking n z e = cc

tool_add : (a : Act) (z : ℤ) → sets_tool a ≡ None → tool_after a z ≡ z +ℤ adds_tool a
tool_add (entering d) z e = cc
tool_add deleting z e = cc
tool_add (ordering o) z e = grind (arith, ints)
tool_add (levelling begin end ready) z e = omega (arith, ints)
tool_add ticking z e = omega (arith, ints)

offset_folds : (hs : List PastAct) (z : ℤ) → offset_in hs z ≡ fold offset_after (accepted hs) z
offset_folds [] z = refl
offset_folds (h ∷ hs) z = let more = λ (x : ℤ). offset_folds hs x in grind (arith, more)

tool_folds : (hs : List PastAct) (z : ℤ) → tool_in hs z ≡ fold tool_after (accepted hs) z
tool_folds [] z = refl
tool_folds (h ∷ hs) z = let more = λ (x : ℤ). tool_folds hs x in grind (arith, more)

pub offset_given : (hs : List PastAct) → LastAndAfter sets_offset adds_offset (accepted hs) (offset_in hs (pos 0))
offset_given hs = last_and_after offset_after sets_offset adds_offset offset_set offset_add (accepted hs) (offset_in hs (pos 0)) (offset_folds hs (pos 0))

pub tool_given : (hs : List PastAct) → LastAndAfter sets_tool adds_tool (accepted hs) (tool_in hs (pos 0))
tool_given hs = last_and_after tool_after sets_tool adds_tool tool_set tool_add (accepted hs) (tool_in hs (pos 0)) (tool_folds hs (pos 0))
