-- The first bad part, both ways.
use Rattle.std.proofs.Common.{◌≡◌, ℕ, Bool, true, false, List, [], ◌∷◌, ◌++◌, Some, None, sym, refl, ap, ◌∙◌, ⊎_elim, arith}
use Rattle.std.proofs.lemmas.List.{append-nil, append_assoc}
use Rattle.std.proofs.lemmas.Bool.{cond-true, cond-false, cases_Bool}
use Rattle.std.proofs.lemmas.Option.{none-some, same_Some}
use Rattle.reader.specs.Lines.{Piece}
use Rattle.reader.specs.Questions.{start_of, first_bad}
use Rattle.reader.specs.Answers.{Split, NoneBad, FirstAt}

abbrev Test : Type 0
Test = List Piece → Piece → Bool

none_head : (bad : Test) (acc : List Piece) (q : Piece) (qs : List Piece) → first_bad bad acc (q ∷ qs) ≡ None → (bad acc q ≡ false) × (first_bad bad (acc ++ q ∷ []) qs ≡ None)
none_head bad acc q qs h = (grind arith, grind arith)

shift : (bad : Test) (acc : List Piece) (q : Piece) (qs : List Piece) (p : Piece) → bad ((acc ++ q ∷ []) ++ qs) p ≡ bad (acc ++ (q ∷ qs)) p
shift bad acc q qs p = ap (λ b. bad b p) (append_assoc acc (q ∷ []) qs)

none-at : (bad : Test) (before acc : List Piece) (p : Piece) (after : List Piece) → first_bad bad acc (before ++ (p ∷ after)) ≡ None → bad (acc ++ before) p ≡ false
none-at bad [] acc p after h = ap (λ b. bad b p) (append-nil acc) ∙ (none_head bad acc p after h).0
none-at bad (q ∷ qs) acc p after h = sym (shift bad acc q qs p) ∙ none-at bad qs (acc ++ q ∷ []) p after (none_head bad acc q (qs ++ (p ∷ after)) h).1

pub none_bad : (bad : Test) (ps : List Piece) → first_bad bad [] ps ≡ None → NoneBad bad ps
none_bad bad ps h before p after e = none-at bad before [] p after (ap (first_bad bad []) (sym e) ∙ h)

none_from : (bad : Test) (ps acc : List Piece) → ((before : List Piece) (p : Piece) (after : List Piece) → ps ≡ before ++ (p ∷ after) → bad (acc ++ before) p ≡ false) → first_bad bad acc ps ≡ None
none_from bad [] acc h = refl
none_from bad (q ∷ qs) acc h =
    cond-false (bad acc q) _ _ (sym (ap (λ b. bad b q) (append-nil acc)) ∙ h [] q qs refl)
    ∙ none_from bad qs (acc ++ q ∷ []) (λ before p after e. shift bad acc q before p ∙ h (q ∷ before) p after (ap (λ r. q ∷ r) e))

pub bad_none : (bad : Test) (ps : List Piece) → NoneBad bad ps → first_bad bad [] ps ≡ None
bad_none bad ps h = none_from bad ps [] h

abbrev SomeAt : Test → List Piece → List Piece → ℕ → Type 0
SomeAt bad acc ps at = (before : List Piece) × (p : Piece) × (after : List Piece) × Split ps before p after × (first_bad bad acc before ≡ None) × (bad (acc ++ before) p ≡ true) × (start_of p ≡ at)

some_later : (bad : Test) (acc : List Piece) (q : Piece) (qs : List Piece) (at : ℕ) → bad acc q ≡ false → SomeAt bad (acc ++ q ∷ []) qs at → SomeAt bad acc (q ∷ qs) at
some_later bad acc q qs at f s = (q ∷ s.0, s.1, s.2, ap (λ r. q ∷ r) s.3, cond-false (bad acc q) _ _ f ∙ s.4, sym (shift bad acc q s.0 s.1) ∙ s.5, s.6)

some_at : (bad : Test) (ps acc : List Piece) (at : ℕ) → first_bad bad acc ps ≡ Some at → SomeAt bad acc ps at
some_at bad [] acc at h = absurd (none-some at h)
some_at bad (q ∷ qs) acc at h =
    ⊎_elim (λ t. ([], q, qs, refl, refl, ap (λ b. bad b q) (append-nil acc) ∙ t, same_Some (start_of q) at (sym (cond-true (bad acc q) _ _ t) ∙ h)))
    (λ f. some_later bad acc q qs at f (some_at bad qs (acc ++ q ∷ []) at (sym (cond-false (bad acc q) _ _ f) ∙ h)))
    (cases_Bool (bad acc q))

pub first-at : (bad : Test) (ps : List Piece) (at : ℕ) → first_bad bad [] ps ≡ Some at → FirstAt bad ps at
first-at bad ps at h = let s : SomeAt bad [] ps at = some_at bad ps [] at h in (s.0, s.1, s.2, s.3, none_bad bad s.0 s.4, s.5, s.6)

pub some_from : (bad : Test) (before acc : List Piece) (p : Piece) (after : List Piece) → first_bad bad acc before ≡ None → bad (acc ++ before) p ≡ true → first_bad bad acc (before ++ (p ∷ after)) ≡ Some (start_of p)
some_from bad [] acc p after n t = cond-true (bad acc p) _ _ (sym (ap (λ b. bad b p) (append-nil acc)) ∙ t)
some_from bad (q ∷ qs) acc p after n t =
    let h : (bad acc q ≡ false) × (first_bad bad (acc ++ q ∷ []) qs ≡ None) = none_head bad acc q qs n in
    cond-false (bad acc q) _ _ h.0 ∙ some_from bad qs (acc ++ q ∷ []) p after h.1 (shift bad acc q qs p ∙ t)

pub at-first_bad : (bad : Test) (ps : List Piece) (at : ℕ) → FirstAt bad ps at → first_bad bad [] ps ≡ Some at
at-first_bad bad ps at s = ap (first_bad bad []) s.3 ∙ some_from bad s.0 [] s.1 s.2 (bad_none bad s.0 s.4) s.5 ∙ ap Some s.6
