-- The form of a word's number, and what it says, both ways.
use Rattle.std.proofs.Common.{◌≡◌, ℕ, ◌≤◌, Bool, true, false, not, ◌&&◌, ◌||◌, eqb, List, [], ◌∷◌, ◌++◌, length, take, drop, Some, None, Option, sym, refl, ap, ◌∙◌, subst, ⊎_elim, arith}
use Rattle.std.specs.List.{prefix_len}
use Rattle.std.proofs.lemmas.List.{take-append-drop}
use Rattle.std.proofs.lemmas.Bool.{cond-false, eqb-true, eq-eqb, ne_eqb, cases_eq, and_parts, and_from, leb-true, le-leb, both_ways, not-true, not_from_false, eqb-false, or_from}
use Rattle.std.proofs.lemmas.Bool.Decides.{nat_tests}
use Rattle.std.proofs.lemmas.Option.{none-some, same_Some}
use Rattle.units.specs.declared.Measure.{Measure}
use Rattle.reader.specs.declared.part.Letter.{Letter}
use Rattle.reader.specs.declared.part.Letter.TheVariants.{N, G, X, F, M}
use Rattle.reader.specs.Words.{digit, all_digits, negative, body, whole, after, fraction, decimal, formed}
use Rattle.units.specs.Measures.{places}
use Rattle.reader.specs.Reads.{AllOf, Stops, Sign, unsigned, plus, minus, Fraction, without, point, DecimalOf, WellFormed}
use Rattle.reader.proofs.Runs.{run_leading, digits_run, run_digits, take-run, drop-run}

-- a number is its sign and its body
abbrev SignOf : List ℕ → Type 0
SignOf n = (t : List ℕ) × Sign t (negative n) × (n ≡ t ++ body n)

sign_other : (b : ℕ) (bs : List ℕ) → (b ≡ 45 → ⊥) → (b ≡ 43 → ⊥) → SignOf (b ∷ bs)
sign_other b bs p q =
    let e : eqb b 45 ≡ false = ne_eqb b 45 p in
    ([], subst (Sign []) (sym e) unsigned, sym (cond-false (eqb b 45 || eqb b 43) bs (b ∷ bs) (or_from _ _ e (ne_eqb b 43 q))))

sign_of : (n : List ℕ) → SignOf n
sign_of [] = ([], unsigned, refl)
sign_of (b ∷ bs) =
    ⊎_elim (λ e. subst (λ x. SignOf (x ∷ bs)) (sym e) (45 ∷ [], minus, refl))
    (λ p. ⊎_elim (λ e. subst (λ x. SignOf (x ∷ bs)) (sym e) (43 ∷ [], plus, refl)) (λ q. sign_other b bs p q) (cases_eq b 43))
    (cases_eq b 45)

fraction-point : (d : List ℕ) (bs : List ℕ) → fraction (46 ∷ bs) ≡ Some d → Fraction (46 ∷ bs) d
fraction-point d bs h = subst (Fraction (46 ∷ bs)) (same_Some bs d h) (point bs)

pub fraction_from : (r d : List ℕ) → fraction r ≡ Some d → Fraction r d
fraction_from [] d h = subst (Fraction []) (same_Some [] d h) without
fraction_from (b ∷ bs) d h =
    ⊎_elim (λ e. subst (λ x. fraction (x ∷ bs) ≡ Some d → Fraction (x ∷ bs) d) (sym e) (fraction-point d bs) h)
    (λ q. absurd (none-some d (sym (cond-false (eqb b 46) (Some bs) None (ne_eqb b 46 q)) ∙ h)))
    (cases_eq b 46)

pub fraction_to : (f d : List ℕ) → Fraction f d → fraction f ≡ Some d
fraction_to _ _ without = refl
fraction_to _ _ (point d) = refl

fraction-stops : (f d : List ℕ) → Fraction f d → Stops digit f
fraction-stops _ _ without = tt
fraction-stops _ _ (point d) = refl

-- a number that is taken apart well is a decimal number
pub decimal_from : (n d : List ℕ) → fraction (after n) ≡ Some d → 1 ≤ length (whole n) → AllOf digit d → DecimalOf n (negative n) (whole n) d
decimal_from n d e h r =
    let s : SignOf n = sign_of n in
    (s.0, after n, s.2 ∙ ap (λ b. s.0 ++ b) (sym (take-append-drop (prefix_len digit (body n)) (body n))), s.1, run_leading digit (body n), h, fraction_from (after n) d e, r)

body-first : (b : ℕ) (bs : List ℕ) → digit b ≡ true → (negative (b ∷ bs) ≡ false) × (body (b ∷ bs) ≡ b ∷ bs)
body-first b bs e = (grind (arith, nat_tests), grind (arith, nat_tests))

body_digits : (w f : List ℕ) → AllOf digit w → 1 ≤ length w → (negative (w ++ f) ≡ false) × (body (w ++ f) ≡ w ++ f)
body_digits [] f r h = absurd (omega arith)
body_digits (b ∷ w) f r h = body-first b (w ++ f) r.0

body-signed : (t w f : List ℕ) (s : Bool) → Sign t s → AllOf digit w → 1 ≤ length w → (negative (t ++ (w ++ f)) ≡ s) × (body (t ++ (w ++ f)) ≡ w ++ f)
body-signed _ w f _ unsigned r h = body_digits w f r h
body-signed _ w f _ plus r h = (refl, refl)
body-signed _ w f _ minus r h = (refl, refl)

-- a decimal number is taken apart at its sign and its point
pub decimal_to : (n w d : List ℕ) (s : Bool) → DecimalOf n s w d → (negative n ≡ s) × (whole n ≡ w) × (fraction (after n) ≡ Some d)
decimal_to n w d s x =
    let t : List ℕ = x.0 in
    let f : List ℕ = x.1 in
    let b : (negative (t ++ (w ++ f)) ≡ s) × (body (t ++ (w ++ f)) ≡ w ++ f) = body-signed t w f s x.3 x.4 x.5 in
    let stop : Stops digit f = fraction-stops f d x.6 in
    let bn : body n ≡ w ++ f = ap body x.2 ∙ b.1 in (
      ap negative x.2 ∙ b.0,
      ap (λ y. take (prefix_len digit y) y) bn ∙ take-run digit w f x.4 stop,
      ap (λ y. fraction (drop (prefix_len digit y) y)) bn ∙ ap fraction (drop-run digit w f x.4 stop) ∙ fraction_to f d x.6,
    )

-- well formed
decimal-formed : (m : Measure) (n : List ℕ) (o : Option (List ℕ)) → fraction (after n) ≡ o → decimal m (whole n) o ≡ true → WellFormed m X n
decimal-formed m n None e h = absurd (both_ways false refl h)
decimal-formed m n (Some d) e h =
    let a = and_parts _ _ h in
    let b = and_parts _ _ a.1 in
    let c = and_parts _ _ b.1 in
    (negative n, whole n, d, decimal_from n d e (leb-true _ _ a.0) (digits_run d c.1), leb-true _ _ b.0, leb-true _ _ c.0)

some_digits : (n : List ℕ) → (not (eqb (length n) 0) && all_digits n) ≡ true → (1 ≤ length n) × AllOf digit n
some_digits n h =
    let a = and_parts _ _ h in
    let z : length n ≡ 0 → ⊥ = eqb-false _ _ (not-true _ a.0) in
    (omega arith, digits_run n a.1)

two_digits : (n : List ℕ) → (eqb (length n) 2 && all_digits n) ≡ true → (length n ≡ 2) × AllOf digit n
two_digits n h = let a = and_parts _ _ h in (eqb-true _ _ a.0, digits_run n a.1)

pub well_from : (m : Measure) (l : Letter) (n : List ℕ) → formed m l n ≡ true → WellFormed m l n
well_from m N n h = some_digits n h
well_from m G n h = two_digits n h
well_from m X n h = decimal-formed m n (fraction (after n)) refl h
well_from m F n h = some_digits n h
well_from m M n h = two_digits n h

from_some : (n : List ℕ) → (1 ≤ length n) × AllOf digit n → (not (eqb (length n) 0) && all_digits n) ≡ true
from_some n w = and_from _ _ (not_from_false _ (ne_eqb (length n) 0 (λ z. omega (arith, z, w.0)))) (run_digits n w.1)

from_two : (n : List ℕ) → (length n ≡ 2) × AllOf digit n → (eqb (length n) 2 && all_digits n) ≡ true
from_two n w = and_from _ _ (eq-eqb _ _ w.0) (run_digits n w.1)

formed-decimal : (m : Measure) (n : List ℕ) → WellFormed m X n → formed m X n ≡ true
formed-decimal m n x =
    let w : List ℕ = x.1 in
    let d : List ℕ = x.2 in
    let t = decimal_to n w d x.0 x.3 in
    ap (λ v. decimal m v (fraction (after n))) t.1 ∙ ap (decimal m w) t.2
    ∙ and_from _ _ (le-leb 1 (length w) x.3.5) (and_from _ _ (le-leb (length w) 5 x.4) (and_from _ _ (le-leb (length d) (places m) x.5) (run_digits d x.3.7)))

pub well_to : (m : Measure) (l : Letter) (n : List ℕ) → WellFormed m l n → formed m l n ≡ true
well_to m N n w = from_some n w
well_to m G n w = from_two n w
well_to m X n w = formed-decimal m n w
well_to m F n w = from_some n w
well_to m M n w = from_two n w
