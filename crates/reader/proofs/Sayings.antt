-- The value of a well formed word is what it says.
use Rattle.std.proofs.Common.{◌≡◌, ℕ, ◌+◌, ◌-◌, ◌*◌, ◌^◌, ◌≤◌, Bool, List, [], ◌∷◌, ◌++◌, length, ℤ, Some, sym, refl, ap, ◌∙◌, subst, arith}
use Rattle.std.proofs.lemmas.Bool.{cond-true, le-leb}
use Rattle.std.proofs.lemmas.Bool.Decides.{nat_tests}
use Rattle.std.specs.Option.{option_map}
use Rattle.units.specs.declared.Measure.{Measure}
use Rattle.reader.specs.declared.part.Letter.{Letter}
use Rattle.reader.specs.declared.part.Letter.TheVariants.{N, G, X, F, M}
use Rattle.reader.specs.declared.block.Value.{Value}
use Rattle.reader.specs.declared.block.Value.TheVariants as value
use Rattle.reader.specs.Words.{onto, within, upto, whole, after, fraction, signed, limited, scaled, units_of, preparatory, value_of}
use Rattle.units.specs.Measures.{places}
use Rattle.reader.specs.Reads.{DecimalOf, WellFormed, Says, number, prepared, target, rate, auxiliary}
use Rattle.reader.specs.Answers.{ValuesSaid}
use Rattle.reader.proofs.Forms.{decimal_to}
use Rattle.reader.proofs.Blocks.{some_from}

within_some : (a b x y : ℕ) → within a b x ≡ Some y → (y ≡ x) × (a ≤ x) × (x ≤ b)
within_some a b x y e = (grind (arith, nat_tests), grind (arith, nat_tests), grind (arith, nat_tests))

upto_some : (b x y : ℕ) → upto b x ≡ Some y → (y ≡ x) × (x ≤ b)
upto_some b x y e = (grind (arith, nat_tests), grind (arith, nat_tests))

limited_some : (s : Bool) (x : ℕ) (z : ℤ) → limited s x ≡ Some z → (z ≡ signed s x) × (x ≤ 40000000)
limited_some s x z e = (grind (arith, nat_tests), grind (arith, nat_tests))

onto_append : (n : ℕ) (w d : List ℕ) → onto (onto n w) d ≡ onto n (w ++ d)
onto_append n [] d = refl
onto_append n (b ∷ w) d = onto_append (n * 10 + (b - 48)) w d

-- the units of a decimal number
pub units_decimal : (m : Measure) (n w d : List ℕ) (s : Bool) → DecimalOf n s w d → units_of m n ≡ limited s (onto 0 (w ++ d) * 10 ^ (places m - length d))
units_decimal m n w d s x =
    let t = decimal_to n w d s x in
    ap (λ b. scaled m b (whole n) (fraction (after n))) t.0 ∙ ap (λ v. scaled m s v (fraction (after n))) t.1 ∙ ap (scaled m s w) t.2
    ∙ ap (λ v. limited s (v * 10 ^ (places m - length d))) (onto_append 0 w d)

says_target : (m : Measure) (n : List ℕ) (v : Value) → WellFormed m X n → value_of m X n ≡ Some v → Says m X n v
says_target m n v f e =
    let s : Bool = f.0 in
    let w : List ℕ = f.1 in
    let d : List ℕ = f.2 in
    let x : ℕ = onto 0 (w ++ d) * 10 ^ (places m - length d) in
    let u = some_from value.Target (units_of m n) v e in
    let l : (u.0 ≡ signed s x) × (x ≤ 40000000) = limited_some s x u.0 (sym (units_decimal m n w d s f.3) ∙ u.1) in
    subst (Says m X n) (ap value.Target (sym l.0) ∙ u.2) (target n w d s x f.3 refl l.1)

says_from : (m : Measure) (l : Letter) (n : List ℕ) (v : Value) → WellFormed m l n → value_of m l n ≡ Some v → Says m l n v
says_from m N n v f e =
    let u = some_from value.Number (within 1 9999 (onto 0 n)) v e in
    let r = within_some 1 9999 (onto 0 n) u.0 u.1 in
    subst (Says m N n) (ap value.Number (sym r.0) ∙ u.2) (number n r.1 r.2)
says_from m G n v f e =
    let u = some_from value.Prepared (preparatory (onto 0 n)) v e in
    subst (Says m G n) u.2 (prepared n u.0 u.1)
says_from m X n v f e = says_target m n v f e
says_from m F n v f e =
    let u = some_from value.Rate (within 1 65000 (onto 0 n)) v e in
    let r = within_some 1 65000 (onto 0 n) u.0 u.1 in
    subst (Says m F n) (ap value.Rate (sym r.0) ∙ u.2) (rate n r.1 r.2)
says_from m M n v f e =
    let u = some_from value.Auxiliary (upto 99 (onto 0 n)) v e in
    let r = upto_some 99 (onto 0 n) u.0 u.1 in
    subst (Says m M n) (ap value.Auxiliary (sym r.0) ∙ u.2) (auxiliary n r.1)

within_is : (a b x : ℕ) → a ≤ x → x ≤ b → within a b x ≡ Some x
within_is a b x p q = grind (arith, nat_tests)

says_to : (m : Measure) (l : Letter) (n : List ℕ) (v : Value) → Says m l n v → value_of m l n ≡ Some v
says_to m _ _ _ (number n p q) = ap (option_map value.Number) (within_is 1 9999 (onto 0 n) p q)
says_to m _ _ _ (prepared n g e) = ap (option_map value.Prepared) e
says_to m _ _ _ (target n w d s x f e le) = ap (option_map value.Target) (units_decimal m n w d s f ∙ ap (limited s) (sym e) ∙ cond-true _ _ _ (le-leb x 40000000 le))
says_to m _ _ _ (rate n p q) = ap (option_map value.Rate) (within_is 1 65000 (onto 0 n) p q)
says_to m _ _ _ (auxiliary n q) = ap (option_map value.Auxiliary) (cond-true _ _ _ (le-leb (onto 0 n) 99 q))

pub values_said : (m : Measure) → ValuesSaid m
values_said m l n v f = (says_from m l n v f, says_to m l n v)
