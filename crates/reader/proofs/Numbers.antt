-- Numbers of words.
use Rattle.std.proofs.Common.{◌≡◌, ℕ, zero, suc, ◌+◌, ◌-◌, ◌*◌, ◌^◌, ◌<◌, ◌≤◌, List, [], ◌∷◌, length, get_or, drop, Some, None, mul-le-mul_left, pow-suc, arith}
use Rattle.std.proofs.lemmas.List.{at_drop_more}
use Rattle.std.proofs.lemmas.Bool.Decides.{nat_tests}
use Rattle.units.specs.declared.Measure.{Measure}
use Rattle.reader.specs.Words.{whole, fraction, after, onto, upto, units_of}
use Rattle.units.specs.Measures.{places}

pub onto-more : (n : ℕ) (xs : List ℕ) (i : ℕ) → i < length xs → onto n (drop i xs) ≡ onto (n * 10 + (get_or xs i 0 - 48)) (drop (i + 1) xs)
onto-more n xs i h = at_drop_more (onto n) xs i 0 h

pub onto_grows : (n : ℕ) (xs : List ℕ) → n ≤ onto n xs
onto_grows n [] = omega arith
onto_grows n (x ∷ xs) = omega (arith, onto_grows (n * 10 + (x - 48)) xs)

pub past_most : (n most start i d : ℕ) (xs : List ℕ) → i < length xs → onto n (drop i xs) ≡ onto start xs → d ≡ get_or xs i 0 - 48 → most < n * 10 + d → None ≡ upto most (onto start xs)
past_most n most start i d xs h inv e lt =
    let here : onto n (drop i xs) ≡ onto (n * 10 + (get_or xs i 0 - 48)) (drop (i + 1) xs) = onto-more n xs i h in
    let grows : n * 10 + (get_or xs i 0 - 48) ≤ onto (n * 10 + (get_or xs i 0 - 48)) (drop (i + 1) xs) = onto_grows (n * 10 + (get_or xs i 0 - 48)) (drop (i + 1) xs) in
    grind (arith, nat_tests)

pub pow_pos : (k : ℕ) → 0 < 10 ^ k
pow_pos zero = omega arith
pow_pos (suc k) = rw pow-suc (omega (arith, pow_pos k))

-- a number whose digits pass the limit has no units
pub too_large : (m : Measure) (n d : List ℕ) → fraction (after n) ≡ Some d → 40000000 < onto (onto 0 (whole n)) d → None ≡ units_of m n
too_large m n d e h =
    let p : 0 < 10 ^ (places m - length d) = pow_pos (places m - length d) in
    let g : onto (onto 0 (whole n)) d * 1 ≤ onto (onto 0 (whole n)) d * 10 ^ (places m - length d) = mul-le-mul_left (onto (onto 0 (whole n)) d) p in
    rw e (grind (arith, nat_tests))

pub whole_too_large : (m : Measure) (n w d : List ℕ) → w ≡ whole n → fraction (after n) ≡ Some d → None ≡ upto 40000000 (onto 0 w) → None ≡ units_of m n
whole_too_large m n w d p e h = too_large m n d e (grind (arith, nat_tests, onto_grows (onto 0 w) d))

pub digits_too_large : (m : Measure) (n w d : List ℕ) (v : ℕ) → w ≡ whole n → fraction (after n) ≡ Some d → Some v ≡ upto 40000000 (onto 0 w) → None ≡ upto 40000000 (onto v d) → None ≡ units_of m n
digits_too_large m n w d v p e s h = too_large m n d e (grind (arith, nat_tests))
