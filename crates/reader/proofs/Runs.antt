-- The longest front of one kind.
use Rattle.std.proofs.Common.{◌≡◌, ℕ, suc, ◌+◌, Bool, true, false, cond, List, [], ◌∷◌, ◌++◌, length, take, drop, sym, refl, ap, ◌∙◌, subst, arith}
use Rattle.std.specs.List.{prefix_len}
use Rattle.std.proofs.lemmas.List.{append-nil, take_all, take_at, drop_at}
use Rattle.std.proofs.lemmas.Bool.{cond-true, cond-false, and_parts, and_from}
use Rattle.reader.specs.Words.{digit, all_digits}
use Rattle.reader.specs.Reads.{AllOf, Stops}

pub leading_stop : (p : ℕ → Bool) (bs : List ℕ) → Stops p bs → prefix_len p bs ≡ 0
leading_stop p [] s = refl
leading_stop p (b ∷ bs) s = cond-false (p b) _ _ s

pub leading_run : (p : ℕ → Bool) (n bs : List ℕ) → AllOf p n → Stops p bs → prefix_len p (n ++ bs) ≡ length n
leading_run p [] bs r s = leading_stop p bs s
leading_run p (x ∷ n) bs r s =
    let more : prefix_len p (n ++ bs) ≡ length n = leading_run p n bs r.1 s in
    cond-true (p x) (1 + prefix_len p (n ++ bs)) 0 r.0 ∙ omega arith

run_by : (p : ℕ → Bool) (x : ℕ) (xs : List ℕ) (b : Bool) → p x ≡ b → AllOf p (take (prefix_len p xs) xs) → AllOf p (take (cond b (1 + prefix_len p xs) 0) (x ∷ xs))
run_by p x xs true e r = let one : suc (prefix_len p xs) ≡ 1 + prefix_len p xs = omega arith in subst (λ k. AllOf p (take k (x ∷ xs))) one (e, r)
run_by p x xs false e r = tt

-- the front is of the kind
pub run_leading : (p : ℕ → Bool) (xs : List ℕ) → AllOf p (take (prefix_len p xs) xs)
run_leading p [] = tt
run_leading p (x ∷ xs) = run_by p x xs (p x) refl (run_leading p xs)

stops_by : (p : ℕ → Bool) (x : ℕ) (xs : List ℕ) (b : Bool) → p x ≡ b → Stops p (drop (prefix_len p xs) xs) → Stops p (drop (cond b (1 + prefix_len p xs) 0) (x ∷ xs))
stops_by p x xs true e s = let one : suc (prefix_len p xs) ≡ 1 + prefix_len p xs = omega arith in subst (λ k. Stops p (drop k (x ∷ xs))) one s
stops_by p x xs false e s = e

-- and what stands after it does not begin with the kind
pub stops_leading : (p : ℕ → Bool) (xs : List ℕ) → Stops p (drop (prefix_len p xs) xs)
stops_leading p [] = tt
stops_leading p (x ∷ xs) = stops_by p x xs (p x) refl (stops_leading p xs)

pub run_from_length : (p : ℕ → Bool) (xs : List ℕ) → prefix_len p xs ≡ length xs → AllOf p xs
run_from_length p xs e = subst (AllOf p) (ap (λ k. take k xs) e ∙ take_all (length xs) xs (omega arith)) (run_leading p xs)

pub length_from_run : (p : ℕ → Bool) (xs : List ℕ) → AllOf p xs → prefix_len p xs ≡ length xs
length_from_run p xs r = ap (prefix_len p) (sym (append-nil xs)) ∙ leading_run p xs [] r tt

pub digits_run : (xs : List ℕ) → all_digits xs ≡ true → AllOf digit xs
digits_run [] e = tt
digits_run (x ∷ xs) e = let a = and_parts _ _ e in (a.0, digits_run xs a.1)

pub run_digits : (xs : List ℕ) → AllOf digit xs → all_digits xs ≡ true
run_digits [] r = refl
run_digits (x ∷ xs) r = and_from _ _ r.0 (run_digits xs r.1)

pub take-run : (p : ℕ → Bool) (n bs : List ℕ) → AllOf p n → Stops p bs → take (prefix_len p (n ++ bs)) (n ++ bs) ≡ n
take-run p n bs r s = take_at n bs (prefix_len p (n ++ bs)) (sym (leading_run p n bs r s))

pub drop-run : (p : ℕ → Bool) (n bs : List ℕ) → AllOf p n → Stops p bs → drop (prefix_len p (n ++ bs)) (n ++ bs) ≡ bs
drop-run p n bs r s = drop_at n bs (prefix_len p (n ++ bs)) (sym (leading_run p n bs r s))
