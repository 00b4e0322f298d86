-- How a line is cut at its first byte.
use Rattle.std.proofs.Common.{◌≡◌, ℕ, zero, suc, ◌+◌, ◌<◌, ◌≤◌, true, eqb, List, [], ◌∷◌, length, take, drop, Some, Ok, Err, Option, Result, sym, refl, ap, ◌∙◌, subst, arith}
use Rattle.std.specs.List.{prefix_len}
use Rattle.std.proofs.lemmas.List.{length-drop, drop-drop}
use Rattle.std.proofs.lemmas.Bool.{cond-false, ne_eqb}
use Rattle.std.proofs.lemmas.Bool.Decides.{nat_tests}
use Rattle.units.specs.declared.Measure.{Measure}
use Rattle.reader.specs.declared.fault.WordFault.{WordFault}
use Rattle.reader.specs.declared.part.Letter.{Letter}
use Rattle.reader.specs.declared.part.Part.{Part}
use Rattle.reader.specs.declared.rest.Rest.{Rest}
use Rattle.reader.specs.Words.{numeric, letter_of, formed}
use Rattle.reader.specs.Lines.{Piece, word, remark, part, inside, closed_at, remark_in, opened, taken, onward, cut, left, Begins}

pub cut_skip : (m : Measure) (k at : ℕ) (xs : List ℕ) → cut m k at xs ≡ cut m 0 (at + k) (drop k xs)
cut_skip m zero at [] = refl
cut_skip m zero at (b ∷ bs) = ap (λ a. cut m 0 a (b ∷ bs)) (omega arith)
cut_skip m (suc k) at [] = refl
cut_skip m (suc k) at (b ∷ bs) = cut_skip m k (suc at) bs ∙ ap (λ a. cut m 0 a (drop k bs)) (omega arith)

-- at a byte that is no blank
pub cut_step : (m : Measure) (at b : ℕ) (bs : List ℕ) (p : Option Piece) (k : ℕ) → (b ≡ 32 → ⊥) → opened m at b bs ≡ p → taken b bs ≡ k → cut m 0 at (b ∷ bs) ≡ onward p at (cut m 0 (at + 1 + k) (drop k bs))
cut_step m at b bs p k h e t =
    cond-false (eqb b 32) _ _ (ne_eqb b 32 h)
    ∙ ap (λ o. onward o at (cut m (taken b bs) (suc at) bs)) e
    ∙ ap (λ n. onward p at (cut m n (suc at) bs)) t
    ∙ ap (onward p at) (cut_skip m k (suc at) bs ∙ ap (λ a. cut m 0 a (drop k bs)) (omega arith))

pub remark-closed : (at : ℕ) (bs : List ℕ) → prefix_len inside bs < length bs → remark_in at bs ≡ Some (remark (take (prefix_len inside bs) bs) at)
remark-closed at bs h = grind (arith, nat_tests)

pub opened-word : (m : Measure) (at b : ℕ) (bs : List ℕ) (l : Letter) → (b ≡ 40 → ⊥) → letter_of b ≡ Some l → formed m l (take (prefix_len numeric bs) bs) ≡ true → opened m at b bs ≡ Some (word l (take (prefix_len numeric bs) bs) at)
opened-word m at b bs l h e f = grind (arith, nat_tests)

pub taken_word : (b : ℕ) (bs : List ℕ) → (b ≡ 40 → ⊥) → taken b bs ≡ prefix_len numeric bs
taken_word b bs h = grind (arith, nat_tests)

-- the part of a line's first bytes, and what is left after it
abbrev pub Whole : Measure → ℕ → List ℕ → Piece → ℕ → List ℕ → Type 0
Whole m at xs p to ys = (cut m 0 at xs ≡ part p (cut m 0 to ys)) × (to + length ys ≡ at + length xs) × (length ys < length xs)

pub cut_remark : (m : Measure) (at n to : ℕ) (xs text closed ys : List ℕ) → n ≡ prefix_len inside xs → n < length xs → text ≡ take n xs → closed ≡ drop n xs → ys ≡ drop 1 closed → to ≡ at + 1 + (n + 1) → Whole m at (40 ∷ xs) (remark text at) to ys
cut_remark m at n to xs text closed ys p h q c e w =
    let after : ys ≡ drop (n + 1) xs = e ∙ ap (drop 1) c ∙ drop-drop 1 n xs in
    let is : remark (take (prefix_len inside xs) xs) at ≡ remark text at = ap (λ t. remark t at) (sym (q ∙ ap (λ k. take k xs) p)) in
    let o : opened m at 40 xs ≡ Some (remark text at) = remark-closed at xs (subst (λ k. k < length xs) p h) ∙ ap Some is in (
      cut_step m at 40 xs (Some (remark text at)) (n + 1) (λ z. omega arith) o (ap (λ k. k + 1) (sym p))
          ∙ ap (part (remark text at)) (ap (λ a. cut m 0 a (drop (n + 1) xs)) (sym w) ∙ ap (cut m 0 to) (sym after)),
      omega (arith, h, w, ap length after ∙ length-drop (n + 1) xs),
      omega (arith, ap length after ∙ length-drop (n + 1) xs),
    )

pub cut_word : (m : Measure) (at n to b : ℕ) (l : Letter) (xs number bytes : List ℕ) → (b ≡ 32 → ⊥) → (b ≡ 40 → ⊥) → letter_of b ≡ Some l → n ≡ prefix_len numeric xs → number ≡ take n xs → bytes ≡ drop n xs → to ≡ at + 1 + n → n ≤ length xs → formed m l number ≡ true → Whole m at (b ∷ xs) (word l number at) to bytes
cut_word m at n to b l xs number bytes g h i p q e w le f =
    let is : number ≡ take (prefix_len numeric xs) xs = q ∙ ap (λ k. take k xs) p in
    let o : opened m at b xs ≡ Some (word l number at) = opened-word m at b xs l h i (sym (ap (formed m l) is) ∙ f) ∙ ap (λ t. Some (word l t at)) (sym is) in (
      cut_step m at b xs (Some (word l number at)) n g o (taken_word b xs h ∙ sym p)
          ∙ ap (part (word l number at)) (ap (λ a. cut m 0 a (drop n xs)) (sym w) ∙ ap (cut m 0 to) (sym e)),
      omega (arith, le, w, ap length e ∙ length-drop n xs),
      omega (arith, ap length e ∙ length-drop n xs),
    )

pub closed_is : (n : ℕ) (xs : List ℕ) → closed_at xs ≡ Some n → (n ≡ prefix_len inside xs) × (n < length xs)
closed_is n xs e = (grind (arith, nat_tests), grind (arith, nat_tests))

-- a line is cut as what is left of it after a blank
pub left_blank : (r s : Rest) → r.bytes.now ≡ 32 ∷ s.bytes.now → s.at ≡ r.at + 1 → s.measure ≡ r.measure → left r ≡ left s
left_blank r s e a m =
    let one : suc r.at ≡ s.at = omega (arith, a) in
    ap (cut r.measure 0 r.at) e ∙ ap (λ k. cut r.measure 0 k s.bytes.now) one ∙ ap (λ n. cut n 0 s.at s.bytes.now) (sym m)

pub begins_start : (m : Measure) (r s : Rest) (b : ℕ) (ys : List ℕ) (o : Result (Part × Rest) WordFault) → m ≡ s.measure → left r ≡ left s → s.at + length s.bytes.now ≡ r.at + length r.bytes.now → length s.bytes.now ≤ length r.bytes.now → s.bytes.now ≡ b ∷ ys → Begins m s.at (b ∷ ys) o → Begins r.measure r.at r.bytes.now o
begins_start m r s b ys (Err f) is same end le e i = (same ∙ ap (cut s.measure 0 s.at) e ∙ ap (λ n. cut n 0 s.at (b ∷ ys)) (sym is) ∙ i.0, i.1)
begins_start m r s b ys (Ok n) is same end le e i = (same ∙ ap (cut s.measure 0 s.at) e ∙ ap (λ n. cut n 0 s.at (b ∷ ys)) (sym is) ∙ i.0, omega (arith, i.1, end, ap length e), omega (arith, i.2, le, ap length e))
