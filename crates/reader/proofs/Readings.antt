-- A line reads as it is cut, and in no other way.
use Rattle.std.proofs.Common.{◌≡◌, ℕ, zero, suc, ◌+◌, ◌<◌, ◌≤◌, true, false, eqb, List, [], ◌∷◌, ◌++◌, length, take, drop, Some, None, Option, sym, refl, ap, ◌∙◌, subst, ⊎_elim, arith}
use Rattle.std.specs.List.{prefix_len}
use Rattle.std.proofs.lemmas.List.{take-append-drop, length-take-le, drop-drop, length-drop, length-append}
use Rattle.std.proofs.lemmas.List.Sums.{prefix_len-le-length}
use Rattle.std.proofs.lemmas.Bool.{cond-false, ne_eqb, cases_eq, cases_Bool, cases_lt, le-ltb, both_ways, eqb-true, not-false}
use Rattle.std.proofs.lemmas.Bool.Decides.{nat_tests}
use Rattle.std.proofs.lemmas.Option.{none-some}
use Rattle.units.specs.declared.Measure.{Measure}
use Rattle.reader.specs.declared.part.Letter.{Letter}
use Rattle.reader.specs.declared.part.Letter.TheVariants.{N, G, X, F, M}
use Rattle.reader.specs.Words.{numeric, letter_of, formed}
use Rattle.reader.specs.Lines.{Piece, word, remark, Cut, part, broken, inside, remark_of, remark_in, word_in, opened, cut, pieces, fault_in}
use Rattle.reader.specs.Reads.{AllOf, Stops, byte_of, Reads, done, blank, a_word, a_remark, ill_formed, unclosed, unknown}
use Rattle.reader.proofs.Runs.{run_leading, stops_leading, run_from_length, length_from_run, leading_run, take-run, drop-run}
use Rattle.reader.proofs.Forms.{well_from, well_to}
use Rattle.reader.proofs.Cuts.{cut_step, cut_word, cut_remark, taken_word, opened-word, remark-closed}

-- letters
pub byte_letter : (l : Letter) → letter_of (byte_of l) ≡ Some l
byte_letter N = refl
byte_letter G = refl
byte_letter X = refl
byte_letter F = refl
byte_letter M = refl

pub letter_byte : (b : ℕ) (l : Letter) → letter_of b ≡ Some l → b ≡ byte_of l
letter_byte b N h = grind (arith, nat_tests)
letter_byte b G h = grind (arith, nat_tests)
letter_byte b X h = grind (arith, nat_tests)
letter_byte b F h = grind (arith, nat_tests)
letter_byte b M h = grind (arith, nat_tests)

no_letter : (b : ℕ) → ((l : Letter) → b ≡ byte_of l → ⊥) → letter_of b ≡ None
no_letter b h =
    cond-false (eqb b 78) _ _ (ne_eqb b 78 (h N)) ∙ cond-false (eqb b 71) _ _ (ne_eqb b 71 (h G)) ∙ cond-false (eqb b 88) _ _ (ne_eqb b 88 (h X))
    ∙ cond-false (eqb b 70) _ _ (ne_eqb b 70 (h F)) ∙ cond-false (eqb b 77) _ _ (ne_eqb b 77 (h M))

not_letter : (b : ℕ) (l : Letter) → letter_of b ≡ None → b ≡ byte_of l → ⊥
not_letter b l h e = none-some l (sym h ∙ ap letter_of e ∙ byte_letter l)

no_blank : (l : Letter) → byte_of l ≡ 32 → ⊥
no_blank N e = omega arith
no_blank G e = omega arith
no_blank X e = omega arith
no_blank F e = omega arith
no_blank M e = omega arith

no_remark : (l : Letter) → byte_of l ≡ 40 → ⊥
no_remark N e = omega arith
no_remark G e = omega arith
no_remark X e = omega arith
no_remark F e = omega arith
no_remark M e = omega arith

-- the cut is a reading
abbrev Read : Measure → ℕ → List ℕ → Cut → Type 0
Read m at xs c = Reads m at xs (pieces c) (fault_in c)

abbrev Later : Measure → ℕ → List ℕ → Type 0
Later m at bs = (k : ℕ) → Read m (at + 1 + k) (drop k bs) (cut m 0 (at + 1 + k) (drop k bs))

read-blank : (m : Measure) (at : ℕ) (bs : List ℕ) → Later m at bs → Read m at (32 ∷ bs) (cut m 0 at (32 ∷ bs))
read-blank m at bs later =
    let e : at + 1 + 0 ≡ at + 1 = omega arith in
    let f : at + 1 ≡ suc at = omega arith in
    subst (λ a. Read m at (32 ∷ bs) (cut m 0 a bs)) f (blank at bs _ _ (subst (λ a. Read m a bs (cut m 0 a bs)) e (later 0)))

remark_open : (at : ℕ) (bs : List ℕ) → length bs ≤ prefix_len inside bs → remark_in at bs ≡ None
remark_open at bs h = ap (λ o. remark_of o at bs) (cond-false _ _ _ (le-ltb _ _ h))

read-unclosed : (m : Measure) (at : ℕ) (bs : List ℕ) → length bs ≤ prefix_len inside bs → Read m at (40 ∷ bs) (cut m 0 at (40 ∷ bs))
read-unclosed m at bs h =
    subst (Read m at (40 ∷ bs)) (sym (cut_step m at 40 bs None (prefix_len inside bs + 1) (λ z. omega arith) (remark_open at bs h) refl))
    (unclosed at bs (run_from_length inside bs (omega (arith, prefix_len-le-length inside bs))))

closing : (xs : List ℕ) → Stops inside xs → 0 < length xs → xs ≡ 41 ∷ drop 1 xs
closing [] s h = absurd (omega arith)
closing (x ∷ xs) s h = ap (λ y. y ∷ xs) (eqb-true x 41 (not-false _ s))

closed_list : (bs : List ℕ) (k : ℕ) → k ≡ prefix_len inside bs → k < length bs → take k bs ++ (41 ∷ drop (k + 1) bs) ≡ bs
closed_list bs k e h =
    let stop : Stops inside (drop k bs) = subst (λ j. Stops inside (drop j bs)) (sym e) (stops_leading inside bs) in
    let long : 0 < length (drop k bs) = omega (arith, length-drop k bs) in
    ap (λ t. take k bs ++ t) (sym (closing (drop k bs) stop long ∙ ap (λ t. 41 ∷ t) (drop-drop 1 k bs))) ∙ take-append-drop k bs

read-remark : (m : Measure) (at k : ℕ) (bs : List ℕ) → Later m at bs → k ≡ prefix_len inside bs → k < length bs → Read m at (40 ∷ bs) (cut m 0 at (40 ∷ bs))
read-remark m at k bs later e h =
    let t : List ℕ = take k bs in
    let o : opened m at 40 bs ≡ Some (remark t at) = remark-closed at bs (subst (λ j. j < length bs) e h) ∙ ap (λ j. Some (remark (take j bs) at)) (sym e) in
    let len : length t ≡ k = length-take-le k bs (omega arith) in
    let to : at + 1 + (k + 1) ≡ at + 2 + length t = omega arith in
    let c : Cut = cut m 0 (at + 1 + (k + 1)) (drop (k + 1) bs) in
    let r : Reads m at (40 ∷ (t ++ (41 ∷ drop (k + 1) bs))) (remark t at ∷ pieces c) (fault_in c) =
    a_remark at t (drop (k + 1) bs) (pieces c) (fault_in c) (subst (λ j. AllOf inside (take j bs)) (sym e) (run_leading inside bs)) (subst (λ a. Reads m a (drop (k + 1) bs) (pieces c) (fault_in c)) to (later (k + 1))) in
    subst (Read m at (40 ∷ bs)) (sym (cut_step m at 40 bs (Some (remark t at)) (k + 1) (λ z. omega arith) o (ap (λ j. j + 1) (sym e))))
    (subst (λ ys. Reads m at (40 ∷ ys) (remark t at ∷ pieces c) (fault_in c)) (closed_list bs k e h) r)

read-unknown : (m : Measure) (at b : ℕ) (bs : List ℕ) → (b ≡ 32 → ⊥) → (b ≡ 40 → ⊥) → letter_of b ≡ None → Read m at (b ∷ bs) (cut m 0 at (b ∷ bs))
read-unknown m at b bs p q h =
    subst (Read m at (b ∷ bs)) (sym (cut_step m at b bs None (prefix_len numeric bs) p (cond-false (eqb b 40) _ _ (ne_eqb b 40 q) ∙ ap (λ o. word_in m o at bs) h) (taken_word b bs q)))
    (unknown at b bs p q (λ l. not_letter b l h))

opened-none : (m : Measure) (at b : ℕ) (bs : List ℕ) (l : Letter) → (b ≡ 40 → ⊥) → letter_of b ≡ Some l → formed m l (take (prefix_len numeric bs) bs) ≡ false → opened m at b bs ≡ None
opened-none m at b bs l h e f = cond-false (eqb b 40) _ _ (ne_eqb b 40 h) ∙ ap (λ o. word_in m o at bs) e ∙ cond-false _ _ _ f

read_word : (m : Measure) (at b : ℕ) (bs : List ℕ) (l : Letter) → Later m at bs → (b ≡ 32 → ⊥) → (b ≡ 40 → ⊥) → letter_of b ≡ Some l → formed m l (take (prefix_len numeric bs) bs) ≡ true → Read m at (b ∷ bs) (cut m 0 at (b ∷ bs))
read_word m at b bs l later p q i f =
    let k : ℕ = prefix_len numeric bs in
    let n : List ℕ = take k bs in
    let len : length n ≡ k = length-take-le k bs (prefix_len-le-length numeric bs) in
    let to : at + 1 + k ≡ at + 1 + length n = ap (λ j. at + 1 + j) (sym len) in
    let c : Cut = cut m 0 (at + 1 + k) (drop k bs) in
    let r : Reads m at (byte_of l ∷ (n ++ drop k bs)) (word l n at ∷ pieces c) (fault_in c) =
    a_word at l n (drop k bs) (pieces c) (fault_in c) (run_leading numeric bs) (stops_leading numeric bs) (well_from m l n f) (subst (λ a. Reads m a (drop k bs) (pieces c) (fault_in c)) to (later k)) in
    let r2 : Reads m at (byte_of l ∷ bs) (word l n at ∷ pieces c) (fault_in c) = subst (λ ys. Reads m at (byte_of l ∷ ys) (word l n at ∷ pieces c) (fault_in c)) (take-append-drop k bs) r in
    subst (Read m at (b ∷ bs)) (sym (cut_step m at b bs (Some (word l n at)) k p (opened-word m at b bs l q i f) (taken_word b bs q)))
    (subst (λ y. Reads m at (y ∷ bs) (word l n at ∷ pieces c) (fault_in c)) (sym (letter_byte b l i)) r2)

read_ill : (m : Measure) (at b : ℕ) (bs : List ℕ) (l : Letter) → (b ≡ 32 → ⊥) → (b ≡ 40 → ⊥) → letter_of b ≡ Some l → formed m l (take (prefix_len numeric bs) bs) ≡ false → Read m at (b ∷ bs) (cut m 0 at (b ∷ bs))
read_ill m at b bs l p q i f =
    let k : ℕ = prefix_len numeric bs in
    let n : List ℕ = take k bs in
    let r : Reads m at (byte_of l ∷ (n ++ drop k bs)) [] (Some at) = ill_formed at l n (drop k bs) (run_leading numeric bs) (stops_leading numeric bs) (λ w. both_ways (formed m l n) f (well_to m l n w)) in
    let r2 : Reads m at (byte_of l ∷ bs) [] (Some at) = subst (λ ys. Reads m at (byte_of l ∷ ys) [] (Some at)) (take-append-drop k bs) r in
    subst (Read m at (b ∷ bs)) (sym (cut_step m at b bs None k p (opened-none m at b bs l q i f) (taken_word b bs q)))
    (subst (λ y. Reads m at (y ∷ bs) [] (Some at)) (sym (letter_byte b l i)) r2)

read_letter : (m : Measure) (at b : ℕ) (bs : List ℕ) (o : Option Letter) → Later m at bs → (b ≡ 32 → ⊥) → (b ≡ 40 → ⊥) → letter_of b ≡ o → Read m at (b ∷ bs) (cut m 0 at (b ∷ bs))
read_letter m at b bs None later p q i = read-unknown m at b bs p q i
read_letter m at b bs (Some l) later p q i =
    ⊎_elim (λ f. read_word m at b bs l later p q i f) (λ f. read_ill m at b bs l p q i f) (cases_Bool (formed m l (take (prefix_len numeric bs) bs)))

read_first : (m : Measure) (at b : ℕ) (bs : List ℕ) → Later m at bs → Read m at (b ∷ bs) (cut m 0 at (b ∷ bs))
read_first m at b bs later =
    ⊎_elim (λ e. subst (λ x. Read m at (x ∷ bs) (cut m 0 at (x ∷ bs))) (sym e) (read-blank m at bs later))
    (λ p. ⊎_elim (λ e. subst (λ x. Read m at (x ∷ bs) (cut m 0 at (x ∷ bs))) (sym e)
    (⊎_elim (λ h. read-remark m at (prefix_len inside bs) bs later refl h) (λ h. read-unclosed m at bs h) (cases_lt (prefix_len inside bs) (length bs))))
    (λ q. read_letter m at b bs (letter_of b) later p q refl)
    (cases_eq b 40))
    (cases_eq b 32)

read_from : (m : Measure) (xs : List ℕ) (k at : ℕ) → Read m (at + k) (drop k xs) (cut m 0 (at + k) (drop k xs))
read_from m [] zero at = done (at + 0)
read_from m [] (suc k) at = done (at + suc k)
read_from m (b ∷ bs) zero at = read_first m (at + 0) b bs (λ k. read_from m bs k (at + 0 + 1))
read_from m (b ∷ bs) (suc k) at =
    let e : at + 1 + k ≡ at + suc k = omega arith in
    subst (λ a. Read m a (drop k bs) (cut m 0 a (drop k bs))) e (read_from m bs k (at + 1))

pub reads_cut : (m : Measure) (at : ℕ) (xs : List ℕ) → Reads m at xs (pieces (cut m 0 at xs)) (fault_in (cut m 0 at xs))
reads_cut m at xs = let e : at + 0 ≡ at = omega arith in subst (λ a. Read m a xs (cut m 0 a xs)) e (read_from m xs 0 at)

-- a reading is the cut
abbrev IsCut : Measure → ℕ → List ℕ → List Piece → Option ℕ → Type 0
IsCut m at xs ps o = (pieces (cut m 0 at xs) ≡ ps) × (fault_in (cut m 0 at xs) ≡ o)

cut-part : (m : Measure) (at to : ℕ) (xs ys : List ℕ) (p : Piece) (ps : List Piece) (o : Option ℕ) → cut m 0 at xs ≡ part p (cut m 0 to ys) → IsCut m to ys ps o → IsCut m at xs (p ∷ ps) o
cut-part m at to xs ys p ps o e i = (ap pieces e ∙ ap (λ qs. p ∷ qs) i.0, ap fault_in e ∙ i.1)

cut-broken : (m : Measure) (at : ℕ) (xs : List ℕ) → cut m 0 at xs ≡ broken at → IsCut m at xs [] (Some at)
cut-broken m at xs e = (ap pieces e, ap fault_in e)

pub cut_reads : (m : Measure) (at : ℕ) (xs : List ℕ) (ps : List Piece) (o : Option ℕ) → Reads m at xs ps o → IsCut m at xs ps o
cut_reads m _ _ _ _ (done at) = (refl, refl)
cut_reads m _ _ _ _ (blank at bs ps o r) =
    let e : at + 1 ≡ suc at = omega arith in
    subst (λ a. (pieces (cut m 0 a bs) ≡ ps) × (fault_in (cut m 0 a bs) ≡ o)) e (cut_reads m (at + 1) bs ps o r)
cut_reads m _ _ _ _ (a_word at l n bs ps o run stops w r) =
    cut-part m at (at + 1 + length n) (byte_of l ∷ (n ++ bs)) bs (word l n at) ps o
    (cut_word m at (prefix_len numeric (n ++ bs)) (at + 1 + length n) (byte_of l) l (n ++ bs) n bs (no_blank l) (no_remark l) (byte_letter l) refl (sym (take-run numeric n bs run stops)) (sym (drop-run numeric n bs run stops)) (ap (λ k. at + 1 + k) (sym (leading_run numeric n bs run stops)))
    (omega (arith, leading_run numeric n bs run stops, length-append n bs)) (well_to m l n w)).0
    (cut_reads m (at + 1 + length n) bs ps o r)
cut_reads m _ _ _ _ (a_remark at t bs ps o run r) =
    cut-part m at (at + 2 + length t) (40 ∷ (t ++ (41 ∷ bs))) bs (remark t at) ps o
    (cut_remark m at (prefix_len inside (t ++ (41 ∷ bs))) (at + 2 + length t) (t ++ (41 ∷ bs)) t (41 ∷ bs) bs refl
    (omega (arith, leading_run inside t (41 ∷ bs) run refl, length-append t (41 ∷ bs)))
    (sym (take-run inside t (41 ∷ bs) run refl)) (sym (drop-run inside t (41 ∷ bs) run refl)) refl (omega (arith, leading_run inside t (41 ∷ bs) run refl))).0
    (cut_reads m (at + 2 + length t) bs ps o r)
cut_reads m _ _ _ _ (ill_formed at l n bs run stops w) =
    let ill : formed m l n ≡ false = ⊎_elim (λ f. absurd (w (well_from m l n f))) (λ f. f) (cases_Bool (formed m l n)) in
    cut-broken m at (byte_of l ∷ (n ++ bs))
    (cut_step m at (byte_of l) (n ++ bs) None (prefix_len numeric (n ++ bs)) (no_blank l)
    (opened-none m at (byte_of l) (n ++ bs) l (no_remark l) (byte_letter l) (ap (formed m l) (take-run numeric n bs run stops) ∙ ill))
    (taken_word (byte_of l) (n ++ bs) (no_remark l)))
cut_reads m _ _ _ _ (unclosed at t run) =
    cut-broken m at (40 ∷ t) (cut_step m at 40 t None (prefix_len inside t + 1) (λ z. omega arith) (remark_open at t (omega (arith, length_from_run inside t run))) refl)
cut_reads m _ _ _ _ (unknown at b bs p q h) =
    cut-broken m at (b ∷ bs) (cut_step m at b bs None (prefix_len numeric bs) p (cond-false (eqb b 40) _ _ (ne_eqb b 40 q) ∙ ap (λ o. word_in m o at bs) (no_letter b h)) (taken_word b bs q))
