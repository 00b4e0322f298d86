-- The verdict on a line is its one answer.
use Rattle.std.proofs.Common.{◌≡◌, ℕ, ◌<◌, ◌≤◌, true, false, cond, ◌&&◌, eqb, List, [], ◌∷◌, length, Some, None, Ok, Err, Option, Result, sym, refl, ap, ◌∙◌, subst, inl, inr, ⊎_elim}
use Rattle.std.proofs.lemmas.Bool.{cond-true, cond-false, lt-ltb, le-ltb, le-leb, lt-leb, eq-eqb, eqb-true, and_parts, and_from, cases_lt, cases_Bool, both_ways}
use Rattle.units.specs.declared.Measure.{Measure}
use Rattle.reader.specs.declared.block.Block.{Block}
use Rattle.reader.specs.declared.fault.LineFault.{LineFault}
use Rattle.reader.specs.declared.fault.LineFault.TheVariants.{TooLong, ProgramFull, Form, Order, Range}
use Rattle.reader.specs.Lines.{Piece, cut, pieces, fault_in}
use Rattle.reader.specs.Questions.{first_bad, misplaced, outside, block_from, asks, judged, per_cent, verdict}
use Rattle.reader.specs.Reads.{Reads}
use Rattle.reader.specs.Answers.{NoneBad, Fits, PerCent, Good, Answers, OneAnswer}
use Rattle.reader.proofs.Readings.{reads_cut, cut_reads}
use Rattle.reader.proofs.Firsts.{none_bad, bad_none, first-at, at-first_bad}
use Rattle.reader.proofs.Blocks.{gives, gives_same}

abbrev Answer : Type 0
Answer = Result (Option Block) LineFault

-- the limits and the per cent sign
too_long : (m : Measure) (k : ℕ) (xs : List ℕ) → 80 < length xs → verdict m k xs ≡ Err TooLong
too_long m k xs h = cond-true _ _ _ (lt-ltb 80 (length xs) h)

full : (m : Measure) (k : ℕ) (xs : List ℕ) → length xs ≤ 80 → 64 ≤ k → verdict m k xs ≡ Err ProgramFull
full m k xs h f = cond-false _ _ _ (le-ltb 80 (length xs) h) ∙ cond-true _ _ _ (le-leb 64 k f)

abbrev Inner : Measure → ℕ → List ℕ → Answer
Inner m k xs = cond (eqb k 0 && per_cent xs) (Ok None) (judged m (cut m 0 0 xs))

fitting : (m : Measure) (k : ℕ) (xs : List ℕ) → Fits k xs → verdict m k xs ≡ Inner m k xs
fitting m k xs f = cond-false _ _ _ (le-ltb 80 (length xs) f.0) ∙ cond-false _ _ _ (lt-leb 64 k f.1)

opens : (xs : List ℕ) → per_cent xs ≡ true → (bs : List ℕ) × (xs ≡ 37 ∷ bs)
opens [] e = absurd (both_ways false refl e)
opens (b ∷ bs) e = (bs, ap (λ x. x ∷ bs) (eqb-true b 37 e))

per_cent_from : (k : ℕ) (xs : List ℕ) → (eqb k 0 && per_cent xs) ≡ true → PerCent k xs
per_cent_from k xs e = let a = and_parts _ _ e in let o = opens xs a.1 in (eqb-true k 0 a.0, o.0, o.1)

per_cent_to : (k : ℕ) (xs : List ℕ) → PerCent k xs → (eqb k 0 && per_cent xs) ≡ true
per_cent_to k xs p = and_from _ _ (eq-eqb k 0 p.0) (ap per_cent p.2)

passed : (m : Measure) (k : ℕ) (xs : List ℕ) → Fits k xs → PerCent k xs → verdict m k xs ≡ Ok None
passed m k xs f p = fitting m k xs f ∙ cond-true _ _ _ (per_cent_to k xs p)

read_on : (m : Measure) (k : ℕ) (xs : List ℕ) → Fits k xs → (PerCent k xs → ⊥) → verdict m k xs ≡ judged m (cut m 0 0 xs)
read_on m k xs f p = fitting m k xs f ∙ cond-false _ _ _ (⊎_elim (λ t. absurd (p (per_cent_from k xs t))) (λ e. e) (cases_Bool (eqb k 0 && per_cent xs)))

-- the later questions
abbrev Rest : Measure → List Piece → Answer
Rest m ps = asks (first_bad (λ _ p. outside m p) [] ps) Range (Ok (block_from m None ps))

abbrev Parts : Measure → List Piece → Answer
Parts m ps = asks (first_bad misplaced [] ps) Order (Rest m ps)

whole-line : (m : Measure) (xs : List ℕ) (ps : List Piece) → Reads m 0 xs ps None → judged m (cut m 0 0 xs) ≡ Parts m ps
whole-line m xs ps r =
    let c = cut_reads m 0 xs ps None r in
    ap (λ o. asks o Form (Parts m (pieces (cut m 0 0 xs)))) c.1 ∙ ap (Parts m) c.0

in_order : (m : Measure) (ps : List Piece) → NoneBad misplaced ps → Parts m ps ≡ Rest m ps
in_order m ps n = ap (λ o. asks o Order (Rest m ps)) (bad_none misplaced ps n)

in_range_lem : (m : Measure) (ps : List Piece) → NoneBad (λ _ p. outside m p) ps → Rest m ps ≡ Ok (block_from m None ps)
in_range_lem m ps n = ap (λ o. asks o Range (Ok (block_from m None ps))) (bad_none (λ _ p. outside m p) ps n)

good : (m : Measure) (xs : List ℕ) (o : Option Block) → Good m xs o → judged m (cut m 0 0 xs) ≡ Ok o
good m xs o g =
    let ps : List Piece = g.0 in
    whole-line m xs ps g.1 ∙ in_order m ps g.2 ∙ in_range_lem m ps g.3 ∙ ap Ok (gives_same m ps (block_from m None ps) o (gives m ps g.2 g.3) g.4)

-- an answer is the verdict
only : (m : Measure) (k : ℕ) (xs : List ℕ) (s : Answer) → Answers m k xs s → verdict m k xs ≡ s
only m k xs (Ok None) a = ⊎_elim (λ p. passed m k xs a.0 p) (λ g. read_on m k xs a.0 g.0 ∙ good m xs None g.1) a.1
only m k xs (Ok (Some b)) a = read_on m k xs a.0 a.1 ∙ good m xs (Some b) a.2
only m k xs (Err TooLong) a = too_long m k xs a
only m k xs (Err ProgramFull) a = full m k xs a.0 a.1
only m k xs (Err (Form at)) a =
    read_on m k xs a.0 a.1 ∙ ap (λ o. asks o Form (Parts m (pieces (cut m 0 0 xs)))) (cut_reads m 0 xs a.2.0 (Some at) a.2.1).1
only m k xs (Err (Order at)) a =
    let ps : List Piece = a.2.0 in
    read_on m k xs a.0 a.1 ∙ whole-line m xs ps a.2.1 ∙ ap (λ o. asks o Order (Rest m ps)) (at-first_bad misplaced ps at a.2.2)
only m k xs (Err (Range at)) a =
    let ps : List Piece = a.2.0 in
    read_on m k xs a.0 a.1 ∙ whole-line m xs ps a.2.1 ∙ in_order m ps a.2.2
    ∙ ap (λ o. asks o Range (Ok (block_from m None ps))) (at-first_bad (λ _ p. outside m p) ps at a.2.3)

-- the verdict is an answer
good_answer : (m : Measure) (k : ℕ) (xs : List ℕ) (o : Option Block) → Fits k xs → (PerCent k xs → ⊥) → Good m xs o → Answers m k xs (Ok o)
good_answer m k xs None f p g = (f, inr (p, g))
good_answer m k xs (Some b) f p g = (f, p, g)

answer_range : (m : Measure) (k : ℕ) (xs : List ℕ) (ps : List Piece) (o : Option ℕ) → Fits k xs → (PerCent k xs → ⊥) → Reads m 0 xs ps None → NoneBad misplaced ps → first_bad (λ _ p. outside m p) [] ps ≡ o → Answers m k xs (asks o Range (Ok (block_from m None ps)))
answer_range m k xs ps None f p r n e =
    let q : NoneBad (λ _ p. outside m p) ps = none_bad (λ _ p. outside m p) ps e in
    good_answer m k xs (block_from m None ps) f p (ps, r, n, q, gives m ps n q)
answer_range m k xs ps (Some at) f p r n e = (f, p, (ps, r, n, first-at (λ _ p. outside m p) ps at e))

answer_order : (m : Measure) (k : ℕ) (xs : List ℕ) (ps : List Piece) (o : Option ℕ) → Fits k xs → (PerCent k xs → ⊥) → Reads m 0 xs ps None → first_bad misplaced [] ps ≡ o → Answers m k xs (asks o Order (Rest m ps))
answer_order m k xs ps None f p r e = answer_range m k xs ps (first_bad (λ _ p. outside m p) [] ps) f p r (none_bad misplaced ps e) refl
answer_order m k xs ps (Some at) f p r e = (f, p, (ps, r, first-at misplaced ps at e))

answer_form : (m : Measure) (k : ℕ) (xs : List ℕ) (ps : List Piece) (o : Option ℕ) → Fits k xs → (PerCent k xs → ⊥) → Reads m 0 xs ps o → Answers m k xs (asks o Form (Parts m ps))
answer_form m k xs ps None f p r = answer_order m k xs ps (first_bad misplaced [] ps) f p r refl
answer_form m k xs ps (Some at) f p r = (f, p, (ps, r))

answer_fits : (m : Measure) (k : ℕ) (xs : List ℕ) → Fits k xs → Answers m k xs (verdict m k xs)
answer_fits m k xs f =
    ⊎_elim (λ t. let p : PerCent k xs = per_cent_from k xs t in subst (Answers m k xs) (sym (passed m k xs f p)) (f, inl p))
    (λ e. let p : PerCent k xs → ⊥ = λ q. both_ways (eqb k 0 && per_cent xs) e (per_cent_to k xs q) in
    subst (Answers m k xs) (sym (read_on m k xs f p)) (answer_form m k xs (pieces (cut m 0 0 xs)) (fault_in (cut m 0 0 xs)) f p (reads_cut m 0 xs)))
    (cases_Bool (eqb k 0 && per_cent xs))

answered : (m : Measure) (k : ℕ) (xs : List ℕ) → Answers m k xs (verdict m k xs)
answered m k xs =
    ⊎_elim (λ h. subst (Answers m k xs) (sym (too_long m k xs h)) h)
    (λ h. ⊎_elim (λ f. answer_fits m k xs (h, f)) (λ f. subst (Answers m k xs) (sym (full m k xs h f)) (h, f)) (cases_lt k 64))
    (cases_lt 80 (length xs))

pub one_answer : (m : Measure) (k : ℕ) (xs : List ℕ) (r : Answer) → r ≡ verdict m k xs → OneAnswer m k xs r
one_answer m k xs r e = (subst (Answers m k xs) (sym e) (answered m k xs), λ s a. sym (only m k xs s a) ∙ sym e)
