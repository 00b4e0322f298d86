-- The block holds just what the words of a line say.
use Rattle.std.proofs.Common.{◌≡◌, ℕ, ◌-◌, true, false, cond, not, ◌||◌, eqb, ltb, leb, ◌⊎◌, List, [], ◌∷◌, ◌++◌, is_some, Some, None, Option, sym, refl, ap, ◌∙◌, subst, inl, inr, ⊎_elim, arith}
use Rattle.std.proofs.lemmas.Bool.{and_from, or_right, or_parts, eq-eqb, both_ways, cases_eq}
use Rattle.std.proofs.lemmas.List.{append_assoc}
use Rattle.std.specs.Option.{option_map}
use Rattle.std.proofs.lemmas.Option.{none-some, same_Some}
use Rattle.units.specs.declared.Measure.{Measure}
use Rattle.reader.specs.declared.part.Letter.{Letter}
use Rattle.reader.specs.declared.part.Letter.TheVariants.{G}
use Rattle.reader.specs.declared.block.Preparatory.{Preparatory}
use Rattle.reader.specs.declared.block.Preparatory.TheVariants.{OfMotion, OfOffset, OfWay}
use Rattle.reader.specs.declared.block.Value.{Value}
use Rattle.reader.specs.declared.block.Value.TheVariants as value
use Rattle.reader.specs.declared.block.Block.{Block}
use Rattle.reader.specs.Words.{rank, onto, preparatory, same_group, value_of}
use Rattle.reader.specs.Lines.{Piece, word, remark}
use Rattle.reader.specs.Questions.{clash, misplaced, outside, empty, holding, more, said, block_from}
use Rattle.reader.specs.Answers.{Among, NoneBad, Has, Told, Gives}

-- which field of a block a value fills
abbrev kind : Value → ℕ
kind (value.Number x) = 0
kind (value.Prepared (OfMotion x)) = 1
kind (value.Prepared (OfOffset x)) = 2
kind (value.Prepared (OfWay x)) = 3
kind (value.Target x) = 4
kind (value.Rate x) = 5
kind (value.Auxiliary x) = 6

-- a block with a value more keeps every value of another field, and has no other
held_one : (v w : Value) (b : Block) → kind w ≡ kind v → Has (holding w b) v → w ≡ v
held_one v w b e h = grind arith

held_keeps : (v w : Value) (b : Block) → (kind w ≡ kind v → ⊥) → Has b v → Has (holding w b) v
held_keeps v w b n h = grind arith

held_back : (v w : Value) (b : Block) → (kind w ≡ kind v → ⊥) → Has (holding w b) v → Has b v
held_back v w b n h = grind arith

held_same : (v : Value) (b : Block) → Has (holding v b) v
held_same v b = grind arith

empty-has : (v : Value) → Has empty v → ⊥
empty-has v h = grind arith

-- words of one field clash
same_kind_group : (g h : Preparatory) → kind (value.Prepared g) ≡ kind (value.Prepared h) → same_group (Some g) (Some h) ≡ true
same_kind_group g h e = grind arith

pub some_from : {A B : Type 0} (f : A → B) (o : Option A) (v : B) → option_map f o ≡ Some v → (x : A) × (o ≡ Some x) × (f x ≡ v)
some_from f None v e = absurd (none-some v e)
some_from f (Some x) v e = (x, refl, same_Some (f x) v e)

-- the rank of the letter that fills a field
abbrev rank_at : ℕ → ℕ
rank_at k = cond (eqb k 0) 0 (cond (leb k 3) 1 (k - 2))

rank_g : (g : Preparatory) → 1 ≡ rank_at (kind (value.Prepared g))
rank_g g = grind arith

rank_kind : (m : Measure) (l : Letter) (n : List ℕ) (v : Value) → value_of m l n ≡ Some v → rank l ≡ rank_at (kind v)
rank_kind m l n v e = grind (arith, rank_g)

both_g : (m : Measure) (n o : List ℕ) (v w : Value) → value_of m G n ≡ Some v → value_of m G o ≡ Some w → kind v ≡ kind w → same_group (preparatory (onto 0 n)) (preparatory (onto 0 o)) ≡ true
both_g m n o v w p q e = grind (arith, same_kind_group)

twice : (m : Measure) (l k : Letter) (n o : List ℕ) (v w : Value) → rank l ≡ rank k → value_of m l n ≡ Some v → value_of m k o ≡ Some w → kind v ≡ kind w → (not (eqb (rank l) 1) || same_group (preparatory (onto 0 n)) (preparatory (onto 0 o))) ≡ true
twice m l k n o v w r p q e = grind (arith, both_g m n o v w)

pub one_field : (m : Measure) (p q : Piece) (v w : Value) → said m p ≡ Some v → said m q ≡ Some w → kind v ≡ kind w → clash p q ≡ true
one_field m (remark s at) q v w a b e = absurd (none-some v a)
one_field m (word l n at) (remark t to) v w a b e = absurd (none-some w b)
one_field m (word l n at) (word k o to) v w a b e =
    let r : rank l ≡ rank k = rank_kind m l n v a ∙ ap rank_at e ∙ sym (rank_kind m k o w b) in
    or_right (ltb (rank k) (rank l)) _ (and_from _ _ (eq-eqb (rank l) (rank k) r) (twice m l k n o v w r a b e))

clash_in : (a : List Piece) (q : Piece) (c : List Piece) (p : Piece) → misplaced (a ++ (q ∷ c)) p ≡ false → clash q p ≡ false
clash_in [] q c p h = (or_parts _ _ h).0
clash_in (x ∷ a) q c p h = clash_in a q c p (or_parts _ _ h).1

among_head : (p : Piece) (ps : List Piece) → Among p (p ∷ ps)
among_head p ps = ([], ps, refl)

among_tail : (p q : Piece) (ps : List Piece) → Among q ps → Among q (p ∷ ps)
among_tail p q ps a = (p ∷ a.0, a.1, ap (λ r. p ∷ r) a.2)

-- the words put into a block, one after the other
abbrev put : Option Value → Block → Block
put None b = b
put (Some v) b = holding v b

abbrev fill : Measure → Block → List Piece → Block
fill m b [] = b
fill m b (p ∷ ps) = fill m (put (said m p) b) ps

more_put : (o : Option Value) (b : Block) → more o (Some b) ≡ Some (put o b)
more_put o b = grind arith

from_some : (m : Measure) (ps : List Piece) (b : Block) → block_from m (Some b) ps ≡ Some (fill m b ps)
from_some m [] b = refl
from_some m (p ∷ ps) b = ap (λ o. block_from m o ps) (more_put (said m p) b) ∙ from_some m ps (put (said m p) b)

fill_append : (m : Measure) (ps qs : List Piece) (b : Block) → fill m b (ps ++ qs) ≡ fill m (fill m b ps) qs
fill_append m [] qs b = refl
fill_append m (p ∷ ps) qs b = fill_append m ps qs (put (said m p) b)

put_keeps : (o : Option Value) (b : Block) (v : Value) → Has b v → ((w : Value) → o ≡ Some w → kind w ≡ kind v → ⊥) → Has (put o b) v
put_keeps None b v h other = h
put_keeps (Some w) b v h other = held_keeps v w b (other w refl) h

fill_keeps : (m : Measure) (ps : List Piece) (b : Block) (v : Value) → Has b v → ((q : Piece) → Among q ps → (w : Value) → said m q ≡ Some w → kind w ≡ kind v → ⊥) → Has (fill m b ps) v
fill_keeps m [] b v h other = h
fill_keeps m (p ∷ ps) b v h other =
    fill_keeps m ps (put (said m p) b) v (put_keeps (said m p) b v h (λ w. other p (among_head p ps) w)) (λ q a. other q (among_tail p q ps a))

put_told : (o : Option Value) (b : Block) (v : Value) → Has (put o b) v → Has b v ⊎ (o ≡ Some v)
put_told None b v h = inl h
put_told (Some w) b v h = ⊎_elim (λ e. inr (ap Some (held_one v w b e h))) (λ n. inl (held_back v w b n h)) (cases_eq (kind w) (kind v))

told_tail : (m : Measure) (p : Piece) (ps : List Piece) (v : Value) → Told m ps v → Told m (p ∷ ps) v
told_tail m p ps v t = (t.0, among_tail p t.0 ps t.1, t.2)

fill_told : (m : Measure) (ps : List Piece) (b : Block) (v : Value) → Has (fill m b ps) v → Has b v ⊎ Told m ps v
fill_told m [] b v h = inl h
fill_told m (p ∷ ps) b v h =
    ⊎_elim (λ k. ⊎_elim (λ j. inl j) (λ e. inr (p, among_head p ps, e)) (put_told (said m p) b v k))
    (λ t. inr (told_tail m p ps v t))
    (fill_told m ps (put (said m p) b) v h)

told-has : (m : Measure) (ps : List Piece) (v : Value) → NoneBad misplaced ps → Told m ps v → Has (fill m empty ps) v
told-has m ps v ordered t =
    let p : Piece = t.0 in
    let before : List Piece = t.1.0 in
    let after : List Piece = t.1.1 in
    let other : (q : Piece) → Among q after → (w : Value) → said m q ≡ Some w → kind w ≡ kind v → ⊥ =
    λ q a w e k. both_ways (clash p q)
    (clash_in before p a.0 q (ordered (before ++ (p ∷ a.0)) q a.1 (t.1.2 ∙ ap (λ r. before ++ (p ∷ r)) a.2 ∙ sym (append_assoc before (p ∷ a.0) (q ∷ a.1)))))
    (one_field m p q v w t.2 e (sym k)) in
    let has : Has (put (said m p) (fill m empty before)) v = subst (λ o. Has (put o (fill m empty before)) v) (sym t.2) (held_same v (fill m empty before)) in
    subst (λ b. Has b v) (sym (ap (fill m empty) t.1.2 ∙ fill_append m before (p ∷ after) empty)) (fill_keeps m after (put (said m p) (fill m empty before)) v has other)

has-told : (m : Measure) (ps : List Piece) (v : Value) → Has (fill m empty ps) v → Told m ps v
has-told m ps v h = ⊎_elim (λ e. absurd (empty-has v e)) (λ t. t) (fill_told m ps empty v h)

-- no word says anything and there is no block, or one does and there is one
abbrev Either : Measure → List Piece → Type 0
Either m ps = ((block_from m None ps ≡ None) × ((q : Piece) → Among q ps → said m q ≡ None)) ⊎ ((block_from m None ps ≡ Some (fill m empty ps)) × ((v : Value) × Told m ps v))

among_none : (q : Piece) → Among q [] → ⊥
among_none q ([], c, e) = let z : ◌≡◌ {A = ℕ} 0 1 = cc in omega arith
among_none q (x ∷ b, c, e) = let z : ◌≡◌ {A = ℕ} 0 1 = cc in omega arith

among_cases : (p q : Piece) (ps : List Piece) → Among q (p ∷ ps) → (p ≡ q) ⊎ Among q ps
among_cases p q ps ([], c, e) = inl (cc)
among_cases p q ps (x ∷ b, c, e) = inr (b, c, cc)

either_more : (m : Measure) (p : Piece) (ps : List Piece) (o : Option Value) → said m p ≡ o → Either m ps → Either m (p ∷ ps)
either_more m p ps None e i =
    let same : block_from m None (p ∷ ps) ≡ block_from m None ps = ap (λ o. block_from m (more o None) ps) e in
    ⊎_elim (λ n. inl (same ∙ n.0, λ q a. ⊎_elim (λ h. ap (said m) (sym h) ∙ e) (λ b. n.1 q b) (among_cases p q ps a)))
    (λ s. inr (same ∙ s.0 ∙ ap (λ o. Some (fill m (put o empty) ps)) (sym e), (s.1.0, told_tail m p ps s.1.0 s.1.1)))
    i
either_more m p ps (Some v) e i =
    inr (ap (λ o. block_from m (more o None) ps) e ∙ from_some m ps (holding v empty) ∙ ap (λ o. Some (fill m (put o empty) ps)) (sym e), (v, (p, among_head p ps, e)))

either : (m : Measure) (ps : List Piece) → Either m ps
either m [] = inl (refl, λ q a. absurd (among_none q a))
either m (p ∷ ps) = either_more m p ps (said m p) refl (either m ps)

abbrev AWord : List Piece → Type 0
AWord ps = (l : Letter) × (n : List ℕ) × (at : ℕ) × Among (word l n at) ps

told-word : (m : Measure) (ps : List Piece) (v : Value) (p : Piece) → Among p ps → said m p ≡ Some v → AWord ps
told-word m ps v (word l n at) a e = (l, n, at, a)
told-word m ps v (remark t at) a e = absurd (none-some v e)

pub gives : (m : Measure) (ps : List Piece) → NoneBad misplaced ps → NoneBad (λ _ p. outside m p) ps → Gives m ps (block_from m None ps)
gives m ps ordered ranged =
    ⊎_elim (λ i. subst (Gives m ps) (sym i.0) (λ l n at a. both_ways (outside m (word l n at)) (ranged a.0 (word l n at) a.1 a.2) (ap (λ o. not (is_some o)) (i.1 (word l n at) a))))
    (λ s. subst (Gives m ps) (sym s.0) (told-word m ps s.1.0 s.1.1.0 s.1.1.1 s.1.1.2, (λ v. told-has m ps v ordered), (λ v. has-told m ps v)))
    (either m ps)

-- two blocks with the same values are one
option_same : {A : Type 0} (x y : Option A) → ((a : A) → x ≡ Some a → y ≡ Some a) → ((a : A) → y ≡ Some a → x ≡ Some a) → x ≡ y
option_same None None f g = refl
option_same None (Some a) f g = g a refl
option_same (Some a) y f g = sym (f a refl)

block_same : (b c : Block) → ((v : Value) → Has b v → Has c v) → ((v : Value) → Has c v → Has b v) → b ≡ c
block_same b c f g =
    let n : b.number ≡ c.number = option_same _ _ (λ a. f (value.Number a)) (λ a. g (value.Number a)) in
    let o : b.motion ≡ c.motion = option_same _ _ (λ a. f (value.Prepared (OfMotion a))) (λ a. g (value.Prepared (OfMotion a))) in
    let p : b.offset ≡ c.offset = option_same _ _ (λ a. f (value.Prepared (OfOffset a))) (λ a. g (value.Prepared (OfOffset a))) in
    let q : b.way ≡ c.way = option_same _ _ (λ a. f (value.Prepared (OfWay a))) (λ a. g (value.Prepared (OfWay a))) in
    let r : b.target ≡ c.target = option_same _ _ (λ a. f (value.Target a)) (λ a. g (value.Target a)) in
    let s : b.feed ≡ c.feed = option_same _ _ (λ a. f (value.Rate a)) (λ a. g (value.Rate a)) in
    let t : b.auxiliary ≡ c.auxiliary = option_same _ _ (λ a. f (value.Auxiliary a)) (λ a. g (value.Auxiliary a)) in
    λ i. record { number = n i; motion = o i; offset = p i; way = q i; target = r i; feed = s i; auxiliary = t i }

pub gives_same : (m : Measure) (ps : List Piece) (o p : Option Block) → Gives m ps o → Gives m ps p → o ≡ p
gives_same m ps None None g h = refl
gives_same m ps None (Some c) g h = absurd (g h.0.0 h.0.1 h.0.2 h.0.3)
gives_same m ps (Some b) None g h = absurd (h g.0.0 g.0.1 g.0.2 g.0.3)
gives_same m ps (Some b) (Some c) g h = ap Some (block_same b c (λ v x. h.1 v (g.2 v x)) (λ v x. g.1 v (h.2 v x)))
