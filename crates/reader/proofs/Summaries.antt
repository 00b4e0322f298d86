-- The questions to all parts of a line are answered by what its words so far come to.
use Rattle.std.proofs.Common.{◌≡◌, ℕ, Bool, false, cond, ◌&&◌, ◌||◌, eqb, ltb, not, List, [], ◌∷◌, ◌++◌, is_some, Some, None, Ok, Err, Option, Result, sym, refl, ap, ◌∙◌, arith}
use Rattle.std.specs.Option.{option_map, UnwrapsOrElse}
use Rattle.std.proofs.Math.Bool.{or-false}
use Rattle.std.proofs.lemmas.Bool.{or_parts}
use Rattle.std.proofs.lemmas.List.Folds.{list_any-append}
use Rattle.units.specs.declared.Measure.{Measure}
use Rattle.reader.specs.declared.part.Letter.{Letter}
use Rattle.reader.specs.declared.part.Letter.TheVariants.{N, G, X, F, M}
use Rattle.reader.specs.declared.block.Preparatory.{Preparatory}
use Rattle.reader.specs.declared.block.Value.{Value}
use Rattle.reader.specs.declared.block.Value.TheVariants as value
use Rattle.reader.specs.declared.block.Block.{Block}
use Rattle.reader.specs.declared.fault.LineFault.{LineFault}
use Rattle.reader.specs.declared.fault.LineFault.TheVariants.{Form, Order, Range}
use Rattle.reader.specs.declared.fault.WordFault.{WordFault}
use Rattle.reader.specs.declared.rest.Rest.{Rest}
use Rattle.reader.specs.declared.summary.Summary.{Summary}
use Rattle.reader.specs.Faults.{line_fault}
use Rattle.reader.specs.Words.{rank, onto, preparatory, same_group, units_of, upto, within, value_of}
use Rattle.reader.specs.Lines.{Piece, word, remark, Cut, end, part, broken, pieces, fault_in, left, Begins}
use Rattle.reader.specs.Questions.{start_of, first_bad, words_clash, clash, misplaced, outside, empty, holding, more, said, block_from, asks, judged}
use Rattle.reader.specs.Summaries.{repeats, after, not_before, bars, first, outside_at, added, answered, start, answered_with}

-- what the derived default of a block is
abbrev pub IsDefault : Block → Type 0
IsDefault b =
    (b.number ≡ None) × ((b.motion ≡ None) × ((b.offset ≡ None) × ((b.way ≡ None) × ((b.target ≡ None) × ((b.feed ≡ None) × (b.auxiliary ≡ None))))))

default_empty : (b : Block) → IsDefault b → b ≡ empty
default_empty b (n, (m, (o, (w, (t, (f, a)))))) = λ i. record { number = n i; motion = m i; offset = o i; way = w i; target = t i; feed = f i; auxiliary = a i }

pub more_default : (v : Value) (o : Option Block) (b : Block) → UnwrapsOrElse o IsDefault b → Some (holding v b) ≡ more (Some v) o
more_default v None b d = ap (λ c. Some (holding v c)) (default_empty b d)
more_default v (Some c) b d = ap (λ c. Some (holding v c)) d

-- a G word and the one before it say values of one place just where they are of one group
repeats_group : (h g : Option Preparatory) (b : Option Block) → (repeats b (option_map value.Prepared g) || same_group h g) ≡ repeats (more (option_map value.Prepared h) b) (option_map value.Prepared g)
repeats_group h g b = grind arith

-- no other word says a value in the place of a G word
other_number : (x : Option ℕ) (g : Option Preparatory) (b : Option Block) → repeats (more (option_map value.Number x) b) (option_map value.Prepared g) ≡ repeats b (option_map value.Prepared g)
other_number x g b = grind arith

other_target : (x : Option _) (g : Option Preparatory) (b : Option Block) → repeats (more (option_map value.Target x) b) (option_map value.Prepared g) ≡ repeats b (option_map value.Prepared g)
other_target x g b = grind arith

other_rate : (x : Option ℕ) (g : Option Preparatory) (b : Option Block) → repeats (more (option_map value.Rate x) b) (option_map value.Prepared g) ≡ repeats b (option_map value.Prepared g)
other_rate x g b = grind arith

other_auxiliary : (x : Option ℕ) (g : Option Preparatory) (b : Option Block) → repeats (more (option_map value.Auxiliary x) b) (option_map value.Prepared g) ≡ repeats b (option_map value.Prepared g)
other_auxiliary x g b = grind arith

-- letters alone
letters : (o : Option Letter) (k l : Letter) (g : Bool) → (k ≡ G → ⊥) → not_before o k ≡ false → (not_before o l || (ltb (rank l) (rank k) || (eqb (rank k) (rank l) && (not (eqb (rank k) 1) || g)))) ≡ not_before (Some k) l
letters o k l g e h = grind arith

-- what a part says of the letters
abbrev bars_part : Measure → Summary → Piece → Bool
bars_part m s (word l n at) = bars s l (value_of m l n)
bars_part m s (remark t at) = false

-- while no word is misplaced, the words so far tell which part may not come next
abbrev Holds : Measure → List Piece → Summary → Type 0
Holds m ps s = s.misplaced ≡ None → (p : Piece) → misplaced ps p ≡ bars_part m s p

holds_start : (m : Measure) → Holds m [] start
holds_start m e (word N n at) = refl
holds_start m e (word G n at) = refl
holds_start m e (word X n at) = refl
holds_start m e (word F n at) = refl
holds_start m e (word M n at) = refl
holds_start m e (remark t at) = refl

-- a G word after another word
prepared_next : (m : Measure) (s : Summary) (k : Letter) (o n : List ℕ) → bars s k (value_of m k o) ≡ false → ((after s.last G || repeats s.block (value_of m G n)) || words_clash k o G n) ≡ (after (Some k) G || repeats (more (value_of m k o) s.block) (value_of m G n))
prepared_next m s N o n h = grind (arith, other_number (within 1 9999 (onto 0 o)) (preparatory (onto 0 n)) s.block)
prepared_next m s G o n h = grind (arith, repeats_group (preparatory (onto 0 o)) (preparatory (onto 0 n)) s.block)
prepared_next m s X o n h = grind (arith, other_target (units_of m o) (preparatory (onto 0 n)) s.block)
prepared_next m s F o n h = grind (arith, other_rate (within 1 65000 (onto 0 o)) (preparatory (onto 0 n)) s.block)
prepared_next m s M o n h = grind (arith, other_auxiliary (upto 99 (onto 0 o)) (preparatory (onto 0 n)) s.block)

-- another word after a word
letters_g : (o : Option Letter) (l : Letter) (g : Bool) → (l ≡ G → ⊥) → after o G ≡ false → (not_before o l || (ltb (rank l) 1 || (eqb 1 (rank l) && g))) ≡ not_before (Some G) l
letters_g o l g e h = grind arith

other_next : (s : Summary) (k l : Letter) (v : Option Value) (g : Bool) → (l ≡ G → ⊥) → bars s k v ≡ false → (not_before s.last l || (ltb (rank l) (rank k) || (eqb (rank k) (rank l) && (not (eqb (rank k) 1) || g)))) ≡ not_before (Some k) l
other_next s N l v g e h = letters s.last N l g (λ i. grind arith) h
other_next s G l v g e h = letters_g s.last l g e (or_parts _ _ h).0
other_next s X l v g e h = letters s.last X l g (λ i. grind arith) h
other_next s F l v g e h = letters s.last F l g (λ i. grind arith) h
other_next s M l v g e h = letters s.last M l g (λ i. grind arith) h

word_next : (m : Measure) (s : Summary) (k l : Letter) (o n : List ℕ) (at : ℕ) → bars s k (value_of m k o) ≡ false → (bars s l (value_of m l n) || words_clash k o l n) ≡ bars (added m (word k o at) s) l (value_of m l n)
word_next m s k N o n at h = other_next s k N (value_of m k o) _ (λ i. grind arith) h
word_next m s k G o n at h = prepared_next m s k o n h
word_next m s k X o n at h = other_next s k X (value_of m k o) _ (λ i. grind arith) h
word_next m s k F o n at h = other_next s k F (value_of m k o) _ (λ i. grind arith) h
word_next m s k M o n at h = other_next s k M (value_of m k o) _ (λ i. grind arith) h

part_next : (m : Measure) (s : Summary) (p q : Piece) → bars_part m s p ≡ false → (bars_part m s q || clash p q) ≡ bars_part m (added m p s) q
part_next m s (word k o at) (word l n to) h = word_next m s k l o n at h
part_next m s (word k o at) (remark t to) h = refl
part_next m s (remark r at) (word l n to) h = or-false _
part_next m s (remark r at) (remark t to) h = refl

none_misplaced : (m : Measure) (s : Summary) (p : Piece) → (added m p s).misplaced ≡ None → (s.misplaced ≡ None) × (bars_part m s p ≡ false)
none_misplaced m s (word l n at) e = (grind arith, grind arith)
none_misplaced m s (remark t at) e = (e, refl)

holds_next : (m : Measure) (ps : List Piece) (p : Piece) (s : Summary) → Holds m ps s → Holds m (ps ++ p ∷ []) (added m p s)
holds_next m ps p s h e q =
    let n = none_misplaced m s p e in
    list_any-append (λ r. clash r q) ps (p ∷ [])
    ∙ ap (λ b. b || (clash p q || false)) (h n.0 q)
    ∙ ap (λ b. bars_part m s q || b) (or-false (clash p q))
    ∙ part_next m s p q n.1

-- the questions that are still open, after the parts so far
abbrev otherwise : Option ℕ → Option ℕ → Option ℕ
otherwise None o = o
otherwise (Some at) o = Some at

abbrev asked : Measure → Summary → List Piece → Cut → Result (Option Block) LineFault
asked m s ps c =
    asks (fault_in c) Form
    (asks (otherwise s.misplaced (first_bad misplaced ps (pieces c))) Order
    (asks (otherwise s.outside (first_bad (λ _ p. outside m p) ps (pieces c))) Range
    (Ok (block_from m s.block (pieces c)))))

first-otherwise : (o : Option ℕ) (b : Bool) (at : ℕ) (r : Option ℕ) → otherwise o (cond b (Some at) r) ≡ otherwise (first o b at) r
first-otherwise o b at r = grind arith

outside-otherwise : (o : Option ℕ) (v : Option Value) (at : ℕ) (r : Option ℕ) → otherwise o (cond (not (is_some v)) (Some at) r) ≡ otherwise (outside_at o v at) r
outside-otherwise o v at r = grind arith

order_known : (m : Measure) (s : Summary) (p : Piece) (r : Option ℕ) → otherwise s.misplaced (cond (bars_part m s p) (Some (start_of p)) r) ≡ otherwise (added m p s).misplaced r
order_known m s (word l n at) r = first-otherwise s.misplaced (bars s l (value_of m l n)) at r
order_known m s (remark t at) r = refl

known : (o : Option ℕ) (b d : Bool) (at : ℕ) (r : Option ℕ) → (o ≡ None → b ≡ d) → otherwise o (cond b (Some at) r) ≡ otherwise o (cond d (Some at) r)
known None b d at r h = ap (λ x. cond x (Some at) r) (h refl)
known (Some to) b d at r h = refl

order_next : (m : Measure) (s : Summary) (ps qs : List Piece) (p : Piece) → Holds m ps s → otherwise s.misplaced (first_bad misplaced ps (p ∷ qs)) ≡ otherwise (added m p s).misplaced (first_bad misplaced (ps ++ p ∷ []) qs)
order_next m s ps qs p h =
    known s.misplaced (misplaced ps p) (bars_part m s p) (start_of p) (first_bad misplaced (ps ++ p ∷ []) qs) (λ e. h e p)
    ∙ order_known m s p (first_bad misplaced (ps ++ p ∷ []) qs)

range_next : (m : Measure) (s : Summary) (p : Piece) (r : Option ℕ) → otherwise s.outside (cond (outside m p) (Some (start_of p)) r) ≡ otherwise (added m p s).outside r
range_next m s (word l n at) r = outside-otherwise s.outside (value_of m l n) at r
range_next m s (remark t at) r = refl

block_next : (m : Measure) (s : Summary) (p : Piece) → more (said m p) s.block ≡ (added m p s).block
block_next m s (word l n at) = refl
block_next m s (remark t at) = refl

asked_next : (m : Measure) (s : Summary) (ps : List Piece) (p : Piece) (c : Cut) → Holds m ps s → asked m s ps (part p c) ≡ asked m (added m p s) (ps ++ p ∷ []) c
asked_next m s ps p c h =
    let x = order_next m s ps (pieces c) p h in
    let y = range_next m s p (first_bad (λ _ p. outside m p) (ps ++ p ∷ []) (pieces c)) in
    let z = block_next m s p in
    cc

-- the answer of a line, from that of its words
abbrev pub in_line : Result (Option Block) WordFault → Result (Option Block) LineFault
in_line (Ok o) = Ok o
in_line (Err f) = Err (line_fault f.cause f.at)

ended : (s : Summary) → asks (otherwise s.misplaced None) Order (asks (otherwise s.outside None) Range (Ok s.block)) ≡ in_line (answered s)
ended s = grind arith

so_far : (m : Measure) (c : Cut) (s : Summary) (ps : List Piece) → Holds m ps s → asked m s ps c ≡ in_line (answered_with m s c)
so_far m end s ps h = ended s
so_far m (part p c) s ps h = asked_next m s ps p c h ∙ so_far m c (added m p s) (ps ++ p ∷ []) (holds_next m ps p s h)
so_far m (broken at) s ps h = refl

pub one_reading : (m : Measure) (c : Cut) → in_line (answered_with m start c) ≡ judged m c
one_reading m c = sym (so_far m c start [] (holds_start m))

-- the answer to a line that has no part left
pub end_reading : (m : Measure) (s : Summary) (c r : Cut) (a : Result (Option Block) WordFault) → a ≡ answered s → r ≡ end → answered_with m s r ≡ answered_with m start c → in_line a ≡ judged m c
end_reading m s c r a is none same = ap in_line (is ∙ sym (ap (answered_with m s) none) ∙ same) ∙ one_reading m c

-- the answer to a line that is broken off where its next part should start
pub broken_reading : (m : Measure) (s : Summary) (r : Rest) (e : WordFault) (f : LineFault) (a : Result (Option Block) LineFault) → a ≡ Err f → f ≡ line_fault e.cause e.at → Begins r.measure r.at r.bytes.now (Err e) → a ≡ in_line (answered_with m s (left r))
broken_reading m s r e f a is same b = is ∙ ap Err (same ∙ ap (λ k. line_fault k e.at) b.1) ∙ sym (ap (λ c. in_line (answered_with m s c)) b.0)
