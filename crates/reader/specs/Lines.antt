-- A line cut into its words and remarks.
use Rattle.std.specs.Prelude.{◌≡◌, ℕ, zero, suc, ◌+◌, ◌<◌, Bool, cond, not, List, [], ◌∷◌, length, take, Some, None, Ok, Err, Option, Result, ◌==◌, nat_lt}
use Rattle.std.specs.List.{prefix_len}
use Rattle.units.specs.declared.Measure.{Measure}
use Rattle.reader.specs.declared.fault.WordCause.TheVariants.{Form}
use Rattle.reader.specs.declared.fault.WordFault.{WordFault}
use Rattle.reader.specs.declared.part.Letter.{Letter}
use Rattle.reader.specs.declared.part.Part.{Part}
use Rattle.reader.specs.declared.part.Part.TheVariants.{Word, Remark}
use Rattle.reader.specs.declared.rest.Rest.{Rest}
use Rattle.reader.specs.Words.{numeric, letter_of, formed}

-- a word or a remark, with the byte at which it starts
pub data Piece : Type 0 where
  word : Letter → List ℕ → ℕ → Piece
  remark : List ℕ → ℕ → Piece

-- a line's parts up to its end, or up to the byte where no well formed part starts
pub data Cut : Type 0 where
  end : Cut
  part : Piece → Cut → Cut
  broken : ℕ → Cut

-- what may stand in a remark: all but )
abbrev pub inside : ℕ → Bool
inside b = not (b == 41)

-- how many bytes a remark has between its marks, where bs stands after its (
abbrev pub closed_at : List ℕ → Option ℕ
closed_at bs = cond (nat_lt (prefix_len inside bs) (length bs)) (Some (prefix_len inside bs)) None

-- the remark whose ( stands before bs, and the word whose letter does
abbrev pub remark_of : Option ℕ → ℕ → List ℕ → Option Piece
remark_of None at bs = None
remark_of (Some n) at bs = Some (remark (take n bs) at)

abbrev pub remark_in : ℕ → List ℕ → Option Piece
remark_in at bs = remark_of (closed_at bs) at bs

abbrev pub word_in : Measure → Option Letter → ℕ → List ℕ → Option Piece
word_in m None at bs = None
word_in m (Some l) at bs = cond (formed m l (take (prefix_len numeric bs) bs)) (Some (word l (take (prefix_len numeric bs) bs) at)) None

-- the part that starts with the byte b, a remark at (, and how many bytes it has after b
abbrev pub opened : Measure → ℕ → ℕ → List ℕ → Option Piece
opened m at b bs = cond (b == 40) (remark_in at bs) (word_in m (letter_of b) at bs)

abbrev pub taken : ℕ → List ℕ → ℕ
taken b bs = cond (b == 40) (prefix_len inside bs + 1) (prefix_len numeric bs)

abbrev pub onward : Option Piece → ℕ → Cut → Cut
onward None at c = broken at
onward (Some p) at c = part p c

-- the parts of a line from the byte at on, of which the first k bytes belong to the part before; 32 is the blank
abbrev pub cut : Measure → ℕ → ℕ → List ℕ → Cut
cut m k at [] = end
cut m zero at (b ∷ bs) = cond (b == 32) (cut m zero (suc at) bs) (onward (opened m at b bs) at (cut m (taken b bs) (suc at) bs))
cut m (suc k) at (b ∷ bs) = cut m k (suc at) bs

abbrev pub shown : Part → Piece
shown (Word w at) = word w.letter w.number.now at
shown (Remark t at) = remark t.now at

abbrev pub left : Rest → Cut
left r = cut r.measure 0 r.at r.bytes.now

-- the first byte of what is left of a line, and what is left after it
abbrev pub First : Rest → Option (ℕ × Rest) → Type 0
First r None = r.bytes.now ≡ []
First r (Some s) = (r.bytes.now ≡ s.0 ∷ s.1.bytes.now) × (s.1.at ≡ r.at + 1) × (s.1.measure ≡ r.measure)

-- the first part of what stands in a line from the byte at on, or the fault that there is none
abbrev pub Begins : Measure → ℕ → List ℕ → Result (Part × Rest) WordFault → Type 0
Begins m at xs (Err e) = (cut m 0 at xs ≡ broken e.at) × (e.cause ≡ Form)
Begins m at xs (Ok n) = (cut m 0 at xs ≡ part (shown n.0) (left n.1)) × (n.1.at + length n.1.bytes.now ≡ at + length xs) × (length n.1.bytes.now < length xs)

-- the next part of what is left of a line, or its end
abbrev pub Next : Rest → Option (Result (Part × Rest) WordFault) → Type 0
Next r None = left r ≡ end
Next r (Some o) = Begins r.measure r.at r.bytes.now o

-- the well formed parts of a line, and the byte where the next one is not
abbrev pub pieces : Cut → List Piece
pieces end = []
pieces (part p c) = p ∷ pieces c
pieces (broken at) = []

abbrev pub fault_in : Cut → Option ℕ
fault_in end = None
fault_in (part p c) = fault_in c
fault_in (broken at) = Some at
