-- What a line's answer is, in the words of the rules.
use Rattle.std.specs.Prelude.{◌≡◌, ℕ, ◌<◌, ◌≤◌, Bool, true, false, ◌⊎◌, List, ◌∷◌, ◌++◌, length, Some, None, Ok, Err, Option, Result, ◌≢◌}
use Rattle.units.specs.declared.Measure.{Measure}
use Rattle.reader.specs.declared.part.Letter.{Letter}
use Rattle.reader.specs.declared.block.Preparatory.{Preparatory}
use Rattle.reader.specs.declared.block.Preparatory.TheVariants.{OfMotion, OfOffset, OfWay}
use Rattle.reader.specs.declared.block.Value.{Value}
use Rattle.reader.specs.declared.block.Value.TheVariants as value
use Rattle.reader.specs.declared.block.Block.{Block}
use Rattle.reader.specs.declared.fault.LineFault.{LineFault}
use Rattle.reader.specs.declared.fault.LineFault.TheVariants.{TooLong, ProgramFull, Form, Order, Range}
use Rattle.reader.specs.Faults.{number_of}
use Rattle.reader.specs.Words.{preparatory, code_of, value_of}
use Rattle.reader.specs.Lines.{Piece, word}
use Rattle.reader.specs.Questions.{start_of, misplaced, outside, said}
use Rattle.reader.specs.Reads.{WellFormed, Reads, Says}

-- a part of a line, with those before and after it
abbrev pub Split : List Piece → List Piece → Piece → List Piece → Type 0
Split ps before p after = ps ≡ before ++ (p ∷ after)

abbrev pub Among : Piece → List Piece → Type 0
Among p ps = (before : List Piece) × (after : List Piece) × Split ps before p after

-- no part is bad after those before it; the first part that is stands at a place
abbrev pub NoneBad : (List Piece → Piece → Bool) → List Piece → Type 0
NoneBad bad ps = (before : List Piece) (p : Piece) (after : List Piece) → Split ps before p after → bad before p ≡ false

abbrev pub FirstAt : (List Piece → Piece → Bool) → List Piece → ℕ → Type 0
FirstAt bad ps at = (before : List Piece) × (p : Piece) × (after : List Piece) × Split ps before p after × NoneBad bad before × (bad before p ≡ true) × (start_of p ≡ at)

-- a block has a value
abbrev pub Has : Block → Value → Type 0
Has b (value.Number n) = b.number ≡ Some n
Has b (value.Prepared (OfMotion v)) = b.motion ≡ Some v
Has b (value.Prepared (OfOffset v)) = b.offset ≡ Some v
Has b (value.Prepared (OfWay v)) = b.way ≡ Some v
Has b (value.Target x) = b.target ≡ Some x
Has b (value.Rate f) = b.feed ≡ Some f
Has b (value.Auxiliary n) = b.auxiliary ≡ Some n

-- some word of a line says a value
abbrev pub Told : Measure → List Piece → Value → Type 0
Told m ps v = (p : Piece) × Among p ps × (said m p ≡ Some v)

-- a line without words gives no block; else the block has just what the words say
abbrev pub Gives : Measure → List Piece → Option Block → Type 0
Gives m ps None = (l : Letter) (n : List ℕ) (at : ℕ) → Among (word l n at) ps → ⊥
Gives m ps (Some b) = ((l : Letter) × (n : List ℕ) × (at : ℕ) × Among (word l n at) ps) × ((v : Value) → Told m ps v → Has b v) × ((v : Value) → Has b v → Told m ps v)

abbrev pub Fits : ℕ → List ℕ → Type 0
Fits blocks xs = (length xs ≤ 80) × (blocks < 64)

-- a line that opens with a per cent sign, before any block
abbrev pub PerCent : ℕ → List ℕ → Type 0
PerCent blocks xs = (blocks ≡ 0) × (bs : List ℕ) × (xs ≡ 37 ∷ bs)

-- a line that reads so, with its words in order and in range
abbrev pub Good : Measure → List ℕ → Option Block → Type 0
Good m xs o = (ps : List Piece) × Reads m 0 xs ps None × NoneBad misplaced ps × NoneBad (λ _ p. outside m p) ps × Gives m ps o

-- the answer to a line: the first question that fails, at the first part that fails it, or what the line gives
abbrev pub Answers : Measure → ℕ → List ℕ → Result (Option Block) LineFault → Type 0
Answers m blocks xs (Ok None) = Fits blocks xs × (PerCent blocks xs ⊎ ((PerCent blocks xs → ⊥) × Good m xs None))
Answers m blocks xs (Ok (Some b)) = Fits blocks xs × (PerCent blocks xs → ⊥) × Good m xs (Some b)
Answers m blocks xs (Err TooLong) = 80 < length xs
Answers m blocks xs (Err ProgramFull) = (length xs ≤ 80) × (64 ≤ blocks)
Answers m blocks xs (Err (Form at)) = Fits blocks xs × (PerCent blocks xs → ⊥) × ((ps : List Piece) × Reads m 0 xs ps (Some at))
Answers m blocks xs (Err (Order at)) = Fits blocks xs × (PerCent blocks xs → ⊥) × ((ps : List Piece) × Reads m 0 xs ps None × FirstAt misplaced ps at)
Answers m blocks xs (Err (Range at)) = Fits blocks xs × (PerCent blocks xs → ⊥) × ((ps : List Piece) × Reads m 0 xs ps None × NoneBad misplaced ps × FirstAt (λ _ p. outside m p) ps at)

-- an answer, and no other is one
abbrev pub OneAnswer : Measure → ℕ → List ℕ → Result (Option Block) LineFault → Type 0
OneAnswer m blocks xs r = Answers m blocks xs r × ((s : Result (Option Block) LineFault) → Answers m blocks xs s → s ≡ r)

-- a line of at most 80 bytes with fewer than 64 blocks never gets 31
abbrev pub WithinLimits : ℕ → List ℕ → Result (Option Block) LineFault → Type 0
WithinLimits blocks xs r = length xs ≤ 80 → blocks < 64 → (e : LineFault) → r ≡ Err e → number_of e ≢ 31

-- the value of a well formed word is what it says
abbrev pub ValuesSaid : Measure → Type 0
ValuesSaid m = (l : Letter) (n : List ℕ) (v : Value) → WellFormed m l n → (value_of m l n ≡ Some v → Says m l n v) × (Says m l n v → value_of m l n ≡ Some v)

-- preparatory and code_of are inverse: the number of a G word says g just where it is the number of g
abbrev pub CodesRead : Type 0
CodesRead = (n : ℕ) (g : Preparatory) → (preparatory n ≡ Some g → n ≡ code_of g) × (n ≡ code_of g → preparatory n ≡ Some g)
