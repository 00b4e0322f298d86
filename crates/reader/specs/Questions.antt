-- The questions to a line, in their order, and the block that a good line gives.
use Rattle.std.specs.Prelude.{ℕ, Bool, false, cond, not, ◌&&◌, ◌||◌, List, [], ◌∷◌, ◌++◌, length, is_some, Some, None, Ok, Err, Option, Result, ◌==◌, nat_le, nat_lt}
use Rattle.std.specs.List.{list_any}
use Rattle.units.specs.declared.Measure.{Measure}
use Rattle.reader.specs.declared.part.Letter.{Letter}
use Rattle.reader.specs.declared.block.Preparatory.TheVariants.{OfMotion, OfOffset, OfWay}
use Rattle.reader.specs.declared.block.Value.{Value}
use Rattle.reader.specs.declared.block.Value.TheVariants as value
use Rattle.reader.specs.declared.block.Block.{Block}
use Rattle.reader.specs.declared.fault.LineFault.{LineFault}
use Rattle.reader.specs.declared.fault.LineFault.TheVariants.{TooLong, ProgramFull, Form, Order, Range}
use Rattle.reader.specs.Words.{rank, onto, preparatory, same_group, value_of}
use Rattle.reader.specs.Lines.{Piece, word, remark, Cut, cut, pieces, fault_in}

abbrev pub start_of : Piece → ℕ
start_of (word l n at) = at
start_of (remark t at) = at

-- the place of the first part that is bad after those before it
abbrev pub first_bad : (List Piece → Piece → Bool) → List Piece → List Piece → Option ℕ
first_bad bad before [] = None
first_bad bad before (p ∷ ps) = cond (bad before p) (Some (start_of p)) (first_bad bad (before ++ p ∷ []) ps)

-- Order: a word may not stand after one with a later letter, with the same letter, or, for G, of the same group.
abbrev pub words_clash : Letter → List ℕ → Letter → List ℕ → Bool
words_clash l n k o = nat_lt (rank k) (rank l) || (rank l == rank k && (not (rank l == 1) || same_group (preparatory (onto 0 n)) (preparatory (onto 0 o))))

abbrev pub clash : Piece → Piece → Bool
clash (word l n at) (word k o to) = words_clash l n k o
clash (word l n at) (remark t to) = false
clash (remark s at) (word k o to) = false
clash (remark s at) (remark t to) = false

abbrev pub misplaced : List Piece → Piece → Bool
misplaced before p = list_any (λ q. clash q p) before

-- Range: a word says something.
abbrev pub outside : Measure → Piece → Bool
outside m (word l n at) = not (is_some (value_of m l n))
outside m (remark t at) = false

abbrev pub empty : Block
empty = record { number = None; motion = None; offset = None; way = None; target = None; feed = None; auxiliary = None }

-- a block with one value more
abbrev pub holding : Value → Block → Block
holding (value.Number n) b = record b { number = Some n }
holding (value.Prepared (OfMotion v)) b = record b { motion = Some v }
holding (value.Prepared (OfOffset v)) b = record b { offset = Some v }
holding (value.Prepared (OfWay v)) b = record b { way = Some v }
holding (value.Target x) b = record b { target = Some x }
holding (value.Rate f) b = record b { feed = Some f }
holding (value.Auxiliary n) b = record b { auxiliary = Some n }

-- the block so far, with what a word says; none before the first word
abbrev pub more : Option Value → Option Block → Option Block
more None o = o
more (Some v) None = Some (holding v empty)
more (Some v) (Some b) = Some (holding v b)

abbrev pub said : Measure → Piece → Option Value
said m (word l n at) = value_of m l n
said m (remark t at) = None

abbrev pub block_from : Measure → Option Block → List Piece → Option Block
block_from m o [] = o
block_from m o (p ∷ ps) = block_from m (more (said m p) o) ps

abbrev pub asks : Option ℕ → (ℕ → LineFault) → Result (Option Block) LineFault → Result (Option Block) LineFault
asks None fault r = r
asks (Some at) fault r = Err (fault at)

abbrev pub judged : Measure → Cut → Result (Option Block) LineFault
judged m c =
    asks (fault_in c) Form
    (asks (first_bad misplaced [] (pieces c)) Order
    (asks (first_bad (λ _ p. outside m p) [] (pieces c)) Range
    (Ok (block_from m None (pieces c)))))

-- a line that opens with a per cent sign
abbrev pub per_cent : List ℕ → Bool
per_cent [] = false
per_cent (b ∷ bs) = b == 37

-- the answer to a line of a program that has so many blocks
abbrev pub verdict : Measure → ℕ → List ℕ → Result (Option Block) LineFault
verdict m blocks xs =
    cond (nat_lt 80 (length xs)) (Err TooLong)
    (cond (nat_le 64 blocks) (Err ProgramFull)
    (cond (blocks == 0 && per_cent xs) (Ok None)
    (judged m (cut m 0 0 xs))))
