-- What the words of a line so far come to, where the line is read once: the same as the questions to all its parts.
use Rattle.std.specs.Prelude.{ℕ, Bool, true, false, cond, ◌||◌, is_some, Some, None, Ok, Err, Option, Result, nat_le, nat_lt}
use Rattle.units.specs.declared.Measure.{Measure}
use Rattle.reader.specs.declared.part.Letter.{Letter}
use Rattle.reader.specs.declared.part.Letter.TheVariants.{N, G, X, F, M}
use Rattle.reader.specs.declared.block.Preparatory.TheVariants.{OfMotion, OfOffset, OfWay}
use Rattle.reader.specs.declared.block.Value.{Value}
use Rattle.reader.specs.declared.block.Value.TheVariants as value
use Rattle.reader.specs.declared.block.Block.{Block}
use Rattle.reader.specs.declared.fault.WordCause.TheVariants.{Form, Order, Range}
use Rattle.reader.specs.declared.fault.WordFault.{WordFault}
use Rattle.reader.specs.declared.summary.Summary.{Summary}
use Rattle.reader.specs.Words.{rank, value_of}
use Rattle.reader.specs.Lines.{Piece, word, remark, Cut, end, part, broken}
use Rattle.reader.specs.Questions.{more}

-- whether a block has a value in the place of this one
abbrev pub held : Value → Block → Bool
held (value.Number n) b = is_some b.number
held (value.Prepared (OfMotion v)) b = is_some b.motion
held (value.Prepared (OfOffset v)) b = is_some b.offset
held (value.Prepared (OfWay v)) b = is_some b.way
held (value.Target x) b = is_some b.target
held (value.Rate f) b = is_some b.feed
held (value.Auxiliary n) b = is_some b.auxiliary

abbrev pub repeats : Option Block → Option Value → Bool
repeats None v = false
repeats (Some b) None = false
repeats (Some b) (Some v) = held v b

-- whether the last letter is later than this one; whether it is this one or later
abbrev pub after : Option Letter → Letter → Bool
after None l = false
after (Some k) l = nat_lt (rank l) (rank k)

abbrev pub not_before : Option Letter → Letter → Bool
not_before None l = false
not_before (Some k) l = nat_le (rank l) (rank k)

-- whether a word may not stand after the words so far
abbrev pub bars : Summary → Letter → Option Value → Bool
bars s N v = not_before s.last N
bars s G v = after s.last G || repeats s.block v
bars s X v = not_before s.last X
bars s F v = not_before s.last F
bars s M v = not_before s.last M

abbrev pub first : Option ℕ → Bool → ℕ → Option ℕ
first None b at = cond b (Some at) None
first (Some p) b at = Some p

abbrev pub outside_at : Option ℕ → Option Value → ℕ → Option ℕ
outside_at o None at = first o true at
outside_at o (Some v) at = o

-- the words so far with one part more
abbrev pub added : Measure → Piece → Summary → Summary
added m (word l n at) s = record { last = Some l; misplaced = first s.misplaced (bars s l (value_of m l n)) at; outside = outside_at s.outside (value_of m l n) at; block = more (value_of m l n) s.block }
added m (remark t at) s = s

-- the answer to a line with no other part
abbrev pub answered_by : Option ℕ → Option ℕ → Option Block → Result (Option Block) WordFault
answered_by (Some at) o b = Err (record { cause = Order; at = at })
answered_by None (Some at) b = Err (record { cause = Range; at = at })
answered_by None None b = Ok b

abbrev pub answered : Summary → Result (Option Block) WordFault
answered s = answered_by s.misplaced s.outside s.block

abbrev pub start : Summary
start = record { last = None; misplaced = None; outside = None; block = None }

-- the answer to a line with what is left of it, from what its words so far come to
abbrev pub answered_with : Measure → Summary → Cut → Result (Option Block) WordFault
answered_with m s end = answered s
answered_with m s (part p c) = answered_with m (added m p s) c
answered_with m s (broken at) = Err (record { cause = Form; at = at })
