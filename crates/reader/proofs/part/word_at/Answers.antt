use Rattle.std.proofs.Common.{sym, arith}
use Rattle.reader.proofs.Cuts.{cut_word}
use Rattle.reader.proofs.part.word_at.Goals as goal

pub returns : goal.returns
returns c =
    rw c.split_at.ensures.measure (cut_word _ _ _ _ _ _ _ _ _ c.requires.no_blank c.requires.no_remark (sym c.in-Ok.ensures) c.number_len.ensures.value c.split_at.ensures.front c.split_at.ensures.back
    (omega (arith, c.requires.place, c.split_at.ensures.place)) c.number_len.ensures.bound (sym c.if-not-is_well_formed.ensures))
