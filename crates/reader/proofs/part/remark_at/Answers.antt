use Rattle.std.proofs.Common.{sym, ◌∙◌, arith}
use Rattle.reader.proofs.Cuts.{cut_remark, closed_is}
use Rattle.reader.proofs.part.remark_at.Goals as goal

pub returns : goal.returns
returns c =
    let i = closed_is c.in_ok-n.n c.args.tail.bytes.now (sym c.remark_len.ensures ∙ c.in_ok-n.ensures.ok_part) in
    rw (c.split_at-2.ensures.measure, c.split_at.ensures.measure) (cut_remark c.args.tail.measure _ _ _ _ _ _ _ i.0 i.1 c.split_at.ensures.front c.split_at.ensures.back c.split_at-2.ensures.back (omega (arith, c.requires, c.split_at.ensures.place, c.split_at-2.ensures.place)))
