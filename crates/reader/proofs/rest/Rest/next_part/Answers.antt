use Rattle.std.proofs.Common.{◌∙◌, length, ap, arith}
use Rattle.reader.proofs.Cuts.{begins_start, left_blank}
use Rattle.reader.proofs.rest.Rest.next_part.Goals as goal

pub loop-first-preserved : goal.loop-first-preserved
loop-first-preserved c =
    let i = c.loop-first.invariant in
    let b = rw c.in-32.is at c.in-Some.ensures.0 in
    let l = left_blank c.loop-first.start c.in-Some.tail b c.in-Some.ensures.1 c.in-Some.ensures.2 in
    (i.0 ∙ l, omega (arith, i.1, c.in-Some.ensures.1, ap length b), omega (arith, i.2, ap length b))

pub returns-in-40 : goal.returns-in-40
returns-in-40 c =
    let i = c.loop-first.invariant in
    let b = rw c.in-40.is at c.in-Some.ensures.0 in
    begins_start _ c.args.self c.loop-first.start 40 _ c.remark_at.result c.in-Some.ensures.2 i.0 i.1 i.2 b c.remark_at.ensures

pub returns-in_default-first : goal.returns-in_default-first
returns-in_default-first c =
    let i = c.loop-first.invariant in
    begins_start _ c.args.self c.loop-first.start c.in-Some.first _ c.word_at.result c.in-Some.ensures.2 i.0 i.1 i.2 c.in-Some.ensures.0 c.word_at.ensures
