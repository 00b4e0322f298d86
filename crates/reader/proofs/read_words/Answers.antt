use Rattle.std.proofs.Common.{sym, ap, ◌∙◌, subst, Err}
use Rattle.std.proofs.lemmas.Result.{err_from_is_err_and}
use Rattle.reader.specs.Lines.{left, Begins}
use Rattle.reader.proofs.Summaries.{in_line, one_reading, end_reading, broken_reading}
use Rattle.reader.proofs.read_words.Goals as goal

pub returns-in_err-part : goal.returns-in_err-part
returns-in_err-part c =
    let r = c.loop-begun.rest in
    let e = err_from_is_err_and c.from_residual.result c.from_residual.ensures.1 in
    broken_reading c.args.line.measure c.loop-begun.words r _ _ c.from_residual.result e.1 e.2 (subst (Begins r.measure r.at r.bytes.now) c.in_err-part.was c.in-Some.ensures)
    ∙ ap in_line c.loop-begun.invariant ∙ one_reading c.args.line.measure (left c.args.line)

pub returns-in_err-answer : goal.returns-in_err-answer
returns-in_err-answer c =
    let e = err_from_is_err_and c.from_residual-in_err-answer.result c.from_residual-in_err-answer.ensures.1 in
    e.1 ∙ ap Err e.2 ∙ ap in_line (sym c.in_err-answer.was)
    ∙ end_reading c.args.line.measure c.loop-begun.words (left c.args.line) (left c.loop-begun.rest) c.answer.result c.answer.ensures c.in_default.ensures c.loop-begun.invariant

pub returns : goal.returns
returns c =
    ap in_line (sym c.in_ok-answer.was)
    ∙ end_reading c.args.line.measure c.loop-begun.words (left c.args.line) (left c.loop-begun.rest) c.answer.result c.answer.ensures c.in_default.ensures c.loop-begun.invariant
