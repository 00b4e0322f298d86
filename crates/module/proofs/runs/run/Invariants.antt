use Rattle.std.proofs.Common.{◌≡◌, ◌≤◌, length, take, map, vec_len, vec_items, vec_capacity}
use Rattle.module.specs.Machine.{after, replies}
use Rattle.module.specs.Replies.{reply_by}
use Rattle.module.proofs.runs.run.Given as goal

-- so far each reply is the machine's, and there is room for all
abbrev pub invariant-loop-call : goal.invariant-loop-call
invariant-loop-call g l =
    (l.call-index ≤ length l.calls)
    × (vec_len l.replies ≡ l.call-index)
    × (length l.calls ≤ vec_capacity l.replies)
    × (l.module ≡ after l.initial.module (take l.call-index l.calls))
    × (map reply_by (vec_items l.replies) ≡ replies l.initial.module (take l.call-index l.calls))
