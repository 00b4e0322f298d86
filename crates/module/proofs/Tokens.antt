-- A closing by token is answered what a closing by number is answered.
use Rattle.std.proofs.Common.{◌≡◌, None, Some, Option, refl, arith}
use Rattle.store.specs.declared.entry.Entry.{Entry}
use Rattle.store.specs.Programs.{Program, Programs}
use Rattle.store.specs.Entry.{close_answer, close_reply}
use Rattle.module.specs.Machine.{at_store}
use Rattle.module.specs.Replies.{reply_of_close}

closing_by : (e : Entry) (s : Programs) (o : Option Program) → s.entry ≡ o → reply_of_close (close_answer e s) ≡ at_store (close_reply e.number s)
closing_by e s None q = grind (arith, q)
closing_by e s (Some p) q = grind (arith, q)

pub closing_same : (e : Entry) (s : Programs) → reply_of_close (close_answer e s) ≡ at_store (close_reply e.number s)
closing_same e s = closing_by e s s.entry refl
