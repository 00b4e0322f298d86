use Rattle.std.proofs.Common.{◌≡◌, ◌≤◌, vec_len, vec_capacity}
use Rattle.store.specs.declared.table.TheConstants.{MOST_PROGRAMS}
use Rattle.store.proofs.table.made.free_records.Given as goal

abbrev pub invariant-loop : goal.invariant-loop
invariant-loop l = (vec_len l.free ≡ l.counter) × (MOST_PROGRAMS ≤ vec_capacity l.free)
