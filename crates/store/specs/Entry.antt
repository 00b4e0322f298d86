-- The calls of the store: what each answers and what store it leaves.
use Rattle.std.specs.Prelude.{ℕ, Bool, false, cond, not, List, [], ◌∷◌, ◌++◌, length, is_some, Some, None, Ok, Err, Option, Result, ◌==◌, nat_lt}
use Rattle.units.specs.declared.Measure.{Measure}
use Rattle.store.specs.declared.fault.StoreFault.{StoreFault}
use Rattle.store.specs.declared.fault.StoreFault.TheVariants.{NotStored, OutOfRange, AlreadyStored, StoreFull, EntryOpen, NotOpen, NotClosable}
use Rattle.store.specs.declared.entry.Entry.{Entry}
use Rattle.store.specs.declared.entry.HandedBack.{HandedBack}
use Rattle.store.specs.declared.entry.CloseRefusal.{CloseRefusal}
use Rattle.store.specs.declared.entry.CloseRefusal.TheVariants.{NotThisOne, Ended}
use Rattle.store.specs.Programs.{Program, Programs, found, without, begun, read, joined_to, line_reply}
use Rattle.store.specs.Closing.{closable}

-- the fault of the first question that is answered no
abbrev pub first_no : List (Bool × StoreFault) → Option StoreFault
first_no [] = None
first_no (q ∷ qs) = cond q.0 (first_no qs) (Some q.1)

-- opening
abbrev pub open_questions : ℕ → Programs → List (Bool × StoreFault)
open_questions n s =
    (not (n == 0), OutOfRange n)
    ∷ (not (is_some (found n s.stored)), AlreadyStored n)
    ∷ (nat_lt (length s.stored) 16, StoreFull n)
    ∷ (not (is_some s.entry), EntryOpen n)
    ∷ []

abbrev pub asked : Option StoreFault → Result (Unit {0}) StoreFault
asked None = Ok tt
asked (Some f) = Err f

abbrev pub token : Option StoreFault → ℕ → Result Entry StoreFault
token None n = Ok (record { number = n })
token (Some f) n = Err f

abbrev pub entered : Program → Programs → Programs
entered p s = record { stored = s.stored; entry = Some p }

abbrev pub opened_unless : Option StoreFault → ℕ → Measure → Programs → Programs
opened_unless None n m s = entered (begun n m) s
opened_unless (Some f) n m s = s

abbrev pub open_done : ℕ → Programs → Result (Unit {0}) StoreFault
open_done n s = asked (first_no (open_questions n s))

abbrev pub open_reply : ℕ → Programs → Result Entry StoreFault
open_reply n s = token (first_no (open_questions n s)) n

abbrev pub opened : ℕ → Measure → Programs → Programs
opened n m s = opened_unless (first_no (open_questions n s)) n m s

-- whether the entry of a number is the open one
abbrev pub open_one : ℕ → Option Program → Bool
open_one n None = false
open_one n (Some p) = p.number == n

-- the open entry if it is that of a number, else 30
abbrev pub entry_of : ℕ → Option Program → Result Program StoreFault
entry_of n None = Err (NotOpen n)
entry_of n (Some p) = cond (p.number == n) (Ok p) (Err (NotOpen n))

-- adding a line
abbrev pub add_reply_to : Option Program → ℕ → List ℕ → Result (Unit {0}) StoreFault
add_reply_to None n line = Err (NotOpen n)
add_reply_to (Some p) n line = cond (p.number == n) (line_reply (read p line)) (Err (NotOpen n))

abbrev pub add_reply : ℕ → List ℕ → Programs → Result (Unit {0}) StoreFault
add_reply n line s = add_reply_to s.entry n line

abbrev pub added_to : Option Program → ℕ → List ℕ → Programs → Programs
added_to None n line s = s
added_to (Some p) n line s = cond (p.number == n) (entered (joined_to (read p line) p) s) s

abbrev pub added : ℕ → List ℕ → Programs → Programs
added n line s = added_to s.entry n line s

-- closing: 35 ends the entry too
abbrev pub kept : Program → List Program → List Program
kept p ps = cond (closable p.blocks) (ps ++ p ∷ []) ps

abbrev pub ended_with : Program → Programs → Programs
ended_with p s = record { stored = kept p s.stored; entry = None }

abbrev pub end_reply : Program → ℕ → Result (Unit {0}) StoreFault
end_reply p n = cond (closable p.blocks) (Ok tt) (Err (NotClosable n))

abbrev pub close_reply_of : Option Program → ℕ → Result (Unit {0}) StoreFault
close_reply_of None n = Err (NotOpen n)
close_reply_of (Some p) n = cond (p.number == n) (end_reply p n) (Err (NotOpen n))

abbrev pub close_reply : ℕ → Programs → Result (Unit {0}) StoreFault
close_reply n s = close_reply_of s.entry n

abbrev pub closed_from : Option Program → ℕ → Programs → Programs
closed_from None n s = s
closed_from (Some p) n s = cond (p.number == n) (ended_with p s) s

abbrev pub closed : ℕ → Programs → Programs
closed n s = closed_from s.entry n s

-- abandoning
abbrev pub abandon_reply : ℕ → Programs → Result (Unit {0}) StoreFault
abandon_reply n s = cond (open_one n s.entry) (Ok tt) (Err (NotOpen n))

abbrev pub abandoned : ℕ → Programs → Programs
abandoned n s = cond (open_one n s.entry) (record { stored = s.stored; entry = None }) s

-- deleting
abbrev pub delete_reply : ℕ → Programs → Result (Unit {0}) StoreFault
delete_reply n s = cond (is_some (found n s.stored)) (Ok tt) (Err (NotStored n))

abbrev pub deleted : ℕ → Programs → Programs
deleted n s = record { stored = without n s.stored; entry = s.entry }

-- the same answers to a host that holds the token: 30 hands it back, 35 spends it
abbrev pub back : Entry → HandedBack
back e = record { entry = e; fault = NotOpen e.number }

abbrev pub ended : Result (Unit {0}) StoreFault → Result (Unit {0}) CloseRefusal
ended (Ok u) = Ok u
ended (Err f) = Err (Ended f)

abbrev pub close_answer : Entry → Programs → Result (Unit {0}) CloseRefusal
close_answer e s = cond (open_one e.number s.entry) (ended (close_reply e.number s)) (Err (NotThisOne (back e)))

abbrev pub abandon_answer : Entry → Programs → Result (Unit {0}) HandedBack
abandon_answer e s = cond (open_one e.number s.entry) (Ok tt) (Err (back e))
