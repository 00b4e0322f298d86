-- The laws over runs.
use Rattle.std.proofs.Common.{◌≡◌, ℕ, ◌≤◌, true, false, cond, eqb, List, [], ◌∷◌, ◌++◌, length, Some, None, Err, Option, refl, arith}
use Rattle.std.proofs.lemmas.Bool.Decides.{nat_tests}
use Rattle.units.specs.declared.Measure.{Measure}
use Rattle.reader.specs.declared.fault.LineFault.TheVariants.{ProgramFull}
use Rattle.store.specs.declared.fault.StoreFault.{StoreFault}
use Rattle.store.specs.declared.fault.StoreFault.TheVariants.{StoreFull, Line}
use Rattle.store.specs.Programs.{Program, Programs, found, without, read}
use Rattle.store.specs.Closing.{closable}
use Rattle.store.specs.Entry.{first_no, open_questions, open_reply, opened_unless, added_to, add_reply_to, closed_from, abandoned}
use Rattle.store.specs.Laws.{Call, after, Runs, Changes}
use Rattle.store.proofs.Closings.{each_ends, each_fed}
use Rattle.store.proofs.Histories.{Sound, held, all_found}

-- 28 comes only with sixteen stored
full : (cs : List Call) (n : ℕ) → open_reply n (after cs) ≡ Err (StoreFull n) → length (after cs).stored ≡ 16
full cs n e = let most = (held cs).most in grind (arith, nat_tests)

-- 31 for want of room comes only with 64 blocks
read-full : (p : Program) (line : List ℕ) → read p line ≡ Err ProgramFull → 64 ≤ length p.blocks
unfolding read
read-full p line e = grind (arith, nat_tests)

refused : (n : ℕ) (line : List ℕ) (p : Program) → add_reply_to (Some p) n line ≡ Err (Line ProgramFull) → read p line ≡ Err ProgramFull
refused n line p e = grind arith

entry-full : (cs : List Call) (n : ℕ) (line : List ℕ) (o : Option Program) → (after cs).entry ≡ o → add_reply_to o n line ≡ Err (Line ProgramFull) → (p : Program) × ((after cs).entry ≡ Some p) × (length p.blocks ≡ 64)
entry-full cs n line None e r = cc
entry-full cs n line (Some p) e r =
    let most : length p.blocks ≤ 64 = ((held cs).entry p e).1 in
    let least : 64 ≤ length p.blocks = read-full p line (refused n line p r) in
    (p, e, omega (arith, most, least))

pub runs : Runs
runs cs = record {
  sixteen = (held cs).most;
  entered = λ n p e. (all_found (Sound cs) n (after cs).stored p (held cs).each e).0;
  ends_once = λ n p e. each_ends p.blocks (all_found (Sound cs) n (after cs).stored p (held cs).each e).1;
  fed = λ n p e. each_fed p.blocks (all_found (Sound cs) n (after cs).stored p (held cs).each e).1;
  full = full cs;
  no_room = λ n line e. entry-full cs n line (after cs).entry refl e;
}

-- stored programs change by closing and deletion alone
opening_keeps : (q : Option StoreFault) (n : ℕ) (m : Measure) (s : Programs) → (opened_unless q n m s).stored ≡ s.stored
opening_keeps q n m s = grind arith

adding_keeps : (o : Option Program) (n : ℕ) (line : List ℕ) (s : Programs) → (added_to o n line s).stored ≡ s.stored
adding_keeps o n line s = grind arith

abandoning_keeps : (n : ℕ) (s : Programs) → (abandoned n s).stored ≡ s.stored
abandoning_keeps n s = grind arith

found_push : (k : ℕ) (p : Program) (ps : List Program) → eqb p.number k ≡ false → found k (ps ++ p ∷ []) ≡ found k ps
found_push k p [] e = cc
found_push k p (q ∷ ps) e = let more = found_push k p ps e in cc

closing_keeps : (o : Option Program) (n k : ℕ) (s : Programs) → (k ≡ n → ⊥) → found k (closed_from o n s).stored ≡ found k s.stored
closing_keeps None n k s d = refl
closing_keeps (Some p) n k s d =
    elim (closable p.blocks) as (λ x. found k (cond (eqb p.number n) (record { stored = cond x (s.stored ++ p ∷ []) s.stored; entry = None }) s).stored ≡ found k s.stored) [ true ↦ grind (arith, nat_tests, found_push) | false ↦ grind arith ]

deleting_keeps : (n k : ℕ) (ps : List Program) → (k ≡ n → ⊥) → found k (without n ps) ≡ found k ps
deleting_keeps n k [] d = refl
deleting_keeps n k (p ∷ ps) d = let more = deleting_keeps n k ps d in grind (arith, nat_tests)

pub changes : Changes
changes = record {
  opening_keeps = λ n m s. opening_keeps (first_no (open_questions n s)) n m s;
  adding_keeps = λ n line s. adding_keeps s.entry n line s;
  abandoning_keeps = abandoning_keeps;
  closing_keeps = λ n k s d. closing_keeps s.entry n k s d;
  deleting_keeps = λ n k s d. deleting_keeps n k s.stored d;
}
