-- A program that an axis runs or holds stays stored through every run of calls, so that 17 is never answered.
use Rattle.std.proofs.Common.{◌≡◌, ◌≢◌, ℕ, zero, suc, add-one, Bool, true, false, not, cond, eqb, ◌&&◌, ◌||◌, List, [], ◌∷◌, ◌++◌, is_some, Some, None, Ok, Err, Option, Result, refl, sym, ap, ◌∙◌, subst, arith}
use Rattle.std.proofs.lemmas.Bool.{eqb-true}
use Rattle.std.proofs.lemmas.Option.{same_Some}
use Rattle.std.specs.List.{AllByRecursion}
use Rattle.drives.specs.Meaning.{Meaning}
use Rattle.store.specs.declared.fault.StoreFault.{StoreFault}
use Rattle.store.specs.declared.fault.StoreFault.TheVariants.{NotStored}
use Rattle.reader.specs.declared.block.Block.{Block}
use Rattle.reader.specs.Words.{ends_by}
use Rattle.store.specs.Programs.{Program, Programs, empty, found, block_at, block_in}
use Rattle.store.specs.Laws as stored
use Rattle.store.specs.Laws.{Call as StoreCall, opening, adding, closing, abandoning, deleting, EndsOnce}
use Rattle.store.specs.Entry.{opened, added, closed_from, closed, abandoned, deleted}
use Rattle.store.specs.Closing.{ends, closable}
use Rattle.store.specs.Faults as store
use Rattle.store.proofs.Histories.{run_append}
use Rattle.store.proofs.Laws.{runs, changes}
use Rattle.states.specs.declared.fault.Cause.{Cause}
use Rattle.states.specs.declared.fault.Cause.TheVariants.{HeldNotStored}
use Rattle.states.specs.declared.fault.AxisFault.{AxisFault}
use Rattle.states.specs.Faults.{cause_number}
use Rattle.states.specs.State.{Course, Phase, standing, moving, braking, held, between, AxisState, course_of, is_of}
use Rattle.ticks.specs.Blocks.{next_block}
use Rattle.laws.specs.Acts as one
use Rattle.laws.proofs.InUse.{Such}
use Rattle.laws.proofs.Held.{InStore, Other, act_stored, act_other}
use Rattle.laws.proofs.NextBlock.{GoesOn, AllGoOn, HasNext, NextUnlessEnded, NextIn, act_next}
use Rattle.module.specs.declared.call.Act.{Act}
use Rattle.module.specs.declared.call.Act.TheVariants.{Enter, Delete, Order, Level, Tick, Observe}
use Rattle.module.specs.declared.call.Call.{Call}
use Rattle.module.specs.declared.call.Call.TheVariants.{OnAxis, Open, Add, Close, Abandon, DeleteProgram}
use Rattle.module.specs.declared.fault.Fault.TheVariants.{OfStore, InUse}
use Rattle.module.specs.State.{Machine}
use Rattle.module.specs.Machine.{Reply, done, refused, answered, done_or, at_axis, at_store, uses_in, in_use, reply, with_programs, step, new_machine, after, replies}
use Rattle.module.specs.History.{Which, first, second, third, axis_at, act_on}
use Rattle.module.specs.InUse.{InUseStored, amid_block, ProgramHasNext, OtherThan, ProgramsInUse}
use Rattle.module.proofs.Axes.{left_by, store_alone, step_at}

-- an axis whose program is stored and has a next block
abbrev Fine : Programs → Phase → Type 0
Fine p ph = Such (InStore p) (course_of ph) × NextIn p ph

abbrev EachFine : Machine → Type 0
EachFine s = (w : Which) → Fine s.programs (axis_at w s).status.work.phase

-- OTHER PROGRAMS, among which the one that is in use is the same
abbrev pub SameFor : Option Course → Programs → Programs → Type 0
SameFor o p q = (c : Course) → o ≡ Some c → InStore p c → found c.program q.stored ≡ found c.program p.stored

such_still : (p q : Programs) (o : Option Course) → SameFor o p q → Such (InStore p) o → Such (InStore q) o
such_still p q None h u = tt
such_still p q (Some c) h u = ap is_some (h c refl u) ∙ u

-- there is a block to come just where there was one
block_still : (p q : Programs) (c : Course) → SameFor (Some c) p q → InStore p c → is_some (next_block q c) ≡ is_some (next_block p c)
block_still p q c h u = ap (λ (o : Option Program). is_some (block_in o c.taken)) (h c refl u)

its_still : (p q : Programs) (o : Option Course) → SameFor o p q → Such (InStore p) o → Such (NextUnlessEnded p) o
    → Such (NextUnlessEnded q) o
its_still p q None h u n = tt
its_still p q (Some c) h u n = block_still p q c h u ∙ n

next_still : (p q : Programs) (ph : Phase) → SameFor (course_of ph) p q → Fine p ph → NextIn q ph
next_still p q standing h u = tt
next_still p q (moving t) h u = its_still p q t.course h u.0 u.1
next_still p q (braking t) h u = its_still p q t.course h u.0 u.1
next_still p q (held c (Some target)) h u = its_still p q (Some c) h u.0 u.1
next_still p q (held c None) h u = (block_still p q c h u.0 ∙ u.1.0, u.1.1)
next_still p q (between c) h u = (block_still p q c h u.0 ∙ u.1.0, u.1.1)

programs_fine : (q : Programs) (s : Machine) → ((w : Which) → SameFor (course_of (axis_at w s).status.work.phase) s.programs q)
    → EachFine s → EachFine (with_programs q s)
programs_fine q s h u w =
    let ph = (axis_at w s).status.work.phase in
    subst (λ (a : AxisState). Fine q a.status.work.phase) (sym (store_alone w q s))
    (such_still s.programs q (course_of ph) (h w) (u w).0, next_still s.programs q ph (h w) (u w))

-- the same programs with another entry
same_fine : (q : Programs) (s : Machine) → q.stored ≡ s.programs.stored → EachFine s → EachFine (with_programs q s)
same_fine q s e u = programs_fine q s (λ w c o i. ap (found c.program) e) u

-- a program more leaves those that are stored
found_still : (k : ℕ) (p : Program) (ps : List Program) → is_some (found k ps) ≡ true → found k (ps ++ p ∷ []) ≡ found k ps
found_still k p [] e = cc
found_still k p (q ∷ ps) e =
    let more : is_some (found k ps) ≡ true → found k (ps ++ p ∷ []) ≡ found k ps = found_still k p ps in grind arith

kept_still : (b c : Bool) (k : ℕ) (p : Program) (s : Programs) → is_some (found k s.stored) ≡ true
    → found k (cond b (record { stored = cond c (s.stored ++ p ∷ []) s.stored; entry = None }) s).stored ≡ found k s.stored
kept_still true true k p s e = found_still k p s.stored e
kept_still true false k p s e = refl
kept_still false c k p s e = refl

pub closed_still : (o : Option Program) (n k : ℕ) (s : Programs) → is_some (found k s.stored) ≡ true
    → found k (closed_from o n s).stored ≡ found k s.stored
closed_still None n k s e = refl
closed_still (Some p) n k s e = kept_still (eqb p.number n) (closable p.blocks) k p s e

-- a program of another number than the one that is deleted
pub other_number : (n : ℕ) (o : Option Course) (c : Course) → is_of n o ≡ false → o ≡ Some c → c.program ≢ n
other_number n None c f e = cc
other_number n (Some d) c f e = λ i. grind arith

-- a program that no axis uses is used by none of them
pub no_axis : (w : Which) (n : ℕ) (s : Machine) → in_use n s ≡ false → uses_in n (axis_at w s) ≡ false
no_axis first n s e = grind arith
no_axis second n s e = grind arith
no_axis third n s e = grind arith

deletion_fine : (b c : Bool) (n : ℕ) (s : Machine) → in_use n s ≡ c → EachFine s
    → EachFine (cond b (cond c s (with_programs (deleted n s.programs) s)) s)
deletion_fine true true n s e u = u
deletion_fine true false n s e u =
    programs_fine (deleted n s.programs) s
    (λ w c o i.
    changes.deleting_keeps n c.program s.programs
    (other_number n (course_of (axis_at w s).status.work.phase) c (no_axis w n s e) o))
    u
deletion_fine false c n s e u = u

-- THE PROGRAMS OF A RUN are those of a store after calls, and go on after every block that does not end them

some_first : (front : List Block) (last : Block) → is_some (block_at (front ++ last ∷ []) 0) ≡ true
some_first [] last = refl
some_first (b ∷ front) last = grind arith

-- the first block
head_at : (b : Block) (bs : List Block) → block_at (b ∷ bs) 0 ≡ Some b
head_at b bs = grind arith

-- the blocks after it
tail_at : (b : Block) (bs : List Block) (k : ℕ) → block_at (b ∷ bs) (suc k) ≡ block_at bs k
tail_at b bs k = grind arith

none_at : (k : ℕ) → block_at [] k ≡ None
none_at k = grind arith

-- a block is the last just where it ends the program
last_ends : (front : List Block) (last : Block) (k : ℕ) (b : Block) → ends last ≡ true
    → ((a : List Block) (d : Block) (c : List Block) → front ≡ a ++ d ∷ c → ends d ≡ false) → block_at (front ++ last ∷ []) k ≡ Some b
    → is_some (block_at (front ++ last ∷ []) (suc k)) ≡ not (ends b)
last_ends [] last zero b l f e =
    ap is_some (tail_at last [] 0 ∙ none_at 0) ∙ ap not (sym l ∙ ap ends (same_Some last b e))
last_ends [] last (suc k) b l f e =
    let none = none_at k in
    let tail = tail_at last [] k in
    cc
last_ends (x ∷ front) last zero b l f e =
    ap is_some (tail_at x (front ++ last ∷ []) 0) ∙ some_first front last
    ∙ ap not (sym (f [] x front refl) ∙ ap ends (same_Some x b (sym (head_at x (front ++ last ∷ [])) ∙ e)))
last_ends (x ∷ front) last (suc k) b l f e =
    ap is_some (tail_at x (front ++ last ∷ []) (suc k))
    ∙ last_ends front last k b l (λ a d c i. f (x ∷ a) d c (ap (λ (bs : List Block). x ∷ bs) i)) (sym (tail_at x (front ++ last ∷ []) k) ∙ e)

once_goes_on : (bs : List Block) → EndsOnce bs → GoesOn bs
once_goes_on bs o =
    let last = o.1 in
    subst GoesOn (sym o.2) (some_first o.0 last, λ k b e. rw add-one (last_ends o.0 last k b o.3 o.4 e))

-- the programs are those of a new store after these calls
abbrev InRun : Machine → Type 0
InRun s = (cs : List StoreCall) × (s.programs ≡ stored.after cs)

all_go_on : (s : Machine) → InRun s → AllGoOn s.programs
all_go_on s r n q e =
    once_goes_on q.blocks ((runs r.0).ends_once n q (sym (ap (λ (p : Programs). found n p.stored) r.1) ∙ e))

one_call : (c : StoreCall) (s : Machine) (q : Programs) → q ≡ stored.step c s.programs → InRun s → InRun (with_programs q s)
one_call c s q e r = (
  r.0 ++ c ∷ [],
  e ∙ ap (stored.step c) r.1 ∙ sym (run_append r.0 (c ∷ []) empty),
)

deletion_in_run : (b c : Bool) (n : ℕ) (s : Machine) → InRun s
    → InRun (cond b (cond c s (with_programs (deleted n s.programs) s)) s)
deletion_in_run true true n s r = r
deletion_in_run true false n s r = one_call (deleting n) s (deleted n s.programs) refl r
deletion_in_run false c n s r = r

step_in_run : (c : Call) (s : Machine) → InRun s → InRun (step c s)
step_in_run (OnAxis axis act) s r = r
step_in_run (Open n m) s r = one_call (opening n m) s (opened n m s.programs) refl r
step_in_run (Add n line) s r = one_call (adding n line.now) s (added n line.now s.programs) refl r
step_in_run (Close n) s r = one_call (closing n) s (closed n s.programs) refl r
step_in_run (Abandon n) s r = one_call (abandoning n) s (abandoned n s.programs) refl r
step_in_run (DeleteProgram n) s r = deletion_in_run (is_some (found n s.programs.stored)) (in_use n s) n s r

-- THE STEP

-- an act of an axis, if there is one
left_fine : (o : Option one.Act) (p : Programs) (a : AxisState) → AllGoOn p → Fine p a.status.work.phase
    → Fine p (left_by o p a).status.work.phase
left_fine None p a g u = u
left_fine (Some act) p a g u = (act_stored act p a u.0, act_next act p a g u.1)

axis_fine : (w : Which) (c : Call) (s : Machine) → InRun s → EachFine s
    → Fine s.programs (axis_at w (step c s)).status.work.phase
axis_fine w c s r u =
    subst (λ (a : AxisState). Fine s.programs a.status.work.phase) (sym (step_at w c s))
    (left_fine (act_on w c) s.programs (axis_at w s) (all_go_on s r) (u w))

step_fine : (c : Call) (s : Machine) → InRun s → EachFine s → EachFine (step c s)
step_fine (OnAxis axis act) s r u = λ w. axis_fine w (OnAxis axis act) s r u
step_fine (Open n m) s r u = same_fine (opened n m s.programs) s (changes.opening_keeps n m s.programs) u
step_fine (Add n line) s r u = same_fine (added n line.now s.programs) s (changes.adding_keeps n line.now s.programs) u
step_fine (Close n) s r u =
    programs_fine (closed n s.programs) s (λ w c o. closed_still s.programs.entry n c.program s.programs) u
step_fine (Abandon n) s r u = same_fine (abandoned n s.programs) s (changes.abandoning_keeps n s.programs) u
step_fine (DeleteProgram n) s r u = deletion_fine (is_some (found n s.programs.stored)) (in_use n s) n s refl u

after_fine : (cs : List Call) (s : Machine) → InRun s → EachFine s → EachFine (after s cs)
after_fine [] s r u = u
after_fine (c ∷ cs) s r u = after_fine cs (step c s) (step_in_run c s r) (step_fine c s r u)

-- THE REPLY

-- 17 is one fault alone
held_number : (c : Cause) → cause_number c ≡ 17 → c ≡ HeldNotStored
held_number c e = grind arith

at_axis_other : (n : ℕ) (r : Result (Unit {0}) AxisFault) → Other r → OtherThan 17 (at_axis n (done_or r))
at_axis_other n (Ok u) h = tt
at_axis_other n (Err f) h = λ e. h (held_number f.cause e)

axis_other : (act : Act) (n : ℕ) (p : Programs) (a : AxisState) → Such (InStore p) (course_of a.status.work.phase)
    → OtherThan 17 (at_axis n (answered act p a))
axis_other (Enter d) n p a u = at_axis_other n _ (act_other (one.entering d) p a u)
axis_other Delete n p a u = at_axis_other n _ (act_other one.deleting p a u)
axis_other (Order o) n p a u = at_axis_other n _ (act_other (one.ordering o) p a u)
axis_other (Level l) n p a u = tt
axis_other Tick n p a u = at_axis_other n _ (act_other one.ticking p a u)
axis_other Observe n p a u = tt

named_other : (b : Bool) (r t : Reply) → OtherThan 17 r → OtherThan 17 t → OtherThan 17 (cond b r t)
named_other true r t h k = h
named_other false r t h k = k

store_number : (e : StoreFault) → store.number_of e ≢ 17
store_number e = λ i. grind arith

at_store_other : (r : Result (Unit {0}) StoreFault) → OtherThan 17 (at_store r)
at_store_other (Ok u) = tt
at_store_other (Err e) = store_number e

deletion_other : (b c : Bool) (n : ℕ) → OtherThan 17 (cond b (cond c (refused (InUse n)) done) (refused (OfStore (NotStored n))))
deletion_other true true n = λ e. omega (arith, e)
deletion_other true false n = tt
deletion_other false c n = λ e. omega (arith, e)

reply_other : (c : Call) (s : Machine) → EachFine s → OtherThan 17 (reply c s)
reply_other (OnAxis axis act) s u =
    named_other (eqb axis 1) _ _ (axis_other act 1 s.programs s.first (u first).0)
    (named_other (eqb axis 2) _ _ (axis_other act 2 s.programs s.second (u second).0)
    (named_other (eqb axis 3) _ _ (axis_other act 3 s.programs s.third (u third).0) (λ e. omega (arith, e))))
reply_other (Open n m) s u = at_store_other _
reply_other (Add n line) s u = at_store_other _
reply_other (Close n) s u = at_store_other _
reply_other (Abandon n) s u = at_store_other _
reply_other (DeleteProgram n) s u = deletion_other (is_some (found n s.programs.stored)) (in_use n s) n

replies_other : (cs : List Call) (s : Machine) → InRun s → EachFine s → AllByRecursion (OtherThan 17) (replies s cs)
replies_other [] s r u = tt
replies_other (c ∷ cs) s r u = (reply_other c s u, replies_other cs (step c s) (step_in_run c s r) (step_fine c s r u))

-- THE RUN

of_axis : (n : ℕ) (o : Option Course) (p : Programs) → Such (InStore p) o → is_of n o ≡ true
    → is_some (found n p.stored) ≡ true
of_axis n None p u e = cc
of_axis n (Some c) p u e = subst (λ (k : ℕ). is_some (found k p.stored) ≡ true) (eqb-true c.program n e) u

one_of : {A : Type 0} (b c d : Bool) → (b ≡ true → A) → (c ≡ true → A) → (d ≡ true → A) → (b || (c || d)) ≡ true → A
one_of true c d f g h e = f refl
one_of false true d f g h e = g refl
one_of false false d f g h e = h e

in_use_stored : (s : Machine) → EachFine s → InUseStored s
in_use_stored s u n e =
    one_of (uses_in n s.first) (uses_in n s.second) (uses_in n s.third) (of_axis n _ s.programs (u first).0)
    (of_axis n _ s.programs (u second).0) (of_axis n _ s.programs (u third).0) e

-- the program of a phase has its next block
such_at : (P : Course → Type 0) (o : Option Course) (c : Course) → Such P o → o ≡ Some c → P c
such_at P o c u e = subst (Such P) e u

next_in : (p : Programs) (ph : Phase) (c : Course) → NextIn p ph → course_of ph ≡ Some c
    → is_some (next_block p c) ≡ not (amid_block ph && ends_by c.auxiliary)
next_in p standing c u e = cc
next_in p (moving t) c u e = such_at (NextUnlessEnded p) t.course c u e
next_in p (braking t) c u e = such_at (NextUnlessEnded p) t.course c u e
next_in p (held d (Some target)) c u e = such_at (NextUnlessEnded p) (Some d) c u e
next_in p (held d None) c u e = (such_at (HasNext p) (Some d) c u e).0
next_in p (between d) c u e = (such_at (HasNext p) (Some d) c u e).0

program_next : (s : Machine) → EachFine s → ProgramHasNext s
program_next s u w c e = next_in s.programs (axis_at w s).status.work.phase c (u w).1 e

-- a new module uses no program
new_fine : (x y z : Meaning) → EachFine (new_machine x y z)
new_fine x y z first = (tt, tt)
new_fine x y z second = (tt, tt)
new_fine x y z third = (tt, tt)

pub programs_in_use : (x y z : Meaning) (calls : List Call) → ProgramsInUse x y z calls
programs_in_use x y z calls =
    let s = new_machine x y z in
    let r : InRun s = ([], refl) in
    let u = after_fine calls s r (new_fine x y z) in
    record {
      stored = in_use_stored (after s calls) u;
      next = program_next (after s calls) u;
      never_17 = replies_other calls s r (new_fine x y z);
    }
