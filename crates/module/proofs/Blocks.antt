-- An axis takes the blocks of its program in their order, each once, through every run of calls.
use Rattle.std.proofs.Common.{◌≡◌, ℕ, ◌+◌, Bool, true, false, cond, List, [], ◌∷◌, ◌++◌, length, is_some, Some, None, Option, refl, sym, ap, ◌∙◌, subst, arith}
use Rattle.std.proofs.lemmas.List.{append_assoc, length-append}
use Rattle.drives.specs.Meaning.{Meaning, Sound}
use Rattle.reader.specs.declared.block.Block.{Block}
use Rattle.store.specs.Programs.{Program, Programs, found, block_at, block_in}
use Rattle.store.specs.Entry.{deleted}
use Rattle.store.proofs.Laws.{changes}
use Rattle.states.specs.State.{Course, AxisState, course_of}
use Rattle.states.specs.Observation.{observed}
use Rattle.ticks.specs.Blocks.{with_words, next_block}
use Rattle.laws.specs.Acts as one
use Rattle.laws.specs.Blocks.{taken_next, blocks_taken, ShowsM}
use Rattle.laws.proofs.MNumber.{m_number}
use Rattle.laws.proofs.InUse.{Such}
use Rattle.laws.proofs.Takes.{SameIn, act_takes}
use Rattle.module.specs.declared.call.Call.{Call}
use Rattle.module.specs.declared.call.Call.TheVariants.{OnAxis, Open, Add, Close, Abandon, DeleteProgram}
use Rattle.module.specs.State.{Machine}
use Rattle.module.specs.Machine.{in_use, with_programs, step, new_machine, after}
use Rattle.module.specs.History.{Which, first, second, third, axis_at, act_on}
use Rattle.module.specs.Blocks.{taken_by, blocks_in, InOrder, BlocksInOrder, ProgramBlocks}
use Rattle.module.proofs.Axes.{left_by, step_at, one_more as with_event, events, after_at}
use Rattle.module.proofs.InUse.{SameFor, closed_still, no_axis, other_number}

-- the blocks taken are the first of the stored program, as many as it counts
abbrev pub Front : Programs → List Block → Course → Type 0
Front p bs c =
    (q : Program) × (left : List Block) × (found c.program p.stored ≡ Some q) × (q.blocks ≡ bs ++ left) × (c.taken ≡ length bs)

-- A LIST

-- the block after the first ones is the first of those left
at_seam : (bs left : List Block) → block_at (bs ++ left) (length bs) ≡ block_at left 0
at_seam [] left = refl
at_seam (b ∷ bs) left =
    let more : block_at (bs ++ left) (length bs) ≡ block_at left 0 = at_seam bs left in grind arith

-- which is the first of a list that has one
first_left : (left : List Block) (b : Block) → block_at left 0 ≡ Some b → (rest : List Block) × (left ≡ b ∷ rest)
first_left [] b e = cc
first_left (x ∷ left) b e = let same : x ≡ b = grind arith in (left, ap (λ (y : Block). y ∷ left) same)

-- by the blocks taken so far the next block is the first of those left
next_left : (p : Programs) (bs : List Block) (c : Course) (q : Program) (left : List Block) → found c.program p.stored ≡ Some q
    → q.blocks ≡ bs ++ left → c.taken ≡ length bs → next_block p c ≡ block_at left 0
next_left p bs c q left e f n =
    ap (λ (o : Option Program). block_in o c.taken) e ∙ ap (block_at q.blocks) n
    ∙ ap (λ (l : List Block). block_at l (length bs)) f ∙ at_seam bs left

-- with that block they are one more
one_more : (p : Programs) (bs : List Block) (c : Course) (b : Block) → next_block p c ≡ Some b → Front p bs c
    → Front p (bs ++ b ∷ []) (with_words b c)
one_more p bs c b e u =
    let q = u.0 in
    let left = u.1 in
    let rest = first_left left b (sym (next_left p bs c q left u.2 u.3 u.4) ∙ e) in (
      q,
      rest.0,
      u.2,
      u.3 ∙ ap (λ (l : List Block). bs ++ l) rest.1 ∙ sym (append_assoc bs (b ∷ []) rest.0),
      ap (λ (n : ℕ). n + 1) u.4 ∙ sym (length-append bs (b ∷ [])),
    )

-- AN ACT

-- the program in use is the one that takes a block, or the one of before
such_one : (P : Course → Type 0) (d : Course) (o : Option Course) → P d → Such (λ c. c ≡ d) o → Such P o
such_one P d None u e = tt
such_one P d (Some c) u e = subst P (sym e) u

such_same : (P : Course → Type 0) (k o : Option Course) → Such P k → SameIn k o → Such P o
such_same P k None u e = tt
such_same P k (Some c) u e = subst (Such P) e u

-- one that begins has taken none
begins : (p : Programs) (n : ℕ) (o : Option Program) → found n p.stored ≡ o → is_some o ≡ true
    → (q : Program) × (left : List Block) × (found n p.stored ≡ Some q) × (q.blocks ≡ [] ++ left) × (0 ≡ length {A = Block} [])
begins p n None e s = cc
begins p n (Some q) e s = (q, q.blocks, e, refl, refl)

act_front : (act : one.Act) (p : Programs) (a : AxisState) (bs : List Block) → Such (Front p bs) (course_of a.status.work.phase)
    → Such (Front p (taken_next (record { act = act; programs = p }) a bs)) (course_of (one.act_step act p a).status.work.phase)
act_front act p a bs u =
    act_takes p a bs (λ ds v. Such (Front p ds) (course_of v.phase))
    (λ n v s i e. rw e (begins p n (found n p.stored) refl s))
    (λ c b v e i m x s.
    let now : Front p bs c = subst (Such (Front p bs)) (ap course_of e) u in
    such_one (Front p (bs ++ b ∷ [])) (with_words b c) (course_of v.phase) (one_more p bs c b i now) s)
    (λ v m s. such_same (Front p bs) (course_of a.status.work.phase) (course_of v.phase) u s) act

left_front : (o : Option one.Act) (p : Programs) (a : AxisState) (bs : List Block)
    → Such (Front p bs) (course_of a.status.work.phase)
    → Such (Front p (taken_by o p a bs)) (course_of (left_by o p a).status.work.phase)
left_front None p a bs u = u
left_front (Some act) p a bs u = act_front act p a bs u

-- A CALL

-- other programs, among which the one in use is the same
front_still : (p q : Programs) (o : Option Course) (bs : List Block) → SameFor o p q → Such (Front p bs) o → Such (Front q bs) o
front_still p q None bs h u = tt
front_still p q (Some c) bs h u = (u.0, u.1, h c refl (ap is_some u.2) ∙ u.2, u.3, u.4)

-- a deletion takes no program in use
deletion_same : (b c : Bool) (w : Which) (n : ℕ) (s : Machine) → in_use n s ≡ c
    → SameFor (course_of (axis_at w s).status.work.phase) s.programs (cond b (cond c s (with_programs (deleted n s.programs) s)) s).programs
deletion_same true true w n s e = λ c o i. refl
deletion_same true false w n s e =
    λ c o i.
    changes.deleting_keeps n c.program s.programs (other_number n (course_of (axis_at w s).status.work.phase) c (no_axis w n s e) o)
deletion_same false c w n s e = λ d o i. refl

-- nor does any other call
call_same : (w : Which) (c : Call) (s : Machine)
    → SameFor (course_of (axis_at w (step c s)).status.work.phase) s.programs (step c s).programs
call_same w (OnAxis axis act) s = λ k o i. refl
call_same w (Open n m) s = λ k o i. ap (found k.program) (changes.opening_keeps n m s.programs)
call_same w (Add n line) s = λ k o i. ap (found k.program) (changes.adding_keeps n line.now s.programs)
call_same w (Close n) s = λ k o. closed_still s.programs.entry n k.program s.programs
call_same w (Abandon n) s = λ k o i. ap (found k.program) (changes.abandoning_keeps n s.programs)
call_same w (DeleteProgram n) s =
    subst (λ (a : AxisState). SameFor (course_of a.status.work.phase) s.programs (step (DeleteProgram n) s).programs)
    (sym (step_at w (DeleteProgram n) s)) (deletion_same (is_some (found n s.programs.stored)) (in_use n s) w n s refl)

abbrev FrontAt : Which → Machine → List Block → Type 0
FrontAt w s bs = Such (Front s.programs bs) (course_of (axis_at w s).status.work.phase)

-- the axis does its act with the programs of before
step_front : (w : Which) (c : Call) (s : Machine) (bs : List Block) → FrontAt w s bs
    → FrontAt w (step c s) (taken_by (act_on w c) s.programs (axis_at w s) bs)
step_front w c s bs u =
    let ds = taken_by (act_on w c) s.programs (axis_at w s) bs in
    front_still s.programs (step c s).programs (course_of (axis_at w (step c s)).status.work.phase) ds (call_same w c s)
    (subst (λ (a : AxisState). Such (Front s.programs ds) (course_of a.status.work.phase)) (sym (step_at w c s))
    (left_front (act_on w c) s.programs (axis_at w s) bs u))

after_front : (w : Which) (cs : List Call) (s : Machine) (bs : List Block) → FrontAt w s bs
    → FrontAt w (after s cs) (blocks_in w s cs bs)
after_front w [] s bs u = u
after_front w (c ∷ cs) s bs u =
    after_front w cs (step c s) (taken_by (act_on w c) s.programs (axis_at w s) bs) (step_front w c s bs u)

-- THE RUN

-- a new module uses no program
new_front : (x y z : Meaning) (w : Which) → FrontAt w (new_machine x y z) []
new_front x y z first = tt
new_front x y z second = tt
new_front x y z third = tt

in_order : (p : Programs) (bs : List Block) (o : Option Course) (c : Course) → o ≡ Some c → Such (Front p bs) o → InOrder p c bs
in_order p bs o c e h =
    let u : Front p bs c = subst (Such (Front p bs)) e h in
    record {
      program = u.0;
      left = u.1;
      stored = u.2;
      order = u.3;
      count = u.4;
      next = next_left p bs c u.0 u.1 u.2 u.3 u.4;
    }

blocks_in_order : (x y z : Meaning) (calls : List Call) (w : Which)
    → BlocksInOrder w (after (new_machine x y z) calls) (blocks_in w (new_machine x y z) calls [])
blocks_in_order x y z calls w c e =
    let s = new_machine x y z in
    in_order (after s calls).programs (blocks_in w s calls []) _ c e (after_front w calls s [] (new_front x y z w))

-- THE M NUMBER

-- the blocks taken in a run of calls are those that the events of the axis take
taken_one : (o : Option one.Act) (p : Programs) (a : AxisState) (es : List one.Event) (bs : List Block)
    → blocks_taken (left_by o p a) es (taken_by o p a bs) ≡ blocks_taken a (with_event o p es) bs
taken_one None p a es bs = refl
taken_one (Some act) p a es bs = refl

taken_same : (w : Which) (cs : List Call) (s : Machine) (bs : List Block)
    → blocks_in w s cs bs ≡ blocks_taken (axis_at w s) (events w s cs) bs
taken_same w [] s bs = refl
taken_same w (c ∷ cs) s bs =
    let es = events w (step c s) cs in
    let ds = taken_by (act_on w c) s.programs (axis_at w s) bs in
    taken_same w cs (step c s) ds ∙ ap (λ (a : AxisState). blocks_taken a es ds) (step_at w c s)
    ∙ taken_one (act_on w c) s.programs (axis_at w s) es bs

m_number_of : (w : Which) (m : Meaning) → Sound m → (s : Machine) → axis_at w s ≡ one.new_axis m → (calls : List Call)
    → ShowsM (observed (axis_at w (after s calls)).status) (blocks_in w s calls [])
m_number_of w m sound s q calls =
    let es = events w s calls in
    rw (after_at w calls s, taken_same w calls s [])
    (subst (λ (a : AxisState). ShowsM (observed (one.after a es).status) (blocks_taken a es [])) (sym q) (m_number m sound es))

m_number_at : (x y z : Meaning) → Sound x → Sound y → Sound z → (calls : List Call) (w : Which)
    → ShowsM (observed (axis_at w (after (new_machine x y z) calls)).status) (blocks_in w (new_machine x y z) calls [])
m_number_at x y z sx sy sz calls first = m_number_of first x sx (new_machine x y z) refl calls
m_number_at x y z sx sy sz calls second = m_number_of second y sy (new_machine x y z) refl calls
m_number_at x y z sx sy sz calls third = m_number_of third z sz (new_machine x y z) refl calls

pub program_blocks : (x y z : Meaning) → Sound x → Sound y → Sound z → (calls : List Call) (w : Which)
    → ProgramBlocks w (after (new_machine x y z) calls) (blocks_in w (new_machine x y z) calls [])
program_blocks x y z sx sy sz calls w =
    record { order = blocks_in_order x y z calls w; m_number = m_number_at x y z sx sy sz calls w }
