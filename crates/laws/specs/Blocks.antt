-- The blocks that an axis takes of its programs, over every run of acts on a new axis: the M number that they show, and where
-- the move of a block goes.
use Rattle.std.specs.Prelude.{◌≡◌, ℕ, cond, List, [], ◌∷◌, ◌++◌, Some, None, Option}
use Rattle.std.specs.Option.{unwrap_or, option_or}
use Rattle.reader.specs.declared.block.Block.{Block}
use Rattle.drives.specs.Meaning.{Meaning, Sound}
use Rattle.store.specs.Programs.{Programs}
use Rattle.states.specs.State.{Course, Travel, Phase, standing, moving, braking, held, between, AxisState}
use Rattle.states.specs.declared.fault.AxisFault.{AxisFault}
use Rattle.states.specs.Observation.{Shown, observed}
use Rattle.orders.specs.Modes.{runs_programs}
use Rattle.orders.specs.Orders.{names_program}
use Rattle.ticks.specs.Blocks.{next_block}
use Rattle.ticks.specs.Ticks.{tick_step}
use Rattle.laws.specs.Acts.{Act, entering, deleting, ordering, levelling, ticking, Event, step, new_axis, after}
use Rattle.laws.specs.Laws.{is_accepted}

-- THE BLOCKS TAKEN

-- the block that comes, if the axis is between two blocks
abbrev pub block_to_come : Phase → Programs → Option Block
block_to_come standing p = None
block_to_come (moving t) p = None
block_to_come (braking t) p = None
block_to_come (held c u) p = None
block_to_come (between c) p = next_block p c

abbrev pub with_block : Option Block → List Block → List Block
with_block None bs = bs
with_block (Some b) bs = bs ++ b ∷ []

-- after an accepted act: an order that starts a program begins the list anew, a tick takes the block that comes
abbrev pub taken_after : Act → Programs → Phase → List Block → List Block
taken_after (entering d) p ph bs = bs
taken_after deleting p ph bs = bs
taken_after (ordering o) p ph bs = cond (names_program o) [] bs
taken_after (levelling begin end ready) p ph bs = bs
taken_after ticking p ph bs = with_block (block_to_come ph p) bs

-- a refused act takes none
abbrev pub taken_next : Event → AxisState → List Block → List Block
taken_next e a bs = cond (is_accepted e a) (taken_after e.act e.programs a.status.work.phase bs) bs

-- the blocks that the ticks of a run took since the last accepted start, in order
abbrev pub blocks_taken : AxisState → List Event → List Block → List Block
blocks_taken a [] bs = bs
blocks_taken a (e ∷ es) bs = blocks_taken (step e a) es (taken_next e a bs)

-- THE M NUMBER

-- the M of the last block that has one
abbrev pub last_m : List Block → Option ℕ
last_m [] = None
last_m (b ∷ bs) = option_or (last_m bs) b.auxiliary

-- in modes 8 and 9 the M of the last block taken that has one, 2 before; in all other modes 2
abbrev pub shown_m : ℕ → List Block → ℕ
shown_m mode bs = cond (runs_programs mode) (unwrap_or (last_m bs) 2) 2

abbrev pub ShowsM : Shown AxisFault → List Block → Type 0
ShowsM o bs = o.auxiliary ≡ shown_m o.mode bs

abbrev pub MNumber : Type 0
MNumber = (m : Meaning) → Sound m → (es : List Event) → ShowsM (observed (after (new_axis m) es).status) (blocks_taken (new_axis m) es [])

-- THE TAKE-OVER

-- the move under way, braked or not
abbrev pub move_of : Phase → Option Travel
move_of standing = None
move_of (moving t) = Some t
move_of (braking t) = Some t
move_of (held c u) = None
move_of (between c) = None

-- a tick begins the move t of a block; in what follows, until a further block is taken, a move u of a program is that block's:
-- however often it was stopped and taken over, it goes to the target of t, at the rate of t
abbrev pub TakeOver : Type 0
TakeOver = (a : AxisState) (p : Programs) (c d : Course) (t u : Travel) (later : List Event)
    → a.status.work.phase ≡ between c → (tick_step p a).status.work.phase ≡ moving t
    → blocks_taken (tick_step p a) later [] ≡ []
    → move_of (after (tick_step p a) later).status.work.phase ≡ Some u → u.course ≡ Some d
    → (u.target ≡ t.target) × (u.going.rate ≡ t.going.rate)
