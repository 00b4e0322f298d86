-- Which blocks an axis takes of its program, over every run of calls on a new module.
use Rattle.std.specs.Prelude.{◌≡◌, List, [], ◌∷◌, ◌++◌, length, Some, None, Option}
use Rattle.reader.specs.declared.block.Block.{Block}
use Rattle.store.specs.Programs.{Program, Programs, found, block_at}
use Rattle.states.specs.State.{Course, AxisState, course_of}
use Rattle.states.specs.Observation.{observed}
use Rattle.ticks.specs.Blocks.{next_block}
use Rattle.laws.specs.Acts as one
use Rattle.laws.specs.Blocks.{taken_next, ShowsM}
use Rattle.module.specs.declared.call.Call.{Call}
use Rattle.module.specs.State.{Machine}
use Rattle.module.specs.Machine.{step}
use Rattle.module.specs.History.{Which, axis_at, act_on}

-- the blocks taken after a call, by what it asks of the axis
abbrev pub taken_by : Option one.Act → Programs → AxisState → List Block → List Block
taken_by None p a bs = bs
taken_by (Some act) p a bs = taken_next (record { act = act; programs = p }) a bs

-- the blocks that an axis took in a list of calls since the last accepted start, in order
abbrev pub blocks_in : Which → Machine → List Call → List Block → List Block
blocks_in w s [] bs = bs
blocks_in w s (c ∷ cs) bs = blocks_in w (step c s) cs (taken_by (act_on w c) s.programs (axis_at w s) bs)

-- the blocks taken are the first of a stored program, each once; the next that is taken is the first of those left
pub record InOrder (p : Programs) (c : Course) (bs : List Block) : Type 0 where
  pub program : Program
  pub left : List Block
  pub stored : found c.program p.stored ≡ Some program
  pub order : program.blocks ≡ bs ++ left
  pub count : c.taken ≡ length bs
  pub next : next_block p c ≡ block_at left 0

-- so it is with the program that an axis runs or holds
abbrev pub BlocksInOrder : Which → Machine → List Block → Type 0
BlocksInOrder w s bs = (c : Course) → course_of (axis_at w s).status.work.phase ≡ Some c → InOrder s.programs c bs

-- and the M number shown is that of the blocks taken
pub record ProgramBlocks (w : Which) (s : Machine) (bs : List Block) : Type 0 where
  pub order : BlocksInOrder w s bs
  pub m_number : ShowsM (observed (axis_at w s).status) bs
