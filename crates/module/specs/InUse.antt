-- Programs in use, over every run of calls on a new module.
use Rattle.std.specs.Prelude.{◌≡◌, ◌≢◌, ℕ, Bool, true, false, not, ◌&&◌, List, is_some, Some}
use Rattle.std.specs.List.{AllByRecursion}
use Rattle.drives.specs.Meaning.{Meaning}
use Rattle.reader.specs.Words.{ends_by}
use Rattle.store.specs.Programs.{found}
use Rattle.states.specs.State.{Course, Phase, standing, moving, braking, held, between, course_of}
use Rattle.ticks.specs.Blocks.{next_block}
use Rattle.module.specs.declared.call.Call.{Call}
use Rattle.module.specs.Faults.{number_of}
use Rattle.module.specs.State.{Machine}
use Rattle.module.specs.History.{Which, axis_at}
use Rattle.module.specs.Machine.{Reply, done, shown, refused, in_use, new_machine, after, replies}

-- a program that an axis runs or holds is stored
abbrev pub InUseStored : Machine → Type 0
InUseStored s = (n : ℕ) → in_use n s ≡ true → is_some (found n s.programs.stored) ≡ true

-- a block is under way while it moves, and while its program is held with the target not reached
abbrev pub amid_block : Phase → Bool
amid_block standing = false
amid_block (moving t) = true
amid_block (braking t) = true
amid_block (held c u) = is_some u
amid_block (between c) = false

-- a program that runs or is held has a next block, unless the block under way ends it; so a block with M02 or M30 that is
-- done leaves no program
abbrev pub ProgramHasNext : Machine → Type 0
ProgramHasNext s = (w : Which) (c : Course) → course_of (axis_at w s).status.work.phase ≡ Some c
    → is_some (next_block s.programs c) ≡ not (amid_block (axis_at w s).status.work.phase && ends_by c.auxiliary)

-- a reply is not the fault of this number
abbrev pub OtherThan : ℕ → Reply → Type 0
OtherThan n done = Unit {0}
OtherThan n (shown o) = Unit {0}
OtherThan n (refused f) = number_of f ≢ n

-- after the calls every program in use is stored and has its next block; and none of them was answered 17
pub record ProgramsInUse (x y z : Meaning) (calls : List Call) : Type 0 where
  pub stored : InUseStored (after (new_machine x y z) calls)
  pub next : ProgramHasNext (after (new_machine x y z) calls)
  pub never_17 : AllByRecursion (OtherThan 17) (replies (new_machine x y z) calls)
