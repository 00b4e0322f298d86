-- Taking the next block of a program keeps what an axis keeps.
use Rattle.std.proofs.Common.{◌≡◌, ℤ, Some, None, Ok, Err, Option, Result, refl, arith}
use Rattle.reader.specs.declared.block.Block.{Block}
use Rattle.drives.specs.Meaning.{Meaning}
use Rattle.motion.specs.declared.raw.RawData.{RawData}
use Rattle.states.specs.declared.aim.Aim.{Aim}
use Rattle.states.specs.declared.fault.Cause.{Cause}
use Rattle.states.specs.State.{Course, between, Work}
use Rattle.states.specs.Courses.{course_rate}
use Rattle.ticks.specs.Blocks.{with_words, block_target, block_verdict, begun_with, block_run, next_run}
use Rattle.laws.specs.Kept.{KeptWith, KeptBy}
use Rattle.laws.proofs.Doing.{doing_keeps}
use Rattle.laws.proofs.NewMove.{new_move, attains}

module _ (d : RawData) (m : Meaning) (w : Work) (k : KeptWith d m w) where
  -- a block with X, accepted or refused
  begun_keeps : (v : Result Aim Cause) (c : Course) (x : ℤ) → block_verdict (Some d) c x m w ≡ v
      → KeptWith d m (begun_with v (Some d) c w)
  begun_keeps (Ok aim) c x e =
      let rate = course_rate d c in
      let target = block_target d c x w in
      let a = attains d rate target m w.zero w.referenced aim e in
      doing_keeps d m w k (rw (← a.1) (new_move d m w rate target (Some c) k a.0))
  begun_keeps (Err cause) c x e = doing_keeps d m w k tt

  -- a block with or without X
  block_keeps : (x : Option ℤ) (c : Course) → KeptWith d m (block_run x c m (Some d) w)
  block_keeps None c = doing_keeps d m w k (grind arith)
  block_keeps (Some x) c = begun_keeps (block_verdict (Some d) c x m w) c x refl

  next_keeps : (b : Option Block) (c : Course) → KeptWith d m (next_run b c m (Some d) w)
  next_keeps None c = doing_keeps d m w k tt
  next_keeps (Some b) c = block_keeps b.target (with_words b c)

-- without machine data no program runs
pub take_keeps : (o : Option RawData) (b : Option Block) (c : Course) (m : Meaning) (w : Work) → w.phase ≡ between c
    → KeptBy o m w → KeptBy o m (next_run b c m o w)
take_keeps None b c m w e k = cc
take_keeps (Some d) b c m w e k = next_keeps d m w k b c
