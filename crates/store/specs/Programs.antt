-- What a store holds: the stored programs, in the order of their closing, and the open entry.
use Rattle.std.specs.Prelude.{◌≡◌, ℕ, ◌<◌, cond, List, [], ◌∷◌, ◌++◌, length, Some, None, Ok, Err, remove, Option, Result, ◌==◌, nat_lt, slice_index_or, slice_get}
use Rattle.units.specs.declared.Measure.{Measure}
use Rattle.reader.specs.declared.block.Block.{Block}
use Rattle.reader.specs.declared.fault.LineFault.{LineFault}
use Rattle.reader.specs.Questions.{verdict}
use Rattle.reader.specs.Questions as reading
use Rattle.store.specs.declared.fault.StoreFault.{StoreFault}
use Rattle.store.specs.declared.fault.StoreFault.TheVariants.{Line}

pub record Program : Type 0 where
  pub number : ℕ
  pub measure : Measure
  pub blocks : List Block

pub record Programs : Type 0 where
  pub stored : List Program
  pub entry : Option Program

abbrev pub empty : Programs
empty = record { stored = []; entry = None }

-- a program at its opening
abbrev pub begun : ℕ → Measure → Program
begun n m = record { number = n; measure = m; blocks = [] }

-- the program of a number, and the programs without it
abbrev pub found : ℕ → List Program → Option Program
found n [] = None
found n (p ∷ ps) = cond (p.number == n) (Some p) (found n ps)

abbrev pub without : ℕ → List Program → List Program
without n [] = []
without n (p ∷ ps) = cond (p.number == n) ps (p ∷ without n ps)

-- where the program of a number stands, and what its removal leaves
abbrev pub Placed : ℕ → List Program → Option ℕ → Type 0
Placed n ps None = (found n ps ≡ None) × (without n ps ≡ ps)
Placed n ps (Some i) = (i < length ps) × (found n ps ≡ slice_get ps i) × (without n ps ≡ remove ps i)

abbrev pub block_at : List Block → ℕ → Option Block
block_at bs k = cond (nat_lt k (length bs)) (Some (slice_index_or bs k reading.empty)) None

abbrev pub measure_in : Option Program → Option Measure
measure_in None = None
measure_in (Some p) = Some p.measure

abbrev pub block_in : Option Program → ℕ → Option Block
block_in None k = None
block_in (Some p) k = block_at p.blocks k

-- what a line says to a program
unfoldable pub read : Program → List ℕ → Result (Option Block) LineFault
read p line = verdict p.measure (length p.blocks) line

abbrev pub joined_to : Result (Option Block) LineFault → Program → Program
joined_to (Ok None) p = p
joined_to (Ok (Some b)) p = record { number = p.number; measure = p.measure; blocks = p.blocks ++ b ∷ [] }
joined_to (Err e) p = p

abbrev pub line_reply : Result (Option Block) LineFault → Result (Unit {0}) StoreFault
line_reply (Ok o) = Ok tt
line_reply (Err e) = Err (Line e)
