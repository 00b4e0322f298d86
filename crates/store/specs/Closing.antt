-- When the blocks of an entry may be closed.
use Rattle.std.specs.Prelude.{ℕ, Bool, true, false, cond, not, ◌&&◌, ◌||◌, List, [], ◌∷◌, is_some, None, Option}
use Rattle.std.specs.Option.{unwrap_or, option_or}
use Rattle.reader.specs.declared.block.Motion.{Motion}
use Rattle.reader.specs.declared.block.Motion.TheVariants.{Rapid, Feed}
use Rattle.reader.specs.declared.block.Block.{Block}
use Rattle.reader.specs.Words.{ends_by}

-- M02 and M30 end a program
abbrev pub ends : Block → Bool
ends b = ends_by b.auxiliary

-- an X under G01 wants a feed
abbrev pub fed : Motion → Bool → Bool → Bool
fed Rapid x f = true
fed Feed x f = not x || f

-- a block that ends the program just where it is the last one, with the motion group and the feed that hold in it
abbrev pub fits_at : Bool → Motion → Option ℕ → Block → Bool
fits_at last g f b = cond (ends b) last (not last) && fed g (is_some b.target) (is_some f)

abbrev pub is_empty : List Block → Bool
is_empty [] = true
is_empty (b ∷ bs) = false

-- the motion group and the feed that hold in a block are its own words, else those before
abbrev pub each_fits : Motion → Option ℕ → List Block → Bool
each_fits g f [] = true
each_fits g f (b ∷ bs) = fits_at (is_empty bs) (unwrap_or b.motion g) (option_or b.feed f) b && each_fits (unwrap_or b.motion g) (option_or b.feed f) bs

-- a program opens with G00 and without a feed
abbrev pub closable : List Block → Bool
closable bs = not (is_empty bs) && each_fits Rapid None bs
