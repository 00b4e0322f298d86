-- Laws over runs of calls of the store.
use Rattle.std.specs.Prelude.{◌≡◌, ℕ, ◌≤◌, true, false, cond, List, [], ◌∷◌, ◌++◌, length, is_some, Some, None, Ok, Err, Option, Result, ◌==◌, ◌≢◌}
use Rattle.std.specs.Option.{unwrap_or}
use Rattle.units.specs.declared.Measure.{Measure}
use Rattle.reader.specs.declared.block.Motion.{Motion}
use Rattle.reader.specs.declared.block.Motion.TheVariants.{Rapid, Feed}
use Rattle.reader.specs.declared.block.Block.{Block}
use Rattle.reader.specs.declared.fault.LineFault.{LineFault}
use Rattle.reader.specs.declared.fault.LineFault.TheVariants.{ProgramFull}
use Rattle.store.specs.declared.fault.StoreFault.TheVariants.{StoreFull, Line, NotClosable}
use Rattle.store.specs.Programs.{Program, Programs, empty, found, read}
use Rattle.store.specs.Closing.{ends}
use Rattle.store.specs.Entry.{open_reply, opened, open_one, add_reply, added, close_reply, closed, abandoned, deleted}

-- a call, by what the host names
pub data Call : Type 0 where
  opening : ℕ → Measure → Call
  adding : ℕ → List ℕ → Call
  closing : ℕ → Call
  abandoning : ℕ → Call
  deleting : ℕ → Call

abbrev pub step : Call → Programs → Programs
step (opening n m) s = opened n m s
step (adding n line) s = added n line s
step (closing n) s = closed n s
step (abandoning n) s = abandoned n s
step (deleting n) s = deleted n s

abbrev pub run : List Call → Programs → Programs
run [] s = s
run (c ∷ cs) s = run cs (step c s)

-- a new store after these calls
abbrev pub after : List Call → Programs
after cs = run cs empty

-- the block of a line that is accepted
abbrev pub said : Result (Option Block) LineFault → List Block
said (Ok None) = []
said (Ok (Some b)) = b ∷ []
said (Err e) = []

abbrev pub accepted : Option Program → ℕ → List ℕ → List Block
accepted None n line = []
accepted (Some p) n line = cond (p.number == n) (said (read p line)) []

abbrev pub given : Call → Programs → List Block
given (opening n m) s = []
given (adding n line) s = accepted s.entry n line
given (closing n) s = []
given (abandoning n) s = []
given (deleting n) s = []

-- the blocks of the accepted lines of a run, in order
abbrev pub given_by : List Call → Programs → List Block
given_by [] s = []
given_by (c ∷ cs) s = given c s ++ given_by cs (step c s)

-- the entry of a number stays the open one from before a run's first call to after its last
abbrev pub Stays : ℕ → List Call → Programs → Type 0
Stays n [] s = open_one n s.entry ≡ true
Stays n (c ∷ cs) s = (open_one n s.entry ≡ true) × Stays n cs (step c s)

-- an entry: an accepted opening, and then calls that leave it open and give its blocks
pub record Entering (cs : List Call) (n : ℕ) (m : Measure) (bs : List Block) : Type 0 where
  pub before : List Call
  pub lines : List Call
  pub calls : cs ≡ before ++ opening n m ∷ lines
  pub opens : open_reply n (after before) ≡ Ok (record { number = n })
  pub stays : Stays n lines (opened n m (after before))
  pub blocks : bs ≡ given_by lines (opened n m (after before))

-- a stored program: its entry, the accepted closing, and whatever came later
pub record Stored (cs : List Call) (p : Program) : Type 0 where
  pub front : List Call
  pub later : List Call
  pub calls : cs ≡ front ++ closing p.number ∷ later
  pub entering : Entering front p.number p.measure p.blocks
  pub closes : close_reply p.number (after front) ≡ Ok tt

-- the motion group after some blocks
abbrev pub motion_after : Motion → List Block → Motion
motion_after g [] = g
motion_after g (b ∷ bs) = motion_after (unwrap_or b.motion g) bs

-- M02 or M30 stands in the last block and only there
abbrev pub EndsOnce : List Block → Type 0
EndsOnce bs = (front : List Block) × (last : Block) × (bs ≡ front ++ last ∷ []) × (ends last ≡ true) × ((a : List Block) (b : Block) (c : List Block) → front ≡ a ++ b ∷ c → ends b ≡ false)

-- every block with X under G01 has a feed in itself or before it
abbrev pub Fed : List Block → Type 0
Fed bs = (a : List Block) (b : Block) (c : List Block) → bs ≡ a ++ b ∷ c → is_some b.target ≡ true → motion_after Rapid (a ++ b ∷ []) ≡ Feed
    → (d : List Block) × (e : Block) × (f : List Block) × (a ++ b ∷ [] ≡ d ++ e ∷ f) × (is_some e.feed ≡ true)

-- what holds of every store after every run of calls
pub record Kept (cs : List Call) : Type 0 where
  pub sixteen : length (after cs).stored ≤ 16
  pub entered : (n : ℕ) (p : Program) → found n (after cs).stored ≡ Some p → Stored cs p
  pub ends_once : (n : ℕ) (p : Program) → found n (after cs).stored ≡ Some p → EndsOnce p.blocks
  pub fed : (n : ℕ) (p : Program) → found n (after cs).stored ≡ Some p → Fed p.blocks
  -- 28 comes only with sixteen stored
  pub full : (n : ℕ) → open_reply n (after cs) ≡ Err (StoreFull n) → length (after cs).stored ≡ 16
  -- a line is refused for want of room only with 64 blocks
  pub no_room : (n : ℕ) (line : List ℕ) → add_reply n line (after cs) ≡ Err (Line ProgramFull) → (p : Program) × ((after cs).entry ≡ Some p) × (length p.blocks ≡ 64)

abbrev pub Runs : Type 0
Runs = (cs : List Call) → Kept cs

-- stored programs change by closing and deletion alone, and then only the one that is named
pub record Changes : Type 0 where
  pub opening_keeps : (n : ℕ) (m : Measure) (s : Programs) → (opened n m s).stored ≡ s.stored
  pub adding_keeps : (n : ℕ) (line : List ℕ) (s : Programs) → (added n line s).stored ≡ s.stored
  pub abandoning_keeps : (n : ℕ) (s : Programs) → (abandoned n s).stored ≡ s.stored
  pub closing_keeps : (n k : ℕ) (s : Programs) → (k ≢ n) → found k (closed n s).stored ≡ found k s.stored
  pub deleting_keeps : (n k : ℕ) (s : Programs) → (k ≢ n) → found k (deleted n s).stored ≡ found k s.stored

-- closing the open entry of a number stores its program where its blocks end once and are fed; 35 comes for no other reason
pub record Closes : Type 0 where
  pub stored : (n : ℕ) (p : Program) (s : Programs) → s.entry ≡ Some p → p.number ≡ n → EndsOnce p.blocks → Fed p.blocks
      → (close_reply n s ≡ Ok tt) × (closed n s ≡ record { stored = s.stored ++ p ∷ []; entry = None })
  pub refused : (n k : ℕ) (s : Programs) → close_reply n s ≡ Err (NotClosable k)
      → (k ≡ n) × (p : Program) × (s.entry ≡ Some p) × (p.number ≡ n) × (EndsOnce p.blocks → Fed p.blocks → ⊥)
