-- The modes and their numbers.
use Rattle.std.specs.Prelude.{◌≡◌, ◌↔◌, ℕ, cond, List, [], ◌∷◌, Some, None, Option, ◌==◌}
use Rattle.states.specs.declared.mode.Mode.{Mode}
use Rattle.states.specs.declared.mode.Mode.TheVariants.{Jog, AxisOff, Reference, Position, Relative, Program, OffsetTo, OffsetBy, ClearOffset, ToolTo, ClearTool, ClearFault}
use Rattle.states.specs.declared.mode.Jog.TheVariants.{First, Second}
use Rattle.states.specs.declared.mode.Pace.TheVariants.{Continuous, SingleBlock}

abbrev pub mode_number : Mode → ℕ
mode_number (Jog First) = 1
mode_number (Jog Second) = 2
mode_number AxisOff = 4
mode_number Reference = 5
mode_number Position = 6
mode_number Relative = 7
mode_number (Program Continuous) = 8
mode_number (Program SingleBlock) = 9
mode_number OffsetTo = 12
mode_number OffsetBy = 13
mode_number ClearOffset = 14
mode_number ToolTo = 15
mode_number ClearTool = 16
mode_number ClearFault = 17

abbrev pub modes : List (ℕ × Mode)
modes =
    (1, Jog First) ∷ (2, Jog Second) ∷ (4, AxisOff) ∷ (5, Reference) ∷ (6, Position) ∷ (7, Relative) ∷ (8, Program Continuous) ∷ (9, Program SingleBlock)
    ∷ (12, OffsetTo) ∷ (13, OffsetBy) ∷ (14, ClearOffset) ∷ (15, ToolTo) ∷ (16, ClearTool) ∷ (17, ClearFault) ∷ []

abbrev pub find_mode : ℕ → List (ℕ × Mode) → Option Mode
find_mode n [] = None
find_mode n (row ∷ rows) = cond (n == row.0) (Some row.1) (find_mode n rows)

-- the mode of a number, none where no mode has it
abbrev pub mode_of : ℕ → Option Mode
mode_of n = find_mode n modes

-- a mode is of a number where it has this number, and nowhere else
abbrev pub ModesAgree : Type 0
ModesAgree = (n : ℕ) (m : Mode) → (mode_of n ≡ Some m) ↔ (mode_number m ≡ n)
