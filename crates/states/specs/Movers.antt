-- A step of the move in progress, by machine data that may be missing.
use Rattle.std.specs.Prelude.{◌≡◌, true, Some, None, Option}
use Rattle.motion.specs.declared.mover.Mover.{Mover}
use Rattle.motion.specs.declared.passed.Passed.{Passed}

-- without machine data nothing is passed; else the step says what it passes and leaves
abbrev pub Stepped : (Mover → Passed → Mover → Type 0) → Option Mover → Passed → Option Mover → Type 0
Stepped By None p None = p ≡ record { pulses = 0; ended = true }
Stepped By None p (Some after) = ⊥
Stepped By (Some before) p None = ⊥
Stepped By (Some before) p (Some after) = By before p after
