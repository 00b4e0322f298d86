-- Which number and which place each fault of a line has.
use Rattle.std.specs.Prelude.{ℕ}
use Rattle.reader.specs.declared.fault.LineFault.{LineFault}
use Rattle.reader.specs.declared.fault.LineFault.TheVariants.{TooLong, ProgramFull, Form, Order, Range}
use Rattle.reader.specs.declared.fault.WordCause.{WordCause}
use Rattle.reader.specs.declared.fault.WordCause.TheVariants as cause

abbrev pub number_of : LineFault → ℕ
number_of TooLong = 31
number_of ProgramFull = 31
number_of (Form at) = 32
number_of (Order at) = 33
number_of (Range at) = 34

abbrev pub place_of : LineFault → ℕ
place_of TooLong = 0
place_of ProgramFull = 0
place_of (Form at) = at
place_of (Order at) = at
place_of (Range at) = at

-- the fault of a line, by the question that one of its words or remarks fails, and its place
abbrev pub line_fault : WordCause → ℕ → LineFault
line_fault cause.Form at = Form at
line_fault cause.Order at = Order at
line_fault cause.Range at = Range at
