-- The modes: which commands each admits and which values it uses.
use Rattle.std.specs.Prelude.{ℕ, Bool, true, false, not, ◌&&◌, ◌||◌, ℤ, pos, negsuc, ◌==◌, int_le, nat_le}
use Rattle.states.specs.declared.order.Order.{Order}
use Rattle.states.specs.declared.order.Command.{Command}
use Rattle.states.specs.declared.order.Command.TheVariants.{Start, Stop, Forward, Backward, TakeOver}
use Rattle.states.specs.declared.mode.Mode.{Mode}
use Rattle.states.specs.declared.mode.Mode.TheVariants.{Jog, AxisOff, Reference, Position, Relative, Program, OffsetTo, OffsetBy, ClearOffset, ToolTo, ClearTool, ClearFault}

abbrev pub starts : Command → Bool
starts Start = true
starts Stop = false
starts Forward = false
starts Backward = false
starts TakeOver = false

abbrev pub stops : Command → Bool
stops Start = false
stops Stop = true
stops Forward = false
stops Backward = false
stops TakeOver = false

abbrev pub takes_over : Command → Bool
takes_over Start = false
takes_over Stop = false
takes_over Forward = false
takes_over Backward = false
takes_over TakeOver = true

abbrev pub goes_forward : Command → Bool
goes_forward Start = false
goes_forward Stop = false
goes_forward Forward = true
goes_forward Backward = false
goes_forward TakeOver = false

abbrev pub runs : Command → Bool
runs Start = false
runs Stop = false
runs Forward = true
runs Backward = true
runs TakeOver = false

-- modes 8 and 9
abbrev pub runs_programs : ℕ → Bool
runs_programs mode = mode == 8 || mode == 9

-- a mode by columns: the commands that it admits, whether it needs neither machine data nor reference, whether it needs the
-- reference, uses the speed and the double word, and has no negative double word
pub record Row : Type 0 where
  pub admitted : Command → Bool
  pub free : Bool
  pub reference : Bool
  pub speed : Bool
  pub double : Bool
  pub one_way : Bool

abbrev row : (Command → Bool) → Bool → Bool → Bool → Bool → Bool → Row
row c f r s d w = record { admitted = c; free = f; reference = r; speed = s; double = d; one_way = w }

abbrev runs_or_stops : Command → Bool
runs_or_stops c = runs c || stops c

abbrev starts_or_stops : Command → Bool
starts_or_stops c = starts c || stops c

abbrev starts_stops_or_takes_over : Command → Bool
starts_stops_or_takes_over c = starts c || stops c || takes_over c

abbrev pub table : Mode → Row
table (Jog j) = row runs_or_stops false false true false false
table AxisOff = row starts true false false false false
table Reference = row starts false false false false false
table Position = row starts_or_stops false true true true false
table Relative = row runs_or_stops false true true true true
table (Program p) = row starts_stops_or_takes_over false true false false false
table OffsetTo = row starts false false false true false
table OffsetBy = row starts false false false true false
table ClearOffset = row starts false false false false false
table ToolTo = row starts false false false true false
table ClearTool = row starts false false false false false
table ClearFault = row starts true false false false false

abbrev pub admits : Mode → Command → Bool
admits mode command = (table mode).admitted command

abbrev pub bare : Mode → Bool
bare mode = (table mode).free

abbrev pub needs_reference : Mode → Bool
needs_reference mode = (table mode).reference

abbrev pub uses_speed : Mode → Bool
uses_speed mode = (table mode).speed

abbrev pub uses_double : Mode → Bool
uses_double mode = (table mode).double

abbrev pub goes_one_way : Mode → Bool
goes_one_way mode = (table mode).one_way

abbrev pub speed_fits : ℕ → Bool
speed_fits word = nat_le 1 word && nat_le word 65000

-- within ±40,000,000
abbrev pub in_reach : ℤ → Bool
in_reach z = int_le (negsuc 39999999) z && int_le z (pos 40000000)

abbrev pub values_fit : Mode → Order → Bool
values_fit mode o =
    (not (uses_speed mode) || speed_fits o.word)
    && ((not (uses_double mode) || in_reach o.double) && (not (goes_one_way mode) || int_le (pos 0) o.double))
