-- The shift: Z + T, inside a program Z + T + the offset that it has chosen.
use Rattle.std.specs.Prelude.{ℤ, pos, ◌+ℤ◌, Some, None, Option, slice_index_or}
use Rattle.reader.specs.declared.block.OffsetChoice.{OffsetChoice}
use Rattle.reader.specs.declared.block.OffsetChoice.TheVariants.{Without, First, Second, Third, Fourth}
use Rattle.motion.specs.declared.raw.RawData.{RawData}
use Rattle.states.specs.State.{Course, Work, course_of}

-- the offset that is chosen, by the machine data
abbrev pub offset_by : RawData → OffsetChoice → ℤ
offset_by d Without = pos 0
offset_by d First = slice_index_or d.offsets 0 (pos 0)
offset_by d Second = slice_index_or d.offsets 1 (pos 0)
offset_by d Third = slice_index_or d.offsets 2 (pos 0)
offset_by d Fourth = slice_index_or d.offsets 3 (pos 0)

-- the offset of the program that runs or is held, by the machine data
abbrev pub program_offset : Option RawData → Option Course → ℤ
program_offset None c = pos 0
program_offset (Some d) None = pos 0
program_offset (Some d) (Some c) = offset_by d c.offset

-- outside a program
abbrev pub own_shift : Work → ℤ
own_shift w = w.offset +ℤ w.tool

abbrev pub shift_of : Option RawData → Work → ℤ
shift_of machine w = own_shift w +ℤ program_offset machine (course_of w.phase)
