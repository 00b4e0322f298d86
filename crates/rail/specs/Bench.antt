-- Making a bench.
use Rattle.std.specs.Prelude.{◌≡◌, List, map, Some, Ok, Err, Result}
use Rattle.script.specs.declared.build.Build.{Build}
use Rattle.rail.specs.declared.bench.Bench.{Bench}
use Rattle.rail.specs.declared.bench.NoBench.{NoBench}
use Rattle.rail.specs.declared.bench.NoBench.TheVariants.{Drive, Memory}
use Rattle.rail.specs.Drives.{asked, first_fault, NewOn}

-- a bench has a new module on the drives asked for; there is none where one of them cannot be made, or without memory
abbrev pub NewBench : List Build → Result Bench NoBench → Type 0
NewBench builds (Ok bench) = NewOn builds bench.module
NewBench builds (Err (Drive e)) = first_fault (map asked builds) ≡ Some e
NewBench builds (Err (Memory e)) = Unit {0}
