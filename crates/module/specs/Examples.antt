-- The worked examples of the rules as one table: each row has what the definitions that the contracts cite compute, and what it
-- should be.
use Rattle.std.specs.Prelude.{◌≡◌, ℕ, true, false, List, [], ◌∷◌, ◌++◌, map, ℤ, pos, neg_ℤ, ◌-ℤ◌}
use Rattle.std.specs.List.{AllByRecursion}
use Rattle.units.specs.declared.Measure.TheVariants.{Millimetre}
use Rattle.drives.specs.declared.direction.Direction.TheVariants.{Forward, Backward}
use Rattle.drives.specs.declared.take_up.Counts.{Counts}
use Rattle.drives.specs.Stage.{stage_at}
use Rattle.drives.specs.Laws.{trail}
use Rattle.motion.specs.declared.raw.RawData.{RawData}
use Rattle.motion.specs.Ramp.{ramp_of}
use Rattle.motion.specs.Places.{pulses_of, nearest_of, rate_of}
use Rattle.motion.specs.Travel.{Going, begun, braked}
use Rattle.states.specs.declared.order.Command.{Command}
use Rattle.states.specs.declared.order.Command.TheVariants as command
use Rattle.states.specs.State.{Phase, standing, moving, braking, held, between}
use Rattle.laws.specs.Laws.{step_of}
use Rattle.module.specs.declared.call.Act.{Act}
use Rattle.module.specs.declared.call.Act.TheVariants.{Enter, Order as Ordering, Level, Tick, Observe}
use Rattle.module.specs.declared.call.Call.{Call}
use Rattle.module.specs.declared.call.Call.TheVariants.{OnAxis, Open, Add, Close}
use Rattle.module.specs.Faults.{number_of}
use Rattle.module.specs.State.{Machine}
use Rattle.module.specs.Machine.{Reply, done, shown, refused, reply, step, new_machine}

-- WHAT COMES OF A CALL

-- of a reply: that the call is done, shift and feedback byte that observing shows, or the number of the fault
pub data Seen : Type 0 where
  accepted : Seen
  shows : ℤ → ℕ → Seen
  fault : ℕ → Seen

abbrev pub seen : Reply → Seen
seen done = accepted
seen (shown o) = shows o.shift o.feedback
seen (refused f) = fault (number_of f)

-- what is left of a move in millionths of a pulse, 0 without one
abbrev pub left_in : Phase → ℕ
left_in standing = 0
left_in (moving t) = t.going.left
left_in (braking t) = t.going.left
left_in (held c u) = 0
left_in (between c) = 0

-- the reply; the ramp step r and what is left R of the first axis's move after the call, 0 without one; the pulses that the call
-- sends to its drive; its coordinate after the call
pub record Outcome : Type 0 where
  pub reply : Seen
  pub ramp_step : ℕ
  pub left : ℕ
  pub pulses : ℤ
  pub coordinate : ℤ

abbrev pub outcome_of : Seen → Machine → Machine → Outcome
outcome_of r before after = record {
  reply = r;
  ramp_step = step_of after.first;
  left = left_in after.first.status.work.phase;
  pulses = after.first.drive.count -ℤ before.first.drive.count;
  coordinate = after.first.status.work.coordinate;
}

abbrev pub outcome : Call → Machine → Outcome
outcome c s = outcome_of (seen (reply c s)) s (step c s)

-- a call with what should come of it
pub record Case : Type 0 where
  pub call : Call
  pub wanted : Outcome

abbrev pub outcomes : Machine → List Case → List Outcome
outcomes s [] = []
outcomes s (t ∷ ts) = outcome t.call s ∷ outcomes (step t.call s) ts

-- ROWS: numbers that come out beside those that should; or calls on a new module with what should come of each
pub data Row : Type 0 where
  numbers : List ℤ → List ℤ → Row
  run : List Case → Row

-- three clock stages at 0
abbrev pub stages : Machine
stages = new_machine (stage_at (pos 0) false) (stage_at (pos 0) false) (stage_at (pos 0) false)

abbrev pub Comes : Row → Type 0
Comes (numbers got wanted) = got ≡ wanted
Comes (run cases) = outcomes stages cases ≡ map (λ t. t.wanted) cases

-- CALLS

abbrev pub on_first : Act → Call
on_first act = OnAxis 1 act

abbrev pub order : ℕ → Command → ℕ → ℕ → ℕ → Call
order mode command byte word double = on_first (Ordering (record { mode = mode; command = command; byte = byte; word = word; double = pos double }))

abbrev pub to_zero : Call
to_zero = order 5 command.Start 0 0 0

abbrev pub to : ℕ → ℕ → Call
to speed target = order 6 command.Start 0 speed target

abbrev pub forward : ℕ → ℕ → Call
forward speed distance = order 7 command.Forward 0 speed distance

abbrev pub stop : Call
stop = order 6 command.Stop 0 0 0

abbrev pub program : ℕ → Call
program n = order 8 command.Start n 0 0

abbrev pub ready : Call
ready = on_first (Level (record { switches = record { begin = false; end = false }; ready = true }))

abbrev pub line : ℕ → List ℕ → Call
line n bytes = Add n (record { ref_ptr = (0, 0); now = bytes })

-- CALLS WITH WHAT SHOULD COME OF THEM

abbrev pub case_of : Call → Seen → ℕ → ℕ → ℕ → ℕ → Case
case_of call reply r R pulses coordinate = record {
  call = call;
  wanted = record { reply = reply; ramp_step = r; left = R; pulses = pos pulses; coordinate = pos coordinate };
}

-- accepted, and then the axis has no move and is at 0
abbrev pub does : Call → Case
does call = case_of call accepted 0 0 0 0

-- accepted, with a move under way: r, R and coordinate
abbrev pub under_way : Call → ℕ → ℕ → ℕ → Case
under_way call r R coordinate = case_of call accepted r R 0 coordinate

-- refused with a number; the axis has no move and is at 0
abbrev pub refuses : Call → ℕ → Case
refuses call n = case_of call (fault n) 0 0 0 0

-- a tick: r and R after it, its pulses, the coordinate after it
abbrev pub tick : ℕ → ℕ → ℕ → ℕ → Case
tick r R pulses coordinate = case_of (on_first Tick) accepted r R pulses coordinate

-- shift, feedback byte and coordinate of an axis without a move
abbrev pub observes : ℕ → ℕ → ℕ → Case
observes shift feedback coordinate = case_of (on_first Observe) (shows (pos shift) feedback) 0 0 0 coordinate

-- machine data, levels and a reference
abbrev pub referenced : RawData → List Case
referenced d = does (on_first (Enter d)) ∷ does ready ∷ does to_zero ∷ []

-- THE TABLE

-- axis A
abbrev pub axis_a : RawData
axis_a = record {
  fm = 3000000;
  fs = 1000000;
  increase = 1000000;
  duration = 5;
  patterns = 4;
  units = 4000;
  pulses = 400;
  low = neg_ℤ (pos 1000);
  high = pos 200000;
  reference = pos 0;
  offsets = pos 0 ∷ pos 0 ∷ pos 0 ∷ pos 0 ∷ [];
  measure = Millimetre;
}

-- axis A's ramp, to its end
abbrev pub ramp : Row
ramp =
    numbers (map (λ i. pos (ramp_of axis_a i)) (1 ∷ 2 ∷ 3 ∷ 4 ∷ 5 ∷ 6 ∷ []))
    (pos 1000000 ∷ pos 2000000 ∷ pos 2525000 ∷ pos 2800625 ∷ pos 2945328 ∷ pos 3000000 ∷ [])

abbrev pub three_ticks : List Case
three_ticks = under_way (to 1800 100) 0 10000000 0 ∷ tick 1 9000000 1 10 ∷ tick 2 7000000 2 30 ∷ tick 3 4475000 2 50 ∷ []

-- axis A from 0 to 100 at speed 1,800
abbrev pub hundred : Row
hundred =
    run (referenced axis_a ++ three_ticks
    ++ tick 2 2475000 2 70 ∷ tick 1 1475000 1 80 ∷ tick 1 475000 1 90 ∷ tick 0 0 1 100 ∷ observes 0 0x8E 100 ∷ [])

-- the same move stopped after the third tick
abbrev pub stopped : Row
stopped =
    run (referenced axis_a ++ three_ticks
    ++ under_way stop 3 4475000 50 ∷ tick 2 2475000 2 70 ∷ tick 1 1475000 1 80 ∷ tick 0 0 0 80 ∷ observes 0 0x8A 80 ∷ [])

-- what is left of that move after each of its braking ticks; the last one runs nothing
abbrev pub at_the_stop : Going
at_the_stop = record (begun axis_a.fm (rate_of axis_a.measure axis_a.units axis_a.pulses 1800)
    (pulses_of axis_a.units axis_a.pulses (pos 100) -ℤ pulses_of axis_a.units axis_a.pulses (pos 0))) { left = 4475000; step = 3 }

abbrev pub braked_a : Going → Going
braked_a g = braked (ramp_of axis_a) g

abbrev pub left_by_stop : Row
left_by_stop =
    numbers (map (λ g. pos g.left) (braked_a at_the_stop ∷ braked_a (braked_a at_the_stop) ∷ braked_a (braked_a (braked_a at_the_stop)) ∷ []))
    (pos 2475000 ∷ pos 1475000 ∷ pos 1475000 ∷ [])

-- 1,000 units and 300 pulses per turn, and a rate at which each of these moves takes one tick
abbrev pub coarse : RawData
coarse = record axis_a { fs = 3000000; units = 1000; pulses = 300 }

-- three moves by 5
abbrev pub three_moves : Row
three_moves =
    run (referenced coarse
    ++ under_way (forward 600 5) 0 2000000 0 ∷ tick 0 0 2 5
    ∷ under_way (forward 600 5) 0 1000000 5 ∷ tick 0 0 1 10
    ∷ under_way (forward 600 5) 0 2000000 10 ∷ tick 0 0 2 15 ∷ [])

-- with 10 units and 1 pulse per turn, the pulses of 5, 4 and −5
abbrev pub pulses : Row
pulses = numbers (map (pulses_of 10 1) (pos 5 ∷ pos 4 ∷ neg_ℤ (pos 5) ∷ [])) (pos 1 ∷ pos 0 ∷ pos 0 ∷ [])

-- with 3 units and 10 pulses per turn, the units nearest to 5 and −5 pulses
abbrev pub nearest : Row
nearest = numbers (map (nearest_of 3 10) (pos 5 ∷ neg_ℤ (pos 5) ∷ [])) (pos 2 ∷ neg_ℤ (pos 1) ∷ [])

-- a layer of play 3 over a ready stage at 0: forward, forward, backward, forward
abbrev pub four_pulses : List Counts
four_pulses = trail (Forward ∷ Forward ∷ Backward ∷ Forward ∷ []) (record { play = 3; flank = Forward; below = stage_at (pos 0) true })

abbrev pub layer_counts : Row
layer_counts = numbers (map (λ c. c.layer) four_pulses) (pos 1 ∷ pos 2 ∷ pos 1 ∷ pos 2 ∷ [])

abbrev pub stage_counts : Row
stage_counts = numbers (map (λ c. c.below) four_pulses) (pos 1 ∷ pos 2 ∷ neg_ℤ (pos 2) ∷ pos 2 ∷ [])

-- the feedback byte of a new axis, with machine data, and referenced
abbrev pub feedback : Row
feedback =
    run (observes 0 0xE0 0 ∷ does (on_first (Enter axis_a)) ∷ observes 0 0xA2 0 ∷ does to_zero ∷ observes 0 0x8E 0 ∷ [])

-- axis A to its upper limit, and by 1 beyond
abbrev pub at_limit : Row
at_limit = run (referenced axis_a ++ under_way (to 1800 200000) 0 20000000000 0 ∷ [])

abbrev pub past_limit : Row
past_limit = run (referenced axis_a ++ refuses (to 1800 200001) 19 ∷ [])

-- axis A with 250 as offset 1
abbrev pub offset_a : RawData
offset_a = record axis_a { offsets = pos 250 ∷ pos 0 ∷ pos 0 ∷ pos 0 ∷ [] }

abbrev pub g54 : List ℕ
g54 = 71 ∷ 53 ∷ 52 ∷ []

abbrev pub m30 : List ℕ
m30 = 77 ∷ 51 ∷ 48 ∷ []

-- the shift before a program of these two lines, after the first, while it runs, and after the second, which ends it
abbrev pub offset_in_program : Row
offset_in_program =
    run (referenced offset_a
    ++ does (Open 1 Millimetre) ∷ does (line 1 g54) ∷ does (line 1 m30) ∷ does (Close 1)
    ∷ observes 0 0x8E 0
    ∷ does (program 1)
    ∷ tick 0 0 0 0 ∷ observes 250 0x0E 0
    ∷ tick 0 0 0 0 ∷ observes 0 0x8E 0 ∷ [])

abbrev pub table : List Row
table =
    ramp ∷ hundred ∷ stopped ∷ left_by_stop ∷ three_moves ∷ pulses ∷ nearest ∷ layer_counts ∷ stage_counts ∷ feedback ∷ at_limit
    ∷ past_limit ∷ offset_in_program ∷ []

-- every row of the table comes out as it should
abbrev pub WorkedExamples : Type 0
WorkedExamples = AllByRecursion Comes table
