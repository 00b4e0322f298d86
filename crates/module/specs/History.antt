-- What one of the three axes was asked in a run, and what is reckoned from that alone.
use Rattle.std.specs.Prelude.{ℕ, ◌+◌, Bool, true, false, cond, ◌||◌, List, [], ◌∷◌, ℤ, Some, None, Option, ◌==◌}
use Rattle.motion.specs.declared.raw.RawData.{RawData}
use Rattle.states.specs.State.{AxisState}
use Rattle.laws.specs.Acts as one
use Rattle.laws.specs.Laws.{offset_after, tool_after}
use Rattle.laws.specs.Reckoned.{data_after, zero_after}
use Rattle.laws.specs.Started.{program_after}
use Rattle.laws.specs.Stopped.{stop_after}
use Rattle.module.specs.declared.call.Act.{Act}
use Rattle.module.specs.declared.call.Act.TheVariants.{Enter, Delete, Order, Level, Tick, Observe}
use Rattle.module.specs.declared.call.Call.{Call}
use Rattle.module.specs.declared.call.Call.TheVariants.{OnAxis, Open, Add, Close, Abandon, DeleteProgram}
use Rattle.module.specs.Faults.{number_of}
use Rattle.module.specs.State.{Machine}
use Rattle.module.specs.Machine.{Reply, done, shown, refused, step}

pub data Which : Type 0 where
  first : Which
  second : Which
  third : Which

abbrev pub number : Which → ℕ
number first = 1
number second = 2
number third = 3

abbrev pub axis_at : Which → Machine → AxisState
axis_at first s = s.first
axis_at second s = s.second
axis_at third s = s.third

-- the act of an axis; observing is none
abbrev pub act_of : Act → Option one.Act
act_of (Enter d) = Some (one.entering d)
act_of Delete = Some one.deleting
act_of (Order o) = Some (one.ordering o)
act_of (Level l) = Some (one.levelling l.switches.begin l.switches.end l.ready)
act_of Tick = Some one.ticking
act_of Observe = None

abbrev pub act_on : Which → Call → Option one.Act
act_on w (OnAxis axis act) = cond (axis == number w) (act_of act) None
act_on w (Open n m) = None
act_on w (Add n line) = None
act_on w (Close n) = None
act_on w (Abandon n) = None
act_on w (DeleteProgram n) = None

-- an act of an axis, the count of its drive when it came, and the reply
pub record PastAct : Type 0 where
  pub act : one.Act
  pub count : ℤ
  pub reply : Reply

abbrev pub with_act : Option one.Act → ℤ → Reply → List PastAct → List PastAct
with_act None count reply hs = hs
with_act (Some act) count reply hs = record { act = act; count = count; reply = reply } ∷ hs

-- of a list of calls with the reply to each
abbrev pub history : Which → Machine → List Call → List Reply → List PastAct
history w s [] ts = []
history w s (c ∷ cs) [] = []
history w s (c ∷ cs) (t ∷ ts) = with_act (act_on w c) (axis_at w s).drive.count t (history w (step c s) cs ts)

abbrev pub is_done : Reply → Bool
is_done done = true
is_done (shown o) = true
is_done (refused f) = false

-- the machine data: those of the last accepted entry, none after an accepted deletion
abbrev pub data_next : PastAct → Option RawData → Option RawData
data_next h o = cond (is_done h.reply) (data_after h.act o) o

abbrev pub data_in : List PastAct → Option RawData → Option RawData
data_in [] o = o
data_in (h ∷ hs) o = data_in hs (data_next h o)

-- the program of the last accepted start, until something ends it
abbrev pub program_in : List PastAct → Option ℕ → Option ℕ
program_in [] n = n
program_in (h ∷ hs) n = program_in hs (program_after h.act (is_done h.reply) n)

-- the zero that the last zeroing set
abbrev pub zero_next : PastAct → Option RawData → ℤ → ℤ
zero_next h o z = cond (is_done h.reply) (zero_after h.act o h.count z) z

abbrev pub zero_in : List PastAct → Option RawData → ℤ → ℤ
zero_in [] o z = z
zero_in (h ∷ hs) o z = zero_in hs (data_next h o) (zero_next h o z)

-- the values of mode 12 to 14, and the tool values of 15 and 16, of accepted orders since the machine data came
abbrev pub offset_in : List PastAct → ℤ → ℤ
offset_in [] z = z
offset_in (h ∷ hs) z = offset_in hs (cond (is_done h.reply) (offset_after h.act z) z)

abbrev pub tool_in : List PastAct → ℤ → ℤ
tool_in [] t = t
tool_in (h ∷ hs) t = tool_in hs (cond (is_done h.reply) (tool_after h.act t) t)

-- the reference: from an accepted order of mode 5 until machine data are entered or deleted, or a tick is answered 23 or 24
abbrev pub loses : Reply → Bool
loses done = false
loses (shown o) = false
loses (refused f) = number_of f == 23 || number_of f == 24

abbrev pub reference_next : one.Act → Reply → Bool → Bool
reference_next (one.entering d) reply r = cond (is_done reply) false r
reference_next one.deleting reply r = cond (is_done reply) false r
reference_next (one.ordering o) reply r = cond (is_done reply) (cond (o.mode == 5) true r) r
reference_next (one.levelling begin end ready) reply r = r
reference_next one.ticking reply r = cond (loses reply) false r

abbrev pub reference_in : List PastAct → Bool → Bool
reference_in [] r = r
reference_in (h ∷ hs) r = reference_in hs (reference_next h.act h.reply r)

-- whether the axis was stopped since it was last set off, by an accepted stop or by an order that was answered 11
abbrev pub is_eleven : Reply → Bool
is_eleven done = false
is_eleven (shown o) = false
is_eleven (refused f) = number_of f == 11

abbrev pub stop_in : List PastAct → Bool → Bool
stop_in [] b = b
stop_in (h ∷ hs) b = stop_in hs (stop_after h.act (is_done h.reply) (is_eleven h.reply) b)

-- how many ticks of an axis there are among the calls
abbrev pub is_tick : Option one.Act → ℕ
is_tick None = 0
is_tick (Some act) = one.is_tick act

abbrev pub ticks_of : Which → List Call → ℕ
ticks_of w [] = 0
ticks_of w (c ∷ cs) = is_tick (act_on w c) + ticks_of w cs
