-- The worked examples, computed.
use Rattle.std.proofs.Common.{◌≡◌, refl, sym, ap, subst, ◌∙◌, arith, List, [], ◌∷◌, map, None, Some, pos}
use Rattle.motion.specs.declared.raw.RawData.{RawData}
use Rattle.motion.specs.Ramp.{after_first, ramp_of}
use Rattle.motion.specs.Travel.{way}
use Rattle.motion.proofs.Curve.{first-none, past}
use Rattle.states.specs.Entry.{new_status, with_data, cleared, data_refusal}
use Rattle.states.specs.Moves.{ticked_in, braked_in, begun_in, placed_in}
use Rattle.store.specs.Programs.{read}
use Rattle.ticks.specs.Ticks.{with_status}
use Rattle.module.specs.declared.call.Act.TheVariants.{Enter}
use Rattle.module.specs.State.{Machine}
use Rattle.module.specs.Machine.{step}
use Rattle.module.specs.Examples.{outcome, Case, outcomes, Row, numbers, run, stages, Comes, on_first, does, observes, axis_a, coarse, offset_a, ramp, hundred, stopped, left_by_stop, three_moves, feedback, at_limit, past_limit, offset_in_program, WorkedExamples}

-- CASE BY CASE

abbrev AllCome : Machine → List Case → Type 0
AllCome s ts = outcomes s ts ≡ map (λ t. t.wanted) ts

case_more : (t : Case) (ts : List Case) (s s′ : Machine) → outcome t.call s ≡ t.wanted → step t.call s ≡ s′ → AllCome s′ ts → AllCome s (t ∷ ts)
case_more t ts s s′ now next later =
    ap (λ o. o ∷ outcomes (step t.call s) ts) now
    ∙ ap (λ os. t.wanted ∷ os) (subst (λ (m : Machine). AllCome m ts) (sym next) later)

-- MACHINE DATA ENTERED

-- the module once the first axis has machine data d
abbrev entered : RawData → Machine
entered d = record {
  first = with_status (with_data (Some d) (cleared (pos 0) new_status.work) new_status) stages.first;
  second = stages.second;
  third = stages.third;
  programs = stages.programs;
}

entering : (d : RawData) (ts : List Case) → data_refusal d ≡ None → AllCome (entered d) ts → AllCome stages (does (on_first (Enter d)) ∷ ts)
entering d ts h later = case_more (does (on_first (Enter d))) ts stages (entered d) (rw h refl) (rw h refl) later

-- the ramp of axis A is at its end with the sixth step, and stays there
ended : after_first axis_a.fs axis_a.fm axis_a.increase 5 ≡ axis_a.fm
unfolding after_first
ended = refl

short : ramp_of axis_a 4096 ≡ axis_a.fm
short = past axis_a.fs axis_a.fm axis_a.increase 5 4095 ended (omega arith)

takes_a : data_refusal axis_a ≡ None
unfolding data_refusal
takes_a = rw short refl

takes_offset : data_refusal offset_a ≡ None
unfolding data_refusal
takes_offset = rw short refl

-- a ramp that starts at its maximum stays there
flat : ramp_of coarse 4096 ≡ coarse.fm
flat = past coarse.fs coarse.fm coarse.increase 0 4095 (first-none coarse.fs coarse.fm coarse.increase) (omega arith)

takes_coarse : data_refusal coarse ≡ None
unfolding data_refusal
takes_coarse = rw flat refl

-- THE ROWS

abbrev cases_of : Row → List Case
cases_of (numbers got wanted) = []
cases_of (run cases) = cases

abbrev rest : List Case → List Case
rest [] = []
rest (t ∷ ts) = ts

ramp_comes : Comes ramp
unfolding after_first
ramp_comes = refl

hundred_comes : Comes hundred
unfolding after_first way ticked_in begun_in placed_in
hundred_comes = entering axis_a (rest (cases_of hundred)) takes_a refl

stopped_comes : Comes stopped
unfolding after_first way ticked_in braked_in begun_in placed_in
stopped_comes = entering axis_a (rest (cases_of stopped)) takes_a refl

left_by_stop_comes : Comes left_by_stop
unfolding after_first
left_by_stop_comes = refl

three_moves_comes : Comes three_moves
unfolding after_first way ticked_in begun_in placed_in
three_moves_comes = entering coarse (rest (cases_of three_moves)) takes_coarse refl

at_limit_comes : Comes at_limit
unfolding begun_in
at_limit_comes = entering axis_a (rest (cases_of at_limit)) takes_a refl

past_limit_comes : Comes past_limit
past_limit_comes = entering axis_a (rest (cases_of past_limit)) takes_a refl

offset_in_program_comes : Comes offset_in_program
unfolding read
offset_in_program_comes = entering offset_a (rest (cases_of offset_in_program)) takes_offset refl

feedback_comes : Comes feedback
feedback_comes =
    let ts : List Case = rest (cases_of feedback) in
    case_more (observes 0 0xE0 0) ts stages stages refl refl (entering axis_a (rest ts) takes_a refl)

pub worked : WorkedExamples
worked =
    (ramp_comes, (hundred_comes, (stopped_comes, (left_by_stop_comes, (three_moves_comes, (refl, (refl, (refl, (refl, (feedback_comes, (at_limit_comes, (past_limit_comes, (offset_in_program_comes, tt)))))))))))))
