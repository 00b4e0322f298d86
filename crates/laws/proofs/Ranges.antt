-- Machine data that are not refused are in range and agree.
use Rattle.std.proofs.Common.{◌≡◌, Bool, true, false, cond, ◌&&◌, Some, None, Option, refl, rules, Decides}
use Rattle.std.proofs.lemmas.Bool.Decides.{Decides-and}
use Rattle.motion.specs.declared.raw.RawData.{RawData}
use Rattle.motion.specs.declared.fault.DataFault.{DataFault}
use Rattle.motion.specs.declared.fault.DataFault.TheVariants.{OutOfRange, Disagree}
use Rattle.motion.specs.Data.{Frequencies, Signal, Gear, InRange, Agree}
use Rattle.motion.specs.Questions.{frequencies, signal, gear, limits, offsets, in_range, agree, refusal}
use Rattle.motion.proofs.Questions.{limits_decides, offsets_decides}
use Rattle.states.specs.Entry.{data_cause, data_refusal}

-- the frequencies
frequencies_fit : (d : RawData) → Decides (frequencies d) (Frequencies d)
frequencies_fit d = search rules

-- the signal
signal_fits : (d : RawData) → Decides (signal d) (Signal d)
signal_fits d = search rules

-- the gear
gear_fits : (d : RawData) → Decides (gear d) (Gear d)
gear_fits d = search rules

-- data that pass the range tests are in range
ranges_by : (d : RawData) → in_range d ≡ true → InRange d
ranges_by d h =
    let f = Decides-and (frequencies d) (signal d) (frequencies_fit d) (signal_fits d) in
    let g = Decides-and (frequencies d && signal d) (gear d) f (gear_fits d) in
    let l = Decides-and (frequencies d && signal d && gear d) (limits d) g (limits_decides d) in
    let all = (Decides-and (frequencies d && signal d && gear d && limits d) (offsets d) l (offsets_decides d)).0 h in
    (all.0.0.0.0, all.0.0.0.1, all.0.0.1, all.0.1, all.1)

-- the agreement tests
agree_decides : (d : RawData) → Decides (agree d) (Agree d)
agree_decides d = search rules

-- no fault of the data is no cause of the axis
no_cause : (o : Option DataFault) → data_cause o ≡ None → o ≡ None
no_cause None e = refl
no_cause (Some f) e = cc

-- data without a fault pass both tests
both_yes : (a b : Bool) → cond a (cond b None (Some Disagree)) (Some OutOfRange) ≡ None → (a ≡ true) × (b ≡ true)
both_yes true true e = (refl, refl)
both_yes true false e = cc
both_yes false b e = cc

-- data that are not refused are in range and agree
pub unrefused : (d : RawData) → data_refusal d ≡ None → InRange d × Agree d
unfolding data_refusal
unrefused d e =
    let y = both_yes (in_range d) (agree d) (no_cause (refusal d) e) in
    (ranges_by d y.0, (agree_decides d).0 y.1)
