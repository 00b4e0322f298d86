use Rattle.std.proofs.Common.{refl, sym, ◌∙◌}
use Rattle.drives.proofs.Play.{owed}
use Rattle.drives.proofs.take_up.drive.TakeUpDrive.pulse.Goals as goal

pub invariant_of-self : goal.invariant_of-self
invariant_of-self g c =
    let self = c.args.self.now in
    let o = owed _ _ _ _ _ _ _ (g.met.D.Drive.sound self.below) self.room_for_play (sym c.check_pulse.ensures ∙ c.in_ok-check_pulse.was) c.passed-pulses.ensures c.send.ensures.value c.send.ensures.after in
    record { room_for_play = o.room_for_play }

pub returns : goal.returns
returns g c =
    let self = c.args.self.now in
    let o = owed _ _ _ _ _ _ _ (g.met.D.Drive.sound self.below) self.room_for_play (sym c.check_pulse.ensures ∙ c.in_ok-check_pulse.was) c.passed-pulses.ensures c.send.ensures.value c.send.ensures.after in
    record { value = o.value; after = o.after; below = o.below; flank = o.flank; play = refl }
