use Rattle.laws.proofs.Invariant.{invariant, no_pulse_refused}
use Rattle.laws.proofs.Stops.{stop, braking_stands}
use Rattle.laws.proofs.Shifts.{shift}
use Rattle.laws.proofs.Reckoning.{data_law, zero_law, reference_law, drift_bound, limits}
use Rattle.laws.proofs.MNumber.{m_number}
use Rattle.laws.proofs.TakeOver.{take_over}
use Rattle.axis.proofs.Axis.new.Goals as goal

pub returns-clause-invariant : goal.returns-clause-invariant
returns-clause-invariant c _ = invariant

pub returns-clause-no_pulse_refused : goal.returns-clause-no_pulse_refused
returns-clause-no_pulse_refused c _ = no_pulse_refused

pub returns-clause-stop : goal.returns-clause-stop
returns-clause-stop c _ = stop

pub returns-clause-braking : goal.returns-clause-braking
returns-clause-braking c _ = braking_stands

pub returns-clause-shift : goal.returns-clause-shift
returns-clause-shift c _ = shift

pub returns-clause-machine_data : goal.returns-clause-machine_data
returns-clause-machine_data c _ = data_law

pub returns-clause-zero : goal.returns-clause-zero
returns-clause-zero c _ = zero_law

pub returns-clause-reference : goal.returns-clause-reference
returns-clause-reference c _ = reference_law

pub returns-clause-drift_bound : goal.returns-clause-drift_bound
returns-clause-drift_bound c _ = drift_bound

pub returns-clause-limits : goal.returns-clause-limits
returns-clause-limits c _ = limits

pub returns-clause-m_number : goal.returns-clause-m_number
returns-clause-m_number c _ = m_number

pub returns-clause-take_over : goal.returns-clause-take_over
returns-clause-take_over c _ = take_over
