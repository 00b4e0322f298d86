use Rattle.store.proofs.Laws.{runs}
use Rattle.store.proofs.table.Store.new.Goals as goal

pub returns-in_err-free-clause-runs : goal.returns-in_err-free-clause-runs
returns-in_err-free-clause-runs c = runs

pub returns-in_err-stored-clause-runs : goal.returns-in_err-stored-clause-runs
returns-in_err-stored-clause-runs c = runs

pub returns-clause-runs : goal.returns-clause-runs
returns-clause-runs c = runs
