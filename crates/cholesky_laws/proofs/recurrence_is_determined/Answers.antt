use Rattle.cholesky_laws.specs.Recurrence.{cholesky}
use Rattle.cholesky_laws.proofs.RecurrenceLemmas.{MeetsRecurrence-cholesky}
use Rattle.cholesky_laws.proofs.DeterminedLemmas.{factors-same}
use Rattle.cholesky_laws.proofs.recurrence_is_determined.Goals as goal

pub returns-clause-meets : goal.returns-clause-meets
returns-clause-meets c = MeetsRecurrence-cholesky

pub returns-clause-alone : goal.returns-clause-alone
returns-clause-alone c a g meets = factors-same a g (cholesky a) meets (MeetsRecurrence-cholesky a)
