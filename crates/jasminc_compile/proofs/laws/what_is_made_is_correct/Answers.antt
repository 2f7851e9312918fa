use Rattle.jasminc_compile.proofs.Coming.{made_correct, made_shows}
use Rattle.jasminc_compile.proofs.laws.what_is_made_is_correct.Goals as goal

pub returns-clause-correct : goal.returns-clause-correct
returns-clause-correct c = made_correct

pub returns-clause-secrets : goal.returns-clause-secrets
returns-clause-secrets c = made_shows
