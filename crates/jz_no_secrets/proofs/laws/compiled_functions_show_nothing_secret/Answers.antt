use Rattle.jz_no_secrets.proofs.Whole.{compiled_shows_nothing_secret, said_shows_nothing_secret}
use Rattle.jz_no_secrets.proofs.laws.compiled_functions_show_nothing_secret.Goals as goal

pub returns-clause-compiled : goal.returns-clause-compiled
returns-clause-compiled c = compiled_shows_nothing_secret

pub returns-clause-said : goal.returns-clause-said
returns-clause-said c = said_shows_nothing_secret
