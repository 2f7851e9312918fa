use Rattle.jz_terms.proofs.Bridge.{term_so}
use Rattle.jz_terms.proofs.laws.expressions_mean_what_their_terms_do.Goals as goal

pub returns : goal.returns
returns c = term_so
