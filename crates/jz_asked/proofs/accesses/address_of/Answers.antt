use Rattle.std.proofs.Common.{ap, sym, ◌∙◌}
use Rattle.jz_terms.specs.Terms.{Place, term_of}
use Rattle.jz_asked.proofs.Asking.{place_out}
use Rattle.jz_asked.proofs.accesses.address_of.Goals as goal

pub returns : goal.returns
returns c = ap term_of c.get.ensures ∙ sym (ap (λ (p : Place). p.at) (place_out c.args.access.now))
