use Rattle.std.proofs.Common.{ap, sym}
use Rattle.jz_terms.specs.Terms.{Place}
use Rattle.jz_asked.proofs.Asking.{place_out}
use Rattle.jz_asked.proofs.accesses.is_unaligned.Goals as goal

pub returns : goal.returns
returns c = sym (ap (λ (p : Place). p.spot.unaligned) (place_out c.args.access.now))
