use Rattle.std.proofs.Common.{ap, sym, ◌∙◌}
use Rattle.std.specs.Option.{option_or}
use Rattle.jz_terms.specs.Terms.{Place}
use Rattle.jz_facts.specs.Intervals.{size_or_64}
use Rattle.jz_asked.proofs.Asking.{place_out}
use Rattle.jz_asked.proofs.accesses.access_size.Goals as goal

pub returns : goal.returns
returns c = c.or_64.ensures ∙ ap size_or_64 (c.or.ensures ∙ ap (λ (p : Place). option_or p.spot.size c.args.wanted) (sym (place_out c.args.access.now)))
