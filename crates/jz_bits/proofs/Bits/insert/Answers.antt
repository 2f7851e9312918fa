use Rattle.std.proofs.Common.{◌∙◌, sym, ap, ◌||◌, nat_eq, ◌<◌, ◌/◌, length, subst}
use Rattle.jz_bits.specs.Has.{has}
use Rattle.jz_bits.proofs.One.{inserted}
use Rattle.jz_bits.proofs.Bits.insert.Goals as goal

pub returns-clause-set : goal.returns-clause-set
returns-clause-set c = λ w. inserted c.self.inside.words.items _ _ (subst (λ x. c.args.number / 64 < length x) (sym c.self.view_is) c.requires) c.index_mut.ensures.value w ∙ ap (λ x. nat_eq w c.args.number || has x w) c.self.view_is
