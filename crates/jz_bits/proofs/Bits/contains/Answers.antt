use Rattle.std.proofs.Common.{◌∙◌, ap, subst, get_or, length, ◌≤◌, ◌/◌}
use Rattle.jz_bits.proofs.One.{tested, past}
use Rattle.jz_bits.proofs.Bits.contains.Goals as goal

pub returns-in-Some : goal.returns-in-Some
returns-in-Some c = let a = c.in-Some.ensures.lookup in tested _ _ _ (a.3.1 0 ∙ ap (λ x. get_or x (c.args.number / 64) 0) (c.deref.ensures.value ∙ c.self.view_is))

pub returns-in-None : goal.returns-in-None
returns-in-None c = let a = c.in-None.ensures.lookup in past _ _ (subst (λ x. length x ≤ c.args.number / 64) (c.deref.ensures.value ∙ c.self.view_is) a.3)
