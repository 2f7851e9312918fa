use Rattle.std.proofs.Common.{◌≡◌, ◌∙◌, sym, ap, arith, length, subst, ◌||◌}
use Rattle.jz_bits.specs.Has.{has}
use Rattle.jz_bits.proofs.One.{all_words, Halfway}
use Rattle.jz_bits.proofs.Bits.union.Goals as goal

pub returns-clause-set : goal.returns-clause-set
returns-clause-set c =
    let e : c.loop-i.i ≡ length c.loop-i.self-inside.words.items = omega (arith, c.loop-i.invariant.wide, c.loop-i-test.false) in
    λ w. all_words c.self.inside.words.items c.other.inside.words.items c.loop-i.self-inside.words.items (subst (Halfway _ _ _) e c.loop-i.invariant) (ap length c.other.view_is ∙ c.requires ∙ sym (ap length c.self.view_is)) w ∙ ap (λ x. has x w || has c.other.inside.words.items w) c.self.view_is ∙ ap (λ x. has c.args.self.now w || has x w) c.other.view_is
