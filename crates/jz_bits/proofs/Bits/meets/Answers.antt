use Rattle.std.proofs.Common.{ap, arith, length, subst}
use Rattle.std.proofs.lemmas.Nat.{and_le_l}
use Rattle.jz_bits.specs.Has.{Shares}
use Rattle.jz_bits.proofs.One.{shared_word, apart_words}
use Rattle.jz_bits.proofs.Bits.meets.Goals as goal

pub returns-then-index-ne0 : goal.returns-then-index-ne0
returns-then-index-ne0 c =
    let w = ap length c.self.view_is in
    let v = ap length c.other.view_is in
    subst (λ x. Shares x c.args.other.now) c.self.view_is (subst (Shares c.self.inside.words.items) c.other.view_is
    (shared_word c.self.inside.words.items c.other.inside.words.items c.loop-i.i c.index.result.now c.index-in-loop-i.result.now c.index.ensures c.index-in-loop-i.ensures (omega (arith, c.len-i-end.ensures)) (omega (arith, w, v, c.requires, c.len-i-end.ensures)) c.if-index-ne0.true (omega (arith, and_le_l c.index.result.now c.index-in-loop-i.result.now))))

pub returns : goal.returns
returns c = subst (λ x. Shares x c.args.other.now → ⊥) c.self.view_is (subst (λ x. Shares c.self.inside.words.items x → ⊥) c.other.view_is (apart_words _ _ (λ i lt. c.loop-i.invariant i (omega (arith, c.len-i-end.ensures)))))
