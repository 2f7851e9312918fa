use Rattle.std.proofs.Common.{◌∙◌, ap, subst}
use Rattle.std.specs.List.{All}
use Rattle.jz_ir.specs.Places.{Below}
use Rattle.jz_ir.specs.Tree.{ops_of}
use Rattle.jz_place.specs.Bodies.{whole_of}
use Rattle.jz_place_tests.proofs.seeing.add_checked.Goals as goal

pub add_answer-requires-clause-within : goal.add_answer-requires-clause-within
add_answer-requires-clause-within c =
    let h = rw c.if-not-are_below.false at c.are_below.ensures in
    subst (λ n. All (Below n) (ops_of (whole_of c.args.ir.now))) c.len-count.ensures (subst (λ xs. All (Below c.len-count.result) xs) (c.as_slice-2.ensures ∙ c.in_ok-ops.ensures ∙ ap ops_of c.in_ok-code.ensures.tree) h)
