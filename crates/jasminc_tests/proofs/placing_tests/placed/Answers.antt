use Rattle.std.proofs.Common.{length, subst}
use Rattle.std.specs.List.{All}
use Rattle.jz_ir.specs.Places.{Below}
use Rattle.jasminc_tests.proofs.placing_tests.placed.Goals as goal

pub allocate-requires-clause-within : goal.allocate-requires-clause-within
allocate-requires-clause-within c =
    subst (All (Below (length c.args.code.now.kinds))) c.as_slice.ensures
    (subst (λ n. All (Below n) c.as_slice.result.now) c.len-count.ensures c.if-not-are_below.ensures)
