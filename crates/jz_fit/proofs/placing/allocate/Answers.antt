use Rattle.std.proofs.Common.{◌≡◌, ◌∙◌, refl, sym, ap, subst}
use Rattle.std.specs.List.{All}
use Rattle.jz_ir.specs.Places.{placed, FirstFit, all_of}
use Rattle.jz_ir.specs.Tree.{tree_of}
use Rattle.jz_alloc.specs.Fit.{IsSeat}
use Rattle.jz_alloc.proofs.Seating.{fit_seats}
use Rattle.jz_placing.proofs.FirstFit.{tree_places}
use Rattle.jz_fit.specs.Branches.{code_of, LiveAt}
use Rattle.jz_fit.proofs.Ordering.{fit_here}
use Rattle.jz_fit.proofs.placing.allocate.Goals as goal

pub seats-requires : goal.seats-requires
seats-requires c =
    let f = rw c.in-Places.is at c.in_ok-numbers.ensures in
    subst (All IsSeat) (sym c.as_slice.ensures.value) (fit_seats _ _ _ _ c.in-Places.numbers.items f)

pub returns-in-Places-clause-rule : goal.returns-in-Places-clause-rule
returns-in-Places-clause-rule c =
    let b = c.args.code.now in
    let f = rw c.in-Places.is at c.in_ok-numbers.ensures in
    let e = sym (c.in_ok-seats-in-Places.ensures ∙ c.as_slice.ensures.value) in
    tree_places (tree_of b.nodes) (code_of b) c.in_ok-seats-in-Places.field-0 c.requires.within refl
    (subst (λ ps. FirstFit (code_of b).ops b.kinds b.in_use (LiveAt b) (placed ps)) e (fit_here c.in_ok-table.table b (placed c.in-Places.numbers.items) c.in_ok-table.ensures.table c.in_ok-table.ensures.code f))
