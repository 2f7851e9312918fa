use Rattle.std.proofs.Common.{◌∙◌, ◌&&◌, length, nat_lt, sym, ap, subst, arith}
use Rattle.std.specs.List.{All, list_all}
use Rattle.jz_ir.specs.Order.{has_place}
use Rattle.jz_ir.specs.Places.{Below, op_at, op_fits, has_need}
use Rattle.jz_ir.specs.Tree.{tree_of, ops_of}
use Rattle.jz_fit.proofs.table.table_of.Goals as goal

pub wants_of-requires : goal.wants_of-requires
wants_of-requires c =
    subst (λ xs. All (Below c.len.result) xs) (sym (c.as_slice.ensures ∙ c.in_ok-ops.ensures)) (subst (λ n. All (Below n) (ops_of (tree_of c.args.code.now.nodes))) (sym c.len.ensures) c.requires)

pub returns-clause-table : goal.returns-clause-table
returns-clause-table c = record {
  ops_are = c.in_ok-ops.ensures;
  within = subst (λ xs. All (Below (length c.args.code.now.kinds)) xs) (sym c.in_ok-ops.ensures) c.requires;
  wants_count = c.in_ok-wants.ensures.count ∙ c.len.ensures;
  fits = λ v q l. c.in_ok-wants.ensures.fits v q (omega (arith, l, c.len.ensures)) ∙ ap (λ xs. list_all (op_fits v q) xs) c.as_slice.ensures;
  needed = λ v l. c.in_ok-wants.ensures.needed v (omega (arith, l, c.len.ensures)) ∙ ap (λ xs. has_need xs v) c.as_slice.ensures;
  fixed_count = c.in_ok-fixed.ensures.count;
  fixed_are = λ q i l. c.in_ok-fixed.ensures.set q i l ∙ ap (λ xs. nat_lt i (length xs) && has_place (op_at xs i).fixed q) c.as_slice-2.ensures;
}
