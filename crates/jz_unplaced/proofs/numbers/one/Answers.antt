use Rattle.std.proofs.Common.{◌≡◌, ◌∙◌, sym, rules}
use Rattle.jz_tree.specs.declared.expr.Expr.TheViews.{out-Var}
use Rattle.jz_meaning.specs.Values.{ref_of}
use Rattle.jz_operands.proofs.OperandLemmas.{ref_name}
use Rattle.jz_unplaced.proofs.Finding.{own}
use Rattle.jz_unplaced.proofs.numbers.one.Goals as goal

pub returns : goal.returns
returns c =
    let v = c.args.var.now in
    let named : c.in_ok-name.name ≡ (out-Var v).name = search rules in
    own (out-Var v).decl (ref_of v) c.args.number c.in_ok-name.name c.cell_of-cell.result c.requires (named ∙ sym (ref_name v)) c.cell_of-cell.ensures
