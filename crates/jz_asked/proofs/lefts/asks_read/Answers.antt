use Rattle.std.proofs.Common.{ap, ◌∙◌}
use Rattle.jz_tree.specs.declared.stmt.Lval.TheVariants as lval
use Rattle.jz_meaning.specs.Values.{ref_of, access_of}
use Rattle.jz_meaning.specs.Assignments.{left_size}
use Rattle.jz_terms.specs.Terms.{cell, load, term_of, place_of}
use Rattle.jz_alarms.specs.Conditions.{asks}
use Rattle.jz_inside.specs.Said.{given_in, facts_in}
use Rattle.jz_asked.proofs.Reading.{read_var, read_cell, read_store}
use Rattle.jz_asked.proofs.lefts.asks_read.Goals as goal

pub returns-in-Var : goal.returns-in-Var
returns-in-Var c = c.asks_variable.ensures ∙ read_var (given_in c.args.says) (facts_in c.args.says) c.args.to.now _ c.in-Var.is

pub returns-in_ok-found-in-Cell : goal.returns-in_ok-found-in-Cell
returns-in_ok-found-in-Cell c =
    let g = given_in c.args.says in
    let s = facts_in c.args.says in
    let w = left_size (lval.Cell c.in-Cell.var c.in-Cell.index) in
    c.in_ok-found-in-Cell.ensures w ∙ ap (λ x. asks g s w (cell (ref_of c.in-Cell.var) (term_of x))) c.get.ensures ∙ read_cell g s c.args.to.now _ _ c.in-Cell.is

pub returns-in_ok-found-in-Store : goal.returns-in_ok-found-in-Store
returns-in_ok-found-in-Store c =
    let g = given_in c.args.says in
    let s = facts_in c.args.says in
    c.in_ok-found-in-Store.ensures ∙ ap (λ z. asks g s z (load (place_of c.in-Store.access).spot (place_of c.in-Store.access).at)) c.written_size.ensures ∙ read_store g s c.args.to.now _ c.in-Store.is
