use Rattle.std.proofs.Common.{sym, ap, ◌∙◌, subst}
use Rattle.jz_tree.specs.declared.expr.Expr.TheViews.{out-Access}
use Rattle.jz_type_storage.specs.Paths.{reading_expr, setting}
use Rattle.jz_type_storage.specs.InnerSurely.{first}
use Rattle.jz_type_storage.specs.InnerWalks.{members, Walks}
use Rattle.jz_type_storage.proofs.Walking.{walks_reads, idle_expr}
use Rattle.jz_type_storage.proofs.walk.set_left.Goals as goal

pub returns-in_ok-found-in-Cell : goal.returns-in_ok-found-in-Cell
returns-in_ok-found-in-Cell c =
    let a = members c.args.asked.now.keys in
    let old = c.args.set.now.keys in
    subst (λ l. Walks a (setting l) old c.in_ok-found-in-Cell.found old) (sym c.in-Cell.is)
    (walks_reads a (reading_expr c.in-Cell.at) old c.in_ok-found-in-Cell.found (idle_expr a c.in-Cell.at)
    (c.in_ok-found-in-Cell.ensures ∙ ap (λ e. first a (reading_expr e) (members old)) c.get.ensures))

pub returns-in_ok-found-in-Store : goal.returns-in_ok-found-in-Store
returns-in_ok-found-in-Store c =
    let a = members c.args.asked.now.keys in
    let old = c.args.set.now.keys in
    let e = (out-Access c.in-Store.access).at in
    subst (λ l. Walks a (setting l) old c.in_ok-found-in-Store.found old) (sym c.in-Store.is)
    (walks_reads a (reading_expr e) old c.in_ok-found-in-Store.found (idle_expr a e)
    (c.in_ok-found-in-Store.ensures ∙ ap (λ x. first a (reading_expr x) (members old)) c.get-in-Store.ensures))
