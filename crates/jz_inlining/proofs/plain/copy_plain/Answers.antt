use Rattle.std.proofs.Common.{◌∙◌, refl, ap, map, [], ◌∷◌, ◌++◌}
use Rattle.std.specs.Prelude.{option_map}
use Rattle.jz_tree.specs.declared.stmt.StmtKind.TheVariants as kind
use Rattle.jz_inline.specs.Names.{Names, expr_in, lval_in}
use Rattle.jz_inline.specs.CopiedNames.{names_of}
use Rattle.jz_inline.specs.Statements.{statement, kept, right_in}
use Rattle.jz_inlining.specs.declared.copier.Copied.{Copied}
use Rattle.jz_inlining.proofs.Adding.{plain_adds}
use Rattle.jz_inlining.proofs.plain.copy_plain.Goals as goal

pub returns : goal.returns
returns c =
    let names : Names = names_of c.args.names.now in
    let a = c.args.assignment in
    let old = c.args.out.now.stmts in
    let after : Copied = record { stmts = c.push_statement.new.out; next = c.args.out.now.next } in
    plain_adds names c.args.out.now after c.in_ok-steps.steps a.notes.now a.span kept
    (λ n. kind.Assign (map (lval_in n) a.to.now) a.op (right_in n c.args.rhs.now) (option_map (expr_in n) a.cond.now))
    (c.in_ok-push_statement.ensures
    ∙ ap (λ l. old ++ statement a.notes.now a.span (kind.Assign l a.op c.in_ok-rhs.rhs c.in_ok-cond.cond) ∷ []) c.in_ok-to.ensures
    ∙ ap (λ r. old ++ statement a.notes.now a.span (kind.Assign (map (lval_in names) a.to.now) a.op r c.in_ok-cond.cond) ∷ []) c.in_ok-rhs.ensures
    ∙ ap (λ e. old ++ statement a.notes.now a.span (kind.Assign (map (lval_in names) a.to.now) a.op (right_in names c.args.rhs.now) e) ∷ []) c.in_ok-cond.ensures)
    refl c.in_ok-steps.ensures
