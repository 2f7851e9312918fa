use Rattle.std.proofs.Common.{◌∙◌, refl, ap, map, [], ◌∷◌, ◌++◌}
use Rattle.jz_tree.specs.declared.stmt.StmtKind.TheVariants as kind
use Rattle.jz_inline.specs.Names.{Names, var_in}
use Rattle.jz_inline.specs.CopiedNames.{names_of}
use Rattle.jz_inline.specs.Statements.{statement}
use Rattle.jz_inlining.specs.declared.copier.Copied.{Copied}
use Rattle.jz_inlining.proofs.Adding.{plain_adds}
use Rattle.jz_inlining.proofs.whole.copy_mark.Goals as goal

pub returns : goal.returns
returns c =
    let names : Names = names_of c.args.names.now in
    let old = c.args.out.now.stmts in
    let after : Copied = record { stmts = c.push_statement.new.out; next = c.args.out.now.next } in
    plain_adds names c.args.out.now after c.new.result c.args.notes.now c.args.span [] (λ n. kind.Mark (map (var_in n) c.args.vars.now))
    (c.in_ok-push_statement.ensures ∙ ap (λ xs. old ++ statement c.args.notes.now c.args.span (kind.Mark xs) ∷ []) c.in_ok-vars.ensures)
    refl c.new.ensures
