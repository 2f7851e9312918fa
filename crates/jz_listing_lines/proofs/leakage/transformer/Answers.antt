use Rattle.jz_listing_lines.specs.InnerTrees.{GaveTransformer}
use Rattle.jz_listing_lines.proofs.Trees.{passed, before_err, space_err, body_err, second_space_err, after_err, transformer_there}
use Rattle.jz_listing_lines.proofs.leakage.transformer.Goals as goal

pub returns-in_err-before : goal.returns-in_err-before
returns-in_err-before c =
    passed c.from_residual.result c.in_err-before.field-0.0 (λ r. GaveTransformer r c.args.c.now c.outs.new.c) c.from_residual.ensures.1
    (before_err c.in_err-before.field-0.0 c.args.c.now c.outs.new.c c.in_err-before.ensures)

pub returns-in_err-literal : goal.returns-in_err-literal
returns-in_err-literal c =
    passed c.from_residual-in_err-literal.result c.in_err-literal.field-0.0 (λ r. GaveTransformer r c.args.c.now c.literal.new.self) c.from_residual-in_err-literal.ensures.1
    (space_err c.in_err-literal.field-0.0 c.args.c.now c.outs.new.c c.literal.new.self c.in_ok-before.before c.in_ok-before.ensures c.in_err-literal.ensures)

pub returns-in_err-body : goal.returns-in_err-body
returns-in_err-body c =
    passed c.from_residual-in_err-body.result c.in_err-body.field-0.0 (λ r. GaveTransformer r c.args.c.now c.tree.new.c) c.from_residual-in_err-body.ensures.1
    (body_err c.in_err-body.field-0.0 c.args.c.now c.outs.new.c c.literal.new.self c.tree.new.c c.in_ok-before.before c.in_ok-before.ensures c.in_ok-literal.ensures c.in_err-body.ensures)

pub returns-in_err-literal-2 : goal.returns-in_err-literal-2
returns-in_err-literal-2 c =
    passed c.from_residual-in_err-literal-2.result c.in_err-literal-2.field-0.0 (λ r. GaveTransformer r c.args.c.now c.literal-2.new.self) c.from_residual-in_err-literal-2.ensures.1
    (second_space_err c.in_err-literal-2.field-0.0 c.args.c.now c.outs.new.c c.literal.new.self c.tree.new.c c.literal-2.new.self c.in_ok-before.before c.in_ok-body.body
    c.in_ok-before.ensures c.in_ok-literal.ensures c.in_ok-body.ensures c.in_err-literal-2.ensures)

pub returns-in_err-after : goal.returns-in_err-after
returns-in_err-after c =
    passed c.from_residual-in_err-after.result c.in_err-after.field-0.0 (λ r. GaveTransformer r c.args.c.now c.outs-2.new.c) c.from_residual-in_err-after.ensures.1
    (after_err c.in_err-after.field-0.0 c.args.c.now c.outs.new.c c.literal.new.self c.tree.new.c c.literal-2.new.self c.outs-2.new.c c.in_ok-before.before c.in_ok-body.body
    c.in_ok-before.ensures c.in_ok-literal.ensures c.in_ok-body.ensures c.in_ok-literal-2.ensures c.in_err-after.ensures)

pub returns : goal.returns
returns c =
    transformer_there c.args.c.now c.outs.new.c c.literal.new.self c.tree.new.c c.literal-2.new.self c.outs-2.new.c c.in_ok-before.before c.in_ok-after.after c.in_ok-body.body
    c.in_ok-before.ensures c.in_ok-literal.ensures c.in_ok-body.ensures c.in_ok-literal-2.ensures c.in_ok-after.ensures
