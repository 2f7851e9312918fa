use Rattle.std.proofs.Common.{◌≡◌, ◌∙◌, ap}
use Rattle.jz_safe.specs.ExpansionExpanded.{Expanded}
use Rattle.jz_safe.proofs.Stepping.{handed_on}
use Rattle.jz_compiling.specs.Refused.{IsNotCompiled}
use Rattle.jz_whole_pipeline.specs.Correctness.{IsRefusedFor}
use Rattle.jz_whole_pipeline.proofs.Compiled.{moved, correct_of, has_places, is_small, refused_for}
use Rattle.jz_whole_pipeline.proofs.compiling.compile_fun.Goals as goal

pub returns-clause-made : goal.returns-clause-made
returns-clause-made c =
    moved c.args.safe c.in_ok-compiled.compiled c.into_parts-fun.result.0 c.into_parts-fun.result.1 (c.into_parts-fun.ensures.0 ∙ ap (λ (e : Expanded). e.fun) c.into_expanded-expanded.ensures)
    (c.into_parts-fun.ensures.1 ∙ ap (λ (e : Expanded). e.change) c.into_expanded-expanded.ensures) c.in_ok-compiled.ensures.made.0

pub returns-clause-correct : goal.returns-clause-correct
returns-clause-correct c = correct_of c.args.safe c.in_ok-compiled.compiled
    (moved c.args.safe c.in_ok-compiled.compiled c.into_parts-fun.result.0 c.into_parts-fun.result.1 (c.into_parts-fun.ensures.0 ∙ ap (λ (e : Expanded). e.fun) c.into_expanded-expanded.ensures)
    (c.into_parts-fun.ensures.1 ∙ ap (λ (e : Expanded). e.change) c.into_expanded-expanded.ensures) c.in_ok-compiled.ensures.made.0)

pub returns-clause-said : goal.returns-clause-said
returns-clause-said c = c.in_ok-compiled.ensures.made.1

pub returns-clause-placed : goal.returns-clause-placed
returns-clause-placed c = has_places c.args.safe c.in_ok-compiled.compiled
    (moved c.args.safe c.in_ok-compiled.compiled c.into_parts-fun.result.0 c.into_parts-fun.result.1 (c.into_parts-fun.ensures.0 ∙ ap (λ (e : Expanded). e.fun) c.into_expanded-expanded.ensures)
    (c.into_parts-fun.ensures.1 ∙ ap (λ (e : Expanded). e.change) c.into_expanded-expanded.ensures) c.in_ok-compiled.ensures.made.0)

pub returns-clause-small : goal.returns-clause-small
returns-clause-small c = is_small c.args.safe c.in_ok-compiled.compiled
    (moved c.args.safe c.in_ok-compiled.compiled c.into_parts-fun.result.0 c.into_parts-fun.result.1 (c.into_parts-fun.ensures.0 ∙ ap (λ (e : Expanded). e.fun) c.into_expanded-expanded.ensures)
    (c.into_parts-fun.ensures.1 ∙ ap (λ (e : Expanded). e.change) c.into_expanded-expanded.ensures) c.in_ok-compiled.ensures.made.0)

pub returns-in_err-compiled-clause-refused : goal.returns-in_err-compiled-clause-refused
returns-in_err-compiled-clause-refused c =
    let fun : c.into_parts-fun.result.0 ≡ c.args.safe.expanded.fun = c.into_parts-fun.ensures.0 ∙ ap (λ (e : Expanded). e.fun) c.into_expanded-expanded.ensures in
    handed_on c.from_residual.result c.in_err-compiled.field-0.0 (IsNotCompiled c.into_parts-fun.result.0) (IsRefusedFor c.args.safe.expanded.fun) c.from_residual.ensures.1 (refused_for c.args.safe c.into_parts-fun.result.0 fun)
    c.in_err-compiled.ensures.refused
