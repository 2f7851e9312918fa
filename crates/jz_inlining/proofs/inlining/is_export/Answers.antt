use Rattle.std.proofs.Common.{ap, sym, ◌∙◌}
use Rattle.std.specs.Prelude.{slice_get}
use Rattle.std.specs.Option.{option_copied}
use Rattle.jz_type_rows.specs.Exports.{is_exported}
use Rattle.jz_inlining.proofs.Kept.{no_export, inline_no_export, one_export}
use Rattle.jz_inlining.proofs.inlining.is_export.Goals as goal

pub returns-in-None : goal.returns-in-None
returns-in-None c = no_export c.args.typed.now.program c.args.fun (ap (λ q. slice_get q.funs c.args.fun) (sym c.program.ensures) ∙ sym c.get.ensures.value ∙ ap option_copied c.in-None.is)

pub returns-in-Inline : goal.returns-in-Inline
returns-in-Inline c = inline_no_export c.args.typed.now.program c.args.fun c.in-Some.function.now (ap (λ q. slice_get q.funs c.args.fun) (sym c.program.ensures) ∙ sym c.get.ensures.value ∙ ap option_copied c.in-Some.is) (ap is_exported c.in-Inline.is)

pub returns-in-Export : goal.returns-in-Export
returns-in-Export c = one_export c.args.typed.now.program c.args.fun c.in-Some.function.now (ap (λ q. slice_get q.funs c.args.fun) (sym c.program.ensures) ∙ sym c.get.ensures.value ∙ ap option_copied c.in-Some.is) (ap is_exported c.in-Export.is)
