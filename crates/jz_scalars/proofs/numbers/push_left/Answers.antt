use Rattle.std.proofs.Common.{◌∙◌, ◌++◌, ap, sym}
use Rattle.jz_scalars.specs.Scalars.{declared_sort}
use Rattle.jz_scalars.proofs.MaskLemmas.{left_read}
use Rattle.jz_scalars.proofs.numbers.push_left.Goals as goal

pub returns : goal.returns
returns c = c.in_ok-push_read.ensures ∙ ap (λ m. c.args.out.now ++ m) (sym (left_read declared_sort c.args.to.now))
