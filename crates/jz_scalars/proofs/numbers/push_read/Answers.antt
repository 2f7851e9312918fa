use Rattle.std.proofs.Common.{◌∙◌, ◌++◌, ap, sym, append-nil}
use Rattle.jz_scalars.proofs.MaskLemmas.{read_none, read_some}
use Rattle.jz_scalars.proofs.numbers.push_read.Goals as goal

pub returns-in-None : goal.returns-in-None
returns-in-None c =
    sym (append-nil c.args.out.now) ∙ ap (λ m. c.args.out.now ++ m) (sym (read_none c.args.to.now (sym c.in_ok-read.ensures ∙ c.in-None.is)))

pub returns-in_ok-append-in-Some : goal.returns-in_ok-append-in-Some
returns-in_ok-append-in-Some c =
    c.in_ok-append-in-Some.ensures.ok ∙ ap (λ m. c.args.out.now ++ m) (sym (read_some c.args.to.now _ (sym c.in_ok-read.ensures ∙ c.in-Some.is)))
