use Rattle.std.proofs.Common.{◌≡◌, sym, subst}
use Rattle.std.specs.Prelude.{IfOk}
use Rattle.jz_limits.specs.InnerKnown.{numbers_of}
use Rattle.jz_limits.specs.InnerLooked.{first}
use Rattle.jz_first_limit.proofs.Copied.{argument_copied}
use Rattle.jz_first_limit.proofs.passing.ask_one_argument.Goals as goal

pub returns-else-is_array : goal.returns-else-is_array
returns-else-is_array c = λ at.
    subst (λ ls. IfOk c.ask_argument.result (λ found. found ≡ first ls))
    (sym (argument_copied (numbers_of c.args.known.now) at c.args.param.now c.args.arg.now (sym c.if-is_array.ensures))) (c.ask_argument.ensures at)
