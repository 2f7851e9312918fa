use Rattle.std.proofs.Common.{◌≡◌, sym, subst}
use Rattle.std.specs.Prelude.{IfOk}
use Rattle.jz_limits.specs.InnerKnown.{numbers_of}
use Rattle.jz_limits.specs.InnerLooked.{first}
use Rattle.jz_first_limit.proofs.Copied.{result_copied}
use Rattle.jz_first_limit.proofs.passing.ask_one_result.Goals as goal

pub returns-else-is_array : goal.returns-else-is_array
returns-else-is_array c = λ at.
    subst (λ ls. IfOk c.ask_given.result (λ found. found ≡ first ls))
    (sym (result_copied (numbers_of c.args.known.now) at c.args.left.now c.args.var.now (sym c.if-is_array.ensures))) (c.ask_given.ensures at)
