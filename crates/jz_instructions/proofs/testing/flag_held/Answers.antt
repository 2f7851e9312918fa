use Rattle.std.proofs.Common.{rules}
use Rattle.jz_operands.specs.TableHomes.{homes_of}
use Rattle.jz_operands.proofs.SumLemmas.{none_or}
use Rattle.jz_instructions.specs.InnerRows.{IsHeld}
use Rattle.jz_instructions.proofs.TestLemmas.{flag_held}
use Rattle.jz_instructions.proofs.testing.flag_held.Goals as goal

pub returns : goal.returns
returns c = flag_held (homes_of c.args.homes.now) c.args.condition.now c.in_ok-found.found c.in_ok-found.ensures

pub returns-in_err-found : goal.returns-in_err-found
returns-in_err-found c = none_or (IsHeld (homes_of c.args.homes.now) c.args.condition.now) c.from_residual.result (search rules) c.in_err-found.ensures
