use Rattle.std.proofs.Common.{ap}
use Rattle.std.proofs.Math.Path.{fun_ext}
use Rattle.jz_inline.specs.CopiedNames.{renamed_or}
use Rattle.jz_inline.proofs.names.NamesInCopy.own.Goals as goal

pub returns : goal.returns
returns c = fun_ext (λ n. ap (λ o. renamed_or o (n, 0)) (c.new.ensures n))
