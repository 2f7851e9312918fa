use Rattle.std.proofs.Math.Path.{fun_ext}
use Rattle.jz_meaning.specs.Stores.{store_of}
use Rattle.jz_limits.proofs.Knowing.{set_known}
use Rattle.jz_limits.proofs.known.Known.set.Goals as goal

pub returns : goal.returns
returns c =
    fun_ext (λ name. fun_ext (λ copy.
    set_known c.args.self.now (store_of c.put.new.self) c.args.var.now c.args.number _ c.in_ok-put.ensures c.as_held.ensures name copy))
