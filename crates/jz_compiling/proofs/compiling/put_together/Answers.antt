use Rattle.std.proofs.Common.{refl, rules}
use Rattle.jz_compiling.proofs.compiling.put_together.Goals as goal

pub returns : goal.returns
returns c = record {
  name = search rules;
  args = refl;
  rets = refl;
  pre = refl;
  has = record { code = refl; insns = refl; frame = search rules };
  saved = refl;
  transformer = c.in_ok-tr.ensures;
  ct = refl;
}
