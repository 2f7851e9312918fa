use Rattle.std.proofs.Common.{◌≡◌}
use Rattle.jz_select.specs.Shapes.{has_flags}
use Rattle.jz_select.proofs.shaping.flagged.Given as goal

abbrev pub invariant-loop-cur : goal.invariant-loop-cur
invariant-loop-cur l = has_flags l.cur ≡ has_flags l.c
