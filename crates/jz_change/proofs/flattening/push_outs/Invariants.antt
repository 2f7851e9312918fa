use Rattle.std.proofs.Common.{◌≡◌, ◌++◌, map, take}
use Rattle.jz_change.specs.Flattening.{out_by}
use Rattle.jz_change.proofs.flattening.push_outs.Given as goal

abbrev pub invariant-loop-out : goal.invariant-loop-out
invariant-loop-out l = l.outs.items ≡ l.initial.outs.items ++ take l.out-index l.out-items

abbrev pub invariant-loop-one : goal.invariant-loop-one
invariant-loop-one l = l.outs.items ≡ l.initial.outs.items ++ map (out_by l.these) (take l.one-index l.one-items)
