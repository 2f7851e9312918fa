use Rattle.std.proofs.Common.{◌≡◌, ◌++◌, take, map}
use Rattle.jz_type_names.specs.InnerLists.{these_names}
use Rattle.jz_type_names.proofs.repeats.add_consts.Given as goal

abbrev pub invariant-loop-constant : goal.invariant-loop-constant
invariant-loop-constant l = these_names l.list.items ≡ these_names l.initial.list.items ++ map (λ c. (c.name, c.span)) (take l.constant-index l.constant-items)
