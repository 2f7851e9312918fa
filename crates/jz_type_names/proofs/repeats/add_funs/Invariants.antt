use Rattle.std.proofs.Common.{◌≡◌, ◌++◌, take, map}
use Rattle.jz_type_names.specs.InnerLists.{these_names}
use Rattle.jz_type_names.proofs.repeats.add_funs.Given as goal

abbrev pub invariant-loop-fun : goal.invariant-loop-fun
invariant-loop-fun l = these_names l.list.items ≡ these_names l.initial.list.items ++ map (λ f. (f.name, f.span)) (take l.fun-index l.fun-items)
