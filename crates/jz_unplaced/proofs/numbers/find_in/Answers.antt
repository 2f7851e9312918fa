use Rattle.std.proofs.Common.{map, subst}
use Rattle.std.specs.List.{flat_map}
use Rattle.jz_tree.specs.declared.program.Param.{Param}
use Rattle.jz_declared.specs.Declared.{held_for}
use Rattle.jz_unplaced.specs.declared.numbers.Found.{Found}
use Rattle.jz_unplaced.specs.InnerNumbers.{Finds}
use Rattle.jz_unplaced.proofs.Finding.{first_found, then_found}
use Rattle.jz_unplaced.proofs.numbers.find_in.Goals as goal

pub returns-in-Here : goal.returns-in-Here
returns-in-Here c =
    let xs = map (λ (p : Param). p.var) c.args.fun.now.params in
    first_found xs c.args.fun.now.vars c.args.number c.in-Here.named
    (subst (λ (z : Found). Finds (flat_map held_for xs) c.args.number z) c.in-Here.is c.in_ok-found.ensures)

pub returns-in_ok-behind-in-Past : goal.returns-in_ok-behind-in-Past
returns-in_ok-behind-in-Past c =
    let xs = map (λ (p : Param). p.var) c.args.fun.now.params in
    then_found xs c.args.fun.now.vars c.args.number c.in-Past.rest c.in_ok-behind-in-Past.behind
    (subst (λ (z : Found). Finds (flat_map held_for xs) c.args.number z) c.in-Past.is c.in_ok-found.ensures) c.in_ok-behind-in-Past.ensures
