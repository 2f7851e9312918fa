use Rattle.std.proofs.Common.{◌∙◌, subst}
use Rattle.jz_declared.specs.Declared.{held_of}
use Rattle.jz_unplaced.specs.declared.numbers.Found.{Found}
use Rattle.jz_unplaced.specs.InnerNumbers.{Finds}
use Rattle.jz_unplaced.proofs.Finding.{name_there, no_name}
use Rattle.jz_unplaced.proofs.naming.name.Goals as goal

pub returns-in-Here : goal.returns-in-Here
returns-in-Here c =
    let hs = held_of c.args.fun.now in
    name_there hs c.args.number c.in-Here.named (subst (λ (z : Found). Finds hs c.args.number z) c.in-Here.is c.in_ok-found.ensures)

pub returns-in-Past : goal.returns-in-Past
returns-in-Past c =
    let hs = held_of c.args.fun.now in
    c.nameless.ensures ∙ no_name hs c.args.number _ (subst (λ (z : Found). Finds hs c.args.number z) c.in-Past.is c.in_ok-found.ensures)
