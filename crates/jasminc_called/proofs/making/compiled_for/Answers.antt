use Rattle.std.proofs.Common.{◌≡◌, List, subst, sym}
use Rattle.std.specs.Prelude.{Some}
use Rattle.jz_listing.specs.declared.compiled.Compiled.{Compiled}
use Rattle.jasminc_called.specs.Making.{compiled_named}
use Rattle.jasminc_called.proofs.Named.{one_compiled, compiled_as}
use Rattle.jasminc_called.proofs.making.compiled_for.Goals as goal

pub named_in-requires : goal.named_in-requires
named_in-requires c =
    subst (λ (made : List Compiled). (d : Compiled) × (compiled_named c.args.fun.now made ≡ Some d)) (sym c.as_slice.ensures)
    (one_compiled c.requires.0 c.args.fun.now c.args.made.now c.requires.1)

pub returns : goal.returns
returns c =
    compiled_as c.requires.0 c.args.fun.now c.args.made.now c.requires.1 c.named_in.result.now
    (subst (λ (made : List Compiled). compiled_named c.args.fun.now made ≡ Some c.named_in.result.now) c.as_slice.ensures c.named_in.ensures)
