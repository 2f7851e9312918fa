use Rattle.std.proofs.Common.{◌≡◌, ◌++◌, [], ◌∷◌, map, ap, sym, ◌∙◌}
use Rattle.std.proofs.lemmas.List.{map-append}
use Rattle.jz_type_names.specs.Scopes.{name_of}
use Rattle.jz_type_names.specs.Parts.{names_in}
use Rattle.jz_type_names.specs.Lent.{these, this}
use Rattle.jz_type_names.proofs.Stacks.{one_turn, less_left}
use Rattle.jz_type_names.proofs.exprs.names.Goals as goal

popped : (c : goal.In_ok-add-3) → these c.loop-e.rest.items ≡ these c.pop.new.self.items ++ c.in-Some.e.now ∷ []
popped c = ap these c.in-Some.ensures.items ∙ map-append (λ x. x.now) c.pop.new.self.items _

rested : (c : goal.In_ok-add-3) → these c.add-in-Some-2.new.list.items ≡ (these c.pop.new.self.items ++ this c.take_apart-parts.result.second) ++ this c.take_apart-parts.result.first
rested c = c.in_ok-add-3.ensures ∙ ap (λ l. l ++ this c.take_apart-parts.result.first) c.in_ok-add-2.ensures

pub loop-e-smaller : goal.loop-e-smaller
loop-e-smaller c = rw (rested c, popped c) (less_left _ _ _ _ c.take_apart-parts.ensures.smaller)

pub loop-e-preserved : goal.loop-e-preserved
loop-e-preserved c =
    let parts = c.take_apart-parts.result
    in rw (rested c, c.in_ok-add.ensures, map-append name_of (these c.loop-e.names.items) (this parts.var))
    (one_turn names_in (map name_of (these c.loop-e.names.items)) (map name_of (this parts.var)) (names_in c.args.expr.now) (these c.pop.new.self.items) c.in-Some.e.now parts.first parts.second
    (rw (sym (popped c)) c.loop-e.invariant) c.take_apart-parts.ensures.names)
