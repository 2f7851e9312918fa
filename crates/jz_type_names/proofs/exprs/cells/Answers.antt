use Rattle.std.proofs.Common.{◌≡◌, ◌++◌, [], ◌∷◌, ap, sym, ◌∙◌}
use Rattle.std.proofs.lemmas.List.{map-append}
use Rattle.jz_type_names.specs.Parts.{cells_in}
use Rattle.jz_type_names.specs.Lent.{these, this, paired_lists}
use Rattle.jz_type_names.specs.InnerLists.{own_cell}
use Rattle.jz_type_names.proofs.Stacks.{one_turn, less_left}
use Rattle.jz_type_names.proofs.exprs.cells.Goals as goal

popped : (c : goal.In_ok-add-2) → these c.loop-e.rest.items ≡ these c.pop.new.self.items ++ c.in-Some.e.now ∷ []
popped c = ap these c.in-Some.ensures.items ∙ map-append (λ x. x.now) c.pop.new.self.items _

rested : (c : goal.In_ok-add-2) → these c.add-in-Some.new.list.items ≡ (these c.pop.new.self.items ++ this c.take_apart-parts.result.second) ++ this c.take_apart-parts.result.first
rested c = c.in_ok-add-2.ensures ∙ ap (λ l. l ++ this c.take_apart-parts.result.first) c.in_ok-add.ensures

pub loop-e-smaller : goal.loop-e-smaller
loop-e-smaller c = rw (rested c, popped c) (less_left _ _ _ _ c.take_apart-parts.ensures.smaller)

pub loop-e-preserved : goal.loop-e-preserved
loop-e-preserved c =
    let parts = c.take_apart-parts.result
    in rw (rested c, c.in_ok-add_cell.ensures)
    (one_turn cells_in (paired_lists c.loop-e.cells.items) (own_cell parts.var parts.first) (cells_in c.args.expr.now) (these c.pop.new.self.items) c.in-Some.e.now parts.first parts.second
    (rw (sym (popped c)) c.loop-e.invariant) c.take_apart-parts.ensures.cells)
