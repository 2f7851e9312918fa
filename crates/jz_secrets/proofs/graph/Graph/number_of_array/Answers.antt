use Rattle.std.proofs.Common.{rules, refl, ap, ◌∙◌, ◌++◌, ◌∷◌, [], List, ℕ}
use Rattle.jz_layers.specs.Spots.{spot_of, variable_key}
use Rattle.jz_layers.proofs.TableLemmas.{put_is}
use Rattle.jz_secrets.proofs.Graphing.{stays_fine, array_had, array_added}
use Rattle.jz_secrets.proofs.graph.Graph.number_of_array.Goals as goal

pub returns-in-Some-clause-grows : goal.returns-in-Some-clause-grows
returns-in-Some-clause-grows c = stays_fine c.args.self.now

pub returns-in-Some-clause-number : goal.returns-in-Some-clause-number
returns-in-Some-clause-number c =
    array_had c.args.self.now (spot_of c.of-named.result) (variable_key c.args.var.now) c.in-Some.number.now c.of-named.ensures c.in-Some.ensures.value

pub returns-clause-fine : goal.returns-clause-fine
returns-clause-fine c =
    let g = c.args.self.now in
    (array_added g (record g { rows = c.push.new.self; arrays = c.insert.new.self }) (spot_of c.of-named.result) (variable_key c.args.var.now) _ c.requires c.of-named.ensures refl (c.in_ok-push.ensures.items ∙ ap (λ (r : List ℕ). g.rows.items ++ r ∷ []) c.new.ensures)
    (put_is g.arrays c.insert.new.self c.of-named.result _ c.in_ok-insert.ensures.updates.0) c.in-None.ensures.value (search rules)).0

pub returns-clause-grows : goal.returns-clause-grows
returns-clause-grows c =
    let g = c.args.self.now in
    (array_added g (record g { rows = c.push.new.self; arrays = c.insert.new.self }) (spot_of c.of-named.result) (variable_key c.args.var.now) _ c.requires c.of-named.ensures refl (c.in_ok-push.ensures.items ∙ ap (λ (r : List ℕ). g.rows.items ++ r ∷ []) c.new.ensures)
    (put_is g.arrays c.insert.new.self c.of-named.result _ c.in_ok-insert.ensures.updates.0) c.in-None.ensures.value (search rules)).1

pub returns-clause-number : goal.returns-clause-number
returns-clause-number c =
    let g = c.args.self.now in
    (array_added g (record g { rows = c.push.new.self; arrays = c.insert.new.self }) (spot_of c.of-named.result) (variable_key c.args.var.now) _ c.requires c.of-named.ensures refl (c.in_ok-push.ensures.items ∙ ap (λ (r : List ℕ). g.rows.items ++ r ∷ []) c.new.ensures)
    (put_is g.arrays c.insert.new.self c.of-named.result _ c.in_ok-insert.ensures.updates.0) c.in-None.ensures.value (search rules)).2
