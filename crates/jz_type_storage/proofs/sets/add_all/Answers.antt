use Rattle.std.proofs.Common.{◌≡◌, ◌+◌, rules, arith, sym, ap, ◌∙◌, subst, ◌∷◌, drop}
use Rattle.std.proofs.lemmas.List.{drop_more, drop_all}
use Rattle.jz_type_storage.specs.InnerWalks.{Adds, AddsAll}
use Rattle.jz_type_storage.proofs.Adding.{adds_none, adds_one}
use Rattle.jz_type_storage.proofs.sets.add_all.Goals as goal

pub loop-name-preserved : goal.loop-name-preserved
loop-name-preserved c = λ new held.
    let xs = c.args.names.now in
    let i = c.loop-name.name-index in
    let m = c.name-item.result in
    let same : c.in_ok-clone.field-0 ≡ m = search rules in
    let left : m ∷ drop (i + 1) xs ≡ drop i xs = sym (drop_more xs i m c.loop-name-test.true ∙ ap (λ y. y ∷ drop (i + 1) xs) (sym c.name-item.is)) in
    c.loop-name.invariant new
    (subst (λ ms. AddsAll c.loop-name.set.keys ms new) left
    (adds_one c.loop-name.set.keys c.add.new.set.keys m (drop (i + 1) xs) new (subst (λ n. Adds c.loop-name.set.keys n c.add.new.set.keys) same c.in_ok-add.ensures) held))

pub returns : goal.returns
returns c =
    c.loop-name.invariant c.loop-name.set.keys
    (subst (λ ms. AddsAll c.loop-name.set.keys ms c.loop-name.set.keys) (sym (drop_all c.loop-name.name-index c.args.names.now (omega arith))) (adds_none c.loop-name.set.keys))
