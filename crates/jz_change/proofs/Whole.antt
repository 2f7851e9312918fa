-- What was composed is the composition.
use Rattle.std.proofs.Common.{◌≡◌, sym, ap, ◌∙◌, subst}
use Rattle.jz_change.specs.declared.change.Change.{Change}
use Rattle.jz_change.specs.Composing.{join, compose_of, Composes}
use Rattle.jz_change.specs.Views.{change_of, steps_of}
use Rattle.jz_change.proofs.Composition.{composes}
use Rattle.jz_change.proofs.StepViews.{change_is}

pub composed : (a b c : Change) → change_of c ≡ (join (change_of a) (steps_of b.steps)).change → change_of c ≡ compose_of (change_of a) (change_of b)
composed a b c e = e ∙ ap (λ o. (join (change_of a) o).change) (sym (change_is b))

pub composed_law : (a b c : Change) → change_of c ≡ (join (change_of a) (steps_of b.steps)).change → Composes (change_of a) (change_of b) (change_of c)
composed_law a b c e = subst (Composes (change_of a) (change_of b)) (sym (composed a b c e)) (composes (change_of a) (change_of b))
