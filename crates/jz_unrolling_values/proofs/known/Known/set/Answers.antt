use Rattle.std.proofs.Common.{ℕ, List, ◌∷◌, [], ◌++◌, ◌∙◌, ap, sym, Vec, Global}
use Rattle.std.specs.Prelude.{ℤ, Option}
use Rattle.jz_unrolling_values.specs.declared.known.Changed.{Changed}
use Rattle.jz_unrolling_values.proofs.known.Known.set.Goals as goal

pub returns : goal.returns
returns c = record {
  changed =
      c.in_ok-push.ensures.items
      ∙ ap (λ (l : Vec Changed Global). l.items ++ record { name = c.in_ok-clone.field-0; copy = c.args.copy; old = c.number-old.result } ∷ []) c.in_ok-put.ensures.changed
      ∙ ap (λ (n : List ℕ). c.args.self.now.changed.items ++ record { name = n; copy = c.args.copy; old = c.number-old.result } ∷ []) (sym c.in_ok-clone.ensures.cases)
      ∙ ap (λ (o : Option ℤ). c.args.self.now.changed.items ++ record { name = c.args.name.now; copy = c.args.copy; old = o } ∷ []) c.number-old.ensures;
  numbers = c.in_ok-put.ensures.numbers;
}
