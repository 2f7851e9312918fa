-- The earliest of several lists.
use Rattle.std.proofs.Common.{◌≡◌, List, [], ◌∷◌, refl, ap, ◌∙◌}
use Rattle.jz_tree.specs.Span.{Span}
use Rattle.jz_type_names.specs.Order.{earlier, earliest}
use Rattle.jz_type_names.proofs.Earliest.{earliest-append, first_in-is, earlier-assoc, none-earlier, earlier-none}
use Rattle.jz_type_sizes.specs.Firsts.{wrong_beside}
use Rattle.jz_type_sizes.specs.InnerFound.{first_beside}

pub earliest_beside : {A B : Type 0} (f : A → B → List Span) (more : B → List Span) (xs : List A) (ys : List B) → earliest (wrong_beside f more xs ys) ≡ first_beside f more xs ys
earliest_beside f more xs [] = refl
earliest_beside f more [] (y ∷ ys) = earliest-append (more y) (wrong_beside f more [] ys) ∙ ap (earlier (earliest (more y))) (earliest_beside f more [] ys)
earliest_beside f more (x ∷ xs) (y ∷ ys) = earliest-append (f x y) (wrong_beside f more xs ys) ∙ ap (earlier (earliest (f x y))) (earliest_beside f more xs ys)

pub ruleset joins = (earliest-append, first_in-is, earliest_beside, earlier-assoc, none-earlier, earlier-none)
