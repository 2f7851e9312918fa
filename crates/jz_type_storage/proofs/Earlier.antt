-- The earlier of two places, whichever stands first.
use Rattle.std.proofs.Common.{◌≡◌, Bool, true, false, Option, Some, None, refl, ap}
use Rattle.std.specs.Prelude.{if◌then◌else◌}
use Rattle.jz_tree.specs.Span.{Span}
use Rattle.jz_type_names.specs.Order.{is_before, earlier}
use Rattle.jz_type_names.proofs.Standing.{before_is, clash, at_least, only_place}

pub earlier-same : (x : Option Span) → earlier x x ≡ x
earlier-same None = refl
earlier-same (Some x) = elim (is_before x x) as (λ b. (if b then Some x else Some x) ≡ Some x) [ true ↦ refl | false ↦ refl ]

swap_two : (x y : Span) (p q : Bool) → is_before y x ≡ p → is_before x y ≡ q → (if p then Some y else Some x) ≡ (if q then Some x else Some y)
swap_two x y true true p q = absurd (clash x y (before_is x y q) (before_is y x p))
swap_two x y true false p q = refl
swap_two x y false true p q = refl
swap_two x y false false p q = ap Some (only_place x y (at_least x y p) (at_least y x q))

pub earlier-swap : (x y : Option Span) → earlier x y ≡ earlier y x
earlier-swap None None = refl
earlier-swap None (Some y) = refl
earlier-swap (Some x) None = refl
earlier-swap (Some x) (Some y) = swap_two x y _ _ refl refl
