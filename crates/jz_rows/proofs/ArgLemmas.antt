-- What stands among variables.
use Rattle.std.proofs.Common.{◌≡◌, ℕ, Bool, true, false, List, [], ◌∷◌, ◌++◌, refl, sym, ap, append-nil}
use Rattle.std.specs.Prelude.{nat_eq, ◌||◌}
use Rattle.std.proofs.lemmas.List.Folds.{list_any-append}
use Rattle.jz_ir.specs.Paths.{among}

or_false : (a : Bool) → (a || false) ≡ a
or_false true = refl
or_false false = refl

pub among_one : (w v : ℕ) → nat_eq w v ≡ among (w ∷ []) v
among_one w v = sym (or_false (nat_eq w v))

pub among_both : (xs ys : List ℕ) (v : ℕ) → (among xs v || among ys v) ≡ among (xs ++ ys) v
among_both xs ys v = sym (list_any-append (λ x. nat_eq x v) xs ys)

pub among_none_behind : (xs : List ℕ) (v : ℕ) → among xs v ≡ among (xs ++ []) v
among_none_behind xs v = ap (λ l. among l v) (sym (append-nil xs))
