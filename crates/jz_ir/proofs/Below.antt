-- What lives is a variable of the operations.
use Rattle.std.proofs.Common.{ℕ, suc, ◌<◌, inl, inr, List, [], ◌∷◌, IsTrue, arith, subst}
use Rattle.std.specs.List.{All}
use Rattle.std.specs.Prelude.{nat_eq}
use Rattle.std.proofs.lemmas.Bool.{eqb-true, or_cases}
use Rattle.jz_ir.specs.declared.code.Op.{Op}
use Rattle.jz_ir.specs.Paths.{among, IsLive, read_here, read_later}
use Rattle.jz_ir.specs.Places.{Below, no_op}
use Rattle.jz_ir.specs.Straight.{Next, next}

pub among_below : (xs : List ℕ) (u n : ℕ) → All (λ x. x < n) xs → IsTrue (among xs u) → u < n
among_below [] u n a h = cc
among_below (x ∷ xs) u n a h = elim (or_cases (nat_eq x u) (among xs u) h) [
  | inl e ↦ subst (λ y. y < n) (eqb-true x u e) (a 0 0 (omega arith))
  | inr t ↦ among_below xs u n (λ i d k. a (suc i) d (omega arith)) t
]

pub live_below : (n v : ℕ) (ops : List Op) → All (Below n) ops → IsLive Next v ops → v < n
live_below n v ops b (read_here next h) = among_below _ v n (b 0 no_op (omega arith)).reads h
live_below n v ops b (read_later (next {o} {rest}) w l) = live_below n v rest (λ i d k. b (suc i) d (omega arith)) l
