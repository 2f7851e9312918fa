-- What unrolling makes of a tree has neither a `for` nor a call.
use Rattle.std.proofs.Common.{List, [], ◌∷◌}
use Rattle.jz_runs.specs.Trees.{Tree, done, op, quiet, choose, loop, each, call}
use Rattle.jz_meaning.specs.Statements.{Block}
use Rattle.jz_change.specs.Changes.{Change, Changes}
use Rattle.std.specs.Prelude.{ℤ}
use Rattle.jz_flow.specs.Soundness.{AllAre}
use Rattle.jz_pass.specs.Operations.{in_turn}
use Rattle.jz_pass.specs.Unrolling.{Knowing, Unrolls, u_done, u_op, u_quiet, u_if, u_arm, u_while, u_once, u_for, UnrollsEach, u_none, u_more}
use Rattle.jz_one_expansion.proofs.ScalarTrees.{tree_made}

abbrev pub NoFor : {O T F C : Type 0} → Tree O T F C → Type 0
NoFor t = AllAre (λ o. Unit {0}) (λ c. Unit {0}) t

ops_before : {O T F C : Type 0} (os : List O) (u : Tree O T F C) → NoFor u → NoFor (in_turn os u)
ops_before [] u h = h
ops_before (o ∷ os) u h = (tt, ops_before os u h)

module _ {O T F C E O2 T2 F2 C2 : Type 0} (K : Knowing O T F E O2 T2) where
  mutual
    pub unrolled_plain : {t : Tree O T F C} {e e2 : E} {rest u : Tree O2 T2 F2 C2} {k : Change} → Unrolls K t e rest u e2 k → NoFor rest → NoFor u
    unrolled_plain u_done h = h
    unrolled_plain (u_op {u} {os} x d) h = ops_before os u (unrolled_plain d h)
    unrolled_plain (u_quiet x d) h = (tt, unrolled_plain d h)
    unrolled_plain (u_if {u} {a2} {b2} {os} {p2} x da db la lb d) h =
        ops_before os (choose p2 a2 b2 u) (tt, unrolled_plain da tt, unrolled_plain db tt, unrolled_plain d h)
    unrolled_plain (u_arm x da d) h = unrolled_plain da (unrolled_plain d h)
    unrolled_plain (u_while {os} l0 x dq db l1 l2 d) h =
        (tt, unrolled_plain dq (ops_before os done tt), unrolled_plain db tt, unrolled_plain d h)
    unrolled_plain (u_once dq x d) h = unrolled_plain dq (unrolled_plain d h)
    unrolled_plain (u_for x ds d) h = rounds_plain ds (unrolled_plain d h)

    rounds_plain : {f : F} {b : Tree O T F C} {is : List ℤ} {e e2 : E} {rest u : Tree O2 T2 F2 C2} {ts : Changes} → UnrollsEach K f b is e rest u e2 ts → NoFor rest → NoFor u
    rounds_plain u_none h = h
    rounds_plain (u_more d ds) h = unrolled_plain d (rounds_plain ds h)

pub made_plain : (t : Block) → NoFor t → NoFor (tree_made t)
unfolding tree_made
made_plain done h = tt
made_plain (op o r) h = (tt, made_plain r h.1)
made_plain (quiet o r) h = (tt, made_plain r h.1)
made_plain (choose p a b r) h = (tt, made_plain a h.1, made_plain b h.2, made_plain r h.3)
made_plain (loop w q p b r) h = (tt, made_plain q h.1, made_plain b h.2, made_plain r h.3)
made_plain (each f b r) h = absurd h
made_plain (call c b r) h = absurd h
