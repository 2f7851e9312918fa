-- What a pass by a rule for each part gives has the items of what it makes.
use Rattle.std.proofs.Common.{Bool, true, false, List, ℤ, if◌then◌else◌}
use Rattle.std.specs.Prelude.{⊤}
use Rattle.jz_runs.specs.Trees.{Tree, done, op, quiet, choose, loop, each, call}
use Rattle.jz_change.specs.declared.change.Numbers.{Numbers}
use Rattle.jz_change.specs.Changes.{Change, Changes}
use Rattle.jz_pass.specs.Operations.{in_turn}
use Rattle.jz_pass.specs.Unrolling.{Knowing, Unrolls, u_done, u_op, u_quiet, u_if, u_arm, u_while, u_once, u_for, UnrollsEach, u_none, u_more}
use Rattle.jz_case_names.specs.Items.{Items, no_item, Known, items_before, items_of, AllParts, AreFirst, no_ops, one_op, Gives, gives_none, gives_ops, gives_if, gives_arm, gives_while, gives_once, gives_unrolled, GiveEach, give_none, give_more, Come, none_come, one_comes}

-- operations are their own first items
pub ops_first : {A B O T F C : Type 0} {R : A → Numbers → B → Type 0} (K : Known O T C B) {a : A} {os : List O} {is : List Numbers} (u : Tree O T F C) (Y : Items B)
    → Come R K.of_op a os is → AreFirst R a is (items_before K (in_turn os u) Y) (items_before K u Y)
ops_first K u Y none_come = no_ops
ops_first K u Y (one_comes x m) = one_op x (ops_first K u Y m)

arm_items : {A B : Type 0} {R : A → Numbers → B → Type 0} {O T F C : Type 0} (K : Known O T C A) {k : Change} {Y Y2 : Items B} (z : Bool) (a b : Tree O T F C)
    → Gives R k (items_of K (if z then a else b)) Y Y2 → Gives R k (if z then items_of K a else items_of K b) Y Y2
arm_items K true a b g = g
arm_items K false a b g = g

-- nothing is asked of parts
abbrev pub Any : {A : Type 0} → A → Type 0
Any a = ⊤

-- what the rule has to give of operations and tests that are such
pub record RuleComes {O T F E C O2 T2 C2 A B : Type 0} (K : Knowing O T F E O2 T2) (OfOp : O → Type 0) (OfTest : T → Type 0) (R : A → Numbers → B → Type 0) (L : Known O T C A) (M : Known O2 T2 C2 B) : Type 0 where
  pub ops : (o : O) (e e1 : E) (os : List O2) (is : List Numbers) → OfOp o → K.Op o e os is e1 → Come R M.of_op (L.of_op o) os is
  pub tests : (p : T) (e : E) (os : List O2) (is : List Numbers) (p2 : T2) (i : Numbers) → OfTest p → K.Test p e os is p2 i → Come R M.of_op (L.of_test p) os is × R (L.of_test p) i (M.of_test p2)
  pub loop_tests : (p : T) (e : E) (os : List O2) (is : List Numbers) (p2 : T2) (i : Numbers) → OfTest p → K.LoopTest p e os is p2 i → Come R M.of_op (L.of_test p) os is × R (L.of_test p) i (M.of_test p2)

arm_parts : {O T F C : Type 0} (OfOp : O → Type 0) (OfTest : T → Type 0) (z : Bool) (a b : Tree O T F C) → AllParts OfOp OfTest a → AllParts OfOp OfTest b → AllParts OfOp OfTest (if z then a else b)
arm_parts OfOp OfTest true a b h k = h
arm_parts OfOp OfTest false a b h k = k

module _ {O T F C E O2 T2 F2 C2 A B : Type 0} (K : Knowing O T F E O2 T2) (OfOp : O → Type 0) (OfTest : T → Type 0) (R : A → Numbers → B → Type 0) (L : Known O T C A) (M : Known O2 T2 C2 B) (H : RuleComes K OfOp OfTest R L M) where
  mutual
    pub unrolled_items : {t : Tree O T F C} {e e1 : E} {rest u : Tree O2 T2 F2 C2} {k : Change} (Y : Items B) → AllParts OfOp OfTest t → Unrolls K t e rest u e1 k → Gives R k (items_of L t) (items_before M u Y) (items_before M rest Y)
    unrolled_items Y w u_done = gives_none
    unrolled_items Y w (u_op {o} {e} {e1} {u} {os} {is} h i) = gives_ops (ops_first M u Y (H.ops o e e1 os is w.0 h)) (unrolled_items Y w.1 i)
    unrolled_items Y w (u_quiet h i) = unrolled_items Y w i
    unrolled_items Y w (u_if {p} {e} {u} {a2} {b2} {os} {is} {p2} {i = it} x ia ib la lb i) =
        let t = H.tests p e os is p2 it w.0 x in
        gives_if (ops_first M (choose p2 a2 b2 u) Y t.0) t.1 (unrolled_items no_item w.1 ia) (unrolled_items no_item w.2 ib) (unrolled_items Y w.3 i)
    unrolled_items Y w (u_arm {a} {b} {z} x ia i) = gives_arm no_ops (arm_items L z a b (unrolled_items Y (arm_parts OfOp OfTest z a b w.1 w.2) ia)) (unrolled_items Y w.3 i)
    unrolled_items Y w (u_while {p} {eq} {os} {is} {p2} {i = it} le x iq ib lb lr i) =
        let t = H.loop_tests p eq os is p2 it w.1 x in
        gives_while (unrolled_items no_item w.0 iq) (ops_first M done no_item t.0) t.1 (unrolled_items no_item w.2 ib) (unrolled_items Y w.3 i)
    unrolled_items Y w (u_once iq x i) = gives_once (unrolled_items Y w.0 iq) no_ops (unrolled_items Y w.3 i)
    unrolled_items Y w (u_for x ir i) = gives_unrolled (rounds_items Y w.0 ir) (unrolled_items Y w.1 i)

    rounds_items : {f : F} {b : Tree O T F C} {is : List ℤ} {e e1 : E} {rest u : Tree O2 T2 F2 C2} {ts : Changes} (Y : Items B) → AllParts OfOp OfTest b → UnrollsEach K f b is e rest u e1 ts → GiveEach R ts (items_of L b) (items_before M u Y) (items_before M rest Y)
    rounds_items Y w u_none = give_none
    rounds_items Y w (u_more ib ir) = give_more (unrolled_items Y w ib) (rounds_items Y w ir)

-- nothing is asked of all of them
pub any_parts : {O T F C : Type 0} (t : Tree O T F C) → AllParts Any Any t
any_parts done = tt
any_parts (op o r) = (tt, any_parts r)
any_parts (quiet o r) = any_parts r
any_parts (choose t a b r) = (tt, any_parts a, any_parts b, any_parts r)
any_parts (loop h q t b r) = (any_parts q, tt, any_parts b, any_parts r)
any_parts (each f b r) = (any_parts b, any_parts r)
any_parts (call c b r) = (any_parts b, any_parts r)
