-- What unrolling and inlining give has the cases of what they make.
use Rattle.std.proofs.Common.{ℕ, suc, ◌+◌, Bool, true, false, List, ℤ, if◌then◌else◌}
use Rattle.jz_runs.specs.Trees.{Tree, done, op, quiet, choose, loop, each, call}
use Rattle.jz_change.specs.declared.change.Numbers.{Numbers}
use Rattle.jz_change.specs.Changes.{Change, Changes}
use Rattle.jz_pass.specs.Operations.{in_turn}
use Rattle.jz_pass.specs.Copying.{Copying, copies, inlined, inlining}
use Rattle.jz_pass.specs.Unrolling.{Knowing, Unrolls, u_done, u_op, u_quiet, u_if, u_arm, u_while, u_once, u_for, UnrollsEach, u_none, u_more}
use Rattle.jz_pass.specs.Cases.{Cases, no_case, cases_before, cases_of, AreFirst, no_items, one_item, Gives, gives_none, gives_ops, gives_if, gives_arm, gives_while, gives_once, gives_for, gives_unrolled, gives_opened, GiveEach, give_none, give_more, AsMany, none_each, one_each, HasItems, CallsHaveItems}

-- operations are their own first cases
ops_first : {O T F C : Type 0} {os : List O} {is : List Numbers} (u : Tree O T F C) (Y : Cases) → AsMany os is → AreFirst is (cases_before (in_turn os u) Y) (cases_before u Y)
ops_first u Y none_each = no_items
ops_first u Y (one_each m) = one_item (ops_first u Y m)

arm_cases : {O T F C : Type 0} {k : Change} {Y Y2 : Cases} (z : Bool) (a b : Tree O T F C) → Gives k (cases_of (if z then a else b)) Y Y2 → Gives k (if z then cases_of a else cases_of b) Y Y2
arm_cases true a b g = g
arm_cases false a b g = g

module _ {O T F C E O2 T2 F2 C2 : Type 0} (K : Knowing O T F E O2 T2) (L : HasItems K) where
  mutual
    pub unrolled_cases : {t : Tree O T F C} {e e1 : E} {rest u : Tree O2 T2 F2 C2} {k : Change} (Y : Cases) → Unrolls K t e rest u e1 k → Gives k (cases_of t) (cases_before u Y) (cases_before rest Y)
    unrolled_cases Y u_done = gives_none
    unrolled_cases Y (u_op {o} {e} {e1} {u} {os} {is} h i) = gives_ops (ops_first u Y (L.ops o e e1 os is h)) (unrolled_cases Y i)
    unrolled_cases Y (u_quiet h i) = unrolled_cases Y i
    unrolled_cases Y (u_if {p} {e} {u} {a2} {b2} {os} {is} {p2} {i = it} x ia ib la lb i) = gives_if (ops_first (choose p2 a2 b2 u) Y (L.tests p e os is p2 it x)) (unrolled_cases no_case ia) (unrolled_cases no_case ib) (unrolled_cases Y i)
    unrolled_cases Y (u_arm {a} {b} {z} x ia i) = gives_arm no_items (arm_cases z a b (unrolled_cases Y ia)) (unrolled_cases Y i)
    unrolled_cases Y (u_while {p} {eq} {os} {is} {p2} {i = it} le x iq ib lb lr i) = gives_while (unrolled_cases no_case iq) (ops_first done no_case (L.loop_tests p eq os is p2 it x)) (unrolled_cases no_case ib) (unrolled_cases Y i)
    unrolled_cases Y (u_once iq x i) = gives_once (unrolled_cases Y iq) no_items (unrolled_cases Y i)
    unrolled_cases Y (u_for x ir i) = gives_unrolled (rounds_cases Y ir) (unrolled_cases Y i)

    rounds_cases : {f : F} {b : Tree O T F C} {is : List ℤ} {e e1 : E} {rest u : Tree O2 T2 F2 C2} {ts : Changes} (Y : Cases) → UnrollsEach K f b is e rest u e1 ts → GiveEach ts (cases_of b) (cases_before u Y) (cases_before rest Y)
    rounds_cases Y u_none = give_none
    rounds_cases Y (u_more ib ir) = give_more (unrolled_cases Y ib) (rounds_cases Y ir)

module _ {O T F C X : Type 0} (K : Copying O T F C X) (L : CallsHaveItems K) where
  pub inlined_cases : (t : Tree O T F C) (x : X) (c : ℕ) (rest : Tree O T F C) (Y : Cases) → Gives (inlining K x c t) (cases_of t) (cases_before (inlined K x c t rest) Y) (cases_before rest Y)
  inlined_cases done x c rest Y = gives_none
  inlined_cases (op o r) x c rest Y = gives_ops (one_item no_items) (inlined_cases r x c rest Y)
  inlined_cases (quiet o r) x c rest Y = inlined_cases r x c rest Y
  inlined_cases (choose t a b r) x c rest Y =
      gives_if no_items (inlined_cases a x c done no_case) (inlined_cases b x (c + copies a) done no_case) (inlined_cases r x (c + copies a + copies b) rest Y)
  inlined_cases (loop q p t b r) x c rest Y =
      gives_while (inlined_cases p x c done no_case) no_items (inlined_cases b x (c + copies p) done no_case) (inlined_cases r x (c + copies p + copies b) rest Y)
  inlined_cases (each f b r) x c rest Y = gives_for (inlined_cases b x c done no_case) (inlined_cases r x (c + copies b) rest Y)
  inlined_cases (call q b r) x c rest Y =
      let y = K.callee x c q in let d = suc c + copies b in
      let u4 = inlined K x d r rest in let u3 = in_turn (K.results x c q) u4 in let u2 = inlined K y (suc c) b u3 in
      gives_opened (ops_first (quiet (K.mark x c q) u2) Y (L.arguments x c q)) (inlined_cases b y (suc c) u3 Y) (ops_first u4 Y (L.results x c q)) (inlined_cases r x d rest Y)
