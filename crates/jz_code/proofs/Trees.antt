-- The operations of a function, one by one: each is over its variables, and each return has its register.
use Rattle.std.proofs.Common.{◌≡◌, ◌≢◌, ℕ, ◌<◌, ⊎_elim, Bool, true, false, ◌||◌, List, [], ◌∷◌, ◌++◌, length, IsTrue, Option, Some, None, refl, subst, arith, nat_eq, nat_le, nat_lt, map}
use Rattle.std.specs.Prelude.{slice_index_or}
use Rattle.std.specs.List.{All, AllByRecursion, list_all}
use Rattle.std.proofs.lemmas.Bool.{and_parts, or_cases, ltb-true, eqb-true}
use Rattle.std.proofs.lemmas.Bool.Decides.{nat_tests}
use Rattle.std.proofs.lemmas.List.{get_or-map, length-map}
use Rattle.std.proofs.lemmas.List.Elements.{All-head, All-tail, All-from_get_or, All-get_or}
use Rattle.x64_insn.specs.declared.types.Place.{Place}
use Rattle.x64_insn.specs.declared.types.Place.TheVariants as place
use Rattle.x64_insn.specs.declared.types.Reg.TheVariants as reg
use Rattle.jz_ir.specs.declared.code.Kind.{Kind}
use Rattle.jz_ir.specs.declared.code.Kind.TheVariants.{Word, Flag}
use Rattle.jz_ir.specs.declared.code.Need.{Need}
use Rattle.jz_ir.specs.declared.code.Op.{Op}
use Rattle.jz_ir.specs.Order.{number_of, has_place}
use Rattle.jz_ir.specs.Paths.{among}
use Rattle.jz_ir.specs.Places.{no_op, Below, IsWithin, is_of_kind, kind_has, op_fits, place_at, IsPlacing}
use Rattle.jz_ir.specs.Tree as ir
use Rattle.jz_ir.specs.Tree.{Frame, at, test, at_test, states, op_of, ops_of}
use Rattle.jz_live.specs.Lives.{TreeBelow, TestBelow, live_before}
use Rattle.jz_runs.specs.Trees.{done, op, quiet, choose, loop, each, call}
use Rattle.jz_operations.specs.Reading.{seen_of}
use Rattle.jz_operations.specs.Insns.{reg_of}
use Rattle.jz_placing.specs.Variables.{Body, test_of}
use Rattle.jz_placing.specs.Flow.{asked_op, flow, then_ops}
use Rattle.jz_placing.proofs.Fronts.{front_of, back_of}
use Rattle.jz_placing.proofs.Allocated.{IsPlacedAt, placed_at}
use Rattle.jz_place.specs.declared.tree.Ir.{Ir}
use Rattle.jz_place.specs.declared.tree.Passed.{Passed}
use Rattle.jz_place.specs.Bodies.{body_of, entry_op, return_op, returns_of, whole_of, seen_code, LiveInWhole}

-- ---- operations over variables
module _ (n : ℕ) where
  abbrev Small : List Frame → Type 0
  Small s = Below n (op_of s)

  test_below : (p : ir.Tree) (c : Option Op) (b r : ir.Tree) (k : List Frame) → All Small (at_test p c b r k) → TestBelow n c
  test_below p None b r k a = tt
  test_below p (Some c) b r k a = All-head Small (test p (Some c) b r ∷ k) [] a

  tree_below : (t : ir.Tree) (k : List Frame) → All Small (states t k) → TreeBelow n t
  tree_below ir.done k a = tt
  tree_below (ir.op o t) k a = (All-head Small (at (ir.op o t) ∷ k) (states t k) a, tree_below t k (All-tail Small (at (ir.op o t) ∷ k) (states t k) a))
  tree_below (ir.choose c x y r) k a =
      let f : List Frame = at r ∷ k in
      let h = All-head Small (at (ir.choose c x y r) ∷ k) (states x f ++ (states y f ++ states r k)) a in
      let t = All-tail Small (at (ir.choose c x y r) ∷ k) (states x f ++ (states y f ++ states r k)) a in
      let u = back_of Small (states x f) (states y f ++ states r k) t in
      (h, tree_below x f (front_of Small (states x f) (states y f ++ states r k) t), tree_below y f (front_of Small (states y f) (states r k) u), tree_below r k (back_of Small (states y f) (states r k) u))
  tree_below (ir.loop p c b r) k a =
      let kp : List Frame = test p c b r ∷ k in
      let kb : List Frame = at (ir.loop p c b r) ∷ k in
      let t = back_of Small (states p kp) (at_test p c b r k ++ (states b kb ++ states r k)) a in
      let u = back_of Small (at_test p c b r k) (states b kb ++ states r k) t in
      (tree_below p kp (front_of Small (states p kp) (at_test p c b r k ++ (states b kb ++ states r k)) a), test_below p c b r k (front_of Small (at_test p c b r k) (states b kb ++ states r k) t), tree_below b kb (front_of Small (states b kb) (states r k) u), tree_below r k (back_of Small (states b kb) (states r k) u))

  all_below : (t : ir.Tree) → All (Below n) (ops_of t) → TreeBelow n t
  all_below t all = tree_below t [] (All-from_get_or Small (states t []) [] (λ j lt. subst (Below n) (get_or-map op_of (states t []) j [] no_op lt) (All-get_or (Below n) (ops_of t) j no_op (let e = length-map (states t []) op_of in omega (arith, e, lt)) all)))

  behind_ops : (xs : List Op) (t : ir.Tree) → TreeBelow n (then_ops xs t) → TreeBelow n t
  behind_ops [] t h = h
  behind_ops (x ∷ xs) t h = behind_ops xs t h.1

pub body_below : (f : Ir) → IsWithin (seen_code f) → TreeBelow (length f.kinds) (flow seen_of test_of (body_of f.body) (returns_of f))
body_below f w = behind_ops (length f.kinds) (map entry_op f.entry) (flow seen_of test_of (body_of f.body) (returns_of f)) (all_below (length f.kinds) (whole_of f) w)

pub among_below : (n : ℕ) (xs : List ℕ) (v : ℕ) → All (λ v. v < n) xs → IsTrue (among xs v) → v < n
among_below n [] v a t = absurd cc
among_below n (x ∷ xs) v a t =
    ⊎_elim (λ e. subst (λ y. y < n) (eqb-true x v e) (All-head (λ y. y < n) x xs a)) (λ r. among_below n xs v (All-tail (λ y. y < n) x xs a) r) (or_cases (nat_eq x v) (among xs v) t)

-- ---- no variable is in the stack pointer
below_twenty : (k : Kind) (q : ℕ) → IsTrue (is_of_kind k q) → q < 20
below_twenty Word q t = let l : q < 15 = ltb-true q 15 t in omega (arith, l)
below_twenty Flag q t = ltb-true q 20 (and_parts (nat_le 15 q) (nat_lt q 20) t).1

rax_is_other : reg.Rax ≡ reg.Rsp → ⊥
rax_is_other e = cc

not_rsp : (p : Place) → number_of p < 20 → reg_of p ≢ reg.Rsp
not_rsp (place.Reg r) lt = λ e. absurd (let l : number_of (place.Reg reg.Rsp) < 20 = subst (λ x. number_of (place.Reg x) < 20) e lt in omega (arith, l))
not_rsp (place.Flag g) lt = λ e. rax_is_other e

module _ (f : Ir) (list : List Place) (rule : IsPlacing (seen_code f) (LiveInWhole f) list) where
  pub off_stack : (v : ℕ) → v < length f.kinds → reg_of (place_at list v) ≢ reg.Rsp
  off_stack v l =
      let q : ℕ = number_of (place_at list v) in
      let k = (and_parts (kind_has f.kinds f.in_use v q) (list_all (op_fits v q) (seen_code f).ops) (rule.meets_needs v l)).0 in
      let w = (and_parts (is_of_kind (slice_index_or f.kinds v Word) q) (has_place f.in_use q) k).0 in
      not_rsp (place_at list v) (below_twenty (slice_index_or f.kinds v Word) q w)

-- ---- returns
module _ (Q : List Frame → Type 0) where
  behind_entry : (xs : List Op) (t : ir.Tree) (st : List Frame) → All Q (states (then_ops xs t) st) → All Q (states t st)
  behind_entry [] t st a = a
  behind_entry (x ∷ xs) t st a = behind_entry xs t st (All-tail Q (at (ir.op x (then_ops xs t)) ∷ st) (states (then_ops xs t) st) a)

  abbrev stream : Body → ir.Tree → ir.Tree
  stream t rest = flow seen_of test_of t rest

  behind_body : (t : Body) (rest : ir.Tree) (st : List Frame) → All Q (states (stream t rest) st) → All Q (states rest st)
  behind_body done rest st a = a
  behind_body (op o r) rest st a = behind_body r rest st (All-tail Q (at (ir.op (seen_of o) (stream r rest)) ∷ st) (states (stream r rest) st) a)
  behind_body (quiet o r) rest st a = behind_body r rest st a
  behind_body (choose c y z r) rest st a =
      let k : List Frame = at (stream r rest) ∷ st in
      let front : List Frame = at (ir.choose (asked_op (test_of c)) (stream y ir.done) (stream z ir.done) (stream r rest)) ∷ st in
      let t = All-tail Q front (states (stream y ir.done) k ++ (states (stream z ir.done) k ++ states (stream r rest) st)) a in
      let u = back_of Q (states (stream y ir.done) k) (states (stream z ir.done) k ++ states (stream r rest) st) t in
      behind_body r rest st (back_of Q (states (stream z ir.done) k) (states (stream r rest) st) u)
  behind_body (loop q p c b r) rest st a =
      let sp = stream p ir.done in
      let sb = stream b ir.done in
      let sr = stream r rest in
      let kp : List Frame = test sp (test_of c) sb sr ∷ st in
      let kb : List Frame = at (ir.loop sp (test_of c) sb sr) ∷ st in
      let back : List (List Frame) = states sb kb ++ states sr st in
      let t = back_of Q (states sp kp) (at_test sp (test_of c) sb sr st ++ back) a in
      let u = back_of Q (at_test sp (test_of c) sb sr st) back t in
      behind_body r rest st (back_of Q (states sb kb) (states sr st) u)
  behind_body (each f b r) rest st a = absurd f
  behind_body (call c b r) rest st a = absurd c

abbrev pub return_tree : List Passed → ir.Tree
return_tree ps = then_ops (map return_op ps) ir.done

module _ (list : List Place) where
  in_registers : (ps : List Passed) → All (IsPlacedAt list) (states (return_tree ps) []) → AllByRecursion (λ p. place_at list p.variable.variable ≡ place.Reg p.reg) ps
  in_registers [] a = tt
  in_registers (p ∷ ps) a =
      let h = All-head (IsPlacedAt list) (at (ir.op (return_op p) (return_tree ps)) ∷ []) (states (return_tree ps) []) a in
      (All-head (λ (n : Need). place_at list n.variable ≡ n.place) _ [] h.needs, in_registers ps (All-tail (IsPlacedAt list) (at (ir.op (return_op p) (return_tree ps)) ∷ []) (states (return_tree ps) []) a))

pub results_in_registers : (f : Ir) (list : List Place) → IsWithin (seen_code f) → IsPlacing (seen_code f) (LiveInWhole f) list → AllByRecursion (λ p. place_at list p.variable.variable ≡ place.Reg p.reg) f.results
results_in_registers f list within rule =
    in_registers list f.results
    (behind_body (IsPlacedAt list) (body_of f.body) (returns_of f) [] (behind_entry (IsPlacedAt list) (map entry_op f.entry) (flow seen_of test_of (body_of f.body) (returns_of f)) []
    (placed_at (whole_of f) (seen_code f) list within refl rule)))

-- each result is live at the return
or_right : (a b : Bool) → b ≡ true → (a || b) ≡ true
or_right true b e = refl
or_right false b e = e

here : (p : Passed) (ps : List Passed) → IsTrue (live_before p.variable.variable (return_tree (p ∷ ps)) false)
here p ps = by_bool (nat_eq p.variable.variable p.variable.variable) (same_number p.variable.variable)
  where
    same_number : (v : ℕ) → nat_eq v v ≡ true
    same_number v = grind (arith, nat_tests)

    by_bool : (b : Bool) → b ≡ true → (((b || false)) || live_before p.variable.variable (return_tree ps) false) ≡ true
    by_bool true e = refl
    by_bool false e = absurd cc

later : (p : Passed) (ps : List Passed) (v : ℕ) → IsTrue (live_before v (return_tree ps) false) → IsTrue (live_before v (return_tree (p ∷ ps)) false)
later p ps v t = or_right (among (p.variable.variable ∷ []) v) (live_before v (return_tree ps) false) t

pub each_lives : (ps : List Passed) (Q : Passed → Type 0) (R : Passed → Type 0) → ((p : Passed) → IsTrue (live_before p.variable.variable (return_tree ps) false) → Q p → R p) → AllByRecursion Q ps → AllByRecursion R ps
each_lives [] Q R h a = tt
each_lives (p ∷ ps) Q R h a = (h p (here p ps) a.0, each_lives ps Q R (λ q t x. h q (later p ps q.variable.variable t) x) a.1)

pub both_each : (ps : List Passed) (Q R : Passed → Type 0) → AllByRecursion Q ps → AllByRecursion R ps → AllByRecursion (λ p. Q p × R p) ps
both_each [] Q R a b = tt
both_each (p ∷ ps) Q R a b = ((a.0, b.0), both_each ps Q R a.1 b.1)
