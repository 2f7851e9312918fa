-- The places of first fit keep apart what conflicts, in code with branches and loops too.
use Rattle.std.proofs.Common.{◌≡◌, ℕ, ◌<◌, List, [], ◌∷◌, ◌++◌, Option, Some, None, length, subst, arith, inl, inr}
use Rattle.std.specs.List.{All}
use Rattle.std.proofs.lemmas.Bool.{cases_lt}
use Rattle.std.proofs.lemmas.List.{get_or-map, length-map, get_or_past}
use Rattle.std.proofs.lemmas.List.Elements.{All-nil, All-cons, All-head, All-tail, All-append, All-get_or, All-from_get_or}
use Rattle.x64_insn.specs.declared.types.Place.{Place}
use Rattle.jz_ir.specs.declared.code.Code.{Code}
use Rattle.jz_ir.specs.declared.code.Op.{Op}
use Rattle.jz_ir.specs.Paths.{IsLive, read_here, read_later}
use Rattle.jz_ir.specs.Places.{Below, IsWithin, FirstFit, all_of, IsPlacing, no_op}
use Rattle.jz_ir.specs.Tree.{Tree, done, op, choose, loop, Frame, at, test, Step, s_done, s_op, s_then, s_else, s_loop, s_more, s_leave, s_ever, states, at_test, op_of, ops_of, LiveInTree}
use Rattle.jz_ir.proofs.Below.{among_below}
use Rattle.jz_live.specs.Lives.{TreeBelow, TestBelow}
use Rattle.jz_alloc.proofs.Seating.{placing}
use Rattle.jz_placing.proofs.Fronts.{front_of, back_of}

module _ (n : ℕ) where
  abbrev Small : List Frame → Type 0
  Small s = Below n (op_of s)

  test_below : (p : Tree) (c : Option Op) (b r : Tree) (k : List Frame) → All Small (at_test p c b r k) → TestBelow n c
  test_below p None b r k a = tt
  test_below p (Some c) b r k a = All-head Small (test p (Some c) b r ∷ k) [] a

  tree_below : (t : Tree) (k : List Frame) → All Small (states t k) → TreeBelow n t
  tree_below done k a = tt
  tree_below (op o t) k a = (All-head Small (at (op o t) ∷ k) (states t k) a, tree_below t k (All-tail Small (at (op o t) ∷ k) (states t k) a))
  tree_below (choose c x y r) k a =
      let f : List Frame = at r ∷ k in
      let h = All-head Small (at (choose c x y r) ∷ k) (states x f ++ (states y f ++ states r k)) a in
      let t = All-tail Small (at (choose c x y r) ∷ k) (states x f ++ (states y f ++ states r k)) a in
      let u = back_of Small (states x f) (states y f ++ states r k) t in
      (h, tree_below x f (front_of Small (states x f) (states y f ++ states r k) t), tree_below y f (front_of Small (states y f) (states r k) u), tree_below r k (back_of Small (states y f) (states r k) u))
  tree_below (loop p c b r) k a =
      let kp : List Frame = test p c b r ∷ k in
      let kb : List Frame = at (loop p c b r) ∷ k in
      let t = back_of Small (states p kp) (at_test p c b r k ++ (states b kb ++ states r k)) a in
      let u = back_of Small (at_test p c b r k) (states b kb ++ states r k) t in
      (tree_below p kp (front_of Small (states p kp) (at_test p c b r k ++ (states b kb ++ states r k)) a), test_below p c b r k (front_of Small (at_test p c b r k) (states b kb ++ states r k) t), tree_below b kb (front_of Small (states b kb) (states r k) u), tree_below r k (back_of Small (states b kb) (states r k) u))

  -- each operation that can still come is one over the variables
  abbrev StackBelow : List Frame → Type 0
  StackBelow [] = Unit {0}
  StackBelow (at t ∷ k) = TreeBelow n t × StackBelow k
  StackBelow (test p c b r ∷ k) = TreeBelow n p × TestBelow n c × TreeBelow n b × TreeBelow n r × StackBelow k

  step_below : {s t : List Frame} {o : Op} → Step s o t → StackBelow s → Below n o × StackBelow t
  step_below (s_done d) h = step_below d h.1
  step_below s_op h = (h.0.0, (h.0.1, h.1))
  step_below s_then h = (h.0.0, (h.0.1, (h.0.3, h.1)))
  step_below s_else h = (h.0.0, (h.0.2, (h.0.3, h.1)))
  step_below (s_loop d) h = step_below d (h.0.0, (h.0.0, h.0.1, h.0.2, h.0.3, h.1))
  step_below s_more h = (h.1, (h.2, ((h.0, h.1, h.2, h.3), h.4)))
  step_below s_leave h = (h.1, (h.3, h.4))
  step_below (s_ever d) h = step_below d (h.2, ((h.0, h.1, h.2, h.3), h.4))

  live_small : (v : ℕ) {s : List Frame} → StackBelow s → IsLive Step v s → v < n
  live_small v h (read_here {o = o} d r) = among_below o.reads v n (step_below d h).0.reads r
  live_small v h (read_later d w l) = live_small v (step_below d h).1 l

  tests_small : (p : Tree) (c : Option Op) (b r : Tree) (k : List Frame) → StackBelow (test p c b r ∷ k) → All StackBelow (at_test p c b r k)
  tests_small p None b r k h = All-nil StackBelow
  tests_small p (Some c) b r k h = All-cons StackBelow (test p (Some c) b r ∷ k) [] h (All-nil StackBelow)

  all_small : (t : Tree) (k : List Frame) → TreeBelow n t → StackBelow k → All StackBelow (states t k)
  all_small done k h g = All-nil StackBelow
  all_small (op o t) k h g = All-cons StackBelow (at (op o t) ∷ k) (states t k) (h, g) (all_small t k h.1 g)
  all_small (choose c x y r) k h g =
      let f : List Frame = at r ∷ k in
      All-cons StackBelow (at (choose c x y r) ∷ k) (states x f ++ (states y f ++ states r k)) (h, g)
      (All-append StackBelow (states x f) (states y f ++ states r k) (all_small x f h.1 (h.3, g)) (All-append StackBelow (states y f) (states r k) (all_small y f h.2 (h.3, g)) (all_small r k h.3 g)))
  all_small (loop p c b r) k h g =
      let kp : List Frame = test p c b r ∷ k in
      let kb : List Frame = at (loop p c b r) ∷ k in
      let hp : StackBelow kp = (h.0, h.1, h.2, h.3, g) in
      All-append StackBelow (states p kp) (at_test p c b r k ++ (states b kb ++ states r k)) (all_small p kp h.0 hp)
      (All-append StackBelow (at_test p c b r k) (states b kb ++ states r k) (tests_small p c b r k hp) (All-append StackBelow (states b kb) (states r k) (all_small b kb h.2 (h, g)) (all_small r k h.3 g)))

-- only variables are live
pub tree_live_below : (t : Tree) (n : ℕ) → All (Below n) (ops_of t) → (i v : ℕ) → LiveInTree t i v → v < n
tree_live_below t n all i v (o, s, d, l) = elim (cases_lt i (length (states t []))) [
  | inl lt ↦ (let h = All-get_or (StackBelow n) (states t []) i [] lt (all_small n t [] (tree_below n t [] small) tt) in live_small n v (step_below n d h).1 l)
  | inr g ↦ absurd (nowhere (subst (λ x. Step x o s) (get_or_past (states t []) i [] g) d))
]
  where
    nowhere : {p : List Frame} → Step [] o p → ⊥
    nowhere d = elim d [ ]

    small : All (Small n) (states t [])
    small = All-from_get_or (Small n) (states t []) [] (λ j lt. subst (Below n) (get_or-map op_of (states t []) j [] no_op lt) (All-get_or (Below n) (ops_of t) j no_op (let e = length-map (states t []) op_of in omega (arith, e, lt)) all))

-- the places of first fit, in code of this flow
pub tree_places : (t : Tree) (code : Code) (places : List Place) → IsWithin code → code.ops ≡ ops_of t → FirstFit code.ops code.kinds code.in_use (LiveInTree t) (all_of places) → IsPlacing code (LiveInTree t) places
tree_places t code places within same f = placing code (LiveInTree t) places within (λ i v l. tree_live_below t (length code.kinds) (subst (All (Below (length code.kinds))) same within) i v l) f
