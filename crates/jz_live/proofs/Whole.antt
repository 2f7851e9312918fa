-- The rows of a whole tree.
use Rattle.std.proofs.Common.{◌≡◌, ℕ, ◌<◌, ◌≤◌, ◌↔◌, List, [], ◌++◌, false, IsTrue, Option, Some, None, length, get_or, map, reverse, sym, ap, ◌∙◌, arith, append-nil}
use Rattle.std.proofs.lemmas.List.{get_or-map, length-map}
use Rattle.std.proofs.lemmas.List.Elements.{All-get_or}
use Rattle.jz_bits.specs.Has.{has}
use Rattle.jz_ir.specs.declared.code.Op.{Op}
use Rattle.jz_ir.specs.Tree.{Tree, done, op, choose, loop, states, LiveInTree}
use Rattle.jz_live.specs.InnerLives.{live_after_each, column}
use Rattle.jz_live.specs.Lives.{TreeBelow, TestBelow}
use Rattle.jz_live.proofs.Backward.{below_wide}
use Rattle.jz_live.proofs.Trees.{after_at, IsHead, heads, after_sound, after_complete, afters_are}

fine_test : (n m : ℕ) (c : Option Op) → n ≤ m → TestBelow n c → TestBelow m c
fine_test n m None le f = tt
fine_test n m (Some c) le f = below_wide n m c le f

pub fine_wide : (n m : ℕ) (t : Tree) → n ≤ m → TreeBelow n t → TreeBelow m t
fine_wide n m done le f = tt
fine_wide n m (op o t) le f = (below_wide n m o le f.0, fine_wide n m t le f.1)
fine_wide n m (choose c a b r) le f = (below_wide n m c le f.0, fine_wide n m a le f.1, fine_wide n m b le f.2, fine_wide n m r le f.3)
fine_wide n m (loop p c b r) le f = (fine_wide n m p le f.0, fine_test n m c le f.1, fine_wide n m b le f.2, fine_wide n m r le f.3)

module _ (t : Tree) (rows rows' : List (List ℕ)) (e : rows' ≡ reverse rows) (z : List ℕ) (none : (w : ℕ) → has z w ≡ false) (s : (v : ℕ) → column v rows ≡ live_after_each v t (has z v) ++ column v []) where
  is_map : (v : ℕ) → map (λ r. has r v) rows' ≡ map (after_at v) (states t [])
  is_map v = ap (map (λ r. has r v)) e ∙ s v ∙ append-nil (live_after_each v t (has z v)) ∙ ap (live_after_each v t) (none v) ∙ sym (afters_are v t [])

  pub count_is : length rows' ≡ length (states t [])
  count_is = sym (length-map rows' (λ r. has r 0)) ∙ ap length (is_map 0) ∙ length-map (states t []) (after_at 0)

  row_is : (i v : ℕ) → i < length rows' → has (get_or rows' i []) v ≡ after_at v (get_or (states t []) i [])
  row_is i v lt = let k : i < length (states t []) = omega (arith, count_is) in sym (get_or-map (λ r. has r v) rows' i [] false lt) ∙ ap (λ x. get_or x i false) (is_map v) ∙ get_or-map (after_at v) (states t []) i [] false k

  pub exact_tree : (i : ℕ) → i < length rows' → (v : ℕ) → IsTrue (has (get_or rows' i []) v) ↔ LiveInTree t i v
  exact_tree i lt v =
      let k : i < length (states t []) = omega (arith, count_is) in
      let h = All-get_or IsHead (states t []) i [] k (heads t []) in
      (λ a. after_sound v h (sym (row_is i v lt) ∙ a), λ a. row_is i v lt ∙ after_complete v h a)
