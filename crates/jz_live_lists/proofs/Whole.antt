-- The rows of a whole tree, and steps of its loops.
use Rattle.std.proofs.Common.{◌≡◌, ℕ, ◌<◌, ◌↔◌, List, [], ◌++◌, false, IsTrue, length, get_or, map, reverse, sym, ap, ◌∙◌, arith, append-nil}
use Rattle.std.proofs.lemmas.List.{get_or-map, length-map}
use Rattle.std.proofs.lemmas.List.Elements.{All-get_or}
use Rattle.jz_ir.specs.Paths.{among}
use Rattle.jz_ir.specs.Tree.{Tree, states, LiveInTree}
use Rattle.jz_live.specs.Lives.{live_after_each}
use Rattle.jz_live.proofs.Trees.{after_at, IsHead, heads, after_sound, after_complete, afters_are}
use Rattle.jz_live_lists.specs.InnerColumns.{column}

module _ (t : Tree) (rows rows' : List (List ℕ)) (e : rows' ≡ reverse rows) (s : (v : ℕ) → column v rows ≡ live_after_each v t false ++ []) where
  is_map : (v : ℕ) → map (λ r. among r v) rows' ≡ map (after_at v) (states t [])
  is_map v = ap (map (λ r. among r v)) e ∙ s v ∙ append-nil (live_after_each v t false) ∙ sym (afters_are v t [])

  pub count_is : length rows' ≡ length (states t [])
  count_is = sym (length-map rows' (λ r. among r 0)) ∙ ap length (is_map 0) ∙ length-map (states t []) (after_at 0)

  row_is : (i v : ℕ) → i < length rows' → among (get_or rows' i []) v ≡ after_at v (get_or (states t []) i [])
  row_is i v lt = let k : i < length (states t []) = omega (arith, count_is) in sym (get_or-map (λ r. among r v) rows' i [] false lt) ∙ ap (λ x. get_or x i false) (is_map v) ∙ get_or-map (after_at v) (states t []) i [] false k

  pub exact_tree : (i : ℕ) → i < length rows' → (v : ℕ) → IsTrue (among (get_or rows' i []) v) ↔ LiveInTree t i v
  exact_tree i lt v =
      let k : i < length (states t []) = omega (arith, count_is) in
      let h = All-get_or IsHead (states t []) i [] k (heads t []) in
      (λ a. after_sound v h (sym (row_is i v lt) ∙ a), λ a. row_is i v lt ∙ after_complete v h a)
