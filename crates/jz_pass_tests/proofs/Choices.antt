-- A test that stays is what both rules say.
use Rattle.std.proofs.Common.{◌≡◌, ℕ, ◌-◌, ◌/◌, false, List, [], ◌∷◌, refl, sym, ap, ◌∙◌, subst}
use Rattle.jz_runs.specs.Trees.{done, op, choose, loop}
use Rattle.jz_change.specs.declared.change.Numbers.{Numbers}
use Rattle.jz_change.specs.declared.change.Numbers.TheVariants.{Same, These}
use Rattle.jz_change.specs.declared.change.Number.TheVariants.{Fixed}
use Rattle.jz_pass.specs.Rewriting.{Rewriting, one, all_before, HasTree, OpBecomes}
use Rattle.jz_pass.specs.Forms.{OperationMade, ChoiceMade}
use Rattle.jz_pass_tests.specs.declared.small.Small.{Small}
use Rattle.jz_pass_tests.specs.declared.small.Small.TheVariants as code
use Rattle.jz_pass_tests.specs.declared.small.Small.TheOpen.{Small-F}
use Rattle.jz_pass_tests.specs.declared.small.Small.TheViews.{out-Small, out-roll-Small}
use Rattle.jz_pass_tests.specs.Meaning.{Block, then_small, layer_shape, shape_of, has_tree}
use Rattle.jz_pass_tests.specs.Rules.{in_halves, halving, nothing, something, dropping}
use Rattle.jz_pass_tests.specs.Kept.{layer_with, KeepsTest}

pub out_if : (p : ℕ) (a b : List Small) → out-Small (code.If p a b) ≡ Small-F.If p a b
out_if p a b = ap out-Small (sym (code.rolls-If p a b)) ∙ out-roll-Small (Small-F.If p a b)

pub out_while : (q : List Small) (p : ℕ) (b : List Small) → out-Small (code.While q p b) ≡ Small-F.While q p b
out_while q p b = ap out-Small (sym (code.rolls-While q p b)) ∙ out-roll-Small (Small-F.While q p b)

pub out_add : (k : ℕ) → out-Small (code.Add k) ≡ Small-F.Add k
out_add k = ap out-Small (sym (code.rolls-Add k)) ∙ out-roll-Small (Small-F.Add k)

pub tree_add : (k : ℕ) (rest : Block) → then_small (code.Add k) rest ≡ op k rest
tree_add k = subst (λ x. HasTree then_small (layer_shape x) (then_small (code.Add k))) (out_add k) (has_tree (code.Add k))

tree_if : (p : ℕ) (a b : List Small) (rest : Block) → then_small (code.If p a b) rest ≡ choose p (all_before then_small a done) (all_before then_small b done) rest
tree_if p a b = subst (λ x. HasTree then_small (layer_shape x) (then_small (code.If p a b))) (out_if p a b) (has_tree (code.If p a b))

tree_while : (q : List Small) (p : ℕ) (b : List Small) (rest : Block) → then_small (code.While q p b) rest ≡ loop false (all_before then_small q done) p (all_before then_small b done) rest
tree_while q p b = subst (λ x. HasTree then_small (layer_shape x) (then_small (code.While q p b))) (out_while q p b) (has_tree (code.While q p b))

-- ---- operations

shape_add : (s : Small) (k : ℕ) → s ≡ code.Add k → shape_of s ≡ one k
shape_add s k e = ap (λ x. layer_shape (out-Small x)) e ∙ ap layer_shape (out_add k)

pub halves_made : (s : Small) (k : ℕ) (made : List Small) (items : List Numbers) → s ≡ code.Add k → made ≡ code.Add (k / 2) ∷ code.Add (k - k / 2) ∷ [] → items ≡ These (Fixed (k / 2) ∷ []) ∷ These (Fixed (k - k / 2) ∷ []) ∷ [] → OperationMade halving then_small (shape_of s) made items
halves_made s k made items e m i =
    subst (λ x. OperationMade halving then_small x made items) (sym (shape_add s k e))
    (subst (λ x. OpBecomes halving then_small k x items) (sym m) (subst (λ x. OpBecomes halving then_small k (code.Add (k / 2) ∷ code.Add (k - k / 2) ∷ []) x) (sym i)
    (record { operations = (k / 2) ∷ (k - k / 2) ∷ []; rule = in_halves; trees = λ rest. tree_add (k / 2) (then_small (code.Add (k - k / 2)) rest) ∙ ap (op (k / 2)) (tree_add (k - k / 2) rest) })))

pub nothing_made : (s : Small) (k : ℕ) (made : List Small) (items : List Numbers) → s ≡ code.Add k → k ≡ 0 → made ≡ [] → items ≡ [] → OperationMade dropping then_small (shape_of s) made items
nothing_made s k made items e z m i =
    subst (λ x. OperationMade dropping then_small x made items) (sym (shape_add s k e ∙ ap one z))
    (subst (λ x. OpBecomes dropping then_small 0 x items) (sym m) (subst (λ x. OpBecomes dropping then_small 0 [] x) (sym i) (record { operations = []; rule = nothing; trees = λ rest. refl })))

pub something_made : (s : Small) (k : ℕ) (made : List Small) (items : List Numbers) → s ≡ code.Add k → (k ≡ 0 → ⊥) → made ≡ code.Add k ∷ [] → items ≡ Same ∷ [] → OperationMade dropping then_small (shape_of s) made items
something_made s k made items e z m i =
    subst (λ x. OperationMade dropping then_small x made items) (sym (shape_add s k e))
    (subst (λ x. OpBecomes dropping then_small k x items) (sym m) (subst (λ x. OpBecomes dropping then_small k (code.Add k ∷ []) x) (sym i) (record { operations = k ∷ []; rule = something z; trees = tree_add k })))

module _ (R : Rewriting ℕ ℕ ℕ ℕ) (stays : (p : ℕ) → R.Test p [] [] p Same) where
  kept : (x : Small-F Small) (a b : List Small) → ChoiceMade R then_small (layer_shape x) a b (layer_with x a b ∷ []) [] Same
  kept (Small-F.Add k) a b = tt
  kept (Small-F.If p x y) a b = record { operations = []; test = p; rule = stays p; trees = tree_if p a b }
  kept (Small-F.While x p y) a b = record { operations = []; test = p; rule = stays p; trees = tree_while a p b }
  kept Small-F.Mark a b = tt

  pub keeps_test : (s : Small) (a b made : List Small) (items : List Numbers) (numbers : Numbers) → KeepsTest s a b made items numbers → ChoiceMade R then_small (shape_of s) a b made items numbers
  keeps_test s a b made items numbers h =
      subst (λ m. ChoiceMade R then_small (shape_of s) a b m items numbers) (sym h.statement)
      (subst (λ i. ChoiceMade R then_small (shape_of s) a b (layer_with (out-Small s) a b ∷ []) i numbers) (sym h.items_are)
      (subst (λ i. ChoiceMade R then_small (shape_of s) a b (layer_with (out-Small s) a b ∷ []) [] i) (sym h.numbers_are) (kept (out-Small s) a b)))
