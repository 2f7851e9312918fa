-- What the statements of the small language do.
use Rattle.std.specs.Prelude.{◌≡◌, ℕ, ◌+◌, nat_lt, false, List, [], ◌∷◌, map}
use Rattle.std.proofs.Common.{refl, sym, ap, ◌∙◌, arith}
use Rattle.jz_runs.specs.Trees.{Tree, done, op, quiet, choose, loop}
use Rattle.jz_runs.specs.Rules.{Parts, went}
use Rattle.jz_pass.specs.Rewriting.{Shape, one, either, turns, other, all_before, HasTree, sizes, IsAbove}
use Rattle.jz_pass_tests.specs.declared.small.Unknown.{Unknown}
use Rattle.jz_pass_tests.specs.declared.small.Small.{Small}
use Rattle.jz_pass_tests.specs.declared.small.Small.TheOpen.{Small-F}
use Rattle.jz_pass_tests.specs.declared.small.Small.TheViews.{out-Small, roll-out-Small}
use Rattle.jz_pass_tests.specs.declared.small.Small.TheFolds.{fold-Small, fold-roll-Small, map-Small}

-- the state is the number; adding leaks what is added, a test the number
abbrev pub small : Parts ℕ ℕ ⊥ ⊥ ℕ Unknown
small = record {
  does = λ k s. went (k ∷ []) (s + k);
  quiets = λ k s. s;
  tests = λ bound s. went (s ∷ []) (nat_lt s bound);
  settled = λ bound s. s;
  counts = λ c s. absurd c;
  begins = λ c i s. s;
  restores = λ c s t. t;
  enters = λ c s. absurd c;
  leaves = λ c s t. absurd c;
}

abbrev pub Block : Type 0
Block = Tree ℕ ℕ ⊥ ⊥

abbrev pub in_order : List (Block → Block) → Block → Block
in_order [] rest = rest
in_order (f ∷ fs) rest = f (in_order fs rest)

abbrev pub layer_tree : Small-F (Block → Block) → Block → Block
layer_tree (Small-F.Add k) rest = op k rest
layer_tree (Small-F.If p a b) rest = choose p (in_order a done) (in_order b done) rest
layer_tree (Small-F.While q p b) rest = loop false (in_order q done) p (in_order b done) rest
layer_tree Small-F.Mark rest = quiet 0 rest

-- the tree of a statement, before what follows
abbrev pub then_small : Small → Block → Block
then_small = fold-Small _ layer_tree

abbrev pub layer_shape : Small-F Small → Shape ℕ ℕ Small
layer_shape (Small-F.Add k) = one k
layer_shape (Small-F.If p a b) = either p a b
layer_shape (Small-F.While q p b) = turns false q p b
layer_shape Small-F.Mark = other

-- what stands in a statement
abbrev pub shape_of : Small → Shape ℕ ℕ Small
shape_of s = layer_shape (out-Small s)

abbrev pub add_all : List ℕ → ℕ
add_all [] = 0
add_all (n ∷ ns) = n + add_all ns

abbrev pub layer_weight : Small-F ℕ → ℕ
layer_weight (Small-F.Add k) = 1
layer_weight (Small-F.If p a b) = 1 + add_all a + add_all b
layer_weight (Small-F.While q p b) = 1 + add_all q + add_all b
layer_weight Small-F.Mark = 1

-- how many statements stand in it, with itself
abbrev pub weight : Small → ℕ
weight = fold-Small _ layer_weight

-- the tree of a list of statements
abbrev pub tree_of : List Small → Block
tree_of ss = all_before then_small ss done

-- ---- that these go together

in_order_is :
    (ss : List Small) (rest : Block)
    → in_order (map then_small ss) rest ≡ all_before then_small ss rest
in_order_is [] rest = refl
in_order_is (s ∷ ss) rest = ap (then_small s) (in_order_is ss rest)

add_all_is : (ss : List Small) → add_all (map weight ss) ≡ sizes weight ss
add_all_is [] = refl
add_all_is (s ∷ ss) = ap (λ n. weight s + n) (add_all_is ss)

then_is :
    (s : Small) (rest : Block)
    → then_small s rest ≡ layer_tree (map-Small _ _ then_small (out-Small s)) rest
then_is s rest =
    ap (λ z. then_small z rest) (sym (roll-out-Small s))
    ∙ ap (λ f. f rest) (fold-roll-Small _ layer_tree (out-Small s))

weight_is : (s : Small) → weight s ≡ layer_weight (map-Small _ _ weight (out-Small s))
weight_is s = ap weight (sym (roll-out-Small s)) ∙ fold-roll-Small _ layer_weight (out-Small s)

layer_has :
    (x : Small-F Small) (tree : Block → Block)
    → ((rest : Block) → tree rest ≡ layer_tree (map-Small _ _ then_small x) rest)
    → HasTree then_small (layer_shape x) tree
layer_has (Small-F.Add k) tree h = h
layer_has (Small-F.If p a b) tree h = λ rest.
    h rest
    ∙ ap (λ x. choose p x (in_order (map then_small b) done) rest) (in_order_is a done)
    ∙ ap (λ x. choose p (all_before then_small a done) x rest) (in_order_is b done)
layer_has (Small-F.While q p b) tree h = λ rest.
    h rest
    ∙ ap (λ x. loop false x p (in_order (map then_small b) done) rest) (in_order_is q done)
    ∙ ap (λ x. loop false (all_before then_small q done) p x rest) (in_order_is b done)
layer_has Small-F.Mark tree h = tt

pub has_tree : (s : Small) → HasTree then_small (shape_of s) (then_small s)
has_tree s = layer_has (out-Small s) (then_small s) (then_is s)

layer_above :
    (x : Small-F Small) (n : ℕ) → n ≡ layer_weight (map-Small _ _ weight x)
    → IsAbove weight (layer_shape x) n
layer_above (Small-F.Add k) n e = tt
layer_above (Small-F.If p a b) n e =
    let x = add_all_is a in let y = add_all_is b in
    (omega arith, omega arith)
layer_above (Small-F.While q p b) n e =
    let x = add_all_is q in let y = add_all_is b in
    (omega arith, omega arith)
layer_above Small-F.Mark n e = tt

pub is_above : (s : Small) → IsAbove weight (shape_of s) (weight s)
is_above s = layer_above (out-Small s) (weight s) (weight_is s)
