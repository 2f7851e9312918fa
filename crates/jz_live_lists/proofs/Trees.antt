-- The operations of trees and nodes.
use Rattle.std.proofs.Common.{◌≡◌, ℕ, ◌+◌, ◌<◌, List, [], ◌∷◌, ◌++◌, Option, Some, None, map, length, get_or, take, refl, sym, ap, ◌∙◌, append_assoc, append-nil}
use Rattle.std.proofs.lemmas.List.{map-append, take_more}
use Rattle.jz_ir.specs.declared.code.Op.{Op}
use Rattle.jz_ir.specs.declared.code.Node.{Node}
use Rattle.jz_ir.specs.declared.code.Node.TheOpen.{Node-F}
use Rattle.jz_ir.specs.declared.code.Node.TheFolds.{fold-roll-Node, map-Node}
use Rattle.jz_ir.specs.declared.code.Node.TheViews.{out-Node, roll-out-Node}
use Rattle.jz_ir.specs.Tree.{Tree, done, op, choose, loop, Frame, at, test, states, at_test, op_of, then_tree, node_step, tree_of}
use Rattle.jz_live_lists.specs.InnerOps.{ops_in, test_in}

tests_are : (p : Tree) (c : Option Op) (b r : Tree) (k : List Frame) → map op_of (at_test p c b r k) ≡ test_in c
tests_are p None b r k = refl
tests_are p (Some x) b r k = refl

pub ops_are : (t : Tree) (k : List Frame) → map op_of (states t k) ≡ ops_in t
ops_are done k = refl
ops_are (op x t) k = ap (λ y. x ∷ y) (ops_are t k)
ops_are (choose c a b r) k = simp (map-append, ops_are a (at r ∷ k), ops_are b (at r ∷ k), ops_are r k)
ops_are (loop p c b r) k = simp (map-append, ops_are p (test p c b r ∷ k), tests_are p c b r k, ops_are b (at (loop p c b r) ∷ k), ops_are r k)

layer_ops : (x : Node-F (Tree → Tree)) (r : Tree) → ops_in (node_step x r) ≡ ops_in (node_step x done) ++ ops_in r
layer_ops (Node-F.Op o) r = refl
layer_ops (Node-F.If c a b) r = simp (append_assoc, append-nil)
layer_ops (Node-F.While p c b) r = simp (append_assoc, append-nil)

then_is : (n : Node) (r : Tree) → then_tree n r ≡ node_step (map-Node _ _ then_tree (out-Node n)) r
then_is n r = ap (λ z. then_tree z r) (sym (roll-out-Node n)) ∙ ap (λ f. f r) (fold-roll-Node _ node_step (out-Node n))

node_ops : (n : Node) (r : Tree) → ops_in (then_tree n r) ≡ ops_in (then_tree n done) ++ ops_in r
node_ops n r = ap ops_in (then_is n r) ∙ layer_ops (map-Node _ _ then_tree (out-Node n)) r ∙ ap (λ t. ops_in t ++ ops_in r) (sym (then_is n done))

pub block_ops : (ns ms : List Node) → ops_in (tree_of (ns ++ ms)) ≡ ops_in (tree_of ns) ++ ops_in (tree_of ms)
block_ops [] ms = refl
block_ops (n ∷ ns) ms =
    node_ops n (tree_of (ns ++ ms)) ∙ ap (λ x. ops_in (then_tree n done) ++ x) (block_ops ns ms)
    ∙ sym (append_assoc (ops_in (then_tree n done)) (ops_in (tree_of ns)) (ops_in (tree_of ms))) ∙ ap (λ x. x ++ ops_in (tree_of ms)) (sym (node_ops n (tree_of ns)))

-- one more node
pub one_more : (ns : List Node) (i : ℕ) (n : Node) (old now new : List Op) → i < length ns → n ≡ get_or ns i n → now ≡ old ++ ops_in (tree_of (take i ns)) → new ≡ now ++ ops_in (then_tree n done) → new ≡ old ++ ops_in (tree_of (take (i + 1) ns))
one_more ns i n old now new lt is e f =
    f ∙ ap (λ x. x ++ ops_in (then_tree n done)) e ∙ append_assoc old (ops_in (tree_of (take i ns))) (ops_in (then_tree n done))
    ∙ ap (λ x. old ++ x) (sym (block_ops (take i ns) (n ∷ [])) ∙ ap (λ x. ops_in (tree_of x)) (ap (λ m. take i ns ++ m ∷ []) is ∙ sym (take_more ns i n lt)))
