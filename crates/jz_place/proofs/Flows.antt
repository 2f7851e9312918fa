-- What is seen of bodies.
use Rattle.std.proofs.Common.{◌≡◌, ℕ, ◌+◌, ◌<◌, Bool, List, [], ◌∷◌, ◌++◌, Option, Some, None, map, length, get_or, take, refl, sym, ap, ◌∙◌, append_assoc}
use Rattle.jz_ir.specs.declared.code.Op.{Op}
use Rattle.jz_ir.specs.declared.code.Node.{Node}
use Rattle.jz_ir.specs.declared.code.Node.TheOpen.{Node-F}
use Rattle.jz_ir.specs.declared.code.Node.TheVariants as node
use Rattle.jz_ir.specs.declared.code.Node.TheVariants.{rolls-Op}
use Rattle.jz_ir.specs.declared.code.Node.TheFolds.{fold-roll-Node}
use Rattle.jz_ir.specs.Tree as ir
use Rattle.jz_ir.specs.Tree.{then_tree, tree_of, node_step}
use Rattle.jz_live.proofs.Nodes.{while_is}
use Rattle.jz_fit.proofs.FollowedLemmas.{if_is}
use Rattle.jz_fit.proofs.FollowedLemmas as flat
use Rattle.jz_runs.specs.Trees.{done, op, quiet, choose, loop, each, call}
use Rattle.jz_operations.specs.declared.operation.Operation.{Operation}
use Rattle.jz_operations.specs.Reading.{seen_of}
use Rattle.jz_placing.specs.Variables.{Body, test_of}
use Rattle.jz_placing.specs.Flow.{asked_op, flow, then_ops}
use Rattle.jz_place.specs.declared.tree.Node as over
use Rattle.jz_place.specs.declared.tree.Node.TheVariants as over_node
use Rattle.jz_place.specs.declared.tree.Test.{Test}
use Rattle.jz_place.specs.Bodies.{asked_of, then_body, body_of}
use Rattle.jz_place.proofs.Bodies as body
use Rattle.jz_place.proofs.Bodies.{then_all, block_more}

abbrev stream : Body → ir.Tree → ir.Tree
stream t rest = flow seen_of test_of t rest

flow_all : (t r : Body) (rest : ir.Tree) → stream (then_all t r) rest ≡ stream t (stream r rest)
flow_all done r rest = refl
flow_all (op o t) r rest = ap (ir.op (seen_of o)) (flow_all t r rest)
flow_all (quiet o t) r rest = flow_all t r rest
flow_all (choose c a b t) r rest = ap (ir.choose (asked_op (test_of c)) (stream a ir.done) (stream b ir.done)) (flow_all t r rest)
flow_all (loop q p c b t) r rest = ap (ir.loop (stream p ir.done) (test_of c) (stream b ir.done)) (flow_all t r rest)
flow_all (each f b t) r rest = absurd f
flow_all (call c b t) r rest = absurd c

pub flow_rest : (t : Body) (rest : ir.Tree) → stream t rest ≡ flat.then_all (stream t ir.done) rest
flow_rest done rest = refl
flow_rest (op o t) rest = ap (ir.op (seen_of o)) (flow_rest t rest)
flow_rest (quiet o t) rest = flow_rest t rest
flow_rest (choose c a b t) rest = ap (ir.choose (asked_op (test_of c)) (stream a ir.done) (stream b ir.done)) (flow_rest t rest)
flow_rest (loop q p c b t) rest = ap (ir.loop (stream p ir.done) (test_of c) (stream b ir.done)) (flow_rest t rest)
flow_rest (each f b t) rest = absurd f
flow_rest (call c b t) rest = absurd c

-- ---- one node more
pub one_more : (ns : List over.Node) (i : ℕ) (n : over.Node) (m : Node) (old new : List Node) → i < length ns → n ≡ get_or ns i n → tree_of old ≡ stream (body_of (take i ns)) ir.done → then_tree m ir.done ≡ stream (then_body n done) ir.done → new ≡ old ++ m ∷ [] → tree_of new ≡ stream (body_of (take (i + 1) ns)) ir.done
one_more ns i n m old new lt is e g h =
    ap tree_of h ∙ flat.block_all old (m ∷ []) ∙ ap (λ t. flat.then_all t (then_tree m ir.done)) e ∙ ap (flat.then_all (stream (body_of (take i ns)) ir.done)) g
    ∙ sym (flow_rest (body_of (take i ns)) (stream (then_body n done) ir.done))
    ∙ sym (flow_all (body_of (take i ns)) (then_body n done) ir.done)
    ∙ ap (λ t. stream t ir.done) (sym (block_more ns i n lt is))

-- the nodes of each kind
op_is : (x : Op) (r : ir.Tree) → then_tree (node.Op x) r ≡ ir.op x r
op_is x r = ap (λ z. then_tree z r) (sym (rolls-Op x)) ∙ ap (λ f. f r) (fold-roll-Node _ node_step (Node-F.Op x))

pub do_seen : (o : Operation) (x : Op) (n : over.Node) → n ≡ over_node.Do o → x ≡ seen_of o → then_tree (node.Op x) ir.done ≡ stream (then_body n done) ir.done
do_seen o x n is e = op_is x ir.done ∙ ap (λ y. ir.op y ir.done) e ∙ ap (λ t. stream t ir.done) (sym (ap (λ z. then_body z done) is ∙ body.do_is o))

pub if_seen : (t : Test) (a b : List over.Node) (x : Op) (a' b' : List Node) (n : over.Node) → n ≡ over_node.If t a b → x ≡ asked_op (test_of (asked_of t)) → tree_of a' ≡ stream (body_of a) ir.done → tree_of b' ≡ stream (body_of b) ir.done → then_tree (node.If x a' b') ir.done ≡ stream (then_body n done) ir.done
if_seen t a b x a' b' n is e1 e2 e3 =
    if_is x a' b' ∙ ap (λ y. ir.choose y (tree_of a') (tree_of b') ir.done) e1 ∙ ap (λ y. ir.choose (asked_op (test_of (asked_of t))) y (tree_of b') ir.done) e2 ∙ ap (λ y. ir.choose (asked_op (test_of (asked_of t))) (stream (body_of a) ir.done) y ir.done) e3
    ∙ ap (λ s. stream s ir.done) (sym (ap (λ z. then_body z done) is ∙ body.if_is t a b))

pub while_seen : (q : Bool) (p : List over.Node) (t : Test) (b : List over.Node) (p' : List Node) (x : Option Op) (b' : List Node) (n : over.Node) → n ≡ over_node.While q p t b → tree_of p' ≡ stream (body_of p) ir.done → x ≡ test_of (asked_of t) → tree_of b' ≡ stream (body_of b) ir.done → then_tree (node.While p' x b') ir.done ≡ stream (then_body n done) ir.done
while_seen q p t b p' x b' n is e1 e2 e3 =
    while_is p' x b' ∙ ap (λ y. ir.loop y x (tree_of b') ir.done) e1 ∙ ap (λ y. ir.loop (stream (body_of p) ir.done) y (tree_of b') ir.done) e2 ∙ ap (λ y. ir.loop (stream (body_of p) ir.done) (test_of (asked_of t)) y ir.done) e3
    ∙ ap (λ s. stream s ir.done) (sym (ap (λ z. then_body z done) is ∙ body.while_is q p t b))

-- ---- the entry, the body and the return
ops_then : {A : Type 0} (f : A → Op) (ps : List A) (ms : List Node) → tree_of (map (λ p. node.Op (f p)) ps ++ ms) ≡ then_ops (map f ps) (tree_of ms)
ops_then f [] ms = refl
ops_then f (p ∷ ps) ms = op_is (f p) (tree_of (map (λ x. node.Op (f x)) ps ++ ms)) ∙ ap (ir.op (f p)) (ops_then f ps ms)

ops_last : {A : Type 0} (f : A → Op) (ps : List A) → tree_of (map (λ p. node.Op (f p)) ps) ≡ then_ops (map f ps) ir.done
ops_last f [] = refl
ops_last f (p ∷ ps) = op_is (f p) (tree_of (map (λ x. node.Op (f x)) ps)) ∙ ap (ir.op (f p)) (ops_last f ps)

pub whole_is : {A : Type 0} (f g : A → Op) (ps qs : List A) (t : Body) (first inner last two all : List Node) → first ≡ map (λ p. node.Op (f p)) ps → tree_of inner ≡ stream t ir.done → last ≡ map (λ p. node.Op (g p)) qs → two ≡ first ++ inner → all ≡ two ++ last → tree_of all ≡ then_ops (map f ps) (stream t (then_ops (map g qs) ir.done))
whole_is f g ps qs t first inner last two all e1 e2 e3 e4 e5 =
    ap tree_of (e5 ∙ ap (λ x. x ++ last) (e4 ∙ ap (λ x. x ++ inner) e1) ∙ append_assoc (map (λ p. node.Op (f p)) ps) inner last)
    ∙ ops_then f ps (inner ++ last)
    ∙ ap (then_ops (map f ps)) (flat.block_all inner last ∙ ap (λ x. flat.then_all x (tree_of last)) e2 ∙ ap (flat.then_all (stream t ir.done)) (ap tree_of e3 ∙ ops_last g qs) ∙ sym (flow_rest t (then_ops (map g qs) ir.done)))
