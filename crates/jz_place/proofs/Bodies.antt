-- Bodies one behind another.
use Rattle.std.proofs.Common.{◌≡◌, ℕ, zero, suc, ◌+◌, ◌≤◌, ◌<◌, Bool, List, [], ◌∷◌, ◌++◌, length, get_or, take, refl, sym, ap, ◌∙◌, subst, arith, zero-add}
use Rattle.std.proofs.lemmas.List.{take_more}
use Rattle.jz_runs.specs.Trees.{Tree, done, op, quiet, choose, loop, each, call}
use Rattle.jz_operations.specs.declared.operation.Operation.{Operation}
use Rattle.jz_placing.specs.Variables.{Asked, Body}
use Rattle.jz_place.specs.declared.tree.Test.{Test}
use Rattle.jz_place.specs.declared.tree.Node.{Node}
use Rattle.jz_place.specs.declared.tree.Node.TheOpen.{Node-F}
use Rattle.jz_place.specs.declared.tree.Node.TheVariants.{Do, If, While, rolls-Do, rolls-If, rolls-While}
use Rattle.jz_place.specs.declared.tree.Node.TheFolds.{fold-roll-Node, map-Node}
use Rattle.jz_place.specs.declared.tree.Node.TheViews.{out-Node, roll-out-Node}
use Rattle.jz_place.specs.Bodies.{asked_of, node_step, then_body, body_of}

module _ {O T F C : Type 0} where
  -- a tree, and another behind it
  abbrev pub then_all : Tree O T F C → Tree O T F C → Tree O T F C
  then_all done r = r
  then_all (op o t) r = op o (then_all t r)
  then_all (quiet o t) r = quiet o (then_all t r)
  then_all (choose c a b t) r = choose c a b (then_all t r)
  then_all (loop q p c b t) r = loop q p c b (then_all t r)
  then_all (each f b t) r = each f b (then_all t r)
  then_all (call c b t) r = call c b (then_all t r)

  pub all_assoc : (s t r : Tree O T F C) → then_all (then_all s t) r ≡ then_all s (then_all t r)
  all_assoc done t r = refl
  all_assoc (op o s) t r = ap (op o) (all_assoc s t r)
  all_assoc (quiet o s) t r = ap (quiet o) (all_assoc s t r)
  all_assoc (choose c a b s) t r = ap (choose c a b) (all_assoc s t r)
  all_assoc (loop q p c b s) t r = ap (loop q p c b) (all_assoc s t r)
  all_assoc (each f b s) t r = ap (each f b) (all_assoc s t r)
  all_assoc (call c b s) t r = ap (call c b) (all_assoc s t r)

-- ---- nodes
layer_all : (x : Node-F (Body → Body)) (r : Body) → node_step x r ≡ then_all (node_step x done) r
layer_all (Node-F.Do o) r = refl
layer_all (Node-F.If t a b) r = refl
layer_all (Node-F.While q p t b) r = refl

then_is : (n : Node) (r : Body) → then_body n r ≡ node_step (map-Node _ _ then_body (out-Node n)) r
then_is n r = ap (λ z. then_body z r) (sym (roll-out-Node n)) ∙ ap (λ f. f r) (fold-roll-Node _ node_step (out-Node n))

pub node_all : (n : Node) (r : Body) → then_body n r ≡ then_all (then_body n done) r
node_all n r = then_is n r ∙ layer_all (map-Node _ _ then_body (out-Node n)) r ∙ ap (λ t. then_all t r) (sym (then_is n done))

pub block_all : (ns ms : List Node) → body_of (ns ++ ms) ≡ then_all (body_of ns) (body_of ms)
block_all [] ms = refl
block_all (n ∷ ns) ms =
    node_all n (body_of (ns ++ ms)) ∙ ap (then_all (then_body n done)) (block_all ns ms)
    ∙ sym (all_assoc (then_body n done) (body_of ns) (body_of ms)) ∙ ap (λ t. then_all t (body_of ms)) (sym (node_all n (body_of ns)))

pub block_more : (ns : List Node) (i : ℕ) (n : Node) → i < length ns → n ≡ get_or ns i n → body_of (take (i + 1) ns) ≡ then_all (body_of (take i ns)) (then_body n done)
block_more ns i n lt is = ap body_of (take_more ns i n lt ∙ ap (λ x. take i ns ++ x ∷ []) (sym is)) ∙ block_all (take i ns) (n ∷ [])

-- the nodes of each kind
pub do_is : (o : Operation) → then_body (Do o) done ≡ op o done
do_is o = ap (λ z. then_body z done) (sym (rolls-Do o)) ∙ ap (λ f. f done) (fold-roll-Node _ node_step (Node-F.Do o))

pub if_is : (t : Test) (a b : List Node) → then_body (If t a b) done ≡ choose (asked_of t) (body_of a) (body_of b) done
if_is t a b = ap (λ z. then_body z done) (sym (rolls-If t a b)) ∙ ap (λ f. f done) (fold-roll-Node _ node_step (Node-F.If t a b))

pub while_is : (q : Bool) (p : List Node) (t : Test) (b : List Node) → then_body (While q p t b) done ≡ loop q (body_of p) (asked_of t) (body_of b) done
while_is q p t b = ap (λ z. then_body z done) (sym (rolls-While q p t b)) ∙ ap (λ f. f done) (fold-roll-Node _ node_step (Node-F.While q p t b))

-- ---- how many parts there are
abbrev pub size : Body → ℕ
size done = 0
size (op o r) = 1 + size r
size (quiet o r) = 1 + size r
size (choose c a b r) = 1 + size a + size b + size r
size (loop q p c b r) = 1 + size p + size b + size r
size (each f b r) = 0
size (call c b r) = 0

size_all : (t r : Body) → size (then_all t r) ≡ size t + size r
size_all done r = sym (zero-add (size r))
size_all (op o t) r = omega (arith, size_all t r)
size_all (quiet o t) r = omega (arith, size_all t r)
size_all (choose c a b t) r = omega (arith, size_all t r)
size_all (loop q p c b t) r = omega (arith, size_all t r)
size_all (each f b t) r = absurd f
size_all (call c b t) r = absurd c

pub size_at : (ns : List Node) (i : ℕ) (n : Node) → i < length ns → n ≡ get_or ns i n → size (then_body n done) ≤ size (body_of ns)
size_at [] i n lt e = absurd (omega arith)
size_at (x ∷ ns) zero n lt e = subst (λ z. size (then_body z done) ≤ size (body_of (x ∷ ns))) (sym e) (omega (arith, ap size (node_all x (body_of ns)), size_all (then_body x done) (body_of ns)))
size_at (x ∷ ns) (suc i) n lt e = omega (arith, size_at ns i n (omega arith) e, ap size (node_all x (body_of ns)), size_all (then_body x done) (body_of ns))

pub if_size : (t : Test) (a b : List Node) (n : Node) → n ≡ If t a b → size (then_body n done) ≡ 1 + size (body_of a) + size (body_of b) + 0
if_size t a b n is = ap size (ap (λ z. then_body z done) is ∙ if_is t a b)

pub while_size : (q : Bool) (p : List Node) (t : Test) (b : List Node) (n : Node) → n ≡ While q p t b → size (then_body n done) ≡ 1 + size (body_of p) + size (body_of b) + 0
while_size q p t b n is = ap size (ap (λ z. then_body z done) is ∙ while_is q p t b)
