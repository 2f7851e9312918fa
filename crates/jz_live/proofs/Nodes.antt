-- A block's tree, node by node.
use Rattle.std.proofs.Common.{◌≡◌, ℕ, zero, suc, ◌+◌, ◌<◌, ◌≤◌, List, [], ◌∷◌, ◌++◌, Bool, true, false, ◌||◌, inl, inr, IsTrue, Option, Some, None, length, get_or, drop, refl, sym, ap, ◌∙◌, subst, arith, append_assoc, append-nil, drop-cons}
use Rattle.jz_ir.specs.declared.code.Op.{Op}
use Rattle.jz_ir.specs.declared.code.Node.{Node}
use Rattle.jz_ir.specs.declared.code.Node.TheOpen.{Node-F}
use Rattle.jz_ir.specs.declared.code.Node.TheVariants.{While, rolls-While}
use Rattle.jz_ir.specs.declared.code.Node.TheFolds.{fold-roll-Node, map-Node}
use Rattle.jz_ir.specs.declared.code.Node.TheViews.{out-Node, roll-out-Node}
use Rattle.jz_ir.specs.Tree.{Tree, done, op, choose, loop, then_tree, node_step, tree_of}
use Rattle.jz_live.specs.InnerLives.{live_before, live_after_each, test_before, test_after, size, transfer, reads, writes}
use Rattle.jz_live.specs.Lives.{TreeBelow}
use Rattle.std.proofs.lemmas.Bool.{or_cases, or_left, or_right}
use Rattle.jz_live.proofs.Trees.{before_more}

layer_lives : (v : ℕ) (x : Node-F (Tree → Tree)) (r : Tree) (k : Bool) → live_before v (node_step x r) k ≡ live_before v (node_step x done) (live_before v r k)
layer_lives v (Node-F.Op o) r k = refl
layer_lives v (Node-F.If c a b) r k = refl
layer_lives v (Node-F.While p c b) r k = refl

layer_afters : (v : ℕ) (x : Node-F (Tree → Tree)) (r : Tree) (k : Bool) → live_after_each v (node_step x r) k ≡ live_after_each v (node_step x done) (live_before v r k) ++ live_after_each v r k
layer_afters v (Node-F.Op o) r k = refl
layer_afters v (Node-F.If c a b) r k = simp (append_assoc, append-nil)
layer_afters v (Node-F.While p c b) r k = simp (append_assoc, append-nil)

layer_fine : (n : ℕ) (x : Node-F (Tree → Tree)) (r : Tree) → TreeBelow n (node_step x r) → TreeBelow n (node_step x done) × TreeBelow n r
layer_fine n (Node-F.Op o) r (a, f) = ((a, tt), f)
layer_fine n (Node-F.If c a b) r (x, y, z, f) = ((x, y, z, tt), f)
layer_fine n (Node-F.While p c b) r (x, y, z, f) = ((x, y, z, tt), f)

then_is : (n : Node) (r : Tree) → then_tree n r ≡ node_step (map-Node _ _ then_tree (out-Node n)) r
then_is n r = ap (λ z. then_tree z r) (sym (roll-out-Node n)) ∙ ap (λ f. f r) (fold-roll-Node _ node_step (out-Node n))

pub node_lives : (v : ℕ) (n : Node) (r : Tree) (k : Bool) → live_before v (then_tree n r) k ≡ live_before v (then_tree n done) (live_before v r k)
node_lives v n r k = ap (λ t. live_before v t k) (then_is n r) ∙ layer_lives v (map-Node _ _ then_tree (out-Node n)) r k ∙ ap (λ t. live_before v t (live_before v r k)) (sym (then_is n done))

pub node_afters : (v : ℕ) (n : Node) (r : Tree) (k : Bool) → live_after_each v (then_tree n r) k ≡ live_after_each v (then_tree n done) (live_before v r k) ++ live_after_each v r k
node_afters v n r k = ap (λ t. live_after_each v t k) (then_is n r) ∙ layer_afters v (map-Node _ _ then_tree (out-Node n)) r k ∙ ap (λ t. live_after_each v t (live_before v r k) ++ live_after_each v r k) (sym (then_is n done))

pub node_fine : (m : ℕ) (n : Node) (r : Tree) → TreeBelow m (then_tree n r) → TreeBelow m (then_tree n done) × TreeBelow m r
node_fine m n r f = let z = layer_fine m (map-Node _ _ then_tree (out-Node n)) r (subst (TreeBelow m) (then_is n r) f) in (subst (TreeBelow m) (sym (then_is n done)) z.0, z.1)

layer_more : (n : ℕ) (x : Node-F (Tree → Tree)) (r : Tree) → TreeBelow n (node_step x done) → TreeBelow n r → TreeBelow n (node_step x r)
layer_more n (Node-F.Op o) r f g = (f.0, g)
layer_more n (Node-F.If c a b) r f g = (f.0, f.1, f.2, g)
layer_more n (Node-F.While p c b) r f g = (f.0, f.1, f.2, g)

node_more : (m : ℕ) (n : Node) (r : Tree) → TreeBelow m (then_tree n done) → TreeBelow m r → TreeBelow m (then_tree n r)
node_more m n r f g = subst (TreeBelow m) (sym (then_is n r)) (layer_more m (map-Node _ _ then_tree (out-Node n)) r (subst (TreeBelow m) (then_is n done) f) g)

pub fine_push : (m : ℕ) (ns : List Node) (n : Node) → TreeBelow m (tree_of ns) → TreeBelow m (then_tree n done) → TreeBelow m (tree_of (ns ++ n ∷ []))
fine_push m [] n f g = g
fine_push m (x ∷ ns) n f g = let z = node_fine m x (tree_of ns) f in node_more m x (tree_of (ns ++ n ∷ [])) z.0 (fine_push m ns n z.1 g)

pub fine_at : (m : ℕ) (ns : List Node) (i : ℕ) (n : Node) → TreeBelow m (tree_of ns) → i < length ns → n ≡ get_or ns i n → TreeBelow m (then_tree n done)
fine_at m [] i n f lt e = absurd (omega arith)
fine_at m (x ∷ ns) zero n f lt e = subst (λ z. TreeBelow m (then_tree z done)) (sym e) (node_fine m x (tree_of ns) f).0
fine_at m (x ∷ ns) (suc i) n f lt e = fine_at m ns i n (node_fine m x (tree_of ns) f).1 (omega arith) e

pub tree_step : (ns : List Node) (i : ℕ) (n : Node) → i < length ns → n ≡ get_or ns i n → tree_of (drop i ns) ≡ then_tree n (tree_of (drop (suc i) ns))
tree_step ns i n lt e = ap tree_of (drop-cons ns i n lt) ∙ ap (λ z. then_tree z (tree_of (drop (suc i) ns))) (sym e)

pub one_more : (v i j : ℕ) (ns : List Node) (n : Node) (k l m : Bool) → i ≡ suc j → j < length ns → n ≡ get_or ns j n → l ≡ live_before v (tree_of (drop i ns)) k → m ≡ live_before v (then_tree n done) l → m ≡ live_before v (tree_of (drop j ns)) k
one_more v i j ns n k l m s lt e h g = g ∙ ap (live_before v (then_tree n done)) (h ∙ ap (λ x. live_before v (tree_of (drop x ns)) k) s) ∙ sym (node_lives v n (tree_of (drop (suc j) ns)) k) ∙ ap (λ t. live_before v t k) (sym (tree_step ns j n lt e))

layer_size : (x : Node-F (Tree → Tree)) (r : Tree) → size (node_step x r) ≡ size (node_step x done) + size r
layer_size (Node-F.Op o) r = omega arith
layer_size (Node-F.If c a b) r = omega arith
layer_size (Node-F.While p c b) r = omega arith

node_size : (n : Node) (r : Tree) → size (then_tree n r) ≡ size (then_tree n done) + size r
node_size n r = ap size (then_is n r) ∙ layer_size (map-Node _ _ then_tree (out-Node n)) r ∙ ap (λ t. size t + size r) (sym (then_is n done))

pub size_at : (ns : List Node) (i : ℕ) (n : Node) → i < length ns → n ≡ get_or ns i n → size (then_tree n done) ≤ size (tree_of ns)
size_at [] i n lt e = absurd (omega arith)
size_at (x ∷ ns) zero n lt e = subst (λ z. size (then_tree z done) ≤ size (tree_of (x ∷ ns))) (sym e) (omega (arith, node_size x (tree_of ns)))
size_at (x ∷ ns) (suc i) n lt e = omega (arith, size_at ns i n (omega arith) e, node_size x (tree_of ns))

pub afters_more : (v i j : ℕ) (ns : List Node) (n : Node) (k l : Bool) (old now new : List Bool) → i ≡ suc j → j < length ns → n ≡ get_or ns j n → l ≡ live_before v (tree_of (drop i ns)) k → now ≡ live_after_each v (tree_of (drop i ns)) k ++ old → new ≡ live_after_each v (then_tree n done) l ++ now → new ≡ live_after_each v (tree_of (drop j ns)) k ++ old
afters_more v i j ns n k l old now new s lt e h g f =
    f ∙ ap (λ x. live_after_each v (then_tree n done) l ++ x) g ∙ sym (append_assoc (live_after_each v (then_tree n done) l) (live_after_each v (tree_of (drop i ns)) k) old)
    ∙ ap (λ x. x ++ old) (ap (λ x. live_after_each v (then_tree n done) x ++ live_after_each v (tree_of (drop i ns)) k) h ∙ ap (λ x. live_after_each v (then_tree n done) (live_before v (tree_of (drop x ns)) k) ++ live_after_each v (tree_of (drop x ns)) k) s ∙ sym (node_afters v n (tree_of (drop (suc j) ns)) k) ∙ ap (λ t. live_after_each v t k) (sym (tree_step ns j n lt e)))

-- live before a block grows with what is live behind it
more_live : (v : ℕ) (t : Tree) (a b : Bool) → (IsTrue a → IsTrue b) → IsTrue (live_before v t a) → IsTrue (live_before v t b)
more_live v done a b f h = f h
more_live v (op o t) a b f h = before_more (reads v o) (writes v o) (live_before v t a) (live_before v t b) (more_live v t a b f) h
more_live v (choose c x y r) a b f h = before_more (reads v c) (writes v c) (live_before v x (live_before v r a) || live_before v y (live_before v r a)) (live_before v x (live_before v r b) || live_before v y (live_before v r b)) (λ z. elim (or_cases (live_before v x (live_before v r a)) (live_before v y (live_before v r a)) z) [
  | inl e ↦ or_left _ _ (more_live v x (live_before v r a) (live_before v r b) (more_live v r a b f) e)
  | inr e ↦ or_right _ _ (more_live v y (live_before v r a) (live_before v r b) (more_live v r a b f) e)
]) h
more_live v (loop p None x r) a b f h = h
more_live v (loop p (Some c) x r) a b f h = more_live v p (transfer (reads v c) (writes v c) (live_before v x false || live_before v r a)) (transfer (reads v c) (writes v c) (live_before v x false || live_before v r b)) (before_more (reads v c) (writes v c) (live_before v x false || live_before v r a) (live_before v x false || live_before v r b) (λ z. elim (or_cases (live_before v x false) (live_before v r a) z) [
  | inl e ↦ or_left _ _ e
  | inr e ↦ or_right _ _ (more_live v r a b f e)
])) h

test_more : (v : ℕ) (c : Option Op) (a b l : Bool) → (IsTrue a → IsTrue b) → IsTrue (test_before v c a l) → IsTrue (test_before v c b l)
test_more v None a b l f h = f h
test_more v (Some c) a b l f h = before_more (reads v c) (writes v c) (a || l) (b || l) (λ z. elim (or_cases a l z) [ inl e ↦ or_left b l (f e) | inr e ↦ or_right b l e ]) h

-- with what is live at the head behind the body, nothing more is live at the head
pub head_is : (v : ℕ) (p : Tree) (c : Option Op) (b : Tree) (l x : Bool) → live_before v p (test_before v c (live_before v b false) l) ≡ x → live_before v p (test_before v c (live_before v b x) l) ≡ x
head_is v p c b l false e = e
head_is v p c b l true e = more_live v p (test_before v c (live_before v b false) l) (test_before v c (live_before v b true) l) (test_more v c (live_before v b false) (live_before v b true) l (more_live v b false true (λ z. refl))) e

regroup : (x y z w : List Bool) → x ++ (y ++ (z ++ w)) ≡ (x ++ (y ++ (z ++ []))) ++ w
regroup x y z w = simp (append_assoc, append-nil)

pub while_is : (p : List Node) (c : Option Op) (b : List Node) → then_tree (While p c b) done ≡ loop (tree_of p) c (tree_of b) done
while_is p c b = ap (λ z. then_tree z done) (sym (rolls-While p c b)) ∙ ap (λ f. f done) (fold-roll-Node _ node_step (Node-F.While p c b))

-- a loop, as the code goes through it
module _ (v : ℕ) (p : Tree) (c : Option Op) (b : Tree) (bv ev fv gv hv lv tv rv : Bool) (e0 : ev ≡ false) (e1 : fv ≡ live_before v b ev) (e2 : gv ≡ test_before v c fv bv) (e3 : hv ≡ live_before v p gv) (e4 : lv ≡ live_before v b hv) (e5 : tv ≡ test_before v c lv bv) (e6 : rv ≡ live_before v p tv) where
  head_there : hv ≡ live_before v p (test_before v c (live_before v b false) bv)
  head_there = e3 ∙ ap (live_before v p) (e2 ∙ ap (λ x. test_before v c x bv) (e1 ∙ ap (live_before v b) e0))

  test_there : tv ≡ test_before v c (live_before v b hv) bv
  test_there = e5 ∙ ap (λ x. test_before v c x bv) e4

  pub while_set : rv ≡ live_before v (loop p c b done) bv
  while_set = e6 ∙ ap (live_before v p) test_there ∙ head_is v p c b bv hv (sym head_there) ∙ head_there

  pub while_rows : (old m1 m2 new : List Bool) → m1 ≡ live_after_each v b hv ++ old → m2 ≡ test_after v c lv bv ++ m1 → new ≡ live_after_each v p tv ++ m2 → new ≡ live_after_each v (loop p c b done) bv ++ old
  while_rows old m1 m2 new f1 f2 f3 =
      f3 ∙ ap (λ x. live_after_each v p tv ++ x) (f2 ∙ ap (λ x. test_after v c lv bv ++ x) f1)
      ∙ ap (λ x. live_after_each v p x ++ (test_after v c lv bv ++ (live_after_each v b hv ++ old))) test_there
      ∙ ap (λ x. live_after_each v p (test_before v c (live_before v b hv) bv) ++ (test_after v c x bv ++ (live_after_each v b hv ++ old))) e4
      ∙ regroup (live_after_each v p (test_before v c (live_before v b hv) bv)) (test_after v c (live_before v b hv) bv) (live_after_each v b hv) old
      ∙ ap (λ x. (live_after_each v p (test_before v c (live_before v b x) bv) ++ (test_after v c (live_before v b x) bv ++ (live_after_each v b x ++ []))) ++ old) head_there
