-- What is live of the followed variables does not change where the others are left out.
use Rattle.std.proofs.Common.{◌≡◌, ℕ, ◌+◌, ◌<◌, ◌↔◌, Bool, true, false, not, ◌&&◌, ◌||◌, List, [], ◌∷◌, ◌++◌, Option, Some, None, IsTrue, IsFalse, map, length, get_or, take, cond, refl, sym, ap, ◌∙◌, subst, arith, append_assoc, append-nil, nat_eq, true≢false}
use Rattle.std.specs.List.{All, filter}
use Rattle.std.proofs.lemmas.Bool.{eqb-true, false_from_ne_true}
use Rattle.std.proofs.lemmas.List.{get_or-map, length-map, map-append, take_more}
use Rattle.std.proofs.lemmas.List.Elements.{All-nil, All-cons, All-append, All-get_or, filter_more}
use Rattle.jz_bits.specs.Has.{has}
use Rattle.jz_ir.specs.declared.code.Op.{Op}
use Rattle.jz_ir.specs.declared.code.Node.{Node}
use Rattle.jz_ir.specs.declared.code.Node.TheOpen.{Node-F}
use Rattle.jz_ir.specs.declared.code.Node.TheVariants.{If, While, rolls-If, rolls-While}
use Rattle.jz_ir.specs.declared.code.Node.TheVariants as node
use Rattle.jz_ir.specs.declared.code.Node.TheFolds.{fold-roll-Node, map-Node}
use Rattle.jz_ir.specs.declared.code.Node.TheViews.{out-Node, roll-out-Node}
use Rattle.jz_ir.specs.Paths.{among}
use Rattle.jz_ir.specs.Tree.{Tree, done, op, choose, loop, Frame, at, test, states, ops_of, op_of, then_tree, node_step, tree_of, LiveInTree}
use Rattle.jz_live.specs.InnerLives.{transfer, reads, writes, test_before, test_after, live_before, live_after_each}
use Rattle.jz_live.proofs.Nodes.{while_is}
use Rattle.jz_live.proofs.Trees.{after_at, IsHead, heads, after_sound, after_complete, afters_are}
use Rattle.jz_live_lists.specs.Followed.{only, only_test, only_tree, FollowedLive}
use Rattle.jz_live_lists.specs.InnerOps.{ops_in, test_in}
use Rattle.jz_live_lists.proofs.Trees.{ops_are}

-- ---- one variable among those that are kept
among_kept : (f xs : List ℕ) (v : ℕ) → has f v ≡ true → among (filter (has f) xs) v ≡ among xs v
among_kept f [] v h = refl
among_kept f (x ∷ xs) v h = go (among_kept f xs v h) (has f x) refl
  where
    go : among (filter (has f) xs) v ≡ among xs v → (b : Bool) → has f x ≡ b → among (cond b (x ∷ filter (has f) xs) (filter (has f) xs)) v ≡ (nat_eq x v || among xs v)
    go rest true e = ap (λ y. nat_eq x v || y) rest
    go rest false e = rest ∙ sym (ap (λ y. y || among xs v) (false_from_ne_true (nat_eq x v) (λ t. true≢false (sym (subst (λ y. has f y ≡ true) (sym (eqb-true x v t)) h) ∙ e))))

none_kept : (f xs : List ℕ) (v : ℕ) → has f v ≡ false → among (filter (has f) xs) v ≡ false
none_kept f [] v h = refl
none_kept f (x ∷ xs) v h = go (none_kept f xs v h) (has f x) refl
  where
    go : among (filter (has f) xs) v ≡ false → (b : Bool) → has f x ≡ b → among (cond b (x ∷ filter (has f) xs) (filter (has f) xs)) v ≡ false
    go rest true e = ap (λ y. y || among (filter (has f) xs) v) (false_from_ne_true (nat_eq x v) (λ t. true≢false (sym e ∙ subst (λ y. has f y ≡ false) (sym (eqb-true x v t)) h))) ∙ rest
    go rest false e = rest

-- ---- liveness of a variable that is followed
module _ (f : List ℕ) (v : ℕ) (h : has f v ≡ true) where
  transfer_kept : (x : Op) (a b : Bool) → a ≡ b → transfer (reads v (only f x)) (writes v (only f x)) a ≡ transfer (reads v x) (writes v x) b
  transfer_kept x a b e = ap (λ y. transfer (reads v (only f x)) (writes v (only f x)) y) e ∙ ap (λ r. transfer r (writes v (only f x)) b) (among_kept f x.reads v h) ∙ ap (λ w. transfer (reads v x) w b) (among_kept f x.writes v h)

  test_kept : (c : Option Op) (a b k l : Bool) → a ≡ b → k ≡ l → test_before v (only_test f c) a k ≡ test_before v c b l
  test_kept None a b k l e g = e
  test_kept (Some x) a b k l e g = transfer_kept x (a || k) (b || l) (ap (λ y. y || k) e ∙ ap (λ y. b || y) g)

  tests_kept : (c : Option Op) (a b k l : Bool) → a ≡ b → k ≡ l → test_after v (only_test f c) a k ≡ test_after v c b l
  tests_kept None a b k l e g = refl
  tests_kept (Some x) a b k l e g = ap (λ y. y ∷ []) (ap (λ y. y || k) e ∙ ap (λ y. b || y) g)

  before_kept : (t : Tree) (a b : Bool) → a ≡ b → live_before v (only_tree f t) a ≡ live_before v t b
  before_kept done a b e = e
  before_kept (op x r) a b e = transfer_kept x _ _ (before_kept r a b e)
  before_kept (choose c y z r) a b e =
      let k : live_before v (only_tree f r) a ≡ live_before v r b = before_kept r a b e in
      transfer_kept c _ _ (ap (λ q. q || live_before v (only_tree f z) (live_before v (only_tree f r) a)) (before_kept y _ _ k) ∙ ap (λ q. live_before v y (live_before v r b) || q) (before_kept z _ _ k))
  before_kept (loop p c y r) a b e =
      before_kept p _ _ (test_kept c _ _ _ _ (before_kept y false false refl) (before_kept r a b e))

  afters_kept : (t : Tree) (a b : Bool) → a ≡ b → live_after_each v (only_tree f t) a ≡ live_after_each v t b
  afters_kept done a b e = refl
  afters_kept (op x r) a b e = ap (λ q. q ∷ live_after_each v (only_tree f r) a) (before_kept r a b e) ∙ ap (λ q. live_before v r b ∷ q) (afters_kept r a b e)
  afters_kept (choose c y z r) a b e =
      let k : live_before v (only_tree f r) a ≡ live_before v r b = before_kept r a b e in
      four _ _ _ _ _ _ _ _ (ap (λ q. q || live_before v (only_tree f z) (live_before v (only_tree f r) a)) (before_kept y _ _ k) ∙ ap (λ q. live_before v y (live_before v r b) || q) (before_kept z _ _ k)) (afters_kept y _ _ k) (afters_kept z _ _ k) (afters_kept r a b e)
    where
      four : (x x' : Bool) (p p' q q' s s' : List Bool) → x ≡ x' → p ≡ p' → q ≡ q' → s ≡ s' → x ∷ (p ++ (q ++ s)) ≡ x' ∷ (p' ++ (q' ++ s'))
      four x x' p p' q q' s s' e1 e2 e3 e4 = ap (λ w. w ∷ (p ++ (q ++ s))) e1 ∙ ap (λ w. x' ∷ (w ++ (q ++ s))) e2 ∙ ap (λ w. x' ∷ (p' ++ (w ++ s))) e3 ∙ ap (λ w. x' ∷ (p' ++ (q' ++ w))) e4
  afters_kept (loop p c y r) a b e =
      let k : live_before v (only_tree f r) a ≡ live_before v r b = before_kept r a b e in
      let g : live_before v (only_tree f (loop p c y r)) a ≡ live_before v (loop p c y r) b = before_kept (loop p c y r) a b e in
      let m = before_kept y _ _ g in
      four _ _ _ _ _ _ _ _ (afters_kept p _ _ (test_kept c _ _ _ _ m k)) (tests_kept c _ _ _ _ m k) (afters_kept y _ _ g) (afters_kept r a b e)
    where
      four : (x x' p p' q q' s s' : List Bool) → x ≡ x' → p ≡ p' → q ≡ q' → s ≡ s' → x ++ (p ++ (q ++ s)) ≡ x' ++ (p' ++ (q' ++ s'))
      four x x' p p' q q' s s' e1 e2 e3 e4 = ap (λ w. w ++ (p ++ (q ++ s))) e1 ∙ ap (λ w. x' ++ (w ++ (q ++ s))) e2 ∙ ap (λ w. x' ++ (p' ++ (w ++ s))) e3 ∙ ap (λ w. x' ++ (p' ++ (q' ++ w))) e4

-- ---- and of one that is not
module _ (f : List ℕ) (v : ℕ) (h : has f v ≡ false) where
  transfer_none : (x : Op) (a : Bool) → a ≡ false → transfer (reads v (only f x)) (writes v (only f x)) a ≡ false
  transfer_none x a e = ap (λ r. transfer r (writes v (only f x)) a) (none_kept f x.reads v h) ∙ ap (λ w. not w && a) (none_kept f x.writes v h) ∙ e

  test_none : (c : Option Op) (a k : Bool) → a ≡ false → k ≡ false → test_before v (only_test f c) a k ≡ false
  test_none None a k e g = e
  test_none (Some x) a k e g = transfer_none x (a || k) (ap (λ y. y || k) e ∙ g)

  before_none : (t : Tree) (a : Bool) → a ≡ false → live_before v (only_tree f t) a ≡ false
  before_none done a e = e
  before_none (op x r) a e = transfer_none x _ (before_none r a e)
  before_none (choose c y z r) a e =
      let k : live_before v (only_tree f r) a ≡ false = before_none r a e in
      transfer_none c _ (ap (λ q. q || live_before v (only_tree f z) (live_before v (only_tree f r) a)) (before_none y _ k) ∙ before_none z _ k)
  before_none (loop p c y r) a e = before_none p _ (test_none c _ _ (before_none y false refl) (before_none r a e))

  abbrev No : Bool → Type 0
  No b = b ≡ false

  tests_none : (c : Option Op) (a k : Bool) → a ≡ false → k ≡ false → All No (test_after v (only_test f c) a k)
  tests_none None a k e g = All-nil No
  tests_none (Some x) a k e g = All-cons No (a || k) [] (ap (λ y. y || k) e ∙ g) (All-nil No)

  afters_none : (t : Tree) (a : Bool) → a ≡ false → All No (live_after_each v (only_tree f t) a)
  afters_none done a e = All-nil No
  afters_none (op x r) a e = All-cons No _ _ (before_none r a e) (afters_none r a e)
  afters_none (choose c y z r) a e =
      let k : live_before v (only_tree f r) a ≡ false = before_none r a e in
      All-cons No _ _ (ap (λ q. q || live_before v (only_tree f z) (live_before v (only_tree f r) a)) (before_none y _ k) ∙ before_none z _ k)
      (All-append No _ _ (afters_none y _ k) (All-append No _ _ (afters_none z _ k) (afters_none r a e)))
  afters_none (loop p c y r) a e =
      let k : live_before v (only_tree f r) a ≡ false = before_none r a e in
      let g : live_before v (only_tree f (loop p c y r)) a ≡ false = before_none (loop p c y r) a e in
      let m = before_none y _ g in
      All-append No _ _ (afters_none p _ (test_none c _ _ m k)) (All-append No _ _ (tests_none c _ _ m k) (All-append No _ _ (afters_none y _ g) (afters_none r a e)))

-- ---- how many operations there are
test_only : (f : List ℕ) (c : Option Op) → test_in (only_test f c) ≡ map (only f) (test_in c)
test_only f None = refl
test_only f (Some x) = refl

pub ops_only : (f : List ℕ) (t : Tree) → ops_in (only_tree f t) ≡ map (only f) (ops_in t)
ops_only f done = refl
ops_only f (op x r) = ap (λ y. only f x ∷ y) (ops_only f r)
ops_only f (choose c a b r) = simp (map-append, ops_only f a, ops_only f b, ops_only f r)
ops_only f (loop p c b r) = simp (map-append, ops_only f p, test_only f c, ops_only f b, ops_only f r)

count_of : (t : Tree) → length (states t []) ≡ length (ops_in t)
count_of t = sym (length-map (states t []) op_of) ∙ ap length (ops_are t [])

pub count_only : (f : List ℕ) (t : Tree) → length (states (only_tree f t) []) ≡ length (states t [])
count_only f t = count_of (only_tree f t) ∙ ap length (ops_only f t) ∙ length-map (ops_in t) (only f) ∙ sym (count_of t)

-- ---- by paths
-- whether a variable is live after the operation i, as it is computed
live_is : (v : ℕ) (t : Tree) (i : ℕ) → i < length (states t []) → IsTrue (get_or (live_after_each v t false) i false) ↔ LiveInTree t i v
live_is v t i lt =
    let e : get_or (live_after_each v t false) i false ≡ after_at v (get_or (states t []) i []) = ap (λ x. get_or x i false) (sym (afters_are v t [])) ∙ get_or-map (after_at v) (states t []) i [] false lt in
    let h = All-get_or IsHead (states t []) i [] lt (heads t []) in
    (λ a. after_sound v h (sym e ∙ a), λ a. e ∙ after_complete v h a)

nowhere : (f : List ℕ) (v : ℕ) → has f v ≡ false → (t : Tree) (i : ℕ) → i < length (states (only_tree f t) []) → get_or (live_after_each v (only_tree f t) false) i false ≡ false
nowhere f v e t i lt =
    let c : length (states (only_tree f t) []) ≡ length (live_after_each v (only_tree f t) false) = sym (length-map (states (only_tree f t) []) (after_at v)) ∙ ap length (afters_are v (only_tree f t) []) in
    All-get_or (λ b. b ≡ false) (live_after_each v (only_tree f t) false) i false (omega (arith, lt, c)) (afters_none f v e t false refl)

pub live_only : (f : List ℕ) (t : Tree) (i v : ℕ) → i < length (states t []) → LiveInTree (only_tree f t) i v ↔ FollowedLive f t i v
live_only f t i v lt = go (has f v) refl
  where
    below : i < length (states (only_tree f t) [])
    below = omega (arith, count_only f t, lt)

    here : IsTrue (get_or (live_after_each v t false) i false) ↔ LiveInTree t i v
    here = live_is v t i lt

    there : IsTrue (get_or (live_after_each v (only_tree f t) false) i false) ↔ LiveInTree (only_tree f t) i v
    there = live_is v (only_tree f t) i below

    go : (b : Bool) → has f v ≡ b → LiveInTree (only_tree f t) i v ↔ FollowedLive f t i v
    go true e =
        let same : get_or (live_after_each v (only_tree f t) false) i false ≡ get_or (live_after_each v t false) i false = ap (λ x. get_or x i false) (afters_kept f v e t false false refl) in
        (λ l. (e, here.0 (sym same ∙ there.1 l)), λ l. there.0 (same ∙ here.1 l.1))
    go false e = (λ l. absurd (true≢false (sym (there.1 l) ∙ nowhere f v e t i below)), λ l. absurd (true≢false (sym l.0 ∙ e)))

-- ---- nodes
-- a tree, and another behind it
abbrev pub then_all : Tree → Tree → Tree
then_all done r = r
then_all (op x t) r = op x (then_all t r)
then_all (choose c a b t) r = choose c a b (then_all t r)
then_all (loop p c b t) r = loop p c b (then_all t r)

all_only : (f : List ℕ) (t r : Tree) → only_tree f (then_all t r) ≡ then_all (only_tree f t) (only_tree f r)
all_only f done r = refl
all_only f (op x t) r = ap (op (only f x)) (all_only f t r)
all_only f (choose c a b t) r = ap (choose (only f c) (only_tree f a) (only_tree f b)) (all_only f t r)
all_only f (loop p c b t) r = ap (loop (only_tree f p) (only_test f c) (only_tree f b)) (all_only f t r)

pub all_assoc : (s t r : Tree) → then_all (then_all s t) r ≡ then_all s (then_all t r)
all_assoc done t r = refl
all_assoc (op x s) t r = ap (op x) (all_assoc s t r)
all_assoc (choose c a b s) t r = ap (choose c a b) (all_assoc s t r)
all_assoc (loop p c b s) t r = ap (loop p c b) (all_assoc s t r)

layer_all : (x : Node-F (Tree → Tree)) (r : Tree) → node_step x r ≡ then_all (node_step x done) r
layer_all (Node-F.Op o) r = refl
layer_all (Node-F.If c a b) r = refl
layer_all (Node-F.While p c b) r = refl

then_is : (n : Node) (r : Tree) → then_tree n r ≡ node_step (map-Node _ _ then_tree (out-Node n)) r
then_is n r = ap (λ z. then_tree z r) (sym (roll-out-Node n)) ∙ ap (λ f. f r) (fold-roll-Node _ node_step (out-Node n))

pub node_all : (n : Node) (r : Tree) → then_tree n r ≡ then_all (then_tree n done) r
node_all n r = then_is n r ∙ layer_all (map-Node _ _ then_tree (out-Node n)) r ∙ ap (λ t. then_all t r) (sym (then_is n done))

pub block_all : (ns ms : List Node) → tree_of (ns ++ ms) ≡ then_all (tree_of ns) (tree_of ms)
block_all [] ms = refl
block_all (n ∷ ns) ms =
    node_all n (tree_of (ns ++ ms)) ∙ ap (then_all (then_tree n done)) (block_all ns ms)
    ∙ sym (all_assoc (then_tree n done) (tree_of ns) (tree_of ms)) ∙ ap (λ t. then_all t (tree_of ms)) (sym (node_all n (tree_of ns)))

-- one node more
pub one_more : (f : List ℕ) (ns : List Node) (i : ℕ) (n m : Node) (old new : List Node) → i < length ns → n ≡ get_or ns i n → tree_of old ≡ only_tree f (tree_of (take i ns)) → then_tree m done ≡ only_tree f (then_tree n done) → new ≡ old ++ m ∷ [] → tree_of new ≡ only_tree f (tree_of (take (i + 1) ns))
one_more f ns i n m old new lt is e g h =
    ap tree_of h ∙ block_all old (m ∷ []) ∙ ap (λ t. then_all t (then_tree m done)) e ∙ ap (then_all (only_tree f (tree_of (take i ns)))) g
    ∙ sym (all_only f (tree_of (take i ns)) (then_tree n done))
    ∙ ap (only_tree f) (sym (block_all (take i ns) (n ∷ [])) ∙ ap tree_of (ap (λ x. take i ns ++ x ∷ []) is ∙ sym (take_more ns i n lt)))

-- the nodes of each kind
pub if_is : (c : Op) (a b : List Node) → then_tree (If c a b) done ≡ choose c (tree_of a) (tree_of b) done
if_is c a b = ap (λ z. then_tree z done) (sym (rolls-If c a b)) ∙ ap (λ f. f done) (fold-roll-Node _ node_step (Node-F.If c a b))

pub if_only : (f : List ℕ) (c c' : Op) (a a' b b' : List Node) (n : Node) → n ≡ If c a b → c' ≡ only f c → tree_of a' ≡ only_tree f (tree_of a) → tree_of b' ≡ only_tree f (tree_of b) → then_tree (If c' a' b') done ≡ only_tree f (then_tree n done)
if_only f c c' a a' b b' n e e1 e2 e3 =
    if_is c' a' b' ∙ ap (λ x. choose x (tree_of a') (tree_of b') done) e1 ∙ ap (λ x. choose (only f c) x (tree_of b') done) e2 ∙ ap (λ x. choose (only f c) (only_tree f (tree_of a)) x done) e3
    ∙ ap (only_tree f) (sym (ap (λ x. then_tree x done) e ∙ if_is c a b))

pub while_only : (f : List ℕ) (c c' : Option Op) (p p' b b' : List Node) (n : Node) → n ≡ While p c b → c' ≡ only_test f c → tree_of p' ≡ only_tree f (tree_of p) → tree_of b' ≡ only_tree f (tree_of b) → then_tree (While p' c' b') done ≡ only_tree f (then_tree n done)
while_only f c c' p p' b b' n e e1 e2 e3 =
    while_is p' c' b' ∙ ap (λ x. loop (tree_of p') x (tree_of b') done) e1 ∙ ap (λ x. loop x (only_test f c) (tree_of b') done) e2 ∙ ap (λ x. loop (only_tree f (tree_of p)) (only_test f c) x done) e3
    ∙ ap (only_tree f) (sym (ap (λ x. then_tree x done) e ∙ while_is p c b))

-- ---- the list of those that are kept
pub one_kept : (f xs : List ℕ) (i d : ℕ) (old new : List ℕ) → i < length xs → d ≡ get_or xs i d → old ≡ filter (has f) (take i xs) → has f d ≡ true → new ≡ old ++ d ∷ [] → new ≡ filter (has f) (take (i + 1) xs)
one_kept f xs i d old new lt is e h g =
    g ∙ ap (λ x. x ++ d ∷ []) e
    ∙ ap (λ b. filter (has f) (take i xs) ++ cond b (d ∷ []) []) (sym h)
    ∙ ap (λ x. filter (has f) (take i xs) ++ cond (has f x) (x ∷ []) []) is
    ∙ sym (filter_more (has f) xs i d lt)

pub none_more : (f xs : List ℕ) (i d : ℕ) (old new : List ℕ) → i < length xs → d ≡ get_or xs i d → old ≡ filter (has f) (take i xs) → has f d ≡ false → new ≡ old → new ≡ filter (has f) (take (i + 1) xs)
none_more f xs i d old new lt is e h g =
    g ∙ e ∙ sym (append-nil (filter (has f) (take i xs)))
    ∙ ap (λ b. filter (has f) (take i xs) ++ cond b (d ∷ []) []) (sym h)
    ∙ ap (λ x. filter (has f) (take i xs) ++ cond (has f x) (x ∷ []) []) is
    ∙ sym (filter_more (has f) xs i d lt)

-- ---- the whole
pub rows_exact : (f : List ℕ) (t s : Tree) (rows : List (List ℕ)) → s ≡ only_tree f t → length rows ≡ length (states s []) → ((i : ℕ) → i < length rows → (v : ℕ) → IsTrue (among (get_or rows i []) v) ↔ LiveInTree s i v) → (i : ℕ) → i < length rows → (v : ℕ) → IsTrue (among (get_or rows i []) v) ↔ FollowedLive f t i v
rows_exact f t s rows e c h i lt v =
    let lt' : i < length (states t []) = omega (arith, lt, c, ap (λ x. length (states x [])) e, count_only f t) in
    let z = live_only f t i v lt' in
    let y = subst (λ x. IsTrue (among (get_or rows i []) v) ↔ LiveInTree x i v) e (h i lt v) in
    (λ a. z.0 (y.0 a), λ a. y.1 (z.1 a))

pub rows_count : (f : List ℕ) (t s : Tree) (rows : List (List ℕ)) → s ≡ only_tree f t → length rows ≡ length (states s []) → length rows ≡ length (states t [])
rows_count f t s rows e c = c ∙ ap (λ x. length (states x [])) e ∙ count_only f t
