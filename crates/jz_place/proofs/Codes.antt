-- The instructions of bodies.
use Rattle.std.proofs.Common.{◌≡◌, ℕ, zero, suc, ◌+◌, ◌<◌, Bool, List, [], ◌∷◌, ◌++◌, length, get_or, take, refl, sym, ap, ◌∙◌, subst, arith}
use Rattle.x64_insn.specs.declared.types.Place.{Place}
use Rattle.x64_insn.specs.declared.types.Insn.{Insn}
use Rattle.jz_runs.specs.Trees.{done, op, quiet, choose, loop, each, call}
use Rattle.jz_operations.specs.declared.operation.Operation.{Operation}
use Rattle.jz_operations.specs.Rows.{accesses}
use Rattle.jz_operations.specs.Insns.{AllFit, insn_of}
use Rattle.jz_placing.specs.Instructions.{Code}
use Rattle.jz_placing.specs.Variables.{Body}
use Rattle.jz_placing.specs.Placing.{test_for, code_of}
use Rattle.jz_place.specs.declared.tree.Test.{Test}
use Rattle.jz_place.specs.declared.tree.Node.{Node}
use Rattle.jz_place.specs.declared.tree.Node.TheVariants as over
use Rattle.jz_place.specs.declared.placed.PlacedTest.{PlacedTest}
use Rattle.jz_place.specs.declared.placed.PlacedNode.{PlacedNode}
use Rattle.jz_place.specs.declared.placed.PlacedNode.TheOpen.{PlacedNode-F}
use Rattle.jz_place.specs.declared.placed.PlacedNode.TheVariants.{Do, If, While, rolls-Do, rolls-If, rolls-While}
use Rattle.jz_place.specs.declared.placed.PlacedNode.TheFolds.{fold-roll-PlacedNode, map-PlacedNode}
use Rattle.jz_place.specs.declared.placed.PlacedNode.TheViews.{out-PlacedNode, roll-out-PlacedNode}
use Rattle.jz_place.specs.Bodies.{asked_of, then_body, body_of}
use Rattle.jz_place.specs.Codes.{test_in, node_step, then_code, code_in, TestFits, BodyFits}
use Rattle.jz_place.proofs.Bodies as body
use Rattle.jz_place.proofs.Bodies.{then_all, all_assoc, block_more}

-- ---- nodes of instructions
layer_all : (x : PlacedNode-F (Code → Code)) (r : Code) → node_step x r ≡ then_all (node_step x done) r
layer_all (PlacedNode-F.Do i) r = refl
layer_all (PlacedNode-F.If t a b) r = refl
layer_all (PlacedNode-F.While q p t b) r = refl

then_is : (n : PlacedNode) (r : Code) → then_code n r ≡ node_step (map-PlacedNode _ _ then_code (out-PlacedNode n)) r
then_is n r = ap (λ z. then_code z r) (sym (roll-out-PlacedNode n)) ∙ ap (λ f. f r) (fold-roll-PlacedNode _ node_step (out-PlacedNode n))

node_all : (n : PlacedNode) (r : Code) → then_code n r ≡ then_all (then_code n done) r
node_all n r = then_is n r ∙ layer_all (map-PlacedNode _ _ then_code (out-PlacedNode n)) r ∙ ap (λ t. then_all t r) (sym (then_is n done))

block_all : (ns ms : List PlacedNode) → code_in (ns ++ ms) ≡ then_all (code_in ns) (code_in ms)
block_all [] ms = refl
block_all (n ∷ ns) ms =
    node_all n (code_in (ns ++ ms)) ∙ ap (then_all (then_code n done)) (block_all ns ms)
    ∙ sym (all_assoc (then_code n done) (code_in ns) (code_in ms)) ∙ ap (λ t. then_all t (code_in ms)) (sym (node_all n (code_in ns)))

do_is : (i : Insn) → then_code (Do i) done ≡ op i done
do_is i = ap (λ z. then_code z done) (sym (rolls-Do i)) ∙ ap (λ f. f done) (fold-roll-PlacedNode _ node_step (PlacedNode-F.Do i))

if_is : (t : PlacedTest) (a b : List PlacedNode) → then_code (If t a b) done ≡ choose (test_in t) (code_in a) (code_in b) done
if_is t a b = ap (λ z. then_code z done) (sym (rolls-If t a b)) ∙ ap (λ f. f done) (fold-roll-PlacedNode _ node_step (PlacedNode-F.If t a b))

while_is : (q : Bool) (p : List PlacedNode) (t : PlacedTest) (b : List PlacedNode) → then_code (While q p t b) done ≡ loop q (code_in p) (test_in t) (code_in b) done
while_is q p t b = ap (λ z. then_code z done) (sym (rolls-While q p t b)) ∙ ap (λ f. f done) (fold-roll-PlacedNode _ node_step (PlacedNode-F.While q p t b))

module _ (places : ℕ → Place) (slots : ℕ → ℕ) where
  abbrev put : Body → Code
  put t = code_of places slots t

  code_all : (t r : Body) → put (then_all t r) ≡ then_all (put t) (put r)
  code_all done r = refl
  code_all (op o t) r = ap (op (insn_of places slots o.action)) (code_all t r)
  code_all (quiet o t) r = code_all t r
  code_all (choose c a b t) r = ap (choose (test_for places slots c) (put a) (put b)) (code_all t r)
  code_all (loop q p c b t) r = ap (loop q (put p) (test_for places slots c) (put b)) (code_all t r)
  code_all (each f b t) r = absurd f
  code_all (call c b t) r = absurd c

  pub one_more : (ns : List Node) (i : ℕ) (n : Node) (m : PlacedNode) (old new : List PlacedNode) → i < length ns → n ≡ get_or ns i n → code_in old ≡ put (body_of (take i ns)) → then_code m done ≡ put (then_body n done) → new ≡ old ++ m ∷ [] → code_in new ≡ put (body_of (take (i + 1) ns))
  one_more ns i n m old new lt is e g h =
      ap code_in h ∙ block_all old (m ∷ []) ∙ ap (λ t. then_all t (then_code m done)) e ∙ ap (then_all (put (body_of (take i ns)))) g
      ∙ sym (code_all (body_of (take i ns)) (then_body n done))
      ∙ ap put (sym (block_more ns i n lt is))

  pub do_placed : (o : Operation) (x : Insn) (n : Node) → n ≡ over.Do o → x ≡ insn_of places slots o.action → then_code (Do x) done ≡ put (then_body n done)
  do_placed o x n is e = do_is x ∙ ap (λ y. op y done) e ∙ ap put (sym (ap (λ z. then_body z done) is ∙ body.do_is o))

  pub if_placed : (t : Test) (a b : List Node) (x : PlacedTest) (a' b' : List PlacedNode) (n : Node) → n ≡ over.If t a b → test_in x ≡ test_for places slots (asked_of t) → code_in a' ≡ put (body_of a) → code_in b' ≡ put (body_of b) → then_code (If x a' b') done ≡ put (then_body n done)
  if_placed t a b x a' b' n is e1 e2 e3 =
      if_is x a' b' ∙ ap (λ y. choose y (code_in a') (code_in b') done) e1 ∙ ap (λ y. choose (test_for places slots (asked_of t)) y (code_in b') done) e2 ∙ ap (λ y. choose (test_for places slots (asked_of t)) (put (body_of a)) y done) e3
      ∙ ap put (sym (ap (λ z. then_body z done) is ∙ body.if_is t a b))

  pub while_placed : (q : Bool) (p : List Node) (t : Test) (b : List Node) (p' : List PlacedNode) (x : PlacedTest) (b' : List PlacedNode) (n : Node) → n ≡ over.While q p t b → code_in p' ≡ put (body_of p) → test_in x ≡ test_for places slots (asked_of t) → code_in b' ≡ put (body_of b) → then_code (While q p' x b') done ≡ put (then_body n done)
  while_placed q p t b p' x b' n is e1 e2 e3 =
      while_is q p' x b' ∙ ap (λ y. loop q y (test_in x) (code_in b') done) e1 ∙ ap (λ y. loop q (put (body_of p)) y (code_in b') done) e2 ∙ ap (λ y. loop q (put (body_of p)) (test_for places slots (asked_of t)) y done) e3
      ∙ ap put (sym (ap (λ z. then_body z done) is ∙ body.while_is q p t b))

-- ---- displacements that fit
fits_all : (slots : ℕ → ℕ) (t r : Body) → BodyFits slots (then_all t r) → BodyFits slots t × BodyFits slots r
fits_all slots done r f = (tt, f)
fits_all slots (op o t) r f = let z = fits_all slots t r f.1 in ((f.0, z.0), z.1)
fits_all slots (quiet o t) r f = fits_all slots t r f
fits_all slots (choose c a b t) r f = let z = fits_all slots t r f.3 in ((f.0, f.1, f.2, z.0), z.1)
fits_all slots (loop q p c b t) r f = let z = fits_all slots t r f.3 in ((f.0, f.1, f.2, z.0), z.1)
fits_all slots (each g b t) r f = absurd g
fits_all slots (call c b t) r f = absurd c

pub fits_at : (slots : ℕ → ℕ) (ns : List Node) (i : ℕ) (n : Node) → i < length ns → n ≡ get_or ns i n → BodyFits slots (body_of ns) → BodyFits slots (then_body n done)
fits_at slots [] i n lt e f = absurd (omega arith)
fits_at slots (x ∷ ns) zero n lt e f = subst (λ z. BodyFits slots (then_body z done)) (sym e) (fits_all slots (then_body x done) (body_of ns) (subst (BodyFits slots) (body.node_all x (body_of ns)) f)).0
fits_at slots (x ∷ ns) (suc i) n lt e f = fits_at slots ns i n (omega arith) e (fits_all slots (then_body x done) (body_of ns) (subst (BodyFits slots) (body.node_all x (body_of ns)) f)).1

-- the parts of a node
pub do_fits : (slots : ℕ → ℕ) (o : Operation) (n : Node) → n ≡ over.Do o → BodyFits slots (then_body n done) → AllFit slots (accesses o.action)
do_fits slots o n is f = (subst (BodyFits slots) (ap (λ z. then_body z done) is ∙ body.do_is o) f).0

pub if_fits : (slots : ℕ → ℕ) (t : Test) (a b : List Node) (n : Node) → n ≡ over.If t a b → BodyFits slots (then_body n done) → TestFits slots (asked_of t) × BodyFits slots (body_of a) × BodyFits slots (body_of b)
if_fits slots t a b n is f = let z = subst (BodyFits slots) (ap (λ x. then_body x done) is ∙ body.if_is t a b) f in (z.0, z.1, z.2)

pub while_fits : (slots : ℕ → ℕ) (q : Bool) (p : List Node) (t : Test) (b : List Node) (n : Node) → n ≡ over.While q p t b → BodyFits slots (then_body n done) → BodyFits slots (body_of p) × TestFits slots (asked_of t) × BodyFits slots (body_of b)
while_fits slots q p t b n is f = let z = subst (BodyFits slots) (ap (λ x. then_body x done) is ∙ body.while_is q p t b) f in (z.0, z.1, z.2)
