-- Calls that become copies of the bodies that they call: the arguments, a mark, the body, the
-- results, each with the naming of its copy.
use Rattle.std.specs.Prelude.{ℕ, suc, ◌+◌, List, [], ◌∷◌}
use Rattle.jz_runs.specs.Trees.{Tree, done, op, quiet, choose, loop, each, call}
use Rattle.jz_change.specs.declared.change.Numbers.{Numbers}
use Rattle.jz_change.specs.declared.change.Numbers.TheVariants.{Same}
use Rattle.jz_change.specs.Changes.{Change, ends, ops, stays_if, stays_while, stays_for, opened}
use Rattle.jz_pass.specs.Operations.{in_turn}

-- what stands in the copy of a naming; a naming says what each variable of a copy is, and what is
-- known of it
pub record Copying (O T F C X : Type 0) : Type 0 where
  pub op_in : X → O → O
  pub test_in : X → T → T
  pub counter_in : X → F → F
  -- of the caller's naming and the number of the copy
  pub callee : X → ℕ → C → X
  pub arguments : X → ℕ → C → List O
  pub mark : X → ℕ → C → O
  pub results : X → ℕ → C → List O
  -- the numbers of each argument and of each result, by those of the call
  pub argument_items : X → C → List Numbers
  pub result_items : X → C → List Numbers

-- how many copies stand in a body that is copied
abbrev pub copies : {O T F C : Type 0} → Tree O T F C → ℕ
copies done = 0
copies (op o r) = copies r
copies (quiet o r) = copies r
copies (choose c a b r) = copies a + copies b + copies r
copies (loop q p c b r) = copies p + copies b + copies r
copies (each f b r) = copies b + copies r
copies (call c b r) = suc (copies b) + copies r

module _ {O T F C X : Type 0} (K : Copying O T F C X) where
  -- the tree of naming x, of which the copies have the numbers from c on, before what follows
  abbrev pub inlined : X → ℕ → Tree O T F C → Tree O T F C → Tree O T F C
  inlined x c done rest = rest
  inlined x c (op o r) rest = op (K.op_in x o) (inlined x c r rest)
  inlined x c (quiet o r) rest = quiet (K.op_in x o) (inlined x c r rest)
  inlined x c (choose t a b r) rest =
      choose (K.test_in x t) (inlined x c a done) (inlined x (c + copies a) b done)
      (inlined x (c + copies a + copies b) r rest)
  inlined x c (loop q p t b r) rest =
      loop q (inlined x c p done) (K.test_in x t) (inlined x (c + copies p) b done)
      (inlined x (c + copies p + copies b) r rest)
  inlined x c (each f b r) rest =
      each (K.counter_in x f) (inlined x c b done) (inlined x (c + copies b) r rest)
  inlined x c (call q b r) rest =
      in_turn (K.arguments x c q)
      (quiet (K.mark x c q)
      (inlined (K.callee x c q) (suc c) b
      (in_turn (K.results x c q) (inlined x (suc c + copies b) r rest))))

  -- what it makes of a leak
  abbrev pub inlining : X → ℕ → Tree O T F C → Change
  inlining x c done = ends
  inlining x c (op o r) = ops (Same ∷ []) (inlining x c r)
  inlining x c (quiet o r) = inlining x c r
  inlining x c (choose t a b r) =
      stays_if [] Same (inlining x c a) (inlining x (c + copies a) b)
      (inlining x (c + copies a + copies b) r)
  inlining x c (loop q p t b r) =
      stays_while (inlining x c p) [] Same (inlining x (c + copies p) b)
      (inlining x (c + copies p + copies b) r)
  inlining x c (each f b r) = stays_for (inlining x c b) (inlining x (c + copies b) r)
  inlining x c (call q b r) =
      opened (K.argument_items x q) (inlining (K.callee x c q) (suc c) b) (K.result_items x q)
      (inlining x (suc c + copies b) r)

-- the same with more known beside the naming
module _ {O T F C N X : Type 0} (K : Copying O T F C N) (naming : X → N)
    (callee : X → ℕ → C → X) where
  abbrev pub along : Copying O T F C X
  along = record {
    op_in = λ x. K.op_in (naming x);
    test_in = λ x. K.test_in (naming x);
    counter_in = λ x. K.counter_in (naming x);
    callee = callee;
    arguments = λ x. K.arguments (naming x);
    mark = λ x. K.mark (naming x);
    results = λ x. K.results (naming x);
    argument_items = λ x. K.argument_items (naming x);
    result_items = λ x. K.result_items (naming x);
  }
