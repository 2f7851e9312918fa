-- What pieces become, one after another and of each form.
use Rattle.std.proofs.Common.{◌≡◌, ℕ, ◌+◌, ◌<◌, ◌≤◌, Bool, List, [], ◌∷◌, ◌++◌, map, length, take, get_or, refl, sym, ap, ◌∙◌, subst}
use Rattle.std.proofs.lemmas.List.{take_more, take_all, map-append}
use Rattle.jz_words.specs.declared.size.Size.TheVariants.{S8}
use Rattle.jz_tree.specs.declared.stmt.Stmt.{Stmt}
use Rattle.jz_runs.specs.Trees.{done, op, quiet, choose, loop}
use Rattle.jz_meaning.specs.Runs.{block, statement_tree}
use Rattle.jz_meaning.specs.Statements.{Block, Condition}
use Rattle.jz_meaning.specs.Statements as source
use Rattle.jz_operations.specs.declared.operation.Action.TheVariants as action
use Rattle.jz_operations.specs.declared.operation.Operation.{Operation}
use Rattle.jz_change.specs.Changes as model
use Rattle.jz_change.specs.Views.{chain, then_step, change_of}
use Rattle.jz_change.specs.declared.change.Numbers.{Numbers}
use Rattle.jz_change.specs.declared.change.Step.{Step}
use Rattle.jz_change.specs.declared.change.Step.TheVariants as step
use Rattle.jz_change.proofs.StepViews.{then_ops, then_if, then_while, change_is, chain_append, steps_append}
use Rattle.jz_pass.specs.Operations.{in_turn}
use Rattle.jz_pass.specs.Unrolling.{Unrolls, u_done, u_op, u_quiet, u_if, u_while}
use Rattle.jz_placing.specs.Variables.{Body}
use Rattle.jz_place.specs.declared.tree.Test.{Test}
use Rattle.jz_place.specs.declared.tree.Node.{Node}
use Rattle.jz_place.specs.declared.tree.Node.TheVariants.{Do, If, While, rolls-Do, rolls-If, rolls-While}
use Rattle.jz_place.specs.declared.tree.Node.TheOpen.{Node-F}
use Rattle.jz_place.specs.declared.tree.Node.TheFolds.{fold-roll-Node}
use Rattle.jz_place.specs.Bodies.{asked_of, in_order, node_step, then_body, body_of}
use Rattle.jz_homes.specs.Homes.{Homes}
use Rattle.jz_row_operations.specs.Codes.{plain}
use Rattle.jz_every_row.specs.Statements.{Makes, MakesTest, MakesLoopTest}
use Rattle.jz_every_row.specs.Bodies.{lowering, without_marks, IsLowered}
use Rattle.jz_lowering.specs.Becoming.{no_callees, before_body, Becomes}

-- ---- parts of a body
do_before : (o : Operation) (v : Body) → then_body (Do o) v ≡ op o v
do_before o v = ap (λ z. then_body z v) (sym (rolls-Do o)) ∙ ap (λ f. f v) (fold-roll-Node _ node_step (Node-F.Do o))

if_before : (t : Test) (a b : List Node) (v : Body) → then_body (If t a b) v ≡ choose (asked_of t) (body_of a) (body_of b) v
if_before t a b v = ap (λ z. then_body z v) (sym (rolls-If t a b)) ∙ ap (λ f. f v) (fold-roll-Node _ node_step (Node-F.If t a b))

while_before : (h : Bool) (p : List Node) (t : Test) (b : List Node) (v : Body) → then_body (While h p t b) v ≡ loop h (body_of p) (asked_of t) (body_of b) v
while_before h p t b v = ap (λ z. then_body z v) (sym (rolls-While h p t b)) ∙ ap (λ f. f v) (fold-roll-Node _ node_step (Node-F.While h p t b))

before_append : (xs ys : List Node) (v : Body) → before_body (xs ++ ys) v ≡ before_body xs (before_body ys v)
before_append xs ys v = ap (λ fs. chain fs v) (map-append then_body xs ys) ∙ chain_append (map then_body xs) (map then_body ys) v

ordered : (fs : List (Body → Body)) → in_order fs ≡ chain fs done
ordered [] = refl
ordered (f ∷ fs) = ap f (ordered fs)

pub body_before : (ns : List Node) → body_of ns ≡ before_body ns done
body_before ns = ordered (map then_body ns)

-- operations one after another
operations_before : (os : List Operation) (m v : Body) → v ≡ without_marks m → before_body (map Do os) v ≡ without_marks (in_turn os m)
operations_before [] m v e = e
operations_before (o ∷ os) m v e = do_before o (before_body (map Do os) v) ∙ ap (op o) (operations_before os m v e)

-- ---- statements one after another
pub block_append : (xs ys : List Stmt) (r : Block) → block no_callees (xs ++ ys) r ≡ block no_callees xs (block no_callees ys r)
block_append [] ys r = refl
block_append (x ∷ xs) ys r = ap (statement_tree no_callees x) (block_append xs ys r)

module _ (home : Homes) where
  at_trees : {t t2 : Block} {v v2 : Body} {k k2 : model.Change} → t2 ≡ t → v2 ≡ v → k2 ≡ k → IsLowered home t v k → IsLowered home t2 v2 k2
  at_trees {t} {t2} {v} {v2} {k} {k2} p q c h = subst (λ x. IsLowered home x v2 k2) (sym p) (subst (λ x. IsLowered home t x k2) (sym q) (subst (λ x. IsLowered home t v x) (sym c) h))

  pub nothing_becomes : Becomes home (λ t. t) [] []
  nothing_becomes = λ t v k h. h

  pub both_become : (f g : Block → Block) (m n : List Node) (a b : List Step) → Becomes home f m a → Becomes home g n b → Becomes home (λ t. f (g t)) (m ++ n) (a ++ b)
  both_become f g m n a b p q = λ t v k h.
      at_trees refl (before_append m n v) (steps_append a b k) (p (g t) (before_body n v) (chain (map then_step b) k) (q t v k h))

  pub becomes_as : (f g : Block → Block) (m : List Node) (a : List Step) → g ≡ f → Becomes home f m a → Becomes home g m a
  becomes_as f g m a e h = subst (λ x. Becomes home x m a) (sym e) h

  pub none_begun : (ns : List Node) (ss : List Step) → ns ≡ [] → ss ≡ [] → Becomes home (block no_callees []) ns ss
  none_begun ns ss e f = subst (λ n. Becomes home (block no_callees []) n ss) (sym e) (subst (λ s. Becomes home (block no_callees []) [] s) (sym f) nothing_becomes)

  pub one_more : (ss : List Stmt) (i : ℕ) (s : Stmt) (m n m2 : List Node) (a b a2 : List Step) → i < length ss → s ≡ get_or ss i s → m2 ≡ m ++ n → a2 ≡ a ++ b
      → Becomes home (block no_callees (take i ss)) m a → Becomes home (statement_tree no_callees s) n b → Becomes home (block no_callees (take (i + 1) ss)) m2 a2
  one_more ss i s m n m2 a b a2 lt is e f p q =
      subst (λ x. Becomes home (block no_callees (take (i + 1) ss)) x a2) (sym e) (subst (λ x. Becomes home (block no_callees (take (i + 1) ss)) (m ++ n) x) (sym f)
      (becomes_as (λ t. block no_callees (take i ss) (statement_tree no_callees s t)) (block no_callees (take (i + 1) ss)) (m ++ n) (a ++ b) (sym same)
      (both_become (block no_callees (take i ss)) (statement_tree no_callees s) m n a b p q)))
    where
      more : take (i + 1) ss ≡ take i ss ++ s ∷ []
      more = take_more ss i s lt ∙ ap (λ x. take i ss ++ x ∷ []) (sym is)

      same : (λ t. block no_callees (take i ss) (statement_tree no_callees s t)) ≡ block no_callees (take (i + 1) ss)
      same = (λ j t. sym (block_append (take i ss) (s ∷ []) t) j) ∙ ap (block no_callees) (sym more)

  pub all_taken : (ss : List Stmt) (i : ℕ) (m : List Node) (a : List Step) → length ss ≤ i → Becomes home (block no_callees (take i ss)) m a → Becomes home (block no_callees ss) m a
  all_taken ss i m a e h = subst (λ l. Becomes home (block no_callees l) m a) (take_all i ss e) h

  -- ---- each form
  pub op_becomes : (o : source.Operation) (os : List Operation) (items : List Numbers) → Makes home o os items → Becomes home (op o) (map Do os) (step.Ops items ∷ [])
  op_becomes o os items rule = λ t v k h. record {
    marked = in_turn os h.marked;
    made = subst (λ x. Unrolls (lowering home) (op o t) tt done (in_turn os h.marked) tt x) (sym (then_ops items k)) (u_op {os = os} {is = items} rule h.made);
    body = operations_before os h.marked v h.body;
  }

  -- any operation stands for a mark
  no_operation : Operation
  no_operation = plain (record { line = 0; col = 0 }) (action.Bswap S8 0)

  pub mark_becomes : (o : source.Operation) → Becomes home (quiet o) [] []
  mark_becomes o = λ t v k h. record { marked = quiet no_operation h.marked; made = u_quiet tt h.made; body = h.body }

  -- a piece that stands alone
  pub alone : (f : Block → Block) (m : List Node) (a : List Step) → Becomes home f m a → IsLowered home (f done) (body_of m) (change_of (record { steps = a }))
  alone f m a h = at_trees refl (body_before m) (change_is (record { steps = a })) (h done done model.ends (record { marked = done; made = u_done; body = refl }))

  pub if_becomes : (p : Condition) (t : Test) (i : Numbers) (f g : Block → Block) (m n : List Node) (a b : List Step) → MakesTest home p (asked_of t) i → Becomes home f m a → Becomes home g n b
      → Becomes home (choose p (f done) (g done)) (If t m n ∷ []) (step.If [] i (record { steps = a }) (record { steps = b }) ∷ [])
  if_becomes p t i f g m n a b test hf hg = λ r v k h.
      let x = alone f m a hf in
      let y = alone g n b hg in
      record {
        marked = choose (asked_of t) x.marked y.marked h.marked;
        made =
            subst (λ c. Unrolls (lowering home) (choose p (f done) (g done) r) tt done (choose (asked_of t) x.marked y.marked h.marked) tt c) (sym (then_if [] i (record { steps = a }) (record { steps = b }) k))
            (u_if {os = []} {is = []} (refl, refl, test) x.made y.made tt tt h.made);
        body =
            if_before t m n v ∙ ap (λ z. choose (asked_of t) z (body_of n) v) x.body ∙ ap (λ z. choose (asked_of t) (without_marks x.marked) z v) y.body
            ∙ ap (λ z. choose (asked_of t) (without_marks x.marked) (without_marks y.marked) z) h.body;
      }

  pub while_becomes : (bare : Bool) (p : Condition) (t : Test) (i : Numbers) (f g : Block → Block) (m n : List Node) (a b : List Step) → MakesLoopTest home p (asked_of t) i → Becomes home f m a → Becomes home g n b
      → Becomes home (loop bare (f done) p (g done)) (While bare m t n ∷ []) (step.While (record { steps = a }) [] i (record { steps = b }) ∷ [])
  while_becomes bare p t i f g m n a b test hf hg = λ r v k h.
      let x = alone f m a hf in
      let y = alone g n b hg in
      record {
        marked = loop bare x.marked (asked_of t) y.marked h.marked;
        made =
            subst (λ c. Unrolls (lowering home) (loop bare (f done) p (g done) r) tt done (loop bare x.marked (asked_of t) y.marked h.marked) tt c) (sym (then_while (record { steps = a }) [] i (record { steps = b }) k))
            (u_while {os = []} {is = []} tt (refl, refl, test) x.made y.made tt tt h.made);
        body =
            while_before bare m t n v ∙ ap (λ z. loop bare z (asked_of t) (body_of n) v) x.body ∙ ap (λ z. loop bare (without_marks x.marked) (asked_of t) z v) y.body
            ∙ ap (λ z. loop bare (without_marks x.marked) (asked_of t) (without_marks y.marked) z) h.body;
      }
