-- What statements become, one after another and of each form.
use Rattle.std.proofs.Common.{◌≡◌, List, [], ◌∷◌, ◌++◌, map, Option, Some, None, Bool, false, refl, ap, sym, ◌∙◌, subst}
use Rattle.std.specs.Prelude.{not, is_some, if◌then◌else◌}
use Rattle.jz_tree.specs.Span.{Span}
use Rattle.jz_tree.specs.declared.expr.Expr.{Expr}
use Rattle.jz_tree.specs.declared.expr.Var.{Var}
use Rattle.jz_tree.specs.declared.stmt.Stmt.{Stmt}
use Rattle.jz_tree.specs.declared.stmt.StmtKind.TheVariants as kind
use Rattle.jz_integers.specs.Integers.{KnownNumbers}
use Rattle.jz_meaning.specs.Trees.{done, op, quiet, choose, loop}
use Rattle.jz_meaning.specs.Runs.{block, statement_tree}
use Rattle.jz_meaning.specs.Statements.{Operation, unset, Block}
use Rattle.jz_interp.specs.InnerParts.{body_piece}
use Rattle.jz_interp.proofs.Pieces.{if_is, while_is, mark_is}
use Rattle.jz_change.specs.Changes as model
use Rattle.jz_change.specs.Views.{chain, then_step, steps_of, change_of}
use Rattle.jz_change.specs.declared.change.Numbers.TheVariants.{Same}
use Rattle.jz_change.specs.declared.change.Step.{Step}
use Rattle.jz_change.specs.declared.change.Step.TheVariants as step
use Rattle.jz_change.proofs.StepViews.{then_ops, then_if, then_arm, then_while, then_once, change_is, steps_append}
use Rattle.jz_pass.specs.Unrolling.{Unrolls, u_done, u_op, u_quiet, u_if, u_arm, u_while, u_once}
use Rattle.jz_unroll.specs.Values.{InlineNames}
use Rattle.jz_unroll.specs.Unrolling.{UnrollsOp, UnrollsMark, UnrollsTest, UnrollsLoopTest, IsConstant, KnowsLess, unrolling}
use Rattle.jz_unrolling.specs.Steps.{no_callees, one_item, Becomes, list_or}

pub block_append : (xs ys : List Stmt) (r : Block) → block no_callees (xs ++ ys) r ≡ block no_callees xs (block no_callees ys r)
block_append [] ys r = refl
block_append (x ∷ xs) ys r = ap (statement_tree no_callees x) (block_append xs ys r)

module _ (names : InlineNames) where
  abbrev U : Block → KnownNumbers → Block → Block → KnownNumbers → model.Change → Type 0
  U t e rest u e2 k = Unrolls (unrolling names) t e rest u e2 k

  at_trees : {t t2 rest u u2 : Block} {e e2 : KnownNumbers} {k k2 : model.Change} → t2 ≡ t → u2 ≡ u → k2 ≡ k → U t e rest u e2 k → U t2 e rest u2 e2 k2
  at_trees {t} {rest} {u} {u2} {e} {e2} {k2} p q c h = subst (λ x. U x e rest u2 e2 k2) (sym p) (subst (λ x. U t e rest x e2 k2) (sym q) (subst (λ x. U t e rest u e2 x) (sym c) h))

  -- what stands alone, before another rest
  pub alone : (f : Block → Block) (e e1 : KnownNumbers) (made : List Stmt) (steps : List Step) (rest : Block) → Becomes names f e made e1 steps → Unrolls (unrolling names) (f done) e rest (block no_callees made rest) e1 (chain (map then_step steps) model.ends)
  alone f e e1 made steps rest h = h done rest rest e1 model.ends u_done

  pub nothing_becomes : (e : KnownNumbers) → Becomes names (λ t. t) e [] e []
  nothing_becomes e = λ t rest u e2 k h. h

  pub both_become : (f g : Block → Block) (e e1 e2 : KnownNumbers) (m m2 : List Stmt) (a b : List Step) → Becomes names f e m e1 a → Becomes names g e1 m2 e2 b → Becomes names (λ t. f (g t)) e (m ++ m2) e2 (a ++ b)
  both_become f g e e1 e2 m m2 a b p q = λ t rest u e3 k h.
      at_trees refl (block_append m m2 u) (steps_append a b k) (p (g t) rest (block no_callees m2 u) e3 (chain (map then_step b) k) (q t rest u e3 k h))

  -- ---- operations

  pub op_becomes : (o o2 : Operation) (e : KnownNumbers) (s : Stmt) → UnrollsOp names o e (o2 ∷ []) (Same ∷ []) e → statement_tree no_callees s ≡ op o2 → Becomes names (op o) e (s ∷ []) e (one_item ∷ [])
  op_becomes o o2 e s rule tree = λ t rest u e2 k h. at_trees refl (ap (λ (f : Block → Block). f u) tree) (then_ops (Same ∷ []) k) (u_op rule h)

  pub gone_becomes : (o : Operation) (e e1 : KnownNumbers) → UnrollsOp names o e [] [] e1 → Becomes names (op o) e [] e1 (step.Ops [] ∷ [])
  gone_becomes o e e1 rule = λ t rest u e2 k h. at_trees refl refl (then_ops [] k) (u_op rule h)

  pub mark_becomes : (vs ws : List Var) (e e1 : KnownNumbers) (s : Stmt) → UnrollsMark names (unset vs) e (unset ws) e1 → s.kind ≡ kind.Mark ws → Becomes names (quiet (unset vs)) e (s ∷ []) e1 []
  mark_becomes vs ws e e1 s rule is = λ t rest u e2 k h. at_trees refl (ap (λ (f : Block → Block). f u) (mark_is no_callees s ws is)) refl (u_quiet rule h)

  -- ---- `if`

  if_step : (ta tb : List Step) (k : model.Change) → then_step (step.If [] Same (record { steps = ta }) (record { steps = tb })) k ≡ model.stays_if [] Same (steps_of ta) (steps_of tb) k
  if_step ta tb k =
      then_if [] Same (record { steps = ta }) (record { steps = tb }) k
      ∙ ap (λ x. model.stays_if [] Same x (change_of (record { steps = tb })) k) (change_is (record { steps = ta }))
      ∙ ap (λ x. model.stays_if [] Same (steps_of ta) x k) (change_is (record { steps = tb }))

  pub if_becomes : (c c2 : Expr) (at : Span) (f g : Block → Block) (e ea eb e0 : KnownNumbers) (s : Stmt) (a2 b2 : List Stmt) (ta tb : List Step) → UnrollsTest names (record { cond = c; at = at }) e [] [] (record { cond = c2; at = at }) Same → Becomes names f e a2 ea ta → Becomes names g e b2 eb tb → KnowsLess e0 ea → KnowsLess e0 eb → s.kind ≡ kind.If c2 a2 b2 → s.span ≡ at
      → Becomes names (choose (record { cond = c; at = at }) (f done) (g done)) e (s ∷ []) e0 (step.If [] Same (record { steps = ta }) (record { steps = tb }) ∷ [])
  if_becomes c c2 at f g e ea eb e0 s a2 b2 ta tb test p q la lb is place = λ t rest u e2 k h.
      at_trees refl (ap (λ (x : Block → Block). x u) (if_is no_callees s c2 a2 b2 is) ∙ ap (λ y. choose (record { cond = c2; at = y }) (block no_callees a2 done) (block no_callees b2 done) u) place) (if_step ta tb k)
      (u_if test (alone f e ea a2 ta done p) (alone g e eb b2 tb done q) la lb h)

  arm_step : (z : Bool) (ta : List Step) (k : model.Change) → then_step (step.Arm z [] (record { steps = ta })) k ≡ model.arm z [] (steps_of ta) k
  arm_step z ta k = then_arm z [] (record { steps = ta }) k ∙ ap (λ x. model.arm z [] x k) (change_is (record { steps = ta }))

  pub arm_becomes : (c : Expr) (at : Span) (z : Bool) (a b : Block) (f : Block → Block) (e e1 : KnownNumbers) (m : List Stmt) (ta : List Step) → IsConstant (record { cond = c; at = at }) e z → f done ≡ (if z then a else b) → Becomes names f e m e1 ta
      → Becomes names (choose (record { cond = c; at = at }) a b) e m e1 (step.Arm z [] (record { steps = ta }) ∷ [])
  arm_becomes c at z a b f e e1 m ta const arm p = λ t rest u e2 k h.
      at_trees refl refl (arm_step z ta k) (u_arm const (subst (λ x. U x e u (block no_callees m u) e1 (steps_of ta)) arm (alone f e e1 m ta u p)) h)

  -- ---- `while`

  while_step : (tq tb : List Step) (k : model.Change) → then_step (step.While (record { steps = tq }) [] Same (record { steps = tb })) k ≡ model.stays_while (steps_of tq) [] Same (steps_of tb) k
  while_step tq tb k =
      then_while (record { steps = tq }) [] Same (record { steps = tb }) k
      ∙ ap (λ x. model.stays_while x [] Same (change_of (record { steps = tb })) k) (change_is (record { steps = tq }))
      ∙ ap (λ x. model.stays_while (steps_of tq) [] Same x k) (change_is (record { steps = tb }))

  body_list : (b : Option (List Stmt)) → body_piece no_callees b done ≡ block no_callees (list_or b) done
  body_list None = refl
  body_list (Some ss) = refl

  -- e0 is known before it and behind it
  pub while_becomes : (h0 : Bool) (c c2 : Expr) (at : Span) (f g : Block → Block) (e e0 eq eb : KnownNumbers) (s : Stmt) (q2 : List Stmt) (b2 : Option (List Stmt)) (tq tb : List Step) → UnrollsLoopTest names (record { cond = c; at = at }) eq [] [] (record { cond = c2; at = at }) Same
      → Becomes names f e0 q2 eq tq → Becomes names g eq (list_or b2) eb tb → KnowsLess e0 e → KnowsLess e0 eb → KnowsLess e0 eq → s.kind ≡ kind.While q2 c2 b2 → s.span ≡ at → not (is_some b2) ≡ h0
      → Becomes names (loop h0 (f done) (record { cond = c; at = at }) (g done)) e (s ∷ []) e0 (step.While (record { steps = tq }) [] Same (record { steps = tb }) ∷ [])
  while_becomes h0 c c2 at f g e e0 eq eb s q2 b2 tq tb test p q less lb lq is place there = λ t rest u e2 k h.
      at_trees refl
      (ap (λ (x : Block → Block). x u) (while_is no_callees s q2 c2 b2 is)
      ∙ ap (λ y. loop y (block no_callees q2 done) (record { cond = c2; at = s.span }) (body_piece no_callees b2 done) u) there
      ∙ ap (λ y. loop h0 (block no_callees q2 done) (record { cond = c2; at = y }) (body_piece no_callees b2 done) u) place
      ∙ ap (λ y. loop h0 (block no_callees q2 done) (record { cond = c2; at = at }) y u) (body_list b2))
      (while_step tq tb k)
      (u_while less test (alone f e0 eq q2 tq done p) (alone g eq eb (list_or b2) tb done q) lb lq h)

  once_step : (tq : List Step) (k : model.Change) → then_step (step.Once (record { steps = tq }) []) k ≡ model.once (steps_of tq) [] k
  once_step tq k = then_once (record { steps = tq }) [] k ∙ ap (λ x. model.once x [] k) (change_is (record { steps = tq }))

  pub once_becomes : (h0 : Bool) (c : Expr) (at : Span) (b : Block) (f : Block → Block) (e e1 : KnownNumbers) (m : List Stmt) (tq : List Step) → IsConstant (record { cond = c; at = at }) e1 false → Becomes names f e m e1 tq
      → Becomes names (loop h0 (f done) (record { cond = c; at = at }) b) e m e1 (step.Once (record { steps = tq }) [] ∷ [])
  once_becomes h0 c at b f e e1 m tq const p = λ t rest u e2 k h.
      at_trees refl refl (once_step tq k) (u_once (alone f e e1 m tq u p) const h)
