-- What statements become is what the rule of register arrays says, where they are ready.
use Rattle.std.proofs.Common.{◌≡◌, Bool, true, false, List, [], ◌∷◌, map, Option, Some, None, refl, sym, ap, ◌∙◌, subst}
use Rattle.std.specs.Prelude.{option_map}
use Rattle.jz_tree.specs.Span.{Span}
use Rattle.jz_tree.specs.Spellings.{spelled}
use Rattle.jz_tree.specs.declared.expr.BinOp.{BinOp}
use Rattle.jz_tree.specs.declared.expr.Expr.{Expr}
use Rattle.jz_tree.specs.declared.expr.Var.{Var}
use Rattle.jz_tree.specs.declared.program.Note.{Note}
use Rattle.jz_tree.specs.declared.stmt.Lval.{Lval}
use Rattle.jz_tree.specs.declared.stmt.Rhs.{Rhs}
use Rattle.jz_tree.specs.declared.stmt.Rhs.TheVariants as rhs
use Rattle.jz_tree.specs.declared.stmt.Stmt.{Stmt}
use Rattle.jz_tree.specs.declared.stmt.StmtKind.{StmtKind}
use Rattle.jz_tree.specs.declared.stmt.StmtKind.TheVariants as kind
use Rattle.jz_tree.specs.declared.stmt.StmtKind.TheOpen.{StmtKind-F, Stmt-F}
use Rattle.jz_tree.specs.declared.stmt.StmtKind.TheViews.{roll-Stmt, roll-StmtKind}
use Rattle.jz_tree.specs.declared.stmt.StmtKind.TheFolds.{fold-StmtKind, fold-roll-Stmt, fold-roll-StmtKind, ind-Stmt, map-Stmt, map-StmtKind}
use Rattle.jz_runs.specs.Trees.{done, op, quiet, choose, loop, each}
use Rattle.jz_meaning.specs.Statements.{Operation, assign, instruction, unset, meaningless, Condition, Counter, Block}
use Rattle.jz_meaning.specs.Runs.{in_order, assign_tree, kind_tree, statement_tree, block}
use Rattle.jz_inline.proofs.Pieces.{assign_is, if_is, while_is, for_is, mark_is}
use Rattle.jz_arrays.specs.Kinds.{Kinds}
use Rattle.jz_change.specs.declared.change.Numbers.{Numbers}
use Rattle.jz_change.specs.declared.change.Step.{Step}
use Rattle.jz_change.specs.declared.change.Step.TheVariants as step
use Rattle.jz_change.specs.Changes as model
use Rattle.jz_change.specs.Views.{chain, then_step, change_of, steps_of}
use Rattle.jz_change.proofs.StepViews.{then_ops, then_if, then_while, then_for, change_is, steps_append}
use Rattle.jz_pass.specs.Unrolling.{u_done, u_op, u_quiet, u_if, u_while}
use Rattle.jz_pass.specs.Rewriting.{Rewrites}
use Rattle.jz_pass.specs.Cases.{IsBetween, cases_of, op_case, no_items, one_item, gives_none, gives_ops, gives_if, gives_while, gives_for}
use Rattle.jz_inline.specs.Statements.{no_callees, statement, all_steps}
use Rattle.jz_arrays.specs.Cells.{with_scalars, left_with_scalars, mask_of, assign_mask, instruction_mask}
use Rattle.jz_arrays.specs.Arrays.{numbers_left, ArraysOp, assigns, instructs, ArraysTest, tests, arrays}
use Rattle.jz_scalars.specs.declared.made.MadeKind.{MadeKind}
use Rattle.jz_scalars.specs.declared.made.MadeOne.{MadeOne}
use Rattle.jz_scalars.specs.declared.made.Made.{Made}
use Rattle.jz_scalars.specs.Scalars.{declared_sort, right_with_scalars, right_mask, assign_steps, all_made, made_layer, one_made, kind_made, statement_made, block_made}
use Rattle.jz_scalars.specs.Ready.{IsReadyAssign, IsReadyInstruction, IsReadyTest, IsReady}
use Rattle.jz_scalars.proofs.Sorted.{same_if, same_instruction, same_assign}

module _ (kinds : Kinds) where
  abbrev Becomes : Block → Block → Block → model.Change → Type 0
  Becomes t rest u k = Rewrites (arrays kinds) t rest u k

  -- before whatever follows, and whatever that becomes
  abbrev Law : (Block → Block) → (Block → Block) → List Step → Type 0
  Law f g steps =
      (r rest u : Block) (k : model.Change) → IsReady kinds (f r) → (IsReady kinds r → Becomes r rest u k) → Becomes (f r) rest (g u) (chain (map then_step steps) k)

  abbrev CasesLaw : (Block → Block) → (Block → Block) → List Step → Type 0
  CasesLaw f g steps = (r u : Block) (k : model.Change) → IsBetween (cases_of r) (cases_of u) k → IsBetween (cases_of (f r)) (cases_of (g u)) (chain (map then_step steps) k)

  record Both (f g : Block → Block) (steps : List Step) : Type 0 where
    law : Law f g steps
    cases : CasesLaw f g steps

  -- a body by itself
  record BodyLaw (t : Block) (m : Made) : Type 0 where
    becomes : IsReady kinds t → Becomes t done (block no_callees m.stmts done) (steps_of m.steps)
    between : IsBetween (cases_of t) (cases_of (block no_callees m.stmts done)) (steps_of m.steps)

  abbrev one_tree : MadeOne → Block → Block
  one_tree m = statement_tree no_callees m.stmt

  abbrev OneLaw : (Block → Block) → MadeOne → Type 0
  OneLaw f m = Both f (one_tree m) m.steps

  abbrev AllLaws : List (Block → Block) → List MadeOne → Type 0
  AllLaws [] [] = Unit {0}
  AllLaws (f ∷ fs) (m ∷ ms) = OneLaw f m × AllLaws fs ms
  AllLaws _ _ = ⊥

  in_order_law : (fs : List (Block → Block)) (ms : List MadeOne) → AllLaws fs ms → Both (in_order fs) (block no_callees (all_made ms).stmts) (all_made ms).steps
  in_order_law [] [] h = record { law = λ r rest u k ready next. next ready; cases = λ r u k next. next }
  in_order_law [] (m ∷ ms) h = absurd h
  in_order_law (f ∷ fs) [] h = absurd h
  in_order_law (f ∷ fs) (m ∷ ms) h =
      let l = in_order_law fs ms h.1 in
      let steps : List Step = (all_made ms).steps in
      record {
        law = λ r rest u k ready next.
            subst (Becomes (f (in_order fs r)) rest (one_tree m (block no_callees (all_made ms).stmts u))) (sym (steps_append m.steps steps k))
            (h.0.law (in_order fs r) rest (block no_callees (all_made ms).stmts u) (chain (map then_step steps) k) ready
            (λ more. l.law r rest u k more next));
        cases = λ r u k next.
            subst (IsBetween (cases_of (f (in_order fs r))) (cases_of (one_tree m (block no_callees (all_made ms).stmts u)))) (sym (steps_append m.steps steps k))
            (h.0.cases (in_order fs r) (block no_callees (all_made ms).stmts u) (chain (map then_step steps) k) (l.cases r u k next));
      }

  body_law : (fs : List (Block → Block)) (ms : List MadeOne) → AllLaws fs ms → BodyLaw (in_order fs done) (all_made ms)
  body_law fs ms h =
      let l = in_order_law fs ms h in
      record { becomes = λ ready. l.law done done done model.ends ready (λ e. u_done); between = l.cases done done model.ends gives_none }

  -- ---- assignments

  assign_tree_is : (notes : List Note) (at : Span) (to : List Lval) (o : Option BinOp) (r : Rhs) (c : Option Expr) (u : Block) → statement_tree no_callees (statement notes at (kind.Assign to o r c)) u ≡ assign_tree no_callees to o r c at u
  assign_tree_is notes at to o r c u = ap (λ f. f u) (assign_is no_callees (statement notes at (kind.Assign to o r c)) to o r c refl)

  one_op : (o o2 : Operation) (n : Numbers) (g : Block → Block) (r rest u : Block) (k : model.Change) → ((v : Block) → g v ≡ op o2 v) → ArraysOp kinds o (o2 ∷ []) (n ∷ []) → Becomes r rest u k → Becomes (op o r) rest (g u) (chain (map then_step (step.Ops (n ∷ []) ∷ [])) k)
  one_op o o2 n g r rest u k is rule next =
      subst (λ x. Becomes (op o r) rest x (then_step (step.Ops (n ∷ [])) k)) (sym (is u))
      (subst (Becomes (op o r) rest (op o2 u)) (sym (then_ops (n ∷ []) k)) (u_op rule next))

  assign_becomes : (notes : List Note) (at : Span) (to : List Lval) (o : Option BinOp) (r : Rhs) (c : Option Expr)
      → Law (assign_tree no_callees to o r c at) (statement_tree no_callees (statement notes at (kind.Assign (map left_with_scalars to) o (right_with_scalars r) (option_map with_scalars c)))) (assign_steps to o r c)
  assign_becomes notes at to o (rhs.Value e) c = λ r rest u k ready next.
      let h : IsReadyAssign kinds to o e c = ready.0 in
      one_op (assign to o e c at) (assign (map left_with_scalars to) o (with_scalars e) (option_map with_scalars c) at) (numbers_left (assign_mask declared_sort to o e c))
      (statement_tree no_callees (statement notes at (kind.Assign (map left_with_scalars to) o (rhs.Value (with_scalars e)) (option_map with_scalars c)))) r rest u k
      (assign_tree_is notes at (map left_with_scalars to) o (rhs.Value (with_scalars e)) (option_map with_scalars c))
      (subst (λ m. ArraysOp kinds (assign to o e c at) (assign (map left_with_scalars to) o (with_scalars e) (option_map with_scalars c) at ∷ []) (numbers_left m ∷ [])) (sym (same_assign kinds to o e c h.lefts h.whole h.condition)) (assigns h.known))
      (next ready.1)
  assign_becomes notes at to o (rhs.Call n args place) c = λ r rest u k ready next. absurd ready.0
  assign_becomes notes at to None (rhs.Intrinsic n args place) None = λ r rest u k ready next.
      let h : IsReadyInstruction kinds to n args = ready.0 in
      one_op (instruction to n args place) (instruction (map left_with_scalars to) n (map with_scalars args) place) (numbers_left (instruction_mask declared_sort (spelled n) to args))
      (statement_tree no_callees (statement notes at (kind.Assign (map left_with_scalars to) None (rhs.Intrinsic n (map with_scalars args) place) None))) r rest u k
      (assign_tree_is notes at (map left_with_scalars to) None (rhs.Intrinsic n (map with_scalars args) place) None)
      (subst (λ m. ArraysOp kinds (instruction to n args place) (instruction (map left_with_scalars to) n (map with_scalars args) place ∷ []) (numbers_left m ∷ [])) (sym (same_instruction kinds (spelled n) to args h.lefts h.operands)) (instructs h.known))
      (next ready.1)
  assign_becomes notes at to None (rhs.Intrinsic n args place) (Some c) = λ r rest u k ready next. absurd ready.0
  assign_becomes notes at to (Some o) (rhs.Intrinsic n args place) c = λ r rest u k ready next. absurd ready.0

  -- an assignment is one operation
  an_operation : (to : List Lval) (o : Option BinOp) (r : Rhs) (c : Option Expr) (at : Span) → (x : Operation) × ((v : Block) → assign_tree no_callees to o r c at v ≡ op x v)
  an_operation to o (rhs.Value e) c at = (assign to o e c at, λ v. refl)
  an_operation to o (rhs.Call n args place) c at = (meaningless place, λ v. refl)
  an_operation to None (rhs.Intrinsic n args place) None at = (instruction to n args place, λ v. refl)
  an_operation to None (rhs.Intrinsic n args place) (Some c) at = (meaningless place, λ v. refl)
  an_operation to (Some o) (rhs.Intrinsic n args place) c at = (meaningless place, λ v. refl)

  assign_law : (notes : List Note) (at : Span) (to : List Lval) (o : Option BinOp) (r : Rhs) (c : Option Expr)
      → Both (assign_tree no_callees to o r c at) (statement_tree no_callees (statement notes at (kind.Assign (map left_with_scalars to) o (right_with_scalars r) (option_map with_scalars c)))) (assign_steps to o r c)
  assign_law notes at to o r c =
      let n : Numbers = numbers_left (right_mask to o r c) in
      let x = an_operation to o r c at in
      let y = an_operation (map left_with_scalars to) o (right_with_scalars r) (option_map with_scalars c) at in
      record {
        law = assign_becomes notes at to o r c;
        cases = λ t u k next.
            subst (λ b. IsBetween (cases_of b) (cases_of (statement_tree no_callees (statement notes at (kind.Assign (map left_with_scalars to) o (right_with_scalars r) (option_map with_scalars c))) u)) (then_step (step.Ops (n ∷ [])) k)) (sym (x.1 t))
            (subst (λ b. IsBetween (cases_of (op x.0 t)) (cases_of b) (then_step (step.Ops (n ∷ [])) k)) (sym (assign_tree_is notes at (map left_with_scalars to) o (right_with_scalars r) (option_map with_scalars c) u ∙ y.1 u))
            (subst (IsBetween (op_case (cases_of t)) (op_case (cases_of u))) (sym (then_ops (n ∷ []) k)) (gives_ops (one_item no_items) next)));
      }

  -- ---- tests

  test_law : (p : Condition) → IsReadyTest kinds p → ArraysTest kinds p [] [] (record { cond = with_scalars p.cond; at = p.at }) (numbers_left (mask_of declared_sort p.cond))
  test_law p h = subst (λ m. ArraysTest kinds p [] [] (record { cond = with_scalars p.cond; at = p.at }) (numbers_left m)) (sym (same_if kinds (Some p.cond) h.sorted)) (tests h.known)

  if_law : (notes : List Note) (at : Span) (c : Expr) (a b : Block) (x y : Made) → BodyLaw a x → BodyLaw b y
      → Both (choose (record { cond = c; at = at }) a b) (statement_tree no_callees (statement notes at (kind.If (with_scalars c) x.stmts y.stmts)))
      (step.If [] (numbers_left (mask_of declared_sort c)) (all_steps x.steps) (all_steps y.steps) ∷ [])
  if_law notes at c a b x y ha hb =
      let s : Stmt = statement notes at (kind.If (with_scalars c) x.stmts y.stmts) in
      let p : Condition = record { cond = c; at = at } in
      let n : Numbers = numbers_left (mask_of declared_sort c) in
      let made : Block → Block = λ u. choose (record { cond = with_scalars c; at = at }) (block no_callees x.stmts done) (block no_callees y.stmts done) u in
      let is : (u : Block) → statement_tree no_callees s u ≡ made u = λ u. ap (λ f. f u) (if_is no_callees s (with_scalars c) x.stmts y.stmts refl) in
      let changes : (k : model.Change) → then_step (step.If [] n (all_steps x.steps) (all_steps y.steps)) k ≡ model.stays_if [] n (steps_of x.steps) (steps_of y.steps) k
      = λ k. then_if [] n (all_steps x.steps) (all_steps y.steps) k ∙ ap (λ z. model.stays_if [] n z (change_of (all_steps y.steps)) k) (change_is (all_steps x.steps)) ∙ ap (λ z. model.stays_if [] n (steps_of x.steps) z k) (change_is (all_steps y.steps)) in
      record {
        law = λ r rest u k ready next.
            subst (λ t. Becomes (choose p a b r) rest t (then_step (step.If [] n (all_steps x.steps) (all_steps y.steps)) k)) (sym (is u))
            (subst (Becomes (choose p a b r) rest (made u)) (sym (changes k)) (u_if (test_law p ready.0) (ha.becomes ready.1) (hb.becomes ready.2) tt tt (next ready.3)));
        cases = λ r u k next.
            subst (λ t. IsBetween (cases_of (choose p a b r)) (cases_of t) (then_step (step.If [] n (all_steps x.steps) (all_steps y.steps)) k)) (sym (is u))
            (subst (IsBetween (cases_of (choose p a b r)) (cases_of (made u))) (sym (changes k)) (gives_if no_items ha.between hb.between next));
      }

  while_law : (h : Bool) (s : Stmt) (at : Span) (c : Expr) (q b : Block) (x y : Made) → BodyLaw q x → BodyLaw b y
      → ((u : Block) → statement_tree no_callees s u ≡ loop h (block no_callees x.stmts done) (record { cond = with_scalars c; at = at }) (block no_callees y.stmts done) u)
      → Both (loop h q (record { cond = c; at = at }) b) (statement_tree no_callees s) (step.While (all_steps x.steps) [] (numbers_left (mask_of declared_sort c)) (all_steps y.steps) ∷ [])
  while_law h s at c q b x y hq hb is =
      let p : Condition = record { cond = c; at = at } in
      let n : Numbers = numbers_left (mask_of declared_sort c) in
      let made : Block → Block = λ u. loop h (block no_callees x.stmts done) (record { cond = with_scalars c; at = at }) (block no_callees y.stmts done) u in
      let changes : (k : model.Change) → then_step (step.While (all_steps x.steps) [] n (all_steps y.steps)) k ≡ model.stays_while (steps_of x.steps) [] n (steps_of y.steps) k
      = λ k. then_while (all_steps x.steps) [] n (all_steps y.steps) k ∙ ap (λ z. model.stays_while z [] n (change_of (all_steps y.steps)) k) (change_is (all_steps x.steps)) ∙ ap (λ z. model.stays_while (steps_of x.steps) [] n z k) (change_is (all_steps y.steps)) in
      record {
        law = λ r rest u k ready next.
            subst (λ t. Becomes (loop h q p b r) rest t (then_step (step.While (all_steps x.steps) [] n (all_steps y.steps)) k)) (sym (is u))
            (subst (Becomes (loop h q p b r) rest (made u)) (sym (changes k)) (u_while tt (test_law p ready.0) (hq.becomes ready.1) (hb.becomes ready.2) tt tt (next ready.3)));
        cases = λ r u k next.
            subst (λ t. IsBetween (cases_of (loop h q p b r)) (cases_of t) (then_step (step.While (all_steps x.steps) [] n (all_steps y.steps)) k)) (sym (is u))
            (subst (IsBetween (cases_of (loop h q p b r)) (cases_of (made u))) (sym (changes k)) (gives_while hq.between no_items hb.between next));
      }

  -- unrolling leaves none
  for_law : (notes : List Note) (at : Span) (i : Var) (from : Expr) (down : Bool) (to : Expr) (b : Block) (y : Made) → BodyLaw b y
      → Both (each (record { counter = i; from = from; down = down; to = to; at = at }) b) (statement_tree no_callees (statement notes at (kind.For i (with_scalars from) down (with_scalars to) y.stmts)))
      (step.For (all_steps y.steps) ∷ [])
  for_law notes at i from down to b y hb =
      let s : Stmt = statement notes at (kind.For i (with_scalars from) down (with_scalars to) y.stmts) in
      let f : Counter = record { counter = i; from = from; down = down; to = to; at = at } in
      let made : Block → Block = λ u. each (record { counter = i; from = with_scalars from; down = down; to = with_scalars to; at = at }) (block no_callees y.stmts done) u in
      let is : (u : Block) → statement_tree no_callees s u ≡ made u = λ u. ap (λ g. g u) (for_is no_callees s i (with_scalars from) down (with_scalars to) y.stmts refl) in
      let changes : (k : model.Change) → then_step (step.For (all_steps y.steps)) k ≡ model.stays_for (steps_of y.steps) k
      = λ k. then_for (all_steps y.steps) k ∙ ap (λ z. model.stays_for z k) (change_is (all_steps y.steps)) in
      record {
        law = λ r rest u k ready next. absurd ready;
        cases = λ r u k next.
            subst (λ t. IsBetween (cases_of (each f b r)) (cases_of t) (then_step (step.For (all_steps y.steps)) k)) (sym (is u))
            (subst (IsBetween (cases_of (each f b r)) (cases_of (made u))) (sym (changes k)) (gives_for hb.between next));
      }

  -- ---- all statements

  abbrev kind_f : StmtKind → Span → Block → Block
  kind_f = fold-StmtKind _ _ (kind_tree no_callees) (λ s. s.kind s.span)

  abbrev one_with : List Note → Span → MadeKind → MadeOne
  one_with notes at m = record { stmt = statement notes at m.kind; steps = m.steps }

  abbrev StmtLaw : Stmt → Type 0
  StmtLaw s = OneLaw (statement_tree no_callees s) (statement_made s)

  abbrev KindLaw : StmtKind → Type 0
  KindLaw k = (notes : List Note) (at : Span) → OneLaw (kind_f k at) (one_with notes at (kind_made k))

  abbrev Kinded : Type 0
  Kinded = StmtKind-F ((k : StmtKind) × KindLaw k) ((s : Stmt) × StmtLaw s)

  abbrev firsts : List ((s : Stmt) × StmtLaw s) → List Stmt
  firsts ss = map (λ e. e.0) ss

  all_laws : (ss : List ((s : Stmt) × StmtLaw s)) → AllLaws (map (statement_tree no_callees) (firsts ss)) (map statement_made (firsts ss))
  all_laws [] = tt
  all_laws (s ∷ ss) = (s.1, all_laws ss)

  inner_law : (ss : List ((s : Stmt) × StmtLaw s)) → BodyLaw (block no_callees (firsts ss) done) (block_made (firsts ss))
  inner_law ss = body_law (map (statement_tree no_callees) (firsts ss)) (map statement_made (firsts ss)) (all_laws ss)

  abbrev bare : Kinded → StmtKind-F StmtKind Stmt
  bare y = map-StmtKind _ _ StmtKind Stmt (λ e. e.0) (λ e. e.0) y

  abbrev layer_f : Kinded → Span → Block → Block
  layer_f y = kind_tree no_callees (map-StmtKind _ _ (Span → Block → Block) (Block → Block) kind_f (statement_tree no_callees) (bare y))

  abbrev layer_m : Kinded → MadeKind
  layer_m y = made_layer (map-StmtKind _ _ MadeKind MadeOne kind_made statement_made (bare y))

  nothing_made : BodyLaw done (record { stmts = []; steps = [] })
  nothing_made = record { becomes = λ ready. u_done; between = gives_none }

  layer_law : (y : Kinded) (notes : List Note) (at : Span) → OneLaw (layer_f y at) (one_with notes at (layer_m y))
  layer_law (StmtKind-F.Assign to o r c) notes at = assign_law notes at to o r c
  layer_law (StmtKind-F.If c a b) notes at =
      if_law notes at c (block no_callees (firsts a) done) (block no_callees (firsts b) done) (block_made (firsts a)) (block_made (firsts b)) (inner_law a) (inner_law b)
  layer_law (StmtKind-F.While q c None) notes at =
      let x = block_made (firsts q) in
      let s : Stmt = statement notes at (kind.While x.stmts (with_scalars c) None) in
      while_law true s at c (block no_callees (firsts q) done) done x (record { stmts = []; steps = [] }) (inner_law q) nothing_made
      (λ u. ap (λ f. f u) (while_is no_callees s x.stmts (with_scalars c) None refl))
  layer_law (StmtKind-F.While q c (Some b)) notes at =
      let x = block_made (firsts q) in
      let y = block_made (firsts b) in
      let s : Stmt = statement notes at (kind.While x.stmts (with_scalars c) (Some y.stmts)) in
      while_law false s at c (block no_callees (firsts q) done) (block no_callees (firsts b) done) x y (inner_law q) (inner_law b)
      (λ u. ap (λ f. f u) (while_is no_callees s x.stmts (with_scalars c) (Some y.stmts) refl))
  layer_law (StmtKind-F.For i from down to b) notes at = for_law notes at i from down to (block no_callees (firsts b) done) (block_made (firsts b)) (inner_law b)
  layer_law (StmtKind-F.Mark xs) notes at =
      let s : Stmt = statement notes at (kind.Mark xs) in
      let is : (u : Block) → statement_tree no_callees s u ≡ quiet (unset xs) u = λ u. ap (λ f. f u) (mark_is no_callees s xs refl) in
      record {
        law = λ r rest u k ready next. subst (λ t. Becomes (quiet (unset xs) r) rest t k) (sym (is u)) (u_quiet refl (next ready));
        cases = λ r u k next. subst (λ t. IsBetween (cases_of (quiet (unset xs) r)) (cases_of t) k) (sym (is u)) next;
      }

  kind_case : (y : Kinded) → KindLaw (roll-StmtKind (bare y))
  kind_case y notes at =
      subst (λ f. OneLaw (f at) (one_with notes at (kind_made (roll-StmtKind (bare y))))) (sym (fold-roll-StmtKind _ _ (kind_tree no_callees) (λ s. s.kind s.span) (bare y)))
      (subst (λ m. OneLaw (layer_f y at) (one_with notes at m)) (sym (fold-roll-StmtKind MadeKind MadeOne made_layer one_made (bare y))) (layer_law y notes at))

  stmt_case : (y : Stmt-F ((k : StmtKind) × KindLaw k) ((s : Stmt) × StmtLaw s)) → StmtLaw (roll-Stmt (map-Stmt _ _ StmtKind Stmt (λ e. e.0) (λ e. e.0) y))
  stmt_case y =
      let x = map-Stmt _ _ StmtKind Stmt (λ e. e.0) (λ e. e.0) y in
      subst (λ f. OneLaw f (statement_made (roll-Stmt x))) (sym (fold-roll-Stmt _ _ (kind_tree no_callees) (λ s. s.kind s.span) x))
      (subst (OneLaw (kind_f x.kind x.span)) (sym (fold-roll-Stmt MadeKind MadeOne made_layer one_made x)) (y.kind.1 y.notes y.span))

  stmt_law : (s : Stmt) → StmtLaw s
  stmt_law =
      ind-Stmt KindLaw StmtLaw
      (λ x y is. subst (λ z. KindLaw (roll-StmtKind z)) is (kind_case y))
      (λ x y is. subst (λ z. StmtLaw (roll-Stmt z)) is (stmt_case y))

  laws_of : (ss : List Stmt) → AllLaws (map (statement_tree no_callees) ss) (map statement_made ss)
  laws_of [] = tt
  laws_of (s ∷ ss) = (stmt_law s, laws_of ss)

  block_law : (ss : List Stmt) → BodyLaw (block no_callees ss done) (block_made ss)
  block_law ss = body_law (map (statement_tree no_callees) ss) (map statement_made ss) (laws_of ss)

  pub block_rewritten : (ss : List Stmt) → IsReady kinds (block no_callees ss done) → Rewrites (arrays kinds) (block no_callees ss done) done (block no_callees (block_made ss).stmts done) (steps_of (block_made ss).steps)
  block_rewritten ss = (block_law ss).becomes

  pub block_between : (ss : List Stmt) → IsBetween (cases_of (block no_callees ss done)) (cases_of (block no_callees (block_made ss).stmts done)) (steps_of (block_made ss).steps)
  block_between ss = (block_law ss).between
