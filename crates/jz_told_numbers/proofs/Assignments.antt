-- Of what an assignment leaks in two states, the indices of cells that become scalars are the same.
use Rattle.std.proofs.Common.{◌≡◌, ℕ, List, [], ◌∷◌, ◌++◌, length, Option, Some, None, Bool, true, false, refl, ap, sym, ◌∙◌, subst, arith, append-nil, append_assoc, length-append}
use Rattle.std.specs.Prelude.{if◌then◌else◌, pos}
use Rattle.std.specs.Option.{option_or}
use Rattle.std.proofs.lemmas.Bool.{and_parts}
use Rattle.jz_tree.specs.Span.{Span}
use Rattle.jz_tree.specs.Size.{Size}
use Rattle.jz_tree.specs.Size.TheVariants.{S64}
use Rattle.jz_tree.specs.Memory.{Memory}
use Rattle.jz_tree.specs.Operators.{carries}
use Rattle.jz_tree.specs.declared.expr.BinOp.{BinOp}
use Rattle.jz_tree.specs.declared.expr.Expr.{Expr}
use Rattle.jz_tree.specs.declared.expr.Expr.TheOpen.{Expr-F}
use Rattle.jz_tree.specs.declared.expr.Expr.TheViews.{out-Expr, roll-out-Expr}
use Rattle.jz_tree.specs.declared.stmt.Lval.{Lval}
use Rattle.jz_tree.specs.declared.stmt.Lval.TheVariants as lval
use Rattle.jz_runs.specs.Rules.{stuck, went}
use Rattle.jz_meaning.specs.declared.value.Why.TheVariants.{Init}
use Rattle.jz_meaning.specs.Attempts.{Evaluation, stuck_at, numbers_first, and_then, defined}
use Rattle.jz_meaning.specs.States.{Value, integer, State}
use Rattle.jz_meaning.specs.Operators.{word_of}
use Rattle.jz_meaning.specs.Values.{MemoryAccess, store_word, store_at, access_of, size_of, Ref, index_at, ref_of, own_size, evaluated}
use Rattle.jz_meaning.specs.Assignments.{in_cell, written, all_written, results_of, as_expr, left_size, left_sizes, last_left, whole_of, old_value, chosen, conditioned, assigned_whole, assigned, is_flag, Results, two_results, word_in, bool_in, truth, with_two, with_three, two_of}
use Rattle.jz_meaning.specs.Operators.{word_at}
use Rattle.jz_meaning.specs.Shapes.{Sorts, HoldsSorts, Shape, shape_of, own_count}
use Rattle.jz_unroll.proofs.Layers.{Layer}
use Rattle.jz_unroll.proofs.PartNumbers.{none_first, then_went, index_numbers, in_cell_numbers, var_numbers, store_numbers}
use Rattle.jz_arrays.specs.Cells.{sort_in, is_scalar, size_at, cell_in, with_scalars, Mask, all_kept, mask_of, access_mask, left_mask, lefts_mask, mask_if, old_mask, condition_mask, assign_mask}
use Rattle.jz_arrays.specs.Arrays.{IsRead, FixedLeft, whole_old}
use Rattle.jz_arrays.proofs.Reading.{mask_layer, mask_is, shape_layer, shape_is, cell_is, constant_index}
use Rattle.jz_arrays.proofs.Assigning.{carries_plain, word_thin, bool_thin, results_thin, AreLeft}
use Rattle.jz_told_numbers.specs.Dropped.{SameDropped, HasLength}
use Rattle.jz_told_numbers.proofs.Masks.{length_of, length_went, first_stuck, second_stuck, drop_then, drop_kept, drop_first, drop_one}
use Rattle.jz_told_numbers.proofs.Expressions.{one_length, other_length, expression_drops, access_drops}

-- ---- right sides

-- how many numbers an old value has
old_length : (sorts : Sorts) (t : State) → HoldsSorts sorts t.store → (to : List Lval) (at : Span) → IsRead sorts (whole_old to) → HasLength (old_mask (sort_in sorts) to) (old_value to at t)
old_length sorts t h [] at x = tt
old_length sorts t h (d ∷ f ∷ ds) at x = tt
old_length sorts t h (d ∷ []) at x = by_expr (as_expr d) x
  where
    by_expr : (a : Option Expr) → IsRead sorts a → HasLength (mask_if (sort_in sorts) a) (and_then (defined at a) (λ e. evaluated e (left_size d) t))
    by_expr None y = tt
    by_expr (Some e) y = subst (HasLength (mask_of (sort_in sorts) e)) (sym (none_first (evaluated e (left_size d) t))) (one_length sorts t t h h e (left_size d) y)

module _ (sorts : Sorts) (s r : State) (hs : HoldsSorts sorts s.store) (hr : HoldsSorts sorts r.store) where
  abbrev M : Expr → Mask
  M = mask_of (sort_in sorts)

  word_length : (at : Span) (z : Size) (e : Expr) → (shape_of sorts e).fixed ≡ true → HasLength (M e) (word_in at z e s) × HasLength (M e) (word_in at z e r)
  word_length at z e f = (length_of (M e) (word_in at z e s) (word_in at z (with_scalars e) s) (word_thin sorts s hs at z e f), length_of (M e) (word_in at z e r) (word_in at z (with_scalars e) r) (word_thin sorts r hr at z e f))

  pub word_drops : (at : Span) (z y : Size) (e : Expr) → (shape_of sorts e).fixed ≡ true → SameDropped (M e) (word_in at z e s) (word_in at y e r)
  word_drops at z y e f = drop_first (M e) (evaluated e (Some z) s) (evaluated e (Some y) r) (word_at at z) (word_at at y) (one_length sorts s r hs hr e (Some z) f) (other_length sorts s r hs hr e (Some y) f) (expression_drops sorts s r hs hr e f (Some z) (Some y))

  pub bool_drops : (at : Span) (e : Expr) → (shape_of sorts e).fixed ≡ true → SameDropped (M e) (bool_in at e s) (bool_in at e r)
  bool_drops at e f = drop_first (M e) (evaluated e None s) (evaluated e None r) (truth at) (truth at) (one_length sorts s r hs hr e None f) (other_length sorts s r hs hr e None f) (expression_drops sorts s r hs hr e f None None)

  pub bool_lengths : (at : Span) (e : Expr) → (shape_of sorts e).fixed ≡ true → HasLength (M e) (bool_in at e s) × HasLength (M e) (bool_in at e r)
  bool_lengths at e f = (length_of (M e) (bool_in at e s) (bool_in at (with_scalars e) s) (bool_thin sorts s hs at e f), length_of (M e) (bool_in at e r) (bool_in at (with_scalars e) r) (bool_thin sorts r hr at e f))

  -- a word, and then what it gives
  pub word_then : {B : Type 0} (k : Mask) (at : Span) (z y : Size) (e : Expr) (f f2 : ℕ → Evaluation B) → (shape_of sorts e).fixed ≡ true → ((a b : ℕ) → SameDropped k (f a) (f2 b)) → SameDropped (M e ++ k) (and_then (word_in at z e s) f) (and_then (word_in at y e r) f2)
  word_then k at z y e f f2 x h = drop_then (M e) k (word_in at z e s) (word_in at y e r) f f2 (word_length at z e x).0 (word_length at y e x).1 (word_drops at z y e x) (λ ns ms a b p q. h a b)

  pub bool_then : {B : Type 0} (k : Mask) (at : Span) (e : Expr) (f f2 : Bool → Evaluation B) → (shape_of sorts e).fixed ≡ true → ((a b : Bool) → SameDropped k (f a) (f2 b)) → SameDropped (M e ++ k) (and_then (bool_in at e s) f) (and_then (bool_in at e r) f2)
  bool_then k at e f f2 x h = drop_then (M e) k (bool_in at e s) (bool_in at e r) f f2 (bool_lengths at e x).0 (bool_lengths at e x).1 (bool_drops at e x) (λ ns ms a b p q. h a b)

  with_two_drops : (op : BinOp) (a b : Expr) (at : Span) (z y : Size) (own : ℕ) → (shape_of sorts a).fixed ≡ true → (shape_of sorts b).fixed ≡ true → SameDropped (M a ++ (M b ++ all_kept own)) (with_two op a b at z s) (with_two op a b at y r)
  with_two_drops op a b at z y own fa fb =
      word_then (M b ++ all_kept own) at z y a (λ x. and_then (word_in at z b s) (λ v. two_results op at z x v false)) (λ x. and_then (word_in at y b r) (λ v. two_results op at y x v false)) fa
      (λ x x2. word_then (all_kept own) at z y b (λ v. two_results op at z x v false) (λ v. two_results op at y x2 v false) fb (λ v v2. drop_kept own (two_results op at z x v false) (two_results op at y x2 v2 false)))

  with_three_drops : (op : BinOp) (x : Layer) (l c : Expr) (at : Span) (z y : Size) (own : ℕ) → (shape_layer sorts x).fixed ≡ true → (shape_of sorts c).fixed ≡ true → SameDropped (mask_layer (sort_in sorts) x ++ (M c ++ all_kept own)) (with_three op x l c at z s) (with_three op x l c at y r)
  with_three_drops op (Expr-F.Num n p) l c at z y own fx fc = tt
  with_three_drops op (Expr-F.Expr::Bool b p) l c at z y own fx fc = tt
  with_three_drops op (Expr-F.Var v) l c at z y own fx fc = tt
  with_three_drops op (Expr-F.Cell v i) l c at z y own fx fc = tt
  with_three_drops op (Expr-F.Load a) l c at z y own fx fc = tt
  with_three_drops op (Expr-F.Neg a p) l c at z y own fx fc = tt
  with_three_drops op (Expr-F.Not a p) l c at z y own fx fc = tt
  with_three_drops op (Expr-F.Cast t w a p) l c at z y own fx fc = tt
  with_three_drops op (Expr-F.Bin p a b inner) l c at z y own fx fc = by_test (carries op p) refl
    where
      own1 : ℕ
      own1 = own_count p (shape_of sorts a).sort (shape_of sorts b).sort

      W : Mask
      W = (M a ++ (M b ++ all_kept own1)) ++ (M c ++ all_kept own)

      F : Size → State → Evaluation Results
      F w t = and_then (word_in at w a t) (λ x. and_then (word_in at w b t) (λ v. and_then (bool_in at c t) (two_results op at w x v)))

      none : carries op p ≡ true → own1 ≡ 0
      none q = let e = carries_plain op p q in rw e

      plain : carries op p ≡ true → W ≡ M a ++ (M b ++ (M c ++ all_kept own))
      plain q = ap (λ n. (M a ++ (M b ++ all_kept n)) ++ (M c ++ all_kept own)) (none q) ∙ ap (λ n. (M a ++ n) ++ (M c ++ all_kept own)) (append-nil (M b)) ∙ append_assoc (M a) (M b) (M c ++ all_kept own)

      fa : (shape_of sorts a).fixed ≡ true
      fa = (and_parts (shape_of sorts a).fixed _ fx).0

      fb : (shape_of sorts b).fixed ≡ true
      fb = (and_parts (shape_of sorts b).fixed _ (and_parts (shape_of sorts a).fixed _ fx).1).0

      by_test : (t : Bool) → carries op p ≡ t → SameDropped W (if carries op p then F z s else stuck_at at Init) (if carries op p then F y r else stuck_at at Init)
      by_test false q = subst (λ t. SameDropped W (if t then F z s else stuck_at at Init) (if t then F y r else stuck_at at Init)) (sym q) tt
      by_test true q =
          subst (λ t. SameDropped W (if t then F z s else stuck_at at Init) (if t then F y r else stuck_at at Init)) (sym q)
          (subst (λ m. SameDropped m (F z s) (F y r)) (sym (plain q))
          (word_then (M b ++ (M c ++ all_kept own)) at z y a (λ x. and_then (word_in at z b s) (λ v. and_then (bool_in at c s) (two_results op at z x v))) (λ x. and_then (word_in at y b r) (λ v. and_then (bool_in at c r) (two_results op at y x v))) fa
          (λ x x2. word_then (M c ++ all_kept own) at z y b (λ v. and_then (bool_in at c s) (two_results op at z x v)) (λ v. and_then (bool_in at c r) (two_results op at y x2 v)) fb
          (λ v v2. bool_then (all_kept own) at c (two_results op at z x v) (two_results op at y x2 v2) fc (λ t t2. drop_kept own (two_results op at z x v t) (two_results op at y x2 v2 t2))))))

  two_drops : (x : Layer) (at : Span) (z y : Option Size) → (shape_layer sorts x).fixed ≡ true → SameDropped (mask_layer (sort_in sorts) x) (two_of x at z s) (two_of x at y r)
  two_drops (Expr-F.Num n p) at z y f = tt
  two_drops (Expr-F.Expr::Bool b p) at z y f = tt
  two_drops (Expr-F.Var v) at z y f = tt
  two_drops (Expr-F.Cell v i) at z y f = tt
  two_drops (Expr-F.Load a) at z y f = tt
  two_drops (Expr-F.Neg a p) at z y f = tt
  two_drops (Expr-F.Not a p) at z y f = tt
  two_drops (Expr-F.Cast t w a p) at z y f = tt
  two_drops (Expr-F.Bin op a b inner) at None None f = tt
  two_drops (Expr-F.Bin op a b inner) at None (Some y) f = first_stuck (mask_layer (sort_in sorts) (Expr-F.Bin op a b inner)) (record { span = at; why = Init }) (two_of (Expr-F.Bin op a b inner) at (Some y) r)
  two_drops (Expr-F.Bin op a b inner) at (Some z) None f = second_stuck (mask_layer (sort_in sorts) (Expr-F.Bin op a b inner)) (two_of (Expr-F.Bin op a b inner) at (Some z) s) (record { span = at; why = Init })
  two_drops (Expr-F.Bin op a b inner) at (Some z) (Some y) f = by_flag (is_flag b)
    where
      own : ℕ
      own = own_count op (shape_of sorts a).sort (shape_of sorts b).sort

      fa : (shape_of sorts a).fixed ≡ true
      fa = (and_parts (shape_of sorts a).fixed _ f).0

      fb : (shape_of sorts b).fixed ≡ true
      fb = (and_parts (shape_of sorts b).fixed _ (and_parts (shape_of sorts a).fixed _ f).1).0

      three : SameDropped (M a ++ (M b ++ all_kept own)) (with_three op (out-Expr a) a b inner z s) (with_three op (out-Expr a) a b inner y r)
      three =
          let m : M a ≡ mask_layer (sort_in sorts) (out-Expr a) = ap M (sym (roll-out-Expr a)) ∙ mask_is (sort_in sorts) (out-Expr a) in
          let h : (shape_layer sorts (out-Expr a)).fixed ≡ true = ap (λ (k : Shape). k.fixed) (sym (shape_is sorts (out-Expr a))) ∙ ap (λ e. (shape_of sorts e).fixed) (roll-out-Expr a) ∙ fa in
          subst (λ k. SameDropped (k ++ (M b ++ all_kept own)) (with_three op (out-Expr a) a b inner z s) (with_three op (out-Expr a) a b inner y r)) (sym m) (with_three_drops op (out-Expr a) a b inner z y own h fb)

      by_flag : (t : Bool) → SameDropped (M a ++ (M b ++ all_kept own)) (if t then with_three op (out-Expr a) a b inner z s else with_two op a b inner z s) (if t then with_three op (out-Expr a) a b inner y r else with_two op a b inner y r)
      by_flag true = three
      by_flag false = with_two_drops op a b inner z y own fa fb

  results_drop : (to : List Lval) (e : Expr) (at : Span) (z y : Option Size) → (shape_of sorts e).fixed ≡ true → SameDropped (M e) (results_of to e at z s) (results_of to e at y r)
  results_drop [] e at z y f = tt
  results_drop (d ∷ []) e at z y f = drop_first (M e) (evaluated e z s) (evaluated e y r) (λ v. went [] (Some v ∷ [])) (λ v. went [] (Some v ∷ [])) (one_length sorts s r hs hr e z f) (other_length sorts s r hs hr e y f) (expression_drops sorts s r hs hr e f z y)
  results_drop (d ∷ g ∷ []) e at z y f =
      let m : M e ≡ mask_layer (sort_in sorts) (out-Expr e) = ap M (sym (roll-out-Expr e)) ∙ mask_is (sort_in sorts) (out-Expr e) in
      let h : (shape_layer sorts (out-Expr e)).fixed ≡ true = ap (λ (k : Shape). k.fixed) (sym (shape_is sorts (out-Expr e))) ∙ ap (λ k. (shape_of sorts k).fixed) (roll-out-Expr e) ∙ f in
      subst (λ k. SameDropped k (two_of (out-Expr e) at z s) (two_of (out-Expr e) at y r)) (sym m) (two_drops (out-Expr e) at z y h)
  results_drop (d ∷ g ∷ c ∷ ds) e at z y f = tt

  results_lengths : (to : List Lval) (e : Expr) (at : Span) (z : Option Size) → (shape_of sorts e).fixed ≡ true → HasLength (M e) (results_of to e at z s) × HasLength (M e) (results_of to e at z r)
  results_lengths to e at z f = (length_of (M e) (results_of to e at z s) (results_of to (with_scalars e) at z s) (results_thin sorts s hs to to e at z refl f), length_of (M e) (results_of to e at z r) (results_of to (with_scalars e) at z r) (results_thin sorts r hr to to e at z refl f))

  -- ---- conditions and old values

  old_drops : (to : List Lval) (at : Span) → IsRead sorts (whole_old to) → SameDropped (old_mask (sort_in sorts) to) (old_value to at s) (old_value to at r)
  old_drops [] at x = tt
  old_drops (d ∷ f ∷ ds) at x = tt
  old_drops (d ∷ []) at x = by_expr (as_expr d) x
    where
      by_expr : (a : Option Expr) → IsRead sorts a → SameDropped (mask_if (sort_in sorts) a) (and_then (defined at a) (λ e. evaluated e (left_size d) s)) (and_then (defined at a) (λ e. evaluated e (left_size d) r))
      by_expr None x = tt
      by_expr (Some e) x =
          subst (λ g. SameDropped (M e) g (numbers_first [] (evaluated e (left_size d) r))) (sym (none_first (evaluated e (left_size d) s)))
          (subst (SameDropped (M e) (evaluated e (left_size d) s)) (sym (none_first (evaluated e (left_size d) r))) (expression_drops sorts s r hs hr e x (left_size d) (left_size d)))

  conditioned_drops : (to : List Lval) (c : Option Expr) (at : Span) (vs ws : Results) → IsRead sorts c → IsRead sorts (whole_old to) → SameDropped (condition_mask (sort_in sorts) to c) (conditioned to c at vs s) (conditioned to c at ws r)
  conditioned_drops to None at vs ws x o = refl
  conditioned_drops to (Some c) at vs ws x o =
      bool_then (old_mask (sort_in sorts) to) at c (λ b. and_then (old_value to at s) (λ old. went [] (chosen b vs old))) (λ b. and_then (old_value to at r) (λ old. went [] (chosen b ws old))) x
      (λ a b. old_first (λ old. went [] (chosen a vs old)) (λ old. went [] (chosen b ws old)))
    where
      old_first : {B : Type 0} (f g : Value → Evaluation B) → SameDropped (old_mask (sort_in sorts) to) (and_then (old_value to at s) f) (and_then (old_value to at r) g)
      old_first f g = drop_first (old_mask (sort_in sorts) to) (old_value to at s) (old_value to at r) f g (old_length sorts s hs to at o) (old_length sorts r hr to at o) (old_drops to at o)

-- ---- left sides

-- nothing is stored that is none
never_stored : (p : MemoryAccess) (z : Option Size) (n : Value) (m : Memory) (ns : List ℕ) (m1 : Memory) → store_at p z n None m ≡ went ns m1 → ⊥
never_stored p z n m ns m1 e = by_address (word_of S64 n) e
  where
    by_size : (y : Option Size) (a : ℕ) (ms : List ℕ) → numbers_first ms (store_word p.span p.unaligned y a None m) ≡ went ns m1 → ⊥
    by_size None a ms q = absurd cc
    by_size (Some y) a ms q = absurd cc

    by_address : (o : Option ℕ) → and_then (defined p.span o) (λ a. store_word p.span p.unaligned (option_or p.size z) a None m) ≡ went ns m1 → ⊥
    by_address None q = absurd cc
    by_address (Some a) q = by_size (option_or p.size z) a [] q

stored_one : (p : MemoryAccess) (z : Option Size) (n : Value) (v : Option Value) (m : Memory) (ns : List ℕ) (m1 : Memory) → store_at p z n v m ≡ went ns m1 → length ns ≡ 1
stored_one p z n None m ns m1 e = absurd (never_stored p z n m ns m1 e)
stored_one p z n (Some v) m ns m1 e = store_numbers p z n v m ns m1 e

module _ (sorts : Sorts) where
  -- how many numbers a left side has
  left_length : (s : State) → HoldsSorts sorts s.store → (w : Option Size) (d : Lval) (v : Option Value) → FixedLeft sorts d → (ns : List ℕ) (t : State) → written w d v s ≡ went ns t → length ns ≡ length (left_mask (sort_in sorts) d)
  left_length s h w (lval.Skip at) v f ns t e = let p : [] ≡ ns = cc in ap length (sym p)
  left_length s h w (lval.Var x) (Some u) f ns t e = var_numbers (ref_of x) u s ns t e
  left_length s h w (lval.Var x) None f ns t e = let p : [] ≡ ns = cc in ap length (sym p)
  left_length s h w (lval.Cell x i) v f ns t e = by_scalar (size_at x) (cell_in x i) refl
    where
      p : Ref
      p = ref_of x

      Mi : Mask
      Mi = mask_of (sort_in sorts) i

      parts : (ms : List ℕ) × (a : Value) × (ks : List ℕ) × (evaluated i (Some S64) s ≡ went ms a) × (and_then (index_at p a) (λ n. in_cell p n (size_of p.kind) v s) ≡ went ks t) × (ns ≡ ms ++ ks)
      parts = then_went (evaluated i (Some S64) s) (λ j. and_then (index_at p j) (λ n. in_cell p n (size_of p.kind) v s)) ns t e

      one : length parts.2 ≡ 1
      one =
          let q = then_went (index_at p parts.1) (λ n. in_cell p n (size_of p.kind) v s) parts.2 t parts.4 in
          let a = index_numbers p parts.1 q.0 q.1 q.3 in let c = in_cell_numbers p q.1 (size_of p.kind) v s q.2 t q.4 in
          omega (arith, a, c, length-append q.0 q.2, ap length q.5)

      by_scalar : (z : Option Size) (n : Option ℕ) → cell_in x i ≡ n → length ns ≡ length (if is_scalar z n then false ∷ [] else Mi ++ true ∷ [])
      by_scalar (Some z) (Some n) q =
          let g = constant_index i n (out-Expr i) (roll-out-Expr i) (cell_is x i n q).0 (Some S64) s in
          let c : went parts.0 parts.1 ≡ went [] (integer (pos n)) = sym parts.3 ∙ g in
          let k : parts.0 ≡ [] = cc in
          omega (arith, one, ap length k, ap length parts.5, length-append parts.0 parts.2)
      by_scalar None n q = omega (arith, one, length_went Mi (evaluated i (Some S64) s) parts.0 parts.1 (one_length sorts s s h h i (Some S64) f) parts.3, ap length parts.5, length-append parts.0 parts.2, length-append Mi (true ∷ []))
      by_scalar (Some z) None q = omega (arith, one, length_went Mi (evaluated i (Some S64) s) parts.0 parts.1 (one_length sorts s s h h i (Some S64) f) parts.3, ap length parts.5, length-append parts.0 parts.2, length-append Mi (true ∷ []))
  left_length s h w (lval.Store a) v f ns t e =
      let p = access_of a in let m = access_mask (sort_in sorts) a in
      let q = then_went (p.at s) (λ n. and_then (store_at p w n v s.memory) (λ k. went [] (record s { memory = k }))) ns t e in
      let u = then_went (store_at p w q.1 v s.memory) (λ k. went [] (record s { memory = k })) q.2 t q.4 in
      let c1 = stored_one p w q.1 v s.memory u.0 u.1 u.3 in let c2 : u.2 ≡ [] = (let k = u.4 in cc) in
      omega (arith, length_went m (p.at s) q.0 q.1 (access_drops sorts s s h h a f).0 q.3, c1, ap length c2, ap length q.5, ap length u.5, length-append q.0 q.2, length-append u.0 u.2, length-append m (true ∷ []))

  left_lengths : (s : State) → HoldsSorts sorts s.store → (w : Option Size) (d : Lval) (v : Option Value) → FixedLeft sorts d → HasLength (left_mask (sort_in sorts) d) (written w d v s)
  left_lengths s h w d v f = by_went (written w d v s) refl
    where
      by_went : (g : Evaluation State) → written w d v s ≡ g → HasLength (left_mask (sort_in sorts) d) g
      by_went (stuck k) e = tt
      by_went (went ns t) e = left_length s h w d v f ns t e

  left_drops : (s r : State) → HoldsSorts sorts s.store → HoldsSorts sorts r.store → (w y : Option Size) (d : Lval) (v u : Option Value) → FixedLeft sorts d → SameDropped (left_mask (sort_in sorts) d) (written w d v s) (written y d u r)
  left_drops s r hs hr w y (lval.Skip at) v u f = refl
  left_drops s r hs hr w y (lval.Var x) v u f = drop_kept 0 (written w (lval.Var x) v s) (written y (lval.Var x) u r)
  left_drops s r hs hr w y (lval.Cell x i) v u f = by_scalar (size_at x) (cell_in x i) refl
    where
      p : Ref
      p = ref_of x

      Mi : Mask
      Mi = mask_of (sort_in sorts) i

      G : Option Value → State → Value → Evaluation State
      G k t j = and_then (index_at p j) (λ n. in_cell p n (size_of p.kind) k t)

      in_none : (k : Option Value) (t : State) (n : ℕ) (ns : List ℕ) (t1 : State) → in_cell p n (size_of p.kind) k t ≡ went ns t1 → ns ≡ []
      in_none k t n ns t1 e = empty ns (in_cell_numbers p n (size_of p.kind) k t ns t1 e)
        where
          empty : (ls : List ℕ) → length ls ≡ 0 → ls ≡ []
          empty [] q = refl
          empty (a ∷ ls) q = absurd cc

      stays : SameDropped (Mi ++ true ∷ []) (and_then (evaluated i (Some S64) s) (G v s)) (and_then (evaluated i (Some S64) r) (G u r))
      stays = drop_then Mi (true ∷ []) (evaluated i (Some S64) s) (evaluated i (Some S64) r) (G v s) (G u r) (one_length sorts s r hs hr i (Some S64) f) (other_length sorts s r hs hr i (Some S64) f) (expression_drops sorts s r hs hr i f (Some S64) (Some S64)) (λ ns ms a b g h. drop_kept 1 (G v s a) (G u r b))

      by_scalar : (z : Option Size) (n : Option ℕ) → cell_in x i ≡ n → SameDropped (if is_scalar z n then false ∷ [] else Mi ++ true ∷ []) (and_then (evaluated i (Some S64) s) (G v s)) (and_then (evaluated i (Some S64) r) (G u r))
      by_scalar None n q = stays
      by_scalar (Some z) None q = stays
      by_scalar (Some z) (Some n) q =
          let at : (t : State) → evaluated i (Some S64) t ≡ went [] (integer (pos n)) = (λ t. constant_index i n (out-Expr i) (roll-out-Expr i) (cell_is x i n q).0 (Some S64) t) in
          let j = integer (pos n) in
          subst (λ g. SameDropped (false ∷ []) (and_then g (G v s)) (and_then (evaluated i (Some S64) r) (G u r))) (sym (at s))
          (subst (λ g. SameDropped (false ∷ []) (numbers_first [] (G v s j)) (and_then g (G u r))) (sym (at r))
          (subst (λ g. SameDropped (false ∷ []) g (numbers_first [] (G u r j))) (sym (none_first (G v s j)))
          (subst (SameDropped (false ∷ []) (G v s j)) (sym (none_first (G u r j)))
          (drop_one (false ∷ []) (index_at p j) (λ m. in_cell p m (size_of p.kind) v s) (λ m. in_cell p m (size_of p.kind) u r) (λ m ns t1 e. in_none v s m ns t1 e) (λ m ns t1 e. in_none u r m ns t1 e)))))
  left_drops s r hs hr w y (lval.Store a) v u f =
      let p = access_of a in let l = access_drops sorts s r hs hr a f in
      let F = λ (n : Value). and_then (store_at p w n v s.memory) (λ k. went [] (record s { memory = k })) in
      let G = λ (n : Value). and_then (store_at p y n u r.memory) (λ k. went [] (record r { memory = k })) in
      drop_then (access_mask (sort_in sorts) a) (true ∷ []) (p.at s) (p.at r) F G l.0 l.1 l.2 (λ ns ms x z g h. drop_kept 1 (F x) (G z))

  pub lefts_drop : (at : Span) (s r : State) (z y : Option Size) (ds : List Lval) (vs us : Results) → HoldsSorts sorts s.store → HoldsSorts sorts r.store → AreLeft sorts ds → SameDropped (lefts_mask (sort_in sorts) ds) (all_written at z ds vs s) (all_written at y ds us r)
  lefts_drop at s r z y [] vs us hs hr l = drop_kept 0 (all_written at z [] vs s) (all_written at y [] us r)
  lefts_drop at s r z y (d ∷ ds) [] us hs hr l = first_stuck (lefts_mask (sort_in sorts) (d ∷ ds)) (record { span = at; why = Init }) (all_written at y (d ∷ ds) us r)
  lefts_drop at s r z y (d ∷ ds) (v ∷ vs) [] hs hr l = second_stuck (lefts_mask (sort_in sorts) (d ∷ ds)) (all_written at z (d ∷ ds) (v ∷ vs) s) (record { span = at; why = Init })
  lefts_drop at s r z y (d ∷ ds) (v ∷ vs) (u ∷ us) hs hr l =
      drop_then (left_mask (sort_in sorts) d) (lefts_mask (sort_in sorts) ds) (written z d v s) (written y d u r) (λ t. all_written at z ds vs t) (λ t. all_written at y ds us t)
      (left_lengths s hs z d v l.0.fixed) (left_lengths r hr y d u l.0.fixed) (left_drops s r hs hr z y d v u l.0.fixed)
      (λ ns ms s1 r1 p q. lefts_drop at s1 r1 z y ds vs us (l.0.keeps z v s s1 ns hs p) (l.0.keeps y u r r1 ms hr q) l.1)

  pub lefts_length : (at : Span) (s : State) (z : Option Size) (ds : List Lval) (vs : Results) → HoldsSorts sorts s.store → AreLeft sorts ds → (ns : List ℕ) (t : State) → all_written at z ds vs s ≡ went ns t → length ns ≡ length (lefts_mask (sort_in sorts) ds)
  lefts_length at s z [] [] h l ns t e = let p : [] ≡ ns = cc in ap length (sym p)
  lefts_length at s z [] (v ∷ vs) h l ns t e = absurd cc
  lefts_length at s z (d ∷ ds) [] h l ns t e = absurd cc
  lefts_length at s z (d ∷ ds) (v ∷ vs) h l ns t e =
      let q = then_went (written z d v s) (λ k. all_written at z ds vs k) ns t e in
      omega (arith, left_length s h z d v l.0.fixed q.0 q.1 q.3, lefts_length at q.1 z ds vs (l.0.keeps z v s q.1 q.0 h q.3) l.1 q.2 t q.4, ap length q.5, length-append q.0 q.2, length-append (left_mask (sort_in sorts) d) (lefts_mask (sort_in sorts) ds))

-- ---- whole assignments

module _ (sorts : Sorts) (s r : State) (hs : HoldsSorts sorts s.store) (hr : HoldsSorts sorts r.store) where
  condition_length : (to : List Lval) (c : Option Expr) (at : Span) (t : State) → HoldsSorts sorts t.store → IsRead sorts c → IsRead sorts (whole_old to) → (vs : Results) → HasLength (condition_mask (sort_in sorts) to c) (conditioned to c at vs t)
  condition_length to None at t h x o vs = refl
  condition_length to (Some c) at t h x o vs = by_went (conditioned to (Some c) at vs t) refl
    where
      by_went : (g : Evaluation Results) → conditioned to (Some c) at vs t ≡ g → HasLength (mask_of (sort_in sorts) c ++ old_mask (sort_in sorts) to) g
      by_went (stuck w) e = tt
      by_went (went ns us) e =
          let p = then_went (bool_in at c t) (λ b. and_then (old_value to at t) (λ old. went [] (chosen b vs old))) ns us e in
          let q = then_went (old_value to at t) (λ old. went [] (chosen p.1 vs old)) p.2 us p.4 in
          let n : q.2 ≡ [] = (let k = q.4 in cc) in
          omega (arith, length_went (mask_of (sort_in sorts) c) (bool_in at c t) p.0 p.1 (bool_lengths sorts t t h h at c x).0 p.3, length_went (old_mask (sort_in sorts) to) (old_value to at t) q.0 q.1 (old_length sorts t h to at o) q.3, ap length n, ap length p.5, ap length q.5, length-append p.0 p.2, length-append q.0 q.2, length-append (mask_of (sort_in sorts) c) (old_mask (sort_in sorts) to))

  pub assigned_drops : (to : List Lval) (op : Option BinOp) (e : Expr) (c : Option Expr) (at : Span) → AreLeft sorts to → IsRead sorts (whole_of (last_left to) op e) → IsRead sorts c → IsRead sorts (whole_old to) → SameDropped (assign_mask (sort_in sorts) to op e c) (assigned to op e c at s) (assigned to op e c at r)
  assigned_drops to op e c at l re rc ro = by_whole (whole_of (last_left to) op e) re
    where
      K : Mask
      K = condition_mask (sort_in sorts) to c

      L : Mask
      L = lefts_mask (sort_in sorts) to

      by_whole : (k : Option Expr) → IsRead sorts k → SameDropped (mask_if (sort_in sorts) k ++ (K ++ L)) (assigned_whole to k c at s) (assigned_whole to k c at r)
      by_whole None x = tt
      by_whole (Some w) x =
          let z = option_or (left_sizes to) (own_size w) in let n = results_lengths sorts s r hs hr to w at z x in
          drop_then (mask_of (sort_in sorts) w) (K ++ L) (results_of to w at z s) (results_of to w at z r) (λ vs. and_then (conditioned to c at vs s) (λ us. all_written at z to us s)) (λ vs. and_then (conditioned to c at vs r) (λ us. all_written at z to us r))
          n.0 n.1 (results_drop sorts s r hs hr to w at z z x)
          (λ ns ms vs ws p q. drop_then K L (conditioned to c at vs s) (conditioned to c at ws r) (λ us. all_written at z to us s) (λ us. all_written at z to us r)
          (condition_length to c at s hs rc ro vs) (condition_length to c at r hr rc ro ws) (conditioned_drops sorts s r hs hr to c at vs ws rc ro)
          (λ ns2 ms2 us xs p2 q2. lefts_drop sorts at s r z z to us xs hs hr l))
