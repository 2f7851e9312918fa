-- Assignments, tests and counters of a copied body.
use Rattle.std.proofs.Common.{◌≡◌, ℕ, List, [], ◌∷◌, map, Option, Some, None, Bool, true, false, refl, ap, sym, ◌∙◌, subst}
use Rattle.std.specs.Prelude.{option_map, if◌then◌else◌, ◌&&◌}
use Rattle.std.specs.Option.{option_or}
use Rattle.std.proofs.lemmas.Bool.{and_parts}
use Rattle.jz_tree.specs.Span.{Span}
use Rattle.jz_tree.specs.Size.{Size}
use Rattle.jz_tree.specs.declared.expr.BinOp.{BinOp}
use Rattle.jz_tree.specs.declared.expr.Expr.{Expr}
use Rattle.jz_tree.specs.declared.expr.Ty.{Ty}
use Rattle.jz_tree.specs.declared.expr.Access.{Access}
use Rattle.jz_tree.specs.declared.expr.Decl.{Decl}
use Rattle.jz_tree.specs.declared.expr.Var.{Var}
use Rattle.jz_tree.specs.declared.expr.Expr.TheOpen.{Expr-F}
use Rattle.jz_tree.specs.declared.expr.Expr.TheViews.{out-Expr, out-roll-Expr, roll-out-Expr}
use Rattle.jz_tree.specs.declared.stmt.Lval.{Lval}
use Rattle.jz_tree.specs.declared.expr.Expr.TheVariants as expr
use Rattle.jz_tree.specs.declared.stmt.Lval.TheVariants as lval
use Rattle.jz_runs.specs.Rules.{went}
use Rattle.jz_meaning.specs.Attempts.{Evaluation, and_then, defined}
use Rattle.jz_meaning.specs.States.{State}
use Rattle.jz_meaning.specs.Values.{size_of, Ref, MemoryAccess, ref_of, own_size, evaluated}
use Rattle.jz_meaning.specs.Assignments.{left_size, left_sizes, Results, all_written, as_expr, left_span, is_bool, is_flag_layer, is_flag, carries, updated_layer, updated, last_left, whole_of, word_in, bool_in, truth, with_two, with_three, two_of, results_of, old_value, conditioned, assigned_whole, assigned}
use Rattle.jz_pass.specs.Keeping.{Alike, both_stuck}
use Rattle.jz_bodies.specs.Scopes.{is_over, Reads, ReadsIf, Writes, AllWritten, IsScope}
use Rattle.jz_inline.specs.Names.{Names, var_in, expr_in, access_in, lval_in}
use Rattle.jz_inline.proofs.Copies.{ScopeCopy, Agrees, IsBelow, Stands}
use Rattle.jz_inline.proofs.Reading.{ref_so, layer_in, in_is, over_layer, over_is, size_so, value_so, access_so}
use Rattle.jz_inline.proofs.Writing.{alike_then, Ends, all_written_so}

abbrev Layer : Type 0
Layer = Expr-F Expr Ty Access Decl Var

-- ---- texts

module _ (names : Names) where
  out_in : (e : Expr) → out-Expr (expr_in names e) ≡ layer_in names (out-Expr e)
  out_in e = ap (λ k. out-Expr (expr_in names k)) (sym (roll-out-Expr e)) ∙ ap out-Expr (in_is names (out-Expr e)) ∙ out-roll-Expr (layer_in names (out-Expr e))

  in_bin : (op : BinOp) (a b : Expr) (at : Span) → expr_in names (expr.Bin op a b at) ≡ expr.Bin op (expr_in names a) (expr_in names b) at
  in_bin op a b at = ap (expr_in names) (sym (expr.rolls-Bin op a b at)) ∙ in_is names (Expr-F.Bin op a b at) ∙ expr.rolls-Bin op (expr_in names a) (expr_in names b) at

  pub in_var : (v : Var) → expr_in names (expr.Var v) ≡ expr.Var (var_in names v)
  in_var v = ap (expr_in names) (sym (expr.rolls-Var v)) ∙ in_is names (Expr-F.Var v) ∙ expr.rolls-Var (var_in names v)

  in_cell : (v : Var) (i : Expr) → expr_in names (expr.Cell v i) ≡ expr.Cell (var_in names v) (expr_in names i)
  in_cell v i = ap (expr_in names) (sym (expr.rolls-Cell v i)) ∙ in_is names (Expr-F.Cell v i) ∙ expr.rolls-Cell (var_in names v) (expr_in names i)

  in_load : (a : Access) → expr_in names (expr.Load a) ≡ expr.Load (access_in names a)
  in_load a = ap (expr_in names) (sym (expr.rolls-Load a)) ∙ in_is names (Expr-F.Load a) ∙ expr.rolls-Load (access_in names a)

  as_expr_in : (d : Lval) → as_expr (lval_in names d) ≡ option_map (expr_in names) (as_expr d)
  as_expr_in (lval.Skip at) = refl
  as_expr_in (lval.Var v) = ap Some (sym (in_var v))
  as_expr_in (lval.Cell v i) = ap Some (sym (in_cell v i))
  as_expr_in (lval.Store a) = ap Some (sym (in_load a))

  last_in : (ds : List Lval) → last_left (map (lval_in names) ds) ≡ option_map (lval_in names) (last_left ds)
  last_in [] = refl
  last_in (d ∷ []) = refl
  last_in (d ∷ f ∷ ds) = last_in (f ∷ ds)

  flag_layer_in : (x : Layer) → is_flag_layer (layer_in names x) ≡ is_flag_layer x
  flag_layer_in (Expr-F.Num n at) = refl
  flag_layer_in (Expr-F.Expr::Bool c at) = refl
  flag_layer_in (Expr-F.Var v) = ap (λ (r : Ref). is_bool r.kind) (ref_so names v)
  flag_layer_in (Expr-F.Cell v e) = refl
  flag_layer_in (Expr-F.Load a) = refl
  flag_layer_in (Expr-F.Neg a at) = refl
  flag_layer_in (Expr-F.Not a at) = refl
  flag_layer_in (Expr-F.Cast z s a at) = refl
  flag_layer_in (Expr-F.Bin o a c at) = refl

  flag_in : (e : Expr) → is_flag (expr_in names e) ≡ is_flag e
  flag_in e = ap is_flag_layer (out_in e) ∙ flag_layer_in (out-Expr e)

  plain_in : (op : BinOp) (d e : Expr) (at : Span) → expr.Bin op (expr_in names d) (expr_in names e) at ≡ expr_in names (expr.Bin op d e at)
  plain_in op d e at = sym (in_bin op d e at)

  picked_in : (b : Bool) (p q : Expr) (p2 q2 : Expr) → p2 ≡ expr_in names p → q2 ≡ expr_in names q → (if b then p2 else q2) ≡ expr_in names (if b then p else q)
  picked_in true p q p2 q2 e f = e
  picked_in false p q p2 q2 e f = f

  updated_in : (op : BinOp) (d e : Expr) (at : Span) (x : Layer) → updated_layer op (expr_in names d) (expr_in names e) at (layer_in names x) ≡ expr_in names (updated_layer op d e at x)
  updated_in op d e at (Expr-F.Num n p) = plain_in op d e at
  updated_in op d e at (Expr-F.Expr::Bool c p) = plain_in op d e at
  updated_in op d e at (Expr-F.Var v) = plain_in op d e at
  updated_in op d e at (Expr-F.Cell v i) = plain_in op d e at
  updated_in op d e at (Expr-F.Load a) = plain_in op d e at
  updated_in op d e at (Expr-F.Neg a p) = plain_in op d e at
  updated_in op d e at (Expr-F.Not a p) = plain_in op d e at
  updated_in op d e at (Expr-F.Cast z s a p) = plain_in op d e at
  updated_in op d e at (Expr-F.Bin p a c inner) =
      ap (λ b. if carries op p && b then expr.Bin p (expr.Bin op (expr_in names d) (expr_in names a) at) (expr_in names c) at else expr.Bin op (expr_in names d) (expr_in names e) at) (flag_in c)
      ∙ picked_in (carries op p && is_flag c) (expr.Bin p (expr.Bin op d a at) c at) (expr.Bin op d e at) _ _
      (ap (λ k. expr.Bin p k (expr_in names c) at) (plain_in op d a at) ∙ plain_in p (expr.Bin op d a at) c at) (plain_in op d e at)

module _ (x : ScopeCopy) (s t : State) (agree : Agrees x s t) where
  span_in : (d : Lval) → left_span (lval_in x.names d) ≡ left_span d
  span_in (lval.Skip at) = refl
  span_in (lval.Var v) = ap (λ (r : Ref). r.span) (ref_so x.names v)
  span_in (lval.Cell v i) = ap (λ (r : Ref). r.span) (ref_so x.names v)
  span_in (lval.Store a) = ap (λ (p : MemoryAccess). p.span) (access_so x s t agree a).1

  pub left_size_in : (d : Lval) → left_size (lval_in x.names d) ≡ left_size d
  left_size_in (lval.Skip at) = refl
  left_size_in (lval.Var v) = ap (λ (r : Ref). size_of r.kind) (ref_so x.names v)
  left_size_in (lval.Cell v i) = ap (λ (r : Ref). size_of r.kind) (ref_so x.names v)
  left_size_in (lval.Store a) = ap (λ (p : MemoryAccess). p.size) (access_so x s t agree a).1

  pub left_sizes_in : (ds : List Lval) → left_sizes (map (lval_in x.names) ds) ≡ left_sizes ds
  left_sizes_in [] = refl
  left_sizes_in (d ∷ ds) = let p = left_size_in d in let q = left_sizes_in ds in rw (p, q)

  updated_whole : (d : Lval) (op : BinOp) (e : Expr) (at : Span) (a : Option Expr) → updated (option_map (expr_in x.names) a) op (expr_in x.names e) at ≡ option_map (expr_in x.names) (updated a op e at)
  updated_whole d op e at None = refl
  updated_whole d op e at (Some a) = ap Some (ap (updated_layer op (expr_in x.names a) (expr_in x.names e) at) (out_in x.names e) ∙ updated_in x.names op a e at (out-Expr e))

  whole_last : (d : Option Lval) (o : Option BinOp) (e : Expr) → whole_of (option_map (lval_in x.names) d) o (expr_in x.names e) ≡ option_map (expr_in x.names) (whole_of d o e)
  whole_last None None e = refl
  whole_last (Some d) None e = refl
  whole_last None (Some op) e = refl
  whole_last (Some d) (Some op) e =
      ap (λ k. updated k op (expr_in x.names e) (left_span (lval_in x.names d))) (as_expr_in x.names d) ∙ ap (updated (option_map (expr_in x.names) (as_expr d)) op (expr_in x.names e)) (span_in d) ∙ updated_whole d op e (left_span d) (as_expr d)

  pub whole_in : (to : List Lval) (o : Option BinOp) (e : Expr) → whole_of (last_left (map (lval_in x.names) to)) o (expr_in x.names e) ≡ option_map (expr_in x.names) (whole_of (last_left to) o e)
  whole_in to o e = ap (λ d. whole_of d o (expr_in x.names e)) (last_in x.names to) ∙ whole_last (last_left to) o e

  -- ---- what is read of them

  over_bin : (op : BinOp) (a b : Expr) (at : Span) → Reads x.scope a → Reads x.scope b → Reads x.scope (expr.Bin op a b at)
  over_bin op a b at p q =
      ap (is_over x.scope.has_scalar x.scope.has_array) (sym (expr.rolls-Bin op a b at)) ∙ over_is x.scope.has_scalar x.scope.has_array (Expr-F.Bin op a b at) ∙ ap (λ z. z && is_over x.scope.has_scalar x.scope.has_array b) p ∙ q

  both_true : (a b : Bool) → a ≡ true → b ≡ true → (a && b) ≡ true
  both_true a b p q = ap (λ z. z && b) p ∙ q

  reads_left : IsScope x.scope → (d : Lval) → Writes x.scope d → ReadsIf x.scope (as_expr d)
  reads_left h (lval.Skip at) w = tt
  reads_left h (lval.Var v) w = ap (is_over x.scope.has_scalar x.scope.has_array) (sym (expr.rolls-Var v)) ∙ over_is x.scope.has_scalar x.scope.has_array (Expr-F.Var v) ∙ h.scalars (ref_of v) w.0
  reads_left h (lval.Cell v i) w = ap (is_over x.scope.has_scalar x.scope.has_array) (sym (expr.rolls-Cell v i)) ∙ over_is x.scope.has_scalar x.scope.has_array (Expr-F.Cell v i) ∙ both_true (x.scope.has_array (ref_of v)) _ (h.arrays (ref_of v) w.0) w.2
  reads_left h (lval.Store a) w = ap (is_over x.scope.has_scalar x.scope.has_array) (sym (expr.rolls-Load a)) ∙ over_is x.scope.has_scalar x.scope.has_array (Expr-F.Load a) ∙ w

  reads_layer : (e : Expr) (y : Layer) → out-Expr e ≡ y → Reads x.scope e → over_layer x.scope.has_scalar x.scope.has_array y ≡ true
  reads_layer e y q r = ap (over_layer x.scope.has_scalar x.scope.has_array) (sym q) ∙ sym (over_is x.scope.has_scalar x.scope.has_array (out-Expr e)) ∙ ap (is_over x.scope.has_scalar x.scope.has_array) (roll-out-Expr e) ∙ r

  reads_picked : (b : Bool) (p q : Expr) → Reads x.scope p → Reads x.scope q → Reads x.scope (if b then p else q)
  reads_picked true p q r w = r
  reads_picked false p q r w = w

  reads_updated : (op : BinOp) (d e : Expr) (at : Span) (y : Layer) → Reads x.scope d → Reads x.scope e → over_layer x.scope.has_scalar x.scope.has_array y ≡ true → Reads x.scope (updated_layer op d e at y)
  reads_updated op d e at (Expr-F.Num n p) rd re r = over_bin op d e at rd re
  reads_updated op d e at (Expr-F.Expr::Bool c p) rd re r = over_bin op d e at rd re
  reads_updated op d e at (Expr-F.Var v) rd re r = over_bin op d e at rd re
  reads_updated op d e at (Expr-F.Cell v i) rd re r = over_bin op d e at rd re
  reads_updated op d e at (Expr-F.Load a) rd re r = over_bin op d e at rd re
  reads_updated op d e at (Expr-F.Neg a p) rd re r = over_bin op d e at rd re
  reads_updated op d e at (Expr-F.Not a p) rd re r = over_bin op d e at rd re
  reads_updated op d e at (Expr-F.Cast z s2 a p) rd re r = over_bin op d e at rd re
  reads_updated op d e at (Expr-F.Bin p a c inner) rd re r =
      let both = and_parts (is_over x.scope.has_scalar x.scope.has_array a) _ r in
      reads_picked (carries op p && is_flag c) (expr.Bin p (expr.Bin op d a at) c at) (expr.Bin op d e at) (over_bin p (expr.Bin op d a at) c at (over_bin op d a at rd both.0) both.1) (over_bin op d e at rd re)

  reads_updated_if : (op : BinOp) (d : Option Expr) (e : Expr) (at : Span) → ReadsIf x.scope d → Reads x.scope e → ReadsIf x.scope (updated d op e at)
  reads_updated_if op None e at rd re = tt
  reads_updated_if op (Some d) e at rd re = reads_updated op d e at (out-Expr e) rd re (reads_layer e (out-Expr e) refl re)

  reads_last : IsScope x.scope → (d : Option Lval) (o : Option BinOp) (e : Expr) → ((f : Lval) → d ≡ Some f → Writes x.scope f) → Reads x.scope e → ReadsIf x.scope (whole_of d o e)
  reads_last h None None e w re = re
  reads_last h (Some d) None e w re = re
  reads_last h None (Some op) e w re = tt
  reads_last h (Some d) (Some op) e w re = reads_updated_if op (as_expr d) e (left_span d) (reads_left h d (w d refl)) re

  written_last : (ds : List Lval) → AllWritten x.scope ds → (f : Lval) → last_left ds ≡ Some f → Writes x.scope f
  written_last [] w f e = absurd cc
  written_last (d ∷ []) w f e = let q : d ≡ f = cc in subst (Writes x.scope) q w.0
  written_last (d ∷ g ∷ ds) w f e = written_last (g ∷ ds) w.1 f e

  pub reads_whole : IsScope x.scope → (to : List Lval) (o : Option BinOp) (e : Expr) → AllWritten x.scope to → Reads x.scope e → ReadsIf x.scope (whole_of (last_left to) o e)
  reads_whole h to o e w re = reads_last h (last_left to) o e (written_last to w) re

  -- ---- right sides

  pub bool_so : (at : Span) (e : Expr) → Reads x.scope e → bool_in at (expr_in x.names e) t ≡ bool_in at e s
  bool_so at e r = ap (λ g. and_then g (truth at)) (value_so x s t agree e r None)

  pub word_so : (at : Span) (z : Size) (e : Expr) → Reads x.scope e → word_in at z (expr_in x.names e) t ≡ word_in at z e s
  word_so at z e r = let q = value_so x s t agree e r (Some z) in rw q

  pub with_two_so : (op : BinOp) (a b : Expr) (at : Span) (z : Size) → Reads x.scope a → Reads x.scope b → with_two op (expr_in x.names a) (expr_in x.names b) at z t ≡ with_two op a b at z s
  with_two_so op a b at z ra rb = let p = word_so at z a ra in let q = word_so at z b rb in rw (p, q)

  with_three_so : (op : BinOp) (y : Layer) (l c : Expr) (at : Span) (z : Size) → over_layer x.scope.has_scalar x.scope.has_array y ≡ true → Reads x.scope c → with_three op (layer_in x.names y) (expr_in x.names l) (expr_in x.names c) at z t ≡ with_three op y l c at z s
  with_three_so op (Expr-F.Num n p) l c at z r rc = refl
  with_three_so op (Expr-F.Expr::Bool b p) l c at z r rc = refl
  with_three_so op (Expr-F.Var v) l c at z r rc = refl
  with_three_so op (Expr-F.Cell v i) l c at z r rc = refl
  with_three_so op (Expr-F.Load a) l c at z r rc = refl
  with_three_so op (Expr-F.Neg a p) l c at z r rc = refl
  with_three_so op (Expr-F.Not a p) l c at z r rc = refl
  with_three_so op (Expr-F.Cast y w a p) l c at z r rc = refl
  with_three_so op (Expr-F.Bin p a b inner) l c at z r rc =
      let both = and_parts (is_over x.scope.has_scalar x.scope.has_array a) _ r in
      let e = word_so at z a both.0 in let f = word_so at z b both.1 in let g = bool_so at c rc in rw (e, f, g)

  two_so : (y : Layer) (at : Span) (z : Option Size) → over_layer x.scope.has_scalar x.scope.has_array y ≡ true → two_of (layer_in x.names y) at z t ≡ two_of y at z s
  two_so (Expr-F.Num n p) at z r = refl
  two_so (Expr-F.Expr::Bool b p) at z r = refl
  two_so (Expr-F.Var v) at z r = refl
  two_so (Expr-F.Cell v i) at z r = refl
  two_so (Expr-F.Load a) at z r = refl
  two_so (Expr-F.Neg a p) at z r = refl
  two_so (Expr-F.Not a p) at z r = refl
  two_so (Expr-F.Cast y w a p) at z r = refl
  two_so (Expr-F.Bin op a b inner) at None r = refl
  two_so (Expr-F.Bin op a b inner) at (Some z) r =
      let both = and_parts (is_over x.scope.has_scalar x.scope.has_array a) _ r in
      let f = flag_in x.names b in
      let e = ap (λ k. with_three op k (expr_in x.names a) (expr_in x.names b) inner z t) (out_in x.names a) ∙ with_three_so op (out-Expr a) a b inner z (reads_layer a (out-Expr a) refl both.0) both.1 in
      let g = with_two_so op a b inner z both.0 both.1 in
      rw (f, e, g)

  results_so : (to : List Lval) (e : Expr) (at : Span) (z : Option Size) → Reads x.scope e → results_of (map (lval_in x.names) to) (expr_in x.names e) at z t ≡ results_of to e at z s
  results_so [] e at z r = refl
  results_so (d ∷ []) e at z r = ap (λ g. and_then g (λ v. went [] (Some v ∷ []))) (value_so x s t agree e r z)
  results_so (f ∷ d ∷ []) e at z r = ap (λ y. two_of y at z t) (out_in x.names e) ∙ two_so (out-Expr e) at z (reads_layer e (out-Expr e) refl r)
  results_so (f ∷ d ∷ g ∷ ds) e at z r = refl

  old_read : (at : Span) (w : Option Size) (a : Option Expr) → ReadsIf x.scope a → and_then (defined at (option_map (expr_in x.names) a)) (λ e. evaluated e w t) ≡ and_then (defined at a) (λ e. evaluated e w s)
  old_read at w None r = refl
  old_read at w (Some a) r = let q = value_so x s t agree a r w in rw q

  old_so : IsScope x.scope → (to : List Lval) (at : Span) → AllWritten x.scope to → old_value (map (lval_in x.names) to) at t ≡ old_value to at s
  old_so h [] at w = refl
  old_so h (d ∷ []) at w =
      ap (λ k. and_then (defined at k) (λ e. evaluated e (left_size (lval_in x.names d)) t)) (as_expr_in x.names d)
      ∙ ap (λ z. and_then (defined at (option_map (expr_in x.names) (as_expr d))) (λ e. evaluated e z t)) (left_size_in d) ∙ old_read at (left_size d) (as_expr d) (reads_left h d w.0)
  old_so h (d ∷ f ∷ ds) at w = refl

  conditioned_so : IsScope x.scope → (to : List Lval) (c : Option Expr) (at : Span) (vs : Results) → AllWritten x.scope to → ReadsIf x.scope c → conditioned (map (lval_in x.names) to) (option_map (expr_in x.names) c) at vs t ≡ conditioned to c at vs s
  conditioned_so h to None at vs w r = refl
  conditioned_so h to (Some e) at vs w r = let p = bool_so at e r in let q = old_so h to at w in rw (p, q)

module _ (x : ScopeCopy) (c : ℕ) (below : IsBelow x c) where
  whole_so : (to : List Lval) (e cond : Option Expr) (at : Span) (s t : State) → Stands x s t → AllWritten x.scope to → ReadsIf x.scope e → ReadsIf x.scope cond →
      Alike (Ends x c below t) (assigned_whole to e cond at s) (assigned_whole (map (lval_in x.names) to) (option_map (expr_in x.names) e) (option_map (expr_in x.names) cond) at t)
  whole_so to None cond at s t st w r rc = both_stuck
  whole_so to (Some e) cond at s t st w r rc =
      let a = st.agrees in
      let z = option_or (left_sizes to) (own_size e) in
      let go = λ (y : Option Size) (u : Evaluation Results). and_then u (λ vs. and_then (conditioned (map (lval_in x.names) to) (option_map (expr_in x.names) cond) at vs t) (λ ws. all_written at y (map (lval_in x.names) to) ws t)) in
      let z2 : option_or (left_sizes (map (lval_in x.names) to)) (own_size (expr_in x.names e)) ≡ z = (let p = left_sizes_in x s t a to in let q = size_so x s t a e in rw (p, q)) in
      subst (λ y. Alike (Ends x c below t) (assigned_whole to (Some e) cond at s) (go y (results_of (map (lval_in x.names) to) (expr_in x.names e) at y t))) (sym z2)
      (subst (λ u. Alike (Ends x c below t) (assigned_whole to (Some e) cond at s) (go z u)) (sym (results_so x s t a to e at z r))
      (alike_then (results_of to e at z s) (λ vs. and_then (conditioned to cond at vs s) (λ ws. all_written at z to ws s)) (λ vs. and_then (conditioned (map (lval_in x.names) to) (option_map (expr_in x.names) cond) at vs t) (λ ws. all_written at z (map (lval_in x.names) to) ws t))
      (λ ns vs q. subst (λ u. Alike (Ends x c below t) (and_then (conditioned to cond at vs s) (λ ws. all_written at z to ws s)) (and_then u (λ ws. all_written at z (map (lval_in x.names) to) ws t))) (sym (conditioned_so x s t a below.scope to cond at vs w rc))
      (alike_then (conditioned to cond at vs s) (λ ws. all_written at z to ws s) (λ ws. all_written at z (map (lval_in x.names) to) ws t) (λ ms ws q2. all_written_so x c below at s t z to ws st w)))))

  pub assigned_so : (to : List Lval) (o : Option BinOp) (e : Expr) (cond : Option Expr) (at : Span) (s t : State) → Stands x s t → AllWritten x.scope to → Reads x.scope e → ReadsIf x.scope cond →
      Alike (Ends x c below t) (assigned to o e cond at s) (assigned (map (lval_in x.names) to) o (expr_in x.names e) (option_map (expr_in x.names) cond) at t)
  assigned_so to o e cond at s t st w r rc =
      subst (λ k. Alike (Ends x c below t) (assigned to o e cond at s) (assigned_whole (map (lval_in x.names) to) k (option_map (expr_in x.names) cond) at t)) (sym (whole_in x s t st.agrees to o e))
      (whole_so to (whole_of (last_left to) o e) cond at s t st w (reads_whole x s t st.agrees below.scope to o e w r) rc)
