-- Assignments whose cells are scalars.
use Rattle.std.proofs.Common.{◌≡◌, ℕ, suc, ◌<◌, ◌^◌, List, [], ◌∷◌, ◌++◌, map, length, Option, Some, None, Bool, true, false, refl, ap, sym, ◌∙◌, subst, arith, append-nil, append_assoc, length-append}
use Rattle.std.specs.Prelude.{nat_lt, if◌then◌else◌, ◌&&◌, pos, option_map}
use Rattle.std.specs.Option.{option_or}
use Rattle.std.proofs.lemmas.Bool.{and_parts}
use Rattle.jz_tree.specs.Span.{Span}
use Rattle.jz_tree.specs.Size.{Size}
use Rattle.jz_tree.specs.Size.TheVariants.{S64}
use Rattle.jz_tree.specs.declared.expr.BinOp.{BinOp}
use Rattle.jz_tree.specs.declared.expr.BinOp.TheVariants as o
use Rattle.jz_tree.specs.declared.expr.Expr.{Expr}
use Rattle.jz_tree.specs.declared.expr.Expr.TheVariants as expr
use Rattle.jz_tree.specs.declared.expr.Var.{Var}
use Rattle.jz_tree.specs.declared.expr.Expr.TheOpen.{Expr-F}
use Rattle.jz_tree.specs.declared.expr.Expr.TheViews.{out-Expr, out-roll-Expr, roll-out-Expr}
use Rattle.jz_meaning.specs.declared.access.Kind.TheVariants as kind
use Rattle.jz_meaning.specs.declared.value.Why.TheVariants.{Bounds, Init}
use Rattle.jz_runs.specs.Rules.{stuck, went}
use Rattle.jz_meaning.specs.Attempts.{Evaluation, stuck_at, numbers_first, and_then, defined}
use Rattle.jz_meaning.specs.States.{Value, word, boolean, integer, State}
use Rattle.jz_meaning.specs.Operators.{word_at, word_of}
use Rattle.jz_tree.specs.Memory.{Memory}
use Rattle.jz_tree.specs.Operators.{divides, carries}
use Rattle.jz_tree.specs.declared.intrinsic.Instance.{Instance}
use Rattle.jz_meaning.specs.Intrinsics.{intrinsic_size, sized_results}
use Rattle.jz_meaning.specs.Values.{MemoryAccess, store_word, store_at, access_of, size_of, Ref, key_of, cell_key, in_cells, index_at, ref_of, own_size, evaluated}
use Rattle.jz_tree.specs.declared.stmt.Lval.{Lval}
use Rattle.jz_tree.specs.declared.stmt.Lval.TheVariants as lval
use Rattle.jz_tree.specs.Words.{residue}
use Rattle.jz_meaning.specs.Assignments.{word_value, held_or_unset, with_value, in_cell, written, all_written, results_of, as_expr, left_span, left_size, left_sizes, last_left, whole_of, updated_layer, updated, old_value, chosen, conditioned, assigned_whole, assigned, is_bool, is_flag_layer, is_flag, Results, two_results, word_in, bool_in, truth, with_two, with_three, two_of}
use Rattle.jz_meaning.specs.Shapes.{Sort, Sorts, HoldsSorts, Shape, shape_of, own_count}
use Rattle.jz_unroll.proofs.Layers.{Layer}
use Rattle.jz_arrays.specs.Cells.{sort_in, scalar, cell_or, is_scalar, size_at, index_in, cell_in, with_scalars, Mask, numbers_kept, all_kept, mask_of, is_below, access_mask, left_or, left_with_scalars, left_mask, lefts_mask, access_with_scalars, mask_if, old_mask, condition_mask, assign_mask}
use Rattle.jz_arrays.specs.Arrays.{IsRead, FixedLeft, whole_old}
use Rattle.jz_arrays.specs.ScalarLaws.{IsThinned}
use Rattle.jz_arrays.proofs.Reading.{thin_then, thin_plain, thin_same, of_defined, rolled, in_is, mask_layer, mask_is, shape_layer, shape_is, scalar_is, scalars_so, below_is, cell_is, kind_size, constant_index, kept_both, access_kept, size_kept}
use Rattle.jz_unroll.proofs.PartNumbers.{none_first, then_then, then_went}
use Rattle.jz_unroll.proofs.PartNumbers.{index_numbers, in_cell_numbers, var_numbers, store_numbers}

two_numbers : (op : BinOp) (a b : Sort) (at : Span) (s : Size) (x y : ℕ) (c : Bool) (ns : List ℕ) (vs : Results) → two_results op at s x y c ≡ went ns vs → length ns ≡ own_count op a b
two_numbers o.OrElse a b at s x y c ns vs e = absurd cc
two_numbers o.AndThen a b at s x y c ns vs e = absurd cc
two_numbers o.Or a b at s x y c ns vs e = absurd cc
two_numbers o.Xor a b at s x y c ns vs e = absurd cc
two_numbers o.And a b at s x y c ns vs e = absurd cc
two_numbers o.Eq a b at s x y c ns vs e = absurd cc
two_numbers o.Ne a b at s x y c ns vs e = absurd cc
two_numbers o.Lt a b at s x y c ns vs e = absurd cc
two_numbers o.Le a b at s x y c ns vs e = absurd cc
two_numbers o.Gt a b at s x y c ns vs e = absurd cc
two_numbers o.Ge a b at s x y c ns vs e = absurd cc
two_numbers o.LtS a b at s x y c ns vs e = absurd cc
two_numbers o.LeS a b at s x y c ns vs e = absurd cc
two_numbers o.GtS a b at s x y c ns vs e = absurd cc
two_numbers o.GeS a b at s x y c ns vs e = absurd cc
two_numbers o.Shl a b at s x y c ns vs e = absurd cc
two_numbers o.Shr a b at s x y c ns vs e = absurd cc
two_numbers o.Sar a b at s x y c ns vs e = absurd cc
two_numbers o.Rol a b at s x y c ns vs e = absurd cc
two_numbers o.Ror a b at s x y c ns vs e = absurd cc
two_numbers o.Add a b at s x y c ns vs e = let p : ns ≡ [] = cc in ap length p
two_numbers o.Sub a b at s x y c ns vs e = let p : ns ≡ [] = cc in ap length p
two_numbers o.Mul a b at s x y c ns vs e = let p : ns ≡ [] = cc in ap length p
two_numbers o.Div a b at s x y c ns vs e = absurd cc
two_numbers o.Rem a b at s x y c ns vs e = absurd cc
two_numbers o.DivS a b at s x y c ns vs e = absurd cc
two_numbers o.RemS a b at s x y c ns vs e = absurd cc

pub carries_plain : (op p : BinOp) → carries op p ≡ true → divides p ≡ false
carries_plain o.OrElse p e = absurd cc
carries_plain o.AndThen p e = absurd cc
carries_plain o.Or p e = absurd cc
carries_plain o.Xor p e = absurd cc
carries_plain o.And p e = absurd cc
carries_plain o.Eq p e = absurd cc
carries_plain o.Ne p e = absurd cc
carries_plain o.Lt p e = absurd cc
carries_plain o.Le p e = absurd cc
carries_plain o.Gt p e = absurd cc
carries_plain o.Ge p e = absurd cc
carries_plain o.LtS p e = absurd cc
carries_plain o.LeS p e = absurd cc
carries_plain o.GtS p e = absurd cc
carries_plain o.GeS p e = absurd cc
carries_plain o.Shl p e = absurd cc
carries_plain o.Shr p e = absurd cc
carries_plain o.Sar p e = absurd cc
carries_plain o.Rol p e = absurd cc
carries_plain o.Ror p e = absurd cc
carries_plain o.Add o.OrElse e = absurd cc
carries_plain o.Add o.AndThen e = absurd cc
carries_plain o.Add o.Or e = absurd cc
carries_plain o.Add o.Xor e = absurd cc
carries_plain o.Add o.And e = absurd cc
carries_plain o.Add o.Eq e = absurd cc
carries_plain o.Add o.Ne e = absurd cc
carries_plain o.Add o.Lt e = absurd cc
carries_plain o.Add o.Le e = absurd cc
carries_plain o.Add o.Gt e = absurd cc
carries_plain o.Add o.Ge e = absurd cc
carries_plain o.Add o.LtS e = absurd cc
carries_plain o.Add o.LeS e = absurd cc
carries_plain o.Add o.GtS e = absurd cc
carries_plain o.Add o.GeS e = absurd cc
carries_plain o.Add o.Shl e = absurd cc
carries_plain o.Add o.Shr e = absurd cc
carries_plain o.Add o.Sar e = absurd cc
carries_plain o.Add o.Rol e = absurd cc
carries_plain o.Add o.Ror e = absurd cc
carries_plain o.Add o.Add e = refl
carries_plain o.Add o.Sub e = absurd cc
carries_plain o.Add o.Mul e = absurd cc
carries_plain o.Add o.Div e = absurd cc
carries_plain o.Add o.Rem e = absurd cc
carries_plain o.Add o.DivS e = absurd cc
carries_plain o.Add o.RemS e = absurd cc
carries_plain o.Sub o.OrElse e = absurd cc
carries_plain o.Sub o.AndThen e = absurd cc
carries_plain o.Sub o.Or e = absurd cc
carries_plain o.Sub o.Xor e = absurd cc
carries_plain o.Sub o.And e = absurd cc
carries_plain o.Sub o.Eq e = absurd cc
carries_plain o.Sub o.Ne e = absurd cc
carries_plain o.Sub o.Lt e = absurd cc
carries_plain o.Sub o.Le e = absurd cc
carries_plain o.Sub o.Gt e = absurd cc
carries_plain o.Sub o.Ge e = absurd cc
carries_plain o.Sub o.LtS e = absurd cc
carries_plain o.Sub o.LeS e = absurd cc
carries_plain o.Sub o.GtS e = absurd cc
carries_plain o.Sub o.GeS e = absurd cc
carries_plain o.Sub o.Shl e = absurd cc
carries_plain o.Sub o.Shr e = absurd cc
carries_plain o.Sub o.Sar e = absurd cc
carries_plain o.Sub o.Rol e = absurd cc
carries_plain o.Sub o.Ror e = absurd cc
carries_plain o.Sub o.Add e = absurd cc
carries_plain o.Sub o.Sub e = refl
carries_plain o.Sub o.Mul e = absurd cc
carries_plain o.Sub o.Div e = absurd cc
carries_plain o.Sub o.Rem e = absurd cc
carries_plain o.Sub o.DivS e = absurd cc
carries_plain o.Sub o.RemS e = absurd cc
carries_plain o.Mul p e = absurd cc
carries_plain o.Div p e = absurd cc
carries_plain o.Rem p e = absurd cc
carries_plain o.DivS p e = absurd cc
carries_plain o.RemS p e = absurd cc

own_none : (p : BinOp) (a b : Sort) → divides p ≡ false → own_count p a b ≡ 0
own_none p a b e = rw e

flag_layer : (x : Layer) → is_flag_layer (out-Expr (rolled x)) ≡ is_flag_layer x
flag_layer (Expr-F.Num n at) = ap is_flag_layer (out-roll-Expr _)
flag_layer (Expr-F.Expr::Bool c at) = ap is_flag_layer (out-roll-Expr _)
flag_layer (Expr-F.Var v) = ap is_flag_layer (out-roll-Expr _)
flag_layer (Expr-F.Cell v i) = by_scalar (size_at v) (cell_in v i)
  where
    by_scalar : (z : Option Size) (n : Option ℕ) → is_flag_layer (out-Expr (cell_or v (with_scalars i) z n)) ≡ false
    by_scalar (Some z) (Some n) = ap is_flag_layer (out-roll-Expr _) ∙ ap (λ (r : Ref). is_bool r.kind) (scalar_is v z n)
    by_scalar None n = ap is_flag_layer (out-roll-Expr _)
    by_scalar (Some z) None = ap is_flag_layer (out-roll-Expr _)
flag_layer (Expr-F.Load a) = ap is_flag_layer (out-roll-Expr _)
flag_layer (Expr-F.Neg e at) = ap is_flag_layer (out-roll-Expr _)
flag_layer (Expr-F.Not e at) = ap is_flag_layer (out-roll-Expr _)
flag_layer (Expr-F.Cast z s e at) = ap is_flag_layer (out-roll-Expr _)
flag_layer (Expr-F.Bin op a b at) = ap is_flag_layer (out-roll-Expr _)

out_is : (e : Expr) → out-Expr (with_scalars e) ≡ out-Expr (rolled (out-Expr e))
out_is e = ap (λ k. out-Expr (with_scalars k)) (sym (roll-out-Expr e)) ∙ ap out-Expr (in_is (out-Expr e))

flag_so : (e : Expr) → is_flag (with_scalars e) ≡ is_flag e
flag_so e = ap is_flag_layer (out_is e) ∙ flag_layer (out-Expr e)

truth_none : (at : Span) (v : Value) (ns : List ℕ) (b : Bool) → truth at v ≡ went ns b → ns ≡ []
truth_none at (boolean c) ns b e = cc
truth_none at (word s a) ns b e = absurd cc
truth_none at (integer i) ns b e = absurd cc

module _ (sorts : Sorts) (s : State) (holds : HoldsSorts sorts s.store) where
  pub word_thin : (at : Span) (z : Size) (e : Expr) → (shape_of sorts e).fixed ≡ true → IsThinned (mask_of (sort_in sorts) e) (word_in at z e s) (word_in at z (with_scalars e) s)
  word_thin at z e f = thin_plain (mask_of (sort_in sorts) e) (evaluated e (Some z) s) (evaluated (with_scalars e) (Some z) s) (word_at at z) (λ v ns b q. of_defined at (word_of z v) ns b q) (scalars_so sorts s holds e (Some z) f)

  pub bool_thin : (at : Span) (e : Expr) → (shape_of sorts e).fixed ≡ true → IsThinned (mask_of (sort_in sorts) e) (bool_in at e s) (bool_in at (with_scalars e) s)
  bool_thin at e f = thin_plain (mask_of (sort_in sorts) e) (evaluated e None s) (evaluated (with_scalars e) None s) (truth at) (λ v ns b q. truth_none at v ns b q) (scalars_so sorts s holds e None f)

  with_two_thin : (op : BinOp) (a b : Expr) (at : Span) (z : Size) → (shape_of sorts a).fixed ≡ true → (shape_of sorts b).fixed ≡ true →
      IsThinned (mask_of (sort_in sorts) a ++ (mask_of (sort_in sorts) b ++ all_kept (own_count op (shape_of sorts a).sort (shape_of sorts b).sort))) (with_two op a b at z s) (with_two op (with_scalars a) (with_scalars b) at z s)
  with_two_thin op a b at z fa fb =
      let own = own_count op (shape_of sorts a).sort (shape_of sorts b).sort in
      thin_then (mask_of (sort_in sorts) a) (mask_of (sort_in sorts) b ++ all_kept own) (word_in at z a s) (word_in at z (with_scalars a) s) (λ x. and_then (word_in at z b s) (λ y. two_results op at z x y false)) (λ x. and_then (word_in at z (with_scalars b) s) (λ y. two_results op at z x y false)) (word_thin at z a fa)
      (λ x. thin_then (mask_of (sort_in sorts) b) (all_kept own) (word_in at z b s) (word_in at z (with_scalars b) s) (λ y. two_results op at z x y false) (λ y. two_results op at z x y false) (word_thin at z b fb)
      (λ y. thin_same own (two_results op at z x y false) (λ ns vs e. two_numbers op (shape_of sorts a).sort (shape_of sorts b).sort at z x y false ns vs e)))

  -- the operands of the left part have the mask of that part
  with_three_thin : (op : BinOp) (x : Layer) (l c : Expr) (at : Span) (z : Size) → (shape_layer sorts x).fixed ≡ true → (shape_of sorts c).fixed ≡ true → (k : Sort) →
      IsThinned (mask_layer (sort_in sorts) x ++ (mask_of (sort_in sorts) c ++ all_kept (own_count op k (shape_of sorts c).sort))) (with_three op x l c at z s) (with_three op (out-Expr (rolled x)) (with_scalars l) (with_scalars c) at z s)
  with_three_thin op (Expr-F.Num n p) l c at z fx fc k = ap (λ y. with_three op y (with_scalars l) (with_scalars c) at z s) (out-roll-Expr _)
  with_three_thin op (Expr-F.Expr::Bool b p) l c at z fx fc k = ap (λ y. with_three op y (with_scalars l) (with_scalars c) at z s) (out-roll-Expr _)
  with_three_thin op (Expr-F.Var v) l c at z fx fc k = ap (λ y. with_three op y (with_scalars l) (with_scalars c) at z s) (out-roll-Expr _)
  with_three_thin op (Expr-F.Cell v i) l c at z fx fc k = by_scalar (size_at v) (cell_in v i)
    where
      by_scalar : (y : Option Size) (n : Option ℕ) → with_three op (out-Expr (cell_or v (with_scalars i) y n)) (with_scalars l) (with_scalars c) at z s ≡ stuck_at at Init
      by_scalar (Some y) (Some n) = ap (λ y. with_three op y (with_scalars l) (with_scalars c) at z s) (out-roll-Expr _)
      by_scalar None n = ap (λ y. with_three op y (with_scalars l) (with_scalars c) at z s) (out-roll-Expr _)
      by_scalar (Some y) None = ap (λ y. with_three op y (with_scalars l) (with_scalars c) at z s) (out-roll-Expr _)
  with_three_thin op (Expr-F.Load a) l c at z fx fc k = ap (λ y. with_three op y (with_scalars l) (with_scalars c) at z s) (out-roll-Expr _)
  with_three_thin op (Expr-F.Neg a p) l c at z fx fc k = ap (λ y. with_three op y (with_scalars l) (with_scalars c) at z s) (out-roll-Expr _)
  with_three_thin op (Expr-F.Not a p) l c at z fx fc k = ap (λ y. with_three op y (with_scalars l) (with_scalars c) at z s) (out-roll-Expr _)
  with_three_thin op (Expr-F.Cast y w a p) l c at z fx fc k = ap (λ y. with_three op y (with_scalars l) (with_scalars c) at z s) (out-roll-Expr _)
  with_three_thin op (Expr-F.Bin p a b inner) l c at z fx fc k =
      subst (λ y. IsThinned M (with_three op (Expr-F.Bin p a b inner) l c at z s) (with_three op y (with_scalars l) (with_scalars c) at z s)) (sym (out-roll-Expr (Expr-F.Bin p (with_scalars a) (with_scalars b) inner))) (by_test (carries op p) refl)
    where
      own1 : ℕ
      own1 = own_count p (shape_of sorts a).sort (shape_of sorts b).sort

      own : ℕ
      own = own_count op k (shape_of sorts c).sort

      M : Mask
      M = (mask_of (sort_in sorts) a ++ (mask_of (sort_in sorts) b ++ all_kept own1)) ++ (mask_of (sort_in sorts) c ++ all_kept own)

      F : Expr → Expr → Expr → Evaluation Results
      F u v w = and_then (word_in at z u s) (λ x. and_then (word_in at z v s) (λ y. and_then (bool_in at w s) (two_results op at z x y)))

      plain : carries op p ≡ true → M ≡ mask_of (sort_in sorts) a ++ (mask_of (sort_in sorts) b ++ (mask_of (sort_in sorts) c ++ all_kept own))
      plain q = ap (λ n. (mask_of (sort_in sorts) a ++ (mask_of (sort_in sorts) b ++ all_kept n)) ++ (mask_of (sort_in sorts) c ++ all_kept own)) (own_none p (shape_of sorts a).sort (shape_of sorts b).sort (carries_plain op p q))
          ∙ ap (λ n. (mask_of (sort_in sorts) a ++ n) ++ (mask_of (sort_in sorts) c ++ all_kept own)) (append-nil (mask_of (sort_in sorts) b)) ∙ append_assoc (mask_of (sort_in sorts) a) (mask_of (sort_in sorts) b) (mask_of (sort_in sorts) c ++ all_kept own)

      fa : (shape_of sorts a).fixed ≡ true
      fa = (and_parts (shape_of sorts a).fixed _ fx).0

      fb : (shape_of sorts b).fixed ≡ true
      fb = (and_parts (shape_of sorts b).fixed _ (and_parts (shape_of sorts a).fixed _ fx).1).0

      by_test : (t : Bool) → carries op p ≡ t → IsThinned M (if carries op p then F a b c else stuck_at at Init) (if carries op p then F (with_scalars a) (with_scalars b) (with_scalars c) else stuck_at at Init)
      by_test false q = subst (λ t. IsThinned M (if t then F a b c else stuck_at at Init) (if t then F (with_scalars a) (with_scalars b) (with_scalars c) else stuck_at at Init)) (sym q) refl
      by_test true q =
          subst (λ t. IsThinned M (if t then F a b c else stuck_at at Init) (if t then F (with_scalars a) (with_scalars b) (with_scalars c) else stuck_at at Init)) (sym q)
          (subst (λ m. IsThinned m (F a b c) (F (with_scalars a) (with_scalars b) (with_scalars c))) (sym (plain q))
          (thin_then (mask_of (sort_in sorts) a) (mask_of (sort_in sorts) b ++ (mask_of (sort_in sorts) c ++ all_kept own)) (word_in at z a s) (word_in at z (with_scalars a) s) (λ x. and_then (word_in at z b s) (λ y. and_then (bool_in at c s) (two_results op at z x y))) (λ x. and_then (word_in at z (with_scalars b) s) (λ y. and_then (bool_in at (with_scalars c) s) (two_results op at z x y))) (word_thin at z a fa)
          (λ x. thin_then (mask_of (sort_in sorts) b) (mask_of (sort_in sorts) c ++ all_kept own) (word_in at z b s) (word_in at z (with_scalars b) s) (λ y. and_then (bool_in at c s) (two_results op at z x y)) (λ y. and_then (bool_in at (with_scalars c) s) (two_results op at z x y)) (word_thin at z b fb)
          (λ y. thin_then (mask_of (sort_in sorts) c) (all_kept own) (bool_in at c s) (bool_in at (with_scalars c) s) (two_results op at z x y) (two_results op at z x y) (bool_thin at c fc)
          (λ t. thin_same own (two_results op at z x y t) (λ ns vs e. two_numbers op k (shape_of sorts c).sort at z x y t ns vs e))))))

  -- two results
  two_thin : (x : Layer) (at : Span) (z : Option Size) → (shape_layer sorts x).fixed ≡ true → IsThinned (mask_layer (sort_in sorts) x) (two_of x at z s) (two_of (out-Expr (rolled x)) at z s)
  two_thin (Expr-F.Num n p) at z f = ap (λ y. two_of y at z s) (out-roll-Expr _)
  two_thin (Expr-F.Expr::Bool b p) at z f = ap (λ y. two_of y at z s) (out-roll-Expr _)
  two_thin (Expr-F.Var v) at z f = ap (λ y. two_of y at z s) (out-roll-Expr _)
  two_thin (Expr-F.Cell v i) at z f = by_scalar (size_at v) (cell_in v i)
    where
      by_scalar : (y : Option Size) (n : Option ℕ) → two_of (out-Expr (cell_or v (with_scalars i) y n)) at z s ≡ stuck_at at Init
      by_scalar (Some y) (Some n) = ap (λ y. two_of y at z s) (out-roll-Expr _)
      by_scalar None n = ap (λ y. two_of y at z s) (out-roll-Expr _)
      by_scalar (Some y) None = ap (λ y. two_of y at z s) (out-roll-Expr _)
  two_thin (Expr-F.Load a) at z f = ap (λ y. two_of y at z s) (out-roll-Expr _)
  two_thin (Expr-F.Neg a p) at z f = ap (λ y. two_of y at z s) (out-roll-Expr _)
  two_thin (Expr-F.Not a p) at z f = ap (λ y. two_of y at z s) (out-roll-Expr _)
  two_thin (Expr-F.Cast y w a p) at z f = ap (λ y. two_of y at z s) (out-roll-Expr _)
  two_thin (Expr-F.Bin op a b inner) at None f = ap (λ y. two_of y at None s) (out-roll-Expr _)
  two_thin (Expr-F.Bin op a b inner) at (Some z) f =
      subst (λ y. IsThinned M (two_of (Expr-F.Bin op a b inner) at (Some z) s) (two_of y at (Some z) s)) (sym (out-roll-Expr (Expr-F.Bin op (with_scalars a) (with_scalars b) inner)))
      (subst (λ t. IsThinned M (if is_flag b then with_three op (out-Expr a) a b inner z s else with_two op a b inner z s) (if t then with_three op (out-Expr (with_scalars a)) (with_scalars a) (with_scalars b) inner z s else with_two op (with_scalars a) (with_scalars b) inner z s)) (sym (flag_so b)) (by_flag (is_flag b)))
    where
      M : Mask
      M = mask_of (sort_in sorts) a ++ (mask_of (sort_in sorts) b ++ all_kept (own_count op (shape_of sorts a).sort (shape_of sorts b).sort))

      fa : (shape_of sorts a).fixed ≡ true
      fa = (and_parts (shape_of sorts a).fixed _ f).0

      fb : (shape_of sorts b).fixed ≡ true
      fb = (and_parts (shape_of sorts b).fixed _ (and_parts (shape_of sorts a).fixed _ f).1).0

      three : IsThinned M (with_three op (out-Expr a) a b inner z s) (with_three op (out-Expr (with_scalars a)) (with_scalars a) (with_scalars b) inner z s)
      three =
          let m : mask_of (sort_in sorts) a ≡ mask_layer (sort_in sorts) (out-Expr a) = ap (mask_of (sort_in sorts)) (sym (roll-out-Expr a)) ∙ mask_is (sort_in sorts) (out-Expr a) in
          let h : (shape_layer sorts (out-Expr a)).fixed ≡ true = ap (λ (k : Shape). k.fixed) (sym (shape_is sorts (out-Expr a))) ∙ ap (λ e. (shape_of sorts e).fixed) (roll-out-Expr a) ∙ fa in
          subst (λ y. IsThinned M (with_three op (out-Expr a) a b inner z s) (with_three op y (with_scalars a) (with_scalars b) inner z s)) (sym (out_is a))
          (subst (λ y. IsThinned (y ++ (mask_of (sort_in sorts) b ++ all_kept (own_count op (shape_of sorts a).sort (shape_of sorts b).sort))) (with_three op (out-Expr a) a b inner z s) (with_three op (out-Expr (rolled (out-Expr a))) (with_scalars a) (with_scalars b) inner z s)) (sym m)
          (with_three_thin op (out-Expr a) a b inner z h fb (shape_of sorts a).sort))

      by_flag : (t : Bool) → IsThinned M (if t then with_three op (out-Expr a) a b inner z s else with_two op a b inner z s) (if t then with_three op (out-Expr (with_scalars a)) (with_scalars a) (with_scalars b) inner z s else with_two op (with_scalars a) (with_scalars b) inner z s)
      by_flag true = three
      by_flag false = with_two_thin op a b inner z fa fb

  -- the right side, by the number of left sides
  pub results_thin : (to to2 : List Lval) (e : Expr) (at : Span) (z : Option Size) → length to ≡ length to2 → (shape_of sorts e).fixed ≡ true → IsThinned (mask_of (sort_in sorts) e) (results_of to e at z s) (results_of to2 (with_scalars e) at z s)
  results_thin [] [] e at z q f = refl
  results_thin [] (d ∷ ds) e at z q f = absurd cc
  results_thin (d ∷ ds) [] e at z q f = absurd cc
  results_thin (d ∷ []) (d2 ∷ []) e at z q f = thin_plain (mask_of (sort_in sorts) e) (evaluated e z s) (evaluated (with_scalars e) z s) (λ v. went [] (Some v ∷ [])) (λ v ns b q. cc) (scalars_so sorts s holds e z f)
  results_thin (d ∷ []) (d2 ∷ g2 ∷ ds) e at z q f = absurd cc
  results_thin (d ∷ g ∷ ds) (d2 ∷ []) e at z q f = absurd cc
  results_thin (d ∷ g ∷ []) (d2 ∷ g2 ∷ []) e at z q f =
      let m : mask_of (sort_in sorts) e ≡ mask_layer (sort_in sorts) (out-Expr e) = ap (mask_of (sort_in sorts)) (sym (roll-out-Expr e)) ∙ mask_is (sort_in sorts) (out-Expr e) in
      let h : (shape_layer sorts (out-Expr e)).fixed ≡ true = ap (λ (k : Shape). k.fixed) (sym (shape_is sorts (out-Expr e))) ∙ ap (λ y. (shape_of sorts y).fixed) (roll-out-Expr e) ∙ f in
      subst (λ y. IsThinned (mask_of (sort_in sorts) e) (two_of (out-Expr e) at z s) (two_of y at z s)) (sym (out_is e)) (subst (λ y. IsThinned y (two_of (out-Expr e) at z s) (two_of (out-Expr (rolled (out-Expr e))) at z s)) (sym m) (two_thin (out-Expr e) at z h))
  results_thin (d ∷ g ∷ []) (d2 ∷ g2 ∷ c ∷ ds) e at z q f = absurd (omega (arith, q))
  results_thin (d ∷ g ∷ c ∷ ds) (d2 ∷ g2 ∷ []) e at z q f = absurd (omega (arith, q))
  results_thin (d ∷ g ∷ c ∷ ds) (d2 ∷ g2 ∷ c2 ∷ ds2) e at z q f = refl

-- ---- left sides

module _ (sorts : Sorts) (s : State) (holds : HoldsSorts sorts s.store) where
  -- a value is written to a cell that became a scalar as to the cell
  scalar_written : (v : Var) (i : Expr) (z : Size) (n : ℕ) (w : Option Size) (u : Value) → size_at v ≡ Some z → index_in i ≡ Some n → is_below (ref_of v).kind n ≡ true →
      IsThinned (false ∷ []) (written w (lval.Cell v i) (Some u) s) (written w (lval.Var (scalar v z n)) (Some u) s)
  scalar_written v i z n w u sz ix below =
      let r = ref_of v in
      let b = below_is r.kind n below in
      let same : z ≡ b.0 = kind_size v z b.0 b.1 sz b.2 in
      let cell : written w (lval.Cell v i) (Some u) s ≡ numbers_first (n ∷ []) (and_then (word_value r.span z u) (λ h. went [] (with_value s (cell_key r n) (Some h))))
      = ap (λ g. and_then g (λ j. and_then (index_at r j) (λ m. in_cell r m (size_of r.kind) (Some u) s))) (constant_index i n (out-Expr i) (roll-out-Expr i) ix (Some S64) s) ∙ none_first _
      ∙ ap (λ g. and_then g (λ m. in_cell r m (size_of r.kind) (Some u) s)) (index_is r b.0 b.1 n b.2 b.3 b.4)
      ∙ ap (λ k. numbers_first (n ∷ []) (in_cell r n (size_of k) (Some u) s)) b.2 ∙ ap (λ k. numbers_first (n ∷ []) (in_cell r n (Some k) (Some u) s)) (sym same) in
      let var : written w (lval.Var (scalar v z n)) (Some u) s ≡ and_then (word_value r.span z u) (λ h. went [] (with_value s (cell_key r n) (Some h)))
      = ap (λ (p : Ref). and_then (held_or_unset p.span p.kind (Some u)) (λ h. went [] (with_value s (key_of p) h))) (scalar_is v z n) ∙ held_twice r z n (word_value r.span z u) in
      subst (λ g. IsThinned (false ∷ []) g (written w (lval.Var (scalar v z n)) (Some u) s)) (sym cell) (subst (λ g. IsThinned (false ∷ []) (numbers_first (n ∷ []) (and_then (word_value r.span z u) (λ h. went [] (with_value s (cell_key r n) (Some h))))) g) (sym var) (dropped (word_of z u)))
    where
      held_twice : (r : Ref) (z : Size) (n : ℕ) (g : Evaluation Value) → and_then (and_then g (λ h. went [] (Some h))) (λ h. went [] (with_value s (cell_key r n) h)) ≡ and_then g (λ h. went [] (with_value s (cell_key r n) (Some h)))
      held_twice r z n g = then_then g (λ h. went [] (Some h)) (λ h. went [] (with_value s (cell_key r n) h))

      index_is : (r : Ref) (z : Size) (m n : ℕ) → r.kind ≡ kind.Array z m → nat_lt n m ≡ true → n < 2 ^ 64 → index_at r (integer (pos n)) ≡ went (n ∷ []) n
      index_is r z m n k lt small =
          let e : residue S64 (pos n) ≡ n = omega (arith, small) in
          ap (λ i. and_then (went [] i) (in_cells r.span r.kind)) e ∙ ap (λ c. and_then (went [] n) (in_cells r.span c)) k ∙ ap (λ b. numbers_first [] (if b then went (n ∷ []) n else stuck_at r.span Bounds)) lt

      dropped : (o : Option ℕ) → IsThinned (false ∷ []) (numbers_first (n ∷ []) (and_then (and_then (defined (ref_of v).span o) (λ a. went [] (word z a))) (λ h. went [] (with_value s (cell_key (ref_of v) n) (Some h))))) (and_then (and_then (defined (ref_of v).span o) (λ a. went [] (word z a))) (λ h. went [] (with_value s (cell_key (ref_of v) n) (Some h))))
      dropped None = refl
      dropped (Some a) = (refl, refl)

-- nothing is stored that is none
never_stored : (p : MemoryAccess) (z : Option Size) (n : Value) (m : Memory) (ns : List ℕ) (m1 : Memory) → store_at p z n None m ≡ went ns m1 → ⊥
never_stored p z n m ns m1 e = by_address (word_of S64 n) e
  where
    by_size : (y : Option Size) (a : ℕ) (ms : List ℕ) → numbers_first ms (store_word p.span p.unaligned y a None m) ≡ went ns m1 → ⊥
    by_size None a ms q = absurd cc
    by_size (Some y) a ms q = absurd cc

    by_address : (o : Option ℕ) → and_then (defined p.span o) (λ a. store_word p.span p.unaligned (option_or p.size z) a None m) ≡ went ns m1 → ⊥
    by_address None q = absurd cc
    by_address (Some a) q = by_size (option_or p.size z) a [] q

abbrev pub AllSome : Results → Type 0
AllSome [] = Unit {0}
AllSome (None ∷ vs) = ⊥
AllSome (Some v ∷ vs) = AllSome vs

-- a cell gets a value; a flag that is undefined is none
abbrev pub IsGiven : Lval → Option Value → Type 0
IsGiven (lval.Cell v i) None = ⊥
IsGiven _ _ = Unit {0}

abbrev pub AreGiven : List Lval → Results → Type 0
AreGiven (d ∷ ds) (v ∷ vs) = IsGiven d v × AreGiven ds vs
AreGiven _ _ = Unit {0}

abbrev pub results_given : Option Instance → List Lval → List Expr → Span → State → Evaluation Results
results_given None to args at s = stuck_at at Init
results_given (Some i) to args at s = sized_results i.name at (intrinsic_size i.name i.size to args) args s

pub some_given : (ds : List Lval) (vs : Results) → AllSome vs → AreGiven ds vs
some_given [] vs a = tt
some_given (d ∷ ds) [] a = tt
some_given (d ∷ ds) (None ∷ vs) a = absurd a
some_given (lval.Skip at ∷ ds) (Some v ∷ vs) a = (tt, some_given ds vs a)
some_given (lval.Var x ∷ ds) (Some v ∷ vs) a = (tt, some_given ds vs a)
some_given (lval.Cell x i ∷ ds) (Some v ∷ vs) a = (tt, some_given ds vs a)
some_given (lval.Store y ∷ ds) (Some v ∷ vs) a = (tt, some_given ds vs a)

module _ (sorts : Sorts) where
  -- what is asked of a left side, and that writing it keeps sorts
  pub record IsSortedLeft (d : Lval) : Type 0 where
    pub fixed : FixedLeft sorts d
    pub keeps : (z : Option Size) (v : Option Value) (s t : State) (ns : List ℕ) → HoldsSorts sorts s.store → written z d v s ≡ went ns t → HoldsSorts sorts t.store

  abbrev pub AreLeft : List Lval → Type 0
  AreLeft [] = Unit {0}
  AreLeft (d ∷ ds) = IsSortedLeft d × AreLeft ds

  left_thin : (s : State) → HoldsSorts sorts s.store → (w : Option Size) (d : Lval) (u : Value) → FixedLeft sorts d → IsThinned (left_mask (sort_in sorts) d) (written w d (Some u) s) (written w (left_with_scalars d) (Some u) s)
  left_thin s holds w (lval.Skip at) u f = (refl, refl)
  left_thin s holds w (lval.Var v) u f = thin_same 0 (written w (lval.Var v) (Some u) s) (λ ns b e. var_numbers (ref_of v) u s ns b e)
  left_thin s holds w (lval.Cell v i) u f = by_scalar (size_at v) (cell_in v i) refl refl
    where
      r : Ref
      r = ref_of v

      stays : IsThinned (mask_of (sort_in sorts) i ++ true ∷ []) (written w (lval.Cell v i) (Some u) s) (written w (lval.Cell v (with_scalars i)) (Some u) s)
      stays = thin_then (mask_of (sort_in sorts) i) (true ∷ []) (evaluated i (Some S64) s) (evaluated (with_scalars i) (Some S64) s) (λ j. and_then (index_at r j) (λ n. in_cell r n (size_of r.kind) (Some u) s)) (λ j. and_then (index_at r j) (λ n. in_cell r n (size_of r.kind) (Some u) s)) (scalars_so sorts s holds i (Some S64) f)
          (λ j. thin_same 1 (and_then (index_at r j) (λ n. in_cell r n (size_of r.kind) (Some u) s)) (λ ns b e.
          let t = then_went (index_at r j) (λ n. in_cell r n (size_of r.kind) (Some u) s) ns b e in
          let a = index_numbers r j t.0 t.1 t.3 in let c = in_cell_numbers r t.1 (size_of r.kind) (Some u) s t.2 b t.4 in
          omega (arith, a, c, length-append t.0 t.2, ap length t.5)))

      by_scalar : (z : Option Size) (n : Option ℕ) → size_at v ≡ z → cell_in v i ≡ n → IsThinned (if is_scalar z n then false ∷ [] else mask_of (sort_in sorts) i ++ true ∷ []) (written w (lval.Cell v i) (Some u) s) (written w (left_or v i z n) (Some u) s)
      by_scalar (Some z) (Some n) q1 q2 = let c = cell_is v i n q2 in scalar_written sorts s holds v i z n w u q1 c.0 c.1
      by_scalar None n q1 q2 = stays
      by_scalar (Some z) None q1 q2 = stays
  left_thin s holds w (lval.Store a) u f =
      let p = access_of a in let l = access_kept sorts s holds a in
      subst (λ (m : MemoryAccess). IsThinned (access_mask (sort_in sorts) a ++ true ∷ []) (written w (lval.Store a) (Some u) s) (and_then (m.at s) (λ n. and_then (store_at m w n (Some u) s.memory) (λ m. went [] (record s { memory = m }))))) (sym l.1)
      (thin_then (access_mask (sort_in sorts) a) (true ∷ []) (p.at s) (l.0 s) (λ n. and_then (store_at p w n (Some u) s.memory) (λ m. went [] (record s { memory = m }))) (λ n. and_then (store_at p w n (Some u) s.memory) (λ m. went [] (record s { memory = m }))) (l.2 f)
      (λ n. thin_same 1 (and_then (store_at p w n (Some u) s.memory) (λ m. went [] (record s { memory = m }))) (λ ns b e.
      let t = then_went (store_at p w n (Some u) s.memory) (λ m. went [] (record s { memory = m })) ns b e in
      let c1 = store_numbers p w n u s.memory t.0 t.1 t.3 in let c2 : t.2 ≡ [] = (let k = t.4 in cc) in
      omega (arith, c1, ap length c2, length-append t.0 t.2, ap length t.5))))

  -- a left side with or without a value; a cell has one
  given_thin : (s : State) → HoldsSorts sorts s.store → (w : Option Size) (d : Lval) (v : Option Value) → FixedLeft sorts d → IsGiven d v → IsThinned (left_mask (sort_in sorts) d) (written w d v s) (written w (left_with_scalars d) v s)
  given_thin s holds w d (Some u) f g = left_thin s holds w d u f
  given_thin s holds w (lval.Skip at) None f g = (refl, refl)
  given_thin s holds w (lval.Var v) None f g = (refl, refl)
  given_thin s holds w (lval.Cell v i) None f g = absurd g
  given_thin s holds w (lval.Store a) None f g =
      let p = access_of a in let l = access_kept sorts s holds a in
      subst (λ (m : MemoryAccess). IsThinned (access_mask (sort_in sorts) a ++ true ∷ []) (written w (lval.Store a) None s) (and_then (m.at s) (λ n. and_then (store_at m w n None s.memory) (λ m. went [] (record s { memory = m }))))) (sym l.1)
      (thin_then (access_mask (sort_in sorts) a) (true ∷ []) (p.at s) (l.0 s) (λ n. and_then (store_at p w n None s.memory) (λ m. went [] (record s { memory = m }))) (λ n. and_then (store_at p w n None s.memory) (λ m. went [] (record s { memory = m }))) (l.2 f)
      (λ n. thin_same 1 (and_then (store_at p w n None s.memory) (λ m. went [] (record s { memory = m }))) (λ ns b e.
      let t = then_went (store_at p w n None s.memory) (λ m. went [] (record s { memory = m })) ns b e in
      absurd (never_stored p w n s.memory t.0 t.1 t.3))))

  -- like thin_then, with what the first part gave
  pub thin_if : {A B : Type 0} (m k : Mask) (g g' : Evaluation A) (f f' : A → Evaluation B) → IsThinned m g g' → ((ns : List ℕ) (a : A) → g ≡ went ns a → IsThinned k (f a) (f' a)) → IsThinned (m ++ k) (and_then g f) (and_then g' f')
  thin_if m k (stuck w) g' f f' t h = ap (λ y. and_then y f') t
  thin_if {B} m k (went ns a) g' f f' t h =
      subst (λ y. IsThinned (m ++ k) (numbers_first ns (f a)) (and_then y f')) (sym t.1) (by_rest (f a) (f' a) (h ns a refl))
    where
      by_rest : (r r' : Evaluation B) → IsThinned k r r' → IsThinned (m ++ k) (numbers_first ns r) (numbers_first (numbers_kept m ns) r')
      by_rest (stuck w) r' u = ap (numbers_first (numbers_kept m ns)) u
      by_rest (went ms b) r' u = (omega (arith, t.0, u.0, length-append ns ms, length-append m k), ap (numbers_first (numbers_kept m ns)) u.1 ∙ ap (λ l. went l b) (sym (kept_both m k ns ms t.0)))

  pub all_thin : (at : Span) (s : State) (z : Option Size) (ds : List Lval) (vs : Results) → HoldsSorts sorts s.store → AreLeft ds → AreGiven ds vs → IsThinned (lefts_mask (sort_in sorts) ds) (all_written at z ds vs s) (all_written at z (map left_with_scalars ds) vs s)
  all_thin at s z [] [] holds l a = (refl, refl)
  all_thin at s z [] (v ∷ vs) holds l a = refl
  all_thin at s z (d ∷ ds) [] holds l a = refl
  all_thin at s z (d ∷ ds) (v ∷ vs) holds l a =
      thin_if (left_mask (sort_in sorts) d) (lefts_mask (sort_in sorts) ds) (written z d v s) (written z (left_with_scalars d) v s) (λ t. all_written at z ds vs t) (λ t. all_written at z (map left_with_scalars ds) vs t) (given_thin s holds z d v l.0.fixed a.0)
      (λ ns t e. all_thin at t z ds vs (l.0.keeps z v s t ns holds e) l.1 a.1)

-- ---- whole assignments

ws_var : (v : Var) → with_scalars (expr.Var v) ≡ expr.Var v
ws_var v = ap with_scalars (sym (expr.rolls-Var v)) ∙ in_is (Expr-F.Var v) ∙ expr.rolls-Var v

ws_bin : (op : BinOp) (a b : Expr) (at : Span) → with_scalars (expr.Bin op a b at) ≡ expr.Bin op (with_scalars a) (with_scalars b) at
ws_bin op a b at = ap with_scalars (sym (expr.rolls-Bin op a b at)) ∙ in_is (Expr-F.Bin op a b at) ∙ expr.rolls-Bin op (with_scalars a) (with_scalars b) at

ws_left : (d : Lval) → as_expr (left_with_scalars d) ≡ option_map with_scalars (as_expr d)
ws_left (lval.Skip at) = refl
ws_left (lval.Var v) = ap Some (sym (ws_var v))
ws_left (lval.Cell v i) = by_scalar (size_at v) (cell_in v i) ∙ ap Some (sym (ap with_scalars (sym (expr.rolls-Cell v i)) ∙ in_is (Expr-F.Cell v i)))
  where
    by_scalar : (z : Option Size) (n : Option ℕ) → as_expr (left_or v i z n) ≡ Some (cell_or v (with_scalars i) z n)
    by_scalar (Some z) (Some n) = ap Some (sym (expr.rolls-Var (scalar v z n)))
    by_scalar None n = ap Some (sym (expr.rolls-Cell v (with_scalars i)))
    by_scalar (Some z) None = ap Some (sym (expr.rolls-Cell v (with_scalars i)))
ws_left (lval.Store a) = ap Some (sym (ap with_scalars (sym (expr.rolls-Load a)) ∙ in_is (Expr-F.Load a) ∙ expr.rolls-Load (access_with_scalars a)))

ws_last : (ds : List Lval) → last_left (map left_with_scalars ds) ≡ option_map left_with_scalars (last_left ds)
ws_last [] = refl
ws_last (d ∷ []) = refl
ws_last (d ∷ f ∷ ds) = ws_last (f ∷ ds)

ws_picked : (b : Bool) (p q p2 q2 : Expr) → p2 ≡ with_scalars p → q2 ≡ with_scalars q → (if b then p2 else q2) ≡ with_scalars (if b then p else q)
ws_picked true p q p2 q2 e f = e
ws_picked false p q p2 q2 e f = f

ws_updated : (op : BinOp) (d e : Expr) (at : Span) (x : Layer) → updated_layer op (with_scalars d) (with_scalars e) at (out-Expr (rolled x)) ≡ with_scalars (updated_layer op d e at x)
ws_updated op d e at (Expr-F.Num n p) = ap (updated_layer op (with_scalars d) (with_scalars e) at) (out-roll-Expr _) ∙ sym (ws_bin op d e at)
ws_updated op d e at (Expr-F.Expr::Bool c p) = ap (updated_layer op (with_scalars d) (with_scalars e) at) (out-roll-Expr _) ∙ sym (ws_bin op d e at)
ws_updated op d e at (Expr-F.Var v) = ap (updated_layer op (with_scalars d) (with_scalars e) at) (out-roll-Expr _) ∙ sym (ws_bin op d e at)
ws_updated op d e at (Expr-F.Cell v i) = by_scalar (size_at v) (cell_in v i) ∙ sym (ws_bin op d e at)
  where
    by_scalar : (z : Option Size) (n : Option ℕ) → updated_layer op (with_scalars d) (with_scalars e) at (out-Expr (cell_or v (with_scalars i) z n)) ≡ expr.Bin op (with_scalars d) (with_scalars e) at
    by_scalar (Some z) (Some n) = ap (updated_layer op (with_scalars d) (with_scalars e) at) (out-roll-Expr _)
    by_scalar None n = ap (updated_layer op (with_scalars d) (with_scalars e) at) (out-roll-Expr _)
    by_scalar (Some z) None = ap (updated_layer op (with_scalars d) (with_scalars e) at) (out-roll-Expr _)
ws_updated op d e at (Expr-F.Load a) = ap (updated_layer op (with_scalars d) (with_scalars e) at) (out-roll-Expr _) ∙ sym (ws_bin op d e at)
ws_updated op d e at (Expr-F.Neg a p) = ap (updated_layer op (with_scalars d) (with_scalars e) at) (out-roll-Expr _) ∙ sym (ws_bin op d e at)
ws_updated op d e at (Expr-F.Not a p) = ap (updated_layer op (with_scalars d) (with_scalars e) at) (out-roll-Expr _) ∙ sym (ws_bin op d e at)
ws_updated op d e at (Expr-F.Cast z s a p) = ap (updated_layer op (with_scalars d) (with_scalars e) at) (out-roll-Expr _) ∙ sym (ws_bin op d e at)
ws_updated op d e at (Expr-F.Bin p a c inner) =
    ap (updated_layer op (with_scalars d) (with_scalars e) at) (out-roll-Expr (Expr-F.Bin p (with_scalars a) (with_scalars c) inner))
    ∙ ap (λ b. if carries op p && b then expr.Bin p (expr.Bin op (with_scalars d) (with_scalars a) at) (with_scalars c) at else expr.Bin op (with_scalars d) (with_scalars e) at) (flag_so c)
    ∙ ws_picked (carries op p && is_flag c) (expr.Bin p (expr.Bin op d a at) c at) (expr.Bin op d e at) _ _
    (ap (λ k. expr.Bin p k (with_scalars c) at) (sym (ws_bin op d a at)) ∙ sym (ws_bin p (expr.Bin op d a at) c at)) (sym (ws_bin op d e at))

by_some : (u v : Value) {ns : List ℕ} (vs : Results) → ◌≡◌ {A = Evaluation Results} (went [] (Some u ∷ Some v ∷ [])) (went ns vs) → AllSome vs
by_some u v vs e = let p : (Some u ∷ Some v ∷ []) ≡ vs = cc in subst (AllSome) p tt

two_some : (op : BinOp) (at : Span) (s : Size) (x y : ℕ) (c : Bool) (ns : List ℕ) (vs : Results) → two_results op at s x y c ≡ went ns vs → AllSome vs
two_some o.OrElse at s x y c ns vs e = absurd cc
two_some o.AndThen at s x y c ns vs e = absurd cc
two_some o.Or at s x y c ns vs e = absurd cc
two_some o.Xor at s x y c ns vs e = absurd cc
two_some o.And at s x y c ns vs e = absurd cc
two_some o.Eq at s x y c ns vs e = absurd cc
two_some o.Ne at s x y c ns vs e = absurd cc
two_some o.Lt at s x y c ns vs e = absurd cc
two_some o.Le at s x y c ns vs e = absurd cc
two_some o.Gt at s x y c ns vs e = absurd cc
two_some o.Ge at s x y c ns vs e = absurd cc
two_some o.LtS at s x y c ns vs e = absurd cc
two_some o.LeS at s x y c ns vs e = absurd cc
two_some o.GtS at s x y c ns vs e = absurd cc
two_some o.GeS at s x y c ns vs e = absurd cc
two_some o.Shl at s x y c ns vs e = absurd cc
two_some o.Shr at s x y c ns vs e = absurd cc
two_some o.Sar at s x y c ns vs e = absurd cc
two_some o.Rol at s x y c ns vs e = absurd cc
two_some o.Ror at s x y c ns vs e = absurd cc
two_some o.Add at s x y c ns vs e = by_some _ _ vs e
two_some o.Sub at s x y c ns vs e = by_some _ _ vs e
two_some o.Mul at s x y c ns vs e = by_some _ _ vs e
two_some o.Div at s x y c ns vs e = absurd cc
two_some o.Rem at s x y c ns vs e = absurd cc
two_some o.DivS at s x y c ns vs e = absurd cc
two_some o.RemS at s x y c ns vs e = absurd cc

three_some : (op : BinOp) (x : Layer) (l c : Expr) (at : Span) (z : Size) (s : State) (ns : List ℕ) (vs : Results) → with_three op x l c at z s ≡ went ns vs → AllSome vs
three_some op (Expr-F.Bin p a b inner) l c at z s ns vs e = by_test (carries op p) e
  where
    by_test : (t : Bool) → (if t then and_then (word_in at z a s) (λ x. and_then (word_in at z b s) (λ y. and_then (bool_in at c s) (two_results op at z x y))) else stuck_at at Init) ≡ went ns vs → AllSome vs
    by_test false e = absurd cc
    by_test true e =
        let p = then_went (word_in at z a s) (λ x. and_then (word_in at z b s) (λ y. and_then (bool_in at c s) (two_results op at z x y))) ns vs e in
        let q = then_went (word_in at z b s) (λ y. and_then (bool_in at c s) (two_results op at z p.1 y)) p.2 vs p.4 in
        let r = then_went (bool_in at c s) (two_results op at z p.1 q.1) q.2 vs q.4 in
        two_some op at z p.1 q.1 r.1 r.2 vs r.4
three_some op (Expr-F.Num n p) l c at z s ns vs e = absurd cc
three_some op (Expr-F.Expr::Bool b p) l c at z s ns vs e = absurd cc
three_some op (Expr-F.Var v) l c at z s ns vs e = absurd cc
three_some op (Expr-F.Cell v i) l c at z s ns vs e = absurd cc
three_some op (Expr-F.Load a) l c at z s ns vs e = absurd cc
three_some op (Expr-F.Neg a p) l c at z s ns vs e = absurd cc
three_some op (Expr-F.Not a p) l c at z s ns vs e = absurd cc
three_some op (Expr-F.Cast y w a p) l c at z s ns vs e = absurd cc

two_of_some : (x : Layer) (at : Span) (z : Option Size) (s : State) (ns : List ℕ) (vs : Results) → two_of x at z s ≡ went ns vs → AllSome vs
two_of_some (Expr-F.Bin op a b inner) at (Some z) s ns vs e = by_flag (is_flag b) e
  where
    by_flag : (t : Bool) → (if t then with_three op (out-Expr a) a b inner z s else with_two op a b inner z s) ≡ went ns vs → AllSome vs
    by_flag true e = three_some op (out-Expr a) a b inner z s ns vs e
    by_flag false e =
        let p = then_went (word_in inner z a s) (λ x. and_then (word_in inner z b s) (λ y. two_results op inner z x y false)) ns vs e in
        let q = then_went (word_in inner z b s) (λ y. two_results op inner z p.1 y false) p.2 vs p.4 in
        two_some op inner z p.1 q.1 false q.2 vs q.4
two_of_some (Expr-F.Bin op a b inner) at None s ns vs e = absurd cc
two_of_some (Expr-F.Num n p) at z s ns vs e = absurd cc
two_of_some (Expr-F.Expr::Bool b p) at z s ns vs e = absurd cc
two_of_some (Expr-F.Var v) at z s ns vs e = absurd cc
two_of_some (Expr-F.Cell v i) at z s ns vs e = absurd cc
two_of_some (Expr-F.Load a) at z s ns vs e = absurd cc
two_of_some (Expr-F.Neg a p) at z s ns vs e = absurd cc
two_of_some (Expr-F.Not a p) at z s ns vs e = absurd cc
two_of_some (Expr-F.Cast y w a p) at z s ns vs e = absurd cc

module _ (sorts : Sorts) (s : State) (holds : HoldsSorts sorts s.store) where
  results_some : (to : List Lval) (e : Expr) (at : Span) (z : Option Size) (vs : Results) (ns : List ℕ) → results_of to e at z s ≡ went ns vs → AllSome vs
  results_some [] e at z vs ns q = absurd cc
  results_some (d ∷ []) e at z vs ns q =
      let p = then_went (evaluated e z s) (λ v. went [] (Some v ∷ [])) ns vs q in
      let k : (Some p.1 ∷ []) ≡ vs = (let r = p.4 in cc) in subst AllSome k tt
  results_some (d ∷ f ∷ []) e at z vs ns q = two_of_some (out-Expr e) at z s ns vs q
  results_some (d ∷ f ∷ g ∷ ds) e at z vs ns q = absurd cc

  conditioned_some : (to : List Lval) (c : Option Expr) (at : Span) (vs us : Results) (ns : List ℕ) → AllSome vs → conditioned to c at vs s ≡ went ns us → AllSome us
  conditioned_some to None at vs us ns a q = let k : vs ≡ us = cc in subst AllSome k a
  conditioned_some to (Some c) at vs us ns a q =
      let p = then_went (bool_in at c s) (λ b. and_then (old_value to at s) (λ old. went [] (chosen b vs old))) ns us q in
      let r = then_went (old_value to at s) (λ old. went [] (chosen p.1 vs old)) p.2 us p.4 in
      let k : chosen p.1 vs r.1 ≡ us = (let y = r.4 in cc) in subst AllSome k (by_choice p.1 r.1)
    where
      by_choice : (b : Bool) (old : Value) → AllSome (chosen b vs old)
      by_choice true old = a
      by_choice false old = tt

  ws_span : (d : Lval) → left_span (left_with_scalars d) ≡ left_span d
  ws_span (lval.Skip at) = refl
  ws_span (lval.Var v) = refl
  ws_span (lval.Cell v i) = by_scalar (size_at v) (cell_in v i)
    where
      by_scalar : (z : Option Size) (n : Option ℕ) → left_span (left_or v i z n) ≡ (ref_of v).span
      by_scalar (Some z) (Some n) = ap (λ (r : Ref). r.span) (scalar_is v z n)
      by_scalar None n = refl
      by_scalar (Some z) None = refl
  ws_span (lval.Store a) = ap (λ (p : MemoryAccess). p.span) (access_kept sorts s holds a).1

  ws_size : (d : Lval) → left_size (left_with_scalars d) ≡ left_size d
  ws_size (lval.Skip at) = refl
  ws_size (lval.Var v) = refl
  ws_size (lval.Cell v i) = by_scalar (size_at v) (cell_in v i) refl refl
    where
      by_scalar : (z : Option Size) (n : Option ℕ) → size_at v ≡ z → cell_in v i ≡ n → left_size (left_or v i z n) ≡ size_of (ref_of v).kind
      by_scalar (Some z) (Some n) q1 q2 = let b = below_is (ref_of v).kind n (cell_is v i n q2).1 in ap (λ (r : Ref). size_of r.kind) (scalar_is v z n) ∙ ap Some (kind_size v z b.0 b.1 q1 b.2) ∙ ap size_of (sym b.2)
      by_scalar None n q1 q2 = refl
      by_scalar (Some z) None q1 q2 = refl
  ws_size (lval.Store a) = ap (λ (p : MemoryAccess). p.size) (access_kept sorts s holds a).1

  pub ws_sizes : (ds : List Lval) → left_sizes (map left_with_scalars ds) ≡ left_sizes ds
  ws_sizes [] = refl
  ws_sizes (d ∷ ds) = let p = ws_size d in let q = ws_sizes ds in rw (p, q)

  ws_whole_last : (d : Option Lval) (op : Option BinOp) (e : Expr) → whole_of (option_map left_with_scalars d) op (with_scalars e) ≡ option_map with_scalars (whole_of d op e)
  ws_whole_last None None e = refl
  ws_whole_last (Some d) None e = refl
  ws_whole_last None (Some op) e = refl
  ws_whole_last (Some d) (Some op) e =
      ap (λ k. updated k op (with_scalars e) (left_span (left_with_scalars d))) (ws_left d) ∙ ap (updated (option_map with_scalars (as_expr d)) op (with_scalars e)) (ws_span d) ∙ by_expr (as_expr d)
    where
      by_expr : (a : Option Expr) → updated (option_map with_scalars a) op (with_scalars e) (left_span d) ≡ option_map with_scalars (updated a op e (left_span d))
      by_expr None = refl
      by_expr (Some a) = ap Some (ap (updated_layer op (with_scalars a) (with_scalars e) (left_span d)) (out_is e) ∙ ws_updated op a e (left_span d) (out-Expr e))

  ws_whole : (to : List Lval) (op : Option BinOp) (e : Expr) → whole_of (last_left (map left_with_scalars to)) op (with_scalars e) ≡ option_map with_scalars (whole_of (last_left to) op e)
  ws_whole to op e = ap (λ d. whole_of d op (with_scalars e)) (ws_last to) ∙ ws_whole_last (last_left to) op e

  length_same : (ds : List Lval) → length ds ≡ length (map left_with_scalars ds)
  length_same [] = refl
  length_same (d ∷ ds) = ap suc (length_same ds)

  old_thin : (to : List Lval) (at : Span) → IsRead sorts (whole_old to) → IsThinned (old_mask (sort_in sorts) to) (old_value to at s) (old_value (map left_with_scalars to) at s)
  old_thin [] at r = refl
  old_thin (d ∷ f ∷ ds) at r = refl
  old_thin (d ∷ []) at r =
      subst (λ k. IsThinned (mask_if (sort_in sorts) (as_expr d)) (and_then (defined at (as_expr d)) (λ e. evaluated e (left_size d) s)) (and_then (defined at k) (λ e. evaluated e (left_size (left_with_scalars d)) s))) (sym (ws_left d))
      (subst (λ z. IsThinned (mask_if (sort_in sorts) (as_expr d)) (and_then (defined at (as_expr d)) (λ e. evaluated e (left_size d) s)) (and_then (defined at (option_map with_scalars (as_expr d))) (λ e. evaluated e z s))) (sym (ws_size d)) (by_expr (as_expr d) r))
    where
      by_expr : (a : Option Expr) → IsRead sorts a → IsThinned (mask_if (sort_in sorts) a) (and_then (defined at a) (λ e. evaluated e (left_size d) s)) (and_then (defined at (option_map with_scalars a)) (λ e. evaluated e (left_size d) s))
      by_expr None r = refl
      by_expr (Some e) r =
          subst (λ g. IsThinned (mask_of (sort_in sorts) e) g (and_then (went [] (with_scalars e)) (λ e. evaluated e (left_size d) s))) (sym (none_first (evaluated e (left_size d) s)))
          (subst (IsThinned (mask_of (sort_in sorts) e) (evaluated e (left_size d) s)) (sym (none_first (evaluated (with_scalars e) (left_size d) s))) (scalars_so sorts s holds e (left_size d) r))

  conditioned_thin : (to : List Lval) (c : Option Expr) (at : Span) (vs : Results) → IsRead sorts c → IsRead sorts (whole_old to) → IsThinned (condition_mask (sort_in sorts) to c) (conditioned to c at vs s) (conditioned (map left_with_scalars to) (option_map with_scalars c) at vs s)
  conditioned_thin to None at vs r ro = (refl, refl)
  conditioned_thin to (Some c) at vs r ro =
      thin_then (mask_of (sort_in sorts) c) (old_mask (sort_in sorts) to) (bool_in at c s) (bool_in at (with_scalars c) s) (λ b. and_then (old_value to at s) (λ old. went [] (chosen b vs old))) (λ b. and_then (old_value (map left_with_scalars to) at s) (λ old. went [] (chosen b vs old))) (bool_thin sorts s holds at c r)
      (λ b. thin_plain (old_mask (sort_in sorts) to) (old_value to at s) (old_value (map left_with_scalars to) at s) (λ old. went [] (chosen b vs old)) (λ v ns k q. cc) (old_thin to at ro))

  -- an assignment whose cells are scalars: the same state, and of its numbers those that are numbers_kept; or stuck alike
  pub assigned_thin : (to : List Lval) (op : Option BinOp) (e : Expr) (c : Option Expr) (at : Span) → AreLeft sorts to → IsRead sorts (whole_of (last_left to) op e) → IsRead sorts c → IsRead sorts (whole_old to) →
      IsThinned (assign_mask (sort_in sorts) to op e c) (assigned to op e c at s) (assigned (map left_with_scalars to) op (with_scalars e) (option_map with_scalars c) at s)
  assigned_thin to op e c at l re rc ro =
      subst (λ k. IsThinned (assign_mask (sort_in sorts) to op e c) (assigned to op e c at s) (assigned_whole (map left_with_scalars to) k (option_map with_scalars c) at s)) (sym (ws_whole to op e)) (by_whole (whole_of (last_left to) op e) re)
    where
      rest : Mask
      rest = condition_mask (sort_in sorts) to c ++ lefts_mask (sort_in sorts) to

      by_whole : (k : Option Expr) → IsRead sorts k → IsThinned (mask_if (sort_in sorts) k ++ rest) (assigned_whole to k c at s) (assigned_whole (map left_with_scalars to) (option_map with_scalars k) (option_map with_scalars c) at s)
      by_whole None r = refl
      by_whole (Some w) r =
          let z = option_or (left_sizes to) (own_size w) in
          let z2 : option_or (left_sizes (map left_with_scalars to)) (own_size (with_scalars w)) ≡ z = (let p = ws_sizes to in let q = size_kept sorts s holds w in rw (p, q)) in
          subst (λ y. IsThinned (mask_of (sort_in sorts) w ++ rest) (assigned_whole to (Some w) c at s) (and_then (results_of (map left_with_scalars to) (with_scalars w) at y s) (λ vs. and_then (conditioned (map left_with_scalars to) (option_map with_scalars c) at vs s) (λ us. all_written at y (map left_with_scalars to) us s)))) (sym z2)
          (thin_if sorts (mask_of (sort_in sorts) w) rest (results_of to w at z s) (results_of (map left_with_scalars to) (with_scalars w) at z s) (λ vs. and_then (conditioned to c at vs s) (λ us. all_written at z to us s)) (λ vs. and_then (conditioned (map left_with_scalars to) (option_map with_scalars c) at vs s) (λ us. all_written at z (map left_with_scalars to) us s))
          (results_thin sorts s holds to (map left_with_scalars to) w at z (length_same to) r)
          (λ ns vs q. thin_if sorts (condition_mask (sort_in sorts) to c) (lefts_mask (sort_in sorts) to) (conditioned to c at vs s) (conditioned (map left_with_scalars to) (option_map with_scalars c) at vs s) (λ us. all_written at z to us s) (λ us. all_written at z (map left_with_scalars to) us s) (conditioned_thin to c at vs rc ro)
          (λ ms us q2. all_thin sorts at s z to us holds l (some_given to us (conditioned_some to c at vs us ms (results_some to w at z vs ns q) q2)))))
