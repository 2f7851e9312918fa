-- An expression whose cells are scalars has the same value, and of its numbers those that are left.
use Rattle.std.proofs.Common.{◌≡◌, ℕ, zero, suc, ◌+◌, ◌<◌, ◌^◌, List, [], ◌∷◌, ◌++◌, length, Option, Some, None, Bool, true, false, refl, ap, sym, ◌∙◌, subst, arith, append-nil, length-append}
use Rattle.std.specs.Prelude.{nat_lt, if◌then◌else◌, ℤ, pos, negsuc}
use Rattle.std.specs.Option.{option_or}
use Rattle.std.proofs.lemmas.Bool.{and_parts}
use Rattle.std.proofs.lemmas.Bool.Decides.{nat_tests}
use Rattle.jz_tree.specs.Span.{Span}
use Rattle.jz_tree.specs.Size.{Size}
use Rattle.jz_tree.specs.Size.TheVariants.{S64}
use Rattle.jz_tree.specs.Words.{residue}
use Rattle.jz_tree.specs.declared.expr.Expr.{Expr}
use Rattle.jz_tree.specs.declared.expr.Ty.{Ty}
use Rattle.jz_tree.specs.declared.expr.Access.{Access}
use Rattle.jz_tree.specs.declared.expr.Decl.{Decl}
use Rattle.jz_tree.specs.declared.expr.Var.{Var}
use Rattle.jz_tree.specs.declared.expr.Expr.TheOpen.{Expr-F, Ty-F, Access-F}
use Rattle.jz_tree.specs.declared.expr.Expr.TheViews.{roll-Expr, roll-Access, roll-Ty, out-Expr, out-Ty, out-Var, roll-out-Expr, roll-out-Ty, roll-out-Var, out-Access, roll-out-Access}
use Rattle.jz_tree.specs.declared.expr.Expr.TheFolds.{fold-Access, fold-Var, fold-roll-Access, fold-roll-Expr, fold-roll-Ty, fold-roll-Decl, para-roll-Expr, para-roll-Access, ind-Expr, map-Expr, map-Access, map-Var}
use Rattle.jz_meaning.specs.declared.access.Kind.{Kind}
use Rattle.jz_meaning.specs.declared.access.Kind.TheVariants as kind
use Rattle.jz_meaning.specs.declared.value.Why.TheVariants.{Bounds}
use Rattle.jz_runs.specs.Rules.{stuck, went}
use Rattle.jz_meaning.specs.Attempts.{Evaluation, stuck_at, numbers_first, and_then, defined}
use Rattle.jz_meaning.specs.States.{Value, word, integer, Store, State}
use Rattle.jz_meaning.specs.Operators.{word_of, is_settled, binary, negated, inverted, cast}
use Rattle.jz_meaning.specs.Values.{size_of, Ref, key_of, cell_key, in_cells, index_at, cell_value, MemoryAccess, accessed, load_word, load_at, variable_value, Meaning, right_wanted, left_wanted, run_binary, expr_step as meaning_step, ty_step, access_step as meaning_access, decl_step, var_step, array_kind, meaning_of, ref_of, access_of, own_size, evaluated}
use Rattle.jz_meaning.specs.Shapes.{Sort, Sorts, HoldsSorts, Shape, shape_step, shape_of, own_count}
use Rattle.jz_meaning.proofs.ShapeLemmas.{counted}
use Rattle.jz_tree.specs.declared.expr.Ty.TheVariants as ty
use Rattle.jz_tree.specs.Sizes.{bytes_of}
use Rattle.jz_tree.specs.Memory.{Memory, loaded}
use Rattle.jz_unroll.proofs.PartNumbers.{none_first, then_went}
use Rattle.jz_unroll.proofs.PartNumbers.{index_numbers, accessed_numbers, no_numbers}
use Rattle.jz_unroll.proofs.Layers.{Layer, meaning_layer, meaning_is, access_is, ref_rolled, kind_of_ty, kind_of_decl}
use Rattle.jz_arrays.specs.ScalarLaws.{IsThinned}
use Rattle.jz_arrays.specs.Cells.{sort_in, is_register, cells_of_ty, cells_of_decl, constant_layer, is_below, number_below, cell_in, scalar, cell_or, is_scalar, size_at, index_in, expr_step, access_step, with_scalars, access_with_scalars, Mask, numbers_kept, all_kept, mask_step, mask_of, access_mask}

-- ---- masks

kept_nothing : (m : Mask) → numbers_kept m [] ≡ []
kept_nothing [] = refl
kept_nothing (true ∷ m) = refl
kept_nothing (false ∷ m) = refl

pub kept_both : (m k : Mask) (ns ms : List ℕ) → length ns ≡ length m → numbers_kept (m ++ k) (ns ++ ms) ≡ numbers_kept m ns ++ numbers_kept k ms
kept_both [] k [] ms e = refl
kept_both [] k (n ∷ ns) ms e = absurd cc
kept_both (b ∷ m) k [] ms e = absurd cc
kept_both (true ∷ m) k (n ∷ ns) ms e = ap (λ l. n ∷ l) (kept_both m k ns ms (omega (arith, e)))
kept_both (false ∷ m) k (n ∷ ns) ms e = kept_both m k ns ms (omega (arith, e))

kept_all : (n : ℕ) (ns : List ℕ) → length ns ≡ n → numbers_kept (all_kept n) ns ≡ ns
kept_all zero [] e = refl
kept_all zero (x ∷ ns) e = absurd cc
kept_all (suc n) [] e = absurd cc
kept_all (suc n) (x ∷ ns) e = ap (λ l. x ∷ l) (kept_all n ns (omega (arith, e)))

length_all : (n : ℕ) → length (all_kept n) ≡ n
length_all zero = refl
length_all (suc n) = ap suc (length_all n)

pub thin_then : {A B : Type 0} (m k : Mask) (g g' : Evaluation A) (f f' : A → Evaluation B) → IsThinned m g g' → ((a : A) → IsThinned k (f a) (f' a)) → IsThinned (m ++ k) (and_then g f) (and_then g' f')
thin_then m k (stuck w) g' f f' t h = ap (λ y. and_then y f') t
thin_then {B} m k (went ns a) g' f f' t h = by_rest (f a) (f' a) refl refl (h a)
  where
    by_rest : (r r' : Evaluation B) → f a ≡ r → f' a ≡ r' → IsThinned k r r' → IsThinned (m ++ k) (numbers_first ns (f a)) (and_then g' f')
    by_rest (stuck w) r' q q' u = subst (λ y. IsThinned (m ++ k) (numbers_first ns y) (and_then g' f')) (sym q) (ap (λ y. and_then y f') t.1 ∙ ap (numbers_first (numbers_kept m ns)) (q' ∙ u))
    by_rest (went ms b) r' q q' u =
        subst (λ y. IsThinned (m ++ k) (numbers_first ns y) (and_then g' f')) (sym q)
        (omega (arith, t.0, u.0, length-append ns ms, length-append m k), ap (λ y. and_then y f') t.1 ∙ ap (numbers_first (numbers_kept m ns)) (q' ∙ u.1) ∙ ap (λ l. went l b) (sym (kept_both m k ns ms t.0)))

pub thin_plain : {A B : Type 0} (m : Mask) (g g' : Evaluation A) (f : A → Evaluation B) → ((a : A) (ns : List ℕ) (b : B) → f a ≡ went ns b → ns ≡ []) → IsThinned m g g' → IsThinned m (and_then g f) (and_then g' f)
thin_plain m (stuck w) g' f n t = ap (λ y. and_then y f) t
thin_plain {B} m (went ns a) g' f n t = by_rest (f a) refl
  where
    by_rest : (r : Evaluation B) → f a ≡ r → IsThinned m (numbers_first ns (f a)) (and_then g' f)
    by_rest (stuck w) q = subst (λ y. IsThinned m (numbers_first ns y) (and_then g' f)) (sym q) (ap (λ y. and_then y f) t.1 ∙ ap (numbers_first (numbers_kept m ns)) q)
    by_rest (went ms b) q =
        let z = n a ms b q in
        subst (λ y. IsThinned m (numbers_first ns y) (and_then g' f)) (sym q) (
          ap length (ap (λ l. ns ++ l) z ∙ append-nil ns) ∙ t.0,
          ap (λ y. and_then y f) t.1 ∙ ap (numbers_first (numbers_kept m ns)) q ∙ ap (λ l. went l b) (ap (λ l. numbers_kept m ns ++ l) z ∙ append-nil (numbers_kept m ns) ∙ ap (numbers_kept m) (sym (append-nil ns) ∙ ap (λ l. ns ++ l) (sym z))),
        )

pub thin_same : {A : Type 0} (n : ℕ) (g : Evaluation A) → ((ns : List ℕ) (a : A) → g ≡ went ns a → length ns ≡ n) → IsThinned (all_kept n) g g
thin_same n (stuck w) h = refl
thin_same n (went ns a) h = let e = h ns a refl in (e ∙ sym (length_all n), ap (λ l. went l a) (sym (kept_all n ns e)))

-- two operands, of which the right one may be left out
thin_bin : (ma mb : Mask) (own : ℕ) (ga ga' gb gb' : Evaluation Value) (bin : Value → Value → Evaluation Value) (settled : Value → Bool) → IsThinned ma ga ga' → IsThinned mb gb gb' →
    ((ns : List ℕ) (v : Value) → and_then ga (λ x. if settled x then went [] x else and_then gb (bin x)) ≡ went ns v → length ns ≡ length ma + (length mb + own)) →
    IsThinned (ma ++ (mb ++ all_kept own)) (and_then ga (λ x. if settled x then went [] x else and_then gb (bin x))) (and_then ga' (λ x. if settled x then went [] x else and_then gb' (bin x)))
thin_bin ma mb own (stuck w) ga' gb gb' bin settled ta tb total = ap (λ y. and_then y (λ x. if settled x then went [] x else and_then gb' (bin x))) ta
thin_bin ma mb own (went na va) ga' gb gb' bin settled ta tb total =
    subst (λ y. IsThinned (ma ++ (mb ++ all_kept own)) (numbers_first na (if settled va then went [] va else and_then gb (bin va))) (and_then y (λ x. if settled x then went [] x else and_then gb' (bin x)))) (sym ta.1) (by_test (settled va) refl)
  where
    M : Mask
    M = ma ++ (mb ++ all_kept own)

    len : length M ≡ length ma + (length mb + own)
    len = omega (arith, length-append ma (mb ++ all_kept own), length-append mb (all_kept own), length_all own)

    by_test : (b : Bool) → settled va ≡ b → IsThinned M (numbers_first na (if settled va then went [] va else and_then gb (bin va))) (numbers_first (numbers_kept ma na) (if settled va then went [] va else and_then gb' (bin va)))
    by_test true q =
        let whole = total (na ++ []) va (ap (λ b. numbers_first na (if b then went [] va else and_then gb (bin va))) q) in
        subst (λ b. IsThinned M (numbers_first na (if b then went [] va else and_then gb (bin va))) (numbers_first (numbers_kept ma na) (if b then went [] va else and_then gb' (bin va)))) (sym q)
        (whole ∙ sym len, ap (λ l. went l va) (ap (λ l. numbers_kept ma na ++ l) (sym (kept_nothing (mb ++ all_kept own))) ∙ sym (kept_both ma (mb ++ all_kept own) na [] ta.0)))
    by_test false q = subst (λ b. IsThinned M (numbers_first na (if b then went [] va else and_then gb (bin va))) (numbers_first (numbers_kept ma na) (if b then went [] va else and_then gb' (bin va)))) (sym q) (by_right gb refl tb)
      where
        goes : (y : Evaluation Value) → gb ≡ y → and_then (went na va) (λ x. if settled x then went [] x else and_then gb (bin x)) ≡ numbers_first na (and_then y (bin va))
        goes y e = ap (λ b. numbers_first na (if b then went [] va else and_then gb (bin va))) q ∙ ap (λ z. numbers_first na (and_then z (bin va))) e

        by_right : (y : Evaluation Value) → gb ≡ y → IsThinned mb y gb' → IsThinned M (numbers_first na (and_then gb (bin va))) (numbers_first (numbers_kept ma na) (and_then gb' (bin va)))
        by_right (stuck w) e t = subst (λ z. IsThinned M (numbers_first na (and_then z (bin va))) (numbers_first (numbers_kept ma na) (and_then gb' (bin va)))) (sym e) (ap (λ z. numbers_first (numbers_kept ma na) (and_then z (bin va))) t)
        by_right (went nb vb) e t =
            subst (λ z. IsThinned M (numbers_first na (and_then z (bin va))) (numbers_first (numbers_kept ma na) (and_then gb' (bin va)))) (sym e)
            (subst (λ z. IsThinned M (numbers_first na (numbers_first nb (bin va vb))) (numbers_first (numbers_kept ma na) (and_then z (bin va)))) (sym t.1) (by_op (bin va vb) refl))
          where
            by_op : (r : Evaluation Value) → bin va vb ≡ r → IsThinned M (numbers_first na (numbers_first nb (bin va vb))) (numbers_first (numbers_kept ma na) (numbers_first (numbers_kept mb nb) (bin va vb)))
            by_op (stuck w) o = subst (λ r. IsThinned M (numbers_first na (numbers_first nb r)) (numbers_first (numbers_kept ma na) (numbers_first (numbers_kept mb nb) r))) (sym o) refl
            by_op (went nc vc) o =
                let whole = total (na ++ (nb ++ nc)) vc (goes (went nb vb) e ∙ ap (λ r. numbers_first na (numbers_first nb r)) o) in
                let own_len : length nc ≡ own = omega (arith, whole, ta.0, t.0, length-append na (nb ++ nc), length-append nb nc) in
                subst (λ r. IsThinned M (numbers_first na (numbers_first nb r)) (numbers_first (numbers_kept ma na) (numbers_first (numbers_kept mb nb) r))) (sym o) (
                  whole ∙ sym len,
                  ap (λ l. went l vc) (ap (λ l. numbers_kept ma na ++ (numbers_kept mb nb ++ l)) (sym (kept_all own nc own_len)) ∙ ap (λ l. numbers_kept ma na ++ l) (sym (kept_both mb (all_kept own) nb nc t.0)) ∙ sym (kept_both ma (mb ++ all_kept own) na (nb ++ nc) ta.0)),
                )

-- ---- layers

abbrev pub rolled : Layer → Expr
rolled (Expr-F.Num n at) = roll-Expr (Expr-F.Num n at)
rolled (Expr-F.Expr::Bool b at) = roll-Expr (Expr-F.Expr::Bool b at)
rolled (Expr-F.Var v) = roll-Expr (Expr-F.Var v)
rolled (Expr-F.Cell v i) = cell_or v (with_scalars i) (size_at v) (cell_in v i)
rolled (Expr-F.Load a) = roll-Expr (Expr-F.Load (access_with_scalars a))
rolled (Expr-F.Neg a at) = roll-Expr (Expr-F.Neg (with_scalars a) at)
rolled (Expr-F.Not a at) = roll-Expr (Expr-F.Not (with_scalars a) at)
rolled (Expr-F.Cast z s a at) = roll-Expr (Expr-F.Cast z s (with_scalars a) at)
rolled (Expr-F.Bin o a b at) = roll-Expr (Expr-F.Bin o (with_scalars a) (with_scalars b) at)

step_is : (x : Layer) → expr_step (map-Expr _ _ _ _ _ _ _ _ _ _ (λ y. (y, with_scalars y)) (λ y. (y, tt)) (λ y. (y, access_with_scalars y)) (λ y. (y, tt)) (λ y. (y, tt)) x) ≡ rolled x
step_is (Expr-F.Num n at) = refl
step_is (Expr-F.Expr::Bool c at) = refl
step_is (Expr-F.Var v) = refl
step_is (Expr-F.Cell v e) = refl
step_is (Expr-F.Load a) = refl
step_is (Expr-F.Neg a at) = refl
step_is (Expr-F.Not a at) = refl
step_is (Expr-F.Cast z s a at) = refl
step_is (Expr-F.Bin o a c at) = refl

pub in_is : (x : Layer) → with_scalars (roll-Expr x) ≡ rolled x
in_is x = para-roll-Expr Expr (Unit {0}) Access (Unit {0}) (Unit {0}) expr_step (λ t. tt) access_step (λ d. tt) (λ v. tt) x ∙ step_is x

pub access_in_is : (x : Access-F Expr Ty Access Decl Var) → access_with_scalars (roll-Access x) ≡ roll-Access (record { size = x.size; at = with_scalars x.at; unaligned = x.unaligned; span = x.span })
access_in_is x = para-roll-Access Expr (Unit {0}) Access (Unit {0}) (Unit {0}) expr_step (λ t. tt) access_step (λ d. tt) (λ v. tt) x

-- ---- a cell that becomes a scalar

-- the kind of an array of that size
pub kind_size : (v : Var) (z z0 : Size) (n : ℕ) → size_at v ≡ Some z → (ref_of v).kind ≡ kind.Array z0 n → z ≡ z0
kind_size v z z0 n e k = by_decl (out-Var v).decl e (sym (ap (λ (r : Ref). r.kind) (sym (ap ref_of (roll-out-Var v)) ∙ ref_rolled (out-Var v))) ∙ k)
  where
    by_option : (o : Option ℤ) (s : Size) → array_kind s o ≡ kind.Array z0 n → s ≡ z0
    by_option None s q = absurd cc
    by_option (Some (pos m)) s q = cc
    by_option (Some (negsuc m)) s q = absurd cc

    by_layer : (y : Ty-F Expr Ty Access Decl Var) → cells_of_ty y ≡ Some z → kind_of_ty (roll-Ty y) ≡ kind.Array z0 n → z ≡ z0
    by_layer (Ty-F.Array s m) q r =
        let a : s ≡ z = cc in sym a ∙ by_option (meaning_of m).literal s (sym (fold-roll-Ty _ _ _ _ _ meaning_step ty_step meaning_access decl_step var_step (Ty-F.Array s m)) ∙ r)
    by_layer Ty-F.Int q r = absurd cc
    by_layer Ty-F.Ty::Bool q r = absurd cc
    by_layer (Ty-F.Word s) q r = absurd cc

    by_storage : (b : Bool) (t : Ty) → (if b then cells_of_ty (out-Ty t) else None) ≡ Some z → kind_of_ty t ≡ kind.Array z0 n → z ≡ z0
    by_storage true t q r = by_layer (out-Ty t) q (ap kind_of_ty (roll-out-Ty t) ∙ r)
    by_storage false t q r = absurd cc

    by_decl : (d : Option Decl) → cells_of_decl d ≡ Some z → (var_step (map-Var _ _ _ _ _ Meaning Kind MemoryAccess Kind Ref meaning_of kind_of_ty access_of kind_of_decl ref_of (record { name = []; copy = 0; cell = None; decl = d; span = (out-Var v).span }))).kind ≡ kind.Array z0 n → z ≡ z0
    by_decl None q r = absurd cc
    by_decl (Some d) q r = by_storage (is_register d.storage) d.ty q (sym (fold-roll-Decl _ _ _ _ _ meaning_step ty_step meaning_access decl_step var_step (record { storage = d.storage; ty = d.ty })) ∙ r)

-- the scalar where it stands
pub scalar_is : (v : Var) (z : Size) (n : ℕ) → ref_of (scalar v z n) ≡ record { name = (ref_of v).name; copy = (ref_of v).copy; cell = Some n; kind = kind.Word z; span = (ref_of v).span }
scalar_is v z n =
    ref_rolled _ ∙ ap (λ k. record { name = (out-Var v).name; copy = (out-Var v).copy; cell = Some n; kind = k; span = (out-Var v).span }) (fold-roll-Decl _ _ _ _ _ meaning_step ty_step meaning_access decl_step var_step _ ∙ word_kind)
    ∙ ap (λ (r : Ref). record { name = r.name; copy = r.copy; cell = Some n; kind = kind.Word z; span = r.span }) (sym (ref_rolled (out-Var v)) ∙ ap ref_of (roll-out-Var v))
  where
    word_kind : kind_of_ty (ty.Word z) ≡ kind.Word z
    word_kind = ap kind_of_ty (sym (ty.rolls-Word z)) ∙ fold-roll-Ty _ _ _ _ _ meaning_step ty_step meaning_access decl_step var_step (Ty-F.Word z)

-- what it means that the array has the cell
pub below_is : (k : Kind) (n : ℕ) → is_below k n ≡ true → (z : Size) × (m : ℕ) × (k ≡ kind.Array z m) × (nat_lt n m ≡ true) × (n < 2 ^ 64)
below_is kind.Undeclared n e = absurd cc
below_is kind.Int n e = absurd cc
below_is kind.Bool n e = absurd cc
below_is (kind.Word z) n e = absurd cc
below_is (kind.Array z m) n e =
    let p = and_parts (nat_lt n m) _ e in
    let few : n < 2 ^ 32 = grind (arith, nat_tests, p.1) in
    (z, m, refl, p.0, omega (arith, few))

number_is : (k : Kind) (o : Option ℕ) (n : ℕ) → number_below k o ≡ Some n → (o ≡ Some n) × (is_below k n ≡ true)
number_is k None n e = absurd cc
number_is k (Some m) n e = by_test (is_below k m) refl e
  where
    by_test : (b : Bool) → is_below k m ≡ b → (if b then Some m else None) ≡ Some n → (Some m ≡ Some n) × (is_below k n ≡ true)
    by_test true q r = let s : m ≡ n = cc in (ap Some s, ap (is_below k) (sym s) ∙ q)
    by_test false q r = absurd cc

-- a cell that becomes a scalar has a constant index, and the array has it
pub cell_is : (v : Var) (i : Expr) (n : ℕ) → cell_in v i ≡ Some n → (index_in i ≡ Some n) × (is_below (ref_of v).kind n ≡ true)
cell_is v i n e = number_is (ref_of v).kind (index_in i) n e

-- the value of the cell at a constant index
cell_at : (r : Ref) (z : Size) (m n : ℕ) (store : Store) → r.kind ≡ kind.Array z m → nat_lt n m ≡ true → n < 2 ^ 64 → cell_value r (integer (pos n)) store ≡ numbers_first (n ∷ []) (defined r.span (store (cell_key r n)))
cell_at r z m n store k lt small =
    let e : residue S64 (pos n) ≡ n = omega (arith, small) in
    ap (λ i. and_then (and_then (went [] i) (in_cells r.span r.kind)) (λ j. defined r.span (store (cell_key r j)))) e
    ∙ ap (λ c. and_then (and_then (went [] n) (in_cells r.span c)) (λ j. defined r.span (store (cell_key r j)))) k
    ∙ ap (λ b. and_then (numbers_first [] (if b then went (n ∷ []) n else stuck_at r.span Bounds)) (λ j. defined r.span (store (cell_key r j)))) lt

pub constant_index : (i : Expr) (n : ℕ) (y : Layer) → roll-Expr y ≡ i → constant_layer y ≡ Some n → (w : Option Size) (s : State) → evaluated i w s ≡ went [] (integer (pos n))
constant_index i n (Expr-F.Num (pos m) at) q e w s = let a : m ≡ n = cc in ap (λ k. evaluated k w s) (sym q) ∙ ap (λ (p : Meaning). p.run w s) (meaning_is (Expr-F.Num (pos m) at)) ∙ ap (λ j. went [] (integer (pos j))) a
constant_index i n (Expr-F.Num (negsuc m) at) q e w s = absurd cc
constant_index i n (Expr-F.Expr::Bool b at) q e w s = absurd cc
constant_index i n (Expr-F.Var v) q e w s = absurd cc
constant_index i n (Expr-F.Cell v j) q e w s = absurd cc
constant_index i n (Expr-F.Load a) q e w s = absurd cc
constant_index i n (Expr-F.Neg a at) q e w s = absurd cc
constant_index i n (Expr-F.Not a at) q e w s = absurd cc
constant_index i n (Expr-F.Cast z b a at) q e w s = absurd cc
constant_index i n (Expr-F.Bin o a b at) q e w s = absurd cc

thin_defined : (at : Span) (n : ℕ) (o : Option Value) → IsThinned (false ∷ []) (numbers_first (n ∷ []) (defined at o)) (defined at o)
thin_defined at n None = refl
thin_defined at n (Some v) = (refl, refl)

-- the cell has in the array the value of the scalar, and its index is dropped
pub scalar_thin : (v : Var) (i : Expr) (z : Size) (n : ℕ) (w : Option Size) (s : State) → size_at v ≡ Some z → index_in i ≡ Some n → is_below (ref_of v).kind n ≡ true →
    IsThinned (false ∷ []) (evaluated (roll-Expr (Expr-F.Cell v i)) w s) (evaluated (roll-Expr (Expr-F.Var (scalar v z n))) w s)
scalar_thin v i z n w s sz ix below =
    let r = ref_of v in
    let b = below_is r.kind n below in
    let left : evaluated (roll-Expr (Expr-F.Cell v i)) w s ≡ numbers_first (n ∷ []) (defined r.span (s.store (cell_key r n)))
    = ap (λ (p : Meaning). p.run w s) (meaning_is (Expr-F.Cell v i)) ∙ ap (λ g. and_then g (λ u. cell_value r u s.store)) (constant_index i n (out-Expr i) (roll-out-Expr i) ix (Some S64) s) ∙ none_first _ ∙ cell_at r b.0 b.1 n s.store b.2 b.3 b.4 in
    let right : evaluated (roll-Expr (Expr-F.Var (scalar v z n))) w s ≡ defined r.span (s.store (cell_key r n))
    = ap (λ (p : Meaning). p.run w s) (meaning_is (Expr-F.Var (scalar v z n))) ∙ ap (λ (p : Ref). defined p.span (s.store (key_of p))) (scalar_is v z n) in
    subst (λ g. IsThinned (false ∷ []) g (evaluated (roll-Expr (Expr-F.Var (scalar v z n))) w s)) (sym left) (subst (IsThinned (false ∷ []) (numbers_first (n ∷ []) (defined r.span (s.store (cell_key r n))))) (sym right) (thin_defined r.span n (s.store (cell_key r n))))

scalar_size : (v : Var) (i : Expr) (z : Size) (n : ℕ) → size_at v ≡ Some z → is_below (ref_of v).kind n ≡ true → own_size (roll-Expr (Expr-F.Var (scalar v z n))) ≡ own_size (roll-Expr (Expr-F.Cell v i))
scalar_size v i z n sz below =
    let b = below_is (ref_of v).kind n below in
    ap (λ (p : Meaning). p.size) (meaning_is (Expr-F.Var (scalar v z n))) ∙ ap (λ (p : Ref). size_of p.kind) (scalar_is v z n) ∙ ap Some (kind_size v z b.0 b.1 sz b.2) ∙ ap size_of (sym b.2) ∙ sym (ap (λ (p : Meaning). p.size) (meaning_is (Expr-F.Cell v i)))

-- ---- how many numbers

pub of_defined : {A : Type 0} (at : Span) (o : Option A) (ns : List ℕ) (a : A) → defined at o ≡ went ns a → ns ≡ []
of_defined at None ns a e = absurd cc
of_defined at (Some b) ns a e = cc

load_numbers : (p : MemoryAccess) (w : Option Size) (v : Value) (m : Memory) (ns : List ℕ) (u : Value) → load_at p w v m ≡ went ns u → length ns ≡ 1
load_numbers p w v m ns u e = no_numbers (word_of S64 v) p.span (λ a. load_word p.span p.unaligned (option_or p.size w) a m) 1 (λ a ms b q. of_size (option_or p.size w) a ms b q) ns u e
  where
    of_size : (z : Option Size) (a : ℕ) (ms : List ℕ) (b : Value) → load_word p.span p.unaligned z a m ≡ went ms b → length ms ≡ 1
    of_size None a ms b q = absurd cc
    of_size (Some z) a ms b q =
        let t = then_went (accessed p.span p.unaligned z a (loaded m a (bytes_of z))) (λ c. went [] (word z c)) ms b q in
        let c1 = accessed_numbers p.span p.unaligned z a (loaded m a (bytes_of z)) t.0 t.1 t.3 in
        let c2 : t.2 ≡ [] = (let k = t.4 in cc) in
        omega (arith, c1, ap length c2, length-append t.0 t.2, ap length t.5)

cell_numbers : (r : Ref) (v : Value) (store : Store) (ns : List ℕ) (u : Value) → cell_value r v store ≡ went ns u → length ns ≡ 1
cell_numbers r v store ns u e =
    let t = then_went (index_at r v) (λ i. defined r.span (store (cell_key r i))) ns u e in
    let a = index_numbers r v t.0 t.1 t.3 in
    let b = no_more (store (cell_key r t.1)) t.2 t.4 in
    omega (arith, a, b, length-append t.0 t.2, ap length t.5)
  where
    no_more : (o : Option Value) (ms : List ℕ) → defined r.span o ≡ went ms u → length ms ≡ 0
    no_more None ms q = absurd cc
    no_more (Some y) ms q = let k : ms ≡ [] = cc in ap length k

module _ (sort : Expr → Sort) where
  abbrev pub mask_layer : Layer → Mask
  mask_layer (Expr-F.Num n at) = []
  mask_layer (Expr-F.Expr::Bool b at) = []
  mask_layer (Expr-F.Var v) = []
  mask_layer (Expr-F.Cell v i) = if is_scalar (size_at v) (cell_in v i) then false ∷ [] else mask_of sort i ++ true ∷ []
  mask_layer (Expr-F.Load a) = access_mask sort a ++ true ∷ []
  mask_layer (Expr-F.Neg a at) = mask_of sort a
  mask_layer (Expr-F.Not a at) = mask_of sort a
  mask_layer (Expr-F.Cast z s a at) = mask_of sort a
  mask_layer (Expr-F.Bin o a b at) = mask_of sort a ++ (mask_of sort b ++ all_kept (own_count o (sort a) (sort b)))

  mask_step_is : (x : Layer) → mask_step sort (map-Expr _ _ _ _ _ _ _ _ _ _ (λ y. (y, mask_of sort y)) (λ y. (y, tt)) (λ y. (y, access_mask sort y)) (λ y. (y, tt)) (λ y. (y, tt)) x) ≡ mask_layer x
  mask_step_is (Expr-F.Num n at) = refl
  mask_step_is (Expr-F.Expr::Bool c at) = refl
  mask_step_is (Expr-F.Var v) = refl
  mask_step_is (Expr-F.Cell v e) = refl
  mask_step_is (Expr-F.Load a) = refl
  mask_step_is (Expr-F.Neg a at) = refl
  mask_step_is (Expr-F.Not a at) = refl
  mask_step_is (Expr-F.Cast z s a at) = refl
  mask_step_is (Expr-F.Bin o a c at) = refl

  pub mask_is : (x : Layer) → mask_of sort (roll-Expr x) ≡ mask_layer x
  mask_is x = para-roll-Expr Mask (Unit {0}) Mask (Unit {0}) (Unit {0}) (mask_step sort) (λ t. tt) (λ a. a.at.1) (λ d. tt) (λ v. tt) x ∙ mask_step_is x

  pub access_mask_is : (x : Access-F Expr Ty Access Decl Var) → access_mask sort (roll-Access x) ≡ mask_of sort x.at
  access_mask_is x = para-roll-Access Mask (Unit {0}) Mask (Unit {0}) (Unit {0}) (mask_step sort) (λ t. tt) (λ a. a.at.1) (λ d. tt) (λ v. tt) x

module _ (sorts : Sorts) where
  abbrev pub shape_access : Access → Shape
  shape_access = fold-Access _ _ _ _ _ shape_step (λ t. tt) (λ a. a.at) (λ d. tt) (λ v. sorts v.name v.copy)

  abbrev pub sort_of_var : Var → Sort
  sort_of_var = fold-Var _ _ _ _ _ shape_step (λ t. tt) (λ a. a.at) (λ d. tt) (λ v. sorts v.name v.copy)

  abbrev pub shape_layer : Layer → Shape
  shape_layer x = shape_step (map-Expr _ _ _ _ _ Shape (Unit {0}) Shape (Unit {0}) Sort (shape_of sorts) (λ t. tt) shape_access (λ d. tt) sort_of_var x)

  pub shape_is : (x : Layer) → shape_of sorts (roll-Expr x) ≡ shape_layer x
  shape_is x = fold-roll-Expr _ _ _ _ _ shape_step (λ t. tt) (λ a. a.at) (λ d. tt) (λ v. sorts v.name v.copy) x

  constant_shape : (i : Expr) (n : ℕ) (y : Layer) → roll-Expr y ≡ i → constant_layer y ≡ Some n → (shape_of sorts i).count ≡ 0
  constant_shape i n (Expr-F.Num (pos m) at) q e = ap (λ k. (shape_of sorts k).count) (sym q) ∙ ap (λ (h : Shape). h.count) (shape_is (Expr-F.Num (pos m) at))
  constant_shape i n (Expr-F.Num (negsuc m) at) q e = absurd cc
  constant_shape i n (Expr-F.Expr::Bool b at) q e = absurd cc
  constant_shape i n (Expr-F.Var v) q e = absurd cc
  constant_shape i n (Expr-F.Cell v j) q e = absurd cc
  constant_shape i n (Expr-F.Load a) q e = absurd cc
  constant_shape i n (Expr-F.Neg a at) q e = absurd cc
  constant_shape i n (Expr-F.Not a at) q e = absurd cc
  constant_shape i n (Expr-F.Cast z b a at) q e = absurd cc
  constant_shape i n (Expr-F.Bin o a b at) q e = absurd cc

  module _ (s : State) (holds : HoldsSorts sorts s.store) where
    abbrev Any : {A : Type 0} → A → Type 0
    Any y = Unit {0}

    abbrev ValueLaw : Expr → Type 0
    ValueLaw e = (own_size (with_scalars e) ≡ own_size e) × ((shape_of sorts e).fixed ≡ true → (w : Option Size) → IsThinned (mask_of (sort_in sorts) e) (evaluated e w s) (evaluated (with_scalars e) w s))

    abbrev ExprLaw : Expr → Type 0
    ExprLaw e = (length (mask_of (sort_in sorts) e) ≡ (shape_of sorts e).count) × ValueLaw e

    abbrev PlaceLaw : Access → Type 0
    PlaceLaw a = (at : State → Evaluation Value) × (access_of (access_with_scalars a) ≡ record { size = (access_of a).size; at = at; unaligned = (access_of a).unaligned; span = (access_of a).span }) × ((shape_access a).fixed ≡ true → IsThinned (access_mask (sort_in sorts) a) ((access_of a).at s) (at s))

    abbrev AccessLaw : Access → Type 0
    AccessLaw a = (length (access_mask (sort_in sorts) a) ≡ (shape_access a).count) × PlaceLaw a

    abbrev Known : Type 0
    Known = Expr-F ((e : Expr) × ExprLaw e) ((t : Ty) × Any t) ((a : Access) × AccessLaw a) ((d : Decl) × Any d) ((v : Var) × Any v)

    abbrev bare : Known → Layer
    bare y = map-Expr _ _ _ _ _ _ _ _ _ _ (λ e. e.0) (λ e. e.0) (λ e. e.0) (λ e. e.0) (λ e. e.0) y

    length_law : (y : Known) → length (mask_layer (sort_in sorts) (bare y)) ≡ (shape_layer (bare y)).count
    length_law (Expr-F.Num i at) = refl
    length_law (Expr-F.Expr::Bool c at) = refl
    length_law (Expr-F.Var v) = refl
    length_law (Expr-F.Cell v i) = by_scalar (size_at v.0) (cell_in v.0 i.0) refl
      where
        by_scalar : (z : Option Size) (n : Option ℕ) → cell_in v.0 i.0 ≡ n → length (if is_scalar z n then false ∷ [] else mask_of (sort_in sorts) i.0 ++ true ∷ []) ≡ (shape_of sorts i.0).count + 1
        by_scalar (Some z) (Some n) q = omega (arith, constant_shape i.0 n (out-Expr i.0) (roll-out-Expr i.0) (cell_is v.0 i.0 n q).0)
        by_scalar None n q = omega (arith, length-append (mask_of (sort_in sorts) i.0) (true ∷ []), i.1.0)
        by_scalar (Some z) None q = omega (arith, length-append (mask_of (sort_in sorts) i.0) (true ∷ []), i.1.0)
    length_law (Expr-F.Load a) = omega (arith, length-append (access_mask (sort_in sorts) a.0) (true ∷ []), a.1.0)
    length_law (Expr-F.Neg e at) = e.1.0
    length_law (Expr-F.Not e at) = e.1.0
    length_law (Expr-F.Cast z sign e at) = e.1.0
    length_law (Expr-F.Bin op a b at) =
        let own = own_count op (shape_of sorts a.0).sort (shape_of sorts b.0).sort in
        omega (arith, length-append (mask_of (sort_in sorts) a.0) (mask_of (sort_in sorts) b.0 ++ all_kept own), length-append (mask_of (sort_in sorts) b.0) (all_kept own), length_all own, a.1.0, b.1.0)

    -- the size, and the value with the numbers that are left
    Good : Layer → Expr → Type 0
    Good x e = (own_size e ≡ own_size (roll-Expr x)) × ((shape_layer x).fixed ≡ true → (w : Option Size) → IsThinned (mask_layer (sort_in sorts) x) ((meaning_layer x).run w s) (evaluated e w s))

    value_law : (y : Known) → (own_size (rolled (bare y)) ≡ (meaning_layer (bare y)).size) × ((shape_layer (bare y)).fixed ≡ true → (w : Option Size) → IsThinned (mask_layer (sort_in sorts) (bare y)) ((meaning_layer (bare y)).run w s) (evaluated (rolled (bare y)) w s))
    value_law (Expr-F.Num i at) = (ap (λ (p : Meaning). p.size) (meaning_is (Expr-F.Num i at)), λ f w. (refl, ap (λ (p : Meaning). p.run w s) (meaning_is (Expr-F.Num i at))))
    value_law (Expr-F.Expr::Bool c at) = (ap (λ (p : Meaning). p.size) (meaning_is (Expr-F.Expr::Bool c at)), λ f w. (refl, ap (λ (p : Meaning). p.run w s) (meaning_is (Expr-F.Expr::Bool c at))))
    value_law (Expr-F.Var v) = (ap (λ (p : Meaning). p.size) (meaning_is (Expr-F.Var v.0)), λ f w. subst (IsThinned [] (variable_value (ref_of v.0) s.store)) (sym (ap (λ (p : Meaning). p.run w s) (meaning_is (Expr-F.Var v.0)))) (plain (s.store (key_of (ref_of v.0)))))
      where
        plain : (o : Option Value) → IsThinned [] (defined (ref_of v.0).span o) (defined (ref_of v.0).span o)
        plain None = refl
        plain (Some u) = (refl, refl)
    value_law (Expr-F.Cell v i) = by_scalar (size_at v.0) (cell_in v.0 i.0) refl refl
      where
        by_scalar : (z : Option Size) (n : Option ℕ) → size_at v.0 ≡ z → cell_in v.0 i.0 ≡ n →
            (own_size (cell_or v.0 (with_scalars i.0) z n) ≡ (meaning_layer (Expr-F.Cell v.0 i.0)).size) × ((shape_of sorts i.0).fixed ≡ true → (w : Option Size) → IsThinned (if is_scalar z n then false ∷ [] else mask_of (sort_in sorts) i.0 ++ true ∷ []) ((meaning_layer (Expr-F.Cell v.0 i.0)).run w s) (evaluated (cell_or v.0 (with_scalars i.0) z n) w s))
        by_scalar (Some z) (Some n) q1 q2 = let r = cell_is v.0 i.0 n q2 in (scalar_size v.0 i.0 z n q1 r.1 ∙ ap (λ (p : Meaning). p.size) (meaning_is (Expr-F.Cell v.0 i.0)), λ f w. subst (λ g. IsThinned (false ∷ []) g (evaluated (roll-Expr (Expr-F.Var (scalar v.0 z n))) w s)) (ap (λ (p : Meaning). p.run w s) (meaning_is (Expr-F.Cell v.0 i.0))) (scalar_thin v.0 i.0 z n w s q1 r.0 r.1))
        by_scalar None n q1 q2 = (
          ap (λ (p : Meaning). p.size) (meaning_is (Expr-F.Cell v.0 (with_scalars i.0))),
          λ f w. subst (IsThinned (mask_of (sort_in sorts) i.0 ++ true ∷ []) ((meaning_layer (Expr-F.Cell v.0 i.0)).run w s)) (sym (ap (λ (p : Meaning). p.run w s) (meaning_is (Expr-F.Cell v.0 (with_scalars i.0)))))
              (thin_then (mask_of (sort_in sorts) i.0) (true ∷ []) (evaluated i.0 (Some S64) s) (evaluated (with_scalars i.0) (Some S64) s) (λ u. cell_value (ref_of v.0) u s.store) (λ u. cell_value (ref_of v.0) u s.store) (i.1.1.1 f (Some S64)) (λ u. thin_same 1 (cell_value (ref_of v.0) u s.store) (λ ns b e. cell_numbers (ref_of v.0) u s.store ns b e))),
        )
        by_scalar (Some z) None q1 q2 = (
          ap (λ (p : Meaning). p.size) (meaning_is (Expr-F.Cell v.0 (with_scalars i.0))),
          λ f w. subst (IsThinned (mask_of (sort_in sorts) i.0 ++ true ∷ []) ((meaning_layer (Expr-F.Cell v.0 i.0)).run w s)) (sym (ap (λ (p : Meaning). p.run w s) (meaning_is (Expr-F.Cell v.0 (with_scalars i.0)))))
              (thin_then (mask_of (sort_in sorts) i.0) (true ∷ []) (evaluated i.0 (Some S64) s) (evaluated (with_scalars i.0) (Some S64) s) (λ u. cell_value (ref_of v.0) u s.store) (λ u. cell_value (ref_of v.0) u s.store) (i.1.1.1 f (Some S64)) (λ u. thin_same 1 (cell_value (ref_of v.0) u s.store) (λ ns b e. cell_numbers (ref_of v.0) u s.store ns b e))),
        )
    value_law (Expr-F.Load a) =
        let l = a.1.1 in
        let p = access_of a.0 in (
          ap (λ (m : Meaning). m.size) (meaning_is (Expr-F.Load (access_with_scalars a.0))) ∙ ap (λ (m : MemoryAccess). m.size) l.1,
          λ f w. subst (IsThinned (access_mask (sort_in sorts) a.0 ++ true ∷ []) (and_then (p.at s) (λ v. load_at p w v s.memory)))
              (sym (ap (λ (m : Meaning). m.run w s) (meaning_is (Expr-F.Load (access_with_scalars a.0))) ∙ ap (λ (m : MemoryAccess). and_then (m.at s) (λ v. load_at m w v s.memory)) l.1))
              (thin_then (access_mask (sort_in sorts) a.0) (true ∷ []) (p.at s) (l.0 s) (λ v. load_at p w v s.memory) (λ v. load_at p w v s.memory) (l.2 f) (λ v. thin_same 1 (load_at p w v s.memory) (λ ns b e. load_numbers p w v s.memory ns b e))),
        )
    value_law (Expr-F.Neg e at) =
        let l = e.1.1 in (
          ap (λ (m : Meaning). m.size) (meaning_is (Expr-F.Neg (with_scalars e.0) at)) ∙ l.0,
          λ f w. subst (IsThinned (mask_of (sort_in sorts) e.0) (and_then (evaluated e.0 (option_or w (own_size e.0)) s) (λ v. defined at (negated v))))
              (sym (ap (λ (m : Meaning). m.run w s) (meaning_is (Expr-F.Neg (with_scalars e.0) at)) ∙ ap (λ z. and_then (evaluated (with_scalars e.0) (option_or w z) s) (λ v. defined at (negated v))) l.0))
              (thin_plain (mask_of (sort_in sorts) e.0) (evaluated e.0 (option_or w (own_size e.0)) s) (evaluated (with_scalars e.0) (option_or w (own_size e.0)) s) (λ v. defined at (negated v)) (λ v ns b q. of_defined at (negated v) ns b q) (l.1 f (option_or w (own_size e.0)))),
        )
    value_law (Expr-F.Not e at) =
        let l = e.1.1 in (
          ap (λ (m : Meaning). m.size) (meaning_is (Expr-F.Not (with_scalars e.0) at)) ∙ l.0,
          λ f w. subst (IsThinned (mask_of (sort_in sorts) e.0) (and_then (evaluated e.0 (option_or w (own_size e.0)) s) (λ v. went [] (inverted v))))
              (sym (ap (λ (m : Meaning). m.run w s) (meaning_is (Expr-F.Not (with_scalars e.0) at)) ∙ ap (λ z. and_then (evaluated (with_scalars e.0) (option_or w z) s) (λ v. went [] (inverted v))) l.0))
              (thin_plain (mask_of (sort_in sorts) e.0) (evaluated e.0 (option_or w (own_size e.0)) s) (evaluated (with_scalars e.0) (option_or w (own_size e.0)) s) (λ v. went [] (inverted v)) (λ v ns b q. cc) (l.1 f (option_or w (own_size e.0)))),
        )
    value_law (Expr-F.Cast z sign e at) =
        let l = e.1.1 in (
          ap (λ (m : Meaning). m.size) (meaning_is (Expr-F.Cast z sign (with_scalars e.0) at)),
          λ f w. subst (IsThinned (mask_of (sort_in sorts) e.0) (and_then (evaluated e.0 (own_size e.0) s) (λ v. defined at (cast z sign v))))
              (sym (ap (λ (m : Meaning). m.run w s) (meaning_is (Expr-F.Cast z sign (with_scalars e.0) at)) ∙ ap (λ y. and_then (evaluated (with_scalars e.0) y s) (λ v. defined at (cast z sign v))) l.0))
              (thin_plain (mask_of (sort_in sorts) e.0) (evaluated e.0 (own_size e.0) s) (evaluated (with_scalars e.0) (own_size e.0) s) (λ v. defined at (cast z sign v)) (λ v ns b q. of_defined at (cast z sign v) ns b q) (l.1 f (own_size e.0))),
        )
    value_law (Expr-F.Bin op a b at) =
        let l = a.1.1 in let r = b.1.1 in
        let own = own_count op (shape_of sorts a.0).sort (shape_of sorts b.0).sort in (
          ap (λ (m : Meaning). m.size) (meaning_is (Expr-F.Bin op (with_scalars a.0) (with_scalars b.0) at)) ∙ (let p = l.0 in let q = r.0 in rw (p, q)),
          λ f w. let z = left_wanted op w (own_size a.0) (own_size b.0) in
              let fa = and_parts (shape_of sorts a.0).fixed _ f in let fb = and_parts (shape_of sorts b.0).fixed _ fa.1 in
              subst (IsThinned (mask_of (sort_in sorts) a.0 ++ (mask_of (sort_in sorts) b.0 ++ all_kept own)) (run_binary op (evaluated a.0) (evaluated b.0) at z s))
              (sym (ap (λ (m : Meaning). m.run w s) (meaning_is (Expr-F.Bin op (with_scalars a.0) (with_scalars b.0) at))
              ∙ ap (λ p. run_binary op (evaluated (with_scalars a.0)) (evaluated (with_scalars b.0)) at (left_wanted op w p (own_size (with_scalars b.0))) s) l.0
              ∙ ap (λ p. run_binary op (evaluated (with_scalars a.0)) (evaluated (with_scalars b.0)) at (left_wanted op w (own_size a.0) p) s) r.0))
              (thin_bin (mask_of (sort_in sorts) a.0) (mask_of (sort_in sorts) b.0) own (evaluated a.0 z s) (evaluated (with_scalars a.0) z s) (evaluated b.0 (right_wanted op z) s) (evaluated (with_scalars b.0) (right_wanted op z) s) (binary op at z) (is_settled op) (l.1 fa.0 z) (r.1 fb.0 (right_wanted op z))
              (λ ns v e. let total = counted sorts (roll-Expr (Expr-F.Bin op a.0 b.0 at)) w s ns v holds (ap (λ (h : Shape). h.fixed) (shape_is (Expr-F.Bin op a.0 b.0 at)) ∙ f) (ap (λ (m : Meaning). m.run w s) (meaning_is (Expr-F.Bin op a.0 b.0 at)) ∙ e) in
              let count = ap (λ (h : Shape). h.count) (shape_is (Expr-F.Bin op a.0 b.0 at)) in omega (arith, total, count, a.1.0, b.1.0))),
        )

    expr_case : (y : Known) → ExprLaw (roll-Expr (bare y))
    expr_case y =
        let x = bare y in (
          ap length (mask_is (sort_in sorts) x) ∙ length_law y ∙ ap (λ (h : Shape). h.count) (sym (shape_is x)),
          let v = value_law y in (
            ap own_size (in_is x) ∙ v.0 ∙ ap (λ (m : Meaning). m.size) (sym (meaning_is x)),
            λ f w. subst (λ m. IsThinned m (evaluated (roll-Expr x) w s) (evaluated (with_scalars (roll-Expr x)) w s)) (sym (mask_is (sort_in sorts) x))
                (subst (λ g. IsThinned (mask_layer (sort_in sorts) x) g (evaluated (with_scalars (roll-Expr x)) w s)) (sym (ap (λ (m : Meaning). m.run w s) (meaning_is x)))
                (subst (λ e. IsThinned (mask_layer (sort_in sorts) x) ((meaning_layer x).run w s) (evaluated e w s)) (sym (in_is x)) (v.1 (sym (ap (λ (h : Shape). h.fixed) (shape_is x)) ∙ f) w))),
          ),
        )

    access_case : (y : Access-F ((e : Expr) × ExprLaw e) ((t : Ty) × Any t) ((a : Access) × AccessLaw a) ((d : Decl) × Any d) ((v : Var) × Any v)) → AccessLaw (roll-Access (map-Access _ _ _ _ _ _ _ _ _ _ (λ e. e.0) (λ e. e.0) (λ e. e.0) (λ e. e.0) (λ e. e.0) y))
    access_case y =
        let x = map-Access _ _ _ _ _ Expr Ty Access Decl Var (λ e. e.0) (λ e. e.0) (λ e. e.0) (λ e. e.0) (λ e. e.0) y in
        let sh = fold-roll-Access _ _ _ _ _ shape_step (λ t. tt) (λ a. a.at) (λ d. tt) (λ v. sorts v.name v.copy) x in
        let n = access_is x in
        let m = ap access_of (access_in_is x) ∙ access_is (record { size = x.size; at = with_scalars x.at; unaligned = x.unaligned; span = x.span }) in (
          ap length (access_mask_is (sort_in sorts) x) ∙ y.at.1.0 ∙ ap (λ (h : Shape). h.count) (sym sh),
          let l = y.at.1.1 in (
            evaluated (with_scalars y.at.0) (Some S64),
            m ∙ ap (λ (p : MemoryAccess). record { size = p.size; at = evaluated (with_scalars y.at.0) (Some S64); unaligned = p.unaligned; span = p.span }) (sym n),
            λ f. subst (λ k. IsThinned k ((access_of (roll-Access x)).at s) (evaluated (with_scalars y.at.0) (Some S64) s)) (sym (access_mask_is (sort_in sorts) x))
                (subst (λ g. IsThinned (mask_of (sort_in sorts) y.at.0) g (evaluated (with_scalars y.at.0) (Some S64) s)) (sym (ap (λ (p : MemoryAccess). p.at s) n)) (l.1 (sym (ap (λ (h : Shape). h.fixed) sh) ∙ f) (Some S64))),
          ),
        )

    laws : (e : Expr) → ExprLaw e
    laws =
        ind-Expr ExprLaw Any AccessLaw Any Any
        (λ z y is. subst (λ k. ExprLaw (roll-Expr k)) is (expr_case y))
        (λ z y is. tt)
        (λ z y is. subst (λ k. AccessLaw (roll-Access k)) is (access_case y))
        (λ z y is. tt)
        (λ z y is. tt)

    -- an expression of which it is fixed how many numbers it leaks
    pub scalars_so : (e : Expr) (w : Option Size) → (shape_of sorts e).fixed ≡ true → IsThinned (mask_of (sort_in sorts) e) (evaluated e w s) (evaluated (with_scalars e) w s)
    scalars_so e w fixed = (laws e).1.1 fixed w

module _ (sorts : Sorts) (s : State) (holds : HoldsSorts sorts s.store) where
  pub size_kept : (e : Expr) → own_size (with_scalars e) ≡ own_size e
  size_kept e = (laws sorts s holds e).1.0

  -- an address
  pub access_kept : (a : Access) → (at : State → Evaluation Value) × (access_of (access_with_scalars a) ≡ record { size = (access_of a).size; at = at; unaligned = (access_of a).unaligned; span = (access_of a).span }) × ((shape_access sorts a).fixed ≡ true → IsThinned (access_mask (sort_in sorts) a) ((access_of a).at s) (at s))
  access_kept a = subst (λ b. (at : State → Evaluation Value) × (access_of (access_with_scalars b) ≡ record { size = (access_of b).size; at = at; unaligned = (access_of b).unaligned; span = (access_of b).span }) × ((shape_access sorts b).fixed ≡ true → IsThinned (access_mask (sort_in sorts) b) ((access_of b).at s) (at s))) (roll-out-Access a) rolled_access
    where
      x : Access-F Expr Ty Access Decl Var
      x = out-Access a

      rolled_access : (at : State → Evaluation Value) × (access_of (access_with_scalars (roll-Access x)) ≡ record { size = (access_of (roll-Access x)).size; at = at; unaligned = (access_of (roll-Access x)).unaligned; span = (access_of (roll-Access x)).span }) × ((shape_access sorts (roll-Access x)).fixed ≡ true → IsThinned (access_mask (sort_in sorts) (roll-Access x)) ((access_of (roll-Access x)).at s) (at s))
      rolled_access =
          let sh = fold-roll-Access _ _ _ _ _ shape_step (λ t. tt) (λ a. a.at) (λ d. tt) (λ v. sorts v.name v.copy) x in
          let n = access_is x in
          let m = ap access_of (access_in_is x) ∙ access_is (record { size = x.size; at = with_scalars x.at; unaligned = x.unaligned; span = x.span }) in (
            evaluated (with_scalars x.at) (Some S64),
            m ∙ ap (λ (p : MemoryAccess). record { size = p.size; at = evaluated (with_scalars x.at) (Some S64); unaligned = p.unaligned; span = p.span }) (sym n),
            λ f. subst (λ k. IsThinned k ((access_of (roll-Access x)).at s) (evaluated (with_scalars x.at) (Some S64) s)) (sym (access_mask_is (sort_in sorts) x))
                (subst (λ g. IsThinned (mask_of (sort_in sorts) x.at) g (evaluated (with_scalars x.at) (Some S64) s)) (sym (ap (λ (p : MemoryAccess). p.at s) n)) (scalars_so sorts s holds x.at (Some S64) (sym (ap (λ (h : Shape). h.fixed) sh) ∙ f))),
          )
