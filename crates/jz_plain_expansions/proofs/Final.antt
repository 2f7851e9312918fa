-- With words in place of cells of register arrays, what is clear is plain, where no cell is out of range.
use Rattle.std.proofs.Common.{◌≡◌, ℕ, ℤ, pos, negsuc, ◌<◌, ◌≤◌, List, [], ◌∷◌, ◌++◌, Option, Some, None, Bool, true, false, not, ◌&&◌, ◌||◌, refl, sym, ap, ◌∙◌, subst, inl, inr, arith, if◌then◌else◌}
use Rattle.std.proofs.lemmas.Int.{ints}
use Rattle.std.specs.Prelude.{◌^◌, nat_lt, int_le, int_lt, option_map}
use Rattle.std.proofs.lemmas.Bool.{and_parts, and_from, false≢true}
use Rattle.std.proofs.lemmas.Bool.Decides.{nat_tests}
use Rattle.jz_tree.specs.Size.{Size}
use Rattle.jz_tree.specs.Span.{Span}
use Rattle.jz_tree.specs.declared.expr.Storage.{Storage}
use Rattle.jz_tree.specs.declared.expr.Storage.TheVariants as storage
use Rattle.jz_tree.specs.declared.expr.BinOp.{BinOp}
use Rattle.jz_tree.specs.declared.expr.Expr.{Expr}
use Rattle.jz_tree.specs.declared.expr.Expr.TheVariants as expr
use Rattle.jz_tree.specs.declared.expr.Ty.{Ty}
use Rattle.jz_tree.specs.declared.expr.Access.{Access}
use Rattle.jz_tree.specs.declared.expr.Decl.{Decl}
use Rattle.jz_tree.specs.declared.expr.Var.{Var}
use Rattle.jz_tree.specs.declared.expr.Expr.TheOpen.{Expr-F, Ty-F, Access-F}
use Rattle.jz_tree.specs.declared.expr.Expr.TheViews.{out-Expr, out-Access, out-Var, out-Ty, roll-Expr, out-roll-Expr, out-roll-Access, roll-out-Access}
use Rattle.jz_tree.specs.declared.expr.Expr.TheFolds.{fold-roll-Expr}
use Rattle.jz_tree.specs.declared.stmt.Lval.{Lval}
use Rattle.jz_tree.specs.declared.stmt.Lval.TheVariants as lval
use Rattle.jz_type_names.specs.declared.kinds.Kind as scoped
use Rattle.jz_type_names.specs.declared.kinds.Kind.TheVariants as scope
use Rattle.jz_type_names.specs.Kinds.{Known, kind_step, kind_of, declared_of, known_of, same_storage, is_array_kind, is_array, is_register_array, is_inline_int, is_inline, inline_int, written_length}
use Rattle.jz_integers.specs.declared.constant.Constant.TheVariants as constant
use Rattle.jz_integers.specs.Integers.{value_step, inline_value}
use Rattle.jz_meaning.specs.declared.access.Kind.{Kind}
use Rattle.jz_meaning.specs.declared.access.Kind.TheVariants as kind
use Rattle.jz_meaning.specs.States.{Key}
use Rattle.jz_meaning.specs.Values.{ref_of, array_kind}
use Rattle.jz_judgement.specs.HasType.{Layer}
use Rattle.jz_run_laws.specs.Kinds.{Kinds}
use Rattle.jz_bodies.proofs.Refs.{kind_from, decl_kind}
use Rattle.jz_unroll.proofs.InlineParts.{inline_layer, inline_out}
use Rattle.jz_arrays.specs.Cells.{is_register, cells_of_ty, cells_of_decl, size_at, constant_layer, is_below, number_below, cell_in, scalar, cell_or, with_scalars, access_with_scalars, left_or, left_with_scalars}
use Rattle.jz_arrays.proofs.Reading.{rolled, in_is, access_in_is, cell_is}
use Rattle.jz_kept_types.proofs.Scaling.{out_is}
use Rattle.jz_limits.specs.declared.limit.Limit.{Limit}
use Rattle.jz_limits.specs.declared.limit.Limit.TheVariants.{IndexRange}
use Rattle.jz_limits.specs.Values.{no_numbers}
use Rattle.jz_limits.specs.Asked.{unless, within_cells, cell_range}
use Rattle.jz_limits.specs.Asked as limits
use Rattle.jz_plain_operands.specs.Plain.{IsPlain, a_word, a_slot, a_flag, an_array, IsPlainExpr, expression, IsPlainLayer, a_number, a_truth, a_variable, a_cell, a_load, a_minus, a_denial, a_cast, of_two, IsPlainLeft, to_nothing, to_variable, to_cell, to_memory}
use Rattle.jz_copied_variables.specs.Variables.{IsSeen}
use Rattle.jz_copied_variables.proofs.Seen.{kind_is}
use Rattle.jz_plain_expansions.proofs.Clear.{IsWritten, IsClear, clear, IsClearLayer, c_number, c_truth, c_variable, c_cell, c_load, c_minus, c_denial, c_cast, c_two, LeftClear, both_same, test}
use Rattle.jz_plain_expansions.proofs.Variables.{K, plain_seen, cell_seen}
use Rattle.jz_plain_expansions.proofs.Ranges.{ranges, range_layer, ranges_out, left_ranges}

-- ---- lists
pub first_none : {A : Type 0} (xs ys : List A) → xs ++ ys ≡ [] → xs ≡ []
first_none [] ys h = refl
first_none (x ∷ xs) ys h = absurd cc

pub later_none : {A : Type 0} (xs ys : List A) → xs ++ ys ≡ [] → ys ≡ []
later_none [] ys h = h
later_none (x ∷ xs) ys h = absurd cc

unless_none : (b : Bool) (l : Limit) → unless b l ≡ [] → b ≡ true
unless_none true l h = refl
unless_none false l h = absurd cc

-- ---- declarations
and_false : (a : Bool) → (a && false) ≡ false
and_false true = refl
and_false false = refl

no_register : (k : Known) → is_array k ≡ false → is_register_array k ≡ false
no_register None e = refl
no_register (Some d) e = ap (λ b. same_storage d.storage storage.Reg && b) e ∙ and_false (same_storage d.storage storage.Reg)

array_not_inline : (s : Storage) (k : scoped.Kind) → is_array_kind k ≡ true → inline_int s k ≡ false
array_not_inline storage.Reg k e = refl
array_not_inline storage.Stack k e = refl
array_not_inline storage.Inline (scope.Array z) e = refl
array_not_inline storage.Inline scope.Int e = absurd (false≢true e)
array_not_inline storage.Inline scope.Truth e = absurd (false≢true e)
array_not_inline storage.Inline (scope.Word z) e = absurd (false≢true e)

no_inline : (k : Known) → is_array k ≡ true → is_inline_int k ≡ false
no_inline None e = absurd (false≢true e)
no_inline (Some d) e = array_not_inline d.storage d.kind e

plain_not_inline : (kinds : Kinds) (frame : Key → Bool) (v : Var) → IsPlain kinds frame v → is_inline_int (known_of v) ≡ false
plain_not_inline kinds frame v (a_word z d k s) = ap is_inline_int d
plain_not_inline kinds frame v (a_slot z d k s) = ap is_inline_int d
plain_not_inline kinds frame v (a_flag d k s) = ap is_inline_int d
plain_not_inline kinds frame v (an_array z n d a) = ap is_inline_int d

-- an array in registers has a size
register_ty : (t : Ty-F Expr Ty Access Decl Var) → is_array_kind (kind_step t) ≡ true → (z : Size) × (cells_of_ty t ≡ Some z)
register_ty (Ty-F.Array z n) e = (z, refl)
register_ty Ty-F.Int e = absurd (false≢true e)
register_ty Ty-F.Ty::Bool e = absurd (false≢true e)
register_ty (Ty-F.Word z) e = absurd (false≢true e)

register_decl : (s : Storage) (t : Ty-F Expr Ty Access Decl Var) → (same_storage s storage.Reg && is_array_kind (kind_step t)) ≡ true → (z : Size) × ((if is_register s then cells_of_ty t else None) ≡ Some z)
register_decl storage.Reg t e = register_ty t e
register_decl storage.Stack t e = absurd (false≢true e)
register_decl storage.Inline t e = absurd (false≢true e)

register_size : (v : Var) (o : Option Decl) → (out-Var v).decl ≡ o → is_register_array (option_map declared_of o) ≡ true → (z : Size) × (cells_of_decl o ≡ Some z)
register_size v None i e = absurd (false≢true e)
register_size v (Some d) i e = register_decl d.storage (out-Ty d.ty) e

none_some : {A : Type 0} (x : A) → None ≡ Some x → ⊥
none_some x e = cc

-- what has no size is none
no_size : (v : Var) → size_at v ≡ None → is_register_array (known_of v) ≡ false
no_size v e = elim (test (is_register_array (known_of v))) [ inl t ↦ absurd (clash (register_size v (out-Var v).decl refl t)) | inr f ↦ f ]
  where
    clash : (z : Size) × (cells_of_decl (out-Var v).decl ≡ Some z) → ⊥
    clash s = none_some s.0 (sym e ∙ s.1)

-- what has one is one
size_ty : (t : Ty-F Expr Ty Access Decl Var) (z : Size) → cells_of_ty t ≡ Some z → is_array_kind (kind_step t) ≡ true
size_ty (Ty-F.Array y n) z e = refl
size_ty Ty-F.Int z e = absurd cc
size_ty Ty-F.Ty::Bool z e = absurd cc
size_ty (Ty-F.Word y) z e = absurd cc

size_decl : (s : Storage) (t : Ty-F Expr Ty Access Decl Var) (z : Size) → (if is_register s then cells_of_ty t else None) ≡ Some z → (same_storage s storage.Reg && is_array_kind (kind_step t)) ≡ true
size_decl storage.Reg t z e = size_ty t z e
size_decl storage.Stack t z e = absurd cc
size_decl storage.Inline t z e = absurd cc

has_size : (o : Option Decl) (z : Size) → cells_of_decl o ≡ Some z → is_register_array (option_map declared_of o) ≡ true
has_size None z e = absurd cc
has_size (Some d) z e = size_decl d.storage (out-Ty d.ty) z e

-- ---- numbers
out_number : (i : ℤ) (at : Span) → out-Expr (expr.Num i at) ≡ Expr-F.Num i at
out_number i at = ap out-Expr (sym (expr.rolls-Num i at)) ∙ out-roll-Expr (Expr-F.Num i at)

number_value : (i : ℤ) (at : Span) → inline_value no_numbers (expr.Num i at) ≡ Some (constant.Int i)
number_value i at =
    ap (inline_value no_numbers) (sym (expr.rolls-Num i at))
    ∙ fold-roll-Expr _ _ _ _ _ value_step (λ t. tt) (λ a. tt) (λ d. tt) (λ v. None) (Expr-F.Num i at)

scaled_number : (i : ℤ) (at : Span) → with_scalars (expr.Num i at) ≡ expr.Num i at
scaled_number i at = ap with_scalars (sym (expr.rolls-Num i at)) ∙ (in_is (Expr-F.Num i at) ∙ expr.rolls-Num i at)

few : (n c : ℕ) → n < c → c ≤ 65536 → nat_lt n (2 ^ 32) ≡ true
few n c l m = grind (arith, nat_tests, l, m)

lower : (n c : ℕ) → int_lt (pos n) (pos c) ≡ true → n < c
lower n c h = grind (arith, ints)

lower_test : (n c : ℕ) → n < c → nat_lt n c ≡ true
lower_test n c h = grind (arith, nat_tests)

below_by : (z : Size) (c : ℕ) (i : ℤ) → c ≤ 65536 → limits.is_below i (kind.Array z c) ≡ true → (n : ℕ) × (i ≡ pos n) × (is_below (kind.Array z c) n ≡ true)
below_by z c (pos n) m h =
    let l = lower n c (and_parts (int_le (pos 0) (pos n)) (int_lt (pos n) (pos c)) h).1 in
    (n, refl, and_from (nat_lt n c) (nat_lt n (2 ^ 32)) (lower_test n c l) (few n c l m))
below_by z c (negsuc n) m h = absurd (false≢true (and_parts (int_le (pos 0) (negsuc n)) (int_lt (negsuc n) (pos c)) h).0)

either_true : (r w : Bool) → (not r || w) ≡ true → r ≡ true → w ≡ true
either_true true w h t = h
either_true false w h t = absurd (false≢true t)

-- ---- expressions
module _ (kinds : Kinds) (frame : Key → Bool) (store : Key → Known) where
  abbrev P : Var → Type 0
  P v = IsSeen kinds frame store v

  -- an array in registers with a number before it that is in range
  module _ (v : Var) (h : P v) where
    array_kind_is : (z : Size) → kind_of h.decl.ty ≡ scope.Array z → (c : ℕ) × ((ref_of v).kind ≡ kind.Array z c) × (c ≤ 65536)
    array_kind_is z q =
        let l = h.counted z q in
        (l.count, kind_is kinds frame v h ∙ (decl_kind h.decl ∙ (ap (λ k. kind_from k (written_length h.decl)) q ∙ ap (array_kind z) l.written)), l.most)

    of_array : (k : scoped.Kind) → kind_of h.decl.ty ≡ k → is_array_kind k ≡ true → (z : Size) × (c : ℕ) × ((ref_of v).kind ≡ kind.Array z c) × (c ≤ 65536)
    of_array (scope.Array z) q e = let a = array_kind_is z q in (z, a.0, a.1, a.2)
    of_array scope.Int q e = absurd (false≢true e)
    of_array scope.Truth q e = absurd (false≢true e)
    of_array (scope.Word z) q e = absurd (false≢true e)

    in_range : (k : Kind) (z : Size) (c : ℕ) (i : ℤ) → k ≡ kind.Array z c → c ≤ 65536 → within_cells (Some i) k ≡ true → (n : ℕ) × (i ≡ pos n) × (is_below k n ≡ true)
    in_range k z c i e m w =
        let b = below_by z c i m (sym (ap (λ x. within_cells (Some i) x) e) ∙ w) in
        (b.0, b.1, ap (λ x. is_below x b.0) e ∙ b.2)

    cell_there : (n : ℕ) (at : Span) → is_below (ref_of v).kind n ≡ true → cell_in v (expr.Num (pos n) at) ≡ Some n
    cell_there n at b = ap (λ l. number_below (ref_of v).kind (constant_layer l)) (out_number (pos n) at) ∙ ap (λ x. if x then Some n else None) b

    -- so it becomes a word
    no_cell_left : (i : Expr) → is_array (known_of v) ≡ true → is_register_array (known_of v) ≡ true → IsWritten i → cell_in v i ≡ None → cell_range v (inline_value no_numbers (with_scalars i)) ≡ [] → ⊥
    no_cell_left i y r w none q =
        let value : inline_value no_numbers (with_scalars i) ≡ Some (constant.Int w.0) = ap (λ x. inline_value no_numbers (with_scalars x)) w.2 ∙ (ap (inline_value no_numbers) (scaled_number w.0 w.1) ∙ number_value w.0 w.1) in
        let fine = unless_none (not (is_register_array (known_of v)) || within_cells (Some w.0) (ref_of v).kind) (IndexRange (out-Var v).span) (sym (ap (cell_range v) value) ∙ q) in
        let a = of_array (kind_of h.decl.ty) refl (sym (ap is_array (ap (option_map declared_of) h.is)) ∙ y) in
        let b = in_range (ref_of v).kind a.0 a.1 w.0 a.2 a.3 (either_true (is_register_array (known_of v)) (within_cells (Some w.0) (ref_of v).kind) fine r) in
        let there : cell_in v i ≡ Some b.0 = ap (cell_in v) (w.2 ∙ ap (λ j. expr.Num j w.1) b.1) ∙ cell_there b.0 w.1 b.2 in
        none_some b.0 (sym none ∙ there)

  -- ---- layers
  pub record Plained (e : Expr) : Type 0 where
    pub is : IsPlainExpr (K kinds frame) frame (with_scalars e)
    pub same : is_inline (with_scalars e) ≡ is_inline e

  abbrev At : Layer → Layer → Type 0
  At z x = IsPlainLayer (K kinds frame) frame z × (inline_layer z ≡ inline_layer x)

  of_rolled : (x y : Layer) → range_layer (out-Expr (roll-Expr y)) ≡ [] → (range_layer y ≡ [] → At y x) → At (out-Expr (roll-Expr y)) x
  of_rolled x y h f = subst (λ z. At z x) (sym (out-roll-Expr y)) (f (sym (ap range_layer (out-roll-Expr y)) ∙ h))

  access_at : (a : Access) → (out-Access (access_with_scalars a)).at ≡ with_scalars (out-Access a).at
  access_at a =
      ap (λ x. (out-Access (access_with_scalars x)).at) (sym (roll-out-Access a)) ∙ ap (λ x. (out-Access x).at) (access_in_is (out-Access a))
      ∙ ap (λ (y : Access-F Expr Ty Access Decl Var). y.at) (out-roll-Access (record { size = (out-Access a).size; at = with_scalars (out-Access a).at; unaligned = (out-Access a).unaligned; span = (out-Access a).span }))

  -- a cell that stays one is of an array of the frame
  stays : (v : Var) (i : Expr) → P v → is_array (known_of v) ≡ true → is_register_array (known_of v) ≡ false → (ranges (with_scalars i) ≡ [] → Plained i)
      → range_layer (out-Expr (roll-Expr (Expr-F.Cell v (with_scalars i)))) ≡ [] → At (out-Expr (roll-Expr (Expr-F.Cell v (with_scalars i)))) (Expr-F.Cell v i)
  stays v i p y r f q =
      of_rolled (Expr-F.Cell v i) (Expr-F.Cell v (with_scalars i)) q (λ w.
      (a_cell (plain_seen kinds frame v p r (no_inline (known_of v) y)) (f (later_none (cell_range v (inline_value no_numbers (with_scalars i))) (ranges (with_scalars i)) w)).is, refl))

  cell_by : (v : Var) (i : Expr) → P v → is_array (known_of v) ≡ true → (is_register_array (known_of v) ≡ true → IsWritten i) → (ranges (with_scalars i) ≡ [] → Plained i)
      → (z : Option Size) → size_at v ≡ z → (n : Option ℕ) → cell_in v i ≡ n → range_layer (out-Expr (cell_or v (with_scalars i) z n)) ≡ [] → At (out-Expr (cell_or v (with_scalars i) z n)) (Expr-F.Cell v i)
  cell_by v i p y r f (Some z) e (Some n) g q =
      let s = cell_seen kinds frame v p z n e (cell_is v i n g).1 in
      of_rolled (Expr-F.Cell v i) (Expr-F.Var (scalar v z n)) q (λ w. (a_variable s, plain_not_inline (K kinds frame) frame (scalar v z n) s))
  cell_by v i p y r f (Some z) e None g q =
      let t = has_size (out-Var v).decl z e in
      let w : cell_range v (inline_value no_numbers (with_scalars i)) ≡ [] =
      first_none (cell_range v (inline_value no_numbers (with_scalars i))) (ranges (with_scalars i)) (sym (ap range_layer (out-roll-Expr (Expr-F.Cell v (with_scalars i)))) ∙ q) in
      absurd (no_cell_left v p i y t (r t) g w)
  cell_by v i p y r f None e (Some n) g q = stays v i p y (no_size v e) f q
  cell_by v i p y r f None e None g q = stays v i p y (no_size v e) f q

  plained : (e : Expr) → At (out-Expr (rolled (out-Expr e))) (out-Expr e) → Plained e
  plained e h = record {
    is = expression (subst (IsPlainLayer (K kinds frame) frame) (sym (out_is e)) h.0);
    same = inline_out (with_scalars e) ∙ (ap inline_layer (out_is e) ∙ (h.1 ∙ sym (inline_out e)));
  }

  two_plain : (o : BinOp) (a b : Expr) (at : Span) → (is_inline a && is_inline b) ≡ false → Plained a → Plained b → At (Expr-F.Bin o (with_scalars a) (with_scalars b) at) (Expr-F.Bin o a b at)
  two_plain o a b at n h l =
      let m = both_same (is_inline a) (is_inline b) (is_inline (with_scalars a)) (is_inline (with_scalars b)) h.same l.same n in
      (of_two m h.is l.is, m ∙ sym n)

  mutual
    pub plain_of : {e : Expr} → IsClear P e → ranges (with_scalars e) ≡ [] → Plained e
    plain_of {e = e} (clear h) q = plained e (layer_plain h (sym (ranges_out (with_scalars e) ∙ ap range_layer (out_is e)) ∙ q))

    layer_plain : {x : Layer} → IsClearLayer P x → range_layer (out-Expr (rolled x)) ≡ [] → At (out-Expr (rolled x)) x
    layer_plain (c_number {i = i} {at = at}) q = of_rolled (Expr-F.Num i at) (Expr-F.Num i at) q (λ w. (a_number, refl))
    layer_plain (c_truth {b = b} {at = at}) q = of_rolled (Expr-F.Expr::Bool b at) (Expr-F.Expr::Bool b at) q (λ w. (a_truth, refl))
    layer_plain (c_variable {v = v} p n i) q =
        of_rolled (Expr-F.Var v) (Expr-F.Var v) q (λ w. (a_variable (plain_seen kinds frame v p (no_register (known_of v) n) i), refl))
    layer_plain (c_cell {v = v} {i = i} p y r h) q = cell_by v i p y r (λ w. plain_of h w) (size_at v) refl (cell_in v i) refl q
    layer_plain (c_load {a = a} h) q =
        of_rolled (Expr-F.Load a) (Expr-F.Load (access_with_scalars a)) q (λ w.
        (a_load (subst (IsPlainExpr (K kinds frame) frame) (sym (access_at a)) (plain_of h (sym (ap ranges (access_at a)) ∙ w)).is), refl))
    layer_plain (c_minus {a = a} {at = at} n h) q =
        of_rolled (Expr-F.Neg a at) (Expr-F.Neg (with_scalars a) at) q (λ w. (a_minus ((plain_of h w).same ∙ n) (plain_of h w).is, (plain_of h w).same))
    layer_plain (c_denial {a = a} {at = at} n h) q =
        of_rolled (Expr-F.Not a at) (Expr-F.Not (with_scalars a) at) q (λ w. (a_denial ((plain_of h w).same ∙ n) (plain_of h w).is, (plain_of h w).same))
    layer_plain (c_cast {z = z} {s = s} {a = a} {at = at} h) q =
        of_rolled (Expr-F.Cast z s a at) (Expr-F.Cast z s (with_scalars a) at) q (λ w. (a_cast (plain_of h w).is, refl))
    layer_plain (c_two {o = o} {a = a} {b = b} {at = at} n h l) q =
        of_rolled (Expr-F.Bin o a b at) (Expr-F.Bin o (with_scalars a) (with_scalars b) at) q (λ w.
        two_plain o a b at n (plain_of h (first_none (ranges (with_scalars a)) (ranges (with_scalars b)) w)) (plain_of l (later_none (ranges (with_scalars a)) (ranges (with_scalars b)) w)))

  -- ---- left sides
  left_by : (v : Var) (i : Expr) → P v → is_array (known_of v) ≡ true → (is_register_array (known_of v) ≡ true → IsWritten i) → IsClear P i
      → (z : Option Size) → size_at v ≡ z → (n : Option ℕ) → cell_in v i ≡ n → left_ranges (left_or v i z n) ≡ [] → IsPlainLeft (K kinds frame) frame (left_or v i z n)
  left_by v i p y r h (Some z) e (Some n) g q = to_variable (cell_seen kinds frame v p z n e (cell_is v i n g).1)
  left_by v i p y r h (Some z) e None g q =
      let t = has_size (out-Var v).decl z e in
      absurd (no_cell_left v p i y t (r t) g (first_none (cell_range v (inline_value no_numbers (with_scalars i))) (ranges (with_scalars i)) q))
  left_by v i p y r h None e (Some n) g q =
      to_cell (plain_seen kinds frame v p (no_size v e) (no_inline (known_of v) y)) (plain_of h (later_none (cell_range v (inline_value no_numbers (with_scalars i))) (ranges (with_scalars i)) q)).is
  left_by v i p y r h None e None g q =
      to_cell (plain_seen kinds frame v p (no_size v e) (no_inline (known_of v) y)) (plain_of h (later_none (cell_range v (inline_value no_numbers (with_scalars i))) (ranges (with_scalars i)) q)).is

  pub left_plain : (d : Lval) → LeftClear P d → left_ranges (left_with_scalars d) ≡ [] → IsPlainLeft (K kinds frame) frame (left_with_scalars d)
  left_plain (lval.Skip at) h q = to_nothing
  left_plain (lval.Var v) h q = to_variable (plain_seen kinds frame v h.0 (no_register (known_of v) h.1) h.2)
  left_plain (lval.Cell v i) h q = left_by v i h.0 h.1 h.2 h.3 (size_at v) refl (cell_in v i) refl q
  left_plain (lval.Store a) h q = to_memory (subst (IsPlainExpr (K kinds frame) frame) (sym (access_at a)) (plain_of h (sym (ap ranges (access_at a)) ∙ q)).is)
