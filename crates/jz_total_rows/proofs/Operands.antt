-- A typed operand that the expansion leaves, and a left side, stand in variables, cells or memory.
use Rattle.std.proofs.Common.{◌≡◌, ℕ, Bool, true, false, ◌&&◌, ◌||◌, Option, Some, None, refl, sym, ap, ◌∙◌, subst, arith, inl, inr, if◌then◌else◌, ℤ, pos}
use Rattle.std.specs.Prelude.{◌⊎◌, is_some}
use Rattle.std.specs.Option.{option_or}
use Rattle.std.proofs.lemmas.Bool.{false≢true, and_parts}
use Rattle.jz_words.specs.declared.size.Size.{Size}
use Rattle.jz_words.specs.declared.size.Size.TheVariants.{S64}
use Rattle.jz_words.specs.Readings.{fits_bytes, reading_of}
use Rattle.x64_insn.specs.Table.{immediate_by}
use Rattle.jz_tree.specs.Span.{Span}
use Rattle.jz_tree.specs.declared.expr.Storage.TheVariants as storage
use Rattle.jz_tree.specs.declared.expr.Expr.{Expr}
use Rattle.jz_tree.specs.declared.expr.Expr.TheVariants as expr
use Rattle.jz_tree.specs.declared.expr.Expr.TheOpen.{Expr-F}
use Rattle.jz_tree.specs.declared.expr.Expr.TheViews.{out-Expr, out-Access, out-Var}
use Rattle.jz_tree.specs.declared.expr.Var.{Var}
use Rattle.jz_tree.specs.declared.expr.Access.{Access}
use Rattle.jz_tree.specs.declared.stmt.Lval.{Lval}
use Rattle.jz_tree.specs.declared.stmt.Lval.TheVariants as lval
use Rattle.jz_type_names.specs.declared.kinds.Kind as known
use Rattle.jz_type_names.specs.declared.kinds.Kind.TheVariants as scope
use Rattle.jz_type_names.specs.Kinds.{Known, known_of, is_array, is_register_array}
use Rattle.jz_select.specs.declared.class.Class.{Class}
use Rattle.jz_select.specs.declared.class.Class.TheVariants as class
use Rattle.jz_select.specs.Sums.{capped_count, is_sum, is_address, is_index}
use Rattle.jz_select.specs.Look.{look_of, terms_of, bin_inline}
use Rattle.jz_select.specs.Operands.{var_class, class_if, cell_class, cell_of, mem_of, inline_or, masked_class, class_layer, class_of, dest_of}
use Rattle.jz_select.specs.Rows.{is_rm, is_rmi, class_size}
use Rattle.jz_judgement.specs.Places as place
use Rattle.jz_judgement.specs.Places.{Goes, KindGoes, IsWordOf, WordKind, IsArrayOf, TakesWord}
use Rattle.jz_judgement.specs.HasType as judged
use Rattle.jz_judgement.specs.HasType.{value, HasType, Types, Accesses, Says, LayerSays}
use Rattle.jz_judgement.specs.Lefts as lefts
use Rattle.jz_judgement.specs.Lefts.{IsNumber, Wants, Holds}
use Rattle.jz_run_laws.proofs.Sizes.{types_of}
use Rattle.jz_row_laws.proofs.Booleans.{or_left}
use Rattle.jz_row_laws.proofs.Fixed.{Layer}
use Rattle.jz_stuck_runs.proofs.Classes.{masked_none}
use Rattle.jz_judgement.proofs.Nothing.{none_not}
use Rattle.jz_one_row.proofs.Outs.{out_num, out_bool, out_var, out_cell, out_load, out_neg, out_not, out_cast, out_bin}
use Rattle.jz_meaning.specs.declared.access.Kind.TheVariants as kind
use Rattle.jz_meaning.specs.Values.{size_of, key_of, ref_of, own_size}
use Rattle.jz_limits.specs.declared.limit.Limit.{Limit}
use Rattle.jz_limits.specs.declared.limit.Limit.TheVariants.{ImmRange}
use Rattle.jz_limits.specs.declared.looked.Asking.{Asking}
use Rattle.jz_limits.specs.Values.{no_numbers}
use Rattle.jz_limits.specs.Asked.{has_displacement, has_index, has_immediate, left_access}
use Rattle.jz_limits.specs.InnerLooked as found
use Rattle.jz_limits.specs.InnerLooked.{Seen, if_not}
use Rattle.jz_limits.proofs.Layers.{own_var, look_num, look_cell, look_load}
use Rattle.jz_meaning.specs.Assignments.{left_size, as_expr}
use Rattle.jz_homes.proofs.Parts.{access_size}
use Rattle.jz_operations.proofs.Somes.{same_some}
use Rattle.jz_operations.specs.declared.operation.Cell.{Cell}
use Rattle.jz_operations.specs.declared.operation.Arg.{Arg}
use Rattle.jz_operations.specs.declared.operation.Arg.TheVariants as arg
use Rattle.jz_homes.specs.Homes.{Homes, in_register, in_cell}
use Rattle.jz_homes.specs.Operands as operands
use Rattle.jz_homes.specs.Operands.{AreCells, Leaks, silent, told, cell_leaks, IsArg, IsDest, to_word, to_scalar, to_cell, to_memory}
use Rattle.jz_total_rows.specs.Expanded.{HasHome, a_word, a_flag, a_scalar, an_array, IsExpanded, a_number, a_truth, a_variable, a_cell, a_load, a_minus, a_denial, a_cast, of_two, IsExpandedLeft}
use Rattle.jz_total_rows.specs.Expanded as left
use Rattle.jz_total_rows.proofs.OwnSizes.{own_num, own_cell, own_load}
use Rattle.jz_total_rows.proofs.InlineValues.{number_is_inline, inline_number, not_both}
use Rattle.jz_total_rows.proofs.Terms.{IsCount, exact, both_counts, address_there, index_there}
use Rattle.jz_total_rows.proofs.Summed.{seen, sum_there}
use Rattle.jz_total_rows.proofs.Fits.{Fits, immediate_fits, address_fits, in_range, cell_fits, scalar_fits}
use Rattle.jz_total_rows.proofs.Stands.{Stands, in_variable, in_memory, in_frame, as_number}

-- ---- limits that are kept
pub kept : (b : Bool) (l : Limit) → if_not b l ≡ None → b ≡ true
kept true l h = refl
kept false l h = absurd cc

-- ---- places of words
-- what is there is a word of that size
pub data IsWordPlace : place.Place → Size → Type 0 where
  of_size : {z : Size} → IsWordPlace (place.word z) z
  of_stated : {z : Size} → IsWordPlace (place.stated z) z

takes_word : (p : place.Place) (z y : Size) → IsWordPlace p z → TakesWord y p → y ≡ z
takes_word p z y of_size t = t
takes_word p z y of_stated t = t

-- ---- variables
pub record VariableAs (home : Homes) (z : Size) (v : Var) : Type 0 where
  pub arg' : Arg
  pub is_arg : IsArg home z (expr.Var v) arg' silent
  pub is_dest : IsDest home z (lval.Var v) arg' silent
  pub stands : Stands (var_class (known_of v)) arg'
  pub sized : class_size (var_class (known_of v)) ≡ Some z
  pub own : size_of (ref_of v).kind ≡ Some z
  pub fits : Fits z arg'

variable_there : (home : Homes) (z : Size) (p : place.Place) (v : Var) → IsWordPlace p z → HasHome home v → Goes (known_of v) p → is_rmi (var_class (known_of v)) ≡ true → VariableAs home z v
variable_there home z p v w (a_word y n d k h) g e =
    let s = takes_word p z y w (subst (λ q. Goes q p) d g) in
    let at : home (key_of (ref_of v)) ≡ Some (in_register n z) = h ∙ ap (λ t. Some (in_register n t)) s in
    record {
      arg' = arg.Var n;
      is_arg = operands.a_word v n at;
      is_dest = to_word v n (k ∙ ap kind.Word s) at;
      stands = subst (λ c. Stands c (arg.Var n)) (sym (ap var_class d)) (in_variable y n);
      sized = ap (λ q. class_size (var_class q)) d ∙ ap (λ t. Some t) s;
      own = ap size_of k ∙ ap (λ t. Some t) s;
      fits = λ i l. refl;
    }
variable_there home z p v w (a_flag n d k h) g e = absurd (false≢true (sym (ap (λ q. is_rmi (var_class q)) d) ∙ e))
variable_there home z p v u (a_scalar y w d k h) g e =
    let s = takes_word p z y u (subst (λ q. Goes q p) d g) in
    let at : home (key_of (ref_of v)) ≡ Some (in_cell w 0 z) = h ∙ ap (λ t. Some (in_cell w 0 t)) s in
    let x : Arg = arg.Cell (record { of = w; index = None; offset = pos 0 }) in
    record {
      arg' = x;
      is_arg = operands.a_scalar v w at;
      is_dest = to_scalar v w (k ∙ ap kind.Word s) at;
      stands = subst (λ c. Stands c x) (sym (ap var_class d)) (in_frame (Some y) (record { of = w; index = None; offset = pos 0 }));
      sized = ap (λ q. class_size (var_class q)) d ∙ ap (λ t. Some t) s;
      own = ap size_of k ∙ ap (λ t. Some t) s;
      fits = scalar_fits z w;
    }
variable_there home z p v u (an_array y n w d c) g e = absurd (false≢true (sym (ap (λ q. is_rmi (var_class q)) d) ∙ e))

-- ---- sums behind nothing
behind_nothing : (c p : ℕ) → IsCount c p → IsCount (capped_count 0 c) p
behind_nothing c p f = subst (λ k. IsCount (capped_count 0 c) k) (omega (arith)) (both_counts (exact 0 (omega (arith))) f)

if_true : (b : Bool) (c : Class) → is_rmi (class_if b c) ≡ true → b ≡ true
if_true true c h = refl
if_true false c h = absurd (false≢true h)

if_class : (b : Bool) (c : Class) → b ≡ true → class_if b c ≡ c
if_class true c e = refl
if_class false c e = absurd (false≢true e)

-- ---- cells
pub record CellAs (home : Homes) (z : Size) (v : Var) (i : Expr) : Type 0 where
  pub arg' : Arg
  pub leaks : Leaks
  pub is_arg : IsArg home z (expr.Cell v i) arg' leaks
  pub is_dest : IsDest home z (lval.Cell v i) arg' leaks
  pub stands : Stands (cell_of v i) arg'
  pub sized : class_size (cell_of v i) ≡ Some z
  pub own : size_of (ref_of v).kind ≡ Some z
  pub fits : (q : Asking) → found.index_field v (seen q i).terms ≡ None → Fits z arg'

array_there : (home : Homes) (z : Size) (v : Var) (i : Expr) (n w : ℕ) (s : Size) → s ≡ z → AreCells home v z n w → known_of v ≡ Some (record { storage = storage.Stack; kind = scope.Array s })
    → IsExpanded home i → is_index (terms_of i) ≡ true → CellAs home z v i
array_there home z v i n w s o c d x h =
    let good = (and_parts (look_of i).sum.good _ h).0 in
    let t = sum_there home i x good in
    let j = index_there t.sum (terms_of i) t.plains t.scales t.counted (behind_nothing _ _ t.few) (behind_nothing _ _ t.few_scaled) h in
    let y : Cell = record { of = w; index = j.base; offset = reading_of S64 t.sum.number } in
    record {
      arg' = arg.Cell y;
      leaks = cell_leaks j.base;
      is_arg = operands.a_cell v i n w t.sum j.base (reading_of S64 t.sum.number) c t.is j.is;
      is_dest = to_cell v i n w t.sum j.base (reading_of S64 t.sum.number) c t.is j.is;
      stands =
          subst (λ k. Stands k (arg.Cell y))
          (sym (ap (λ q. cell_class q (look_of i).inline (is_index (terms_of i))) d ∙ if_class (is_index (terms_of i)) (class.Mem (Some s)) h)) (in_frame (Some s) y);
      sized =
          ap (λ q. class_size (cell_class q (look_of i).inline (is_index (terms_of i)))) d
          ∙ (ap class_size (if_class (is_index (terms_of i)) (class.Mem (Some s)) h) ∙ ap (λ t. Some t) o);
      own = ap size_of c.0;
      fits = λ q e.
          cell_fits z w j.base t.sum.number
          (ap (in_range z) (sym (t.number q))
          ∙ (sym (ap (λ b. b || has_index (kind.Array z n) (seen q i).terms) (ap is_register_array d))
          ∙ (sym (ap (λ k. is_register_array (known_of v) || has_index k (seen q i).terms) c.0) ∙ kept _ (ImmRange (out-Var v).span) e)));
    }

cell_there : (home : Homes) (z y : Size) (v : Var) (i : Expr) → HasHome home v → IsExpanded home i → IsArrayOf y (known_of v) → y ≡ z → is_rmi (cell_of v i) ≡ true → CellAs home z v i
cell_there home z y v i (an_array s n w d c) x a t h =
    let e : s ≡ y = subst (λ q. IsArrayOf y q) d a in
    let idx = if_true (is_index (terms_of i)) (class.Mem (Some s)) (sym (ap (λ q. is_rmi (cell_class q (look_of i).inline (is_index (terms_of i)))) d) ∙ h) in
    array_there home z v i n w s (e ∙ t) (subst (λ k. AreCells home v k n w) (e ∙ t) c) d x idx
cell_there home z y v i (a_word s n d k q) x a t h = absurd (subst (λ q. IsArrayOf y q) d a)
cell_there home z y v i (a_flag n d k q) x a t h = absurd (subst (λ q. IsArrayOf y q) d a)
cell_there home z y v i (a_scalar s w d k q) x a t h = absurd (subst (λ q. IsArrayOf y q) d a)

-- ---- accesses to memory
pub record AccessAs (home : Homes) (z : Size) (a : Access) : Type 0 where
  pub arg' : Arg
  pub is_arg : IsArg home z (expr.Load a) arg' told
  pub is_dest : IsDest home z (lval.Store a) arg' told
  pub stands : Stands (mem_of (out-Access a).size (out-Access a).at) arg'
  pub sized : class_size (mem_of (out-Access a).size (out-Access a).at) ≡ a.size
  pub fits : (q : Asking) (at : Span) → found.address_field at (seen q (out-Access a).at) ≡ None → Fits z arg'

access_there : (home : Homes) (z : Size) (a : Access) → IsExpanded home a.at → option_or a.size (Some z) ≡ Some z → is_rmi (mem_of (out-Access a).size (out-Access a).at) ≡ true → AccessAs home z a
access_there home z a x s h =
    let e = a.at in
    let is = if_true (is_address (terms_of e)) (class.Mem a.size) h in
    let good = (and_parts (look_of e).sum.good _ (and_parts (is_sum (terms_of e)) _ is).0).0 in
    let t = sum_there home e x good in
    let j = address_there t.sum (terms_of e) t.plains t.scales t.counted (behind_nothing _ _ t.few) (behind_nothing _ _ t.few_scaled) is in
    record {
      arg' = arg.Mem j.address;
      is_arg = operands.a_load a t.sum j.address s t.is j.is;
      is_dest = to_memory a t.sum j.address s t.is j.is;
      stands = subst (λ k. Stands k (arg.Mem j.address)) (sym (if_class (is_address (terms_of e)) (class.Mem a.size) is)) (in_memory a.size j.address);
      sized = ap class_size (if_class (is_address (terms_of e)) (class.Mem a.size) is);
      fits = λ q at k.
          let p = and_parts (has_displacement (seen q e).terms) (seen q e).scaled (kept (has_displacement (seen q e).terms && (seen q e).scaled) (ImmRange at) k) in
          address_fits z t.sum j.address j.is (t.factors q p.1) (ap (λ n. fits_bytes 4 (reading_of S64 n)) (sym (t.number q)) ∙ p.0);
    }

-- ---- operands
pub record OperandAs (home : Homes) (z : Size) (e : Expr) : Type 0 where
  pub arg' : Arg
  pub leaks : Leaks
  pub is : IsArg home z e arg' leaks
  pub stands : Stands (class_of e) arg'
  -- the size that its class has, if any
  pub sized : (y : Size) → class_size (class_of e) ≡ Some y → y ≡ z
  pub said : Says (value e) z → class_size (class_of e) ≡ Some z
  pub owns : (y : Size) → own_size e ≡ Some y → y ≡ z
  pub fits : (at : Option Span) → (seen (record { place = at; size = Some z }) e).operand ≡ None → Fits z arg'

goes_of : (v : Var) (p : place.Place) → Types (Expr-F.Var v) p → Goes (known_of v) p
goes_of v p (judged.variable g) = g

pub record ArrayTyped (v : Var) (z : Size) : Type 0 where
  pub size : Size
  pub array : IsArrayOf size (known_of v)
  pub same : size ≡ z

array_typed : (v : Var) (i : Expr) (p : place.Place) (z : Size) → IsWordPlace p z → Types (Expr-F.Cell v i) p → ArrayTyped v z
array_typed v i p z w (judged.cell y a t x) = record { size = y; array = a; same = takes_word p z y w t }

size_of_access : (a : judged.AccessLayer) (p : place.Place) (z : Size) → IsWordPlace p z → Accesses a p → option_or a.size (Some z) ≡ Some z
size_of_access a p z w (judged.sized y s t x) = ap (λ k. option_or k (Some z)) s ∙ ap (λ k. Some k) (takes_word p z y w t)
size_of_access a p z w (judged.bare s x) = bare_size a p z w s
  where
    bare_size : (a : judged.AccessLayer) (p : place.Place) (z : Size) → IsWordPlace p z → a.size ≡ None → option_or a.size (Some z) ≡ Some z
    bare_size a p z w s = ap (λ k. option_or k (Some z)) s

access_typed : (a : Access) (p : place.Place) (z : Size) → IsWordPlace p z → Types (Expr-F.Load a) p → option_or a.size (Some z) ≡ Some z
access_typed a p z w (judged.load x) = size_of_access (out-Access a) p z w x

pub typed_as : (e : Expr) (l : Layer) (p : place.Place) → out-Expr e ≡ l → HasType (value e) p → Types l p
typed_as e l p s t = subst (λ k. Types k p) s (types_of e p t)

short_some : (i : ℤ) → is_some (if fits_bytes 4 i then Some i else None) ≡ true → fits_bytes 4 i ≡ true
short_some i h = by_test (fits_bytes 4 i) h
  where
    by_test : (b : Bool) → is_some (if b then Some i else None) ≡ true → b ≡ true
    by_test true h = refl
    by_test false h = absurd (false≢true h)

says_at : (e : Expr) (l : Layer) (z : Size) → out-Expr e ≡ l → Says (value e) z → LayerSays l z
says_at e l z s (judged.expression h) = subst (λ k. LayerSays k z) s h

number_says : (i : ℤ) (at : Span) (z : Size) → LayerSays (Expr-F.Num i at) z → ⊥
number_says i at z h = elim h [ ]

access_says : (a : Access) (z : Size) → LayerSays (Expr-F.Load a) z → a.size ≡ Some z
access_says a z (judged.load h) = h

pub number_there : (home : Homes) (z : Size) (i : ℤ) (at : Span) → OperandAs home z (expr.Num i at)
number_there home z i at =
    record {
      arg' = arg.Imm (reading_of z i);
      leaks = silent;
      is = operands.a_number i at;
      stands = subst (λ c. Stands c (arg.Imm (reading_of z i))) (sym (ap class_layer (out_num i at))) (as_number (reading_of z i));
      sized = λ y h. absurd (none_not y (sym (ap (λ l. class_size (class_layer l)) (out_num i at)) ∙ h));
      owns = λ y h. absurd (none_not y (sym (own_num i at) ∙ h));
      said = λ h. absurd (number_says i at z (says_at (expr.Num i at) (Expr-F.Num i at) z (out_num i at) h));
      fits = λ p h d l.
          immediate_fits z i
          (short_some (reading_of z i)
          (kept (has_immediate (Some z) (Some i)) (ImmRange at) (sym (ap (λ (k : Seen). k.operand) (look_num no_numbers (record { place = p; size = Some z }) i at)) ∙ h)));
    }

pub number_fits : (z : Size) (i : ℤ) (at : Span) → (seen (record { place = None; size = Some z }) (expr.Num i at)).operand ≡ None → fits_bytes (immediate_by z) (reading_of z i) ≡ true
number_fits z i at h =
    immediate_fits z i
    (short_some (reading_of z i)
    (kept (has_immediate (Some z) (Some i)) (ImmRange at) (sym (ap (λ (k : Seen). k.operand) (look_num no_numbers (record { place = None; size = Some z }) i at)) ∙ h)))

no_inline : (b : Bool) (c : Class) → (is_rmi c ≡ true → ⊥) → is_rmi (inline_or b c) ≡ true → b ≡ true
no_inline true c n h = refl
no_inline false c n h = absurd (n h)

class_test : (e : Expr) (l : Layer) → out-Expr e ≡ l → is_rmi (class_of e) ≡ true → is_rmi (class_layer l) ≡ true
class_test e l s h = sym (ap (λ k. is_rmi (class_layer k)) s) ∙ h

one_size : (o : Option Size) (z y : Size) → o ≡ Some z → o ≡ Some y → y ≡ z
one_size o z y e f = same_some y z (sym f ∙ e)

asked_size : (o : Option Size) (z y : Size) → option_or o (Some z) ≡ Some z → o ≡ Some y → y ≡ z
asked_size o z y e f = same_some y z (sym (ap (λ k. option_or k (Some z)) f) ∙ e)

pub operand_there : (home : Homes) (z : Size) (q : place.Place) (e : Expr) → IsWordPlace q z → IsExpanded home e → HasType (value e) q → is_rmi (class_of e) ≡ true → OperandAs home z e
operand_there home z q e w (a_number i at) t h = number_there home z i at
operand_there home z q e w (a_truth b at) t h = absurd (false≢true (class_test (expr.Bool b at) (Expr-F.Expr::Bool b at) (out_bool b at) h))
operand_there home z q e w (a_variable v x) t h =
    let s = out_var v in
    let r = variable_there home z q v w x (goes_of v q (typed_as (expr.Var v) (Expr-F.Var v) q s t)) (class_test (expr.Var v) (Expr-F.Var v) s h) in
    record {
      arg' = r.arg';
      leaks = silent;
      is = r.is_arg;
      stands = subst (λ c. Stands c r.arg') (sym (ap class_layer s)) r.stands;
      owns = λ y k. one_size (own_size (expr.Var v)) z y (own_var v ∙ r.own) k;
      sized = λ y k. one_size (class_size (class_of (expr.Var v))) z y (ap (λ l. class_size (class_layer l)) s ∙ r.sized) k;
      said = λ k. ap (λ l. class_size (class_layer l)) s ∙ r.sized;
      fits = λ p k. r.fits;
    }
operand_there home z q e w (a_cell v i x y) t h =
    let s = out_cell v i in
    let a = array_typed v i q z w (typed_as (expr.Cell v i) (Expr-F.Cell v i) q s t) in
    let r = cell_there home z a.size v i x y a.array a.same (class_test (expr.Cell v i) (Expr-F.Cell v i) s h) in
    record {
      arg' = r.arg';
      leaks = r.leaks;
      is = r.is_arg;
      stands = subst (λ c. Stands c r.arg') (sym (ap class_layer s)) r.stands;
      owns = λ y k. one_size (own_size (expr.Cell v i)) z y (own_cell v i ∙ r.own) k;
      sized = λ y k. one_size (class_size (class_of (expr.Cell v i))) z y (ap (λ l. class_size (class_layer l)) s ∙ r.sized) k;
      said = λ k. ap (λ l. class_size (class_layer l)) s ∙ r.sized;
      fits = λ p k. r.fits (record { place = Some (out-Var v).span; size = None }) (sym (ap (λ (q : Seen). q.operand) (look_cell no_numbers (record { place = p; size = Some z }) v i)) ∙ k);
    }
operand_there home z q e w (a_load a x) t h =
    let s = out_load a in
    let asks = access_typed a q z w (typed_as (expr.Load a) (Expr-F.Load a) q s t) in
    let r = access_there home z a x asks (class_test (expr.Load a) (Expr-F.Load a) s h) in
    record {
      arg' = r.arg';
      leaks = told;
      is = r.is_arg;
      stands = subst (λ c. Stands c r.arg') (sym (ap class_layer s)) r.stands;
      owns = λ y k. asked_size a.size z y asks (sym (own_load a ∙ access_size a) ∙ k);
      sized = λ y k. asked_size a.size z y asks (sym (ap (λ l. class_size (class_layer l)) s ∙ r.sized) ∙ k);
      said = λ k. ap (λ l. class_size (class_layer l)) s ∙ (r.sized ∙ access_says a z (says_at (expr.Load a) (Expr-F.Load a) z s k));
      fits = λ p k.
          r.fits (record { place = Some (out-Access a).span; size = None }) (out-Access a).span
          (sym (ap (λ (q : Seen). q.operand) (look_load no_numbers (record { place = p; size = Some z }) a)) ∙ k);
    }
operand_there home z q e w (a_minus a at n x) t h =
    absurd
    (false≢true
    (sym n
    ∙ number_is_inline a (inline_number home a x (no_inline (look_of a).inline class.Other (λ e. false≢true e) (class_test (expr.Neg a at) (Expr-F.Neg a at) (out_neg a at) h)))))
operand_there home z q e w (a_denial a at n x) t h =
    absurd
    (false≢true
    (sym n
    ∙ number_is_inline a (inline_number home a x (no_inline (look_of a).inline class.Other (λ e. false≢true e) (class_test (expr.Not a at) (Expr-F.Not a at) (out_not a at) h)))))
operand_there home z q e w (a_cast y s a at x) t h = absurd (false≢true (class_test (expr.Cast y s a at) (Expr-F.Cast y s a at) (out_cast y s a at) h))
operand_there home z q e w (of_two o a b at n x y) t h =
    let i =
    no_inline (bin_inline o (look_of a) (look_of b)) (masked_class o a b) (masked_none is_rmi refl refl refl o a b)
    (class_test (expr.Bin o a b at) (Expr-F.Bin o a b at) (out_bin o a b at) h)
    in
    let p = and_parts (look_of b).inline (look_of a).inline (and_parts _ _ i).1 in
    absurd (not_both a b n (number_is_inline a (inline_number home a x p.1)) (number_is_inline b (inline_number home b y p.0)))

-- ---- left sides
abbrev pub bare_asking : Asking
bare_asking = record { place = None; size = None }

abbrev pub left_operand : Option Expr → Option Limit
left_operand None = None
left_operand (Some x) = (seen bare_asking x).operand

pub record LeftAs (home : Homes) (z : Size) (d : Lval) : Type 0 where
  pub arg' : Arg
  pub leaks : Leaks
  pub is : IsDest home z d arg' leaks
  pub stands : Stands (dest_of d) arg'
  pub sized : (y : Size) → class_size (dest_of d) ≡ Some y → y ≡ z
  -- the size that it has by itself, if any
  pub own : (left_size d ≡ Some z) ⊎ (left_size d ≡ None)
  pub wanted : Wants d (place.word z) → left_size d ≡ Some z
  pub class_own : left_size d ≡ Some z → class_size (dest_of d) ≡ Some z
  pub fits : left_operand (left_access d) ≡ None → Fits z arg'

word_goes : (k : known.Kind) (z : Size) → WordKind z k → KindGoes k (place.word z)
word_goes (scope.Word y) z h = h
word_goes scope.Int z h = absurd h
word_goes scope.Truth z h = absurd h
word_goes (scope.Array y) z h = absurd h

known_goes : (k : Known) (z : Size) → IsWordOf z k → Goes k (place.word z)
known_goes None z h = absurd h
known_goes (Some d) z h = word_goes d.kind z h

pub no_array_rm : (home : Homes) (v : Var) → HasHome home v → is_array (known_of v) ≡ true → is_rm (var_class (known_of v)) ≡ true → ⊥
no_array_rm home v (a_word z n d k h) a e = false≢true (sym (ap is_array d) ∙ a)
no_array_rm home v (a_flag n d k h) a e = false≢true (sym (ap is_array d) ∙ a)
no_array_rm home v (a_scalar z w d k h) a e = false≢true (sym (ap is_array d) ∙ a)
no_array_rm home v (an_array z n w d c) a e = false≢true (sym (ap (λ q. is_rm (var_class q)) d) ∙ e)

pub no_number_home : (home : Homes) (v : Var) → HasHome home v → IsNumber (known_of v) → ⊥
no_number_home home v (a_word z n d k h) i = subst IsNumber d i
no_number_home home v (a_flag n d k h) i = subst IsNumber d i
no_number_home home v (a_scalar z w d k h) i = subst IsNumber d i
no_number_home home v (an_array z n w d c) i = subst IsNumber d i

variable_goes : (home : Homes) (v : Var) (z : Size) → HasHome home v → Holds (place.word z) (lval.Var v) → is_rm (var_class (known_of v)) ≡ true → Goes (known_of v) (place.word z)
variable_goes home v z x (inl (lefts.variable h)) e = known_goes (known_of v) z h
variable_goes home v z x (inr (lefts.array a)) e = absurd (no_array_rm home v x a e)
variable_goes home v z x (inr (lefts.number n i t)) e = absurd (no_number_home home v x n)

cell_goes : (v : Var) (i : Expr) (z : Size) → Holds (place.word z) (lval.Cell v i) → IsArrayOf z (known_of v)
cell_goes v i z (inl (lefts.cell h t)) = h
cell_goes v i z (inr l) = elim l [ ]

store_goes : (a : Access) (z : Size) → Holds (place.word z) (lval.Store a) → option_or a.size (Some z) ≡ Some z
store_goes a z (inl (lefts.access s t)) = ap (λ k. option_or k (Some z)) s
store_goes a z (inr (lefts.access s t)) = ap (λ k. option_or k (Some z)) s

store_own : (a : Access) (z : Size) → Holds (place.word z) (lval.Store a) → (left_size (lval.Store a) ≡ Some z) ⊎ (left_size (lval.Store a) ≡ None)
store_own a z (inl (lefts.access s t)) = inl (access_size a ∙ s)
store_own a z (inr (lefts.access s t)) = inr (access_size a ∙ s)

store_wanted : (a : Access) (z : Size) → Wants (lval.Store a) (place.word z) → left_size (lval.Store a) ≡ Some z
store_wanted a z (lefts.access s t) = access_size a ∙ s

pub left_there : (home : Homes) (z : Size) (d : Lval) → IsExpandedLeft home d → Holds (place.word z) d → is_rm (dest_of d) ≡ true → LeftAs home z d
left_there home z d (left.to_nothing at) t h = absurd (false≢true h)
left_there home z d (left.to_variable v x) t h =
    let r = variable_there home z (place.word z) v of_size x (variable_goes home v z x t h) (or_left (is_rm (var_class (known_of v))) _ h) in
    record {
      arg' = r.arg';
      leaks = silent;
      is = r.is_dest;
      stands = r.stands;
      sized = λ y k. one_size (class_size (var_class (known_of v))) z y r.sized k;
      own = inl r.own;
      wanted = λ k. r.own;
      class_own = λ k. r.sized;
      fits = λ k. r.fits;
    }
left_there home z d (left.to_cell v i x y) t h =
    let r = cell_there home z z v i x y (cell_goes v i z t) refl (or_left (is_rm (cell_of v i)) _ h) in
    record {
      arg' = r.arg';
      leaks = r.leaks;
      is = r.is_dest;
      stands = r.stands;
      sized = λ y k. one_size (class_size (cell_of v i)) z y r.sized k;
      own = inl r.own;
      wanted = λ k. r.own;
      class_own = λ k. r.sized;
      fits = λ k. r.fits (record { place = Some (out-Var v).span; size = None }) (sym (ap (λ (q : Seen). q.operand) (look_cell no_numbers bare_asking v i)) ∙ k);
    }
left_there home z d (left.to_memory a x) t h =
    let r = access_there home z a x (store_goes a z t) (or_left (is_rm (mem_of (out-Access a).size (out-Access a).at)) _ h) in
    record {
      arg' = r.arg';
      leaks = told;
      is = r.is_dest;
      stands = r.stands;
      sized = λ y k. asked_size a.size z y (store_goes a z t) (sym r.sized ∙ k);
      own = store_own a z t;
      wanted = λ k. store_wanted a z k;
      class_own = λ k. r.sized ∙ (sym (access_size a) ∙ k);
      fits = λ k.
          r.fits (record { place = Some (out-Access a).span; size = None }) (out-Access a).span
          (sym (ap (λ (q : Seen). q.operand) (look_load no_numbers bare_asking a)) ∙ k);
    }

-- where it is read it is the same operand
pub left_read : (home : Homes) (z : Size) (d : Lval) (b : Arg) (r : Leaks) (e : Expr) → IsDest home z d b r → as_expr d ≡ Some e → IsArg home z e b r
left_read home z d b r e (to_word v n k h) s = subst (λ x. IsArg home z x b r) (same_some (expr.Var v) e s) (operands.a_word v n h)
left_read home z d b r e (to_scalar v w k h) s = subst (λ x. IsArg home z x b r) (same_some (expr.Var v) e s) (operands.a_scalar v w h)
left_read home z d b r e (to_cell v i n w t c j cells t' k) s = subst (λ x. IsArg home z x b r) (same_some (expr.Cell v i) e s) (operands.a_cell v i n w t c j cells t' k)
left_read home z d b r e (to_memory a t m k t' j) s = subst (λ x. IsArg home z x b r) (same_some (expr.Load a) e s) (operands.a_load a t m k t' j)
