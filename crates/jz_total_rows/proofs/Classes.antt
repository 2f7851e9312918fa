-- What the class of an operand says of what the expansion leaves: a number, a flag, a masked byte.
use Rattle.std.proofs.Common.{◌≡◌, ℕ, ℤ, pos, Bool, true, false, not, ◌&&◌, Option, Some, None, refl, sym, ap, ◌∙◌, if◌then◌else◌}
use Rattle.std.specs.Ordering.{int_eq}
use Rattle.std.proofs.lemmas.Bool.{false≢true, and_parts}
use Rattle.std.proofs.lemmas.Bool.Decides.{Decides-int_eq}
use Rattle.jz_words.specs.declared.size.Size.{Size}
use Rattle.jz_words.specs.declared.size.Size.TheVariants.{S8, S16, S32, S64}
use Rattle.jz_tree.specs.Span.{Span}
use Rattle.jz_tree.specs.declared.expr.BinOp.{BinOp}
use Rattle.jz_tree.specs.declared.expr.BinOp.TheVariants as op
use Rattle.jz_tree.specs.declared.expr.Expr.{Expr}
use Rattle.jz_tree.specs.declared.expr.Expr.TheVariants as expr
use Rattle.jz_tree.specs.declared.expr.Expr.TheOpen.{Expr-F}
use Rattle.jz_tree.specs.declared.expr.Expr.TheViews.{out-Expr, out-Access}
use Rattle.jz_tree.specs.declared.expr.Var.{Var}
use Rattle.jz_integers.specs.Integers.{written_number}
use Rattle.jz_type_names.specs.Kinds.{known_of, is_inline}
use Rattle.jz_select.specs.declared.class.Class.{Class}
use Rattle.jz_select.specs.declared.class.Class.TheVariants as class
use Rattle.jz_select.specs.declared.class.Mask.TheVariants as mask
use Rattle.jz_select.specs.Sums.{is_address, is_index}
use Rattle.jz_select.specs.Look.{look_of, terms_of, gives_number, bin_inline}
use Rattle.jz_select.specs.Operands.{var_class, class_if, cell_class, cell_of, inline_or, mask_of, is_byte, register_layer, masked_class, class_layer, class_of}
use Rattle.jz_select.specs.Rows.{is_i, is_flag, masks}
use Rattle.jz_row_laws.proofs.Fixed.{Layer, no_if, no_cell}
use Rattle.jz_stuck_runs.proofs.Classes.{masked_none}
use Rattle.jz_one_row.proofs.Outs.{out_num, out_bool, out_var, out_cell, out_load, out_neg, out_not, out_cast, out_bin}
use Rattle.jz_meaning.specs.declared.access.Kind.TheVariants as kind
use Rattle.jz_meaning.specs.Values.{key_of, ref_of}
use Rattle.jz_meaning.specs.Assignments as assignments
use Rattle.jz_meaning.specs.Assignments.{is_bool, is_flag_layer}
use Rattle.jz_homes.specs.Homes.{Homes, in_register, in_flag}
use Rattle.jz_total_rows.specs.Expanded.{HasHome, a_word, a_flag, a_scalar, an_array, IsExpanded, a_number, a_truth, a_variable, a_cell, a_load, a_minus, a_denial, a_cast, of_two}
use Rattle.jz_total_rows.proofs.InlineValues.{IsNumber, number_is_inline, inline_number, not_both}
use Rattle.jz_total_rows.proofs.Written.{written_is}

-- ---- the class of a form
pub class_test : (test : Class → Bool) (e : Expr) (l : Layer) → out-Expr e ≡ l → test (class_of e) ≡ true → test (class_layer l) ≡ true
class_test test e l s h = sym (ap (λ k. test (class_layer k)) s) ∙ h

by_inline : (test : Class → Bool) (b : Bool) (c : Class) → (test c ≡ true → ⊥) → test (inline_or b c) ≡ true → b ≡ true
by_inline test true c n h = refl
by_inline test false c n h = absurd (n h)

-- an operation that has this class is inline, which none is
pub two_not : (home : Homes) (test : Class → Bool) → test class.Other ≡ false → test (class.Masked mask.Five) ≡ false → test (class.Masked mask.Six) ≡ false
    → (o : BinOp) (a b : Expr) (at : Span) → (is_inline a && is_inline b) ≡ false → IsExpanded home a → IsExpanded home b → test (class_of (expr.Bin o a b at)) ≡ true → ⊥
two_not home test f g k o a b at n x y h =
    let i = by_inline test (bin_inline o (look_of a) (look_of b)) (masked_class o a b) (masked_none test f g k o a b) (class_test test (expr.Bin o a b at) (Expr-F.Bin o a b at) (out_bin o a b at) h) in
    let p = and_parts (look_of b).inline (look_of a).inline (and_parts (gives_number o) ((look_of b).inline && (look_of a).inline) i).1 in
    not_both a b n (number_is_inline a (inline_number home a x p.1)) (number_is_inline b (inline_number home b y p.0))

pub sign_not : (home : Homes) (test : Class → Bool) (a : Expr) → test class.Other ≡ false → is_inline a ≡ false → IsExpanded home a → test (inline_or (look_of a).inline class.Other) ≡ true → ⊥
sign_not home test a f n x h =
    false≢true (sym n ∙ number_is_inline a (inline_number home a x (by_inline test (look_of a).inline class.Other (λ e. false≢true (sym f ∙ e)) h)))

home_class : (home : Homes) (test : Class → Bool) (v : Var) → HasHome home v → ((z : Size) → test (class.Reg z) ≡ false) → ((z : Size) → test (class.Mem (Some z)) ≡ false) → test class.Other ≡ false → test (var_class (known_of v)) ≡ true → test class.Flag ≡ true
home_class home test v (a_word z n d k h) r m o e = absurd (false≢true (sym (ap (λ q. test (var_class q)) d ∙ r z) ∙ e))
home_class home test v (a_flag n d k h) r m o e = sym (ap (λ q. test (var_class q)) d) ∙ e
home_class home test v (a_scalar z w d k h) r m o e = absurd (false≢true (sym (ap (λ q. test (var_class q)) d ∙ m z) ∙ e))
home_class home test v (an_array z n w d c) r m o e = absurd (false≢true (sym (ap (λ q. test (var_class q)) d ∙ o) ∙ e))

-- ---- an inline operand is a number
pub class_number : (home : Homes) (e : Expr) → IsExpanded home e → is_i (class_of e) ≡ true → IsNumber e
class_number home e (a_number i at) h = (i, at, refl)
class_number home e (a_truth b at) h = absurd (false≢true (class_test is_i (expr.Bool b at) (Expr-F.Expr::Bool b at) (out_bool b at) h))
class_number home e (a_variable v x) h = absurd (false≢true (home_class home is_i v x (λ z. refl) (λ z. refl) refl (class_test is_i (expr.Var v) (Expr-F.Var v) (out_var v) h)))
class_number home e (a_cell v i x y) h =
    absurd (no_cell is_i (λ z. refl) (λ z. refl) refl (known_of v) (look_of i).inline (is_index (terms_of i)) (class_test is_i (expr.Cell v i) (Expr-F.Cell v i) (out_cell v i) h))
class_number home e (a_load a x) h =
    absurd (no_if is_i refl (is_address (terms_of (out-Access a).at)) (class.Mem (out-Access a).size) refl (class_test is_i (expr.Load a) (Expr-F.Load a) (out_load a) h))
class_number home e (a_minus a at n x) h = absurd (sign_not home is_i a refl n x (class_test is_i (expr.Neg a at) (Expr-F.Neg a at) (out_neg a at) h))
class_number home e (a_denial a at n x) h = absurd (sign_not home is_i a refl n x (class_test is_i (expr.Not a at) (Expr-F.Not a at) (out_not a at) h))
class_number home e (a_cast z s a at x) h = absurd (false≢true (class_test is_i (expr.Cast z s a at) (Expr-F.Cast z s a at) (out_cast z s a at) h))
class_number home e (of_two o a b at n x y) h = absurd (two_not home is_i refl refl refl o a b at n x y h)

-- ---- a flag is a variable
pub record IsFlagVariable (home : Homes) (e : Expr) : Type 0 where
  pub var : Var
  pub is : e ≡ expr.Var var
  pub number : ℕ
  pub there : home (key_of (ref_of var)) ≡ Some (in_flag number)
  pub bool : (ref_of var).kind ≡ kind.Bool

flag_home : (home : Homes) (v : Var) → HasHome home v → is_flag (var_class (known_of v)) ≡ true → IsFlagVariable home (expr.Var v)
flag_home home v (a_flag n d k h) e = record { var = v; is = refl; number = n; there = h; bool = k }
flag_home home v (a_word z n d k h) e = absurd (false≢true (sym (ap (λ q. is_flag (var_class q)) d) ∙ e))
flag_home home v (a_scalar z w d k h) e = absurd (false≢true (sym (ap (λ q. is_flag (var_class q)) d) ∙ e))
flag_home home v (an_array z n w d c) e = absurd (false≢true (sym (ap (λ q. is_flag (var_class q)) d) ∙ e))

pub flag_variable : (home : Homes) (e : Expr) → IsExpanded home e → is_flag (class_of e) ≡ true → IsFlagVariable home e
flag_variable home e (a_number i at) h = absurd (false≢true (class_test is_flag (expr.Num i at) (Expr-F.Num i at) (out_num i at) h))
flag_variable home e (a_truth b at) h = absurd (false≢true (class_test is_flag (expr.Bool b at) (Expr-F.Expr::Bool b at) (out_bool b at) h))
flag_variable home e (a_variable v x) h = flag_home home v x (class_test is_flag (expr.Var v) (Expr-F.Var v) (out_var v) h)
flag_variable home e (a_cell v i x y) h =
    absurd (no_cell is_flag (λ z. refl) (λ z. refl) refl (known_of v) (look_of i).inline (is_index (terms_of i)) (class_test is_flag (expr.Cell v i) (Expr-F.Cell v i) (out_cell v i) h))
flag_variable home e (a_load a x) h =
    absurd (no_if is_flag refl (is_address (terms_of (out-Access a).at)) (class.Mem (out-Access a).size) refl (class_test is_flag (expr.Load a) (Expr-F.Load a) (out_load a) h))
flag_variable home e (a_minus a at n x) h = absurd (sign_flag (look_of a).inline (class_test is_flag (expr.Neg a at) (Expr-F.Neg a at) (out_neg a at) h))
  where
    sign_flag : (b : Bool) → is_flag (inline_or b class.Other) ≡ true → ⊥
    sign_flag true h = false≢true h
    sign_flag false h = false≢true h
flag_variable home e (a_denial a at n x) h = absurd (sign_not home is_flag a refl n x (class_test is_flag (expr.Not a at) (Expr-F.Not a at) (out_not a at) h))
flag_variable home e (a_cast z s a at x) h = absurd (false≢true (class_test is_flag (expr.Cast z s a at) (Expr-F.Cast z s a at) (out_cast z s a at) h))
flag_variable home e (of_two o a b at n x y) h = absurd (two_not home is_flag refl refl refl o a b at n x y h)

-- and what a run takes for one
pub run_flag : (home : Homes) (e : Expr) → IsExpanded home e → assignments.is_flag e ≡ true → is_flag (class_of e) ≡ true
run_flag home e x h = by_form e x h
  where
    layer_flag : (e : Expr) (l : Layer) → out-Expr e ≡ l → assignments.is_flag e ≡ true → is_flag_layer l ≡ true
    layer_flag e l s h = sym (ap is_flag_layer s) ∙ h

    by_home : (v : Var) → HasHome home v → is_bool (ref_of v).kind ≡ true → is_flag (var_class (known_of v)) ≡ true
    by_home v (a_flag n d k h) e = ap (λ q. is_flag (var_class q)) d
    by_home v (a_word z n d k h) e = absurd (false≢true (sym (ap is_bool k) ∙ e))
    by_home v (a_scalar z w d k h) e = absurd (false≢true (sym (ap is_bool k) ∙ e))
    by_home v (an_array z n w d c) e = absurd (false≢true (sym (ap is_bool c.0) ∙ e))

    by_form : (e : Expr) → IsExpanded home e → assignments.is_flag e ≡ true → is_flag (class_of e) ≡ true
    by_form e (a_number i at) h = absurd (false≢true (layer_flag (expr.Num i at) (Expr-F.Num i at) (out_num i at) h))
    by_form e (a_truth b at) h = absurd (false≢true (layer_flag (expr.Bool b at) (Expr-F.Expr::Bool b at) (out_bool b at) h))
    by_form e (a_variable v x) h = ap (λ l. is_flag (class_layer l)) (out_var v) ∙ by_home v x (layer_flag (expr.Var v) (Expr-F.Var v) (out_var v) h)
    by_form e (a_cell v i x y) h = absurd (false≢true (layer_flag (expr.Cell v i) (Expr-F.Cell v i) (out_cell v i) h))
    by_form e (a_load a x) h = absurd (false≢true (layer_flag (expr.Load a) (Expr-F.Load a) (out_load a) h))
    by_form e (a_minus a at n x) h = absurd (false≢true (layer_flag (expr.Neg a at) (Expr-F.Neg a at) (out_neg a at) h))
    by_form e (a_denial a at n x) h = absurd (false≢true (layer_flag (expr.Not a at) (Expr-F.Not a at) (out_not a at) h))
    by_form e (a_cast z s a at x) h = absurd (false≢true (layer_flag (expr.Cast z s a at) (Expr-F.Cast z s a at) (out_cast z s a at) h))
    by_form e (of_two o a b at n x y) h = absurd (false≢true (layer_flag (expr.Bin o a b at) (Expr-F.Bin o a b at) (out_bin o a b at) h))

pub flags_same : (home : Homes) (e : Expr) → IsExpanded home e → assignments.is_flag e ≡ is_flag (class_of e)
flags_same home e x = by_test (assignments.is_flag e) (is_flag (class_of e)) refl refl
  where
    flag_run : (f : IsFlagVariable home e) → assignments.is_flag e ≡ true
    flag_run f = ap assignments.is_flag f.is ∙ (ap is_flag_layer (out_var f.var) ∙ ap is_bool f.bool)

    by_test : (s t : Bool) → assignments.is_flag e ≡ s → is_flag (class_of e) ≡ t → s ≡ t
    by_test true true p q = refl
    by_test true false p q = sym (run_flag home e x p) ∙ q
    by_test false true p q = sym p ∙ flag_run (flag_variable home e x q)
    by_test false false p q = refl

-- ---- a masked byte
pub record IsMaskedByte (home : Homes) (e : Expr) (k : ℕ) : Type 0 where
  pub var : Var
  pub number : ℕ
  pub byte : home (key_of (ref_of var)) ≡ Some (in_register number S8)
  pub there : Span
  pub inner : Span
  pub is : e ≡ expr.Bin op.And (expr.Var var) (expr.Num (pos k) there) inner

record IsByte (home : Homes) (e : Expr) : Type 0 where
  pub var : Var
  pub is : e ≡ expr.Var var
  pub number : ℕ
  pub byte : home (key_of (ref_of var)) ≡ Some (in_register number S8)

byte_size : (home : Homes) (v : Var) (n : ℕ) (z : Size) → home (key_of (ref_of v)) ≡ Some (in_register n z) → is_byte (class.Reg z) ≡ true → home (key_of (ref_of v)) ≡ Some (in_register n S8)
byte_size home v n S8 h e = h
byte_size home v n S16 h e = absurd (false≢true e)
byte_size home v n S32 h e = absurd (false≢true e)
byte_size home v n S64 h e = absurd (false≢true e)

byte_home : (home : Homes) (v : Var) → HasHome home v → is_byte (var_class (known_of v)) ≡ true → IsByte home (expr.Var v)
byte_home home v (a_word z n d k h) e = record { var = v; is = refl; number = n; byte = byte_size home v n z h (sym (ap (λ q. is_byte (var_class q)) d) ∙ e) }
byte_home home v (a_flag n d k h) e = absurd (false≢true (sym (ap (λ q. is_byte (var_class q)) d) ∙ e))
byte_home home v (a_scalar z w d k h) e = absurd (false≢true (sym (ap (λ q. is_byte (var_class q)) d) ∙ e))
byte_home home v (an_array z n w d c) e = absurd (false≢true (sym (ap (λ q. is_byte (var_class q)) d) ∙ e))

byte_cell : (home : Homes) (v : Var) (i : Expr) → HasHome home v → is_byte (cell_of v i) ≡ true → ⊥
byte_cell home v i (a_word z n d k h) e = false≢true (sym (ap (λ q. is_byte (cell_class q (look_of i).inline (is_index (terms_of i)))) d) ∙ e)
byte_cell home v i (a_flag n d k h) e = false≢true (sym (ap (λ q. is_byte (cell_class q (look_of i).inline (is_index (terms_of i)))) d) ∙ e)
byte_cell home v i (a_scalar z w d k h) e = false≢true (sym (ap (λ q. is_byte (cell_class q (look_of i).inline (is_index (terms_of i)))) d) ∙ e)
byte_cell home v i (an_array z n w d c) e =
    no_if is_byte refl (is_index (terms_of i)) (class.Mem (Some z)) refl (sym (ap (λ q. is_byte (cell_class q (look_of i).inline (is_index (terms_of i)))) d) ∙ e)

byte_at : (e : Expr) (l : Layer) → out-Expr e ≡ l → is_byte (register_layer (out-Expr e)) ≡ true → is_byte (register_layer l) ≡ true
byte_at e l s h = sym (ap (λ k. is_byte (register_layer k)) s) ∙ h

byte_variable : (home : Homes) (e : Expr) → IsExpanded home e → is_byte (register_layer (out-Expr e)) ≡ true → IsByte home e
byte_variable home e (a_number i at) h = absurd (false≢true (byte_at (expr.Num i at) (Expr-F.Num i at) (out_num i at) h))
byte_variable home e (a_truth b at) h = absurd (false≢true (byte_at (expr.Bool b at) (Expr-F.Expr::Bool b at) (out_bool b at) h))
byte_variable home e (a_variable v x) h = byte_home home v x (byte_at (expr.Var v) (Expr-F.Var v) (out_var v) h)
byte_variable home e (a_cell v i x y) h = absurd (byte_cell home v i x (byte_at (expr.Cell v i) (Expr-F.Cell v i) (out_cell v i) h))
byte_variable home e (a_load a x) h = absurd (false≢true (byte_at (expr.Load a) (Expr-F.Load a) (out_load a) h))
byte_variable home e (a_minus a at n x) h = absurd (false≢true (byte_at (expr.Neg a at) (Expr-F.Neg a at) (out_neg a at) h))
byte_variable home e (a_denial a at n x) h = absurd (false≢true (byte_at (expr.Not a at) (Expr-F.Not a at) (out_not a at) h))
byte_variable home e (a_cast z s a at x) h = absurd (false≢true (byte_at (expr.Cast z s a at) (Expr-F.Cast z s a at) (out_cast z s a at) h))
byte_variable home e (of_two o a b at n x y) h = absurd (false≢true (byte_at (expr.Bin o a b at) (Expr-F.Bin o a b at) (out_bin o a b at) h))

abbrev pub mask_number : Bool → ℕ
mask_number longest = if longest then 63 else 31

-- the number of a mask that keeps what it has to
mask_there : (longest : Bool) (o : Option ℤ) → masks longest (mask_of o) ≡ true → o ≡ Some (pos (mask_number longest))
mask_there longest None h = absurd (false≢true h)
mask_there longest (Some k) h = by_five (int_eq k (pos 31)) refl h
  where
    by_six : (b : Bool) → int_eq k (pos 63) ≡ b → masks longest (if b then class.Masked mask.Six else class.Other) ≡ true → ◌≡◌ {A = Option ℤ} (Some k) (Some (pos (mask_number longest)))
    by_six true e h = ap (λ x. Some x) ((Decides-int_eq k (pos 63)).0 e ∙ ap (λ b. pos (mask_number b)) (sym h))
    by_six false e h = absurd (false≢true h)

    not_longest : (b : Bool) → not b ≡ true → b ≡ false
    not_longest true h = absurd (false≢true h)
    not_longest false h = refl

    by_five : (b : Bool) → int_eq k (pos 31) ≡ b → masks longest (if b then class.Masked mask.Five else if int_eq k (pos 63) then class.Masked mask.Six else class.Other) ≡ true → ◌≡◌ {A = Option ℤ} (Some k) (Some (pos (mask_number longest)))
    by_five true e h = ap (λ x. Some x) ((Decides-int_eq k (pos 31)).0 e ∙ ap (λ b. pos (mask_number b)) (sym (not_longest longest h)))
    by_five false e h = by_six (int_eq k (pos 63)) refl h

mask_if : (longest b : Bool) (c : Class) → masks longest (class_if b c) ≡ true → (b ≡ true) × (masks longest c ≡ true)
mask_if longest true c h = (refl, h)
mask_if longest false c h = absurd (false≢true h)

masked_two : (home : Homes) (longest : Bool) (o : BinOp) (a b : Expr) (at : Span) → IsExpanded home a → IsExpanded home b → masks longest (masked_class o a b) ≡ true → IsMaskedByte home (expr.Bin o a b at) (mask_number longest)
masked_two home longest op.And a b at x y h =
    let p = mask_if longest (is_byte (register_layer (out-Expr a))) (mask_of (written_number b)) h in
    let v = byte_variable home a x p.0 in
    let k = written_is home b y (pos (mask_number longest)) (mask_there longest (written_number b) p.1) in
    record {
      var = v.var;
      number = v.number;
      byte = v.byte;
      there = k.0;
      inner = at;
      is = ap (λ u. expr.Bin op.And u b at) v.is ∙ ap (λ u. expr.Bin op.And (expr.Var v.var) u at) k.1;
    }
masked_two home longest o a b at x y h = absurd (false≢true h)

not_inline : (longest b : Bool) (c : Class) → masks longest (inline_or b c) ≡ true → masks longest c ≡ true
not_inline longest true c h = absurd (false≢true h)
not_inline longest false c h = h

pub masked_byte : (home : Homes) (longest : Bool) (e : Expr) → IsExpanded home e → masks longest (class_of e) ≡ true → IsMaskedByte home e (mask_number longest)
masked_byte home longest e (a_number i at) h = absurd (false≢true (class_test (masks longest) (expr.Num i at) (Expr-F.Num i at) (out_num i at) h))
masked_byte home longest e (a_truth b at) h = absurd (false≢true (class_test (masks longest) (expr.Bool b at) (Expr-F.Expr::Bool b at) (out_bool b at) h))
masked_byte home longest e (a_variable v x) h =
    absurd (false≢true (home_class home (masks longest) v x (λ z. refl) (λ z. refl) refl (class_test (masks longest) (expr.Var v) (Expr-F.Var v) (out_var v) h)))
masked_byte home longest e (a_cell v i x y) h =
    absurd (no_cell (masks longest) (λ z. refl) (λ z. refl) refl (known_of v) (look_of i).inline (is_index (terms_of i)) (class_test (masks longest) (expr.Cell v i) (Expr-F.Cell v i) (out_cell v i) h))
masked_byte home longest e (a_load a x) h =
    absurd (no_if (masks longest) refl (is_address (terms_of (out-Access a).at)) (class.Mem (out-Access a).size) refl (class_test (masks longest) (expr.Load a) (Expr-F.Load a) (out_load a) h))
masked_byte home longest e (a_minus a at n x) h = absurd (false≢true (not_inline longest (look_of a).inline class.Other (class_test (masks longest) (expr.Neg a at) (Expr-F.Neg a at) (out_neg a at) h)))
masked_byte home longest e (a_denial a at n x) h = absurd (false≢true (not_inline longest (look_of a).inline class.Other (class_test (masks longest) (expr.Not a at) (Expr-F.Not a at) (out_not a at) h)))
masked_byte home longest e (a_cast z s a at x) h = absurd (false≢true (class_test (masks longest) (expr.Cast z s a at) (Expr-F.Cast z s a at) (out_cast z s a at) h))
masked_byte home longest e (of_two o a b at n x y) h =
    masked_two home longest o a b at x y
    (not_inline longest (bin_inline o (look_of a) (look_of b)) (masked_class o a b) (class_test (masks longest) (expr.Bin o a b at) (Expr-F.Bin o a b at) (out_bin o a b at) h))
