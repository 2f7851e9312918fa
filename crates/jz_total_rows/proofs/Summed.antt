-- A sum that an address or an index may be is one over variables, whose number and factors are those
-- that the limits ask.
use Rattle.std.proofs.Common.{◌≡◌, ℕ, ◌+◌, Bool, true, false, ◌&&◌, ◌||◌, List, [], ◌∷◌, ◌++◌, Option, Some, refl, sym, ap, ◌∙◌, subst, arith, inl, inr, if◌then◌else◌, ℤ, pos, ◌+ℤ◌, ◌-ℤ◌}
use Rattle.std.specs.Prelude.{◌⊎◌, ◌==◌}
use Rattle.std.specs.Ordering.{int_eq}
use Rattle.std.proofs.lemmas.Bool.{false≢true, true≢false, and_parts}
use Rattle.std.proofs.lemmas.Bool.Decides.{Decides-int_eq}
use Rattle.jz_words.specs.declared.size.Size.{Size}
use Rattle.jz_words.specs.declared.size.Size.TheVariants.{S8, S16, S32, S64}
use Rattle.jz_words.specs.Words.{residue}
use Rattle.jz_words.specs.Readings.{reading_of}
use Rattle.jz_words.proofs.Residues.{residue_below}
use Rattle.jz_tree.specs.Span.{Span}
use Rattle.jz_tree.specs.declared.expr.Storage.TheVariants as storage
use Rattle.jz_tree.specs.declared.expr.BinOp.{BinOp}
use Rattle.jz_tree.specs.declared.expr.BinOp.TheVariants as op
use Rattle.jz_tree.specs.declared.expr.Expr.{Expr}
use Rattle.jz_tree.specs.declared.expr.Expr.TheVariants as expr
use Rattle.jz_tree.specs.declared.expr.Expr.TheOpen.{Expr-F}
use Rattle.jz_tree.specs.declared.expr.Expr.TheViews.{out-Expr}
use Rattle.jz_tree.specs.declared.expr.Var.{Var}
use Rattle.jz_integers.specs.Integers.{the_number}
use Rattle.jz_integers.specs.declared.constant.Constant.{Constant}
use Rattle.jz_type_names.specs.declared.kinds.Kind.TheVariants as scope
use Rattle.jz_type_names.specs.Kinds.{known_of, is_inline}
use Rattle.jz_select.specs.declared.class.Sum as looked
use Rattle.jz_select.specs.Sums.{sum_of as looks_of, term, joined_sum, taken_sum}
use Rattle.jz_select.specs.Look.{Look, look_of, is_inline_var, is_reg64, is_regs64, reg64, gives_number, bin_inline, bin_scaled, bin_sum}
use Rattle.jz_row_laws.proofs.Booleans.{or_parts}
use Rattle.jz_row_laws.proofs.Fixed.{Layer, look_layer, var_looked, var_known}
use Rattle.jz_one_row.proofs.Outs.{out_num, out_bool, out_var, out_cell, out_load, out_neg, out_not, out_cast, out_bin}
use Rattle.jz_meaning.specs.Values.{key_of, ref_of}
use Rattle.jz_limits.specs.declared.looked.Asking.{Asking}
use Rattle.jz_limits.specs.Values.{no_numbers}
use Rattle.jz_limits.specs.Asked.{is_scale, or_zero}
use Rattle.jz_limits.specs.InnerLooked as found
use Rattle.jz_limits.specs.InnerLooked.{Seen, Part, seen_as, scale_value}
use Rattle.jz_limits.proofs.Layers.{inline_var, look_num, look_var, look_bin}
use Rattle.jz_homes.specs.Homes.{Homes, in_register}
use Rattle.jz_homes.specs.Sums as sums
use Rattle.jz_homes.specs.Sums.{Sum, sum_of, IsSum, a_multiple, multiple_of, added, less}
use Rattle.jz_homes.proofs.Reading.{signed_itself}
use Rattle.jz_total_rows.specs.Expanded.{HasHome, a_word, a_flag, a_scalar, an_array, IsExpanded, a_number, a_truth, a_variable, a_cell, a_load, a_minus, a_denial, a_cast, of_two}
use Rattle.jz_total_rows.proofs.Forms.{look_at, look_test, home_not_inline, looked_not_inline, number_inline}
use Rattle.jz_total_rows.proofs.InlineValues.{number_is_inline, inline_number, not_both}
use Rattle.jz_total_rows.proofs.Terms.{Counted, none, plain, scaled, both_counted, IsCount, exact, both_counts, other_order}

-- ---- factors
abbrev pub is_field : ℕ → Bool
is_field k = (k == 1) || ((k == 2) || ((k == 4) || (k == 8)))

abbrev pub AreFields : List (ℕ × ℕ) → Type 0
AreFields [] = Unit {0}
AreFields (t ∷ ts) = (is_field t.1 ≡ true) × AreFields ts

both_fields : (ts us : List (ℕ × ℕ)) → AreFields ts → AreFields us → AreFields (ts ++ us)
both_fields [] us f g = g
both_fields (t ∷ ts) us f g = (f.0, both_fields ts us f.1 g)

field_by : (k : ℤ) (m : ℕ) → is_field m ≡ true → residue S64 (pos m) ≡ m → int_eq (reading_of S64 k) (pos m) ≡ true → is_field (residue S64 k) ≡ true
field_by k m f r e =
    let s : reading_of S64 k ≡ pos m = (Decides-int_eq (reading_of S64 k) (pos m)).0 e in
    let back : residue S64 (reading_of S64 k) ≡ residue S64 k = signed_itself S64 (residue S64 k) (residue_below S64 k) in
    ap is_field (sym back ∙ (ap (residue S64) s ∙ r)) ∙ f

field_of : (k : ℤ) → is_scale k ≡ true → is_field (residue S64 k) ≡ true
field_of k h = by_pairs (or_parts (int_eq r (pos 1) || int_eq r (pos 2)) (int_eq r (pos 4) || int_eq r (pos 8)) h)
  where
    r : ℤ
    r = reading_of S64 k

    by_first : (int_eq r (pos 1) ≡ true) ⊎ (int_eq r (pos 2) ≡ true) → is_field (residue S64 k) ≡ true
    by_first (inl e) = field_by k 1 refl refl e
    by_first (inr e) = field_by k 2 refl refl e

    by_second : (int_eq r (pos 4) ≡ true) ⊎ (int_eq r (pos 8) ≡ true) → is_field (residue S64 k) ≡ true
    by_second (inl e) = field_by k 4 refl refl e
    by_second (inr e) = field_by k 8 refl refl e

    by_pairs : ((int_eq r (pos 1) || int_eq r (pos 2)) ≡ true) ⊎ ((int_eq r (pos 4) || int_eq r (pos 8)) ≡ true) → is_field (residue S64 k) ≡ true
    by_pairs (inl e) = by_first (or_parts (int_eq r (pos 1)) (int_eq r (pos 2)) e)
    by_pairs (inr e) = by_second (or_parts (int_eq r (pos 4)) (int_eq r (pos 8)) e)

-- ---- what is seen
abbrev pub seen : Asking → Expr → Seen
seen q e = found.look_of no_numbers q e

terms_outside : (b : Bool) (v : Option Constant) (at : Span) (q : Asking) (p : Part) → b ≡ false → (seen_as b v at q p).terms ≡ p.terms
terms_outside true v at q p e = absurd (true≢false e)
terms_outside false v at q p e = refl

scaled_outside : (b : Bool) (v : Option Constant) (at : Span) (q : Asking) (p : Part) → b ≡ false → (seen_as b v at q p).scaled ≡ p.scaled
scaled_outside true v at q p e = absurd (true≢false e)
scaled_outside false v at q p e = refl

pub number_value : (q : Asking) (e : Expr) (i : ℤ) (at : Span) → e ≡ expr.Num i at → the_number (seen q e).value ≡ Some i
number_value q e i at s = ap (λ x. the_number (seen q x).value) s ∙ ap (λ (k : Seen). the_number k.value) (look_num no_numbers q i at)

-- ---- sums by what they look like
pub record SumAs (home : Homes) (e : Expr) (s : looked.Sum) : Type 0 where
  pub sum : Sum
  pub is : IsSum home e sum
  pub plains : ℕ
  pub scales : ℕ
  pub counted : Counted sum.terms plains scales
  pub few : IsCount s.plain plains
  pub few_scaled : IsCount s.scaled scales
  pub number : (q : Asking) → (seen q e).terms ≡ sum.number
  pub factors : (q : Asking) → (seen q e).scaled ≡ true → AreFields sum.terms

at_layer : (home : Homes) (e : Expr) (l : Layer) → out-Expr e ≡ l → SumAs home e (look_layer l).sum → SumAs home e (look_of e).sum
at_layer home e l s h = subst (λ k. SumAs home e k) (sym (ap (λ (k : Look). k.sum) (look_at e l s))) h

-- ---- a number
number_sum : (home : Homes) (i : ℤ) (at : Span) → SumAs home (expr.Num i at) (looks_of 0 0 true)
number_sum home i at =
    record {
      sum = sum_of [] i;
      is = sums.a_number i at;
      plains = 0;
      scales = 0;
      counted = none;
      few = exact 0 (omega (arith));
      few_scaled = exact 0 (omega (arith));
      number = λ q. ap (λ (k : Seen). k.terms) (look_num no_numbers q i at);
      factors = λ q h. tt;
    }

-- ---- a register of 64 bits
longest : (home : Homes) (v : Var) (n : ℕ) (z : Size) → home (key_of (ref_of v)) ≡ Some (in_register n z) → reg64 storage.Reg (scope.Word z) ≡ true → home (key_of (ref_of v)) ≡ Some (in_register n S64)
longest home v n S8 h e = absurd (false≢true e)
longest home v n S16 h e = absurd (false≢true e)
longest home v n S32 h e = absurd (false≢true e)
longest home v n S64 h e = h

abbrev pub InRegister : Homes → Var → Type 0
InRegister home v = (n : ℕ) × (home (key_of (ref_of v)) ≡ Some (in_register n S64))

register_there : (home : Homes) (v : Var) → HasHome home v → is_reg64 (known_of v) ≡ true → InRegister home v
register_there home v (a_word z n d k h) e = (n, longest home v n z h (sym (ap is_reg64 d) ∙ e))
register_there home v (a_flag n d k h) e = absurd (false≢true (sym (ap is_reg64 d) ∙ e))
register_there home v (a_scalar z w d k h) e = absurd (false≢true (sym (ap is_reg64 d) ∙ e))
register_there home v (an_array z n w d h) e = absurd (false≢true (sym (ap is_reg64 d) ∙ e))

no_registers : (home : Homes) (v : Var) → HasHome home v → is_regs64 (var_looked v) ≡ false
no_registers home v x = ap is_regs64 (var_known v) ∙ by_home x
  where
    by_home : HasHome home v → is_regs64 (known_of v) ≡ false
    by_home (a_word z n d k h) = ap is_regs64 d
    by_home (a_flag n d k h) = ap is_regs64 d
    by_home (a_scalar z w d k h) = ap is_regs64 d
    by_home (an_array z n w d h) = ap is_regs64 d

reg_good : (i r : Bool) → i ≡ false → (term i r false).good ≡ true → r ≡ true
reg_good true r e h = absurd (true≢false e)
reg_good false true e h = refl
reg_good false false e h = absurd (false≢true h)

reg_term : (i r : Bool) → i ≡ false → r ≡ true → term i r false ≡ looks_of 1 0 true
reg_term true r e f = absurd (true≢false e)
reg_term false true e f = refl
reg_term false false e f = absurd (false≢true f)

variable_sum : (home : Homes) (v : Var) → HasHome home v → (look_layer (Expr-F.Var v)).sum.good ≡ true → SumAs home (expr.Var v) (look_layer (Expr-F.Var v)).sum
variable_sum home v x h =
    let i = is_inline_var (var_looked v) in
    let r = is_reg64 (var_looked v) in
    let n = looked_not_inline home v x in
    let e = reg_good i r n h in
    let at = register_there home v x (sym (ap is_reg64 (var_known v)) ∙ e) in
    subst (λ s. SumAs home (expr.Var v) s) (sym (reg_term i r n e))
    (record {
      sum = sum_of ((at.0, 1) ∷ []) (pos 0);
      is = sums.a_variable v at.0 at.1;
      plains = 1;
      scales = 0;
      counted = plain at.0 none;
      few = exact 1 (omega (arith));
      few_scaled = exact 0 (omega (arith));
      number = λ q. ap (λ (k : Seen). k.terms) (look_var no_numbers q v) ∙ terms_outside _ _ _ _ _ (home_not_inline home v x);
      factors = λ q g. (refl, tt);
    })

-- ---- what is a register
pub record IsRegister (home : Homes) (e : Expr) : Type 0 where
  pub var : Var
  pub is : e ≡ expr.Var var
  pub home_of : HasHome home var
  pub there : InRegister home var

pub register_variable : (home : Homes) (e : Expr) → IsExpanded home e → (look_of e).reg ≡ true → IsRegister home e
register_variable home e (a_number i at) h = absurd (false≢true (look_test (λ l. l.reg) (expr.Num i at) (Expr-F.Num i at) (out_num i at) h))
register_variable home e (a_truth b at) h = absurd (false≢true (look_test (λ l. l.reg) (expr.Bool b at) (Expr-F.Expr::Bool b at) (out_bool b at) h))
register_variable home e (a_variable v x) h =
    record {
      var = v;
      is = refl;
      home_of = x;
      there = register_there home v x (sym (ap is_reg64 (var_known v)) ∙ look_test (λ l. l.reg) (expr.Var v) (Expr-F.Var v) (out_var v) h);
    }
register_variable home e (a_cell v i x y) h =
    absurd
    (false≢true
    (sym (no_registers home v x)
    ∙ (and_parts (is_regs64 (var_looked v)) (look_of i).inline (look_test (λ l. l.reg) (expr.Cell v i) (Expr-F.Cell v i) (out_cell v i) h)).0))
register_variable home e (a_load a x) h = absurd (false≢true (look_test (λ l. l.reg) (expr.Load a) (Expr-F.Load a) (out_load a) h))
register_variable home e (a_minus a at n x) h = absurd (false≢true (look_test (λ l. l.reg) (expr.Neg a at) (Expr-F.Neg a at) (out_neg a at) h))
register_variable home e (a_denial a at n x) h = absurd (false≢true (look_test (λ l. l.reg) (expr.Not a at) (Expr-F.Not a at) (out_not a at) h))
register_variable home e (a_cast z s a at x) h = absurd (false≢true (look_test (λ l. l.reg) (expr.Cast z s a at) (Expr-F.Cast z s a at) (out_cast z s a at) h))
register_variable home e (of_two o a b at n x y) h = absurd (false≢true (look_test (λ l. l.reg) (expr.Bin o a b at) (Expr-F.Bin o a b at) (out_bin o a b at) h))

-- ---- operations
inline_good : (b : Bool) → (term b false false).good ≡ true → b ≡ true
inline_good true h = refl
inline_good false h = absurd (false≢true h)

module _ (home : Homes) (a b : Expr) (at : Span) (n : (is_inline a && is_inline b) ≡ false) where
  terms_two : (o : BinOp) (q : Asking) → (seen q (expr.Bin o a b at)).terms ≡ found.operation_terms o (seen q a) (seen q b)
  terms_two o q = ap (λ (k : Seen). k.terms) (look_bin no_numbers q o a b at) ∙ terms_outside _ _ _ _ _ n

  scaled_two : (o : BinOp) (q : Asking) → (seen q (expr.Bin o a b at)).scaled ≡ found.operation_scaled o (seen q a) (seen q b)
  scaled_two o q = ap (λ (k : Seen). k.scaled) (look_bin no_numbers q o a b at) ∙ scaled_outside _ _ _ _ _ n

  added_sum : SumAs home a (look_of a).sum → SumAs home b (look_of b).sum → SumAs home (expr.Bin op.Add a b at) (joined_sum (look_of b).sum (look_of a).sum)
  added_sum x y =
      record {
        sum = sum_of (x.sum.terms ++ y.sum.terms) (x.sum.number +ℤ y.sum.number);
        is = added at x.is y.is;
        plains = x.plains + y.plains;
        scales = x.scales + y.scales;
        counted = both_counted x.counted y.counted;
        few = other_order y.plains x.plains (both_counts y.few x.few);
        few_scaled = other_order y.scales x.scales (both_counts y.few_scaled x.few_scaled);
        number = λ q. terms_two op.Add q ∙ (ap (λ k. k +ℤ (seen q b).terms) (x.number q) ∙ ap (λ k. x.sum.number +ℤ k) (y.number q));
        factors = λ q h.
            let p = and_parts (seen q a).scaled (seen q b).scaled (sym (scaled_two op.Add q) ∙ h) in
            both_fields x.sum.terms y.sum.terms (x.factors q p.0) (y.factors q p.1);
      }

  less_sum : SumAs home a (look_of a).sum → (i : ℤ) (there : Span) → b ≡ expr.Num i there → (t : Bool) → SumAs home (expr.Bin op.Sub a b at) (joined_sum (taken_sum t) (look_of a).sum)
  less_sum x i there e t =
      record {
        sum = sum_of x.sum.terms (x.sum.number -ℤ i);
        is = subst (λ y. IsSum home (expr.Bin op.Sub a y at) (sum_of x.sum.terms (x.sum.number -ℤ i))) (sym e) (less i there at x.is);
        plains = x.plains;
        scales = x.scales;
        counted = x.counted;
        few = behind_none x.few;
        few_scaled = behind_none x.few_scaled;
        number = λ q.
            terms_two op.Sub q
            ∙ (ap (λ k. k -ℤ or_zero (the_number (seen q b).value)) (x.number q)
            ∙ ap (λ k. x.sum.number -ℤ or_zero k) (number_value q b i there e));
        factors = λ q h. x.factors q (sym (scaled_two op.Sub q) ∙ h);
      }
    where
      behind_none : {c p : ℕ} → IsCount c p → IsCount (Rattle.jz_select.specs.Sums.capped_count 0 c) p
      behind_none {c} {p} f = subst (λ k. IsCount (Rattle.jz_select.specs.Sums.capped_count 0 c) k) (omega (arith)) (both_counts (exact 0 (omega (arith))) f)

  abbrev product_if : Bool → Bool → Option ℤ → Option ℤ → Bool
  product_if i j x y = if i then scale_value x else if j then scale_value y else true

  scale_right : (i j : Bool) (x y : Option ℤ) (k : ℤ) → i ≡ false → j ≡ true → y ≡ Some k → product_if i j x y ≡ true → is_scale k ≡ true
  scale_right i j x y k e f g h = sym (ap (λ t. product_if t j x y) e ∙ (ap (λ t. product_if false t x y) f ∙ ap scale_value g)) ∙ h

  scale_left : (i j : Bool) (x y : Option ℤ) (k : ℤ) → i ≡ true → x ≡ Some k → product_if i j x y ≡ true → is_scale k ≡ true
  scale_left i j x y k e g h = sym (ap (λ t. product_if t j x y) e ∙ ap scale_value g) ∙ h

  register_first : IsRegister home a → (k : ℤ) (there : Span) → b ≡ expr.Num k there → SumAs home (expr.Bin op.Mul a b at) (looks_of 0 1 true)
  register_first r k there e =
      let m = r.there.0 in
      let s = sum_of ((m, residue S64 k) ∷ []) (pos 0) in
      record {
        sum = s;
        is =
            subst (λ x. IsSum home (expr.Bin op.Mul x b at) s) (sym r.is)
            (subst (λ y. IsSum home (expr.Bin op.Mul (expr.Var r.var) y at) s) (sym e) (a_multiple r.var m k there at r.there.1));
        plains = 0;
        scales = 1;
        counted = scaled m (residue S64 k) none;
        few = exact 0 (omega (arith));
        few_scaled = exact 1 (omega (arith));
        number = λ q. terms_two op.Mul q;
        factors = λ q h. (
          field_of k
              (scale_right (is_inline a) (is_inline b) (the_number (seen q a).value) (the_number (seen q b).value) k
              (ap is_inline r.is ∙ (inline_var r.var ∙ home_not_inline home r.var r.home_of)) (ap is_inline e ∙ number_inline k there) (number_value q b k there e)
              (sym (scaled_two op.Mul q) ∙ h)),
          tt,
        );
      }

  register_second : IsRegister home b → (k : ℤ) (there : Span) → a ≡ expr.Num k there → SumAs home (expr.Bin op.Mul a b at) (looks_of 0 1 true)
  register_second r k there e =
      let m = r.there.0 in
      let s = sum_of ((m, residue S64 k) ∷ []) (pos 0) in
      record {
        sum = s;
        is =
            subst (λ y. IsSum home (expr.Bin op.Mul a y at) s) (sym r.is)
            (subst (λ x. IsSum home (expr.Bin op.Mul x (expr.Var r.var) at) s) (sym e) (multiple_of r.var m k there at r.there.1));
        plains = 0;
        scales = 1;
        counted = scaled m (residue S64 k) none;
        few = exact 0 (omega (arith));
        few_scaled = exact 1 (omega (arith));
        number = λ q. terms_two op.Mul q;
        factors = λ q h. (
          field_of k
              (scale_left (is_inline a) (is_inline b) (the_number (seen q a).value) (the_number (seen q b).value) k
              (ap is_inline e ∙ number_inline k there) (number_value q a k there e) (sym (scaled_two op.Mul q) ∙ h)),
          tt,
        );
      }

  both_numbers : IsExpanded home a → IsExpanded home b → (o : BinOp) → bin_inline o (look_of a) (look_of b) ≡ true → ⊥
  both_numbers x y o h =
      let p = and_parts (look_of b).inline (look_of a).inline (and_parts (gives_number o) ((look_of b).inline && (look_of a).inline) h).1 in
      not_both a b n (number_is_inline a (inline_number home a x p.1)) (number_is_inline b (inline_number home b y p.0))

  product_good : (i s : Bool) → (i ≡ true → ⊥) → (term i false s).good ≡ true → (s ≡ true) × (term i false s ≡ looks_of 0 1 true)
  product_good true s f h = absurd (f refl)
  product_good false true f h = (refl, refl)
  product_good false false f h = absurd (false≢true h)

  product_sum : IsExpanded home a → IsExpanded home b → (bin_sum op.Mul (look_of a) (look_of b)).good ≡ true → SumAs home (expr.Bin op.Mul a b at) (bin_sum op.Mul (look_of a) (look_of b))
  product_sum x y h =
      let l = look_of a in
      let r = look_of b in
      let p = product_good (bin_inline op.Mul l r) (bin_scaled op.Mul l r) (both_numbers x y op.Mul) h in
      subst (λ s. SumAs home (expr.Bin op.Mul a b at) s) (sym p.1) (by_part (or_parts (l.reg && r.inline) (l.inline && r.reg) p.0))
    where
      by_part : (((look_of a).reg && (look_of b).inline) ≡ true) ⊎ (((look_of a).inline && (look_of b).reg) ≡ true) → SumAs home (expr.Bin op.Mul a b at) (looks_of 0 1 true)
      by_part (inl e) =
          let p = and_parts (look_of a).reg (look_of b).inline e in
          let k = inline_number home b y p.1 in
          register_first (register_variable home a x p.0) k.0 k.1 k.2
      by_part (inr e) =
          let p = and_parts (look_of a).inline (look_of b).reg e in
          let k = inline_number home a x p.0 in
          register_second (register_variable home b y p.1) k.0 k.1 k.2

  two_sum : (o : BinOp) → IsExpanded home a → IsExpanded home b → ((look_of a).sum.good ≡ true → SumAs home a (look_of a).sum) → ((look_of b).sum.good ≡ true → SumAs home b (look_of b).sum)
      → (bin_sum o (look_of a) (look_of b)).good ≡ true → SumAs home (expr.Bin o a b at) (bin_sum o (look_of a) (look_of b))
  two_sum op.Add x y f g h = let p = and_parts (look_of b).sum.good (look_of a).sum.good h in added_sum (f p.1) (g p.0)
  two_sum op.Sub x y f g h =
      let p = and_parts (look_of b).inline (look_of a).sum.good h in
      let k = inline_number home b y p.0 in
      less_sum (f p.1) k.0 k.1 k.2 (look_of b).inline
  two_sum op.Mul x y f g h = product_sum x y h
  two_sum o x y f g h = absurd (both_numbers x y o (inline_good (bin_inline o (look_of a) (look_of b)) h))

-- ---- each form
cell_good : (r i : Bool) → r ≡ false → (term false (r && i) false).good ≡ true → ⊥
cell_good true i e h = true≢false e
cell_good false i e h = false≢true h

pub sum_there : (home : Homes) (e : Expr) → IsExpanded home e → (look_of e).sum.good ≡ true → SumAs home e (look_of e).sum
sum_there home e (a_number i at) h = at_layer home (expr.Num i at) (Expr-F.Num i at) (out_num i at) (number_sum home i at)
sum_there home e (a_truth b at) h = absurd (false≢true (look_test (λ l. l.sum.good) (expr.Bool b at) (Expr-F.Expr::Bool b at) (out_bool b at) h))
sum_there home e (a_variable v x) h =
    at_layer home (expr.Var v) (Expr-F.Var v) (out_var v) (variable_sum home v x (look_test (λ l. l.sum.good) (expr.Var v) (Expr-F.Var v) (out_var v) h))
sum_there home e (a_cell v i x y) h =
    absurd (cell_good (is_regs64 (var_looked v)) (look_of i).inline (no_registers home v x) (look_test (λ l. l.sum.good) (expr.Cell v i) (Expr-F.Cell v i) (out_cell v i) h))
sum_there home e (a_load a x) h = absurd (false≢true (look_test (λ l. l.sum.good) (expr.Load a) (Expr-F.Load a) (out_load a) h))
sum_there home e (a_minus a at n x) h =
    absurd
    (false≢true
    (sym n ∙ number_is_inline a (inline_number home a x (inline_good (look_of a).inline (look_test (λ l. l.sum.good) (expr.Neg a at) (Expr-F.Neg a at) (out_neg a at) h)))))
sum_there home e (a_denial a at n x) h =
    absurd
    (false≢true
    (sym n ∙ number_is_inline a (inline_number home a x (inline_good (look_of a).inline (look_test (λ l. l.sum.good) (expr.Not a at) (Expr-F.Not a at) (out_not a at) h)))))
sum_there home e (a_cast z s a at x) h = absurd (false≢true (look_test (λ l. l.sum.good) (expr.Cast z s a at) (Expr-F.Cast z s a at) (out_cast z s a at) h))
sum_there home e (of_two o a b at n x y) h =
    at_layer home (expr.Bin o a b at) (Expr-F.Bin o a b at) (out_bin o a b at)
    (two_sum home a b at n o x y (sum_there home a x) (sum_there home b y) (look_test (λ l. l.sum.good) (expr.Bin o a b at) (Expr-F.Bin o a b at) (out_bin o a b at) h))
