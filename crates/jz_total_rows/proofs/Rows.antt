-- Rows of one destination, whose operands stand beside it.
use Rattle.std.proofs.Common.{◌≡◌, ℕ, ◌<◌, ◌≤◌, Bool, true, false, not, ◌&&◌, ◌||◌, List, [], ◌∷◌, ◌++◌, Option, Some, None, refl, sym, ap, ◌∙◌, subst, inl, inr, ℤ, pos}
use Rattle.std.specs.Prelude.{◌⊎◌, All}
use Rattle.std.proofs.lemmas.Bool.{false≢true, true≢false, and_parts}
use Rattle.std.proofs.lemmas.List.Elements.{All-nil, All-cons, All-append}
use Rattle.jz_words.specs.declared.size.Size.{Size}
use Rattle.jz_words.specs.declared.size.Size.TheVariants.{S8, S16, S32, S64}
use Rattle.jz_words.specs.Sizes.{bits_of}
use Rattle.x64_insn.specs.declared.types.Alu.{Alu}
use Rattle.x64_insn.specs.declared.types.One.{One}
use Rattle.x64_insn.specs.Table.{immediate_by}
use Rattle.x64_insn.specs.Chosen.{is_test}
use Rattle.jz_words.specs.Readings.{fits_bytes}
use Rattle.jz_tree.specs.Span.{Span}
use Rattle.jz_tree.specs.declared.expr.BinOp.{BinOp}
use Rattle.jz_tree.specs.declared.expr.BinOp.TheVariants as op
use Rattle.jz_tree.specs.declared.expr.Expr.{Expr}
use Rattle.jz_tree.specs.declared.expr.Expr.TheVariants as expr
use Rattle.jz_tree.specs.declared.expr.Var.{Var}
use Rattle.jz_tree.specs.declared.stmt.Lval.{Lval}
use Rattle.jz_select.specs.declared.class.Class.{Class}
use Rattle.jz_select.specs.declared.class.Operand.{Operand}
use Rattle.jz_select.specs.Rows.{is_r, is_i, is_rm, is_wide, adds, joins_bits, swaps, are_inline, computes, changes}
use Rattle.jz_meaning.specs.Values.{key_of, ref_of, own_size}
use Rattle.jz_operations.specs.declared.operation.Arg.{Arg}
use Rattle.jz_operations.specs.declared.operation.Arg.TheVariants as arg
use Rattle.jz_operations.specs.declared.operation.Action.{Action}
use Rattle.jz_operations.specs.declared.operation.Action.TheVariants as action
use Rattle.jz_operations.specs.declared.operation.Pinned.{Pinned}
use Rattle.jz_change.specs.declared.change.Numbers.{Numbers}
use Rattle.jz_encodable.specs.Encodable.{CanEncode}
use Rattle.jz_homes.specs.Homes.{Homes, in_register, in_flag}
use Rattle.jz_homes.specs.Operands.{Leaks, silent, IsArg, IsDest, to_word, to_scalar, to_cell, to_memory}
use Rattle.jz_row_operations.specs.Rows.{IsWide, NotImm, NotBothImm, IsSumOp, alu_of, commutes, IsCarryOp, carry_alu, IsSign, IsShiftOp, shift_of, mask_of}
use Rattle.jz_row_operations.specs.Table.{is_imm, behind}
use Rattle.jz_row_operations.specs.Lowering.{HasRow, moves, sums, carries, signs, times, times_by, shifts, shifts_by, extends, lowest}
use Rattle.jz_total_rows.proofs.Fits.{is_place, Fits, alu_spelled, mov_spelled, one_spelled, shift_spelled, shift_by_spelled, imul_spelled, imul_by_spelled, extend_spelled}
use Rattle.jz_total_rows.proofs.Stands as stands
use Rattle.jz_total_rows.proofs.Stands.{Stands, is_variable, stands_i, stands_place, variable_of}
use Rattle.jz_total_rows.proofs.Bringing.{encode, Beside, Brought, brings, changes_brings}

-- ---- immediates
pub not_imm : (x : Arg) → is_imm x ≡ false → NotImm x
not_imm (arg.Var v) h = tt
not_imm (arg.Mem m) h = tt
not_imm (arg.Cell c) h = tt
not_imm (arg.At r p) h = tt
not_imm (arg.Imm i) h = absurd (true≢false h)

not_both_imm : (x y : Arg) → (is_imm x && is_imm y) ≡ false → NotBothImm x y
not_both_imm (arg.Imm i) (arg.Imm j) h = absurd (true≢false h)
not_both_imm (arg.Imm i) (arg.Var v) h = tt
not_both_imm (arg.Imm i) (arg.Mem m) h = tt
not_both_imm (arg.Imm i) (arg.Cell c) h = tt
not_both_imm (arg.Imm i) (arg.At r p) h = tt
not_both_imm (arg.Var v) y h = tt
not_both_imm (arg.Mem m) y h = tt
not_both_imm (arg.Cell c) y h = tt
not_both_imm (arg.At r p) y h = tt

pub place_not_imm : (x : Arg) → is_place x ≡ true → is_imm x ≡ false
place_not_imm (arg.Var v) h = refl
place_not_imm (arg.Mem m) h = refl
place_not_imm (arg.Cell c) h = refl
place_not_imm (arg.Imm i) h = absurd (false≢true h)
place_not_imm (arg.At r p) h = absurd (false≢true h)

inverse : (b : Bool) → not b ≡ true → b ≡ false
inverse true h = absurd (false≢true h)
inverse false h = refl

not_imm_place : {c : Class} {x : Arg} → Stands c x → is_imm x ≡ false → is_place x ≡ true
not_imm_place (stands.in_variable z n) e = refl
not_imm_place (stands.in_memory z m) e = refl
not_imm_place (stands.in_frame z m) e = refl
not_imm_place (stands.as_number j) e = absurd (true≢false e)

-- ---- operators
pub sum_operator : (o : BinOp) → (adds o || (joins_bits o && true)) ≡ true → IsSumOp o
sum_operator op.Add h = tt
sum_operator op.Sub h = tt
sum_operator op.And h = tt
sum_operator op.Or h = tt
sum_operator op.Xor h = tt
sum_operator o h = absurd (false≢true h)

same_swaps : (o : BinOp) → swaps o ≡ commutes o
same_swaps op.Add = refl
same_swaps op.Sub = refl
same_swaps op.And = refl
same_swaps op.Or = refl
same_swaps op.Xor = refl
same_swaps o = refl

no_test : (o : BinOp) → is_test (alu_of o) ≡ false
no_test op.Add = refl
no_test op.Sub = refl
no_test op.And = refl
no_test op.Or = refl
no_test o = refl

no_test_carry : (o : BinOp) → is_test (carry_alu o) ≡ false
no_test_carry op.Add = refl
no_test_carry o = refl

-- ---- the destination in a register
pub record InVariable (home : Homes) (z : Size) (d : Lval) (b : Arg) (r : Leaks) : Type 0 where
  pub number : ℕ
  pub is_arg : b ≡ arg.Var number
  pub is_dest : IsDest home z d (arg.Var number) silent

pub in_variable : (home : Homes) (z : Size) (d : Lval) (b : Arg) (r : Leaks) → IsDest home z d b r → is_variable b ≡ true → InVariable home z d b r
in_variable home z d b r (to_word v n k h) e = record { number = n; is_arg = refl; is_dest = to_word v n k h }
in_variable home z d b r (to_scalar v w k h) e = absurd (false≢true e)
in_variable home z d b r (to_cell v i n w t c j cells s k) e = absurd (false≢true e)
in_variable home z d b r (to_memory a t m k s j) e = absurd (false≢true e)

pub wide_of : (o : Option Size) (z : Size) → ((y : Size) → o ≡ Some y → y ≡ z) → is_wide o ≡ true → IsWide z
wide_of None z f h = absurd (false≢true h)
wide_of (Some y) z f h = subst IsWide (f y refl) (by_size y h)
  where
    by_size : (y : Size) → is_wide (Some y) ≡ true → IsWide y
    by_size S8 h = absurd (false≢true h)
    by_size S16 h = tt
    by_size S32 h = tt
    by_size S64 h = tt

module _ (home : Homes) (z : Size) (d : Lval) where
  -- the row of the assignment of that right side, which can be encoded
  pub record RowFound (w : Expr) : Type 0 where
    pub acts : List Action
    pub items : List Numbers
    pub row : HasRow home z d w acts items
    pub encoded : All CanEncode acts

  one_encoded : (a : Action) → CanEncode a → All CanEncode (a ∷ [])
  one_encoded a h = All-cons CanEncode a [] h (All-nil CanEncode)

  -- `d = o`
  pub move_found : (e : Expr) (x b : Arg) (p r : Leaks) → IsArg home z e x p → IsDest home z d b r → CanEncode (action.Mov z b x) → RowFound e
  move_found e x b p r i t h = record { acts = _; items = _; row = moves i t; encoded = one_encoded (action.Mov z b x) h }

  module _ (b : Arg) (r : Leaks) (t : IsDest home z d b r) (c : Class) (s : Stands c b) (f : Fits z b) where
    second_fits : {w : Bool} {x y : Arg} → (k : Brought w z b x y) → Fits z x → Fits z y → Fits z k.second
    second_fits {w} {x} {y} k p q = by_from k.from
      where
        by_from : (k.second ≡ y) ⊎ ((w ≡ true) × (k.second ≡ x)) → Fits z k.second
        by_from (inl e) = subst (Fits z) (sym e) q
        by_from (inr e) = subst (Fits z) (sym e.1) p

    alu_encoded : {w : Bool} {x y : Arg} → (a : Alu) (g : Option Pinned) → is_test a ≡ false → is_rm c ≡ true → (k : Brought w z b x y) → Fits z x → Fits z y → All CanEncode (k.before ++ (action.Alu a z b k.second g ∷ []))
    alu_encoded a g n h k p q =
        let i = second_fits k p q in
        All-append CanEncode k.before (action.Alu a z b k.second g ∷ []) k.encoded
        (one_encoded (action.Alu a z b k.second g) (encode (action.Alu a z b k.second g) (λ e l. alu_spelled e a z b k.second g n (stands_place s h) k.one (f e l) (i e l))))

    -- ---- rows of two operands
    module _ (u v : Expr) (x y : Arg) (p q : Leaks) (i : IsArg home z u x p) (j : IsArg home z v y q) (a o : Operand) (m : Beside z b x a) (n : Beside z b y o) where
      no_two_imm : not (are_inline a o) ≡ true → NotBothImm x y
      no_two_imm h = not_both_imm x y (sym (ap (λ k. k && is_imm y) (stands_i m.stands)) ∙ (sym (ap (λ k. is_i a.class && k) (stands_i n.stands)) ∙ inverse (are_inline a o) h))

      -- `d = a op o`
      pub sum_found : (g : BinOp) (at : Span) → IsSumOp g → not (are_inline a o) ≡ true → computes (swaps g) c a o ≡ true → RowFound (expr.Bin g u v at)
      sum_found g at w h e =
          let k = brings (commutes g) z b x y c a o s f m n (sym (ap (λ w. computes w c a o) (same_swaps g)) ∙ e) in
          record {
            acts = k.before ++ (action.Alu (alu_of g) z b k.second None ∷ []);
            items = _;
            row = sums at w i j t (no_two_imm h) (ap (behind (λ l. action.Alu (alu_of g) z b l None)) k.is);
            encoded = alu_encoded (alu_of g) None (no_test g) (and_parts (is_rm c) _ e).0 k m.fits n.fits;
          }

      -- `d = a op o op c`
      pub carry_found : (g : BinOp) (fl : Var) (k : ℕ) (inner at : Span) → IsCarryOp g → home (key_of (ref_of fl)) ≡ Some (in_flag k) → not (are_inline a o) ≡ true → computes (swaps g) c a o ≡ true
          → RowFound (expr.Bin g (expr.Bin g u v inner) (expr.Var fl) at)
      carry_found g fl k inner at w fh h e =
          let l = brings (commutes g) z b x y c a o s f m n (sym (ap (λ w. computes w c a o) (same_swaps g)) ∙ e) in
          let pin : Pinned = record { variable = k; span = (ref_of fl).span } in
          record {
            acts = l.before ++ (action.Alu (carry_alu g) z b l.second (Some pin) ∷ []);
            items = _;
            row = carries fl pin inner at w i j t (no_two_imm h) fh refl (ap (behind (λ y. action.Alu (carry_alu g) z b y (Some pin))) l.is);
            encoded = alu_encoded (carry_alu g) (Some pin) (no_test_carry g) (and_parts (is_rm c) _ e).0 l m.fits n.fits;
          }

      -- `r = a * o`
      pub times_found : (at : Span) → IsWide z → is_r c ≡ true → is_rm o.class ≡ true → computes (not (is_i a.class)) c a o ≡ true → RowFound (expr.Bin op.Mul u v at)
      times_found at w h g e =
          let b' = variable_of s h in
          let vr = in_variable home z d b r t (ap is_variable b'.1) in
          let k = brings (not (is_imm x)) z b x y c a o s f m n (sym (ap (λ w. computes (not w) c a o) (stands_i m.stands)) ∙ e) in
          let l = subst (λ b. Brought (not (is_imm x)) z b x y) vr.is_arg k in
          record {
            acts = l.before ++ (action.Imul z vr.number l.second ∷ []);
            items = _;
            row = times at w i j vr.is_dest (not_imm y (place_not_imm y (stands_place n.stands g))) (ap (behind (action.Imul z vr.number)) l.is);
            encoded =
                All-append CanEncode l.before (action.Imul z vr.number l.second ∷ []) l.encoded
                (one_encoded (action.Imul z vr.number l.second)
                (encode (action.Imul z vr.number l.second)
                (λ e' d'. imul_spelled e' z vr.number l.second w (second_place l.second l.from) (second_fit l.second l.from e' d'))));
          }
        where
          second_place : (w : Arg) → (w ≡ y) ⊎ ((not (is_imm x) ≡ true) × (w ≡ x)) → is_place w ≡ true
          second_place w (inl e') = ap is_place e' ∙ stands_place n.stands g
          second_place w (inr e') =
              ap is_place e'.1 ∙ not_imm_place m.stands (inverse (is_imm x) e'.0)

          second_fit : (w : Arg) → (w ≡ y) ⊎ ((not (is_imm x) ≡ true) × (w ≡ x)) → Fits z w
          second_fit w (inl e') = subst (Fits z) (sym e') n.fits
          second_fit w (inr e') = subst (Fits z) (sym e'.1) m.fits

    -- ---- rows of one operand
    module _ (u : Expr) (x : Arg) (p : Leaks) (i : IsArg home z u x p) (a : Operand) (m : Beside z b x a) where
      -- `r = a * c`
      pub times_by_found : (v : Expr) (k : ℤ) (at : Span) → IsWide z → is_r c ≡ true → is_rm a.class ≡ true → IsArg home z v (arg.Imm k) silent → fits_bytes (immediate_by z) k ≡ true → RowFound (expr.Bin op.Mul u v at)
      times_by_found v k at w h g j e =
          let b' = variable_of s h in
          let vr = in_variable home z d b r t (ap is_variable b'.1) in
          let l = stands_place m.stands g in
          record {
            acts = _;
            items = _;
            row = times_by at w i j vr.is_dest (not_imm x (place_not_imm x l));
            encoded =
                one_encoded (action.ImulBy z vr.number x k)
                (encode (action.ImulBy z vr.number x k) (λ e' d'. imul_by_spelled e' z vr.number x k w l (m.fits e' d') e));
          }

      -- `d = -a`, `d = !a`
      pub sign_found : (g : One) (e : Expr) → IsSign g e u → is_imm x ≡ false → changes c a ≡ true → RowFound e
      sign_found g e w n h =
          let k = changes_brings z b x c a s f m h in
          record {
            acts = k.before ++ (action.One g z b ∷ []);
            items = _;
            row = signs w i t (not_imm x n) (ap (behind (λ l. action.One g z b)) k.is);
            encoded =
                All-append CanEncode k.before (action.One g z b ∷ []) k.encoded
                (one_encoded (action.One g z b) (encode (action.One g z b) (λ e' l. one_spelled e' g z b (stands_place s (and_parts (is_rm c) _ h).0) (f e' l))));
          }

      -- `d = a sh c`
      pub shift_found : (g : BinOp) (n : ℕ) (there at : Span) → IsShiftOp g → n < bits_of z → is_imm x ≡ false → changes c a ≡ true → RowFound (expr.Bin g u (expr.Num (pos n) there) at)
      shift_found g n there at w l e h =
          let k = changes_brings z b x c a s f m h in
          let q = action.Shift (shift_of g) z b n in
          record {
            acts = k.before ++ (q ∷ []);
            items = _;
            row = shifts n there at w l i t (not_imm x e) (ap (behind (λ y. q)) k.is);
            encoded =
                All-append CanEncode k.before (q ∷ []) k.encoded
                (one_encoded q (encode q (λ e' d'. shift_spelled e' (shift_of g) z b n l (stands_place s (and_parts (is_rm c) _ h).0) (f e' d'))));
          }

      -- `d = a sh (v & k)`
      pub shift_by_found : (g : BinOp) (v : Var) (n : ℕ) (there inner at : Span) (o : Operand) → IsShiftOp g → home (key_of (ref_of v)) ≡ Some (in_register n S8) → Beside z b (arg.Var n) o → computes false c a o ≡ true
          → RowFound (expr.Bin g u (expr.Bin op.And (expr.Var v) (expr.Num (pos (mask_of z)) there) inner) at)
      shift_by_found g v n there inner at o w vh mo h =
          let k = brings false z b x (arg.Var n) c a o s f m mo h in
          let pin : Pinned = record { variable = n; span = (ref_of v).span } in
          let q = action.ShiftBy (shift_of g) z b pin in
          record {
            acts = k.before ++ (q ∷ []);
            items = _;
            row = shifts_by v pin there inner at w vh refl i t (ap (behind (λ y. q)) k.is);
            encoded =
                All-append CanEncode k.before (q ∷ []) k.encoded
                (one_encoded q (encode q (λ e' d'. shift_by_spelled e' (shift_of g) z b pin (stands_place s (and_parts (is_rm c) _ h).0) (f e' d'))));
          }

    -- ---- casts
    -- `r = (tu)o`, `r = (ts)o`
    pub extend_found : (sign : Bool) (a : Expr) (from : Size) (x : Arg) (p : Leaks) (at : Span) → own_size a ≡ Some from → bits_of from < bits_of z → IsArg home from a x p → is_place x ≡ true → Fits from x → is_r c ≡ true → RowFound (expr.Cast z sign a at)
    extend_found sign a from x p at o l i h g e =
        let b' = variable_of s e in
        let vr = in_variable home z d b r t (ap is_variable b'.1) in
        let q = action.Extend sign z from vr.number x in
        record {
          acts = _;
          items = _;
          row = extends sign at o l i (not_imm x (place_not_imm x h)) vr.is_dest;
          encoded = one_encoded q (encode q (λ e' d'. extend_spelled e' sign z from vr.number x l h (g e' d')));
        }

    -- `r = (tu)a`
    pub lowest_found : (a : Expr) (from : Size) (n : ℕ) (at : Span) → own_size a ≡ Some from → bits_of z ≤ bits_of from → IsArg home from a (arg.Var n) silent → is_r c ≡ true → RowFound (expr.Cast z false a at)
    lowest_found a from n at o l i e =
        let b' = variable_of s e in
        let vr = in_variable home z d b r t (ap is_variable b'.1) in
        let q = action.Mov z (arg.Var vr.number) (arg.Var n) in
        record {
          acts = _;
          items = _;
          row = lowest at o l i vr.is_dest;
          encoded = one_encoded q (encode q (λ e' d'. mov_spelled e' z (arg.Var vr.number) (arg.Var n) refl refl refl refl));
        }
