-- Products, and shifts by a number or a masked byte, beside the result of an intrinsic.
use Rattle.std.proofs.Common.{◌≡◌, ℕ, Bool, true, false, not, ◌&&◌, ◌||◌, Option, Some, None, refl, sym, ap, ◌∙◌, subst, inl, inr, pos}
use Rattle.std.specs.Prelude.{◌⊎◌}
use Rattle.std.specs.Option.{option_or}
use Rattle.std.proofs.lemmas.Bool.{and_parts, false≢true}
use Rattle.jz_words.specs.declared.size.Size.{Size}
use Rattle.jz_words.specs.declared.size.Size.TheVariants.{S8, S16, S32, S64}
use Rattle.jz_words.specs.Readings.{reading_of}
use Rattle.x64_insn.specs.declared.types.Shift.{Shift}
use Rattle.jz_tree.specs.Span.{Span}
use Rattle.jz_tree.specs.declared.expr.BinOp.TheVariants as op
use Rattle.jz_tree.specs.declared.expr.Expr.{Expr}
use Rattle.jz_tree.specs.declared.expr.Expr.TheVariants as expr
use Rattle.jz_tree.specs.declared.expr.Var.{Var}
use Rattle.jz_tree.specs.declared.stmt.Lval.{Lval}
use Rattle.jz_select.specs.declared.class.Class.{Class}
use Rattle.jz_select.specs.declared.class.Class.TheVariants as class
use Rattle.jz_select.specs.declared.class.Operand.{Operand}
use Rattle.jz_select.specs.Places.{meeting_of}
use Rattle.jz_select.specs.Operands.{dest_of, operand_of}
use Rattle.jz_select.specs.Rows.{is_r, is_m, is_i, is_rm, is_rmi, is_same_place, is_apart_from, is_wide, is_longest, class_size, changes, computes, masks, times, times_inline, shifts_inline, shifts_masked}
use Rattle.jz_judgement.specs.Places as place
use Rattle.jz_judgement.specs.Lefts.{Holds}
use Rattle.jz_row_laws.proofs.Booleans.{or_left, or_parts}
use Rattle.jz_meaning.specs.Values.{key_of, ref_of}
use Rattle.jz_limits.specs.Asked.{left_access}
use Rattle.jz_limits.specs.InnerLooked.{count_field}
use Rattle.jz_operations.specs.declared.operation.Address.{Address}
use Rattle.jz_operations.specs.declared.operation.Cell.{Cell}
use Rattle.jz_operations.specs.declared.operation.Pinned.{Pinned}
use Rattle.jz_operations.specs.declared.operation.Arg.{Arg}
use Rattle.jz_operations.specs.declared.operation.Arg.TheVariants as arg
use Rattle.jz_operations.specs.Rows.{Frame}
use Rattle.jz_homes.specs.Homes.{Homes, IsHoming, in_register}
use Rattle.jz_homes.specs.Operands as operands
use Rattle.jz_homes.specs.Operands.{Leaks, silent, IsArg, IsDest, to_word, to_scalar, to_cell, to_memory}
use Rattle.jz_row_operations.specs.Lowering.{HasRow}
use Rattle.jz_row_operations.specs.Rows.{mask_of}
use Rattle.jz_row_operations.specs.Table.{is_free}
use Rattle.jz_flag_rows.specs.Instructions.{IsCount, by_number, by_variable}
use Rattle.jz_one_flag_row.specs.Forms.{IsCounted}
use Rattle.jz_total_rows.specs.Expanded.{IsExpanded, IsExpandedLeft}
use Rattle.jz_total_rows.proofs.Summed.{seen}
use Rattle.jz_total_rows.proofs.Stands as stands
use Rattle.jz_total_rows.proofs.Meets.{A, masked_apart, operation_not_same}
use Rattle.jz_total_rows.proofs.Bringing.{Beside}
use Rattle.jz_total_rows.proofs.Operands.{number_fits, left_there, LeftAs, left_operand}
use Rattle.jz_total_rows.proofs.Classes.{class_number, mask_number, masked_byte}
use Rattle.jz_total_rows.proofs.KeptLimits.{count_kept}
use Rattle.jz_total_rows.proofs.Rows.{wide_of, RowFound, times_found, times_by_found}
use Rattle.jz_total_rows.proofs.Assigned.{at_size, beside_operand}
use Rattle.jz_total_flags.proofs.InstructionForms.{HasActs, number_found, masked_found}
use Rattle.jz_total_flags.proofs.InstructionRows.{IsReadyOperand, operand_as, changes_rmi, computes_rmi}

r_rm : (c : Class) → is_r c ≡ true → is_rm c ≡ true
r_rm c h = or_left (is_r c) (is_m c) h

rm_rmi : (c : Class) → is_rm c ≡ true → is_rmi c ≡ true
rm_rmi c h = or_left (is_rm c) (is_i c) h

row_acts : (home : Homes) (z : Size) (d : Lval) (w : Expr) → RowFound home z d w → HasActs (λ acts items. HasRow home z d w acts items)
row_acts home z d w f = (f.acts, f.items, f.row, f.encoded)

-- ---- the mask of a count
mask_is : (z : Size) → mask_number (is_longest (Some z)) ≡ mask_of z
mask_is S8 = refl
mask_is S16 = refl
mask_is S32 = refl
mask_is S64 = refl

masked_no_memory : (l : Bool) (c : Class) → masks l c ≡ true → is_m c ≡ false
masked_no_memory l (class.Masked k) h = refl
masked_no_memory l (class.Reg y) h = absurd (false≢true h)
masked_no_memory l (class.Mem y) h = absurd (false≢true h)
masked_no_memory l class.Inline h = absurd (false≢true h)
masked_no_memory l class.Flag h = absurd (false≢true h)
masked_no_memory l class.Skip h = absurd (false≢true h)
masked_no_memory l class.Other h = absurd (false≢true h)

cell_not : (c : Cell) (n : ℕ) → arg.Cell c ≡ arg.Var n → ⊥
cell_not c n e = absurd cc

memory_not : (m : Address) (n : ℕ) → arg.Mem m ≡ arg.Var n → ⊥
memory_not m n e = absurd cc

module _ (frame : Frame) (home : Homes) (homing : IsHoming frame home) (z : Size) (d : Lval) (x : IsExpandedLeft home d) (t : Holds (place.word z) d) (l : left_operand (left_access d) ≡ None) (a b : Expr) (r : IsReadyOperand home z a) where
  abbrev oa : Operand
  oa = operand_of A d a

  abbrev ob : Operand
  ob = operand_of A d b

  -- ---- `d = a * b`, at any span
  by_times : (s : IsReadyOperand home z b) (at : Span) → times (dest_of d) oa ob ≡ true → RowFound home z d (expr.Bin op.Mul a b at)
  by_times s at h =
      let q = and_parts (is_r (dest_of d)) _ h in
      let w = and_parts (is_wide (class_size (dest_of d))) _ q.1 in
      let u = and_parts (is_rm ob.class) _ w.1 in
      let D = left_there home z d x t (r_rm (dest_of d) q.0) in
      let f = D.fits l in
      let O = operand_as home z a r (computes_rmi (not (is_i oa.class)) (dest_of d) oa ob u.1).1 in
      let U = operand_as home z b s (rm_rmi ob.class u.0) in
      times_found home z d D.arg' D.leaks D.is (dest_of d) D.stands f a b O.arg' U.arg' O.leaks U.leaks O.is U.is oa ob (beside_operand frame home homing z d D (r_rm (dest_of d) q.0) f a O (O.fits None r.kept))
      (beside_operand frame home homing z d D (r_rm (dest_of d) q.0) f b U (U.fits None s.kept)) at (wide_of (class_size (dest_of d)) z D.sized w.0) q.0 u.0 u.1

  by_times_inline : (s : IsReadyOperand home z b) (at : Span) → times_inline (dest_of d) oa ob ≡ true → RowFound home z d (expr.Bin op.Mul a b at)
  by_times_inline s at h =
      let q = and_parts (is_r (dest_of d)) _ h in
      let w = and_parts (is_wide (class_size (dest_of d))) _ q.1 in
      let u = and_parts (is_rm oa.class) (is_i ob.class) w.1 in
      let D = left_there home z d x t (r_rm (dest_of d) q.0) in
      let f = D.fits l in
      let O = operand_as home z a r (rm_rmi oa.class u.0) in
      let j = class_number home b s.expanded u.1 in
      times_by_found home z d D.arg' D.leaks D.is (dest_of d) D.stands f a O.arg' O.leaks O.is oa (beside_operand frame home homing z d D (r_rm (dest_of d) q.0) f a O (O.fits None r.kept)) b (reading_of z j.0) at (wide_of (class_size (dest_of d)) z D.sized w.0) q.0 u.0
      (subst (λ (v : Expr). IsArg home z v (arg.Imm (reading_of z j.0)) silent) (sym j.2) (operands.a_number j.0 j.1)) (number_fits z j.0 j.1 (sym (ap (λ v. (seen (at_size z) v).operand) j.2) ∙ s.kept))

  pub times_there : (s : IsReadyOperand home z b) (at : Span) → (times (dest_of d) oa ob || times_inline (dest_of d) oa ob) ≡ true → HasActs (λ acts items. HasRow home z d (expr.Bin op.Mul a b at) acts items)
  times_there s at h = row_acts home z d (expr.Bin op.Mul a b at) (by_part (or_parts (times (dest_of d) oa ob) (times_inline (dest_of d) oa ob) h))
    where
      by_part : (times (dest_of d) oa ob ≡ true) ⊎ (times_inline (dest_of d) oa ob ≡ true) → RowFound home z d (expr.Bin op.Mul a b at)
      by_part (inl e) = by_times s at e
      by_part (inr e) = by_times_inline s at e

  -- ---- by a number below the size
  module _ (k : Shift) (y : IsExpanded home b) where
    number_there : count_field (Some z) (seen (at_size z) b) ≡ None → shifts_inline (dest_of d) oa ob ≡ true → HasActs (IsCounted home z k d a b)
    number_there limit h =
        let q = and_parts (is_i ob.class) (changes (dest_of d) oa) h in
        let p = changes_rmi (dest_of d) oa q.1 in
        let D = left_there home z d x t p.0 in
        let f = D.fits l in
        let O = operand_as home z a r p.1 in
        let j = class_number home b y q.0 in
        let c = count_kept (at_size z) z b j.0 j.1 j.2 limit in
        number_found home z d D.arg' D.leaks D.is (dest_of d) D.stands f a O.arg' O.leaks oa O.is (beside_operand frame home homing z d D p.0 f a O (O.fits None r.kept)) q.1 k b c.count c.small
        (subst (λ (v : Expr). IsCount home z v None c.count) (sym (j.2 ∙ ap (λ n. expr.Num n j.1) c.is)) (by_number c.count j.1 c.small))

    -- by a byte in CL, which meets the destination as its mask does
    module _ (D : LeftAs home z d) where
      beside_byte : (v : Var) (m : ℕ) (there inner : Span) (c : ℕ) → home (key_of (ref_of v)) ≡ Some (in_register m S8) → b ≡ expr.Bin op.And (expr.Var v) (expr.Num (pos c) there) inner
          → Beside z D.arg' (arg.Var m) (record { class = class.Reg S8; meeting = meeting_of A d b })
      beside_byte v m there inner c h e =
          record {
            stands = stands.in_variable S8 m;
            same = λ g. absurd (operation_not_same d op.And (expr.Var v) (expr.Num (pos c) there) inner (sym (ap (λ w. is_same_place (meeting_of A d w)) e) ∙ g));
            apart = λ n g q. byte_free d D.arg' D.leaks D.is n g (sym (ap (λ w. is_apart_from (meeting_of A d w)) e) ∙ q);
            fits = λ e' l'. refl;
          }
        where
          byte_free : (d : Lval) (b' : Arg) (r' : Leaks) → IsDest home z d b' r' → (n : ℕ) → b' ≡ arg.Var n
              → is_apart_from (meeting_of A d (expr.Bin op.And (expr.Var v) (expr.Num (pos c) there) inner)) ≡ true → is_free b' (arg.Var m) ≡ true
          byte_free d b' r' (to_word u n q g) i f s = masked_apart frame home homing u n z g op.And v (expr.Num (pos c) there) inner m S8 h s
          byte_free d b' r' (to_scalar u j q g) i f s = absurd (cell_not _ i f)
          byte_free d b' r' (to_cell u j n q t' i' o' cells s' g) i f s = absurd (cell_not _ i f)
          byte_free d b' r' (to_memory a' t' n q s' g) i f s = absurd (memory_not _ i f)

    abbrev computes_by : Bool → Bool
    computes_by m = is_rm (dest_of d) && (is_rmi oa.class &&
        ((is_same_place oa.meeting && not (is_m (dest_of d) && m))
        || ((false && (is_same_place ob.meeting && not (is_m (dest_of d) && is_m oa.class)))
        || (is_r (dest_of d) && is_apart_from ob.meeting))))

    masked_there : (s : Option Size) → option_or s (option_or (class_size (dest_of d)) (class_size oa.class)) ≡ Some z → shifts_masked s (dest_of d) oa ob ≡ true → HasActs (IsCounted home z k d a b)
    masked_there s size h =
        let w = is_longest (option_or s (option_or (class_size (dest_of d)) (class_size oa.class))) in
        let q = and_parts (masks w ob.class) (computes false (dest_of d) oa ob) h in
        let p = computes_rmi false (dest_of d) oa ob q.1 in
        let D = left_there home z d x t p.0 in
        let f = D.fits l in
        let O = operand_as home z a r p.1 in
        let g = masked_byte home w b y q.0 in
        let pin : Pinned = record { variable = g.number; span = (ref_of g.var).span } in
        let e = g.is ∙ ap (λ n. expr.Bin op.And (expr.Var g.var) (expr.Num (pos n) g.there) g.inner) (ap (λ o. mask_number (is_longest o)) size ∙ mask_is z) in
        let u = sym (ap computes_by (masked_no_memory w ob.class q.0)) ∙ q.1 in
        masked_found home z d D.arg' D.leaks D.is (dest_of d) D.stands f k a b O.arg' O.leaks oa (record { class = class.Reg S8; meeting = meeting_of A d b }) pin
        (subst (λ (v : Expr). IsCount home z v (Some pin) 0) (sym e) (by_variable g.var pin g.there g.inner g.byte refl)) O.is (beside_operand frame home homing z d D p.0 f a O (O.fits None r.kept))
        (beside_byte D g.var g.number g.there g.inner (mask_number w) g.byte g.is) u

    pub count_there : (s : Option Size) → option_or s (option_or (class_size (dest_of d)) (class_size oa.class)) ≡ Some z → count_field (Some z) (seen (at_size z) b) ≡ None → (shifts_inline (dest_of d) oa ob || shifts_masked s (dest_of d) oa ob) ≡ true
        → HasActs (IsCounted home z k d a b)
    count_there s size limit h = by_part (or_parts (shifts_inline (dest_of d) oa ob) (shifts_masked s (dest_of d) oa ob) h)
      where
        by_part : (shifts_inline (dest_of d) oa ob ≡ true) ⊎ (shifts_masked s (dest_of d) oa ob ≡ true) → HasActs (IsCounted home z k d a b)
        by_part (inl e) = number_there limit e
        by_part (inr e) = masked_there s size e
