-- MUL and DIV of typed operands have actions.
use Rattle.std.proofs.Common.{◌≡◌, true, ◌&&◌, Option, None, refl}
use Rattle.std.specs.Prelude.{All}
use Rattle.std.specs.Option.{option_or}
use Rattle.std.proofs.lemmas.Bool.{and_parts}
use Rattle.jz_words.specs.declared.size.Size.{Size}
use Rattle.x64_insn.specs.declared.types.Reg.TheVariants as reg
use Rattle.x64_insn.specs.declared.types.Wide.TheVariants as wide
use Rattle.jz_tree.specs.declared.expr.Expr.{Expr}
use Rattle.jz_tree.specs.declared.stmt.Lval.{Lval}
use Rattle.jz_select.specs.Operands.{class_of, dest_of, operand_of}
use Rattle.jz_select.specs.Rows as table
use Rattle.jz_select.specs.Rows.{is_i, is_rm, is_rmi, is_long, is_pinned, class_size, product_size, division_size}
use Rattle.jz_select.specs.Shapes.{whichever, stand_apart}
use Rattle.jz_judgement.specs.Places as place
use Rattle.jz_judgement.specs.Lefts.{Holds}
use Rattle.jz_row_laws.proofs.Booleans.{or_left}
use Rattle.jz_limits.specs.Asked.{left_access}
use Rattle.jz_operations.specs.declared.operation.Pinned.{Pinned}
use Rattle.jz_operations.specs.declared.operation.Arg.{Arg}
use Rattle.jz_operations.specs.declared.operation.Action.TheVariants as action
use Rattle.jz_operations.specs.Rows.{Frame, low_at, high_at}
use Rattle.jz_encodable.specs.Encodable.{CanEncode}
use Rattle.jz_homes.specs.Homes.{Homes, IsHoming}
use Rattle.jz_flag_rows.specs.Wide.{IsLong, divide_two_code}
use Rattle.jz_flag_rows.proofs.Codes.{divide_two_all}
use Rattle.jz_one_flag_row.specs.Forms.{IsWideProduct, IsLongDivision}
use Rattle.jz_total_rows.specs.Expanded.{IsExpandedLeft}
use Rattle.jz_total_rows.proofs.Fits.{is_place, Fits}
use Rattle.jz_total_rows.proofs.Stands.{stands_place}
use Rattle.jz_total_rows.proofs.Meets.{A}
use Rattle.jz_total_rows.proofs.Bringing.{encode}
use Rattle.jz_total_rows.proofs.Operands.{left_operand}
use Rattle.jz_total_rows.proofs.Rows.{not_imm, place_not_imm}
use Rattle.jz_total_flags.proofs.Spelled.{to_register_spelled, wide_spelled}
use Rattle.jz_total_flags.proofs.Quotients.{long_of}
use Rattle.jz_total_flags.proofs.Lows.{pinned_left}
use Rattle.jz_total_flags.proofs.Products.{AllSized, or_sized, four_sized, row_parts, low_pinned, low_there}
use Rattle.jz_total_flags.proofs.InstructionForms.{HasActs}
use Rattle.jz_total_flags.proofs.InstructionRows.{IsReadyOperand, operand_as}

-- o: the size that the name says
module _ (frame : Frame) (home : Homes) (homing : IsHoming frame home) (z : Size) (o : Option Size) (named : AllSized o z) (h l : Lval) (xh : IsExpandedLeft home h) (xl : IsExpandedLeft home l) (th : Holds (place.word z) h) (tl : Holds (place.word z) l) where
  -- ---- both words of a product
  pub product_there : left_operand (left_access l) ≡ None → (a b : Expr) → IsReadyOperand home z a → IsReadyOperand home z b → table.is_product o (dest_of h) (dest_of l) (operand_of A l a) (operand_of A l b) ≡ true → HasActs (IsWideProduct home z h l a b)
  product_there last a b r s m =
      let oa = operand_of A l a in
      let ob = operand_of A l b in
      let row = row_parts o (dest_of h) (dest_of l) oa ob m in
      let OA = operand_as home z a r row.first in
      let OB = operand_as home z b s (or_left (is_rm (class_of b)) (is_i (class_of b)) row.second) in
      let H = pinned_left frame home homing z h xh th row.high in
      let L = pinned_left frame home homing z l xl tl (low_pinned (dest_of l) _ row.low) in
      let rest = option_or (class_size (dest_of h)) (option_or (class_size (dest_of l)) (option_or (class_size (class_of a)) (class_size (class_of b)))) in
      let long = long_of (product_size o (dest_of h) (dest_of l) oa ob) z (or_sized o rest z named (four_sized (class_size (dest_of h)) (class_size (dest_of l)) (class_size (class_of a)) (class_size (class_of b)) z H.sized L.sized OA.sized OB.sized)) row.long in
      let low = low_there frame home homing l xl z long tl last a b OA OB (OA.fits None r.kept) (OB.fits None s.kept) H.kept row.second row.low in (
        low.wide.acts,
        _,
        record {
          upper = H.kept;
          lower = low.kept;
          x = OA.arg';
          y = OB.arg';
          p = OA.leaks;
          q = OB.leaks;
          long = long;
          high = H.is;
          low = low.is;
          first = OA.is;
          second = OB.is;
          no_number = not_imm OB.arg' (place_not_imm OB.arg' (stands_place OB.stands row.second));
          code = low.wide.is;
          shown = refl;
        },
        low.wide.can,
      )

  -- ---- a quotient and a remainder; h is the quotient's and l the remainder's
  divide_encoded : IsLong z → (q r : Option Pinned) (x y w : Arg) → Fits z x → Fits z y → is_place w ≡ true → Fits z w → All CanEncode (divide_two_code z q r x y w)
  divide_encoded long q r x y w fx fy pw fw =
      divide_two_all CanEncode z q r x y w
      (encode (action.Mov z (low_at q) y) (λ c u. to_register_spelled c z reg.Rax q y (fy c u)))
      (encode (action.Mov z (high_at r) x) (λ c u. to_register_spelled c z reg.Rdx r x (fx c u)))
      (encode (action.Wide wide.Div z q r w) (λ c u. wide_spelled c wide.Div z q r w long pw (fw c u)))

  pub division_there : (hi lo b : Expr) → IsReadyOperand home z hi → IsReadyOperand home z lo → IsReadyOperand home z b → table.divides_long o (dest_of h) (dest_of l) (class_of hi) (class_of lo) (class_of b) (stand_apart (whichever A) h l hi b) ≡ true → HasActs (IsLongDivision home z h l hi lo b)
  division_there hi lo b r s t m =
      let p1 = and_parts (is_pinned (dest_of h)) _ m in
      let p2 = and_parts (is_pinned (dest_of l)) _ p1.1 in
      let p3 = and_parts (is_rmi (class_of hi)) _ p2.1 in
      let p4 = and_parts (is_rmi (class_of lo)) _ p3.1 in
      let p5 = and_parts (is_rm (class_of b)) _ p4.1 in
      let p6 = and_parts (stand_apart (whichever A) h l hi b) (is_long (division_size o (dest_of h) (dest_of l) (class_of hi) (class_of lo) (class_of b))) p5.1 in
      let a1 = and_parts (table.is_apart (operand_of A h hi)) (table.is_apart (operand_of A h b) && table.is_apart (operand_of A l b)) p6.0 in
      let a2 = and_parts (table.is_apart (operand_of A h b)) (table.is_apart (operand_of A l b)) a1.1 in
      let OH = operand_as home z hi r p3.0 in
      let OL = operand_as home z lo s p4.0 in
      let OB = operand_as home z b t (or_left (is_rm (class_of b)) (is_i (class_of b)) p5.0) in
      let Q = pinned_left frame home homing z h xh th p1.0 in
      let R = pinned_left frame home homing z l xl tl p2.0 in
      let sizes = option_or (class_size (class_of hi)) (option_or (class_size (class_of lo)) (class_size (class_of b))) in
      let rest = option_or (class_size (dest_of h)) (option_or (class_size (dest_of l)) sizes) in
      let three = or_sized (class_size (class_of hi)) (option_or (class_size (class_of lo)) (class_size (class_of b))) z OH.sized (or_sized (class_size (class_of lo)) (class_size (class_of b)) z OL.sized OB.sized) in
      let long = long_of (division_size o (dest_of h) (dest_of l) (class_of hi) (class_of lo) (class_of b)) z
      (or_sized o rest z named (or_sized (class_size (dest_of h)) (option_or (class_size (dest_of l)) sizes) z Q.sized (or_sized (class_size (dest_of l)) sizes z R.sized three))) p6.1 in
      let pb = stands_place OB.stands p5.0 in (
        divide_two_code z Q.kept R.kept OH.arg' OL.arg' OB.arg',
        _,
        record {
          quotient = Q.kept;
          remainder = R.kept;
          x = OH.arg';
          y = OL.arg';
          w = OB.arg';
          p = OH.leaks;
          s = OL.leaks;
          u = OB.leaks;
          long = long;
          first_to = Q.is;
          second_to = R.is;
          high = OH.is;
          low = OL.is;
          by = OB.is;
          no_number = not_imm OB.arg' (place_not_imm OB.arg' pb);
          high_apart = Q.far hi OH.arg' OH.leaks OH.is a1.0;
          quotient_apart = Q.far b OB.arg' OB.leaks OB.is a2.0;
          remainder_apart = R.far b OB.arg' OB.leaks OB.is a2.1;
          code = refl;
          shown = refl;
        },
        divide_encoded long Q.kept R.kept OH.arg' OL.arg' OB.arg' (OH.fits None r.kept) (OL.fits None s.kept) pb (OB.fits None t.kept),
      )
