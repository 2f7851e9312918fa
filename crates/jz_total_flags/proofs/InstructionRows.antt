-- Operands of an intrinsic beside its result, and the actions that they have.
use Rattle.std.proofs.Common.{◌≡◌, inl, inr, Bool, true, false, ◌&&◌, ◌||◌, None, refl, sym, ◌∙◌, subst}
use Rattle.std.specs.Prelude.{◌⊎◌}
use Rattle.std.proofs.lemmas.Bool.{and_parts, false≢true}
use Rattle.jz_words.specs.declared.size.Size.{Size}
use Rattle.x64_insn.specs.declared.types.Alu.{Alu}
use Rattle.x64_insn.specs.declared.types.One.{One}
use Rattle.x64_insn.specs.Chosen.{is_test}
use Rattle.jz_tree.specs.declared.expr.Expr.{Expr}
use Rattle.jz_tree.specs.declared.stmt.Lval.{Lval}
use Rattle.jz_select.specs.declared.class.Class.{Class}
use Rattle.jz_select.specs.declared.class.Class.TheVariants as class
use Rattle.jz_select.specs.declared.class.Operand.{Operand}
use Rattle.jz_select.specs.Operands.{class_of, dest_of, operand_of}
use Rattle.jz_select.specs.Rows.{is_r, is_m, is_i, is_rm, is_rmi, changes, computes}
use Rattle.jz_judgement.specs.Places as place
use Rattle.jz_judgement.specs.HasType.{value, HasType}
use Rattle.jz_judgement.specs.Lefts.{Holds}
use Rattle.jz_row_laws.proofs.Booleans.{or_left, or_right, or_parts}
use Rattle.jz_operations.specs.Rows.{Frame}
use Rattle.jz_limits.specs.Asked.{left_access}
use Rattle.jz_homes.specs.Homes.{Homes, IsHoming}
use Rattle.jz_flag_rows.specs.Wide.{IsLong}
use Rattle.jz_one_flag_row.specs.Forms.{IsTwo, IsCarried, IsOne, IsSwap, IsComparison}
use Rattle.jz_total_rows.specs.Expanded.{IsExpanded, IsExpandedLeft}
use Rattle.jz_total_rows.proofs.Classes.{IsFlagVariable}
use Rattle.jz_total_rows.proofs.Stands.{stands_place, stands_m}
use Rattle.jz_total_rows.proofs.Meets.{A}
use Rattle.jz_total_rows.proofs.Operands.{of_size, operand_there, OperandAs, left_there, left_operand}
use Rattle.jz_total_rows.proofs.Assigned.{IsKept, beside_operand}
use Rattle.jz_total_flags.proofs.InstructionForms.{HasActs, two_found, carried_found, one_found, swap_found, compare_found}

-- an operand at that size, whose numbers have fields
pub record IsReadyOperand (home : Homes) (z : Size) (e : Expr) : Type 0 where
  pub expanded : IsExpanded home e
  pub typed : HasType (value e) (place.word z)
  pub kept : IsKept z e

pub operand_as : (home : Homes) (z : Size) (e : Expr) → IsReadyOperand home z e → is_rmi (class_of e) ≡ true → OperandAs home z e
operand_as home z e r h = operand_there home z (place.word z) e of_size r.expanded r.typed h

pub changes_rmi : (d : Class) (a : Operand) → changes d a ≡ true → (is_rm d ≡ true) × (is_rmi a.class ≡ true)
changes_rmi d a h = let x = and_parts (is_rm d) _ h in (x.0, (and_parts (is_rmi a.class) _ x.1).0)

pub computes_rmi : (s : Bool) (d : Class) (a o : Operand) → computes s d a o ≡ true → (is_rm d ≡ true) × (is_rmi a.class ≡ true)
computes_rmi s d a o h = let x = and_parts (is_rm d) _ h in (x.0, (and_parts (is_rmi a.class) _ x.1).0)

module _ (frame : Frame) (home : Homes) (homing : IsHoming frame home) (z : Size) (d : Lval) (x : IsExpandedLeft home d) (t : Holds (place.word z) d) (l : left_operand (left_access d) ≡ None) where
  -- ---- one operand
  module _ (a : Expr) (r : IsReadyOperand home z a) (h : changes (dest_of d) (operand_of A d a) ≡ true) where
    pub one_there : (k : One) → HasActs (IsOne home z k d a)
    one_there k =
        let p = changes_rmi (dest_of d) (operand_of A d a) h in
        let D = left_there home z d x t p.0 in
        let f = D.fits l in
        let O = operand_as home z a r p.1 in
        one_found home z d D.arg' D.leaks D.is (dest_of d) D.stands f a O.arg' O.leaks (operand_of A d a) O.is (beside_operand frame home homing z d D p.0 f a O (O.fits None r.kept)) h k

    pub swap_there : is_r (dest_of d) ≡ true → IsLong z → HasActs (IsSwap home z d a)
    swap_there reg long =
        let p = changes_rmi (dest_of d) (operand_of A d a) h in
        let D = left_there home z d x t p.0 in
        let f = D.fits l in
        let O = operand_as home z a r p.1 in
        swap_found home z d D.arg' D.leaks D.is (dest_of d) D.stands f a O.arg' O.leaks (operand_of A d a) long reg O.is (beside_operand frame home homing z d D p.0 f a O (O.fits None r.kept)) h

  -- ---- two operands
  module _ (a b : Expr) (r : IsReadyOperand home z a) (s : IsReadyOperand home z b) (k : Alu) (n : is_test k ≡ false) (w : Bool) (q : is_rmi (class_of b) ≡ true) (h : computes w (dest_of d) (operand_of A d a) (operand_of A d b) ≡ true) where
    pub two_there : HasActs (IsTwo home z k w None d a b)
    two_there =
        let p = computes_rmi w (dest_of d) (operand_of A d a) (operand_of A d b) h in
        let D = left_there home z d x t p.0 in
        let f = D.fits l in
        let O = operand_as home z a r p.1 in
        let U = operand_as home z b s q in
        two_found home z d D.arg' D.leaks D.is (dest_of d) D.stands f k w None a b O.arg' U.arg' O.leaks U.leaks (operand_of A d a) (operand_of A d b) n O.is U.is
        (beside_operand frame home homing z d D p.0 f a O (O.fits None r.kept)) (beside_operand frame home homing z d D p.0 f b U (U.fits None s.kept)) h

    -- and a flag that is read
    pub carried_there : (c : Expr) → IsFlagVariable home c → HasActs (IsCarried home z k w d a b c)
    carried_there c v =
        let p = computes_rmi w (dest_of d) (operand_of A d a) (operand_of A d b) h in
        let D = left_there home z d x t p.0 in
        let f = D.fits l in
        let O = operand_as home z a r p.1 in
        let U = operand_as home z b s q in
        subst (λ (e : Expr). HasActs (IsCarried home z k w d a b e)) (sym v.is)
        (carried_found home z d D.arg' D.leaks D.is (dest_of d) D.stands f k w a b v.var v.number O.arg' U.arg' O.leaks U.leaks (operand_of A d a) (operand_of A d b) n v.there O.is U.is
        (beside_operand frame home homing z d D p.0 f a O (O.fits None r.kept)) (beside_operand frame home homing z d D p.0 f b U (U.fits None s.kept)) h)

-- ---- CMP and TEST
register_or_number : (c : Class) → (is_r c || is_i c) ≡ true → is_m c ≡ false
register_or_number (class.Reg z) h = refl
register_or_number (class.Mem z) h = absurd (false≢true h)
register_or_number class.Inline h = refl
register_or_number (class.Masked k) h = refl
register_or_number class.Flag h = refl
register_or_number class.Skip h = refl
register_or_number class.Other h = refl

pub compare_there : (home : Homes) (z : Size) (k : Alu) (a b : Expr) → IsReadyOperand home z a → IsReadyOperand home z b → (is_rm (class_of a) && (is_r (class_of b) || is_i (class_of b))) ≡ true → HasActs (IsComparison home z k a b)
compare_there home z k a b r s h =
    let p = and_parts (is_rm (class_of a)) (is_r (class_of b) || is_i (class_of b)) h in
    let O = operand_as home z a r (rm_rmi (class_of a) p.0) in
    let U = operand_as home z b s (second (class_of b) p.1) in
    compare_found home z k a b O.arg' U.arg' O.leaks U.leaks O.is U.is (stands_place O.stands p.0) (sym (stands_m U.stands) ∙ register_or_number (class_of b) p.1) (O.fits None r.kept) (U.fits None s.kept)
  where
    rm_rmi : (c : Class) → is_rm c ≡ true → is_rmi c ≡ true
    rm_rmi c e = or_left (is_rm c) (is_i c) e

    second : (c : Class) → (is_r c || is_i c) ≡ true → is_rmi c ≡ true
    second c e = by_part (or_parts (is_r c) (is_i c) e)
      where
        by_part : (is_r c ≡ true) ⊎ (is_i c ≡ true) → is_rmi c ≡ true
        by_part (inl g) = or_left (is_rm c) (is_i c) (or_left (is_r c) (is_m c) g)
        by_part (inr g) = or_right (is_rm c) (is_i c) g
