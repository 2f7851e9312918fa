-- Both words of a product: their variables, and the actions that bring the first operand to RAX.
use Rattle.std.proofs.Common.{◌≡◌, Bool, true, false, ◌&&◌, List, [], ◌∷◌, Option, Some, None, refl, sym, ap, ◌∙◌, subst, inl, inr, if◌then◌else◌}
use Rattle.std.specs.Prelude.{◌⊎◌, All, not}
use Rattle.std.proofs.lemmas.Bool.{false≢true, true≢false, and_parts}
use Rattle.std.proofs.lemmas.List.Elements.{All-nil, All-cons}
use Rattle.jz_words.specs.declared.size.Size.{Size}
use Rattle.jz_io.specs.declared.span.Span.{Span}
use Rattle.x64_insn.specs.declared.types.Reg.TheVariants as reg
use Rattle.x64_insn.specs.declared.types.Wide.TheVariants as wide
use Rattle.jz_tree.specs.declared.expr.Expr.{Expr}
use Rattle.jz_tree.specs.declared.expr.Var.{Var}
use Rattle.jz_tree.specs.declared.stmt.Lval.{Lval}
use Rattle.jz_tree.specs.declared.stmt.Lval.TheVariants as lval
use Rattle.jz_type_names.specs.Kinds.{known_of}
use Rattle.jz_select.specs.declared.class.Class.{Class}
use Rattle.jz_select.specs.declared.class.Class.TheVariants as class
use Rattle.jz_select.specs.declared.class.Operand.{Operand}
use Rattle.jz_select.specs.Places.{meeting_of}
use Rattle.jz_select.specs.Sums.{is_address, is_index}
use Rattle.jz_select.specs.Look.{look_of, terms_of}
use Rattle.jz_select.specs.Operands.{var_class, class_if, cell_class, dest_of}
use Rattle.jz_select.specs.Rows.{is_r, is_m, is_i, is_rm, is_skip, is_apart_from, is_pinned as may_pin, class_size, computes}
use Rattle.jz_judgement.specs.Places as place
use Rattle.jz_judgement.specs.Lefts.{Wants, Holds}
use Rattle.jz_row_laws.proofs.Booleans.{or_parts, or_left}
use Rattle.jz_meaning.specs.Values.{size_of, ref_of}
use Rattle.jz_meaning.specs.Assignments.{left_size}
use Rattle.jz_operations.specs.declared.operation.Pinned.{Pinned}
use Rattle.jz_operations.specs.declared.operation.Arg.{Arg}
use Rattle.jz_operations.specs.declared.operation.Arg.TheVariants as arg
use Rattle.jz_operations.specs.declared.operation.Action.{Action}
use Rattle.jz_operations.specs.declared.operation.Action.TheVariants as action
use Rattle.jz_operations.specs.Rows.{Frame, low_at}
use Rattle.jz_encodable.specs.Encodable.{CanEncode}
use Rattle.jz_homes.specs.Homes.{Homes, IsHoming}
use Rattle.jz_homes.specs.Operands.{Leaks, IsArg}
use Rattle.jz_row_operations.specs.Table.{same_arg, is_imm, is_free, brought}
use Rattle.jz_flag_rows.specs.Results.{IsPinned, no_word, a_word}
use Rattle.jz_flag_rows.specs.Wide.{IsLong, is_pinned, is_apart, wide_code}
use Rattle.jz_total_rows.specs.Expanded as expanded
use Rattle.jz_total_rows.specs.Expanded.{HasHome, IsExpandedLeft}
use Rattle.jz_total_rows.proofs.Fits.{is_place, Fits}
use Rattle.jz_total_rows.proofs.Stands as stands
use Rattle.jz_total_rows.proofs.Stands.{Stands, is_variable, stands_i, stands_place, variable_of}
use Rattle.jz_total_rows.proofs.Meets.{A, apart_place}
use Rattle.jz_total_rows.proofs.Bringing.{encode, Beside, Brought, brings}
use Rattle.jz_total_rows.proofs.Operands.{LeftAs, left_there}
use Rattle.jz_total_rows.proofs.Whole.{IsRegister, register_of}
use Rattle.jz_total_flags.proofs.Spelled.{to_register_spelled, wide_spelled}

-- ---- only `_` has the class of `_`
skip_not : (c : Class) → is_skip c ≡ false → is_skip c ≡ true → ⊥
skip_not c e f = false≢true (sym e ∙ f)

skip_if : (b : Bool) (c : Class) → is_skip c ≡ false → is_skip (class_if b c) ≡ true → ⊥
skip_if true c e f = skip_not c e f
skip_if false c e f = false≢true f

skip_var : (home : Homes) (v : Var) → HasHome home v → is_skip (var_class (known_of v)) ≡ true → ⊥
skip_var home v (expanded.a_word z n d k h) e = false≢true (sym (ap (λ q. is_skip (var_class q)) d) ∙ e)
skip_var home v (expanded.a_flag n d k h) e = false≢true (sym (ap (λ q. is_skip (var_class q)) d) ∙ e)
skip_var home v (expanded.a_scalar z w d k h) e = false≢true (sym (ap (λ q. is_skip (var_class q)) d) ∙ e)
skip_var home v (expanded.an_array z n w d c) e = false≢true (sym (ap (λ q. is_skip (var_class q)) d) ∙ e)

skip_cell : (home : Homes) (v : Var) (i j : Bool) → HasHome home v → is_skip (cell_class (known_of v) i j) ≡ true → ⊥
skip_cell home v i j (expanded.a_word z n d k h) e = false≢true (sym (ap (λ q. is_skip (cell_class q i j)) d) ∙ e)
skip_cell home v i j (expanded.a_flag n d k h) e = false≢true (sym (ap (λ q. is_skip (cell_class q i j)) d) ∙ e)
skip_cell home v i j (expanded.a_scalar z w d k h) e = false≢true (sym (ap (λ q. is_skip (cell_class q i j)) d) ∙ e)
skip_cell home v i j (expanded.an_array z n w d c) e = skip_if j (class.Mem (Some z)) refl (sym (ap (λ q. is_skip (cell_class q i j)) d) ∙ e)

pub skip_is : (home : Homes) (d : Lval) → IsExpandedLeft home d → is_skip (dest_of d) ≡ true → (at : Span) × (d ≡ lval.Skip at)
skip_is home d (expanded.to_nothing at) e = (at, refl)
skip_is home d (expanded.to_variable v x) e = absurd (skip_var home v x e)
skip_is home d (expanded.to_cell v i x y) e = absurd (skip_cell home v (look_of i).inline (is_index (terms_of i)) x e)
skip_is home d (expanded.to_memory a x) e = absurd (skip_if (is_address (terms_of a.at)) (class.Mem a.size) refl e)

skip_wants : (at : Span) (z : Size) → Wants (lval.Skip at) (place.word z) → ⊥
skip_wants at z h = elim h [ ]

-- ---- a word in RAX or RDX
none_some : {B : Type 0} (o : Option B) (x : B) → o ≡ None → o ≡ Some x → ⊥
none_some None x e f = absurd cc
none_some (Some y) x e f = absurd cc

pub record PinnedLeft (home : Homes) (z : Size) (d : Lval) : Type 0 where
  pub kept : Option Pinned
  pub is : IsPinned home z d kept
  pub own : (left_size d ≡ Some z) ⊎ (left_size d ≡ None)
  pub wanted : Wants d (place.word z) → left_size d ≡ Some z
  pub sized : (y : Size) → class_size (dest_of d) ≡ Some y → y ≡ z
  -- it stands in nothing that does not meet it
  pub far : (e : Expr) (y : Arg) (q : Leaks) → IsArg home z e y q → is_apart_from (meeting_of A d e) ≡ true → is_apart kept y ≡ true

pub register_size : (home : Homes) (d : Lval) (z : Size) (b : Arg) → IsRegister home d z b → left_size d ≡ Some z
register_size home d z b g = ap left_size g.left_is ∙ ap size_of g.kind_is

abbrev pub pin_of : {home : Homes} {d : Lval} {z : Size} {b : Arg} → IsRegister home d z b → Pinned
pin_of g = record { variable = g.number; span = (ref_of g.var).span }

pub register_pinned : (home : Homes) (d : Lval) (z : Size) (b : Arg) → (g : IsRegister home d z b) → IsPinned home z d (Some (pin_of g))
register_pinned home d z b g = subst (λ y. IsPinned home z y (Some (pin_of g))) (sym g.left_is) (a_word g.var (pin_of g) g.kind_is g.there refl)

pub left_register : (home : Homes) (z : Size) (d : Lval) (D : LeftAs home z d) → is_r (dest_of d) ≡ true → IsRegister home d z D.arg'
left_register home z d D r = let b = variable_of D.stands r in register_of home z d D.arg' D.leaks D.is (ap is_variable b.1)

pub pinned_left : (frame : Frame) (home : Homes) → IsHoming frame home → (z : Size) (d : Lval) → IsExpandedLeft home d → Holds (place.word z) d → may_pin (dest_of d) ≡ true → PinnedLeft home z d
pinned_left frame home homing z d x t h = by_class (or_parts (is_r (dest_of d)) (is_skip (dest_of d)) h)
  where
    by_class : (is_r (dest_of d) ≡ true) ⊎ (is_skip (dest_of d) ≡ true) → PinnedLeft home z d
    by_class (inl r) =
        let D = left_there home z d x t (or_left (is_r (dest_of d)) (is_m (dest_of d)) r) in
        let g = left_register home z d D r in
        record { kept = Some (pin_of g); is = register_pinned home d z D.arg' g; own = inl (register_size home d z D.arg' g); wanted = λ w. register_size home d z D.arg' g; sized = D.sized; far = λ e y q i k. apart_place frame home homing g.var g.number z g.there z e y q i (subst (λ d. is_apart_from (meeting_of A d e) ≡ true) g.left_is k) }
    by_class (inr s) =
        let k = skip_is home d x s in
        subst (PinnedLeft home z) (sym k.1) (record { kept = None; is = no_word k.0; own = inr refl; wanted = λ w. absurd (skip_wants k.0 z w); sized = λ y e. absurd (none_some None y refl e); far = λ e y q i k. refl })

-- ---- the actions
pub record WideMade (z : Size) (h l : Option Pinned) (x y : Arg) : Type 0 where
  pub acts : List Action
  pub is : wide_code z h l x y ≡ Some acts
  pub can : All CanEncode acts

module _ (z : Size) (long : IsLong z) (h l : Option Pinned) (x y : Arg) where
  abbrev once : Arg → List Action
  once w = action.Wide wide.Mul z l h w ∷ []

  abbrev copied : List Action
  copied = action.Mov z (low_at l) x ∷ action.Wide wide.Mul z l h y ∷ []

  once_encoded : (w : Arg) → is_place w ≡ true → Fits z w → All CanEncode (once w)
  once_encoded w p f = All-cons CanEncode (action.Wide wide.Mul z l h w) [] (encode (action.Wide wide.Mul z l h w) (λ c u. wide_spelled c wide.Mul z l h w long p (f c u))) (All-nil CanEncode)

  made_by : (s t u : Bool) → is_pinned l x ≡ s → (not (is_imm x) && is_pinned l y) ≡ t → is_apart l y ≡ u → Fits z x → is_place y ≡ true → Fits z y → (t ≡ true → is_place x ≡ true) → (s ≡ false → t ≡ false → u ≡ true) → WideMade z h l x y
  made_by true t u e f g fx py fy px far =
      record {
        acts = once y;
        is = ap (λ s. if s then Some (once y) else if not (is_imm x) && is_pinned l y then Some (once x) else if is_apart l y then Some copied else None) e;
        can = once_encoded y py fy;
      }
  made_by false true u e f g fx py fy px far =
      record {
        acts = once x;
        is =
            ap (λ s. if s then Some (once y) else if not (is_imm x) && is_pinned l y then Some (once x) else if is_apart l y then Some copied else None) e
            ∙ ap (λ t. if t then Some (once x) else if is_apart l y then Some copied else None) f;
        can = once_encoded x (px refl) fx;
      }
  made_by false false u e f g fx py fy px far =
      record {
        acts = copied;
        is =
            ap (λ s. if s then Some (once y) else if not (is_imm x) && is_pinned l y then Some (once x) else if is_apart l y then Some copied else None) e
            ∙ (ap (λ t. if t then Some (once x) else if is_apart l y then Some copied else None) f
            ∙ ap (λ u. if u then Some copied else None) (g ∙ far refl refl));
        can =
            All-cons CanEncode (action.Mov z (low_at l) x) (once y)
            (encode (action.Mov z (low_at l) x) (λ c u. to_register_spelled c z reg.Rax l x (fx c u))) (once_encoded y py fy);
      }

  pub wide_made : Fits z x → is_place y ≡ true → Fits z y → ((not (is_imm x) && is_pinned l y) ≡ true → is_place x ≡ true) → (is_pinned l x ≡ false → (not (is_imm x) && is_pinned l y) ≡ false → is_apart l y ≡ true) → WideMade z h l x y
  wide_made fx py fy px far = made_by (is_pinned l x) (not (is_imm x) && is_pinned l y) (is_apart l y) refl refl refl fx py fy px far

-- ---- the low word's variable is brought to as a destination is
pinned_same : (k : Pinned) (x : Arg) → is_pinned (Some k) x ≡ same_arg (arg.Var k.variable) x
pinned_same k (arg.Var v) = refl
pinned_same k (arg.Imm i) = refl
pinned_same k (arg.Mem m) = refl
pinned_same k (arg.Cell c) = refl
pinned_same k (arg.At r p) = refl

way_left : (s t u : Bool) (z : Size) (b x y : Arg) (r : List Action × Arg) → (if s then Some ([], y) else if t then Some ([], x) else if u then Some (action.Mov z b x ∷ [], y) else None) ≡ Some r → s ≡ false → t ≡ false → u ≡ true
way_left true t u z b x y r e f g = absurd (true≢false f)
way_left false true u z b x y r e f g = absurd (true≢false g)
way_left false false true z b x y r e f g = refl
way_left false false false z b x y r e f g = absurd cc

far_by : (k : Pinned) (z : Size) (x y : Arg) (r : List Action × Arg) → brought (not (is_imm x)) z (arg.Var k.variable) x y ≡ Some r → is_pinned (Some k) x ≡ false → (not (is_imm x) && is_pinned (Some k) y) ≡ false → is_apart (Some k) y ≡ true
far_by k z x y r e f g =
    way_left (same_arg (arg.Var k.variable) x) (not (is_imm x) && same_arg (arg.Var k.variable) y) (is_free (arg.Var k.variable) y) z (arg.Var k.variable) x y r e
    (sym (pinned_same k x) ∙ f) (sym (ap (λ b. not (is_imm x) && b) (pinned_same k y)) ∙ g)

not_number : {c : Class} {x : Arg} → Stands c x → not (is_imm x) ≡ true → is_place x ≡ true
not_number (stands.in_variable z n) e = refl
not_number (stands.in_memory z m) e = refl
not_number (stands.in_frame z c) e = refl
not_number (stands.as_number i) e = absurd (false≢true e)

-- the low word, and the actions by it
pub record Low (home : Homes) (z : Size) (l : Lval) (h : Option Pinned) (x y : Arg) : Type 0 where
  pub kept : Option Pinned
  pub is : IsPinned home z l kept
  pub wide : WideMade z h kept x y

pub low_skip : (home : Homes) (z : Size) → IsLong z → (l : Lval) (h : Option Pinned) (x y : Arg) → IsExpandedLeft home l → is_skip (dest_of l) ≡ true → Fits z x → is_place y ≡ true → Fits z y → Low home z l h x y
low_skip home z long l h x y e s fx py fy =
    let k = skip_is home l e s in
    subst (λ l. Low home z l h x y) (sym k.1) (
    record { kept = None; is = no_word k.0; wide = wide_made z long h None x y fx py fy (λ i. absurd (false≢true (and_parts (not (is_imm x)) false i).1)) (λ f g. refl) }
    )

pub low_register : (home : Homes) (z : Size) → IsLong z → (l : Lval) (h : Option Pinned) (x y : Arg) (D : LeftAs home z l) (oa ob : Operand) → is_r (dest_of l) ≡ true → Fits z D.arg' → Beside z D.arg' x oa → Beside z D.arg' y ob → is_rm ob.class ≡ true → computes (not (is_i oa.class)) (dest_of l) oa ob ≡ true → Low home z l h x y
low_register home z long l h x y D oa ob r fd m n rm e =
    let g = left_register home z l D r in
    let k = pin_of g in
    let B = brings (not (is_imm x)) z D.arg' x y (dest_of l) oa ob D.stands fd m n (sym (ap (λ w. computes (not w) (dest_of l) oa ob) (stands_i m.stands)) ∙ e) in
    let B' = subst (λ b. Brought (not (is_imm x)) z b x y) g.arg_is B in
    record {
      kept = Some k;
      is = register_pinned home l z D.arg' g;
      wide =
          wide_made z long h (Some k) x y m.fits (stands_place n.stands rm) n.fits (λ i. not_number m.stands (and_parts (not (is_imm x)) (is_pinned (Some k) y) i).0)
          (λ f g. far_by k z x y (B'.before, B'.second) B'.is f g);
    }
