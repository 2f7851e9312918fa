-- An intrinsic that is typed and matches has its flags, and the actions of its form behind them.
use Rattle.std.proofs.Common.{◌≡◌, Bool, true, false, ◌&&◌, ◌||◌, if◌then◌else◌, List, [], ◌∷◌, ◌++◌, Option, Some, None, refl, subst}
use Rattle.std.specs.Prelude.{All}
use Rattle.std.specs.Option.{option_or}
use Rattle.std.proofs.lemmas.Bool.{and_parts}
use Rattle.std.proofs.lemmas.List.Elements.{All-nil, All-cons, All-head, All-tail}
use Rattle.jz_words.specs.declared.size.Size.{Size}
use Rattle.jz_words.specs.declared.size.Size.TheVariants.{S64}
use Rattle.x64_insn.specs.declared.types.Alu.{Alu}
use Rattle.x64_insn.specs.declared.types.Alu.TheVariants as alu
use Rattle.x64_insn.specs.declared.types.One.TheVariants as one
use Rattle.x64_insn.specs.declared.types.Shift.TheVariants as shift
use Rattle.jz_tree.specs.declared.intrinsic.Intrinsic.{Intrinsic}
use Rattle.jz_tree.specs.declared.intrinsic.Intrinsic.TheVariants as name
use Rattle.jz_tree.specs.declared.intrinsic.Instance.{Instance}
use Rattle.jz_tree.specs.declared.expr.Expr.{Expr}
use Rattle.jz_tree.specs.declared.stmt.Lval.{Lval}
use Rattle.jz_type_sizes.specs.declared.signatures.Role.{Role}
use Rattle.jz_type_sizes.specs.declared.signatures.Role.TheVariants as role
use Rattle.jz_type_sizes.specs.Signatures as signed
use Rattle.jz_judgement.specs.WellTyped as well
use Rattle.jz_judgement.specs.WellTyped.{InPairs, Output}
use Rattle.jz_judgement.proofs.Nothing.{none_not, same_some}
use Rattle.jz_select.specs.declared.shaping.Flags.TheVariants as flags
use Rattle.jz_select.specs.declared.shape.Shape as rowed
use Rattle.jz_select.specs.declared.shape.Shape.TheVariants as shapes
use Rattle.jz_select.specs.Sums.{is_sum}
use Rattle.jz_select.specs.Look.{terms_of}
use Rattle.jz_select.specs.Operands.{class_of, dest_of, operand_of}
use Rattle.jz_select.specs.Rows.{is_rm, is_r, is_i, class_size, is_longest, is_product, divides_long}
use Rattle.jz_select.specs.Shapes.{whichever, two_lead, four_lead, five_lead, if_lead, value_behind, one_shape, two_shape, three_shape, compare_shape, product_shape, division_shape, stand_apart, address_shape}
use Rattle.jz_row_laws.proofs.Copied.{Matches, no_free}
use Rattle.jz_stuck_runs.proofs.RowSizes.{named_fits, Typed}
use Rattle.jz_limits.specs.declared.operands.Role.TheVariants as limited
use Rattle.jz_limits.specs.Values.{no_numbers}
use Rattle.jz_limits.specs.Asked.{left_access, asked_as}
use Rattle.jz_limits.specs.InnerLooked.{count_field}
use Rattle.jz_operations.specs.Rows.{Frame}
use Rattle.jz_operations.specs.declared.operation.Action.{Action}
use Rattle.jz_operations.specs.declared.operation.Flags.{Flags}
use Rattle.jz_encodable.specs.Encodable.{CanEncode}
use Rattle.jz_change.specs.declared.change.Numbers.{Numbers}
use Rattle.jz_homes.specs.Homes.{Homes, IsHoming}
use Rattle.jz_one_flag_row.specs.Forms.{Lead, Form, form_of, lead_of, l_none, l_two, l_four, l_five, f_two, f_carried, f_one, f_swap, f_compare, f_shift, f_times, f_wide, f_divide, f_address, AreLed, HasForm, IsFormed}
use Rattle.jz_total_rows.specs.Expanded.{IsExpanded, IsExpandedLeft}
use Rattle.jz_total_rows.proofs.Summed.{seen}
use Rattle.jz_total_rows.proofs.Meets.{A}
use Rattle.jz_total_rows.proofs.Operands.{left_operand}
use Rattle.jz_total_rows.proofs.Assigned.{at_size, IsKept}
use Rattle.jz_total_flags.proofs.FlagLeads.{Led, zero_led, two_led, four_led, five_led, all_led}
use Rattle.jz_total_flags.proofs.InstructionForms.{HasActs}
use Rattle.jz_total_flags.proofs.InstructionRows.{IsReadyOperand, compare_there}
use Rattle.jz_total_flags.proofs.Products.{AllSized}
use Rattle.jz_total_flags.proofs.WideForms.{product_there, division_there}
use Rattle.jz_total_flags.proofs.InstructionLea.{lea_there}
use Rattle.jz_total_flags.proofs.InstructionBehind.{IsReadyLeft, Behind, one_behind, swap_behind, two_behind, carried_behind, times_behind, count_behind}

-- its flags and its actions
pub record HasFormed (home : Homes) (z : Size) (n : Intrinsic) (to : List Lval) (es : List Expr) : Type 0 where
  pub taken : Flags
  pub acts : List Action
  pub items : List Numbers
  pub row : IsFormed home z n to es taken acts items
  pub can : All CanEncode acts

pub formed_with : (home : Homes) (z : Size) (n : Intrinsic) (to rest : List Lval) (es : List Expr) (l : Lead) (f : Form) → l ≡ lead_of n → f ≡ form_of n → Led home l to rest → HasActs (HasForm home z f rest es) → HasFormed home z n to es
formed_with home z n to rest es l f e g led h = record {
  taken = led.taken;
  acts = h.0;
  items = h.1;
  row = record { rest = rest; led = subst (λ k. AreLed home k to led.taken rest) e led.are; row = subst (λ k. HasForm home z k rest es h.0 h.1) g h.2 };
  can = h.3;
}

formed_behind : (home : Homes) (z : Size) (n : Intrinsic) (to : List Lval) (es : List Expr) (l : Lead) (f : Form) → l ≡ lead_of n → f ≡ form_of n → (x : Option Lval) → ((d : Lval) → x ≡ Some d → Led home l to (d ∷ [])) → Behind home (λ ds acts items. HasForm home z f ds es acts items) x
    → HasFormed home z n to es
formed_behind home z n to es l f e g x led b = formed_with home z n to (b.left ∷ []) es l f e g (led b.left b.is) b.there

-- ---- the value behind the flags
abbrev IsLeftKept : Lval → Type 0
IsLeftKept d = left_operand (left_access d) ≡ None

behind_if : (b : Bool) (d x : Lval) → if_lead b d ≡ Some x → (b ≡ true) × (d ≡ x)
behind_if true d x e = (refl, same_some d x e)
behind_if false d x e = absurd (none_not x e)

second_of : (P : Lval → Type 0) (a b : Lval) (ds : List Lval) → All P (a ∷ b ∷ ds) → All P ds
second_of P a b ds all = All-tail P b ds (All-tail P a (b ∷ ds) all)

module _ (home : Homes) (z : Size) where
  abbrev L : Lval → Type 0
  L d = IsExpandedLeft home d

  last_ready : (d : Lval) → Output (Some z) role.Value d → All L (d ∷ []) → All IsLeftKept (d ∷ []) → IsReadyLeft home z d
  last_ready d v all kept = record { expanded = All-head L d [] all; typed = v; kept = All-head IsLeftKept d [] kept }

  zero_ready : (to : List Lval) → InPairs (Output (Some z)) (role.Value ∷ []) to → All L to → All IsLeftKept to → (x : Lval) → value_behind flags.Zero to ≡ Some x → IsReadyLeft home z x
  zero_ready to (well.next {b = d} v well.none) all kept x e = subst (IsReadyLeft home z) (same_some d x e) (last_ready d v all kept)

  two_ready : (to : List Lval) → InPairs (Output (Some z)) (role.Flag ∷ role.Flag ∷ role.Value ∷ []) to → All L to → All IsLeftKept to → (x : Lval) → value_behind flags.Two to ≡ Some x → IsReadyLeft home z x
  two_ready to (well.next {b = a} oa (well.next {b = b} ob (well.next {b = d} v well.none))) all kept x e =
      subst (IsReadyLeft home z) (behind_if (two_lead a b) d x e).1 (last_ready d v (second_of L a b (d ∷ []) all) (second_of IsLeftKept a b (d ∷ []) kept))

  four_ready : (to : List Lval) → InPairs (Output (Some z)) (signed.four ++ role.Value ∷ []) to → All L to → All IsLeftKept to → (x : Lval) → value_behind flags.Four to ≡ Some x → IsReadyLeft home z x
  four_ready to (well.next {b = a} oa (well.next {b = b} ob (well.next {b = c} oc (well.next {b = g} og (well.next {b = d} v well.none))))) all kept x e =
      subst (IsReadyLeft home z) (behind_if (four_lead a b c g) d x e).1 (last_ready d v (second_of L c g (d ∷ []) (second_of L a b (c ∷ g ∷ d ∷ []) all)) (second_of IsLeftKept c g (d ∷ []) (second_of IsLeftKept a b (c ∷ g ∷ d ∷ []) kept)))

  five_ready : (to : List Lval) → InPairs (Output (Some z)) (signed.five ++ role.Value ∷ []) to → All L to → All IsLeftKept to → (x : Lval) → value_behind flags.Five to ≡ Some x → IsReadyLeft home z x
  five_ready to (well.next {b = a} oa (well.next {b = b} ob (well.next {b = c} oc (well.next {b = g} og (well.next {b = k} ok (well.next {b = d} v well.none)))))) all kept x e =
      subst (IsReadyLeft home z) (behind_if (five_lead a b c g k) d x e).1
      (last_ready d v (All-tail L k (d ∷ []) (second_of L c g (k ∷ d ∷ []) (second_of L a b (c ∷ g ∷ k ∷ d ∷ []) all))) (All-tail IsLeftKept k (d ∷ []) (second_of IsLeftKept c g (k ∷ d ∷ []) (second_of IsLeftKept a b (c ∷ g ∷ k ∷ d ∷ []) kept))))

  -- ---- operands
  abbrev X : Expr → Type 0
  X e = IsExpanded home e

  abbrev R : Expr → Type 0
  R e = IsReadyOperand home z e

  pub one_operand : (es : List Expr) → InPairs (Typed (Some z)) (role.Value ∷ []) es → All X es → All (IsKept z) es → All R es
  one_operand es (well.next {b = a} t well.none) all kept = All-cons R a [] (record { expanded = All-head X a [] all; typed = t; kept = All-head (IsKept z) a [] kept }) (All-nil R)

  pub two_operands : (es : List Expr) → InPairs (Typed (Some z)) (role.Value ∷ role.Value ∷ []) es → All X es → All (IsKept z) es → All R es
  two_operands es (well.next {b = a} t (well.next {b = b} u well.none)) all kept =
      All-cons R a (b ∷ []) (record { expanded = All-head X a (b ∷ []) all; typed = t; kept = All-head (IsKept z) a (b ∷ []) kept })
      (one_operand (b ∷ []) (well.next u well.none) (All-tail X a (b ∷ []) all) (All-tail (IsKept z) a (b ∷ []) kept))

pub three_operands : (home : Homes) (z : Size) (es : List Expr) → InPairs (Typed (Some z)) (role.Value ∷ role.Value ∷ role.Value ∷ []) es → All (IsExpanded home) es → All (IsKept z) es → All (IsReadyOperand home z) es
three_operands home z es (well.next {b = a} t (well.next {b = b} u (well.next {b = c} v well.none))) all kept =
    let X : Expr → Type 0 = IsExpanded home in
    All-cons (IsReadyOperand home z) a (b ∷ c ∷ []) (record { expanded = All-head X a (b ∷ c ∷ []) all; typed = t; kept = All-head (IsKept z) a (b ∷ c ∷ []) kept })
    (two_operands home z (b ∷ c ∷ []) (well.next u (well.next v well.none)) (All-tail X a (b ∷ c ∷ []) all) (All-tail (IsKept z) a (b ∷ c ∷ []) kept))

if_five : (b : Bool) (s : rowed.Shape) → Matches (if b then s else shapes.Free) → (b ≡ true) × Matches s
if_five true s h = (refl, h)
if_five false s h = absurd (no_free h)

module _ (frame : Frame) (home : Homes) (homing : IsHoming frame home) (i : Instance) (z : Size) (to : List Lval) (all : All (IsExpandedLeft home) to) (left : All IsLeftKept to) where
  abbrev Out : List Role → Type 0
  Out rs = InPairs (Output (Some z)) rs to

  abbrev In : List Role → List Expr → Type 0
  In rs es = InPairs (Typed (Some z)) rs es

  abbrev Five : List Role
  Five = signed.five ++ role.Value ∷ []

  -- ---- one operand
  pub neg_formed : (es : List Expr) → i.name ≡ name.Neg → Out Five → In (role.Value ∷ []) es → All (IsExpanded home) es → All (IsKept z) es → Matches (one_shape (whichever A) i (value_behind flags.Five to) es) → HasFormed home z name.Neg to es
  neg_formed es e o p x kept m =
      formed_behind home z name.Neg to es l_five (f_one one.Neg) refl refl (value_behind flags.Five to) (λ d is. five_led home to d all is)
      (one_behind frame home homing i z one.Neg name.Neg (λ d a h. h) e (value_behind flags.Five to) es (five_ready home z to o all left) (one_operand home z es p x kept) m)

  pub inc_formed : (es : List Expr) → i.name ≡ name.Inc → Out (signed.four ++ role.Value ∷ []) → In (role.Value ∷ []) es → All (IsExpanded home) es → All (IsKept z) es → Matches (one_shape (whichever A) i (value_behind flags.Four to) es) → HasFormed home z name.Inc to es
  inc_formed es e o p x kept m =
      formed_behind home z name.Inc to es l_four (f_one one.Inc) refl refl (value_behind flags.Four to) (λ d is. four_led home to d all is)
      (one_behind frame home homing i z one.Inc name.Inc (λ d a h. h) e (value_behind flags.Four to) es (four_ready home z to o all left) (one_operand home z es p x kept) m)

  pub dec_formed : (es : List Expr) → i.name ≡ name.Dec → Out (signed.four ++ role.Value ∷ []) → In (role.Value ∷ []) es → All (IsExpanded home) es → All (IsKept z) es → Matches (one_shape (whichever A) i (value_behind flags.Four to) es) → HasFormed home z name.Dec to es
  dec_formed es e o p x kept m =
      formed_behind home z name.Dec to es l_four (f_one one.Dec) refl refl (value_behind flags.Four to) (λ d is. four_led home to d all is)
      (one_behind frame home homing i z one.Dec name.Dec (λ d a h. h) e (value_behind flags.Four to) es (four_ready home z to o all left) (one_operand home z es p x kept) m)

  pub not_formed : (es : List Expr) → i.name ≡ name.Not → Out (role.Value ∷ []) → In (role.Value ∷ []) es → All (IsExpanded home) es → All (IsKept z) es → Matches (one_shape (whichever A) i (value_behind flags.Zero to) es) → HasFormed home z name.Not to es
  not_formed es e o p x kept m =
      formed_behind home z name.Not to es l_none (f_one one.Not) refl refl (value_behind flags.Zero to) (λ d is. zero_led home to d all is)
      (one_behind frame home homing i z one.Not name.Not (λ d a h. h) e (value_behind flags.Zero to) es (zero_ready home z to o all left) (one_operand home z es p x kept) m)

  pub bswap_formed : (es : List Expr) → ((y : Size) → i.size ≡ Some y → y ≡ z) → i.name ≡ name.Bswap → Out (role.Value ∷ []) → In (role.Value ∷ []) es → All (IsExpanded home) es → All (IsKept z) es → Matches (one_shape (whichever A) i (value_behind flags.Zero to) es) → HasFormed home z name.Bswap to es
  bswap_formed es own e o p x kept m =
      formed_behind home z name.Bswap to es l_none f_swap refl refl (value_behind flags.Zero to) (λ d is. zero_led home to d all is)
      (swap_behind frame home homing i z own e (value_behind flags.Zero to) es (zero_ready home z to o all left) (one_operand home z es p x kept) m)

  -- ---- two operands
  pub add_formed : (es : List Expr) → i.name ≡ name.Add → Out Five → In (role.Value ∷ role.Value ∷ []) es → All (IsExpanded home) es → All (IsKept z) es → Matches (two_shape (whichever A) i (value_behind flags.Five to) es) → HasFormed home z name.Add to es
  add_formed es e o p x kept m =
      formed_behind home z name.Add to es l_five (f_two alu.Add true) refl refl (value_behind flags.Five to) (λ d is. five_led home to d all is)
      (two_behind frame home homing i z alu.Add true name.Add refl (λ d a b h. h) e (value_behind flags.Five to) es (five_ready home z to o all left) (two_operands home z es p x kept) m)

  pub sub_formed : (es : List Expr) → i.name ≡ name.Sub → Out Five → In (role.Value ∷ role.Value ∷ []) es → All (IsExpanded home) es → All (IsKept z) es → Matches (two_shape (whichever A) i (value_behind flags.Five to) es) → HasFormed home z name.Sub to es
  sub_formed es e o p x kept m =
      formed_behind home z name.Sub to es l_five (f_two alu.Sub false) refl refl (value_behind flags.Five to) (λ d is. five_led home to d all is)
      (two_behind frame home homing i z alu.Sub false name.Sub refl (λ d a b h. h) e (value_behind flags.Five to) es (five_ready home z to o all left) (two_operands home z es p x kept) m)

  pub and_formed : (es : List Expr) → i.name ≡ name.And → Out Five → In (role.Value ∷ role.Value ∷ []) es → All (IsExpanded home) es → All (IsKept z) es → Matches (two_shape (whichever A) i (value_behind flags.Five to) es) → HasFormed home z name.And to es
  and_formed es e o p x kept m =
      formed_behind home z name.And to es l_five (f_two alu.And true) refl refl (value_behind flags.Five to) (λ d is. five_led home to d all is)
      (two_behind frame home homing i z alu.And true name.And refl (λ d a b h. h) e (value_behind flags.Five to) es (five_ready home z to o all left) (two_operands home z es p x kept) m)

  pub or_formed : (es : List Expr) → i.name ≡ name.Or → Out Five → In (role.Value ∷ role.Value ∷ []) es → All (IsExpanded home) es → All (IsKept z) es → Matches (two_shape (whichever A) i (value_behind flags.Five to) es) → HasFormed home z name.Or to es
  or_formed es e o p x kept m =
      formed_behind home z name.Or to es l_five (f_two alu.Or true) refl refl (value_behind flags.Five to) (λ d is. five_led home to d all is)
      (two_behind frame home homing i z alu.Or true name.Or refl (λ d a b h. h) e (value_behind flags.Five to) es (five_ready home z to o all left) (two_operands home z es p x kept) m)

  pub xor_formed : (es : List Expr) → i.name ≡ name.Xor → Out Five → In (role.Value ∷ role.Value ∷ []) es → All (IsExpanded home) es → All (IsKept z) es → Matches (two_shape (whichever A) i (value_behind flags.Five to) es) → HasFormed home z name.Xor to es
  xor_formed es e o p x kept m =
      formed_behind home z name.Xor to es l_five (f_two alu.Xor true) refl refl (value_behind flags.Five to) (λ d is. five_led home to d all is)
      (two_behind frame home homing i z alu.Xor true name.Xor refl (λ d a b h. h) e (value_behind flags.Five to) es (five_ready home z to o all left) (two_operands home z es p x kept) m)

  pub imul_formed : (es : List Expr) → i.name ≡ name.Imul → Out Five → In (role.Value ∷ role.Value ∷ []) es → All (IsExpanded home) es → All (IsKept z) es → Matches (two_shape (whichever A) i (value_behind flags.Five to) es) → HasFormed home z name.Imul to es
  imul_formed es e o p x kept m =
      formed_behind home z name.Imul to es l_five f_times refl refl (value_behind flags.Five to) (λ d is. five_led home to d all is)
      (times_behind frame home homing i z e (value_behind flags.Five to) es (five_ready home z to o all left) (two_operands home z es p x kept) m)

  -- ---- and a flag
  pub adc_formed : (a b c : Expr) → i.name ≡ name.Adc → Out Five → In (role.Value ∷ role.Value ∷ []) (a ∷ b ∷ []) → All (IsExpanded home) (a ∷ b ∷ []) → All (IsKept z) (a ∷ b ∷ []) → IsExpanded home c
      → Matches (three_shape (whichever A) i (value_behind flags.Five to) (a ∷ b ∷ c ∷ [])) → HasFormed home z name.Adc to (a ∷ b ∷ c ∷ [])
  adc_formed a b c e o p x kept y m =
      formed_behind home z name.Adc to (a ∷ b ∷ c ∷ []) l_five (f_carried alu.Adc true) refl refl (value_behind flags.Five to) (λ d is. five_led home to d all is)
      (carried_behind frame home homing i z alu.Adc true name.Adc refl (λ d u v w h. h) e (value_behind flags.Five to) a b c (five_ready home z to o all left) (two_operands home z (a ∷ b ∷ []) p x kept) y m)

  pub sbb_formed : (a b c : Expr) → i.name ≡ name.Sbb → Out Five → In (role.Value ∷ role.Value ∷ []) (a ∷ b ∷ []) → All (IsExpanded home) (a ∷ b ∷ []) → All (IsKept z) (a ∷ b ∷ []) → IsExpanded home c
      → Matches (three_shape (whichever A) i (value_behind flags.Five to) (a ∷ b ∷ c ∷ [])) → HasFormed home z name.Sbb to (a ∷ b ∷ c ∷ [])
  sbb_formed a b c e o p x kept y m =
      formed_behind home z name.Sbb to (a ∷ b ∷ c ∷ []) l_five (f_carried alu.Sbb false) refl refl (value_behind flags.Five to) (λ d is. five_led home to d all is)
      (carried_behind frame home homing i z alu.Sbb false name.Sbb refl (λ d u v w h. h) e (value_behind flags.Five to) a b c (five_ready home z to o all left) (two_operands home z (a ∷ b ∷ []) p x kept) y m)

  -- ---- shifts and rotations
  pub shl_formed : (a b : Expr) → i.name ≡ name.Shl → Out Five → IsReadyOperand home z a → IsExpanded home b → ((d : Lval) → value_behind flags.Five to ≡ Some d → option_or i.size (option_or (class_size (dest_of d)) (class_size (operand_of A d a).class)) ≡ Some z)
      → count_field (Some z) (seen (at_size z) b) ≡ None → Matches (two_shape (whichever A) i (value_behind flags.Five to) (a ∷ b ∷ [])) → HasFormed home z name.Shl to (a ∷ b ∷ [])
  shl_formed a b e o r y size limit m =
      formed_behind home z name.Shl to (a ∷ b ∷ []) l_five (f_shift shift.Shl) refl refl (value_behind flags.Five to) (λ d is. five_led home to d all is)
      (count_behind frame home homing i z shift.Shl name.Shl (λ d u v h. h) e (value_behind flags.Five to) a b (five_ready home z to o all left) r y size limit m)

  pub shr_formed : (a b : Expr) → i.name ≡ name.Shr → Out Five → IsReadyOperand home z a → IsExpanded home b → ((d : Lval) → value_behind flags.Five to ≡ Some d → option_or i.size (option_or (class_size (dest_of d)) (class_size (operand_of A d a).class)) ≡ Some z)
      → count_field (Some z) (seen (at_size z) b) ≡ None → Matches (two_shape (whichever A) i (value_behind flags.Five to) (a ∷ b ∷ [])) → HasFormed home z name.Shr to (a ∷ b ∷ [])
  shr_formed a b e o r y size limit m =
      formed_behind home z name.Shr to (a ∷ b ∷ []) l_five (f_shift shift.Shr) refl refl (value_behind flags.Five to) (λ d is. five_led home to d all is)
      (count_behind frame home homing i z shift.Shr name.Shr (λ d u v h. h) e (value_behind flags.Five to) a b (five_ready home z to o all left) r y size limit m)

  pub sar_formed : (a b : Expr) → i.name ≡ name.Sar → Out Five → IsReadyOperand home z a → IsExpanded home b → ((d : Lval) → value_behind flags.Five to ≡ Some d → option_or i.size (option_or (class_size (dest_of d)) (class_size (operand_of A d a).class)) ≡ Some z)
      → count_field (Some z) (seen (at_size z) b) ≡ None → Matches (two_shape (whichever A) i (value_behind flags.Five to) (a ∷ b ∷ [])) → HasFormed home z name.Sar to (a ∷ b ∷ [])
  sar_formed a b e o r y size limit m =
      formed_behind home z name.Sar to (a ∷ b ∷ []) l_five (f_shift shift.Sar) refl refl (value_behind flags.Five to) (λ d is. five_led home to d all is)
      (count_behind frame home homing i z shift.Sar name.Sar (λ d u v h. h) e (value_behind flags.Five to) a b (five_ready home z to o all left) r y size limit m)

  pub rol_formed : (a b : Expr) → i.name ≡ name.Rol → Out (role.Flag ∷ role.Flag ∷ role.Value ∷ []) → IsReadyOperand home z a → IsExpanded home b → ((d : Lval) → value_behind flags.Two to ≡ Some d → option_or i.size (option_or (class_size (dest_of d)) (class_size (operand_of A d a).class)) ≡ Some z)
      → count_field (Some z) (seen (at_size z) b) ≡ None → Matches (two_shape (whichever A) i (value_behind flags.Two to) (a ∷ b ∷ [])) → HasFormed home z name.Rol to (a ∷ b ∷ [])
  rol_formed a b e o r y size limit m =
      formed_behind home z name.Rol to (a ∷ b ∷ []) l_two (f_shift shift.Rol) refl refl (value_behind flags.Two to) (λ d is. two_led home to d all is)
      (count_behind frame home homing i z shift.Rol name.Rol (λ d u v h. h) e (value_behind flags.Two to) a b (two_ready home z to o all left) r y size limit m)

  pub ror_formed : (a b : Expr) → i.name ≡ name.Ror → Out (role.Flag ∷ role.Flag ∷ role.Value ∷ []) → IsReadyOperand home z a → IsExpanded home b → ((d : Lval) → value_behind flags.Two to ≡ Some d → option_or i.size (option_or (class_size (dest_of d)) (class_size (operand_of A d a).class)) ≡ Some z)
      → count_field (Some z) (seen (at_size z) b) ≡ None → Matches (two_shape (whichever A) i (value_behind flags.Two to) (a ∷ b ∷ [])) → HasFormed home z name.Ror to (a ∷ b ∷ [])
  ror_formed a b e o r y size limit m =
      formed_behind home z name.Ror to (a ∷ b ∷ []) l_two (f_shift shift.Ror) refl refl (value_behind flags.Two to) (λ d is. two_led home to d all is)
      (count_behind frame home homing i z shift.Ror name.Ror (λ d u v h. h) e (value_behind flags.Two to) a b (two_ready home z to o all left) r y size limit m)

-- ---- CMP and TEST
pub compare_formed : (home : Homes) (i : Instance) (z : Size) (n : Intrinsic) (k : Alu) (to : List Lval) (es : List Expr) → All (IsExpandedLeft home) to → l_five ≡ lead_of n → f_compare k ≡ form_of n → All (IsReadyOperand home z) es → Matches (compare_shape i to es) → HasFormed home z n to es
compare_formed home i z n k (a ∷ b ∷ c ∷ g ∷ h ∷ []) (x ∷ y ∷ []) all e f ready m =
    let R : Expr → Type 0 = IsReadyOperand home z in
    let t = if_five (five_lead a b c g h) (shapes.Compare i.name (class_of x) (class_of y)) m in
    let u = named_fits i.name (is_rm (class_of x) && (is_r (class_of y) || is_i (class_of y))) t.1 in
    formed_with home z n (a ∷ b ∷ c ∷ g ∷ h ∷ []) [] (x ∷ y ∷ []) l_five (f_compare k) e f (all_led home a b c g h [] all t.0) (compare_there home z k x y (All-head R x (y ∷ []) ready) (All-head R y [] (All-tail R x (y ∷ []) ready)) u)
compare_formed home i z n k to es all e f ready m = absurd (no_free m)

-- ---- two words behind five flags
behind_all : (P : Lval → Type 0) (a b c g k : Lval) (ds : List Lval) → All P (a ∷ b ∷ c ∷ g ∷ k ∷ ds) → All P ds
behind_all P a b c g k ds all = All-tail P k ds (second_of P c g (k ∷ ds) (second_of P a b (c ∷ g ∷ k ∷ ds) all))

pub mul_formed : (frame : Frame) (home : Homes) (homing : IsHoming frame home) (i : Instance) (z : Size) (to : List Lval) (es : List Expr) → All (IsExpandedLeft home) to → All IsLeftKept to → AllSized i.size z → InPairs (Output (Some z)) (signed.five ++ role.Value ∷ role.Value ∷ []) to
    → InPairs (Typed (Some z)) (role.Value ∷ role.Value ∷ []) es → All (IsReadyOperand home z) es → Matches (product_shape (whichever A) i to es) → HasFormed home z name.Mul to es
mul_formed frame home homing i z to es all left own (well.next {b = a} oa (well.next {b = b} ob (well.next {b = c} oc (well.next {b = g} og (well.next {b = k} ok (well.next {b = h} oh (well.next {b = l} ol well.none))))))) (well.next {b = x} tx (well.next {b = y} ty well.none)) ready m =
    let R : Expr → Type 0 = IsReadyOperand home z in
    let X : Lval → Type 0 = IsExpandedLeft home in
    let u = operand_of A l x in
    let v = operand_of A l y in
    let t = if_five (five_lead a b c g k) (shapes.Product i.size (dest_of h) (dest_of l) u v) m in
    let w = named_fits name.Mul (is_product i.size (dest_of h) (dest_of l) u v) t.1 in
    let rest = behind_all X a b c g k (h ∷ l ∷ []) all in
    let kept = behind_all IsLeftKept a b c g k (h ∷ l ∷ []) left in
    formed_with home z name.Mul (a ∷ b ∷ c ∷ g ∷ k ∷ h ∷ l ∷ []) (h ∷ l ∷ []) (x ∷ y ∷ []) l_five f_wide refl refl (all_led home a b c g k (h ∷ l ∷ []) all t.0)
    (product_there frame home homing z i.size own h l (All-head X h (l ∷ []) rest) (All-head X l [] (All-tail X h (l ∷ []) rest)) oh ol (All-head IsLeftKept l [] (All-tail IsLeftKept h (l ∷ []) kept)) x y (All-head R x (y ∷ []) ready) (All-head R y [] (All-tail R x (y ∷ []) ready)) w)

pub div_formed : (frame : Frame) (home : Homes) (homing : IsHoming frame home) (i : Instance) (z : Size) (to : List Lval) (es : List Expr) → All (IsExpandedLeft home) to → AllSized i.size z → InPairs (Output (Some z)) (signed.five ++ role.Value ∷ role.Value ∷ []) to
    → InPairs (Typed (Some z)) (role.Value ∷ role.Value ∷ role.Value ∷ []) es → All (IsReadyOperand home z) es → Matches (division_shape (whichever A) i to es) → HasFormed home z name.Div to es
div_formed frame home homing i z to es all own (well.next {b = a} oa (well.next {b = b} ob (well.next {b = c} oc (well.next {b = g} og (well.next {b = k} ok (well.next {b = q} oq (well.next {b = r} or' well.none))))))) (well.next {b = x} tx (well.next {b = y} ty (well.next {b = w} tw well.none))) ready m =
    let R : Expr → Type 0 = IsReadyOperand home z in
    let X : Lval → Type 0 = IsExpandedLeft home in
    let s = stand_apart (whichever A) q r x w in
    let t = if_five (five_lead a b c g k) (shapes.Division i.size (dest_of q) (dest_of r) (class_of x) (class_of y) (class_of w) s) m in
    let f = named_fits name.Div (divides_long i.size (dest_of q) (dest_of r) (class_of x) (class_of y) (class_of w) s) t.1 in
    let rest = behind_all X a b c g k (q ∷ r ∷ []) all in
    let later = All-tail R x (y ∷ w ∷ []) ready in
    formed_with home z name.Div (a ∷ b ∷ c ∷ g ∷ k ∷ q ∷ r ∷ []) (q ∷ r ∷ []) (x ∷ y ∷ w ∷ []) l_five f_divide refl refl (all_led home a b c g k (q ∷ r ∷ []) all t.0)
    (division_there frame home homing z i.size own q r (All-head X q (r ∷ []) rest) (All-head X r [] (All-tail X q (r ∷ []) rest)) oq or' x y w (All-head R x (y ∷ w ∷ []) ready) (All-head R y (w ∷ []) later) (All-head R w [] (All-tail R y (w ∷ []) later)) f)

-- ---- LEA, whose words have 64 bits
abbrev pub AddressKept : List Expr → Type 0
AddressKept es = (a : Expr) → es ≡ a ∷ [] → (asked_as no_numbers limited.Address None a).fields ≡ []

lea_behind : (home : Homes) (i : Instance) (x : Option Lval) (es : List Expr) → ((d : Lval) → x ≡ Some d → IsReadyLeft home S64 d) → All (IsExpanded home) es → AddressKept es → Matches (address_shape i x es) → Behind home (λ to acts items. HasForm home S64 f_address to es acts items) x
lea_behind home i (Some d) (a ∷ []) g y f h =
    let r = g d refl in
    let w = named_fits name.Lea (is_r (dest_of d) && (is_longest (option_or i.size (class_size (dest_of d))) && is_sum (terms_of a))) h in
    let p = and_parts (is_r (dest_of d)) _ w in
    let s = and_parts (is_longest (option_or i.size (class_size (dest_of d)))) (is_sum (terms_of a)) p.1 in
    record { left = d; is = refl; there = lea_there home d a r.expanded r.typed p.0 (All-head (IsExpanded home) a [] y) s.1 (f a refl) }
lea_behind home i None es g y f h = absurd (no_free h)
lea_behind home i (Some d) [] g y f h = absurd (no_free h)
lea_behind home i (Some d) (a ∷ b ∷ es) g y f h = absurd (no_free h)

pub lea_formed : (home : Homes) (i : Instance) (to : List Lval) (es : List Expr) → All (IsExpandedLeft home) to → All IsLeftKept to → InPairs (Output (Some S64)) (role.Value ∷ []) to → All (IsExpanded home) es → AddressKept es → Matches (address_shape i (value_behind flags.Zero to) es) → HasFormed home S64 name.Lea to es
lea_formed home i to es all left o y f m =
    formed_behind home S64 name.Lea to es l_none f_address refl refl (value_behind flags.Zero to) (λ d is. zero_led home to d all is) (lea_behind home i (value_behind flags.Zero to) es (zero_ready home S64 to o all left) y f m)
