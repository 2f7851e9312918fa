-- Intrinsics have operations.
use Rattle.std.proofs.Common.{◌≡◌, ℕ, true, false, ◌&&◌, if◌then◌else◌, List, [], ◌∷◌, Option, Some, None, refl, sym, ap, ◌∙◌, subst}
use Rattle.std.specs.Prelude.{All, ⊤, option_map}
use Rattle.std.specs.Option.{option_or}
use Rattle.std.proofs.lemmas.Bool.{false≢true, and_parts}
use Rattle.jz_run_laws.specs.OneSize.{takes_size, IsNoArray}
use Rattle.jz_run_laws.specs.Counted.{Counted}
use Rattle.jz_run_laws.proofs.InstructionSizes.{intrinsic_law}
use Rattle.std.proofs.lemmas.List.Elements.{All-nil, All-cons, All-head, All-tail, All-weaker}
use Rattle.jz_words.specs.declared.size.Size.{Size}
use Rattle.jz_words.specs.declared.size.Size.TheVariants.{S8, S64}
use Rattle.x64_insn.specs.declared.types.Alu.TheVariants as alu
use Rattle.jz_io.specs.declared.span.Span.{Span}
use Rattle.jz_tree.specs.Spellings.{spelled}
use Rattle.jz_tree.specs.declared.intrinsic.Intrinsic.{Intrinsic}
use Rattle.jz_tree.specs.declared.intrinsic.Intrinsic.TheVariants as name
use Rattle.jz_tree.specs.declared.intrinsic.Instance.{Instance}
use Rattle.jz_tree.specs.declared.expr.Expr.{Expr}
use Rattle.jz_tree.specs.declared.expr.Expr.TheVariants as expr
use Rattle.jz_tree.specs.declared.stmt.Lval.{Lval}
use Rattle.jz_tree.specs.declared.stmt.Rhs.TheVariants as rhs
use Rattle.jz_tree.specs.declared.stmt.StmtKind.TheVariants as stmt
use Rattle.jz_integers.specs.Integers.{the_number}
use Rattle.jz_type_names.specs.Kinds.{is_inline, array_layer}
use Rattle.jz_type_sizes.specs.Signatures.{signature_of, instance_signature, operands_of, results_of}
use Rattle.jz_type_sizes.specs.Intrinsics.{size_of_intrinsic, result_size, argument_size}
use Rattle.jz_judgement.specs.WellTyped as well
use Rattle.jz_judgement.specs.WellTyped.{InPairs, Output, Operand, Instructs}
use Rattle.jz_select.specs.declared.pattern.Pattern.{Pattern}
use Rattle.jz_select.specs.declared.shaping.Flags.{Flags as Shaped}
use Rattle.jz_select.specs.declared.shaping.Flags.TheVariants as shaped
use Rattle.jz_select.specs.InnerLayers.{flags_layer}
use Rattle.jz_select.proofs.Conditions.{flags_out}
use Rattle.jz_select.specs.Look.{terms_of}
use Rattle.jz_select.specs.Sums.{is_sum}
use Rattle.jz_select.specs.Selected.{IsSelected}
use Rattle.jz_select.specs.Operands.{dest_of, operand_of}
use Rattle.jz_select.specs.Rows.{class_size, is_r, is_flag, is_longest, sets as sets_byte}
use Rattle.jz_select.specs.Shapes.{whichever, has_flags, value_behind, intrinsic_shape, named_shape, kind_layer, shape_of}
use Rattle.jz_row_laws.proofs.Copied.{Matches, no_free}
use Rattle.jz_stuck_runs.proofs.RowSizes.{Typed, named_fits, sized}
use Rattle.jz_stuck_runs.proofs.Instructing.{operands_typed, lea_size}
use Rattle.jz_judgement.proofs.Nothing.{same_some}
use Rattle.jz_one_row.proofs.Outs.{out_num, out_bool, out_var, out_cell, out_load, out_neg, out_not, out_cast, out_bin}
use Rattle.jz_meaning.specs.Intrinsics.{intrinsic_size}
use Rattle.jz_meaning.specs.Statements.{instruction}
use Rattle.jz_limits.specs.declared.operands.Role.{Role}
use Rattle.jz_limits.specs.declared.operands.Role.TheVariants as role
use Rattle.jz_limits.specs.declared.operands.Roles.{Roles}
use Rattle.jz_limits.specs.declared.limit.Limit.TheVariants.{ImmRange}
use Rattle.jz_limits.specs.Values.{no_numbers}
use Rattle.jz_limits.proofs.Layers.{count_is}
use Rattle.jz_limits.specs.Asked.{told, is_count, left_access, all_in, roles_by, roles_of, size_by, asked_as, asked_if, left_parts, operand_parts, beside}
use Rattle.jz_limits.specs.InnerLooked.{count_field}
use Rattle.jz_operations.specs.Rows.{Frame}
use Rattle.jz_homes.specs.Homes.{Homes, IsHoming}
use Rattle.jz_flag_rows.specs.Rows as flag_rows
use Rattle.jz_one_flag_row.proofs.ByForm.{form_back}
use Rattle.jz_every_row.specs.Statements.{by_flags}
use Rattle.jz_total_rows.specs.Expanded.{IsExpanded, a_number, a_truth, a_variable, a_cell, a_load, a_minus, a_denial, a_cast, of_two, IsExpandedLeft}
use Rattle.jz_total_rows.proofs.Counting.{all_counted}
use Rattle.jz_total_flags.proofs.InstructionArrays.{not_array, no_arrays}
use Rattle.jz_total_flags.proofs.InstructionLefts.{lefts_counted, all_places}
use Rattle.jz_total_flags.proofs.InstructionSet.{set_matched}
use Rattle.jz_total_rows.proofs.Summed.{seen}
use Rattle.jz_total_rows.proofs.Meets.{A}
use Rattle.jz_total_rows.proofs.Operands.{left_operand}
use Rattle.jz_total_rows.proofs.KeptLimits.{both_nothing}
use Rattle.jz_total_rows.proofs.Whole.{fields_none, first_none}
use Rattle.jz_total_rows.proofs.Assigned.{at_size, IsKept}
use Rattle.jz_total_flags.specs.Ready.{HasOperations, IsReadyInstruction, InstructionsHaveOperations}
use Rattle.jz_total_flags.proofs.Leads.{told_any, out_assign}
use Rattle.jz_total_flags.proofs.InstructionRows.{IsReadyOperand}
use Rattle.jz_total_flags.proofs.InstructionCountSizes.{five_size, two_size}
use Rattle.jz_total_flags.proofs.InstructionFormed as formed
use Rattle.jz_total_flags.proofs.InstructionFormed.{HasFormed, compare_formed, mul_formed, div_formed}

-- ---- limits
-- an operand by its role
abbrev KeptAs : Size → Role → Expr → Type 0
KeptAs z role.Operand e = IsKept z e
KeptAs z role.Count e = count_field (Some z) (seen (at_size z) e) ≡ None
KeptAs z r e = ⊤

abbrev KeptIn : Size → Roles → List Expr → Type 0
KeptIn z r [] = ⊤
KeptIn z r (x ∷ xs) = KeptAs z r.first x × KeptIn z (all_in r.later) xs

abbrev IsLeftKept : Lval → Type 0
IsLeftKept d = left_operand (left_access d) ≡ None

left_kept : (d : Option Expr) → (asked_if no_numbers role.Operand None d).fields ≡ [] → left_operand d ≡ None
left_kept None h = refl
left_kept (Some x) h = first_none _ h

lefts_kept : (to : List Lval) → (left_parts no_numbers to).fields ≡ [] → All IsLeftKept to
lefts_kept [] h = All-nil IsLeftKept
lefts_kept (d ∷ ds) h =
    let b = both_nothing (asked_if no_numbers role.Operand None (left_access d)).fields (left_parts no_numbers ds).fields h in
    All-cons IsLeftKept d ds (left_kept (left_access d) b.0) (lefts_kept ds b.1)

operand_kept : (z : Size) (r : Role) (e : Expr) → (asked_as no_numbers r (Some z) e).fields ≡ [] → KeptAs z r e
operand_kept z role.Operand e h = first_none _ h
operand_kept z role.Count e h =
    sym (count_is no_numbers (is_inline e) (is_count (Some z) (the_number (seen (at_size z) e).value)) (ImmRange (seen (at_size z) e).span) ((told no_numbers e).operands (Some z))) ∙ first_none _ h
operand_kept z r e h = tt

operands_kept : (z : Size) (rs : Roles) (es : List Expr) → (operand_parts no_numbers rs (Some z) es).fields ≡ [] → KeptIn z rs es
operands_kept z rs [] h = tt
operands_kept z rs (x ∷ xs) h =
    let b = both_nothing (asked_as no_numbers rs.first (Some z) x).fields (operand_parts no_numbers (all_in rs.later) (Some z) xs).fields h in
    (operand_kept z rs.first x b.0, operands_kept z (all_in rs.later) xs b.1)

all_kept : (z : Size) (es : List Expr) → KeptIn z (all_in role.Operand) es → All (IsKept z) es
all_kept z [] h = All-nil (IsKept z)
all_kept z (x ∷ xs) h = All-cons (IsKept z) x xs h.0 (all_kept z xs h.1)

-- ---- sizes
neither : (o k : Option Size) → option_or o k ≡ None → o ≡ None
neither None k e = refl
neither (Some y) k e = absurd cc

own_by : (o k : Option Size) (z : Size) → option_or o k ≡ Some z → (y : Size) → o ≡ Some y → y ≡ z
own_by None k z e y f = absurd cc
own_by (Some w) k z e y f = same_some y z (sym f ∙ e)

lea_found : (i : Instance) (o : Option Size) (to : List Lval) (args : List Expr) → InPairs (Output o) (results_of name.Lea) to → InPairs (Operand o) (operands_of name.Lea) args → Matches (intrinsic_shape (whichever A) name.Lea i to args) → size_of_intrinsic (signature_of name.Lea i.size) to args ≡ Some S64
lea_found i o to args (well.next {b = d} v well.none) (well.next {b = a} t well.none) m =
    let fits = named_fits name.Lea (is_r (dest_of d) && (is_longest (option_or i.size (class_size (dest_of d))) && is_sum (terms_of a))) m in
    lea_size i.size d None (and_parts (is_longest (option_or i.size (class_size (dest_of d)))) _ (and_parts (is_r (dest_of d)) _ fits).1).0

byte_out : (o : Option Size) (to : List Lval) → InPairs (Output o) (results_of name.Setcc) to → InPairs (Output (Some S8)) (results_of name.Setcc) to
byte_out None to (well.next v well.none) = well.next v well.none
byte_out (Some z) to (well.next v well.none) = well.next v well.none

-- a condition is no array
test_plain : (home : Homes) (c : Expr) → IsExpanded home c → has_flags c ≡ true → IsNoArray c
test_plain home c (a_number i at) h = ap array_layer (out_num i at)
test_plain home c (a_truth b at) h = ap array_layer (out_bool b at)
test_plain home c (a_variable v x) h =
    ap array_layer (out_var v)
    ∙ ap (λ b. if b then Some v else None) (not_array home v x (record { test = is_flag; other = refl; holds = sym (flags_out (expr.Var v) ∙ ap flags_layer (out_var v)) ∙ h }))
test_plain home c (a_cell v i x y) h = ap array_layer (out_cell v i)
test_plain home c (a_load a x) h = ap array_layer (out_load a)
test_plain home c (a_minus a at n x) h = ap array_layer (out_neg a at)
test_plain home c (a_denial a at n x) h = ap array_layer (out_not a at)
test_plain home c (a_cast z s a at x) h = ap array_layer (out_cast z s a at)
test_plain home c (of_two o a b at n x y) h = ap array_layer (out_bin o a b at)

test_typed : (home : Homes) (i : Instance) (o : Option Size) (to : List Lval) (args : List Expr) → InPairs (Output o) (results_of name.Setcc) to → InPairs (Operand o) (operands_of name.Setcc) args → All (IsExpanded home) args → Matches (intrinsic_shape (whichever A) name.Setcc i to args)
    → InPairs (Typed (Some S8)) (operands_of name.Setcc) args
test_typed home i o to args (well.next {b = d} v well.none) (well.next {b = c} t well.none) all m =
    let fits = named_fits name.Setcc (sets_byte i.size (dest_of d) && has_flags c) m in
    let plain = test_plain home c (All-head (IsExpanded home) c [] all) (and_parts (sets_byte i.size (dest_of d)) (has_flags c) fits).1 in
    as_test o (operands_typed o (well.next t well.none) (All-cons IsNoArray c [] plain (All-nil IsNoArray)))
  where
    as_test : (o : Option Size) → InPairs (Typed o) (operands_of name.Setcc) (c ∷ []) → InPairs (Typed (Some S8)) (operands_of name.Setcc) (c ∷ [])
    as_test None (well.next t well.none) = well.next t well.none
    as_test (Some z) (well.next t well.none) = well.next t well.none

-- ---- by the name
-- the flags before what a count shifts
abbrev counted_by : Intrinsic → Option Shaped
counted_by name.Shl = Some shaped.Five
counted_by name.Shr = Some shaped.Five
counted_by name.Sar = Some shaped.Five
counted_by name.Rol = Some shaped.Two
counted_by name.Ror = Some shaped.Two
counted_by m = None

module _ (frame : Frame) (home : Homes) (homing : IsHoming frame home) (i : Instance) (z : Size) (to : List Lval) (all : All (IsExpandedLeft home) to) (left : All IsLeftKept to) where
  abbrev X : Expr → Type 0
  X e = IsExpanded home e

  -- the size that a masked count goes by, of a shift or a rotation
  abbrev CountSizes : Intrinsic → List Expr → Type 0
  CountSizes m es = (f : Shaped) (d : Lval) (a : Expr) (rest : List Expr) → counted_by m ≡ Some f → es ≡ a ∷ rest → value_behind f to ≡ Some d → option_or i.size (option_or (class_size (dest_of d)) (class_size (operand_of A d a).class)) ≡ Some z

  two_ready : (es : List Expr) → InPairs (Typed (Some z)) (operands_of name.Cmp) es → All X es → KeptIn z (all_in role.Operand) es → All (IsReadyOperand home z) es
  two_ready es p x k = formed.two_operands home z es p x (all_kept z es k)

  -- all but LEA and SETcc
  pub named : (m : Intrinsic) (es : List Expr) → takes_size m ≡ true → i.name ≡ m → ((y : Size) → i.size ≡ Some y → y ≡ z) → CountSizes m es → InPairs (Output (Some z)) (results_of m) to → InPairs (Typed (Some z)) (operands_of m) es → All X es → KeptIn z (roles_by m) es
      → Matches (intrinsic_shape (whichever A) m i to es) → HasFormed home z m to es
  named name.Neg es t e own sizes o p x k m = formed.neg_formed frame home homing i z to all left es e o p x (all_kept z es k) m
  named name.Inc es t e own sizes o p x k m = formed.inc_formed frame home homing i z to all left es e o p x (all_kept z es k) m
  named name.Dec es t e own sizes o p x k m = formed.dec_formed frame home homing i z to all left es e o p x (all_kept z es k) m
  named name.Not es t e own sizes o p x k m = formed.not_formed frame home homing i z to all left es e o p x (all_kept z es k) m
  named name.Bswap es t e own sizes o p x k m = formed.bswap_formed frame home homing i z to all left es own e o p x (all_kept z es k) m
  named name.Add es t e own sizes o p x k m = formed.add_formed frame home homing i z to all left es e o p x (all_kept z es k) m
  named name.Sub es t e own sizes o p x k m = formed.sub_formed frame home homing i z to all left es e o p x (all_kept z es k) m
  named name.And es t e own sizes o p x k m = formed.and_formed frame home homing i z to all left es e o p x (all_kept z es k) m
  named name.Or es t e own sizes o p x k m = formed.or_formed frame home homing i z to all left es e o p x (all_kept z es k) m
  named name.Xor es t e own sizes o p x k m = formed.xor_formed frame home homing i z to all left es e o p x (all_kept z es k) m
  named name.Imul es t e own sizes o p x k m = formed.imul_formed frame home homing i z to all left es e o p x (all_kept z es k) m
  named name.Adc es t e own sizes o (well.next {b = a} ta (well.next {b = b} tb (well.next {b = c} tc well.none))) x k m =
      formed.adc_formed frame home homing i z to all left a b c e o (well.next ta (well.next tb well.none))
      (All-cons X a (b ∷ []) (All-head X a (b ∷ c ∷ []) x) (All-cons X b [] (All-head X b (c ∷ []) (All-tail X a (b ∷ c ∷ []) x)) (All-nil X)))
      (All-cons (IsKept z) a (b ∷ []) k.0 (All-cons (IsKept z) b [] k.1.0 (All-nil (IsKept z)))) (All-head X c [] (All-tail X b (c ∷ []) (All-tail X a (b ∷ c ∷ []) x))) m
  named name.Sbb es t e own sizes o (well.next {b = a} ta (well.next {b = b} tb (well.next {b = c} tc well.none))) x k m =
      formed.sbb_formed frame home homing i z to all left a b c e o (well.next ta (well.next tb well.none))
      (All-cons X a (b ∷ []) (All-head X a (b ∷ c ∷ []) x) (All-cons X b [] (All-head X b (c ∷ []) (All-tail X a (b ∷ c ∷ []) x)) (All-nil X)))
      (All-cons (IsKept z) a (b ∷ []) k.0 (All-cons (IsKept z) b [] k.1.0 (All-nil (IsKept z)))) (All-head X c [] (All-tail X b (c ∷ []) (All-tail X a (b ∷ c ∷ []) x))) m
  named name.Shl es t e own sizes o (well.next {b = a} ta (well.next {b = b} tb well.none)) x k m =
      formed.shl_formed frame home homing i z to all left a b e o (record { expanded = All-head X a (b ∷ []) x; typed = ta; kept = k.0 }) (All-head X b [] (All-tail X a (b ∷ []) x)) (λ d is. sizes shaped.Five d a (b ∷ []) refl refl is) k.1.0 m
  named name.Shr es t e own sizes o (well.next {b = a} ta (well.next {b = b} tb well.none)) x k m =
      formed.shr_formed frame home homing i z to all left a b e o (record { expanded = All-head X a (b ∷ []) x; typed = ta; kept = k.0 }) (All-head X b [] (All-tail X a (b ∷ []) x)) (λ d is. sizes shaped.Five d a (b ∷ []) refl refl is) k.1.0 m
  named name.Sar es t e own sizes o (well.next {b = a} ta (well.next {b = b} tb well.none)) x k m =
      formed.sar_formed frame home homing i z to all left a b e o (record { expanded = All-head X a (b ∷ []) x; typed = ta; kept = k.0 }) (All-head X b [] (All-tail X a (b ∷ []) x)) (λ d is. sizes shaped.Five d a (b ∷ []) refl refl is) k.1.0 m
  named name.Rol es t e own sizes o (well.next {b = a} ta (well.next {b = b} tb well.none)) x k m =
      formed.rol_formed frame home homing i z to all left a b e o (record { expanded = All-head X a (b ∷ []) x; typed = ta; kept = k.0 }) (All-head X b [] (All-tail X a (b ∷ []) x)) (λ d is. sizes shaped.Two d a (b ∷ []) refl refl is) k.1.0 m
  named name.Ror es t e own sizes o (well.next {b = a} ta (well.next {b = b} tb well.none)) x k m =
      formed.ror_formed frame home homing i z to all left a b e o (record { expanded = All-head X a (b ∷ []) x; typed = ta; kept = k.0 }) (All-head X b [] (All-tail X a (b ∷ []) x)) (λ d is. sizes shaped.Two d a (b ∷ []) refl refl is) k.1.0 m
  named name.Cmp es t e own sizes o p x k m = compare_formed home i z name.Cmp alu.Cmp to es all refl refl (two_ready es p x k) m
  named name.Test es t e own sizes o p x k m = compare_formed home i z name.Test alu.Test to es all refl refl (two_ready es p x k) m
  named name.Mul es t e own sizes o p x k m = mul_formed frame home homing i z to es all left own o p (two_ready es p x k) m
  named name.Div es t e own sizes o p x k m = div_formed frame home homing i z to es all own o p (formed.three_operands home z es p x (all_kept z es k)) m
  named name.Lea es t e own sizes o p x k m = absurd (false≢true t)
  named name.Setcc es t e own sizes o p x k m = absurd (false≢true t)

same_flags : (f g : Shaped) → ◌≡◌ {A = Option Shaped} (Some g) (Some f) → f ≡ g
same_flags f g e = cc

no_flags : (f : Shaped) → ◌≡◌ {A = Option Shaped} None (Some f) → ⊥
no_flags f e = absurd cc

-- ---- the statement
out_row : (to : List Lval) (n : List ℕ) (args : List Expr) (at : Span) (p : Pattern) → IsSelected (stmt.Assign to None (rhs.Intrinsic n args at) None) (Some p) → Matches (named_shape (whichever A) (spelled n) to args)
unfolding IsSelected
out_row to n args at p h =
    subst (λ k. Matches (kind_layer (whichever A) k)) (out_assign to None (rhs.Intrinsic n args at) None)
    (told_any (shape_of (whichever A) (stmt.Assign to None (rhs.Intrinsic n args at) None)) p (h A))

module _ (frame : Frame) (home : Homes) (homing : IsHoming frame home) (to : List Lval) (n : List ℕ) (args : List Expr) (at : Span) (r : IsReadyInstruction home to n args at) where
  -- behind an instance, at its size
  of_formed : (i : Instance) (z : Size) → spelled n ≡ Some i → intrinsic_size i.name i.size to args ≡ Some z → HasFormed home z i.name to args → HasOperations home (instruction to n args at)
  of_formed i z spells size f = (_, _, by_flags (flag_rows.instructions spells size (form_back home z i.name to f.row.rest args f.taken f.acts f.items f.row.led f.row.row) f.can))

  -- what both kinds of limits ask
  fields : ((left_parts no_numbers to).fields ≡ []) × ((operand_parts no_numbers (roles_of (spelled n)) (size_by (spelled n) to args) args).fields ≡ [])
  fields =
      both_nothing (left_parts no_numbers to).fields (operand_parts no_numbers (roles_of (spelled n)) (size_by (spelled n) to args) args).fields
      (fields_none (beside (left_parts no_numbers to) (operand_parts no_numbers (roles_of (spelled n)) (size_by (spelled n) to args) args)) r.within)

  fields_by : (i : Instance) (m : Intrinsic) (z : Size) → spelled n ≡ Some i → i.name ≡ m → intrinsic_size m i.size to args ≡ Some z → (operand_parts no_numbers (roles_by m) (Some z) args).fields ≡ []
  fields_by i m z s e size =
      let roles : roles_of (spelled n) ≡ roles_by m = ap roles_of s ∙ ap roles_by e in
      let sizes : size_by (spelled n) to args ≡ Some z = ap (λ o. size_by o to args) s ∙ (ap (λ q. intrinsic_size q i.size to args) e ∙ size) in
      subst (λ q. (operand_parts no_numbers (roles_by m) q args).fields ≡ []) sizes (subst (λ q. (operand_parts no_numbers q (size_by (spelled n) to args) args).fields ≡ []) roles fields.1)

  -- at the size that the name says it is its own; else that of the result, or of the first operand
  count_size : (i : Instance) (m : Intrinsic) (z : Size) → i.name ≡ m → size_of_intrinsic (signature_of m i.size) to args ≡ Some z → InPairs (Output (Some z)) (results_of m) to → InPairs (Typed (Some z)) (operands_of m) args → Matches (intrinsic_shape (whichever A) m i to args)
      → (f : Shaped) (d : Lval) (a : Expr) (rest : List Expr) → counted_by m ≡ Some f → args ≡ a ∷ rest → value_behind f to ≡ Some d → option_or i.size (option_or (class_size (dest_of d)) (class_size (operand_of A d a).class)) ≡ Some z
  count_size i name.Shl z en e outs ins mt f d a rest c is behind = five_size home i z name.Shl (λ u v w h. h) en to args r.lefts r.operands outs ins e mt d a rest is (subst (λ q. value_behind q to ≡ Some d) (same_flags f shaped.Five c) behind)
  count_size i name.Shr z en e outs ins mt f d a rest c is behind = five_size home i z name.Shr (λ u v w h. h) en to args r.lefts r.operands outs ins e mt d a rest is (subst (λ q. value_behind q to ≡ Some d) (same_flags f shaped.Five c) behind)
  count_size i name.Sar z en e outs ins mt f d a rest c is behind = five_size home i z name.Sar (λ u v w h. h) en to args r.lefts r.operands outs ins e mt d a rest is (subst (λ q. value_behind q to ≡ Some d) (same_flags f shaped.Five c) behind)
  count_size i name.Rol z en e outs ins mt f d a rest c is behind = two_size home i z name.Rol (λ u v w h. h) en to args r.lefts r.operands outs ins e mt d a rest is (subst (λ q. value_behind q to ≡ Some d) (same_flags f shaped.Two c) behind)
  count_size i name.Ror z en e outs ins mt f d a rest c is behind = two_size home i z name.Ror (λ u v w h. h) en to args r.lefts r.operands outs ins e mt d a rest is (subst (λ q. value_behind q to ≡ Some d) (same_flags f shaped.Two c) behind)
  count_size i m z en e outs ins mt f d a rest c is behind = absurd (no_flags f c)

  by_size : (i : Instance) (m : Intrinsic) → spelled n ≡ Some i → i.name ≡ m → takes_size m ≡ true → (o : Option Size) → Instructs (Some (signature_of m i.size)) to args → size_of_intrinsic (signature_of m i.size) to args ≡ o → InPairs (Output o) (results_of m) to → InPairs (Typed o) (operands_of m) args → All IsNoArray args
      → Matches (intrinsic_shape (whichever A) m i to args) → HasOperations home (instruction to n args at)
  by_size i m s en t None g e outs ins plain mt = absurd (sized (whichever A) m i to args t (neither i.size (option_or (result_size (results_of m) to) (argument_size (operands_of m) args)) e) outs ins mt)
  by_size i m s en t (Some z) g e outs ins plain mt =
      let counted = All-weaker (IsExpanded home) Counted (λ a x. all_counted home a x) args r.operands in
      let size = intrinsic_law m i.size to args z t (lefts_counted home to r.lefts (all_places i m to args t en mt)) counted plain g e in
      let own = own_by i.size (option_or (result_size (results_of m) to) (argument_size (operands_of m) args)) z e in
      let f = named frame home homing i z to r.lefts (lefts_kept to fields.0) m args t en own (count_size i m z en e outs ins mt) outs ins r.operands (operands_kept z (roles_by m) args (fields_by i m z s en size)) mt in
      of_formed i z s (subst (λ q. intrinsic_size q i.size to args ≡ Some z) (sym en) size) (subst (λ q. HasFormed home z q to args) (sym en) f)

  -- LEA, at 64 bits
  by_address : (i : Instance) → spelled n ≡ Some i → i.name ≡ name.Lea → (o : Option Size) → size_of_intrinsic (signature_of name.Lea i.size) to args ≡ o → InPairs (Output o) (results_of name.Lea) to → InPairs (Operand o) (operands_of name.Lea) args → Matches (intrinsic_shape (whichever A) name.Lea i to args)
      → HasOperations home (instruction to n args at)
  by_address i s en o e outs ins mt =
      let found = lea_found i o to args outs ins mt in
      let kept = fields_by i name.Lea S64 s en refl in
      let f = formed.lea_formed home i to args r.lefts (lefts_kept to fields.0) (subst (λ q. InPairs (Output q) (results_of name.Lea) to) (sym e ∙ found) outs) r.operands
      (λ a is. (both_nothing (asked_as no_numbers role.Address (Some S64) a).fields [] (subst (λ q. (operand_parts no_numbers (roles_by name.Lea) (Some S64) q).fields ≡ []) is kept)).0) mt in
      of_formed i S64 s (ap (λ q. intrinsic_size q i.size to args) en) (subst (λ q. HasFormed home S64 q to args) (sym en) f)

  -- SETcc, of a byte
  by_byte : (i : Instance) → spelled n ≡ Some i → i.name ≡ name.Setcc → (o : Option Size) → InPairs (Output o) (results_of name.Setcc) to → InPairs (Operand o) (operands_of name.Setcc) args → Matches (intrinsic_shape (whichever A) name.Setcc i to args) → HasOperations home (instruction to n args at)
  by_byte i s en o outs ins mt =
      let kept = fields_by i name.Setcc S8 s en refl in
      set_matched home n i to args at s en r.lefts (lefts_kept to fields.0) (byte_out o to outs) (test_typed home i o to args outs ins r.operands mt) r.operands
      (λ a is. (both_nothing (asked_as no_numbers role.Test (Some S8) a).fields [] (subst (λ q. (operand_parts no_numbers (roles_by name.Setcc) (Some S8) q).fields ≡ []) is kept)).0) mt

  by_name : (m : Intrinsic) (i : Instance) (o : Option Size) → spelled n ≡ Some i → i.name ≡ m → Instructs (Some (signature_of m i.size)) to args → size_of_intrinsic (signature_of m i.size) to args ≡ o → InPairs (Output o) (results_of m) to → InPairs (Operand o) (operands_of m) args
      → Matches (intrinsic_shape (whichever A) m i to args) → HasOperations home (instruction to n args at)
  by_name name.Lea i o s en g e outs ins mt = by_address i s en o e outs ins mt
  by_name name.Setcc i o s en g e outs ins mt = by_byte i s en o outs ins mt
  by_name m i o s en g e outs ins mt =
      let plain = no_arrays home i m to args refl en r.operands mt in
      by_size i m s en refl o g e outs (operands_typed o ins plain) plain mt

  by_instance : (o : Option Instance) → spelled n ≡ o → Instructs (option_map instance_signature o) to args → Matches (named_shape (whichever A) o to args) → HasOperations home (instruction to n args at)
  by_instance None e t m = absurd (no_free m)
  by_instance (Some i) e (well.instance_of outs ins) m =
      by_name i.name i (size_of_intrinsic (instance_signature i) to args) e refl (well.instance_of outs ins) refl outs ins m

pub instructions : InstructionsHaveOperations
instructions frame home to n args at homing r row = by_instance frame home homing to n args at r (spelled n) refl r.typed (out_row to n args at row.0 row.1)
