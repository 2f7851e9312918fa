-- SETcc has operations.
use Rattle.std.proofs.Common.{◌≡◌, ℕ, true, List, [], ◌∷◌, None, Some, refl, inl, inr}
use Rattle.std.specs.Prelude.{◌⊎◌, All, ◌&&◌}
use Rattle.std.proofs.lemmas.Bool.{and_parts}
use Rattle.std.proofs.lemmas.List.Elements.{All-head}
use Rattle.jz_words.specs.declared.size.Size.TheVariants.{S8}
use Rattle.x64_insn.specs.declared.types.One.TheVariants as one
use Rattle.x64_insn.specs.Chosen.{is_spelled}
use Rattle.jz_io.specs.declared.span.Span.{Span}
use Rattle.jz_tree.specs.Spellings.{spelled}
use Rattle.jz_tree.specs.declared.intrinsic.Intrinsic.TheVariants as name
use Rattle.jz_tree.specs.declared.intrinsic.Instance.{Instance}
use Rattle.jz_tree.specs.declared.expr.Expr.{Expr}
use Rattle.jz_tree.specs.declared.stmt.Lval.{Lval}
use Rattle.jz_select.specs.Operands.{dest_of}
use Rattle.jz_select.specs.declared.shaping.Flags.TheVariants as flags
use Rattle.jz_select.specs.Rows.{is_rm, sets as sets_byte}
use Rattle.jz_select.specs.Shapes.{has_flags, value_behind, set_shape}
use Rattle.jz_row_laws.proofs.Copied.{Matches}
use Rattle.jz_stuck_runs.proofs.RowSizes.{named_fits, Typed}
use Rattle.jz_type_sizes.specs.declared.signatures.Role.TheVariants as signed
use Rattle.jz_judgement.specs.WellTyped as well
use Rattle.jz_judgement.specs.WellTyped.{InPairs, Output}
use Rattle.jz_judgement.specs.Places as place
use Rattle.jz_judgement.specs.HasType.{value, HasType}
use Rattle.jz_judgement.specs.Lefts.{Holds}
use Rattle.jz_meaning.specs.Assignments.{left_span}
use Rattle.jz_meaning.specs.Statements.{instruction}
use Rattle.jz_limits.specs.declared.operands.Role.TheVariants as role
use Rattle.jz_limits.specs.Values.{no_numbers}
use Rattle.jz_limits.specs.Asked.{left_access, asked_as}
use Rattle.jz_operations.specs.declared.operation.Arg.{Arg}
use Rattle.jz_operations.specs.declared.operation.Condition.{Condition}
use Rattle.jz_operations.specs.declared.operation.Condition.TheVariants as condition
use Rattle.jz_operations.specs.declared.operation.Action.TheVariants as action
use Rattle.jz_encodable.specs.Encodable.{is_spelled_at, CanEncode}
use Rattle.jz_homes.specs.Homes.{Homes}
use Rattle.jz_homes.specs.Operands.{Leaks, IsDest}
use Rattle.jz_flag_rows.specs.Conditions as conditions
use Rattle.jz_flag_rows.specs.Rows.{sets}
use Rattle.jz_every_row.specs.Statements.{by_flags}
use Rattle.jz_total_rows.specs.Expanded.{IsExpanded, IsExpandedLeft}
use Rattle.jz_total_rows.specs.Covered.{IsComparison}
use Rattle.jz_total_rows.proofs.Fits.{fit_at, is_place, one_spelled}
use Rattle.jz_total_rows.proofs.Stands.{stands_place}
use Rattle.jz_total_rows.proofs.Bringing.{encode}
use Rattle.jz_total_rows.proofs.Operands.{left_there, left_operand}
use Rattle.jz_total_rows.proofs.Comparing.{compared_there}
use Rattle.jz_total_rows.proofs.Whole.{fields_condition}
use Rattle.jz_total_flags.specs.Ready.{HasOperations}
use Rattle.jz_total_flags.proofs.Tests.{IsFlagOf, flag_or_comparison}

set_spelled : (d : ℕ) (c : Condition) (y : Arg) → is_place y ≡ true → fit_at d S8 y ≡ true → is_spelled_at d (action.Set c y) ≡ true
unfolding is_spelled
set_spelled d c y p f = one_spelled d one.Not S8 y p f

pub set_there : (home : Homes) (n : List ℕ) (i : Instance) (d : Lval) (c : Expr) (at : Span) → spelled n ≡ Some i → i.name ≡ name.Setcc → IsExpandedLeft home d → Holds (place.word S8) d → left_operand (left_access d) ≡ None → is_rm (dest_of d) ≡ true → IsExpanded home c
    → HasType (value c) place.truth → has_flags c ≡ true → (asked_as no_numbers role.Test None c).fields ≡ [] → HasOperations home (instruction (d ∷ []) n (c ∷ []) at)
set_there home n i d c at spells byte x t l rm y u h fields =
    let D = left_there home S8 d x t rm in
    let can : (k : Condition) → CanEncode (action.Set k D.arg') = λ k. encode (action.Set k D.arg') (λ a b. set_spelled a k D.arg' (stands_place D.stands rm) (D.fits l a b)) in
    by_kind D.arg' D.leaks D.is can (flag_or_comparison home c y h)
  where
    by_kind : (b : Arg) (r : Leaks) → IsDest home S8 d b r → ((k : Condition) → CanEncode (action.Set k b)) → IsComparison c ⊎ IsFlagOf home c → HasOperations home (instruction (d ∷ []) n (c ∷ []) at)
    by_kind b r dest can (inl k) =
        let K = compared_there home (left_span d) c y u h k (fields_condition home c y h fields) in
        (_, _, by_flags (sets spells byte dest (conditions.by_comparison K.is) (can (condition.Cc K.cond))))
    by_kind b r dest can (inr f) = (_, _, by_flags (sets spells byte dest (conditions.by_flag f.2) (can (condition.Flag f.0 f.1))))

-- ---- of one left side and one condition
abbrev pub ConditionKept : List Expr → Type 0
ConditionKept es = (c : Expr) → es ≡ c ∷ [] → (asked_as no_numbers role.Test None c).fields ≡ []

pub set_matched : (home : Homes) (n : List ℕ) (i : Instance) (to : List Lval) (es : List Expr) (at : Span) → spelled n ≡ Some i → i.name ≡ name.Setcc → All (IsExpandedLeft home) to → All (λ d. left_operand (left_access d) ≡ None) to → InPairs (Output (Some S8)) (signed.Byte ∷ []) to
    → InPairs (Typed (Some S8)) (signed.Condition ∷ []) es → All (IsExpanded home) es → ConditionKept es → Matches (set_shape i (value_behind flags.Zero to) es) → HasOperations home (instruction to n es at)
set_matched home n i to es at spells byte all left (well.next {b = d} v well.none) (well.next {b = c} t well.none) y f m =
    let w = and_parts (sets_byte i.size (dest_of d)) (has_flags c) (named_fits name.Setcc (sets_byte i.size (dest_of d) && has_flags c) m) in
    let r = and_parts (is_rm (dest_of d)) _ (and_parts _ _ w.0).1 in
    set_there home n i d c at spells byte (All-head (IsExpandedLeft home) d [] all) v (All-head (λ d. left_operand (left_access d) ≡ None) d [] left) r.0 (All-head (IsExpanded home) c [] y) t w.1 (f c refl)
