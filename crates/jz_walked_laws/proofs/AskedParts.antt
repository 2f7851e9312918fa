-- Where nothing is asked of an operation that passes a limit, each inline part of it has a value.
use Rattle.std.proofs.Common.{◌≡◌, ℕ, ℤ, List, [], ◌∷◌, Option, Some, None, Bool, true, false, not, refl, ap, sym, ◌∙◌, subst, if◌then◌else◌}
use Rattle.std.specs.Prelude.{All, ◌&&◌, is_some}
use Rattle.std.specs.Option.{option_or}
use Rattle.std.specs.List.{list_all}
use Rattle.std.proofs.lemmas.Bool.{and_from, false≢true, not_from_false}
use Rattle.std.proofs.lemmas.List.Elements.{All-head, All-tail}
use Rattle.jz_tree.specs.Size.{Size}
use Rattle.jz_tree.specs.Span.{Span}
use Rattle.jz_tree.specs.Spellings.{spelled}
use Rattle.jz_tree.specs.declared.expr.BinOp.{BinOp}
use Rattle.jz_tree.specs.declared.expr.Expr.{Expr}
use Rattle.jz_tree.specs.declared.expr.Expr.TheVariants as expr
use Rattle.jz_tree.specs.declared.expr.Var.{Var}
use Rattle.jz_tree.specs.declared.expr.Access.{Access}
use Rattle.jz_tree.specs.declared.expr.Expr.TheOpen.{Expr-F}
use Rattle.jz_tree.specs.declared.expr.Expr.TheViews.{out-Expr, roll-Expr, roll-out-Expr}
use Rattle.jz_tree.specs.declared.stmt.Lval.{Lval}
use Rattle.jz_tree.specs.declared.stmt.Lval.TheVariants as lval
use Rattle.jz_type_names.specs.Kinds.{is_inline}
use Rattle.jz_type_names.specs.Parts.{span_of}
use Rattle.jz_integers.specs.Integers.{KnownNumbers, inline_value}
use Rattle.jz_integers.specs.declared.constant.Constant.{Constant}
use Rattle.jz_integers.specs.declared.constant.Constant.TheVariants as constant
use Rattle.jz_meaning.specs.Assignments.{left_sizes, last_left}
use Rattle.jz_meaning.specs.Statements.{assign, instruction}
use Rattle.jz_meaning.specs.Values.{own_size}
use Rattle.jz_limits.specs.declared.limit.Limit.{Limit}
use Rattle.jz_limits.specs.declared.limit.Limit.TheVariants.{InlineWidth}
use Rattle.jz_limits.specs.declared.operands.Role.{Role}
use Rattle.jz_limits.specs.declared.operands.Role.TheVariants as role
use Rattle.jz_limits.specs.declared.operands.Roles.{Roles}
use Rattle.jz_limits.specs.Values.{inline_target}
use Rattle.jz_limits.specs.Asked.{Told, told, told_as, place_or, unless, no_value, beside, in_kinds, asked_if, left_access, left_parts, operand_parts, all_in, to_register, is_free, value_role, value_as, value_parts, assigned_parts, asked, asked_condition, roles_of, size_by}
use Rattle.jz_unroll.specs.Values.{has_no_cell, InlineNames, is_inline_var, has_values, left_has_values, if_has_values, is_split, operation_has_values}
use Rattle.jz_unroll.specs.Unrolling.{HasValue}
use Rattle.jz_unroll.proofs.InlineParts.{inline_var, inline_is}
use Rattle.jz_unroll.proofs.Layers.{Layer}
use Rattle.jz_unroll.proofs.Valued.{known_is, parts_layer}
use Rattle.jz_unroll.specs.Values as unrolled
use Rattle.jz_inline_laws.specs.AskedLaws.{has_named, access_named}
use Rattle.jz_inline_laws.proofs.AskedValues.{named_is, paired, told_is, asked_values, no_cells}
use Rattle.jz_inline_laws.specs.InlineParts.{IsNamedIf, IsOtherLeft, IsInlineNumber, IsInlineTruth}
use Rattle.jz_walked_laws.proofs.Ones.{nothing_both}

-- ---- values

pub no_limit : (b : Bool) (l : Limit) → unless b l ≡ [] → b ≡ true
no_limit true l e = refl
no_limit false l e = absurd cc

pub some_of : (o : Option Constant) → is_some o ≡ true → (c : Constant) × (o ≡ Some c)
some_of None e = absurd (false≢true e)
some_of (Some c) e = (c, refl)

module _ (names : InlineNames) (e : KnownNumbers) where
  told_rolled : (y : Layer) → is_inline (roll-Expr y) ≡ true → (told e (roll-Expr y)).widths None ≡ [] → no_value None (span_of (roll-Expr y)) (inline_value e (roll-Expr y)) ≡ []
  told_rolled y i t =
      sym (ap (λ (k : Told). k.widths None) (told_is e y) ∙ ap (λ b. (told_as e b (inline_value e (roll-Expr y)) (span_of (roll-Expr y)) (paired e y)).widths None) i) ∙ t

  told_inline : (x : Expr) → is_inline x ≡ true → (told e x).widths None ≡ [] → no_value None (span_of x) (inline_value e x) ≡ []
  told_inline x =
      subst (λ z. is_inline z ≡ true → (told e z).widths None ≡ [] → no_value None (span_of z) (inline_value e z) ≡ []) (roll-out-Expr x) (told_rolled (out-Expr x))

  -- an inline expression of which nothing is told
  inline_known : (x : Expr) → is_inline x ≡ true → (told e x).widths None ≡ [] → (c : Constant) × (inline_value e x ≡ Some c)
  inline_known x i t = some_of (inline_value e x) (no_limit (is_some (inline_value e x)) (InlineWidth (place_or None (span_of x))) (told_inline x i t))

  pub number_known : (x : Expr) → IsInlineNumber names x → (told e x).widths None ≡ [] → (n : ℤ) × HasValue e x (constant.Int n)
  number_known x h t =
      let c = inline_known x h.inline t in
      let n = h.numeric e c.0 c.1 in
      (n.0, (no_cells names x h.inline h.named, c.1 ∙ ap Some n.1))

  pub truth_known : (x : Expr) → IsInlineTruth names x → (told e x).widths None ≡ [] → (b : Bool) × HasValue e x (constant.Bool b)
  truth_known x h t =
      let c = inline_known x h.inline t in
      let b = h.logical e c.0 c.1 in
      (b.0, (no_cells names x h.inline h.named, c.1 ∙ ap Some b.1))

  pub expr_known : (x : Expr) → has_named names x ≡ true → (told e x).widths None ≡ [] → has_values names e x ≡ true
  expr_known x h t = asked_values names e x h None t

  -- ---- conditions

  pub if_known : (r : Role) (z : Option Size) (c : Option Expr) → IsNamedIf names c → (asked_if e r z c).widths ≡ [] → if_has_values names e c ≡ true
  if_known r z None h t = refl
  if_known r z (Some c) h t = expr_known c h t

  -- ---- left sides

  cell_named : (v : Var) (i : Expr) → is_inline_var names v ≡ false → has_named names i ≡ true → has_named names (expr.Cell v i) ≡ true
  cell_named v i h k =
      ap (has_named names) (sym (expr.rolls-Cell v i)) ∙ named_is names (Expr-F.Cell v i) ∙ and_from (not (is_inline_var names v)) (has_named names i) (not_from_false (is_inline_var names v) h) k

  load_named : (a : Access) → access_named names a ≡ true → has_named names (expr.Load a) ≡ true
  load_named a h = ap (has_named names) (sym (expr.rolls-Load a)) ∙ named_is names (Expr-F.Load a) ∙ h

  cell_values : (v : Var) (i : Expr) → has_values names e (expr.Cell v i) ≡ left_has_values names e (lval.Cell v i)
  cell_values v i =
      ap (has_values names e) (sym (expr.rolls-Cell v i)) ∙ known_is names e (Expr-F.Cell v i)
      ∙ ap (λ b. if b then unrolled.is_known names e (roll-Expr (Expr-F.Cell v i)) else parts_layer names e (Expr-F.Cell v i)) (inline_is (Expr-F.Cell v i))

  load_values : (a : Access) → has_values names e (expr.Load a) ≡ left_has_values names e (lval.Store a)
  load_values a =
      ap (has_values names e) (sym (expr.rolls-Load a)) ∙ known_is names e (Expr-F.Load a)
      ∙ ap (λ b. if b then unrolled.is_known names e (roll-Expr (Expr-F.Load a)) else parts_layer names e (Expr-F.Load a)) (inline_is (Expr-F.Load a))

  pub left_known : (d : Lval) → IsOtherLeft names d → (asked_if e role.Operand None (left_access d)).widths ≡ [] → left_has_values names e d ≡ true
  left_known (lval.Skip at) h t = refl
  left_known (lval.Var v) h t =
      and_from (not (is_inline_var names v)) (not (is_inline (expr.Var v))) (not_from_false (is_inline_var names v) h.named) (not_from_false (is_inline (expr.Var v)) (inline_var v ∙ h.declared))
  left_known (lval.Cell v i) h t = sym (cell_values v i) ∙ expr_known (expr.Cell v i) (cell_named v i h.0 h.1) t
  left_known (lval.Store a) h t = sym (load_values a) ∙ expr_known (expr.Load a) (load_named a h) t

  pub lefts_known : (to : List Lval) → All (IsOtherLeft names) to → (left_parts e to).widths ≡ [] → list_all (left_has_values names e) to ≡ true
  lefts_known [] h t = refl
  lefts_known (d ∷ ds) h t =
      let p = nothing_both (asked_if e role.Operand None (left_access d)).widths (left_parts e ds).widths t in
      and_from (left_has_values names e d) (list_all (left_has_values names e) ds) (left_known d (All-head (IsOtherLeft names) d ds h) p.0) (lefts_known ds (All-tail (IsOtherLeft names) d ds h) p.1)

  -- no inline variable is set
  pub no_target : (to : List Lval) → All (IsOtherLeft names) to → inline_target to ≡ None
  no_target [] h = refl
  no_target (lval.Skip at ∷ []) h = refl
  no_target (lval.Var v ∷ []) h = ap (λ b. if b then Some v else None) (All-head (IsOtherLeft names) (lval.Var v) [] h).kind
  no_target (lval.Cell v i ∷ []) h = refl
  no_target (lval.Store a ∷ []) h = refl
  no_target (d ∷ f ∷ ds) h = refl

  -- ---- operations

  value_widths : (b : Bool) (r : Role) (z : Option Size) (x : Expr) → (value_as e b r z x).widths ≡ (told e x).widths None
  value_widths true r z x = refl
  value_widths false r z x = refl

  -- of one that sets no inline variable
  pub record AssignAsked (to : List Lval) (o : Option BinOp) (x : Expr) (c : Option Expr) : Type 0 where
    pub lefts : (left_parts e to).widths ≡ []
    pub value : (told e x).widths None ≡ []
    pub condition : (asked_if e role.Test None c).widths ≡ []

  pub assign_asked : (to : List Lval) (o : Option BinOp) (x : Expr) (c : Option Expr) (at : Span) → inline_target to ≡ None → asked e (assign to o x c at) ≡ [] → AssignAsked to o x c
  assign_asked to o x c at none t =
      let k : in_kinds (assigned_parts e None to o x c) ≡ [] = subst (λ v. in_kinds (assigned_parts e v to o x c) ≡ []) none t in
      let w = (nothing_both (assigned_parts e None to o x c).widths _ k).0 in
      let p = nothing_both (left_parts e to).widths _ w in
      let q = nothing_both (value_parts e (last_left to) (left_sizes to) o x).widths (asked_if e role.Test None c).widths p.1 in
      record {
        lefts = p.0;
        value = sym (value_widths (is_free (to_register (last_left to)) o x) (value_role o) (option_or (left_sizes to) (own_size x)) x) ∙ q.0;
        condition = q.1;
      }

  pub assign_known : (to : List Lval) (o : Option BinOp) (x : Expr) (c : Option Expr) (at : Span) (s : Option Expr) → All (IsOtherLeft names) to → has_named names x ≡ true → IsNamedIf names c → is_split to s ≡ true
      → asked e (assign to o x c at) ≡ [] → (list_all (left_has_values names e) to && (has_values names e x && (if_has_values names e c && is_split to s))) ≡ true
  assign_known to o x c at s l n m i t =
      let a = assign_asked to o x c at (no_target to l) t in
      and_from (list_all (left_has_values names e) to) _ (lefts_known to l a.lefts)
      (and_from (has_values names e x) _ (expr_known x n a.value) (and_from (if_has_values names e c) (is_split to s) (if_known role.Test None c m a.condition) i))

  operands_known : (r : Roles) (z : Option Size) (xs : List Expr) → All (λ x. has_named names x ≡ true) xs → (operand_parts e r z xs).widths ≡ [] → list_all (has_values names e) xs ≡ true
  operands_known r z [] h t = refl
  operands_known r z (x ∷ xs) h t =
      let p = nothing_both ((told e x).widths None) (operand_parts e (all_in r.later) z xs).widths t in
      and_from (has_values names e x) (list_all (has_values names e) xs) (expr_known x (All-head (λ x. has_named names x ≡ true) x xs h) p.0) (operands_known (all_in r.later) z xs (All-tail (λ x. has_named names x ≡ true) x xs h) p.1)

  pub instruction_known : (to : List Lval) (n : List ℕ) (args : List Expr) (at : Span) → All (IsOtherLeft names) to → All (λ x. has_named names x ≡ true) args → asked e (instruction to n args at) ≡ []
      → operation_has_values names e (instruction to n args at) ≡ true
  instruction_known to n args at l h t =
      let r = roles_of (spelled n) in
      let z = size_by (spelled n) to args in
      let w = (nothing_both (beside (left_parts e to) (operand_parts e r z args)).widths _ t).0 in
      let p = nothing_both (left_parts e to).widths (operand_parts e r z args).widths w in
      and_from (list_all (left_has_values names e) to) (list_all (has_values names e) args) (lefts_known to l p.0) (operands_known r z args h p.1)

  -- a condition that is not inline
  pub condition_known : (c : Expr) → has_named names c ≡ true → asked_condition e c ≡ [] → has_values names e c ≡ true
  condition_known c h t = expr_known c h (nothing_both ((told e c).widths None) _ t).0
