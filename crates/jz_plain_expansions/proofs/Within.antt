-- A statement that passes no limit has no cell out of range in its parts.
use Rattle.std.proofs.Common.{◌≡◌, ℕ, List, [], ◌∷◌, ◌++◌, Option, Some, None, Bool, true, false, refl, sym, ◌∙◌}
use Rattle.std.specs.Prelude.{All}
use Rattle.std.proofs.lemmas.List.Elements.{All-nil, All-cons}
use Rattle.x64_insn.specs.Size.{Size}
use Rattle.jz_tree.specs.Span.{Span}
use Rattle.jz_tree.specs.Spellings.{spelled}
use Rattle.jz_tree.specs.declared.expr.BinOp.{BinOp}
use Rattle.jz_tree.specs.declared.expr.Expr.{Expr}
use Rattle.jz_tree.specs.declared.expr.Var.{Var}
use Rattle.jz_tree.specs.declared.stmt.Lval.{Lval}
use Rattle.jz_tree.specs.declared.stmt.Lval.TheVariants as lval
use Rattle.jz_meaning.specs.Assignments.{left_sizes, last_left}
use Rattle.jz_meaning.specs.Statements.{assign, instruction}
use Rattle.jz_limits.specs.Values.{no_numbers, inline_target}
use Rattle.jz_limits.specs.declared.operands.Role.{Role}
use Rattle.jz_limits.specs.declared.operands.Role.TheVariants as role
use Rattle.jz_limits.specs.declared.operands.Roles.{Roles}
use Rattle.jz_limits.specs.Asked.{Parts, in_kinds, left_access, all_in, roles_of, size_by, is_free, to_register, value_role, asked_if, left_parts, operand_parts, value_as, value_parts, set_parts, assigned_parts, asked_as, asked, asked_condition}
use Rattle.jz_plain_expansions.proofs.Ranges.{ranges, left_ranges, cell_ranges, load_ranges}
use Rattle.jz_plain_expansions.proofs.Final.{first_none, later_none}

abbrev pub IfNone : Option Expr → Type 0
IfNone None = Unit {0}
IfNone (Some e) = ranges e ≡ []

abbrev pub LeftNone : Lval → Type 0
LeftNone d = left_ranges d ≡ []

abbrev pub ExprNone : Expr → Type 0
ExprNone e = ranges e ≡ []

none_of : (p : Parts) → in_kinds p ≡ [] → p.ranges ≡ []
none_of p h = first_none p.ranges p.fields (later_none p.widths (p.ranges ++ p.fields) h)

-- ---- parts
if_none : (r : Role) (c : Option Expr) → (asked_if no_numbers r None c).ranges ≡ [] → IfNone c
if_none r None h = tt
if_none r (Some e) h = h

left_is : (d : Lval) → (asked_if no_numbers role.Operand None (left_access d)).ranges ≡ left_ranges d
left_is (lval.Skip at) = refl
left_is (lval.Var v) = refl
left_is (lval.Cell v i) = cell_ranges v i
left_is (lval.Store a) = load_ranges a

lefts_none : (ds : List Lval) → (left_parts no_numbers ds).ranges ≡ [] → All LeftNone ds
lefts_none [] h = All-nil LeftNone
lefts_none (d ∷ ds) h =
    let a = (asked_if no_numbers role.Operand None (left_access d)).ranges in
    let b = (left_parts no_numbers ds).ranges in
    All-cons LeftNone d ds (sym (left_is d) ∙ first_none a b h) (lefts_none ds (later_none a b h))

value_is : (free : Bool) (r : Role) (z : Option Size) (x : Expr) → (value_as no_numbers free r z x).ranges ≡ ranges x
value_is true r z x = refl
value_is false r z x = refl

set_is : (v : Var) (o : Option BinOp) (x : Expr) → (set_parts no_numbers v o x).ranges ≡ ranges x
set_is v None x = refl
set_is v (Some o) x = refl

operands_none : (r : Roles) (z : Option Size) (es : List Expr) → (operand_parts no_numbers r z es).ranges ≡ [] → All ExprNone es
operands_none r z [] h = All-nil ExprNone
operands_none r z (x ∷ xs) h =
    let b = (operand_parts no_numbers (all_in r.later) z xs).ranges in
    All-cons ExprNone x xs (first_none (ranges x) b h) (operands_none (all_in r.later) z xs (later_none (ranges x) b h))

-- what sets one inline variable has no cell on its left
target_none : (to : List Lval) (v : Var) → inline_target to ≡ Some v → All LeftNone to
target_none [] v e = absurd cc
target_none (lval.Skip at ∷ []) v e = absurd cc
target_none (lval.Var w ∷ []) v e = All-cons LeftNone (lval.Var w) [] refl (All-nil LeftNone)
target_none (lval.Cell w i ∷ []) v e = absurd cc
target_none (lval.Store a ∷ []) v e = absurd cc
target_none (d ∷ b ∷ ds) v e = absurd cc

-- ---- statements
pub record AssignNone (to : List Lval) (e : Expr) (c : Option Expr) : Type 0 where
  pub lefts : All LeftNone to
  pub value : ExprNone e
  pub condition : IfNone c

assign_by : (to : List Lval) (o : Option BinOp) (x : Expr) (c : Option Expr) (t : Option Var) → inline_target to ≡ t → (assigned_parts no_numbers t to o x c).ranges ≡ [] → AssignNone to x c
assign_by to o x c (Some v) e h =
    let a = (set_parts no_numbers v o x).ranges in
    let b = (asked_if no_numbers role.Test None c).ranges in
    record { lefts = target_none to v e; value = sym (set_is v o x) ∙ first_none a b h; condition = if_none role.Test c (later_none a b h) }
assign_by to o x c None e h =
    let a = (left_parts no_numbers to).ranges in
    let m = (value_parts no_numbers (last_left to) (left_sizes to) o x).ranges in
    let b = (asked_if no_numbers role.Test None c).ranges in
    let r = later_none a (m ++ b) h in
    record {
      lefts = lefts_none to (first_none a (m ++ b) h);
      value = sym (value_is (is_free (to_register (last_left to)) o x) (value_role o) _ x) ∙ first_none m b r;
      condition = if_none role.Test c (later_none m b r);
    }

pub assign_none : (to : List Lval) (o : Option BinOp) (x : Expr) (c : Option Expr) (at : Span) → asked no_numbers (assign to o x c at) ≡ [] → AssignNone to x c
assign_none to o x c at h = assign_by to o x c (inline_target to) refl (none_of (assigned_parts no_numbers (inline_target to) to o x c) h)

pub instruction_none : (to : List Lval) (n : List ℕ) (es : List Expr) (at : Span) → asked no_numbers (instruction to n es at) ≡ [] → All LeftNone to × All ExprNone es
instruction_none to n es at h =
    let a = left_parts no_numbers to in
    let b = operand_parts no_numbers (roles_of (spelled n)) (size_by (spelled n) to es) es in
    let r = first_none (a.ranges ++ b.ranges) (a.fields ++ b.fields) (later_none (a.widths ++ b.widths) ((a.ranges ++ b.ranges) ++ (a.fields ++ b.fields)) h) in
    (lefts_none to (first_none a.ranges b.ranges r), operands_none (roles_of (spelled n)) (size_by (spelled n) to es) es (later_none a.ranges b.ranges r))

pub condition_none : (c : Expr) → asked_condition no_numbers c ≡ [] → ExprNone c
condition_none c h = none_of (asked_as no_numbers role.Test None c) h
