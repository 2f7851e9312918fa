-- `cf, d = a + o`, `cf, d = a - o`, and with a flag behind, have operations: those of the sum.
use Rattle.std.proofs.Common.{◌≡◌, Bool, true, false, List, [], ◌∷◌, ◌++◌, Option, Some, None, refl, sym, ap, ◌∙◌, subst}
use Rattle.std.specs.Prelude.{All, ⊤}
use Rattle.std.specs.Option.{option_or}
use Rattle.std.proofs.lemmas.Bool.{false≢true}
use Rattle.jz_words.specs.declared.size.Size.{Size}
use Rattle.jz_io.specs.declared.span.Span.{Span}
use Rattle.jz_tree.specs.Operators.{divides}
use Rattle.jz_tree.specs.declared.expr.BinOp.{BinOp}
use Rattle.jz_tree.specs.declared.expr.BinOp.TheVariants as op
use Rattle.jz_tree.specs.declared.expr.Expr.{Expr}
use Rattle.jz_tree.specs.declared.expr.Expr.TheOpen.{Expr-F}
use Rattle.jz_tree.specs.declared.expr.Expr.TheViews.{out-Expr}
use Rattle.jz_tree.specs.declared.expr.Var.{Var}
use Rattle.jz_tree.specs.declared.stmt.Lval.{Lval}
use Rattle.jz_tree.specs.declared.stmt.Lval.TheVariants as lval
use Rattle.jz_type_names.specs.Kinds.{known_of}
use Rattle.jz_type_sizes.specs.Values.{is_product}
use Rattle.jz_select.specs.declared.class.Class.TheVariants as class
use Rattle.jz_select.specs.Places.{Layer}
use Rattle.jz_select.specs.Operands.{class_of, dest_of}
use Rattle.jz_select.specs.Rows.{adds}
use Rattle.jz_select.specs.Shapes.{whichever, value_layer, update_layer, assign_of}
use Rattle.jz_judgement.specs.HasType.{value, result}
use Rattle.jz_judgement.specs.Lefts as lefts
use Rattle.jz_judgement.specs.Lefts.{IsBool, Takes, value_term}
use Rattle.jz_row_laws.proofs.Copied.{Matches}
use Rattle.jz_meaning.specs.Values.{size_of, ref_of, own_size}
use Rattle.jz_meaning.specs.Assignments.{left_size, left_sizes, left_span, updated_layer, updated, whole_of}
use Rattle.jz_meaning.specs.Statements as source
use Rattle.jz_meaning.specs.Statements.{assign}
use Rattle.jz_limits.specs.Values.{no_numbers}
use Rattle.jz_limits.specs.declared.operands.Role.TheVariants as role
use Rattle.jz_limits.specs.Asked.{left_access, asked_if, left_parts, value_parts, assigned_parts, asked, to_register, is_free, value_role, value_as, told}
use Rattle.jz_operations.specs.declared.operation.Pinned.{Pinned}
use Rattle.jz_operations.specs.declared.operation.Action.{Action}
use Rattle.jz_operations.specs.declared.operation.Operation.{Operation}
use Rattle.jz_operations.specs.Rows.{Frame}
use Rattle.jz_operations.proofs.Somes.{same_some}
use Rattle.jz_change.specs.declared.change.Numbers.{Numbers}
use Rattle.jz_encodable.specs.Encodable.{CanEncode}
use Rattle.jz_homes.specs.Homes.{Homes, IsHoming}
use Rattle.jz_row_operations.specs.Lowering.{HasRow, Lowers, sets, sets_if}
use Rattle.jz_flag_rows.specs.Results as results
use Rattle.jz_flag_rows.specs.Rows.{IsSumLayer, carry_results}
use Rattle.jz_every_row.specs.Statements.{by_flags}
use Rattle.jz_total_rows.specs.Expanded as expanded
use Rattle.jz_total_rows.specs.Expanded.{HasHome, a_word, a_flag, a_scalar, an_array, IsExpanded, IsExpandedLeft}
use Rattle.jz_total_rows.specs.Covered.{divides_layer}
use Rattle.jz_total_rows.specs.Laws.{HasRowOperations}
use Rattle.jz_total_rows.proofs.Meets.{A}
use Rattle.jz_total_rows.proofs.Operands.{left_operand}
use Rattle.jz_total_rows.proofs.KeptLimits.{both_nothing}
use Rattle.jz_total_rows.proofs.Statements.{assigned_rm, typed_left}
use Rattle.jz_total_rows.proofs.Whole.{fields_none, first_none, FieldsKept, value_there, update_there, left_expr}
use Rattle.jz_total_flags.specs.Ready.{HasOperations}
use Rattle.jz_total_flags.proofs.Leads.{unled, value_no_product, update_no_product, value_sum, update_sum, updated_sum}

-- ---- the flag
pub record FlagLeft (home : Homes) (f : Lval) : Type 0 where
  pub kept : Option Pinned
  pub is : results.IsFlag home f kept
  pub own : left_size f ≡ None

variable_flag : (home : Homes) (v : Var) → HasHome home v → IsBool (known_of v) → FlagLeft home (lval.Var v)
variable_flag home v (a_word z n d k h) b = absurd (subst IsBool d b)
variable_flag home v (a_flag n d k h) b =
    let p : Pinned = record { variable = n; span = (ref_of v).span } in
    record { kept = Some p; is = results.a_variable v p k h refl; own = ap size_of k }
variable_flag home v (a_scalar z w d k h) b = absurd (subst IsBool d b)
variable_flag home v (an_array z n w d c) b = absurd (subst IsBool d b)

home_of : (home : Homes) (v : Var) → IsExpandedLeft home (lval.Var v) → HasHome home v
home_of home v (expanded.to_variable w x) = x

pub flag_left : (home : Homes) (f : Lval) → IsExpandedLeft home f → lefts.IsFlag f → FlagLeft home f
flag_left home f x (lefts.nothing {at}) = record { kept = None; is = results.no_variable at; own = refl }
flag_left home f x (lefts.variable {v} b) = variable_flag home v (home_of home v x) b

-- ---- limits
left_none : (d : Option Expr) → (asked_if no_numbers role.Operand None d).fields ≡ [] → left_operand d ≡ None
left_none None h = refl
left_none (Some x) h = first_none ((told no_numbers x).operands None) h

pub record PairKept (f d : Lval) (o : Option BinOp) (e : Expr) : Type 0 where
  pub last : left_operand (left_access d) ≡ None
  pub right : (value_parts no_numbers (Some d) (left_sizes (f ∷ d ∷ [])) o e).fields ≡ []

pub pair_kept : (f d : Lval) (o : Option BinOp) (e : Expr) (at : Span) → asked no_numbers (assign (f ∷ d ∷ []) o e None at) ≡ [] → PairKept f d o e
pair_kept f d o e at h =
    let to : List Lval = f ∷ d ∷ [] in
    let k = fields_none (assigned_parts no_numbers None to o e None) h in
    let a = both_nothing (left_parts no_numbers to).fields ((value_parts no_numbers (Some d) (left_sizes to) o e).fields ++ []) k in
    let b = both_nothing (value_parts no_numbers (Some d) (left_sizes to) o e).fields [] a.1 in
    let c = both_nothing (asked_if no_numbers role.Operand None (left_access f)).fields ((asked_if no_numbers role.Operand None (left_access d)).fields ++ []) a.0 in
    record { last = left_none (left_access d) (both_nothing (asked_if no_numbers role.Operand None (left_access d)).fields [] c.1).0; right = b.0 }

-- the flag has no size, so they are those of the sum alone
fields_alone : (f d : Lval) (o : Option BinOp) (e : Expr) → left_size f ≡ None → PairKept f d o e → FieldsKept d o e None
fields_alone f d o e n k =
    record {
      left_side = k.last;
      right = subst (λ s. (value_as no_numbers (is_free (to_register (Some d)) o e) (value_role o) (option_or (option_or s (left_sizes (d ∷ []))) (own_size e)) e).fields ≡ []) n k.right;
      condition = refl;
    }

-- ---- the row of the sum
record SumRow (home : Homes) (d : Lval) (u : Option BinOp) (e : Expr) : Type 0 where
  pub right : Expr
  pub size : Size
  pub acts : List Action
  pub items : List Numbers
  pub whole : whole_of (Some d) u e ≡ Some right
  pub sized : option_or (left_sizes (d ∷ [])) (own_size right) ≡ Some size
  pub row : HasRow home size d right acts items
  pub can : All CanEncode acts

abbrev RowIn : Homes → source.Operation → Type 0
RowIn home (assign (d ∷ []) u e None at) = SumRow home d u e
RowIn home _ = ⊤

row_in : {home : Homes} {o : source.Operation} {os : List Operation} {items : List Numbers} → Lowers home o os items → RowIn home o
row_in (sets {w} {z} {acts} {items} whole size row can) = record { right = w; size = z; acts = acts; items = items; whole = whole; sized = size; row = row; can = can }
row_in (sets_if z wide k h i n c can) = tt

module _ (home : Homes) (f d : Lval) (F : FlagLeft home f) where
  carried : (u : Option BinOp) (e : Expr) (at : Span) → HasRowOperations home (assign (d ∷ []) u e None at) → ((w : Expr) → whole_of (Some d) u e ≡ Some w → IsSumLayer (out-Expr w)) → HasOperations home (assign (f ∷ d ∷ []) u e None at)
  carried u e at h layer =
      let R : SumRow home d u e = row_in h.2 in
      let size : option_or (left_sizes (f ∷ d ∷ [])) (own_size R.right) ≡ Some R.size = ap (λ s. option_or (option_or s (left_sizes (d ∷ []))) (own_size R.right)) F.own ∙ R.sized in
      (_, _, by_flags (carry_results {at = at} R.whole (layer R.right R.whole) size F.is R.row R.can))

-- ---- a sum is no quotient
sum_no_quotient : (l : Layer) → IsSumLayer l → divides_layer l ≡ false
sum_no_quotient (Expr-F.Bin op.Add a b at) h = refl
sum_no_quotient (Expr-F.Bin op.Sub a b at) h = refl
sum_no_quotient (Expr-F.Bin o a b at) h = absurd h
sum_no_quotient (Expr-F.Num i at) h = absurd h
sum_no_quotient (Expr-F.Expr::Bool b at) h = absurd h
sum_no_quotient (Expr-F.Var v) h = absurd h
sum_no_quotient (Expr-F.Cell v i) h = absurd h
sum_no_quotient (Expr-F.Load a) h = absurd h
sum_no_quotient (Expr-F.Neg a at) h = absurd h
sum_no_quotient (Expr-F.Not a at) h = absurd h
sum_no_quotient (Expr-F.Cast z s a at) h = absurd h

adds_no_quotient : (o : BinOp) → adds o ≡ true → divides o ≡ false
adds_no_quotient op.Add h = refl
adds_no_quotient op.Sub h = refl
adds_no_quotient o h = absurd (false≢true h)

module _ (frame : Frame) (home : Homes) (homing : IsHoming frame home) (f d : Lval) (x : IsExpandedLeft home d) (F : FlagLeft home f) where
  flagged_value : (e : Expr) (at : Span) → IsExpanded home e → is_product None e ≡ false → Takes d (value e) → PairKept f d None e → Matches (assign_of (whichever A) (Some (dest_of f)) d None e) → HasOperations home (assign (f ∷ d ∷ []) None e None at)
  flagged_value e at y n takes kept m =
      let k = unled (dest_of f) (dest_of d) (class_of e) (value_layer (whichever A) d (out-Expr e)) (value_no_product d (out-Expr e) n) m in
      let layer = value_sum d (out-Expr e) k.1 in
      let r = assigned_rm d None e k.0 in
      let t = typed_left home d (value e) x r takes in
      carried home f d F None e at (value_there frame home homing d x e at t y r (sum_no_quotient (out-Expr e) layer) (fields_alone f d None e F.own kept) k.0)
      (λ w s. subst (λ w. IsSumLayer (out-Expr w)) (same_some e w s) layer)

  flagged_update : (o : BinOp) (e : Expr) (at : Span) → IsExpanded home e → is_product (Some o) e ≡ false → Takes d (result o d e) → PairKept f d (Some o) e → Matches (assign_of (whichever A) (Some (dest_of f)) d (Some o) e) → HasOperations home (assign (f ∷ d ∷ []) (Some o) e None at)
  flagged_update o e at y n takes kept m =
      let k = unled (dest_of f) (dest_of d) class.Other (update_layer (whichever A) d o e (out-Expr e)) (update_no_product d o e (out-Expr e) n) m in
      let sum = update_sum d o e (out-Expr e) k.1 in
      let r = assigned_rm d (Some o) e k.0 in
      let t = typed_left home d (result o d e) x r takes in
      let g = left_expr frame home homing d x r in
      carried home f d F (Some o) e at (update_there frame home homing d x o e at t y r (adds_no_quotient o sum) (fields_alone f d (Some o) e F.own kept) k.0)
      (λ w s.
      subst (λ w. IsSumLayer (out-Expr w))
      (same_some (updated_layer o g.0 e (left_span d) (out-Expr e)) w (sym (ap (λ q. updated q o e (left_span d)) g.1) ∙ s)) (updated_sum o g.0 e (left_span d) (out-Expr e) sum))

  pub flagged : (o : Option BinOp) (e : Expr) (at : Span) → IsExpanded home e → is_product o e ≡ false → Takes d (value_term o d e) → PairKept f d o e → Matches (assign_of (whichever A) (Some (dest_of f)) d o e) → HasOperations home (assign (f ∷ d ∷ []) o e None at)
  flagged None e at y n takes kept m = flagged_value e at y n takes kept m
  flagged (Some o) e at y n takes kept m = flagged_update o e at y n takes kept m
