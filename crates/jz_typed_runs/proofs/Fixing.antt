-- Each expression of a typed program leaks as many numbers as its text says.
use Rattle.std.proofs.Common.{◌≡◌, ℕ, Bool, true, false, not, List, [], ◌∷◌, ◌++◌, Option, Some, None, flat_map, refl, sym, ◌∙◌, inl, inr}
use Rattle.std.specs.Prelude.{◌⊎◌, All, option_to_list}
use Rattle.std.proofs.lemmas.Bool.{and_parts, false≢true}
use Rattle.std.proofs.lemmas.List.Elements.{All-nil, All-cons, All-append}
use Rattle.jz_tree.specs.Size.{Size}
use Rattle.jz_tree.specs.declared.expr.Storage.{Storage}
use Rattle.jz_tree.specs.declared.expr.Storage.TheVariants as storage
use Rattle.jz_tree.specs.declared.expr.BinOp.{BinOp}
use Rattle.jz_tree.specs.declared.expr.Expr.{Expr}
use Rattle.jz_tree.specs.declared.expr.Decl.{Decl}
use Rattle.jz_tree.specs.declared.expr.Var.{Var}
use Rattle.jz_tree.specs.declared.stmt.Lval.{Lval}
use Rattle.jz_tree.specs.declared.stmt.Lval.TheVariants as lval
use Rattle.jz_tree.specs.declared.stmt.Rhs.TheVariants as rhs
use Rattle.jz_tree.specs.declared.stmt.Stmt.{Stmt}
use Rattle.jz_tree.specs.declared.stmt.StmtKind.TheOpen.{StmtKind-F}
use Rattle.jz_type_names.specs.declared.kinds.Kind as known
use Rattle.jz_type_names.specs.declared.kinds.Kind.TheVariants as scope
use Rattle.jz_type_names.specs.Kinds.{Known, known_of, inline_int, is_inline_int, is_array, is_array_kind}
use Rattle.jz_type_names.specs.Parts.{Layer, layer_of, exprs_of, left_exprs}
use Rattle.jz_type_sizes.specs.Mismatches.{Named}
use Rattle.jz_types.specs.Matching.{may_be_inline, sets_inline, needs_row}
use Rattle.jz_judgement.specs.Places.{integer, truth, WordKind, IsWordOf}
use Rattle.jz_judgement.specs.HasType as judged
use Rattle.jz_judgement.specs.HasType.{Term, value, result, left, HasType, Operates}
use Rattle.jz_judgement.specs.Lefts as lefts
use Rattle.jz_judgement.specs.Lefts.{IsBool, BoolKind, IsNumber, NumberKind, Wants, Leaves, Takes, value_term, Values}
use Rattle.jz_judgement.specs.WellTyped.{WellTyped}
use Rattle.jz_judgement.specs.WellTyped as well
use Rattle.jz_types.specs.Carried.{vars_in, used_by}
use Rattle.jz_types.specs.Guarantees.{HasRow}
use Rattle.jz_row_laws.specs.Numbers.{IsFixed, IsInlineTest, FixedLayers}
use Rattle.jz_row_laws.proofs.Selected.{selected_fixed}
use Rattle.jz_row_laws.proofs.Looks.{IsLooked, looked_parts, condition_looked}
use Rattle.jz_run_laws.specs.Kinds.{sorts_of}
use Rattle.jz_run_laws.specs.DeclaredKinds.{kinds_of}
use Rattle.jz_meaning.specs.Shapes.{Sorts}
use Rattle.jz_texts.proofs.Lists.{parted}
use Rattle.jz_typed_runs.proofs.Declaring.{IsKept, flat_parted}
use Rattle.jz_typed_runs.proofs.Inline.{whole, silent, IsInline, inline_parts}

-- ---- a left side that is an inline integer
no_bool : (s : Storage) (k : known.Kind) → inline_int s k ≡ true → BoolKind k → ⊥
no_bool s scope.Int e b = b
no_bool s (scope.Word z) e b = b
no_bool s (scope.Array z) e b = b
no_bool storage.Inline scope.Truth e b = false≢true e
no_bool storage.Reg scope.Truth e b = false≢true e
no_bool storage.Stack scope.Truth e b = false≢true e

no_word : (s : Storage) (k : known.Kind) (z : Size) → inline_int s k ≡ true → WordKind z k → ⊥
no_word s scope.Int z e w = w
no_word s scope.Truth z e w = w
no_word s (scope.Array y) z e w = w
no_word storage.Inline (scope.Word y) z e w = false≢true e
no_word storage.Reg (scope.Word y) z e w = false≢true e
no_word storage.Stack (scope.Word y) z e w = false≢true e

no_cells : (s : Storage) (k : known.Kind) → inline_int s k ≡ true → is_array_kind k ≡ true → ⊥
no_cells s scope.Int e a = false≢true a
no_cells s scope.Truth e a = false≢true a
no_cells s (scope.Word z) e a = false≢true a
no_cells storage.Inline (scope.Array y) e a = false≢true e
no_cells storage.Reg (scope.Array y) e a = false≢true e
no_cells storage.Stack (scope.Array y) e a = false≢true e

bool_not : (k : Known) → is_inline_int k ≡ true → IsBool k → ⊥
bool_not None e b = b
bool_not (Some d) e b = no_bool d.storage d.kind e b

word_not : (k : Known) (z : Size) → is_inline_int k ≡ true → IsWordOf z k → ⊥
word_not None z e w = w
word_not (Some d) z e w = no_word d.storage d.kind z e w

array_not : (k : Known) → is_inline_int k ≡ true → is_array k ≡ true → ⊥
array_not None e a = false≢true a
array_not (Some d) e a = no_cells d.storage d.kind e a

-- its value is an integer
wanted_integer : (v : Var) (x : Term) → is_inline_int (known_of v) ≡ true → Takes (lval.Var v) x → HasType x integer
wanted_integer v x i (lefts.wanted p (lefts.number n) h) = h
wanted_integer v x i (lefts.wanted p (lefts.bool b) h) = absurd (bool_not (known_of v) i b)
wanted_integer v x i (lefts.wanted p (lefts.variable {z = z} w) h) = absurd (word_not (known_of v) z i w)
wanted_integer v x i (lefts.left p (lefts.array a) o h) = absurd (array_not (known_of v) i a)
wanted_integer v x i (lefts.left p (lefts.number n e k) o h) = absurd (false≢true (sym e ∙ i))

operand_integer : (o : BinOp) (a : Term) (e : Expr) → Operates o a (value e) integer → HasType (value e) integer
operand_integer o a e (judged.arithmetic g t k x y) = y
operand_integer o a e (judged.carry s t x y) = absurd t
operand_integer o a e (judged.shift g t k x y) = y

updated_integer : (o : BinOp) (d : Lval) (e : Expr) → HasType (result o d e) integer → HasType (value e) integer
updated_integer o d e (judged.updated t) = operand_integer o (left d) e t

value_integer : (v : Var) (o : Option BinOp) (e : Expr) → is_inline_int (known_of v) ≡ true → Values (lval.Var v ∷ []) o e → HasType (value e) integer
value_integer v None e i (lefts.one t) = wanted_integer v (value e) i t
value_integer v (Some o) e i (lefts.one t) = updated_integer o (lval.Var v) e (wanted_integer v (result o (lval.Var v) e) i t)

-- ---- statements
module _ (declared : List ℕ → Option Decl) (named : Named) where
  abbrev sorts : Sorts
  sorts = sorts_of (kinds_of declared)

  abbrev Fx : Expr → Type 0
  Fx e = IsFixed sorts e

  abbrev Kept : Var → Type 0
  Kept v = IsKept declared v

  integer_fixed : (e : Expr) → HasType (value e) integer → All Kept (vars_in e) → Fx e
  integer_fixed e t h = (whole declared t h).2

  one : (e : Expr) → Fx e → All Fx (e ∷ [])
  one e h = All-cons Fx e [] h (All-nil Fx)

  -- a condition that is inline
  condition_fixed : (c : Option Expr) → well.Condition c → may_be_inline c ≡ true → All Kept (flat_map vars_in (option_to_list c)) → All Fx (option_to_list c)
  condition_fixed None t i h = All-nil Fx
  condition_fixed (Some c) t i h = one c (silent declared IsInline inline_parts t i (parted Kept (vars_in c) [] h).0).1

  -- what sets one inline variable alone
  inline_fixed : (to : List Lval) (o : Option BinOp) (e : Expr) (c : Option Expr) → sets_inline to c ≡ true → WellTyped named (StmtKind-F.Assign to o (rhs.Value e) c)
      → All Kept (used_by (StmtKind-F.Assign to o (rhs.Value e) c)) → All Fx (exprs_of (StmtKind-F.Assign to o (rhs.Value e) c))
  inline_fixed [] o e c i w h = absurd (false≢true i)
  inline_fixed (lval.Skip at ∷ []) o e c i w h = absurd (false≢true i)
  inline_fixed (lval.Cell v x ∷ []) o e c i w h = absurd (false≢true i)
  inline_fixed (lval.Store a ∷ []) o e c i w h = absurd (false≢true i)
  inline_fixed (d ∷ f ∷ ds) o e c i w h = absurd (false≢true i)
  inline_fixed (lval.Var v ∷ []) o e c i (well.assigned r t) h =
      let p = and_parts (is_inline_int (known_of v)) (may_be_inline c) i in
      let a = (parted Kept (flat_map vars_in ((e ∷ []) ++ option_to_list c)) (v ∷ []) h).0 in
      let b = flat_parted Kept (e ∷ []) (option_to_list c) a in
      All-append Fx (e ∷ []) (option_to_list c) (one e (integer_fixed e (value_integer v o e p.0 r) (parted Kept (vars_in e) [] b.0).0)) (condition_fixed c t p.1 b.1)

  -- by a row
  tested : (c : Expr) → HasType (value c) truth → All Kept (vars_in c) → IsFixed sorts c ⊎ IsInlineTest c → Fx c
  tested c t h (inl f) = f
  tested c t h (inr i) = (silent declared IsLooked looked_parts t (condition_looked c i) h).1

  one_test : (c : Expr) → HasType (value c) truth → All Kept (flat_map vars_in (c ∷ []) ++ []) → IsFixed sorts c ⊎ IsInlineTest c → All Fx (c ∷ [])
  one_test c t h f = one c (tested c t (parted Kept (vars_in c) [] (parted Kept (flat_map vars_in (c ∷ [])) [] h).0).0 f)

  -- a call without an operation and a condition, of which this is known
  abbrev pub IfCall : Layer → Type 0
  IfCall (StmtKind-F.Assign to None (rhs.Call n args at) None) = All Fx (flat_map left_exprs to) × All Fx args
  IfCall _ = Unit {0}

  pub row_of : (s : Stmt) → needs_row (layer_of s) ≡ true → HasRow s → FixedLayers sorts (layer_of s)
  row_of s n r = let p = r n in selected_fixed sorts s.kind p.0 p.1

  by_need : (to : List Lval) (o : Option BinOp) (e : Expr) (c : Option Expr) (b : Bool) → sets_inline to c ≡ b → (not b ≡ true → All Fx (exprs_of (StmtKind-F.Assign to o (rhs.Value e) c)))
      → WellTyped named (StmtKind-F.Assign to o (rhs.Value e) c) → All Kept (used_by (StmtKind-F.Assign to o (rhs.Value e) c)) → All Fx (exprs_of (StmtKind-F.Assign to o (rhs.Value e) c))
  by_need to o e c true i f w h = inline_fixed to o e c i w h
  by_need to o e c false i f w h = f refl

  pub layer_fixed : (k : Layer) → (needs_row k ≡ true → FixedLayers sorts k) → WellTyped named k → All Kept (used_by k) → IfCall k → All Fx (exprs_of k)
  layer_fixed (StmtKind-F.Assign to o (rhs.Value e) c) r w h i = by_need to o e c (sets_inline to c) refl (λ n. r n) w h
  layer_fixed (StmtKind-F.Assign to o (rhs.Intrinsic n args at) c) r w h i = r refl
  layer_fixed (StmtKind-F.Assign to (Some o) (rhs.Call n args at) c) r w h i = r refl
  layer_fixed (StmtKind-F.Assign to None (rhs.Call n args at) (Some c)) r w h i = r refl
  layer_fixed (StmtKind-F.Assign to None (rhs.Call n args at) None) r w h i =
      All-append Fx (flat_map left_exprs to ++ args) [] (All-append Fx (flat_map left_exprs to) args i.0 i.1) (All-nil Fx)
  layer_fixed (StmtKind-F.If c a b) r (well.branch t) h i = one_test c t h (r refl)
  layer_fixed (StmtKind-F.While p c b) r (well.loop t) h i = one_test c t h (r refl)
  layer_fixed (StmtKind-F.For v from down to b) r (well.rounds n x y) h i =
      let a = (parted Kept (flat_map vars_in (from ∷ to ∷ [])) (v ∷ []) h).0 in
      let u = parted Kept (vars_in from) (flat_map vars_in (to ∷ [])) a in
      All-cons Fx from (to ∷ []) (integer_fixed from x u.0) (one to (integer_fixed to y (parted Kept (vars_in to) [] u.1).0))
  layer_fixed (StmtKind-F.Mark vs) r w h i = All-nil Fx
