-- A statement for which a row is selected leaks as its text says.
use Rattle.std.proofs.Common.{◌≡◌, Bool, true, false, ◌&&◌, List, [], ◌∷◌, ◌++◌, Option, Some, None, flat_map, refl, inl, inr}
use Rattle.std.specs.Prelude.{◌⊎◌, All}
use Rattle.std.proofs.lemmas.Bool.{and_parts, false≢true}
use Rattle.std.proofs.lemmas.List.Elements.{All-nil, All-cons, All-append}
use Rattle.jz_tree.specs.Spellings.{spelled}
use Rattle.jz_tree.specs.declared.expr.BinOp.{BinOp}
use Rattle.jz_tree.specs.declared.expr.Expr.{Expr}
use Rattle.jz_tree.specs.declared.stmt.Lval.{Lval}
use Rattle.jz_tree.specs.declared.stmt.Rhs.{Rhs}
use Rattle.jz_tree.specs.declared.stmt.Rhs.TheVariants as rhs
use Rattle.jz_tree.specs.declared.stmt.StmtKind.TheOpen.{StmtKind-F}
use Rattle.jz_tree.specs.declared.stmt.StmtKind.TheViews.{out-StmtKind}
use Rattle.jz_type_names.specs.Parts.{Layer, left_exprs, right_exprs}
use Rattle.jz_select.specs.declared.class.Class.{Class}
use Rattle.jz_select.specs.declared.shape.Shape.TheVariants as shapes
use Rattle.jz_select.specs.Look.{look_of}
use Rattle.jz_select.specs.Operands.{class_of, dest_of}
use Rattle.jz_select.specs.Rows.{is_r, is_rm, is_wide, class_size}
use Rattle.jz_select.specs.Shapes.{Asked, whichever, has_flags, is_test, conditional, rhs_shape, kind_layer}
use Rattle.jz_meaning.specs.Shapes.{Sorts}
use Rattle.jz_row_laws.specs.Numbers.{IsFixed, IsInlineTest, FixedLayers, SelectedLaw}
use Rattle.jz_row_laws.proofs.Booleans.{or_parts}
use Rattle.jz_row_laws.proofs.Fixed.{Fixed, class_fixed}
use Rattle.jz_row_laws.proofs.Copied.{Matches, selected_matches, no_free, rm_class, r_class}
use Rattle.jz_row_laws.proofs.Flags.{flags_fixed}
use Rattle.jz_row_laws.proofs.Assigned.{FineLeft, fine_class, one_fixed, lefts_fixed, value_fixed}
use Rattle.jz_row_laws.proofs.Instructed.{instructed_fixed}

test_only : (b : Bool) → Matches (shapes.Test b) → b ≡ true
test_only true h = refl
test_only false h = absurd (false≢true h)

chosen_only : (d w : Class) (c : Bool) → Matches (shapes.Conditional d w c) → (is_r d && (is_wide (class_size d) && (is_rm w && c))) ≡ true
chosen_only d w c h = by_part (or_parts (is_r d && (is_wide (class_size d) && (is_rm w && c))) false h)
  where
    by_part : ((is_r d && (is_wide (class_size d) && (is_rm w && c))) ≡ true) ⊎ (false ≡ true) → (is_r d && (is_wide (class_size d) && (is_rm w && c))) ≡ true
    by_part (inl t) = t
    by_part (inr t) = absurd (false≢true t)

module _ (sorts : Sorts) (asked : Asked) where
  abbrev AllFixed : List Expr → Type 0
  AllFixed es = All (Fixed sorts) es

  tested : (c : Expr) → Matches (shapes.Test (is_test c)) → IsFixed sorts c ⊎ IsInlineTest c
  tested c h = by_part (or_parts (has_flags c) (look_of c).condition (test_only (is_test c) h))
    where
      by_part : (has_flags c ≡ true) ⊎ ((look_of c).condition ≡ true) → IsFixed sorts c ⊎ IsInlineTest c
      by_part (inl t) = inl (flags_fixed sorts c t)
      by_part (inr t) = inr t

  together : (to : List Lval) (es : List Expr) (cs : List Expr) → All FineLeft to → AllFixed es → AllFixed cs → AllFixed (flat_map left_exprs to ++ es ++ cs)
  together to es cs l h k =
      All-append (Fixed sorts) (flat_map left_exprs to ++ es) cs (All-append (Fixed sorts) (flat_map left_exprs to) es (lefts_fixed sorts to l) h) k

  right_side : (to : List Lval) (o : Option BinOp) (r : Rhs) → Matches (rhs_shape asked to o r) → AllFixed (flat_map left_exprs to ++ right_exprs r ++ [])
  right_side to o (rhs.Value e) h = let t = value_fixed sorts asked to o e h in together to (e ∷ []) [] t.1 (one_fixed sorts e t.0) (All-nil (Fixed sorts))
  right_side to None (rhs.Intrinsic n args at) h = let t = instructed_fixed sorts asked (spelled n) to args h in together to args [] t.0 t.1 (All-nil (Fixed sorts))
  right_side to (Some p) (rhs.Intrinsic n args at) h = absurd (no_free h)
  right_side to o (rhs.Call f args at) h = absurd (no_free h)

  if_chosen : (to : List Lval) (o : Option BinOp) (r : Rhs) (c : Expr) → Matches (conditional to o r c) → AllFixed (flat_map left_exprs to ++ right_exprs r ++ c ∷ [])
  if_chosen (d ∷ []) None (rhs.Value e) c h =
      let t = and_parts (is_r (dest_of d)) _ (chosen_only (dest_of d) (class_of e) (has_flags c) h) in
      let u = and_parts (is_rm (class_of e)) (has_flags c) (and_parts _ _ t.1).1 in
      together (d ∷ []) (e ∷ []) (c ∷ []) (All-cons FineLeft d [] (fine_class (dest_of d) (r_class (dest_of d) t.0)) (All-nil FineLeft))
      (one_fixed sorts e (class_fixed sorts e (rm_class (class_of e) u.0))) (one_fixed sorts c (flags_fixed sorts c u.1))
  if_chosen to o r c h = absurd (no_free h)

  layer_fixed : (k : Layer) → Matches (kind_layer asked k) → FixedLayers sorts k
  layer_fixed (StmtKind-F.Assign to o r None) h = right_side to o r h
  layer_fixed (StmtKind-F.Assign to o r (Some c)) h = if_chosen to o r c h
  layer_fixed (StmtKind-F.If c a b) h = tested c h
  layer_fixed (StmtKind-F.While p c b) h = tested c h
  layer_fixed (StmtKind-F.For i from down to b) h = absurd (no_free h)
  layer_fixed (StmtKind-F.Mark vs) h = absurd (no_free h)

pub selected_fixed : SelectedLaw
selected_fixed sorts k p h =
    let m = selected_matches k p h in
    layer_fixed sorts (whichever m.0) (out-StmtKind k) m.1
