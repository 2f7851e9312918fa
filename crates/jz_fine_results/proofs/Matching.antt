-- Left sides with classes have the sizes of typing.
use Rattle.std.proofs.Common.{Bool, List, [], ◌∷◌, refl}
use Rattle.std.specs.Prelude.{All}
use Rattle.std.proofs.lemmas.List.Elements.{All-nil, All-cons, All-head, All-tail}
use Rattle.jz_tree.specs.declared.expr.Expr.{Expr}
use Rattle.jz_tree.specs.declared.stmt.Lval.{Lval}
use Rattle.jz_meaning.specs.States.{Key}
use Rattle.jz_run_laws.specs.Kinds.{Kinds}
use Rattle.jz_run_laws.specs.Counted.{Counted}
use Rattle.jz_run_laws.specs.Lefts.{IsCountedLeft}
use Rattle.jz_select.specs.Operands.{dest_of}
use Rattle.jz_row_laws.proofs.Copied.{rm_class}
use Rattle.jz_row_laws.proofs.Assigned.{fine, FineLeft, fine_class, fine_result, fine_pinned}
use Rattle.jz_instructed.specs.Instructed.{Shape, a_flag, a_word, a_pinned}
use Rattle.jz_row_classes.specs.RowClasses.{LeftsClassed}
use Rattle.jz_plain_operands.specs.Plain.{IsPlainExpr, IsPlainLeft}
use Rattle.jz_plain_operands.proofs.Counting.{all_counted, counted_left}

-- what has its class is fine
pub lefts_fine : (hs : List Shape) (ds : List Lval) → LeftsClassed hs ds → All FineLeft ds
lefts_fine [] [] h = All-nil FineLeft
lefts_fine [] (d ∷ ds) h = absurd h
lefts_fine (a ∷ hs) [] h = absurd h
lefts_fine (a_flag ∷ hs) (d ∷ ds) h = All-cons FineLeft d ds (fine_result (dest_of d) h.0) (lefts_fine hs ds h.1)
lefts_fine (a_word z ∷ hs) (d ∷ ds) h = All-cons FineLeft d ds (fine_class (dest_of d) (rm_class (dest_of d) h.0)) (lefts_fine hs ds h.1)
lefts_fine (a_pinned z ∷ hs) (d ∷ ds) h = All-cons FineLeft d ds (fine_pinned (dest_of d) h.0) (lefts_fine hs ds h.1)

module _ (kinds : Kinds) (in_frame : Key → Bool) where
  pub lefts_counted : (to : List Lval) → All FineLeft to → All (IsPlainLeft kinds in_frame) to → All IsCountedLeft to
  lefts_counted [] f p = All-nil IsCountedLeft
  lefts_counted (d ∷ ds) f p =
      All-cons IsCountedLeft d ds (counted_left kinds in_frame fine refl d (All-head (IsPlainLeft kinds in_frame) d ds p) (All-head FineLeft d ds f))
      (lefts_counted ds (All-tail FineLeft d ds f) (All-tail (IsPlainLeft kinds in_frame) d ds p))

  pub operands_counted : (es : List Expr) → All (IsPlainExpr kinds in_frame) es → All Counted es
  operands_counted [] p = All-nil Counted
  operands_counted (e ∷ es) p =
      All-cons Counted e es (all_counted kinds in_frame e (All-head (IsPlainExpr kinds in_frame) e es p)) (operands_counted es (All-tail (IsPlainExpr kinds in_frame) e es p))
