-- One size: by evaluation, by typing, by the judgement.
use Rattle.std.specs.Prelude.{◌≡◌, ◌↔◌, Bool, true, false, List, All, Option, Some, None}
use Rattle.std.specs.Option.{option_or}
use Rattle.jz_tree.specs.Size.{Size}
use Rattle.jz_tree.specs.declared.expr.Expr.{Expr}
use Rattle.jz_tree.specs.declared.expr.BinOp.{BinOp}
use Rattle.jz_tree.specs.declared.stmt.Lval.{Lval}
use Rattle.jz_tree.specs.declared.intrinsic.Intrinsic.{Intrinsic}
use Rattle.jz_tree.specs.declared.intrinsic.Intrinsic.TheVariants as name
use Rattle.jz_type_names.specs.Kinds.{array_of}
use Rattle.jz_type_sizes.specs.Signatures.{signature_of}
use Rattle.jz_type_sizes.specs.Intrinsics.{size_of_intrinsic}
use Rattle.jz_type_sizes.specs.Sides.{left_form}
use Rattle.jz_type_sizes.specs.Values.{value_typing}
use Rattle.jz_type_sizes.specs.Typings.{typing}
use Rattle.jz_judgement.specs.Places.{Place}
use Rattle.jz_judgement.specs.HasType.{HasType, Says, value}
use Rattle.jz_judgement.specs.Lefts.{IsSound, Values}
use Rattle.jz_judgement.specs.WellTyped.{Instructs}
use Rattle.jz_meaning.specs.Intrinsics.{intrinsic_size}
use Rattle.jz_meaning.specs.Values.{own_size}
use Rattle.jz_meaning.specs.Assignments.{left_size, left_sizes, last_left, whole_of}
use Rattle.jz_run_laws.specs.Counted.{Counted}
use Rattle.jz_run_laws.specs.Lefts.{IsCountedLeft, typed_lefts}

-- ---- an expression by itself
abbrev pub ExpressionSizes : Type 0
ExpressionSizes =
    (e : Expr) (p : Place) → Counted e → HasType (value e) p → own_size e ≡ (typing e).form.size

abbrev pub ExpressionsSay : Type 0
ExpressionsSay =
    (e : Expr) (p : Place) → Counted e → HasType (value e) p
    → (z : Size) → (own_size e ≡ Some z) ↔ Says (value e) z

-- ---- left sides and assignments
abbrev pub LeftSizes : Type 0
LeftSizes = (d : Lval) → IsCountedLeft d → IsSound d → left_size d ≡ (left_form d).size

-- d is the left side that an operation reads, w the whole that is evaluated
abbrev pub AssignmentSizes : Type 0
AssignmentSizes =
    (to : List Lval) (d : Lval) (o : Option BinOp) (e w : Expr)
    → last_left to ≡ Some d → whole_of (Some d) o e ≡ Some w
    → All IsCountedLeft to → Counted e → Values to o e
    → option_or (left_sizes to) (own_size w)
    ≡ option_or (typed_lefts to) (value_typing o d e).form.size

-- ---- intrinsics
-- each but LEA and SETcc, which have a size of their own
abbrev pub takes_size : Intrinsic → Bool
takes_size name.Lea = false
takes_size name.Setcc = false
takes_size _ = true

abbrev pub IsNoArray : Expr → Type 0
IsNoArray e = array_of e ≡ None

abbrev pub IntrinsicSizes : Type 0
IntrinsicSizes =
    (i : Intrinsic) (z : Option Size) (to : List Lval) (args : List Expr) (y : Size)
    → takes_size i ≡ true → All IsCountedLeft to → All Counted args → All IsNoArray args
    → Instructs (Some (signature_of i z)) to args
    → size_of_intrinsic (signature_of i z) to args ≡ Some y → intrinsic_size i z to args ≡ Some y
