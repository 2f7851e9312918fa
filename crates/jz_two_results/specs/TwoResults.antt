-- What typing and expansion give of an assignment of two results.
use Rattle.std.specs.Prelude.{◌≡◌, ◌⊎◌, Bool, true, false, ◌&&◌, [], ◌∷◌, Option, Some}
use Rattle.std.specs.Option.{option_or}
use Rattle.x64_insn.specs.Size.{Size}
use Rattle.jz_tree.specs.Span.{Span}
use Rattle.jz_tree.specs.declared.expr.BinOp.{BinOp}
use Rattle.jz_tree.specs.declared.expr.BinOp.TheVariants as o
use Rattle.jz_tree.specs.declared.expr.Expr.{Expr}
use Rattle.jz_tree.specs.declared.expr.Expr.TheOpen.{Expr-F}
use Rattle.jz_tree.specs.declared.expr.Expr.TheViews.{out-Expr}
use Rattle.jz_tree.specs.declared.stmt.Lval.{Lval}
use Rattle.jz_meaning.specs.States.{Key}
use Rattle.jz_meaning.specs.Values.{own_size}
use Rattle.jz_meaning.specs.Assignments.{left_sizes, whole_of, is_flag, carries}
use Rattle.jz_run_laws.specs.Kinds.{Kinds}
use Rattle.jz_terms.specs.Terms.{term_of}
use Rattle.jz_fact_laws.specs.Saying.{is_number}
use Rattle.jz_standing.specs.Typing.{IsFlag, IsWord}
use Rattle.jz_instructed.specs.Instructed.{Shape, a_flag, a_word, a_pinned, TakesShape}

-- two results: a carry before a sum, a borrow before a difference, a high word before a product
pub data Pair : Type 0 where
  of_sum : Pair
  of_difference : Pair
  of_product : Pair

abbrev pub op_of : Pair → BinOp
op_of of_sum = o.Add
op_of of_difference = o.Sub
op_of of_product = o.Mul

abbrev pub before : Pair → Size → Shape
before of_sum z = a_flag
before of_difference z = a_flag
before of_product z = a_pinned z

abbrev pub last_of : Pair → Size → Shape
last_of of_sum z = a_word z
last_of of_difference z = a_word z
last_of of_product z = a_pinned z

module _ (kinds : Kinds) (in_frame : Key → Bool) where
  -- an operation on two words, none of them a flag
  pub record IsPair (p : Pair) (z : Size) (w : Expr) : Type 0 where
    pub left : Expr
    pub right : Expr
    pub at : Span
    pub is : out-Expr w ≡ Expr-F.Bin (op_of p) left right at
    pub no_flag : is_flag right ≡ false
    pub no_number : (is_number (term_of left) && is_number (term_of right)) ≡ false
    pub first : IsWord kinds in_frame (Some z) z (term_of left)
    pub second : IsWord kinds in_frame (Some z) z (term_of right)

  -- the same with a flag behind it
  pub record IsCarriedPair (p : Pair) (z : Size) (w : Expr) : Type 0 where
    pub inner : Expr
    pub left : Expr
    pub right : Expr
    pub flag : Expr
    pub inner_at : Span
    pub at : Span
    pub is : out-Expr w ≡ Expr-F.Bin (op_of p) inner flag at
    pub inner_is : out-Expr inner ≡ Expr-F.Bin (op_of p) left right inner_at
    pub by_flag : is_flag flag ≡ true
    pub may_carry : carries (op_of p) (op_of p) ≡ true
    pub no_number : (is_number (term_of left) && is_number (term_of right)) ≡ false
    pub first : IsWord kinds in_frame (Some z) z (term_of left)
    pub second : IsWord kinds in_frame (Some z) z (term_of right)
    pub third : IsFlag kinds in_frame (term_of flag)

  -- of two left sides
  pub record IsPaired (d b : Lval) (op : Option BinOp) (e : Expr) : Type 0 where
    pub pair : Pair
    pub size : Size
    pub whole : Expr
    pub is : whole_of (Some b) op e ≡ Some whole
    pub sized : option_or (left_sizes (d ∷ b ∷ [])) (own_size whole) ≡ Some size
    pub first : TakesShape kinds in_frame (before pair size) d
    pub last : TakesShape kinds in_frame (last_of pair size) b
    pub value : IsPair pair size whole ⊎ IsCarriedPair pair size whole
