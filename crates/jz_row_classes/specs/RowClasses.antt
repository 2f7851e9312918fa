-- What the row of a statement asks of the classes of its results and operands, without how they meet.
use Rattle.std.specs.Prelude.{◌≡◌, ◌⊎◌, ◌&&◌, ℕ, Bool, true, false, List, [], ◌∷◌, Option, Some, None, ⊤}
use Rattle.jz_tree.specs.Size.{Size}
use Rattle.jz_tree.specs.Size.TheVariants.{S64}
use Rattle.jz_tree.specs.Operators.{is_shift}
use Rattle.jz_tree.specs.Spellings.{spelled}
use Rattle.jz_tree.specs.declared.expr.BinOp.{BinOp}
use Rattle.jz_tree.specs.declared.expr.Expr.{Expr}
use Rattle.jz_tree.specs.declared.expr.Expr.TheViews.{out-Expr}
use Rattle.jz_tree.specs.declared.stmt.Lval.{Lval}
use Rattle.jz_tree.specs.declared.intrinsic.Intrinsic.TheVariants as name
use Rattle.jz_tree.specs.declared.intrinsic.Instance.{Instance}
use Rattle.jz_type_sizes.specs.Signatures.{instance_signature}
use Rattle.jz_type_sizes.specs.Intrinsics.{size_of_intrinsic}
use Rattle.jz_select.specs.declared.class.Class.{Class}
use Rattle.jz_select.specs.declared.class.Class.TheVariants as class
use Rattle.jz_select.specs.declared.class.Operand.{Operand}
use Rattle.jz_select.specs.declared.shape.Value.{Value}
use Rattle.jz_select.specs.declared.shape.Value.TheVariants as values
use Rattle.jz_select.specs.Look.{look_of}
use Rattle.jz_select.specs.Operands.{class_of, dest_of}
use Rattle.jz_select.specs.Rows.{is_i, is_r, is_rm, is_rmi, is_flag, is_flag_result, is_pinned, is_wide, is_long, class_size, adds, multiplies, masks, product_size}
use Rattle.jz_select.specs.Shapes.{Asked, is_test, has_flags, value_layer, update_layer}
use Rattle.jz_runs.specs.Trees.{done, op, quiet, choose, loop, each, call}
use Rattle.jz_meaning.specs.Statements.{Operation, assign, instruction, unset, meaningless, Condition, Block}
use Rattle.jz_stuck_runs.specs.Sizes.{gives_byte}
use Rattle.jz_standing.specs.Typing.{is_computed}
use Rattle.jz_instructed.specs.Instructed.{Shape, a_flag, a_word, a_pinned, shapes_of, Form, one_word, two_words, three_words, with_carry, with_count, an_address, a_condition, form_of}

-- ---- one value
-- a number, or a masked byte
abbrev pub IsCountClass : Class → Type 0
IsCountClass c = (is_i c ≡ true) ⊎ ((longest : Bool) × (masks longest c ≡ true))

-- a word beside a word, or a count
abbrev pub IsSecond : BinOp → Class → Type 0
IsSecond p o =
    ((is_computed p ≡ true) × (is_rmi o ≡ true)) ⊎ ((is_shift p ≡ true) × IsCountClass o)

-- two inline operands are one
abbrev pub NotBothInline : Class → Class → Type 0
NotBothInline a o = (is_i a && is_i o) ≡ false

-- the value is an operand itself, or its parts are
abbrev pub AreOperands : Class → Value → Type 0
AreOperands w values.Alone = is_rmi w ≡ true
AreOperands w (values.One a) = (is_rmi w ≡ true) ⊎ (is_rmi a.class ≡ true)
AreOperands w (values.Two p a o) =
    (is_rmi w ≡ true) ⊎ ((is_rmi a.class ≡ true) × IsSecond p o.class)
AreOperands w (values.Carry p a o) =
    (is_rmi w ≡ true)
    ⊎ ((is_rmi a.class ≡ true) × (is_rmi o.class ≡ true) × NotBothInline a.class o.class)
AreOperands w (values.Cast z signed c) = (is_rmi w ≡ true) ⊎ (is_rm c ≡ true)

-- `d = e`, or `d op= e`
abbrev pub ValueClassed : Asked → Lval → Option BinOp → Expr → Type 0
ValueClassed asked d None e = AreOperands (class_of e) (value_layer asked d (out-Expr e))
ValueClassed asked d (Some o) e =
    AreOperands class.Other (update_layer asked d o e (out-Expr e))

pub record IsOneClassed (d : Lval) (o : Option BinOp) (e : Expr) : Type 0 where
  pub to : is_rm (dest_of d) ≡ true
  pub asked : Asked
  pub operands : ValueClassed asked d o e

-- `d = e if c`
pub record IsChosen (d : Lval) (e c : Expr) : Type 0 where
  pub to : is_r (dest_of d) ≡ true
  pub wide : is_wide (class_size (dest_of d)) ≡ true
  pub operand : is_rm (class_of e) ≡ true
  pub flags : has_flags c ≡ true

-- ---- two results
-- a flag before a sum or a difference
pub record IsSumRow (x d : Class) (a o : Operand) : Type 0 where
  pub lead : is_flag_result x ≡ true
  pub to : is_rm d ≡ true
  pub first : is_rmi a.class ≡ true
  pub second : is_rmi o.class ≡ true
  pub apart : NotBothInline a.class o.class

-- both words of a product
pub record IsProductRow (x d : Class) (p : BinOp) (a b : Operand) : Type 0 where
  pub multiplying : multiplies p ≡ true
  pub high : is_pinned x ≡ true
  pub low : is_pinned d ≡ true
  pub long : is_long (product_size None x d a b) ≡ true
  pub first : is_rmi a.class ≡ true
  pub second : is_rmi b.class ≡ true
  pub read : is_rm b.class ≡ true

abbrev pub PairFits : Class → Class → Value → Type 0
PairFits x d values.Alone = ⊥
PairFits x d (values.One a) = ⊥
PairFits x d (values.Cast z s c) = ⊥
PairFits x d (values.Carry p a o) = IsSumRow x d a o
PairFits x d (values.Two p a o) =
    ((adds p ≡ true) × IsSumRow x d a o) ⊎ IsProductRow x d p a o

abbrev pub PairValue : Asked → Lval → Lval → Option BinOp → Expr → Type 0
PairValue asked x d None e = PairFits (dest_of x) (dest_of d) (value_layer asked d (out-Expr e))
PairValue asked x d (Some o) e =
    PairFits (dest_of x) (dest_of d) (update_layer asked d o e (out-Expr e))

pub record IsPairClassed (x d : Lval) (o : Option BinOp) (e : Expr) : Type 0 where
  pub asked : Asked
  pub fits : PairValue asked x d o e

-- ---- instructions
abbrev pub Classed : Form → List Expr → Type 0
Classed one_word (a ∷ []) = is_rmi (class_of a) ≡ true
Classed two_words (a ∷ b ∷ []) = (is_rmi (class_of a) ≡ true) × (is_rmi (class_of b) ≡ true)
Classed three_words (a ∷ b ∷ c ∷ []) =
    (is_rmi (class_of a) ≡ true) × (is_rmi (class_of b) ≡ true) × (is_rmi (class_of c) ≡ true)
Classed with_carry (a ∷ b ∷ c ∷ []) =
    (is_rmi (class_of a) ≡ true) × (is_rmi (class_of b) ≡ true) × (is_flag (class_of c) ≡ true)
Classed with_count (a ∷ n ∷ []) = (is_rmi (class_of a) ≡ true) × IsCountClass (class_of n)
Classed an_address (a ∷ []) = (look_of a).sum.good ≡ true
Classed a_condition (c ∷ []) = has_flags c ≡ true
Classed f es = ⊥

abbrev pub LeftClassed : Shape → Lval → Type 0
LeftClassed a_flag d = is_flag_result (dest_of d) ≡ true
LeftClassed (a_word z) d = is_rm (dest_of d) ≡ true
LeftClassed (a_pinned z) d = is_pinned (dest_of d) ≡ true

abbrev pub LeftsClassed : List Shape → List Lval → Type 0
LeftsClassed [] [] = Unit {0}
LeftsClassed (h ∷ hs) (d ∷ ds) = LeftClassed h d × LeftsClassed hs ds
LeftsClassed hs ds = ⊥

abbrev pub IsOfSize : Instance → List Lval → List Expr → Size → Type 0
IsOfSize i to args z = size_of_intrinsic (instance_signature i) to args ≡ Some z

abbrev pub HasSize : Instance → List Lval → List Expr → Type 0
HasSize i to args = (z : Size) × IsOfSize i to args z

pub record IsInstanceClassed (to : List Lval) (n : List ℕ) (args : List Expr) : Type 0 where
  pub instance : Instance
  pub is : spelled n ≡ Some instance
  pub lefts : (z : Size) → LeftsClassed (shapes_of instance.name z) to
  pub operands : Classed (form_of instance.name) args
  -- typing finds a size for it; that of an address is 64 bits
  pub size : gives_byte instance.name ≡ false → HasSize instance to args
  pub address : instance.name ≡ name.Lea → IsOfSize instance to args S64

-- ---- operations and tests
abbrev pub AreClassed : List Lval → Option BinOp → Expr → Option Expr → Type 0
AreClassed (d ∷ []) o e None = IsOneClassed d o e
AreClassed (d ∷ []) None e (Some c) = IsChosen d e c
AreClassed (x ∷ d ∷ []) o e None = IsPairClassed x d o e
AreClassed to o e c = ⊥

abbrev pub IsClassed : Operation → Type 0
IsClassed (assign to o e c at) = AreClassed to o e c
IsClassed (instruction to n args at) = IsInstanceClassed to n args
IsClassed (unset vs) = ⊤
IsClassed (meaningless at) = ⊥

abbrev pub IsClassedTest : Condition → Type 0
IsClassedTest c = is_test c.cond ≡ true

-- ---- bodies in which no call is left
abbrev pub IsClassedBody : Block → Type 0
IsClassedBody done = ⊤
IsClassedBody (op o r) = IsClassed o × IsClassedBody r
IsClassedBody (quiet o r) = IsClassedBody r
IsClassedBody (choose c a b r) =
    IsClassedTest c × IsClassedBody a × IsClassedBody b × IsClassedBody r
IsClassedBody (loop h q c b r) =
    IsClassedTest c × IsClassedBody q × IsClassedBody b × IsClassedBody r
IsClassedBody (each i b r) = IsClassedBody b × IsClassedBody r
IsClassedBody (call c b r) = ⊥
