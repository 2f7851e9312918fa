-- What an expression is: an inline integer, an inline condition, a register of 64 bits, such a
-- register times a scale; and the terms of its sum.
use Rattle.std.specs.Prelude.{Bool, true, false, ◌&&◌, ◌||◌, not, Some, None, if◌then◌else◌}
use Rattle.jz_words.specs.declared.size.Size.TheVariants as sizes
use Rattle.jz_tree.specs.Operators.{joins}
use Rattle.jz_tree.specs.declared.expr.Storage.{Storage}
use Rattle.jz_tree.specs.declared.expr.Storage.TheVariants as storage
use Rattle.jz_tree.specs.declared.expr.BinOp.{BinOp}
use Rattle.jz_tree.specs.declared.expr.BinOp.TheVariants as op
use Rattle.jz_tree.specs.declared.expr.Expr.{Expr}
use Rattle.jz_tree.specs.declared.expr.Expr.TheOpen.{Expr-F}
use Rattle.jz_tree.specs.declared.expr.Expr.TheFolds.{fold-Expr}
use Rattle.jz_type_names.specs.declared.kinds.Kind.{Kind}
use Rattle.jz_type_names.specs.declared.kinds.Kind.TheVariants as kind
use Rattle.jz_type_names.specs.declared.kinds.Declared.{Declared}
use Rattle.jz_type_names.specs.Kinds.{Known, inline_int, kind_step, declared_step, known_step}
use Rattle.jz_select.specs.declared.class.Sum.{Sum}
use Rattle.jz_select.specs.Sums.{joined_sum, term, taken_sum, sum_of}

pub record Look : Type 0 where
  pub inline : Bool
  pub condition : Bool
  pub reg : Bool
  pub scaled : Bool
  pub sum : Sum

-- a variable of an unknown name is none of these
abbrev pub is_inline_var : Known → Bool
is_inline_var None = false
is_inline_var (Some d) = inline_int d.storage d.kind

abbrev pub reg64 : Storage → Kind → Bool
reg64 storage.Reg (kind.Word sizes.S64) = true
reg64 _ _ = false

abbrev pub regs64 : Storage → Kind → Bool
regs64 storage.Reg (kind.Array sizes.S64) = true
regs64 _ _ = false

abbrev pub is_reg64 : Known → Bool
is_reg64 None = false
is_reg64 (Some d) = reg64 d.storage d.kind

abbrev pub is_regs64 : Known → Bool
is_regs64 None = false
is_regs64 (Some d) = regs64 d.storage d.kind

abbrev pub looks : Bool → Bool → Bool → Bool → Look
looks i c r s = record { inline = i; condition = c; reg = r; scaled = s; sum = term i r s }

-- of numbers a bool
abbrev pub compares_values : BinOp → Bool
compares_values op.Eq = true
compares_values op.Ne = true
compares_values op.Lt = true
compares_values op.Le = true
compares_values op.Gt = true
compares_values op.Ge = true
compares_values op.LtS = true
compares_values op.LeS = true
compares_values op.GtS = true
compares_values op.GeS = true
compares_values _ = false

-- of integers an integer
abbrev pub gives_number : BinOp → Bool
gives_number o = not (joins o) && not (compares_values o)

-- an inline integer is built of numbers, inline variables and operations that give integers; a bool
-- is none
abbrev pub bin_inline : BinOp → Look → Look → Bool
bin_inline o a b = gives_number o && (b.inline && a.inline)

-- an inline condition is built of `true`, `false`, comparisons of inline integers, `&&`, `||` and
-- `!`
abbrev pub bin_condition : BinOp → Look → Look → Bool
bin_condition o a b =
    if joins o then b.condition && a.condition else compares_values o && (b.inline && a.inline)

-- a register times an inline expression, in either order; what value a scale may have the expansion
-- asks
abbrev pub bin_scaled : BinOp → Look → Look → Bool
bin_scaled op.Mul a b = (a.reg && b.inline) || (a.inline && b.reg)
bin_scaled _ a b = false

-- sums are added term by term; only an inline expression is taken away
abbrev pub bin_sum : BinOp → Look → Look → Sum
bin_sum op.Add a b = joined_sum b.sum a.sum
bin_sum op.Sub a b = joined_sum (taken_sum b.inline) a.sum
bin_sum o a b = term (bin_inline o a b) false (bin_scaled o a b)

abbrev pub look_step : Expr-F Look Kind Look Declared Known → Look
look_step (Expr-F.Num n at) = looks true false false false
look_step (Expr-F.Expr::Bool b at) = looks false true false false
look_step (Expr-F.Var v) = looks (is_inline_var v) false (is_reg64 v) false
look_step (Expr-F.Cell v at) = looks false false (is_regs64 v && at.inline) false
look_step (Expr-F.Load a) = looks false false false false
look_step (Expr-F.Neg a at) = looks a.inline false false false
look_step (Expr-F.Not a at) = looks a.inline a.condition false false
look_step (Expr-F.Cast size signed a at) = looks false false false false
look_step (Expr-F.Bin o a b at) = record {
  inline = bin_inline o a b;
  condition = bin_condition o a b;
  reg = false;
  scaled = bin_scaled o a b;
  sum = bin_sum o a b;
}

abbrev pub look_of : Expr → Look
look_of =
    fold-Expr Look Kind Look Declared Known look_step kind_step (λ a. a.at) declared_step known_step

-- the terms of a sum
abbrev pub terms_of : Expr → Sum
terms_of e = joined_sum (sum_of 0 0 true) (look_of e).sum
