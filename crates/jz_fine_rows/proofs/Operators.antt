-- What operators want, give and are.
use Rattle.std.proofs.Common.{◌≡◌, true, false, Option, Some, refl}
use Rattle.std.specs.Option.{option_or}
use Rattle.std.proofs.lemmas.Bool.{false≢true}
use Rattle.x64_insn.specs.Size.{Size}
use Rattle.jz_tree.specs.Operators.{carries, is_shift}
use Rattle.jz_tree.specs.declared.expr.BinOp.{BinOp}
use Rattle.jz_tree.specs.declared.expr.BinOp.TheVariants as op
use Rattle.jz_type_sizes.specs.declared.operators.Group.TheVariants as group
use Rattle.jz_type_sizes.specs.Operators.{group_of}
use Rattle.jz_meaning.specs.Values.{size_of_operation, left_wanted}
use Rattle.jz_standing.specs.Typing.{is_computed, is_carried}

-- ---- what is wanted of the left operand
pub computed_wants : (o : BinOp) (z : Size) (x y : Option Size) → is_computed o ≡ true → left_wanted o (Some z) x y ≡ Some z
computed_wants op.Or z x y h = refl
computed_wants op.Xor z x y h = refl
computed_wants op.And z x y h = refl
computed_wants op.Add z x y h = refl
computed_wants op.Sub z x y h = refl
computed_wants op.Mul z x y h = refl
computed_wants op.Div z x y h = refl
computed_wants op.Rem z x y h = refl
computed_wants op.DivS z x y h = refl
computed_wants op.RemS z x y h = refl
computed_wants o z x y h = absurd (false≢true h)

pub shift_wants : (o : BinOp) (z : Size) (x y : Option Size) → is_shift o ≡ true → left_wanted o (Some z) x y ≡ Some z
shift_wants op.Shl z x y h = refl
shift_wants op.Shr z x y h = refl
shift_wants op.Sar z x y h = refl
shift_wants op.Rol z x y h = refl
shift_wants op.Ror z x y h = refl
shift_wants o z x y h = absurd (false≢true h)

-- ---- the size that it has by itself
pub computed_size : (o : BinOp) (x y : Option Size) → is_computed o ≡ true → size_of_operation o x y ≡ option_or x y
computed_size op.Or x y h = refl
computed_size op.Xor x y h = refl
computed_size op.And x y h = refl
computed_size op.Add x y h = refl
computed_size op.Sub x y h = refl
computed_size op.Mul x y h = refl
computed_size op.Div x y h = refl
computed_size op.Rem x y h = refl
computed_size op.DivS x y h = refl
computed_size op.RemS x y h = refl
computed_size o x y h = absurd (false≢true h)

-- ---- groups
pub compare_arith : group.Compare ≡ group.Arith → ⊥
compare_arith e = cc

pub logic_arith : group.Logic ≡ group.Arith → ⊥
logic_arith e = cc

pub shift_arith : group.Shift ≡ group.Arith → ⊥
shift_arith e = cc

pub computed_group : (o : BinOp) → is_computed o ≡ true → group_of o ≡ group.Arith
computed_group op.Or h = refl
computed_group op.Xor h = refl
computed_group op.And h = refl
computed_group op.Add h = refl
computed_group op.Sub h = refl
computed_group op.Mul h = refl
computed_group op.Div h = refl
computed_group op.Rem h = refl
computed_group op.DivS h = refl
computed_group op.RemS h = refl
computed_group o h = absurd (false≢true h)

pub group_computed : (o : BinOp) → group_of o ≡ group.Arith → is_computed o ≡ true
group_computed op.Or h = refl
group_computed op.Xor h = refl
group_computed op.And h = refl
group_computed op.Add h = refl
group_computed op.Sub h = refl
group_computed op.Mul h = refl
group_computed op.Div h = refl
group_computed op.Rem h = refl
group_computed op.DivS h = refl
group_computed op.RemS h = refl
group_computed op.Eq h = absurd (compare_arith h)
group_computed op.Ne h = absurd (compare_arith h)
group_computed op.Lt h = absurd (compare_arith h)
group_computed op.Le h = absurd (compare_arith h)
group_computed op.Gt h = absurd (compare_arith h)
group_computed op.Ge h = absurd (compare_arith h)
group_computed op.LtS h = absurd (compare_arith h)
group_computed op.LeS h = absurd (compare_arith h)
group_computed op.GtS h = absurd (compare_arith h)
group_computed op.GeS h = absurd (compare_arith h)
group_computed op.OrElse h = absurd (logic_arith h)
group_computed op.AndThen h = absurd (logic_arith h)
group_computed op.Shl h = absurd (shift_arith h)
group_computed op.Shr h = absurd (shift_arith h)
group_computed op.Sar h = absurd (shift_arith h)
group_computed op.Rol h = absurd (shift_arith h)
group_computed op.Ror h = absurd (shift_arith h)

pub computed_shift : (o : BinOp) → is_computed o ≡ true → is_shift o ≡ true → ⊥
computed_shift op.Shl h k = false≢true h
computed_shift op.Shr h k = false≢true h
computed_shift op.Sar h k = false≢true h
computed_shift op.Rol h k = false≢true h
computed_shift op.Ror h k = false≢true h
computed_shift o h k = false≢true k

-- ---- a flag behind
pub record AreCarries (o p : BinOp) : Type 0 where
  pub same : p ≡ o
  pub carried : is_carried o ≡ true
  pub computed : is_computed o ≡ true

pub are_carries : (o p : BinOp) → carries o p ≡ true → AreCarries o p
are_carries op.Add op.Add h = record { same = refl; carried = refl; computed = refl }
are_carries op.Sub op.Sub h = record { same = refl; carried = refl; computed = refl }
are_carries o p h = absurd (false≢true h)
