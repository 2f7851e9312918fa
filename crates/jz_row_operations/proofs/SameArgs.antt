-- Operands that the table finds to be one are one.
use Rattle.std.proofs.Common.{◌≡◌, ℕ, Bool, true, false, Option, Some, None, refl, ap, arith, ℤ}
use Rattle.std.specs.Prelude.{not}
use Rattle.std.specs.Ordering.{int_eq}
use Rattle.std.proofs.lemmas.Int.{ints}
use Rattle.std.proofs.lemmas.Bool.{and_parts, eqb-true}
use Rattle.jz_operations.specs.declared.operation.Address.{Address}
use Rattle.jz_operations.specs.declared.operation.Cell.{Cell}
use Rattle.jz_operations.specs.declared.operation.Arg.{Arg}
use Rattle.jz_operations.specs.declared.operation.Arg.TheVariants as arg
use Rattle.jz_row_operations.specs.Table.{same_option, same_index, same_arg}

same_int : (i j : ℤ) → int_eq i j ≡ true → i ≡ j
same_int i j e = grind (arith, ints, e)

option_is : (a b : Option ℕ) → same_option a b ≡ true → a ≡ b
option_is None None e = refl
option_is None (Some b) e = absurd cc
option_is (Some a) None e = absurd cc
option_is (Some a) (Some b) e = ap (λ x. Some x) (eqb-true a b e)

pair_is : (a b : ℕ × ℕ) → a.0 ≡ b.0 → a.1 ≡ b.1 → a ≡ b
pair_is a b e f = λ k. (e k, f k)

index_is : (a b : Option (ℕ × ℕ)) → same_index a b ≡ true → a ≡ b
index_is None None e = refl
index_is None (Some b) e = absurd cc
index_is (Some a) None e = absurd cc
index_is (Some a) (Some b) e = let k = and_parts _ _ e in ap (λ x. Some x) (pair_is a b (eqb-true a.0 b.0 k.0) (eqb-true a.1 b.1 k.1))

address_is : (a b : Address) → a.base ≡ b.base → a.index ≡ b.index → a.disp ≡ b.disp → a ≡ b
address_is a b e f g = λ k. record { base = e k; index = f k; disp = g k }

cell_is : (a b : Cell) → a.of ≡ b.of → a.index ≡ b.index → a.offset ≡ b.offset → a ≡ b
cell_is a b e f g = λ k. record { of = e k; index = f k; offset = g k }

-- operands that are told to be one are one
pub same_arg_is : (x y : Arg) → same_arg x y ≡ true → x ≡ y
same_arg_is (arg.Var v) (arg.Var w) e = ap arg.Var (eqb-true v w e)
same_arg_is (arg.Mem a) (arg.Mem b) e =
    let k = and_parts _ _ e in
    let l = and_parts _ _ k.1 in
    ap arg.Mem (address_is a b (option_is a.base b.base k.0) (index_is a.index b.index l.0) (same_int a.disp b.disp l.1))
same_arg_is (arg.Cell c) (arg.Cell d) e =
    let k = and_parts _ _ e in
    let l = and_parts _ _ k.1 in
    ap arg.Cell (cell_is c d (eqb-true c.of d.of k.0) (option_is c.index d.index l.0) (same_int c.offset d.offset l.1))
same_arg_is _ _ e = absurd cc

pub not_true : (b : Bool) → not b ≡ true → b ≡ false
not_true true e = absurd cc
not_true false e = refl
