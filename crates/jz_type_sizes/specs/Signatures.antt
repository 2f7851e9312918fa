-- The arguments and results of the intrinsics.
use Rattle.std.specs.Prelude.{ℕ, List, [], ◌∷◌, ◌++◌, Option, option_map}
use Rattle.jz_tree.specs.Size.{Size}
use Rattle.jz_tree.specs.declared.intrinsic.Intrinsic.{Intrinsic}
use Rattle.jz_tree.specs.declared.intrinsic.Instance.{Instance}
use Rattle.jz_tree.specs.declared.intrinsic.Intrinsic.TheVariants as name
use Rattle.jz_tree.specs.Spellings.{spelled}
use Rattle.jz_type_sizes.specs.declared.signatures.Role.{Role}
use Rattle.jz_type_sizes.specs.declared.signatures.Role.TheVariants as role

-- the size is that of the name, where it has one
pub record Signature : Type 0 where
  pub size : Option Size
  pub arguments : List Role
  pub results : List Role

abbrev pub one : Role → List Role
one r = r ∷ []

abbrev pub two : List Role
two = role.Value ∷ role.Value ∷ []

-- all flags but CF
abbrev pub four : List Role
four = role.Flag ∷ role.Flag ∷ role.Flag ∷ role.Flag ∷ []

-- OF, CF, SF, PF, ZF
abbrev pub five : List Role
five = role.Flag ∷ four

abbrev pub operands_of : Intrinsic → List Role
operands_of name.Adc = role.Value ∷ role.Value ∷ one role.Condition
operands_of name.Sbb = role.Value ∷ role.Value ∷ one role.Condition
operands_of name.Neg = one role.Value
operands_of name.Inc = one role.Value
operands_of name.Dec = one role.Value
operands_of name.Not = one role.Value
operands_of name.Bswap = one role.Value
operands_of name.Lea = one role.Address
operands_of name.Setcc = one role.Condition
operands_of name.Shl = role.Value ∷ one role.Count
operands_of name.Shr = role.Value ∷ one role.Count
operands_of name.Sar = role.Value ∷ one role.Count
operands_of name.Rol = role.Value ∷ one role.Count
operands_of name.Ror = role.Value ∷ one role.Count
operands_of name.Div = role.Value ∷ two
operands_of _ = two

abbrev pub results_of : Intrinsic → List Role
results_of name.Inc = four ++ one role.Value
results_of name.Dec = four ++ one role.Value
results_of name.Not = one role.Value
results_of name.Bswap = one role.Value
results_of name.Lea = one role.Value
results_of name.Setcc = one role.Byte
results_of name.Cmp = five
results_of name.Test = five
results_of name.Rol = role.Flag ∷ role.Flag ∷ one role.Value
results_of name.Ror = role.Flag ∷ role.Flag ∷ one role.Value
results_of name.Mul = five ++ two
results_of name.Div = five ++ two
results_of _ = five ++ one role.Value

abbrev pub signature_of : Intrinsic → Option Size → Signature
signature_of i z = record { size = z; arguments = operands_of i; results = results_of i }

abbrev pub instance_signature : Instance → Signature
instance_signature i = signature_of i.name i.size

abbrev pub signature : List ℕ → Option Signature
signature n = option_map instance_signature (spelled n)
