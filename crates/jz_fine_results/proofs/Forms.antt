-- The roles of the operands and the results of an instruction, by its form.
use Rattle.std.proofs.Common.{◌≡◌, true, List, [], ◌∷◌, refl}
use Rattle.std.proofs.lemmas.Bool.{false≢true}
use Rattle.x64_insn.specs.Size.{Size}
use Rattle.jz_tree.specs.declared.intrinsic.Intrinsic.{Intrinsic}
use Rattle.jz_tree.specs.declared.intrinsic.Intrinsic.TheVariants as name
use Rattle.jz_type_sizes.specs.declared.signatures.Role.{Role}
use Rattle.jz_type_sizes.specs.declared.signatures.Role.TheVariants as role
use Rattle.jz_type_sizes.specs.Signatures.{operands_of, results_of}
use Rattle.jz_run_laws.specs.OneSize.{takes_size}
use Rattle.jz_instructed.specs.Instructed.{Shape, a_flag, a_word, a_pinned, shapes_of, Form, one_word, two_words, three_words, with_carry, with_count, an_address, a_condition, form_of}

-- ---- roles
abbrev pub roles_of : Form → List Role
roles_of one_word = role.Value ∷ []
roles_of two_words = role.Value ∷ role.Value ∷ []
roles_of three_words = role.Value ∷ role.Value ∷ role.Value ∷ []
roles_of with_carry = role.Value ∷ role.Value ∷ role.Condition ∷ []
roles_of with_count = role.Value ∷ role.Count ∷ []
roles_of an_address = role.Address ∷ []
roles_of a_condition = role.Condition ∷ []

pub roles_are : (n : Intrinsic) → operands_of n ≡ roles_of (form_of n)
roles_are name.Add = refl
roles_are name.Sub = refl
roles_are name.And = refl
roles_are name.Or = refl
roles_are name.Xor = refl
roles_are name.Cmp = refl
roles_are name.Test = refl
roles_are name.Imul = refl
roles_are name.Mul = refl
roles_are name.Adc = refl
roles_are name.Sbb = refl
roles_are name.Neg = refl
roles_are name.Inc = refl
roles_are name.Dec = refl
roles_are name.Not = refl
roles_are name.Bswap = refl
roles_are name.Shl = refl
roles_are name.Shr = refl
roles_are name.Sar = refl
roles_are name.Rol = refl
roles_are name.Ror = refl
roles_are name.Div = refl
roles_are name.Lea = refl
roles_are name.Setcc = refl

-- a result of the role gives that shape, where the size is z
abbrev pub Aligned : Size → List Shape → List Role → Type 0
Aligned z [] [] = Unit {0}
Aligned z (a_flag ∷ hs) (role.Flag ∷ rs) = Aligned z hs rs
Aligned z (a_word y ∷ hs) (role.Value ∷ rs) = (y ≡ z) × Aligned z hs rs
Aligned z (a_pinned y ∷ hs) (role.Value ∷ rs) = (y ≡ z) × Aligned z hs rs
Aligned z hs rs = ⊥

pub aligned : (n : Intrinsic) (z : Size) → takes_size n ≡ true → Aligned z (shapes_of n z) (results_of n)
aligned name.Add z h = (refl, tt)
aligned name.Sub z h = (refl, tt)
aligned name.And z h = (refl, tt)
aligned name.Or z h = (refl, tt)
aligned name.Xor z h = (refl, tt)
aligned name.Cmp z h = tt
aligned name.Test z h = tt
aligned name.Imul z h = (refl, tt)
aligned name.Mul z h = (refl, (refl, tt))
aligned name.Adc z h = (refl, tt)
aligned name.Sbb z h = (refl, tt)
aligned name.Neg z h = (refl, tt)
aligned name.Inc z h = (refl, tt)
aligned name.Dec z h = (refl, tt)
aligned name.Not z h = (refl, tt)
aligned name.Bswap z h = (refl, tt)
aligned name.Shl z h = (refl, tt)
aligned name.Shr z h = (refl, tt)
aligned name.Sar z h = (refl, tt)
aligned name.Rol z h = (refl, tt)
aligned name.Ror z h = (refl, tt)
aligned name.Div z h = (refl, (refl, tt))
aligned name.Lea z h = (refl, tt)
aligned name.Setcc z h = absurd (false≢true h)
