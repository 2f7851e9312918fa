-- The parameters that preconditions name.
use Rattle.std.specs.Prelude.{ℕ, ◌^◌, Bool, false, not, ◌&&◌, ◌||◌, List, map, Option, Some, None, is_some, codes}
use Rattle.std.specs.Str.{bytes_eq}
use Rattle.jz_tree.specs.Size.TheVariants.{S64}
use Rattle.jz_tree.specs.Sizes.{modulus}
use Rattle.jz_tree.specs.declared.expr.Storage.TheVariants as storage
use Rattle.jz_tree.specs.declared.expr.Var.{Var}
use Rattle.jz_tree.specs.declared.program.Fun.{Fun}
use Rattle.jz_tree.specs.declared.program.Note.{Note}
use Rattle.jz_type_names.specs.declared.kinds.Kind.{Kind}
use Rattle.jz_type_names.specs.declared.kinds.Kind.TheVariants as kind
use Rattle.jz_type_names.specs.Kinds.{Known, known_of, same_storage, same_kind}
use Rattle.jz_type_names.specs.Scopes.{variable_named}
use Rattle.jz_annotations.specs.declared.precondition.Pre.{Pre}
use Rattle.jz_annotations.specs.declared.precondition.Pre.TheVariants.{Region, Range, Align}

-- the parameter of each name
abbrev pub ParametersByName : Type 0
ParametersByName = List ℕ → Option Var

-- the first of each name
abbrev pub parameters_of : Fun → ParametersByName
parameters_of f n = variable_named n (map (λ p. p.var) f.params)

-- what is declared of a parameter, where there is one
abbrev pub known_by : Option Var → Known
known_by None = None
known_by (Some v) = known_of v

-- a word of 64 bits in a register
abbrev pub is_pointer : Known → Bool
is_pointer None = false
is_pointer (Some d) = same_storage d.storage storage.Reg && same_kind d.kind (kind.Word S64)

-- how many values there are: of a word as many as its size has; of anything else 64 bits are asked
abbrev pub values_of_kind : Kind → ℕ
values_of_kind (kind.Word z) = modulus z
values_of_kind k = 2 ^ 64

abbrev pub values_of : Known → ℕ
values_of None = 2 ^ 64
values_of (Some d) = values_of_kind d.kind

-- ---- names
abbrev pub names_pointer : ParametersByName → List ℕ → Bool
names_pointer ps n = is_pointer (known_by (ps n))

abbrev pub names_one : ParametersByName → List ℕ → Bool
names_one ps n = is_some (ps n)

-- a region stands at a pointer, and its length goes by another one
abbrev pub names_region : ParametersByName → List ℕ → Option (List ℕ) → Bool
names_region ps p None = names_pointer ps p
names_region ps p (Some v) = names_pointer ps p && (names_pointer ps v && not (bytes_eq p v))

abbrev pub names_parameters : ParametersByName → Pre → Bool
names_parameters ps (Region p factor v constant) = names_region ps p v
names_parameters ps (Range x low high) = names_one ps x
names_parameters ps (Align p multiple) = names_one ps p

-- an entry of this name has to be a precondition
abbrev pub is_precondition : Note → Bool
is_precondition n =
    bytes_eq n.name (codes "region")
    || (bytes_eq n.name (codes "range") || bytes_eq n.name (codes "align"))
