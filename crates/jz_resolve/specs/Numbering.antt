-- The numbers of constants, and what is declared of a name in a function.
use Rattle.std.specs.Prelude.{ℕ, ℤ, List, [], ◌∷◌, Option, Some, None, option_map, option_and_then, if◌then◌else◌}
use Rattle.std.specs.Option.{option_or}
use Rattle.jz_tree.specs.declared.expr.Storage.TheVariants as storage
use Rattle.jz_tree.specs.declared.expr.Expr.{Expr}
use Rattle.jz_tree.specs.declared.expr.Ty.TheVariants as ty
use Rattle.jz_tree.specs.declared.expr.Decl.{Decl}
use Rattle.jz_tree.specs.declared.expr.Var.{Var}
use Rattle.jz_tree.specs.declared.expr.Expr.TheViews.{out-Var, roll-Decl}
use Rattle.jz_tree.specs.declared.program.Const.{Const}
use Rattle.jz_integers.specs.Integers.{inline_value, the_number}
use Rattle.jz_type_names.specs.Scopes.{Name, PlacesByName, variable_named, place_among, or_named}
use Rattle.jz_type_names.specs.Names.{is_constant}
use Rattle.jz_resolve.specs.Resolving.{KnownNames}

-- ---- the values of constants, each by those before it
abbrev pub Values : Type 0
Values = List ℕ → Option ℤ

-- the number of an expression of numbers and constants with these values
abbrev pub value_with : Values → Expr → Option ℤ
value_with known e = the_number (inline_value (λ n copy. known n) e)

-- with the value of a constant more, unless its name has one
abbrev pub with_value : Values → Const → Values
with_value known c = or_named known c.name (value_with known c.value)

abbrev pub values_after : Values → List Const → Values
values_after known [] = known
values_after known (c ∷ cs) = values_after (with_value known c) cs

abbrev pub no_values : Values
no_values n = None

-- the first value that a constant of that name has
abbrev pub values_of : List Const → Values
values_of cs = values_after no_values cs

-- the value of a length, which is built of numbers and constants
abbrev pub length_of : List Const → Expr → Option ℤ
length_of cs e = value_with (values_of cs) e

-- ---- what is known of a name among these variables and the constants
-- places: where the constants are declared
-- a constant is an `inline int`
abbrev pub constant_decl : Decl
constant_decl = roll-Decl (record { storage = storage.Inline; ty = ty.Int })

-- the declaration of the first variable of that name, else that of a constant
abbrev pub declaration_in : PlacesByName → List Var → List ℕ → Option Decl
declaration_in places vs n =
    option_or
    (option_and_then (λ v. (out-Var v).decl) (variable_named n vs))
    (option_map (λ at. constant_decl) (places n))

-- of a name that is a constant's where it stands among these variables, the number of the constant,
-- if that has one
abbrev pub number_in : PlacesByName → Values → List Var → Name → Option (Option ℤ)
number_in places values vs n =
    if is_constant places (place_among vs) n then Some (values n.0) else None

-- what is known of names among these variables and the constants
abbrev pub known_among : PlacesByName → Values → List Var → KnownNames
known_among places values vs =
    record { declaration = declaration_in places vs; number = number_in places values vs }
