-- The lengths of arrays.
use Rattle.std.specs.Prelude.{ℤ, pos, Bool, false, ◌&&◌, ◌||◌, nat_le, is_some, List, ◌++◌, flat_map, Option, Some, None}
use Rattle.jz_tree.specs.Span.{Span}
use Rattle.jz_tree.specs.declared.expr.Expr.{Expr}
use Rattle.jz_tree.specs.declared.expr.Decl.{Decl}
use Rattle.jz_tree.specs.declared.program.Fun.{Fun}
use Rattle.jz_type_names.specs.Order.{unless, earliest}
use Rattle.jz_type_names.specs.Scopes.{Name, PlacesByName, variable_place}
use Rattle.jz_type_names.specs.Parts.{span_of, names_in, lengths_in}
use Rattle.jz_type_names.specs.Names.{is_constant, decls_of}
use Rattle.jz_type_sizes.specs.declared.wants.Want.TheVariants as want
use Rattle.jz_type_sizes.specs.Typings.{typing}

abbrev pub within_limits : ℤ → Bool
within_limits (pos n) = nat_le 1 n && nat_le n 65536
within_limits _ = false

abbrev pub is_length : Option ℤ → Bool
is_length None = false
is_length (Some n) = within_limits n

-- constant: whether a name is a constant's where it stands; length_of: the value of a length, if it
-- has one
module _ (constant : Name → Bool) where
  abbrev pub no_constant : Name → List Span
  no_constant n = unless (constant n) n.1

  -- it is no integer, or is built of something else than numbers and constants
  abbrev pub unbuilt : Expr → List Span
  unbuilt e = (typing e).wrong want.Int ++ flat_map no_constant (names_in e)

  module _ (length_of : Expr → Option ℤ) where
    -- it is built of numbers and constants, and then is from 1 to 65,536
    abbrev pub length_wrong : Expr → List Span
    length_wrong e =
        unbuilt e
        ++ unless (is_some (earliest (unbuilt e)) || is_length (length_of e)) (span_of e)

    abbrev pub decl_wrong : Decl → List Span
    decl_wrong d = flat_map length_wrong (lengths_in d)

    -- the lengths of the arrays that a function declares
    abbrev pub lengths_wrong : Fun → List Span
    lengths_wrong f = flat_map decl_wrong (decls_of f)

-- of a function of a program whose constants are declared there
unfoldable pub fun_lengths : PlacesByName → (Expr → Option ℤ) → Fun → List Span
fun_lengths constants length_of f =
    lengths_wrong (is_constant constants (variable_place f)) length_of f
