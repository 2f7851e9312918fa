-- Which variables of a function are inline, by their declarations.
use Rattle.std.specs.Prelude.{ℕ, ◌≡◌, ◌==◌, ◌&&◌, Bool, is_some, List, None}
use Rattle.std.specs.List.{list_any}
use Rattle.std.specs.Str.{bytes_eq}
use Rattle.jz_tree.specs.declared.expr.Var.{Var}
use Rattle.jz_tree.specs.declared.expr.Expr.TheViews.{out-Var}
use Rattle.jz_type_names.specs.Kinds.{known_of, is_inline_int}
use Rattle.jz_meaning.specs.Stores.{store_of}
use Rattle.jz_unroll.specs.Values.{InlineNames}
use Rattle.jz_unrolling_values.specs.declared.inline_vars.InlineVars.{InlineVars}

abbrev pub is_inline_named : List ℕ → ℕ → Var → Bool
is_inline_named n c v =
    is_inline_int (known_of v) && (bytes_eq (out-Var v).name n && (out-Var v).copy == c)

-- a variable of that name, in that copy, is declared as an inline integer among these
abbrev pub inline_names : List Var → InlineNames
inline_names vs n c = list_any (is_inline_named n c) vs

-- those that the code keeps
abbrev pub names_in : InlineVars → InlineNames
names_in t n c = is_some (store_of t.marks (record { name = n; copy = c; cell = None }))

pub record AreInline (t : InlineVars) (vs : List Var) : Type 0 where
  pub names : names_in t ≡ inline_names vs
