-- What the table of the functions holds.
use Rattle.std.specs.Prelude.{◌≡◌, ℕ, List, option_map}
use Rattle.jz_tree.specs.declared.program.Fun.{Fun}
use Rattle.jz_type_names.specs.Scopes.{function_named}
use Rattle.jz_type_names.specs.Tables.{item_in}
use Rattle.jz_type_rows.specs.declared.callee.Callees.{Callees}
use Rattle.jz_type_rows.specs.Callees.{callee_of}

-- the table has the first function of each name
pub record HasCallees (t : Callees) (fs : List Fun) : Type 0 where
  pub first : (n : List ℕ) → item_in t.callees n ≡ option_map callee_of (function_named n fs)
