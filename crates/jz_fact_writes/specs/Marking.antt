-- A mark, variable by variable.
use Rattle.std.specs.Prelude.{Bool, true, false, not, ◌&&◌}
use Rattle.jz_tree.specs.declared.expr.Var.{Var}
use Rattle.jz_meaning.specs.declared.access.Kind.{Kind}
use Rattle.jz_meaning.specs.declared.access.Kind.TheVariants as kind
use Rattle.jz_facts.specs.Facts.{Facts, subject}
use Rattle.jz_facts.specs.Holding.{marks}

abbrev pub is_array : Kind → Bool
is_array (kind.Array z n) = true
is_array k = false

-- without the facts on one variable
abbrev pub unmarked : Var → Facts → Facts
unmarked x s f = s f && not (marks x (subject f))
