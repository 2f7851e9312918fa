-- The variables of a function as the program declares them.
use Rattle.std.specs.Prelude.{◌==◌, Bool, true, false, not, ◌&&◌, List, ◌++◌, map, filter}
use Rattle.std.specs.List.{list_any}
use Rattle.jz_tree.specs.declared.expr.Var.{Var}
use Rattle.jz_tree.specs.declared.program.Fun.{Fun}
use Rattle.jz_tree.specs.declared.program.Program.{Program}
use Rattle.jz_type_names.specs.Scopes.{variables_of}
use Rattle.jz_type_names.specs.Kinds.{same_size}
use Rattle.jz_run_laws.specs.Callees.{names_set, is_written}
use Rattle.jz_run_laws.specs.Carried.{declared_in}
use Rattle.jz_meaning.specs.declared.access.Kind.{Kind}
use Rattle.jz_meaning.specs.declared.access.Kind.TheVariants as kind
use Rattle.jz_meaning.specs.States.{same_key}
use Rattle.jz_meaning.specs.Values.{Ref, key_of, ref_of}
use Rattle.jz_run_laws.specs.Kinds.{sorts_of}
use Rattle.jz_run_laws.specs.DeclaredKinds.{kinds_of}
use Rattle.jz_bodies.specs.Scopes.{Scope}
use Rattle.jz_bodies.specs.Calls.{is_array}

-- ---- one variable at two places of the text
abbrev pub same_kind : Kind → Kind → Bool
same_kind kind.Undeclared kind.Undeclared = true
same_kind kind.Int kind.Int = true
same_kind kind.Bool kind.Bool = true
same_kind (kind.Word y) (kind.Word z) = same_size y z
same_kind (kind.Array y n) (kind.Array z m) = same_size y z && (n == m)
same_kind _ _ = false

abbrev pub is_one : Ref → Ref → Bool
is_one r q = same_key (key_of r) (key_of q) && same_kind r.kind q.kind

abbrev pub is_among : Ref → List Var → Bool
is_among r vs = list_any (λ v. is_one r (ref_of v)) vs

-- ---- functions
-- the arrays that a function has as parameters and sets
abbrev pub arrays_set : Fun → List Var
arrays_set f = map (λ p. p.var) (filter (is_written (names_set f)) f.params)

-- the parameters and variables of a function are what it has; it may set them all, but of arrays
-- that are parameters only those that it sets
abbrev pub scopes_in : Program → Fun → Scope
scopes_in q f = record {
  sorts = sorts_of (kinds_of (declared_in q f));
  has_scalar = λ r. not (is_array r.kind) && is_among r (variables_of f);
  has_array = λ r. is_array r.kind && is_among r (variables_of f);
  sets_scalar = λ r. not (is_array r.kind) && is_among r (variables_of f);
  sets_array = λ r. is_array r.kind && is_among r (arrays_set f ++ f.vars);
}
