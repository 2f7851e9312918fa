-- What is given of a function by its parameters and preconditions.
use Rattle.std.specs.Prelude.{ℕ, List, [], ◌∷◌, map, Option, Some, None, option_map}
use Rattle.x64_insn.specs.Size.{Size}
use Rattle.x64_insn.specs.Size.TheVariants.{S64}
use Rattle.jz_tree.specs.declared.expr.Var.{Var}
use Rattle.jz_tree.specs.declared.program.Param.{Param}
use Rattle.jz_type_names.specs.Scopes.{variable_named, text_of_param}
use Rattle.jz_annotations.specs.declared.precondition.Pre.{Pre}
use Rattle.jz_annotations.specs.declared.precondition.Pre.TheVariants as pre
use Rattle.jz_preconditions.specs.Bounds.{range_of, multiple_of}
use Rattle.jz_meaning.specs.declared.access.Kind.{Kind}
use Rattle.jz_meaning.specs.declared.access.Kind.TheVariants as kind
use Rattle.jz_meaning.specs.Values.{ref_of}
use Rattle.jz_fact_sets.specs.declared.given.Parameter.{Parameter}
use Rattle.jz_fact_sets.specs.declared.given.Region.{Region}
use Rattle.jz_given.specs.Ranges.{interval_of}

-- of a word its own
abbrev pub size_of : Kind → Size
size_of (kind.Word z) = z
size_of k = S64

abbrev pub param_of : List Pre → Param → Parameter
param_of ps p = record {
  var = p.var;
  size = size_of (ref_of p.var).kind;
  range = option_map interval_of (range_of ps (text_of_param p));
  align = multiple_of ps (text_of_param p);
}

abbrev pub variables : List Param → List Var
variables ps = map (λ p. p.var) ps

abbrev pub named_if : Option (List ℕ) → List Var → Option Var
named_if None vs = None
named_if (Some n) vs = variable_named n vs

-- from a parameter that there is
abbrev pub region_from : Option Var → ℕ → Option Var → ℕ → List Region
region_from None factor by constant = []
region_from (Some x) factor by constant = record { of = x; times = factor; by = by; plus = constant } ∷ []

abbrev pub region_of : List Var → Pre → List Region
region_of vs (pre.Region p factor v constant) =
    region_from (variable_named p vs) factor (named_if v vs) constant
region_of vs p = []
