-- What a function over variables has of the text: the sizes of its words, and its stack variables.
use Rattle.std.specs.Prelude.{◌≡◌, ℕ, [], map, Contains, All, Some, None}
use Rattle.jz_words.specs.declared.size.Size.{Size}
use Rattle.jz_tree.specs.declared.expr.Var.{Var}
use Rattle.jz_tree.specs.declared.program.Fun.{Fun}
use Rattle.jz_tree.specs.declared.program.Param.{Param}
use Rattle.jz_tree.specs.declared.program.Program.{Program}
use Rattle.jz_type_names.specs.Scopes.{variables_of}
use Rattle.jz_meaning.specs.declared.access.Kind.TheVariants as kind
use Rattle.jz_meaning.specs.Values.{key_of, ref_of}
use Rattle.jz_operations.specs.declared.operation.Stacked.{Stacked}
use Rattle.jz_homes.specs.Homes.{Homes, in_register}
use Rattle.jz_declared.specs.Declared.{Differ, AreDeclared, held_of, kept_of, kept_for, stack_of}
use Rattle.jz_inlining.specs.Inlined.{inlined_function}
use Rattle.jz_unrolling.specs.Unrolled.{KeepsHead}
use Rattle.jz_scalars.specs.Functions.{function_with_scalars}
use Rattle.jz_compiled.specs.Layout.{StackVariable, stack_variables_of}

-- ---- words
-- x is this variable of the function, where it is used, and no cell
pub record IsUseOf (y x : Var) : Type 0 where
  pub name : (ref_of x).name ≡ (ref_of y).name
  pub copy : (ref_of x).copy ≡ (ref_of y).copy
  pub kind : (ref_of x).kind ≡ (ref_of y).kind
  pub whole : (ref_of x).cell ≡ None

-- of a function whose variables differ one that is in a variable of operations is a word, of that
-- size
abbrev pub WordsHaveTheirSizes : Type 0
WordsHaveTheirSizes =
    (g : Fun) (home : Homes) → Differ (variables_of g) → AreDeclared (held_of g) (kept_of g) home
    → (y x : Var) → Contains (variables_of g) y → IsUseOf y x
    → (n : ℕ) (z : Size) → home (key_of (ref_of x)) ≡ Some (in_register n z)
    → (ref_of x).kind ≡ kind.Word z

-- ---- stack variables
abbrev pub stacked_as : StackVariable → Stacked
stacked_as v = record { size = v.cell; count = v.count }

-- a parameter that is not in the frame
abbrev pub IsUnstacked : Param → Type 0
IsUnstacked q = kept_for q.var ≡ []

-- what is left of a function of a program without calls, `for` and register arrays has the stack
-- variables of the text, in their order
abbrev pub StackIsOfTheText : Type 0
StackIsOfTheText =
    (p : Program) (f u : Fun) → KeepsHead (inlined_function p f) u
    → Differ (variables_of (inlined_function p f)) → All IsUnstacked f.params
    → stack_of (function_with_scalars u) ≡ map stacked_as (stack_variables_of p f)
