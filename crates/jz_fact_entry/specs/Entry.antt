-- What is known of a function's input: the words of its parameters, and what is given of it.
use Rattle.std.specs.Prelude.{◌≡◌, ◌<◌, ℕ, List, [], ◌∷◌, map, flat_map, Option, Some, ⊤}
use Rattle.x64_insn.specs.Size.{Size}
use Rattle.x64_insn.specs.Sizes.{modulus}
use Rattle.jz_tree.specs.declared.program.Fun.{Fun}
use Rattle.jz_tree.specs.declared.program.Param.{Param}
use Rattle.jz_type_names.specs.Scopes.{text_of_param}
use Rattle.jz_preconditions.specs.Stating.{preconditions_of}
use Rattle.jz_meaning.specs.declared.access.Kind.TheVariants as kind
use Rattle.jz_meaning.specs.States.{Value, word, Key, Store}
use Rattle.jz_meaning.specs.Values.{ref_of}
use Rattle.jz_fact_sets.specs.declared.given.Given.{Given}
use Rattle.jz_given.specs.Giving.{param_of, variables, region_of}

-- ---- what the parameters were

-- a word as a number, and 0 where there is none
abbrev pub number_of : Option Value → ℕ
number_of (Some (word z n)) = n
number_of v = 0

abbrev pub entry_of : Store → Key → ℕ
entry_of store k = number_of (store k)

-- the value of each parameter is the word, one of its size
abbrev pub AreWords : List Param → List ℕ → List Value → Type 0
AreWords [] [] [] = ⊤
AreWords (p ∷ ps) (w ∷ ws) (v ∷ vs) =
    ((z : Size) × ((ref_of p.var).kind ≡ kind.Word z) × (v ≡ word z w) × (w < modulus z))
    × AreWords ps ws vs
AreWords ps ws vs = ⊥

-- no other has its name
abbrev pub IsOther : Param → List Param → Type 0
IsOther p [] = ⊤
IsOther p (q ∷ qs) = (text_of_param p ≡ text_of_param q → ⊥) × IsOther p qs

abbrev pub DifferByName : List Param → Type 0
DifferByName [] = ⊤
DifferByName (p ∷ ps) = IsOther p ps × DifferByName ps

-- ---- what is given of the function by its preconditions, whatever the constants are
pub record IsGivenOf (f : Fun) (g : Given) : Type 0 where
  pub params : g.params ≡ map (param_of (preconditions_of f)) f.params
  pub regions : g.regions ≡ flat_map (region_of (variables f.params)) (preconditions_of f)
