-- A function over variables: its parameters and results, the kinds of its variables, and its body.
use Rattle.std.specs.Prelude.{◌≡◌, ◌<◌, ℕ, List, [], ◌∷◌, map, length, slice_index_or, Option, Some, None}
use Rattle.jz_words.specs.declared.size.Size.{Size}
use Rattle.jz_words.specs.Memory.{Memory}
use Rattle.x64_insn.specs.declared.types.Reg.{Reg}
use Rattle.x64_insn.specs.declared.types.FlagVal.{FlagVal}
use Rattle.x64_insn.specs.declared.types.FlagVal.TheVariants.{Undefined}
use Rattle.jz_tree.specs.declared.expr.Var.{Var}
use Rattle.jz_tree.specs.declared.program.Fun.{Fun}
use Rattle.jz_tree.specs.declared.program.Param.{Param}
use Rattle.jz_ir.specs.declared.code.Kind.{Kind}
use Rattle.jz_ir.specs.declared.code.Kind.TheVariants.{Word, Flag}
use Rattle.jz_meaning.specs.States as source
use Rattle.jz_meaning.specs.Values.{key_of, ref_of}
use Rattle.jz_meaning.specs.Statements.{Block}
use Rattle.jz_operations.specs.Values.{Value, word, set_var, State}
use Rattle.jz_change.specs.Changes.{Change}
use Rattle.jz_place.specs.declared.tree.Ir.{Ir}
use Rattle.jz_place.specs.declared.tree.Passed.{Passed}
use Rattle.jz_place.specs.Bodies.{body_of}
use Rattle.jz_homes.specs.Homes.{Home, Homes, in_register, in_flag}
use Rattle.jz_every_row.specs.Bodies.{IsLowered}

-- ---- parameters and results
-- each variable is passed in the next register, where the text names it
pub data ArePassed (home : Homes) : List Reg → List Var → List Passed → Type 0 where
  none_passed : {rs : List Reg} → ArePassed home rs [] []
  one_passed :
      {r : Reg} {rs : List Reg} {x : Var} {xs : List Var} {p : Passed} {ps : List Passed}
      (z : Size)
      → home (key_of (ref_of x)) ≡ Some (in_register p.variable.variable z)
      → p.variable.span ≡ (ref_of x).span → p.reg ≡ r → ArePassed home rs xs ps
      → ArePassed home (r ∷ rs) (x ∷ xs) (p ∷ ps)

-- ---- the entry
abbrev pub with_parameter : Option Home → source.Value → (ℕ → Option Value) → ℕ → Option Value
with_parameter (Some (in_register n z)) (source.word y a) vars = set_var n (Some (word y a)) vars
with_parameter _ v vars = vars

abbrev pub with_parameters : Homes → List Param → List source.Value → (ℕ → Option Value)
    → ℕ → Option Value
with_parameters home (p ∷ ps) (v ∷ vs) vars =
    with_parameters home ps vs (with_parameter (home (key_of (ref_of p.var))) v vars)
with_parameters home _ _ vars = vars

abbrev pub no_flags : List FlagVal
no_flags = Undefined ∷ Undefined ∷ Undefined ∷ Undefined ∷ Undefined ∷ []

-- the parameters have their words, and nothing else has a value
abbrev pub entry_of : Homes → List Param → List source.Value → Memory → State
entry_of home params words memory = record {
  vars = with_parameters home params words (λ v. None);
  left = λ r. None;
  flags = no_flags;
  cells = λ v i. None;
  memory = memory;
}

-- ---- the kinds of variables
pub record AreKinds (home : Homes) (kinds : List Kind) : Type 0 where
  pub words : (k : source.Key) (n : ℕ) (z : Size) → home k ≡ Some (in_register n z)
      → (n < length kinds) × (slice_index_or kinds n Word ≡ Word)
  pub flags : (k : source.Key) (n : ℕ) → home k ≡ Some (in_flag n)
      → (n < length kinds) × (slice_index_or kinds n Word ≡ Flag)

-- ---- functions
-- by the registers of arguments and those of results
pub record IsLoweredFun (home : Homes) (arguments results : List Reg) (f : Fun) (b : Block)
    (ir : Ir) (k : Change) : Type 0 where
  pub entry : ArePassed home arguments (map (λ p. p.var) f.params) ir.entry
  pub body : IsLowered home b (body_of ir.body) k
  pub returned : ArePassed home results f.result ir.results
  pub kinds : AreKinds home ir.kinds
