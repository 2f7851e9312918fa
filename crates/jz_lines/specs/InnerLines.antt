-- Lines of parameters and results as they are added.
use Rattle.std.specs.Prelude.{◌≡◌, ℕ, List, [], ◌∷◌, ◌++◌, length, slice_get, Option, Some, None}
use Rattle.jz_words.specs.declared.size.Size.{Size}
use Rattle.x64_insn.specs.declared.types.Reg.{Reg}
use Rattle.jz_tree.specs.declared.program.Ret.{Ret}
use Rattle.jz_meaning.specs.declared.access.Kind.{Kind}
use Rattle.jz_meaning.specs.declared.access.Kind.TheVariants as kind
use Rattle.jz_meaning.specs.Values.{declared_kind}
use Rattle.jz_listing.specs.declared.compiled.Arg.{Arg}

-- the size of a word
abbrev pub word_size : Kind → Option Size
word_size (kind.Word z) = Some z
word_size kind.Undeclared = None
word_size kind.Int = None
word_size kind.Bool = None
word_size (kind.Array z n) = None

-- that of a declared result
abbrev pub result_word : Option Ret → Option Size
result_word None = None
result_word (Some t) = word_size (declared_kind t.decl)

-- one line more: a word of this name, in the next register
pub record AddsLine (rs : List Reg) (name : List ℕ) (word : Option Size) (old new : List Arg)
    : Type 0 where
  pub reg : Reg
  pub size : Size
  pub next : slice_get rs (length old) ≡ Some reg
  pub is : word ≡ Some size
  pub added : new ≡ old ++ (record { name = name; size = size; reg = reg }) ∷ []

-- there is no register for the next, or it is no word
abbrev pub HasNoLine : List Reg → Option Size → ℕ → Type 0
HasNoLine rs word n = (r : Reg) (z : Size) → slice_get rs n ≡ Some r → word ≡ Some z → ⊥
