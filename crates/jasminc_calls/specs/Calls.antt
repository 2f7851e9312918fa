-- Items as arguments of the functions of a program, and what these ask of them.
use Rattle.std.specs.Prelude.{◌≡◌, ℕ, ◌%◌, true, List, map, All, Contains}
use Rattle.std.specs.List.{zip}
use Rattle.jz_tree.specs.Size.TheVariants as sizes
use Rattle.jz_tree.specs.Sizes.{modulus}
use Rattle.jz_tree.specs.declared.program.Fun.{Fun}
use Rattle.jz_tree.specs.declared.program.Param.{Param}
use Rattle.jz_tree.specs.declared.program.Program.{Program}
use Rattle.jz_type_rows.specs.Exports.{is_exported}
use Rattle.jz_types.specs.TypedPrograms.{IsTypedProgram}
use Rattle.jz_annotations.specs.declared.precondition.Pre.{Pre}
use Rattle.jz_preconditions.specs.Stating.{preconditions_of}
use Rattle.jz_items.specs.declared.item.Item.{Item}
use Rattle.jz_items.specs.Items.{words_of}
use Rattle.jz_inputs.specs.Held.{IsHeld, IsFirstUnmet}
use Rattle.jz_meaning.specs.declared.access.Kind.{Kind}
use Rattle.jz_meaning.specs.declared.access.Kind.TheVariants as kind
use Rattle.jz_meaning.specs.States.{Value, word}
use Rattle.jz_meaning.specs.Values.{ref_of}

-- an export function of a typed program
pub record IsTypedExport (p : Program) (f : Fun) : Type 0 where
  pub typed : IsTypedProgram p
  pub among : Contains p.funs f
  pub exported : is_exported f.kind ≡ true

-- ---- arguments
-- the argument that an item's word is: as many of its low bits as the parameter has; a parameter of
-- an export function is a word
abbrev pub argument : Kind → ℕ → Value
argument (kind.Word z) n = word z (n % modulus z)
argument k n = word sizes.S64 (n % modulus sizes.S64)

abbrev pub argument_values : List Param → List ℕ → List Value
argument_values params words = map (λ p. argument (ref_of p.0.var).kind p.1) (zip params words)

-- its bits
abbrev pub bits_of : Value → ℕ
bits_of (word z a) = a
bits_of v = 0

-- the argument words that items are
abbrev pub argument_words : Fun → List Item → List ℕ
argument_words f items = map bits_of (argument_values f.params (words_of items))

-- ---- preconditions
-- each precondition of a function holds of items
abbrev pub AllHold : Fun → List Item → Type 0
AllHold f items = All (IsHeld f (argument_words f items) items) (preconditions_of f)

-- this one does not, and those before it do
pub record BreaksFirst (f : Fun) (items : List Item) (pre : Pre) : Type 0 where
  pub place : ℕ
  pub first : IsFirstUnmet f (argument_words f items) items (preconditions_of f) place
  pub is : first.pre ≡ pre
