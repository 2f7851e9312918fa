-- Why a function of a text is not run: the table of causes.
use Rattle.std.specs.Prelude.{◌≡◌, ◌<◌, ℕ, List, length, Some, None}
use Rattle.jz_tree.specs.declared.program.Fun.{Fun}
use Rattle.jz_tree.specs.declared.program.Program.{Program}
use Rattle.jz_annotations.specs.declared.precondition.Pre.{Pre}
use Rattle.jz_items.specs.declared.item.Item.{Item}
use Rattle.jasminc_source.specs.declared.limits.FunLimit.{FunLimit}
use Rattle.jasminc_interp.specs.declared.refused.Refused.{Refused}
use Rattle.jasminc_interp.specs.declared.refused.Refused.TheVariants.{Unread}
use Rattle.jasminc_interp.specs.declared.refused.Refused.TheVariants.{NoFunction, Limit, Items, Unmet}
use Rattle.jasminc_source.specs.Texts.{TypesAs}
use Rattle.jasminc_source.specs.Unreadable.{IsUnread, unread_stage}
use Rattle.jasminc_calls.specs.Calls.{BreaksFirst}
use Rattle.jasminc_source.specs.Exports.{export_named, HasLimit}

-- no export function of the text's program has the name
pub record HasNoExport (text fun name : List ℕ) : Type 0 where
  pub program : Program
  pub types : TypesAs text program
  pub none : export_named fun program.funs ≡ None
  pub named : name ≡ fun

-- an export function of the text's program passes a limit, and the first that does passes this one
pub record PassesLimit (text : List ℕ) (l : FunLimit) : Type 0 where
  pub program : Program
  pub types : TypesAs text program
  pub limit : HasLimit program l

-- the function has another number of parameters than there are items
pub record HasOtherItems (text fun : List ℕ) (items : List Item) : Type 0 where
  pub program : Program
  pub types : TypesAs text program
  pub function : Fun
  pub found : export_named fun program.funs ≡ Some function
  pub differ : length items ≡ length function.params → ⊥

-- there are as many items as parameters, and this is the first precondition that does not hold
pub record BreaksPrecondition (text fun : List ℕ) (items : List Item) (pre : Pre) : Type 0 where
  pub program : Program
  pub types : TypesAs text program
  pub function : Fun
  pub found : export_named fun program.funs ≡ Some function
  pub many : length items ≡ length function.params
  pub breaks : BreaksFirst function items pre

abbrev pub Cause : List ℕ → List ℕ → List Item → Refused → Type 0
Cause text fun items (Unread u) = IsUnread text u
Cause text fun items (NoFunction name) = HasNoExport text fun name
Cause text fun items (Limit l) = PassesLimit text l
Cause text fun items Items = HasOtherItems text fun items
Cause text fun items (Unmet pre) = BreaksPrecondition text fun items pre

-- the stages in their order, by their numbers among those of all commands: reading, function name,
-- limits, the number of items, preconditions
abbrev pub stage_of : Refused → ℕ
stage_of (Unread u) = unread_stage u
stage_of (NoFunction name) = 5
stage_of (Limit l) = 6
stage_of Items = 10
stage_of (Unmet pre) = 11

-- no stage before this one has a cause
abbrev pub Clear : List ℕ → List ℕ → List Item → ℕ → Type 0
Clear text fun items stage =
    (r : Refused) → stage_of r < stage → Cause text fun items r → ⊥

-- the first cause
pub record IsFirstCause (text fun : List ℕ) (items : List Item) (r : Refused) : Type 0 where
  pub cause : Cause text fun items r
  pub first : Clear text fun items (stage_of r)
