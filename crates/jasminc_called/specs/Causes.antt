-- Why a function of a text is not called: the table of causes.
use Rattle.std.specs.Prelude.{◌<◌, ℕ, List}
use Rattle.jz_items.specs.declared.item.Item.{Item}
use Rattle.jasminc_interp.specs.Causes.{HasNoExport, HasOtherItems, BreaksPrecondition}
use Rattle.jasminc_compile.specs.Causes as makings
use Rattle.jasminc_called.specs.declared.refused.Refused.{Refused}
use Rattle.jasminc_called.specs.declared.refused.Refused.TheVariants.{Compile, NoFunction}
use Rattle.jasminc_called.specs.declared.refused.Refused.TheVariants.{Items, Unmet}

abbrev pub Cause : List ℕ → List ℕ → List Item → Refused → Type 0
Cause text fun items (Compile r) = makings.Cause text r
Cause text fun items (NoFunction name) = HasNoExport text fun name
Cause text fun items Items = HasOtherItems text fun items
Cause text fun items (Unmet pre) = BreaksPrecondition text fun items pre

-- the stages in their order: those of compiling, with the function's name behind reading; then the
-- number of items, preconditions
abbrev pub stage_of : Refused → ℕ
stage_of (Compile r) = makings.stage_of r
stage_of (NoFunction name) = 5
stage_of Items = 10
stage_of (Unmet pre) = 11

-- no stage before this one has a cause
abbrev pub Clear : List ℕ → List ℕ → List Item → ℕ → Type 0
Clear text fun items stage =
    (r : Refused) → stage_of r < stage → Cause text fun items r → ⊥

-- the first cause
pub record IsFirstCause (text fun : List ℕ) (items : List Item) (r : Refused) : Type 0 where
  pub cause : Cause text fun items r
  pub first : Clear text fun items (stage_of r)
