-- What holds of items that name variables.
use Rattle.std.specs.Prelude.{ℕ, List}
use Rattle.jz_runs.specs.Trees.{done}
use Rattle.jz_meaning.specs.Statements.{Block}
use Rattle.jz_change.specs.Changes.{Change}
use Rattle.jz_change.specs.Composing.{compose_of}
use Rattle.jz_pass.specs.Copying.{inlined, inlining}
use Rattle.jz_inline.specs.Names.{Names}
use Rattle.jz_inline.specs.Calls.{inline_calls}
use Rattle.jz_compiled.specs.Layout.{Name}
use Rattle.jz_case_names.specs.Items.{Items, items_of, IsBetween}
use Rattle.jz_item_names.specs.Names.{plain, named_items, NamesOf}

-- one change and then another name what the first item names
abbrev pub NamesAreComposed : Type 0
NamesAreComposed =
    (X Y Z : Items (List Name)) (s t : Change)
    → IsBetween NamesOf X Y s → IsBetween NamesOf Y Z t → IsBetween NamesOf X Z (compose_of s t)

-- statements in a copy of a body name what they name, and the copies of a call's arguments and
-- results what the call does
abbrev pub CopiesNameTheSame : Type 0
CopiesNameTheSame =
    (b : Block) (named : Names) (c : ℕ)
    → IsBetween NamesOf (named_items named c b) (items_of plain (inlined inline_calls named c b done))
    (inlining inline_calls named c b)
