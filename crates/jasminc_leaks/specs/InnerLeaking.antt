-- What the function at a place shows, in parts.
use Rattle.std.specs.Prelude.{◌<◌, ◌^◌, ℕ, List, length}
use Rattle.jz_tree.specs.declared.program.Program.{Program}
use Rattle.jz_items.specs.declared.item.Item.{Item}
use Rattle.jz_leak.specs.declared.transformer.Transformer.{Transformer}
use Rattle.jz_leak.specs.Shown.{ShowsFitting}
use Rattle.jz_interp.specs.declared.outcome.Outcome.{Outcome}
use Rattle.jz_interp.specs.declared.outcome.Outcome.TheVariants as outcome
use Rattle.jz_listing.specs.declared.compiled.Compiled.{Compiled}
use Rattle.jasminc_calls.specs.declared.calls.Called.{Called}
use Rattle.jasminc_calls.specs.Fitting.{Suits}
use Rattle.jz_items.specs.Items.{AreItems}
use Rattle.jasminc_leaks.specs.Leaking.{IsRunnableAt}

-- the source is not stuck, and what it leaked fits the transformer
abbrev pub LeaksFitting : Transformer → Outcome → Type 0
LeaksFitting tr (outcome.End words memory leak) = ShowsFitting tr leak
LeaksFitting tr (outcome.Cut leak) = ShowsFitting tr leak
LeaksFitting tr (outcome.Stuck k) = ⊥

-- the compiled function at that place is run on this, by items
pub record IsReady (p : Program) (place : ℕ) (c : Compiled) (items : List Item) (d : Called) :
    Type 0 where
  pub at : IsRunnableAt p place c
  pub given : AreItems items
  pub short : length c.code < 2 ^ 63
  pub suits : Suits at.function items d
