-- A subcommand added.
use Rattle.std.proofs.Common.{◌≡◌, ◌||◌, ◌∙◌, ap, ap₂, refl, List, [], ◌∷◌, Option, None}
use Rattle.jasminc_words.specs.Wanted.{none_or}
use Rattle.clap.specs.Words.{App, AddsSubcommand, with_subcommand}
use Rattle.clap.specs.declared.builder.command.Command.{Command}
use Rattle.jasminc_words.specs.Commands.{IsCommand}

pub adds : (a b : App) (old sub new : Command) → IsCommand a old → IsCommand b sub → AddsSubcommand old sub new
    → IsCommand (with_subcommand a b.top) new
adds a b old sub new o s h = record {
  app_is = h.shape s.local ∙ ap₂ with_subcommand o.app_is (ap (λ (x : App). x.top) s.app_is);
  local = h.globals ∙ ap₂ (λ x y. x || y) o.local s.local;
}

-- where no step fails, the values are read
pub none_or_empty : {X Y : Type 0} (xs : List X) (y : Option Y) → xs ≡ [] → none_or xs y ≡ y
none_or_empty [] y h = refl
none_or_empty (x ∷ xs) y h = cc

-- and else there are none
pub none_or_some : {X Y : Type 0} (xs : List X) (y : Option Y) → (xs ≡ [] → ⊥) → none_or xs y ≡ None
none_or_some [] y h = absurd (h refl)
none_or_some (x ∷ xs) y h = refl
