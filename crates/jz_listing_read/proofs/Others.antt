-- A line that is not the one of its place.
use Rattle.std.proofs.Common.{◌≡◌, ℕ, List, None, refl, ap, ◌∙◌}
use Rattle.jz_listing.specs.declared.compiled.Compiled.{Compiled}
use Rattle.jz_listing_lines.specs.declared.line.Line.{Line}
use Rattle.jz_listing_lines.specs.declared.line.Line.TheVariants as line
use Rattle.jz_listing_read.specs.declared.state.Stage.{Stage}
use Rattle.jz_listing_read.specs.declared.state.Stage.TheVariants as stage
use Rattle.jz_listing_read.specs.InnerStates.{machine}

not_code : (done : List Compiled) (fun : Compiled) (l : Line) → ((code : List ℕ) → l ≡ line.Code code → ⊥) → machine stage.Code done fun l ≡ None
unfolding machine
not_code done fun (line.Code code) h = absurd (h code refl)
not_code done fun l h = refl

pub no_code : (s : Stage) (done : List Compiled) (fun : Compiled) (l : Line) → s ≡ stage.Code → ((code : List ℕ) → l ≡ line.Code code → ⊥) → machine s done fun l ≡ None
no_code s done fun l e h = ap (λ z. machine z done fun l) e ∙ not_code done fun l h
