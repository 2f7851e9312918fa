use Rattle.std.proofs.Common.{◌≡◌, ℕ, Bool, map, drop}
use Rattle.jz_labels.specs.Labels.{Publics}
use Rattle.jz_secrets.specs.Graphs.{array, drawn}
use Rattle.jz_secrets.specs.Kept.{public_by}
use Rattle.jz_drawing.specs.Drawings.{first_asked}
use Rattle.jz_drawn_labels.specs.Kept.{asked_of}
use Rattle.jz_breaches.proofs.breach.first_asked.Given as goal

abbrev pub invariant-loop-ask : goal.invariant-loop-ask
invariant-loop-ask l =
    let a : Publics = λ k. public_by l.secrets (array k) in
    let t : ℕ → Bool = λ i. public_by l.secrets (drawn i) in
    first_asked a t (map asked_of l.asked) ≡ first_asked a t (map asked_of (drop l.ask-index l.asked))
