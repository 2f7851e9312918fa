use Rattle.std.proofs.Common.{refl, ℕ, List, ◌<◌, ◌≡◌, true, length, subst, sym}
use Rattle.jz_secrets.specs.Graphs.{arrows_of}
use Rattle.jz_secrets.specs.InnerGraphs.{has, row_at, AreReached}
use Rattle.jz_secrets.proofs.Fewest.{fewest_of}
use Rattle.jz_secrets.proofs.secrets.secrets_of.Goals as goal

pub reached-requires-clause-start : goal.reached-requires-clause-start
reached-requires-clause-start c =
    subst (λ (rs : List (List ℕ)). c.in_ok-graph.graph.count < length rs) (sym c.as_slice.ensures.value) c.in_ok-graph.ensures.graph.fine.long

pub reached-requires-clause-within : goal.reached-requires-clause-within
reached-requires-clause-within c =
    subst (λ (rs : List (List ℕ)). (u v : ℕ) → has (row_at rs u) v ≡ true → v < length rs) (sym c.as_slice.ensures.value) (λ u v h. (c.in_ok-graph.ensures.graph.only u v h).4)

pub returns : goal.returns
returns c =
    let g = c.in_ok-graph.graph in
    let reach = subst (λ (rs : List (List ℕ)). AreReached rs g.count c.in_ok-marked.marked.items) c.as_slice.ensures.value c.in_ok-marked.ensures in
    fewest_of c.args.count (arrows_of c.args.edges.now) g c.in_ok-graph.ensures.count c.in_ok-graph.ensures.graph c.requires.below c.requires.some c.in_ok-marked.marked.items reach (record { marked = c.in_ok-marked.marked; arrays = g.arrays }) refl (λ k. refl)
