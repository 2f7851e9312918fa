use Rattle.std.proofs.Common.{sym, subst, length}
use Rattle.jz_type_storage.specs.declared.recursion.Ranking.TheVariants.{Ranked}
use Rattle.jz_type_storage.specs.InnerNumbers.{Descends}
use Rattle.jz_type_storage.specs.InnerCandidates.{IsCandidate}
use Rattle.jz_type_storage.specs.Recursion.{Tells}
use Rattle.jz_type_storage.proofs.Ranked.{level_tells}
use Rattle.jz_type_storage.proofs.Steep.{none_sooner}
use Rattle.jz_type_storage.proofs.recursion.find_recursion.Goals as goal

pub returns-in-None : goal.returns-in-None
returns-in-None c =
    let p = c.args.program.now in
    let g = c.in_ok-graph.graph in
    let ranks = c.in_ok-ranks.ranks.items in
    let d : Descends g ranks = subst (Descends g) c.as_slice.ensures.value (c.descends.ensures c.if-not-descends.false) in
    let held : IsCandidate g p.funs ranks (length p.funs) c.first_level.result =
    subst (λ ns. IsCandidate g p.funs ns (length p.funs) c.first_level.result) c.as_slice-2.ensures.value c.first_level.ensures in
    subst (λ ns. Tells p (Ranked ns)) (sym c.from_vec.ensures) (level_tells p g ranks c.first_level.result c.in_ok-graph.ensures c.in-None.is d held)

pub ask_first-requires-clause-least : goal.ask_first-requires-clause-least
ask_first-requires-clause-least c =
    let p = c.args.program.now in
    let g = c.in_ok-graph.graph in
    let ranks = c.in_ok-ranks.ranks.items in
    let d : Descends g ranks = subst (Descends g) c.as_slice.ensures.value (c.descends.ensures c.if-not-descends.false) in
    let held : IsCandidate g p.funs ranks (length p.funs) c.first_level.result =
    subst (λ ns. IsCandidate g p.funs ns (length p.funs) c.first_level.result) c.as_slice-2.ensures.value c.first_level.ensures in
    none_sooner p g ranks c.first_level.result c.in-Some.first c.in_ok-graph.ensures c.in-Some.is d held
