use Rattle.std.proofs.Common.{ap, ◌∙◌}
use Rattle.std.proofs.lemmas.Option.{MatchOption-at_none, MatchOption-at_some}
use Rattle.jz_types.specs.InnerFaults.{first_told}
use Rattle.jz_types.specs.Rules.{IsTyped, IsFirstTypeFault}
use Rattle.jz_types.proofs.Judging.{judged, ranked, not_recursive}
use Rattle.jz_types.proofs.checking.check.Goals as goal

pub returns-in-Ranked-clause-typed : goal.returns-in-Ranked-clause-typed
returns-in-Ranked-clause-typed c =
    let p = c.args.program in
    MatchOption-at_none (IsTyped p) (IsFirstTypeFault p) c.in-None.is
    (judged c.args.program c.in_ok-program.program c.in_ok-text.text c.in_ok-declared.declared c.in_ok-ranking.ranking c.first_told-told.result c.in_ok-program.ensures c.in_ok-text.ensures c.in_ok-declared.ensures c.in_ok-ranking.ensures (c.first_told-told.ensures ∙ ap first_told c.firsts.ensures))

pub returns-in-Some-clause-fault : goal.returns-in-Some-clause-fault
returns-in-Some-clause-fault c =
    let p = c.args.program in
    MatchOption-at_some (IsTyped p) (IsFirstTypeFault p) c.in-Some.fault c.in-Some.is
    (judged c.args.program c.in_ok-program.program c.in_ok-text.text c.in_ok-declared.declared c.in_ok-ranking.ranking c.first_told-told.result c.in_ok-program.ensures c.in_ok-text.ensures c.in_ok-declared.ensures c.in_ok-ranking.ensures (c.first_told-told.ensures ∙ ap first_told c.firsts.ensures))

pub unreachable-requires : goal.unreachable-requires
unreachable-requires c =
    let p = c.args.program in
    let typed : IsTyped p = MatchOption-at_none (IsTyped p) (IsFirstTypeFault p) c.in-None.is
    (judged c.args.program c.in_ok-program.program c.in_ok-text.text c.in_ok-declared.declared c.in_ok-ranking.ranking c.first_told-told.result c.in_ok-program.ensures c.in_ok-text.ensures c.in_ok-declared.ensures c.in_ok-ranking.ensures (c.first_told-told.ensures ∙ ap first_told c.firsts.ensures)) in
    not_recursive p c.in_ok-program.program c.in_ok-ranking.ranking c.in-Recursive.field-0 c.in_ok-program.ensures typed c.in_ok-ranking.ensures c.in-Recursive.is

pub invariant_of-result : goal.invariant_of-result
invariant_of-result c =
    let p = c.args.program in
    let typed : IsTyped p = MatchOption-at_none (IsTyped p) (IsFirstTypeFault p) c.in-None.is
    (judged c.args.program c.in_ok-program.program c.in_ok-text.text c.in_ok-declared.declared c.in_ok-ranking.ranking c.first_told-told.result c.in_ok-program.ensures c.in_ok-text.ensures c.in_ok-declared.ensures c.in_ok-ranking.ensures (c.first_told-told.ensures ∙ ap first_told c.firsts.ensures)) in
    record {
      typed = ∣ record { source = p; typed = typed; same = c.in_ok-program.ensures } ∣₁;
      ranked = ranked c.in_ok-program.program c.in_ok-ranking.ranking c.in-Ranked.ranks c.in_ok-ranking.ensures c.in-Ranked.is;
    }
