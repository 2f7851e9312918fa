use Rattle.std.proofs.Common.{sym, ◌∙◌, subst}
use Rattle.jz_fact_sets.specs.Kept.{given_of, facts_of}
use Rattle.jz_facts.specs.Facts.{at_entry}
use Rattle.jz_block_facts.specs.Heads.{plain_block, AreHeads}
use Rattle.jz_block_facts.proofs.LaidFacts.{facts_seen}
use Rattle.jz_asked.specs.Asked.{alarm_of}
use Rattle.jz_first_alarm.proofs.Stepping.{handed_on}
use Rattle.jz_first_alarm.proofs.Whole.{none_left, one_left, whole, stopped}
use Rattle.jz_first_alarm.proofs.bodies.ask_function.Goals as goal

pub ask_block-requires : goal.ask_block-requires
ask_block-requires c =
    let g = c.args.given.now in record {
      different = c.requires.different;
      words = c.requires.words;
      heads = subst (λ us. AreHeads g (plain_block c.args.fun.now.body) 0 us (facts_of g c.heads_of.new.set)) (sym c.as_slice.ensures.value)
          (subst (AreHeads g (plain_block c.args.fun.now.body) 0 c.in_ok-heads.heads.items) (sym (facts_seen g c.in_ok-set.set c.heads_of.new.set c.in_ok-heads.ensures.seen)) c.in_ok-heads.ensures.heads);
    }

pub returns-in_err-ask_block-clause-some : goal.returns-in_err-ask_block-clause-some
returns-in_err-ask_block-clause-some c =
    let g = c.args.given.now in
    let f = c.args.fun.now in
    let same = facts_seen g c.in_ok-set.set c.heads_of.new.set c.in_ok-heads.ensures.seen ∙ c.in_ok-set.ensures in
    handed_on c.from_residual-in_err-ask_block.result c.in_err-ask_block.field-0.0 _ _ c.from_residual-in_err-ask_block.ensures.1
    (λ v h. stopped g f.body f.result (facts_of g c.heads_of.new.set) (at_entry (given_of g)) same (alarm_of v) h)
    c.in_err-ask_block.ensures.stops

pub returns-in_err-refuse-clause-some : goal.returns-in_err-refuse-clause-some
returns-in_err-refuse-clause-some c =
    let g = c.args.given.now in
    let f = c.args.fun.now in
    let same = facts_seen g c.in_ok-set.set c.heads_of.new.set c.in_ok-heads.ensures.seen ∙ c.in_ok-set.ensures in
    handed_on c.from_residual-in_err-refuse.result c.in_err-refuse.field-0.0 _ _ c.from_residual-in_err-refuse.ensures.1
    (λ v h. whole g f.body f.result (facts_of g c.heads_of.new.set) (at_entry (given_of g)) same _ _ _ c.in_ok-ask_block.ensures.goes (one_left c.in_ok-found.found _ v c.in_ok-found.ensures h))
    c.in_err-refuse.ensures.some

pub returns-clause-none : goal.returns-clause-none
returns-clause-none c =
    let g = c.args.given.now in
    let f = c.args.fun.now in
    let same = facts_seen g c.in_ok-set.set c.heads_of.new.set c.in_ok-heads.ensures.seen ∙ c.in_ok-set.ensures in
    whole g f.body f.result (facts_of g c.heads_of.new.set) (at_entry (given_of g)) same _ _ _ c.in_ok-ask_block.ensures.goes (none_left c.in_ok-found.found _ c.in_ok-found.ensures c.in_ok-refuse.ensures.none)
