use Rattle.std.proofs.Common.{◌≡◌, ap, ◌∙◌}
use Rattle.jz_meaning.specs.States.{State}
use Rattle.jz_meaning.specs.Stores.{state_of, store_of}
use Rattle.jz_meaning.specs.Runs.{block, callees_of, with_arguments, result_words}
use Rattle.jz_interp.specs.Outcomes.{values_of}
use Rattle.jz_interp.specs.InnerEnds.{PieceGoes}
use Rattle.jz_interp.specs.InnerAnswers.{words_seen, outcome_of, BodyShows}
use Rattle.jz_meaning.proofs.AttemptLemmas.{handed_on}
use Rattle.jz_interp.proofs.Rules.{as_end, as_cut}
use Rattle.jz_interp.proofs.Starts.{body_stuck, body_cut, results_are_stuck, body_ends}
use Rattle.jz_interp.proofs.functions.run_body_of.Goals as goal

pub returns-in_err-items : goal.returns-in_err-items
returns-in_err-items c =
    handed_on c.from_residual-in_err-items.result c.in_err-items.field-0.0
    (PieceGoes (block (callees_of c.args.code.now.funs.now c.len.result) c.args.function.now.body) c.args.fuel (let x : State = record { store = store_of c.give_words.new.store; memory = c.args.memory } in x) (state_of c.run_block.new.state))
    (λ r. BodyShows c.args.code.now.funs.now c.args.function.now (values_of c.args.words.now) c.args.memory c.args.fuel (outcome_of r))
    c.from_residual-in_err-items.ensures.1 c.in_err-items.ensures
    (body_stuck c.args.code.now.funs.now c.args.function.now (values_of c.args.words.now) c.args.memory c.args.fuel c.len.result (let x : State = record { store = store_of c.give_words.new.store; memory = c.args.memory } in x) c.len.ensures
    (ap (λ v. let x : State = record { store = v; memory = c.args.memory } in x) (c.in_ok-give_words.ensures ∙ ap (with_arguments c.args.function.now.params (values_of c.args.words.now)) c.new-store.ensures)))

pub returns-in-Cut : goal.returns-in-Cut
returns-in-Cut c =
    body_cut c.args.code.now.funs.now c.args.function.now (values_of c.args.words.now) c.args.memory c.args.fuel c.len.result (let x : State = record { store = store_of c.give_words.new.store; memory = c.args.memory } in x) c.len.ensures
    (ap (λ v. let x : State = record { store = v; memory = c.args.memory } in x) (c.in_ok-give_words.ensures ∙ ap (with_arguments c.args.function.now.params (values_of c.args.words.now)) c.new-store.ensures))
    c.in-Cut.items (as_cut _ _ _ (state_of c.run_block.new.state) c.in_ok-items.field-0 c.in-Cut.items c.in_ok-items.ensures c.in-Cut.is)

pub returns-in_err-words-in-End : goal.returns-in_err-words-in-End
returns-in_err-words-in-End c =
    handed_on c.from_residual-in_err-words-in-End.result c.in_err-words-in-End.field-0.0
    (λ r. words_seen r ≡ result_words c.args.function.now.result (store_of c.run_block.new.state.store))
    (λ r. BodyShows c.args.code.now.funs.now c.args.function.now (values_of c.args.words.now) c.args.memory c.args.fuel (outcome_of r))
    c.from_residual-in_err-words-in-End.ensures.1 c.in_err-words-in-End.ensures
    (results_are_stuck c.args.code.now.funs.now c.args.function.now (values_of c.args.words.now) c.args.memory c.args.fuel c.len.result (let x : State = record { store = store_of c.give_words.new.store; memory = c.args.memory } in x) c.len.ensures
    (ap (λ v. let x : State = record { store = v; memory = c.args.memory } in x) (c.in_ok-give_words.ensures ∙ ap (with_arguments c.args.function.now.params (values_of c.args.words.now)) c.new-store.ensures))
    (state_of c.run_block.new.state) c.in-End.field-0 c.in-End.items (as_end _ _ _ _ (state_of c.run_block.new.state) c.in_ok-items.field-0 c.in-End.items c.in_ok-items.ensures c.in-End.is))

pub returns-in_ok-words-in-End : goal.returns-in_ok-words-in-End
returns-in_ok-words-in-End c =
    body_ends c.args.code.now.funs.now c.args.function.now (values_of c.args.words.now) c.args.memory c.args.fuel c.len.result (let x : State = record { store = store_of c.give_words.new.store; memory = c.args.memory } in x) c.len.ensures
    (ap (λ v. let x : State = record { store = v; memory = c.args.memory } in x) (c.in_ok-give_words.ensures ∙ ap (with_arguments c.args.function.now.params (values_of c.args.words.now)) c.new-store.ensures))
    (state_of c.run_block.new.state) c.in-End.field-0 c.in-End.items (as_end _ _ _ _ (state_of c.run_block.new.state) c.in_ok-items.field-0 c.in-End.items c.in_ok-items.ensures c.in-End.is)
    c.in_ok-words-in-End.words c.in_ok-words-in-End.ensures
