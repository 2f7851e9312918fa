use Rattle.std.proofs.Common.{◌++◌, ◌∙◌, ℕ, [], ◌∷◌, sym, ap, rules}
use Rattle.std.specs.Option.{option_copied}
use Rattle.std.proofs.lemmas.List.{map-append}
use Rattle.jz_tree.specs.declared.program.Param.{Param}
use Rattle.jz_meaning.specs.States.{word}
use Rattle.jz_meaning.specs.Values.{ref_of}
use Rattle.jz_interp.specs.Outcomes.{values_of}
use Rattle.jasminc_calls.specs.Calls.{argument}
use Rattle.jasminc_calls.proofs.InStep.{pair_more, pair_ended, pair_over, pushed, values_end}
use Rattle.jasminc_calls.proofs.calls.arguments.Goals as goal

pub returns-in-None : goal.returns-in-None
returns-in-None c =
    values_end (λ (p : Param × ℕ). argument (ref_of p.0.var).kind p.1) (values_of c.loop-i.words) _ _
    (pair_ended c.args.params.now c.args.items.now c.loop-i.i (sym c.get.ensures.value ∙ ap option_copied c.in-None.is)) c.loop-i.invariant

pub loop-i-preserved : goal.loop-i-preserved
loop-i-preserved c =
    let made = c.argument.result in
    pushed (λ (p : Param × ℕ). argument (ref_of p.0.var).kind p.1) (values_of c.loop-i.words) _ _ (c.param-item.result, c.in-Some.item.now) _ _
    (pair_more c.args.params.now c.args.items.now c.loop-i.i c.param-item.result c.in-Some.item.now (search rules) (search rules)
    (sym c.get.ensures.value ∙ ap option_copied c.in-Some.is))
    c.loop-i.invariant
    (ap values_of c.in_ok-push-in-Some.ensures.ok ∙ map-append (λ w. word w.size w.bits) c.loop-i.words (made ∷ [])
    ∙ ap (λ v. values_of c.loop-i.words ++ v ∷ []) c.argument.ensures)

pub returns : goal.returns
returns c =
    values_end (λ (p : Param × ℕ). argument (ref_of p.0.var).kind p.1) (values_of c.loop-i.words) _ _
    (pair_over c.args.params.now c.args.items.now c.loop-i.i (search rules)) c.loop-i.invariant
