use Rattle.std.proofs.Common.{ap, sym, ◌∙◌, rules}
use Rattle.std.specs.Option.{option_copied}
use Rattle.jz_meaning.specs.Stores.{store_of}
use Rattle.jz_interp.proofs.Starts.{arguments_end, arguments_more}
use Rattle.jz_interp.proofs.functions.give_words.Goals as goal

pub returns-in-None : goal.returns-in-None
returns-in-None c = arguments_end c.args.params.now c.args.words.now c.loop-i.i (store_of c.loop-i.store) _ c.loop-i.invariant (sym c.get.ensures.value ∙ ap option_copied c.in-None.is)

pub loop-i-preserved : goal.loop-i-preserved
loop-i-preserved c =
    arguments_more c.args.params.now c.args.words.now c.loop-i.i (store_of c.loop-i.store) _ c.loop-i.invariant c.param-item.result c.in-Some.word.now _ (search rules) (search rules) (sym c.get.ensures.value ∙ ap option_copied c.in-Some.is)
    c.in_ok-set-in-Some.ensures
