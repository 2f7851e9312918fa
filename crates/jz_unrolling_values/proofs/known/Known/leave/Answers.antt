use Rattle.std.proofs.Common.{◌∷◌, [], ◌++◌, ◌∙◌, ap, sym, Vec, Global}
use Rattle.jz_unrolling_values.specs.declared.known.Changed.{Changed}
use Rattle.jz_unrolling_values.proofs.NumberLemmas.{taking_on}
use Rattle.jz_unrolling_values.proofs.known.Known.leave.Goals as goal

pub loop-entry-preserved : goal.loop-entry-preserved
loop-entry-preserved c =
    taking_on c.args.self.now c.loop-entry.self c.put.new.self c.in-Some.entry
    (c.in-Some.ensures.items ∙ ap (λ (l : Vec Changed Global). l.items ++ c.in-Some.entry ∷ []) (sym c.in_ok-put.ensures.changed))
    c.in_ok-put.ensures.numbers c.loop-entry.invariant
