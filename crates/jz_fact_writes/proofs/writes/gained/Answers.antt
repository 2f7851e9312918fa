use Rattle.std.proofs.Common.{ap, sym, ◌∙◌}
use Rattle.jz_facts.specs.Holding.{gained}
use Rattle.jz_fact_sets.specs.Kept.{given_of}
use Rattle.jz_fact_sets.specs.Renewing.{own}
use Rattle.jz_fact_writes.specs.Writing.{StandsFor}
use Rattle.std.proofs.Common.{subst}
use Rattle.jz_fact_writes.proofs.Gaining.{gains_nothing, gains_value, gains_word_at, gains_undeclared, gains_int, gains_bool, gains_array_at}
use Rattle.jz_fact_writes.proofs.writes.gained.Goals as goal

pub returns-in-Nothing : goal.returns-in-Nothing
returns-in-Nothing c g s v h = ap (own g) c.nothing.ensures ∙ gains_nothing g s c.args.kind v (subst (λ x. StandsFor g s x v) c.in-Nothing.is h)

pub returns-in-Value : goal.returns-in-Value
returns-in-Value c g s v h = ap (own g) c.only_set.ensures ∙ gains_value g s c.args.kind v (subst (λ x. StandsFor g s x v) c.in-Value.is h)

pub returns-in-Undeclared : goal.returns-in-Undeclared
returns-in-Undeclared c g s v h =
    ap (own g) c.only_set-in-Undeclared.ensures ∙ gains_undeclared g s c.in-Word.known v (subst (λ x. StandsFor g s x v) c.in-Word.is h) ∙ ap (λ k. gained (given_of g) s k v) (sym c.in-Undeclared.is)

pub returns-in-Int : goal.returns-in-Int
returns-in-Int c g s v h = ap (own g) c.only_set-in-Int.ensures ∙ gains_int g s c.in-Word.known v (subst (λ x. StandsFor g s x v) c.in-Word.is h) ∙ ap (λ k. gained (given_of g) s k v) (sym c.in-Int.is)

pub returns-in-Bool : goal.returns-in-Bool
returns-in-Bool c g s v h = ap (own g) c.only_set-in-Bool.ensures ∙ gains_bool g s c.in-Word.known v (subst (λ x. StandsFor g s x v) c.in-Word.is h) ∙ ap (λ k. gained (given_of g) s k v) (sym c.in-Bool.is)

pub returns-in-Word-kind : goal.returns-in-Word-kind
returns-in-Word-kind c g s v h = gains_word_at g s c.in-Word.known c.args.kind _ c.in-Word-kind.is v (subst (λ x. StandsFor g s x v) c.in-Word.is h)

pub returns-in-Array : goal.returns-in-Array
returns-in-Array c g s v h = ap (own g) c.only_set-in-Array.ensures ∙ gains_array_at g s c.in-Word.known c.args.kind _ _ c.in-Array.is v (subst (λ x. StandsFor g s x v) c.in-Word.is h)
