use Rattle.jz_resolve.proofs.Spans.{stmt_span, statements_resolved}
use Rattle.jz_resolve.proofs.laws.statement_stays.Goals as goal

pub returns-clause-span : goal.returns-clause-span
returns-clause-span c = λ k. stmt_span k.declaration k.number c.args.s.now

pub returns-clause-nested : goal.returns-clause-nested
returns-clause-nested c = λ k. statements_resolved k.declaration k.number c.args.s.now
