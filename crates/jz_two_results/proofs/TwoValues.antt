-- The laws of two results.
use Rattle.std.proofs.Common.{[], ◌∷◌, None}
use Rattle.jz_meaning.specs.Statements as source
use Rattle.jz_meaning.specs.Statements.{assign}
use Rattle.jz_instructed.proofs.Going.{goes}
use Rattle.jz_two_results.specs.TwoLaws.{TwoResultsGo, TwoResultsStand}
use Rattle.jz_two_results.proofs.Paired.{paired_stands, paired_runs}

pub two_go : TwoResultsGo
two_go g kinds in_frame entry s st nn H d b o e at i q = goes (λ t. Unit {0}) (source.does (assign (d ∷ b ∷ []) o e None at) st) (paired_runs g kinds in_frame entry s st H nn d b o e at i q)

pub two_stand : TwoResultsStand
two_stand g kinds in_frame entry s st nn H d b o e at i = paired_stands g kinds in_frame entry s st H nn d b o e at i
