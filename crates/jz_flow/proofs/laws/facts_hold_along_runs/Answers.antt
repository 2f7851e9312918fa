use Rattle.jz_flow.specs.Alarms.{no_more}
use Rattle.jz_flow.proofs.Ordering.{more, one_after}
use Rattle.jz_flow.proofs.Calm.{calm}
use Rattle.jz_flow.proofs.OneFirst.{one_first, none_more}
use Rattle.jz_flow.proofs.Holding.{sound}
use Rattle.jz_flow.proofs.laws.facts_hold_along_runs.Goals as goal

pub returns-clause-more : goal.returns-clause-more
returns-clause-more g c = λ b s t x y h i j.
    more g.A.Analysis.steps g.A.Analysis.monotone b s t x y h i j

pub returns-clause-one : goal.returns-clause-one
returns-clause-one g c = λ b s x y i j.
    one_after g.A.Analysis.steps g.A.Analysis.monotone b s x y i j

pub returns-clause-calm : goal.returns-clause-calm
returns-clause-calm g c = λ b s x i f.
    (calm g.A.Analysis.steps g.A.Analysis.asks g.A.Analysis.monotone b s x no_more i f).0

pub returns-clause-runs : goal.returns-clause-runs
returns-clause-runs g c = λ b n m o s x f r h i.
    sound g.A.Analysis.fine g.A.Analysis.fine_test g.A.Analysis.steps g.A.Analysis.asks
    g.A.Analysis.parts g.A.Analysis.holds g.A.Analysis.sound r s x f h i

pub returns-clause-first : goal.returns-clause-first
returns-clause-first g c = λ b s v w f h.
    one_first g.A.Analysis.steps g.A.Analysis.asks g.A.Analysis.monotone b s v w no_more none_more f h
