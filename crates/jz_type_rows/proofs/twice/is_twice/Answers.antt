use Rattle.std.proofs.Common.{sym, ◌∙◌}
use Rattle.jz_type_rows.specs.InnerPassing.{passed_of}
use Rattle.jz_type_rows.proofs.TwiceLaws.{twice_is, by_written, by_all, by_none}
use Rattle.jz_type_rows.proofs.twice.is_twice.Goals as goal

pub returns-then-has : goal.returns-then-has
returns-then-has c = λ before seen. by_written _ _ _ _ (c.has.ensures _ seen.written) c.if-has.true (twice_is c.args.callee.now.written (passed_of c.args.passed.now) before)

pub returns-then-is_written_at : goal.returns-then-is_written_at
returns-then-is_written_at c =
    λ before seen. by_all _ _ _ _ _ (sym (c.has.ensures _ seen.written) ∙ c.if-has.false) (sym c.is_written_at.ensures ∙ c.if-is_written_at.true) (c.has-then-is_written_at.ensures _ seen.all)
    (twice_is c.args.callee.now.written (passed_of c.args.passed.now) before)

pub returns-else-is_written_at : goal.returns-else-is_written_at
returns-else-is_written_at c =
    λ before seen. by_none _ _ _ _ _ (sym (c.has.ensures _ seen.written) ∙ c.if-has.false) (sym c.is_written_at.ensures ∙ c.if-is_written_at.false) c.is_written_at.ensures
    (twice_is c.args.callee.now.written (passed_of c.args.passed.now) before)
