use Rattle.std.proofs.Common.{sym, ap, ◌∙◌}
use Rattle.jz_parse.specs.InnerReaders.{names_more}
use Rattle.jz_parse.proofs.Lists.{names_next}
use Rattle.jz_parse.proofs.declare.names_more.Goals as goal

pub loop-alloc-preserved : goal.loop-alloc-preserved
loop-alloc-preserved c =
    ap (λ z. names_more z c.name.new.self) c.in_ok-push.ensures.ok
    ∙ sym (names_next c.loop-alloc.out c.in_ok-next.next c.loop-alloc.c c.name.new.self (sym c.is_identifier.ensures ∙ c.loop-alloc-test.true) c.in_ok-next.ensures)
    ∙ c.loop-alloc.invariant
