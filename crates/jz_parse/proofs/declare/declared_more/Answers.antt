use Rattle.std.proofs.Common.{sym, ap, ◌∙◌}
use Rattle.jz_parse.specs.InnerReaders.{declared_more}
use Rattle.jz_parse.proofs.Lists.{declared_next}
use Rattle.jz_parse.proofs.declare.declared_more.Goals as goal

pub loop-alloc-preserved : goal.loop-alloc-preserved
loop-alloc-preserved c =
    ap (λ z. declared_more z c.next_name.new.c) c.in_ok-push.ensures.ok
    ∙ sym (declared_next c.loop-alloc.out c.in_ok-next.next c.loop-alloc.c c.next_name.new.c (sym c.begins_name.ensures ∙ c.loop-alloc-test.true) c.in_ok-next.ensures)
    ∙ c.loop-alloc.invariant
