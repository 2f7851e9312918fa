use Rattle.std.proofs.Common.{sym, ap, ◌∙◌}
use Rattle.std.specs.FinMap as map
use Rattle.jz_leak.specs.InnerSegments.{read_at}
use Rattle.jz_leak.proofs.MemorySegments.{get_read}
use Rattle.jz_leak.proofs.mem_map.MemMap.get.Goals as goal

pub returns : goal.returns
returns c =
    c.read_at.ensures ∙ ap (λ ss. read_at ss c.args.addr) c.deref.ensures.value
    ∙ sym (get_read c.self.inside.segments.items c.args.addr) ∙ ap (λ m. map.get m c.args.addr) c.self.view_is
