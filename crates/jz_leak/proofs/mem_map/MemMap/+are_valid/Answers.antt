use Rattle.std.proofs.Common.{◌≡◌, ◌<◌, arith, sym, ap, ◌∙◌}
use Rattle.std.specs.Prelude.{is_some}
use Rattle.jz_words.proofs.MemorySpans.{none_valid, not_valid, more_valid}
use Rattle.jz_leak.proofs.mem_map.MemMap.+are_valid.Goals as goal

pub returns-then-count-eq0 : goal.returns-then-count-eq0
returns-then-count-eq0 t c = let e : c.args.count ≡ 0 = omega arith in rw e (sym (none_valid _ _))

pub returns-then-is_none : goal.returns-then-is_none
returns-then-is_none t c = let lt : 0 < c.args.count = omega arith in sym (not_valid c.args.self.now c.args.addr c.args.count lt (ap is_some (sym c.get.ensures) ∙ c.if-is_none.ensures))

pub returns : goal.returns
returns t c = let lt : 0 < c.args.count = omega arith in c.are_valid.ensures ∙ sym (more_valid c.args.self.now c.args.addr c.args.count lt (ap is_some (sym c.get.ensures) ∙ c.if-is_none.ensures))
