use Rattle.std.proofs.Common.{◌≡◌, ◌<◌, ◌+◌, ◌-◌, ◌%◌, ◌^◌, ◌/◌, arith, refl, sym, ap, ◌∙◌, if◌then◌else◌}
use Rattle.std.specs.FinMap.{insert}
use Rattle.jz_words.specs.Memory.{Memory, stored, all_valid}
use Rattle.jz_words.proofs.MemorySpans.{stored_more, all_valid_after, valid_parts}
use Rattle.jz_leak.proofs.mem_map.MemMap.+store_bytes.Goals as goal

pub returns-then-count-eq0 : goal.returns-then-count-eq0
unfolding stored
returns-then-count-eq0 t c = let e : c.args.count ≡ 0 = omega arith in rw e refl

pub store_bytes-requires : goal.store_bytes-requires
store_bytes-requires t c =
    let lt : 0 < c.args.count = omega arith in
    let v = valid_parts c.args.self.now c.args.addr c.args.count lt c.requires in
    let yes = c.set-done.ensures.valid ∙ v.0 in
    let new = c.set-done.ensures.after ∙ ap (λ b. if b then insert c.args.self.now c.args.addr (c.args.value % 256) else c.args.self.now) yes in
    (omega arith, ap (λ (m : Memory). all_valid m ((c.args.addr + 1) % 2 ^ 64) (c.args.count - 1)) new ∙ all_valid_after c.args.self.now c.args.addr (c.args.value % 256) ((c.args.addr + 1) % 2 ^ 64) (c.args.count - 1) v.0 ∙ v.1)

pub returns : goal.returns
returns t c =
    let lt : 0 < c.args.count = omega arith in
    let v = valid_parts c.args.self.now c.args.addr c.args.count lt c.requires in
    let yes = c.set-done.ensures.valid ∙ v.0 in
    let new = c.set-done.ensures.after ∙ ap (λ b. if b then insert c.args.self.now c.args.addr (c.args.value % 256) else c.args.self.now) yes in
    c.store_bytes.ensures ∙ ap (λ (m : Memory). stored m ((c.args.addr + 1) % 2 ^ 64) (c.args.count - 1) (c.args.value / 256)) new ∙ sym (stored_more c.args.self.now c.args.addr c.args.count c.args.value lt)
