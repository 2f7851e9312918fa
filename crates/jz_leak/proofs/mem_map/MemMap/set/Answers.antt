use Rattle.std.proofs.Common.{length, arith, sym, ap, ◌∙◌}
use Rattle.std.specs.Prelude.{is_some, slice_set}
use Rattle.std.specs.Ordering.{nat_cmp}
use Rattle.std.specs.FinMap as map
use Rattle.jz_leak.specs.declared.segment.Segment.{Segment}
use Rattle.jz_leak.specs.MemoryMapSegments.{all_entries}
use Rattle.jz_leak.proofs.MemorySegments.{found, not_found, found_valid, found_there, found_inside, held_within, written}
use Rattle.jz_leak.proofs.mem_map.MemMap.set.Goals as goal

pub returns-in-None-clause-valid : goal.returns-in-None-clause-valid
returns-in-None-clause-valid c =
    let none = not_found c.self.inside.segments.items c.deref.result.now c.args.addr c.deref.ensures.value c.in-None.ensures
    in ap is_some (sym none) ∙ ap (λ m. is_some (map.get m c.args.addr)) c.self.view_is

pub index_mut-requires : goal.index_mut-requires
index_mut-requires c =
    let ss = c.self.inside.segments.items
    in let h = found ss c.deref.result.now c.args.addr c.in-Some.index c.deref.ensures.value c.in-Some.ensures
    in omega (arith, held_within ss c.args.addr c.in-Some.index h, ap length c.deref.ensures.value, c.deref.ensures.len)

pub set_byte-requires-clause-from : goal.set_byte-requires-clause-from
set_byte-requires-clause-from c =
    let ss = c.self.inside.segments.items
    in let h = found ss c.deref.result.now c.args.addr c.in-Some.index c.deref.ensures.value c.in-Some.ensures
    in (found_inside ss c.args.addr c.in-Some.index c.index_mut.result.now h c.index_mut.ensures.value).0

pub set_byte-requires-clause-within : goal.set_byte-requires-clause-within
set_byte-requires-clause-within c =
    let ss = c.self.inside.segments.items
    in let h = found ss c.deref.result.now c.args.addr c.in-Some.index c.deref.ensures.value c.in-Some.ensures
    in (found_inside ss c.args.addr c.in-Some.index c.index_mut.result.now h c.index_mut.ensures.value).1

pub returns-in-Some-clause-valid : goal.returns-in-Some-clause-valid
returns-in-Some-clause-valid c =
    let ss = c.self.inside.segments.items
    in let h = found ss c.deref.result.now c.args.addr c.in-Some.index c.deref.ensures.value c.in-Some.ensures
    in sym (found_valid ss c.args.addr c.in-Some.index h) ∙ ap (λ m. is_some (map.get m c.args.addr)) c.self.view_is

pub returns-in-Some-clause-after : goal.returns-in-Some-clause-after
returns-in-Some-clause-after c =
    let ss = c.self.inside.segments.items
    in let h = found ss c.deref.result.now c.args.addr c.in-Some.index c.deref.ensures.value c.in-Some.ensures
    in let s = c.index_mut.result.now
    in let e = c.set_byte.ensures
    in ap (λ (x : Segment). map.from_entries {R = nat_cmp} (all_entries (slice_set ss c.in-Some.index x))) c.set_byte.ensures
    ∙ written ss c.args.addr c.in-Some.index c.args.value s h (found_there ss c.args.addr c.in-Some.index s h c.index_mut.ensures.value)
    ∙ ap (λ m. map.insert m c.args.addr c.args.value) c.self.view_is
