use Rattle.std.proofs.Common.{ℕ, ◌⊎◌, inl, inr, ⊎_elim, ◌+◌, ◌<◌, ◌≤◌, ◌^◌, List, [], ◌∷◌, ◌++◌, length, arith, refl, sym, ap, ◌∙◌}
use Rattle.std.proofs.lemmas.Bool.{cases_lt}
use Rattle.std.specs.FinMap as map
use Rattle.std.specs.Ordering.{nat_cmp}
use Rattle.jz_leak.specs.declared.segment.Segment.{Segment}
use Rattle.std.specs.Option.{option_or}
use Rattle.jz_leak.specs.MemoryMap.{byte_from}
use Rattle.jz_leak.specs.MemoryMapSegments.{all_entries}
use Rattle.jz_leak.specs.InnerSegments.{read_at}
use Rattle.jz_leak.proofs.MemorySegments.{get_read, added, from_taken, none_past}
use Rattle.jz_leak.proofs.mem_map.MemMap.add.Goals as goal

pub returns-clause-ok : goal.returns-clause-ok
returns-clause-ok c =
    let ss = c.self.inside.segments.items
    in let seg : Segment = record { start = c.args.addr; bytes = c.in_ok-copy.copy }
    in let n = c.count_below_end-count.result
    in let a = c.args.addr
    in let bs = c.args.bytes.now
    in let old = λ (q : ℕ). sym (get_read ss q) ∙ ap (λ m. map.get m q) c.self.view_is
    in let new = λ (q : ℕ). ap (λ (xs : List Segment). map.get (map.from_entries {R = nat_cmp} (all_entries xs)) q) c.in_ok-push.ensures.items
    ∙ get_read (ss ++ seg ∷ []) q
    ∙ added ss seg a n q bs refl c.in_ok-copy.ensures
    (λ h k l. old q ∙ c.requires q h l (let below : a + n ≤ 2 ^ 64 = c.count_below_end-count.ensures.below in omega arith))
    in record {
      below = λ q lt.
          let cut : (q < a + n) ⊎ (length bs ≤ n) = ⊎_elim (λ h. inl (omega (arith, c.count_below_end-count.ensures.cut h))) (λ h. inr h) (cases_lt n (length bs))
          in new q ∙ ap (λ o. option_or o (read_at ss q)) (from_taken a n q bs cut) ∙ ap (option_or (byte_from a bs q)) (old q);
      past = λ q le.
          let over : a + n ≤ q = let below : a + n ≤ 2 ^ 64 = c.count_below_end-count.ensures.below in omega arith
          in new q ∙ ap (λ o. option_or o (read_at ss q)) (none_past a n q bs over) ∙ old q;
    }
