-- The second part of the stack has no byte yet.
use Rattle.std.proofs.Common.{◌≡◌, ℕ, ◌+◌, ◌-◌, ◌%◌, ◌^◌, ◌<◌, ◌≤◌, List, length, refl, ap, ◌∙◌, arith}
use Rattle.std.specs.Prelude.{None, slice_get, nat_lt}
use Rattle.std.specs.Ordering.{nat_cmp}
use Rattle.std.specs.FinMap.{get, get-empty}
use Rattle.std.proofs.lemmas.Bool.{cond_both, ltb-false}
use Rattle.std.proofs.lemmas.Option.{slice_get_past}
use Rattle.x64_insn.specs.Memory.{Memory}
use Rattle.jz_leak.specs.MemoryMap.{AddsBytes, byte_from}
use Rattle.x64_tests.proofs.runs.stack.Goals as goal

-- none of twenty bytes from an address on stands at the four addresses behind them
apart : (at q : ℕ) (bytes : List ℕ) → at < 2 ^ 64 → length bytes ≡ 20 → (at + 20) % 2 ^ 64 ≤ q → q < (at + 20) % 2 ^ 64 + 4 → byte_from at bytes q ≡ None
apart at q bytes fits size low high =
    cond_both (nat_lt q at) None (slice_get bytes (q - at)) (λ o. o ≡ None) (λ e. refl) (λ e. slice_get_past bytes (q - at) (omega (arith, ltb-false q at e, fits, size, low, high)))

low_fits : (at : ℕ) → (at + 18446744073709551600) % 18446744073709551616 < 2 ^ 64
low_fits at = omega (arith)

none_behind : (old new : Memory) (at q : ℕ) (bytes : List ℕ) → at < 2 ^ 64 → length bytes ≡ 20 → AddsBytes old new at bytes → get old q ≡ None
    → (at + 20) % 2 ^ 64 ≤ q → q < (at + 20) % 2 ^ 64 + 4 → q < 2 ^ 64 → get new q ≡ None
none_behind old new at q bytes fits size added gone low high below =
    let none = apart at q bytes fits size low high in added.below q below ∙ rw none gone

pub add-requires : goal.add-requires
add-requires c = λ q low high fits. ap (λ m. get m q) c.new-map.ensures ∙ get-empty nat_cmp q

pub add-requires-2 : goal.add-requires-2
add-requires-2 c = λ q low high below.
    none_behind _ _ _ q _ (low_fits c.args.at) refl c.in_ok-add.ensures.ok (ap (λ m. get m q) c.new-map.ensures ∙ get-empty nat_cmp q) low high below
