-- Counts of loops.
use Rattle.std.proofs.Common.{◌≡◌, ℕ, suc, ◌+◌, ◌*◌, List, [], ◌∷◌, ◌++◌, length, Some, refl, sym, ap, ap₂, ◌∙◌, arith, zero-add}
use Rattle.std.proofs.lemmas.List.{append-nil}
use Rattle.std.proofs.Math.Nat.{zero-mul, suc-mul, mul-one}
use Rattle.jz_meaning.specs.Trees.{done}
use Rattle.jz_limits.specs.Limits.{Limit, count_of}
use Rattle.jz_limits.specs.Values.{with_number, number_in}
use Rattle.jz_limits.specs.Asked.{widths}
use Rattle.jz_limits.specs.Walks.{limits, rounds, counted_values, walk}
use Rattle.jz_limits.specs.LimitLaws.{TurnsCount, EmptyLoops}
use Rattle.jz_limits.proofs.First.{count-append}

limits_count : (ls : List Limit) → count_of (limits ls) ≡ 0
limits_count [] = refl
limits_count (l ∷ ls) = limits_count ls

one_behind : (n k : ℕ) → suc (n + k) ≡ k + (1 + n)
one_behind n k = omega arith

pub turns_count : TurnsCount
turns_count v body n [] e h = sym (zero-mul (1 + n))
turns_count v body n (i ∷ is) e h =
    let w = body (with_number e v (Some i)) in
    let rest = rounds v body is w.known in
    let here = h (with_number e v (Some i)) in
    let later = turns_count v body n is w.known h in
    ap suc (count-append w.steps rest.steps ∙ ap₂ (λ a b. a + b) here later)
    ∙ (one_behind n (length is * (1 + n)) ∙ sym (suc-mul (length is) (1 + n)))

pub empty_loops : EmptyLoops
unfolding walk
empty_loops f e =
    let bounds = limits (widths e f.from ++ widths e f.to) in
    let values = counted_values f.down (number_in e f.from) (number_in e f.to) in
    let turns = (rounds f.counter (walk done) values e).steps in
    let parts = count-append bounds (turns ++ []) in
    let first = limits_count (widths e f.from ++ widths e f.to) in
    let rest = ap count_of (append-nil turns) in
    let all = turns_count f.counter (walk done) 0 values e (λ k. refl) in
    let last = mul-one (length values) in
    parts ∙ (ap₂ (λ a b. a + b) first (rest ∙ (all ∙ last)) ∙ zero-add (length values))
