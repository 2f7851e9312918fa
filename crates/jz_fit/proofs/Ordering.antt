-- The order of placing by what needs leave, and first fit by the code.
use Rattle.std.proofs.Common.{◌≡◌, ℕ, ◌+◌, ◌<◌, Bool, not, List, ◌++◌, length, get_or, ap, sym, ◌∙◌, subst, arith, zero-add}
use Rattle.std.specs.List.{All, filter, range_with_len}
use Rattle.std.proofs.lemmas.List.Elements.{All-from_get_or}
use Rattle.std.proofs.lemmas.List.FromFn.{length-range_with_len, get_or-range_with_len}
use Rattle.jz_ir.specs.Places.{has_need, order_of, Out, FirstFit}
use Rattle.jz_alloc.proofs.Meaning.{filter_same}
use Rattle.jz_fit.specs.declared.code.Branching.{Branching}
use Rattle.jz_fit.specs.declared.table.Table.{Table}
use Rattle.jz_fit.specs.Branches.{code_of, LiveAt}
use Rattle.jz_fit.specs.InnerWants.{is_needed, wanted_at, passing_first}
use Rattle.jz_fit.specs.InnerSeats.{IsTable, ComesTo}

all_same : (f g : ℕ → Bool) (n : ℕ) → ((v : ℕ) → v < n → f v ≡ g v) → All (λ v. f v ≡ g v) (range_with_len 0 n)
all_same f g n h = All-from_get_or (λ v. f v ≡ g v) (range_with_len 0 n) 0 (λ i l.
    let k : i < n = omega (arith, length-range_with_len 0 n) in
    let e : get_or (range_with_len 0 n) i 0 ≡ i = get_or-range_with_len 0 n i 0 k ∙ zero-add i in
    subst (λ v. f v ≡ g v) (sym e) (h i k))

pub order_is : (t : Table) → IsTable t → passing_first (λ v. is_needed (wanted_at t.wants.items v)) (length t.wants.items) ≡ order_of t.ops (length t.code.now.kinds)
order_is t k =
    let n : ℕ = length t.code.now.kinds in
    let f : ℕ → Bool = λ v. is_needed (wanted_at t.wants.items v) in
    ap (passing_first f) k.wants_count
    ∙ ap (λ xs. xs ++ filter (λ v. not (f v)) (range_with_len 0 n)) (filter_same f (has_need t.ops) (range_with_len 0 n) (all_same f (has_need t.ops) n k.needed))
    ∙ ap (λ xs. filter (has_need t.ops) (range_with_len 0 n) ++ xs) (filter_same (λ v. not (f v)) (λ v. not (has_need t.ops v)) (range_with_len 0 n) (all_same (λ v. not (f v)) (λ v. not (has_need t.ops v)) n (λ v l. ap not (k.needed v l))))

-- what first fit comes to over a table, it does over its code
pub fit_here : (t : Table) (b : Branching) (o : Out) → IsTable t → t.code.now ≡ b → ComesTo t (order_of t.ops (length t.code.now.kinds)) o → FirstFit (code_of b).ops b.kinds b.in_use (LiveAt b) o
fit_here t b o k e f =
    subst (λ x. FirstFit (code_of x).ops x.kinds x.in_use (LiveAt x) o) e
    (subst (λ ops. FirstFit ops t.code.now.kinds t.code.now.in_use (LiveAt t.code.now) o) k.ops_are f)
