-- Lines that are appended one by one.
use Rattle.std.proofs.Common.{◌≡◌, ℕ, suc, ◌+◌, ◌-◌, ◌^◌, ◌<◌, ◌≤◌, List, ◌++◌, sym, ap, ◌∙◌, arith, append_assoc, append-nil}
use Rattle.jz_gen.specs.Programs.{next_number, line, lines}

pub next_below : (t next : ℕ) → next ≡ next_number t → next < 2 ^ 32
unfolding next_number
next_below t next is = omega (arith, is)

-- with the line of the number behind one there is one less to come
pub one_more : (t next size made : ℕ) (xs ys whole : List ℕ) → next ≡ next_number t → made < size → ys ≡ xs ++ line next
    → xs ++ lines t (size - made) ≡ whole → ys ++ lines next (size - (made + 1)) ≡ whole
one_more t next size made xs ys whole is lt more h =
    let rest = lines next (size - (made + 1)) in
    let one : size - made ≡ suc (size - (made + 1)) = omega (arith, lt) in
    ap (λ z. z ++ rest) more ∙ append_assoc xs (line next) rest ∙ ap (λ n. xs ++ (line n ++ lines n (size - (made + 1)))) is
    ∙ sym (ap (λ n. xs ++ lines t n) one) ∙ h

pub all_made : (t size made : ℕ) (xs whole : List ℕ) → size ≤ made → xs ++ lines t (size - made) ≡ whole → xs ≡ whole
all_made t size made xs whole le h =
    let none : size - made ≡ 0 = omega (arith, le) in
    sym (append-nil xs) ∙ sym (ap (λ n. xs ++ lines t n) none) ∙ h
