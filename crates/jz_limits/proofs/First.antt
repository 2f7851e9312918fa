-- The first limit, found from the front.
use Rattle.std.proofs.Common.{◌≡◌, ℕ, suc, ◌+◌, ◌≤◌, ◌<◌, Bool, true, false, List, [], ◌∷◌, ◌++◌, Option, Some, None, refl, sym, ap, ◌∙◌, subst, inl, inr, if◌then◌else◌, arith}
use Rattle.std.specs.Prelude.{◌⊎◌, All, nat_le}
use Rattle.std.proofs.lemmas.Bool.Decides.{nat_tests}
use Rattle.std.proofs.lemmas.List.Elements.{All-nil, All-cons, All-head, All-tail, All-append}
use Rattle.std.proofs.lemmas.List.{append-nil, append_assoc}
use Rattle.jz_limits.specs.Limits.{Limit, Step, one, passing, most_statements, count_of, Passes, IsWithin, IsFirstLimit}
use Rattle.jz_limits.specs.declared.limit.Limit.TheVariants.{Expand}
use Rattle.jz_limits.specs.InnerFirst.{first_from}
use Rattle.jz_limits.specs.LimitLaws.{WithinOrFirst, OneFirst, NoneWithin}

zero_first : (n : ℕ) → n ≡ 0 + n
zero_first n = omega arith

one_before : (n a b : ℕ) → n ≡ a + b → suc n ≡ suc a + b
one_before n a b e = omega (arith, e)

pub count-append : (a b : List Step) → count_of (a ++ b) ≡ count_of a + count_of b
count-append [] b = zero_first (count_of b)
count-append (one ∷ a) b = one_before (count_of (a ++ b)) (count_of a) (count_of b) (count-append a b)
count-append (passing l ∷ a) b = count-append a b

abbrev AllOne : List Step → Type 0
AllOne steps = All (λ step. step ≡ one) steps

-- ---- there is one, or all is within the limits

one_more : (before : List Step) → IsWithin before → count_of before < most_statements → IsWithin (before ++ one ∷ [])
one_more before h lt = record {
  few = (let e = count-append before (one ∷ []) in omega (arith, e, lt));
  none = All-append (λ step. step ≡ one) before (one ∷ []) h.none (All-cons (λ step. step ≡ one) one [] refl (All-nil (λ step. step ≡ one)));
}

abbrev Found : List Step → Type 0
Found steps = IsWithin steps ⊎ ((limit : Limit) × IsFirstLimit steps limit)

or_found : (b : Bool) (before rest : List Step) → nat_le most_statements (count_of before) ≡ b → IsWithin before → (count_of before < most_statements → Found (before ++ one ∷ rest)) → Found (before ++ one ∷ rest)
or_found true before rest e h next =
    let le : most_statements ≤ count_of before = grind (arith, nat_tests, e) in
    inr (Expand, record { before = before; here = one; after = rest; parts = refl; within = h; passes = (le, refl) })
or_found false before rest e h next =
    let lt : count_of before < most_statements = grind (arith, nat_tests, e) in
    next lt

found_from : (before rest : List Step) → IsWithin before → Found (before ++ rest)
found_from before [] h = subst Found (sym (append-nil before)) (inl h)
found_from before (passing l ∷ rest) h = inr (l, record { before = before; here = passing l; after = rest; parts = refl; within = h; passes = refl })
found_from before (one ∷ rest) h =
    or_found (nat_le most_statements (count_of before)) before rest refl h
    (λ lt. subst Found (append_assoc before (one ∷ []) rest) (found_from (before ++ one ∷ []) rest (one_more before h lt)))

pub within_or_first : WithinOrFirst
within_or_first steps = found_from [] steps (record { few = omega arith; none = All-nil (λ step. step ≡ one) })

-- ---- there is one at most

not_one : (l : Limit) → passing l ≡ one → ⊥
not_one l e = cc

past : (n : ℕ) (before rest : List Step) → AllOne before → n + count_of before ≤ most_statements → first_from n (before ++ rest) ≡ first_from (n + count_of before) rest
past n [] rest a le = (let e : n ≡ n + 0 = omega arith in ap (λ k. first_from k rest) e)
past n (passing l ∷ before) rest a le = absurd (not_one l (All-head (λ step. step ≡ one) (passing l) before a))
past n (one ∷ before) rest a le =
    let test : nat_le most_statements n ≡ false = grind (arith, nat_tests, le) in
    let one_on : suc n + count_of before ≡ n + suc (count_of before) = omega arith in
    ap (λ b. if b then Some Expand else first_from (suc n) (before ++ rest)) test
    ∙ (past (suc n) before rest (All-tail (λ step. step ≡ one) one before a) (omega (arith, le)) ∙ ap (λ k. first_from k rest) one_on)

passed_here : (n : ℕ) (here : Step) (after : List Step) (limit : Limit) → Passes n here limit → first_from n (here ∷ after) ≡ Some limit
passed_here n one after limit h =
    let test : nat_le most_statements n ≡ true = grind (arith, nat_tests, h.0) in
    ap (λ b. if b then Some Expand else first_from (suc n) after) test ∙ ap (λ l. Some l) (sym h.1)
passed_here n (passing m) after limit h = ap (λ l. Some l) (sym h)

pub first_is : (steps : List Step) (limit : Limit) → IsFirstLimit steps limit → first_from 0 steps ≡ Some limit
first_is steps limit h =
    let same = zero_first (count_of h.before) in
    let few = subst (λ n. n ≤ most_statements) same h.within.few in
    let passes = subst (λ n. Passes n h.here limit) same h.passes in
    ap (first_from 0) h.parts
    ∙ (past 0 h.before (h.here ∷ h.after) h.within.none few ∙ passed_here (0 + count_of h.before) h.here h.after limit passes)

pub none_is : (steps : List Step) → IsWithin steps → first_from 0 steps ≡ None
none_is steps h = ap (first_from 0) (sym (append-nil steps)) ∙ past 0 steps [] h.none (subst (λ n. n ≤ most_statements) (zero_first (count_of steps)) h.few)

same_limit : (a b : Limit) → Some a ≡ Some b → a ≡ b
same_limit a b e = cc

no_limit : (a : Limit) → None ≡ Some a → ⊥
no_limit a e = cc

pub one_first : OneFirst
one_first steps a b h g = same_limit a b (sym (first_is steps a h) ∙ first_is steps b g)

pub none_within : NoneWithin
none_within steps limit h g = no_limit limit (sym (none_is steps h) ∙ first_is steps limit g)

-- what is found from the front is the first limit, and where nothing is found all is within them
pub found_first : (steps : List Step) (limit : Limit) → first_from 0 steps ≡ Some limit → IsFirstLimit steps limit
found_first steps limit e = by_found (within_or_first steps)
  where
    by_found : IsWithin steps ⊎ ((l : Limit) × IsFirstLimit steps l) → IsFirstLimit steps limit
    by_found (inl h) = absurd (no_limit limit (sym (none_is steps h) ∙ e))
    by_found (inr h) = subst (IsFirstLimit steps) (same_limit h.0 limit (sym (first_is steps h.0 h.1) ∙ e)) h.1

pub found_none : (steps : List Step) → first_from 0 steps ≡ None → IsWithin steps
found_none steps e = by_found (within_or_first steps)
  where
    by_found : IsWithin steps ⊎ ((l : Limit) × IsFirstLimit steps l) → IsWithin steps
    by_found (inl h) = h
    by_found (inr h) = absurd (no_limit h.0 (sym e ∙ first_is steps h.0 h.1))
