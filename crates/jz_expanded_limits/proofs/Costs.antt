-- How many statements there are at most for the steps of a walk.
use Rattle.std.proofs.Common.{◌≡◌, ℕ, suc, ◌+◌, ◌*◌, ◌-◌, ◌≤◌, List, ◌∷◌, ◌++◌, length, ap, ◌∙◌, sym, arith, length-append}
use Rattle.jz_limits.specs.Limits.{Step, one}

-- nine for each step
abbrev pub cost : List Step → ℕ
cost steps = 9 * length steps

nine : (n a b : ℕ) → n ≡ a + b → 9 * n ≡ 9 * a + 9 * b
nine n a b e = omega (arith, e)

pub cost_both : (a b : List Step) → cost (a ++ b) ≡ cost a + cost b
cost_both a b = nine (length (a ++ b)) (length a) (length b) (length-append a b)

nine_more : (n : ℕ) → 9 * suc n ≡ 9 + 9 * n
nine_more n = omega arith

pub cost_one : (a : List Step) → cost (one ∷ a) ≡ 9 + cost a
cost_one a = nine_more (length a)

-- ---- one bound behind another; r: what the end has
pub at_most : (a n m r : ℕ) → a ≤ n + r → n ≤ m → a ≤ m + r
at_most a n m r h k = omega (arith, h, k)

pub one_more : (a n r : ℕ) → a ≤ n + r → 1 + a ≤ (1 + n) + r
one_more a n r h = omega (arith, h)

pub then_most : (u w c z n r : ℕ) → z ≤ c → u ≤ z + w → w ≤ n + r → u ≤ (c + n) + r
then_most u w c z n r a b d = omega (arith, a, b, d)

-- of a part alone
pub then_part : (u w c z n r : ℕ) → z ≤ c → u ≤ (z + 0) + w → w ≤ n + r → u ≤ (c + n) + r
then_part u w c z n r a b d = omega (arith, a, b, d)

pub both_most : (sa sb w c a b n r : ℕ) → 9 + (a + b) ≤ c → sa ≤ (a + 0) + 0 → sb ≤ (b + 0) + 0 → w ≤ n + r → 1 + sa + sb + w ≤ (c + n) + r
both_most sa sb w c a b n r h ha hb hw = omega (arith, h, ha, hb, hw)

-- ---- the steps of an operation and of what follows
op_numbers : (c l s u w r n : ℕ) → c ≡ (9 + l) + s → u ≤ 1 + w → w ≤ (s + n) + r → u ≤ (c + n) + r
op_numbers c l s u w r n e h k = omega (arith, e, h, k)

pub op_cost : (ls rs : List Step) (u w r n : ℕ) → u ≤ 1 + w → w ≤ (cost rs + n) + r → u ≤ (cost ((one ∷ ls) ++ rs) + n) + r
op_cost ls rs u w r n h k = op_numbers (cost ((one ∷ ls) ++ rs)) (cost ls) (cost rs) u w r n (cost_both (one ∷ ls) rs ∙ ap (λ c. c + cost rs) (cost_one ls)) h k

-- ---- of a part and of what follows
behind_numbers : (a b c n : ℕ) → c ≡ a + b → a + (b + n) ≤ c + n
behind_numbers a b c n e = omega (arith, e)

pub behind_cost : (a b : List Step) (n : ℕ) → cost a + (cost b + n) ≤ cost (a ++ b) + n
behind_cost a b n = behind_numbers (cost a) (cost b) (cost (a ++ b)) n (cost_both a b)

-- ---- of a test and its arms
more_numbers : (a c : ℕ) → c ≡ 9 + a → a ≤ c
more_numbers a c e = omega (arith, e)

pub taken_cost : (zs ws : List Step) → ws ≡ zs → cost zs ≤ cost (one ∷ ws)
taken_cost zs ws e = more_numbers (cost zs) (cost (one ∷ ws)) (cost_one ws ∙ ap (λ s. 9 + cost s) e)

stays_numbers : (c l a b : ℕ) → c ≡ 9 + (l + (a + b)) → 9 + (a + b) ≤ c
stays_numbers c l a b e = omega (arith, e)

pub stays_cost : (ls xs bs ws : List Step) → ws ≡ ls ++ (xs ++ bs) → 9 + (cost xs + cost bs) ≤ cost (one ∷ ws)
stays_cost ls xs bs ws e =
    stays_numbers (cost (one ∷ ws)) (cost ls) (cost xs) (cost bs)
    (cost_one ws ∙ (ap (λ s. 9 + cost s) e ∙ (ap (λ c. 9 + c) (cost_both ls (xs ++ bs)) ∙ ap (λ c. 9 + (cost ls + c)) (cost_both xs bs))))

-- of a loop: its prologue and what the test takes
loop_numbers : (c q w b : ℕ) → c ≡ 9 + (q + w) → b ≤ w → 9 + (q + b) ≤ c
loop_numbers c q w b e h = omega (arith, e, h)

pub loop_cost : (qs ws : List Step) (b : ℕ) → b ≤ cost ws → 9 + (cost qs + b) ≤ cost (one ∷ (qs ++ ws))
loop_cost qs ws b h = loop_numbers (cost (one ∷ (qs ++ ws))) (cost qs) (cost ws) b (cost_one (qs ++ ws) ∙ ap (λ c. 9 + c) (cost_both qs ws)) h

once_numbers : (c q w : ℕ) → c ≡ 9 + (q + w) → q ≤ c
once_numbers c q w e = omega (arith, e)

pub once_cost : (qs ws : List Step) → cost qs ≤ cost (one ∷ (qs ++ ws))
once_cost qs ws = once_numbers (cost (one ∷ (qs ++ ws))) (cost qs) (cost ws) (cost_one (qs ++ ws) ∙ ap (λ c. 9 + c) (cost_both qs ws))

within_numbers : (c l a b : ℕ) → c ≡ l + (a + b) → a ≤ c
within_numbers c l a b e = omega (arith, e)

pub within_cost : (ls xs bs ws : List Step) → ws ≡ ls ++ (xs ++ bs) → cost xs ≤ cost ws
within_cost ls xs bs ws e =
    within_numbers (cost ws) (cost ls) (cost xs) (cost bs) (ap cost e ∙ (cost_both ls (xs ++ bs) ∙ ap (λ c. cost ls + c) (cost_both xs bs)))

-- ---- of rounds
round_numbers : (c b s u w r : ℕ) → c ≡ (9 + b) + s → u ≤ (b + 0) + w → w ≤ s + r → u ≤ c + r
round_numbers c b s u w r e h k = omega (arith, e, h, k)

pub round_cost : (bs rs : List Step) (u w r : ℕ) → u ≤ (cost bs + 0) + w → w ≤ cost rs + r → u ≤ cost ((one ∷ bs) ++ rs) + r
round_cost bs rs u w r h k = round_numbers (cost ((one ∷ bs) ++ rs)) (cost bs) (cost rs) u w r (cost_both (one ∷ bs) rs ∙ ap (λ c. c + cost rs) (cost_one bs)) h k

pub each_cost : (ls ws es rs : List Step) (n : ℕ) → cost ws + (cost rs + n) ≤ cost ((ls ++ (ws ++ es)) ++ rs) + n
each_cost ls ws es rs n =
    each_most (cost ((ls ++ (ws ++ es)) ++ rs)) (cost ls) (cost ws) (cost es) (cost rs) n
    (cost_both (ls ++ (ws ++ es)) rs ∙ ap (λ c. c + cost rs) (cost_both ls (ws ++ es) ∙ ap (λ c. cost ls + c) (cost_both ws es)))
  where
    each_most : (c l w e r n : ℕ) → c ≡ (l + (w + e)) + r → w + (r + n) ≤ c + n
    each_most c l w e r n h = omega (arith, h)

-- ---- of a call with so many arguments and results, of which the steps count those past the eighth
call_numbers : (c m a b s r x y n : ℕ) → c ≡ (9 + (m + (a + (b + s)))) + r → 9 * ((x + y) - 8) ≡ m → x + (b + (y + (r + n))) ≤ c + n
call_numbers c m a b s r x y n e h = omega (arith, e, h)

pub call_cost : (more xs bs ss rs : List Step) (x y n : ℕ) → length more ≡ (x + y) - 8 → x + (cost bs + (y + (cost rs + n))) ≤ cost ((one ∷ (more ++ (xs ++ (bs ++ ss)))) ++ rs) + n
call_cost more xs bs ss rs x y n e =
    call_numbers (cost ((one ∷ (more ++ (xs ++ (bs ++ ss)))) ++ rs)) (cost more) (cost xs) (cost bs) (cost ss) (cost rs) x y n
    (cost_both (one ∷ (more ++ (xs ++ (bs ++ ss)))) rs
    ∙ ap (λ c. c + cost rs) (cost_one (more ++ (xs ++ (bs ++ ss)))
    ∙ ap (λ c. 9 + c) (cost_both more (xs ++ (bs ++ ss)) ∙ ap (λ c. cost more + c) (cost_both xs (bs ++ ss) ∙ ap (λ c. cost xs + c) (cost_both bs ss)))))
    (ap (λ k. 9 * k) (sym e))
