-- Ranks that fall with each call leave no cycle, and where there is none the number of functions that one reaches is a rank.
use Rattle.std.proofs.Common.{◌≡◌, ℕ, zero, suc, ◌+◌, ◌<◌, ◌≤◌, ◌⊎◌, inl, inr, Bool, true, false, not, List, [], ◌∷◌, length, get_or, refl, sym, ap, ◌∙◌, subst, arith, cond}
use Rattle.std.specs.Prelude.{count_by}
use Rattle.std.proofs.lemmas.List.Sums.{sum_by-cons}
use Rattle.std.proofs.Math.ListN.{get_or-eq_default}
use Rattle.jz_type_storage.specs.InnerNumbers.{directly, further}
use Rattle.jz_type_storage.specs.InnerNumbers.{Has, row_of, Leads, IsFound, Descends}
use Rattle.jz_type_storage.specs.Numbers.{AreBelow}

within_or_not : (j k : ℕ) → (j < k) ⊎ (k ≤ j)
within_or_not j k = grind arith

-- what calls stands in the graph
pub caller_within : (g : List (List ℕ)) (i j : ℕ) → Has (row_of g i) j → i < length g
caller_within g i j h =
    elim (within_or_not i (length g)) [
      | inl lt ↦ lt
      | inr le ↦ absurd (let none : length (row_of g i) ≡ 0 = ap length (get_or-eq_default g [] le) in omega (arith, h.1, none))
    ]

-- a rank for each function, below the number of functions, and each call is of a function of lower rank
pub record Falls (g : List (List ℕ)) (ranks : List ℕ) : Type 0 where
  pub same : length ranks ≡ length g
  pub below : AreBelow ranks (length g)
  pub falls : (i j : ℕ) → Has (row_of g i) j → get_or ranks j 0 < get_or ranks i 0

ranks_fall : (g : List (List ℕ)) (ranks : List ℕ) → Falls g ranks → (i j : ℕ) → Leads g i j → get_or ranks j 0 < get_or ranks i 0
ranks_fall g ranks f i j (directly h) = f.falls i j h
ranks_fall g ranks f i k (further {j = j} r h) = omega (arith, ranks_fall g ranks f i j r, f.falls j k h)

pub no_cycle : (g : List (List ℕ)) (ranks : List ℕ) → Falls g ranks → (i : ℕ) → Leads g i i → ⊥
no_cycle g ranks f i r = omega (arith, ranks_fall g ranks f i i r)

-- the ranks of the first n functions were compared with those of the functions that they call
pub descends_from : (g : List (List ℕ)) (ranks : List ℕ) (n : ℕ) → length ranks ≡ length g → ((i : ℕ) → i < length ranks → get_or ranks i 0 < length g) → length g ≤ n
    → ((i k : ℕ) → i < n → k < length (row_of g i) → get_or ranks (get_or (row_of g i) k 0) 0 ≤ get_or ranks i 0) → Descends g ranks
descends_from g ranks n same below le held = record {
  same = same;
  below = below;
  stays = λ i j h. subst (λ x. get_or ranks x 0 ≤ get_or ranks i 0) h.2 (held i h.0 (omega (arith, caller_within g i j h, le)) h.1);
}

-- ---- the number of functions reached
joined : (g : List (List ℕ)) (i j k : ℕ) → Leads g i j → Leads g j k → Leads g i k
joined g i j k p (directly h) = further p h
joined g i j k p (further {j = m} q h) = further (joined g i j m p q) h

abbrev Within : List Bool → List Bool → Type 0
Within ms ns = (k : ℕ) → get_or ms k false ≡ true → get_or ns k false ≡ true

tail : (m n : Bool) (ms ns : List Bool) → Within (m ∷ ms) (n ∷ ns) → Within ms ns
tail m n ms ns w k = w (suc k)

fewer_one : (m n : Bool) → (m ≡ true → n ≡ true) → cond (not n) 1 0 ≤ cond (not m) 1 0
fewer_one true n h = let e = h refl in rw e (omega arith)
fewer_one false true h = omega arith
fewer_one false false h = omega arith

not_more : (m : Bool) (ms : List Bool) → count_by not (m ∷ ms) ≡ cond (not m) 1 0 + count_by not ms
not_more m ms = sum_by-cons (λ b. cond (not b) 1 0) m ms

fewer : (ms ns : List Bool) → length ms ≡ length ns → Within ms ns → count_by not ns ≤ count_by not ms
fewer [] [] e w = omega arith
fewer [] (n ∷ ns) e w = absurd (omega (arith, e))
fewer (m ∷ ms) [] e w = absurd (omega (arith, e))
fewer (m ∷ ms) (n ∷ ns) e w =
    let a = fewer_one m n (w zero) in
    let b = fewer ms ns (omega (arith, e)) (tail m n ms ns w) in
    omega (arith, a, b, not_more m ms, not_more n ns)

less : (ms ns : List Bool) (k : ℕ) → length ms ≡ length ns → Within ms ns → get_or ms k false ≡ false → get_or ns k false ≡ true → count_by not ns < count_by not ms
less [] [] k e w f t = cc
less [] (n ∷ ns) k e w f t = absurd (omega (arith, e))
less (m ∷ ms) [] k e w f t = absurd (omega (arith, e))
less (m ∷ ms) (n ∷ ns) zero e w f t =
    let one : ℕ = 1 in
    let naught : ℕ = 0 in
    let a : cond (not m) one naught ≡ one = ap (λ b. cond (not b) one naught) f in
    let d : cond (not n) one naught ≡ naught = ap (λ b. cond (not b) one naught) t in
    let b = fewer ms ns (omega (arith, e)) (tail m n ms ns w) in
    omega (arith, a, d, b, not_more m ms, not_more n ns)
less (m ∷ ms) (n ∷ ns) (suc k) e w f t =
    let a = fewer_one m n (w zero) in
    let b = less ms ns k (omega (arith, e)) (tail m n ms ns w) f t in
    omega (arith, a, b, not_more m ms, not_more n ns)

not_true : (b : Bool) → (b ≡ true → ⊥) → b ≡ false
not_true true h = absurd (h refl)
not_true false h = refl

-- a function that is called reaches fewer, since what calls it reaches it too
pub fewer_reached : (g : List (List ℕ)) (i j : ℕ) (m n : List Bool) (o p : List ℕ) → IsFound g i m o → IsFound g j n p → Has (row_of g i) j → (Leads g j j → ⊥) → length p < length o
fewer_reached g i j m n o p a b h apart =
    let w : Within n m = λ k t. (a.reached k).1 (joined g i j k (directly h) ((b.reached k).0 t)) in
    let t : get_or m j false ≡ true = (a.reached j).1 (directly h) in
    let f : get_or n j false ≡ false = not_true (get_or n j false) (λ u. apart ((b.reached j).0 u)) in
    let l = less n m j (b.same ∙ sym a.same) w f t in
    omega (arith, l, a.consistent.count, b.consistent.count, a.same, b.same)

some_not : (ms : List Bool) (k : ℕ) → k < length ms → get_or ms k false ≡ false → 0 < count_by not ms
some_not [] k l f = absurd (omega (arith, l))
some_not (m ∷ ms) zero l f =
    let one : ℕ = 1 in
    let naught : ℕ = 0 in
    let a : cond (not m) one naught ≡ one = ap (λ b. cond (not b) one naught) f in
    omega (arith, a, not_more m ms)
some_not (m ∷ ms) (suc k) l f = let b = some_not ms k (omega (arith, l)) f in omega (arith, b, not_more m ms)

pub reached_below : (g : List (List ℕ)) (i : ℕ) (m : List Bool) (o : List ℕ) → IsFound g i m o → i < length g → (Leads g i i → ⊥) → length o < length g
reached_below g i m o a lt apart =
    let f : get_or m i false ≡ false = not_true (get_or m i false) (λ u. apart ((a.reached i).0 u)) in
    let l = some_not m i (omega (arith, a.same, lt)) f in
    omega (arith, l, a.consistent.count, a.same)
