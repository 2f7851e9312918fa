-- Rows of numbers, and marks.
use Rattle.std.proofs.Common.{◌≡◌, ◌⊎◌, inl, inr, ◌<◌, ◌≤◌, ℕ, zero, suc, ◌+◌, Bool, true, false, List, [], ◌∷◌, ◌++◌, length, take, replicate, get_or, refl, sym, ap, ◌∙◌, subst, arith, length-append}
use Rattle.std.specs.Prelude.{◌&&◌, ◌||◌, nat_eq, slice_set}
use Rattle.std.proofs.lemmas.Bool.{false≢true}
use Rattle.std.proofs.lemmas.List.{take_more, take_all, get_or_default}
use Rattle.std.proofs.lemmas.Bool.Decides.{nat_tests}
use Rattle.jz_secrets.specs.Kept.{marked_at}
use Rattle.jz_secrets.specs.InnerGraphs.{has, row_at, unmarked, MarksRow, Path, here, on, AreReached}

clash : {A : Type 0} → true ≡ false → A
clash e = absurd (cc e)

pub itself : (n : ℕ) → nat_eq n n ≡ true
itself n = grind (arith, nat_tests)

pub either : (a b : Bool) → (a || b) ≡ true → (a ≡ true) ⊎ (b ≡ true)
either true b e = inl refl
either false b e = inr e

pub left_or : (a b : Bool) → a ≡ true → (a || b) ≡ true
left_or true b e = refl
left_or false b e = clash (sym e)

pub right_or : (a b : Bool) → b ≡ true → (a || b) ≡ true
right_or true b e = refl
right_or false b e = e

pub has_both : (xs ys : List ℕ) (n : ℕ) → has (xs ++ ys) n ≡ (has xs n || has ys n)
has_both [] ys n = refl
has_both (x ∷ xs) ys n = by (nat_eq x n) (has_both xs ys n)
  where
    by : (c : Bool) → has (xs ++ ys) n ≡ (has xs n || has ys n) → (c || has (xs ++ ys) n) ≡ ((c || has xs n) || has ys n)
    by true e = refl
    by false e = e

pub has_left : (xs ys : List ℕ) (n : ℕ) → has xs n ≡ true → has (xs ++ ys) n ≡ true
has_left xs ys n e = has_both xs ys n ∙ left_or (has xs n) (has ys n) e

pub has_right : (xs ys : List ℕ) (n : ℕ) → has ys n ≡ true → has (xs ++ ys) n ≡ true
has_right xs ys n e = has_both xs ys n ∙ right_or (has xs n) (has ys n) e

pub has_one_of : (xs ys : List ℕ) (n : ℕ) → has (xs ++ ys) n ≡ true → (has xs n ≡ true) ⊎ (has ys n ≡ true)
has_one_of xs ys n e = either (has xs n) (has ys n) (sym (has_both xs ys n) ∙ e)

pub only_one : (x n : ℕ) → has (x ∷ []) n ≡ true → x ≡ n
only_one x n e = by (either (nat_eq x n) false e)
  where
    by : (nat_eq x n ≡ true) ⊎ (false ≡ true) → x ≡ n
    by (inl h) = grind (arith, nat_tests, h)
    by (inr h) = absurd (false≢true h)

pub that_one : (x : ℕ) → has (x ∷ []) x ≡ true
that_one x = left_or (nat_eq x x) false (itself x)

-- ---- marks

pub set_there : (ms : List Bool) (i : ℕ) → i < length ms → marked_at (slice_set ms i true) i ≡ true
set_there [] i l = absurd (omega (arith, l))
set_there (m ∷ ms) zero l = refl
set_there (m ∷ ms) (suc i) l = let h : i < length ms = omega (arith, l) in set_there ms i h

pub set_else : (ms : List Bool) (i n : ℕ) → (i ≡ n → ⊥) → marked_at (slice_set ms i true) n ≡ marked_at ms n
set_else [] i n f = refl
set_else (m ∷ ms) zero zero f = absurd (f refl)
set_else (m ∷ ms) zero (suc n) f = refl
set_else (m ∷ ms) (suc i) zero f = refl
set_else (m ∷ ms) (suc i) (suc n) f = set_else ms i n (λ e. f (ap suc e))

pub set_long : (ms : List Bool) (i : ℕ) → length (slice_set ms i true) ≡ length ms
set_long [] i = refl
set_long (m ∷ ms) zero = refl
set_long (m ∷ ms) (suc i) = ap suc (set_long ms i)

pub set_fewer : (ms : List Bool) (i : ℕ) → i < length ms → marked_at ms i ≡ false → suc (unmarked (slice_set ms i true)) ≡ unmarked ms
set_fewer [] i l e = absurd (omega (arith, l))
set_fewer (true ∷ ms) zero l e = clash e
set_fewer (false ∷ ms) zero l e = refl
set_fewer (true ∷ ms) (suc i) l e = let h : i < length ms = omega (arith, l) in set_fewer ms i h e
set_fewer (false ∷ ms) (suc i) l e = let h : i < length ms = omega (arith, l) in ap suc (set_fewer ms i h e)

same_or_not : (i n : ℕ) → (i ≡ n) ⊎ (i ≡ n → ⊥)
same_or_not i n = by (nat_eq i n) refl
  where
    by : (c : Bool) → nat_eq i n ≡ c → (i ≡ n) ⊎ (i ≡ n → ⊥)
    by true e = inl (grind (arith, nat_tests, e))
    by false e = inr (λ h. absurd (grind (arith, nat_tests, e, h)))

pub stay_set : (ms : List Bool) (i n : ℕ) → i < length ms → marked_at ms n ≡ true → marked_at (slice_set ms i true) n ≡ true
stay_set ms i n l e = by (same_or_not i n)
  where
    by : (i ≡ n) ⊎ (i ≡ n → ⊥) → marked_at (slice_set ms i true) n ≡ true
    by (inl h) = subst (λ (j : ℕ). marked_at (slice_set ms i true) j ≡ true) h (set_there ms i l)
    by (inr h) = set_else ms i n h ∙ e

pub only_set : (ms : List Bool) (i n : ℕ) → marked_at (slice_set ms i true) n ≡ true → (marked_at ms n ≡ true) ⊎ (i ≡ n)
only_set ms i n e = by (same_or_not i n)
  where
    by : (i ≡ n) ⊎ (i ≡ n → ⊥) → (marked_at ms n ≡ true) ⊎ (i ≡ n)
    by (inl h) = inr h
    by (inr h) = inl (sym (set_else ms i n h) ∙ e)

pub none_yet : (ms : List Bool) (left : List ℕ) → MarksRow [] ms ms left left
none_yet ms left = record {
  rows = refl;
  stay = λ n e. e;
  all = λ n e. absurd (false≢true e);
  only = λ n e. inl e;
  left = λ n e. e;
  fresh = λ n e. inl e;
  within = λ n e. inl e;
}

-- it was marked before
pub marked_before : (x : ℕ) (ms : List Bool) (left : List ℕ) → marked_at ms x ≡ true → MarksRow (x ∷ []) ms ms left left
marked_before x ms left h = record {
  rows = refl;
  stay = λ n e. e;
  all = λ n e. subst (λ (j : ℕ). marked_at ms j ≡ true) (only_one x n e) h;
  only = λ n e. inl e;
  left = λ n e. e;
  fresh = λ n e. inl e;
  within = λ n e. inl e;
}

pub marked_now : (x : ℕ) (ms new : List Bool) (left behind : List ℕ) → x < length ms → new ≡ slice_set ms x true → behind ≡ left ++ x ∷ [] → MarksRow (x ∷ []) ms new left behind
marked_now x ms new left behind l p q =
    subst (λ (z : List Bool). MarksRow (x ∷ []) ms z left behind) (sym p) (subst (λ (z : List ℕ). MarksRow (x ∷ []) ms (slice_set ms x true) left z) (sym q) (record {
      rows = set_long ms x;
      stay = λ n e. stay_set ms x n l e;
      all = λ n e. subst (λ (j : ℕ). marked_at (slice_set ms x true) j ≡ true) (only_one x n e) (set_there ms x l);
      only = λ n e. there n (only_set ms x n e);
      left = λ n e. has_left left (x ∷ []) n e;
      fresh = λ n e. behind_it n (only_set ms x n e);
      within = λ n e. has_one_of left (x ∷ []) n e;
    }))
  where
    there : (n : ℕ) → (marked_at ms n ≡ true) ⊎ (x ≡ n) → (marked_at ms n ≡ true) ⊎ (has (x ∷ []) n ≡ true)
    there n (inl e) = inl e
    there n (inr e) = inr (subst (λ (j : ℕ). has (x ∷ []) j ≡ true) e (that_one x))

    behind_it : (n : ℕ) → (marked_at ms n ≡ true) ⊎ (x ≡ n) → (marked_at ms n ≡ true) ⊎ (has (left ++ x ∷ []) n ≡ true)
    behind_it n (inl e) = inl e
    behind_it n (inr e) = inr (has_right left (x ∷ []) n (subst (λ (j : ℕ). has (x ∷ []) j ≡ true) e (that_one x)))

pub one_more : (row : List ℕ) (x : ℕ) (a b c : List Bool) (l m n : List ℕ) → MarksRow row a b l m → MarksRow (x ∷ []) b c m n → MarksRow (row ++ x ∷ []) a c l n
one_more row x a b c l m n p q = record {
  rows = q.rows ∙ p.rows;
  stay = λ i e. q.stay i (p.stay i e);
  all = λ i e. all_of i (has_one_of row (x ∷ []) i e);
  only = λ i e. only_of i (q.only i e);
  left = λ i e. q.left i (p.left i e);
  fresh = λ i e. fresh_of i (q.fresh i e);
  within = λ i e. within_of i (q.within i e);
}
  where
    all_of : (i : ℕ) → (has row i ≡ true) ⊎ (has (x ∷ []) i ≡ true) → marked_at c i ≡ true
    all_of i (inl e) = q.stay i (p.all i e)
    all_of i (inr e) = q.all i e

    only_by : (i : ℕ) → (marked_at a i ≡ true) ⊎ (has row i ≡ true) → (marked_at a i ≡ true) ⊎ (has (row ++ x ∷ []) i ≡ true)
    only_by i (inl e) = inl e
    only_by i (inr e) = inr (has_left row (x ∷ []) i e)

    only_of : (i : ℕ) → (marked_at b i ≡ true) ⊎ (has (x ∷ []) i ≡ true) → (marked_at a i ≡ true) ⊎ (has (row ++ x ∷ []) i ≡ true)
    only_of i (inl e) = only_by i (p.only i e)
    only_of i (inr e) = inr (has_right row (x ∷ []) i e)

    fresh_by : (i : ℕ) → (marked_at a i ≡ true) ⊎ (has m i ≡ true) → (marked_at a i ≡ true) ⊎ (has n i ≡ true)
    fresh_by i (inl e) = inl e
    fresh_by i (inr e) = inr (q.left i e)

    fresh_of : (i : ℕ) → (marked_at b i ≡ true) ⊎ (has n i ≡ true) → (marked_at a i ≡ true) ⊎ (has n i ≡ true)
    fresh_of i (inl e) = fresh_by i (p.fresh i e)
    fresh_of i (inr e) = inr e

    within_by : (i : ℕ) → (has l i ≡ true) ⊎ (has row i ≡ true) → (has l i ≡ true) ⊎ (has (row ++ x ∷ []) i ≡ true)
    within_by i (inl e) = inl e
    within_by i (inr e) = inr (has_left row (x ∷ []) i e)

    within_of : (i : ℕ) → (has m i ≡ true) ⊎ (has (x ∷ []) i ≡ true) → (has l i ≡ true) ⊎ (has (row ++ x ∷ []) i ≡ true)
    within_of i (inl e) = within_by i (p.within i e)
    within_of i (inr e) = inr (has_right row (x ∷ []) i e)

-- ---- what is reached, as far as it has come

pub record Reaching (rows : List (List ℕ)) (start : ℕ) (ms : List Bool) (left : List ℕ) : Type 0 where
  pub long : length ms ≡ length rows
  pub begun : marked_at ms start ≡ true
  pub paths : (n : ℕ) → marked_at ms n ≡ true → Path rows start n
  pub open_ones : (u v : ℕ) → marked_at ms u ≡ true → has (row_at rows u) v ≡ true → (has left u ≡ true) ⊎ (marked_at ms v ≡ true)
  pub marked : (n : ℕ) → has left n ≡ true → marked_at ms n ≡ true
  pub below : (n : ℕ) → has left n ≡ true → n < length rows

module _ (rows : List (List ℕ)) (start : ℕ) (within : (u v : ℕ) → has (row_at rows u) v ≡ true → v < length rows) where
  pub first_reached : (ms new : List Bool) (left : List ℕ) → length ms ≡ length rows → ((n : ℕ) → marked_at ms n ≡ false) → start < length rows → MarksRow (start ∷ []) ms new [] left → Reaching rows start new left
  first_reached ms new left l none b m = record {
    long = m.rows ∙ l;
    begun = m.all start (that_one start);
    paths = λ n e. path n (m.only n e);
    open_ones = λ u v e h. inl (fresh u (m.fresh u e));
    marked = λ n e. is_marked n (m.within n e);
    below = λ n e. is_below n (m.within n e);
  }
    where
      path : (n : ℕ) → (marked_at ms n ≡ true) ⊎ (has (start ∷ []) n ≡ true) → Path rows start n
      path n (inl e) = absurd (false≢true (sym (none n) ∙ e))
      path n (inr e) = subst (λ (j : ℕ). Path rows start j) (only_one start n e) here

      fresh : (u : ℕ) → (marked_at ms u ≡ true) ⊎ (has left u ≡ true) → has left u ≡ true
      fresh u (inl e) = absurd (false≢true (sym (none u) ∙ e))
      fresh u (inr e) = e

      is_marked : (n : ℕ) → (has [] n ≡ true) ⊎ (has (start ∷ []) n ≡ true) → marked_at new n ≡ true
      is_marked n (inl e) = absurd (false≢true e)
      is_marked n (inr e) = m.all n e

      is_below : (n : ℕ) → (has [] n ≡ true) ⊎ (has (start ∷ []) n ≡ true) → n < length rows
      is_below n (inl e) = absurd (false≢true e)
      is_below n (inr e) = subst (λ (j : ℕ). j < length rows) (only_one start n e) b

  -- one is taken, and gone on from
  pub next_reached : (ms new : List Bool) (left rest behind : List ℕ) (x : ℕ) → left ≡ rest ++ x ∷ [] → Reaching rows start ms left → MarksRow (row_at rows x) ms new rest behind → Reaching rows start new behind
  next_reached ms new left rest behind x e r m = record {
    long = m.rows ∙ r.long;
    begun = m.stay start r.begun;
    paths = λ n h. path n (m.only n h);
    open_ones = λ u v h i. open_by u v i (m.fresh u h);
    marked = λ n h. is_marked n (m.within n h);
    below = λ n h. is_below n (m.within n h);
  }
    where
      had : (n : ℕ) → has rest n ≡ true → has left n ≡ true
      had n h = ap (λ z. has z n) e ∙ has_left rest (x ∷ []) n h

      x_had : has left x ≡ true
      x_had = ap (λ z. has z x) e ∙ has_right rest (x ∷ []) x (that_one x)

      path : (n : ℕ) → (marked_at ms n ≡ true) ⊎ (has (row_at rows x) n ≡ true) → Path rows start n
      path n (inl h) = r.paths n h
      path n (inr h) = on (r.paths x (r.marked x x_had)) h

      taken : (u v : ℕ) → has (row_at rows u) v ≡ true → (has rest u ≡ true) ⊎ (has (x ∷ []) u ≡ true) → (has behind u ≡ true) ⊎ (marked_at new v ≡ true)
      taken u v i (inl h) = inl (m.left u h)
      taken u v i (inr h) = inr (m.all v (subst (λ (j : ℕ). has (row_at rows j) v ≡ true) (sym (only_one x u h)) i))

      before : (u v : ℕ) → has (row_at rows u) v ≡ true → (has left u ≡ true) ⊎ (marked_at ms v ≡ true) → (has behind u ≡ true) ⊎ (marked_at new v ≡ true)
      before u v i (inl h) = taken u v i (has_one_of rest (x ∷ []) u (sym (ap (λ z. has z u) e) ∙ h))
      before u v i (inr h) = inr (m.stay v h)

      open_by : (u v : ℕ) → has (row_at rows u) v ≡ true → (marked_at ms u ≡ true) ⊎ (has behind u ≡ true) → (has behind u ≡ true) ⊎ (marked_at new v ≡ true)
      open_by u v i (inl h) = before u v i (r.open_ones u v h i)
      open_by u v i (inr h) = inl h

      is_marked : (n : ℕ) → (has rest n ≡ true) ⊎ (has (row_at rows x) n ≡ true) → marked_at new n ≡ true
      is_marked n (inl h) = m.stay n (r.marked n (had n h))
      is_marked n (inr h) = m.all n h

      is_below : (n : ℕ) → (has rest n ≡ true) ⊎ (has (row_at rows x) n ≡ true) → n < length rows
      is_below n (inl h) = r.below n (had n h)
      is_below n (inr h) = within x n h

  x_there : (left rest : List ℕ) (x : ℕ) → left ≡ rest ++ x ∷ [] → has left x ≡ true
  x_there left rest x e = ap (λ z. has z x) e ∙ has_right rest (x ∷ []) x (that_one x)

  pub popped_below : (ms : List Bool) (left rest : List ℕ) (x : ℕ) → left ≡ rest ++ x ∷ [] → Reaching rows start ms left → x < length rows
  popped_below ms left rest x e r = r.below x (x_there left rest x e)

  pub row_within : (ms : List Bool) (left rest : List ℕ) (x : ℕ) (row : List ℕ) → left ≡ rest ++ x ∷ [] → row ≡ get_or rows x row → Reaching rows start ms left → (n : ℕ) → has row n ≡ true → n < length ms
  row_within ms left rest x row e is r n h =
      let row_is : row ≡ row_at rows x = is ∙ get_or_default rows x row [] (popped_below ms left rest x e r) in
      let below : n < length rows = within x n (ap (λ z. has z n) (sym row_is) ∙ h) in
      let long = r.long in
      omega (arith, below, long)

  pub gone_on : (ms new : List Bool) (left rest behind : List ℕ) (x : ℕ) (row : List ℕ) → left ≡ rest ++ x ∷ [] → row ≡ get_or rows x row → Reaching rows start ms left → MarksRow row ms new rest behind → Reaching rows start new behind
  gone_on ms new left rest behind x row e is r m =
      next_reached ms new left rest behind x e r (subst (λ (z : List ℕ). MarksRow z ms new rest behind) (is ∙ get_or_default rows x row [] (popped_below ms left rest x e r)) m)

  pub all_reached : (ms : List Bool) (left : List ℕ) → left ≡ [] → Reaching rows start ms left → AreReached rows start ms
  all_reached ms left e s = let r = subst (λ (z : List ℕ). Reaching rows start ms z) e s in record {
    long = r.long;
    begun = r.begun;
    closed = λ u v g h. by u v (r.open_ones u v g h);
    forced = r.paths;
  }
    where
      by : (u v : ℕ) → (has [] u ≡ true) ⊎ (marked_at ms v ≡ true) → marked_at ms v ≡ true
      by u v (inl e) = absurd (false≢true e)
      by u v (inr e) = e

-- ---- rows and marks that are pushed

pub row_more : (rows : List (List ℕ)) (u v : ℕ) → has (row_at (rows ++ [] ∷ []) u) v ≡ has (row_at rows u) v
row_more [] zero v = refl
row_more [] (suc u) v = refl
row_more (r ∷ rows) zero v = refl
row_more (r ∷ rows) (suc u) v = row_more rows u v

-- ---- a row, as far as a loop has come

pub row_next : (xs row : List ℕ) (i : ℕ) (a b c : List Bool) (l m n : List ℕ) → xs ≡ row → i < length xs → MarksRow (take i row) a b l m → MarksRow (get_or xs i 0 ∷ []) b c m n → MarksRow (take (i + 1) row) a c l n
row_next xs row i a b c l m n e lt p q =
    subst (λ (z : List ℕ). MarksRow (take (i + 1) z) a c l n) e
    (subst (λ (z : List ℕ). MarksRow z a c l n) (sym (take_more xs i 0 lt))
    (one_more (take i xs) (get_or xs i 0) a b c l m n (subst (λ (z : List ℕ). MarksRow (take i z) a b l m) (sym e) p) q))

pub row_done : (row : List ℕ) (i : ℕ) (a b : List Bool) (l m : List ℕ) → length row ≤ i → MarksRow (take i row) a b l m → MarksRow row a b l m
row_done row i a b l m e p = subst (λ (z : List ℕ). MarksRow z a b l m) (take_all i row e) p

its_own : (xs : List ℕ) (i : ℕ) → i < length xs → has xs (get_or xs i 0) ≡ true
its_own [] i lt = absurd (omega (arith, lt))
its_own (y ∷ xs) zero lt = left_or (nat_eq y y) (has xs y) (itself y)
its_own (y ∷ xs) (suc i) lt =
    let h : i < length xs = omega (arith, lt) in
    right_or (nat_eq y (get_or xs i 0)) (has xs (get_or xs i 0)) (its_own xs i h)

pub row_has : (xs row : List ℕ) (i : ℕ) → xs ≡ row → i < length xs → has row (get_or xs i 0) ≡ true
row_has xs row i e lt = subst (λ (z : List ℕ). has z (get_or xs i 0) ≡ true) e (its_own xs i lt)

-- ---- one number

pub marks_again : (x : ℕ) (ms : List Bool) (left : List ℕ) (r : Bool) → x < length ms → r ≡ get_or ms x r → r ≡ true → MarksRow (x ∷ []) ms ms left left
marks_again x ms left r l p e = marked_before x ms left (sym (p ∙ get_or_default ms x r false l) ∙ e)

pub fewer_now : (x : ℕ) (ms new : List Bool) (left behind : List ℕ) (r : Bool) → x < length ms → r ≡ get_or ms x r → r ≡ false → new ≡ slice_set ms x true → behind ≡ left ++ x ∷ []
    → unmarked new + length behind ≡ unmarked ms + length left
fewer_now x ms new left behind r l p e q b =
    let one : suc (unmarked (slice_set ms x true)) ≡ unmarked ms = set_fewer ms x l (sym (p ∙ get_or_default ms x r false l) ∙ e) in
    let same : unmarked new ≡ unmarked (slice_set ms x true) = ap unmarked q in
    let longer : length behind ≡ length left + 1 = ap length b ∙ length-append left (x ∷ []) in
    omega (arith, one, same, longer)

-- ---- before the first, and behind one that is taken

pub replicated : (count : ℕ) → length (replicate count false) ≡ count
replicated zero = refl
replicated (suc count) = ap suc (replicated count)

pub fewer_left : (ms new : List Bool) (left rest behind : List ℕ) (x : ℕ) → left ≡ rest ++ x ∷ [] → unmarked new + length behind ≡ unmarked ms + length rest → unmarked new + length behind < unmarked ms + length left
fewer_left ms new left rest behind x e f =
    let longer : length left ≡ length rest + 1 = ap length e ∙ length-append rest (x ∷ []) in omega (arith, longer, f)

pub none_is : (count n : ℕ) → marked_at (replicate count false) n ≡ false
none_is zero n = refl
none_is (suc count) zero = refl
none_is (suc count) (suc n) = none_is count n

pub first_row : (u v : ℕ) → has (row_at ([] ∷ []) u) v ≡ false
first_row zero v = refl
first_row (suc u) v = refl

pub rows_begun : (none rows : List (List ℕ)) (row : List ℕ) → none ≡ [] → rows ≡ none ++ row ∷ [] → row ≡ [] → (length rows ≡ 0 + 1) × ((u v : ℕ) → has (row_at rows u) v ≡ false)
rows_begun none rows row e f g =
    let one : rows ≡ [] ∷ [] = f ∙ ap (λ (z : List (List ℕ)). z ++ row ∷ []) e ∙ ap (λ (r : List ℕ). r ∷ []) g in
    (ap length one, λ u v. ap (λ (z : List (List ℕ)). has (row_at z u) v) one ∙ first_row u v)

row_pushed : (rows new : List (List ℕ)) (row : List ℕ) → new ≡ rows ++ row ∷ [] → row ≡ [] → ((u v : ℕ) → has (row_at rows u) v ≡ false) → (u v : ℕ) → has (row_at new u) v ≡ false
row_pushed rows new row e f h u v =
    ap (λ (z : List (List ℕ)). has (row_at z u) v) (e ∙ ap (λ (r : List ℕ). rows ++ r ∷ []) f) ∙ row_more rows u v ∙ h u v

pub rows_pushed : (rows new : List (List ℕ)) (row : List ℕ) (n : ℕ) → new ≡ rows ++ row ∷ [] → row ≡ [] → length rows ≡ n + 1 → ((u v : ℕ) → has (row_at rows u) v ≡ false) → (length new ≡ n + 1 + 1) × ((u v : ℕ) → has (row_at new u) v ≡ false)
rows_pushed rows new row n e f l h =
    let longer : length new ≡ length rows + 1 = ap length e ∙ length-append rows (row ∷ []) in
    (omega (arith, longer, l), row_pushed rows new row e f h)

-- ---- a row that is longer

or_false : (b : Bool) → (b || false) ≡ b
or_false true = refl
or_false false = refl

not_same : (i n : ℕ) → (i ≡ n → ⊥) → nat_eq i n ≡ false
not_same i n f = by (nat_eq i n) refl
  where
    by : (c : Bool) → nat_eq i n ≡ c → c ≡ false
    by true e = absurd (f (grind (arith, nat_tests, e)))
    by false e = refl

same_row : (rows : List (List ℕ)) (i : ℕ) (x : List ℕ) → i < length rows → row_at (slice_set rows i x) i ≡ x
same_row [] i x l = absurd (omega (arith, l))
same_row (r ∷ rows) zero x l = refl
same_row (r ∷ rows) (suc i) x l = let h : i < length rows = omega (arith, l) in same_row rows i x h

other_row : (rows : List (List ℕ)) (i u : ℕ) (x : List ℕ) → (i ≡ u → ⊥) → row_at (slice_set rows i x) u ≡ row_at rows u
other_row [] i u x f = refl
other_row (r ∷ rows) zero zero x f = absurd (f refl)
other_row (r ∷ rows) zero (suc u) x f = refl
other_row (r ∷ rows) (suc i) zero x f = refl
other_row (r ∷ rows) (suc i) (suc u) x f = other_row rows i u x (λ e. f (ap suc e))

pub rows_long : (rows : List (List ℕ)) (i : ℕ) (x : List ℕ) → length (slice_set rows i x) ≡ length rows
rows_long [] i x = refl
rows_long (r ∷ rows) zero x = refl
rows_long (r ∷ rows) (suc i) x = ap suc (rows_long rows i x)

pub row_longer : (rows : List (List ℕ)) (i to : ℕ) (row : List ℕ) → i < length rows → row ≡ get_or rows i row → (u v : ℕ) → has (row_at (slice_set rows i (row ++ to ∷ [])) u) v ≡ (has (row_at rows u) v || (nat_eq i u && nat_eq to v))
row_longer rows i to row l e u v = by (same_or_not i u)
  where
    by : (i ≡ u) ⊎ (i ≡ u → ⊥) → has (row_at (slice_set rows i (row ++ to ∷ [])) u) v ≡ (has (row_at rows u) v || (nat_eq i u && nat_eq to v))
    by (inl h) =
        ap (λ (j : ℕ). has (row_at (slice_set rows i (row ++ to ∷ [])) j) v) (sym h)
        ∙ ap (λ (z : List ℕ). has z v) (same_row rows i (row ++ to ∷ []) l)
        ∙ has_both row (to ∷ []) v
        ∙ ap (λ (b : Bool). has row v || b) (or_false (nat_eq to v))
        ∙ ap (λ (z : List ℕ). has z v || nat_eq to v) (e ∙ get_or_default rows i row [] l)
        ∙ ap (λ (b : Bool). has (row_at rows i) v || (b && nat_eq to v)) (sym (itself i))
        ∙ ap (λ (j : ℕ). has (row_at rows j) v || (nat_eq i j && nat_eq to v)) h
    by (inr f) =
        ap (λ (z : List ℕ). has z v) (other_row rows i u (row ++ to ∷ []) f)
        ∙ sym (or_false (has (row_at rows u) v))
        ∙ ap (λ (b : Bool). has (row_at rows u) v || (b && nat_eq to v)) (sym (not_same i u f))
