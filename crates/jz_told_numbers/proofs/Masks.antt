-- What a mask drops of numbers, one part after another.
use Rattle.std.proofs.Common.{◌≡◌, ℕ, zero, suc, List, [], ◌∷◌, ◌++◌, length, true, false, refl, ap, sym, ◌∙◌, subst, arith, append-nil, length-append}
use Rattle.jz_runs.specs.Rules.{stuck, went}
use Rattle.jz_meaning.specs.declared.value.Stuck.{Stuck}
use Rattle.jz_meaning.specs.Attempts.{Evaluation, numbers_first, and_then}
use Rattle.jz_arrays.specs.Cells.{Mask, numbers_kept, all_kept}
use Rattle.jz_arrays.specs.ScalarLaws.{IsThinned}
use Rattle.jz_told_numbers.specs.Dropped.{numbers_dropped, SameDropped, HasLength}

no_mask : (ns : List ℕ) → numbers_dropped [] ns ≡ []
no_mask [] = refl
no_mask (n ∷ ns) = refl

no_number : (m : Mask) → numbers_dropped m [] ≡ []
no_number [] = refl
no_number (true ∷ m) = refl
no_number (false ∷ m) = refl

pub none_of_all : (n : ℕ) (ns : List ℕ) → numbers_dropped (all_kept n) ns ≡ []
none_of_all zero ns = no_mask ns
none_of_all (suc n) [] = refl
none_of_all (suc n) (x ∷ ns) = none_of_all n ns

pub dropped_both : (m k : Mask) (ns ms : List ℕ) → length ns ≡ length m → numbers_dropped (m ++ k) (ns ++ ms) ≡ numbers_dropped m ns ++ numbers_dropped k ms
dropped_both [] k [] ms e = refl
dropped_both [] k (n ∷ ns) ms e = absurd cc
dropped_both (b ∷ m) k [] ms e = absurd cc
dropped_both (true ∷ m) k (n ∷ ns) ms e = dropped_both m k ns ms (omega (arith, e))
dropped_both (false ∷ m) k (n ∷ ns) ms e = ap (λ l. n ∷ l) (dropped_both m k ns ms (omega (arith, e)))

-- what stands behind and is kept
dropped_before : (m : Mask) (n : ℕ) (ns : List ℕ) → numbers_dropped (m ++ all_kept n) ns ≡ numbers_dropped m ns
dropped_before [] n ns = none_of_all n ns ∙ sym (no_mask ns)
dropped_before (b ∷ m) n [] = no_number (b ∷ (m ++ all_kept n)) ∙ sym (no_number (b ∷ m))
dropped_before (true ∷ m) n (x ∷ ns) = dropped_before m n ns
dropped_before (false ∷ m) n (x ∷ ns) = ap (λ l. x ∷ l) (dropped_before m n ns)

-- what is kept and what is dropped make the numbers
pub numbers_by_parts : (m : Mask) (ns ms : List ℕ) → length ns ≡ length m → length ms ≡ length m → numbers_kept m ns ≡ numbers_kept m ms → numbers_dropped m ns ≡ numbers_dropped m ms → ns ≡ ms
numbers_by_parts [] [] [] a b k d = refl
numbers_by_parts [] [] (y ∷ ms) a b k d = absurd cc
numbers_by_parts [] (x ∷ ns) ms a b k d = absurd cc
numbers_by_parts (c ∷ m) [] ms a b k d = absurd cc
numbers_by_parts (c ∷ m) (x ∷ ns) [] a b k d = absurd cc
numbers_by_parts (true ∷ m) (x ∷ ns) (y ∷ ms) a b k d =
    let p : x ≡ y = cc in let q : numbers_kept m ns ≡ numbers_kept m ms = cc in
    ap (λ z. z ∷ ns) p ∙ ap (λ l. y ∷ l) (numbers_by_parts m ns ms (omega (arith, a)) (omega (arith, b)) q d)
numbers_by_parts (false ∷ m) (x ∷ ns) (y ∷ ms) a b k d =
    let p : x ≡ y = cc in let q : numbers_dropped m ns ≡ numbers_dropped m ms = cc in
    ap (λ z. z ∷ ns) p ∙ ap (λ l. y ∷ l) (numbers_by_parts m ns ms (omega (arith, a)) (omega (arith, b)) k q)

pub no_mask_left : (m : Mask) → length m ≡ 0 → m ≡ []
no_mask_left [] e = refl
no_mask_left (b ∷ m) e = absurd cc

-- ---- parts

pub length_of : {A : Type 0} (m : Mask) (g h : Evaluation A) → IsThinned m g h → HasLength m g
length_of m (stuck w) h t = tt
length_of m (went ns a) h t = t.0

pub length_went : {A : Type 0} (m : Mask) (g : Evaluation A) (ns : List ℕ) (a : A) → HasLength m g → g ≡ went ns a → length ns ≡ length m
length_went m g ns a h q = subst (HasLength m) q h

pub first_stuck : {A : Type 0} (m : Mask) (w : Stuck) (g : Evaluation A) → SameDropped {A = A} {B = A} m (stuck w) g
first_stuck m w (stuck v) = tt
first_stuck m w (went ns a) = tt

pub second_stuck : {A : Type 0} (m : Mask) (g : Evaluation A) (w : Stuck) → SameDropped {A = A} {B = A} m g (stuck w)
second_stuck m (stuck v) w = tt
second_stuck m (went ns a) w = tt

pub drop_then : {A B : Type 0} (m k : Mask) (g g2 : Evaluation A) (f f2 : A → Evaluation B) → HasLength m g → HasLength m g2 → SameDropped m g g2
    → ((ns ms : List ℕ) (a b : A) → g ≡ went ns a → g2 ≡ went ms b → SameDropped k (f a) (f2 b)) → SameDropped (m ++ k) (and_then g f) (and_then g2 f2)
drop_then {A} {B} m k (stuck w) (stuck v) f f2 l l2 d h = tt
drop_then {A} {B} m k (stuck w) (went ms b) f f2 l l2 d h = first_stuck (m ++ k) w (numbers_first ms (f2 b))
drop_then {A} {B} m k (went ns a) (stuck w) f f2 l l2 d h = second_stuck (m ++ k) (numbers_first ns (f a)) w
drop_then {A} {B} m k (went ns a) (went ms b) f f2 l l2 d h = by_rest (f a) (f2 b) (h ns ms a b refl refl)
  where
    by_rest : (r r2 : Evaluation B) → SameDropped k r r2 → SameDropped (m ++ k) (numbers_first ns r) (numbers_first ms r2)
    by_rest (stuck v) (stuck w) e = tt
    by_rest (stuck v) (went us x) e = tt
    by_rest (went us x) (stuck w) e = tt
    by_rest (went us x) (went vs y) e = dropped_both m k ns us l ∙ ap (λ p. p ++ numbers_dropped k us) d ∙ ap (λ p. numbers_dropped m ms ++ p) e ∙ sym (dropped_both m k ms vs l2)

-- what is kept is never dropped
pub drop_kept : {A B : Type 0} (n : ℕ) (g : Evaluation A) (h : Evaluation B) → SameDropped (all_kept n) g h
drop_kept n (stuck v) (stuck w) = tt
drop_kept n (stuck v) (went ms b) = tt
drop_kept n (went ns a) (stuck w) = tt
drop_kept n (went ns a) (went ms b) = none_of_all n ns ∙ sym (none_of_all n ms)

-- whatever follows of which nothing is asked
pub drop_first : {A B : Type 0} (m : Mask) (g g2 : Evaluation A) (f f2 : A → Evaluation B) → HasLength m g → HasLength m g2 → SameDropped m g g2 → SameDropped m (and_then g f) (and_then g2 f2)
drop_first m g g2 f f2 l l2 d = subst (λ k. SameDropped k (and_then g f) (and_then g2 f2)) (append-nil m) (drop_then m [] g g2 f f2 l l2 d (λ ns ms a b p q. drop_kept 0 (f a) (f2 b)))

pub drop_before : {A B : Type 0} (m : Mask) (n : ℕ) (g : Evaluation A) (h : Evaluation B) → SameDropped m g h → SameDropped (m ++ all_kept n) g h
drop_before m n (stuck v) (stuck w) d = tt
drop_before m n (stuck v) (went ms b) d = tt
drop_before m n (went ns a) (stuck w) d = tt
drop_before m n (went ns a) (went ms b) d = dropped_before m n ns ∙ d ∙ sym (dropped_before m n ms)

-- one part that is the same in both, and what shows nothing behind it
pub drop_one : {A B D : Type 0} (m : Mask) (g : Evaluation A) (f : A → Evaluation B) (f2 : A → Evaluation D) → ((a : A) (ns : List ℕ) (b : B) → f a ≡ went ns b → ns ≡ []) → ((a : A) (ns : List ℕ) (b : D) → f2 a ≡ went ns b → ns ≡ []) → SameDropped m (and_then g f) (and_then g f2)
drop_one m (stuck w) f f2 h h2 = tt
drop_one {A} {B} {D} m (went ns a) f f2 h h2 = by_rest (f a) (f2 a) refl refl
  where
    by_rest : (r : Evaluation B) (q : Evaluation D) → f a ≡ r → f2 a ≡ q → SameDropped m (numbers_first ns r) (numbers_first ns q)
    by_rest (stuck v) (stuck w) x y = tt
    by_rest (stuck v) (went ms b) x y = tt
    by_rest (went us c) (stuck w) x y = tt
    by_rest (went us c) (went ms b) x y = ap (λ l. numbers_dropped m (ns ++ l)) (h a us c x ∙ sym (h2 a ms b y))

-- where the length of all is known, and that of what follows
pub drop_whole : {A B : Type 0} (m k : Mask) (g g2 : Evaluation A) (f f2 : A → Evaluation B) → HasLength (m ++ k) (and_then g f) → HasLength (m ++ k) (and_then g2 f2)
    → ((a : A) (ns : List ℕ) (b : B) → f a ≡ went ns b → length ns ≡ length k) → ((a : A) (ns : List ℕ) (b : B) → f2 a ≡ went ns b → length ns ≡ length k)
    → SameDropped m g g2 → ((a b : A) → SameDropped k (f a) (f2 b)) → SameDropped (m ++ k) (and_then g f) (and_then g2 f2)
drop_whole {A} {B} m k (stuck w) (stuck v) f f2 l l2 n n2 d h = tt
drop_whole {A} {B} m k (stuck w) (went ms b) f f2 l l2 n n2 d h = first_stuck (m ++ k) w (numbers_first ms (f2 b))
drop_whole {A} {B} m k (went ns a) (stuck w) f f2 l l2 n n2 d h = second_stuck (m ++ k) (numbers_first ns (f a)) w
drop_whole {A} {B} m k (went ns a) (went ms b) f f2 l l2 n n2 d h = by_rest (f a) (f2 b) refl refl (h a b)
  where
    by_rest : (r r2 : Evaluation B) → f a ≡ r → f2 b ≡ r2 → SameDropped k r r2 → SameDropped (m ++ k) (numbers_first ns r) (numbers_first ms r2)
    by_rest (stuck v) (stuck w) p q e = tt
    by_rest (stuck v) (went us x) p q e = tt
    by_rest (went us x) (stuck w) p q e = tt
    by_rest (went us x) (went vs y) p q e =
        let one : length ns ≡ length m = omega (arith, length_went (m ++ k) (numbers_first ns (f a)) (ns ++ us) x l (ap (numbers_first ns) p), n a us x p, length-append ns us, length-append m k) in
        let two : length ms ≡ length m = omega (arith, length_went (m ++ k) (numbers_first ms (f2 b)) (ms ++ vs) y l2 (ap (numbers_first ms) q), n2 b vs y q, length-append ms vs, length-append m k) in
        dropped_both m k ns us one ∙ ap (λ p. p ++ numbers_dropped k us) d ∙ ap (λ p. numbers_dropped m ms ++ p) e ∙ sym (dropped_both m k ms vs two)
