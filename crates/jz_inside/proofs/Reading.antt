-- Readings of sums, and accesses beside them.
use Rattle.std.proofs.Common.{◌≡◌, ℕ, suc, ◌+◌, ◌<◌, ◌≤◌, Bool, true, false, List, [], ◌∷◌, length, map, drop, get_or, Option, Some, None, refl, ap, sym, ◌∙◌, subst, arith}
use Rattle.std.specs.Prelude.{ℤ, pos, ◌+ℤ◌, ◌&&◌, ◌||◌, int_le, reverse}
use Rattle.std.proofs.lemmas.Int.{ints}
use Rattle.std.proofs.lemmas.List.{length-map, length-reverse}
use Rattle.jz_meaning.specs.Values.{Ref, ref_of}
use Rattle.jz_tree.specs.declared.expr.Var.{Var}
use Rattle.std.specs.Borrow.{Bor}
use Rattle.std.specs.Prelude.{if◌then◌else◌}
use Rattle.std.proofs.lemmas.List.{drop_more}
use Rattle.jz_intervals.specs.declared.interval.Interval.{Interval}
use Rattle.jz_meaning.specs.States.{Key, same_key}
use Rattle.jz_meaning.specs.Values.{key_of}
use Rattle.jz_facts.specs.Facts.{Is, Facts, Given, Region, least_of, lo_of}
use Rattle.jz_layers.specs.Spots.{variable_key}
use Rattle.jz_fact_sets.specs.Kept.{start_of, region_of}
use Rattle.jz_fact_sets.specs.declared.given.Parameter as parameter
use Rattle.jz_fact_sets.specs.declared.given.Region as code
use Rattle.jz_alarms.specs.Conditions.{Sum, Reading, readings_of, scaled_interval, least_length, below_length, is_inside, in_some_region}
use Rattle.jz_inside.specs.InnerSums.{scaled_of}
use Rattle.jz_inside.specs.declared.sums.Scaled.{Scaled}

-- a sum that has no reading
many_plain : (ps : List Ref) (ss : List (Ref × ℕ)) (m : ℤ) → 3 ≤ length ps → readings_of (record { plain = ps; scaled = ss; more = m }) ≡ []
many_plain [] ss m l = absurd (omega (arith, l))
many_plain (a ∷ []) ss m l = absurd (omega (arith, l))
many_plain (a ∷ b ∷ []) ss m l = absurd (omega (arith, l))
many_plain (a ∷ b ∷ c ∷ ps) [] m l = refl
many_plain (a ∷ b ∷ c ∷ ps) (i ∷ []) m l = refl
many_plain (a ∷ b ∷ c ∷ ps) (i ∷ j ∷ ss) m l = refl

many_scaled : (b : Ref) (ss : List (Ref × ℕ)) (m : ℤ) → 2 ≤ length ss → readings_of (record { plain = b ∷ []; scaled = ss; more = m }) ≡ []
many_scaled b [] m l = absurd (omega (arith, l))
many_scaled b (i ∷ []) m l = absurd (omega (arith, l))
many_scaled b (i ∷ j ∷ ss) m l = refl

two_and_scaled : (a b : Ref) (ss : List (Ref × ℕ)) (m : ℤ) → 1 ≤ length ss → readings_of (record { plain = a ∷ b ∷ []; scaled = ss; more = m }) ≡ []
two_and_scaled a b [] m l = absurd (omega (arith, l))
two_and_scaled a b (i ∷ []) m l = refl
two_and_scaled a b (i ∷ j ∷ ss) m l = refl

length_back : {A B : Type 0} (f : A → B) (xs : List A) → length (map f (reverse xs)) ≡ length xs
length_back f xs = length-map (reverse xs) f ∙ length-reverse xs

long_enough : (n m k : ℕ) → m ≡ n → k ≤ n → k ≤ m
long_enough n m k e l = omega (arith, e, l)

abbrev plain_in : List (Bor Var) → List Ref
plain_in vs = map (λ v. ref_of v.now) (reverse vs)

abbrev scaled_in : List Scaled → List (Ref × ℕ)
scaled_in ss = map scaled_of (reverse ss)

pub no_plain_reading : (ss : List (Ref × ℕ)) (m : ℤ) → readings_of (record { plain = []; scaled = ss; more = m }) ≡ []
no_plain_reading [] m = refl
no_plain_reading (i ∷ []) m = refl
no_plain_reading (i ∷ j ∷ ss) m = refl

pub three_plain : (vs : List (Bor Var)) (ss : List (Ref × ℕ)) (m : ℤ) → 3 ≤ length vs → readings_of (record { plain = plain_in vs; scaled = ss; more = m }) ≡ []
three_plain vs ss m l = many_plain (plain_in vs) ss m (long_enough (length vs) (length (plain_in vs)) 3 (length_back (λ (v : Bor Var). ref_of v.now) vs) l)

pub two_scaled : (b : Ref) (ss : List Scaled) (m : ℤ) → 2 ≤ length ss → readings_of (record { plain = b ∷ []; scaled = scaled_in ss; more = m }) ≡ []
two_scaled b ss m l = many_scaled b (scaled_in ss) m (long_enough (length ss) (length (scaled_in ss)) 2 (length_back scaled_of ss) l)

pub two_and_some : (a b : Ref) (ss : List Scaled) (m : ℤ) → 1 ≤ length ss → readings_of (record { plain = a ∷ b ∷ []; scaled = scaled_in ss; more = m }) ≡ []
two_and_some a b ss m l = two_and_scaled a b (scaled_in ss) m (long_enough (length ss) (length (scaled_in ss)) 1 (length_back scaled_of ss) l)

-- the bytes of an access beside the rest
pub beside : (h k : ℕ) (m : ℤ) → pos (h + k) +ℤ m ≡ pos h +ℤ (pos k +ℤ m)
beside h k m = omega (arith, ints)

-- ---- an access in a region

pub inside_is : (g : Given) (s : Facts) (k : ℕ) (a : Reading) (r : Region) (b l i w : Bool) (j : Interval) (m : ℤ) (e : ℕ)
    → b ≡ s (Is (key_of a.base) r.of) → j ≡ scaled_interval g s a.index → l ≡ int_le (pos 0) (pos j.lo +ℤ a.more) → m ≡ pos k +ℤ a.more
    → e ≡ least_length g s r → i ≡ int_le (pos j.hi +ℤ m) (pos e) → w ≡ below_length g s a.index r m
    → (b && (l && (i || w))) ≡ is_inside g s k a r
inside_is g s k a r b l i w j m e hb hj hl hm he hi hw =
    let q = scaled_interval g s a.index in
    let low : l ≡ int_le (pos 0) (pos q.lo +ℤ a.more) = hl ∙ ap (λ (x : Interval). int_le (pos 0) (pos x.lo +ℤ a.more)) hj in
    let inside : i ≡ int_le (pos (q.hi + k) +ℤ a.more) (pos (least_length g s r)) =
    hi ∙ ap (λ (x : Interval). int_le (pos x.hi +ℤ m) (pos e)) hj ∙ ap (λ x. int_le (pos q.hi +ℤ x) (pos e)) hm ∙ ap (λ x. int_le x (pos e)) (sym (beside q.hi k a.more))
    ∙ ap (λ x. int_le (pos (q.hi + k) +ℤ a.more) (pos x)) he in
    let below : w ≡ below_length g s a.index r (pos k +ℤ a.more) = hw ∙ ap (below_length g s a.index r) hm in
    ap (λ x. x && (l && (i || w))) hb
    ∙ ap (λ x. s (Is (key_of a.base) r.of) && (x && (i || w))) low
    ∙ ap (λ x. s (Is (key_of a.base) r.of) && (int_le (pos 0) (pos q.lo +ℤ a.more) && (x || w))) inside
    ∙ ap (λ x. s (Is (key_of a.base) r.of) && (int_le (pos 0) (pos q.lo +ℤ a.more) && (int_le (pos (q.hi + k) +ℤ a.more) (pos (least_length g s r)) || x))) below

pub some_here : (g : Given) (s : Facts) (k : ℕ) (a : Reading) (rs : List code.Region) (i : ℕ) (r : code.Region) → i < length rs → r ≡ get_or rs i r
    → is_inside g s k a (region_of r) ≡ true → true ≡ in_some_region g s k a (map region_of (drop i rs))
some_here g s k a rs i r lt ix e =
    sym (ap (λ l. in_some_region g s k a (map region_of l)) (drop_more rs i r lt ∙ ap (λ y. y ∷ drop (i + 1) rs) (sym ix))
    ∙ ap (λ b. b || in_some_region g s k a (map region_of (drop (i + 1) rs))) e)

pub least_here : (ps : List parameter.Parameter) (i : ℕ) (p : parameter.Parameter) (x : Key) → i < length ps → p ≡ get_or ps i p
    → same_key (variable_key p.var) x ≡ true → lo_of (start_of p) ≡ least_of (map start_of (drop i ps)) x
least_here ps i p x lt ix e =
    sym (ap (λ l. least_of (map start_of l) x) (drop_more ps i p lt ∙ ap (λ y. y ∷ drop (i + 1) ps) (sym ix))
    ∙ ap (λ b. if b then lo_of (start_of p) else least_of (map start_of (drop (i + 1) ps)) x) e)

pub either_of : (x y : Bool) → (x || y) ≡ (x || (y || false))
either_of true y = refl
either_of false true = refl
either_of false false = refl
