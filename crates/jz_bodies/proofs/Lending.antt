-- Arrays that a call shares: what the callee sets the caller may set, and no such array is passed twice.
use Rattle.std.proofs.Common.{◌≡◌, ℕ, zero, suc, ◌+◌, ◌<◌, ◌==◌, Bool, true, false, not, ◌&&◌, ◌||◌, List, [], ◌∷◌, ◌++◌, Option, Some, None, map, flat_map, refl, sym, ap, ◌∙◌, subst, inl, inr, if◌then◌else◌, arith, bytes_eq, eqb-true}
use Rattle.std.specs.Prelude.{◌⊎◌, All, AllPairs, nat_eq, slice_get, unwrap_or, filter, option_to_list}
use Rattle.std.specs.List.{list_any, zip}
use Rattle.std.proofs.lemmas.Bool.{and_parts, false≢true, and_from, or_cases, or_left, or_right, not-true, or_parts, false_from_ne_true}
use Rattle.std.proofs.lemmas.List.Elements.{All-nil, All-cons, All-head, All-tail, All-weaker}
use Rattle.std.proofs.lemmas.List.Kept.{AllPairs-cons}
use Rattle.std.proofs.lemmas.List.Folds.{list_any-append}
use Rattle.jz_tree.proofs.Texts.{bytes_eq-true}
use Rattle.jz_tree.specs.Size.{Size}
use Rattle.jz_tree.specs.declared.expr.Expr.{Expr}
use Rattle.jz_tree.specs.declared.expr.Var.{Var}
use Rattle.jz_tree.specs.declared.expr.Expr.TheViews.{out-Var}
use Rattle.jz_tree.specs.declared.stmt.Lval.{Lval}
use Rattle.jz_tree.specs.declared.stmt.Lval.TheVariants as lval
use Rattle.jz_tree.specs.declared.program.Fun.{Fun}
use Rattle.jz_tree.specs.declared.program.Param.{Param}
use Rattle.jz_tree.specs.declared.program.Program.{Program}
use Rattle.jz_type_names.specs.Kinds.{known_of}
use Rattle.jz_type_names.specs.Kinds as names
use Rattle.jz_type_names.specs.Order.{unless}
use Rattle.jz_type_names.specs.Scopes.{variables_of, text_of}
use Rattle.jz_type_names.specs.Parts.{whole_left, left_vars}
use Rattle.jz_type_names.proofs.Empty.{both, passed}
use Rattle.jz_run_laws.specs.Callees.{names_set, is_written}
use Rattle.jz_run_laws.specs.Copies as copies
use Rattle.jz_run_laws.specs.Copies.{are_one, is_one, passed_as, gets_back, numbers_back, is_written_at, passed_at, passed_from, not_back, is_twice, passed_twice, span_of_var}
use Rattle.jz_judgement.proofs.Nothing.{none_not, same_some}
use Rattle.jz_meaning.specs.declared.access.Kind.TheVariants as kind
use Rattle.jz_meaning.specs.States.{Key, same_key}
use Rattle.jz_meaning.specs.Values.{Ref, cell_key, ref_of}
use Rattle.jz_meaning.specs.Statements as meaning
use Rattle.jz_texts.specs.Declared as texts
use Rattle.jz_texts.proofs.Lists.{parted, pairs_head, pairs_tail}
use Rattle.jz_bodies.specs.Scopes.{Scope, a_scalar, a_cell, Sets}
use Rattle.jz_bodies.specs.Calls.{is_array, IsLent, lent_here, lent_later}
use Rattle.jz_bodies.specs.Declared as declared
use Rattle.jz_bodies.specs.Declared.{is_among, arrays_set, scopes_in}
use Rattle.jz_bodies.proofs.Refs.{bytes_same, number_same, keys_same, one_is, ref_name}
use Rattle.jz_bodies.proofs.Owning.{one_of, set_among}
use Rattle.jz_bodies.proofs.Variables.{IsVariable}
use Rattle.jz_bodies.proofs.Writing.{IsSet, known_array, sets_array}

-- ---- tests that fail

and_false : (a b : Bool) → (a && b) ≡ false → b ≡ true → a ≡ false
and_false true b e f = absurd (false≢true (sym e ∙ f))
and_false false b e f = refl

not_either : (a b : Bool) → (not a || b) ≡ true → a ≡ true → b ≡ true
not_either true b e f = e
not_either false b e f = absurd (false≢true f)

-- ---- what is passed, with its place

-- what is known of a parameter and the variable that is passed as it
abbrev pub Known : Type 1
Known = Param → Var → Type 0

-- the parameter p at the place k, and the array v that is passed as it
pub record IsPassed (Q : Known) (ps : List Param) (es : List Expr) (r y : Ref) (k : ℕ) (v : Var) : Type 0 where
  pub param : Param
  pub there : slice_get ps k ≡ Some param
  pub arg : copies.array_at (slice_get es k) ≡ Some v
  pub is : r ≡ ref_of param.var
  pub as_ref : y ≡ ref_of v
  pub good : Q param v

further : (Q : Known) (p : Param) (ps : List Param) (e : Expr) (es : List Expr) (r y : Ref) (k : ℕ) (v : Var) → IsPassed Q ps es r y k v → IsPassed Q (p ∷ ps) (e ∷ es) r y (suc k) v
further Q p ps e es r y k v h = record { param = h.param; there = h.there; arg = h.arg; is = h.is; as_ref = h.as_ref; good = h.good }

-- of each argument for an array it is known which variable it is
abbrev pub Found : Known → Param → Expr → Type 0
Found Q p e = is_array (ref_of p.var).kind ≡ true → (v : Var) × (names.array_of e ≡ Some v) × (meaning.array_of e ≡ Some (ref_of v)) × Q p v

abbrev pub AllFound : Known → List Param → List Expr → Type 0
AllFound Q [] es = Unit {0}
AllFound Q (p ∷ ps) [] = Unit {0}
AllFound Q (p ∷ ps) (e ∷ es) = Found Q p e × AllFound Q ps es

passed_here : (e : Expr) (v : Var) (i : ℕ) (es : List Expr) → names.array_of e ≡ Some v → passed_from i (e ∷ es) ≡ (i, v) ∷ passed_from (i + 1) es
passed_here e v i es h = ap (λ o. passed_at i o ++ passed_from (i + 1) es) h

same_var : (e : Expr) (v : Var) (y : Ref) → meaning.array_of e ≡ Some (ref_of v) → meaning.array_of e ≡ Some y → y ≡ ref_of v
same_var e v y h g = sym (same_some (ref_of v) y (sym h ∙ g))

at_first : (Q : Known) (p : Param) (ps : List Param) (e : Expr) (es : List Expr) (y : Ref) (f : (v : Var) × (names.array_of e ≡ Some v) × (meaning.array_of e ≡ Some (ref_of v)) × Q p v) → meaning.array_of e ≡ Some y → IsPassed Q (p ∷ ps) (e ∷ es) (ref_of p.var) y 0 f.0
at_first Q p ps e es y f h = record { param = p; there = refl; arg = f.1; is = refl; as_ref = same_var e f.0 y f.2 h; good = f.3 }

-- P holds of what is passed and of its place, counted from i
pub passed_at_place : (Q : Known) (P : ℕ × Var → Type 0) (ps : List Param) (es : List Expr) (r y : Ref) (i : ℕ) → AllFound Q ps es → IsLent ps es r y → All P (passed_from i es) → (k : ℕ) × (v : Var) × IsPassed Q ps es r y k v × P (i + k, v)
passed_at_place Q P [] es r y i found l all = elim l [ ]
passed_at_place Q P (p ∷ ps) [] r y i found l all = elim l [ ]
passed_at_place Q P (p ∷ ps) (e ∷ es) _ y i found (lent_here a h) all =
    let f = found.0 a in
    let own : All P ((i, f.0) ∷ passed_from (i + 1) es) = subst (All P) (passed_here e f.0 i es f.1) all in
    let none : i ≡ i + 0 = omega arith in
    (0, f.0, at_first Q p ps e es y f h, subst (λ j. P (j, f.0)) none (All-head P (i, f.0) (passed_from (i + 1) es) own))
passed_at_place Q P (p ∷ ps) (e ∷ es) r y i found (lent_later l) all =
    let rest = (parted P (passed_at i (names.array_of e)) (passed_from (i + 1) es) all).1 in
    let h = passed_at_place Q P ps es r y (i + 1) found.1 l rest in
    let one : (i + 1) + h.0 ≡ i + suc h.0 = omega arith in
    (suc h.0, h.1, further Q p ps e es r y h.0 h.1 h.2, subst (λ j. P (j, h.1)) one h.3)

pairs_behind : {A : Type 0} (R : A → A → Type 0) (xs ys : List A) → AllPairs R (xs ++ ys) → AllPairs R ys
pairs_behind R [] ys h = h
pairs_behind R (x ∷ xs) ys h = pairs_behind R xs ys (pairs_tail R x (xs ++ ys) h)

-- of two that are passed: they are one, or the first stands before the second, or behind it
pub data HowPassed (Q : Known) (R : ℕ × Var → ℕ × Var → Type 0) (ps : List Param) (es : List Expr) (i : ℕ) (r y r2 y2 : Ref) : Type 0 where
  one_place : (k : ℕ) (v : Var) → IsPassed Q ps es r y k v → IsPassed Q ps es r2 y2 k v → HowPassed Q R ps es i r y r2 y2
  first_before : (k l : ℕ) (v w : Var) → k < l → IsPassed Q ps es r y k v → IsPassed Q ps es r2 y2 l w → R (i + k, v) (i + l, w) → HowPassed Q R ps es i r y r2 y2
  first_behind : (k l : ℕ) (v w : Var) → l < k → IsPassed Q ps es r y k v → IsPassed Q ps es r2 y2 l w → R (i + l, w) (i + k, v) → HowPassed Q R ps es i r y r2 y2

how_further : (Q : Known) (R : ℕ × Var → ℕ × Var → Type 0) (p : Param) (ps : List Param) (e : Expr) (es : List Expr) (i : ℕ) (r y r2 y2 : Ref) → HowPassed Q R ps es (i + 1) r y r2 y2 → HowPassed Q R (p ∷ ps) (e ∷ es) i r y r2 y2
how_further Q R p ps e es i r y r2 y2 (one_place k v h g) = one_place (suc k) v (further Q p ps e es r y k v h) (further Q p ps e es r2 y2 k v g)
how_further Q R p ps e es i r y r2 y2 (first_before k l v w lt h g m) =
    let a : (i + 1) + k ≡ i + suc k = omega arith in
    let b : (i + 1) + l ≡ i + suc l = omega arith in
    let next : suc k < suc l = omega (arith, lt) in
    first_before (suc k) (suc l) v w next (further Q p ps e es r y k v h) (further Q p ps e es r2 y2 l w g) (subst (λ x. R (x, v) (i + suc l, w)) a (subst (λ x. R ((i + 1) + k, v) (x, w)) b m))
how_further Q R p ps e es i r y r2 y2 (first_behind k l v w lt h g m) =
    let a : (i + 1) + l ≡ i + suc l = omega arith in
    let b : (i + 1) + k ≡ i + suc k = omega arith in
    let next : suc l < suc k = omega (arith, lt) in
    first_behind (suc k) (suc l) v w next (further Q p ps e es r y k v h) (further Q p ps e es r2 y2 l w g) (subst (λ x. R (x, w) (i + suc k, v)) a (subst (λ x. R ((i + 1) + l, w) (x, v)) b m))

pub how_passed : (Q : Known) (R : ℕ × Var → ℕ × Var → Type 0) (ps : List Param) (es : List Expr) (i : ℕ) (r y r2 y2 : Ref) → AllFound Q ps es → AllPairs R (passed_from i es) → IsLent ps es r y → IsLent ps es r2 y2 → HowPassed Q R ps es i r y r2 y2
how_passed Q R [] es i r y r2 y2 found pairs l m = elim l [ ]
how_passed Q R (p ∷ ps) [] i r y r2 y2 found pairs l m = elim l [ ]
how_passed Q R (p ∷ ps) (e ∷ es) i _ y _ y2 found pairs (lent_here a h) (lent_here b g) =
    let f = found.0 a in
    one_place 0 f.0 (at_first Q p ps e es y f h) (at_first Q p ps e es y2 f g)
how_passed Q R (p ∷ ps) (e ∷ es) i _ y r2 y2 found pairs (lent_here a h) (lent_later m) =
    let f = found.0 a in
    let own : AllPairs R ((i, f.0) ∷ passed_from (i + 1) es) = subst (AllPairs R) (passed_here e f.0 i es f.1) pairs in
    let z = passed_at_place Q (R (i, f.0)) ps es r2 y2 (i + 1) found.1 m (pairs_head R (i, f.0) (passed_from (i + 1) es) own) in
    let none : i ≡ i + 0 = omega arith in
    let one : (i + 1) + z.0 ≡ i + suc z.0 = omega arith in
    let lt : 0 < suc z.0 = omega arith in
    first_before 0 (suc z.0) f.0 z.1 lt (at_first Q p ps e es y f h) (further Q p ps e es r2 y2 z.0 z.1 z.2)
    (subst (λ x. R (x, f.0) (i + suc z.0, z.1)) none (subst (λ x. R (i, f.0) (x, z.1)) one z.3))
how_passed Q R (p ∷ ps) (e ∷ es) i r y _ y2 found pairs (lent_later l) (lent_here b g) =
    let f = found.0 b in
    let own : AllPairs R ((i, f.0) ∷ passed_from (i + 1) es) = subst (AllPairs R) (passed_here e f.0 i es f.1) pairs in
    let z = passed_at_place Q (R (i, f.0)) ps es r y (i + 1) found.1 l (pairs_head R (i, f.0) (passed_from (i + 1) es) own) in
    let none : i ≡ i + 0 = omega arith in
    let one : (i + 1) + z.0 ≡ i + suc z.0 = omega arith in
    let lt : 0 < suc z.0 = omega arith in
    first_behind (suc z.0) 0 z.1 f.0 lt (further Q p ps e es r y z.0 z.1 z.2) (at_first Q p ps e es y2 f g)
    (subst (λ x. R (x, f.0) (i + suc z.0, z.1)) none (subst (λ x. R (i, f.0) (x, z.1)) one z.3))
how_passed Q R (p ∷ ps) (e ∷ es) i r y r2 y2 found pairs (lent_later l) (lent_later m) =
    how_further Q R p ps e es i r y r2 y2 (how_passed Q R ps es (i + 1) r y r2 y2 found.1 (pairs_behind R (passed_at i (names.array_of e)) (passed_from (i + 1) es) pairs) l m)

-- ---- passed twice

abbrev Once : List Bool → ℕ × Var → ℕ × Var → Type 0
Once bs a b = is_twice bs b a ≡ false

before_none : (bs : List Bool) (before later : List (ℕ × Var)) → passed_twice bs before later ≡ [] → All (λ b. list_any (is_twice bs b) before ≡ false) later
before_none bs before [] e = All-nil (λ b. list_any (is_twice bs b) before ≡ false)
before_none bs before (b ∷ later) e =
    let parts = both (unless (not (list_any (is_twice bs b) before)) (span_of_var b.1)) (passed_twice bs (before ++ b ∷ []) later) e in
    All-cons (λ b. list_any (is_twice bs b) before ≡ false) b later (not-true (list_any (is_twice bs b) before) (passed (not (list_any (is_twice bs b) before)) (span_of_var b.1) parts.0))
    (All-weaker (λ c. list_any (is_twice bs c) (before ++ b ∷ []) ≡ false) (λ c. list_any (is_twice bs c) before ≡ false)
    (λ c h. (or_parts (list_any (is_twice bs c) before) (list_any (is_twice bs c) (b ∷ [])) (sym (list_any-append (is_twice bs c) before (b ∷ [])) ∙ h)).0) later
    (before_none bs (before ++ b ∷ []) later parts.1))

pub once_pairs : (bs : List Bool) (before later : List (ℕ × Var)) → passed_twice bs before later ≡ [] → AllPairs (Once bs) later
once_pairs bs before [] e = λ i j d lt within. absurd (omega arith)
once_pairs bs before (b ∷ later) e =
    let parts = both (unless (not (list_any (is_twice bs b) before)) (span_of_var b.1)) (passed_twice bs (before ++ b ∷ []) later) e in
    AllPairs-cons (Once bs) b later
    (All-weaker (λ c. list_any (is_twice bs c) (before ++ b ∷ []) ≡ false) (Once bs b)
    (λ c h. (or_parts (is_twice bs c b) false (or_parts (list_any (is_twice bs c) before) (list_any (is_twice bs c) (b ∷ [])) (sym (list_any-append (is_twice bs c) before (b ∷ [])) ∙ h)).1).0) later
    (before_none bs (before ++ b ∷ []) later parts.1))
    (once_pairs bs (before ++ b ∷ []) later parts.1)

-- ---- written parameters

got_map : {A B : Type 0} (f : A → B) (xs : List A) (k : ℕ) (x : A) → slice_get xs k ≡ Some x → slice_get (map f xs) k ≡ Some (f x)
got_map f [] k x e = absurd (none_not x e)
got_map f (y ∷ xs) zero x e = ap (λ z. Some (f z)) (same_some y x e)
got_map f (y ∷ xs) (suc k) x e = got_map f xs k x e

written_at : (ns : List (List ℕ)) (ps : List Param) (k : ℕ) (p : Param) → slice_get ps k ≡ Some p → is_written_at (map (is_written ns) ps) k ≡ is_written ns p
written_at ns ps k p e = ap (λ o. unwrap_or o false) (got_map (is_written ns) ps k p e)

-- an item at a place has what all have
got_all : {A : Type 0} (P : A → Type 0) (xs : List A) (k : ℕ) (x : A) → slice_get xs k ≡ Some x → All P xs → P x
got_all P [] k x e h = absurd (none_not x e)
got_all P (y ∷ xs) zero x e h = subst P (same_some y x e) (All-head P y xs h)
got_all P (y ∷ xs) (suc k) x e h = got_all P xs k x e (All-tail P y xs h)

got_pair : {A : Type 0} (R : A → A → Type 0) (xs : List A) (k l : ℕ) (x y : A) → k < l → slice_get xs k ≡ Some x → slice_get xs l ≡ Some y → AllPairs R xs → R x y
got_pair R [] k l x y lt e f h = absurd (none_not x e)
got_pair R (z ∷ xs) zero zero x y lt e f h = absurd (omega (arith, lt))
got_pair R (z ∷ xs) zero (suc l) x y lt e f h = subst (λ w. R w y) (same_some z x e) (got_all (R z) xs l y f (pairs_head R z xs h))
got_pair R (z ∷ xs) (suc k) zero x y lt e f h = absurd (omega (arith, lt))
got_pair R (z ∷ xs) (suc k) (suc l) x y lt e f h = got_pair R xs k l x y (omega (arith, lt)) e f (pairs_tail R z xs h)

got_same : {A : Type 0} (xs : List A) (k : ℕ) (x y : A) → slice_get xs k ≡ Some x → slice_get xs k ≡ Some y → x ≡ y
got_same xs k x y e f = same_some x y (sym e ∙ f)

-- what is kept passes the test
kept_one : {A B : Type 0} (test : B → Bool) (g : A → B) (keep : A → Bool) (xs : List A) → list_any test (map g (filter keep xs)) ≡ true → (x : A) × (keep x ≡ true) × (test (g x) ≡ true)
kept_one test g keep [] e = absurd (false≢true e)
kept_one {A} test g keep (x ∷ xs) e = by_test (keep x) refl (kept_one test g keep xs)
  where
    by_test : (b : Bool) → keep x ≡ b → (list_any test (map g (filter keep xs)) ≡ true → (y : A) × (keep y ≡ true) × (test (g y) ≡ true)) → (y : A) × (keep y ≡ true) × (test (g y) ≡ true)
    by_test true k rest = by_part (or_cases (test (g x)) (list_any test (map g (filter keep xs))) (subst (λ b. list_any test (map g (if b then (x ∷ filter keep xs) else filter keep xs)) ≡ true) k e))
      where
        by_part : (test (g x) ≡ true) ⊎ (list_any test (map g (filter keep xs)) ≡ true) → (y : A) × (keep y ≡ true) × (test (g y) ≡ true)
        by_part (inl t) = (x, k, t)
        by_part (inr t) = rest t
    by_test false k rest = rest (subst (λ b. list_any test (map g (if b then (x ∷ filter keep xs) else filter keep xs)) ≡ true) k e)

got_left : {A : Type 0} (xs ys : List A) (k : ℕ) (x : A) → slice_get xs k ≡ Some x → slice_get (xs ++ ys) k ≡ Some x
got_left [] ys k x e = absurd (none_not x e)
got_left (y ∷ xs) ys zero x e = e
got_left (y ∷ xs) ys (suc k) x e = got_left xs ys k x e

-- an item of the first list against all of the second
cross : {A B : Type 0} (R : B → B → Type 0) (g : A → B) (xs : List A) (ys : List B) (k : ℕ) (x : A) → slice_get xs k ≡ Some x → AllPairs R (map g xs ++ ys) → All (R (g x)) ys
cross R g [] ys k x e h = absurd (none_not x e)
cross R g (z ∷ xs) ys zero x e h = subst (λ w. All (R (g w)) ys) (same_some z x e) (parted (R (g z)) (map g xs) ys (pairs_head R (g z) (map g xs ++ ys) h)).1
cross R g (z ∷ xs) ys (suc k) x e h = cross R g xs ys k x e (pairs_tail R (g z) (map g xs ++ ys) h)

-- ---- names

clash : (v w : Var) → texts.AreApart v w → (out-Var v).name ≡ (out-Var w).name → ⊥
clash v w h e = false≢true (sym h.one ∙ (ap (λ n. bytes_eq (out-Var v).name n) (sym e) ∙ bytes_same (out-Var v).name))

one_name : (s : Ref) (v : Var) → declared.is_one s (ref_of v) ≡ true → s.name ≡ (out-Var v).name
one_name s v e = ap (λ (k : Key). k.name) (one_is s (ref_of v) e).0 ∙ ref_name v

-- of variables with different names one is what has its name
unique : (vs : List Var) → AllPairs texts.AreApart vs → (s : Ref) → is_among s vs ≡ true → (k : ℕ) (w : Var) → slice_get vs k ≡ Some w → s.name ≡ (out-Var w).name → declared.is_one s (ref_of w) ≡ true
unique [] h s e k w g n = absurd (none_not w g)
unique (x ∷ xs) h s e zero w g n = by_part (or_cases (declared.is_one s (ref_of x)) (is_among s xs) e)
  where
    by_part : (declared.is_one s (ref_of x) ≡ true) ⊎ (is_among s xs ≡ true) → declared.is_one s (ref_of w) ≡ true
    by_part (inl t) = subst (λ y. declared.is_one s (ref_of y) ≡ true) (same_some x w g) t
    by_part (inr t) =
        let z = one_of (λ v. declared.is_one s (ref_of v)) (texts.AreApart x) xs t (pairs_head texts.AreApart x xs h) in
        absurd (clash x z.0 z.2 (ap (λ (y : Var). (out-Var y).name) (same_some x w g) ∙ (sym n ∙ one_name s z.0 z.1)))
unique (x ∷ xs) h s e (suc k) w g n = by_part (or_cases (declared.is_one s (ref_of x)) (is_among s xs) e) (λ t. unique xs (pairs_tail texts.AreApart x xs h) s t k w g n)
  where
    by_part : (declared.is_one s (ref_of x) ≡ true) ⊎ (is_among s xs ≡ true) → (is_among s xs ≡ true → declared.is_one s (ref_of w) ≡ true) → declared.is_one s (ref_of w) ≡ true
    by_part (inl t) rest = absurd (clash x w (got_all (texts.AreApart x) xs k w g (pairs_head texts.AreApart x xs h)) (sym (one_name s x t) ∙ n))
    by_part (inr t) rest = rest t

differ_keys : (a b : Ref) (i j : ℕ) → (a.name ≡ b.name → ⊥) → same_key (cell_key a i) (cell_key b j) ≡ false
differ_keys a b i j h = false_from_ne_true (same_key (cell_key a i) (cell_key b j)) (λ e. h (ap (λ (k : Key). k.name) (keys_same (cell_key a i) (cell_key b j) e)))

same_cells : (a : Ref) (i j : ℕ) → same_key (cell_key a i) (cell_key a j) ≡ (i == j)
same_cells a i j = ap (λ b. b && ((a.copy == a.copy) && (i == j))) (bytes_same a.name) ∙ ap (λ b. b && (i == j)) (number_same a.copy)

-- ---- what is given back

any_flat : {A B : Type 0} (P : A → Type 0) (test : B → Bool) (h : A → List B) (xs : List A) → list_any test (flat_map h xs) ≡ true → All P xs → (x : A) × P x × (list_any test (h x) ≡ true)
any_flat P test h [] e a = absurd (false≢true e)
any_flat {A} P test h (x ∷ xs) e a = by_part (or_cases (list_any test (h x)) (list_any test (flat_map h xs)) (sym (list_any-append test (h x) (flat_map h xs)) ∙ e)) (λ t. any_flat P test h xs t (All-tail P x xs a))
  where
    by_part : (list_any test (h x) ≡ true) ⊎ (list_any test (flat_map h xs) ≡ true) → (list_any test (flat_map h xs) ≡ true → (y : A) × P y × (list_any test (h y) ≡ true)) → (y : A) × P y × (list_any test (h y) ≡ true)
    by_part (inl t) rest = (x, All-head P x xs a, t)
    by_part (inr t) rest = rest t

zip_second : {A B : Type 0} (P : B → Type 0) (xs : List A) (ys : List B) → All P ys → All (λ (r : A × B). P r.1) (zip xs ys)
zip_second P [] ys h = All-nil (λ r. P r.1)
zip_second P (x ∷ xs) [] h = All-nil (λ r. P r.1)
zip_second P (x ∷ xs) (y ∷ ys) h = All-cons (λ r. P r.1) (x, y) (zip xs ys) (All-head P y ys h) (zip_second P xs ys (All-tail P y ys h))

whole_part : (P : Var → Type 0) (d : Lval) → All P (left_vars d) → All P (whole_left d)
whole_part P (lval.Skip at) h = All-nil P
whole_part P (lval.Var v) h = h
whole_part P (lval.Cell v i) h = All-nil P
whole_part P (lval.Store a) h = All-nil P

option_any : (k : ℕ) (o : Option ℕ) → list_any (nat_eq k) (option_to_list o) ≡ true → o ≡ Some k
option_any k None e = absurd (false≢true e)
option_any k (Some j) e = ap (λ n. Some n) (sym (eqb-true k j (one (nat_eq k j) e)))
  where
    one : (b : Bool) → (b || false) ≡ true → b ≡ true
    one true e = refl
    one false e = absurd (false≢true e)

gives_some : (b : Bool) (o : Option ℕ) (k : ℕ) → (if b then o else None) ≡ Some k → (b ≡ true) × (o ≡ Some k)
gives_some true o k e = (refl, e)
gives_some false o k e = absurd (none_not k e)

-- ---- one call

module _ (q : Program) (f g : Fun) (own : All (λ p. IsVariable q f p.var) f.params) (owned : All (IsVariable q g) (variables_of g)) (differ : AllPairs texts.AreApart (variables_of g)) (args : List Expr) where
  abbrev X : Scope
  X = scopes_in q f

  abbrev G : Scope
  G = scopes_in q g

  -- the variable that is passed is one of the caller, with the type of the parameter
  abbrev pub Q : Param → Var → Type 0
  Q p v = IsVariable q f v × ((ref_of v).kind ≡ (ref_of p.var).kind)

  abbrev W : List Bool
  W = map (is_written (names_set g)) g.params

  -- an array of which the callee may set a cell
  pub record IsSetCell (key : Key) (j : ℕ) : Type 0 where
    pub array : Ref
    pub size : Size
    pub count : ℕ
    pub among : is_among array (arrays_set g ++ g.vars) ≡ true
    pub kind_is : array.kind ≡ kind.Array size count
    pub within : j < count
    pub name : key.name ≡ array.name

  set_cell : (key : Key) (j : ℕ) → Sets G key → key.cell ≡ Some j → IsSetCell key j
  set_cell _ j (a_scalar s h) c =
      let p = and_parts (not (is_array s.kind)) (is_among s (variables_of g)) h in
      let z = one_of (λ v. declared.is_one s (ref_of v)) (IsVariable q g) (variables_of g) p.1 owned in
      let none : s.cell ≡ None = ap (λ (k : Key). k.cell) (one_is s (ref_of z.0) z.1).0 ∙ z.2.cell in
      absurd (none_not j (sym none ∙ c))
  set_cell _ j (a_cell s z n i h k lt) c =
      let p = and_parts (is_array s.kind) (is_among s (arrays_set g ++ g.vars)) h in
      let same : i ≡ j = same_some i j c in
      record { array = s; size = z; count = n; among = p.1; kind_is = k; within = subst (λ m. m < n) same lt; name = refl }

  module _ (r y : Ref) (k : ℕ) (v : Var) (i : ℕ) (h : IsPassed Q g.params args r y k v) (s : IsSetCell (cell_key r i) i) where
    abbrev p : Param
    p = h.param

    named : s.array.name ≡ (out-Var p.var).name
    named = sym s.name ∙ (ap (λ (x : Ref). x.name) h.is ∙ ref_name p.var)

    place : slice_get (variables_of g) k ≡ Some p.var
    place = got_left (map (λ p. p.var) g.params) g.vars k p.var (got_map (λ (p : Param). p.var) g.params k p h.there)

    itself : declared.is_one s.array (ref_of p.var) ≡ true
    itself = unique (variables_of g) differ s.array (set_among q g s.array s.among) k p.var place named

    same_type : s.array.kind ≡ (ref_of p.var).kind
    same_type = (one_is s.array (ref_of p.var) itself).1

    param_variable : IsVariable q g p.var
    param_variable = got_all (IsVariable q g) (variables_of g) k p.var place owned

    is_set : is_written (names_set g) p ≡ true
    is_set = by_part (or_cases (list_any (λ v. declared.is_one s.array (ref_of v)) (arrays_set g)) (list_any (λ v. declared.is_one s.array (ref_of v)) g.vars) (sym (list_any-append (λ v. declared.is_one s.array (ref_of v)) (arrays_set g) g.vars) ∙ s.among))
      where
        by_part : (list_any (λ v. declared.is_one s.array (ref_of v)) (arrays_set g) ≡ true) ⊎ (list_any (λ v. declared.is_one s.array (ref_of v)) g.vars ≡ true) → is_written (names_set g) p ≡ true
        by_part (inl t) =
            let z = kept_one (λ v. declared.is_one s.array (ref_of v)) (λ (p : Param). p.var) (is_written (names_set g)) g.params t in
            let parts = and_parts (names.is_array (known_of z.0.var)) (list_any (bytes_eq (text_of z.0.var)) (names_set g)) z.1 in
            let name : text_of z.0.var ≡ text_of p.var = sym (one_name s.array z.0.var z.2) ∙ named in
            and_from (names.is_array (known_of p.var)) (list_any (bytes_eq (text_of p.var)) (names_set g))
            (known_array q g p.var param_variable (ap is_array (sym same_type ∙ s.kind_is))) (subst (λ n. list_any (bytes_eq n) (names_set g) ≡ true) name parts.1)
        by_part (inr t) =
            let z = one_of (λ v. declared.is_one s.array (ref_of v)) (texts.AreApart p.var) g.vars t (cross texts.AreApart (λ (p : Param). p.var) g.params g.vars k p h.there differ) in
            absurd (clash p.var z.0 z.2 (sym named ∙ one_name s.array z.0 z.1))

    pub is_set_at : is_written_at W k ≡ true
    is_set_at = written_at (names_set g) g.params k p h.there ∙ is_set

  -- ---- what is given back is set
  module _ (to : List Lval) (returned : List (Option ℕ)) (set : All (λ d. All (IsSet f) (left_vars d)) to) where
    back_set : (k : ℕ) (v : Var) → copies.array_at (slice_get args k) ≡ Some v → list_any (nat_eq k) (numbers_back args (zip returned to)) ≡ true → IsSet f v
    back_set k v arg e =
        let z = any_flat (λ r. All (IsSet f) (left_vars r.1)) (nat_eq k) (λ r. option_to_list (gets_back args r)) (zip returned to) e (zip_second (λ d. All (IsSet f) (left_vars d)) returned to set) in
        let b = gives_some (list_any (is_one (passed_as args z.0.0)) (whole_left z.0.1)) z.0.0 k (option_any k (gets_back args z.0) z.2) in
        let there : passed_as args z.0.0 ≡ Some v = ap (passed_as args) b.1 ∙ arg in
        let w = one_of (is_one (Some v)) (IsSet f) (whole_left z.0.1) (subst (λ o. list_any (is_one o) (whole_left z.0.1) ≡ true) there b.0) (whole_part (IsSet f) z.0.1 z.1) in
        subst (λ n. list_any (bytes_eq n) (names_set f) ≡ true) (sym (bytes_eq-true (text_of v) (text_of w.0) w.1)) w.2

    abbrev NotBack : ℕ × Var → Type 0
    NotBack a = not_back W (numbers_back args (zip returned to)) a ≡ []

    pub sets_is : AllFound Q g.params args → All NotBack (passed_from 0 args) → (r y : Ref) (i : ℕ) → IsLent g.params args r y → Sets G (cell_key r i) → Sets X (cell_key y i)
    sets_is found back r y i l s =
        let z = passed_at_place Q NotBack g.params args r y 0 found l back in
        let k = z.0 in
        let v = z.1 in
        let h = z.2 in
        let c = set_cell (cell_key r i) i s refl in
        let none : 0 + k ≡ k = omega arith in
        let told = passed (not (is_written_at W k) || list_any (nat_eq k) (numbers_back args (zip returned to))) (span_of_var v) (subst (λ j. NotBack (j, v)) none z.3) in
        let is_back = not_either (is_written_at W k) (list_any (nat_eq k) (numbers_back args (zip returned to))) told (is_set_at r y k v i h c) in
        let typed : (ref_of v).kind ≡ kind.Array c.size c.count = h.good.1 ∙ (sym (same_type r y k v i h c) ∙ c.kind_is) in
        subst (λ (x : Ref). Sets X (cell_key x i)) (sym h.as_ref)
        (a_cell (ref_of v) c.size c.count i (sets_array q f own v h.good.0 (back_set k v h.arg is_back) (ap is_array typed)) typed c.within)

  -- ---- passed once
  written_twice : (v w : Var) (k l : ℕ) → is_twice W (l, w) (k, v) ≡ false → (is_written_at W l || is_written_at W k) ≡ true → text_of w ≡ text_of v → ⊥
  written_twice v w k l e s n = false≢true (sym (and_false (are_one w v) (is_written_at W l || is_written_at W k) e s) ∙ (ap (bytes_eq (text_of w)) (sym n) ∙ bytes_same (text_of w)))

  ref_names : (x y : Ref) (v w : Var) → x ≡ ref_of v → y ≡ ref_of w → x.name ≡ y.name → text_of v ≡ text_of w
  ref_names x y v w e g n = sym (ref_name v) ∙ (ap (λ (z : Ref). z.name) (sym e) ∙ (n ∙ (ap (λ (z : Ref). z.name) g ∙ ref_name w)))

  params_differ : (k l : ℕ) (p o : Param) → k < l → slice_get g.params k ≡ Some p → slice_get g.params l ≡ Some o → text_of p.var ≡ text_of o.var → ⊥
  params_differ k l p o lt e d n =
      clash p.var o.var
      (got_pair texts.AreApart (variables_of g) k l p.var o.var lt
      (got_left (map (λ p. p.var) g.params) g.vars k p.var (got_map (λ (p : Param). p.var) g.params k p e))
      (got_left (map (λ p. p.var) g.params) g.vars l o.var (got_map (λ (p : Param). p.var) g.params l o d)) differ) n

  pub once_is : AllFound Q g.params args → AllPairs (Once W) (passed_from 0 args) → (r y r2 y2 : Ref) (i j : ℕ) → IsLent g.params args r y → IsLent g.params args r2 y2 → Sets G (cell_key r i)
      → same_key (cell_key y i) (cell_key y2 j) ≡ same_key (cell_key r i) (cell_key r2 j)
  once_is found pairs r y r2 y2 i j l m s = by_place (how_passed Q (Once W) g.params args 0 r y r2 y2 found pairs l m)
    where
      c : IsSetCell (cell_key r i) i
      c = set_cell (cell_key r i) i s refl

      both_differ : (y.name ≡ y2.name → ⊥) → (r.name ≡ r2.name → ⊥) → same_key (cell_key y i) (cell_key y2 j) ≡ same_key (cell_key r i) (cell_key r2 j)
      both_differ a b = differ_keys y y2 i j a ∙ sym (differ_keys r r2 i j b)

      by_place : HowPassed Q (Once W) g.params args 0 r y r2 y2 → same_key (cell_key y i) (cell_key y2 j) ≡ same_key (cell_key r i) (cell_key r2 j)
      by_place (one_place k v h o) =
          let same = got_same g.params k h.param o.param h.there o.there in
          let r_is : r2 ≡ r = o.is ∙ (ap (λ (p : Param). ref_of p.var) (sym same) ∙ sym h.is) in
          let y_is : y2 ≡ y = o.as_ref ∙ sym h.as_ref in
          (ap (λ (x : Ref). same_key (cell_key y i) (cell_key x j)) y_is ∙ same_cells y i j)
          ∙ sym (ap (λ (x : Ref). same_key (cell_key r i) (cell_key x j)) r_is ∙ same_cells r i j)
      by_place (first_before k n v w lt h o t) =
          let a : 0 + k ≡ k = omega arith in
          let b : 0 + n ≡ n = omega arith in
          let e : is_twice W (n, w) (k, v) ≡ false = subst (λ x. is_twice W (x, w) (k, v) ≡ false) b (subst (λ x. is_twice W (0 + n, w) (x, v) ≡ false) a t) in
          both_differ
          (λ same. written_twice v w k n e (or_right (is_written_at W n) (is_written_at W k) (is_set_at r y k v i h c)) (sym (ref_names y y2 v w h.as_ref o.as_ref same)))
          (λ same. params_differ k n h.param o.param lt h.there o.there (ref_names r r2 h.param.var o.param.var h.is o.is same))
      by_place (first_behind k n v w lt h o t) =
          let a : 0 + k ≡ k = omega arith in
          let b : 0 + n ≡ n = omega arith in
          let e : is_twice W (k, v) (n, w) ≡ false = subst (λ x. is_twice W (x, v) (n, w) ≡ false) a (subst (λ x. is_twice W (0 + k, v) (x, w) ≡ false) b t) in
          both_differ
          (λ same. written_twice w v n k e (or_left (is_written_at W k) (is_written_at W n) (is_set_at r y k v i h c)) (ref_names y y2 v w h.as_ref o.as_ref same))
          (λ same. params_differ n k o.param h.param lt o.there h.there (sym (ref_names r r2 h.param.var o.param.var h.is o.is same)))
