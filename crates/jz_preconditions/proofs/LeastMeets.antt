-- The least permitted arguments of a function meet its preconditions.
use Rattle.std.proofs.Common.{◌≡◌, ℕ, ◌+◌, ◌*◌, ◌^◌, ◌<◌, ◌≤◌, Bool, true, false, not, ◌&&◌, cond, List, [], ◌∷◌, ◌++◌, map, flat_map, Option, Some, None, refl, sym, ap, ◌∙◌, subst, arith, append_assoc, if◌then◌else◌}
use Rattle.std.specs.Prelude.{is_some, unwrap_or, option_map, find, All, IfSome, IsSome}
use Rattle.std.specs.List.{list_all, AllZip}
use Rattle.std.specs.Option.{option_or}
use Rattle.std.specs.Str.{bytes_eq}
use Rattle.std.proofs.lemmas.Bool.{and_parts, and_from, ltb-false}
use Rattle.std.proofs.lemmas.Grind.{flat_map-append}
use Rattle.std.proofs.lemmas.List.{map-append}
use Rattle.std.proofs.lemmas.List.Elements.{All-nil, All-cons, All-head, All-tail, All-append, All-map}
use Rattle.jz_tree.specs.Span.{Span}
use Rattle.jz_tree.specs.Size.TheVariants.{S8, S16, S32, S64}
use Rattle.jz_tree.specs.declared.expr.Var.{Var}
use Rattle.jz_tree.specs.declared.program.Fun.{Fun}
use Rattle.jz_tree.specs.declared.program.Param.{Param}
use Rattle.jz_annotations.proofs.LexingWords.{by_cases, if_true, same_is, same_self}
use Rattle.jz_type_names.specs.declared.kinds.Kind.{Kind}
use Rattle.jz_type_names.specs.declared.kinds.Kind.TheVariants as kind
use Rattle.jz_type_names.specs.Order.{unless}
use Rattle.jz_type_names.specs.Kinds.{Known, known_of}
use Rattle.jz_type_names.specs.Scopes.{Name, text_of, text_of_param, variable_named}
use Rattle.jz_annotations.specs.declared.precondition.Pre.{Pre}
use Rattle.jz_annotations.specs.declared.precondition.Pre.TheVariants.{Region, Range, Align}
use Rattle.jz_preconditions.specs.declared.least.Interval.{Interval}
use Rattle.jz_preconditions.specs.declared.stated.Stated.{Stated}
use Rattle.jz_preconditions.specs.Naming.{ParametersByName, parameters_of, known_by, is_pointer, values_of, values_of_kind, names_pointer, names_region, names_parameters}
use Rattle.jz_preconditions.specs.Bounds.{Bounds, first_of, range_in, multiple_in, range_of, multiple_of, least_by, least, least_or_zero, least_if_named, end_of}
use Rattle.jz_preconditions.specs.Stating.{stated_in, pres_of, preconditions_of, some_of, bound_by, bound_names, place_of, bounds_of}
use Rattle.jz_preconditions.specs.Refusals.{shapeless_places, empty_places, is_again, again_places, repeated_after, has_value, first_bound, valueless_places, is_far, far_places, far_in, refused_places}
use Rattle.jz_preconditions.specs.Meeting.{IsBelowEnd, word_named, word_if_named, extent, region_at, region_of, IsBetween, IsMultiple, IsNamed, IsMet, names_of, IsArgument, regions_for}
use Rattle.jz_preconditions.specs.Permitted.{least_permitted, least_arguments, MeetsWithZeros}
use Rattle.jz_preconditions.proofs.Leasts.{all_stated, multiple_aligned, or_one, Permits, IsLeastBy, least_by_is}
use Rattle.jz_preconditions.proofs.Zeros.{zeros, zeros_cover, zeros_bytes}

-- ---- lists without items
nil_parts : {A : Type 0} (xs ys : List A) → xs ++ ys ≡ [] → (xs ≡ []) × (ys ≡ [])
nil_parts [] ys e = (refl, e)
nil_parts (x ∷ xs) ys e = absurd (let no : ⊥ = cc in no)

cons_nil : {A : Type 0} (x : A) (xs : List A) (P : Type 0) → x ∷ xs ≡ [] → P
cons_nil x xs P e = absurd (let no : ⊥ = cc in no)

flat_nil : {A B : Type 0} (g : A → List B) (xs : List A) → flat_map g xs ≡ [] → All (λ x. g x ≡ []) xs
flat_nil g [] e = All-nil (λ x. g x ≡ [])
flat_nil g (x ∷ xs) e = let p = nil_parts (g x) (flat_map g xs) e in All-cons (λ x. g x ≡ []) x xs p.0 (flat_nil g xs p.1)

unless_nil : (b : Bool) (at : Span) → unless (not b) at ≡ [] → b ≡ false
unless_nil true at e = cons_nil at [] (true ≡ false) e
unless_nil false at e = refl

none_is : {A : Type 0} (o : Option A) → is_some o ≡ false → o ≡ None
none_is None h = refl
none_is (Some a) h = absurd (let no : ⊥ = cc in no)

some_is : {A : Type 0} (o : Option A) → is_some o ≡ true → (a : A) × (o ≡ Some a)
some_is None h = absurd (let no : ⊥ = cc in no)
some_is (Some a) h = (a, refl)

some_nil : {A : Type 0} (o : Option A) (P : Type 0) → is_some o ≡ true → some_of o ≡ [] → P
some_nil None P h e = absurd (let no : ⊥ = cc in no)
some_nil (Some a) P h e = cons_nil a [] P e

-- ---- the first of a name
or_assoc : {A : Type 0} (a b c : Option A) → option_or a (option_or b c) ≡ option_or (option_or a b) c
or_assoc None b c = refl
or_assoc (Some x) b c = refl

first_append : {A B : Type 0} (g : A → Option B) (xs ys : List A) → first_of g (xs ++ ys) ≡ option_or (first_of g xs) (first_of g ys)
first_append g [] ys = refl
first_append g (x ∷ xs) ys = ap (option_or (g x)) (first_append g xs ys) ∙ or_assoc (g x) (first_of g xs) (first_of g ys)

first_here : {B : Type 0} (g : Pre → Option B) (before after : List Stated) (s : Stated) (p : Pre) (x : B) → s.pre ≡ p → first_of g (pres_of before) ≡ None → g p ≡ Some x
    → first_of g (pres_of (before ++ s ∷ after)) ≡ Some x
first_here {B} g before after s p x is none here =
    ap (first_of g) (map-append (λ t. t.pre) before (s ∷ after))
    ∙ first_append g (pres_of before) (s.pre ∷ pres_of after)
    ∙ ap (λ o. option_or o (option_or (g s.pre) (first_of g (pres_of after)))) none
    ∙ ap (λ o. option_or o (first_of g (pres_of after))) (ap g is ∙ here)

find_here : {A : Type 0} (t : A → Bool) (xs ys : List A) (y : A) → t y ≡ true → is_some (find t (xs ++ y ∷ ys)) ≡ true
find_here t [] ys y h = ap (λ b. is_some (cond b (Some y) (find t ys))) h
find_here t (x ∷ xs) ys y h = elim (t x) as (λ b. is_some (cond b (Some x) (find t (xs ++ y ∷ ys))) ≡ true) [ true ↦ refl | false ↦ find_here t xs ys y h ]

mapped_some : {A B : Type 0} (g : A → B) (o : Option A) → is_some (option_map g o) ≡ is_some o
mapped_some g None = refl
mapped_some g (Some a) = refl

place_here : (before after : List Stated) (s : Stated) (p : Pre) (x : List ℕ) → s.pre ≡ p → bound_by s.span p ≡ (x, s.span) ∷ [] → is_some (place_of (before ++ s ∷ after) x) ≡ true
place_here before after s p x is bound =
    let t : Name → Bool = λ m. bytes_eq x m.0 in
    let names : bound_names (before ++ s ∷ after) ≡ bound_names before ++ (x, s.span) ∷ bound_names after =
    flat_map-append (λ s. bound_by s.span s.pre) before (s ∷ after) ∙ ap (λ z. bound_names before ++ (z ++ bound_names after)) (ap (bound_by s.span) is ∙ bound) in
    mapped_some (λ m. m.1) (find t (bound_names (before ++ s ∷ after)))
    ∙ ap (λ ns. is_some (find t ns)) names
    ∙ find_here t (bound_names before) (bound_names after) (x, s.span) (same_self x)

-- ---- each range and each alignment is its parameter's, which has a permitted value
abbrev IsGood : Bounds → Pre → Type 0
IsGood b (Region p factor v constant) = Unit {0}
IsGood b (Range x low high) = (b.range x ≡ Some (record { low = low; high = high })) × (is_some (least b x) ≡ true)
IsGood b (Align p multiple) = (b.multiple p ≡ Some multiple) × (is_some (least b p) ≡ true)

valued : (b h : Bool) (o : Option Span) → is_some o ≡ true → (if h then [] else some_of o) ≡ [] → h ≡ true
valued b true o s e = refl
valued b false o s e = some_nil o (false ≡ true) s e

module _ (ps : ParametersByName) (before after : List Stated) (s : Stated) where
  abbrev All' : List Stated
  All' = before ++ s ∷ after

  good_by : (p : Pre) → s.pre ≡ p → unless (not (is_again (bounds_of ps before) p)) s.span ≡ []
      → (if has_value (bounds_of ps All') p then [] else first_bound (bounds_of ps All') p) ≡ [] → IsGood (bounds_of ps All') p
  good_by (Region p factor v constant) is again valueless = tt
  good_by (Range x low high) is again valueless = (
    first_here (range_in x) before after s (Range x low high) (record { low = low; high = high }) is
        (none_is (range_of (pres_of before) x) (unless_nil (is_some (range_of (pres_of before) x)) s.span again))
        (if_true (bytes_eq x x) (Some (record { low = low; high = high })) None (same_self x)),
    valued true (is_some (least (bounds_of ps All') x)) (place_of All' x) (place_here before after s (Range x low high) x is refl) valueless,
  )
  good_by (Align p multiple) is again valueless = (
    first_here (multiple_in p) before after s (Align p multiple) multiple is
        (none_is (multiple_of (pres_of before) p) (unless_nil (is_some (multiple_of (pres_of before) p)) s.span again))
        (if_true (bytes_eq p p) (Some multiple) None (same_self p)),
    valued true (is_some (least (bounds_of ps All') p)) (place_of All' p) (place_here before after s (Align p multiple) p is refl) valueless,
  )

all_good : (ps : ParametersByName) (before after whole : List Stated) → whole ≡ before ++ after → repeated_after ps before after ≡ []
    → flat_map (valueless_places (bounds_of ps whole)) after ≡ [] → All (λ s. IsGood (bounds_of ps whole) s.pre) after
all_good ps before [] whole e a v = All-nil (λ s. IsGood (bounds_of ps whole) s.pre)
all_good ps before (s ∷ ss) whole e a v =
    let p = nil_parts (again_places (bounds_of ps before) s) (repeated_after ps (before ++ s ∷ []) ss) a in
    let q = nil_parts (valueless_places (bounds_of ps whole) s) (flat_map (valueless_places (bounds_of ps whole)) ss) v in
    let here : valueless_places (bounds_of ps (before ++ s ∷ ss)) s ≡ [] = subst (λ w. valueless_places (bounds_of ps w) s ≡ []) e q.0 in
    All-cons (λ s. IsGood (bounds_of ps whole) s.pre) s ss
    (subst (λ w. IsGood (bounds_of ps w) s.pre) (sym e) (good_by ps before ss s s.pre refl p.0 here))
    (all_good ps (before ++ s ∷ []) ss whole (e ∙ sym (append_assoc before (s ∷ []) ss)) p.1 q.1)

good_value : (b : Bounds) (p : Pre) → IsGood b p → has_value b p ≡ true
good_value b (Region p factor v constant) h = refl
good_value b (Range x low high) h = h.1
good_value b (Align p multiple) h = h.1

all_valued : (b : Bounds) (ss : List Stated) → All (λ s. IsGood b s.pre) ss → list_all (λ s. has_value b s.pre) ss ≡ true
all_valued b [] h = refl
all_valued b (s ∷ ss) h =
    and_from (has_value b s.pre) (list_all (λ s. has_value b s.pre) ss)
    (good_value b s.pre (All-head (λ s. IsGood b s.pre) s ss h)) (all_valued b ss (All-tail (λ s. IsGood b s.pre) s ss h))

-- ---- values there are
modulus_some : (k : Kind) → 0 < values_of_kind k
modulus_some kind.Int = omega arith
modulus_some kind.Truth = omega arith
modulus_some (kind.Word S8) = omega arith
modulus_some (kind.Word S16) = omega arith
modulus_some (kind.Word S32) = omega arith
modulus_some (kind.Word S64) = omega arith
modulus_some (kind.Array z) = omega arith

values_some : (k : Known) → 0 < values_of k
values_some None = omega arith
values_some (Some d) = modulus_some d.kind

least_small : (count : ℕ) (range : Option Interval) (m : ℕ) (o : Option ℕ) → 0 < count → IsLeastBy count range m o → unwrap_or o 0 < count
least_small count range m None h k = h
least_small count range m (Some n) h k = k.0.value

-- ---- words by names
found_name : (vs : List Var) (n : List ℕ) (v : Var) → variable_named n vs ≡ Some v → text_of v ≡ n
found_name [] n v e = absurd (let no : ⊥ = cc in no)
found_name (w ∷ vs) n v e = by_cases (text_of v ≡ n) (bytes_eq n (text_of w))
    (λ h. let same : ◌≡◌ {A = Option Var} (Some w) (Some v) = sym (ap (λ b. cond b (Some w) (variable_named n vs)) h) ∙ e in
    ap text_of (sym (of_some w v same)) ∙ sym (same_is n (text_of w) h))
    (λ h. found_name vs n v (sym (ap (λ b. cond b (Some w) (variable_named n vs)) h) ∙ e))
  where
    or_else : Var → Option Var → Var
    or_else d None = d
    or_else d (Some x) = x

    of_some : (x y : Var) → ◌≡◌ {A = Option Var} (Some x) (Some y) → x ≡ y
    of_some x y h = ap (or_else x) h

words_by : (g : Var → ℕ) (params : List Param) (n : List ℕ)
    → word_named (map text_of_param params) (map (λ p. g p.var) params) n ≡ option_map g (variable_named n (map (λ p. p.var) params))
words_by g [] n = refl
words_by g (p ∷ params) n =
    elim (bytes_eq n (text_of_param p)) as (λ b. (if b then Some (g p.var) else word_named (map text_of_param params) (map (λ p. g p.var) params) n)
    ≡ option_map g (cond b (Some p.var) (variable_named n (map (λ p. p.var) params)))) [ true ↦ refl | false ↦ words_by g params n ]

all_flat : {A B : Type 0} (P : B → Type 0) (g : A → List B) (xs : List A) → All (λ x. All P (g x)) xs → All P (flat_map g xs)
all_flat P g [] h = All-nil P
all_flat P g (x ∷ xs) h = All-append P (g x) (flat_map g xs) (All-head (λ x. All P (g x)) x xs h) (all_flat P g xs (All-tail (λ x. All P (g x)) x xs h))

pointer_some : (o : Option Var) → is_pointer (known_by o) ≡ true → is_some o ≡ true
pointer_some None h = h
pointer_some (Some v) h = refl

module _ (f : Fun) where
  abbrev Stated' : List Stated
  Stated' = stated_in (parameters_of f) f.notes

  abbrev Asked : Bounds
  Asked = bounds_of (parameters_of f) Stated'

  abbrev Names' : List (List ℕ)
  Names' = names_of f

  abbrev Words : List ℕ
  Words = least_arguments f

  abbrev word_for : Var → ℕ
  word_for v = unwrap_or (least_permitted f v) 0

  least_at : (n : List ℕ) (v : Var) → parameters_of f n ≡ Some v → least_permitted f v ≡ least Asked n
  least_at n v e =
      ap (λ m. least_by (values_of (known_of v)) (range_of (preconditions_of f) m) (unwrap_or (multiple_of (preconditions_of f) m) 1)) (found_name (map (λ p. p.var) f.params) n v e)
      ∙ ap (λ o. least_by (values_of (known_by o)) (range_of (preconditions_of f) n) (unwrap_or (multiple_of (preconditions_of f) n) 1)) (sym e)

  word_at : (n : List ℕ) (v : Var) → parameters_of f n ≡ Some v → word_named Names' Words n ≡ Some (least_or_zero Asked n)
  word_at n v e =
      words_by word_for f.params n ∙ ap (option_map word_for) e ∙ ap (λ o. Some (unwrap_or o 0)) (least_at n v e)

  word_there : (n : List ℕ) → is_some (parameters_of f n) ≡ true → word_named Names' Words n ≡ Some (least_or_zero Asked n)
  word_there n h = let p = some_is (parameters_of f n) h in word_at n p.0 p.1

  is_least : (n : List ℕ) → IsLeastBy (values_of (known_by (parameters_of f n))) (Asked.range n) (unwrap_or (Asked.multiple n) 1) (least Asked n)
  is_least n = least_by_is (values_of (known_by (parameters_of f n))) (Asked.range n) (unwrap_or (Asked.multiple n) 1) (or_one (Asked.multiple n) (multiple_aligned f n))

  permits_by : (n : List ℕ) (o : Option ℕ) → is_some o ≡ true → IsLeastBy (values_of (known_by (parameters_of f n))) (Asked.range n) (unwrap_or (Asked.multiple n) 1) o
      → Permits (values_of (known_by (parameters_of f n))) (Asked.range n) (unwrap_or (Asked.multiple n) 1) (unwrap_or o 0)
  permits_by n None h k = absurd (let no : ⊥ = cc in no)
  permits_by n (Some x) h k = k.0

  permits : (n : List ℕ) → is_some (least Asked n) ≡ true → Permits (values_of (known_by (parameters_of f n))) (Asked.range n) (unwrap_or (Asked.multiple n) 1) (least_or_zero Asked n)
  permits n h = permits_by n (least Asked n) h (is_least n)

  -- ---- what is asked holds
  some_word : (n : List ℕ) → names_pointer (parameters_of f) n ≡ true → IsSome (word_named Names' Words n)
  some_word n h = ap is_some (word_there n (pointer_some (parameters_of f n) h))

  met_region : (p : List ℕ) (v : Option (List ℕ)) → names_region (parameters_of f) p v ≡ true → IsSome (word_named Names' Words p) × IsNamed Names' Words v
  met_region p None h = (some_word p h, tt)
  met_region p (Some v) h =
      let q = and_parts (names_pointer (parameters_of f) p) (names_pointer (parameters_of f) v && not (bytes_eq p v)) h in
      let r = and_parts (names_pointer (parameters_of f) v) (not (bytes_eq p v)) q.1 in
      (some_word p q.0, some_word v r.0)

  met_by : (p : Pre) → names_parameters (parameters_of f) p ≡ true → IsGood Asked p → IsMet Names' Words p
  met_by (Region p factor v constant) named good = met_region p v named
  met_by (Range x low high) named good =
      let h = permits x good.1 in
      subst (λ o. IsBetween o low high) (sym (word_there x named)) (subst (λ r. IfSome r (λ i. (i.low ≤ least_or_zero Asked x) × (least_or_zero Asked x ≤ i.high))) good.0 h.range)
  met_by (Align p multiple) named good =
      let h = permits p good.1 in
      subst (λ o. IsMultiple o multiple) (sym (word_there p named)) (subst (λ m. (k : ℕ) × (least_or_zero Asked p ≡ k * unwrap_or m 1)) good.0 h.multiple)

  -- ---- regions end below 2 ^ 64
  extent_by : (factor constant : ℕ) (v : Option (List ℕ)) → IsNamed Names' Words v → ((n : List ℕ) → v ≡ Some n → is_some (parameters_of f n) ≡ true)
      → extent factor (word_if_named Names' Words v) constant ≤ factor * least_if_named Asked v + constant
  extent_by factor constant None h k = omega arith
  extent_by factor constant (Some n) h k =
      subst (λ o. extent factor o constant ≤ factor * least_or_zero Asked n + constant) (sym (word_there n (k n refl))) (omega arith)

  names_variable : (p : List ℕ) (v : Option (List ℕ)) → names_region (parameters_of f) p v ≡ true → (n : List ℕ) → v ≡ Some n → is_some (parameters_of f n) ≡ true
  names_variable p None h n e = absurd (let no : ⊥ = cc in no)
  names_variable p (Some v) h n e =
      let q = and_parts (names_pointer (parameters_of f) p) (names_pointer (parameters_of f) v && not (bytes_eq p v)) h in
      let r = and_parts (names_pointer (parameters_of f) v) (not (bytes_eq p v)) q.1 in
      subst (λ o. IfSome o (λ m. is_some (parameters_of f m) ≡ true)) e (pointer_some (parameters_of f v) r.0)

  names_first : (p : List ℕ) (v : Option (List ℕ)) → names_region (parameters_of f) p v ≡ true → names_pointer (parameters_of f) p ≡ true
  names_first p None h = h
  names_first p (Some v) h = (and_parts (names_pointer (parameters_of f) p) (names_pointer (parameters_of f) v && not (bytes_eq p v)) h).0

  below_by : (p : Pre) → names_parameters (parameters_of f) p ≡ true → is_far Asked p ≡ false → All IsBelowEnd (region_of Names' Words p)
  below_by (Range x low high) named near = All-nil IsBelowEnd
  below_by (Align p multiple) named near = All-nil IsBelowEnd
  below_by (Region p factor v constant) named near =
      let from = least_or_zero Asked p in
      let count = extent factor (word_if_named Names' Words v) constant in
      let small = extent_by factor constant v (met_region p v named).1 (names_variable p v named) in
      let end = ltb-false (2 ^ 63) (end_of from factor (least_if_named Asked v) constant) near in
      let fits : from + count ≤ 2 ^ 64 = omega (arith, small, end) in
      subst (λ o. All IsBelowEnd (region_at o count)) (sym (word_there p (pointer_some (parameters_of f p) (names_first p v named))))
      (All-cons IsBelowEnd (record { from = from; count = count }) [] fits (All-nil IsBelowEnd))

  -- ---- the whole
  sizes_by : (params : List Param) → AllZip IsArgument params (map (λ p. word_for p.var) params)
  sizes_by [] = tt
  sizes_by (p ∷ params) = (
    least_small (values_of (known_of p.var)) (range_of (preconditions_of f) (text_of p.var)) (unwrap_or (multiple_of (preconditions_of f) (text_of p.var)) 1) (least_permitted f p.var)
        (values_some (known_of p.var))
        (least_by_is (values_of (known_of p.var)) (range_of (preconditions_of f) (text_of p.var)) (unwrap_or (multiple_of (preconditions_of f) (text_of p.var)) 1)
        (or_one (multiple_of (preconditions_of f) (text_of p.var)) (multiple_aligned f (text_of p.var)))),
    sizes_by params,
  )

  abbrev IsNamed' : Stated → Type 0
  IsNamed' s = names_parameters (parameters_of f) s.pre ≡ true

  all_named : All IsNamed' Stated'
  all_named = all_stated (λ p. names_parameters (parameters_of f) p ≡ true) (parameters_of f) (λ n p e h. h) f.notes

  two_all : (ss : List Stated) (P : Stated → Type 0) (R : Stated → Type 0) → All IsNamed' ss → All P ss → ((s : Stated) → IsNamed' s → P s → R s) → All R ss
  two_all [] P R a b g = All-nil R
  two_all (s ∷ ss) P R a b g = All-cons R s ss (g s (All-head IsNamed' s ss a) (All-head P s ss b)) (two_all ss P R (All-tail IsNamed' s ss a) (All-tail P s ss b) g)

  far_false : (ss : List Stated) → All (λ s. far_places Asked s ≡ []) ss → All (λ s. is_far Asked s.pre ≡ false) ss
  far_false [] h = All-nil (λ s. is_far Asked s.pre ≡ false)
  far_false (s ∷ ss) h =
      All-cons (λ s. is_far Asked s.pre ≡ false) s ss (unless_nil (is_far Asked s.pre) s.span (All-head (λ s. far_places Asked s ≡ []) s ss h))
      (far_false ss (All-tail (λ s. far_places Asked s ≡ []) s ss h))

  pub least_meets : refused_places f ≡ [] → MeetsWithZeros f Words
  least_meets none =
      let ps = parameters_of f in
      let A : List Span = flat_map (shapeless_places ps) f.notes in
      let B : List Span = flat_map empty_places Stated' in
      let C : List Span = repeated_after ps [] Stated' in
      let D : List Span = flat_map (valueless_places Asked) Stated' in
      let E : List Span = far_in Asked Stated' in
      let e4 = nil_parts (A ++ B ++ C ++ D) E none in
      let e3 = nil_parts (A ++ B ++ C) D e4.0 in
      let e2 = nil_parts (A ++ B) C e3.0 in
      let good = all_good ps [] Stated' Stated' refl e2.1 e3.1 in
      let near = far_false Stated' (flat_nil (far_places Asked) Stated' (sym (if_true (list_all (λ s. has_value Asked s.pre) Stated') (flat_map (far_places Asked) Stated') [] (all_valued Asked Stated' good)) ∙ e4.1)) in
      let met : All (IsMet Names' Words) (preconditions_of f) =
      All-map (IsMet Names' Words) (λ s. s.pre) Stated' (two_all Stated' (λ s. IsGood Asked s.pre) (λ s. IsMet Names' Words s.pre) all_named good (λ s a b. met_by s.pre a b)) in
      let below : All IsBelowEnd (regions_for f Words) =
      all_flat IsBelowEnd (region_of Names' Words) (preconditions_of f)
      (All-map (λ p. All IsBelowEnd (region_of Names' Words p)) (λ s. s.pre) Stated'
      (two_all Stated' (λ s. is_far Asked s.pre ≡ false) (λ s. All IsBelowEnd (region_of Names' Words s.pre)) all_named near (λ s a b. below_by s.pre a b))) in
      record {
        memory = zeros (regions_for f Words);
        zeros = zeros_bytes (regions_for f Words);
        meets = record {
          sizes = sizes_by f.params;
          met = met;
          below_end = below;
          covered = zeros_cover (regions_for f Words);
          bytes = λ q b e. (let z = zeros_bytes (regions_for f Words) q b e in omega (arith, z));
        };
      }
