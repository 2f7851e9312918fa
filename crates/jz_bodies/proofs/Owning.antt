-- Which places the scope of a function has, and which it may set.
use Rattle.std.proofs.Common.{◌≡◌, ℕ, ◌<◌, Bool, true, false, not, ◌||◌, List, [], ◌∷◌, ◌++◌, Some, map, refl, sym, ap, ◌∙◌, subst, inl, inr}
use Rattle.std.specs.Prelude.{◌⊎◌, All, AllPairs, filter, if◌then◌else◌}
use Rattle.std.specs.List.{list_any}
use Rattle.std.specs.Str.{bytes_eq}
use Rattle.std.proofs.lemmas.Bool.{and_parts, false≢true, or_left, or_right, or_cases, and_from, not-true, not_from_false}
use Rattle.std.proofs.lemmas.List.Elements.{All-head, All-tail}
use Rattle.std.proofs.lemmas.List.Folds.{list_any-append}
use Rattle.jz_tree.specs.Size.{Size}
use Rattle.jz_tree.specs.declared.expr.Var.{Var}
use Rattle.jz_tree.specs.declared.program.Fun.{Fun}
use Rattle.jz_tree.specs.declared.program.Param.{Param}
use Rattle.jz_tree.specs.declared.program.Program.{Program}
use Rattle.jz_type_names.specs.Scopes.{variables_of}
use Rattle.jz_run_laws.specs.Callees.{names_set, is_written}
use Rattle.jz_meaning.specs.declared.access.Kind.TheVariants as kind
use Rattle.jz_meaning.specs.States.{Key}
use Rattle.jz_meaning.specs.Values.{Ref, key_of, cell_key, ref_of}
use Rattle.jz_texts.specs.Texts.{IsPlain}
use Rattle.jz_texts.specs.Declared as texts
use Rattle.jz_texts.proofs.Lists.{pairs_head, pairs_tail}
use Rattle.jz_bodies.specs.Scopes.{Scope, a_scalar, a_cell, Has, Sets}
use Rattle.jz_bodies.specs.Calls.{is_array, PlaceOf, itself, its_cell, OneHas, IsNew, AreApart, params_of, vars_of}
use Rattle.jz_bodies.specs.Declared.{is_one, is_among, arrays_set, scopes_in}
use Rattle.jz_bodies.proofs.Refs.{one_is, is_one-refl, ref_name, ref_copy}

-- ---- tests of lists

-- what passes has what all have
pub one_of : {A : Type 0} (test : A → Bool) (P : A → Type 0) (xs : List A) → list_any test xs ≡ true → All P xs → (x : A) × (test x ≡ true) × P x
one_of test P [] e h = absurd (false≢true e)
one_of {A} test P (x ∷ xs) e h = by_test (or_cases (test x) (list_any test xs) e) (λ r. one_of test P xs r (All-tail P x xs h))
  where
    by_test : (test x ≡ true) ⊎ (list_any test xs ≡ true) → (list_any test xs ≡ true → (y : A) × (test y ≡ true) × P y) → (y : A) × (test y ≡ true) × P y
    by_test (inl t) rest = (x, t, All-head P x xs h)
    by_test (inr r) rest = rest r

pub any_map : {A B : Type 0} (test : B → Bool) (g : A → B) (xs : List A) → list_any test (map g xs) ≡ list_any (λ x. test (g x)) xs
any_map test g [] = refl
any_map test g (x ∷ xs) = ap (λ b. test (g x) || b) (any_map test g xs)

any_kept : {A B : Type 0} (test : B → Bool) (g : A → B) (keep : A → Bool) (xs : List A) → list_any test (map g (filter keep xs)) ≡ true → list_any test (map g xs) ≡ true
any_kept test g keep [] e = e
any_kept test g keep (x ∷ xs) e = by_test (keep x) refl (any_kept test g keep xs)
  where
    by_test : (b : Bool) → keep x ≡ b → (list_any test (map g (filter keep xs)) ≡ true → list_any test (map g xs) ≡ true) → (test (g x) || list_any test (map g xs)) ≡ true
    by_test true k rest =
        let f : (test (g x) || list_any test (map g (filter keep xs))) ≡ true = subst (λ b. list_any test (map g (if b then (x ∷ filter keep xs) else filter keep xs)) ≡ true) k e in
        joined (or_cases (test (g x)) (list_any test (map g (filter keep xs))) f)
      where
        joined : (test (g x) ≡ true) ⊎ (list_any test (map g (filter keep xs)) ≡ true) → (test (g x) || list_any test (map g xs)) ≡ true
        joined (inl t) = or_left (test (g x)) (list_any test (map g xs)) t
        joined (inr r) = or_right (test (g x)) (list_any test (map g xs)) (rest r)
    by_test false k rest =
        let f : list_any test (map g (filter keep xs)) ≡ true = subst (λ b. list_any test (map g (if b then (x ∷ filter keep xs) else filter keep xs)) ≡ true) k e in
        or_right (test (g x)) (list_any test (map g xs)) (rest f)

-- an item that is kept passes
pub kept_any : {A B : Type 0} (test : B → Bool) (g : A → B) (keep : A → Bool) (x : A) (xs : List A) → keep x ≡ true → test (g x) ≡ true → list_any test (map g (filter keep (x ∷ xs))) ≡ true
kept_any test g keep x xs k t = subst (λ b. list_any test (map g (if b then (x ∷ filter keep xs) else filter keep xs)) ≡ true) (sym k) (or_left (test (g x)) (list_any test (map g (filter keep xs))) t)

-- ---- places

place_one : (r q : Ref) → is_array r.kind ≡ false → is_one r q ≡ true → PlaceOf q (key_of r)
place_one r q a e = let h = one_is r q e in itself (ap is_array (sym h.1) ∙ a) h.0

cell_one : (r q : Ref) (z : Size) (n i : ℕ) → r.kind ≡ kind.Array z n → i < n → is_one r q ≡ true → PlaceOf q (cell_key r i)
cell_one r q z n i k lt e =
    let h = one_is r q e in
    its_cell z n i (sym h.1 ∙ k) lt (ap (λ (b : Key). record { name = b.name; copy = b.copy; cell = Some i }) h.0)

-- the variables g of some items, one of which has the place
module _ {A : Type 0} (g : A → Var) where
  abbrev pub Refs : List A → List Ref
  Refs xs = map (λ a. ref_of (g a)) xs

  passed : (k : Key) (r : Ref) → ((q : Ref) → is_one r q ≡ true → PlaceOf q k) → (xs : List A) → list_any (λ a. is_one r (ref_of (g a))) xs ≡ true → OneHas (Refs xs) k
  passed k r h [] e = absurd (false≢true e)
  passed k r h (x ∷ xs) e = by_test (or_cases (is_one r (ref_of (g x))) (list_any (λ a. is_one r (ref_of (g a))) xs) e) (passed k r h xs)
    where
      by_test : (is_one r (ref_of (g x)) ≡ true) ⊎ (list_any (λ a. is_one r (ref_of (g a))) xs ≡ true) → (list_any (λ a. is_one r (ref_of (g a))) xs ≡ true → OneHas (Refs xs) k) → OneHas (Refs (x ∷ xs)) k
      by_test (inl t) rest = inl (h (ref_of (g x)) t)
      by_test (inr t) rest = inr (rest t)

-- ---- the scope of a function

module _ (q : Program) (f : Fun) where
  abbrev X : Scope
  X = scopes_in q f

  among_either : (r : Ref) → is_among r (variables_of f) ≡ true → (list_any (λ p. is_one r (ref_of p.var)) f.params ≡ true) ⊎ (is_among r f.vars ≡ true)
  among_either r e =
      let test : Var → Bool = λ v. is_one r (ref_of v) in
      let split : (list_any test (map (λ p. p.var) f.params) || list_any test f.vars) ≡ true = sym (list_any-append test (map (λ p. p.var) f.params) f.vars) ∙ e in
      by_part (or_cases (list_any test (map (λ p. p.var) f.params)) (list_any test f.vars) split)
    where
      by_part : (list_any (λ v. is_one r (ref_of v)) (map (λ p. p.var) f.params) ≡ true) ⊎ (list_any (λ v. is_one r (ref_of v)) f.vars ≡ true) → (list_any (λ p. is_one r (ref_of p.var)) f.params ≡ true) ⊎ (is_among r f.vars ≡ true)
      by_part (inl t) = inl (sym (any_map (λ v. is_one r (ref_of v)) (λ (p : Param). p.var) f.params) ∙ t)
      by_part (inr t) = inr t

  place_owned : (k : Key) (r : Ref) → ((q : Ref) → is_one r q ≡ true → PlaceOf q k) → is_among r (variables_of f) ≡ true → OneHas (params_of f.params) k ⊎ OneHas (vars_of f.vars) k
  place_owned k r h e = by_part (among_either r e)
    where
      by_part : (list_any (λ p. is_one r (ref_of p.var)) f.params ≡ true) ⊎ (is_among r f.vars ≡ true) → OneHas (params_of f.params) k ⊎ OneHas (vars_of f.vars) k
      by_part (inl t) = inl (passed (λ (p : Param). p.var) k r h f.params t)
      by_part (inr t) = inr (passed (λ (v : Var). v) k r h f.vars t)

  pub owned : (k : Key) → Has X k → OneHas (params_of f.params) k ⊎ OneHas (vars_of f.vars) k
  owned _ (a_scalar r h) =
      let p = and_parts (not (is_array r.kind)) (is_among r (variables_of f)) h in
      place_owned (key_of r) r (λ q e. place_one r q (not-true (is_array r.kind) p.0) e) p.1
  owned _ (a_cell r z n i h k lt) =
      let p = and_parts (is_array r.kind) (is_among r (variables_of f)) h in
      place_owned (cell_key r i) r (λ q e. cell_one r q z n i k lt e) p.1

  -- ---- copies
  copy_of : (r : Ref) → All IsPlain (variables_of f) → is_among r (variables_of f) ≡ true → r.copy ≡ 0
  copy_of r plain e =
      let x = one_of (λ v. is_one r (ref_of v)) IsPlain (variables_of f) e plain in
      ap (λ (k : Key). k.copy) (one_is r (ref_of x.0) x.1).0 ∙ (ref_copy x.0 ∙ x.2.0)

  pub zero_copies : All IsPlain (variables_of f) → (k : Key) → Has X k → k.copy ≡ 0
  zero_copies plain _ (a_scalar r h) = copy_of r plain (and_parts (not (is_array r.kind)) (is_among r (variables_of f)) h).1
  zero_copies plain _ (a_cell r z n i h k lt) = copy_of r plain (and_parts (is_array r.kind) (is_among r (variables_of f)) h).1

  -- ---- what it sets it has
  pub set_among : (r : Ref) → is_among r (arrays_set f ++ f.vars) ≡ true → is_among r (variables_of f) ≡ true
  set_among r e =
      let test : Var → Bool = λ v. is_one r (ref_of v) in
      let split : (list_any test (arrays_set f) || list_any test f.vars) ≡ true = sym (list_any-append test (arrays_set f) f.vars) ∙ e in
      list_any-append test (map (λ p. p.var) f.params) f.vars ∙ by_part (or_cases (list_any test (arrays_set f)) (list_any test f.vars) split)
    where
      by_part : (list_any (λ v. is_one r (ref_of v)) (arrays_set f) ≡ true) ⊎ (list_any (λ v. is_one r (ref_of v)) f.vars ≡ true) → (list_any (λ v. is_one r (ref_of v)) (map (λ p. p.var) f.params) || list_any (λ v. is_one r (ref_of v)) f.vars) ≡ true
      by_part (inl t) = or_left (list_any (λ v. is_one r (ref_of v)) (map (λ p. p.var) f.params)) (list_any (λ v. is_one r (ref_of v)) f.vars) (any_kept (λ v. is_one r (ref_of v)) (λ (p : Param). p.var) (is_written (names_set f)) f.params t)
      by_part (inr t) = or_right (list_any (λ v. is_one r (ref_of v)) (map (λ p. p.var) f.params)) (list_any (λ v. is_one r (ref_of v)) f.vars) t

  -- ---- its own variables
  own_here : (vs : List Var) (k : Key) → OneHas (vars_of vs) k → (v : Var) × PlaceOf (ref_of v) k × (is_among (ref_of v) vs ≡ true)
  own_here [] k o = absurd o
  own_here (v ∷ vs) k (inl p) = (v, p, or_left (is_one (ref_of v) (ref_of v)) (is_among (ref_of v) vs) (is_one-refl (ref_of v)))
  own_here (v ∷ vs) k (inr o) =
      let x = own_here vs k o in
      (x.0, x.1, or_right (is_one (ref_of x.0) (ref_of v)) (is_among (ref_of x.0) vs) x.2)

  pub own_array : (r : Ref) → is_array r.kind ≡ true → is_among r f.vars ≡ true → X.sets_array r ≡ true
  own_array r a e =
      let test : Var → Bool = λ v. is_one r (ref_of v) in
      and_from (is_array r.kind) (is_among r (arrays_set f ++ f.vars)) a (list_any-append test (arrays_set f) f.vars ∙ or_right (list_any test (arrays_set f)) (list_any test f.vars) e)

  own_scalar : (r : Ref) → is_array r.kind ≡ false → is_among r f.vars ≡ true → X.sets_scalar r ≡ true
  own_scalar r a e =
      let test : Var → Bool = λ v. is_one r (ref_of v) in
      and_from (not (is_array r.kind)) (is_among r (variables_of f)) (not_from_false (is_array r.kind) a)
      (list_any-append test (map (λ p. p.var) f.params) f.vars ∙ or_right (list_any test (map (λ p. p.var) f.params)) (list_any test f.vars) e)

  own_place : (r : Ref) (k : Key) → PlaceOf r k → is_among r f.vars ≡ true → Sets X k
  own_place r k (itself a e) h = subst (Sets X) (sym e) (a_scalar r (own_scalar r a h))
  own_place r k (its_cell z n i d lt e) h = subst (Sets X) (sym e) (a_cell r z n i (own_array r (ap is_array d) h) d lt)

  pub own_is : (k : Key) → OneHas (vars_of f.vars) k → Sets X k
  own_is k o = let x = own_here f.vars k o in own_place (ref_of x.0) k x.1 x.2

-- ---- names that differ

new_of : (v : Var) (vs : List Var) → All (texts.AreApart v) vs → IsNew (ref_of v) (vars_of vs)
new_of v [] h = tt
new_of v (w ∷ vs) h =
    let d = All-head (texts.AreApart v) w vs h in
    (named (ref_name v) (ref_name w) d.one, named (ref_name w) (ref_name v) d.other, new_of v vs (All-tail (texts.AreApart v) w vs h))
  where
    named : {a b c d : List ℕ} → a ≡ c → b ≡ d → bytes_eq c d ≡ false → bytes_eq a b ≡ false
    named {a} {b} {c} {d} e g h = ap (λ x. bytes_eq x b) e ∙ (ap (bytes_eq c) g ∙ h)

pub apart_of : (vs : List Var) → AllPairs texts.AreApart vs → AreApart (vars_of vs)
apart_of [] h = tt
apart_of (v ∷ vs) h = (new_of v vs (pairs_head texts.AreApart v vs h), apart_of vs (pairs_tail texts.AreApart v vs h))

-- parameters and variables are one list
vars_append : (vs ws : List Var) → vars_of (vs ++ ws) ≡ vars_of vs ++ vars_of ws
vars_append [] ws = refl
vars_append (v ∷ vs) ws = ap (λ x. ref_of v ∷ x) (vars_append vs ws)

params_are : (ps : List Param) → vars_of (map (λ p. p.var) ps) ≡ params_of ps
params_are [] = refl
params_are (p ∷ ps) = ap (λ x. ref_of p.var ∷ x) (params_are ps)

pub apart_is : (f : Fun) → AllPairs texts.AreApart (variables_of f) → AreApart (params_of f.params ++ vars_of f.vars)
apart_is f h =
    subst AreApart (vars_append (map (λ p. p.var) f.params) f.vars ∙ ap (λ x. x ++ vars_of f.vars) (params_are f.params))
    (apart_of (variables_of f) h)
