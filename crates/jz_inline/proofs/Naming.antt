-- Where the variables of a callee are in its copy.
use Rattle.std.proofs.Common.{◌≡◌, ℕ, suc, ◌<◌, ◌==◌, List, [], ◌∷◌, ◌++◌, Option, Some, None, Bool, true, false, refl, ap, sym, ◌∙◌, subst, arith, inl, inr}
use Rattle.std.specs.Prelude.{if◌then◌else◌, ◌&&◌, ◌⊎◌}
use Rattle.std.specs.Str.{bytes_eq}
use Rattle.std.proofs.lemmas.Bool.Decides.{nat_tests}
use Rattle.std.proofs.lemmas.Slice.Eq.{bytes_eq-Decides}
use Rattle.jz_tree.specs.Size.{Size}
use Rattle.jz_tree.specs.declared.expr.Expr.{Expr}
use Rattle.jz_tree.specs.declared.program.Fun.{Fun}
use Rattle.jz_tree.specs.declared.program.Param.{Param}
use Rattle.jz_meaning.specs.declared.access.Kind.{Kind}
use Rattle.jz_meaning.specs.States.{Key, State, same_cell, same_key}
use Rattle.jz_meaning.specs.Values.{Ref, cell_key, ref_of}
use Rattle.jz_meaning.specs.Statements.{Call, array_of}
use Rattle.jz_meaning.specs.Shapes.{words}
use Rattle.jz_meaning.specs.declared.access.Kind.TheVariants as kind
use Rattle.jz_bodies.specs.Scopes.{Scope, a_scalar, a_cell, Has, Sets, IsScope}
use Rattle.jz_bodies.specs.Calls.{is_array, IsLent, lent_here, lent_later, itself, its_cell, OneHas, IsNew, AreApart, params_of, vars_of, IsArgument, of_array, of_value, AreArguments, IsCall}
use Rattle.jz_inline.specs.Names.{Names}
use Rattle.jz_inline.proofs.Copies.{ScopeCopy, key_in, IsBelow, Within, callee_copy}
use Rattle.jz_inline.specs.Calls.{name_or, callee_names}
use Rattle.jz_inline.proofs.Writing.{same_key-true}

pub bytes_same : (a : List ℕ) → bytes_eq a a ≡ true
bytes_same a = (bytes_eq-Decides a a).1 refl

number_same : (i : ℕ) → (i == i) ≡ true
number_same i = grind (arith, nat_tests)

cell_same : (c : Option ℕ) → same_cell c c ≡ true
cell_same None = refl
cell_same (Some i) = number_same i

pub same_key-refl : (k : Key) → same_key k k ≡ true
same_key-refl k = let a = bytes_same k.name in let b = number_same k.copy in let c = cell_same k.cell in rw (a, b, c)

not_true : (b : Bool) → (b ≡ true → ⊥) → b ≡ false
not_true true h = absurd (h refl)
not_true false h = refl

-- a name that no array parameter has is the copy's own
abbrev pub NoArray : List Param → List ℕ → Type 0
NoArray [] n = Unit {0}
NoArray (p ∷ ps) n = ((bytes_eq (ref_of p.var).name n && is_array (ref_of p.var).kind) ≡ false) × NoArray ps n

pub own_name : (names : Names) (j : ℕ) (ps : List Param) (es : List Expr) (n : List ℕ) → NoArray ps n → callee_names names j ps es n ≡ (n, j)
own_name names j [] es n h = refl
own_name names j (p ∷ ps) [] n h = refl
own_name names j (p ∷ ps) (e ∷ es) n h = ap (λ b. if b then names (name_or n (array_of e)) else callee_names names j ps es n) h.0 ∙ own_name names j ps es n h.1

-- the name of an array parameter is that of the array that is passed
lent_new : (ps : List Param) (es : List Expr) (q r y : Ref) → IsNew q (params_of ps) → IsLent ps es r y → bytes_eq q.name r.name ≡ false
lent_new [] es q r y h l = elim l [ ]
lent_new (p ∷ ps) es q _ y h (lent_here a e) = h.0
lent_new (p ∷ ps) (e ∷ es) q r y h (lent_later l) = lent_new ps es q r y h.2 l

pub lent_name : (names : Names) (j : ℕ) (ps : List Param) (es : List Expr) (r y : Ref) → AreApart (params_of ps) → IsLent ps es r y → callee_names names j ps es r.name ≡ names y.name
lent_name names j [] es r y h l = elim l [ ]
lent_name names j (p ∷ ps) [] r y h l = elim l [ ]
lent_name names j (p ∷ ps) (e ∷ es) _ y h (lent_here a q) =
    let b = bytes_same (ref_of p.var).name in
    let both : (bytes_eq (ref_of p.var).name (ref_of p.var).name && is_array (ref_of p.var).kind) ≡ true = rw (b, a) in
    ap (λ z. if z then names (name_or (ref_of p.var).name (array_of e)) else callee_names names j ps es (ref_of p.var).name) both ∙ ap (λ o. names (name_or (ref_of p.var).name o)) q
lent_name names j (p ∷ ps) (e ∷ es) r y h (lent_later l) =
    let n = lent_new ps es (ref_of p.var) r y h.0 l in
    ap (λ z. if z && is_array (ref_of p.var).kind then names (name_or r.name (array_of e)) else callee_names names j ps es r.name) n ∙ lent_name names j ps es r y h.1 l

-- ---- apart lists

pub apart_left : (rs qs : List Ref) → AreApart (rs ++ qs) → AreApart rs
apart_left [] qs h = tt
apart_left (r ∷ rs) qs h = (new_left r rs qs h.0, apart_left rs qs h.1)
  where
    new_left : (r : Ref) (rs qs : List Ref) → IsNew r (rs ++ qs) → IsNew r rs
    new_left r [] qs h = tt
    new_left r (a ∷ rs) qs h = (h.0, h.1, new_left r rs qs h.2)

pub new_right : (r : Ref) (rs qs : List Ref) → IsNew r (rs ++ qs) → IsNew r qs
new_right r [] qs h = h
new_right r (a ∷ rs) qs h = new_right r rs qs h.2

pub new_has : (r : Ref) (qs : List Ref) (k : Key) → IsNew r qs → OneHas qs k → bytes_eq r.name k.name ≡ false
new_has r [] k h o = absurd o
new_has r (q ∷ qs) k h (inl (itself a e)) = ap (λ (b : Key). bytes_eq r.name b.name) e ∙ h.0
new_has r (q ∷ qs) k h (inl (its_cell z n i e lt w)) = ap (λ (b : Key). bytes_eq r.name b.name) w ∙ h.0
new_has r (q ∷ qs) k h (inr o) = new_has r qs k h.2 o

-- a parameter that is an array, or none of that name
abbrev pub Lent : List Param → List Expr → Key → Type 0
Lent ps es k = (r : Ref) × (y : Ref) × (z : Size) × (n : ℕ) × (i : ℕ) × IsLent ps es r y × (r.kind ≡ kind.Array z n) × (i < n) × (k ≡ cell_key r i)

not_both : (a b : Bool) → b ≡ false → (a && b) ≡ false
not_both true b e = e
not_both false b e = refl

no_array_new : (ps : List Param) (r : Ref) → IsNew r (params_of ps) → NoArray ps r.name
no_array_new [] r h = tt
no_array_new (p ∷ ps) r h = (ap (λ b. b && is_array (ref_of p.var).kind) h.1, no_array_new ps r h.2)

array_false : (k : Kind) (z : Size) (n : ℕ) → k ≡ kind.Array z n → is_array k ≡ true
array_false k z n e = ap is_array e

pub param_place : (x g : Scope) (ps : List Param) (es : List Expr) (k : Key) → AreApart (params_of ps) → AreArguments x g ps es → OneHas (params_of ps) k → NoArray ps k.name ⊎ Lent ps es k
param_place x g [] es k h a o = absurd o
param_place x g (p ∷ ps) [] k h a o = absurd a
param_place x g (p ∷ ps) (e ∷ es) k h a (inl (itself f w)) = inl (subst (λ (b : Key). NoArray (p ∷ ps) b.name) (sym w) (not_both _ _ f, no_array_new ps (ref_of p.var) h.0))
param_place x g (p ∷ ps) (e ∷ es) k h a (inl (its_cell z n i q lt w)) = by_argument a.0
  where
    by_argument : IsArgument x g (ref_of p.var) e → NoArray (p ∷ ps) k.name ⊎ Lent (p ∷ ps) (e ∷ es) k
    by_argument (of_array {y} {z = z2} {n = n2} k2 ao yk ha s1 s2 hr) = inr (ref_of p.var, y, z, n, i, lent_here (array_false _ z n q) ao, q, lt, w)
    by_argument (of_value f nc rd fx st so) = let c = array_false _ z n q in absurd cc
param_place x g (p ∷ ps) (e ∷ es) k h a (inr o) = later (param_place x g ps es k h.1 a.1 o)
  where
    later : NoArray ps k.name ⊎ Lent ps es k → NoArray (p ∷ ps) k.name ⊎ Lent (p ∷ ps) (e ∷ es) k
    later (inl f) = inl (ap (λ b. b && is_array (ref_of p.var).kind) (new_has (ref_of p.var) (params_of ps) k h.0 o), f)
    later (inr (r, y, z, n, i, l, q, lt, is)) = inr (r, y, z, n, i, lent_later l, q, lt, is)

pub var_place : (ps : List Param) (vs : List Ref) (k : Key) → AreApart (params_of ps ++ vs) → OneHas vs k → NoArray ps k.name
var_place [] vs k h o = tt
var_place (p ∷ ps) vs k h o = (ap (λ b. b && is_array (ref_of p.var).kind) (new_has (ref_of p.var) vs k (new_right (ref_of p.var) (params_of ps) vs h.0) o), var_place ps vs k h.1 o)

-- what is lent is an array of the caller
pub lent_fact : (x g : Scope) (ps : List Param) (es : List Expr) (r y : Ref) (z : Size) (n : ℕ) → AreArguments x g ps es → IsLent ps es r y → r.kind ≡ kind.Array z n → (y.kind ≡ kind.Array z n) × (x.has_array y ≡ true) × (x.sorts y.name y.copy ≡ words) × (g.sorts r.name r.copy ≡ words)
lent_fact x g [] es r y z n a l k = elim l [ ]
lent_fact x g (p ∷ ps) [] r y z n a l k = elim a [ ]
lent_fact x g (p ∷ ps) (e ∷ es) _ y z n a (lent_here b q) k = by_argument a.0
  where
    by_argument : IsArgument x g (ref_of p.var) e → (y.kind ≡ kind.Array z n) × (x.has_array y ≡ true) × (x.sorts y.name y.copy ≡ words) × (g.sorts (ref_of p.var).name (ref_of p.var).copy ≡ words)
    by_argument (of_array {y = y2} k2 ao yk ha s1 s2 hr) = let same : y2 ≡ y = cc in (subst (λ (v : Ref). v.kind ≡ kind.Array z n) same (yk ∙ sym k2 ∙ k), subst (λ (v : Ref). x.has_array v ≡ true) same ha, subst (λ (v : Ref). x.sorts v.name v.copy ≡ words) same s1, s2)
    by_argument (of_value f nc rd fx st so) = absurd cc
lent_fact x g (p ∷ ps) (e ∷ es) r y z n a (lent_later l) k = lent_fact x g ps es r y z n a.1 l k

pub lent_known : (x g : Scope) (ps : List Param) (es : List Expr) (r y : Ref) (z : Size) (n : ℕ) → AreArguments x g ps es → IsLent ps es r y → r.kind ≡ kind.Array z n → g.has_array r ≡ true
lent_known x g [] es r y z n a l k = elim l [ ]
lent_known x g (p ∷ ps) [] r y z n a l k = elim a [ ]
lent_known x g (p ∷ ps) (e ∷ es) _ y z n a (lent_here b q) k = by_argument a.0
  where
    by_argument : IsArgument x g (ref_of p.var) e → g.has_array (ref_of p.var) ≡ true
    by_argument (of_array k2 ao yk ha s1 s2 hr) = hr
    by_argument (of_value f nc rd fx st so) = absurd cc
lent_known x g (p ∷ ps) (e ∷ es) r y z n a (lent_later l) k = lent_known x g ps es r y z n a.1 l k

pub sets_has : (x : Scope) → IsScope x → (k : Key) → Sets x k → Has x k
sets_has x h _ (a_scalar r s) = a_scalar r (h.scalars r s)
sets_has x h _ (a_cell r z n i s k lt) = a_cell r z n i (h.arrays r s) k lt

-- ---- the copy

module _ (scopes : Fun → Scope) (x : ScopeCopy) (c : ℕ) (q : Call) (below : IsBelow x c) (is : IsCall x.scope (scopes q.callee) q) where
  abbrev pub g : Scope
  g = scopes q.callee

  abbrev pub inner : Names
  inner = callee_names x.names c q.callee.params q.args

  abbrev pub Own : Key → Type 0
  Own k = inner k.name ≡ (k.name, c)

  -- each place of the callee is of the copy, or a cell of an array that is passed
  pub place : (k : Key) → Has g k → Own k ⊎ Lent q.callee.params q.args k
  place k h = sorted (is.owned k h)
    where
      ap0 : AreApart (params_of q.callee.params)
      ap0 = apart_left (params_of q.callee.params) (vars_of q.callee.vars) is.apart

      of_param : NoArray q.callee.params k.name ⊎ Lent q.callee.params q.args k → Own k ⊎ Lent q.callee.params q.args k
      of_param (inl f) = inl (own_name x.names c q.callee.params q.args k.name f)
      of_param (inr l) = inr l

      sorted : OneHas (params_of q.callee.params) k ⊎ OneHas (vars_of q.callee.vars) k → Own k ⊎ Lent q.callee.params q.args k
      sorted (inl o) = of_param (param_place x.scope g q.callee.params q.args k ap0 is.arguments o)
      sorted (inr o) = inl (own_name x.names c q.callee.params q.args k.name (var_place q.callee.params (vars_of q.callee.vars) k is.apart o))

  abbrev pub Caller : Ref → ℕ → Key
  Caller y i = key_in x.names (cell_key y i)

  -- where a cell of an array that is passed is
  pub lent_at : (r y : Ref) (i : ℕ) → IsLent q.callee.params q.args r y → key_in inner (cell_key r i) ≡ Caller y i
  lent_at r y i l = let e = lent_name x.names c q.callee.params q.args r y (apart_left (params_of q.callee.params) (vars_of q.callee.vars) is.apart) l in ap (λ (p : List ℕ × ℕ). record { name = p.0; copy = p.1; cell = Some i }) e

  pub own_at : (k : Key) → Own k → key_in inner k ≡ record { name = k.name; copy = c; cell = k.cell }
  own_at k o = ap (λ (p : List ℕ × ℕ). record { name = p.0; copy = p.1; cell = k.cell }) o

  pub lent_has : (r y : Ref) (z : Size) (n i : ℕ) → IsLent q.callee.params q.args r y → r.kind ≡ kind.Array z n → i < n → Has x.scope (cell_key y i)
  lent_has r y z n i l k lt = let f = lent_fact x.scope g q.callee.params q.args r y z n is.arguments l k in a_cell y z n i f.1 f.0 lt

  lent_below : (k : Key) → Lent q.callee.params q.args k → (key_in inner k).copy < c
  lent_below k (r, y, z, n, i, l, e, lt, same) =
      let at : key_in inner k ≡ Caller y i = ap (key_in inner) same ∙ lent_at r y i l in
      subst (λ (b : Key). b.copy < c) (sym at) (below.below (cell_key y i) (lent_has r y z n i l e lt))

  pub own_copy : (k : Key) → Own k → (key_in inner k).copy ≡ c
  own_copy k o = ap (λ (b : Key). b.copy) (own_at k o)

  own_own : (k k2 : Key) → k.copy ≡ 0 → k2.copy ≡ 0 → Own k → Own k2 → same_key (key_in inner k) (key_in inner k2) ≡ same_key k k2
  own_own k k2 z z2 o o2 =
      let a = number_same c in
      let b : (k.copy == k2.copy) ≡ true = rw (z, z2) in
      ap (λ v. same_key v (key_in inner k2)) (own_at k o) ∙ ap (same_key (record { name = k.name; copy = c; cell = k.cell })) (own_at k2 o2)
      ∙ ap (λ t. bytes_eq k.name k2.name && (t && same_cell k.cell k2.cell)) (a ∙ sym b)

  differ : (k k2 : Key) → ((key_in inner k).copy ≡ (key_in inner k2).copy → ⊥) → same_key (key_in inner k) (key_in inner k2) ≡ same_key k k2
  differ k k2 h =
      not_true (same_key (key_in inner k) (key_in inner k2)) (λ e. h (ap (λ (b : Key). b.copy) (same_key-true (key_in inner k) (key_in inner k2) e)))
      ∙ sym (not_true (same_key k k2) (λ e. h (ap (λ b. (key_in inner b).copy) (same_key-true k k2 e))))

  pub callee_below : IsBelow (callee_copy scopes x c q) (suc c)
  callee_below = record { scope = is.scope; below = under; apart = apart2 }
    where
      under : (k : Key) → Has g k → (key_in inner k).copy < suc c
      under k h = by_place (place k h)
        where
          by_place : Own k ⊎ Lent q.callee.params q.args k → (key_in inner k).copy < suc c
          by_place (inl o) = omega (arith, own_copy k o)
          by_place (inr l) = omega (arith, lent_below k l)

      apart2 : (k k2 : Key) → Sets g k → Has g k2 → same_key (key_in inner k) (key_in inner k2) ≡ same_key k k2
      apart2 k k2 s h2 = by_places (place k h) (place k2 h2)
        where
          h : Has g k
          h = sets_has g is.scope k s

          by_places : Own k ⊎ Lent q.callee.params q.args k → Own k2 ⊎ Lent q.callee.params q.args k2 → same_key (key_in inner k) (key_in inner k2) ≡ same_key k k2
          by_places (inl o) (inl o2) = own_own k k2 (is.zero k h) (is.zero k2 h2) o o2
          by_places (inl o) (inr l2) = differ k k2 (λ e. omega (arith, e, own_copy k o, lent_below k2 l2))
          by_places (inr l) (inl o2) = differ k k2 (λ e. omega (arith, e, own_copy k2 o2, lent_below k l))
          by_places (inr (r, y, z, n, i, l, e, lt, same)) (inr (r2, y2, z2, n2, i2, l2, e2, lt2, same2)) =
              let at : key_in inner k ≡ Caller y i = ap (key_in inner) same ∙ lent_at r y i l in
              let at2 : key_in inner k2 ≡ Caller y2 i2 = ap (key_in inner) same2 ∙ lent_at r2 y2 i2 l2 in
              let sr : Sets g (cell_key r i) = subst (Sets g) same s in
              ap (λ v. same_key v (key_in inner k2)) at ∙ ap (same_key (Caller y i)) at2
              ∙ below.apart (cell_key y i) (cell_key y2 i2) (is.sets r y i l sr) (lent_has r2 y2 z2 n2 i2 l2 e2 lt2)
              ∙ is.once r y r2 y2 i i2 l l2 sr
              ∙ sym (ap (λ v. same_key v k2) same ∙ ap (same_key (cell_key r i)) same2)

  -- what changed no more than the callee may change, changed no more than the caller may
  pub callee_within : (t t1 : State) → Within (callee_copy scopes x c q) (suc c) t t1 → Within x c t t1
  callee_within t t1 w k lt out = w k (omega (arith, lt)) not_set
    where
      not_set : (b : Key) → Sets g b → key_in inner b ≡ k → ⊥
      not_set b s e = by_place (place b (sets_has g is.scope b s))
        where
          by_place : Own b ⊎ Lent q.callee.params q.args b → ⊥
          by_place (inl o) = omega (arith, own_copy b o, ap (λ (v : Key). v.copy) e, lt)
          by_place (inr (r, y, z, n, i, l, f, lt2, same)) =
              let at : key_in inner b ≡ Caller y i = ap (key_in inner) same ∙ lent_at r y i l in
              out (cell_key y i) (is.sets r y i l (subst (Sets g) same s)) (sym at ∙ e)
