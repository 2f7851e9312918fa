-- The variables of a copy: each has its name and the copy's number.
use Rattle.std.proofs.Common.{◌≡◌, ℕ, suc, Bool, true, false, List, [], ◌∷◌, ◌++◌, map, refl, sym, ap, ◌∙◌, arith}
use Rattle.std.specs.Prelude.{⊤, ◌&&◌, if◌then◌else◌, All, AllPairs}
use Rattle.std.specs.Str.{bytes_eq}
use Rattle.std.proofs.lemmas.List.Elements.{All-head, All-tail}
use Rattle.jz_tree.specs.declared.expr.Expr.{Expr}
use Rattle.jz_tree.specs.declared.expr.Var.{Var}
use Rattle.jz_tree.specs.declared.expr.Expr.TheViews.{out-Var}
use Rattle.jz_tree.specs.declared.program.Param.{Param}
use Rattle.jz_meaning.specs.Values.{Ref, ref_of}
use Rattle.jz_bodies.specs.Calls.{is_array}
use Rattle.jz_bodies.proofs.Refs.{bytes_same, ref_name}
use Rattle.jz_texts.specs.Declared.{AreApart}
use Rattle.jz_texts.proofs.Lists.{pairs_head, pairs_tail}
use Rattle.jz_inline.specs.Names.{Names, var_in}
use Rattle.jz_inline.specs.Calls.{callee_names}
use Rattle.jz_inline.proofs.Naming.{NoArray, own_name}
use Rattle.jz_inline.proofs.Reading.{ref_so}
use Rattle.jz_frames.specs.Frames.{own_params}
use Rattle.jz_declared.specs.Declared.{AreOther, Differ}
use Rattle.jz_distinct.proofs.Differing.{EachOther, CopiesIn}

-- ---- names that are apart
abbrev pub EachApart : Var → List Var → Type 0
EachApart x [] = ⊤
EachApart x (y ∷ ys) = AreApart x y × EachApart x ys

abbrev pub Pairwise : List Var → Type 0
Pairwise [] = ⊤
Pairwise (x ∷ xs) = EachApart x xs × Pairwise xs

each_from : (x : Var) (xs : List Var) → All (AreApart x) xs → EachApart x xs
each_from x [] h = tt
each_from x (y ∷ ys) h = (All-head (AreApart x) y ys h, each_from x ys (All-tail (AreApart x) y ys h))

pub pairwise_from : (xs : List Var) → AllPairs AreApart xs → Pairwise xs
pairwise_from [] h = tt
pairwise_from (x ∷ xs) h = (each_from x xs (pairs_head AreApart x xs h), pairwise_from xs (pairs_tail AreApart x xs h))

each_first : (x : Var) (xs ys : List Var) → EachApart x (xs ++ ys) → EachApart x xs
each_first x [] ys h = tt
each_first x (y ∷ xs) ys h = (h.0, each_first x xs ys h.1)

each_second : (x : Var) (xs ys : List Var) → EachApart x (xs ++ ys) → EachApart x ys
each_second x [] ys h = h
each_second x (y ∷ xs) ys h = each_second x xs ys h.1

pub pairs_first : (xs ys : List Var) → Pairwise (xs ++ ys) → Pairwise xs
pairs_first [] ys h = tt
pairs_first (x ∷ xs) ys h = (each_first x xs ys h.0, pairs_first xs ys h.1)

pub pairs_second : (xs ys : List Var) → Pairwise (xs ++ ys) → Pairwise ys
pairs_second [] ys h = h
pairs_second (x ∷ xs) ys h = pairs_second xs ys h.1

abbrev pub vars_of : List Param → List Var
vars_of ps = map (λ p. p.var) ps

-- ---- bytes of names
pub ref_apart : (v w : Var) → bytes_eq (out-Var v).name (out-Var w).name ≡ false → bytes_eq (ref_of v).name (ref_of w).name ≡ false
ref_apart v w h = ap (λ n. bytes_eq n (ref_of w).name) (ref_name v) ∙ ap (bytes_eq (out-Var v).name) (ref_name w) ∙ h

clash : (b : Bool) → b ≡ true → b ≡ false → ⊥
clash true e f = absurd cc
clash false e f = absurd cc

pub names_clash : (v w : Var) → AreApart v w → (ref_of v).name ≡ (ref_of w).name → ⊥
names_clash v w h e = clash (bytes_eq (ref_of v).name (ref_of w).name) (ap (λ n. bytes_eq n (ref_of w).name) e ∙ bytes_same (ref_of w).name) (ref_apart v w h.one)

and_left : (b c : Bool) → b ≡ false → (b && c) ≡ false
and_left true c e = absurd cc
and_left false c e = refl

and_right : (b c : Bool) → c ≡ false → (b && c) ≡ false
and_right true c e = e
and_right false c e = refl

-- ---- names in a copy
abbrev pub IsSane : Names → ℕ → Var → Type 0
IsSane names c v = names (ref_of v).name ≡ ((ref_of v).name, c)

abbrev pub AreSane : Names → ℕ → List Var → Type 0
AreSane names c [] = ⊤
AreSane names c (v ∷ vs) = IsSane names c v × AreSane names c vs

pub var_name : (names : Names) (c : ℕ) (v : Var) → IsSane names c v → (ref_of (var_in names v)).name ≡ (ref_of v).name
var_name names c v h = ap (λ (r : Ref). r.name) (ref_so names v) ∙ ap (λ q. q.0) h

pub var_copy : (names : Names) (c : ℕ) (v : Var) → IsSane names c v → (ref_of (var_in names v)).copy ≡ c
var_copy names c v h = ap (λ (r : Ref). r.copy) (ref_so names v) ∙ ap (λ q. q.1) h

pub copied_in : (names : Names) (c : ℕ) (vs : List Var) → AreSane names c vs → CopiesIn c (suc c) (map (var_in names) vs)
copied_in names c [] h = tt
copied_in names c (v ∷ vs) h = let e = var_copy names c v h.0 in (omega (arith, e), omega (arith, e), copied_in names c vs h.1)

other_copied : (x : Var) (names : Names) (c : ℕ) (ys : List Var) → IsSane names c x → AreSane names c ys → EachApart x ys → AreOther (var_in names x) (map (var_in names) ys)
other_copied x names c [] s h a = tt
other_copied x names c (y ∷ ys) s h a = ((λ e f. names_clash x y a.0 (sym (var_name names c x s) ∙ e ∙ var_name names c y h.0)), other_copied x names c ys s h.1 a.1)

pub differ_copied : (names : Names) (c : ℕ) (vs : List Var) → AreSane names c vs → Pairwise vs → Differ (map (var_in names) vs)
differ_copied names c [] h a = tt
differ_copied names c (v ∷ vs) h a = (other_copied v names c vs h.0 h.1 a.0, differ_copied names c vs h.1 a.1)

-- ---- the names of a callee
NoArrays : List Param → List Var → Type 0
NoArrays ps [] = ⊤
NoArrays ps (v ∷ vs) = NoArray ps (ref_of v).name × NoArrays ps vs

no_params : (vs : List Var) → NoArrays [] vs
unfolding NoArrays
no_params [] = tt
no_params (v ∷ vs) = (tt, no_params vs)

more_params : (p : Param) (ps : List Param) (vs : List Var) → EachApart p.var vs → NoArrays ps vs → NoArrays (p ∷ ps) vs
unfolding NoArrays
more_params p ps [] h k = tt
more_params p ps (v ∷ vs) h k = ((and_left (bytes_eq (ref_of p.var).name (ref_of v).name) (is_array (ref_of p.var).kind) (ref_apart p.var v h.0.one), k.0), more_params p ps vs h.1 k.1)

no_arrays : (ps : List Param) (vs : List Var) → Pairwise (vars_of ps ++ vs) → NoArrays ps vs
no_arrays [] vs h = no_params vs
no_arrays (p ∷ ps) vs h = more_params p ps vs (each_second p.var (vars_of ps) vs h.0) (no_arrays ps vs h.1)

sane_by : (names : Names) (j : ℕ) (ps : List Param) (es : List Expr) (vs : List Var) → NoArrays ps vs → AreSane (callee_names names j ps es) j vs
unfolding NoArrays
sane_by names j ps es [] h = tt
sane_by names j ps es (v ∷ vs) h = (own_name names j ps es (ref_of v).name h.0, sane_by names j ps es vs h.1)

pub callee_sane : (names : Names) (j : ℕ) (ps : List Param) (es : List Expr) (vs : List Var) → Pairwise (vars_of ps ++ vs) → AreSane (callee_names names j ps es) j vs
callee_sane names j ps es vs h = sane_by names j ps es vs (no_arrays ps vs h)

-- ---- parameters that are no arrays
abbrev ParamsOk : List Param → List Param → Type 0
ParamsOk [] all = ⊤
ParamsOk (p ∷ ps) all = (is_array (ref_of p.var).kind ≡ false → NoArray all (ref_of p.var).name) × ParamsOk ps all

add_front : (q : Param) (ps all : List Param) → EachApart q.var (vars_of ps) → ParamsOk ps all → ParamsOk ps (q ∷ all)
add_front q [] all h k = tt
add_front q (p ∷ ps) all h k = ((λ e. (and_left (bytes_eq (ref_of q.var).name (ref_of p.var).name) (is_array (ref_of q.var).kind) (ref_apart q.var p.var h.0.one), k.0 e)), add_front q ps all h.1 k.1)

none_before : (q : Param) (ps : List Param) → EachApart q.var (vars_of ps) → NoArray ps (ref_of q.var).name
none_before q [] h = tt
none_before q (p ∷ ps) h = (and_left (bytes_eq (ref_of p.var).name (ref_of q.var).name) (is_array (ref_of p.var).kind) (ref_apart p.var q.var h.0.other), none_before q ps h.1)

params_ok : (ps : List Param) → Pairwise (vars_of ps) → ParamsOk ps ps
params_ok [] h = tt
params_ok (q ∷ ps) h = ((λ e. (and_right (bytes_eq (ref_of q.var).name (ref_of q.var).name) (is_array (ref_of q.var).kind) e, none_before q ps h.0)), add_front q ps ps h.0 (params_ok ps h.1))

module _ (names : Names) (j : ℕ) (all : List Param) (es : List Expr) where
  abbrev inner : Names
  inner = callee_names names j all es

  own_sane : (p : Param) → (is_array (ref_of p.var).kind ≡ false → NoArray all (ref_of p.var).name) → is_array (ref_of p.var).kind ≡ false → IsSane inner j p.var
  own_sane p ok e = own_name names j all es (ref_of p.var).name (ok e)

  own_copies : (ps : List Param) → ParamsOk ps all → CopiesIn j (suc j) (own_params inner ps)
  own_copies [] ok = tt
  own_copies (p ∷ ps) ok = by_test (is_array (ref_of p.var).kind) refl (own_copies ps ok.1)
    where
      by_test : (b : Bool) → is_array (ref_of p.var).kind ≡ b → CopiesIn j (suc j) (own_params inner ps) → CopiesIn j (suc j) (if b then own_params inner ps else (var_in inner p.var ∷ own_params inner ps))
      by_test true e h = h
      by_test false e h = let c = var_copy inner j p.var (own_sane p ok.0 e) in (omega (arith, c), omega (arith, c), h)

  own_other : (x : Var) (ps : List Param) → IsSane inner j x → ParamsOk ps all → EachApart x (vars_of ps) → AreOther (var_in inner x) (own_params inner ps)
  own_other x [] s ok a = tt
  own_other x (p ∷ ps) s ok a = by_test (is_array (ref_of p.var).kind) refl (own_other x ps s ok.1 a.1)
    where
      by_test : (b : Bool) → is_array (ref_of p.var).kind ≡ b → AreOther (var_in inner x) (own_params inner ps) → AreOther (var_in inner x) (if b then own_params inner ps else (var_in inner p.var ∷ own_params inner ps))
      by_test true e h = h
      by_test false e h = ((λ f g. names_clash x p.var a.0 (sym (var_name inner j x s) ∙ f ∙ var_name inner j p.var (own_sane p ok.0 e))), h)

  own_differ : (ps : List Param) → ParamsOk ps all → Pairwise (vars_of ps) → Differ (own_params inner ps)
  own_differ [] ok a = tt
  own_differ (p ∷ ps) ok a = by_test (is_array (ref_of p.var).kind) refl (own_differ ps ok.1 a.1)
    where
      by_test : (b : Bool) → is_array (ref_of p.var).kind ≡ b → Differ (own_params inner ps) → Differ (if b then own_params inner ps else (var_in inner p.var ∷ own_params inner ps))
      by_test true e h = h
      by_test false e h = (own_other p.var ps (own_sane p ok.0 e) ok.1 a.0, h)

  own_vars : (ps : List Param) (vs : List Var) → ParamsOk ps all → Pairwise (vars_of ps ++ vs) → AreSane inner j vs → EachOther (own_params inner ps) (map (var_in inner) vs)
  own_vars [] vs ok a s = tt
  own_vars (p ∷ ps) vs ok a s = by_test (is_array (ref_of p.var).kind) refl (own_vars ps vs ok.1 a.1 s)
    where
      by_test : (b : Bool) → is_array (ref_of p.var).kind ≡ b → EachOther (own_params inner ps) (map (var_in inner) vs) → EachOther (if b then own_params inner ps else (var_in inner p.var ∷ own_params inner ps)) (map (var_in inner) vs)
      by_test true e h = h
      by_test false e h = (other_copied p.var inner j vs (own_sane p ok.0 e) s (each_second p.var (vars_of ps) vs a.0), h)

-- what a callee's parameters are in a copy
pub record OwnParams (names : Names) (j : ℕ) (ps : List Param) (es : List Expr) (vs : List Var) : Type 0 where
  pub copies : CopiesIn j (suc j) (own_params (callee_names names j ps es) ps)
  pub differ : Differ (own_params (callee_names names j ps es) ps)
  pub apart : EachOther (own_params (callee_names names j ps es) ps) (map (var_in (callee_names names j ps es)) vs)

pub own_are : (names : Names) (j : ℕ) (ps : List Param) (es : List Expr) (vs : List Var) → Pairwise (vars_of ps ++ vs) → OwnParams names j ps es vs
own_are names j ps es vs h =
    let own = pairs_first (vars_of ps) vs h in
    let ok = params_ok ps own in
    record { copies = own_copies names j ps es ps ok; differ = own_differ names j ps es ps ok own; apart = own_vars names j ps es ps vs ok h (callee_sane names j ps es vs h) }

-- ---- a function's own parameters
plain_other : (x : Var) (ys : List Var) → EachApart x ys → AreOther x ys
plain_other x [] h = tt
plain_other x (y ∷ ys) h = ((λ e f. names_clash x y h.0 e), plain_other x ys h.1)

pub plain_differ : (xs : List Var) → Pairwise xs → Differ xs
plain_differ [] h = tt
plain_differ (x ∷ xs) h = (plain_other x xs h.0, plain_differ xs h.1)

named_other : (x : Var) (names : Names) (c : ℕ) (ys : List Var) → AreSane names c ys → EachApart x ys → AreOther x (map (var_in names) ys)
named_other x names c [] s h = tt
named_other x names c (y ∷ ys) s h = ((λ e f. names_clash x y h.0 (e ∙ var_name names c y s.0)), named_other x names c ys s.1 h.1)

pub named_apart : (xs : List Var) (names : Names) (c : ℕ) (ys : List Var) → AreSane names c ys → Pairwise (xs ++ ys) → EachOther xs (map (var_in names) ys)
named_apart [] names c ys s h = tt
named_apart (x ∷ xs) names c ys s h = (named_other x names c ys s (each_second x xs ys h.0), named_apart xs names c ys s h.1)
