-- What a copied function declares by itself is among the variables of the function without calls.
use Rattle.std.proofs.Common.{◌≡◌, ◌⊎◌, inl, inr, ℕ, zero, suc, ◌+◌, ◌<◌, Bool, true, false, ◌&&◌, ◌||◌, List, [], ◌∷◌, ◌++◌, map, length, get_or, Contains, Some, refl, sym, ap, ◌∙◌, subst, arith, bytes_eq, if◌then◌else◌}
use Rattle.std.specs.Prelude.{slice_get}
use Rattle.std.proofs.lemmas.List.Elements.{Contains-append_left, Contains-append_right, Contains-append_cases}
use Rattle.jz_tree.specs.Span.{Span}
use Rattle.jz_tree.specs.declared.expr.Var.{Var}
use Rattle.jz_tree.specs.declared.expr.Expr.TheViews.{out-Var}
use Rattle.jz_tree.specs.declared.program.Fun.{Fun}
use Rattle.jz_tree.specs.declared.program.Param.{Param}
use Rattle.jz_type_names.specs.Order.{is_before}
use Rattle.jz_type_names.specs.Scopes.{variables_of}
use Rattle.jz_meaning.specs.Values.{ref_of}
use Rattle.jz_bodies.specs.Calls.{is_array}
use Rattle.jz_bodies.proofs.Refs.{bytes_same}
use Rattle.jz_inline.specs.Names.{Names, var_in}
use Rattle.jz_inline.specs.Calls.{callee_names}
use Rattle.jz_inline.proofs.Naming.{NoArray, own_name}
use Rattle.jz_frames.specs.Frames.{Called, Group, all_in, behind, merged, own_params, copies_in, groups, frame_in, calls_in}
use Rattle.jz_unrollable.proofs.CalledFuns.{funs_with, funs_in, funs_counted}
use Rattle.jz_copied_variables.specs.Variables.{is_lent}

-- ---- the variables of a function, and what stands between them
abbrev Stands : Names → List Var → List Group → Var → Type 0
Stands names vs gs w = Contains (map (var_in names) vs) w ⊎ Contains (all_in gs) w

-- before what stands behind a variable
module _ (names : Names) (v : Var) (vs : List Var) (w : Var) (rest : List Group → List Var) (later : (gs : List Group) → Stands names vs gs w → Contains (rest gs) w) where
  here_or : (gs : List Group) → Stands names (v ∷ vs) gs w → Contains (var_in names v ∷ rest gs) w
  here_or gs (inl (zero, lt, e)) = (0, omega arith, e)
  here_or gs (inl (suc k, lt, e)) = Contains-append_right (var_in names v ∷ []) (rest gs) w (later gs (inl (k, omega (arith, lt), e)))
  here_or gs (inr c) = Contains-append_right (var_in names v ∷ []) (rest gs) w (later gs (inr c))

  by_place : (b : Bool) (h : Group) (gs : List Group) (more : List Var) → (Stands names (v ∷ vs) gs w → Contains more w) → Stands names (v ∷ vs) (h ∷ gs) w
      → Contains (if b then h.vars ++ more else (var_in names v ∷ rest (h ∷ gs))) w
  by_place false h gs more deeper s = here_or (h ∷ gs) s
  by_place true h gs more deeper (inl c) = Contains-append_right h.vars more w (deeper (inl c))
  by_place true h gs more deeper (inr c) =
      elim (Contains-append_cases h.vars (all_in gs) w c) [ inl i ↦ Contains-append_left h.vars more w i | inr i ↦ Contains-append_right h.vars more w (deeper (inr i)) ]

  stands_behind : (at : Span) (gs : List Group) → Stands names (v ∷ vs) gs w → Contains (behind (var_in names v) at rest gs) w
  stands_behind at [] s = here_or [] s
  stands_behind at (h ∷ gs) s = by_place (is_before h.at at) h gs (behind (var_in names v) at rest gs) (λ t. stands_behind at gs t) s

stands_merged : (names : Names) (vs : List Var) (gs : List Group) (w : Var) → Stands names vs gs w → Contains (merged names vs gs) w
stands_merged names [] gs w (inl c) = absurd (omega (arith, c.1))
stands_merged names [] gs w (inr c) = c
stands_merged names (v ∷ vs) gs w s = stands_behind names v vs w (merged names vs) (λ hs t. stands_merged names vs hs w t) (out-Var v).span gs s

in_copy : (names : Names) (vs : List Var) (k : ℕ) (v : Var) → k < length vs → get_or vs k v ≡ v → Contains (map (var_in names) vs) (var_in names v)
in_copy names [] k v lt e = absurd (omega (arith, lt))
in_copy names (x ∷ vs) zero v lt e = (0, omega arith, ap (var_in names) e)
in_copy names (x ∷ vs) (suc k) v lt e = Contains-append_right (var_in names x ∷ []) (map (var_in names) vs) (var_in names v) (in_copy names vs k v (omega (arith, lt)) e)

-- those of a function stand in its frame
pub own_frame : (fs : List Fun) (depth : ℕ) (names : Names) (j : ℕ) (f : Fun) (v : Var) → Contains f.vars v → Contains (frame_in fs depth names j f) (var_in names v)
own_frame fs zero names j f v c = in_copy names f.vars c.0 v c.1 c.2
own_frame fs (suc d) names j f v c = stands_merged names f.vars (groups (frame_in fs d) (copies_in fs d) names j (calls_in fs (suc d) f.body)) (var_in names v) (inl (in_copy names f.vars c.0 v c.1 c.2))

-- ---- names of parameters
no_truth : (a b : Bool) → (a || b) ≡ false → (a ≡ false) × (b ≡ false)
no_truth true b e = absurd cc
no_truth false b e = (refl, e)

not_lent : (ps : List Param) (n : List ℕ) → is_lent ps n ≡ false → NoArray ps n
not_lent [] n e = tt
not_lent (q ∷ ps) n e = let s = no_truth (bytes_eq (ref_of q.var).name n && is_array (ref_of q.var).kind) (is_lent ps n) e in (s.0, not_lent ps n s.1)

-- a parameter that is not lent stands among the copy's own
no_array_by : (a b : Bool) → a ≡ true → (a && b) ≡ false → b ≡ false
no_array_by true b e f = f
no_array_by false b e f = absurd cc

no_array_here : (q : Param) (w : Var) → q.var ≡ w → (bytes_eq (ref_of q.var).name (ref_of w).name && is_array (ref_of q.var).kind) ≡ false → is_array (ref_of q.var).kind ≡ false
no_array_here q w e f =
    no_array_by (bytes_eq (ref_of q.var).name (ref_of w).name) (is_array (ref_of q.var).kind)
    (ap (λ (x : Var). bytes_eq (ref_of x).name (ref_of w).name) e ∙ bytes_same (ref_of w).name) f

own_here : (b : Bool) (x y : Var) (rest : List Var) → b ≡ false → x ≡ y → Contains (if b then rest else (x ∷ rest)) y
own_here true x y rest e q = absurd cc
own_here false x y rest e q = (0, omega arith, q)

own_later : (b : Bool) (x y : Var) (rest : List Var) → Contains rest y → Contains (if b then rest else (x ∷ rest)) y
own_later true x y rest c = c
own_later false x y rest c = Contains-append_right (x ∷ []) rest y c

has_own : (inner : Names) (ps : List Param) (w : Var) (k : ℕ) → k < length (map (λ (q : Param). q.var) ps) → get_or (map (λ (q : Param). q.var) ps) k w ≡ w → NoArray ps (ref_of w).name
    → Contains (own_params inner ps) (var_in inner w)
has_own inner [] w k lt e n = absurd (omega (arith, lt))
has_own inner (q ∷ ps) w zero lt e n = own_here (is_array (ref_of q.var).kind) (var_in inner q.var) (var_in inner w) (own_params inner ps) (no_array_here q w e n.0) (ap (var_in inner) e)
has_own inner (q ∷ ps) w (suc k) lt e n =
    own_later (is_array (ref_of q.var).kind) (var_in inner q.var) (var_in inner w) (own_params inner ps) (has_own inner ps w k (omega (arith, lt)) e n.1)

-- ---- one item of two lists
one_more : (n k i : ℕ) → k ≡ n + i → suc k ≡ suc n + i
one_more n k i e = omega (arith, e)

in_parts : (g : Fun) (xs ys : List Fun) (k : ℕ) → slice_get (xs ++ ys) k ≡ Some g → (slice_get xs k ≡ Some g) ⊎ ((i : ℕ) × (k ≡ length xs + i) × (slice_get ys i ≡ Some g))
in_parts g [] ys k e = let none : k ≡ 0 + k = omega arith in inr (k, none, e)
in_parts g (x ∷ xs) ys zero e = inl e
in_parts g (x ∷ xs) ys (suc k) e = elim (in_parts g xs ys k e) [ inl i ↦ inl i | inr r ↦ inr (r.0, one_more (length xs) k r.0 r.1, r.2) ]

same_fun : (x y : Fun) → Some x ≡ Some y → x ≡ y
same_fun x y e = cc

later_number : (j k n m i : ℕ) → n ≡ m → k ≡ n + i → (j + suc m) + i ≡ j + suc k
later_number j k n m i e q = omega (arith, e, q)

-- ---- a variable w as it is in the copy c, among these
module _ (w : Var) where
  pub record IsCopied (c : ℕ) (vs : List Var) : Type 0 where
    pub names : Names
    pub name : names (ref_of w).name ≡ ((ref_of w).name, c)
    pub there : Contains vs (var_in names w)

  pub same_copy : (c d : ℕ) (vs : List Var) → c ≡ d → IsCopied c vs → IsCopied d vs
  same_copy c d vs e h = subst (λ x. IsCopied x vs) e h

  pub wider : (c : ℕ) (xs ys : List Var) → ((y : Var) → Contains xs y → Contains ys y) → IsCopied c xs → IsCopied c ys
  wider c xs ys f h = record { names = h.names; name = h.name; there = f (var_in h.names w) h.there }

  -- of a function g that declares it by itself
  module _ (g : Fun) (fs : List Fun) (among : Contains (variables_of g) w) (own : is_lent g.params (ref_of w).name ≡ false) where
    abbrev InFrame : ℕ → Type 0
    InFrame depth = (m : Names) (j : ℕ) (f : Fun) (k : ℕ) → slice_get (funs_in fs depth f) k ≡ Some g → IsCopied (j + k) (frame_in fs depth m j f)

    abbrev brought : ℕ → Names → ℕ → List Called → List Var
    brought d m j cs = all_in (groups (frame_in fs d) (copies_in fs d) m j cs)

    -- a call of g
    called_here : (d : ℕ) (m : Names) (j : ℕ) (c : Called) → c.of ≡ g
        → IsCopied j (own_params (callee_names m j c.of.params c.args) c.of.params ++ frame_in fs d (callee_names m j c.of.params c.args) (suc j) c.of)
    called_here d m j c e =
        let inner : Names = callee_names m j c.of.params c.args in
        let first : List Var = own_params inner c.of.params in
        let frame : List Var = frame_in fs d inner (suc j) c.of in
        let none : NoArray c.of.params (ref_of w).name = not_lent c.of.params (ref_of w).name (ap (λ (x : Fun). is_lent x.params (ref_of w).name) e ∙ own) in
        let here : Contains (variables_of c.of) w = subst (λ (x : Fun). Contains (variables_of x) w) (sym e) among in
        let there : Contains (first ++ frame) (var_in inner w) = elim (Contains-append_cases (map (λ (q : Param). q.var) c.of.params) c.of.vars w here) [
          | inl i ↦ Contains-append_left first frame (var_in inner w) (has_own inner c.of.params w i.0 i.1 i.2 none)
          | inr i ↦ Contains-append_right first frame (var_in inner w) (own_frame fs d inner (suc j) c.of w i)
        ] in
        record { names = inner; name = own_name m j c.of.params c.args (ref_of w).name none; there = there }

    in_groups : (d : ℕ) → InFrame d → (m : Names) (j : ℕ) (cs : List Called) (k : ℕ) → slice_get (funs_with (funs_in fs d) cs) k ≡ Some g → IsCopied (j + k) (brought d m j cs)
    in_groups d law m j [] k e = absurd cc
    in_groups d law m j (c ∷ cs) zero e =
        let inner : Names = callee_names m j c.of.params c.args in
        let here : List Var = own_params inner c.of.params ++ frame_in fs d inner (suc j) c.of in
        let rest : List Var = brought d m (j + suc (copies_in fs d c.of)) cs in
        let number : j ≡ j + 0 = omega arith in
        same_copy j (j + 0) (here ++ rest) number (wider j here (here ++ rest) (λ y i. Contains-append_left here rest y i) (called_here d m j c (same_fun c.of g e)))
    in_groups d law m j (c ∷ cs) (suc k) e =
        let inner : Names = callee_names m j c.of.params c.args in
        let first : List Var = own_params inner c.of.params in
        let frame : List Var = frame_in fs d inner (suc j) c.of in
        let next : ℕ = j + suc (copies_in fs d c.of) in
        let rest : List Var = brought d m next cs in
        let number : suc j + k ≡ j + suc k = omega arith in
        elim (in_parts g (funs_in fs d c.of) (funs_with (funs_in fs d) cs) k e) [
          | inl i ↦ same_copy (suc j + k) (j + suc k) ((first ++ frame) ++ rest) number
              (wider (suc j + k) frame ((first ++ frame) ++ rest) (λ y r. Contains-append_left (first ++ frame) rest y (Contains-append_right first frame y r)) (law inner (suc j) c.of k i))
          | inr r ↦ same_copy (next + r.0) (j + suc k) ((first ++ frame) ++ rest) (later_number j k (length (funs_in fs d c.of)) (copies_in fs d c.of) r.0 (funs_counted fs d c.of) r.1)
              (wider (next + r.0) rest ((first ++ frame) ++ rest) (λ y q. Contains-append_right (first ++ frame) rest y q) (in_groups d law m next cs r.0 r.2))
        ]

    pub in_frames : (depth : ℕ) → InFrame depth
    in_frames zero m j f k e = absurd cc
    in_frames (suc d) m j f k e =
        let cs : List Called = calls_in fs (suc d) f.body in
        let gs : List Group = groups (frame_in fs d) (copies_in fs d) m j cs in
        wider (j + k) (all_in gs) (merged m f.vars gs) (λ y i. stands_merged m f.vars gs y (inr i)) (in_groups d (in_frames d) m j cs k e)
