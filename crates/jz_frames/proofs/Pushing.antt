-- Variables that are there one after another.
use Rattle.std.proofs.Common.{◌≡◌, ℕ, ◌+◌, ◌<◌, ◌≤◌, Bool, true, false, if◌then◌else◌, List, [], ◌∷◌, ◌++◌, length, drop, get_or, map, refl, sym, ap, ◌∙◌, arith, append-nil, append_assoc}
use Rattle.std.proofs.lemmas.List.{drop_more, drop_all}
use Rattle.jz_tree.specs.Span.{Span}
use Rattle.jz_tree.specs.declared.expr.Var.{Var}
use Rattle.jz_tree.specs.declared.expr.Expr.TheViews.{out-Var}
use Rattle.jz_tree.specs.declared.program.Param.{Param}
use Rattle.jz_type_names.specs.Order.{is_before}
use Rattle.jz_meaning.specs.Values.{ref_of}
use Rattle.jz_inline.specs.BodiesCalls.{is_array}
use Rattle.jz_inline.specs.Names.{Names, var_in}
use Rattle.jz_frames.specs.Frames.{own_params}
use Rattle.jz_frames.specs.InnerFrames.{ahead}

-- the item at i, and those behind it
pub at_item : {A : Type 0} (xs : List A) (i : ℕ) (x : A) → i < length xs → x ≡ get_or xs i x → drop i xs ≡ x ∷ drop (i + 1) xs
at_item xs i x lt is = drop_more xs i x lt ∙ ap (λ y. y ∷ drop (i + 1) xs) (sym is)

pub one_renamed : (names : Names) (vs : List Var) (i : ℕ) (v : Var) (out whole : List Var)
    → i < length vs → v ≡ get_or vs i v → out ++ map (var_in names) (drop i vs) ≡ whole
    → (out ++ var_in names v ∷ []) ++ map (var_in names) (drop (i + 1) vs) ≡ whole
one_renamed names vs i v out whole lt is h =
    append_assoc out (var_in names v ∷ []) (map (var_in names) (drop (i + 1) vs))
    ∙ ap (λ l. out ++ map (var_in names) l) (sym (at_item vs i v lt is)) ∙ h

pub all_renamed : (names : Names) (vs : List Var) (i : ℕ) (out whole : List Var)
    → length vs ≤ i → out ++ map (var_in names) (drop i vs) ≡ whole → out ≡ whole
all_renamed names vs i out whole le h = sym (append-nil out) ∙ ap (λ l. out ++ map (var_in names) l) (sym (drop_all i vs le)) ∙ h

-- ---- parameters

pub one_param : (names : Names) (ps : List Param) (i : ℕ) (p : Param) (out next whole : List Var)
    → i < length ps → p ≡ get_or ps i p → next ≡ (if is_array (ref_of p.var).kind then out else (out ++ var_in names p.var ∷ []))
    → out ++ own_params names (drop i ps) ≡ whole → next ++ own_params names (drop (i + 1) ps) ≡ whole
one_param names ps i p out next whole lt is e h =
    ap (λ l. l ++ own_params names (drop (i + 1) ps)) e ∙ by_kind (is_array (ref_of p.var).kind)
    ∙ ap (λ l. out ++ own_params names l) (sym (at_item ps i p lt is)) ∙ h
  where
    by_kind : (b : Bool)
        → (if b then out else (out ++ var_in names p.var ∷ [])) ++ own_params names (drop (i + 1) ps)
        ≡ out ++ (if b then own_params names (drop (i + 1) ps) else (var_in names p.var ∷ own_params names (drop (i + 1) ps)))
    by_kind true = refl
    by_kind false = append_assoc out (var_in names p.var ∷ []) (own_params names (drop (i + 1) ps))

pub all_params : (names : Names) (ps : List Param) (i : ℕ) (out whole : List Var)
    → length ps ≤ i → out ++ own_params names (drop i ps) ≡ whole → out ≡ whole
all_params names ps i out whole le h = sym (append-nil out) ∙ ap (λ l. out ++ own_params names l) (sym (drop_all i ps le)) ∙ h

-- ---- the variables before a place

-- those before the one at i are there
pub record AreAhead (names : Names) (place : Span) (vs : List Var) (from : ℕ) (before : List Var) (i : ℕ) (out : List Var) : Type 0 where
  pub later : from ≤ i
  pub vars : out ++ map (var_in names) (ahead place (drop i vs)) ≡ before ++ map (var_in names) (ahead place (drop from vs))
  pub count : i + length (ahead place (drop i vs)) ≡ from + length (ahead place (drop from vs))

pub none_ahead : (names : Names) (place : Span) (vs : List Var) (from : ℕ) (out : List Var) → AreAhead names place vs from out from out
none_ahead names place vs from out = record { later = omega arith; vars = refl; count = refl }

ahead_on : (place : Span) (v : Var) (vs : List Var) → is_before place (out-Var v).span ≡ false → ahead place (v ∷ vs) ≡ v ∷ ahead place vs
ahead_on place v vs e = ap (λ b. if b then [] else (v ∷ ahead place vs)) e

ahead_not : (place : Span) (v : Var) (vs : List Var) → is_before place (out-Var v).span ≡ true → ahead place (v ∷ vs) ≡ []
ahead_not place v vs e = ap (λ b. if b then [] else (v ∷ ahead place vs)) e

pub one_ahead : (names : Names) (place : Span) (vs : List Var) (from : ℕ) (before : List Var) (i : ℕ) (v : Var) (out : List Var)
    → i < length vs → v ≡ get_or vs i v → is_before place (out-Var v).span ≡ false
    → AreAhead names place vs from before i out → AreAhead names place vs from before (i + 1) (out ++ var_in names v ∷ [])
one_ahead names place vs from before i v out lt is e h =
    let split : ahead place (drop i vs) ≡ v ∷ ahead place (drop (i + 1) vs) = ap (ahead place) (at_item vs i v lt is) ∙ ahead_on place v (drop (i + 1) vs) e in
    record {
      later = (let le = h.later in omega (arith, le));
      vars =
          append_assoc out (var_in names v ∷ []) (map (var_in names) (ahead place (drop (i + 1) vs)))
          ∙ ap (λ l. out ++ map (var_in names) l) (sym split) ∙ h.vars;
      count = (let n = h.count in let k = ap length split in omega (arith, n, k));
    }

-- a variable that stands behind the place ends them
pub ends_ahead : (names : Names) (place : Span) (vs : List Var) (from : ℕ) (before : List Var) (i : ℕ) (v : Var) (out : List Var)
    → i < length vs → v ≡ get_or vs i v → is_before place (out-Var v).span ≡ true → AreAhead names place vs from before i out
    → (out ≡ before ++ map (var_in names) (ahead place (drop from vs))) × (i ≡ from + length (ahead place (drop from vs)))
ends_ahead names place vs from before i v out lt is e h =
    let none : ahead place (drop i vs) ≡ [] = ap (ahead place) (at_item vs i v lt is) ∙ ahead_not place v (drop (i + 1) vs) e in
    (sym (append-nil out) ∙ ap (λ l. out ++ map (var_in names) l) (sym none) ∙ h.vars, (let n = h.count in let k = ap length none in omega (arith, n, k)))

-- so does the end
pub all_ahead : (names : Names) (place : Span) (vs : List Var) (from : ℕ) (before : List Var) (i : ℕ) (out : List Var)
    → length vs ≤ i → AreAhead names place vs from before i out
    → (out ≡ before ++ map (var_in names) (ahead place (drop from vs))) × (i ≡ from + length (ahead place (drop from vs)))
all_ahead names place vs from before i out le h =
    let none : ahead place (drop i vs) ≡ [] = ap (ahead place) (drop_all i vs le) in
    (sym (append-nil out) ∙ ap (λ l. out ++ map (var_in names) l) (sym none) ∙ h.vars, (let n = h.count in let k = ap length none in omega (arith, n, k)))
