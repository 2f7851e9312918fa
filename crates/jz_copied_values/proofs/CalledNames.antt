-- Where the variables of a callee are in its copy, and which names its parameters and variables
-- have.
use Rattle.std.proofs.Common.{◌≡◌, ℕ, ◌<◌, List, [], ◌∷◌, ◌++◌, map, Bool, true, false, refl, ap, sym, ◌∙◌, subst, inl, inr, bytes_eq}
use Rattle.std.specs.Prelude.{⊤, ◌&&◌, ◌||◌, ◌⊎◌, if◌then◌else◌}
use Rattle.std.specs.List.{list_any}
use Rattle.std.proofs.lemmas.Bool.{and_parts}
use Rattle.jz_tree.proofs.Texts.{bytes_eq-true}
use Rattle.jz_tree.specs.declared.expr.Expr.{Expr}
use Rattle.jz_tree.specs.declared.expr.Var.{Var}
use Rattle.jz_tree.specs.declared.expr.Expr.TheViews.{out-Var, roll-out-Var}
use Rattle.jz_tree.specs.declared.program.Fun.{Fun}
use Rattle.jz_tree.specs.declared.program.Param.{Param}
use Rattle.jz_type_names.specs.Kinds.{known_of, is_inline_int}
use Rattle.jz_meaning.specs.Statements.{array_of}
use Rattle.jz_meaning.specs.Values.{Ref, ref_of}
use Rattle.jz_unrolling_laws.specs.BodiesCalls.{is_array, IsNew, AreApart, params_of, vars_of}
use Rattle.jz_unrolling_laws.specs.Names.{Names}
use Rattle.jz_unrolling_laws.specs.Calls.{name_or, callee_names}
use Rattle.jz_unrolling_laws.proofs.Naming.{NoArray, own_name, new_right}
use Rattle.jz_unrolling_laws.proofs.Reading.{ref_rolled}
use Rattle.jz_unroll.specs.Values.{InlineNames}
use Rattle.jz_unrolling_values.specs.InlineNames.{is_inline_named}
use Rattle.jz_unrolling_laws.specs.CalledBodies.{ByTest, Inlines, inlines_of, IsNamedArgument, AreNamedArguments}
use Rattle.jz_copied_values.proofs.CopiedNumbers.{IsCopy, not_behind}

false_true : false ≡ true → ⊥
false_true q = absurd cc

pub by_so : (b : Bool) (A B : Type 0) → b ≡ true → ByTest b A B → A
by_so true A B q h = h
by_so false A B q h = absurd (false_true q)

pub by_not : (b : Bool) (A B : Type 0) → b ≡ false → ByTest b A B → B
by_not true A B q h = absurd (false_true (sym q))
by_not false A B q h = h

-- ---- the copy

module _ (names : InlineNames) (i j : Inlines) (m : Names) (c0 c : ℕ) (copy : IsCopy names i m c0) (lt : c0 < c) (own : (n : List ℕ) → names n c ≡ j n) where
  abbrev Placed : List ℕ → List ℕ × ℕ → Type 0
  Placed n at = (at ≡ (n, c)) ⊎ ((at.1 < c) × (j n ≡ false) × (names at.0 at.1 ≡ false))

  passed : (p : Param) (x : Expr) (n : List ℕ) → IsNamedArgument i j p.var x → (bytes_eq (ref_of p.var).name n && is_array (ref_of p.var).kind) ≡ true → Placed n (m (name_or n (array_of x)))
  passed p x n h t =
      let parts = and_parts (bytes_eq (ref_of p.var).name n) _ t in
      let (y, is, out, inner) = by_so (is_array (ref_of p.var).kind) _ _ parts.1 h in
      let name : (ref_of p.var).name ≡ n = bytes_eq-true (ref_of p.var).name n parts.0 in
      subst (λ o. Placed n (m (name_or n o))) (sym is)
      (inr (not_behind names i m c0 copy y.name c lt, ap j (sym name) ∙ inner, copy.named y.name ∙ out))

  placed : (ps : List Param) (xs : List Expr) → AreNamedArguments i j ps xs → (n : List ℕ) → Placed n (callee_names m c ps xs n)
  placed [] [] h n = inl refl
  placed [] (x ∷ xs) h n = inl refl
  placed (p ∷ ps) [] h n = inl refl
  placed (p ∷ ps) (x ∷ xs) h n = by_name (bytes_eq (ref_of p.var).name n && is_array (ref_of p.var).kind) refl (placed ps xs h.1 n)
    where
      by_name : (b : Bool) → (bytes_eq (ref_of p.var).name n && is_array (ref_of p.var).kind) ≡ b → Placed n (callee_names m c ps xs n) → Placed n (if b then m (name_or n (array_of x)) else callee_names m c ps xs n)
      by_name true q rest = passed p x n h.0 q
      by_name false q rest = rest

  pub callee_copy : (ps : List Param) (xs : List Expr) → AreNamedArguments i j ps xs → IsCopy names j (callee_names m c ps xs) c
  callee_copy ps xs h = record { named = λ n. named n (placed ps xs h n); place = λ n. place n (placed ps xs h n) }
    where
      named : (n : List ℕ) → Placed n (callee_names m c ps xs n) → names (callee_names m c ps xs n).0 (callee_names m c ps xs n).1 ≡ j n
      named n (inl q) = ap (λ at. names at.0 at.1) q ∙ own n
      named n (inr p) = p.2 ∙ sym p.1

      place : (n : List ℕ) → Placed n (callee_names m c ps xs n) → (callee_names m c ps xs n ≡ (n, c)) ⊎ (((callee_names m c ps xs n).1 < c) × (j n ≡ false))
      place n (inl q) = inl q
      place n (inr p) = inr (p.0, p.1)

-- ---- names that differ

-- none of them has this name
abbrev pub Clear : List Ref → List ℕ → Type 0
Clear [] n = ⊤
Clear (r ∷ rs) n = (bytes_eq r.name n ≡ false) × Clear rs n

-- one of them has it
abbrev pub Holds : List Ref → List ℕ → Type 0
Holds [] n = ⊥
Holds (r ∷ rs) n = (bytes_eq r.name n ≡ true) ⊎ Holds rs n

new_clear : (r : Ref) (qs : List Ref) (n : List ℕ) → IsNew r qs → r.name ≡ n → Clear qs n
new_clear r [] n h q = tt
new_clear r (s ∷ qs) n h q = (subst (λ k. bytes_eq s.name k ≡ false) q h.1, new_clear r qs n h.2 q)

-- a variable's name is no parameter's
pub clear_params : (rs qs : List Ref) (n : List ℕ) → AreApart (rs ++ qs) → Holds qs n → Clear rs n
clear_params [] qs n h o = tt
clear_params (r ∷ rs) qs n h o = (differs qs (new_right r rs qs h.0) o, clear_params rs qs n h.1 o)
  where
    differs : (qs : List Ref) → IsNew r qs → Holds qs n → bytes_eq r.name n ≡ false
    differs [] w o = absurd o
    differs (s ∷ qs) w (inl q) = ap (bytes_eq r.name) (sym (bytes_eq-true s.name n q)) ∙ w.0
    differs (s ∷ qs) w (inr o) = differs qs w.2 o

-- nor a parameter's a variable's
pub clear_vars : (rs qs : List Ref) (n : List ℕ) → AreApart (rs ++ qs) → Holds rs n → Clear qs n
clear_vars [] qs n h o = absurd o
clear_vars (r ∷ rs) qs n h (inl q) = new_clear r qs n (new_right r rs qs h.0) (bytes_eq-true r.name n q)
clear_vars (r ∷ rs) qs n h (inr o) = clear_vars rs qs n h.1 o

clear_array : (ps : List Param) (n : List ℕ) → Clear (params_of ps) n → NoArray ps n
clear_array [] n h = tt
clear_array (p ∷ ps) n h = (ap (λ b. b && is_array (ref_of p.var).kind) h.0, clear_array ps n h.1)

-- a variable of the callee has the number of the copy
pub var_own : (m : Names) (c : ℕ) (ps : List Param) (xs : List Expr) (n : List ℕ) → Clear (params_of ps) n → callee_names m c ps xs n ≡ (n, c)
var_own m c ps xs n h = own_name m c ps xs n (clear_array ps n h)

-- ---- what is inline is a parameter or a variable

name_out : (v : Var) → (ref_of v).name ≡ (out-Var v).name
name_out v = ap (λ w. (ref_of w).name) (sym (roll-out-Var v)) ∙ ap (λ (r : Ref). r.name) (ref_rolled (out-Var v))

inline_name : (n : List ℕ) (v : Var) → is_inline_named n 0 v ≡ true → bytes_eq (ref_of v).name n ≡ true
inline_name n v h =
    let p = and_parts (is_inline_int (known_of v)) _ h in let q = and_parts (bytes_eq (out-Var v).name n) _ p.1 in
    ap (λ w. bytes_eq w n) (name_out v) ∙ q.0

vars_hold : (n : List ℕ) (vs : List Var) → list_any (is_inline_named n 0) vs ≡ true → Holds (vars_of vs) n
vars_hold n [] h = false_true h
vars_hold n (v ∷ vs) h = by_first (is_inline_named n 0 v) refl (λ t. vars_hold n vs t) h
  where
    by_first : (b : Bool) → is_inline_named n 0 v ≡ b → (list_any (is_inline_named n 0) vs ≡ true → Holds (vars_of vs) n) → (b || list_any (is_inline_named n 0) vs) ≡ true → Holds (vars_of (v ∷ vs)) n
    by_first true q rest t = inl (inline_name n v q)
    by_first false q rest t = inr (rest t)

all_hold : (n : List ℕ) (ps : List Param) (vs : List Var) → list_any (is_inline_named n 0) (map (λ p. p.var) ps ++ vs) ≡ true → Holds (params_of ps) n ⊎ Holds (vars_of vs) n
all_hold n [] vs h = inr (vars_hold n vs h)
all_hold n (p ∷ ps) vs h = by_first (is_inline_named n 0 p.var) refl (λ t. all_hold n ps vs t) h
  where
    later : Holds (params_of ps) n ⊎ Holds (vars_of vs) n → Holds (params_of (p ∷ ps)) n ⊎ Holds (vars_of vs) n
    later (inl o) = inl (inr o)
    later (inr o) = inr o

    by_first : (b : Bool) → is_inline_named n 0 p.var ≡ b → (list_any (is_inline_named n 0) (map (λ p. p.var) ps ++ vs) ≡ true → Holds (params_of ps) n ⊎ Holds (vars_of vs) n) → (b || list_any (is_inline_named n 0) (map (λ p. p.var) ps ++ vs)) ≡ true → Holds (params_of (p ∷ ps)) n ⊎ Holds (vars_of vs) n
    by_first true q rest t = inl (inl (inline_name n p.var q))
    by_first false q rest t = later (rest t)

pub inline_held : (g : Fun) (n : List ℕ) → inlines_of g n ≡ true → Holds (params_of g.params) n ⊎ Holds (vars_of g.vars) n
inline_held g n h = all_hold n g.params g.vars h
