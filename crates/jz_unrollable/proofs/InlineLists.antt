-- Which variables of a list of variables are inline, in some copy.
use Rattle.std.proofs.Common.{◌≡◌, ℕ, List, [], ◌∷◌, ◌++◌, map, Bool, true, false, refl, ap, sym, ◌∙◌, arith, bytes_eq}
use Rattle.std.specs.Prelude.{⊤, ◌==◌, ◌&&◌, ◌||◌, All, AllPairs, option_map, if◌then◌else◌}
use Rattle.std.specs.List.{list_any}
use Rattle.std.proofs.lemmas.Bool.{and_parts}
use Rattle.std.proofs.lemmas.Bool.Decides.{nat_tests}
use Rattle.std.proofs.lemmas.List.Elements.{All-head, All-tail}
use Rattle.jz_tree.proofs.Texts.{bytes_eq-true}
use Rattle.jz_tree.specs.Span.{Span}
use Rattle.jz_tree.specs.declared.expr.Expr.{Expr}
use Rattle.jz_tree.specs.declared.expr.Ty.{Ty}
use Rattle.jz_tree.specs.declared.expr.Access.{Access}
use Rattle.jz_tree.specs.declared.expr.Decl.{Decl}
use Rattle.jz_tree.specs.declared.expr.Var.{Var}
use Rattle.jz_tree.specs.declared.expr.Expr.TheOpen.{Var-F}
use Rattle.jz_tree.specs.declared.expr.Expr.TheViews.{out-Var, out-roll-Var}
use Rattle.jz_tree.specs.declared.program.Param.{Param}
use Rattle.jz_type_names.specs.Order.{is_before}
use Rattle.jz_type_names.specs.Kinds.{declared_of, known_of, is_inline_int}
use Rattle.jz_meaning.specs.Values.{ref_of}
use Rattle.jz_texts.specs.Texts.{IsPlain}
use Rattle.jz_texts.specs.Declared.{AreApart}
use Rattle.jz_texts.proofs.Lists.{pairs_head, pairs_tail}
use Rattle.jz_ready.specs.Calls.{is_array}
use Rattle.jz_ready.proofs.Refs.{bytes_same, ref_name}
use Rattle.jz_inlining.specs.Names.{Names, var_in}
use Rattle.jz_inlining.proofs.Naming.{NoArray}
use Rattle.jz_inlining.specs.Frames.{Group, all_in, behind, merged, own_params}
use Rattle.jz_unroll.proofs.InlineParts.{var_test}
use Rattle.jz_unrolling_values.specs.InlineNames.{is_inline_named}

false_true : false ≡ true → ⊥
false_true q = absurd cc

-- ---- truths

or_assoc : (a b c : Bool) → ((a || b) || c) ≡ (a || (b || c))
or_assoc true b c = refl
or_assoc false b c = refl

or_swap : (a b c : Bool) → (a || (b || c)) ≡ (b || (a || c))
or_swap true true c = refl
or_swap true false c = refl
or_swap false b c = refl

pub or_false : (a : Bool) → (a || false) ≡ a
or_false true = refl
or_false false = refl

pub both_under : (a b c : Bool) → ((a && b) || (a && c)) ≡ (a && (b || c))
both_under true b c = refl
both_under false b c = refl

and_turned : (a b : Bool) → (a && b) ≡ (b && (a && true))
and_turned true true = refl
and_turned true false = refl
and_turned false true = refl
and_turned false false = refl

and_false : (a : Bool) → (a && false) ≡ false
and_false true = refl
and_false false = refl

pub four : (a b c d e : Bool) → (((a && b) || ((a && c) || d)) || e) ≡ ((a && (b || c)) || (d || e))
four true true c d e = refl
four true false true d e = refl
four true false false d e = refl
four false b c d e = refl

pub any_both : (f : Var → Bool) (xs ys : List Var) → list_any f (xs ++ ys) ≡ (list_any f xs || list_any f ys)
any_both f [] ys = refl
any_both f (x ∷ xs) ys = ap (λ b. f x || b) (any_both f xs ys) ∙ sym (or_assoc (f x) (list_any f xs) (list_any f ys))

-- ---- one name in one copy

abbrev pub OneOf : List ℕ → List Var → Bool
OneOf n vs = list_any (is_inline_named n 0) vs

module _ (n : List ℕ) (x : ℕ) where
  abbrev pub Has : List Var → Bool
  Has vs = list_any (is_inline_named n x) vs

  -- ---- lists that are merged

  any_behind : (v : Var) (at : Span) (rest : List Group → List Var) (r : Bool) (gs : List Group) → ((hs : List Group) → Has (rest hs) ≡ (r || Has (all_in hs))) → Has (behind v at rest gs) ≡ ((is_inline_named n x v || r) || Has (all_in gs))
  any_behind v at rest r [] h = ap (λ b. is_inline_named n x v || b) (h []) ∙ sym (or_assoc (is_inline_named n x v) r false)
  any_behind v at rest r (g ∷ gs) h = by_test (is_before g.at at) (any_behind v at rest r gs h)
    where
      t : Bool
      t = is_inline_named n x v

      by_test : (b : Bool) → Has (behind v at rest gs) ≡ ((is_inline_named n x v || r) || Has (all_in gs)) → Has (if b then g.vars ++ behind v at rest gs else (v ∷ rest (g ∷ gs))) ≡ ((is_inline_named n x v || r) || Has (all_in (g ∷ gs)))
      by_test true k =
          any_both (is_inline_named n x) g.vars (behind v at rest gs) ∙ ap (λ b. Has g.vars || b) k
          ∙ or_swap (Has g.vars) (is_inline_named n x v || r) (Has (all_in gs))
          ∙ ap (λ b. (is_inline_named n x v || r) || b) (sym (any_both (is_inline_named n x) g.vars (all_in gs)))
      by_test false k = ap (λ b. is_inline_named n x v || b) (h (g ∷ gs)) ∙ sym (or_assoc (is_inline_named n x v) r (Has (all_in (g ∷ gs))))

  pub any_merged : (m : Names) (vs : List Var) (gs : List Group) → Has (merged m vs gs) ≡ (Has (map (var_in m) vs) || Has (all_in gs))
  any_merged m [] gs = refl
  any_merged m (v ∷ vs) gs = any_behind (var_in m v) (out-Var v).span (merged m vs) (Has (map (var_in m) vs)) gs (λ hs. any_merged m vs hs)

-- ---- variables of a copy

abbrev pub ArePlain : List Var → Type 0
ArePlain [] = ⊤
ArePlain (v ∷ vs) = IsPlain v × ArePlain vs

-- those that are inline have the number of the copy
abbrev pub AreOwn : Names → ℕ → List Var → Type 0
AreOwn m c vs = (k : List ℕ) → OneOf k vs ≡ true → m k ≡ (k, c)

copy_test : (c : ℕ) → c ≡ 0 → (c == 0) ≡ true
copy_test c q = grind (arith, nat_tests, q)

-- an inline variable has its own name
own_named : (v : Var) → IsPlain v → is_inline_int (known_of v) ≡ true → is_inline_named (out-Var v).name 0 v ≡ true
own_named v plain q =
    let b = bytes_same (out-Var v).name in let z = copy_test (out-Var v).copy plain.0 in
    ap (λ t. t && (bytes_eq (out-Var v).name (out-Var v).name && (out-Var v).copy == 0)) q ∙ ap (λ t. t && (out-Var v).copy == 0) b ∙ z

-- an array is not inline
pub array_plain : (v : Var) → is_array (ref_of v).kind ≡ true → is_inline_int (known_of v) ≡ false
array_plain v h = by_test (is_inline_int (known_of v)) refl
  where
    by_test : (b : Bool) → is_inline_int (known_of v) ≡ b → b ≡ false
    by_test true q = absurd (false_true (sym (var_test is_array false refl refl v q) ∙ h))
    by_test false q = refl

module _ (n : List ℕ) (x : ℕ) where
  first_is : (m : Names) (c : ℕ) (v : Var) → IsPlain v → (is_inline_int (known_of v) ≡ true → m (out-Var v).name ≡ ((out-Var v).name, c)) → is_inline_named n x (var_in m v) ≡ ((c == x) && is_inline_named n 0 v)
  first_is m c v plain own = by_inline (is_inline_int (known_of v)) refl
    where
      inline : is_inline_int (known_of (var_in m v)) ≡ is_inline_int (known_of v)
      inline = ap (λ (y : Var-F Expr Ty Access Decl Var). is_inline_int (option_map declared_of y.decl)) (out-roll-Var _)

      at : ((out-Var (var_in m v)).name ≡ (m (out-Var v).name).0) × ((out-Var (var_in m v)).copy ≡ (m (out-Var v).name).1)
      at = (ap (λ (y : Var-F Expr Ty Access Decl Var). y.name) (out-roll-Var _), ap (λ (y : Var-F Expr Ty Access Decl Var). y.copy) (out-roll-Var _))

      by_inline : (b : Bool) → is_inline_int (known_of v) ≡ b → is_inline_named n x (var_in m v) ≡ ((c == x) && is_inline_named n 0 v)
      by_inline true q =
          ap (λ b. b && (bytes_eq (out-Var (var_in m v)).name n && (out-Var (var_in m v)).copy == x)) (inline ∙ q)
          ∙ ap (λ w. bytes_eq w n && (out-Var (var_in m v)).copy == x) (at.0 ∙ ap (λ p. p.0) (own q))
          ∙ ap (λ w. bytes_eq (out-Var v).name n && w == x) (at.1 ∙ ap (λ p. p.1) (own q))
          ∙ and_turned (bytes_eq (out-Var v).name n) (c == x)
          ∙ ap (λ w. (c == x) && (bytes_eq (out-Var v).name n && w)) (sym (copy_test (out-Var v).copy plain.0))
          ∙ ap (λ w. (c == x) && (w && (bytes_eq (out-Var v).name n && (out-Var v).copy == 0))) (sym q)
      by_inline false q =
          ap (λ b. b && (bytes_eq (out-Var (var_in m v)).name n && (out-Var (var_in m v)).copy == x)) (inline ∙ q)
          ∙ sym (ap (λ w. (c == x) && (w && (bytes_eq (out-Var v).name n && (out-Var v).copy == 0))) q ∙ and_false (c == x))

  later : (m : Names) (c : ℕ) (v : Var) (vs : List Var) → AreOwn m c (v ∷ vs) → AreOwn m c vs
  later m c v vs own = λ k q. own k (by_first k (is_inline_named k 0 v) q)
    where
      by_first : (k : List ℕ) (b : Bool) → OneOf k vs ≡ true → (b || OneOf k vs) ≡ true
      by_first k true q = refl
      by_first k false q = q

  own_first : (m : Names) (c : ℕ) (v : Var) (vs : List Var) → IsPlain v → AreOwn m c (v ∷ vs) → is_inline_int (known_of v) ≡ true → m (out-Var v).name ≡ ((out-Var v).name, c)
  own_first m c v vs plain own q = own (out-Var v).name (ap (λ b. b || OneOf (out-Var v).name vs) (own_named v plain q))

  pub vars_are : (m : Names) (c : ℕ) (vs : List Var) → ArePlain vs → AreOwn m c vs → Has n x (map (var_in m) vs) ≡ ((c == x) && OneOf n vs)
  vars_are m c [] plain own = sym (and_false (c == x))
  vars_are m c (v ∷ vs) plain own =
      ap (λ b. b || Has n x (map (var_in m) vs)) (first_is m c v plain.0 (own_first m c v vs plain.0 own))
      ∙ ap (λ b. ((c == x) && is_inline_named n 0 v) || b) (vars_are m c vs plain.1 (later m c v vs own))
      ∙ both_under (c == x) (is_inline_named n 0 v) (OneOf n vs)

  pub params_are : (m : Names) (c : ℕ) (ps : List Param) → ArePlain (map (λ p. p.var) ps) → AreOwn m c (map (λ p. p.var) ps) → Has n x (own_params m ps) ≡ ((c == x) && OneOf n (map (λ p. p.var) ps))
  params_are m c [] plain own = sym (and_false (c == x))
  params_are m c (p ∷ ps) plain own = by_array (is_array (ref_of p.var).kind) refl (params_are m c ps plain.1 (later m c p.var (map (λ q. q.var) ps) own))
    where
      by_array : (b : Bool) → is_array (ref_of p.var).kind ≡ b → Has n x (own_params m ps) ≡ ((c == x) && OneOf n (map (λ q. q.var) ps)) → Has n x (if b then own_params m ps else (var_in m p.var ∷ own_params m ps)) ≡ ((c == x) && OneOf n (map (λ q. q.var) (p ∷ ps)))
      by_array true q rest =
          rest ∙ ap (λ w. (c == x) && ((w && (bytes_eq (out-Var p.var).name n && (out-Var p.var).copy == 0)) || OneOf n (map (λ q. q.var) ps))) (sym (array_plain p.var q))
      by_array false q rest =
          ap (λ b. b || Has n x (own_params m ps)) (first_is m c p.var plain.0 (own_first m c p.var (map (λ q. q.var) ps) plain.0 own))
          ∙ ap (λ b. ((c == x) && is_inline_named n 0 p.var) || b) rest
          ∙ both_under (c == x) (is_inline_named n 0 p.var) (OneOf n (map (λ q. q.var) ps))

  -- a variable of the text is in the copy 0
  text_first : (v : Var) → IsPlain v → is_inline_named n x v ≡ ((0 == x) && is_inline_named n 0 v)
  text_first v plain = by_inline (is_inline_int (known_of v))
    where
      by_inline : (b : Bool) → (b && (bytes_eq (out-Var v).name n && (out-Var v).copy == x)) ≡ ((0 == x) && (b && (bytes_eq (out-Var v).name n && (out-Var v).copy == 0)))
      by_inline true =
          ap (λ w. bytes_eq (out-Var v).name n && w == x) plain.0 ∙ and_turned (bytes_eq (out-Var v).name n) (0 == x)
          ∙ ap (λ w. (0 == x) && (bytes_eq (out-Var v).name n && w)) (sym (copy_test (out-Var v).copy plain.0))
      by_inline false = sym (and_false (0 == x))

  pub text_are : (vs : List Var) → ArePlain vs → Has n x vs ≡ ((0 == x) && OneOf n vs)
  text_are [] plain = sym (and_false (0 == x))
  text_are (v ∷ vs) plain =
      ap (λ b. b || Has n x vs) (text_first v plain.0) ∙ ap (λ b. ((0 == x) && is_inline_named n 0 v) || b) (text_are vs plain.1)
      ∙ both_under (0 == x) (is_inline_named n 0 v) (OneOf n vs)

-- ---- where names differ

name_of_inline : (k : List ℕ) (v : Var) → is_inline_named k 0 v ≡ true → bytes_eq (out-Var v).name k ≡ true
name_of_inline k v h =
    let p = and_parts (is_inline_int (known_of v)) _ h in (and_parts (bytes_eq (out-Var v).name k) _ p.1).0

-- a variable that is apart from those that have an inline variable of a name has another name
apart_name : (v : Var) (xs : List Var) (k : List ℕ) → All (AreApart v) xs → OneOf k xs ≡ true → bytes_eq (out-Var v).name k ≡ false
apart_name v [] k h q = absurd (false_true q)
apart_name v (w ∷ xs) k h q = by_first (is_inline_named k 0 w) refl (λ t. apart_name v xs k (All-tail (AreApart v) w xs h) t) q
  where
    by_first : (b : Bool) → is_inline_named k 0 w ≡ b → (OneOf k xs ≡ true → bytes_eq (out-Var v).name k ≡ false) → (b || OneOf k xs) ≡ true → bytes_eq (out-Var v).name k ≡ false
    by_first true t rest u = ap (bytes_eq (out-Var v).name) (sym (bytes_eq-true (out-Var w).name k (name_of_inline k w t))) ∙ (All-head (AreApart v) w xs h).one
    by_first false t rest u = rest u

-- and none of its name is an array
none_named : (v : Var) (ps : List Param) (vs : List Var) (k : List ℕ) → All (AreApart v) (map (λ p. p.var) ps ++ vs) → (out-Var v).name ≡ k → NoArray ps k
none_named v [] vs k h q = tt
none_named v (p ∷ ps) vs k h q =
    let first = All-head (AreApart v) p.var (map (λ p. p.var) ps ++ vs) h in (
      ap (λ w. bytes_eq w k && is_array (ref_of p.var).kind) (ref_name p.var) ∙ ap (λ w. bytes_eq (out-Var p.var).name w && is_array (ref_of p.var).kind) (sym q) ∙ ap (λ w. w && is_array (ref_of p.var).kind) first.other,
      none_named v ps vs k (All-tail (AreApart v) p.var (map (λ p. p.var) ps ++ vs) h) q,
    )

-- no array has the name of an inline variable
pub no_array : (ps : List Param) (vs : List Var) (k : List ℕ) → AllPairs AreApart (map (λ p. p.var) ps ++ vs) → OneOf k (map (λ p. p.var) ps ++ vs) ≡ true → NoArray ps k
no_array [] vs k h q = tt
no_array (p ∷ ps) vs k h q =
    by_first (is_inline_named k 0 p.var) refl (λ t. no_array ps vs k (pairs_tail AreApart p.var (map (λ p. p.var) ps ++ vs) h) t) q
  where
    rest : List Var
    rest = map (λ p. p.var) ps ++ vs

    apart : All (AreApart p.var) (map (λ p. p.var) ps ++ vs)
    apart = pairs_head AreApart p.var (map (λ p. p.var) ps ++ vs) h

    plain : is_inline_named k 0 p.var ≡ true → is_array (ref_of p.var).kind ≡ false
    plain t = var_test is_array false refl refl p.var (and_parts (is_inline_int (known_of p.var)) _ t).0

    by_first : (b : Bool) → is_inline_named k 0 p.var ≡ b → (OneOf k (map (λ p. p.var) ps ++ vs) ≡ true → NoArray ps k) → (b || OneOf k (map (λ p. p.var) ps ++ vs)) ≡ true → NoArray (p ∷ ps) k
    by_first true t later u = (
      ap (λ w. bytes_eq (ref_of p.var).name k && w) (plain t) ∙ and_false (bytes_eq (ref_of p.var).name k),
      none_named p.var ps vs k apart (bytes_eq-true (out-Var p.var).name k (name_of_inline k p.var t)),
    )
    by_first false t later u = (
      ap (λ w. bytes_eq w k && is_array (ref_of p.var).kind) (ref_name p.var) ∙ ap (λ w. w && is_array (ref_of p.var).kind) (apart_name p.var (map (λ p. p.var) ps ++ vs) k apart u),
      later u,
    )
