-- The names of inline variables, one declaration after another.
use Rattle.std.proofs.Common.{◌≡◌, ℕ, ◌<◌, ◌+◌, List, [], ◌∷◌, ◌++◌, map, length, take, drop, get_or, Option, Some, None, Bool, true, false, refl, ap, sym, ◌∙◌, append_assoc}
use Rattle.std.specs.Prelude.{◌==◌, ◌&&◌, ◌||◌, is_some, if◌then◌else◌}
use Rattle.std.specs.List.{list_any}
use Rattle.std.specs.Str.{bytes_eq}
use Rattle.std.proofs.lemmas.List.{take_more, drop_more, map-append}
use Rattle.jz_tree.specs.declared.expr.Expr.TheViews.{out-Var}
use Rattle.jz_tree.specs.declared.expr.Var.{Var}
use Rattle.jz_tree.specs.declared.program.Param.{Param}
use Rattle.jz_type_names.specs.Kinds.{known_of, is_inline_int}
use Rattle.jz_integers.specs.Integers.{KnownNumbers}
use Rattle.jz_meaning.specs.States.{Value, put}
use Rattle.jz_meaning.specs.Stores.{store_of}
use Rattle.jz_meaning.specs.Values.{ref_of}
use Rattle.jz_unroll.specs.Unrolling.{all_unknown}
use Rattle.jz_unrolling_values.specs.declared.inline_vars.InlineVars.{InlineVars}
use Rattle.jz_unrolling_values.specs.InlineNames.{is_inline_named, inline_names, AreInline}
use Rattle.jz_unrolling_values.specs.Numbers.{with_number_at}
use Rattle.jz_unrolling_values.proofs.PartLemmas.{ref_name, ref_copy}

or_none : (a : Bool) → (a || false) ≡ a
or_none true = refl
or_none false = refl

or_assoc : (a b c : Bool) → (a || (b || c)) ≡ ((a || b) || c)
or_assoc true b c = refl
or_assoc false b c = refl

or_last : (a : Bool) → true ≡ (a || true)
or_last true = refl
or_last false = refl

any_last : {A : Type 0} (f : A → Bool) (xs : List A) (x : A) → list_any f (xs ++ x ∷ []) ≡ (list_any f xs || f x)
any_last f [] x = or_none (f x)
any_last f (y ∷ ys) x = ap (λ b. f y || b) (any_last f ys x) ∙ or_assoc (f y) (list_any f ys) (f x)

marked_name : (a b : Bool) (w : Value) (x : Option Value) → is_some (if a && (b && true) then Some w else x) ≡ (is_some x || (a && b))
marked_name true true w x = or_last (is_some x)
marked_name true false w x = sym (or_none (is_some x))
marked_name false b w x = sym (or_none (is_some x))

pub added_inline : (t new : InlineVars) (vs : List Var) (v : Var) (w : Value) → is_inline_int (known_of v) ≡ true
    → store_of new.marks ≡ put (store_of t.marks) (record { name = (out-Var v).name; copy = (out-Var v).copy; cell = None }) (Some w)
    → AreInline t vs → AreInline new (vs ++ v ∷ [])
added_inline t new vs v w inline marks h = record { names = λ k n c. at n c k }
  where
    at : (n : List ℕ) (c : ℕ) → is_some (store_of new.marks (record { name = n; copy = c; cell = None })) ≡ inline_names (vs ++ v ∷ []) n c
    at n c =
        ap (λ s. is_some (s (record { name = n; copy = c; cell = None }))) marks
        ∙ marked_name (bytes_eq (out-Var v).name n) ((out-Var v).copy == c) w (store_of t.marks (record { name = n; copy = c; cell = None }))
        ∙ ap (λ f. f n c || (bytes_eq (out-Var v).name n && (out-Var v).copy == c)) h.names
        ∙ ap (λ b. inline_names vs n c || (b && (bytes_eq (out-Var v).name n && (out-Var v).copy == c))) (sym inline)
        ∙ sym (any_last (is_inline_named n c) vs v)

pub same_inline : (t : InlineVars) (vs : List Var) (v : Var) → is_inline_int (known_of v) ≡ false → AreInline t vs → AreInline t (vs ++ v ∷ [])
same_inline t vs v inline h = record { names = h.names ∙ (λ k n c. at n c k) }
  where
    at : (n : List ℕ) (c : ℕ) → inline_names vs n c ≡ inline_names (vs ++ v ∷ []) n c
    at n c =
        sym (or_none (inline_names vs n c))
        ∙ ap (λ b. inline_names vs n c || (b && (bytes_eq (out-Var v).name n && (out-Var v).copy == c))) (sym inline)
        ∙ sym (any_last (is_inline_named n c) vs v)

-- ---- one item more

abbrev pub vars_of : List Param → List Var
vars_of ps = map (λ (p : Param). p.var) ps

pub params_more : (ps : List Param) (i : ℕ) (p : Param) → i < length ps → p ≡ get_or ps i p → vars_of (take (i + 1) ps) ≡ vars_of (take i ps) ++ p.var ∷ []
params_more ps i p lt is = ap vars_of (take_more ps i p lt ∙ ap (λ q. take i ps ++ q ∷ []) (sym is)) ∙ map-append (λ (q : Param). q.var) (take i ps) (p ∷ [])

pub vars_more : (us vs : List Var) (i : ℕ) (v : Var) → i < length vs → v ≡ get_or vs i v → (us ++ take i vs) ++ v ∷ [] ≡ us ++ take (i + 1) vs
vars_more us vs i v lt is = append_assoc us (take i vs) (v ∷ []) ∙ ap (λ xs. us ++ xs) (sym (take_more vs i v lt ∙ ap (λ q. take i vs ++ q ∷ []) (sym is)))

-- one variable of which nothing is known
pub unknown_more : (e next : KnownNumbers) (vs : List Var) (i : ℕ) (v : Var) → i < length vs → v ≡ get_or vs i v → next ≡ with_number_at e (out-Var v).name (out-Var v).copy None → all_unknown next (drop (i + 1) vs) ≡ all_unknown e (drop i vs)
unknown_more e next vs i v lt is q =
    ap (λ k. all_unknown k (drop (i + 1) vs))
    (q ∙ ap (λ n. with_number_at e n (out-Var v).copy None) (sym (ref_name v)) ∙ ap (λ d. with_number_at e (ref_of v).name d None) (sym (ref_copy v)))
    ∙ ap (all_unknown e) (sym (drop_more vs i v lt ∙ ap (λ y. y ∷ drop (i + 1) vs) (sym is)))
