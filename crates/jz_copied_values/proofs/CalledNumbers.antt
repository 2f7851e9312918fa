-- What is known of a callee's variables where its copy begins: the numbers of its inline parameters.
use Rattle.std.proofs.Common.{◌≡◌, ℕ, ◌<◌, List, [], ◌∷◌, ◌++◌, map, None, Bool, true, false, refl, ap, sym, ◌∙◌, inl, inr, bytes_eq}
use Rattle.std.specs.Prelude.{◌==◌, ◌&&◌, ◌⊎◌, if◌then◌else◌}
use Rattle.jz_tree.proofs.Texts.{bytes_eq-true}
use Rattle.jz_tree.specs.declared.expr.Expr.{Expr}
use Rattle.jz_tree.specs.declared.expr.Var.{Var}
use Rattle.jz_tree.specs.declared.program.Fun.{Fun}
use Rattle.jz_tree.specs.declared.program.Param.{Param}
use Rattle.jz_integers.specs.Integers.{KnownNumbers}
use Rattle.jz_meaning.specs.declared.access.Kind.{Kind}
use Rattle.jz_meaning.specs.declared.access.Kind.TheVariants as kind
use Rattle.jz_meaning.specs.Values.{Ref, ref_of}
use Rattle.jz_unrolling_laws.specs.BodiesCalls.{is_array, AreApart, params_of, vars_of}
use Rattle.jz_unrolling_laws.specs.Names.{Names, var_in}
use Rattle.jz_unrolling_laws.proofs.Naming.{bytes_same}
use Rattle.jz_unrolling_laws.proofs.Reading.{ref_so}
use Rattle.jz_limits.specs.Values.{is_int, no_numbers, number_in}
use Rattle.jz_limits.specs.Walks.{with_argument, with_arguments}
use Rattle.jz_unroll.specs.Values.{InlineNames}
use Rattle.jz_unroll.specs.Unrolling.{with_number, all_unknown}
use Rattle.jz_unrolling_laws.specs.CalledBodies.{Inlines, inlines_of, IsNamedArgument, AreNamedArguments}
use Rattle.jz_copied_values.proofs.CopiedNumbers.{copy_itself, text_copy, number_elsewhere, number_unnamed, IsCopy}
use Rattle.jz_copied_values.proofs.CalledNames.{by_so, by_not, Clear, Holds, clear_params, clear_vars, inline_held}

false_true : false ≡ true → ⊥
false_true q = absurd cc

-- ---- parameters

pub array_no_int : (k : Kind) → is_array k ≡ true → is_int k ≡ false
array_no_int kind.Undeclared h = refl
array_no_int kind.Int h = absurd (false_true h)
array_no_int kind.Bool h = refl
array_no_int (kind.Word z) h = refl
array_no_int (kind.Array z n) h = refl

module _ (i j : Inlines) where
  -- one that is inline is no array
  pub inline_param : (p : Var) (x : Expr) → IsNamedArgument i j p x → j (ref_of p).name ≡ true → is_array (ref_of p).kind ≡ false
  inline_param p x h q = by_test (is_array (ref_of p).kind) refl
    where
      by_test : (b : Bool) → is_array (ref_of p).kind ≡ b → b ≡ false
      by_test true a = let (y, is, out, inner) = by_so (is_array (ref_of p).kind) _ _ a h in absurd (false_true (sym inner ∙ q))
      by_test false a = refl

  -- it is an integer where it is inline
  pub param_int : (p : Var) (x : Expr) → IsNamedArgument i j p x → is_int (ref_of p).kind ≡ j (ref_of p).name
  param_int p x h = by_test (is_array (ref_of p).kind) refl
    where
      by_test : (b : Bool) → is_array (ref_of p).kind ≡ b → is_int (ref_of p).kind ≡ j (ref_of p).name
      by_test true a = let (y, is, out, inner) = by_so (is_array (ref_of p).kind) _ _ a h in array_no_int (ref_of p).kind a ∙ sym inner
      by_test false a = (by_not (is_array (ref_of p).kind) _ _ a h).0.2

  -- ---- what is given

  module _ (e : KnownNumbers) where
    clear_argument : (p : Var) (x : Expr) (g : KnownNumbers) (n : List ℕ) → bytes_eq (ref_of p).name n ≡ false → with_argument e p x g n 0 ≡ g n 0
    clear_argument p x g n h = by_test (is_int (ref_of p).kind)
      where
        by_test : (b : Bool) → (if b then with_number g p (number_in e x) else g) n 0 ≡ g n 0
        by_test true = number_unnamed p g (number_in e x) n 0 h
        by_test false = refl

    pub clear_arguments : (ps : List Param) (xs : List Expr) (g : KnownNumbers) (n : List ℕ) → Clear (params_of ps) n → with_arguments e ps xs g n 0 ≡ g n 0
    clear_arguments [] [] g n h = refl
    clear_arguments [] (x ∷ xs) g n h = refl
    clear_arguments (p ∷ ps) [] g n h = refl
    clear_arguments (p ∷ ps) (x ∷ xs) g n h = clear_arguments ps xs (with_argument e p.var x g) n h.1 ∙ clear_argument p.var x g n h.0

    -- nothing of what is not inline
    plain_argument : (p : Var) (x : Expr) (g : KnownNumbers) (n : List ℕ) → IsNamedArgument i j p x → j n ≡ false → with_argument e p x g n 0 ≡ g n 0
    plain_argument p x g n h out = by_name (bytes_eq (ref_of p).name n) refl
      where
        by_name : (b : Bool) → bytes_eq (ref_of p).name n ≡ b → with_argument e p x g n 0 ≡ g n 0
        by_name true q = ap (λ b. (if b then with_number g p (number_in e x) else g) n 0) (param_int p x h ∙ ap j (bytes_eq-true (ref_of p).name n q) ∙ out)
        by_name false q = clear_argument p x g n q

    pub plain_arguments : (ps : List Param) (xs : List Expr) (g : KnownNumbers) (n : List ℕ) → AreNamedArguments i j ps xs → j n ≡ false → with_arguments e ps xs g n 0 ≡ g n 0
    plain_arguments [] [] g n h out = refl
    plain_arguments [] (x ∷ xs) g n h out = absurd h
    plain_arguments (p ∷ ps) [] g n h out = absurd h
    plain_arguments (p ∷ ps) (x ∷ xs) g n h out = plain_arguments ps xs (with_argument e p.var x g) n h.1 out ∙ plain_argument p.var x g n h.0 out

    -- a parameter has its number, whatever was known before
    same_argument : (p : Var) (x : Expr) (g g2 : KnownNumbers) (n : List ℕ) → g n 0 ≡ g2 n 0 → with_argument e p x g n 0 ≡ with_argument e p x g2 n 0
    same_argument p x g g2 n h = by_test (is_int (ref_of p).kind)
      where
        by_test : (b : Bool) → (if b then with_number g p (number_in e x) else g) n 0 ≡ (if b then with_number g2 p (number_in e x) else g2) n 0
        by_test true = ap (λ w. if bytes_eq (ref_of p).name n && (ref_of p).copy == 0 then number_in e x else w) h
        by_test false = h

    set_argument : (p : Var) (x : Expr) (g g2 : KnownNumbers) (n : List ℕ) → IsNamedArgument i j p x → j n ≡ true → bytes_eq (ref_of p).name n ≡ true → with_argument e p x g n 0 ≡ with_argument e p x g2 n 0
    set_argument p x g g2 n h inline q =
        let name : j (ref_of p).name ≡ true = ap j (bytes_eq-true (ref_of p).name n q) ∙ inline in
        let int = param_int p x h ∙ name in
        let text = (by_not (is_array (ref_of p).kind) _ _ (inline_param p x h name) h).0.0 in
        let z = text_copy (ref_of p) text in
        ap (λ b. (if b then with_number g p (number_in e x) else g) n 0) int
        ∙ ap (λ b. if b && (ref_of p).copy == 0 then number_in e x else g n 0) q ∙ ap (λ b. if b then number_in e x else g n 0) z
        ∙ sym (ap (λ b. (if b then with_number g2 p (number_in e x) else g2) n 0) int
        ∙ ap (λ b. if b && (ref_of p).copy == 0 then number_in e x else g2 n 0) q ∙ ap (λ b. if b then number_in e x else g2 n 0) z)

    pub same_arguments : (ps : List Param) (xs : List Expr) (g g2 : KnownNumbers) (n : List ℕ) → AreNamedArguments i j ps xs → j n ≡ true → (g n 0 ≡ g2 n 0) ⊎ Holds (params_of ps) n → with_arguments e ps xs g n 0 ≡ with_arguments e ps xs g2 n 0
    same_arguments [] [] g g2 n h q (inl s) = s
    same_arguments [] [] g g2 n h q (inr o) = absurd o
    same_arguments [] (x ∷ xs) g g2 n h q s = absurd h
    same_arguments (p ∷ ps) [] g g2 n h q s = absurd h
    same_arguments (p ∷ ps) (x ∷ xs) g g2 n h q (inl s) = same_arguments ps xs (with_argument e p.var x g) (with_argument e p.var x g2) n h.1 q (inl (same_argument p.var x g g2 n s))
    same_arguments (p ∷ ps) (x ∷ xs) g g2 n h q (inr (inl t)) = same_arguments ps xs (with_argument e p.var x g) (with_argument e p.var x g2) n h.1 q (inl (set_argument p.var x g g2 n h.0 q t))
    same_arguments (p ∷ ps) (x ∷ xs) g g2 n h q (inr (inr o)) = same_arguments ps xs (with_argument e p.var x g) (with_argument e p.var x g2) n h.1 q (inr o)

-- ---- the mark

module _ (inner : Names) (c : ℕ) where
  -- each of them is a variable of the copy
  abbrev pub AllOwn : List Var → Type 0
  AllOwn vs = (n : List ℕ) → Holds (vars_of vs) n → inner n ≡ (n, c)

  first_own : (v : Var) (vs : List Var) → AllOwn (v ∷ vs) → inner (ref_of v).name ≡ ((ref_of v).name, c)
  first_own v vs h = h (ref_of v).name (inl (bytes_same (ref_of v).name))

  first_copy : (v : Var) (vs : List Var) → AllOwn (v ∷ vs) → (ref_of (var_in inner v)).copy ≡ c
  first_copy v vs h = ap (λ (r : Ref). r.copy) (ref_so inner v) ∙ ap (λ p. p.1) (first_own v vs h)

  first_name : (v : Var) (vs : List Var) → AllOwn (v ∷ vs) → (ref_of (var_in inner v)).name ≡ (ref_of v).name
  first_name v vs h = ap (λ (r : Ref). r.name) (ref_so inner v) ∙ ap (λ p. p.0) (first_own v vs h)

  abbrev pub marked_numbers : List Var → KnownNumbers → KnownNumbers
  marked_numbers vs k = all_unknown k (map (var_in inner) vs)

  pub mark_elsewhere : (vs : List Var) (k : KnownNumbers) (n : List ℕ) (a : ℕ) → AllOwn vs → (c ≡ a → ⊥) → marked_numbers vs k n a ≡ k n a
  mark_elsewhere [] k n a h out = refl
  mark_elsewhere (v ∷ vs) k n a h out =
      mark_elsewhere vs (with_number k (var_in inner v) None) n a (λ w o. h w (inr o)) out
      ∙ number_elsewhere (var_in inner v) k None n a (λ q. out (sym (first_copy v vs h) ∙ q))

  pub mark_clear : (vs : List Var) (k : KnownNumbers) (n : List ℕ) → AllOwn vs → Clear (vars_of vs) n → marked_numbers vs k n c ≡ k n c
  mark_clear [] k n h out = refl
  mark_clear (v ∷ vs) k n h out =
      mark_clear vs (with_number k (var_in inner v) None) n (λ w o. h w (inr o)) out.1
      ∙ number_unnamed (var_in inner v) k None n c (ap (λ w. bytes_eq w n) (first_name v vs h) ∙ out.0)

  pub mark_none : (vs : List Var) (k : KnownNumbers) (n : List ℕ) (a : ℕ) → k n a ≡ None → marked_numbers vs k n a ≡ None
  mark_none [] k n a h = h
  mark_none (v ∷ vs) k n a h = mark_none vs (with_number k (var_in inner v) None) n a (by_test (bytes_eq (ref_of (var_in inner v)).name n && (ref_of (var_in inner v)).copy == a))
    where
      by_test : (b : Bool) → (if b then None else k n a) ≡ None
      by_test true = refl
      by_test false = h

  pub mark_holds : (vs : List Var) (k : KnownNumbers) (n : List ℕ) → AllOwn vs → Holds (vars_of vs) n → marked_numbers vs k n c ≡ None
  mark_holds [] k n h o = absurd o
  mark_holds (v ∷ vs) k n h (inl q) =
      mark_none vs (with_number k (var_in inner v) None) n c
      (ap (λ w. if bytes_eq w n && (ref_of (var_in inner v)).copy == c then None else k n c) (first_name v vs h)
      ∙ ap (λ w. if w && (ref_of (var_in inner v)).copy == c then None else k n c) q
      ∙ ap (λ w. if w == c then None else k n c) (first_copy v vs h)
      ∙ ap (λ w. if w then None else k n c) (copy_itself c))
  mark_holds (v ∷ vs) k n h (inr o) = mark_holds vs (with_number k (var_in inner v) None) n (λ w p. h w (inr p)) o

-- ---- behind the mark

module _ (names : InlineNames) (i : Inlines) (g : Fun) (inner : Names) (c : ℕ) (copy : IsCopy names (inlines_of g) inner c) (e : KnownNumbers) (xs : List Expr) where
  abbrev given : KnownNumbers
  given = with_arguments e g.params xs no_numbers

  -- k: behind the arguments, where this was known of the copy before them
  pub begun : (before k : KnownNumbers) → AreApart (params_of g.params ++ vars_of g.vars) → AreNamedArguments i (inlines_of g) g.params xs → AllOwn inner c g.vars
      → ((n : List ℕ) (a : ℕ) → names n a ≡ false → k n a ≡ None) → ((n : List ℕ) → k n c ≡ with_arguments e g.params xs before n 0)
      → (n : List ℕ) → marked_numbers inner c g.vars k (inner n).0 (inner n).1 ≡ given n 0
  begun before k apart args own only set n = by_inline (inlines_of g n) refl
    where
      by_held : inlines_of g n ≡ true → Holds (params_of g.params) n ⊎ Holds (vars_of g.vars) n → marked_numbers inner c g.vars k n c ≡ given n 0
      by_held q (inl o) =
          mark_clear inner c g.vars k n own (clear_vars (params_of g.params) (vars_of g.vars) n apart o)
          ∙ set n ∙ same_arguments i (inlines_of g) e g.params xs before no_numbers n args q (inr o)
      by_held q (inr o) =
          mark_holds inner c g.vars k n own o
          ∙ sym (clear_arguments i (inlines_of g) e g.params xs no_numbers n (clear_params (params_of g.params) (vars_of g.vars) n apart o))

      at_own : (at : List ℕ × ℕ) → inlines_of g n ≡ true → (at ≡ (n, c)) ⊎ ((at.1 < c) × (inlines_of g n ≡ false)) → marked_numbers inner c g.vars k at.0 at.1 ≡ given n 0
      at_own at q (inl s) = ap (λ p. marked_numbers inner c g.vars k p.0 p.1) s ∙ by_held q (inline_held g n q)
      at_own at q (inr p) = absurd (false_true (sym p.1 ∙ q))

      by_inline : (b : Bool) → inlines_of g n ≡ b → marked_numbers inner c g.vars k (inner n).0 (inner n).1 ≡ given n 0
      by_inline true q = at_own (inner n) q (copy.place n)
      by_inline false q =
          mark_none inner c g.vars k (inner n).0 (inner n).1 (only (inner n).0 (inner n).1 (copy.named n ∙ q))
          ∙ sym (plain_arguments i (inlines_of g) e g.params xs no_numbers n args q)
