-- A variable of a function of a typed text is inline by its declaration, by its name and for a run, or by none of these.
use Rattle.std.proofs.Common.{◌≡◌, ℕ, ℤ, pos, negsuc, Bool, true, false, ◌&&◌, ◌||◌, List, [], ◌∷◌, ◌++◌, Option, Some, None, map, flat_map, refl, sym, ap, ◌∙◌, subst, inl, inr, bytes_eq, cond}
use Rattle.std.specs.Prelude.{◌⊎◌, ◌==◌, All, option_map, is_some, is_none}
use Rattle.std.specs.List.{list_any}
use Rattle.std.proofs.lemmas.Bool.{and_parts, and_from, false≢true, or_cases}
use Rattle.std.proofs.lemmas.List.Elements.{All-nil, All-cons, All-head, All-tail, All-append, All-map, All-weaker}
use Rattle.std.proofs.lemmas.List.Folds.{list_any-append}
use Rattle.jz_tree.proofs.Texts.{bytes_eq-true}
use Rattle.jz_tree.specs.declared.expr.Storage.{Storage}
use Rattle.jz_tree.specs.declared.expr.Storage.TheVariants as storage
use Rattle.jz_tree.specs.declared.expr.Decl.{Decl}
use Rattle.jz_tree.specs.declared.expr.Var.{Var}
use Rattle.jz_tree.specs.declared.expr.Expr.TheViews.{out-Var}
use Rattle.jz_tree.specs.declared.program.Fun.{Fun}
use Rattle.jz_tree.specs.declared.program.Param.{Param}
use Rattle.jz_tree.specs.declared.program.Program.{Program}
use Rattle.jz_type_names.specs.declared.kinds.Kind as known
use Rattle.jz_type_names.specs.declared.kinds.Kind.TheVariants as scope
use Rattle.jz_type_names.specs.Kinds.{declared_of, known_of, kind_of, written_length, inline_int, is_inline_int}
use Rattle.jz_type_names.specs.Scopes.{variables_of, variable_named}
use Rattle.jz_type_names.specs.Parts.{layer_of, statements_of}
use Rattle.jz_type_names.proofs.Empty.{both, passed, all_empty}
use Rattle.jz_type_storage.specs.Declarations.{may_keep, may_pass, is_kept, unkept, unkept_by, unkept_param, unkept_ret, unkept_in}
use Rattle.jz_type_storage.specs.Paths.{inline_vars, has_to_be_set}
use Rattle.jz_judgement.proofs.Nothing.{none_not}
use Rattle.jz_types.specs.Carried.{used_by, Carries, declared_in}
use Rattle.jz_meaning.specs.declared.access.Kind as meant
use Rattle.jz_meaning.specs.declared.access.Kind.TheVariants as kind
use Rattle.jz_meaning.specs.Values.{ref_of, declared_kind, kind_or}
use Rattle.jz_texts.specs.Texts.{IsPlain, HasDecl}
use Rattle.jz_texts.specs.Declared.{IsNamedIn}
use Rattle.jz_texts.proofs.Lists.{parted, unmapped}
use Rattle.jz_bodies.proofs.Refs.{bytes_same, ref_name, ref_copy, ref_cell, ref_kind, kind_from, decl_kind}
use Rattle.jz_bodies.proofs.Owning.{one_of}
use Rattle.jz_bodies.proofs.Variables.{found_item}
use Rattle.jz_bodies.proofs.Whole as whole
use Rattle.jz_bodies.proofs.Whole.{params_kept}
use Rattle.jz_limits.specs.Values.{is_int}
use Rattle.jz_unroll.specs.Values as unrolled
use Rattle.jz_unrolling_values.specs.InlineNames.{is_inline_named, inline_names}
use Rattle.jz_inline_laws.specs.InlineParts.{inline_in, IsInlineVar, IsPlainVar}
use Rattle.jz_inline_laws.specs.InlineBodies.{HasInlineParam}

-- ---- kinds

-- of what may be kept an integer is inline, and nothing else
int_from : (s : Storage) (k : known.Kind) (l : Option ℤ) → may_keep s k ≡ true → is_int (kind_from k l) ≡ inline_int s k
int_from storage.Inline scope.Int l e = refl
int_from storage.Reg scope.Int l e = absurd (false≢true e)
int_from storage.Stack scope.Int l e = absurd (false≢true e)
int_from storage.Inline scope.Truth l e = absurd (false≢true e)
int_from storage.Reg scope.Truth l e = refl
int_from storage.Stack scope.Truth l e = absurd (false≢true e)
int_from storage.Inline (scope.Word z) l e = absurd (false≢true e)
int_from storage.Reg (scope.Word z) l e = refl
int_from storage.Stack (scope.Word z) l e = refl
int_from storage.Inline (scope.Array z) l e = absurd (false≢true e)
int_from storage.Reg (scope.Array z) None e = refl
int_from storage.Reg (scope.Array z) (Some (pos n)) e = refl
int_from storage.Reg (scope.Array z) (Some (negsuc n)) e = refl
int_from storage.Stack (scope.Array z) None e = refl
int_from storage.Stack (scope.Array z) (Some (pos n)) e = refl
int_from storage.Stack (scope.Array z) (Some (negsuc n)) e = refl

pass_keep : (s : Storage) (k : known.Kind) → may_pass s k ≡ true → may_keep s k ≡ true
pass_keep s scope.Int e = e
pass_keep s scope.Truth e = absurd (false≢true e)
pass_keep s (scope.Word z) e = e
pass_keep s (scope.Array z) e = e

-- both walks have the same integers
pub ints_same : (k : meant.Kind) → unrolled.is_int k ≡ is_int k
ints_same kind.Undeclared = refl
ints_same kind.Int = refl
ints_same kind.Bool = refl
ints_same (kind.Word z) = refl
ints_same (kind.Array z n) = refl

-- ---- one variable

pub record IsClear (f : Fun) (v : Var) : Type 0 where
  pub decl : Decl
  pub is : (out-Var v).decl ≡ Some decl
  pub kept : may_keep decl.storage (kind_of decl.ty) ≡ true
  pub copy : (ref_of v).copy ≡ 0
  pub cell : (ref_of v).cell ≡ None
  pub named : inline_in f (ref_of v).name 0 ≡ is_inline_int (known_of v)
  pub int : is_int (ref_of v).kind ≡ is_inline_int (known_of v)

abbrev pub IsKeptVar : Var → Type 0
IsKeptVar w = (d : Decl) → (out-Var w).decl ≡ Some d → may_keep d.storage (kind_of d.ty) ≡ true

-- one that the function declares
pub record IsOwnVar (q : Program) (f : Fun) (w : Var) : Type 0 where
  pub carries : Carries (declared_in q f) w
  pub plain : IsPlain w
  pub has : HasDecl w
  pub kept : IsKeptVar w

some_there : {A : Type 0} (o : Option A) → is_some o ≡ true → (x : A) × (o ≡ Some x)
some_there None e = absurd (false≢true e)
some_there (Some x) e = (x, refl)

none_passes : {A : Type 0} (test : A → Bool) (xs : List A) → All (λ x. test x ≡ false) xs → list_any test xs ≡ false
none_passes test [] h = refl
none_passes test (x ∷ xs) h = ap (λ b. b || list_any test xs) (All-head (λ y. test y ≡ false) x xs h) ∙ none_passes test xs (All-tail (λ y. test y ≡ false) x xs h)

no_second : (a c : Bool) → (a && (false && c)) ≡ false
no_second true c = refl
no_second false c = refl

module _ (q : Program) (f : Fun) where
  -- two that carry what is declared of one name
  known_same : (v w : Var) → Carries (declared_in q f) v → Carries (declared_in q f) w → (out-Var v).name ≡ (out-Var w).name → known_of w ≡ known_of v
  known_same v w a b e = ap (option_map declared_of) (b ∙ (ap (declared_in q f) (sym e) ∙ sym a))

  other_false : (v w : Var) → Carries (declared_in q f) v → Carries (declared_in q f) w → is_inline_int (known_of v) ≡ false → is_inline_named (out-Var v).name 0 w ≡ false
  other_false v w a b i = by_name (bytes_eq (out-Var w).name (out-Var v).name) refl
    where
      by_name : (t : Bool) → bytes_eq (out-Var w).name (out-Var v).name ≡ t → (is_inline_int (known_of w) && (t && ((out-Var w).copy == 0))) ≡ false
      by_name true e =
          ap (λ k. is_inline_int k && (true && ((out-Var w).copy == 0))) (known_same v w a b (sym (bytes_eq-true (out-Var w).name (out-Var v).name e)))
          ∙ ap (λ c. c && (true && ((out-Var w).copy == 0))) i
      by_name false e = no_second (is_inline_int (known_of w)) ((out-Var w).copy == 0)

  same_true : (v w : Var) → Carries (declared_in q f) v → IsOwnVar q f w → bytes_eq (out-Var v).name (out-Var w).name ≡ true → is_inline_int (known_of v) ≡ true → is_inline_named (out-Var v).name 0 w ≡ true
  same_true v w a o t i =
      let name : (out-Var v).name ≡ (out-Var w).name = bytes_eq-true (out-Var v).name (out-Var w).name t in
      and_from (is_inline_int (known_of w)) (bytes_eq (out-Var w).name (out-Var v).name && ((out-Var w).copy == 0)) (ap is_inline_int (known_same v w a o.carries name) ∙ i)
      (and_from (bytes_eq (out-Var w).name (out-Var v).name) ((out-Var w).copy == 0) (ap (bytes_eq (out-Var w).name) name ∙ bytes_same (out-Var w).name) (ap (λ c. c == 0) o.plain.0))

  -- by its name, as by its declaration
  name_says : (v w : Var) → All (IsOwnVar q f) (variables_of f) → Carries (declared_in q f) v → variable_named (out-Var v).name (variables_of f) ≡ Some w → inline_names (variables_of f) (out-Var v).name 0 ≡ is_inline_int (known_of v)
  name_says v w own a found = by_known (is_inline_int (known_of v)) refl
    where
      by_known : (b : Bool) → is_inline_int (known_of v) ≡ b → inline_names (variables_of f) (out-Var v).name 0 ≡ is_inline_int (known_of v)
      by_known true i =
          let r = found_item (λ y. bytes_eq (out-Var v).name (out-Var y).name) (is_inline_named (out-Var v).name 0) (IsOwnVar q f) (variables_of f) w found own in
          r.2 (same_true v w a r.1 r.0 i) ∙ sym i
      by_known false i =
          none_passes (is_inline_named (out-Var v).name 0) (variables_of f)
          (All-weaker (IsOwnVar q f) (λ y. is_inline_named (out-Var v).name 0 y ≡ false) (λ y o. other_false v y a o.carries i) (variables_of f) own)
          ∙ sym i

  pub int_kind : (v : Var) (d : Decl) → (out-Var v).decl ≡ Some d → may_keep d.storage (kind_of d.ty) ≡ true → is_int (ref_of v).kind ≡ is_inline_int (known_of v)
  int_kind v d is kept =
      ap is_int (ref_kind v ∙ (ap (λ o. kind_or (option_map declared_kind o)) is ∙ decl_kind d))
      ∙ (int_from d.storage (kind_of d.ty) (written_length d) kept ∙ sym (ap (λ o. is_inline_int (option_map declared_of o)) is))

  -- one that the function uses
  clear_used : (v : Var) → All (IsOwnVar q f) (variables_of f) → Carries (declared_in q f) v → IsPlain v → IsNamedIn f v → IsClear f v
  clear_used v own a p n =
      let w = n.0 in
      let found = found_item (λ y. bytes_eq (out-Var v).name (out-Var y).name) (λ y. false) (IsOwnVar q f) (variables_of f) w n.1 own in
      let name : (out-Var v).name ≡ (out-Var w).name = bytes_eq-true (out-Var v).name (out-Var w).name found.0 in
      let same : (out-Var v).decl ≡ (out-Var w).decl = a ∙ (ap (declared_in q f) name ∙ sym found.1.carries) in
      let d = some_there (out-Var w).decl found.1.has in
      let kept = found.1.kept d.0 d.1 in
      record {
        decl = d.0;
        is = same ∙ d.1;
        kept = kept;
        copy = ref_copy v ∙ p.0;
        cell = ref_cell v ∙ p.1;
        named = ap (λ m. inline_names (variables_of f) m 0) (ref_name v) ∙ name_says v w own a n.1;
        int = int_kind v d.0 (same ∙ d.1) kept;
      }

  -- ---- those that it declares
  found_by : (b : Bool) (x : Var) (o : Option Var) → is_some o ≡ true → is_some (cond b (Some x) o) ≡ true
  found_by true x o e = refl
  found_by false x o e = e

  found_first : (b : Bool) (x : Var) (o : Option Var) → b ≡ true → is_some (cond b (Some x) o) ≡ true
  found_first true x o e = refl
  found_first false x o e = absurd (false≢true e)

  found_own : (vs : List Var) → All (λ v. is_some (variable_named (out-Var v).name vs) ≡ true) vs
  found_own [] = All-nil (λ v. is_some (variable_named (out-Var v).name []) ≡ true)
  found_own (w ∷ vs) =
      All-cons (λ v. is_some (variable_named (out-Var v).name (w ∷ vs)) ≡ true) w vs
      (found_first (bytes_eq (out-Var w).name (out-Var w).name) w (variable_named (out-Var w).name vs) (bytes_same (out-Var w).name))
      (All-weaker (λ v. is_some (variable_named (out-Var v).name vs) ≡ true) (λ v. is_some (variable_named (out-Var v).name (w ∷ vs)) ≡ true)
      (λ v e. found_by (bytes_eq (out-Var v).name (out-Var w).name) w (variable_named (out-Var v).name vs) e) vs (found_own vs))

  -- ---- all of them
  module _ (k : whole.IsKnown q f) where
    kept_vars : flat_map (unkept is_kept) f.vars ≡ []
    unfolding unkept_in
    kept_vars =
        let a = both (flat_map unkept_param f.params) (flat_map (unkept is_kept) f.vars ++ flat_map (unkept_ret f.span) f.rets) k.kept in
        (both (flat_map (unkept is_kept) f.vars) (flat_map (unkept_ret f.span) f.rets) a.1).0

    var_kept : (v : Var) → unkept is_kept v ≡ [] → IsKeptVar v
    var_kept v e d is = passed (may_keep d.storage (kind_of d.ty)) (out-Var v).span (subst (λ o. unkept_by is_kept (option_map declared_of o) (out-Var v).span ≡ []) is e)

    all_kept : All IsKeptVar (variables_of f)
    all_kept =
        All-append IsKeptVar (map (λ p. p.var) f.params) f.vars
        (All-map IsKeptVar (λ (p : Param). p.var) f.params
        (All-weaker (λ p. (d : Decl) → (out-Var p.var).decl ≡ Some d → may_pass d.storage (kind_of d.ty) ≡ true) (λ p. IsKeptVar p.var) (λ p h d is. pass_keep d.storage (kind_of d.ty) (h d is)) f.params (params_kept q f k)))
        (All-weaker (λ v. unkept is_kept v ≡ []) IsKeptVar var_kept f.vars (all_empty (unkept is_kept) f.vars kept_vars))

    pub all_own : All (IsOwnVar q f) (variables_of f)
    all_own =
        let kept = all_kept in
        λ i v l. record { carries = k.names.own i v l; plain = k.text.declared i v l; has = k.text.declarations i v l; kept = kept i v l }

    own_clear : (v : Var) → IsOwnVar q f v → is_some (variable_named (out-Var v).name (variables_of f)) ≡ true → IsClear f v
    own_clear v o e = clear_used v all_own o.carries o.plain (some_there (variable_named (out-Var v).name (variables_of f)) e)

    pub clear_own : All (IsClear f) (variables_of f)
    clear_own =
        let own = all_own in
        let found = found_own (variables_of f) in
        λ i v l. own_clear _ (own i v l) (found i v l)

    pub clear_all : All (λ s. All (IsClear f) (used_by (layer_of s))) (statements_of f.body)
    clear_all = λ i s l j v m. clear_used _ all_own (k.names.carried.0 i s l j v m) (k.text.used.0 i s l j v m) (k.names.named.0 i s l j v m)

    pub clear_results : All (IsClear f) f.result
    clear_results = λ j v m. clear_used _ all_own (k.names.carried.1 j v m) (k.text.used.1 j v m) (k.names.named.1 j v m)

-- ---- what is clear

module _ (f : Fun) (v : Var) (h : IsClear f v) where
  pub inline_var : is_inline_int (known_of v) ≡ true → IsInlineVar (inline_in f) v
  inline_var e = record {
    number = record {
      named = h.named ∙ e;
      whole = ap is_none h.cell;
      int = ints_same (ref_of v).kind ∙ (h.int ∙ e);
    };
    copy = h.copy;
  }

  pub plain_var : is_inline_int (known_of v) ≡ false → IsPlainVar (inline_in f) v
  plain_var e = record { named = h.named ∙ e; declared = e; kind = h.int ∙ e }

-- ---- inline variables that need not be set

two_not : (a b : Bool) → (a && b) ≡ false → a ≡ true → b ≡ false
two_not true b e f = e
two_not false b e f = absurd (false≢true f)

some_of : (o : Option Var) → is_none o ≡ false → (w : Var) × (o ≡ Some w)
some_of None e = absurd (false≢true (sym e))
some_of (Some w) e = (w, refl)

module _ (q : Program) (f : Fun) where
  -- one of them is inline and has that name
  one_param : (n : List ℕ) (ps : List Param) → All (λ p. IsClear f p.var) ps → list_any (is_inline_named n 0) (map (λ p. p.var) ps) ≡ true → HasInlineParam (inline_in f) ps n
  one_param n [] h e = absurd (false≢true e)
  one_param n (p ∷ ps) h e =
      by_part (or_cases (is_inline_named n 0 p.var) (list_any (is_inline_named n 0) (map (λ p. p.var) ps)) e) (λ t. one_param n ps (All-tail (λ (p : Param). IsClear f p.var) p ps h) t)
    where
      by_part : (is_inline_named n 0 p.var ≡ true) ⊎ (list_any (is_inline_named n 0) (map (λ p. p.var) ps) ≡ true) → (list_any (is_inline_named n 0) (map (λ p. p.var) ps) ≡ true → HasInlineParam (inline_in f) ps n)
          → HasInlineParam (inline_in f) (p ∷ ps) n
      by_part (inl t) rest =
          let a = and_parts (is_inline_int (known_of p.var)) _ t in
          let b = and_parts (bytes_eq (out-Var p.var).name n) _ a.1 in
          inl (ref_name p.var ∙ bytes_eq-true (out-Var p.var).name n b.0, inline_var f p.var (All-head (λ (p : Param). IsClear f p.var) p ps h) a.0)
      by_part (inr t) rest = inr (rest t)

  -- a variable of that name is among the inline ones
  found_inline : (n : List ℕ) (vs : List Var) → list_any (is_inline_named n 0) vs ≡ true → is_some (variable_named n (inline_vars vs)) ≡ true
  found_inline n [] e = absurd (false≢true e)
  found_inline n (v ∷ vs) e = by_kind (is_inline_int (known_of v)) refl (λ t. found_inline n vs t)
    where
      rest : (list_any (is_inline_named n 0) vs ≡ true → is_some (variable_named n (inline_vars vs)) ≡ true) → (is_inline_named n 0 v ≡ true → ⊥) → is_some (variable_named n (inline_vars vs)) ≡ true
      rest later h = elim (or_cases (is_inline_named n 0 v) (list_any (is_inline_named n 0) vs) e) [ inl t ↦ absurd (h t) | inr t ↦ later t ]

      by_name : (b : Bool) → bytes_eq n (out-Var v).name ≡ b → (list_any (is_inline_named n 0) vs ≡ true → is_some (variable_named n (inline_vars vs)) ≡ true) → is_some (cond b (Some v) (variable_named n (inline_vars vs))) ≡ true
      by_name true t later = refl
      by_name false t later = rest later (λ h.
          let a = (and_parts (bytes_eq (out-Var v).name n) _ (and_parts (is_inline_int (known_of v)) _ h).1).0 in
          false≢true (sym t ∙ (ap (bytes_eq n) (bytes_eq-true (out-Var v).name n a) ∙ bytes_same n)))

      by_kind : (b : Bool) → is_inline_int (known_of v) ≡ b → (list_any (is_inline_named n 0) vs ≡ true → is_some (variable_named n (inline_vars vs)) ≡ true)
          → is_some (variable_named n (cond b (v ∷ inline_vars vs) (inline_vars vs))) ≡ true
      by_kind true k later = by_name (bytes_eq n (out-Var v).name) refl later
      by_kind false k later = rest later (λ h. false≢true (sym k ∙ (and_parts (is_inline_int (known_of v)) _ h).0))

  -- a parameter of that name is inline where one of the variables is
  param_too : (n : List ℕ) (ps : List Param) (w : Var) → All (λ p. IsOwnVar q f p.var) ps → All (λ p. IsClear f p.var) ps → variable_named n (map (λ p. p.var) ps) ≡ Some w
      → ((u : Var) → Carries (declared_in q f) u → (out-Var u).name ≡ n → is_inline_int (known_of u) ≡ true) → HasInlineParam (inline_in f) ps n
  param_too n [] w o h e k = absurd (none_not w e)
  param_too n (p ∷ ps) w o h e k =
      by_name (bytes_eq n (out-Var p.var).name) refl e (λ t. param_too n ps w (All-tail (λ (p : Param). IsOwnVar q f p.var) p ps o) (All-tail (λ (p : Param). IsClear f p.var) p ps h) t k)
    where
      by_name : (b : Bool) → bytes_eq n (out-Var p.var).name ≡ b → cond b (Some p.var) (variable_named n (map (λ p. p.var) ps)) ≡ Some w
          → (variable_named n (map (λ p. p.var) ps) ≡ Some w → HasInlineParam (inline_in f) ps n) → HasInlineParam (inline_in f) (p ∷ ps) n
      by_name true t e later =
          let name : (out-Var p.var).name ≡ n = sym (bytes_eq-true n (out-Var p.var).name t) in
          inl (ref_name p.var ∙ name, inline_var f p.var (All-head (λ (p : Param). IsClear f p.var) p ps h) (k p.var (All-head (λ (p : Param). IsOwnVar q f p.var) p ps o).carries name))
      by_name false t e later = inr (later e)

  pub not_asked : whole.IsKnown q f → (n : List ℕ) → inline_in f n 0 ≡ true → has_to_be_set f n ≡ false → HasInlineParam (inline_in f) f.params n
  not_asked k n i a =
      by_part (or_cases (list_any test (map (λ p. p.var) f.params)) (list_any test f.vars) (sym (list_any-append test (map (λ p. p.var) f.params) f.vars) ∙ i))
    where
      test : Var → Bool
      test = is_inline_named n 0

      own : All (IsOwnVar q f) (map (λ p. p.var) f.params) × All (IsOwnVar q f) f.vars
      own = parted (IsOwnVar q f) (map (λ p. p.var) f.params) f.vars (all_own q f k)

      clear : All (λ p. IsClear f p.var) f.params
      clear = unmapped (IsClear f) (λ (p : Param). p.var) f.params (parted (IsClear f) (map (λ p. p.var) f.params) f.vars (clear_own q f k)).0

      by_part : (list_any test (map (λ p. p.var) f.params) ≡ true) ⊎ (list_any test f.vars ≡ true) → HasInlineParam (inline_in f) f.params n
      by_part (inl t) = one_param n f.params clear t
      by_part (inr t) =
          let w = some_of (variable_named n (map (λ p. p.var) f.params)) (two_not _ _ a (found_inline n f.vars t)) in
          let v = one_of test (IsOwnVar q f) f.vars t own.1 in
          let x = and_parts (is_inline_int (known_of v.0)) _ v.1 in
          let name : (out-Var v.0).name ≡ n = bytes_eq-true (out-Var v.0).name n (and_parts (bytes_eq (out-Var v.0).name n) _ x.1).0 in
          param_too n f.params w.0 (unmapped (IsOwnVar q f) (λ (p : Param). p.var) f.params own.0) clear w.1
          (λ u c e. ap is_inline_int (known_same q f v.0 u v.2.carries c (name ∙ sym e)) ∙ x.0)
