-- What is known of each variable that a function of a typed program uses.
use Rattle.std.proofs.Common.{◌≡◌, ℕ, Bool, true, false, not, List, [], ◌∷◌, ◌++◌, Option, Some, None, map, flat_map, find, cond, refl, sym, ap, ◌∙◌, subst, inl, inr, bytes_eq}
use Rattle.std.specs.Prelude.{◌⊎◌, All, option_map, option_to_list, is_some}
use Rattle.std.specs.List.{list_any}
use Rattle.std.proofs.lemmas.Bool.{and_parts, false≢true, or_left, or_right, and_from}
use Rattle.std.proofs.lemmas.List.Elements.{All-nil, All-cons, All-head, All-tail, All-append, All-map}
use Rattle.jz_tree.proofs.Texts.{bytes_eq-true}
use Rattle.jz_tree.specs.Size.{Size}
use Rattle.jz_tree.specs.declared.expr.Decl.{Decl}
use Rattle.jz_tree.specs.declared.expr.Var.{Var}
use Rattle.jz_tree.specs.declared.expr.Expr.TheViews.{out-Var}
use Rattle.jz_tree.specs.declared.program.Fun.{Fun}
use Rattle.jz_tree.specs.declared.program.Param.{Param}
use Rattle.jz_tree.specs.declared.program.Program.{Program}
use Rattle.jz_type_names.specs.declared.kinds.Kind as known
use Rattle.jz_type_names.specs.declared.kinds.Kind.TheVariants as scope
use Rattle.jz_type_names.specs.Kinds.{declared_of, known_of, kind_of, written_length, is_array_kind}
use Rattle.jz_type_names.specs.Scopes.{variables_of}
use Rattle.jz_type_names.specs.Names.{var_decl, param_decl, ret_decls}
use Rattle.jz_judgement.proofs.Nothing.{same_some, none_not}
use Rattle.jz_judgement.specs.Places.{Place, KindGoes, Goes, ArrayKind, IsArrayOf}
use Rattle.jz_run_laws.specs.Carried.{Carries, declared_in}
use Rattle.jz_meaning.specs.declared.access.Kind.TheVariants as kind
use Rattle.jz_meaning.specs.States.{Key}
use Rattle.jz_meaning.specs.Values.{Ref, key_of, ref_of, declared_kind, kind_or}
use Rattle.jz_run_laws.specs.Kinds.{sort_of_kind}
use Rattle.jz_texts.specs.Texts.{IsPlain, HasDecl}
use Rattle.jz_texts.specs.Declared.{IsCountedDecl, IsNamedIn, HasDeclarations}
use Rattle.jz_texts.proofs.Lists.{parted}
use Rattle.jz_bodies.specs.Scopes.{Scope, IsScope}
use Rattle.jz_bodies.specs.Calls.{is_array}
use Rattle.jz_bodies.specs.Declared.{is_one, is_among, arrays_set, scopes_in}
use Rattle.jz_bodies.proofs.Refs.{one_is, is_one-of, ref_name, ref_copy, ref_cell, ref_kind, kind_from, decl_kind, array_declared, plain_declared}
use Rattle.jz_bodies.proofs.Owning.{one_of, set_among}

-- it is one of the function's variables, with what is declared of it
pub record IsVariable (q : Program) (f : Fun) (v : Var) : Type 0 where
  pub decl : Decl
  pub is : (out-Var v).decl ≡ Some decl
  pub counted : IsCountedDecl decl
  pub among : is_among (ref_of v) (variables_of f) ≡ true
  pub sort : (scopes_in q f).sorts (ref_of v).name (ref_of v).copy ≡ sort_of_kind (ref_of v).kind
  pub cell : (ref_of v).cell ≡ None

-- ---- what is found

find_cases : {A : Type 0} (c : Bool) (x : A) (rest : Option A) (w : A) → cond c (Some x) rest ≡ Some w → ((c ≡ true) × (x ≡ w)) ⊎ (rest ≡ Some w)
find_cases true x rest w e = inl (refl, same_some x w e)
find_cases false x rest w e = inr e

-- what is found passes the test, has what all have, and is among the items for any test that it passes
pub found_item : {A : Type 0} (test other : A → Bool) (P : A → Type 0) (xs : List A) (w : A) → find test xs ≡ Some w → All P xs → (test w ≡ true) × P w × (other w ≡ true → list_any other xs ≡ true)
found_item test other P [] w e h = absurd (none_not w e)
found_item {A} test other P (x ∷ xs) w e h = by_case (find_cases (test x) x (find test xs) w e) (λ r. found_item test other P xs w r (All-tail P x xs h))
  where
    by_case : ((test x ≡ true) × (x ≡ w)) ⊎ (find test xs ≡ Some w) → (find test xs ≡ Some w → (test w ≡ true) × P w × (other w ≡ true → list_any other xs ≡ true)) → (test w ≡ true) × P w × (other w ≡ true → list_any other (x ∷ xs) ≡ true)
    by_case (inl (t, i)) rest = (subst (λ y. test y ≡ true) i t, subst P i (All-head P x xs h), λ o. or_left (other x) (list_any other xs) (ap other i ∙ o))
    by_case (inr r) rest =
        let z = rest r in
        (z.0, z.1, λ o. or_right (other x) (list_any other xs) (z.2 o))

there : {A : Type 0} (o : Option A) → is_some o ≡ true → (a : A) × (o ≡ Some a)
there None e = absurd (false≢true e)
there (Some a) e = (a, refl)

-- ---- declarations of variables

abbrev pub CountedVar : Var → Type 0
CountedVar v = All IsCountedDecl (var_decl v)

pub flat_parts : {A B : Type 0} (P : B → Type 0) (g : A → List B) (xs : List A) → All P (flat_map g xs) → All (λ x. All P (g x)) xs
flat_parts P g [] h = All-nil (λ x. All P (g x))
flat_parts P g (x ∷ xs) h =
    let t = parted P (g x) (flat_map g xs) h in
    All-cons (λ y. All P (g y)) x xs t.0 (flat_parts P g xs t.1)

pub counted_variables : (q : Program) (f : Fun) → HasDeclarations q f → All CountedVar (variables_of f)
counted_variables q f h =
    let b = parted IsCountedDecl (flat_map param_decl f.params ++ ret_decls f.rets) (flat_map var_decl f.vars) h.lengths in
    let a = parted IsCountedDecl (flat_map param_decl f.params) (ret_decls f.rets) b.0 in
    All-append CountedVar (map (λ p. p.var) f.params) f.vars
    (All-map CountedVar (λ (p : Param). p.var) f.params (flat_parts IsCountedDecl param_decl f.params a.0))
    (flat_parts IsCountedDecl var_decl f.vars b.1)

pub counted_returns : (q : Program) (f : Fun) → HasDeclarations q f → All IsCountedDecl (ret_decls f.rets)
counted_returns q f h = (parted IsCountedDecl (flat_map param_decl f.params) (ret_decls f.rets) (parted IsCountedDecl (flat_map param_decl f.params ++ ret_decls f.rets) (flat_map var_decl f.vars) h.lengths).0).1

-- ---- variables

-- a variable that the function declares
pub record IsOwn (q : Program) (f : Fun) (w : Var) : Type 0 where
  pub carries : Carries (declared_in q f) w
  pub plain : IsPlain w
  pub has : HasDecl w
  pub counted : CountedVar w

sort_is : (q : Program) (f : Fun) (v : Var) → Carries (declared_in q f) v → (scopes_in q f).sorts (ref_of v).name (ref_of v).copy ≡ sort_of_kind (ref_of v).kind
sort_is q f v e =
    ap (λ n. sort_of_kind (kind_or (option_map declared_kind (declared_in q f n)))) (ref_name v)
    ∙ (ap (λ d. sort_of_kind (kind_or (option_map declared_kind d))) (sym e) ∙ ap sort_of_kind (sym (ref_kind v)))

counted_of : (w : Var) (d : Decl) → (out-Var w).decl ≡ Some d → CountedVar w → IsCountedDecl d
counted_of w d e h = All-head IsCountedDecl d [] (subst (λ o. All IsCountedDecl (option_to_list o)) e h)

cell_of : (v : Var) → IsPlain v → (ref_of v).cell ≡ None
cell_of v p = ref_cell v ∙ p.1

-- one that it declares itself
pub own_variable : (q : Program) (f : Fun) (w : Var) → IsOwn q f w → is_among (ref_of w) (variables_of f) ≡ true → IsVariable q f w
own_variable q f w h a =
    let d = there (out-Var w).decl h.has in
    record { decl = d.0; is = d.1; counted = counted_of w d.0 d.1 h.counted; among = a; sort = sort_is q f w h.carries; cell = cell_of w h.plain }

same_ref : (v w : Var) → IsPlain v → IsPlain w → (out-Var v).name ≡ (out-Var w).name → (out-Var v).decl ≡ (out-Var w).decl → is_one (ref_of v) (ref_of w) ≡ true
same_ref v w p r n d =
    let name : (ref_of v).name ≡ (ref_of w).name = ref_name v ∙ (n ∙ sym (ref_name w)) in
    let copy : (ref_of v).copy ≡ (ref_of w).copy = ref_copy v ∙ (p.0 ∙ (sym r.0 ∙ sym (ref_copy w))) in
    let cell : (ref_of v).cell ≡ (ref_of w).cell = cell_of v p ∙ sym (cell_of w r) in
    let key : key_of (ref_of v) ≡ key_of (ref_of w) = λ i. record { name = name i; copy = copy i; cell = cell i } in
    is_one-of (ref_of v) (ref_of w) key (ref_kind v ∙ (ap (λ o. kind_or (option_map declared_kind o)) d ∙ sym (ref_kind w)))

-- one that it uses
pub used_variable : (q : Program) (f : Fun) (v : Var) → All (IsOwn q f) (variables_of f) → Carries (declared_in q f) v → IsPlain v → IsNamedIn f v → IsVariable q f v
used_variable q f v own c p n =
    let w = n.0 in
    let found = found_item (λ y. bytes_eq (out-Var v).name (out-Var y).name) (λ y. is_one (ref_of v) (ref_of y)) (IsOwn q f) (variables_of f) w n.1 own in
    let name : (out-Var v).name ≡ (out-Var w).name = bytes_eq-true (out-Var v).name (out-Var w).name found.0 in
    let same : (out-Var v).decl ≡ (out-Var w).decl = c ∙ (ap (declared_in q f) name ∙ sym found.1.carries) in
    let d = there (out-Var w).decl found.1.has in
    record {
      decl = d.0;
      is = same ∙ d.1;
      counted = counted_of w d.0 d.1 found.1.counted;
      among = found.2 (same_ref v w p found.1.plain name same);
      sort = sort_is q f v c;
      cell = cell_of v p;
    }

-- ---- kinds

module _ (q : Program) (f : Fun) (v : Var) (h : IsVariable q f v) where
  pub kind_is : (ref_of v).kind ≡ declared_kind h.decl
  kind_is = ref_kind v ∙ ap (λ o. kind_or (option_map declared_kind o)) h.is

  pub known_is : known_of v ≡ Some (declared_of h.decl)
  known_is = ap (option_map declared_of) h.is

  -- what typing says of it
  pub plain_is : is_array_kind (kind_of h.decl.ty) ≡ false → is_array (ref_of v).kind ≡ false
  plain_is e = ap is_array kind_is ∙ plain_declared h.decl e

  pub array_is : (z : Size) → kind_of h.decl.ty ≡ scope.Array z → (n : ℕ) × ((ref_of v).kind ≡ kind.Array z n)
  array_is z e = let a = array_declared h.decl z h.counted e in (a.0, kind_is ∙ a.1)

  pub int_kind : kind_of h.decl.ty ≡ scope.Int → (ref_of v).kind ≡ kind.Int
  int_kind e = kind_is ∙ (decl_kind h.decl ∙ ap (λ k. kind_from k (written_length h.decl)) e)

  goes_plain : (k : known.Kind) (p : Place) → KindGoes k p → is_array_kind k ≡ false
  goes_plain scope.Int p g = refl
  goes_plain scope.Truth p g = refl
  goes_plain (scope.Word z) p g = refl
  goes_plain (scope.Array z) p g = absurd g

  pub scalar_goes : (p : Place) → Goes (known_of v) p → is_array (ref_of v).kind ≡ false
  scalar_goes p g = plain_is (goes_plain (kind_of h.decl.ty) p (subst (λ k. Goes k p) known_is g))

  array_kind : (k : known.Kind) (z : Size) → ArrayKind z k → k ≡ scope.Array z
  array_kind scope.Int z g = absurd g
  array_kind scope.Truth z g = absurd g
  array_kind (scope.Word y) z g = absurd g
  array_kind (scope.Array y) z g = ap (λ x. scope.Array x) g

  pub array_known : (z : Size) → IsArrayOf z (known_of v) → (n : ℕ) × ((ref_of v).kind ≡ kind.Array z n)
  array_known z g = array_is z (array_kind (kind_of h.decl.ty) z (subst (IsArrayOf z) known_is g))

-- ---- the scope
module _ (q : Program) (f : Fun) (own : All (IsVariable q f) (variables_of f)) where
  abbrev X : Scope
  X = scopes_in q f

  among_sorted : (r : Ref) → is_among r (variables_of f) ≡ true → X.sorts r.name r.copy ≡ sort_of_kind r.kind
  among_sorted r e =
      let x = one_of (λ v. is_one r (ref_of v)) (IsVariable q f) (variables_of f) e own in
      let same = one_is r (ref_of x.0) x.1 in
      ap (λ (k : Key). X.sorts k.name k.copy) same.0 ∙ (x.2.sort ∙ ap sort_of_kind (sym same.1))

  pub scope_is : IsScope X
  scope_is = record {
    scalars = λ r h. h;
    arrays = λ r h. (let p = and_parts (is_array r.kind) (is_among r (arrays_set f ++ f.vars)) h in and_from (is_array r.kind) (is_among r (variables_of f)) p.0 (set_among q f r p.1));
    sorted = λ r h. among_sorted r (and_parts (not (is_array r.kind)) (is_among r (variables_of f)) h).1;
    worded = λ r h. among_sorted r (and_parts (is_array r.kind) (is_among r (variables_of f)) h).1;
  }
