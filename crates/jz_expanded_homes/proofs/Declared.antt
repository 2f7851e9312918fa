-- What a variable of a copy stands for among the variables of an expansion.
use Rattle.std.proofs.Common.{◌≡◌, inl, inr, ℕ, zero, suc, ◌+◌, ◌<◌, Bool, true, false, not, List, [], ◌∷◌, ◌++◌, map, length, get_or, Option, Some, None, refl, sym, ap, ◌∙◌, subst, arith, bytes_eq, if◌then◌else◌}
use Rattle.std.specs.Prelude.{All, Contains, slice_get, option_map, option_and_then}
use Rattle.std.specs.Option.{option_or}
use Rattle.std.specs.List.{filter}
use Rattle.std.proofs.lemmas.Bool.{true≢false, false≢true}
use Rattle.std.proofs.lemmas.List.Elements.{All-contains, All-contains_itself, Contains-append_left, Contains-append_right, Contains-append_cases}
use Rattle.jz_tree.proofs.Texts.{bytes_eq-true}
use Rattle.jz_tree.specs.declared.expr.Storage.TheVariants as storage
use Rattle.jz_tree.specs.declared.expr.Decl.{Decl}
use Rattle.jz_tree.specs.declared.expr.Var.{Var}
use Rattle.jz_tree.specs.declared.expr.Ty.TheVariants as ty
use Rattle.jz_tree.specs.declared.expr.Expr.TheOpen.{Ty-F}
use Rattle.jz_tree.specs.declared.expr.Expr.TheViews.{out-Var, out-roll-Ty}
use Rattle.jz_tree.specs.declared.program.Fun.{Fun}
use Rattle.jz_tree.specs.declared.program.Param.{Param}
use Rattle.jz_tree.specs.declared.program.Program.{Program}
use Rattle.jz_type_names.specs.declared.kinds.Kind.TheVariants as scope
use Rattle.jz_type_names.specs.Kinds.{Known, kind_step, kind_of, declared_of, known_of, inline_int, is_inline_int}
use Rattle.jz_type_names.specs.Scopes.{variables_of, variable_named, constant_place}
use Rattle.jz_resolve.specs.Numbering.{constant_decl}
use Rattle.jz_judgement.proofs.Nothing.{same_some}
use Rattle.jz_types.specs.Carried.{declared_in, known_in}
use Rattle.jz_texts.specs.Texts.{IsPlain}
use Rattle.jz_meaning.specs.Values.{Ref, ref_of, declared_kind, kind_or}
use Rattle.jz_meaning.specs.Runs.{body_of}
use Rattle.jz_typed_runs.specs.TypedTexts.{kinds_in}
use Rattle.jz_run_laws.specs.Kinds.{part_of}
use Rattle.jz_bodies.proofs.Refs.{ref_name, ref_copy, ref_kind}
use Rattle.jz_bodies.proofs.Variables.{found_item}
use Rattle.jz_inline.specs.Names.{var_in}
use Rattle.jz_inline.specs.Functions.{own_names}
use Rattle.jz_inline.proofs.Reading.{ref_so}
use Rattle.jz_frames.specs.Frames as frames
use Rattle.jz_inlining.specs.Inlined.{inlined_function}
use Rattle.jz_unroll.specs.Values.{is_inline_var}
use Rattle.jz_unrolling_values.specs.InlineNames.{inline_names}
use Rattle.jz_unrolling.specs.Unrolled.{KeepsHead}
use Rattle.jz_scalars.specs.Functions.{function_with_scalars}
use Rattle.jz_declared.specs.Declared.{Differ}
use Rattle.jz_distinct.proofs.Differing.{differ_part}
use Rattle.jz_signature.proofs.StackLemmas.{inline_itself}
use Rattle.jz_ready.specs.CopiedKinds.{callees_of, kind_in, copied_kinds}
use Rattle.jz_unrollable.proofs.CalledFuns.{funs_are}
use Rattle.jz_copied_types.proofs.Copying as copying
use Rattle.jz_total_rows.specs.Variables.{AreOneName}
use Rattle.jz_copied_variables.specs.Variables.{frame_of, is_lent, own_known, copy_known, known_at, IsSeen}
use Rattle.jz_expanded_homes.proofs.Frames.{own_frame, IsCopied, same_copy, wider, in_frames}

-- ---- the variable of a function that has a declaration
-- a constant is an inline integer
int_kind : kind_of ty.Int ≡ scope.Int
int_kind = ap (λ t. kind_of t) (sym ty.rolls-Int) ∙ ap kind_step (out-roll-Ty Ty-F.Int)

of_constant : {A : Type 0} (o : Option A) (d : Decl) → option_map (λ at. constant_decl) o ≡ Some d → is_inline_int (Some (declared_of d)) ≡ true
of_constant None d e = absurd cc
of_constant (Some at) d e = subst (λ x. is_inline_int (Some (declared_of x)) ≡ true) (same_some constant_decl d e) (ap (inline_int storage.Inline) int_kind)

record IsOwner (p : Program) (g : Fun) (n : List ℕ) (v : Var) : Type 0 where
  pub own : Var
  pub among : Contains (variables_of g) own
  pub name : (ref_of own).name ≡ n
  pub known : known_of own ≡ known_of v
  pub kind : (ref_of own).kind ≡ kinds_in p g n 0

module _ (p : Program) (g : Fun) (n : List ℕ) (v : Var) (stored : known_in p g n ≡ known_of v) (plain : is_inline_int (known_of v) ≡ false) where
  abbrev constant_of : Option Decl
  constant_of = option_map (λ at. constant_decl) (constant_place p.consts n)

  no_constant : (d : Decl) → Some (declared_of d) ≡ known_of v → constant_of ≡ Some d → ⊥
  no_constant d k e = true≢false (sym (of_constant (constant_place p.consts n) d e) ∙ (ap is_inline_int k ∙ plain))

  carried : (w : Var) (d : Decl) → Some (declared_of d) ≡ known_of v → (o : Option Decl) → (out-Var w).decl ≡ o → option_or o constant_of ≡ Some d → (out-Var w).decl ≡ Some d
  carried w d k None i e = absurd (no_constant d k e)
  carried w d k (Some c) i e = i ∙ e

  owner_by : (d : Decl) → declared_in p g n ≡ Some d → Some (declared_of d) ≡ known_of v → (o : Option Var) → variable_named n (variables_of g) ≡ o → option_or (option_and_then (λ x. (out-Var x).decl) o) constant_of ≡ Some d → IsOwner p g n v
  owner_by d i k None f e = absurd (no_constant d k e)
  owner_by d i k (Some w) f e =
      let found = found_item (λ y. bytes_eq n (out-Var y).name) (λ y. true) (Contains (variables_of g)) (variables_of g) w f (All-contains_itself (variables_of g)) in
      let there : (out-Var w).decl ≡ Some d = carried w d k (out-Var w).decl refl e in
      record {
        own = w;
        among = found.1;
        name = ref_name w ∙ sym (bytes_eq-true n (out-Var w).name found.0);
        known = ap (option_map declared_of) there ∙ k;
        kind = ref_kind w ∙ ap (λ o. kind_or (option_map declared_kind o)) (there ∙ sym i);
      }

  by_declaration : (o : Option Decl) → declared_in p g n ≡ o → option_map declared_of o ≡ known_of v → IsOwner p g n v
  by_declaration None i k = absurd (true≢false (ap is_inline_int k ∙ plain))
  by_declaration (Some d) i k = owner_by d i k (variable_named n (variables_of g)) refl i

  owner : IsOwner p g n v
  owner = by_declaration (declared_in p g n) refl stored

-- ---- among the variables of a function without calls
module _ (p : Program) (f : Fun) where
  abbrev params : List Var
  params = map (λ (q : Param). q.var) f.params

  abbrev frame : List Var
  frame = frames.frame_of p f

  abbrev all : List Var
  all = variables_of (inlined_function p f)

  -- what a variable w of a copied function is in the copy c
  record HasPlace (w : Var) (c : ℕ) : Type 0 where
    pub own : Var
    pub among : Contains all own
    pub name : (ref_of own).name ≡ (ref_of w).name
    pub copy : (ref_of own).copy ≡ c
    pub known : known_of own ≡ known_of w
    pub kind : (ref_of own).kind ≡ (ref_of w).kind

  of_copied : (w : Var) (c : ℕ) → IsCopied w c all → HasPlace w c
  of_copied w c h = record {
    own = var_in h.names w;
    among = h.there;
    name = ap (λ (r : Ref). r.name) (ref_so h.names w) ∙ ap (λ q. q.0) h.name;
    copy = ap (λ (r : Ref). r.copy) (ref_so h.names w) ∙ ap (λ q. q.1) h.name;
    known = copying.known_in h.names w;
    kind = ap (λ (r : Ref). r.kind) (ref_so h.names w);
  }

  own_place : All IsPlain (variables_of f) → (w : Var) → Contains (variables_of f) w → HasPlace w 0
  own_place plain w h =
      elim (Contains-append_cases params f.vars w h) [
        | inl i ↦ record { own = w; among = Contains-append_left params frame w i; name = refl; copy = ref_copy w ∙ (All-contains IsPlain (variables_of f) w plain h).0; known = refl; kind = refl }
        | inr i ↦ of_copied w 0 (record { names = own_names; name = refl; there = Contains-append_right params frame (var_in own_names w) (own_frame p.funs (length p.funs) own_names 1 f w i) })
      ]

  copy_place : (g : Fun) (c : ℕ) → slice_get (callees_of (body_of p f)) c ≡ Some g → (w : Var) → Contains (variables_of g) w → is_lent g.params (ref_of w).name ≡ false → HasPlace w (suc c)
  copy_place g c e w h n =
      let depth : ℕ = length p.funs in
      let number : 1 + c ≡ suc c = omega arith in
      let there = in_frames w g p.funs h n depth own_names 1 f c (subst (λ l. slice_get l c ≡ Some g) (funs_are p.funs depth f) e) in
      of_copied w (suc c) (same_copy w (1 + c) (suc c) all number (wider w (1 + c) frame all (λ y i. Contains-append_right params frame y i) there))

  -- ---- a variable of a copy
  pub record HasOwn (v : Var) : Type 0 where
    pub own : Var
    pub among : Contains all own
    pub one : AreOneName own v
    pub known : known_of v ≡ known_of own
    pub kind : (ref_of v).kind ≡ (ref_of own).kind

  module _ (plain_text : All IsPlain (variables_of f)) (v : Var) (h : IsSeen (copied_kinds p f) (frame_of p f) (known_at p f) v) (plain : is_inline_int (known_of v) ≡ false) where
    abbrev n : List ℕ
    n = (ref_of v).name

    declared_as : copied_kinds p f n (ref_of v).copy ≡ (ref_of v).kind
    declared_as = sym (ap (part_of (copied_kinds p f n (ref_of v).copy)) h.entire) ∙ h.declared

    joined : (g : Fun) (c : ℕ) → (ref_of v).copy ≡ c → kinds_in p g n 0 ≡ (ref_of v).kind → (o : IsOwner p g n v) → HasPlace o.own c → HasOwn v
    joined g c e k o s = record {
      own = s.own;
      among = s.among;
      one = (sym (s.name ∙ o.name), e ∙ sym s.copy);
      known = sym (s.known ∙ o.known);
      kind = sym (s.kind ∙ (o.kind ∙ k));
    }

    lent_none : (b : Bool) (k : Known) → (if b then None else k) ≡ known_of v → (b ≡ false) × (k ≡ known_of v)
    lent_none true k e = absurd (true≢false (ap is_inline_int e ∙ plain))
    lent_none false k e = (refl, e)

    of_callee : (c : ℕ) → (ref_of v).copy ≡ suc c → (g : Option Fun) → slice_get (callees_of (body_of p f)) c ≡ g → own_known p g n ≡ known_of v → kind_in p g n ≡ (ref_of v).kind → HasOwn v
    of_callee c e None i s k = absurd (true≢false (ap is_inline_int s ∙ plain))
    of_callee c e (Some g) i s k =
        let a = lent_none (is_lent g.params n) (known_in p g n) s in
        let o = owner p g n v a.1 plain in
        joined g (suc c) e k o (copy_place g c i o.own o.among (ap (is_lent g.params) o.name ∙ a.0))

    by_copy : (c : ℕ) → (ref_of v).copy ≡ c → copy_known p f n c ≡ known_of v → copied_kinds p f n c ≡ (ref_of v).kind → HasOwn v
    by_copy zero e s k = let o = owner p f n v s plain in joined f 0 e k o (own_place plain_text o.own o.among)
    by_copy (suc c) e s k = of_callee c e (slice_get (callees_of (body_of p f)) c) refl s k

    pub has_own : HasOwn v
    has_own = by_copy (ref_of v).copy refl h.stored declared_as

  -- ---- inline variables are left out
  module _ (u : Fun) (head : KeepsHead (inlined_function p f) u) (differ : Differ all) where
    abbrev keep : Var → Bool
    keep v = not (is_inline_var (inline_names all) v)

    left : variables_of (function_with_scalars u) ≡ params ++ filter keep frame
    left = ap (λ ps. map (λ (q : Param). q.var) ps ++ u.vars) head.params ∙ ap (λ vs. params ++ vs) head.vars

    pub differ_left : Differ (variables_of (function_with_scalars u))
    differ_left = subst Differ (sym left) (differ_part keep params frame differ)

    kept_by : (y : Var) → Contains all y → is_inline_int (known_of y) ≡ false → (b : Bool) → is_inline_var (inline_names all) y ≡ b → not b ≡ true
    kept_by y c i false e = refl
    kept_by y c i true e = absurd (true≢false (sym (inline_itself all differ y c e) ∙ i))

    first_kept : (b : Bool) (x y : Var) (rest : List Var) → b ≡ true → x ≡ y → Contains (if b then x ∷ rest else rest) y
    first_kept true x y rest t e = (0, omega arith, e)
    first_kept false x y rest t e = absurd (false≢true t)

    later_kept : (b : Bool) (x y : Var) (rest : List Var) → Contains rest y → Contains (if b then x ∷ rest else rest) y
    later_kept true x y rest c = Contains-append_right (x ∷ []) rest y c
    later_kept false x y rest c = c

    in_kept : (xs : List Var) (k : ℕ) (y : Var) → k < length xs → get_or xs k y ≡ y → keep y ≡ true → Contains (filter keep xs) y
    in_kept [] k y lt e t = absurd (omega (arith, lt))
    in_kept (x ∷ xs) zero y lt e t = first_kept (keep x) x y (filter keep xs) (ap keep e ∙ t) e
    in_kept (x ∷ xs) (suc k) y lt e t = later_kept (keep x) x y (filter keep xs) (in_kept xs k y (omega (arith, lt)) e t)

    pub among_left : (y : Var) → Contains all y → is_inline_int (known_of y) ≡ false → Contains (variables_of (function_with_scalars u)) y
    among_left y c i =
        let t : keep y ≡ true = kept_by y c i (is_inline_var (inline_names all) y) refl in
        let there : Contains (params ++ filter keep frame) y =
        elim (Contains-append_cases params frame y c) [
          | inl a ↦ Contains-append_left params (filter keep frame) y a
          | inr a ↦ Contains-append_right params (filter keep frame) y (in_kept frame a.0 y a.1 a.2 t)
        ] in
        subst (λ vs. Contains vs y) (sym left) there
