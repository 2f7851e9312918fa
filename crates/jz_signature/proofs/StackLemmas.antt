-- The stack variables of an expanded function.
use Rattle.std.proofs.Common.{◌≡◌, ℕ, suc, Bool, true, false, ◌==◌, ◌&&◌, List, [], ◌∷◌, ◌++◌, map, Contains, All, Any, Option, Some, None, refl, sym, ap, ap₂, ◌∙◌, subst, arith}
use Rattle.std.specs.Prelude.{not, option_map}
use Rattle.std.specs.Str.{bytes_eq}
use Rattle.std.specs.List.{flat_map}
use Rattle.std.proofs.lemmas.Bool.{and_parts, eqb-true}
use Rattle.std.proofs.lemmas.List.{map-append}
use Rattle.std.proofs.lemmas.List.Concat.{flat_map-append}
use Rattle.std.proofs.lemmas.List.Elements.{All-head, All-tail}
use Rattle.std.proofs.lemmas.List.Folds.{Any-from_list_any}
use Rattle.jz_data.proofs.Texts.{bytes_eq-true}
use Rattle.jz_tree.specs.declared.expr.Decl.{Decl}
use Rattle.jz_tree.specs.declared.expr.Storage.{Storage}
use Rattle.jz_tree.specs.declared.expr.Storage.TheVariants as storage
use Rattle.jz_tree.specs.declared.expr.Var.{Var}
use Rattle.jz_tree.specs.declared.expr.Expr.TheViews.{out-Var}
use Rattle.jz_tree.specs.declared.program.Fun.{Fun}
use Rattle.jz_tree.specs.declared.program.Param.{Param}
use Rattle.jz_tree.specs.declared.program.Program.{Program}
use Rattle.jz_type_names.specs.declared.kinds.Kind as scope
use Rattle.jz_type_names.specs.Kinds.{declared_of, kind_of, known_of, inline_int, is_inline_int}
use Rattle.jz_type_names.specs.Scopes.{variables_of}
use Rattle.jz_meaning.specs.declared.access.Kind.{Kind}
use Rattle.jz_meaning.specs.declared.access.Kind.TheVariants as kind
use Rattle.jz_meaning.specs.Values.{Ref, ref_of}
use Rattle.jz_unroll.specs.Values.{is_inline_var}
use Rattle.jz_unrolling_values.specs.InlineNames.{is_inline_named, inline_names}
use Rattle.jz_unrolling.specs.Unrolled.{KeepsHead}
use Rattle.jz_frames.specs.Frames.{frame_of}
use Rattle.jz_inlining.specs.Inlined.{inlined_function}
use Rattle.jz_scalars.specs.Functions.{function_with_scalars}
use Rattle.jz_declared.specs.Declared as declared
use Rattle.jz_declared.specs.Declared.{Differ, kept_as, kept_by, kept_for, kept_of, stack_of}
use Rattle.jz_compiled.specs.Layout as layout
use Rattle.jz_compiled.specs.Layout.{stacked_by, stacked_if, stacked_of, stack_variables_of}
use Rattle.jz_compiled.proofs.KindLemmas.{name_is, copy_is}
use Rattle.jz_signature.specs.Laws.{stacked_as, IsUnstacked}
use Rattle.jz_signature.proofs.Members.{same_variable, all_left}

-- ---- one variable
by_kind : (k : Kind) (x : Ref) → map declared.cells_of (kept_as storage.Stack k x) ≡ map stacked_as (layout.cells_of k (x.name, x.copy))
by_kind (kind.Word z) x = refl
by_kind (kind.Array z n) x = refl
by_kind kind.Bool x = refl
by_kind kind.Int x = refl
by_kind kind.Undeclared x = refl

by_storage : (s : Storage) (x : Ref) → map declared.cells_of (kept_as s x.kind x) ≡ map stacked_as (stacked_by s x)
by_storage storage.Stack x = by_kind x.kind x
by_storage storage.Reg x = refl
by_storage storage.Inline x = refl

by_declaration : (d : Option Decl) (x : Ref) → map declared.cells_of (kept_by d x) ≡ map stacked_as (stacked_if d x)
by_declaration None x = refl
by_declaration (Some d) x = by_storage d.storage x

all_as : (vs : List Var) → map declared.cells_of (flat_map kept_for vs) ≡ map stacked_as (flat_map stacked_of vs)
all_as [] = refl
all_as (v ∷ vs) =
    map-append declared.cells_of (kept_for v) (flat_map kept_for vs)
    ∙ ap₂ (λ a b. a ++ b) (by_declaration (out-Var v).decl (ref_of v)) (all_as vs)
    ∙ sym (map-append stacked_as (stacked_of v) (flat_map stacked_of vs))

-- ---- inline variables are not in the frame
no_frame : (s : Storage) (t : scope.Kind) (k : Kind) (x : Ref) → inline_int s t ≡ true → kept_as s k x ≡ []
no_frame storage.Stack t k x e = cc
no_frame storage.Reg t k x e = refl
no_frame storage.Inline t k x e = refl

inline_known : (d : Option Decl) (x : Ref) → is_inline_int (option_map declared_of d) ≡ true → kept_by d x ≡ []
inline_known None x e = refl
inline_known (Some d) x e = no_frame d.storage (kind_of d.ty) x.kind x e

pub not_true : (b : Bool) → not b ≡ false → b ≡ true
not_true true e = refl
not_true false e = cc

module _ (vs : List Var) (differ : Differ vs) (v : Var) (among : Contains vs v) (inline : is_inline_var (inline_names vs) v ≡ true) where
  some : Any (λ w. is_inline_named (ref_of v).name (ref_of v).copy w ≡ true) vs
  some = Any-from_list_any (is_inline_named (ref_of v).name (ref_of v).copy) vs inline

  pub inline_itself : is_inline_int (known_of v) ≡ true
  inline_itself =
      let w = some.1 in
      let test = and_parts (is_inline_int (known_of w)) (bytes_eq (out-Var w).name (ref_of v).name && (out-Var w).copy == (ref_of v).copy) some.4 in
      let names = and_parts (bytes_eq (out-Var w).name (ref_of v).name) ((out-Var w).copy == (ref_of v).copy) test.1 in
      let same : w ≡ v =
      same_variable vs differ w v (some.0, some.2, some.3) among (name_is w ∙ bytes_eq-true (out-Var w).name (ref_of v).name names.0) (copy_is w ∙ eqb-true (out-Var w).copy (ref_of v).copy names.1) in
      subst (λ u. is_inline_int (known_of u) ≡ true) same test.0

  pub left_out : kept_for v ≡ []
  left_out = inline_known (out-Var v).decl (ref_of v) inline_itself

-- ---- the parameters
no_params : (ps : List Param) → All IsUnstacked ps → flat_map kept_for (map (λ q. q.var) ps) ≡ []
no_params [] h = refl
no_params (q ∷ ps) h = ap₂ (λ a b. a ++ b) (All-head IsUnstacked q ps h) (no_params ps (All-tail IsUnstacked q ps h))

behind : (xs ys : List Var) → flat_map kept_for xs ≡ [] → flat_map kept_for (xs ++ ys) ≡ flat_map kept_for ys
behind xs ys e = flat_map-append kept_for xs ys ∙ ap (λ l. l ++ flat_map kept_for ys) e

-- ---- the whole
pub in_second : (xs ys : List Var) (y : Var) → Contains ys y → Contains (xs ++ ys) y
in_second [] ys y h = h
in_second (x ∷ xs) ys y h = let r = in_second xs ys y h in (suc r.0, omega (arith, r.1), r.2)

module _ (p : Program) (f u : Fun) (head : KeepsHead (inlined_function p f) u) (differ : Differ (variables_of (inlined_function p f))) (params : All IsUnstacked f.params) where
  abbrev names : List ℕ → ℕ → Bool
  names = inline_names (variables_of (inlined_function p f))

  left : flat_map kept_for u.vars ≡ flat_map kept_for (frame_of p f)
  left =
      ap (λ l. flat_map kept_for l) head.vars
      ∙ all_left kept_for (λ v. not (is_inline_var names v)) (frame_of p f)
      (λ v i t. left_out (variables_of (inlined_function p f)) differ v (in_second (map (λ q. q.var) f.params) (frame_of p f) v i) (not_true (is_inline_var names v) t))

  kept_is : kept_of (function_with_scalars u) ≡ flat_map kept_for (frame_of p f)
  kept_is =
      ap (λ ps. flat_map kept_for (map (λ q. q.var) ps ++ u.vars)) head.params
      ∙ behind (map (λ q. q.var) f.params) u.vars (no_params f.params params) ∙ left

  pub stack_is : stack_of (function_with_scalars u) ≡ map stacked_as (stack_variables_of p f)
  stack_is = ap (λ ks. map declared.cells_of ks) kept_is ∙ all_as (frame_of p f)
