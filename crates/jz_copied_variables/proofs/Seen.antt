-- A variable of a copy with its declaration.
use Rattle.std.proofs.Common.{◌≡◌, ℕ, List, [], ◌∷◌, Option, Some, None, Bool, true, refl, sym, ap, ap₂, ◌∙◌, subst, if◌then◌else◌}
use Rattle.std.specs.Prelude.{option_map}
use Rattle.jz_tree.specs.declared.expr.Storage.{Storage}
use Rattle.jz_tree.specs.declared.expr.Storage.TheVariants as storage
use Rattle.jz_tree.specs.declared.expr.Expr.{Expr}
use Rattle.jz_tree.specs.declared.expr.Ty.{Ty}
use Rattle.jz_tree.specs.declared.expr.Ty.TheVariants as ty
use Rattle.jz_tree.specs.declared.expr.Access.{Access}
use Rattle.jz_tree.specs.declared.expr.Decl.{Decl}
use Rattle.jz_tree.specs.declared.expr.Var.{Var}
use Rattle.jz_tree.specs.declared.expr.Expr.TheOpen.{Var-F}
use Rattle.jz_tree.specs.declared.expr.Expr.TheViews.{out-Var, out-roll-Var}
use Rattle.jz_tree.specs.declared.program.Fun.{Fun}
use Rattle.jz_tree.specs.declared.program.Program.{Program}
use Rattle.jz_type_names.specs.declared.kinds.Kind as known
use Rattle.jz_type_names.specs.declared.kinds.Kind.TheVariants as scope
use Rattle.jz_type_names.specs.Kinds.{Known, declared_of, known_of}
use Rattle.jz_type_storage.specs.Declarations.{is_kept}
use Rattle.jz_types.specs.Carried.{declared_in, known_in}
use Rattle.jz_meaning.specs.declared.access.Kind.{Kind}
use Rattle.jz_meaning.specs.declared.access.Kind.TheVariants as kind
use Rattle.jz_meaning.specs.States.{Key}
use Rattle.jz_meaning.specs.Values.{Ref, key_of, ref_of, declared_kind, kind_or}
use Rattle.jz_run_laws.specs.Kinds.{Kinds, part_of, kind_at}
use Rattle.jz_run_laws.specs.DeclaredKinds.{IsDeclared}
use Rattle.jz_typed_runs.specs.TypedTexts.{kinds_in}
use Rattle.jz_typed_runs.proofs.Declaring.{IsKept}
use Rattle.jz_bodies.proofs.Refs.{ref_name, ref_cell, ref_kind}
use Rattle.jz_inline.specs.Names.{Names, var_in}
use Rattle.jz_inline.proofs.Copies.{ref_in}
use Rattle.jz_inline.proofs.Reading.{ref_so}
use Rattle.jz_standing.specs.Typing.{whole, IsMark}
use Rattle.jz_copied_variables.specs.Variables.{stack_array, is_framed, IsSeen}

abbrev key_with : Ref → Option ℕ → Key
key_with r c = record { name = r.name; copy = r.copy; cell = c }

module _ (kinds : Kinds) (frame : Key → Bool) {store : Key → Known} (v : Var) (h : IsSeen kinds frame store v) where
  pub kind_is : (ref_of v).kind ≡ declared_kind h.decl
  kind_is = ref_kind v ∙ ap (λ o. kind_or (option_map declared_kind o)) h.is

  pub framed_whole : frame (whole (key_of (ref_of v))) ≡ stack_array h.decl.storage (declared_kind h.decl)
  framed_whole = ap (λ c. frame (key_with (ref_of v) c)) (sym h.entire) ∙ h.framed

  -- ---- marks
  mark_by : (k : Kind) → declared_kind h.decl ≡ k → (s : Storage) → h.decl.storage ≡ s → IsMark frame k (key_of (ref_of v))
  mark_by (kind.Array z n) w s p = tt
  mark_by kind.Undeclared w storage.Reg p = framed_whole ∙ ap₂ stack_array p w
  mark_by kind.Undeclared w storage.Stack p = framed_whole ∙ ap₂ stack_array p w
  mark_by kind.Undeclared w storage.Inline p = framed_whole ∙ ap₂ stack_array p w
  mark_by kind.Int w storage.Reg p = framed_whole ∙ ap₂ stack_array p w
  mark_by kind.Int w storage.Stack p = framed_whole ∙ ap₂ stack_array p w
  mark_by kind.Int w storage.Inline p = framed_whole ∙ ap₂ stack_array p w
  mark_by kind.Bool w storage.Reg p = framed_whole ∙ ap₂ stack_array p w
  mark_by kind.Bool w storage.Stack p = framed_whole ∙ ap₂ stack_array p w
  mark_by kind.Bool w storage.Inline p = framed_whole ∙ ap₂ stack_array p w
  mark_by (kind.Word z) w storage.Reg p = framed_whole ∙ ap₂ stack_array p w
  mark_by (kind.Word z) w storage.Stack p = framed_whole ∙ ap₂ stack_array p w
  mark_by (kind.Word z) w storage.Inline p = framed_whole ∙ ap₂ stack_array p w

  pub mark_seen : IsMark frame (ref_of v).kind (key_of (ref_of v))
  mark_seen = subst (λ k. IsMark frame k (key_of (ref_of v))) (sym kind_is) (mark_by (declared_kind h.decl) refl h.decl.storage refl)

-- ---- of a copy of what a function g declares
abbrev pub Follows : Program → Kinds → (Key → Bool) → (Key → Known) → Fun → Names → Type 0
Follows p kinds frame store g names =
    (n : List ℕ) → (kinds (names n).0 (names n).1 ≡ kinds_in p g n 0) × (frame (record { name = (names n).0; copy = (names n).1; cell = None }) ≡ is_framed (declared_in p g n))
    × (store (record { name = (names n).0; copy = (names n).1; cell = None }) ≡ known_in p g n)

-- what a function declares may be declared
abbrev pub IsLegal : Program → Fun → Type 0
IsLegal p g = (n : List ℕ) (d : Decl) → declared_in p g n ≡ Some d → is_kept (declared_of d) ≡ true

module _ (p : Program) (kinds : Kinds) (frame : Key → Bool) (store : Key → Known) (g : Fun) (legal : IsLegal p g) (names : Names) (follows : Follows p kinds frame store g names) where
  abbrev name_key : List ℕ → Option ℕ → Key
  name_key n c = record { name = (names n).0; copy = (names n).1; cell = c }

  pub seen_in : (v : Var) → IsKept (declared_in p g) v → IsSeen kinds frame store (var_in names v)
  seen_in v k =
      let r : Ref = ref_of v in
      let cell : r.cell ≡ None = ref_cell v ∙ k.plain.1 in
      let own : kinds_in p g r.name 0 ≡ r.kind = sym (ap (part_of (kinds_in p g r.name 0)) cell) ∙ k.own_kind in
      let at : IsDeclared kinds (ref_in names r) = ap (part_of (kinds (names r.name).0 (names r.name).1)) cell ∙ ((follows r.name).0 ∙ own) in
      let name : declared_in p g r.name ≡ Some k.decl = ap (declared_in p g) (ref_name v) ∙ (sym k.carries ∙ k.some) in
      let there : frame (key_of (ref_in names r)) ≡ stack_array k.decl.storage (declared_kind k.decl) = ap (λ c. frame (name_key r.name c)) cell ∙ ((follows r.name).1 ∙ ap is_framed name) in
      let shown : (out-Var (var_in names v)).decl ≡ Some k.decl = ap (λ (x : Var-F Expr Ty Access Decl Var). x.decl) (out-roll-Var _) ∙ k.some in
      let stands : store (key_of (ref_in names r)) ≡ known_of (var_in names v) =
      ap (λ c. store (name_key r.name c)) cell ∙ ((follows r.name).2 ∙ (ap (option_map declared_of) name ∙ sym (ap (option_map declared_of) shown))) in
      record {
        decl = k.decl;
        is = shown;
        kept = legal (out-Var v).name k.decl (sym k.carries ∙ k.some);
        counted = k.counted;
        declared = subst (IsDeclared kinds) (sym (ref_so names v)) at;
        framed = ap (λ (x : Ref). frame (key_of x)) (ref_so names v) ∙ there;
        stored = ap (λ (x : Ref). store (key_of x)) (ref_so names v) ∙ stands;
        entire = ap (λ (x : Ref). x.cell) (ref_so names v) ∙ cell;
      }

-- ---- two variables at one place
module _ (kinds : Kinds) (frame : Key → Bool) {store : Key → Known} (v w : Var) (h : IsSeen kinds frame store v) (k : IsSeen kinds frame store w) (same : key_of (ref_of v) ≡ key_of (ref_of w)) where
  pub same_known : known_of v ≡ known_of w
  same_known = sym h.stored ∙ (ap store same ∙ k.stored)

  pub same_kind : (ref_of v).kind ≡ (ref_of w).kind
  same_kind = sym h.declared ∙ (ap (kind_at kinds) same ∙ k.declared)
