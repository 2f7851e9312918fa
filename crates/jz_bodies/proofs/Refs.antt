-- What a variable of the text is for a run, by what is declared of it.
use Rattle.std.proofs.Common.{◌≡◌, ℕ, ℤ, pos, true, false, Option, Some, None, refl, sym, ap, ◌∙◌, eqb-true, arith, List}
use Rattle.std.specs.Prelude.{option_map, ◌==◌, ◌≤◌, ◌&&◌}
use Rattle.std.specs.Str.{bytes_eq}
use Rattle.std.proofs.lemmas.Bool.{and_parts, false≢true, and_from}
use Rattle.std.proofs.lemmas.Bool.Decides.{nat_tests}
use Rattle.std.proofs.lemmas.Slice.Eq.{bytes_eq-Decides}
use Rattle.jz_tree.proofs.Texts.{bytes_eq-true}
use Rattle.jz_tree.specs.Size.{Size}
use Rattle.jz_tree.specs.declared.expr.Expr.{Expr}
use Rattle.jz_tree.specs.declared.expr.Ty.{Ty}
use Rattle.jz_tree.specs.declared.expr.Access.{Access}
use Rattle.jz_tree.specs.declared.expr.Decl.{Decl}
use Rattle.jz_tree.specs.declared.expr.Var.{Var}
use Rattle.jz_tree.specs.declared.expr.Expr.TheOpen.{Ty-F, Decl-F, Var-F}
use Rattle.jz_tree.specs.declared.expr.Expr.TheViews.{out-Ty, out-Var, roll-Decl, roll-out-Ty, roll-out-Var}
use Rattle.jz_tree.specs.declared.expr.Expr.TheFolds.{fold-Ty, fold-roll-Ty, fold-roll-Decl, fold-roll-Var, ind-Decl, map-Ty, map-Var}
use Rattle.jz_type_names.specs.declared.kinds.Kind as known
use Rattle.jz_type_names.specs.declared.kinds.Kind.TheVariants as scope
use Rattle.jz_type_names.specs.Kinds.{Known, kind_step, kind_of, known_of, declared_of, number_layer, length_written, written_length, is_array_kind}
use Rattle.jz_type_names.specs.Kinds as names
use Rattle.jz_judgement.proofs.Nothing.{size_same, same_self}
use Rattle.jz_meaning.specs.declared.access.Kind as meant
use Rattle.jz_meaning.specs.declared.access.Kind.TheVariants as kind
use Rattle.jz_meaning.specs.States.{Key, same_cell, same_key}
use Rattle.jz_meaning.specs.Values.{Meaning, MemoryAccess, Ref, key_of, meaning_of, ref_of, access_of, declared_kind, expr_step, ty_step, access_step, decl_step, var_step, array_kind, kind_or}
use Rattle.jz_run_laws.proofs.Sizes.{expression_law}
use Rattle.jz_texts.specs.Declared.{IsCountedDecl}
use Rattle.jz_bodies.specs.Calls.{is_array}
use Rattle.jz_bodies.specs.Declared.{same_kind, is_one}

-- ---- keys and kinds

pub bytes_same : (a : List ℕ) → bytes_eq a a ≡ true
bytes_same a = (bytes_eq-Decides a a).1 refl

pub number_same : (i : ℕ) → (i == i) ≡ true
number_same i = grind (arith, nat_tests)

cell_same : (c : Option ℕ) → same_cell c c ≡ true
cell_same None = refl
cell_same (Some i) = number_same i

pub same_key-refl : (k : Key) → same_key k k ≡ true
same_key-refl k = and_from (bytes_eq k.name k.name) ((k.copy == k.copy) && same_cell k.cell k.cell) (bytes_same k.name) (and_from (k.copy == k.copy) (same_cell k.cell k.cell) (number_same k.copy) (cell_same k.cell))

cells_same : (a b : Option ℕ) → same_cell a b ≡ true → a ≡ b
cells_same None None e = refl
cells_same None (Some j) e = absurd (false≢true e)
cells_same (Some i) None e = absurd (false≢true e)
cells_same (Some i) (Some j) e = ap Some (eqb-true i j e)

pub keys_same : (a b : Key) → same_key a b ≡ true → a ≡ b
keys_same a b e =
    let p = and_parts (bytes_eq a.name b.name) _ e in
    let q = and_parts (a.copy == b.copy) _ p.1 in
    let n : a.name ≡ b.name = bytes_eq-true a.name b.name p.0 in
    let c : a.copy ≡ b.copy = eqb-true a.copy b.copy q.0 in
    let d : a.cell ≡ b.cell = cells_same a.cell b.cell q.1 in
    λ i. record { name = n i; copy = c i; cell = d i }

same_kind-refl : (k : meant.Kind) → same_kind k k ≡ true
same_kind-refl kind.Undeclared = refl
same_kind-refl kind.Int = refl
same_kind-refl kind.Bool = refl
same_kind-refl (kind.Word z) = same_self z
same_kind-refl (kind.Array z n) = and_from (names.same_size z z) (n == n) (same_self z) (number_same n)

kinds_same : (k m : meant.Kind) → same_kind k m ≡ true → k ≡ m
kinds_same kind.Undeclared kind.Undeclared e = refl
kinds_same kind.Int kind.Int e = refl
kinds_same kind.Bool kind.Bool e = refl
kinds_same (kind.Word y) (kind.Word z) e = ap (λ x. kind.Word x) (size_same y z e)
kinds_same (kind.Array y n) (kind.Array z m) e =
    let p = and_parts (names.same_size y z) (n == m) e in
    ap (λ x. kind.Array x n) (size_same y z p.0) ∙ ap (λ x. kind.Array z x) (eqb-true n m p.1)
kinds_same k m e = absurd (false≢true e)

pub one_is : (r q : Ref) → is_one r q ≡ true → (key_of r ≡ key_of q) × (r.kind ≡ q.kind)
one_is r q e =
    let p = and_parts (same_key (key_of r) (key_of q)) (same_kind r.kind q.kind) e in
    (keys_same (key_of r) (key_of q) p.0, kinds_same r.kind q.kind p.1)

pub is_one-of : (r q : Ref) → key_of r ≡ key_of q → r.kind ≡ q.kind → is_one r q ≡ true
is_one-of r q k d =
    and_from (same_key (key_of r) (key_of q)) (same_kind r.kind q.kind)
    (ap (same_key (key_of r)) (sym k) ∙ same_key-refl (key_of r)) (ap (same_kind r.kind) (sym d) ∙ same_kind-refl r.kind)

pub is_one-refl : (r : Ref) → is_one r r ≡ true
is_one-refl r = is_one-of r r refl refl

-- ---- variables

abbrev Layer : Type 0
Layer = Var-F Expr Ty Access Decl Var

ty_meant : Ty → meant.Kind
ty_meant = fold-Ty _ _ _ _ _ expr_step ty_step access_step decl_step var_step

ref_layer : Layer → Ref
ref_layer x = var_step (map-Var _ _ _ _ _ Meaning meant.Kind MemoryAccess meant.Kind Ref meaning_of ty_meant access_of declared_kind ref_of x)

ref_is : (v : Var) → ref_of v ≡ ref_layer (out-Var v)
unfolding ty_meant ref_layer
ref_is v = ap ref_of (sym (roll-out-Var v)) ∙ fold-roll-Var _ _ _ _ _ expr_step ty_step access_step decl_step var_step (out-Var v)

pub ref_name : (v : Var) → (ref_of v).name ≡ (out-Var v).name
unfolding ref_layer
ref_name v = ap (λ (r : Ref). r.name) (ref_is v)

pub ref_copy : (v : Var) → (ref_of v).copy ≡ (out-Var v).copy
unfolding ref_layer
ref_copy v = ap (λ (r : Ref). r.copy) (ref_is v)

pub ref_cell : (v : Var) → (ref_of v).cell ≡ (out-Var v).cell
unfolding ref_layer
ref_cell v = ap (λ (r : Ref). r.cell) (ref_is v)

kind_of_layer : (x : Layer) (d : Option Decl) → kind_or (option_map declared_kind d) ≡ (ref_layer (record x { decl = d })).kind
unfolding ref_layer
kind_of_layer x None = refl
kind_of_layer x (Some d) = refl

pub ref_kind : (v : Var) → (ref_of v).kind ≡ kind_or (option_map declared_kind (out-Var v).decl)
ref_kind v = ap (λ (r : Ref). r.kind) (ref_is v) ∙ sym (kind_of_layer (out-Var v) (out-Var v).decl)

-- ---- declarations

-- the kind of a run by that of typing and the length that is written
abbrev pub kind_from : known.Kind → Option ℤ → meant.Kind
kind_from scope.Int l = kind.Int
kind_from scope.Truth l = kind.Bool
kind_from (scope.Word z) l = kind.Word z
kind_from (scope.Array z) l = array_kind z l

ty_layer : (x : Ty-F Expr Ty Access Decl Var) → ty_step (map-Ty _ _ _ _ _ Meaning meant.Kind MemoryAccess meant.Kind Ref meaning_of ty_meant access_of declared_kind ref_of x) ≡ kind_from (kind_step x) (length_written x)
ty_layer Ty-F.Int = refl
ty_layer Ty-F.Ty::Bool = refl
ty_layer (Ty-F.Word z) = refl
ty_layer (Ty-F.Array z e) = ap (array_kind z) (expression_law e).0

ty_kind : (t : Ty) → ty_meant t ≡ kind_from (kind_of t) (length_written (out-Ty t))
unfolding ty_meant
ty_kind t = ap ty_meant (sym (roll-out-Ty t)) ∙ fold-roll-Ty _ _ _ _ _ expr_step ty_step access_step decl_step var_step (out-Ty t) ∙ ty_layer (out-Ty t)

abbrev DeclLaw : Decl → Type 0
DeclLaw d = declared_kind d ≡ kind_from (kind_of d.ty) (written_length d)

decl_case : (x : Decl-F Expr Ty Access Decl Var) → DeclLaw (roll-Decl x)
unfolding ty_meant
decl_case x = fold-roll-Decl _ _ _ _ _ expr_step ty_step access_step decl_step var_step x ∙ ty_kind x.ty

pub decl_kind : (d : Decl) → DeclLaw d
decl_kind =
    ind-Decl (λ e. Unit {0}) (λ t. Unit {0}) (λ a. Unit {0}) DeclLaw (λ v. Unit {0})
    (λ x y is. tt) (λ x y is. tt) (λ x y is. tt) (λ x y is. decl_case x) (λ x y is. tt)

-- what is declared with a counted length
pub array_declared : (d : Decl) (z : Size) → IsCountedDecl d → kind_of d.ty ≡ scope.Array z → (n : ℕ) × (declared_kind d ≡ kind.Array z n) × (written_length d ≡ Some (pos n)) × (1 ≤ n)
array_declared d z c e =
    let h = c z e in
    (h.count, decl_kind d ∙ (ap (λ k. kind_from k (written_length d)) e ∙ ap (array_kind z) h.written), h.written, h.least)

pub plain_declared : (d : Decl) → is_array_kind (kind_of d.ty) ≡ false → is_array (declared_kind d) ≡ false
plain_declared d e = ap is_array (decl_kind d) ∙ by_kind (kind_of d.ty) (written_length d) e
  where
    by_kind : (k : known.Kind) (l : Option ℤ) → is_array_kind k ≡ false → is_array (kind_from k l) ≡ false
    by_kind scope.Int l e = refl
    by_kind scope.Truth l e = refl
    by_kind (scope.Word z) l e = refl
    by_kind (scope.Array z) l e = absurd (false≢true (sym e))
