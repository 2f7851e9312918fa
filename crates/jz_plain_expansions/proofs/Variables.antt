-- A variable of a copy is plain, and so is a cell of an array in registers as a word of its own.
use Rattle.std.proofs.Common.{◌≡◌, ℕ, [], ◌∷◌, Some, None, Bool, true, false, refl, sym, ap, ap₂, ◌∙◌, subst, if◌then◌else◌}
use Rattle.std.specs.Prelude.{nat_lt, option_map}
use Rattle.std.proofs.lemmas.Bool.{false≢true, true≢false}
use Rattle.jz_tree.specs.Size.{Size}
use Rattle.jz_tree.specs.declared.expr.Storage.{Storage}
use Rattle.jz_tree.specs.declared.expr.Storage.TheVariants as storage
use Rattle.jz_tree.specs.declared.expr.Expr.{Expr}
use Rattle.jz_tree.specs.declared.expr.Ty.{Ty}
use Rattle.jz_tree.specs.declared.expr.Ty.TheVariants as ty
use Rattle.jz_tree.specs.declared.expr.Access.{Access}
use Rattle.jz_tree.specs.declared.expr.Decl.{Decl}
use Rattle.jz_tree.specs.declared.expr.Var.{Var}
use Rattle.jz_tree.specs.declared.expr.Expr.TheOpen.{Ty-F, Var-F}
use Rattle.jz_tree.specs.declared.expr.Expr.TheViews.{out-Ty, out-roll-Var, out-roll-Ty}
use Rattle.jz_type_names.specs.declared.kinds.Kind as known
use Rattle.jz_type_names.specs.declared.kinds.Kind.TheVariants as scope
use Rattle.jz_type_names.specs.Kinds.{Known, kind_step, kind_of, declared_of, known_of, inline_int, is_inline_int, is_register_array, written_length}
use Rattle.jz_type_storage.specs.Declarations.{may_keep}
use Rattle.jz_meaning.specs.declared.access.Kind.{Kind}
use Rattle.jz_meaning.specs.declared.access.Kind.TheVariants as kind
use Rattle.jz_meaning.specs.States.{Key}
use Rattle.jz_meaning.specs.Values.{Ref, key_of, ref_of, declared_kind}
use Rattle.jz_run_laws.specs.Kinds.{Kinds, part_of}
use Rattle.jz_run_laws.specs.DeclaredKinds.{IsDeclared}
use Rattle.jz_bodies.proofs.Refs.{kind_from, decl_kind, array_declared}
use Rattle.jz_arrays.specs.Cells.{is_register, cells_of_ty, cells_of_decl, size_at, is_below, scalar}
use Rattle.jz_arrays.proofs.Reading.{kind_size, scalar_is, below_is}
use Rattle.jz_standing.specs.Typing.{whole, IsScalar}
use Rattle.jz_plain_operands.specs.Plain.{HasDeclaration, IsPlain, a_word, a_slot, a_flag, an_array}
use Rattle.jz_copied_variables.specs.Variables.{stack_array, IsSeen}
use Rattle.jz_copied_variables.proofs.Seen.{kind_is, framed_whole}
use Rattle.jz_plain_expansions.specs.PlainExpansions.{without_int}

abbrev known_as : Storage → known.Kind → Known
known_as s k = Some (record { storage = s; kind = k })

word_no_int : (z : Size) → kind.Word z ≡ kind.Int → ⊥
word_no_int z e = cc

bool_no_int : kind.Bool ≡ kind.Int → ⊥
bool_no_int e = cc

array_no_int : (z : Size) (n : ℕ) → kind.Array z n ≡ kind.Int → ⊥
array_no_int z n e = cc

without_is : (k m : Kind) → k ≡ m → (m ≡ kind.Int → ⊥) → without_int k ≡ m
without_is kind.Int m e n = absurd (n (sym e))
without_is kind.Undeclared m e n = e
without_is kind.Bool m e n = e
without_is (kind.Word z) m e n = e
without_is (kind.Array z i) m e n = e

same_kind : (a b : Kind) → Some a ≡ Some b → a ≡ b
same_kind a b e = cc

module _ (kinds : Kinds) (frame : Key → Bool) where
  abbrev pub K : Kinds
  K n c = without_int (kinds n c)

  module _ {store : Key → Known} (v : Var) (h : IsSeen kinds frame store v) where
    abbrev kind_there : (ref_of v).kind ≡ declared_kind h.decl
    kind_there = kind_is kinds frame v h

    known_is : known_of v ≡ Some (declared_of h.decl)
    known_is = ap (option_map declared_of) h.is

    has : (s : Storage) (k : known.Kind) → h.decl.storage ≡ s → kind_of h.decl.ty ≡ k → HasDeclaration v s k
    has s k p q = known_is ∙ ap₂ known_as p q

    -- its kind among those of the copies
    own_kind : kinds (ref_of v).name (ref_of v).copy ≡ (ref_of v).kind
    own_kind = sym (ap (part_of (kinds (ref_of v).name (ref_of v).copy)) h.entire) ∙ h.declared

    still_declared : ((ref_of v).kind ≡ kind.Int → ⊥) → IsDeclared K (ref_of v)
    still_declared n =
        ap (part_of (without_int (kinds (ref_of v).name (ref_of v).copy))) h.entire
        ∙ without_is (kinds (ref_of v).name (ref_of v).copy) (ref_of v).kind own_kind n

    abbrev framed_there : frame (whole (key_of (ref_of v))) ≡ stack_array h.decl.storage (declared_kind h.decl)
    framed_there = framed_whole kinds frame v h

    scalar_there : ((ref_of v).kind ≡ kind.Int → ⊥) → stack_array h.decl.storage (declared_kind h.decl) ≡ false → IsScalar K frame (ref_of v)
    scalar_there n e = record { declared = still_declared n; apart = framed_there ∙ e }

    kind_by : (k : known.Kind) → kind_of h.decl.ty ≡ k → declared_kind h.decl ≡ kind_from k (written_length h.decl)
    kind_by k q = decl_kind h.decl ∙ ap (λ x. kind_from x (written_length h.decl)) q

    by_kind : (s : Storage) (k : known.Kind) → h.decl.storage ≡ s → kind_of h.decl.ty ≡ k → may_keep s k ≡ true → is_register_array (known_as s k) ≡ false → inline_int s k ≡ false → IsPlain K frame v
    by_kind storage.Reg (scope.Word z) p q m r i =
        let w = kind_by (scope.Word z) q in
        a_word z (has storage.Reg (scope.Word z) p q) (kind_there ∙ w) (scalar_there (λ e. word_no_int z (sym (kind_there ∙ w) ∙ e)) (ap₂ stack_array p w))
    by_kind storage.Stack (scope.Word z) p q m r i =
        let w = kind_by (scope.Word z) q in
        a_slot z (has storage.Stack (scope.Word z) p q) (kind_there ∙ w) (scalar_there (λ e. word_no_int z (sym (kind_there ∙ w) ∙ e)) (ap₂ stack_array p w))
    by_kind storage.Reg scope.Truth p q m r i =
        let w = kind_by scope.Truth q in
        a_flag (has storage.Reg scope.Truth p q) (kind_there ∙ w) (scalar_there (λ e. bool_no_int (sym (kind_there ∙ w) ∙ e)) (ap₂ stack_array p w))
    by_kind storage.Stack (scope.Array z) p q m r i =
        let a = array_declared h.decl z h.counted q in
        an_array z a.0 (has storage.Stack (scope.Array z) p q) (record {
          is = kind_there ∙ a.1;
          declared = still_declared (λ e. array_no_int z a.0 (sym (kind_there ∙ a.1) ∙ e));
          framed = framed_there ∙ ap₂ stack_array p a.1;
          entire = h.entire;
        })
    by_kind storage.Reg (scope.Array z) p q m r i = absurd (true≢false r)
    by_kind storage.Reg scope.Int p q m r i = absurd (false≢true m)
    by_kind storage.Stack scope.Int p q m r i = absurd (false≢true m)
    by_kind storage.Stack scope.Truth p q m r i = absurd (false≢true m)
    by_kind storage.Inline scope.Int p q m r i = absurd (true≢false i)
    by_kind storage.Inline scope.Truth p q m r i = absurd (false≢true m)
    by_kind storage.Inline (scope.Word z) p q m r i = absurd (false≢true m)
    by_kind storage.Inline (scope.Array z) p q m r i = absurd (false≢true m)

    -- what is neither inline nor an array in registers
    pub plain_seen : is_register_array (known_of v) ≡ false → is_inline_int (known_of v) ≡ false → IsPlain K frame v
    plain_seen r i =
        by_kind h.decl.storage (kind_of h.decl.ty) refl refl h.kept (sym (ap is_register_array known_is) ∙ r) (sym (ap is_inline_int known_is) ∙ i)

    -- ---- a cell of an array in registers
    register_by : (s : Storage) (z : Size) → (if is_register s then cells_of_ty (out-Ty h.decl.ty) else None) ≡ Some z → (k : Kind) → stack_array s k ≡ false
    register_by storage.Reg z e k = refl
    register_by storage.Stack z e k = absurd cc
    register_by storage.Inline z e k = absurd cc

    cell_word : (k : Kind) (z y : Size) (m n : ℕ) → k ≡ kind.Array y m → nat_lt n m ≡ true → z ≡ y → part_of (without_int k) (Some n) ≡ kind.Word z
    cell_word k z y m n e l s = ap (λ x. part_of (without_int x) (Some n)) e ∙ (ap (λ b. if b then kind.Word y else kind.Undeclared) l ∙ ap (λ x. kind.Word x) (sym s))

    pub cell_seen : (z : Size) (n : ℕ) → size_at v ≡ Some z → is_below (ref_of v).kind n ≡ true → IsPlain K frame (scalar v z n)
    cell_seen z n e b =
        let a = below_is (ref_of v).kind n b in
        let s = kind_size v z a.0 a.1 e a.2 in
        let r = scalar_is v z n in
        let w = cell_word (kinds (ref_of v).name (ref_of v).copy) z a.0 a.1 n (own_kind ∙ a.2) a.3 s in
        let o = register_by h.decl.storage z (sym (ap cells_of_decl h.is) ∙ e) (declared_kind h.decl) in
        a_word z known_scalar (ap (λ (x : Ref). x.kind) r) (subst (IsScalar K frame) (sym r) (record { declared = w; apart = framed_there ∙ o }))
      where
        word_ty : kind_of (ty.Word z) ≡ scope.Word z
        word_ty = ap (λ t. kind_of t) (sym (ty.rolls-Word z)) ∙ ap kind_step (out-roll-Ty (Ty-F.Word z))

        known_scalar : known_of (scalar v z n) ≡ Some (record { storage = storage.Reg; kind = scope.Word z })
        known_scalar = ap (λ (x : Var-F Expr Ty Access Decl Var). option_map declared_of x.decl) (out-roll-Var _) ∙ ap (known_as storage.Reg) word_ty
