-- The arguments and results of a call in a typed program.
use Rattle.std.proofs.Common.{◌≡◌, ℕ, ℤ, pos, ◌≤◌, Bool, true, false, not, ◌||◌, List, [], ◌∷◌, Option, Some, None, map, refl, sym, ap, ◌∙◌, subst, inl, inr, if◌then◌else◌, arith}
use Rattle.std.specs.Prelude.{◌⊎◌, All, option_map}
use Rattle.std.specs.Ordering.{int_eq}
use Rattle.std.specs.List.{zip}
use Rattle.std.proofs.lemmas.Bool.{and_parts, false≢true, and_from}
use Rattle.std.proofs.lemmas.Bool.Decides.{Decides-int_eq}
use Rattle.std.proofs.lemmas.List.Elements.{All-head, All-tail}
use Rattle.jz_tree.specs.Span.{Span}
use Rattle.jz_tree.specs.Size.{Size}
use Rattle.jz_tree.specs.declared.expr.BinOp.{BinOp}
use Rattle.jz_tree.specs.declared.expr.BinOp.TheVariants as op
use Rattle.jz_tree.specs.declared.expr.Storage.{Storage}
use Rattle.jz_tree.specs.declared.expr.Storage.TheVariants as storage
use Rattle.jz_tree.specs.declared.expr.Expr.{Expr}
use Rattle.jz_tree.specs.declared.expr.Expr.TheVariants as expr
use Rattle.jz_tree.specs.declared.expr.Ty.{Ty}
use Rattle.jz_tree.specs.declared.expr.Access.{Access}
use Rattle.jz_tree.specs.declared.expr.Decl.{Decl}
use Rattle.jz_tree.specs.declared.expr.Var.{Var}
use Rattle.jz_tree.specs.declared.expr.Expr.TheOpen.{Expr-F, Var-F}
use Rattle.jz_tree.specs.declared.expr.Expr.TheViews.{out-Expr, out-Access, out-Var, roll-Expr, out-roll-Expr, out-roll-Var}
use Rattle.jz_tree.specs.declared.expr.Expr.TheFolds.{map-Expr, ind-Expr}
use Rattle.jz_tree.specs.declared.stmt.Lval.{Lval}
use Rattle.jz_tree.specs.declared.stmt.Lval.TheVariants as lval
use Rattle.jz_tree.specs.declared.program.Fun.{Fun}
use Rattle.jz_tree.specs.declared.program.Param.{Param}
use Rattle.jz_tree.specs.declared.program.Ret.{Ret}
use Rattle.jz_tree.specs.declared.program.Program.{Program}
use Rattle.jz_row_laws.specs.Operands.{dest_of}
use Rattle.jz_row_laws.specs.Rows.{is_rmi}
use Rattle.jz_type_names.specs.declared.kinds.Kind as known
use Rattle.jz_type_names.specs.declared.kinds.Kind.TheVariants as scope
use Rattle.jz_type_names.specs.Kinds.{Known, declared_of, known_of, kind_of, is_array_kind, is_word_kind, is_word, same_storage, same_kind, same_size, written_length, whole_array}
use Rattle.jz_type_names.specs.Kinds as names
use Rattle.jz_run_laws.specs.Declarations.{may_pass, may_return, is_passed, is_returned}
use Rattle.jz_type_sizes.specs.declared.operators.Group.{Group}
use Rattle.jz_type_sizes.specs.declared.operators.Group.TheVariants as group
use Rattle.jz_type_sizes.specs.Operators.{group_of}
use Rattle.jz_type_sizes.specs.Calls.{same_length, same_decl, agrees, is_declared}
use Rattle.jz_type_names.specs.Parts.{is_skip}
use Rattle.jz_run_laws.specs.Callees.{of_callee, entered_by, left_by}
use Rattle.jz_run_laws.specs.Matching.{is_word_value, word_layer}
use Rattle.jz_judgement.specs.Places.{Place, integer, truth, word, TakesWord, TakesCarry, count_place}
use Rattle.jz_judgement.specs.HasType as judged
use Rattle.jz_judgement.specs.HasType.{value, HasType, Types, Accesses, Operates}
use Rattle.jz_judgement.specs.WellTyped.{InPairs, PassedAs, PassedBy, Passed, GivenAs, Given, Returned}
use Rattle.jz_judgement.specs.WellTyped as typed
use Rattle.jz_judgement.proofs.Nothing.{size_same, none_not, same_some}
use Rattle.jz_run_laws.specs.Guarantees.{Enters, Leaves}
use Rattle.jz_run_laws.specs.Carried.{vars_in}
use Rattle.jz_meaning.specs.declared.access.Kind.TheVariants as kind
use Rattle.jz_meaning.specs.Values.{ref_of}
use Rattle.jz_tree.specs.Operators.{joins}
use Rattle.jz_meaning.specs.Shapes.{Sorts}
use Rattle.jz_meaning.specs.Statements as meaning
use Rattle.jz_run_laws.proofs.Sizes.{types_of}
use Rattle.jz_bodies.specs.Scopes.{Scope}
use Rattle.jz_bodies.specs.Calls.{is_array, IsArgument, of_array, of_value, AreArguments, IsFixed, IsResult, AreResults}
use Rattle.jz_bodies.specs.Declared.{scopes_in}
use Rattle.jz_bodies.proofs.Refs.{array_declared}
use Rattle.jz_bodies.proofs.Variables.{IsVariable, kind_is, known_is, plain_is, array_is}
use Rattle.jz_texts.proofs.Variables.{layer_vars}
use Rattle.jz_bodies.proofs.Reading.{vars_is, reads, has_scalar, has_array}
use Rattle.jz_bodies.proofs.Writing.{sets_scalar, sorted, array_words, IsUsed, holds_is, writes}
use Rattle.jz_row_laws.proofs.Fixed.{Layer, Fixed, FixedLayer, HasClass, both_fixed, fixed_rolled, cell_fixed, mem_fixed}
use Rattle.jz_bodies.proofs.Lending.{Found, AllFound}
use Rattle.jz_row_laws.proofs.Copied.{copied_fixed, copied_place}

-- ---- equal declarations

not_zero : (n : ℕ) → 1 ≤ n → int_eq (pos n) (pos 0) ≡ true → ⊥
not_zero n h e = let z : n ≡ 0 = one_pos n 0 ((Decides-int_eq (pos n) (pos 0)).0 e) in omega (arith, h, z)
  where
    one_pos : (a b : ℕ) → ◌≡◌ {A = ℤ} (pos a) (pos b) → a ≡ b
    one_pos a b e = cc

lengths_same : (n m : ℕ) → 1 ≤ n → 1 ≤ m → same_length (Some (pos n)) (Some (pos m)) ≡ true → n ≡ m
lengths_same n m a b h = one_pos n m ((Decides-int_eq (pos n) (pos m)).0 (third (int_eq (pos n) (pos 0)) (int_eq (pos m) (pos 0)) (int_eq (pos n) (pos m)) (not_zero n a) (not_zero m b) h))
  where
    one_pos : (a b : ℕ) → ◌≡◌ {A = ℤ} (pos a) (pos b) → a ≡ b
    one_pos a b e = cc

    third : (a b c : Bool) → (a ≡ true → ⊥) → (b ≡ true → ⊥) → (a || b || c) ≡ true → c ≡ true
    third true b c f g h = absurd (f refl)
    third false true c f g h = absurd (g refl)
    third false false c f g h = h

abbrev pub Parts : Decl → Decl → Type 0
Parts c d = (same_storage c.storage d.storage ≡ true) × (same_kind (kind_of c.ty) (kind_of d.ty) ≡ true) × (same_length (written_length c) (written_length d) ≡ true)

decl_parts : (c d : Decl) → same_decl c d ≡ true → Parts c d
decl_parts c d h =
    let x = and_parts (same_storage c.storage d.storage) _ h in
    let y = and_parts (same_kind (kind_of c.ty) (kind_of d.ty)) (same_length (written_length c) (written_length d)) x.1 in
    (x.0, y.0, y.1)

array_same : (z : Size) (k : known.Kind) → same_kind (scope.Array z) k ≡ true → k ≡ scope.Array z
array_same z scope.Int h = absurd (false≢true h)
array_same z scope.Truth h = absurd (false≢true h)
array_same z (scope.Word y) h = absurd (false≢true h)
array_same z (scope.Array y) h = ap (λ x. scope.Array x) (sym (size_same z y h))

pub word_same : (z : Size) (k : known.Kind) → same_kind (scope.Word z) k ≡ true → k ≡ scope.Word z
word_same z scope.Int h = absurd (false≢true h)
word_same z scope.Truth h = absurd (false≢true h)
word_same z (scope.Word y) h = ap (λ x. scope.Word x) (sym (size_same z y h))
word_same z (scope.Array y) h = absurd (false≢true h)

-- a variable that is declared so
pub declared_parts : (q : Program) (f : Fun) (c : Decl) (v : Var) (h : IsVariable q f v) → is_declared c v ≡ true → Parts c h.decl
declared_parts q f c v h e = decl_parts c h.decl (subst (λ o. agrees c o ≡ true) h.is e)

-- ---- an array that is an argument

abbrev var_made : Var → Layer
var_made x = Expr-F.Var x

array_var : (x : Layer) (v : Var) → names.array_layer x ≡ Some v → x ≡ Expr-F.Var v
array_var (Expr-F.Num n at) v e = absurd (none_not v e)
array_var (Expr-F.Expr::Bool b at) v e = absurd (none_not v e)
array_var (Expr-F.Var w) v e = ap var_made (by_test (names.is_array (known_of w)) e)
  where
    by_test : (b : Bool) → (if b then Some w else None) ≡ Some v → w ≡ v
    by_test true e = same_some w v e
    by_test false e = absurd (none_not v e)
array_var (Expr-F.Cell w i) v e = absurd (none_not v e)
array_var (Expr-F.Load a) v e = absurd (none_not v e)
array_var (Expr-F.Neg a at) v e = absurd (none_not v e)
array_var (Expr-F.Not a at) v e = absurd (none_not v e)
array_var (Expr-F.Cast z s a at) v e = absurd (none_not v e)
array_var (Expr-F.Bin o a b at) v e = absurd (none_not v e)

pub array_out : (e : Expr) (v : Var) → names.array_of e ≡ Some v → out-Expr e ≡ Expr-F.Var v
array_out e v h = array_var (out-Expr e) v h

pub array_passed : (e : Expr) (v : Var) → names.array_of e ≡ Some v → meaning.array_of e ≡ Some (ref_of v)
array_passed e v h = ap meaning.array_layer (array_out e v h)

pub array_used : (P : Var → Type 0) (e : Expr) (v : Var) → names.array_of e ≡ Some v → All P (vars_in e) → P v
unfolding layer_vars
array_used P e v h all = All-head P v [] (subst (All P) (vars_is e ∙ ap layer_vars (array_out e v h)) all)

-- ---- whole numbers

abbrev NoJoin : BinOp → Type 0
NoJoin o = joins o ≡ false

no_logic : (g : Group) → group.Logic ≡ g → g ≡ group.Arith ⊎ (g ≡ group.Shift) → ⊥
no_logic g e (inl f) = clash (e ∙ f)
  where
    clash : group.Logic ≡ group.Arith → ⊥
    clash e = cc
no_logic g e (inr f) = clash (e ∙ f)
  where
    clash : group.Logic ≡ group.Shift → ⊥
    clash e = cc

group_join : (o : BinOp) → (group_of o ≡ group.Arith) ⊎ (group_of o ≡ group.Shift) → NoJoin o
group_join op.AndThen e = absurd (no_logic group.Logic refl e)
group_join op.OrElse e = absurd (no_logic group.Logic refl e)
group_join o e = refl

not_integer : truth ≡ integer → ⊥
not_integer e = cc

word_not_integer : (z : Size) → word z ≡ integer → ⊥
word_not_integer z e = cc

module _ (sorts : Sorts) where
  abbrev IntegerLaw : Expr → Type 0
  IntegerLaw e = HasType (value e) integer → Fixed sorts e

  abbrev Proved : Type 0
  Proved = Expr-F ((e : Expr) × IntegerLaw e) (Ty × Unit {0}) (Access × Unit {0}) (Decl × Unit {0}) (Var × Unit {0})

  abbrev bare : Proved → Layer
  bare y = map-Expr _ _ _ _ _ Expr Ty Access Decl Var (λ e. e.0) (λ e. e.0) (λ e. e.0) (λ e. e.0) (λ e. e.0) y

  operation_integer : (o : BinOp) (a b : Expr) (at : Span) (p : Place) → p ≡ integer → Operates o (value a) (value b) p → IntegerLaw a → IntegerLaw b → FixedLayer sorts (Expr-F.Bin o a b at)
  operation_integer o a b at p e (judged.arithmetic g t k x y) f h =
      both_fixed sorts o a b at (group_join o (inl g)) (f (subst (HasType (value a)) e x)) (h (subst (HasType (value b)) e y))
  operation_integer o a b at p e (judged.carry s t x y) f h = absurd (subst TakesCarry e t)
  operation_integer o a b at p e (judged.shift g t k x y) f h =
      both_fixed sorts o a b at (group_join o (inr g)) (f (subst (HasType (value a)) e x)) (h (subst (λ w. HasType (value b) (count_place w)) e y))
  operation_integer o a b at p e (judged.integers g k x y) f h = absurd (not_integer e)
  operation_integer o a b at p e (judged.words z g s x y) f h = absurd (not_integer e)
  operation_integer o a b at p e (judged.logic g x y) f h = absurd (not_integer e)

  access_integer : (a : Access) (p : Place) → p ≡ integer → Accesses (out-Access a) p → ⊥
  access_integer a p e (judged.sized z s t x) = subst (TakesWord z) e t
  access_integer a p e (judged.bare {z = z} s x) = word_not_integer z e

  layer_integer : (y : Proved) (p : Place) → p ≡ integer → Types (bare y) p → FixedLayer sorts (bare y)
  layer_integer (Expr-F.Num n at) p e t = refl
  layer_integer (Expr-F.Expr::Bool b at) p e t = refl
  layer_integer (Expr-F.Var v) p e t = refl
  layer_integer (Expr-F.Cell v i) p e (judged.cell z g w x) = absurd (subst (TakesWord z) e w)
  layer_integer (Expr-F.Load a) p e (judged.load x) = absurd (access_integer a.0 p e x)
  layer_integer (Expr-F.Neg a at) p e (judged.negated k x) = a.1 (subst (HasType (value a.0)) e x)
  layer_integer (Expr-F.Not a at) p e (judged.inverted x) = a.1 (subst (HasType (value a.0)) e x)
  layer_integer (Expr-F.Cast z s a at) p e (judged.cast y t says x) = absurd (subst (TakesWord z) e t)
  layer_integer (Expr-F.Bin o a b at) p e (judged.operation x) = operation_integer o a.0 b.0 at p e x a.1 b.1

  integer_case : (y : Proved) → IntegerLaw (roll-Expr (bare y))
  integer_case y t =
      fixed_rolled sorts (bare y) (layer_integer y integer refl (subst (λ x. Types x integer) (out-roll-Expr (bare y)) (types_of (roll-Expr (bare y)) integer t)))

  pub integer_fixed : (e : Expr) → IntegerLaw e
  integer_fixed =
      ind-Expr IntegerLaw (λ t. Unit {0}) (λ a. Unit {0}) (λ d. Unit {0}) (λ v. Unit {0})
      (λ x y is. subst (λ z. IntegerLaw (roll-Expr z)) is (integer_case y))
      (λ x y is. tt)
      (λ x y is. tt)
      (λ x y is. tt)
      (λ x y is. tt)

-- ---- words that are copied

var_layer : (v : Var) → out-Expr (expr.Var v) ≡ Expr-F.Var v
var_layer v = ap out-Expr (sym (expr.rolls-Var v)) ∙ out-roll-Expr (Expr-F.Var v)

known_copy : (v : Var) → known_of (of_callee v) ≡ known_of v
known_copy v = ap (λ (y : Var-F Expr Ty Access Decl Var). option_map declared_of y.decl) (out-roll-Var (record (out-Var v) { copy = 1 }))

word_passed : (s : Storage) (z : Size) → may_pass s (scope.Word z) ≡ true → not (same_storage s storage.Inline) ≡ true
word_passed storage.Reg z h = refl
word_passed storage.Stack z h = refl
word_passed storage.Inline z h = absurd (false≢true h)

word_returned : (s : Storage) (z : Size) → may_return s (scope.Word z) ≡ true → not (same_storage s storage.Inline) ≡ true
word_returned storage.Reg z h = refl
word_returned storage.Stack z h = refl
word_returned storage.Inline z h = absurd (false≢true h)

no_bool_passed : (s : Storage) → may_pass s scope.Truth ≡ true → ⊥
no_bool_passed s h = false≢true h

no_bool_returned : (s : Storage) → may_return s scope.Truth ≡ true → ⊥
no_bool_returned storage.Reg h = false≢true h
no_bool_returned storage.Stack h = false≢true h
no_bool_returned storage.Inline h = false≢true h

no_number_returned : (s : Storage) → may_return s scope.Int ≡ true → ⊥
no_number_returned storage.Reg h = false≢true h
no_number_returned storage.Stack h = false≢true h
no_number_returned storage.Inline h = false≢true h

kept_apart : (s t : Storage) → same_storage s t ≡ true → not (same_storage s storage.Inline) ≡ true → not (same_storage t storage.Inline) ≡ true
kept_apart storage.Reg storage.Reg e h = refl
kept_apart storage.Stack storage.Stack e h = refl
kept_apart storage.Inline storage.Inline e h = absurd (false≢true h)
kept_apart s t e h = absurd (false≢true e)

word_known : (s : Storage) (k : known.Kind) (z : Size) → not (same_storage s storage.Inline) ≡ true → k ≡ scope.Word z → is_word (Some (record { storage = s; kind = k })) ≡ true
word_known s k z h e = and_from (not (same_storage s storage.Inline)) (is_word_kind k) h (ap is_word_kind e)

-- ---- one call
module _ (q : Program) (f g : Fun) (own : All (λ p. IsVariable q f p.var) f.params) where
  abbrev X : Scope
  X = scopes_in q f

  abbrev G : Scope
  G = scopes_in q g

  abbrev E : Expr → Type 0
  E e = All (IsVariable q f) (vars_in e)

  -- an array that is passed is a variable with the type of its parameter
  module _ (p : Param) (e : Expr) (h : IsVariable q g p.var) (used : E e) where
    array_kinds : (z : Size) → kind_of h.decl.ty ≡ scope.Array z → (v : Var) → names.array_of e ≡ Some v → is_declared h.decl v ≡ true
        → IsVariable q f v × ((n : ℕ) × ((ref_of p.var).kind ≡ kind.Array z n) × ((ref_of v).kind ≡ kind.Array z n))
    array_kinds z k v there same =
        let hv = array_used (IsVariable q f) e v there used in
        let parts = declared_parts q f h.decl v hv same in
        let kv = array_same z (kind_of hv.decl.ty) (subst (λ x. same_kind x (kind_of hv.decl.ty) ≡ true) k parts.1) in
        let a = array_declared h.decl z h.counted k in
        let b = array_declared hv.decl z hv.counted kv in
        let length = lengths_same a.0 b.0 a.3 b.3 (same_lengths (written_length h.decl) (written_length hv.decl) a.0 b.0 a.2 b.2 parts.2) in
        (hv, (a.0, kind_is q g p.var h ∙ a.1, kind_is q f v hv ∙ (b.1 ∙ ap (λ n. kind.Array z n) (sym length))))
      where
        same_lengths : (l m : Option ℤ) (a b : ℕ) → l ≡ Some (pos a) → m ≡ Some (pos b) → same_length l m ≡ true → same_length (Some (pos a)) (Some (pos b)) ≡ true
        same_lengths l m a b x y h = subst (λ w. same_length w (Some (pos b)) ≡ true) x (subst (λ w. same_length l w ≡ true) y h)

    abbrev Same : Var → Type 0
    Same v = IsVariable q f v × ((ref_of v).kind ≡ (ref_of p.var).kind)

    found_by : (k : known.Kind) → kind_of h.decl.ty ≡ k → PassedAs k h.decl e → is_array (ref_of p.var).kind ≡ true
        → (v : Var) × (names.array_of e ≡ Some v) × (meaning.array_of e ≡ Some (ref_of v)) × Same v
    found_by scope.Int k t a = absurd (false≢true (sym (plain_is q g p.var h (ap is_array_kind k)) ∙ a))
    found_by scope.Truth k t a = absurd (false≢true (sym (plain_is q g p.var h (ap is_array_kind k)) ∙ a))
    found_by (scope.Word z) k t a = absurd (false≢true (sym (plain_is q g p.var h (ap is_array_kind k)) ∙ a))
    found_by (scope.Array z) k t a =
        let x = array_kinds z k t.0 t.1 t.2 in
        let y = x.1 in
        (t.0, t.1, array_passed e t.0 t.1, (x.0, y.2 ∙ sym y.1))

    found_one : Passed p e → Found (λ p v. IsVariable q f v × ((ref_of v).kind ≡ (ref_of p.var).kind)) p e
    found_one t a = found_by (kind_of h.decl.ty) refl (subst (λ o. PassedBy o e) h.is t) a

  pub all_found : (ps : List Param) (es : List Expr) → InPairs Passed ps es → All (λ p. IsVariable q g p.var) ps → All E es → AllFound (λ p v. IsVariable q f v × ((ref_of v).kind ≡ (ref_of p.var).kind)) ps es
  all_found [] [] typed.none h u = tt
  all_found [] (e ∷ es) t h u = elim t [ ]
  all_found (p ∷ ps) [] t h u = elim t [ ]
  all_found (p ∷ ps) (e ∷ es) (typed.next t ts) h u =
      (found_one p e (All-head (λ (p : Param). IsVariable q g p.var) p ps h) (All-head E e es u) t, all_found ps es ts (All-tail (λ (p : Param). IsVariable q g p.var) p ps h) (All-tail E e es u))

  -- an argument, by the kind of its parameter
  module _ (p : Param) (e : Expr) (h : IsVariable q g p.var) (used : E e) (enters : Enters (entered_by p, e)) (owned : All (λ p. IsVariable q g p.var) g.params) where
    abbrev d : Decl
    d = h.decl

    value_argument : (place : Place) → is_array_kind (kind_of d.ty) ≡ false → HasType (value e) place → Fixed X.sorts e → IsArgument X G (ref_of p.var) e
    value_argument place k t fixed =
        let plain = plain_is q g p.var h k in
        of_value plain h.cell (reads q f e place t used) fixed (sets_scalar q g owned p.var h plain) (sorted q g owned p.var h)

    array_argument : (z : Size) → kind_of d.ty ≡ scope.Array z → (v : Var) → names.array_of e ≡ Some v → is_declared d v ≡ true → IsArgument X G (ref_of p.var) e
    array_argument z k v there same =
        let a = array_kinds p e h used z k v there same in
        let b = a.1 in
        of_array b.1 (array_passed e v there) b.2 (has_array q f v a.0 (ap is_array b.2)) (array_words q f own v z b.0 a.0 b.2) (array_words q g owned p.var z b.0 h b.1) (has_array q g p.var h (ap is_array b.1))

    word_fixed : (z : Size) → kind_of d.ty ≡ scope.Word z → may_pass d.storage (scope.Word z) ≡ true → Fixed X.sorts e
    word_fixed z k kept =
        let known_so = known_copy p.var ∙ known_is q g p.var h in
        let row = enters (ap is_word known_so ∙ word_known d.storage (kind_of d.ty) z (word_passed d.storage z kept) k) in
        copied_fixed X.sorts (entered_by p) e row.0 row.1

    argument_by : (k : known.Kind) → kind_of d.ty ≡ k → may_pass d.storage k ≡ true → PassedAs k d e → IsArgument X G (ref_of p.var) e
    argument_by scope.Int k kept t = value_argument integer (ap is_array_kind k) t (integer_fixed X.sorts e t)
    argument_by scope.Truth k kept t = absurd (no_bool_passed d.storage kept)
    argument_by (scope.Word z) k kept t = value_argument (word z) (ap is_array_kind k) t (word_fixed z k kept)
    argument_by (scope.Array z) k kept t = array_argument z k t.0 t.1 t.2

    argument_is : is_passed (declared_of d) ≡ true → Passed p e → IsArgument X G (ref_of p.var) e
    argument_is kept t = argument_by (kind_of d.ty) refl kept (subst (λ o. PassedBy o e) h.is t)

  module _ (owned : All (λ p. IsVariable q g p.var) g.params) where
    abbrev MayPass : Param → Type 0
    MayPass p = (d : Decl) → (out-Var p.var).decl ≡ Some d → is_passed (declared_of d) ≡ true

    pub arguments_are : (ps : List Param) (es : List Expr) → InPairs Passed ps es → All (λ p. IsVariable q g p.var) ps → All MayPass ps → All E es → All Enters (zip (map entered_by ps) es) → AreArguments X G ps es
    arguments_are [] [] typed.none h k u r = tt
    arguments_are [] (e ∷ es) t h k u r = elim t [ ]
    arguments_are (p ∷ ps) [] t h k u r = elim t [ ]
    arguments_are (p ∷ ps) (e ∷ es) (typed.next t ts) h k u r =
        let v = All-head (λ (p : Param). IsVariable q g p.var) p ps h in (
          argument_is p e v (All-head E e es u) (All-head Enters (entered_by p, e) (zip (map entered_by ps) es) r) owned (All-head MayPass p ps k v.decl v.is) t,
          arguments_are ps es ts (All-tail (λ (p : Param). IsVariable q g p.var) p ps h) (All-tail MayPass p ps k) (All-tail E e es u) (All-tail Enters (entered_by p, e) (zip (map entered_by ps) es) r),
        )

    -- ---- results
    module _ (r : Ret) (d : Lval) (v : Var) (h : IsVariable q g v) (used : IsUsed q f own d) (leaves : Leaves (left_by v, d)) where
      place_fixed : (to : Lval) → HasClass (dest_of to) → IsFixed X G to
      place_fixed (lval.Skip at) c = tt
      place_fixed (lval.Var w) c = tt
      place_fixed (lval.Cell w i) c = cell_fixed X.sorts w i c
      place_fixed (lval.Store a) c = mem_fixed X.sorts (out-Access a).size (out-Access a).at c

      by_row : (to : Lval) → d ≡ to → is_skip to ≡ false → is_word_value (left_by v) ≡ true → IsFixed X G to
      by_row to e n w =
          let row = leaves w (ap is_skip e ∙ n) in
          place_fixed to (ap (λ x. is_rmi (dest_of x)) (sym e) ∙ copied_place d (of_callee v) row.0 row.1)

      left_fixed : (to : Lval) → d ≡ to → is_word_value (left_by v) ≡ true → IsFixed X G to
      left_fixed (lval.Skip at) e w = tt
      left_fixed (lval.Var y) e w = tt
      left_fixed (lval.Cell y i) e w = by_row (lval.Cell y i) e refl w
      left_fixed (lval.Store a) e w = by_row (lval.Store a) e refl w

      result_by : (k : known.Kind) → kind_of r.decl.ty ≡ k → may_return r.decl.storage k ≡ true → Parts r.decl h.decl → GivenAs k r.decl d → IsResult X G d v
      result_by scope.Int k kept same t = absurd (no_number_returned r.decl.storage kept)
      result_by scope.Truth k kept same t = absurd (no_bool_returned r.decl.storage kept)
      result_by (scope.Word z) k kept same t =
          let kv = word_same z (kind_of h.decl.ty) (subst (λ x. same_kind x (kind_of h.decl.ty) ≡ true) k same.1) in
          let plain = plain_is q g v h (ap is_array_kind kv) in
          let known_so = known_copy v ∙ known_is q g v h in
          let stored = kept_apart r.decl.storage h.decl.storage same.0 (word_returned r.decl.storage z kept) in
          let valued = ap word_layer (var_layer (of_callee v)) ∙ (ap is_word known_so ∙ word_known h.decl.storage (kind_of h.decl.ty) z stored kv) in
          inr (plain, h.cell, has_scalar q g v h plain, writes q f own d used (holds_is d (word z) t.1 t.0), left_fixed d refl valued)
      result_by (scope.Array z) k kept same t =
          let kv = array_same z (kind_of h.decl.ty) (subst (λ x. same_kind x (kind_of h.decl.ty) ≡ true) k same.1) in
          inl (ap is_array (array_is q g v h z kv).1)

      result_is : is_returned (declared_of r.decl) ≡ true → Given r d → Returned r v → IsResult X G d v
      result_is kept t same = result_by (kind_of r.decl.ty) refl kept (declared_parts q g r.decl v h same) t

    abbrev MayReturn : Ret → Type 0
    MayReturn r = is_returned (declared_of r.decl) ≡ true

    pub results_are : (rs : List Ret) (ds : List Lval) (vs : List Var) → InPairs Given rs ds → InPairs Returned rs vs → All MayReturn rs → All (IsVariable q g) vs → All (IsUsed q f own) ds → All Leaves (zip (map left_by vs) ds) → AreResults X G ds vs
    results_are [] [] [] typed.none typed.none k h u l = tt
    results_are [] [] (v ∷ vs) t w k h u l = elim w [ ]
    results_are [] (d ∷ ds) vs t w k h u l = elim t [ ]
    results_are (r ∷ rs) [] vs t w k h u l = elim t [ ]
    results_are (r ∷ rs) (d ∷ ds) [] t w k h u l = elim w [ ]
    results_are (r ∷ rs) (d ∷ ds) (v ∷ vs) (typed.next t ts) (typed.next w ws) k h u l = (
      result_is r d v (All-head (IsVariable q g) v vs h) (All-head (IsUsed q f own) d ds u) (All-head Leaves (left_by v, d) (zip (map left_by vs) ds) l) (All-head MayReturn r rs k) t w,
      results_are rs ds vs ts ws (All-tail MayReturn r rs k) (All-tail (IsVariable q g) v vs h) (All-tail (IsUsed q f own) d ds u) (All-tail Leaves (left_by v, d) (zip (map left_by vs) ds) l),
    )
