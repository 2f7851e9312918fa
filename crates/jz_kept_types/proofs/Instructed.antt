-- Instructions keep their types, and so the size that they have by their results and operands.
use Rattle.std.proofs.Common.{◌≡◌, List, [], ◌∷◌, map, Option, Some, None, Bool, true, false, refl, sym, ap, ap₂, ◌∙◌, subst, inl, inr, if◌then◌else◌}
use Rattle.std.specs.Prelude.{◌||◌, is_some, All}
use Rattle.std.specs.Option.{option_or}
use Rattle.std.proofs.lemmas.Bool.{and_parts, false≢true}
use Rattle.std.proofs.lemmas.List.Elements.{All-nil, All-cons, All-head, All-tail}
use Rattle.jz_tree.specs.Size.{Size}
use Rattle.jz_tree.specs.Size.TheVariants as sizes
use Rattle.jz_tree.specs.declared.expr.BinOp.{BinOp}
use Rattle.jz_tree.specs.declared.expr.Storage.{Storage}
use Rattle.jz_tree.specs.declared.expr.Storage.TheVariants as storage
use Rattle.jz_tree.specs.declared.expr.Expr.{Expr}
use Rattle.jz_tree.specs.declared.expr.Var.{Var}
use Rattle.jz_tree.specs.declared.expr.Expr.TheOpen.{Expr-F}
use Rattle.jz_tree.specs.declared.expr.Expr.TheViews.{out-Expr}
use Rattle.jz_tree.specs.declared.stmt.Lval.{Lval}
use Rattle.jz_type_names.specs.declared.kinds.Kind.{Kind}
use Rattle.jz_type_names.specs.declared.kinds.Kind.TheVariants as kind
use Rattle.jz_type_names.specs.Kinds.{Known, known_of, inline_int, is_inline_int, is_inline, is_array, array_layer, array_of}
use Rattle.jz_type_sizes.specs.declared.operators.Group.{Group}
use Rattle.jz_type_sizes.specs.declared.operators.Group.TheVariants as group
use Rattle.jz_type_sizes.specs.declared.signatures.Role.{Role}
use Rattle.jz_type_sizes.specs.declared.signatures.Role.TheVariants as role
use Rattle.jz_type_sizes.specs.Wants.{known_size, cell_size}
use Rattle.jz_type_sizes.specs.Operators.{group_of}
use Rattle.jz_type_sizes.specs.Worded.{worded_group, is_worded}
use Rattle.jz_type_sizes.specs.Typings.{typing}
use Rattle.jz_type_sizes.specs.Sides.{left_form}
use Rattle.jz_type_sizes.specs.Signatures.{Signature}
use Rattle.jz_type_sizes.specs.Intrinsics.{value_size, result_size, argument_size, size_of_intrinsic}
use Rattle.jz_judgement.specs.Places.{Place, word, unsized, IsWordOf, WordKind, IsArrayOf}
use Rattle.jz_judgement.specs.HasType as judged
use Rattle.jz_judgement.specs.HasType.{Layer, value, Says, LayerSays, OperandSays, HasType, Types, Operates}
use Rattle.jz_judgement.specs.Lefts.{IsSound}
use Rattle.jz_judgement.specs.WellTyped as well
use Rattle.jz_judgement.specs.WellTyped.{InPairs, Operand, Output, Instructs}
use Rattle.jz_judgement.proofs.Variables.{array_sized, word_sized, inline_size}
use Rattle.jz_judgement.proofs.Agreeing.{Agrees}
use Rattle.jz_judgement.proofs.Expressions.{judged_of}
use Rattle.jz_unroll.proofs.InlineParts.{inline_layer, inline_out}
use Rattle.jz_kept_types.proofs.Worded.{worded_layer, worded_out}
use Rattle.jz_kept_types.proofs.Turning.{Turns, t_number, t_truth, t_variable, t_cell, t_scalar, t_load, t_minus, t_denial, t_cast, t_two, LeftTurns, l_nothing, l_variable, l_cell, l_scalar, l_store, IsTurning, says_none, says_kept, type_kept}
use Rattle.jz_kept_types.proofs.Assigned.{holds_kept, leaves_there, flag_kept, sound_there}

-- ---- declarations
word_kinds : (y z : Size) (k : Kind) → WordKind y k → WordKind z k → y ≡ z
word_kinds y z (kind.Word x) a b = sym a ∙ b
word_kinds y z kind.Int a b = absurd a
word_kinds y z kind.Truth a b = absurd a
word_kinds y z (kind.Array x) a b = absurd a

one_word : (y z : Size) (k : Known) → IsWordOf y k → IsWordOf z k → y ≡ z
one_word y z None a b = absurd a
one_word y z (Some d) a b = word_kinds y z d.kind a b

array_kind_size : (k : Known) → is_array k ≡ true → known_size k ≡ None
array_kind_size None h = refl
array_kind_size (Some d) h = by_kind d.kind h
  where
    by_kind : (k : Kind) → is_array (Some (record { storage = d.storage; kind = k })) ≡ true → known_size (Some (record { storage = d.storage; kind = k })) ≡ None
    by_kind kind.Int h = refl
    by_kind kind.Truth h = refl
    by_kind (kind.Word z) h = absurd (false≢true h)
    by_kind (kind.Array z) h = refl

array_not_inline : (s : Storage) (k : Kind) → is_array (Some (record { storage = s; kind = k })) ≡ true → inline_int s k ≡ false
array_not_inline storage.Inline (kind.Array z) h = refl
array_not_inline storage.Reg (kind.Array z) h = refl
array_not_inline storage.Stack (kind.Array z) h = refl
array_not_inline s kind.Int h = absurd (false≢true h)
array_not_inline s kind.Truth h = absurd (false≢true h)
array_not_inline s (kind.Word z) h = absurd (false≢true h)

known_not_inline : (k : Known) → is_array k ≡ true → is_inline_int k ≡ false
known_not_inline None h = absurd (false≢true h)
known_not_inline (Some d) h = array_not_inline d.storage d.kind h

-- ---- an inline expression is no word
neither : (g : Group) (a b : Bool) → a ≡ false → b ≡ false → worded_group g a b ≡ false
neither group.Shift a b e f = e
neither group.Arith a b e f = ap₂ (λ x y. y || x) e f
neither group.Compare a b e f = refl
neither group.Logic a b e f = refl

mutual
  not_worded : {e : Expr} {p : Place} → HasType (value e) p → is_inline e ≡ true → is_worded e ≡ false
  not_worded {e = e} (judged.expression h) i = worded_out e ∙ not_layer h (sym (inline_out e) ∙ i)

  not_layer : {x : Layer} {p : Place} → Types x p → inline_layer x ≡ true → worded_layer x ≡ false
  not_layer (judged.number k) i = refl
  not_layer judged.bool i = refl
  not_layer (judged.variable {v = v} g) i = ap is_some (inline_size (known_of v) i)
  not_layer (judged.cell z a t h) i = absurd (false≢true i)
  not_layer (judged.load h) i = absurd (false≢true i)
  not_layer (judged.negated k h) i = not_worded h i
  not_layer (judged.inverted h) i = not_worded h i
  not_layer (judged.cast y t s h) i = absurd (false≢true i)
  not_layer (judged.operation {o = o} {a = a} {b = b} h) i = let k = not_both h (and_parts (is_inline a) (is_inline b) i) in neither (group_of o) (is_worded a) (is_worded b) k.0 k.1

  not_both : {o : BinOp} {a b : Expr} {p : Place} → Operates o (value a) (value b) p → (is_inline a ≡ true) × (is_inline b ≡ true) → (is_worded a ≡ false) × (is_worded b ≡ false)
  not_both (judged.arithmetic g t k x y) i = (not_worded x i.0, not_worded y i.1)
  not_both (judged.carry s t x y) i = (not_worded x i.0, not_worded y i.1)
  not_both (judged.shift g t k x y) i = (not_worded x i.0, not_worded y i.1)
  not_both (judged.integers g k x y) i = (not_worded x i.0, not_worded y i.1)
  not_both (judged.words z g s x y) i = (not_worded x i.0, not_worded y i.1)
  not_both (judged.logic g x y) i = (not_worded x i.0, not_worded y i.1)

module _ (T : Expr → Expr) (L : Lval → Lval) (K : IsTurning T L) where
  -- ---- sizes that are said behind were said before
  mutual
    says_back : {b : Expr} {z : Size} → Says (value b) z → (e : Expr) → b ≡ T e → Says (value e) z
    says_back {b = b} (judged.expression s) e i =
        elim (K.expressions e) [
          | inl v ↦ absurd (says_none (judged.expression {e = b} s) (ap is_inline i ∙ v.stays))
          | inr t ↦ judged.expression (layer_back s (subst (Turns T (out-Expr e)) (sym (ap out-Expr i)) t))
        ]

    layer_back : {x y : Layer} {z : Size} → LayerSays y z → Turns T x y → LayerSays x z
    layer_back {z = z} (judged.variable w) (t_variable k) = judged.variable (subst (IsWordOf z) k w)
    layer_back {z = z} (judged.variable {v = u} w) (t_scalar {v = v} y a b) = judged.cell (subst (λ s. IsArrayOf s (known_of v)) (one_word y z (known_of u) b w) a)
    layer_back {z = z} (judged.cell w) (t_cell k) = judged.cell (subst (IsArrayOf z) k w)
    layer_back (judged.load w) (t_load k) = judged.load (sym k.size ∙ w)
    layer_back (judged.negated s) (t_minus {a = a}) = judged.negated (says_back s a refl)
    layer_back (judged.inverted s) (t_denial {a = a}) = judged.inverted (says_back s a refl)
    layer_back judged.cast t_cast = judged.cast
    layer_back (judged.operation s) (t_two {a = a} {b = b}) = judged.operation (operand_back s a b refl refl)

    operand_back : {o : BinOp} {c d : Expr} {z : Size} → OperandSays o (value c) (value d) z → (a b : Expr) → c ≡ T a → d ≡ T b → OperandSays o (value a) (value b) z
    operand_back (judged.first g s) a b i j = judged.first g (says_back s a i)
    operand_back (judged.second g s) a b i j = judged.second g (says_back s b j)
    operand_back (judged.shifted g s) a b i j = judged.shifted g (says_back s a i)

  -- ---- the size of a typed expression
  abbrev size_of : Expr → Option Size
  size_of e = (typing e).form.size

  abbrev agree : (e : Expr) → Agrees (typing e) (HasType (value e)) (Says (value e)) (is_inline e)
  agree e = (judged_of e).agrees

  no_size : (o : Option Size) → o ≡ None → is_some o ≡ true → ⊥
  no_size o e h = false≢true (sym (ap is_some e) ∙ h)

  word_same : (e : Expr) (z : Size) → HasType (value e) (word z) → size_of (T e) ≡ size_of e
  word_same e z h = by_sizes (size_of e) (size_of (T e)) refl refl
    where
      kept : HasType (value (T e)) (word z)
      kept = type_kept T L K h

      by_sizes : (o u : Option Size) → size_of e ≡ o → size_of (T e) ≡ u → u ≡ o
      by_sizes None None p q = refl
      by_sizes (Some y) (Some x) p q = ap (λ s. Some s) ((agree (T e)).one x z ((agree (T e)).right (word z) kept) q ∙ sym ((agree e).one y z ((agree e).right (word z) h) p))
      by_sizes (Some y) None p q = absurd (no_size (size_of (T e)) q ((agree (T e)).said y (says_kept T L K ((agree e).says y p))))
      by_sizes None (Some x) p q = absurd (no_size (size_of e) p ((agree e).said x (says_back ((agree (T e)).says x q) e refl)))

  free_same : (e : Expr) → HasType (value e) unsized → size_of (T e) ≡ size_of e
  free_same e h = (agree (T e)).free ((agree (T e)).right unsized (type_kept T L K h)) ∙ sym ((agree e).free ((agree e).right unsized h))

  -- ---- what is a word
  mutual
    worded_kept : {e : Expr} {p : Place} → HasType (value e) p → is_worded (T e) ≡ is_worded e
    worded_kept {e = e} {p = p} (judged.expression h) =
        elim (K.expressions e) [ inl v ↦ not_worded (v.types p (judged.expression h)) v.stays ∙ sym (not_worded {e = e} (judged.expression h) v.inline) | inr t ↦ worded_out (T e) ∙ (layer_worded h t ∙ sym (worded_out e)) ]

    layer_worded : {x y : Layer} {p : Place} → Types x p → Turns T x y → worded_layer y ≡ worded_layer x
    layer_worded (judged.number k) t_number = refl
    layer_worded judged.bool t_truth = refl
    layer_worded (judged.variable g) (t_variable k) = ap (λ s. is_some (known_size s)) k
    layer_worded (judged.cell z a t i) (t_cell k) = ap (λ s. is_some (cell_size s)) k
    layer_worded (judged.cell z a t i) (t_scalar {v = v} {w = u} y b c) = ap is_some (word_sized y (known_of u) c) ∙ sym (ap is_some (array_sized y (known_of v) b))
    layer_worded (judged.load h) (t_load k) = refl
    layer_worded (judged.negated k h) t_minus = worded_kept h
    layer_worded (judged.inverted h) t_denial = worded_kept h
    layer_worded (judged.cast y t s h) t_cast = refl
    layer_worded (judged.operation {o = o} h) t_two = let k = both_worded h in ap₂ (λ x y. worded_group (group_of o) x y) k.0 k.1

    both_worded : {o : BinOp} {a b : Expr} {p : Place} → Operates o (value a) (value b) p → (is_worded (T a) ≡ is_worded a) × (is_worded (T b) ≡ is_worded b)
    both_worded (judged.arithmetic g t k x y) = (worded_kept x, worded_kept y)
    both_worded (judged.carry s t x y) = (worded_kept x, worded_kept y)
    both_worded (judged.shift g t k x y) = (worded_kept x, worded_kept y)
    both_worded (judged.integers g k x y) = (worded_kept x, worded_kept y)
    both_worded (judged.words z g s x y) = (worded_kept x, worded_kept y)
    both_worded (judged.logic g x y) = (worded_kept x, worded_kept y)

  -- ---- an array as an argument stays one
  record IsArrayVariable (e : Expr) : Type 0 where
    variable : Var
    is : out-Expr e ≡ Expr-F.Var variable
    array : is_array (known_of variable) ≡ true

  if_array : (v : Var) → is_some (if is_array (known_of v) then Some v else None) ≡ true → is_array (known_of v) ≡ true
  if_array v h = by_test (is_array (known_of v)) h
    where
      by_test : (b : Bool) → is_some (if b then Some v else None) ≡ true → b ≡ true
      by_test true h = refl
      by_test false h = absurd (false≢true h)

  array_variable : (e : Expr) → is_some (array_of e) ≡ true → IsArrayVariable e
  array_variable e h = by_form (out-Expr e) refl h
    where
      by_form : (l : Layer) → out-Expr e ≡ l → is_some (array_layer l) ≡ true → IsArrayVariable e
      by_form (Expr-F.Var v) s h = record { variable = v; is = s; array = if_array v h }
      by_form (Expr-F.Num n at) s h = absurd (false≢true h)
      by_form (Expr-F.Expr::Bool b at) s h = absurd (false≢true h)
      by_form (Expr-F.Cell v i) s h = absurd (false≢true h)
      by_form (Expr-F.Load a) s h = absurd (false≢true h)
      by_form (Expr-F.Neg a at) s h = absurd (false≢true h)
      by_form (Expr-F.Not a at) s h = absurd (false≢true h)
      by_form (Expr-F.Cast z c a at) s h = absurd (false≢true h)
      by_form (Expr-F.Bin o a b at) s h = absurd (false≢true h)

  array_worded : (e : Expr) → IsArrayVariable e → is_worded e ≡ false
  array_worded e k = worded_out e ∙ (ap worded_layer k.is ∙ ap is_some (array_kind_size (known_of k.variable) k.array))

  variable_turns : {v : Var} {y : Layer} → Turns T (Expr-F.Var v) y → (w : Var) × (y ≡ Expr-F.Var w) × (known_of w ≡ known_of v)
  variable_turns (t_variable {w = w} k) = (w, refl, k)

  array_stays : (e : Expr) → IsArrayVariable e → IsArrayVariable (T e)
  array_stays e k =
      elim (K.expressions e) [
        | inl v ↦ absurd (false≢true (sym (inline_out e ∙ (ap inline_layer k.is ∙ known_not_inline (known_of k.variable) k.array)) ∙ v.inline))
        | inr t ↦ of_turning (variable_turns (subst (λ x. Turns T x (out-Expr (T e))) k.is t))
      ]
    where
      of_turning : (w : Var) × (out-Expr (T e) ≡ Expr-F.Var w) × (known_of w ≡ known_of k.variable) → IsArrayVariable (T e)
      of_turning (w, s, q) = record { variable = w; is = s; array = ap is_array q ∙ k.array }

  array_there : (e : Expr) → IsArrayVariable e → is_some (array_of e) ≡ true
  array_there e k = ap (λ l. is_some (array_layer l)) k.is ∙ ap (λ b. is_some (if b then Some k.variable else None)) k.array

  -- ---- operands
  operand_kept : (z : Option Size) (r : Role) (e : Expr) → Operand z r e → Operand z r (T e)
  operand_kept z r e (inl h) = inl (array_there (T e) (array_stays e (array_variable e h)))
  operand_kept z r e (inr h) = inr (type_kept T L K h)

  abbrev first_size : Bool → Option Size → Option Size → Option Size
  first_size b s rest = if b then s else rest

  value_operand : (z : Option Size) (e : Expr) (rest : Option Size) → Operand z role.Value e → first_size (is_worded (T e)) (size_of (T e)) rest ≡ first_size (is_worded e) (size_of e) rest
  value_operand z e rest (inl h) =
      let k = array_variable e h in
      ap (λ b. first_size b (size_of (T e)) rest) (array_worded (T e) (array_stays e k)) ∙ sym (ap (λ b. first_size b (size_of e) rest) (array_worded e k))
  value_operand None e rest (inr h) = ap₂ (λ b s. first_size b s rest) (worded_kept h) (free_same e h)
  value_operand (Some z) e rest (inr h) = ap₂ (λ b s. first_size b s rest) (worded_kept h) (word_same e z h)

  arguments_same : (z : Option Size) (rs : List Role) (es : List Expr) → InPairs (Operand z) rs es → argument_size rs (map T es) ≡ argument_size rs es
  arguments_same z [] [] well.none = refl
  arguments_same z [] (e ∷ es) x = elim x [ ]
  arguments_same z (role.Value ∷ rs) [] x = elim x [ ]
  arguments_same z (role.Flag ∷ rs) [] x = elim x [ ]
  arguments_same z (role.Count ∷ rs) [] x = elim x [ ]
  arguments_same z (role.Condition ∷ rs) [] x = elim x [ ]
  arguments_same z (role.Address ∷ rs) [] x = elim x [ ]
  arguments_same z (role.Byte ∷ rs) [] x = elim x [ ]
  arguments_same z (role.Value ∷ rs) (e ∷ es) (well.next h k) =
      ap (first_size (is_worded (T e)) (size_of (T e))) (arguments_same z rs es k) ∙ value_operand z e (argument_size rs es) h
  arguments_same z (role.Flag ∷ rs) (e ∷ es) (well.next h k) = arguments_same z rs es k
  arguments_same z (role.Count ∷ rs) (e ∷ es) (well.next h k) = arguments_same z rs es k
  arguments_same z (role.Condition ∷ rs) (e ∷ es) (well.next h k) = arguments_same z rs es k
  arguments_same z (role.Address ∷ rs) (e ∷ es) (well.next h k) = arguments_same z rs es k
  arguments_same z (role.Byte ∷ rs) (e ∷ es) (well.next h k) = arguments_same z rs es k

  operands_kept : (z : Option Size) (rs : List Role) (es : List Expr) → InPairs (Operand z) rs es → InPairs (Operand z) rs (map T es)
  operands_kept z [] [] well.none = well.none
  operands_kept z [] (e ∷ es) x = elim x [ ]
  operands_kept z (r ∷ rs) [] x = elim x [ ]
  operands_kept z (r ∷ rs) (e ∷ es) (well.next h k) = well.next (operand_kept z r e h) (operands_kept z rs es k)

  -- ---- results
  left_size_by : {d b : Lval} → LeftTurns T d b → (left_form b).size ≡ (left_form d).size
  left_size_by l_nothing = refl
  left_size_by (l_variable k) = ap known_size k
  left_size_by (l_cell k) = ap cell_size k
  left_size_by (l_scalar {v = v} {w = u} y a b) = word_sized y (known_of u) b ∙ sym (array_sized y (known_of v) a)
  left_size_by (l_store k) = k.size

  results_same : (rs : List Role) (ds : List Lval) → result_size rs (map L ds) ≡ result_size rs ds
  results_same rs [] = refl
  results_same [] (d ∷ ds) = refl
  results_same (r ∷ rs) (d ∷ ds) = ap₂ option_or (ap (value_size r) (left_size_by (K.lefts d))) (results_same rs ds)

  output_kept : (z : Option Size) (r : Role) (d : Lval) → Output z r d → Output z r (L d)
  output_kept z role.Flag d h = flag_kept T L K d h
  output_kept None role.Value d h = leaves_there T L K d unsized h
  output_kept (Some z) role.Value d h = holds_kept T L K d (word z) h
  output_kept z role.Count d h = holds_kept T L K d (word sizes.S8) h
  output_kept z role.Condition d h = flag_kept T L K d h
  output_kept z role.Address d h = (h.0, holds_kept T L K d (word h.0) h.1)
  output_kept z role.Byte d h = holds_kept T L K d (word sizes.S8) h

  outputs_kept : (z : Option Size) (rs : List Role) (ds : List Lval) → InPairs (Output z) rs ds → InPairs (Output z) rs (map L ds)
  outputs_kept z [] [] well.none = well.none
  outputs_kept z [] (d ∷ ds) x = elim x [ ]
  outputs_kept z (r ∷ rs) [] x = elim x [ ]
  outputs_kept z (r ∷ rs) (d ∷ ds) (well.next h k) = well.next (output_kept z r d h) (outputs_kept z rs ds k)

  sounds_kept : (ds : List Lval) → All IsSound ds → All IsSound (map L ds)
  sounds_kept [] h = All-nil IsSound
  sounds_kept (d ∷ ds) h = All-cons IsSound (L d) (map L ds) (sound_there T L K d (All-head IsSound d ds h)) (sounds_kept ds (All-tail IsSound d ds h))

  -- ---- instructions
  pub size_kept : (g : Signature) (to : List Lval) (args : List Expr) → Instructs (Some g) to args → size_of_intrinsic g (map L to) (map T args) ≡ size_of_intrinsic g to args
  size_kept g to args (well.instance_of r a) = ap (option_or g.size) (ap₂ option_or (results_same g.results to) (arguments_same (size_of_intrinsic g to args) g.arguments args a))

  pub instructs_kept : (g : Option Signature) (to : List Lval) (args : List Expr) → Instructs g to args → Instructs g (map L to) (map T args)
  instructs_kept None to args (well.unknown h) = well.unknown (sounds_kept to h)
  instructs_kept (Some g) to args (well.instance_of r a) =
      let z : Option Size = size_of_intrinsic g to args in
      let e : size_of_intrinsic g (map L to) (map T args) ≡ z = size_kept g to args (well.instance_of r a) in
      well.instance_of (subst (λ k. InPairs (Output k) g.results (map L to)) (sym e) (outputs_kept z g.results to r)) (subst (λ k. InPairs (Operand k) g.arguments (map T args)) (sym e) (operands_kept z g.arguments args a))
