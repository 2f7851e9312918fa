-- The size that a masked count of a shift or a rotation goes by is the size of the instruction.
use Rattle.std.proofs.Common.{◌≡◌, Bool, true, false, ◌||◌, List, [], ◌∷◌, ◌++◌, Option, Some, None, refl, sym, ap, ◌∙◌, subst, inl, inr, if◌then◌else◌}
use Rattle.std.specs.Prelude.{◌⊎◌, All}
use Rattle.std.specs.Option.{option_or}
use Rattle.std.proofs.lemmas.Bool.{and_parts}
use Rattle.std.proofs.lemmas.List.Elements.{All-head, All-tail}
use Rattle.jz_words.specs.declared.size.Size.{Size}
use Rattle.jz_tree.specs.declared.intrinsic.Intrinsic.{Intrinsic}
use Rattle.jz_tree.specs.declared.intrinsic.Instance.{Instance}
use Rattle.jz_tree.specs.declared.expr.Expr.{Expr}
use Rattle.jz_tree.specs.declared.stmt.Lval.{Lval}
use Rattle.jz_type_sizes.specs.declared.signatures.Role.TheVariants as role
use Rattle.jz_type_sizes.specs.Signatures as signed
use Rattle.jz_type_sizes.specs.Typings.{typing}
use Rattle.jz_type_sizes.specs.Worded.{is_worded}
use Rattle.jz_type_sizes.specs.Sides.{left_form}
use Rattle.jz_type_sizes.specs.Intrinsics.{result_size, argument_size}
use Rattle.jz_judgement.specs.Places as place
use Rattle.jz_judgement.specs.HasType.{value, HasType}
use Rattle.jz_judgement.specs.Lefts.{Holds}
use Rattle.jz_judgement.specs.WellTyped as well
use Rattle.jz_judgement.specs.WellTyped.{InPairs, Output}
use Rattle.jz_judgement.proofs.Nothing.{none_not, same_some}
use Rattle.jz_judgement.proofs.Holding.{holds_wants}
use Rattle.jz_judgement.proofs.Expressions.{judged_of}
use Rattle.jz_select.specs.declared.class.Class.{Class}
use Rattle.jz_select.specs.declared.class.Operand.{Operand}
use Rattle.jz_select.specs.declared.shaping.Flags.TheVariants as shaped
use Rattle.jz_select.specs.Operands.{class_of, dest_of, operand_of}
use Rattle.jz_select.specs.Rows.{is_i, is_rm, is_rmi, is_longest, class_size, changes, computes, masks, shifts_inline, shifts_masked, two_fits}
use Rattle.jz_select.specs.Shapes.{whichever, two_lead, five_lead, if_lead, value_behind, two_shape}
use Rattle.jz_row_laws.proofs.Booleans.{or_parts}
use Rattle.jz_row_laws.proofs.Copied.{Matches}
use Rattle.jz_stuck_runs.proofs.RowSizes.{named_fits, Typed}
use Rattle.jz_homes.specs.Homes.{Homes}
use Rattle.jz_total_rows.specs.Expanded.{IsExpanded, IsExpandedLeft}
use Rattle.jz_total_rows.proofs.Meets.{A}
use Rattle.jz_total_rows.proofs.Operands.{of_size, operand_there, left_there}
use Rattle.jz_total_flags.proofs.InstructionRows.{changes_rmi, computes_rmi}

-- ---- sizes
or_none : (o : Option Size) (y : Size) → option_or o None ≡ Some y → o ≡ Some y
or_none None y e = absurd (none_not y e)
or_none (Some x) y e = e

same_size : (o l g c k : Option Size) (z : Size) → option_or o (option_or l g) ≡ Some z → ((y : Size) → l ≡ Some y → c ≡ Some z) → ((y : Size) → c ≡ Some y → y ≡ z) → (g ≡ Some z → k ≡ Some z) → option_or o (option_or c k) ≡ Some z
same_size (Some y) l g c k z e f n h = e
same_size None (Some y) g c k z e f n h = ap (λ (q : Option Size). option_or q k) (f y refl)
same_size None None g None k z e f n h = h e
same_size None None g (Some y) k z e f n h = ap (λ (q : Size). Some q) (n y refl)

if_word : (b : Bool) (s : Option Size) (z : Size) → (if b then s else None) ≡ Some z → s ≡ Some z
if_word true s z e = e
if_word false s z e = absurd (none_not z e)

-- ---- what matches
shift_parts : (s : Option Size) (d : Class) (a o : Operand) → (shifts_inline d a o || shifts_masked s d a o) ≡ true → (is_rm d ≡ true) × (is_rmi a.class ≡ true)
shift_parts s d a o h = by_part (or_parts (shifts_inline d a o) (shifts_masked s d a o) h)
  where
    by_part : (shifts_inline d a o ≡ true) ⊎ (shifts_masked s d a o ≡ true) → (is_rm d ≡ true) × (is_rmi a.class ≡ true)
    by_part (inl t) = changes_rmi d a (and_parts (is_i o.class) (changes d a) t).1
    by_part (inr t) = computes_rmi false d a o (and_parts (masks (is_longest (option_or s (option_or (class_size d) (class_size a.class)))) o.class) (computes false d a o) t).1

module _ (home : Homes) (i : Instance) (z : Size) (n : Intrinsic) (so : (d : Class) (a o : Operand) → two_fits n i.size d a o ≡ true → (shifts_inline d a o || shifts_masked i.size d a o) ≡ true) (named : i.name ≡ n) where
  abbrev Sized : Lval → Expr → Type 0
  Sized d a = option_or i.size (option_or (class_size (dest_of d)) (class_size (operand_of A d a).class)) ≡ Some z

  counted_size : (d : Lval) (a b : Expr) → IsExpandedLeft home d → Holds (place.word z) d → IsExpanded home a → HasType (value a) (place.word z) → option_or i.size (option_or (option_or (left_form d).size None) (if is_worded a then (typing a).form.size else None)) ≡ Some z
      → Matches (two_shape (whichever A) i (Some d) (a ∷ b ∷ [])) → Sized d a
  counted_size d a b x t y u e m =
      let v = operand_of A d a in
      let w = operand_of A d b in
      let h = named_fits i.name (two_fits i.name i.size (dest_of d) v w) m in
      let p = shift_parts i.size (dest_of d) v w (so (dest_of d) v w (sym (ap (λ k. two_fits k i.size (dest_of d) v w) named) ∙ h)) in
      let D = left_there home z d x t p.0 in
      let O = operand_there home z (place.word z) a of_size y u p.1 in
      same_size i.size (option_or (left_form d).size None) (if is_worded a then (typing a).form.size else None) (class_size (dest_of d)) (class_size (class_of a)) z e
      (λ q s. D.class_own (D.wanted (holds_wants z q d t (or_none (left_form d).size q s)))) D.sized
      (λ s. O.said ((judged_of a).agrees.says z (if_word (is_worded a) (typing a).form.size z s)))

  behind_is : (b : Bool) (d x : Lval) → if_lead b d ≡ Some x → (if_lead b d ≡ Some d) × (d ≡ x)
  behind_is true d x e = (refl, same_some d x e)
  behind_is false d x e = absurd (none_not x e)

  first_is : (a b : Expr) (x : Expr) (rest : List Expr) → a ∷ b ∷ [] ≡ x ∷ rest → a ≡ x
  first_is a b x rest e = cc

  last_of : (P : Lval → Type 0) (a b : Lval) (ds : List Lval) → All P (a ∷ b ∷ ds) → All P ds
  last_of P a b ds all = All-tail P b ds (All-tail P a (b ∷ ds) all)

  abbrev L : Lval → Type 0
  L d = IsExpandedLeft home d

  abbrev X : Expr → Type 0
  X e = IsExpanded home e

  pub five_size : (to : List Lval) (es : List Expr) → All L to → All X es → InPairs (Output (Some z)) (signed.five ++ role.Value ∷ []) to → InPairs (Typed (Some z)) (role.Value ∷ role.Count ∷ []) es
      → option_or i.size (option_or (result_size (signed.five ++ role.Value ∷ []) to) (argument_size (role.Value ∷ role.Count ∷ []) es)) ≡ Some z → Matches (two_shape (whichever A) i (value_behind shaped.Five to) es)
      → (d : Lval) (a : Expr) (rest : List Expr) → es ≡ a ∷ rest → value_behind shaped.Five to ≡ Some d → Sized d a
  five_size to es all x (well.next {b = f1} o1 (well.next {b = f2} o2 (well.next {b = f3} o3 (well.next {b = f4} o4 (well.next {b = f5} o5 (well.next {b = r} v well.none)))))) (well.next {b = a} ta (well.next {b = b} tb well.none)) e m d q rest is behind =
      let t = behind_is (five_lead f1 f2 f3 f4 f5) r d behind in
      subst (λ (l : Lval). Sized l q) t.1
      (subst (λ (u : Expr). Sized r u) (first_is a b q rest is)
      (counted_size r a b (All-head L r [] (All-tail L f5 (r ∷ []) (last_of L f3 f4 (f5 ∷ r ∷ []) (last_of L f1 f2 (f3 ∷ f4 ∷ f5 ∷ r ∷ []) all)))) v (All-head X a (b ∷ []) x) ta e (subst (λ (o : Option Lval). Matches (two_shape (whichever A) i o (a ∷ b ∷ []))) t.0 m)))

  pub two_size : (to : List Lval) (es : List Expr) → All L to → All X es → InPairs (Output (Some z)) (role.Flag ∷ role.Flag ∷ role.Value ∷ []) to → InPairs (Typed (Some z)) (role.Value ∷ role.Count ∷ []) es
      → option_or i.size (option_or (result_size (role.Flag ∷ role.Flag ∷ role.Value ∷ []) to) (argument_size (role.Value ∷ role.Count ∷ []) es)) ≡ Some z → Matches (two_shape (whichever A) i (value_behind shaped.Two to) es)
      → (d : Lval) (a : Expr) (rest : List Expr) → es ≡ a ∷ rest → value_behind shaped.Two to ≡ Some d → Sized d a
  two_size to es all x (well.next {b = f1} o1 (well.next {b = f2} o2 (well.next {b = r} v well.none))) (well.next {b = a} ta (well.next {b = b} tb well.none)) e m d q rest is behind =
      let t = behind_is (two_lead f1 f2) r d behind in
      subst (λ (l : Lval). Sized l q) t.1
      (subst (λ (u : Expr). Sized r u) (first_is a b q rest is)
      (counted_size r a b (All-head L r [] (last_of L f1 f2 (r ∷ []) all)) v (All-head X a (b ∷ []) x) ta e (subst (λ (o : Option Lval). Matches (two_shape (whichever A) i o (a ∷ b ∷ []))) t.0 m)))
