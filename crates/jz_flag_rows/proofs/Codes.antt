-- What holds of the actions of a code holds of each that it has.
use Rattle.std.proofs.Common.{◌≡◌, ℕ, Bool, true, false, List, [], ◌∷◌, Option, Some, None, refl, subst, pos}
use Rattle.std.specs.Prelude.{◌&&◌, not, if◌then◌else◌, All}
use Rattle.std.proofs.lemmas.List.Elements.{All-nil, All-cons}
use Rattle.jz_words.specs.declared.size.Size.{Size}
use Rattle.x64_insn.specs.declared.types.Shift.{Shift}
use Rattle.x64_insn.specs.declared.types.Wide.{Wide}
use Rattle.x64_insn.specs.declared.types.Wide.TheVariants as wide_op
use Rattle.jz_operations.specs.declared.operation.Arg.{Arg}
use Rattle.jz_operations.specs.declared.operation.Arg.TheVariants as arg
use Rattle.jz_operations.specs.declared.operation.Action.{Action}
use Rattle.jz_operations.specs.declared.operation.Action.TheVariants as action
use Rattle.jz_operations.specs.declared.operation.Pinned.{Pinned}
use Rattle.jz_operations.specs.Rows.{low_at, high_at}
use Rattle.jz_operations.proofs.Somes.{same_some}
use Rattle.jz_row_operations.specs.Table.{same_arg, is_imm, is_free, brought, behind, nothing}
use Rattle.jz_flag_rows.specs.Wide.{is_pinned, is_apart, wide_code, high_code, divide_code, divide_two_code}
use Rattle.jz_flag_rows.specs.Instructions.{count_code}

module _ (P : Action → Type 0) where
  pub one_all : (a : Action) → P a → All P (a ∷ [])
  one_all a h = All-cons P a [] h (All-nil P)

  pub two_all : (a b : Action) → P a → P b → All P (a ∷ b ∷ [])
  two_all a b h k = All-cons P a (b ∷ []) h (one_all b k)

  pub three_all : (a b c : Action) → P a → P b → P c → All P (a ∷ b ∷ c ∷ [])
  three_all a b c h k l = All-cons P a (b ∷ c ∷ []) h (two_all b c k l)

  -- ---- the first operand comes to the destination
  way_all : (s1 s2 s3 : Bool) (f : Arg → Action) (z : Size) (b x y : Arg) (acts : List Action) → P (action.Mov z b x) → P (f x) → P (f y)
      → behind f (if s1 then Some ([], y) else if s2 then Some ([], x) else if s3 then Some (action.Mov z b x ∷ [], y) else None) ≡ Some acts → All P acts
  way_all true s2 s3 f z b x y acts m u v e = subst (All P) (same_some _ acts e) (one_all (f y) v)
  way_all false true s3 f z b x y acts m u v e = subst (All P) (same_some _ acts e) (one_all (f x) u)
  way_all false false true f z b x y acts m u v e = subst (All P) (same_some _ acts e) (two_all (action.Mov z b x) (f y) m v)
  way_all false false false f z b x y acts m u v e = absurd cc

  pub brought_all : (swaps : Bool) (f : Arg → Action) (z : Size) (b x y : Arg) (acts : List Action) → P (action.Mov z b x) → P (f x) → P (f y) → behind f (brought swaps z b x y) ≡ Some acts → All P acts
  brought_all swaps f z b x y acts m u v e = way_all (same_arg b x) (swaps && same_arg b y) (is_free b y) f z b x y acts m u v e

  pub count_all : (kind : Shift) (z : Size) (b x : Arg) (n : Option Pinned) (m : ℕ) (acts : List Action) → P (action.Mov z b x) → P (action.Shift kind z b m) → ((k : Pinned) → n ≡ Some k → P (action.ShiftBy kind z b k)) → count_code kind z b x n m ≡ Some acts → All P acts
  count_all kind z b x None m acts p q r e = brought_all false (λ u. action.Shift kind z b m) z b x nothing acts p q q e
  count_all kind z b x (Some k) m acts p q r e = brought_all false (λ u. action.ShiftBy kind z b k) z b x (arg.Var k.variable) acts p (r k refl) (r k refl) e

  -- ---- products of two words, quotients
  wide_way : (s1 s2 s3 : Bool) (z : Size) (h l : Option Pinned) (x y : Arg) (acts : List Action) → P (action.Wide wide_op.Mul z l h y) → P (action.Wide wide_op.Mul z l h x) → P (action.Mov z (low_at l) x)
      → (if s1 then Some (action.Wide wide_op.Mul z l h y ∷ []) else if s2 then Some (action.Wide wide_op.Mul z l h x ∷ []) else if s3 then Some (action.Mov z (low_at l) x ∷ action.Wide wide_op.Mul z l h y ∷ []) else None) ≡ Some acts → All P acts
  wide_way true s2 s3 z h l x y acts p q m e = subst (All P) (same_some _ acts e) (one_all (action.Wide wide_op.Mul z l h y) p)
  wide_way false true s3 z h l x y acts p q m e = subst (All P) (same_some _ acts e) (one_all (action.Wide wide_op.Mul z l h x) q)
  wide_way false false true z h l x y acts p q m e = subst (All P) (same_some _ acts e) (two_all (action.Mov z (low_at l) x) (action.Wide wide_op.Mul z l h y) m p)
  wide_way false false false z h l x y acts p q m e = absurd cc

  pub wide_all : (z : Size) (h l : Option Pinned) (x y : Arg) (acts : List Action) → P (action.Wide wide_op.Mul z l h y) → P (action.Wide wide_op.Mul z l h x) → P (action.Mov z (low_at l) x) → wide_code z h l x y ≡ Some acts → All P acts
  wide_all z h l x y acts p q m e = wide_way (is_pinned l x) (not (is_imm x) && is_pinned l y) (is_apart l y) z h l x y acts p q m e

  high_of : (w : Wide) (z : Size) (l h : Option Pinned) → P (action.Sign z l h) → P (action.Mov z (high_at h) (arg.Imm (pos 0))) → P (high_code w z l h)
  high_of wide_op.Mul z l h s m = m
  high_of wide_op.Imul z l h s m = m
  high_of wide_op.Div z l h s m = m
  high_of wide_op.Idiv z l h s m = s

  pub divide_all : (w : Wide) (z : Size) (l h : Option Pinned) (x y : Arg) → P (action.Mov z (low_at l) x) → P (action.Sign z l h) → P (action.Mov z (high_at h) (arg.Imm (pos 0))) → P (action.Wide w z l h y) → All P (divide_code w z l h x y)
  divide_all w z l h x y m s c p = three_all (action.Mov z (low_at l) x) (high_code w z l h) (action.Wide w z l h y) m (high_of w z l h s c) p

  pub divide_two_all : (z : Size) (q r : Option Pinned) (hi lo y : Arg) → P (action.Mov z (low_at q) lo) → P (action.Mov z (high_at r) hi) → P (action.Wide wide_op.Div z q r y) → All P (divide_two_code z q r hi lo y)
  divide_two_all z q r hi lo y m n p = three_all (action.Mov z (low_at q) lo) (action.Mov z (high_at r) hi) (action.Wide wide_op.Div z q r y) m n p
