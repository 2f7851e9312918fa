-- What an expression that passes no limit says of its operands.
use Rattle.std.proofs.Common.{◌≡◌, ℕ, ◌<◌, ℤ, pos, negsuc, Bool, true, false, ◌&&◌, List, [], ◌∷◌, ◌++◌, Option, Some, None, refl, sym, ap, ◌∙◌, arith, if◌then◌else◌}
use Rattle.std.specs.Prelude.{int_le, int_lt}
use Rattle.std.proofs.lemmas.Bool.{false≢true, true≢false, and_parts}
use Rattle.std.proofs.lemmas.Int.{ints}
use Rattle.jz_words.specs.declared.size.Size.{Size}
use Rattle.jz_words.specs.Sizes.{bits_of}
use Rattle.jz_tree.specs.Span.{Span}
use Rattle.jz_tree.specs.Operators.{is_shift}
use Rattle.jz_tree.specs.declared.expr.BinOp.{BinOp}
use Rattle.jz_tree.specs.declared.expr.Expr.{Expr}
use Rattle.jz_tree.specs.declared.expr.Expr.TheVariants as expr
use Rattle.jz_integers.specs.Integers.{the_number}
use Rattle.jz_integers.specs.declared.constant.Constant.{Constant}
use Rattle.jz_type_names.specs.Kinds.{is_inline}
use Rattle.jz_meaning.specs.Values.{own_size}
use Rattle.jz_limits.specs.declared.limit.Limit.{Limit}
use Rattle.jz_limits.specs.declared.limit.Limit.TheVariants.{ImmRange}
use Rattle.jz_limits.specs.declared.looked.Asking.{Asking}
use Rattle.jz_limits.specs.Values.{no_numbers}
use Rattle.jz_limits.specs.Asked.{is_count}
use Rattle.jz_limits.specs.InnerLooked.{Seen, Part, seen_as, sooner, if_not, count_field}
use Rattle.jz_limits.proofs.Layers.{look_neg, look_not, look_cast, look_bin}
use Rattle.jz_total_rows.proofs.Forms.{number_inline}
use Rattle.jz_total_rows.proofs.Summed.{seen, number_value}
use Rattle.jz_total_rows.proofs.Operands.{kept}

-- ---- parts
neither : (a b : Option Limit) → sooner a b ≡ None → (a ≡ None) × (b ≡ None)
neither None b h = (refl, h)
neither (Some l) b h = absurd cc

operand_outside : (b : Bool) (v : Option Constant) (at : Span) (q : Asking) (p : Part) → b ≡ false → (seen_as b v at q p).operand ≡ p.operand
operand_outside true v at q p e = absurd (true≢false e)
operand_outside false v at q p e = refl

-- ---- forms
pub two_kept : (q : Asking) (o : BinOp) (a b : Expr) (at : Span) → (is_inline a && is_inline b) ≡ false → (seen q (expr.Bin o a b at)).operand ≡ None
    → ((seen q a).operand ≡ None) × ((if is_shift o then count_field q.size (seen q b) else (seen q b).operand) ≡ None)
two_kept q o a b at n h =
    neither (seen q a).operand (if is_shift o then count_field q.size (seen q b) else (seen q b).operand)
    (sym (ap (λ (k : Seen). k.operand) (look_bin no_numbers q o a b at) ∙ operand_outside _ _ _ _ _ n) ∙ h)

pub minus_kept : (q : Asking) (a : Expr) (at : Span) → is_inline a ≡ false → (seen q (expr.Neg a at)).operand ≡ None → (seen q a).operand ≡ None
minus_kept q a at n h = sym (ap (λ (k : Seen). k.operand) (look_neg no_numbers q a at) ∙ operand_outside _ _ _ _ _ n) ∙ h

pub denial_kept : (q : Asking) (a : Expr) (at : Span) → is_inline a ≡ false → (seen q (expr.Not a at)).operand ≡ None → (seen q a).operand ≡ None
denial_kept q a at n h = sym (ap (λ (k : Seen). k.operand) (look_not no_numbers q a at) ∙ operand_outside _ _ _ _ _ n) ∙ h

pub cast_kept : (q : Asking) (z : Size) (s : Bool) (a : Expr) (at : Span) → (seen q (expr.Cast z s a at)).operand ≡ None → (seen (record { place = q.place; size = own_size a }) a).operand ≡ None
cast_kept q z s a at h = sym (ap (λ (k : Seen). k.operand) (look_cast no_numbers q z s a at)) ∙ h

-- ---- counts
pub record IsCountOf (z : Size) (i : ℤ) : Type 0 where
  pub count : ℕ
  pub is : i ≡ pos count
  pub small : count < bits_of z

count_there : (z : Size) (i : ℤ) → is_count (Some z) (Some i) ≡ true → IsCountOf z i
count_there z (pos n) h =
    let p = and_parts (int_le (pos 0) (pos n)) (int_lt (pos n) (pos (bits_of z))) h in
    record { count = n; is = refl; small = below n (bits_of z) p.1 }
  where
    below : (n m : ℕ) → int_lt (pos n) (pos m) ≡ true → n < m
    below n m h = grind (arith, ints)
count_there z (negsuc n) h = absurd (false≢true (and_parts (int_le (pos 0) (negsuc n)) (int_lt (negsuc n) (pos (bits_of z))) h).0)

pub count_kept : (q : Asking) (z : Size) (b : Expr) (i : ℤ) (at : Span) → b ≡ expr.Num i at → count_field (Some z) (seen q b) ≡ None → IsCountOf z i
count_kept q z b i at e h =
    count_there z i
    (sym (ap (λ k. is_count (Some z) k) (number_value q b i at e))
    ∙ kept (is_count (Some z) (the_number (seen q b).value)) (ImmRange (seen q b).span)
    (sym (ap (λ t. if t then if_not (is_count (Some z) (the_number (seen q b).value)) (ImmRange (seen q b).span) else (seen q b).operand) (ap is_inline e ∙ number_inline i at)) ∙ h))

-- ---- lists
pub both_nothing : {A : Type 0} (xs ys : List A) → xs ++ ys ≡ [] → (xs ≡ []) × (ys ≡ [])
both_nothing [] ys h = (refl, h)
both_nothing (x ∷ xs) ys h = absurd cc
