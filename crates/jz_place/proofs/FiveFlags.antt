-- What is computed has all five flags.
use Rattle.std.proofs.Common.{◌≡◌, ℕ, Bool, true, false, List, [], ◌∷◌, Option, Some, None, length, refl, sym, ap, ◌∙◌}
use Rattle.std.specs.Prelude.{if◌then◌else◌, nat_eq, slice_set}
use Rattle.std.proofs.lemmas.List.{length-set}
use Rattle.jz_words.specs.declared.size.Size.{Size}
use Rattle.jz_words.specs.Words.{residue}
use Rattle.x64_insn.specs.declared.answer.Answer.{Answer}
use Rattle.x64_insn.specs.declared.products.DoubleAnswer.{DoubleAnswer}
use Rattle.x64_insn.specs.declared.types.FlagVal.{FlagVal}
use Rattle.x64_insn.specs.declared.types.Alu.{Alu}
use Rattle.x64_insn.specs.declared.types.Alu.TheVariants as alu
use Rattle.x64_insn.specs.declared.types.One.{One}
use Rattle.x64_insn.specs.declared.types.One.TheVariants as one
use Rattle.x64_insn.specs.declared.types.Wide.TheVariants as wide
use Rattle.x64_insn.specs.declared.types.Shift.{Shift}
use Rattle.x64_insn.specs.Answers.{alu_answer, one_answer, sum_answer, difference_answer, and_answer, or_answer, xor_answer, flags_of as answer_flags}
use Rattle.x64_insn.specs.Products.{no_flags, product_answer, signed_product_answer, low_product_answer, quotient_answer, signed_quotient_answer}
use Rattle.x64_insn.specs.Shifts.{masked, shift_answer, keeps_result_flags}
use Rattle.jz_operations.specs.declared.operation.Action.{Action}
use Rattle.jz_operations.specs.declared.operation.Action.TheVariants as action
use Rattle.jz_operations.specs.Rows.{Computed, one_word, has_sign, computed}
use Rattle.jz_operations.proofs.Somes.{some_then, same_some}

-- ---- the answers of the table
five_alu : (op : Alu) (s : Size) (a b : ℕ) (k : Bool) → length (alu_answer op s a b k).flags ≡ 5
unfolding sum_answer difference_answer and_answer or_answer xor_answer answer_flags
five_alu alu.Add s a b k = refl
five_alu alu.Or s a b k = refl
five_alu alu.Adc s a b k = refl
five_alu alu.Sbb s a b k = refl
five_alu alu.And s a b k = refl
five_alu alu.Sub s a b k = refl
five_alu alu.Xor s a b k = refl
five_alu alu.Cmp s a b k = refl
five_alu alu.Test s a b k = refl

five_one : (op : One) (s : Size) (a : ℕ) → length (one_answer op s a no_flags).flags ≡ 5
unfolding one_answer sum_answer difference_answer answer_flags
five_one one.Not s a = refl
five_one one.Neg s a = refl
five_one one.Inc s a = refl
five_one one.Dec s a = refl

set_or_kept : (c d : Bool) (x y : FlagVal) (ns os : List FlagVal) → length os ≡ 5 → length ns ≡ 5 → length (if c then os else (if d then slice_set (slice_set os 0 x) 1 y else ns)) ≡ 5
set_or_kept true d x y ns os h g = h
set_or_kept false true x y ns os h g = length-set (slice_set os 0 x) 1 y ∙ length-set os 0 x ∙ h
set_or_kept false false x y ns os h g = g

shift_by : (z : Bool) (kind : Shift) (s : Size) (a n : ℕ) → nat_eq n 0 ≡ z → length (shift_answer kind s a n no_flags).flags ≡ 5
unfolding shift_answer
shift_by true kind s a n e = rw e refl
shift_by false kind s a n e = rw e (set_or_kept false (keeps_result_flags kind) _ _ _ no_flags refl refl)

five_shift : (kind : Shift) (s : Size) (a n : ℕ) → length (shift_answer kind s a n no_flags).flags ≡ 5
five_shift kind s a n = shift_by (nat_eq n 0) kind s a n refl

five_low : (s : Size) (a b : ℕ) → length (low_product_answer s a b).flags ≡ 5
unfolding low_product_answer
five_low s a b = refl

five_product : (s : Size) (a b : ℕ) → length (product_answer s a b).flags ≡ 5
unfolding product_answer
five_product s a b = refl

five_signed : (s : Size) (a b : ℕ) → length (signed_product_answer s a b).flags ≡ 5
unfolding signed_product_answer
five_signed s a b = refl

twice_if : {A : Type 0} (b c : Bool) (x y : A) → (if b then None else if c then Some x else None) ≡ Some y → x ≡ y
twice_if true c x y e = absurd cc
twice_if false true x y e = same_some x y e
twice_if false false x y e = absurd cc

twice_unless : {A : Type 0} (b c : Bool) (x y : A) → (if b then None else if c then None else Some x) ≡ Some y → x ≡ y
twice_unless true c x y e = absurd cc
twice_unless false true x y e = absurd cc
twice_unless false false x y e = same_some x y e

five_quotient : (s : Size) (h l d : ℕ) (r : DoubleAnswer) → quotient_answer s h l d ≡ Some r → length r.flags ≡ 5
unfolding quotient_answer
five_quotient s h l d r e = let k = twice_if _ _ _ r e in ap (λ x. length x.flags) (sym k)

five_signed_quotient : (s : Size) (h l d : ℕ) (r : DoubleAnswer) → signed_quotient_answer s h l d ≡ Some r → length r.flags ≡ 5
unfolding signed_quotient_answer
five_signed_quotient s h l d r e = let k = twice_unless _ _ _ r e in ap (λ x. length x.flags) (sym k)

-- ---- what an action computes
by_same : (x c : Computed) → Some x ≡ Some c → length x.flags ≡ 5 → length c.flags ≡ 5
by_same x c e h = ap (λ y. length y.flags) (sym (same_some x c e)) ∙ h

by_word : (n : ℕ) (fs : List FlagVal) (c : Computed) → one_word n fs ≡ Some c → length fs ≡ 5 → length c.flags ≡ 5
by_word n fs c e h = by_same _ c e h

by_sign : (b : Bool) (n : ℕ) (c : Computed) → (if b then one_word n no_flags else None) ≡ Some c → length c.flags ≡ 5
by_sign true n c e = by_word n no_flags c e refl
by_sign false n c e = absurd cc

pub computed_five : (act : Action) (k : Bool) (ns : List ℕ) (c : Computed) → computed act k ns ≡ Some c → length c.flags ≡ 5
computed_five (action.Alu op s to from p) k (a ∷ b ∷ []) c e = by_same _ c e (five_alu op s a b k)
computed_five (action.Alu op s to from p) k [] c e = absurd cc
computed_five (action.Alu op s to from p) k (a ∷ []) c e = absurd cc
computed_five (action.Alu op s to from p) k (a ∷ b ∷ d ∷ ns) c e = absurd cc
computed_five (action.Mov s to from) k (a ∷ []) c e = by_word _ no_flags c e refl
computed_five (action.Mov s to from) k [] c e = absurd cc
computed_five (action.Mov s to from) k (a ∷ b ∷ ns) c e = absurd cc
computed_five (action.Extend sign to from x rm) k (a ∷ []) c e = by_word _ no_flags c e refl
computed_five (action.Extend sign to from x rm) k [] c e = absurd cc
computed_five (action.Extend sign to from x rm) k (a ∷ b ∷ ns) c e = absurd cc
computed_five (action.Lea x m) k (a ∷ []) c e = by_word _ no_flags c e refl
computed_five (action.Lea x m) k [] c e = absurd cc
computed_five (action.Lea x m) k (a ∷ b ∷ ns) c e = absurd cc
computed_five (action.One op s rm) k (a ∷ []) c e = by_word _ _ c e (five_one op s a)
computed_five (action.One op s rm) k [] c e = absurd cc
computed_five (action.One op s rm) k (a ∷ b ∷ ns) c e = absurd cc
computed_five (action.Wide wide.Mul s l h rm) k (a ∷ b ∷ []) c e = by_same _ c e (five_product s b a)
computed_five (action.Wide wide.Mul s l h rm) k [] c e = absurd cc
computed_five (action.Wide wide.Mul s l h rm) k (a ∷ []) c e = absurd cc
computed_five (action.Wide wide.Mul s l h rm) k (a ∷ b ∷ d ∷ ns) c e = absurd cc
computed_five (action.Wide wide.Imul s l h rm) k (a ∷ b ∷ []) c e = by_same _ c e (five_signed s b a)
computed_five (action.Wide wide.Imul s l h rm) k [] c e = absurd cc
computed_five (action.Wide wide.Imul s l h rm) k (a ∷ []) c e = absurd cc
computed_five (action.Wide wide.Imul s l h rm) k (a ∷ b ∷ d ∷ ns) c e = absurd cc
computed_five (action.Wide wide.Div s l h rm) k (a ∷ b ∷ d ∷ []) c e = let r = some_then (quotient_answer s d b a) _ c e in by_same _ c r.2 (five_quotient s d b a r.0 r.1)
computed_five (action.Wide wide.Div s l h rm) k [] c e = absurd cc
computed_five (action.Wide wide.Div s l h rm) k (a ∷ []) c e = absurd cc
computed_five (action.Wide wide.Div s l h rm) k (a ∷ b ∷ []) c e = absurd cc
computed_five (action.Wide wide.Div s l h rm) k (a ∷ b ∷ d ∷ f ∷ ns) c e = absurd cc
computed_five (action.Wide wide.Idiv s l h rm) k (a ∷ b ∷ d ∷ []) c e = let r = some_then (signed_quotient_answer s d b a) _ c e in by_same _ c r.2 (five_signed_quotient s d b a r.0 r.1)
computed_five (action.Wide wide.Idiv s l h rm) k [] c e = absurd cc
computed_five (action.Wide wide.Idiv s l h rm) k (a ∷ []) c e = absurd cc
computed_five (action.Wide wide.Idiv s l h rm) k (a ∷ b ∷ []) c e = absurd cc
computed_five (action.Wide wide.Idiv s l h rm) k (a ∷ b ∷ d ∷ f ∷ ns) c e = absurd cc
computed_five (action.Imul s x rm) k (a ∷ b ∷ []) c e = by_word _ _ c e (five_low s a b)
computed_five (action.Imul s x rm) k [] c e = absurd cc
computed_five (action.Imul s x rm) k (a ∷ []) c e = absurd cc
computed_five (action.Imul s x rm) k (a ∷ b ∷ d ∷ ns) c e = absurd cc
computed_five (action.ImulBy s x rm i) k (a ∷ []) c e = by_word _ _ c e (five_low s (residue s i) a)
computed_five (action.ImulBy s x rm i) k [] c e = absurd cc
computed_five (action.ImulBy s x rm i) k (a ∷ b ∷ ns) c e = absurd cc
computed_five (action.Shift kind s rm n) k (a ∷ []) c e = by_word _ _ c e (five_shift kind s a (masked s n))
computed_five (action.Shift kind s rm n) k [] c e = absurd cc
computed_five (action.Shift kind s rm n) k (a ∷ b ∷ ns) c e = absurd cc
computed_five (action.ShiftBy kind s rm p) k (a ∷ b ∷ []) c e = by_word _ _ c e (five_shift kind s a (masked s b))
computed_five (action.ShiftBy kind s rm p) k [] c e = absurd cc
computed_five (action.ShiftBy kind s rm p) k (a ∷ []) c e = absurd cc
computed_five (action.ShiftBy kind s rm p) k (a ∷ b ∷ d ∷ ns) c e = absurd cc
computed_five (action.Bswap s x) k (a ∷ []) c e = by_word _ no_flags c e refl
computed_five (action.Bswap s x) k [] c e = absurd cc
computed_five (action.Bswap s x) k (a ∷ b ∷ ns) c e = absurd cc
computed_five (action.Sign s l h) k (a ∷ []) c e = by_sign (has_sign s) _ c e
computed_five (action.Sign s l h) k [] c e = absurd cc
computed_five (action.Sign s l h) k (a ∷ b ∷ ns) c e = absurd cc
computed_five (action.Set z rm) k [] c e = by_word _ no_flags c e refl
computed_five (action.Set z rm) k (a ∷ ns) c e = absurd cc
computed_five (action.Cmov z s x rm) k (a ∷ b ∷ []) c e = by_word _ no_flags c e refl
computed_five (action.Cmov z s x rm) k [] c e = absurd cc
computed_five (action.Cmov z s x rm) k (a ∷ []) c e = absurd cc
computed_five (action.Cmov z s x rm) k (a ∷ b ∷ d ∷ ns) c e = absurd cc
