-- `/s` and `%s`: with copies of the sign in RDX the number that is divided is the signed reading, and IDIV has room for its quotient.
use Rattle.std.proofs.Common.{◌≡◌, ◌⊎◌, inl, inr, ℕ, zero, suc, ◌+◌, ◌-◌, ◌*◌, ◌/◌, ◌<◌, ◌≤◌, Bool, true, false, List, [], ◌∷◌, Some, None, refl, sym, ap, ◌∙◌, subst, arith, pos, negsuc, ◌+ℤ◌, ◌-ℤ◌, ◌*ℤ◌, ◌<ℤ◌, ◌≤ℤ◌}
use Rattle.std.specs.Prelude.{nat_lt, ◌==◌, ◌||◌, if◌then◌else◌, int_div, int_rem, neg_ℤ}
use Rattle.std.proofs.lemmas.Int.{ints}
use Rattle.std.proofs.lemmas.Bool.{eq-eqb, ltb-true, ltb-false}
use Rattle.std.proofs.Math.Nat.{div-le_self, div-mul-le_self}
use Rattle.jz_io.specs.declared.span.Span.{Span}
use Rattle.jz_words.specs.declared.size.Size.{Size}
use Rattle.jz_words.specs.declared.size.Size.TheVariants.{S8, S16, S32, S64}
use Rattle.jz_words.specs.Sizes.{half, modulus, signed}
use Rattle.jz_words.specs.Words.{residue}
use Rattle.jz_words.proofs.Residues.{residue_below, double_half}
use Rattle.x64_insn.specs.declared.products.DoubleAnswer.{DoubleAnswer}
use Rattle.x64_insn.specs.Answers.{overflows}
use Rattle.x64_insn.specs.Products.{no_flags, signed_double_word, signed_quotient_answer, IsNoWord}
use Rattle.x64_insn.proofs.Quotients.{no_word}
use Rattle.jz_tree.specs.declared.expr.BinOp.{BinOp}
use Rattle.jz_tree.specs.declared.expr.BinOp.TheVariants as o
use Rattle.jz_runs.specs.Rules.{went}
use Rattle.jz_meaning.specs.declared.value.Why.TheVariants.{Divide}
use Rattle.jz_meaning.specs.Attempts.{stuck_at}
use Rattle.jz_meaning.specs.States.{Value, word}
use Rattle.jz_meaning.specs.Operators.{sign_word, is_least_by_minus_one, on_words}
use Rattle.jz_homes.proofs.Parts.{went_same}
use Rattle.jz_row_operations.proofs.Products.{Minus}
use Rattle.jz_flag_runs.proofs.Quotients.{Divided}

-- ---- what is divided
minus_one : (z : Size) → signed z (modulus z - 1) ≡ negsuc 0
unfolding signed
minus_one S8 = refl
minus_one S16 = refl
minus_one S32 = refl
minus_one S64 = refl

zero_signed : (z : Size) → signed z 0 ≡ pos 0
unfolding signed
zero_signed S8 = refl
zero_signed S16 = refl
zero_signed S32 = refl
zero_signed S64 = refl

below : (z : Size) (a : ℕ) → a < modulus z → (negsuc 0 *ℤ pos (modulus z)) +ℤ pos a ≡ pos a -ℤ pos (modulus z)
below S8 a h = omega (arith, ints, h)
below S16 a h = omega (arith, ints, h)
below S32 a h = omega (arith, ints, h)
below S64 a h = omega (arith, ints, h)

double_by : (z : Size) (a : ℕ) (b : Bool) → nat_lt a (half z) ≡ b → a < modulus z → signed_double_word z (if b then 0 else modulus z - 1) a ≡ (if b then pos a else pos a -ℤ pos (modulus z))
double_by z a true e h = let k : 0 * modulus z + a ≡ a = omega arith in ap (λ x. (x *ℤ pos (modulus z)) +ℤ pos a) (zero_signed z) ∙ ap pos k
double_by z a false e h = ap (λ x. (x *ℤ pos (modulus z)) +ℤ pos a) (minus_one z) ∙ below z a h

double_is : (z : Size) (a : ℕ) → a < modulus z → signed_double_word z (sign_word z a) a ≡ signed z a
unfolding signed
double_is z a h = double_by z a (nat_lt a (half z)) refl h

-- ---- the quotient has room
neg_no : (n h : ℕ) → 0 < h → pos h ≤ℤ neg_ℤ (pos n) → ⊥
neg_no zero h p e = omega (arith, ints, p, e)
neg_no (suc n) h p e = omega (arith, ints, p, e)

neg_room : (n h : ℕ) → n ≤ h → neg_ℤ (pos n) <ℤ (pos 0 -ℤ pos h) → ⊥
neg_room zero h l e = omega (arith, ints, l, e)
neg_room (suc n) h l e = omega (arith, ints, l, e)

-- a quotient as large as that is of the least number by -1
one_divisor : (m n h : ℕ) → 0 < h → suc m ≤ h → h ≤ suc m / suc n → (n ≡ 0) × (suc m ≡ h)
one_divisor m zero h p l e = let k : suc m / 1 ≡ suc m = omega arith in (refl, omega (arith, k, l, e))
one_divisor m (suc n) h p l e =
    let k = div-mul-le_self (suc m) (suc (suc n)) in
    let two : suc m / suc (suc n) * 2 ≤ suc m / suc (suc n) * suc (suc n) = Rattle.std.proofs.Math.Nat.mul-le-mul_left (suc m / suc (suc n)) (let t : 2 ≤ suc (suc n) = omega arith in t) in
    absurd (omega (arith, p, l, e, k, two))

reading_by : (z : Size) (a : ℕ) (b : Bool) → nat_lt a (half z) ≡ b → a < modulus z → ((a < half z) × (signed z a ≡ pos a)) ⊎ Minus z a
unfolding signed
reading_by z a true e h = inl (ltb-true a (half z) e, rw e refl)
reading_by z a false e h = let k : pos a -ℤ pos (modulus z) ≡ negsuc (modulus z - 1 - a) = omega (arith, ints, h) in inr (modulus z - 1 - a, omega (arith, h), ltb-false a (half z) e, rw e k)

some_half : (z : Size) → 0 < half z
some_half S8 = omega arith
some_half S16 = omega arith
some_half S32 = omega arith
some_half S64 = omega arith

least_is : (z : Size) (a d : ℕ) → a ≡ half z → d ≡ modulus z - 1 → is_least_by_minus_one z a d ≡ true
least_is z a d e f = let x : (a == half z) ≡ true = eq-eqb a (half z) e in let y : (d == modulus z - 1) ≡ true = eq-eqb d (modulus z - 1) f in rw (x, y) refl

half_at_most : (z : Size) (c a : ℕ) → c + a + 1 ≡ modulus z → half z ≤ a → suc c ≤ half z
half_at_most z c a e h = let k = double_half z in omega (arith, k, e, h)

no_room : (z : Size) (a d : ℕ) → ((a < half z) × (signed z a ≡ pos a)) ⊎ Minus z a → ((d < half z) × (signed z d ≡ pos d)) ⊎ Minus z d → is_least_by_minus_one z a d ≡ false → IsNoWord z (int_div (signed z a) (signed z d)) → ⊥
no_room z a d (inl x) (inl y) g w =
    let v : IsNoWord z (pos (a / d)) = subst (λ i. IsNoWord z (int_div i (pos d))) x.1 (subst (λ i. IsNoWord z (int_div (signed z a) i)) y.1 w) in
    let l = div-le_self a d in
    elim v [ inl e ↦ omega (arith, ints, e) | inr e ↦ omega (arith, ints, e, l, x.0) ]
no_room z a d (inl x) (inr y) g w =
    let v : IsNoWord z (neg_ℤ (pos (a / suc y.0))) = subst (λ i. IsNoWord z (int_div i (negsuc y.0))) x.1 (subst (λ i. IsNoWord z (int_div (signed z a) i)) y.3 w) in
    let l = div-le_self a (suc y.0) in
    elim v [ inl e ↦ neg_room (a / suc y.0) (half z) (omega (arith, l, x.0)) e | inr e ↦ neg_no (a / suc y.0) (half z) (some_half z) e ]
no_room z a d (inr x) (inl y) g w =
    let v : IsNoWord z (neg_ℤ (pos (suc x.0 / d))) = subst (λ i. IsNoWord z (int_div i (pos d))) x.3 (subst (λ i. IsNoWord z (int_div (signed z a) i)) y.1 w) in
    let l = div-le_self (suc x.0) d in
    let k = half_at_most z x.0 a x.1 x.2 in
    elim v [ inl e ↦ neg_room (suc x.0 / d) (half z) (omega (arith, l, k)) e | inr e ↦ neg_no (suc x.0 / d) (half z) (some_half z) e ]
no_room z a d (inr x) (inr y) g w =
    let v : IsNoWord z (pos (suc x.0 / suc y.0)) = subst (λ i. IsNoWord z (int_div i (negsuc y.0))) x.3 (subst (λ i. IsNoWord z (int_div (signed z a) i)) y.3 w) in
    let k = half_at_most z x.0 a x.1 x.2 in
    elim v [
      | inl e ↦ omega (arith, ints, e)
      | inr e ↦ let o' = one_divisor x.0 y.0 (half z) (some_half z) k (omega (arith, ints, e)) in
          let dh = double_half z in
          let t : true ≡ false = sym (least_is z a d (omega (arith, o'.1, x.1, dh)) (omega (arith, o'.0, y.1))) ∙ g in absurd cc
    ]

false_by : (b : Bool) → (b ≡ true → ⊥) → b ≡ false
false_by true h = absurd (h refl)
false_by false h = refl

fits : (z : Size) (a d : ℕ) → a < modulus z → d < modulus z → is_least_by_minus_one z a d ≡ false → overflows z (int_div (signed z a) (signed z d)) ≡ false
fits z a d h k g = false_by _ (λ e. no_room z a d (reading_by z a (nat_lt a (half z)) refl h) (reading_by z d (nat_lt d (half z)) refl k) g ((no_word z (int_div (signed z a) (signed z d))).0 e))

answers_by : (b c : Bool) (x : DoubleAnswer) → b ≡ false → c ≡ false → (if b then None else if c then None else Some x) ≡ Some x
answers_by b c x e f = rw (e, f) refl

signed_answers : (z : Size) (a d : ℕ) → a < modulus z → d < modulus z → (d == 0) ≡ false → is_least_by_minus_one z a d ≡ false
    → signed_quotient_answer z (sign_word z a) a d ≡ Some (record { high = residue z (int_rem (signed z a) (signed z d)); low = residue z (int_div (signed z a) (signed z d)); flags = no_flags })
unfolding signed_quotient_answer
signed_answers z a d h k e g =
    let n = double_is z a h in
    ap (λ i. if d == 0 then None else if overflows z (int_div i (signed z d)) then None else Some (record { high = residue z (int_rem i (signed z d)); low = residue z (int_div i (signed z d)); flags = no_flags })) n
    ∙ answers_by (d == 0) (overflows z (int_div (signed z a) (signed z d))) _ e (fits z a d h k g)

guarded : (b c : Bool) (at : Span) (z : Size) (h a d q : ℕ) (ns : List ℕ) (v : Value) → (if b || c then stuck_at at Divide else went (h ∷ a ∷ d ∷ []) (word z q)) ≡ went ns v → (b ≡ false) × (c ≡ false) × (ns ≡ h ∷ a ∷ d ∷ []) × (v ≡ word z q)
guarded true c at z h a d q ns v e = absurd cc
guarded false true at z h a d q ns v e = absurd cc
guarded false false at z h a d q ns v e = let k = went_same (h ∷ a ∷ d ∷ []) ns (word z q) v e in (refl, refl, sym k.0, sym k.1)

abbrev pub IsSigned : BinOp → Bool → Type 0
IsSigned o.DivS true = Unit {0}
IsSigned o.RemS false = Unit {0}
IsSigned _ _ = ⊥

-- `/s` and `%s`
pub signed_divided : (op : BinOp) (quot : Bool) (at : Span) (z : Size) (a d : ℕ) (ns : List ℕ) (v : Value) → IsSigned op quot → a < modulus z → d < modulus z → on_words op at z a d ≡ went ns v → Divided true quot z a d ns v
signed_divided o.DivS true at z a d ns v h small k e =
    let g = guarded (d == 0) (is_least_by_minus_one z a d) at z (sign_word z a) a d _ ns v e in
    record { r = _; answers = signed_answers z a d small k g.0 g.1; numbers = g.2; is = g.3; small = residue_below z _; flags = refl }
signed_divided o.RemS false at z a d ns v h small k e =
    let g = guarded (d == 0) (is_least_by_minus_one z a d) at z (sign_word z a) a d _ ns v e in
    record { r = _; answers = signed_answers z a d small k g.0 g.1; numbers = g.2; is = g.3; small = residue_below z _; flags = refl }
signed_divided _ _ at z a d ns v h small k e = absurd h
