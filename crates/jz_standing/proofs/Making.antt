-- What operations on values of the sizes that are wanted give: a word, an answer, or they are stuck
-- by a division.
use Rattle.std.proofs.Common.{◌≡◌, ℕ, [], ◌∷◌, Option, Some, Bool, true, false, refl, ap, sym, ◌∙◌, subst, if◌then◌else◌, ℤ, pos, negsuc}
use Rattle.std.specs.Prelude.{◌&&◌, ◌||◌, ◌==◌}
use Rattle.jz_tree.specs.Span.{Span}
use Rattle.x64_insn.specs.Size.{Size}
use Rattle.x64_insn.specs.Size.TheVariants.{S8, S16, S32, S64}
use Rattle.x64_insn.specs.Words.{residue}
use Rattle.jz_tree.specs.declared.expr.BinOp.{BinOp}
use Rattle.jz_tree.specs.declared.expr.BinOp.TheVariants as o
use Rattle.jz_runs.specs.Rules.{stuck, went}
use Rattle.jz_meaning.specs.declared.value.Why.TheVariants.{Divide, Init}
use Rattle.jz_meaning.specs.Attempts.{Evaluation, stuck_at, defined}
use Rattle.jz_meaning.specs.States.{Value, word, boolean, integer}
use Rattle.jz_meaning.specs.Operators.{same_size, on_words, divided, signed_divided, sign_word, is_least_by_minus_one, shifted_word, by_flag, combined, shifted, binary, is_shift, is_settled, negated, inverted, cast as cast_value}
use Rattle.jz_standing.specs.Typing.{is_computed, is_compared, is_carried}

-- it went, and this is so of what came out; or it is stuck by a division
abbrev pub Made : {A : Type 0} → (A → Type 0) → Evaluation A → Type 0
Made Q (stuck k) = k.why ≡ Divide
Made Q (went ns x) = Q x

-- a word of this size, or a number where k says so
abbrev pub OfSize : Size → Bool → Value → Type 0
OfSize z k (word y n) = y ≡ z
OfSize z k (integer j) = k ≡ true
OfSize z k (boolean c) = ⊥

abbrev pub IsTruth : Value → Type 0
IsTruth (boolean c) = Unit {0}
IsTruth v = ⊥

-- a count: a word, or where k says so a number that is not below 0
abbrev pub OfCount : Bool → Value → Type 0
OfCount k (word y n) = Unit {0}
OfCount k (integer (pos n)) = k ≡ true
OfCount k (integer (negsuc n)) = ⊥
OfCount k (boolean c) = ⊥

pub same_size-refl : (z : Size) → same_size z z ≡ true
same_size-refl S8 = refl
same_size-refl S16 = refl
same_size-refl S32 = refl
same_size-refl S64 = refl

made_if : {A : Type 0} (Q : A → Type 0) (c : Bool) (a b : Evaluation A) → Made Q a → Made Q b → Made Q (if c then a else b)
made_if Q true a b h k = h
made_if Q false a b h k = k

divided_made : (z : Size) (at : Span) (s : Size) (h a b r : ℕ) → s ≡ z → Made (OfSize z false) (divided at s h a b r)
divided_made z at s h a b r e = made_if (OfSize z false) (b == 0) (stuck_at at Divide) (went (h ∷ a ∷ b ∷ []) (word s r)) refl e

signed_made : (z : Size) (at : Span) (s : Size) (a b : ℕ) (r : ℤ) → s ≡ z → Made (OfSize z false) (signed_divided at s a b r)
signed_made z at s a b r e = made_if (OfSize z false) (b == 0 || is_least_by_minus_one s a b) (stuck_at at Divide) (went (sign_word s a ∷ a ∷ b ∷ []) (word s (residue s r))) refl e

pub words_made : (op : BinOp) → is_computed op ≡ true → (z : Size) (at : Span) (s : Size) (a b : ℕ) → s ≡ z → Made (OfSize z false) (on_words op at s a b)
words_made o.OrElse c z at s a b e = absurd (cc c)
words_made o.AndThen c z at s a b e = absurd (cc c)
words_made o.Or c z at s a b e = e
words_made o.Xor c z at s a b e = e
words_made o.And c z at s a b e = e
words_made o.Eq c z at s a b e = absurd (cc c)
words_made o.Ne c z at s a b e = absurd (cc c)
words_made o.Lt c z at s a b e = absurd (cc c)
words_made o.Le c z at s a b e = absurd (cc c)
words_made o.Gt c z at s a b e = absurd (cc c)
words_made o.Ge c z at s a b e = absurd (cc c)
words_made o.LtS c z at s a b e = absurd (cc c)
words_made o.LeS c z at s a b e = absurd (cc c)
words_made o.GtS c z at s a b e = absurd (cc c)
words_made o.GeS c z at s a b e = absurd (cc c)
words_made o.Shl c z at s a b e = absurd (cc c)
words_made o.Shr c z at s a b e = absurd (cc c)
words_made o.Sar c z at s a b e = absurd (cc c)
words_made o.Rol c z at s a b e = absurd (cc c)
words_made o.Ror c z at s a b e = absurd (cc c)
words_made o.Add c z at s a b e = e
words_made o.Sub c z at s a b e = e
words_made o.Mul c z at s a b e = e
words_made o.Div c z at s a b e = divided_made z at s 0 a b _ e
words_made o.Rem c z at s a b e = divided_made z at s 0 a b _ e
words_made o.DivS c z at s a b e = signed_made z at s a b _ e
words_made o.RemS c z at s a b e = signed_made z at s a b _ e

pub words_answer : (op : BinOp) → is_compared op ≡ true → (at : Span) (s : Size) (a b : ℕ) → Made IsTruth (on_words op at s a b)
words_answer o.OrElse c at s a b = absurd (cc c)
words_answer o.AndThen c at s a b = absurd (cc c)
words_answer o.Or c at s a b = absurd (cc c)
words_answer o.Xor c at s a b = absurd (cc c)
words_answer o.And c at s a b = absurd (cc c)
words_answer o.Eq c at s a b = tt
words_answer o.Ne c at s a b = tt
words_answer o.Lt c at s a b = tt
words_answer o.Le c at s a b = tt
words_answer o.Gt c at s a b = tt
words_answer o.Ge c at s a b = tt
words_answer o.LtS c at s a b = tt
words_answer o.LeS c at s a b = tt
words_answer o.GtS c at s a b = tt
words_answer o.GeS c at s a b = tt
words_answer o.Shl c at s a b = absurd (cc c)
words_answer o.Shr c at s a b = absurd (cc c)
words_answer o.Sar c at s a b = absurd (cc c)
words_answer o.Rol c at s a b = absurd (cc c)
words_answer o.Ror c at s a b = absurd (cc c)
words_answer o.Add c at s a b = absurd (cc c)
words_answer o.Sub c at s a b = absurd (cc c)
words_answer o.Mul c at s a b = absurd (cc c)
words_answer o.Div c at s a b = absurd (cc c)
words_answer o.Rem c at s a b = absurd (cc c)
words_answer o.DivS c at s a b = absurd (cc c)
words_answer o.RemS c at s a b = absurd (cc c)

flag_made : (op : BinOp) → is_carried op ≡ true → (z : Size) (at : Span) (s : Size) (a : ℕ) (c : Bool) → s ≡ z → Made (OfSize z false) (defined at (by_flag op s a c))
flag_made o.OrElse h z at s a c e = absurd (cc h)
flag_made o.AndThen h z at s a c e = absurd (cc h)
flag_made o.Or h z at s a c e = absurd (cc h)
flag_made o.Xor h z at s a c e = absurd (cc h)
flag_made o.And h z at s a c e = absurd (cc h)
flag_made o.Eq h z at s a c e = absurd (cc h)
flag_made o.Ne h z at s a c e = absurd (cc h)
flag_made o.Lt h z at s a c e = absurd (cc h)
flag_made o.Le h z at s a c e = absurd (cc h)
flag_made o.Gt h z at s a c e = absurd (cc h)
flag_made o.Ge h z at s a c e = absurd (cc h)
flag_made o.LtS h z at s a c e = absurd (cc h)
flag_made o.LeS h z at s a c e = absurd (cc h)
flag_made o.GtS h z at s a c e = absurd (cc h)
flag_made o.GeS h z at s a c e = absurd (cc h)
flag_made o.Shl h z at s a c e = absurd (cc h)
flag_made o.Shr h z at s a c e = absurd (cc h)
flag_made o.Sar h z at s a c e = absurd (cc h)
flag_made o.Rol h z at s a c e = absurd (cc h)
flag_made o.Ror h z at s a c e = absurd (cc h)
flag_made o.Add h z at s a c e = e
flag_made o.Sub h z at s a c e = e
flag_made o.Mul h z at s a c e = absurd (cc h)
flag_made o.Div h z at s a c e = absurd (cc h)
flag_made o.Rem h z at s a c e = absurd (cc h)
flag_made o.DivS h z at s a c e = absurd (cc h)
flag_made o.RemS h z at s a c e = absurd (cc h)

count_made : (op : BinOp) → is_shift op ≡ true → (z : Size) (at : Span) (s : Size) (a n : ℕ) → s ≡ z → Made (OfSize z false) (defined at (shifted_word op s a n))
count_made o.OrElse h z at s a n e = absurd (cc h)
count_made o.AndThen h z at s a n e = absurd (cc h)
count_made o.Or h z at s a n e = absurd (cc h)
count_made o.Xor h z at s a n e = absurd (cc h)
count_made o.And h z at s a n e = absurd (cc h)
count_made o.Eq h z at s a n e = absurd (cc h)
count_made o.Ne h z at s a n e = absurd (cc h)
count_made o.Lt h z at s a n e = absurd (cc h)
count_made o.Le h z at s a n e = absurd (cc h)
count_made o.Gt h z at s a n e = absurd (cc h)
count_made o.Ge h z at s a n e = absurd (cc h)
count_made o.LtS h z at s a n e = absurd (cc h)
count_made o.LeS h z at s a n e = absurd (cc h)
count_made o.GtS h z at s a n e = absurd (cc h)
count_made o.GeS h z at s a n e = absurd (cc h)
count_made o.Shl h z at s a n e = e
count_made o.Shr h z at s a n e = e
count_made o.Sar h z at s a n e = e
count_made o.Rol h z at s a n e = e
count_made o.Ror h z at s a n e = e
count_made o.Add h z at s a n e = absurd (cc h)
count_made o.Sub h z at s a n e = absurd (cc h)
count_made o.Mul h z at s a n e = absurd (cc h)
count_made o.Div h z at s a n e = absurd (cc h)
count_made o.Rem h z at s a n e = absurd (cc h)
count_made o.DivS h z at s a n e = absurd (cc h)
count_made o.RemS h z at s a n e = absurd (cc h)

-- what gives a word or compares settles nothing by its left operand, and is no shift
pub settles_not : (op : BinOp) (x : Value) → (is_settled op x ≡ true) → (is_computed op || (is_compared op || is_shift op)) ≡ true → ⊥
settles_not o.OrElse x e h = absurd (cc h)
settles_not o.AndThen x e h = absurd (cc h)
settles_not o.Or x e h = absurd (cc e)
settles_not o.Xor x e h = absurd (cc e)
settles_not o.And x e h = absurd (cc e)
settles_not o.Eq x e h = absurd (cc e)
settles_not o.Ne x e h = absurd (cc e)
settles_not o.Lt x e h = absurd (cc e)
settles_not o.Le x e h = absurd (cc e)
settles_not o.Gt x e h = absurd (cc e)
settles_not o.Ge x e h = absurd (cc e)
settles_not o.LtS x e h = absurd (cc e)
settles_not o.LeS x e h = absurd (cc e)
settles_not o.GtS x e h = absurd (cc e)
settles_not o.GeS x e h = absurd (cc e)
settles_not o.Shl x e h = absurd (cc e)
settles_not o.Shr x e h = absurd (cc e)
settles_not o.Sar x e h = absurd (cc e)
settles_not o.Rol x e h = absurd (cc e)
settles_not o.Ror x e h = absurd (cc e)
settles_not o.Add x e h = absurd (cc e)
settles_not o.Sub x e h = absurd (cc e)
settles_not o.Mul x e h = absurd (cc e)
settles_not o.Div x e h = absurd (cc e)
settles_not o.Rem x e h = absurd (cc e)
settles_not o.DivS x e h = absurd (cc e)
settles_not o.RemS x e h = absurd (cc e)

pub computed_no_shift : (op : BinOp) → is_computed op ≡ true → is_shift op ≡ false
computed_no_shift o.OrElse h = absurd (cc h)
computed_no_shift o.AndThen h = absurd (cc h)
computed_no_shift o.Or h = refl
computed_no_shift o.Xor h = refl
computed_no_shift o.And h = refl
computed_no_shift o.Eq h = absurd (cc h)
computed_no_shift o.Ne h = absurd (cc h)
computed_no_shift o.Lt h = absurd (cc h)
computed_no_shift o.Le h = absurd (cc h)
computed_no_shift o.Gt h = absurd (cc h)
computed_no_shift o.Ge h = absurd (cc h)
computed_no_shift o.LtS h = absurd (cc h)
computed_no_shift o.LeS h = absurd (cc h)
computed_no_shift o.GtS h = absurd (cc h)
computed_no_shift o.GeS h = absurd (cc h)
computed_no_shift o.Shl h = absurd (cc h)
computed_no_shift o.Shr h = absurd (cc h)
computed_no_shift o.Sar h = absurd (cc h)
computed_no_shift o.Rol h = absurd (cc h)
computed_no_shift o.Ror h = absurd (cc h)
computed_no_shift o.Add h = refl
computed_no_shift o.Sub h = refl
computed_no_shift o.Mul h = refl
computed_no_shift o.Div h = refl
computed_no_shift o.Rem h = refl
computed_no_shift o.DivS h = refl
computed_no_shift o.RemS h = refl

pub compared_no_shift : (op : BinOp) → is_compared op ≡ true → is_shift op ≡ false
compared_no_shift o.OrElse h = absurd (cc h)
compared_no_shift o.AndThen h = absurd (cc h)
compared_no_shift o.Or h = absurd (cc h)
compared_no_shift o.Xor h = absurd (cc h)
compared_no_shift o.And h = absurd (cc h)
compared_no_shift o.Eq h = refl
compared_no_shift o.Ne h = refl
compared_no_shift o.Lt h = refl
compared_no_shift o.Le h = refl
compared_no_shift o.Gt h = refl
compared_no_shift o.Ge h = refl
compared_no_shift o.LtS h = refl
compared_no_shift o.LeS h = refl
compared_no_shift o.GtS h = refl
compared_no_shift o.GeS h = refl
compared_no_shift o.Shl h = absurd (cc h)
compared_no_shift o.Shr h = absurd (cc h)
compared_no_shift o.Sar h = absurd (cc h)
compared_no_shift o.Rol h = absurd (cc h)
compared_no_shift o.Ror h = absurd (cc h)
compared_no_shift o.Add h = absurd (cc h)
compared_no_shift o.Sub h = absurd (cc h)
compared_no_shift o.Mul h = absurd (cc h)
compared_no_shift o.Div h = absurd (cc h)
compared_no_shift o.Rem h = absurd (cc h)
compared_no_shift o.DivS h = absurd (cc h)
compared_no_shift o.RemS h = absurd (cc h)

pub carried_computed : (op : BinOp) → is_carried op ≡ true → is_computed op ≡ true
carried_computed o.OrElse h = absurd (cc h)
carried_computed o.AndThen h = absurd (cc h)
carried_computed o.Or h = absurd (cc h)
carried_computed o.Xor h = absurd (cc h)
carried_computed o.And h = absurd (cc h)
carried_computed o.Eq h = absurd (cc h)
carried_computed o.Ne h = absurd (cc h)
carried_computed o.Lt h = absurd (cc h)
carried_computed o.Le h = absurd (cc h)
carried_computed o.Gt h = absurd (cc h)
carried_computed o.Ge h = absurd (cc h)
carried_computed o.LtS h = absurd (cc h)
carried_computed o.LeS h = absurd (cc h)
carried_computed o.GtS h = absurd (cc h)
carried_computed o.GeS h = absurd (cc h)
carried_computed o.Shl h = absurd (cc h)
carried_computed o.Shr h = absurd (cc h)
carried_computed o.Sar h = absurd (cc h)
carried_computed o.Rol h = absurd (cc h)
carried_computed o.Ror h = absurd (cc h)
carried_computed o.Add h = refl
carried_computed o.Sub h = refl
carried_computed o.Mul h = absurd (cc h)
carried_computed o.Div h = absurd (cc h)
carried_computed o.Rem h = absurd (cc h)
carried_computed o.DivS h = absurd (cc h)
carried_computed o.RemS h = absurd (cc h)

-- ---- two operands

pub never_both : (k l : Bool) → k ≡ true → l ≡ true → (k && l) ≡ false → ⊥
never_both true true a b e = cc e
never_both false l a b e = cc a
never_both true false a b e = cc b

-- two words, or a word and a number
combined_word : (op : BinOp) → is_computed op ≡ true → (at : Span) (z : Size) (k l : Bool) (x y : Value) → (k && l) ≡ false → OfSize z k x → OfSize z l y → Made (OfSize z false) (combined op at x y)
unfolding combined
combined_word op c at z k l (word s a) (word t b) n p q =
    subst (λ d. Made (OfSize z false) (if d then on_words op at s a b else stuck_at at Init)) (sym (ap (same_size s) (q ∙ sym p) ∙ same_size-refl s)) (words_made op c z at s a b p)
combined_word op c at z k l (word s a) (integer j) n p q = words_made op c z at s a (residue s j) p
combined_word op c at z k l (integer i) (word t b) n p q = words_made op c z at t (residue t i) b q
combined_word op c at z k l (integer i) (integer j) n p q = absurd (never_both k l p q n)
combined_word op c at z k l (boolean b) y n p q = absurd p
combined_word op c at z k l (word s a) (boolean b) n p q = absurd q
combined_word op c at z k l (integer i) (boolean b) n p q = absurd q

combined_flag : (op : BinOp) → is_carried op ≡ true → (at : Span) (z : Size) (x y : Value) → OfSize z false x → IsTruth y → Made (OfSize z false) (combined op at x y)
unfolding combined
combined_flag op c at z (word s a) (boolean b) p q = flag_made op c z at s a b p
combined_flag op c at z (integer i) (boolean b) p q = absurd (cc p)
combined_flag op c at z (boolean a) y p q = absurd p
combined_flag op c at z x (word t b) p q = absurd q
combined_flag op c at z x (integer j) p q = absurd q

combined_answer : (op : BinOp) → is_compared op ≡ true → (at : Span) (z : Size) (k l : Bool) (x y : Value) → (k && l) ≡ false → OfSize z k x → OfSize z l y → Made IsTruth (combined op at x y)
unfolding combined
combined_answer op c at z k l (word s a) (word t b) n p q =
    subst (λ d. Made IsTruth (if d then on_words op at s a b else stuck_at at Init)) (sym (ap (same_size s) (q ∙ sym p) ∙ same_size-refl s)) (words_answer op c at s a b)
combined_answer op c at z k l (word s a) (integer j) n p q = words_answer op c at s a (residue s j)
combined_answer op c at z k l (integer i) (word t b) n p q = words_answer op c at t (residue t i) b
combined_answer op c at z k l (integer i) (integer j) n p q = absurd (never_both k l p q n)
combined_answer op c at z k l (boolean b) y n p q = absurd p
combined_answer op c at z k l (word s a) (boolean b) n p q = absurd q
combined_answer op c at z k l (integer i) (boolean b) n p q = absurd q

shifted_made : (op : BinOp) → is_shift op ≡ true → (at : Span) (z : Size) (k l : Bool) (x y : Value) → (k && l) ≡ false → OfSize z k x → OfCount l y → Made (OfSize z false) (defined at (shifted op (Some z) x y))
unfolding shifted
shifted_made op c at z k l (word s a) (word t n) h p q = count_made op c z at s a n p
shifted_made op c at z k l (word s a) (integer (pos n)) h p q = count_made op c z at s a n p
shifted_made op c at z k l (word s a) (integer (negsuc n)) h p q = absurd q
shifted_made op c at z k l (word s a) (boolean b) h p q = absurd q
shifted_made op c at z k l (integer i) (word t n) h p q = count_made op c z at z (residue z i) n refl
shifted_made op c at z k l (integer i) (integer (pos n)) h p q = absurd (never_both k l p q h)
shifted_made op c at z k l (integer i) (integer (negsuc n)) h p q = absurd q
shifted_made op c at z k l (integer i) (boolean b) h p q = absurd q
shifted_made op c at z k l (boolean b) y h p q = absurd p

-- ---- an operation

pub binary_word : (op : BinOp) → is_computed op ≡ true → (at : Span) (w : Option Size) (z : Size) (k l : Bool) (x y : Value) → (k && l) ≡ false → OfSize z k x → OfSize z l y → Made (OfSize z false) (binary op at w x y)
unfolding binary
binary_word op c at w z k l x y n p q = subst (λ d. Made (OfSize z false) (if d then defined at (shifted op w x y) else combined op at x y)) (sym (computed_no_shift op c)) (combined_word op c at z k l x y n p q)

pub binary_flag : (op : BinOp) → is_carried op ≡ true → (at : Span) (w : Option Size) (z : Size) (x y : Value) → OfSize z false x → IsTruth y → Made (OfSize z false) (binary op at w x y)
unfolding binary
binary_flag op c at w z x y p q = subst (λ d. Made (OfSize z false) (if d then defined at (shifted op w x y) else combined op at x y)) (sym (computed_no_shift op (carried_computed op c))) (combined_flag op c at z x y p q)

pub binary_answer : (op : BinOp) → is_compared op ≡ true → (at : Span) (w : Option Size) (z : Size) (k l : Bool) (x y : Value) → (k && l) ≡ false → OfSize z k x → OfSize z l y → Made IsTruth (binary op at w x y)
unfolding binary
binary_answer op c at w z k l x y n p q = subst (λ d. Made IsTruth (if d then defined at (shifted op w x y) else combined op at x y)) (sym (compared_no_shift op c)) (combined_answer op c at z k l x y n p q)

pub binary_shift : (op : BinOp) → is_shift op ≡ true → (at : Span) (w : Option Size) (z : Size) (k l : Bool) (x y : Value) → w ≡ Some z → (k && l) ≡ false → OfSize z k x → OfCount l y → Made (OfSize z false) (binary op at w x y)
unfolding binary
binary_shift op c at w z k l x y e n p q =
    subst (λ d. Made (OfSize z false) (if d then defined at (shifted op w x y) else combined op at x y)) (sym c)
    (subst (λ v. Made (OfSize z false) (defined at (shifted op v x y))) (sym e) (shifted_made op c at z k l x y n p q))

-- ---- one operand

pub negated_made : (at : Span) (z : Size) (v : Value) → OfSize z false v → Made (OfSize z false) (defined at (negated v))
unfolding negated
negated_made at z (word s a) p = p
negated_made at z (integer i) p = absurd (cc p)
negated_made at z (boolean c) p = absurd p

pub inverted_made : (z : Size) (v : Value) → OfSize z false v → OfSize z false (inverted v)
unfolding inverted
inverted_made z (word s a) p = p
inverted_made z (integer i) p = absurd (cc p)
inverted_made z (boolean c) p = absurd p

pub inverted_truth : (v : Value) → IsTruth v → IsTruth (inverted v)
unfolding inverted
inverted_truth (boolean c) p = tt
inverted_truth (word s a) p = absurd p
inverted_truth (integer i) p = absurd p

pub cast_made : (at : Span) (u z : Size) (sign : Bool) (v : Value) → OfSize u false v → Made (OfSize z false) (defined at (cast_value z sign v))
unfolding cast_value
cast_made at u z sign (word s a) p = refl
cast_made at u z sign (integer i) p = absurd (cc p)
cast_made at u z sign (boolean c) p = absurd p
