-- Words are below the number of words of their size.
use Rattle.std.proofs.Common.{◌≡◌, ℕ, ◌/◌, ◌%◌, ◌^◌, ◌<◌, List, [], ◌∷◌, Option, Some, None, Bool, true, false, refl, arith, if◌then◌else◌}
use Rattle.std.specs.Prelude.{◌==◌}
use Rattle.std.proofs.Math.Nat.{div-le_self, mod-lt, mod-le}
use Rattle.jz_meaning.specs.declared.value.Why.TheVariants.{Divide}
use Rattle.std.proofs.lemmas.Nat.{or_lt, xor_lt, and_le_l}
use Rattle.jz_tree.specs.Span.{Span}
use Rattle.x64_insn.specs.Size.{Size}
use Rattle.x64_insn.specs.Sizes.{bits_of, modulus}
use Rattle.jz_words.proofs.Residues.{residue_below, some_words}
use Rattle.jz_tree.specs.declared.expr.BinOp.{BinOp}
use Rattle.jz_tree.specs.declared.expr.BinOp.TheVariants as o
use Rattle.jz_runs.specs.Rules.{stuck, went}
use Rattle.jz_meaning.specs.Attempts.{Evaluation, stuck_at, numbers_first, and_then, defined}
use Rattle.jz_meaning.specs.States.{Value, word, boolean, integer}
use Rattle.jz_fact_laws.specs.Saying.{Yields, Fits}
use Rattle.jz_meaning.specs.Operators.{divided, on_words, shifted_word, by_flag, joined, is_settled}

yields_first : {A : Type 0} (Q : A → Type 0) (ns : List ℕ) (g : Evaluation A) → Yields Q g → Yields Q (numbers_first ns g)
yields_first Q ns (stuck w) h = tt
yields_first Q ns (went ms x) h = h

pub yields_then : {A B : Type 0} (Q : A → Type 0) (R : B → Type 0) (g : Evaluation A) (f : A → Evaluation B) → Yields Q g → ((x : A) → Q x → Yields R (f x)) → Yields R (and_then g f)
yields_then Q R (stuck w) f h k = tt
yields_then Q R (went ns x) f h k = yields_first R ns (f x) (k x h)

pub yields_defined : {A : Type 0} (Q : A → Type 0) (at : Span) (p : Option A) → ((x : A) → p ≡ Some x → Q x) → Yields Q (defined at p)
yields_defined Q at None h = tt
yields_defined Q at (Some x) h = h x refl

pub yields_if : {A : Type 0} (Q : A → Type 0) (c : Bool) (a b : Evaluation A) → (c ≡ true → Yields Q a) → (c ≡ false → Yields Q b) → Yields Q (if c then a else b)
yields_if Q true a b h k = h refl
yields_if Q false a b h k = k refl

pub yields_all : {A : Type 0} (Q R : A → Type 0) (g : Evaluation A) → ((x : A) → Q x → R x) → Yields Q g → Yields R g
yields_all Q R (stuck w) f h = tt
yields_all Q R (went ns x) f h = f x h

pub below_all : (s : Size) (a : ℕ) → a % modulus s < modulus s
below_all s a = mod-lt a (some_words s)

divided_fits : (at : Span) (s : Size) (h a b r : ℕ) → r < modulus s → Yields Fits (divided at s h a b r)
divided_fits at s h a b r lt = yields_if Fits (b == 0) (stuck_at at Divide) (went (h ∷ a ∷ b ∷ []) (word s r)) (λ e. tt) (λ e. lt)

or_true : (c : Bool) (at : Span) (s : Size) (ns : List ℕ) (r : ℕ) → r < modulus s → Yields Fits (if c then stuck_at at Divide else went ns (word s r))
or_true true at s ns r lt = tt
or_true false at s ns r lt = lt

rem_fits : (s : Size) (a b : ℕ) → a < modulus s → a % b < modulus s
rem_fits s a b lt = let d = mod-le a b in omega (arith, d, lt)

pub words_fit : (op : BinOp) (at : Span) (s : Size) (a b : ℕ) → a < modulus s → b < modulus s → Yields Fits (on_words op at s a b)
words_fit o.OrElse at s a b p q = tt
words_fit o.AndThen at s a b p q = tt
words_fit o.Or at s a b p q = or_lt (bits_of s) a b p q
words_fit o.Xor at s a b p q = xor_lt (bits_of s) a b p q
words_fit o.And at s a b p q = let h = and_le_l a b in omega (arith, h, p)
words_fit o.Eq at s a b p q = tt
words_fit o.Ne at s a b p q = tt
words_fit o.Lt at s a b p q = tt
words_fit o.Le at s a b p q = tt
words_fit o.Gt at s a b p q = tt
words_fit o.Ge at s a b p q = tt
words_fit o.LtS at s a b p q = tt
words_fit o.LeS at s a b p q = tt
words_fit o.GtS at s a b p q = tt
words_fit o.GeS at s a b p q = tt
words_fit o.Shl at s a b p q = tt
words_fit o.Shr at s a b p q = tt
words_fit o.Sar at s a b p q = tt
words_fit o.Rol at s a b p q = tt
words_fit o.Ror at s a b p q = tt
words_fit o.Add at s a b p q = below_all s _
words_fit o.Sub at s a b p q = below_all s _
words_fit o.Mul at s a b p q = below_all s _
words_fit o.Div at s a b p q = divided_fits at s 0 a b (a / b) (let h = div-le_self a b in omega (arith, h, p))
words_fit o.Rem at s a b p q = divided_fits at s 0 a b (a % b) (rem_fits s a b p)
words_fit o.DivS at s a b p q = or_true _ at s _ _ (residue_below s _)
words_fit o.RemS at s a b p q = or_true _ at s _ _ (residue_below s _)

pub flag_fits : (op : BinOp) (at : Span) (s : Size) (a : ℕ) (c : Bool) → a < modulus s → Yields Fits (defined at (by_flag op s a c))
flag_fits o.OrElse at s a c p = tt
flag_fits o.AndThen at s a c p = tt
flag_fits o.Or at s a c p = tt
flag_fits o.Xor at s a c p = tt
flag_fits o.And at s a c p = tt
flag_fits o.Eq at s a c p = tt
flag_fits o.Ne at s a c p = tt
flag_fits o.Lt at s a c p = tt
flag_fits o.Le at s a c p = tt
flag_fits o.Gt at s a c p = tt
flag_fits o.Ge at s a c p = tt
flag_fits o.LtS at s a c p = tt
flag_fits o.LeS at s a c p = tt
flag_fits o.GtS at s a c p = tt
flag_fits o.GeS at s a c p = tt
flag_fits o.Shl at s a c p = tt
flag_fits o.Shr at s a c p = tt
flag_fits o.Sar at s a c p = tt
flag_fits o.Rol at s a c p = tt
flag_fits o.Ror at s a c p = tt
flag_fits o.Add at s a c p = below_all s _
flag_fits o.Sub at s a c p = below_all s _
flag_fits o.Mul at s a c p = tt
flag_fits o.Div at s a c p = tt
flag_fits o.Rem at s a c p = tt
flag_fits o.DivS at s a c p = tt
flag_fits o.RemS at s a c p = tt

pub count_fits : (op : BinOp) (at : Span) (s : Size) (a n : ℕ) → a < modulus s → Yields Fits (defined at (shifted_word op s a n))
count_fits o.OrElse at s a n p = tt
count_fits o.AndThen at s a n p = tt
count_fits o.Or at s a n p = tt
count_fits o.Xor at s a n p = tt
count_fits o.And at s a n p = tt
count_fits o.Eq at s a n p = tt
count_fits o.Ne at s a n p = tt
count_fits o.Lt at s a n p = tt
count_fits o.Le at s a n p = tt
count_fits o.Gt at s a n p = tt
count_fits o.Ge at s a n p = tt
count_fits o.LtS at s a n p = tt
count_fits o.LeS at s a n p = tt
count_fits o.GtS at s a n p = tt
count_fits o.GeS at s a n p = tt
count_fits o.Shl at s a n p = below_all s _
count_fits o.Shr at s a n p = let h = div-le_self a (2 ^ n) in omega (arith, h, p)
count_fits o.Sar at s a n p = residue_below s _
count_fits o.Rol at s a n p = below_all s _
count_fits o.Ror at s a n p = below_all s _
count_fits o.Add at s a n p = tt
count_fits o.Sub at s a n p = tt
count_fits o.Mul at s a n p = tt
count_fits o.Div at s a n p = tt
count_fits o.Rem at s a n p = tt
count_fits o.DivS at s a n p = tt
count_fits o.RemS at s a n p = tt

pub bools_fit : (op : BinOp) (at : Span) (c : Bool) (Q : Value → Type 0) → ((b : Bool) → Q (boolean b)) → Yields Q (defined at (joined op c))
bools_fit o.OrElse at c Q h = h c
bools_fit o.AndThen at c Q h = h c
bools_fit o.Or at c Q h = tt
bools_fit o.Xor at c Q h = tt
bools_fit o.And at c Q h = tt
bools_fit o.Eq at c Q h = tt
bools_fit o.Ne at c Q h = tt
bools_fit o.Lt at c Q h = tt
bools_fit o.Le at c Q h = tt
bools_fit o.Gt at c Q h = tt
bools_fit o.Ge at c Q h = tt
bools_fit o.LtS at c Q h = tt
bools_fit o.LeS at c Q h = tt
bools_fit o.GtS at c Q h = tt
bools_fit o.GeS at c Q h = tt
bools_fit o.Shl at c Q h = tt
bools_fit o.Shr at c Q h = tt
bools_fit o.Sar at c Q h = tt
bools_fit o.Rol at c Q h = tt
bools_fit o.Ror at c Q h = tt
bools_fit o.Add at c Q h = tt
bools_fit o.Sub at c Q h = tt
bools_fit o.Mul at c Q h = tt
bools_fit o.Div at c Q h = tt
bools_fit o.Rem at c Q h = tt
bools_fit o.DivS at c Q h = tt
bools_fit o.RemS at c Q h = tt

pub settled_is : (op : BinOp) (x : Value) (Q : Value → Type 0) → ((b : Bool) → Q (boolean b)) → is_settled op x ≡ true → Q x
settled_is o.AndThen (boolean c) Q h e = h c
settled_is o.OrElse (boolean c) Q h e = h c
settled_is o.AndThen (word s a) Q h e = absurd (cc e)
settled_is o.AndThen (integer a) Q h e = absurd (cc e)
settled_is o.OrElse (word s a) Q h e = absurd (cc e)
settled_is o.OrElse (integer a) Q h e = absurd (cc e)
settled_is o.Or x Q h e = absurd (cc e)
settled_is o.Xor x Q h e = absurd (cc e)
settled_is o.And x Q h e = absurd (cc e)
settled_is o.Eq x Q h e = absurd (cc e)
settled_is o.Ne x Q h e = absurd (cc e)
settled_is o.Lt x Q h e = absurd (cc e)
settled_is o.Le x Q h e = absurd (cc e)
settled_is o.Gt x Q h e = absurd (cc e)
settled_is o.Ge x Q h e = absurd (cc e)
settled_is o.LtS x Q h e = absurd (cc e)
settled_is o.LeS x Q h e = absurd (cc e)
settled_is o.GtS x Q h e = absurd (cc e)
settled_is o.GeS x Q h e = absurd (cc e)
settled_is o.Shl x Q h e = absurd (cc e)
settled_is o.Shr x Q h e = absurd (cc e)
settled_is o.Sar x Q h e = absurd (cc e)
settled_is o.Rol x Q h e = absurd (cc e)
settled_is o.Ror x Q h e = absurd (cc e)
settled_is o.Add x Q h e = absurd (cc e)
settled_is o.Sub x Q h e = absurd (cc e)
settled_is o.Mul x Q h e = absurd (cc e)
settled_is o.Div x Q h e = absurd (cc e)
settled_is o.Rem x Q h e = absurd (cc e)
settled_is o.DivS x Q h e = absurd (cc e)
settled_is o.RemS x Q h e = absurd (cc e)
