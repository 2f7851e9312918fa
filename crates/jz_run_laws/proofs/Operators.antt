-- What operators give fits its size.
use Rattle.std.proofs.Common.{◌≡◌, ℕ, ◌*◌, ◌/◌, ◌%◌, ◌^◌, ◌<◌, ◌==◌, Bool, true, false, List, Option, Some, None, refl, sym, subst, if◌then◌else◌, ℤ, pos, negsuc, option_map}
use Rattle.std.specs.Prelude.{◌||◌, int_div, int_rem}
use Rattle.jz_tree.specs.Span.{Span}
use Rattle.jz_tree.specs.Size.{Size}
use Rattle.jz_tree.specs.Sizes.{modulus, signed}
use Rattle.jz_tree.specs.Words.{residue}
use Rattle.jz_tree.proofs.Residues.{residue_below}
use Rattle.jz_tree.specs.declared.expr.BinOp.{BinOp}
use Rattle.jz_tree.specs.declared.expr.BinOp.TheVariants as o
use Rattle.jz_tree.specs.Operators.{is_shift, joins}
use Rattle.jz_meaning.specs.Constant.{Constant}
use Rattle.jz_meaning.specs.Constant.TheVariants as constant
use Rattle.jz_meaning.specs.Integers as numbers
use Rattle.jz_meaning.specs.Integers.{on_integers}
use Rattle.jz_meaning.specs.declared.value.Why.TheVariants.{Init, Divide}
use Rattle.jz_meaning.specs.Rules.{went}
use Rattle.jz_meaning.specs.Attempts.{stuck_at, defined}
use Rattle.jz_meaning.specs.States.{Value, word, boolean, integer}
use Rattle.jz_meaning.specs.Operators.{of_constant, same_size, is_least_by_minus_one, plain, on_words, by_count, shifted_word, by_flag, joined, combined, shifted, binary, negated, inverted, cast}
use Rattle.jz_meaning.proofs.Widths.{equal_sizes}
use Rattle.jz_run_laws.specs.Kinds.{FitsSize}
use Rattle.jz_run_laws.specs.Kept.{IfWent}
use Rattle.jz_run_laws.proofs.Parts.{IfThere, went_defined}
use Rattle.jz_run_laws.proofs.Bounds.{IsBelow, cut_below, quotient_below, rest_below, and_below, or_below, xor_below, turned_below}

abbrev pub MayFit : Option Value → Type 0
MayFit = IfThere FitsSize

fits_defined : (at : Span) (p : Option Value) → MayFit p → IfWent FitsSize (defined at p)
fits_defined at p h = went_defined FitsSize at p h

constants_fit : (p : Option Constant) → MayFit (option_map of_constant p)
constants_fit None = tt
constants_fit (Some (constant.Int n)) = tt
constants_fit (Some (constant.Bool c)) = tt

plain_fits : (op : BinOp) (s : Size) (a b : ℕ) → a < modulus s → b < modulus s → MayFit (plain op s a b)
plain_fits o.Or s a b la lb = or_below s a b la lb
plain_fits o.Xor s a b la lb = xor_below s a b la lb
plain_fits o.And s a b la lb = and_below s a b la
plain_fits o.Add s a b la lb = cut_below s _
plain_fits o.Sub s a b la lb = cut_below s _
plain_fits o.Mul s a b la lb = cut_below s (a * b)
plain_fits _ s a b la lb = tt

divided_fits : (c : Bool) (at : Span) (ns : List ℕ) (s : Size) (r : ℕ) → r < modulus s → IfWent FitsSize (if c then stuck_at at Divide else went ns (word s r))
divided_fits true at ns s r h = tt
divided_fits false at ns s r h = h

words_fit : (op : BinOp) (at : Span) (s : Size) (a b : ℕ) → a < modulus s → b < modulus s → IfWent FitsSize (on_words op at s a b)
words_fit o.Div at s a b la lb = divided_fits (b == 0) at _ s (a / b) (quotient_below s a b la)
words_fit o.Rem at s a b la lb = divided_fits (b == 0) at _ s (a % b) (rest_below s a b la)
words_fit o.DivS at s a b la lb = divided_fits (b == 0 || is_least_by_minus_one s a b) at _ s _ (residue_below s (int_div (signed s a) (signed s b)))
words_fit o.RemS at s a b la lb = divided_fits (b == 0 || is_least_by_minus_one s a b) at _ s _ (residue_below s (int_rem (signed s a) (signed s b)))
words_fit o.Or at s a b la lb = fits_defined at (plain o.Or s a b) (plain_fits o.Or s a b la lb)
words_fit o.Xor at s a b la lb = fits_defined at (plain o.Xor s a b) (plain_fits o.Xor s a b la lb)
words_fit o.And at s a b la lb = fits_defined at (plain o.And s a b) (plain_fits o.And s a b la lb)
words_fit o.Add at s a b la lb = fits_defined at (plain o.Add s a b) (plain_fits o.Add s a b la lb)
words_fit o.Sub at s a b la lb = fits_defined at (plain o.Sub s a b) (plain_fits o.Sub s a b la lb)
words_fit o.Mul at s a b la lb = fits_defined at (plain o.Mul s a b) (plain_fits o.Mul s a b la lb)
words_fit _ at s a b la lb = tt

count_below : (op : BinOp) (s : Size) (a n : ℕ) → a < modulus s → IfThere (IsBelow s) (by_count op s a n)
count_below o.Shl s a n lt = cut_below s _
count_below o.Shr s a n lt = quotient_below s a (2 ^ n) lt
count_below o.Sar s a n lt = residue_below s _
count_below o.Rol s a n lt = cut_below s _
count_below o.Ror s a n lt = cut_below s _
count_below _ s a n lt = tt

as_word : (s : Size) (p : Option ℕ) → IfThere (IsBelow s) p → MayFit (option_map (word s) p)
as_word s None h = tt
as_word s (Some a) h = h

shifted_word_fits : (op : BinOp) (s : Size) (a n : ℕ) → a < modulus s → MayFit (shifted_word op s a n)
shifted_word_fits op s a n lt = as_word s (by_count op s a n) (count_below op s a n lt)

flag_fits : (op : BinOp) (s : Size) (a : ℕ) (c : Bool) → MayFit (by_flag op s a c)
flag_fits o.Add s a c = cut_below s _
flag_fits o.Sub s a c = cut_below s _
flag_fits _ s a c = tt

joined_if : (b right : Bool) → MayFit (if b then Some (boolean right) else None)
joined_if true right = tt
joined_if false right = tt

same_fits : (c : Bool) (op : BinOp) (at : Span) (s z : Size) (a b : ℕ) → same_size s z ≡ c → a < modulus s → b < modulus z → IfWent FitsSize (if c then on_words op at s a b else stuck_at at Init)
same_fits true op at s z a b e la lb = words_fit op at s a b la (subst (λ y. b < modulus y) (sym (equal_sizes s z e)) lb)
same_fits false op at s z a b e la lb = tt

combined_fits : (op : BinOp) (at : Span) (x y : Value) → FitsSize x → FitsSize y → IfWent FitsSize (combined op at x y)
unfolding combined
combined_fits op at (word s a) (word z b) hx hy = same_fits (same_size s z) op at s z a b refl hx hy
combined_fits op at (word s a) (integer j) hx hy = words_fit op at s a (residue s j) hx (residue_below s j)
combined_fits op at (word s a) (boolean c) hx hy = fits_defined at (by_flag op s a c) (flag_fits op s a c)
combined_fits op at (integer i) (word s b) hx hy = words_fit op at s (residue s i) b (residue_below s i) hy
combined_fits op at (integer i) (integer j) hx hy = fits_defined at (option_map of_constant (on_integers op i j)) (constants_fit (on_integers op i j))
combined_fits op at (integer i) (boolean c) hx hy = tt
combined_fits op at (boolean a) (word s b) hx hy = tt
combined_fits op at (boolean a) (integer j) hx hy = tt
combined_fits op at (boolean a) (boolean c) hx hy = fits_defined at (joined op c) (joined_if (joins op) c)

shifted_fits : (op : BinOp) (w : Option Size) (x y : Value) → FitsSize x → MayFit (shifted op w x y)
unfolding shifted
shifted_fits op w (word s a) (word z n) h = shifted_word_fits op s a n h
shifted_fits op w (word s a) (integer (pos n)) h = shifted_word_fits op s a n h
shifted_fits op w (word s a) (integer (negsuc n)) h = tt
shifted_fits op w (word s a) (boolean c) h = tt
shifted_fits op w (integer i) (integer j) h = constants_fit (on_integers op i j)
shifted_fits op (Some s) (integer i) (word z n) h = shifted_word_fits op s (residue s i) n (residue_below s i)
shifted_fits op None (integer i) (word z n) h = tt
shifted_fits op w (integer i) (boolean c) h = tt
shifted_fits op w (boolean a) y h = tt

binary_by : (b : Bool) (op : BinOp) (at : Span) (w : Option Size) (x y : Value) → FitsSize x → FitsSize y → IfWent FitsSize (if b then defined at (shifted op w x y) else combined op at x y)
binary_by true op at w x y hx hy = fits_defined at (shifted op w x y) (shifted_fits op w x y hx)
binary_by false op at w x y hx hy = combined_fits op at x y hx hy

pub binary_fits : (op : BinOp) (at : Span) (w : Option Size) (x y : Value) → FitsSize x → FitsSize y → IfWent FitsSize (binary op at w x y)
unfolding binary
binary_fits op at w x y hx hy = binary_by (is_shift op) op at w x y hx hy

integers_fit : (p : Option ℤ) → MayFit (option_map integer p)
integers_fit None = tt
integers_fit (Some i) = tt

pub negated_fits : (v : Value) → MayFit (negated v)
unfolding negated
negated_fits (word s a) = cut_below s _
negated_fits (integer i) = integers_fit (numbers.negated i)
negated_fits (boolean c) = tt

pub inverted_fits : (v : Value) → FitsSize (inverted v)
unfolding inverted
inverted_fits (word s a) = turned_below s a
inverted_fits (integer i) = tt
inverted_fits (boolean c) = tt

cast_by : (b : Bool) (z s : Size) (a : ℕ) → (if b then residue z (signed s a) else a % modulus z) < modulus z
cast_by true z s a = residue_below z (signed s a)
cast_by false z s a = cut_below z a

pub cast_fits : (z : Size) (sign : Bool) (v : Value) → MayFit (cast z sign v)
unfolding cast
cast_fits z sign (word s a) = cast_by sign z s a
cast_fits z sign (integer i) = tt
cast_fits z sign (boolean c) = tt
