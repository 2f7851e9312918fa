-- What operators give of values in their places.
use Rattle.std.proofs.Common.{◌≡◌, ℕ, ℤ, pos, negsuc, Bool, true, false, List, Option, Some, None, refl, ap, if◌then◌else◌, option_map}
use Rattle.std.proofs.lemmas.Bool.{false≢true}
use Rattle.std.specs.Prelude.{◌||◌, ◌==◌}
use Rattle.jz_tree.specs.Span.{Span}
use Rattle.jz_tree.specs.Size.{Size}
use Rattle.jz_tree.specs.Words.{residue}
use Rattle.jz_tree.specs.declared.expr.BinOp.{BinOp}
use Rattle.jz_tree.specs.declared.expr.BinOp.TheVariants as o
use Rattle.jz_tree.specs.Operators.{joins}
use Rattle.jz_meaning.specs.Integers as numbers
use Rattle.jz_meaning.specs.Integers.{on_integers}
use Rattle.jz_type_sizes.specs.declared.operators.Group.{Group}
use Rattle.jz_type_sizes.specs.declared.operators.Group.TheVariants as group
use Rattle.jz_type_sizes.specs.Operators.{group_of}
use Rattle.jz_meaning.specs.Rules.{went}
use Rattle.jz_judgement.specs.Places.{Place, TakesNumber, TakesWord, IsSum, count_place}
use Rattle.jz_judgement.specs.Places as place
use Rattle.jz_judgement.proofs.Nothing.{some_not, same_some}
use Rattle.jz_meaning.specs.declared.value.Why.TheVariants.{Init, Divide}
use Rattle.jz_meaning.specs.Attempts.{stuck_at, defined}
use Rattle.jz_meaning.specs.States.{Value, word, boolean, integer}
use Rattle.jz_meaning.specs.Operators.{of_constant, same_size, is_least_by_minus_one, on_words, by_count, by_flag, joined, combined, shifted, negated, inverted, cast}
use Rattle.jz_run_laws.specs.Kept.{IfWent}
use Rattle.jz_run_laws.proofs.Parts.{IfThere, went_defined}
use Rattle.jz_run_laws.specs.Values.{IsAt, IsWanted}

-- ---- values in places
pub word_at : (p : Place) (z : Size) (a : ℕ) → TakesWord z p → IsAt p (word z a)
word_at place.integer z a h = absurd h
word_at place.truth z a h = absurd h
word_at (place.word y) z a h = h
word_at (place.stated y) z a h = h
word_at place.unsized z a h = absurd h

at_word : (p : Place) (z : Size) (a : ℕ) → IsAt p (word z a) → TakesWord z p
at_word place.integer z a h = absurd h
at_word place.truth z a h = absurd h
at_word (place.word y) z a h = h
at_word (place.stated y) z a h = h
at_word place.unsized z a h = absurd h

pub number_at : (p : Place) (i : ℤ) → TakesNumber p → IsAt p (integer i)
number_at place.integer i h = tt
number_at place.truth i h = absurd h
number_at (place.word y) i h = tt
number_at (place.stated y) i h = tt
number_at place.unsized i h = tt

pub no_bool : (p : Place) (c : Bool) → TakesNumber p → IsAt p (boolean c) → ⊥
no_bool place.integer c k h = h
no_bool place.truth c k h = k
no_bool (place.word y) c k h = h
no_bool (place.stated y) c k h = h
no_bool place.unsized c k h = h

-- ---- groups
abbrev pub IsOf : Group → BinOp → Type 0
IsOf g op = group_of op ≡ g

abbrev pub is_arith : Group → Bool
is_arith group.Arith = true
is_arith _ = false

abbrev pub is_compare : Group → Bool
is_compare group.Compare = true
is_compare _ = false

abbrev pub is_moved : Group → Bool
is_moved group.Shift = true
is_moved _ = false

-- ---- on words
divided_at : (p : Place) (c : Bool) (at : Span) (ns : List ℕ) (s : Size) (r : ℕ) → TakesWord s p → IfWent (IsAt p) (if c then stuck_at at Divide else went ns (word s r))
divided_at p true at ns s r h = tt
divided_at p false at ns s r h = word_at p s r h

words_arith : (op : BinOp) (p : Place) (at : Span) (s : Size) (a b : ℕ) → is_arith (group_of op) ≡ true → TakesWord s p → IfWent (IsAt p) (on_words op at s a b)
words_arith o.Div p at s a b g h = divided_at p (b == 0) at _ s _ h
words_arith o.Rem p at s a b g h = divided_at p (b == 0) at _ s _ h
words_arith o.DivS p at s a b g h = divided_at p (b == 0 || is_least_by_minus_one s a b) at _ s _ h
words_arith o.RemS p at s a b g h = divided_at p (b == 0 || is_least_by_minus_one s a b) at _ s _ h
words_arith o.Or p at s a b g h = word_at p s _ h
words_arith o.Xor p at s a b g h = word_at p s _ h
words_arith o.And p at s a b g h = word_at p s _ h
words_arith o.Add p at s a b g h = word_at p s _ h
words_arith o.Sub p at s a b g h = word_at p s _ h
words_arith o.Mul p at s a b g h = word_at p s _ h
words_arith op p at s a b g h = absurd (false≢true g)

words_compare : (op : BinOp) (at : Span) (s : Size) (a b : ℕ) → is_compare (group_of op) ≡ true → IfWent (IsAt place.truth) (on_words op at s a b)
words_compare o.Eq at s a b g = tt
words_compare o.Ne at s a b g = tt
words_compare o.Lt at s a b g = tt
words_compare o.Le at s a b g = tt
words_compare o.Gt at s a b g = tt
words_compare o.Ge at s a b g = tt
words_compare o.LtS at s a b g = tt
words_compare o.LeS at s a b g = tt
words_compare o.GtS at s a b g = tt
words_compare o.GeS at s a b g = tt
words_compare op at s a b g = absurd (false≢true g)

-- ---- on integers
numbers_there : (p : Place) (n : Option ℤ) → TakesNumber p → IfThere (IsAt p) (option_map of_constant (numbers.number n))
numbers_there p None h = tt
numbers_there p (Some i) h = number_at p i h

integers_give : (op : BinOp) (p : Place) (i j : ℤ) → (is_arith (group_of op) || is_moved (group_of op)) ≡ true → TakesNumber p → IfThere (IsAt p) (option_map of_constant (on_integers op i j))
integers_give o.Or p i j g h = number_at p _ h
integers_give o.Xor p i j g h = number_at p _ h
integers_give o.And p i j g h = number_at p _ h
integers_give o.Add p i j g h = numbers_there p _ h
integers_give o.Sub p i j g h = numbers_there p _ h
integers_give o.Mul p i j g h = numbers_there p _ h
integers_give o.Div p i j g h = numbers_there p _ h
integers_give o.Rem p i j g h = numbers_there p _ h
integers_give o.DivS p i j g h = tt
integers_give o.RemS p i j g h = tt
integers_give o.Shl p i j g h = numbers_there p _ h
integers_give o.Shr p i j g h = numbers_there p _ h
integers_give o.Sar p i j g h = tt
integers_give o.Rol p i j g h = tt
integers_give o.Ror p i j g h = tt
integers_give op p i j g h = absurd (false≢true g)

integers_compare : (op : BinOp) (i j : ℤ) → is_compare (group_of op) ≡ true → IfThere (IsAt place.truth) (option_map of_constant (on_integers op i j))
integers_compare o.Eq i j g = tt
integers_compare o.Ne i j g = tt
integers_compare o.Lt i j g = tt
integers_compare o.Le i j g = tt
integers_compare o.Gt i j g = tt
integers_compare o.Ge i j g = tt
integers_compare o.LtS i j g = tt
integers_compare o.LeS i j g = tt
integers_compare o.GtS i j g = tt
integers_compare o.GeS i j g = tt
integers_compare op i j g = absurd (false≢true g)

-- ---- two values
arith_same : (c : Bool) (op : BinOp) (p : Place) (at : Span) (s : Size) (a b : ℕ) → is_arith (group_of op) ≡ true → TakesWord s p → IfWent (IsAt p) (if c then on_words op at s a b else stuck_at at Init)
arith_same true op p at s a b g h = words_arith op p at s a b g h
arith_same false op p at s a b g h = tt

arith_any : (op : BinOp) → is_arith (group_of op) ≡ true → (is_arith (group_of op) || is_moved (group_of op)) ≡ true
arith_any op g = ap (λ b. b || is_moved (group_of op)) g

pub arith_at : (op : BinOp) (p : Place) (at : Span) (x y : Value) → is_arith (group_of op) ≡ true → TakesNumber p → IsAt p x → IsAt p y → IfWent (IsAt p) (combined op at x y)
unfolding combined
arith_at op p at (word s a) (word z b) g k hx hy = arith_same (same_size s z) op p at s a b g (at_word p s a hx)
arith_at op p at (word s a) (integer j) g k hx hy = words_arith op p at s a (residue s j) g (at_word p s a hx)
arith_at op p at (integer i) (word s b) g k hx hy = words_arith op p at s (residue s i) b g (at_word p s b hy)
arith_at op p at (integer i) (integer j) g k hx hy = went_defined (IsAt p) at (option_map of_constant (on_integers op i j)) (integers_give op p i j (arith_any op g) k)
arith_at op p at (word s a) (boolean c) g k hx hy = absurd (no_bool p c k hy)
arith_at op p at (integer i) (boolean c) g k hx hy = absurd (no_bool p c k hy)
arith_at op p at (boolean a) y g k hx hy = absurd (no_bool p a k hx)

carry_word : (op : BinOp) (p : Place) (at : Span) (s : Size) (a : ℕ) (c : Bool) → IsSum op → TakesWord s p → IfWent (IsAt p) (defined at (by_flag op s a c))
carry_word o.Add p at s a c g h = word_at p s _ h
carry_word o.Sub p at s a c g h = word_at p s _ h
carry_word op p at s a c g h = absurd g

carry_bool : (op : BinOp) (p : Place) (at : Span) (c : Bool) → IsSum op → IfWent (IsAt p) (defined at (joined op c))
carry_bool o.Add p at c g = tt
carry_bool o.Sub p at c g = tt
carry_bool op p at c g = absurd g

pub carry_at : (op : BinOp) (p : Place) (at : Span) (x y : Value) → IsSum op → IsAt p x → IsAt place.truth y → IfWent (IsAt p) (combined op at x y)
unfolding combined
carry_at op p at (word s a) (boolean c) g hx hy = carry_word op p at s a c g (at_word p s a hx)
carry_at op p at (integer i) (boolean c) g hx hy = tt
carry_at op p at (boolean a) (boolean c) g hx hy = carry_bool op p at c g
carry_at op p at x (word s b) g hx hy = absurd hy
carry_at op p at x (integer j) g hx hy = absurd hy

shifted_there : (p : Place) (s : Size) (n : Option ℕ) → TakesWord s p → IfThere (IsAt p) (option_map (word s) n)
shifted_there p s None h = tt
shifted_there p s (Some a) h = word_at p s a h

wanted_word : (p : Place) (s : Size) (n : ℕ) (z : Size) → TakesNumber p → IsWanted p (Some s) → IsAt (count_place p) (word z n) → TakesWord s p
wanted_word place.integer s n z k w h = absurd h
wanted_word place.truth s n z k w h = absurd k
wanted_word (place.word y) s n z k w h = same_some s y w
wanted_word (place.stated y) s n z k w h = same_some s y w
wanted_word place.unsized s n z k w h = absurd (some_not s w)

moved_any : (op : BinOp) → is_moved (group_of op) ≡ true → (b : Bool) → (b || is_moved (group_of op)) ≡ true
moved_any op g true = refl
moved_any op g false = g

pub shift_at : (op : BinOp) (p : Place) (w : Option Size) (x y : Value) → is_moved (group_of op) ≡ true → TakesNumber p → IsWanted p w
    → IsAt p x → IsAt (count_place p) y → IfThere (IsAt p) (shifted op w x y)
unfolding shifted
shift_at op p w (word s a) (word z n) g k f hx hy = shifted_there p s (by_count op s a n) (at_word p s a hx)
shift_at op p w (word s a) (integer (pos n)) g k f hx hy = shifted_there p s (by_count op s a n) (at_word p s a hx)
shift_at op p w (word s a) (integer (negsuc n)) g k f hx hy = tt
shift_at op p w (word s a) (boolean c) g k f hx hy = tt
shift_at op p w (integer i) (integer j) g k f hx hy = integers_give op p i j (moved_any op g (is_arith (group_of op))) k
shift_at op p (Some s) (integer i) (word z n) g k f hx hy = shifted_there p s (by_count op s (residue s i) n) (wanted_word p s n z k f hy)
shift_at op p None (integer i) (word z n) g k f hx hy = tt
shift_at op p w (integer i) (boolean c) g k f hx hy = tt
shift_at op p w (boolean a) y g k f hx hy = tt

pub integers_at : (op : BinOp) (at : Span) (x y : Value) → is_compare (group_of op) ≡ true → IsAt place.integer x → IsAt place.integer y → IfWent (IsAt place.truth) (combined op at x y)
unfolding combined
integers_at op at (integer i) (integer j) g hx hy = went_defined (IsAt place.truth) at (option_map of_constant (on_integers op i j)) (integers_compare op i j g)
integers_at op at (integer i) (word s b) g hx hy = absurd hy
integers_at op at (integer i) (boolean c) g hx hy = absurd hy
integers_at op at (word s a) y g hx hy = absurd hx
integers_at op at (boolean a) y g hx hy = absurd hx

compare_same : (c : Bool) (op : BinOp) (at : Span) (s : Size) (a b : ℕ) → is_compare (group_of op) ≡ true → IfWent (IsAt place.truth) (if c then on_words op at s a b else stuck_at at Init)
compare_same true op at s a b g = words_compare op at s a b g
compare_same false op at s a b g = tt

pub words_at : (op : BinOp) (z : Size) (at : Span) (x y : Value) → is_compare (group_of op) ≡ true → IsAt (place.word z) x → IsAt (place.word z) y → IfWent (IsAt place.truth) (combined op at x y)
unfolding combined
words_at op q at (word s a) (word z b) g hx hy = compare_same (same_size s z) op at s a b g
words_at op q at (word s a) (integer j) g hx hy = words_compare op at s a (residue s j) g
words_at op q at (integer i) (word s b) g hx hy = words_compare op at s (residue s i) b g
words_at op q at (integer i) (integer j) g hx hy = went_defined (IsAt place.truth) at (option_map of_constant (on_integers op i j)) (integers_compare op i j g)
words_at op q at (word s a) (boolean c) g hx hy = absurd hy
words_at op q at (integer i) (boolean c) g hx hy = absurd hy
words_at op q at (boolean a) y g hx hy = absurd hx

joined_there : (b right : Bool) → IfThere (IsAt place.truth) (if b then Some (boolean right) else None)
joined_there true right = tt
joined_there false right = tt

pub logic_at : (op : BinOp) (at : Span) (x y : Value) → IsAt place.truth x → IsAt place.truth y → IfWent (IsAt place.truth) (combined op at x y)
unfolding combined
logic_at op at (boolean a) (boolean c) hx hy = went_defined (IsAt place.truth) at (joined op c) (joined_there (joins op) c)
logic_at op at (boolean a) (word s b) hx hy = absurd hy
logic_at op at (boolean a) (integer j) hx hy = absurd hy
logic_at op at (word s a) y hx hy = absurd hx
logic_at op at (integer i) y hx hy = absurd hx

-- ---- one value
negated_there : (p : Place) (n : Option ℤ) → TakesNumber p → IfThere (IsAt p) (option_map integer n)
negated_there p None h = tt
negated_there p (Some i) h = number_at p i h

pub negated_at : (p : Place) (x : Value) → TakesNumber p → IsAt p x → IfThere (IsAt p) (negated x)
unfolding negated
negated_at p (word s a) k h = word_at p s _ (at_word p s a h)
negated_at p (integer i) k h = negated_there p (numbers.negated i) k
negated_at p (boolean c) k h = tt

other_number : (p : Place) (i j : ℤ) → IsAt p (integer i) → IsAt p (integer j)
other_number place.integer i j h = tt
other_number place.truth i j h = absurd h
other_number (place.word y) i j h = tt
other_number (place.stated y) i j h = tt
other_number place.unsized i j h = tt

other_bool : (p : Place) (c d : Bool) → IsAt p (boolean c) → IsAt p (boolean d)
other_bool place.integer c d h = absurd h
other_bool place.truth c d h = tt
other_bool (place.word y) c d h = absurd h
other_bool (place.stated y) c d h = absurd h
other_bool place.unsized c d h = absurd h

pub inverted_at : (p : Place) (x : Value) → IsAt p x → IsAt p (inverted x)
unfolding inverted
inverted_at p (word s a) h = word_at p s _ (at_word p s a h)
inverted_at p (integer i) h = other_number p i _ h
inverted_at p (boolean c) h = other_bool p c _ h

pub cast_at : (p : Place) (z : Size) (sign : Bool) (x : Value) → TakesWord z p → IfThere (IsAt p) (cast z sign x)
unfolding cast
cast_at p z sign (word s a) h = word_at p z _ h
cast_at p z sign (integer i) h = tt
cast_at p z sign (boolean c) h = tt
