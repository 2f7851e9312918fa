-- Operators on values in their places are stuck with a division, or where a number is an operand.
use Rattle.std.proofs.Common.{◌≡◌, ℕ, ℤ, pos, negsuc, Bool, true, false, List, Option, Some, None, refl, sym, ◌∙◌, subst, if◌then◌else◌, option_map}
use Rattle.std.proofs.lemmas.Bool.{false≢true}
use Rattle.std.specs.Prelude.{◌||◌, ◌==◌}
use Rattle.jz_tree.specs.Operators.{joins, is_shift}
use Rattle.jz_tree.specs.Span.{Span}
use Rattle.jz_tree.specs.Size.{Size}
use Rattle.jz_tree.specs.Size.TheVariants as sizes
use Rattle.jz_tree.specs.Words.{residue}
use Rattle.jz_tree.specs.declared.expr.BinOp.{BinOp}
use Rattle.jz_tree.specs.declared.expr.BinOp.TheVariants as o
use Rattle.jz_integers.specs.Integers as numbers
use Rattle.jz_integers.specs.Integers.{on_integers}
use Rattle.jz_type_sizes.specs.Operators.{group_of}
use Rattle.jz_judgement.specs.Places.{Place, TakesNumber, TakesCarry, IsSum, count_place}
use Rattle.jz_judgement.specs.Places as place
use Rattle.jz_meaning.specs.declared.value.Stuck as code
use Rattle.jz_meaning.specs.declared.value.Why.TheVariants.{Init, Divide}
use Rattle.jz_meaning.specs.Rules.{stuck, went}
use Rattle.jz_meaning.specs.Attempts.{Evaluation, stuck_at, defined}
use Rattle.jz_meaning.specs.States.{Value, word, boolean, integer}
use Rattle.jz_meaning.specs.Operators.{of_constant, same_size, is_least_by_minus_one, on_words, by_flag, shifted_word, combined, shifted, binary, negated, cast}
use Rattle.jz_run_laws.specs.Values.{IsAt}
use Rattle.jz_run_laws.proofs.OperatorsInPlaces.{no_bool, is_arith, is_compare, is_moved}
use Rattle.jz_run_laws.proofs.InPlaces.{is_logic}

-- what is said of why something is stuck
abbrev pub IfStuck : {A : Type 0} → (code.Stuck → Type 0) → Evaluation A → Type 0
IfStuck C (stuck w) = C w
IfStuck C (went ns x) = Unit {0}

-- ---- sizes
size_self : (z : Size) → same_size z z ≡ true
size_self sizes.S8 = refl
size_self sizes.S16 = refl
size_self sizes.S32 = refl
size_self sizes.S64 = refl

pub size_fits : (z y : Size) → y ≡ z → same_size z y ≡ true
size_fits z y e = subst (λ x. same_size z x ≡ true) (sym e) (size_self z)

same_at : (p : Place) (s z : Size) (a b : ℕ) → IsAt p (word s a) → IsAt p (word z b) → same_size s z ≡ true
same_at place.integer s z a b x y = absurd x
same_at place.truth s z a b x y = absurd x
same_at (place.word q) s z a b x y = size_fits s z (y ∙ sym x)
same_at (place.stated q) s z a b x y = size_fits s z (y ∙ sym x)
same_at place.unsized s z a b x y = absurd x

no_carried : (p : Place) (c : Bool) → TakesCarry p → IsAt p (boolean c) → ⊥
no_carried place.integer c k h = h
no_carried place.truth c k h = k
no_carried (place.word y) c k h = h
no_carried (place.stated y) c k h = h
no_carried place.unsized c k h = h

no_count : (p : Place) (c : Bool) → IsAt (count_place p) (boolean c) → ⊥
no_count place.integer c h = h
no_count place.truth c h = h
no_count (place.word y) c h = h
no_count (place.stated y) c h = h
no_count place.unsized c h = h

logic_joins : (op : BinOp) → is_logic (group_of op) ≡ true → joins op ≡ true
logic_joins o.OrElse g = refl
logic_joins o.AndThen g = refl
logic_joins op g = absurd (false≢true g)

module _ (C : code.Stuck → Type 0) (at : Span) (division : C (record { span = at; why = Divide })) where
  abbrev None-here : Type 0
  None-here = C (record { span = at; why = Init })

  abbrev IfNumber : Value → Type 0
  IfNumber x = (i : ℤ) → x ≡ integer i → None-here

  defined_or : {A : Type 0} (r : Option A) → None-here → IfStuck C (defined at r)
  defined_or None h = h
  defined_or (Some x) h = tt

  -- ---- on words
  divided_by : (c : Bool) (ns : List ℕ) (s : Size) (r : ℕ) → IfStuck C (if c then stuck_at at Divide else went ns (word s r))
  divided_by true ns s r = division
  divided_by false ns s r = tt

  words_fine : (op : BinOp) (s : Size) (a b : ℕ) → is_arith (group_of op) ≡ true → IfStuck C (on_words op at s a b)
  words_fine o.Div s a b g = divided_by (b == 0) _ s _
  words_fine o.Rem s a b g = divided_by (b == 0) _ s _
  words_fine o.DivS s a b g = divided_by (b == 0 || is_least_by_minus_one s a b) _ s _
  words_fine o.RemS s a b g = divided_by (b == 0 || is_least_by_minus_one s a b) _ s _
  words_fine o.Or s a b g = tt
  words_fine o.Xor s a b g = tt
  words_fine o.And s a b g = tt
  words_fine o.Add s a b g = tt
  words_fine o.Sub s a b g = tt
  words_fine o.Mul s a b g = tt
  words_fine op s a b g = absurd (false≢true g)

  compare_fine : (op : BinOp) (s : Size) (a b : ℕ) → is_compare (group_of op) ≡ true → IfStuck C (on_words op at s a b)
  compare_fine o.Eq s a b g = tt
  compare_fine o.Ne s a b g = tt
  compare_fine o.Lt s a b g = tt
  compare_fine o.Le s a b g = tt
  compare_fine o.Gt s a b g = tt
  compare_fine o.Ge s a b g = tt
  compare_fine o.LtS s a b g = tt
  compare_fine o.LeS s a b g = tt
  compare_fine o.GtS s a b g = tt
  compare_fine o.GeS s a b g = tt
  compare_fine op s a b g = absurd (false≢true g)

  -- two words of one place
  same_fine : (op : BinOp) (s z : Size) (a b : ℕ) → same_size s z ≡ true → IfStuck C (on_words op at s a b) → IfStuck C (if same_size s z then on_words op at s a b else stuck_at at Init)
  same_fine op s z a b e h = subst (λ c. IfStuck C (if c then on_words op at s a b else stuck_at at Init)) (sym e) h

  -- ---- on two values
  pub arith_fine : (op : BinOp) (p : Place) (x y : Value) → is_arith (group_of op) ≡ true → TakesNumber p → IsAt p x → IsAt p y → IfNumber x → IfStuck C (combined op at x y)
  unfolding combined
  arith_fine op p (word s a) (word z b) g k hx hy n = same_fine op s z a b (same_at p s z a b hx hy) (words_fine op s a b g)
  arith_fine op p (word s a) (integer j) g k hx hy n = words_fine op s a (residue s j) g
  arith_fine op p (integer i) (word s b) g k hx hy n = words_fine op s (residue s i) b g
  arith_fine op p (integer i) (integer j) g k hx hy n = defined_or (option_map of_constant (on_integers op i j)) (n i refl)
  arith_fine op p (word s a) (boolean c) g k hx hy n = absurd (no_bool p c k hy)
  arith_fine op p (integer i) (boolean c) g k hx hy n = absurd (no_bool p c k hy)
  arith_fine op p (boolean a) y g k hx hy n = absurd (no_bool p a k hx)

  carry_word : (op : BinOp) (s : Size) (a : ℕ) (c : Bool) → IsSum op → IfStuck C (defined at (by_flag op s a c))
  carry_word o.Add s a c g = tt
  carry_word o.Sub s a c g = tt
  carry_word op s a c g = absurd g

  pub carry_fine : (op : BinOp) (p : Place) (x y : Value) → IsSum op → TakesCarry p → IsAt p x → IsAt place.truth y → IfNumber x → IfStuck C (combined op at x y)
  unfolding combined
  carry_fine op p (word s a) (boolean c) g k hx hy n = carry_word op s a c g
  carry_fine op p (integer i) (boolean c) g k hx hy n = n i refl
  carry_fine op p (boolean a) (boolean c) g k hx hy n = absurd (no_carried p a k hx)
  carry_fine op p x (word s b) g k hx hy n = absurd hy
  carry_fine op p x (integer j) g k hx hy n = absurd hy

  moved_word : (op : BinOp) (s : Size) (a n : ℕ) → is_moved (group_of op) ≡ true → IfStuck C (defined at (shifted_word op s a n))
  moved_word o.Shl s a n g = tt
  moved_word o.Shr s a n g = tt
  moved_word o.Sar s a n g = tt
  moved_word o.Rol s a n g = tt
  moved_word o.Ror s a n g = tt
  moved_word op s a n g = absurd (false≢true g)

  pub shift_fine : (op : BinOp) (p : Place) (w : Option Size) (x y : Value) → is_moved (group_of op) ≡ true → TakesNumber p → IsAt p x → IsAt (count_place p) y
      → IfNumber x → IfNumber y → IfStuck C (defined at (shifted op w x y))
  unfolding shifted
  shift_fine op p w (word s a) (word z m) g k hx hy n q = moved_word op s a m g
  shift_fine op p w (word s a) (integer (pos m)) g k hx hy n q = moved_word op s a m g
  shift_fine op p w (word s a) (integer (negsuc m)) g k hx hy n q = q (negsuc m) refl
  shift_fine op p w (word s a) (boolean c) g k hx hy n q = absurd (no_count p c hy)
  shift_fine op p w (integer i) y g k hx hy n q = defined_or (shifted op w (integer i) y) (n i refl)
  shift_fine op p w (boolean a) y g k hx hy n q = absurd (no_bool p a k hx)

  pub integers_fine : (op : BinOp) (x y : Value) → IsAt place.integer x → IsAt place.integer y → IfNumber x → IfStuck C (combined op at x y)
  unfolding combined
  integers_fine op (integer i) (integer j) hx hy n = defined_or (option_map of_constant (on_integers op i j)) (n i refl)
  integers_fine op (integer i) (word s b) hx hy n = absurd hy
  integers_fine op (integer i) (boolean c) hx hy n = absurd hy
  integers_fine op (word s a) y hx hy n = absurd hx
  integers_fine op (boolean a) y hx hy n = absurd hx

  pub words_compare : (op : BinOp) (q : Size) (x y : Value) → is_compare (group_of op) ≡ true → IsAt (place.word q) x → IsAt (place.word q) y → IfNumber x → IfStuck C (combined op at x y)
  unfolding combined
  words_compare op q (word s a) (word z b) g hx hy n = same_fine op s z a b (same_at (place.word q) s z a b hx hy) (compare_fine op s a b g)
  words_compare op q (word s a) (integer j) g hx hy n = compare_fine op s a (residue s j) g
  words_compare op q (integer i) (word s b) g hx hy n = compare_fine op s (residue s i) b g
  words_compare op q (integer i) (integer j) g hx hy n = defined_or (option_map of_constant (on_integers op i j)) (n i refl)
  words_compare op q (word s a) (boolean c) g hx hy n = absurd hy
  words_compare op q (integer i) (boolean c) g hx hy n = absurd hy
  words_compare op q (boolean a) y g hx hy n = absurd hx

  pub logic_fine : (op : BinOp) (x y : Value) → is_logic (group_of op) ≡ true → IsAt place.truth x → IsAt place.truth y → IfStuck C (combined op at x y)
  unfolding combined
  logic_fine op (boolean a) (boolean c) g hx hy = subst (λ b. IfStuck C (defined at (if b then Some (boolean c) else None))) (sym (logic_joins op g)) tt
  logic_fine op (boolean a) (word s b) g hx hy = absurd hy
  logic_fine op (boolean a) (integer j) g hx hy = absurd hy
  logic_fine op (word s a) y g hx hy = absurd hx
  logic_fine op (integer i) y g hx hy = absurd hx

  pub plain_fine : (op : BinOp) (w : Option Size) (x y : Value) → is_shift op ≡ false → IfStuck C (combined op at x y) → IfStuck C (binary op at w x y)
  unfolding binary
  plain_fine op w x y e h = subst (λ b. IfStuck C (if b then defined at (shifted op w x y) else combined op at x y)) (sym e) h

  pub moved_fine : (op : BinOp) (w : Option Size) (x y : Value) → is_shift op ≡ true → IfStuck C (defined at (shifted op w x y)) → IfStuck C (binary op at w x y)
  unfolding binary
  moved_fine op w x y e h = subst (λ b. IfStuck C (if b then defined at (shifted op w x y) else combined op at x y)) (sym e) h

  -- ---- on one value
  pub negated_fine : (p : Place) (x : Value) → TakesNumber p → IsAt p x → IfNumber x → IfStuck C (defined at (negated x))
  unfolding negated
  negated_fine p (word s a) k h n = tt
  negated_fine p (integer i) k h n = defined_or (option_map integer (numbers.negated i)) (n i refl)
  negated_fine p (boolean c) k h n = absurd (no_bool p c k h)

  pub cast_fine : (z y : Size) (sign : Bool) (x : Value) → IsAt (place.stated y) x → IfNumber x → IfStuck C (defined at (cast z sign x))
  unfolding cast
  cast_fine z y sign (word s a) h n = tt
  cast_fine z y sign (integer i) h n = n i refl
  cast_fine z y sign (boolean c) h n = absurd h
