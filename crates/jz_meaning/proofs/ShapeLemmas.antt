-- How many numbers an expression leaks, layer by layer.
use Rattle.std.proofs.Common.{◌≡◌, ℕ, ◌+◌, ◌==◌, List, [], ◌∷◌, length, Option, Some, None, Bool, true, false, refl, ap, sym, ◌∙◌, subst, arith, length-append}
use Rattle.std.specs.Prelude.{ℤ, pos, negsuc, not, ◌||◌, option_map, nat_lt, if◌then◌else◌}
use Rattle.std.specs.Option.{option_or}
use Rattle.std.proofs.lemmas.Bool.{and_parts}
use Rattle.std.proofs.lemmas.Bool.Decides.{nat_tests}
use Rattle.jz_tree.specs.Span.{Span}
use Rattle.x64_insn.specs.Size.{Size}
use Rattle.x64_insn.specs.Size.TheVariants.{S64}
use Rattle.x64_insn.specs.Sizes.{bytes_of}
use Rattle.x64_insn.specs.Memory.{Memory, loaded}
use Rattle.x64_insn.specs.Words.{residue}
use Rattle.jz_tree.specs.declared.expr.BinOp.{BinOp}
use Rattle.jz_tree.specs.declared.expr.BinOp.TheVariants as o
use Rattle.jz_tree.specs.declared.expr.Expr.{Expr}
use Rattle.jz_tree.specs.declared.expr.Ty.{Ty}
use Rattle.jz_tree.specs.declared.expr.Access.{Access}
use Rattle.jz_tree.specs.declared.expr.Decl.{Decl}
use Rattle.jz_tree.specs.declared.expr.Var.{Var}
use Rattle.jz_tree.specs.declared.expr.Expr.TheOpen.{Expr-F, Access-F, Var-F}
use Rattle.jz_tree.specs.declared.expr.Expr.TheViews.{roll-Expr, roll-Access, roll-Var}
use Rattle.jz_tree.specs.declared.expr.Expr.TheFolds.{fold-Ty, fold-Access, fold-Decl, fold-Var, fold-roll-Expr, fold-roll-Access, fold-roll-Var, ind-Expr, map-Expr, map-Access}
use Rattle.jz_tree.specs.Operators.{joins}
use Rattle.jz_integers.specs.Integers as numbers
use Rattle.jz_integers.specs.Integers.{on_integers}
use Rattle.jz_meaning.specs.declared.access.Kind.{Kind}
use Rattle.jz_meaning.specs.declared.access.Kind.TheVariants as kind
use Rattle.jz_meaning.specs.declared.value.Why.TheVariants.{Bounds, Align, Divide, Init}
use Rattle.jz_runs.specs.Rules.{stuck, went}
use Rattle.jz_meaning.specs.Attempts.{Evaluation, stuck_at, numbers_first, and_then, defined}
use Rattle.jz_meaning.specs.States.{Value, word, boolean, integer, Store, State}
use Rattle.jz_meaning.specs.Operators.{of_constant, same_size, plain, on_words, by_count, by_flag, joined, is_settled, combined, shifted, binary, negated, inverted, cast, word_of}
use Rattle.jz_meaning.specs.Values.{Ref, key_of, cell_key, in_cells, index_at, cell_value, MemoryAccess, is_aligned, accessed, load_word, load_at, Meaning, right_wanted, left_wanted, with_right, expr_step, ty_step, access_step, decl_step, var_step, meaning_of, ref_of, access_of, evaluated}
use Rattle.jz_meaning.specs.Shapes.{Sort, words, flags, integers, sort_of, Sorts, HoldsSorts, both, sort_of_operation, own_count, Shape, operation_shape, shape_step, shape_of}

-- ---- what an attempt gives where it is not stuck

-- so many numbers, and something of which Q holds
abbrev pub Gives : {A : Type 0} → (A → Type 0) → ℕ → Evaluation A → Type 0
Gives Q n (stuck w) = Unit {0}
Gives Q n (went ns x) = (length ns ≡ n) × Q x

gives_first : {A : Type 0} (Q : A → Type 0) (m n : ℕ) (ns : List ℕ) (g : Evaluation A) → length ns ≡ m → Gives Q n g → Gives Q (m + n) (numbers_first ns g)
gives_first Q m n ns (stuck w) e h = tt
gives_first Q m n ns (went ms x) e h = (omega (arith, length-append ns ms, e, h.0), h.1)

pub gives_then : {A B : Type 0} (Q : A → Type 0) (R : B → Type 0) (m n : ℕ) (g : Evaluation A) (f : A → Evaluation B) → Gives Q m g → ((x : A) → Q x → Gives R n (f x)) → Gives R (m + n) (and_then g f)
gives_then Q R m n (stuck w) f h k = tt
gives_then Q R m n (went ns x) f h k = gives_first R m n ns (f x) h.0 (k x h.1)

pub gives_defined : {A : Type 0} (Q : A → Type 0) (at : Span) (p : Option A) → ((x : A) → p ≡ Some x → Q x) → Gives Q 0 (defined at p)
gives_defined Q at None h = tt
gives_defined Q at (Some x) h = (refl, h x refl)

abbrev pub Any : {A : Type 0} → A → Type 0
Any x = Unit {0}

abbrev IsSort : Sort → Value → Type 0
IsSort z v = sort_of v ≡ z

-- ---- operators

abbrev Sorted : Sort → Option Value → Type 0
Sorted z None = Unit {0}
Sorted z (Some v) = sort_of v ≡ z

sorted_gives : (z : Sort) (at : Span) (p : Option Value) → Sorted z p → Gives (IsSort z) 0 (defined at p)
sorted_gives z at None h = tt
sorted_gives z at (Some v) h = (refl, h)

word_sorted : (s : Size) (p : Option ℕ) → Sorted words (option_map (word s) p)
word_sorted s None = tt
word_sorted s (Some a) = refl

number_sorted : (p : Option ℤ) → Sorted integers (option_map of_constant (numbers.number p))
number_sorted None = tt
number_sorted (Some i) = refl

divided_gives : (c : Bool) (at : Span) (ns : List ℕ) (s : Size) (r : ℕ) → length ns ≡ 3 → Gives (IsSort words) 3 (if c then stuck_at at Divide else went ns (word s r))
divided_gives true at ns s r e = tt
divided_gives false at ns s r e = (e, refl)

plain_sorted : (op : BinOp) (s : Size) (a b : ℕ) → Sorted (sort_of_operation op words words) (plain op s a b)
plain_sorted o.OrElse s a b = tt
plain_sorted o.AndThen s a b = tt
plain_sorted o.Or s a b = refl
plain_sorted o.Xor s a b = refl
plain_sorted o.And s a b = refl
plain_sorted o.Eq s a b = refl
plain_sorted o.Ne s a b = refl
plain_sorted o.Lt s a b = refl
plain_sorted o.Le s a b = refl
plain_sorted o.Gt s a b = refl
plain_sorted o.Ge s a b = refl
plain_sorted o.LtS s a b = refl
plain_sorted o.LeS s a b = refl
plain_sorted o.GtS s a b = refl
plain_sorted o.GeS s a b = refl
plain_sorted o.Shl s a b = tt
plain_sorted o.Shr s a b = tt
plain_sorted o.Sar s a b = tt
plain_sorted o.Rol s a b = tt
plain_sorted o.Ror s a b = tt
plain_sorted o.Add s a b = refl
plain_sorted o.Sub s a b = refl
plain_sorted o.Mul s a b = refl
plain_sorted o.Div s a b = tt
plain_sorted o.Rem s a b = tt
plain_sorted o.DivS s a b = tt
plain_sorted o.RemS s a b = tt

words_gives : (op : BinOp) (at : Span) (s : Size) (a b : ℕ) → Gives (IsSort (sort_of_operation op words words)) (own_count op words words) (on_words op at s a b)
words_gives o.OrElse at s a b = sorted_gives (sort_of_operation o.OrElse words words) at (plain o.OrElse s a b) (plain_sorted o.OrElse s a b)
words_gives o.AndThen at s a b = sorted_gives (sort_of_operation o.AndThen words words) at (plain o.AndThen s a b) (plain_sorted o.AndThen s a b)
words_gives o.Or at s a b = sorted_gives (sort_of_operation o.Or words words) at (plain o.Or s a b) (plain_sorted o.Or s a b)
words_gives o.Xor at s a b = sorted_gives (sort_of_operation o.Xor words words) at (plain o.Xor s a b) (plain_sorted o.Xor s a b)
words_gives o.And at s a b = sorted_gives (sort_of_operation o.And words words) at (plain o.And s a b) (plain_sorted o.And s a b)
words_gives o.Eq at s a b = sorted_gives (sort_of_operation o.Eq words words) at (plain o.Eq s a b) (plain_sorted o.Eq s a b)
words_gives o.Ne at s a b = sorted_gives (sort_of_operation o.Ne words words) at (plain o.Ne s a b) (plain_sorted o.Ne s a b)
words_gives o.Lt at s a b = sorted_gives (sort_of_operation o.Lt words words) at (plain o.Lt s a b) (plain_sorted o.Lt s a b)
words_gives o.Le at s a b = sorted_gives (sort_of_operation o.Le words words) at (plain o.Le s a b) (plain_sorted o.Le s a b)
words_gives o.Gt at s a b = sorted_gives (sort_of_operation o.Gt words words) at (plain o.Gt s a b) (plain_sorted o.Gt s a b)
words_gives o.Ge at s a b = sorted_gives (sort_of_operation o.Ge words words) at (plain o.Ge s a b) (plain_sorted o.Ge s a b)
words_gives o.LtS at s a b = sorted_gives (sort_of_operation o.LtS words words) at (plain o.LtS s a b) (plain_sorted o.LtS s a b)
words_gives o.LeS at s a b = sorted_gives (sort_of_operation o.LeS words words) at (plain o.LeS s a b) (plain_sorted o.LeS s a b)
words_gives o.GtS at s a b = sorted_gives (sort_of_operation o.GtS words words) at (plain o.GtS s a b) (plain_sorted o.GtS s a b)
words_gives o.GeS at s a b = sorted_gives (sort_of_operation o.GeS words words) at (plain o.GeS s a b) (plain_sorted o.GeS s a b)
words_gives o.Shl at s a b = sorted_gives (sort_of_operation o.Shl words words) at (plain o.Shl s a b) (plain_sorted o.Shl s a b)
words_gives o.Shr at s a b = sorted_gives (sort_of_operation o.Shr words words) at (plain o.Shr s a b) (plain_sorted o.Shr s a b)
words_gives o.Sar at s a b = sorted_gives (sort_of_operation o.Sar words words) at (plain o.Sar s a b) (plain_sorted o.Sar s a b)
words_gives o.Rol at s a b = sorted_gives (sort_of_operation o.Rol words words) at (plain o.Rol s a b) (plain_sorted o.Rol s a b)
words_gives o.Ror at s a b = sorted_gives (sort_of_operation o.Ror words words) at (plain o.Ror s a b) (plain_sorted o.Ror s a b)
words_gives o.Add at s a b = sorted_gives (sort_of_operation o.Add words words) at (plain o.Add s a b) (plain_sorted o.Add s a b)
words_gives o.Sub at s a b = sorted_gives (sort_of_operation o.Sub words words) at (plain o.Sub s a b) (plain_sorted o.Sub s a b)
words_gives o.Mul at s a b = sorted_gives (sort_of_operation o.Mul words words) at (plain o.Mul s a b) (plain_sorted o.Mul s a b)
words_gives o.Div at s a b = divided_gives _ at _ s _ refl
words_gives o.Rem at s a b = divided_gives _ at _ s _ refl
words_gives o.DivS at s a b = divided_gives _ at _ s _ refl
words_gives o.RemS at s a b = divided_gives _ at _ s _ refl

flag_gives : (op : BinOp) (at : Span) (s : Size) (a : ℕ) (c : Bool) → Gives (IsSort (sort_of_operation op words flags)) (own_count op words flags) (defined at (by_flag op s a c))
flag_gives o.OrElse at s a c = tt
flag_gives o.AndThen at s a c = tt
flag_gives o.Or at s a c = tt
flag_gives o.Xor at s a c = tt
flag_gives o.And at s a c = tt
flag_gives o.Eq at s a c = tt
flag_gives o.Ne at s a c = tt
flag_gives o.Lt at s a c = tt
flag_gives o.Le at s a c = tt
flag_gives o.Gt at s a c = tt
flag_gives o.Ge at s a c = tt
flag_gives o.LtS at s a c = tt
flag_gives o.LeS at s a c = tt
flag_gives o.GtS at s a c = tt
flag_gives o.GeS at s a c = tt
flag_gives o.Shl at s a c = tt
flag_gives o.Shr at s a c = tt
flag_gives o.Sar at s a c = tt
flag_gives o.Rol at s a c = tt
flag_gives o.Ror at s a c = tt
flag_gives o.Add at s a c = (refl, refl)
flag_gives o.Sub at s a c = (refl, refl)
flag_gives o.Mul at s a c = tt
flag_gives o.Div at s a c = tt
flag_gives o.Rem at s a c = tt
flag_gives o.DivS at s a c = tt
flag_gives o.RemS at s a c = tt

numbers_sorted : (op : BinOp) (i j : ℤ) → Sorted (sort_of_operation op integers integers) (option_map of_constant (on_integers op i j))
numbers_sorted o.OrElse i j = tt
numbers_sorted o.AndThen i j = tt
numbers_sorted o.Or i j = refl
numbers_sorted o.Xor i j = refl
numbers_sorted o.And i j = refl
numbers_sorted o.Eq i j = refl
numbers_sorted o.Ne i j = refl
numbers_sorted o.Lt i j = refl
numbers_sorted o.Le i j = refl
numbers_sorted o.Gt i j = refl
numbers_sorted o.Ge i j = refl
numbers_sorted o.LtS i j = tt
numbers_sorted o.LeS i j = tt
numbers_sorted o.GtS i j = tt
numbers_sorted o.GeS i j = tt
numbers_sorted o.Shl i j = number_sorted _
numbers_sorted o.Shr i j = number_sorted _
numbers_sorted o.Sar i j = tt
numbers_sorted o.Rol i j = tt
numbers_sorted o.Ror i j = tt
numbers_sorted o.Add i j = number_sorted _
numbers_sorted o.Sub i j = number_sorted _
numbers_sorted o.Mul i j = number_sorted _
numbers_sorted o.Div i j = number_sorted _
numbers_sorted o.Rem i j = number_sorted _
numbers_sorted o.DivS i j = tt
numbers_sorted o.RemS i j = tt

no_count : (op : BinOp) → own_count op integers integers ≡ 0
no_count o.OrElse = refl
no_count o.AndThen = refl
no_count o.Or = refl
no_count o.Xor = refl
no_count o.And = refl
no_count o.Eq = refl
no_count o.Ne = refl
no_count o.Lt = refl
no_count o.Le = refl
no_count o.Gt = refl
no_count o.Ge = refl
no_count o.LtS = refl
no_count o.LeS = refl
no_count o.GtS = refl
no_count o.GeS = refl
no_count o.Shl = refl
no_count o.Shr = refl
no_count o.Sar = refl
no_count o.Rol = refl
no_count o.Ror = refl
no_count o.Add = refl
no_count o.Sub = refl
no_count o.Mul = refl
no_count o.Div = refl
no_count o.Rem = refl
no_count o.DivS = refl
no_count o.RemS = refl

numbers_gives : (op : BinOp) (at : Span) (i j : ℤ) → Gives (IsSort (sort_of_operation op integers integers)) (own_count op integers integers) (defined at (option_map of_constant (on_integers op i j)))
numbers_gives op at i j =
    let p = option_map of_constant (on_integers op i j) in
    let z = sort_of_operation op integers integers in
    subst (λ n. Gives (IsSort z) n (defined at p)) (sym (no_count op)) (sorted_gives z at p (numbers_sorted op i j))

joined_gives : (op : BinOp) (at : Span) (c : Bool) → Gives (IsSort (sort_of_operation op flags flags)) (own_count op flags flags) (defined at (joined op c))
joined_gives o.OrElse at c = (refl, refl)
joined_gives o.AndThen at c = (refl, refl)
joined_gives o.Or at c = tt
joined_gives o.Xor at c = tt
joined_gives o.And at c = tt
joined_gives o.Eq at c = tt
joined_gives o.Ne at c = tt
joined_gives o.Lt at c = tt
joined_gives o.Le at c = tt
joined_gives o.Gt at c = tt
joined_gives o.Ge at c = tt
joined_gives o.LtS at c = tt
joined_gives o.LeS at c = tt
joined_gives o.GtS at c = tt
joined_gives o.GeS at c = tt
joined_gives o.Shl at c = tt
joined_gives o.Shr at c = tt
joined_gives o.Sar at c = tt
joined_gives o.Rol at c = tt
joined_gives o.Ror at c = tt
joined_gives o.Add at c = tt
joined_gives o.Sub at c = tt
joined_gives o.Mul at c = tt
joined_gives o.Div at c = tt
joined_gives o.Rem at c = tt
joined_gives o.DivS at c = tt
joined_gives o.RemS at c = tt

same_gives : (c : Bool) (op : BinOp) (at : Span) (s : Size) (a b : ℕ) → Gives (IsSort (sort_of_operation op words words)) (own_count op words words) (if c then on_words op at s a b else stuck_at at Init)
same_gives true op at s a b = words_gives op at s a b
same_gives false op at s a b = tt

abbrev OperationGives : BinOp → Value → Value → Evaluation Value → Type 0
OperationGives op x y g = Gives (IsSort (sort_of_operation op (sort_of x) (sort_of y))) (own_count op (sort_of x) (sort_of y)) g

combined_gives : (op : BinOp) (at : Span) (x y : Value) → OperationGives op x y (combined op at x y)
unfolding combined
combined_gives op at (word s a) (word z b) = same_gives (same_size s z) op at s a b
combined_gives op at (word s a) (integer j) = words_gives op at s a (residue s j)
combined_gives op at (word s a) (boolean c) = flag_gives op at s a c
combined_gives op at (integer i) (word s b) = words_gives op at s (residue s i) b
combined_gives op at (integer i) (integer j) = numbers_gives op at i j
combined_gives op at (integer i) (boolean c) = tt
combined_gives op at (boolean a) (word s b) = tt
combined_gives op at (boolean a) (integer j) = tt
combined_gives op at (boolean a) (boolean c) = joined_gives op at c

shifted_sorted : (op : BinOp) (w : Option Size) (x y : Value) → ((i j : ℤ) → Sorted integers (option_map of_constant (on_integers op i j))) → Sorted (both (sort_of x) (sort_of y)) (shifted op w x y)
unfolding shifted
shifted_sorted op w (word s a) (word z n) h = word_sorted s (by_count op s a n)
shifted_sorted op w (word s a) (integer (pos n)) h = word_sorted s (by_count op s a n)
shifted_sorted op w (word s a) (integer (negsuc n)) h = tt
shifted_sorted op w (word s a) (boolean c) h = tt
shifted_sorted op w (integer i) (integer j) h = h i j
shifted_sorted op (Some s) (integer i) (word z n) h = word_sorted s (by_count op s (residue s i) n)
shifted_sorted op None (integer i) (word z n) h = tt
shifted_sorted op w (integer i) (boolean c) h = tt
shifted_sorted op w (boolean a) y h = tt

binary_gives : (op : BinOp) (at : Span) (w : Option Size) (x y : Value) → OperationGives op x y (binary op at w x y)
unfolding binary
binary_gives o.OrElse at w x y = combined_gives o.OrElse at x y
binary_gives o.AndThen at w x y = combined_gives o.AndThen at x y
binary_gives o.Or at w x y = combined_gives o.Or at x y
binary_gives o.Xor at w x y = combined_gives o.Xor at x y
binary_gives o.And at w x y = combined_gives o.And at x y
binary_gives o.Eq at w x y = combined_gives o.Eq at x y
binary_gives o.Ne at w x y = combined_gives o.Ne at x y
binary_gives o.Lt at w x y = combined_gives o.Lt at x y
binary_gives o.Le at w x y = combined_gives o.Le at x y
binary_gives o.Gt at w x y = combined_gives o.Gt at x y
binary_gives o.Ge at w x y = combined_gives o.Ge at x y
binary_gives o.LtS at w x y = combined_gives o.LtS at x y
binary_gives o.LeS at w x y = combined_gives o.LeS at x y
binary_gives o.GtS at w x y = combined_gives o.GtS at x y
binary_gives o.GeS at w x y = combined_gives o.GeS at x y
binary_gives o.Shl at w x y = sorted_gives _ at _ (shifted_sorted o.Shl w x y (numbers_sorted o.Shl))
binary_gives o.Shr at w x y = sorted_gives _ at _ (shifted_sorted o.Shr w x y (numbers_sorted o.Shr))
binary_gives o.Sar at w x y = sorted_gives _ at _ (shifted_sorted o.Sar w x y (numbers_sorted o.Sar))
binary_gives o.Rol at w x y = sorted_gives _ at _ (shifted_sorted o.Rol w x y (numbers_sorted o.Rol))
binary_gives o.Ror at w x y = sorted_gives _ at _ (shifted_sorted o.Ror w x y (numbers_sorted o.Ror))
binary_gives o.Add at w x y = combined_gives o.Add at x y
binary_gives o.Sub at w x y = combined_gives o.Sub at x y
binary_gives o.Mul at w x y = combined_gives o.Mul at x y
binary_gives o.Div at w x y = combined_gives o.Div at x y
binary_gives o.Rem at w x y = combined_gives o.Rem at x y
binary_gives o.DivS at w x y = combined_gives o.DivS at x y
binary_gives o.RemS at w x y = combined_gives o.RemS at x y

-- the left part alone gives the answer
settled_shape : (op : BinOp) (x : Value) (z : Sort) → is_settled op x ≡ true → (joins op ≡ true) × (sort_of x ≡ sort_of_operation op (sort_of x) z) × (own_count op (sort_of x) z ≡ 0)
settled_shape o.OrElse (word s a) z h = absurd cc
settled_shape o.OrElse (integer i) z h = absurd cc
settled_shape o.OrElse (boolean c) z h = (refl, refl, refl)
settled_shape o.AndThen (word s a) z h = absurd cc
settled_shape o.AndThen (integer i) z h = absurd cc
settled_shape o.AndThen (boolean c) z h = (refl, refl, refl)
settled_shape o.Or x z h = absurd cc
settled_shape o.Xor x z h = absurd cc
settled_shape o.And x z h = absurd cc
settled_shape o.Eq x z h = absurd cc
settled_shape o.Ne x z h = absurd cc
settled_shape o.Lt x z h = absurd cc
settled_shape o.Le x z h = absurd cc
settled_shape o.Gt x z h = absurd cc
settled_shape o.Ge x z h = absurd cc
settled_shape o.LtS x z h = absurd cc
settled_shape o.LeS x z h = absurd cc
settled_shape o.GtS x z h = absurd cc
settled_shape o.GeS x z h = absurd cc
settled_shape o.Shl x z h = absurd cc
settled_shape o.Shr x z h = absurd cc
settled_shape o.Sar x z h = absurd cc
settled_shape o.Rol x z h = absurd cc
settled_shape o.Ror x z h = absurd cc
settled_shape o.Add x z h = absurd cc
settled_shape o.Sub x z h = absurd cc
settled_shape o.Mul x z h = absurd cc
settled_shape o.Div x z h = absurd cc
settled_shape o.Rem x z h = absurd cc
settled_shape o.DivS x z h = absurd cc
settled_shape o.RemS x z h = absurd cc

abbrev Run : Type 0
Run = Option Size → State → Evaluation Value

right_of : (op : BinOp) (right : Run) (at : Span) (w : Option Size) (s : State) (x : Value) (z : Sort) (n : ℕ) (c : Bool) → is_settled op x ≡ c → (joins op ≡ true → n ≡ 0) → Gives (IsSort z) n (right (right_wanted op w) s) →
    Gives (IsSort (sort_of_operation op (sort_of x) z)) (n + own_count op (sort_of x) z) (if c then went [] x else and_then (right (right_wanted op w) s) (λ y. binary op at w x y))
right_of op right at w s x z n true is none h =
    let p = settled_shape op x z is in
    let e = none p.0 in
    (omega (arith, e, p.2), p.1)
right_of op right at w s x z n false is none h =
    gives_then (IsSort z) _ n _ (right (right_wanted op w) s) _ h
    (λ y e. subst (λ k. Gives (IsSort (sort_of_operation op (sort_of x) k)) (own_count op (sort_of x) k) (binary op at w x y)) e (binary_gives op at w x y))

right_gives : (op : BinOp) (right : Run) (at : Span) (w : Option Size) (s : State) (x : Value) (z : Sort) (n : ℕ) → (joins op ≡ true → n ≡ 0) → Gives (IsSort z) n (right (right_wanted op w) s) →
    Gives (IsSort (sort_of_operation op (sort_of x) z)) (n + own_count op (sort_of x) z) (with_right op right at w s x)
right_gives op right at w s x z n none h = right_of op right at w s x z n (is_settled op x) refl none h

-- ---- accesses

cells_give : (c : Bool) (at : Span) (i : ℕ) → Gives (Any {A = ℕ}) 1 (if c then went (i ∷ []) i else stuck_at at Bounds)
cells_give true at i = (refl, tt)
cells_give false at i = tt

index_gives : (at : Span) (k : Kind) (i : ℕ) → Gives (Any {A = ℕ}) 1 (in_cells at k i)
index_gives at kind.Undeclared i = tt
index_gives at kind.Int i = tt
index_gives at kind.Bool i = tt
index_gives at (kind.Word s) i = tt
index_gives at (kind.Array s n) i = cells_give (nat_lt i n) at i

cell_gives : (sorts : Sorts) (x : Ref) (v : Value) (store : Store) → HoldsSorts sorts store → Gives (IsSort (sorts x.name x.copy)) 1 (cell_value x v store)
cell_gives sorts x v store h =
    gives_then (Any {A = ℕ}) (IsSort (sorts x.name x.copy)) 1 0 (index_at x v) (λ i. defined x.span (store (cell_key x i)))
    (gives_then (Any {A = ℕ}) (Any {A = ℕ}) 0 1 (defined x.span (word_of S64 v)) (in_cells x.span x.kind) (gives_defined (Any {A = ℕ}) x.span (word_of S64 v) (λ a e. tt)) (λ a t. index_gives x.span x.kind a))
    (λ i t. gives_defined (IsSort (sorts x.name x.copy)) x.span (store (cell_key x i)) (λ u e. h (cell_key x i) u e))

aligned_gives : (c : Bool) (at : Span) (a b : ℕ) (s : Size) → Gives (IsSort words) 1 (and_then (if c then went (a ∷ []) b else stuck_at at Align) (λ b. went [] (word s b)))
aligned_gives true at a b s = (refl, refl)
aligned_gives false at a b s = tt

loaded_gives : (at : Span) (u : Bool) (s : Size) (a : ℕ) (p : Option ℕ) → Gives (IsSort words) 1 (and_then (accessed at u s a p) (λ b. went [] (word s b)))
loaded_gives at u s a None = tt
loaded_gives at u s a (Some b) = aligned_gives (u || is_aligned s a) at a b s

load_word_gives : (at : Span) (u : Bool) (z : Option Size) (a : ℕ) (m : Memory) → Gives (IsSort words) 1 (load_word at u z a m)
load_word_gives at u None a m = tt
load_word_gives at u (Some s) a m = loaded_gives at u s a (loaded m a (bytes_of s))

load_gives : (p : MemoryAccess) (w : Option Size) (v : Value) (m : Memory) → Gives (IsSort words) 1 (load_at p w v m)
load_gives p w v m =
    gives_then (Any {A = ℕ}) (IsSort words) 0 1 (defined p.span (word_of S64 v)) (λ a. load_word p.span p.unaligned (option_or p.size w) a m) (gives_defined (Any {A = ℕ}) p.span (word_of S64 v) (λ a e. tt))
    (λ a t. load_word_gives p.span p.unaligned (option_or p.size w) a m)

-- ---- one operand

sorted_some : (z : Sort) (p : Option Value) (v : Value) → p ≡ Some v → Sorted z p → sort_of v ≡ z
sorted_some z p v e h = subst (Sorted z) e h

integer_sorted : (p : Option ℤ) → Sorted integers (option_map integer p)
integer_sorted None = tt
integer_sorted (Some i) = refl

negated_sort : (x v : Value) → negated x ≡ Some v → sort_of v ≡ sort_of x
unfolding negated
negated_sort (word s a) v h = sorted_some words _ v h refl
negated_sort (integer i) v h = sorted_some integers _ v h (integer_sorted (numbers.negated i))
negated_sort (boolean c) v h = absurd cc

inverted_sort : (x : Value) → sort_of (inverted x) ≡ sort_of x
unfolding inverted
inverted_sort (word s a) = refl
inverted_sort (integer i) = refl
inverted_sort (boolean c) = refl

cast_sort : (z : Size) (sign : Bool) (x v : Value) → cast z sign x ≡ Some v → sort_of v ≡ words
unfolding cast
cast_sort z sign (word s a) v h = sorted_some words _ v h refl
cast_sort z sign (integer i) v h = absurd cc
cast_sort z sign (boolean c) v h = absurd cc

-- ---- layers

-- what is fixed of `&&` and `||`
none_right : (j : Bool) (n : ℕ) → j ≡ true → (not j || (n == 0)) ≡ true → n ≡ 0
none_right true n e h = grind (arith, nat_tests)
none_right false n e h = absurd cc

no_more : {A : Type 0} (Q : A → Type 0) (n : ℕ) (g : Evaluation A) → Gives Q (n + 0) g → Gives Q n g
no_more Q n (stuck w) h = tt
no_more Q n (went ns x) h = (omega (arith, h.0), h.1)

any_sort : (z : Sort) (n : ℕ) (g : Evaluation Value) → Gives (IsSort z) n g → Gives (Any {A = Value}) n g
any_sort z n (stuck w) h = tt
any_sort z n (went ns v) h = (h.0, tt)

module _ (sorts : Sorts) where
  -- what is leaked, and the sort of the value, are those of the shape
  abbrev Fits : Meaning → Shape → Type 0
  Fits m h = (w : Option Size) (s : State) → HoldsSorts sorts s.store → h.fixed ≡ true → Gives (IsSort h.sort) h.count (m.run w s)

  binary_fits : (op : BinOp) (a b : Meaning) (f g : Shape) (at : Span) → Fits a f → Fits b g → Fits (expr_step (Expr-F.Bin op a b at)) (operation_shape op f g)
  binary_fits op a b f g at ha hb w s holds fixed =
      let x = and_parts f.fixed _ fixed in
      let y = and_parts g.fixed _ x.1 in
      let z = left_wanted op w a.size b.size in
      gives_then (IsSort f.sort) _ f.count _ (a.run z s) (with_right op b.run at z s) (ha z s holds x.0)
      (λ v e. subst (λ k. Gives (IsSort (sort_of_operation op k g.sort)) (g.count + own_count op k g.sort) (with_right op b.run at z s v)) e
      (right_gives op b.run at z s v g.sort g.count (λ j. none_right (joins op) g.count j y.1) (hb (right_wanted op z) s holds y.0)))

  abbrev shape_of_access : Access → Shape
  shape_of_access = fold-Access _ _ _ _ _ shape_step (λ t. tt) (λ a. a.at) (λ d. tt) (λ x. sorts x.name x.copy)

  abbrev sort_of_var : Var → Sort
  sort_of_var = fold-Var _ _ _ _ _ shape_step (λ t. tt) (λ a. a.at) (λ d. tt) (λ x. sorts x.name x.copy)

  abbrev AccessFits : MemoryAccess → Shape → Type 0
  AccessFits p h = (s : State) → HoldsSorts sorts s.store → h.fixed ≡ true → Gives (Any {A = Value}) h.count (p.at s)

  abbrev ExprLaw : Expr → Type 0
  ExprLaw e = Fits (meaning_of e) (shape_of sorts e)

  abbrev AccessLaw : Access → Type 0
  AccessLaw a = AccessFits (access_of a) (shape_of_access a)

  abbrev VarLaw : Var → Type 0
  VarLaw x = sorts (ref_of x).name (ref_of x).copy ≡ sort_of_var x

  abbrev Known : Type 0
  Known = Expr-F ((e : Expr) × ExprLaw e) ((t : Ty) × Any t) ((a : Access) × AccessLaw a) ((d : Decl) × Any d) ((x : Var) × VarLaw x)

  abbrev bare : Known → Expr-F Expr Ty Access Decl Var
  bare y = map-Expr _ _ _ _ _ _ _ _ _ _ (λ e. e.0) (λ e. e.0) (λ e. e.0) (λ e. e.0) (λ e. e.0) y

  abbrev kind_of_ty : Ty → Kind
  kind_of_ty = fold-Ty _ _ _ _ _ expr_step ty_step access_step decl_step var_step

  abbrev kind_of_decl : Decl → Kind
  kind_of_decl = fold-Decl _ _ _ _ _ expr_step ty_step access_step decl_step var_step

  abbrev meaning_layer : Expr-F Expr Ty Access Decl Var → Meaning
  meaning_layer x = expr_step (map-Expr _ _ _ _ _ Meaning Kind MemoryAccess Kind Ref meaning_of kind_of_ty access_of kind_of_decl ref_of x)

  abbrev shape_layer : Expr-F Expr Ty Access Decl Var → Shape
  shape_layer x = shape_step (map-Expr _ _ _ _ _ Shape (Unit {0}) Shape (Unit {0}) Sort (shape_of sorts) (λ t. tt) shape_of_access (λ d. tt) sort_of_var x)

  layer_law : (y : Known) → Fits (meaning_layer (bare y)) (shape_layer (bare y))
  layer_law (Expr-F.Num i at) w s holds fixed = (refl, refl)
  layer_law (Expr-F.Expr::Bool c at) w s holds fixed = (refl, refl)
  layer_law (Expr-F.Var x) w s holds fixed =
      let r = ref_of x.0 in
      subst (λ z. Gives (IsSort z) 0 (defined r.span (s.store (key_of r)))) x.1 (gives_defined (IsSort (sorts r.name r.copy)) r.span (s.store (key_of r)) (λ v e. holds (key_of r) v e))
  layer_law (Expr-F.Cell x e) w s holds fixed =
      gives_then (IsSort (shape_of sorts e.0).sort) (IsSort (sort_of_var x.0)) (shape_of sorts e.0).count 1 (evaluated e.0 (Some S64) s) (λ v. cell_value (ref_of x.0) v s.store) (e.1 (Some S64) s holds fixed)
      (λ v q. subst (λ z. Gives (IsSort z) 1 (cell_value (ref_of x.0) v s.store)) x.1 (cell_gives sorts (ref_of x.0) v s.store holds))
  layer_law (Expr-F.Load a) w s holds fixed =
      gives_then (Any {A = Value}) (IsSort words) (shape_of_access a.0).count 1 ((access_of a.0).at s) (λ v. load_at (access_of a.0) w v s.memory) (a.1 s holds fixed) (λ v t. load_gives (access_of a.0) w v s.memory)
  layer_law (Expr-F.Neg e at) w s holds fixed =
      no_more _ _ _
      (gives_then (IsSort (shape_of sorts e.0).sort) (IsSort (shape_of sorts e.0).sort) (shape_of sorts e.0).count 0 (evaluated e.0 _ s) (λ v. defined at (negated v)) (e.1 _ s holds fixed)
      (λ v q. gives_defined (IsSort (shape_of sorts e.0).sort) at (negated v) (λ u h. negated_sort v u h ∙ q)))
  layer_law (Expr-F.Not e at) w s holds fixed =
      no_more _ _ _
      (gives_then (IsSort (shape_of sorts e.0).sort) (IsSort (shape_of sorts e.0).sort) (shape_of sorts e.0).count 0 (evaluated e.0 _ s) (λ v. went [] (inverted v)) (e.1 _ s holds fixed)
      (λ v q. (refl, inverted_sort v ∙ q)))
  layer_law (Expr-F.Cast z sign e at) w s holds fixed =
      no_more _ _ _
      (gives_then (IsSort (shape_of sorts e.0).sort) (IsSort words) (shape_of sorts e.0).count 0 (evaluated e.0 _ s) (λ v. defined at (cast z sign v)) (e.1 _ s holds fixed)
      (λ v q. gives_defined (IsSort words) at (cast z sign v) (λ u h. cast_sort z sign v u h)))
  layer_law (Expr-F.Bin op x y at) w s holds fixed = binary_fits op (meaning_of x.0) (meaning_of y.0) (shape_of sorts x.0) (shape_of sorts y.0) at x.1 y.1 w s holds fixed

  meaning_is : (x : Expr-F Expr Ty Access Decl Var) → meaning_of (roll-Expr x) ≡ meaning_layer x
  meaning_is x = fold-roll-Expr _ _ _ _ _ expr_step ty_step access_step decl_step var_step x

  shape_is : (x : Expr-F Expr Ty Access Decl Var) → shape_of sorts (roll-Expr x) ≡ shape_layer x
  shape_is x = fold-roll-Expr _ _ _ _ _ shape_step (λ t. tt) (λ a. a.at) (λ d. tt) (λ v. sorts v.name v.copy) x

  expr_case : (y : Known) → ExprLaw (roll-Expr (bare y))
  expr_case y = subst (λ m. Fits m (shape_of sorts (roll-Expr (bare y)))) (sym (meaning_is (bare y))) (subst (Fits (meaning_layer (bare y))) (sym (shape_is (bare y))) (layer_law y))

  access_case : (y : Access-F ((e : Expr) × ExprLaw e) ((t : Ty) × Any t) ((a : Access) × AccessLaw a) ((d : Decl) × Any d) ((x : Var) × VarLaw x)) → AccessLaw (roll-Access (map-Access _ _ _ _ _ _ _ _ _ _ (λ e. e.0) (λ e. e.0) (λ e. e.0) (λ e. e.0) (λ e. e.0) y))
  access_case y =
      let x = map-Access _ _ _ _ _ Expr Ty Access Decl Var (λ e. e.0) (λ e. e.0) (λ e. e.0) (λ e. e.0) (λ e. e.0) y in
      subst (λ p. AccessFits p (shape_of_access (roll-Access x))) (sym (fold-roll-Access _ _ _ _ _ expr_step ty_step access_step decl_step var_step x))
      (subst (AccessFits (access_step (map-Access _ _ _ _ _ Meaning Kind MemoryAccess Kind Ref meaning_of kind_of_ty access_of kind_of_decl ref_of x)))
      (sym (fold-roll-Access _ _ _ _ _ shape_step (λ t. tt) (λ a. a.at) (λ d. tt) (λ v. sorts v.name v.copy) x))
      (λ s holds fixed. any_sort _ _ _ (y.at.1 (Some S64) s holds fixed)))

  var_case : (x : Var-F Expr Ty Access Decl Var) → VarLaw (roll-Var x)
  var_case x =
      ap (λ (r : Ref). sorts r.name r.copy) (fold-roll-Var _ _ _ _ _ expr_step ty_step access_step decl_step var_step x)
      ∙ sym (fold-roll-Var _ _ _ _ _ shape_step (λ t. tt) (λ a. a.at) (λ d. tt) (λ v. sorts v.name v.copy) x)

  pub shapes : (e : Expr) → ExprLaw e
  shapes =
      ind-Expr ExprLaw Any AccessLaw Any VarLaw
      (λ x y is. subst (λ z. ExprLaw (roll-Expr z)) is (expr_case y))
      (λ x y is. tt)
      (λ x y is. subst (λ z. AccessLaw (roll-Access z)) is (access_case y))
      (λ x y is. tt)
      (λ x y is. var_case x)

-- ---- the law

pub counted : (sorts : Sorts) (e : Expr) (w : Option Size) (s : State) (ns : List ℕ) (v : Value) → HoldsSorts sorts s.store → (shape_of sorts e).fixed ≡ true → evaluated e w s ≡ went ns v → length ns ≡ (shape_of sorts e).count
counted sorts e w s ns v holds fixed is =
    let h : Gives (IsSort (shape_of sorts e).sort) (shape_of sorts e).count (went ns v) = subst (Gives (IsSort (shape_of sorts e).sort) (shape_of sorts e).count) is (shapes sorts e w s holds fixed) in
    h.0

pub same_count :
    (sorts : Sorts) (e : Expr) (w : Option Size) (s t : State) (ms ns : List ℕ) (u v : Value) → HoldsSorts sorts s.store → HoldsSorts sorts t.store → (shape_of sorts e).fixed ≡ true →
    evaluated e w s ≡ went ms u → evaluated e w t ≡ went ns v → length ms ≡ length ns
same_count sorts e w s t ms ns u v hs ht fixed is it = counted sorts e w s ms u hs fixed is ∙ sym (counted sorts e w t ns v ht fixed it)
