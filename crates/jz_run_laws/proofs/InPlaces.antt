-- An expression has a value of its place, where it is evaluated at the size of that place.
use Rattle.std.proofs.Common.{◌≡◌, ℕ, ◌<◌, Bool, true, false, [], ◌∷◌, Option, Some, None, refl, sym, ap, ap₂, ◌∙◌, subst, inl, inr, if◌then◌else◌, ltb-true}
use Rattle.std.proofs.lemmas.Bool.{false≢true}
use Rattle.std.specs.Prelude.{nat_lt, ◌||◌, ◌⊎◌}
use Rattle.std.specs.Option.{option_or}
use Rattle.jz_tree.specs.Span.{Span}
use Rattle.jz_tree.specs.Size.{Size}
use Rattle.jz_tree.specs.Size.TheVariants.{S8, S64}
use Rattle.jz_tree.specs.Sizes.{bytes_of}
use Rattle.jz_tree.specs.Memory.{Memory, loaded}
use Rattle.jz_tree.specs.declared.expr.BinOp.{BinOp}
use Rattle.jz_tree.specs.declared.expr.BinOp.TheVariants as o
use Rattle.jz_tree.specs.declared.expr.Expr.{Expr}
use Rattle.jz_tree.specs.declared.expr.Ty.{Ty}
use Rattle.jz_tree.specs.declared.expr.Access.{Access}
use Rattle.jz_tree.specs.declared.expr.Decl.{Decl}
use Rattle.jz_tree.specs.declared.expr.Var.{Var}
use Rattle.jz_tree.specs.declared.expr.Expr.TheOpen.{Expr-F}
use Rattle.jz_tree.specs.declared.expr.Expr.TheViews.{out-roll-Expr, roll-Expr, out-Access}
use Rattle.jz_tree.specs.declared.expr.Expr.TheFolds.{fold-roll-Expr, ind-Expr, map-Expr}
use Rattle.jz_tree.specs.Operators.{is_shift}
use Rattle.jz_type_names.specs.declared.kinds.Kind as known
use Rattle.jz_type_names.specs.Kinds.{Known, known_of}
use Rattle.jz_type_sizes.specs.declared.operators.Group.{Group}
use Rattle.jz_type_sizes.specs.declared.operators.Group.TheVariants as group
use Rattle.jz_type_sizes.specs.Operators.{group_of}
use Rattle.jz_judgement.specs.Places.{Place, TakesNumber, TakesWord, IsTruth, KindGoes, Goes, IsArrayOf, ArrayKind, IsSum, count_place}
use Rattle.jz_judgement.specs.Places as place
use Rattle.jz_judgement.specs.HasType as judged
use Rattle.jz_judgement.specs.HasType.{Layer, value, HasType, Types, Accesses, Operates, Says}
use Rattle.jz_judgement.proofs.Expressions.{judged_of}
use Rattle.jz_judgement.proofs.Nothing.{none_not, same_some}
use Rattle.jz_meaning.specs.Rules.{went}
use Rattle.jz_meaning.specs.declared.access.Kind as meant
use Rattle.jz_meaning.specs.declared.access.Kind.TheVariants as kind
use Rattle.jz_meaning.specs.declared.value.Why.TheVariants.{Bounds, Align}
use Rattle.jz_meaning.specs.Attempts.{Evaluation, stuck_at, and_then, defined}
use Rattle.jz_meaning.specs.States.{Value, word, boolean, integer, Store, State}
use Rattle.jz_meaning.specs.Operators.{is_settled, combined, shifted, binary, negated, inverted, cast}
use Rattle.jz_meaning.specs.Operators as operators
use Rattle.jz_meaning.specs.Values.{Ref, key_of, cell_key, in_cells, index_at, cell_value, MemoryAccess, is_aligned, accessed, load_word, address_at, load_at, gives_word, size_of_operation, left_wanted, right_wanted, with_right, run_binary, expr_step, ty_step, access_step, decl_step, var_step, ref_of, access_of, own_size, evaluated}
use Rattle.jz_run_laws.specs.Kinds.{Kinds, kind_at, IsOfKind, IsOfKinds, HoldsKinds}
use Rattle.jz_run_laws.specs.DeclaredKinds.{IsDeclared}
use Rattle.jz_run_laws.specs.Kept.{IfWent}
use Rattle.jz_run_laws.proofs.Parts.{AnyOf, IfThere, went_then, went_any, went_defined, there_if}
use Rattle.jz_run_laws.proofs.Stores.{cells_are_words}
use Rattle.jz_run_laws.specs.Counted as counted
use Rattle.jz_run_laws.specs.Counted.{Counted, Each, EachLayer}
use Rattle.jz_run_laws.specs.Values.{IsAt, IsWanted}
use Rattle.jz_run_laws.proofs.SameKinds as same
use Rattle.jz_run_laws.proofs.SameKinds.{SameKind, SameKnown}
use Rattle.jz_run_laws.proofs.Sizes.{CountedLayer, meant_layer, size_law, says_law, variable_law, access_law, types_of, each_of}
use Rattle.jz_run_laws.proofs.OperatorsInPlaces.{word_at, number_at, arith_at, carry_at, shift_at, integers_at, words_at, logic_at, negated_at, inverted_at, cast_at, is_arith, is_compare, is_moved}
use Rattle.jz_run_laws.proofs.Placed.{size_at, sum_group}

-- ---- what variables hold
truth_at : (p : Place) (c : Bool) → IsTruth p → IsAt p (boolean c)
truth_at place.integer c h = absurd h
truth_at place.truth c h = tt
truth_at (place.word z) c h = absurd h
truth_at (place.stated z) c h = absurd h
truth_at place.unsized c h = absurd h

held_word : (z : Size) (u : Value) (p : Place) → IsOfKind (kind.Word z) u → TakesWord z p → IsAt p u
held_word z (word y a) p h t = word_at p y a (subst (λ x. TakesWord x p) (sym h.0) t)
held_word z (boolean c) p h t = absurd h
held_word z (integer i) p h t = absurd h

held_kind : (k : known.Kind) (m : meant.Kind) (u : Value) (p : Place) → SameKind k m → IsOfKind m u → KindGoes k p → IsAt p u
held_kind k m (integer i) p same.int h g = number_at p i g
held_kind k m (word y a) p same.int h g = absurd h
held_kind k m (boolean c) p same.int h g = absurd h
held_kind k m (boolean c) p same.bool h g = truth_at p c g
held_kind k m (word y a) p same.bool h g = absurd h
held_kind k m (integer i) p same.bool h g = absurd h
held_kind k m u p (same.word z) h g = held_word z u p h g
held_kind k m u p (same.array z n) h g = absurd g

held_known : (k : Known) (m : meant.Kind) (u : Value) (p : Place) → SameKnown k m → IsOfKind m u → Goes k p → IsAt p u
held_known None m u p e h g = absurd (subst (λ x. IsOfKind x u) e h)
held_known (Some d) m u p e h g = held_kind d.kind m u p e h g

array_kind : (k : known.Kind) (m : meant.Kind) (z : Size) → SameKind k m → ArrayKind z k → (n : ℕ) × (m ≡ kind.Array z n)
array_kind k m z same.int g = absurd g
array_kind k m z same.bool g = absurd g
array_kind k m z (same.word y) g = absurd g
array_kind k m z (same.array y n) g = (n, ap (λ x. kind.Array x n) g)

array_known : (k : Known) (m : meant.Kind) (z : Size) → SameKnown k m → IsArrayOf z k → (n : ℕ) × (m ≡ kind.Array z n)
array_known None m z e g = absurd g
array_known (Some d) m z e g = array_kind d.kind m z e g

-- ---- cells
abbrev IsCell : meant.Kind → ℕ → Type 0
IsCell (kind.Array z n) i = i < n
IsCell _ i = ⊥

index_if : (c : Bool) (at : Span) (z : Size) (n i : ℕ) → nat_lt i n ≡ c → IfWent (IsCell (kind.Array z n)) (if c then went (i ∷ []) i else stuck_at at Bounds)
index_if true at z n i e = ltb-true i n e
index_if false at z n i e = tt

cells_within : (at : Span) (k : meant.Kind) (i : ℕ) → IfWent (IsCell k) (in_cells at k i)
cells_within at (kind.Array z n) i = index_if (nat_lt i n) at z n i refl
cells_within at kind.Undeclared i = tt
cells_within at kind.Int i = tt
cells_within at kind.Bool i = tt
cells_within at (kind.Word z) i = tt

index_within : (x : Ref) (v : Value) → IfWent (IsCell x.kind) (index_at x v)
index_within x v = went_then (AnyOf {A = ℕ}) (IsCell x.kind) (operators.word_at x.span S64 v) (in_cells x.span x.kind) (went_any (operators.word_at x.span S64 v)) (λ i t. cells_within x.span x.kind i)

cell_held : (kinds : Kinds) (store : Store) (x : Ref) (z : Size) (n i : ℕ) (u : Value) (p : Place) → HoldsKinds kinds store → kind_at kinds (key_of x) ≡ kind.Array z n → i < n
    → store (cell_key x i) ≡ Some u → TakesWord z p → IsAt p u
cell_held kinds store x z n i u p h e lt found t =
    held_word z u p (subst (λ k. IsOfKind k u) (cells_are_words (kinds x.name x.copy) x.cell z n i e lt) (h (cell_key x i) u found)) t

cell_at : (kinds : Kinds) (store : Store) (x : Ref) (v : Value) (z : Size) (n : ℕ) (p : Place) → HoldsKinds kinds store → IsDeclared kinds x → x.kind ≡ kind.Array z n
    → TakesWord z p → IfWent (IsAt p) (cell_value x v store)
cell_at kinds store x v z n p h d e t =
    went_then (IsCell x.kind) (IsAt p) (index_at x v) (λ i. defined x.span (store (cell_key x i))) (index_within x v)
    (λ i lt. went_defined (IsAt p) x.span (store (cell_key x i))
    (there_if (IsAt p) (store (cell_key x i)) (λ u found. cell_held kinds store x z n i u p h (d ∙ e) (subst (λ k. IsCell k i) e lt) found t)))

-- ---- accesses
aligned_at : (p : Place) (c : Bool) (at : Span) (a b : ℕ) (s : Size) → TakesWord s p → IfWent (IsAt p) (and_then (if c then went (a ∷ []) b else stuck_at at Align) (λ b. went [] (word s b)))
aligned_at p true at a b s h = word_at p s b h
aligned_at p false at a b s h = tt

loaded_at : (p : Place) (at : Span) (u : Bool) (s : Size) (a : ℕ) (b : Option ℕ) → TakesWord s p → IfWent (IsAt p) (and_then (accessed at u s a b) (λ b. went [] (word s b)))
loaded_at p at u s a None h = tt
loaded_at p at u s a (Some b) h = aligned_at p (u || is_aligned s a) at a b s h

load_word_at : (p : Place) (at : Span) (u : Bool) (z : Option Size) (s : Size) (a : ℕ) (m : Memory) → z ≡ Some s → TakesWord s p → IfWent (IsAt p) (load_word at u z a m)
load_word_at p at u None s a m e h = absurd (none_not s e)
load_word_at p at u (Some y) s a m e h = loaded_at p at u y a (loaded m a (bytes_of y)) (subst (λ x. TakesWord x p) (sym (same_some y s e)) h)

load_law : (p : Place) (x : MemoryAccess) (w : Option Size) (s : Size) (v : Value) (m : Memory) → option_or x.size w ≡ Some s → TakesWord s p → IfWent (IsAt p) (load_at x w v m)
load_law p x w s v m e h =
    went_then (AnyOf {A = ℕ}) (IsAt p) (address_at x v) (λ a. load_word x.span x.unaligned (option_or x.size w) a m) (went_any (address_at x v))
    (λ a t. load_word_at p x.span x.unaligned (option_or x.size w) s a m e h)

access_at : (a : Access) (p : Place) (w : Option Size) (v : Value) (m : Memory) → Accesses (out-Access a) p → IsWanted p w → IfWent (IsAt p) (load_at (access_of a) w v m)
access_at a p w v m (judged.sized z e t x) f =
    load_law p (access_of a) w z v m (ap (λ s. option_or s w) ((access_law a).0 ∙ (access_law a).1 ∙ e)) t
access_at a p w v m (judged.bare {z = z} e x) f =
    load_law p (access_of a) w z v m (ap (λ s. option_or s w) ((access_law a).0 ∙ (access_law a).1 ∙ e) ∙ f) refl

-- ---- sizes that are wanted
unsized_none : (e : Expr) → Counted e → HasType (value e) place.unsized → own_size e ≡ None
unsized_none e c h = size_law e place.unsized c h ∙ (judged_of e).agrees.free ((judged_of e).agrees.right place.unsized h)

integer_none : (e : Expr) → Counted e → HasType (value e) place.integer → own_size e ≡ None
integer_none e c h = size_law e place.integer c h ∙ (judged_of e).agrees.whole ((judged_of e).agrees.right place.integer h)

or_wanted : (w x : Option Size) (z : Size) → w ≡ Some z → option_or w x ≡ Some z
or_wanted None x z e = absurd (none_not z e)
or_wanted (Some y) x z e = e

pub still_wanted : (p : Place) (w x : Option Size) → IsWanted p w → (p ≡ place.unsized → x ≡ None) → IsWanted p (option_or w x)
still_wanted place.integer w x f k = tt
still_wanted place.truth w x f k = tt
still_wanted (place.word z) w x f k = or_wanted w x z f
still_wanted (place.stated z) w x f k = or_wanted w x z f
still_wanted place.unsized w x f k = ap (λ s. option_or s x) f ∙ k refl

pub own_unsized : (e : Expr) (p : Place) → Counted e → HasType (value e) p → p ≡ place.unsized → own_size e ≡ None
own_unsized e p c h is = unsized_none e c (subst (HasType (value e)) is h)

-- ---- operations
abbrev pub Facts : Group → BinOp → Type 0
Facts group.Arith op = (gives_word op ≡ true) × (is_shift op ≡ false)
Facts group.Shift op = (gives_word op ≡ true) × (is_shift op ≡ true)
Facts group.Compare op = (gives_word op ≡ false) × (is_shift op ≡ false)
Facts group.Logic op = (gives_word op ≡ false) × (is_shift op ≡ false)

facts : (op : BinOp) → Facts (group_of op) op
facts o.OrElse = (refl, refl)
facts o.AndThen = (refl, refl)
facts o.Or = (refl, refl)
facts o.Xor = (refl, refl)
facts o.And = (refl, refl)
facts o.Eq = (refl, refl)
facts o.Ne = (refl, refl)
facts o.Lt = (refl, refl)
facts o.Le = (refl, refl)
facts o.Gt = (refl, refl)
facts o.Ge = (refl, refl)
facts o.LtS = (refl, refl)
facts o.LeS = (refl, refl)
facts o.GtS = (refl, refl)
facts o.GeS = (refl, refl)
facts o.Shl = (refl, refl)
facts o.Shr = (refl, refl)
facts o.Sar = (refl, refl)
facts o.Rol = (refl, refl)
facts o.Ror = (refl, refl)
facts o.Add = (refl, refl)
facts o.Sub = (refl, refl)
facts o.Mul = (refl, refl)
facts o.Div = (refl, refl)
facts o.Rem = (refl, refl)
facts o.DivS = (refl, refl)
facts o.RemS = (refl, refl)

pub facts_of : (g : Group) (op : BinOp) → group_of op ≡ g → Facts g op
facts_of g op e = subst (λ x. Facts x op) e (facts op)

abbrev pub is_logic : Group → Bool
is_logic group.Logic = true
is_logic _ = false

settled_logic : (op : BinOp) (x : Value) → is_settled op x ≡ true → is_logic (group_of op) ≡ true
settled_logic o.AndThen x h = refl
settled_logic o.OrElse x h = refl
settled_logic op x h = absurd (false≢true h)

not_settled : (g : Group) (op : BinOp) (x : Value) → group_of op ≡ g → is_logic g ≡ false → is_settled op x ≡ true → ⊥
not_settled g op x e n h = false≢true (sym n ∙ ap is_logic (sym e) ∙ settled_logic op x h)

abbrev Run : Type 0
Run = Option Size → State → Evaluation Value

right_by : (q p : Place) (c : Bool) (op : BinOp) (right : Run) (at : Span) (w : Option Size) (s : State) (x : Value) → (c ≡ true → IsAt p x)
    → IfWent (IsAt q) (right (right_wanted op w) s) → ((y : Value) → IsAt q y → IfWent (IsAt p) (binary op at w x y))
    → IfWent (IsAt p) (if c then went [] x else and_then (right (right_wanted op w) s) (λ y. binary op at w x y))
right_by q p true op right at w s x k h f = k refl
right_by q p false op right at w s x k h f = went_then (IsAt q) (IsAt p) (right (right_wanted op w) s) (λ y. binary op at w x y) h f

-- a stands in r, b in q, and the whole in p
both_at : (r q p : Place) (op : BinOp) (left right : Run) (at : Span) (w : Option Size) (s : State) → IfWent (IsAt r) (left w s) → IfWent (IsAt q) (right (right_wanted op w) s)
    → ((x : Value) → IsAt r x → is_settled op x ≡ true → IsAt p x) → ((x y : Value) → IsAt r x → IsAt q y → IfWent (IsAt p) (binary op at w x y))
    → IfWent (IsAt p) (run_binary op left right at w s)
both_at r q p op left right at w s hl hr k f =
    went_then (IsAt r) (IsAt p) (left w s) (with_right op right at w s) hl
    (λ x hx. right_by q p (is_settled op x) op right at w s x (k x hx) hr (λ y hy. f x y hx hy))

plain_binary : (op : BinOp) (p : Place) (at : Span) (w : Option Size) (x y : Value) → is_shift op ≡ false → IfWent (IsAt p) (combined op at x y) → IfWent (IsAt p) (binary op at w x y)
unfolding binary
plain_binary op p at w x y e h = subst (λ b. IfWent (IsAt p) (if b then defined at (shifted op w x y) else combined op at x y)) (sym e) h

shift_binary : (op : BinOp) (p : Place) (at : Span) (w : Option Size) (x y : Value) → is_shift op ≡ true → IfThere (IsAt p) (shifted op w x y) → IfWent (IsAt p) (binary op at w x y)
unfolding binary
shift_binary op p at w x y e h = subst (λ b. IfWent (IsAt p) (if b then defined at (shifted op w x y) else combined op at x y)) (sym e) (went_defined (IsAt p) at (shifted op w x y) h)

-- the right operand's size, which is that of the left one but for a shift
pub plain_right : (op : BinOp) (p : Place) (w : Option Size) → is_shift op ≡ false → IsWanted p w → IsWanted p (right_wanted op w)
plain_right op p w e h = subst (λ b. IsWanted p (if b then Some S8 else w)) (sym e) h

pub shift_right : (op : BinOp) (p : Place) (w : Option Size) → is_shift op ≡ true → IsWanted (count_place p) (right_wanted op w)
shift_right op place.integer w e = tt
shift_right op place.truth w e = ap (λ b. if b then Some S8 else w) e
shift_right op (place.word z) w e = ap (λ b. if b then Some S8 else w) e
shift_right op (place.stated z) w e = ap (λ b. if b then Some S8 else w) e
shift_right op place.unsized w e = ap (λ b. if b then Some S8 else w) e

-- the left operand of what gives a word
pub left_of_word : (op : BinOp) (p : Place) (w a b : Option Size) → gives_word op ≡ true → IsWanted p w → (p ≡ place.unsized → size_of_operation op a b ≡ None) → IsWanted p (left_wanted op w a b)
left_of_word op p w a b g f n =
    subst (λ c. IsWanted p (if c then option_or w (size_of_operation op a b) else option_or a b)) (sym g) (still_wanted p w (size_of_operation op a b) f n)

pub no_size : (op : BinOp) (a b : Option Size) → a ≡ None → b ≡ None → size_of_operation op a b ≡ None
no_size op a b x y = ap₂ (size_of_operation op) x y ∙ none_of (gives_word op) (is_shift op)
  where
    none_of : (g s : Bool) → ◌≡◌ {A = Option Size} (if g then (if s then None else option_or None None) else None) None
    none_of true true = refl
    none_of true false = refl
    none_of false s = refl

pub moved_size : (op : BinOp) (a b : Option Size) → is_shift op ≡ true → a ≡ None → size_of_operation op a b ≡ None
moved_size op a b e n = subst (λ c. ◌≡◌ {A = Option Size} (if gives_word op then (if c then a else option_or a b) else None) None) (sym e) (either (gives_word op) a n)
  where
    either : (g : Bool) (a : Option Size) → a ≡ None → ◌≡◌ {A = Option Size} (if g then a else None) None
    either true a n = n
    either false a n = refl

pub own_truth : (e : Expr) → Counted e → HasType (value e) place.truth → own_size e ≡ None
own_truth e c h = size_law e place.truth c h ∙ (judged_of e).apart.size ((judged_of e).apart.bool ((judged_of e).agrees.right place.truth h))

second_wanted : (a b : Option Size) (z : Size) → ((y : Size) → a ≡ Some y → Some z ≡ Some y) → b ≡ Some z → option_or a b ≡ Some z
second_wanted None b z f e = e
second_wanted (Some y) b z f e = sym (f y refl)

pub either_says : (a b : Expr) (z : Size) → Counted a → Counted b → HasType (value a) (place.word z) → HasType (value b) (place.word z)
    → Says (value a) z ⊎ Says (value b) z → option_or (own_size a) (own_size b) ≡ Some z
either_says a b z c d x y h =
    elim h [
      | inl s ↦ or_wanted (own_size a) (own_size b) z ((says_law a (place.word z) c x z).1 s)
      | inr s ↦ second_wanted (own_size a) (own_size b) z (λ q e. size_at a (place.word z) x q (sym (size_law a (place.word z) c x) ∙ e)) ((says_law b (place.word z) d y z).1 s)
    ]

pub left_of_words : (op : BinOp) (w a b : Option Size) (z : Size) → gives_word op ≡ false → option_or a b ≡ Some z → left_wanted op w a b ≡ Some z
left_of_words op w a b z g e =
    subst (λ c. (if c then option_or w (size_of_operation op a b) else option_or a b) ≡ Some z) (sym g) e

abbrev ValueAt : State → Expr → Type 0
ValueAt s e = (p : Place) (w : Option Size) → HasType (value e) p → IsWanted p w → IfWent (IsAt p) (evaluated e w s)

operation_at : (op : BinOp) (a b : Expr) (at : Span) (p : Place) (w : Option Size) (s : State) → Counted a → Counted b → ValueAt s a → ValueAt s b
    → Operates op (value a) (value b) p → IsWanted p w → IfWent (IsAt p) (run_binary op (evaluated a) (evaluated b) at (left_wanted op w (own_size a) (own_size b)) s)
operation_at op a b at p w s c d la lb (judged.arithmetic g k m x y) f =
    let z = left_wanted op w (own_size a) (own_size b) in
    let q = facts_of group.Arith op g in
    let i = left_of_word op p w (own_size a) (own_size b) q.0 f (λ is. no_size op (own_size a) (own_size b) (own_unsized a p c x is) (own_unsized b p d y is)) in
    both_at p p p op (evaluated a) (evaluated b) at z s (la p z x i) (lb p (right_wanted op z) y (plain_right op p z q.1 i))
    (λ u hu t. absurd (not_settled group.Arith op u g refl t))
    (λ u v hu hv. plain_binary op p at z u v q.1 (arith_at op p at u v (ap is_arith g) k hu hv))
operation_at op a b at p w s c d la lb (judged.carry g k x y) f =
    let z = left_wanted op w (own_size a) (own_size b) in
    let e = sum_group op g in
    let q = facts_of group.Arith op e in
    let i = left_of_word op p w (own_size a) (own_size b) q.0 f (λ is. no_size op (own_size a) (own_size b) (own_unsized a p c x is) (own_truth b d y)) in
    both_at p place.truth p op (evaluated a) (evaluated b) at z s (la p z x i) (lb place.truth (right_wanted op z) y tt)
    (λ u hu t. absurd (not_settled group.Arith op u e refl t))
    (λ u v hu hv. plain_binary op p at z u v q.1 (carry_at op p at u v g hu hv))
operation_at op a b at p w s c d la lb (judged.shift g k m x y) f =
    let z = left_wanted op w (own_size a) (own_size b) in
    let q = facts_of group.Shift op g in
    let i = left_of_word op p w (own_size a) (own_size b) q.0 f (λ is. moved_size op (own_size a) (own_size b) q.1 (own_unsized a p c x is)) in
    both_at p (count_place p) p op (evaluated a) (evaluated b) at z s (la p z x i) (lb (count_place p) (right_wanted op z) y (shift_right op p z q.1))
    (λ u hu t. absurd (not_settled group.Shift op u g refl t))
    (λ u v hu hv. shift_binary op p at z u v q.1 (shift_at op p z u v (ap is_moved g) k i hu hv))
operation_at op a b at p w s c d la lb (judged.integers g m x y) f =
    let z = left_wanted op w (own_size a) (own_size b) in
    let q = facts_of group.Compare op g in
    both_at place.integer place.integer place.truth op (evaluated a) (evaluated b) at z s (la place.integer z x tt) (lb place.integer (right_wanted op z) y tt)
    (λ u hu t. absurd (not_settled group.Compare op u g refl t))
    (λ u v hu hv. plain_binary op place.truth at z u v q.1 (integers_at op at u v (ap is_compare g) hu hv))
operation_at op a b at p w s c d la lb (judged.words n g m x y) f =
    let z = left_wanted op w (own_size a) (own_size b) in
    let q = facts_of group.Compare op g in
    let i = left_of_words op w (own_size a) (own_size b) n q.0 (either_says a b n c d x y m) in
    both_at (place.word n) (place.word n) place.truth op (evaluated a) (evaluated b) at z s (la (place.word n) z x i)
    (lb (place.word n) (right_wanted op z) y (plain_right op (place.word n) z q.1 i))
    (λ u hu t. absurd (not_settled group.Compare op u g refl t))
    (λ u v hu hv. plain_binary op place.truth at z u v q.1 (words_at op n at u v (ap is_compare g) hu hv))
operation_at op a b at p w s c d la lb (judged.logic g x y) f =
    let z = left_wanted op w (own_size a) (own_size b) in
    let q = facts_of group.Logic op g in
    both_at place.truth place.truth place.truth op (evaluated a) (evaluated b) at z s (la place.truth z x tt) (lb place.truth (right_wanted op z) y tt)
    (λ u hu t. hu)
    (λ u v hu hv. plain_binary op place.truth at z u v q.1 (logic_at op at u v hu hv))

-- ---- expressions
abbrev Declares : Kinds → Var → Type 0
Declares kinds v = IsDeclared kinds (ref_of v)

abbrev ExprLaw : Kinds → State → Expr → Type 0
ExprLaw kinds s e = Counted e → Each (Declares kinds) e → ValueAt s e

abbrev Proved : Kinds → State → Type 0
Proved kinds s = Expr-F ((e : Expr) × ExprLaw kinds s e) ((t : Ty) × AnyOf t) ((a : Access) × AnyOf a) ((d : Decl) × AnyOf d) ((v : Var) × AnyOf v)

abbrev bare : (kinds : Kinds) (s : State) → Proved kinds s → Layer
bare kinds s y = map-Expr _ _ _ _ _ _ _ _ _ _ (λ e. e.0) (λ e. e.0) (λ e. e.0) (λ e. e.0) (λ e. e.0) y

layer_at : (kinds : Kinds) (s : State) (h : IsOfKinds kinds s) (y : Proved kinds s) (p : Place) (w : Option Size)
    → CountedLayer (bare kinds s y) → EachLayer (Declares kinds) (bare kinds s y) → Types (bare kinds s y) p → IsWanted p w → IfWent (IsAt p) ((meant_layer (bare kinds s y)).run w s)
layer_at kinds s h (Expr-F.Num n at) p w c d (judged.number k) f = number_at p n k
layer_at kinds s h (Expr-F.Expr::Bool b at) p w c d judged.bool f = tt
layer_at kinds s h (Expr-F.Var v) p w (counted.variable c) (counted.variable d) (judged.variable g) f =
    went_defined (IsAt p) (ref_of v.0).span (s.store (key_of (ref_of v.0)))
    (there_if (IsAt p) (s.store (key_of (ref_of v.0)))
    (λ u found. held_known (known_of v.0) (ref_of v.0).kind u p ((variable_law v.0).1 c) (subst (λ k. IsOfKind k u) d (h.variables (key_of (ref_of v.0)) u found)) g))
layer_at kinds s h (Expr-F.Cell v e) p w (counted.cell c j) (counted.cell d i) (judged.cell z g t x) f =
    let n = array_known (known_of v.0) (ref_of v.0).kind z ((variable_law v.0).1 c) g in
    went_then (AnyOf {A = Value}) (IsAt p) (evaluated e.0 (Some S64) s) (λ u. cell_value (ref_of v.0) u s.store) (went_any (evaluated e.0 (Some S64) s))
    (λ u q. cell_at kinds s.store (ref_of v.0) u z n.0 p h.variables d n.1 t)
layer_at kinds s h (Expr-F.Load a) p w c d (judged.load x) f =
    went_then (AnyOf {A = Value}) (IsAt p) ((access_of a.0).at s) (λ u. load_at (access_of a.0) w u s.memory) (went_any ((access_of a.0).at s))
    (λ u q. access_at a.0 p w u s.memory x f)
layer_at kinds s h (Expr-F.Neg a at) p w (counted.negated c) (counted.negated d) (judged.negated k x) f =
    let z = option_or w (own_size a.0) in
    went_then (IsAt p) (IsAt p) (evaluated a.0 z s) (λ u. defined at (negated u))
    (a.1 c d p z x (still_wanted p w (own_size a.0) f (own_unsized a.0 p c x)))
    (λ u q. went_defined (IsAt p) at (negated u) (negated_at p u k q))
layer_at kinds s h (Expr-F.Not a at) p w (counted.inverted c) (counted.inverted d) (judged.inverted x) f =
    let z = option_or w (own_size a.0) in
    went_then (IsAt p) (IsAt p) (evaluated a.0 z s) (λ u. went [] (inverted u))
    (a.1 c d p z x (still_wanted p w (own_size a.0) f (own_unsized a.0 p c x)))
    (λ u q. inverted_at p u q)
layer_at kinds s h (Expr-F.Cast z sign a at) p w c d (judged.cast y t says x) f =
    went_then (AnyOf {A = Value}) (IsAt p) (evaluated a.0 (own_size a.0) s) (λ u. defined at (cast z sign u)) (went_any (evaluated a.0 (own_size a.0) s))
    (λ u q. went_defined (IsAt p) at (cast z sign u) (cast_at p z sign u t))
layer_at kinds s h (Expr-F.Bin op a b at) p w (counted.operation c d) (counted.operation i j) (judged.operation x) f =
    operation_at op a.0 b.0 at p w s c d (a.1 c i) (b.1 d j) x f

expr_case : (kinds : Kinds) (s : State) (h : IsOfKinds kinds s) (y : Proved kinds s) → ExprLaw kinds s (roll-Expr (bare kinds s y))
expr_case kinds s h y = λ c d p w t f.
    subst (λ m. IfWent (IsAt p) (m.run w s)) (sym (fold-roll-Expr _ _ _ _ _ expr_step ty_step access_step decl_step var_step (bare kinds s y)))
    (layer_at kinds s h y p w (subst CountedLayer (out-roll-Expr (bare kinds s y)) (each_of (roll-Expr (bare kinds s y)) c))
    (subst (EachLayer (Declares kinds)) (out-roll-Expr (bare kinds s y)) (each_of (roll-Expr (bare kinds s y)) d))
    (subst (λ x. Types x p) (out-roll-Expr (bare kinds s y)) (types_of (roll-Expr (bare kinds s y)) p t)) f)

value_at : (kinds : Kinds) (s : State) (h : IsOfKinds kinds s) (e : Expr) → ExprLaw kinds s e
value_at kinds s h =
    ind-Expr (ExprLaw kinds s) (λ t. AnyOf t) (λ a. AnyOf a) (λ d. AnyOf d) (λ x. AnyOf x)
    (λ x y is. subst (λ z. ExprLaw kinds s (roll-Expr z)) is (expr_case kinds s h y))
    (λ x y is. tt)
    (λ x y is. tt)
    (λ x y is. tt)
    (λ x y is. tt)

pub in_place : (kinds : Kinds) (s : State) (e : Expr) (p : Place) (w : Option Size)
    → IsOfKinds kinds s → Counted e → Each (λ v. IsDeclared kinds (ref_of v)) e
    → HasType (value e) p → IsWanted p w → IfWent (IsAt p) (evaluated e w s)
in_place kinds s e p w h c d t f = value_at kinds s h e c d p w t f
