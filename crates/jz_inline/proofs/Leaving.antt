-- The results make in the copy what the caller's variables are after the call.
use Rattle.std.proofs.Common.{◌≡◌, ℕ, suc, ◌+◌, ◌<◌, List, [], ◌∷◌, ◌++◌, map, length, Option, Some, None, Bool, true, false, refl, ap, sym, ◌∙◌, subst, arith, inl, inr, append-nil, append_assoc, length-append}
use Rattle.std.specs.Prelude.{if◌then◌else◌, ◌||◌, ◌⊎◌, nat_lt}
use Rattle.std.specs.Option.{option_or}
use Rattle.jz_tree.specs.Span.{Span}
use Rattle.jz_tree.specs.Size.{Size}
use Rattle.jz_tree.specs.Size.TheVariants.{S64}
use Rattle.jz_tree.specs.Memory.{Memory}
use Rattle.jz_tree.specs.declared.expr.Expr.{Expr}
use Rattle.jz_tree.specs.declared.expr.Access.{Access}
use Rattle.jz_tree.specs.declared.expr.Var.{Var}
use Rattle.jz_tree.specs.declared.expr.Expr.TheOpen.{Expr-F}
use Rattle.jz_tree.specs.declared.expr.Expr.TheViews.{out-Access, roll-out-Access}
use Rattle.jz_tree.specs.declared.stmt.Lval.{Lval}
use Rattle.jz_tree.specs.declared.program.Fun.{Fun}
use Rattle.jz_tree.specs.declared.program.Param.{Param}
use Rattle.jz_tree.specs.declared.expr.Expr.TheVariants as expr
use Rattle.jz_tree.specs.declared.stmt.Lval.TheVariants as lval
use Rattle.jz_runs.specs.Rules.{stuck, went}
use Rattle.jz_meaning.specs.declared.access.Kind.{Kind}
use Rattle.jz_meaning.specs.declared.value.Stuck.{Stuck}
use Rattle.jz_meaning.specs.declared.value.Why.TheVariants.{Bounds, Align}
use Rattle.jz_meaning.specs.Attempts.{Evaluation, stuck_at, numbers_first, and_then, defined}
use Rattle.jz_meaning.proofs.ShapeLemmas.{counted}
use Rattle.jz_meaning.specs.States.{Value, word, Key, Store, State, same_key}
use Rattle.jz_meaning.specs.Operators.{word_of}
use Rattle.jz_meaning.specs.Values.{size_of, Ref, key_of, cell_key, variable_value, in_cells, index_at, MemoryAccess, is_aligned, accessed, after_store, store_word, store_at, address_at, Meaning, ref_of, access_of, own_size, evaluated}
use Rattle.jz_meaning.specs.Assignments.{left_size, left_sizes, word_value, held, held_or_unset, with_value, in_cell, written}
use Rattle.jz_meaning.specs.Shapes.{sort_of, HoldsSorts}
use Rattle.jz_meaning.specs.Statements.{Operation, Call, does, copied, array_of, array_back, arrays_back, given, all_given, leaves, source}
use Rattle.jz_meaning.specs.declared.access.Kind.TheVariants as kind
use Rattle.jz_change.specs.Changes.{number_in, numbers_in}
use Rattle.jz_change.specs.declared.change.Numbers.{Numbers}
use Rattle.jz_change.specs.declared.change.Numbers.TheVariants.{These}
use Rattle.jz_change.specs.Fitting.{HasThese}
use Rattle.jz_pass.specs.Operations.{DoAll, do_none, do_one, OneFails, fails_here, fails_later}
use Rattle.jz_pass.specs.Keeping.{Alike, both_stuck, both_went}
use Rattle.jz_bodies.specs.Scopes.{is_over, is_access_over, Scope, a_scalar, a_cell, Has, Sets, Writes, IsScope}
use Rattle.jz_bodies.specs.Calls.{is_array, IsLent, lent_here, lent_later, IsFixed, IsResult, AreResults, IsCall}
use Rattle.jz_inline.specs.Names.{Names, var_in, lval_in}
use Rattle.jz_inline.proofs.Copies.{ScopeCopy, key_in, ref_in, IsBelow, Stands, Within, callee_copy}
use Rattle.jz_inline.specs.Calls.{callee_names, set_one, call_place, result_op, result_ops, from, result_item, result_items}
use Rattle.jz_inline.specs.Widths.{width, left_width}
use Rattle.jz_inline.proofs.Widths.{same_width}
use Rattle.jz_inline.proofs.Reading.{ref_so, meaning_is, access_is, access_over_is}
use Rattle.jz_inline.proofs.Writing.{same_key-true, Ends, written_so}
use Rattle.jz_inline.proofs.Naming.{same_key-refl, own_copy, place, lent_at, lent_fact, lent_known, sets_has, g, inner, Own, Lent}
use Rattle.jz_inline.proofs.Entering.{none_first, first_stuck, then_went, set_so, held_none, from_so, from_within}
use Rattle.jz_inline.proofs.Filling.{copied_at}

-- ---- arrays that come back

abbrev IsBack : List Param → List Expr → Store → Store → Key → Type 0
IsBack ps es inner outer k = (r : Ref) × (y : Ref) × (z : Size) × (n : ℕ) × (i : ℕ) × IsLent ps es r y × (r.kind ≡ kind.Array z n) × (i < n) × (k ≡ cell_key y i) × (arrays_back ps es inner outer k ≡ inner (cell_key r i))

abbrev NotBack : List Param → List Expr → Key → Type 0
NotBack ps es k = (r y : Ref) (z : Size) (n i : ℕ) → IsLent ps es r y → r.kind ≡ kind.Array z n → i < n → k ≡ cell_key y i → ⊥

pub back_at : (ps : List Param) (es : List Expr) (inner outer : Store) (k : Key) → IsBack ps es inner outer k ⊎ (NotBack ps es k × (arrays_back ps es inner outer k ≡ outer k))
back_at [] es inner outer k = inr (λ r y z n i l. elim l [ ], refl)
back_at (p ∷ ps) [] inner outer k = inr (λ r y z n i l. elim l [ ], refl)
back_at (p ∷ ps) (e ∷ es) inner outer k = by_rest (back_at ps es inner (array_back (ref_of p.var).kind (ref_of p.var) (array_of e) inner outer) k)
  where
    r0 : Ref
    r0 = ref_of p.var

    next : Store
    next = array_back r0.kind r0 (array_of e) inner outer

    not_here : (is_array r0.kind ≡ true → (y : Ref) → array_of e ≡ Some y → (z : Size) (n i : ℕ) → r0.kind ≡ kind.Array z n → i < n → k ≡ cell_key y i → ⊥) → NotBack ps es k → NotBack (p ∷ ps) (e ∷ es) k
    not_here h later _ y z n i (lent_here b q) kd lt same = h b y q z n i kd lt same
    not_here h later r y z n i (lent_later l) kd lt same = later r y z n i l kd lt same

    by_kind : (kd : Kind) (o : Option Ref) → r0.kind ≡ kd → array_of e ≡ o → NotBack ps es k → arrays_back ps es inner next k ≡ array_back kd r0 o inner outer k → IsBack (p ∷ ps) (e ∷ es) inner outer k ⊎ (NotBack (p ∷ ps) (e ∷ es) k × (arrays_back (p ∷ ps) (e ∷ es) inner outer k ≡ outer k))
    by_kind kind.Undeclared o q1 q2 h v = inr (not_here (λ b y q z n i kd lt same. absurd cc) h, v)
    by_kind kind.Int o q1 q2 h v = inr (not_here (λ b y q z n i kd lt same. absurd cc) h, v)
    by_kind kind.Bool o q1 q2 h v = inr (not_here (λ b y q z n i kd lt same. absurd cc) h, v)
    by_kind (kind.Word s) o q1 q2 h v = inr (not_here (λ b y q z n i kd lt same. absurd cc) h, v)
    by_kind (kind.Array z0 n0) None q1 q2 h v = inr (not_here (λ b y q z n i kd lt same. absurd cc) h, v)
    by_kind (kind.Array z0 n0) (Some y0) q1 q2 h v = by_copied (copied_at n0 y0 r0 inner outer k)
      where
        by_copied : ((i : ℕ) × (i < n0) × (k ≡ cell_key y0 i) × (copied n0 y0 r0 inner outer k ≡ inner (cell_key r0 i))) ⊎ (((i : ℕ) → i < n0 → k ≡ cell_key y0 i → ⊥) × (copied n0 y0 r0 inner outer k ≡ outer k)) →
            IsBack (p ∷ ps) (e ∷ es) inner outer k ⊎ (NotBack (p ∷ ps) (e ∷ es) k × (arrays_back (p ∷ ps) (e ∷ es) inner outer k ≡ outer k))
        by_copied (inl (i, lt, same, w)) = inl (r0, y0, z0, n0, i, lent_here (ap is_array q1) q2, q1, lt, same, v ∙ w)
        by_copied (inr (n, w)) = inr (not_here (λ b y q z m i kd lt same. let a : m ≡ n0 = cc in let c : y ≡ y0 = cc in n i (subst (λ j. i < j) a lt) (same ∙ ap (λ u. cell_key u i) c)) h, v ∙ w)

    by_rest : IsBack ps es inner next k ⊎ (NotBack ps es k × (arrays_back ps es inner next k ≡ next k)) → IsBack (p ∷ ps) (e ∷ es) inner outer k ⊎ (NotBack (p ∷ ps) (e ∷ es) k × (arrays_back (p ∷ ps) (e ∷ es) inner outer k ≡ outer k))
    by_rest (inl (r, y, z, n, i, l, kd, lt, same, v)) = inl (r, y, z, n, i, lent_later l, kd, lt, same, v)
    by_rest (inr (h, v)) = by_kind r0.kind (array_of e) refl refl h v

-- ---- how many numbers a left side has

pub no_numbers : {A B : Type 0} (o : Option A) (at : Span) (f : A → Evaluation B) (m : ℕ) → ((a : A) (ns : List ℕ) (b : B) → f a ≡ went ns b → length ns ≡ m) → (ns : List ℕ) (b : B) → and_then (defined at o) f ≡ went ns b → length ns ≡ m
no_numbers None at f m h ns b e = absurd cc
no_numbers (Some a) at f m h ns b e = h a ns b (sym (none_first (f a)) ∙ e)

cells_numbers : (at : Span) (k : Kind) (i : ℕ) (ns : List ℕ) (j : ℕ) → in_cells at k i ≡ went ns j → length ns ≡ 1
cells_numbers at kind.Undeclared i ns j e = absurd cc
cells_numbers at kind.Int i ns j e = absurd cc
cells_numbers at kind.Bool i ns j e = absurd cc
cells_numbers at (kind.Word z) i ns j e = absurd cc
cells_numbers at (kind.Array z n) i ns j e = by_test (nat_lt i n) e
  where
    by_test : (b : Bool) → (if b then went (i ∷ []) i else stuck_at at Bounds) ≡ went ns j → length ns ≡ 1
    by_test true q = let p : ns ≡ i ∷ [] = cc in ap length p
    by_test false q = absurd cc

pub index_numbers : (r : Ref) (v : Value) (ns : List ℕ) (j : ℕ) → index_at r v ≡ went ns j → length ns ≡ 1
index_numbers r v ns j e = no_numbers (word_of S64 v) r.span (in_cells r.span r.kind) 1 (λ a ms b q. cells_numbers r.span r.kind a ms b q) ns j e

pub in_cell_numbers : (r : Ref) (i : ℕ) (z : Option Size) (v : Option Value) (s : State) (ns : List ℕ) (s1 : State) → in_cell r i z v s ≡ went ns s1 → length ns ≡ 0
in_cell_numbers r i None v s ns s1 e = absurd cc
in_cell_numbers r i (Some z) None s ns s1 e = absurd cc
in_cell_numbers r i (Some z) (Some v) s ns s1 e =
    let p = then_went (word_value r.span z v) (λ w. went [] (with_value s (cell_key r i) (Some w))) ns s1 e in
    let a = no_numbers (word_of z v) r.span (λ n. went [] (word z n)) 0 (λ n ms b q. (let w : ms ≡ [] = cc in ap length w)) p.0 p.1 p.3 in
    let b : p.2 ≡ [] = (let w = p.4 in cc) in
    omega (arith, a, ap length b, length-append p.0 p.2, ap length p.5)

pub var_numbers : (r : Ref) (v : Value) (s : State) (ns : List ℕ) (s1 : State) → and_then (held_or_unset r.span r.kind (Some v)) (λ h. went [] (with_value s (key_of r) h)) ≡ went ns s1 → length ns ≡ 0
var_numbers r v s ns s1 e =
    let p = then_went (held_or_unset r.span r.kind (Some v)) (λ h. went [] (with_value s (key_of r) h)) ns s1 e in
    let q = then_went (held r.span r.kind v) (λ h. went [] (Some h)) p.0 p.1 p.3 in
    let a = held_none r.span r.kind v q.0 q.1 q.3 in
    let b : q.2 ≡ [] = (let w = q.4 in cc) in
    let c : p.2 ≡ [] = (let w = p.4 in cc) in
    omega (arith, a, ap length b, ap length c, length-append p.0 p.2, length-append q.0 q.2, ap length p.5, ap length q.5)

pub accessed_numbers : {A : Type 0} (at : Span) (u : Bool) (z : Size) (a : ℕ) (o : Option A) (ns : List ℕ) (b : A) → accessed at u z a o ≡ went ns b → length ns ≡ 1
accessed_numbers at u z a None ns b e = absurd cc
accessed_numbers {A} at u z a (Some y) ns b e = by_test (u || is_aligned z a) e
  where
    by_test : (t : Bool) → (if t then went (a ∷ []) y else stuck_at at Align) ≡ went ns b → length ns ≡ 1
    by_test true q = let p : ns ≡ a ∷ [] = cc in ap length p
    by_test false q = absurd cc

store_word_numbers : (at : Span) (u : Bool) (z : Option Size) (a : ℕ) (v : Value) (m : Memory) (ns : List ℕ) (m1 : Memory) → store_word at u z a (Some v) m ≡ went ns m1 → length ns ≡ 1
store_word_numbers at u None a v m ns m1 e = absurd cc
store_word_numbers at u (Some z) a v m ns m1 e = no_numbers (word_of z v) at (λ b. accessed at u z a (after_store m a z b)) 1 (λ b ms y q. accessed_numbers at u z a (after_store m a z b) ms y q) ns m1 e

pub store_numbers : (p : MemoryAccess) (z : Option Size) (n : Value) (v : Value) (m : Memory) (ns : List ℕ) (m1 : Memory) → store_at p z n (Some v) m ≡ went ns m1 → length ns ≡ 1
store_numbers p z n v m ns m1 e = no_numbers (word_of S64 n) p.span (λ a. store_word p.span p.unaligned (option_or p.size z) a (Some v) m) 1 (λ a ms y q. store_word_numbers p.span p.unaligned (option_or p.size z) a v m ms y q) ns m1 e

address_of : (a : Access) (s : State) → (access_of a).at s ≡ evaluated (out-Access a).at (Some S64) s
address_of a s = ap (λ b. (access_of b).at s) (sym (roll-out-Access a)) ∙ ap (λ (p : MemoryAccess). p.at s) (access_is (out-Access a))

address_reads : (x : Scope) (a : Access) → is_access_over x.has_scalar x.has_array a ≡ true → is_over x.has_scalar x.has_array (out-Access a).at ≡ true
address_reads x a w = sym (access_over_is x.has_scalar x.has_array (out-Access a)) ∙ ap (is_access_over x.has_scalar x.has_array) (roll-out-Access a) ∙ w

pub left_numbers : (x g : Scope) (z : Option Size) (d : Lval) (v : Value) (s : State) (ns : List ℕ) (s1 : State) → IsScope x → HoldsSorts x.sorts s.store → Writes x d → IsFixed x g d → written z d (Some v) s ≡ went ns s1 → length ns ≡ left_width d
left_numbers x g z (lval.Skip at) v s ns s1 h holds w f e = let p : ns ≡ [] = cc in ap length p
left_numbers x g z (lval.Var a) v s ns s1 h holds w f e = var_numbers (ref_of a) v s ns s1 e
left_numbers x g z (lval.Cell a i) v s ns s1 h holds w f e =
    let r = ref_of a in
    let p = then_went (evaluated i (Some S64) s) (λ j. and_then (index_at r j) (λ n. in_cell r n (size_of r.kind) (Some v) s)) ns s1 e in
    let q = then_went (index_at r p.1) (λ n. in_cell r n (size_of r.kind) (Some v) s) p.2 s1 p.4 in
    let b1 : length p.0 ≡ width i = counted x.sorts i (Some S64) s p.0 p.1 holds f p.3 ∙ sym (same_width x h i w.2) in
    let b2 = index_numbers r p.1 q.0 q.1 q.3 in
    let b3 = in_cell_numbers r q.1 (size_of r.kind) (Some v) s q.2 s1 q.4 in
    omega (arith, b1, b2, b3, length-append p.0 p.2, length-append q.0 q.2, ap length p.5, ap length q.5)
left_numbers x g z (lval.Store a) v s ns s1 h holds w f e =
    let p = then_went ((access_of a).at s) (λ n. and_then (store_at (access_of a) z n (Some v) s.memory) (λ m. went [] (record s { memory = m }))) ns s1 e in
    let q = then_went (store_at (access_of a) z p.1 (Some v) s.memory) (λ m. went [] (record s { memory = m })) p.2 s1 p.4 in
    let b1 : length p.0 ≡ width (out-Access a).at = counted x.sorts (out-Access a).at (Some S64) s p.0 p.1 holds f (sym (address_of a s) ∙ p.3) ∙ sym (same_width x h (out-Access a).at (address_reads x a w)) in
    let b2 = store_numbers (access_of a) z p.1 v s.memory q.0 q.1 q.3 in
    let b3 : q.2 ≡ [] = (let w = q.4 in cc) in
    omega (arith, b1, b2, ap length b3, length-append p.0 p.2, length-append q.0 q.2, ap length p.5, ap length q.5)

-- ---- the size of a left side

or_twice : (a b : Option Size) → option_or a (option_or (option_or a None) b) ≡ option_or a b
or_twice None b = refl
or_twice (Some z) b = refl

pub size_any : (d : Lval) (z : Option Size) (v : Option Value) (s : State) → written (option_or (option_or (left_size d) None) z) d v s ≡ written z d v s
size_any (lval.Skip at) z v s = refl
size_any (lval.Var a) z v s = refl
size_any (lval.Cell a i) z v s = refl
size_any (lval.Store a) z v s =
    let p = access_of a in
    ap (λ y. and_then (p.at s) (λ n. and_then (and_then (address_at p n) (λ b. store_word p.span p.unaligned y b v s.memory)) (λ m. went [] (record s { memory = m })))) (or_twice p.size z)

var_layer : (v : Var) (w : Option Size) (t : State) → evaluated (expr.Var v) w t ≡ variable_value (ref_of v) t.store
var_layer v w t = ap (λ e. evaluated e w t) (sym (expr.rolls-Var v)) ∙ ap (λ (m : Meaning). m.run w t) (meaning_is (Expr-F.Var v))

var_size : (v : Var) → own_size (expr.Var v) ≡ size_of (ref_of v).kind
var_size v = ap own_size (sym (expr.rolls-Var v)) ∙ ap (λ (m : Meaning). m.size) (meaning_is (Expr-F.Var v))

-- a left side is set from a variable
pub set_from : (d : Lval) (v : Var) (at : Span) (t : State) → does (set_one d (expr.Var v) at) t ≡ and_then (variable_value (ref_of v) t.store) (λ u. written (size_of (ref_of v).kind) d (Some u) t)
set_from d v at t =
    let z = option_or (left_sizes (d ∷ [])) (own_size (expr.Var v)) in
    set_so d (expr.Var v) at t
    ∙ ap (λ y. and_then y (λ u. written z d (Some u) t)) (var_layer v z t)
    ∙ ap (λ k. and_then (variable_value (ref_of v) t.store) (λ u. written (option_or (left_sizes (d ∷ [])) k) d (Some u) t)) (var_size v)
    ∙ ap (and_then (variable_value (ref_of v) t.store)) (λ i u. size_any d (size_of (ref_of v).kind) (Some u) t i)

-- ---- the results

given_value : (r : Ref) (d : Lval) (inner : Store) (s : State) → is_array r.kind ≡ false → given r.kind r d inner s ≡ and_then (variable_value r inner) (λ v. written (size_of r.kind) d (Some v) s) ⊎ ((at : Span) × (d ≡ lval.Skip at))
given_value r (lval.Skip at) inner s f = inr (at, refl)
given_value r (lval.Var a) inner s f = inl (by_kind r.kind f)
  where
    by_kind : (k : Kind) → is_array k ≡ false → given k r (lval.Var a) inner s ≡ and_then (variable_value r inner) (λ v. written (size_of k) (lval.Var a) (Some v) s)
    by_kind kind.Undeclared f = refl
    by_kind kind.Int f = refl
    by_kind kind.Bool f = refl
    by_kind (kind.Word z) f = refl
    by_kind (kind.Array z n) f = absurd cc
given_value r (lval.Cell a i) inner s f = inl (by_kind r.kind f)
  where
    by_kind : (k : Kind) → is_array k ≡ false → given k r (lval.Cell a i) inner s ≡ and_then (variable_value r inner) (λ v. written (size_of k) (lval.Cell a i) (Some v) s)
    by_kind kind.Undeclared f = refl
    by_kind kind.Int f = refl
    by_kind kind.Bool f = refl
    by_kind (kind.Word z) f = refl
    by_kind (kind.Array z n) f = absurd cc
given_value r (lval.Store a) inner s f = inl (by_kind r.kind f)
  where
    by_kind : (k : Kind) → is_array k ≡ false → given k r (lval.Store a) inner s ≡ and_then (variable_value r inner) (λ v. written (size_of k) (lval.Store a) (Some v) s)
    by_kind kind.Undeclared f = refl
    by_kind kind.Int f = refl
    by_kind kind.Bool f = refl
    by_kind (kind.Word z) f = refl
    by_kind (kind.Array z n) f = absurd cc

given_array : (r : Ref) (d : Lval) (inner : Store) (s : State) → is_array r.kind ≡ true → given r.kind r d inner s ≡ went [] s
given_array r d inner s f = by_kind r.kind f
  where
    by_kind : (k : Kind) → is_array k ≡ true → given k r d inner s ≡ went [] s
    by_kind kind.Undeclared f = absurd cc
    by_kind kind.Int f = absurd cc
    by_kind kind.Bool f = absurd cc
    by_kind (kind.Word z) f = absurd cc
    by_kind (kind.Array z n) f = by_left d
      where
        by_left : (d : Lval) → given (kind.Array z n) r d inner s ≡ went [] s
        by_left (lval.Skip at) = refl
        by_left (lval.Var a) = refl
        by_left (lval.Cell a i) = refl
        by_left (lval.Store a) = refl

-- no operation stands for an array
no_op : (outer deep : Names) (at : Span) (d : Lval) (v : Var) (rest : List Operation) → is_array (ref_of v).kind ≡ true → result_op outer deep at d v rest ≡ rest
no_op outer deep at (lval.Skip s) v rest f = refl
no_op outer deep at (lval.Var a) v rest f = ap (λ b. if b then rest else (set_one (lval_in outer (lval.Var a)) (expr.Var (var_in deep v)) at ∷ rest)) f
no_op outer deep at (lval.Cell a i) v rest f = ap (λ b. if b then rest else (set_one (lval_in outer (lval.Cell a i)) (expr.Var (var_in deep v)) at ∷ rest)) f
no_op outer deep at (lval.Store a) v rest f = ap (λ b. if b then rest else (set_one (lval_in outer (lval.Store a)) (expr.Var (var_in deep v)) at ∷ rest)) f

no_item : (i : ℕ) (d : Lval) (v : Var) (rest : ℕ → List Numbers) → is_array (ref_of v).kind ≡ true → result_item i d v rest ≡ rest i
no_item i (lval.Skip s) v rest f = refl
no_item i (lval.Var a) v rest f = ap (λ b. if b then rest i else (These (from i (left_width (lval.Var a))) ∷ rest (i + left_width (lval.Var a)))) f
no_item i (lval.Cell a j) v rest f = ap (λ b. if b then rest i else (These (from i (left_width (lval.Cell a j))) ∷ rest (i + left_width (lval.Cell a j)))) f
no_item i (lval.Store a) v rest f = ap (λ b. if b then rest i else (These (from i (left_width (lval.Store a))) ∷ rest (i + left_width (lval.Store a)))) f

abbrev NotSkip : Lval → Type 0
NotSkip (lval.Skip s) = ⊥
NotSkip _ = Unit {0}

one_op : (outer deep : Names) (at : Span) (d : Lval) (v : Var) (rest : List Operation) → is_array (ref_of v).kind ≡ false → NotSkip d → result_op outer deep at d v rest ≡ set_one (lval_in outer d) (expr.Var (var_in deep v)) at ∷ rest
one_op outer deep at (lval.Skip s) v rest f n = absurd n
one_op outer deep at (lval.Var a) v rest f n = ap (λ b. if b then rest else (set_one (lval_in outer (lval.Var a)) (expr.Var (var_in deep v)) at ∷ rest)) f
one_op outer deep at (lval.Cell a i) v rest f n = ap (λ b. if b then rest else (set_one (lval_in outer (lval.Cell a i)) (expr.Var (var_in deep v)) at ∷ rest)) f
one_op outer deep at (lval.Store a) v rest f n = ap (λ b. if b then rest else (set_one (lval_in outer (lval.Store a)) (expr.Var (var_in deep v)) at ∷ rest)) f

one_item : (i : ℕ) (d : Lval) (v : Var) (rest : ℕ → List Numbers) → is_array (ref_of v).kind ≡ false → NotSkip d → result_item i d v rest ≡ These (from i (left_width d)) ∷ rest (i + left_width d)
one_item i (lval.Skip s) v rest f n = absurd n
one_item i (lval.Var a) v rest f n = ap (λ b. if b then rest i else (These (from i (left_width (lval.Var a))) ∷ rest (i + left_width (lval.Var a)))) f
one_item i (lval.Cell a j) v rest f n = ap (λ b. if b then rest i else (These (from i (left_width (lval.Cell a j))) ∷ rest (i + left_width (lval.Cell a j)))) f
one_item i (lval.Store a) v rest f n = ap (λ b. if b then rest i else (These (from i (left_width (lval.Store a))) ∷ rest (i + left_width (lval.Store a)))) f

is_skip : (d : Lval) → NotSkip d ⊎ ((at : Span) × (d ≡ lval.Skip at))
is_skip (lval.Skip at) = inr (at, refl)
is_skip (lval.Var a) = inl tt
is_skip (lval.Cell a i) = inl tt
is_skip (lval.Store a) = inl tt

given_set : (r : Ref) (d : Lval) (inner : Store) (s : State) → is_array r.kind ≡ false → NotSkip d → given r.kind r d inner s ≡ and_then (variable_value r inner) (λ v. written (size_of r.kind) d (Some v) s)
given_set r d inner s f n = by_left (given_value r d inner s f)
  where
    by_left : given r.kind r d inner s ≡ and_then (variable_value r inner) (λ v. written (size_of r.kind) d (Some v) s) ⊎ ((at : Span) × (d ≡ lval.Skip at)) → given r.kind r d inner s ≡ and_then (variable_value r inner) (λ v. written (size_of r.kind) d (Some v) s)
    by_left (inl e) = e
    by_left (inr (at, e)) = absurd (subst NotSkip e n)

abbrev Told : {A B : Type 0} → (A → B → Type 0) → Evaluation A → Evaluation B → Type 0
Told P (stuck w) k = k ≡ stuck w
Told {B} P (went ns a) k = (b : B) × (k ≡ went ns b) × P a b

told : {A B : Type 0} {P : A → B → Type 0} {f : Evaluation A} {k : Evaluation B} → Alike P f k → Told P f k
told both_stuck = refl
told (both_went {b} p) = (b, refl, p)

module _ (scopes : Fun → Scope) (x : ScopeCopy) (c : ℕ) (q : Call) (below : IsBelow x c) (is : IsCall x.scope (scopes q.callee) q) (s t s2 t2 : State)
    (st : Stands x s t) (between : Within (callee_copy scopes x c q) (suc c) t t2) (stg : Stands (callee_copy scopes x c q) s2 t2) where
  abbrev G : Scope
  G = scopes q.callee

  abbrev In : Names
  In = callee_names x.names c q.callee.params q.args

  abbrev back : State
  back = record { store = arrays_back q.callee.params q.args s2.store s.store; memory = s2.memory }

  -- the caller's variables before the results are read
  stands_back : Stands x back t2
  stands_back = record { agrees = record { store = agree; memory = stg.agrees.memory }; sorted = sorted }
    where
      agree : (k : Key) → Has x.scope k → t2.store (key_in x.names k) ≡ arrays_back q.callee.params q.args s2.store s.store k
      agree k h = by_back (back_at q.callee.params q.args s2.store s.store k)
        where
          not_set : NotBack q.callee.params q.args k → (b : Key) → Sets G b → key_in In b ≡ key_in x.names k → ⊥
          not_set n b sb e = by_place (place scopes x c q below is b (sets_has G is.scope b sb))
            where
              by_place : Own scopes x c q below is b ⊎ Lent q.callee.params q.args b → ⊥
              by_place (inl o) = omega (arith, own_copy scopes x c q below is b o, ap (λ (v : Key). v.copy) e, below.below k h)
              by_place (inr (r, y, z, m, i, l, kd, lt, same)) =
                  let at : key_in x.names (cell_key y i) ≡ key_in x.names k = sym (lent_at scopes x c q below is r y i l) ∙ sym (ap (key_in In) same) ∙ e in
                  let set : Sets x.scope (cell_key y i) = is.sets r y i l (subst (Sets G) same sb) in
                  n r y z m i l kd lt (sym (same_key-true (cell_key y i) k (sym (below.apart (cell_key y i) k set h) ∙ ap (λ v. same_key v (key_in x.names k)) at ∙ same_key-refl (key_in x.names k))))

          by_back : IsBack q.callee.params q.args s2.store s.store k ⊎ (NotBack q.callee.params q.args k × (arrays_back q.callee.params q.args s2.store s.store k ≡ s.store k)) → t2.store (key_in x.names k) ≡ arrays_back q.callee.params q.args s2.store s.store k
          by_back (inl (r, y, z, n, i, l, kd, lt, same, v)) =
              let known = lent_known x.scope G q.callee.params q.args r y z n is.arguments l kd in
              ap (λ b. t2.store (key_in x.names b)) same ∙ sym (ap t2.store (lent_at scopes x c q below is r y i l)) ∙ stg.agrees.store (cell_key r i) (a_cell r z n i known kd lt) ∙ sym v
          by_back (inr (n, v)) = between (key_in x.names k) (omega (arith, below.below k h)) (not_set n) ∙ st.agrees.store k h ∙ sym v

      sorted : HoldsSorts x.scope.sorts (arrays_back q.callee.params q.args s2.store s.store)
      sorted k u e = by_back (back_at q.callee.params q.args s2.store s.store k)
        where
          by_back : IsBack q.callee.params q.args s2.store s.store k ⊎ (NotBack q.callee.params q.args k × (arrays_back q.callee.params q.args s2.store s.store k ≡ s.store k)) → sort_of u ≡ x.scope.sorts k.name k.copy
          by_back (inl (r, y, z, n, i, l, kd, lt, same, v)) =
              let f = lent_fact x.scope G q.callee.params q.args r y z n is.arguments l kd in
              stg.sorted (cell_key r i) u (sym v ∙ e) ∙ f.3 ∙ sym f.2 ∙ sym (ap (λ (b : Key). x.scope.sorts b.name b.copy) same)
          by_back (inr (n, v)) = st.sorted k u (sym v ∙ e)

  wider : IsBelow x (suc c)
  wider = record { scope = below.scope; below = λ k h. omega (arith, below.below k h); apart = below.apart }

  -- between results: the caller's variables, and those of the copy as they were
  pub record Giving (sc tc : State) : Type 0 where
    pub stands : Stands x sc tc
    pub kept : (k : Key) → k.copy ≡ c → tc.store k ≡ t2.store k
    pub within : Within x c t2 tc

  variable_so : (sc tc : State) (v : Var) → Giving sc tc → (ref_of v).cell ≡ None → G.has_scalar (ref_of v) ≡ true → variable_value (ref_in In (ref_of v)) tc.store ≡ variable_value (ref_of v) s2.store
  variable_so sc tc v f nc has =
      let r = ref_of v in
      ap (defined r.span) (f.kept (key_in In (key_of r)) copy ∙ stg.agrees.store (key_of r) (a_scalar r has))
    where
      copy : (key_in In (key_of (ref_of v))).copy ≡ c
      copy = by_place (place scopes x c q below is (key_of (ref_of v)) (a_scalar (ref_of v) has))
        where
          by_place : Own scopes x c q below is (key_of (ref_of v)) ⊎ Lent q.callee.params q.args (key_of (ref_of v)) → (key_in In (key_of (ref_of v))).copy ≡ c
          by_place (inl o) = own_copy scopes x c q below is (key_of (ref_of v)) o
          by_place (inr (p, y, z, n, i, l, e, lt, same)) = let d : Some i ≡ (ref_of v).cell = ap (λ (b : Key). b.cell) (sym same) in absurd cc

  written_result : (sc tc : State) (d : Lval) (v : Var) (u : Value) → Giving sc tc → Writes x.scope d → Alike (λ s3 t3. Giving s3 t3) (written (size_of (ref_of v).kind) d (Some u) sc) (written (size_of (ref_of v).kind) (lval_in x.names d) (Some u) tc)
  written_result sc tc d v u f w = step (written_so x (suc c) wider sc tc (size_of (ref_of v).kind) d (Some u) f.stands w)
    where
      step : {a b : Evaluation State} → Alike (Ends x (suc c) wider tc) a b → Alike (λ s3 t3. Giving s3 t3) a b
      step both_stuck = both_stuck
      step (both_went {a = s3} {b = t3} p) =
          both_went (record {
            stands = p.0;
            kept = λ k e. p.1 k (omega (arith, e)) (λ b sb same. omega (arith, below.below b (sets_has x.scope below.scope b sb), ap (λ (y : Key). y.copy) same, e)) ∙ f.kept k e;
            within = λ k lt out. p.1 k (omega (arith, lt)) out ∙ f.within k lt out;
          })

  abbrev Result : List Lval → List Var → List ℕ → ℕ → State → State → Type 0
  Result ds vs all i tc s3 = (t3 : State) × DoAll source all (result_ops x.names In (call_place q.to q.at) ds vs) (result_items i ds vs) tc t3 × Giving s3 t3

  op_so : (sc tc : State) (d : Lval) (v : Var) → Giving sc tc → (ref_of v).cell ≡ None → G.has_scalar (ref_of v) ≡ true → does (set_one (lval_in x.names d) (expr.Var (var_in In v)) (call_place q.to q.at)) tc ≡ and_then (variable_value (ref_of v) s2.store) (λ u. written (size_of (ref_of v).kind) (lval_in x.names d) (Some u) tc)
  op_so sc tc d v f nc has =
      set_from (lval_in x.names d) (var_in In v) (call_place q.to q.at) tc
      ∙ ap (λ (r : Ref). and_then (variable_value r tc.store) (λ u. written (size_of r.kind) (lval_in x.names d) (Some u) tc)) (ref_so In v)
      ∙ ap (λ y. and_then y (λ u. written (size_of (ref_of v).kind) (lval_in x.names d) (Some u) tc)) (variable_so sc tc v f nc has)

  variable_numbers : (r : Ref) (store : Store) (ns : List ℕ) (u : Value) → variable_value r store ≡ went ns u → ns ≡ []
  variable_numbers r store ns u e = by_value (store (key_of r)) e
    where
      by_value : (o : Option Value) → defined r.span o ≡ went ns u → ns ≡ []
      by_value None e = absurd cc
      by_value (Some v) e = cc

  gives : (ds : List Lval) (vs : List Var) → AreResults x.scope G ds vs → (sc tc s3 : State) (ns all pre post : List ℕ) (i : ℕ) → Giving sc tc → all_given q.at ds vs s2.store sc ≡ went ns s3 → all ≡ pre ++ (ns ++ post) → i ≡ length pre → Result ds vs all i tc s3
  gives [] [] a sc tc s3 ns all pre post i f e q1 q2 = let same : sc ≡ s3 = cc in (tc, do_none, subst (λ v. Giving v tc) same f)
  gives [] (v ∷ vs) a sc tc s3 ns all pre post i f e q1 q2 = elim a [ ]
  gives (d ∷ ds) [] a sc tc s3 ns all pre post i f e q1 q2 = elim a [ ]
  gives (d ∷ ds) (v ∷ vs) a sc tc s3 ns all pre post i f e q1 q2 =
      by_result (λ sc2 tc2 ns2 pre2 i2 f2 e2 qa qb. gives ds vs a.1 sc2 tc2 s3 ns2 all pre2 post i2 f2 e2 qa qb) a.0 (is_skip d)
    where
      r : Ref
      r = ref_of v

      Rest : State → ℕ → Type 0
      Rest tc2 i2 = Result ds vs all i2 tc2 s3

      none_here : ((sc2 tc2 : State) (ns2 pre2 : List ℕ) (i2 : ℕ) → Giving sc2 tc2 → all_given q.at ds vs s2.store sc2 ≡ went ns2 s3 → all ≡ pre2 ++ (ns2 ++ post) → i2 ≡ length pre2 → Result ds vs all i2 tc2 s3) →
          given r.kind r d s2.store sc ≡ went [] sc → result_op x.names In (call_place q.to q.at) d v (result_ops x.names In (call_place q.to q.at) ds vs) ≡ result_ops x.names In (call_place q.to q.at) ds vs → result_item i d v (λ j. result_items j ds vs) ≡ result_items i ds vs → Result (d ∷ ds) (v ∷ vs) all i tc s3
      none_here next g1 o1 i1 =
          let m = next sc tc ns pre i f (sym (none_first _) ∙ ap (λ y. and_then y (all_given q.at ds vs s2.store)) (sym g1) ∙ e) q1 q2 in
          (m.0, subst (λ os. DoAll source all os (result_item i d v (λ j. result_items j ds vs)) tc m.0) (sym o1) (subst (λ js. DoAll source all (result_ops x.names In (call_place q.to q.at) ds vs) js tc m.0) (sym i1) m.1), m.2)

      by_result : ((sc2 tc2 : State) (ns2 pre2 : List ℕ) (i2 : ℕ) → Giving sc2 tc2 → all_given q.at ds vs s2.store sc2 ≡ went ns2 s3 → all ≡ pre2 ++ (ns2 ++ post) → i2 ≡ length pre2 → Result ds vs all i2 tc2 s3) →
          IsResult x.scope G d v → NotSkip d ⊎ ((at : Span) × (d ≡ lval.Skip at)) → Result (d ∷ ds) (v ∷ vs) all i tc s3
      by_result next (inl ar) sk = none_here next (given_array r d s2.store sc ar) (no_op x.names In (call_place q.to q.at) d v _ ar) (no_item i d v _ ar)
      by_result next (inr b) (inr (at, is_skipped)) =
          none_here next (ap (λ y. given r.kind r y s2.store sc) is_skipped ∙ skipped r.kind) (ap (λ y. result_op x.names In (call_place q.to q.at) y v (result_ops x.names In (call_place q.to q.at) ds vs)) is_skipped) (ap (λ y. result_item i y v (λ j. result_items j ds vs)) is_skipped)
        where
          skipped : (k : Kind) → given k r (lval.Skip at) s2.store sc ≡ went [] sc
          skipped kind.Undeclared = refl
          skipped kind.Int = refl
          skipped kind.Bool = refl
          skipped (kind.Word z) = refl
          skipped (kind.Array z n) = refl
      by_result next (inr b) (inl ns0) =
          let cut = then_went (given r.kind r d s2.store sc) (all_given q.at ds vs s2.store) ns s3 e in
          let val = then_went (variable_value r s2.store) (λ u. written (size_of r.kind) d (Some u) sc) cut.0 cut.1 (sym (given_set r d s2.store sc b.0 ns0) ∙ cut.3) in
          let w = subst (λ y. Told (λ s4 t4. Giving s4 t4) y (written (size_of r.kind) (lval_in x.names d) (Some val.1) tc)) val.4 (told (written_result sc tc d v val.1 f b.3)) in
          let none = variable_numbers r s2.store val.0 val.1 val.3 in
          let nums : cut.0 ≡ val.2 = val.5 ∙ ap (λ l. l ++ val.2) none in
          let len = left_numbers x.scope G (size_of r.kind) d val.1 sc val.2 cut.1 below.scope f.stands.sorted b.3 b.4 val.4 in
          let q3 : all ≡ pre ++ (val.2 ++ (cut.2 ++ post)) = q1 ∙ ap (λ l. pre ++ (l ++ post)) (cut.5 ∙ ap (λ l. l ++ cut.2) nums) ∙ ap (λ l. pre ++ l) (append_assoc val.2 cut.2 post) in
          let here : numbers_in (These (from i (left_width d))) all ≡ val.2 = subst (λ l. map (number_in all) (from i l) ≡ val.2) len (from_so i all pre val.2 (cut.2 ++ post) q2 q3) in
          let done1 : does (set_one (lval_in x.names d) (expr.Var (var_in In v)) (call_place q.to q.at)) tc ≡ went (numbers_in (These (from i (left_width d))) all) w.0
          = op_so sc tc d v f b.1 b.2 ∙ ap (λ y. and_then y (λ u. written (size_of r.kind) (lval_in x.names d) (Some u) tc)) (val.3 ∙ ap (λ l. went l val.1) none) ∙ none_first _ ∙ w.1 ∙ ap (λ l. went l w.0) (sym here) in
          let there : HasThese all (These (from i (left_width d))) = from_within all i (left_width d) (omega (arith, q2, len, ap length q3, length-append pre (val.2 ++ (cut.2 ++ post)), length-append val.2 (cut.2 ++ post))) in
          let m = next cut.1 w.0 cut.2 (pre ++ val.2) (i + left_width d) w.2 cut.4 (q3 ∙ sym (append_assoc pre val.2 (cut.2 ++ post))) (omega (arith, q2, len, length-append pre val.2)) in (
            m.0,
            subst (λ os. DoAll source all os (result_item i d v (λ j. result_items j ds vs)) tc m.0) (sym (one_op x.names In (call_place q.to q.at) d v (result_ops x.names In (call_place q.to q.at) ds vs) b.0 ns0))
                (subst (λ js. DoAll source all (set_one (lval_in x.names d) (expr.Var (var_in In v)) (call_place q.to q.at) ∷ result_ops x.names In (call_place q.to q.at) ds vs) js tc m.0) (sym (one_item i d v (λ j. result_items j ds vs) b.0 ns0)) (do_one there done1 m.1)),
            m.2,
          )

  gives_not : (ds : List Lval) (vs : List Var) → AreResults x.scope G ds vs → (sc tc : State) (w : Stuck) → Giving sc tc → all_given q.at ds vs s2.store sc ≡ stuck w → OneFails source w (result_ops x.names In (call_place q.to q.at) ds vs) tc
  gives_not [] [] a sc tc w f e = absurd cc
  gives_not [] (v ∷ vs) a sc tc w f e = elim a [ ]
  gives_not (d ∷ ds) [] a sc tc w f e = elim a [ ]
  gives_not (d ∷ ds) (v ∷ vs) a sc tc w f e = by_result (λ sc2 tc2 f2 e2. gives_not ds vs a.1 sc2 tc2 w f2 e2) a.0 (is_skip d)
    where
      r : Ref
      r = ref_of v

      none_here : ((sc2 tc2 : State) → Giving sc2 tc2 → all_given q.at ds vs s2.store sc2 ≡ stuck w → OneFails source w (result_ops x.names In (call_place q.to q.at) ds vs) tc2) →
          given r.kind r d s2.store sc ≡ went [] sc → result_op x.names In (call_place q.to q.at) d v (result_ops x.names In (call_place q.to q.at) ds vs) ≡ result_ops x.names In (call_place q.to q.at) ds vs → OneFails source w (result_ops x.names In (call_place q.to q.at) (d ∷ ds) (v ∷ vs)) tc
      none_here next g1 o1 = subst (λ os. OneFails source w os tc) (sym o1) (next sc tc f (sym (none_first _) ∙ ap (λ y. and_then y (all_given q.at ds vs s2.store)) (sym g1) ∙ e))

      by_result : ((sc2 tc2 : State) → Giving sc2 tc2 → all_given q.at ds vs s2.store sc2 ≡ stuck w → OneFails source w (result_ops x.names In (call_place q.to q.at) ds vs) tc2) →
          IsResult x.scope G d v → NotSkip d ⊎ ((at : Span) × (d ≡ lval.Skip at)) → OneFails source w (result_ops x.names In (call_place q.to q.at) (d ∷ ds) (v ∷ vs)) tc
      by_result next (inl ar) sk = none_here next (given_array r d s2.store sc ar) (no_op x.names In (call_place q.to q.at) d v _ ar)
      by_result next (inr b) (inr (at, is_skipped)) =
          none_here next (ap (λ y. given r.kind r y s2.store sc) is_skipped ∙ skipped r.kind) (ap (λ y. result_op x.names In (call_place q.to q.at) y v (result_ops x.names In (call_place q.to q.at) ds vs)) is_skipped)
        where
          skipped : (k : Kind) → given k r (lval.Skip at) s2.store sc ≡ went [] sc
          skipped kind.Undeclared = refl
          skipped kind.Int = refl
          skipped kind.Bool = refl
          skipped (kind.Word z) = refl
          skipped (kind.Array z n) = refl
      by_result next (inr b) (inl ns0) =
          subst (λ os. OneFails source w os tc) (sym (one_op x.names In (call_place q.to q.at) d v (result_ops x.names In (call_place q.to q.at) ds vs) b.0 ns0)) (by_value (variable_value r s2.store) refl)
        where
          whole : and_then (and_then (variable_value r s2.store) (λ u. written (size_of r.kind) d (Some u) sc)) (all_given q.at ds vs s2.store) ≡ stuck w
          whole = ap (λ y. and_then y (all_given q.at ds vs s2.store)) (sym (given_set r d s2.store sc b.0 ns0)) ∙ e

          start : does (set_one (lval_in x.names d) (expr.Var (var_in In v)) (call_place q.to q.at)) tc ≡ and_then (variable_value r s2.store) (λ u. written (size_of r.kind) (lval_in x.names d) (Some u) tc)
          start = op_so sc tc d v f b.1 b.2

          Goal : Type 0
          Goal = OneFails source w (set_one (lval_in x.names d) (expr.Var (var_in In v)) (call_place q.to q.at) ∷ result_ops x.names In (call_place q.to q.at) ds vs) tc

          by_write : (ns : List ℕ) (u : Value) (y : Evaluation State) → variable_value r s2.store ≡ went ns u → written (size_of r.kind) d (Some u) sc ≡ y → Told (λ s4 t4. Giving s4 t4) y (written (size_of r.kind) (lval_in x.names d) (Some u) tc) → OneFails source w (set_one (lval_in x.names d) (expr.Var (var_in In v)) (call_place q.to q.at) ∷ result_ops x.names In (call_place q.to q.at) ds vs) tc
          by_write ns u (stuck k) g1 g2 t4 =
              let z : stuck k ≡ stuck w = ap (λ y. and_then (numbers_first ns y) (all_given q.at ds vs s2.store)) (sym g2) ∙ ap (λ y. and_then (and_then y (λ u. written (size_of r.kind) d (Some u) sc)) (all_given q.at ds vs s2.store)) (sym g1) ∙ whole in
              fails_here (start ∙ ap (λ y. and_then y (λ u. written (size_of r.kind) (lval_in x.names d) (Some u) tc)) g1 ∙ ap (numbers_first ns) t4 ∙ z)
          by_write ns u (went ms s4) g1 g2 t4 =
              let z : numbers_first (ns ++ ms) (all_given q.at ds vs s2.store s4) ≡ stuck w = ap (λ y. and_then (numbers_first ns y) (all_given q.at ds vs s2.store)) (sym g2) ∙ ap (λ y. and_then (and_then y (λ u. written (size_of r.kind) d (Some u) sc)) (all_given q.at ds vs s2.store)) (sym g1) ∙ whole in
              fails_later (start ∙ ap (λ y. and_then y (λ u. written (size_of r.kind) (lval_in x.names d) (Some u) tc)) g1 ∙ ap (numbers_first ns) t4.1) (next s4 t4.0 t4.2 (first_stuck (ns ++ ms) _ w z))

          by_value : (y : Evaluation Value) → variable_value r s2.store ≡ y → OneFails source w (set_one (lval_in x.names d) (expr.Var (var_in In v)) (call_place q.to q.at) ∷ result_ops x.names In (call_place q.to q.at) ds vs) tc
          by_value (stuck k) g1 =
              let z : stuck k ≡ stuck w = ap (λ y. and_then (and_then y (λ u. written (size_of r.kind) d (Some u) sc)) (all_given q.at ds vs s2.store)) (sym g1) ∙ whole in
              fails_here (start ∙ ap (λ y. and_then y (λ u. written (size_of r.kind) (lval_in x.names d) (Some u) tc)) g1 ∙ z)
          by_value (went ns u) g1 = by_write ns u (written (size_of r.kind) d (Some u) sc) g1 refl (told (written_result sc tc d v u f b.3))

  first : Giving back t2
  first = record { stands = stands_back; kept = λ k e. refl; within = λ k lt out. refl }

  pub left : (s3 : State) (ns : List ℕ) → leaves q s s2 ≡ went ns s3 →
      (t3 : State) × DoAll source ns (result_ops x.names In (call_place q.to q.at) q.to q.callee.result) (result_items 0 q.to q.callee.result) t2 t3 × Stands x s3 t3 × Within x c t2 t3
  left s3 ns e = let m = gives q.to q.callee.result is.results back t2 s3 ns ns [] [] 0 first e (sym (append-nil ns)) refl in (m.0, m.1, m.2.stands, m.2.within)

  pub left_not : (w : Stuck) → leaves q s s2 ≡ stuck w → OneFails source w (result_ops x.names In (call_place q.to q.at) q.to q.callee.result) t2
  left_not w e = gives_not q.to q.callee.result is.results back t2 w first e
