-- How left sides are written.
use Rattle.std.proofs.Common.{◌≡◌, ◌≢◌, ℕ, ◌+◌, List, [], ◌∷◌, ◌++◌, Option, Some, None, ◌⊎◌, inl, inr, refl, ap, sym, ◌∙◌, map, length, append-nil, arith}
use Rattle.std.specs.Prelude.{Result, Ok, Err, option_map}
use Rattle.std.specs.Option.{option_or}
use Rattle.jz_tree.specs.Span.{Span}
use Rattle.jz_words.specs.declared.size.Size.{Size}
use Rattle.jz_words.specs.declared.size.Size.TheVariants.{S64}
use Rattle.jz_words.specs.Memory.{Memory}
use Rattle.jz_tree.specs.declared.expr.Access.{Access}
use Rattle.jz_tree.specs.declared.expr.Expr.{Expr}
use Rattle.jz_tree.specs.declared.expr.Var.{Var}
use Rattle.jz_tree.specs.declared.expr.Expr.TheFolds.{fold-roll-Access}
use Rattle.jz_tree.specs.declared.stmt.Lval.{Lval}
use Rattle.jz_tree.specs.declared.stmt.Lval.TheVariants as lval
use Rattle.jz_meaning.specs.Rules.{stuck, went}
use Rattle.jz_meaning.specs.declared.value.Stuck.{Stuck}
use Rattle.jz_meaning.specs.declared.value.Value as code
use Rattle.jz_meaning.specs.declared.value.Why.TheVariants.{Init}
use Rattle.jz_meaning.specs.Attempts.{Evaluation, stuck_at, numbers_first, and_then, changed}
use Rattle.jz_meaning.specs.States.{Value, as_value, Key, Store, State, put}
use Rattle.jz_meaning.specs.Values.{size_of, Ref, key_of, cell_key, ref_of, access_of, index_at, store_at, own_size, evaluated, expr_step, ty_step, access_step, decl_step, var_step}
use Rattle.jz_meaning.specs.Assignments.{word_value, held, with_value, in_cell, written, all_written, Results, left_sizes, results_of, conditioned, assigned_whole}
use Rattle.jz_meaning.proofs.AttemptLemmas.{first_then, stuck_then, gone_then}

-- ---- what leaks nothing

none_first : {A : Type 0} (g : Evaluation A) → numbers_first [] g ≡ g
none_first (stuck k) = refl
none_first (went ns x) = refl

pub gives : {A : Type 0} (g : Evaluation A) (x : A) → ((ns : List ℕ) → went ns x ≡ numbers_first ns g) → g ≡ went [] x
gives g x h = sym (none_first g) ∙ sym (h [])

pub gets_stuck : {A : Type 0} (g : Evaluation A) (k : Stuck) → ((ns : List ℕ) → stuck k ≡ numbers_first ns g) → g ≡ stuck k
gets_stuck g k h = sym (none_first g) ∙ sym (h [])

-- ---- one left side

-- the state with a store that has one more
put_is : (s : State) (ns : List ℕ) (k : Key) (v : Option Value) (st : Store) → st ≡ put s.store k v → ◌≡◌ {A = Evaluation State} (went ns (record s { store = st })) (went (ns ++ []) (with_value s k v))
put_is s ns k v st is = ap (λ t. went ns (record s { store = t })) is ∙ ap (λ ks. went ks (with_value s k v)) (sym (append-nil ns))

-- a variable, with what it holds of a value
pub variable_written : (s : State) (ns : List ℕ) (x : Var) (v h : Value) (st : Store) →
    held (ref_of x).span (ref_of x).kind v ≡ went [] h → st ≡ put s.store (key_of (ref_of x)) (Some h) → went ns (record s { store = st }) ≡ numbers_first ns (written None (lval.Var x) (Some v) s)
variable_written s ns x v h st e is =
    put_is s ns (key_of (ref_of x)) (Some h) st is ∙ ap (λ g. numbers_first ns (and_then (and_then g (λ y. went [] (Some y))) (λ y. went [] (with_value s (key_of (ref_of x)) y)))) (sym e)

pub variable_stuck : (s : State) (ns : List ℕ) (x : Var) (v : Value) (k : Stuck) → held (ref_of x).span (ref_of x).kind v ≡ stuck k → stuck k ≡ numbers_first ns (written None (lval.Var x) (Some v) s)
variable_stuck s ns x v k e = ap (λ g. numbers_first ns (and_then (and_then g (λ y. went [] (Some y))) (λ y. went [] (with_value s (key_of (ref_of x)) y)))) (sym e)

-- a cell of this index
pub cell_put : (s : State) (ns : List ℕ) (x : Ref) (i : ℕ) (z : Size) (v h : Value) (st : Store) →
    word_value x.span z v ≡ went [] h → st ≡ put s.store (cell_key x i) (Some h) → went ns (record s { store = st }) ≡ numbers_first ns (in_cell x i (Some z) (Some v) s)
cell_put s ns x i z v h st e is = put_is s ns (cell_key x i) (Some h) st is ∙ ap (λ g. numbers_first ns (and_then g (λ y. went [] (with_value s (cell_key x i) (Some y))))) (sym e)

pub cell_not_put : (s : State) (ns : List ℕ) (x : Ref) (i : ℕ) (z : Size) (v : Value) (k : Stuck) →
    word_value x.span z v ≡ stuck k → stuck k ≡ numbers_first ns (in_cell x i (Some z) (Some v) s)
cell_not_put s ns x i z v k e = ap (λ g. numbers_first ns (and_then g (λ y. went [] (with_value s (cell_key x i) (Some y))))) (sym e)

-- a cell, behind its index
pub cell_written :
    (s : State) (ns ms : List ℕ) (to : Lval) (x : Var) (i : Expr) (z : Option Size) (v : Option Value) (j : Value) (r : Evaluation State) →
    lval.Cell x i ≡ to → went ms j ≡ numbers_first ns (evaluated i (Some S64) s) →
    r ≡ numbers_first ms (and_then (index_at (ref_of x) j) (λ n. in_cell (ref_of x) n (size_of (ref_of x).kind) v s)) → r ≡ numbers_first ns (written z to v s)
cell_written s ns ms to x i z v j r is h k =
    gone_then ns ms (evaluated i (Some S64) s) (λ u. and_then (index_at (ref_of x) u) (λ n. in_cell (ref_of x) n (size_of (ref_of x).kind) v s)) j r h k ∙ ap (λ t. numbers_first ns (written z t v s)) is

-- the value of an address
address_is : (a : Access) (s : State) → (access_of a).at s ≡ evaluated a.at (Some S64) s
address_is a s = ap (λ p. p.at s) (fold-roll-Access _ _ _ _ _ expr_step ty_step access_step decl_step var_step (record { size = a.size; at = a.at; unaligned = a.unaligned; span = a.span }))

abbrev with_memory : State → Memory → State
with_memory s m = record s { memory = m }

-- memory that is changed, in its state
in_state : {A : Type 0} (ms : List ℕ) (s : State) (m : Memory) (r : Result A Stuck) → changed ms (with_memory s m) r ≡ and_then (changed ms m r) (λ n. went [] (with_memory s n))
in_state ms s m (Ok u) = ap (λ ks. went ks (with_memory s m)) (sym (append-nil ms))
in_state ms s m (Err k) = refl

abbrev stored : Access → Option Size → Option Value → State → Value → Evaluation State
stored a z v s n = and_then (store_at (access_of a) z n v s.memory) (λ m. went [] (with_memory s m))

store_is : (a : Access) (z : Option Size) (v : Option Value) (s : State) → and_then (evaluated a.at (Some S64) s) (stored a z v s) ≡ written z (lval.Store a) v s
store_is a z v s = ap (λ g. and_then g (stored a z v s)) (sym (address_is a s))

-- memory, behind the address
pub store_written : {A : Type 0}
    (s : State) (ns ms ks : List ℕ) (to : Lval) (a : Access) (i : Expr) (z : Option Size) (v : Option Value) (j : Value) (m : Memory) (r : Result A Stuck) →
    lval.Store a ≡ to → i ≡ a.at → went ms j ≡ numbers_first ns (evaluated i (Some S64) s) →
    changed ks m r ≡ numbers_first ms (store_at (access_of a) z j v s.memory) → changed ks (record s { memory = m }) r ≡ numbers_first ns (written z to v s)
store_written s ns ms ks to a i z v j m r is ia h k =
    gone_then ns ms (evaluated i (Some S64) s) (stored a z v s) j _ h (in_state ks s m r ∙ ap (λ g. and_then g (λ n. went [] (with_memory s n))) k ∙ sym (first_then ms (store_at (access_of a) z j v s.memory) (λ n. went [] (with_memory s n))))
    ∙ ap (λ e. numbers_first ns (and_then (evaluated e (Some S64) s) (stored a z v s))) ia
    ∙ ap (numbers_first ns) (store_is a z v s ∙ ap (λ t. written z t v s) is)

-- ---- one left side after another

abbrev Values : Type 0
Values = List (Option code.Value)

abbrev meant : Values → List (Option Value)
meant = map (option_map as_value)

abbrev all : Span → Option Size → Values → State → List Lval → Evaluation State
all at z vs s ds = all_written at z ds (meant vs) s

-- one is written, and the others are next
pub next_written :
    (at : Span) (z : Option Size) (ds es : List Lval) (us vs : Values) (d : Lval) (v : Option code.Value) (s t : State) (ns ms : List ℕ) (whole : Evaluation State) →
    ds ≡ d ∷ es → us ≡ v ∷ vs → went ms t ≡ numbers_first ns (written z d (option_map as_value v) s) →
    numbers_first ns (all at z us s ds) ≡ whole → numbers_first ms (all at z vs t es) ≡ whole
next_written at z ds es us vs d v s t ns ms whole is e h before =
    gone_then ns ms (written z d (option_map as_value v) s) (λ x. all at z vs x es) t _ h refl
    ∙ ap (λ (ws : Values). numbers_first ns (all at z ws s (d ∷ es))) (sym e)
    ∙ ap (λ (xs : List Lval). numbers_first ns (all at z us s xs)) (sym is)
    ∙ before

-- one is stuck
pub next_stuck :
    (at : Span) (z : Option Size) (ds es : List Lval) (us vs : Values) (d : Lval) (v : Option code.Value) (s : State) (ns : List ℕ) (k : Stuck) (whole : Evaluation State) →
    ds ≡ d ∷ es → us ≡ v ∷ vs → stuck k ≡ numbers_first ns (written z d (option_map as_value v) s) →
    numbers_first ns (all at z us s ds) ≡ whole → stuck k ≡ whole
next_stuck at z ds es us vs d v s ns k whole is e h before =
    stuck_then ns (written z d (option_map as_value v) s) (λ x. all at z vs x es) k h
    ∙ ap (λ (ws : Values). numbers_first ns (all at z ws s (d ∷ es))) (sym e)
    ∙ ap (λ (xs : List Lval). numbers_first ns (all at z us s xs)) (sym is)
    ∙ before

-- how many are left of each stays in step; m and n are how many there were
abbrev pub InStep : ℕ → ℕ → List Lval → Values → Type 0
InStep m n ds us = length ds + n ≡ length us + m

pub still_in_step : (m n : ℕ) (ds es : List Lval) (us vs : Values) (d : Lval) (v : Option code.Value) → ds ≡ d ∷ es → us ≡ v ∷ vs → InStep m n ds us → InStep m n es vs
still_in_step m n ds es us vs d v is e h = omega (arith, ap length is, ap length e, h)

-- neither is left, of as many
pub all_are_written :
    (at : Span) (z : Option Size) (m n : ℕ) (ds : List Lval) (us : Values) (s : State) (ns : List ℕ) (whole : Evaluation State) →
    (ds ≡ []) ⊎ (us ≡ []) → m ≡ n → InStep m n ds us → numbers_first ns (all at z us s ds) ≡ whole → went ns s ≡ whole
all_are_written at z m n [] [] s ns whole done same h before = ap (λ ks. went ks s) (sym (append-nil ns)) ∙ before
all_are_written at z m n (d ∷ ds) [] s ns whole done same h before = absurd (omega (arith, same, h))
all_are_written at z m n [] (v ∷ us) s ns whole done same h before = absurd (omega (arith, same, h))
all_are_written at z m n (d ∷ ds) (v ∷ us) s ns whole (inl e) same h before = absurd cc
all_are_written at z m n (d ∷ ds) (v ∷ us) s ns whole (inr e) same h before = absurd cc

-- one of them is left over
pub one_left_over :
    (at : Span) (z : Option Size) (m n : ℕ) (ds : List Lval) (us : Values) (s : State) (ns : List ℕ) (whole : Evaluation State) →
    (ds ≡ []) ⊎ (us ≡ []) → m ≢ n → InStep m n ds us → numbers_first ns (all at z us s ds) ≡ whole → stuck_at at Init ≡ whole
one_left_over at z m n [] [] s ns whole done other h before = absurd (other (omega (arith, h)))
one_left_over at z m n (d ∷ ds) [] s ns whole done other h before = before
one_left_over at z m n [] (v ∷ us) s ns whole done other h before = before
one_left_over at z m n (d ∷ ds) (v ∷ us) s ns whole (inl e) other h before = absurd cc
one_left_over at z m n (d ∷ ds) (v ∷ us) s ns whole (inr e) other h before = absurd cc

-- ---- an assignment

-- the right side has its results
pub assigned_goes :
    (at : Span) (z : Option Size) (to : List Lval) (e : Expr) (cond : Option Expr) (s : State) (ns ms : List ℕ) (vs : Results) (r : Evaluation State) →
    z ≡ option_or (left_sizes to) (own_size e) → went ms vs ≡ numbers_first ns (results_of to e at z s) →
    r ≡ numbers_first ms (and_then (conditioned to cond at vs s) (λ ws. all_written at z to ws s)) → r ≡ numbers_first ns (assigned_whole to (Some e) cond at s)
assigned_goes at z to e cond s ns ms vs r is h k =
    gone_then ns ms (results_of to e at z s) (λ us. and_then (conditioned to cond at us s) (λ ws. all_written at z to ws s)) vs r h k
    ∙ ap (λ y. numbers_first ns (and_then (results_of to e at y s) (λ us. and_then (conditioned to cond at us s) (λ ws. all_written at y to ws s)))) is
