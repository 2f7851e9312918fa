-- What a call begins with is of the callee's kinds, and what it leaves of the caller's.
use Rattle.std.proofs.Common.{◌≡◌, ◌<◌, ℕ, zero, suc, List, ◌∷◌, [], Option, Some, None, All, sym, ◌∙◌, subst, arith}
use Rattle.std.proofs.lemmas.List.Elements.{All-head, All-tail}
use Rattle.jz_tree.specs.Span.{Span}
use Rattle.jz_tree.specs.Size.{Size}
use Rattle.jz_tree.specs.declared.expr.Expr.{Expr}
use Rattle.jz_tree.specs.declared.expr.Var.{Var}
use Rattle.jz_tree.specs.declared.stmt.Lval.{Lval}
use Rattle.jz_tree.specs.declared.stmt.Lval.TheVariants as lval
use Rattle.jz_tree.specs.declared.program.Param.{Param}
use Rattle.jz_meaning.specs.Rules.{went}
use Rattle.jz_meaning.specs.declared.access.Kind.{Kind}
use Rattle.jz_meaning.specs.declared.access.Kind.TheVariants as kind
use Rattle.jz_meaning.specs.Attempts.{and_then}
use Rattle.jz_meaning.specs.States.{Store, State, empty_store, put}
use Rattle.jz_meaning.specs.Values.{size_of, Ref, key_of, cell_key, variable_value, ref_of, evaluated}
use Rattle.jz_meaning.specs.Assignments.{held, written}
use Rattle.jz_meaning.specs.Statements.{copied, array_of, array_passed, passed, all_passed, array_back, arrays_back, given, all_given}
use Rattle.jz_run_laws.specs.Kinds.{Kinds, kind_at, FitsSize, IsOfKind, HoldsKinds, IsOfKinds}
use Rattle.jz_run_laws.specs.DeclaredKinds.{LeftDeclared, ArrayDeclared, ArraysDeclared, ParamDeclared}
use Rattle.jz_run_laws.specs.Kept.{IfWent, CallsEnter, CallsLeave}
use Rattle.jz_run_laws.proofs.Parts.{went_then, went_defined}
use Rattle.jz_run_laws.proofs.Expressions.{StoreFits, value_fits}
use Rattle.jz_run_laws.proofs.Stores.{MayBe, put_keeps, held_at, store_fits, state_fits, cells_are_words}
use Rattle.jz_run_laws.proofs.LeftSides.{held_so, written_keeps}

-- ---- arrays

-- the cells below n are of one kind
abbrev SameCells : Kinds → Kinds → ℕ → Ref → Ref → Type 0
SameCells kinds other n to from = (i : ℕ) → i < n → kind_at kinds (cell_key to i) ≡ kind_at other (cell_key from i)

copied_keeps : (kinds other : Kinds) (n : ℕ) (to from : Ref) (source store : Store) → SameCells kinds other n to from → HoldsKinds other source → HoldsKinds kinds store → HoldsKinds kinds (copied n to from source store)
copied_keeps kinds other zero to from source store same hs h = h
copied_keeps kinds other (suc n) to from source store same hs h =
    put_keeps kinds (copied n to from source store) (cell_key to n) (source (cell_key from n))
    (copied_keeps kinds other n to from source store (λ i lt. same i (omega arith)) hs h)
    (subst (λ k. MayBe k (source (cell_key from n))) (sym (same n (omega arith))) (held_at other source (cell_key from n) hs))

same_cells : (kinds other : Kinds) (z : Size) (n : ℕ) (to from : Ref) → kind_at kinds (key_of to) ≡ kind.Array z n → kind_at other (key_of from) ≡ kind.Array z n → SameCells kinds other n to from
same_cells kinds other z n to from e f = λ i lt. cells_are_words (kinds to.name to.copy) to.cell z n i e lt ∙ sym (cells_are_words (other from.name from.copy) from.cell z n i f lt)

-- ---- arguments

array_passed_keeps : (caller callee : Kinds) (at : Span) (z : Size) (n : ℕ) (p : Ref) (x : Option Ref) (outer inner : Store) → kind_at callee (key_of p) ≡ kind.Array z n → ArrayDeclared caller (kind.Array z n) x → HoldsKinds caller outer → HoldsKinds callee inner
    → IfWent (HoldsKinds callee) (array_passed at n p x outer inner)
array_passed_keeps caller callee at z n p None outer inner e d ho hi = tt
array_passed_keeps caller callee at z n p (Some x) outer inner e d ho hi = copied_keeps callee caller n p x outer inner (same_cells callee caller z n p x e d) ho hi

value_passed_keeps : (caller callee : Kinds) (k : Kind) (p : Ref) (e : Expr) (s : State) (inner : Store) → kind_at callee (key_of p) ≡ k → IsOfKinds caller s → HoldsKinds callee inner
    → IfWent (HoldsKinds callee) (and_then (evaluated e (size_of k) s) (λ v. and_then (held p.span k v) (λ h. went [] (put inner (key_of p) (Some h)))))
value_passed_keeps caller callee k p e s inner d hs hi =
    went_then FitsSize (HoldsKinds callee) (evaluated e (size_of k) s) (λ v. and_then (held p.span k v) (λ h. went [] (put inner (key_of p) (Some h)))) (value_fits e (size_of k) s (state_fits caller s hs))
    (λ v q. went_then (IsOfKind k) (HoldsKinds callee) (held p.span k v) (λ h. went [] (put inner (key_of p) (Some h))) (held_so p.span k v q)
    (λ h r. put_keeps callee inner (key_of p) (Some h) hi (subst (λ y. IsOfKind y h) (sym d) r)))

passed_keeps : (caller callee : Kinds) (at : Span) (k : Kind) (p : Ref) (e : Expr) (s : State) (inner : Store) → kind_at callee (key_of p) ≡ k → ArrayDeclared caller k (array_of e) → IsOfKinds caller s → HoldsKinds callee inner
    → IfWent (HoldsKinds callee) (passed at k p e s inner)
passed_keeps caller callee at (kind.Array z n) p e s inner d a hs hi = array_passed_keeps caller callee at z n p (array_of e) s.store inner d a hs.variables hi
passed_keeps caller callee at kind.Undeclared p e s inner d a hs hi = value_passed_keeps caller callee kind.Undeclared p e s inner d hs hi
passed_keeps caller callee at kind.Int p e s inner d a hs hi = value_passed_keeps caller callee kind.Int p e s inner d hs hi
passed_keeps caller callee at kind.Bool p e s inner d a hs hi = value_passed_keeps caller callee kind.Bool p e s inner d hs hi
passed_keeps caller callee at (kind.Word z) p e s inner d a hs hi = value_passed_keeps caller callee (kind.Word z) p e s inner d hs hi

all_passed_keeps : (caller callee : Kinds) (at : Span) (ps : List Param) (es : List Expr) (s : State) (inner : Store) → All (ParamDeclared callee) ps → ArraysDeclared caller ps es → IsOfKinds caller s → HoldsKinds callee inner
    → IfWent (HoldsKinds callee) (all_passed at ps es s inner)
all_passed_keeps caller callee at [] [] s inner d a hs hi = hi
all_passed_keeps caller callee at [] (e ∷ es) s inner d a hs hi = tt
all_passed_keeps caller callee at (p ∷ ps) [] s inner d a hs hi = tt
all_passed_keeps caller callee at (p ∷ ps) (e ∷ es) s inner d a hs hi =
    went_then (HoldsKinds callee) (HoldsKinds callee) (passed at (ref_of p.var).kind (ref_of p.var) e s inner) (all_passed at ps es s)
    (passed_keeps caller callee at (ref_of p.var).kind (ref_of p.var) e s inner (All-head (ParamDeclared callee) p ps d) a.0 hs hi)
    (λ t q. all_passed_keeps caller callee at ps es s t (All-tail (ParamDeclared callee) p ps d) a.1 hs q)

pub nothing_held : (kinds : Kinds) → HoldsKinds kinds empty_store
nothing_held kinds = λ k v e. absurd cc

pub calls_enter : CallsEnter
calls_enter caller callee c s d h =
    went_then (HoldsKinds callee) (IsOfKinds callee) (all_passed c.at c.callee.params c.args s empty_store) (λ inner. went [] (record { store = inner; memory = s.memory }))
    (all_passed_keeps caller callee c.at c.callee.params c.args s empty_store d.params d.arrays h (nothing_held callee))
    (λ inner q. record { variables = q; bytes = h.bytes })

-- ---- arrays back

array_back_keeps : (caller callee : Kinds) (k : Kind) (p : Ref) (x : Option Ref) (inner outer : Store) → kind_at callee (key_of p) ≡ k → ArrayDeclared caller k x → HoldsKinds callee inner → HoldsKinds caller outer
    → HoldsKinds caller (array_back k p x inner outer)
array_back_keeps caller callee (kind.Array z n) p None inner outer d a hi ho = ho
array_back_keeps caller callee (kind.Array z n) p (Some x) inner outer d a hi ho = copied_keeps caller callee n x p inner outer (same_cells caller callee z n x p a d) hi ho
array_back_keeps caller callee kind.Undeclared p x inner outer d a hi ho = ho
array_back_keeps caller callee kind.Int p x inner outer d a hi ho = ho
array_back_keeps caller callee kind.Bool p x inner outer d a hi ho = ho
array_back_keeps caller callee (kind.Word z) p x inner outer d a hi ho = ho

arrays_back_keep : (caller callee : Kinds) (ps : List Param) (es : List Expr) (inner outer : Store) → All (ParamDeclared callee) ps → ArraysDeclared caller ps es → HoldsKinds callee inner → HoldsKinds caller outer
    → HoldsKinds caller (arrays_back ps es inner outer)
arrays_back_keep caller callee [] es inner outer d a hi ho = ho
arrays_back_keep caller callee (p ∷ ps) [] inner outer d a hi ho = ho
arrays_back_keep caller callee (p ∷ ps) (e ∷ es) inner outer d a hi ho =
    arrays_back_keep caller callee ps es inner (array_back (ref_of p.var).kind (ref_of p.var) (array_of e) inner outer) (All-tail (ParamDeclared callee) p ps d) a.1 hi
    (array_back_keeps caller callee (ref_of p.var).kind (ref_of p.var) (array_of e) inner outer (All-head (ParamDeclared callee) p ps d) a.0 hi ho)

-- ---- results

result_given : (kinds : Kinds) (z : Option Size) (x : Ref) (d : Lval) (inner : Store) (s : State) → LeftDeclared kinds d → StoreFits inner → IsOfKinds kinds s → IfWent (IsOfKinds kinds) (and_then (variable_value x inner) (λ v. written z d (Some v) s))
result_given kinds z x d inner s e f h =
    went_then FitsSize (IsOfKinds kinds) (variable_value x inner) (λ v. written z d (Some v) s) (went_defined FitsSize x.span (inner (key_of x)) (f (key_of x)))
    (λ v q. written_keeps kinds z d (Some v) s e q h)

given_keeps : (kinds : Kinds) (k : Kind) (x : Ref) (d : Lval) (inner : Store) (s : State) → LeftDeclared kinds d → StoreFits inner → IsOfKinds kinds s → IfWent (IsOfKinds kinds) (given k x d inner s)
given_keeps kinds k x (lval.Skip at) inner s e f h = h
given_keeps kinds (kind.Array z n) x d inner s e f h = h
given_keeps kinds k x d inner s e f h = result_given kinds (size_of k) x d inner s e f h

all_given_keeps : (kinds : Kinds) (at : Span) (ds : List Lval) (xs : List Var) (inner : Store) (s : State) → All (LeftDeclared kinds) ds → StoreFits inner → IsOfKinds kinds s → IfWent (IsOfKinds kinds) (all_given at ds xs inner s)
all_given_keeps kinds at [] [] inner s e f h = h
all_given_keeps kinds at [] (x ∷ xs) inner s e f h = tt
all_given_keeps kinds at (d ∷ ds) [] inner s e f h = tt
all_given_keeps kinds at (d ∷ ds) (x ∷ xs) inner s e f h =
    went_then (IsOfKinds kinds) (IsOfKinds kinds) (given (ref_of x).kind (ref_of x) d inner s) (all_given at ds xs inner)
    (given_keeps kinds (ref_of x).kind (ref_of x) d inner s (All-head (LeftDeclared kinds) d ds e) f h)
    (λ t q. all_given_keeps kinds at ds xs inner t (All-tail (LeftDeclared kinds) d ds e) f q)

pub calls_leave : CallsLeave
calls_leave caller callee c s t d h k =
    all_given_keeps caller c.at c.to c.callee.result t.store (record { store = arrays_back c.callee.params c.args t.store s.store; memory = t.memory }) d.lefts (store_fits callee t.store k.variables)
    (record { variables = arrays_back_keep caller callee c.callee.params c.args t.store s.store d.params d.arrays k.variables h.variables; bytes = k.bytes })
