-- Inlining over the source's runs keeps them.
use Rattle.std.proofs.Common.{◌≡◌, ℕ, ◌≤◌, [], Some, None, refl, ap, sym, ◌∙◌, subst, arith, ℤ}
use Rattle.jz_tree.specs.declared.program.Fun.{Fun}
use Rattle.jz_tree.specs.Spellings.{spelled}
use Rattle.jz_runs.specs.Trees.{done, op, quiet, choose, loop, each, call}
use Rattle.jz_runs.specs.RunLeaks.{Leak}
use Rattle.jz_runs.specs.Rules.{went, Outcome, Goes}
use Rattle.jz_meaning.specs.declared.value.Stuck.{Stuck}
use Rattle.jz_meaning.specs.Attempts.{and_then}
use Rattle.jz_meaning.specs.States.{integer, State}
use Rattle.jz_meaning.specs.Values.{Ref, key_of, ref_of, evaluated}
use Rattle.jz_meaning.specs.Assignments.{with_value}
use Rattle.jz_meaning.specs.Shapes.{sort_of}
use Rattle.jz_meaning.specs.Statements.{Operation, assign, instruction, unset, meaningless, Counter, Block, does, counts, number_at, values_between, begins, restores, source}
use Rattle.jz_pass.specs.Copying.{inlined, inlining}
use Rattle.jz_pass.specs.Keeping.{Alike, both_stuck, IsOf, Keeps}
use Rattle.jz_pass.proofs.Stretches.{Matches}
use Rattle.jz_pass.proofs.Inlining.{matches}
use Rattle.jz_bodies.specs.Scopes.{Scope, a_scalar}
use Rattle.jz_bodies.specs.Calls.{IsCall}
use Rattle.jz_bodies.specs.Bodies.{IsOperation, IsTest, IsCounter, IsBody}
use Rattle.jz_inline.proofs.Copies.{ScopeCopy, key_in, IsBelow, Stands, Within, callee_copy, inline}
use Rattle.jz_inline.specs.Names.{op_in, counter_in}
use Rattle.jz_inline.proofs.Reading.{ref_so, value_so}
use Rattle.jz_inline.proofs.Writing.{put_so}
use Rattle.jz_inline.proofs.Assigning.{bool_so, assigned_so}
use Rattle.jz_inline.proofs.Instructing.{instruction_so}
use Rattle.jz_inline.proofs.Naming.{sets_has, callee_below, callee_within}
use Rattle.jz_inline.proofs.Filling as enter
use Rattle.jz_inline.proofs.Leaving as leave

pub operation_so : (x : ScopeCopy) (c : ℕ) (o : Operation) (s t : State) → IsOperation x.scope o → IsBelow x c → Stands x s t → Alike (λ s1 t1. Stands x s1 t1 × Within x c t t1) (does o s) (does (op_in x.names o) t)
operation_so x c (assign to o e cond at) s t i b st = assigned_so x c b to o e cond at s t st i.0 i.1 i.2
operation_so x c (instruction to n args at) s t i b st = instruction_so x c b (spelled n) to args at s t st i.0 i.1
operation_so x c (unset vs) s t i b st = absurd i
operation_so x c (meaningless at) s t i b st = both_stuck

pub counts_so : (x : ScopeCopy) (f : Counter) (s t : State) → IsCounter x.scope f → Stands x s t → counts (counter_in x.names f) t ≡ counts f s
counts_so x f s t i st =
    ap (λ a. and_then (and_then a (number_at f.at)) (λ a. and_then (and_then (evaluated (counter_in x.names f).to None t) (number_at f.at)) (λ b. went [] (values_between f.down a b)))) (value_so x s t st.agrees f.from i.0 None)
    ∙ ap (λ b. and_then (and_then (evaluated f.from None s) (number_at f.at)) (λ a. and_then (and_then b (number_at f.at)) (λ b. went [] (values_between f.down a b)))) (value_so x s t st.agrees f.to i.1 None)

pub begins_so : (x : ScopeCopy) (c : ℕ) (f : Counter) (n : ℤ) (s t : State) → IsCounter x.scope f → IsBelow x c → Stands x s t → Stands x (begins f n s) (begins (counter_in x.names f) n t) × Within x c t (begins (counter_in x.names f) n t)
begins_so x c f n s t i b st =
    let r = ref_of f.counter in
    subst (λ (p : Ref). Stands x (begins f n s) (with_value t (key_of p) (Some (integer n))) × Within x c t (with_value t (key_of p) (Some (integer n)))) (sym (ref_so x.names f.counter))
    (put_so x c b s t (key_of r) (Some (integer n)) st (a_scalar r i.2) (λ u e. (let v : integer n ≡ u = cc in ap sort_of (sym v) ∙ sym i.3)))

pub restores_so : (x : ScopeCopy) (c : ℕ) (f : Counter) (s t s1 t1 : State) → IsCounter x.scope f → IsBelow x c → Stands x s t → Stands x s1 t1 → Stands x (restores f s s1) (restores (counter_in x.names f) t t1) × Within x c t1 (restores (counter_in x.names f) t t1)
restores_so x c f s t s1 t1 i b st st1 =
    let r = ref_of f.counter in
    let k = key_of r in
    let old : t.store (key_in x.names k) ≡ s.store k = st.agrees.store k (sets_has x.scope b.scope k (a_scalar r i.2)) in
    subst (λ (p : Ref). Stands x (restores f s s1) (with_value t1 (key_of p) (t.store (key_of p))) × Within x c t1 (with_value t1 (key_of p) (t.store (key_of p)))) (sym (ref_so x.names f.counter))
    (subst (λ v. Stands x (restores f s s1) (with_value t1 (key_in x.names k) v) × Within x c t1 (with_value t1 (key_in x.names k) v)) (sym old)
    (put_so x c b s1 t1 k (s.store k) st1 (a_scalar r i.2) (λ u e. st.sorted k u e)))

pub less_so : (x : ScopeCopy) (c d : ℕ) (t t1 : State) → c ≤ d → Within x d t t1 → Within x c t t1
less_so x c d t t1 le w k lt out = w k (omega (arith, le, lt)) out

pub more_so : (x : ScopeCopy) (c d : ℕ) → c ≤ d → IsBelow x c → IsBelow x d
more_so x c d le b = record { scope = b.scope; below = λ k h. omega (arith, b.below k h, le); apart = b.apart }

-- what inlining keeps, with its parts in sight
abbrev pub kept : (scopes : Fun → Scope) → Keeps source (inline scopes)
kept scopes = record {
  OpIn = λ x. IsOperation x.scope;
  TestIn = λ x. IsTest x.scope;
  CounterIn = λ x. IsCounter x.scope;
  CallIn = λ x q. IsCall x.scope (scopes q.callee) q;
  At = Stands;
  Within = Within;
  Below = IsBelow;
  within_none = λ x c t k lt out. refl;
  within_both = λ x c t t1 t2 a b k lt out. b k lt out ∙ a k lt out;
  within_less = less_so;
  below_more = more_so;
  op_same = operation_so;
  settled_same = λ x c p s t i b st. (st, λ k lt out. refl);
  test_same = λ x p s t i st. bool_so x s t st.agrees p.at p.cond i;
  counts_same = counts_so;
  begins_same = begins_so;
  restores_same = restores_so;
  callee_below = λ x c q i b. callee_below scopes x c q b i;
  callee_within = λ x c q t t1 i b w. callee_within scopes x c q b i t t1 w;
  entered = λ x c q s t s1 ns i b st e. enter.entered scopes x c q b i s t st s1 ns e;
  entered_not = λ x c q s t w i b st e. enter.entered_not scopes x c q b i s t st w e;
  left = λ x c q s t s2 t2 s3 ns i b st w stg e. leave.left scopes x c q b i s t s2 t2 st w stg s3 ns e;
  left_not = λ x c q s t s2 t2 w i b st between stg e. leave.left_not scopes x c q b i s t s2 t2 st between stg w e;
}

-- the same, closed
pub keeps : (scopes : Fun → Scope) → Keeps source (inline scopes)
keeps scopes = kept scopes

-- what is known of a body is known of each copy of it
pub copy_of_body : (scopes : Fun → Scope) (t : Block) (x : ScopeCopy) → IsBody scopes x.scope t →
    IsOf (inline scopes) (λ y. IsOperation y.scope) (λ y. IsTest y.scope) (λ y. IsCounter y.scope) (λ y q. IsCall y.scope (scopes q.callee) q) x t
copy_of_body scopes done x i = tt
copy_of_body scopes (op o r) x i = (i.0, copy_of_body scopes r x i.1)
copy_of_body scopes (quiet o r) x i = absurd i
copy_of_body scopes (choose p a b r) x i = (i.0, copy_of_body scopes a x i.1, copy_of_body scopes b x i.2, copy_of_body scopes r x i.3)
copy_of_body scopes (loop q p t b r) x i = (i.0, copy_of_body scopes p x i.1, copy_of_body scopes b x i.2, copy_of_body scopes r x i.3)
copy_of_body scopes (each f b r) x i = (i.0, copy_of_body scopes b x i.1, copy_of_body scopes r x i.2)
copy_of_body scopes (call q b r) x i = (i.0, (λ j. copy_of_body scopes b (callee_copy scopes x j q) i.1), copy_of_body scopes r x i.2)

-- A run of a body is matched by one of its copy, whatever follows: it ends, is cut or is stuck alike, with the leak that the change makes.
pub inlining_keeps : (scopes : Fun → Scope) {b : Block} {n : ℕ} {s : State} {w : Outcome State Stuck Leak} → Goes source b n s w → (x : ScopeCopy) (c : ℕ) (t : State) → IsBody scopes x.scope b → IsBelow x c → Stands x s t →
    Matches source (inlined (inline scopes) x c b) n t (inlining (inline scopes) x c b) (λ s1 t1. Stands x s1 t1 × Within x c t t1) w
unfolding keeps
inlining_keeps scopes {b} g x c t i below st = matches source (inline scopes) (keeps scopes) g x c t (copy_of_body scopes b x i) below st
