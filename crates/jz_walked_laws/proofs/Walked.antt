-- A body whose walk passes no limit has what unrolling asks for, where the walk comes to it.
use Rattle.std.proofs.Common.{◌≡◌, ℕ, ℤ, List, [], ◌∷◌, ◌++◌, Some, Bool, true, false, not, ◌||◌, refl, ap, sym, subst, inl, inr}
use Rattle.std.specs.Prelude.{◌⊎◌, Contains}
use Rattle.std.proofs.lemmas.Bool.{false≢true}
use Rattle.jz_tree.specs.declared.expr.Var.{Var}
use Rattle.jz_tree.specs.declared.program.Fun.{Fun}
use Rattle.jz_tree.specs.declared.program.Program.{Program}
use Rattle.jz_type_names.specs.Kinds.{is_inline}
use Rattle.jz_integers.specs.Integers.{KnownNumbers}
use Rattle.jz_meaning.specs.Trees.{done, op, quiet, choose, loop, each, call}
use Rattle.jz_meaning.specs.Statements.{Operation, Condition, Counter, Call, Block}
use Rattle.jz_meaning.specs.Values.{ref_of}
use Rattle.jz_limits.specs.Limits.{one}
use Rattle.jz_limits.specs.Values.{no_numbers, with_number, number_of, number_in, known_after}
use Rattle.jz_limits.specs.Asked.{asked, widths}
use Rattle.jz_limits.specs.Walks.{limits, silent, arms, rounds, counted_values, more_than_eight, argument_limits, with_arguments, result_limits, walk}
use Rattle.jz_inline_laws.specs.AskedLaws.{has_named}
use Rattle.jz_inline_laws.proofs.AskedValues.{no_cells}
use Rattle.jz_inline_laws.specs.CalledBodies.{inlines_of, IsStill, IsStillOp, IsAsked, IsTaken, FitsRounds, FitsCalled, IsNamed}
use Rattle.jz_inline_laws.specs.InlineParts.{inline_in, NameSet, Within, WithinAnd, SetsInline, sets_inline, assigns, instructs, CountsInline, PassAll, GiveAll}
use Rattle.jz_inline_laws.specs.InlineBodies.{IsInlineBody, inline_done, inline_op, inline_choose, inline_loop, inline_each, inline_call, HasInlineParam, IsInlineFun}
use Rattle.jz_walked_laws.proofs.Ones.{OnlyOnes, ones_both, no_limits, nothing_both, Takes, Asks, arms_met}
use Rattle.jz_walked_laws.proofs.AskedParts.{number_known, condition_known, no_target}
use Rattle.jz_walked_laws.proofs.Knowing.{Knows, Keeps, keeps_same, keeps_on, keeps_number, keeps_back, knows_kept, knows_within, knows_number}
use Rattle.jz_walked_laws.proofs.Operations.{operated}
use Rattle.jz_walked_laws.proofs.CalledParts.{all_passed, all_fit, parameters_given, results_fit}

-- ---- no inline variable is set

or_true : (a : Bool) → (a || true) ≡ true
or_true true = refl
or_true false = refl

still_op : (f : Fun) (s t : NameSet) (o : Operation) → SetsInline (inline_in f) true s o t → IsStillOp o
still_op f s t _ (sets_inline {v} {o} {x} {y} {c} {at} out h n w m p old within) = absurd (false≢true (sym out))
still_op f s t _ (assigns {to} {o} {x} {c} {at} l n m p within) = no_target (inline_in f) no_numbers to l
still_op f s t _ (instructs {to} {n} {args} {at} l h within) = tt

pub still : (p : Program) (f : Fun) (t : Block) (s s2 : NameSet) → IsInlineBody p f true s t s2 → IsStill t
still p f done s s2 inline_done = tt
still p f (op o r) s s2 (inline_op {s1 = s1} n h k) = (still_op f s s1 o h, still p f r s1 s2 k)
still p f (quiet o r) s s2 x = elim x [ ]
still p f (choose c a b r) s s2 (inline_choose {sa = sa} {sb = sb} {s1 = s1} x n ha hb wa wb k) = (
  still p f a s sa (subst (λ i. IsInlineBody p f i s a sa) (or_true (not (is_inline c.cond))) ha),
  still p f b s sb (subst (λ i. IsInlineBody p f i s b sb) (or_true (not (is_inline c.cond))) hb),
  still p f r s1 s2 k,
)
still p f (loop h q c b r) s s2 (inline_loop {sq = sq} {sb = sb} x n hq hb k) = (still p f q s sq hq, still p f b sq sb hb, still p f r sq s2 k)
still p f (each c b r) s s2 (inline_each {sc = sc} {sb = sb} n h w hb k) = (still p f b sc sb hb, still p f r s s2 k)
still p f (call q b r) s s2 (inline_call {s1 = s1} has is n a g w k) = still p f r s1 s2 k

-- ---- what a walk gives

pub record Walked (f : Fun) (s2 : NameSet) (t : Block) (e : KnownNumbers) : Type 0 where
  pub fits : FitsCalled (inlines_of f) t e
  pub knows : Knows f s2 (walk t e).known
  pub keeps : Keeps e (walk t e).known

-- of whatever is known before it
abbrev pub Walks : Fun → NameSet → NameSet → Block → Type 0
Walks f s s2 t = (e : KnownNumbers) → Knows f s e → OnlyOnes (walk t e).steps → Walked f s2 t e

-- ---- each form

done_case : (f : Fun) (s : NameSet) → Walks f s s done
unfolding walk
done_case f s e n ones = record { fits = tt; knows = n; keeps = keeps_same e }

op_case : (f : Fun) (i : Bool) (s s1 s2 : NameSet) (o : Operation) (r : Block) → SetsInline (inline_in f) i s o s1 → Walks f s1 s2 r → Walks f s s2 (op o r)
unfolding walk
op_case f i s s1 s2 o r h k e n ones =
    let p = ones_both (one ∷ limits (asked e o)) (walk r (known_after e o)).steps ones in
    let a = operated f e i s s1 o h n (no_limits (asked e o) p.0) in
    let w = k (known_after e o) a.knows p.1 in
    record { fits = (a.fits, w.fits); knows = w.knows; keeps = keeps_on e (known_after e o) (walk r (known_after e o)).known a.keeps w.keeps }

-- ---- `if`

-- what is known behind it
record Chosen (f : Fun) (s1 : NameSet) (c : Condition) (a b : Block) (e : KnownNumbers) : Type 0 where
  fits : IsTaken c.cond e (FitsCalled (inlines_of f) a e) (FitsCalled (inlines_of f) b e)
      ⊎ (IsAsked (inlines_of f) c.cond e × IsStill a × IsStill b × FitsCalled (inlines_of f) a e × FitsCalled (inlines_of f) b (walk a e).known)
  knows : Knows f s1 (arms c.cond (walk a) (walk b) e).known
  keeps : Keeps e (arms c.cond (walk a) (walk b) e).known

taken_case : (f : Fun) (s sa sb s1 : NameSet) (c : Condition) (a b : Block) → has_named (inline_in f) c.cond ≡ true → Walks f s sa a → Walks f s sb b → Within (inline_in f) s1 sa → Within (inline_in f) s1 sb
    → (e : KnownNumbers) → Knows f s e → (z : Bool) → Takes c.cond (walk a) (walk b) e z → Chosen f s1 c a b e
taken_case f s sa sb s1 c a b x ha hb wa wb e n true t =
    let w = ha e n t.ones in
    record {
      fits = inl (t.inline, (true, (no_cells (inline_in f) c.cond t.inline x, t.value), w.fits));
      knows = subst (Knows f s1) (sym t.known) (knows_within f s1 sa (walk a e).known wa w.knows);
      keeps = subst (Keeps e) (sym t.known) w.keeps;
    }
taken_case f s sa sb s1 c a b x ha hb wa wb e n false t =
    let w = hb e n t.ones in
    record {
      fits = inl (t.inline, (false, (no_cells (inline_in f) c.cond t.inline x, t.value), w.fits));
      knows = subst (Knows f s1) (sym t.known) (knows_within f s1 sb (walk b e).known wb w.knows);
      keeps = subst (Keeps e) (sym t.known) w.keeps;
    }

asked_case : (f : Fun) (s sa sb s1 : NameSet) (c : Condition) (a b : Block) → has_named (inline_in f) c.cond ≡ true → (is_inline c.cond ≡ false → IsStill a × IsStill b) → Walks f s sa a → Walks f s sb b → Within (inline_in f) s1 sb
    → (e : KnownNumbers) → Knows f s e → Asks c.cond (walk a) (walk b) e → Chosen f s1 c a b e
asked_case f s sa sb s1 c a b x still ha hb wb e n t =
    let u = ha e n t.first in
    let k = (walk a e).known in
    let w = hb k (knows_kept f s e k n u.keeps) t.second in
    let quiet = still t.plain in
    record {
      fits = inr ((t.plain, condition_known (inline_in f) e c.cond x t.none), quiet.0, quiet.1, u.fits, w.fits);
      knows = subst (Knows f s1) (sym t.known) (knows_within f s1 sb (walk b k).known wb w.knows);
      keeps = subst (Keeps e) (sym t.known) (keeps_on e k (walk b k).known u.keeps w.keeps);
    }

choose_case : (f : Fun) (s sa sb s1 s2 : NameSet) (c : Condition) (a b r : Block) → has_named (inline_in f) c.cond ≡ true → (is_inline c.cond ≡ false → IsStill a × IsStill b) → Walks f s sa a → Walks f s sb b
    → Within (inline_in f) s1 sa → Within (inline_in f) s1 sb → Walks f s1 s2 r → Walks f s s2 (choose c a b r)
unfolding walk
choose_case f s sa sb s1 s2 c a b r x still ha hb wa wb k e n ones =
    let m = arms c.cond (walk a) (walk b) e in
    let p = ones_both (one ∷ m.steps) (walk r m.known).steps ones in
    let d = by_test (arms_met c.cond (walk a) (walk b) e p.0) in
    let w = k m.known d.knows p.1 in
    record { fits = (d.fits, w.fits); knows = w.knows; keeps = keeps_on e m.known (walk r m.known).known d.keeps w.keeps }
  where
    by_test : ((z : Bool) × Takes c.cond (walk a) (walk b) e z) ⊎ Asks c.cond (walk a) (walk b) e → Chosen f s1 c a b e
    by_test (inl (z, t)) = taken_case f s sa sb s1 c a b x ha hb wa wb e n z t
    by_test (inr t) = asked_case f s sa sb s1 c a b x still ha hb wb e n t

-- ---- `while`

record Turned (f : Fun) (sq : NameSet) (c : Condition) (b : Block) (k : KnownNumbers) : Type 0 where
  fits : IsTaken c.cond k (FitsCalled (inlines_of f) b k) (Unit {0}) ⊎ (IsAsked (inlines_of f) c.cond k × FitsCalled (inlines_of f) b k)
  knows : Knows f sq (arms c.cond (walk b) silent k).known
  keeps : Keeps k (arms c.cond (walk b) silent k).known

turn_case : (f : Fun) (sq sb : NameSet) (c : Condition) (b : Block) → has_named (inline_in f) c.cond ≡ true → Walks f sq sb b → (k : KnownNumbers) → Knows f sq k → ((z : Bool) × Takes c.cond (walk b) silent k z) ⊎ Asks c.cond (walk b) silent k → Turned f sq c b k
turn_case f sq sb c b x hb k n (inl (true, t)) =
    let w = hb k n t.ones in
    record {
      fits = inl (t.inline, (true, (no_cells (inline_in f) c.cond t.inline x, t.value), w.fits));
      knows = subst (Knows f sq) (sym t.known) (knows_kept f sq k (walk b k).known n w.keeps);
      keeps = subst (Keeps k) (sym t.known) w.keeps;
    }
turn_case f sq sb c b x hb k n (inl (false, t)) =
    record {
      fits = inl (t.inline, (false, (no_cells (inline_in f) c.cond t.inline x, t.value), tt));
      knows = subst (Knows f sq) (sym t.known) n;
      keeps = subst (Keeps k) (sym t.known) (keeps_same k);
    }
turn_case f sq sb c b x hb k n (inr t) =
    let w = hb k n t.first in
    record {
      fits = inr ((t.plain, condition_known (inline_in f) k c.cond x t.none), w.fits);
      knows = subst (Knows f sq) (sym t.known) (knows_kept f sq k (walk b k).known n w.keeps);
      keeps = subst (Keeps k) (sym t.known) w.keeps;
    }

loop_case : (f : Fun) (s sq sb s2 : NameSet) (h : Bool) (c : Condition) (q b r : Block) → has_named (inline_in f) c.cond ≡ true → IsStill q → IsStill b → Walks f s sq q → Walks f sq sb b → Walks f sq s2 r → Walks f s s2 (loop h q c b r)
unfolding walk
loop_case f s sq sb s2 h c q b r x still1 still2 hq hb k e n ones =
    let j = (walk q e).known in
    let m = arms c.cond (walk b) silent j in
    let p = ones_both (one ∷ ((walk q e).steps ++ m.steps)) (walk r m.known).steps ones in
    let o = ones_both (walk q e).steps m.steps p.0 in
    let u = hq e n o.0 in
    let d = turn_case f sq sb c b x hb j u.knows (arms_met c.cond (walk b) silent j o.1) in
    let w = k m.known d.knows p.1 in
    record {
      fits = (still1, still2, u.fits, d.fits, w.fits);
      knows = w.knows;
      keeps = keeps_on e j (walk r m.known).known u.keeps (keeps_on j m.known (walk r m.known).known d.keeps w.keeps);
    }

-- ---- `for`

rounds_case : (f : Fun) (s sc sb : NameSet) (v : Var) (b : Block) → (ref_of v).copy ≡ 0 → WithinAnd (inline_in f) sc s v → Walks f sc sb b → (zs : List ℤ) (k : KnownNumbers) → Knows f s k → OnlyOnes (rounds v (walk b) zs k).steps
    → FitsRounds v (FitsCalled (inlines_of f) b) (walk b) zs k × Keeps k (rounds v (walk b) zs k).known
rounds_case f s sc sb v b z w hb [] k n ones = (tt, keeps_same k)
rounds_case f s sc sb v b z w hb (i ∷ is) k n ones =
    let k1 = with_number k v (Some i) in
    let k2 = (walk b k1).known in
    let p = ones_both (one ∷ (walk b k1).steps) (rounds v (walk b) is k2).steps ones in
    let u = hb k1 (knows_number f sc s k v i z w n) p.0 in
    let on = keeps_on k k1 k2 (keeps_number k v i) u.keeps in
    let r = rounds_case f s sc sb v b z w hb is k2 (knows_kept f s k k2 n on) p.1 in
    ((u.fits, r.0), keeps_on k k2 (rounds v (walk b) is k2).known on r.1)

each_case : (f : Fun) (s sc sb s2 : NameSet) (c : Counter) (b r : Block) → CountsInline (inline_in f) c → WithinAnd (inline_in f) sc s c.counter → Walks f sc sb b → Walks f s s2 r → Walks f s s2 (each c b r)
unfolding walk
each_case f s sc sb s2 c b r h w hb k e n ones =
    let zs = counted_values c.down (number_in e c.from) (number_in e c.to) in
    let m = rounds c.counter (walk b) zs e in
    let last = with_number m.known c.counter (number_of e c.counter) in
    let p = ones_both (limits (widths e c.from ++ widths e c.to) ++ (m.steps ++ [])) (walk r last).steps ones in
    let o = ones_both (limits (widths e c.from ++ widths e c.to)) (m.steps ++ []) p.0 in
    let t = nothing_both (widths e c.from) (widths e c.to) (no_limits (widths e c.from ++ widths e c.to) o.0) in
    let d = rounds_case f s sc sb c.counter b h.counter.copy w hb zs e n (ones_both m.steps [] o.1).0 in
    let on = keeps_back e m.known c.counter d.1 in
    let u = k last (knows_kept f s e last n on) p.1 in
    record {
      fits = ((number_known (inline_in f) e c.from h.from t.0, number_known (inline_in f) e c.to h.to t.1), d.0, u.fits);
      knows = u.knows;
      keeps = keeps_on e last (walk r last).known on u.keeps;
    }

-- ---- calls

call_case : (f : Fun) (s s1 s2 before behind' : NameSet) (q : Call) (b r : Block) → PassAll (inline_in f) (inline_in q.callee) q.callee.params q.args → GiveAll (inline_in f) (inline_in q.callee) q.to q.callee.result
    → ((n : List ℕ) → inline_in q.callee n 0 ≡ true → before n ≡ true → HasInlineParam (inline_in q.callee) q.callee.params n) → Within (inline_in f) s1 s → Walks q.callee before behind' b → Walks f s1 s2 r → Walks f s s2 (call q b r)
unfolding walk
call_case f s s1 s2 before behind' q b r a g given w hb k e n ones =
    let inner = with_arguments e q.callee.params q.args no_numbers in
    let first = limits (argument_limits e q.at q.callee.params q.args) in
    let last = limits (result_limits e q.at q.to q.callee.result) in
    let p = ones_both (one ∷ (more_than_eight q ++ (first ++ ((walk b inner).steps ++ (last ++ []))))) (walk r e).steps ones in
    let o = ones_both (more_than_eight q) (first ++ ((walk b inner).steps ++ (last ++ []))) p.0 in
    let t = ones_both first ((walk b inner).steps ++ (last ++ [])) o.1 in
    let y = ones_both (walk b inner).steps (last ++ []) t.1 in
    let x = ones_both last [] y.1 in
    let args = all_passed f q.callee e q.at q.callee.params q.args a (no_limits (argument_limits e q.at q.callee.params q.args) t.0) in
    let u = hb inner (λ m i j. parameters_given f q.callee e q.callee.params q.args no_numbers m args (given m i j)) y.0 in
    let v = k e (knows_within f s1 s e w n) p.1 in
    record {
      fits = (all_fit f q.callee e q.callee.params q.args args, results_fit f q.callee e q.at q.to q.callee.result g (no_limits (result_limits e q.at q.to q.callee.result) x.0), u.fits, v.fits);
      knows = v.knows;
      keeps = v.keeps;
    }

-- ---- bodies

both_still : (p : Program) (f : Fun) (i : Bool) (s sa sb : NameSet) (c : Condition) (a b : Block) → IsInlineBody p f (not (is_inline c.cond) || i) s a sa → IsInlineBody p f (not (is_inline c.cond) || i) s b sb → is_inline c.cond ≡ false → IsStill a × IsStill b
both_still p f i s sa sb c a b ha hb plain =
    let inside : (not (is_inline c.cond) || i) ≡ true = ap (λ z. not z || i) plain in
    (still p f a s sa (subst (λ z. IsInlineBody p f z s a sa) inside ha), still p f b s sb (subst (λ z. IsInlineBody p f z s b sb) inside hb))

-- funs: what typing gives of each function
module _ (p : Program) (funs : (g : Fun) → Contains p.funs g → IsInlineFun p g) where
  pub walked : (t : Block) (f : Fun) (i : Bool) (s s2 : NameSet) → IsInlineBody p f i s t s2 → Walks f s s2 t
  walked done f i s s2 inline_done = done_case f s
  walked (op o r) f i s s2 (inline_op {s1 = s1} n h k) = op_case f i s s1 s2 o r h (walked r f i s1 s2 k)
  walked (quiet o r) f i s s2 x = elim x [ ]
  walked (choose c a b r) f i s s2 (inline_choose {sa = sa} {sb = sb} {s1 = s1} x n ha hb wa wb k) =
      choose_case f s sa sb s1 s2 c a b r n (both_still p f i s sa sb c a b ha hb) (walked a f (not (is_inline c.cond) || i) s sa ha) (walked b f (not (is_inline c.cond) || i) s sb hb) wa wb (walked r f i s1 s2 k)
  walked (loop h q c b r) f i s s2 (inline_loop {sq = sq} {sb = sb} x n hq hb k) =
      loop_case f s sq sb s2 h c q b r n (still p f q s sq hq) (still p f b sq sb hb) (walked q f true s sq hq) (walked b f true sq sb hb) (walked r f i sq s2 k)
  walked (each c b r) f i s s2 (inline_each {sc = sc} {sb = sb} n h w hb k) = each_case f s sc sb s2 c b r h w (walked b f i sc sb hb) (walked r f i s s2 k)
  walked (call q b r) f i s s2 (inline_call {s1 = s1} has is n a g w k) =
      let callee = funs q.callee has in
      call_case f s s1 s2 callee.before callee.behind q b r a g callee.given w
      (walked b q.callee false callee.before callee.behind (subst (λ z. IsInlineBody p q.callee false callee.before z callee.behind) (sym is) callee.body)) (walked r f i s1 s2 k)

  -- what stands in a body
  pub named : (t : Block) (f : Fun) (i : Bool) (s s2 : NameSet) → IsInlineBody p f i s t s2 → IsNamed (inlines_of f) t
  named done f i s s2 inline_done = tt
  named (op o r) f i s s2 (inline_op {s1 = s1} n h k) = (n, named r f i s1 s2 k)
  named (quiet o r) f i s s2 x = elim x [ ]
  named (choose c a b r) f i s s2 (inline_choose {sa = sa} {sb = sb} {s1 = s1} x n ha hb wa wb k) =
      (x, named a f (not (is_inline c.cond) || i) s sa ha, named b f (not (is_inline c.cond) || i) s sb hb, named r f i s1 s2 k)
  named (loop h q c b r) f i s s2 (inline_loop {sq = sq} {sb = sb} x n hq hb k) = (x, named q f true s sq hq, named b f true sq sb hb, named r f i sq s2 k)
  named (each c b r) f i s s2 (inline_each {sc = sc} {sb = sb} n h w hb k) = (n, named b f i sc sb hb, named r f i s s2 k)
  named (call q b r) f i s s2 (inline_call {s1 = s1} has is n a g w k) =
      let callee = funs q.callee has in
      (n, named b q.callee false callee.before callee.behind (subst (λ z. IsInlineBody p q.callee false callee.before z callee.behind) (sym is) callee.body), named r f i s1 s2 k)
