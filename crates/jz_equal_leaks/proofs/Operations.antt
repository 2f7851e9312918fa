-- Operations, marks and tests of a body that is judged keep states that agree.
use Rattle.std.proofs.Common.{◌≡◌, ℕ, zero, suc, Bool, true, false, List, [], ◌∷◌, ◌++◌, map, Option, Some, None, refl, sym, ap, subst, ◌∙◌, if◌then◌else◌}
use Rattle.std.specs.Option.{option_or}
use Rattle.std.proofs.lemmas.Bool.{true≢false}
use Rattle.jz_tree.specs.Span.{Span}
use Rattle.x64_insn.specs.Size.{Size}
use Rattle.jz_tree.specs.declared.expr.Expr.{Expr}
use Rattle.jz_tree.specs.declared.expr.BinOp.{BinOp}
use Rattle.jz_tree.specs.declared.expr.Var.{Var}
use Rattle.jz_tree.specs.declared.stmt.Lval.{Lval}
use Rattle.jz_tree.specs.declared.intrinsic.Instance.{Instance}
use Rattle.jz_tree.specs.Spellings.{spelled}
use Rattle.jz_runs.specs.Rules.{stuck, went}
use Rattle.jz_meaning.specs.declared.access.Kind.{Kind}
use Rattle.jz_meaning.specs.declared.access.Kind.TheVariants as kind
use Rattle.jz_meaning.specs.declared.value.Stuck.{Stuck}
use Rattle.jz_meaning.specs.Attempts.{Evaluation, and_then}
use Rattle.jz_meaning.specs.States.{Value, boolean, Key, same_key, Store, put, State}
use Rattle.jz_meaning.specs.Values.{Ref, Meaning, key_of, cell_key, ref_of, own_size, evaluated}
use Rattle.jz_meaning.specs.Assignments.{Results, left_sizes, last_left, whole_of, results_of, conditioned, all_written, truth as truth_of, bool_in, assigned_whole}
use Rattle.jz_meaning.specs.Intrinsics.{intrinsic_size, sized_results, instruction_done}
use Rattle.jz_meaning.specs.Statements.{Operation, assign, instruction, unset, meaningless, Condition, does, quiets, no_cells, without, all_unset, tests, source}
use Rattle.jz_flow.specs.Sets.{Below}
use Rattle.jz_terms.specs.Terms.{Term, num, truth, var, cell, load, neg, inv, cast, bin, term_of, means}
use Rattle.jz_terms.proofs.Bridge.{term_so}
use Rattle.jz_labels.specs.Operations.{Plain, plain_of, left_of, read_if, with_condition, division_of, tested_by}
use Rattle.jz_labels.specs.Labels.{Publics, Secret, is_none, first, secret_in, secret_in_each, gives_public, all_labelled, relabels, leaving, label_steps}
use Rattle.jz_labels.specs.Required.{Breach, Branch, begin_of, breach_at, breach_in, breach_in_each, breach_in_division, breach_in_lefts, breach_in_operation, breach_in_test, into_public, secret_written, broken, label_asks}
use Rattle.jz_equal_leaks.specs.TwoRuns.{BothGive, KeepsAgreeing}
use Rattle.jz_equal_leaks.specs.Fixed.{whole, IsFixed, AreFixed, AreFixedLefts, IsFixedOperation, IsFixedTest}
use Rattle.jz_equal_leaks.specs.Agreeing.{Agree}
use Rattle.jz_equal_leaks.proofs.Parts.{itself, equal_give, then_give}
use Rattle.jz_equal_leaks.proofs.Values.{first_none, no_secret}
use Rattle.jz_equal_leaks.proofs.Links.{Linked, AllGiven, all_given, given_left, given_right, expr_same}
use Rattle.jz_equal_leaks.proofs.RightSides.{results_link, conditioned_link}
use Rattle.jz_equal_leaks.proofs.LeftSides.{lefts_written}
use Rattle.jz_equal_leaks.proofs.Instructions.{results_given}

-- ---- no rule is broken

broken_left : (x : Option Breach) (y : Option Key) → broken x y ≡ None → x ≡ None
broken_left None y e = refl
broken_left (Some v) None e = absurd (cc e)
broken_left (Some v) (Some k) e = absurd (cc e)

broken_right : (x : Option Breach) (y : Option Key) → broken x y ≡ None → y ≡ None
broken_right None None e = refl
broken_right None (Some k) e = absurd (cc e)
broken_right (Some v) None e = refl
broken_right (Some v) (Some k) e = absurd (cc e)

none_so : {A : Type 0} (x : Option A) → is_none x ≡ true → x ≡ None
none_so None e = refl
none_so (Some v) e = absurd (cc e)

unless_so : (z : Bool) (x : Option Key) → (if z then None else x) ≡ None → z ≡ false → x ≡ None
unless_so true x e h = absurd (cc h)
unless_so false x e h = e

module _ (in_frame : Key → Bool) (arrays : Publics) where
  abbrev There : Publics → State → State → Type 0
  There = Agree in_frame arrays

  module _ (s : Publics) (a b : State) (g : Agree in_frame arrays s a b) where
    -- ---- assignments

    assigned_by : (z : Bool) (to : List Lval) (w : Option Expr) (c : Option Expr) (at : Span) → AllGiven in_frame arrays s z (read_if w ++ with_condition c (last_left to))
        → AreFixedLefts in_frame (map left_of to) → breach_in_lefts arrays z (map left_of to) s ≡ None → (z ≡ false → into_public arrays (map left_of to) ≡ None)
        → BothGive (There (all_labelled z (map left_of to) s)) (assigned_whole to w c at a) (assigned_whole to w c at b)
    assigned_by z to None c at h f n u = tt
    assigned_by z to (Some e) c at h f n u =
        let y = option_or (left_sizes to) (own_size e) in
        then_give (Linked {A = Results} z) (There (all_labelled z (map left_of to) s)) (results_of to e at y a) (results_of to e at y b) _ _ (results_link in_frame arrays s z a b g to e at y h.0)
        (λ vs ws r. then_give (Linked {A = Results} z) (There (all_labelled z (map left_of to) s)) (conditioned to c at vs a) (conditioned to c at ws b) _ _ (conditioned_link in_frame arrays s z a b g to c at vs ws r h.1)
        (λ ps qs t. lefts_written in_frame arrays z at y to ps qs t s a b g f n u))

    -- ---- instructions

    instructed : (z : Bool) (i : Option Instance) (to : List Lval) (args : List Expr) (at : Span) → AllGiven in_frame arrays s z (map term_of args) → breach_in_division arrays s (division_of i at) (map term_of args) ≡ None
        → AreFixedLefts in_frame (map left_of to) → breach_in_lefts arrays z (map left_of to) s ≡ None → (z ≡ false → into_public arrays (map left_of to) ≡ None)
        → BothGive (There (all_labelled z (map left_of to) s)) (instruction_done i to args at a) (instruction_done i to args at b)
    instructed z None to args at h d f n u = tt
    instructed z (Some i) to args at h d f n u =
        let y = intrinsic_size i.name i.size to args in
        then_give (Linked {A = Results} z) (There (all_labelled z (map left_of to) s)) (sized_results i.name at y args a) (sized_results i.name at y args b) _ _ (results_given in_frame arrays s a b g z i at y args h d)
        (λ vs ws r. lefts_written in_frame arrays z at y to vs ws r s a b g f n u)

    -- ---- operations

    done_alike : (o : Operation) → IsFixedOperation in_frame o → broken (breach_in_operation arrays (plain_of o) s) (secret_written arrays (plain_of o) s) ≡ None
        → BothGive (There (relabels arrays (plain_of o) s)) (does o a) (does o b)
    done_alike (assign to op e c at) f n =
        let p : Plain = plain_of (assign to op e c at) in
        let z : Bool = gives_public arrays s p in
        let x = first_none (breach_in_each arrays s p.reads) (first (breach_in_division arrays s p.division p.reads) (breach_in_lefts arrays z p.to s)) (broken_left (breach_in_operation arrays p s) (secret_written arrays p s) n) in
        assigned_by z to (whole_of (last_left to) op e) c at
        (all_given in_frame arrays s z p.reads f.0 x.0 (λ h. none_so (secret_in_each arrays s p.reads) h))
        f.1 x.1 (λ h. unless_so z (into_public arrays p.to) (broken_right (breach_in_operation arrays p s) (secret_written arrays p s) n) h)
    done_alike (instruction to k args at) f n =
        let p : Plain = plain_of (instruction to k args at) in
        let z : Bool = gives_public arrays s p in
        let x = first_none (breach_in_each arrays s p.reads) (first (breach_in_division arrays s p.division p.reads) (breach_in_lefts arrays z p.to s)) (broken_left (breach_in_operation arrays p s) (secret_written arrays p s) n) in
        let y = first_none (breach_in_division arrays s p.division p.reads) (breach_in_lefts arrays z p.to s) x.1 in
        instructed z (spelled k) to args at
        (all_given in_frame arrays s z p.reads f.0 x.0 (λ h. none_so (secret_in_each arrays s p.reads) h))
        y.0 f.1 y.1 (λ h. unless_so z (into_public arrays p.to) (broken_right (breach_in_operation arrays p s) (secret_written arrays p s) n) h)
    done_alike (unset xs) f n = (refl, g)
    done_alike (meaningless at) f n = tt

    -- ---- tests

    tested_alike : (c : Condition) → IsFixedTest in_frame c → broken (breach_in_test arrays (tested_by c) s) None ≡ None → BothGive (λ (y z : Bool). y ≡ z) (tests c a) (tests c b)
    tested_alike c f n =
        let t = term_of c.cond in
        let x = first_none (breach_in arrays s t) (breach_at (begin_of t) Branch (secret_in arrays s t)) (broken_left (breach_in_test arrays t s) None n) in
        equal_give (λ (y z : Bool). y ≡ z) (tests c a) (tests c b)
        (ap (λ (e : Evaluation Value). and_then e (truth_of c.at)) (expr_same in_frame arrays s a b g c.cond f (no_secret (begin_of t) Branch (secret_in arrays s t) x.1) None)) (λ y. refl)

  -- ---- behind a loop

  -- a test that is `true` is never false
  true_answers : (c : Condition) (st : State) (at : Span) (ns : List ℕ) → term_of c.cond ≡ truth true at → tests c st ≡ went ns false → ⊥
  true_answers c st at ns e h =
      let v : evaluated c.cond None st ≡ went [] (boolean true) = ap (λ (m : Meaning). m.run None st) (term_so c.cond ∙ ap means e) in
      let w : ◌≡◌ {A = Evaluation Bool} (went [] true) (went ns false) = sym (ap (λ (x : Evaluation Value). and_then x (truth_of c.at)) v) ∙ h in
      cc w

  left_alike : (c : Condition) (s : Publics) (a b : State) (ns : List ℕ) → Agree in_frame arrays s a b → tests c a ≡ went ns false → (t : Term) → term_of c.cond ≡ t → Agree in_frame arrays (leaving t s) a b
  left_alike c s a b ns g e (truth true at) r = absurd (true_answers c a at ns r e)
  left_alike c s a b ns g e (truth false at) r = record { scalars = g.scalars; cells = g.cells }
  left_alike c s a b ns g e (num i at) r = record { scalars = g.scalars; cells = g.cells }
  left_alike c s a b ns g e (var x) r = record { scalars = g.scalars; cells = g.cells }
  left_alike c s a b ns g e (cell x i) r = record { scalars = g.scalars; cells = g.cells }
  left_alike c s a b ns g e (load p i) r = record { scalars = g.scalars; cells = g.cells }
  left_alike c s a b ns g e (neg t at) r = record { scalars = g.scalars; cells = g.cells }
  left_alike c s a b ns g e (inv t at) r = record { scalars = g.scalars; cells = g.cells }
  left_alike c s a b ns g e (cast z sign t at) r = record { scalars = g.scalars; cells = g.cells }
  left_alike c s a b ns g e (bin op t u at) r = record { scalars = g.scalars; cells = g.cells }

  -- ---- marks

  cells_unset : (n : ℕ) (x : Ref) (p q : Store) (j : Key) → p j ≡ q j → no_cells n x p j ≡ no_cells n x q j
  cells_unset zero x p q j h = h
  cells_unset (suc n) x p q j h = ap (λ (v : Option Value). if same_key (cell_key x n) j then None else v) (cells_unset n x p q j h)

  one_unset : (k : Kind) (x : Ref) (p q : Store) (j : Key) → p j ≡ q j → without k x p j ≡ without k x q j
  one_unset (kind.Array z n) x p q j h = cells_unset n x p q j h
  one_unset kind.Undeclared x p q j h = ap (λ (v : Option Value). if same_key (key_of x) j then None else v) h
  one_unset kind.Int x p q j h = ap (λ (v : Option Value). if same_key (key_of x) j then None else v) h
  one_unset kind.Bool x p q j h = ap (λ (v : Option Value). if same_key (key_of x) j then None else v) h
  one_unset (kind.Word z) x p q j h = ap (λ (v : Option Value). if same_key (key_of x) j then None else v) h

  each_unset : (xs : List Var) (p q : Store) (j : Key) → p j ≡ q j → all_unset xs p j ≡ all_unset xs q j
  each_unset [] p q j h = h
  each_unset (x ∷ xs) p q j h = each_unset xs (without (ref_of x).kind (ref_of x) p) (without (ref_of x).kind (ref_of x) q) j (one_unset (ref_of x).kind (ref_of x) p q j h)

  quiet_alike : (o : Operation) (s : Publics) (a b : State) → Agree in_frame arrays s a b → Agree in_frame arrays s (quiets o a) (quiets o b)
  quiet_alike (unset xs) s a b g = record { scalars = λ k i e. each_unset xs a.store b.store k (g.scalars k i e); cells = λ k i e. each_unset xs a.store b.store k (g.cells k i e) }
  quiet_alike (assign to op e c at) s a b g = g
  quiet_alike (instruction to k args at) s a b g = g
  quiet_alike (meaningless at) s a b g = g

  pub keeps_agreeing : KeepsAgreeing (IsFixedOperation in_frame) (IsFixedTest in_frame) (label_steps plain_of tested_by arrays) (label_asks plain_of tested_by arrays) source (Agree in_frame arrays)
  keeps_agreeing = record {
    less = λ x y a b h g. record { scalars = λ k i e. g.scalars k i (h k e); cells = g.cells };
    does = λ o s a b f g n. done_alike s a b g o f n;
    quiets = λ o s a b f g. quiet_alike o s a b g;
    answers = λ c s a b f g n. tested_alike s a b g c f n;
    tests = λ c z s a b ns ms f g e d. g;
    leaves = λ c h s a b ns ms f g e d. left_alike c s a b ns g e (term_of c.cond) refl;
  }
