-- Branches and loops behind statements that are there.
use Rattle.std.proofs.Common.{◌≡◌, ℕ, List, [], ◌∷◌, ◌++◌, Option, Some, None, Bool, true, false, refl, ap, sym, ◌∙◌, subst, append-nil, append_assoc}
use Rattle.std.specs.Prelude.{ℤ, not, is_some, if◌then◌else◌}
use Rattle.jz_tree.specs.Span.{Span}
use Rattle.jz_tree.specs.declared.expr.Expr.{Expr}
use Rattle.jz_tree.specs.declared.expr.Var.{Var}
use Rattle.jz_tree.specs.declared.stmt.Stmt.{Stmt}
use Rattle.jz_tree.specs.declared.stmt.StmtKind.TheVariants as kind
use Rattle.jz_type_names.specs.Kinds.{is_inline}
use Rattle.jz_type_names.specs.Parts.{span_of}
use Rattle.jz_integers.specs.Integers.{KnownNumbers}
use Rattle.jz_meaning.specs.Trees.{done, choose, loop, each}
use Rattle.jz_meaning.specs.Runs.{block}
use Rattle.jz_meaning.specs.Statements.{Operation, Condition, Counter, Block, values_between}
use Rattle.jz_meaning.specs.Values.{ref_of}
use Rattle.jz_interp.specs.InnerParts.{body_piece}
use Rattle.jz_change.specs.declared.change.Change.{Change}
use Rattle.jz_change.specs.declared.change.Numbers.{Numbers}
use Rattle.jz_change.specs.declared.change.Numbers.TheVariants.{Same}
use Rattle.jz_change.specs.declared.change.Step.{Step}
use Rattle.jz_change.specs.declared.change.Step.TheVariants as step
use Rattle.jz_unroll.specs.Values.{InlineNames, with_values}
use Rattle.jz_unroll.specs.Unrolling.{with_number, number_of, HasValues, UnrollsTest, tested, UnrollsLoopTest, KnowsLess}
use Rattle.jz_unrolling_values.specs.declared.conditions.Test.TheVariants.{Always, Asked}
use Rattle.jz_unrolling_values.specs.declared.known.Changed.{Changed}
use Rattle.jz_unrolling_values.specs.declared.known.Known.{Known}
use Rattle.jz_unrolling_values.specs.Numbers.{numbers_in, with_number_at, Sets, Went, IsSame, IsRestored}
use Rattle.jz_unrolling_values.specs.Parts.{IsTest, IsNever}
use Rattle.jz_unrolling_values.specs.Refusals.{NeverTests, NeverLoops}
use Rattle.jz_unrolling_values.proofs.NumberLemmas.{went_none, went_set, went_then, went_same, restored_same}
use Rattle.jz_unrolling.specs.declared.statements.Apart.{Apart}
use Rattle.jz_unrolling.specs.declared.statements.Loop.{Loop}
use Rattle.jz_unrolling.specs.declared.statements.Rounds.{Rounds}
use Rattle.jz_unrolling.specs.declared.statements.Turns.{Turns}
use Rattle.jz_unrolling.specs.Fits.{Fits, FitsEach}
use Rattle.jz_unrolling.specs.Forgetting.{forgotten}
use Rattle.jz_unrolling.specs.Refusals.{NeverFits, NeverTurns, NeverRounds, NeverCounts}
use Rattle.jz_unrolling.specs.Steps.{no_callees, Becomes, FitsOn, Spares, Adds, AddsStep, IsApart, Forgets, turns_of, IsTurn, IsLoop, HasRounds, for_of}
use Rattle.jz_unrolling.proofs.Becoming.{if_becomes, arm_becomes, while_becomes, once_becomes, nothing_becomes}
use Rattle.jz_unrolling.proofs.FitLemmas.{ends_at, if_on, arm_on, once_on, loop_on, same_values, rounds_on, last_round, next_round, round_never, arm_never, arms_never, test_never, loop_never, once_never, rounds_never}
use Rattle.jz_unrolling.proofs.RoundLemmas.{RoundsSo, no_rounds, one_round, all_rounds}
use Rattle.jz_unrolling.proofs.SpareLemmas.{spares_arm, spares_once, arms_less, loop_less, SparesRounds, no_rounds_spare, round_spares, spares_rounds}

module _ (names : InlineNames) where
  -- ---- `if`

  pub arm_adds : (c : Expr) (at at1 : Span) (z : Bool) (holds fails arm : List Stmt) (old new : Known) (out out2 : List Stmt) (steps : List Step) → IsTest names (numbers_in old) c (Always z at1) → arm ≡ (if z then holds else fails) → Adds names (block no_callees arm) old new out out2 steps
      → AddsStep names (choose (record { cond = c; at = at }) (block no_callees holds done) (block no_callees fails done)) old new out out2 (step.Arm z [] (record { steps = steps }))
  arm_adds c at at1 z holds fails arm old new out out2 steps test q h =
      let is = ap (λ l. block no_callees l done) q ∙ picked z in
      record {
        made = h.made;
        added = h.added;
        becomes = arm_becomes names c at z (block no_callees holds done) (block no_callees fails done) (block no_callees arm) (numbers_in old) (numbers_in new) h.made steps (test.0, test.1) is h.becomes;
        only = arm_on names c at z (block no_callees holds done) (block no_callees fails done) (block no_callees arm) (numbers_in old) (numbers_in new) (test.0, test.1) is h.only;
        spares = spares_arm names (record { cond = c; at = at }) z (block no_callees holds done) (block no_callees fails done) (block no_callees arm) (numbers_in old) (numbers_in new) is h.spares;
        went = h.went;
      }
    where
      picked : (b : Bool) → block no_callees (if b then holds else fails) done ≡ (if b then block no_callees holds done else block no_callees fails done)
      picked true = refl
      picked false = refl

  -- a part by itself, where the same is known
  apart_as : (f : Block → Block) (e e1 : KnownNumbers) (made : List Stmt) (steps : List Step) → e ≡ e1 → IsApart names f e made steps → IsApart names f e1 made steps
  apart_as f e e1 made steps q h = subst (λ k. IsApart names f k made steps) q h

  -- behind both arms what they set is forgotten
  pub arms_add : (c c2 : Expr) (at : Span) (holds fails : List Stmt) (k k1 k2 k3 k4 : Known) (out out2 : List Stmt) (s : Stmt) (a b : Apart) → IsTest names (numbers_in k) c (Asked c2)
      → IsApart names (block no_callees holds) (numbers_in k) a.statements a.steps → IsSame k k1 → IsApart names (block no_callees fails) (numbers_in k1) b.statements b.steps → IsSame k1 k2
      → Forgets names (block no_callees holds) k2 k3 → Forgets names (block no_callees fails) k3 k4
      → s.kind ≡ kind.If c2 a.statements b.statements → s.span ≡ at → out2 ≡ out ++ s ∷ []
      → AddsStep names (choose (record { cond = c; at = at }) (block no_callees holds done) (block no_callees fails done)) k k4 out out2 (step.If [] Same (record { steps = a.steps }) (record { steps = b.steps }))
  arms_add c c2 at holds fails k k1 k2 k3 k4 out out2 s a b test p same1 q same2 forget1 forget2 is place add =
      let e = numbers_in k in
      let f = block no_callees holds in
      let g = block no_callees fails in
      let e0 = forgotten names (g done) (forgotten names (f done) e) in
      let behind : numbers_in k4 ≡ e0 = forget2.numbers ∙ ap (forgotten names (g done)) (forget1.numbers ∙ ap (forgotten names (f done)) (same2.numbers ∙ same1.numbers)) in
      let rule : UnrollsTest names (record { cond = c; at = at }) e [] [] (record { cond = c2; at = at }) Same
      = subst (λ x. UnrollsTest names (record { cond = c; at = at }) e [] [] (record { cond = x; at = at }) Same) (sym test.valued.copy) (tested test.plain test.valued.known) in
      let other : IsApart names g e b.statements b.steps = apart_as g (numbers_in k1) e b.statements b.steps same1.numbers q in
      let less : KnowsLess e0 p.behind × KnowsLess e0 other.behind = arms_less names f g e p.behind other.behind p.spares other.spares in
      let piece = choose (record { cond = c; at = at }) (f done) (g done) in
      record {
        made = s ∷ [];
        added = add;
        becomes =
            subst (λ x. Becomes names piece e (s ∷ []) x (step.If [] Same (record { steps = a.steps }) (record { steps = b.steps }) ∷ [])) (sym behind)
            (if_becomes names c c2 at f g e p.behind other.behind e0 s a.statements b.statements a.steps b.steps rule p.becomes other.becomes less.0 less.1 is place);
        only = subst (λ x. FitsOn names piece e x) (sym behind) (if_on names c at (f done) (g done) e test.plain);
        spares = λ n d i r. ap (λ x. x n d) behind ∙ r;
        went = went_then k k2 k4 (went_then k k1 k2 (went_same k k1 same1) (went_same k1 k2 same2)) (went_then k2 k3 k4 forget1.went forget2.went);
      }

  -- ---- statements by themselves

  pub apart_so : (ss : List Stmt) (old start end : Known) (statements : List Stmt) (steps : List Step) → numbers_in start ≡ numbers_in old → Adds names (block no_callees ss) start end [] statements steps
      → IsApart names (block no_callees ss) (numbers_in old) statements steps
  apart_so ss old start end statements steps n h =
      apart_as (block no_callees ss) (numbers_in start) (numbers_in old) statements steps n
      (record {
        behind = numbers_in end;
        becomes = subst (λ m. Becomes names (block no_callees ss) (numbers_in start) m (numbers_in end) steps) (sym h.added) h.becomes;
        only = h.only;
        spares = h.spares;
      })

  -- ---- `while`

  pub once_adds : (h0 : Bool) (c : Expr) (at : Span) (q : List Stmt) (b : Block) (old new : Known) (out out2 : List Stmt) (steps : List Step) → IsNever (numbers_in old) c → IsNever (numbers_in new) c → Adds names (block no_callees q) old new out out2 steps
      → AddsStep names (loop h0 (block no_callees q done) (record { cond = c; at = at }) b) old new out out2 (step.Once (record { steps = steps }) [])
  once_adds h0 c at q b old new out out2 steps first test h = record {
    made = h.made;
    added = h.added;
    becomes = once_becomes names h0 c at b (block no_callees q) (numbers_in old) (numbers_in new) h.made steps (test.0, test.1) h.becomes;
    only = once_on names h0 c at b (block no_callees q) (numbers_in old) (numbers_in new) (first.0, first.1) h.only;
    spares = spares_once names h0 (record { cond = c; at = at }) b (block no_callees q) (numbers_in old) (numbers_in new) h.spares;
    went = h.went;
  }

  pub turn_none : (e : KnownNumbers) → IsTurn names None e (record { body = None; steps = [] })
  turn_none e = record { there = refl; apart = record { behind = e; becomes = nothing_becomes names e; only = λ t e2 h. h; spares = λ n c i q. q } }

  pub turn_some : (ss : List Stmt) (e : KnownNumbers) (a : Apart) → IsApart names (block no_callees ss) e a.statements a.steps → IsTurn names (Some ss) e (record { body = Some a.statements; steps = a.steps })
  turn_some ss e a h = record { there = refl; apart = h }

  pub loop_so : (t : Turns) (old start end : Known) (made : Loop) → numbers_in start ≡ numbers_in old → Adds names (block no_callees t.prologue.now) start end [] made.prologue.statements made.prologue.steps
      → ((at : Span) → UnrollsLoopTest names (record { cond = t.cond.now; at = at }) (numbers_in end) [] [] (record { cond = made.cond; at = at }) Same) → IsTurn names t.body.now (numbers_in end) made.turn
      → IsLoop names t (numbers_in old) made
  loop_so t old start end made n h test turn =
      subst (λ k. IsLoop names t k made) n
      (record {
        prologue = record {
          behind = numbers_in end;
          becomes = subst (λ m. Becomes names (block no_callees t.prologue.now) (numbers_in start) m (numbers_in end) made.prologue.steps) (sym h.added) h.becomes;
          only = h.only;
          spares = h.spares;
        };
        test = test;
        turn = turn;
      })

  pub loop_same : (old start end turn new : Known) (outer : List Changed) → outer ≡ old.changed.items → start.changed.items ≡ [] → numbers_in start ≡ numbers_in old → Went start end → IsSame end turn → IsRestored turn new outer → IsSame old new
  loop_same old start end turn new outer o none n w same r = restored_same old start turn new outer o none n (went_then start end turn w (went_same end turn same)) r

  -- before it what it sets is forgotten
  pub turns_add : (t : Turns) (at : Span) (k k1 k2 new : Known) (out out2 : List Stmt) (s : Stmt) (made : Loop) → (IsNever (numbers_in k) t.cond.now → ⊥)
      → Forgets names (block no_callees t.prologue.now) k k1 → Forgets names (body_piece no_callees t.body.now) k1 k2 → IsLoop names t (numbers_in k2) made → IsSame k2 new
      → s.kind ≡ kind.While made.prologue.statements made.cond made.turn.body → s.span ≡ at → out2 ≡ out ++ s ∷ []
      → AddsStep names (turns_of t at) k new out out2 (step.While (record { steps = made.prologue.steps }) [] Same (record { steps = made.turn.steps }))
  turns_add t at k k1 k2 new out out2 s made never forget1 forget2 h same is place add =
      let e = numbers_in k in
      let f = block no_callees t.prologue.now in
      let g = body_piece no_callees t.body.now in
      let e0 = forgotten names (g done) (forgotten names (f done) e) in
      let before : numbers_in k2 ≡ e0 = forget2.numbers ∙ ap (forgotten names (g done)) forget1.numbers in
      let behind : numbers_in new ≡ e0 = same.numbers ∙ before in
      let l : IsLoop names t e0 made = subst (λ x. IsLoop names t x made) before h in
      let q = l.prologue in
      let b = l.turn.apart in
      let less : KnowsLess e0 e × KnowsLess e0 b.behind × KnowsLess e0 q.behind = loop_less names f g e q.behind b.behind q.spares b.spares in
      record {
        made = s ∷ [];
        added = add;
        becomes =
            subst (λ x. Becomes names (turns_of t at) e (s ∷ []) x (step.While (record { steps = made.prologue.steps }) [] Same (record { steps = made.turn.steps }) ∷ [])) (sym behind)
            (while_becomes names (not (is_some t.body.now)) t.cond.now made.cond at f g e e0 q.behind b.behind s made.prologue.statements made.turn.body made.prologue.steps made.turn.steps
            (l.test at) q.becomes b.becomes less.0 less.1 less.2 is place (ap not l.turn.there));
        only =
            subst (λ x. FitsOn names (turns_of t at) e x) (sym behind)
            (loop_on names (not (is_some t.body.now)) (f done) (record { cond = t.cond.now; at = at }) (g done) e (λ c. never (c.0, c.1)));
        spares = λ n d i r. ap (λ x. x n d) behind ∙ r;
        went = went_then k k2 new (went_then k k1 k2 forget1.went forget2.went) (went_same k2 new same);
      }

  -- ---- `for`

  -- how far the rounds have come
  pub record IsRounding (r : Rounds) (body : List Stmt) (old now : Known) (before after : List Stmt) (changes : List Change) (at : ℤ) : Type 0 where
    pub made : List Stmt
    pub added : after ≡ before ++ made
    pub went : Went old now
    pub so : (f : Counter) → f.counter ≡ r.counter.now → RoundsSo names f body (values_between r.down r.first r.bound) (numbers_in old) (values_between r.down at r.bound) (numbers_in now) made changes
    pub spares : (f : Counter) → f.counter ≡ r.counter.now → SparesRounds names f (block no_callees body done) (numbers_in old) (numbers_in now)
    pub only : (f : Counter) → f.counter ≡ r.counter.now → (k : KnownNumbers) → FitsEach names f (block no_callees body done) (values_between r.down r.first r.bound) (numbers_in old) k → FitsEach names f (block no_callees body done) (values_between r.down at r.bound) (numbers_in now) k

  pub rounds_begin : (r : Rounds) (body : List Stmt) (k : Known) (out : List Stmt) (at : ℤ) → at ≡ r.first → IsRounding r body k k out out [] at
  rounds_begin r body k out at q = record {
    made = [];
    added = sym (append-nil out);
    went = went_none k;
    so = λ f e. subst (λ x. RoundsSo names f body (values_between r.down r.first r.bound) (numbers_in k) (values_between r.down x r.bound) (numbers_in k) [] []) (sym q) (no_rounds names f body (values_between r.down r.first r.bound) (numbers_in k));
    spares = λ f e. no_rounds_spare names f (block no_callees body done) (numbers_in k);
    only = λ f e j h. subst (λ x. FitsEach names f (block no_callees body done) (values_between r.down x r.bound) (numbers_in k) j) (sym q) h;
  }

  number_so : (f : Counter) (v : Var) (old new : Known) (m : List ℕ) (d : ℕ) (n : Option ℤ) → f.counter ≡ v → m ≡ (ref_of v).name → d ≡ (ref_of v).copy → Sets old new m d n → numbers_in new ≡ with_number (numbers_in old) f.counter n
  number_so f v old new m d n e p q h =
      h.numbers ∙ ap (λ y. with_number_at (numbers_in old) y d n) p ∙ ap (λ y. with_number_at (numbers_in old) (ref_of v).name y n) q ∙ ap (λ y. with_number (numbers_in old) y n) (sym e)

  pub rounds_next : (r : Rounds) (body : List Stmt) (old now set next : Known) (o1 o2 o3 : List Stmt) (changes : List Change) (at behind : ℤ) (steps : List Step) (m : List ℕ) (d : ℕ) → values_between r.down at r.bound ≡ at ∷ values_between r.down behind r.bound → m ≡ (ref_of r.counter.now).name → d ≡ (ref_of r.counter.now).copy → Sets now set m d (Some at) → Adds names (block no_callees body) set next o2 o3 steps
      → IsRounding r body old now o1 o2 changes at → IsRounding r body old next o1 o3 (changes ++ record { steps = steps } ∷ []) behind
  rounds_next r body old now set next o1 o2 o3 changes at behind steps m d vs p q sets h way = record {
    made = way.made ++ h.made;
    added = h.added ∙ ap (λ l. l ++ h.made) way.added ∙ append_assoc o1 way.made h.made;
    went = went_then old now next way.went (went_then now set next (went_set now set m d (Some at) sets) h.went);
    so = λ f e.
        one_round names f body (values_between r.down r.first r.bound) (values_between r.down behind r.bound) at (numbers_in old) (numbers_in now) (numbers_in next) way.made h.made changes steps
        (subst (λ x. RoundsSo names f body (values_between r.down r.first r.bound) (numbers_in old) x (numbers_in now) way.made changes) vs (way.so f e))
        (subst (λ x. Becomes names (block no_callees body) x h.made (numbers_in next) steps) (number_so f r.counter.now now set m d (Some at) e p q sets) h.becomes);
    spares = λ f e.
        round_spares names f (block no_callees body) (numbers_in old) (numbers_in now) (numbers_in next) at (way.spares f e)
        (subst (λ x. Spares names (block no_callees body) x (numbers_in next)) (number_so f r.counter.now now set m d (Some at) e p q sets) h.spares);
    only = λ f e j z.
        next_round names f (block no_callees body) at (values_between r.down behind r.bound) (values_between r.down at r.bound) (numbers_in now) (numbers_in next) j vs
        (subst (λ x. FitsOn names (block no_callees body) x (numbers_in next)) (number_so f r.counter.now now set m d (Some at) e p q sets) h.only) (way.only f e j z);
  }

  pub rounds_add : (r : Rounds) (body : List Stmt) (old now new : Known) (o1 o2 : List Stmt) (changes : List Change) (at : ℤ) (m : List ℕ) (d : ℕ) (before : Option ℤ) → values_between r.down at r.bound ≡ [] → m ≡ (ref_of r.counter.now).name → d ≡ (ref_of r.counter.now).copy → before ≡ numbers_in old m d → Sets now new m d before
      → IsRounding r body old now o1 o2 changes at
      → (from to : Expr) (place : Span) → HasRounds names (numbers_in old) r r.counter.now from r.down to → AddsStep names (for_of r from to place body) old new o1 o2 (step.Unrolled changes)
  rounds_add r body old now new o1 o2 changes at m d before none p q was sets way from to place h =
      let f : Counter = record { counter = r.counter.now; from = from; down = r.down; to = to; at = place } in
      let values : HasValues names f (numbers_in old) (values_between r.down r.first r.bound) = record { counter = h.inline; first = r.first; bound = r.bound; from = h.first; to = h.bound; values = refl } in
      let so : RoundsSo names f body (values_between r.down r.first r.bound) (numbers_in old) [] (numbers_in now) way.made changes
      = subst (λ x. RoundsSo names f body (values_between r.down r.first r.bound) (numbers_in old) x (numbers_in now) way.made changes) none (way.so f refl) in
      let back : numbers_in new ≡ with_number (numbers_in now) r.counter.now (number_of (numbers_in old) r.counter.now)
      = number_so f r.counter.now now new m d before refl p q sets
      ∙ ap (with_number (numbers_in now) r.counter.now) (was ∙ ap (λ y. numbers_in old y d) p ∙ ap (numbers_in old (ref_of r.counter.now).name) q) in
      record {
        made = way.made;
        added = way.added;
        becomes =
            subst (λ x. Becomes names (each f (block no_callees body done)) (numbers_in old) way.made x (step.Unrolled changes ∷ [])) (sym back)
            (all_rounds names f body (values_between r.down r.first r.bound) (numbers_in old) (numbers_in now) way.made changes values so);
        only =
            subst (λ x. FitsOn names (each f (block no_callees body done)) (numbers_in old) x) (sym back)
            (rounds_on names f (block no_callees body done) (numbers_in old) (numbers_in now) r.first r.bound h.first h.bound
            (λ k z. last_round names f (block no_callees body done) (values_between r.down at r.bound) (numbers_in now) k none (way.only f refl k z)));
        spares =
            subst (λ x. Spares names (each f (block no_callees body done)) (numbers_in old) x) (sym back)
            (spares_rounds names f (block no_callees body done) (numbers_in old) (numbers_in now) (way.spares f refl));
        went = went_then old now new way.went (went_set now new m d before sets);
      }

  -- ---- what does not fit

  pub apart_never : (ss : List Stmt) (old start : Known) → numbers_in start ≡ numbers_in old → NeverFits names (block no_callees ss) (numbers_in start) → NeverFits names (block no_callees ss) (numbers_in old)
  apart_never ss old start n fails = subst (λ x. NeverFits names (block no_callees ss) x) n fails

  pub if_test_never : (c : Expr) (at : Span) (a b : Block) (e : KnownNumbers) → NeverTests names e c → NeverFits names (choose (record { cond = c; at = at }) a b) e
  if_test_never c at a b e fails = test_never names c at a b e tests (λ z const. fails (Always z (span_of c)) (const.0, const.1, refl))
    where
      tests : (p2 : Condition) (os : List Operation) (is : List Numbers) (i : Numbers) → UnrollsTest names (record { cond = c; at = at }) e os is p2 i → ⊥
      tests p2 os is i (tested plain known) = fails (Asked (with_values e c)) (record { plain = plain; valued = record { copy = refl; known = known } })

  pub arm_stops : (c : Expr) (at at1 : Span) (z : Bool) (holds fails arm : List Stmt) (e : KnownNumbers) → IsTest names e c (Always z at1) → arm ≡ (if z then holds else fails) → NeverFits names (block no_callees arm) e
      → NeverFits names (choose (record { cond = c; at = at }) (block no_callees holds done) (block no_callees fails done)) e
  arm_stops c at at1 z holds fails arm e test q stops =
      arm_never names c at z (block no_callees holds done) (block no_callees fails done) (block no_callees arm) e (test.0, test.1) (ap (λ l. block no_callees l done) q ∙ picked z) stops
    where
      picked : (b : Bool) → block no_callees (if b then holds else fails) done ≡ (if b then block no_callees holds done else block no_callees fails done)
      picked true = refl
      picked false = refl

  -- of two arms the first, or the second
  pub first_never : (c : Expr) (at : Span) (f g : Block → Block) (e : KnownNumbers) → is_inline c ≡ false → NeverFits names f e → NeverFits names (choose (record { cond = c; at = at }) (f done) (g done)) e
  first_never c at f g e plain fails = arms_never names c at (f done) (g done) e plain (λ ea eb fa fb. fails done ea fa)

  pub second_never : (c : Expr) (at : Span) (f g : Block → Block) (e : KnownNumbers) (k k1 : Known) → e ≡ numbers_in k → IsSame k k1 → is_inline c ≡ false → NeverFits names g (numbers_in k1) → NeverFits names (choose (record { cond = c; at = at }) (f done) (g done)) e
  second_never c at f g e k k1 q same plain fails =
      arms_never names c at (f done) (g done) e plain (λ ea eb fa fb. fails done eb (subst (λ x. Fits names (g done) x eb) (q ∙ sym same.numbers) fb))

  -- of a `while` that is false at once
  pub prologue_never : (h0 : Bool) (f : Block → Block) (c : Expr) (at : Span) (b : Block) (e : KnownNumbers) → IsNever e c → NeverFits names f e → NeverFits names (loop h0 (f done) (record { cond = c; at = at }) b) e
  prologue_never h0 f c at b e first fails = once_never names h0 (f done) (record { cond = c; at = at }) b e (first.0, first.1) (λ eq fq const. fails done eq fq)

  pub then_true_never : (h0 : Bool) (f : Block → Block) (c : Expr) (at : Span) (b : Block) (e e1 : KnownNumbers) → IsNever e c → FitsOn names f e e1 → (IsNever e1 c → ⊥) → NeverFits names (loop h0 (f done) (record { cond = c; at = at }) b) e
  then_true_never h0 f c at b e e1 first on fails =
      once_never names h0 (f done) (record { cond = c; at = at }) b e (first.0, first.1)
      (λ eq fq const.
      let ends : eq ≡ e1 = ends_at names f e e1 eq on fq in
      let last : IsNever e1 c = subst (λ x. IsNever x c) ends (const.0, const.1) in
      fails last)

  -- of one that stays
  pub turns_never : (t : Turns) (at : Span) (k k1 k2 : Known) → (IsNever (numbers_in k) t.cond.now → ⊥) → Forgets names (block no_callees t.prologue.now) k k1 → Forgets names (body_piece no_callees t.body.now) k1 k2 → NeverTurns names t (numbers_in k2)
      → NeverFits names (turns_of t at) (numbers_in k)
  turns_never t at k k1 k2 never forget1 forget2 fails =
      let f = block no_callees t.prologue.now in
      let g = body_piece no_callees t.body.now in
      let before : forgotten names (g done) (forgotten names (f done) (numbers_in k)) ≡ numbers_in k2 = sym (forget2.numbers ∙ ap (forgotten names (g done)) forget1.numbers) in
      loop_never names (not (is_some t.body.now)) (f done) (record { cond = t.cond.now; at = at }) (g done) (numbers_in k) (λ c. never (c.0, c.1))
      (λ eq eb p2 os is i fq test fb. fails eq eb at p2 os is i (subst (λ x. Fits names (f done) x eq) before fq) test fb)

  pub loop_prologue_never : (t : Turns) (old start : Known) → numbers_in start ≡ numbers_in old → NeverFits names (block no_callees t.prologue.now) (numbers_in start) → NeverTurns names t (numbers_in old)
  loop_prologue_never t old start n fails = λ eq eb at p os is i fq test fb. fails done eq (subst (λ x. Fits names (block no_callees t.prologue.now done) x eq) (sym n) fq)

  loop_ends : (t : Turns) (old start end : Known) (eq : KnownNumbers) → numbers_in start ≡ numbers_in old → FitsOn names (block no_callees t.prologue.now) (numbers_in start) (numbers_in end) → Fits names (block no_callees t.prologue.now done) (numbers_in old) eq → eq ≡ numbers_in end
  loop_ends t old start end eq n on fq = ends_at names (block no_callees t.prologue.now) (numbers_in start) (numbers_in end) eq on (subst (λ x. Fits names (block no_callees t.prologue.now done) x eq) (sym n) fq)

  pub loop_test_never : (t : Turns) (old start end : Known) → numbers_in start ≡ numbers_in old → FitsOn names (block no_callees t.prologue.now) (numbers_in start) (numbers_in end) → NeverLoops names (numbers_in end) t.cond.now → NeverTurns names t (numbers_in old)
  loop_test_never t old start end n on fails = λ eq eb at p os is i fq test fb.
      fails at p os is i (subst (λ x. UnrollsLoopTest names (record { cond = t.cond.now; at = at }) x os is p i) (loop_ends t old start end eq n on fq) test)

  pub loop_body_never : (t : Turns) (old start end : Known) → numbers_in start ≡ numbers_in old → FitsOn names (block no_callees t.prologue.now) (numbers_in start) (numbers_in end) → NeverFits names (body_piece no_callees t.body.now) (numbers_in end) → NeverTurns names t (numbers_in old)
  loop_body_never t old start end n on fails = λ eq eb at p os is i fq test fb.
      fails done eb (subst (λ x. Fits names (body_piece no_callees t.body.now done) x eb) (loop_ends t old start end eq n on fq) fb)

  pub rounds_stop : (r : Rounds) (body : List Stmt) (old now set : Known) (o1 o2 : List Stmt) (changes : List Change) (at behind : ℤ) (m : List ℕ) (d : ℕ) → values_between r.down at r.bound ≡ at ∷ values_between r.down behind r.bound → m ≡ (ref_of r.counter.now).name → d ≡ (ref_of r.counter.now).copy → Sets now set m d (Some at) → NeverFits names (block no_callees body) (numbers_in set)
      → IsRounding r body old now o1 o2 changes at → NeverRounds names r body old
  rounds_stop r body old now set o1 o2 changes at behind m d vs p q sets fails way = λ from to place h.
      let f : Counter = record { counter = r.counter.now; from = from; down = r.down; to = to; at = place } in
      rounds_never names f (block no_callees body done) (numbers_in old)
      (λ is k i j values fb.
      round_never names f (block no_callees body) at (values_between r.down behind r.bound) (numbers_in now) k
      (subst (λ e. NeverFits names (block no_callees body) e) (number_so f r.counter.now now set m d (Some at) refl p q sets) fails)
      (subst (λ l. FitsEach names f (block no_callees body done) l (numbers_in now) k) vs
      (way.only f refl k (subst (λ l. FitsEach names f (block no_callees body done) l (numbers_in old) k) (same_values names f (numbers_in old) is r.first r.bound values h.first h.bound) fb))))

  pub for_never : (counter : Var) (from : Expr) (down : Bool) (to : Expr) (at : Span) (body : List Stmt) (e : KnownNumbers) → NeverCounts names e counter from down to → NeverFits names (each (record { counter = counter; from = from; down = down; to = to; at = at }) (block no_callees body done)) e
  for_never counter from down to at body e fails =
      let f : Counter = record { counter = counter; from = from; down = down; to = to; at = at } in
      rounds_never names f (block no_callees body done) e (λ is k i j values fb. fails at is i j values)
