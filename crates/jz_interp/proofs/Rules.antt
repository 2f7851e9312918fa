-- The rules as the code meets them.
use Rattle.std.proofs.Common.{◌≡◌, ℕ, zero, suc, ◌+◌, ◌-◌, ◌<◌, ◌≤◌, Bool, true, false, List, [], ◌∷◌, ◌++◌, drop, length, get_or, Option, Some, None, refl, sym, ap, ◌∙◌, subst, arith, append-nil}
use Rattle.std.specs.Prelude.{ℤ, if◌then◌else◌, Result, Ok, Err}
use Rattle.std.proofs.lemmas.List.{drop_all}
use Rattle.jz_tree.specs.Span.{Span}
use Rattle.jz_leak.specs.declared.leak.Leak as shown_leak
use Rattle.jz_leak.specs.declared.leak.Item.{Item}
use Rattle.jz_leak.specs.declared.leak.Item.TheVariants as item
use Rattle.jz_leak.specs.declared.leak.Turn.{Turn}
use Rattle.jz_tree.specs.declared.expr.BinOp.{BinOp}
use Rattle.jz_tree.specs.declared.expr.Expr.{Expr}
use Rattle.jz_tree.specs.declared.expr.Var.{Var}
use Rattle.jz_tree.specs.declared.stmt.Lval.{Lval}
use Rattle.jz_tree.specs.declared.stmt.Stmt.{Stmt}
use Rattle.jz_tree.specs.declared.program.Fun.{Fun}
use Rattle.jz_runs.specs.Views.{leak_of, turn_of, items_view}
use Rattle.jz_runs.specs.ShownRuns.{before, Runs, RunsRounds, Leads, TurnOutcome, last, more, cut, stuck_in, IsTurn, IsTested, Passed, Turned, Counted, finished_outcome, call_left_outcome, call_outcome}
use Rattle.jz_runs.proofs.Shown.{op_leads, op_stuck, quiet_leads, runs_whole, if_leads, if_stuck, loop_leads, each_leads, each_stuck, call_leads, enter_stuck, prologue_is_stuck, prologue_is_cut, test_is_stuck, test_is_false, turn_is_wanted, body_is_stuck, body_is_cut, body_is_over, next_turn, last_turn, cut_turn, stuck_turn, next_count, counted_all, cut_in_count, stuck_in_count, next_passed, whole_passed, cut_passed, stuck_passed}
use Rattle.jz_meaning.specs.Trees.{done, quiet, op, choose, loop, each, call}
use Rattle.jz_meaning.specs.Rules.{stuck, went, Outcome, End, Cut, Stuck}
use Rattle.jz_tree.specs.Memory.{Memory}
use Rattle.jz_meaning.specs.declared.store.Store as code_store
use Rattle.jz_meaning.specs.declared.value.Why.TheVariants.{Init}
use Rattle.jz_meaning.specs.declared.value.Stuck as why
use Rattle.jz_meaning.specs.Attempts.{Evaluation, numbers_first, and_then, did, changed}
use Rattle.jz_meaning.specs.States.{integer, Store, empty_store, State}
use Rattle.jz_meaning.specs.Stores.{store_of}
use Rattle.jz_meaning.specs.Values.{key_of, ref_of}
use Rattle.jz_meaning.specs.Assignments.{with_value}
use Rattle.jz_meaning.specs.Statements.{Block, Operation, instruction, meaningless, unset}
use Rattle.jz_meaning.specs.Statements.{Condition, Counter, Call, source, does, tests}
use Rattle.jz_meaning.specs.Statements.{counts, begins, restores, enters, leaves}
use Rattle.jz_meaning.specs.Statements.{all_passed, all_unset}
use Rattle.jz_meaning.specs.Runs.{Callee, Callees, block, statement_tree, callees_of, call_tree, instruction_tree, with_tree}
use Rattle.jz_interp.specs.InnerCalls.{called_function}
use Rattle.jz_interp.specs.InnerRounds.{RoundsOf}
use Rattle.jz_interp.specs.declared.ends.Ran.{Ran}
use Rattle.jz_interp.specs.declared.ends.Ran.TheVariants as ran_as
use Rattle.jz_interp.specs.declared.ends.TurnEnd.{TurnEnd}
use Rattle.jz_interp.specs.declared.ends.RoundsEnd.{RoundsEnd}
use Rattle.jz_interp.specs.InnerEnds.{seen_outcome, turn_seen, rounds_seen, wrapped_run}
use Rattle.jz_run_assign.proofs.RestLemmas.{rest_at}

-- what is known of an answer that is this variant
pub as_end : (f : Block → Block) (n m : ℕ) (s t : State) (r : Ran) (is : List Item) → Leads items_view source f n s (seen_outcome (Ok r) t) → r ≡ ran_as.End m is → Leads items_view source f n s (End t m is)
as_end f n m s t r is h e = subst (λ x. Leads items_view source f n s (seen_outcome (Ok x) t)) e h

pub as_cut : (f : Block → Block) (n : ℕ) (s t : State) (r : Ran) (is : List Item) → Leads items_view source f n s (seen_outcome (Ok r) t) → r ≡ ran_as.Cut is → Leads items_view source f n s (Cut is)
as_cut f n s t r is h e = subst (λ x. Leads items_view source f n s (seen_outcome (Ok x) t)) e h

pub turn_as : (p : Block) (c : Condition) (b : Block) (n : ℕ) (s t : State) (r q : TurnEnd) → IsTurn items_view source p c b n s (turn_seen (Ok r) t) → r ≡ q → IsTurn items_view source p c b n s (turn_seen (Ok q) t)
turn_as p c b n s t r q h e = subst (λ x. IsTurn items_view source p c b n s (turn_seen (Ok x) t)) e h

-- an answer and its numbers, behind those before, as the definition gives them
abbrev pub NumbersGo : {A : Type 0} → List ℕ → List ℕ → Evaluation A → Result A why.Stuck → Type 0
NumbersGo before now g r = did now r ≡ numbers_first before g

abbrev pub arguments_of : Call → State → Evaluation Store
arguments_of c s = all_passed c.at c.callee.params c.args s empty_store

-- numbers behind none
pub nothing_first : {A : Type 0} (ns : List ℕ) (g : Evaluation A) → ns ≡ [] → numbers_first ns g ≡ g
nothing_first ns (stuck w) e = refl
nothing_first ns (went ms x) e = ap (λ y. went (y ++ ms) x) e

-- ---- operations

pub operation_stuck : (o : Operation) (n : ℕ) (s : State) (none : List ℕ) → none ≡ [] → (k : why.Stuck) → stuck k ≡ numbers_first none (does o s) → Leads items_view source (op o) n s (Stuck k)
operation_stuck o n s none q k e = op_stuck items_view source {o = o} (sym (e ∙ nothing_first none (does o s) q))

pub operation_leads : (o : Operation) (n : ℕ) (s t : State) (none ns : List ℕ) (is : List Item) → none ≡ [] → went ns t ≡ numbers_first none (does o s) → is ≡ item.Op ns ∷ [] → Leads items_view source (op o) n s (End t n is)
operation_leads o n s t none ns is q e i = subst (λ x. Leads items_view source (op o) n s (End t n x)) (sym i) (op_leads items_view source {o = o} (sym (e ∙ nothing_first none (does o s) q)))

-- what has no meaning
pub meaningless_leads : (at : Span) (n : ℕ) (s : State) (k : why.Stuck) → k ≡ record { span = at; why = Init } → Leads items_view source (op (meaningless at)) n s (Stuck k)
meaningless_leads at n s k e = subst (λ x. Leads items_view source (op (meaningless at)) n s (Stuck x)) (sym e) (op_stuck items_view source {o = meaningless at} refl)

module _ (to : List Lval) (name : List ℕ) (args : List Expr) (at : Span) (x : Option BinOp) (y : Option Expr) (n : ℕ) (s : State) where
  pub instruction_operates : (o : BinOp) (k : why.Stuck) → x ≡ Some o → k ≡ record { span = at; why = Init } → Leads items_view source (instruction_tree to x name args y at) n s (Stuck k)
  instruction_operates o k e i = subst (λ z. Leads items_view source (instruction_tree to z name args y at) n s (Stuck k)) (sym e) (meaningless_leads at n s k i)

  pub instruction_conditioned : (c : Expr) (k : why.Stuck) → x ≡ None → y ≡ Some c → k ≡ record { span = at; why = Init } → Leads items_view source (instruction_tree to x name args y at) n s (Stuck k)
  instruction_conditioned c k e d i =
      subst (λ o. Leads items_view source (instruction_tree to o name args y at) n s (Stuck k)) (sym e)
      (subst (λ z. Leads items_view source (instruction_tree to None name args z at) n s (Stuck k)) (sym d) (meaningless_leads at n s k i))

  pub instruction_plain : (o : Outcome State why.Stuck (List Item)) → x ≡ None → y ≡ None → Leads items_view source (op (instruction to name args at)) n s o → Leads items_view source (instruction_tree to x name args y at) n s o
  instruction_plain r e d h =
      subst (λ o. Leads items_view source (instruction_tree to o name args y at) n s r) (sym e)
      (subst (λ z. Leads items_view source (instruction_tree to None name args z at) n s r) (sym d) h)

-- ---- statements one after another

module _ (callees : Callees) (ss : List Stmt) (n0 : ℕ) (s0 : State) (i : ℕ) (so_far : List Item) (m : ℕ) (t : State) (h : Passed items_view source (block callees ss) (block callees (drop i ss)) n0 s0 so_far m t) where
  pub block_ends : length ss ≤ i → Leads items_view source (block callees ss) n0 s0 (End t m so_far)
  block_ends le = whole_passed items_view source (block callees ss) n0 s0 (subst (λ y. Passed items_view source (block callees ss) (block callees y) n0 s0 so_far m t) (drop_all i ss le) h)

  module _ (x : Stmt) (lt : i < length ss) (ix : x ≡ get_or ss i x) where
    at_head : Passed items_view source (block callees ss) (λ r. statement_tree callees x (block callees (drop (i + 1) ss) r)) n0 s0 so_far m t
    at_head = subst (λ y. Passed items_view source (block callees ss) (block callees y) n0 s0 so_far m t) (rest_at ss i x lt ix) h

    pub block_stuck : (k : why.Stuck) → Leads items_view source (statement_tree callees x) m t (Stuck k) → Leads items_view source (block callees ss) n0 s0 (Stuck k)
    block_stuck k g = stuck_passed items_view source (block callees ss) n0 s0 (statement_tree callees x) (block callees (drop (i + 1) ss)) at_head k g

    pub block_cut : (is js : List Item) → js ≡ so_far ++ is → Leads items_view source (statement_tree callees x) m t (Cut is) → Leads items_view source (block callees ss) n0 s0 (Cut js)
    block_cut is js e g = subst (λ y. Leads items_view source (block callees ss) n0 s0 (Cut y)) (sym e) (cut_passed items_view source (block callees ss) n0 s0 (statement_tree callees x) (block callees (drop (i + 1) ss)) at_head is g)

    pub block_goes : (is js : List Item) (m1 : ℕ) (t1 : State) → js ≡ so_far ++ is → Leads items_view source (statement_tree callees x) m t (End t1 m1 is) → Passed items_view source (block callees ss) (block callees (drop (i + 1) ss)) n0 s0 js m1 t1
    block_goes is js m1 t1 e g = subst (λ y. Passed items_view source (block callees ss) (block callees (drop (i + 1) ss)) n0 s0 y m1 t1) (sym e) (next_passed items_view source (block callees ss) n0 s0 (statement_tree callees x) (block callees (drop (i + 1) ss)) at_head is g)

pub mark_leads : (xs : List Var) (n : ℕ) (s t : State) (is : List Item) → t ≡ record s { store = all_unset xs s.store } → is ≡ [] → Leads items_view source (quiet (unset xs)) n s (End t n is)
mark_leads xs n s t is it ii =
    subst (λ y. Leads items_view source (quiet (unset xs)) n s (End t n y)) (sym ii)
    (subst (λ y. Leads items_view source (quiet (unset xs)) n s (End y n [])) (sym it) (quiet_leads items_view source (unset xs) n s))

-- ---- `if`

seen_wrapped : (f : List Item → Item) (r : Ran) (t : State) → seen_outcome (Ok (wrapped_run f r)) t ≡ finished_outcome (λ s. s) (λ is. f is ∷ []) (λ is. f is ∷ []) (seen_outcome (Ok r) t)
seen_wrapped f (ran_as.End n is) t = refl
seen_wrapped f (ran_as.Cut is) t = refl

arm_tree : (callees : Callees) (a b : List Stmt) (z : Bool) → block callees (if z then a else b) done ≡ (if z then block callees a done else block callees b done)
arm_tree callees a b true = refl
arm_tree callees a b false = refl

module _ (callees : Callees) (c : Condition) (a b : List Stmt) (n : ℕ) (s : State) (none ns : List ℕ) (q : none ≡ []) where
  pub if_fails : (k : why.Stuck) → stuck k ≡ numbers_first none (tests c s) → Leads items_view source (choose c (block callees a done) (block callees b done)) n s (Stuck k)
  if_fails k e = if_stuck items_view source {c = c} (sym (e ∙ nothing_first none (tests c s) q))

  module _ (z : Bool) (arm : List Stmt) (e : went ns z ≡ numbers_first none (tests c s)) (i : arm ≡ (if z then a else b)) where
    if_by : (o : Outcome State why.Stuck (List Item)) → Leads items_view source (block callees arm) n s o → Leads items_view source (choose c (block callees a done) (block callees b done)) n s (finished_outcome (λ t. t) (items_view.choice ns z) (items_view.cut_choice ns z) o)
    if_by o g =
        if_leads items_view source {c = c} (block callees a done) (block callees b done) {z = z} (sym (e ∙ nothing_first none (tests c s) q))
        (subst (λ x. Runs items_view source x n s o) (ap (λ x. block callees x done) i ∙ arm_tree callees a b z) (runs_whole items_view source (block callees arm) n s o g))

    pub arm_stuck : (k : why.Stuck) → Leads items_view source (block callees arm) n s (Stuck k) → Leads items_view source (choose c (block callees a done) (block callees b done)) n s (Stuck k)
    arm_stuck k g = if_by (Stuck k) g

    pub if_goes : (ran r : Ran) (t : State) → Leads items_view source (block callees arm) n s (seen_outcome (Ok ran) t) → r ≡ wrapped_run (λ is. item.If ns z (leak_of is)) ran → Leads items_view source (choose c (block callees a done) (block callees b done)) n s (seen_outcome (Ok r) t)
    if_goes ran r t g w =
        subst (Leads items_view source (choose c (block callees a done) (block callees b done)) n s) (sym (ap (λ x. seen_outcome (Ok x) t) w ∙ seen_wrapped (λ is. item.If ns z (leak_of is)) ran t))
        (if_by (seen_outcome (Ok ran) t) g)

-- ---- tests

pub truth_is : (ns : List ℕ) (y z : Bool) (g : Evaluation Bool) → y ≡ z → went ns y ≡ g → went ns z ≡ g
truth_is ns y z g f h = ap (went ns) (sym f) ∙ h

-- ---- one turn of a `while`

module _ (c : Condition) (fb : Block → Block) (is : List Item) (m : ℕ) (t : State) (none ns : List ℕ) (q : none ≡ []) where
  pub test_stuck : (k : why.Stuck) → stuck k ≡ numbers_first none (tests c t) → IsTested items_view source c (fb done) is m t (stuck_in k)
  test_stuck k e = test_is_stuck items_view source c (fb done) is m t (sym (e ∙ nothing_first none (tests c t) q))

  pub test_false : (x : Turn) (js : List Item) → went ns false ≡ numbers_first none (tests c t) → x ≡ turn_of is ns false js → js ≡ [] → IsTested items_view source c (fb done) is m t (last t m (x ∷ []))
  test_false x js e i j = subst (λ y. IsTested items_view source c (fb done) is m t (last t m (y ∷ []))) (sym (i ∙ ap (turn_of is ns false) j)) (test_is_false items_view source c (fb done) is m t (sym (e ∙ nothing_first none (tests c t) q)))

  module _ (e : went ns true ≡ numbers_first none (tests c t)) where
    true_test : tests c t ≡ went ns true
    true_test = sym (e ∙ nothing_first none (tests c t) q)

    pub test_wanted : m ≡ 0 → (x : Turn) (js : List Item) → x ≡ turn_of is ns true js → js ≡ item.Cut ∷ [] → IsTested items_view source c (fb done) is m t (cut (x ∷ []))
    test_wanted z x js i j =
        subst (λ k. IsTested items_view source c (fb done) is k t (cut (x ∷ []))) (sym z)
        (subst (λ y. IsTested items_view source c (fb done) is 0 t (cut (y ∷ []))) (sym (i ∙ ap (turn_of is ns true) j)) (turn_is_wanted items_view source c (fb done) is t true_test))

    module _ (ne : m ≡ 0 → ⊥) where
      one_taken : suc (m - 1) ≡ m
      one_taken = omega (arith, ne)

      pub test_body_stuck : (k : why.Stuck) → Leads items_view source fb (m - 1) t (Stuck k) → IsTested items_view source c (fb done) is m t (stuck_in k)
      test_body_stuck k g = subst (λ j. IsTested items_view source c (fb done) is j t (stuck_in k)) one_taken (body_is_stuck items_view source c (fb done) is t true_test (runs_whole items_view source fb (m - 1) t (Stuck k) g))

      pub test_body_cut : (js : List Item) (x : Turn) → Leads items_view source fb (m - 1) t (Cut js) → x ≡ turn_of is ns true js → IsTested items_view source c (fb done) is m t (cut (x ∷ []))
      test_body_cut js x g i =
          subst (λ y. IsTested items_view source c (fb done) is m t (cut (y ∷ []))) (sym i)
          (subst (λ j. IsTested items_view source c (fb done) is j t (cut (turn_of is ns true js ∷ []))) one_taken (body_is_cut items_view source c (fb done) is t true_test (runs_whole items_view source fb (m - 1) t (Cut js) g)))

      pub test_body_over : (js : List Item) (k : ℕ) (u : State) (x : Turn) → Leads items_view source fb (m - 1) t (End u k js) → x ≡ turn_of is ns true js → IsTested items_view source c (fb done) is m t (more u k (x ∷ []))
      test_body_over js k u x g i =
          subst (λ y. IsTested items_view source c (fb done) is m t (more u k (y ∷ []))) (sym i)
          (subst (λ j. IsTested items_view source c (fb done) is j t (more u k (turn_of is ns true js ∷ []))) one_taken (body_is_over items_view source c (fb done) is t true_test (runs_whole items_view source fb (m - 1) t (End u k js) g)))

module _ (fp : Block → Block) (c : Condition) (b : Block) (n : ℕ) (s : State) where
  pub turn_stuck : (k : why.Stuck) → Leads items_view source fp n s (Stuck k) → IsTurn items_view source (fp done) c b n s (stuck_in k)
  turn_stuck k g = prologue_is_stuck items_view source (fp done) c b (runs_whole items_view source fp n s (Stuck k) g)

  pub turn_cut : (is js : List Item) (ns : List ℕ) (x : Turn) → Leads items_view source fp n s (Cut is) → x ≡ turn_of is ns false js → ns ≡ [] → js ≡ [] → IsTurn items_view source (fp done) c b n s (cut (x ∷ []))
  turn_cut is js ns x g i j k =
      subst (λ y. IsTurn items_view source (fp done) c b n s (cut (y ∷ []))) (sym (i ∙ ap (λ y. turn_of is y false js) j ∙ ap (turn_of is [] false) k))
      (prologue_is_cut items_view source (fp done) c b (runs_whole items_view source fp n s (Cut is) g))

  pub turn_tested : (is : List Item) (m : ℕ) (t : State) (o : TurnOutcome State why.Stuck Turn) → Leads items_view source fp n s (End t m is) → IsTested items_view source c b is m t o → IsTurn items_view source (fp done) c b n s o
  turn_tested is m t o g h = h.so (fp done) n s (runs_whole items_view source fp n s (End t m is) g)

-- ---- the turns of a `while`

module _ (q : Bool) (p : Block) (c : Condition) (b : Block) (n0 : ℕ) (s0 : State) (so_far : List Turn) (n : ℕ) (s : State) (h : Turned items_view source p c b n0 s0 so_far n s) where
  pub while_stuck : (k : why.Stuck) → IsTurn items_view source p c b n s (stuck_in k) → Leads items_view source (loop q p c b) n0 s0 (Stuck k)
  while_stuck k g = loop_leads items_view source q (stuck_turn items_view source p c b h k g)

  pub while_cut : (x : Turn) (ts : List Turn) (is : List Item) → IsTurn items_view source p c b n s (cut (x ∷ [])) → ts ≡ so_far ++ x ∷ [] → is ≡ item.While ts ∷ [] → Leads items_view source (loop q p c b) n0 s0 (Cut is)
  while_cut x ts is g e f = subst (λ y. Leads items_view source (loop q p c b) n0 s0 (Cut y)) (sym (f ∙ ap (λ y. item.While y ∷ []) e)) (loop_leads items_view source q (cut_turn items_view source p c b h (x ∷ []) g))

  pub while_left : (x : Turn) (t : State) (m : ℕ) (ts : List Turn) (is : List Item) → IsTurn items_view source p c b n s (last t m (x ∷ [])) → ts ≡ so_far ++ x ∷ [] → is ≡ item.While ts ∷ [] → Leads items_view source (loop q p c b) n0 s0 (End t m is)
  while_left x t m ts is g e f = subst (λ y. Leads items_view source (loop q p c b) n0 s0 (End t m y)) (sym (f ∙ ap (λ y. item.While y ∷ []) e)) (loop_leads items_view source q (last_turn items_view source p c b h t m (x ∷ []) g))

  pub while_more : (x : Turn) (t : State) (m : ℕ) (ts : List Turn) → IsTurn items_view source p c b n s (more t m (x ∷ [])) → ts ≡ so_far ++ x ∷ [] → Turned items_view source p c b n0 s0 ts m t
  while_more x t m ts g e = subst (λ y. Turned items_view source p c b n0 s0 y m t) (sym e) (next_turn items_view source p c b h t m (x ∷ []) g)

pub turn_falls : (p : Block) (c : Condition) (b : Block) (n : ℕ) (s : State) (x : Turn) (t : State) (m : ℕ) → IsTurn items_view source p c b n s (more t m (x ∷ [])) → m < n
turn_falls p c b n s x t m g = g.0

-- ---- the rounds of a `for`

-- so far, of each `for` with this counter
pub record CountedOf (x : Var) (b : Block) (js : List ℤ) (n0 : ℕ) (s0 : State) (so_far : List shown_leak.Leak) (ks : List ℤ) (n : ℕ) (s : State) : Type 0 where
  pub so : (f : Counter) → f.counter ≡ x → Counted items_view source f b js n0 s0 so_far ks n s

module _ (x : Var) (fb : Block → Block) (js : List ℤ) (n0 : ℕ) (s0 : State) (so_far : List shown_leak.Leak) (n : ℕ) (s : State) (ks : List ℤ) (h : CountedOf x (fb done) js n0 s0 so_far ks n s) where
  pub rounds_end : ks ≡ [] → RoundsOf x (fb done) js n0 s0 (End s n so_far)
  rounds_end e = record { so = λ f q. counted_all items_view source f (fb done) (subst (λ y. Counted items_view source f (fb done) js n0 s0 so_far y n s) e (h.so f q)) }

  module _ (i : ℤ) (rest : List ℤ) (e : ks ≡ i ∷ rest) (t : State) (it : t ≡ with_value s (key_of (ref_of x)) (Some (integer i))) where
    one_begun : (f : Counter) → f.counter ≡ x → Counted items_view source f (fb done) js n0 s0 so_far (i ∷ rest) n s
    one_begun f q = subst (λ y. Counted items_view source f (fb done) js n0 s0 so_far y n s) e (h.so f q)

    from_begin : (f : Counter) → f.counter ≡ x → (o : Outcome State why.Stuck (List Item)) → Leads items_view source fb n t o → Runs items_view source (fb done) n (begins f i s) o
    from_begin f q o g = subst (λ y. Runs items_view source (fb done) n y o) (it ∙ sym (ap (λ y. with_value s (key_of (ref_of y)) (Some (integer i))) q)) (runs_whole items_view source fb n t o g)

    pub rounds_stuck : (k : why.Stuck) → Leads items_view source fb n t (Stuck k) → RoundsOf x (fb done) js n0 s0 (Stuck k)
    rounds_stuck k g = record { so = λ f q. stuck_in_count items_view source f (fb done) (one_begun f q) (from_begin f q (Stuck k) g) }

    pub rounds_cut : (is : List Item) (ls : List shown_leak.Leak) → ls ≡ so_far ++ leak_of is ∷ [] → Leads items_view source fb n t (Cut is) → RoundsOf x (fb done) js n0 s0 (Cut ls)
    rounds_cut is ls il g = record { so = λ f q. subst (λ y. RunsRounds items_view source f (fb done) js n0 s0 (Cut y)) (sym il) (cut_in_count items_view source f (fb done) (one_begun f q) (from_begin f q (Cut is) g)) }

    pub rounds_more : (is : List Item) (m : ℕ) (u : State) (ls : List shown_leak.Leak) → ls ≡ so_far ++ leak_of is ∷ [] → Leads items_view source fb n t (End u m is) → CountedOf x (fb done) js n0 s0 ls rest m u
    rounds_more is m u ls il g = record { so = λ f q. subst (λ y. Counted items_view source f (fb done) js n0 s0 y rest m u) (sym il) (next_count items_view source f (fb done) (one_begun f q) (from_begin f q (End u m is) g)) }

-- ---- `for`

pub rounds_as : (x : Var) (b : Block) (js : List ℤ) (n : ℕ) (s t : State) (r q : RoundsEnd) → RoundsOf x b js n s (rounds_seen (Ok r) t) → r ≡ q → RoundsOf x b js n s (rounds_seen (Ok q) t)
rounds_as x b js n s t r q h e = subst (λ y. RoundsOf x b js n s (rounds_seen (Ok y) t)) e h

module _ (f : Counter) (fb : Block → Block) (n : ℕ) (s : State) (none ns : List ℕ) (q : none ≡ []) where
  pub for_fails : (k : why.Stuck) → stuck k ≡ numbers_first none (counts f s) → Leads items_view source (each f (fb done)) n s (Stuck k)
  for_fails k e = each_stuck items_view source {f = f} (sym (e ∙ nothing_first none (counts f s) q))

  module _ (js : List ℤ) (e : went ns js ≡ numbers_first none (counts f s)) where
    counts_are : counts f s ≡ went ns js
    counts_are = sym (e ∙ nothing_first none (counts f s) q)

    pub for_stuck : (k : why.Stuck) → RoundsOf f.counter (fb done) js n s (Stuck k) → Leads items_view source (each f (fb done)) n s (Stuck k)
    for_stuck k g = each_leads items_view source {f = f} counts_are (g.so f refl)

    pub for_cut : (ls : List shown_leak.Leak) (is : List Item) → RoundsOf f.counter (fb done) js n s (Cut ls) → is ≡ item.For ls ∷ [] → Leads items_view source (each f (fb done)) n s (Cut is)
    for_cut ls is g e = subst (λ y. Leads items_view source (each f (fb done)) n s (Cut y)) (sym e) (each_leads items_view source {f = f} counts_are (g.so f refl))

    pub for_ends : (ls : List shown_leak.Leak) (m : ℕ) (t u : State) (is : List Item) → RoundsOf f.counter (fb done) js n s (End t m ls) → u ≡ restores f s t → is ≡ item.For ls ∷ [] → Leads items_view source (each f (fb done)) n s (End u m is)
    for_ends ls m t u is g iu e =
        subst (λ x. Leads items_view source (each f (fb done)) n s (End x m is)) (sym iu)
        (subst (λ y. Leads items_view source (each f (fb done)) n s (End (restores f s t) m y)) (sym e) (each_leads items_view source {f = f} counts_are (g.so f refl)))

-- ---- calls

with_operation : (x : Option Callee) (to : List Lval) (b : BinOp) (args : List Expr) (c : Option Expr) (at : Span) (rest : Block) → call_tree x to (Some b) args c at rest ≡ op (meaningless at) rest
with_operation None to b args c at rest = refl
with_operation (Some f) to b args c at rest = refl

with_condition : (x : Option Callee) (to : List Lval) (args : List Expr) (e : Expr) (at : Span) (rest : Block) → call_tree x to None args (Some e) at rest ≡ op (meaningless at) rest
with_condition None to args e at rest = refl
with_condition (Some f) to args e at rest = refl

calls_nothing : (fs : List Fun) (d : ℕ) (o : Option BinOp) (name : List ℕ) (c : Option Expr) (to : List Lval) (args : List Expr) (at : Span) (rest : Block) → called_function fs d o name c ≡ None → call_tree (callees_of fs d name) to o args c at rest ≡ op (meaningless at) rest
calls_nothing fs zero o name c to args at rest e = refl
calls_nothing fs (suc d) None name None to args at rest e = ap (λ y. call_tree y to None args None at rest) (ap (with_tree (λ ss. block (callees_of fs d) ss done)) e)
calls_nothing fs (suc d) None name (Some c) to args at rest e = with_condition (callees_of fs (suc d) name) to args c at rest
calls_nothing fs (suc d) (Some o) name c to args at rest e = with_operation (callees_of fs (suc d) name) to o args c at rest

calls_it : (fs : List Fun) (d : ℕ) (o : Option BinOp) (name : List ℕ) (c : Option Expr) (to : List Lval) (args : List Expr) (at : Span) (f : Fun) (rest : Block) → called_function fs d o name c ≡ Some f → call_tree (callees_of fs d name) to o args c at rest ≡ call (record { to = to; callee = f; args = args; at = at }) (block (callees_of fs (d - 1)) f.body done) rest
calls_it fs zero o name c to args at f rest e = absurd cc
calls_it fs (suc d) None name None to args at f rest e =
    let i : suc d - 1 ≡ d = omega arith in
    ap (λ y. call_tree y to None args None at rest) (ap (with_tree (λ ss. block (callees_of fs d) ss done)) e)
    ∙ ap (λ j. call (record { to = to; callee = f; args = args; at = at }) (block (callees_of fs j) f.body done) rest) (sym i)
calls_it fs (suc d) None name (Some c) to args at f rest e = absurd cc
calls_it fs (suc d) (Some o) name c to args at f rest e = absurd cc

-- a piece that is the same tree, whatever follows
same_runs : (f g : Block → Block) (n : ℕ) (s : State) (o : Outcome State why.Stuck (List Item)) → ((rest : Block) → g rest ≡ f rest) → Leads items_view source f n s o → Leads items_view source g n s o
same_runs f g n s (End t m is) e h = λ r o i. subst (λ x. Runs items_view source x n s (before is o)) (sym (e r)) (h r o i)
same_runs f g n s (Cut is) e h = λ r. subst (λ x. Runs items_view source x n s (Cut is)) (sym (e r)) (h r)
same_runs f g n s (Stuck w) e h = λ r. subst (λ x. Runs items_view source x n s (Stuck w)) (sym (e r)) (h r)

module _ (fs : List Fun) (d : ℕ) (o : Option BinOp) (name : List ℕ) (c : Option Expr) (to : List Lval) (args : List Expr) (at : Span) (n : ℕ) (s : State) where
  pub call_of_none : called_function fs d o name c ≡ None → (k : why.Stuck) → k ≡ record { span = at; why = Init } → Leads items_view source (call_tree (callees_of fs d name) to o args c at) n s (Stuck k)
  call_of_none e k i = same_runs (op (meaningless at)) (call_tree (callees_of fs d name) to o args c at) n s (Stuck k) (λ rest. calls_nothing fs d o name c to args at rest e) (meaningless_leads at n s k i)

  pub call_of_some : (f : Fun) (x : Outcome State why.Stuck (List Item)) → called_function fs d o name c ≡ Some f → Leads items_view source (call (record { to = to; callee = f; args = args; at = at }) (block (callees_of fs (d - 1)) f.body done)) n s x → Leads items_view source (call_tree (callees_of fs d name) to o args c at) n s x
  call_of_some f x e h = same_runs (call (record { to = to; callee = f; args = args; at = at }) (block (callees_of fs (d - 1)) f.body done)) (call_tree (callees_of fs d name) to o args c at) n s x (λ rest. calls_it fs d o name c to args at f rest e) h

inside : {A B : Type 0} (g : A → B) (x : Evaluation A) (ns : List ℕ) (v : A) → x ≡ went ns v → and_then x (λ y. went [] (g y)) ≡ went ns (g v)
inside g x ns v e = ap (λ z. and_then z (λ y. went [] (g y))) e ∙ ap (λ ms. went ms (g v)) (append-nil ns)

-- the same stores by other names; the memory of the caller before the call is not asked
pub same_leave : (c : Call) (d r o i : code_store.Store) (m n : Memory) → d ≡ o → r ≡ i → leaves c (record { store = store_of d; memory = n }) (record { store = store_of r; memory = n }) ≡ leaves c (record { store = store_of o; memory = m }) (record { store = store_of i; memory = n })
same_leave c d r o i m n e f =
    ap (λ x. leaves c (record { store = store_of x; memory = n }) (record { store = store_of r; memory = n })) e
    ∙ ap (λ x. leaves c (record { store = store_of o; memory = m }) (record { store = store_of x; memory = n })) f

module _ (call_here : Call) (fb : Block → Block) (n : ℕ) (s : State) (none ns : List ℕ) (q : none ≡ []) where
  abbrev arguments : Evaluation Store
  arguments = all_passed call_here.at call_here.callee.params call_here.args s empty_store

  pub not_entered : (k : why.Stuck) → stuck k ≡ numbers_first none (all_passed call_here.at call_here.callee.params call_here.args s empty_store) → Leads items_view source (call call_here (fb done)) n s (Stuck k)
  not_entered k e = enter_stuck items_view source {c = call_here} (ap (λ x. and_then x (λ inner. went [] (let y : State = record { store = inner; memory = s.memory } in y))) (sym (e ∙ nothing_first none arguments q)))

  module _ (inner : Store) (e : went ns inner ≡ numbers_first none (all_passed call_here.at call_here.callee.params call_here.args s empty_store)) (t1 : State) (it1 : t1 ≡ record { store = inner; memory = s.memory }) where
    enters_so : enters call_here s ≡ went ns t1
    enters_so = inside (λ v. let y : State = record { store = v; memory = s.memory } in y) arguments ns inner (sym (e ∙ nothing_first none arguments q)) ∙ ap (went ns) (sym it1)

    finished_call : (o : Outcome State why.Stuck (List Item)) → Leads items_view source fb n t1 o → Leads items_view source (call call_here (fb done)) n s (call_outcome items_view (leaves call_here s) ns o)
    finished_call o g = call_leads items_view source {c = call_here} enters_so (runs_whole items_view source fb n t1 o g)

    pub callee_stuck : (k : why.Stuck) → Leads items_view source fb n t1 (Stuck k) → Leads items_view source (call call_here (fb done)) n s (Stuck k)
    callee_stuck k g = finished_call (Stuck k) g

    pub callee_cut : (is items : List Item) (ms : List ℕ) → ms ≡ [] → items ≡ item.Call ns (leak_of is) ms ∷ [] → Leads items_view source fb n t1 (Cut is) → Leads items_view source (call call_here (fb done)) n s (Cut items)
    callee_cut is items ms im ii g = subst (λ y. Leads items_view source (call call_here (fb done)) n s (Cut y)) (sym (ii ∙ ap (λ y. item.Call ns (leak_of is) y ∷ []) im)) (finished_call (Cut is) g)

    module _ (is : List Item) (m : ℕ) (t2 : State) (g : Leads items_view source fb n t1 (End t2 m is)) (none2 : List ℕ) (q2 : none2 ≡ []) where
      left_by : (o : Evaluation State) → o ≡ numbers_first none2 (leaves call_here s t2) → Leads items_view source (call call_here (fb done)) n s (call_left_outcome items_view ns m is o)
      left_by o i = subst (λ x. Leads items_view source (call call_here (fb done)) n s (call_left_outcome items_view ns m is x)) (sym (i ∙ nothing_first none2 (leaves call_here s t2) q2)) (finished_call (End t2 m is) g)

      pub not_left : (k : why.Stuck) → stuck k ≡ numbers_first none2 (leaves call_here s t2) → Leads items_view source (call call_here (fb done)) n s (Stuck k)
      not_left k i = left_by (stuck k) i

      pub callee_ended : (u : State) (ms : List ℕ) (items : List Item) → went ms u ≡ numbers_first none2 (leaves call_here s t2) → items ≡ item.Call ns (leak_of is) ms ∷ [] → Leads items_view source (call call_here (fb done)) n s (End u m items)
      callee_ended u ms items i ii = subst (λ y. Leads items_view source (call call_here (fb done)) n s (End u m y)) (sym ii) (left_by (went ms u) i)
