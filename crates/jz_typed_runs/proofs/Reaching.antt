-- Each state that a run comes to is of the kinds of the function that does something there.
use Rattle.std.proofs.Common.{◌≡◌, ℕ, List, Bool, true, false, sym, subst, if◌then◌else◌}
use Rattle.std.specs.Prelude.{ℤ, Contains}
use Rattle.jz_tree.specs.declared.program.Fun.{Fun}
use Rattle.jz_tree.specs.declared.program.Program.{Program}
use Rattle.jz_meaning.specs.Rules.{went, End, Goes}
use Rattle.jz_meaning.specs.RunLeaks.{Leak}
use Rattle.jz_meaning.specs.Attempts.{Evaluation}
use Rattle.jz_meaning.specs.States.{State}
use Rattle.jz_meaning.specs.Statements.{Operation, Condition, Counter, Call, Block, source}
use Rattle.jz_meaning.specs.Statements as what
use Rattle.jz_run_laws.specs.Kinds.{IsOfKinds}
use Rattle.jz_run_laws.specs.Nodes.{AllNodes}
use Rattle.jz_run_laws.specs.DeclaredKinds.{OperationDeclared, CounterDeclared, CallDeclared}
use Rattle.jz_run_laws.specs.Kept.{IfWent}
use Rattle.jz_run_laws.proofs.Runs.{Keeps, kept, kept_turns, kept_rounds}
use Rattle.jz_run_laws.proofs.Nodes.{operations_keep, marks_keep, counters_begin, counters_restore}
use Rattle.jz_run_laws.proofs.Calls.{calls_enter, calls_leave}
use Rattle.jz_typed_runs.specs.TypedTexts.{kinds_in}
use Rattle.jz_typed_runs.specs.Reached.{Part, operation, test, bounds, arguments, results, Comes, ComesInTurns, ComesInRounds}
use Rattle.jz_typed_runs.specs.Reached as reached
use Rattle.jz_typed_runs.specs.Runs.{SourcePart, KeepsKinds}

-- ---- what is declared of the nodes, each of a function
module _ (q : Program) where
  abbrev pub OperationOf : Fun → Operation → Type 0
  OperationOf f o = OperationDeclared (kinds_in q f) o

  abbrev pub CounterOf : Fun → Counter → Type 0
  CounterOf f c = CounterDeclared (kinds_in q f) c

  -- a call of a function of the program
  pub record CallOf (f g : Fun) (c : Call) : Type 0 where
    pub callee : c.callee ≡ g
    pub of_program : Contains q.funs g
    pub declared : CallDeclared (kinds_in q f) (kinds_in q g) c

  abbrev pub BodyOf : Fun → Block → Type 0
  BodyOf f b = AllNodes OperationOf CounterOf CallOf f b

  abbrev pub Holds : Fun → State → Type 0
  Holds f s = IsOfKinds (kinds_in q f) s

  pub parts_keep : Keeps OperationOf CounterOf CallOf source Holds
  parts_keep =
      record {
        operations = λ f o s d h. operations_keep (kinds_in q f) o s d h;
        marks = λ f o s d h. marks_keep (kinds_in q f) o s h;
        tests = λ f c s h. h;
        beginning = λ f c i s d h. counters_begin (kinds_in q f) c i s d h;
        restored = λ f c s t h k. counters_restore (kinds_in q f) c s t h k;
        entered = λ f g c s d h. calls_enter (kinds_in q f) (kinds_in q g) c s d.declared h;
        left = λ f g c s t d h k. calls_leave (kinds_in q f) (kinds_in q g) c s t d.declared h k;
      }

  gone : {A : Type 0} (P : A → Type 0) (g : Evaluation A) (ns : List ℕ) (x : A) → g ≡ went ns x → IfWent P g → P x
  gone P g ns x e h = subst (IfWent P) e h

  ended : (f : Fun) (b : Block) (n m : ℕ) (s s1 : State) (l : Leak) → Goes source b n s (End s1 m l) → BodyOf f b → Holds f s → Holds f s1
  ended f b n m s s1 l g a h = kept OperationOf CounterOf CallOf source Holds parts_keep f g a h

  arm : (f : Fun) (a b : Block) (z : Bool) → BodyOf f a → BodyOf f b → BodyOf f (if z then a else b)
  arm f a b true x y = x
  arm f a b false x y = y

  abbrev into : Call → Fun
  into c = c.callee

  entered_body : (f g : Fun) (c : Call) (b : Block) → CallOf f g c → BodyOf g b → BodyOf c.callee b
  entered_body f g c b d a = subst (λ z. BodyOf z b) (sym d.callee) a

  entered_state : (f g : Fun) (c : Call) (s s1 : State) (ns : List ℕ) → what.enters c s ≡ went ns s1 → CallOf f g c → Holds f s → Holds g s1
  entered_state f g c s s1 ns e d h = gone (Holds g) (what.enters c s) ns s1 e (calls_enter (kinds_in q f) (kinds_in q g) c s d.declared h)

  callee_state : (f g : Fun) (c : Call) (s : State) → CallOf f g c → Holds g s → Holds c.callee s
  callee_state f g c s d h = subst (λ z. Holds z s) (sym d.callee) h

  of_callee : (f g : Fun) (c : Call) → CallOf f g c → Contains q.funs c.callee
  of_callee f g c d = subst (Contains q.funs) (sym d.callee) d.of_program

  abbrev Said : Fun → SourcePart → State → Type 0
  Said g p s = Contains q.funs g × KeepsKinds q g p s

  mutual
    pub comes_so : {k j : Fun} {t : Block} {n : ℕ} {s u : State} {p : SourcePart} → Comes source into k t n s j p u → BodyOf k t → Holds k s → Contains q.funs k → Said j p u
    comes_so reached.does a h i = (i, h)
    comes_so (reached.past {k} {o = o} {s = s} {s1 = s1} {ns = ns} e c) a h i =
        comes_so c a.1 (gone (Holds k) (what.does o s) ns s1 e (operations_keep (kinds_in q k) o s a.0 h)) i
    comes_so (reached.past_quiet {k} {o = o} {s = s} c) a h i = comes_so c a.1 (marks_keep (kinds_in q k) o s h) i
    comes_so reached.asks a h i = (i, h)
    comes_so (reached.in_arm {k} {a = x} {b = y} {z = z} e c) a h i = comes_so c (arm k x y z a.0 a.1) h i
    comes_so (reached.past_arm {k} {a = x} {b = y} {n = n} {m = m} {s = s} {s1 = s1} {z = z} {l = l} e g c) a h i =
        comes_so c a.2 (ended k (if z then x else y) n m s s1 l g (arm k x y z a.0 a.1) h) i
    comes_so (reached.in_turns c) a h i = turns_so c a.0 a.1 h i
    comes_so (reached.past_turns {k} g c) a h i = comes_so c a.2 (kept_turns OperationOf CounterOf CallOf source Holds parts_keep k g a.0 a.1 h) i
    comes_so reached.counts a h i = (i, h)
    comes_so (reached.in_rounds e c) a h i = rounds_so c a.0 a.1 h i
    comes_so (reached.past_rounds {k} {f = f} {s = s} {s1 = s1} e g c) a h i =
        comes_so c a.2 (counters_restore (kinds_in q k) f s s1 h (kept_rounds OperationOf CounterOf CallOf source Holds parts_keep k g a.0 a.1 h)) i
    comes_so reached.enters a h i = (i, h)
    comes_so (reached.in_call {k} {c = x} {b = b} {s = s} {s1 = s1} {ns = ns} e c) a h i =
        comes_so c (entered_body k a.0.0 x b a.0.1 a.0.2) (callee_state k a.0.0 x s1 a.0.1 (entered_state k a.0.0 x s s1 ns e a.0.1 h)) (of_callee k a.0.0 x a.0.1)
    comes_so (reached.leaves {k} {c = x} {b = b} {n = n} {m = m} {s = s} {s1 = s1} {s2 = s2} {ns = ns} {l = l} e g) a h i =
        (i, (h, callee_state k a.0.0 x s2 a.0.1 (ended a.0.0 b n m s1 s2 l g a.0.2 (entered_state k a.0.0 x s s1 ns e a.0.1 h))))
    comes_so (reached.past_call {k} {c = x} {b = b} {n = n} {m = m} {s = s} {s1 = s1} {s2 = s2} {s3 = s3} {ns = ns} {ms = ms} {l = l} e g r c) a h i =
        let there = ended a.0.0 b n m s1 s2 l g a.0.2 (entered_state k a.0.0 x s s1 ns e a.0.1 h) in
        comes_so c a.1 (gone (Holds k) (what.leaves x s s2) ms s3 r (calls_leave (kinds_in q k) (kinds_in q a.0.0) x s s2 a.0.1.declared h there)) i

    turns_so : {k j : Fun} {g : Block} {c : Condition} {b : Block} {n : ℕ} {s u : State} {p : SourcePart} → ComesInTurns source into k g c b n s j p u → BodyOf k g → BodyOf k b → Holds k s → Contains q.funs k → Said j p u
    turns_so (reached.in_prologue c) a b h i = comes_so c a h i
    turns_so (reached.asks_turn {k} {g = t} {n = n} {m = m} {s = s} {s1 = s1} {l = l} g) a b h i = (i, ended k t n m s s1 l g a h)
    turns_so (reached.in_body {k} {g = t} {n = n} {s = s} {s1 = s1} {l = l} g e c) a b h i = comes_so c b (ended k t n _ s s1 l g a h) i
    turns_so (reached.next_turn {k} {g = t} {b = x} {n = n} {m = m} {m2 = m2} {s = s} {s1 = s1} {s2 = s2} {l = l} {lb = lb} g e r c) a b h i =
        turns_so c a b (ended k x m m2 s1 s2 lb r b (ended k t n _ s s1 l g a h)) i

    rounds_so : {k j : Fun} {f : Counter} {b : Block} {is : List ℤ} {n : ℕ} {s u : State} {p : SourcePart} → ComesInRounds source into k f b is n s j p u → CounterOf k f → BodyOf k b → Holds k s → Contains q.funs k → Said j p u
    rounds_so (reached.in_round {k} {f = f} {i = v} {s = s} c) a b h i = comes_so c b (counters_begin (kinds_in q k) f v s a h) i
    rounds_so (reached.next_round {k} {f = f} {b = x} {i = v} {n = n} {m = m} {s = s} {s1 = s1} {l = l} g c) a b h i =
        rounds_so c a b (ended k x n m (what.begins f v s) s1 l g b (counters_begin (kinds_in q k) f v s a h)) i
