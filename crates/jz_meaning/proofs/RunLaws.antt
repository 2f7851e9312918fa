-- The laws of a function's runs, from those of its body's runs.
use Rattle.std.proofs.Common.{◌≡◌, ℕ, ◌+◌, List, sym, ap, ◌∙◌, subst, arith, refl}
use Rattle.x64_insn.specs.Memory.{Memory}
use Rattle.jz_tree.specs.declared.program.Program.{Program}
use Rattle.jz_tree.specs.declared.program.Fun.{Fun}
use Rattle.jz_tree.specs.declared.expr.Var.{Var}
use Rattle.jz_runs.specs.RunLeaks.{Leak}
use Rattle.jz_runs.specs.Rules.{stuck, went, Outcome, End, Cut, Stuck, Goes}
use Rattle.jz_runs.specs.Laws.{IsOver, with_more}
use Rattle.jz_runs.proofs.Steady.{Exact, exact, one_outcome, has_outcome}
use Rattle.jz_meaning.specs.declared.value.Stuck as code
use Rattle.jz_meaning.specs.Attempts.{Evaluation}
use Rattle.jz_meaning.specs.States.{Value, State}
use Rattle.jz_meaning.specs.Statements.{Block, source}
use Rattle.jz_meaning.specs.Runs.{body_of, entry_state, outcome_of_body, outcome_of_words, result_words, Returned, FunOutcome, IsInput, IsRun}

more_by : (b : Block) (n u : ℕ) (s : State) (o : Outcome State code.Stuck Leak) → Exact (λ k w. Goes source b k s w) n o → IsOver o → Goes source b (n + u) s (with_more u o)
more_by b n u s (End t m l) x h = let e : m + u + x.0 ≡ n + u = omega (arith, x.1) in subst (λ k. Goes source b k s (End t (m + u) l)) e (x.2 (m + u))
more_by b n u s (Cut l) x h = absurd h
more_by b n u s (Stuck w) x h = x u

pub block_more : (b : Block) (n u : ℕ) (s : State) (o : Outcome State code.Stuck Leak) → Goes source b n s o → IsOver o → Goes source b (n + u) s (with_more u o)
block_more b n u s o g h = more_by b n u s o (exact source g) h

pub block_one : (b : Block) (n : ℕ) (s : State) (o other : Outcome State code.Stuck Leak) → Goes source b n s o → Goes source b n s other → o ≡ other
block_one b n s o other g h = one_outcome source g h

pub block_some : (b : Block) (n : ℕ) (s : State) → (o : Outcome State code.Stuck Leak) × Goes source b n s o
block_some b n s = has_outcome source b n s

pub fun_one : (p : Program) (f : Fun) (words : List Value) (memory : Memory) (n : ℕ) (o other : FunOutcome) → IsRun p f words memory n o → IsRun p f words memory n other → o ≡ other
fun_one p f words memory n o other g h = sym g.gives ∙ ap (outcome_of_body f.result) (one_outcome source g.goes h.goes) ∙ h.gives

pub fun_some : (p : Program) (f : Fun) (words : List Value) (memory : Memory) (n : ℕ) → IsInput p f words → (o : FunOutcome) × IsRun p f words memory n o
fun_some p f words memory n i =
    let g = has_outcome source (body_of p f) n (entry_state f words memory) in
    (outcome_of_body f.result g.0, record { input = i; out = g.0; goes = g.1; gives = refl })

-- a function's outcome is over where that of its body is
words_over : (memory : Memory) (n u : ℕ) (l : Leak) (ws : Evaluation (List Value)) → outcome_of_words memory (n + u) l ws ≡ with_more u (outcome_of_words memory n l ws)
words_over memory n u l (stuck w) = refl
words_over memory n u l (went ns ws) = refl

body_over : (xs : List Var) (o : Outcome State code.Stuck Leak) → IsOver (outcome_of_body xs o) → IsOver o
body_over xs (End s n l) h = tt
body_over xs (Cut l) h = h
body_over xs (Stuck w) h = tt

returned_more : (xs : List Var) (u : ℕ) (o : Outcome State code.Stuck Leak) → outcome_of_body xs (with_more u o) ≡ with_more u (outcome_of_body xs o)
returned_more xs u (End s n l) = words_over s.memory n u l (result_words xs s.store)
returned_more xs u (Cut l) = refl
returned_more xs u (Stuck w) = refl

pub fun_more : (p : Program) (f : Fun) (words : List Value) (memory : Memory) (n u : ℕ) (o : FunOutcome) → IsRun p f words memory n o → IsOver o → IsRun p f words memory (n + u) (with_more u o)
fun_more p f words memory n u o g h =
    let over = body_over f.result g.out (subst IsOver (sym g.gives) h) in
    record {
      input = g.input;
      out = with_more u g.out;
      goes = block_more (body_of p f) n u (entry_state f words memory) g.out g.goes over;
      gives = returned_more f.result u g.out ∙ ap (with_more u) g.gives;
    }

-- as many turns are used, whatever is left
pub block_used : (b : Block) (n m : ℕ) (s t : State) (l : Leak) → Goes source b n s (End t m l) → (used : ℕ) × (n ≡ m + used) × ((k : ℕ) → Goes source b (k + used) s (End t k l))
block_used b n m s t l g = exact source g

-- what stands in an end
abbrev turns_in : {S W L : Type 0} → Outcome S W L → ℕ
turns_in (End s n l) = n
turns_in _ = 0

abbrev leak_in : {S W L : Type 0} → L → Outcome S W L → L
leak_in l (End s n l1) = l1
leak_in l _ = l

abbrev state_in : {S W L : Type 0} → S → Outcome S W L → S
state_in r (End s n l) = s
state_in r _ = r

abbrev IsEnd : {S W L : Type 0} → Outcome S W L → Type 0
IsEnd (End s n l) = Unit {0}
IsEnd _ = ⊥

-- a function's end comes of the body's end with the same turns and leak, whatever the turns are
record Ends (xs : List Var) (o : Outcome State code.Stuck Leak) (r : Returned) (m : ℕ) (l : Leak) : Type 0 where
  state : State
  ended : o ≡ End state m l
  gives : (k : ℕ) → outcome_of_body xs (End state k l) ≡ End r k l

words_end : (memory : Memory) (n : ℕ) (l : Leak) (a : Evaluation (List Value)) (r : Returned) (m : ℕ) (l1 : Leak) → outcome_of_words memory n l a ≡ End r m l1 → (n ≡ m) × (l ≡ l1) × ((k : ℕ) → outcome_of_words memory k l1 a ≡ End r k l1)
words_end memory n l (stuck w) r m l1 e = absurd (subst IsEnd (sym e) tt)
words_end memory n l (went ns vs) r m l1 e = (ap turns_in e, ap (leak_in l1) e, λ k. ap (λ x. End x k l1) (ap (state_in r) e))

body_ends : (xs : List Var) (o : Outcome State code.Stuck Leak) (r : Returned) (m : ℕ) (l : Leak) → outcome_of_body xs o ≡ End r m l → Ends xs o r m l
body_ends xs (End s n l1) r m l e =
    let w = words_end s.memory n l1 (result_words xs s.store) r m l e in
    record { state = s; ended = ap (λ k. End s k l1) w.0 ∙ ap (λ x. End s m x) w.1; gives = w.2 }
body_ends xs (Cut l1) r m l e = absurd (subst IsEnd (sym e) tt)
body_ends xs (Stuck w) r m l e = absurd (subst IsEnd (sym e) tt)

pub fun_used : (p : Program) (f : Fun) (words : List Value) (memory : Memory) (n m : ℕ) (r : Returned) (l : Leak) → IsRun p f words memory n (End r m l) → (used : ℕ) × (n ≡ m + used) × ((k : ℕ) → IsRun p f words memory (k + used) (End r k l))
fun_used p f words memory n m r l g =
    let e = body_ends f.result g.out r m l g.gives in
    let x = block_used (body_of p f) n m (entry_state f words memory) e.state l (subst (λ o. Goes source (body_of p f) n (entry_state f words memory) o) e.ended g.goes) in
    (x.0, x.1, λ k. record { input = g.input; out = End e.state k l; goes = x.2 k; gives = e.gives k })
