-- One piece after another, and where a walk stands.
use Rattle.std.proofs.Common.{BuildHasherDefault, FoldHasher, ◌≡◌, ℕ, suc, ◌+◌, ◌<◌, ◌≤◌, Bool, true, false, List, ◌∷◌, length, drop, get_or, Option, Some, refl, sym, ap, ◌∙◌, subst, arith}
use Rattle.std.specs.Prelude.{slice_get}
use Rattle.std.proofs.lemmas.List.{drop_more, drop_all}
use Rattle.std.proofs.lemmas.Option.{slice_get_within}
use Rattle.indexmap.specs.IndexMap.{IndexMap}
use Rattle.jz_tree.specs.declared.stmt.Stmt.{Stmt}
use Rattle.jz_runs.specs.Trees.{done, choose, loop}
use Rattle.jz_meaning.specs.Statements.{Condition, Block}
use Rattle.jz_flow.specs.Flow.{IsHead, After, OneTurn}
use Rattle.jz_meaning.specs.Runs.{block, statement_tree}
use Rattle.jz_flow.proofs.Ordering.{one_after}
use Rattle.jz_facts.specs.Facts.{Facts}
use Rattle.jz_facts.specs.Tests.{tested}
use Rattle.jz_facts.specs.Along.{fact_steps}
use Rattle.jz_facts.proofs.MoreFacts.{monotone}
use Rattle.jz_layers.specs.declared.named.Named.{Named}
use Rattle.jz_fact_sets.specs.declared.knowledge.Knowledge.{Knowledge}
use Rattle.jz_fact_sets.specs.Kept.{given_of}
use Rattle.jz_block_facts.specs.Heads.{no_callees, loops, laid, AreHeads}
use Rattle.jz_block_facts.proofs.Splitting.{Splits, heads_at, statement_splits}
use Rattle.jz_alarms.specs.Conditions.{Alarm}
use Rattle.jz_first_alarm.specs.declared.arms.Known.{Known}
use Rattle.jz_first_alarm.specs.InnerAsking.{IsReady, Goes, Stops}

some_one : {A : Type 0} (a b : A) → ◌≡◌ {A = Option A} (Some a) (Some b) → a ≡ b
some_one a b e = cc e

module _ (k : Known) where
  pub ready_as : (f h : Block → Block) (i : ℕ) (s : Facts) → f ≡ h → IsReady k f i s → IsReady k h i s
  ready_as f h i s e r = subst (λ x. IsReady k x i s) e r

  pub ready_from : (piece : Block → Block) (i : ℕ) (s t : Facts) → s ≡ t → IsReady k piece i s → IsReady k piece i t
  ready_from piece i s t e r = subst (λ x. IsReady k piece i x) e r

  pub goes_as : (f h : Block → Block) (i j : ℕ) (s t : Facts) → h ≡ f → Goes k.given.now f i s j t → Goes k.given.now h i s j t
  goes_as f h i j s t e l = subst (λ x. Goes k.given.now x i s j t) (sym e) l

  pub goes_from : (piece : Block → Block) (i j : ℕ) (s t u v : Facts) → s ≡ t → u ≡ v → Goes k.given.now piece i s j u → Goes k.given.now piece i t j v
  goes_from piece i j s t u v e f l = subst (λ x. Goes k.given.now piece i t j x) f (subst (λ x. Goes k.given.now piece i x j u) e l)

  pub stops_as : (f h : Block → Block) (s : Facts) (v : Alarm) → h ≡ f → Stops k.given.now f s v → Stops k.given.now h s v
  stops_as f h s v e l = subst (λ x. Stops k.given.now x s v) (sym e) l

  pub stops_from : (piece : Block → Block) (s t : Facts) (v : Alarm) → s ≡ t → Stops k.given.now piece s v → Stops k.given.now piece t v
  stops_from piece s t v e l = subst (λ x. Stops k.given.now piece x v) e l

  pub nothing_goes : (i : ℕ) (s : Facts) → Goes k.given.now (λ r. r) i s i s
  nothing_goes i s = record { next = omega arith; after = λ r z h. h; first = λ xs r w h. h }

  -- ---- one piece before another

  module _ (piece rest : Block → Block) (splits : Splits (BuildHasherDefault FoldHasher) k.given.now piece) (i j : ℕ) (s t : Facts) where
    pub first_ready : IsReady k (λ r. piece (rest r)) i s → IsReady k piece i s
    first_ready h = record {
      different = h.different;
      words = h.words;
      heads = (splits.heads_on (rest done) i k.heads.now s h.heads).0;
    }

    pub next_ready : IsReady k (λ r. piece (rest r)) i s → Goes k.given.now piece i s j t → IsReady k rest j t
    next_ready h l =
        let y = (splits.heads_on (rest done) i k.heads.now s h.heads).1 in
        let same = one_after (fact_steps (given_of k.given.now)) (monotone (given_of k.given.now)) (piece done) s y.0 t y.1 (l.after done t refl) in
        record {
          different = h.different;
          words = h.words;
          heads = subst (AreHeads k.given.now (rest done) j k.heads.now) same (heads_at k.given.now (rest done) (i + loops (piece done)) j k.heads.now y.0 (sym l.next) y.2);
        }

    pub both_go : (n : ℕ) (u : Facts) → Goes k.given.now piece i s j t → Goes k.given.now rest j t n u → Goes k.given.now (λ r. piece (rest r)) i s n u
    both_go n u a b =
        let e = a.next in
        let f = b.next in
        let m = splits.loops_on (rest done) in
        record {
          next = omega (arith, e, f, m);
          after = λ r z h. a.after (rest r) z (b.after r z h);
          first = λ xs r w h. a.first xs (rest r) w (b.first xs r w h);
        }

    pub later_stops : (v : Alarm) → Goes k.given.now piece i s j t → Stops k.given.now rest t v → Stops k.given.now (λ r. piece (rest r)) s v
    later_stops v a h xs r = a.first xs (rest r) (Some v) (h xs r)

  -- ---- arms and turns

  pub yes_ready : (c : Condition) (a b : Block → Block) (i : ℕ) (s : Facts) → IsReady k (choose c (a done) (b done)) i s → IsReady k a i (tested (given_of k.given.now) c true s)
  yes_ready c a b i s h = record { different = h.different; words = h.words; heads = h.heads.2 }

  pub no_ready : (c : Condition) (a b : Block → Block) (i j : ℕ) (s : Facts) → j ≡ i + loops (a done) → IsReady k (choose c (a done) (b done)) i s → IsReady k b j (tested (given_of k.given.now) c false s)
  no_ready c a b i j s e h = record {
    different = h.different;
    words = h.words;
    heads = heads_at k.given.now (b done) (i + loops (a done)) j k.heads.now (tested (given_of k.given.now) c false s) (sym e) h.heads.3;
  }

  module _ (w : Bool) (p : Block → Block) (c : Condition) (b : Block → Block) (i : ℕ) (s : Facts) (h : IsReady k (loop w (p done) c (b done)) i s) where
    pub head_there : i < length k.heads.now
    head_there = slice_get_within k.heads.now i h.heads.0 h.heads.2

    module _ (m : IndexMap Named Knowledge (BuildHasherDefault FoldHasher)) (is : slice_get k.heads.now i ≡ Some m) where
      same_table : h.heads.0 ≡ m
      same_table = some_one h.heads.0 m (sym h.heads.2 ∙ is)

      pub head_is : IsHead (OneTurn (fact_steps (given_of k.given.now)) (p done) c (b done)) s (laid k.given.now m s)
      head_is = subst (λ x. IsHead (OneTurn (fact_steps (given_of k.given.now)) (p done) c (b done)) s (laid k.given.now x s)) same_table h.heads.3

      pub prologue_ready : (n : ℕ) → n ≡ suc i → IsReady k p n (laid k.given.now m s)
      prologue_ready n e = record {
        different = h.different;
        words = h.words;
        heads = subst (λ x. AreHeads k.given.now (p done) n k.heads.now (laid k.given.now x s)) same_table
            (heads_at k.given.now (p done) (suc i) n k.heads.now (laid k.given.now h.heads.0 s) (sym e) h.heads.4);
      }

      pub rest_ready : (j : ℕ) (t : Facts) → Goes k.given.now p (suc i) (laid k.given.now m s) j t → IsReady k b j (tested (given_of k.given.now) c true t)
      rest_ready j t l =
          let one = one_after (fact_steps (given_of k.given.now)) (monotone (given_of k.given.now)) (p done) (laid k.given.now m s) h.heads.1 t
          (subst (λ x. After (fact_steps (given_of k.given.now)) (p done) (laid k.given.now x s) h.heads.1) same_table h.heads.5) (l.after done t refl) in
          record {
            different = h.different;
            words = h.words;
            heads = subst (λ x. AreHeads k.given.now (b done) j k.heads.now (tested (given_of k.given.now) c true x)) one
                (heads_at k.given.now (b done) (suc i + loops (p done)) j k.heads.now (tested (given_of k.given.now) c true h.heads.1) (sym l.next) h.heads.6);
          }

  pub goes_at : (piece : Block → Block) (i n j : ℕ) (s t : Facts) → n ≡ i → Goes k.given.now piece n s j t → Goes k.given.now piece i s j t
  goes_at piece i n j s t e l = subst (λ x. Goes k.given.now piece x s j t) e l

  -- ---- statements in their order

  -- so far, the statements from an index on are left
  pub record IsOn (ss : List Stmt) (n : ℕ) (i : ℕ) (s : Facts) (j : ℕ) (t : Facts) : Type 0 where
    pub ready : IsReady k (block no_callees (drop n ss)) j t
    pub goes : (m : ℕ) (u : Facts) → Goes k.given.now (block no_callees (drop n ss)) j t m u → Goes k.given.now (block no_callees ss) i s m u
    pub stops : (v : Alarm) → Stops k.given.now (block no_callees (drop n ss)) t v → Stops k.given.now (block no_callees ss) s v

  pub none_on : (ss : List Stmt) (i : ℕ) (s : Facts) → IsReady k (block no_callees ss) i s → IsOn ss 0 i s i s
  none_on ss i s h = record { ready = h; goes = λ m u l. l; stops = λ v l. l }

  at_index : (ss : List Stmt) (n : ℕ) (x : Stmt) → n < length ss → x ≡ get_or ss n x → drop n ss ≡ x ∷ drop (n + 1) ss
  at_index ss n x lt is = drop_more ss n x lt ∙ ap (λ y. y ∷ drop (n + 1) ss) (sym is)

  module _ (ss : List Stmt) (n : ℕ) (x : Stmt) (i : ℕ) (s : Facts) (j : ℕ) (t : Facts) (lt : n < length ss) (is : x ≡ get_or ss n x) (on : IsOn ss n i s j t) where
    both_ready : IsReady k (λ r. statement_tree no_callees x (block no_callees (drop (n + 1) ss) r)) j t
    both_ready = subst (λ l. IsReady k (block no_callees l) j t) (at_index ss n x lt is) on.ready

    pub one_ready : IsReady k (statement_tree no_callees x) j t
    one_ready = first_ready (statement_tree no_callees x) (block no_callees (drop (n + 1) ss)) (statement_splits (BuildHasherDefault FoldHasher) k.given.now x) j j t t both_ready

    pub one_on : (m : ℕ) (u : Facts) → Goes k.given.now (statement_tree no_callees x) j t m u → IsOn ss (n + 1) i s m u
    one_on m u l = record {
      ready = next_ready (statement_tree no_callees x) (block no_callees (drop (n + 1) ss)) (statement_splits (BuildHasherDefault FoldHasher) k.given.now x) j m t u both_ready l;
      goes = λ o v h. on.goes o v (subst (λ y. Goes k.given.now (block no_callees y) j t o v) (sym (at_index ss n x lt is))
          (both_go (statement_tree no_callees x) (block no_callees (drop (n + 1) ss)) (statement_splits (BuildHasherDefault FoldHasher) k.given.now x) j m t u o v l h));
      stops = λ v h. on.stops v (subst (λ y. Stops k.given.now (block no_callees y) t v) (sym (at_index ss n x lt is))
          (later_stops (statement_tree no_callees x) (block no_callees (drop (n + 1) ss)) (statement_splits (BuildHasherDefault FoldHasher) k.given.now x) j m t u v l h));
    }

    pub one_stops : (v : Alarm) → Stops k.given.now (statement_tree no_callees x) t v → Stops k.given.now (block no_callees ss) s v
    one_stops v h = on.stops v (subst (λ y. Stops k.given.now (block no_callees y) t v) (sym (at_index ss n x lt is)) (λ xs r. h xs (block no_callees (drop (n + 1) ss) r)))

  pub all_on : (ss : List Stmt) (n : ℕ) (i : ℕ) (s : Facts) (j : ℕ) (t : Facts) → length ss ≤ n → IsOn ss n i s j t → Goes k.given.now (block no_callees ss) i s j t
  all_on ss n i s j t le on = on.goes j t (subst (λ y. Goes k.given.now (block no_callees y) j t j t) (sym (drop_all n ss le)) (nothing_goes j t))
