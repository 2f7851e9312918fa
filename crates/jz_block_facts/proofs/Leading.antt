-- One piece after another, and branches.
use Rattle.std.proofs.Common.{◌≡◌, ◌⊎◌, inl, inr, ℕ, ◌+◌, ◌<◌, ◌≤◌, Bool, true, false, List, [], ◌∷◌, length, drop, get_or, None, refl, sym, ap, ◌∙◌, subst, arith}
use Rattle.std.specs.Prelude.{slice_get}
use Rattle.std.proofs.lemmas.List.{drop_more, drop_all}
use Rattle.indexmap.specs.IndexMap.{IndexMap}
use Rattle.jz_tree.specs.declared.expr.Expr.{Expr}
use Rattle.jz_tree.specs.declared.stmt.Stmt.{Stmt}
use Rattle.jz_runs.specs.Trees.{done, op, quiet, choose}
use Rattle.jz_meaning.specs.Statements.{Operation, Condition, Block}
use Rattle.jz_meaning.specs.Runs.{block, statement_tree}
use Rattle.jz_flow.specs.Sets.{Below, common}
use Rattle.jz_flow.specs.Flow.{After}
use Rattle.jz_flow.proofs.Ordering.{more}
use Rattle.jz_facts.specs.Facts.{Facts}
use Rattle.jz_facts.specs.Holding.{does, quieted}
use Rattle.jz_facts.specs.Tests.{tested}
use Rattle.jz_facts.specs.Along.{fact_steps}
use Rattle.jz_facts.proofs.MoreFacts.{monotone}
use Rattle.jz_layers.specs.declared.named.Named.{Named}
use Rattle.jz_fact_sets.specs.declared.given.Given as code
use Rattle.jz_fact_sets.specs.declared.knowledge.Knowledge.{Knowledge}
use Rattle.jz_fact_sets.specs.Kept.{AreDifferent, given_of}
use Rattle.jz_test_facts.specs.Comparing.{AreWords}
use Rattle.jz_block_facts.specs.Heads.{no_callees, HasNoFor, loops, AreHeads}
use Rattle.jz_block_facts.specs.Pieces.{answered}
use Rattle.jz_block_facts.specs.InnerWalks.{Place, IsFresh, AreSame, Covers, IsReady, Leads}
use Rattle.jz_block_facts.proofs.Splitting.{Splits, heads_at, same_heads, statement_splits}

at_index : (ss : List Stmt) (i : ℕ) (s : Stmt) → i < length ss → s ≡ get_or ss i s → drop i ss ≡ s ∷ drop (i + 1) ss
at_index ss i s lt is = drop_more ss i s lt ∙ ap (λ y. y ∷ drop (i + 1) ss) (sym is)

module _ {S : Type 0} (g : code.Given) where
  -- nothing more stands there behind a piece
  pub still_fresh : (piece : Block → Block) (p q : Place S) → Leads g piece p q → IsFresh p.next p.heads → IsFresh q.next q.heads
  still_fresh piece p q l f k h = let e = l.next in l.behind k h ∙ f k (omega (arith, h, e))

  pub nothing_leads : (p : Place S) → p.next ≤ length p.heads → Leads g (λ r. r) p p
  nothing_leads p w = record {
    next = omega arith;
    within = w;
    before = λ k h. refl;
    behind = λ k h. refl;
    after = λ r z h. h;
    heads = λ us e r h. h;
  }

  pub leads_as : (f h : Block → Block) (p q : Place S) → h ≡ f → Leads g f p q → Leads g h p q
  leads_as f h p q e l = subst (λ x. Leads g x p q) (sym e) l

  pub ready_as : (f h : Block → Block) (p : Place S) → f ≡ h → IsReady g f p → IsReady g h p
  ready_as f h p e l = subst (λ x. IsReady g x p) e l

  pub ready_from : (piece : Block → Block) (s t : Facts) (n : ℕ) (hs : List (IndexMap Named Knowledge S)) → s ≡ t
      → IsReady g piece (record { facts = s; next = n; heads = hs }) → IsReady g piece (record { facts = t; next = n; heads = hs })
  ready_from piece s t n hs e h = subst (λ x. IsReady g piece (record { facts = x; next = n; heads = hs })) e h

  pub leads_from : (piece : Block → Block) (s t u v : Facts) (m n : ℕ) (hs us : List (IndexMap Named Knowledge S)) → s ≡ t → u ≡ v
      → Leads g piece (record { facts = s; next = m; heads = hs }) (record { facts = u; next = n; heads = us })
      → Leads g piece (record { facts = t; next = m; heads = hs }) (record { facts = v; next = n; heads = us })
  leads_from piece s t u v m n hs us e f h =
      subst (λ x. Leads g piece (record { facts = t; next = m; heads = hs }) (record { facts = x; next = n; heads = us })) f
      (subst (λ x. Leads g piece (record { facts = x; next = m; heads = hs }) (record { facts = u; next = n; heads = us })) e h)

  module _ (piece rest : Block → Block) (splits : Splits S g piece) where
    pub first_ready : (p : Place S) → IsReady g (λ r. piece (rest r)) p → IsReady g piece p
    first_ready p h = record {
      different = h.different;
      words = h.words;
      plain = (splits.plain_on (rest done) h.plain).0;
      within = h.within;
      stored = by h.stored;
    }
      where
        by : Covers g (piece (rest done)) p → Covers g (piece done) p
        by (inl f) = inl f
        by (inr (x, l, k)) = inr (x, l, (splits.heads_on (rest done) p.next p.heads x k).0)

    pub next_ready : (p q : Place S) → IsReady g (λ r. piece (rest r)) p → Leads g piece p q → IsReady g rest q
    next_ready p q h l = record {
      different = h.different;
      words = h.words;
      plain = (splits.plain_on (rest done) h.plain).1;
      within = l.within;
      stored = by h.stored;
    }
      where
        by : Covers g (piece (rest done)) p → Covers g (rest done) q
        by (inl f) = inl (still_fresh piece p q l f)
        by (inr (x, w, k)) =
            let y = (splits.heads_on (rest done) p.next p.heads x k).1 in
            inr (
              y.0,
              more (fact_steps (given_of g)) (monotone (given_of g)) (piece done) p.facts x q.facts y.0 w (l.after done q.facts refl) y.1,
              same_heads g (rest done) q.next q.heads p.heads y.0 (λ i a b. l.behind i a) (heads_at g (rest done) (p.next + loops (piece done)) q.next p.heads y.0 (sym l.next) y.2),
            )

    pub both_lead : (p q z : Place S) → Leads g piece p q → Leads g rest q z → Leads g (λ r. piece (rest r)) p z
    both_lead p q z a b =
        let e = a.next in
        let f = b.next in
        let n = splits.loops_on (rest done) in
        record {
          next = omega (arith, e, f, n);
          within = b.within;
          before = λ k h. b.before k (omega (arith, h, e)) ∙ a.before k h;
          behind = λ k h. b.behind k h ∙ a.behind k (omega (arith, h, f));
          after = λ r u h. a.after (rest r) u (b.after r u h);
          heads = λ us s r h. a.heads us
              (λ k i j. s k i (omega (arith, j, f)) ∙ b.before k j) (rest r)
              (b.heads us (λ k i j. s k (omega (arith, i, e)) j) r h);
        }

  -- ---- statements in their order

  -- so far from a place to another one, the statements from an index on are left
  pub record IsOn (ss : List Stmt) (i : ℕ) (p q : Place S) : Type 0 where
    pub ready : IsReady g (block no_callees (drop i ss)) q
    pub leads : (z : Place S) → Leads g (block no_callees (drop i ss)) q z → Leads g (block no_callees ss) p z

  pub none_on : (ss : List Stmt) (p : Place S) → IsReady g (block no_callees ss) p → IsOn ss 0 p p
  none_on ss p h = record { ready = h; leads = λ z l. l }

  pub one_ready : (ss : List Stmt) (i : ℕ) (s : Stmt) (p q : Place S) → i < length ss → s ≡ get_or ss i s → IsOn ss i p q → IsReady g (statement_tree no_callees s) q
  one_ready ss i s p q lt is on =
      first_ready (statement_tree no_callees s) (block no_callees (drop (i + 1) ss)) (statement_splits S g s) q
      (subst (λ l. IsReady g (block no_callees l) q) (at_index ss i s lt is) on.ready)

  pub one_on : (ss : List Stmt) (i : ℕ) (s : Stmt) (p q z : Place S) → i < length ss → s ≡ get_or ss i s → IsOn ss i p q → Leads g (statement_tree no_callees s) q z → IsOn ss (i + 1) p z
  one_on ss i s p q z lt is on l = record {
    ready = next_ready (statement_tree no_callees s) (block no_callees (drop (i + 1) ss)) (statement_splits S g s) q z
        (subst (λ l. IsReady g (block no_callees l) q) (at_index ss i s lt is) on.ready) l;
    leads = λ u h. on.leads u (subst (λ x. Leads g (block no_callees x) q u) (sym (at_index ss i s lt is))
        (both_lead (statement_tree no_callees s) (block no_callees (drop (i + 1) ss)) (statement_splits S g s) q z u l h));
  }

  pub all_on : (ss : List Stmt) (i : ℕ) (p q : Place S) → length ss ≤ i → IsOn ss i p q → Leads g (block no_callees ss) p q
  all_on ss i p q le on = on.leads q (subst (λ x. Leads g (block no_callees x) q q) (sym (drop_all i ss le)) (nothing_leads q on.ready.within))

  pub first_place : (piece : Block → Block) (s : Facts) (hs : List (IndexMap Named Knowledge S)) → hs ≡ [] → AreDifferent g.params → AreWords g.constants → HasNoFor (piece done)
      → IsReady g piece (record { facts = s; next = 0; heads = hs })
  first_place piece s hs e d w n = record {
    different = d;
    words = w;
    plain = n;
    within = omega arith;
    stored = inl (λ k h. ap (λ us. slice_get us k) e);
  }

  -- ---- single statements

  pub op_leads : (o : Operation) (p : Place S) (x : Facts) → p.next ≤ length p.heads → x ≡ does (given_of g) o p.facts → Leads g (op o) p (record p { facts = x })
  op_leads o p x w e = record {
    next = omega arith;
    within = w;
    before = λ k h. refl;
    behind = λ k h. refl;
    after = λ r z h. subst (λ y. After (fact_steps (given_of g)) r y z) e h;
    heads = λ us s r h. subst (λ y. AreHeads g r p.next us y) e h;
  }

  pub quiet_leads : (o : Operation) (p : Place S) (x : Facts) → p.next ≤ length p.heads → x ≡ quieted o p.facts → Leads g (quiet o) p (record p { facts = x })
  quiet_leads o p x w e = record {
    next = omega arith;
    within = w;
    before = λ k h. refl;
    behind = λ k h. refl;
    after = λ r z h. subst (λ y. After (fact_steps (given_of g)) r y z) e h;
    heads = λ us s r h. subst (λ y. AreHeads g r p.next us y) e h;
  }

  -- ---- branches

  -- where an arm begins
  abbrev pub arm_at : Expr → Bool → Place S → Place S
  arm_at e z p = record p { facts = answered g e z p.facts }

  module _ (c : Condition) (holding other : Block → Block) (p : Place S) where
    pub yes_ready : IsReady g (choose c (holding done) (other done)) p → IsReady g holding (arm_at c.cond true p)
    yes_ready h = record {
      different = h.different;
      words = h.words;
      plain = h.plain.1;
      within = h.within;
      stored = by h.stored;
    }
      where
        by : Covers g (choose c (holding done) (other done) done) p → Covers g (holding done) (arm_at c.cond true p)
        by (inl f) = inl f
        by (inr (x, w, k)) = inr (tested (given_of g) c true x, (monotone (given_of g)).tests c true p.facts x w, k.2)

    pub no_ready : (q : Place S) → IsReady g (choose c (holding done) (other done)) p → Leads g holding (arm_at c.cond true p) q → IsReady g other (record q { facts = answered g c.cond false p.facts })
    no_ready q h l = record {
      different = h.different;
      words = h.words;
      plain = h.plain.2;
      within = l.within;
      stored = by h.stored;
    }
      where
        by : Covers g (choose c (holding done) (other done) done) p → Covers g (other done) (record q { facts = answered g c.cond false p.facts })
        by (inl f) = inl (still_fresh holding (arm_at c.cond true p) q l f)
        by (inr (x, w, k)) = inr (
          tested (given_of g) c false x,
          (monotone (given_of g)).tests c false p.facts x w,
          same_heads g (other done) q.next q.heads p.heads (tested (given_of g) c false x) (λ i a b. l.behind i a)
              (heads_at g (other done) (p.next + loops (holding done)) q.next p.heads (tested (given_of g) c false x) (sym l.next) k.3),
        )

    pub if_leads : (q z : Place S) (x : Facts) → Leads g holding (arm_at c.cond true p) q → Leads g other (record q { facts = answered g c.cond false p.facts }) z → x ≡ common q.facts z.facts
        → Leads g (choose c (holding done) (other done)) p (record z { facts = x })
    if_leads q z x a b e =
        let m = a.next in
        let n = b.next in
        record {
          next = omega (arith, m, n);
          within = b.within;
          before = λ k h. b.before k (omega (arith, h, m)) ∙ a.before k h;
          behind = λ k h. b.behind k h ∙ a.behind k (omega (arith, h, n));
          after = λ r u h. (q.facts, z.facts, a.after done q.facts refl, b.after done z.facts refl, subst (λ y. After (fact_steps (given_of g)) r y u) e h);
          heads = λ us s r h. (
            q.facts,
            z.facts,
            a.heads us (λ k i j. s k i (omega (arith, j, n)) ∙ b.before k j) done tt,
            heads_at g (other done) q.next (p.next + loops (holding done)) us (answered g c.cond false p.facts) m (b.heads us (λ k i j. s k (omega (arith, i, m)) j) done tt),
            a.after done q.facts refl,
            b.after done z.facts refl,
            heads_at g r z.next (p.next + loops (holding done) + loops (other done)) us (common q.facts z.facts) (omega (arith, m, n)) (subst (λ y. AreHeads g r z.next us y) e h),
          );
        }

  -- the arms of a branch, as the code walks them: what comes in is the same before each step
  pub arms_lead : (c : Condition) (holding other : Block → Block) (s t : Facts) (at m n : ℕ) (hs us vs : List (IndexMap Named Knowledge S)) (x y v : Facts) → t ≡ s
      → Leads g holding (record { facts = answered g c.cond true s; next = at; heads = hs }) (record { facts = x; next = m; heads = us })
      → Leads g other (record { facts = answered g c.cond false t; next = m; heads = us }) (record { facts = y; next = n; heads = vs })
      → v ≡ common x y
      → Leads g (choose c (holding done) (other done)) (record { facts = s; next = at; heads = hs }) (record { facts = v; next = n; heads = vs })
  arms_lead c holding other s t at m n hs us vs x y v e a b h =
      if_leads c holding other (record { facts = s; next = at; heads = hs }) (record { facts = x; next = m; heads = us }) (record { facts = y; next = n; heads = vs }) v a
      (subst (λ z. Leads g other (record { facts = answered g c.cond false z; next = m; heads = us }) (record { facts = y; next = n; heads = vs })) e b) h
