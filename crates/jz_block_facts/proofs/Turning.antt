-- The turns of a loop, from its begin to its end.
use Rattle.std.proofs.Common.{◌≡◌, ◌⊎◌, inl, inr, ℕ, zero, suc, ◌+◌, ◌<◌, ◌≤◌, Bool, true, false, List, [], ◌∷◌, ◌++◌, length, Option, None, Some, refl, sym, ap, ◌∙◌, subst, arith}
use Rattle.std.specs.Prelude.{slice_get, slice_set, not, is_some, MatchOption, IsSomeAnd}
use Rattle.indexmap.specs.IndexMap.{IndexMap}
use Rattle.jz_runs.specs.Trees.{done, op, quiet, choose, loop, each, call}
use Rattle.jz_meaning.specs.Statements.{Condition, Block}
use Rattle.jz_flow.specs.Sets.{Below, common}
use Rattle.jz_flow.specs.Flow.{IsHead, After, OneTurn}
use Rattle.jz_flow.proofs.Ordering.{more, below_trans, common_left, common_right}
use Rattle.jz_facts.specs.Facts.{Facts}
use Rattle.jz_facts.specs.Tests.{tested, leaves}
use Rattle.jz_facts.specs.Along.{fact_steps}
use Rattle.jz_facts.proofs.MoreFacts.{monotone}
use Rattle.jz_layers.specs.declared.named.Named.{Named}
use Rattle.jz_fact_sets.specs.declared.given.Given as code
use Rattle.jz_fact_sets.specs.declared.knowledge.Knowledge.{Knowledge}
use Rattle.jz_fact_sets.specs.Kept.{AreDifferent, given_of}
use Rattle.jz_block_facts.specs.declared.looping.Loop.{Loop}
use Rattle.jz_block_facts.specs.Heads.{HasNoFor, loops, laid, AreHeads, IsLoop, IsHeadOf}
use Rattle.jz_block_facts.specs.Pieces.{answered}
use Rattle.jz_block_facts.specs.InnerWalks.{condition_of, prologue_piece, turn_piece, loop_piece, Place, IsFresh, AreSame, Covers, IsReady, Leads, IsTurnReady, Turns}
use Rattle.jz_block_facts.proofs.LaidFacts.{warmed}
use Rattle.jz_block_facts.proofs.Splitting.{heads_at, same_heads}
use Rattle.jz_block_facts.proofs.Greatest.{Above, begun, lowered, reached, again}
use Rattle.jz_block_facts.proofs.Leading.{still_fresh}

-- ---- lists

get_set_same : {A : Type 0} (xs : List A) (i : ℕ) (x : A) → i < length xs → slice_get (slice_set xs i x) i ≡ Some x
get_set_same [] i x l = absurd (omega (arith, l))
get_set_same (y ∷ ys) zero x l = refl
get_set_same (y ∷ ys) (suc i) x l = let m : i < length ys = omega (arith, l) in get_set_same ys i x m

get_set_other : {A : Type 0} (xs : List A) (i k : ℕ) (x : A) → (k ≡ i → ⊥) → slice_get (slice_set xs i x) k ≡ slice_get xs k
get_set_other [] i k x d = refl
get_set_other (y ∷ ys) zero zero x d = absurd (d refl)
get_set_other (y ∷ ys) zero (suc k) x d = refl
get_set_other (y ∷ ys) (suc i) zero x d = refl
get_set_other (y ∷ ys) (suc i) (suc k) x d = get_set_other ys i k x (λ e. d (ap suc e))

length_set : {A : Type 0} (xs : List A) (i : ℕ) (x : A) → length (slice_set xs i x) ≡ length xs
length_set [] i x = refl
length_set (y ∷ ys) zero x = refl
length_set (y ∷ ys) (suc i) x = ap suc (length_set ys i x)

pub never_empty : {A : Type 0} (xs : List A) (x : A) (ys : List A) → ys ≡ xs ++ x ∷ [] → ys ≡ [] → ⊥
never_empty [] x ys e h = let q = sym e ∙ h in absurd (cc q)
never_empty (y ∷ xs) x ys e h = let q = sym e ∙ h in absurd (cc q)

pub each_way : {A : Type 0} (P X : Type 0) (Q Y : A → Type 0) (o : Option A) → (P → X) → ((a : A) → Q a → Y a) → MatchOption o P Q → MatchOption o X Y
each_way P X Q Y None f h m = f m
each_way P X Q Y (Some a) f h m = h a m

module _ (g : code.Given) (l : Loop) where
  abbrev pub AboveIn : Facts → Facts → Type 0
  AboveIn = Above (given_of g) (prologue_piece l done) (condition_of l) (turn_piece l done)

module _ {S : Type 0} (g : code.Given) (l : Loop) where
  -- the head of a loop that comes in at one place is sought from another one
  pub record Heading (p now : Place S) : Type 0 where
    pub above : AboveIn g l p.facts now.facts
    pub ready : IsTurnReady g l now
    pub inner : now.next ≡ suc p.next
    pub within : p.next < length now.heads
    pub before : (k : ℕ) → k < p.next → slice_get now.heads k ≡ slice_get p.heads k
    pub behind :
        (k : ℕ) → suc (p.next + (loops (prologue_piece l done) + loops (turn_piece l done))) ≤ k
        → slice_get now.heads k ≡ slice_get p.heads k

  module _ (p now : Place S) (ready : IsReady g (loop_piece l) p) (inner : now.next ≡ suc p.next) (within : p.next < length now.heads)
      (others : (k : ℕ) → (k ≡ p.next → ⊥) → slice_get now.heads k ≡ slice_get p.heads k) where
    begun_with : AboveIn g l p.facts now.facts
        → (IsFresh now.next now.heads
        ⊎ ((x : Facts) × (y : Facts) × Below now.facts x
        × AreHeads g (prologue_piece l done) now.next now.heads x
        × After (fact_steps (given_of g)) (prologue_piece l done) x y
        × AreHeads g (turn_piece l done) (now.next + loops (prologue_piece l done)) now.heads (answered g l.cond.now true y)))
        → Heading p now
    begun_with a s = record {
      above = a;
      ready = record {
        different = ready.different;
        words = ready.words;
        prologue = ready.plain.1;
        body = ready.plain.2;
        within = omega (arith, inner, within);
        stored = s;
      };
      inner = inner;
      within = within;
      before = λ k h. others k (λ e. omega (arith, e, h));
      behind = λ k h. others k (λ e. omega (arith, e, h));
    }

    begins_fresh : IsFresh p.next p.heads → now.facts ≡ p.facts → Heading p now
    begins_fresh f e =
        begun_with (subst (AboveIn g l p.facts) (sym e) (begun (given_of g) (prologue_piece l done) (condition_of l) (turn_piece l done) p.facts))
        (inl (λ k h. others k (λ q. omega (arith, q, h, inner)) ∙ f k (omega (arith, h, inner))))

    begins_again : (m : IndexMap Named Knowledge S) (x y : Facts) → Below p.facts x → now.facts ≡ common p.facts (laid g m p.facts)
        → IsHead (OneTurn (fact_steps (given_of g)) (prologue_piece l done) (condition_of l) (turn_piece l done)) x (laid g m x)
        → AreHeads g (prologue_piece l done) (suc p.next) p.heads (laid g m x)
        → After (fact_steps (given_of g)) (prologue_piece l done) (laid g m x) y
        → AreHeads g (turn_piece l done) (suc p.next + loops (prologue_piece l done)) p.heads (answered g l.cond.now true y)
        → Heading p now
    begins_again m x y w e k hp a hb =
        let f = e ∙ warmed g m p.facts x w in
        begun_with (subst (AboveIn g l p.facts) (sym f) (again (given_of g) (prologue_piece l done) (condition_of l) (turn_piece l done) p.facts x (laid g m x) w k))
        (inr (
          laid g m x,
          y,
          subst (λ s. Below s (laid g m x)) (sym f) (common_right p.facts (laid g m x)),
          same_heads g (prologue_piece l done) now.next now.heads p.heads (laid g m x) (λ i b c. others i (λ q. omega (arith, q, b, inner)))
              (heads_at g (prologue_piece l done) (suc p.next) now.next p.heads (laid g m x) (sym inner) hp),
          a,
          same_heads g (turn_piece l done) (now.next + loops (prologue_piece l done)) now.heads p.heads (answered g l.cond.now true y) (λ i b c. others i (λ q. omega (arith, q, b, inner)))
              (heads_at g (turn_piece l done) (suc p.next + loops (prologue_piece l done)) (now.next + loops (prologue_piece l done)) p.heads (answered g l.cond.now true y)
              (ap (λ n. n + loops (prologue_piece l done)) (sym inner)) hb),
        ))

    -- what was there before is narrowed by what is stored
    pub begins : MatchOption (slice_get p.heads p.next) (now.facts ≡ p.facts) (λ m. now.facts ≡ common p.facts (laid g m p.facts)) → Heading p now
    begins h = by ready.stored
      where
        fresh : (o : Option (IndexMap Named Knowledge S)) → o ≡ None → MatchOption o (now.facts ≡ p.facts) (λ m. now.facts ≡ common p.facts (laid g m p.facts)) → now.facts ≡ p.facts
        fresh None e q = q
        fresh (Some m) e q = absurd (cc e)

        stored : (o : Option (IndexMap Named Knowledge S)) (m : IndexMap Named Knowledge S) → o ≡ Some m → MatchOption o (now.facts ≡ p.facts) (λ m. now.facts ≡ common p.facts (laid g m p.facts)) → now.facts ≡ common p.facts (laid g m p.facts)
        stored o m e q = subst (λ x. MatchOption x (now.facts ≡ p.facts) (λ m. now.facts ≡ common p.facts (laid g m p.facts))) e q

        by : Covers g (loop_piece l done) p → Heading p now
        by (inl f) = begins_fresh f (fresh (slice_get p.heads p.next) (f p.next (omega arith)) h)
        by (inr (x, w, (m, y, is, k, hp, a, hb, hr))) = begins_again m x y w (stored (slice_get p.heads p.next) m is h) k hp a hb

  -- ---- what a turn needs

  pub prologue_ready : (p : Place S) → IsTurnReady g l p → IsReady g (prologue_piece l) p
  prologue_ready p h = record {
    different = h.different;
    words = h.words;
    plain = h.prologue;
    within = h.within;
    stored = by h.stored;
  }
    where
      by : (IsFresh p.next p.heads
          ⊎ ((x : Facts) × (y : Facts) × Below p.facts x
          × AreHeads g (prologue_piece l done) p.next p.heads x
          × After (fact_steps (given_of g)) (prologue_piece l done) x y
          × AreHeads g (turn_piece l done) (p.next + loops (prologue_piece l done)) p.heads (answered g l.cond.now true y)))
          → Covers g (prologue_piece l done) p
      by (inl f) = inl f
      by (inr (x, y, w, hp, a, hb)) = inr (x, w, hp)

  pub rest_ready : (p q : Place S) → IsTurnReady g l p → Leads g (prologue_piece l) p q → IsReady g (turn_piece l) (record { facts = answered g l.cond.now true q.facts; next = q.next; heads = q.heads })
  rest_ready p q h k = record {
    different = h.different;
    words = h.words;
    plain = h.body;
    within = k.within;
    stored = by h.stored;
  }
    where
      by : (IsFresh p.next p.heads
          ⊎ ((x : Facts) × (y : Facts) × Below p.facts x
          × AreHeads g (prologue_piece l done) p.next p.heads x
          × After (fact_steps (given_of g)) (prologue_piece l done) x y
          × AreHeads g (turn_piece l done) (p.next + loops (prologue_piece l done)) p.heads (answered g l.cond.now true y)))
          → Covers g (turn_piece l done) (record { facts = answered g l.cond.now true q.facts; next = q.next; heads = q.heads })
      by (inl f) = inl (still_fresh g (prologue_piece l) p q k f)
      by (inr (x, y, w, hp, a, hb)) = inr (
        answered g l.cond.now true y,
        (monotone (given_of g)).tests (condition_of l) true q.facts y
            (more (fact_steps (given_of g)) (monotone (given_of g)) (prologue_piece l done) p.facts x q.facts y w (k.after done q.facts refl) a),
        same_heads g (turn_piece l done) q.next q.heads p.heads (answered g l.cond.now true y) (λ i b c. k.behind i b)
            (heads_at g (turn_piece l done) (p.next + loops (prologue_piece l done)) q.next p.heads (answered g l.cond.now true y) (sym k.next) hb),
      )

  -- ---- a turn

  one_turn : (now : Place S) (q : Facts) (z : Place S) → Turns g l now q z → OneTurn (fact_steps (given_of g)) (prologue_piece l done) (condition_of l) (turn_piece l done) now.facts z.facts
  one_turn now q z t = (q, t.prologue.after done q refl, t.body.after done z.facts refl)

  pub still_there : (p now : Place S) (q : Facts) (z : Place S) → Heading p now → Turns g l now q z → p.next < length z.heads
  still_there p now q z h t = let a = t.prologue.next in let b = t.body.next in let i = h.inner in let v = t.body.within in omega (arith, a, b, i, v)

  pub turned : (p now : Place S) (q : Facts) (z : Place S) (x : Facts) → Heading p now → Turns g l now q z → x ≡ common now.facts z.facts → Heading p (record { facts = x; next = now.next; heads = z.heads })
  turned p now q z x h t e =
      let m = t.prologue.next in
      let n = t.body.next in
      let i = h.inner in
      let w = h.within in
      record {
        above = subst (AboveIn g l p.facts) (sym e) (lowered (given_of g) (prologue_piece l done) (condition_of l) (turn_piece l done) p.facts now.facts z.facts h.above (one_turn now q z t));
        ready = record {
          different = h.ready.different;
          words = h.ready.words;
          prologue = h.ready.prologue;
          body = h.ready.body;
          within = let v = t.body.within in omega (arith, m, n, v);
          stored = inr (
            now.facts,
            q,
            subst (λ s. Below s now.facts) (sym e) (common_left now.facts z.facts),
            t.prologue.heads z.heads (λ k a b. t.body.before k b) done tt,
            t.prologue.after done q refl,
            heads_at g (turn_piece l done) t.next (now.next + loops (prologue_piece l done)) z.heads (answered g l.cond.now true q) m (t.body.heads z.heads (λ k a b. refl) done tt),
          );
        };
        inner = i;
        within = let v = t.body.within in omega (arith, m, n, v, i);
        before = λ k b. t.body.before k (omega (arith, b, i, m)) ∙ t.prologue.before k (omega (arith, b, i)) ∙ h.before k b;
        behind = λ k b. t.body.behind k (omega (arith, b, i, m, n)) ∙ t.prologue.behind k (omega (arith, b, i, m)) ∙ h.behind k b;
      }

  -- ---- the end

  module _ (p now : Place S) (q : Facts) (z : Place S) (m : IndexMap Named Knowledge S) (hs : List (IndexMap Named Knowledge S)) (x : Facts) where
    pub ends : Heading p now → Turns g l now q z → common now.facts z.facts ≡ now.facts → now.facts ≡ laid g m p.facts → hs ≡ slice_set z.heads p.next m
        → x ≡ leaves (given_of g) (condition_of l) now.facts q → Leads g (loop_piece l) p (record { facts = x; next = z.next; heads = hs })
    ends h t fix over set out =
        let a = t.prologue.next in
        let b = t.body.next in
        let i = h.inner in
        let v = t.body.within in
        let w = h.within in
        let there : p.next < length z.heads = omega (arith, a, b, i, v) in
        let s = ap length set ∙ length_set z.heads p.next m in
        let head = reached (given_of g) (prologue_piece l done) (condition_of l) (turn_piece l done) p.facts now.facts z.facts h.above (one_turn now q z t) fix in
        record {
          next = omega (arith, a, b, i);
          within = omega (arith, s, v);
          before = λ k c. ap (λ us. slice_get us k) set ∙ get_set_other z.heads p.next k m (λ e. omega (arith, e, c))
              ∙ t.body.before k (omega (arith, c, i, a)) ∙ t.prologue.before k (omega (arith, c, i)) ∙ h.before k c;
          behind = λ k c. ap (λ us. slice_get us k) set ∙ get_set_other z.heads p.next k m (λ e. omega (arith, e, c, a, b, i))
              ∙ t.body.behind k c ∙ t.prologue.behind k (omega (arith, c, b)) ∙ h.behind k (omega (arith, c, a, b, i));
          after = λ r u f. (now.facts, q, head, t.prologue.after done q refl, subst (λ y. After (fact_steps (given_of g)) r y u) out f);
          heads = λ us same r f.
              let on : (k : ℕ) → suc p.next ≤ k → k < z.next → slice_get us k ≡ slice_get z.heads k =
              λ k c d. same k (omega (arith, c)) d ∙ ap (λ vs. slice_get vs k) set ∙ get_set_other z.heads p.next k m (λ e. omega (arith, e, c)) in (
                m,
                q,
                same p.next (omega arith) (omega (arith, a, b, i)) ∙ ap (λ vs. slice_get vs p.next) set ∙ get_set_same z.heads p.next m there,
                subst (IsHead (OneTurn (fact_steps (given_of g)) (prologue_piece l done) (condition_of l) (turn_piece l done)) p.facts) over head,
                subst (AreHeads g (prologue_piece l done) (suc p.next) us) over
                    (heads_at g (prologue_piece l done) now.next (suc p.next) us now.facts i
                    (t.prologue.heads us (λ k c d. on k (omega (arith, c, i)) (omega (arith, d, b)) ∙ t.body.before k d) done tt)),
                subst (λ y. After (fact_steps (given_of g)) (prologue_piece l done) y q) over (t.prologue.after done q refl),
                heads_at g (turn_piece l done) t.next (suc p.next + loops (prologue_piece l done)) us (answered g l.cond.now true q) (a ∙ ap (λ n. n + loops (prologue_piece l done)) i)
                    (t.body.heads us (λ k c d. on k (omega (arith, c, a, i)) d) done tt),
                heads_at g r z.next (suc p.next + loops (prologue_piece l done) + loops (turn_piece l done)) us (leaves (given_of g) (condition_of l) (laid g m p.facts) q) (omega (arith, a, b, i))
                    (subst (λ y. AreHeads g r z.next us y) (out ∙ ap (λ y. leaves (given_of g) (condition_of l) y q) over) f),
              );
        }

-- ---- one loop

pub first_head : {S : Type 0} (g : code.Given) (t : Block) (hs : List (IndexMap Named Knowledge S)) (s : Facts) → IsLoop t → AreHeads g t 0 hs s
    → (m : IndexMap Named Knowledge S) × (slice_get hs 0 ≡ Some m) × IsHeadOf g t s (laid g m s)
first_head g done hs s l h = absurd l
first_head g (op o r) hs s l h = absurd l
first_head g (quiet o r) hs s l h = absurd l
first_head g (choose c a b r) hs s l h = absurd l
first_head g (loop w p c b r) hs s l h = (h.0, h.2, h.3)
first_head g (each f b r) hs s l h = absurd l
first_head g (call c b r) hs s l h = absurd l

-- ---- a list with one item more

pub get_push : {A : Type 0} (xs : List A) (x : A) (k : ℕ) → (k ≡ length xs → ⊥) → slice_get (xs ++ x ∷ []) k ≡ slice_get xs k
get_push [] x zero d = absurd (d refl)
get_push [] x (suc k) d = refl
get_push (y ∷ xs) x zero d = refl
get_push (y ∷ xs) x (suc k) d = get_push xs x k (λ e. d (ap suc e))

pub some_and : {A : Type 0} (o : Option A) (P : Type 0) (Q R : A → Type 0) → ((a : A) → R a → Q a) → IsSomeAnd o R → MatchOption o P Q
some_and None P Q R f h = absurd h
some_and (Some a) P Q R f h = f a h

pub none_match : {A : Type 0} (o : Option A) (P : Type 0) (Q : A → Type 0) → o ≡ None → P → MatchOption o P Q
none_match None P Q e p = p
none_match (Some a) P Q e p = absurd (cc e)
