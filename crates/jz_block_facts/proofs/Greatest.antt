-- The greatest kept set of a loop, reached from above.
use Rattle.std.proofs.Common.{◌≡◌, true, refl, sym, ap, ◌∙◌, subst}
use Rattle.jz_runs.specs.Trees.{Tree}
use Rattle.jz_meaning.specs.Statements.{Condition, Block}
use Rattle.jz_flow.specs.Sets.{Below, common}
use Rattle.jz_flow.specs.Flow.{Kept, IsHead, After, OneTurn}
use Rattle.jz_flow.proofs.Ordering.{below_self, below_trans, common_left, common_right, common_greatest, more}
use Rattle.jz_facts.specs.Facts.{Facts, Given}
use Rattle.jz_facts.specs.Along.{fact_steps}
use Rattle.jz_facts.proofs.MoreFacts.{monotone}

module _ (g : Given) (p : Block) (c : Condition) (b : Block) where
  abbrev pub TurnOf : Facts → Facts → Type 0
  TurnOf = OneTurn (fact_steps g) p c b

  -- of more facts at the head there are more behind the turn
  turn_more : (s t s' t' : Facts) → Below s t → TurnOf s s' → TurnOf t t' → Below s' t'
  turn_more s t s' t' h (x, px, bx) (y, py, by) =
      more (fact_steps g) (monotone g) b _ _ s' t' ((monotone g).tests c true x y (more (fact_steps g) (monotone g) p s t x y h px py)) bx by

  -- part of what comes in, and each kept set is part of it
  pub record Above (s h : Facts) : Type 0 where
    pub within : Below h s
    pub all : (x : Facts) → Kept TurnOf s x → Below x h

  pub begun : (s : Facts) → Above s s
  begun s = record { within = below_self s; all = λ x k. k.0 }

  -- what holds behind a turn too
  pub lowered : (s h y : Facts) → Above s h → TurnOf h y → Above s (common h y)
  lowered s h y a t = record {
    within = below_trans (common h y) h s (common_left h y) a.within;
    all = λ x k. common_greatest x h y (a.all x k) (below_trans x k.1 y k.3 (turn_more x h k.1 y (a.all x k) k.2 t));
  }

  -- a turn takes nothing away
  pub reached : (s h y : Facts) → Above s h → TurnOf h y → common h y ≡ h → IsHead TurnOf s h
  reached s h y a t e = ((a.within, y, t, subst (λ x. Below x y) e (common_right h y)), a.all)

  -- a loop that is met again with fewer facts goes on from its head
  pub again : (s x h : Facts) → Below s x → IsHead TurnOf x h → Above s (common s h)
  again s x h l k = record {
    within = common_left s h;
    all = λ y q. common_greatest y s h q.0 (k.1 y (below_trans y s x q.0 l, q.1, q.2, q.3));
  }
