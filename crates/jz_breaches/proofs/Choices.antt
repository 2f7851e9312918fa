-- What two arms draw.
use Rattle.std.proofs.Common.{◌≡◌, ◌⊎◌, inl, inr, ◌<◌, ◌≤◌, ℕ, Bool, false, ◌&&◌, true, List, Option, refl, sym, ap, ◌∙◌, subst, arith}
use Rattle.jz_tree.specs.Span.{Span}
use Rattle.jz_tree.specs.declared.expr.Expr.{Expr}
use Rattle.jz_tree.specs.declared.stmt.Stmt.{Stmt}
use Rattle.jz_runs.specs.Trees.{done, choose}
use Rattle.jz_meaning.specs.States.{Key}
use Rattle.jz_meaning.specs.Runs.{block}
use Rattle.jz_terms.specs.Terms.{term_of}
use Rattle.jz_layers.specs.Spots.{Spot}
use Rattle.jz_layers.specs.Layered.{seen}
use Rattle.jz_required.specs.Readings.{Demand, test_demands}
use Rattle.jz_drawing.specs.Drawings.{View, next, asks_in, with_asked, IsBounded}
use Rattle.jz_drawing.specs.Draws.{Draws, Renews}
use Rattle.jz_drawing.proofs.Labellings.{asked_below_both, asks_below}
use Rattle.jz_drawn_bodies.proofs.Choosing.{choice_drawn}
use Rattle.jz_drawn_labels.specs.declared.drawing.Drawing.{Drawing}
use Rattle.jz_drawn_labels.specs.declared.table.Table.{Table}
use Rattle.jz_drawn_labels.specs.Kept.{view_of, view_with, nodes_of, nodes_by}
use Rattle.jz_drawn_labels.specs.Drew.{no_callees, IsDrawn, HasRisen, Drew}
use Rattle.jz_drawn_labels.proofs.Tables.{all_fall}
use Rattle.jz_drawn_labels.proofs.Lefts.{same_view}
use Rattle.jz_drawn_arms.specs.declared.arms.Arm.{Arm}
use Rattle.jz_drawn_heads.specs.Pieces.{condition_at}
use Rattle.jz_drawn_arms.specs.Meetings.{behind_arm, two, HasEnded, AreMet}
use Rattle.jz_breaches.specs.InnerLoops.{IsBack, ArmDrawn}
use Rattle.jz_breaches.proofs.LaidOver.{risen_from}

-- ---- a test

module _ (ds : List Demand) (d e : Drawing) (table : e.table ≡ d.table) (test : view_of e ≡ with_asked (asks_in (view_of d).nodes ds) (view_of d)) where
  pub same_next : next (view_of e) ≡ next (view_of d)
  same_next = ap (λ (v : View). next v) test

  pub tested_drawn : IsDrawn d → IsDrawn e
  tested_drawn b = record {
    low = subst (λ (n : ℕ). e.table.floor ≤ n) (sym same_next) (subst (λ (t : Table). t.floor ≤ next (view_of d)) (sym table) b.low);
    bounded =
        subst (λ (v : View). IsBounded v) (sym test) (record {
          nodes = b.bounded.nodes;
          arrows = b.bounded.arrows;
          asked =
              asked_below_both (next (view_of d)) (view_of d).asked (asks_in (view_of d).nodes ds) b.bounded.asked
              (asks_below (next (view_of d)) (view_of d).nodes b.bounded.nodes ds);
        });
  }

-- ---- an arm

pub nodes_back : (d e : Drawing) → IsBack d e → nodes_of e.table ≡ nodes_of d.table
nodes_back d e b = λ i. nodes_by (b.floor i) (b.seen_is i)

module _ (ss : List Stmt) (d : Drawing) (arm : Arm) (e : Drawing) (drawn : IsDrawn d) (a : ArmDrawn ss d arm e) where
  arm_longer : next (view_of d) ≤ next (view_of e)
  arm_longer = a.draws.longer

  pub arm_drawn : IsDrawn e
  arm_drawn = record { low = low_of; bounded = record { nodes = nodes_below; arrows = behind.arrows; asked = behind.asked } }
    where
      behind : IsBounded (view_with (behind_arm arm (seen d.table.layers)) e.sheet)
      behind = a.draws.bounded drawn.bounded

      low_of : e.table.floor ≤ next (view_of e)
      low_of =
          let f = a.back.floor in
          let l = arm_longer in
          let b : d.table.floor ≤ next (view_of d) = drawn.low in
          omega (arith, f, l, b)

      nodes_below : (k : Key) → nodes_of e.table k < next (view_of e)
      nodes_below k =
          let same : nodes_of e.table k ≡ nodes_of d.table k = ap (λ (f : Key → ℕ). f k) (nodes_back d e a.back) in
          let l = arm_longer in
          let b : nodes_of d.table k < next (view_of d) = drawn.bounded.nodes k in
          omega (arith, same, l, b)

-- where no path goes on no label before the arm stands
pub ended : (d e : Drawing) (x : Arm) → IsDrawn d → HasRisen d x.floor → seen e.table.layers ≡ seen d.table.layers → e.table.floor ≡ d.table.floor → HasEnded x e
ended d e x b (inl p) s f = inl (p ∙ sym f)
ended d e x b (inr l) s f = inr (λ k. ap (λ (g : Spot → Option ℕ). nodes_by x.floor g k) s ∙ all_fall d.table.floor x.floor (seen d.table.layers) (view_of d) refl b.bounded b.low l k)

-- ---- both

module _ (cond : Expr) (ss ts : List Stmt) (d e f g : Drawing) (first second : Arm) (drawn : IsDrawn d) (table : e.table ≡ d.table)
    (test : view_of e ≡ with_asked (asks_in (view_of d).nodes (test_demands (term_of cond))) (view_of d)) (one : ArmDrawn ss e first f) (other : ArmDrawn ts f second g) where
  pub begun_drawn : IsDrawn e
  begun_drawn = tested_drawn (test_demands (term_of cond)) d e table test drawn

  pub first_drawn : IsDrawn f
  first_drawn = arm_drawn ss e first f begun_drawn one

  pub second_drawn : IsDrawn g
  second_drawn = arm_drawn ts f second g first_drawn other

  seen_both : seen g.table.layers ≡ seen e.table.layers
  seen_both = other.back.seen_is ∙ one.back.seen_is

  pub first_ended : HasEnded first g
  first_ended = ended e g first begun_drawn one.risen seen_both (other.back.floor ∙ one.back.floor)

  pub second_ended : HasEnded second g
  second_ended = ended f g second first_drawn other.risen other.back.seen_is other.back.floor

  module _ (new : Drawing) (met : AreMet first second g new) (at : Span) where
    abbrev v : View
    v = view_of d

    abbrev va : View
    va = view_with (behind_arm first (seen e.table.layers)) f.sheet

    abbrev vb : View
    vb = view_with (behind_arm second (seen f.table.layers)) g.sheet

    abbrev S : Spot → Option ℕ
    S = seen g.table.layers

    nodes_first : nodes_of f.table ≡ nodes_of d.table
    nodes_first = nodes_back e f one.back ∙ ap (λ (t : Table). nodes_of t) table

    nodes_second : nodes_of g.table ≡ nodes_of d.table
    nodes_second = nodes_back f g other.back ∙ nodes_first

    draws_first : Draws (block no_callees ss) (with_asked (asks_in v.nodes (test_demands (term_of cond))) v) va
    draws_first = subst (λ (w : View). Draws (block no_callees ss) w va) test one.draws

    draws_second : Draws (block no_callees ts) (record { nodes = v.nodes; arrows = va.arrows; asked = va.asked }) vb
    draws_second =
        subst (λ (w : View). Draws (block no_callees ts) w vb) (same_view (view_of f) (record { nodes = v.nodes; arrows = va.arrows; asked = va.asked }) nodes_first refl refl) other.draws

    renews_so : Renews (two (behind_arm first (seen e.table.layers)) (behind_arm second (seen f.table.layers))) met.is_new (view_with met.base g.sheet) (view_of new)
    renews_so =
        subst (λ (p : Spot → Option ℕ). Renews (two (behind_arm first (seen e.table.layers)) (behind_arm second p)) met.is_new (view_with met.base g.sheet) (view_of new)) other.back.seen_is
        (subst (λ (p : Spot → Option ℕ). Renews (two (behind_arm first p) (behind_arm second S)) met.is_new (view_with met.base g.sheet) (view_of new)) seen_both met.renews)

    base_so : (k : Key) → (met.base k ≡ 0) ⊎ (met.base k ≡ v.nodes k)
    base_so k = by (met.base_is k)
      where
        by : (met.base k ≡ 0) ⊎ (met.base k ≡ nodes_of g.table k) → (met.base k ≡ 0) ⊎ (met.base k ≡ v.nodes k)
        by (inl h) = inl h
        by (inr h) = inr (h ∙ ap (λ (n : Key → ℕ). n k) nodes_second)

    else_so : (k : Key) → met.is_new k ≡ false → (t : ℕ → Bool) → t 0 ≡ true → t (met.base k) ≡ (t (va.nodes k) && t (vb.nodes k))
    else_so k h t z =
        met.else_is k h t z ∙ ap (λ (p : Spot → Option ℕ). t (behind_arm first p k) && t (behind_arm second S k)) seen_both
        ∙ ap (λ (p : Spot → Option ℕ). t (va.nodes k) && t (behind_arm second p k)) other.back.seen_is

    longer_so : next v ≤ next (view_of g)
    longer_so =
        let a = same_next (test_demands (term_of cond)) d e table test in
        let b : next (view_of e) ≤ next (view_of f) = one.draws.longer in
        let c : next (view_of f) ≤ next (view_of g) = other.draws.longer in
        omega (arith, a, b, c)

    pub choice_drew : Drew (choose (condition_at cond at) (block no_callees ss done) (block no_callees ts done)) d new
    choice_drew = record {
      low = met.low;
      below = met.below ∙ other.back.below ∙ one.back.below ∙ ap (λ (t : Table). t.layers.below.items) table;
      risen = risen_from d g new.table.floor longer_so (other.back.floor ∙ one.back.floor ∙ ap (λ (t : Table). t.floor) table) met.risen;
      draws = choice_drawn (condition_at cond at) (block no_callees ss) (block no_callees ts) v va vb (view_of new) met.base met.is_new draws_first draws_second renews_so base_so else_so;
    }
