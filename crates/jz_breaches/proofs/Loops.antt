-- What a loop draws.
use Rattle.std.proofs.Common.{◌≡◌, ◌⊎◌, inl, inr, ◌≤◌, ℕ, suc, ◌+◌, Bool, true, false, List, ◌++◌, length, Option, if◌then◌else◌, refl, sym, ap, ◌∙◌, subst, arith, length-append}
use Rattle.jz_tree.specs.Span.{Span}
use Rattle.jz_tree.specs.declared.expr.Expr.{Expr}
use Rattle.jz_tree.specs.declared.stmt.Stmt.{Stmt}
use Rattle.jz_runs.specs.Trees.{done, loop}
use Rattle.jz_meaning.specs.States.{Key}
use Rattle.jz_meaning.specs.Runs.{block}
use Rattle.jz_terms.specs.Terms.{Term, num, truth, var, cell, load, neg, inv, cast, bin, term_of}
use Rattle.jz_labels.specs.Labels.{Publics, leaving}
use Rattle.jz_layers.specs.Spots.{Spot}
use Rattle.jz_layers.specs.Layered.{seen}
use Rattle.jz_required.specs.Readings.{test_demands}
use Rattle.jz_drawing.specs.Drawings.{View, next, asks_in, with_asked, sets, labels_of}
use Rattle.jz_drawing.specs.Draws.{Draws, ComesBack}
use Rattle.jz_drawn_bodies.proofs.Looping.{loop_drawn}
use Rattle.jz_drawn_labels.specs.declared.drawing.Drawing.{Drawing}
use Rattle.jz_drawn_labels.specs.declared.table.Table.{Table}
use Rattle.jz_drawn_labels.specs.Kept.{view_of, nodes_of, nodes_by, IsLow}
use Rattle.jz_drawn_labels.specs.Drew.{no_callees, IsDrawn, HasRisen, Drew}
use Rattle.jz_drawn_labels.proofs.Tables.{all_fall}
use Rattle.jz_drawn_labels.proofs.Lefts.{same_view}
use Rattle.jz_drawn_labels.proofs.Sheets.{arrows_long}
use Rattle.jz_drawn_heads.specs.declared.heads.Head.{Head}
use Rattle.jz_drawn_heads.specs.Pieces.{condition_at, turn_piece, Covers, back_arrows, HasHeads}
use Rattle.jz_breaches.specs.InnerLoops.{is_truth, TurnDrawn}
use Rattle.jz_drawn_heads.proofs.LoopHeads.{comes_back}
use Rattle.jz_breaches.proofs.LaidOver.{risen_from}
use Rattle.jz_breaches.proofs.Blocks.{drew_drawn}
use Rattle.jz_breaches.proofs.Choices.{same_next, tested_drawn, nodes_back}

leaves_none : (x : Term) (s : Publics) (k : Key) → is_truth x ≡ true → leaving x s k ≡ true
leaves_none (num i at) s k e = absurd (cc e)
leaves_none (truth true at) s k e = refl
leaves_none (truth false at) s k e = absurd (cc e)
leaves_none (var x) s k e = absurd (cc e)
leaves_none (cell x i) s k e = absurd (cc e)
leaves_none (load p a) s k e = absurd (cc e)
leaves_none (neg a at) s k e = absurd (cc e)
leaves_none (inv a at) s k e = absurd (cc e)
leaves_none (cast z sign a at) s k e = absurd (cc e)
leaves_none (bin op a b at) s k e = absurd (cc e)

leaves_all : (x : Term) (s : Publics) (k : Key) → is_truth x ≡ false → leaving x s k ≡ s k
leaves_all (num i at) s k e = refl
leaves_all (truth true at) s k e = absurd (cc e)
leaves_all (truth false at) s k e = refl
leaves_all (var x) s k e = refl
leaves_all (cell x i) s k e = refl
leaves_all (load p a) s k e = refl
leaves_all (neg a at) s k e = refl
leaves_all (inv a at) s k e = refl
leaves_all (cast z sign a at) s k e = refl
leaves_all (bin op a b at) s k e = refl

pub floor_at : (cond : Expr) (h : Drawing) (floor n : ℕ) → n ≡ suc (length h.sheet.edges.items) → floor ≡ (if is_truth (term_of cond) then n else h.table.floor) → floor ≡ (if is_truth (term_of cond) then next (view_of h) else h.table.floor)
floor_at cond h floor n e f = f ∙ ap (λ (m : ℕ). if is_truth (term_of cond) then m else h.table.floor) (e ∙ ap suc (sym (arrows_long h.sheet.edges.items)))

module _ (ks : List Key) (hs : List Head) (d e : Drawing) (drawn : IsDrawn d) (heads : HasHeads ks d e hs) where
  pub heads_drawn : IsDrawn e
  heads_drawn = record { low = heads.low; bounded = heads.splits.renews.bounded (λ k. (drawn.bounded.nodes k, tt)) drawn.bounded }

  module _ (ss : List Stmt) (cond : Expr) (t : Option (List Stmt)) (f g h : Drawing) (prologue : Drew (block no_callees ss) e f) (table : g.table ≡ f.table)
      (test : view_of g ≡ with_asked (asks_in (view_of f).nodes (test_demands (term_of cond))) (view_of f)) where
    pub behind_drawn : IsDrawn f
    behind_drawn = drew_drawn (block no_callees ss) e f heads_drawn prologue

    pub turn_begun : IsDrawn g
    turn_begun = tested_drawn (test_demands (term_of cond)) f g table test behind_drawn

    module _ (turn : TurnDrawn t hs g h) (cover_first : Covers (block no_callees ss) ks) (cover_turn : Covers (turn_piece t) ks) (floor : ℕ) (floor_is : floor ≡ (if is_truth (term_of cond) then next (view_of h) else h.table.floor)) (bare : Bool) (at : Span) where
      abbrev new : Drawing
      new = record h { table = record h.table { floor = floor } }

      abbrev out : Key → ℕ
      out = nodes_by floor (seen h.table.layers)

      abbrev ve : View
      ve = record { nodes = turn.end.nodes; arrows = (view_of h).arrows; asked = (view_of h).asked }

      turn_longer : next (view_of g) ≤ next (view_of h)
      turn_longer =
          let a : next (view_of g) ≤ next turn.end = turn.draws.longer in
          let l : length (view_of h).arrows ≡ length turn.end.arrows + length (back_arrows turn.end.nodes hs) = ap length turn.arrows ∙ length-append turn.end.arrows (back_arrows turn.end.nodes hs) in
          omega (arith, a, l)

      all_longer : next (view_of d) ≤ next (view_of h)
      all_longer =
          let a : next (view_of d) ≤ next (view_of e) = heads.splits.renews.longer in
          let b : next (view_of e) ≤ next (view_of f) = prologue.draws.longer in
          let c = same_next (test_demands (term_of cond)) f g table test in
          let l = turn_longer in
          omega (arith, a, b, c, l)

      floor_behind : h.table.floor ≡ f.table.floor
      floor_behind = turn.back.floor ∙ ap (λ (x : Table). x.floor) table

      -- the labels behind the loop, by whether a path goes on
      abbrev NoneGoes : Type 0
      NoneGoes = (is_truth (term_of cond) ≡ true) × (floor ≡ next (view_of h)) × ((k : Key) → out k ≡ 0)

      abbrev OneGoes : Type 0
      OneGoes = (is_truth (term_of cond) ≡ false) × (floor ≡ f.table.floor) × ((k : Key) → out k ≡ nodes_of f.table k)

      how : NoneGoes ⊎ OneGoes
      how = by (is_truth (term_of cond)) refl floor_is
        where
          fallen : floor ≡ next (view_of h) → (k : Key) → out k ≡ 0
          fallen p k =
              ap (λ (q : Spot → Option ℕ). nodes_by floor q k) turn.back.seen_is
              ∙ all_fall g.table.floor floor (seen g.table.layers) (view_of g) refl turn_begun.bounded turn_begun.low (let l = turn_longer in omega (arith, l, p)) k

          kept : floor ≡ h.table.floor → (k : Key) → out k ≡ nodes_of f.table k
          kept p k = ap (λ (n : ℕ). nodes_by n (seen h.table.layers) k) p ∙ ap (λ (q : Key → ℕ). q k) (nodes_back g h turn.back ∙ ap (λ (x : Table). nodes_of x) table)

          by : (c : Bool) → is_truth (term_of cond) ≡ c → floor ≡ (if c then next (view_of h) else h.table.floor) → NoneGoes ⊎ OneGoes
          by true p q = inl (p, q, fallen q)
          by false p q = inr (p, q ∙ floor_behind, kept q)

      out_is : (k : Key) → (out k ≡ 0) ⊎ (out k ≡ nodes_of f.table k)
      out_is k = by how
        where
          by : NoneGoes ⊎ OneGoes → (out k ≡ 0) ⊎ (out k ≡ nodes_of f.table k)
          by (inl p) = inl (p.2 k)
          by (inr p) = inr (p.2 k)

      leaves_so : (u : ℕ → Bool) → u 0 ≡ true → (k : Key) → u (out k) ≡ leaving (term_of cond) (labels_of u (view_of f).nodes) k
      leaves_so u z k = by how
        where
          by : NoneGoes ⊎ OneGoes → u (out k) ≡ leaving (term_of cond) (labels_of u (view_of f).nodes) k
          by (inl p) = ap u (p.2 k) ∙ z ∙ sym (leaves_none (term_of cond) (labels_of u (view_of f).nodes) k p.0)
          by (inr p) = ap u (p.2 k) ∙ sym (leaves_all (term_of cond) (labels_of u (view_of f).nodes) k p.0)

      low_so : IsLow new
      low_so = by how
        where
          by : NoneGoes ⊎ OneGoes → floor ≤ next (view_of h)
          by (inl p) = let q = p.1 in omega (arith, q)
          by (inr p) =
              let q = p.1 in
              let a : f.table.floor ≤ next (view_of f) = prologue.low in
              let c = same_next (test_demands (term_of cond)) f g table test in
              let l = turn_longer in
              omega (arith, q, a, c, l)

      risen_so : HasRisen d floor
      risen_so = by how
        where
          by : NoneGoes ⊎ OneGoes → HasRisen d floor
          by (inl p) = let q = p.1 in let l = all_longer in inr (omega (arith, l, q))
          by (inr p) = subst (λ (n : ℕ). HasRisen d n) (sym p.1) (risen_from d e f.table.floor heads.splits.renews.longer heads.floor prologue.risen)

      covers_so : (k : Key) → heads.splits.is_new k ≡ false → (sets k (block no_callees ss done) ≡ false) × (sets k (turn_piece t done) ≡ false)
      covers_so k p = let q = heads.all k (sym (heads.splits.heads k) ∙ p) in (cover_first done k refl q, cover_turn done k refl q)

      draws_turn : Draws (turn_piece t) (with_asked (asks_in (view_of f).nodes (test_demands (term_of cond))) (view_of f)) turn.end
      draws_turn = subst (λ (w : View). Draws (turn_piece t) w turn.end) test turn.draws

      back_so : ComesBack (view_of e).nodes turn.end.nodes heads.splits.is_new turn.end ve
      back_so =
          comes_back (view_of e).nodes heads.splits.is_new turn.end ve hs heads.splits.nodes heads.splits.heads
          (same_view ve (record { nodes = turn.end.nodes; arrows = turn.end.arrows ++ back_arrows turn.end.nodes hs; asked = turn.end.asked }) refl turn.arrows turn.asked)

      pub loop_drew : Drew (loop bare (block no_callees ss done) (condition_at cond at) (turn_piece t done)) d new
      loop_drew = record {
        low = low_so;
        below = turn.back.below ∙ ap (λ (x : Table). x.layers.below.items) table ∙ prologue.below ∙ heads.below;
        risen = risen_so;
        draws =
            loop_drawn bare (condition_at cond at) (block no_callees ss) (turn_piece t) (view_of d) (view_of e) (view_of f) turn.end ve (view_of new) out heads.splits.is_new heads.splits.renews prologue.draws draws_turn back_so refl out_is leaves_so
            covers_so;
      }
