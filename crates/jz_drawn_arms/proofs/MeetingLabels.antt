-- The labels that the code gives where arms meet.
use Rattle.std.proofs.Common.{◌≡◌, ◌⊎◌, inl, inr, ◌<◌, ◌≤◌, ℕ, ◌+◌, Bool, true, false, List, [], ◌∷◌, ◌++◌, length, Option, Some, None, refl, sym, ap, ◌∙◌, subst, arith, append_assoc, length-append}
use Rattle.std.specs.Prelude.{◌||◌, slice_get, is_some}
use Rattle.std.proofs.lemmas.Bool.{false≢true}
use Rattle.indexmap.specs.IndexMap.{IndexMap}
use Rattle.jz_meaning.specs.States.{Key}
use Rattle.jz_layers.specs.declared.named.Named.{Named}
use Rattle.jz_layers.specs.Spots.{Spot, same_spot, spot_of, put_in, over, entry_in}
use Rattle.jz_layers.specs.Layered.{seen}
use Rattle.jz_layers.proofs.SpotLemmas.{same_spot-back}
use Rattle.jz_layers.proofs.Covering.{covers, cover_none, cover_next, covers_all}
use Rattle.jz_secrets.specs.Graphs.{drawn, Arrow}
use Rattle.jz_drawing.specs.Drawings.{View, next, put_node, arrow_between, new_arrow, IsBounded}
use Rattle.jz_drawing.specs.Laws.{renewed_at}
use Rattle.jz_drawn_labels.specs.declared.drawing.Drawing.{Drawing}
use Rattle.jz_drawn_labels.specs.Kept.{view_of, nodes_of, standing, whole, IsLow}
use Rattle.jz_drawn_labels.proofs.Lefts.{same_view}
use Rattle.jz_drawn_arms.specs.declared.arms.Arm.{Arm}
use Rattle.jz_drawn_arms.specs.Meetings.{behind_arm, two, Meeting, Met, MeetsFor}
use Rattle.jz_drawn_arms.proofs.Meets.{met_old, cell_met, again_met, now_met, given_less}

whole_is : (s : Spot) → s.index ≡ None → s ≡ whole s.of
whole_is s e = λ i. record { of = s.of; index = e i }

-- ---- one scalar, or a cell

module _ (a b : Arm) (n : ℕ) (s : Spot) (d : Drawing) (low : IsLow d) where
  pub cell_for : (i : ℕ) → s.index ≡ Some i → MeetsFor a b n (λ k. same_spot s (whole k)) d d
  cell_for i e = record {
    low = low;
    floor = refl;
    below = refl;
    meets = λ start before others h bound m. cell_met (behind_arm a before) (behind_arm b before) start before (view_of d) (seen d.table.layers) others m bound s i e;
  }

  node_is : (o : Option ℕ) (m : ℕ) → s.index ≡ None → o ≡ seen d.table.layers s → m ≡ standing d.table.floor o → m ≡ nodes_of d.table s.of
  node_is o m e h k = k ∙ ap (standing d.table.floor) (h ∙ ap (λ (q : Spot). seen d.table.layers q) (whole_is s e))

  pub again_for : (o : Option ℕ) (m : ℕ) → s.index ≡ None → o ≡ seen d.table.layers s → m ≡ standing d.table.floor o → n ≤ m → MeetsFor a b n (λ k. same_spot s (whole k)) d d
  again_for o m e h k l = record {
    low = low;
    floor = refl;
    below = refl;
    meets = λ start before others p bound q.
        let is = node_is o m e h k in
        again_met (behind_arm a before) (behind_arm b before) start before (view_of d) (seen d.table.layers) others q bound s e (omega (arith, l, p, is));
  }

  module _ (new : Drawing) (o : Option ℕ) (m node x y : ℕ) (first : List Arrow) (e : s.index ≡ None) (h : o ≡ seen d.table.layers s) (k : m ≡ standing d.table.floor o) (less : m < n) (node_next : node ≡ next (view_of d))
      (x_is : (f : Spot → Option ℕ) → o ≡ f s → x ≡ standing a.floor (over a.layer f s)) (y_is : (f : Spot → Option ℕ) → o ≡ f s → y ≡ standing b.floor (over b.layer f s))
      (first_is : first ≡ ((view_of d).arrows ++ new_arrow (next (view_of d)) ∷ []) ++ arrow_between (drawn x) (drawn node) ∷ []) (second_is : (view_of new).arrows ≡ first ++ arrow_between (drawn y) (drawn node) ∷ [])
      (nodes : nodes_of new.table ≡ put_node s.of node (nodes_of d.table)) (put : seen new.table.layers ≡ put_in (seen d.table.layers) s node) (asked : (view_of new).asked ≡ (view_of d).asked) (floor : new.table.floor ≡ d.table.floor)
      (below : new.table.layers.below.items ≡ d.table.layers.below.items) where
    abbrev v : View
    v = view_of d

    arrows_are : (p q : ℕ) → x ≡ p → y ≡ q → (view_of new).arrows ≡ v.arrows ++ (new_arrow (next v) ∷ arrow_between (drawn p) (drawn (next v)) ∷ arrow_between (drawn q) (drawn (next v)) ∷ [])
    arrows_are p q f g =
        second_is ∙ ap (λ (xs : List Arrow). xs ++ arrow_between (drawn y) (drawn node) ∷ []) first_is
        ∙ ap (λ (i : ℕ). ((v.arrows ++ new_arrow (next v) ∷ []) ++ arrow_between (drawn x) (drawn i) ∷ []) ++ arrow_between (drawn y) (drawn i) ∷ []) node_next
        ∙ ap (λ (i : ℕ). ((v.arrows ++ new_arrow (next v) ∷ []) ++ arrow_between (drawn i) (drawn (next v)) ∷ []) ++ arrow_between (drawn y) (drawn (next v)) ∷ []) f
        ∙ ap (λ (i : ℕ). ((v.arrows ++ new_arrow (next v) ∷ []) ++ arrow_between (drawn p) (drawn (next v)) ∷ []) ++ arrow_between (drawn i) (drawn (next v)) ∷ []) g
        ∙ append_assoc (v.arrows ++ new_arrow (next v) ∷ []) (arrow_between (drawn p) (drawn (next v)) ∷ []) (arrow_between (drawn q) (drawn (next v)) ∷ [])
        ∙ append_assoc v.arrows (new_arrow (next v) ∷ []) (arrow_between (drawn p) (drawn (next v)) ∷ arrow_between (drawn q) (drawn (next v)) ∷ [])

    longer : next v ≤ next (view_of new)
    longer =
        let l : length (view_of new).arrows ≡ length v.arrows + 3 =
        ap length (arrows_are x y refl refl) ∙ length-append v.arrows (new_arrow (next v) ∷ arrow_between (drawn x) (drawn (next v)) ∷ arrow_between (drawn y) (drawn (next v)) ∷ []) in
        omega (arith, l)

    now_low : IsLow new
    now_low = let l = longer in let f : d.table.floor ≤ next v = low in omega (arith, l, f, floor)

    module _ (start : View) (before : Spot → Option ℕ) (others : Key → Bool) (p : n ≡ next start) (bound : IsBounded start) (q : Met a b start before d others) where
      abbrev A : Key → ℕ
      A = behind_arm a before

      abbrev B : Key → ℕ
      B = behind_arm b before

      old : v.nodes s.of < next start
      old = let is = node_is o m e h k in omega (arith, less, p, is)

      here : o ≡ before s
      here =
          h ∙ ap (λ (g : Spot). seen d.table.layers g) (whole_is s e)
          ∙ q.stays s.of (met_old A B start before v (seen d.table.layers) others q bound s.of old) ∙ ap before (sym (whole_is s e))

      x_there : x ≡ A s.of
      x_there = x_is before here ∙ ap (λ (g : Spot). standing a.floor (over a.layer before g)) (whole_is s e)

      y_there : y ≡ B s.of
      y_there = y_is before here ∙ ap (λ (g : Spot). standing b.floor (over b.layer before g)) (whole_is s e)

      same : view_of new ≡ renewed_at s.of (two A B s.of) v
      same = same_view (view_of new) (renewed_at s.of (two A B s.of) v) (nodes ∙ ap (λ (i : ℕ). put_node s.of i v.nodes) node_next) (arrows_are (A s.of) (B s.of) x_there y_there) asked

      meets_now : Met a b start before new (λ g. same_spot s (whole g) || others g)
      meets_now =
          subst (λ (w : View). Meeting A B start before w (seen new.table.layers) (λ g. same_spot s (whole g) || others g)) (sym same)
          (now_met A B start before v (seen d.table.layers) others q bound s node (seen new.table.layers) e old put)

    pub now_for : MeetsFor a b n (λ q. same_spot s (whole q)) d new
    now_for = record { low = now_low; floor = floor; below = below; meets = λ start before others p bound q. meets_now start before others p bound q }

-- ---- all of a layer

pub none_for : (a b : Arm) (n : ℕ) (d : Drawing) → IsLow d → MeetsFor a b n (λ k. false) d d
none_for a b n d l = record { low = l; floor = refl; below = refl; meets = λ start before others h bound m. m }

either : (a b : Bool) → (a || b) ≡ true → (a ≡ true) ⊎ (b ≡ true)
either true b e = inl refl
either false b e = inr e

left_or : (a b : Bool) → a ≡ true → (a || b) ≡ true
left_or true b e = refl
left_or false b e = absurd (false≢true e)

right_or : (a b : Bool) → b ≡ true → (a || b) ≡ true
right_or true b e = refl
right_or false b e = e

-- one after another, where what is asked for comes of one of them
pub then_for : (a b : Arm) (n : ℕ) (f g h : Key → Bool) (d e new : Drawing) → ((k : Key) → h k ≡ true → (g k || f k) ≡ true) → MeetsFor a b n f d e → MeetsFor a b n g e new → MeetsFor a b n h d new
then_for a b n f g h d e new c p q = record {
  low = q.low;
  floor = q.floor ∙ p.floor;
  below = q.below ∙ p.below;
  meets = λ start before others is bound m.
      let x = q.meets start before (λ k. f k || others k) is bound (p.meets start before others is bound m) in
      given_less (behind_arm a before) (behind_arm b before) start before (view_of new) (seen new.table.layers) (λ k. g k || (f k || others k)) x bound (λ k. h k || others k) (λ k i. by (g k) (f k) (others k) (h k) (c k) (either (h k) (others k) i));
}
  where
    by : (x y z w : Bool) → (w ≡ true → (x || y) ≡ true) → (w ≡ true) ⊎ (z ≡ true) → (x || (y || z)) ≡ true
    by true y z w i j = refl
    by false y z w i (inl j) = left_or y z (i j)
    by false y z w i (inr j) = right_or y z j

module _ {S : Type 0} (a b : Arm) (n : ℕ) (m : IndexMap Named ℕ S) where
  pub layer_begun : (d : Drawing) → IsLow d → MeetsFor a b n (λ k. covers m.entries 0 (whole k)) d d
  layer_begun d l = then_for a b n (λ k. false) (λ k. false) (λ k. covers m.entries 0 (whole k)) d d d (λ k e. absurd (false≢true (sym (cover_none m.entries (whole k)) ∙ e))) (none_for a b n d l) (none_for a b n d l)

  pub layer_next : (d e new : Drawing) (i : ℕ) (x : Named) (v : ℕ) → slice_get m.entries i ≡ Some (x, v) → MeetsFor a b n (λ k. covers m.entries i (whole k)) d e → MeetsFor a b n (λ k. same_spot (spot_of x) (whole k)) e new
      → MeetsFor a b n (λ k. covers m.entries (i + 1) (whole k)) d new
  layer_next d e new i x v is p q =
      then_for a b n (λ k. covers m.entries i (whole k)) (λ k. same_spot (spot_of x) (whole k)) (λ k. covers m.entries (i + 1) (whole k)) d e new
      (λ k h. by (covers m.entries i (whole k)) (same_spot (whole k) (spot_of x)) (same_spot (spot_of x) (whole k)) (same_spot-back (whole k) (spot_of x) (same_spot (whole k) (spot_of x)) refl) (sym (cover_next m.entries i x v (whole k) is) ∙ h)) p q
    where
      by : (c f g : Bool) → g ≡ f → (c || f) ≡ true → (g || c) ≡ true
      by true f g h e = right_or g true refl
      by false f g h e = left_or g false (h ∙ e)

  pub layer_all : (d e : Drawing) (i : ℕ) → length m.entries ≤ i → IsLow e → MeetsFor a b n (λ k. covers m.entries i (whole k)) d e → MeetsFor a b n (λ k. is_some (entry_in m (whole k))) d e
  layer_all d e i l w p =
      then_for a b n (λ k. covers m.entries i (whole k)) (λ k. false) (λ k. is_some (entry_in m (whole k))) d e e (λ k h. covers_all m.entries i (whole k) l ∙ h) p (none_for a b n e w)
