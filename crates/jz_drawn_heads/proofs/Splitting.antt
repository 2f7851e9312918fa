-- Labels of their own that the code gives at the head of a loop.
use Rattle.std.proofs.Common.{◌≡◌, ◌<◌, ◌≤◌, ℕ, ◌+◌, Bool, true, false, List, [], ◌∷◌, ◌++◌, length, take, get_or, refl, sym, ap, ◌∙◌, subst, arith, append_assoc, length-append}
use Rattle.std.specs.Prelude.{◌||◌}
use Rattle.std.proofs.lemmas.Bool.{false≢true}
use Rattle.std.proofs.lemmas.List.{take_more, take_all, map-append}
use Rattle.jz_tree.specs.declared.expr.Var.{Var}
use Rattle.jz_meaning.specs.States.{Key, same_key}
use Rattle.jz_labels.proofs.Keys.{keys_same}
use Rattle.jz_layers.specs.Spots.{variable_key}
use Rattle.jz_secrets.specs.Graphs.{drawn, Arrow}
use Rattle.jz_drawing.specs.Drawings.{View, next, put_node, arrow_between, new_arrow, IsBounded}
use Rattle.jz_drawing.specs.Laws.{renewed_at}
use Rattle.jz_drawing.proofs.Renewing.{key_itself}
use Rattle.jz_drawn_labels.specs.declared.drawing.Drawing.{Drawing}
use Rattle.jz_drawn_labels.specs.Kept.{view_of, nodes_of, IsLow}
use Rattle.jz_drawn_labels.proofs.Lefts.{same_view}
use Rattle.jz_drawn_heads.specs.declared.heads.Head.{Head}
use Rattle.jz_drawn_heads.specs.declared.heads.Target.{Target}
use Rattle.jz_drawn_heads.specs.Pieces.{has_key, head_keys, keys_of, Has, own, back_arrows, Splits, SplitsFor, HasHeads}
use Rattle.jz_drawn_heads.proofs.LoopHeads.{keys_more, has_more, none_split, split_new, split_old, one_split}

-- ---- one scalar

module _ (n : ℕ) (x : Var) (d : Drawing) (hs : List Head) (low : IsLow d) where
  pub again_split : (m : ℕ) → m ≡ nodes_of d.table (variable_key x) → n ≤ m → SplitsFor n x d hs d hs
  again_split m e l = record {
    low = low;
    floor = refl;
    below = refl;
    grows = λ k h. h;
    splits = λ start is bound s. (s, sym (s.heads (variable_key x)) ∙ split_new start (view_of d) hs (variable_key x) bound s (omega (arith, l, e, is)));
  }

  module _ (new : Drawing) (gs : List Head) (h : Head) (before node : ℕ) (first : List Arrow) (of : h.var.now ≡ x) (at : h.node ≡ node) (pushed : gs ≡ hs ++ h ∷ []) (before_is : before ≡ nodes_of d.table (variable_key x)) (less : before < n) (node_next : node ≡ next (view_of d))
      (first_is : first ≡ (view_of d).arrows ++ new_arrow (next (view_of d)) ∷ []) (arrows : (view_of new).arrows ≡ first ++ arrow_between (drawn before) (drawn node) ∷ []) (nodes : nodes_of new.table ≡ put_node (variable_key x) node (nodes_of d.table))
      (asked : (view_of new).asked ≡ (view_of d).asked) (floor : new.table.floor ≡ d.table.floor) (below : new.table.layers.below.items ≡ d.table.layers.below.items) where
    abbrev v : View
    v = view_of d

    abbrev key : Key
    key = variable_key h.var.now

    key_is : variable_key x ≡ key
    key_is = ap variable_key (sym of)

    arrows_are : (p : ℕ) → before ≡ p → (view_of new).arrows ≡ v.arrows ++ (new_arrow (next v) ∷ arrow_between (drawn p) (drawn (next v)) ∷ [])
    arrows_are p e =
        arrows ∙ ap (λ (xs : List Arrow). xs ++ arrow_between (drawn before) (drawn node) ∷ []) first_is
        ∙ ap (λ (i : ℕ). (v.arrows ++ new_arrow (next v) ∷ []) ++ arrow_between (drawn before) (drawn i) ∷ []) node_next
        ∙ ap (λ (i : ℕ). (v.arrows ++ new_arrow (next v) ∷ []) ++ arrow_between (drawn i) (drawn (next v)) ∷ []) e
        ∙ append_assoc v.arrows (new_arrow (next v) ∷ []) (arrow_between (drawn p) (drawn (next v)) ∷ [])

    now_low : IsLow new
    now_low =
        let l : length (view_of new).arrows ≡ length v.arrows + 2 = ap length (arrows_are before refl) ∙ length-append v.arrows (new_arrow (next v) ∷ arrow_between (drawn before) (drawn (next v)) ∷ []) in
        let f : d.table.floor ≤ next v = low in
        omega (arith, l, f, floor)

    has_gs : (k : Key) → has_key (head_keys gs) k ≡ (same_key k key || has_key (head_keys hs) k)
    has_gs k = ap (λ (l : List Head). has_key (head_keys l) k) pushed ∙ has_more hs h k

    grows_now : Has (head_keys gs) (head_keys hs)
    grows_now k e = by (same_key k key) (has_key (head_keys hs) k) (sym (has_gs k) ∙ e)
      where
        by : (a b : Bool) → (a || b) ≡ false → b ≡ false
        by true b i = absurd (false≢true (sym i))
        by false b i = i

    there_now : has_key (head_keys gs) (variable_key x) ≡ true
    there_now = has_gs (variable_key x) ∙ ap (λ (k : Key). same_key k key || has_key (head_keys hs) (variable_key x)) key_is ∙ ap (λ (c : Bool). c || has_key (head_keys hs) (variable_key x)) (key_itself key)

    splits_now : (start : View) → n ≡ next start → IsBounded start → Splits start v hs → Splits start (view_of new) gs
    splits_now start is bound s =
        subst (λ (l : List Head). Splits start (view_of new) l) (sym pushed)
        (subst (λ (w : View). Splits start w (hs ++ h ∷ [])) (sym same) (one_split start v hs s h old (at ∙ node_next)))
      where
        here : v.nodes key ≡ before
        here = ap v.nodes (sym key_is) ∙ sym before_is

        old : s.is_new key ≡ false
        old = split_old start v hs key s (omega (arith, here, less, is))

        same : view_of new ≡ renewed_at key (own start.nodes key) v
        same =
            same_view (view_of new) (renewed_at key (own start.nodes key) v) (nodes ∙ ap (λ (i : ℕ). put_node (variable_key x) i v.nodes) node_next ∙ ap (λ (k : Key). put_node k (next v) v.nodes) key_is)
            (arrows_are (start.nodes key) (sym here ∙ s.renews.kept key old)) asked

    pub now_split : SplitsFor n x d hs new gs
    now_split = record { low = now_low; floor = floor; below = below; grows = grows_now; splits = λ start is bound s. (splits_now start is bound s, there_now) }

-- ---- several

pub heads_begun : (ts : List Target) (d : Drawing) (hs : List Head) → IsLow d → hs ≡ [] → HasHeads (keys_of (take 0 ts)) d d hs
heads_begun ts d hs l e = record {
  low = l;
  floor = refl;
  below = refl;
  splits = subst (λ (gs : List Head). Splits (view_of d) (view_of d) gs) (sym e) (none_split (view_of d));
  all = λ k h. none ts k;
}
  where
    none : (us : List Target) (k : Key) → has_key (keys_of (take 0 us)) k ≡ false
    none [] k = refl
    none (u ∷ us) k = refl

pub heads_next : (ts : List Target) (i : ℕ) (t : Target) (x : Var) (n : ℕ) (d e new : Drawing) (hs gs : List Head) → i < length ts → t ≡ get_or ts i t → t.var.now ≡ x → n ≡ next (view_of d) → IsBounded (view_of d)
    → HasHeads (keys_of (take i ts)) d e hs → SplitsFor n x e hs new gs → HasHeads (keys_of (take (i + 1) ts)) d new gs
heads_next ts i t x n d e new hs gs lt is of start bound p q = record {
  low = q.low;
  floor = q.floor ∙ p.floor;
  below = q.below ∙ p.below;
  splits = (q.splits (view_of d) start bound p.splits).0;
  all = λ k h.
      ap (λ (ks : List Key). has_key ks k) (ap keys_of (take_more ts i t lt ∙ ap (λ y. take i ts ++ y ∷ []) (sym is)) ∙ map-append (λ (u : Target). variable_key u.var.now) (take i ts) (t ∷ [])) ∙ keys_more (keys_of (take i ts)) (variable_key t.var.now) k
      ∙ by k h (same_key k (variable_key t.var.now)) refl (has_key (keys_of (take i ts)) k) (p.all k (q.grows k h));
}
  where
    by : (k : Key) → has_key (head_keys gs) k ≡ false → (c : Bool) → same_key k (variable_key t.var.now) ≡ c → (b : Bool) → b ≡ false → (c || b) ≡ false
    by k h false j b g = g
    by k h true j b g =
        absurd (false≢true (sym h ∙ ap (has_key (head_keys gs)) (keys_same k (variable_key t.var.now) j ∙ ap variable_key of) ∙ (q.splits (view_of d) start bound p.splits).1))

pub heads_done : (ts : List Target) (i : ℕ) (d e : Drawing) (hs : List Head) → length ts ≤ i → HasHeads (keys_of (take i ts)) d e hs → HasHeads (keys_of ts) d e hs
heads_done ts i d e hs l p = subst (λ (us : List Target). HasHeads (keys_of us) d e hs) (take_all i ts l) p

-- ---- what comes back

pub back_next : (e : Key → ℕ) (hs : List Head) (i : ℕ) (h : Head) (before : ℕ) (old now new : List Arrow) → i < length hs → h ≡ get_or hs i h → before ≡ e (variable_key h.var.now) → new ≡ now ++ arrow_between (drawn before) (drawn h.node) ∷ []
    → now ≡ old ++ back_arrows e (take i hs) → new ≡ old ++ back_arrows e (take (i + 1) hs)
back_next e hs i h before old now new lt is b p q =
    p ∙ ap (λ (m : ℕ). now ++ arrow_between (drawn m) (drawn h.node) ∷ []) b ∙ ap (λ (xs : List Arrow). xs ++ arrow_between (drawn (e (variable_key h.var.now))) (drawn h.node) ∷ []) q
    ∙ append_assoc old (back_arrows e (take i hs)) (back_arrows e (h ∷ []))
    ∙ ap (λ (xs : List Arrow). old ++ xs) (sym (ap (back_arrows e) (take_more hs i h lt ∙ ap (λ y. take i hs ++ y ∷ []) (sym is)) ∙ map-append (λ (g : Head). arrow_between (drawn (e (variable_key g.var.now))) (drawn g.node)) (take i hs) (h ∷ [])))

pub back_done : (e : Key → ℕ) (hs : List Head) (i : ℕ) (old now : List Arrow) → length hs ≤ i → now ≡ old ++ back_arrows e (take i hs) → now ≡ old ++ back_arrows e hs
back_done e hs i old now l q = q ∙ ap (λ (gs : List Head). old ++ back_arrows e gs) (take_all i hs l)
