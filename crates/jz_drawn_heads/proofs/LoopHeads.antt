-- Labels of their own at the head of a loop, and what comes back to them.
use Rattle.std.proofs.Common.{◌≡◌, ◌⊎◌, inl, inr, ◌<◌, ◌≤◌, ℕ, suc, Bool, true, false, List, [], ◌∷◌, ◌++◌, length, refl, sym, ap, ◌∙◌, subst, arith, length-append}
use Rattle.std.specs.Prelude.{◌||◌, if◌then◌else◌}
use Rattle.std.proofs.lemmas.Bool.{false≢true}
use Rattle.jz_meaning.specs.States.{Key, same_key}
use Rattle.jz_labels.specs.Labels.{Publics}
use Rattle.jz_labels.proofs.Keys.{keys_same}
use Rattle.jz_layers.specs.Spots.{variable_key}
use Rattle.jz_secrets.specs.Graphs.{Keeps, AreBelow}
use Rattle.jz_drawn_heads.specs.declared.heads.Head.{Head}
use Rattle.jz_drawing.specs.Drawings.{View, next, IsBounded}
use Rattle.jz_drawing.specs.Laws.{renewed_at}
use Rattle.jz_drawing.specs.Draws.{ComesBack}
use Rattle.jz_drawn_heads.specs.Pieces.{has_key, head_keys, back_arrows, own, AreHeads, Splits}
use Rattle.jz_drawing.proofs.Labellings.{keeps_both, keeps_left, keeps_right, arrows_more, arrows_both, asked_more}
use Rattle.jz_drawing.proofs.Renewing.{key_itself, nothing_renewed, one_renewed}

left_or : (a b : Bool) → a ≡ true → (a || b) ≡ true
left_or true b e = refl
left_or false b e = absurd (false≢true e)

right_or : (a b : Bool) → b ≡ true → (a || b) ≡ true
right_or true b e = refl
right_or false b e = e

either : (a b : Bool) → (a || b) ≡ true → (a ≡ true) ⊎ (b ≡ true)
either true b e = inl refl
either false b e = inr e

abbrev key_of_head : Head → Key
key_of_head h = variable_key h.var.now

-- ---- what comes back

module _ (head : Key → ℕ) (e : Key → ℕ) where
  head_comes : (a : Publics) (t : ℕ → Bool) (hs : List Head) → AreHeads head hs → Keeps a t (back_arrows e hs) → (k : Key) → has_key (head_keys hs) k ≡ true → t (head k) ≡ true → t (e k) ≡ true
  head_comes a t [] n k q h i = absurd (false≢true h)
  head_comes a t (x ∷ hs) n k q h i = by (either (same_key q (key_of_head x)) (has_key (head_keys hs) q) h) (λ j. head_comes a t hs n.1 k.1 q j i)
    where
      by : (same_key q (key_of_head x) ≡ true) ⊎ (has_key (head_keys hs) q ≡ true) → (has_key (head_keys hs) q ≡ true → t (e q) ≡ true) → t (e q) ≡ true
      by (inl j) on =
          let s : q ≡ key_of_head x = keys_same q (key_of_head x) j in
          ap (λ (y : Key). t (e y)) s ∙ k.0 (ap t (n.0 ∙ ap head (sym s)) ∙ i)
      by (inr j) on = on j

  heads_kept : (a : Publics) (t : ℕ → Bool) (hs : List Head) → AreHeads head hs → ((k : Key) → t (head k) ≡ true → t (e k) ≡ true) → Keeps a t (back_arrows e hs)
  heads_kept a t [] n f = tt
  heads_kept a t (x ∷ hs) n f = (λ i. f (key_of_head x) (ap t (sym n.0) ∙ i), heads_kept a t hs n.1 f)

  heads_below : (m c : ℕ) (hs : List Head) → m ≤ c → AreHeads head hs → ((k : Key) → has_key (head_keys hs) k ≡ true → (0 < head k) × (head k < m)) → ((k : Key) → e k < m) → AreBelow c (back_arrows e hs)
  heads_below m c [] l n f g = tt
  heads_below m c (x ∷ hs) l n f g =
      let q = key_of_head x in
      let i = f q (left_or (same_key q q) (has_key (head_keys hs) q) (key_itself q)) in
      let at = n.0 in
      let here = g q in
      ((omega (arith, here, l), (omega (arith, i.0, at), omega (arith, i.1, at, l))), heads_below m c hs l n.1 (λ k h. f k (right_or (same_key k q) (has_key (head_keys hs) k) h)) g)

pub comes_back : (head : Key → ℕ) (is_new : Key → Bool) (v w : View) (hs : List Head) → AreHeads head hs → ((k : Key) → is_new k ≡ has_key (head_keys hs) k)
    → w ≡ record { nodes = v.nodes; arrows = v.arrows ++ back_arrows v.nodes hs; asked = v.asked } → ComesBack head v.nodes is_new v w
comes_back head is_new v w hs n s e = subst (λ (x : View). ComesBack head v.nodes is_new v x) (sym e) (record {
  nodes = refl;
  asked = refl;
  longer = long;
  earlier = λ a t l. record { first = l.first; keeps = keeps_left a t v.arrows (back_arrows v.nodes hs) l.keeps };
  comes = λ a t k l i h. head_comes head v.nodes a t hs n (keeps_right a t v.arrows (back_arrows v.nodes hs) l.keeps) k (sym (s k) ∙ i) h;
  labelled = λ a t l f. record { first = l.first; keeps = keeps_both a t v.arrows (back_arrows v.nodes hs) l.keeps (heads_kept head v.nodes a t hs n f) };
  bounded = λ f g b. record {
    nodes = λ k. up (v.nodes k) (b.nodes k);
    arrows =
        arrows_both (suc (length (v.arrows ++ back_arrows v.nodes hs))) v.arrows (back_arrows v.nodes hs) (arrows_more (next v) (suc (length (v.arrows ++ back_arrows v.nodes hs))) v.arrows long b.arrows)
        (heads_below head v.nodes (next v) (suc (length (v.arrows ++ back_arrows v.nodes hs))) hs long n (λ k h. f k (s k ∙ h)) g);
    asked = asked_more (next v) (suc (length (v.arrows ++ back_arrows v.nodes hs))) v.asked long b.asked;
  };
})
  where
    long : next v ≤ suc (length (v.arrows ++ back_arrows v.nodes hs))
    long = omega (arith, length-append v.arrows (back_arrows v.nodes hs))

    up : (n : ℕ) → n < next v → n < suc (length (v.arrows ++ back_arrows v.nodes hs))
    up n l = omega (arith, l, long)

-- ---- splitting

pub none_split : (v : View) → Splits v v []
none_split v = record { is_new = λ k. false; renews = nothing_renewed (own v.nodes) v; heads = λ k. refl; nodes = tt }

pub keys_more : (xs : List Key) (y k : Key) → has_key (xs ++ y ∷ []) k ≡ (same_key k y || has_key xs k)
keys_more [] y k = refl
keys_more (x ∷ xs) y k = ap (λ z. same_key k x || z) (keys_more xs y k) ∙ by (same_key k x) (same_key k y) (has_key xs k)
  where
    by : (a b c : Bool) → (a || (b || c)) ≡ (b || (a || c))
    by true true c = refl
    by true false c = refl
    by false b c = refl

head_keys_more : (hs : List Head) (h : Head) → head_keys (hs ++ h ∷ []) ≡ head_keys hs ++ key_of_head h ∷ []
head_keys_more [] h = refl
head_keys_more (x ∷ hs) h = ap (λ z. key_of_head x ∷ z) (head_keys_more hs h)

pub has_more : (hs : List Head) (h : Head) (k : Key) → has_key (head_keys (hs ++ h ∷ [])) k ≡ (same_key k (key_of_head h) || has_key (head_keys hs) k)
has_more hs h k = ap (λ z. has_key z k) (head_keys_more hs h) ∙ keys_more (head_keys hs) (key_of_head h) k

-- whether a scalar has a label of its own is seen by its number
pub split_new : (v w : View) (hs : List Head) (k : Key) → IsBounded v → (s : Splits v w hs) → next v ≤ w.nodes k → s.is_new k ≡ true
split_new v w hs k b s l = by (s.is_new k) refl
  where
    by : (c : Bool) → s.is_new k ≡ c → c ≡ true
    by true e = refl
    by false e = let x = s.renews.kept k e in let y = b.nodes k in absurd (omega (arith, x, y, l))

pub split_old : (v w : View) (hs : List Head) (k : Key) → (s : Splits v w hs) → w.nodes k < next v → s.is_new k ≡ false
split_old v w hs k s l = by (s.is_new k) refl
  where
    by : (c : Bool) → s.is_new k ≡ c → c ≡ false
    by false e = refl
    by true e = let x = s.renews.fresh k e in absurd (omega (arith, x.0, l))

module _ (v w : View) (hs : List Head) (s : Splits v w hs) (h : Head) (old : s.is_new (key_of_head h) ≡ false) (at : h.node ≡ next w) where
  abbrev key : Key
  key = key_of_head h

  abbrev x : View
  x = renewed_at key (own v.nodes key) w

  others : (gs : List Head) → ((k : Key) → has_key (head_keys gs) k ≡ true → s.is_new k ≡ true) → AreHeads w.nodes gs → AreHeads x.nodes (gs ++ h ∷ [])
  others [] f n = (by (same_key key key) (key_itself key), tt)
    where
      by : (c : Bool) → c ≡ true → h.node ≡ (if c then next w else w.nodes key)
      by true e = at
      by false e = absurd (false≢true e)
  others (g ∷ gs) f n = (by (same_key (key_of_head g) key) refl, others gs (λ k e. f k (right_or (same_key k (key_of_head g)) (has_key (head_keys gs) k) e)) n.1)
    where
      by : (c : Bool) → same_key (key_of_head g) key ≡ c → g.node ≡ (if c then next w else w.nodes (key_of_head g))
      by true e =
          absurd (false≢true (sym old ∙ ap s.is_new (sym (keys_same (key_of_head g) key e)) ∙ f (key_of_head g) (left_or (same_key (key_of_head g) (key_of_head g)) (has_key (head_keys gs) (key_of_head g)) (key_itself (key_of_head g)))))
      by false e = n.0

  pub one_split : Splits v x (hs ++ h ∷ [])
  one_split = record {
    is_new = λ k. same_key k key || s.is_new k;
    renews = one_renewed (own v.nodes) s.is_new v w s.renews key old;
    heads = λ k. ap (λ z. same_key k key || z) (s.heads k) ∙ sym (has_more hs h k);
    nodes = others hs (λ k e. s.heads k ∙ e) s.nodes;
  }
