-- Labels that are drawn anew for some scalars.
use Rattle.std.proofs.Common.{◌≡◌, ◌<◌, ◌≤◌, ℕ, Bool, true, false, List, [], ◌∷◌, Option, Some, None, if◌then◌else◌, refl, sym, ap, ◌∙◌, subst, arith, length-append}
use Rattle.std.specs.Prelude.{◌||◌, nat_eq, nat_lt, ◌==◌}
use Rattle.std.proofs.lemmas.Bool.{false≢true}
use Rattle.std.proofs.lemmas.Bool.Decides.{nat_tests}
use Rattle.std.proofs.lemmas.Slice.Eq.{bytes_eq-Decides}
use Rattle.jz_meaning.specs.States.{Key, same_cell, same_key}
use Rattle.jz_labels.specs.Labels.{Publics}
use Rattle.jz_labels.proofs.Keys.{keys_same}
use Rattle.jz_secrets.specs.Graphs.{Keeps, IsLabelling, AreBelow}
use Rattle.jz_drawing.specs.Drawings.{View, next, new_arrow, IsBounded}
use Rattle.jz_drawing.specs.Laws.{source_arrows, renewed_at}
use Rattle.jz_drawing.specs.Draws.{Agrees, AllPublic, AllUnder, from_on, owned, Renews}
use Rattle.jz_drawing.proofs.Labellings.{keeps_agreed, keeps_both, keeps_left, keeps_right, arrows_more, arrows_both, asked_more, below_on, behind_on}

clash : {A : Type 0} → true ≡ false → A
clash e = absurd (cc e)

none_some : {A : Type 0} {v : A} {B : Type 0} → None ≡ Some v → B
none_some e = absurd (cc e)

abbrev key_or : Key → Option Key → Key
key_or d None = d
key_or d (Some x) = x

some_same : (a b : Key) → Some a ≡ Some b → a ≡ b
some_same a b e = ap (key_or a) e

cell_itself : (c : Option ℕ) → same_cell c c ≡ true
cell_itself None = refl
cell_itself (Some i) = grind (arith, nat_tests)

pub key_itself : (k : Key) → same_key k k ≡ true
key_itself k =
    let a = (bytes_eq-Decides k.name k.name).1 refl in
    let b : (k.copy == k.copy) ≡ true = grind (arith, nat_tests) in
    let c = cell_itself k.cell in
    rw (a, b, c)

pub nothing_renewed : (sources : Key → List ℕ) (v : View) → Renews sources (λ k. false) v v
nothing_renewed sources v = record {
  asked = refl;
  longer = omega (arith);
  earlier = λ a t l. l;
  owner = λ i. None;
  kept = λ k e. refl;
  fresh = λ k e. absurd (false≢true e);
  one = λ n k e. none_some e;
  comes = λ a t n k l e h. none_some e;
  labelled = λ a t h l b un p. record {
    first = below_on (next v) t (λ i. true) 0 (omega (arith)) ∙ l.first;
    keeps = keeps_agreed (next v) a t (from_on (next v) t (λ i. true)) v.arrows (below_on (next v) t (λ i. true)) b.arrows l.keeps;
  };
  bounded = λ un b. b;
}

sources_come : (a : Publics) (t : ℕ → Bool) (n : ℕ) (ms : List ℕ) → Keeps a t (source_arrows ms n) → t n ≡ true → AllPublic t ms
sources_come a t n [] k h = tt
sources_come a t n (m ∷ ms) k h = (k.0 h, sources_come a t n ms k.1 h)

sources_kept : (a : Publics) (t u : ℕ → Bool) (b n : ℕ) (ms : List ℕ) → Agrees b t u → AllUnder b ms → (u n ≡ true → AllPublic t ms) → Keeps a u (source_arrows ms n)
sources_kept a t u b n [] g l f = tt
sources_kept a t u b n (m ∷ ms) g l f = (λ h. g m l.0 ∙ (f h).0, sources_kept a t u b n ms g l.1 (λ h. (f h).1))

sources_below : (b c n : ℕ) (ms : List ℕ) → b ≤ c → 0 < n → n < c → AllUnder b ms → AreBelow c (source_arrows ms n)
sources_below b c n [] l p q u = tt
sources_below b c n (m ∷ ms) l p q u = ((omega (arith, l, u.0), (p, q)), sources_below b c n ms l p q u.1)

module _ (sources : Key → List ℕ) (is_new : Key → Bool) (v w : View) (re : Renews sources is_new v w) (key : Key) (old : is_new key ≡ false) where
  abbrev ms : List ℕ
  ms = sources key

  abbrev n : ℕ
  n = next w

  abbrev x : View
  x = renewed_at key ms w

  abbrev is_new_too : Key → Bool
  is_new_too q = same_key q key || is_new q

  abbrev owner_too : ℕ → Option Key
  owner_too i = if nat_eq i n then Some key else re.owner i

  more : n < next x
  more = omega (arith, length-append w.arrows (new_arrow n ∷ source_arrows ms n))

  now_more : n ≤ next x
  now_more = omega (arith, more)

  up : next v ≤ n
  up = re.longer

  earlier_one : (a : Publics) (t : ℕ → Bool) → IsLabelling a t x.arrows → IsLabelling a t w.arrows
  earlier_one a t l = record { first = l.first; keeps = keeps_left a t w.arrows (new_arrow n ∷ source_arrows ms n) l.keeps }

  owner_at : owner_too n ≡ Some key
  owner_at = by (nat_eq n n) refl
    where
      by : (c : Bool) → nat_eq n n ≡ c → (if c then Some key else re.owner n) ≡ Some key
      by true e = refl
      by false e = absurd (grind (arith, nat_tests, e))

  owner_else : (i : ℕ) → i < n → owner_too i ≡ re.owner i
  owner_else i l = by (nat_eq i n) refl
    where
      by : (c : Bool) → nat_eq i n ≡ c → (if c then Some key else re.owner i) ≡ re.owner i
      by true e = absurd (grind (arith, nat_tests, e, l))
      by false e = refl

  kept_one : (k : Key) → is_new_too k ≡ false → x.nodes k ≡ v.nodes k
  kept_one k e = by (same_key k key) refl e
    where
      by : (c : Bool) → same_key k key ≡ c → (c || is_new k) ≡ false → (if c then n else w.nodes k) ≡ v.nodes k
      by true q f = clash f
      by false q f = re.kept k f

  fresh_one : (k : Key) → is_new_too k ≡ true → (next v ≤ x.nodes k) × (x.nodes k < next x) × (owner_too (x.nodes k) ≡ Some k)
  fresh_one k e = by (same_key k key) refl e
    where
      by : (c : Bool) → same_key k key ≡ c → (c || is_new k) ≡ true
          → (next v ≤ (if c then n else w.nodes k)) × ((if c then n else w.nodes k) < next x) × (owner_too (if c then n else w.nodes k) ≡ Some k)
      by true q f = (up, more, owner_at ∙ ap Some (sym (keys_same k key q)))
      by false q f = let r = re.fresh k f in (r.0, omega (arith, r.1, more), owner_else (w.nodes k) r.1 ∙ r.2)

  one_one : (m : ℕ) (k : Key) → owner_too m ≡ Some k → (is_new_too k ≡ true) × (m ≡ x.nodes k)
  one_one m k e = by (nat_eq m n) refl e
    where
      itself : (c : Bool) → same_key k key ≡ c → is_new k ≡ true → ((c || is_new k) ≡ true) × ((if c then n else w.nodes k) ≡ w.nodes k)
      itself true q h = absurd (false≢true (sym old ∙ ap is_new (sym (keys_same k key q)) ∙ h))
      itself false q h = (h, refl)

      same : (c : Bool) → same_key k key ≡ c → key ≡ k → ((c || is_new k) ≡ true) × (n ≡ (if c then n else w.nodes k))
      same true q h = (refl, refl)
      same false q h = absurd (false≢true (sym q ∙ ap (λ z. same_key z key) (sym h) ∙ key_itself key))

      by : (c : Bool) → nat_eq m n ≡ c → (if c then Some key else re.owner m) ≡ Some k → (is_new_too k ≡ true) × (m ≡ x.nodes k)
      by true q f =
          let at : m ≡ n = grind (arith, nat_tests, q) in
          let s = same (same_key k key) refl (some_same key k f) in (s.0, at ∙ s.1)
      by false q f = let o = re.one m k f in let i = itself (same_key k key) refl o.0 in (i.0, o.1 ∙ sym i.1)

  comes_one : (a : Publics) (t : ℕ → Bool) (m : ℕ) (k : Key) → IsLabelling a t x.arrows → owner_too m ≡ Some k → t m ≡ true → AllPublic t (sources k)
  comes_one a t m k l e h = by (nat_eq m n) refl e
    where
      by : (c : Bool) → nat_eq m n ≡ c → (if c then Some key else re.owner m) ≡ Some k → AllPublic t (sources k)
      by true q f =
          let at : m ≡ n = grind (arith, nat_tests, q) in
          subst (λ (z : Key). AllPublic t (sources z)) (some_same key k f)
          (sources_come a t n ms (keeps_right a t w.arrows (new_arrow n ∷ source_arrows ms n) l.keeps).1 (ap t (sym at) ∙ h))
      by false q f = re.comes a t m k (earlier_one a t l) f h

  bounded_one : ((k : Key) → AllUnder (next v) (sources k)) → IsBounded v → IsBounded x
  bounded_one un b =
      let c = re.bounded un b in
      let zero_below : 0 < next x = omega (arith) in
      let some : 0 < n = omega (arith) in
      let far : next v ≤ next x = omega (arith, up, more) in
      record {
        nodes = λ k. put (same_key k key) k (c.nodes k);
        arrows =
            arrows_both (next x) w.arrows (new_arrow n ∷ source_arrows ms n) (arrows_more n (next x) w.arrows now_more c.arrows)
            ((zero_below, (some, more)), sources_below (next v) (next x) n ms far some more (un key));
        asked = asked_more n (next x) w.asked now_more c.asked;
      }
    where
      put : (d : Bool) (k : Key) → w.nodes k < n → (if d then n else w.nodes k) < next x
      put true k l = more
      put false k l = omega (arith, l, more)

  -- the labels where the new ones are these
  abbrev labels_with : (ℕ → Bool) → Publics → ℕ → Bool
  labels_with t h = from_on (next v) t (λ i. owned h (owner_too i))

  abbrev labels_before : (ℕ → Bool) → Publics → ℕ → Bool
  labels_before t h = from_on (next v) t (λ i. owned h (re.owner i))

  agree_before : (t : ℕ → Bool) (h : Publics) → Agrees n (labels_before t h) (labels_with t h)
  agree_before t h i e = ap (λ o. if nat_lt i (next v) then t i else owned h o) (owner_else i e)

  at_new : (t : ℕ → Bool) (h : Publics) → labels_with t h n ≡ h key
  at_new t h = behind_on (next v) t (λ i. owned h (owner_too i)) n up ∙ ap (owned h) owner_at

  labelled_one : (a : Publics) (t : ℕ → Bool) (h : Publics) → IsLabelling a t v.arrows → IsBounded v → ((k : Key) → AllUnder (next v) (sources k)) → ((k : Key) → h k ≡ true → AllPublic t (sources k))
      → IsLabelling a (labels_with t h) x.arrows
  labelled_one a t h l b un f =
      let c = re.bounded un b in
      let k = re.labelled a t h l b un f in
      let first_is : labels_with t h 0 ≡ true = below_on (next v) t (λ i. owned h (owner_too i)) 0 (omega (arith)) ∙ l.first in
      record {
        first = first_is;
        keeps =
            keeps_both a (labels_with t h) w.arrows (new_arrow n ∷ source_arrows ms n) (keeps_agreed n a (labels_before t h) (labels_with t h) w.arrows (agree_before t h) c.arrows k.keeps)
            (λ e. first_is, sources_kept a t (labels_with t h) (next v) n ms (below_on (next v) t (λ i. owned h (owner_too i))) (un key) (λ e. f key (sym (at_new t h) ∙ e)));
      }

  pub one_renewed : Renews sources is_new_too v x
  one_renewed = record {
    asked = re.asked;
    longer = omega (arith, up, more);
    earlier = λ a t l. re.earlier a t (earlier_one a t l);
    owner = owner_too;
    kept = kept_one;
    fresh = fresh_one;
    one = one_one;
    comes = comes_one;
    labelled = labelled_one;
    bounded = bounded_one;
  }
