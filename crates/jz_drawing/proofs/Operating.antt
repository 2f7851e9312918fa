-- What is drawn of an operation.
use Rattle.std.proofs.Common.{◌≡◌, ◌<◌, ◌≤◌, ℕ, Bool, true, false, List, [], ◌∷◌, ◌++◌, Option, Some, None, if◌then◌else◌, refl, sym, ap, ◌∙◌, subst, arith, length-append}
use Rattle.std.specs.Prelude.{◌||◌, nat_eq, nat_lt}
use Rattle.std.proofs.Math.Path.{fun_ext}
use Rattle.std.proofs.lemmas.Bool.{false≢true}
use Rattle.std.proofs.lemmas.Bool.Decides.{nat_tests}
use Rattle.jz_runs.specs.Trees.{op}
use Rattle.jz_meaning.specs.States.{Key, same_key}
use Rattle.jz_meaning.specs.Values.{key_of}
use Rattle.jz_meaning.specs.Statements.{Operation, Block}
use Rattle.jz_flow.specs.Sets.{Below}
use Rattle.jz_flow.specs.Flow.{After}
use Rattle.jz_flow.specs.Alarms.{FirstOf, First, Meets, no_more}
use Rattle.jz_flow.proofs.Ordering.{below_self}
use Rattle.jz_labels.specs.Operations.{Left, nothing, scalar, element, bytes, Plain, plain_of}
use Rattle.jz_labels.specs.Labels.{Publics, Secret, first, is_none, gives_public, labelled, all_labelled, relabels}
use Rattle.jz_labels.specs.Required.{breach_in_left, breach_in_lefts, breach_in_operation, into_public, secret_written}
use Rattle.jz_labels.proofs.MoreLabels.{gives_more, relabels_more, written_less}
use Rattle.jz_required.specs.Readings.{Origin, right_reading, left_demands, is_public, secret_unless, first_secret, first_breach}
use Rattle.jz_required.proofs.Exact.{value_is, operation_is, left_is}
use Rattle.jz_secrets.specs.Graphs.{Arrow, label, Keeps, IsLabelling, AreBelow}
use Rattle.jz_drawing.specs.Drawings.{Asked, View, next, vertex_in, asks_in, put_left, put_lefts, arrows_from, lefts_arrows, lefts_asked, new_arrow, drawn_operation, sets_lefts, sets, labels_of, first_asked, AreAskedBelow, IsBounded, flow, breaches, writes}
use Rattle.jz_drawing.specs.Draws.{Agrees, Under, from_on, Along, Told, Draws}
use Rattle.jz_drawing.proofs.Labellings.{first_same, label_agrees, keeps_agreed, keeps_both, keeps_left, keeps_right, arrows_more, arrows_both, asked_more, asked_below_both, asked_both, asks_are, asks_below, origin_label, origin_below, below_on, behind_on}

clash : {A : Type 0} → true ≡ false → A
clash e = absurd (cc e)

neither : (a b : Bool) → (a || b) ≡ false → (a ≡ false) × (b ≡ false)
neither true b e = clash e
neither false b e = (refl, e)

-- ---- origins

-- of a public label that comes of others these are public
pub sources_public : (a : Publics) (t : ℕ → Bool) (e : Key → ℕ) (n : ℕ) (os : List Origin) → Keeps a t (arrows_from e os n) → t n ≡ true → first_secret a (labels_of t e) os ≡ None
sources_public a t e n [] k h = refl
sources_public a t e n (o ∷ os) k h =
    ap (λ z. first (secret_unless z o) (first_secret a (labels_of t e) os)) (sym (origin_label a t e o) ∙ k.0 h) ∙ sources_public a t e n os k.1 h

by_none : (c : Bool) (o : Origin) (x : Option Secret) → first (secret_unless c o) x ≡ None → (c ≡ true) × (x ≡ None)
by_none true o x e = (refl, e)
by_none false o x e = absurd (cc e)

from_kept : (a : Publics) (u : ℕ → Bool) (s : Publics) (e : Key → ℕ) (n : ℕ) (os : List Origin) → ((o : Origin) → label a u (vertex_in e o) ≡ is_public a s o) → (u n ≡ true → first_secret a s os ≡ None) → Keeps a u (arrows_from e os n)
from_kept a u s e n [] l f = tt
from_kept a u s e n (o ∷ os) l f = (
  λ h. l o ∙ (by_none (is_public a s o) o (first_secret a s os) (f h)).0,
  from_kept a u s e n os l (λ h. (by_none (is_public a s o) o (first_secret a s os) (f h)).1),
)

-- ---- left sides

lefts_under : (t : ℕ → Bool) (n : ℕ) (z : Bool) → (t n ≡ true → z ≡ true) → (ds : List Left) (e : Key → ℕ) (s : Publics) → Below (labels_of t e) s → Below (labels_of t (put_lefts n ds e)) (all_labelled z ds s)
lefts_under t n z f [] e s b = b
lefts_under t n z f (nothing ∷ ds) e s b = lefts_under t n z f ds e s b
lefts_under t n z f (scalar x ∷ ds) e s b = lefts_under t n z f ds (put_left n (scalar x) e) (labelled z (scalar x) s) (λ q h. by q (same_key q (key_of x)) h)
  where
    by : (q : Key) (c : Bool) → t (if c then n else e q) ≡ true → (if c then z else s q) ≡ true
    by q true h = f h
    by q false h = b q h
lefts_under t n z f (element x i ∷ ds) e s b = lefts_under t n z f ds e s b
lefts_under t n z f (bytes p i ∷ ds) e s b = lefts_under t n z f ds e s b

spared_lefts : (z : Bool) (ds : List Left) (s : Publics) (q : Key) → sets_lefts q ds ≡ false → all_labelled z ds s q ≡ s q
spared_lefts z [] s q e = refl
spared_lefts z (nothing ∷ ds) s q e = spared_lefts z ds s q e
spared_lefts z (scalar x ∷ ds) s q e =
    let n = neither (same_key q (key_of x)) (sets_lefts q ds) e in
    spared_lefts z ds (labelled z (scalar x) s) q n.1 ∙ ap (λ c. if c then z else s q) n.0
spared_lefts z (element x i ∷ ds) s q e = spared_lefts z ds s q e
spared_lefts z (bytes p i ∷ ds) s q e = spared_lefts z ds s q e

labels_put : (u : ℕ → Bool) (n : ℕ) (z : Bool) → u n ≡ z → (d : Left) (e : Key → ℕ) (s : Publics) → s ≡ labels_of u e → labelled z d s ≡ labels_of u (put_left n d e)
labels_put u n z h nothing e s p = p
labels_put u n z h (scalar x) e s p = fun_ext (λ q. by q (same_key q (key_of x)))
  where
    by : (q : Key) (c : Bool) → (if c then z else s q) ≡ u (if c then n else e q)
    by q true = sym h
    by q false = ap (λ (f : Publics). f q) p
labels_put u n z h (element x i) e s p = p
labels_put u n z h (bytes b i) e s p = p

lefts_labels : (u : ℕ → Bool) (n : ℕ) (z : Bool) → u n ≡ z → (ds : List Left) (e : Key → ℕ) (s : Publics) → s ≡ labels_of u e → all_labelled z ds s ≡ labels_of u (put_lefts n ds e)
lefts_labels u n z h [] e s p = p
lefts_labels u n z h (d ∷ ds) e s p = lefts_labels u n z h ds (put_left n d e) (labelled z d s) (labels_put u n z h d e s p)

lefts_asked_are : (a : Publics) (u : ℕ → Bool) (n : ℕ) (z : Bool) → u n ≡ z → (ds : List Left) (e : Key → ℕ) (s : Publics) → s ≡ labels_of u e → first_asked a u (lefts_asked n ds e) ≡ breach_in_lefts a z ds s
lefts_asked_are a u n z h [] e s p = refl
lefts_asked_are a u n z h (d ∷ ds) e s p =
    asked_both a u (asks_in e (left_demands d)) (lefts_asked n ds (put_left n d e))
    ∙ ap (λ x. first x (first_asked a u (lefts_asked n ds (put_left n d e)))) (asks_are a u e (left_demands d) ∙ ap (λ (y : Publics). first_breach a y (left_demands d)) (sym p) ∙ sym (left_is a s d))
    ∙ ap (first (breach_in_left a s d)) (lefts_asked_are a u n z h ds (put_left n d e) (labelled z d s) (labels_put u n z h d e s p))

unwritten : (a : Publics) (t : ℕ → Bool) (n : ℕ) (ds : List Left) → (t n ≡ true → ⊥) → Keeps a t (lefts_arrows n ds) → into_public a ds ≡ None
unwritten a t n [] f k = refl
unwritten a t n (nothing ∷ ds) f k = unwritten a t n ds f k
unwritten a t n (scalar x ∷ ds) f k = unwritten a t n ds f k
unwritten a t n (element x i ∷ ds) f k = by (a (key_of x)) refl (unwritten a t n ds f k.1)
  where
    by : (c : Bool) → a (key_of x) ≡ c → into_public a ds ≡ None → (if c then Some (key_of x) else into_public a ds) ≡ None
    by true e h = absurd (f (k.0 e))
    by false e h = h
unwritten a t n (bytes p i ∷ ds) f k = unwritten a t n ds f k

pub none_written : (a : Publics) (t : ℕ → Bool) (n : ℕ) (ds : List Left) (z : Bool) → (t n ≡ true → z ≡ true) → Keeps a t (lefts_arrows n ds) → (if z then None else into_public a ds) ≡ None
none_written a t n ds true f k = refl
none_written a t n ds false f k = unwritten a t n ds (λ h. false≢true (f h)) k

public_unwritten : (a : Publics) (ds : List Left) (x : Key) (c : Bool) (y : Option Key) → (if c then Some x else y) ≡ None → (c ≡ true → ⊥) × (y ≡ None)
public_unwritten a ds x true y e = absurd (cc e)
public_unwritten a ds x false y e = (λ h. false≢true h, e)

secret_kept : (a : Publics) (u : ℕ → Bool) (n : ℕ) (ds : List Left) → into_public a ds ≡ None → Keeps a u (lefts_arrows n ds)
secret_kept a u n [] e = tt
secret_kept a u n (nothing ∷ ds) e = secret_kept a u n ds e
secret_kept a u n (scalar x ∷ ds) e = secret_kept a u n ds e
secret_kept a u n (element x i ∷ ds) e =
    let p = public_unwritten a ds (key_of x) (a (key_of x)) (into_public a ds) e in (λ h. absurd (p.0 h), secret_kept a u n ds p.1)
secret_kept a u n (bytes p i ∷ ds) e = secret_kept a u n ds e

public_kept : (a : Publics) (u : ℕ → Bool) (n : ℕ) (ds : List Left) → u n ≡ true → Keeps a u (lefts_arrows n ds)
public_kept a u n [] h = tt
public_kept a u n (nothing ∷ ds) h = public_kept a u n ds h
public_kept a u n (scalar x ∷ ds) h = public_kept a u n ds h
public_kept a u n (element x i ∷ ds) h = (λ e. h, public_kept a u n ds h)
public_kept a u n (bytes p i ∷ ds) h = public_kept a u n ds h

lefts_kept : (a : Publics) (u : ℕ → Bool) (n : ℕ) (ds : List Left) (z : Bool) → u n ≡ z → (if z then None else into_public a ds) ≡ None → Keeps a u (lefts_arrows n ds)
lefts_kept a u n ds true h e = public_kept a u n ds h
lefts_kept a u n ds false h e = secret_kept a u n ds e

put_below : (m n : ℕ) → n < m → (ds : List Left) (e : Key → ℕ) → ((k : Key) → e k < m) → (k : Key) → put_lefts n ds e k < m
put_below m n l [] e b = b
put_below m n l (nothing ∷ ds) e b = put_below m n l ds e b
put_below m n l (scalar x ∷ ds) e b = put_below m n l ds (put_left n (scalar x) e) (λ k. by k (same_key k (key_of x)))
  where
    by : (k : Key) (c : Bool) → (if c then n else e k) < m
    by k true = l
    by k false = b k
put_below m n l (element x i ∷ ds) e b = put_below m n l ds e b
put_below m n l (bytes p i ∷ ds) e b = put_below m n l ds e b

one_put_below : (m n : ℕ) → n < m → (d : Left) (e : Key → ℕ) → ((k : Key) → e k < m) → (k : Key) → put_left n d e k < m
one_put_below m n l d e b k = put_below m n l (d ∷ []) e b k

lefts_asked_below : (m n : ℕ) → n < m → (ds : List Left) (e : Key → ℕ) → ((k : Key) → e k < m) → AreAskedBelow m (lefts_asked n ds e)
lefts_asked_below m n l [] e b = tt
lefts_asked_below m n l (d ∷ ds) e b =
    asked_below_both m (asks_in e (left_demands d)) (lefts_asked n ds (put_left n d e)) (asks_below m e b (left_demands d)) (lefts_asked_below m n l ds (put_left n d e) (one_put_below m n l d e b))

from_below : (m n : ℕ) → 0 < n → n < m → (e : Key → ℕ) → ((k : Key) → e k < m) → (os : List Origin) → AreBelow m (arrows_from e os n)
from_below m n p l e b [] = tt
from_below m n p l e b (o ∷ os) = ((origin_below m e b o, (p, l)), from_below m n p l e b os)

lefts_below : (m n : ℕ) → n < m → (ds : List Left) → AreBelow m (lefts_arrows n ds)
lefts_below m n l [] = tt
lefts_below m n l (nothing ∷ ds) = lefts_below m n l ds
lefts_below m n l (scalar x ∷ ds) = lefts_below m n l ds
lefts_below m n l (element x i ∷ ds) = ((l, tt), lefts_below m n l ds)
lefts_below m n l (bytes p i ∷ ds) = lefts_below m n l ds

-- ---- the operation

-- z at n, public elsewhere
abbrev only_at : ℕ → Bool → ℕ → Bool
only_at n z i = if nat_eq i n then z else true

at_itself : (n : ℕ) (z : Bool) → only_at n z n ≡ z
at_itself n z = by (nat_eq n n) refl
  where
    by : (c : Bool) → nat_eq n n ≡ c → (if c then z else true) ≡ z
    by true e = refl
    by false e = absurd (grind (arith, nat_tests, e))

module _ (o : Operation) (v : View) where
  abbrev p : Plain
  p = plain_of o

  abbrev n : ℕ
  n = next v

  abbrev os : List Origin
  os = (right_reading p).origins

  abbrev rest : List Arrow
  rest = arrows_from v.nodes os n ++ lefts_arrows n p.to

  abbrev x : View
  x = drawn_operation p v

  abbrev right_asked : List Asked
  right_asked = asks_in v.nodes (right_reading p).demands

  abbrev all_asked : List Asked
  all_asked = right_asked ++ lefts_asked n p.to v.nodes

  more : n < next x
  more = omega (arith, length-append v.arrows (new_arrow n ∷ rest))

  now_more : n ≤ next x
  now_more = omega (arith, more)

  some : 0 < n
  some = omega (arith)

  earlier_op : (a : Publics) (t : ℕ → Bool) → IsLabelling a t x.arrows → IsLabelling a t v.arrows
  earlier_op a t l = record { first = l.first; keeps = keeps_left a t v.arrows (new_arrow n ∷ rest) l.keeps }

  bounded_op : IsBounded v → IsBounded x
  bounded_op b =
      let up : (k : Key) → v.nodes k < next x = λ k. omega (arith, b.nodes k, more) in
      let zero_below : 0 < next x = omega (arith) in
      record {
        nodes = put_below (next x) n more p.to v.nodes up;
        arrows =
            arrows_both (next x) v.arrows (new_arrow n ∷ rest) (arrows_more n (next x) v.arrows now_more b.arrows)
            ((zero_below, (some, more)), arrows_both (next x) (arrows_from v.nodes os n) (lefts_arrows n p.to) (from_below (next x) n some more v.nodes up os) (lefts_below (next x) n more p.to));
        asked =
            asked_below_both (next x) v.asked all_asked (asked_more n (next x) v.asked now_more b.asked)
            (asked_below_both (next x) right_asked (lefts_asked n p.to v.nodes) (asks_below (next x) v.nodes up (right_reading p).demands) (lefts_asked_below (next x) n more p.to v.nodes up));
      }

  none_public : (a s : Publics) → first_secret a s os ≡ None → gives_public a s p ≡ true
  none_public a s e = value_is a s p ∙ ap is_none e

  public_none : (a s : Publics) → gives_public a s p ≡ true → first_secret a s os ≡ None
  public_none a s e = by (first_secret a s os) (sym (value_is a s p) ∙ e)
    where
      by : (y : Option Secret) → is_none y ≡ true → y ≡ None
      by None h = refl
      by (Some z) h = absurd (cc h)

  -- where the value's label is public, all that it comes of is
  value_public : (a : Publics) (t : ℕ → Bool) → IsLabelling a t x.arrows → t n ≡ true → gives_public a (labels_of t v.nodes) p ≡ true
  value_public a t l h =
      let k = keeps_right a t v.arrows (new_arrow n ∷ rest) l.keeps in
      none_public a (labels_of t v.nodes) (sources_public a t v.nodes n os (keeps_left a t (arrows_from v.nodes os n) (lefts_arrows n p.to) k.1) h)

  along_op : (a : Publics) (t : ℕ → Bool) (s : Publics) → IsLabelling a t x.arrows → Below (labels_of t v.nodes) s → Along (op o) x a t s
  along_op a t s l b =
      let k = keeps_right a t v.arrows (new_arrow n ∷ rest) l.keeps in
      let f : t n ≡ true → gives_public a s p ≡ true = λ h. gives_more a a (labels_of t v.nodes) s (below_self a) b p (value_public a t l h) in
      record {
        behind = relabels a p s;
        below = lefts_under t n (gives_public a s p) f p.to v.nodes s b;
        meets = λ r y w m. (none_written a t n p.to (gives_public a s p) f (keeps_right a t (arrows_from v.nodes os n) (lefts_arrows n p.to) k.1), m);
        spares = λ r q w e.
            let i = neither (sets_lefts q p.to) (sets q r) e in
            (i.1, λ h. spared_lefts (gives_public a s p) p.to s q i.0 ∙ h);
      }

  module _ (a : Publics) (t : ℕ → Bool) (b : IsBounded v) (l : IsLabelling a t v.arrows) where
    abbrev s : Publics
    s = labels_of t v.nodes

    abbrev z : Bool
    z = gives_public a s p

    abbrev u : ℕ → Bool
    u = from_on n t (only_at n z)

    agrees_op : Agrees n t u
    agrees_op = below_on n t (only_at n z)

    at_n : u n ≡ z
    at_n = behind_on n t (only_at n z) n (omega (arith)) ∙ at_itself n z

    before : s ≡ labels_of u v.nodes
    before = fun_ext (λ q. sym (agrees_op (v.nodes q) (b.nodes q)))

    behind_is : relabels a p s ≡ labels_of u x.nodes
    behind_is = lefts_labels u n z at_n p.to v.nodes s before

    origin_is : (q : Origin) → label a u (vertex_in v.nodes q) ≡ is_public a s q
    origin_is q = label_agrees n a t u (vertex_in v.nodes q) agrees_op (origin_below n v.nodes b.nodes q) ∙ origin_label a t v.nodes q

    labelling_op : secret_written a p s ≡ None → IsLabelling a u x.arrows
    labelling_op e =
        let zero_is : u 0 ≡ true = agrees_op 0 some ∙ l.first in
        record {
          first = zero_is;
          keeps =
              keeps_both a u v.arrows (new_arrow n ∷ rest) (keeps_agreed n a t u v.arrows agrees_op b.arrows l.keeps)
              (λ h. zero_is, keeps_both a u (arrows_from v.nodes os n) (lefts_arrows n p.to) (from_kept a u s v.nodes n os origin_is (λ h. public_none a s (sym at_n ∙ h))) (lefts_kept a u n p.to z at_n e));
        }

    asked_is : breach_in_operation a p s ≡ first_asked a u all_asked
    asked_is =
        operation_is a s p
        ∙ sym (asked_both a u right_asked (lefts_asked n p.to v.nodes)
        ∙ ap (λ y. first y (first_asked a u (lefts_asked n p.to v.nodes))) (asks_are a u v.nodes (right_reading p).demands ∙ ap (λ (y : Publics). first_breach a y (right_reading p).demands) (sym before))
        ∙ ap (first (first_breach a s (right_reading p).demands)) (lefts_asked_are a u n z at_n p.to v.nodes s before))

    most_op : (c : Publics) (w : ℕ → Bool) → Below c a → IsLabelling c w x.arrows → Under n w t → Under (next x) w u
    most_op c w d k f i e h = by (nat_lt i n) refl (nat_eq i n) refl
      where
        by : (y : Bool) → nat_lt i n ≡ y → (y2 : Bool) → nat_eq i n ≡ y2 → (if y then t i else (if y2 then z else true)) ≡ true
        by true q y2 q2 = f i (grind (arith, nat_tests, q)) h
        by false q false q2 = refl
        by false q true q2 =
            let same : i ≡ n = grind (arith, nat_tests, q2) in
            gives_more c a (labels_of w v.nodes) s d (λ g j. f (v.nodes g) (b.nodes g) j) p (value_public c w k (ap w (sym same) ∙ h))

  told_op : (a : Publics) (t : ℕ → Bool) (r : Block) (s0 x0 : Publics) → IsBounded v → IsLabelling a t v.arrows → Below s0 (labels_of t v.nodes) → Meets (flow a) (writes a) (op o r) s0 x0 → Told a t (op o) v x all_asked r x0
  told_op a t r s0 x0 b l d m = record {
    labels = u a t b l;
    agrees = agrees_op a t b l;
    labelling = labelling_op a t b l (written_less a s0 (s a t b l) d p m.0);
    after = λ y h. subst (λ (q : Publics). After (flow a) r q y) (behind_is a t b l) h;
    first = λ w h.
        first_same (breach_in_operation a p (s a t b l)) (first_asked a (u a t b l) all_asked) w (First (flow a) (breaches a) r (labels_of (u a t b l) x.nodes) w no_more) (asked_is a t b l)
        (subst (λ (q : Publics). FirstOf (breach_in_operation a p (s a t b l)) w (First (flow a) (breaches a) r q w no_more)) (behind_is a t b l) h);
    kept = relabels a p s0;
    less = subst (λ (q : Publics). Below (relabels a p s0) q) (behind_is a t b l) (relabels_more a a s0 (s a t b l) (below_self a) d p);
    meets = m.1;
    most = most_op a t b l;
  }

  pub op_drawn : Draws (op o) v x
  op_drawn = record {
    free = λ r w. w.1;
    longer = now_more;
    earlier = earlier_op;
    asked = all_asked;
    asked_are = refl;
    bounded = bounded_op;
    along = along_op;
    told = told_op;
  }
