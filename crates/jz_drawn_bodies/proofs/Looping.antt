-- What is drawn of a loop: the scalars that it sets have labels of their own at its head, and what
-- they have at the end of a turn comes back to these.
use Rattle.std.proofs.Common.{◌≡◌, ◌⊎◌, inl, inr, ◌<◌, ℕ, Bool, true, false, List, [], ◌∷◌, ◌++◌, Option, Some, None, if◌then◌else◌, refl, sym, ap, ◌∙◌, subst, arith, append_assoc}
use Rattle.std.specs.Prelude.{◌||◌, nat_lt}
use Rattle.std.proofs.Math.Path.{fun_ext}
use Rattle.std.proofs.lemmas.Bool.{false≢true}
use Rattle.std.proofs.lemmas.Bool.Decides.{nat_tests}
use Rattle.jz_runs.specs.Trees.{done, op, quiet, choose, loop, each, call}
use Rattle.jz_meaning.specs.States.{Key, same_key}
use Rattle.jz_meaning.specs.Values.{key_of}
use Rattle.jz_meaning.specs.Statements.{Condition, Block}
use Rattle.jz_flow.specs.Sets.{Below}
use Rattle.jz_flow.specs.Flow.{After, IsHead, OneTurn}
use Rattle.jz_flow.specs.Alarms.{FirstOf, First, Meets, no_more}
use Rattle.jz_flow.proofs.Ordering.{below_self, one_head, more}
use Rattle.jz_labels.specs.Operations.{Left, nothing, scalar, element, bytes, plain_of, tested_by}
use Rattle.jz_labels.specs.Labels.{Publics, first, leaving}
use Rattle.jz_labels.specs.Required.{Breach, breach_in_test}
use Rattle.jz_labels.proofs.MoreLabels.{labels_monotone, leaving_more}
use Rattle.jz_labels.proofs.Keys.{is_among, not_left, not_right}
use Rattle.jz_labels.proofs.Existing.{IsWhole, keys_of, set_in, some_after, found, leaving_spares}
use Rattle.jz_labels.proofs.Comparing.{meets_whole, head_below}
use Rattle.jz_secrets.specs.Graphs.{IsLabelling}
use Rattle.jz_drawing.specs.Drawings.{Asked, View, next, asks_in, with_asked, IsFree, sets_lefts, sets, labels_of, first_asked, IsBounded, flow, breaches, writes}
use Rattle.jz_drawing.specs.Draws.{Agrees, Under, AllUnder, from_on, owned, Along, Told, Draws, Renews, ComesBack}
use Rattle.jz_drawing.proofs.Labellings.{first_then, first_as, first_is, first_same, asked_both, asked_agrees, keeps_agreed, below_on, behind_on}
use Rattle.jz_drawn_bodies.proofs.Choosing.{test_bounded, test_asks, labels_stay, asked_behind}
use Rattle.jz_required.specs.Readings.{test_demands}

neither : (a b : Bool) → (a || b) ≡ false → (a ≡ false) × (b ≡ false)
neither true b e = absurd (cc e)
neither false b e = (refl, e)

nor : (a b : Bool) → a ≡ false → b ≡ false → (a || b) ≡ false
nor true b e f = absurd (cc e)
nor false b e f = f

-- ---- which scalars are set, as a list

among_both : (q : Key) (ks ls : List Key) (x y : Bool) → is_among q ks ≡ x → is_among q ls ≡ y → is_among q (ks ++ ls) ≡ (x || y)
among_both q [] ls x y e f = f ∙ ap (λ z. z || y) e
among_both q (k ∷ ks) ls x y e f = by (same_key q k) e (λ z. among_both q ks ls z y)
  where
    by : (c : Bool) → (c || is_among q ks) ≡ x → ((z : Bool) → is_among q ks ≡ z → is_among q ls ≡ y → is_among q (ks ++ ls) ≡ (z || y)) → (c || is_among q (ks ++ ls)) ≡ (x || y)
    by true g h = ap (λ z. z || y) g
    by false g h = h x g f

among_lefts : (q : Key) (ds : List Left) → is_among q (keys_of ds) ≡ sets_lefts q ds
among_lefts q [] = refl
among_lefts q (nothing ∷ ds) = among_lefts q ds
among_lefts q (scalar x ∷ ds) = ap (λ z. same_key q (key_of x) || z) (among_lefts q ds)
among_lefts q (element x i ∷ ds) = among_lefts q ds
among_lefts q (bytes p i ∷ ds) = among_lefts q ds

among_sets : (a : Publics) (q : Key) (t : Block) → is_among q (set_in plain_of tested_by a t) ≡ sets q t
among_sets a q done = refl
among_sets a q (op o r) = among_both q (keys_of (plain_of o).to) (set_in plain_of tested_by a r) (sets_lefts q (plain_of o).to) (sets q r) (among_lefts q (plain_of o).to) (among_sets a q r)
among_sets a q (quiet o r) = among_sets a q r
among_sets a q (choose c d b r) =
    among_both q (set_in plain_of tested_by a d) (set_in plain_of tested_by a b ++ set_in plain_of tested_by a r) (sets q d) (sets q b || sets q r) (among_sets a q d)
    (among_both q (set_in plain_of tested_by a b) (set_in plain_of tested_by a r) (sets q b) (sets q r) (among_sets a q b) (among_sets a q r))
among_sets a q (loop w p c b r) =
    among_both q (set_in plain_of tested_by a p ++ set_in plain_of tested_by a b) (set_in plain_of tested_by a r) (sets q p || sets q b) (sets q r)
    (among_both q (set_in plain_of tested_by a p) (set_in plain_of tested_by a b) (sets q p) (sets q b) (among_sets a q p) (among_sets a q b)) (among_sets a q r)
among_sets a q (each f b r) = refl
among_sets a q (call c b r) = refl

-- ---- the head of a loop, where what no turn sets is as before

pub record LoopHead (a : Publics) (p : Block) (c : Condition) (b : Block) (s : Publics) : Type 0 where
  pub public : Publics
  pub is_head : IsHead (OneTurn (flow a) p c b) s public
  pub stays : (k : Key) → sets k p ≡ false → sets k b ≡ false → s k ≡ true → public k ≡ true

loop_head : (a : Publics) (p : Block) (c : Condition) (b : Block) → IsWhole p → IsWhole b → (s : Publics) → LoopHead a p c b s
loop_head a p c b wp wb s =
    let prologue = λ (x : Publics). some_after plain_of tested_by a p wp x in
    let body = λ (x : Publics). some_after plain_of tested_by a b wb x in
    let f = found (set_in plain_of tested_by a p ++ set_in plain_of tested_by a b) (λ x y. (z : Publics) × After (flow a) p x z × After (flow a) b z y) (λ x. (body (prologue x).0).0)
    (λ x. ((prologue x).0, (prologue x).1, (body (prologue x).0).1))
    (λ x q n e. (body (prologue x).0).2 q (not_right q (set_in plain_of tested_by a p) (set_in plain_of tested_by a b) n) ((prologue x).2 q (not_left q (set_in plain_of tested_by a p) (set_in plain_of tested_by a b) n) e))
    (λ x y z v h k l.
    more (flow a) (labels_monotone plain_of tested_by a) b k.0 l.0 z v
    (more (flow a) (labels_monotone plain_of tested_by a) p x y k.0 l.0 h k.1 l.1) k.2 l.2) s in
    record {
      public = f.0;
      is_head = f.1;
      stays = λ k e g h.
          f.2 k (among_both k (set_in plain_of tested_by a p) (set_in plain_of tested_by a b) false false (among_sets a k p ∙ e) (among_sets a k b ∙ g)) h;
    }

module _ (w : Bool) (c : Condition) (f g : Block → Block) (v vh vp vb ve vl : View) (out : Key → ℕ) (is_new : Key → Bool)
    (re : Renews (λ k. v.nodes k ∷ []) is_new v vh)
    (dp : Draws f vh vp)
    (db : Draws g (with_asked (asks_in vp.nodes (test_demands (tested_by c))) vp) vb)
    (back : ComesBack vh.nodes vb.nodes is_new vb ve)
    (left : vl ≡ record { nodes = out; arrows = ve.arrows; asked = ve.asked })
    (out_is : (k : Key) → (out k ≡ 0) ⊎ (out k ≡ vp.nodes k))
    (leaves : (t : ℕ → Bool) → t 0 ≡ true → (k : Key) → t (out k) ≡ leaving (tested_by c) (labels_of t vp.nodes) k)
    (covers : (k : Key) → is_new k ≡ false → (sets k (f done) ≡ false) × (sets k (g done) ≡ false)) where
  abbrev asks : List Asked
  asks = asks_in vp.nodes (test_demands (tested_by c))

  abbrev vt : View
  vt = with_asked asks vp

  abbrev vo : View
  vo = record { nodes = out; arrows = ve.arrows; asked = ve.asked }

  abbrev all_asked : List Asked
  all_asked = dp.asked ++ (asks ++ db.asked)

  abbrev pub turns : Block → Block
  turns r = loop w (f done) c (g done) r

  sources_under : IsBounded v → (k : Key) → AllUnder (next v) (v.nodes k ∷ [])
  sources_under b k = (b.nodes k, tt)

  head_bounded : IsBounded v → IsBounded vh
  head_bounded b = re.bounded (sources_under b) b

  prologue_bounded : IsBounded v → IsBounded vp
  prologue_bounded b = dp.bounded (head_bounded b)

  test_is_bounded : IsBounded v → IsBounded vt
  test_is_bounded b = test_bounded c vp (prologue_bounded b)

  body_bounded : IsBounded v → IsBounded vb
  body_bounded b = db.bounded (test_is_bounded b)

  head_node : IsBounded v → (k : Key) → is_new k ≡ true → (0 < vh.nodes k) × (vh.nodes k < next vb)
  head_node b k e = let x = re.fresh k e in (omega (arith, x.0), omega (arith, x.1, dp.longer, db.longer))

  end_bounded : IsBounded v → IsBounded ve
  end_bounded b = back.bounded (head_node b) (body_bounded b).nodes (body_bounded b)

  out_bounded : IsBounded v → IsBounded vo
  out_bounded b = let x = end_bounded b in record { nodes = λ k. by k (out_is k); arrows = x.arrows; asked = x.asked }
    where
      by : (k : Key) → (out k ≡ 0) ⊎ (out k ≡ vp.nodes k) → out k < next ve
      by k (inl e) = omega (arith, e)
      by k (inr e) = omega (arith, e, (prologue_bounded b).nodes k, db.longer, back.longer)

  asked_so : vo.asked ≡ v.asked ++ all_asked
  asked_so =
      back.asked ∙ db.asked_are ∙ ap (λ z. (z ++ asks) ++ db.asked) (dp.asked_are ∙ ap (λ z. z ++ dp.asked) re.asked) ∙ append_assoc (v.asked ++ dp.asked) asks db.asked
      ∙ append_assoc v.asked dp.asked (asks ++ db.asked)

  earlier_body : (a : Publics) (t : ℕ → Bool) → IsLabelling a t ve.arrows → IsLabelling a t vp.arrows
  earlier_body a t l = db.earlier a t (back.earlier a t l)

  earlier_so : (a : Publics) (t : ℕ → Bool) → IsLabelling a t ve.arrows → IsLabelling a t v.arrows
  earlier_so a t l = re.earlier a t (dp.earlier a t (earlier_body a t l))

  -- ---- some labels

  module _ (a : Publics) (t : ℕ → Bool) (s : Publics) (l : IsLabelling a t ve.arrows) (b : Below (labels_of t v.nodes) s) where
    abbrev is_set : Key → Bool
    is_set k = sets k (f done) || sets k (g done)

    -- at the head of the loop
    abbrev pub at_head : Publics
    at_head k = if is_set k then t (vh.nodes k) else s k

    lh : IsLabelling a t vh.arrows
    lh = dp.earlier a t (earlier_body a t l)

    node_before : (k : Key) → t (vh.nodes k) ≡ true → s k ≡ true
    node_before k h = by (is_new k) refl
      where
        by : (n : Bool) → is_new k ≡ n → s k ≡ true
        by true e = b k (re.comes a t (vh.nodes k) k lh (re.fresh k e).2 h).0
        by false e = b k (ap t (sym (re.kept k e)) ∙ h)

    set_is_new : (k : Key) → is_set k ≡ true → is_new k ≡ true
    set_is_new k e = by (is_new k) refl
      where
        by : (n : Bool) → is_new k ≡ n → n ≡ true
        by true h = refl
        by false h = let x = covers k h in absurd (false≢true (sym (nor (sets k (f done)) (sets k (g done)) x.0 x.1) ∙ e))

    head_less : Below at_head s
    head_less k h = by (is_set k) h
      where
        by : (n : Bool) → (if n then t (vh.nodes k) else s k) ≡ true → s k ≡ true
        by true j = node_before k j
        by false j = j

    head_more : Below (labels_of t vh.nodes) at_head
    head_more k h = by (is_set k)
      where
        by : (n : Bool) → (if n then t (vh.nodes k) else s k) ≡ true
        by true = h
        by false = node_before k h

    pub prologue : Along f vp a t at_head
    prologue = dp.along a t at_head (earlier_body a t l) head_more

    pub body : Along g vb a t prologue.behind
    body = db.along a t prologue.behind (back.earlier a t l) prologue.below

    pub turn_more : IsFree (f done) → IsFree (g done) → Below at_head body.behind
    turn_more wp wb k h = by (is_set k) refl h
      where
        by : (n : Bool) → is_set k ≡ n → (if n then t (vh.nodes k) else s k) ≡ true → body.behind k ≡ true
        by true e j = body.below k (back.comes a t k l (set_is_new k e) j)
        by false e j =
            let x = neither (sets k (f done)) (sets k (g done)) e in
            (body.spares done k wb x.1).1 ((prologue.spares done k wp x.0).1 (ap (λ n. if n then t (vh.nodes k) else s k) e ∙ j))

    along_so : Along turns vo a t s
    along_so = record {
      behind = leaving (tested_by c) prologue.behind;
      below = λ k h. leaving_more (labels_of t vp.nodes) prologue.behind prologue.below (tested_by c) k (sym (leaves t l.first k) ∙ h);
      meets = λ r x w m. (at_head, prologue.behind, body.behind, head_less, prologue.meets done prologue.behind w.1 refl, refl, body.meets done body.behind w.2 refl, turn_more w.1 w.2, m);
      spares = λ r k w e.
          let x = neither (sets k (f done) || sets k (g done)) (sets k r) e in
          let y = neither (sets k (f done)) (sets k (g done)) x.0 in
          (x.1, λ h. leaving_spares (tested_by c) prologue.behind k ((prologue.spares done k w.1 y.0).1 (ap (λ n. if n then t (vh.nodes k) else s k) x.0 ∙ h)));
    }

  -- ---- the labels of runs

  module _ (a : Publics) (t : ℕ → Bool) (r : Block) (s0 x0 : Publics) (b : IsBounded v) (l : IsLabelling a t v.arrows) (d : Below s0 (labels_of t v.nodes)) (m : Meets (flow a) (writes a) (turns r) s0 x0) where
    abbrev S : Publics
    S = labels_of t v.nodes

    wp : IsFree (f done)
    wp = meets_whole (flow a) (writes a) (f done) m.0 m.1 m.4

    wb : IsFree (g done)
    wb = meets_whole (flow a) (writes a) (g done) m.1 m.2 m.6

    h : LoopHead a (f done) c (g done) S
    h = loop_head a (f done) c (g done) wp wb S

    abbrev H : Publics
    H = h.public

    abbrev rest : ℕ → Bool
    rest i = owned H (re.owner i)

    abbrev th : ℕ → Bool
    th = from_on (next v) t rest

    agree_head : Agrees (next v) t th
    agree_head = below_on (next v) t rest

    labelling_head : IsLabelling a th vh.arrows
    labelling_head = re.labelled a t H l b (sources_under b) (λ k e. (h.is_head.0.0 k e, tt))

    same_bool : (x y : Bool) → (x ≡ true → y ≡ true) → (y ≡ true → x ≡ true) → x ≡ y
    same_bool true y p q = sym (p refl)
    same_bool false true p q = q refl
    same_bool false false p q = refl

    head_is : (k : Key) → th (vh.nodes k) ≡ H k
    head_is k = by (is_new k) refl
      where
        by : (n : Bool) → is_new k ≡ n → th (vh.nodes k) ≡ H k
        by true e = let x = re.fresh k e in behind_on (next v) t rest (vh.nodes k) x.0 ∙ ap (owned H) x.2
        by false e =
            let x = covers k e in
            ap th (re.kept k e) ∙ agree_head (v.nodes k) (b.nodes k) ∙ same_bool (S k) (H k) (h.stays k x.0 x.1) (h.is_head.0.0 k)

    at_head_is : labels_of th vh.nodes ≡ H
    at_head_is = fun_ext head_is

    low : Below m.0 H
    low = head_below plain_of tested_by a a (below_self a) (writes a) (f done) c (g done) s0 S m.0 m.1 m.2 H d m.3 m.4 m.6 m.7 h.is_head

    one : Told a th f vh vp dp.asked done m.1
    one = dp.told a th done m.0 m.1 (head_bounded b) labelling_head (subst (λ (s : Publics). Below m.0 s) (sym at_head_is) low) m.4

    abbrev Z : Publics
    Z = labels_of one.labels vp.nodes

    two : Told a one.labels g vt vb db.asked done m.2
    two = db.told a one.labels done m.1 m.2 (test_is_bounded b) one.labelling (subst (λ (s : Publics). Below s Z) (sym one.meets) one.less) m.6

    abbrev Y : Publics
    Y = labels_of two.labels vb.nodes

    after_prologue : (y : Publics) → After (flow a) (f done) H y → y ≡ Z
    after_prologue y e = one.after y (subst (λ (s : Publics). After (flow a) (f done) s y) (sym at_head_is) e)

    turn_is : Below H Y
    turn_is =
        let k = h.is_head.0 in
        let z = k.2 in
        let at : z.0 ≡ Z = after_prologue z.0 z.1 in
        let y : k.1 ≡ Y = two.after k.1 (subst (λ (s : Publics). After (flow a) (g done) s k.1) at z.2) in
        subst (λ (s : Publics). Below H s) y k.3

    abbrev labels : ℕ → Bool
    labels = from_on (next vb) two.labels (λ i. true)

    agree : Agrees (next vb) two.labels labels
    agree = below_on (next vb) two.labels (λ i. true)

    agree_one : Agrees (next vp) one.labels labels
    agree_one i e = agree i (omega (arith, e, db.longer)) ∙ two.agrees i e

    agree_all : Agrees (next v) t labels
    agree_all i e = agree_one i (omega (arith, e, re.longer, dp.longer)) ∙ one.agrees i (omega (arith, e, re.longer)) ∙ agree_head i e

    head_stays : (k : Key) → labels (vh.nodes k) ≡ H k
    head_stays k =
        let x = (head_bounded b).nodes k in
        agree_one (vh.nodes k) (omega (arith, x, dp.longer)) ∙ one.agrees (vh.nodes k) x ∙ head_is k

    labelling_so : IsLabelling a labels ve.arrows
    labelling_so =
        back.labelled a labels (record { first = agree 0 (omega (arith)) ∙ two.labelling.first; keeps = keeps_agreed (next vb) a two.labels labels vb.arrows agree (body_bounded b).arrows two.labelling.keeps })
        (λ k e. agree (vb.nodes k) ((body_bounded b).nodes k) ∙ turn_is k (sym (head_stays k) ∙ e))

    behind_prologue : labels_of labels vp.nodes ≡ Z
    behind_prologue = labels_stay (next vp) one.labels labels vp.nodes agree_one (prologue_bounded b).nodes

    out_labels : leaving (tested_by c) Z ≡ labels_of labels out
    out_labels = fun_ext (λ k. ap (λ (s : Publics). leaving (tested_by c) s k) (sym behind_prologue) ∙ sym (leaves labels labelling_so.first k))

    heads_are : (y : Publics) → IsHead (OneTurn (flow a) (f done) c (g done)) S y → y ≡ H
    heads_are y e = one_head (flow a) (labels_monotone plain_of tested_by a) (f done) c (g done) S y H e h.is_head

    prologues_are : (y z : Publics) → IsHead (OneTurn (flow a) (f done) c (g done)) S y → After (flow a) (f done) y z → z ≡ Z
    prologues_are y z e p = after_prologue z (subst (λ (s : Publics). After (flow a) (f done) s z) (heads_are y e) p)

    after_so : (x : Publics) → After (flow a) (turns r) S x → After (flow a) r (labels_of labels out) x
    after_so x (y, z, e, p, q) =
        subst (λ (s : Publics). After (flow a) r s x) out_labels (subst (λ (s : Publics). After (flow a) r (leaving (tested_by c) s) x) (prologues_are y z e p) q)

    abbrev Rest : Option Breach → Type 0
    Rest y = First (flow a) (breaches a) r (labels_of labels out) y no_more

    abbrev BodyFirst : Publics → Option Breach → Type 0
    BodyFirst q y = (u : Option Breach) × First (flow a) (breaches a) (g done) q u no_more × FirstOf u y (First (flow a) (breaches a) r (leaving (tested_by c) q) y no_more)

    body_first : (q : Publics) (y : Option Breach) → q ≡ Z → BodyFirst q y → FirstOf (first_asked a two.labels db.asked) y (Rest y)
    body_first q y e (u, i, j) =
        first_same u (first_asked a two.labels db.asked) y (Rest y)
        (first_is (first_asked a two.labels db.asked) u (two.first u (subst (λ (s : Publics). First (flow a) (breaches a) (g done) s u no_more) e i)))
        (first_as u y (λ k. subst (λ (s : Publics). First (flow a) (breaches a) r s y no_more) out_labels (subst (λ (s : Publics). First (flow a) (breaches a) r (leaving (tested_by c) s) y no_more) e k)) j)

    abbrev TestFirst : Publics → Option Breach → Type 0
    TestFirst x y = (q : Publics) × After (flow a) (f done) x q × FirstOf (breach_in_test a (tested_by c) q) y (BodyFirst q y)

    test_first : (x : Publics) (y : Option Breach) → IsHead (OneTurn (flow a) (f done) c (g done)) S x → TestFirst x y
        → FirstOf (first (breach_in_test a (tested_by c) Z) (first_asked a two.labels db.asked)) y (Rest y)
    test_first x y e (q, i, j) =
        let at : q ≡ Z = prologues_are x q e i in
        first_then (breach_in_test a (tested_by c) Z) (first_asked a two.labels db.asked) y (Rest y)
        (first_same (breach_in_test a (tested_by c) q) (breach_in_test a (tested_by c) Z) y (FirstOf (first_asked a two.labels db.asked) y (Rest y)) (ap (breach_in_test a (tested_by c)) at)
        (first_as (breach_in_test a (tested_by c) q) y (body_first q y at) j))

    abbrev later_asked : Option Breach
    later_asked = first (breach_in_test a (tested_by c) Z) (first_asked a two.labels db.asked)

    asked_is : first_asked a labels all_asked ≡ first (first_asked a one.labels dp.asked) later_asked
    asked_is =
        asked_both a labels dp.asked (asks ++ db.asked)
        ∙ ap (λ z. first z (first_asked a labels (asks ++ db.asked))) (asked_agrees (next vp) a one.labels labels dp.asked agree_one (asked_behind vh vp dp.asked dp.asked_are (prologue_bounded b)))
        ∙ ap (first (first_asked a one.labels dp.asked)) (asked_both a labels asks db.asked
        ∙ ap (λ z. first z (first_asked a labels db.asked)) (test_asks c vp a one.labels labels behind_prologue)
        ∙ ap (first (breach_in_test a (tested_by c) Z)) (asked_agrees (next vb) a two.labels labels db.asked agree (asked_behind vt vb db.asked db.asked_are (body_bounded b))))

    first_so : (y : Option Breach) → First (flow a) (breaches a) (turns r) S y no_more → FirstOf (first_asked a labels all_asked) y (Rest y)
    first_so y (x, e, u, i, j) =
        first_same (first (first_asked a one.labels dp.asked) later_asked) (first_asked a labels all_asked) y (Rest y) (sym asked_is)
        (first_then (first_asked a one.labels dp.asked) later_asked y (Rest y)
        (first_same u (first_asked a one.labels dp.asked) y (FirstOf later_asked y (Rest y))
        (first_is (first_asked a one.labels dp.asked) u (one.first u (subst (λ (s : Publics). First (flow a) (breaches a) (f done) s u no_more) (heads_are x e ∙ sym at_head_is) i)))
        (first_as u y (test_first x y e) j)))

    most_so : (e : Publics) (q : ℕ → Bool) → Below e a → IsLabelling e q ve.arrows → Under (next v) q t → Under (next ve) q labels
    most_so e q k n u =
        let s1 = labels_of q v.nodes in
        let below = λ (y : Key) (j : s1 y ≡ true). u (v.nodes y) (b.nodes y) j in
        let same = below_self s1 in
        let p = prologue e q s1 n same in
        let o = body e q s1 n same in
        let lower = head_below plain_of tested_by e a k (writes e) (f done) c (g done) s1 S (at_head e q s1 n same) p.behind o.behind H below (head_less e q s1 n same) (p.meets done p.behind wp refl) (o.meets done o.behind wb refl)
        (turn_more e q s1 n same wp wb) h.is_head in
        let heads : (i : ℕ) (y : Key) → re.owner i ≡ Some y → q i ≡ true → H y ≡ true =
        λ i y x j. lower y (head_more e q s1 n same y (ap q (sym (re.one i y x).1) ∙ j)) in
        let u1 : Under (next vh) q th = at_heads heads in
        let u2 : Under (next vp) q one.labels = one.most e q k (earlier_body e q n) u1 in
        let u3 : Under (next vb) q two.labels = two.most e q k (back.earlier e q n) u2 in
        λ i x j. by_on u3 i (nat_lt i (next vb)) refl j
      where
        at_heads : ((i : ℕ) (y : Key) → re.owner i ≡ Some y → q i ≡ true → H y ≡ true) → Under (next vh) q th
        at_heads heads i x j = by (nat_lt i (next v)) refl (re.owner i) refl
          where
            by : (y : Bool) → nat_lt i (next v) ≡ y → (p : Option Key) → re.owner i ≡ p → (if y then t i else owned H p) ≡ true
            by true z p o = u i (grind (arith, nat_tests, z)) j
            by false z None o = refl
            by false z (Some y) o = heads i y o j

        by_on : Under (next vb) q two.labels → (i : ℕ) (y : Bool) → nat_lt i (next vb) ≡ y → q i ≡ true → (if y then two.labels i else true) ≡ true
        by_on u3 i true z j = u3 i (grind (arith, nat_tests, z)) j
        by_on u3 i false z j = refl

    told_so : Told a t turns v vo all_asked r x0
    told_so = record {
      labels = labels;
      agrees = agree_all;
      labelling = labelling_so;
      after = after_so;
      first = first_so;
      kept = leaving (tested_by c) m.1;
      less =
          subst (λ (s : Publics). Below (leaving (tested_by c) m.1) s) out_labels
          (leaving_more m.1 Z (subst (λ (s : Publics). Below s Z) (sym one.meets) one.less) (tested_by c));
      meets = m.8;
      most = most_so;
    }

  pub loop_drawn : Draws turns v vl
  loop_drawn = subst (λ (x : View). Draws turns v x) (sym left) (record {
    free = λ r w. w.3;
    longer = omega (arith, re.longer, dp.longer, db.longer, back.longer);
    earlier = earlier_so;
    asked = all_asked;
    asked_are = asked_so;
    bounded = out_bounded;
    along = along_so;
    told = told_so;
  })
