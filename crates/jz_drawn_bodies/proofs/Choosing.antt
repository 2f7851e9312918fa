-- What is drawn of two arms and of where they meet.
use Rattle.std.proofs.Common.{◌≡◌, ◌⊎◌, inl, inr, ◌<◌, ℕ, Bool, true, false, ◌&&◌, List, [], ◌∷◌, ◌++◌, Option, Some, None, if◌then◌else◌, refl, sym, ap, ◌∙◌, subst, arith, append_assoc}
use Rattle.std.specs.Prelude.{◌||◌, nat_lt}
use Rattle.std.proofs.Math.Path.{fun_ext}
use Rattle.std.proofs.lemmas.Bool.{and_parts, and_from}
use Rattle.std.proofs.lemmas.Bool.Decides.{nat_tests}
use Rattle.jz_runs.specs.Trees.{done, choose}
use Rattle.jz_meaning.specs.States.{Key}
use Rattle.jz_meaning.specs.Statements.{Condition, Block}
use Rattle.jz_flow.specs.Sets.{Below, common}
use Rattle.jz_flow.specs.Flow.{After}
use Rattle.jz_flow.specs.Alarms.{FirstOf, First, Meets, no_more}
use Rattle.jz_flow.proofs.Ordering.{common_below}
use Rattle.jz_labels.specs.Operations.{tested_by}
use Rattle.jz_labels.specs.Labels.{Publics, first}
use Rattle.jz_labels.specs.Required.{Breach, breach_in_test}
use Rattle.jz_required.specs.Readings.{test_demands, first_breach}
use Rattle.jz_required.proofs.Exact.{test_is}
use Rattle.jz_secrets.specs.Graphs.{IsLabelling}
use Rattle.jz_drawing.specs.Drawings.{Asked, View, next, asks_in, with_asked, sets, labels_of, first_asked, AreAskedBelow, IsBounded, flow, breaches, writes}
use Rattle.jz_drawing.specs.Draws.{Agrees, Under, AllPublic, AllUnder, from_on, owned, Along, Told, Draws, Renews}
use Rattle.jz_drawing.proofs.Labellings.{first_then, first_as, first_is, first_same, asked_both, asked_agrees, asked_below_right, asked_below_both, asks_are, asks_below, below_on, behind_on}

neither : (a b : Bool) → (a || b) ≡ false → (a ≡ false) × (b ≡ false)
neither true b e = absurd (cc e)
neither false b e = (refl, e)

-- ---- a test asks

pub test_bounded : (c : Condition) (v : View) → IsBounded v → IsBounded (with_asked (asks_in v.nodes (test_demands (tested_by c))) v)
test_bounded c v b = record {
  nodes = b.nodes;
  arrows = b.arrows;
  asked = asked_below_both (next v) v.asked (asks_in v.nodes (test_demands (tested_by c))) b.asked (asks_below (next v) v.nodes b.nodes (test_demands (tested_by c)));
}

pub test_asks : (c : Condition) (v : View) (a : Publics) (t u : ℕ → Bool) → labels_of u v.nodes ≡ labels_of t v.nodes → first_asked a u (asks_in v.nodes (test_demands (tested_by c))) ≡ breach_in_test a (tested_by c) (labels_of t v.nodes)
test_asks c v a t u e =
    asks_are a u v.nodes (test_demands (tested_by c)) ∙ ap (λ (s : Publics). first_breach a s (test_demands (tested_by c))) e ∙ sym (test_is a (labels_of t v.nodes) (tested_by c))

pub labels_stay : (n : ℕ) (t u : ℕ → Bool) (e : Key → ℕ) → Agrees n t u → ((k : Key) → e k < n) → labels_of u e ≡ labels_of t e
labels_stay n t u e g b = fun_ext (λ k. g (e k) (b k))

pub asked_behind : (v w : View) (xs : List Asked) → w.asked ≡ v.asked ++ xs → IsBounded w → AreAskedBelow (next w) xs
asked_behind v w xs e b = asked_below_right (next w) v.asked xs (subst (AreAskedBelow (next w)) e b.asked)

module _ (c : Condition) (f g : Block → Block) (v va vb vc : View) (base : Key → ℕ) (is_new : Key → Bool)
    (da : Draws f (with_asked (asks_in v.nodes (test_demands (tested_by c))) v) va)
    (db : Draws g (record { nodes = v.nodes; arrows = va.arrows; asked = va.asked }) vb)
    (re : Renews (λ k. va.nodes k ∷ vb.nodes k ∷ []) is_new (record { nodes = base; arrows = vb.arrows; asked = vb.asked }) vc)
    (base_is : (k : Key) → (base k ≡ 0) ⊎ (base k ≡ v.nodes k))
    (else_is : (k : Key) → is_new k ≡ false → (t : ℕ → Bool) → t 0 ≡ true → t (base k) ≡ (t (va.nodes k) && t (vb.nodes k))) where
  abbrev asks : List Asked
  asks = asks_in v.nodes (test_demands (tested_by c))

  abbrev vt : View
  vt = with_asked asks v

  abbrev vm : View
  vm = record { nodes = v.nodes; arrows = va.arrows; asked = va.asked }

  abbrev vj : View
  vj = record { nodes = base; arrows = vb.arrows; asked = vb.asked }

  abbrev sources : Key → List ℕ
  sources k = va.nodes k ∷ vb.nodes k ∷ []

  abbrev all_asked : List Asked
  all_asked = asks ++ (da.asked ++ db.asked)

  abbrev pub choice : Block → Block
  choice r = choose c (f done) (g done) r

  middle_bounded : IsBounded v → IsBounded vm
  middle_bounded b = let x = da.bounded (test_bounded c v b) in record { nodes = λ k. omega (arith, b.nodes k, da.longer); arrows = x.arrows; asked = x.asked }

  joined_bounded : IsBounded v → IsBounded vj
  joined_bounded b = let x = db.bounded (middle_bounded b) in record { nodes = λ k. by k (base_is k); arrows = x.arrows; asked = x.asked }
    where
      by : (k : Key) → (base k ≡ 0) ⊎ (base k ≡ v.nodes k) → base k < next vb
      by k (inl e) = omega (arith, e)
      by k (inr e) = omega (arith, e, b.nodes k, da.longer, db.longer)

  sources_under : IsBounded v → (k : Key) → AllUnder (next vj) (sources k)
  sources_under b k =
      let x = (da.bounded (test_bounded c v b)).nodes k in
      let y = (db.bounded (middle_bounded b)).nodes k in
      (omega (arith, x, db.longer), (y, tt))

  asked_so : vc.asked ≡ v.asked ++ all_asked
  asked_so =
      re.asked ∙ db.asked_are ∙ ap (λ z. z ++ db.asked) da.asked_are ∙ append_assoc (v.asked ++ asks) da.asked db.asked
      ∙ append_assoc v.asked asks (da.asked ++ db.asked)

  earlier_so : (a : Publics) (t : ℕ → Bool) → IsLabelling a t vc.arrows → IsLabelling a t v.arrows
  earlier_so a t l = da.earlier a t (db.earlier a t (re.earlier a t l))

  along_so : (a : Publics) (t : ℕ → Bool) (s : Publics) → IsLabelling a t vc.arrows → Below (labels_of t v.nodes) s → Along choice vc a t s
  along_so a t s l b =
      let x = da.along a t s (db.earlier a t (re.earlier a t l)) b in
      let y = db.along a t s (re.earlier a t l) b in
      record {
        behind = common x.behind y.behind;
        below = λ k h. by k (is_new k) refl x.behind y.behind x.below y.below h;
        meets = λ r z w m. (x.behind, y.behind, refl, x.meets done x.behind w.1 refl, y.meets done y.behind w.2 refl, m);
        spares = λ r k w e.
            let i = neither (sets k (f done)) (sets k (g done) || sets k r) e in
            let j = neither (sets k (g done)) (sets k r) i.1 in
            (j.1, λ h. and_from (x.behind k) (y.behind k) ((x.spares done k w.1 i.0).1 h) ((y.spares done k w.2 j.0).1 h));
      }
    where
      by : (k : Key) (n : Bool) → is_new k ≡ n → (p q : Publics) → Below (labels_of t va.nodes) p → Below (labels_of t vb.nodes) q → t (vc.nodes k) ≡ true → (p k && q k) ≡ true
      by k true e p q u w h =
          let d = re.comes a t (vc.nodes k) k l (re.fresh k e).2 h in
          and_from (p k) (q k) (u k d.0) (w k d.1.0)
      by k false e p q u w h =
          let d = and_parts (t (va.nodes k)) (t (vb.nodes k)) (sym (else_is k e t l.first) ∙ (ap t (sym (re.kept k e)) ∙ h)) in
          and_from (p k) (q k) (u k d.0) (w k d.1)

  module _ (a : Publics) (t : ℕ → Bool) (r : Block) (s0 x0 : Publics) (b : IsBounded v) (l : IsLabelling a t v.arrows) (d : Below s0 (labels_of t v.nodes)) (m : Meets (flow a) (writes a) (choice r) s0 x0) where
    abbrev S : Publics
    S = labels_of t v.nodes

    bt : IsBounded vt
    bt = test_bounded c v b

    one : Told a t f vt va da.asked done m.0
    one = da.told a t done s0 m.0 bt l d m.3

    abbrev X : Publics
    X = labels_of one.labels va.nodes

    before : labels_of one.labels v.nodes ≡ S
    before = labels_stay (next v) t one.labels v.nodes one.agrees b.nodes

    two : Told a one.labels g vm vb db.asked done m.1
    two = db.told a one.labels done s0 m.1 (middle_bounded b) one.labelling (subst (λ (s : Publics). Below s0 s) (sym before) d) m.4

    abbrev Y : Publics
    Y = labels_of two.labels vb.nodes

    abbrev both : Publics
    both = common X Y

    ba : IsBounded va
    ba = da.bounded bt

    abbrev tb : ℕ → Bool
    tb = two.labels

    first_stays : (k : Key) → tb (va.nodes k) ≡ X k
    first_stays k = two.agrees (va.nodes k) (ba.nodes k)

    abbrev rest : ℕ → Bool
    rest i = owned both (re.owner i)

    abbrev labels : ℕ → Bool
    labels = from_on (next vj) tb rest

    agree : Agrees (next vj) tb labels
    agree = below_on (next vj) tb rest

    comes_of : (k : Key) → both k ≡ true → AllPublic tb (sources k)
    comes_of k h = let p = and_parts (X k) (Y k) h in (first_stays k ∙ p.0, (p.1, tt))

    labelling_so : IsLabelling a labels vc.arrows
    labelling_so = re.labelled a tb both two.labelling (joined_bounded b) (sources_under b) comes_of

    node_is : (k : Key) → labels (vc.nodes k) ≡ both k
    node_is k = by (is_new k) refl
      where
        by : (n : Bool) → is_new k ≡ n → labels (vc.nodes k) ≡ both k
        by true e = let w = re.fresh k e in behind_on (next vj) tb rest (vc.nodes k) w.0 ∙ ap (owned both) w.2
        by false e =
            ap labels (re.kept k e) ∙ agree (base k) ((joined_bounded b).nodes k) ∙ else_is k e tb two.labelling.first
            ∙ ap (λ z. z && tb (vb.nodes k)) (first_stays k)

    behind_is : both ≡ labels_of labels vc.nodes
    behind_is = fun_ext (λ k. sym (node_is k))

    agree_all : Agrees (next v) t labels
    agree_all i h = agree i (omega (arith, h, da.longer, db.longer)) ∙ two.agrees i (omega (arith, h, da.longer)) ∙ one.agrees i h

    asked_is : first_asked a labels all_asked ≡ first (breach_in_test a (tested_by c) S) (first (first_asked a one.labels da.asked) (first_asked a two.labels db.asked))
    asked_is =
        asked_both a labels asks (da.asked ++ db.asked)
        ∙ ap (λ z. first z (first_asked a labels (da.asked ++ db.asked))) (test_asks c v a t labels (labels_stay (next v) t labels v.nodes agree_all b.nodes))
        ∙ ap (first (breach_in_test a (tested_by c) S)) (asked_both a labels da.asked db.asked
        ∙ ap (λ z. first z (first_asked a labels db.asked)) (asked_agrees (next va) a one.labels labels da.asked (λ i h. agree i (omega (arith, h, db.longer)) ∙ two.agrees i h) (asked_behind vt va da.asked da.asked_are ba))
        ∙ ap (first (first_asked a one.labels da.asked)) (asked_agrees (next vb) a two.labels labels db.asked agree (asked_behind vm vb db.asked db.asked_are (db.bounded (middle_bounded b)))))

    arm_two : (y : Publics) → After (flow a) (g done) S y → y ≡ Y
    arm_two y h = two.after y (subst (λ (s : Publics). After (flow a) (g done) s y) (sym before) h)

    after_so : (x : Publics) → After (flow a) (choice r) S x → After (flow a) r (labels_of labels vc.nodes) x
    after_so x (p, q, h, i, j) =
        let e = one.after p h in
        let k = arm_two q i in
        subst (λ (s : Publics). After (flow a) r s x) behind_is
        (subst (λ (z : Publics). After (flow a) r (common z Y) x) e (subst (λ (z : Publics). After (flow a) r (common p z) x) k j))

    abbrev Rest : Option Breach → Type 0
    Rest w = First (flow a) (breaches a) r (labels_of labels vc.nodes) w no_more

    second_first : (u : Option Breach) → First (flow a) (breaches a) (g done) S u no_more → u ≡ first_asked a two.labels db.asked
    second_first u h =
        first_is (first_asked a two.labels db.asked) u (two.first u (subst (λ (s : Publics). First (flow a) (breaches a) (g done) s u no_more) (sym before) h))

    met : (w : Option Breach) → ((p : Publics) × (q : Publics) × After (flow a) (f done) S p × After (flow a) (g done) S q × First (flow a) (breaches a) r (common p q) w no_more) → Rest w
    met w (p, q, h, i, j) =
        subst (λ (s : Publics). First (flow a) (breaches a) r s w no_more) behind_is
        (subst (λ (z : Publics). First (flow a) (breaches a) r (common z Y) w no_more) (one.after p h)
        (subst (λ (z : Publics). First (flow a) (breaches a) r (common p z) w no_more) (arm_two q i) j))

    abbrev Meeting : Option Breach → Type 0
    Meeting w = (p : Publics) × (q : Publics) × After (flow a) (f done) S p × After (flow a) (g done) S q × First (flow a) (breaches a) r (common p q) w no_more

    abbrev Second : Option Breach → Type 0
    Second w = (u : Option Breach) × First (flow a) (breaches a) (g done) S u no_more × FirstOf u w (Meeting w)

    second_arm : (w : Option Breach) → Second w → FirstOf (first_asked a two.labels db.asked) w (Rest w)
    second_arm w (u, h, i) = first_same u (first_asked a two.labels db.asked) w (Rest w) (second_first u h) (first_as u w (met w) i)

    abbrev Arms : Option Breach → Type 0
    Arms w = (x : Option Breach) × First (flow a) (breaches a) (f done) S x no_more × FirstOf x w (Second w)

    arms : (w : Option Breach) → Arms w → FirstOf (first (first_asked a one.labels da.asked) (first_asked a two.labels db.asked)) w (Rest w)
    arms w (x, h, i) =
        first_then (first_asked a one.labels da.asked) (first_asked a two.labels db.asked) w (Rest w)
        (first_same x (first_asked a one.labels da.asked) w (FirstOf (first_asked a two.labels db.asked) w (Rest w)) (first_is (first_asked a one.labels da.asked) x (one.first x h)) (first_as x w (second_arm w) i))

    first_so : (w : Option Breach) → First (flow a) (breaches a) (choice r) S w no_more → FirstOf (first_asked a labels all_asked) w (Rest w)
    first_so w h =
        first_same (first (breach_in_test a (tested_by c) S) (first (first_asked a one.labels da.asked) (first_asked a two.labels db.asked))) (first_asked a labels all_asked) w (Rest w) (sym asked_is)
        (first_then (breach_in_test a (tested_by c) S) (first (first_asked a one.labels da.asked) (first_asked a two.labels db.asked)) w (Rest w) (first_as (breach_in_test a (tested_by c) S) w (arms w) h))

    most_so : (e : Publics) (q : ℕ → Bool) → Below e a → IsLabelling e q vc.arrows → Under (next v) q t → Under (next vc) q labels
    most_so e q k n h i j o =
        let n1 = re.earlier e q n in
        let n2 = db.earlier e q n1 in
        let h2 : Under (next va) q one.labels = one.most e q k n2 h in
        let h3 : Under (next vb) q two.labels = two.most e q k n1 h2 in
        by h3 (nat_lt i (next vj)) refl (re.owner i) refl
      where
        by : Under (next vb) q two.labels → (y : Bool) → nat_lt i (next vj) ≡ y → (p : Option Key) → re.owner i ≡ p → (if y then tb i else owned both p) ≡ true
        by u true z p x = u i (grind (arith, nat_tests, z)) o
        by u false z None x = refl
        by u false z (Some y) x =
            let g2 = re.comes e q i y n x o in
            and_from (X y) (Y y) (sym (first_stays y) ∙ u (va.nodes y) ((sources_under b y).0) g2.0) (u (vb.nodes y) ((sources_under b y).1.0) g2.1.0)

    told_so : Told a t choice v vc all_asked r x0
    told_so = record {
      labels = labels;
      agrees = agree_all;
      labelling = labelling_so;
      after = after_so;
      first = first_so;
      kept = common one.kept two.kept;
      less = subst (λ (s : Publics). Below (common one.kept two.kept) s) behind_is (common_below one.kept two.kept X Y one.less two.less);
      meets =
          subst (λ (z : Publics). Meets (flow a) (writes a) r (common z two.kept) x0) one.meets (subst (λ (z : Publics). Meets (flow a) (writes a) r (common m.0 z) x0) two.meets m.5);
      most = most_so;
    }

  pub choice_drawn : Draws choice v vc
  choice_drawn = record {
    free = λ r w. w.3;
    longer = omega (arith, da.longer, db.longer, re.longer);
    earlier = earlier_so;
    asked = all_asked;
    asked_are = asked_so;
    bounded = λ b. re.bounded (sources_under b) (joined_bounded b);
    along = along_so;
    told = told_so;
  }
