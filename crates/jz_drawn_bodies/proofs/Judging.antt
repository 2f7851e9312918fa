-- From what is drawn of a body to its first breach.
use Rattle.std.proofs.Common.{◌≡◌, ◌<◌, ℕ, Bool, true, false, not, List, [], ◌∷◌, Option, refl, sym, ap, ◌∙◌, subst, arith}
use Rattle.std.specs.Prelude.{nat_eq}
use Rattle.std.proofs.Math.Path.{fun_ext}
use Rattle.std.proofs.lemmas.Bool.{false≢true}
use Rattle.std.proofs.lemmas.Bool.Decides.{nat_tests}
use Rattle.jz_runs.specs.Trees.{done}
use Rattle.jz_meaning.specs.States.{Key}
use Rattle.jz_meaning.specs.Statements.{Block}
use Rattle.jz_flow.specs.Sets.{Below}
use Rattle.jz_flow.specs.Alarms.{First, no_more}
use Rattle.jz_labels.specs.Operations.{plain_of, tested_by}
use Rattle.jz_labels.specs.Labels.{Publics, first}
use Rattle.jz_labels.specs.Required.{Breach}
use Rattle.jz_labels.specs.ConstantTime.{at_entry, AreKept, AreMost, IsFirst}
use Rattle.jz_first_breach.proofs.Arrays.{answer}
use Rattle.jz_required.specs.Readings.{demand_breach}
use Rattle.jz_secrets.specs.Graphs.{Vertex, hidden, drawn, array, label, IsLabelling, IsBelow, AreFewest}
use Rattle.jz_drawing.specs.Drawings.{Asked, View, next, IsFree, labels_of, ask_breach, first_asked, AreAskedBelow, IsBounded, flow, breaches}
use Rattle.jz_drawn_bodies.specs.Bodies.{entry_node, entry_view, BreachLaw}
use Rattle.jz_drawing.specs.Draws.{Under, Along, Told, Draws}
use Rattle.jz_drawing.proofs.Labellings.{first_is, asked_below_right}

-- ---- the drawing before the first statement: one label that is secret

abbrev not_one : ℕ → Bool
not_one i = not (nat_eq i 1)

node_below : (c : Bool) → entry_node c < 3
node_below true = omega (arith)
node_below false = omega (arith)

pub entry_bounded : (public : Key → Bool) → IsBounded (entry_view public)
entry_bounded public =
    let zero_below : 0 < 3 = omega (arith) in
    let one : 0 < 1 = omega (arith) in
    let below : 1 < 3 = omega (arith) in
    record { nodes = λ k. node_below (public k); arrows = ((zero_below, (one, below)), ((tt, (one, below)), tt)); asked = tt }

entry_labelling : (public : Key → Bool) (a : Publics) → IsLabelling a not_one (entry_view public).arrows
entry_labelling public a = record { first = refl; keeps = (λ h. refl, (λ h. absurd (false≢true h), tt)) }

entry_label : (c : Bool) → not_one (entry_node c) ≡ c
entry_label true = refl
entry_label false = refl

entry_labels : (public : Key → Bool) → labels_of not_one (entry_view public).nodes ≡ public
entry_labels public = fun_ext (λ k. entry_label (public k))

-- labels that are kept are public there at most
entry_under : (public : Key → Bool) (a : Publics) (u : ℕ → Bool) → IsLabelling a u (entry_view public).arrows → Under 3 u not_one
entry_under public a u l i b h = by (nat_eq i 1) refl
  where
    by : (c : Bool) → nat_eq i 1 ≡ c → not c ≡ true
    by false e = refl
    by true e =
        let at : i ≡ 1 = grind (arith, nat_tests, e) in
        absurd (false≢true (l.keeps.1.0 (ap u (sym at) ∙ h)))

-- ---- the same breach by labels that are the same where they are asked

breaches_same : (n : ℕ) (a b : Publics) (t u : ℕ → Bool) (xs : List Asked) → ((v : Vertex) → IsBelow n v → label a t v ≡ label b u v) → AreAskedBelow n xs → first_asked a t xs ≡ first_asked b u xs
breaches_same n a b t u [] f g = refl
breaches_same n a b t u (x ∷ xs) f g =
    ap (λ z. first (demand_breach z x.demand) (first_asked a t xs)) (f x.at g.0) ∙ ap (first (ask_breach b u x)) (breaches_same n a b t u xs f g.1)

same_bool : (x y : Bool) → (x ≡ true → y ≡ true) → (y ≡ true → x ≡ true) → x ≡ y
same_bool true y p q = sym (p refl)
same_bool false true p q = q refl
same_bool false false p q = refl

module _ (public : Key → Bool) (f : Block → Block) (free : IsFree (f done)) (w : View) (d : Draws f (entry_view public) w) (seen : Vertex → Bool) (few : AreFewest (next w) w.arrows seen) where
  abbrev v : View
  v = entry_view public

  -- the arrays and the drawn labels with the fewest secrets
  abbrev a : Publics
  a k = seen (array k)

  abbrev t : ℕ → Bool
  t i = seen (drawn i)

  early : IsLabelling a t v.arrows
  early = d.earlier a t few.labelling

  under : Under (next v) t not_one
  under = entry_under public a t early

  at_entry_less : Below (labels_of t v.nodes) public
  at_entry_less k h = sym (entry_label (public k)) ∙ under (entry_node (public k)) (node_below (public k)) h

  kept : AreKept plain_of tested_by public (f done) a
  kept =
      let x : Along f w a t public = d.along a t public few.labelling at_entry_less in
      (x.behind, x.meets done x.behind free refl)

  module _ (arrays : Publics) (most : AreMost plain_of tested_by public (f done) arrays) (o : Option Breach) (one : First (flow arrays) (breaches arrays) (f done) public o no_more) where
    told : Told arrays not_one f v w d.asked done most.0.0
    told =
        d.told arrays not_one done public most.0.0 (entry_bounded public) (entry_labelling public arrays)
        (subst (λ (s : Publics). Below public s) (sym (entry_labels public)) (λ k h. h)) most.0.1

    first_told : o ≡ first_asked arrays told.labels d.asked
    first_told =
        first_is (first_asked arrays told.labels d.asked) o
        (told.first o (subst (λ (s : Publics). First (flow arrays) (breaches arrays) (f done) s o no_more) (sym (entry_labels public)) one))

    same_label : (x : Vertex) → IsBelow (next w) x → label arrays told.labels x ≡ seen x
    same_label hidden b = sym few.secret
    same_label (drawn i) b =
        same_bool (told.labels i) (seen (drawn i)) (λ h. few.most arrays told.labels (drawn i) told.labelling b h)
        (λ h. told.most a t (most.1 a kept) few.labelling under i b h)
    same_label (array k) b =
        same_bool (arrays k) (seen (array k)) (λ h. few.most arrays told.labels (array k) told.labelling tt h) (λ h. most.1 a kept k h)

    seen_label : (x : Vertex) → label a t x ≡ seen x
    seen_label hidden = sym few.secret
    seen_label (drawn i) = refl
    seen_label (array k) = refl

    asked_below : AreAskedBelow (next w) d.asked
    asked_below = asked_below_right (next w) v.asked d.asked (subst (AreAskedBelow (next w)) d.asked_are (d.bounded (entry_bounded public)).asked)

    pub told_breach : o ≡ first_asked a t w.asked
    told_breach =
        first_told ∙ breaches_same (next w) arrays a told.labels t d.asked (λ x b. same_label x b ∙ sym (seen_label x)) asked_below ∙ ap (first_asked a t) (sym d.asked_are)

  -- there is a first breach or none, and it is this one
  pub is_first : (x : (o : Option Breach) × IsFirst plain_of tested_by public (f done) o) → IsFirst plain_of tested_by public (f done) (first_asked a t w.asked)
  is_first (o, (arrays, most, one)) =
      subst (λ (y : Option Breach). IsFirst plain_of tested_by public (f done) y) (told_breach arrays most o one) (arrays, most, one)

pub breach_law : BreachLaw
breach_law params f w public free d few = is_first (at_entry params) f free w d public few (answer plain_of tested_by (at_entry params) (f done) free)
