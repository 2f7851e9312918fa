-- The first that is asked to be public and is not.
use Rattle.std.proofs.Common.{◌≡◌, ◌<◌, ◌≤◌, ℕ, ◌+◌, Bool, true, false, List, ◌∷◌, map, length, drop, get_or, Option, Some, None, refl, sym, ap, ◌∙◌, subst, arith}
use Rattle.std.proofs.lemmas.List.{at_drop_more}
use Rattle.std.proofs.Math.ListN.{drop_of_length-le}
use Rattle.jz_tree.specs.declared.program.Param.{Param}
use Rattle.jz_tree.specs.declared.stmt.Stmt.{Stmt}
use Rattle.jz_meaning.specs.Runs.{block}
use Rattle.jz_labels.specs.Labels.{first}
use Rattle.jz_labels.specs.Required.{Breach}
use Rattle.jz_labels.specs.ConstantTime.{at_entry, IsFirstBreach}
use Rattle.jz_required.specs.declared.part.Required.{Required}
use Rattle.jz_required.specs.Readings.{demand_breach}
use Rattle.jz_secrets.specs.declared.edge.Edge.{Edge}
use Rattle.jz_secrets.specs.declared.secrets.Secrets.{Secrets}
use Rattle.jz_secrets.specs.Graphs.{Vertex, hidden, drawn, array, vertex_of, arrows_of, label, AreBelow, AreFewest}
use Rattle.jz_secrets.specs.Kept.{public_by}
use Rattle.jz_drawing.specs.Drawings.{Asked, View, next, IsFree, IsBounded, first_asked}
use Rattle.jz_drawing.specs.Draws.{Draws}
use Rattle.jz_drawn_bodies.specs.Bodies.{entry_view}
use Rattle.jz_drawn_bodies.proofs.Judging.{breach_law, entry_bounded}
use Rattle.jz_drawn_labels.specs.declared.drawing.Drawing.{Drawing}
use Rattle.jz_drawn_labels.specs.declared.sheet.Ask.{Ask}
use Rattle.jz_drawn_labels.specs.Kept.{asked_of, view_of}
use Rattle.jz_drawn_labels.specs.Drew.{no_callees, IsDrawn, Drew}
use Rattle.jz_breaches.specs.Answers.{plain_block, told}

module _ (s : Secrets) where
  abbrev of_asked : List Asked → Option Breach
  of_asked xs = first_asked (λ k. public_by s (array k)) (λ i. public_by s (drawn i)) xs

  label_is : (v : Vertex) → label (λ k. public_by s (array k)) (λ i. public_by s (drawn i)) v ≡ public_by s v
  label_is hidden = refl
  label_is (drawn i) = refl
  label_is (array k) = refl

  here_is : (xs : List Ask) (i : ℕ) (x : Ask) (c : Bool) → i < length xs → x ≡ get_or xs i x → c ≡ public_by s (vertex_of x.at) → of_asked (map asked_of (drop i xs)) ≡ first (demand_breach c (asked_of x).demand) (of_asked (map asked_of (drop (i + 1) xs)))
  here_is xs i x c lt is e =
      ap (λ (ys : List Ask). of_asked (map asked_of ys)) (at_drop_more (λ ys. ys) xs i x lt ∙ ap (λ (y : Ask). y ∷ drop (i + 1) xs) (sym is))
      ∙ ap (λ (b : Bool). first (demand_breach b (asked_of x).demand) (of_asked (map asked_of (drop (i + 1) xs)))) (label_is (vertex_of x.at) ∙ sym e)

  pub secret_found : (xs : List Ask) (i : ℕ) (x : Ask) (c : Bool) → i < length xs → x ≡ get_or xs i x → c ≡ public_by s (vertex_of x.at) → c ≡ false → of_asked (map asked_of xs) ≡ of_asked (map asked_of (drop i xs)) → told (Some x.required) ≡ of_asked (map asked_of xs)
  secret_found xs i x c lt is e f h =
      sym (h ∙ here_is xs i x c lt is e ∙ ap (λ (b : Bool). first (demand_breach b (asked_of x).demand) (of_asked (map asked_of (drop (i + 1) xs)))) f)

  pub public_on : (xs : List Ask) (i : ℕ) (x : Ask) (c : Bool) → i < length xs → x ≡ get_or xs i x → c ≡ public_by s (vertex_of x.at) → c ≡ true → of_asked (map asked_of xs) ≡ of_asked (map asked_of (drop i xs))
      → of_asked (map asked_of xs) ≡ of_asked (map asked_of (drop (i + 1) xs))
  public_on xs i x c lt is e f h =
      h ∙ here_is xs i x c lt is e ∙ ap (λ (b : Bool). first (demand_breach b (asked_of x).demand) (of_asked (map asked_of (drop (i + 1) xs)))) f

  pub all_public : (xs : List Ask) (i : ℕ) → length xs ≤ i → of_asked (map asked_of xs) ≡ of_asked (map asked_of (drop i xs)) → told None ≡ of_asked (map asked_of xs)
  all_public xs i l h = sym (h ∙ ap (λ (ys : List Ask). of_asked (map asked_of ys)) (drop_of_length-le xs l))

-- ---- the whole

module _ (params : List Param) (ss : List Stmt) (d e : Drawing) (floor : d.table.floor ≡ 0) (begun : view_of d ≡ entry_view (at_entry params)) where
  pub entry_drawn : IsDrawn d
  entry_drawn = record { low = omega (arith, floor); bounded = subst (λ (v : View). IsBounded v) (sym begun) (entry_bounded (at_entry params)) }

  module _ (drew : Drew (block no_callees ss) d e) (count : ℕ) (edges : List Edge) (is : count ≡ next (view_of e)) (same : edges ≡ e.sheet.edges.items) where
    pub edges_below : AreBelow count (arrows_of edges)
    edges_below =
        subst (λ (n : ℕ). AreBelow n (arrows_of edges)) (sym is)
        (subst (λ (xs : List Edge). AreBelow (next (view_of e)) (arrows_of xs)) (sym same) (drew.draws.bounded entry_drawn.bounded).arrows)

    pub some_label : 0 < count
    some_label = omega (arith, is)

    pub answered : (s : Secrets) (asked : List Ask) (r : Option Required) → AreFewest count (arrows_of edges) (public_by s) → asked ≡ e.sheet.asked.items → told r ≡ of_asked s (map asked_of asked) → IsFree (plain_block ss) → IsFirstBreach params (plain_block ss) (told r)
    answered s asked r few a t free =
        let w = view_of e in
        let fewest : AreFewest (next w) w.arrows (public_by s) =
        subst (λ (n : ℕ). AreFewest n w.arrows (public_by s)) is (subst (λ (xs : List Edge). AreFewest count (arrows_of xs) (public_by s)) same few) in
        let draws : Draws (block no_callees ss) (entry_view (at_entry params)) w = subst (λ (v : View). Draws (block no_callees ss) v w) begun drew.draws in
        subst (λ (o : Option Breach). IsFirstBreach params (plain_block ss) o) (sym (t ∙ ap (λ (xs : List Ask). of_asked s (map asked_of xs)) a)) (breach_law params (block no_callees ss) w (public_by s) free draws fewest)
