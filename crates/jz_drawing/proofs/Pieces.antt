-- What is drawn of pieces one after another.
use Rattle.std.proofs.Common.{◌≡◌, ℕ, Bool, [], ◌++◌, Some, None, refl, sym, ap, ◌∙◌, subst, arith, append_assoc, append-nil}
use Rattle.jz_tree.specs.Span.{Span}
use Rattle.jz_meaning.specs.Statements.{Operation, meaningless, Counter, Block}
use Rattle.jz_runs.specs.Trees.{op, quiet, each}
use Rattle.jz_flow.specs.Sets.{Below}
use Rattle.jz_flow.specs.Alarms.{First, Meets, no_more}
use Rattle.jz_labels.specs.Labels.{Publics, first}
use Rattle.jz_secrets.specs.Graphs.{IsLabelling}
use Rattle.jz_drawing.specs.Drawings.{View, next, labels_of, first_asked, AreAskedBelow, IsBounded, flow, breaches, writes}
use Rattle.jz_drawing.specs.Draws.{Along, Told, Draws}
use Rattle.jz_drawing.proofs.Labellings.{first_then, first_as, first_same, asked_both, asked_agrees, asked_below_right}

pub nothing_drawn : (v : View) → Draws (λ r. r) v v
nothing_drawn v = record {
  free = λ r w. w;
  longer = omega (arith);
  earlier = λ a t l. l;
  asked = [];
  asked_are = sym (append-nil v.asked);
  bounded = λ b. b;
  along = λ a t s l b. record { behind = s; below = b; meets = λ r x w m. m; spares = λ r k w e. (e, λ h. h) };
  told = λ a t r s0 x0 b l u m. record {
    labels = t;
    agrees = λ i h. refl;
    labelling = l;
    after = λ x h. h;
    first = λ w h. record { now = λ v e. absurd (none_some e); later = λ e. h };
    kept = s0;
    less = u;
    meets = m;
    most = λ c w i j h. h;
  };
}
  where
    none_some : {A : Type 0} {v : A} → None ≡ Some v → ⊥
    none_some e = cc e

-- a mark changes no label
pub mark_drawn : (o : Operation) (v : View) → Draws (quiet o) v v
mark_drawn o v = record {
  free = λ r w. w.1;
  longer = omega (arith);
  earlier = λ a t l. l;
  asked = [];
  asked_are = sym (append-nil v.asked);
  bounded = λ b. b;
  along = λ a t s l b. record { behind = s; below = b; meets = λ r x w m. m; spares = λ r k w e. (e, λ h. h) };
  told = λ a t r s0 x0 b l u m. record {
    labels = t;
    agrees = λ i h. refl;
    labelling = l;
    after = λ x h. h;
    first = λ w h. record { now = λ v e. absurd (none_some e); later = λ e. h };
    kept = s0;
    less = u;
    meets = m;
    most = λ c w i j h. h;
  };
}
  where
    none_some : {A : Type 0} {v : A} → None ≡ Some v → ⊥
    none_some e = cc e

module _ (f g : Block → Block) (v w x : View) (d : Draws f v w) (e : Draws g w x) where
  asked_here : IsBounded v → AreAskedBelow (next w) d.asked
  asked_here b = asked_below_right (next w) v.asked d.asked (subst (AreAskedBelow (next w)) d.asked_are (d.bounded b).asked)

  along_both : (a : Publics) (t : ℕ → Bool) (s : Publics) → IsLabelling a t x.arrows → Below (labels_of t v.nodes) s → Along (λ r. f (g r)) x a t s
  along_both a t s l b =
      let h = d.along a t s (e.earlier a t l) b in
      let i = e.along a t h.behind l h.below in
      record {
        behind = i.behind;
        below = i.below;
        meets = λ r y w m. h.meets (g r) y w (i.meets r y (d.free (g r) w) m);
        spares = λ r k w n. let p = h.spares (g r) k w n in let q = i.spares r k (d.free (g r) w) p.0 in (q.0, λ o. q.1 (p.1 o));
      }

  told_both : (a : Publics) (t : ℕ → Bool) (r : Block) (s0 x0 : Publics) → IsBounded v → IsLabelling a t v.arrows → Below s0 (labels_of t v.nodes) → Meets (flow a) (writes a) (f (g r)) s0 x0
      → Told a t (λ y. f (g y)) v x (d.asked ++ e.asked) r x0
  told_both a t r s0 x0 b l u m =
      let h = d.told a t (g r) s0 x0 b l u m in
      let i = e.told a h.labels r h.kept x0 (d.bounded b) h.labelling h.less h.meets in
      let asked_is : first_asked a i.labels (d.asked ++ e.asked) ≡ first (first_asked a h.labels d.asked) (first_asked a i.labels e.asked) =
      asked_both a i.labels d.asked e.asked ∙ ap (λ z. first z (first_asked a i.labels e.asked)) (asked_agrees (next w) a h.labels i.labels d.asked i.agrees (asked_here b)) in
      record {
        labels = i.labels;
        agrees = λ j k. i.agrees j (omega (arith, k, d.longer)) ∙ h.agrees j k;
        labelling = i.labelling;
        after = λ y p. i.after y (h.after y p);
        first = λ y p.
            first_same (first (first_asked a h.labels d.asked) (first_asked a i.labels e.asked)) (first_asked a i.labels (d.asked ++ e.asked)) y (First (flow a) (breaches a) r (labels_of i.labels x.nodes) y no_more) (sym asked_is)
            (first_then (first_asked a h.labels d.asked) (first_asked a i.labels e.asked) y (First (flow a) (breaches a) r (labels_of i.labels x.nodes) y no_more)
            (first_as (first_asked a h.labels d.asked) y (i.first y) (h.first y p)));
        kept = i.kept;
        less = i.less;
        meets = i.meets;
        most = λ c y p q k. i.most c y p q (h.most c y p (e.earlier c y q) k);
      }

  pub both_drawn : Draws (λ r. f (g r)) v x
  both_drawn = record {
    free = λ r w. e.free r (d.free (g r) w);
    longer = omega (arith, d.longer, e.longer);
    earlier = λ a t l. d.earlier a t (e.earlier a t l);
    asked = d.asked ++ e.asked;
    asked_are = e.asked_are ∙ ap (λ z. z ++ e.asked) d.asked_are ∙ append_assoc v.asked d.asked e.asked;
    bounded = λ b. e.bounded (d.bounded b);
    along = along_both;
    told = told_both;
  }

-- what typing excludes changes no label
pub meaningless_drawn : (at : Span) (v : View) → Draws (op (meaningless at)) v v
meaningless_drawn at v = record {
  free = λ r w. w.1;
  longer = omega (arith);
  earlier = λ a t l. l;
  asked = [];
  asked_are = sym (append-nil v.asked);
  bounded = λ b. b;
  along = λ a t s l b. record { behind = s; below = b; meets = λ r x w m. (refl, m); spares = λ r k w e. (e, λ h. h) };
  told = λ a t r s0 x0 b l u m. record {
    labels = t;
    agrees = λ i h. refl;
    labelling = l;
    after = λ x h. h;
    first = λ w h. h;
    kept = s0;
    less = u;
    meets = m.1;
    most = λ c w i j h. h;
  };
}

-- no `for` stands in it
pub each_drawn : (k : Counter) (b : Block) (v : View) → Draws (each k b) v v
each_drawn k b v = record {
  free = λ r w. absurd w;
  longer = omega (arith);
  earlier = λ a t l. l;
  asked = [];
  asked_are = sym (append-nil v.asked);
  bounded = λ b. b;
  along = λ a t s l b. record { behind = s; below = b; meets = λ r x w m. absurd w; spares = λ r k w e. absurd w };
  told = λ a t r s0 x0 b l u m. absurd m;
}
