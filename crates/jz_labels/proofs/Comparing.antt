-- Some labels meet the rules where the labels with the fewest secrets do.
use Rattle.std.proofs.Common.{◌≡◌, true, false, Option, Some, None, refl, sym, ◌∙◌, subst}
use Rattle.jz_runs.specs.Trees.{Tree, done, op, quiet, choose, loop, each, call}
use Rattle.jz_meaning.specs.States.{Key}
use Rattle.jz_flow.specs.Sets.{Below, common}
use Rattle.jz_flow.specs.Flow.{Steps, IsHead, After, OneTurn}
use Rattle.jz_flow.specs.Alarms.{Asks, FirstOf, no_more, First, Meets}
use Rattle.jz_flow.proofs.Ordering.{below_self, below_trans, common_below}
use Rattle.jz_flow.proofs.Calm.{no_first, then_follows, calm}
use Rattle.jz_terms.specs.Terms.{Term}
use Rattle.jz_labels.specs.Operations.{Plain}
use Rattle.jz_labels.specs.Labels.{Publics, relabels, leaving, label_steps}
use Rattle.jz_labels.specs.Required.{Breach, breach_in_operation, breach_in_test, secret_written, broken, breach_asks, write_asks, label_asks}
use Rattle.jz_labels.specs.ConstantTime.{HasLabels, AreKept, IsFirst}
use Rattle.jz_labels.proofs.MoreLabels.{relabels_more, leaving_more, operation_less, test_less, written_less, labels_monotone}
use Rattle.jz_labels.proofs.Existing.{IsWhole, SomeAfter, some_after}

-- conditions that follow from others
pub meets_as : {O T N C V W : Type 0} (R : Steps O T Key) (A : Asks O T Key V) (B : Asks O T Key W)
    → ((o : O) (s : Publics) → A.op o s ≡ None → B.op o s ≡ None) → ((c : T) (s : Publics) → A.test c s ≡ None → B.test c s ≡ None)
    → (t : Tree O T N C) (s x : Publics) → Meets R A t s x → Meets R B t s x
meets_as R A B f g done s x m = m
meets_as R A B f g (op o r) s x m = (f o s m.0, meets_as R A B f g r (R.does o s) x m.1)
meets_as R A B f g (quiet o r) s x m = meets_as R A B f g r (R.quiets o s) x m
meets_as R A B f g (choose c a b r) s x m =
    (m.0, m.1, g c s m.2, meets_as R A B f g a (R.tests c true s) m.0 m.3, meets_as R A B f g b (R.tests c false s) m.1 m.4, meets_as R A B f g r (common m.0 m.1) x m.5)
meets_as R A B f g (loop w p c b r) s x m =
    (m.0, m.1, m.2, m.3, meets_as R A B f g p m.0 m.1 m.4, g c m.1 m.5, meets_as R A B f g b (R.tests c true m.1) m.2 m.6, m.7, meets_as R A B f g r (R.leaves c m.0 m.1) x m.8)
meets_as R A B f g (each h b r) s x m = absurd m
meets_as R A B f g (call c b r) s x m = absurd m

-- such a body has neither a call nor a `for`
pub meets_whole : {O T N C V : Type 0} (R : Steps O T Key) (A : Asks O T Key V) (t : Tree O T N C) (s x : Publics) → Meets R A t s x → IsWhole t
meets_whole R A done s x m = tt
meets_whole R A (op o r) s x m = (tt, meets_whole R A r (R.does o s) x m.1)
meets_whole R A (quiet o r) s x m = (tt, meets_whole R A r (R.quiets o s) x m)
meets_whole R A (choose c a b r) s x m =
    (tt, meets_whole R A a (R.tests c true s) m.0 m.3, meets_whole R A b (R.tests c false s) m.1 m.4, meets_whole R A r (common m.0 m.1) x m.5)
meets_whole R A (loop w p c b r) s x m =
    (tt, meets_whole R A p m.0 m.1 m.4, meets_whole R A b (R.tests c true m.1) m.2 m.6, meets_whole R A r (R.leaves c m.0 m.1) x m.8)
meets_whole R A (each h b r) s x m = absurd m
meets_whole R A (call c b r) s x m = absurd m

none_some : {A : Type 0} {v : A} → None ≡ Some v → ⊥
none_some e = cc e

-- nothing is broken
broken_left : (x : Option Breach) (y : Option Key) → broken x y ≡ None → x ≡ None
broken_left None y e = refl
broken_left (Some b) y e = absurd (cc e)

broken_right : (x : Option Breach) (y : Option Key) → broken x y ≡ None → y ≡ None
broken_right None None e = refl
broken_right None (Some k) e = absurd (cc e)
broken_right (Some b) y e = absurd (cc e)

not_broken : (x : Option Breach) (y : Option Key) → x ≡ None → y ≡ None → broken x y ≡ None
not_broken None None e f = refl
not_broken None (Some k) e f = absurd (cc f)
not_broken (Some b) y e f = absurd (cc e)

none_then : {W P : Type 0} (x : Option W) → x ≡ None → P → FirstOf x None P
none_then x e p = record { now = λ v f. absurd (none_some (sym e ∙ f)); later = λ f. p }

module _ {O T : Type 0} (plain : O → Plain) (term : T → Term) (a b : Publics) (more : Below a b) where
  abbrev R : Steps O T Key
  R = label_steps plain term a

  abbrev Q : Steps O T Key
  Q = label_steps plain term b

  module _ {N C V : Type 0} (A : Asks O T Key V) where
    turned : (p : Tree O T N C) (c : T) (d : Tree O T N C) (s u h y g : Publics) → Below s u → Below h s → Below h y → (ap : SomeAfter plain term b p h) (ad : SomeAfter plain term b d ap.0) → Below y ad.0 → IsHead (OneTurn Q p c d) u g → Below h g
    turned p c d s u h y g k l n ap ad e i = i.1 h (below_trans h s u l k, ad.0, (ap.0, ap.1, ad.1), below_trans h y ad.0 n e)

    -- what some labels make public, those with fewer secrets do too
    pub meets_below : (t : Tree O T N C) (s u x z : Publics) → Below s u → Meets R A t s x → After Q t u z → Below x z
    meets_below done s u x z k m f = subst (λ (y : Publics). Below y z) (sym m) (subst (λ (y : Publics). Below s y) (sym f) k)
    meets_below (op o r) s u x z k m f = meets_below r (R.does o s) (Q.does o u) x z (relabels_more a b s u more k (plain o)) m.1 f
    meets_below (quiet o r) s u x z k m f = meets_below r s u x z k m f
    meets_below (choose c d e r) s u x z k m f =
        meets_below r (common m.0 m.1) (common f.0 f.1) x z
        (common_below m.0 m.1 f.0 f.1 (meets_below d s u m.0 f.0 k m.3 f.2) (meets_below e s u m.1 f.1 k m.4 f.3)) m.5 f.4
    meets_below (loop w p c d r) s u x z k m f =
        let ap = some_after plain term b p (meets_whole R A p m.0 m.1 m.4) m.0 in
        let ad = some_after plain term b d (meets_whole R A d m.1 m.2 m.6) ap.0 in
        let low = turned p c d s u m.0 m.2 f.0 k m.3 m.7 ap ad (meets_below d m.1 ap.0 m.2 ad.0 (meets_below p m.0 m.0 m.1 ap.0 (below_self m.0) m.4 ap.1) m.6 ad.1) f.2 in
        meets_below r (leaving (term c) m.1) (leaving (term c) f.1) x z
        (leaving_more m.1 f.1 (meets_below p m.0 f.0 m.1 f.1 low m.4 f.3) (term c)) m.8 f.4
    meets_below (each g d r) s u x z k m f = absurd m
    meets_below (call c d r) s u x z k m f = absurd m

    -- a kept set is below the greatest
    pub head_below : (p : Tree O T N C) (c : T) (d : Tree O T N C) (s u h q y g : Publics) → Below s u → Below h s → Meets R A p h q → Meets R A d q y → Below h y → IsHead (OneTurn Q p c d) u g → Below h g
    head_below p c d s u h q y g k l mp md n i =
        let ap = some_after plain term b p (meets_whole R A p h q mp) h in
        let ad = some_after plain term b d (meets_whole R A d q y md) ap.0 in
        turned p c d s u h y g k l n ap ad (meets_below d q ap.0 y ad.0 (meets_below p h h q ap.0 (below_self h) mp ap.1) md ad.1) i

  -- labels that meet the rules leave no first breach
  pub no_breach : {N C : Type 0} (t : Tree O T N C) (s u x : Publics) (w : Option Breach) (Then : Publics → Option Breach → Type 0) → Below s u
      → Meets R (label_asks plain term a) t s x → First Q (breach_asks plain term b) t u w Then → ((z : Publics) → Then z w → w ≡ None) → w ≡ None
  no_breach done s u x w Then k m f g = g u f
  no_breach (op o r) s u x w Then k m f g =
      no_breach r (relabels a (plain o) s) (relabels b (plain o) u) x w Then (relabels_more a b s u more k (plain o)) m.1
      (f.later (operation_less a b s u more k (plain o) (broken_left (breach_in_operation a (plain o) s) (secret_written a (plain o) s) m.0))) g
  no_breach (quiet o r) s u x w Then k m f g = no_breach r s u x w Then k m f g
  no_breach (choose c d e r) s u x w Then k m f g =
      let h = f.later (test_less a b s u more k (term c) (broken_left (breach_in_test a (term c) s) None m.2)) in
      let i = h.2.later (no_breach d s u m.0 h.0 no_more k m.3 h.1 (λ z v. v)) in
      let j = i.2.later (no_breach e s u m.1 i.0 no_more k m.4 i.1 (λ z v. v)) in
      no_breach r (common m.0 m.1) (common j.0 j.1) x w Then
      (common_below m.0 m.1 j.0 j.1 (meets_below (label_asks plain term a) d s u m.0 j.0 k m.3 j.2) (meets_below (label_asks plain term a) e s u m.1 j.1 k m.4 j.3)) m.5 j.4 g
  no_breach (loop v p c d r) s u x w Then k m f g =
      let low = head_below (label_asks plain term a) p c d s u m.0 m.1 m.2 f.0 k m.3 m.4 m.6 m.7 f.1 in
      let h = f.4.later (no_breach p m.0 f.0 m.1 f.2 no_more low m.4 f.3 (λ z v. v)) in
      let up = meets_below (label_asks plain term a) p m.0 f.0 m.1 h.0 low m.4 h.1 in
      let i = h.2.later (test_less a b m.1 h.0 more up (term c) (broken_left (breach_in_test a (term c) m.1) None m.5)) in
      let j = i.2.later (no_breach d m.1 h.0 m.2 i.0 no_more up m.6 i.1 (λ z v. v)) in
      no_breach r (leaving (term c) m.1) (leaving (term c) h.0) x w Then (leaving_more m.1 h.0 up (term c)) m.8 j g
  no_breach (each h d r) s u x w Then k m f g = absurd m
  no_breach (call c d r) s u x w Then k m f g = absurd m

-- where there is no breach and no secret is written to a public array, no rule is broken
module _ {O T : Type 0} (plain : O → Plain) (term : T → Term) (a : Publics) where
  abbrev S : Steps O T Key
  S = label_steps plain term a

  same_arrays : Below a a
  same_arrays = below_self a

  pub none_broken : {N C : Type 0} (t : Tree O T N C) (s u x : Publics) → Below s u → Meets S (write_asks plain term a) t s x → First S (breach_asks plain term a) t u None no_more → First S (label_asks plain term a) t u None no_more
  none_broken done s u x k m f = refl
  none_broken (op o r) s u x k m f =
      let e = no_first (breach_in_operation a (plain o) u) f in
      let i = none_broken r (relabels a (plain o) s) (relabels a (plain o) u) x (relabels_more a a s u same_arrays k (plain o)) m.1 (f.later e) in
      none_then (broken (breach_in_operation a (plain o) u) (secret_written a (plain o) u))
      (not_broken (breach_in_operation a (plain o) u) (secret_written a (plain o) u) e (written_less a s u k (plain o) m.0)) i
  none_broken (quiet o r) s u x k m f = none_broken r s u x k m f
  none_broken (choose c d e r) s u x k m f =
      let i = no_first (breach_in_test a (term c) u) f in
      let h = f.later i in
      let fd = subst (λ (z : Option Breach). First S (breach_asks plain term a) d u z no_more) (no_first h.0 h.2) h.1 in
      let j = then_follows h.0 h.2 in
      let fe = subst (λ (z : Option Breach). First S (breach_asks plain term a) e u z no_more) (no_first j.0 j.2) j.1 in
      let l = then_follows j.0 j.2 in
      let up = common_below m.0 m.1 l.0 l.1 (meets_below plain term a a same_arrays (write_asks plain term a) d s u m.0 l.0 k m.3 l.2) (meets_below plain term a a same_arrays (write_asks plain term a) e s u m.1 l.1 k m.4 l.3) in
      none_then (broken (breach_in_test a (term c) u) None) (not_broken (breach_in_test a (term c) u) None i refl) (
        None,
        none_broken d s u m.0 k m.3 fd,
        none_then None refl (
          None,
          none_broken e s u m.1 k m.4 fe,
          none_then None refl
              (l.0, l.1, l.2, l.3, none_broken r (common m.0 m.1) (common l.0 l.1) x up m.5 l.4),
        ),
      )
  none_broken (loop v p c d r) s u x k m f =
      let low = head_below plain term a a same_arrays (write_asks plain term a) p c d s u m.0 m.1 m.2 f.0 k m.3 m.4 m.6 m.7 f.1 in
      let fp = subst (λ (z : Option Breach). First S (breach_asks plain term a) p f.0 z no_more) (no_first f.2 f.4) f.3 in
      let h = then_follows f.2 f.4 in
      let up = meets_below plain term a a same_arrays (write_asks plain term a) p m.0 f.0 m.1 h.0 low m.4 h.1 in
      let e = no_first (breach_in_test a (term c) h.0) h.2 in
      let i = h.2.later e in
      let fd = subst (λ (z : Option Breach). First S (breach_asks plain term a) d h.0 z no_more) (no_first i.0 i.2) i.1 in
      let j = then_follows i.0 i.2 in (
        f.0,
        f.1,
        None,
        none_broken p m.0 f.0 m.1 low m.4 fp,
        none_then None refl (
          h.0,
          h.1,
          none_then (broken (breach_in_test a (term c) h.0) None) (not_broken (breach_in_test a (term c) h.0) None e refl) (
            None,
            none_broken d m.1 h.0 m.2 up m.6 fd,
            none_then None refl
                (none_broken r (leaving (term c) m.1) (leaving (term c) h.0) x (leaving_more m.1 h.0 up (term c)) m.8 j),
          ),
        ),
      )
  none_broken (each h d r) s u x k m f = absurd m
  none_broken (call c d r) s u x k m f = absurd m

-- ---- the two answers

module _ {O T N C : Type 0} (plain : O → Plain) (term : T → Term) (entry : Publics) (body : Tree O T N C) where
  pub labels_no_breach : (w : Option Breach) → HasLabels plain term entry body → IsFirst plain term entry body w → w ≡ None
  labels_no_breach w (a, x, m) (b, k, f) =
      let kept : AreKept plain term entry body a = (x, meets_as (label_steps plain term a) (label_asks plain term a) (write_asks plain term a) (λ o s e. broken_right (breach_in_operation a (plain o) s) (secret_written a (plain o) s) e) (λ c s e. refl) body entry x m) in
      no_breach plain term a b (k.1 a kept) body entry entry x w no_more (below_self entry) m f (λ z v. v)

  pub no_breach_labels : IsFirst plain term entry body None → HasLabels plain term entry body
  no_breach_labels (a, k, f) =
      let m = k.0 in
      let w = meets_whole (label_steps plain term a) (write_asks plain term a) body entry m.0 m.1 in
      let i = some_after plain term a body w entry in
      let g = none_broken plain term a body entry entry m.0 (below_self entry) m.1 f in
      (a, i.0, (calm (label_steps plain term a) (label_asks plain term a) (labels_monotone plain term a) body entry i.0 no_more i.1 g).0)
