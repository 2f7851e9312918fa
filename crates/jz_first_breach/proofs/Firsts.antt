-- Some first condition that is not met, or none, along each body without calls and `for`.
use Rattle.std.proofs.Common.{◌≡◌, Option, Some, None, refl}
use Rattle.jz_runs.specs.Trees.{Tree, done, op, quiet, choose, loop, each, call}
use Rattle.jz_meaning.specs.States.{Key}
use Rattle.jz_flow.specs.Sets.{common}
use Rattle.jz_flow.specs.Flow.{Steps, After}
use Rattle.jz_flow.specs.Alarms.{Asks, FirstOf, no_more, First}
use Rattle.jz_terms.specs.Terms.{Term}
use Rattle.jz_labels.specs.Operations.{Plain}
use Rattle.jz_labels.specs.Labels.{Publics, relabels, leaving, label_steps}
use Rattle.jz_labels.proofs.Existing.{IsWhole, some_after}

none_some : {A : Type 0} {v : A} → None ≡ Some v → ⊥
none_some e = cc e

some_none : {A : Type 0} {v : A} → Some v ≡ None → ⊥
some_none e = cc e

-- the first of x and what follows
pub now_or_later : {W : Type 0} (x : Option W) (P : Option W → Type 0) → ((w : Option W) × P w) → (w : Option W) × FirstOf x w (P w)
now_or_later None P r = (r.0, record { now = λ v e. absurd (none_some e); later = λ e. r.1 })
now_or_later (Some v) P r = (Some v, record { now = λ u e. e; later = λ e. absurd (some_none e) })

module _ {O T : Type 0} (plain : O → Plain) (term : T → Term) (a : Publics) where
  abbrev S : Steps O T Key
  S = label_steps plain term a

  pub some_first : {N C W : Type 0} (A : Asks O T Key W) (t : Tree O T N C) → IsWhole t → (s : Publics) → (w : Option W) × First S A t s w no_more
  some_first A done i s = (None, refl)
  some_first {W} A (op o r) i s =
      now_or_later (A.op o s) (λ (w : Option W). First S A r (relabels a (plain o) s) w no_more) (some_first A r i.1 (relabels a (plain o) s))
  some_first A (quiet o r) i s = some_first A r i.1 s
  some_first {W} A (choose c d e r) i s =
      let f = some_first A d i.1 s in
      let g = some_first A e i.2 s in
      let x = some_after plain term a d i.1 s in
      let y = some_after plain term a e i.2 s in
      let h = some_first A r i.3 (common x.0 y.0) in
      let k = now_or_later g.0 (λ (w : Option W). (x : Publics) × (y : Publics) × After S d s x × After S e s y × First S A r (common x y) w no_more) (h.0, (x.0, y.0, x.1, y.1, h.1)) in
      let l = now_or_later f.0 (λ (w : Option W). (u : Option W) × First S A e s u no_more × FirstOf u w ((x : Publics) × (y : Publics) × After S d s x × After S e s y × First S A r (common x y) w no_more)) (k.0, (g.0, g.1, k.1)) in
      now_or_later (A.test c s)
      (λ (w : Option W). (v : Option W) × First S A d s v no_more × FirstOf v w ((u : Option W) × First S A e s u no_more × FirstOf u w ((x : Publics) × (y : Publics) × After S d s x × After S e s y × First S A r (common x y) w no_more)))
      (l.0, (f.0, f.1, l.1))
  some_first {W} A (loop b p c d r) i s =
      let m = some_after plain term a (loop b p c d done) (i.0, i.1, i.2, tt) s in
      let h = m.1.0 in
      let q = m.1.1 in
      let f = some_first A p i.1 h in
      let g = some_first A d i.2 q in
      let e = some_first A r i.3 (leaving (term c) q) in
      let j = now_or_later g.0 (λ (w : Option W). First S A r (leaving (term c) q) w no_more) e in
      let k = now_or_later (A.test c q) (λ (w : Option W). (u : Option W) × First S A d q u no_more × FirstOf u w (First S A r (leaving (term c) q) w no_more)) (j.0, (g.0, g.1, j.1)) in
      let l = now_or_later f.0 (λ (w : Option W). (q : Publics) × After S p h q × FirstOf (A.test c q) w ((u : Option W) × First S A d q u no_more × FirstOf u w (First S A r (leaving (term c) q) w no_more))) (k.0, (q, m.1.3, k.1)) in
      (l.0, (h, m.1.2, f.0, f.1, l.1))
  some_first A (each f b r) i s = absurd i
  some_first A (call c b r) i s = absurd i
