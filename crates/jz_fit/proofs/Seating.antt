-- First fit as far as it has come, and one variable more.
use Rattle.std.proofs.Common.{◌≡◌, ◌≢◌, ℕ, suc, ◌+◌, ◌/◌, ◌*◌, ◌<◌, ◌≤◌, ◌⊎◌, inl, inr, ◌↔◌, Bool, true, false, not, ◌&&◌, ◌||◌, List, [], ◌∷◌, IsTrue, IsFalse, length, get_or, set, drop, replicate, Option, Some, None, refl, sym, ap, ◌∙◌, subst, arith, nat_lt, get_or-set_same, get_or-set_other, drop-cons, add-one, length-set}
use Rattle.std.specs.List.{All}
use Rattle.std.proofs.lemmas.Bool.{and_from, and_parts, cases_eq, cases_lt, lt-ltb, ltb-true, or_cases, or_left, or_right}
use Rattle.std.proofs.lemmas.List.{get_or_default, get_or_past, drop_all, length-replicate}
use Rattle.std.proofs.lemmas.List.Elements.{All-weaker}
use Rattle.x64_insn.specs.declared.types.Place.{Place}
use Rattle.jz_bits.specs.Has.{has}
use Rattle.jz_ir.specs.declared.code.Kind.{Kind}
use Rattle.jz_ir.specs.declared.code.Op.{Op}
use Rattle.jz_ir.specs.Order.{has_place}
use Rattle.jz_ir.specs.Paths.{among}
use Rattle.jz_ir.specs.Places.{op_at, no_op, meets, kind_has, Out, placed, refused, First, all_placed, one_placed, one_left, Free, Takes, Meets, Conflict, Taken}
use Rattle.jz_alloc.specs.Tables.{row_has, AllWide}
use Rattle.jz_alloc.proofs.Fitting.{none_placed}
use Rattle.jz_alloc.proofs.Meaning.{kind_below}
use Rattle.jz_fit.specs.InnerSpots.{Common, Counts}
use Rattle.jz_fit.specs.InnerSeats.{OpenBy, Fits, Tells, Writes, Seating, AddsTo, IsDistinct}

module _ (ops : List Op) where
  -- past the code nothing is written
  pub wrote : (i u : ℕ) → IsTrue (among (op_at ops i).writes u) → i < length ops
  wrote i u h = elim (cases_lt i (length ops)) [ inl l ↦ l | inr g ↦ absurd (let e = subst (λ o. IsTrue (among o.writes u)) (get_or_past ops i no_op g) h in cc) ]

  pub fixes : (i q : ℕ) → IsTrue (has_place (op_at ops i).fixed q) → i < length ops
  fixes i q h = elim (cases_lt i (length ops)) [ inl l ↦ l | inr g ↦ absurd (let e = subst (λ o. IsTrue (has_place o.fixed q)) (get_or_past ops i no_op g) h in cc) ]

module _ (ops : List Op) (kinds : List Kind) (in_use : List Place) (Live : ℕ → ℕ → Type 0) (fixed : List (List ℕ)) (fr : (q i : ℕ) → q < 20 → row_has fixed q i ≡ (nat_lt i (length ops) && has_place (op_at ops i).fixed q)) where
  module _ (places : List (Option ℕ)) (written live : List (List ℕ)) (tw : Tells (length ops) (Writes ops) places written) (tl : Tells (length ops) Live places live) (writes lives crosses : List ℕ) (v : ℕ) (k : Counts ops Live writes lives crosses v) (q : ℕ) (lt : q < 20) where
    free_from_open : OpenBy kinds in_use ops fixed written live writes lives crosses v q → Free (Meets ops kinds in_use Live) (Conflict ops kinds in_use Live) (Taken ops kinds in_use Live) places v q
    free_from_open o = record {
      apart = λ u e (i, h). elim h [
        | inl (w, l) ↦ (let z = wrote ops i u w in o.not_written (i, (k.lives_are i).1 (z, l), (tw q i lt z).1 (u, e, w)))
        | inr (w, l) ↦ (let z = wrote ops i v w in o.not_live (i, (k.writes_are i).1 w, (tl q i lt z).1 (u, e, l)))
      ];
      untaken = λ (i, (f, w, l)). let z = fixes ops i q f in o.not_fixed (i, (k.crosses_are i).1 (z, w, l), fr q i lt ∙ and_from (nat_lt i (length ops)) (has_place (op_at ops i).fixed q) (lt-ltb i (length ops) z) f);
    }

    open_from_free : IsTrue (meets kinds in_use ops v q) → Free (Meets ops kinds in_use Live) (Conflict ops kinds in_use Live) (Taken ops kinds in_use Live) places v q → OpenBy kinds in_use ops fixed written live writes lives crosses v q
    open_from_free m f = record {
      meets_needs = m;
      not_live = λ (i, a, b). let w = (k.writes_are i).0 a in let z = (tl q i lt (wrote ops i v w)).0 b in f.apart z.0 z.1 (i, inr (w, z.2));
      not_written = λ (i, a, b). let l = (k.lives_are i).0 a in let z = (tw q i lt l.0).0 b in f.apart z.0 z.1 (i, inl (z.2, l.1));
      not_fixed = λ (i, a, b). let l = (k.crosses_are i).0 a in let z = and_parts (nat_lt i (length ops)) (has_place (op_at ops i).fixed q) (sym (fr q i lt) ∙ b) in f.untaken (i, (z.1, l.1, l.2));
    }

-- ---- one more variable has the place q
module _ (count : ℕ) (At : ℕ → ℕ → Type 0) (list : List ℕ) (v : ℕ) (ls : (i : ℕ) → i < count → IsTrue (among list i) ↔ At i v) (places : List (Option ℕ)) (rows new : List (List ℕ)) (t : Tells count At places rows) (q : ℕ) (vl : v < length places) (none : get_or places v None ≡ None) (a : AddsTo q list rows new) where
  kept : (u p : ℕ) → get_or places u None ≡ Some p → get_or (set places v (Some q)) u None ≡ Some p
  kept u p e = let ne : u ≢ v = λ s. (let t = subst (λ x. get_or places x None ≡ Some p) s e in cc) in rw (get_or-set_other places v u (Some q) None ne) e

  here : get_or (set places v (Some q)) v None ≡ Some q
  here = get_or-set_same places v (Some q) None vl

  old_or_new : (u p : ℕ) → get_or (set places v (Some q)) u None ≡ Some p → ((u ≡ v) × (q ≡ p)) ⊎ ((u ≢ v) × (get_or places u None ≡ Some p))
  old_or_new u p e = elim (cases_eq u v) [
    | inl s ↦ inl (s, (let t : get_or (set places v (Some q)) v None ≡ Some p = subst (λ x. get_or (set places v (Some q)) x None ≡ Some p) s e in let z = here in cc))
    | inr ne ↦ inr (ne, sym (get_or-set_other places v u (Some q) None ne) ∙ e)
  ]

  Source : ℕ → ℕ → Type 0
  Source p i = (u : ℕ) × (get_or (set places v (Some q)) u None ≡ Some p) × At i u

  source_of : (p i : ℕ) → p < 20 → i < count → IsTrue (row_has new p i) → Source p i
  unfolding Source
  source_of p i pl il h = elim (cases_eq p q) [
    | inl s ↦ (let g : IsTrue (row_has new q i) = subst (λ x. IsTrue (row_has new x i)) s h in
        let ql : q < 20 = subst (λ x. x < 20) s pl in
        subst (λ x. Source x i) (sym s) (elim (or_cases (among list i) (row_has rows q i) (sym (a.here i) ∙ g)) [
          | inl b ↦ (v, here, (ls i il).0 b)
          | inr o ↦ (let z = (t q i ql il).0 o in (z.0, kept z.0 q z.1, z.2))
        ]))
    | inr ne ↦ (let z = (t p i pl il).0 (sym (a.others p i ne) ∙ h) in (z.0, kept z.0 p z.1, z.2))
  ]

  row_of : (p i : ℕ) → p < 20 → i < count → Source p i → IsTrue (row_has new p i)
  unfolding Source
  row_of p i pl il (u, e, b) = elim (old_or_new u p e) [
    | inl z ↦ subst (λ x. IsTrue (row_has new x i)) z.1 (a.here i ∙ or_left (among list i) (row_has rows q i) ((ls i il).1 (subst (λ x. At i x) z.0 b)))
    | inr z ↦ elim (cases_eq p q) [
      | inl s ↦ subst (λ x. IsTrue (row_has new x i)) (sym s) (a.here i ∙ or_right (among list i) (row_has rows q i) (subst (λ x. IsTrue (row_has rows x i)) s ((t p i pl il).1 (u, z.1, b))))
      | inr ne ↦ a.others p i ne ∙ (t p i pl il).1 (u, z.1, b)
    ]
  ]

  pub tells_more : Tells count At (set places v (Some q)) new
  unfolding Source
  tells_more p i pl il = (source_of p i pl il, row_of p i pl il)

-- ---- nobody has a place
nobody : (places : List (Option ℕ)) (n u q : ℕ) → places ≡ replicate n None → get_or places u None ≡ Some q → ⊥
nobody places n u q e f = let g : get_or places u None ≡ None = subst (λ x. get_or x u None ≡ None) (sym e) (none_placed n u) in cc

none_tells : (n count : ℕ) (At : ℕ → ℕ → Type 0) (places : List (Option ℕ)) (rows : List (List ℕ)) → places ≡ replicate n None → ((q i : ℕ) → q < 20 → row_has rows q i ≡ false) → Tells count At places rows
none_tells n count At places rows e emp q i lt il = (λ t. let f = emp q i lt in cc, λ (u, f, a). absurd (nobody places n u q e f))

module _ (ops : List Op) (kinds : List Kind) (in_use : List Place) (Live : ℕ → ℕ → Type 0) (order : List ℕ) where
  pub begun : (places : List (Option ℕ)) (written live : List (List ℕ)) → places ≡ replicate (length kinds) None → length written ≡ 20 → length live ≡ 20 → AllWide (length ops) written → AllWide (length ops) live
      → ((q i : ℕ) → q < 20 → row_has written q i ≡ false) → ((q i : ℕ) → q < 20 → row_has live q i ≡ false) → Seating ops kinds in_use Live order 0 places written live
  begun places written live e wl ll ww lw we le = record {
    places_count = ap length e ∙ length-replicate (length kinds) None;
    written_count = wl;
    live_count = ll;
    written_wide = ww;
    live_wide = lw;
    written_tells = none_tells (length kinds) (length ops) (Writes ops) places written e we;
    live_tells = none_tells (length kinds) (length ops) Live places live e le;
    pending = λ j a b. subst (λ x. get_or x (get_or order j 0) None ≡ None) (sym e) (none_placed (length kinds) (get_or order j 0));
    forward = λ o f. subst (λ x. Fits ops kinds in_use Live order x o) e f;
  }

  module _ (i : ℕ) (places : List (Option ℕ)) (written live : List (List ℕ)) (p : Seating ops kinds in_use Live order i places written live) where
    pub ended : length order ≤ i → Fits ops kinds in_use Live order (replicate (length kinds) None) (placed places)
    ended le = p.forward (placed places) (subst (λ x. Fits ops kinds in_use Live x places (placed places)) (sym (drop_all i order le)) all_placed)

    module _ (fixed : List (List ℕ)) (fr : (q i : ℕ) → q < 20 → row_has fixed q i ≡ (nat_lt i (length ops) && has_place (op_at ops i).fixed q)) (writes lives crosses : List ℕ) (v : ℕ) (lt : i < length order) (e : v ≡ get_or order i v) (k : Counts ops Live writes lives crosses v) where
      pub left_over : ((q : ℕ) → q < 20 → OpenBy kinds in_use ops fixed written live writes lives crosses v q → ⊥) → Fits ops kinds in_use Live order (replicate (length kinds) None) (refused v places)
      left_over shut = p.forward (refused v places) (subst (λ x. Fits ops kinds in_use Live x places (refused v places)) (sym (drop-cons order i v lt)) (subst (λ x. Fits ops kinds in_use Live (x ∷ drop (suc i) order) places (refused v places)) e
          (one_left (λ q m f. let ql = kind_below kinds in_use v q (and_parts (kind_has kinds in_use v q) _ m).0 in shut q ql (open_from_free ops kinds in_use Live fixed fr places written live p.written_tells p.live_tells writes lives crosses v k q ql m f)))))

      pub put : (q : ℕ) (written' live' : List (List ℕ)) → IsDistinct order → v < length kinds → q < 20
          → OpenBy kinds in_use ops fixed written live writes lives crosses v q → ((x : ℕ) → x < q → OpenBy kinds in_use ops fixed written live writes lives crosses v x → ⊥)
          → AddsTo q writes written written' → AddsTo q lives live live'
          → Seating ops kinds in_use Live order (i + 1) (set places v (Some q)) written' live'
      put q written' live' dist vl ql o first aw al =
          let v0 : v ≡ get_or order i 0 = e ∙ get_or_default order i v 0 lt in
          let none : get_or places v None ≡ None = subst (λ x. get_or places x None ≡ None) (sym v0) (p.pending i (omega arith) lt) in
          let vp : v < length places = omega (arith, p.places_count) in
          record {
            places_count = length-set places v (Some q) ∙ p.places_count;
            written_count = aw.count ∙ p.written_count;
            live_count = al.count ∙ p.live_count;
            written_wide = aw.wide (length ops) p.written_wide;
            live_wide = al.wide (length ops) p.live_wide;
            written_tells = tells_more (length ops) (Writes ops) writes v (λ j jl. k.writes_are j) places written written' p.written_tells q vp none aw;
            live_tells = tells_more (length ops) Live lives v (λ j jl. (λ a. ((k.lives_are j).0 a).1, λ l. (k.lives_are j).1 (jl, l))) places live live' p.live_tells q vp none al;
            pending = λ j le jl. let ne : get_or order j 0 ≢ v = λ z. dist i j (omega arith) jl (sym v0 ∙ sym z) in rw (get_or-set_other places v (get_or order j 0) (Some q) None ne) (p.pending j (omega arith) jl);
            forward = λ o' f. p.forward o' (subst (λ x. Fits ops kinds in_use Live x places o') (sym (drop-cons order i v lt)) (subst (λ x. Fits ops kinds in_use Live (x ∷ drop (suc i) order) places o') e (one_placed (record {
              meets_needs = o.meets_needs;
              free = free_from_open ops kinds in_use Live fixed fr places written live p.written_tells p.live_tells writes lives crosses v k q ql o;
              is_first = λ x xl m f'. let xl' : x < 20 = omega arith in first x xl (open_from_free ops kinds in_use Live fixed fr places written live p.written_tells p.live_tells writes lives crosses v k x xl' m f');
            }) (subst (λ x. Fits ops kinds in_use Live (drop x order) (set places v (Some q)) o') (add-one i) f))));
          }
