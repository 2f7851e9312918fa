-- First fit over tables is first fit by paths.
use Rattle.std.proofs.Common.{◌≡◌, ℕ, zero, suc, ◌+◌, ◌<◌, inl, inr, ◌↔◌, Bool, true, false, not, ◌&&◌, List, [], ◌∷◌, ◌++◌, IsTrue, IsFalse, Option, Some, None, length, get_or, refl, sym, ap, ◌∙◌, subst, arith, replicate, map, length-set, zero-add}
use Rattle.std.specs.List.{All}
use Rattle.std.proofs.lemmas.List.{get_or_past}
use Rattle.std.proofs.lemmas.Bool.{and_from, and_parts, cases_eq, cases_lt, lt-ltb, ltb-true, or_cases, or_left, or_right}
use Rattle.std.proofs.lemmas.List.Elements.{All-get_or, All-from_get_or, All-weaker, All-push}
use Rattle.std.specs.Prelude.{nat_lt, nat_le}
use Rattle.jz_bits.specs.Has.{has}
use Rattle.jz_bits.proofs.One.{past}
use Rattle.jz_ir.specs.Places.{Below}
use Rattle.jz_alloc.specs.Tables.{any_below, row_has, is_taken, reaches}
use Rattle.jz_alloc.specs.Fit.{MeetsIn, ConflictsIn, TakenIn}
use Rattle.jz_alloc.specs.InnerHolding.{LiveIn, IsHeld}
use Rattle.jz_alloc.specs.Answers.{HoldsEach}
use Rattle.jz_alloc.specs.InnerAnswers.{Allocated}
use Rattle.jz_ir.specs.Places.{Meets, Conflict, Taken}
use Rattle.jz_alloc.specs.declared.evidence.Holder.{Holder}
use Rattle.std.proofs.lemmas.List.{map-append}
use Rattle.jz_alloc.specs.declared.placing.Allocation.{Allocation}
use Rattle.jz_alloc.specs.declared.placing.Allocation.TheVariants as V
use Rattle.jz_alloc.proofs.Orders.{order_below, with_one, without_it}
use Rattle.std.specs.List.{filter, range_with_len}
use Rattle.std.proofs.lemmas.List.FromFn.{length-range_with_len, get_or-range_with_len}
use Rattle.jz_ir.specs.declared.code.Op.{Op}
use Rattle.jz_ir.specs.declared.code.Kind.{Kind}
use Rattle.jz_ir.specs.declared.code.Kind.TheVariants.{Word, Flag}
use Rattle.x64_insn.specs.declared.types.Place.{Place}
use Rattle.jz_ir.specs.Order.{number_of, has_place}
use Rattle.jz_ir.specs.Paths.{among}
use Rattle.jz_ir.specs.Places.{op_at, no_op, ConflictAt, TakenAt, Out, refused, First, all_placed, one_placed, one_left, Free, IsLeft, HeldBy, FirstHolder, kind_has, is_of_kind, meets, order_of}
use Rattle.jz_ir.proofs.Below.{among_below}

-- the last variable of a refusal is left
pub left_of : {M : ℕ → ℕ → Type 0} {C : ℕ → ℕ → Type 0} {T : ℕ → ℕ → Type 0} {vs : List ℕ} {done : List (Option ℕ)} {v : ℕ} {p : List (Option ℕ)} → First M C T vs done (refused v p) → IsLeft M C T p v
left_of (one_placed t f) = left_of f
left_of (one_left l) = l

module _ (n : ℕ) (M M' C C' T T' : ℕ → ℕ → Type 0) (mt : (v q : ℕ) → v < n → M v q → M' v q) (mf : (v q : ℕ) → v < n → M' v q → M v q) (ct : (u v : ℕ) → v < n → C u v → C' u v) (cf : (u v : ℕ) → v < n → C' u v → C u v) (to : (v q : ℕ) → v < n → M v q → T v q → T' v q) (from : (v q : ℕ) → v < n → M v q → T' v q → T v q) where
  free_to : (done : List (Option ℕ)) (v q : ℕ) → v < n → M v q → Free M C T done v q → Free M' C' T' done v q
  free_to done v q l m f = record { apart = λ u e c. f.apart u e (cf u v l c); untaken = λ t. f.untaken (from v q l m t) }

  free_from : (done : List (Option ℕ)) (v q : ℕ) → v < n → M v q → Free M' C' T' done v q → Free M C T done v q
  free_from done v q l m f = record { apart = λ u e c. f.apart u e (ct u v l c); untaken = λ t. f.untaken (to v q l m t) }

  pub first_to : {vs : List ℕ} {done : List (Option ℕ)} {o : Out} → All (λ v. v < n) vs → First M C T vs done o → First M' C' T' vs done o
  first_to a all_placed = all_placed
  first_to a (one_placed {v} {q} {vs} {done} {o} t f) =
      let l = a 0 0 (omega arith) in
      one_placed (record { meets_needs = mt v q l t.meets_needs; free = free_to done v q l t.meets_needs t.free; is_first = λ p pl m g. t.is_first p pl (mf v p l m) (free_from done v p l (mf v p l m) g) }) (first_to (λ i d k. a (suc i) d (omega arith)) f)
  first_to a (one_left {v} {vs} {done} h) = let l = a 0 0 (omega arith) in one_left (λ q m g. h q (mf v q l m) (free_from done v q l (mf v q l m) g))

-- another liveness that is the same
module _ (ops : List Op) (L L' : ℕ → ℕ → Type 0) (same : (i : ℕ) → i < length ops → (v : ℕ) → L i v ↔ L' i v) where
  written : (i a : ℕ) → IsTrue (among (op_at ops i).writes a) → i < length ops
  written i a h = elim (cases_lt i (length ops)) [ inl l ↦ l | inr g ↦ absurd (let e = subst (λ o. IsTrue (among o.writes a)) (get_or_past ops i no_op g) h in cc) ]

  fixed : (i q : ℕ) → IsTrue (has_place (op_at ops i).fixed q) → i < length ops
  fixed i q h = elim (cases_lt i (length ops)) [ inl l ↦ l | inr g ↦ absurd (let e = subst (λ o. IsTrue (has_place o.fixed q)) (get_or_past ops i no_op g) h in cc) ]

  pub conflict_to : (i a b : ℕ) → ConflictAt ops L i a b → ConflictAt ops L' i a b
  conflict_to i a b (inl (w, l)) = inl (w, (same i (written i a w) b).0 l)
  conflict_to i a b (inr (w, l)) = inr (w, (same i (written i b w) a).0 l)

  pub conflict_from : (i a b : ℕ) → ConflictAt ops L' i a b → ConflictAt ops L i a b
  conflict_from i a b (inl (w, l)) = inl (w, (same i (written i a w) b).1 l)
  conflict_from i a b (inr (w, l)) = inr (w, (same i (written i b w) a).1 l)

  pub taken_to : (i v q : ℕ) → TakenAt ops L i v q → TakenAt ops L' i v q
  taken_to i v q (f, w, l) = (f, w, (same i (fixed i q f) v).0 l)

  pub taken_from : (i v q : ℕ) → TakenAt ops L' i v q → TakenAt ops L i v q
  taken_from i v q (f, w, l) = (f, w, (same i (fixed i q f) v).1 l)

  held_to : (places : List (Option ℕ)) (v q i : ℕ) (who : Option ℕ) → HeldBy ops L places v q i who → HeldBy ops L' places v q i who
  held_to places v q i (Some u) (h, first) = ((h.0, conflict_to i u v h.1), λ w l x. first w l (x.0, conflict_from i w v x.1))
  held_to places v q i None (t, no_var) = (taken_to i v q t, λ u h. no_var u (h.0, conflict_from i u v h.1))

  pub holder_to : {places : List (Option ℕ)} {v q : ℕ} {at : _} {who : Option ℕ} → FirstHolder ops L places v q at who → FirstHolder ops L' places v q at who
  holder_to {places} {v} {q} {at} {who} h = record {
    held_at = h.held_at;
    within = h.within;
    span_is = h.span_is;
    held = held_to places v q h.held_at who h.held;
    earlier_vars = λ j l u x. h.earlier_vars j l u (x.0, conflict_from j u v x.1);
    earlier_fixed = λ j l x. h.earlier_fixed j l (taken_from j v q x);
  }

pub left_below : {M : ℕ → ℕ → Type 0} {C : ℕ → ℕ → Type 0} {T : ℕ → ℕ → Type 0} {vs : List ℕ} {done : List (Option ℕ)} {v : ℕ} {p : List (Option ℕ)} (n : ℕ) → All (λ x. x < n) vs → First M C T vs done (refused v p) → v < n
left_below n a (one_placed {vs} t f) = left_below n (λ i d k. a (suc i) d (omega arith)) f
left_below n a (one_left l) = a 0 0 (omega arith)

not_false : (b : Bool) → IsTrue (not b) → IsFalse b
not_false true h = cc
not_false false h = refl

any_here : (n : ℕ) (f : ℕ → Bool) (k : ℕ) → k < n → IsTrue (f k) → IsTrue (any_below n f)
any_here zero f k l h = absurd (omega arith)
any_here (suc n) f k l h = elim (cases_eq k n) [
  | inl e ↦ or_right (any_below n f) (f n) (subst (λ x. IsTrue (f x)) e h)
  | inr ne ↦ or_left (any_below n f) (f n) (any_here n f k (omega arith) h)
]

any_found : (n : ℕ) (f : ℕ → Bool) → IsTrue (any_below n f) → (k : ℕ) × (k < n) × IsTrue (f k)
any_found zero f h = cc
any_found (suc n) f h = elim (or_cases (any_below n f) (f n) h) [
  | inl t ↦ (let z = any_found n f t in (z.0, (let l : z.0 < suc n = omega (arith, z.1) in l), z.2))
  | inr t ↦ (n, (let l : n < suc n = omega arith in l), t)
]

pub kind_below : (kinds : List Kind) (in_use : List Place) (v q : ℕ) → IsTrue (kind_has kinds in_use v q) → q < 20
kind_below kinds in_use v q h = go (get_or kinds v Word) (and_parts (is_of_kind (get_or kinds v Word) q) (has_place in_use q) h).0
  where
    go : (k : Kind) → IsTrue (is_of_kind k q) → q < 20
    go Flag t = ltb-true q 20 (and_parts (nat_le 15 q) (nat_lt q 20) t).1
    go Word t = omega (arith, ltb-true q 15 t)

module _ (ops : List Op) (kinds : List Kind) (in_use : List Place) (after ms ts rows : List (List ℕ)) (below : All (Below (length kinds)) ops) (rl : length rows ≡ length kinds) (msr : (q v : ℕ) → q < 20 → row_has ms q v ≡ (nat_lt v (length kinds) && meets kinds in_use ops v q)) (tsr : (q v : ℕ) → q < 20 → row_has ts q v ≡ any_below (length ops) (λ i. is_taken ops after i v q)) (wsr : (u v : ℕ) → u < length kinds → row_has rows u v ≡ any_below (length ops) (λ i. reaches ops after i u v)) where
  meets_to : (v q : ℕ) → v < length kinds → MeetsIn ms v q → Meets ops kinds in_use (LiveIn after) v q
  meets_to v q l (ql, t) = (and_parts (nat_lt v (length kinds)) (meets kinds in_use ops v q) (sym (msr q v ql) ∙ t)).1

  meets_from : (v q : ℕ) → v < length kinds → Meets ops kinds in_use (LiveIn after) v q → MeetsIn ms v q
  meets_from v q l t =
      let ql = kind_below kinds in_use v q (and_parts (kind_has kinds in_use v q) _ t).0 in
      (ql, msr q v ql ∙ and_from (nat_lt v (length kinds)) (meets kinds in_use ops v q) (lt-ltb v (length kinds) l) t)

  one_way : (u v : ℕ) → u < length kinds → IsTrue (row_has rows u v) → (i : ℕ) × IsTrue (among (op_at ops i).writes u) × LiveIn after i v
  one_way u v l t = let z = any_found (length ops) (λ i. reaches ops after i u v) (sym (wsr u v l) ∙ t) in (z.0, (and_parts (among (op_at ops z.0).writes u) (row_has after z.0 v) z.2).0, (and_parts (among (op_at ops z.0).writes u) (row_has after z.0 v) z.2).1)

  other_way : (i u v : ℕ) → u < length kinds → IsTrue (among (op_at ops i).writes u) → LiveIn after i v → IsTrue (row_has rows u v)
  other_way i u v l w a = wsr u v l ∙ any_here (length ops) (λ i. reaches ops after i u v) i (written ops (LiveIn after) (LiveIn after) (λ j k x. (λ y. y, λ y. y)) i u w) (and_from (among (op_at ops i).writes u) (row_has after i v) w a)

  inside : (u v : ℕ) → IsTrue (row_has rows u v) → u < length kinds
  inside u v t = elim (cases_lt u (length rows)) [ inl l ↦ (let k : u < length kinds = omega (arith, rl) in k) | inr g ↦ absurd (let e : row_has rows u v ≡ false = ap (λ r. has r v) (get_or_past rows u [] g) ∙ sym (past [] v (omega arith)) in cc) ]

  conflicts_to : (u v : ℕ) → v < length kinds → ConflictsIn rows u v → Conflict ops kinds in_use (LiveIn after) u v
  conflicts_to u v l (inl t) = let z = one_way u v (inside u v t) t in (z.0, inl (z.1, z.2))
  conflicts_to u v l (inr t) = let z = one_way v u l t in (z.0, inr (z.1, z.2))

  var_below : (i u : ℕ) → IsTrue (among (op_at ops i).writes u) → u < length kinds
  var_below i u w = among_below (op_at ops i).writes u (length kinds) (All-get_or (Below (length kinds)) ops i no_op (written ops (LiveIn after) (LiveIn after) (λ j k x. (λ y. y, λ y. y)) i u w) below).writes w

  conflicts_from : (u v : ℕ) → v < length kinds → Conflict ops kinds in_use (LiveIn after) u v → ConflictsIn rows u v
  conflicts_from u v l (i, inl (w, a)) = inl (other_way i u v (var_below i u w) w a)
  conflicts_from u v l (i, inr (w, a)) = inr (other_way i v u l w a)

  takens_to : (v q : ℕ) → v < length kinds → MeetsIn ms v q → TakenIn ts v q → Taken ops kinds in_use (LiveIn after) v q
  takens_to v q l m t =
      let z = any_found (length ops) (λ i. is_taken ops after i v q) (sym (tsr q v m.0) ∙ t) in
      let a = and_parts (has_place (op_at ops z.0).fixed q) (not (among (op_at ops z.0).writes v) && row_has after z.0 v) z.2 in
      let b = and_parts (not (among (op_at ops z.0).writes v)) (row_has after z.0 v) a.1 in
      (z.0, (a.0, not_false (among (op_at ops z.0).writes v) b.0, b.1))

  takens_from : (v q : ℕ) → v < length kinds → MeetsIn ms v q → Taken ops kinds in_use (LiveIn after) v q → TakenIn ts v q
  takens_from v q l m (i, (f, w, a)) = tsr q v m.0 ∙ any_here (length ops) (λ i. is_taken ops after i v q) i (fixed ops (LiveIn after) (LiveIn after) (λ j k x. (λ y. y, λ y. y)) i q f) (and_from (has_place (op_at ops i).fixed q) (not (among (op_at ops i).writes v) && row_has after i v) f (and_from (not (among (op_at ops i).writes v)) (row_has after i v) (rw w refl) a))

  pub first_by_paths : {vs : List ℕ} {done : List (Option ℕ)} {o : Out} → All (λ v. v < length kinds) vs → First (MeetsIn ms) (ConflictsIn rows) (TakenIn ts) vs done o → First (Meets ops kinds in_use (LiveIn after)) (Conflict ops kinds in_use (LiveIn after)) (Taken ops kinds in_use (LiveIn after)) vs done o
  first_by_paths a f = first_to (length kinds) _ _ _ _ _ _ meets_to meets_from conflicts_to conflicts_from takens_to takens_from a f

  pub something_holds : {vs : List ℕ} {done : List (Option ℕ)} {v : ℕ} {p : List (Option ℕ)} → All (λ v. v < length kinds) vs → First (MeetsIn ms) (ConflictsIn rows) (TakenIn ts) vs done (refused v p) → (q : ℕ) → q < 20 → IsTrue (row_has ms q v) → (IsHeld ops after p v q → ⊥) → ⊥
  something_holds {vs} {done} {v} {p} a f q ql m h =
      let l = left_below (length kinds) a f in
      left_of f q (ql, m) (record {
        apart = λ u e c. let z = conflicts_to u v l c in h (z.0, at_op z.0 u v z.1, inl (u, (e, z.1)));
        untaken = λ t. let z = takens_to v q l (ql, m) t in h (z.0, fixed ops (LiveIn after) (LiveIn after) (λ j k x. (λ y. y, λ y. y)) z.0 q z.1.0, inr z.1);
      })
    where
      at_op : (i u w : ℕ) → ConflictAt ops (LiveIn after) i u w → i < length ops
      at_op i u w (inl (x, y)) = written ops (LiveIn after) (LiveIn after) (λ j k z. (λ s. s, λ s. s)) i u x
      at_op i u w (inr (x, y)) = written ops (LiveIn after) (LiveIn after) (λ j k z. (λ s. s, λ s. s)) i w x

pub moved : (T : ℕ → ℕ → Type 0) (ms ms' rows rows' : List (List ℕ)) (vs vs' : List ℕ) (n : ℕ) (o : Out) → ms' ≡ ms → rows' ≡ rows → vs' ≡ vs → length rows ≡ n → First (MeetsIn ms') (ConflictsIn rows') T vs' (replicate (length rows') None) o → First (MeetsIn ms) (ConflictsIn rows) T vs (replicate n None) o
moved T ms ms' rows rows' vs vs' n o e1 e2 e3 e4 f =
    subst (λ x. First (MeetsIn ms) (ConflictsIn rows) T vs (replicate x None) o) (ap length e2 ∙ e4)
    (subst (λ x. First (MeetsIn x) (ConflictsIn rows) T vs (replicate (length rows') None) o) e1
    (subst (λ x. First (MeetsIn ms') (ConflictsIn x) T vs (replicate (length rows') None) o) e2
    (subst (λ x. First (MeetsIn ms') (ConflictsIn rows') T x (replicate (length rows') None) o) e3 f)))

pub left_length : {M : ℕ → ℕ → Type 0} {C : ℕ → ℕ → Type 0} {T : ℕ → ℕ → Type 0} {vs : List ℕ} {done : List (Option ℕ)} {v : ℕ} {p : List (Option ℕ)} → First M C T vs done (refused v p) → length p ≡ length done
left_length (one_placed {v} {q} {vs} {done} t f) = left_length f ∙ length-set done v (Some q)
left_length (one_left l) = refl

pub filter_same : (f g : ℕ → Bool) (xs : List ℕ) → All (λ x. f x ≡ g x) xs → filter f xs ≡ filter g xs
filter_same f g [] a = refl
filter_same f g (x ∷ xs) a = let r = filter_same f g xs (λ i d k. a (suc i) d (omega arith)) in let e : f x ≡ g x = a 0 0 (omega arith) in rw (e, r) refl

pub same_tests : (kinds : List Kind) (in_use : List Place) (ops : List Op) (ms : List (List ℕ)) (v : ℕ) → v < length kinds → ((q v : ℕ) → q < 20 → row_has ms q v ≡ (nat_lt v (length kinds) && meets kinds in_use ops v q)) → filter (λ q. row_has ms q v) (range_with_len 0 20) ≡ filter (meets kinds in_use ops v) (range_with_len 0 20)
same_tests kinds in_use ops ms v l msr = filter_same (λ q. row_has ms q v) (meets kinds in_use ops v) (range_with_len 0 20) (All-from_get_or (λ q. row_has ms q v ≡ meets kinds in_use ops v q) (range_with_len 0 20) 0 (λ i k. let e : i < 20 = omega (arith, length-range_with_len 0 20) in rw (get_or-range_with_len 0 20 i 0 e, zero-add i) (msr i v e ∙ ap (λ b. b && meets kinds in_use ops v i) (lt-ltb v (length kinds) l))))

pub first_same : (ops : List Op) (kinds : List Kind) (in_use : List Place) (L L' : ℕ → ℕ → Type 0) → ((i : ℕ) → i < length ops → (v : ℕ) → L i v ↔ L' i v) → {o : Out} → First (Meets ops kinds in_use L) (Conflict ops kinds in_use L) (Taken ops kinds in_use L) (order_of ops (length kinds)) (replicate (length kinds) None) o → First (Meets ops kinds in_use L') (Conflict ops kinds in_use L') (Taken ops kinds in_use L') (order_of ops (length kinds)) (replicate (length kinds) None) o
first_same ops kinds in_use L L' same f = first_to (length kinds) _ _ _ _ _ _ (λ v q l m. m) (λ v q l m. m) (λ u v l c. (c.0, conflict_to ops L L' same c.0 u v c.1)) (λ u v l c. (c.0, conflict_from ops L L' same c.0 u v c.1)) (λ v q l m t. (t.0, taken_to ops L L' same t.0 v q t.1)) (λ v q l m t. (t.0, taken_from ops L L' same t.0 v q t.1)) (order_below ops (length kinds)) f

pub allocated_to : (ops : List Op) (kinds : List Kind) (in_use : List Place) (L L' : ℕ → ℕ → Type 0) → ((i : ℕ) → i < length ops → (v : ℕ) → L i v ↔ L' i v) → (a : Allocation) → Allocated ops kinds in_use L a → Allocated ops kinds in_use L' a
allocated_to ops kinds in_use L L' same (V.Places p) f = first_same ops kinds in_use L L' same f
allocated_to ops kinds in_use L L' same (V.NoPlace n) x = record {
  places = x.places;
  is_first = first_same ops kinds in_use L L' same x.is_first;
  text_order = x.text_order;
  each_need = x.each_need;
  holders = (x.holders.0, All-weaker (λ h. FirstHolder ops L x.places n.variable (number_of h.place) h.span h.variable) (λ h. FirstHolder ops L' x.places n.variable (number_of h.place) h.span h.variable) (λ h y. holder_to ops L L' same y) n.holders x.holders.1);
}

pub to_out : {M : ℕ → ℕ → Type 0} {C : ℕ → ℕ → Type 0} {T : ℕ → ℕ → Type 0} {vs : List ℕ} {done : List (Option ℕ)} {o o' : Out} → o ≡ o' → First M C T vs done o → First M C T vs done o'
to_out {M} {C} {T} {vs} {done} e f = subst (λ x. First M C T vs done x) e f

pub holders_moved : (ops : List Op) (kinds : List Kind) (in_use : List Place) (L : ℕ → ℕ → Type 0) (places places' : List (Option ℕ)) (v : ℕ) (ms ms' : List (List ℕ)) (hs : List Holder) → places' ≡ places → ms' ≡ ms → v < length kinds → ((q v : ℕ) → q < 20 → row_has ms q v ≡ (nat_lt v (length kinds) && meets kinds in_use ops v q)) → HoldsEach ops L places' v (λ q. row_has ms' q v) 20 hs → HoldsEach ops L places v (meets kinds in_use ops v) 20 hs
holders_moved ops kinds in_use L places places' v ms ms' hs e1 e2 l msr h =
    let k = subst (λ x. HoldsEach ops L x v (λ q. row_has ms q v) 20 hs) e1 (subst (λ x. HoldsEach ops L places' v (λ q. row_has x q v) 20 hs) e2 h) in
    (k.0 ∙ same_tests kinds in_use ops ms v l msr, k.1)

-- one more place, with its holder or without
pub one_holder : (ops : List Op) (L : ℕ → ℕ → Type 0) (places : List (Option ℕ)) (v : ℕ) (test : ℕ → Bool) (n : ℕ) (old new : List Holder) (h : Holder) → HoldsEach ops L places v test n old → IsTrue (test n) → new ≡ old ++ h ∷ [] → (number_of h.place ≡ n) × FirstHolder ops L places v n h.span h.variable → HoldsEach ops L places v test (n + 1) new
one_holder ops L places v test n old new h k t e f = (
  with_one test n [] (map (λ x. number_of x.place) old) (map (λ x. number_of x.place) new) t k.0 (ap (map (λ (x : Holder). number_of x.place)) e ∙ map-append (λ (x : Holder). number_of x.place) old (h ∷ []) ∙ ap (λ p. map (λ (x : Holder). number_of x.place) old ++ p ∷ []) f.0),
  subst (All (λ x. FirstHolder ops L places v (number_of x.place) x.span x.variable)) (sym e) (All-push (λ x. FirstHolder ops L places v (number_of x.place) x.span x.variable) old h k.1 (subst (λ p. FirstHolder ops L places v p h.span h.variable) (sym f.0) f.1)),
)

pub no_holder : (ops : List Op) (L : ℕ → ℕ → Type 0) (places : List (Option ℕ)) (v : ℕ) (test : ℕ → Bool) (n : ℕ) (old new : List Holder) → HoldsEach ops L places v test n old → IsFalse (test n) → new ≡ old → HoldsEach ops L places v test (n + 1) new
no_holder ops L places v test n old new k t e = (
  without_it test n [] (map (λ x. number_of x.place) old) (map (λ x. number_of x.place) new) t k.0 (ap (map (λ (x : Holder). number_of x.place)) e),
  subst (All (λ x. FirstHolder ops L places v (number_of x.place) x.span x.variable)) (sym e) k.1,
)
