-- What first fit gives: each variable a place, apart from what conflicts with it.
use Rattle.std.proofs.Common.{◌≡◌, ◌≢◌, ℕ, zero, suc, ◌+◌, ◌<◌, ◌≤◌, ◌⊎◌, inl, inr, Bool, true, false, not, List, [], ◌∷◌, ◌++◌, IsTrue, Option, Some, None, length, get_or, set, cond, drop, map, refl, sym, ap, ◌∙◌, subst, arith, nat_eq, get_or-set_same, get_or-set_other, length-set}
use Rattle.std.specs.List.{All, filter, range_with_len}
use Rattle.std.proofs.lemmas.Bool.{and_parts, cases_eq, cases_lt, eq-eqb, eqb-true, or_cases, or_left, or_right}
use Rattle.std.proofs.lemmas.List.{get_or-map, length-map, get_or_past, length-replicate}
use Rattle.std.proofs.lemmas.List.Elements.{All-get_or, All-from_get_or}
use Rattle.x64_insn.specs.declared.types.Place.{Place}
use Rattle.x64_insn.specs.declared.types.Place.TheVariants as place
use Rattle.x64_insn.specs.declared.types.Reg.TheVariants as reg
use Rattle.jz_ir.specs.declared.code.Code.{Code}
use Rattle.jz_ir.specs.declared.code.Kind.{Kind}
use Rattle.jz_ir.specs.declared.code.Op.{Op}
use Rattle.jz_ir.specs.Order.{number_of, has_place}
use Rattle.jz_ir.specs.Paths.{among}
use Rattle.jz_ir.specs.Straight.{LiveIn}
use Rattle.jz_ir.specs.Places.{Below, IsWithin, op_at, no_op, kind_has, has_need, order_of, ConflictAt, Out, placed, First, all_placed, one_placed, one_left, Takes, Meets, Conflict, Taken, FirstFit, all_of, place_at, IsPlacing}
use Rattle.jz_ir.proofs.Below.{among_below}
use Rattle.jz_ir.proofs.Below as below
use Rattle.jz_alloc.specs.Fit.{IsSeat}
use Rattle.jz_alloc.proofs.Fitting.{none_placed}
use Rattle.jz_alloc.proofs.Meaning.{kind_below}

some_same : {a b : ℕ} → Some a ≡ Some b → a ≡ b
some_same e = cc

pub seat_below : (p : Option ℕ) (n : ℕ) → p ≡ Some n → IsSeat p → n < 20
seat_below p n e (q, f, l) = subst (λ x. x < 20) (some_same (sym f ∙ e)) l

old_or_new : (places : List (Option ℕ)) (v q u p : ℕ) → get_or (set places v (Some q)) u None ≡ Some p → ((u ≡ v) × (q ≡ p)) ⊎ ((u ≢ v) × (get_or places u None ≡ Some p))
old_or_new places v q u p e = elim (cases_eq u v) [
  | inl s ↦ elim (cases_lt v (length places)) [
    | inl l ↦ inl (s, some_same (sym (get_or-set_same places v (Some q) None l) ∙ subst (λ x. get_or (set places v (Some q)) x None ≡ Some p) s e))
    | inr g ↦ absurd (let k : length (set places v (Some q)) ≤ u = omega (arith, length-set places v (Some q)) in let n = get_or_past (set places v (Some q)) u None k in cc)
  ]
  | inr ne ↦ inr (ne, sym (get_or-set_other places v u (Some q) None ne) ∙ e)
]

-- over any needs and conflicts
module _ (M : ℕ → ℕ → Type 0) (C : ℕ → ℕ → Type 0) (T : ℕ → ℕ → Type 0) where
  -- one outcome alone
  same_place : {done : List (Option ℕ)} {v p q : ℕ} → Takes M C T done v p → Takes M C T done v q → p ≡ q
  same_place {done} {v} {p} {q} s t = elim (cases_eq p q) [
    | inl e ↦ e
    | inr ne ↦ elim (cases_lt p q) [
      | inl l ↦ absurd (t.is_first p l s.meets_needs s.free)
      | inr g ↦ absurd (s.is_first q (omega arith) t.meets_needs t.free)
    ]
  ]

  pub one_out : {vs : List ℕ} {done : List (Option ℕ)} {o o' : Out} → First M C T vs done o → First M C T vs done o' → o ≡ o'
  one_out all_placed all_placed = refl
  one_out (one_placed {v} {q} {vs} {done} s f) (one_placed {q = p} {o = r} t g) = one_out f (subst (λ x. First M C T vs (set done v (Some x)) r) (same_place t s) g)
  one_out (one_placed s f) (one_left l) = absurd (l _ s.meets_needs s.free)
  one_out (one_left l) (one_placed s f) = absurd (l _ s.meets_needs s.free)
  one_out (one_left l) (one_left k) = refl

  pub same_length : {vs : List ℕ} {done p : List (Option ℕ)} → First M C T vs done (placed p) → length p ≡ length done
  same_length all_placed = refl
  same_length (one_placed {v} {q} {vs} {done} t f) = same_length f ∙ length-set done v (Some q)

  -- what is kept of the places
  pub record Kept (places : List (Option ℕ)) : Type 0 where
    pub meets_needs : (v q : ℕ) → get_or places v None ≡ Some q → M v q
    pub untaken : (v q : ℕ) → get_or places v None ≡ Some q → T v q → ⊥
    pub apart : (u v q : ℕ) → u ≢ v → get_or places u None ≡ Some q → get_or places v None ≡ Some q → C u v → ⊥

  module _ (flip : (u v : ℕ) → C u v → C v u) where
    one_kept : (done : List (Option ℕ)) (v q : ℕ) → Takes M C T done v q → Kept done → Kept (set done v (Some q))
    one_kept done v q t k = record {
      meets_needs = λ u p e. elim (old_or_new done v q u p e) [
        | inl z ↦ subst (λ x. M x p) (sym z.0) (subst (λ x. M v x) z.1 t.meets_needs)
        | inr z ↦ k.meets_needs u p z.1
      ];
      untaken = λ u p e x. elim (old_or_new done v q u p e) [
        | inl z ↦ t.free.untaken (subst (λ y. T y q) z.0 (subst (λ y. T u y) (sym z.1) x))
        | inr z ↦ k.untaken u p z.1 x
      ];
      apart = λ u w p ne e f c. elim (old_or_new done v q u p e) [
        | inl z ↦ elim (old_or_new done v q w p f) [
          | inl y ↦ ne (z.0 ∙ sym y.0)
          | inr y ↦ t.free.apart w (y.1 ∙ ap Some (sym z.1)) (flip v w (subst (λ x. C x w) z.0 c))
        ]
        | inr z ↦ elim (old_or_new done v q w p f) [
          | inl y ↦ t.free.apart u (z.1 ∙ ap Some (sym y.1)) (subst (λ x. C u x) y.0 c)
          | inr y ↦ k.apart u w p ne z.1 y.1 c
        ]
      ];
    }

    pub all_kept : {vs : List ℕ} {done p : List (Option ℕ)} → First M C T vs done (placed p) → Kept done → Kept p
    all_kept all_placed k = k
    all_kept (one_placed {v} {q} {vs} {done} t f) k = all_kept f (one_kept done v q t k)

  -- who is in the list has a place in the end
  abbrev Has : List (Option ℕ) → ℕ → Type 0
  Has places v = (q : ℕ) × (get_or places v None ≡ Some q)

  has_more : (done : List (Option ℕ)) (v q u : ℕ) → Has done u → Has (set done v (Some q)) u
  has_more done v q u (p, e) = elim (cases_eq u v) [
    | inl s ↦ elim (cases_lt v (length done)) [
      | inl l ↦ (q, ap (λ x. get_or (set done v (Some q)) x None) s ∙ get_or-set_same done v (Some q) None l)
      | inr g ↦ absurd (let n = get_or_past done u None (omega arith) in cc)
    ]
    | inr ne ↦ (p, get_or-set_other done v u (Some q) None ne ∙ e)
  ]

  has_stays : {vs : List ℕ} {done p : List (Option ℕ)} (u : ℕ) → First M C T vs done (placed p) → Has done u → Has p u
  has_stays u all_placed h = h
  has_stays u (one_placed {v} {q} {vs} {done} t f) h = has_stays u f (has_more done v q u h)

  pub has_place_in : {vs : List ℕ} {done p : List (Option ℕ)} (u : ℕ) → u < length done → First M C T vs done (placed p) → IsTrue (among vs u) → (q : ℕ) × (get_or p u None ≡ Some q)
  has_place_in u l all_placed h = cc
  has_place_in u l (one_placed {v} {q} {vs} {done} t f) h = elim (or_cases (nat_eq v u) (among vs u) h) [
    | inl e ↦ has_stays u f (q, (let s : u ≡ v = sym (eqb-true v u e) in ap (λ x. get_or (set done v (Some q)) x None) s ∙ get_or-set_same done v (Some q) None (omega (arith, s))))
    | inr r ↦ has_place_in u (omega (arith, length-set done v (Some q))) f r
  ]

-- ---- each variable is in the order
among_front : (xs ys : List ℕ) (v : ℕ) → IsTrue (among xs v) → IsTrue (among (xs ++ ys) v)
among_front [] ys v h = cc
among_front (x ∷ xs) ys v h = elim (or_cases (nat_eq x v) (among xs v) h) [
  | inl e ↦ or_left (nat_eq x v) (among (xs ++ ys) v) e
  | inr r ↦ or_right (nat_eq x v) (among (xs ++ ys) v) (among_front xs ys v r)
]

among_back : (xs ys : List ℕ) (v : ℕ) → IsTrue (among ys v) → IsTrue (among (xs ++ ys) v)
among_back [] ys v h = h
among_back (x ∷ xs) ys v h = or_right (nat_eq x v) (among (xs ++ ys) v) (among_back xs ys v h)

among_filter : (f : ℕ → Bool) (xs : List ℕ) (v : ℕ) → IsTrue (f v) → IsTrue (among xs v) → IsTrue (among (filter f xs) v)
among_filter f [] v t h = cc
among_filter f (x ∷ xs) v t h = go (f x) refl (or_cases (nat_eq x v) (among xs v) h) (λ r. among_filter f xs v t r)
  where
    go : (b : Bool) → f x ≡ b → IsTrue (nat_eq x v) ⊎ IsTrue (among xs v) → (IsTrue (among xs v) → IsTrue (among (filter f xs) v)) → IsTrue (among (cond b (x ∷ filter f xs) (filter f xs)) v)
    go true e (inl s) k = or_left (nat_eq x v) (among (filter f xs) v) s
    go true e (inr r) k = or_right (nat_eq x v) (among (filter f xs) v) (k r)
    go false e (inl s) k = absurd (let y = subst (λ z. IsTrue (f z)) (sym (eqb-true x v s)) t in cc)
    go false e (inr r) k = k r

among_range : (a n v : ℕ) → a ≤ v → v < a + n → IsTrue (among (range_with_len a n) v)
among_range a zero v l h = absurd (omega arith)
among_range a (suc n) v l h = elim (cases_eq a v) [
  | inl e ↦ or_left (nat_eq a v) (among (range_with_len (a + 1) n) v) (subst (λ x. IsTrue (nat_eq a x)) e (eq-eqb a a refl))
  | inr ne ↦ or_right (nat_eq a v) (among (range_with_len (a + 1) n) v) (among_range (a + 1) n v (omega arith) (omega arith))
]

in_order : (ops : List Op) (n v : ℕ) → v < n → IsTrue (among (order_of ops n) v)
in_order ops n v l = go (has_need ops v) refl
  where
    r : IsTrue (among (range_with_len 0 n) v)
    r = among_range 0 n v (omega arith) (omega arith)

    go : (b : Bool) → has_need ops v ≡ b → IsTrue (among (order_of ops n) v)
    go true e = among_front (filter (has_need ops) (range_with_len 0 n)) _ v (among_filter (has_need ops) (range_with_len 0 n) v e r)
    go false e = among_back (filter (has_need ops) (range_with_len 0 n)) _ v (among_filter (λ x. not (has_need ops x)) (range_with_len 0 n) v (ap not e) r)

-- ---- the places of first fit
swapped : (ops : List Op) (L : ℕ → ℕ → Type 0) (i u v : ℕ) → ConflictAt ops L i u v → ConflictAt ops L i v u
swapped ops L i u v (inl c) = inr c
swapped ops L i u v (inr c) = inl c

module _ (ops : List Op) (kinds : List Kind) (in_use : List Place) (L : ℕ → ℕ → Type 0) (p : List (Option ℕ)) (f : FirstFit ops kinds in_use L (placed p)) where
  pub fit_length : length p ≡ length kinds
  fit_length = same_length _ _ _ f ∙ length-replicate (length kinds) None

  pub fit_kept : Kept (Meets ops kinds in_use L) (Conflict ops kinds in_use L) (Taken ops kinds in_use L) p
  fit_kept =
      let none = none_placed (length kinds) in
      all_kept _ _ _ (λ u v c. (c.0, swapped ops L c.0 u v c.1)) f (record {
        meets_needs = λ v q e. absurd (let n = none v in cc);
        untaken = λ v q e t. let n = none v in cc;
        apart = λ u v q ne e g c. let n = none u in cc;
      })

  pub fit_has : (v : ℕ) → v < length kinds → (q : ℕ) × (get_or p v None ≡ Some q)
  fit_has v l = has_place_in _ _ _ v (omega (arith, length-replicate {A = Option ℕ} (length kinds) None)) f (in_order ops (length kinds) v l)

  pub fit_seats : All IsSeat p
  fit_seats = All-from_get_or IsSeat p None (λ v l.
      let z = fit_has v (omega (arith, fit_length)) in
      (z.0, z.1, kind_below kinds in_use v z.0 (and_parts (kind_has kinds in_use v z.0) _ (fit_kept.meets_needs v z.0 z.1)).0))

-- ---- what that is for the places themselves
seat_at : (places : List Place) (v : ℕ) → v < length places → get_or (map (λ p. Some (number_of p)) places) v None ≡ Some (number_of (place_at places v))
seat_at places v l = get_or-map (λ p. Some (number_of p)) places v (place.Reg reg.Rsp) None l

at_op : (ops : List Op) (i q : ℕ) → IsTrue (has_place (op_at ops i).fixed q) → i < length ops
at_op ops i q h = elim (cases_lt i (length ops)) [ inl l ↦ l | inr g ↦ absurd (let e = subst (λ o. IsTrue (has_place o.fixed q)) (get_or_past ops i no_op g) h in cc) ]

write_below : (ops : List Op) (n i u : ℕ) → All (Below n) ops → IsTrue (among (op_at ops i).writes u) → u < n
write_below ops n i u b h = elim (cases_lt i (length ops)) [
  | inl l ↦ among_below (op_at ops i).writes u n (All-get_or (Below n) ops i no_op l b).writes h
  | inr g ↦ absurd (let e = subst (λ o. IsTrue (among o.writes u)) (get_or_past ops i no_op g) h in cc)
]

module _ (code : Code) (L : ℕ → ℕ → Type 0) (places : List Place) (within : IsWithin code) (live_below : (i v : ℕ) → L i v → v < length code.kinds) (f : FirstFit code.ops code.kinds code.in_use L (all_of places)) where
  abbrev numbers : List (Option ℕ)
  numbers = map (λ p. Some (number_of p)) places

  one_each : length places ≡ length code.kinds
  one_each = sym (length-map places (λ p. Some (number_of p))) ∙ fit_length code.ops code.kinds code.in_use L numbers f

  seat : (v : ℕ) → v < length code.kinds → get_or numbers v None ≡ Some (number_of (place_at places v))
  seat v l = seat_at places v (omega (arith, one_each))

  kept : Kept (Meets code.ops code.kinds code.in_use L) (Conflict code.ops code.kinds code.in_use L) (Taken code.ops code.kinds code.in_use L) numbers
  kept = fit_kept code.ops code.kinds code.in_use L numbers f

  pub placing : IsPlacing code L places
  placing = record {
    one_each = one_each;
    meets_needs = λ v l. kept.meets_needs v (number_of (place_at places v)) (seat v l);
    apart = λ i u v ne w a e.
        let ul = write_below code.ops (length code.kinds) i u within w in
        kept.apart u v (number_of (place_at places v)) ne (seat u ul ∙ ap (λ x. Some (number_of x)) e) (seat v (live_below i v a)) (i, inl (w, a));
    kept = λ i v t. kept.untaken v (number_of (place_at places v)) (seat v (live_below i v t.2)) (i, t);
  }

-- ---- who is live in code without branches

later_below : (ops : List Op) (n i : ℕ) → All (Below n) ops → All (Below n) (drop i ops)
later_below ops n zero b = b
later_below [] n (suc i) b = b
later_below (o ∷ ops) n (suc i) b = later_below ops n i (λ j d k. b (suc j) d (omega arith))

pub live_below : (ops : List Op) (n i v : ℕ) → All (Below n) ops → LiveIn ops i v → v < n
live_below ops n i v b l = below.live_below n v (drop (i + 1) ops) (later_below ops n (i + 1) b) l

-- ---- the same, as calls saw it
pub within_moved : {ops ops' : List Op} {kinds kinds' : List Kind} → ops' ≡ ops → kinds' ≡ kinds → All (Below (length kinds)) ops → All (Below (length kinds')) ops'
within_moved {ops} {ops'} {kinds} {kinds'} e f b = subst (λ ks. All (Below (length ks)) ops') (sym f) (subst (λ os. All (Below (length kinds)) os) (sym e) b)

pub fit_moved : {ops ops' : List Op} {kinds kinds' : List Kind} {in_use in_use' : List Place} {p p' : List (Option ℕ)} → ops' ≡ ops → kinds' ≡ kinds → in_use' ≡ in_use → p' ≡ p → FirstFit ops' kinds' in_use' (LiveIn ops') (placed p') → FirstFit ops kinds in_use (LiveIn ops) (placed p)
fit_moved {ops} {ops'} {kinds} {kinds'} {in_use} {in_use'} {p} {p'} e1 e2 e3 e4 f =
    subst (λ x. FirstFit ops kinds in_use (LiveIn ops) (placed x)) e4
    (subst (λ x. FirstFit ops kinds x (LiveIn ops) (placed p')) e3
    (subst (λ x. FirstFit ops x in_use' (LiveIn ops) (placed p')) e2
    (subst (λ x. FirstFit x kinds' in_use' (LiveIn x) (placed p')) e1 f)))
