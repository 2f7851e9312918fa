-- What keeps a variable from a place, by lists and by paths.
use Rattle.std.proofs.Common.{◌≡◌, ℕ, suc, ◌+◌, ◌<◌, ◌≤◌, ◌⊎◌, inl, inr, ◌↔◌, Bool, true, false, ◌||◌, List, [], ◌∷◌, ◌++◌, IsTrue, IsFalse, length, get_or, take, Option, Some, None, refl, sym, ap, ◌∙◌, subst, arith, nat_eq}
use Rattle.std.specs.Prelude.{MatchOption}
use Rattle.std.specs.List.{list_any}
use Rattle.std.proofs.lemmas.Bool.{cases_eq, cases_lt, eq-eqb, eqb-true, or_cases, or_left, or_right}
use Rattle.std.proofs.lemmas.List.Folds.{list_any-append}
use Rattle.x64_insn.specs.declared.types.Place.{Place}
use Rattle.jz_io.specs.declared.span.Span.{Span}
use Rattle.jz_ir.specs.declared.code.Op.{Op}
use Rattle.jz_ir.specs.declared.code.Kind.{Kind}
use Rattle.jz_ir.specs.Order.{has_place}
use Rattle.jz_ir.specs.Paths.{among}
use Rattle.jz_ir.specs.Places.{op_at, meets, ConflictAt, HeldByVar, HeldBy, TakenAt, FirstHolder, Out, refused, Free}
use Rattle.jz_alloc.proofs.Meaning.{left_of}
use Rattle.jz_fit.specs.InnerSpots.{list_at}
use Rattle.jz_fit.specs.InnerSeats.{Fits}
use Rattle.jz_fit.specs.InnerHolding.{SeatIs, IsFirstSeated, IsSeatedIf, IsEarlier, IsLower, VarAt, FixedAt, WhoAt, IsHeld}
use Rattle.jz_fit.proofs.Seating.{wrote, fixes}

-- ---- the first declared of a list
last_among : (xs : List ℕ) (x w : ℕ) → among (xs ++ x ∷ []) w ≡ (among xs w || (nat_eq x w || false))
last_among xs x w = list_any-append (λ y. nat_eq y w) xs (x ∷ [])

in_last : (xs : List ℕ) (x w : ℕ) → IsTrue (among (xs ++ x ∷ []) w) → IsTrue (among xs w) ⊎ (x ≡ w)
in_last xs x w h = elim (or_cases (among xs w) (nat_eq x w || false) (sym (last_among xs x w) ∙ h)) [
  | inl a ↦ inl a
  | inr b ↦ elim (or_cases (nat_eq x w) false b) [ inl e ↦ inr (eqb-true x w e) | inr f ↦ cc ]
]

in_front : (xs : List ℕ) (x w : ℕ) → IsTrue (among xs w) → IsTrue (among (xs ++ x ∷ []) w)
in_front xs x w h = last_among xs x w ∙ or_left (among xs w) (nat_eq x w || false) h

at_last : (xs : List ℕ) (x : ℕ) → IsTrue (among (xs ++ x ∷ []) x)
at_last xs x = last_among xs x x ∙ or_right (among xs x) (nat_eq x x || false) (or_left (nat_eq x x) false (eq-eqb x x refl))

module _ (places : List (Option ℕ)) (q : ℕ) where
  -- one more that has not the place
  pub seated_same : (front : List ℕ) (x : ℕ) (first : Option ℕ) → (SeatIs places x q → ⊥) → IsFirstSeated front places q first → IsFirstSeated (front ++ x ∷ []) places q first
  seated_same front x None n h = λ w a s. elim (in_last front x w a) [
    | inl b ↦ h w b s
    | inr e ↦ n (subst (λ y. SeatIs places y q) (sym e) s)
  ]
  seated_same front x (Some u) n h = (
    in_front front x u h.0,
    h.1,
    λ w l a s. elim (in_last front x w a) [
      | inl b ↦ h.2 w l b s
      | inr e ↦ n (subst (λ y. SeatIs places y q) (sym e) s)
    ],
  )

  -- one more that has it
  pub seated_more : (front : List ℕ) (x : ℕ) (first : Option ℕ) (r : ℕ) → SeatIs places x q → IsEarlier first x r → IsFirstSeated front places q first → IsFirstSeated (front ++ x ∷ []) places q (Some r)
  seated_more front x None r s e h = subst (λ y. IsFirstSeated (front ++ x ∷ []) places q (Some y)) (sym e) (
    at_last front x,
    s,
    λ w l a t. elim (in_last front x w a) [
      | inl b ↦ h w b t
      | inr g ↦ omega (arith, g, l)
    ],
  )
  seated_more front x (Some u) r s (inl (lt, e)) h = subst (λ y. IsFirstSeated (front ++ x ∷ []) places q (Some y)) (sym e) (
    in_front front x u h.0,
    h.1,
    λ w l a t. elim (in_last front x w a) [
      | inl b ↦ h.2 w l b t
      | inr g ↦ omega (arith, g, l, lt)
    ],
  )
  seated_more front x (Some u) r s (inr (le, e)) h = subst (λ y. IsFirstSeated (front ++ x ∷ []) places q (Some y)) (sym e) (
    at_last front x,
    s,
    λ w l a t. elim (in_last front x w a) [
      | inl b ↦ h.2 w (omega (arith, l, le)) b t
      | inr g ↦ omega (arith, g, l)
    ],
  )

-- ---- who keeps the variable at one operation
module _ (op : Op) (after : List ℕ) (places : List (Option ℕ)) (v q : ℕ) where
  none_behind : (w : ℕ) → IsSeatedIf (among op.writes v) after places q None → IsTrue (among op.writes v) → IsTrue (among after w) → SeatIs places w q → ⊥
  none_behind w h t a s = go (among op.writes v) h t
    where
      go : (b : Bool) → IsSeatedIf b after places q None → IsTrue b → ⊥
      go true g t = g w a s
      go false g t = cc

  none_beside : (w : ℕ) → IsSeatedIf (among after v) op.writes places q None → IsTrue (among after v) → IsTrue (among op.writes w) → SeatIs places w q → ⊥
  none_beside w h t a s = go (among after v) h t
    where
      go : (b : Bool) → IsSeatedIf b op.writes places q None → IsTrue b → ⊥
      go true g t = g w a s
      go false g t = cc

  some_if : (b : Bool) (xs : List ℕ) (u : ℕ) → IsSeatedIf b xs places q (Some u) → IsTrue b × IsFirstSeated xs places q (Some u)
  some_if true xs u h = (refl, h)
  some_if false xs u h = absurd cc

  first_if : (b : Bool) (xs : List ℕ) (u w : ℕ) → IsSeatedIf b xs places q (Some u) → w < u → IsTrue (among xs w) → SeatIs places w q → ⊥
  first_if b xs u w h l a s = (some_if b xs u h).1.2 w l a s

  pub nobody_there : IsSeatedIf (among op.writes v) after places q None → IsSeatedIf (among after v) op.writes places q None → (u : ℕ) → VarAt op after places v q u → ⊥
  nobody_there h g u (s, inl (w, l)) = none_beside u g l w s
  nobody_there h g u (s, inr (w, l)) = none_behind u h w l s

  by_behind : (u : ℕ) → IsSeatedIf (among op.writes v) after places q (Some u) → VarAt op after places v q u
  by_behind u h = let z = some_if (among op.writes v) after u h in (z.1.1, inr (z.0, z.1.0))

  by_beside : (u : ℕ) → IsSeatedIf (among after v) op.writes places q (Some u) → VarAt op after places v q u
  by_beside u h = let z = some_if (among after v) op.writes u h in (z.1.1, inl (z.1.0, z.0))

  who : (a b : Option ℕ) (u : ℕ) → IsSeatedIf (among op.writes v) after places q a → IsSeatedIf (among after v) op.writes places q b → IsLower a b (Some u) → WhoAt op after places v q (Some (Some u))
  who None None u h g e = absurd cc
  who None (Some y) u h g e =
      let s : y ≡ u = cc in
      subst (λ x. WhoAt op after places v q (Some (Some x))) s (
        by_beside y g,
        λ w l (t, d). elim d [
          | inl p ↦ first_if (among after v) op.writes y w g l p.0 t
          | inr p ↦ none_behind w h p.0 p.1 t
        ],
      )
  who (Some x) None u h g (w, e, f) =
      let s : x ≡ u = cc in
      subst (λ z. WhoAt op after places v q (Some (Some z))) s (
        by_behind x h,
        λ w l (t, d). elim d [
          | inl p ↦ none_beside w g p.1 p.0 t
          | inr p ↦ first_if (among op.writes v) after x w h l p.1 t
        ],
      )
  who (Some x) (Some y) u h g (w, e, inl (lt, f)) =
      let s : y ≡ u = cc in
      subst (λ z. WhoAt op after places v q (Some (Some z))) s (
        by_beside y g,
        λ w l (t, d). elim d [
          | inl p ↦ first_if (among after v) op.writes y w g l p.0 t
          | inr p ↦ first_if (among op.writes v) after x w h (omega (arith, l, lt)) p.1 t
        ],
      )
  who (Some x) (Some y) u h g (w, e, inr (le, f)) =
      let s : x ≡ u = cc in
      subst (λ z. WhoAt op after places v q (Some (Some z))) s (
        by_behind x h,
        λ w l (t, d). elim d [
          | inl p ↦ first_if (among after v) op.writes y w g (omega (arith, l, le)) p.0 t
          | inr p ↦ first_if (among op.writes v) after x w h l p.1 t
        ],
      )

  -- by what the code computed
  pub who_is : (wb lb : Bool) (a b : Option ℕ) (u : ℕ) → wb ≡ among op.writes v → lb ≡ among after v → IsSeatedIf wb after places q a → IsSeatedIf lb op.writes places q b → IsLower a b (Some u) → WhoAt op after places v q (Some (Some u))
  who_is wb lb a b u we le h g e = who a b u (subst (λ x. IsSeatedIf x after places q a) we h) (subst (λ x. IsSeatedIf x op.writes places q b) le g) e

  both_none : (a b : Option ℕ) → IsLower a b None → (a ≡ None) × (b ≡ None)
  both_none None b e = (refl, sym e)
  both_none (Some x) b (w, e, f) = absurd cc

  pub none_is : (wb lb : Bool) (a b : Option ℕ) → wb ≡ among op.writes v → lb ≡ among after v → IsSeatedIf wb after places q a → IsSeatedIf lb op.writes places q b → IsLower a b None → (u : ℕ) → VarAt op after places v q u → ⊥
  none_is wb lb a b we le h g e =
      let z = both_none a b e in
      nobody_there (subst (λ x. IsSeatedIf (among op.writes v) after places q x) z.0 (subst (λ x. IsSeatedIf x after places q a) we h)) (subst (λ x. IsSeatedIf (among after v) op.writes places q x) z.1 (subst (λ x. IsSeatedIf x op.writes places q b) le g))

-- ---- by paths
module _ (ops : List Op) (Live : ℕ → ℕ → Type 0) (after : List (List ℕ)) (places : List (Option ℕ)) (v q : ℕ)
    (own : (i : ℕ) → i < length ops → IsTrue (among (list_at after i) v) ↔ Live i v)
    (others : (i u p : ℕ) → i < length ops → SeatIs places u p → IsTrue (among (list_at after i) u) ↔ Live i u)
    (i : ℕ) (lt : i < length ops) where
  var_there : (u : ℕ) → VarAt (op_at ops i) (list_at after i) places v q u → HeldByVar ops Live places v q i u
  var_there u (s, inl (w, l)) = (s, inl (w, (own i lt).0 l))
  var_there u (s, inr (w, l)) = (s, inr (w, (others i u q lt s).0 l))

  var_here : (u : ℕ) → HeldByVar ops Live places v q i u → VarAt (op_at ops i) (list_at after i) places v q u
  var_here u (s, inl (w, l)) = (s, inl (w, (own i lt).1 l))
  var_here u (s, inr (w, l)) = (s, inr (w, (others i u q lt s).1 l))

  fixed_there : FixedAt (op_at ops i) (list_at after i) v q → TakenAt ops Live i v q
  fixed_there (f, w, l) = (f, w, (own i lt).0 l)

  fixed_here : TakenAt ops Live i v q → FixedAt (op_at ops i) (list_at after i) v q
  fixed_here (f, w, l) = (f, w, (own i lt).1 l)

  pub held_there : (who : Option ℕ) → WhoAt (op_at ops i) (list_at after i) places v q (Some who) → HeldBy ops Live places v q i who
  held_there None h = (fixed_there h.1, λ u x. h.0 u (var_here u x))
  held_there (Some u) h = (var_there u h.0, λ w l x. h.1 w l (var_here w x))

  pub no_var : WhoAt (op_at ops i) (list_at after i) places v q None → (u : ℕ) → HeldByVar ops Live places v q i u → ⊥
  no_var h u x = h.0 u (var_here u x)

  pub no_fixed : WhoAt (op_at ops i) (list_at after i) places v q None → TakenAt ops Live i v q → ⊥
  no_fixed h x = h.1 (fixed_here x)

-- the same by equal parts
pub who_moved : (o o' : Op) (a a' : List ℕ) (places : List (Option ℕ)) (v q : ℕ) (x : Option (Option ℕ)) → o ≡ o' → a ≡ a' → WhoAt o a places v q x → WhoAt o' a' places v q x
who_moved o o' a a' places v q x e f h = subst (λ z. WhoAt z a' places v q x) e (subst (λ z. WhoAt o z places v q x) f h)

-- what holds before the operation i, and behind it
module _ (ops : List Op) (Live : ℕ → ℕ → Type 0) (places : List (Option ℕ)) (v q : ℕ) where
  abbrev pub NoneBefore : ℕ → Type 0
  NoneBefore i = ((j : ℕ) → j < i → (u : ℕ) → HeldByVar ops Live places v q j u → ⊥) × ((j : ℕ) → j < i → TakenAt ops Live j v q → ⊥)

  pub none_more : (i : ℕ) → NoneBefore i → ((u : ℕ) → HeldByVar ops Live places v q i u → ⊥) → (TakenAt ops Live i v q → ⊥) → NoneBefore (i + 1)
  none_more i n a b = (
    λ j l u x. elim (cases_eq j i) [
      | inl e ↦ a u (subst (λ k. HeldByVar ops Live places v q k u) e x)
      | inr ne ↦ n.0 j (omega (arith, l, ne)) u x
    ],
    λ j l x. elim (cases_eq j i) [
      | inl e ↦ b (subst (λ k. TakenAt ops Live k v q) e x)
      | inr ne ↦ n.1 j (omega (arith, l, ne)) x
    ],
  )

  pub not_held : (i : ℕ) → length ops ≤ i → NoneBefore i → IsHeld ops Live places v q → ⊥
  not_held i le n (j, l, inl (u, x)) = n.0 j (omega (arith, l, le)) u x
  not_held i le n (j, l, inr x) = n.1 j (omega (arith, l, le)) x

  pub holder : (i : ℕ) (span : Span) (who : Option ℕ) → i < length ops → span ≡ (op_at ops i).span → NoneBefore i → HeldBy ops Live places v q i who → FirstHolder ops Live places v q span who
  holder i span who lt e n h = record {
    held_at = i;
    within = lt;
    span_is = e;
    held = h;
    earlier_vars = n.0;
    earlier_fixed = n.1;
  }

-- ---- something keeps a variable that is left from each place that meets its needs
pub something_holds : (ops : List Op) (kinds : List Kind) (in_use : List Place) (Live : ℕ → ℕ → Type 0) (vs : List ℕ) (done : List (Option ℕ)) (v : ℕ) (places : List (Option ℕ)) → Fits ops kinds in_use Live vs done (refused v places) → (q : ℕ) → IsTrue (meets kinds in_use ops v q) → (IsHeld ops Live places v q → ⊥) → ⊥
something_holds ops kinds in_use Live vs done v places f q m h =
    left_of f q m (record {
      apart = λ u e (i, c). h (i, at_op i u c, inl (u, (e, c)));
      untaken = λ (i, t). h (i, fixes ops i q t.0, inr t);
    })
  where
    at_op : (i u : ℕ) → ConflictAt ops Live i u v → i < length ops
    at_op i u (inl (x, y)) = wrote ops i u x
    at_op i u (inr (x, y)) = wrote ops i v x
