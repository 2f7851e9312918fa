-- Paths and sets agree.
use Rattle.std.proofs.Common.{◌≡◌, ℕ, zero, suc, ◌⊎◌, inl, inr, Bool, true, false, not, ◌&&◌, ◌||◌, List, [], ◌∷◌, ◌++◌, Some, None, refl, sym, ap, ◌∙◌, subst, arith}
use Rattle.std.specs.Prelude.{if◌then◌else◌, ◌↔◌, Contains}
use Rattle.std.specs.Str.{bytes_eq}
use Rattle.std.proofs.lemmas.List.Elements.{All-nil, Contains-append_left, Contains-append_right, Contains-append_cases}
use Rattle.std.proofs.lemmas.Slice.Eq.{bytes_eq-Decides}
use Rattle.jz_tree.specs.Span.{Span}
use Rattle.jz_type_names.specs.Scopes.{Name}
use Rattle.jz_type_names.specs.Order.{IsEarliest, nowhere, here}
use Rattle.jz_type_storage.specs.Paths.{Event, Reads, Sets, Flow, Skip, Does, Then, Either, Repeat, Through, Into}
use Rattle.jz_type_storage.specs.InnerSurely.{Names, having, after, first}
use Rattle.jz_type_names.proofs.Firsts.{same_wrong, earlier_of_two}

-- ---- tests
two_ways : (b : Bool) → (b ≡ true) ⊎ (b ≡ false)
two_ways true = inl refl
two_ways false = inr refl

either_false : (x y : Bool) → (x && y) ≡ false → (x ≡ false) ⊎ (y ≡ false)
either_false true y e = inr e
either_false false y e = inl refl

first_false : (x y : Bool) → x ≡ false → (x && y) ≡ false
first_false x y e = ap (λ b. b && y) e

second_false : (x y : Bool) → y ≡ false → (x && y) ≡ false
second_false true y e = e
second_false false y e = refl

both_false : (x y : Bool) → (x || y) ≡ false → (x ≡ false) × (y ≡ false)
both_false true y e = cc
both_false false y e = (refl, e)

neither : (x y : Bool) → x ≡ false → y ≡ false → (x || y) ≡ false
neither x y p q = ap (λ b. b || y) p ∙ q

-- ---- names
other_name : (n m : List ℕ) → bytes_eq n m ≡ false → n ≡ m → ⊥
other_name n m e same = let d = (bytes_eq-Decides n m).1 same in cc

no_name : (n m : List ℕ) → (n ≡ m → ⊥) → bytes_eq n m ≡ false
no_name n m apart = elim (two_ways (bytes_eq n m)) [ inl e ↦ absurd (apart ((bytes_eq-Decides n m).0 e)) | inr e ↦ e ]

abbrev name_set : Event → List ℕ → List ℕ
name_set (Reads n) m = m
name_set (Sets n) m = n

sets_same : (n m : List ℕ) → Sets n ≡ Sets m → n ≡ m
sets_same n m e = ap (λ x. name_set x m) e

-- ---- paths that do not set a name
abbrev Avoids : List ℕ → List Event → Type 0
Avoids n es = Contains es (Sets n) → ⊥

avoids_none : (n : List ℕ) → Avoids n []
avoids_none n c = omega (arith, c.1)

only_one : (e d : Event) → Contains (e ∷ []) d → e ≡ d
only_one e d (zero, lt, is) = is
only_one e d (suc k, lt, is) = absurd (omega (arith, lt))

avoids_one : (n : List ℕ) (e : Event) → (e ≡ Sets n → ⊥) → Avoids n (e ∷ [])
avoids_one n e apart c = apart (only_one e (Sets n) c)

one_avoided : (n m : List ℕ) → Avoids n (Sets m ∷ []) → n ≡ m → ⊥
one_avoided n m a e = a (subst (λ x. Contains (Sets m ∷ []) (Sets x)) (sym e) (0, omega arith, refl))

avoids_both : (n : List ℕ) (xs ys : List Event) → Avoids n xs → Avoids n ys → Avoids n (xs ++ ys)
avoids_both n xs ys a b c = elim (Contains-append_cases xs ys (Sets n) c) [ inl l ↦ a l | inr r ↦ b r ]

avoids_left : (n : List ℕ) (xs ys : List Event) → Avoids n (xs ++ ys) → Avoids n xs
avoids_left n xs ys a c = a (Contains-append_left xs ys (Sets n) c)

avoids_right : (n : List ℕ) (xs ys : List Event) → Avoids n (xs ++ ys) → Avoids n ys
avoids_right n xs ys a c = a (Contains-append_right xs ys (Sets n) c)

module _ (asked : Names) (n : List ℕ) (is_asked : asked n ≡ true) where
  put_false : (m : List ℕ) (s : Names) (b : Bool) → asked m ≡ b → (if b then having m s else s) n ≡ false → (s n ≡ false) × (n ≡ m → ⊥)
  put_false m s true e f = let p = both_false (s n) (bytes_eq n m) f in (p.0, other_name n m p.1)
  put_false m s false e f = (f, λ same. let t : asked n ≡ false = ap asked same ∙ e in cc)

  put_other : (m : List ℕ) (s : Names) (b : Bool) → s n ≡ false → (n ≡ m → ⊥) → (if b then having m s else s) n ≡ false
  put_other m s true f apart = neither (s n) (bytes_eq n m) f (no_name n m apart)
  put_other m s false f apart = f

  -- where it is not surely set after, there is a path that does not set it
  unset_path : (g : Flow) (s : Names) → after asked g s n ≡ false → (s n ≡ false) × (es : List Event) × Through g es × Avoids n es
  unset_path Skip s f = (f, [], refl, avoids_none n)
  unset_path (Does (Reads m)) s f = (f, Reads m ∷ [], refl, avoids_one n (Reads m) (λ e. cc))
  unset_path (Does (Sets m)) s f =
      let p = put_false m s (asked m) refl f in
      (p.0, Sets m ∷ [], refl, avoids_one n (Sets m) (λ e. p.1 (sym (sets_same m n e))))
  unset_path (Then a b) s f =
      let q = unset_path b (after asked a s) f in
      let p = unset_path a s q.0 in
      (p.0, p.1 ++ q.1, (p.1, q.1, refl, p.2, q.2), avoids_both n p.1 q.1 p.3 q.3)
  unset_path (Either a b) s f = elim (either_false (after asked a s n) (after asked b s n) f) [
    | inl e ↦ let p = unset_path a s e in (p.0, p.1, inl p.2, p.3)
    | inr e ↦ let p = unset_path b s e in (p.0, p.1, inr p.2, p.3)
  ]
  unset_path (Repeat a) s f = (f, [], ([], refl, All-nil (Through a)), avoids_none n)

  -- and where there is one, it is not surely set
  path_unset : (g : Flow) (s : Names) (es : List Event) → Through g es → Avoids n es → s n ≡ false → after asked g s n ≡ false
  path_unset Skip s es t a f = f
  path_unset (Does (Reads m)) s es t a f = f
  path_unset (Does (Sets m)) s es t a f = put_other m s (asked m) f (one_avoided n m (subst (Avoids n) t a))
  path_unset (Then g h) s es (xs, ys, e, p, q) a f =
      let b = subst (Avoids n) e a in
      path_unset h (after asked g s) ys q (avoids_right n xs ys b) (path_unset g s xs p (avoids_left n xs ys b) f)
  path_unset (Either g h) s es (inl p) a f = first_false (after asked g s n) (after asked h s n) (path_unset g s es p a f)
  path_unset (Either g h) s es (inr p) a f = second_false (after asked g s n) (after asked h s n) (path_unset h s es p a f)
  path_unset (Repeat g) s es t a f = f

-- ---- the earliest read
module _ (asked : Names) where
  -- it is read there, and some path leads there that does not set it
  pub record Misses (g : Flow) (s : Names) (at : Span) : Type 0 where
    pub variable : List ℕ
    pub is_asked : asked variable ≡ true
    pub before : s variable ≡ false
    pub path : List Event
    pub leads : Into g path (Reads (variable, at))
    pub unset : Avoids variable path

  read_same : (n m : Name) → Reads n ≡ Reads m → n ≡ m
  read_same n m e = cc

  missed_read : (n : Name) (s : Names) (b c : Bool) → asked n.0 ≡ b → s n.0 ≡ c → IsEarliest (Misses (Does (Reads n)) s) (if b && not c then Some n.1 else None)
  missed_read n s true true e f = nowhere (λ at m.
      let same : n ≡ (m.variable, at) = read_same n (m.variable, at) m.leads.1 in
      let t : s m.variable ≡ true = ap (λ (x : Name). s x.0) (sym same) ∙ f in
      let u = m.before in cc)
  missed_read n s false c e f = nowhere (λ at m.
      let same : n ≡ (m.variable, at) = read_same n (m.variable, at) m.leads.1 in
      let t : asked m.variable ≡ false = ap (λ (x : Name). asked x.0) (sym same) ∙ e in
      let u = m.is_asked in cc)
  missed_read n s true false e f =
      here (record { variable = n.0; is_asked = e; before = f; path = []; leads = (refl, refl); unset = avoids_none n.0 })
      (λ there m. inr (ap (λ (x : Name). x.1) (read_same n (m.variable, there) m.leads.1)))

  then_to : (a b : Flow) (s : Names) (at : Span) → Misses a s at ⊎ Misses b (after asked a s) at → Misses (Then a b) s at
  then_to a b s at (inl m) = record { variable = m.variable; is_asked = m.is_asked; before = m.before; path = m.path; leads = inl m.leads; unset = m.unset }
  then_to a b s at (inr m) =
      let p = unset_path asked m.variable m.is_asked a s m.before in
      record {
        variable = m.variable;
        is_asked = m.is_asked;
        before = p.0;
        path = p.1 ++ m.path;
        leads = inr (p.1, m.path, refl, p.2, m.leads);
        unset = avoids_both m.variable p.1 m.path p.3 m.unset;
      }

  then_from_in : (a b : Flow) (s : Names) (at : Span) (m : Misses (Then a b) s at)
      → Into a m.path (Reads (m.variable, at)) ⊎ ((xs : List Event) × (ys : List Event) × (m.path ≡ xs ++ ys) × Through a xs × Into b ys (Reads (m.variable, at)))
      → Misses a s at ⊎ Misses b (after asked a s) at
  then_from_in a b s at m (inl l) = inl (record { variable = m.variable; is_asked = m.is_asked; before = m.before; path = m.path; leads = l; unset = m.unset })
  then_from_in a b s at m (inr (xs, ys, e, t, l)) =
      let u = subst (Avoids m.variable) e m.unset in
      inr (record {
        variable = m.variable;
        is_asked = m.is_asked;
        before = path_unset asked m.variable m.is_asked a s xs t (avoids_left m.variable xs ys u) m.before;
        path = ys;
        leads = l;
        unset = avoids_right m.variable xs ys u;
      })

  then_misses : (a b : Flow) (s : Names) (at : Span) → (Misses a s at ⊎ Misses b (after asked a s) at) ↔ Misses (Then a b) s at
  then_misses a b s at = (then_to a b s at, λ m. then_from_in a b s at m m.leads)

  either_to : (a b : Flow) (s : Names) (at : Span) → Misses a s at ⊎ Misses b s at → Misses (Either a b) s at
  either_to a b s at (inl m) = record { variable = m.variable; is_asked = m.is_asked; before = m.before; path = m.path; leads = inl m.leads; unset = m.unset }
  either_to a b s at (inr m) = record { variable = m.variable; is_asked = m.is_asked; before = m.before; path = m.path; leads = inr m.leads; unset = m.unset }

  either_from : (a b : Flow) (s : Names) (at : Span) (m : Misses (Either a b) s at)
      → Into a m.path (Reads (m.variable, at)) ⊎ Into b m.path (Reads (m.variable, at)) → Misses a s at ⊎ Misses b s at
  either_from a b s at m (inl l) = inl (record { variable = m.variable; is_asked = m.is_asked; before = m.before; path = m.path; leads = l; unset = m.unset })
  either_from a b s at m (inr l) = inr (record { variable = m.variable; is_asked = m.is_asked; before = m.before; path = m.path; leads = l; unset = m.unset })

  either_misses : (a b : Flow) (s : Names) (at : Span) → (Misses a s at ⊎ Misses b s at) ↔ Misses (Either a b) s at
  either_misses a b s at = (either_to a b s at, λ m. either_from a b s at m m.leads)

  repeat_to : (a : Flow) (s : Names) (at : Span) → Misses a s at → Misses (Repeat a) s at
  repeat_to a s at m =
      record { variable = m.variable; is_asked = m.is_asked; before = m.before; path = m.path; leads = ([], m.path, refl, ([], refl, All-nil (Through a)), m.leads); unset = m.unset }

  repeat_from : (a : Flow) (s : Names) (at : Span) → Misses (Repeat a) s at → Misses a s at
  repeat_from a s at m =
      let ys = m.leads.1 in
      record {
        variable = m.variable;
        is_asked = m.is_asked;
        before = m.before;
        path = ys;
        leads = m.leads.4;
        unset = avoids_right m.variable m.leads.0 ys (subst (Avoids m.variable) m.leads.2 m.unset);
      }

  repeat_misses : (a : Flow) (s : Names) (at : Span) → Misses a s at ↔ Misses (Repeat a) s at
  repeat_misses a s at = (repeat_to a s at, repeat_from a s at)

  pub agree : (g : Flow) (s : Names) → IsEarliest (Misses g s) (first asked g s)
  agree Skip s = nowhere (λ at m. m.leads)
  agree (Does (Reads n)) s = missed_read n s (asked n.0) (s n.0) refl refl
  agree (Does (Sets m)) s = nowhere (λ at w. let e = w.leads.1 in cc)
  agree (Then a b) s =
      same_wrong _ _ (then_misses a b s) _ (earlier_of_two (Misses a s) (Misses b (after asked a s)) _ _ (agree a s) (agree b (after asked a s)))
  agree (Either a b) s = same_wrong _ _ (either_misses a b s) _ (earlier_of_two (Misses a s) (Misses b s) _ _ (agree a s) (agree b s))
  agree (Repeat a) s = same_wrong _ _ (repeat_misses a s) _ (agree a s)
