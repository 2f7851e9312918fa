-- Names that are added to a set, and those that two sets share.
use mathlib.Core.Path.{fun_ext}
use Rattle.std.proofs.Common.{◌≡◌, ℕ, Bool, true, false, ◌&&◌, ◌||◌, List, [], ◌∷◌, ◌++◌, length, drop, filter, refl, sym, ap, ◌∙◌, subst, cond, append-nil}
use Rattle.std.specs.Prelude.{if◌then◌else◌}
use Rattle.std.specs.List.{list_any}
use Rattle.std.specs.Str.{bytes_eq}
use Rattle.jz_tree.proofs.Texts.{bytes_eq-true}
use Rattle.jz_type_storage.specs.InnerSurely.{Names, having}
use Rattle.jz_type_storage.specs.InnerWalks.{members, Grows, Adds, Puts, AddsAll, Joins}
use Rattle.jz_type_storage.proofs.Walking.{grows_self, grows_by, grows_on, behind, members-append, members-push, members-there}

added_by : (ks : List (List ℕ)) (m : List ℕ) (new : List (List ℕ)) (b : Bool) → members ks m ≡ b → new ≡ (if b then ks else (ks ++ m ∷ [])) → Adds ks m new
added_by ks m new true t e = record { has = ap members e ∙ members-there ks m t; grows = subst (Grows ks) (sym e) (grows_self ks) }
added_by ks m new false t e = record { has = ap members e ∙ members-push ks m; grows = subst (Grows ks) (sym e) (grows_by ks (m ∷ [])) }

pub added : (ks : List (List ℕ)) (m : List ℕ) (new : List (List ℕ)) → new ≡ (if list_any (bytes_eq m) ks then ks else (ks ++ m ∷ [])) → Adds ks m new
unfolding members
added ks m new e = added_by ks m new (list_any (bytes_eq m) ks) refl e

module _ (asked : Names) (old : List (List ℕ)) (m : List ℕ) where
  pub puts_asked : (new : List (List ℕ)) → asked m ≡ true → Adds old m new → Puts asked old m new
  puts_asked new t a = record { has = a.has ∙ sym (ap (λ b. if b then having m (members old) else members old) t); grows = a.grows }

  pub puts_other : asked m ≡ false → Puts asked old m old
  puts_other f = record { has = sym (ap (λ b. if b then having m (members old) else members old) f); grows = grows_self old }

or-assoc' : (x y z : Bool) → ((x || y) || z) ≡ (x || (y || z))
or-assoc' true y z = refl
or-assoc' false y z = refl

pub front_member : (n x : List ℕ) (xs : List (List ℕ)) → members (x ∷ xs) n ≡ (bytes_eq n x || members xs n)
unfolding members
front_member n x xs = refl

pub adds_none : (ks : List (List ℕ)) → AddsAll ks [] ks
adds_none ks = record { has = ap members (sym (append-nil ks)); grows = grows_self ks }

pub adds_one : (ks ls : List (List ℕ)) (m : List ℕ) (ms new : List (List ℕ)) → Adds ks m ls → AddsAll ls ms new → AddsAll ks (m ∷ ms) new
adds_one ks ls m ms new a b = record {
  has = b.has ∙ fun_ext (λ n. members-append n ls ms ∙ (ap (λ (s : Names). s n || members ms n) a.has
      ∙ (or-assoc' (members ks n) (bytes_eq n m) (members ms n) ∙ sym (members-append n ks (m ∷ ms) ∙ ap (λ b. members ks n || b) (front_member n m ms)))));
  grows = grows_on ks ls new a.grows b.grows;
}

-- ---- what is shared
filter_step : (p : Names) (n x : List ℕ) (xs : List (List ℕ)) (b e : Bool) → p x ≡ b → bytes_eq n x ≡ e → members (filter p xs) n ≡ (members xs n && p n)
    → members (cond b (x ∷ filter p xs) (filter p xs)) n ≡ ((e || members xs n) && p n)
filter_step p n x xs true true t u ih =
    let q : p n ≡ true = ap p (bytes_eq-true n x u) ∙ t in
    front_member n x (filter p xs) ∙ (ap (λ b. b || members (filter p xs) n) u ∙ sym q)
filter_step p n x xs true false t u ih = front_member n x (filter p xs) ∙ (ap (λ b. b || members (filter p xs) n) u ∙ ih)
filter_step p n x xs false true t u ih =
    let q : p n ≡ false = ap p (bytes_eq-true n x u) ∙ t in
    ih ∙ (ap (λ b. members xs n && b) q ∙ (and-false (members xs n) ∙ sym q))
  where
    and-false : (b : Bool) → (b && false) ≡ false
    and-false true = refl
    and-false false = refl
filter_step p n x xs false false t u ih = ih

pub none_member : (n : List ℕ) → members [] n ≡ false
unfolding members
none_member n = refl

pub filtered : (p : Names) (n : List ℕ) (xs : List (List ℕ)) → members (filter p xs) n ≡ (members xs n && p n)
filtered p n [] = none_member n ∙ sym (ap (λ b. b && p n) (none_member n))
filtered p n (x ∷ xs) = filter_step p n x xs (p x) (bytes_eq n x) refl refl (filtered p n xs) ∙ ap (λ b. b && p n) (sym (front_member n x xs))

join_bits : (s f t : Bool) → (s || t) ≡ t → (s || (f && t)) ≡ ((s || f) && t)
join_bits true f true e = refl
join_bits true f false e = e
join_bits false f t e = refl

or-same : (x y : Bool) → (x || (x || y)) ≡ (x || y)
or-same true y = refl
or-same false y = refl

within : (start second : List (List ℕ)) (n : List ℕ) → Grows start second → (members start n || members second n) ≡ members second n
within start second n g =
    let rest = drop (length start) second in
    let e : members second n ≡ (members start n || members rest n) = ap (λ ks. members ks n) (sym (behind start second g)) ∙ members-append n start rest in
    ap (λ b. members start n || b) e ∙ (or-same (members start n) (members rest n) ∙ sym e)

pub joined : (start first second kept new : List (List ℕ)) → kept ≡ filter (members second) first → AddsAll start kept new → Joins start first second new
joined start first second kept new e a = record {
  has = λ g. a.has ∙ fun_ext (λ n. members-append n start kept
      ∙ (ap (λ b. members start n || b) (ap (λ ks. members ks n) e ∙ filtered (members second) n first)
      ∙ (join_bits (members start n) (members first n) (members second n) (within start second n g)
      ∙ ap (λ b. b && members second n) (sym (members-append n start first)))));
  grows = a.grows;
}
