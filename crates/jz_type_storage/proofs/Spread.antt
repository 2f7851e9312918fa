-- How the functions found grow, and what they are in the end.
use Rattle.std.proofs.Common.{◌≡◌, ◌≢◌, ℕ, zero, suc, ◌+◌, ◌<◌, ◌≤◌, ◌⊎◌, inl, inr, Bool, true, false, not, List, [], ◌∷◌, ◌++◌, length, get_or, set, refl, sym, ap, ◌∙◌, subst, arith, length-append, length-set, get_or-set_same, get_or-set_other, cond}
use Rattle.std.proofs.lemmas.List.{get_or_default}
use Rattle.std.proofs.lemmas.List.Sums.{sum_by-set}
use Rattle.std.proofs.Math.ListN.{get_or-append}
use Rattle.std.proofs.Math.Seq.{get_or-append_seam}
use Rattle.std.proofs.lemmas.Grind.{get_or_default_zero}
use Rattle.jz_type_storage.specs.InnerNumbers.{directly, further}
use Rattle.jz_type_storage.specs.InnerNumbers.{Has, row_of, Leads, IsClosed, Consistent, VisitsAll, IsFound}

has_left : (xs : List ℕ) (y j : ℕ) → Has xs j → Has (xs ++ y ∷ []) j
has_left xs y j h = (h.0, omega (arith, h.1, length-append xs (y ∷ [])), get_or-append xs (y ∷ []) 0 h.0 h.1 ∙ h.2)

has_last : (xs : List ℕ) (y : ℕ) → Has (xs ++ y ∷ []) y
has_last xs y = (length xs, omega (arith, length-append xs (y ∷ [])), get_or-append_seam xs y [] 0)

has_either : (xs : List ℕ) (y j : ℕ) → Has (xs ++ y ∷ []) j → Has xs j ⊎ (y ≡ j)
has_either xs y j h =
    let l : h.0 < length xs + 1 = omega (arith, h.1, length-append xs (y ∷ [])) in
    let at : (h.0 < length xs) ⊎ (h.0 ≡ length xs) = grind arith in
    elim at [
      | inl p ↦ inl (h.0, p, sym (get_or-append xs (y ∷ []) 0 h.0 p) ∙ h.2)
      | inr e ↦ inr (sym (ap (λ k. get_or (xs ++ y ∷ []) k 0) e ∙ get_or-append_seam xs y [] 0) ∙ h.2)
    ]

has_one : (y j : ℕ) → Has (y ∷ []) j → y ≡ j
has_one y j h = elim (has_either [] y j h) [ inl p ↦ absurd (omega (arith, p.1)) | inr e ↦ e ]

marked_within : (marks : List Bool) (j : ℕ) → get_or marks j false ≡ true → j < length marks
marked_within [] j h = cc
marked_within (m ∷ ms) zero h = omega arith
marked_within (m ∷ ms) (suc j) h = let ih = marked_within ms j h in omega arith

same_or_not : (j k : ℕ) → (j ≡ k) ⊎ (j ≢ k)
same_or_not j k = grind arith

pub found_new : (marks : List Bool) (order : List ℕ) (at : ℕ) → Consistent marks order → at < length marks → get_or marks at false ≡ false
    → VisitsAll marks order (set marks at true) (order ++ at ∷ []) (at ∷ [])
found_new marks order at c lt f =
    let here : get_or (set marks at true) at false ≡ true = rw get_or-set_same refl in
    let other : (j : ℕ) → j ≢ at → get_or (set marks at true) j false ≡ get_or marks j false = λ j n. get_or-set_other marks at j true false n in
    let added = sum_by-set (λ b. cond (not b) 1 0) marks at true false lt in
    let one : ℕ = 1 in let was : cond (not (get_or marks at false)) one 0 ≡ one = ap (λ b. cond (not b) one 0) f in
    record {
      consistent = record {
        marked = λ j h. elim (same_or_not j at) [
          | inl e ↦ subst (λ k. get_or (set marks at true) k false ≡ true) (sym e) here
          | inr n ↦ other j n ∙ elim (has_either order at j h) [ inl p ↦ c.marked j p | inr e ↦ absurd (n (sym e)) ]
        ];
        listed = λ j h. elim (same_or_not j at) [
          | inl e ↦ subst (Has (order ++ at ∷ [])) (sym e) (has_last order at)
          | inr n ↦ has_left order at j (c.listed j (sym (other j n) ∙ h))
        ];
        count = omega (arith, c.count, length-append order (at ∷ []), length-set marks at true, added, was);
      };
      same = length-set marks at true;
      longer = omega (arith, length-append order (at ∷ []));
      keeps = λ k h. get_or-append order (at ∷ []) 0 k h;
      has = λ j h. subst (Has (order ++ at ∷ [])) (has_one at j h) (has_last order at);
      only = λ j h. elim (has_either order at j h) [ inl p ↦ inl p | inr e ↦ inr (subst (Has (at ∷ [])) e (has_last [] at)) ];
    }

pub visits_more : (m : List Bool) (o : List ℕ) (m1 : List Bool) (o1 : List ℕ) (m2 : List Bool) (o2 : List ℕ) (xs : List ℕ) (at : ℕ)
    → VisitsAll m o m1 o1 xs → VisitsAll m1 o1 m2 o2 (at ∷ []) → VisitsAll m o m2 o2 (xs ++ at ∷ [])
visits_more m o m1 o1 m2 o2 xs at v w = record {
  consistent = w.consistent;
  same = w.same ∙ v.same;
  longer = omega (arith, v.longer, w.longer);
  keeps = λ k h. w.keeps k (omega (arith, v.longer)) ∙ v.keeps k h;
  has = λ j h. elim (has_either xs at j h) [ inl p ↦ let q = v.has j p in (q.0, omega (arith, q.1, w.longer), w.keeps q.0 q.1 ∙ q.2) | inr e ↦ w.has j (subst (Has (at ∷ [])) e (has_last [] at)) ];
  only = λ j h. elim (w.only j h) [ inl p ↦ elim (v.only j p) [ inl q ↦ inl q | inr q ↦ inr (has_left xs at j q) ] | inr p ↦ inr (subst (Has (xs ++ at ∷ [])) (has_one at j p) (has_last xs at)) ];
}

-- what the search keeps: those found are reached, and those that are done have their row_of found
pub record Spread (g : List (List ℕ)) (start : ℕ) (marks : List Bool) (order : List ℕ) (head : ℕ) : Type 0 where
  pub consistent : Consistent marks order
  pub same : length marks ≡ length g
  pub within : head ≤ length order
  pub reached : (j : ℕ) → Has order j → Leads g start j
  pub first : (j : ℕ) → Has (row_of g start) j → Has order j
  pub done : (k : ℕ) → k < head → (j : ℕ) → Has (row_of g (get_or order k 0)) j → Has order j

pub spread_init : (g : List (List ℕ)) (start : ℕ) (m : List Bool) (m1 : List Bool) (o1 : List ℕ) → length m ≡ length g → VisitsAll m [] m1 o1 (row_of g start) → Spread g start m1 o1 0
spread_init g start m m1 o1 e v = record {
  consistent = v.consistent;
  same = v.same ∙ e;
  within = omega arith;
  reached = λ j h. elim (v.only j h) [ inl p ↦ absurd (omega (arith, p.1)) | inr p ↦ directly p ];
  first = v.has;
  done = λ k h. absurd (omega arith);
}

pub spread_more : (g : List (List ℕ)) (start : ℕ) (m : List Bool) (o : List ℕ) (head : ℕ) (m1 : List Bool) (o1 : List ℕ)
    → Spread g start m o head → head < length o → VisitsAll m o m1 o1 (row_of g (get_or o head 0)) → Spread g start m1 o1 (head + 1)
spread_more g start m o head m1 o1 s lt v =
    let move : (j : ℕ) → Has o j → Has o1 j = λ j h. (h.0, omega (arith, h.1, v.longer), v.keeps h.0 h.1 ∙ h.2) in
    record {
      consistent = v.consistent;
      same = v.same ∙ s.same;
      within = omega (arith, v.longer);
      reached = λ j h. elim (v.only j h) [ inl p ↦ s.reached j p | inr p ↦ further (s.reached (get_or o head 0) (head, lt, refl)) p ];
      first = λ j h. move j (s.first j h);
      done = λ k h j c.
          let c' : Has (row_of g (get_or o k 0)) j = subst (λ i. Has (row_of g i) j) (v.keeps k (omega arith)) c in
          let at : (k < head) ⊎ (k ≡ head) = grind arith in
          elim at [ inl p ↦ move j (s.done k p j c') | inr e ↦ v.has j (subst (λ i. Has (row_of g (get_or o i 0)) j) e c') ];
    }

all_found : (g : List (List ℕ)) (start : ℕ) (m : List Bool) (o : List ℕ) (head : ℕ) → Spread g start m o head → length o ≤ head → (j : ℕ) → Leads g start j → Has o j
all_found g start m o head s le j (directly h) = s.first j h
all_found g start m o head s le k (further {j = i} r h) =
    let p = all_found g start m o head s le i r in
    s.done p.0 (omega (arith, p.1)) k (subst (λ x. Has (row_of g x) k) (sym p.2) h)

pub spread_done : (g : List (List ℕ)) (start : ℕ) (m : List Bool) (o : List ℕ) (head : ℕ) → Spread g start m o head → length o ≤ head → (j : ℕ)
    → (get_or m j false ≡ true → Leads g start j) × (Leads g start j → get_or m j false ≡ true)
spread_done g start m o head s le j = (λ h. s.reached j (s.consistent.listed j h), λ r. s.consistent.marked j (all_found g start m o head s le j r))

pub within_graph : (g : List (List ℕ)) (start : ℕ) (m : List Bool) (o : List ℕ) (head j : ℕ) → Spread g start m o head → Has o j → j < length g
within_graph g start m o head j s h = subst (λ n. j < n) s.same (marked_within m j (s.consistent.marked j h))

at_zero : (o : List ℕ) (head at : ℕ) → head < length o → at ≡ get_or o head at → get_or o head 0 ≡ at
at_zero o head at lt e = sym (e ∙ get_or_default_zero o head at lt)

pub spread_step : (g : List (List ℕ)) (start : ℕ) (m : List Bool) (o : List ℕ) (head at : ℕ) (m1 : List Bool) (o1 xs : List ℕ)
    → Spread g start m o head → head < length o → at ≡ get_or o head at → xs ≡ row_of g at → VisitsAll m o m1 o1 xs → Spread g start m1 o1 (head + 1)
spread_step g start m o head at m1 o1 xs s lt e i v =
    spread_more g start m o head m1 o1 s lt (subst (VisitsAll m o m1 o1) (i ∙ ap (row_of g) (sym (at_zero o head at lt e))) v)

pub at_within : (g : List (List ℕ)) (start : ℕ) (m : List Bool) (o : List ℕ) (head at : ℕ) → Spread g start m o head → head < length o → at ≡ get_or o head at → at < length g
at_within g start m o head at s lt e = within_graph g start m o head at s (head, lt, at_zero o head at lt e)

pub has_callee : (g : List (List ℕ)) (i j n : ℕ) (xs : List ℕ) → IsClosed g → xs ≡ row_of g i → n ≡ length g → Has xs j → j < n
has_callee g i j n xs c e f h = subst (λ k. j < k) (sym f) (c i j (subst (λ ys. Has ys j) e h))

pub spread_first : (g : List (List ℕ)) (start : ℕ) (m : List Bool) (o xs : List ℕ) (m1 : List Bool) (o1 : List ℕ) → length m ≡ length g → o ≡ [] → xs ≡ row_of g start → VisitsAll m o m1 o1 xs → Spread g start m1 o1 0
spread_first g start m o xs m1 o1 e f h v = spread_init g start m m1 o1 e (subst (VisitsAll m [] m1 o1) h (subst (λ z. VisitsAll m z m1 o1 xs) f v))

pub mark_is : (m : List Bool) (i : ℕ) (b : Bool) → i < length m → b ≡ get_or m i b → get_or m i false ≡ b
mark_is m i b lt e = get_or_default m i false b lt ∙ sym e

pub spread_found : (g : List (List ℕ)) (start : ℕ) (m : List Bool) (o : List ℕ) (head : ℕ) → Spread g start m o head → length o ≤ head → IsFound g start m o
spread_found g start m o head s le = record { consistent = s.consistent; same = s.same; reached = λ j. spread_done g start m o head s le j }
