-- Each function is asked which functions it reaches.
use Rattle.std.proofs.Common.{◌≡◌, ℕ, ◌+◌, ◌<◌, ◌⊎◌, inl, inr, Bool, false, not, List, [], ◌∷◌, ◌++◌, length, get_or, Option, None, refl, sym, ap, ◌∙◌, subst, arith, length-append}
use Rattle.std.specs.Prelude.{◌↔◌, IsTrue}
use Rattle.std.proofs.Math.ListN.{get_or-append}
use Rattle.std.proofs.Math.Seq.{get_or-append_seam}
use Rattle.jz_tree.specs.Span.{Span}
use Rattle.jz_tree.specs.declared.program.Fun.{Fun}
use Rattle.jz_type_names.specs.Order.{earlier, earliest, unless, IsEarliest, nowhere, here}
use Rattle.jz_type_storage.specs.InnerNumbers.{IsClosed, Leads, IsFound}
use Rattle.jz_type_storage.proofs.Naming.{At}
use Rattle.jz_type_storage.proofs.Spread.{mark_is}
use Rattle.jz_type_storage.proofs.Falling.{Falls, caller_within, fewer_reached, reached_below}
use Rattle.jz_type_storage.proofs.Cyclic.{Cyclic, cyclic_none, cyclic_more}

-- so many functions are reached
pub record Counted (g : List (List ℕ)) (k n : ℕ) : Type 0 where
  pub marks : List Bool
  pub order : List ℕ
  pub found : IsFound g k marks order
  pub count : n ≡ length order

-- the first i functions were asked
pub record Each (g : List (List ℕ)) (fs : List Fun) (i : ℕ) (first : Option Span) (ranks : List ℕ) : Type 0 where
  pub earliest : IsEarliest (Cyclic g fs i) first
  pub same : length ranks ≡ i
  pub ranked : (k : ℕ) → k < i → Counted g k (get_or ranks k 0)

pub each_begins : (g : List (List ℕ)) (fs : List Fun) → Each g fs 0 None []
each_begins g fs = record { earliest = cyclic_none g fs; same = refl; ranked = λ k lt. absurd (omega (arith, lt)) }

below_or_last : (k i : ℕ) → k < i + 1 → (k < i) ⊎ (k ≡ i)
below_or_last k i h = grind arith

last_is : (ranks : List ℕ) (n k : ℕ) → k ≡ length ranks → get_or (ranks ++ n ∷ []) k 0 ≡ n
last_is ranks n k e = ap (λ j. get_or (ranks ++ n ∷ []) j 0) e ∙ get_or-append_seam ranks n [] 0

ranked_more : (g : List (List ℕ)) (i n : ℕ) (ranks : List ℕ) → length ranks ≡ i → ((k : ℕ) → k < i → Counted g k (get_or ranks k 0)) → Counted g i n
    → (k : ℕ) → k < i + 1 → Counted g k (get_or (ranks ++ n ∷ []) k 0)
ranked_more g i n ranks same held one k lt = elim (below_or_last k i lt) [
  | inl p ↦ subst (Counted g k) (sym (get_or-append ranks (n ∷ []) 0 k (omega (arith, same, p)))) (held k p)
  | inr e ↦ subst (λ j. Counted g j (get_or (ranks ++ n ∷ []) k 0)) (sym e) (subst (Counted g i) (sym (last_is ranks n k (e ∙ sym same))) one)
]

pub each_more : (g : List (List ℕ)) (fs : List Fun) (i : ℕ) (f : Fun) (first r next : Option Span) (ranks : List ℕ) (m : List Bool) (o : List ℕ) (again : Bool)
    → i < length fs → i < length g → f ≡ get_or fs i f → Each g fs i first ranks → IsFound g i m o → again ≡ get_or m i again
    → r ≡ earliest (unless (not again) f.span) → next ≡ earlier first r → Each g fs (i + 1) next (ranks ++ length o ∷ [])
each_more g fs i f first r next ranks m o again lt inside is e a b one join =
    let at : get_or m i false ≡ again = mark_is m i again (omega (arith, a.same)) b in
    let asked : IsTrue again ↔ Leads g i i = (λ t. (a.reached i).0 (at ∙ t), λ l. sym at ∙ (a.reached i).1 l) in
    record {
      earliest = cyclic_more g fs i f again first r next lt is e.earliest asked one join;
      same = omega (arith, e.same, length-append ranks (length o ∷ []));
      ranked = ranked_more g i (length o) ranks e.same e.ranked (record { marks = m; order = o; found = a; count = refl });
    }

none_is : (A : Span → Type 0) (o : Option Span) → o ≡ None → IsEarliest A o → (at : Span) → A at → ⊥
none_is A o e (nowhere n) = n
none_is A o e (here a l) = λ at b. cc

pub each_falls : (g : List (List ℕ)) (fs : List Fun) (ranks : List ℕ) (first : Option Span) → IsClosed g → length g ≡ length fs → first ≡ None
    → ((k : ℕ) → k < length fs → (f : Fun) × At fs k f) → Each g fs (length fs) first ranks → Falls g ranks
each_falls g fs ranks first closed same b stands e =
    let never = none_is (Cyclic g fs (length fs)) first b e.earliest in
    let apart : (k : ℕ) → k < length g → Leads g k k → ⊥ =
    λ k lt l. let s = stands k (omega (arith, same)) in never s.0.span (record { number = k; below = omega (arith, same); function = s.0; there = s.1; place = refl; leads = l }) in
    record {
      same = e.same ∙ sym same;
      below = λ k lt.
          let inside : k < length g = omega (arith, e.same, same) in
          let q = e.ranked k (omega (arith, e.same)) in
          let r = reached_below g k q.marks q.order q.found inside (apart k inside) in
          omega (arith, r, q.count);
      falls = λ k j h.
          let kn : k < length g = caller_within g k j h in
          let jn : j < length g = closed k j h in
          let q = e.ranked k (omega (arith, same, kn)) in
          let p = e.ranked j (omega (arith, same, jn)) in
          let r = fewer_reached g k j q.marks p.marks q.order p.order q.found p.found h (apart j jn) in
          omega (arith, r, q.count, p.count);
    }
