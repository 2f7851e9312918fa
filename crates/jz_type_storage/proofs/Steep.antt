-- Where no call is of a function of higher rank, a function whose calls are of lower rank does not reach itself.
use Rattle.std.proofs.Common.{◌≡◌, ℕ, ◌+◌, ◌<◌, ◌⊎◌, inl, inr, List, length, get_or, Option, Some, None, sym, ap, ◌∙◌, subst, arith}
use Rattle.std.specs.Prelude.{Bool, IsTrue, slice_get}
use Rattle.std.proofs.lemmas.List.{length-map}
use Rattle.std.proofs.lemmas.Option.{slice_get_cases}
use Rattle.jz_tree.specs.Span.{Span}
use Rattle.jz_tree.specs.declared.program.Fun.{Fun}
use Rattle.jz_tree.specs.declared.program.Program.{Program}
use Rattle.jz_type_names.specs.Order.{here}
use Rattle.jz_type_names.proofs.Standing.{AtLeast}
use Rattle.jz_type_storage.specs.declared.fall.Candidate.{Candidate}
use Rattle.jz_type_storage.specs.declared.recursion.Ranking.TheVariants.{Recursive}
use Rattle.jz_type_storage.specs.InnerNumbers.{directly, further}
use Rattle.jz_type_storage.specs.InnerNumbers.{Has, row_of, graph_of, numbers_called, Leads, Descends}
use Rattle.jz_type_storage.specs.InnerCandidates.{IsCandidate, IsNoLater, IsSteep, Stands}
use Rattle.jz_type_storage.specs.Recursion.{IsRecursive, Tells}
use Rattle.jz_type_storage.proofs.Naming.{At}
use Rattle.jz_type_storage.proofs.Bridge.{at_same, stands, found, cycle_down, cycle_up}
use Rattle.jz_type_storage.proofs.Falling.{Falls, caller_within}

steep_falls : (g : List (List ℕ)) (ranks : List ℕ) → Descends g ranks → (i j : ℕ) → IsSteep g ranks i → Leads g i j → get_or ranks j 0 < get_or ranks i 0
steep_falls g ranks d i j s (directly h) = s j h
steep_falls g ranks d i k s (further {j = j} r h) = omega (arith, steep_falls g ranks d i j s r, d.stays j k h)

pub steep_apart : (g : List (List ℕ)) (ranks : List ℕ) → Descends g ranks → (i : ℕ) → IsSteep g ranks i → Leads g i i → ⊥
steep_apart g ranks d i s r = omega (arith, steep_falls g ranks d i i s r)

-- ---- the candidate among the first functions
pub row_steep : (g : List (List ℕ)) (ranks xs : List ℕ) (i rank : ℕ) → xs ≡ row_of g i → rank ≡ get_or ranks i 0
    → ((k : ℕ) → k < length xs → get_or ranks (get_or xs k 0) 0 < rank) → IsSteep g ranks i
row_steep g ranks xs i rank e r held j h =
    let t : Has xs j = subst (λ ys. Has ys j) (sym e) h in
    subst (λ n. get_or ranks j 0 < n) r (subst (λ x. get_or ranks x 0 < rank) t.2 (held t.0 t.1))

pub item_at : (fs items : List Fun) (i : ℕ) (f : Fun) → items ≡ fs → i < length items → f ≡ get_or items i f → At fs i f
item_at fs items i f e lt is = subst (λ xs. At xs i f) e (record { within = lt; is = sym is })

below_or_last : (k i : ℕ) → k < i + 1 → (k < i) ⊎ (k ≡ i)
below_or_last k i h = grind arith

the_same : (c d : Candidate) → Some c ≡ Some d → c ≡ d
the_same c d e = cc

same_function : (fs : List Fun) (i k : ℕ) (f h : Fun) → k ≡ i → At fs i f → slice_get fs k ≡ Some h → f ≡ h
same_function fs i k f h e a at = at_same fs i f h a (subst (λ n. At fs n h) e (stands fs k h at))

module _ (g : List (List ℕ)) (fs : List Fun) (ranks : List ℕ) where
  pub candidate_begins : IsCandidate g fs ranks 0 None
  candidate_begins = record { stands = λ c e. absurd cc; others = λ i f lt at. absurd (omega (arith, lt)) }

  pub candidate_more : (i : ℕ) (f : Fun) (falls : Bool) (first result : Option Candidate) (next : Candidate)
      → At fs i f → IsCandidate g fs ranks i first → (IsTrue falls → IsSteep g ranks i) → next.number ≡ i → next.name ≡ f.span
      → (result ≡ first) ⊎ (result ≡ Some next) → ((at : Span) → IsNoLater first at → IsNoLater result at) → IsTrue falls ⊎ IsNoLater result next.name
      → IsCandidate g fs ranks (i + 1) result
  candidate_more i f falls first result next a held steep number name one earlier last =
      let own : Stands fs next = record { function = f; there = subst (λ k. slice_get fs k ≡ Some f) (sym number) (found fs i f a); place = sym name } in
      record {
        stands = λ c e. elim one [ inl p ↦ held.stands c (sym p ∙ e) | inr q ↦ subst (Stands fs) (the_same next c (sym q ∙ e)) own ];
        others = λ k h lt at. elim (below_or_last k i lt) [
          | inl p ↦ elim (held.others k h p at) [ inl s ↦ inl s | inr q ↦ inr (earlier h.span q) ]
          | inr e ↦ elim last [
            | inl t ↦ inl (subst (IsSteep g ranks) (sym e) (steep t))
            | inr q ↦ inr (subst (IsNoLater result) (name ∙ ap (λ x. x.span) (same_function fs i k f h e a at)) q)
          ]
        ];
      }

  no_candidate : (first : Option Candidate) (at : Span) → first ≡ None → IsNoLater first at → ⊥
  no_candidate first at e h = subst (λ o. IsNoLater o at) e h

  pub all_fall : (first : Option Candidate) → Descends g ranks → length g ≡ length fs → first ≡ None → IsCandidate g fs ranks (length fs) first → Falls g ranks
  all_fall first d same none c = record {
    same = d.same;
    below = d.below;
    falls = λ i j h. elim (slice_get_cases fs i).1 [
      | inl s ↦ elim (c.others i s.0 s.1 s.2) [ inl t ↦ t j h | inr q ↦ absurd (no_candidate first s.0.span none q) ]
      | inr n ↦ absurd (omega (arith, n.0, same, caller_within g i j h))
    ];
  }

-- ---- the candidate of a program
pub none_sooner : (p : Program) (g : List (List ℕ)) (ranks : List ℕ) (first : Option Candidate) (c : Candidate) → g ≡ graph_of p.funs → first ≡ Some c
    → Descends g ranks → IsCandidate g p.funs ranks (length p.funs) first → (at : Span) → IsRecursive p at → AtLeast c.name at
none_sooner p g ranks first c graph one d held at r =
    let circle = cycle_up p r.among.0 r.function r.reaches (record { within = r.among.1; is = r.among.2 }) in
    let leads = subst (λ h. Leads h circle.number circle.number) (sym graph) circle.leads in
    elim (held.others circle.number r.function circle.there.within (found p.funs circle.number r.function circle.there)) [
      | inl s ↦ absurd (steep_apart g ranks d circle.number s leads)
      | inr q ↦ subst (AtLeast c.name) r.place (subst (λ o. IsNoLater o r.function.span) one q)
    ]

pub candidate_within : (p : Program) (g : List (List ℕ)) (c : Candidate) → g ≡ graph_of p.funs → Stands p.funs c → c.number < length g
candidate_within p g c e s =
    let a = stands p.funs c.number s.function s.there in
    let m : length g ≡ length (graph_of p.funs) = ap length e in
    omega (arith, a.within, m, length-map p.funs (numbers_called p.funs))

pub first_recursive : (p : Program) (g : List (List ℕ)) (c : Candidate) → g ≡ graph_of p.funs → Stands p.funs c → Leads g c.number c.number
    → ((at : Span) → IsRecursive p at → AtLeast c.name at) → Tells p (Recursive c.name)
first_recursive p g c e s l least =
    let r = subst (λ h. Leads h c.number c.number) e l in
    let a = stands p.funs c.number s.function s.there in
    here (record {
      function = s.function;
      among = (c.number, a.within, a.is);
      place = s.place;
      reaches = cycle_down p c.number s.function r a;
    }) least
