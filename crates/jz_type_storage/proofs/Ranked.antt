-- Ranks of the functions of a program and of the numbers in its graph.
use Rattle.std.proofs.Common.{◌≡◌, ℕ, ◌<◌, inl, inr, List, length, get_or, Option, Some, None, refl, sym, ap, ◌∙◌, subst, arith}
use Rattle.std.proofs.lemmas.List.{length-map}
use Rattle.std.proofs.lemmas.Option.{slice_get_cases}
use Rattle.jz_tree.specs.Span.{Span}
use Rattle.jz_tree.specs.declared.program.Fun.{Fun}
use Rattle.jz_tree.specs.declared.program.Program.{Program}
use Rattle.jz_type_names.specs.Order.{IsEarliest, nowhere}
use Rattle.jz_type_storage.specs.Recursion.{IsRanked, IsRecursive, Tells}
use Rattle.jz_type_storage.specs.declared.fall.Candidate.{Candidate}
use Rattle.jz_type_storage.specs.declared.recursion.Ranking.TheVariants.{Ranked, Recursive}
use Rattle.jz_type_storage.specs.InnerNumbers.{graph_of, numbers_called, Descends}
use Rattle.jz_type_storage.specs.InnerCandidates.{IsCandidate}
use Rattle.jz_type_storage.proofs.Naming.{At}
use Rattle.jz_type_storage.proofs.Bridge.{closed, called_at, calls_at, cycle_up}
use Rattle.jz_type_storage.proofs.Falling.{Falls, caller_within, no_cycle}
use Rattle.jz_type_storage.proofs.Cyclic.{cyclic_all}
use Rattle.jz_type_storage.proofs.Steep.{all_fall}
use Rattle.jz_type_storage.proofs.Each.{Each, each_falls}

pub same_length : (p : Program) → length (graph_of p.funs) ≡ length p.funs
same_length p = length-map p.funs (numbers_called p.funs)

-- a function stands at each number
pub some_at : (fs : List Fun) (k : ℕ) → k < length fs → (f : Fun) × At fs k f
some_at fs k lt = elim (slice_get_cases fs k).1 [
  | inl s ↦ (s.0, record { within = s.1; is = s.3 })
  | inr n ↦ absurd (omega (arith, n.0, lt))
]

pub ranked_of : (p : Program) (ranks : List ℕ) → Falls (graph_of p.funs) ranks → IsRanked p ranks
ranked_of p ranks f = record {
  same = f.same ∙ same_length p;
  below = λ i lt. subst (λ n. get_or ranks i 0 < n) (same_length p) (f.below i lt);
  falls = λ i j c. f.falls i j (called_at p i j c);
}

pub of_ranked : (p : Program) (ranks : List ℕ) → IsRanked p ranks → Falls (graph_of p.funs) ranks
of_ranked p ranks r = record {
  same = r.same ∙ sym (same_length p);
  below = λ i lt. subst (λ n. get_or ranks i 0 < n) (sym (same_length p)) (r.below i lt);
  falls = λ i j h.
      let s = some_at p.funs i (subst (λ n. i < n) (same_length p) (caller_within (graph_of p.funs) i j h)) in
      r.falls i j (calls_at p i j s.0 s.1 h);
}

-- where there are ranks, no function reaches itself
pub not_recursive : (p : Program) (ranks : List ℕ) (at : Span) → IsRanked p ranks → IsRecursive p at → ⊥
not_recursive p ranks at r c =
    let circle = cycle_up p c.among.0 c.function c.reaches (record { within = c.among.1; is = c.among.2 }) in
    no_cycle (graph_of p.funs) ranks (of_ranked p ranks r) circle.number circle.leads

pub ranked_tells : (p : Program) (ranks : List ℕ) → Falls (graph_of p.funs) ranks → Tells p (Ranked ranks)
ranked_tells p ranks f =
    let r = ranked_of p ranks f in
    (r, nowhere (λ at c. not_recursive p ranks at r c))

-- where no call is of a function of higher rank, and no function has a call of one of equal rank, the ranks are told
pub level_tells : (p : Program) (g : List (List ℕ)) (ranks : List ℕ) (first : Option Candidate) → g ≡ graph_of p.funs → first ≡ None
    → Descends g ranks → IsCandidate g p.funs ranks (length p.funs) first → Tells p (Ranked ranks)
level_tells p g ranks first graph none d held =
    let same : length g ≡ length p.funs = ap length graph ∙ same_length p in
    ranked_tells p ranks (subst (λ h. Falls h ranks) graph (all_fall g p.funs ranks first d same none held))

module _ (p : Program) (g : List (List ℕ)) (fs : List Fun) (i : ℕ) (first : Option Span) (ranks : List ℕ)
    (graph : g ≡ graph_of p.funs) (all : fs ≡ p.funs) (whole : i ≡ length fs) (each : Each g fs i first ranks) where
  over : Each (graph_of p.funs) p.funs (length p.funs) first ranks
  over =
      let h1 : Each g fs (length fs) first ranks = subst (λ k. Each g fs k first ranks) whole each in
      let h2 : Each g p.funs (length p.funs) first ranks = subst (λ gs. Each g gs (length gs) first ranks) all h1 in
      subst (λ h. Each h p.funs (length p.funs) first ranks) graph h2

  pub each_ranked : first ≡ None → Tells p (Ranked ranks)
  each_ranked none = ranked_tells p ranks (each_falls (graph_of p.funs) p.funs ranks first (closed p.funs) (same_length p) none (some_at p.funs) over)

  pub each_recursive : (at : Span) → first ≡ Some at → Tells p (Recursive at)
  each_recursive at some = subst (IsEarliest (IsRecursive p)) some (cyclic_all p p.funs (length p.funs) first refl refl over.earliest)
