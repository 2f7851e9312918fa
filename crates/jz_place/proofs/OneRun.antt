-- Runs of bodies and of code come to one outcome; code in its places has no other runs than bodies.
use Rattle.std.proofs.Common.{◌≡◌, ℕ, ◌+◌, false, map, refl, subst, arith}
use Rattle.x64_insn.specs.declared.types.FaultKind.{FaultKind}
use Rattle.jz_leak.specs.RunLeaks.{Leak}
use Rattle.jz_runs.specs.Trees.{Tree}
use Rattle.jz_runs.specs.Rules.{Parts, Outcome, End, Cut, Stuck, Goes}
use Rattle.jz_runs.specs.Laws.{IsOver, with_more}
use Rattle.jz_runs.proofs.Steady.{Exact, exact, one_outcome, has_outcome}
use Rattle.jz_operations.specs.declared.places.Places.{Places}
use Rattle.jz_operations.specs.Values.{State}
use Rattle.jz_operations.specs.Insns.{places_in, slots_in}
use Rattle.jz_placing.specs.Instructions.{Machine, Code, instructions}
use Rattle.jz_placing.specs.Variables.{variables}
use Rattle.jz_placing.specs.Following.{Follows, ended, was_cut, was_stuck}
use Rattle.jz_placing.specs.Placing.{code_of}
use Rattle.jz_placing.proofs.Allocated.{placing_met}
use Rattle.jz_placing.proofs.Law.{places_law}
use Rattle.jz_place.specs.declared.tree.Ir.{Ir}
use Rattle.jz_place.specs.Bodies.{body_of, entry_op, return_op, returns_of, seen_code, LiveInWhole}
use Rattle.jz_place.specs.Laws.{AreGood, KeepsRuns, HasNoOtherRuns}
use Rattle.jz_place.proofs.Sorted.{suited}

-- ---- more turns, whatever the language
module _ {O T F C S W : Type 0} (M : Parts O T F C S W) where
  more_by : (t : Tree O T F C) (n u : ℕ) (s : S) (o : Outcome S W Leak) → Exact (λ k w. Goes M t k s w) n o → IsOver o → Goes M t (n + u) s (with_more u o)
  more_by t n u s (End r m l) x h = let e : m + u + x.0 ≡ n + u = omega (arith, x.1) in subst (λ k. Goes M t k s (End r (m + u) l)) e (x.2 (m + u))
  more_by t n u s (Cut l) x h = absurd h
  more_by t n u s (Stuck w) x h = x u

  pub with_turns : (t : Tree O T F C) (n u : ℕ) (s : S) (o : Outcome S W Leak) → Goes M t n s o → IsOver o → Goes M t (n + u) s (with_more u o)
  with_turns t n u s o g h = more_by t n u s o (exact M g) h

-- ---- the code of a body
pub keeps_runs : (f : Ir) (p : Places) → AreGood f p.places.now → KeepsRuns f (places_in p) (slots_in p) (code_of (places_in p) (slots_in p) (body_of f.body))
keeps_runs f p good frame end low r0 m0 n σ o s laid run beside =
    places_law frame (places_in p) (slots_in p) end low laid r0 m0 (body_of f.body) (returns_of f) (λ v. false) n σ o s
    (placing_met p.places.now (map entry_op f.entry) (map return_op f.results) (body_of f.body) (seen_code f) good.within refl good.rule
    (suited (seen_code f) (LiveInWhole f) p.places.now good.rule (body_of f.body) good.sorted))
    run beside

-- where a run follows, it is the one that there is
the_run : (code : Code) (n : ℕ) (s : Machine) (p : Outcome Machine FaultKind Leak) (Ends : State → Machine → Type 0) (maps : Leak → Leak) (o : Outcome State (Unit {0}) Leak)
    → Follows (Goes instructions code n s) Ends maps o → Goes instructions code n s p → Follows (λ q. q ≡ p) Ends maps o
the_run code n s p Ends maps o (ended t g e) h = ended t (one_outcome instructions g h) e
the_run code n s p Ends maps o (was_cut g) h = was_cut (one_outcome instructions g h)
the_run code n s p Ends maps o was_stuck h = was_stuck

pub no_others : (f : Ir) (p : Places) → AreGood f p.places.now → HasNoOtherRuns f (places_in p) (slots_in p) (code_of (places_in p) (slots_in p) (body_of f.body))
no_others f p good frame end low r0 m0 n σ s q laid run beside =
    let x = has_outcome (variables frame) (body_of f.body) n σ in
    (x.0, x.1, the_run _ n s q _ _ x.0 (keeps_runs f p good frame end low r0 m0 n σ x.0 s laid x.1 beside) run)
