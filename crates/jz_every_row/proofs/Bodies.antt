-- Bodies over variables carry the runs of bodies.
use Rattle.std.proofs.Common.{ℕ, inr, refl, sym, ap, ◌∙◌, subst}
use Rattle.x64_insn.specs.declared.types.Place.{Place}
use Rattle.jz_leak.specs.RunLeaks.{Leak}
use Rattle.jz_runs.specs.Rules.{Outcome, Goes}
use Rattle.jz_meaning.specs.Statements.{Block}
use Rattle.jz_meaning.specs.Statements as statements
use Rattle.jz_operations.specs.Rows.{Frame}
use Rattle.jz_placing.specs.Variables.{Body, variables}
use Rattle.jz_change.specs.Changes.{Change}
use Rattle.jz_pass.specs.Laws.{Relating, Follows, has_ended, was_cut, was_stuck, Carries}
use Rattle.jz_pass.specs.Cases.{IsBetween, no_case, cases_of, Gives}
use Rattle.jz_pass.proofs.Bodies.{unrolling_carries}
use Rattle.jz_pass.proofs.CasesKept.{unrolled_cases}
use Rattle.jz_pass.proofs.Twice.{body_both_ways}
use Rattle.jz_homes.specs.Homes.{Homes, IsHoming}
use Rattle.jz_every_row.specs.Bodies.{lowering, IsLowered, beside, HasNeedsMet}
use Rattle.jz_every_row.proofs.Known.{placed, unrolls_met, lowering_known, lowering_items}
use Rattle.jz_every_row.proofs.Marks.{unmarked, same_cases}

follows_on : {I J V V2 W W2 : Type 0} {R : Relating I J V V2 W W2} {k : Change} {Comes Comes2 : Outcome V2 W2 Leak → Type 0} {o : Outcome V W Leak} → ((p : Outcome V2 W2 Leak) → Comes p → Comes2 p) → Follows R k Comes o → Follows R k Comes2 o
follows_on f (has_ended v2 e g h) = has_ended v2 e g (f _ h)
follows_on f (was_cut g h) = was_cut g (f _ h)
follows_on f (was_stuck s) = was_stuck (λ x. let z = s x in (z.0, z.1, f _ z.2))

module _ (places : ℕ → Place) (frame : Frame) (home : Homes) (homing : IsHoming frame home) where
  pub bodies_carry : (b : Block) (u : Body) (k : Change) → IsLowered home b u k → HasNeedsMet places u → Carries (beside home) (λ s n. Goes statements.source b n s) (λ σ n. Goes (variables frame) u n σ) k
  bodies_carry b u k h met =
      let c = unrolling_carries statements.source (variables frame) (placed places home) (lowering_known places frame home homing) tt tt b h.marked k (unrolls_met places home h.made (subst (HasNeedsMet places) h.body met)) in
      body_both_ways statements.source (variables frame) (beside home) k b u (λ w w2. inr tt)
      (λ s σ n o at run. follows_on (λ p g. subst (λ x. Goes (variables frame) x n σ p) (sym h.body) (unmarked (variables frame) (λ o2 τ. refl) g)) (c.forth s σ n o at run))

pub bodies_have_cases : (home : Homes) (b : Block) (u : Body) (k : Change) → IsLowered home b u k → IsBetween (cases_of b) (cases_of u) k
bodies_have_cases home b u k h =
    subst (λ x. Gives k (cases_of b) x no_case) (sym (ap cases_of h.body ∙ same_cases h.marked no_case)) (unrolled_cases (lowering home) (lowering_items home) no_case h.made)
