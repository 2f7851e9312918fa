-- Places by what is seen of a function are places of it.
use Rattle.std.proofs.Common.{◌≡◌, ℕ, List, refl, sym, subst}
use Rattle.x64_insn.specs.declared.types.Place.{Place}
use Rattle.jz_data.specs.declared.failure.Failure.{Failure}
use Rattle.jz_data.specs.Failures.{IfRefused}
use Rattle.jz_ir.specs.declared.code.Code.{Code}
use Rattle.jz_ir.specs.declared.code.Kind.{Kind}
use Rattle.jz_ir.specs.Places.{IsWithin, IsPlacing, FirstFit, all_of}
use Rattle.jz_ir.specs.Tree as ir
use Rattle.jz_ir.specs.Tree.{tree_of}
use Rattle.jz_alloc.specs.declared.placing.NoPlace.{NoPlace}
use Rattle.jz_alloc.specs.Answers.{IsEvidence}
use Rattle.jz_fit.specs.declared.code.Branching.{Branching}
use Rattle.jz_fit.specs.Branches.{code_of, LiveAt}
use Rattle.jz_place.specs.declared.tree.Ir.{Ir}
use Rattle.jz_place.specs.Bodies.{whole_of, seen_code, LiveInWhole}

abbrev code_by : ir.Tree → List Kind → List Place → Code
code_by t kinds in_use = record { ops = ir.ops_of t; kinds = kinds; in_use = in_use }

-- what holds of the one holds of the other
module _ (f : Ir) (b : Branching) (te : tree_of b.nodes ≡ whole_of f) (ke : b.kinds ≡ f.kinds) (ue : b.in_use ≡ f.in_use) where
  to_seen : (P : ir.Tree → List Kind → List Place → Type 0) → P (tree_of b.nodes) b.kinds b.in_use → P (whole_of f) f.kinds f.in_use
  to_seen P h = subst (λ t. P t f.kinds f.in_use) te (subst (λ k. P (tree_of b.nodes) k f.in_use) ke (subst (λ u. P (tree_of b.nodes) b.kinds u) ue h))

  from_seen : (P : ir.Tree → List Kind → List Place → Type 0) → P (whole_of f) f.kinds f.in_use → P (tree_of b.nodes) b.kinds b.in_use
  from_seen P h = subst (λ t. P t b.kinds b.in_use) (sym te) (subst (λ k. P (whole_of f) k b.in_use) (sym ke) (subst (λ u. P (whole_of f) f.kinds u) (sym ue) h))

  pub within : IsWithin (seen_code f) → IsWithin (code_of b)
  within h = from_seen (λ t k u. IsWithin (code_by t k u)) h

  pub first : (places : List Place) → FirstFit (code_of b).ops b.kinds b.in_use (LiveAt b) (all_of places) → FirstFit (seen_code f).ops f.kinds f.in_use (LiveInWhole f) (all_of places)
  first places h = to_seen (λ t k u. FirstFit (ir.ops_of t) k u (ir.LiveInTree t) (all_of places)) h

  pub rule : (places : List Place) → IsPlacing (code_of b) (LiveAt b) places → IsPlacing (seen_code f) (LiveInWhole f) places
  rule places h = to_seen (λ t k u. IsPlacing (code_by t k u) (ir.LiveInTree t) places) h

  pub evidence : (e : Failure NoPlace) → IfRefused e (λ r. IsEvidence (code_of b) (LiveAt b) r) → IfRefused e (λ r. IsEvidence (seen_code f) (LiveInWhole f) r)
  evidence e h = to_seen (λ t k u. IfRefused e (λ r. IsEvidence (code_by t k u) (ir.LiveInTree t) r)) h
