-- The places of machine code are all that the operations of its body need.
use Rattle.std.proofs.Common.{ℕ, Bool, false, List, map, refl}
use Rattle.x64_insn.specs.declared.types.Place.{Place}
use Rattle.jz_ir.specs.Places.{place_at, IsPlacing}
use Rattle.jz_ir.specs.Tree as ir
use Rattle.jz_runs.specs.Trees.{done, op, quiet, choose, loop, each, call}
use Rattle.jz_placing.specs.Variables.{Body}
use Rattle.jz_placing.specs.Placing.{AreMet}
use Rattle.jz_placing.proofs.Allocated.{placing_met}
use Rattle.jz_place.specs.declared.tree.Ir.{Ir}
use Rattle.jz_place.specs.Bodies.{body_of, entry_op, return_op, returns_of, seen_code, LiveInWhole}
use Rattle.jz_place.proofs.Sorted.{suited}
use Rattle.jz_codable.specs.Ready.{IsReady}
use Rattle.jz_every_row.specs.Bodies.{HasNeedsMet}

module _ (places : ℕ → Place) where
  all_met : (t : Body) (rest : ir.Tree) (behind : ℕ → Bool) → AreMet places t rest behind → HasNeedsMet places t
  all_met done rest behind m = tt
  all_met (op o r) rest behind m = (m.0.placed.needs, all_met r rest behind m.1)
  all_met (quiet o r) rest behind m = all_met r rest behind m
  all_met (choose c a b r) rest behind m = (all_met a ir.done _ m.2, all_met b ir.done _ m.3, all_met r rest behind m.4)
  all_met (loop q p c b r) rest behind m = (all_met p ir.done _ m.0, all_met b ir.done _ m.2, all_met r rest behind m.3)
  all_met (each f b r) rest behind m = absurd f
  all_met (call c b r) rest behind m = absurd c

pub needs_met : (f : Ir) (list : List Place) → IsReady f → IsPlacing (seen_code f) (LiveInWhole f) list → HasNeedsMet (λ v. place_at list v) (body_of f.body)
needs_met f list ready rule =
    all_met (λ v. place_at list v) (body_of f.body) (returns_of f) (λ v. false)
    (placing_met list (map entry_op f.entry) (map return_op f.results) (body_of f.body) (seen_code f) ready.within refl rule
    (suited (seen_code f) (LiveInWhole f) list rule (body_of f.body) ready.sorted))
