-- Each parameter is a variable of the function, and has its register.
use Rattle.std.proofs.Common.{◌≡◌, ◌≢◌, ℕ, ◌<◌, List, [], ◌∷◌, length, map, refl}
use Rattle.std.specs.List.{All, AllByRecursion}
use Rattle.std.proofs.lemmas.List.Elements.{All-head, All-tail}
use Rattle.x64_insn.specs.declared.types.Place.{Place}
use Rattle.x64_insn.specs.declared.types.Place.TheVariants as place
use Rattle.x64_insn.specs.declared.types.Reg.TheVariants as reg
use Rattle.jz_ir.specs.declared.code.Need.{Need}
use Rattle.jz_ir.specs.Places.{Below, IsWithin, place_at, IsPlacing}
use Rattle.jz_ir.specs.Tree as ir
use Rattle.jz_ir.specs.Tree.{Frame, at, states, ops_of}
use Rattle.jz_operations.specs.Reading.{seen_of}
use Rattle.jz_operations.specs.Insns.{reg_of}
use Rattle.jz_placing.specs.Variables.{test_of}
use Rattle.jz_placing.specs.Flow.{flow, then_ops}
use Rattle.jz_placing.proofs.Allocated.{IsPlacedAt, placed_at}
use Rattle.jz_place.specs.declared.tree.Ir.{Ir}
use Rattle.jz_place.specs.declared.tree.Passed.{Passed}
use Rattle.jz_place.specs.Bodies.{body_of, entry_op, returns_of, whole_of, seen_code, LiveInWhole}
use Rattle.jz_code.proofs.Trees.{off_stack}

abbrev entry_tree : List Passed → ir.Tree → ir.Tree
entry_tree ps t = then_ops (map entry_op ps) t

module _ (list : List Place) where
  in_registers : (ps : List Passed) (t : ir.Tree) → All (IsPlacedAt list) (states (entry_tree ps t) []) → AllByRecursion (λ p. place_at list p.variable.variable ≡ place.Reg p.reg) ps
  in_registers [] t a = tt
  in_registers (p ∷ ps) t a =
      let h = All-head (IsPlacedAt list) (at (ir.op (entry_op p) (entry_tree ps t)) ∷ []) (states (entry_tree ps t) []) a in
      (All-head (λ (n : Need). place_at list n.variable ≡ n.place) _ [] h.needs, in_registers ps t (All-tail (IsPlacedAt list) (at (ir.op (entry_op p) (entry_tree ps t)) ∷ []) (states (entry_tree ps t) []) a))

below : (n : ℕ) (ps : List Passed) (t : ir.Tree) → All (Below n) (ops_of (entry_tree ps t)) → AllByRecursion (λ p. p.variable.variable < n) ps
below n [] t a = tt
below n (p ∷ ps) t a =
    let h = All-head (Below n) (entry_op p) (ops_of (entry_tree ps t)) a in
    (All-head (λ v. v < n) p.variable.variable [] h.writes, below n ps t (All-tail (Below n) (entry_op p) (ops_of (entry_tree ps t)) a))

-- the place of a parameter, which is not the stack pointer
abbrev pub IsSeated : List Place → Passed → Type 0
IsSeated list p = (place_at list p.variable.variable ≡ place.Reg p.reg) × (reg_of (place_at list p.variable.variable) ≢ reg.Rsp)

both : (ps : List Passed) (n : ℕ) (list : List Place) → ((v : ℕ) → v < n → reg_of (place_at list v) ≢ reg.Rsp) → AllByRecursion (λ p. place_at list p.variable.variable ≡ place.Reg p.reg) ps
    → AllByRecursion (λ p. p.variable.variable < n) ps → AllByRecursion (IsSeated list) ps
both [] n list off a b = tt
both (p ∷ ps) n list off a b = ((a.0, off p.variable.variable b.0), both ps n list off a.1 b.1)

pub seated : (f : Ir) (list : List Place) → IsWithin (seen_code f) → IsPlacing (seen_code f) (LiveInWhole f) list → AllByRecursion (IsSeated list) f.entry
seated f list within rule =
    let rest = flow seen_of test_of (body_of f.body) (returns_of f) in
    both f.entry (length f.kinds) list (off_stack f list rule) (in_registers list f.entry rest (placed_at (whole_of f) (seen_code f) list within refl rule)) (below (length f.kinds) f.entry rest within)
