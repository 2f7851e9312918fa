-- Bodies of instructions.
use Rattle.std.specs.Prelude.{ℕ, List, [], ◌∷◌, Some, None, map}
use Rattle.jz_runs.specs.Trees.{done, op, quiet, choose, loop, each, call}
use Rattle.jz_operations.specs.Rows.{accesses}
use Rattle.jz_operations.specs.Insns.{AllFit}
use Rattle.jz_placing.specs.Instructions as insn
use Rattle.jz_placing.specs.Instructions.{Code}
use Rattle.jz_placing.specs.Variables.{Asked, always, asks, Body}
use Rattle.jz_place.specs.declared.placed.PlacedTest.{PlacedTest}
use Rattle.jz_place.specs.declared.placed.PlacedTest.TheVariants as V
use Rattle.jz_place.specs.declared.placed.PlacedNode.{PlacedNode}
use Rattle.jz_place.specs.declared.placed.PlacedNode.TheOpen.{PlacedNode-F}
use Rattle.jz_place.specs.declared.placed.PlacedNode.TheFolds.{fold-PlacedNode}

abbrev pub test_in : PlacedTest → insn.Test
test_in V.Always = insn.always
test_in (V.If i k) = insn.if_holds i k

-- the code that a block stands for, each part with what follows it
abbrev pub in_order : List (Code → Code) → Code
in_order [] = done
in_order (f ∷ fs) = f (in_order fs)

abbrev pub node_step : PlacedNode-F (Code → Code) → Code → Code
node_step (PlacedNode-F.Do i) r = op i r
node_step (PlacedNode-F.If t a b) r = choose (test_in t) (in_order a) (in_order b) r
node_step (PlacedNode-F.While q p t b) r = loop q (in_order p) (test_in t) (in_order b) r

abbrev pub then_code : PlacedNode → Code → Code
then_code = fold-PlacedNode _ node_step

abbrev pub code_in : List PlacedNode → Code
code_in ns = in_order (map then_code ns)

-- the displacement of each cell that is accessed is a signed number of 32 bits
abbrev pub TestFits : (ℕ → ℕ) → Asked → Type 0
TestFits slots always = Unit {0}
TestFits slots (asks None k) = Unit {0}
TestFits slots (asks (Some o) k) = AllFit slots (accesses o.action)

abbrev pub BodyFits : (ℕ → ℕ) → Body → Type 0
BodyFits slots done = Unit {0}
BodyFits slots (op o r) = AllFit slots (accesses o.action) × BodyFits slots r
BodyFits slots (quiet o r) = BodyFits slots r
BodyFits slots (choose c a b r) =
    TestFits slots c × BodyFits slots a × BodyFits slots b × BodyFits slots r
BodyFits slots (loop q p c b r) =
    BodyFits slots p × TestFits slots c × BodyFits slots b × BodyFits slots r
BodyFits slots (each f b r) = absurd f
BodyFits slots (call c b r) = absurd c
