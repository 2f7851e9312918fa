-- What a function over variables is: a body that runs, and operations that read and write.
use Rattle.std.specs.Prelude.{ℕ, List, [], ◌∷◌, map}
use Rattle.x64_insn.specs.declared.types.Place.TheVariants as place
use Rattle.jz_ir.specs.declared.code.Code.{Code}
use Rattle.jz_ir.specs.declared.code.Need.{Need}
use Rattle.jz_ir.specs.declared.code.Op.{Op}
use Rattle.jz_ir.specs.Tree as ir
use Rattle.jz_runs.specs.Trees.{done, op, choose, loop}
use Rattle.jz_operations.specs.Reading.{seen_of}
use Rattle.jz_placing.specs.Variables.{Asked, always, asks, Body, test_of}
use Rattle.jz_placing.specs.Flow.{flow, then_ops}
use Rattle.jz_place.specs.declared.tree.Ir.{Ir}
use Rattle.jz_place.specs.declared.tree.Passed.{Passed}
use Rattle.jz_place.specs.declared.tree.Test.{Test}
use Rattle.jz_place.specs.declared.tree.Test.TheVariants as V
use Rattle.jz_place.specs.declared.tree.Node.{Node}
use Rattle.jz_place.specs.declared.tree.Node.TheOpen.{Node-F}
use Rattle.jz_place.specs.declared.tree.Node.TheFolds.{fold-Node}

abbrev pub asked_of : Test → Asked
asked_of V.Always = always
asked_of (V.If o k) = asks o k

-- ---- the body that a block stands for, each part with what follows it
abbrev pub in_order : List (Body → Body) → Body
in_order [] = done
in_order (f ∷ fs) = f (in_order fs)

abbrev pub node_step : Node-F (Body → Body) → Body → Body
node_step (Node-F.Do o) r = op o r
node_step (Node-F.If t a b) r = choose (asked_of t) (in_order a) (in_order b) r
node_step (Node-F.While q p t b) r = loop q (in_order p) (asked_of t) (in_order b) r

abbrev pub then_body : Node → Body → Body
then_body = fold-Node _ node_step

abbrev pub body_of : List Node → Body
body_of ns = in_order (map then_body ns)

-- ---- what is seen of it: the entry writes the parameters, and the return reads the results
abbrev pub need_by : Passed → Need
need_by p = record {
  variable = p.variable.variable;
  place = place.Reg p.reg;
  span = p.variable.span;
}

abbrev pub entry_op : Passed → Op
entry_op p = record {
  span = p.variable.span;
  reads = [];
  writes = p.variable.variable ∷ [];
  fixed = [];
  needs = need_by p ∷ [];
}

abbrev pub return_op : Passed → Op
return_op p = record {
  span = p.variable.span;
  reads = p.variable.variable ∷ [];
  writes = [];
  fixed = [];
  needs = need_by p ∷ [];
}

abbrev pub returns_of : Ir → ir.Tree
returns_of f = then_ops (map return_op f.results) ir.done

abbrev pub whole_of : Ir → ir.Tree
whole_of f =
    then_ops (map entry_op f.entry) (flow seen_of test_of (body_of f.body) (returns_of f))

-- its operations one after another, with the kinds of the variables and the places in use
abbrev pub seen_code : Ir → Code
seen_code f = record {
  ops = ir.ops_of (whole_of f);
  kinds = f.kinds;
  in_use = f.in_use;
}

-- the variable is live after the operation i
abbrev pub LiveInWhole : Ir → ℕ → ℕ → Type 0
LiveInWhole f = ir.LiveInTree (whole_of f)
