-- What an expansion asks of callers is what the function of the text asks; and of two expansions of a
-- function all but the writing of the body is one.
use Rattle.std.proofs.Common.{◌≡◌, ℕ, ◌<◌, ◌≤◌, List, ◌++◌, map, ap, ◌∙◌, subst}
use Rattle.std.specs.List.{flat_map}
use Rattle.jz_tree.specs.Span.{Span}
use Rattle.jz_tree.specs.declared.expr.Var.{Var}
use Rattle.jz_tree.specs.declared.program.Fun.{Fun}
use Rattle.jz_tree.specs.declared.program.Note.{Note}
use Rattle.jz_tree.specs.declared.program.Param.{Param}
use Rattle.jz_tree.specs.declared.program.Program.{Program}
use Rattle.jz_annotations.specs.declared.precondition.Pre.{Pre}
use Rattle.jz_type_names.specs.Scopes.{variable_named, variables_of}
use Rattle.jz_preconditions.specs.Stating.{stated_in, pres_of, preconditions_of}
use Rattle.jz_change.specs.Changes.{Change}
use Rattle.jz_verdict.specs.Expansions.{IsExpansion}
use Rattle.jz_one_unrolling.proofs.One.{one_unrolling}
use Rattle.jz_verdict.proofs.Expansions.{expansions_same}
use Rattle.jz_declared.specs.Declared.{held_for, held_of}
use Rattle.jz_homing.specs.Tables.{no_homes, with_vars}
use Rattle.jz_stack.specs.Laying.{end_from}
use Rattle.jz_meaning.specs.Statements.{Block}
use Rattle.jz_change.specs.Views.{change_of}
use Rattle.jz_correct.specs.Registers.{argument_registers, result_registers}
use Rattle.jz_place.specs.Bodies.{body_of}
use Rattle.jz_homes.specs.Homes.{Homes}
use Rattle.jz_every_row.specs.Bodies.{IsLowered}
use Rattle.jz_lowered.specs.Functions.{ArePassed, AreKinds}
use Rattle.jz_operands.specs.TableHomes.{homes_by}
use Rattle.jz_no_secrets.specs.LoweredFun.{LoweredFun}
use Rattle.jz_no_secrets.specs.Functions.{plain_body, homes_for, IsFunctionLowered}
use Rattle.jz_code.specs.declared.code.NoCode.{NoCode}
use Rattle.jz_code.specs.declared.code.NoCode.TheVariants as no
use Rattle.jz_whole_pipeline.specs.Refused.{stack_end, IsCodeless}

abbrev stated : List Param → List Note → List Pre
stated ps notes = pres_of (stated_in (λ n. variable_named n (map (λ (q : Param). q.var) ps)) notes)

pub pres_same : (p : Program) (f g : Fun) (k : Change) (n : ℕ) → IsExpansion p f g k n → preconditions_of g ≡ preconditions_of f
pres_same p f g k n x =
    let params : g.params ≡ f.params = ap (λ (h : Fun). h.params) x.function ∙ x.head.params in
    let notes : g.notes ≡ f.notes = ap (λ (h : Fun). h.notes) x.function ∙ x.head.notes in
    ap (λ (ps : List Param). stated ps g.notes) params ∙ ap (λ (ns : List Note). stated f.params ns) notes

-- ---- two expansions of one function
module _ (p : Program) (f g h : Fun) (k l : Change) (m n : ℕ) (x : IsExpansion p f g k m) (y : IsExpansion p f h l n) where
  variables_same : variables_of g ≡ variables_of h
  variables_same =
      let one = (expansions_same one_unrolling p f g h k l m n x y).same in
      ap (λ (ps : List Param). map (λ (q : Param). q.var) ps ++ g.vars) one.params
      ∙ ap (λ (vs : List Var). map (λ (q : Param). q.var) h.params ++ vs) one.vars

  pub held_same : held_of g ≡ held_of h
  held_same = ap (λ (vs : List Var). flat_map held_for vs) variables_same

  pub end_same : stack_end g ≡ stack_end h
  end_same = ap (λ (vs : List Var). end_from 0 (with_vars no_homes vs).stack) variables_same

  homes_same : homes_for g ≡ homes_for h
  homes_same = ap (λ (vs : List Var). homes_by (with_vars no_homes vs).entries) variables_same

  -- what is the function over variables of the one is that of the other
  lowered_too : (made : LoweredFun) (c : Change) → IsFunctionLowered g made c → IsFunctionLowered h made c
  lowered_too made c low =
      let one = (expansions_same one_unrolling p f g h k l m n x y).same in
      record {
        lowered = record {
          entry = subst (λ (ps : List Param). ArePassed (homes_for h) argument_registers (map (λ (q : Param). q.var) ps) made.ir.entry) one.params
              (subst (λ (home : Homes). ArePassed home argument_registers (map (λ (q : Param). q.var) g.params) made.ir.entry) homes_same low.lowered.entry);
          body = subst (λ (b : Block). IsLowered (homes_for h) b (body_of made.ir.body) c) one.body
              (subst (λ (home : Homes). IsLowered home (plain_body g) (body_of made.ir.body) c) homes_same low.lowered.body);
          returned = subst (λ (vs : List Var). ArePassed (homes_for h) result_registers vs made.ir.results) one.result
              (subst (λ (home : Homes). ArePassed home result_registers g.result made.ir.results) homes_same low.lowered.returned);
          kinds = subst (λ (home : Homes). AreKinds home made.ir.kinds) homes_same low.lowered.kinds;
        };
        kinds = low.kinds ∙ ap (λ (vs : List Var). (with_vars no_homes vs).kinds) variables_same;
        stack = low.stack ∙ ap (λ (vs : List Var). (with_vars no_homes vs).stack) variables_same;
        in_use = low.in_use;
      }

  pub codeless_too : (why : NoCode) → IsCodeless g why → IsCodeless h why
  codeless_too no.Frame over = subst (λ (e : ℕ). 65536 < e) end_same over
  codeless_too (no.Place refusal) (within, left) = (
    subst (λ (e : ℕ). e ≤ 65536) end_same within,
    record {
      lowered = left.lowered;
      is_lowered = lowered_too left.lowered (change_of left.lowered.change) left.is_lowered;
      ready = left.ready;
      evidence = left.evidence;
    },
  )
