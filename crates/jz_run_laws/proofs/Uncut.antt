-- Without recursion the tree of a body is not cut off.
use Rattle.std.proofs.Common.{◌≡◌, ◌≤◌, ℕ, suc, inl, inr, List, length, Option, Some, None, refl, sym, ap, ◌∙◌, subst, arith}
use Rattle.jz_tree.specs.Span.{Span}
use Rattle.jz_tree.specs.declared.expr.Expr.{Expr}
use Rattle.jz_tree.specs.declared.stmt.Lval.{Lval}
use Rattle.jz_tree.specs.declared.stmt.Rhs.TheVariants as rhs
use Rattle.jz_tree.specs.declared.stmt.Stmt.{Stmt}
use Rattle.jz_tree.specs.declared.stmt.StmtKind.TheVariants as kind
use Rattle.jz_tree.specs.declared.program.Fun.{Fun}
use Rattle.jz_tree.specs.declared.program.Program.{Program}
use Rattle.jz_meaning.specs.Trees.{done, call}
use Rattle.jz_type_names.specs.Scopes.{function_named}
use Rattle.jz_types.specs.Recursion.{IsRecursive}
use Rattle.jz_types.proofs.Naming.{named_or_nobody}
use Rattle.jz_types.specs.declared.fault.TypeRule.TheVariants.{Recursion}
use Rattle.jz_types.specs.TypedPrograms.{IsTypedProgram}
use Rattle.jz_meaning.specs.Statements.{Block}
use Rattle.jz_meaning.specs.Runs.{Callees, call_tree, statement_tree, block, with_tree, callees_of, body_of}
use Rattle.jz_run_laws.specs.Depths.{HasNoRecursion, with_own_tree, callees_in}
use Rattle.jz_run_laws.proofs.SameTrees.{call_is}
use Rattle.jz_run_laws.proofs.Deepening.{nobody_called, same_calls}
use Rattle.jz_run_laws.proofs.Chains.{MayCall, may_none, may_down, may_begin}

deep_enough : (p : Program) (d e : ℕ) (n : List ℕ) → HasNoRecursion p → length p.funs ≤ d → length p.funs ≤ e → callees_of p.funs d n ≡ callees_of p.funs e n
deep_enough p d e n never x y =
    elim (named_or_nobody n p.funs) [
      | inl o ↦ nobody_called p.funs d n o.0 ∙ sym (nobody_called p.funs e n o.0)
      | inr q ↦ same_calls p (MayCall p) (may_none p) (may_down p never) d e n q.number q.numbered
          (may_begin p q.number d q.there.within x) (may_begin p q.number e q.there.within y)
    ]

own_tree : (p : Program) (o : Option Fun) → with_tree (λ ss. block (callees_of p.funs (length p.funs)) ss done) o ≡ with_own_tree p o
own_tree p None = refl
own_tree p (Some f) = refl

pub callees_law : (p : Program) (d : ℕ) (n : List ℕ) → HasNoRecursion p → length p.funs ≤ d → callees_of p.funs d n ≡ callees_in p n
callees_law p d n never le = deep_enough p d (suc (length p.funs)) n never le (omega arith) ∙ own_tree p (function_named n p.funs)

all_callees : (p : Program) (d : ℕ) → HasNoRecursion p → length p.funs ≤ d → callees_of p.funs d ≡ callees_in p
all_callees p d never le = λ i n. callees_law p d n never le i

pub whole_law : (p : Program) (f : Fun) → HasNoRecursion p → body_of p f ≡ block (callees_in p) f.body done
whole_law p f never = ap (λ (c : Callees). block c f.body done) (all_callees p (length p.funs) never (omega arith))

pub bodies_law : (p : Program) (f : Fun) (d : ℕ) → HasNoRecursion p → length p.funs ≤ d → block (callees_of p.funs d) f.body done ≡ body_of p f
bodies_law p f d never le = ap (λ (c : Callees). block c f.body done) (all_callees p d never le) ∙ sym (whole_law p f never)

pub calls_law : (p : Program) (s : Stmt) (to : List Lval) (n : List ℕ) (args : List Expr) (at : Span) (f : Fun) (rest : Block)
    → s.kind ≡ kind.Assign to None (rhs.Call n args at) None → function_named n p.funs ≡ Some f
    → statement_tree (callees_in p) s rest ≡ call (record { to = to; callee = f; args = args; at = at }) (body_of p f) rest
calls_law p s to n args at f rest e h =
    call_is (callees_in p) s to n args at rest e ∙ ap (λ o. call_tree (with_own_tree p o) to None args None at rest) h

pub typed_law : (p : Program) → IsTypedProgram p → HasNoRecursion p
typed_law p t at r = t.typed Recursion at (subst (λ q. IsRecursive q at) t.same r)
