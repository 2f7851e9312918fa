-- Operations one after another.
use Rattle.std.proofs.Common.{◌≡◌, ℕ, List, [], ◌∷◌, Option, Some, None, refl, sym, ap, ◌∙◌, subst}
use Rattle.jz_runs.specs.Rules.{went}
use Rattle.jz_operations.specs.declared.operation.Operation.{Operation}
use Rattle.jz_operations.specs.Values.{State}
use Rattle.jz_operations.specs.Rows.{Frame, if_some, Done, step}
use Rattle.jz_operations.proofs.Somes.{some_then, same_some}
use Rattle.jz_placing.specs.Variables.{numbers_of, by_step, variables}
use Rattle.jz_change.specs.declared.change.Numbers.{Numbers}
use Rattle.jz_pass.specs.Operations.{DoAll, do_none, do_one}
use Rattle.jz_row_operations.proofs.Items.{AreItems, no_items, more_items}

-- what several operations show, each by itself, and the state behind them
pub record Ran : Type 0 where
  pub shown : List (List ℕ)
  pub state : State

abbrev pub first_shown : List ℕ → Option Ran → Option Ran
first_shown ns None = None
first_shown ns (Some r) = Some (record r { shown = ns ∷ r.shown })

abbrev pub runs : Frame → List Operation → State → Option Ran
runs frame [] σ = Some (record { shown = []; state = σ })
runs frame (o ∷ os) σ = if_some (step frame o σ) (λ d. first_shown (numbers_of d) (runs frame os d.state))

-- ---- as operations of a tree
-- the first of them, and the others
pub record FirstRan (ns : List ℕ) (o : Option Ran) (ran : Ran) : Type 0 where
  pub rest : Ran
  pub ran_on : o ≡ Some rest
  pub shown : ran.shown ≡ ns ∷ rest.shown
  pub state : ran.state ≡ rest.state

first_ran : (ns : List ℕ) (o : Option Ran) (ran : Ran) → first_shown ns o ≡ Some ran → FirstRan ns o ran
first_ran ns None ran e = absurd cc
first_ran ns (Some r) ran e = let k = same_some _ ran e in record { rest = r; ran_on = refl; shown = ap (λ x. x.shown) (sym k); state = ap (λ x. x.state) (sym k) }

module _ (frame : Frame) (all : List ℕ) where
  nothing_done : (items : List Numbers) (σ : State) → AreItems all items [] → DoAll (variables frame) all [] items σ σ
  nothing_done [] σ no_items = do_none
  nothing_done (_ ∷ _) σ x3 = elim x3 [ ]

  one_more : (o : Operation) (os : List Operation) (items : List Numbers) (σ : State) (d : Done) (rest : Ran) → step frame o σ ≡ Some d → ((is : List Numbers) → AreItems all is rest.shown → DoAll (variables frame) all os is d.state rest.state) → AreItems all items (numbers_of d ∷ rest.shown) → DoAll (variables frame) all (o ∷ os) items σ rest.state
  one_more o os [] σ d rest e more x3 = elim x3 [ ]
  one_more o os (i ∷ is) σ d rest e more (more_items h k) = do_one h.has (ap by_step e ∙ ap (λ ns. went ns d.state) (sym h.gives)) (more is k)

  pub does_all : (os : List Operation) (items : List Numbers) (σ : State) (ran : Ran) → runs frame os σ ≡ Some ran → AreItems all items ran.shown → DoAll (variables frame) all os items σ ran.state
  does_all [] items σ ran e h =
      let k = same_some _ ran e in
      subst (λ r. DoAll (variables frame) all [] items σ r.state) k (nothing_done items σ (subst (λ r. AreItems all items r.shown) (sym k) h))
  does_all (o ∷ os) items σ ran e h =
      let d = some_then (step frame o σ) (λ d. first_shown (numbers_of d) (runs frame os d.state)) ran e in
      let f = first_ran (numbers_of d.0) (runs frame os d.0.state) ran d.2 in
      subst (λ τ. DoAll (variables frame) all (o ∷ os) items σ τ) (sym f.state)
      (one_more o os items σ d.0 f.rest d.1 (λ is k. does_all os is d.0.state f.rest f.ran_on k) (subst (AreItems all items) f.shown h))
