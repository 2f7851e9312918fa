-- The rounds of a `for`, one after another.
use Rattle.std.proofs.Common.{◌≡◌, List, [], ◌∷◌, ◌++◌, map, refl, ap, sym, subst}
use Rattle.std.specs.Prelude.{ℤ, Some}
use Rattle.jz_tree.specs.declared.stmt.Stmt.{Stmt}
use Rattle.jz_integers.specs.Integers.{KnownNumbers}
use Rattle.jz_meaning.specs.Trees.{done, each}
use Rattle.jz_meaning.specs.Runs.{block}
use Rattle.jz_meaning.specs.Statements.{Counter, Block}
use Rattle.jz_change.specs.Changes as model
use Rattle.jz_change.specs.Views.{change_of, changes_before}
use Rattle.jz_change.specs.declared.change.Change.{Change}
use Rattle.jz_change.specs.declared.change.Step.{Step}
use Rattle.jz_change.specs.declared.change.Step.TheVariants as step
use Rattle.jz_change.proofs.StepViews.{then_unrolled, change_is}
use Rattle.jz_pass.specs.Unrolling.{Unrolls, u_for, UnrollsEach, u_none, u_more}
use Rattle.jz_unroll.specs.Values.{InlineNames}
use Rattle.jz_unroll.specs.Unrolling.{with_number, number_of, HasValues, unrolling}
use Rattle.jz_unrolling.specs.Steps.{no_callees, Becomes}
use Rattle.jz_unrolling.proofs.Becoming.{block_append, alone}

changes_more : (cs : List Change) (c : Change) (ts : model.Changes) → changes_before (map change_of (cs ++ c ∷ [])) ts ≡ changes_before (map change_of cs) (model.more (change_of c) ts)
changes_more [] c ts = refl
changes_more (d ∷ cs) c ts = ap (model.more (change_of d)) (changes_more cs c ts)

module _ (names : InlineNames) (f : Counter) (body : List Stmt) where
  abbrev B : Block
  B = block no_callees body done

  abbrev E : List ℤ → KnownNumbers → Block → Block → KnownNumbers → model.Changes → Type 0
  E is e rest u e2 ts = UnrollsEach (unrolling names) f B is e rest u e2 ts

  -- how far the rounds have come: with those that are left they are all
  abbrev pub RoundsSo : List ℤ → KnownNumbers → List ℤ → KnownNumbers → List Stmt → List Change → Type 0
  RoundsSo all start left now made changes =
      (rest u : Block) (e2 : KnownNumbers) (ts : model.Changes)
      → UnrollsEach (unrolling names) f (block no_callees body done) left now rest u e2 ts
      → UnrollsEach (unrolling names) f (block no_callees body done) all start rest (block no_callees made u) e2 (changes_before (map change_of changes) ts)

  pub no_rounds : (all : List ℤ) (e : KnownNumbers) → RoundsSo all e all e [] []
  no_rounds all e = λ rest u e2 ts h. h

  pub one_round : (all left : List ℤ) (i : ℤ) (start now next : KnownNumbers) (made m : List Stmt) (changes : List Change) (steps : List Step) → RoundsSo all start (i ∷ left) now made changes → Becomes names (block no_callees body) (with_number now f.counter (Some i)) m next steps
      → RoundsSo all start left next (made ++ m) (changes ++ record { steps = steps } ∷ [])
  one_round all left i start now next made m changes steps so b = λ rest u e2 ts h.
      let v = block no_callees m u in
      let one : UnrollsEach (unrolling names) f B (i ∷ left) now rest v e2 (model.more (change_of (record { steps = steps })) ts)
      = subst (λ k. UnrollsEach (unrolling names) f B (i ∷ left) now rest v e2 (model.more k ts)) (sym (change_is (record { steps = steps }))) (u_more (alone names (block no_callees body) (with_number now f.counter (Some i)) next m steps u b) h) in
      subst (λ x. E all start rest x e2 (changes_before (map change_of (changes ++ record { steps = steps } ∷ [])) ts)) (sym (block_append made m u))
      (subst (λ x. E all start rest (block no_callees made v) e2 x) (sym (changes_more changes (record { steps = steps }) ts)) (so rest v e2 (model.more (change_of (record { steps = steps })) ts) one))

  pub all_rounds : (all : List ℤ) (start now : KnownNumbers) (made : List Stmt) (changes : List Change) → HasValues names f start all → RoundsSo all start [] now made changes
      → Becomes names (each f (block no_callees body done)) start made (with_number now f.counter (number_of start f.counter)) (step.Unrolled changes ∷ [])
  all_rounds all start now made changes values so = λ t rest u e2 k h.
      subst (λ x. Unrolls (unrolling names) (each f B t) start rest (block no_callees made u) e2 x) (sym (then_unrolled changes k))
      (u_for values (so u u now model.none u_none) h)
