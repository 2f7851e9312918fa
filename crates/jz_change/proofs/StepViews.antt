-- The change that a list of steps stands for, step by step.
use Rattle.std.proofs.Common.{◌≡◌, ℕ, ◌+◌, ◌<◌, ◌≤◌, Bool, List, [], ◌∷◌, ◌++◌, map, refl, sym, ap, ◌∙◌, drop}
use Rattle.std.specs.Prelude.{length, slice_index_or}
use Rattle.std.proofs.lemmas.List.{drop_all, drop_more, drop-drop, map-append}
use Rattle.jz_change.specs.declared.change.Numbers.{Numbers}
use Rattle.jz_change.specs.declared.change.Change.{Change}
use Rattle.jz_change.specs.declared.change.Step.{Step}
use Rattle.jz_change.specs.declared.change.Step.TheVariants as step
use Rattle.jz_change.specs.declared.change.Step.TheOpen.{Step-F}
use Rattle.jz_change.specs.declared.change.Step.TheViews.{out-Step, roll-Step, roll-out-Step}
use Rattle.jz_change.specs.declared.change.Step.TheFolds.{fold-roll-Step, fold-roll-Change}
use Rattle.jz_change.specs.Changes as model
use Rattle.jz_change.specs.Composing.{all_by, behind, head_ops}
use Rattle.jz_change.specs.Views.{chain, changes_before, layer_change, steps_change, then_step, change_of, steps_of, changes_of}

-- what was added to nothing
pub begun : {A : Type 0} (new old xs : List A) → new ≡ old ++ xs → old ≡ [] → new ≡ xs
begun new old xs e f = e ∙ ap (λ v. v ++ xs) f

-- ---- one step before what follows

pub then_ops : (is : List Numbers) (r : model.Change) → then_step (step.Ops is) r ≡ model.ops is r
then_ops is r = ap (λ s. then_step s r) (sym (step.rolls-Ops is)) ∙ ap (λ k. k r) (fold-roll-Step _ _ layer_change steps_change (Step-F.Ops is))

pub then_if : (before : List Numbers) (test : Numbers) (x y : Change) (r : model.Change) → then_step (step.If before test x y) r ≡ model.stays_if before test (change_of x) (change_of y) r
then_if before test x y r = ap (λ s. then_step s r) (sym (step.rolls-If before test x y)) ∙ ap (λ k. k r) (fold-roll-Step _ _ layer_change steps_change (Step-F.If before test x y))

pub then_arm : (z : Bool) (before : List Numbers) (x : Change) (r : model.Change) → then_step (step.Arm z before x) r ≡ model.arm z before (change_of x) r
then_arm z before x r = ap (λ s. then_step s r) (sym (step.rolls-Arm z before x)) ∙ ap (λ k. k r) (fold-roll-Step _ _ layer_change steps_change (Step-F.Arm z before x))

pub then_while : (p : Change) (before : List Numbers) (test : Numbers) (y : Change) (r : model.Change) → then_step (step.While p before test y) r ≡ model.stays_while (change_of p) before test (change_of y) r
then_while p before test y r = ap (λ s. then_step s r) (sym (step.rolls-While p before test y)) ∙ ap (λ k. k r) (fold-roll-Step _ _ layer_change steps_change (Step-F.While p before test y))

pub then_once : (p : Change) (before : List Numbers) (r : model.Change) → then_step (step.Once p before) r ≡ model.once (change_of p) before r
then_once p before r = ap (λ s. then_step s r) (sym (step.rolls-Once p before)) ∙ ap (λ k. k r) (fold-roll-Step _ _ layer_change steps_change (Step-F.Once p before))

pub then_for : (y : Change) (r : model.Change) → then_step (step.For y) r ≡ model.stays_for (change_of y) r
then_for y r = ap (λ s. then_step s r) (sym (step.rolls-For y)) ∙ ap (λ k. k r) (fold-roll-Step _ _ layer_change steps_change (Step-F.For y))

pub then_unrolled : (ps : List Change) (r : model.Change) → then_step (step.Unrolled ps) r ≡ model.unrolled (changes_of ps) r
then_unrolled ps r = ap (λ s. then_step s r) (sym (step.rolls-Unrolled ps)) ∙ ap (λ k. k r) (fold-roll-Step _ _ layer_change steps_change (Step-F.Unrolled ps))

pub then_opened : (xs : List Numbers) (p : Change) (ys : List Numbers) (r : model.Change) → then_step (step.Opened xs p ys) r ≡ model.opened xs (change_of p) ys r
then_opened xs p ys r = ap (λ s. then_step s r) (sym (step.rolls-Opened xs p ys)) ∙ ap (λ k. k r) (fold-roll-Step _ _ layer_change steps_change (Step-F.Opened xs p ys))

-- ---- lists of steps

pub change_is : (a : Change) → change_of a ≡ steps_of a.steps
change_is a = fold-roll-Change _ _ layer_change steps_change (record { steps = a.steps })

pub chain_append : {A : Type 0} (fs gs : List (A → A)) (r : A) → chain (fs ++ gs) r ≡ chain fs (chain gs r)
chain_append [] gs r = refl
chain_append (f ∷ fs) gs r = ap f (chain_append fs gs r)

pub steps_append : (ss ts : List Step) (r : model.Change) → chain (map then_step (ss ++ ts)) r ≡ chain (map then_step ss) (chain (map then_step ts) r)
steps_append ss ts r = ap (λ fs. chain fs r) (map-append then_step ss ts) ∙ chain_append (map then_step ss) (map then_step ts) r

changes_on : (xs ys : List model.Change) (r : model.Changes) → changes_before (xs ++ ys) r ≡ changes_before xs (changes_before ys r)
changes_on [] ys r = refl
changes_on (x ∷ xs) ys r = ap (model.more x) (changes_on xs ys r)

pub changes_append : (cs ds : List Change) (r : model.Changes) → changes_before (map change_of (cs ++ ds)) r ≡ changes_before (map change_of cs) (changes_before (map change_of ds) r)
changes_append cs ds r = ap (λ x. changes_before x r) (map-append change_of cs ds) ∙ changes_on (map change_of cs) (map change_of ds) r

-- ---- the first step of a list

layer_behind : (v : Step-F Step Change) (r : model.Change) → behind (then_step (roll-Step v) r) ≡ r
layer_behind (Step-F.Ops is) r = ap (λ k. behind (k r)) (fold-roll-Step _ _ layer_change steps_change (Step-F.Ops is))
layer_behind (Step-F.If before test x y) r = ap (λ k. behind (k r)) (fold-roll-Step _ _ layer_change steps_change (Step-F.If before test x y))
layer_behind (Step-F.Arm z before x) r = ap (λ k. behind (k r)) (fold-roll-Step _ _ layer_change steps_change (Step-F.Arm z before x))
layer_behind (Step-F.While p before test y) r = ap (λ k. behind (k r)) (fold-roll-Step _ _ layer_change steps_change (Step-F.While p before test y))
layer_behind (Step-F.Once p before) r = ap (λ k. behind (k r)) (fold-roll-Step _ _ layer_change steps_change (Step-F.Once p before))
layer_behind (Step-F.For y) r = ap (λ k. behind (k r)) (fold-roll-Step _ _ layer_change steps_change (Step-F.For y))
layer_behind (Step-F.Unrolled ps) r = ap (λ k. behind (k r)) (fold-roll-Step _ _ layer_change steps_change (Step-F.Unrolled ps))
layer_behind (Step-F.Opened xs p ys) r = ap (λ k. behind (k r)) (fold-roll-Step _ _ layer_change steps_change (Step-F.Opened xs p ys))

pub behind_then : (s : Step) (r : model.Change) → behind (then_step s r) ≡ r
behind_then s r = ap (λ x. behind (then_step x r)) (sym (roll-out-Step s)) ∙ layer_behind (out-Step s) r

behind_is : (ss : List Step) → steps_of (drop 1 ss) ≡ behind (steps_of ss)
behind_is [] = refl
behind_is (s ∷ ss) = sym (behind_then s (steps_of ss))

-- the steps behind a place
pub behind_steps : (ss : List Step) (n : ℕ) → steps_of (drop (n + 1) ss) ≡ behind (steps_of (drop n ss))
behind_steps ss n = ap steps_of (sym (drop-drop 1 n ss)) ∙ behind_is (drop n ss)

-- the steps from a place on
pub steps_at : (ss : List Step) (i : ℕ) (s : Step) → i < length ss → s ≡ slice_index_or ss i s → steps_of (drop i ss) ≡ then_step s (steps_of (drop (i + 1) ss))
steps_at ss i s lt e = ap steps_of (drop_more ss i s lt) ∙ ap (λ x. then_step x (steps_of (drop (i + 1) ss))) (sym e)

pub no_steps : (ss : List Step) (i : ℕ) → length ss ≤ i → steps_of (drop i ss) ≡ model.ends
no_steps ss i le = ap steps_of (drop_all i ss le)

-- what it makes of an operation
abbrev pub head_layer : Numbers → Step-F Step Change → List Numbers
head_layer i (Step-F.Ops js) = all_by i js
head_layer i _ = []

layer_head : (i : Numbers) (v : Step-F Step Change) (r : model.Change) → head_ops i (then_step (roll-Step v) r) ≡ head_layer i v
layer_head i (Step-F.Ops is) r = ap (λ k. head_ops i (k r)) (fold-roll-Step _ _ layer_change steps_change (Step-F.Ops is))
layer_head i (Step-F.If before test x y) r = ap (λ k. head_ops i (k r)) (fold-roll-Step _ _ layer_change steps_change (Step-F.If before test x y))
layer_head i (Step-F.Arm z before x) r = ap (λ k. head_ops i (k r)) (fold-roll-Step _ _ layer_change steps_change (Step-F.Arm z before x))
layer_head i (Step-F.While p before test y) r = ap (λ k. head_ops i (k r)) (fold-roll-Step _ _ layer_change steps_change (Step-F.While p before test y))
layer_head i (Step-F.Once p before) r = ap (λ k. head_ops i (k r)) (fold-roll-Step _ _ layer_change steps_change (Step-F.Once p before))
layer_head i (Step-F.For y) r = ap (λ k. head_ops i (k r)) (fold-roll-Step _ _ layer_change steps_change (Step-F.For y))
layer_head i (Step-F.Unrolled ps) r = ap (λ k. head_ops i (k r)) (fold-roll-Step _ _ layer_change steps_change (Step-F.Unrolled ps))
layer_head i (Step-F.Opened xs p ys) r = ap (λ k. head_ops i (k r)) (fold-roll-Step _ _ layer_change steps_change (Step-F.Opened xs p ys))

pub head_then : (i : Numbers) (s : Step) (r : model.Change) → head_ops i (then_step s r) ≡ head_layer i (out-Step s)
head_then i s r = ap (λ x. head_ops i (then_step x r)) (sym (roll-out-Step s)) ∙ layer_head i (out-Step s) r
