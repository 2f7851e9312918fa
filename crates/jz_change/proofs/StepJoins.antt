-- What each step makes of the steps of another change, and what the loops over steps keep.
use Rattle.std.proofs.Common.{◌≡◌, ℕ, ◌+◌, ◌<◌, ◌≤◌, Bool, true, false, if◌then◌else◌, List, [], ◌∷◌, ◌++◌, map, sym, ap, ◌∙◌, subst, drop}
use Rattle.std.specs.Prelude.{length, slice_index_or}
use Rattle.std.proofs.lemmas.List.{drop_all, drop_more}
use Rattle.jz_change.specs.declared.change.Numbers.{Numbers}
use Rattle.jz_change.specs.declared.change.Change.{Change}
use Rattle.jz_change.specs.declared.change.Step.{Step}
use Rattle.jz_change.specs.declared.change.Step.TheVariants as step
use Rattle.jz_change.specs.declared.change.Step.TheOpen.{Step-F}
use Rattle.jz_change.specs.declared.change.Step.TheViews.{out-Step, roll-Step, out-roll-Step, roll-out-Step}
use Rattle.jz_change.specs.declared.change.Step.TheFolds.{fold-roll-Step}
use Rattle.jz_change.specs.Changes as model
use Rattle.jz_change.specs.Composing.{numbers_by, all_by, behind, first_ops, JoinedChange, JoinedRounds, add_step, join_if, join_while, join_every, join_for, join_first, join, join_rounds}
use Rattle.jz_change.specs.Views.{changes_before, layer_change, steps_change, then_step, change_of, steps_of, changes_of}
use Rattle.jz_change.specs.InnerSteps.{GivesStep, joined_if, GivesIf, steps_and, steps_before, rounds_before}
use Rattle.jz_change.proofs.StepViews.{then_ops, then_if, then_arm, then_while, then_once, then_for, then_unrolled, then_opened, change_is, steps_append, changes_append, steps_at, begun}

abbrev pair : model.Change → model.Change → JoinedChange
pair c b = record { change = c; rest = b }

abbrev of_steps : List Step → Change
of_steps ss = record { steps = ss }

-- a step, and what follows
gives : {f : model.Change → model.Change} (c : Step) (r b2 : model.Change) → ((x : model.Change) → then_step c x ≡ f x) → add_step f (join r b2) ≡ add_step (then_step c) (join r b2)
gives c r b2 e = ap (λ x. pair x (join r b2).rest) (sym (e (join r b2).change))

pub ops_joins : (is : List Numbers) (b : model.Change) (items : List Numbers) (b2 : model.Change) → items ≡ (first_ops is b).items → (first_ops is b).rest ≡ b2 → GivesStep (step.Ops is) b (step.Ops items) b2
ops_joins is b items b2 e f r =
    ap (λ s. join s b) (then_ops is r)
    ∙ ap (λ x. add_step (model.ops x) (join r (first_ops is b).rest)) (sym e)
    ∙ ap (λ x. add_step (model.ops items) (join r x)) f
    ∙ gives (step.Ops items) r b2 (then_ops items)

pub arm_joins : (z : Bool) (before : List Numbers) (a : Change) (b : model.Change) (items : List Numbers) (b1 : model.Change) (ss : List Step) (b2 : model.Change)
    → items ≡ (first_ops before b).items → (first_ops before b).rest ≡ b1 → join (change_of a) b1 ≡ steps_and ss b2 → GivesStep (step.Arm z before a) b (step.Arm z items (of_steps ss)) b2
arm_joins z before a b items b1 ss b2 e f g r =
    ap (λ s. join s b) (then_arm z before a r)
    ∙ ap (λ x. add_step (model.arm z x (join (change_of a) (first_ops before b).rest).change) (join r (join (change_of a) (first_ops before b).rest).rest)) (sym e)
    ∙ ap (λ x. add_step (model.arm z items (join (change_of a) x).change) (join r (join (change_of a) x).rest)) f
    ∙ ap (λ (x : JoinedChange). add_step (model.arm z items x.change) (join r x.rest)) g
    ∙ ap (λ x. add_step (model.arm z items x) (join r b2)) (sym (change_is (of_steps ss)))
    ∙ gives (step.Arm z items (of_steps ss)) r b2 (then_arm z items (of_steps ss))

pub once_joins : (p : Change) (before : List Numbers) (b : model.Change) (ss : List Step) (b1 : model.Change) (items : List Numbers) (b2 : model.Change)
    → join (change_of p) b ≡ steps_and ss b1 → items ≡ (first_ops before b1).items → (first_ops before b1).rest ≡ b2 → GivesStep (step.Once p before) b (step.Once (of_steps ss) items) b2
once_joins p before b ss b1 items b2 g e f r =
    ap (λ s. join s b) (then_once p before r)
    ∙ ap (λ (x : JoinedChange). add_step (model.once x.change (first_ops before x.rest).items) (join r (first_ops before x.rest).rest)) g
    ∙ ap (λ x. add_step (model.once (steps_of ss) x) (join r (first_ops before b1).rest)) (sym e)
    ∙ ap (λ x. add_step (model.once (steps_of ss) items) (join r x)) f
    ∙ ap (λ x. add_step (model.once x items) (join r b2)) (sym (change_is (of_steps ss)))
    ∙ gives (step.Once (of_steps ss) items) r b2 (then_once (of_steps ss) items)

pub unrolled_joins : (ps : List Change) (b : model.Change) (qs : List Change) (b2 : model.Change) → changes_of qs ≡ (join_rounds (changes_of ps) b).changes → b2 ≡ (join_rounds (changes_of ps) b).rest → GivesStep (step.Unrolled ps) b (step.Unrolled qs) b2
unrolled_joins ps b qs b2 e f r =
    ap (λ s. join s b) (then_unrolled ps r)
    ∙ ap (λ x. add_step (model.unrolled x) (join r (join_rounds (changes_of ps) b).rest)) (sym e)
    ∙ ap (λ x. add_step (model.unrolled (changes_of qs)) (join r x)) (sym f)
    ∙ gives (step.Unrolled qs) r b2 (then_unrolled qs)

pub opened_joins : (xs : List Numbers) (p : Change) (ys : List Numbers) (b : model.Change) (first : List Numbers) (b1 : model.Change) (ss : List Step) (b3 : model.Change) (last : List Numbers) (b2 : model.Change)
    → first ≡ (first_ops xs b).items → (first_ops xs b).rest ≡ b1 → join (change_of p) b1 ≡ steps_and ss b3 → last ≡ (first_ops ys b3).items → (first_ops ys b3).rest ≡ b2
    → GivesStep (step.Opened xs p ys) b (step.Opened first (of_steps ss) last) b2
opened_joins xs p ys b first b1 ss b3 last b2 e f g h i r =
    ap (λ s. join s b) (then_opened xs p ys r)
    ∙ ap (λ o. let m = join (change_of p) (first_ops xs b).rest in add_step (model.opened o m.change (first_ops ys m.rest).items) (join r (first_ops ys m.rest).rest)) (sym e)
    ∙ ap (λ o. let m = join (change_of p) o in add_step (model.opened first m.change (first_ops ys m.rest).items) (join r (first_ops ys m.rest).rest)) f
    ∙ ap (λ (m : JoinedChange). add_step (model.opened first m.change (first_ops ys m.rest).items) (join r (first_ops ys m.rest).rest)) g
    ∙ ap (λ o. add_step (model.opened first (steps_of ss) o) (join r (first_ops ys b3).rest)) (sym h)
    ∙ ap (λ o. add_step (model.opened first (steps_of ss) last) (join r o)) i
    ∙ ap (λ o. add_step (model.opened first o last) (join r b2)) (sym (change_is (of_steps ss)))
    ∙ gives (step.Opened first (of_steps ss) last) r b2 (then_opened first (of_steps ss) last)

-- ---- an `if` that stays

-- by the first step behind the operations
if_by : (before : List Numbers) (test : Numbers) (x y : Change) (b : model.Change) (items : List Numbers) (b1 : model.Change) (c : Step) (b2 : model.Change)
    → items ≡ (first_ops before b).items → (first_ops before b).rest ≡ b1 → ((r : model.Change) → then_step c r ≡ join_if items test (join (change_of x)) (join (change_of y)) b1 r) → b2 ≡ behind b1 → GivesStep (step.If before test x y) b c b2
if_by before test x y b items b1 c b2 e f g h r =
    ap (λ s. join s b) (then_if before test x y r)
    ∙ ap (λ o. join_first (join r) (join_if o test (join (change_of x)) (join (change_of y))) (first_ops before b).rest) (sym e)
    ∙ ap (λ o. join_first (join r) (join_if items test (join (change_of x)) (join (change_of y))) o) f
    ∙ ap (λ o. pair o (join r (behind b1)).rest) (sym (g (join r (behind b1)).change))
    ∙ ap (λ o. add_step (then_step c) (join r o)) (sym h)

-- its layer
if_layer : (s : Step) (before : List Numbers) (test : Numbers) (x y : Change) → s ≡ step.If before test x y → out-Step s ≡ Step-F.If before test x y
if_layer s before test x y e = ap out-Step (e ∙ sym (step.rolls-If before test x y)) ∙ out-roll-Step (Step-F.If before test x y)

-- both keep it
pub if_if_given : (s second : Step) (before : List Numbers) (test : Numbers) (x y : Change) (items before2 : List Numbers) (test2 : Numbers) (x2 y2 : Change) (items2 : List Numbers) (n : Numbers) (t e : Change) (xs ys : List Step)
    → s ≡ step.If before test x y → second ≡ step.If before2 test2 x2 y2 → items2 ≡ items ++ all_by test before2 → n ≡ numbers_by test test2
    → xs ≡ x2.steps → change_of t ≡ (join (change_of x) (steps_of xs)).change → ys ≡ y2.steps → change_of e ≡ (join (change_of y) (steps_of ys)).change → GivesIf s items second (step.If items2 n t e)
if_if_given s second before test x y items before2 test2 x2 y2 items2 n t e xs ys k k2 h5 h6 i h7 j h8 = λ b3 r.
    then_if items2 n t e r
    ∙ ap (λ o. model.stays_if o n (change_of t) (change_of e) r) h5
    ∙ ap (λ o. model.stays_if (items ++ all_by test before2) o (change_of t) (change_of e) r) h6
    ∙ ap (λ o. model.stays_if (items ++ all_by test before2) (numbers_by test test2) o (change_of e) r) (h7 ∙ ap (λ o. (join (change_of x) o).change) (ap steps_of i ∙ sym (change_is x2)))
    ∙ ap (λ o. model.stays_if (items ++ all_by test before2) (numbers_by test test2) (join (change_of x) (change_of x2)).change o r) (h8 ∙ ap (λ o. (join (change_of y) o).change) (ap steps_of j ∙ sym (change_is y2)))
    ∙ ap (λ o. join_if items test (join (change_of x)) (join (change_of y)) o r) (sym (ap (λ v. then_step v b3) k2 ∙ then_if before2 test2 x2 y2 b3))
    ∙ ap (λ l. joined_if l items (then_step second b3) r) (sym (if_layer s before test x y k))

pub if_arm_joins : (before : List Numbers) (test : Numbers) (x y : Change) (b : model.Change) (items : List Numbers) (b1 : model.Change) (second : Step) (z : Bool) (before2 : List Numbers) (p2 : Change) (b3 : model.Change)
    (items2 : List Numbers) (t : Change) (b2 : model.Change) → items ≡ (first_ops before b).items → (first_ops before b).rest ≡ b1 → b1 ≡ then_step second b3 → second ≡ step.Arm z before2 p2
    → items2 ≡ items ++ all_by test before2 → change_of t ≡ ((if z then join (change_of x) else join (change_of y)) (steps_of p2.steps)).change → b2 ≡ behind b1
    → GivesStep (step.If before test x y) b (step.Arm z items2 t) b2
if_arm_joins before test x y b items b1 second z before2 p2 b3 items2 t b2 h1 h2 h3 h4 h5 h6 h7 =
    if_by before test x y b items b1 (step.Arm z items2 t) b2 h1 h2
    (λ r. then_arm z items2 t r
    ∙ ap (λ o. model.arm z o (change_of t) r) h5
    ∙ ap (λ o. model.arm z (items ++ all_by test before2) o r) (h6 ∙ ap (λ o. ((if z then join (change_of x) else join (change_of y)) o).change) (sym (change_is p2)))
    ∙ ap (λ o. join_if items test (join (change_of x)) (join (change_of y)) o r) (sym (h3 ∙ ap (λ s. then_step s b3) h4 ∙ then_arm z before2 p2 b3)))
    h7

-- the steps that an `if` may become
abbrev pub is_if : Step-F Step Change → Bool
is_if (Step-F.If before test x y) = true
is_if (Step-F.Arm z before x) = true
is_if _ = false

layer_no_if : (items : List Numbers) (test : Numbers) (a b : model.Change → JoinedChange) (v : Step-F Step Change) (r s : model.Change) → is_if v ≡ false → join_if items test a b (then_step (roll-Step v) r) s ≡ model.ops [] s
layer_no_if items test a b (Step-F.Ops is) r s h = ap (λ k. join_if items test a b (k r) s) (fold-roll-Step _ _ layer_change steps_change (Step-F.Ops is))
layer_no_if items test a b (Step-F.If before n x y) r s h = absurd cc
layer_no_if items test a b (Step-F.Arm z before x) r s h = absurd cc
layer_no_if items test a b (Step-F.While p before n y) r s h = ap (λ k. join_if items test a b (k r) s) (fold-roll-Step _ _ layer_change steps_change (Step-F.While p before n y))
layer_no_if items test a b (Step-F.Once p before) r s h = ap (λ k. join_if items test a b (k r) s) (fold-roll-Step _ _ layer_change steps_change (Step-F.Once p before))
layer_no_if items test a b (Step-F.For y) r s h = ap (λ k. join_if items test a b (k r) s) (fold-roll-Step _ _ layer_change steps_change (Step-F.For y))
layer_no_if items test a b (Step-F.Unrolled ps) r s h = ap (λ k. join_if items test a b (k r) s) (fold-roll-Step _ _ layer_change steps_change (Step-F.Unrolled ps))
layer_no_if items test a b (Step-F.Opened xs p ys) r s h = ap (λ k. join_if items test a b (k r) s) (fold-roll-Step _ _ layer_change steps_change (Step-F.Opened xs p ys))

pub if_none_joins : (before : List Numbers) (test : Numbers) (x y : Change) (b : model.Change) (items : List Numbers) (b1 : model.Change) (c : Step) (b2 : model.Change)
    → items ≡ (first_ops before b).items → (first_ops before b).rest ≡ b1 → b1 ≡ model.ends → c ≡ step.Ops [] → b2 ≡ behind b1 → GivesStep (step.If before test x y) b c b2
if_none_joins before test x y b items b1 c b2 e f g i h =
    if_by before test x y b items b1 c b2 e f (λ r. ap (λ s. then_step s r) i ∙ then_ops [] r ∙ ap (λ o. join_if items test (join (change_of x)) (join (change_of y)) o r) (sym g)) h

pub if_other_joins : (before : List Numbers) (test : Numbers) (x y : Change) (b : model.Change) (items : List Numbers) (b1 : model.Change) (second : Step) (b3 : model.Change) (c : Step) (b2 : model.Change)
    → items ≡ (first_ops before b).items → (first_ops before b).rest ≡ b1 → b1 ≡ then_step second b3 → is_if (out-Step second) ≡ false → c ≡ step.Ops [] → b2 ≡ behind b1 → GivesStep (step.If before test x y) b c b2
if_other_joins before test x y b items b1 second b3 c b2 e f g k i h =
    if_by before test x y b items b1 c b2 e f
    (λ r. ap (λ s. then_step s r) i ∙ then_ops [] r
    ∙ sym (ap (λ o. join_if items test (join (change_of x)) (join (change_of y)) o r) (g ∙ ap (λ s. then_step s b3) (sym (roll-out-Step second))) ∙ layer_no_if items test (join (change_of x)) (join (change_of y)) (out-Step second) b3 r k))
    h

-- ---- a `while` that stays

while_by : (p : Change) (before : List Numbers) (test : Numbers) (y : Change) (b : model.Change) (c : Step) (b2 : model.Change)
    → ((r : model.Change) → then_step c r ≡ join_while before test (join (change_of p)) (join (change_of y)) b r) → b2 ≡ behind b → GivesStep (step.While p before test y) b c b2
while_by p before test y b c b2 g h r =
    ap (λ s. join s b) (then_while p before test y r)
    ∙ ap (λ o. pair o (join r (behind b)).rest) (sym (g (join r (behind b)).change))
    ∙ ap (λ o. add_step (then_step c) (join r o)) (sym h)

pub while_while_joins : (p : Change) (before : List Numbers) (test : Numbers) (y : Change) (b : model.Change) (second : Step) (p2 : Change) (before2 : List Numbers) (test2 : Numbers) (y2 : Change) (b3 : model.Change)
    (ss : List Step) (b4 : model.Change) (items2 : List Numbers) (n : Numbers) (t : Change) (b2 : model.Change) → b ≡ then_step second b3 → second ≡ step.While p2 before2 test2 y2
    → join (change_of p) (steps_of p2.steps) ≡ steps_and ss b4 → items2 ≡ (first_ops before b4).items ++ all_by test before2 → n ≡ numbers_by test test2 → change_of t ≡ (join (change_of y) (steps_of y2.steps)).change → b2 ≡ behind b
    → GivesStep (step.While p before test y) b (step.While (of_steps ss) items2 n t) b2
while_while_joins p before test y b second p2 before2 test2 y2 b3 ss b4 items2 n t b2 h1 h2 h3 h5 h6 h7 h8 =
    while_by p before test y b (step.While (of_steps ss) items2 n t) b2
    (λ r. then_while (of_steps ss) items2 n t r
    ∙ ap (λ o. model.stays_while o items2 n (change_of t) r) (change_is (of_steps ss))
    ∙ ap (λ o. model.stays_while (steps_of ss) o n (change_of t) r) h5
    ∙ ap (λ o. model.stays_while (steps_of ss) ((first_ops before b4).items ++ all_by test before2) o (change_of t) r) h6
    ∙ ap (λ o. model.stays_while (steps_of ss) ((first_ops before b4).items ++ all_by test before2) (numbers_by test test2) o r) (h7 ∙ ap (λ o. (join (change_of y) o).change) (sym (change_is y2)))
    ∙ ap (λ (o : JoinedChange). model.stays_while o.change ((first_ops before o.rest).items ++ all_by test before2) (numbers_by test test2) (join (change_of y) (change_of y2)).change r) (sym (ap (join (change_of p)) (change_is p2) ∙ h3))
    ∙ ap (λ o. join_while before test (join (change_of p)) (join (change_of y)) o r) (sym (h1 ∙ ap (λ s. then_step s b3) h2 ∙ then_while p2 before2 test2 y2 b3)))
    h8

pub while_once_joins : (p : Change) (before : List Numbers) (test : Numbers) (y : Change) (b : model.Change) (second : Step) (p2 : Change) (before2 : List Numbers) (b3 : model.Change)
    (ss : List Step) (b4 : model.Change) (items2 : List Numbers) (b2 : model.Change) → b ≡ then_step second b3 → second ≡ step.Once p2 before2
    → join (change_of p) (steps_of p2.steps) ≡ steps_and ss b4 → items2 ≡ (first_ops before b4).items ++ all_by test before2 → b2 ≡ behind b
    → GivesStep (step.While p before test y) b (step.Once (of_steps ss) items2) b2
while_once_joins p before test y b second p2 before2 b3 ss b4 items2 b2 h1 h2 h3 h5 h6 =
    while_by p before test y b (step.Once (of_steps ss) items2) b2
    (λ r. then_once (of_steps ss) items2 r
    ∙ ap (λ o. model.once o items2 r) (change_is (of_steps ss))
    ∙ ap (λ o. model.once (steps_of ss) o r) h5
    ∙ ap (λ (o : JoinedChange). model.once o.change ((first_ops before o.rest).items ++ all_by test before2) r) (sym (ap (join (change_of p)) (change_is p2) ∙ h3))
    ∙ ap (λ o. join_while before test (join (change_of p)) (join (change_of y)) o r) (sym (h1 ∙ ap (λ s. then_step s b3) h2 ∙ then_once p2 before2 b3)))
    h6

-- the steps that a `while` may become
abbrev pub is_while : Step-F Step Change → Bool
is_while (Step-F.While p before test y) = true
is_while (Step-F.Once p before) = true
is_while _ = false

layer_no_while : (pre : List Numbers) (test : Numbers) (a b : model.Change → JoinedChange) (v : Step-F Step Change) (r s : model.Change) → is_while v ≡ false → join_while pre test a b (then_step (roll-Step v) r) s ≡ model.ops [] s
layer_no_while pre test a b (Step-F.Ops is) r s h = ap (λ k. join_while pre test a b (k r) s) (fold-roll-Step _ _ layer_change steps_change (Step-F.Ops is))
layer_no_while pre test a b (Step-F.If before n x y) r s h = ap (λ k. join_while pre test a b (k r) s) (fold-roll-Step _ _ layer_change steps_change (Step-F.If before n x y))
layer_no_while pre test a b (Step-F.Arm z before x) r s h = ap (λ k. join_while pre test a b (k r) s) (fold-roll-Step _ _ layer_change steps_change (Step-F.Arm z before x))
layer_no_while pre test a b (Step-F.While p before n y) r s h = absurd cc
layer_no_while pre test a b (Step-F.Once p before) r s h = absurd cc
layer_no_while pre test a b (Step-F.For y) r s h = ap (λ k. join_while pre test a b (k r) s) (fold-roll-Step _ _ layer_change steps_change (Step-F.For y))
layer_no_while pre test a b (Step-F.Unrolled ps) r s h = ap (λ k. join_while pre test a b (k r) s) (fold-roll-Step _ _ layer_change steps_change (Step-F.Unrolled ps))
layer_no_while pre test a b (Step-F.Opened xs p ys) r s h = ap (λ k. join_while pre test a b (k r) s) (fold-roll-Step _ _ layer_change steps_change (Step-F.Opened xs p ys))

pub while_none_joins : (p : Change) (before : List Numbers) (test : Numbers) (y : Change) (b : model.Change) (c : Step) (b2 : model.Change) → b ≡ model.ends → c ≡ step.Ops [] → b2 ≡ behind b → GivesStep (step.While p before test y) b c b2
while_none_joins p before test y b c b2 g i h =
    while_by p before test y b c b2 (λ r. ap (λ s. then_step s r) i ∙ then_ops [] r ∙ ap (λ o. join_while before test (join (change_of p)) (join (change_of y)) o r) (sym g)) h

pub while_other_joins : (p : Change) (before : List Numbers) (test : Numbers) (y : Change) (b : model.Change) (second : Step) (b3 : model.Change) (c : Step) (b2 : model.Change)
    → b ≡ then_step second b3 → is_while (out-Step second) ≡ false → c ≡ step.Ops [] → b2 ≡ behind b → GivesStep (step.While p before test y) b c b2
while_other_joins p before test y b second b3 c b2 g k i h =
    while_by p before test y b c b2
    (λ r. ap (λ s. then_step s r) i ∙ then_ops [] r
    ∙ sym (ap (λ o. join_while before test (join (change_of p)) (join (change_of y)) o r) (g ∙ ap (λ s. then_step s b3) (sym (roll-out-Step second))) ∙ layer_no_while before test (join (change_of p)) (join (change_of y)) (out-Step second) b3 r k))
    h

-- ---- a `for` that stays

for_by : (y : Change) (b : model.Change) (c : Step) (b2 : model.Change) → ((r : model.Change) → then_step c r ≡ join_for (join (change_of y)) b r) → b2 ≡ behind b → GivesStep (step.For y) b c b2
for_by y b c b2 g h r =
    ap (λ s. join s b) (then_for y r)
    ∙ ap (λ o. pair o (join r (behind b)).rest) (sym (g (join r (behind b)).change))
    ∙ ap (λ o. add_step (then_step c) (join r o)) (sym h)

pub for_for_joins : (y : Change) (b : model.Change) (second : Step) (y2 : Change) (b3 : model.Change) (t : Change) (b2 : model.Change) → b ≡ then_step second b3 → second ≡ step.For y2
    → change_of t ≡ (join (change_of y) (steps_of y2.steps)).change → b2 ≡ behind b → GivesStep (step.For y) b (step.For t) b2
for_for_joins y b second y2 b3 t b2 h1 h2 h3 h4 =
    for_by y b (step.For t) b2
    (λ r. then_for t r
    ∙ ap (λ o. model.stays_for o r) (h3 ∙ ap (λ o. (join (change_of y) o).change) (sym (change_is y2)))
    ∙ ap (λ o. join_for (join (change_of y)) o r) (sym (h1 ∙ ap (λ s. then_step s b3) h2 ∙ then_for y2 b3)))
    h4

pub for_unrolled_joins : (y : Change) (b : model.Change) (second : Step) (ps : List Change) (b3 : model.Change) (qs : List Change) (b2 : model.Change) → b ≡ then_step second b3 → second ≡ step.Unrolled ps
    → changes_of qs ≡ join_every (join (change_of y)) (changes_of ps) → b2 ≡ behind b → GivesStep (step.For y) b (step.Unrolled qs) b2
for_unrolled_joins y b second ps b3 qs b2 h1 h2 h3 h4 =
    for_by y b (step.Unrolled qs) b2
    (λ r. then_unrolled qs r
    ∙ ap (λ o. model.unrolled o r) h3
    ∙ ap (λ o. join_for (join (change_of y)) o r) (sym (h1 ∙ ap (λ s. then_step s b3) h2 ∙ then_unrolled ps b3)))
    h4

-- the steps that a `for` may become
abbrev pub is_for : Step-F Step Change → Bool
is_for (Step-F.For y) = true
is_for (Step-F.Unrolled ps) = true
is_for _ = false

layer_no_for : (a : model.Change → JoinedChange) (v : Step-F Step Change) (r s : model.Change) → is_for v ≡ false → join_for a (then_step (roll-Step v) r) s ≡ model.ops [] s
layer_no_for a (Step-F.Ops is) r s h = ap (λ k. join_for a (k r) s) (fold-roll-Step _ _ layer_change steps_change (Step-F.Ops is))
layer_no_for a (Step-F.If before n x y) r s h = ap (λ k. join_for a (k r) s) (fold-roll-Step _ _ layer_change steps_change (Step-F.If before n x y))
layer_no_for a (Step-F.Arm z before x) r s h = ap (λ k. join_for a (k r) s) (fold-roll-Step _ _ layer_change steps_change (Step-F.Arm z before x))
layer_no_for a (Step-F.While p before n y) r s h = ap (λ k. join_for a (k r) s) (fold-roll-Step _ _ layer_change steps_change (Step-F.While p before n y))
layer_no_for a (Step-F.Once p before) r s h = ap (λ k. join_for a (k r) s) (fold-roll-Step _ _ layer_change steps_change (Step-F.Once p before))
layer_no_for a (Step-F.For y) r s h = absurd cc
layer_no_for a (Step-F.Unrolled ps) r s h = absurd cc
layer_no_for a (Step-F.Opened xs p ys) r s h = ap (λ k. join_for a (k r) s) (fold-roll-Step _ _ layer_change steps_change (Step-F.Opened xs p ys))

pub for_none_joins : (y : Change) (b : model.Change) (c : Step) (b2 : model.Change) → b ≡ model.ends → c ≡ step.Ops [] → b2 ≡ behind b → GivesStep (step.For y) b c b2
for_none_joins y b c b2 g i h = for_by y b c b2 (λ r. ap (λ s. then_step s r) i ∙ then_ops [] r ∙ ap (λ o. join_for (join (change_of y)) o r) (sym g)) h

pub for_other_joins : (y : Change) (b : model.Change) (second : Step) (b3 : model.Change) (c : Step) (b2 : model.Change) → b ≡ then_step second b3 → is_for (out-Step second) ≡ false → c ≡ step.Ops [] → b2 ≡ behind b → GivesStep (step.For y) b c b2
for_other_joins y b second b3 c b2 g k i h =
    for_by y b c b2
    (λ r. ap (λ s. then_step s r) i ∙ then_ops [] r
    ∙ sym (ap (λ o. join_for (join (change_of y)) o r) (g ∙ ap (λ s. then_step s b3) (sym (roll-out-Step second))) ∙ layer_no_for (join (change_of y)) (out-Step second) b3 r k))
    h

-- ---- which step it is

pub joins_at : (s t : Step) (b : model.Change) (c : Step) (b2 : model.Change) → s ≡ t → GivesStep t b c b2 → GivesStep s b c b2
joins_at s t b c b2 e g r = ap (λ x. join (then_step x r) b) e ∙ g r

-- ---- steps and the first step of the other change, at places in a list

pub if_given_at : (s : Step) (before : List Numbers) (test : Numbers) (x y : Change) (steps : List Step) (at to next : ℕ) (items old : List Numbers) (second c : Step)
    → s ≡ step.If before test x y → items ≡ old ++ (first_ops before (steps_of (drop at steps))).items → old ≡ [] → (first_ops before (steps_of (drop at steps))).rest ≡ steps_of (drop to steps)
    → to < length steps → second ≡ slice_index_or steps to second → GivesIf s items second c → steps_of (drop next steps) ≡ behind (steps_of (drop to steps))
    → GivesStep s (steps_of (drop at steps)) c (steps_of (drop next steps))
if_given_at s before test x y steps at to next items old second c e f g h lt is k o =
    let b = steps_of (drop at steps) in let b2 = steps_of (drop next steps) in let b3 = steps_of (drop (to + 1) steps) in
    joins_at s (step.If before test x y) b c b2 e
    (if_by before test x y b items (steps_of (drop to steps)) c b2 (begun items old (first_ops before b).items f g) h
    (λ r. k b3 r
    ∙ ap (λ l. joined_if l items (then_step second b3) r) (if_layer s before test x y e)
    ∙ ap (λ v. join_if items test (join (change_of x)) (join (change_of y)) v r) (sym (steps_at steps to second lt is)))
    o)

pub if_arm_at : (s : Step) (before : List Numbers) (test : Numbers) (x y : Change) (steps : List Step) (at to next : ℕ) (items old items2 : List Numbers) (second : Step) (z : Bool) (before2 : List Numbers) (p2 t : Change) (c : Step)
    → s ≡ step.If before test x y → items ≡ old ++ (first_ops before (steps_of (drop at steps))).items → old ≡ [] → (first_ops before (steps_of (drop at steps))).rest ≡ steps_of (drop to steps)
    → to < length steps → second ≡ slice_index_or steps to second → second ≡ step.Arm z before2 p2 → items2 ≡ items ++ all_by test before2
    → change_of t ≡ ((if z then join (change_of x) else join (change_of y)) (steps_of p2.steps)).change → c ≡ step.Arm z items2 t → steps_of (drop next steps) ≡ behind (steps_of (drop to steps))
    → GivesStep s (steps_of (drop at steps)) c (steps_of (drop next steps))
if_arm_at s before test x y steps at to next items old items2 second z before2 p2 t c e f g h lt is k l m n o =
    let b = steps_of (drop at steps) in let b2 = steps_of (drop next steps) in
    joins_at s (step.If before test x y) b c b2 e
    (subst (λ v. GivesStep (step.If before test x y) b v b2) (sym n)
    (if_arm_joins before test x y b items (steps_of (drop to steps)) second z before2 p2 (steps_of (drop (to + 1) steps)) items2 t b2 (begun items old (first_ops before b).items f g) h (steps_at steps to second lt is) k l m o))

pub if_true_at : (s : Step) (before : List Numbers) (test : Numbers) (x y : Change) (steps : List Step) (at to next : ℕ) (items old items2 : List Numbers) (second : Step) (z : Bool) (before2 : List Numbers) (p2 t : Change) (ss : List Step) (c : Step)
    → s ≡ step.If before test x y → items ≡ old ++ (first_ops before (steps_of (drop at steps))).items → old ≡ [] → (first_ops before (steps_of (drop at steps))).rest ≡ steps_of (drop to steps)
    → to < length steps → second ≡ slice_index_or steps to second → second ≡ step.Arm z before2 p2 → items2 ≡ items ++ all_by test before2
    → z ≡ true → ss ≡ p2.steps → change_of t ≡ (join (change_of x) (steps_of ss)).change → c ≡ step.Arm true items2 t → steps_of (drop next steps) ≡ behind (steps_of (drop to steps))
    → GivesStep s (steps_of (drop at steps)) c (steps_of (drop next steps))
if_true_at s before test x y steps at to next items old items2 second z before2 p2 t ss c e f g h lt is k l w q m n o =
    if_arm_at s before test x y steps at to next items old items2 second true before2 p2 t c e f g h lt is (k ∙ ap (λ v. step.Arm v before2 p2) w) l (m ∙ ap (λ v. (join (change_of x) (steps_of v)).change) q) n o

pub if_false_at : (s : Step) (before : List Numbers) (test : Numbers) (x y : Change) (steps : List Step) (at to next : ℕ) (items old items2 : List Numbers) (second : Step) (z : Bool) (before2 : List Numbers) (p2 t : Change) (ss : List Step) (c : Step)
    → s ≡ step.If before test x y → items ≡ old ++ (first_ops before (steps_of (drop at steps))).items → old ≡ [] → (first_ops before (steps_of (drop at steps))).rest ≡ steps_of (drop to steps)
    → to < length steps → second ≡ slice_index_or steps to second → second ≡ step.Arm z before2 p2 → items2 ≡ items ++ all_by test before2
    → z ≡ false → ss ≡ p2.steps → change_of t ≡ (join (change_of y) (steps_of ss)).change → c ≡ step.Arm false items2 t → steps_of (drop next steps) ≡ behind (steps_of (drop to steps))
    → GivesStep s (steps_of (drop at steps)) c (steps_of (drop next steps))
if_false_at s before test x y steps at to next items old items2 second z before2 p2 t ss c e f g h lt is k l w q m n o =
    if_arm_at s before test x y steps at to next items old items2 second false before2 p2 t c e f g h lt is (k ∙ ap (λ v. step.Arm v before2 p2) w) l (m ∙ ap (λ v. (join (change_of y) (steps_of v)).change) q) n o

pub if_other_at : (s : Step) (before : List Numbers) (test : Numbers) (x y : Change) (steps : List Step) (at to next : ℕ) (items old : List Numbers) (second c : Step)
    → s ≡ step.If before test x y → items ≡ old ++ (first_ops before (steps_of (drop at steps))).items → old ≡ [] → (first_ops before (steps_of (drop at steps))).rest ≡ steps_of (drop to steps)
    → to < length steps → second ≡ slice_index_or steps to second → is_if (out-Step second) ≡ false → c ≡ step.Ops [] → steps_of (drop next steps) ≡ behind (steps_of (drop to steps))
    → GivesStep s (steps_of (drop at steps)) c (steps_of (drop next steps))
if_other_at s before test x y steps at to next items old second c e f g h lt is k l o =
    let b = steps_of (drop at steps) in let b2 = steps_of (drop next steps) in
    joins_at s (step.If before test x y) b c b2 e
    (if_other_joins before test x y b items (steps_of (drop to steps)) second (steps_of (drop (to + 1) steps)) c b2 (begun items old (first_ops before b).items f g) h (steps_at steps to second lt is) k l o)

pub while_while_at : (s : Step) (p : Change) (before : List Numbers) (test : Numbers) (y : Change) (steps : List Step) (at next : ℕ) (second : Step) (p2 : Change) (before2 : List Numbers) (test2 : Numbers) (y2 : Change)
    (inner ss : List Step) (behind_it : ℕ) (items2 : List Numbers) (n : Numbers) (t : Change) (more : List Step) (c : Step) → s ≡ step.While p before test y → at < length steps → second ≡ slice_index_or steps at second → second ≡ step.While p2 before2 test2 y2
    → inner ≡ p2.steps → join (change_of p) (steps_of inner) ≡ steps_and ss (steps_of (drop behind_it inner)) → items2 ≡ (first_ops before (steps_of (drop behind_it inner))).items ++ all_by test before2 → n ≡ numbers_by test test2
    → more ≡ y2.steps → change_of t ≡ (join (change_of y) (steps_of more)).change → c ≡ step.While (of_steps ss) items2 n t → steps_of (drop next steps) ≡ behind (steps_of (drop at steps))
    → GivesStep s (steps_of (drop at steps)) c (steps_of (drop next steps))
while_while_at s p before test y steps at next second p2 before2 test2 y2 inner ss behind_it items2 n t more c e lt is k i g h j q m w o =
    let b = steps_of (drop at steps) in let b2 = steps_of (drop next steps) in
    joins_at s (step.While p before test y) b c b2 e
    (subst (λ v. GivesStep (step.While p before test y) b v b2) (sym w)
    (while_while_joins p before test y b second p2 before2 test2 y2 (steps_of (drop (at + 1) steps)) ss (steps_of (drop behind_it inner)) items2 n t b2 (steps_at steps at second lt is) k
    (ap (λ v. join (change_of p) (steps_of v)) (sym i) ∙ g) h j (m ∙ ap (λ v. (join (change_of y) (steps_of v)).change) q) o))

pub while_once_at : (s : Step) (p : Change) (before : List Numbers) (test : Numbers) (y : Change) (steps : List Step) (at next : ℕ) (second : Step) (p2 : Change) (before2 : List Numbers)
    (inner ss : List Step) (behind_it : ℕ) (items2 : List Numbers) (c : Step) → s ≡ step.While p before test y → at < length steps → second ≡ slice_index_or steps at second → second ≡ step.Once p2 before2
    → inner ≡ p2.steps → join (change_of p) (steps_of inner) ≡ steps_and ss (steps_of (drop behind_it inner)) → items2 ≡ (first_ops before (steps_of (drop behind_it inner))).items ++ all_by test before2
    → c ≡ step.Once (of_steps ss) items2 → steps_of (drop next steps) ≡ behind (steps_of (drop at steps))
    → GivesStep s (steps_of (drop at steps)) c (steps_of (drop next steps))
while_once_at s p before test y steps at next second p2 before2 inner ss behind_it items2 c e lt is k i g h w o =
    let b = steps_of (drop at steps) in let b2 = steps_of (drop next steps) in
    joins_at s (step.While p before test y) b c b2 e
    (subst (λ v. GivesStep (step.While p before test y) b v b2) (sym w)
    (while_once_joins p before test y b second p2 before2 (steps_of (drop (at + 1) steps)) ss (steps_of (drop behind_it inner)) items2 b2 (steps_at steps at second lt is) k (ap (λ v. join (change_of p) (steps_of v)) (sym i) ∙ g) h o))

pub while_other_at : (s : Step) (p : Change) (before : List Numbers) (test : Numbers) (y : Change) (steps : List Step) (at next : ℕ) (second c : Step) → s ≡ step.While p before test y
    → at < length steps → second ≡ slice_index_or steps at second → is_while (out-Step second) ≡ false → c ≡ step.Ops [] → steps_of (drop next steps) ≡ behind (steps_of (drop at steps)) → GivesStep s (steps_of (drop at steps)) c (steps_of (drop next steps))
while_other_at s p before test y steps at next second c e lt is k l o =
    let b = steps_of (drop at steps) in let b2 = steps_of (drop next steps) in
    joins_at s (step.While p before test y) b c b2 e (while_other_joins p before test y b second (steps_of (drop (at + 1) steps)) c b2 (steps_at steps at second lt is) k l o)

-- ---- loops

-- one more step
pub step_more : {j : JoinedChange} (out : List Step) (ss : List Step) (i : ℕ) (s : Step) (b : model.Change) (c : Step) (b2 : model.Change) → i < length ss → s ≡ slice_index_or ss i s
    → j ≡ steps_before out (join (steps_of (drop i ss)) b) → GivesStep s b c b2 → j ≡ steps_before (out ++ c ∷ []) (join (steps_of (drop (i + 1) ss)) b2)
step_more out ss i s b c b2 lt e h g =
    h ∙ ap (λ x. steps_before out (join (steps_of x) b)) (drop_more ss i s lt ∙ ap (λ x. x ∷ drop (i + 1) ss) (sym e))
    ∙ ap (steps_before out) (g (steps_of (drop (i + 1) ss)))
    ∙ ap (λ x. pair x (join (steps_of (drop (i + 1) ss)) b2).rest) (sym (steps_append out (c ∷ []) (join (steps_of (drop (i + 1) ss)) b2).change))

pub step_done : {j : JoinedChange} (out : List Step) (ss : List Step) (i : ℕ) (b : model.Change) → length ss ≤ i → j ≡ steps_before out (join (steps_of (drop i ss)) b) → j ≡ steps_and out b
step_done out ss i b le h = h ∙ ap (λ x. steps_before out (join (steps_of x) b)) (drop_all i ss le)

abbrev rounds_pair : model.Changes → model.Change → JoinedRounds
rounds_pair c b = record { changes = c; rest = b }

pub round_more : {j : JoinedRounds} (out : List Change) (ps : List Change) (i : ℕ) (p : Change) (b : model.Change) (ss : List Step) (b2 : model.Change) → i < length ps → p ≡ slice_index_or ps i p
    → j ≡ rounds_before out (join_rounds (changes_of (drop i ps)) b) → join (change_of p) b ≡ steps_and ss b2 → j ≡ rounds_before (out ++ of_steps ss ∷ []) (join_rounds (changes_of (drop (i + 1) ps)) b2)
round_more out ps i p b ss b2 lt e h g =
    let next = changes_of (drop (i + 1) ps) in
    h ∙ ap (λ x. rounds_before out (join_rounds (changes_of x) b)) (drop_more ps i p lt ∙ ap (λ x. x ∷ drop (i + 1) ps) (sym e))
    ∙ ap (λ (m : JoinedChange). rounds_before out (rounds_pair (model.more m.change (join_rounds next m.rest).changes) (join_rounds next m.rest).rest)) g
    ∙ ap (λ x. rounds_before out (rounds_pair (model.more x (join_rounds next b2).changes) (join_rounds next b2).rest)) (sym (change_is (of_steps ss)))
    ∙ ap (λ x. rounds_pair x (join_rounds next b2).rest) (sym (changes_append out (of_steps ss ∷ []) (join_rounds next b2).changes))

pub round_done : {j : JoinedRounds} (out : List Change) (ps : List Change) (i : ℕ) (b : model.Change) → length ps ≤ i → j ≡ rounds_before out (join_rounds (changes_of (drop i ps)) b) → (changes_of out ≡ j.changes) × (b ≡ j.rest)
round_done out ps i b le h =
    let e = h ∙ ap (λ x. rounds_before out (join_rounds (changes_of x) b)) (drop_all i ps le) in
    (sym (ap (λ (x : JoinedRounds). x.changes) e), sym (ap (λ (x : JoinedRounds). x.rest) e))

pub every_more : {e : model.Changes} (a : model.Change) (out : List Change) (ps : List Change) (i : ℕ) (p t : Change) → i < length ps → p ≡ slice_index_or ps i p
    → e ≡ changes_before (map change_of out) (join_every (join a) (changes_of (drop i ps))) → change_of t ≡ (join a (steps_of p.steps)).change
    → e ≡ changes_before (map change_of (out ++ t ∷ [])) (join_every (join a) (changes_of (drop (i + 1) ps)))
every_more a out ps i p t lt e h g =
    let next = join_every (join a) (changes_of (drop (i + 1) ps)) in
    h ∙ ap (λ x. changes_before (map change_of out) (join_every (join a) (changes_of x))) (drop_more ps i p lt ∙ ap (λ x. x ∷ drop (i + 1) ps) (sym e))
    ∙ ap (λ x. changes_before (map change_of out) (model.more x next)) (ap (λ x. (join a x).change) (change_is p) ∙ sym g)
    ∙ sym (changes_append out (t ∷ []) next)

pub every_done : {e : model.Changes} (a : model.Change) (out : List Change) (ps : List Change) (i : ℕ) → length ps ≤ i → e ≡ changes_before (map change_of out) (join_every (join a) (changes_of (drop i ps))) → changes_of out ≡ e
every_done a out ps i le h = sym (h ∙ ap (λ x. changes_before (map change_of out) (join_every (join a) (changes_of x))) (drop_all i ps le))
