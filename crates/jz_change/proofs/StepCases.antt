-- What each step makes of cases, and what the loops over steps keep.
use Rattle.std.proofs.Common.{◌≡◌, ℕ, ◌+◌, ◌<◌, ◌≤◌, Bool, List, [], ◌∷◌, ◌++◌, map, refl, sym, ap, ◌∙◌, drop, append_assoc, append-nil}
use Rattle.std.specs.Prelude.{length, slice_index_or, nat_lt, false}
use Rattle.std.proofs.lemmas.Bool.{ltb-false}
use Rattle.std.proofs.lemmas.List.{drop_all, drop_more, drop-drop}
use Rattle.jz_leak.specs.Applying.{Layer}
use Rattle.jz_leak.specs.declared.transformer.Out.{Out}
use Rattle.jz_leak.specs.declared.transformer.Tr.{Tr}
use Rattle.jz_leak.specs.declared.transformer.Case.{Case}
use Rattle.jz_leak.specs.declared.transformer.Case.TheVariants as case
use Rattle.jz_leak.specs.declared.transformer.Case.TheOpen.{Case-F}
use Rattle.jz_leak.specs.declared.transformer.Case.TheViews.{out-Case, roll-Case, out-roll-Case}
use Rattle.jz_change.specs.declared.change.Numbers.{Numbers}
use Rattle.jz_change.specs.declared.change.Change.{Change}
use Rattle.jz_change.specs.declared.change.Step.{Step}
use Rattle.jz_change.specs.declared.change.Step.TheVariants as step
use Rattle.jz_change.specs.declared.change.Step.TheOpen.{Step-F}
use Rattle.jz_change.specs.declared.change.Step.TheFolds.{fold-roll-Step}
use Rattle.jz_change.specs.Flattening.{outs_by, first_outs, cases_behind, FlatCases, FlatRounds, tr_of, add_case, flat_arm, flat_if, flat_while, flat_for, first_by, flat, flat_rounds}
use Rattle.jz_change.specs.Views.{layer_change, steps_change, then_step, change_of, steps_of, changes_of}
use Rattle.jz_change.specs.InnerSteps.{GivesCase, cases_and, cases_before, trees_before}
use Rattle.jz_change.proofs.StepViews.{begun}

-- ---- what is left of cases

behind_is : (cs : List Case) → drop 1 cs ≡ cases_behind cs
behind_is [] = refl
behind_is (c ∷ cs) = refl

pub behind_drop : (cs : List Case) (n : ℕ) → drop (n + 1) cs ≡ cases_behind (drop n cs)
behind_drop cs n = sym (drop-drop 1 n cs) ∙ behind_is (drop n cs)

-- ---- steps

pub ops_gives : (is : List Numbers) (b : List Case) (outs : List Out) (b2 : List Case) → outs ≡ (first_outs is b).outs → (first_outs is b).rest ≡ b2 → GivesCase (step.Ops is) b (case.Op outs) b2
ops_gives is b outs b2 e f r =
    ap (λ s. flat (then_step s r) b) (sym (step.rolls-Ops is))
    ∙ ap (λ g. flat (g r) b) (fold-roll-Step _ _ layer_change steps_change (Step-F.Ops is))
    ∙ ap (λ x. add_case (case.Op x) (flat r (first_outs is b).rest)) (sym e)
    ∙ ap (λ x. add_case (case.Op outs) (flat r x)) f

pub arm_gives : (z : Bool) (before : List Numbers) (a : Change) (b : List Case) (c : Case) (outs : List Out) (b1 cs b2 : List Case)
    → outs ≡ (first_outs before b).outs → (first_outs before b).rest ≡ b1 → flat (change_of a) b1 ≡ cases_and cs b2 → c ≡ roll-Case (flat_arm z outs cs) → GivesCase (step.Arm z before a) b c b2
arm_gives z before a b c outs b1 cs b2 e f g h r =
    ap (λ s. flat (then_step s r) b) (sym (step.rolls-Arm z before a))
    ∙ ap (λ k. flat (k r) b) (fold-roll-Step _ _ layer_change steps_change (Step-F.Arm z before a))
    ∙ ap (λ x. add_case (roll-Case (flat_arm z x (flat (change_of a) (first_outs before b).rest).cases)) (flat r (flat (change_of a) (first_outs before b).rest).rest)) (sym e)
    ∙ ap (λ x. add_case (roll-Case (flat_arm z outs (flat (change_of a) x).cases)) (flat r (flat (change_of a) x).rest)) f
    ∙ ap (λ (x : FlatCases). add_case (roll-Case (flat_arm z outs x.cases)) (flat r x.rest)) g
    ∙ ap (λ x. add_case x (flat r b2)) (sym h)

pub if_gives : (before : List Numbers) (test : Numbers) (x y : Change) (b : List Case) (c : Case) (outs : List Out) (b1 b2 : List Case)
    → outs ≡ (first_outs before b).outs → (first_outs before b).rest ≡ b1 → c ≡ first_by (flat_if outs test (flat (change_of x)) (flat (change_of y))) b1 → b2 ≡ cases_behind b1 → GivesCase (step.If before test x y) b c b2
if_gives before test x y b c outs b1 b2 e f g h r =
    ap (λ s. flat (then_step s r) b) (sym (step.rolls-If before test x y))
    ∙ ap (λ k. flat (k r) b) (fold-roll-Step _ _ layer_change steps_change (Step-F.If before test x y))
    ∙ ap (λ o. add_case (first_by (flat_if o test (flat (change_of x)) (flat (change_of y))) (first_outs before b).rest) (flat r (cases_behind (first_outs before b).rest))) (sym e)
    ∙ ap (λ o. add_case (first_by (flat_if outs test (flat (change_of x)) (flat (change_of y))) o) (flat r (cases_behind o))) f
    ∙ ap (λ o. add_case o (flat r (cases_behind b1))) (sym g)
    ∙ ap (λ o. add_case c (flat r o)) (sym h)

pub while_gives : (p : Change) (before : List Numbers) (test : Numbers) (y : Change) (b : List Case) (c : Case) (b2 : List Case)
    → c ≡ first_by (flat_while before test (flat (change_of p)) (flat (change_of y))) b → b2 ≡ cases_behind b → GivesCase (step.While p before test y) b c b2
while_gives p before test y b c b2 g h r =
    ap (λ s. flat (then_step s r) b) (sym (step.rolls-While p before test y))
    ∙ ap (λ k. flat (k r) b) (fold-roll-Step _ _ layer_change steps_change (Step-F.While p before test y))
    ∙ ap (λ o. add_case o (flat r (cases_behind b))) (sym g)
    ∙ ap (λ o. add_case c (flat r o)) (sym h)

pub for_gives : (y : Change) (b : List Case) (c : Case) (b2 : List Case) → c ≡ first_by (flat_for (flat (change_of y))) b → b2 ≡ cases_behind b → GivesCase (step.For y) b c b2
for_gives y b c b2 g h r =
    ap (λ s. flat (then_step s r) b) (sym (step.rolls-For y))
    ∙ ap (λ k. flat (k r) b) (fold-roll-Step _ _ layer_change steps_change (Step-F.For y))
    ∙ ap (λ o. add_case o (flat r (cases_behind b))) (sym g)
    ∙ ap (λ o. add_case c (flat r o)) (sym h)

pub once_gives : (p : Change) (before : List Numbers) (b cs b1 : List Case) (outs : List Out) (b2 : List Case)
    → flat (change_of p) b ≡ cases_and cs b1 → outs ≡ (first_outs before b1).outs → (first_outs before b1).rest ≡ b2
    → GivesCase (step.Once p before) b (case.While (tr_of cs) outs [] (tr_of []) []) b2
once_gives p before b cs b1 outs b2 g e f r =
    ap (λ s. flat (then_step s r) b) (sym (step.rolls-Once p before))
    ∙ ap (λ k. flat (k r) b) (fold-roll-Step _ _ layer_change steps_change (Step-F.Once p before))
    ∙ ap (λ (x : FlatCases). add_case (roll-Case (Case-F.While (tr_of x.cases) (first_outs before x.rest).outs [] (tr_of []) [])) (flat r (first_outs before x.rest).rest)) g
    ∙ ap (λ o. add_case (roll-Case (Case-F.While (tr_of cs) o [] (tr_of []) [])) (flat r (first_outs before b1).rest)) (sym e)
    ∙ ap (λ o. add_case (roll-Case (Case-F.While (tr_of cs) outs [] (tr_of []) [])) (flat r o)) f
    ∙ ap (λ o. add_case o (flat r b2)) (case.rolls-While (tr_of cs) outs [] (tr_of []) [])

pub unrolled_gives : (ps : List Change) (b : List Case) (trs : List Tr) (b2 : List Case) → (flat_rounds (changes_of ps) b).trs ≡ trs → (flat_rounds (changes_of ps) b).rest ≡ b2 → GivesCase (step.Unrolled ps) b (case.For trs) b2
unrolled_gives ps b trs b2 e f r =
    ap (λ s. flat (then_step s r) b) (sym (step.rolls-Unrolled ps))
    ∙ ap (λ k. flat (k r) b) (fold-roll-Step _ _ layer_change steps_change (Step-F.Unrolled ps))
    ∙ ap (λ o. add_case (roll-Case (Case-F.For o)) (flat r (flat_rounds (changes_of ps) b).rest)) e
    ∙ ap (λ o. add_case (roll-Case (Case-F.For trs)) (flat r o)) f
    ∙ ap (λ o. add_case o (flat r b2)) (case.rolls-For trs)

pub call_gives : (xs : List Numbers) (p : Change) (ys : List Numbers) (b : List Case) (first : List Out) (b1 cs b3 : List Case) (last : List Out) (b2 : List Case)
    → first ≡ (first_outs xs b).outs → (first_outs xs b).rest ≡ b1 → flat (change_of p) b1 ≡ cases_and cs b3 → last ≡ (first_outs ys b3).outs → (first_outs ys b3).rest ≡ b2
    → GivesCase (step.Opened xs p ys) b (case.Call first (tr_of cs) last) b2
call_gives xs p ys b first b1 cs b3 last b2 e f g h i r =
    ap (λ s. flat (then_step s r) b) (sym (step.rolls-Opened xs p ys))
    ∙ ap (λ k. flat (k r) b) (fold-roll-Step _ _ layer_change steps_change (Step-F.Opened xs p ys))
    ∙ ap (λ o. let m = flat (change_of p) (first_outs xs b).rest in add_case (roll-Case (Case-F.Call o (tr_of m.cases) (first_outs ys m.rest).outs)) (flat r (first_outs ys m.rest).rest)) (sym e)
    ∙ ap (λ o. let m = flat (change_of p) o in add_case (roll-Case (Case-F.Call first (tr_of m.cases) (first_outs ys m.rest).outs)) (flat r (first_outs ys m.rest).rest)) f
    ∙ ap (λ (m : FlatCases). add_case (roll-Case (Case-F.Call first (tr_of m.cases) (first_outs ys m.rest).outs)) (flat r (first_outs ys m.rest).rest)) g
    ∙ ap (λ o. add_case (roll-Case (Case-F.Call first (tr_of cs) o)) (flat r (first_outs ys b3).rest)) (sym h)
    ∙ ap (λ o. add_case (roll-Case (Case-F.Call first (tr_of cs) last)) (flat r o)) i
    ∙ ap (λ o. add_case o (flat r b2)) (case.rolls-Call first (tr_of cs) last)

pub gives_at : (s t : Step) (b : List Case) (b2 : List Case) (d : Case) → s ≡ t → GivesCase t b d b2 → GivesCase s b d b2
gives_at s t b b2 d e g r = ap (λ x. flat (then_step x r) b) e ∙ g r

pub first_none : (f : Layer → Case) (cs : List Case) (at : ℕ) → nat_lt at (length cs) ≡ false → first_by f (drop at cs) ≡ case.Op []
first_none f cs at h = ap (first_by f) (drop_all at cs (ltb-false at (length cs) h))

pub first_some : (f : Layer → Case) (cs : List Case) (at : ℕ) (c : Case) → at < length cs → c ≡ slice_index_or cs at c → first_by f (drop at cs) ≡ f (out-Case c)
first_some f cs at c lt h = ap (first_by f) (drop_more cs at c lt) ∙ ap (λ x. f (out-Case x)) (sym h)

pub if_made : (test : Numbers) (x y : Change) (c1 : Case) (t xo : List Out) (xt : Tr) (yo : List Out) (yt : Tr) (outs outs2 xo2 : List Out) (xl : Tr) (yo2 : List Out) (yl : Tr)
    → c1 ≡ case.If t xo xt yo yt → outs2 ≡ outs ++ outs_by test t → xo2 ≡ outs_by test xo → xl ≡ tr_of (flat (change_of x) xt.cases).cases → yo2 ≡ outs_by test yo → yl ≡ tr_of (flat (change_of y) yt.cases).cases
    → case.If outs2 xo2 xl yo2 yl ≡ flat_if outs test (flat (change_of x)) (flat (change_of y)) (out-Case c1)
if_made test x y c1 t xo xt yo yt outs outs2 xo2 xl yo2 yl e f g h i j =
    ap (λ o. case.If o xo2 xl yo2 yl) f
    ∙ ap (λ o. case.If (outs ++ outs_by test t) o xl yo2 yl) g
    ∙ ap (λ o. case.If (outs ++ outs_by test t) (outs_by test xo) o yo2 yl) h
    ∙ ap (λ o. case.If (outs ++ outs_by test t) (outs_by test xo) (tr_of (flat (change_of x) xt.cases).cases) o yl) i
    ∙ ap (λ o. case.If (outs ++ outs_by test t) (outs_by test xo) (tr_of (flat (change_of x) xt.cases).cases) (outs_by test yo) o) j
    ∙ sym (case.rolls-If (outs ++ outs_by test t) (outs_by test xo) (tr_of (flat (change_of x) xt.cases).cases) (outs_by test yo) (tr_of (flat (change_of y) yt.cases).cases))
    ∙ ap (flat_if outs test (flat (change_of x)) (flat (change_of y))) (sym (ap out-Case (e ∙ sym (case.rolls-If t xo xt yo yt)) ∙ out-roll-Case (Case-F.If t xo xt yo yt)))

pub for_made : (y : Change) (c1 : Case) (trs ts : List Tr) → c1 ≡ case.For trs → ts ≡ map (λ t. tr_of (flat (change_of y) t.cases).cases) trs → case.For ts ≡ flat_for (flat (change_of y)) (out-Case c1)
for_made y c1 trs ts e f =
    ap case.For f
    ∙ sym (case.rolls-For (map (λ t. tr_of (flat (change_of y) t.cases).cases) trs))
    ∙ ap (flat_for (flat (change_of y))) (sym (ap out-Case (e ∙ sym (case.rolls-For trs)) ∙ out-roll-Case (Case-F.For trs)))

pub while_made : (p : Change) (before : List Numbers) (test : Numbers) (y : Change) (c1 : Case) (ptr : Tr) (t m : List Out) (btr : Tr) (lv : List Out) (cs b1 : List Case) (outs2 m2 : List Out) (left : Tr) (l2 : List Out)
    → c1 ≡ case.While ptr t m btr lv → flat (change_of p) ptr.cases ≡ cases_and cs b1 → outs2 ≡ (first_outs before b1).outs ++ outs_by test t → m2 ≡ outs_by test m
    → left ≡ tr_of (flat (change_of y) btr.cases).cases → l2 ≡ outs_by test lv
    → case.While (tr_of cs) outs2 m2 left l2 ≡ flat_while before test (flat (change_of p)) (flat (change_of y)) (out-Case c1)
while_made p before test y c1 ptr t m btr lv cs b1 outs2 m2 left l2 e f h i j k =
    ap (λ x. case.While (tr_of cs) x m2 left l2) h
    ∙ ap (λ x. case.While (tr_of cs) ((first_outs before b1).outs ++ outs_by test t) x left l2) i
    ∙ ap (λ x. case.While (tr_of cs) ((first_outs before b1).outs ++ outs_by test t) (outs_by test m) x l2) j
    ∙ ap (λ x. case.While (tr_of cs) ((first_outs before b1).outs ++ outs_by test t) (outs_by test m) (tr_of (flat (change_of y) btr.cases).cases) x) k
    ∙ sym (case.rolls-While (tr_of cs) ((first_outs before b1).outs ++ outs_by test t) (outs_by test m) (tr_of (flat (change_of y) btr.cases).cases) (outs_by test lv))
    ∙ ap (λ (x : FlatCases). roll-Case (Case-F.While (tr_of x.cases) ((first_outs before x.rest).outs ++ outs_by test t) (outs_by test m) (tr_of (flat (change_of y) btr.cases).cases) (outs_by test lv))) (sym f)
    ∙ ap (flat_while before test (flat (change_of p)) (flat (change_of y))) (sym (ap out-Case (e ∙ sym (case.rolls-While ptr t m btr lv)) ∙ out-roll-Case (Case-F.While ptr t m btr lv)))

-- ---- steps and the first case, at places in a list

pub if_some : (s : Step) (before : List Numbers) (test : Numbers) (x y : Change) (cs : List Case) (at to next : ℕ) (outs old : List Out) (c1 c : Case) → s ≡ step.If before test x y
    → outs ≡ old ++ (first_outs before (drop at cs)).outs → old ≡ [] → (first_outs before (drop at cs)).rest ≡ drop to cs → to < length cs → c1 ≡ slice_index_or cs to c1
    → c ≡ flat_if outs test (flat (change_of x)) (flat (change_of y)) (out-Case c1) → drop next cs ≡ cases_behind (drop to cs) → GivesCase s (drop at cs) c (drop next cs)
if_some s before test x y cs at to next outs old c1 c e f g h lt is k n =
    gives_at s (step.If before test x y) (drop at cs) (drop next cs) c e
    (if_gives before test x y (drop at cs) c outs (drop to cs) (drop next cs) (begun outs old (first_outs before (drop at cs)).outs f g) h
    (k ∙ sym (first_some (flat_if outs test (flat (change_of x)) (flat (change_of y))) cs to c1 lt is)) n)

pub if_none : (s : Step) (before : List Numbers) (test : Numbers) (x y : Change) (cs : List Case) (at to next : ℕ) (outs old : List Out) (c : Case) → s ≡ step.If before test x y
    → outs ≡ old ++ (first_outs before (drop at cs)).outs → old ≡ [] → (first_outs before (drop at cs)).rest ≡ drop to cs → nat_lt to (length cs) ≡ false
    → c ≡ case.Op [] → drop next cs ≡ cases_behind (drop to cs) → GivesCase s (drop at cs) c (drop next cs)
if_none s before test x y cs at to next outs old c e f g h none k n =
    gives_at s (step.If before test x y) (drop at cs) (drop next cs) c e
    (if_gives before test x y (drop at cs) c outs (drop to cs) (drop next cs) (begun outs old (first_outs before (drop at cs)).outs f g) h
    (k ∙ sym (first_none (flat_if outs test (flat (change_of x)) (flat (change_of y))) cs to none)) n)

pub while_some : (s : Step) (p : Change) (before : List Numbers) (test : Numbers) (y : Change) (cs : List Case) (at next : ℕ) (c1 c : Case) → s ≡ step.While p before test y → at < length cs → c1 ≡ slice_index_or cs at c1
    → c ≡ flat_while before test (flat (change_of p)) (flat (change_of y)) (out-Case c1) → drop next cs ≡ cases_behind (drop at cs) → GivesCase s (drop at cs) c (drop next cs)
while_some s p before test y cs at next c1 c e lt is k n =
    gives_at s (step.While p before test y) (drop at cs) (drop next cs) c e
    (while_gives p before test y (drop at cs) c (drop next cs) (k ∙ sym (first_some (flat_while before test (flat (change_of p)) (flat (change_of y))) cs at c1 lt is)) n)

-- ---- loops
-- one more step
pub one_more : {f : FlatCases} (out : List Case) (ss : List Step) (i : ℕ) (s : Step) (b : List Case) (c : Case) (b2 : List Case) → i < length ss → s ≡ slice_index_or ss i s
    → f ≡ cases_before out (flat (steps_of (drop i ss)) b) → GivesCase s b c b2 → f ≡ cases_before (out ++ c ∷ []) (flat (steps_of (drop (i + 1) ss)) b2)
one_more out ss i s b c b2 lt e h g =
    h ∙ ap (λ x. cases_before out (flat (steps_of x) b)) (drop_more ss i s lt ∙ ap (λ x. x ∷ drop (i + 1) ss) (sym e))
    ∙ ap (cases_before out) (g (steps_of (drop (i + 1) ss)))
    ∙ ap (λ x. record { cases = x; rest = (flat (steps_of (drop (i + 1) ss)) b2).rest }) (sym (append_assoc out (c ∷ []) (flat (steps_of (drop (i + 1) ss)) b2).cases))

pub no_more : {f : FlatCases} (out : List Case) (ss : List Step) (i : ℕ) (b : List Case) → length ss ≤ i → f ≡ cases_before out (flat (steps_of (drop i ss)) b) → f ≡ cases_and out b
no_more out ss i b le h = h ∙ ap (λ x. cases_before out (flat (steps_of x) b)) (drop_all i ss le) ∙ ap (λ x. cases_and x b) (append-nil out)

pub one_round : {f : FlatRounds} (trs : List Tr) (ps : List Change) (i : ℕ) (p : Change) (b cs b2 : List Case) → i < length ps → p ≡ slice_index_or ps i p
    → f ≡ trees_before trs (flat_rounds (changes_of (drop i ps)) b) → flat (change_of p) b ≡ cases_and cs b2 → f ≡ trees_before (trs ++ tr_of cs ∷ []) (flat_rounds (changes_of (drop (i + 1) ps)) b2)
one_round trs ps i p b cs b2 lt e h g =
    h ∙ ap (λ x. trees_before trs (flat_rounds (changes_of x) b)) (drop_more ps i p lt ∙ ap (λ x. x ∷ drop (i + 1) ps) (sym e))
    ∙ ap (λ (m : FlatCases). trees_before trs (record { trs = tr_of m.cases ∷ (flat_rounds (changes_of (drop (i + 1) ps)) m.rest).trs; rest = (flat_rounds (changes_of (drop (i + 1) ps)) m.rest).rest })) g
    ∙ ap (λ x. record { trs = x; rest = (flat_rounds (changes_of (drop (i + 1) ps)) b2).rest }) (sym (append_assoc trs (tr_of cs ∷ []) (flat_rounds (changes_of (drop (i + 1) ps)) b2).trs))

pub no_round : {f : FlatRounds} (trs : List Tr) (ps : List Change) (i : ℕ) (b : List Case) → length ps ≤ i → f ≡ trees_before trs (flat_rounds (changes_of (drop i ps)) b) → (f.trs ≡ trs) × (f.rest ≡ b)
no_round trs ps i b le h =
    let e = h ∙ ap (λ x. trees_before trs (flat_rounds (changes_of x) b)) (drop_all i ps le) in
    (ap (λ (x : FlatRounds). x.trs) e ∙ append-nil trs, ap (λ (x : FlatRounds). x.rest) e)
