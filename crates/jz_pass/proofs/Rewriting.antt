-- A rule for one statement makes of whole trees what the definition says.
use Rattle.std.proofs.Common.{◌≡◌, ℕ, zero, suc, ◌+◌, ◌<◌, ◌≤◌, ◌⊎◌, inl, inr, List, [], ◌∷◌, ◌++◌, map, take, length, get_or, refl, sym, ap, ◌∙◌, subst, arith}
use Rattle.std.proofs.lemmas.List.{take_more}
use Rattle.jz_runs.specs.Trees.{Tree, done}
use Rattle.jz_change.specs.declared.change.Numbers.{Numbers}
use Rattle.jz_change.specs.declared.change.Step.{Step}
use Rattle.jz_change.specs.declared.change.Step.TheVariants as step
use Rattle.jz_change.specs.Changes.{Change, ends, stays_if, stays_while}
use Rattle.jz_change.specs.Views.{chain, then_step, change_of, steps_of}
use Rattle.jz_change.proofs.StepViews.{change_is, steps_append, then_ops, then_if, then_while}
use Rattle.jz_pass.specs.declared.form.Form.TheVariants as form
use Rattle.jz_pass.specs.Operations.{in_turn}
use Rattle.jz_pass.specs.Unrolling.{u_done, u_op, u_quiet, u_if, u_while}
use Rattle.jz_pass.specs.Rewriting.{Rewriting, Rewrites, Shape, one, hidden, either, turns, other, all_before, HasTree, sizes, IsAbove, first_part, second_part, RewritesTo}
use Rattle.jz_pass.specs.Forms.{form_of, OperationMade, QuietMade, ChoiceMade}

-- lists in two parts, before what follows

pub all_append : {St A : Type 0} (before : St → A → A) (xs ys : List St) (r : A) → all_before before (xs ++ ys) r ≡ all_before before xs (all_before before ys r)
all_append before [] ys r = refl
all_append before (x ∷ xs) ys r = ap (before x) (all_append before xs ys r)

if_step : (items : List Numbers) (numbers : Numbers) (ta tb : List Step) (k : Change) → then_step (step.If items numbers (record { steps = ta }) (record { steps = tb })) k ≡ stays_if items numbers (steps_of ta) (steps_of tb) k
if_step items numbers ta tb k =
    then_if items numbers (record { steps = ta }) (record { steps = tb }) k
    ∙ ap (λ x. stays_if items numbers x (change_of (record { steps = tb })) k) (change_is (record { steps = ta }))
    ∙ ap (λ x. stays_if items numbers (steps_of ta) x k) (change_is (record { steps = tb }))

while_step : (tq : List Step) (items : List Numbers) (numbers : Numbers) (tb : List Step) (k : Change) → then_step (step.While (record { steps = tq }) items numbers (record { steps = tb })) k ≡ stays_while (steps_of tq) items numbers (steps_of tb) k
while_step tq items numbers tb k =
    then_while (record { steps = tq }) items numbers (record { steps = tb }) k
    ∙ ap (λ x. stays_while x items numbers (change_of (record { steps = tb })) k) (change_is (record { steps = tq }))
    ∙ ap (λ x. stays_while (steps_of tq) items numbers x k) (change_is (record { steps = tb }))

module _ {O T F C O2 T2 F2 C2 St St2 : Type 0} (R : Rewriting O T O2 T2) (before : St → Tree O T F C → Tree O T F C) (before2 : St2 → Tree O2 T2 F2 C2 → Tree O2 T2 F2 C2) where
  abbrev To : List St → List St2 → List Step → Type 0
  To ss made steps = RewritesTo R before before2 ss made steps

  at_trees : {t t2 : Tree O T F C} {rest u u2 : Tree O2 T2 F2 C2} {k k2 : Change} → t2 ≡ t → u2 ≡ u → k2 ≡ k → Rewrites R t rest u k → Rewrites R t2 rest u2 k2
  at_trees {t} {rest} {u} {u2} {k2} p q e h = subst (λ x. Rewrites R x rest u2 k2) (sym p) (subst (λ x. Rewrites R t rest x k2) (sym q) (subst (λ x. Rewrites R t rest u x) (sym e) h))

  -- what stands alone, before another rest
  alone : (ss : List St) (made : List St2) (steps : List Step) (rest : Tree O2 T2 F2 C2) → To ss made steps → Rewrites R (all_before before ss done) rest (all_before before2 made rest) (chain (map then_step steps) ends)
  alone ss made steps rest f = f done rest rest ends u_done

  pub nothing_rewrites : To [] [] []
  nothing_rewrites t rest u k h = h

  pub both_rewrite : (xs ys : List St) (m m2 : List St2) (a b : List Step) → To xs m a → To ys m2 b → To (xs ++ ys) (m ++ m2) (a ++ b)
  both_rewrite xs ys m m2 a b f g t rest u k h =
      at_trees (all_append before xs ys t) (all_append before2 m m2 u) (steps_append a b k) (f (all_before before ys t) rest (all_before before2 m2 u) (chain (map then_step b) k) (g t rest u k h))

  -- one statement more
  pub one_more : (ss : List St) (i : ℕ) (d s : St) (m m2 : List St2) (a b : List Step) → i < length ss → s ≡ get_or ss i d → To (take i ss) m a → To (s ∷ []) m2 b → To (take (i + 1) ss) (m ++ m2) (a ++ b)
  one_more ss i d s m m2 a b lt is f g = subst (λ xs. To xs (m ++ m2) (a ++ b)) (sym (take_more ss i d lt ∙ ap (λ x. take i ss ++ x ∷ []) (sym is))) (both_rewrite (take i ss) (s ∷ []) m m2 a b f g)

  -- the tree of a whole list
  pub whole_rewrites : (ss : List St) (made : List St2) (steps : List Step) → To ss made steps → Rewrites R (all_before before ss done) done (all_before before2 made done) (change_of (record { steps = steps }))
  whole_rewrites ss made steps f = subst (Rewrites R (all_before before ss done) done (all_before before2 made done)) (sym (change_is (record { steps = steps }))) (alone ss made steps done f)

  -- ---- one statement

  pub op_rewrites : (s : St) (sh : Shape O T St) (made : List St2) (items : List Numbers) → form_of sh ≡ form.Operation → HasTree before sh (before s) → OperationMade R before2 sh made items → To (s ∷ []) made (step.Ops items ∷ [])
  op_rewrites s (one o) made items e tree b = λ t rest u k h. at_trees (tree t) (b.trees u) (then_ops items k) (u_op b.rule h)
  op_rewrites s (hidden o) made items e tree b = absurd cc
  op_rewrites s (either p x y) made items e tree b = absurd cc
  op_rewrites s (turns q x p y) made items e tree b = absurd cc
  op_rewrites s other made items e tree b = absurd cc

  pub quiet_rewrites : (s : St) (sh : Shape O T St) (made : List St2) → form_of sh ≡ form.Quiet → HasTree before sh (before s) → QuietMade R before2 sh made → To (s ∷ []) made []
  quiet_rewrites s (hidden o) made e tree b = λ t rest u k h. at_trees (tree t) (b.trees u) refl (u_quiet b.rule h)
  quiet_rewrites s (one o) made e tree b = absurd cc
  quiet_rewrites s (either p x y) made e tree b = absurd cc
  quiet_rewrites s (turns q x p y) made e tree b = absurd cc
  quiet_rewrites s other made e tree b = absurd cc

  pub if_rewrites : (s : St) (sh : Shape O T St) (a2 b2 made : List St2) (items : List Numbers) (numbers : Numbers) (ta tb : List Step) → form_of sh ≡ form.If → HasTree before sh (before s) → To (first_part sh) a2 ta → To (second_part sh) b2 tb → ChoiceMade R before2 sh a2 b2 made items numbers →
      To (s ∷ []) made (step.If items numbers (record { steps = ta }) (record { steps = tb }) ∷ [])
  if_rewrites s (either p x y) a2 b2 made items numbers ta tb e tree f g b = λ t rest u k h.
      at_trees (tree t) (b.trees u) (if_step items numbers ta tb k) (u_if b.rule (alone x a2 ta done f) (alone y b2 tb done g) tt tt h)
  if_rewrites s (one o) a2 b2 made items numbers ta tb e tree f g b = absurd cc
  if_rewrites s (hidden o) a2 b2 made items numbers ta tb e tree f g b = absurd cc
  if_rewrites s (turns q x p y) a2 b2 made items numbers ta tb e tree f g b = absurd cc
  if_rewrites s other a2 b2 made items numbers ta tb e tree f g b = absurd cc

  pub while_rewrites : (s : St) (sh : Shape O T St) (q2 b2 made : List St2) (items : List Numbers) (numbers : Numbers) (tq tb : List Step) → form_of sh ≡ form.While → HasTree before sh (before s) → To (first_part sh) q2 tq → To (second_part sh) b2 tb → ChoiceMade R before2 sh q2 b2 made items numbers →
      To (s ∷ []) made (step.While (record { steps = tq }) items numbers (record { steps = tb }) ∷ [])
  while_rewrites s (turns q x p y) q2 b2 made items numbers tq tb e tree f g b = λ t rest u k h.
      at_trees (tree t) (b.trees u) (while_step tq items numbers tb k) (u_while tt b.rule (alone x q2 tq (in_turn b.operations done) f) (alone y b2 tb done g) tt tt h)
  while_rewrites s (one o) q2 b2 made items numbers tq tb e tree f g b = absurd cc
  while_rewrites s (hidden o) q2 b2 made items numbers tq tb e tree f g b = absurd cc
  while_rewrites s (either p x y) q2 b2 made items numbers tq tb e tree f g b = absurd cc
  while_rewrites s other q2 b2 made items numbers tq tb e tree f g b = absurd cc

-- ---- what is gone down

module _ {O T St : Type 0} (size : St → ℕ) where
  pub parts_below : (sh : Shape O T St) (n : ℕ) → form_of sh ≡ form.If ⊎ form_of sh ≡ form.While → IsAbove size sh n → (sizes size (first_part sh) < n) × (sizes size (second_part sh) < n)
  parts_below (either p a b) n e h = h
  parts_below (turns q x p y) n e h = h
  parts_below (one o) n (inl e) h = absurd cc
  parts_below (one o) n (inr e) h = absurd cc
  parts_below (hidden o) n (inl e) h = absurd cc
  parts_below (hidden o) n (inr e) h = absurd cc
  parts_below other n (inl e) h = absurd cc
  parts_below other n (inr e) h = absurd cc

pub one_of_sizes : {St : Type 0} (size : St → ℕ) (ss : List St) (i : ℕ) (d : St) → i < length ss → size (get_or ss i d) ≤ sizes size ss
one_of_sizes size [] i d lt = absurd (omega arith)
one_of_sizes size (s ∷ ss) zero d lt = omega arith
one_of_sizes size (s ∷ ss) (suc i) d lt = let r = one_of_sizes size ss i d (omega arith) in omega (arith, r)

pub item_below : {St : Type 0} (size : St → ℕ) (ss : List St) (i : ℕ) (s : St) → i < length ss → s ≡ get_or ss i s → size s ≤ sizes size ss
item_below size ss i s lt e = subst (λ x. size x ≤ sizes size ss) (sym e) (one_of_sizes size ss i s lt)
