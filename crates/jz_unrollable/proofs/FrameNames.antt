-- The inline variables of a function without calls: in each copy those of the function that is
-- copied.
use Rattle.std.proofs.Common.{◌≡◌, ℕ, zero, suc, ◌+◌, ◌<◌, List, [], ◌∷◌, ◌++◌, map, length, Option, Some, None, Bool, true, false, refl, ap, sym, ◌∙◌, subst, arith, append-nil, bytes_eq}
use Rattle.std.specs.Prelude.{⊤, ◌==◌, ◌&&◌, ◌||◌, All, Contains, slice_get, option_map, option_to_list, if◌then◌else◌}
use Rattle.std.specs.List.{flat_map}
use Rattle.std.proofs.lemmas.Bool.Decides.{nat_tests}
use Rattle.std.proofs.lemmas.List.Elements.{All-head, All-tail, All-contains}
use Rattle.jz_tree.specs.Span.{Span}
use Rattle.jz_tree.specs.declared.expr.BinOp.{BinOp}
use Rattle.jz_tree.specs.declared.expr.Expr.{Expr}
use Rattle.jz_tree.specs.declared.expr.Var.{Var}
use Rattle.jz_tree.specs.declared.program.Fun.{Fun}
use Rattle.jz_tree.specs.declared.program.Program.{Program}
use Rattle.jz_tree.specs.declared.stmt.Rhs.{Rhs}
use Rattle.jz_tree.specs.declared.stmt.Rhs.TheVariants as rhs
use Rattle.jz_tree.specs.declared.stmt.Stmt.{Stmt}
use Rattle.jz_tree.specs.declared.stmt.StmtKind.TheOpen.{StmtKind-F}
use Rattle.jz_type_names.specs.Parts.{Layer, layer_of, statements_of}
use Rattle.jz_type_names.specs.Scopes.{variables_of, function_named}
use Rattle.jz_runs.specs.Trees.{done, op, quiet, choose, loop, each, call}
use Rattle.jz_meaning.specs.Statements.{Block}
use Rattle.jz_meaning.specs.Runs.{body_of}
use Rattle.jz_texts.specs.Texts.{IsText, IsTextFun, IsPlain}
use Rattle.jz_texts.specs.Declared.{HasDeclarations}
use Rattle.jz_inlining.specs.Called.{called_function}
use Rattle.jz_pass.specs.Copying.{copies}
use Rattle.jz_inlining.specs.Names.{Names}
use Rattle.jz_inlining.specs.Calls.{callee_names}
use Rattle.jz_inlining.specs.Functions.{own_names}
use Rattle.jz_inlining.proofs.Naming.{own_name}
use Rattle.jz_inlining.specs.Frames.{Called, Group, all_in, right_called, layer_called, calls_in, own_params, copies_in, groups, frame_in, frame_of}
use Rattle.jz_inlining.specs.Inlined.{inlined_function}
use Rattle.jz_unroll.specs.Values.{InlineNames}
use Rattle.jz_unrolling_values.specs.InlineNames.{is_inline_named, inline_names}
use Rattle.jz_copied_values.specs.CalledBodies.{inlines_of}
use Rattle.jz_copied_values.specs.CopiedNames.{HasNames}
use Rattle.jz_ready.specs.CopiedKinds.{callees_of}
use Rattle.jz_ready.proofs.CopyNumbers.{Numbered, numbered}
use Rattle.jz_unrollable.proofs.InlineLists.{or_false, four, any_both, OneOf, Has, any_merged, ArePlain, AreOwn, vars_are, params_are, text_are, no_array}
use Rattle.jz_unrollable.proofs.CalledFuns.{funs_with, funs_in, funs_are, funs_counted}

-- ---- functions of a text whose names differ

record IsGood (g : Fun) : Type 0 where
  pub plain : ArePlain (variables_of g)
  pub own : (m : Names) (j : ℕ) (args : List Expr) → AreOwn (callee_names m j g.params args) j (variables_of g)

all_plain : (vs : List Var) → All IsPlain vs → ArePlain vs
all_plain [] h = tt
all_plain (v ∷ vs) h = (All-head IsPlain v vs h, all_plain vs (All-tail IsPlain v vs h))

good_from : (q : Program) (g : Fun) → HasDeclarations q g → IsTextFun g → IsGood g
good_from q g h text = record {
  plain = all_plain (variables_of g) text.declared;
  own = λ m j args k t. own_name m j g.params args k (no_array g.params g.vars k h.differ t);
}

abbrev AllGood : List Fun → Type 0
AllGood [] = ⊤
AllGood (f ∷ fs) = IsGood f × AllGood fs

all_good : (q : Program) (fs : List Fun) → All (HasDeclarations q) fs → All IsTextFun fs → AllGood fs
all_good q [] h text = tt
all_good q (f ∷ fs) h text =
    (good_from q f (All-head (HasDeclarations q) f fs h) (All-head IsTextFun f fs text), all_good q fs (All-tail (HasDeclarations q) f fs h) (All-tail IsTextFun f fs text))

found_good : (n : List ℕ) (fs : List Fun) (f : Fun) → AllGood fs → function_named n fs ≡ Some f → IsGood f
found_good n [] f h e = absurd cc
found_good n (g ∷ gs) f h e = by_test (bytes_eq n g.name) (found_good n gs f h.1) e
  where
    by_test : (b : Bool) → (function_named n gs ≡ Some f → IsGood f) → (if b then Some g else function_named n gs) ≡ Some f → IsGood f
    by_test true rest s = let is : g ≡ f = cc in subst IsGood is h.0
    by_test false rest s = rest s

called_good : (fs : List Fun) (depth : ℕ) (o : Option BinOp) (n : List ℕ) (c : Option Expr) (f : Fun) → AllGood fs → called_function fs depth o n c ≡ Some f → IsGood f
called_good fs zero o n c f h e = absurd cc
called_good fs (suc d) (Some o) n c f h e = absurd cc
called_good fs (suc d) None n (Some c) f h e = absurd cc
called_good fs (suc d) None n None f h e = found_good n fs f h e

abbrev CallsGood : List Called → Type 0
CallsGood [] = ⊤
CallsGood (c ∷ cs) = IsGood c.of × CallsGood cs

both_good : (cs ds : List Called) → CallsGood cs → CallsGood ds → CallsGood (cs ++ ds)
both_good [] ds h k = k
both_good (c ∷ cs) ds h k = (h.0, both_good cs ds h.1 k)

module _ (fs : List Fun) (good : AllGood fs) (depth : ℕ) where
  one_good : (y : Option Fun) (args : List Expr) (at : Span) → ((f : Fun) → y ≡ Some f → IsGood f) → CallsGood (option_to_list (option_map (λ f. record { at = at; of = f; args = args }) y))
  one_good None args at h = tt
  one_good (Some f) args at h = (h f refl, tt)

  right_good : (o : Option BinOp) (r : Rhs) (c : Option Expr) → CallsGood (right_called fs depth o r c)
  right_good o (rhs.Value e) c = tt
  right_good o (rhs.Call n args at) c = one_good (called_function fs depth o n c) args at (λ f e. called_good fs depth o n c f good e)
  right_good o (rhs.Intrinsic n args at) c = tt

  layer_good : (l : Layer) → CallsGood (layer_called fs depth l)
  layer_good (StmtKind-F.Assign to o r c) = right_good o r c
  layer_good (StmtKind-F.If c a b) = tt
  layer_good (StmtKind-F.While p c b) = tt
  layer_good (StmtKind-F.For i from down to b) = tt
  layer_good (StmtKind-F.Mark vs) = tt

  calls_good : (ss : List Stmt) → CallsGood (flat_map (λ s. layer_called fs depth (layer_of s)) ss)
  calls_good [] = tt
  calls_good (s ∷ ss) = both_good (layer_called fs depth (layer_of s)) (flat_map (λ t. layer_called fs depth (layer_of t)) ss) (layer_good (layer_of s)) (calls_good ss)

-- ---- copies by their numbers

other_copy : (a b : ℕ) → a < b → (a == b) ≡ false
other_copy a b lt = grind (arith, nat_tests, lt)

copy_itself : (a : ℕ) → (a == a) ≡ true
copy_itself a = grind (arith, nat_tests)

-- in the copies from j on
abbrev at_number : List Fun → ℕ → List ℕ → ℕ → Bool
at_number [] j n x = false
at_number (g ∷ gs) j n x = ((j == x) && inlines_of g n) || at_number gs (suc j) n x

at_both : (gs hs : List Fun) (j : ℕ) (n : List ℕ) (x : ℕ) → at_number (gs ++ hs) j n x ≡ (at_number gs j n x || at_number hs (j + length gs) n x)
at_both [] hs j n x = let e : j ≡ j + 0 = omega arith in ap (λ i. at_number hs i n x) e
at_both (g ∷ gs) hs j n x =
    let e : suc j + length gs ≡ j + suc (length gs) = omega arith in
    ap (λ b. ((j == x) && inlines_of g n) || b) (at_both gs hs (suc j) n x ∙ ap (λ i. at_number gs (suc j) n x || at_number hs i n x) e)
    ∙ three ((j == x) && inlines_of g n) (at_number gs (suc j) n x) (at_number hs (j + suc (length gs)) n x)
  where
    three : (a b c : Bool) → (a || (b || c)) ≡ ((a || b) || c)
    three true b c = refl
    three false b c = refl

at_before : (gs : List Fun) (j : ℕ) (n : List ℕ) (x : ℕ) → x < j → at_number gs j n x ≡ false
at_before [] j n x lt = refl
at_before (g ∷ gs) j n x lt =
    ap (λ b. (b && inlines_of g n) || at_number gs (suc j) n x) (differs j x lt) ∙ at_before gs (suc j) n x (omega (arith, lt))
  where
    differs : (a b : ℕ) → b < a → (a == b) ≡ false
    differs a b l = grind (arith, nat_tests, l)

abbrev inline_in : Option Fun → List ℕ → Bool
inline_in None n = false
inline_in (Some g) n = inlines_of g n

at_place : (gs : List Fun) (j k : ℕ) (n : List ℕ) → at_number gs j n (j + k) ≡ inline_in (slice_get gs k) n
at_place [] j k n = refl
at_place (g ∷ gs) j zero n =
    let e : j + 0 ≡ j = omega arith in
    ap (λ i. ((j == i) && inlines_of g n) || at_number gs (suc j) n i) e
    ∙ ap (λ b. (b && inlines_of g n) || at_number gs (suc j) n j) (copy_itself j)
    ∙ ap (λ b. inlines_of g n || b) (at_before gs (suc j) n j (omega arith)) ∙ or_false (inlines_of g n)
at_place (g ∷ gs) j (suc k) n =
    let e : j + suc k ≡ suc j + k = omega arith in
    ap (λ b. (b && inlines_of g n) || at_number gs (suc j) n (j + suc k)) (other_copy j (j + suc k) (omega arith))
    ∙ ap (at_number gs (suc j) n) e ∙ at_place gs (suc j) k n

-- ---- frames

module _ (fs : List Fun) (good : AllGood fs) (n : List ℕ) (x : ℕ) where
  abbrev FrameLaw : ℕ → Type 0
  FrameLaw depth = (m : Names) (c j : ℕ) (g : Fun) → ArePlain g.vars → AreOwn m c g.vars → Has n x (frame_in fs depth m j g) ≡ (((c == x) && OneOf n g.vars) || at_number (funs_in fs depth g) j n x)

  plain_first : (vs ws : List Var) → ArePlain (vs ++ ws) → ArePlain vs
  plain_first [] ws h = tt
  plain_first (v ∷ vs) ws h = (h.0, plain_first vs ws h.1)

  plain_second : (vs ws : List Var) → ArePlain (vs ++ ws) → ArePlain ws
  plain_second [] ws h = h
  plain_second (v ∷ vs) ws h = plain_second vs ws h.1

  or_left : (a b : Bool) → a ≡ true → (a || b) ≡ true
  or_left true b q = refl
  or_left false b q = absurd cc

  or_right : (a b : Bool) → b ≡ true → (a || b) ≡ true
  or_right true b q = refl
  or_right false b q = q

  own_first : (m : Names) (c : ℕ) (vs ws : List Var) → AreOwn m c (vs ++ ws) → AreOwn m c vs
  own_first m c vs ws h = λ k q. h k (any_both (is_inline_named k 0) vs ws ∙ or_left (OneOf k vs) (OneOf k ws) q)

  own_second : (m : Names) (c : ℕ) (vs ws : List Var) → AreOwn m c (vs ++ ws) → AreOwn m c ws
  own_second m c vs ws h = λ k q. h k (any_both (is_inline_named k 0) vs ws ∙ or_right (OneOf k vs) (OneOf k ws) q)

  groups_are : (d : ℕ) → FrameLaw d → (m : Names) (j : ℕ) (cs : List Called) → CallsGood cs → Has n x (all_in (groups (frame_in fs d) (copies_in fs d) m j cs)) ≡ at_number (funs_with (funs_in fs d) cs) j n x
  groups_are d law m j [] ok = refl
  groups_are d law m j (c ∷ cs) ok =
      let inner : Names = callee_names m j c.of.params c.args in
      let ps : List Var = map (λ p. p.var) c.of.params in
      let own = ok.0.own m j c.args in
      let first : List Var = own_params inner c.of.params in
      let frame : List Var = frame_in fs d inner (suc j) c.of in
      let rest : List Var = all_in (groups (frame_in fs d) (copies_in fs d) m (j + suc (copies_in fs d c.of)) cs) in
      let made : List Fun = funs_in fs d c.of in
      let later : List Fun = funs_with (funs_in fs d) cs in
      let count = funs_counted fs d c.of in
      let e : j + suc (copies_in fs d c.of) ≡ suc j + length made = omega (arith, count) in
      any_both (is_inline_named n x) (first ++ frame) rest
      ∙ ap (λ b. b || Has n x rest) (any_both (is_inline_named n x) first frame)
      ∙ ap (λ b. (b || Has n x frame) || Has n x rest) (params_are n x inner j c.of.params (plain_first ps c.of.vars ok.0.plain) (own_first inner j ps c.of.vars own))
      ∙ ap (λ b. (((j == x) && OneOf n ps) || b) || Has n x rest) (law inner j (suc j) c.of (plain_second ps c.of.vars ok.0.plain) (own_second inner j ps c.of.vars own))
      ∙ ap (λ b. (((j == x) && OneOf n ps) || (((j == x) && OneOf n c.of.vars) || at_number made (suc j) n x)) || b)
      (groups_are d law m (j + suc (copies_in fs d c.of)) cs ok.1 ∙ ap (λ i. at_number later i n x) e)
      ∙ four (j == x) (OneOf n ps) (OneOf n c.of.vars) (at_number made (suc j) n x) (at_number later (suc j + length made) n x)
      ∙ ap (λ b. ((j == x) && b) || (at_number made (suc j) n x || at_number later (suc j + length made) n x)) (sym (any_both (is_inline_named n 0) ps c.of.vars))
      ∙ ap (λ b. ((j == x) && inlines_of c.of n) || b) (sym (at_both made later (suc j) n x))

  frame_law : (depth : ℕ) → FrameLaw depth
  frame_law zero m c j g plain own = vars_are n x m c g.vars plain own ∙ sym (or_false ((c == x) && OneOf n g.vars))
  frame_law (suc d) m c j g plain own =
      let gs : List Group = groups (frame_in fs d) (copies_in fs d) m j (calls_in fs (suc d) g.body) in
      any_merged n x m g.vars gs
      ∙ ap (λ b. b || Has n x (all_in gs)) (vars_are n x m c g.vars plain own)
      ∙ ap (λ b. ((c == x) && OneOf n g.vars) || b) (groups_are d (frame_law d) m j (calls_in fs (suc d) g.body) (calls_good fs good (suc d) (statements_of g.body)))

-- ---- the whole

module _ (p : Program) (f : Fun) (good : AllGood p.funs) (own : IsGood f) where
  abbrev Made : Fun
  Made = inlined_function p f

  abbrev Funs : List Fun
  Funs = callees_of (body_of p f)

  names_are : (n : List ℕ) (x : ℕ) → inline_names (variables_of Made) n x ≡ (((0 == x) && inlines_of f n) || at_number Funs 1 n x)
  names_are n x =
      let ps : List Var = map (λ q. q.var) f.params in
      let depth = length p.funs in
      any_both (is_inline_named n x) ps (frame_of p f)
      ∙ ap (λ b. b || Has n x (frame_of p f)) (text_are n x ps (plain_first p.funs good n x ps f.vars own.plain))
      ∙ ap (λ b. ((0 == x) && OneOf n ps) || b) (frame_law p.funs good n x depth own_names 0 1 f (plain_second p.funs good n x ps f.vars own.plain) (λ k q. refl))
      ∙ three (0 == x) (OneOf n ps) (OneOf n f.vars) (at_number (funs_in p.funs depth f) 1 n x)
      ∙ ap (λ b. ((0 == x) && b) || at_number (funs_in p.funs depth f) 1 n x) (sym (any_both (is_inline_named n 0) ps f.vars))
      ∙ ap (λ l. ((0 == x) && inlines_of f n) || at_number l 1 n x) (sym (funs_are p.funs depth f))
    where
      three : (a b c d : Bool) → ((a && b) || ((a && c) || d)) ≡ ((a && (b || c)) || d)
      three true true c d = refl
      three true false c d = refl
      three false b c d = refl

  by_number : (n : List ℕ) (x : ℕ) → inline_names (variables_of Made) n x ≡ inline_in (slice_get (f ∷ Funs) x) n
  by_number n zero = names_are n 0 ∙ ap (λ b. inlines_of f n || b) (at_before Funs 1 n 0 (omega arith)) ∙ or_false (inlines_of f n)
  by_number n (suc k) =
      let e : suc k ≡ 1 + k = omega arith in
      names_are n (suc k) ∙ ap (λ b. (b && inlines_of f n) || at_number Funs 1 n (suc k)) (other_copy 0 (suc k) (omega arith))
      ∙ ap (at_number Funs 1 n) e ∙ at_place Funs 1 k n

has_names : (fs : List Fun) (names : InlineNames) → ((n : List ℕ) (c : ℕ) → names n c ≡ inline_in (slice_get fs c) n) → (t : Block) (c : ℕ) → Numbered fs c t → HasNames names c t
has_names fs names h done c k = tt
has_names fs names h (op o r) c k = has_names fs names h r c k
has_names fs names h (quiet o r) c k = has_names fs names h r c k
has_names fs names h (choose p a b r) c k = (has_names fs names h a c k.0, has_names fs names h b (c + copies a) k.1, has_names fs names h r (c + copies a + copies b) k.2)
has_names fs names h (loop w q p b r) c k = (has_names fs names h q c k.0, has_names fs names h b (c + copies q) k.1, has_names fs names h r (c + copies q + copies b) k.2)
has_names fs names h (each f b r) c k = (has_names fs names h b c k.0, has_names fs names h r (c + copies b) k.1)
has_names fs names h (call q b r) c k = ((λ n. h n c ∙ ap (λ o. inline_in o n) k.0), has_names fs names h b (suc c) k.1, has_names fs names h r (suc c + copies b) k.2)

-- in the function itself, and in each copy
pub frame_names : (p : Program) (f : Fun) → All (HasDeclarations p) p.funs → IsText p → Contains p.funs f
    → ((n : List ℕ) → inline_names (variables_of (inlined_function p f)) n 0 ≡ inlines_of f n) × HasNames (inline_names (variables_of (inlined_function p f))) 1 (body_of p f)
frame_names p f typed text has =
    let good = all_good p p.funs typed text in
    let own = good_from p f (All-contains (HasDeclarations p) p.funs f typed has) (All-contains IsTextFun p.funs f text has) in
    let fs : List Fun = f ∷ callees_of (body_of p f) in
    let number : Numbered fs 1 (body_of p f) = subst (λ l. Numbered (f ∷ l) 1 (body_of p f)) (append-nil (callees_of (body_of p f))) (numbered (body_of p f) (f ∷ []) [] 1 refl) in
    ((λ n. by_number p f good own n 0), has_names fs (inline_names (variables_of (inlined_function p f))) (by_number p f good own) (body_of p f) 1 number)
