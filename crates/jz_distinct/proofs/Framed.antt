-- The variables of a function with those of all that it calls.
use Rattle.std.proofs.Common.{◌≡◌, ℕ, zero, suc, ◌+◌, ◌<◌, Bool, true, false, List, [], ◌∷◌, ◌++◌, map, length, Option, Some, None, refl, sym, ◌∙◌, subst, arith}
use Rattle.std.specs.Prelude.{⊤, if◌then◌else◌, All, Contains, option_map, option_to_list}
use Rattle.std.specs.List.{flat_map}
use Rattle.std.specs.Str.{bytes_eq}
use Rattle.std.proofs.lemmas.List.Elements.{All-head, All-tail, All-contains}
use Rattle.jz_tree.specs.Span.{Span}
use Rattle.jz_tree.specs.declared.expr.BinOp.{BinOp}
use Rattle.jz_tree.specs.declared.expr.Expr.{Expr}
use Rattle.jz_tree.specs.declared.expr.Var.{Var}
use Rattle.jz_tree.specs.declared.stmt.Rhs.{Rhs}
use Rattle.jz_tree.specs.declared.stmt.Rhs.TheVariants as rhs
use Rattle.jz_tree.specs.declared.stmt.Stmt.{Stmt}
use Rattle.jz_tree.specs.declared.stmt.StmtKind.TheOpen.{StmtKind-F}
use Rattle.jz_tree.specs.declared.program.Fun.{Fun}
use Rattle.jz_tree.specs.declared.program.Program.{Program}
use Rattle.jz_type_names.specs.Parts.{Layer, layer_of, statements_of}
use Rattle.jz_type_names.specs.Scopes.{variables_of, function_named}
use Rattle.jz_texts.specs.Texts.{IsText, IsTextFun, IsPlain}
use Rattle.jz_texts.specs.Declared.{HasDeclarations}
use Rattle.jz_bodies.proofs.Refs.{ref_copy}
use Rattle.jz_copies.specs.Called.{called_function}
use Rattle.jz_inline.specs.Names.{Names, var_in}
use Rattle.jz_inline.specs.Calls.{callee_names}
use Rattle.jz_inline.specs.Functions.{own_names}
use Rattle.jz_frames.specs.Frames.{Called, Group, all_in, merged, right_called, layer_called, calls_in, own_params, copies_in, groups, frame_in, frame_of}
use Rattle.jz_frames.specs.InnerFrames.{groups_in, all_copies, needed}
use Rattle.jz_frames.proofs.Merging.{frame_is}
use Rattle.jz_frames.proofs.Needed.{copies_needed}
use Rattle.jz_inlining.specs.Inlined.{inlined_function}
use Rattle.jz_declared.specs.Declared.{Differ}
use Rattle.jz_distinct.proofs.Differing.{EachOther, other_merged, differ_both, differ_merged, CopiesIn, copies_both, copies_wider, each_by_copies, copies_merged}
use Rattle.jz_distinct.proofs.Copied.{Pairwise, pairwise_from, pairs_first, pairs_second, vars_of, AreSane, copied_in, differ_copied, callee_sane, own_are, plain_differ, named_apart}

-- ---- functions whose names differ
abbrev IsGood : Fun → Type 0
IsGood f = Pairwise (variables_of f)

abbrev AllGood : List Fun → Type 0
AllGood [] = ⊤
AllGood (f ∷ fs) = IsGood f × AllGood fs

good_from : (q : Program) (fs : List Fun) → All (HasDeclarations q) fs → AllGood fs
good_from q [] h = tt
good_from q (f ∷ fs) h = (pairwise_from (variables_of f) (All-head (HasDeclarations q) f fs h).differ, good_from q fs (All-tail (HasDeclarations q) f fs h))

found_good : (n : List ℕ) (fs : List Fun) (f : Fun) → AllGood fs → function_named n fs ≡ Some f → IsGood f
found_good n [] f h e = absurd cc
found_good n (g ∷ gs) f h e = by_test (bytes_eq n g.name) (found_good n gs f h.1) e
  where
    by_test : (b : Bool) → (function_named n gs ≡ Some f → IsGood f) → (if b then Some g else function_named n gs) ≡ Some f → IsGood f
    by_test true rest s = let is : g ≡ f = cc in subst IsGood is h.0
    by_test false rest s = rest s

called_good : (fs : List Fun) (depth : ℕ) (o : Option BinOp) (n : List ℕ) (c : Option Expr) (f : Fun) → AllGood fs → called_function fs depth o n c ≡ Some f → IsGood f
called_good fs zero o n c f h e = absurd cc
called_good fs (suc d) (Some o) n c f h e = absurd cc
called_good fs (suc d) None n (Some c) f h e = absurd cc
called_good fs (suc d) None n None f h e = found_good n fs f h e

abbrev CallsGood : List Called → Type 0
CallsGood [] = ⊤
CallsGood (c ∷ cs) = IsGood c.of × CallsGood cs

both_good : (cs ds : List Called) → CallsGood cs → CallsGood ds → CallsGood (cs ++ ds)
both_good [] ds h k = k
both_good (c ∷ cs) ds h k = (h.0, both_good cs ds h.1 k)

module _ (fs : List Fun) (good : AllGood fs) (depth : ℕ) where
  one_good : (x : Option Fun) (args : List Expr) (at : Span) → ((f : Fun) → x ≡ Some f → IsGood f) → CallsGood (option_to_list (option_map (λ f. record { at = at; of = f; args = args }) x))
  one_good None args at h = tt
  one_good (Some f) args at h = (h f refl, tt)

  right_good : (o : Option BinOp) (r : Rhs) (c : Option Expr) → CallsGood (right_called fs depth o r c)
  right_good o (rhs.Value e) c = tt
  right_good o (rhs.Call n args at) c = one_good (called_function fs depth o n c) args at (λ f e. called_good fs depth o n c f good e)
  right_good o (rhs.Intrinsic n args at) c = tt

  layer_good : (l : Layer) → CallsGood (layer_called fs depth l)
  layer_good (StmtKind-F.Assign to o r c) = right_good o r c
  layer_good (StmtKind-F.If c a b) = tt
  layer_good (StmtKind-F.While p c b) = tt
  layer_good (StmtKind-F.For i from down to b) = tt
  layer_good (StmtKind-F.Mark xs) = tt

  all_calls : (ss : List Stmt) → CallsGood (flat_map (λ s. layer_called fs depth (layer_of s)) ss)
  all_calls [] = tt
  all_calls (s ∷ ss) = both_good (layer_called fs depth (layer_of s)) (flat_map (λ t. layer_called fs depth (layer_of t)) ss) (layer_good (layer_of s)) (all_calls ss)

-- ---- what calls bring
abbrev GroupsGood : List Fun → ℕ → Names → ℕ → List Called → Type 0
GroupsGood fs depth names j cs = Differ (all_in (groups_in fs depth names j cs)) × CopiesIn j (j + needed fs depth cs) (all_in (groups_in fs depth names j cs))

each_merged : (xs : List Var) (names : Names) (vs : List Var) (gs : List Group) → EachOther xs (map (var_in names) vs) → EachOther xs (all_in gs) → EachOther xs (merged names vs gs)
each_merged [] names vs gs h g = tt
each_merged (x ∷ xs) names vs gs h g = (other_merged x names vs gs h.0 g.0, each_merged xs names vs gs h.1 g.1)

record FrameGood (fs : List Fun) (depth : ℕ) (names : Names) (c j : ℕ) (f : Fun) : Type 0 where
  pub differ : Differ (frame_in fs depth names j f)
  pub copies : CopiesIn c (j + copies_in fs depth f) (frame_in fs depth names j f)
  pub apart : (xs : List Var) (lo : ℕ) → CopiesIn lo j xs → EachOther xs (map (var_in names) f.vars) → EachOther xs (frame_in fs depth names j f)

frame_good : (fs : List Fun) (depth : ℕ) (names : Names) (c j : ℕ) (f : Fun) → c < j → AreSane names c f.vars → Pairwise f.vars → GroupsGood fs depth names j (calls_in fs depth f.body) → FrameGood fs depth names c j f
frame_good fs depth names c j f less sane pairs groups_ok =
    let cs = calls_in fs depth f.body in
    let gs = groups_in fs depth names j cs in
    let is = frame_is fs depth names j f in
    let count = copies_needed fs depth f in
    let own = copied_in names c f.vars sane in
    record {
      differ = subst Differ (sym is) (differ_merged names f.vars gs (differ_copied names c f.vars sane pairs) groups_ok.0 (each_by_copies c (suc c) j (j + needed fs depth cs) (map (var_in names) f.vars) (all_in gs) (omega (arith, less)) own groups_ok.1));
      copies = subst (CopiesIn c (j + copies_in fs depth f)) (sym is)
          (copies_merged c (j + copies_in fs depth f) names f.vars gs
          (copies_wider c (suc c) c (j + copies_in fs depth f) (map (var_in names) f.vars) (omega arith) (omega (arith, less)) own)
          (copies_wider j (j + needed fs depth cs) c (j + copies_in fs depth f) (all_in gs) (omega (arith, less)) (omega (arith, count)) groups_ok.1));
      apart = λ xs lo h k. subst (EachOther xs) (sym is) (each_merged xs names f.vars gs k (each_by_copies lo j j (j + needed fs depth cs) xs (all_in gs) (omega arith) h groups_ok.1));
    }

abbrev AllGroups : List Fun → ℕ → Type 0
AllGroups fs depth = (names : Names) (j : ℕ) (cs : List Called) → CallsGood cs → GroupsGood fs depth names j cs

record CallGood (fs : List Fun) (d : ℕ) (names : Names) (j : ℕ) (c : Called) : Type 0 where
  pub differ : Differ (own_params (callee_names names j c.of.params c.args) c.of.params ++ frame_in fs d (callee_names names j c.of.params c.args) (suc j) c.of)
  pub copies : CopiesIn j (j + suc (copies_in fs d c.of)) (own_params (callee_names names j c.of.params c.args) c.of.params ++ frame_in fs d (callee_names names j c.of.params c.args) (suc j) c.of)

module _ (fs : List Fun) (good : AllGood fs) (d : ℕ) (below : AllGroups fs d) where
  call_good : (names : Names) (j : ℕ) (c : Called) → IsGood c.of → CallGood fs d names j c
  call_good names j c ok =
      let inner : Names = callee_names names j c.of.params c.args in
      let sane = callee_sane names j c.of.params c.args c.of.vars ok in
      let own = own_are names j c.of.params c.args c.of.vars ok in
      let frame = frame_good fs d inner j (suc j) c.of (omega arith) sane (pairs_second (vars_of c.of.params) c.of.vars ok) (below inner (suc j) (calls_in fs d c.of.body) (all_calls fs good d (statements_of c.of.body))) in
      record {
        differ = differ_both (own_params inner c.of.params) (frame_in fs d inner (suc j) c.of) own.differ frame.differ (frame.apart (own_params inner c.of.params) j own.copies own.apart);
        copies = copies_both j (j + suc (copies_in fs d c.of)) (own_params inner c.of.params) (frame_in fs d inner (suc j) c.of)
            (copies_wider j (suc j) j (j + suc (copies_in fs d c.of)) (own_params inner c.of.params) (omega arith) (omega arith) own.copies)
            (copies_wider j (suc j + copies_in fs d c.of) j (j + suc (copies_in fs d c.of)) (frame_in fs d inner (suc j) c.of) (omega arith) (omega arith) frame.copies);
      }

  list_good : (names : Names) (j : ℕ) (cs : List Called) → CallsGood cs → GroupsGood fs (suc d) names j cs
  list_good names j [] ok = (tt, tt)
  list_good names j (c ∷ cs) ok =
      let inner : Names = callee_names names j c.of.params c.args in
      let first : List Var = own_params inner c.of.params ++ frame_in fs d inner (suc j) c.of in
      let next : ℕ = j + suc (copies_in fs d c.of) in
      let rest : List Var = all_in (groups (frame_in fs d) (copies_in fs d) names next cs) in
      let one = call_good names j c ok.0 in
      let more = list_good names next cs ok.1 in (
        differ_both first rest one.differ more.0 (each_by_copies j next next (next + all_copies (copies_in fs d) cs) first rest (omega arith) one.copies more.1),
        copies_both j (j + (suc (copies_in fs d c.of) + all_copies (copies_in fs d) cs)) first rest
            (copies_wider j next j (j + (suc (copies_in fs d c.of) + all_copies (copies_in fs d) cs)) first (omega arith) (omega arith) one.copies)
            (copies_wider next (next + all_copies (copies_in fs d) cs) j (j + (suc (copies_in fs d c.of) + all_copies (copies_in fs d) cs)) rest (omega arith) (omega arith) more.1),
      )

all_groups : (fs : List Fun) → AllGood fs → (depth : ℕ) → AllGroups fs depth
all_groups fs good zero = λ names j cs ok. (tt, tt)
all_groups fs good (suc d) = λ names j cs ok. list_good fs good d (all_groups fs good d) names j cs ok

-- ---- the whole
own_are_sane : (vs : List Var) → AreSane own_names 0 vs
own_are_sane [] = tt
own_are_sane (v ∷ vs) = (refl, own_are_sane vs)

plain_copies : (xs ys : List Var) → All IsPlain (xs ++ ys) → CopiesIn 0 1 xs
plain_copies [] ys h = tt
plain_copies (x ∷ xs) ys h = let e = ref_copy x ∙ (All-head IsPlain x (xs ++ ys) h).0 in (omega arith, omega (arith, e), plain_copies xs ys (All-tail IsPlain x (xs ++ ys) h))

pub copies_differ : (p : Program) (f : Fun) → AllGood p.funs → IsGood f → IsTextFun f → Differ (variables_of (inlined_function p f))
copies_differ p f good ok text =
    let n = length p.funs in
    let frame = frame_good p.funs n own_names 0 1 f (omega arith) (own_are_sane f.vars) (pairs_second (vars_of f.params) f.vars ok) (all_groups p.funs good n own_names 1 (calls_in p.funs n f.body) (all_calls p.funs good n (statements_of f.body))) in
    differ_both (vars_of f.params) (frame_of p f) (plain_differ (vars_of f.params) (pairs_first (vars_of f.params) f.vars ok)) frame.differ
    (frame.apart (vars_of f.params) 0 (plain_copies (vars_of f.params) f.vars text.declared) (named_apart (vars_of f.params) own_names 0 f.vars (own_are_sane f.vars) ok))

good_in : (fs : List Fun) (f : Fun) (q : Program) → All (HasDeclarations q) fs → Contains fs f → IsGood f
good_in fs f q h c = pairwise_from (variables_of f) (All-contains (HasDeclarations q) fs f h c).differ

pub typed_differ : (p : Program) (f : Fun) → All (HasDeclarations p) p.funs → IsText p → Contains p.funs f → Differ (variables_of (inlined_function p f))
typed_differ p f h text c = copies_differ p f (good_from p p.funs h) (good_in p.funs f p h c) (All-contains IsTextFun p.funs f text c)
