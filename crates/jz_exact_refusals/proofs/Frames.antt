-- Each variable of an expansion is a copy of one that a function of the text declares.
use Rattle.std.proofs.Common.{◌≡◌, ℕ, zero, suc, ◌+◌, Bool, true, false, not, List, [], ◌∷◌, ◌++◌, map, length, Option, Some, None, bytes_eq, refl, sym, ap, ◌∙◌, subst, if◌then◌else◌}
use Rattle.std.specs.Prelude.{⊤, All, option_map, option_to_list}
use Rattle.std.specs.List.{flat_map, filter}
use Rattle.std.proofs.lemmas.List.Elements.{All-nil, All-cons, All-head, All-tail, All-append, All-weaker, All-contains, All-filter}
use Rattle.jz_tree.specs.Span.{Span}
use Rattle.jz_tree.specs.declared.expr.BinOp.{BinOp}
use Rattle.jz_tree.specs.declared.expr.Expr.{Expr}
use Rattle.jz_tree.specs.declared.expr.Var.{Var}
use Rattle.jz_tree.specs.declared.expr.Expr.TheViews.{out-Var}
use Rattle.jz_tree.specs.declared.stmt.Rhs.{Rhs}
use Rattle.jz_tree.specs.declared.stmt.Rhs.TheVariants as rhs
use Rattle.jz_tree.specs.declared.stmt.Stmt.{Stmt}
use Rattle.jz_tree.specs.declared.stmt.StmtKind.TheOpen.{StmtKind-F}
use Rattle.jz_tree.specs.declared.program.Fun.{Fun}
use Rattle.jz_tree.specs.declared.program.Param.{Param}
use Rattle.jz_tree.specs.declared.program.Program.{Program}
use Rattle.jz_type_names.specs.Order.{is_before}
use Rattle.jz_type_names.specs.Parts.{Layer, layer_of, statements_of}
use Rattle.jz_type_names.specs.Scopes.{variables_of, function_named}
use Rattle.jz_texts.proofs.Lists.{parted, unmapped}
use Rattle.jz_meaning.specs.Values.{ref_of}
use Rattle.jz_change.specs.Changes.{Change}
use Rattle.jz_bodies.specs.Calls.{is_array}
use Rattle.jz_bodies.proofs.Whole.{IsKnown, all_known}
use Rattle.jz_copies.specs.Called.{called_function}
use Rattle.jz_inline.specs.Names.{Names, var_in}
use Rattle.jz_inline.specs.Calls.{callee_names}
use Rattle.jz_inline.specs.Functions.{own_names}
use Rattle.jz_frames.specs.Frames.{Called, Group, all_in, behind, merged, right_called, layer_called, calls_in, own_params, copies_in, groups, frame_in, frame_of}
use Rattle.jz_frames.specs.InnerFrames.{groups_in}
use Rattle.jz_frames.proofs.Merging.{frame_is}
use Rattle.jz_inlining.specs.Inlined.{inlined_function}
use Rattle.jz_unroll.specs.Values.{is_inline_var}
use Rattle.jz_unrolling_values.specs.InlineNames.{inline_names}
use Rattle.jz_unrolling.specs.Unrolled.{KeepsHead}
use Rattle.jz_scalars.specs.Functions.{function_with_scalars}
use Rattle.jz_safe_expansions.specs.SafeExpansions.{IsExpandedExport}
use Rattle.jz_exact_refusals.proofs.Fitting.{IsFit, all_fit, copied_fit}

abbrev AreFit : List Var → Type 0
AreFit vs = All IsFit vs

abbrev FunFits : Fun → Type 0
FunFits f = AreFit (variables_of f)

-- ---- functions that are called
found_fits : (n : List ℕ) (fs : List Fun) (f : Fun) → All FunFits fs → function_named n fs ≡ Some f → FunFits f
found_fits n [] f h e = absurd cc
found_fits n (g ∷ gs) f h e = by_test (bytes_eq n g.name) (All-head FunFits g gs h) (found_fits n gs f (All-tail FunFits g gs h)) e
  where
    by_test : (b : Bool) → FunFits g → (function_named n gs ≡ Some f → FunFits f) → (if b then Some g else function_named n gs) ≡ Some f → FunFits f
    by_test true here rest s = let is : g ≡ f = cc in subst FunFits is here
    by_test false here rest s = rest s

called_fits : (fs : List Fun) (depth : ℕ) (o : Option BinOp) (n : List ℕ) (c : Option Expr) (f : Fun) → All FunFits fs → called_function fs depth o n c ≡ Some f → FunFits f
called_fits fs zero o n c f h e = absurd cc
called_fits fs (suc d) (Some o) n c f h e = absurd cc
called_fits fs (suc d) None n (Some c) f h e = absurd cc
called_fits fs (suc d) None n None f h e = found_fits n fs f h e

abbrev CallsFit : List Called → Type 0
CallsFit [] = ⊤
CallsFit (c ∷ cs) = FunFits c.of × CallsFit cs

both_fit : (cs ds : List Called) → CallsFit cs → CallsFit ds → CallsFit (cs ++ ds)
both_fit [] ds h k = k
both_fit (c ∷ cs) ds h k = (h.0, both_fit cs ds h.1 k)

module _ (fs : List Fun) (fit : All FunFits fs) (depth : ℕ) where
  one_fits : (x : Option Fun) (args : List Expr) (at : Span) → ((f : Fun) → x ≡ Some f → FunFits f) → CallsFit (option_to_list (option_map (λ f. record { at = at; of = f; args = args }) x))
  one_fits None args at h = tt
  one_fits (Some f) args at h = (h f refl, tt)

  right_fits : (o : Option BinOp) (r : Rhs) (c : Option Expr) → CallsFit (right_called fs depth o r c)
  right_fits o (rhs.Value e) c = tt
  right_fits o (rhs.Call n args at) c = one_fits (called_function fs depth o n c) args at (λ f e. called_fits fs depth o n c f fit e)
  right_fits o (rhs.Intrinsic n args at) c = tt

  layer_fits : (l : Layer) → CallsFit (layer_called fs depth l)
  layer_fits (StmtKind-F.Assign to o r c) = right_fits o r c
  layer_fits (StmtKind-F.If c a b) = tt
  layer_fits (StmtKind-F.While p c b) = tt
  layer_fits (StmtKind-F.For i from down to b) = tt
  layer_fits (StmtKind-F.Mark xs) = tt

  all_calls : (ss : List Stmt) → CallsFit (flat_map (λ s. layer_called fs depth (layer_of s)) ss)
  all_calls [] = tt
  all_calls (s ∷ ss) = both_fit (layer_called fs depth (layer_of s)) (flat_map (λ t. layer_called fs depth (layer_of t)) ss) (layer_fits (layer_of s)) (all_calls ss)

-- ---- variables with what calls bring between them
either : (b : Bool) (xs ys : List Var) → AreFit xs → AreFit ys → AreFit (if b then xs else ys)
either true xs ys h k = h
either false xs ys h k = k

behind_fit : (v : Var) (at : Span) (rest : List Group → List Var) (gs : List Group) → IsFit v → ((hs : List Group) → AreFit (all_in hs) → AreFit (rest hs)) → AreFit (all_in gs) → AreFit (behind v at rest gs)
behind_fit v at rest [] one more h = All-cons IsFit v (rest []) one (more [] h)
behind_fit v at rest (g ∷ gs) one more h =
    let parts = parted IsFit g.vars (all_in gs) h in
    either (is_before g.at at) (g.vars ++ behind v at rest gs) (v ∷ rest (g ∷ gs))
    (All-append IsFit g.vars (behind v at rest gs) parts.0 (behind_fit v at rest gs one more parts.1))
    (All-cons IsFit v (rest (g ∷ gs)) one (more (g ∷ gs) h))

merged_fit : (names : Names) (vs : List Var) → AreFit vs → (gs : List Group) → AreFit (all_in gs) → AreFit (merged names vs gs)
merged_fit names [] h gs k = k
merged_fit names (v ∷ vs) h gs k =
    behind_fit (var_in names v) (out-Var v).span (merged names vs) gs (copied_fit names v (All-head IsFit v vs h)) (λ hs m. merged_fit names vs (All-tail IsFit v vs h) hs m) k

own_fit : (names : Names) (ps : List Param) → All (λ (q : Param). IsFit q.var) ps → AreFit (own_params names ps)
own_fit names [] h = All-nil IsFit
own_fit names (q ∷ ps) h =
    let rest = own_fit names ps (All-tail (λ (x : Param). IsFit x.var) q ps h) in
    either (is_array (ref_of q.var).kind) (own_params names ps) (var_in names q.var ∷ own_params names ps) rest
    (All-cons IsFit (var_in names q.var) (own_params names ps) (copied_fit names q.var (All-head (λ (x : Param). IsFit x.var) q ps h)) rest)

-- ---- what calls bring
abbrev AllGroups : List Fun → ℕ → Type 0
AllGroups fs depth = (names : Names) (j : ℕ) (cs : List Called) → CallsFit cs → AreFit (all_in (groups_in fs depth names j cs))

module _ (fs : List Fun) (fit : All FunFits fs) (d : ℕ) (below : AllGroups fs d) where
  pub frame_fit : (names : Names) (j : ℕ) (f : Fun) → AreFit f.vars → AreFit (frame_in fs d names j f)
  frame_fit names j f h =
      subst AreFit (sym (frame_is fs d names j f))
      (merged_fit names f.vars h (groups_in fs d names j (calls_in fs d f.body)) (below names j (calls_in fs d f.body) (all_calls fs fit d (statements_of f.body))))

  list_fit : (names : Names) (j : ℕ) (cs : List Called) → CallsFit cs → AreFit (all_in (groups_in fs (suc d) names j cs))
  list_fit names j [] h = All-nil IsFit
  list_fit names j (c ∷ cs) h =
      let inner : Names = callee_names names j c.of.params c.args in
      let own : List Var = own_params inner c.of.params in
      let more : List Var = frame_in fs d inner (suc j) c.of in
      let parts = parted IsFit (map (λ (q : Param). q.var) c.of.params) c.of.vars h.0 in
      All-append IsFit (own ++ more) (all_in (groups (frame_in fs d) (copies_in fs d) names (j + suc (copies_in fs d c.of)) cs))
      (All-append IsFit own more (own_fit inner c.of.params (unmapped IsFit (λ (q : Param). q.var) c.of.params parts.0)) (frame_fit inner (suc j) c.of parts.1))
      (list_fit names (j + suc (copies_in fs d c.of)) cs h.1)

all_groups : (fs : List Fun) → All FunFits fs → (depth : ℕ) → AllGroups fs depth
all_groups fs fit zero = λ names j cs h. All-nil IsFit
all_groups fs fit (suc d) = λ names j cs h. list_fit fs fit d (all_groups fs fit d) names j cs h

-- ---- an expansion
module _ (p : Program) (f g : Fun) (k : Change) (count : ℕ) (x : IsExpandedExport p f g k count) where
  known : All (IsKnown p) p.funs
  known = all_known p x.typed x.text

  funs_fit : All FunFits p.funs
  funs_fit = All-weaker (IsKnown p) FunFits (λ h k. all_fit p h k) p.funs known

  abbrev params : List Var
  params = map (λ (q : Param). q.var) f.params

  own : AreFit params × AreFit f.vars
  own = parted IsFit params f.vars (All-contains FunFits p.funs f funs_fit x.there)

  frame : AreFit (frame_of p f)
  frame = frame_fit p.funs funs_fit (length p.funs) (all_groups p.funs funs_fit (length p.funs)) own_names 1 f own.1

  abbrev keep : Var → Bool
  keep v = not (is_inline_var (inline_names (variables_of (inlined_function p f))) v)

  left : (u : Fun) → KeepsHead (inlined_function p f) u → variables_of (function_with_scalars u) ≡ params ++ filter keep (frame_of p f)
  left u head = ap (λ ps. map (λ (q : Param). q.var) ps ++ u.vars) head.params ∙ ap (λ vs. params ++ vs) head.vars

  pub expansion_fits : All IsFit (variables_of g)
  expansion_fits =
      subst (λ (h : Fun). All IsFit (variables_of h)) (sym x.expansion.function)
      (subst (λ vs. All IsFit vs) (sym (left x.expansion.unrolled x.expansion.head))
      (All-append IsFit params (filter keep (frame_of p f)) own.0 (All-filter keep IsFit (frame_of p f) frame)))
