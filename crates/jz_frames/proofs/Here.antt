-- What a statement that is a call brings.
use Rattle.std.proofs.Common.{◌≡◌, ℕ, zero, suc, ◌+◌, ◌-◌, List, [], ◌∷◌, ◌++◌, length, drop, map, refl, sym, ap, ◌∙◌, subst, arith, drop-drop}
use Rattle.std.specs.Borrow.{Bor}
use Rattle.jz_type_names.specs.Lent.{these}
use Rattle.jz_tree.specs.declared.expr.Var.{Var}
use Rattle.jz_tree.specs.declared.program.Fun.{Fun}
use Rattle.jz_tree.specs.declared.stmt.Rhs.TheVariants as rhs
use Rattle.jz_tree.specs.declared.stmt.StmtKind.TheOpen.{StmtKind-F}
use Rattle.jz_type_names.specs.Parts.{Layer}
use Rattle.jz_inline.specs.Names.{Names, var_in}
use Rattle.jz_inline.specs.Calls.{callee_names}
use Rattle.jz_frames.specs.declared.frame.Frame.{Frame}
use Rattle.jz_frames.specs.Frames.{Called, own_params, frame_in, copies_in, layer_called}
use Rattle.jz_frames.specs.InnerFrames.{ahead, Brings}
use Rattle.jz_frames.proofs.Merging.{call_brings}

none_deep : (fs : List Fun) (k : Layer) → layer_called fs zero k ≡ []
none_deep fs (StmtKind-F.Assign to o (rhs.Value e) c) = refl
none_deep fs (StmtKind-F.Assign to o (rhs.Call n args at) c) = refl
none_deep fs (StmtKind-F.Assign to o (rhs.Intrinsic n args at) c) = refl
none_deep fs (StmtKind-F.If c a b) = refl
none_deep fs (StmtKind-F.While p c b) = refl
none_deep fs (StmtKind-F.For i from down to b) = refl
none_deep fs (StmtKind-F.Mark vs) = refl

pub none_these : {A : Type 0} (xs : List (Bor A)) → length xs ≡ 0 → these xs ≡ []
none_these [] e = refl
none_these (x ∷ xs) e = absurd (omega (arith, e))

pub one_brings : (fs : List Fun) (left : ℕ) (names : Names) (k : Layer) (c : Called) (before now : Frame) (declared at : ℕ) (vars : List Var)
    → layer_called fs left k ≡ c ∷ []
    → now.vars ≡ ((before.vars ++ map (var_in names) (ahead c.at (drop declared vars))) ++ own_params (callee_names names before.next c.of.params c.args) c.of.params)
    ++ frame_in fs (left - 1) (callee_names names before.next c.of.params c.args) (before.next + 1) c.of
    → now.next ≡ (before.next + 1) + copies_in fs (left - 1) c.of
    → at ≡ declared + length (ahead c.at (drop declared vars))
    → Brings fs left names (layer_called fs left k) before now (drop declared vars) (drop at vars)
one_brings fs zero names k c before now declared at vars is h e a =
    let none : [] ≡ c ∷ [] = sym (none_deep fs k) ∙ is in absurd cc
one_brings fs (suc depth) names k c before now declared at vars is h e a =
    let less : suc depth - 1 ≡ depth = omega arith in
    let one : before.next + 1 ≡ suc before.next = omega arith in
    let inner : Names = callee_names names before.next c.of.params c.args in
    let vs : List Var = drop declared vars in
    let n : ℕ = length (ahead c.at vs) in
    let rest : drop at vars ≡ drop n vs = ap (λ i. drop i vars) a ∙ sym (drop-drop n declared vars) in
    let brings : Brings fs (suc depth) names (c ∷ []) before now vs (drop n vs) =
    call_brings fs depth names c before now vs
    (h ∙ ap (λ d. ((before.vars ++ map (var_in names) (ahead c.at vs)) ++ own_params inner c.of.params) ++ frame_in fs d inner (before.next + 1) c.of) less
    ∙ ap (λ j. ((before.vars ++ map (var_in names) (ahead c.at vs)) ++ own_params inner c.of.params) ++ frame_in fs depth inner j c.of) one)
    (let m = ap (λ d. copies_in fs d c.of) less in omega (arith, e, m)) in
    subst (λ cs. Brings fs (suc depth) names cs before now vs (drop at vars)) (sym is)
    (subst (λ l. Brings fs (suc depth) names (c ∷ []) before now vs l) (sym rest) brings)
