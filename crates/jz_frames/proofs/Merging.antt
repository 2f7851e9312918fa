-- Variables with what calls bring between them, one call after another.
use Rattle.std.proofs.Common.{◌≡◌, ℕ, zero, suc, ◌+◌, ◌≤◌, Bool, true, false, if◌then◌else◌, List, [], ◌∷◌, ◌++◌, length, drop, map, refl, sym, ap, ap₂, ◌∙◌, arith, append_assoc}
use Rattle.jz_tree.specs.declared.expr.Var.{Var}
use Rattle.jz_tree.specs.declared.expr.Expr.TheViews.{out-Var}
use Rattle.jz_tree.specs.declared.program.Fun.{Fun}
use Rattle.jz_type_names.specs.Order.{is_before}
use Rattle.jz_inline.specs.Names.{Names, var_in}
use Rattle.jz_inline.specs.Calls.{callee_names}
use Rattle.jz_frames.specs.declared.frame.Frame.{Frame}
use Rattle.jz_frames.specs.Frames.{Called, Group, behind, merged, groups, own_params, frame_in, copies_in, calls_in}
use Rattle.jz_frames.specs.InnerFrames.{ahead, groups_in, all_copies, needed, IsGrown, Brings}

-- ---- lists

-- without calls between them
pub none_between : (names : Names) (vs : List Var) → merged names vs [] ≡ map (var_in names) vs
none_between names [] = refl
none_between names (v ∷ vs) = ap (λ l. var_in names v ∷ l) (none_between names vs)

-- before the first of what calls bring
pub first_between : (names : Names) (vs : List Var) (g : Group) (gs : List Group)
    → merged names vs (g ∷ gs) ≡ map (var_in names) (ahead g.at vs) ++ (g.vars ++ merged names (drop (length (ahead g.at vs)) vs) gs)
first_between names [] g gs = refl
first_between names (v ∷ vs) g gs = by_test (is_before g.at (out-Var v).span) (first_between names vs g gs)
  where
    by_test : (b : Bool)
        → merged names vs (g ∷ gs) ≡ map (var_in names) (ahead g.at vs) ++ (g.vars ++ merged names (drop (length (ahead g.at vs)) vs) gs)
        → (if b then g.vars ++ behind (var_in names v) (out-Var v).span (merged names vs) gs else (var_in names v ∷ merged names vs (g ∷ gs)))
        ≡ map (var_in names) (if b then [] else (v ∷ ahead g.at vs)) ++ (g.vars ++ merged names (drop (length (if b then [] else (v ∷ ahead g.at vs))) (v ∷ vs)) gs)
    by_test true h = refl
    by_test false h = ap (λ l. var_in names v ∷ l) h

grouped : {A : Type 0} (a m o f r : List A) → a ++ (m ++ ((o ++ f) ++ r)) ≡ (((a ++ m) ++ o) ++ f) ++ r
grouped a m o f r =
    sym
    (append_assoc ((a ++ m) ++ o) f r ∙ append_assoc (a ++ m) o (f ++ r) ∙ append_assoc a m (o ++ (f ++ r))
    ∙ ap (λ l. a ++ (m ++ l)) (sym (append_assoc o f r)))

-- ---- calls

pub no_call_brings : (fs : List Fun) (left : ℕ) (names : Names) (out : Frame) (vs : List Var) → Brings fs left names [] out out vs vs
no_call_brings fs zero names out vs = record { vars = λ cs. refl; next = omega arith }
no_call_brings fs (suc depth) names out vs = record { vars = λ cs. refl; next = omega arith }

pub call_brings : (fs : List Fun) (depth : ℕ) (names : Names) (c : Called) (before now : Frame) (vs : List Var)
    → now.vars ≡ ((before.vars ++ map (var_in names) (ahead c.at vs)) ++ own_params (callee_names names before.next c.of.params c.args) c.of.params)
    ++ frame_in fs depth (callee_names names before.next c.of.params c.args) (suc before.next) c.of
    → now.next ≡ before.next + suc (copies_in fs depth c.of)
    → Brings fs (suc depth) names (c ∷ []) before now vs (drop (length (ahead c.at vs)) vs)
call_brings fs depth names c before now vs h e =
    let inner : Names = callee_names names before.next c.of.params c.args in
    let more : List Var = frame_in fs depth inner (suc before.next) c.of in
    let own : List Var = own_params inner c.of.params in
    let rest : List Var = drop (length (ahead c.at vs)) vs in
    record {
      vars = λ cs.
          let gs : ℕ → List Group = λ j. groups (frame_in fs depth) (copies_in fs depth) names j cs in
          ap (λ l. before.vars ++ l) (first_between names vs (record { at = c.at; vars = own ++ more }) (gs (before.next + suc (copies_in fs depth c.of))))
          ∙ grouped before.vars (map (var_in names) (ahead c.at vs)) own more (merged names rest (gs (before.next + suc (copies_in fs depth c.of))))
          ∙ ap₂ (λ l j. l ++ merged names rest (gs j)) (sym h) (sym e);
      next = omega (arith, e);
    }

-- ---- a function

pub frame_is : (fs : List Fun) (left : ℕ) (names : Names) (j : ℕ) (f : Fun)
    → frame_in fs left names j f ≡ merged names f.vars (groups_in fs left names j (calls_in fs left f.body))
frame_is fs zero names j f = sym (none_between names f.vars)
frame_is fs (suc depth) names j f = refl

none_grouped : (fs : List Fun) (left : ℕ) (names : Names) (j : ℕ) → groups_in fs left names j [] ≡ []
none_grouped fs zero names j = refl
none_grouped fs (suc depth) names j = refl

pub none_needed : (fs : List Fun) (left : ℕ) → needed fs left [] ≡ 0
none_needed fs zero = refl
none_needed fs (suc depth) = refl

all_both : (copies : Fun → ℕ) (cs ds : List Called) → all_copies copies (cs ++ ds) ≡ all_copies copies cs + all_copies copies ds
all_both copies [] ds = omega arith
all_both copies (c ∷ cs) ds = omega (arith, all_both copies cs ds)

pub both_needed : (fs : List Fun) (left : ℕ) (cs ds : List Called) → needed fs left (cs ++ ds) ≡ needed fs left cs + needed fs left ds
both_needed fs zero cs ds = omega arith
both_needed fs (suc depth) cs ds = all_both (copies_in fs depth) cs ds

-- what is there of a function, with these variables and calls to come
pub record IsBegun (fs : List Fun) (left : ℕ) (names : Names) (f : Fun) (before now : Frame) (rest : List Var) (calls : List Called) : Type 0 where
  pub vars : now.vars ++ merged names rest (groups_in fs left names now.next calls) ≡ before.vars ++ frame_in fs left names before.next f
  pub next : now.next + needed fs left calls ≡ before.next + copies_in fs left f

pub all_to_come : (fs : List Fun) (left : ℕ) (names : Names) (f : Fun) (before : Frame) (cs : List Called)
    → cs ≡ calls_in fs left f.body → needed fs left (calls_in fs left f.body) ≡ copies_in fs left f
    → IsBegun fs left names f before before f.vars cs
all_to_come fs left names f before cs e n =
    record {
      vars = ap (λ l. before.vars ++ merged names f.vars (groups_in fs left names before.next l)) e ∙ ap (λ l. before.vars ++ l) (sym (frame_is fs left names before.next f));
      next = ap (λ l. before.next + needed fs left l) e ∙ ap (λ k. before.next + k) n;
    }

pub one_fits : (fs : List Fun) (left : ℕ) (names : Names) (f : Fun) (before now : Frame) (rest : List Var) (here calls : List Called) (most : ℕ)
    → IsBegun fs left names f before now rest (here ++ calls) → before.next + copies_in fs left f ≤ most → now.next + needed fs left here ≤ most
one_fits fs left names f before now rest here calls most h le = omega (arith, h.next, le, both_needed fs left here calls)

pub one_more : (fs : List Fun) (left : ℕ) (names : Names) (f : Fun) (before now next : Frame) (rest less : List Var) (here calls : List Called)
    → IsBegun fs left names f before now rest (here ++ calls) → Brings fs left names here now next rest less
    → IsBegun fs left names f before next less calls
one_more fs left names f before now next rest less here calls h b =
    record {
      vars = sym (b.vars calls) ∙ h.vars;
      next = omega (arith, h.next, b.next, both_needed fs left here calls);
    }

pub all_there : (fs : List Fun) (left : ℕ) (names : Names) (f : Fun) (before now : Frame) (rest : List Var) (vars : List Var)
    → IsBegun fs left names f before now rest [] → vars ≡ now.vars ++ map (var_in names) rest
    → IsGrown before (record { vars = vars; next = now.next }) (frame_in fs left names before.next f) (copies_in fs left f)
all_there fs left names f before now rest vars h e =
    record {
      vars =
          e ∙ ap (λ l. now.vars ++ l) (sym (none_between names rest))
          ∙ ap (λ gs. now.vars ++ merged names rest gs) (sym (none_grouped fs left names now.next)) ∙ h.vars;
      next = omega (arith, h.next, none_needed fs left);
    }
