-- The parameters of a function of a typed program.
use Rattle.std.proofs.Common.{◌≡◌, ℕ, zero, suc, ◌+◌, ◌<◌, ◌≤◌, Bool, true, false, not, ◌&&◌, ◌||◌, List, [], ◌∷◌, ◌++◌, length, get_or, map, refl, sym, ap, ◌∙◌, subst, arith, rules}
use Rattle.std.specs.Prelude.{All, AllPairs, nat_le, ◌==◌}
use Rattle.std.specs.List.{list_all}
use Rattle.std.specs.Str.{bytes_eq}
use Rattle.std.proofs.lemmas.List.{length-map}
use Rattle.std.proofs.lemmas.Bool.{and_parts, false≢true}
use Rattle.std.proofs.lemmas.List.Elements.{All-nil, All-cons, All-head, All-tail, All-map, All-weaker}
use Rattle.jz_tree.specs.declared.expr.Var.{Var}
use Rattle.jz_tree.specs.declared.expr.Expr.TheViews.{out-Var, roll-out-Var}
use Rattle.jz_tree.specs.declared.expr.Expr.TheFolds.{fold-roll-Var}
use Rattle.jz_tree.specs.declared.program.Fun.{Fun}
use Rattle.jz_tree.specs.declared.program.Param.{Param}
use Rattle.jz_tree.specs.declared.program.Program.{Program}
use Rattle.jz_annotations.specs.declared.precondition.Pre.{Pre}
use Rattle.jz_type_names.specs.Scopes.{constant_place, variables_of}
use Rattle.jz_type_names.proofs.Empty.{passed, all_empty, no_member}
use Rattle.jz_type_rows.specs.Exports.{is_exported, has_shape, is_word_param, is_word_result, misshapen_places}
use Rattle.jz_type_rows.specs.Programs.{in_functions}
use Rattle.jz_resolve.specs.Numbering as numbering
use Rattle.jz_resolve.specs.Numbering.{values_of}
use Rattle.jz_resolve.specs.Programs.{counted_param, resolved_whole, resolved_program}
use Rattle.jz_types.specs.TypedPrograms.{IsTypedProgram}
use Rattle.jz_types.specs.declared.fault.TypeRule.TheVariants as rule
use Rattle.jz_meaning.specs.Values.{Ref, expr_step, ty_step, access_step, decl_step, var_step, ref_of}
use Rattle.jz_texts.specs.Texts.{IsText}
use Rattle.jz_texts.specs.Declared.{AreApart, HasDeclarations}
use Rattle.jz_texts.proofs.Lists.{pairs_head, pairs_tail}
use Rattle.jz_texts.proofs.Declaring.{declarations_law}
use Rattle.jz_layers.specs.Spots.{variable_key}
use Rattle.jz_meaning.specs.States.{same_key, same_cell}
use Rattle.jz_fact_sets.specs.declared.given.Parameter.{Parameter}
use Rattle.jz_fact_sets.specs.Kept.{is_parameter, AreDifferent}
use Rattle.jz_given.specs.Giving.{param_of}
use Rattle.jz_given_laws.specs.GivenLaws.{HasDifferent, HasFew, DifferLaw, FewLaw}

-- ---- different

ref_name : (v : Var) → (ref_of v).name ≡ (out-Var v).name
ref_name v = ap (λ w. (ref_of w).name) (sym (roll-out-Var v)) ∙ ap (λ (r : Ref). r.name) (fold-roll-Var _ _ _ _ _ expr_step ty_step access_step decl_step var_step (out-Var v))

other_key : (v w : Var) → AreApart w v → same_key (variable_key v) (variable_key w) ≡ false
other_key v w h =
    let e : bytes_eq (ref_of v).name (ref_of w).name ≡ false = ap (λ n. bytes_eq n (ref_of w).name) (ref_name v) ∙ ap (bytes_eq (out-Var v).name) (ref_name w) ∙ h.other in
    ap (λ b. b && ((ref_of v).copy == (ref_of w).copy && same_cell (ref_of v).cell (ref_of w).cell)) e

module _ (ps : List Pre) where
  none_is : (v : Var) (params : List Param) → All (λ (p : Param). AreApart v p.var) params → is_parameter (map (param_of ps) params) (variable_key v) ≡ false
  none_is v [] h = refl
  none_is v (p ∷ params) h =
      ap (λ b. b || is_parameter (map (param_of ps) params) (variable_key v)) (other_key p.var v (All-head (λ (q : Param). AreApart v q.var) p params h))
      ∙ none_is v params (All-tail (λ (q : Param). AreApart v q.var) p params h)

  front_apart : (v : Var) (params : List Param) (vs : List Var) → All (AreApart v) (map (λ (p : Param). p.var) params ++ vs) → All (λ (p : Param). AreApart v p.var) params
  front_apart v [] vs h = All-nil (λ (p : Param). AreApart v p.var)
  front_apart v (p ∷ params) vs h =
      All-cons (λ (q : Param). AreApart v q.var) p params (All-head (AreApart v) p.var (map (λ (p : Param). p.var) params ++ vs) h)
      (front_apart v params vs (All-tail (AreApart v) p.var (map (λ (p : Param). p.var) params ++ vs) h))

  all_different : (params : List Param) (vs : List Var) → AllPairs AreApart (map (λ (p : Param). p.var) params ++ vs) → AreDifferent (map (param_of ps) params)
  all_different [] vs h = tt
  all_different (p ∷ params) vs h =
      (none_is p.var params (front_apart p.var params vs (pairs_head AreApart p.var (map (λ (p : Param). p.var) params ++ vs) h)), all_different params vs (pairs_tail AreApart p.var (map (λ (p : Param). p.var) params ++ vs) h))

pub differ_law : DifferLaw
differ_law q typed text = All-weaker (HasDeclarations q) HasDifferent (λ f h ps. all_different ps f.params f.vars h.differ) q.funs (declarations_law q typed text)

-- ---- few

not_or : (a b : Bool) → (not a || b) ≡ true → a ≡ true → b ≡ true
not_or true b e f = e
not_or false b e f = absurd (false≢true f)

shape_few : (f : Fun) → misshapen_places f ≡ [] → HasFew f
shape_few f e x =
    let shape = not_or (is_exported f.kind) (has_shape f) (passed (not (is_exported f.kind) || has_shape f) f.span e) x in
    let three = (and_parts (nat_le (length f.params) 6 && nat_le (length f.rets) 2 && list_all is_word_param f.params) (list_all is_word_result f.rets) shape).0 in
    let two = (and_parts (nat_le (length f.params) 6 && nat_le (length f.rets) 2) (list_all is_word_param f.params) three).0 in
    let one = (and_parts (nat_le (length f.params) 6) (nat_le (length f.rets) 2) two).0 in
    grind (arith, rules, one)

module _ (p : Program) where
  abbrev values : numbering.Values
  values = values_of p.consts

  resolved_few : (f : Fun) → HasFew f → HasFew (resolved_whole (constant_place p.consts) values f)
  resolved_few f h x = let l = length-map f.params (counted_param values) in let m = h x in omega (arith, l, m)

  all_few : in_functions misshapen_places p ≡ [] → All HasFew (resolved_program p).funs
  all_few e =
      All-map HasFew (resolved_whole (constant_place p.consts) values) p.funs
      (All-weaker (λ f. misshapen_places f ≡ []) (λ f. HasFew (resolved_whole (constant_place p.consts) values f)) (λ f h. resolved_few f (shape_few f h)) p.funs (all_empty misshapen_places p.funs e))

pub few_law : FewLaw
few_law q h =
    subst (λ z. All HasFew z.funs) (sym h.same)
    (all_few h.source (no_member (in_functions misshapen_places h.source) (λ at c. h.typed rule.ExportShape at c)))
