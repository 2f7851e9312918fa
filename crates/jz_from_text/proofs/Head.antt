-- The head of an expanded function: its variables differ, its results are variables of the declared kinds.
use Rattle.std.proofs.Common.{◌≡◌, ◌⊎◌, inl, inr, ℕ, zero, suc, ◌<◌, Bool, true, false, not, List, [], ◌∷◌, ◌++◌, map, length, get_or, All, Contains, Option, Some, None, refl, sym, ap, ◌∙◌, subst, arith, if◌then◌else◌}
use Rattle.std.specs.Prelude.{option_map, ℤ, pos, negsuc}
use Rattle.std.specs.List.{filter, AllZip}
use Rattle.std.proofs.lemmas.List.Elements.{All-nil, All-cons, All-head, All-tail, All-weaker, All-contains}
use Rattle.std.proofs.lemmas.List.Folds.{Any-from_list_any}
use Rattle.jz_words.specs.declared.size.Size.{Size}
use Rattle.x64_insn.specs.declared.types.Reg.{Reg}
use Rattle.jz_tree.specs.declared.expr.Storage.{Storage}
use Rattle.jz_tree.specs.declared.expr.Storage.TheVariants as storage
use Rattle.jz_tree.specs.declared.expr.Decl.{Decl}
use Rattle.jz_tree.specs.declared.expr.Var.{Var}
use Rattle.jz_tree.specs.declared.expr.Expr.TheViews.{out-Var, out-roll-Var}
use Rattle.jz_tree.specs.declared.program.Fun.{Fun}
use Rattle.jz_tree.specs.declared.program.Param.{Param}
use Rattle.jz_tree.specs.declared.program.Program.{Program}
use Rattle.jz_tree.specs.declared.program.Ret.{Ret}
use Rattle.jz_type_names.specs.declared.kinds.Kind as known
use Rattle.jz_type_names.specs.declared.kinds.Kind.TheVariants as scope
use Rattle.jz_type_names.specs.Kinds.{declared_of, kind_of, inline_int, is_inline_int, same_kind, written_length}
use Rattle.jz_type_names.specs.Scopes.{variables_of}
use Rattle.jz_texts.specs.Texts.{IsPlain}
use Rattle.jz_judgement.specs.WellTyped as typed
use Rattle.jz_judgement.specs.WellTyped.{InPairs, Returned}
use Rattle.jz_meaning.specs.declared.access.Kind.TheVariants as kind
use Rattle.jz_meaning.specs.Values.{ref_of, declared_kind, array_kind, kind_or}
use Rattle.jz_bodies.specs.Declared.{is_one}
use Rattle.jz_bodies.proofs.Refs.{one_is, ref_name, ref_copy, ref_kind, kind_from, decl_kind}
use Rattle.jz_bodies.proofs.Variables.{IsVariable, kind_is}
use Rattle.jz_bodies.proofs.Passing.{word_same, declared_parts}
use Rattle.jz_bodies.proofs.Whole.{IsKnown, own_params, returned_variables}
use Rattle.jz_inline.specs.Functions.{own_names}
use Rattle.jz_inline.specs.Names.{var_in}
use Rattle.jz_frames.specs.Frames.{frame_of}
use Rattle.jz_inlining.specs.Inlined.{inlined_function}
use Rattle.jz_unroll.specs.Values.{is_inline_var}
use Rattle.jz_unrolling_values.specs.InlineNames.{inline_names}
use Rattle.jz_unrolling.specs.Unrolled as unrolled
use Rattle.jz_scalars.specs.Functions.{function_with_scalars}
use Rattle.jz_distinct.specs.Declared.{Differ}
use Rattle.jz_distinct.proofs.Differing.{differ_part}
use Rattle.jz_listing.specs.declared.compiled.Arg.{Arg}
use Rattle.jz_correct.specs.Registers.{result_registers}
use Rattle.jz_compiled.specs.Lines.{AreResultLines}
use Rattle.jz_compiling.proofs.StackLemmas.{in_second, inline_itself}
use Rattle.jz_compiling.specs.Made.{IsUsed, HasPlainHead}
use Rattle.jz_from_text.proofs.Merging.{later, in_frame}

-- ---- members
in_first : (xs ys : List Var) (k : ℕ) (y : Var) → k < length xs → get_or xs k y ≡ y → Contains (xs ++ ys) y
in_first [] ys k y lt e = absurd (omega (arith, lt))
in_first (x ∷ xs) ys zero y lt e = (0, omega arith, e)
in_first (x ∷ xs) ys (suc k) y lt e = later x (xs ++ ys) y (in_first xs ys k y (omega (arith, lt)) e)

in_either : (xs ys : List Var) (k : ℕ) (y : Var) → k < length (xs ++ ys) → get_or (xs ++ ys) k y ≡ y → Contains xs y ⊎ Contains ys y
in_either [] ys k y lt e = inr (k, lt, e)
in_either (x ∷ xs) ys zero y lt e = inl (0, omega arith, e)
in_either (x ∷ xs) ys (suc k) y lt e = elim (in_either xs ys k y (omega (arith, lt)) e) [ inl h ↦ inl (later x xs y h) | inr h ↦ inr h ]

kept_first : (b : Bool) (x y : Var) (rest : List Var) → b ≡ true → x ≡ y → Contains (if b then x ∷ rest else rest) y
kept_first true x y rest t e = (0, omega arith, e)
kept_first false x y rest t e = cc

kept_later : (b : Bool) (x y : Var) (rest : List Var) → Contains rest y → Contains (if b then x ∷ rest else rest) y
kept_later true x y rest h = later x rest y h
kept_later false x y rest h = h

in_filter : (keep : Var → Bool) (xs : List Var) (k : ℕ) (y : Var) → k < length xs → get_or xs k y ≡ y → keep y ≡ true → Contains (filter keep xs) y
in_filter keep [] k y lt e t = absurd (omega (arith, lt))
in_filter keep (x ∷ xs) zero y lt e t = kept_first (keep x) x y (filter keep xs) (ap keep e ∙ t) e
in_filter keep (x ∷ xs) (suc k) y lt e t = kept_later (keep x) x y (filter keep xs) (in_filter keep xs k y (omega (arith, lt)) e t)

-- ---- words
no_array : (s : Size) (l : Option ℤ) (z : Size) → array_kind s l ≡ kind.Word z → ⊥
no_array s None z e = cc
no_array s (Some (pos n)) z e = cc
no_array s (Some (negsuc n)) z e = cc

word_of : (k : known.Kind) (l : Option ℤ) (z : Size) → kind_from k l ≡ kind.Word z → k ≡ scope.Word z
word_of scope.Int l z e = cc
word_of scope.Truth l z e = cc
word_of (scope.Word y) l z e = cc
word_of (scope.Array y) l z e = absurd (no_array y l z e)

plain_word : (s : Storage) (z : Size) → inline_int s (scope.Word z) ≡ false
plain_word storage.Reg z = refl
plain_word storage.Stack z = refl
plain_word storage.Inline z = refl

not_inline : (d : Option Decl) (z : Size) → kind_or (option_map declared_kind d) ≡ kind.Word z → is_inline_int (option_map declared_of d) ≡ false
not_inline None z e = cc
not_inline (Some d) z e = ap (inline_int d.storage) (word_of (kind_of d.ty) _ z (sym (decl_kind d) ∙ e)) ∙ plain_word d.storage z

-- ---- a variable in the function itself
own_decl : (v : Var) → (out-Var (var_in own_names v)).decl ≡ (out-Var v).decl
own_decl v = ap (λ x. x.decl) (out-roll-Var (record (out-Var v) { name = (out-Var v).name; copy = 0 }))

own_name : (v : Var) → (ref_of (var_in own_names v)).name ≡ (ref_of v).name
own_name v = ref_name (var_in own_names v) ∙ ap (λ x. x.name) (out-roll-Var (record (out-Var v) { name = (out-Var v).name; copy = 0 })) ∙ sym (ref_name v)

own_copy : (v : Var) → (ref_of (var_in own_names v)).copy ≡ 0
own_copy v = ref_copy (var_in own_names v) ∙ ap (λ x. x.copy) (out-roll-Var (record (out-Var v) { name = (out-Var v).name; copy = 0 }))

own_kind : (v : Var) → (ref_of (var_in own_names v)).kind ≡ (ref_of v).kind
own_kind v = ref_kind (var_in own_names v) ∙ ap (λ d. kind_or (option_map declared_kind d)) (own_decl v) ∙ sym (ref_kind v)

module _ (p : Program) (f u : Fun) (k : IsKnown p f) (head : unrolled.KeepsHead (inlined_function p f) u) (all_differ : Differ (variables_of (inlined_function p f))) where
  abbrev g : Fun
  g = function_with_scalars u

  abbrev params : List Var
  params = map (λ q. q.var) f.params

  abbrev keep : Var → Bool
  keep v = not (is_inline_var (inline_names (variables_of (inlined_function p f))) v)

  variables_are : variables_of g ≡ params ++ filter keep (frame_of p f)
  variables_are = ap (λ ps. map (λ q. q.var) ps ++ u.vars) head.params ∙ ap (λ vs. params ++ vs) head.vars

  differ : Differ (variables_of g)
  differ = subst Differ (sym variables_are) (differ_part keep params (frame_of p f) all_differ)

  whole_params : All (λ (q : Param). (ref_of q.var).cell ≡ None) g.params
  whole_params =
      subst (All (λ (q : Param). (ref_of q.var).cell ≡ None)) (sym head.params)
      (All-weaker (λ (q : Param). IsVariable p f q.var) (λ (q : Param). (ref_of q.var).cell ≡ None) (λ q h. h.cell) f.params (own_params p f k))

  -- ---- one result
  module _ (x : Var) (h : IsVariable p f x) (z : Size) (word : (ref_of x).kind ≡ kind.Word z) where
    from_params : (y : Var) → is_one (ref_of x) (ref_of y) ≡ true → Contains params y → IsUsed g x
    from_params y one i =
        let same = one_is (ref_of x) (ref_of y) one in
        record {
          variable = y;
          among = subst (λ vs. Contains vs y) (sym variables_are) (in_first params (filter keep (frame_of p f)) i.0 y i.1 i.2);
          is = record { name = ap (λ q. q.name) same.0; copy = ap (λ q. q.copy) same.0; kind = same.1; whole = h.cell };
        }

    kept_by : (b : Bool) (y : Var) → is_inline_var (inline_names (variables_of (inlined_function p f))) (var_in own_names y) ≡ b → Contains (frame_of p f) (var_in own_names y) → (ref_of y).kind ≡ kind.Word z → not b ≡ true
    kept_by false y t i e = refl
    kept_by true y t i e =
        let yes' = inline_itself (variables_of (inlined_function p f)) all_differ (var_in own_names y) (in_second params (frame_of p f) (var_in own_names y) i) t in
        let none = not_inline (out-Var (var_in own_names y)).decl z (sym (ref_kind (var_in own_names y)) ∙ own_kind y ∙ e) in
        absurd (let clash : true ≡ false = sym yes' ∙ none in cc)

    from_vars : (y : Var) → is_one (ref_of x) (ref_of y) ≡ true → (out-Var y).copy ≡ 0 → Contains f.vars y → IsUsed g x
    from_vars y one zero_copy i =
        let same = one_is (ref_of x) (ref_of y) one in
        let there = in_frame p.funs (length p.funs) own_names 1 f y i in
        let kept : keep (var_in own_names y) ≡ true = kept_by (is_inline_var (inline_names (variables_of (inlined_function p f))) (var_in own_names y)) y refl there (sym same.1 ∙ word) in
        record {
          variable = var_in own_names y;
          among = subst (λ vs. Contains vs (var_in own_names y)) (sym variables_are) (in_second params (filter keep (frame_of p f)) (var_in own_names y) (in_filter keep (frame_of p f) there.0 (var_in own_names y) there.1 there.2 kept));
          is = record {
            name = ap (λ q. q.name) same.0 ∙ sym (own_name y);
            copy = ap (λ q. q.copy) same.0 ∙ ref_copy y ∙ zero_copy ∙ sym (own_copy y);
            kind = same.1 ∙ sym (own_kind y);
            whole = h.cell;
          };
        }

    is_used : IsUsed g x
    is_used =
        let some = Any-from_list_any (λ v. is_one (ref_of x) (ref_of v)) (variables_of f) h.among in
        let plain = All-contains IsPlain (variables_of f) some.1 k.text.declared (some.0, some.2, some.3) in
        elim (in_either params f.vars some.0 some.1 some.2 some.3) [ inl i ↦ from_params some.1 some.4 i | inr i ↦ from_vars some.1 some.4 plain.0 i ]

  -- ---- all of them
  abbrev IsWordVar : Var → Type 0
  IsWordVar x = (z : Size) × ((ref_of x).kind ≡ kind.Word z)

  one_kind : (x : Var) (t : Ret) (z : Size) → IsVariable p f x → Returned t x → declared_kind t.decl ≡ kind.Word z → (ref_of x).kind ≡ kind.Word z
  one_kind x t z h same word =
      let parts = declared_parts p f t.decl x h same in
      let declared = word_of (kind_of t.decl.ty) _ z (sym (decl_kind t.decl) ∙ word) in
      let own = word_same z (kind_of h.decl.ty) (subst (λ w. same_kind w (kind_of h.decl.ty) ≡ true) declared parts.1) in
      kind_is p f x h ∙ decl_kind h.decl ∙ ap (λ w. kind_from w (written_length h.decl)) own

  kinds_are : (rs : List Reg) (xs : List Var) (ts : List Ret) (rets : List Arg) → AreResultLines rs xs ts rets → InPairs Returned ts xs → All (IsVariable p f) xs → AllZip (λ x t. (ref_of x).kind ≡ declared_kind t.decl) xs ts
  kinds_are rs [] [] rets lines typed.none vars = tt
  kinds_are rs (x ∷ xs) [] rets lines t vars = elim t [ ]
  kinds_are rs [] (t ∷ ts) rets lines w vars = elim w [ ]
  kinds_are [] (x ∷ xs) (t ∷ ts) rets lines w vars = absurd lines
  kinds_are (r ∷ rs) (x ∷ xs) (t ∷ ts) [] lines w vars = absurd lines
  kinds_are (r ∷ rs) (x ∷ xs) (t ∷ ts) (a ∷ rets) lines (typed.next same rest) vars =
      (one_kind x t a.size (All-head (IsVariable p f) x xs vars) same lines.0.1 ∙ sym lines.0.1, kinds_are rs xs ts rets lines.1 rest (All-tail (IsVariable p f) x xs vars))

  used_are : (rs : List Reg) (xs : List Var) (ts : List Ret) (rets : List Arg) → AreResultLines rs xs ts rets → InPairs Returned ts xs → All (IsVariable p f) xs → All (IsUsed g) xs
  used_are rs [] ts rets lines w vars = All-nil (IsUsed g)
  used_are rs (x ∷ xs) [] rets lines t vars = elim t [ ]
  used_are [] (x ∷ xs) (t ∷ ts) rets lines w vars = absurd lines
  used_are (r ∷ rs) (x ∷ xs) (t ∷ ts) [] lines w vars = absurd lines
  used_are (r ∷ rs) (x ∷ xs) (t ∷ ts) (a ∷ rets) lines (typed.next same rest) vars =
      All-cons (IsUsed g) x xs
      (is_used x (All-head (IsVariable p f) x xs vars) a.size (one_kind x t a.size (All-head (IsVariable p f) x xs vars) same lines.0.1))
      (used_are rs xs ts rets lines.1 rest (All-tail (IsVariable p f) x xs vars))

  pub plain_head : (rets : List Arg) → AreResultLines result_registers f.result f.rets rets → HasPlainHead g
  plain_head rets lines = record {
    differ = differ;
    params = whole_params;
    results = subst (All (IsUsed g)) (sym head.result) (used_are result_registers f.result f.rets rets lines k.well.0 (returned_variables p f k));
    kinds = subst (λ xs. AllZip (λ x t. (ref_of x).kind ≡ declared_kind t.decl) xs u.rets) (sym head.result)
        (subst (λ ts. AllZip (λ x t. (ref_of x).kind ≡ declared_kind t.decl) f.result ts) (sym head.rets)
        (kinds_are result_registers f.result f.rets rets lines k.well.0 (returned_variables p f k)));
  }
