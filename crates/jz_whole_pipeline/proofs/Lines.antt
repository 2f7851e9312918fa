-- The parameters and the results of an expansion have lines, and none of its annotations is refused.
use Rattle.std.proofs.Common.{◌≡◌, ◌≤◌, true, false, List, [], ◌∷◌, length, All, Option, Some, None, refl, sym, ap, ◌∙◌, subst, arith}
use Rattle.std.specs.Prelude.{option_map, ℤ}
use Rattle.std.proofs.lemmas.Bool.{and_parts, false≢true}
use Rattle.std.proofs.lemmas.List.Elements.{All-head, All-tail, All-contains}
use Rattle.jz_words.specs.declared.size.Size.{Size}
use Rattle.x64_insn.specs.declared.types.Reg.{Reg}
use Rattle.jz_tree.specs.Span.{Span}
use Rattle.jz_tree.specs.declared.expr.Decl.{Decl}
use Rattle.jz_tree.specs.declared.expr.Storage.TheVariants as storage
use Rattle.jz_tree.specs.declared.expr.Var.{Var}
use Rattle.jz_tree.specs.declared.expr.Expr.TheViews.{out-Var}
use Rattle.jz_tree.specs.declared.program.Fun.{Fun}
use Rattle.jz_tree.specs.declared.program.Param.{Param}
use Rattle.jz_tree.specs.declared.program.Program.{Program}
use Rattle.jz_tree.specs.declared.program.Ret.{Ret}
use Rattle.jz_type_names.specs.declared.kinds.Kind as known
use Rattle.jz_type_names.specs.declared.kinds.Kind.TheVariants as scope
use Rattle.jz_type_names.specs.Kinds.{declared_of, known_of, kind_of, is_word_kind, is_register_word, same_storage, written_length}
use Rattle.jz_type_names.specs.Order.{earliest}
use Rattle.jz_judgement.specs.WellTyped as typed
use Rattle.jz_judgement.specs.WellTyped.{InPairs, Returned}
use Rattle.jz_meaning.specs.declared.access.Kind.TheVariants as kind
use Rattle.jz_meaning.specs.Values.{ref_of, declared_kind, kind_or}
use Rattle.jz_bodies.proofs.Refs.{ref_kind, kind_from, decl_kind}
use Rattle.jz_bodies.proofs.Whole.{IsKnown, all_known}
use Rattle.jz_preconditions.specs.Refusals.{refused_places}
use Rattle.jz_safe.specs.ExpansionExpanded.{Expanded}
use Rattle.jz_safe.proofs.Words.{IsWord, IsWordRet, HasWords, IfExported, exported_words}
use Rattle.jz_given_laws.specs.GivenLaws.{HasFew}
use Rattle.jz_given_laws.proofs.Parameters.{few_law}
use Rattle.jz_listing.specs.declared.compiled.Arg.{Arg}
use Rattle.jz_correct.specs.Registers.{argument_registers, result_registers}
use Rattle.jz_compiled.specs.Lines.{AreArgumentLines, AreResultLines}
use Rattle.jz_compiling.specs.Refused.{HasNoHead, no_arguments, no_results, wrong_annotation}
use Rattle.jz_safe.specs.Texts.{IsExpandedFrom}
use Rattle.jz_safe.proofs.Ready.{none_refused}
use Rattle.jz_whole_pipeline.proofs.Counted.{HasTwo, two_results}

-- ---- words
word_from : (k : known.Kind) (l : Option ℤ) → is_word_kind k ≡ true → (z : Size) × (kind_from k l ≡ kind.Word z)
word_from scope.Int l e = absurd (false≢true e)
word_from scope.Truth l e = absurd (false≢true e)
word_from (scope.Word z) l e = (z, refl)
word_from (scope.Array z) l e = absurd (false≢true e)

one_word : (d : Decl) → is_register_word (Some (declared_of d)) ≡ true → (z : Size) × (declared_kind d ≡ kind.Word z)
one_word d e =
    let w = word_from (kind_of d.ty) (written_length d) (and_parts (same_storage d.storage storage.Reg) (is_word_kind (kind_of d.ty)) e).1 in
    (w.0, decl_kind d ∙ w.1)

declared_word : (d : Option Decl) → is_register_word (option_map declared_of d) ≡ true → (z : Size) × (kind_or (option_map declared_kind d) ≡ kind.Word z)
declared_word None e = absurd (false≢true e)
declared_word (Some d) e = one_word d e

word_kind : (v : Var) → is_register_word (known_of v) ≡ true → (z : Size) × ((ref_of v).kind ≡ kind.Word z)
word_kind v e = let w = declared_word (out-Var v).decl e in (w.0, ref_kind v ∙ w.1)

-- ---- lines
arguments_listed : (rs : List Reg) (ps : List Param) → length ps ≤ length rs → All IsWord ps → (lines : List Arg) × AreArgumentLines rs ps lines
arguments_listed rs [] l w = ([], tt)
arguments_listed [] (p ∷ ps) l w = absurd (omega (arith, l))
arguments_listed (r ∷ rs) (p ∷ ps) l w =
    let a = word_kind p.var (All-head IsWord p ps w) in
    let rest = arguments_listed rs ps (omega (arith, l)) (All-tail IsWord p ps w) in
    (record { name = (ref_of p.var).name; size = a.0; reg = r } ∷ rest.0, ((refl, a.1, refl), rest.1))

results_listed : (rs : List Reg) (vs : List Var) (ts : List Ret) → length ts ≤ length rs → InPairs Returned ts vs → All IsWordRet ts → (lines : List Arg) × AreResultLines rs vs ts lines
results_listed rs [] [] l typed.none w = ([], tt)
results_listed rs (v ∷ vs) [] l t w = elim t [ ]
results_listed rs [] (t ∷ ts) l p w = elim p [ ]
results_listed [] (v ∷ vs) (t ∷ ts) l p w = absurd (omega (arith, l))
results_listed (r ∷ rs) (v ∷ vs) (t ∷ ts) l (typed.next same more) w =
    let a = one_word t.decl (All-head IsWordRet t ts w) in
    let rest = results_listed rs vs ts (omega (arith, l)) more (All-tail IsWordRet t ts w) in
    (record { name = (ref_of v).name; size = a.0; reg = r } ∷ rest.0, ((refl, a.1, refl), rest.1))

-- ---- of an expansion
none_earliest : (at : Span) (xs : List Span) → xs ≡ [] → earliest xs ≡ Some at → ⊥
none_earliest at xs none e = let n : None ≡ Some at = ap earliest (sym none) ∙ e in cc

module _ (p : Program) (f : Fun) (e : Expanded) (x : IsExpandedFrom p f e) where
  params : f.params ≡ e.fun.params
  params = sym (ap (λ (g : Fun). g.params) x.expansion.function ∙ x.expansion.head.params)

  rets : f.rets ≡ e.fun.rets
  rets = sym (ap (λ (g : Fun). g.rets) x.expansion.function ∙ x.expansion.head.rets)

  result : f.result ≡ e.fun.result
  result = sym (ap (λ (g : Fun). g.result) x.expansion.function ∙ x.expansion.head.result)

  words : HasWords f
  words = All-contains IfExported p.funs f (exported_words p x.typed) x.there x.exported

  is_known : IsKnown p f
  is_known = All-contains (IsKnown p) p.funs f (all_known p x.typed x.text) x.there

  few : length f.params ≤ length argument_registers
  few = All-contains HasFew p.funs f (few_law p x.typed) x.there x.exported

  two : length f.rets ≤ length result_registers
  two = All-contains HasTwo p.funs f (two_results p x.typed) x.there x.exported

  pub has_head : (at : Span) → HasNoHead e.fun at → ⊥
  has_head at (no_arguments h) =
      let l = arguments_listed argument_registers f.params few words.params in
      h l.0 (subst (λ ps. AreArgumentLines argument_registers ps l.0) params l.1)
  has_head at (no_results h) =
      let l = results_listed result_registers f.result f.rets two is_known.well.0 words.rets in
      h l.0 (subst (λ vs. AreResultLines result_registers vs e.fun.rets l.0) result (subst (λ ts. AreResultLines result_registers f.result ts l.0) rets l.1))
  has_head at (wrong_annotation w) = none_earliest at (refused_places e.fun) (none_refused e (record { program = p; source = f; from = x })) w
