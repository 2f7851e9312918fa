-- Functions of typed texts that are within the limits have what unrolling asks for.
use Rattle.std.proofs.Common.{ℕ, List, [], ◌∷◌, false, sym, ap, ◌∙◌, inl, inr}
use Rattle.std.specs.Prelude.{All, Contains, nat_eq, slice_index_or}
use Rattle.std.proofs.lemmas.Bool.{false≢true}
use Rattle.std.proofs.lemmas.List.Elements.{All-head, All-tail, All-contains}
use Rattle.jz_tree.specs.declared.program.Fun.{Fun}
use Rattle.jz_tree.specs.declared.program.Param.{Param}
use Rattle.jz_tree.specs.declared.program.Program.{Program}
use Rattle.jz_meaning.specs.Runs.{body_of}
use Rattle.jz_inline_laws.proofs.BodiesWhole as whole
use Rattle.jz_inline_laws.proofs.BodiesWhole.{all_known}
use Rattle.jz_inline_laws.specs.TypedTexts.{IsTypedText}
use Rattle.jz_limits.specs.Values.{no_numbers}
use Rattle.jz_limits.specs.Walks.{walk}
use Rattle.jz_unroll.specs.Values.{InlineNames}
use Rattle.jz_inline_laws.specs.InlineParts.{inline_in, IsPlainVar}
use Rattle.jz_inline_laws.specs.InlineBodies.{HasInlineParam, IsInlineFun}
use Rattle.jz_inline_laws.proofs.ClearVars.{clear_results}
use Rattle.jz_inline_laws.proofs.Whole.{inline_law}
use Rattle.jz_walked_laws.specs.WalkedLaws.{NamedLaw, CalledLaw, ResultsLaw}
use Rattle.jz_walked_laws.proofs.Ones.{only_ones}
use Rattle.jz_walked_laws.proofs.Walked.{walked, named}

module _ (p : Program) (h : IsTypedText p) where
  funs : (g : Fun) → Contains p.funs g → IsInlineFun p g
  funs g has = All-contains (IsInlineFun p) p.funs g (inline_law p h) has

  -- parameters that are not inline
  none_inline : (names : InlineNames) (ps : List Param) (n : List ℕ) → All (λ q. IsPlainVar names q.var) ps → HasInlineParam names ps n → ⊥
  none_inline names [] n c k = k
  none_inline names (q ∷ ps) n c (inl k) = false≢true (sym (All-head (λ (q : Param). IsPlainVar names q.var) q ps c).named ∙ k.1.number.named)
  none_inline names (q ∷ ps) n c (inr k) = none_inline names ps n (All-tail (λ (q : Param). IsPlainVar names q.var) q ps c) k

pub named_law : NamedLaw
named_law p h =
    let all = inline_law p h in
    λ i f l. (let k = all i f l in let g : Fun = slice_index_or p.funs i f in named p (funs p h) (body_of p g) g false k.before k.behind k.body)

pub called_law : CalledLaw
called_law p f h has exported (few, within) =
    let k = funs p h f has in
    (walked p (funs p h) (body_of p f) f false k.before k.behind k.body no_numbers
    (λ n i m. absurd (none_inline p h (inline_in f) f.params n (k.exported exported) (k.given n i m))) (only_ones (walk (body_of p f) no_numbers).steps within.none)).fits

pub results_law : ResultsLaw
results_law p f h has =
    let clear = clear_results p f (All-contains (whole.IsKnown p) p.funs f (all_known p h.typed h.text) has) in
    let plain = (funs p h f has).results in
    λ i v l. (ap (λ d. nat_eq d 0) (clear i v l).copy, (plain i v l).named)
