-- Two expansions of a function are one.
use Rattle.std.proofs.Common.{◌≡◌, ℕ, ap, sym, ◌∙◌, subst}
use Rattle.jz_tree.specs.declared.program.Fun.{Fun}
use Rattle.jz_tree.specs.declared.program.Program.{Program}
use Rattle.jz_runs.specs.Trees.{done}
use Rattle.jz_change.specs.Changes.{Change}
use Rattle.jz_type_names.specs.Scopes.{variables_of}
use Rattle.jz_expansion.specs.Inlined.{inlined_function}
use Rattle.jz_expansion.specs.FunctionRuns.{plain_body}
use Rattle.jz_expansion.specs.Unrolled.{IsUnrolled, KeepsHead}
use Rattle.jz_unrolling_values.specs.InlineNames.{inline_names}
use Rattle.jz_unrolling_values.specs.Numbers.{no_numbers}
use Rattle.jz_expansion.specs.Functions.{function_with_scalars}
use Rattle.jz_expansion.specs.Expansions.{IsExpansion}
use Rattle.jz_one_unrolling.specs.OneUnrolling.{OneUnrolling}
use Rattle.jz_one_expansion.specs.OneExpansion.{IsSame, IsOne}
use Rattle.jz_one_expansion.proofs.ScalarTrees.{tree_made, block_is}
use Rattle.jz_one_expansion.proofs.NoFor.{NoFor, unrolled_plain, made_plain}
use Rattle.jz_unroll.specs.Unrolling.{unrolling}

scalars_is : (f : Fun) → plain_body (function_with_scalars f) ≡ tree_made (plain_body f)
unfolding tree_made
scalars_is f = sym (block_is f.body done)

module _ (one : OneUnrolling) where
  unrolled_same : (f g h : Fun) (k l : Change) → IsUnrolled f g k → IsUnrolled f h l → plain_body g ≡ plain_body h
  unrolled_same f g h k l a b =
      (one (inline_names (variables_of f)) no_numbers (plain_body f) (plain_body g) (plain_body h) k l
      (record { behind = a.behind; behind_other = b.behind; one = a.body; other = b.body })).0

  heads_same : (f g h u v : Fun) → g ≡ function_with_scalars u → h ≡ function_with_scalars v → KeepsHead f u → KeepsHead f v → plain_body u ≡ plain_body v → IsSame g h
  heads_same f g h u v p q a b same = record {
    body = ap plain_body p ∙ (scalars_is u ∙ (ap tree_made same ∙ (sym (scalars_is v) ∙ ap plain_body (sym q))));
    notes = ap (λ (x : Fun). x.notes) p ∙ (a.notes ∙ (sym b.notes ∙ ap (λ (x : Fun). x.notes) (sym q)));
    kind = ap (λ (x : Fun). x.kind) p ∙ (a.kind ∙ (sym b.kind ∙ ap (λ (x : Fun). x.kind) (sym q)));
    name = ap (λ (x : Fun). x.name) p ∙ (a.name ∙ (sym b.name ∙ ap (λ (x : Fun). x.name) (sym q)));
    span = ap (λ (x : Fun). x.span) p ∙ (a.span ∙ (sym b.span ∙ ap (λ (x : Fun). x.span) (sym q)));
    params = ap (λ (x : Fun). x.params) p ∙ (a.params ∙ (sym b.params ∙ ap (λ (x : Fun). x.params) (sym q)));
    rets = ap (λ (x : Fun). x.rets) p ∙ (a.rets ∙ (sym b.rets ∙ ap (λ (x : Fun). x.rets) (sym q)));
    result = ap (λ (x : Fun). x.result) p ∙ (a.result ∙ (sym b.result ∙ ap (λ (x : Fun). x.result) (sym q)));
    vars = ap (λ (x : Fun). x.vars) p ∙ (a.vars ∙ (sym b.vars ∙ ap (λ (x : Fun). x.vars) (sym q)));
  }

  pub expansions_same : (p : Program) (f g h : Fun) (k l : Change) (m n : ℕ) → IsExpansion p f g k m → IsExpansion p f h l n → IsOne g h m n
  expansions_same p f g h k l m n a b = record {
    same =
        heads_same (inlined_function p f) g h a.unrolled b.unrolled a.function b.function a.head b.head
        (unrolled_same (inlined_function p f) a.unrolled b.unrolled a.rounds b.rounds a.body b.body);
    count = a.counted ∙ sym b.counted;
  }

pub expansion_plain : (p : Program) (f g : Fun) (k : Change) (n : ℕ) → IsExpansion p f g k n → NoFor (plain_body g)
expansion_plain p f g k n a =
    let h = unrolled_plain (unrolling (inline_names (variables_of (inlined_function p f)))) a.body.body tt in
    subst NoFor (sym (ap plain_body a.function ∙ scalars_is a.unrolled)) (made_plain (plain_body a.unrolled) h)
