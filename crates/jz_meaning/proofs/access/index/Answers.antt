use Rattle.std.proofs.Common.{◌≡◌, ap, sym, ◌∙◌}
use Rattle.x64_insn.specs.Size.TheVariants.{S64}
use Rattle.jz_runs.specs.Rules.{stuck, went}
use Rattle.jz_meaning.specs.Attempts.{Evaluation, did, numbers_first}
use Rattle.jz_meaning.specs.Operators.{word_at}
use Rattle.jz_meaning.specs.States.{as_value}
use Rattle.jz_meaning.specs.Values.{ref_of, in_cells, index_at}
use Rattle.jz_meaning.proofs.AttemptLemmas.{stuck_then, gone_then, handed_on, becomes_refusal}
use Rattle.jz_meaning.proofs.access.index.Goals as goal

pub returns-in_err-index : goal.returns-in_err-index
returns-in_err-index c =
    let ns = c.args.out.now in
    let x = ref_of c.args.var.now in
    let v = as_value c.args.value in
    becomes_refusal c.from_residual.result c.in_err-index.field-0.0 (λ r. did ns r ≡ numbers_first ns (index_at x v)) c.from_residual.ensures.1
    (stuck_then ns (word_at x.span S64 v) (in_cells x.span x.kind) c.in_err-index.field-0.0 (c.in_err-index.ensures ns ∙ ap (λ a. numbers_first ns (word_at a S64 v)) c.var_span-span.ensures))

pub returns-in_err-cell : goal.returns-in_err-cell
returns-in_err-cell c =
    let ns = c.args.out.now in
    let x = ref_of c.args.var.now in
    let v = as_value c.args.value in
    let i = c.in_ok-index.index in
    let ms = c.in_cells.new.out in
    let word : went ns i ≡ numbers_first ns (word_at x.span S64 v) = c.in_ok-index.ensures ns ∙ ap (λ a. numbers_first ns (word_at a S64 v)) c.var_span-span.ensures in
    let cells : in_cells c.var_span-span.result c.kind_of.result i ≡ in_cells x.span x.kind i = ap (λ a. in_cells a c.kind_of.result i) c.var_span-span.ensures ∙ ap (λ k. in_cells x.span k i) c.kind_of.ensures in
    handed_on c.from_residual-in_err-cell.result c.in_err-cell.field-0.0 (λ r. did ms r ≡ numbers_first ns (in_cells c.var_span-span.result c.kind_of.result i))
    (λ r. did ms r ≡ numbers_first ns (index_at x v)) c.from_residual-in_err-cell.ensures.1 c.in_err-cell.ensures
    (λ k h. gone_then ns ns (word_at x.span S64 v) (in_cells x.span x.kind) i (stuck k) word (h ∙ ap (numbers_first ns) cells))

pub returns : goal.returns
returns c =
    let ns = c.args.out.now in
    let x = ref_of c.args.var.now in
    let v = as_value c.args.value in
    let i = c.in_ok-index.index in
    let word : went ns i ≡ numbers_first ns (word_at x.span S64 v) = c.in_ok-index.ensures ns ∙ ap (λ a. numbers_first ns (word_at a S64 v)) c.var_span-span.ensures in
    let cells : in_cells c.var_span-span.result c.kind_of.result i ≡ in_cells x.span x.kind i = ap (λ a. in_cells a c.kind_of.result i) c.var_span-span.ensures ∙ ap (λ k. in_cells x.span k i) c.kind_of.ensures in
    gone_then ns ns (word_at x.span S64 v) (in_cells x.span x.kind) i _ word (c.in_ok-cell.ensures ∙ ap (numbers_first ns) cells)
