use Rattle.std.proofs.Common.{◌≡◌, ap, sym, ◌∙◌}
use Rattle.std.specs.Option.{option_or}
use Rattle.x64_insn.specs.Size.TheVariants.{S64}
use Rattle.jz_runs.specs.Rules.{stuck, went}
use Rattle.jz_meaning.specs.Attempts.{seen, numbers_first}
use Rattle.jz_meaning.specs.Operators.{word_at}
use Rattle.jz_meaning.specs.States.{as_value}
use Rattle.jz_meaning.specs.Values.{access_of, load_word, load_at}
use Rattle.jz_meaning.proofs.AttemptLemmas.{stuck_then, gone_then, handed_on, becomes_refusal}
use Rattle.jz_meaning.proofs.access.load.Goals as goal

pub returns-in_err-address : goal.returns-in_err-address
returns-in_err-address c =
    let ns = c.args.out.now in
    let p = access_of c.args.access.now in
    let at = as_value c.args.address in
    let k = c.in_err-address.field-0.0 in
    becomes_refusal c.from_residual.result k (λ r. seen ns r ≡ numbers_first ns (load_at p c.args.wanted at c.args.memory.now)) c.from_residual.ensures.1
    (stuck_then ns (word_at p.span S64 at) (λ a. load_word p.span p.unaligned (option_or p.size c.args.wanted) a c.args.memory.now) k
    (c.in_err-address.ensures ns ∙ ap (λ a. numbers_first ns (word_at a S64 at)) c.access_span.ensures))

pub returns-in_err-value : goal.returns-in_err-value
returns-in_err-value c =
    let ns = c.args.out.now in
    let ms = c.load_word.new.out in
    let p = access_of c.args.access.now in
    let at = as_value c.args.address in
    let a = c.in_ok-address.address in
    let m = c.args.memory.now in
    let word : went ns a ≡ numbers_first ns (word_at p.span S64 at) = c.in_ok-address.ensures ns ∙ ap (λ y. numbers_first ns (word_at y S64 at)) c.access_span.ensures in
    handed_on c.from_residual-in_err-value.result c.in_err-value.field-0.0 (λ r. seen ms r ≡ numbers_first ns (load_word p.span p.unaligned c.access_size.result a m))
    (λ r. seen ms r ≡ numbers_first ns (load_at p c.args.wanted at m)) c.from_residual-in_err-value.ensures.1 c.in_err-value.ensures
    (λ k h. gone_then ns ns (word_at p.span S64 at) (λ y. load_word p.span p.unaligned (option_or p.size c.args.wanted) y m) a (stuck k) word
    (h ∙ ap (λ z. numbers_first ns (load_word p.span p.unaligned z a m)) c.access_size.ensures))

pub returns : goal.returns
returns c =
    let ns = c.args.out.now in
    let p = access_of c.args.access.now in
    let at = as_value c.args.address in
    let a = c.in_ok-address.address in
    let m = c.args.memory.now in
    let word : went ns a ≡ numbers_first ns (word_at p.span S64 at) = c.in_ok-address.ensures ns ∙ ap (λ y. numbers_first ns (word_at y S64 at)) c.access_span.ensures in
    gone_then ns ns (word_at p.span S64 at) (λ y. load_word p.span p.unaligned (option_or p.size c.args.wanted) y m) a _ word
    (c.in_ok-value.ensures ∙ ap (λ z. numbers_first ns (load_word p.span p.unaligned z a m)) c.access_size.ensures)
