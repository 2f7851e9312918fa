use Rattle.std.proofs.Common.{◌≡◌, ap, sym, ◌∙◌}
use Rattle.std.specs.Prelude.{option_map}
use Rattle.std.specs.Option.{option_or}
use Rattle.x64_insn.specs.Size.TheVariants.{S64}
use Rattle.jz_runs.specs.Rules.{stuck, went}
use Rattle.jz_meaning.specs.InnerAccesses as accesses
use Rattle.jz_meaning.specs.Attempts.{changed, numbers_first}
use Rattle.jz_meaning.specs.Operators.{word_at}
use Rattle.jz_meaning.specs.States.{as_value}
use Rattle.jz_meaning.specs.Values.{access_of, store_at}
use Rattle.jz_meaning.proofs.AttemptLemmas.{stuck_then, gone_then, handed_on, becomes_refusal}
use Rattle.jz_meaning.proofs.access.write.Goals as goal

pub returns-in_err-address : goal.returns-in_err-address
returns-in_err-address c =
    let ns = c.args.out.now in
    let p = access_of c.args.access.now in
    let at = as_value c.args.address in
    let v = option_map as_value c.args.value in
    let m = c.args.memory.now in
    let k = c.in_err-address.field-0.0 in
    becomes_refusal c.from_residual.result k (λ r. changed ns m r ≡ numbers_first ns (store_at p c.args.wanted at v m)) c.from_residual.ensures.1
    (stuck_then ns (word_at p.span S64 at) (λ a. accesses.store_word p (option_or p.size c.args.wanted) a v m) k
    (c.in_err-address.ensures ns ∙ ap (λ a. numbers_first ns (word_at a S64 at)) c.access_span.ensures))

pub returns-in_err-store_value : goal.returns-in_err-store_value
returns-in_err-store_value c =
    let ns = c.args.out.now in
    let ms = c.store_value.new.out in
    let p = access_of c.args.access.now in
    let at = as_value c.args.address in
    let v = option_map as_value c.args.value in
    let a = c.in_ok-address.address in
    let m = c.args.memory.now in
    let word : went ns a ≡ numbers_first ns (word_at p.span S64 at) = c.in_ok-address.ensures ns ∙ ap (λ y. numbers_first ns (word_at y S64 at)) c.access_span.ensures in
    handed_on c.from_residual-in_err-store_value.result c.in_err-store_value.field-0.0 (λ r. changed ms c.store_value.new.memory r ≡ numbers_first ns (accesses.store_word p c.access_size-size.result a v m))
    (λ r. changed ms c.store_value.new.memory r ≡ numbers_first ns (store_at p c.args.wanted at v m)) c.from_residual-in_err-store_value.ensures.1 c.in_err-store_value.ensures
    (λ k h. gone_then ns ns (word_at p.span S64 at) (λ y. accesses.store_word p (option_or p.size c.args.wanted) y v m) a (stuck k) word
    (h ∙ ap (λ z. numbers_first ns (accesses.store_word p z a v m)) c.access_size-size.ensures))

pub returns : goal.returns
returns c =
    let ns = c.args.out.now in
    let p = access_of c.args.access.now in
    let at = as_value c.args.address in
    let v = option_map as_value c.args.value in
    let a = c.in_ok-address.address in
    let m = c.args.memory.now in
    let word : went ns a ≡ numbers_first ns (word_at p.span S64 at) = c.in_ok-address.ensures ns ∙ ap (λ y. numbers_first ns (word_at y S64 at)) c.access_span.ensures in
    gone_then ns ns (word_at p.span S64 at) (λ y. accesses.store_word p (option_or p.size c.args.wanted) y v m) a _ word
    (c.in_ok-store_value.ensures ∙ ap (λ z. numbers_first ns (accesses.store_word p z a v m)) c.access_size-size.ensures)
