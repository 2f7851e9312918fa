use Rattle.std.proofs.Common.{◌≡◌, Some, ap, sym, ◌∙◌}
use Rattle.jz_runs.specs.Rules.{stuck, went}
use Rattle.jz_meaning.specs.InnerAccesses as accesses
use Rattle.jz_meaning.specs.Attempts.{changed, numbers_first}
use Rattle.jz_meaning.specs.Operators.{word_at}
use Rattle.jz_meaning.specs.States.{as_value}
use Rattle.jz_meaning.specs.Values.{access_of}
use Rattle.jz_meaning.proofs.AttemptLemmas.{stuck_then, gone_then, handed_on, becomes_refusal}
use Rattle.jz_meaning.proofs.access.store_word.Goals as goal

pub returns-in_err-bits : goal.returns-in_err-bits
returns-in_err-bits c =
    let ns = c.args.out.now in
    let p = access_of c.args.access.now in
    let s = c.args.size in
    let v = as_value c.args.value in
    let m = c.args.memory.now in
    let k = c.in_err-bits.field-0.0 in
    becomes_refusal c.from_residual.result k (λ r. changed ns m r ≡ numbers_first ns (accesses.store_word p (Some s) c.args.address (Some v) m)) c.from_residual.ensures.1
    (stuck_then ns (word_at p.span s v) (λ b. accesses.store_bits p s c.args.address b m) k (c.in_err-bits.ensures ns ∙ ap (λ a. numbers_first ns (word_at a s v)) c.access_span.ensures))

pub returns-in_err-store_bits : goal.returns-in_err-store_bits
returns-in_err-store_bits c =
    let ns = c.args.out.now in
    let ms = c.store_bits.new.out in
    let p = access_of c.args.access.now in
    let s = c.args.size in
    let v = as_value c.args.value in
    let m = c.args.memory.now in
    let b = c.in_ok-bits.bits in
    let word : went ns b ≡ numbers_first ns (word_at p.span s v) = c.in_ok-bits.ensures ns ∙ ap (λ a. numbers_first ns (word_at a s v)) c.access_span.ensures in
    handed_on c.from_residual-in_err-store_bits.result c.in_err-store_bits.field-0.0 (λ r. changed ms c.store_bits.new.memory r ≡ numbers_first ns (accesses.store_bits p s c.args.address b m))
    (λ r. changed ms c.store_bits.new.memory r ≡ numbers_first ns (accesses.store_word p (Some s) c.args.address (Some v) m)) c.from_residual-in_err-store_bits.ensures.1 c.in_err-store_bits.ensures
    (λ k h. gone_then ns ns (word_at p.span s v) (λ y. accesses.store_bits p s c.args.address y m) b (stuck k) word h)

pub returns : goal.returns
returns c =
    let ns = c.args.out.now in
    let p = access_of c.args.access.now in
    let s = c.args.size in
    let v = as_value c.args.value in
    let m = c.args.memory.now in
    let b = c.in_ok-bits.bits in
    let word : went ns b ≡ numbers_first ns (word_at p.span s v) = c.in_ok-bits.ensures ns ∙ ap (λ a. numbers_first ns (word_at a s v)) c.access_span.ensures in
    gone_then ns ns (word_at p.span s v) (λ y. accesses.store_bits p s c.args.address y m) b _ word c.in_ok-store_bits.ensures
