use Rattle.std.proofs.Common.{◌≡◌, length, ap, rules}
use Rattle.std.proofs.lemmas.List.{nil_from_length}
use Rattle.std.proofs.lemmas.Result.{err_from_is_err_and}
use Rattle.jz_listing_read.specs.Reading.{IsOneLine}
use Rattle.jz_listing_read.specs.declared.state.Stage.TheVariants as stage
use Rattle.jz_listing_read.proofs.Listings.{one_more, err_stops, whole, ended_early}
use Rattle.jz_listing_read.proofs.reading.read_listing.Goals as goal
use Rattle.jz_listing_read.proofs.reading.read_listing.Goals.{else-is_empty-via-then-is_empty+else-eq, else-is_empty-via-else-is_empty}

pub returns-in_err-state : goal.returns-in_err-state
returns-in_err-state c =
    let p = err_from_is_err_and c.from_residual.result c.from_residual.ensures.1 in
    rw (p.1, p.2) (err_stops c.args.text.now c.loop-line.rest.now c.in-Some.line.now c.in-Some.more.now c.loop-line.number c.loop-line.state _ c.loop-line.invariant c.in-Some.ensures.0 c.in-Some.ensures.1 c.in_err-state.ensures)

pub loop-line-preserved : goal.loop-line-preserved
loop-line-preserved c =
    one_more c.args.text.now c.loop-line.rest.now c.in-Some.line.now c.in-Some.more.now c.loop-line.number c.loop-line.state c.in_ok-state.state c.loop-line.invariant c.in-Some.ensures.0 c.in_ok-state.ensures

pub returns-then-eq : goal.returns-then-eq
returns-then-eq c =
    let none : length c.loop-line.rest.now ≡ 0 = search rules in
    let outside : c.loop-line.state.stage ≡ stage.Outside = search rules in
    whole c.args.text.now c.loop-line.rest.now c.loop-line.number c.loop-line.state c.loop-line.invariant (nil_from_length c.loop-line.rest.now none) outside

pub returns-else-is_empty : goal.returns-else-is_empty
returns-else-is_empty c =
    let one : IsOneLine c.loop-line.rest.now = search rules in
    ended_early c.args.text.now c.loop-line.rest.now c.loop-line.number c.loop-line.state c.loop-line.invariant one
    (λ e k. elim c.else-is_empty.branch [
      | else-is_empty-via-then-is_empty+else-eq w ↦ let no : ⊥ = search rules in no
      | else-is_empty-via-else-is_empty w ↦ let none : length c.loop-line.rest.now ≡ 0 = ap length e in let no : ⊥ = search rules in no
    ])
