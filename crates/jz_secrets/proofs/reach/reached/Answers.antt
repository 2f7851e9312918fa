use Rattle.std.proofs.Common.{rules, ◌<◌, arith, ap, length, ℕ, List, [], ◌∷◌, ◌≡◌, ◌∙◌, subst}
use Rattle.jz_secrets.specs.Kept.{marked_at}
use Rattle.jz_secrets.specs.InnerGraphs.{MarksRow}
use Rattle.jz_secrets.proofs.Rows.{first_reached, popped_below, row_within, gone_on, fewer_left, all_reached, none_is, replicated}
use Rattle.jz_secrets.proofs.reach.reached.Goals as goal

pub mark-requires : goal.mark-requires
mark-requires c =
    let long : length c.in_ok-marked.marked.items ≡ length c.args.rows.now = ap length c.in_ok-marked.ensures ∙ replicated _ in
    let start = c.requires.start in
    omega (arith, long, start)

pub loop-number-init : goal.loop-number-init
loop-number-init c =
    first_reached c.args.rows.now c.args.start c.requires.within c.in_ok-marked.marked.items c.mark.new.marked.items c.mark.new.left.items (ap length c.in_ok-marked.ensures ∙ replicated _)
    (λ n. ap (λ ms. marked_at ms n) c.in_ok-marked.ensures ∙ none_is _ n) c.requires.start
    (subst (λ (z : List ℕ). MarksRow (c.args.start ∷ []) c.in_ok-marked.marked.items c.mark.new.marked.items z c.mark.new.left.items) c.new-left.ensures.items c.in_ok-mark.ensures.marks)

pub offset_bounds-rows-number : goal.offset_bounds-rows-number
offset_bounds-rows-number c =
    let below : c.in-Some.number < length c.args.rows.now =
    popped_below c.args.rows.now c.args.start c.requires.within c.loop-number.marked.items c.loop-number.left.items c.pop.new.self.items c.in-Some.number c.in-Some.ensures.items c.loop-number.invariant in
    search rules

pub bounds-rows-number : goal.bounds-rows-number
bounds-rows-number c =
    popped_below c.args.rows.now c.args.start c.requires.within c.loop-number.marked.items c.loop-number.left.items c.pop.new.self.items c.in-Some.number c.in-Some.ensures.items c.loop-number.invariant

pub mark_row-requires : goal.mark_row-requires
mark_row-requires c =
    row_within c.args.rows.now c.args.start c.requires.within c.loop-number.marked.items c.loop-number.left.items c.pop.new.self.items c.in-Some.number _ c.in-Some.ensures.items c.index-rows-number.is c.loop-number.invariant

pub loop-number-preserved : goal.loop-number-preserved
loop-number-preserved c =
    gone_on c.args.rows.now c.args.start c.requires.within c.loop-number.marked.items c.mark_row.new.marked.items c.loop-number.left.items c.pop.new.self.items c.mark_row.new.left.items c.in-Some.number _ c.in-Some.ensures.items c.index-rows-number.is c.loop-number.invariant
    c.in_ok-mark_row.ensures.marks

pub loop-number-smaller : goal.loop-number-smaller
loop-number-smaller c =
    fewer_left c.loop-number.marked.items c.mark_row.new.marked.items c.loop-number.left.items c.pop.new.self.items c.mark_row.new.left.items c.in-Some.number c.in-Some.ensures.items c.in_ok-mark_row.ensures.fewer

pub returns : goal.returns
returns c = all_reached c.args.rows.now c.args.start c.requires.within c.loop-number.marked.items c.loop-number.left.items (search rules) c.loop-number.invariant
