use Rattle.std.proofs.Common.{◌≡◌, ◌∙◌, true, ap, subst}
use Rattle.jz_type_rows.specs.Exports.{is_exported}
use Rattle.jz_tree.specs.declared.program.Fun.{Fun}
use Rattle.jz_change.specs.Composing.{compose_of}
use Rattle.jz_change.specs.Views.{change_of}
use Rattle.jz_expansion.proofs.Followed.{same_at, contains_at, is_expansion, runs_follow}
use Rattle.jz_expansion.proofs.Refusing.{rounds_unrollable}
use Rattle.jz_expansion.proofs.expanding.expand.Goals as goal

pub returns-clause-made : goal.returns-clause-made
returns-clause-made c = record {
  source = c.in_ok-inlined.ensures.made.source;
  there = c.in_ok-inlined.ensures.made.there;
  expansion = is_expansion c.args.typed.now.program c.args.fun c.in_ok-count.count c.in_ok-inlined.inlined c.in_ok-unrolled.unrolled.program c.in_ok-made.made.program (change_of c.in_ok-unrolled.unrolled.change) (change_of c.in_ok-change.change)
      c.in_ok-count.ensures.counted c.in_ok-inlined.ensures.made c.in_ok-unrolled.ensures.body c.in_ok-unrolled.ensures.head c.in_ok-made.ensures.made.function
      (c.in_ok-change.ensures.is ∙ (ap (λ k. compose_of k (change_of c.in_ok-made.made.change)) c.in_ok-both.ensures.is ∙ ap (compose_of (compose_of (change_of c.in_ok-inlined.inlined.change) (change_of c.in_ok-unrolled.unrolled.change))) c.in_ok-made.ensures.made.change));
}

pub returns-clause-law : goal.returns-clause-law
returns-clause-law c =
    runs_follow c.args.typed.now.program c.args.fun c.in_ok-count.count c.in_ok-inlined.inlined c.in_ok-unrolled.unrolled.program c.in_ok-made.made.program (change_of c.in_ok-unrolled.unrolled.change) (change_of c.in_ok-change.change)
    c.in_ok-count.ensures.counted c.in_ok-inlined.ensures.made c.in_ok-unrolled.ensures.body c.in_ok-unrolled.ensures.head c.in_ok-made.ensures.made.function
    (c.in_ok-change.ensures.is ∙ (ap (λ k. compose_of k (change_of c.in_ok-made.made.change)) c.in_ok-both.ensures.is ∙ ap (compose_of (compose_of (change_of c.in_ok-inlined.inlined.change) (change_of c.in_ok-unrolled.unrolled.change))) c.in_ok-made.ensures.made.change))
    (change_of c.in_ok-made.made.change) (change_of c.in_ok-both.both) c.in_ok-inlined.ensures.law c.in_ok-unrolled.ensures.law c.in_ok-made.ensures.law c.in_ok-both.ensures.law c.in_ok-change.ensures.law

pub invariant_of-result : goal.invariant_of-result
invariant_of-result c =
    let made = c.in_ok-inlined.ensures.made in
    let same = same_at c.args.typed.now.program c.args.fun c.requires.export.function made.source c.requires.export.there made.there in
    record {
      rule = ∣ record {
        program = c.args.typed.now.program;
        source = made.source;
        typed = c.args.typed.now.typed;
        there = contains_at c.args.typed.now.program c.args.fun made.source made.there;
        exported = subst (λ (f : Fun). is_exported f.kind ≡ true) same c.requires.export.exported;
        expansion = is_expansion c.args.typed.now.program c.args.fun c.in_ok-count.count c.in_ok-inlined.inlined c.in_ok-unrolled.unrolled.program c.in_ok-made.made.program (change_of c.in_ok-unrolled.unrolled.change) (change_of c.in_ok-change.change)
            c.in_ok-count.ensures.counted c.in_ok-inlined.ensures.made c.in_ok-unrolled.ensures.body c.in_ok-unrolled.ensures.head c.in_ok-made.ensures.made.function
            (c.in_ok-change.ensures.is ∙ (ap (λ k. compose_of k (change_of c.in_ok-made.made.change)) c.in_ok-both.ensures.is ∙ ap (compose_of (compose_of (change_of c.in_ok-inlined.inlined.change) (change_of c.in_ok-unrolled.unrolled.change))) c.in_ok-made.ensures.made.change));
      } ∣₁;
    }

pub rounds_of-requires : goal.rounds_of-requires
rounds_of-requires c =
    rounds_unrollable c.args.typed.now.program c.args.fun c.in_ok-count.count c.in_ok-inlined.inlined c.in_ok-count.ensures.counted c.in_ok-inlined.ensures.made c.requires.export c.args.typed.now.typed c.requires.text
