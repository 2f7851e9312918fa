-- An empty leak fits an empty body.
use Rattle.std.proofs.Common.{[], sym, ap, subst}
use Rattle.std.specs.Prelude.{pos}
use Rattle.std.proofs.lemmas.List.Elements.{All-nil, All-cons}
use Rattle.jz_leak.specs.declared.leak.Item.TheViews.{roll-Leak}
use Rattle.jz_leak.specs.declared.transformer.Form.TheVariants as form
use Rattle.jz_leak.specs.declared.transformer.Out.TheVariants as out
use Rattle.jz_leak.specs.RunLeaks.{over}
use Rattle.jz_leak.specs.Applying.{OutFits, OutsFit, CasesFit}
use Rattle.jasminc_tests.proofs.call_tests.a_leak_that_fits.Goals as goal

pub apply-requires : goal.apply-requires
apply-requires g c = (
  over,
  ap (λ is. roll-Leak (record { items = is })) (sym c.new-3.ensures),
  record {
    before = subst (λ outs. OutsFit [] outs) (sym c.new.ensures) (All-nil (OutFits []));
    body = subst (λ cs. CasesFit over cs) (sym c.new-2.ensures) tt;
    after = subst (λ outs. OutsFit [] outs) (sym c.in_ok-from_slice.ensures) (All-cons (OutFits []) (out.Addr (form.Frame (pos 0))) [] tt (All-nil (OutFits [])));
  },
)
