use Rattle.std.proofs.Common.{◌≡◌, ◌≤◌, length, refl, ap, sym, ◌∙◌, subst, arith}
use Rattle.jz_layers.specs.Spots.{entry_in, spot_of}
use Rattle.jz_layers.specs.Layered.{seen}
use Rattle.jz_layers.proofs.Covering.{Covered, covered_none, covered_more, covered_all}
use Rattle.jz_layers.proofs.layers.Layers.pour.Goals as goal

pub loop-i-init : goal.loop-i-init
loop-i-init g c = (
  refl,
  covered_none (entry_in c.args.table.now) (entry_in c.args.self.now.top) c.args.table.now.entries,
  covered_none (entry_in c.args.table.now) (seen c.args.self.now) c.args.table.now.entries,
)

pub loop-i-preserved : goal.loop-i-preserved
loop-i-preserved g c =
    let m = c.args.table.now in
    let e = c.in-Some.entry in (
      c.in_ok-put-in-Some.ensures.below ∙ c.loop-i.invariant.0,
      subst (Covered (entry_in m) (entry_in c.args.self.now.top) m.entries _) (sym c.in_ok-put-in-Some.ensures.table)
          (covered_more (entry_in m) (entry_in c.args.self.now.top) m.entries c.loop-i.i (entry_in c.loop-i.self.top) e.0.now e.1.now e.1.now (sym c.in-Some.ensures.entry) c.in-Some.ensures.value c.loop-i.invariant.1),
      subst (Covered (entry_in m) (seen c.args.self.now) m.entries _) (sym c.in_ok-put-in-Some.ensures.put)
          (covered_more (entry_in m) (seen c.args.self.now) m.entries c.loop-i.i (seen c.loop-i.self) e.0.now e.1.now e.1.now (sym c.in-Some.ensures.entry) c.in-Some.ensures.value c.loop-i.invariant.2),
    )

pub returns-clause-table : goal.returns-clause-table
returns-clause-table g c =
    let l : length c.args.table.now.entries ≤ c.loop-i.i = omega (arith, c.loop-i-test.false, c.len-count.ensures.len) in
    covered_all c.args.table.now (entry_in c.args.self.now.top) c.loop-i.i (entry_in c.loop-i.self.top) l c.loop-i.invariant.1

pub returns-clause-seen : goal.returns-clause-seen
returns-clause-seen g c =
    let l : length c.args.table.now.entries ≤ c.loop-i.i = omega (arith, c.loop-i-test.false, c.len-count.ensures.len) in
    covered_all c.args.table.now (seen c.args.self.now) c.loop-i.i (seen c.loop-i.self) l c.loop-i.invariant.2
