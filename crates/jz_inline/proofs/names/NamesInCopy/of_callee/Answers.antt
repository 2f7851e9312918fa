use Rattle.std.proofs.Common.{◌≡◌, ◌∙◌, ℕ, ◌+◌, List, ◌∷◌, drop, length, ap, sym, arith}
use Rattle.std.specs.Option.{option_copied}
use Rattle.std.proofs.Math.Path.{fun_ext}
use Rattle.jz_tree.specs.declared.expr.Expr.{Expr}
use Rattle.jz_tree.specs.declared.expr.Expr.TheViews.{out-Var}
use Rattle.jz_tree.specs.declared.program.Param.{Param}
use Rattle.jz_type_names.specs.Tables.{item_in}
use Rattle.jz_inline.specs.Names.{Names}
use Rattle.jz_inline.specs.Calls.{callee_names}
use Rattle.jz_inline.specs.CopiedNames.{names_of, renamed_or}
use Rattle.jz_inline.proofs.Passed.{ref_name, at_item, at_got, at_end, at_none, one_passed, one_other, none_left}
use Rattle.jz_inline.proofs.names.NamesInCopy.of_callee.Goals as goal
use Rattle.jz_inline.proofs.names.NamesInCopy.of_callee.Goals.{then-is_array+in_ok-renamed-in-Some+in_ok-add-in-Some, else-is_array, else-loop-i-test, then-loop-i-test+in-None}

pub loop-i-preserved : goal.loop-i-preserved
loop-i-preserved c =
    let names : Names = names_of c.args.self.now in
    let j = c.args.copy in
    let i = c.loop-i.i in
    let ps : List Param = drop (i + 1) c.args.params.now in
    let es : List Expr = drop (i + 1) c.args.args.now in
    let p : Param = c.param-item.result in
    let e : Expr = c.in-Some.arg.now in
    let ps_so : drop i c.args.params.now ≡ p ∷ ps =
    ap (drop i) (sym c.as_slice-param-items.ensures)
    ∙ at_item c.as_slice-param-items.result.now i p c.loop-i-test.true c.param-item.is
    ∙ ap (λ l. p ∷ drop (i + 1) l) c.as_slice-param-items.ensures in
    let es_so : drop i c.args.args.now ≡ e ∷ es = at_got c.args.args.now i e (sym c.get.ensures.value ∙ ap option_copied c.in-Some.is) in
    let before : (n : List ℕ) → renamed_or (item_in c.loop-i.arrays n) (callee_names names j (p ∷ ps) (e ∷ es) n) ≡ callee_names names j c.args.params.now c.args.args.now n =
    λ n. ap (λ l. renamed_or (item_in c.loop-i.arrays n) (callee_names names j l (e ∷ es) n)) (sym ps_so)
    ∙ ap (λ l. renamed_or (item_in c.loop-i.arrays n) (callee_names names j (drop i c.args.params.now) l n)) (sym es_so)
    ∙ c.loop-i.invariant n in
    λ n. elim c.if-is_array.branch [
      | then-is_array+in_ok-renamed-in-Some+in_ok-add-in-Some w ↦
          one_passed names j ps es p e (item_in c.loop-i.arrays) (item_in c.if-is_array.arrays) (out-Var p.var).name w.in_ok-renamed-in-Some.renamed n
          (ref_name p.var) (sym w.if-is_array.ensures) (ap (λ t. item_in t) w.arrays-is ∙ w.in_ok-add-in-Some.ensures) w.in_ok-renamed-in-Some.ensures
          ∙ before n
      | else-is_array w ↦
          ap (λ t. renamed_or (item_in t n) (callee_names names j ps es n)) w.arrays-is
          ∙ ap (renamed_or (item_in c.loop-i.arrays n)) (sym (one_other names j ps es p e n (sym w.if-is_array.ensures)))
          ∙ before n
    ]

pub returns : goal.returns
returns c =
    let names : Names = names_of c.args.self.now in
    let j = c.args.copy in
    let i = c.loop-i.i in
    let ps : List Param = drop i c.args.params.now in
    let es : List Expr = drop i c.args.args.now in
    let own : ((n : List ℕ) → callee_names names j ps es n ≡ (n, j)) → names_of (record { arrays = c.loop-i.arrays; copy = j }) ≡ callee_names names j c.args.params.now c.args.args.now =
    λ h. fun_ext (λ n. ap (renamed_or (item_in c.loop-i.arrays n)) (sym (h n)) ∙ c.loop-i.invariant n) in
    elim c.loop-i-test.branch [
      | else-loop-i-test w ↦ own (λ n. ap (λ l. callee_names names j l es n) (at_end c.args.params.now i (omega (arith, w.loop-i-test.false, ap length c.as_slice-param-items.ensures))))
      | then-loop-i-test+in-None w ↦
          own (λ n. ap (λ l. callee_names names j ps l n) (at_none c.args.args.now i (sym w.get.ensures.value ∙ ap option_copied w.in-None.is)) ∙ none_left names j ps n)
    ]
