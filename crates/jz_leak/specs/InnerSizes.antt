-- How many trees and cases a transformer has, itself among them.
use Rattle.std.specs.Prelude.{ℕ, ◌+◌}
use Rattle.std.specs.List.{sum_by}
use Rattle.jz_leak.specs.declared.transformer.Tr.{Tr}
use Rattle.jz_leak.specs.declared.transformer.Case.{Case}
use Rattle.jz_leak.specs.declared.transformer.Case.TheOpen.{Case-F, Tr-F}
use Rattle.jz_leak.specs.declared.transformer.Case.TheFolds.{fold-Case, fold-Tr}

abbrev pub case_layer_size : Case-F ℕ ℕ → ℕ
case_layer_size (Case-F.Op outs) = 1
case_layer_size (Case-F.If test then_outs then_tr else_outs else_tr) = 1 + then_tr + else_tr
case_layer_size (Case-F.While prologue test more_outs body leave_outs) = 1 + prologue + body
case_layer_size (Case-F.For trs) = 1 + sum_by (λ n. n) trs
case_layer_size (Case-F.Call arguments body results) = 1 + body

abbrev pub tr_layer_size : Tr-F ℕ ℕ → ℕ
tr_layer_size t = 1 + sum_by (λ n. n) t.cases

abbrev pub case_size : Case → ℕ
case_size = fold-Case ℕ ℕ case_layer_size tr_layer_size

abbrev pub tr_size : Tr → ℕ
tr_size = fold-Tr ℕ ℕ case_layer_size tr_layer_size
