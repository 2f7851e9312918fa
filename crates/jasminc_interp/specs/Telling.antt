-- The text of a run of the source.
use Rattle.std.specs.Prelude.{◌≡◌, ℕ, List, [], ◌++◌, map, codes}
use Rattle.std.specs.List.{concat, zip}
use Rattle.jz_tree.specs.Memory.{Memory}
use Rattle.jz_tree.specs.declared.expr.Var.{Var}
use Rattle.jz_tree.specs.declared.program.Fun.{Fun}
use Rattle.jz_tree.specs.declared.expr.Expr.TheViews.{out-Var}
use Rattle.jz_text.specs.Texts.{span_text}
use Rattle.jz_meaning.specs.States.{Value, word}
use Rattle.jz_meaning.specs.Rules.{End, Cut, Stuck}
use Rattle.jz_meaning.specs.Runs.{FunOutcome}
use Rattle.jz_meaning.specs.declared.value.Why.{Why}
use Rattle.jz_meaning.specs.declared.value.Why.TheVariants as why
use Rattle.jz_meaning.specs.declared.value.Stuck as code
use Rattle.jasminc_lines.specs.Lines.{result_text, cut_line}
use Rattle.jasminc_regions.specs.Regions.{regions_text}
use Rattle.jasminc_interp.specs.declared.telling.Ran.{Ran}
use Rattle.jasminc_interp.specs.declared.telling.Ran.TheVariants as ran

unfoldable pub why_name : Why → List ℕ
why_name why.Bounds = codes "Bounds"
why_name why.Address = codes "Address"
why_name why.Align = codes "Align"
why_name why.Init = codes "Init"
why_name why.Divide = codes "Divide"

-- where a run is stuck, and why
abbrev pub stuck_line : code.Stuck → List ℕ
stuck_line k =
    codes "stuck " ++ span_text k.span ++ codes " " ++ why_name k.why ++ codes "\n"

-- a variable that is returned, with its word; a function gives back nothing but words
abbrev pub value_text : Var → Value → List ℕ
value_text x (word z a) = result_text (out-Var x).name z a
value_text x v = []

abbrev pub results_text : List Var → List Value → List ℕ
results_text xs vs = concat (map (λ p. value_text p.0 p.1) (zip xs vs))

-- that it ended, its results, and its regions at the end
abbrev pub end_text : Fun → List ℕ → List Value → Memory → List ℕ
end_text f words vs m =
    codes "end\n" ++ results_text f.result vs ++ regions_text f words m

-- what is told of the outcome of a function's run on argument words with so many turns
abbrev pub Tells : Fun → List ℕ → ℕ → FunOutcome → Ran → Type 0
Tells f words n (End r k l) (ran.Ended text) = text ≡ end_text f words r.words r.memory
Tells f words n (Cut l) (ran.Cut text) = text ≡ cut_line n
Tells f words n (Stuck w) (ran.Stuck text) = text ≡ stuck_line w
Tells f words n _ _ = ⊥
