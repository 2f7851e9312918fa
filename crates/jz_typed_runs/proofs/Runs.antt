-- Runs of typed programs keep kinds.
use Rattle.std.proofs.lemmas.List.Elements.{All-contains}
use Rattle.jz_run_laws.specs.Texts.{FunctionDeclared}
use Rattle.jz_run_laws.proofs.Functions.{entries_keep, functions_keep}
use Rattle.jz_run_laws.proofs.Texts.{texts_declare}
use Rattle.jz_typed_runs.specs.TypedTexts.{kinds_in}
use Rattle.jz_typed_runs.specs.Runs.{ReachedLaw, EndsLaw}
use Rattle.jz_typed_runs.proofs.Declaring.{declared_law}
use Rattle.jz_typed_runs.proofs.Reaching.{comes_so}
use Rattle.jz_typed_runs.proofs.Trees.{body_declared}

pub reached : ReachedLaw
reached q f words memory n g p s typed c =
    let all = declared_law q typed in
    let has = c.input.of_program in
    let d = All-contains (λ z. FunctionDeclared q.funs (kinds_in q z) z) q.funs f all has in
    comes_so q c.comes (body_declared q all f has) (entries_keep (kinds_in q f) q f words memory d.params c.input c.bytes) has

pub ends : EndsLaw
ends q f words memory n o typed bytes run =
    let all = declared_law q typed in
    let has = run.input.of_program in
    let d = All-contains (λ z. FunctionDeclared q.funs (kinds_in q z) z) q.funs f all has in
    functions_keep (kinds_in q f) q f words memory n o d.params (texts_declare (kinds_in q) q f all has) bytes run
