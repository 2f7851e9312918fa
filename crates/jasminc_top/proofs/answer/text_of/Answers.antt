use Rattle.std.proofs.Common.{◌≡◌, ap, ◌∙◌, sym, subst, refl, List, ℕ, length, ◌≤◌}
use Rattle.std.specs.Prelude.{IfOk, IfErr, OnOk}
use Rattle.jz_tree.specs.Failures.{IfRefused}
use Rattle.jasminc_words.specs.Wanted.{wanted_of}
use Rattle.jasminc_words.specs.Inputs.{Origin, input_of}
use Rattle.jasminc_top.specs.Answers.{IsShortInput, IsInputRead, InputRefuses, IsQuiet}
use Rattle.jasminc_top.specs.Told.{source_told}
use Rattle.jasminc_top.proofs.ProgramCauses.{few_statements}
use Rattle.jasminc_top.proofs.answer.text_of.Goals as goal

pub returns-in-File-clause-text : goal.returns-in-File-clause-text
returns-in-File-clause-text g c =
    subst (λ (o : Origin). IfOk c.file_text.result (IsShortInput o (g.S.Source.told c.args.src.now))) (ap input_of (sym c.in-File.is) ∙ c.input-input.ensures) c.file_text.ensures.text

pub returns-in-File-clause-read : goal.returns-in-File-clause-read
returns-in-File-clause-read g c =
    let told = source_told g.S.Source.told g.S.Source.faults c.args.src.now c.file_text.new.src in
    subst (λ (o : Origin). OnOk c.file_text.result (IsInputRead o told × IsQuiet told)) (ap input_of (sym c.in-File.is) ∙ c.input-input.ensures) c.file_text.ensures.whole

pub returns-in-File-clause-refused : goal.returns-in-File-clause-refused
returns-in-File-clause-refused g c =
    let told = source_told g.S.Source.told g.S.Source.faults c.args.src.now c.file_text.new.src in
    subst (λ (o : Origin). IfErr c.file_text.result (λ e. IfRefused e (InputRefuses o told))) (ap input_of (sym c.in-File.is) ∙ c.input-input.ensures) c.file_text.ensures.refused

pub returns-in_ok-text-in-Program-clause-text : goal.returns-in_ok-text-in-Program-clause-text
returns-in_ok-text-in-Program-clause-text g c =
    let from = ap input_of (sym c.in-Program.is) ∙ c.input-input.ensures in
    let few = few_statements (wanted_of c.args.request.now) c.in-Program.seed c.in-Program.size c.requires from in
    subst (λ (o : Origin). IsShortInput o (g.S.Source.told c.args.src.now) c.in_ok-text-in-Program.text) from
    (c.in_ok-text-in-Program.ensures, subst (λ (t : List ℕ). length t ≤ 1048576) (sym c.in_ok-text-in-Program.ensures) (c.programs_are_short.ensures c.in-Program.seed c.in-Program.size few))

pub returns-in_ok-text-in-Program-clause-read : goal.returns-in_ok-text-in-Program-clause-read
returns-in_ok-text-in-Program-clause-read g c =
    let told = source_told g.S.Source.told g.S.Source.faults c.args.src.now c.args.src.now in
    subst (λ (o : Origin). IsInputRead o told × IsQuiet told) (ap input_of (sym c.in-Program.is) ∙ c.input-input.ensures) (refl, refl)
