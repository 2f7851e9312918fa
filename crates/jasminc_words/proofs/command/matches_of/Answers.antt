use Rattle.std.proofs.Common.{◌≡◌, ◌∙◌, refl, rules}
use Rattle.clap.specs.Words.{app_of, kind_of}
use Rattle.clap.specs.declared.error.kind.ErrorKind.TheVariants.{OutOfMemory}
use Rattle.jasminc_words.specs.Commands.{jasminc_app}
use Rattle.jasminc_words.specs.Wanted.{texts_of}
use Rattle.jasminc_words.proofs.Outcomes.{matched, refused, command_is}
use Rattle.jasminc_words.proofs.command.matches_of.Goals as goal

pub returns-in-Ok-try_get_matches_from : goal.returns-in-Ok-try_get_matches_from
returns-in-Ok-try_get_matches_from c =
    let texts = texts_of c.args.words.now in
    let to = c.in-Ok-try_get_matches_from.ensures in
    let h = matched (app_of c.in-Ok.command) jasminc_app texts c.in-Ok.ensures.app_is refl refl c.in-Ok-try_get_matches_from.matches to.matches to.kinds in
    (h.0, command_is texts ∙ h.1)

pub returns : goal.returns
returns c =
    let texts = texts_of c.args.words.now in
    let other : kind_of c.in-Err-try_get_matches_from.error ≡ OutOfMemory → ⊥ = search rules in
    let h = refused (app_of c.in-Ok.command) jasminc_app texts c.in-Ok.ensures.app_is refl refl c.in-Err-try_get_matches_from.error c.in-Err-try_get_matches_from.ensures.kinds other in
    (h.0, command_is texts ∙ h.1)
