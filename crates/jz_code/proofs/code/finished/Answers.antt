use Rattle.std.proofs.Common.{◌≤◌, refl, sym, ◌∙◌, subst}
use Rattle.jz_place.specs.Bodies.{body_of}
use Rattle.jz_code.proofs.Plain.{body_fits}
use Rattle.jz_code.proofs.Whole.{table_near, made_plain, made_few, made_short, finished_is, made_transformer}
use Rattle.jz_code.proofs.code.finished.Goals as goal

pub place-requires : goal.place-requires
place-requires c =
    body_fits _ (table_near c.args.variables.now c.as_slice.result.now (subst (λ n. n ≤ 65536) c.requires.end c.requires.within) (c.as_slice.ensures ∙ c.requires.offsets))
    (body_of c.args.ir.now.body) c.requires.ready.encodable

pub encode_body-requires-clause-plain : goal.encode_body-requires-clause-plain
encode_body-requires-clause-plain c =
    made_plain c.args.ir.now c.args.variables.now c.args.places.now c.requires.ready (subst (λ n. n ≤ 65536) c.requires.end c.requires.within) c.requires.first c.requires.rule
    c.as_slice.result.now c.args.layout.now.end (c.as_slice.ensures ∙ c.requires.offsets) c.requires.end c.in_ok-body.body c.in_ok-body.ensures.code
    c.in_ok-framed.framed.saved c.in_ok-framed.framed.size c.in_ok-framed.framed.body c.in_ok-framed.ensures.saved c.in_ok-framed.ensures.size c.in_ok-framed.ensures.code

pub encode_body-requires-clause-few : goal.encode_body-requires-clause-few
encode_body-requires-clause-few c =
    made_few c.args.ir.now c.args.variables.now c.args.places.now c.requires.ready (subst (λ n. n ≤ 65536) c.requires.end c.requires.within) c.requires.first c.requires.rule
    c.as_slice.result.now c.args.layout.now.end (c.as_slice.ensures ∙ c.requires.offsets) c.requires.end c.in_ok-body.body c.in_ok-body.ensures.code
    c.in_ok-framed.framed.saved c.in_ok-framed.framed.size c.in_ok-framed.framed.body c.in_ok-framed.ensures.saved c.in_ok-framed.ensures.size c.in_ok-framed.ensures.code

pub encode_body-requires-clause-short : goal.encode_body-requires-clause-short
encode_body-requires-clause-short c =
    made_short c.args.ir.now c.args.variables.now c.args.places.now c.requires.ready (subst (λ n. n ≤ 65536) c.requires.end c.requires.within) c.requires.first c.requires.rule
    c.as_slice.result.now c.args.layout.now.end (c.as_slice.ensures ∙ c.requires.offsets) c.requires.end c.in_ok-body.body c.in_ok-body.ensures.code
    c.in_ok-framed.framed.saved c.in_ok-framed.framed.size c.in_ok-framed.framed.body c.in_ok-framed.ensures.saved c.in_ok-framed.ensures.size c.in_ok-framed.ensures.code

pub returns : goal.returns
returns c =
    finished_is c.args.ir.now c.args.variables.now c.args.places.now c.requires.ready (subst (λ n. n ≤ 65536) c.requires.end c.requires.within) c.requires.first c.requires.rule
    c.as_slice.result.now c.args.layout.now.end (c.as_slice.ensures ∙ c.requires.offsets) c.requires.end c.in_ok-body.body c.in_ok-body.ensures.code
    c.in_ok-framed.framed.saved c.in_ok-framed.framed.size c.in_ok-framed.framed.body c.in_ok-framed.ensures.saved c.in_ok-framed.ensures.size c.in_ok-framed.ensures.code
    c.in_ok-body.ensures.runs _ c.in_ok-made.ensures.bytes c.in_ok-made.ensures.insns refl refl
    (made_transformer c.args.ir.now c.as_slice.result.now c.as_slice-2.result.now c.in_ok-framed.framed.size c.slots_at.result c.args.layout.now.end c.in_ok-framed.framed.saved c.as_slice-3.result.now c.in_ok-transformer.transformer
    (c.as_slice-2.ensures ∙ sym c.as_slice.ensures) c.slots_at.ensures c.as_slice-3.ensures c.in_ok-transformer.ensures)
