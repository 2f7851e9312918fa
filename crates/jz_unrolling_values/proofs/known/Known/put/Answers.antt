use Rattle.std.proofs.Common.{◌∙◌, ap, None}
use Rattle.std.specs.Prelude.{option_map}
use Rattle.jz_meaning.specs.States.{as_value}
use Rattle.jz_meaning.specs.Stores.{store_of}
use Rattle.jz_unrolling_values.specs.Numbers.{whole_number, numbers_in, with_number_at}
use Rattle.jz_unrolling_values.proofs.NumberLemmas.{put_number, held_number}
use Rattle.jz_unrolling_values.proofs.known.Known.put.Goals as goal

pub returns-clause-numbers : goal.returns-clause-numbers
returns-clause-numbers c =
    let name = c.args.name.now in
    let copy = c.args.copy in
    let e = numbers_in c.args.self.now in
    ap (λ s n d. whole_number (s (record { name = n; copy = d; cell = None }))) c.in_ok-put.ensures
    ∙ put_number (store_of c.args.self.now.numbers) name copy (option_map as_value c.as_held.result)
    ∙ ap (λ v. with_number_at e name copy (whole_number v)) c.as_held.ensures
    ∙ ap (with_number_at e name copy) (held_number c.args.number)
