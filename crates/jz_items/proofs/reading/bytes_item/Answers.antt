use Rattle.std.proofs.Common.{rules, ◌≡◌, length, sym, ap, ◌∙◌}
use Rattle.std.specs.List.{position_or_len}
use Rattle.std.specs.Option.{option_and_then}
use Rattle.jz_items.specs.Items.{in_slot, is_colon}
use Rattle.jz_items.proofs.Colons.{without_colon}
use Rattle.jz_items.proofs.reading.bytes_item.Goals as goal

pub returns-in-None-2 : goal.returns-in-None-2
returns-in-None-2 c =
    let none : position_or_len is_colon c.args.text.now ≡ length c.args.text.now = search rules
    in sym (without_colon c.args.position c.args.text.now none ∙ ap (option_and_then (in_slot c.args.position)) (sym c.in_ok-bytes_of-in-None.ensures ∙ c.in-None-2.is))

pub returns-in-Some-2 : goal.returns-in-Some-2
returns-in-Some-2 c =
    let none : position_or_len is_colon c.args.text.now ≡ length c.args.text.now = search rules
    in c.in_slot.ensures ∙ sym (without_colon c.args.position c.args.text.now none ∙ ap (option_and_then (in_slot c.args.position)) (sym c.in_ok-bytes_of-in-None.ensures ∙ c.in-Some-2.is))
