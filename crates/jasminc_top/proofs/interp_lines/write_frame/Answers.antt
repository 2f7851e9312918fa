use Rattle.std.proofs.Common.{◌≡◌, ◌++◌, List, ℕ, ap, ◌∙◌, append_assoc, subst, if◌then◌else◌}
use Rattle.std.specs.Prelude.{OnOk, codes, Result, Ok, Err, is_ok}
use Rattle.jasminc_top.proofs.interp_lines.write_frame.Goals as goal

on_ok : {A E : Type 0} (r : Result A E) (a b d : List ℕ) → a ≡ (if is_ok r then b else d) → OnOk r (a ≡ b)
on_ok (Ok x) a b d e = e
on_ok (Err x) a b d e = tt

pub returns : goal.returns
returns c =
    let value = c.as_bytes.ensures.value in
    let text = c.as_str.ensures in
    let same : c.as_bytes.result.now ≡ c.args.name.now = cc in
    let old = c.extend_from_slice.new.self.items in
    subst (λ (t : List ℕ). OnOk c.extend_from_slice-2.result (c.extend_from_slice-2.new.self.items ≡ t))
    (ap (λ t. t ++ c.as_bytes.result.now) c.in_ok-extend_from_slice.ensures.items
    ∙ ap (λ b. (c.args.line.now.items ++ codes "limit Frame ") ++ b) same
    ∙ append_assoc c.args.line.now.items (codes "limit Frame ") c.args.name.now)
    (on_ok c.extend_from_slice-2.result c.extend_from_slice-2.new.self.items (old ++ c.as_bytes.result.now) old c.extend_from_slice-2.ensures.items)
