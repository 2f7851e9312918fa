-- An export function of a typed program has at most two results.
use Rattle.std.proofs.Common.{◌≡◌, ◌≤◌, Bool, true, false, not, ◌&&◌, ◌||◌, List, [], length, sym, subst, arith}
use Rattle.std.specs.Prelude.{All, nat_le}
use Rattle.std.specs.List.{list_all}
use Rattle.std.proofs.lemmas.Bool.{and_parts, false≢true, leb-true}
use Rattle.std.proofs.lemmas.List.{length-map}
use Rattle.std.proofs.lemmas.List.Elements.{All-map, All-weaker}
use Rattle.jz_tree.specs.declared.program.Fun.{Fun}
use Rattle.jz_tree.specs.declared.program.Program.{Program}
use Rattle.jz_type_names.specs.Scopes.{constant_place}
use Rattle.jz_type_names.proofs.Empty.{passed, all_empty, no_member}
use Rattle.jz_type_rows.specs.Exports.{is_exported, has_shape, is_word_param, is_word_result, misshapen_places}
use Rattle.jz_type_rows.specs.Programs.{in_functions}
use Rattle.jz_resolve.specs.Numbering.{values_of}
use Rattle.jz_resolve.specs.Numbering as numbering
use Rattle.jz_resolve.specs.Programs.{counted_ret, resolved_whole, resolved_program}
use Rattle.jz_types.specs.TypedPrograms.{IsTypedProgram}
use Rattle.jz_types.specs.declared.fault.TypeRule.TheVariants as rule

abbrev pub HasTwo : Fun → Type 0
HasTwo f = is_exported f.kind ≡ true → length f.rets ≤ 2

not_or : (a b : Bool) → (not a || b) ≡ true → a ≡ true → b ≡ true
not_or true b e f = e
not_or false b e f = absurd (false≢true f)

shape_two : (f : Fun) → misshapen_places f ≡ [] → HasTwo f
shape_two f e x =
    let shape = not_or (is_exported f.kind) (has_shape f) (passed (not (is_exported f.kind) || has_shape f) f.span e) x in
    let three = (and_parts (nat_le (length f.params) 6 && nat_le (length f.rets) 2 && list_all is_word_param f.params) (list_all is_word_result f.rets) shape).0 in
    let two = (and_parts (nat_le (length f.params) 6 && nat_le (length f.rets) 2) (list_all is_word_param f.params) three).0 in
    leb-true (length f.rets) 2 (and_parts (nat_le (length f.params) 6) (nat_le (length f.rets) 2) two).1

module _ (p : Program) where
  abbrev values : numbering.Values
  values = values_of p.consts

  resolved_two : (f : Fun) → HasTwo f → HasTwo (resolved_whole (constant_place p.consts) values f)
  resolved_two f h x = let l = length-map f.rets (counted_ret values) in let m = h x in omega (arith, l, m)

  all_two : in_functions misshapen_places p ≡ [] → All HasTwo (resolved_program p).funs
  all_two e =
      All-map HasTwo (resolved_whole (constant_place p.consts) values) p.funs
      (All-weaker (λ f. misshapen_places f ≡ []) (λ f. HasTwo (resolved_whole (constant_place p.consts) values f)) (λ f h. resolved_two f (shape_two f h)) p.funs (all_empty misshapen_places p.funs e))

pub two_results : (q : Program) → IsTypedProgram q → All HasTwo q.funs
two_results q h =
    subst (λ z. All HasTwo z.funs) (sym h.same)
    (all_two h.source (no_member (in_functions misshapen_places h.source) (λ at c. h.typed rule.ExportShape at c)))
