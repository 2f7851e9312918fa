-- What private contracts alone say of needs: the list that is built, need by need.
use Rattle.std.specs.Prelude.{ℕ, List, [], ◌∷◌, nat_eq, if◌then◌else◌}
use Rattle.jz_ir.specs.declared.code.Op.{Op}
use Rattle.jz_ir.specs.declared.code.Need.{Need}
use Rattle.jz_alloc.specs.declared.needs.Needed.{Needed}
use Rattle.jz_alloc.specs.Needs.{need_before, needed_by}

abbrev pub insert_need : Needed → List Needed → List Needed
insert_need needed [] = needed ∷ []
insert_need needed (first ∷ rest) =
    if need_before first needed then first ∷ insert_need needed rest
    else (if need_before needed first then needed ∷ (first ∷ rest) else first ∷ rest)

abbrev pub add_needs : ℕ → List Need → List Needed → List Needed
add_needs variable [] needs = needs
add_needs variable (need ∷ rest) needs =
    add_needs variable rest
    (if nat_eq need.variable variable then insert_need (needed_by need) needs else needs)

abbrev pub need_list : ℕ → List Op → List Needed → List Needed
need_list variable [] needs = needs
need_list variable (op ∷ rest) needs = need_list variable rest (add_needs variable op.needs needs)
