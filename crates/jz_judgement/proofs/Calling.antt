-- Calls, intrinsics, statements and programs.
use Rattle.std.proofs.Common.{◌≡◌, Bool, true, false, ◌&&◌, ◌||◌, List, [], ◌∷◌, ◌++◌, ◌⊎◌, inl, inr, length, Option, Some, None, flat_map, refl, sym, ap, ◌∙◌, arith}
use Rattle.std.specs.Prelude.{if◌then◌else◌, is_some, is_none, nat_eq, All}
use Rattle.std.proofs.lemmas.Bool.{false≢true, and_parts, and_from, eqb-true, eq-eqb}
use Rattle.std.proofs.lemmas.List.Elements.{All-nil, All-cons, All-head, All-tail}
use Rattle.std.specs.Option.{option_or}
use Rattle.jz_tree.specs.Span.{Span}
use Rattle.jz_tree.specs.Size.{Size}
use Rattle.jz_tree.specs.Size.TheVariants as sizes
use Rattle.jz_tree.specs.declared.expr.BinOp.{BinOp}
use Rattle.jz_tree.specs.declared.expr.Expr.{Expr}
use Rattle.jz_tree.specs.declared.expr.Decl.{Decl}
use Rattle.jz_tree.specs.declared.expr.Var.{Var}
use Rattle.jz_tree.specs.declared.expr.Expr.TheViews.{out-Var}
use Rattle.jz_tree.specs.declared.stmt.Lval.{Lval}
use Rattle.jz_tree.specs.declared.stmt.Lval.TheVariants as lval
use Rattle.jz_tree.specs.declared.stmt.Rhs.{Rhs}
use Rattle.jz_tree.specs.declared.stmt.Rhs.TheVariants as rhs
use Rattle.jz_tree.specs.declared.stmt.StmtKind.TheOpen.{StmtKind-F}
use Rattle.jz_tree.specs.declared.program.Fun.{Fun}
use Rattle.jz_tree.specs.declared.program.Param.{Param}
use Rattle.jz_tree.specs.declared.program.Ret.{Ret}
use Rattle.jz_tree.specs.declared.program.Program.{Program}
use Rattle.jz_type_names.specs.declared.kinds.Kind.{Kind}
use Rattle.jz_type_names.specs.declared.kinds.Kind.TheVariants as kind
use Rattle.jz_type_names.specs.Order.{unless}
use Rattle.jz_type_names.specs.Kinds.{known_of, is_inline_int, kind_of, array_of, whole_array}
use Rattle.jz_type_names.specs.Scopes.{name_of}
use Rattle.jz_type_names.specs.Parts.{Layer, layer_of, span_of, statements_of, is_skip}
use Rattle.jz_type_sizes.specs.declared.signatures.Role.{Role}
use Rattle.jz_type_sizes.specs.declared.signatures.Role.TheVariants as role
use Rattle.jz_type_sizes.specs.declared.wants.Want.TheVariants as want
use Rattle.jz_type_sizes.specs.Firsts.{wrong_beside}
use Rattle.jz_type_sizes.specs.Typings.{typing}
use Rattle.jz_type_sizes.specs.Sides.{left_form, within, any_size, takes}
use Rattle.jz_type_sizes.specs.Signatures.{Signature, signature}
use Rattle.jz_type_sizes.specs.Intrinsics.{role_want, role_size, value_size, result_size, argument_size, size_of_intrinsic, argument_wrong, result_wrong, none_more, are_counted, intrinsic_wrong}
use Rattle.jz_type_sizes.specs.Calls.{is_declared, is_that_array, passed_as, passed_by, passed_wrong, takes_kind, takes_result, given_wrong, is_callee, fits_call, call_wrong, returned_one, none_beyond, returned_wrong}
use Rattle.jz_type_sizes.specs.Mismatches.{Named, right_wrong, condition_wrong, mismatched_with, callee_from, callee_where, stmt_wrong, body_wrong, among, mismatched_declared}
use Rattle.jz_judgement.specs.Places.{integer, truth, word}
use Rattle.jz_judgement.specs.Lefts as lefts
use Rattle.jz_judgement.specs.Lefts.{Holds, Leaves, IsSound, IsFlag, Values}
use Rattle.jz_judgement.specs.WellTyped as well
use Rattle.jz_judgement.specs.WellTyped.{InPairs, none, next, PassedAs, PassedBy, Passed, IsSkip, GivenAs, Given, Calls, role_place, Operand, Output, Instructs, RightSide, Condition, WellTyped, Returned, WellTypedIn, IsWellTyped}
use Rattle.jz_judgement.specs.Agreement.{want_of}
use Rattle.jz_judgement.proofs.Nothing.{none_not, neither_size}
use Rattle.jz_type_names.proofs.Empty.{both, joined, passed, passes}
use Rattle.jz_judgement.proofs.Expressions.{judged_of}
use Rattle.jz_judgement.proofs.Operations.{if_true}
use Rattle.jz_judgement.proofs.Holding.{holds_word, word_holds, holds_none, none_holds, sound, sound_so, flag, flag_so, holds_some, some_holds}
use Rattle.jz_judgement.proofs.Assigning.{values_hold, values_right}

-- ---- lists
pub all_hold : {A : Type 0} (f : A → List Span) (P : A → Type 0) → ((a : A) → f a ≡ [] → P a) → (xs : List A) → flat_map f xs ≡ [] → All P xs
all_hold f P law [] e = All-nil P
all_hold f P law (x ∷ xs) e = let h = both (f x) (flat_map f xs) e in All-cons P x xs (law x h.0) (all_hold f P law xs h.1)

pub all_right : {A : Type 0} (f : A → List Span) (P : A → Type 0) → ((a : A) → P a → f a ≡ []) → (xs : List A) → All P xs → flat_map f xs ≡ []
all_right f P law [] h = refl
all_right f P law (x ∷ xs) h = joined (f x) (flat_map f xs) (law x (All-head P x xs h)) (all_right f P law xs (All-tail P x xs h))

shorter : {A B : Type 0} (a : A) (b : B) (as' : List A) (bs : List B) → nat_eq (length (b ∷ bs)) (length (a ∷ as')) ≡ true → nat_eq (length bs) (length as') ≡ true
shorter a b as' bs e = (let z : length (b ∷ bs) ≡ length (a ∷ as') = eqb-true _ _ e in eq-eqb (length bs) (length as') (omega (arith, z)))

pub pairs_hold : {A B : Type 0} (f : A → B → List Span) (more : B → List Span) (R : A → B → Type 0) → ((a : A) (b : B) → f a b ≡ [] → R a b) → (as' : List A) (bs : List B)
    → nat_eq (length bs) (length as') ≡ true → wrong_beside f more as' bs ≡ [] → InPairs R as' bs
pairs_hold f more R law [] [] n e = none
pairs_hold f more R law [] (b ∷ bs) n e = (let z : length (b ∷ bs) ≡ 0 = eqb-true _ _ n in absurd (omega (arith, z)))
pairs_hold f more R law (a ∷ as') [] n e = (let z : 0 ≡ length (a ∷ as') = eqb-true _ _ n in absurd (omega (arith, z)))
pairs_hold f more R law (a ∷ as') (b ∷ bs) n e =
    let h = both (f a b) (wrong_beside f more as' bs) e in
    next (law a b h.0) (pairs_hold f more R law as' bs (shorter a b as' bs n) h.1)

pub pairs_right : {A B : Type 0} (f : A → B → List Span) (more : B → List Span) (R : A → B → Type 0) → ((a : A) (b : B) → R a b → f a b ≡ []) → (as' : List A) (bs : List B)
    → InPairs R as' bs → (wrong_beside f more as' bs ≡ []) × (nat_eq (length bs) (length as') ≡ true)
pairs_right f more R law as' bs none = (refl, refl)
pairs_right f more R law as' bs (next {a = a} {b = b} {as' = as2} {bs = bs2} h t) =
    let rest = pairs_right f more R law as2 bs2 t in
    (joined (f a b) (wrong_beside f more as2 bs2) (law a b h) rest.0, eq-eqb (length (b ∷ bs2)) (length (a ∷ as2)) (let z = eqb-true (length bs2) (length as2) rest.1 in omega (arith, z)))

-- ---- calls
array_that : (d : Decl) (o : Option Var) → is_that_array d o ≡ true → (v : Var) × (o ≡ Some v) × (is_declared d v ≡ true)
array_that d None e = absurd (false≢true e)
array_that d (Some v) e = (v, refl, e)

that_array : (d : Decl) (o : Option Var) (v : Var) → o ≡ Some v → is_declared d v ≡ true → is_that_array d o ≡ true
that_array d o v e h = ap (is_that_array d) e ∙ h

as_holds : (k : Kind) (d : Decl) (e : Expr) → passed_as k d e ≡ [] → PassedAs k d e
as_holds kind.Int d e h = (judged_of e).agrees.holds integer h
as_holds kind.Truth d e h = (judged_of e).agrees.holds truth h
as_holds (kind.Word z) d e h = (judged_of e).agrees.holds (word z) h
as_holds (kind.Array z) d e h = array_that d (array_of e) (passed (is_that_array d (array_of e)) (span_of e) h)

as_right : (k : Kind) (d : Decl) (e : Expr) → PassedAs k d e → passed_as k d e ≡ []
as_right kind.Int d e h = (judged_of e).agrees.right integer h
as_right kind.Truth d e h = (judged_of e).agrees.right truth h
as_right (kind.Word z) d e h = (judged_of e).agrees.right (word z) h
as_right (kind.Array z) d e h = passes (is_that_array d (array_of e)) (span_of e) (that_array d (array_of e) h.0 h.1 h.2)

by_holds : (d : Option Decl) (e : Expr) → passed_by d e ≡ [] → PassedBy d e
by_holds None e h = tt
by_holds (Some d) e h = as_holds (kind_of d.ty) d e h

by_right : (d : Option Decl) (e : Expr) → PassedBy d e → passed_by d e ≡ []
by_right None e h = refl
by_right (Some d) e h = as_right (kind_of d.ty) d e h

passed_holds : (p : Param) (e : Expr) → passed_wrong p e ≡ [] → Passed p e
passed_holds p e h = by_holds (out-Var p.var).decl e h

passed_right : (p : Param) (e : Expr) → Passed p e → passed_wrong p e ≡ []
passed_right p e h = by_right (out-Var p.var).decl e h

is_nothing : {A : Type 0} (o : Option A) → is_none o ≡ true → o ≡ None
is_nothing None e = refl
is_nothing (Some a) e = absurd (false≢true e)

skips : (l : Lval) → is_skip l ≡ true → IsSkip l
skips (lval.Skip at) e = tt
skips (lval.Var v) e = absurd (false≢true e)
skips (lval.Cell v i) e = absurd (false≢true e)
skips (lval.Store a) e = absurd (false≢true e)

skip_is : (l : Lval) → IsSkip l → (is_skip l ≡ true) × IsSound l
skip_is (lval.Skip at) h = (refl, lefts.nothing)
skip_is (lval.Var v) h = absurd h
skip_is (lval.Cell v i) h = absurd h
skip_is (lval.Store a) h = absurd h

whole_sound : (l : Lval) (v : Var) → whole_array l ≡ Some v → IsSound l
whole_sound (lval.Skip at) v e = absurd (none_not v e)
whole_sound (lval.Var u) v e = lefts.variable
whole_sound (lval.Cell u i) v e = absurd (none_not v e)
whole_sound (lval.Store a) v e = absurd (none_not v e)

or_which : (a b : Bool) → (a || b) ≡ true → (a ≡ true) ⊎ (b ≡ true)
or_which true b e = inl refl
or_which false b e = inr e

or_first : (a b : Bool) → a ≡ true → (a || b) ≡ true
or_first a b e = ap (λ c. c || b) e

or_second : (a b : Bool) → b ≡ true → (a || b) ≡ true
or_second true b e = refl
or_second false b e = e

given_array : (d : Decl) (l : Lval) → (is_skip l ≡ true) ⊎ (is_that_array d (whole_array l) ≡ true) → IsSkip l ⊎ ((v : Var) × (whole_array l ≡ Some v) × (is_declared d v ≡ true))
given_array d l (inl e) = inl (skips l e)
given_array d l (inr e) = inr (array_that d (whole_array l) e)

given_in : (k : Kind) (d : Decl) (l : Lval) → within any_size l ≡ [] → takes_kind k d l ≡ true → GivenAs k d l
given_in kind.Int d l h e = sound sizes.S8 l h
given_in kind.Truth d l h e = sound sizes.S8 l h
given_in (kind.Word z) d l h e =
    let parts = and_parts (takes (want.Word z) l) (is_none (whole_array l)) e in
    (is_nothing (whole_array l) parts.1, holds_word z l (sound_so z l (sound sizes.S8 l h)) parts.0)
given_in (kind.Array z) d l h e = given_array d l (or_which (is_skip l) (is_that_array d (whole_array l)) e)

given_out : (k : Kind) (d : Decl) (l : Lval) → GivenAs k d l → IsSound l × (takes_kind k d l ≡ true)
given_out kind.Int d l h = (h, refl)
given_out kind.Truth d l h = (h, refl)
given_out (kind.Word z) d l h =
    let w = word_holds z l h.1 in (sound z l w.0, and_from (takes (want.Word z) l) (is_none (whole_array l)) w.1 (ap is_none h.0))
given_out (kind.Array z) d l (inl s) = let k = skip_is l s in (k.1, or_first (is_skip l) (is_that_array d (whole_array l)) k.0)
given_out (kind.Array z) d l (inr a) = (whole_sound l a.0 a.1, or_second (is_skip l) (is_that_array d (whole_array l)) (that_array d (whole_array l) a.0 a.1 a.2))

given_holds : (at : Span) (r : Ret) (l : Lval) → given_wrong at r l ≡ [] → Given r l
given_holds at r l h =
    let parts = both (within any_size l) (unless (takes_result r.decl l) at) h in
    given_in (kind_of r.decl.ty) r.decl l parts.0 (passed (takes_result r.decl l) at parts.1)

given_right : (at : Span) (r : Ret) (l : Lval) → Given r l → given_wrong at r l ≡ []
given_right at r l h =
    let parts = given_out (kind_of r.decl.ty) r.decl l h in
    joined (within any_size l) (unless (takes_result r.decl l) at) (sound_so sizes.S8 l parts.0) (passes (takes_result r.decl l) at parts.1)

pub calls_hold : (g : Option Fun) (to : List Lval) (args : List Expr) (at : Span) → call_wrong g to args at ≡ [] → Calls g to args
calls_hold None to args at h = well.unknown (all_hold (within any_size) IsSound (sound sizes.S8) to h)
calls_hold (Some g) to args at h =
    let a = both (wrong_beside (given_wrong at) (within any_size) g.rets to ++ unless (fits_call g to args) at) (wrong_beside passed_wrong none_more g.params args) h in
    let b = both (wrong_beside (given_wrong at) (within any_size) g.rets to) (unless (fits_call g to args) at) a.0 in
    let c = and_parts (is_callee g.kind) (nat_eq (length args) (length g.params) && nat_eq (length to) (length g.rets)) (passed (fits_call g to args) at b.1) in
    let d = and_parts (nat_eq (length args) (length g.params)) (nat_eq (length to) (length g.rets)) c.1 in
    well.called c.0 (pairs_hold (given_wrong at) (within any_size) Given (given_holds at) g.rets to d.1 b.0) (pairs_hold passed_wrong none_more Passed passed_holds g.params args d.0 a.1)

pub calls_right : (g : Option Fun) (to : List Lval) (args : List Expr) (at : Span) → Calls g to args → call_wrong g to args at ≡ []
calls_right g to args at (well.unknown h) = all_right (within any_size) IsSound (sound_so sizes.S8) to h
calls_right g to args at (well.called {g = f} k rs ps) =
    let a = pairs_right (given_wrong at) (within any_size) Given (given_right at) f.rets to rs in
    let b = pairs_right passed_wrong none_more Passed passed_right f.params args ps in
    joined (wrong_beside (given_wrong at) (within any_size) f.rets to ++ unless (fits_call f to args) at) (wrong_beside passed_wrong none_more f.params args)
    (joined (wrong_beside (given_wrong at) (within any_size) f.rets to) (unless (fits_call f to args) at) a.0
    (passes (fits_call f to args) at (and_from (is_callee f.kind) (nat_eq (length args) (length f.params) && nat_eq (length to) (length f.rets)) k (and_from (nat_eq (length args) (length f.params)) (nat_eq (length to) (length f.rets)) b.1 a.1))))
    b.0

-- ---- intrinsics
role_is : (z : Option Size) (r : Role) → role_want z r ≡ want_of (role_place z r)
role_is z role.Flag = refl
role_is None role.Value = refl
role_is (Some z) role.Value = refl
role_is z role.Count = refl
role_is z role.Condition = refl
role_is z role.Address = refl
role_is z role.Byte = refl

operand_at : (z : Option Size) (r : Role) (e : Expr) (b : Bool) → is_some (array_of e) ≡ b → (if b then [] else (typing e).wrong (role_want z r)) ≡ [] → Operand z r e
operand_at z r e true a h = inl a
operand_at z r e false a h = inr ((judged_of e).agrees.holds (role_place z r) (ap (λ w. (typing e).wrong w) (sym (role_is z r)) ∙ h))

operand_holds : (z : Option Size) (r : Role) (e : Expr) → argument_wrong z r e ≡ [] → Operand z r e
operand_holds z r e h = operand_at z r e (is_some (array_of e)) refl h

either_nothing : (b : Bool) (xs : List Span) → xs ≡ [] → (if b then [] else xs) ≡ []
either_nothing true xs e = refl
either_nothing false xs e = e

operand_right : (z : Option Size) (r : Role) (e : Expr) → Operand z r e → argument_wrong z r e ≡ []
operand_right z r e (inl a) = if_true (is_some (array_of e)) [] ((typing e).wrong (role_want z r)) a
operand_right z r e (inr h) =
    either_nothing (is_some (array_of e)) ((typing e).wrong (role_want z r)) (ap (λ w. (typing e).wrong w) (role_is z r) ∙ (judged_of e).agrees.right (role_place z r) h)

-- where no size is known, a value has none
abbrev Sizeless : Option Size → Role → Lval → Type 0
Sizeless z r d = z ≡ None → value_size r (left_form d).size ≡ None

output_in : (z : Option Size) (r : Role) (d : Lval) → Sizeless z r d → within (role_size z r) d ≡ [] → takes (role_want z r) d ≡ true → Output z r d
output_in z role.Flag d n h t = flag d t
output_in None role.Value d n h t = holds_none d (n refl) h t
output_in (Some z) role.Value d n h t = holds_word z d h t
output_in z role.Count d n h t = holds_word sizes.S8 d h t
output_in z role.Condition d n h t = flag d t
output_in z role.Address d n h t = holds_some d h t
output_in z role.Byte d n h t = holds_word sizes.S8 d h t

output_out : (z : Option Size) (r : Role) (d : Lval) → Output z r d → (within (role_size z r) d ≡ []) × (takes (role_want z r) d ≡ true)
output_out z role.Flag d h = flag_so d h
output_out None role.Value d h = none_holds d h
output_out (Some z) role.Value d h = word_holds z d h
output_out z role.Count d h = word_holds sizes.S8 d h
output_out z role.Condition d h = flag_so d h
output_out z role.Address d h = some_holds d h.0 h.1
output_out z role.Byte d h = word_holds sizes.S8 d h

output_right : (z : Option Size) (at : Span) (r : Role) (d : Lval) → Output z r d → result_wrong z at r d ≡ []
output_right z at r d h =
    let parts = output_out z r d h in joined (within (role_size z r) d) (unless (takes (role_want z r) d) at) parts.0 (passes (takes (role_want z r) d) at parts.1)

outputs_hold : (z : Option Size) (at : Span) (rs : List Role) (ds : List Lval) → (z ≡ None → result_size rs ds ≡ None) → nat_eq (length ds) (length rs) ≡ true
    → wrong_beside (result_wrong z at) (within any_size) rs ds ≡ [] → InPairs (Output z) rs ds
outputs_hold z at [] [] n l e = none
outputs_hold z at [] (d ∷ ds) n l e = (let w : length (d ∷ ds) ≡ 0 = eqb-true _ _ l in absurd (omega (arith, w)))
outputs_hold z at (r ∷ rs) [] n l e = (let w : 0 ≡ length (r ∷ rs) = eqb-true _ _ l in absurd (omega (arith, w)))
outputs_hold z at (r ∷ rs) (d ∷ ds) n l e =
    let h = both (result_wrong z at r d) (wrong_beside (result_wrong z at) (within any_size) rs ds) e in
    let parts = both (within (role_size z r) d) (unless (takes (role_want z r) d) at) h.0 in
    next (output_in z r d (λ q. (neither_size (value_size r (left_form d).size) (result_size rs ds) (n q)).0) parts.0 (passed (takes (role_want z r) d) at parts.1))
    (outputs_hold z at rs ds (λ q. (neither_size (value_size r (left_form d).size) (result_size rs ds) (n q)).1) (shorter r d rs ds l) h.1)

no_result_size : (g : Signature) (to : List Lval) (args : List Expr) → size_of_intrinsic g to args ≡ None → result_size g.results to ≡ None
no_result_size g to args e =
    (neither_size (result_size g.results to) (argument_size g.arguments args) (neither_size g.size (option_or (result_size g.results to) (argument_size g.arguments args)) e).1).0

pub instructs_hold : (g : Option Signature) (to : List Lval) (args : List Expr) (at : Span) → intrinsic_wrong g to args at ≡ [] → Instructs g to args
instructs_hold None to args at h = well.unknown (all_hold (within any_size) IsSound (sound sizes.S8) to h)
instructs_hold (Some g) to args at h =
    let z = size_of_intrinsic g to args in
    let a = both (wrong_beside (result_wrong z at) (within any_size) g.results to ++ unless (are_counted g to args) at) (wrong_beside (argument_wrong z) none_more g.arguments args) h in
    let b = both (wrong_beside (result_wrong z at) (within any_size) g.results to) (unless (are_counted g to args) at) a.0 in
    let c = and_parts (nat_eq (length args) (length g.arguments)) (nat_eq (length to) (length g.results)) (passed (are_counted g to args) at b.1) in
    well.instance_of (outputs_hold z at g.results to (no_result_size g to args) c.1 b.0) (pairs_hold (argument_wrong z) none_more (Operand z) (operand_holds z) g.arguments args c.0 a.1)

pub instructs_right : (g : Option Signature) (to : List Lval) (args : List Expr) (at : Span) → Instructs g to args → intrinsic_wrong g to args at ≡ []
instructs_right g to args at (well.unknown h) = all_right (within any_size) IsSound (sound_so sizes.S8) to h
instructs_right g to args at (well.instance_of {g = s} rs ps) =
    let z = size_of_intrinsic s to args in
    let a = pairs_right (result_wrong z at) (within any_size) (Output z) (output_right z at) s.results to rs in
    let b = pairs_right (argument_wrong z) none_more (Operand z) (operand_right z) s.arguments args ps in
    joined (wrong_beside (result_wrong z at) (within any_size) s.results to ++ unless (are_counted s to args) at) (wrong_beside (argument_wrong z) none_more s.arguments args)
    (joined (wrong_beside (result_wrong z at) (within any_size) s.results to) (unless (are_counted s to args) at) a.0
    (passes (are_counted s to args) at (and_from (nat_eq (length args) (length s.arguments)) (nat_eq (length to) (length s.results)) b.1 a.1)))
    b.0

-- ---- statements
right_holds : (g : Option Fun) (to : List Lval) (o : Option BinOp) (from : Rhs) → right_wrong g to o from ≡ [] → RightSide g to o from
right_holds g to o (rhs.Value e) h = values_hold to o e h
right_holds g to o (rhs.Call n args at) h = calls_hold g to args at h
right_holds g to o (rhs.Intrinsic n args at) h = instructs_hold (signature n) to args at h

right_right : (g : Option Fun) (to : List Lval) (o : Option BinOp) (from : Rhs) → RightSide g to o from → right_wrong g to o from ≡ []
right_right g to o (rhs.Value e) h = values_right to o e h
right_right g to o (rhs.Call n args at) h = calls_right g to args at h
right_right g to o (rhs.Intrinsic n args at) h = instructs_right (signature n) to args at h

condition_holds : (c : Option Expr) → condition_wrong c ≡ [] → Condition c
condition_holds None h = tt
condition_holds (Some c) h = (judged_of c).agrees.holds truth h

condition_right : (c : Option Expr) → Condition c → condition_wrong c ≡ []
condition_right None h = refl
condition_right (Some c) h = (judged_of c).agrees.right truth h

pub layer_holds : (named : Named) (k : Layer) → mismatched_with (callee_where named k) k ≡ [] → WellTyped named k
layer_holds named (StmtKind-F.Assign to o from cond) h =
    let parts = both (right_wrong (callee_from named from) to o from) (condition_wrong cond) h in
    well.assigned (right_holds (callee_from named from) to o from parts.0) (condition_holds cond parts.1)
layer_holds named (StmtKind-F.If c a b) h = well.branch ((judged_of c).agrees.holds truth h)
layer_holds named (StmtKind-F.While p c b) h = well.loop ((judged_of c).agrees.holds truth h)
layer_holds named (StmtKind-F.For i from down to b) h =
    let a = both (unless (is_inline_int (known_of i)) (name_of i).1 ++ (typing from).wrong want.Int) ((typing to).wrong want.Int) h in
    let c = both (unless (is_inline_int (known_of i)) (name_of i).1) ((typing from).wrong want.Int) a.0 in
    well.rounds (passed (is_inline_int (known_of i)) (name_of i).1 c.0) ((judged_of from).agrees.holds integer c.1) ((judged_of to).agrees.holds integer a.1)
layer_holds named (StmtKind-F.Mark vs) h = well.mark

pub layer_right : (named : Named) (k : Layer) → WellTyped named k → mismatched_with (callee_where named k) k ≡ []
layer_right named k (well.assigned {to = to} {o = o} {from = from} {cond = cond} r c) =
    joined (right_wrong (callee_from named from) to o from) (condition_wrong cond) (right_right (callee_from named from) to o from r) (condition_right cond c)
layer_right named k (well.branch {c = c} h) = (judged_of c).agrees.right truth h
layer_right named k (well.loop {c = c} h) = (judged_of c).agrees.right truth h
layer_right named k (well.rounds {i = i} {from = from} {to = to} n f t) =
    joined (unless (is_inline_int (known_of i)) (name_of i).1 ++ (typing from).wrong want.Int) ((typing to).wrong want.Int)
    (joined (unless (is_inline_int (known_of i)) (name_of i).1) ((typing from).wrong want.Int) (passes (is_inline_int (known_of i)) (name_of i).1 n) ((judged_of from).agrees.right integer f))
    ((judged_of to).agrees.right integer t)
layer_right named k well.mark = refl

-- ---- functions and programs
returned_holds : (r : Ret) (v : Var) → returned_one r v ≡ [] → Returned r v
returned_holds r v h = passed (is_declared r.decl v) (name_of v).1 h

returned_right : (r : Ret) (v : Var) → Returned r v → returned_one r v ≡ []
returned_right r v h = passes (is_declared r.decl v) (name_of v).1 h

pub fun_holds : (named : Named) (f : Fun) → body_wrong named f ≡ [] → WellTypedIn named f
fun_holds named f h =
    let a = both (returned_wrong f) (flat_map (stmt_wrong named) (statements_of f.body)) h in
    let b = both (unless (nat_eq (length f.result) (length f.rets)) f.span) (wrong_beside returned_one none_beyond f.rets f.result) a.0 in (
      pairs_hold returned_one none_beyond Returned returned_holds f.rets f.result (passed (nat_eq (length f.result) (length f.rets)) f.span b.0) b.1,
      all_hold (stmt_wrong named) (λ s. WellTyped named (layer_of s)) (λ s e. layer_holds named (layer_of s) e) (statements_of f.body) a.1,
    )

pub fun_right : (named : Named) (f : Fun) → WellTypedIn named f → body_wrong named f ≡ []
fun_right named f h =
    let a = pairs_right returned_one none_beyond Returned returned_right f.rets f.result h.0 in
    joined (returned_wrong f) (flat_map (stmt_wrong named) (statements_of f.body))
    (joined (unless (nat_eq (length f.result) (length f.rets)) f.span) (wrong_beside returned_one none_beyond f.rets f.result) (passes (nat_eq (length f.result) (length f.rets)) f.span a.1) a.0)
    (all_right (stmt_wrong named) (λ s. WellTyped named (layer_of s)) (λ s e. layer_right named (layer_of s) e) (statements_of f.body) h.1)

pub program_holds : (q : Program) → mismatched_declared q ≡ [] → IsWellTyped q
program_holds q h = all_hold (body_wrong (among q.funs)) (WellTypedIn (among q.funs)) (fun_holds (among q.funs)) q.funs h

pub program_right : (q : Program) → IsWellTyped q → mismatched_declared q ≡ []
program_right q h = all_right (body_wrong (among q.funs)) (WellTypedIn (among q.funs)) (fun_right (among q.funs)) q.funs h
