-- What unrolling makes of a function of a typed text is ready by the kinds of its copies.
use Rattle.std.proofs.Common.{◌≡◌, [], ◌∷◌, map, refl, ap, ◌∙◌, subst, append-nil}
use Rattle.std.specs.Prelude.{All, Contains, slice_index_or}
use Rattle.std.proofs.lemmas.List.Elements.{All-contains}
use Rattle.jz_tree.specs.declared.program.Fun.{Fun}
use Rattle.jz_tree.specs.declared.program.Param.{Param}
use Rattle.jz_tree.specs.declared.program.Program.{Program}
use Rattle.jz_runs.specs.Trees.{done}
use Rattle.jz_meaning.specs.Runs.{body_of}
use Rattle.jz_meaning.specs.Values.{ref_of}
use Rattle.jz_run_laws.specs.Kinds.{part_of}
use Rattle.jz_run_laws.specs.DeclaredKinds.{ParamDeclared}
use Rattle.jz_run_laws.specs.Texts.{FunctionDeclared}
use Rattle.jz_run_laws.proofs.Functions.{entries_keep}
use Rattle.jz_typed_runs.specs.TypedTexts.{IsTypedText, kinds_in}
use Rattle.jz_typed_runs.proofs.Declaring.{declared_law}
use Rattle.jz_texts.specs.Texts.{IsPlain}
use Rattle.jz_texts.proofs.Lists.{parted, unmapped}
use Rattle.jz_bodies.specs.Typed.{IsTypedFunction}
use Rattle.jz_bodies.proofs.Refs.{ref_copy}
use Rattle.jz_bodies.proofs.Whole as whole
use Rattle.jz_bodies.proofs.Whole.{all_known, bodies_law}
use Rattle.jz_scalars.specs.InlineFunctions.{own_names, inlined_body}
use Rattle.jz_ready.specs.CopiedKinds.{callees_of, copied_kinds}
use Rattle.jz_ready.specs.ReadyLaws.{ReadyLaw, EntryLaw}
use Rattle.jz_ready.proofs.FixedBodies.{bodies_fixed}
use Rattle.jz_ready.proofs.CopyNumbers.{Numbered, numbered}
use Rattle.jz_ready.proofs.FitParts.{IsFit}
use Rattle.jz_ready.proofs.CopiedBodies.{copies_fit}
use Rattle.jz_ready.proofs.Unrolled.{unrolled_ready}

body_numbered : (p : Program) (f : Fun) → Numbered (f ∷ callees_of (body_of p f)) 1 (body_of p f)
body_numbered p f = subst (λ l. Numbered (f ∷ l) 1 (body_of p f)) (append-nil (callees_of (body_of p f))) (numbered (body_of p f) (f ∷ []) [] 1 refl)

body_fit : (p : Program) (f : Fun) → IsTypedText p → Contains p.funs f → IsFit (copied_kinds p f) (inlined_body p f)
body_fit p f h has =
    let typed = All-contains (IsTypedFunction p) p.funs f (bodies_law p h.typed h.text) has in
    copies_fit p h (f ∷ callees_of (body_of p f)) (body_of p f) f own_names 1 done has (λ n. refl) (body_numbered p f) typed.body (bodies_fixed p h f has) tt

pub ready_law : ReadyLaw
ready_law p f names e e1 u k h has x = unrolled_ready (copied_kinds p f) names x (body_fit p f h has) tt

-- a parameter is a variable of the function itself
param_declared : (p : Program) (f : Fun) (q : Param) → ParamDeclared (kinds_in p f) q → (ref_of q.var).copy ≡ 0 → ParamDeclared (copied_kinds p f) q
param_declared p f q h zero = ap (λ c. part_of (copied_kinds p f (ref_of q.var).name c) (ref_of q.var).cell) zero ∙ h

params_declared : (p : Program) (f : Fun) → IsTypedText p → Contains p.funs f → All (ParamDeclared (copied_kinds p f)) f.params
params_declared p f h has =
    let known = All-contains (whole.IsKnown p) p.funs f (all_known p h.typed h.text) has in
    let declared = All-contains (λ g. FunctionDeclared p.funs (kinds_in p g) g) p.funs f (declared_law p h) has in
    let plain = unmapped IsPlain (λ (q : Param). q.var) f.params (parted IsPlain (map (λ q. q.var) f.params) f.vars known.text.declared).0 in
    λ i q lt. (let r : Param = slice_index_or f.params i q in param_declared p f r (declared.params i q lt) (ref_copy r.var ∙ (plain i q lt).0))

pub entry_law : EntryLaw
entry_law p f words memory h input bytes = entries_keep (copied_kinds p f) p f words memory (params_declared p f h input.of_program) input bytes
