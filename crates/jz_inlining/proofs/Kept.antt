-- What becomes of a whole function keeps its runs.
use Rattle.std.proofs.Common.{◌≡◌, ℕ, Some, true, refl, sym, ap, ◌∙◌, subst}
use Rattle.std.specs.Prelude.{slice_get, None, false, ◌↔◌, IsTrue}
use Rattle.std.proofs.lemmas.Option.{slice_get_within, get_or_from_slice_get}
use Rattle.jz_tree.specs.declared.program.Fun.{Fun}
use Rattle.jz_tree.specs.declared.program.Program.{Program}
use Rattle.jz_runs.specs.RunLeaks.{Leak}
use Rattle.jz_runs.specs.Trees.{done}
use Rattle.jz_runs.specs.Rules.{Outcome, Stuck}
use Rattle.jz_meaning.specs.Statements.{Block}
use Rattle.jz_meaning.specs.Runs.{block}
use Rattle.jz_type_rows.specs.Exports.{is_exported}
use Rattle.jz_change.specs.Changes.{Change}
use Rattle.jz_pass.specs.Laws.{Runs, Relating, Follows, has_ended, was_cut, was_stuck, Carries}
use Rattle.jz_inline.specs.Typed.{IsTypedFunction}
use Rattle.jz_inline.specs.Declared.{scopes_in}
use Rattle.jz_inline.proofs.Whole.{bodies_law}
use Rattle.jz_inline.specs.Functions.{runs_of, body_runs, alike, inlining_of}
use Rattle.jz_inline.specs.Statements.{no_callees, inlined_statements}
use Rattle.jz_inline.proofs.Functions.{carries}
use Rattle.jz_inline.proofs.Made.{inlined_is}
use Rattle.jz_inlining.specs.declared.inlining.Inlined.{Inlined}
use Rattle.jz_inlining.specs.Inlined.{inlined_function, IsExport, IsInlining, IsInlined, plain_runs, KeepsRuns}

-- ---- runs that are the same

module _ {I J V V2 W W2 : Type 0} (R : Relating I J V V2 W W2) (k : Change) where
  follows_to : (P Q : Outcome V2 W2 Leak → Type 0) → ((o : Outcome V2 W2 Leak) → P o → Q o) → (o : Outcome V W Leak) → Follows R k P o → Follows R k Q o
  follows_to P Q f _ (has_ended v2 e fit run) = has_ended v2 e fit (f _ run)
  follows_to P Q f _ (was_cut fit run) = was_cut fit (f _ run)
  follows_to P Q f _ (was_stuck h) = was_stuck (λ x. ((h x).0, (h x).1, f _ (h x).2))

  pub carries_to : (From : Runs I V W) (To To2 : Runs J V2 W2) → ((j : J) (n : ℕ) (o : Outcome V2 W2 Leak) → To j n o → To2 j n o) → ((j : J) (n : ℕ) (o : Outcome V2 W2 Leak) → To2 j n o → To j n o)
      → Carries R From To k → Carries R From To2 k
  carries_to From To To2 f g c = record {
    forth = λ i j n o st run. follows_to (To j n) (To2 j n) (f j n) o (c.forth i j n o st run);
    back = λ i j n w2 st run. c.back i j n w2 st (g j n (Stuck w2) run);
  }

-- ---- the function without calls

module _ (p : Program) (f : Fun) where
  pub carries_inlined : IsTypedFunction p f → is_exported f.kind ≡ true → Carries (alike p f) (runs_of p f) (plain_runs (inlined_function p f)) (inlining_of p f)
  carries_inlined typed exported =
      let b : Block = block no_callees (inlined_statements p f) done in
      let c = carries (scopes_in p) p f typed.scope typed.zero typed.body (typed.returned exported) typed.entered in
      carries_to (alike p f) (inlining_of p f) (runs_of p f) (body_runs b f) (plain_runs (inlined_function p f))
      (λ given n o r. record { out = r.out; goes = r.goes; gives = r.gives })
      (λ given n o r. record { out = r.out; goes = r.goes; gives = r.gives })
      (subst (λ x. Carries (alike p f) (runs_of p f) (body_runs x f) (inlining_of p f)) (inlined_is p f) c)

same_at : (p : Program) (place : ℕ) (f g : Fun) → slice_get p.funs place ≡ Some f → slice_get p.funs place ≡ Some g → f ≡ g
same_at p place f g a b = let e : Some f ≡ Some g = sym a ∙ b in cc

pub keeps : (p : Program) (place : ℕ) (r : Inlined) → IsInlined p place r → KeepsRuns p place r
keeps p place r h f there exported typed text =
    let m : IsInlining p f r = subst (λ g. IsInlining p g r) (same_at p place h.source f h.there there) h.made in
    let one : IsTypedFunction p f = subst (IsTypedFunction p) (get_or_from_slice_get p.funs place f f there) (bodies_law p typed text place f (slice_get_within p.funs place f there)) in
    subst (λ k. Carries (alike p f) (runs_of p f) (plain_runs r.fun) k) (sym m.changed)
    (subst (λ g. Carries (alike p f) (runs_of p f) (plain_runs g) (inlining_of p f)) (sym m.function) (carries_inlined p f one exported))

-- ---- export functions

pub no_export : (p : Program) (place : ℕ) → slice_get p.funs place ≡ None → IsTrue false ↔ IsExport p place
no_export p place none = ((λ t. (let lie : false ≡ true = t in absurd cc)), (λ (e : IsExport p place). let clash : None ≡ Some e.function = sym none ∙ e.there in absurd cc))

pub inline_no_export : (p : Program) (place : ℕ) (f : Fun) → slice_get p.funs place ≡ Some f → is_exported f.kind ≡ false → IsTrue false ↔ IsExport p place
inline_no_export p place f there other = ((λ t. (let lie : false ≡ true = t in absurd cc)), (λ (e : IsExport p place). let clash : false ≡ true = sym other ∙ ap (λ (g : Fun). is_exported g.kind) (same_at p place f e.function there e.there) ∙ e.exported in absurd cc))

pub one_export : (p : Program) (place : ℕ) (f : Fun) → slice_get p.funs place ≡ Some f → is_exported f.kind ≡ true → IsTrue true ↔ IsExport p place
one_export p place f there is = ((λ t. record { function = f; there = there; exported = is }), (λ e. refl))
