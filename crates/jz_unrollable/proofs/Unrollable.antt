-- A function whose calls are copies of what they call is unrollable.
use Rattle.std.proofs.Common.{◌≡◌, ℕ, List, [], ◌∷◌, true, false, refl, ap, ◌∙◌, subst}
use Rattle.std.specs.Prelude.{◌&&◌, not, All}
use Rattle.std.specs.List.{list_all}
use Rattle.std.proofs.lemmas.List.Elements.{All-head, All-tail, All-contains}
use Rattle.jz_tree.specs.declared.expr.Var.{Var}
use Rattle.jz_type_names.specs.Scopes.{variables_of}
use Rattle.jz_texts.specs.Texts.{IsPlain, IsTextFun}
use Rattle.jz_texts.proofs.Declaring.{declarations_law}
use Rattle.jz_meaning.specs.Statements.{Block}
use Rattle.jz_meaning.specs.Values.{ref_of}
use Rattle.jz_meaning.specs.Runs.{body_of}
use Rattle.jz_ready.proofs.Refs.{ref_copy}
use Rattle.jz_limits.specs.Values.{no_numbers}
use Rattle.jz_inlining.proofs.Made.{inlined_is}
use Rattle.jz_inlining.specs.Inlined.{inlined_function}
use Rattle.jz_unroll.specs.Values.{InlineNames, is_inline_var}
use Rattle.jz_unrolling_values.specs.InlineNames.{inline_names}
use Rattle.jz_copied_values.specs.Fits.{Fits}
use Rattle.jz_copied_values.specs.CalledBodies.{Inlines, inlines_of}
use Rattle.jz_copied_values.proofs.CopiedWhole.{whole_fits}
use Rattle.jz_unrollable.specs.UnrollableLaws.{CopiesUnrollable}
use Rattle.jz_unrollable.proofs.FrameNames.{frame_names}

abbrev IsApart : Inlines → Var → Type 0
IsApart i v = i (ref_of v).name ≡ false

gives_plain : (names : InlineNames) (i : Inlines) → ((n : List ℕ) → names n 0 ≡ i n) → (vs : List Var) → All IsPlain vs → All (IsApart i) vs → list_all (λ v. not (is_inline_var names v)) vs ≡ true
gives_plain names i own [] t h = refl
gives_plain names i own (v ∷ vs) t h =
    ap (λ b. not b && list_all (λ w. not (is_inline_var names w)) vs)
    (ap (names (ref_of v).name) (ref_copy v ∙ (All-head IsPlain v vs t).0) ∙ own (ref_of v).name ∙ All-head (IsApart i) v vs h)
    ∙ gives_plain names i own vs (All-tail IsPlain v vs t) (All-tail (IsApart i) v vs h)

pub unrollable : CopiesUnrollable
unrollable p f typed text has named fits plain =
    let names : InlineNames = inline_names (variables_of (inlined_function p f)) in
    let own = frame_names p f (declarations_law p typed text) text has in
    let made = whole_fits names (inlines_of f) (body_of p f) own.0 own.1 named fits in
    record {
      behind = made.0;
      fits = subst (λ (t : Block). Fits names t no_numbers made.0) (inlined_is p f) made.1;
      plain = gives_plain names (inlines_of f) own.0 f.result (All-contains IsTextFun p.funs f text has).used.1 plain;
    }
