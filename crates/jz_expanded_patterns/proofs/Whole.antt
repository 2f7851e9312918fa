-- Rows through the three passes of an expansion.
use Rattle.std.proofs.Common.{◌≡◌, ℕ, [], ◌∷◌, Some, None, Bool, true, false, refl, sym, ap, ◌∙◌, subst}
use Rattle.std.specs.Prelude.{◌≤◌, Contains}
use Rattle.std.proofs.lemmas.Bool.{true≢false}
use Rattle.jz_tree.specs.Size.{Size}
use Rattle.jz_tree.specs.declared.expr.Var.{Var}
use Rattle.jz_tree.specs.declared.program.Fun.{Fun}
use Rattle.jz_tree.specs.declared.program.Program.{Program}
use Rattle.jz_type_names.specs.declared.kinds.Kind as scoped
use Rattle.jz_type_names.specs.declared.kinds.Kind.TheVariants as scope
use Rattle.jz_type_names.specs.Kinds.{Known, kind_of, is_array_kind}
use Rattle.jz_type_names.specs.Scopes.{variables_of}
use Rattle.jz_types.specs.TypedPrograms.{IsTypedProgram}
use Rattle.jz_texts.specs.Texts.{IsText}
use Rattle.jz_select.specs.Trees.{Named}
use Rattle.jz_runs.specs.Trees.{done, op, quiet, choose, loop, each, call}
use Rattle.jz_meaning.specs.declared.access.Kind.{Kind}
use Rattle.jz_meaning.specs.declared.access.Kind.TheVariants as kind
use Rattle.jz_meaning.specs.States.{Key}
use Rattle.jz_meaning.specs.Values.{ref_of}
use Rattle.jz_meaning.specs.Statements.{Operation, assign, instruction, unset, meaningless, Block}
use Rattle.jz_run_laws.specs.Kinds.{kind_at}
use Rattle.jz_bodies.specs.Calls.{is_array}
use Rattle.jz_bodies.proofs.Refs.{array_declared, plain_declared}
use Rattle.jz_change.specs.Changes.{Change}
use Rattle.jz_inline.specs.Functions.{inlined_body}
use Rattle.jz_inline.proofs.Made.{inlined_is}
use Rattle.jz_inlining.specs.Inlined.{inlined_function}
use Rattle.jz_unroll.specs.Values.{InlineNames}
use Rattle.jz_unrolling_values.specs.InlineNames.{inline_names}
use Rattle.jz_scalars.specs.Functions.{function_with_scalars, scalar_change}
use Rattle.jz_function_runs.specs.FunctionRuns.{plain_body}
use Rattle.jz_ready.specs.CopiedKinds.{copied_kinds}
use Rattle.jz_expansion.specs.Expansions.{IsExpansion}
use Rattle.jz_expanded_types.proofs.Expanded.{rewritten}
use Rattle.jz_total_flags.specs.Bodies.{HasPattern, HavePatterns}
use Rattle.jz_copied_variables.specs.Variables.{frame_of, known_at, IsSeen, OverBody}
use Rattle.jz_copied_variables.proofs.Copied.{copies_have_variables}
use Rattle.jz_copied_variables.proofs.Seen.{kind_is, same_kind}
use Rattle.jz_plain_expansions.proofs.Passes.{ClearBody, rounds_are_clear}
use Rattle.jz_kept_patterns.specs.KeptPatterns.{AreTold, AreKinds}
use Rattle.jz_kept_patterns.proofs.Selecting.{always_matched, always_pair, always_instruction}
use Rattle.jz_expanded_patterns.specs.ExpandedPatterns.{ExpansionsHavePatterns}
use Rattle.jz_expanded_patterns.proofs.Bodies.{IfRows, HasRow, HaveRows}
use Rattle.jz_expanded_patterns.proofs.Names.{key_by, key_is, cell_of, Knows}
use Rattle.jz_expanded_patterns.proofs.Copies.{body_rows}
use Rattle.jz_expanded_patterns.proofs.Rounds.{rounds_have_rows}
use Rattle.jz_expanded_patterns.proofs.Words.{words_have_rows}

-- ---- from matches to rows
has_pattern : (o : Operation) → HasRow o → HasPattern o
has_pattern (assign [] o e c at) h = tt
has_pattern (assign (d ∷ []) o e c at) h = always_matched d o e c h
has_pattern (assign (f ∷ d ∷ []) o e None at) h = always_pair f d o e h
has_pattern (assign (f ∷ d ∷ []) o e (Some c) at) h = tt
has_pattern (assign (f ∷ d ∷ b ∷ ds) o e c at) h = tt
has_pattern (instruction to n args at) h = always_instruction to n args at h
has_pattern (unset vs) h = tt
has_pattern (meaningless at) h = tt

have_patterns : (b : Block) → HaveRows b → HavePatterns b
have_patterns done h = tt
have_patterns (op o r) h = (has_pattern o h.0, have_patterns r h.1)
have_patterns (quiet o r) h = have_patterns r h
have_patterns (choose c a b r) h = (have_patterns a h.0, have_patterns b h.1, have_patterns r h.2)
have_patterns (loop w q c b r) h = (have_patterns q h.0, have_patterns b h.1, have_patterns r h.2)
have_patterns (each i b r) h = (have_patterns b h.0, have_patterns r h.1)
have_patterns (call c b r) h = (have_patterns b h.0, have_patterns r h.1)

-- ---- variables of the copies of a function
module _ (p : Program) (f : Fun) where
  abbrev S : Var → Type 0
  S v = IsSeen (copied_kinds p f) (frame_of p f) (known_at p f) v

  no_array : (v : Var) (h : S v) → is_array_kind (kind_of h.decl.ty) ≡ false → is_array (ref_of v).kind ≡ true → ⊥
  no_array v h n a = true≢false (sym a ∙ (ap is_array (kind_is (copied_kinds p f) (frame_of p f) v h) ∙ plain_declared h.decl n))

  counted_by : (v : Var) (h : S v) (k : scoped.Kind) → kind_of h.decl.ty ≡ k → is_array (ref_of v).kind ≡ true → (z : Size) × (n : ℕ) × ((ref_of v).kind ≡ kind.Array z n) × (1 ≤ n)
  counted_by v h (scope.Array z) q a =
      let c = array_declared h.decl z h.counted q in
      (z, c.0, kind_is (copied_kinds p f) (frame_of p f) v h ∙ c.1, c.3)
  counted_by v h scope.Int q a = absurd (no_array v h (ap is_array_kind q) a)
  counted_by v h scope.Truth q a = absurd (no_array v h (ap is_array_kind q) a)
  counted_by v h (scope.Word z) q a = absurd (no_array v h (ap is_array_kind q) a)

  facts : Knows S
  facts = record {
    entire = λ v h. h.entire;
    alike = λ v w h k e. same_kind (copied_kinds p f) (frame_of p f) v w h k e;
    counted = λ v h a. counted_by v h (kind_of h.decl.ty) refl a;
  }

  abbrev known : Named → Known
  known n = known_at p f (key_by n)

  abbrev kinds : Named → Kind
  kinds n = kind_at (copied_kinds p f) (key_by n)

  told : AreTold S known
  told = record { entire = λ v h. sym (cell_of v) ∙ h.entire; stored = λ v h. ap (known_at p f) (sym (key_is v)) ∙ h.stored }

  are_kinds : AreKinds S kinds
  are_kinds v h = ap (kind_at (copied_kinds p f)) (sym (key_is v)) ∙ h.declared

-- ---- the whole
module _ (p : Program) (f g : Fun) (k : Change) (count : ℕ) (typed : IsTypedProgram p) (text : IsText p) (has : Contains p.funs f) (x : IsExpansion p f g k count) where
  abbrev F : Key → Bool
  F = frame_of p f

  abbrev names : InlineNames
  names = inline_names (variables_of (inlined_function p f))

  copied : OverBody (S p f) F (inlined_body p f)
  copied = copies_have_variables p f typed text has

  over : OverBody (S p f) F (plain_body (inlined_function p f))
  over = subst (OverBody (S p f) F) (inlined_is p f) copied

  rowed : IfRows (plain_body (inlined_function p f))
  rowed = subst IfRows (inlined_is p f) (body_rows p typed text (S p f) (facts p f) F f has copied)

  unrolled : HaveRows (plain_body x.unrolled)
  unrolled = rounds_have_rows names (S p f) F (known p f) (told p f) x.body.body over rowed

  cleared : ClearBody (S p f) F (plain_body x.unrolled)
  cleared = rounds_are_clear (S p f) F names x.body.body over

  scaled : HaveRows (plain_body (function_with_scalars x.unrolled))
  scaled =
      words_have_rows (S p f) (known p f) (kinds p f) (told p f) (are_kinds p f) F (copied_kinds p f) (plain_body x.unrolled) (plain_body (function_with_scalars x.unrolled)) (scalar_change x.unrolled)
      (rewritten p f g k count typed text has x) cleared unrolled

  whole : HavePatterns (plain_body g)
  whole = have_patterns (plain_body g) (subst (λ h. HaveRows (plain_body h)) (sym x.function) scaled)

pub expansions_have_patterns : ExpansionsHavePatterns
expansions_have_patterns p f g k count typed text has x = whole p f g k count typed text has x
