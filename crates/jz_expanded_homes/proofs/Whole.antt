-- The expansion of an export function of a typed text.
use Rattle.std.proofs.Common.{◌≡◌, ℕ, true, false, Some, sym, ap, ◌∙◌, subst}
use Rattle.std.specs.Prelude.{All, Contains}
use Rattle.std.proofs.lemmas.Bool.{false≢true}
use Rattle.std.proofs.lemmas.List.Elements.{All-contains}
use Rattle.jz_words.specs.declared.size.Size.{Size}
use Rattle.jz_tree.specs.declared.expr.Var.{Var}
use Rattle.jz_tree.specs.declared.program.Fun.{Fun}
use Rattle.jz_tree.specs.declared.program.Program.{Program}
use Rattle.jz_type_names.specs.Kinds.{known_of, is_register_word}
use Rattle.jz_type_names.specs.Scopes.{variables_of}
use Rattle.jz_type_rows.specs.Exports.{is_exported}
use Rattle.jz_types.specs.TypedPrograms.{IsTypedProgram}
use Rattle.jz_texts.specs.Texts.{IsText, IsTextFun, IsPlain}
use Rattle.jz_texts.proofs.Declaring.{declarations_law}
use Rattle.jz_meaning.specs.Values.{key_of, ref_of}
use Rattle.jz_change.specs.Changes.{Change}
use Rattle.jz_inlining.specs.Inlined.{inlined_function}
use Rattle.jz_unrolling_values.specs.InlineNames.{inline_names}
use Rattle.jz_scalars.specs.Functions.{function_with_scalars}
use Rattle.jz_function_runs.specs.FunctionRuns.{plain_body}
use Rattle.jz_ready.specs.CopiedKinds.{copied_kinds}
use Rattle.jz_expansion.specs.Expansions.{IsExpansion}
use Rattle.jz_homes.specs.Homes.{Homes, in_register}
use Rattle.jz_declared.specs.Declared.{Differ, AreDeclared, held_of, kept_of}
use Rattle.jz_declared.proofs.Places.{of_declarations}
use Rattle.jz_distinct.proofs.Framed.{typed_differ}
use Rattle.jz_lowering.specs.Functions.{homes_for}
use Rattle.jz_copied_variables.specs.Variables.{frame_of, known_at, IsSeen}
use Rattle.jz_plain_operands.specs.Plain.{IsPlain as IsPlainVar}
use Rattle.jz_plain_expansions.specs.PlainExpansions.{expanded_kinds, IsPlainBody, IsWithinBody}
use Rattle.jz_plain_expansions.proofs.Whole.{rounds, rewritten, expansions_are_plain}
use Rattle.jz_expanded_limits.proofs.Whole.{expansions_are_within}
use Rattle.jz_safe_expansions.proofs.Within.{within_so}
use Rattle.jz_total_rows.specs.Expanded.{HasHome, a_word, a_flag, a_scalar, an_array}
use Rattle.jz_ready_expansions.specs.ExpandedBodies.{IsExpandedBody}
use Rattle.jz_ready_expansions.proofs.Whole.{expansions_are_ready}
use Rattle.jz_expanded_homes.specs.ExpandedHomes.{ExpansionsHaveHomes, ExpansionsAreReady}
use Rattle.jz_expanded_homes.proofs.Declared.{differ_left}
use Rattle.jz_expanded_homes.proofs.Homed.{whole_homed, cell_homed}
use Rattle.jz_expanded_homes.proofs.Standing.{rounds_are_standing}
use Rattle.jz_expanded_homes.proofs.Bodies.{body_expanded}

-- a word in a register has a variable
abbrev pub HasRegister : Homes → Var → Type 0
HasRegister home v = (n : ℕ) × (z : Size) × (home (key_of (ref_of v)) ≡ Some (in_register n z))

register_home : (home : Homes) (v : Var) → HasHome home v → is_register_word (known_of v) ≡ true → HasRegister home v
register_home home v (a_word z n d k h) w = (n, z, h)
register_home home v (a_flag n d k h) w = absurd (false≢true (sym (ap is_register_word d) ∙ w))
register_home home v (a_scalar z n d k h) w = absurd (false≢true (sym (ap is_register_word d) ∙ w))
register_home home v (an_array z n m d h) w = absurd (false≢true (sym (ap is_register_word d) ∙ w))

module _ (p : Program) (f g : Fun) (k : Change) (count : ℕ) (typed : IsTypedProgram p) (text : IsText p) (has : Contains p.funs f) (exported : is_exported f.kind ≡ true) (x : IsExpansion p f g k count) where
  abbrev expansion : Fun
  expansion = function_with_scalars x.unrolled

  abbrev P : Var → Type 0
  P v = IsSeen (copied_kinds p f) (frame_of p f) (known_at p f) v

  within : IsWithinBody (plain_body g)
  within = within_so (plain_body g) (expansions_are_within p f g k count typed text has exported x)

  plain_text : All IsPlain (variables_of f)
  plain_text = (All-contains IsTextFun p.funs f text has).declared

  differ : Differ (variables_of (inlined_function p f))
  differ = typed_differ p f (declarations_law p typed text) text has

  declared : AreDeclared (held_of expansion) (kept_of expansion) (homes_for expansion)
  declared = (of_declarations expansion (differ_left p f x.unrolled x.head differ)).homes

  plain : IsPlainBody (expanded_kinds p f) (frame_of p f) (plain_body expansion)
  plain = subst (λ h. IsPlainBody (expanded_kinds p f) (frame_of p f) (plain_body h)) x.function (expansions_are_plain p f g k count typed text has x within)

  homed : IsExpandedBody (homes_for expansion) (plain_body expansion)
  homed =
      body_expanded (expanded_kinds p f) (frame_of p f) (homes_for expansion) P
      (whole_homed p f x.unrolled plain_text x.head differ (homes_for expansion) declared (expanded_kinds p f))
      (cell_homed p f x.unrolled plain_text x.head differ (homes_for expansion) declared)
      (copied_kinds p f) (rewritten p f g k count typed text has x within) (rounds p f g k count typed text has x within) (rounds_are_standing (inline_names (variables_of (inlined_function p f))) x.body.body) (λ n. tt) plain

  pub word_homed : (v : Var) → IsSeen (copied_kinds p f) (frame_of p f) (known_at p f) v → IsPlainVar (expanded_kinds p f) (frame_of p f) v → is_register_word (known_of v) ≡ true → HasRegister (homes_for g) v
  word_homed v seen plain_var word =
      subst (λ h. HasRegister (homes_for h) v) (sym x.function)
      (register_home (homes_for expansion) v (whole_homed p f x.unrolled plain_text x.head differ (homes_for expansion) declared (expanded_kinds p f) v seen plain_var) word)

pub have_homes : ExpansionsHaveHomes
have_homes p f g k count typed text has exported x =
    subst (λ h. IsExpandedBody (homes_for h) (plain_body h)) (sym x.function) (homed p f g k count typed text has exported x)

pub are_ready : ExpansionsAreReady
are_ready p f g k count typed text has exported x = expansions_are_ready p f g k count (homes_for g) typed text has exported x (have_homes p f g k count typed text has exported x)
