-- Intrinsics by their names.
use Rattle.std.proofs.Common.{◌≡◌, ℕ, List, [], ◌∷◌, ◌++◌, Option, Some, None, refl, sym, ◌∙◌, subst}
use Rattle.std.specs.Prelude.{All}
use Rattle.std.specs.Option.{option_to_list}
use Rattle.jz_words.specs.declared.size.Size.{Size}
use Rattle.jz_words.specs.declared.size.Size.TheVariants.{S8}
use Rattle.jz_tree.specs.Span.{Span}
use Rattle.jz_tree.specs.Spellings.{spelled}
use Rattle.jz_tree.specs.declared.intrinsic.Instance.{Instance}
use Rattle.jz_tree.specs.declared.intrinsic.Intrinsic.{Intrinsic}
use Rattle.jz_tree.specs.declared.intrinsic.Intrinsic.TheVariants as name
use Rattle.jz_tree.specs.declared.expr.Expr.{Expr}
use Rattle.jz_tree.specs.declared.stmt.Lval.{Lval}
use Rattle.jz_meaning.specs.Assignments.{left_span}
use Rattle.jz_meaning.specs.Intrinsics.{intrinsic_size}
use Rattle.jz_meaning.specs.Statements.{instruction}
use Rattle.jz_operations.specs.declared.operation.Arg.{Arg}
use Rattle.jz_operations.specs.declared.operation.Condition.{Condition}
use Rattle.jz_operations.specs.declared.operation.Action.{Action}
use Rattle.jz_operations.specs.declared.operation.Action.TheVariants as action
use Rattle.jz_operations.specs.declared.operation.Flags.{Flags}
use Rattle.jz_operations.specs.declared.operation.Operation.{Operation}
use Rattle.jz_operations.proofs.Somes.{same_some}
use Rattle.jz_encodable.specs.Encodable.{CanEncode}
use Rattle.jz_change.specs.declared.change.Numbers.{Numbers}
use Rattle.jz_homes.specs.Homes.{Homes}
use Rattle.jz_homes.specs.Operands.{Leaks, IsDest}
use Rattle.jz_row_operations.specs.Codes.{plain, lasting}
use Rattle.jz_flag_rows.specs.Results.{begins_at}
use Rattle.jz_flag_rows.specs.Conditions.{IsCondition}
use Rattle.jz_flag_rows.specs.Instructions.{HasInstruction}
use Rattle.jz_flag_rows.specs.Rows.{LowersFlags, instructions, sets}
use Rattle.jz_one_flag_row.specs.Forms.{Form, Lead, form_of, lead_of, AreLed, HasForm, IsFormed}
use Rattle.jz_one_flag_row.proofs.ByForm.{by_form, form_back}
use Rattle.jz_one_flag_row.proofs.OneForm.{one_lead, one_formed, no_byte}
use Rattle.jz_operands.specs.Refusals.{FindsOr}
use Rattle.jz_operands.proofs.SumLemmas.{for_found}
use Rattle.jz_pinned_rows.specs.declared.row.Acts.{Acts}
use Rattle.jz_pinned_rows.specs.declared.row.PinnedRow.{PinnedRow}
use Rattle.jz_pinned_rows.specs.Rows.{FindsActs, FindsRow, actions_of, items_of, operations_at}
use Rattle.jz_instructions.specs.Rows.{IsInstructionRow, NeverInstruction}
use Rattle.jz_instructions.specs.declared.forms.Form.{Form as CodeForm}
use Rattle.jz_instructions.specs.declared.forms.Form.TheVariants as form
use Rattle.jz_instructions.specs.InnerRows.{form_in, NeverLed, compare_at, IsByteRow, NeverByteRow, IsByteOf, NeverByteOf, IsSized, NeverSized}

-- ---- by its form
module _ (home : Homes) (z : Size) (to : List Lval) (es : List Expr) (f : CodeForm) where
  pub of_form : (g : CodeForm) (o : Option Acts) → f ≡ g → FindsActs (HasForm home z (form_in g) to es) o → FindsActs (HasForm home z (form_in f) to es) o
  of_form g o e h = subst (λ (k : CodeForm). FindsActs (HasForm home z (form_in k) to es) o) (sym e) h

  pub of_byte : f ≡ form.Byte → FindsActs (HasForm home z (form_in f) to es) None
  of_byte e = of_form form.Byte None e (λ acts items h can. h)

-- ---- of one left side and one operand
same_left : (d e : Lval) → d ∷ [] ≡ e ∷ [] → d ≡ e
same_left d e f = cc

same_operand : (a b : Expr) → a ∷ [] ≡ b ∷ [] → a ≡ b
same_operand a b f = cc

pub byte_of_finds : (home : Homes) (to : List Lval) (es : List Expr) (d : Lval) (e : Expr) (o : Option PinnedRow) → to ≡ d ∷ [] → es ≡ e ∷ [] → FindsOr o (IsByteRow home d e) (NeverByteRow home d e) → FindsOr o (IsByteOf home to es) (NeverByteOf home to es)
byte_of_finds home to es d e o f g h =
    for_found o (λ r row. record { left = d; operand = e; is_left = f; is_operand = g; row = row })
    (λ none u v f2 g2. subst (λ (l : Lval). NeverByteRow home l v) (same_left d u (sym f ∙ f2)) (subst (λ (a : Expr). NeverByteRow home d a) (same_operand e v (sym g ∙ g2)) none)) h

-- ---- with its flags
module _ (home : Homes) (z : Size) (i : Intrinsic) (to : List Lval) (es : List Expr) where
  abbrev Never : Type 0
  Never = (fl : Flags) (acts : List Action) (items : List Numbers) → IsFormed home z i to es fl acts items → All CanEncode acts → ⊥

  pub no_lead : (l : Lead) → l ≡ lead_of i → NeverLed (AreLed home l to) → Never
  no_lead l is none fl acts items h can = none fl h.rest (subst (λ k. AreLed home k to fl h.rest) (sym is) h.led)

  pub no_form : (l : Lead) (f : Form) (fl : Flags) (rest : List Lval) → l ≡ lead_of i → f ≡ form_of i → AreLed home l to fl rest → ((acts : List Action) (items : List Numbers) → HasForm home z f rest es acts items → All CanEncode acts → ⊥) → Never
  no_form l f fl rest is same led none fu acts items h can =
      let e = one_lead home l to fl fu rest h.rest led (subst (λ k. AreLed home k to fu h.rest) (sym is) h.led) in
      none acts items (subst (λ g. HasForm home z g rest es acts items) (sym same) (subst (λ r. HasForm home z (form_of i) r es acts items) (sym e.1) h.row)) can

  pub formed_is : (l : Lead) (f : Form) (fl : Flags) (rest : List Lval) (a : Acts) → l ≡ lead_of i → f ≡ form_of i → AreLed home l to fl rest → HasForm home z f rest es (actions_of a) (items_of a) → IsFormed home z i to es fl (actions_of a) (items_of a)
  formed_is l f fl rest a is same led row = record {
    rest = rest;
    led = subst (λ k. AreLed home k to fl rest) is led;
    row = subst (λ g. HasForm home z g rest es (actions_of a) (items_of a)) same row;
  }

-- a slice in place of a list
pub formed_as : (home : Homes) (z : Size) (i : Intrinsic) (ts to : List Lval) (us es : List Expr) (o : Option PinnedRow) → ts ≡ to → us ≡ es → FindsRow (IsFormed home z i ts us) o → FindsRow (IsFormed home z i to es) o
formed_as home z i ts to us es o e f h = subst (λ t. FindsRow (IsFormed home z i t es) o) e (subst (λ u. FindsRow (IsFormed home z i ts u) o) f h)

pub byte_as : (home : Homes) (ts to : List Lval) (us es : List Expr) (o : Option PinnedRow) → ts ≡ to → us ≡ es → FindsOr o (IsByteOf home ts us) (NeverByteOf home ts us) → FindsOr o (IsByteOf home to es) (NeverByteOf home to es)
byte_as home ts to us es o e f h = subst (λ t. FindsOr o (IsByteOf home t es) (NeverByteOf home t es)) e (subst (λ u. FindsOr o (IsByteOf home ts u) (NeverByteOf home ts u)) f h)

-- ---- whose actions can be encoded
module _ (home : Homes) (i : Instance) (to : List Lval) (es : List Expr) where
  no_some : (z : Size) → ◌≡◌ {A = Option Size} None (Some z) → ⊥
  no_some z e = absurd cc

  pub no_instruction_size : intrinsic_size i.name i.size to es ≡ None → NeverSized home i to es
  no_instruction_size none z fl acts items is h can = no_some z (sym none ∙ is)

  pub no_sized_row : (z : Size) → intrinsic_size i.name i.size to es ≡ Some z → ((fl : Flags) (acts : List Action) (items : List Numbers) → IsFormed home z i.name to es fl acts items → All CanEncode acts → ⊥) → NeverSized home i to es
  no_sized_row z is none y fl acts items own h can = none fl acts items (subst (λ s. IsFormed home s i.name to es fl acts items) (same_some y z (sym own ∙ is)) h) can

  pub no_sized_code : (z : Size) (r : PinnedRow) → intrinsic_size i.name i.size to es ≡ Some z → IsFormed home z i.name to es r.flags (actions_of r.acts) (items_of r.acts) → (All CanEncode (actions_of r.acts) → ⊥) → NeverSized home i to es
  no_sized_code z r is found none =
      no_sized_row z is (λ fl acts items h can. none (subst (All CanEncode) (one_formed home z i.name to es fl r.flags acts (actions_of r.acts) items (items_of r.acts) h found).actions can))

-- ---- by the name
module _ (home : Homes) (to : List Lval) (ns : List ℕ) (es : List Expr) where
  data Named (i : Instance) (at : Span) : List Operation → List Numbers → Type 0 where
    by_row :
        {z : Size} {fl : Flags} {acts : List Action} {items : List Numbers}
        → intrinsic_size i.name i.size to es ≡ Some z → HasInstruction home z i.name to es fl acts items → All CanEncode acts → Named i at (lasting (begins_at to at) fl acts) items
    by_byte :
        {d : Lval} {e : Expr} {b : Arg} {r : Leaks} {compare : Option Operation} {c : Condition} {ps : List (Leaks × Leaks)} {os : List Operation} {is : List Numbers}
        → to ≡ d ∷ [] → es ≡ e ∷ [] → i.name ≡ name.Setcc → IsDest home S8 d b r → IsCondition home (left_span d) e compare c ps → CanEncode (action.Set c b) → Named i at os is

named : (home : Homes) (ns : List ℕ) (to : List Lval) (es : List Expr) (i : Instance) (at : Span) (os : List Operation) (is : List Numbers) → spelled ns ≡ Some i → LowersFlags home (instruction to ns es at) os is → Named home to ns es i at os is
named home ns to es i at os is e (instructions {i = j} {z = z} {fl = fl} {acts = acts} {items = items} f size row can) =
    let s = same_some j i (sym f ∙ e) in
    subst (λ (k : Instance). Named home to ns es k at (lasting (begins_at to at) fl acts) items) s (by_row size row can)
named home ns to es i at os is e (sets {i = j} {d = d} {e = c} f byte dest cond can) =
    let s = same_some j i (sym f ∙ e) in
    subst (λ (k : Instance). Named home (d ∷ []) ns (c ∷ []) k at os is) s (by_byte {d = d} {e = c} refl refl byte dest cond can)

is_named : (home : Homes) (ns : List ℕ) (to : List Lval) (es : List Expr) (at : Span) (os : List Operation) (is : List Numbers) → LowersFlags home (instruction to ns es at) os is → (i : Instance) × (spelled ns ≡ Some i)
is_named home ns to es at os is (instructions {i = j} f size row can) = (j, f)
is_named home ns to es at os is (sets {i = j} f byte dest cond can) = (j, f)

module _ (home : Homes) (to : List Lval) (ns : List ℕ) (es : List Expr) where
  no_name : (i : Instance) → ◌≡◌ {A = Option Instance} None (Some i) → ⊥
  no_name i e = absurd cc

  pub unspelled : spelled ns ≡ None → NeverInstruction home to ns es
  unspelled none at os is h = let r = is_named home ns to es at os is h in no_name r.0 (sym none ∙ r.1)

  module _ (i : Instance) (spells : spelled ns ≡ Some i) where
    no_byte_named : (at : Span) (os : List Operation) (is : List Numbers) → i.name ≡ name.Setcc → NeverByteOf home to es → Named home to ns es i at os is → ⊥
    no_byte_named at os is byte none (by_row {z} {fl} {acts} {items} size row can) = no_byte home z i.name to es fl acts items byte row
    no_byte_named at os is byte none (by_byte {d} {e} {b} {r} {compare} {c} {ps} left operand same dest cond can) = none d e left operand (left_span d) b r compare c ps dest cond can

    no_row_named : (at : Span) (os : List Operation) (is : List Numbers) → (i.name ≡ name.Setcc → ⊥) → NeverSized home i to es → Named home to ns es i at os is → ⊥
    no_row_named at os is other none (by_row {z} {fl} {acts} {items} size row can) = none z fl acts items size (by_form home z i.name to es fl acts items row) can
    no_row_named at os is other none (by_byte {d} {e} {b} {r} {compare} {c} {ps} left operand same dest cond can) = other same

    byte_lowers : (at : Span) (d : Lval) (e : Expr) (r : PinnedRow) → i.name ≡ name.Setcc → IsByteRow home d e r → LowersFlags home (instruction (d ∷ []) ns (e ∷ []) at) (operations_at (left_span d) r) (items_of r.acts)
    byte_lowers at d e r byte h =
        subst (λ os. LowersFlags home (instruction (d ∷ []) ns (e ∷ []) at) os (items_of r.acts)) (sym (h.operations (left_span d)))
        (subst (λ is. LowersFlags home (instruction (d ∷ []) ns (e ∷ []) at) (option_to_list (compare_at (left_span d) h.before) ++ (plain (left_span d) (action.Set h.condition h.to) ∷ [])) is) (sym h.shown)
        (sets spells byte h.dest (h.is (left_span d)) h.can))

    byte_at : (at : Span) (r : PinnedRow) → i.name ≡ name.Setcc → IsByteOf home to es r → LowersFlags home (instruction to ns es at) (operations_at (begins_at to at) r) (items_of r.acts)
    byte_at at r byte h =
        subst (λ t. LowersFlags home (instruction t ns es at) (operations_at (begins_at t at) r) (items_of r.acts)) (sym h.is_left)
        (subst (λ u. LowersFlags home (instruction (h.left ∷ []) ns u at) (operations_at (left_span h.left) r) (items_of r.acts)) (sym h.is_operand) (byte_lowers at h.left h.operand r byte h.row))

    pub byte_finds : (o : Option PinnedRow) → i.name ≡ name.Setcc → FindsOr o (IsByteOf home to es) (NeverByteOf home to es) → FindsOr o (IsInstructionRow home to ns es) (NeverInstruction home to ns es)
    byte_finds o byte h = for_found o (λ r row at. byte_at at r byte row) (λ none at os is f. no_byte_named at os is byte none (named home ns to es i at os is spells f)) h

    row_at : (at : Span) (r : PinnedRow) → IsSized home i to es r → LowersFlags home (instruction to ns es at) (operations_at (begins_at to at) r) (items_of r.acts)
    row_at at r h =
        let f = h.row in
        instructions spells h.is_size (form_back home h.size i.name to f.rest es r.flags (actions_of r.acts) (items_of r.acts) f.led f.row) h.can

    pub sized_finds : (o : Option PinnedRow) → (i.name ≡ name.Setcc → ⊥) → FindsOr o (IsSized home i to es) (NeverSized home i to es) → FindsOr o (IsInstructionRow home to ns es) (NeverInstruction home to ns es)
    sized_finds o other h = for_found o (λ r row at. row_at at r row) (λ none at os is f. no_row_named at os is other none (named home ns to es i at os is spells f)) h
