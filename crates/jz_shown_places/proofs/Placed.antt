-- The cells of an expanded function stand in the places of its text's stack variables.
use Rattle.std.proofs.Common.{◌≡◌, ◌⊎◌, inl, inr, if◌then◌else◌, ℕ, zero, suc, ◌+◌, ◌*◌, ◌-◌, ◌/◌, ◌==◌, ◌<◌, ◌≤◌, ◌^◌, Bool, true, false, List, [], ◌∷◌, ◌++◌, map, length, All, Contains, Option, Some, None, refl, sym, ap, ap₂, ◌∙◌, subst, arith}
use Rattle.std.specs.Prelude.{not, slice_get, slice_index}
use Rattle.std.specs.List.{flat_map, filter, list_any}
use Rattle.std.proofs.lemmas.List.{map-append}
use Rattle.std.proofs.lemmas.List.Concat.{flat_map-append}
use Rattle.std.proofs.lemmas.List.Elements.{All-nil, All-cons, All-head, All-tail, All-weaker}
use Rattle.jz_words.specs.declared.size.Size.{Size}
use Rattle.jz_words.specs.declared.size.Size.TheVariants.{S8, S16, S32, S64}
use Rattle.jz_words.specs.Sizes.{bytes_of}
use Rattle.x64_insn.specs.declared.types.Insn.{Insn}
use Rattle.x64_insn.specs.declared.types.Reg.{Reg}
use Rattle.jz_tree.specs.declared.expr.Decl.{Decl}
use Rattle.jz_tree.specs.declared.expr.Storage.{Storage}
use Rattle.jz_tree.specs.declared.expr.Storage.TheVariants as storage
use Rattle.jz_tree.specs.declared.expr.Var.{Var}
use Rattle.jz_tree.specs.declared.expr.Expr.TheViews.{out-Var}
use Rattle.jz_tree.specs.declared.program.Fun.{Fun}
use Rattle.jz_tree.specs.declared.program.Param.{Param}
use Rattle.jz_tree.specs.declared.program.Program.{Program}
use Rattle.jz_type_names.specs.Scopes.{variables_of}
use Rattle.jz_meaning.specs.declared.access.Kind.{Kind}
use Rattle.jz_meaning.specs.declared.access.Kind.TheVariants as kind
use Rattle.jz_meaning.specs.States.{Key}
use Rattle.jz_meaning.specs.Values.{Ref, ref_of}
use Rattle.jz_operations.specs.declared.operation.Stacked.{Stacked}
use Rattle.jz_operations.proofs.Somes.{same_some}
use Rattle.jz_frames.specs.Frames.{frame_of}
use Rattle.jz_inlining.specs.Inlined.{inlined_function}
use Rattle.jz_unroll.specs.Values.{is_inline_var}
use Rattle.jz_unrolling_values.specs.InlineNames.{inline_names}
use Rattle.jz_unrolling.specs.Unrolled.{KeepsHead}
use Rattle.jz_scalars.specs.Functions.{function_with_scalars}
use Rattle.jz_homes.specs.Homes.{Homes, in_cell}
use Rattle.jz_declared.specs.Declared as declared
use Rattle.jz_declared.specs.Declared.{Differ, What, a_word, a_flag, home_at, Kept, a_scalar, an_array, key_in, kept_as, kept_by, kept_for, kept_of, IsHeld, IsKept, AreDeclared, held_of, stack_of}
use Rattle.jz_correct.specs.Frames.{rounded_up, preserved_registers, names, saved_of, frame_end, frame_size}
use Rattle.jz_stack.specs.Laying.{offsets_from}
use Rattle.jz_code.specs.Made.{slots_by}
use Rattle.jz_compiled.specs.Layout as layout
use Rattle.jz_compiled.specs.Layout.{StackVariable, Place, stacked_by, stacked_if, stacked_of, stack_variables_of, places_from}
use Rattle.jz_from_text.specs.SignatureLaws.{stacked_as, IsUnstacked}
use Rattle.jz_from_text.proofs.Members.{all_left}
use Rattle.jz_from_text.proofs.StackLemmas.{left_out, not_true, in_second}
use Rattle.jz_lowering_cases.specs.Staying.{IsPlaced, ArePlaced, IsSmall}

-- ---- the stack variables by their declarations
abbrev pub named_as : Kept → StackVariable
named_as (a_scalar x z) = record { name = (x.name, x.copy); cell = z; count = 1 }
named_as (an_array x z n) = record { name = (x.name, x.copy); cell = z; count = n }

by_kind : (k : Kind) (x : Ref) → map named_as (kept_as storage.Stack k x) ≡ layout.cells_of k (x.name, x.copy)
by_kind (kind.Word z) x = refl
by_kind (kind.Array z n) x = refl
by_kind kind.Bool x = refl
by_kind kind.Int x = refl
by_kind kind.Undeclared x = refl

by_storage : (s : Storage) (x : Ref) → map named_as (kept_as s x.kind x) ≡ stacked_by s x
by_storage storage.Stack x = by_kind x.kind x
by_storage storage.Reg x = refl
by_storage storage.Inline x = refl

by_declaration : (d : Option Decl) (x : Ref) → map named_as (kept_by d x) ≡ stacked_if d x
by_declaration None x = refl
by_declaration (Some d) x = by_storage d.storage x

all_named : (vs : List Var) → map named_as (flat_map kept_for vs) ≡ flat_map stacked_of vs
all_named [] = refl
all_named (v ∷ vs) = map-append named_as (kept_for v) (flat_map kept_for vs) ∙ ap₂ (λ a b. a ++ b) (by_declaration (out-Var v).decl (ref_of v)) (all_named vs)

no_params : (ps : List Param) → All IsUnstacked ps → flat_map kept_for (map (λ q. q.var) ps) ≡ []
no_params [] h = refl
no_params (q ∷ ps) h = ap₂ (λ a b. a ++ b) (All-head IsUnstacked q ps h) (no_params ps (All-tail IsUnstacked q ps h))

module _ (p : Program) (f u : Fun) (head : KeepsHead (inlined_function p f) u) (differ : Differ (variables_of (inlined_function p f))) (params : All IsUnstacked f.params) where
  left : flat_map kept_for u.vars ≡ flat_map kept_for (frame_of p f)
  left =
      ap (λ l. flat_map kept_for l) head.vars
      ∙ all_left kept_for (λ v. not (is_inline_var (inline_names (variables_of (inlined_function p f))) v)) (frame_of p f)
      (λ v i t. left_out (variables_of (inlined_function p f)) differ v (in_second (map (λ q. q.var) f.params) (frame_of p f) v i) (not_true (is_inline_var (inline_names (variables_of (inlined_function p f))) v) t))

  kept_is : kept_of (function_with_scalars u) ≡ flat_map kept_for (frame_of p f)
  kept_is =
      ap (λ ps. flat_map kept_for (map (λ q. q.var) ps ++ u.vars)) head.params
      ∙ flat_map-append kept_for (map (λ q. q.var) f.params) u.vars ∙ ap (λ l. l ++ flat_map kept_for u.vars) (no_params f.params params) ∙ left

  pub named_is : map named_as (kept_of (function_with_scalars u)) ≡ stack_variables_of p f
  named_is = ap (map named_as) kept_is ∙ all_named (frame_of p f)

-- ---- their places
record PlaceOf (places : List Place) (v : StackVariable) (offset : ℕ) : Type 0 where
  place : Place
  among : Contains places place
  is : place.of ≡ v
  at : place.offset ≡ offset

place_of : (end : ℕ) (vs : List StackVariable) (w : ℕ) (v : StackVariable) → slice_get vs w ≡ Some v → PlaceOf (places_from end vs) v (slice_index (offsets_from end (map stacked_as vs)) w)
place_of end [] w v e = cc
place_of end (x ∷ vs) zero v e = record { place = record { of = x; offset = layout.begins_at end x }; among = (0, omega arith, refl); is = same_some x v e; at = refl }
place_of end (x ∷ vs) (suc w) v e =
    let r = place_of (layout.ends_at end x) vs w v e in
    let i = r.among in
    record { place = r.place; among = (suc i.0, omega (arith, i.1), i.2); is = r.is; at = r.at }

mapped_get : (ks : List Kept) (w : ℕ) (k : Kept) → slice_get ks w ≡ Some k → slice_get (map named_as ks) w ≡ Some (named_as k)
mapped_get [] w k e = cc
mapped_get (x ∷ ks) zero k e = ap (λ y. Some (named_as y)) (same_some x k e)
mapped_get (x ∷ ks) (suc w) k e = mapped_get ks w k e

mapped_stack : (ks : List Kept) → map stacked_as (map named_as ks) ≡ map declared.cells_of ks
mapped_stack [] = refl
mapped_stack (a_scalar x z ∷ ks) = ap (λ l. record { size = z; count = 1 } ∷ l) (mapped_stack ks)
mapped_stack (an_array x z n ∷ ks) = ap (λ l. record { size = z; count = n } ∷ l) (mapped_stack ks)

-- ---- homes in cells
held_nowhere : (m : ℕ) (h : What) (w i : ℕ) (z : Size) → in_cell w i z ≡ home_at m h → ⊥
held_nowhere m (a_word y) w i z e = cc
held_nowhere m a_flag w i z e = cc

same_cells : (w i v j : ℕ) (z y : Size) → in_cell w i z ≡ in_cell v j y → (w ≡ v) × (i ≡ j) × (z ≡ y)
same_cells w i v j z y e = let a : w ≡ v = cc in let b : i ≡ j = cc in let c : z ≡ y = cc in (a, b, c)

name_in : (k : Kept) (i : ℕ) → (named_as k).name ≡ ((key_in k i).name, (key_in k i).copy)
name_in (a_scalar x z) i = refl
name_in (an_array x z n) i = refl

count_in : (k : Kept) → (named_as k).count ≡ (declared.cells_of k).count
count_in (a_scalar x z) = refl
count_in (an_array x z n) = refl

size_in : (k : Kept) → (named_as k).cell ≡ (declared.cells_of k).size
size_in (a_scalar x z) = refl
size_in (an_array x z n) = refl

module _ (g : Fun) (home : Homes) (vs : List StackVariable) (are : AreDeclared (held_of g) (kept_of g) home) (is : map named_as (kept_of g) ≡ vs) (stack : List Stacked) (same : stack ≡ stack_of g) where
  kept_placed : (k : Key) (w i : ℕ) (z : Size) → IsKept (kept_of g) k (in_cell w i z) → IsPlaced (places_from 0 vs) (slots_by stack) k w i z
  kept_placed k w i z h =
      let q = same_cells w i h.number h.cell z (declared.cells_of h.kept).size h.home in
      let r = place_of 0 vs h.number (named_as h.kept) (subst (λ l. slice_get l h.number ≡ Some (named_as h.kept)) is (mapped_get (kept_of g) h.number h.kept h.there)) in
      let within = h.within in
      let count : r.place.of.count ≡ (declared.cells_of h.kept).count = ap (λ (v : StackVariable). v.count) r.is ∙ count_in h.kept in
      record {
        place = r.place;
        among = r.among;
        name = ap (λ (v : StackVariable). v.name) r.is ∙ name_in h.kept h.cell ∙ ap (λ (x : Key). (x.name, x.copy)) (sym h.key);
        offset = r.at ∙ ap (λ l. slice_index (offsets_from 0 l) h.number) (ap (map stacked_as) (sym is) ∙ mapped_stack (kept_of g) ∙ sym same) ∙ ap (λ m. slice_index (offsets_from 0 stack) m) (sym q.0);
        within = subst (λ m. i < m) (sym count) (subst (λ m. m < (declared.cells_of h.kept).count) (sym q.1) within);
        size = ap (λ (v : StackVariable). v.cell) r.is ∙ size_in h.kept ∙ sym q.2;
      }

  pub placed : ArePlaced home (places_from 0 vs) (slots_by stack)
  placed k w i z e = by (are.others k (in_cell w i z) e)
    where
      by : IsHeld (held_of g) k (in_cell w i z) ⊎ IsKept (kept_of g) k (in_cell w i z) → IsPlaced (places_from 0 vs) (slots_by stack) k w i z
      by (inl h) = absurd (held_nowhere h.number h.held.what w i z h.home)
      by (inr h) = kept_placed k w i z h

-- ---- a small frame
rounded_above : (z : Size) (n : ℕ) → n ≤ rounded_up (bytes_of z) n
rounded_above S8 n = omega arith
rounded_above S16 n = omega arith
rounded_above S32 n = omega arith
rounded_above S64 n = omega arith

up : (a b c d : ℕ) → a ≤ b → b + c ≤ d → a ≤ d
up a b c d h g = omega (arith, h, g)

end_above : (end : ℕ) (vs : List StackVariable) → end ≤ layout.end_from end vs
end_above end [] = omega arith
end_above end (v ∷ vs) = up end (layout.begins_at end v) (v.count * bytes_of v.cell) (layout.end_from (layout.ends_at end v) vs) (rounded_above v.cell end) (end_above (layout.ends_at end v) vs)

abbrev EndsBelow : ℕ → Place → Type 0
EndsBelow n q = q.offset + q.of.count * bytes_of q.of.cell ≤ n

ends_below : (end : ℕ) (vs : List StackVariable) → All (EndsBelow (layout.end_from end vs)) (places_from end vs)
ends_below end [] = All-nil (EndsBelow end)
ends_below end (v ∷ vs) =
    All-cons (EndsBelow (layout.end_from end (v ∷ vs))) (record { of = v; offset = layout.begins_at end v }) (places_from (layout.ends_at end v) vs) (end_above (layout.ends_at end v) vs) (ends_below (layout.ends_at end v) vs)

one_more : {A : Type 0} (b : Bool) (x : A) (ys : List A) (n : ℕ) → length ys ≤ n → length (if b then x ∷ ys else ys) ≤ suc n
one_more true x ys n h = omega (arith, h)
one_more false x ys n h = omega (arith, h)

few : {A : Type 0} (keep : A → Bool) (xs : List A) → length (filter keep xs) ≤ length xs
few keep [] = omega arith
few keep (x ∷ xs) = one_more (keep x) x (filter keep xs) (length xs) (few keep xs)

end_is_low : (end : ℕ) (rs : List Reg) → end ≤ 65536 → length rs ≤ 6 → frame_end end rs ≤ 65584
end_is_low end [] h k = omega (arith, h)
end_is_low end (r ∷ rs) h k = omega (arith, h, k)

size_by : (b : Bool) (end : ℕ) → end ≤ 65584 → (if b then 0 else 16 * ((end + 7) / 16) + 8) ≤ 65592
size_by true end h = omega arith
size_by false end h = omega (arith, h)

size_is_low : (end : ℕ) → end ≤ 65584 → frame_size end ≤ 65592
size_is_low end h = size_by (end == 0) end h

pub frame_is_low : (end : ℕ) (insns : List Insn) → end ≤ 65536 → frame_size (frame_end end (saved_of insns)) ≤ 65592
frame_is_low end insns h = size_is_low (frame_end end (saved_of insns)) (end_is_low end (saved_of insns) h (few (λ r. list_any (λ i. names i r) insns) preserved_registers))

low : (a : ℕ) → a ≤ 65592 → a ≤ 2 ^ 32
low a h = omega (arith, h)

far : (a b : ℕ) → b ≤ 65536 → a ≤ b → a ≤ 2 ^ 32
far a b h g = omega (arith, h, g)

pub small_frame : (vs : List StackVariable) (insns : List Insn) → layout.end_from 0 vs ≤ 65536 → IsSmall (places_from 0 vs) (frame_size (frame_end (layout.end_from 0 vs) (saved_of insns)))
small_frame vs insns h = record {
  size = low (frame_size (frame_end (layout.end_from 0 vs) (saved_of insns))) (frame_is_low (layout.end_from 0 vs) insns h);
  ends = All-weaker (EndsBelow (layout.end_from 0 vs)) (EndsBelow (2 ^ 32)) (λ q k. far (q.offset + q.of.count * bytes_of q.of.cell) (layout.end_from 0 vs) h k) (places_from 0 vs) (ends_below 0 vs);
}
