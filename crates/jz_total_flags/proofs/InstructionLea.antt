-- LEA has actions.
use Rattle.std.proofs.Common.{◌≡◌, ℕ, ◌+◌, ◌≤◌, Bool, true, false, ◌&&◌, List, [], ◌∷◌, None, refl, sym, ap, ◌∙◌, subst, arith, inl, inr, ℤ}
use Rattle.std.specs.Prelude.{nat_le, ◌⊎◌, All}
use Rattle.std.proofs.lemmas.Bool.{false≢true, and_parts, leb-true}
use Rattle.std.proofs.lemmas.List.Elements.{All-nil, All-cons}
use Rattle.jz_words.specs.declared.size.Size.TheVariants.{S64}
use Rattle.jz_words.specs.Readings.{reading_of, fits_bytes}
use Rattle.x64_insn.specs.Chosen.{is_spelled}
use Rattle.jz_tree.specs.declared.expr.Expr.{Expr}
use Rattle.jz_tree.specs.declared.stmt.Lval.{Lval}
use Rattle.jz_select.specs.declared.class.Sum as looked
use Rattle.jz_select.specs.Sums.{capped_count, is_sum}
use Rattle.jz_select.specs.Look.{look_of, terms_of}
use Rattle.jz_select.specs.Operands.{dest_of}
use Rattle.jz_select.specs.Rows.{is_r, is_m}
use Rattle.jz_judgement.specs.Places as place
use Rattle.jz_judgement.specs.Lefts.{Holds}
use Rattle.jz_row_laws.proofs.Booleans.{or_left}
use Rattle.jz_limits.specs.declared.looked.Asking.{Asking}
use Rattle.jz_limits.specs.declared.limit.Limit.{Limit}
use Rattle.jz_limits.specs.declared.operands.Role.TheVariants as role
use Rattle.jz_limits.specs.Values.{no_numbers}
use Rattle.jz_limits.specs.Asked.{unless, has_displacement, asked_as}
use Rattle.jz_operations.specs.declared.operation.Address.{Address}
use Rattle.jz_operations.specs.declared.operation.Arg.TheVariants as arg
use Rattle.jz_operations.specs.declared.operation.Action.TheVariants as action
use Rattle.jz_encodable.specs.Encodable.{is_spelled_at, CanEncode}
use Rattle.jz_homes.specs.Homes.{Homes}
use Rattle.jz_homes.specs.Sums.{Sum, sum_of, of_base}
use Rattle.jz_flag_rows.specs.Instructions.{IsLeaAddress, with_base, a_number, an_index}
use Rattle.jz_one_flag_row.specs.Forms.{IsLea}
use Rattle.jz_total_rows.specs.Expanded.{IsExpanded, IsExpandedLeft}
use Rattle.jz_total_rows.proofs.Terms.{Counted, none, plain, scaled, IsCount, small_count, HasAddress, factor_one, address_terms, exact, both_counts}
use Rattle.jz_total_rows.proofs.Summed.{seen, is_field, AreFields, sum_there}
use Rattle.jz_total_rows.proofs.Fits.{fit_at, Fits, address_fits}
use Rattle.jz_total_rows.proofs.Stands.{is_variable, variable_of}
use Rattle.jz_total_rows.proofs.Bringing.{encode}
use Rattle.jz_total_rows.proofs.Operands.{left_there}
use Rattle.jz_total_rows.proofs.Rows.{in_variable}
use Rattle.jz_total_flags.proofs.InstructionForms.{HasActs}

-- ---- the address
record HasLea (t : Sum) : Type 0 where
  pub address : Address
  pub is : IsLeaAddress t address
  pub fits : AreFields t.terms → fits_bytes 4 (reading_of S64 t.number) ≡ true → Fits S64 (arg.Mem address)

based : (t : Sum) → HasAddress t → HasLea t
based t a = record { address = a.address; is = with_base a.is; fits = λ f h. address_fits S64 t a.address a.is f h }

both_true : (a b : Bool) → a ≡ true → b ≡ true → (a && b) ≡ true
both_true true b e f = f
both_true false b e f = absurd (false≢true e)

-- a variable alone, with its factor
indexed : (j k : ℕ) (i : ℤ) → HasLea (sum_of ((j, k) ∷ []) i)
indexed j k i = by_factor (factor_one k)
  where
    by_factor : (k ≡ 1) ⊎ (k ≡ 1 → ⊥) → HasLea (sum_of ((j, k) ∷ []) i)
    by_factor (inl e) = subst (λ m. HasLea (sum_of ((j, m) ∷ []) i)) (sym e) (based (sum_of ((j, 1) ∷ []) i) (record { address = _; is = of_base j i }))
    by_factor (inr n) = record { address = _; is = an_index j k i n; fits = λ f h d l. both_true (is_field k) (fits_bytes 4 (reading_of S64 i)) f.0 h }

lea_terms : (ts : List (ℕ × ℕ)) (p s : ℕ) (i : ℤ) → Counted ts p s → s ≤ 1 → p + s ≤ 2 → HasLea (sum_of ts i)
lea_terms ts p s i none l m = record { address = _; is = a_number i; fits = λ f h d l. h }
lea_terms ts p s i (plain b c) l m = based (sum_of ts i) (address_terms ts p s i (plain b c) l m (omega (arith)))
lea_terms ts p s i (scaled j k none) l m = indexed j k i
lea_terms ts p s i (scaled j k (plain b c)) l m = based (sum_of ts i) (address_terms ts p s i (scaled j k (plain b c)) l m (omega (arith)))
lea_terms ts p s i (scaled j k (scaled h g c)) l m = absurd (omega (arith, l))

lea_sum : (t : Sum) (s : looked.Sum) (p q : ℕ) → Counted t.terms p q → IsCount s.plain p → IsCount s.scaled q → is_sum s ≡ true → HasLea t
lea_sum t s p q c f g h =
    let b = and_parts s.good (nat_le s.scaled 1 && nat_le (s.plain + s.scaled) 2) h in
    let d = and_parts (nat_le s.scaled 1) (nat_le (s.plain + s.scaled) 2) b.1 in
    let one = leb-true s.scaled 1 d.0 in
    let two = leb-true (s.plain + s.scaled) 2 d.1 in
    let e = small_count f (omega (arith, two)) in
    let k = small_count g (omega (arith, one)) in
    lea_terms t.terms p q t.number c (omega (arith, k, one)) (omega (arith, e, k, two))

lea_spelled : (d v : ℕ) (m : Address) → fit_at d S64 (arg.Mem m) ≡ true → is_spelled_at d (action.Lea v m) ≡ true
unfolding is_spelled
lea_spelled d v m f = f

behind_nothing : (c p : ℕ) → IsCount c p → IsCount (capped_count 0 c) p
behind_nothing c p f = subst (λ k. IsCount (capped_count 0 c) k) (omega (arith)) (both_counts (exact 0 (omega (arith))) f)

unless_none : (b : Bool) (l : Limit) → unless b l ≡ [] → b ≡ true
unless_none true l h = refl
unless_none false l h = absurd cc

-- ---- the row
pub lea_there : (home : Homes) (d : Lval) (a : Expr) → IsExpandedLeft home d → Holds (place.word S64) d → is_r (dest_of d) ≡ true → IsExpanded home a → is_sum (terms_of a) ≡ true → (asked_as no_numbers role.Address None a).fields ≡ [] → HasActs (IsLea home d a)
lea_there home d a x t reg y h limit =
    let q : Asking = record { place = None; size = None } in
    let D = left_there home S64 d x t (or_left (is_r (dest_of d)) (is_m (dest_of d)) reg) in
    let b = variable_of D.stands reg in
    let v = in_variable home S64 d D.arg' D.leaks D.is (ap is_variable b.1) in
    let s = sum_there home a y (and_parts (look_of a).sum.good _ h).0 in
    let m = lea_sum s.sum (terms_of a) s.plains s.scales s.counted (behind_nothing _ _ s.few) (behind_nothing _ _ s.few_scaled) h in
    let p = and_parts (has_displacement (seen q a).terms) (seen q a).scaled (unless_none _ _ limit) in
    let f = m.fits (s.factors q p.1) (ap (λ n. fits_bytes 4 (reading_of S64 n)) (sym (s.number q)) ∙ p.0) in
    let e = action.Lea v.number m.address in
    (e ∷ [], _, record { sum = s.sum; found = m.address; v = v.number; is_sum = s.is; is_address = m.is; dest = v.is_dest; code = refl; shown = refl }, All-cons CanEncode e [] (encode e (λ c l. lea_spelled c v.number m.address (f c l))) (All-nil CanEncode))
