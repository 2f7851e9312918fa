-- A row that matches before matches behind.
use Rattle.std.proofs.Common.{◌≡◌, inl, inr, Bool, true, false, ◌&&◌, ◌||◌, not, ◌++◌, map, Option, None, refl, sym, ap, ap₂, ◌∙◌}
use Rattle.std.specs.Prelude.{◌⊎◌}
use Rattle.std.specs.Option.{option_or}
use Rattle.std.specs.List.{list_any}
use Rattle.std.proofs.lemmas.Bool.{false≢true, and_parts, and_from}
use Rattle.jz_tree.specs.Size.{Size}
use Rattle.jz_tree.specs.Operators.{divides, is_shift}
use Rattle.jz_tree.specs.declared.expr.BinOp.{BinOp}
use Rattle.jz_select.specs.declared.class.Class.{Class}
use Rattle.jz_select.specs.declared.class.Class.TheVariants as class
use Rattle.jz_select.specs.declared.class.Operand.{Operand}
use Rattle.jz_select.specs.declared.shape.Value.{Value}
use Rattle.jz_select.specs.declared.shape.Value.TheVariants as values
use Rattle.jz_select.specs.declared.shape.Shape as rowed
use Rattle.jz_select.specs.declared.shape.Shape.TheVariants as shapes
use Rattle.jz_select.specs.Rows.{is_r, is_m, is_i, is_rm, is_rmi, is_same, is_apart, is_wide, is_long, is_longest, is_below, class_size, adds, joins_bits, multiplies, swaps, computes, changes, are_inline, is_quotient, times, times_inline, masks, shifts_inline, shifts_masked, copy_row, arithmetic_row, carrying_row, unary_row, times_row, times_inline_row, quotient_row, inline_shift_row, masked_shift_row, zero_extension_row, sign_extension_row, truncation_row}
use Rattle.jz_select.specs.Selected.{Row, operations, intrinsics, intrinsic_row}
use Rattle.jz_row_laws.proofs.Booleans.{or_parts, or_left, or_right}
use Rattle.jz_row_laws.proofs.Copied.{Matches}
use Rattle.jz_kept_classes.specs.Classes.{KeepsClass}
use Rattle.jz_kept_classes.proofs.Kept.{same_class}
use Rattle.jz_kept_patterns.proofs.Operands.{KeptOperand, ValueMeets, m_alone, m_one, m_two, m_carry, m_inner, m_cast}

-- ---- truths
pub next : (a b c d : Bool) → (a ≡ true → c ≡ true) → (b ≡ true → d ≡ true) → (a || b) ≡ true → (c || d) ≡ true
next a b c d f g h = by_part (or_parts a b h)
  where
    by_part : (a ≡ true) ⊎ (b ≡ true) → (c || d) ≡ true
    by_part (inl x) = or_left c d (f x)
    by_part (inr y) = or_right c d (g y)

pub none : (b : Bool) → false ≡ true → b ≡ true
none b e = absurd (false≢true e)

inline_no_memory : (c : Class) → is_i c ≡ true → is_m c ≡ false
inline_no_memory class.Inline e = refl
inline_no_memory (class.Reg z) e = absurd (false≢true e)
inline_no_memory (class.Mem z) e = absurd (false≢true e)
inline_no_memory class.Flag e = absurd (false≢true e)
inline_no_memory (class.Masked m) e = absurd (false≢true e)
inline_no_memory class.Skip e = absurd (false≢true e)
inline_no_memory class.Other e = absurd (false≢true e)

-- ---- the destination as first operand
abbrev ways : Bool → Bool → Bool → Bool → Bool → Bool → Bool → Bool → Bool
ways sw md rd ma mo sa so ao = (sa && not (md && mo)) || ((sw && (so && not (md && ma))) || (rd && ao))

ways_kept : (sw md rd ma mo sa so ao sa' so' ao' : Bool) → (sa ≡ true → sa' ≡ true) → (so ≡ true → so' ≡ true) → (rd ≡ true → ao ≡ true → ao' ≡ true)
    → ways sw md rd ma mo sa so ao ≡ true → ways sw md rd ma mo sa' so' ao' ≡ true
ways_kept sw md rd ma mo sa so ao sa' so' ao' f g k h =
    next (sa && not (md && mo)) ((sw && (so && not (md && ma))) || (rd && ao)) (sa' && not (md && mo)) ((sw && (so' && not (md && ma))) || (rd && ao'))
    (λ e. (let x = and_parts sa (not (md && mo)) e in and_from sa' (not (md && mo)) (f x.0) x.1))
    (next (sw && (so && not (md && ma))) (rd && ao) (sw && (so' && not (md && ma))) (rd && ao')
    (λ e. (let x = and_parts sw (so && not (md && ma)) e in
    let y = and_parts so (not (md && ma)) x.1 in and_from sw (so' && not (md && ma)) x.0 (and_from so' (not (md && ma)) (g y.0) y.1)))
    (λ e. (let x = and_parts rd ao e in and_from rd ao' x.0 (k x.0 x.1))))
    h

module _ (d w l u : Class) (F : KeepsClass d l) (K : KeepsClass w u) where
  abbrev S : Value → rowed.Shape
  S v = shapes.Assign None d w v

  abbrev Z : Value → rowed.Shape
  Z v = shapes.Assign None l u v

  rm_same : is_rm d ≡ true → l ≡ d
  rm_same h = same_class is_rm refl d l F h

  r_same : is_r d ≡ true → l ≡ d
  r_same h = same_class is_r refl d l F h

  -- ---- a plain copy
  copy_kept : (v v' : Value) → copy_row (S v) ≡ true → copy_row (Z v') ≡ true
  copy_kept v v' h =
      let x = and_parts (is_rm d) (is_rmi w && not (is_m d && is_m w)) h in
      let y = and_parts (is_rmi w) (not (is_m d && is_m w)) x.1 in
      ap₂ (λ p q. is_rm p && (is_rmi q && not (is_m p && is_m q))) (rm_same x.0) (same_class is_rmi refl w u K y.0) ∙ h

  pub by_copy : (v : Value) → copy_row (Z v) ≡ true → Matches (Z v)
  by_copy v h = or_left (copy_row (Z v)) (list_any (λ (q : Row). q.1 (Z v)) (operations ++ map intrinsic_row intrinsics)) h

  -- of an inline value
  pub inline_copy : (v : Value) → is_rm d ≡ true → is_i w ≡ true → Matches (Z v)
  inline_copy v h i =
      let n : not (is_m d && is_m w) ≡ true = ap (λ b. not (is_m d && b)) (inline_no_memory w i) ∙ no_both (is_m d) in
      by_copy v
      (copy_kept v v (and_from (is_rm d) (is_rmi w && not (is_m d && is_m w)) h (and_from (is_rmi w) (not (is_m d && is_m w)) (or_right (is_r w || is_m w) (is_i w) i) n)))
    where
      no_both : (b : Bool) → not (b && false) ≡ true
      no_both true = refl
      no_both false = refl

  -- ---- operands
  module _ (a c : Operand) (x : KeptOperand (is_r d) a c) where
    pub rmi_first : is_rmi a.class ≡ true → c.class ≡ a.class
    rmi_first h = same_class is_rmi refl a.class c.class x.kept h

    change_ways : (rd sa sa' : Bool) → (sa ≡ true → sa' ≡ true) → (sa || rd) ≡ true → (sa' || rd) ≡ true
    change_ways rd sa sa' f h = next sa rd sa' rd f (λ e. e) h

    pub changes_kept : changes d a ≡ true → changes l c ≡ true
    changes_kept h =
        let y = and_parts (is_rm d) (is_rmi a.class && (is_same a || is_r d)) h in
        let z = and_parts (is_rmi a.class) (is_same a || is_r d) y.1 in
        let e = rm_same y.0 in
        ap (λ q. is_rm q && (is_rmi c.class && (is_same c || is_r q))) e
        ∙ and_from (is_rm d) (is_rmi c.class && (is_same c || is_r d)) y.0
        (and_from (is_rmi c.class) (is_same c || is_r d) (ap is_rmi (rmi_first z.0) ∙ z.0) (change_ways (is_r d) (is_same a) (is_same c) x.same z.1))

    module _ (o e : Operand) (y : KeptOperand (is_r d) o e) where
      pub computes_kept : (sw : Bool) → e.class ≡ o.class → computes sw d a o ≡ true → computes sw l c e ≡ true
      computes_kept sw eo h =
          let p = and_parts (is_rm d) (is_rmi a.class && ways sw (is_m d) (is_r d) (is_m a.class) (is_m o.class) (is_same a) (is_same o) (is_apart o)) h in
          let q = and_parts (is_rmi a.class) (ways sw (is_m d) (is_r d) (is_m a.class) (is_m o.class) (is_same a) (is_same o) (is_apart o)) p.1 in
          let le = rm_same p.0 in
          let ca = rmi_first q.0 in
          ap (λ t. is_rm t && (is_rmi c.class && ways sw (is_m t) (is_r t) (is_m c.class) (is_m e.class) (is_same c) (is_same e) (is_apart e))) le
          ∙ (ap₂ (λ s t. is_rm d && (is_rmi s && ways sw (is_m d) (is_r d) (is_m s) (is_m t) (is_same c) (is_same e) (is_apart e))) ca eo
          ∙ and_from (is_rm d) (is_rmi a.class && ways sw (is_m d) (is_r d) (is_m a.class) (is_m o.class) (is_same c) (is_same e) (is_apart e)) p.0
          (and_from (is_rmi a.class) (ways sw (is_m d) (is_r d) (is_m a.class) (is_m o.class) (is_same c) (is_same e) (is_apart e)) q.0
          (ways_kept sw (is_m d) (is_r d) (is_m a.class) (is_m o.class) (is_same a) (is_same o) (is_apart o) (is_same c) (is_same e) (is_apart e) x.same y.same y.apart q.1)))

      pub first_rmi : (sw : Bool) → computes sw d a o ≡ true → is_rmi a.class ≡ true
      first_rmi sw h = (and_parts (is_rmi a.class) _ (and_parts (is_rm d) _ h).1).0

      pub rmi_second : is_rmi o.class ≡ true → e.class ≡ o.class
      rmi_second h = same_class is_rmi refl o.class e.class y.kept h

      abbrev pub Sums : Bool → Class → Operand → Operand → Bool
      Sums sw t f g = is_rmi g.class && (not (are_inline f g) && computes sw t f g)

      pub sums_kept : (sw : Bool) → Sums sw d a o ≡ true → Sums sw l c e ≡ true
      sums_kept sw h =
          let p = and_parts (is_rmi o.class) (not (are_inline a o) && computes sw d a o) h in
          let q = and_parts (not (are_inline a o)) (computes sw d a o) p.1 in
          let eo = rmi_second p.0 in
          let ca = rmi_first (first_rmi sw q.1) in
          and_from (is_rmi e.class) (not (are_inline c e) && computes sw l c e) (ap is_rmi eo ∙ p.0)
          (and_from (not (are_inline c e)) (computes sw l c e) (ap₂ (λ s t. not (is_i s && is_i t)) ca eo ∙ q.0) (computes_kept sw eo q.1))

      -- ---- rows of two operands
      arithmetic_row_kept : (p : BinOp) → arithmetic_row (S (values.Two p a o)) ≡ true → arithmetic_row (Z (values.Two p c e)) ≡ true
      arithmetic_row_kept p h =
          let g : Bool = adds p || (joins_bits p && true) in
          let x = and_parts g (Sums (swaps p) d a o) h in
          and_from g (Sums (swaps p) l c e) x.0 (sums_kept (swaps p) x.1)

      carrying_row_kept : (p : BinOp) → carrying_row (S (values.Carry p a o)) ≡ true → carrying_row (Z (values.Carry p c e)) ≡ true
      carrying_row_kept p h = sums_kept (swaps p) h

      pub times_kept : times d a o ≡ true → times l c e ≡ true
      times_kept h =
          let p = and_parts (is_r d) (is_wide (class_size d) && (is_rm o.class && computes (not (is_i a.class)) d a o)) h in
          let q = and_parts (is_wide (class_size d)) (is_rm o.class && computes (not (is_i a.class)) d a o) p.1 in
          let r = and_parts (is_rm o.class) (computes (not (is_i a.class)) d a o) q.1 in
          let le = r_same p.0 in
          let eo : e.class ≡ o.class = same_class is_rm refl o.class e.class y.kept r.0 in
          let ca = rmi_first (first_rmi (not (is_i a.class)) r.1) in
          and_from (is_r l) (is_wide (class_size l) && (is_rm e.class && computes (not (is_i c.class)) l c e)) (ap is_r le ∙ p.0)
          (and_from (is_wide (class_size l)) (is_rm e.class && computes (not (is_i c.class)) l c e) (ap (λ t. is_wide (class_size t)) le ∙ q.0)
          (and_from (is_rm e.class) (computes (not (is_i c.class)) l c e) (ap is_rm eo ∙ r.0)
          (ap (λ t. computes (not (is_i t)) l c e) ca ∙ computes_kept (not (is_i a.class)) eo r.1)))

      times_row_kept : (p : BinOp) → times_row (S (values.Two p a o)) ≡ true → times_row (Z (values.Two p c e)) ≡ true
      times_row_kept p h = let x = and_parts (multiplies p) (times d a o) h in and_from (multiplies p) (times l c e) x.0 (times_kept x.1)

      pub inline_kept : times_inline d a o ≡ true → times_inline l c e ≡ true
      inline_kept h =
          let p = and_parts (is_r d) (is_wide (class_size d) && (is_rm a.class && is_i o.class)) h in
          let q = and_parts (is_wide (class_size d)) (is_rm a.class && is_i o.class) p.1 in
          let r = and_parts (is_rm a.class) (is_i o.class) q.1 in
          ap (λ t. is_r t && (is_wide (class_size t) && (is_rm c.class && is_i e.class))) (r_same p.0)
          ∙ (ap₂ (λ s t. is_r d && (is_wide (class_size d) && (is_rm s && is_i t))) (same_class is_rm refl a.class c.class x.kept r.0) (same_class is_i refl o.class e.class y.kept r.1) ∙ h)

      times_inline_row_kept : (p : BinOp) → times_inline_row (S (values.Two p a o)) ≡ true → times_inline_row (Z (values.Two p c e)) ≡ true
      times_inline_row_kept p h = let x = and_parts (multiplies p) (times_inline d a o) h in and_from (multiplies p) (times_inline l c e) x.0 (inline_kept x.1)

      quotient_kept : is_quotient d a o ≡ true → is_quotient l c e ≡ true
      quotient_kept h =
          let p = and_parts (is_r d) (is_long (class_size d) && (is_rmi a.class && (is_rm o.class && is_apart o))) h in
          let q = and_parts (is_long (class_size d)) (is_rmi a.class && (is_rm o.class && is_apart o)) p.1 in
          let r = and_parts (is_rmi a.class) (is_rm o.class && is_apart o) q.1 in
          let s = and_parts (is_rm o.class) (is_apart o) r.1 in
          let le = r_same p.0 in
          and_from (is_r l) (is_long (class_size l) && (is_rmi c.class && (is_rm e.class && is_apart e))) (ap is_r le ∙ p.0)
          (and_from (is_long (class_size l)) (is_rmi c.class && (is_rm e.class && is_apart e)) (ap (λ t. is_long (class_size t)) le ∙ q.0)
          (and_from (is_rmi c.class) (is_rm e.class && is_apart e) (ap is_rmi (rmi_first r.0) ∙ r.0)
          (and_from (is_rm e.class) (is_apart e) (ap is_rm (same_class is_rm refl o.class e.class y.kept s.0) ∙ s.0) (y.apart p.0 s.1))))

      quotient_row_kept : (p : BinOp) → quotient_row (S (values.Two p a o)) ≡ true → quotient_row (Z (values.Two p c e)) ≡ true
      quotient_row_kept p h = let x = and_parts (divides p) (is_quotient d a o) h in and_from (divides p) (is_quotient l c e) x.0 (quotient_kept x.1)

      pub shifts_kept : shifts_inline d a o ≡ true → shifts_inline l c e ≡ true
      shifts_kept h =
          let q = and_parts (is_i o.class) (changes d a) h in
          and_from (is_i e.class) (changes l c) (ap is_i (same_class is_i refl o.class e.class y.kept q.0) ∙ q.0) (changes_kept q.1)

      inline_shift_row_kept : (p : BinOp) → inline_shift_row (S (values.Two p a o)) ≡ true → inline_shift_row (Z (values.Two p c e)) ≡ true
      inline_shift_row_kept p h = let x = and_parts (is_shift p) (shifts_inline d a o) h in and_from (is_shift p) (shifts_inline l c e) x.0 (shifts_kept x.1)

      abbrev Longest : Option Size → Class → Class → Bool
      Longest z s t = is_longest (option_or z (option_or (class_size s) (class_size t)))

      pub masked_kept : (z : Option Size) → shifts_masked z d a o ≡ true → shifts_masked z l c e ≡ true
      masked_kept z h =
          let q = and_parts (masks (Longest z d a.class) o.class) (computes false d a o) h in
          let le = rm_same (and_parts (is_rm d) _ q.1).0 in
          let ca = rmi_first (first_rmi false q.1) in
          let eo : e.class ≡ o.class = same_class (masks (Longest z d a.class)) refl o.class e.class y.kept q.0 in
          and_from (masks (Longest z l c.class) e.class) (computes false l c e)
          (ap₂ (λ s t. masks (Longest z s t) e.class) le ca ∙ (ap (masks (Longest z d a.class)) eo ∙ q.0)) (computes_kept false eo q.1)

      masked_shift_row_kept : (p : BinOp) → masked_shift_row (S (values.Two p a o)) ≡ true → masked_shift_row (Z (values.Two p c e)) ≡ true
      masked_shift_row_kept p h =
          let x = and_parts (is_shift p) (shifts_masked None d a o) h in
          and_from (is_shift p) (shifts_masked None l c e) x.0 (masked_kept None x.1)

  unary_row_kept : (a c : Operand) → KeptOperand (is_r d) a c → unary_row (S (values.One a)) ≡ true → unary_row (Z (values.One c)) ≡ true
  unary_row_kept a c x h = changes_kept a c x h

  cast_row : (b : Bool) (c e : Class) (k : KeepsClass c e) (test : Class → Bool) (f : Class → Bool) → test class.Other ≡ false → (b && (is_r d && (test c && f c))) ≡ true → (b && (is_r l && (test e && f e))) ≡ true
  cast_row b c e k test f n h =
      let p = and_parts b (is_r d && (test c && f c)) h in
      let q = and_parts (is_r d) (test c && f c) p.1 in
      let r = and_parts (test c) (f c) q.1 in
      ap₂ (λ s t. b && (is_r s && (test t && f t))) (r_same q.0) (same_class test n c e k r.0) ∙ h

  -- ---- values
  plain_kept : (v : Value) → (copy_row (S values.Alone) || false) ≡ true → Matches (Z v)
  plain_kept v h = by_part (or_parts (copy_row (S values.Alone)) false h)
    where
      by_part : (copy_row (S values.Alone) ≡ true) ⊎ (false ≡ true) → Matches (Z v)
      by_part (inl t) = by_copy v (copy_kept values.Alone v t)
      by_part (inr t) = absurd (false≢true t)

  inner_kept : (p : BinOp) (a o : Operand) (v : Value) → (is_rmi a.class ≡ true → is_rmi o.class ≡ true → are_inline a o ≡ true) → (copy_row (S (values.Carry p a o)) || (carrying_row (S (values.Carry p a o)) || false)) ≡ true → Matches (Z v)
  inner_kept p a o v n h = by_part (or_parts (copy_row (S (values.Carry p a o))) (carrying_row (S (values.Carry p a o)) || false) h)
    where
      both : carrying_row (S (values.Carry p a o)) ≡ true → ⊥
      both t =
          let x = and_parts (is_rmi o.class) (not (are_inline a o) && computes (swaps p) d a o) t in
          let y = and_parts (not (are_inline a o)) (computes (swaps p) d a o) x.1 in
          let z = and_parts (is_rmi a.class) _ (and_parts (is_rm d) _ y.1).1 in
          false≢true (sym (ap not (n z.0 x.0)) ∙ y.0)

      later : (carrying_row (S (values.Carry p a o)) ≡ true) ⊎ (false ≡ true) → Matches (Z v)
      later (inl t) = absurd (both t)
      later (inr t) = absurd (false≢true t)

      by_part : (copy_row (S (values.Carry p a o)) ≡ true) ⊎ ((carrying_row (S (values.Carry p a o)) || false) ≡ true) → Matches (Z v)
      by_part (inl t) = by_copy v (copy_kept (values.Carry p a o) v t)
      by_part (inr t) = later (or_parts (carrying_row (S (values.Carry p a o))) false t)

  pub matches_kept : {v v' : Value} → ValueMeets (is_r d) v v' → Matches (S v) → Matches (Z v')
  matches_kept (m_alone v) h = plain_kept v h
  matches_kept (m_one a c x) h =
      let v = values.One a in
      let v' = values.One c in
      next (copy_row (S v)) (unary_row (S v) || false) (copy_row (Z v')) (unary_row (Z v') || false) (copy_kept v v')
      (next (unary_row (S v)) false (unary_row (Z v')) false (unary_row_kept a c x) (none false)) h
  matches_kept (m_two p a o c e x y) h =
      let v : Value = values.Two p a o in
      let v' : Value = values.Two p c e in
      next (copy_row (S v)) (arithmetic_row (S v) || (times_row (S v) || (times_inline_row (S v) || (quotient_row (S v) || (inline_shift_row (S v) || (masked_shift_row (S v) || false)))))) (copy_row (Z v')) (arithmetic_row (Z v') || (times_row (Z v') || (times_inline_row (Z v') || (quotient_row (Z v') || (inline_shift_row (Z v') || (masked_shift_row (Z v') || false)))))) (copy_kept v v')
      (next (arithmetic_row (S v)) (times_row (S v) || (times_inline_row (S v) || (quotient_row (S v) || (inline_shift_row (S v) || (masked_shift_row (S v) || false))))) (arithmetic_row (Z v')) (times_row (Z v') || (times_inline_row (Z v') || (quotient_row (Z v') || (inline_shift_row (Z v') || (masked_shift_row (Z v') || false))))) (arithmetic_row_kept a c x o e y p)
      (next (times_row (S v)) (times_inline_row (S v) || (quotient_row (S v) || (inline_shift_row (S v) || (masked_shift_row (S v) || false)))) (times_row (Z v')) (times_inline_row (Z v') || (quotient_row (Z v') || (inline_shift_row (Z v') || (masked_shift_row (Z v') || false)))) (times_row_kept a c x o e y p)
      (next (times_inline_row (S v)) (quotient_row (S v) || (inline_shift_row (S v) || (masked_shift_row (S v) || false))) (times_inline_row (Z v')) (quotient_row (Z v') || (inline_shift_row (Z v') || (masked_shift_row (Z v') || false))) (times_inline_row_kept a c x o e y p)
      (next (quotient_row (S v)) (inline_shift_row (S v) || (masked_shift_row (S v) || false)) (quotient_row (Z v')) (inline_shift_row (Z v') || (masked_shift_row (Z v') || false)) (quotient_row_kept a c x o e y p)
      (next (inline_shift_row (S v)) (masked_shift_row (S v) || false) (inline_shift_row (Z v')) (masked_shift_row (Z v') || false) (inline_shift_row_kept a c x o e y p)
      (next (masked_shift_row (S v)) false (masked_shift_row (Z v')) false (masked_shift_row_kept a c x o e y p) (none false)))))))
      h
  matches_kept (m_carry p a o c e x y) h =
      let v : Value = values.Carry p a o in
      let v' : Value = values.Carry p c e in
      next (copy_row (S v)) (carrying_row (S v) || false) (copy_row (Z v')) (carrying_row (Z v') || false) (copy_kept v v')
      (next (carrying_row (S v)) false (carrying_row (Z v')) false (carrying_row_kept a c x o e y p) (none false)) h
  matches_kept (m_inner p a o v n) h = inner_kept p a o v n h
  matches_kept (m_cast z s c e k) h =
      let v : Value = values.Cast z s c in
      let v' : Value = values.Cast z s e in
      next (copy_row (S v)) (zero_extension_row (S v) || (sign_extension_row (S v) || (truncation_row (S v) || false))) (copy_row (Z v')) (zero_extension_row (Z v') || (sign_extension_row (Z v') || (truncation_row (Z v') || false))) (copy_kept v v')
      (next (zero_extension_row (S v)) (sign_extension_row (S v) || (truncation_row (S v) || false)) (zero_extension_row (Z v')) (sign_extension_row (Z v') || (truncation_row (Z v') || false)) (cast_row (not s) c e k is_rm (λ t. is_below (class_size t) z) refl)
      (next (sign_extension_row (S v)) (truncation_row (S v) || false) (sign_extension_row (Z v')) (truncation_row (Z v') || false) (cast_row s c e k is_rm (λ t. is_below (class_size t) z) refl)
      (next (truncation_row (S v)) false (truncation_row (Z v')) false (cast_row (not s) c e k is_r (λ t. not (is_below (class_size t) z)) refl) (none false))))
      h

-- ---- `r = o if c`
abbrev chosen : Class → Class → Bool → Bool
chosen d w c = is_r d && (is_wide (class_size d) && (is_rm w && c))

pub choice_kept : (d w l u : Class) (c b : Bool) → KeepsClass d l → KeepsClass w u → (c ≡ true → b ≡ true) → Matches (shapes.Conditional d w c) → Matches (shapes.Conditional l u b)
choice_kept d w l u c b f k g h = next (chosen d w c) false (chosen l u b) false row (none false) h
  where
    row : chosen d w c ≡ true → chosen l u b ≡ true
    row e =
        let p = and_parts (is_r d) (is_wide (class_size d) && (is_rm w && c)) e in
        let q = and_parts (is_wide (class_size d)) (is_rm w && c) p.1 in
        let r = and_parts (is_rm w) c q.1 in
        let le : l ≡ d = same_class is_r refl d l f p.0 in
        ap (λ t. is_r t && (is_wide (class_size t) && (is_rm u && b))) le
        ∙ and_from (is_r d) (is_wide (class_size d) && (is_rm u && b)) p.0
        (and_from (is_wide (class_size d)) (is_rm u && b) q.0 (and_from (is_rm u) b (ap is_rm (same_class is_rm refl w u k r.0) ∙ r.0) (g r.1)))
