-- Values and their left sides.
use Rattle.std.proofs.Common.{◌≡◌, Bool, true, false, ◌&&◌, List, [], ◌∷◌, ◌++◌, ◌⊎◌, inl, inr, Option, Some, None, flat_map, refl, sym, ap, ◌∙◌, subst}
use Rattle.std.specs.Prelude.{if◌then◌else◌, is_some}
use Rattle.std.proofs.lemmas.Bool.{false≢true, and_parts, and_from}
use Rattle.std.specs.Option.{option_or}
use Rattle.jz_tree.specs.Span.{Span}
use Rattle.jz_tree.specs.Size.{Size}
use Rattle.jz_tree.specs.declared.expr.BinOp.{BinOp}
use Rattle.jz_tree.specs.declared.expr.Expr.{Expr}
use Rattle.jz_tree.specs.declared.stmt.Lval.{Lval}
use Rattle.jz_type_names.specs.Order.{unless}
use Rattle.jz_type_names.specs.Parts.{span_of}
use Rattle.jz_type_sizes.specs.declared.wants.Want.TheVariants as want
use Rattle.jz_type_sizes.specs.Wants.{own_size}
use Rattle.jz_type_sizes.specs.Typings.{Typing}
use Rattle.jz_type_sizes.specs.Sides.{left_form, within, any_size, takes}
use Rattle.jz_type_sizes.specs.Values.{value_typing, single, is_product, product_size, product_of, with_flag, value_wrong}
use Rattle.jz_judgement.specs.Places.{word, unsized}
use Rattle.jz_judgement.specs.HasType.{Term, Says}
use Rattle.jz_judgement.specs.Lefts as lefts
use Rattle.jz_judgement.specs.Lefts.{Wants, Leaves, Holds, Takes, IsFlag, IsProduct, value_term, Values}
use Rattle.jz_judgement.proofs.Nothing.{none_not, no_sizes, neither_size}
use Rattle.jz_type_names.proofs.Empty.{one_not, both, joined, passed, passes}
use Rattle.jz_judgement.proofs.Operations.{if_true, if_false}
use Rattle.jz_judgement.proofs.LeftSides.{Valued, valued, single_holds, single_right}
use Rattle.jz_judgement.proofs.Holding.{wants_size, leaves_size, holds_word, word_holds, holds_size, holds_wants, holds_none, none_holds, flag, flag_so}

-- ---- products
module _ (h l : Lval) (t : Typing) (x : Term) (v : Valued t x) (at : Span) where
  abbrev size : Option Size
  size = product_size h l t

  abbrev Who : Size → Type 0
  Who z = Wants h (word z) ⊎ (Wants l (word z) ⊎ Says x z)

  -- who says the size
  who : (z : Size) → size ≡ Some z → Holds (word z) h → Holds (word z) l → Who z
  who z e hh hl = at_high (left_form h).size refl e
    where
      at_low : (s : Option Size) → (left_form l).size ≡ s → option_or s t.form.size ≡ Some z → Who z
      at_low None n e = inr (inr (v.agrees.says z e))
      at_low (Some y) n e = inr (inl (holds_wants z y l hl n))

      at_high : (s : Option Size) → (left_form h).size ≡ s → option_or s (option_or (left_form l).size t.form.size) ≡ Some z → Who z
      at_high None n e = at_low (left_form l).size refl e
      at_high (Some y) n e = inl (holds_wants z y h hh n)

  size_of_who : (z : Size) → Who z → Holds (word z) h → Holds (word z) l → t.wrong (want.Word z) ≡ [] → size ≡ Some z
  size_of_who z w hh hl n = at_high (left_form h).size refl
    where
      nobody : (left_form h).size ≡ None → (left_form l).size ≡ None → t.form.size ≡ None → Who z → ⊥
      nobody p q r (inl g) = none_not z (sym p ∙ wants_size h z g)
      nobody p q r (inr (inl g)) = none_not z (sym q ∙ wants_size l z g)
      nobody p q r (inr (inr g)) = false≢true (ap is_some (sym r) ∙ v.agrees.said z g)

      at_value : (s : Option Size) → t.form.size ≡ s → (left_form h).size ≡ None → (left_form l).size ≡ None → s ≡ Some z
      at_value None r p q = absurd (nobody p q r w)
      at_value (Some y) r p q = ap (λ (u : Size). Some u) (v.agrees.one y z n r)

      at_low : (s : Option Size) → (left_form l).size ≡ s → (left_form h).size ≡ None → option_or s t.form.size ≡ Some z
      at_low None q p = at_value t.form.size refl p q
      at_low (Some y) q p = ap (λ (u : Size). Some u) (holds_size z y l hl q)

      at_high : (s : Option Size) → (left_form h).size ≡ s → option_or s (option_or (left_form l).size t.form.size) ≡ Some z
      at_high None p = at_low (left_form l).size refl p
      at_high (Some y) p = ap (λ (u : Size). Some u) (holds_size z y h hh p)

  -- the four parts of what is wrong
  abbrev Fine : Option Size → Type 0
  Fine z = (within z h ≡ []) × (within z l ≡ []) × (t.wrong (own_size z) ≡ []) × (takes (own_size z) h ≡ true) × (takes (own_size z) l ≡ true)

  parts : (z : Option Size) → product_of z h l t at ≡ [] → Fine z
  parts z e =
      let a = both (within z h ++ within z l ++ t.wrong (own_size z)) (unless (takes (own_size z) h && takes (own_size z) l) at) e in
      let b = both (within z h ++ within z l) (t.wrong (own_size z)) a.0 in
      let c = both (within z h) (within z l) b.0 in
      let d = and_parts (takes (own_size z) h) (takes (own_size z) l) (passed (takes (own_size z) h && takes (own_size z) l) at a.1) in
      (c.0, c.1, b.1, d.0, d.1)

  whole : (z : Option Size) → Fine z → product_of z h l t at ≡ []
  whole z f =
      joined (within z h ++ within z l ++ t.wrong (own_size z)) (unless (takes (own_size z) h && takes (own_size z) l) at)
      (joined (within z h ++ within z l) (t.wrong (own_size z)) (joined (within z h) (within z l) f.0 f.1) f.2)
      (passes (takes (own_size z) h && takes (own_size z) l) at (and_from (takes (own_size z) h) (takes (own_size z) l) f.3 f.4))

  product_in : (z : Option Size) → size ≡ z → Fine z → IsProduct h l x
  product_in (Some z) e f =
      let hh = holds_word z h f.0 f.3 in
      let hl = holds_word z l f.1 f.4 in
      lefts.words z (who z e hh hl) hh hl (v.agrees.holds (word z) f.2)
  product_in None e f =
      let n = neither_size (left_form h).size (option_or (left_form l).size t.form.size) e in
      let m = neither_size (left_form l).size t.form.size n.1 in
      lefts.numbers (holds_none h n.0 f.0 f.3) (holds_none l m.0 f.1 f.4) (v.agrees.holds unsized f.2)

  pub product_holds : product_of size h l t at ≡ [] → IsProduct h l x
  product_holds e = product_in size refl (parts size e)

  pub product_right : IsProduct h l x → product_of size h l t at ≡ []
  product_right (lefts.words z w hh hl g) =
      let n = v.agrees.right (word z) g in
      let a = word_holds z h hh in
      let b = word_holds z l hl in
      subst (λ s. product_of s h l t at ≡ []) (sym (size_of_who z w hh hl n)) (whole (Some z) (a.0, b.0, n, a.1, b.1))
  product_right (lefts.numbers lh ll g) =
      let n = v.agrees.right unsized g in
      let a = none_holds h lh in
      let b = none_holds l ll in
      let e = no_sizes (left_form h).size (option_or (left_form l).size t.form.size) (leaves_size h unsized lh) (no_sizes (left_form l).size t.form.size (leaves_size l unsized ll) (v.agrees.free n)) in
      subst (λ s. product_of s h l t at ≡ []) (sym e) (whole None (a.0, b.0, n, a.1, b.1))

-- ---- a flag and a value
module _ (c d : Lval) (t : Typing) (x : Term) (v : Valued t x) (at : Span) where
  pub flagged_holds : with_flag c d t at ≡ [] → IsFlag c × Takes d x
  flagged_holds e =
      let a = both (within any_size c ++ unless (takes want.Truth c) at) (single d t) e in
      let b = both (within any_size c) (unless (takes want.Truth c) at) a.0 in
      (flag c (passed (takes want.Truth c) at b.1), single_holds t x v d a.1)

  pub flagged_right : IsFlag c → Takes d x → with_flag c d t at ≡ []
  flagged_right f g =
      let fine = flag_so c f in
      joined (within any_size c ++ unless (takes want.Truth c) at) (single d t) (joined (within any_size c) (unless (takes want.Truth c) at) fine.0 (passes (takes want.Truth c) at fine.1))
      (single_right t x v d g)

-- ---- all left sides
two_hold : (c d : Lval) (o : Option BinOp) (e : Expr) (b : Bool) → is_product o e ≡ b
    → (if b then product_of (product_size c d (value_typing o d e)) c d (value_typing o d e) (span_of e) else with_flag c d (value_typing o d e) (span_of e)) ≡ [] → Values (c ∷ d ∷ []) o e
two_hold c d o e true p h = lefts.product p (product_holds c d (value_typing o d e) (value_term o d e) (valued o d e) (span_of e) h)
two_hold c d o e false p h = let f = flagged_holds c d (value_typing o d e) (value_term o d e) (valued o d e) (span_of e) h in lefts.flagged p f.0 f.1

pub values_hold : (to : List Lval) (o : Option BinOp) (e : Expr) → value_wrong to o e ≡ [] → Values to o e
values_hold [] o e h = lefts.nothing
values_hold (d ∷ []) o e h = lefts.one (single_holds (value_typing o d e) (value_term o d e) (valued o d e) d h)
values_hold (c ∷ d ∷ []) o e h = two_hold c d o e (is_product o e) refl h
values_hold (c ∷ d ∷ x ∷ xs) o e h = absurd (one_not (span_of e) [] (both (flat_map (within any_size) (c ∷ d ∷ x ∷ xs)) (span_of e ∷ []) h).1)

pub values_right : (to : List Lval) (o : Option BinOp) (e : Expr) → Values to o e → value_wrong to o e ≡ []
values_right to o e lefts.nothing = refl
values_right to o e (lefts.one {d = d} g) = single_right (value_typing o d e) (value_term o d e) (valued o d e) d g
values_right to o e (lefts.product {h = c} {l = d} p g) =
    if_true (is_product o e) (product_of (product_size c d (value_typing o d e)) c d (value_typing o d e) (span_of e)) (with_flag c d (value_typing o d e) (span_of e)) p
    ∙ product_right c d (value_typing o d e) (value_term o d e) (valued o d e) (span_of e) g
values_right to o e (lefts.flagged {c = c} {d = d} p f g) =
    if_false (is_product o e) (product_of (product_size c d (value_typing o d e)) c d (value_typing o d e) (span_of e)) (with_flag c d (value_typing o d e) (span_of e)) p
    ∙ flagged_right c d (value_typing o d e) (value_term o d e) (valued o d e) (span_of e) f g
