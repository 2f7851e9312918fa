-- Products of two words.
use Rattle.std.proofs.Common.{◌≡◌, ℕ, Bool, true, false, List, [], ◌∷◌, ◌++◌, Option, Some, None, refl, sym, ap, ◌∙◌, subst, append-nil}
use Rattle.std.specs.Prelude.{not, ◌&&◌, if◌then◌else◌, All}
use Rattle.std.proofs.lemmas.Bool.{and_parts}
use Rattle.std.proofs.lemmas.List.Elements.{All-head, All-tail}
use Rattle.jz_words.specs.declared.size.Size.{Size}
use Rattle.x64_insn.specs.declared.types.Wide.TheVariants as wide
use Rattle.jz_tree.specs.declared.expr.Expr.{Expr}
use Rattle.jz_tree.specs.declared.stmt.Lval.{Lval}
use Rattle.jz_operations.specs.declared.operation.Pinned.{Pinned}
use Rattle.jz_operations.specs.declared.operation.Arg.{Arg}
use Rattle.jz_operations.specs.declared.operation.Arg.TheVariants as arg
use Rattle.jz_operations.specs.declared.operation.Action.{Action}
use Rattle.jz_operations.specs.declared.operation.Action.TheVariants as action
use Rattle.jz_operations.specs.Rows.{low_at}
use Rattle.jz_operations.proofs.Somes.{same_some}
use Rattle.jz_encodable.specs.Encodable.{CanEncode}
use Rattle.jz_change.specs.declared.change.Number.{Number}
use Rattle.jz_change.specs.declared.change.Numbers.{Numbers}
use Rattle.jz_change.specs.declared.change.Numbers.TheVariants.{These}
use Rattle.jz_homes.specs.Homes.{Homes}
use Rattle.jz_homes.specs.Operands.{count_of}
use Rattle.jz_row_operations.specs.Table.{is_imm}
use Rattle.jz_row_operations.specs.Lowering.{numbers_from}
use Rattle.jz_one_row.proofs.Operands.{one_arg}
use Rattle.jz_flag_rows.specs.Results.{IsPinned}
use Rattle.jz_flag_rows.specs.Wide.{IsLong, is_pinned, is_apart, wide_code}
use Rattle.jz_one_flag_row.specs.Forms.{IsWideProduct}
use Rattle.jz_one_flag_row.proofs.OneParts.{one_pinned}
use Rattle.jz_operands.specs.TableHomes.{leaks_of}
use Rattle.jz_operands.specs.Refusals.{HasFields}
use Rattle.jz_rows.specs.Rows.{nth_of}
use Rattle.jz_rows.proofs.FieldLemmas.{mov_fields, wide_fields}
use Rattle.jz_pinned_rows.specs.declared.parts.Operands.{Operands}
use Rattle.jz_pinned_rows.specs.declared.row.Acts.{Acts}
use Rattle.jz_pinned_rows.specs.Rows.{actions_of, items_of, AreWords, Nowhere, NeverWords}
use Rattle.jz_pinned_rows.specs.InnerRows.{IsMultiplied}

-- ---- the three ways
pub when_true : {A : Type 0} (b : Bool) (x y : A) → b ≡ true → (if b then x else y) ≡ x
when_true true x y e = refl
when_true false x y e = absurd cc

pub when_false : {A : Type 0} (b : Bool) (x y : A) → b ≡ false → (if b then x else y) ≡ y
when_false true x y e = absurd cc
when_false false x y e = refl

-- the item of an action that shows one number, or none
pub shown_one : (s : Option ℕ) (xs : List Number) → nth_of s ≡ xs → These ((nth_of s ++ []) ++ []) ≡ These xs
shown_one s xs e = ap These (append-nil (nth_of s ++ []) ∙ append-nil (nth_of s) ∙ e)

module _ (z : Size) (h l : Option Pinned) (t : Operands) where
  abbrev x : Arg
  x = t.first.arg

  abbrev y : Arg
  y = t.second.arg

  abbrev first : List Number
  first = numbers_from (leaks_of t.first.leaks) 0

  abbrev second : List Number
  second = numbers_from (leaks_of t.second.leaks) (count_of (leaks_of t.first.leaks))

  abbrev by : Arg → Action
  by u = action.Wide wide.Mul z l h u

  abbrev pub alone : Arg → Option ℕ → Acts
  alone u s = record {
    before = None;
    between = None;
    last = record { action = by u; shown = record { first = s; second = None } };
    divided = None;
  }

  abbrev copy_before : Option ℕ → Option ℕ → Acts
  copy_before s o = record {
    before = Some (record { action = action.Mov z (low_at l) x; shown = record { first = s; second = None } });
    between = None;
    last = record { action = by y; shown = record { first = o; second = None } };
    divided = None;
  }

  pub in_place : (o : Option ℕ) → nth_of o ≡ second → is_pinned l x ≡ true → IsMultiplied z h l t (alone y o)
  in_place o f e = record {
    actions = when_true (is_pinned l x) _ _ e;
    items = ap (λ i. i ∷ []) (shown_one o second f) ∙ sym (when_true (is_pinned l x) _ _ e);
  }

  pub swapped : (s : Option ℕ) → nth_of s ≡ first → is_pinned l x ≡ false → (not (is_imm x) && is_pinned l y) ≡ true → IsMultiplied z h l t (alone x s)
  swapped s f e g = record {
    actions = when_false (is_pinned l x) _ _ e ∙ when_true (not (is_imm x) && is_pinned l y) _ _ g;
    items = ap (λ i. i ∷ []) (shown_one s first f) ∙ sym (when_false (is_pinned l x) _ _ e ∙ when_true (not (is_imm x) && is_pinned l y) _ _ g);
  }

  one_item : (s : Option ℕ) (xs : List Number) → nth_of s ≡ xs → These (nth_of s ++ []) ≡ These xs
  one_item s xs e = ap These (append-nil (nth_of s) ∙ e)

  pub copied : (s o : Option ℕ) → nth_of s ≡ first → nth_of o ≡ second → is_pinned l x ≡ false → (not (is_imm x) && is_pinned l y) ≡ false → is_apart l y ≡ true → IsMultiplied z h l t (copy_before s o)
  copied s o f g e d a = record {
    actions = when_false (is_pinned l x) _ _ e ∙ when_false (not (is_imm x) && is_pinned l y) _ _ d ∙ when_true (is_apart l y) _ _ a;
    items =
        ap (λ i. i ∷ These ((nth_of o ++ []) ++ []) ∷ []) (one_item s first f) ∙ ap (λ i. These first ∷ i ∷ []) (shown_one o second g)
        ∙ sym (when_false (is_pinned l x) _ _ e ∙ when_false (not (is_imm x) && is_pinned l y) _ _ d);
  }

  pub not_multiplied : is_pinned l x ≡ false → (not (is_imm x) && is_pinned l y) ≡ false → is_apart l y ≡ false → wide_code z h l x y ≡ None
  not_multiplied e d a = when_false (is_pinned l x) _ _ e ∙ when_false (not (is_imm x) && is_pinned l y) _ _ d ∙ when_false (is_apart l y) _ _ a

-- ---- operands that have fields
pinned_fields : (l : Option Pinned) (x : Arg) → is_pinned l x ≡ true → HasFields x
pinned_fields None x e = absurd cc
pinned_fields (Some k) (arg.Var v) e = tt
pinned_fields (Some k) (arg.Imm i) e = tt
pinned_fields (Some k) (arg.Mem m) e = absurd cc
pinned_fields (Some k) (arg.Cell c) e = absurd cc
pinned_fields (Some k) (arg.At r p) e = tt

some_of : {A : Type 0} (x y : A) → Some x ≡ Some y → x ≡ y
some_of x y e = same_some x y e

product_by : (b1 b2 b3 : Bool) (z : Size) (h l : Option Pinned) (x y : Arg) (acts : List Action) → is_pinned l x ≡ b1 → (not (is_imm x) && is_pinned l y) ≡ b2
    → (if b1 then Some (action.Wide wide.Mul z l h y ∷ []) else if b2 then Some (action.Wide wide.Mul z l h x ∷ []) else if b3 then Some (action.Mov z (low_at l) x ∷ action.Wide wide.Mul z l h y ∷ []) else None) ≡ Some acts
    → All CanEncode acts → HasFields x × HasFields y
product_by true b2 b3 z h l x y acts e f k can =
    let c = subst (All CanEncode) (sym (some_of _ acts k)) can in
    (pinned_fields l x e, wide_fields wide.Mul z l h y (All-head CanEncode (action.Wide wide.Mul z l h y) [] c))
product_by false true b3 z h l x y acts e f k can =
    let c = subst (All CanEncode) (sym (some_of _ acts k)) can in
    (wide_fields wide.Mul z l h x (All-head CanEncode (action.Wide wide.Mul z l h x) [] c), pinned_fields l y (and_parts _ _ f).1)
product_by false false true z h l x y acts e f k can =
    let c = subst (All CanEncode) (sym (some_of _ acts k)) can in
    let last = action.Wide wide.Mul z l h y in
    let copy = action.Mov z (low_at l) x in
    ((mov_fields z (low_at l) x (All-head CanEncode copy (last ∷ []) c)).1, wide_fields wide.Mul z l h y (All-head CanEncode last [] (All-tail CanEncode copy (last ∷ []) c)))
product_by false false false z h l x y acts e f k can = absurd cc

pub product_fields : (z : Size) (h l : Option Pinned) (x y : Arg) (acts : List Action) → wide_code z h l x y ≡ Some acts → All CanEncode acts → HasFields x × HasFields y
product_fields z h l x y acts k can = product_by (is_pinned l x) (not (is_imm x) && is_pinned l y) (is_apart l y) z h l x y acts refl refl k can

-- ---- the row
module _ (home : Homes) (z : Size) (hi lo : Lval) (a b : Expr) where
  abbrev Never : Type 0
  Never = (acts : List Action) (items : List Numbers) → IsWideProduct home z hi lo a b acts items → All CanEncode acts → ⊥

  pub product_short : (IsLong z → ⊥) → Never
  product_short none acts items h can = none h.long

  pub product_high : Nowhere (IsPinned home z hi) → Never
  product_high none acts items h can = none h.upper h.high

  pub product_low : Nowhere (IsPinned home z lo) → Never
  product_low none acts items h can = none h.lower h.low

  module _ (k l : Option Pinned) (high : IsPinned home z hi k) (low : IsPinned home z lo l) where
    pub product_words : NeverWords home z a b → Never
    product_words none acts items h can =
        let f = product_fields z h.upper h.lower h.x h.y acts h.code can in
        none h.x h.y h.p h.q h.first h.second h.no_number f.0 f.1

    module _ (t : Operands) (both : AreWords home z a b t) where
      no_code : (acts : List Action) → ◌≡◌ {A = Option (List Action)} None (Some acts) → ⊥
      no_code acts e = absurd cc

      pub product_uncoded : wide_code z k l t.first.arg t.second.arg ≡ None → Never
      product_uncoded none acts items h can =
          let e = one_pinned home z hi k h.upper high h.high in
          let f = one_pinned home z lo l h.lower low h.low in
          let m = one_arg home z a t.first.arg h.x (leaks_of t.first.leaks) h.p both.both.first h.first in
          let n = one_arg home z b t.second.arg h.y (leaks_of t.second.leaks) h.q both.both.second h.second in
          no_code acts (sym none ∙ (λ i. wide_code z (e i) (f i) (m.0 i) (n.0 i)) ∙ h.code)

      pub product_is : IsLong z → (r : Acts) → IsMultiplied z k l t r → IsWideProduct home z hi lo a b (actions_of r) (items_of r)
      product_is long r m = record {
        upper = k;
        lower = l;
        x = t.first.arg;
        y = t.second.arg;
        p = leaks_of t.first.leaks;
        q = leaks_of t.second.leaks;
        long = long;
        high = high;
        low = low;
        first = both.both.first;
        second = both.both.second;
        no_number = both.no_number;
        code = m.actions;
        shown = m.items;
      }
