-- The flags that lead the results of an intrinsic have variables.
use Rattle.std.proofs.Common.{◌≡◌, Bool, true, false, List, [], ◌∷◌, Option, Some, None, refl, sym, ap, ◌∙◌, subst}
use Rattle.std.specs.Prelude.{All}
use Rattle.std.proofs.lemmas.Bool.{and_parts, false≢true}
use Rattle.std.proofs.lemmas.List.Elements.{All-head, All-tail}
use Rattle.jz_words.specs.declared.size.Size.{Size}
use Rattle.jz_tree.specs.declared.expr.Storage.{Storage}
use Rattle.jz_tree.specs.declared.expr.Storage.TheVariants as storage
use Rattle.jz_tree.specs.declared.expr.Access.{Access}
use Rattle.jz_tree.specs.declared.expr.Expr.TheViews.{out-Access}
use Rattle.jz_tree.specs.declared.expr.Var.{Var}
use Rattle.jz_tree.specs.declared.stmt.Lval.{Lval}
use Rattle.jz_tree.specs.declared.stmt.Lval.TheVariants as lval
use Rattle.jz_type_names.specs.declared.kinds.Kind.{Kind}
use Rattle.jz_type_names.specs.declared.kinds.Kind.TheVariants as scope
use Rattle.jz_type_names.specs.Kinds.{Known, known_of}
use Rattle.jz_select.specs.declared.class.Class.TheVariants as class
use Rattle.jz_select.specs.declared.shaping.Flags.TheVariants as flags
use Rattle.jz_select.specs.Sums.{is_address, is_index}
use Rattle.jz_select.specs.Look.{look_of, terms_of}
use Rattle.jz_select.specs.Operands.{var_class, class_if, cell_at, cell_class}
use Rattle.jz_select.specs.Rows.{is_flag_result}
use Rattle.jz_select.specs.Shapes.{leads, two_lead, four_lead, five_lead, if_lead, value_behind}
use Rattle.jz_judgement.proofs.Nothing.{none_not, same_some}
use Rattle.jz_meaning.specs.Values.{ref_of}
use Rattle.jz_operations.specs.declared.operation.Pinned.{Pinned}
use Rattle.jz_operations.specs.declared.operation.Flags.{Flags}
use Rattle.jz_homes.specs.Homes.{Homes}
use Rattle.jz_row_operations.specs.Codes.{no_flag}
use Rattle.jz_flag_rows.specs.Results.{IsFlag, no_variable, a_variable, AreFive, five, AreFour, four, AreTwo, two}
use Rattle.jz_one_flag_row.specs.Forms.{Lead, l_none, l_two, l_four, l_five, AreLed}
use Rattle.jz_total_rows.specs.Expanded.{HasHome, a_word, a_flag, a_scalar, an_array, IsExpandedLeft, to_nothing, to_variable, to_cell, to_memory}

-- ---- one flag
abbrev pub HasFlag : Homes → Lval → Type 0
HasFlag home d = (k : Option Pinned) × IsFlag home d k

lead_variable : (home : Homes) (v : Var) → HasHome home v → is_flag_result (var_class (known_of v)) ≡ true → HasFlag home (lval.Var v)
lead_variable home v (a_word z n d k h) e = absurd (false≢true (sym (ap (λ q. is_flag_result (var_class q)) d) ∙ e))
lead_variable home v (a_flag n d k h) e = let pin : Pinned = record { variable = n; span = (ref_of v).span } in (Some pin, a_variable v pin k h refl)
lead_variable home v (a_scalar z w d k h) e = absurd (false≢true (sym (ap (λ q. is_flag_result (var_class q)) d) ∙ e))
lead_variable home v (an_array z n w d c) e = absurd (false≢true (sym (ap (λ q. is_flag_result (var_class q)) d) ∙ e))

if_no_lead : (b : Bool) (z : Size) → is_flag_result (class_if b (class.Reg z)) ≡ false
if_no_lead true z = refl
if_no_lead false z = refl

memory_no_lead : (b : Bool) (z : Option Size) → is_flag_result (class_if b (class.Mem z)) ≡ false
memory_no_lead true z = refl
memory_no_lead false z = refl

at_no_lead : (s : Storage) (k : Kind) (b c : Bool) → is_flag_result (cell_at s k b c) ≡ false
at_no_lead storage.Reg (scope.Array z) b c = if_no_lead b z
at_no_lead storage.Stack (scope.Array z) b c = memory_no_lead c (Some z)
at_no_lead storage.Inline k b c = refl
at_no_lead storage.Reg scope.Int b c = refl
at_no_lead storage.Reg scope.Truth b c = refl
at_no_lead storage.Reg (scope.Word z) b c = refl
at_no_lead storage.Stack scope.Int b c = refl
at_no_lead storage.Stack scope.Truth b c = refl
at_no_lead storage.Stack (scope.Word z) b c = refl

cell_no_lead : (k : Known) (b c : Bool) → is_flag_result (cell_class k b c) ≡ false
cell_no_lead None b c = refl
cell_no_lead (Some d) b c = at_no_lead d.storage d.kind b c

pub lead_flag : (home : Homes) (d : Lval) → IsExpandedLeft home d → leads d ≡ true → HasFlag home d
lead_flag home d (to_nothing at) h = (None, no_variable at)
lead_flag home d (to_variable v x) h = lead_variable home v x h
lead_flag home d (to_cell v i x y) h = absurd (false≢true (sym (cell_no_lead (known_of v) (look_of i).inline (is_index (terms_of i))) ∙ h))
lead_flag home d (to_memory a x) h = absurd (false≢true (sym (memory_no_lead (is_address (terms_of (out-Access a).at)) (out-Access a).size) ∙ h))

-- ---- behind so many flags
behind_if : (b : Bool) (d x : Lval) → if_lead b d ≡ Some x → (b ≡ true) × (d ≡ x)
behind_if true d x e = (refl, same_some d x e)
behind_if false d x e = absurd (none_not x e)

module _ (home : Homes) where
  abbrev L : Lval → Type 0
  L d = IsExpandedLeft home d

  -- the flags, and the left sides behind them
  pub record Led (l : Lead) (to rest : List Lval) : Type 0 where
    pub taken : Flags
    pub are : AreLed home l to taken rest
    pub behind : All L rest

  last_behind : (d x : Lval) → d ≡ x → All L (d ∷ []) → All L (x ∷ [])
  last_behind d x e h = subst (λ y. All L (y ∷ [])) e h

  pub zero_led : (to : List Lval) (x : Lval) → All L to → value_behind flags.Zero to ≡ Some x → Led l_none to (x ∷ [])
  zero_led [] x all e = absurd (none_not x e)
  zero_led (d ∷ []) x all e = let t = same_some d x e in record { taken = no_flag; are = (refl, ap (λ y. y ∷ []) (sym t)); behind = last_behind d x t all }
  zero_led (d ∷ b ∷ ds) x all e = absurd (none_not x e)

  pub two_led : (to : List Lval) (x : Lval) → All L to → value_behind flags.Two to ≡ Some x → Led l_two to (x ∷ [])
  two_led (a ∷ b ∷ d ∷ []) x all e =
      let t = behind_if (two_lead a b) d x e in
      let p = and_parts (leads a) (leads b) t.0 in
      let r = All-tail L a (b ∷ d ∷ []) all in
      let f = lead_flag home a (All-head L a (b ∷ d ∷ []) all) p.0 in
      let g = lead_flag home b (All-head L b (d ∷ []) r) p.1 in
      record {
        taken = record { of = f.0; cf = g.0; sf = None; pf = None; zf = None };
        are = subst (λ y. AreTwo home (a ∷ b ∷ d ∷ []) (record { of = f.0; cf = g.0; sf = None; pf = None; zf = None }) (y ∷ [])) t.1 (two (d ∷ []) f.1 g.1);
        behind = last_behind d x t.1 (All-tail L b (d ∷ []) r);
      }
  two_led to x all e = absurd (none_not x e)

  pub four_led : (to : List Lval) (x : Lval) → All L to → value_behind flags.Four to ≡ Some x → Led l_four to (x ∷ [])
  four_led (a ∷ b ∷ c ∷ g ∷ d ∷ []) x all e =
      let t = behind_if (four_lead a b c g) d x e in
      let p = and_parts (leads a) _ t.0 in
      let q = and_parts (leads b) _ p.1 in
      let r = and_parts (leads c) (leads g) q.1 in
      let s1 = All-tail L a (b ∷ c ∷ g ∷ d ∷ []) all in
      let s2 = All-tail L b (c ∷ g ∷ d ∷ []) s1 in
      let s3 = All-tail L c (g ∷ d ∷ []) s2 in
      let f1 = lead_flag home a (All-head L a (b ∷ c ∷ g ∷ d ∷ []) all) p.0 in
      let f2 = lead_flag home b (All-head L b (c ∷ g ∷ d ∷ []) s1) q.0 in
      let f3 = lead_flag home c (All-head L c (g ∷ d ∷ []) s2) r.0 in
      let f4 = lead_flag home g (All-head L g (d ∷ []) s3) r.1 in
      let fl : Flags = record { of = f1.0; cf = None; sf = f2.0; pf = f3.0; zf = f4.0 } in
      record {
        taken = fl;
        are = subst (λ y. AreFour home (a ∷ b ∷ c ∷ g ∷ d ∷ []) fl (y ∷ [])) t.1 (four (d ∷ []) f1.1 f2.1 f3.1 f4.1);
        behind = last_behind d x t.1 (All-tail L g (d ∷ []) s3);
      }
  four_led to x all e = absurd (none_not x e)

  -- all five, whatever is behind them
  pub all_led : (a b c g k : Lval) (rest : List Lval) → All L (a ∷ b ∷ c ∷ g ∷ k ∷ rest) → five_lead a b c g k ≡ true → Led l_five (a ∷ b ∷ c ∷ g ∷ k ∷ rest) rest
  all_led a b c g k rest all h =
      let p = and_parts (leads a) _ h in
      let q = and_parts (leads b) _ p.1 in
      let r = and_parts (leads c) _ q.1 in
      let s = and_parts (leads g) (leads k) r.1 in
      let s1 = All-tail L a (b ∷ c ∷ g ∷ k ∷ rest) all in
      let s2 = All-tail L b (c ∷ g ∷ k ∷ rest) s1 in
      let s3 = All-tail L c (g ∷ k ∷ rest) s2 in
      let s4 = All-tail L g (k ∷ rest) s3 in
      let f1 = lead_flag home a (All-head L a (b ∷ c ∷ g ∷ k ∷ rest) all) p.0 in
      let f2 = lead_flag home b (All-head L b (c ∷ g ∷ k ∷ rest) s1) q.0 in
      let f3 = lead_flag home c (All-head L c (g ∷ k ∷ rest) s2) r.0 in
      let f4 = lead_flag home g (All-head L g (k ∷ rest) s3) s.0 in
      let f5 = lead_flag home k (All-head L k rest s4) s.1 in
      record { taken = record { of = f1.0; cf = f2.0; sf = f3.0; pf = f4.0; zf = f5.0 }; are = five rest f1.1 f2.1 f3.1 f4.1 f5.1; behind = All-tail L k rest s4 }

  pub five_led : (to : List Lval) (x : Lval) → All L to → value_behind flags.Five to ≡ Some x → Led l_five to (x ∷ [])
  five_led (a ∷ b ∷ c ∷ g ∷ k ∷ d ∷ []) x all e =
      let t = behind_if (five_lead a b c g k) d x e in
      let m = all_led a b c g k (d ∷ []) all t.0 in
      record {
        taken = m.taken;
        are = subst (λ y. AreFive home (a ∷ b ∷ c ∷ g ∷ k ∷ d ∷ []) m.taken (y ∷ [])) t.1 m.are;
        behind = last_behind d x t.1 m.behind;
      }
  five_led to x all e = absurd (none_not x e)
