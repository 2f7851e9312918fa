-- SETcc.
use Rattle.std.proofs.Common.{◌≡◌, ℕ, ◌+◌, List, [], ◌∷◌, ◌++◌, Option, Some, None, refl, ap, ◌∙◌, subst}
use Rattle.std.specs.Option.{option_to_list}
use Rattle.jz_words.specs.declared.size.Size.TheVariants.{S8}
use Rattle.jz_tree.specs.Span.{Span}
use Rattle.jz_tree.specs.declared.expr.Expr.{Expr}
use Rattle.jz_tree.specs.declared.stmt.Lval.{Lval}
use Rattle.jz_operations.specs.declared.operation.Condition.{Condition}
use Rattle.jz_operations.specs.declared.operation.Condition.TheVariants as condition
use Rattle.jz_operations.specs.declared.operation.Action.{Action}
use Rattle.jz_operations.specs.declared.operation.Action.TheVariants as action
use Rattle.jz_operations.specs.declared.operation.Flags.{Flags}
use Rattle.jz_operations.specs.declared.operation.Operation.{Operation}
use Rattle.jz_encodable.specs.Encodable.{CanEncode}
use Rattle.jz_change.specs.declared.change.Numbers.TheVariants.{These}
use Rattle.jz_homes.specs.Homes.{Homes}
use Rattle.jz_homes.specs.Operands.{Leaks, count_of, IsDest}
use Rattle.jz_row_operations.specs.Codes.{no_flag, plain, lasting}
use Rattle.jz_row_operations.specs.Lowering.{numbers_from, condition_shown}
use Rattle.jz_one_row.proofs.Operands.{one_dest}
use Rattle.jz_flag_rows.specs.Conditions.{IsFlagCondition, IsCondition, by_comparison, by_flag, condition_items, leaked}
use Rattle.jz_one_flag_row.proofs.OneStatement.{one_tested}
use Rattle.jz_operands.specs.declared.operands.Operand.{Operand}
use Rattle.jz_operands.specs.TableHomes.{leaks_of}
use Rattle.jz_operands.specs.Refusals.{FindsOr, NeverDest}
use Rattle.jz_operands.proofs.SumLemmas.{for_found}
use Rattle.jz_rows.specs.Rows.{nth_of, item_of, items_in, actions_in, Compares, NeverCompares}
use Rattle.jz_rows.specs.declared.comparing.Comparison.{Comparison}
use Rattle.jz_rows.specs.declared.row.Act.{Act}
use Rattle.jz_rows.specs.declared.row.Shown.{Shown}
use Rattle.jz_rows.proofs.FieldLemmas.{set_fields}
use Rattle.jz_pinned_rows.specs.declared.choosing.FlagTest.{FlagTest}
use Rattle.jz_pinned_rows.specs.Rows.{NeverFlag}
use Rattle.jz_pinned_rows.proofs.WideLemmas.{shown_one}
use Rattle.jz_instructions.specs.declared.testing.Held.{Held}
use Rattle.jz_instructions.specs.InnerRows.{compare_at, IsHeld, NeverHeld, IsByteRow, NeverByteRow}

-- ---- conditions
pub comparison_held : (home : Homes) (e : Expr) (c : Comparison) (s : Shown) (n m : ℕ) → Compares home e c → item_of s ≡ condition_shown (leaks_of c.first) (leaks_of c.second) 0 → n ≡ count_of (leaks_of c.first) → m ≡ count_of (leaks_of c.second)
    → IsHeld home e (record { before = Some (record { action = c.action; shown = s }); condition = condition.Cc c.cond; leaked = n + m })
comparison_held home e c s n m h shown f g = record {
  leaks = (leaks_of c.first, leaks_of c.second) ∷ [];
  is = λ at. by_comparison (h at);
  shown = ap (λ i. i ∷ []) shown;
  count = λ i. f i + g i;
}

pub flag_held : (home : Homes) (e : Expr) (t : FlagTest) → IsFlagCondition home e t.variable t.denied → IsHeld home e (record { before = None; condition = condition.Flag t.variable t.denied; leaked = 0 })
flag_held home e t h = record { leaks = []; is = λ at. by_flag h; shown = refl; count = refl }

neither : (home : Homes) (e : Expr) (at : Span) (o : Option Operation) (c : Condition) (ps : List (Leaks × Leaks)) → NeverCompares home e → NeverFlag home e → IsCondition home at e o c ps → ⊥
neither home e at o c ps none other (by_comparison {o = u} {c = k} {p} {q} f) = none at u k p q f
neither home e at o c ps none other (by_flag {n} {d} f) = other n d f

pub flag_finds : (home : Homes) (e : Expr) (o : Option Held) → NeverCompares home e → FindsOr o (IsHeld home e) (NeverFlag home e) → FindsOr o (IsHeld home e) (NeverHeld home e)
flag_finds home e o none h = for_found o (λ r row. row) (λ other at u c ps f. neither home e at u c ps none other f) h

-- ---- the row
module _ (home : Homes) (d : Lval) (e : Expr) where
  pub no_byte_dest : NeverDest home S8 d → NeverByteRow home d e
  no_byte_dest none at to r o c ps dest f can = none to r dest (set_fields c to can)

  pub no_byte_condition : NeverHeld home e → NeverByteRow home d e
  no_byte_condition none at to r o c ps dest f can = none at o c ps f

  module _ (t : Held) (to : Operand) (held : IsHeld home e t) (found : IsDest home S8 d to.arg (leaks_of to.leaks)) where
    pub no_byte_code : (CanEncode (action.Set t.condition to.arg) → ⊥) → NeverByteRow home d e
    no_byte_code none at b r o c ps dest f can =
        let s = one_tested home at e o (compare_at at t.before) c t.condition ps held.leaks f (held.is at) in
        let k = one_dest home S8 d b to.arg r (leaks_of to.leaks) dest found in
        none (subst CanEncode (λ i. action.Set (s.cond i) (k.0 i)) can)

    made : (b : Option Act) (at : Span) (g : Action) → lasting at no_flag (actions_in b ++ ([] ++ (g ∷ []))) ≡ option_to_list (compare_at at b) ++ (plain at g ∷ [])
    made None at g = refl
    made (Some a) at g = refl

    pub byte_is : (s : Option ℕ) (fl : Flags) → CanEncode (action.Set t.condition to.arg) → nth_of s ≡ numbers_from (leaks_of to.leaks) t.leaked → fl ≡ no_flag → IsByteRow home d e (record {
      acts = record { before = t.before; between = None; last = record { action = action.Set t.condition to.arg; shown = record { first = s; second = None } }; divided = None };
      flags = fl;
    })
    byte_is s fl can is flags = record {
      to = to.arg;
      shows = leaks_of to.leaks;
      condition = t.condition;
      before = t.before;
      leaks = held.leaks;
      dest = found;
      is = held.is;
      can = can;
      flags = flags;
      operations = λ at. ap (λ f. lasting at f (actions_in t.before ++ ([] ++ (action.Set t.condition to.arg ∷ [])))) flags ∙ made t.before at (action.Set t.condition to.arg);
      shown =
          ap (λ i. items_in t.before ++ (i ∷ [])) (shown_one s (numbers_from (leaks_of to.leaks) t.leaked) is) ∙ ap (λ l. l ++ (These (numbers_from (leaks_of to.leaks) t.leaked) ∷ [])) held.shown
          ∙ ap (λ n. condition_items held.leaks 0 ++ (These (numbers_from (leaks_of to.leaks) n) ∷ [])) held.count;
    }
