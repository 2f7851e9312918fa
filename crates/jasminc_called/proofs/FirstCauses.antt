-- Which cause is the first, and when none stands.
use Rattle.std.proofs.Common.{◌≡◌, ℕ, ◌<◌, ◌≤◌, List, length, arith, None, Some, refl}
use Rattle.jz_tree.specs.declared.program.Fun.{Fun}
use Rattle.jz_tree.specs.declared.program.Program.{Program}
use Rattle.jz_annotations.specs.declared.precondition.Pre.{Pre}
use Rattle.jz_items.specs.declared.item.Item.{Item}
use Rattle.jasminc_source.specs.declared.unread.Unread as source
use Rattle.jasminc_source.specs.declared.unread.Unread.TheVariants as unread
use Rattle.jasminc_source.specs.Texts.{TypesAs}
use Rattle.jasminc_source.specs.Unreadable.{IsUnread, unread_stage}
use Rattle.jasminc_source.specs.Exports.{export_named}
use Rattle.jasminc_source.proofs.Causing.{types_as_read, unread_early}
use Rattle.jasminc_calls.specs.declared.fitting.Unfit.{Unfit}
use Rattle.jasminc_calls.specs.declared.fitting.Unfit.TheVariants as misfit
use Rattle.jasminc_calls.specs.Calls.{AllHold, BreaksFirst}
use Rattle.jasminc_calls.specs.Fitting.{IsUnfit}
use Rattle.jasminc_interp.specs.Causes.{HasNoExport}
use Rattle.jasminc_interp.proofs.FirstCauses.{has_function, has_items, all_met}
use Rattle.jasminc_compile.specs.declared.outcome.Unmade.TheVariants as unmade
use Rattle.jasminc_compile.specs.declared.refused.Refused as making
use Rattle.jasminc_compile.specs.declared.refused.Refused.TheVariants as made
use Rattle.jasminc_compile.specs.Causes as makings
use Rattle.jasminc_compile.specs.Answers as compiling
use Rattle.jasminc_compile.proofs.FirstCauses.{reading_first}
use Rattle.jasminc_called.specs.declared.refused.Refused.{Refused}
use Rattle.jasminc_called.specs.declared.refused.Refused.TheVariants.{Compile, NoFunction, Items, Unmet}
use Rattle.jasminc_called.specs.Causes.{Clear, IsFirstCause}
use Rattle.jasminc_called.specs.Answers.{all_stages}
use Rattle.jasminc_called.specs.Calls.{refused_by}

-- what is compiled comes before the items
early : (r : making.Refused) → makings.stage_of r < 10
early (made.Unread (unread.Lex fault)) = omega arith
early (made.Unread (unread.Parse fault)) = omega arith
early (made.Unread (unread.Typing fault)) = omega arith
early (made.Limit l) = omega arith
early (made.Alarm a) = omega arith
early (made.Making (unmade.Frame name)) = omega arith
early (made.Making (unmade.NoPlace w)) = omega arith

module _ (text fun : List ℕ) (items : List Item) where
  -- what excludes causes of compiling, and where it has to that no function has the name
  lifted : (n : ℕ) → n ≤ 10 → ((name : List ℕ) → 5 < n → HasNoExport text fun name → ⊥) → makings.Clear text n → Clear text fun items n
  lifted n few named clear (Compile r) lt c = clear r lt c
  lifted n few named clear (NoFunction name) lt c = named name lt c
  lifted n few named clear Items lt c = absurd (omega (arith, few, lt))
  lifted n few named clear (Unmet pre) lt c = absurd (omega (arith, few, lt))

  -- ---- a text without a typed program
  pub reading_too : (u : source.Unread) → IsUnread text u → IsFirstCause text fun items (Compile (made.Unread u))
  reading_too u c =
      let h = reading_first text u c in
      let soon = unread_early u in
      record { cause = h.cause; first = lifted (unread_stage u) (omega (arith, soon)) (λ name lt k. absurd (omega (arith, soon, lt))) h.first }

  -- ---- a typed text
  module _ (p : Program) (t : TypesAs text p) where
    before_names : makings.Clear text 5
    before_names (made.Unread u) lt c = types_as_read text p t u c
    before_names (made.Limit l) lt c = absurd (omega (arith, lt))
    before_names (made.Alarm a) lt c = absurd (omega (arith, lt))
    before_names (made.Making (unmade.Frame name)) lt c = absurd (omega (arith, lt))
    before_names (made.Making (unmade.NoPlace w)) lt c = absurd (omega (arith, lt))

    pub function_first : export_named fun p.funs ≡ None → IsFirstCause text fun items (NoFunction fun)
    function_first none = record {
      cause = record { program = p; types = t; none = none; named = refl };
      first = lifted 5 (omega arith) (λ name lt c. absurd (omega (arith, lt))) before_names;
    }

    -- ---- with the function
    module _ (f : Fun) (found : export_named fun p.funs ≡ Some f) where
      pub making_too : (r : making.Refused) → makings.IsFirstCause text r → IsFirstCause text fun items (Compile r)
      making_too r h =
          let soon = early r in
          record { cause = h.cause; first = lifted (makings.stage_of r) (omega (arith, soon)) (λ name lt c. has_function text fun items p t f found name c) h.first }

      pub clear_too : makings.Clear text compiling.all_stages → Clear text fun items 10
      clear_too clear = lifted 10 (omega arith) (λ name lt c. has_function text fun items p t f found name c) clear

      -- ---- where all is made
      module _ (clear : Clear text fun items 10) where
        items_first : (length items ≡ length f.params → ⊥) → IsFirstCause text fun items Items
        items_first differ = record { cause = record { program = p; types = t; function = f; found = found; differ = differ }; first = clear }

        before_met : length items ≡ length f.params → Clear text fun items 11
        before_met many (Compile r) lt c = clear (Compile r) (early r) c
        before_met many (NoFunction name) lt c = clear (NoFunction name) (omega arith) c
        before_met many Items lt c = has_items text fun items p t f found many c
        before_met many (Unmet pre) lt c = absurd (omega (arith, lt))

        unmet_first : (pre : Pre) → length items ≡ length f.params → BreaksFirst f items pre → IsFirstCause text fun items (Unmet pre)
        unmet_first pre many breaks = record {
          cause = record { program = p; types = t; function = f; found = found; many = many; breaks = breaks };
          first = before_met many;
        }

        pub unfit_first : (u : Unfit) → IsUnfit f items u → IsFirstCause text fun items (refused_by u)
        unfit_first misfit.Items d = items_first d
        unfit_first (misfit.Unmet pre) d = unmet_first pre d.0 d.1

        pub all_clear : length items ≡ length f.params → AllHold f items → Clear text fun items all_stages
        all_clear many held (Compile r) lt c = clear (Compile r) (early r) c
        all_clear many held (NoFunction name) lt c = clear (NoFunction name) (omega arith) c
        all_clear many held Items lt c = has_items text fun items p t f found many c
        all_clear many held (Unmet pre) lt c = all_met text fun items p t f found held pre c
