-- Whether preconditions hold of items.
use Rattle.std.proofs.Common.{◌≡◌, ℕ, zero, suc, List, [], ◌∷◌, length, Option, Some, sym, ap, ◌∙◌, subst}
use Rattle.std.specs.Prelude.{All, slice_get}
use Rattle.std.proofs.lemmas.List.Elements.{All-head, All-tail}
use Rattle.jz_tree.specs.Memory.{Memory}
use Rattle.jz_tree.specs.declared.program.Fun.{Fun}
use Rattle.jz_tree.specs.declared.program.Program.{Program}
use Rattle.jz_annotations.specs.declared.precondition.Pre.{Pre}
use Rattle.jz_preconditions.specs.Stating.{preconditions_of}
use Rattle.jz_preconditions.specs.Meeting.{IsBelowEnd, MeetsPreconditions, regions_for}
use Rattle.jz_items.specs.declared.item.Item.{Item}
use Rattle.jz_inputs.specs.Held.{IsHeld, IsFirstUnmet}
use Rattle.jz_inputs.specs.Inputs.{HoldsRegions}
use Rattle.jz_inputs.proofs.Meets.{all_below, meets_by}
use Rattle.jz_meaning.specs.States.{Value}
use Rattle.jz_interp.specs.Outcomes.{Takes, AllFit}
use Rattle.jasminc_calls.specs.declared.calls.Called.{Called}
use Rattle.jasminc_calls.specs.Calls.{IsTypedExport, argument_words, AllHold, BreaksFirst}
use Rattle.jasminc_calls.specs.Fitting.{IsCallOf, Suits}
use Rattle.jasminc_calls.proofs.Parameters.{arguments_fit, are_arguments}

-- ---- one of several that all hold
held_at : {A : Type 0} (P : A → Type 0) (xs : List A) (i : ℕ) (x : A) → All P xs → slice_get xs i ≡ Some x → P x
held_at P [] i x h e = absurd (let no : ⊥ = cc in no)
held_at {A} P (y ∷ ys) zero x h e = let same : y ≡ x = cc in subst P same (All-head P y ys h)
held_at P (y ∷ ys) (suc i) x h e = held_at P ys i x (All-tail P y ys h) e

pub none_breaks : (f : Fun) (items : List Item) (pre : Pre) → AllHold f items → BreaksFirst f items pre → ⊥
none_breaks f items pre h b =
    b.first.unmet (held_at (IsHeld f (argument_words f items) items) (preconditions_of f) b.place b.first.pre h b.first.there)

-- ---- what a function is run on
module _ (f : Fun) (items : List Item) (c : Called) (called : IsCallOf f items c) where
  same_pre : (a b : Pre) (o : Option Pre) → o ≡ Some a → o ≡ Some b → a ≡ b
  same_pre a b o e k = cc

  -- the first precondition that does not hold
  pub breaks : (i : ℕ) (pre : Pre) → IsFirstUnmet f c.bits items c.pres i → slice_get c.pres i ≡ Some pre → BreaksFirst f items pre
  breaks i pre b at =
      let first = subst (λ (ps : List Pre). IsFirstUnmet f (argument_words f items) items ps i) called.pres (subst (λ ws. IsFirstUnmet f ws items c.pres i) called.bits b) in
      record {
        place = i;
        first = first;
        is = same_pre first.pre pre (slice_get (preconditions_of f) i) first.there (ap (λ ps. slice_get ps i) (sym called.pres) ∙ at);
      }

  -- or all hold
  pub suits : length items ≡ length f.params → All (IsHeld f c.bits items) c.pres → Suits f items c
  suits many k = record {
    call = called;
    many = many;
    held = subst (λ (ps : List Pre). All (IsHeld f (argument_words f items) items) ps) called.pres (subst (λ ws. All (IsHeld f ws items) c.pres) called.bits k);
  }

-- ---- what it is run on
module _ (f : Fun) (items : List Item) (c : Called) (s : Suits f items c) where
  -- the preconditions hold of it
  pub all_held : All (IsHeld f c.bits items) c.pres
  all_held =
      subst (λ ws. All (IsHeld f ws items) c.pres) (sym s.call.bits)
      (subst (λ (ps : List Pre). All (IsHeld f (argument_words f items) items) ps) (sym s.call.pres) s.held)

  pub below_end : All IsBelowEnd (regions_for f c.bits)
  below_end =
      subst (λ ws. All IsBelowEnd (regions_for f ws)) (sym s.call.bits) (all_below f (argument_words f items) items (preconditions_of f) s.held)

  -- a memory of its regions is one of those of the items
  pub holds_so : (m : Memory) → HoldsRegions f c.bits items c.pres m → HoldsRegions f (argument_words f items) items (preconditions_of f) m
  holds_so m h =
      subst (λ (ps : List Pre). HoldsRegions f (argument_words f items) items ps m) s.call.pres (subst (λ ws. HoldsRegions f ws items c.pres m) s.call.bits h)

  module _ (p : Program) (known : IsTypedExport p f) where
    pub meets_so : (m : Memory) → HoldsRegions f (argument_words f items) items (preconditions_of f) m → MeetsPreconditions f (argument_words f items) m
    meets_so m h = meets_by f (argument_words f items) items m (are_arguments p f items known s.many) s.held h

    -- it is what `interpret` takes
    pub takes_so : (place : ℕ) → slice_get p.funs place ≡ Some f → Takes p place c.words
    takes_so place there = record {
      function = f;
      there = there;
      input = record {
        of_program = known.among;
        arguments = subst (λ (vs : List Value). AllFit f.params vs) (sym s.call.words) (arguments_fit p f items known s.many);
      };
    }
