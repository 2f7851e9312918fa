-- Names and numbers of one change and then another.
use Rattle.std.proofs.Common.{ℕ, zero, suc, List, [], ◌∷◌, refl}
use Rattle.std.specs.Prelude.{All, slice_index_or}
use Rattle.std.proofs.lemmas.List.Elements.{All-head, All-tail, All-map}
use Rattle.jz_change.specs.declared.change.Number.{Number}
use Rattle.jz_change.specs.declared.change.Number.TheVariants.{Fixed, Nth}
use Rattle.jz_change.specs.declared.change.Numbers.{Numbers}
use Rattle.jz_change.specs.declared.change.Numbers.TheVariants.{Same, These}
use Rattle.jz_change.specs.Changes.{Change}
use Rattle.jz_change.specs.Composing.{number_by, numbers_by, compose_of}
use Rattle.jz_compiled.specs.Layout.{Name}
use Rattle.jz_case_names.specs.Items.{Items, IsBetween}
use Rattle.jz_case_names.proofs.Composition.{between_both}
use Rattle.jz_item_names.specs.Names.{IsLeaked, AreLeaked, NamesOf}
use Rattle.jz_item_names.proofs.Keys.{within}

pub number_at : (xs : List Number) (i : ℕ) → All IsLeaked xs → IsLeaked (slice_index_or xs i (Fixed 0))
number_at [] i h = refl
number_at (x ∷ xs) zero h = All-head IsLeaked x xs h
number_at (x ∷ xs) (suc i) h = number_at xs i (All-tail IsLeaked x xs h)

number_leaked : (xs : List Number) (y : Number) → All IsLeaked xs → IsLeaked y → IsLeaked (number_by xs y)
number_leaked xs (Fixed n) h g = g
number_leaked xs (Nth i) h g = number_at xs i h

pub leaked_both : (i j : Numbers) → AreLeaked i → AreLeaked j → AreLeaked (numbers_by i j)
leaked_both i Same h g = h
leaked_both Same (These ys) h g = g
leaked_both (These xs) (These ys) h g = All-map IsLeaked (number_by xs) ys (λ k d lt. number_leaked xs _ h (g k d lt))

pub names_both : (a b c : List Name) (i j : Numbers) → NamesOf a i b → NamesOf b j c → NamesOf a (numbers_by i j) c
names_both a b c i j h g = record { among = within a b c h.among g.among; leaked = leaked_both i j h.leaked g.leaked }

pub both_between : {X Y Z : Items (List Name)} {s t : Change} → IsBetween NamesOf X Y s → IsBetween NamesOf Y Z t → IsBetween NamesOf X Z (compose_of s t)
both_between f g = between_both NamesOf NamesOf NamesOf names_both f g
