-- The preconditions that are listed are those that are declared.
use Rattle.std.proofs.Common.{◌≡◌, ◌↔◌, ℕ, ◌<◌, List, [], ◌∷◌, ◌++◌, map, All, Option, Some, None, refl, sym, ap, ◌∙◌, subst, if◌then◌else◌}
use Rattle.std.specs.Prelude.{IsSome}
use Rattle.std.specs.List.{AllZip}
use Rattle.std.specs.Str.{bytes_eq}
use Rattle.std.proofs.lemmas.List.{map-append}
use Rattle.std.proofs.lemmas.List.Elements.{All-map, All-weaker}
use Rattle.jz_data.proofs.Texts.{bytes_eq-sym}
use Rattle.jz_words.specs.Memory.{Memory}
use Rattle.x64_insn.specs.declared.types.Reg.{Reg}
use Rattle.jz_tree.specs.declared.program.Fun.{Fun}
use Rattle.jz_tree.specs.declared.program.Param.{Param}
use Rattle.jz_type_names.specs.Scopes.{text_of_param}
use Rattle.jz_annotations.specs.declared.precondition.Pre as stated
use Rattle.jz_annotations.specs.declared.precondition.Pre.TheVariants.{Region, Range, Align}
use Rattle.jz_preconditions.specs.Stating.{preconditions_of}
use Rattle.jz_preconditions.specs.Meeting as declared
use Rattle.jz_preconditions.specs.Meeting.{IsArgument, names_of}
use Rattle.jz_listing.specs.declared.compiled.Arg.{Arg}
use Rattle.jz_listing.specs.declared.compiled.Compiled.{Compiled}
use Rattle.jz_correct.specs.Registers.{argument_registers}
use Rattle.jz_correct.specs.Starts as printed
use Rattle.jz_compiled.specs.Lines.{AreArgumentLines, listed, listed_preconditions}
use Rattle.jz_compiled.proofs.KindLemmas.{name_is, word_values}
use Rattle.jz_compiled.proofs.Regions.{all_from_map, any_map, any_from_map}

-- ---- words
word_by : (a : Arg) (p : Param) (r : Reg) (w : ℕ) (n : List ℕ) (x y : Option ℕ) → a.name ≡ text_of_param p → x ≡ y → (if bytes_eq a.name n then Some w else x) ≡ (if bytes_eq n (text_of_param p) then Some w else y)
word_by a p r w n x y e h =
    ap (λ b. if b then Some w else x) (ap (λ m. bytes_eq m n) e ∙ bytes_eq-sym (text_of_param p) n)
    ∙ ap (λ o. if bytes_eq n (text_of_param p) then Some w else o) h

pub word_same : (rs : List Reg) (ps : List Param) (args : List Arg) → AreArgumentLines rs ps args → (words : List ℕ) (n : List ℕ) → printed.word_named args words n ≡ declared.word_named (map text_of_param ps) words n
word_same rs [] [] h words n = refl
word_same [] [] (a ∷ args) h words n = absurd h
word_same (r ∷ rs) [] (a ∷ args) h words n = absurd h
word_same [] (p ∷ ps) args h words n = absurd h
word_same (r ∷ rs) (p ∷ ps) [] h words n = absurd h
word_same (r ∷ rs) (p ∷ ps) (a ∷ args) h [] n = refl
word_same (r ∷ rs) (p ∷ ps) (a ∷ args) h (w ∷ words) n =
    word_by a p r w n (printed.word_named args words n) (declared.word_named (map text_of_param ps) words n) (h.0.0 ∙ name_is p.var) (word_same rs ps args h.1 words n)

-- ---- sizes
pub sizes_printed : (rs : List Reg) (ps : List Param) (args : List Arg) → AreArgumentLines rs ps args → (words : List ℕ) → AllZip IsArgument ps words → printed.AreOfSizes args words
sizes_printed rs [] [] h [] s = tt
sizes_printed rs [] [] h (w ∷ words) s = absurd s
sizes_printed [] [] (a ∷ args) h words s = absurd h
sizes_printed (r ∷ rs) [] (a ∷ args) h words s = absurd h
sizes_printed [] (p ∷ ps) args h words s = absurd h
sizes_printed (r ∷ rs) (p ∷ ps) [] h words s = absurd h
sizes_printed (r ∷ rs) (p ∷ ps) (a ∷ args) h [] s = absurd s
sizes_printed (r ∷ rs) (p ∷ ps) (a ∷ args) h (w ∷ words) s = (subst (λ m. w < m) (word_values p.var a.size h.0.1) s.0, sizes_printed rs ps args h.1 words s.1)

sizes_declared : (rs : List Reg) (ps : List Param) (args : List Arg) → AreArgumentLines rs ps args → (words : List ℕ) → printed.AreOfSizes args words → AllZip IsArgument ps words
sizes_declared rs [] [] h [] s = tt
sizes_declared rs [] [] h (w ∷ words) s = absurd s
sizes_declared [] [] (a ∷ args) h words s = absurd h
sizes_declared (r ∷ rs) [] (a ∷ args) h words s = absurd h
sizes_declared [] (p ∷ ps) args h words s = absurd h
sizes_declared (r ∷ rs) (p ∷ ps) [] h words s = absurd h
sizes_declared (r ∷ rs) (p ∷ ps) (a ∷ args) h [] s = absurd s
sizes_declared (r ∷ rs) (p ∷ ps) (a ∷ args) h (w ∷ words) s = (subst (λ m. w < m) (sym (word_values p.var a.size h.0.1)) s.0, sizes_declared rs ps args h.1 words s.1)

-- ---- the same words by name
module _ (args : List Arg) (names : List (List ℕ)) (words : List ℕ) (same : (n : List ℕ) → printed.word_named args words n ≡ declared.word_named names words n) where
  named_same : (v : Option (List ℕ)) → printed.word_if_named args words v ≡ declared.word_if_named names words v
  named_same None = refl
  named_same (Some n) = same n

  -- ---- what is asked
  between_declared : (o : Option ℕ) (low high : ℕ) → printed.IsBetween o low high → declared.IsBetween o low high
  between_declared None low high h = h
  between_declared (Some w) low high h = h

  between_printed : (o : Option ℕ) (low high : ℕ) → declared.IsBetween o low high → printed.IsBetween o low high
  between_printed None low high h = h
  between_printed (Some w) low high h = h

  multiple_declared : (o : Option ℕ) (m : ℕ) → printed.IsMultiple o m → declared.IsMultiple o m
  multiple_declared None m h = h
  multiple_declared (Some w) m h = h

  multiple_printed : (o : Option ℕ) (m : ℕ) → declared.IsMultiple o m → printed.IsMultiple o m
  multiple_printed None m h = h
  multiple_printed (Some w) m h = h

  is_named_declared : (v : Option (List ℕ)) → printed.IsNamed args words v → declared.IsNamed names words v
  is_named_declared None h = tt
  is_named_declared (Some n) h = subst IsSome (same n) h

  is_named_printed : (v : Option (List ℕ)) → declared.IsNamed names words v → printed.IsNamed args words v
  is_named_printed None h = tt
  is_named_printed (Some n) h = subst IsSome (sym (same n)) h

  met_declared : (p : stated.Pre) → printed.IsMet args words (listed p) → declared.IsMet names words p
  met_declared (Region p factor v constant) h = (subst IsSome (same p) h.0, is_named_declared v h.1)
  met_declared (Range x low high) h = subst (λ o. declared.IsBetween o low high) (same x) (between_declared (printed.word_named args words x) low high h)
  met_declared (Align p m) h = subst (λ o. declared.IsMultiple o m) (same p) (multiple_declared (printed.word_named args words p) m h)

  met_printed : (p : stated.Pre) → declared.IsMet names words p → printed.IsMet args words (listed p)
  met_printed (Region p factor v constant) h = (subst IsSome (sym (same p)) h.0, is_named_printed v h.1)
  met_printed (Range x low high) h = between_printed (printed.word_named args words x) low high (subst (λ o. declared.IsBetween o low high) (sym (same x)) h)
  met_printed (Align p m) h = multiple_printed (printed.word_named args words p) m (subst (λ o. declared.IsMultiple o m) (sym (same p)) h)

  -- ---- regions
  abbrev pub range_as : declared.ByteRange → printed.ByteRange
  range_as r = record { from = r.from; count = r.count }

  extent_same : (factor : ℕ) (o : Option ℕ) (constant : ℕ) → printed.extent factor o constant ≡ declared.extent factor o constant
  extent_same factor None constant = refl
  extent_same factor (Some v) constant = refl

  at_same : (o : Option ℕ) (k : ℕ) → printed.region_at o k ≡ map range_as (declared.region_at o k)
  at_same None k = refl
  at_same (Some from) k = refl

  region_same : (p : stated.Pre) → printed.region_of args words (listed p) ≡ map range_as (declared.region_of names words p)
  region_same (Region p factor v constant) =
      ap (λ o. printed.region_at o (printed.extent factor (printed.word_if_named args words v) constant)) (same p)
      ∙ ap (λ o. printed.region_at (declared.word_named names words p) (printed.extent factor o constant)) (named_same v)
      ∙ ap (λ k. printed.region_at (declared.word_named names words p) k) (extent_same factor (declared.word_if_named names words v) constant)
      ∙ at_same (declared.word_named names words p) (declared.extent factor (declared.word_if_named names words v) constant)
  region_same (Range x low high) = refl
  region_same (Align p m) = refl

  pub regions_same : (ps : List stated.Pre) → printed.regions_of args (map listed ps) words ≡ map range_as (declared.regions_of names ps words)
  regions_same [] = refl
  regions_same (p ∷ ps) =
      ap (λ l. l ++ printed.regions_of args (map listed ps) words) (region_same p)
      ∙ ap (λ l. map range_as (declared.region_of names words p) ++ l) (regions_same ps)
      ∙ sym (map-append range_as (declared.region_of names words p) (declared.regions_of names ps words))

-- ---- inputs
module _ (f : Fun) (c : Compiled) (words : List ℕ) (memory : Memory) (lines : AreArgumentLines argument_registers f.params c.args) (pre : c.pre ≡ listed_preconditions f) where
  pub same : (n : List ℕ) → printed.word_named c.args words n ≡ declared.word_named (names_of f) words n
  same n = word_same argument_registers f.params c.args lines words n

  abbrev pub ranges : List declared.ByteRange
  ranges = declared.regions_for f words

  pub regions_are : printed.regions_for c words ≡ map (range_as c.args (names_of f) words same) ranges
  regions_are = ap (λ ps. printed.regions_of c.args ps words) pre ∙ regions_same c.args (names_of f) words same (preconditions_of f)

  pub in_printed : (q : ℕ) → declared.IsInOne ranges q → printed.IsInOne (printed.regions_for c words) q
  in_printed q h =
      subst (λ rs. printed.IsInOne rs q) (sym regions_are)
      (any_map (λ r. declared.IsIn r q) (λ r. printed.IsIn r q) (range_as c.args (names_of f) words same) (λ r i. i) ranges h)

  pub in_declared : (q : ℕ) → printed.IsInOne (printed.regions_for c words) q → declared.IsInOne ranges q
  in_declared q h =
      any_from_map (λ r. declared.IsIn r q) (λ r. printed.IsIn r q) (range_as c.args (names_of f) words same) (λ r i. i) ranges
      (subst (λ rs. printed.IsInOne rs q) regions_are h)

  pub meets_printed : declared.MeetsPreconditions f words memory → printed.MeetsPreconditions c words memory
  meets_printed h = record {
    sizes = sizes_printed argument_registers f.params c.args lines words h.sizes;
    met = subst (All (printed.IsMet c.args words)) (sym pre)
        (All-map (printed.IsMet c.args words) listed (preconditions_of f)
        (All-weaker (declared.IsMet (names_of f) words) (λ p. printed.IsMet c.args words (listed p)) (λ p m. met_printed c.args (names_of f) words same p m) (preconditions_of f) h.met));
    below_end = subst (All printed.IsBelowEnd) (sym regions_are) (All-map printed.IsBelowEnd (range_as c.args (names_of f) words same) ranges h.below_end);
    covered = λ q. (λ v. in_printed q ((h.covered q).0 v), λ i. (h.covered q).1 (in_declared q i));
    bytes = h.bytes;
  }

  pub meets_declared : printed.MeetsPreconditions c words memory → declared.MeetsPreconditions f words memory
  meets_declared h = record {
    sizes = sizes_declared argument_registers f.params c.args lines words h.sizes;
    met =
        All-weaker (λ p. printed.IsMet c.args words (listed p)) (declared.IsMet (names_of f) words) (λ p m. met_declared c.args (names_of f) words same p m) (preconditions_of f)
        (all_from_map (printed.IsMet c.args words) listed (preconditions_of f) (subst (All (printed.IsMet c.args words)) pre h.met));
    below_end = all_from_map printed.IsBelowEnd (range_as c.args (names_of f) words same) ranges (subst (All printed.IsBelowEnd) regions_are h.below_end);
    covered = λ q. (λ v. in_declared q ((h.covered q).0 v), λ i. (h.covered q).1 (in_printed q i));
    bytes = h.bytes;
  }

pub meets : (f : Fun) (c : Compiled) (words : List ℕ) (memory : Memory) → AreArgumentLines argument_registers f.params c.args → c.pre ≡ listed_preconditions f
    → declared.MeetsPreconditions f words memory ↔ printed.MeetsPreconditions c words memory
meets f c words memory lines pre = (meets_printed f c words memory lines pre, meets_declared f c words memory lines pre)
