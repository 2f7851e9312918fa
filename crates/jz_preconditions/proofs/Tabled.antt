-- What the tables of parameters hold, one thing more.
use Rattle.std.proofs.Common.{◌≡◌, ℕ, ◌<◌, ◌+◌, List, [], ◌∷◌, ◌++◌, length, take, drop, get_or, flat_map, Option, Some, None, refl, sym, ap, ◌∙◌, subst, append-nil}
use Rattle.std.specs.Option.{option_or}
use Rattle.std.proofs.Math.Path.{fun_ext}
use Rattle.std.proofs.Math.Seq.{take-length}
use Rattle.std.proofs.lemmas.Grind.{flat_map-append}
use Rattle.std.proofs.lemmas.List.{map-append, take_more, drop_more}
use Rattle.jz_tree.specs.Span.{Span}
use Rattle.jz_type_names.specs.declared.tables.ByName.{ByName}
use Rattle.jz_type_names.specs.declared.tables.Places.{Places}
use Rattle.jz_type_names.specs.Order.{earlier, earliest}
use Rattle.jz_type_names.specs.Tables.{Adds, AddsItem, IsPlaces, item_in}
use Rattle.jz_type_names.proofs.Earliest.{earlier-assoc, earliest-append}
use Rattle.jz_annotations.specs.declared.precondition.Pre.{Pre}
use Rattle.jz_annotations.specs.declared.precondition.Pre.TheVariants.{Region, Range, Align}
use Rattle.jz_preconditions.specs.declared.least.Interval.{Interval}
use Rattle.jz_preconditions.specs.declared.stated.Stated.{Stated}
use Rattle.jz_preconditions.specs.declared.table.Table.{Table}
use Rattle.jz_preconditions.specs.Naming.{ParametersByName}
use Rattle.jz_preconditions.specs.Bounds.{first_of, range_in, multiple_in, range_of, multiple_of}
use Rattle.jz_preconditions.specs.Stating.{pres_of, bound_by, bound_names, bounds_of}
use Rattle.jz_preconditions.specs.Refusals.{again_places, repeated_after}
use Rattle.jz_preconditions.specs.InnerTables.{parameter_in, seen_in, IsTable, AddsStated}

-- ---- lists of one item more
or_none : {A : Type 0} (o : Option A) → option_or o None ≡ o
or_none None = refl
or_none (Some a) = refl

or_assoc : {A : Type 0} (a b c : Option A) → option_or a (option_or b c) ≡ option_or (option_or a b) c
or_assoc None b c = refl
or_assoc (Some x) b c = refl

first_more : {A B : Type 0} (f : A → Option B) (xs : List A) (x : A) → first_of f (xs ++ x ∷ []) ≡ option_or (first_of f xs) (f x)
first_more f [] x = or_none (f x)
first_more f (y ∷ ys) x = ap (option_or (f y)) (first_more f ys x) ∙ or_assoc (f y) (first_of f ys) (f x)

pub pres_more : (ss : List Stated) (s : Stated) → pres_of (ss ++ s ∷ []) ≡ pres_of ss ++ s.pre ∷ []
pres_more ss s = map-append (λ t. t.pre) ss (s ∷ [])

flat_more : {A B : Type 0} (f : A → List B) (xs : List A) (x : A) → flat_map f (xs ++ x ∷ []) ≡ flat_map f xs ++ f x
flat_more f xs x = flat_map-append f xs (x ∷ []) ∙ ap (λ z. flat_map f xs ++ z) (append-nil (f x))

range_more : (ss : List Stated) (s : Stated) (p : Pre) (n : List ℕ) → s.pre ≡ p → range_of (pres_of (ss ++ s ∷ [])) n ≡ option_or (range_of (pres_of ss) n) (range_in n p)
range_more ss s p n e = ap (first_of (range_in n)) (pres_more ss s) ∙ first_more (range_in n) (pres_of ss) s.pre ∙ ap (λ q. option_or (range_of (pres_of ss) n) (range_in n q)) e

multiple_more : (ss : List Stated) (s : Stated) (p : Pre) (n : List ℕ) → s.pre ≡ p → multiple_of (pres_of (ss ++ s ∷ [])) n ≡ option_or (multiple_of (pres_of ss) n) (multiple_in n p)
multiple_more ss s p n e = ap (first_of (multiple_in n)) (pres_more ss s) ∙ first_more (multiple_in n) (pres_of ss) s.pre ∙ ap (λ q. option_or (multiple_of (pres_of ss) n) (multiple_in n q)) e

bound_more : (ss : List Stated) (s : Stated) (p : Pre) → s.pre ≡ p → bound_names (ss ++ s ∷ []) ≡ bound_names ss ++ bound_by s.span p
bound_more ss s p e = flat_more (λ s. bound_by s.span s.pre) ss s ∙ ap (λ q. bound_names ss ++ bound_by s.span q) e

-- ---- one precondition more
module _ (old : Table) (s : Stated) (ps : ParametersByName) (ss : List Stated) (held : IsTable old ps ss) where
  pub region_added : (p : List ℕ) (factor : ℕ) (v : Option (List ℕ)) (constant : ℕ) → s.pre ≡ Region p factor v constant → IsTable old ps (ss ++ s ∷ [])
  region_added p factor v constant e = record {
    parameter = held.parameter;
    range = λ n. held.range n ∙ sym (range_more ss s (Region p factor v constant) n e ∙ or_none (range_of (pres_of ss) n));
    multiple = λ n. held.multiple n ∙ sym (multiple_more ss s (Region p factor v constant) n e ∙ or_none (multiple_of (pres_of ss) n));
    place = subst (IsPlaces old.places) (sym (bound_more ss s (Region p factor v constant) e ∙ append-nil (bound_names ss))) held.place;
  }

  pub range_added : (ranges : ByName Interval) (places : Places) (x : List ℕ) (low high : ℕ) → s.pre ≡ Range x low high
      → AddsItem old.ranges ranges x (record { low = low; high = high }) → Adds IsPlaces old.places places ((x, s.span) ∷ [])
      → IsTable (record old { ranges = ranges; places = places }) ps (ss ++ s ∷ [])
  range_added ranges places x low high e added put = record {
    parameter = held.parameter;
    range = λ n. ap (λ t. t n) added ∙ ap (λ o. option_or o (range_in n (Range x low high))) (held.range n) ∙ sym (range_more ss s (Range x low high) n e);
    multiple = λ n. held.multiple n ∙ sym (multiple_more ss s (Range x low high) n e ∙ or_none (multiple_of (pres_of ss) n));
    place = subst (IsPlaces places) (sym (bound_more ss s (Range x low high) e)) (put (bound_names ss) held.place);
  }

  pub align_added : (multiples : ByName ℕ) (places : Places) (p : List ℕ) (multiple : ℕ) → s.pre ≡ Align p multiple
      → AddsItem old.multiples multiples p multiple → Adds IsPlaces old.places places ((p, s.span) ∷ [])
      → IsTable (record old { multiples = multiples; places = places }) ps (ss ++ s ∷ [])
  align_added multiples places p multiple e added put = record {
    parameter = held.parameter;
    range = λ n. held.range n ∙ sym (range_more ss s (Align p multiple) n e ∙ or_none (range_of (pres_of ss) n));
    multiple = λ n. ap (λ t. t n) added ∙ ap (λ o. option_or o (multiple_in n (Align p multiple))) (held.multiple n) ∙ sym (multiple_more ss s (Align p multiple) n e);
    place = subst (IsPlaces places) (sym (bound_more ss s (Align p multiple) e)) (put (bound_names ss) held.place);
  }

-- ---- the table as what it stands for
pub seen_is : (t : Table) (ps : ParametersByName) (ss : List Stated) → IsTable t ps ss → seen_in t ≡ bounds_of ps ss
seen_is t ps ss h =
    let parameter : parameter_in t.parameters ≡ ps = fun_ext h.parameter in
    let range : item_in t.ranges ≡ range_of (pres_of ss) = fun_ext h.range in
    let multiple : item_in t.multiples ≡ multiple_of (pres_of ss) = fun_ext h.multiple in
    let place = fun_ext h.place.first in
    λ i. record { parameter = parameter i; range = range i; multiple = multiple i; place = place i }

-- ---- the loop over what is stated
pub table_next : (old new : Table) (ps : ParametersByName) (all : List Stated) (i : ℕ) (x : Stated) → i < length all → x ≡ get_or all i x
    → AddsStated old new x → IsTable old ps (take i all) → IsTable new ps (take (i + 1) all)
table_next old new ps all i x lt is added held =
    let more : take (i + 1) all ≡ take i all ++ x ∷ [] = take_more all i x lt ∙ ap (λ z. take i all ++ z ∷ []) (sym is) in
    subst (IsTable new ps) (sym more) (added ps (take i all) held)

pub repeated_next : (t : Table) (ps : ParametersByName) (all : List Stated) (i : ℕ) (x : Stated) (best own next whole : Option Span) → i < length all → x ≡ get_or all i x
    → IsTable t ps (take i all) → own ≡ earliest (again_places (seen_in t) x) → next ≡ earlier best own
    → earlier best (earliest (repeated_after ps (take i all) (drop i all))) ≡ whole
    → earlier next (earliest (repeated_after ps (take (i + 1) all) (drop (i + 1) all))) ≡ whole
repeated_next t ps all i x best own next whole lt is table found joined held =
    let rest : Option Span = earliest (repeated_after ps (take i all ++ x ∷ []) (drop (i + 1) all)) in
    let more : take (i + 1) all ≡ take i all ++ x ∷ [] = take_more all i x lt ∙ ap (λ z. take i all ++ z ∷ []) (sym is) in
    let cut : drop i all ≡ x ∷ drop (i + 1) all = drop_more all i x lt ∙ ap (λ y. y ∷ drop (i + 1) all) (sym is) in
    let here : List Span = again_places (bounds_of ps (take i all)) x in
    let mine : own ≡ earliest here = found ∙ ap (λ b. earliest (again_places b x)) (seen_is t ps (take i all) table) in
    let split : earliest (repeated_after ps (take i all) (drop i all)) ≡ earlier (earliest here) rest =
    ap (λ d. earliest (repeated_after ps (take i all) d)) cut ∙ earliest-append here (repeated_after ps (take i all ++ x ∷ []) (drop (i + 1) all)) in
    ap (λ z. earlier next (earliest (repeated_after ps z (drop (i + 1) all)))) more
    ∙ ap (λ y. earlier y rest) (joined ∙ ap (earlier best) mine)
    ∙ earlier-assoc best (earliest here) rest
    ∙ ap (earlier best) (sym split)
    ∙ held

pub table_whole : (t : Table) (ps : ParametersByName) (items all : List Stated) (i : ℕ) → i ≡ length items → items ≡ all → IsTable t ps (take i items) → IsTable t ps all
table_whole t ps items all i e is h = subst (IsTable t ps) (ap (λ n. take n items) e ∙ take-length items ∙ is) h
