-- Parameters of which the same is known are asked the same.
use Rattle.std.proofs.Common.{◌≡◌, ℕ, not, ◌&&◌, ◌^◌, nat_lt, List, [], ◌∷◌, ◌++◌, flat_map, Option, Some, None, refl, ap, ap₂, ◌∙◌, if◌then◌else◌}
use Rattle.std.specs.Prelude.{is_some, unwrap_or}
use Rattle.std.specs.List.{list_all, filter_map}
use Rattle.std.specs.Str.{bytes_eq}
use Rattle.std.proofs.Math.Path.{fun_ext}
use Rattle.jz_tree.specs.Span.{Span}
use Rattle.jz_tree.specs.declared.program.Note.{Note}
use Rattle.jz_type_names.specs.Order.{unless}
use Rattle.jz_annotations.specs.declared.precondition.Pre.{Pre}
use Rattle.jz_annotations.specs.declared.precondition.Pre.TheVariants.{Region, Range, Align}
use Rattle.jz_annotations.specs.Sayings.{said}
use Rattle.jz_preconditions.specs.declared.stated.Stated.{Stated}
use Rattle.jz_preconditions.specs.Naming.{ParametersByName, known_by, is_pointer, values_of, names_pointer, names_region, names_parameters}
use Rattle.jz_preconditions.specs.Bounds.{range_of, multiple_of, least_by, least, least_or_zero, least_if_named, end_of}
use Rattle.jz_preconditions.specs.Stating.{stated_at, stated_by, stated_in, pres_of, bounds_of}
use Rattle.jz_preconditions.specs.Refusals.{shapeless_by, shapeless_places, empty_places, is_again, again_places, repeated_after, has_value, first_bound, valueless_places, is_far, far_places, far_in, refused_in}

module _ (ps qs : ParametersByName) (known : (n : List ℕ) → known_by (ps n) ≡ known_by (qs n)) (there : (n : List ℕ) → is_some (ps n) ≡ is_some (qs n)) where
  -- ---- names
  pointer_same : (n : List ℕ) → names_pointer ps n ≡ names_pointer qs n
  pointer_same n = ap is_pointer (known n)

  region_same : (p : List ℕ) (v : Option (List ℕ)) → names_region ps p v ≡ names_region qs p v
  region_same p None = pointer_same p
  region_same p (Some v) =
      ap (λ b. b && (names_pointer ps v && not (bytes_eq p v))) (pointer_same p)
      ∙ ap (λ b. names_pointer qs p && (b && not (bytes_eq p v))) (pointer_same v)

  named_same : (p : Pre) → names_parameters ps p ≡ names_parameters qs p
  named_same (Region p factor v constant) = region_same p v
  named_same (Range x low high) = there x
  named_same (Align p multiple) = there p

  at_same : (at : Span) (o : Option Pre) → stated_at ps at o ≡ stated_at qs at o
  at_same at None = refl
  at_same at (Some p) = ap (λ b. if b then Some (record { pre = p; span = at }) else None) (named_same p)

  by_same : (n : Note) → stated_by ps n ≡ stated_by qs n
  by_same n = at_same n.span (said n)

  pub stated_same : (notes : List Note) → stated_in ps notes ≡ stated_in qs notes
  stated_same notes = ap (λ f. filter_map f notes) (fun_ext by_same)

  shapeless_same : (notes : List Note) → flat_map (shapeless_places ps) notes ≡ flat_map (shapeless_places qs) notes
  shapeless_same notes = ap (λ f. flat_map f notes) (fun_ext (λ n. ap (shapeless_by n) (by_same n)))

  -- ---- what is asked already
  is_again_same : (before : List Stated) (p : Pre) → is_again (bounds_of ps before) p ≡ is_again (bounds_of qs before) p
  is_again_same before (Region p factor v constant) = refl
  is_again_same before (Range x low high) = refl
  is_again_same before (Align p multiple) = refl

  again_same : (before : List Stated) (s : Stated) → again_places (bounds_of ps before) s ≡ again_places (bounds_of qs before) s
  again_same before s = ap (λ b. unless (not b) s.span) (is_again_same before s.pre)

  repeated_same : (before ss : List Stated) → repeated_after ps before ss ≡ repeated_after qs before ss
  repeated_same before [] = refl
  repeated_same before (s ∷ ss) = ap₂ (λ a b. a ++ b) (again_same before s) (repeated_same (before ++ s ∷ []) ss)

  -- ---- values
  least_same : (ss : List Stated) (n : List ℕ) → least (bounds_of ps ss) n ≡ least (bounds_of qs ss) n
  least_same ss n = ap (λ k. least_by (values_of k) (range_of (pres_of ss) n) (unwrap_or (multiple_of (pres_of ss) n) 1)) (known n)

  value_same : (ss : List Stated) (p : Pre) → has_value (bounds_of ps ss) p ≡ has_value (bounds_of qs ss) p
  value_same ss (Region p factor v constant) = refl
  value_same ss (Range x low high) = ap is_some (least_same ss x)
  value_same ss (Align p multiple) = ap is_some (least_same ss p)

  first_same : (ss : List Stated) (p : Pre) → first_bound (bounds_of ps ss) p ≡ first_bound (bounds_of qs ss) p
  first_same ss (Region p factor v constant) = refl
  first_same ss (Range x low high) = refl
  first_same ss (Align p multiple) = refl

  valueless_same : (ss : List Stated) (s : Stated) → valueless_places (bounds_of ps ss) s ≡ valueless_places (bounds_of qs ss) s
  valueless_same ss s =
      ap (λ b. if b then [] else first_bound (bounds_of ps ss) s.pre) (value_same ss s.pre)
      ∙ ap (λ l. if has_value (bounds_of qs ss) s.pre then [] else l) (first_same ss s.pre)

  -- ---- ends
  zero_same : (ss : List Stated) (n : List ℕ) → least_or_zero (bounds_of ps ss) n ≡ least_or_zero (bounds_of qs ss) n
  zero_same ss n = ap (λ o. unwrap_or o 0) (least_same ss n)

  named_zero : (ss : List Stated) (v : Option (List ℕ)) → least_if_named (bounds_of ps ss) v ≡ least_if_named (bounds_of qs ss) v
  named_zero ss None = refl
  named_zero ss (Some n) = zero_same ss n

  is_far_same : (ss : List Stated) (p : Pre) → is_far (bounds_of ps ss) p ≡ is_far (bounds_of qs ss) p
  is_far_same ss (Region p factor v constant) =
      ap₂ (λ a b. nat_lt (2 ^ 63) (end_of a factor b constant)) (zero_same ss p) (named_zero ss v)
  is_far_same ss (Range x low high) = refl
  is_far_same ss (Align p multiple) = refl

  far_same : (ss : List Stated) (s : Stated) → far_places (bounds_of ps ss) s ≡ far_places (bounds_of qs ss) s
  far_same ss s = ap (λ b. unless (not b) s.span) (is_far_same ss s.pre)

  all_far_same : (ss : List Stated) → far_in (bounds_of ps ss) ss ≡ far_in (bounds_of qs ss) ss
  all_far_same ss =
      ap (λ f. if list_all f ss then flat_map (far_places (bounds_of ps ss)) ss else []) (fun_ext (λ s. value_same ss s.pre))
      ∙ ap (λ g. if list_all (λ s. has_value (bounds_of qs ss) s.pre) ss then flat_map g ss else []) (fun_ext (far_same ss))

  -- ---- all of them
  in_same : (notes : List Note) (ss : List Stated) → refused_in ps notes ss ≡ refused_in qs notes ss
  in_same notes ss =
      ap₂ (λ a b. a ++ b)
      (ap₂ (λ a b. a ++ b)
      (ap₂ (λ a b. (a ++ flat_map empty_places ss) ++ b) (shapeless_same notes) (repeated_same [] ss))
      (ap (λ f. flat_map f ss) (fun_ext (valueless_same ss))))
      (all_far_same ss)

  pub refused_same : (notes : List Note) → refused_in ps notes (stated_in ps notes) ≡ refused_in qs notes (stated_in qs notes)
  refused_same notes = in_same notes (stated_in ps notes) ∙ ap (refused_in qs notes) (stated_same notes)
