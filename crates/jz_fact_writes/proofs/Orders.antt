-- Left sides one after another.
use Rattle.std.proofs.Common.{◌≡◌, ℕ, zero, suc, ◌+◌, ◌-◌, ◌<◌, ◌≤◌, List, [], ◌∷◌, drop, length, get_or, Bool, false, refl, ap, sym, ◌∙◌, subst, arith, rules}
use Rattle.std.specs.Prelude.{◌==◌, if◌then◌else◌}
use Rattle.std.proofs.lemmas.List.{at_drop_more}
use Rattle.std.proofs.Math.ListN.{drop_of_length-le}
use Rattle.x64_insn.specs.Size.{Size}
use Rattle.jz_tree.specs.declared.stmt.Lval.{Lval}
use Rattle.jz_terms.specs.Terms.{Term}
use Rattle.jz_facts.specs.Facts.{Facts}
use Rattle.jz_facts.specs.Holding as holding
use Rattle.jz_facts.specs.Holding.{some_value, the_word, written, all_written, results, of_word}
use Rattle.jz_fact_sets.specs.declared.given.Given.{Given}
use Rattle.jz_fact_sets.specs.declared.knowledge.Knowledge.{Knowledge}
use Rattle.jz_fact_sets.specs.Kept.{given_of}
use Rattle.jz_fact_sets.specs.Renewing.{own}
use Rattle.jz_fact_writes.specs.declared.writes.Gets.TheVariants as gets
use Rattle.jz_fact_writes.specs.Writing.{StandsFor, at_place}

-- what a left side gets before these
abbrev first_of : Size → Term → List Lval → holding.Gets
first_of z t [] = the_word z t
first_of z t (d ∷ ds) = some_value

not_one : (n : ℕ) → (suc (suc n) == 1) ≡ false
not_one n = grind (arith, rules)

rest_length : (ds : List Lval) (i : ℕ) → i ≤ length ds → length (drop i ds) ≡ length ds - i
rest_length [] zero l = refl
rest_length [] (suc i) l = absurd (omega (arith, l))
rest_length (d ∷ ds) zero l = omega arith
rest_length (d ∷ ds) (suc i) l = let m : i ≤ length ds = omega (arith, l) in rest_length ds i m ∙ (let h : length ds - i ≡ suc (length ds) - suc i = omega arith in h)

module _ (g : Given) (s : Facts) (z : Size) (t : Term) (k : Knowledge) (known : own g k ≡ of_word (given_of g) s z t) where
  stands : (d : Lval) (ds : List Lval) → StandsFor g s (at_place (length (d ∷ ds)) k) (first_of z t ds)
  stands d [] = known
  stands d (e ∷ ds) = subst (λ (b : Bool). StandsFor g s (if b then gets.Word k else gets.Value) some_value) (sym (not_one (length ds))) tt

  next : (d : Lval) (ds : List Lval) (x : Facts) → all_written (given_of g) s (d ∷ ds) (results z t (d ∷ ds)) x ≡ all_written (given_of g) s ds (results z t ds) (written (given_of g) s d (first_of z t ds) x)
  next d [] x = refl
  next d (e ∷ ds) x = refl

  -- one more
  pub write_more : (to : List Lval) (i : ℕ) (d : Lval) (old new all : Facts) → i < length to → d ≡ get_or to i d
      → ((v : holding.Gets) → StandsFor g s (at_place (length to - i) k) v → new ≡ written (given_of g) s d v old)
      → all_written (given_of g) s (drop i to) (results z t (drop i to)) old ≡ all → all_written (given_of g) s (drop (i + 1) to) (results z t (drop (i + 1) to)) new ≡ all
  write_more to i d old new all l e made before =
      let rest = drop (i + 1) to in
      let m : i ≤ length to = omega (arith, l) in
      let here : drop i to ≡ d ∷ rest = at_drop_more (λ xs. xs) to i d l ∙ ap (λ (y : Lval). y ∷ rest) (sym e) in
      let count : length to - i ≡ length (d ∷ rest) = sym (rest_length to i m) ∙ ap (λ (xs : List Lval). length xs) here in
      ap (all_written (given_of g) s rest (results z t rest)) (made (first_of z t rest) (subst (λ n. StandsFor g s (at_place n k) (first_of z t rest)) (sym count) (stands d rest)))
      ∙ sym (next d rest old)
      ∙ sym (ap (λ xs. all_written (given_of g) s xs (results z t xs) old) here)
      ∙ before

  pub write_end : (to : List Lval) (i : ℕ) (new all : Facts) → length to ≤ i → all_written (given_of g) s (drop i to) (results z t (drop i to)) new ≡ all → new ≡ all
  write_end to i new all l e = sym (ap (λ xs. all_written (given_of g) s xs (results z t xs) new) (drop_of_length-le to l)) ∙ e
