-- The events of forms whose numbers are those of another item.
use Rattle.std.proofs.Common.{◌≡◌, ℕ, ◌+◌, ◌*◌, ◌<◌, ◌^◌, List, [], ◌∷◌, ◌++◌, refl, sym, ap, ◌∙◌, subst, arith, ℤ, pos, negsuc, ◌+ℤ◌, ◌-ℤ◌, ◌*ℤ◌}
use Rattle.std.specs.Prelude.{map, slice_index_or, nat_lt}
use Rattle.std.specs.Int.{int_div_euclid}
use Rattle.std.proofs.lemmas.Bool.{cond_both}
use Rattle.std.proofs.lemmas.Int.{ints}
use Rattle.std.proofs.lemmas.List.{length-map, map-append}
use Rattle.std.proofs.lemmas.List.Elements.{All-append, All-map}
use Rattle.jz_words.specs.declared.size.Size.TheVariants.{S64}
use Rattle.jz_words.specs.Sizes.{modulus, signed}
use Rattle.jz_words.specs.Words.{residue}
use Rattle.jz_words.proofs.Residues.{divided_by_words}
use Rattle.jz_leak.specs.declared.event.Event.TheVariants as event
use Rattle.jz_leak.specs.declared.transformer.Form.{Form}
use Rattle.jz_leak.specs.declared.transformer.Form.TheVariants as form
use Rattle.jz_leak.specs.declared.transformer.Out.{Out}
use Rattle.jz_leak.specs.declared.transformer.Out.TheVariants as out
use Rattle.jz_leak.specs.Applying.{number_of, event_of, events_for, HasNumbers, OutFits, OutsFit}
use Rattle.jz_change.specs.declared.change.Number.{Number}
use Rattle.jz_change.specs.declared.change.Number.TheVariants.{Fixed, Nth}
use Rattle.jz_change.specs.declared.change.Numbers.{Numbers}
use Rattle.jz_change.specs.declared.change.Numbers.TheVariants.{Same, These}
use Rattle.jz_change.specs.Changes.{number_in, numbers_in}
use Rattle.jz_change.specs.Fitting.{HasNumber, HasThese}
use Rattle.jz_change.specs.Flattening.{form_of, indexed_form, form_by, out_by, outs_by}
use Rattle.jz_change.proofs.Operations.{number_at}

-- whole multiples of 2 ^ 64 do not count
around : (x y q : ℤ) → x ≡ y +ℤ (q *ℤ pos (2 ^ 64)) → residue S64 x ≡ residue S64 y
around (pos a) (pos b) (pos c) e = omega (arith, ints, e)
around (pos a) (pos b) (negsuc c) e = omega (arith, ints, e)
around (pos a) (negsuc b) (pos c) e = omega (arith, ints, e)
around (pos a) (negsuc b) (negsuc c) e = omega (arith, ints, e)
around (negsuc a) (pos b) (pos c) e = omega (arith, ints, e)
around (negsuc a) (pos b) (negsuc c) e = omega (arith, ints, e)
around (negsuc a) (negsuc b) (pos c) e = omega (arith, ints, e)
around (negsuc a) (negsuc b) (negsuc c) e = omega (arith, ints, e)

-- an offset modulo 2 ^ 64
wrapped : (a : ℕ) (z : ℤ) → residue S64 (pos a +ℤ signed S64 (residue S64 z)) ≡ residue S64 (pos a +ℤ z)
unfolding signed
wrapped a z =
    let r = residue S64 z in let q = int_div_euclid z (pos (modulus S64)) in
    let e = divided_by_words S64 z in
    cond_both (nat_lt r (2 ^ 63)) (pos r) (pos r -ℤ pos (2 ^ 64)) (λ w. residue S64 (pos a +ℤ w) ≡ residue S64 (pos a +ℤ z))
    (λ t. sym (around (pos a +ℤ z) (pos a +ℤ pos r) q (omega (arith, ints, e))))
    (λ f. sym (around (pos a +ℤ z) (pos a +ℤ (pos r -ℤ pos (2 ^ 64))) (q +ℤ pos 1) (omega (arith, ints, e))))

module _ (rsp : ℕ) (ns : List ℕ) where
  form_so : (x : Number) → number_of ns rsp (form_of x) ≡ number_in ns x
  form_so (Fixed n) = refl
  form_so (Nth i) = refl

  indexed_so : (o : ℤ) (f : ℕ) (x : Number) → number_of ns rsp (indexed_form o f x) ≡ residue S64 (pos (rsp + f * number_in ns x) +ℤ o)
  indexed_so o f (Fixed n) = wrapped rsp (pos (f * n) +ℤ o) ∙ ap (residue S64) (omega (arith, ints))
  indexed_so o f (Nth i) = refl

  number_so : (xs : List Number) (y : Form) → number_of ns rsp (form_by xs y) ≡ number_of (map (number_in ns) xs) rsp y
  number_so xs (form.Num n) = refl
  number_so xs (form.Leaked i) = form_so (slice_index_or xs i (Fixed 0)) ∙ number_at xs ns i
  number_so xs (form.Frame o) = refl
  number_so xs (form.Indexed o f i) = indexed_so o f (slice_index_or xs i (Fixed 0)) ∙ ap (λ n. residue S64 (pos (rsp + f * n) +ℤ o)) (number_at xs ns i)

  event_so : (xs : List Number) (o : Out) → event_of ns rsp (out_by xs o) ≡ event_of (map (number_in ns) xs) rsp o
  event_so xs (out.Branch taken) = refl
  event_so xs (out.Addr a) = ap event.Addr (number_so xs a)
  event_so xs (out.Div h l d) = let e = number_so xs h in let f = number_so xs l in let g = number_so xs d in rw (e, f, g)

  list_so : (xs : List Number) (os : List Out) → events_for ns rsp (map (out_by xs) os) ≡ events_for (map (number_in ns) xs) rsp os
  list_so xs [] = refl
  list_so xs (o ∷ os) = let e = event_so xs o in let h = list_so xs os in rw (e, h)

  pub events_sub : (i : Numbers) (os : List Out) → events_for ns rsp (outs_by i os) ≡ events_for (numbers_in i ns) rsp os
  events_sub Same os = refl
  events_sub (These xs) os = list_so xs os

  -- and those of other outs before them
  pub events_both : (os : List Out) (i : Numbers) (ps : List Out) → events_for ns rsp (os ++ outs_by i ps) ≡ events_for ns rsp os ++ events_for (numbers_in i ns) rsp ps
  events_both os i ps = map-append (event_of ns rsp) os (outs_by i ps) ∙ ap (λ x. events_for ns rsp os ++ x) (events_sub i ps)

  -- ---- the numbers that they name are there
  form_there : (x : Number) → HasNumber ns x → HasNumbers ns (form_of x)
  form_there (Fixed n) h = tt
  form_there (Nth i) h = h

  indexed_there : (o : ℤ) (f : ℕ) (x : Number) → HasNumber ns x → HasNumbers ns (indexed_form o f x)
  indexed_there o f (Fixed n) h = tt
  indexed_there o f (Nth i) h = h

  number_there : (xs : List Number) (y : Form) → HasThese ns (These xs) → HasNumbers (map (number_in ns) xs) y → HasNumbers ns (form_by xs y)
  number_there xs (form.Num n) t h = tt
  number_there xs (form.Leaked i) t h = form_there _ (t i (Fixed 0) (subst (λ n. i < n) (length-map xs (number_in ns)) h))
  number_there xs (form.Frame o) t h = tt
  number_there xs (form.Indexed o f i) t h = indexed_there o f _ (t i (Fixed 0) (subst (λ n. i < n) (length-map xs (number_in ns)) h))

  out_there : (xs : List Number) (o : Out) → HasThese ns (These xs) → OutFits (map (number_in ns) xs) o → OutFits ns (out_by xs o)
  out_there xs (out.Branch taken) t h = tt
  out_there xs (out.Addr a) t h = number_there xs a t h
  out_there xs (out.Div a b c) t h = (number_there xs a t h.0, number_there xs b t h.1, number_there xs c t h.2)

  pub outs_there : (i : Numbers) (os : List Out) → HasThese ns i → OutsFit (numbers_in i ns) os → OutsFit ns (outs_by i os)
  outs_there Same os t h = h
  outs_there (These xs) os t h = All-map (OutFits ns) (out_by xs) os (λ k d lt. out_there xs _ t (h k d lt))

  pub outs_both : (os : List Out) (i : Numbers) (ps : List Out) → OutsFit ns os → HasThese ns i → OutsFit (numbers_in i ns) ps → OutsFit ns (os ++ outs_by i ps)
  outs_both os i ps g t h = All-append (OutFits ns) os (outs_by i ps) g (outs_there i ps t h)
