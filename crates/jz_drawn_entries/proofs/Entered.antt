-- The labels at entry.
use Rattle.std.proofs.Common.{◌≡◌, ◌<◌, ◌≤◌, ℕ, suc, ◌+◌, Bool, true, false, List, [], ◌∷◌, ◌++◌, length, take, drop, get_or, if◌then◌else◌, refl, sym, ap, ◌∙◌, subst}
use Rattle.std.specs.Prelude.{not, ◌&&◌, ◌||◌}
use Rattle.std.specs.Str.{bytes_eq}
use Rattle.std.proofs.Math.Path.{fun_ext}
use Rattle.std.proofs.lemmas.List.{take_more, take_all, at_drop_more}
use Rattle.std.proofs.Math.ListN.{drop_of_length-le}
use Rattle.jz_tree.specs.declared.program.Note.{Note}
use Rattle.jz_tree.specs.declared.program.Param.{Param}
use Rattle.jz_meaning.specs.States.{Key, same_key}
use Rattle.jz_meaning.specs.Values.{key_of, ref_of}
use Rattle.jz_labels.specs.ConstantTime.{is_bare, has_label, is_labelled_public, secret_parameters, all_but, at_entry}
use Rattle.jz_layers.specs.Spots.{variable_key}
use Rattle.jz_secrets.specs.Graphs.{hidden, drawn, Arrow}
use Rattle.jz_drawing.specs.Drawings.{View, put_node, arrow_between, new_arrow}
use Rattle.jz_drawn_bodies.specs.Bodies.{entry_node, entry_view}
use Rattle.jz_drawn_labels.specs.declared.table.Table.{Table}
use Rattle.jz_drawn_labels.specs.Kept.{nodes_of}
use Rattle.jz_drawn_labels.proofs.Lefts.{same_view}
use Rattle.jz_drawn_entries.specs.InnerEntries.{HasSecrets}

-- ---- labels of a parameter, by what is left of its annotations

abbrev is_that : List ℕ → Note → Bool
is_that n x = bytes_eq x.name n && is_bare x.value

here_is : (n : List ℕ) (xs : List Note) (i : ℕ) (x : Note) → i < length xs → x ≡ get_or xs i x → has_label n (drop i xs) ≡ (is_that n x || has_label n (drop (i + 1) xs))
here_is n xs i x lt is = ap (has_label n) (at_drop_more (λ ys. ys) xs i x lt ∙ ap (λ (y : Note). y ∷ drop (i + 1) xs) (sym is))

pub label_found : (n : List ℕ) (xs : List Note) (i : ℕ) (x : Note) (c : Bool) → i < length xs → x ≡ get_or xs i x → c ≡ is_that n x → c ≡ true → has_label n xs ≡ has_label n (drop i xs) → true ≡ has_label n xs
label_found n xs i x c lt is e t h = sym (h ∙ here_is n xs i x lt is ∙ ap (λ (b : Bool). b || has_label n (drop (i + 1) xs)) (sym e ∙ t))

pub label_on : (n : List ℕ) (xs : List Note) (i : ℕ) (x : Note) (c : Bool) → i < length xs → x ≡ get_or xs i x → c ≡ is_that n x → c ≡ false → has_label n xs ≡ has_label n (drop i xs) → has_label n xs ≡ has_label n (drop (i + 1) xs)
label_on n xs i x c lt is e t h = h ∙ here_is n xs i x lt is ∙ ap (λ (b : Bool). b || has_label n (drop (i + 1) xs)) (sym e ∙ t)

pub label_none : (n : List ℕ) (xs : List Note) (i : ℕ) → length xs ≤ i → has_label n xs ≡ has_label n (drop i xs) → false ≡ has_label n xs
label_none n xs i l h = sym (h ∙ ap (has_label n) (drop_of_length-le xs l))

-- ---- parameters

secrets_both : (ps qs : List Param) → secret_parameters (ps ++ qs) ≡ secret_parameters ps ++ secret_parameters qs
secrets_both [] qs = refl
secrets_both (p ∷ ps) qs = by (is_labelled_public p.notes) (secrets_both ps qs)
  where
    by : (c : Bool) → secret_parameters (ps ++ qs) ≡ secret_parameters ps ++ secret_parameters qs → (if c then secret_parameters (ps ++ qs) else key_of (ref_of p.var) ∷ secret_parameters (ps ++ qs)) ≡ (if c then secret_parameters ps else key_of (ref_of p.var) ∷ secret_parameters ps) ++ secret_parameters qs
    by true h = h
    by false h = ap (λ ks. key_of (ref_of p.var) ∷ ks) h

but_both : (xs ys : List Key) (k : Key) → all_but (xs ++ ys) k ≡ (all_but xs k && all_but ys k)
but_both [] ys k = refl
but_both (x ∷ xs) ys k = by (not (same_key k x)) (but_both xs ys k)
  where
    by : (c : Bool) → all_but (xs ++ ys) k ≡ (all_but xs k && all_but ys k) → (c && all_but (xs ++ ys) k) ≡ ((c && all_but xs k) && all_but ys k)
    by true e = e
    by false e = refl

-- one after another
chosen_both : (c d : Bool) (m n : ℕ) → (if d then (if c then m else n) else n) ≡ (if c && d then m else n)
chosen_both true d m n = refl
chosen_both false true m n = refl
chosen_both false false m n = refl

pub public_kept : (p : Param) (n : ℕ) (t : Table) (c : Bool) → c ≡ is_labelled_public p.notes → c ≡ true → HasSecrets (p ∷ []) n t t
public_kept p n t c e h = record {
  floor = refl;
  nodes = λ k. sym (ap (λ (b : Bool). if all_but (if b then [] else key_of (ref_of p.var) ∷ []) k then nodes_of t k else n) (sym e ∙ h));
}

pub secret_put : (p : Param) (n : ℕ) (t u : Table) (c : Bool) → c ≡ is_labelled_public p.notes → c ≡ false → u.floor ≡ t.floor → nodes_of u ≡ put_node (variable_key p.var) n (nodes_of t) → HasSecrets (p ∷ []) n t u
secret_put p n t u c e h f g = record {
  floor = f;
  nodes = λ k.
      ap (λ (m : Key → ℕ). m k) g ∙ by (same_key k (variable_key p.var)) (nodes_of t k)
      ∙ sym (ap (λ (b : Bool). if all_but (if b then [] else key_of (ref_of p.var) ∷ []) k then nodes_of t k else n) (sym e ∙ h));
}
  where
    by : (b : Bool) (m : ℕ) → (if b then n else m) ≡ (if not b && true then m else n)
    by true m = refl
    by false m = refl

pub secrets_begun : (ps : List Param) (n : ℕ) (t : Table) → HasSecrets (take 0 ps) n t t
secrets_begun [] n t = record { floor = refl; nodes = λ k. refl }
secrets_begun (p ∷ ps) n t = record { floor = refl; nodes = λ k. refl }

pub secrets_next : (ps : List Param) (i : ℕ) (p : Param) (n : ℕ) (t u v : Table) → i < length ps → p ≡ get_or ps i p → HasSecrets (take i ps) n t u → HasSecrets (p ∷ []) n u v → HasSecrets (take (i + 1) ps) n t v
secrets_next ps i p n t u v lt is a b =
    subst (λ (qs : List Param). HasSecrets qs n t v) (sym (take_more ps i p lt ∙ ap (λ y. take i ps ++ y ∷ []) (sym is))) (record {
      floor = b.floor ∙ a.floor;
      nodes = λ k.
          b.nodes k ∙ ap (λ (m : ℕ). if all_but (secret_parameters (p ∷ [])) k then m else n) (a.nodes k)
          ∙ chosen_both (all_but (secret_parameters (take i ps)) k) (all_but (secret_parameters (p ∷ [])) k) (nodes_of t k) n
          ∙ sym (ap (λ (c : Bool). if c then nodes_of t k else n) (ap (λ (ks : List Key). all_but ks k) (secrets_both (take i ps) (p ∷ [])) ∙ but_both (secret_parameters (take i ps)) (secret_parameters (p ∷ [])) k));
    })

pub secrets_done : (ps : List Param) (i : ℕ) (n : ℕ) (t u : Table) → length ps ≤ i → HasSecrets (take i ps) n t u → HasSecrets ps n t u
secrets_done ps i n t u l a = subst (λ (qs : List Param). HasSecrets qs n t u) (take_all i ps l) a

-- ---- the view before the first statement

pub entry_is : (ps : List Param) (n : ℕ) (t u : Table) (w : View) (none first : List Arrow) → HasSecrets ps n t u → ((k : Key) → nodes_of t k ≡ 0) → w.nodes ≡ nodes_of u → none ≡ [] → n ≡ suc (length none) → first ≡ none ++ new_arrow (suc (length none)) ∷ []
    → w.arrows ≡ first ++ arrow_between hidden (drawn n) ∷ [] → w.asked ≡ [] → w ≡ entry_view (at_entry ps)
entry_is ps n t u w none first a z e h i f g k =
    same_view w (entry_view (at_entry ps))
    (e ∙ fun_ext (λ q. a.nodes q ∙ ap (λ (m : ℕ). if at_entry ps q then m else n) (z q) ∙ ap (λ (m : ℕ). if at_entry ps q then 0 else m) one ∙ by (at_entry ps q)))
    (g ∙ ap (λ (xs : List Arrow). xs ++ arrow_between hidden (drawn n) ∷ []) (f ∙ ap (λ (xs : List Arrow). xs ++ new_arrow (suc (length xs)) ∷ []) h) ∙ ap (λ (m : ℕ). new_arrow 1 ∷ arrow_between hidden (drawn m) ∷ []) one)
    k
  where
    one : n ≡ 1
    one = i ∙ ap (λ (xs : List Arrow). suc (length xs)) h

    by : (c : Bool) → (if c then 0 else 1) ≡ entry_node c
    by true = refl
    by false = refl
