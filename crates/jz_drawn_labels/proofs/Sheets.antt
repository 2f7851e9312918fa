-- Edges and asked labels that are pushed.
use Rattle.std.proofs.Common.{◌≡◌, ℕ, suc, ◌+◌, ◌<◌, ◌≤◌, List, [], ◌∷◌, ◌++◌, map, length, take, get_or, refl, sym, ap, ◌∙◌, arith, append_assoc}
use Rattle.std.proofs.lemmas.List.{take_more, take_all, map-append}
use Rattle.jz_meaning.specs.States.{Key}
use Rattle.jz_required.specs.declared.part.Part.{Part}
use Rattle.jz_required.specs.declared.part.Required.{Required}
use Rattle.jz_required.specs.Readings.{Origin, Demand}
use Rattle.jz_required.specs.Kept.{origin_of, origins_of, demand_of, demands_of}
use Rattle.jz_secrets.specs.declared.edge.Edge.{Edge}
use Rattle.jz_secrets.specs.declared.edge.Node.{Node}
use Rattle.jz_secrets.specs.Graphs.{Vertex, drawn, Arrow, vertex_of, arrow_of, arrows_of}
use Rattle.jz_drawing.specs.Drawings.{Asked, vertex_in, ask_in, asks_in, arrow_between, new_arrow, arrows_from}
use Rattle.jz_drawn_labels.specs.declared.sheet.Ask.{Ask}
use Rattle.jz_drawn_labels.specs.Kept.{asked_of}

pub arrows_pushed : (xs ys : List Edge) (x : Edge) → ys ≡ xs ++ x ∷ [] → arrows_of ys ≡ arrows_of xs ++ arrow_of x ∷ []
arrows_pushed xs ys x e = ap arrows_of e ∙ map-append arrow_of xs (x ∷ [])

pub arrows_long : (xs : List Edge) → length (arrows_of xs) ≡ length xs
arrows_long [] = refl
arrows_long (x ∷ xs) = ap suc (arrows_long xs)

-- the next label
pub next_is : (xs : List Edge) (n : ℕ) → n ≡ length xs + 1 → n ≡ suc (length (arrows_of xs))
next_is xs n e = let l = arrows_long xs in omega (arith, e, l)

pub fresh_is : (xs ys : List Edge) (n : ℕ) → n ≡ length xs + 1 → arrows_of ys ≡ arrows_of xs ++ arrow_between (drawn 0) (drawn n) ∷ [] → arrows_of ys ≡ arrows_of xs ++ new_arrow (suc (length (arrows_of xs))) ∷ []
fresh_is xs ys n e h = h ∙ ap (λ (m : ℕ). arrows_of xs ++ new_arrow m ∷ []) (next_is xs n e)

-- ---- one part more

origins_next : (ps : List Part) (i : ℕ) (p : Part) → i < length ps → p ≡ get_or ps i p → origins_of (take (i + 1) ps) ≡ origins_of (take i ps) ++ origin_of p ∷ []
origins_next ps i p lt is = ap origins_of (take_more ps i p lt ∙ ap (λ y. take i ps ++ y ∷ []) (sym is)) ∙ map-append origin_of (take i ps) (p ∷ [])

arrows_both : (e : Key → ℕ) (n : ℕ) (os qs : List Origin) → arrows_from e (os ++ qs) n ≡ arrows_from e os n ++ arrows_from e qs n
arrows_both e n os qs = map-append (λ o. arrow_between (vertex_in e o) (drawn n)) os qs

pub linked_next : (e : Key → ℕ) (n : ℕ) (ps : List Part) (i : ℕ) (p : Part) (v : Vertex) (old now new : List Arrow) → i < length ps → p ≡ get_or ps i p → v ≡ vertex_in e (origin_of p) → new ≡ now ++ arrow_between v (drawn n) ∷ []
    → now ≡ old ++ arrows_from e (origins_of (take i ps)) n → new ≡ old ++ arrows_from e (origins_of (take (i + 1) ps)) n
linked_next e n ps i p v old now new lt is at h k =
    h ∙ ap (λ (w : Vertex). now ++ arrow_between w (drawn n) ∷ []) at ∙ ap (λ (xs : List Arrow). xs ++ arrow_between (vertex_in e (origin_of p)) (drawn n) ∷ []) k
    ∙ append_assoc old (arrows_from e (origins_of (take i ps)) n) (arrow_between (vertex_in e (origin_of p)) (drawn n) ∷ [])
    ∙ ap (λ (xs : List Arrow). old ++ xs) (sym (arrows_both e n (origins_of (take i ps)) (origin_of p ∷ [])) ∙ ap (λ os. arrows_from e os n) (sym (origins_next ps i p lt is)))

pub linked_all : (e : Key → ℕ) (n : ℕ) (ps : List Part) (i : ℕ) (old now : List Arrow) → length ps ≤ i → now ≡ old ++ arrows_from e (origins_of (take i ps)) n → now ≡ old ++ arrows_from e (origins_of ps) n
linked_all e n ps i old now l k = k ∙ ap (λ qs. old ++ arrows_from e (origins_of qs) n) (take_all i ps l)

-- ---- one demand more

demands_next : (ds : List Required) (i : ℕ) (d : Required) → i < length ds → d ≡ get_or ds i d → demands_of (take (i + 1) ds) ≡ demands_of (take i ds) ++ demand_of d ∷ []
demands_next ds i d lt is = ap demands_of (take_more ds i d lt ∙ ap (λ y. take i ds ++ y ∷ []) (sym is)) ∙ map-append demand_of (take i ds) (d ∷ [])

asks_both : (e : Key → ℕ) (xs ys : List Demand) → asks_in e (xs ++ ys) ≡ asks_in e xs ++ asks_in e ys
asks_both e xs ys = map-append (ask_in e) xs ys

pub asked_next : (e : Key → ℕ) (ds : List Required) (i : ℕ) (d : Required) (at : Node) (old : List Asked) (now new : List Ask) → i < length ds → d ≡ get_or ds i d → vertex_of at ≡ vertex_in e (origin_of d.part) → new ≡ now ++ record { at = at; required = d } ∷ []
    → map asked_of now ≡ old ++ asks_in e (demands_of (take i ds)) → map asked_of new ≡ old ++ asks_in e (demands_of (take (i + 1) ds))
asked_next e ds i d at old now new lt is v h k =
    ap (map asked_of) h ∙ map-append asked_of now (record { at = at; required = d } ∷ [])
    ∙ ap (λ (w : Vertex). map asked_of now ++ record { at = w; demand = demand_of d } ∷ []) v
    ∙ ap (λ (xs : List Asked). xs ++ ask_in e (demand_of d) ∷ []) k
    ∙ append_assoc old (asks_in e (demands_of (take i ds))) (ask_in e (demand_of d) ∷ [])
    ∙ ap (λ (xs : List Asked). old ++ xs) (sym (asks_both e (demands_of (take i ds)) (demand_of d ∷ [])) ∙ ap (asks_in e) (sym (demands_next ds i d lt is)))

pub asked_all : (e : Key → ℕ) (ds : List Required) (i : ℕ) (old now : List Asked) → length ds ≤ i → now ≡ old ++ asks_in e (demands_of (take i ds)) → now ≡ old ++ asks_in e (demands_of ds)
asked_all e ds i old now l k = k ∙ ap (λ qs. old ++ asks_in e (demands_of qs)) (take_all i ds l)
