-- Parts that are pushed.
use Rattle.std.proofs.Common.{◌≡◌, ℕ, ◌+◌, ◌<◌, ◌≤◌, List, [], ◌∷◌, ◌++◌, map, length, take, get_or, sym, ap, ◌∙◌, append_assoc}
use Rattle.std.proofs.lemmas.List.{take_more, take_all, map-append}
use Rattle.jz_tree.specs.Span.{Span}
use Rattle.jz_tree.specs.declared.expr.Expr.{Expr}
use Rattle.jz_terms.specs.Terms.{term_of}
use Rattle.jz_required.specs.declared.part.Part.{Part}
use Rattle.jz_required.specs.declared.part.Reason.{Reason}
use Rattle.jz_required.specs.declared.part.Required.{Required}
use Rattle.jz_required.specs.declared.found.Found.{Found}
use Rattle.jz_required.specs.Readings.{Demand, Reading, demands_at, reading, all_readings, both_readings}
use Rattle.jz_required.specs.Kept.{demand_of, origin_of, origins_of, demands_of, reason_of, reading_of}
use Rattle.jz_required.proofs.Assigning.{readings_both, then_nothing}

pub demands_both : (xs ys : List Required) → demands_of (xs ++ ys) ≡ demands_of xs ++ demands_of ys
demands_both xs ys = map-append demand_of xs ys

pub origins_both : (xs ys : List Part) → origins_of (xs ++ ys) ≡ origins_of xs ++ origins_of ys
origins_both xs ys = map-append origin_of xs ys

at_both : (at : Span) (why : Reason) (ps qs : List Part) → demands_at at (reason_of why) (origins_of (ps ++ qs)) ≡ demands_at at (reason_of why) (origins_of ps) ++ demands_at at (reason_of why) (origins_of qs)
at_both at why ps qs = ap (demands_at at (reason_of why)) (origins_both ps qs) ∙ map-append (λ o. record { span = at; why = reason_of why; origin = o }) (origins_of ps) (origins_of qs)

pub one_demand : (ps : List Part) (i : ℕ) (p : Part) (at : Span) (why : Reason) (old : List Demand) (now new : List Required) → i < length ps → p ≡ get_or ps i p → new ≡ now ++ record { span = at; why = why; part = p } ∷ []
    → demands_of now ≡ old ++ demands_at at (reason_of why) (origins_of (take i ps)) → demands_of new ≡ old ++ demands_at at (reason_of why) (origins_of (take (i + 1) ps))
one_demand ps i p at why old now new lt is e h =
    ap demands_of e ∙ demands_both now (record { span = at; why = why; part = p } ∷ []) ∙ ap (λ l. l ++ demands_of (record { span = at; why = why; part = p } ∷ [])) h
    ∙ append_assoc old (demands_at at (reason_of why) (origins_of (take i ps))) (demands_at at (reason_of why) (origins_of (p ∷ [])))
    ∙ ap (λ l. old ++ l) (sym (at_both at why (take i ps) (p ∷ [])) ∙ ap (λ l. demands_at at (reason_of why) (origins_of l)) (sym (take_more ps i p lt ∙ ap (λ x. take i ps ++ x ∷ []) (sym is))))

pub all_demands : (ps : List Part) (i : ℕ) (at : Span) (why : Reason) (old : List Demand) (now : List Required) → length ps ≤ i
    → demands_of now ≡ old ++ demands_at at (reason_of why) (origins_of (take i ps)) → demands_of now ≡ old ++ demands_at at (reason_of why) (origins_of ps)
all_demands ps i at why old now l h = h ∙ ap (λ x. old ++ demands_at at (reason_of why) (origins_of x)) (take_all i ps l)

-- readings of lists
same_reading : (a b : Reading) → a.origins ≡ b.origins → a.demands ≡ b.demands → a ≡ b
same_reading a b p q = λ i. record { origins = p i; demands = q i }

pub both_found : (f g h : Found) → h.parts ≡ f.parts ++ g.parts → h.required ≡ f.required ++ g.required → reading_of h ≡ both_readings (reading_of f) (reading_of g)
both_found f g h p q =
    same_reading (reading_of h) (both_readings (reading_of f) (reading_of g)) (ap origins_of p ∙ origins_both f.parts g.parts) (ap demands_of q ∙ demands_both f.required g.required)

-- one argument more
pub one_argument_more : (es : List Expr) (i : ℕ) (e : Expr) (now read new : Reading) → i < length es → e ≡ get_or es i e → read ≡ reading (term_of e) → new ≡ both_readings now read
    → now ≡ all_readings (map term_of (take i es)) → new ≡ all_readings (map term_of (take (i + 1) es))
one_argument_more es i e now read new lt is p q h =
    q ∙ ap (λ r. both_readings r read) h ∙ ap (both_readings (all_readings (map term_of (take i es)))) (p ∙ sym (then_nothing (reading (term_of e)))) ∙ sym (readings_both (map term_of (take i es)) (term_of e ∷ []))
    ∙ ap all_readings (sym (ap (map term_of) (take_more es i e lt ∙ ap (λ x. take i es ++ x ∷ []) (sym is)) ∙ map-append term_of (take i es) (e ∷ [])))
