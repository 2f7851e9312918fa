-- Two runs of one body side by side: each part leaks the same numbers from both states and answers
-- alike, or both are stuck there.
use Rattle.std.specs.Prelude.{◌≡◌, ℕ, ℤ, Bool, true, false, not, ◌&&◌, if◌then◌else◌, List, [], ◌∷◌, ⊤}
use Rattle.std.specs.Ordering.{int_eq}
use Rattle.std.specs.Str.{bytes_eq}
use Rattle.jz_leak.specs.RunLeaks.{Leak}
use Rattle.jz_runs.specs.Trees.{Tree}
use Rattle.jz_runs.specs.Rules.{Attempt, stuck, went, Parts, Outcome, End, Cut, Stuck, Goes}

-- both with the same numbers
abbrev pub together : {W A B : Type 0} → Attempt W A → Attempt W B → Attempt ⊤ (A × B)
together (went ns a) (went ms b) = if bytes_eq ns ms then went ns (a, b) else stuck tt
together (went ns a) (stuck w) = stuck tt
together (stuck v) y = stuck tt

-- and one answer
abbrev pub alike : {A : Type 0} → (A → A → Bool) → Attempt ⊤ (A × A) → Attempt ⊤ A
alike same (went ns p) = if same p.0 p.1 then went ns p.0 else stuck tt
alike same (stuck w) = stuck tt

abbrev pub same_answer : Bool → Bool → Bool
same_answer true z = z
same_answer false z = not z

abbrev pub same_values : List ℤ → List ℤ → Bool
same_values [] [] = true
same_values (i ∷ is) (j ∷ js) = int_eq i j && same_values is js
same_values _ _ = false

abbrev pub two :
    {O T F C S W : Type 0} → Parts O T F C S W → Parts O T F C (S × S) ⊤
two M = record {
  does = λ o s. together (M.does o s.0) (M.does o s.1);
  quiets = λ o s. (M.quiets o s.0, M.quiets o s.1);
  tests = λ p s. alike same_answer (together (M.tests p s.0) (M.tests p s.1));
  settled = λ p s. (M.settled p s.0, M.settled p s.1);
  counts = λ f s. alike same_values (together (M.counts f s.0) (M.counts f s.1));
  begins = λ f i s. (M.begins f i s.0, M.begins f i s.1);
  restores = λ f s t. (M.restores f s.0 t.0, M.restores f s.1 t.1);
  enters = λ q s. together (M.enters q s.0) (M.enters q s.1);
  leaves = λ q s t. together (M.leaves q s.0 t.0) (M.leaves q s.1 t.1);
}

abbrev pub NotStuck : {S W L : Type 0} → Outcome S W L → Type 0
NotStuck (End s n l) = ⊤
NotStuck (Cut l) = ⊤
NotStuck (Stuck w) = ⊥

-- the two runs with so many turns go side by side to their ends, or are cut
pub record GoTogether {O T F C S W : Type 0} (M : Parts O T F C S W) (b : Tree O T F C) (n : ℕ)
    (s t : S) : Type 0 where
  pub out : Outcome (S × S) ⊤ Leak
  pub goes : Goes (two M) b n (s, t) out
  pub whole : NotStuck out

-- both at the end, with as many turns left, or both cut; with the same leak
abbrev pub SameLeak : {S V W L : Type 0} → Outcome S W L → Outcome V W L → Type 0
SameLeak (End s n l) (End t m k) = (n ≡ m) × (l ≡ k)
SameLeak (Cut l) (Cut k) = l ≡ k
SameLeak _ _ = ⊥
