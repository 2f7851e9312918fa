-- Reading so many bytes where each is below 256.
use Rattle.std.proofs.Common.{◌≡◌, ℕ, zero, suc, ◌<◌, ◌≤◌, List, [], ◌∷◌, length, get_or, take, drop, Result, Ok, Err, refl, arith}
use Rattle.std.proofs.lemmas.Bool.{lt-ltb}
use Rattle.x64_decode.specs.declared.reading.Stop.{Stop}
use Rattle.x64_decode.specs.declared.reading.Stop.TheVariants.{Short}
use Rattle.x64_decode.specs.ByteReading.{through, byte_where, some_bytes, follow}

-- one byte, and then n
more : (n b : ℕ) (bs : List ℕ) (r : Result (List ℕ × List ℕ) Stop) → b < 256 → some_bytes n bs ≡ r → some_bytes (suc n) (b ∷ bs) ≡ through (λ (ys : List ℕ). b ∷ ys) r
unfolding some_bytes follow byte_where
more n b bs (Ok y) h e = rw (lt-ltb b 256 h) (rw e refl)
more n b bs (Err f) h e = rw (lt-ltb b 256 h) (rw e refl)

pub bytes_enough : (n : ℕ) (bs : List ℕ) → ((i : ℕ) → get_or bs i 0 < 256) → n ≤ length bs → some_bytes n bs ≡ Ok (take n bs, drop n bs)
unfolding some_bytes
bytes_enough zero bs fits le = refl
bytes_enough (suc n) [] fits le = absurd (omega arith)
bytes_enough (suc n) (b ∷ bs) fits le = more n b bs _ (fits 0) (bytes_enough n bs (λ i. fits (suc i)) (omega arith))

pub bytes_few : (n : ℕ) (bs : List ℕ) → ((i : ℕ) → get_or bs i 0 < 256) → length bs < n → some_bytes n bs ≡ Err Short
unfolding some_bytes follow byte_where
bytes_few zero bs fits lt = absurd (omega arith)
bytes_few (suc n) [] fits lt = refl
bytes_few (suc n) (b ∷ bs) fits lt = more n b bs _ (fits 0) (bytes_few n bs (λ i. fits (suc i)) (omega arith))
