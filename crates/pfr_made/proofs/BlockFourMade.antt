-- A block that is put together of Block 0, the head of Block 1 and two entries.
use Rattle.std.proofs.Common.{◌≡◌, ℕ, ◌+◌, ◌≤◌, List, [], ◌∷◌, ◌++◌, length, arith, length-append}
use Rattle.pfr_flash.specs.Bytes.{bytes_at}
use Rattle.pfr_made.specs.Fields.{padded}
use Rattle.pfr_made.proofs.BlockPartsMade.{length-padded}
use Rattle.pfr_made.proofs.PiecesStand.{Stands, AllStand, padded_stands, pieces_stand, read_at, read_bytes}

module _ (a b c d : List ℕ) (nb nc nd : ℕ) (long_a : length a ≡ 128) (long_b : length b ≡ nb) (long_c : length c ≡ nc) (long_d : length d ≡ nd) (fits : 128 + nb + nc + nd ≤ 1024) where
  abbrev block : List ℕ
  block = padded 1024 (a ++ b ++ c ++ d)

  pub length-four : length (padded 1024 (a ++ b ++ c ++ d)) ≡ 1024
  length-four = length-padded 1024 (a ++ b ++ c ++ d) (simp length-append (omega (arith, long_a, long_b, long_c, long_d, fits)))

  stand : Stands block 0 a × AllStand block (length a) (b ∷ c ∷ d ∷ [])
  stand = pieces_stand block a (b ∷ c ∷ d ∷ []) (padded_stands 1024 (a ++ b ++ c ++ d))

  pub first_of_four : bytes_at (padded 1024 (a ++ b ++ c ++ d)) 0 128 ≡ a
  first_of_four = read_bytes block 0 128 a long_a stand.0

  pub second_of_four : bytes_at (padded 1024 (a ++ b ++ c ++ d)) 128 nb ≡ b
  second_of_four = read_at block (length a) 128 nb b stand.1.0 long_a long_b

  pub third_of_four : bytes_at (padded 1024 (a ++ b ++ c ++ d)) (128 + nb) nc ≡ c
  third_of_four = read_at block (length a + length b) (128 + nb) nc c stand.1.1.0 (omega (arith, long_a, long_b)) long_c

  pub fourth_of_four : bytes_at (padded 1024 (a ++ b ++ c ++ d)) (128 + nb + nc) nd ≡ d
  fourth_of_four = read_at block (length a + length b + length c) (128 + nb + nc) nd d stand.1.1.1.0 (omega (arith, long_a, long_b, long_c)) long_d
