-- A block that is put together of Block 0, the head of Block 1 and one entry.
use Rattle.std.proofs.Common.{◌≡◌, ℕ, ◌+◌, ◌≤◌, List, [], ◌∷◌, ◌++◌, length, arith, length-append}
use Rattle.pfr_flash.specs.Bytes.{bytes_at}
use Rattle.pfr_made.specs.Fields.{padded}
use Rattle.pfr_made.proofs.BlockPartsMade.{length-padded}
use Rattle.pfr_made.proofs.PiecesStand.{padded_stands, pieces_stand, read_at, read_bytes}

-- the parts of such a block
pub record HasThree (a b c : List ℕ) (nb nc : ℕ) (block : List ℕ) : Type 0 where
  pub long : length block ≡ 1024
  pub first : bytes_at block 0 128 ≡ a
  pub head : bytes_at block 128 nb ≡ b
  pub last : bytes_at block (128 + nb) nc ≡ c

pub has_three : (a b c : List ℕ) (nb nc : ℕ) → length a ≡ 128 → length b ≡ nb → length c ≡ nc → 128 + nb + nc ≤ 1024 → HasThree a b c nb nc (padded 1024 (a ++ b ++ c))
has_three a b c nb nc long_a long_b long_c fits =
    let block : List ℕ = padded 1024 (a ++ b ++ c) in
    let stand = pieces_stand block a (b ∷ c ∷ []) (padded_stands 1024 (a ++ b ++ c)) in
    record {
      long = length-padded 1024 (a ++ b ++ c) (simp length-append (omega (arith, long_a, long_b, long_c, fits)));
      first = read_bytes block 0 128 a long_a stand.0;
      head = read_at block (length a) 128 nb b stand.1.0 long_a long_b;
      last = read_at block (length a + length b) (128 + nb) nc c stand.1.1.0 (omega (arith, long_a, long_b)) long_c;
    }
