-- The payload that is made: the copied pages one behind the other, and where each of them stands.
use Rattle.std.proofs.Common.{◌≡◌, ◌∙◌, ap, sym, refl, ℕ, zero, suc, ◌+◌, ◌*◌, ◌<◌, ◌≤◌, Bool, true, false, if◌then◌else◌, List, [], ◌++◌, length, length-append, arith, ⊎_elim}
use Rattle.std.proofs.lemmas.Bool.{cases_lt, cond-true}
use Rattle.pfr_flash.specs.Bytes.{bytes_at}
use Rattle.pfr_flash.proofs.BytesLemmas.{length-bytes_at}
use Rattle.pfr_capsule.specs.Maps.{map_bit, count_before}
use Rattle.pfr_capsule.proofs.CountLaws.{counted}
use Rattle.pfr_description.specs.Described.{BankDescription}
use Rattle.pfr_made.specs.Pages.{page_bit, page_payload, payload_of}
use Rattle.pfr_made.proofs.BlockPartsMade.{in_front, last_part}
use Rattle.pfr_made.specs.declared.page_map.PageMap.TheVariants as maps

-- ---- what one page adds
length-if : (b : Bool) (bytes : List ℕ) → length bytes ≡ 4096 → length (if b then bytes else []) ≡ 4096 * (if b then 1 else 0)
length-if true bytes h = h
length-if false bytes h = refl

-- ---- the payload, over a map with the copied pages' bits
module _ (part : BankDescription) (active copy : List ℕ) (pages : ℕ) (bits : (n : ℕ) → n < pages → map_bit copy n ≡ page_bit part maps.Copy n) where
  length-page_payload : (n : ℕ) → 4096 * n + 4096 ≤ length active → n < pages → length (page_payload part active n) ≡ 4096 * (if map_bit copy n then 1 else 0)
  length-page_payload n inside h =
      rw (bits n h) (length-if (page_bit part maps.Copy n) (bytes_at active (4096 * n) 4096) (length-bytes_at active (4096 * n) 4096 inside))

  pub length-payload_of : (n : ℕ) → 4096 * n ≤ length active → n ≤ pages → length (payload_of part active n) ≡ 4096 * count_before copy n
  unfolding payload_of count_before
  length-payload_of zero inside h = refl
  length-payload_of (suc n) inside h =
      let front : length (payload_of part active n) ≡ 4096 * count_before copy n = length-payload_of n (omega arith) (omega arith) in
      let page : length (page_payload part active n) ≡ 4096 * (if map_bit copy n then 1 else 0) = length-page_payload n (omega arith) (omega arith) in
      omega (arith, length-append (payload_of part active n) (page_payload part active n))

  -- Page n, if it is copied, stands behind those that are copied before it.
  pub page_brought : (m n : ℕ) → n < m → 4096 * m ≤ length active → m ≤ pages → page_bit part maps.Copy n ≡ true
      → bytes_at (payload_of part active m) (4096 * count_before copy n) 4096 ≡ bytes_at active (4096 * n) 4096
  unfolding payload_of
  page_brought zero n before inside h copied = absurd (omega arith)
  page_brought (suc m) n before inside h copied = ⊎_elim (λ k. earlier k (page_brought m n k (omega arith) (omega arith) copied)) (λ k. last k) (cases_lt n m)
    where
      long : length (payload_of part active m) ≡ 4096 * count_before copy m
      long = length-payload_of m (omega arith) (omega arith)

      earlier : n < m → bytes_at (payload_of part active m) (4096 * count_before copy n) 4096 ≡ bytes_at active (4096 * n) 4096
          → bytes_at (payload_of part active m ++ page_payload part active m) (4096 * count_before copy n) 4096 ≡ bytes_at active (4096 * n) 4096
      earlier k e =
          let has : map_bit copy n ≡ true = bits n (omega arith) ∙ copied in
          in_front (payload_of part active m) (page_payload part active m) (4096 * count_before copy n) 4096 (omega (arith, long, counted copy n m k has)) ∙ e

      last : m ≤ n → bytes_at (payload_of part active m ++ page_payload part active m) (4096 * count_before copy n) 4096 ≡ bytes_at active (4096 * n) 4096
      last k =
          let e : n ≡ m = omega arith in
          let here : page_bit part maps.Copy m ≡ true = ap (λ (j : ℕ). page_bit part maps.Copy j) (sym e) ∙ copied in
          let page : page_payload part active m ≡ bytes_at active (4096 * m) 4096 = cond-true (page_bit part maps.Copy m) (bytes_at active (4096 * m) 4096) [] here in
          rw (e, page) (last_part (payload_of part active m) (bytes_at active (4096 * m) 4096) (4096 * count_before copy m) 4096 long (length-bytes_at active (4096 * m) 4096 (omega arith)))
