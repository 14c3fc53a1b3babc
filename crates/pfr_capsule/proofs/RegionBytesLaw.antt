-- Where each page of a region holds what a capsule gives for it, the region holds what was hashed.
use Rattle.std.proofs.Common.{◌≡◌, ◌∙◌, ap, sym, refl, ℕ, zero, suc, ◌+◌, ◌-◌, ◌*◌, ◌/◌, ◌%◌, ◌<◌, List, ◌++◌, arith}
use Rattle.pfr_flash.proofs.PartsLemmas.{bytes_at-append}
use Rattle.pfr_flash.specs.Bytes.{bytes_at}
use Rattle.pfr_manifest.specs.Hashes.{bytes_between}
use Rattle.pfr_manifest.specs.declared.region.Region.{Region}
use Rattle.pfr_capsule.specs.Maps.{IsPageOf}
use Rattle.pfr_capsule.specs.PageBytes.{page_bytes, bytes_of_pages, region_bytes}
use Rattle.pfr_capsule.specs.Pages.{page_of}
use Rattle.pfr_capsule.specs.declared.pages.Pages.{Pages}

pages_hold : (new image : List ℕ) (pages : Pages) (first count : ℕ) → ((i : ℕ) → i < count → bytes_at new (4096 * (first + i)) 4096 ≡ page_bytes image (page_of image pages (first + i))) →
    bytes_at new (4096 * first) (4096 * count) ≡ bytes_of_pages image pages first count
unfolding bytes_of_pages
pages_hold new image pages first zero each = refl
pages_hold new image pages first (suc count) each =
    let long : 4096 * suc count ≡ 4096 * count + 4096 = omega arith in
    let place : 4096 * (first + count) ≡ 4096 * first + 4096 * count = omega arith in
    let before : bytes_at new (4096 * first) (4096 * count) ≡ bytes_of_pages image pages first count = pages_hold new image pages first count (λ i below. each i (omega arith)) in
    let last : bytes_at new (4096 * first + 4096 * count) 4096 ≡ page_bytes image (page_of image pages (first + count)) = rw place at (each count (omega arith)) in
    rw long (sym (bytes_at-append new (4096 * first) (4096 * count) 4096) ∙ ap (λ (bytes : List ℕ). bytes ++ bytes_at new (4096 * first + 4096 * count) 4096) before ∙ ap (λ (bytes : List ℕ). bytes_of_pages image pages first count ++ bytes) last)

pub region_holds : (new image : List ℕ) (pages : Pages) (region : Region) → region.start % 4096 ≡ 0 → region.end % 4096 ≡ 0 →
    ((n : ℕ) → IsPageOf region n → bytes_at new (4096 * n) 4096 ≡ page_bytes image (page_of image pages n)) → bytes_between new region.start region.end ≡ region_bytes image pages region
region_holds new image pages region start end each =
    let place : 4096 * (region.start / 4096) ≡ region.start = omega arith in
    let long : 4096 * (region.end / 4096 - region.start / 4096) ≡ region.end - region.start = omega arith in
    let is : bytes_at new (4096 * (region.start / 4096)) (4096 * (region.end / 4096 - region.start / 4096)) ≡ bytes_of_pages image pages (region.start / 4096) (region.end / 4096 - region.start / 4096) =
    pages_hold new image pages (region.start / 4096) (region.end / 4096 - region.start / 4096) (λ i below. each (region.start / 4096 + i) (record { low = omega arith; high = omega arith })) in
    rw (place, long) at is
