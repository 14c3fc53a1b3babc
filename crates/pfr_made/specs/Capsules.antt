-- The capsule that is made of a bank's description and its active image.
use Rattle.std.specs.Prelude.{ℕ, ◌/◌, List, ◌++◌, length}
use Rattle.pfr_flash.specs.Names.{capsule_type}
use Rattle.pfr_flash.specs.declared.names.Bank.{Bank}
use Rattle.pfr_description.specs.Banks.{bank_of}
use Rattle.pfr_made.specs.Blocks.{signed_bytes, signed_rows}
use Rattle.pfr_made.specs.Fields.{number_bytes, padded}
use Rattle.pfr_made.specs.Images.{signed_manifest}
use Rattle.pfr_made.specs.Pages.{map_bytes, payload_of}
use Rattle.pfr_description.specs.Described.{BankDescription}
use Rattle.pfr_description.specs.Described.{Description}
use Rattle.pfr_made.specs.declared.page_map.PageMap.TheVariants as maps

-- how many pages a bank has
abbrev pub page_count : BankDescription → ℕ
page_count part = part.size / 4096

-- the page-block header: magic, version, page size, pattern size, pattern, the maps' bits, the payload's length
unfoldable pub page_header : ℕ → ℕ → List ℕ
page_header map_bits payload_len = padded 128 (number_bytes 0x5F504243 ++ number_bytes 2 ++ number_bytes 4096 ++ number_bytes 1
    ++ number_bytes 0xFF ++ number_bytes map_bits ++ number_bytes payload_len)

-- header, erase map, copy map and payload
unfoldable pub pages_bytes : BankDescription → List ℕ → List ℕ
pages_bytes part active = page_header (page_count part) (length (payload_of part active (page_count part)))
    ++ map_bytes part maps.Erase (page_count part / 8) ++ map_bytes part maps.Copy (page_count part / 8)
    ++ payload_of part active (page_count part)

-- what the capsule's block signs
unfoldable pub capsule_body : Description → Bank → List ℕ → List ℕ
capsule_body desc bank active = signed_manifest desc bank active ++ pages_bytes (bank_of desc bank) active

-- the capsule, and the rows of its signatures
unfoldable pub signed_capsule : Description → Bank → List ℕ → List ℕ
signed_capsule desc bank active =
    signed_bytes desc (bank_of desc bank).capsule_key (capsule_type bank) (capsule_body desc bank active)

unfoldable pub capsule_rows : Description → Bank → List ℕ → List ℕ
capsule_rows desc bank active =
    signed_rows desc (bank_of desc bank).capsule_key (capsule_type bank) (capsule_body desc bank active)
