-- The page-block header of a capsule: what its 128 bytes say of the maps and the payload behind it.
use Rattle.std.specs.Prelude.{◌≡◌, ℕ, ◌+◌, ◌/◌, ◌≤◌, ◌==◌, ◌&&◌, Bool, List, length}
use Rattle.pfr_flash.specs.Bytes.{bytes_at}
use Rattle.pfr_flash.specs.Numbers.{number_at}
use Rattle.pfr_capsule.specs.declared.page_header.PageHeader.{PageHeader}

unfoldable pub page_header_of : List ℕ → PageHeader
page_header_of bytes = record {
  magic = number_at bytes 0;
  version = number_at bytes 4;
  page_size = number_at bytes 8;
  pattern_size = number_at bytes 12;
  pattern = number_at bytes 16;
  map_bits = number_at bytes 20;
  payload_len = number_at bytes 24;
}

-- its five constants
pub record IsPageHeader (header : PageHeader) : Type 0 where
  pub magic : header.magic ≡ 0x5F504243
  pub version : header.version ≡ 2
  pub page_size : header.page_size ≡ 4096
  pub pattern_size : header.pattern_size ≡ 1
  pub pattern : header.pattern ≡ 0xFF

-- the same as a test
abbrev pub has_constants : PageHeader → Bool
has_constants header =
    header.magic == 0x5F504243 && header.version == 2 && header.page_size == 4096 && header.pattern_size == 1 && header.pattern == 0xFF

-- A header at a place says that it, two maps of the bank's pages and the payload fill a body, which ends there.
pub record HasHeader (image : List ℕ) (at end : ℕ) (header : PageHeader) : Type 0 where
  pub within : at + 128 ≤ end
  pub spelled : header ≡ page_header_of (bytes_at image at 128)
  pub constants : IsPageHeader header
  pub map_bits : header.map_bits ≡ length image / 4096
  pub fills : at + 128 + header.map_bits / 8 + header.map_bits / 8 + header.payload_len ≡ end
