-- What the image of a checked bank holds for as long as nobody writes it.
use Rattle.std.specs.Prelude.{ℕ, ◌+◌, List, length, All}
use Rattle.pfr_flash.specs.Bytes.{bytes_at}
use Rattle.pfr_flash.specs.Layout.{IsValidLayout}
use Rattle.pfr_flash.specs.declared.layout.Layout.{Layout}
use Rattle.pfr_flash.specs.declared.names.ContentType.{ContentType}
use Rattle.pfr_chain.specs.Block.{BlockAt, head_at, content_length}
use Rattle.pfr_manifest.specs.Manifest.{IsManifestOf}
use Rattle.pfr_manifest.specs.declared.manifest.Manifest.{Manifest}
use Rattle.pfr_auth.specs.Regions.{IsHashed}

-- The layout fits the bank, its manifest area holds a signature block whose content spells this manifest, and each region has its
-- hash.
pub record StillSpells (image : List ℕ) (m : Manifest) (layout : Layout) : Type 0 where
  pub valid : IsValidLayout layout (length image)
  pub type : ContentType
  pub blen : ℕ
  pub block : BlockAt image layout.manifest_at layout.manifest_len type blen
  pub spelled : IsManifestOf (bytes_at image (layout.manifest_at + blen) (content_length (head_at image layout.manifest_at))) m layout (length image)
  pub hashed : All (IsHashed image) m.regions
