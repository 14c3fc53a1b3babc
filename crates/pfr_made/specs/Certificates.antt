-- Certificates, which cancel keys.
use Rattle.std.specs.Prelude.{ℕ, List}
use Rattle.pfr_flash.specs.declared.names.ContentType.{ContentType}
use Rattle.pfr_cert.specs.Certificate.{cancelling}
use Rattle.pfr_made.specs.Blocks.{root_signed_bytes, root_signed_row}
use Rattle.pfr_made.specs.Fields.{number_bytes, padded}
use Rattle.pfr_description.specs.Described.{Description}

-- what a certificate's block signs: the key's id, and zeros up to 128 bytes
unfoldable pub certificate_body : ℕ → List ℕ
certificate_body id = padded 128 (number_bytes id)

-- the certificate that cancels the key of this id for a signing type, and the row of the root's signature
abbrev pub certificate_bytes : Description → ContentType → ℕ → List ℕ
certificate_bytes desc type id = root_signed_bytes desc (cancelling type) (certificate_body id)

abbrev pub certificate_row : Description → ContentType → ℕ → List ℕ
certificate_row desc type id = root_signed_row desc (cancelling type) (certificate_body id)
