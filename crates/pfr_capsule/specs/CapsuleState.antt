-- A capsule as contracts see it.
use Rattle.std.specs.Prelude.{ℕ, ◌-◌, List}
use Rattle.sha2.specs.Sha256.{sha256}
use Rattle.pfr_flash.specs.Bytes.{bytes_at}
use Rattle.pfr_manifest.specs.declared.manifest.Manifest.{Manifest}
use Rattle.pfr_capsule.specs.Signed.{end_of, key_of}
use Rattle.pfr_capsule.specs.declared.pages.Pages.{Pages}
use Rattle.pfr_capsule.specs.declared.signed.Signed.{Signed}
use Rattle.pfr_capsule.specs.declared.span.Span.{Span}

pub record CapsuleState : Type 0 where
  pub manifest : Manifest
  -- how many bytes the signature block and the body have, and their SHA-256
  pub length : ℕ
  pub digest : List ℕ
  -- the ids of the keys that signed the capsule and its manifest
  pub capsule_key : ℕ
  pub manifest_key : ℕ
  -- where the manifest and its block lie
  pub signed_manifest : Span
  pub pages : Pages

-- what is kept of a capsule whose pages are these
abbrev pub capsule_of : List ℕ → ℕ → Signed → Pages → CapsuleState
capsule_of image place signed pages = record {
  manifest = signed.manifest;
  length = end_of signed.capsule - place;
  digest = sha256 (bytes_at image place (end_of signed.capsule - place));
  capsule_key = key_of signed.capsule;
  manifest_key = key_of signed.inner;
  signed_manifest = record { at = signed.capsule.content_at; len = end_of signed.inner - signed.capsule.content_at };
  pages = pages;
}
